-- The levels of operators between two operands, and the rules of each.
use Rattle.std.specs.Prelude.{Bool, true, false, Option, Some, None}
use Rattle.zpl_nums.specs.declared.operators.Op.{Op}
use Rattle.zpl_tokens.specs.declared.Kind.{Kind}
use Rattle.zpl_tree.specs.Syntax.{Expr}
use Rattle.zpl_parse.specs.declared.classes.Level.{Level}
use Rattle.zpl_parse.specs.declared.classes.Level.TheVariants as level
use Rattle.zpl_parse.specs.Classes.{or_op, and_op, comp_op, sum_op, term_op}
use Rattle.zpl_parse.specs.Outcome.{Reader}
use Rattle.zpl_parse.specs.Expressions.{Levels}

-- the operator of a level that a token is
abbrev pub operator_of : Level → Kind → Option Op
operator_of level.Or = or_op
operator_of level.And = and_op
operator_of level.Comparison = comp_op
operator_of level.Sum = sum_op
operator_of level.Term = term_op

-- the rule of a level
abbrev pub of_level : Level → Levels → Reader Expr
of_level level.Or rules = rules.expr
of_level level.And rules = rules.conj
of_level level.Comparison rules = rules.comp
of_level level.Sum rules = rules.sum
of_level level.Term rules = rules.term

-- the level of what stands between the operators of a level, or none where that is unary
abbrev pub below_of : Level → Option Level
below_of level.Or = Some level.And
below_of level.And = Some level.Comparison
below_of level.Comparison = Some level.Sum
below_of level.Sum = Some level.Term
below_of level.Term = None

-- the rule of what stands between the operators of a level
abbrev pub operand_by : Option Level → Levels → Reader Expr
operand_by (Some below) rules = of_level below rules
operand_by None rules = rules.unary

abbrev pub operand_of : Level → Levels → Reader Expr
operand_of level = operand_by (below_of level)

-- one operator of the level alone stands between two operands
abbrev pub is_alone : Level → Bool
is_alone level.Comparison = true
is_alone _ = false
