use Rattle.std.proofs.Common.{◌≡◌, [], ◌∷◌, rules}
use Rattle.zpl_nums.specs.Fold.{unit_of}
use Rattle.node_form.specs.declared.words.ExprOp.TheVariants.{Const}
use Rattle.lower_regions.specs.of_lower_places.View.{slotted_of}
use Rattle.lower_operators.proofs.OperatorLemmas.{folded, folded-left}
use Rattle.lower_operators.proofs.folding.fold_over.Goals as goal

pub returns-clause-rows : goal.returns-clause-rows
returns-clause-rows c = λ start hoisted is.
    folded c.args.numbers.now c.args.line c.args.fold (slotted_of c.args.over.now) start
    c.args.draft.now c.add_scalar.new.self c.push.new.self c.push_loop.new.draft
    c.push_plain.new.draft hoisted c.in_ok-scalar.scalar c.in_ok-expr.expr c.args.operand
    c.in_ok-mask.mask is c.in_ok-scalar.ensures.number
    (let one : c.in_ok-expr.expr ≡ Const (unit_of c.args.fold) ∷ [] = search rules in one)
    c.in_ok-mask.ensures
    c.in_ok-scalar.ensures.added c.in_ok-push.ensures c.in_ok-push_loop.ensures
    c.in_ok-push_plain.ensures

pub returns-clause-left : goal.returns-clause-left
returns-clause-left c = λ start hoisted is.
    folded-left c.args.numbers.now c.args.line c.args.fold (slotted_of c.args.over.now) start
    c.args.draft.now hoisted c.in_ok-scalar.scalar c.args.operand is
    c.in_ok-scalar.ensures.number
