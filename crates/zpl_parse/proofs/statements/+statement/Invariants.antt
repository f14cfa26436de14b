use Rattle.std.proofs.Common.{ℕ, ◌+◌, ◌*◌, ◌<◌, ◌≤◌, length}
use Rattle.zpl_grammar.specs.Lexeme.{lexemes_of, head_at, behind}
use Rattle.zpl_parse.specs.Statements.{stmt, stmts, arms}
use Rattle.zpl_parse.specs.Whole.{any_expr}
use Rattle.zpl_parse.proofs.Loops.{IsGathered}
use Rattle.zpl_parse.proofs.Lists.{put_stmt, put_arm}
use Rattle.zpl_parse.proofs.statements.+statement.Given as goal

abbrev pub invariant-stmts-loop-alloc : goal.invariant-stmts-loop-alloc
invariant-stmts-loop-alloc l = record {
  within : length l.rest ≤ length l.fn.tokens;
  gathered : (few most : ℕ) → length l.fn.tokens < few → length l.fn.tokens < most
      → IsGathered put_stmt (λ fuel lexemes. stmts fuel (stmt few (any_expr most) l.deep) lexemes) few (lexemes_of l.bytes l.fn.tokens) l.stmts.items (lexemes_of l.bytes l.rest) (length l.rest);
}

abbrev pub decreases-stmts-loop-alloc : goal.decreases-stmts-loop-alloc
decreases-stmts-loop-alloc l = length l.rest

abbrev pub invariant-arms-loop-arms : goal.invariant-arms-loop-arms
invariant-arms-loop-arms l = record {
  within : length l.rest ≤ length l.fn.tokens;
  gathered : (few most : ℕ) → length l.fn.tokens < few → length l.fn.tokens < most
      → IsGathered put_arm (λ fuel lexemes. arms fuel (any_expr most) (stmts few (stmt few (any_expr most) l.deep)) (head_at lexemes) (behind lexemes)) few (lexemes_of l.bytes l.fn.tokens) l.arms.items (lexemes_of l.bytes l.rest) (length l.rest);
}

abbrev pub decreases-arms-loop-arms : goal.decreases-arms-loop-arms
decreases-arms-loop-arms l = length l.rest

abbrev pub decreases-stmt : goal.decreases-stmt
decreases-stmt l = 8 * l.deep

abbrev pub decreases-stmts : goal.decreases-stmts
decreases-stmts l = 8 * l.deep + 1

abbrev pub decreases-body_end : goal.decreases-body_end
decreases-body_end l = 8 * l.deep + 2

abbrev pub decreases-arm : goal.decreases-arm
decreases-arm l = 8 * l.deep + 2

abbrev pub decreases-otherwise : goal.decreases-otherwise
decreases-otherwise l = 8 * l.deep + 2

abbrev pub decreases-repeat_loop : goal.decreases-repeat_loop
decreases-repeat_loop l = 8 * l.deep + 2

abbrev pub decreases-while_loop : goal.decreases-while_loop
decreases-while_loop l = 8 * l.deep + 3

abbrev pub decreases-for_loop : goal.decreases-for_loop
decreases-for_loop l = 8 * l.deep + 3

abbrev pub decreases-arms : goal.decreases-arms
decreases-arms l = 8 * l.deep + 3

abbrev pub decreases-choice : goal.decreases-choice
decreases-choice l = 8 * l.deep + 4

abbrev pub decreases-form : goal.decreases-form
decreases-form l = 8 * l.deep + 5
