use Rattle.std.proofs.Common.{ℕ, ◌<◌, ◌≤◌, ◌∷◌, length}
use Rattle.zpl_tree.specs.View.{item_of}
use Rattle.zpl_grammar.specs.Lexeme.{lexemes_of}
use Rattle.zpl_parse.specs.Statements.{some_items}
use Rattle.zpl_parse.specs.Whole.{any_expr}
use Rattle.zpl_parse.proofs.Loops.{IsGathered}
use Rattle.zpl_parse.proofs.statements.some_items.Given as goal

abbrev pub invariant-loop-items : goal.invariant-loop-items
invariant-loop-items l = record {
  within : length l.rest ≤ length l.fn.tokens;
  gathered : (few most : ℕ) → length l.fn.tokens < few → length l.fn.tokens < most
      → IsGathered (λ x found. item_of x ∷ found) (λ fuel lexemes. some_items fuel (any_expr most) lexemes) few (lexemes_of l.bytes l.fn.tokens) l.items.items (lexemes_of l.bytes l.rest) (length l.rest);
}

abbrev pub decreases-loop-items : goal.decreases-loop-items
decreases-loop-items l = length l.rest
