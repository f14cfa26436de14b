use Rattle.std.proofs.Common.{ℕ, ◌<◌, ◌≤◌, ◌∷◌, length}
use Rattle.zpl_tree.specs.View.{param_of}
use Rattle.zpl_grammar.specs.Lexeme.{lexemes_of}
use Rattle.zpl_parse.specs.Declarations.{some_params}
use Rattle.zpl_parse.specs.Whole.{any_expr}
use Rattle.zpl_parse.proofs.Loops.{IsGathered}
use Rattle.zpl_parse.proofs.declarations.some_params.Given as goal

abbrev pub invariant-loop-params : goal.invariant-loop-params
invariant-loop-params l = record {
  within : length l.rest ≤ length l.fn.tokens;
  gathered : (few most : ℕ) → length l.fn.tokens < few → length l.fn.tokens < most
      → IsGathered (λ x found. param_of x ∷ found) (λ fuel lexemes. some_params fuel (any_expr most) lexemes) few (lexemes_of l.bytes l.fn.tokens) l.params.items (lexemes_of l.bytes l.rest) (length l.rest);
}

abbrev pub decreases-loop-params : goal.decreases-loop-params
decreases-loop-params l = length l.rest
