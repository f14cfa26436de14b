use Rattle.std.proofs.Common.{ℕ, ◌<◌, ◌≤◌, ◌∷◌, length}
use Rattle.zpl_tree.specs.View.{name_of}
use Rattle.zpl_grammar.specs.Lexeme.{lexemes_of}
use Rattle.zpl_parse.specs.Tokens.{names}
use Rattle.zpl_parse.proofs.Loops.{IsGathered}
use Rattle.zpl_parse.proofs.tokens.names.Given as goal

abbrev pub invariant-loop-names : goal.invariant-loop-names
invariant-loop-names l = record {
  within : length l.rest ≤ length l.fn.tokens;
  gathered : (most : ℕ) → length l.fn.tokens < most
      → IsGathered (λ x found. name_of x ∷ found) names most (lexemes_of l.bytes l.fn.tokens) l.names.items (lexemes_of l.bytes l.rest) (length l.rest);
}

abbrev pub decreases-loop-names : goal.decreases-loop-names
decreases-loop-names l = length l.rest
