use Rattle.std.proofs.Common.{ℕ, ◌<◌, ◌≤◌, ◌∷◌, length}
use Rattle.zpl_grammar.specs.Lexeme.{lexemes_of}
use Rattle.zpl_parse.specs.Declarations.{group}
use Rattle.zpl_parse.proofs.Loops.{IsGathered}
use Rattle.zpl_parse.proofs.groups.group.Given as goal

abbrev pub invariant-loop-found : goal.invariant-loop-found
invariant-loop-found g l = record {
  within : length l.rest ≤ length l.fn.tokens;
  gathered : (few most : ℕ) → length l.fn.tokens < few → length l.fn.tokens < most
      → IsGathered (λ x found. g.D.Definition.tree_of x ∷ found) (λ fuel lexemes. group fuel (g.D.Definition.rule_of few most) lexemes) few (lexemes_of l.bytes l.fn.tokens) l.found.items (lexemes_of l.bytes l.rest) (length l.rest);
}

abbrev pub decreases-loop-found : goal.decreases-loop-found
decreases-loop-found g l = length l.rest
