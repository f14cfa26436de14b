use Rattle.std.proofs.Common.{ℕ, ◌<◌, ◌≤◌, ◌∷◌, length}
use Rattle.zpl_tree.specs.View.{decl_of}
use Rattle.zpl_grammar.specs.Lexeme.{lexemes_of}
use Rattle.zpl_parse.specs.Declarations.{decls}
use Rattle.zpl_parse.specs.Whole.{any_expr, most_nested}
use Rattle.zpl_parse.proofs.Loops.{IsGathered}
use Rattle.zpl_parse.proofs.declarations.decls.Given as goal

abbrev pub invariant-loop-alloc : goal.invariant-loop-alloc
invariant-loop-alloc l = record {
  within : length l.rest ≤ length l.fn.tokens;
  gathered : (few most : ℕ) → length l.fn.tokens < few → length l.fn.tokens < most
      → IsGathered (λ x found. decl_of x ∷ found) (λ fuel lexemes. decls fuel (any_expr most) most_nested lexemes) few (lexemes_of l.bytes l.fn.tokens) l.decls.items (lexemes_of l.bytes l.rest) (length l.rest);
}

abbrev pub decreases-loop-alloc : goal.decreases-loop-alloc
decreases-loop-alloc l = length l.rest
