use Rattle.std.proofs.Common.{ℕ, ◌<◌, ◌≤◌, length}
use Rattle.zpl_grammar.specs.Lexeme.{lexemes_of}
use Rattle.zpl_parse.specs.Expressions.{region_base}
use Rattle.zpl_parse.proofs.Loops.{IsGathered}
use Rattle.zpl_parse.proofs.Lists.{put_pre}
use Rattle.zpl_parse.proofs.regions.region_base.Given as goal

abbrev pub invariant-loop-pre : goal.invariant-loop-pre
invariant-loop-pre l = record {
  within : length l.rest ≤ length l.fn.tokens;
  gathered : (most : ℕ) → length l.fn.tokens < most
      → IsGathered put_pre region_base most (lexemes_of l.bytes l.fn.tokens) l.pre.items (lexemes_of l.bytes l.rest) (length l.rest);
}

abbrev pub decreases-loop-pre : goal.decreases-loop-pre
decreases-loop-pre l = length l.rest
