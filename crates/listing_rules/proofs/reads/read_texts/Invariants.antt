use Rattle.std.proofs.Common.{◌≤◌, List, length, drop}
use Rattle.std.proofs.Common.{ℕ}
use Rattle.listing_rules.specs.declared.parts.Part.TheVariants as part
use Rattle.listing_rules.specs.Rules.{belongs, IsTextLine}
use Rattle.listing_rules.proofs.ReadsLemmas.{Going}
use Rattle.listing_rules.proofs.reads.read_texts.Given as goal

abbrev pub invariant-loop-line : goal.invariant-loop-line
invariant-loop-line l = record {
  going : Going (belongs part.Texts) (λ (done : List (List ℕ)). IsTextLine) (drop l.fn.from l.lines) l.rows (drop l.at l.lines);
  inside : l.at ≤ length l.lines;
}

abbrev pub decreases-loop-line : goal.decreases-loop-line
decreases-loop-line l = length (drop l.at l.lines)
