use Rattle.std.proofs.Common.{◌≤◌, List, length, drop}
use Rattle.node_form.specs.declared.words.ExprOp.{ExprOp}
use Rattle.listing_rules.specs.declared.parts.Part.TheVariants as part
use Rattle.listing_rules.specs.Rules.{belongs, IsExprLine}
use Rattle.listing_rules.proofs.ReadsLemmas.{Going}
use Rattle.listing_rules.proofs.reads.read_exprs.Given as goal

abbrev pub invariant-loop-line : goal.invariant-loop-line
invariant-loop-line l = record {
  going : Going (belongs part.Exprs) (λ (done : List (List ExprOp)). IsExprLine l.known.tables) (drop l.fn.from l.lines) l.rows (drop l.at l.lines);
  inside : l.at ≤ length l.lines;
}

abbrev pub decreases-loop-line : goal.decreases-loop-line
decreases-loop-line l = length (drop l.at l.lines)
