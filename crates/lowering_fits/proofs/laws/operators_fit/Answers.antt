use Rattle.lowering_fits.proofs.SlateLemmas.{hoisted_fits}
use Rattle.lowering_fits.proofs.laws.operators_fit.Goals as goal

pub returns : goal.returns
returns c = record {
  rows = λ tables numbers line free rank one fits is placed covered.
      (hoisted_fits tables numbers line free rank one fits is placed covered).rows;
  left = λ tables numbers line free rank one fits is placed covered.
      (hoisted_fits tables numbers line free rank one fits is placed covered).left;
}
