use Rattle.zpl_names.proofs.ListLemmas.{Contains-from_among}
use Rattle.zpl_names.specs.Expansion.{expanded_arrays}
use Rattle.stored_boxes.proofs.ExpandedLemmas.{all_different}
use Rattle.stored_boxes.proofs.NumberedLemmas.{same_numbers}
use Rattle.stored_boxes.proofs.laws.arrays_are_different.Goals as goal

pub returns : goal.returns
returns c = record {
  different = λ program clean told. all_different program clean
      (λ routine member. told routine (Contains-from_among _ routine member));
  numbers = λ program clean told. same_numbers (expanded_arrays program)
      (all_different program clean
      (λ routine member. told routine (Contains-from_among _ routine member)));
}
