use Rattle.remap_rows.proofs.RemapLemmas.{all_are_placed, remaps_are}
use Rattle.remap_rows.proofs.laws.remaps_are_those_of_functions.Goals as goal

pub returns : goal.returns
returns c = record { values = remaps_are; placed = all_are_placed }
