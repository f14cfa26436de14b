-- The region of a slot, as a current one.
use Rattle.std.proofs.Common.{refl, List}
use Rattle.zpl_region.specs.declared.regions.Region.{Region}
use Rattle.print_runs.specs.of_zpl_lowering.Where.{Slotted}
use Rattle.print_runs.specs.of_lowering_runs.Stands.{IsCurrent}
use Rattle.operator_runs.specs.Meant.{InSlot}

-- a slot with a region has it as the current one
abbrev pub current_in : (slots : List Region) (over : Slotted) (region : Region) → InSlot slots over region
    → IsCurrent slots region.rank over
current_in slots over region h = record {
  region = region;
  found = h.found;
  is = h.is;
  three = h.three;
  ranked = refl;
  flood = h.flood;
}
