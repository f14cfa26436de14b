-- Slots, and the regions in them.
use Rattle.std.proofs.Common.{◌≡◌, ℕ, zero, suc, ◌<◌, List, [], ◌∷◌, get_or, length, refl, ℤ, arith}
use Rattle.std.specs.Prelude.{All, Some, slice_get}
use Rattle.std.specs.List.{AllZip}
use Rattle.std.proofs.lemmas.Option.{slice_get_within}
use Rattle.zpl_region.specs.declared.regions.Region.{Region}
use Rattle.zpl_region.specs.Dim.{HasStep, dim_inside_of, dim_moved, dim_outside_of, dim_strided}
use Rattle.zpl_region.specs.Region.{IsRegion, components}
use Rattle.zpl_region.proofs.HullLemmas.{has_steps}
use Rattle.zpl_region.proofs.RegionLemmas.{within_is_dim}
use Rattle.node_form.specs.declared.instructions.RegionForm.{RegionForm}
use Rattle.node_form.specs.declared.instructions.RegionForm.TheVariants.{Of, Inside, At, By}
use Rattle.node_form.specs.Control.{formed_by}
use Rattle.grid_meaning.specs.State.{IsSlot}
use Rattle.grid_meaning.proofs.RegionLemmas.{HasStep-outside, HasStep-inside, HasStep-moved, HasStep-strided, steps-each}

pub record IsThere (slots : List Region) (slot : ℕ) (region : Region) : Type 0 where
  pub found : slice_get slots slot ≡ Some region
  pub rank : ℕ
  pub is_slot : IsSlot rank region

pub slot_there : (ranks : List ℕ) (slots : List Region) (slot : ℕ) → AllZip IsSlot ranks slots → slot < length ranks
    → (region : Region) × IsThere slots slot region
slot_there [] slots slot all within = absurd (omega arith)
slot_there (rank ∷ ranks) [] slot all within = absurd all
slot_there (rank ∷ ranks) (region ∷ slots) zero all within =
    (region, record { found = refl; rank = rank; is_slot = all.0 })
slot_there (rank ∷ ranks) (region ∷ slots) (suc slot) all within =
    let rest = slot_there ranks slots slot all.1 (omega arith) in
    (rest.0, record { found = rest.1.found; rank = rest.1.rank; is_slot = rest.1.is_slot })

pub IsRegion-slot : (rank : ℕ) (region : Region) → IsSlot rank region → IsRegion region
IsRegion-slot rank region slot = record {
  rank_above = slot.fits.rank.0;
  rank_below = slot.fits.rank.1;
  dims = λ k d here. within_is_dim (get_or region.dims k d) (slot.fits.steps k d here) (slot.fits.limit.dims k d here);
  padded = slot.fits.padded;
}

-- ---- steps
pub IsRegion-steps : (region : Region) → IsRegion region → All HasStep region.dims
IsRegion-steps region is = has_steps region.dims is.dims

pub formed_steps : (form : RegionForm) (shift : List ℤ) (region : Region) → IsRegion region → All HasStep (formed_by form shift region).dims
formed_steps Of shift region is =
    steps-each dim_outside_of HasStep-outside (components region.rank shift) region.dims (IsRegion-steps region is)
formed_steps Inside shift region is =
    steps-each dim_inside_of HasStep-inside (components region.rank shift) region.dims (IsRegion-steps region is)
formed_steps At shift region is =
    steps-each dim_moved HasStep-moved (components region.rank shift) region.dims (IsRegion-steps region is)
formed_steps By shift region is =
    steps-each dim_strided HasStep-strided (components region.rank shift) region.dims (IsRegion-steps region is)

-- ---- slots by their ranks
pub slot_below : (ranks : List ℕ) (slots : List Region) (slot rank : ℕ) → AllZip IsSlot ranks slots → slice_get ranks slot ≡ Some rank
    → slot < length slots
slot_below ranks slots slot rank all is =
    let found = slot_there ranks slots slot all (slice_get_within ranks slot rank is) in
    slice_get_within slots slot found.0 found.1.found
