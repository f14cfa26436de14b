-- What is known of a state that a turn begins with.
use Rattle.std.proofs.Common.{◌≡◌, ℕ, zero, suc, ◌<◌, ◌≤◌, ◌^◌, List, [], ◌∷◌, length, refl, sym, ap, ◌∙◌, subst, arith}
use Rattle.std.specs.Borrow.{Bor}
use Rattle.std.specs.Prelude.{All, Option, Some, None, slice_get}
use Rattle.std.specs.List.{AllZip}
use Rattle.std.specs.Slice.{IsItemAt}
use Rattle.std.proofs.lemmas.Option.{get_or_from_slice_get, slice_get_read, slice_get_within}
use Rattle.zpl_region.specs.declared.regions.Region.{Region}
use Rattle.zpl_region.specs.Region.{members}
use Rattle.zpl_region.proofs.LawLemmas.{length-met}
use Rattle.node_form.specs.declared.tables.Tables.{Tables}
use Rattle.node_form.specs.declared.arrays.ArrayRow.{ArrayRow}
use Rattle.node_form.specs.Fits.{Fits, FitsArray, IsRank}
use Rattle.grid_layout.specs.Layout.{laid_out, own_first, own_last}
use Rattle.grid_meaning.specs.Owner.{tuples_of}
use Rattle.grid_meaning.specs.State.{IsSlot, IsStore}
use Rattle.grid_meaning.specs.Stored.{arrangement_of}
use Rattle.node_local.specs.Workplace.{IsReady, Workplace}

-- ---- what is known of a state
all_at : {X : Type 0} (P : X → Type 0) (xs : List X) (i : ℕ) (x : X) → All P xs → slice_get xs i ≡ Some x → P x
all_at P xs i x all found = subst P (get_or_from_slice_get xs i x x found) (all i x (slice_get_within xs i x found))

pub group_room : (code : Tables) (p : ℕ) (w : Workplace) (i : ℕ) (all : List _) → IsReady code p w
    → slice_get code.groups i ≡ Some all → length all ≤ w.room
group_room code p w i all ready found = all_at (λ members. length members ≤ w.room) code.groups i all ready.room.groups found

-- a region that is looked up is the one there
pub looked_up : (r : Option (Bor Region)) (regions : List Region) (i : ℕ) (found : Bor Region) → IsItemAt regions i r
    → r ≡ Some found → slice_get regions i ≡ Some found.now
looked_up None regions i found told is = cc
looked_up (Some region) regions i found told is =
    let same : region ≡ found = cc in
    slice_get_read regions (length regions) i region.now refl told.3.0 told.1 ∙ ap (λ (x : Bor Region). Some x.now) same

slot_of : (ranks : List ℕ) (regions : List Region) (i : ℕ) (region : Region) → AllZip IsSlot ranks regions
    → slice_get regions i ≡ Some region → IsSlot region.rank region
slot_of [] [] i region are is = cc
slot_of [] (r ∷ regions) i region are is = absurd are
slot_of (n ∷ ranks) [] i region are is = cc
slot_of (n ∷ ranks) (r ∷ regions) zero region are is =
    let same : r ≡ region = cc in
    let slot = subst (IsSlot n) same are.0 in
    subst (λ rank. IsSlot rank region) (sym slot.ranked) slot
slot_of (n ∷ ranks) (r ∷ regions) (suc i) region are is = slot_of ranks regions i region are.1 is

pub is_slot : (code : Tables) (p : ℕ) (w : Workplace) (i : ℕ) (region : Region) → IsReady code p w
    → slice_get w.local.slots i ≡ Some region → IsSlot region.rank region
is_slot code p w i region ready found = slot_of code.slots w.local.slots i region ready.state.parts.slots found

-- the own part of a region has no more tuples than a region may have
pub few_tuples : (code : Tables) (p : ℕ) (region own : Region) → IsSlot region.rank region
    → members own ≡ tuples_of code p region → length (members own) < 2 ^ 64
few_tuples code p region own slot is =
    let points = slot.fits.limit.points in
    let blocks = laid_out (arrangement_of code) in
    let met = length-met region (own_first blocks region.rank p) (own_last blocks region.rank p) in
    omega (arith, ap length is, met)

-- ---- what is known of an array
pub row_ranked : (code : Tables) (i : ℕ) (row : ArrayRow) → Fits code → slice_get code.arrays i ≡ Some row → IsRank row.rank
row_ranked code i row fits found = (all_at FitsArray code.arrays i row fits.arrays found).rank

zip_within : {A B : Type 0} (R : A → B → Type 0) (xs : List A) (ys : List B) (i : ℕ) (x : A) → AllZip R xs ys
    → slice_get xs i ≡ Some x → i < length ys
zip_within R [] ys i x are is = cc
zip_within R (z ∷ xs) [] i x are is = absurd are
zip_within R (z ∷ xs) (y ∷ ys) zero x are is = omega arith
zip_within R (z ∷ xs) (y ∷ ys) (suc i) x are is =
    let below : i < length ys = zip_within R xs ys i x are.1 is in
    omega arith

pub store_there : (code : Tables) (p : ℕ) (w : Workplace) (i : ℕ) (row : ArrayRow) → IsReady code p w
    → slice_get code.arrays i ≡ Some row → i < length w.local.stores
store_there code p w i row ready found =
    zip_within (IsStore code p) code.arrays w.local.stores i row ready.state.parts.stores found
