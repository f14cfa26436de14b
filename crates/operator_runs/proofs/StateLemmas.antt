-- States with the store that a statement begins with, and with the slots, but for the statement's own.
use Rattle.std.proofs.Common.{◌≡◌, refl, sym, ◌∙◌, ap, Bool, true, ◌&&◌, ℕ, List, [], ◌∷◌, ℤ, Option, Some, None}
use Rattle.std.specs.Prelude.{slice_get}
use Rattle.std.specs.List.{list_all}
use Rattle.zpl_region.specs.declared.regions.Region.{Region}
use Rattle.zpl_meaning.specs.Context.{Mask}
use Rattle.zpl_meaning.specs.Store.{Store}
use Rattle.node_form.specs.declared.tables.Tables.{Tables}
use Rattle.row_runs.specs.Straight.{Every}
use Rattle.flat_form.specs.Whole.{Whole}
use Rattle.print_runs.specs.of_zpl_lowering.Where.{Numbers, Stored, Slotted}
use Rattle.print_runs.specs.of_zpl_lowering.Reference.{Reference, mask_reference, refer_to}
use Rattle.print_runs.specs.of_lowering_runs.Seen.{Spot, seen_store}
use Rattle.print_runs.specs.of_lowering_runs.Stands.{IsSound, Misses}
use Rattle.print_runs.specs.of_array_runs.Gates.{holds, lies}
use Rattle.operator_runs.specs.Meant.{InSlot}
use Rattle.operator_runs.specs.Hoists.{Own, Spares, Unused}

-- no region of an expression is in one of the statement's own slots
abbrev pub AreApart : Own → List Region → Type 0
AreApart own slots =
    (over : Slotted) (region : Region) → InSlot slots over region → Misses own.slots over.slot

-- a reference under these slots lies in its array's storage
abbrev pub holds_in : Tables → List Region → Reference → Bool
holds_in tables slots one =
    lies one.shift (slice_get slots one.slot) (slice_get tables.arrays one.array)

module _ (tables : Tables) (spots : List Spot) (arrays : List Stored) (own : Own)
    (slots : List Region) (apart : AreApart own slots) (store : Store) where
  -- a state with these slots, in which the store is seen
  pub record HasState (now : Whole) : Type 0 where
    pub sound : IsSound tables now
    pub slots_are : (k : ℕ) → Misses own.slots k → slice_get now.slots k ≡ slice_get slots k
    pub seen_is : seen_store spots arrays now ≡ store

  pub spared_state : (free : Unused) (now after : Whole) → HasState now
      → Spares tables spots arrays own free now after → HasState after
  spared_state free now after h s = record {
    sound = s.sound;
    slots_are = λ k misses. s.slots k misses ∙ h.slots_are k misses;
    seen_is = s.seen ∙ h.seen_is;
  }

  pub slot_in_state : (now : Whole) → HasState now → (over : Slotted) (region : Region)
      → InSlot slots over region → InSlot now.slots over region
  slot_in_state now h over region i = record {
    found = h.slots_are over.slot (apart over region i) ∙ i.found;
    is = i.is;
    three = i.three;
    flood = i.flood;
  }

  -- ---- references under a region

  pub refers_held : (now : Whole) → HasState now → (over : Slotted) (region : Region)
      → InSlot slots over region → (refs : List Reference)
      → Every (λ (one : Reference). one.slot ≡ over.slot) refs
      → list_all (holds_in tables slots) refs ≡ true → list_all (holds tables now) refs ≡ true
  refers_held now h over region i refs at held = same refs at ∙ held
    where
      one_slot : (k : ℕ) → k ≡ over.slot → slice_get now.slots k ≡ slice_get slots k
      one_slot k e =
          ap (slice_get now.slots) e ∙ h.slots_are over.slot (apart over region i)
          ∙ ap (slice_get slots) (sym e)

      same : (refs : List Reference) → Every (λ (one : Reference). one.slot ≡ over.slot) refs
          → list_all (holds tables now) refs ≡ list_all (holds_in tables slots) refs
      same [] at = refl
      same (one ∷ refs) at =
          ap (λ o. lies one.shift o (slice_get tables.arrays one.array)
          && list_all (holds tables now) refs) (one_slot one.slot at.0)
          ∙ ap (λ b. holds_in tables slots one && b) (same refs at.1)

  pub refer_at : (slot : ℕ) (shift : List ℤ) (o : Option Stored)
      → Every (λ (one : Reference). one.slot ≡ slot) (refer_to slot shift o)
  refer_at slot shift None = tt
  refer_at slot shift (Some stored) = (refl, tt)

  pub refer_held : (now : Whole) → HasState now → (over : Slotted) (region : Region)
      → InSlot slots over region → (shift : List ℤ) (o : Option Stored)
      → list_all (holds_in tables slots) (refer_to over.slot shift o) ≡ true
      → list_all (holds tables now) (refer_to over.slot shift o) ≡ true
  refer_held now h over region i shift o =
      refers_held now h over region i (refer_to over.slot shift o) (refer_at over.slot shift o)

  pub mask_held : (numbers : Numbers) (now : Whole) → HasState now → (over : Slotted)
      (region : Region) → InSlot slots over region → (mask : Option Mask)
      → list_all (holds_in tables slots) (mask_reference numbers over.slot mask) ≡ true
      → list_all (holds tables now) (mask_reference numbers over.slot mask) ≡ true
  mask_held numbers now h over region i None held = refl
  mask_held numbers now h over region i (Some mask) held =
      refer_held now h over region i [] (slice_get numbers.arrays mask.array) held
