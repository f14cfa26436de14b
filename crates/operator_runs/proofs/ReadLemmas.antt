-- The current region under which arrays are read: where it is, before the run and in a state, and
-- that filling slots keeps it.
use Rattle.std.proofs.Common.{◌≡◌, refl, ◌∙◌, ap, arith, ℕ, zero, suc, ◌≤◌, ◌<◌, Bool, true, false, not, List, [], ◌∷◌, map}
use Rattle.std.proofs.Common.{Option, Some, None}
use Rattle.std.specs.Prelude.{slice_get}
use Rattle.std.specs.List.{list_all}
use Rattle.zpl_region.specs.declared.dims.Dim.{Dim}
use Rattle.zpl_region.specs.declared.dims.Dim.TheVariants as dim
use Rattle.zpl_region.specs.declared.regions.Region.{Region}
use Rattle.zpl_binding.specs.Regions.{no_region}
use Rattle.zpl_names.specs.Kinds.{Rank}
use Rattle.zpl_meaning.specs.Context.{Currents, over_at}
use Rattle.flat_form.specs.Right.{is_flood}
use Rattle.flat_form.specs.Whole.{Whole}
use Rattle.print_runs.specs.of_zpl_lowering.Where.{SlotCurrents, Slotted, Where, slotted_at}
use Rattle.print_runs.specs.of_zpl_lowering.Where as low
use Rattle.print_runs.specs.of_lowering_runs.Seen.{seen_currents}
use Rattle.print_runs.specs.of_array_runs.Floods.{three_floods}
use Rattle.print_runs.proofs.of_array_runs.StoredLemmas.{index_of_found}
use Rattle.print_runs.proofs.of_array_runs.CodedLemmas.{CurrentOf}
use Rattle.call_runs.specs.of_prefix_runs.Filled.{IsFilled}
use Rattle.operator_runs.specs.Meant.{InSlot, Site, Under}
use Rattle.operator_runs.specs.Operated.{HaveNoFlood}

-- ---- flood dimensions

pub none_flood : (dims : List Dim) (bs : List Bool) → map low.is_flood dims ≡ bs → HaveNoFlood bs
    → list_all (λ one. not (is_flood one)) dims ≡ true
none_flood [] bs e h = refl
none_flood (dim.Flood ∷ dims) [] e h = absurd (let no : ⊥ = cc in no)
none_flood (dim.Flood ∷ dims) (true ∷ bs) e h = absurd h
none_flood (dim.Flood ∷ dims) (false ∷ bs) e h = absurd (let no : ⊥ = cc in no)
none_flood (dim.Range lo hi step align ∷ dims) [] e h = absurd (let no : ⊥ = cc in no)
none_flood (dim.Range lo hi step align ∷ dims) (true ∷ bs) e h = absurd h
none_flood (dim.Range lo hi step align ∷ dims) (false ∷ bs) e h =
    none_flood dims bs (tail_of _ _ _ _ e) h
  where
    tail_of : (x : Bool) (xs : List Bool) (y : Bool) (ys : List Bool) → x ∷ xs ≡ y ∷ ys → xs ≡ ys
    tail_of x xs y ys e = cc

pub three_none : (count : ℕ) (bs : List Bool) → HaveNoFlood bs → HaveNoFlood (three_floods count bs)
three_none zero bs h = tt
three_none (suc count) [] h = three_none count [] tt
three_none (suc count) (true ∷ bs) h = absurd h
three_none (suc count) (false ∷ bs) h = three_none count bs h

-- ---- the current region of a rank

-- It is in a slot that was taken.
pub record Fits (currents : SlotCurrents) (meant : Currents) (taken : ℕ) (slots : List Region)
    (rank : Rank) (over : Slotted) (region : Region) : Type 0 where
  pub slotted_is : slotted_at currents rank ≡ over
  pub over_is : over_at meant rank ≡ record { region = region; mask = over.mask }
  pub in_slot : InSlot slots over region
  pub below : over.slot < taken

pub fits_current : (w : Where) (now : Whole) (rank : Rank) (taken : ℕ)
    → (slotted_at w.currents rank).slot < taken → (c : CurrentOf w now rank)
    → Fits w.currents (seen_currents now w.currents) taken now.slots rank
    (slotted_at w.currents rank) c.current.region
fits_current w now rank taken lt c = record {
  slotted_is = refl;
  over_is = c.over_is
      ∙ ap (λ (r : Region). record { region = r; mask = (slotted_at w.currents rank).mask })
      (index_of_found now.slots (slotted_at w.currents rank).slot c.current.region no_region
      c.current.found);
  in_slot = record {
    found = c.current.found;
    is = c.current.is;
    three = c.current.three;
    flood = c.current.flood;
  };
  below = lt;
}

-- arrays are read under the site's region, or not at all
pub data Reads (currents : SlotCurrents) (meant : Currents) (taken : ℕ) (slots : List Region)
    (rank : Rank) : Site → Option Slotted → Type 0 where
  ReadsNone : {site : Site} → Reads currents meant taken slots rank site None
  ReadsUnder : {over : Slotted} {region : Region}
      → Fits currents meant taken slots rank over region
      → Reads currents meant taken slots rank (Under over region) (Some over)

-- ---- behind rows that fill slots

pub in_slot_on : (taken : ℕ) (before after : List Region)
    → ((k : ℕ) → k < taken → slice_get after k ≡ slice_get before k) → (over : Slotted)
    (region : Region) → over.slot < taken → InSlot before over region → InSlot after over region
in_slot_on taken before after kept over region lt h = record {
  found = kept over.slot lt ∙ h.found;
  is = h.is;
  three = h.three;
  flood = h.flood;
}

module _ (currents : SlotCurrents) (meant : Currents) (taken more : ℕ) (le : taken ≤ more)
    (before after : Whole) (filled : IsFilled taken before after) where
  pub fits_on : (rank : Rank) (over : Slotted) (region : Region)
      → Fits currents meant taken before.slots rank over region
      → Fits currents meant more after.slots rank over region
  fits_on rank over region f =
      let l = f.below in
      record {
        slotted_is = f.slotted_is;
        over_is = f.over_is;
        in_slot = in_slot_on taken before.slots after.slots filled.below over region f.below f.in_slot;
        below = omega (arith, l, le);
      }

  pub reads_on : (rank : Rank) (site : Site) (under : Option Slotted)
      → Reads currents meant taken before.slots rank site under
      → Reads currents meant more after.slots rank site under
  reads_on rank _ _ ReadsNone = ReadsNone
  reads_on rank _ _ (ReadsUnder {over = over} {region = region} f) =
      ReadsUnder (fits_on rank over region f)
