-- A state that keeps what was taken is like the same store.
use Rattle.std.proofs.Common.{◌≡◌, refl, sym, ◌∙◌, ap, arith, ℕ, ◌≤◌, ◌<◌, Bool, List, [], ◌∷◌, ◌&&◌, pos, Option}
use Rattle.std.specs.Prelude.{slice_get}
use Rattle.std.specs.List.{list_all}
use Rattle.zpl_region.specs.declared.regions.Region.{Region}
use Rattle.zpl_binding.specs.Regions.{no_region}
use Rattle.zpl_meaning.specs.Store.{Store}
use Rattle.node_form.specs.declared.tables.Tables.{Tables}
use Rattle.row_runs.specs.Straight.{Every}
use Rattle.flat_form.specs.Whole.{Whole}
use Rattle.print_runs.specs.of_zpl_lowering.Where.{Slotted, Stored, Where, Next}
use Rattle.print_runs.specs.of_zpl_lowering.Reference.{Reference}
use Rattle.print_runs.specs.of_lowering_runs.Seen.{Spot, slot_in}
use Rattle.print_runs.specs.of_lowering_runs.Stands.{IsLike, IsSound, Stands}
use Rattle.print_runs.proofs.of_lowering_runs.FitLemmas.{held_on}
use Rattle.print_runs.specs.of_array_runs.Gates.{IsThere, holds, lies}
use Rattle.print_runs.proofs.of_array_runs.LikeLemmas.{index_if, index_is}
use Rattle.call_runs.specs.of_prefix_runs.Filled.{IsFilled}
use Rattle.call_runs.proofs.of_prefix_runs.UnderLemmas.{filled_sound, store_kept}
use Rattle.operator_runs.specs.Meant.{Site, Alone, Under, InSlot, IsSite}
use Rattle.operator_runs.specs.Hoists.{Own, Spares, Unused}
use Rattle.operator_runs.proofs.ReadLemmas.{in_slot_on}
use Rattle.operator_runs.specs.Phases.{AreOwn, AreTakenBy, IsTakenSite, KeepsTaken}

module _ (tables : Tables) (spots : List Spot) (arrays : List Stored) (next : Next) where
  abbrev Kept : Whole → Whole → Type 0
  Kept = KeepsTaken tables spots arrays next

  -- brackets fill slots that were free
  pub taken_filled : (before after : Whole) → IsSound tables before
      → IsFilled next.slots before after → Kept before after
  taken_filled before after sound filled = record {
    sound = filled_sound tables next.slots before after filled sound;
    seen = store_kept tables next.slots before after filled spots arrays;
    scalars = λ k lt. ap (λ xs. slice_get xs k) filled.scalars;
    slots = filled.below;
  }

  -- operators leave their values in what was free
  pub taken_spared : (own : Own) (free : Unused) (before after : Whole) → AreOwn next.slots own
      → next.scalars ≤ free.scalars → Spares tables spots arrays own free before after
      → Kept before after
  taken_spared own free before after apart le s = record {
    sound = s.sound;
    seen = s.seen;
    scalars = λ k lt. s.scalars k (omega (arith, lt, le));
    slots = λ k lt. s.slots k (apart k lt);
  }

  pub taken_then : (before mid after : Whole) → Kept before mid → Kept mid after
      → Kept before after
  taken_then before mid after h k = record {
    sound = k.sound;
    seen = k.seen ∙ h.seen;
    scalars = λ j lt. k.scalars j lt ∙ h.scalars j lt;
    slots = λ j lt. k.slots j lt ∙ h.slots j lt;
  }

  -- ---- what was in slots is there

  module _ (before after : Whole)
      (kept : (k : ℕ) → k < next.slots → slice_get after.slots k ≡ slice_get before.slots k) where
    pub slot_taken : (over : Slotted) (region : Region) → over.slot < next.slots
        → InSlot before.slots over region → InSlot after.slots over region
    slot_taken = in_slot_on next.slots before.slots after.slots kept

    pub site_taken : (site : Site) → IsTakenSite next.slots site → IsSite before.slots site
        → IsSite after.slots site
    site_taken Alone lt i = tt
    site_taken (Under over region) lt i = slot_taken over region lt i

    pub sites_taken : (sites : List Site) → Every (IsTakenSite next.slots) sites
        → Every (IsSite before.slots) sites → Every (IsSite after.slots) sites
    sites_taken [] lt i = tt
    sites_taken (site ∷ sites) lt i = (site_taken site lt.0 i.0, sites_taken sites lt.1 i.1)

    -- references are the same
    pub holding_taken : (refs : List Reference) → AreTakenBy next.slots refs
        → list_all (holds tables after) refs ≡ list_all (holds tables before) refs
    holding_taken [] lt = refl
    holding_taken (one ∷ refs) lt =
        ap (λ (o : Option Region). lies one.shift o (slice_get tables.arrays one.array)
        && list_all (holds tables after) refs) (kept one.slot lt.0)
        ∙ ap (λ (b : Bool). holds tables before one && b) (holding_taken refs lt.1)

    pub there_taken : (refs : List Reference) → AreTakenBy next.slots refs
        → Every (IsThere tables before) refs → Every (IsThere tables after) refs
    there_taken [] lt h = tt
    there_taken (one ∷ refs) lt h = (
      record {
        region = h.0.region;
        row = h.0.row;
        in_slot = kept one.slot lt.0 ∙ h.0.in_slot;
        in_tables = h.0.in_tables;
      },
      there_taken refs lt.1 h.1,
    )

-- ---- states

pub like_taken : (tables : Tables) (spots : List Spot) (w : Where) (next : Next) (start : Whole)
    (store : Store) (now after : Whole) → Stands spots w next
    → IsLike tables spots w next start store now
    → KeepsTaken tables spots w.numbers.arrays next now after
    → IsLike tables spots w next start store after
like_taken tables spots w next start store now after stands like t = record {
  seen = like.seen ∙ sym t.seen;
  sound = t.sound;
  kept = record {
    hidden = λ k lt misses.
        index_is after.scalars k (pos 0) ∙ ap (index_if (pos 0)) (t.scalars k lt)
        ∙ sym (index_is now.scalars k (pos 0)) ∙ like.kept.hidden k lt misses;
    slots = λ k lt. kept k lt ∙ like.kept.slots k lt;
  };
  held = held_on tables w.setup.known w.numbers.arrays w.currents next.slots now after
      (t.sound.filled.slots ∙ sym like.sound.filled.slots) kept stands.taken stands.declared like.held;
}
  where
    kept : (k : ℕ) → k < next.slots → slot_in after k ≡ slot_in now k
    kept k lt =
        index_is after.slots k no_region ∙ ap (index_if no_region) (t.slots k lt)
        ∙ sym (index_is now.slots k no_region)
