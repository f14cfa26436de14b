-- Masks: what code reads of one is what the meaning reads.
use Rattle.std.proofs.Common.{◌≡◌, refl, sym, ◌∙◌, ap, subst, ℕ, Bool, true, false, not}
use Rattle.std.proofs.Common.{List, [], ℤ, Option, Some, None}
use Rattle.std.specs.Prelude.{slice_get}
use Rattle.std.specs.List.{list_all}
use Rattle.zpl_nums.specs.Integer.{is_true, truth, denied}
use Rattle.zpl_region.specs.declared.regions.Region.{Region}
use Rattle.zpl_region.specs.Region.{IsMember}
use Rattle.zpl_arrays.specs.Array.{Array, element}
use Rattle.array_puts.specs.of_zpl_meaning.Context.{Mask, is_kept, lets_in}
use Rattle.array_puts.specs.of_zpl_meaning.Checks.{has_mask_within}
use Rattle.node_form.specs.declared.tables.Tables.{Tables}
use Rattle.node_form.specs.Expression.{Expression, words_of}
use Rattle.node_form.specs.Expression as word
use Rattle.node_form.specs.Value as flat
use Rattle.node_form.specs.Value.{Operands, tree_value, unmoved, value_of}
use Rattle.node_form.proofs.ValueLemmas.{value_of-words_of}
use Rattle.row_runs.specs.Straight.{Every}
use Rattle.lowering_runs.specs.of_flat_form.Whole.{Whole}
use Rattle.lowering_runs.specs.of_flat_form.Row.{Words, mask_words}
use Rattle.array_puts.proofs.of_normal_runs.PlaceLemmas.{moved_none}
use Rattle.lowering_runs.specs.of_zpl_lowering.Where.{Stored, Slotted, Where}
use Rattle.lowering_runs.specs.of_zpl_lowering.Reference.{mask_reference, referred}
use Rattle.lowering_runs.specs.of_zpl_lowering.Slate as slate
use Rattle.lowering_runs.specs.of_zpl_lowering.Hoist.{array_code, mask_code, mask_word}
use Rattle.lowering_runs.specs.Seen.{Spot}
use Rattle.lowering_runs.specs.Stands.{AreStored, IsCurrent, IsSound}
use Rattle.array_puts.specs.Put.{IsMask}
use Rattle.array_runs.specs.Gates.{IsThere, holds}
use Rattle.array_runs.specs.Elementwise.{IsReadable, IsReadableMask}
use Rattle.array_runs.proofs.StoredLemmas.{IsFound, found_array, read_same}
use Rattle.array_runs.proofs.PartLemmas.{CanRead, operands, store}
use Rattle.array_runs.proofs.ElementLemmas.{element_part, element_value, holding_is, own_covers}

truth_is : (b : Bool) → is_true (truth b) ≡ b
truth_is true = refl
truth_is false = refl

module _ (tables : Tables) (spots : List Spot) (w : Where) (line : ℕ) (now : Whole) (rank : ℕ)
    (over : Slotted) (current : IsCurrent now.slots rank over) where
  abbrev region : Region
  region = current.region

  -- the references and the words of a mask
  pub record IsMasking (mask : Option Mask) : Type 0 where
    pub there : Every (IsThere tables now) (mask_reference w.numbers over.slot mask)
    pub gate : list_all (holds tables now) (mask_reference w.numbers over.slot mask)
        ≡ has_mask_within (store tables spots w line now rank over current)
        (record { region = region; mask = mask })
    pub masked : list_all (holds tables now) (mask_reference w.numbers over.slot mask) ≡ true
        → (cells t : List ℤ) → IsMember region t
        → IsMask (operands tables spots w line now rank over current cells t)
        (mask_code w.numbers mask) (is_kept (store tables spots w line now rank over current) mask t)
    pub reads : list_all (holds tables now) (mask_reference w.numbers over.slot mask) ≡ true
        → Every (λ (words : Words). Every (CanRead tables spots w line now rank over current) words)
        (mask_words (mask_code w.numbers mask))

  no_mask : IsMasking None
  no_mask = record {
    there = tt;
    gate = refl;
    masked = λ h cells t m. refl;
    reads = λ h. tt;
  }

  -- the word of a mask over an array
  word_is : (without : Bool) (o : Operands) (k : ℕ) (v : ℤ)
      → tree_value o (word.Element k) ≡ flat.Gives v
      → (value : ℤ) × (value_of o (words_of (mask_word without (word.Element k))) ≡ flat.Gives value)
      × (is_true value ≡ lets_in without (is_true v))
  word_is true o k v e = (
    denied v,
    value_of-words_of o (word.Denial (word.Element k)) ∙ ap (flat.mapped denied) e,
    truth_is (not (is_true v)),
  )
  word_is false o k v e = (v, value_of-words_of o (word.Element k) ∙ e, refl)

  word_reads : (without : Bool) (k : ℕ)
      → Every (CanRead tables spots w line now rank over current) (words_of (word.Element k))
      → Every (CanRead tables spots w line now rank over current)
      (words_of (mask_word without (word.Element k)))
  word_reads true k h = (h.0, (refl, tt))
  word_reads false k h = h

  some_mask : (without : Bool) (place : ℕ) (stored : Stored)
      → slice_get w.numbers.arrays place ≡ Some stored
      → (f : IsFound tables spots w.numbers.arrays now place stored)
      → IsReadable region [] (Some stored)
      → IsMasking (Some (record { array = place; without = without }))
  some_mask without place stored found f h =
      let p = element_part tables spots w line now rank over current place stored found f h.0 [] tt in
      let value : list_all (holds tables now) (referred w.numbers (slate.Element over.slot place []))
      ≡ true → (cells t : List ℤ) → IsMember region t
      → tree_value (operands tables spots w line now rank over current cells t)
      (word.Element stored.array) ≡ flat.Gives (element f.array t) =
      λ e cells t m.
      let r = read_same f.array region current.is current.three f.boxed f.three
      (own_covers tables spots w line now rank over current place stored found f h.0) [] tt
      (sym (holding_is tables spots w line now rank over current place stored found f h.0 [] tt) ∙ e)
      t m in
      element_value tables spots w line now rank over current place stored found f h.0 cells t unmoved
      r.0 ∙ ap (λ u. flat.Gives (element f.array u)) (moved_none t) in
      record {
        there = p.there;
        gate = p.gate;
        masked = λ e cells t m.
            subst (λ (a : Array). IsMask (operands tables spots w line now rank over current cells t)
            (mask_code w.numbers (Some (record { array = place; without = without })))
            (lets_in without (is_true (element a t)))) (sym f.seen)
            (subst (λ (o : Option Stored).
            IsMask (operands tables spots w line now rank over current cells t)
            (Some (words_of (mask_word without (array_code o))))
            (lets_in without (is_true (element f.array t)))) (sym found)
            (word_is without (operands tables spots w line now rank over current cells t) stored.array
            (element f.array t) (value e cells t m)));
        reads = λ e.
            subst (λ (o : Option Stored).
            Every (λ (words : Words). Every (CanRead tables spots w line now rank over current) words)
            (mask_words (Some (words_of (mask_word without (array_code o)))))) (sym found)
            (word_reads without stored.array (p.reads e), tt);
      }

  of_mask : (sound : IsSound tables now) → AreStored tables w.numbers.arrays → (without : Bool)
      (place : ℕ) (o : Option Stored) → slice_get w.numbers.arrays place ≡ o
      → IsReadable region [] o → IsMasking (Some (record { array = place; without = without }))
  of_mask sound stored without place None e h = absurd h
  of_mask sound stored without place (Some one) e h =
      some_mask without place one e
      (found_array tables spots w.numbers.arrays now place one sound.filled stored e) h

  pub masking : IsSound tables now → AreStored tables w.numbers.arrays → (mask : Option Mask)
      → IsReadableMask w region mask → IsMasking mask
  masking sound stored None h = no_mask
  masking sound stored (Some mask) h =
      of_mask sound stored mask.without mask.array (slice_get w.numbers.arrays mask.array) refl h
