-- The code of prints, borders and prefixes fits.
use Rattle.std.proofs.Common.{◌≡◌, ℕ, zero, suc, ◌+◌, ◌<◌, ◌≤◌, Bool, true, false, ℤ, List, [], ◌∷◌, length, refl, sym, ap, ◌∙◌, subst, arith}
use Rattle.std.proofs.lemmas.List.{length-map}
use Rattle.std.specs.Prelude.{neg_ℤ, Option, Some, None, slice_get}
use Rattle.std.specs.Option.{IsSomeAnd}
use Rattle.zpl_nums.specs.declared.ends.Border.{Border as BorderKind}
use Rattle.zpl_nums.specs.declared.ends.Border.TheVariants as border
use Rattle.meaning_ranks.specs.of_zpl_tree.Syntax.{Name, Item, Str, Value}
use Rattle.meaning_ranks.specs.of_zpl_names.Kinds.{Rank}
use Rattle.meaning_ranks.specs.of_zpl_names.Scope.{kind_of}
use Rattle.meaning_ranks.specs.of_zpl_names.Ranks.{array_rank, array_shape}
use Rattle.meaning_ranks.specs.of_zpl_names.Sites.{Printed}
use Rattle.meaning_ranks.specs.of_zpl_names.Types.{type_of}
use Rattle.meaning_ranks.specs.of_zpl_meaning.Store.{Thing, Scalar, ArrayAt, Fixed, thing_of}
use Rattle.meaning_ranks.specs.of_zpl_meaning.Context.{Currents, Edge}
use Rattle.meaning_ranks.specs.of_zpl_meaning.Proper.{HasCurrent, IsUnderCurrent, AreProperItems}
use Rattle.meaning_ranks.specs.Ranked.{AreArraysOf, AreRankedItems}
use Rattle.stored_shifts.specs.of_node_form.Expression as expr
use Rattle.stored_shifts.specs.of_node_form.Expression.{Expression, words_of}
use Rattle.stored_shifts.specs.of_node_form.declared.tables.Tables.{Tables}
use Rattle.stored_shifts.specs.of_node_form.Fits.{IsRank, HasSlot, HasArray, IsStored}
use Rattle.lower_numbers.specs.of_row_runs.Structured as piece
use Rattle.lower_numbers.specs.of_flat_form.Row as row
use Rattle.lower_numbers.specs.of_flat_form.Row.{Row, Words}
use Rattle.lower_numbers.specs.of_zpl_lowering.Where.{Stored, Slotted, slotted_at, SlotEdge, Where, Next, rank_in}
use Rattle.lower_numbers.specs.of_zpl_lowering.Lowered.{Lowered, behind, Phased, phased}
use Rattle.lower_numbers.specs.of_zpl_lowering.Statement.{border_rows, border_thing, each_border, source_shift, lowered_borders, printed_exprs, Shown, scalar_print, shown_at, shown_of, Prints, newline, items_of, of_prints, lowered_write, is_truth}
use Rattle.lowering_fits.specs.Inline.{FitsScalar, FitRows}
use Rattle.lowering_fits.specs.Slates.{TempsAt, FitsOver, FitsTree, FitsVector, AllTemps}
use Rattle.lowering_fits.specs.Reach.{place_at, IsStoredAs, IsReach}
use Rattle.lowering_fits.specs.Lowerings.{IsLaidOut, FitsLowered, FitsEdge, AreSoundItems}
use Rattle.lowering_fits.proofs.TreeLemmas.{scalar_tree, IsThere, stored_at, array_of, stored_of, temps_first, temps_rest, temps_both, unmoved_fits}
use Rattle.lowering_fits.proofs.VectorLemmas.{VectorBy, by_vector, vector_by, opposite_by}
use Rattle.lowering_fits.proofs.SlateLemmas.{rows_both, set_fits, kept_fits}
use Rattle.lowering_fits.proofs.BracketLemmas.{rank_number, LimitsAreTold}
use Rattle.lowering_fits.proofs.SettleLemmas.{over_of}
use Rattle.lowering_fits.proofs.PhaseLemmas.{laid_front, laid_behind, both_fit, rows_alone_fit, AreSound, FitLefts, phases_fit}

-- ---- prints

pub record ShownFits (tables : Tables) (shown : Shown) : Type 0 where
  pub values_fit : FitRows tables 0 shown.values
  pub print_fits : FitRows tables 0 (shown.print ∷ [])
  pub own_temps : AllTemps shown.temps

pub record PrintsFit (tables : Tables) (prints : Prints) : Type 0 where
  pub values_fit : FitRows tables 0 prints.values
  pub prints_fit : FitRows tables 0 prints.prints
  pub own_temps : AllTemps prints.temps

module _ (limits : LimitsAreTold) (base : Tables) (w : Where) (result : ℕ) (currents : Currents)
    (edge : Option Edge) (reach : IsReach base w currents) where
  scalar_print_fits : (truth : Bool) (words : Words) → FitsScalar base words →
      FitRows base 0 (scalar_print truth words ∷ [])
  scalar_print_fits true words fits = (fits, tt)
  scalar_print_fits false words fits = (fits, tt)

  scalar_shown : (line : ℕ) (truth : Bool) (scalar : ℕ) (tree : Expression) →
      scalar < base.scalars → FitsTree base 0 tree →
      ShownFits base (record {
        values = row.Set scalar (words_of tree) line ∷ [];
        print = scalar_print truth (words_of (expr.Variable scalar));
        scalars = 1;
        temps = [];
      })
  scalar_shown line truth scalar tree below fits = record {
    values_fit = (set_fits base scalar tree line below fits, tt);
    print_fits = scalar_print_fits truth (words_of (expr.Variable scalar))
        (scalar_tree base (expr.Variable scalar) below);
    own_temps = tt;
  }

  shown_fits : (line : ℕ) (truth : Bool) (scalar temp : ℕ) (over : Slotted) (rank : Rank)
      (tree : Expression) → IsUnderCurrent currents rank →
      (HasCurrent currents rank → FitsOver base w.numbers (rank_number rank) over) →
      FitsTree base (rank_number rank) tree →
      scalar + (shown_at line truth scalar temp over rank tree).scalars ≤ base.scalars →
      TempsAt base temp (shown_at line truth scalar temp over rank tree).temps →
      ShownFits base (shown_at line truth scalar temp over rank tree)
  shown_fits line truth scalar temp over None tree under has fits below at = absurd under
  shown_fits line truth scalar temp over (Some zero) tree under has fits below at =
      scalar_shown line truth scalar tree (omega arith) fits
  shown_fits line truth scalar temp over (Some (suc rank)) tree under has fits below at =
      let is = has under in
      let array : HasArray base (suc rank) temp =
      subst (λ n. HasArray base n temp) is.floods at.0.0 in
      record {
        values_fit = kept_fits base (suc rank) line temp over.slot tree None is.is_rank is.has array
            at.0.1 fits tt;
        print_fits = ((record { rank = suc rank; fit = (is.has, array) }, tt), tt);
        own_temps = (subst IsRank (sym is.floods) is.is_rank, tt);
      }

  newline_fits : (ends : Bool) → FitRows base 0 (newline ends)
  newline_fits true = (tt, tt)
  newline_fits false = tt

  items_fit : (line scalar temp : ℕ) (ends : Bool) (items : List Item) (left : List Expression) →
      AreProperItems (place_at w result currents edge) items →
      FitLefts base (printed_exprs w items) left →
      scalar + (items_of w line scalar temp ends items left).scalars ≤ base.scalars →
      TempsAt base temp (items_of w line scalar temp ends items left).temps →
      PrintsFit base (items_of w line scalar temp ends items left)
  items_fit line scalar temp ends [] left proper fits below at =
      record { values_fit = tt; prints_fit = newline_fits ends; own_temps = tt }
  items_fit line scalar temp ends (Str bytes ∷ items) left proper fits below at =
      let rest = items_fit line scalar temp ends items left proper fits below at in
      record {
        values_fit = rest.values_fit;
        prints_fit = (tt, rest.prints_fit);
        own_temps = rest.own_temps;
      }
  items_fit line scalar temp ends (Value one ∷ items) [] proper fits below at = absurd fits
  items_fit line scalar temp ends (Value one ∷ items) (first ∷ left) proper fits below at =
      let rank : Rank = rank_in w Printed one in
      let shown : Shown = shown_of w line scalar temp one first in
      let rest : Prints =
      items_of w line (scalar + shown.scalars) (temp + length shown.temps) ends items left in
      let here = shown_fits line (is_truth (type_of w.scope one)) scalar temp
      (slotted_at w.currents rank) rank first proper.0.0
      (over_of base w.numbers currents w.currents rank reach.here) fits.0 (omega arith)
      (temps_first base temp shown.temps rest.temps at) in
      let there = items_fit line (scalar + shown.scalars) (temp + length shown.temps) ends items
      left proper.1 fits.1 (omega arith)
      (temps_rest base temp shown.temps rest.temps at) in
      record {
        values_fit = rows_both base shown.values rest.values here.values_fit there.values_fit;
        prints_fit = (here.print_fits.0, there.prints_fit);
        own_temps = temps_both shown.temps rest.temps here.own_temps there.own_temps;
      }

  sound_items : (items : List Item) → AreProperItems (place_at w result currents edge) items →
      AreRankedItems (place_at w result currents edge) items → AreSoundItems w.scope items →
      AreSound w (place_at w result currents edge) (printed_exprs w items)
  sound_items [] proper ranked sound = tt
  sound_items (Str bytes ∷ items) proper ranked sound = sound_items items proper ranked sound
  sound_items (Value one ∷ items) proper ranked sound = (
    (proper.0.1, ranked.0, sound.0),
    sound_items items proper.1 ranked.1 sound.1,
  )

  pub write_fits : (line : ℕ) (next : Next) (ends : Bool) (items : List Item) →
      AreProperItems (place_at w result currents edge) items →
      AreRankedItems (place_at w result currents edge) items → AreSoundItems w.scope items →
      IsLaidOut base next (lowered_write w line next ends items) →
      FitsLowered base (lowered_write w line next ends items)
  write_fits line next ends items proper ranked sound laid =
      let phases : Phased = phased w line next (printed_exprs w items) in
      let after : Next = behind next phases.lowered in
      let prints : Prints = items_of w line after.scalars after.temps ends items phases.left in
      let rows : Lowered = of_prints prints in
      let code = piece.Then phases.lowered.code rows.code in
      let first = laid_front base next code phases.lowered rows laid in
      let rest = laid_behind base next code phases.lowered rows laid in
      let fit = phases_fit limits base w result currents edge reach line next [] []
      (printed_exprs w items) tt tt (sound_items items proper ranked sound) first in
      let all = items_fit line after.scalars after.temps ends items phases.left proper fit.lefts
      rest.below rest.temps_at in
      both_fit base phases.lowered rows fit.fits (record {
        code_fits = rows_both base prints.values prints.prints all.values_fit all.prints_fit;
        slot_ranks = tt;
        temp_ranks = all.own_temps;
        small_shifts = tt;
      })

  -- ---- borders

  wrap_by : (rank : ℕ) (v : List ℤ) → VectorBy rank v → VectorBy rank (source_shift border.Wrap v)
  wrap_by rank [] by = tt
  wrap_by zero (d ∷ v) by =
      let opposite = opposite_by zero (d ∷ []) (by.0, by.1, tt) in
      (opposite.0, opposite.1, wrap_by zero v by.2)
  wrap_by (suc rank) (d ∷ v) by =
      let opposite = opposite_by (suc rank) (d ∷ []) (by.0, tt) in
      (opposite.0, wrap_by rank v by.1)

  source_fits : (kind : BorderKind) (rank : ℕ) (v : List ℤ) → FitsVector rank v →
      FitsVector rank (source_shift kind v)
  source_fits border.Wrap rank v is = (
    vector_by rank (source_shift border.Wrap v) (wrap_by rank v (by_vector rank v is.0)),
    length-map v neg_ℤ ∙ is.1,
  )
  source_fits border.Reflect rank v is = is

  border_fits : (kind : BorderKind) (own : SlotEdge) (target source line rank : ℕ) (name : Name)
      (thing : Option Thing) → thing_of w.environment name.text ≡ thing →
      array_rank (kind_of w.scope name) ≡ Some rank → HasSlot base rank target →
      HasSlot base rank source → HasSlot base rank own.slot → FitsVector rank own.shift →
      FitRows base 0 (border_thing w.numbers kind own target source line thing)
  border_fits kind own target source line rank name (Some (Scalar place)) e is one two has vector =
      tt
  border_fits kind own target source line rank name (Some (Fixed constant)) e is one two has
      vector = tt
  border_fits kind own target source line rank name None e is one two has vector = tt
  border_fits kind own target source line rank name (Some (ArrayAt place home)) e is one two has
      vector =
      by (slice_get w.numbers.arrays place)
      (stored_at base w.numbers.arrays place reach.numbers.arrays)
      (reach.names name place home e).has
    where
      by : (stored : Option Stored) → IsThere base stored →
          IsSomeAnd stored (IsStoredAs (array_shape (kind_of w.scope name))) →
          FitRows base 0 (border_rows kind own target source line stored)
      by None there found = tt
      by (Some stored) there found =
          let both : Some stored.storage.rank ≡ Some rank = sym found.rank ∙ is in
          let same : stored.storage.rank ≡ rank = ap rank_number both in
          let array : HasArray base rank stored.array =
          array_of base rank stored.array stored.storage there same in
          let is_stored : IsStored base stored.array =
          stored_of base stored.array stored.storage there in (
            (
              record { rank = rank; fit = (one, array, is_stored, unmoved_fits rank) },
              tt,
            ),
            (
              (
                record { rank = rank; fit = (two, array, is_stored, unmoved_fits rank) },
                tt,
              ),
              ((record { rank = rank; fit = (has, array, vector.0) }, vector.1), tt),
            ),
          )

  each_fits : (kind : BorderKind) (own : SlotEdge) (target source line rank : ℕ)
      (names : List Name) → w.prefix ≡ Some rank →
      AreArraysOf (place_at w result currents edge) w.prefix names → HasSlot base rank target →
      HasSlot base rank source → HasSlot base rank own.slot → FitsVector rank own.shift →
      FitRows base 0 (each_border w kind own target source line names)
  each_fits kind own target source line rank [] is are one two has vector = tt
  each_fits kind own target source line rank (name ∷ names) is are one two has vector =
      rows_both base
      (border_thing w.numbers kind own target source line (thing_of w.environment name.text))
      (each_border w kind own target source line names)
      (border_fits kind own target source line rank name (thing_of w.environment name.text) refl
      (are.0 ∙ is) one two has vector)
      (each_fits kind own target source line rank names is are.1 one two has vector)

  pub borders_fit : (kind : BorderKind) (own : Option SlotEdge) (line : ℕ) (next : Next)
      (names : List Name) → FitsEdge base w currents own →
      AreArraysOf (place_at w result currents edge) w.prefix names →
      IsLaidOut base next (lowered_borders w kind own line next names) →
      FitsLowered base (lowered_borders w kind own line next names)
  borders_fit kind None line next names fits are laid = rows_alone_fit base [] tt
  borders_fit kind (Some own) line next names fits are laid =
      let rank : ℕ = fits.0 in
      let over : Slotted = slotted_at w.currents w.prefix in
      let found = over_of base w.numbers currents w.currents w.prefix reach.here fits.1.1 in
      let number : rank_number w.prefix ≡ rank = ap rank_number fits.1.0 in
      let is : FitsOver base w.numbers rank over =
      subst (λ n. FitsOver base w.numbers n over) number found in
      let here : HasSlot base rank next.slots =
      subst (λ n. HasSlot base n next.slots) is.floods laid.slots_at.0 in
      record {
        code_fits = (
          (record { rank = rank; fit = (fits.1.2, fits.1.3.0) }, tt),
          (
            (
              record {
                rank = rank;
                fit = (here, fits.1.2, (source_fits kind rank own.shift fits.1.3).0);
              },
              (source_fits kind rank own.shift fits.1.3).1,
            ),
            each_fits kind own over.slot next.slots line rank names fits.1.0 are is.has here
                fits.1.2 fits.1.3,
          ),
        );
        slot_ranks = (subst IsRank (sym is.floods) is.is_rank, tt);
        temp_ranks = tt;
        small_shifts = tt;
      }
