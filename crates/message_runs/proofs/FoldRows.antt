-- A fold agrees: all come to the value that the whole state has.
use Rattle.std.proofs.Common.{◌≡◌, ◌⊎◌, refl, sym, ◌∙◌, ap, subst, inl, inr, ℕ, zero, suc, ◌<◌, Bool, true, false, ◌==◌, eqb-true, List, [], ◌∷◌, ℤ, pos, length, Option, Some, None, arith}
use Rattle.std.specs.Prelude.{if◌then◌else◌, is_none, option_and_then, slice_get, slice_index_or, slice_set}
use Rattle.zpl_nums.specs.declared.folds.Fold.{Fold}
use Rattle.zpl_nums.specs.declared.folds.Fold.TheVariants as operator
use Rattle.zpl_nums.specs.Fold.{joined}
use Rattle.node_form.specs.declared.instructions.Instr.TheVariants as instr
use Rattle.node_form.specs.declared.tables.Tables.{Tables}
use Rattle.grid_meaning.specs.Collective.{scalar_at}
use Rattle.grid_meaning.specs.Local.{processors}
use Rattle.row_orders.specs.Agreement.{joined_over}
use Rattle.row_runs.specs.Run.{Does, Goes, Stops, Wrong}
use Rattle.flat_form.specs.Act.{fold_number, is_awaited}
use Rattle.flat_form.specs.Right.{is_settled}
use Rattle.flat_form.specs.Whole.{Whole}
use Rattle.plan_orders.specs.of_plan_meaning.Abreast.{Abreast, are_none, go_where, locals_of}
use Rattle.plan_orders.specs.of_plan_meaning.Act as plan
use Rattle.normal_runs.proofs.PlaceLemmas.{set_apart, set_length, set_there}
use Rattle.row_runs.specs.Rows.{AreEffects, BothGo, OldWrong}
use Rattle.needs_runs.specs.Agree.{FitRowAgrees}
use Rattle.needs_runs.specs.Holds.{Holds}
use Rattle.needs_runs.proofs.HoldsLemmas.{joined_same, some_processors}
use Rattle.needs_runs.proofs.RoomRows.{set_cases}
use Rattle.message_runs.proofs.PrintRows.{index_there}

-- ---- lists with an element set
index_beside : {X : Type 0} (xs : List X) (k j : ℕ) (x d : X) → (k ≡ j → ⊥)
    → slice_index_or (slice_set xs k x) j d ≡ slice_index_or xs j d
index_beside [] k j x d apart = refl
index_beside (y ∷ xs) zero zero x d apart = absurd (apart refl)
index_beside (y ∷ xs) zero (suc j) x d apart = refl
index_beside (y ∷ xs) (suc k) zero x d apart = refl
index_beside (y ∷ xs) (suc k) (suc j) x d apart =
    index_beside xs k j x d (λ same. apart (ap suc same))

same_or_apart : (k j : ℕ) → (k ≡ j) ⊎ (k ≡ j → ⊥)
same_or_apart zero zero = inl refl
same_or_apart zero (suc j) = inr (λ same. cc)
same_or_apart (suc k) zero = inr (λ same. cc)
same_or_apart (suc k) (suc j) = by (same_or_apart k j)
  where
    by : (k ≡ j) ⊎ (k ≡ j → ⊥) → (suc k ≡ suc j) ⊎ (suc k ≡ suc j → ⊥)
    by (inl same) = inl (ap suc same)
    by (inr apart) = inr (λ same. apart (let e : k ≡ j = omega (arith, same) in e))

-- ---- folds are told apart by their numbers
by_number : ℕ → Fold
by_number zero = operator.Sum
by_number (suc zero) = operator.Prod
by_number (suc (suc zero)) = operator.Max
by_number (suc (suc (suc zero))) = operator.Min
by_number (suc (suc (suc (suc zero)))) = operator.All
by_number n = operator.Any

numbered : (f : Fold) → by_number (fold_number f) ≡ f
unfolding by_number
numbered operator.Sum = refl
numbered operator.Prod = refl
numbered operator.Max = refl
numbered operator.Min = refl
numbered operator.All = refl
numbered operator.Any = refl

same_fold : (f g : Fold) → (fold_number f == fold_number g) ≡ true → f ≡ g
same_fold f g e =
    sym (numbered f) ∙ (ap by_number (eqb-true (fold_number f) (fold_number g) e) ∙ numbered g)

awaited_fold : (f : Fold) (o : Option (Option Fold)) → is_awaited f o ≡ true → o ≡ Some (Some f)
awaited_fold f (Some (Some g)) e = ap (λ h. Some (Some h)) (sym (same_fold f g e))
awaited_fold f (Some None) e = cc
awaited_fold f None e = cc

module _ (code : Tables) (whole : Whole) (all : Abreast) (holds : Holds code whole all)
    (scalar : ℕ) (f : Fold) (low : scalar < code.scalars) where
  abbrev value_is : ℤ
  value_is = joined_over (processors code) (joined f) (scalar_at scalar) (locals_of all)

  abbrev whole_behind : Whole
  whole_behind = record whole { awaited = slice_set whole.awaited scalar None }

  abbrev all_behind : Abreast
  all_behind = record all {
    shares = λ p. record (all.shares p) {
      scalars = slice_set (all.shares p).scalars scalar value_is;
    };
  }

  module _ (awaited : slice_get whole.awaited scalar ≡ Some (Some f)) where
    own_scalars : (p : ℕ) → p < processors code → (k : ℕ) → is_settled whole_behind k ≡ true
        → slice_get (all_behind.shares p).scalars k ≡ slice_get whole.scalars k
    own_scalars p below k settled = by (same_or_apart scalar k)
      where
        by : (scalar ≡ k) ⊎ (scalar ≡ k → ⊥)
            → slice_get (all_behind.shares p).scalars k ≡ slice_get whole.scalars k
        by (inl same) =
            subst (λ j. slice_get (all_behind.shares p).scalars j ≡ slice_get whole.scalars j) same
            (set_there (all.shares p).scalars scalar value_is _
            (index_there (all.shares p).scalars scalar (pos 0)
            (subst (λ many. scalar < many) (sym (holds.own p below).parts.scalars) low))
            ∙ sym (holds.totals scalar f awaited))
        by (inr apart) =
            set_apart (all.shares p).scalars scalar k value_is apart
            ∙ (holds.own p below).scalars k
            (sym (ap (λ o. is_none (option_and_then (λ (a : Option Fold). a) o))
            (set_apart whole.awaited scalar k None apart)) ∙ settled)

    all_totals : (k : ℕ) (g : Fold)
        → slice_get (slice_set whole.awaited scalar None) k ≡ Some (Some g)
        → slice_get whole.scalars k
        ≡ Some (joined_over (processors code) (joined g) (scalar_at k) (locals_of all_behind))
    all_totals k g is = by (set_cases whole.awaited scalar k None (Some g) is)
      where
        by : ((scalar ≡ k) × (None ≡ Some g))
            ⊎ ((scalar ≡ k → ⊥) × (slice_get whole.awaited k ≡ Some (Some g)))
            → slice_get whole.scalars k
            ≡ Some (joined_over (processors code) (joined g) (scalar_at k) (locals_of all_behind))
        by (inl (same, none)) = cc
        by (inr (apart, there)) =
            holds.totals k g there
            ∙ ap Some (joined_same (processors code) (joined g) (scalar_at k) (locals_of all)
            (locals_of all_behind) (some_processors code)
            (λ p below. sym (index_beside (all.shares p).scalars scalar k value_is (pos 0) apart)))

    fold_holds : Holds code whole_behind all_behind
    fold_holds = record {
      is_whole = record {
        scalars = holds.is_whole.scalars;
        awaited = set_length whole.awaited scalar None ∙ holds.is_whole.awaited;
        slots = holds.is_whole.slots;
        stores = holds.is_whole.stores;
      };
      arrays = holds.arrays;
      floods = holds.floods;
      slots = holds.slots;
      own = λ p below. let own = holds.own p below in record {
        parts = record {
          scalars = set_length (all.shares p).scalars scalar value_is ∙ own.parts.scalars;
          cells = own.parts.cells;
          slots = own.parts.slots;
          stores = own.parts.stores;
          flag = own.parts.flag;
        };
        flag = own.flag;
        slots = own.slots;
        scalars = own_scalars p below;
        arrays = own.arrays;
      };
      totals = all_totals;
      flights = holds.flights;
    }

module _ (code : Tables) (links : Option ℕ) (n : ℕ) where
  pub fold_agrees : (scalar : ℕ) (f : Fold) → FitRowAgrees code links n (instr.Fold scalar f)
  fold_agrees scalar f fits three whole all holds =
      by (is_awaited f (slice_get whole.awaited scalar)) refl
    where
      by : (b : Bool) → is_awaited f (slice_get whole.awaited scalar) ≡ b
          → AreEffects (Holds code)
          (Does (if b then Goes [] (record whole { awaited = slice_set whole.awaited scalar None })
          else Stops Wrong))
          (Does (plan.folded code all scalar f))
      by false e = OldWrong
      by true e =
          subst (λ b. AreEffects (Holds code)
          (Does (Goes [] (record whole { awaited = slice_set whole.awaited scalar None })))
          (Does (go_where b [] (all_behind code whole all holds scalar f fits.fit))))
          (sym (ap are_none holds.flights))
          (BothGo (fold_holds code whole all holds scalar f fits.fit
          (awaited_fold f (slice_get whole.awaited scalar) e)))
