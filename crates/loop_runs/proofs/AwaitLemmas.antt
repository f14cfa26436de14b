-- Behind a loop the fold of each scalar that it accumulates is to come.
use Rattle.std.proofs.Common.{◌≡◌, inl, inr, refl, sym, ◌∙◌, ap, subst, arith, ℕ, zero, suc, ◌<◌}
use Rattle.std.proofs.Common.{Bool, true, false, true≢false, ◌||◌, List, [], ◌∷◌, length, map, Some}
use Rattle.std.proofs.Common.{eqb-true}
use Rattle.std.specs.Prelude.{◌==◌, fold, slice_get, slice_set}
use Rattle.zpl_nums.specs.declared.folds.Fold.{Fold}
use Rattle.zpl_region.proofs.ListLemmas.{Among}
use Rattle.flat_form.specs.Loop.{awaiting}
use Rattle.flat_form.specs.Names.{Total}
use Rattle.flat_form.specs.Right.{is_among}
use Rattle.flat_form.specs.Whole.{Whole}
use Rattle.loop_runs.proofs.WriteLemmas.{same_number, set_apart, set_length}

abbrev pub numbers : List Total → List ℕ
numbers totals = map (λ (total : Total). total.scalar) totals

-- only what is awaited changes
pub await_scalars : (totals : List Total) (w : Whole)
    → (fold awaiting w totals).scalars ≡ w.scalars
await_scalars [] w = refl
await_scalars (total ∷ totals) w = await_scalars totals (awaiting w total)

pub await_stores : (totals : List Total) (w : Whole) → (fold awaiting w totals).stores ≡ w.stores
await_stores [] w = refl
await_stores (total ∷ totals) w = await_stores totals (awaiting w total)

pub await_slots : (totals : List Total) (w : Whole) → (fold awaiting w totals).slots ≡ w.slots
await_slots [] w = refl
await_slots (total ∷ totals) w = await_slots totals (awaiting w total)

set_in : {X : Type 0} (xs : List X) (k : ℕ) (x : X) → k < length xs
    → slice_get (slice_set xs k x) k ≡ Some x
set_in [] k x low = absurd (omega (arith, low))
set_in (y ∷ xs) zero x low = refl
set_in (y ∷ xs) (suc k) x low = set_in xs k x (omega (arith, low))

pub await_other : (totals : List Total) (w : Whole) (k : ℕ) → is_among k (numbers totals) ≡ false
    → slice_get (fold awaiting w totals).awaited k ≡ slice_get w.awaited k
await_other [] w k none = refl
await_other (total ∷ totals) w k none = by (total.scalar == k) refl none
    (λ e. await_other totals (awaiting w total) k e)
  where
    by : (b : Bool) → (total.scalar == k) ≡ b → (b || is_among k (numbers totals)) ≡ false
        → (is_among k (numbers totals) ≡ false
        → slice_get (fold awaiting (awaiting w total) totals).awaited k
        ≡ slice_get (awaiting w total).awaited k)
        → slice_get (fold awaiting (awaiting w total) totals).awaited k ≡ slice_get w.awaited k
    by true e none rest = absurd (true≢false none)
    by false e none rest =
        rest none
        ∙ set_apart w.awaited total.scalar k (Some total.operator)
        (λ same. true≢false (sym (same_number total.scalar)
        ∙ (ap (λ n. total.scalar == n) same ∙ e)))

-- a scalar that is accumulated is awaited, by an operator of its totals
pub record IsAwaited (totals : List Total) (w : Whole) (k : ℕ) : Type 0 where
  pub operator : Fold
  pub among : Among totals (record { scalar = k; operator = operator })
  pub awaited : slice_get (fold awaiting w totals).awaited k ≡ Some (Some operator)

pub await_here : (totals : List Total) (w : Whole) (k : ℕ) → k < length w.awaited
    → is_among k (numbers totals) ≡ true → IsAwaited totals w k
await_here [] w k low is = cc
await_here (total ∷ totals) w k low is =
    by (is_among k (numbers totals)) refl (total.scalar == k) refl is
    (λ e. await_here totals (awaiting w total) k
    (subst (λ n. k < n) (sym (set_length w.awaited total.scalar (Some total.operator))) low) e)
  where
    by : (c : Bool) → is_among k (numbers totals) ≡ c → (b : Bool) → (total.scalar == k) ≡ b
        → (b || is_among k (numbers totals)) ≡ true
        → (is_among k (numbers totals) ≡ true → IsAwaited totals (awaiting w total) k)
        → IsAwaited (total ∷ totals) w k
    by true later b e is rest =
        let more = rest later in record {
          operator = more.operator;
          among = inr more.among;
          awaited = more.awaited;
        }
    by false later true e is rest =
        let same : total.scalar ≡ k = eqb-true total.scalar k e in record {
          operator = total.operator;
          among = inl (ap (λ n. record { scalar = n; operator = total.operator }) same);
          awaited = await_other totals (awaiting w total) k later
              ∙ subst (λ n. slice_get (slice_set w.awaited n (Some total.operator)) k
              ≡ Some (Some total.operator)) (sym same)
              (set_in w.awaited k (Some total.operator) low);
        }
    by false later false e is rest = absurd (true≢false (sym is ∙ later))
