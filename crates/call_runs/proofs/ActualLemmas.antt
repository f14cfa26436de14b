-- What the parameters of a call take, in the meaning and in code.
use Rattle.std.proofs.Common.{◌≡◌, ℕ, zero, suc, ◌+◌, ◌≤◌, ◌<◌, true, false, ℤ, List, [], ◌∷◌, ◌++◌}
use Rattle.std.proofs.Common.{map, length, Option, Some, None, refl, sym, ap, ◌∙◌, subst, arith}
use Rattle.std.specs.Option.{option_map}
use Rattle.std.specs.Prelude.{slice_get}
use Rattle.zpl_region.specs.declared.regions.Region.{Region}
use Rattle.zpl_arrays.specs.Array.{Array}
use Rattle.zpl_tree.specs.Syntax.{Expr, Exprs, NoExpr, ThenExpr}
use Rattle.zpl_names.specs.Counts.{exprs_nodes}
use Rattle.zpl_names.specs.Kinds.{Formal, ScalarFormal, ArrayFormal}
use Rattle.zpl_meaning.specs.Store.{Store, Thing, Scalar, ArrayAt, Fixed, array_at}
use Rattle.zpl_meaning.specs.Context.{Place}
use Rattle.zpl_meaning.specs.Calls as mean_calls
use Rattle.zpl_meaning.specs.Calls.{Handed, actual_thing, copied_array, handed_on}
use Rattle.row_runs.specs.Straight.{Every}
use Rattle.flat_form.specs.Whole.{Whole}
use Rattle.prefix_runs.specs.of_zpl_lowering.Where.{Stored, Where, Next}
use Rattle.prefix_runs.specs.of_zpl_lowering.Statement as low
use Rattle.prefix_runs.specs.of_zpl_lowering.Statement.{Given}
use Rattle.prefix_runs.specs.of_lowering_runs.Seen.{Spot, Sight, array_in, numbered, scalar_in, seen_place, seen_store, seen_thing}
use Rattle.prefix_runs.specs.of_lowering_runs.Stands.{IsKnown, Stands}
use Rattle.prefix_runs.specs.of_lowering_runs.Frames.{seen_given}
use Rattle.prefix_runs.proofs.of_lowering_runs.CallLemmas.{actual_known, actual_seen, referred_is}
use Rattle.prefix_runs.specs.of_lowering_runs.Values.{Hold, nodes_of}
use Rattle.prefix_runs.proofs.of_lowering_runs.ValueLemmas.{known_thing}
use Rattle.prefix_runs.proofs.of_array_runs.StoredLemmas.{seen_at}
use Rattle.call_runs.specs.Taken.{AllGiven, AreCallActuals, IsArrayThing}

-- ---- arrays that are there

pub stored_there : (arrays : List Stored) (place : ℕ) → place < length arrays
    → (stored : Stored) × (slice_get arrays place ≡ Some stored)
stored_there [] place lt = absurd (omega (arith, lt))
stored_there (one ∷ arrays) zero lt = (one, refl)
stored_there (one ∷ arrays) (suc place) lt = stored_there arrays place (omega (arith, lt))

unseen_array : (spots : List Spot) (thing : Option Thing)
    → IsArrayThing (option_map (seen_thing spots) thing) → IsArrayThing thing
unseen_array spots (Some (ArrayAt place home)) h = tt
unseen_array spots (Some (Scalar place)) h = h
unseen_array spots (Some (Fixed value)) h = h
unseen_array spots None h = h

module _ (IsValue : Expr → Where → Place → Type 0) (sight : Sight) (w : Where) (start : Whole) where
  abbrev place : Place
  place = seen_place sight w start

  -- the actuals of parameters that take the value of a scalar
  pub values_are : (formals : List Formal) (actuals : Exprs)
      → AreCallActuals IsValue w place formals actuals
      → Every (λ placed. IsValue placed.expr w place) (low.value_exprs w formals actuals)
  values_are [] actuals h = tt
  values_are (formal ∷ formals) NoExpr h = tt
  values_are (ScalarFormal false base ∷ formals) (ThenExpr actual rest) h =
      (h.0, values_are formals rest h.1)
  values_are (ScalarFormal true base ∷ formals) (ThenExpr actual rest) h =
      values_are formals rest h.1
  values_are (ArrayFormal true base shape ∷ formals) (ThenExpr actual rest) h =
      values_are formals rest h.1
  values_are (ArrayFormal false base shape ∷ formals) (ThenExpr actual rest) h =
      values_are formals rest h.1

  -- they have no more nodes than all actuals
  pub values_counted : (formals : List Formal) (actuals : Exprs)
      → nodes_of (low.value_exprs w formals actuals) ≤ exprs_nodes actuals
  values_counted [] actuals = omega arith
  values_counted (formal ∷ formals) NoExpr = omega arith
  values_counted (ScalarFormal false base ∷ formals) (ThenExpr actual rest) =
      let h = values_counted formals rest in omega (arith, h)
  values_counted (ScalarFormal true base ∷ formals) (ThenExpr actual rest) =
      let h = values_counted formals rest in omega (arith, h)
  values_counted (ArrayFormal by_ref base shape ∷ formals) (ThenExpr actual rest) =
      let h = values_counted formals rest in omega (arith, h)

  module _ (next : Next) (stands : Stands sight.spots w next) where
    known_actual : (actual : Expr) (found : Thing) → actual_thing w.environment actual ≡ Some found
        → IsKnown (length (numbered sight.spots)) (length w.numbers.arrays) found
    known_actual actual found e =
        actual_known (length (numbered sight.spots)) (length w.numbers.arrays) w.environment actual
        found
        (λ text q. known_thing (length (numbered sight.spots)) (length w.numbers.arrays)
        w.environment.names text found stands.known q) e

    -- ---- a copy

    -- what is copied is an array of the store
    record IsCopying (thing : Option Thing) : Type 0 where
      at : ℕ
      home : Region
      stored : Stored
      named : thing ≡ Some (ArrayAt at home)
      found : slice_get w.numbers.arrays at ≡ Some stored
      made : low.copying w.numbers thing ≡ low.Copied stored home ∷ []

    copying_of : (thing : Option Thing) → IsArrayThing thing
        → ((found : Thing) → thing ≡ Some found
        → IsKnown (length (numbered sight.spots)) (length w.numbers.arrays) found)
        → IsCopying thing
    copying_of (Some (ArrayAt p home)) h known =
        let s = stored_there w.numbers.arrays p (known (ArrayAt p home) refl) in
        record {
          at = p;
          home = home;
          stored = s.0;
          named = refl;
          found = s.1;
          made = made s.0 s.1;
        }
      where
        made : (stored : Stored) → slice_get w.numbers.arrays p ≡ Some stored
            → low.copying w.numbers (Some (ArrayAt p home)) ≡ low.Copied stored home ∷ []
        made stored e = rw e refl
    copying_of (Some (Scalar p)) h known = absurd h
    copying_of (Some (Fixed value)) h known = absurd h
    copying_of None h known = absurd h

    copy_of : (actual : Expr) → IsArrayThing (actual_thing place.environment actual)
        → IsCopying (actual_thing w.environment actual)
    copy_of actual h =
        copying_of (actual_thing w.environment actual)
        (unseen_array sight.spots (actual_thing w.environment actual)
        (subst IsArrayThing (actual_seen sight.spots w.environment actual) h))
        (known_actual actual)

    copied_is : (actual : Expr) (after : Whole) (store : Store) (rest : List Handed)
        (more : List Given) → IsArrayThing (actual_thing place.environment actual)
        → store ≡ seen_store sight.spots w.numbers.arrays after
        → rest ≡ map (seen_given sight.spots after) more
        → copied_array store (actual_thing place.environment actual) ∷ rest
        ≡ map (seen_given sight.spots after)
        (low.copying w.numbers (actual_thing w.environment actual) ++ more)
    copied_is actual after store rest more h s e =
        let c = copy_of actual h in
        let thing : actual_thing place.environment actual ≡ Some (ArrayAt c.at c.home) =
        actual_seen sight.spots w.environment actual
        ∙ ap (option_map (seen_thing sight.spots)) c.named in
        ap (λ (t : Option Thing). copied_array store t ∷ rest) thing
        ∙ ap (λ (a : Array). mean_calls.CopiedArray a c.home ∷ rest)
        (ap (λ (t : Store). array_at t c.at) s ∙ seen_at after w.numbers.arrays c.at c.stored c.found)
        ∙ ap (λ hs. mean_calls.CopiedArray (array_in after c.stored.array) c.home ∷ hs) e
        ∙ ap (λ gs. map (seen_given sight.spots after) (gs ++ more)) (sym c.made)

    -- ---- all parameters

    pub handed_is : (formals : List Formal) (actuals : Exprs) (k : ℕ) (values : List ℤ)
        (store : Store) (after : Whole) → AreCallActuals IsValue w place formals actuals
        → length values ≡ length (low.value_exprs w formals actuals) → Hold after k values
        → store ≡ seen_store sight.spots w.numbers.arrays after
        → handed_on place.environment store formals actuals values
        ≡ map (seen_given sight.spots after) (low.given_to w k formals actuals)
    handed_is [] actuals k values store after h many held s = refl
    handed_is (formal ∷ formals) NoExpr k values store after h many held s = refl
    handed_is (ScalarFormal false base ∷ formals) (ThenExpr actual rest) k [] store after h many
        held s = absurd (omega (arith, many))
    handed_is (ScalarFormal false base ∷ formals) (ThenExpr actual rest) k (value ∷ values) store
        after h many held s =
        ap (λ (v : ℤ). mean_calls.Copied v ∷ handed_on place.environment store formals rest values)
        (sym held.0)
        ∙ ap (λ hs. mean_calls.Copied (scalar_in after k) ∷ hs)
        (handed_is formals rest (suc k) values store after h.1 (omega (arith, many)) held.1 s)
    handed_is (ScalarFormal true base ∷ formals) (ThenExpr actual rest) k values store after h many
        held s =
        referred_is sight w start actual after _ (low.given_to w k formals rest) h.0
        (handed_is formals rest k values store after h.1 many held s)
    handed_is (ArrayFormal true base shape ∷ formals) (ThenExpr actual rest) k values store after h
        many held s =
        referred_is sight w start actual after _ (low.given_to w k formals rest) h.0
        (handed_is formals rest k values store after h.1 many held s)
    handed_is (ArrayFormal false base shape ∷ formals) (ThenExpr actual rest) k values store after h
        many held s =
        copied_is actual after store _ (low.given_to w k formals rest) h.0 s
        (handed_is formals rest k values store after h.1 many held s)

    abbrev Given_ : ℕ → List Given → ℕ → Type 0
    Given_ = AllGiven (length (numbered sight.spots)) w.numbers.arrays

    referring_given : (thing : Option Thing) (k to : ℕ) (more : List Given)
        → ((found : Thing) → thing ≡ Some found
        → IsKnown (length (numbered sight.spots)) (length w.numbers.arrays) found)
        → Given_ k more to → Given_ k (low.referring thing ++ more) to
    referring_given None k to more h g = g
    referring_given (Some thing) k to more h g = (h thing refl, g)

    pub given_is : (formals : List Formal) (actuals : Exprs) (k to : ℕ)
        → AreCallActuals IsValue w place formals actuals
        → k + length (low.value_exprs w formals actuals) ≤ to
        → Given_ k (low.given_to w k formals actuals) to
    given_is [] actuals k to h le = omega (arith, le)
    given_is (formal ∷ formals) NoExpr k to h le = omega (arith, le)
    given_is (ScalarFormal false base ∷ formals) (ThenExpr actual rest) k to h le =
        (omega arith, given_is formals rest (suc k) to h.1 (omega (arith, le)))
    given_is (ScalarFormal true base ∷ formals) (ThenExpr actual rest) k to h le =
        referring_given (actual_thing w.environment actual) k to (low.given_to w k formals rest)
        (known_actual actual) (given_is formals rest k to h.1 le)
    given_is (ArrayFormal true base shape ∷ formals) (ThenExpr actual rest) k to h le =
        referring_given (actual_thing w.environment actual) k to (low.given_to w k formals rest)
        (known_actual actual) (given_is formals rest k to h.1 le)
    given_is (ArrayFormal false base shape ∷ formals) (ThenExpr actual rest) k to h le =
        let c = copy_of actual h.0 in
        subst (λ (gs : List Given). Given_ k (gs ++ low.given_to w k formals rest) to) (sym c.made)
        ((c.at, c.found), given_is formals rest k to h.1 le)

pub given_earlier : (scalars : ℕ) (arrays : List Stored) (from later : ℕ) (givens : List Given)
    (to : ℕ) → from ≤ later → AllGiven scalars arrays later givens to
    → AllGiven scalars arrays from givens to
given_earlier scalars arrays from later [] to le h = omega (arith, le, h)
given_earlier scalars arrays from later (low.Valued k ∷ givens) to le h =
    (omega (arith, le, h.0), h.1)
given_earlier scalars arrays from later (low.Referring thing ∷ givens) to le h =
    (h.0, given_earlier scalars arrays from later givens to le h.1)
given_earlier scalars arrays from later (low.Copied stored home ∷ givens) to le h =
    (h.0, given_earlier scalars arrays from later givens to le h.1)
