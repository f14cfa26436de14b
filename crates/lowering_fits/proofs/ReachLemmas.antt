-- Names in reach of a body fit, where those of the procedure that calls it do.
use Rattle.std.proofs.Common.{◌≡◌, ℕ, zero, suc, ◌<◌, Bool, true, false, List, [], ◌∷◌, ◌++◌, length, refl, sym, ap, ap₂, ◌∙◌, subst, arith, cond, rules}
use Rattle.std.specs.Prelude.{Option, Some, None, option_map, find, slice_get}
use Rattle.std.specs.Option.{IsSomeAnd, option_or}
use Rattle.std.specs.Str.{bytes_eq}
use Rattle.zpl_region.specs.declared.regions.Region.{Region}
use Rattle.meaning_ranks.specs.of_zpl_tree.Syntax.{Base, Name, Expr, Number, Truth, Coord, Named, Shifted, Around, Remap, Call, Paren, Neg, Not, Abs, Pair, Reduce, Scan, Flood, Exprs, NoExpr, ThenExpr, Program}
use Rattle.meaning_ranks.specs.of_zpl_names.Kinds as kind
use Rattle.meaning_ranks.specs.of_zpl_names.Kinds.{Kind, Shape, Formal, ScalarFormal, ArrayFormal}
use Rattle.meaning_ranks.specs.of_zpl_names.Scope.{Scope, kind_in, kind_of}
use Rattle.meaning_ranks.specs.of_zpl_names.Ranks.{array_shape}
use Rattle.meaning_ranks.specs.of_zpl_names.Declared.{Routine, globals_of, scope_of}
use Rattle.meaning_ranks.specs.of_zpl_meaning.Store.{Thing, Scalar, ArrayAt, Fixed, Names, Environment, thing_of}
use Rattle.meaning_ranks.specs.of_zpl_meaning.Context.{Place}
use Rattle.meaning_ranks.specs.of_zpl_meaning.Calls.{actual_thing}
use Rattle.meaning_ranks.specs.of_zpl_meaning.Proper.{IsArray, IsVariable, AreProperActuals}
use Rattle.meaning_ranks.specs.Ranked.{IsShapedActual, AreShapedActuals}
use Rattle.stored_shifts.specs.of_node_form.declared.tables.Tables.{Tables}
use Rattle.lower_numbers.specs.of_zpl_lowering.Where.{Stored, Numbers, Where}
use Rattle.lower_numbers.specs.of_zpl_lowering.Statement.{Given, Copied, Referring, referring, copying, given_to}
use Rattle.lowering_fits.specs.Slates.{AllBelow}
use Rattle.lowering_fits.specs.Reach.{IsStoredAs, FitsName, FitNames, FitScalars, IsKept, named_thing, AreGlobals}
use Rattle.lowering_fits.specs.Storages.{IsHomeIn}
use Rattle.lowering_fits.proofs.KeptLemmas.{AreKept, IsBoth, kept_found, AreGivenOf}

-- ---- names of lists, one behind the other

thing_or : (ns ms : Names) (text : List ℕ) →
    named_thing (ns ++ ms) text ≡ option_or (named_thing ns text) (named_thing ms text)
thing_or [] ms text = refl
thing_or (n ∷ ns) ms text = by (bytes_eq n.0 text) (thing_or ns ms text)
  where
    by : (b : Bool) →
        named_thing (ns ++ ms) text ≡ option_or (named_thing ns text) (named_thing ms text) →
        option_map (λ entry. entry.1)
        (cond b (Some n) (find (λ entry. bytes_eq entry.0 text) (ns ++ ms))) ≡
        option_or (option_map (λ entry. entry.1)
        (cond b (Some n) (find (λ entry. bytes_eq entry.0 text) ns))) (named_thing ms text)
    by true later = refl
    by false later = later

array_kept_as : (numbers : Numbers) (one : Kind) (place : ℕ) (home : Region) →
    IsKept numbers one (ArrayAt place home) → FitsName numbers (array_shape (Some one)) place home
array_kept_as numbers (kind.Array base shape) place home is = is
array_kept_as numbers (kind.Scalar base) place home is = absurd is
array_kept_as numbers (kind.Config base) place home is = absurd is
array_kept_as numbers (kind.Constant base) place home is = absurd is
array_kept_as numbers (kind.Region shape) place home is = absurd is
array_kept_as numbers (kind.Direction rank) place home is = absurd is
array_kept_as numbers (kind.Procedure signature) place home is = absurd is

scalar_kept_as : (numbers : Numbers) (one : Kind) (place : ℕ) → IsKept numbers one (Scalar place) →
    place < length numbers.scalars
scalar_kept_as numbers (kind.Scalar base) place is = is
scalar_kept_as numbers (kind.Array base shape) place is = absurd is
scalar_kept_as numbers (kind.Config base) place is = absurd is
scalar_kept_as numbers (kind.Constant base) place is = absurd is
scalar_kept_as numbers (kind.Region shape) place is = absurd is
scalar_kept_as numbers (kind.Direction rank) place is = absurd is
scalar_kept_as numbers (kind.Procedure signature) place is = absurd is

-- a kind that a name has, and a thing of the kind
record IsNamedAs (program : Program) (routine : Routine) (numbers : Numbers) (name : Name)
    (thing : Thing) : Type 0 where
  one : Kind
  is : kind_of (scope_of program routine) name ≡ Some one
  kept : IsKept numbers one thing

some_same : (a b : Thing) → Some a ≡ Some b → a ≡ b
some_same a b same = cc

-- names of scalars are among those that have numbers
abbrev pub FewScalars : Environment → Numbers → Type 0
FewScalars environment numbers =
    (text : List ℕ) (place : ℕ) → thing_of environment text ≡ Some (Scalar place) →
    place < length numbers.scalars

pub scalars_are_few : (tables : Tables) (environment : Environment) (numbers : Numbers) →
    FitScalars tables environment numbers → FewScalars environment numbers
scalars_are_few tables environment numbers variables text place is =
    by numbers.scalars place (variables text place is)
  where
    by : (xs : List ℕ) (place : ℕ) → IsSomeAnd (slice_get xs place) (λ n. n < tables.scalars) →
        place < length xs
    by [] place is = absurd is
    by (x ∷ xs) zero is = omega arith
    by (x ∷ xs) (suc place) is = let later = by xs place is in omega (arith, later)

module _ (program : Program) (routine : Routine) (numbers : Numbers) (names globals : Names)
    (own : AreKept numbers routine.own names) (others : AreGlobals program numbers globals) where
  named_as : (name : Name) (thing : Thing) →
      thing_of (record { names = names ++ globals }) name.text ≡ Some thing →
      IsNamedAs program routine numbers name thing
  named_as name thing is =
      by (kind_in routine.own name.text) (named_thing names name.text) refl
      (kept_found numbers routine.own names name.text own)
      (sym (thing_or names globals name.text) ∙ is)
    where
      by : (one : Option Kind) (found : Option Thing) → kind_in routine.own name.text ≡ one →
          IsBoth numbers one found →
          option_or found (named_thing globals name.text) ≡ Some thing →
          IsNamedAs program routine numbers name thing
      by None None none both there =
          let global = others name.text thing there in
          record {
            one = global.0;
            is = ap₂ (λ a b. option_or a b) none global.1;
            kept = global.2;
          }
      by None (Some found) none both there = absurd both
      by (Some one) None some both there = absurd both
      by (Some one) (Some found) some both there = record {
        one = one;
        is = ap (λ a. option_or a (kind_in (globals_of program) name.text)) some;
        kept = subst (IsKept numbers one) (some_same found thing there) both;
      }

  pub names_fit : FitNames (scope_of program routine) (record { names = names ++ globals }) numbers
  names_fit name place home is =
      let found = named_as name (ArrayAt place home) is in
      subst (λ one. FitsName numbers (array_shape one) place home) (sym found.is)
      (array_kept_as numbers found.one place home found.kept)

  scalar_there : (most : ℕ) (xs : List ℕ) (place : ℕ) → AllBelow most xs → place < length xs →
      IsSomeAnd (slice_get xs place) (λ n. n < most)
  scalar_there most [] place below less = let no : ⊥ = omega (arith, less) in absurd no
  scalar_there most (x ∷ xs) zero below less = below.0
  scalar_there most (x ∷ xs) (suc place) below less =
      scalar_there most xs place below.1 (omega (arith, less))

  pub scalars_few : FewScalars (record { names = names ++ globals }) numbers
  scalars_few text place is =
      let found = named_as (record { text = text; at = 0 }) (Scalar place) is in
      scalar_kept_as numbers found.one place found.kept

  pub scalars_fit : (tables : Tables) → AllBelow tables.scalars numbers.scalars →
      FitScalars tables (record { names = names ++ globals }) numbers
  scalars_fit tables below text place is =
      let found = named_as (record { text = text; at = 0 }) (Scalar place) is in
      scalar_there tables.scalars numbers.scalars place below
      (scalar_kept_as numbers found.one place found.kept)

-- ---- what a call hands on

-- by names of a place that has the same in reach
module _ (w : Where) (place : Place) (scoped : w.scope ≡ place.scope)
    (variables : (actual : Expr) → IsVariable (actual_thing place.environment actual) →
    IsVariable (actual_thing w.environment actual))
    (arrays : (actual : Expr) → IsArray (actual_thing place.environment actual) →
    IsArray (actual_thing w.environment actual))
    (names : FitNames w.scope w.environment w.numbers)
    (scalar_below : FewScalars w.environment w.numbers) where
  scalar_actual : (actual : Expr) (rest : List Given) →
      IsVariable (actual_thing w.environment actual) → (Holds : List Given → Type 0) →
      ((place : ℕ) → place < length w.numbers.scalars → Holds (Referring (Scalar place) ∷ rest)) →
      Holds (referring (actual_thing w.environment actual) ++ rest)
  scalar_actual (Number at value) rest is Holds holds = absurd is
  scalar_actual (Truth at value) rest is Holds holds = absurd is
  scalar_actual (Coord at k) rest is Holds holds = absurd is
  scalar_actual (Named at name) rest is Holds holds =
      by (thing_of w.environment name.text) is (λ place. scalar_below name.text place)
    where
      by : (thing : Option Thing) → IsVariable thing →
          ((place : ℕ) → thing ≡ Some (Scalar place) → place < length w.numbers.scalars) →
          Holds (referring thing ++ rest)
      by None is below = absurd is
      by (Some (Scalar place)) is below = holds place (below place refl)
      by (Some (Fixed value)) is below = absurd is
      by (Some (ArrayAt place home)) is below = absurd is
  scalar_actual (Shifted at name shift) rest is Holds holds = absurd is
  scalar_actual (Around at name shift) rest is Holds holds = absurd is
  scalar_actual (Remap at name indices) rest is Holds holds = absurd is
  scalar_actual (Call at name actuals) rest is Holds holds = absurd is
  scalar_actual (Paren at inside) rest is Holds holds = absurd is
  scalar_actual (Neg at operand) rest is Holds holds = absurd is
  scalar_actual (Not at operand) rest is Holds holds = absurd is
  scalar_actual (Abs at operand) rest is Holds holds = absurd is
  scalar_actual (Pair at op left right) rest is Holds holds = absurd is
  scalar_actual (Reduce at operator over operand) rest is Holds holds = absurd is
  scalar_actual (Scan at operator along operand) rest is Holds holds = absurd is
  scalar_actual (Flood at source operand) rest is Holds holds = absurd is

  array_actual : (base : Base) (by_ref : Bool) (shape : Option Shape) (actual : Expr) →
      IsArray (actual_thing w.environment actual) →
      IsShapedActual place (ArrayFormal by_ref base shape) actual →
      (at : ℕ) × (home : Region)
      × (actual_thing w.environment actual ≡ Some (ArrayAt at home))
      × FitsName w.numbers shape at home
  array_actual base by_ref shape (Number at value) is shaped = absurd is
  array_actual base by_ref shape (Truth at value) is shaped = absurd is
  array_actual base by_ref shape (Coord at k) is shaped = absurd is
  array_actual base by_ref shape (Named at name) is shaped =
      by (thing_of w.environment name.text) is
      (λ at home there. subst (λ s. FitsName w.numbers s at home)
      (ap (λ (s : Scope). array_shape (kind_of s name)) scoped ∙ shaped.1)
      (names name at home there))
    where
      by : (thing : Option Thing) → IsArray thing →
          ((at : ℕ) (home : Region) → thing ≡ Some (ArrayAt at home) →
          FitsName w.numbers shape at home) →
          (at : ℕ) × (home : Region) × (thing ≡ Some (ArrayAt at home))
          × FitsName w.numbers shape at home
      by None is fits = absurd is
      by (Some (Scalar place)) is fits = absurd is
      by (Some (Fixed value)) is fits = absurd is
      by (Some (ArrayAt at home)) is fits = (at, home, refl, fits at home refl)
  array_actual base by_ref shape (Shifted at name shift) is shaped = absurd is
  array_actual base by_ref shape (Around at name shift) is shaped = absurd is
  array_actual base by_ref shape (Remap at name indices) is shaped = absurd is
  array_actual base by_ref shape (Call at name actuals) is shaped = absurd is
  array_actual base by_ref shape (Paren at inside) is shaped = absurd is
  array_actual base by_ref shape (Neg at operand) is shaped = absurd is
  array_actual base by_ref shape (Not at operand) is shaped = absurd is
  array_actual base by_ref shape (Abs at operand) is shaped = absurd is
  array_actual base by_ref shape (Pair at op left right) is shaped = absurd is
  array_actual base by_ref shape (Reduce at operator over operand) is shaped = absurd is
  array_actual base by_ref shape (Scan at operator along operand) is shaped = absurd is
  array_actual base by_ref shape (Flood at source operand) is shaped = absurd is

  copy_of : (place : ℕ) (home : Region) (shape : Option Shape) →
      FitsName w.numbers shape place home → (rest : List Given) (Holds : List Given → Type 0) →
      ((stored : Stored) → IsStoredAs shape stored → IsHomeIn stored.storage home →
      Holds (Copied stored home ∷ rest)) →
      Holds (copying w.numbers (Some (ArrayAt place home)) ++ rest)
  copy_of place home shape fits rest Holds holds =
      by (slice_get w.numbers.arrays place) refl fits.has fits.homed
    where
      by : (found : Option Stored) → slice_get w.numbers.arrays place ≡ found →
          IsSomeAnd found (IsStoredAs shape) →
          IsSomeAnd found (λ stored. IsHomeIn stored.storage home) →
          Holds (copying w.numbers (Some (ArrayAt place home)) ++ rest)
      by None is has homed = absurd has
      by (Some stored) is has homed =
          subst (λ (some : List Given). Holds (some ++ rest)) (copied stored is)
          (holds stored has homed)
        where
          copied : (stored : Stored) → slice_get w.numbers.arrays place ≡ Some stored →
              Copied stored home ∷ [] ≡ copying w.numbers (Some (ArrayAt place home))
          copied stored is = search (rules, is)

  pub givens_of : (scalar : ℕ) (formals : List Formal) (actuals : Exprs) →
      AreProperActuals place formals actuals → AreShapedActuals place formals actuals →
      AreGivenOf w.numbers formals (given_to w scalar formals actuals)
  givens_of scalar [] NoExpr are shaped = tt
  givens_of scalar [] (ThenExpr first rest) are shaped = absurd are
  givens_of scalar (formal ∷ formals) NoExpr are shaped = absurd are
  givens_of scalar (ScalarFormal false base ∷ formals) (ThenExpr first rest) are shaped =
      (tt, givens_of (suc scalar) formals rest are.1 shaped.1)
  givens_of scalar (ScalarFormal true base ∷ formals) (ThenExpr first rest) are shaped =
      let others = givens_of scalar formals rest are.1 shaped.1 in
      scalar_actual first (given_to w scalar formals rest) (variables first are.0)
      (AreGivenOf w.numbers (ScalarFormal true base ∷ formals)) (λ place below. (below, others))
  givens_of scalar (ArrayFormal true base shape ∷ formals) (ThenExpr first rest) are shaped =
      let others = givens_of scalar formals rest are.1 shaped.1 in
      let found = array_actual base true shape first (arrays first are.0) shaped.0 in
      subst (λ (thing : Option Thing). AreGivenOf w.numbers (ArrayFormal true base shape ∷ formals)
      (referring thing ++ given_to w scalar formals rest)) (sym found.2) (found.3, others)
  givens_of scalar (ArrayFormal false base shape ∷ formals) (ThenExpr first rest) are shaped =
      let others = givens_of scalar formals rest are.1 shaped.1 in
      let found = array_actual base false shape first (arrays first are.0) shaped.0 in
      subst (λ (thing : Option Thing). AreGivenOf w.numbers (ArrayFormal false base shape ∷ formals)
      (copying w.numbers thing ++ given_to w scalar formals rest)) (sym found.2)
      (copy_of found.0 found.1 shape found.3 (given_to w scalar formals rest)
      (AreGivenOf w.numbers (ArrayFormal false base shape ∷ formals))
      (λ stored is homed. ((is, found.3.box, found.3.same, homed), others)))
