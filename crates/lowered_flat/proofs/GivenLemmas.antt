-- What a call hands on: names of arrays that may be what the names of parameters stand for.
use Rattle.std.proofs.Common.{◌≡◌, ℕ, suc, true, false, inl, inr, List, [], ◌∷◌, ◌++◌, length, refl, sym, subst, arith, rules}
use Rattle.std.specs.Prelude.{Option, Some, None, slice_get}
use Rattle.zpl_region.specs.declared.regions.Region.{Region}
use Rattle.zpl_tree.specs.Syntax.{Name, Expr, Number, Truth, Coord, Named, Shifted, Around, Remap, Call, Paren, Neg, Not, Abs, Pair, Reduce, Scan, Flood, Exprs, NoExpr, ThenExpr, Program}
use Rattle.zpl_names.specs.Kinds.{Formal, ScalarFormal, ArrayFormal}
use Rattle.zpl_names.specs.Expansion.{FormalName}
use Rattle.zpl_names.proofs.ListLemmas.{Among}
use Rattle.zpl_binding.specs.Formals.{Handed, each_handed}
use Rattle.zpl_binding.specs.Regions.{Known}
use Rattle.lowering_fits.specs.of_zpl_meaning.Context.{Place}
use Rattle.lowering_fits.specs.of_zpl_meaning.Store.{Thing, Scalar, ArrayAt, Fixed, Environment, thing_of}
use Rattle.lowering_fits.specs.of_zpl_meaning.Calls.{actual_thing}
use Rattle.lowering_fits.specs.of_zpl_meaning.Proper.{AreProperActuals, IsArray, IsVariable}
use Rattle.lowering_fits.specs.of_zpl_lowering.Where.{Stored, Where}
use Rattle.lowering_fits.specs.of_zpl_lowering.Statement.{Given, Copied, copying, given_to, referring}
use Rattle.lowered_flat.proofs.HomeLemmas.{IsToldHome}
use Rattle.lowered_flat.proofs.CalledLemmas.{AreGiven}

-- ---- actuals that are names of arrays

record IsArrayName (environment : Environment) (actual : Expr) : Type 0 where
  at : ℕ
  name : Name
  is : actual ≡ Named at name
  place : ℕ
  home : Region
  there : thing_of environment name.text ≡ Some (ArrayAt place home)

array_name : (environment : Environment) (actual : Expr) →
    IsArray (actual_thing environment actual) → IsArrayName environment actual
array_name environment (Number at value) is = absurd is
array_name environment (Truth at value) is = absurd is
array_name environment (Coord at k) is = absurd is
array_name environment (Named at name) is = by (thing_of environment name.text) refl is
  where
    by : (thing : Option Thing) → thing_of environment name.text ≡ thing → IsArray thing →
        IsArrayName environment (Named at name)
    by None there is = absurd is
    by (Some (Scalar place)) there is = absurd is
    by (Some (Fixed value)) there is = absurd is
    by (Some (ArrayAt place home)) there is = record {
      at = at;
      name = name;
      is = refl;
      place = place;
      home = home;
      there = there;
    }
array_name environment (Shifted at name shift) is = absurd is
array_name environment (Around at name shift) is = absurd is
array_name environment (Remap at name indices) is = absurd is
array_name environment (Call at name actuals) is = absurd is
array_name environment (Paren at inside) is = absurd is
array_name environment (Neg at operand) is = absurd is
array_name environment (Not at operand) is = absurd is
array_name environment (Abs at operand) is = absurd is
array_name environment (Pair at op left right) is = absurd is
array_name environment (Reduce at operator over operand) is = absurd is
array_name environment (Scan at operator along operand) is = absurd is
array_name environment (Flood at source operand) is = absurd is

-- what the others hand on
later_handed : (formal : FormalName) (formals : List FormalName) (first : Expr) (rest : Exprs)
    (handed : Handed) → Among (each_handed formals rest) handed →
    Among (each_handed (formal ∷ formals) (ThenExpr first rest)) handed
later_handed formal formals (Number at value) rest handed m = m
later_handed formal formals (Truth at value) rest handed m = m
later_handed formal formals (Coord at k) rest handed m = m
later_handed formal formals (Named at name) rest handed m = inr m
later_handed formal formals (Shifted at name shift) rest handed m = m
later_handed formal formals (Around at name shift) rest handed m = m
later_handed formal formals (Remap at name indices) rest handed m = m
later_handed formal formals (Call at name actuals) rest handed m = m
later_handed formal formals (Paren at inside) rest handed m = m
later_handed formal formals (Neg at operand) rest handed m = m
later_handed formal formals (Not at operand) rest handed m = m
later_handed formal formals (Abs at operand) rest handed m = m
later_handed formal formals (Pair at op left right) rest handed m = m
later_handed formal formals (Reduce at operator over operand) rest handed m = m
later_handed formal formals (Scan at operator along operand) rest handed m = m
later_handed formal formals (Flood at source operand) rest handed m = m

-- ---- what parameters take

-- what is handed on may be what its parameter stands for
abbrev pub AreHandedOn : Program → Known → List ℕ → List ℕ → List FormalName → Exprs → Type 0
AreHandedOn program known caller callee formals actuals =
    (handed : Handed) → Among (each_handed formals actuals) handed → (home : Region) →
    IsToldHome program known caller handed.actual home →
    IsToldHome program known callee handed.formal home

module _ (program : Program) (known : Known) (caller callee : List ℕ) (w : Where) (place : Place)
    (variables : (actual : Expr) → IsVariable (actual_thing place.environment actual) →
    IsVariable (actual_thing w.environment actual))
    (arrays : (actual : Expr) → IsArray (actual_thing place.environment actual) →
    IsArray (actual_thing w.environment actual))
    (told : (name : List ℕ) (place : ℕ) (home : Region) →
    thing_of w.environment name ≡ Some (ArrayAt place home) →
    IsToldHome program known caller name home)
    (has : (name : List ℕ) (place : ℕ) (home : Region) →
    thing_of w.environment name ≡ Some (ArrayAt place home) →
    (stored : Stored) × (slice_get w.numbers.arrays place ≡ Some stored)) where
  abbrev OnTo : List FormalName → Exprs → Type 0
  OnTo = AreHandedOn program known caller callee

  handed_later : (formal : FormalName) (formals : List FormalName) (first : Expr) (rest : Exprs) →
      OnTo (formal ∷ formals) (ThenExpr first rest) → OnTo formals rest
  handed_later formal formals first rest on handed m =
      on handed (later_handed formal formals first rest handed m)

  scalar_given : (formal : FormalName) (formals : List FormalName) (thing : Option Thing)
      (givens : List Given) → IsVariable thing → AreGiven program known callee formals givens →
      AreGiven program known callee (formal ∷ formals) (referring thing ++ givens)
  scalar_given formal formals None givens is are = absurd is
  scalar_given formal formals (Some (Scalar place)) givens is are = (tt, are)
  scalar_given formal formals (Some (Fixed value)) givens is are = absurd is
  scalar_given formal formals (Some (ArrayAt place home)) givens is are = absurd is

  array_told : (formal : FormalName) (formals : List FormalName) (first : Expr) (rest : Exprs)
      (one : IsArrayName w.environment first) →
      OnTo (formal ∷ formals) (ThenExpr first rest) →
      IsToldHome program known callee formal.name.text one.home
  array_told formal formals first rest one on =
      let handed : Handed = record { formal = formal.name.text; actual = one.name.text } in
      on handed
      (subst (λ (actual : Expr). Among (each_handed (formal ∷ formals) (ThenExpr actual rest)) handed)
      (sym one.is) (inl refl)) one.home (told one.name.text one.place one.home one.there)

  thing_is : (first : Expr) (one : IsArrayName w.environment first) →
      Some (ArrayAt one.place one.home) ≡ actual_thing w.environment first
  thing_is first one =
      subst (λ (actual : Expr). Some (ArrayAt one.place one.home) ≡ actual_thing w.environment actual)
      (sym one.is) (sym one.there)

  copied_is : (place : ℕ) (home : Region) (stored : Stored) →
      slice_get w.numbers.arrays place ≡ Some stored →
      Copied stored home ∷ [] ≡ copying w.numbers (Some (ArrayAt place home))
  copied_is place home stored is = search (rules, is)

  pub givens_told : (scalar : ℕ) (names : List FormalName) (formals : List Formal)
      (actuals : Exprs) → length names ≡ length formals →
      AreProperActuals place formals actuals →
      OnTo names actuals →
      AreGiven program known callee names (given_to w scalar formals actuals)
  givens_told scalar [] formals actuals same proper on = tt
  givens_told scalar (name ∷ names) [] actuals same proper on =
      let no : ⊥ = omega (arith, same) in absurd no
  givens_told scalar (name ∷ names) (formal ∷ formals) NoExpr same proper on = absurd proper
  givens_told scalar (name ∷ names) (ScalarFormal false base ∷ formals) (ThenExpr first rest) same
      proper on = (
        tt,
        givens_told (suc scalar) names formals rest (omega (arith, same)) proper.1
            (handed_later name names first rest on),
      )
  givens_told scalar (name ∷ names) (ScalarFormal true base ∷ formals) (ThenExpr first rest) same
      proper on =
      scalar_given name names (actual_thing w.environment first) (given_to w scalar formals rest)
      (variables first proper.0)
      (givens_told scalar names formals rest (omega (arith, same)) proper.1
      (handed_later name names first rest on))
  givens_told scalar (name ∷ names) (ArrayFormal true base shape ∷ formals) (ThenExpr first rest)
      same proper on =
      let one = array_name w.environment first (arrays first proper.0) in
      subst (λ (thing : Option Thing). AreGiven program known callee (name ∷ names)
      (referring thing ++ given_to w scalar formals rest)) (thing_is first one) (
        array_told name names first rest one on,
        givens_told scalar names formals rest (omega (arith, same)) proper.1
            (handed_later name names first rest on),
      )
  givens_told scalar (name ∷ names) (ArrayFormal false base shape ∷ formals) (ThenExpr first rest)
      same proper on =
      let one = array_name w.environment first (arrays first proper.0) in
      let kept = has one.name.text one.place one.home one.there in
      subst (λ (thing : Option Thing). AreGiven program known callee (name ∷ names)
      (copying w.numbers thing ++ given_to w scalar formals rest)) (thing_is first one)
      (subst (λ (some : List Given). AreGiven program known callee (name ∷ names)
      (some ++ given_to w scalar formals rest)) (copied_is one.place one.home kept.0 kept.1) (
        array_told name names first rest one on,
        givens_told scalar names formals rest (omega (arith, same)) proper.1
            (handed_later name names first rest on),
      ))
