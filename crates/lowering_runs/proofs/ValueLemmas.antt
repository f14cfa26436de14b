-- Expressions of scalars give the same in the meaning and in code.
use Rattle.std.proofs.Common.{◌≡◌, ℕ, ◌≤◌, ◌<◌, Bool, true, false, cond, ℤ, pos, List, []}
use Rattle.std.proofs.Common.{◌∷◌, length, Option, Some, None, refl, sym, subst, arith}
use Rattle.std.specs.Prelude.{slice_get, find, IfSome}
use Rattle.std.specs.Option.{option_map}
use Rattle.std.specs.Str.{bytes_eq}
use Rattle.zpl_nums.specs.declared.operators.Op.{Op}
use Rattle.zpl_nums.specs.Integer.{IsInteger, negated, denied, absolute}
use Rattle.zpl_nums.specs.Op.{applied}
use Rattle.zpl_nums.proofs.IntegerLemmas.{IsInteger-truth}
use Rattle.zpl_nums.proofs.OperatorLemmas.{IsInteger-applied, IsInteger-negated, IsInteger-absolute}
use Rattle.zpl_tree.specs.Syntax.{Expr, Number, Truth, Coord, Named, Shifted, Around, Remap, Call, Paren, Neg, Not, Abs, Pair, Reduce, Scan, Flood}
use Rattle.lowering_fits.specs.of_zpl_meaning.Computed as mean
use Rattle.lowering_fits.specs.of_zpl_meaning.Store.{Thing, Scalar, ArrayAt, Fixed, Names, Environment, Store, thing_of}
use Rattle.lowering_fits.specs.of_zpl_meaning.Value as mean_value
use Rattle.lowering_fits.specs.of_zpl_meaning.Scalars.{IsScalarName, IsScalar}
use Rattle.node_form.specs.declared.tables.Tables.{Tables}
use Rattle.node_form.specs.Value as flat
use Rattle.node_form.specs.Value.{scalar_operands, tree_value}
use Rattle.lowering_fits.specs.of_flat_form.Whole.{Whole}
use Rattle.lowering_fits.specs.of_zpl_lowering.Where.{Where, Next}
use Rattle.lowering_fits.specs.of_zpl_lowering.Words.{variable_code, thing_code, scalar_code}
use Rattle.lowering_runs.specs.Seen.{scalar_in, Spot, seen_store, numbered, seen_thing, seen_names}
use Rattle.lowering_runs.specs.Stands.{IsKnown, AreKnown, Stands, IsSound}
use Rattle.lowering_runs.specs.Scalars.{IsScalarExpr, IsSameValue, BothGive, BothDivide}
use Rattle.lowering_runs.proofs.NumberLemmas.{scalar_or, read_spot, get_some, number_below}

-- ---- names

pub thing_seen : (spots : List Spot) (names : Names) (text : List ℕ)
    → thing_of (record { names = seen_names spots names }) text
    ≡ option_map (seen_thing spots) (thing_of (record { names = names }) text)
thing_seen spots [] text = refl
thing_seen spots (entry ∷ names) text = by (bytes_eq entry.0 text) (thing_seen spots names text)
  where
    by : (b : Bool)
        → thing_of (record { names = seen_names spots names }) text
        ≡ option_map (seen_thing spots) (thing_of (record { names = names }) text)
        → option_map (λ (e : List ℕ × Thing). e.1)
        (cond b (Some (entry.0, seen_thing spots entry.1))
        (find (λ e. bytes_eq e.0 text) (seen_names spots names)))
        ≡ option_map (seen_thing spots)
        (option_map (λ (e : List ℕ × Thing). e.1)
        (cond b (Some entry) (find (λ e. bytes_eq e.0 text) names)))
    by true h = refl
    by false h = h

pub known_thing : (scalars arrays : ℕ) (names : Names) (text : List ℕ) (thing : Thing)
    → AreKnown scalars arrays names → thing_of (record { names = names }) text ≡ Some thing
    → IsKnown scalars arrays thing
known_thing scalars arrays [] text thing h e = absurd (none_some e)
  where
    none_some : None ≡ Some thing → ⊥
    none_some e = cc
known_thing scalars arrays (entry ∷ names) text thing h e =
    by (bytes_eq entry.0 text) (λ f. known_thing scalars arrays names text thing h.1 f) e
  where
    by : (b : Bool) → (thing_of (record { names = names }) text ≡ Some thing
        → IsKnown scalars arrays thing) → option_map (λ (e : List ℕ × Thing). e.1)
        (cond b (Some entry) (find (λ e. bytes_eq e.0 text) names)) ≡ Some thing
        → IsKnown scalars arrays thing
    by true more e =
        let same : entry.1 ≡ thing = cc in
        subst (λ (t : Thing). IsKnown scalars arrays t) same h.0
    by false more e = more e

-- ---- values

applied_same : (op : Op) (a b : ℤ) → IsInteger a → IsInteger b → (o : Option ℤ) → applied op a b ≡ o
    → IsSameValue (mean.given o) (flat.divided o)
applied_same op a b f g None e = BothDivide
applied_same op a b f g (Some value) e =
    BothGive (subst (λ (o : Option ℤ). IfSome o IsInteger) e (IsInteger-applied op a b f g))

pair_same : (op : Op) (left right : mean.Computed ℤ) (one other : flat.Computed ℤ)
    → IsSameValue left one → IsSameValue right other
    → IsSameValue (mean.both_then left right (λ a b. mean.given (applied op a b)))
    (flat.and_then (λ a. flat.and_then (λ b. flat.divided (applied op a b)) other) one)
pair_same op left right one other (BothGive {value = a} f) (BothGive {value = b} g) =
    applied_same op a b f g (applied op a b) refl
pair_same op left right one other (BothGive f) BothDivide = BothDivide
pair_same op left right one other BothDivide h = BothDivide

unary_same : (f : ℤ → ℤ) → ((a : ℤ) → IsInteger a → IsInteger (f a)) → (value : mean.Computed ℤ)
    (one : flat.Computed ℤ) → IsSameValue value one
    → IsSameValue (mean.computed_then value (λ v. mean.Gives (f v))) (flat.mapped f one)
unary_same f is value one (BothGive {value = a} g) = BothGive (is a g)
unary_same f is value one BothDivide = BothDivide

module _ (tables : Tables) (spots : List Spot) (w : Where) (next : Next) (now : Whole)
    (stands : Stands spots w next) (room : next.scalars ≤ tables.scalars)
    (sound : IsSound tables now) where
  abbrev store : Store
  store = seen_store spots w.numbers.arrays now

  abbrev names : Environment
  names = record { names = seen_names spots w.environment.names }

  number_same : (number : Option ℕ) → ((k : ℕ) → number ≡ Some k → k < next.scalars)
      → IsSameValue (mean.Gives (scalar_or now number))
      (tree_value (scalar_operands now.scalars) (variable_code number))
  number_same None below = BothGive (zero_integer)
    where
      zero_integer : IsInteger (pos 0)
      zero_integer = IsInteger-truth false
  number_same (Some k) below =
      let lt = below k refl in
      let inside : k < length now.scalars = omega (arith, lt, room, sound.filled.scalars) in
      subst (λ (o : Option ℤ). IsSameValue (mean.Gives (scalar_in now k)) (flat.read o))
      (sym (get_some now.scalars k (pos 0) inside)) (BothGive (sound.integers k))

  pub place_same : (place : ℕ)
      → IsSameValue (mean.Gives (mean_value.thing_value store (Some (seen_thing spots (Scalar place)))))
      (tree_value (scalar_operands now.scalars) (thing_code w.numbers (Some (Scalar place))))
  place_same place =
      subst (λ (v : ℤ). IsSameValue (mean.Gives v) (tree_value (scalar_operands now.scalars)
      (variable_code (slice_get w.numbers.scalars place)))) (sym (read_spot now spots place))
      (subst (λ (ks : List ℕ). IsSameValue (mean.Gives (scalar_or now (slice_get (numbered spots) place)))
      (tree_value (scalar_operands now.scalars) (variable_code (slice_get ks place)))) stands.numbers
      (number_same (slice_get (numbered spots) place)
      (λ k e. (number_below 0 (numbered spots) next.scalars place k stands.rises e).1)))

  thing_same : (thing : Option Thing) → IsScalarName (option_map (seen_thing spots) thing)
      → ((found : Thing) → thing ≡ Some found
      → IsKnown (length (numbered spots)) (length w.numbers.arrays) found)
      → IsSameValue (mean.Gives (mean_value.thing_value store (option_map (seen_thing spots) thing)))
      (tree_value (scalar_operands now.scalars) (thing_code w.numbers thing))
  thing_same (Some (Scalar place)) h known = place_same place
  thing_same (Some (Fixed value)) h known = BothGive (known (Fixed value) refl)
  thing_same (Some (ArrayAt place home)) h known = absurd h
  thing_same None h known = BothGive (IsInteger-truth false)

  pub value_same : (expr : Expr) → IsScalarExpr expr → IsScalar names expr
      → IsSameValue (mean_value.value_of names store expr)
      (tree_value (scalar_operands now.scalars) (scalar_code w expr))
  value_same (Number at value) h s = BothGive h
  value_same (Truth at value) h s = BothGive (IsInteger-truth value)
  value_same (Named at name) h s =
      subst (λ (o : Option Thing). IsSameValue (mean.Gives (mean_value.thing_value store o))
      (tree_value (scalar_operands now.scalars)
      (thing_code w.numbers (thing_of w.environment name.text))))
      (sym (thing_seen spots w.environment.names name.text))
      (thing_same (thing_of w.environment name.text)
      (subst (λ (o : Option Thing). IsScalarName o)
      (thing_seen spots w.environment.names name.text) s)
      (λ found e. known_thing (length (numbered spots)) (length w.numbers.arrays)
      w.environment.names name.text found stands.known e))
  value_same (Paren at inside) h s = value_same inside h s
  value_same (Neg at operand) h s =
      unary_same negated (λ a f. IsInteger-negated a) _ _ (value_same operand h s)
  value_same (Not at operand) h s =
      unary_same denied (λ a f. IsInteger-truth _) _ _ (value_same operand h s)
  value_same (Abs at operand) h s =
      unary_same absolute IsInteger-absolute _ _ (value_same operand h s)
  value_same (Pair at op left right) h s =
      pair_same op _ _ _ _ (value_same left h.0 s.0) (value_same right h.1 s.1)
  value_same (Coord at k) h s = absurd h
  value_same (Shifted at name shift) h s = absurd h
  value_same (Around at name shift) h s = absurd h
  value_same (Remap at name indices) h s = absurd h
  value_same (Call at name actuals) h s = absurd h
  value_same (Reduce at operator over operand) h s = absurd h
  value_same (Scan at operator along operand) h s = absurd h
  value_same (Flood at source operand) h s = absurd h

-- ---- the same of names as they are in the lowering

thing_unseen : (spots : List Spot) (thing : Option Thing)
    → IsScalarName (option_map (seen_thing spots) thing) → IsScalarName thing
thing_unseen spots (Some (Scalar place)) h = tt
thing_unseen spots (Some (Fixed value)) h = tt
thing_unseen spots (Some (ArrayAt place home)) h = h
thing_unseen spots None h = tt

pub scalar_unseen : (spots : List Spot) (environment : Environment) (expr : Expr)
    → IsScalar (record { names = seen_names spots environment.names }) expr
    → IsScalar environment expr
scalar_unseen spots environment (Number at value) h = tt
scalar_unseen spots environment (Truth at value) h = tt
scalar_unseen spots environment (Named at name) h =
    thing_unseen spots (thing_of environment name.text)
    (subst (λ (o : Option Thing). IsScalarName o) (thing_seen spots environment.names name.text) h)
scalar_unseen spots environment (Paren at inside) h = scalar_unseen spots environment inside h
scalar_unseen spots environment (Neg at operand) h = scalar_unseen spots environment operand h
scalar_unseen spots environment (Not at operand) h = scalar_unseen spots environment operand h
scalar_unseen spots environment (Abs at operand) h = scalar_unseen spots environment operand h
scalar_unseen spots environment (Pair at op left right) h =
    (scalar_unseen spots environment left h.0, scalar_unseen spots environment right h.1)
scalar_unseen spots environment (Coord at k) h = h
scalar_unseen spots environment (Shifted at name shift) h = h
scalar_unseen spots environment (Around at name shift) h = h
scalar_unseen spots environment (Remap at name indices) h = h
scalar_unseen spots environment (Call at name actuals) h = h
scalar_unseen spots environment (Reduce at operator over operand) h = h
scalar_unseen spots environment (Scan at operator along operand) h = h
scalar_unseen spots environment (Flood at source operand) h = h
