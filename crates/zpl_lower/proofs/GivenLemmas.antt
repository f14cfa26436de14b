-- What parameters take, one behind another.
use Rattle.std.proofs.Common.{◌≡◌, ◌<◌, ◌≤◌, ℕ, zero, suc, ◌+◌, ◌-◌, Bool, true, false, List, [], ◌∷◌, ◌++◌, drop}
use Rattle.std.proofs.Common.{get_or, length, map, refl, sym, ap, ◌∙◌, append_assoc, append-nil}
use Rattle.std.proofs.Common.{Option, None, Some, arith}
use Rattle.std.specs.Prelude.{min}
use Rattle.std.proofs.lemmas.Bool.{false≢true}
use Rattle.std.proofs.lemmas.List.{at_drop_more, at_drop_all}
use Rattle.zpl_tree.specs.Syntax.{Base, Expr, Exprs, NoExpr, ThenExpr}
use Rattle.zpl_tree.specs.View.{base_type_of, expr_of, exprs_of}
use Rattle.zpl_tree.specs.declared.expressions.Expr.{Expr as ExprThere}
use Rattle.zpl_names.specs.Kinds.{ArrayFormal, Formal, ScalarFormal}
use Rattle.zpl_meaning.specs.Calls.{actual_thing}
use Rattle.zpl_lowering.specs.Statement.{Given, Valued, copying, given_to, referring}
use Rattle.zpl_lowering.specs.Where.{Where}
use Rattle.name_kinds.specs.Seen.{formal_of, formal_shape}
use Rattle.name_kinds.specs.declared.kinds.Formal.{Formal as FormalThere}
use Rattle.name_kinds.specs.declared.shapes.Shape.{Shape}
use Rattle.zpl_lower.specs.Calls.{scalar_behind}

alone : (xs rest : List Given) → xs ++ rest ≡ (xs ++ []) ++ rest
alone xs rest = ap (λ l. l ++ rest) (sym (append-nil xs))

given_both : (w : Where) (scalar : ℕ) (formal : Formal) (formals : List Formal) (actual : Expr)
    (rest : Exprs) → given_to w scalar (formal ∷ formals) (ThenExpr actual rest)
    ≡ given_to w scalar (formal ∷ []) (ThenExpr actual NoExpr)
    ++ given_to w (scalar_behind scalar formal) formals rest
given_both w scalar (ScalarFormal false base) formals actual rest = refl
given_both w scalar (ScalarFormal true base) formals actual rest =
    alone (referring (actual_thing w.environment actual)) (given_to w scalar formals rest)
given_both w scalar (ArrayFormal true base shape) formals actual rest =
    alone (referring (actual_thing w.environment actual)) (given_to w scalar formals rest)
given_both w scalar (ArrayFormal false base shape) formals actual rest =
    alone (copying w.numbers (actual_thing w.environment actual)) (given_to w scalar formals rest)

given_out : (w : Where) (scalar : ℕ) (formals : List Formal) →
    given_to w scalar formals NoExpr ≡ []
given_out w scalar [] = refl
given_out w scalar (formal ∷ formals) = refl

module _ (w : Where) (formals : List FormalThere) (actuals : List ExprThere) (i : ℕ) where
  pub given_next : (f : FormalThere) (a : ExprThere) (scalar next : ℕ)
      (old new whole : List Given) → i < length formals → i < length actuals →
      next ≡ scalar_behind scalar (formal_of (get_or formals i f)) →
      new ≡ old ++ given_to w scalar (formal_of (get_or formals i f) ∷ [])
      (ThenExpr (expr_of (get_or actuals i a)) NoExpr) →
      old ++ given_to w scalar (map formal_of (drop i formals)) (exprs_of (drop i actuals))
      ≡ whole →
      new ++ given_to w next (map formal_of (drop (i + 1) formals))
      (exprs_of (drop (i + 1) actuals)) ≡ whole
  given_next f a scalar next old new whole first second goes is had =
      let formal = formal_of (get_or formals i f) in
      let actual = expr_of (get_or actuals i a) in
      let others = map formal_of (drop (i + 1) formals) in
      let rest = exprs_of (drop (i + 1) actuals) in
      ap (λ n. n ++ given_to w next others rest) is
      ∙ append_assoc old (given_to w scalar (formal ∷ []) (ThenExpr actual NoExpr))
      (given_to w next others rest)
      ∙ ap (λ s. old ++ (given_to w scalar (formal ∷ []) (ThenExpr actual NoExpr)
      ++ given_to w s others rest)) goes
      ∙ ap (λ l. old ++ l) (sym (given_both w scalar formal others actual rest))
      ∙ sym (at_drop_more (λ l. old ++ given_to w scalar (map formal_of l) (ThenExpr actual rest))
      formals i f first)
      ∙ sym (at_drop_more
      (λ l. old ++ given_to w scalar (map formal_of (drop i formals)) (exprs_of l)) actuals i a
      second)
      ∙ had

  pub givens_no_formal : (scalar : ℕ) (old whole : List Given) → length formals ≤ i →
      old ++ given_to w scalar (map formal_of (drop i formals)) (exprs_of (drop i actuals))
      ≡ whole → old ≡ whole
  givens_no_formal scalar old whole past had =
      sym (append-nil old)
      ∙ sym (at_drop_all
      (λ l. old ++ given_to w scalar (map formal_of l) (exprs_of (drop i actuals))) formals i past)
      ∙ had

  pub givens_no_actual : (scalar : ℕ) (old whole : List Given) → length actuals ≤ i →
      old ++ given_to w scalar (map formal_of (drop i formals)) (exprs_of (drop i actuals))
      ≡ whole → old ≡ whole
  givens_no_actual scalar old whole past had =
      sym (append-nil old)
      ∙ ap (λ l. old ++ l) (sym (given_out w scalar (map formal_of (drop i formals))))
      ∙ sym (at_drop_all
      (λ l. old ++ given_to w scalar (map formal_of (drop i formals)) (exprs_of l)) actuals i past)
      ∙ had

  pub givens_end : (scalar : ℕ) (old whole : List Given) → i ≡ min (length formals) (length actuals) →
      old ++ given_to w scalar (map formal_of (drop i formals)) (exprs_of (drop i actuals))
      ≡ whole → old ≡ whole
  givens_end scalar old whole is had = by (length formals - i) refl
    where
      by : (n : ℕ) → length formals - i ≡ n → old ≡ whole
      by zero e = givens_no_formal scalar old whole (omega (arith, e)) had
      by (suc n) e = givens_no_actual scalar old whole (omega (arith, is, e)) had

-- what one parameter takes
module _ (w : Where) (scalar : ℕ) (base : Base) (actual : Expr) where
  abbrev seen : Bool → Option (Option Shape) → List Given
  seen by_ref shape =
      given_to w scalar (formal_shape by_ref base shape ∷ []) (ThenExpr actual NoExpr)

  ref_is : (by_ref : Bool) (shape : Option (Option Shape)) → by_ref ≡ true →
      seen by_ref shape ≡ referring (actual_thing w.environment actual) ++ []
  ref_is true None is = refl
  ref_is true (Some shape) is = refl
  ref_is false shape is = absurd (false≢true is)

  array_is : (by_ref : Bool) (shape : Option (Option Shape)) (one : Option Shape) →
      by_ref ≡ false → shape ≡ Some one →
      seen by_ref shape ≡ copying w.numbers (actual_thing w.environment actual) ++ []
  array_is false (Some shape) one is some = refl
  array_is false None one is some = absurd (let no : None ≡ Some one = some in cc)
  array_is true shape one is some = absurd (false≢true (sym is))

  scalar_is : (by_ref : Bool) (shape : Option (Option Shape)) → by_ref ≡ false →
      shape ≡ None → seen by_ref shape ≡ Valued scalar ∷ []
  scalar_is false None is none = refl
  scalar_is true shape is none = absurd (false≢true (sym is))
  scalar_is false (Some shape) is none = absurd (let no : Some shape ≡ None = none in cc)

-- the next scalar behind it
module _ (scalar : ℕ) (base : Base) where
  behind_ref : (by_ref : Bool) (shape : Option (Option Shape)) → by_ref ≡ true →
      scalar_behind scalar (formal_shape by_ref base shape) ≡ scalar
  behind_ref true None is = refl
  behind_ref true (Some shape) is = refl
  behind_ref false shape is = absurd (false≢true is)

  behind_array : (by_ref : Bool) (shape : Option (Option Shape)) (one : Option Shape) →
      shape ≡ Some one → scalar_behind scalar (formal_shape by_ref base shape) ≡ scalar
  behind_array by_ref (Some shape) one some = refl
  behind_array by_ref None one some = absurd (let no : None ≡ Some one = some in cc)

  behind_scalar : (by_ref : Bool) (shape : Option (Option Shape)) → by_ref ≡ false →
      shape ≡ None → scalar_behind scalar (formal_shape by_ref base shape) ≡ suc scalar
  behind_scalar false None is none = refl
  behind_scalar true shape is none = absurd (false≢true (sym is))
  behind_scalar false (Some shape) is none = absurd (let no : Some shape ≡ None = none in cc)

module _ (w : Where) (scalar : ℕ) (formal : FormalThere) (actual : Expr) (old new : List Given)
  where
    abbrev of_one : List Given
    of_one = given_to w scalar (formal_of formal ∷ []) (ThenExpr actual NoExpr)

    pub one_referring : formal.by_ref ≡ true →
        new ≡ old ++ referring (actual_thing w.environment actual) → new ≡ old ++ of_one
    one_referring is had =
        had ∙ ap (λ l. old ++ l) (sym (append-nil (referring (actual_thing w.environment actual))))
        ∙ ap (λ l. old ++ l)
        (sym (ref_is w scalar (base_type_of formal.base) actual formal.by_ref formal.shape is))

    pub one_copying : (one : Option Shape) → formal.by_ref ≡ false → formal.shape ≡ Some one →
        new ≡ old ++ copying w.numbers (actual_thing w.environment actual) → new ≡ old ++ of_one
    one_copying one is some had =
        had
        ∙ ap (λ l. old ++ l)
        (sym (append-nil (copying w.numbers (actual_thing w.environment actual))))
        ∙ ap (λ l. old ++ l)
        (sym (array_is w scalar (base_type_of formal.base) actual formal.by_ref formal.shape one is
        some))

    pub one_valued : formal.by_ref ≡ false → formal.shape ≡ None →
        new ≡ old ++ Valued scalar ∷ [] → new ≡ old ++ of_one
    one_valued is none had =
        had
        ∙ ap (λ l. old ++ l)
        (sym (scalar_is w scalar (base_type_of formal.base) actual formal.by_ref formal.shape is
        none))

module _ (scalar : ℕ) (formal : FormalThere) where
  pub next_ref : formal.by_ref ≡ true → scalar ≡ scalar_behind scalar (formal_of formal)
  next_ref is =
      sym (behind_ref scalar (base_type_of formal.base) formal.by_ref formal.shape is)

  pub next_array : (one : Option Shape) → formal.shape ≡ Some one →
      scalar ≡ scalar_behind scalar (formal_of formal)
  next_array one some =
      sym (behind_array scalar (base_type_of formal.base) formal.by_ref formal.shape one some)

  pub next_scalar : (next : ℕ) → formal.by_ref ≡ false → formal.shape ≡ None →
      next ≡ scalar + 1 → next ≡ scalar_behind scalar (formal_of formal)
  next_scalar next is none had =
      let more : next ≡ suc scalar = omega (arith, had) in
      more
      ∙ sym (behind_scalar scalar (base_type_of formal.base) formal.by_ref formal.shape is none)
