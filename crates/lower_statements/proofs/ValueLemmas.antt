-- Values in scalars of their own, and the actuals of calls that are values.
use Rattle.std.proofs.Common.{◌≡◌, ◌<◌, ◌≤◌, ℕ, suc, ◌+◌, Bool, true, false, List, [], ◌∷◌, ◌++◌, drop, get_or, length, map, refl, sym, ap, ap₂, ◌∙◌, arith, append_assoc, append-nil, Option, None, Some, subst, min, inl, inr}
use Rattle.std.proofs.lemmas.Bool.{cases_lt, false≢true}
use Rattle.std.proofs.lemmas.List.{at_drop_more, at_drop_all, drop_more}
use Rattle.zpl_tree.specs.Syntax.{Base, Expr, Exprs, NoExpr, ThenExpr}
use Rattle.zpl_tree.specs.View.{base_type_of, expr_of, exprs_of}
use Rattle.zpl_tree.specs.declared.expressions.Expr.{Expr as ExprThere}
use Rattle.zpl_names.specs.Kinds.{Formal, ScalarFormal, ArrayFormal}
use Rattle.name_kinds.specs.Seen.{formal_of, formal_shape}
use Rattle.name_kinds.specs.declared.shapes.Shape.{Shape}
use Rattle.name_kinds.specs.declared.kinds.Formal.{Formal as FormalThere}
use Rattle.node_form.specs.declared.words.ExprOp.{ExprOp}
use Rattle.flat_form.specs.Row as row
use Rattle.flat_form.specs.Row.{Row, with_row, with_rows}
use Rattle.zpl_lowering.specs.Slate.{Placed}
use Rattle.zpl_lowering.specs.Statement.{value_exprs}
use Rattle.zpl_lowering.specs.Where.{Where}
use Rattle.lower_points.specs.of_array_settling.Fit.{AreFit, IsFit}
use Rattle.lower_draft.specs.Drafted.{Drafted, all_pushed, pushed, with_scalars}
use Rattle.lower_statements.specs.Values.{placed_alone, set_rows}

-- ---- rows of values

-- what the values that are left make of a draft
abbrev pub valued : ℕ → Drafted → List (List ExprOp) → Drafted
valued line draft left =
    all_pushed (with_scalars draft (length left)) (set_rows line draft.next.scalars left)

first_value : (draft : Drafted) (line : ℕ) (words : List ExprOp) (rest : List (List ExprOp)) →
    valued line (pushed (with_scalars draft 1) (row.Set draft.next.scalars words line)) rest
    ≡ valued line draft (words ∷ rest)
first_value draft line words rest =
    let n = draft.next.scalars in
    let make : ℕ → ℕ → Drafted = λ count scalar. record draft {
      tables = with_rows (with_row draft.tables (row.Set n words line)) (set_rows line scalar rest);
      next = record draft.next { scalars = count };
    } in
    ap₂ make (let e : n + 1 + length rest ≡ n + suc (length rest) = omega arith in e)
    (let e : n + 1 ≡ suc n = omega arith in e)

pub value_next : (line scalar : ℕ) (words : List ExprOp) (xs rest : List (List ExprOp))
    (d0 d1 d2 whole : Drafted) → xs ≡ words ∷ rest → scalar ≡ d0.next.scalars →
    d1 ≡ with_scalars d0 1 → d2 ≡ pushed d1 (row.Set scalar words line) →
    valued line d0 xs ≡ whole → valued line d2 rest ≡ whole
value_next line scalar words xs rest d0 d1 d2 whole is number one two had =
    ap (λ d. valued line d rest) (two
    ∙ ap₂ (λ d n. pushed d (row.Set n words line)) one number)
    ∙ first_value d0 line words rest ∙ ap (valued line d0) (sym is) ∙ had

pub value_none : (line : ℕ) (draft : Drafted) → valued line draft [] ≡ draft
value_none line draft =
    ap (λ n. record draft { next = record draft.next { scalars = n } })
    (let e : draft.next.scalars + 0 ≡ draft.next.scalars = omega arith in e)

pub value_end : (line : ℕ) (xs : List (List ExprOp)) (draft whole : Drafted) → xs ≡ [] →
    valued line draft xs ≡ whole → draft ≡ whole
value_end line xs draft whole is had =
    sym (value_none line draft) ∙ ap (valued line draft) (sym is) ∙ had

-- ---- actuals

value_both : (w : Where) (formal : Formal) (formals : List Formal) (actual : Expr) (rest : Exprs) →
    value_exprs w (formal ∷ formals) (ThenExpr actual rest)
    ≡ value_exprs w (formal ∷ []) (ThenExpr actual NoExpr) ++ value_exprs w formals rest
value_both w (ScalarFormal false base) formals actual rest = refl
value_both w (ScalarFormal true base) formals actual rest = refl
value_both w (ArrayFormal by_ref base shape) formals actual rest = refl

value_out : (w : Where) (formals : List Formal) → value_exprs w formals NoExpr ≡ []
value_out w [] = refl
value_out w (formal ∷ formals) = refl

module _ (w : Where) (formals : List FormalThere) (actuals : List ExprThere) (i : ℕ) where
  pub actual_next : (f : FormalThere) (a : ExprThere) (old new whole : List Placed) →
      i < length formals → i < length actuals →
      new ≡ old ++ value_exprs w (formal_of (get_or formals i f) ∷ [])
      (ThenExpr (expr_of (get_or actuals i a)) NoExpr) →
      old ++ value_exprs w (map formal_of (drop i formals)) (exprs_of (drop i actuals)) ≡ whole →
      new ++ value_exprs w (map formal_of (drop (i + 1) formals)) (exprs_of (drop (i + 1) actuals))
      ≡ whole
  actual_next f a old new whole first second is had =
      let formal = formal_of (get_or formals i f) in
      let actual = expr_of (get_or actuals i a) in
      let others = map formal_of (drop (i + 1) formals) in
      let rest = exprs_of (drop (i + 1) actuals) in
      ap (λ n. n ++ value_exprs w others rest) is
      ∙ append_assoc old (value_exprs w (formal ∷ []) (ThenExpr actual NoExpr))
      (value_exprs w others rest)
      ∙ ap (λ l. old ++ l) (sym (value_both w formal others actual rest))
      ∙ sym (at_drop_more (λ l. old ++ value_exprs w (map formal_of l) (ThenExpr actual rest))
      formals i f first)
      ∙ sym (at_drop_more (λ l. old ++ value_exprs w (map formal_of (drop i formals)) (exprs_of l))
      actuals i a second)
      ∙ had

  pub actuals_no_formal : (old whole : List Placed) → length formals ≤ i →
      old ++ value_exprs w (map formal_of (drop i formals)) (exprs_of (drop i actuals)) ≡ whole →
      old ≡ whole
  actuals_no_formal old whole past had =
      sym (append-nil old)
      ∙ sym (at_drop_all
      (λ l. old ++ value_exprs w (map formal_of l) (exprs_of (drop i actuals))) formals i past)
      ∙ had

  pub actuals_no_actual : (old whole : List Placed) → length actuals ≤ i →
      old ++ value_exprs w (map formal_of (drop i formals)) (exprs_of (drop i actuals)) ≡ whole →
      old ≡ whole
  actuals_no_actual old whole past had =
      sym (append-nil old)
      ∙ ap (λ l. old ++ l) (sym (value_out w (map formal_of (drop i formals))))
      ∙ sym (at_drop_all
      (λ l. old ++ value_exprs w (map formal_of (drop i formals)) (exprs_of l)) actuals i past)
      ∙ had

  pub actuals_end : (old whole : List Placed) → min (length formals) (length actuals) ≤ i →
      old ++ value_exprs w (map formal_of (drop i formals)) (exprs_of (drop i actuals)) ≡ whole →
      old ≡ whole
  actuals_end old whole past had =
      elim (cases_lt i (length formals)) [
        | inl less ↦ actuals_no_actual old whole (omega arith) had
        | inr all ↦ actuals_no_formal old whole all had
      ]

-- the actual of one parameter
module _ (w : Where) (base : Base) (actual : Expr) where
  abbrev seen : Bool → Option (Option Shape) → List Placed
  seen by_ref shape =
      value_exprs w (formal_shape by_ref base shape ∷ []) (ThenExpr actual NoExpr)

  ref_none : (by_ref : Bool) (shape : Option (Option Shape)) → by_ref ≡ true →
      seen by_ref shape ≡ []
  ref_none true None is = refl
  ref_none true (Some shape) is = refl
  ref_none false shape is = absurd (false≢true is)

  array_none : (by_ref : Bool) (shape : Option (Option Shape)) (one : Option Shape) →
      shape ≡ Some one → seen by_ref shape ≡ []
  array_none true (Some shape) one is = refl
  array_none false (Some shape) one is = refl
  array_none by_ref None one is = absurd (let no : None ≡ Some one = is in cc)

  scalar_one : (by_ref : Bool) (shape : Option (Option Shape)) → by_ref ≡ false → shape ≡ None →
      seen by_ref shape ≡ placed_alone w actual ∷ []
  scalar_one false None is none = refl
  scalar_one true shape is none = absurd (false≢true (sym is))
  scalar_one false (Some shape) is none = absurd (let no : Some shape ≡ None = none in cc)

module _ (w : Where) (formal : FormalThere) (actual : Expr) (old : List Placed) where
  abbrev of_one : List Placed
  of_one = value_exprs w (formal_of formal ∷ []) (ThenExpr actual NoExpr)

  pub no_value : formal.by_ref ≡ true → old ≡ old ++ of_one
  no_value is =
      sym (append-nil old)
      ∙ ap (λ l. old ++ l)
      (sym (ref_none w (base_type_of formal.base) actual formal.by_ref formal.shape is))

  pub no_array : (shape : Option Shape) → formal.shape ≡ Some shape → old ≡ old ++ of_one
  no_array shape is =
      sym (append-nil old)
      ∙ ap (λ l. old ++ l)
      (sym (array_none w (base_type_of formal.base) actual formal.by_ref formal.shape shape is))

  pub one_value : (new : List Placed) → formal.by_ref ≡ false → formal.shape ≡ None →
      new ≡ old ++ placed_alone w actual ∷ [] → new ≡ old ++ of_one
  one_value new is none had =
      had
      ∙ ap (λ l. old ++ l)
      (sym (scalar_one w (base_type_of formal.base) actual formal.by_ref formal.shape is none))

-- fit actuals
module _ (actuals : List ExprThere) (i : ℕ) (d : ExprThere) (less : i < length actuals)
    (fit : AreFit (exprs_of (drop i actuals))) where
  both_fit : IsFit (expr_of (get_or actuals i d)) × AreFit (exprs_of (drop (i + 1) actuals))
  both_fit = subst (λ l. AreFit (exprs_of l)) (drop_more actuals i d less) fit

  pub actual_fit : IsFit (expr_of (get_or actuals i d))
  actual_fit = both_fit.0

pub actuals_fit : (actuals : List ExprThere) (i : ℕ) → i < length actuals →
    AreFit (exprs_of (drop i actuals)) → AreFit (exprs_of (drop (i + 1) actuals))
actuals_fit [] i less fit = absurd (omega (arith, less))
actuals_fit (one ∷ rest) i less fit = (both_fit (one ∷ rest) i one less fit).1
