-- What stands where in the expressions of counted code.
use Rattle.std.proofs.Common.{◌≡◌, ◌∙◌, ap, subst, ℕ, zero, suc, ◌+◌, ◌<◌, List}
use Rattle.std.proofs.Common.{◌++◌, length, map, arith}
use Rattle.std.specs.Prelude.{Option, Some, slice_get}
use Rattle.std.specs.Option.{option_map}
use Rattle.std.specs.List.{range_with_len}
use Rattle.std.proofs.lemmas.Option.{slice_get-map}
use Rattle.std.proofs.lemmas.List.FromFn.{length-map-range_with_len}
use Rattle.std.proofs.lemmas.List.{length-map}
use Rattle.zpl_region.proofs.ListLemmas.{slice_get-append_right}
use Rattle.node_form.proofs.GrowthLemmas.{Keeps-append}
use Rattle.node_form.specs.declared.tables.Tables.{Tables}
use Rattle.node_form.specs.declared.words.ExprOp.{ExprOp}
use Rattle.counted_code.specs.Counted.{counted_exprs, equal_expr, equal_words, number_expr}
use Rattle.counted_code.specs.Counted.{number_words}
use Rattle.counted_code.specs.Counted.{until_expr, until_words, while_expr, while_words}

-- ---- lists one behind another
pub get_range : (a m k : ℕ) → k < m → slice_get (range_with_len a m) k ≡ Some (a + k)
get_range a zero k less = absurd (omega arith)
get_range a (suc m) zero less = ap Some (omega arith)
get_range a (suc m) (suc k) less =
    get_range (a + 1) m k (omega (arith, less)) ∙ ap Some (omega arith)

get_numbered : {X : Type 0} (f : ℕ → X) (m k : ℕ) → k < m
    → slice_get (map f (range_with_len 0 m)) k ≡ Some (f k)
get_numbered f m k less =
    slice_get-map f (range_with_len 0 m) k
    ∙ (ap (option_map f) (get_range 0 m k less) ∙ ap (λ n. Some (f n)) (omega arith))

behind_same : {X : Type 0} (xs ys : List X) (n k : ℕ) (o : Option X) → length xs ≡ n
    → slice_get ys k ≡ o → slice_get (xs ++ ys) (n + k) ≡ o
behind_same xs ys n k o long e =
    subst (λ n. slice_get (xs ++ ys) (n + k) ≡ o) long (slice_get-append_right xs ys k ∙ e)

module _ (n : ℕ) (code : Tables) where
  abbrev old : List (List ExprOp)
  old = code.exprs

  abbrev numbers : List (List ExprOp)
  numbers = map number_words (range_with_len 0 (suc n))

  abbrev equals : List (List ExprOp)
  equals = map (equal_words code.cells) (range_with_len 0 n)

  abbrev whiles : List (List ExprOp)
  whiles = map (while_words code.cells n) old

  abbrev untils : List (List ExprOp)
  untils = map (until_words code.cells n) old

  pub old_there : (expr : ℕ) (words : List ExprOp) → slice_get old expr ≡ Some words
      → slice_get (counted_exprs n code) expr ≡ Some words
  old_there expr words e = Keeps-append old (whiles ++ (untils ++ (numbers ++ equals))) expr words e

  pub while_there : (expr : ℕ) (words : List ExprOp) → slice_get old expr ≡ Some words
      → slice_get (counted_exprs n code) (while_expr n code expr)
      ≡ Some (while_words code.cells n words)
  while_there expr words e =
      slice_get-append_right old (whiles ++ (untils ++ (numbers ++ equals))) expr
      ∙ Keeps-append whiles (untils ++ (numbers ++ equals)) expr (while_words code.cells n words)
      (slice_get-map (while_words code.cells n) old expr
      ∙ ap (option_map (while_words code.cells n)) e)

  pub until_there : (expr : ℕ) (words : List ExprOp) → slice_get old expr ≡ Some words
      → slice_get (counted_exprs n code) (until_expr n code expr)
      ≡ Some (until_words code.cells n words)
  until_there expr words e =
      slice_get-append_right old (whiles ++ (untils ++ (numbers ++ equals))) (length old + expr)
      ∙ behind_same whiles (untils ++ (numbers ++ equals)) (length old) expr _
      (length-map old (while_words code.cells n))
      (Keeps-append untils (numbers ++ equals) expr (until_words code.cells n words)
      (slice_get-map (until_words code.cells n) old expr
      ∙ ap (option_map (until_words code.cells n)) e))

  late_there : (k : ℕ) (words : List ExprOp) → slice_get (numbers ++ equals) k ≡ Some words
      → slice_get (counted_exprs n code) (length old + (length old + (length old + k))) ≡ Some words
  late_there k words e =
      slice_get-append_right old (whiles ++ (untils ++ (numbers ++ equals)))
      (length old + (length old + k))
      ∙ behind_same whiles (untils ++ (numbers ++ equals)) (length old) (length old + k) _
      (length-map old (while_words code.cells n))
      (behind_same untils (numbers ++ equals) (length old) k _
      (length-map old (until_words code.cells n)) e)

  pub number_there : (k : ℕ) → k < suc n
      → slice_get (counted_exprs n code) (number_expr n code k) ≡ Some (number_words k)
  number_there k less =
      late_there k (number_words k)
      (Keeps-append numbers equals k (number_words k) (get_numbered number_words (suc n) k less))

  pub equal_there : (k : ℕ) → k < n
      → slice_get (counted_exprs n code) (equal_expr n code k) ≡ Some (equal_words code.cells k)
  equal_there k less =
      late_there (suc n + k) (equal_words code.cells k)
      (behind_same numbers equals (suc n) k _ (length-map-range_with_len number_words 0 (suc n))
      (get_numbered (equal_words code.cells) n k less))
