-- The rows of a statement's phases.
use Rattle.std.proofs.Common.{◌≡◌, ℕ, suc, ◌+◌, ◌≤◌, Bool, true, false, not, List, [], ◌∷◌, ◌++◌, map, length, Option, Some, None, refl, arith, length-append}
use Rattle.std.specs.Prelude.{filter, cond}
use Rattle.zpl_nums.specs.declared.operators.Op.{Op}
use Rattle.zpl_tree.specs.Syntax.{Name, Expr, Named}
use Rattle.zpl_tree.specs.Spelling.{expr_words}
use Rattle.zpl_names.specs.Kinds.{Rank}
use Rattle.zpl_meaning.specs.Points.{assigned_expr}
use Rattle.node_form.specs.Expression.{Expression, words_of}
use Rattle.row_runs.specs.Structured as piece
use Rattle.row_runs.specs.Structured.{Piece}
use Rattle.flat_form.specs.Row.{Row}
use Rattle.zpl_lowering.specs.Check.{Check}
use Rattle.zpl_lowering.specs.Where.{Where, Next}
use Rattle.zpl_lowering.specs.Reference.{Reference, is_same, each_once, needs, all_conforming, all_referred, need_of}
use Rattle.zpl_lowering.specs.Slate.{Placed, settled, settled_each, behind}
use Rattle.zpl_lowering.specs.Lowered.{Lowered, joined, both, phased_with, first_left, free_at}
use Rattle.lowering_sizes.proofs.Costs.{cost}
use Rattle.lowering_sizes.proofs.Weights.{rows_weight, rows_both}
use Rattle.lowering_sizes.proofs.LaidOut.{own_weight, weight}
use Rattle.lowering_sizes.proofs.Slates.{lefts_weight, AreNarrow, slates_weight}
use Rattle.lowering_sizes.proofs.Known.{HasThree}
use Rattle.lowering_sizes.proofs.Settling.{settled_weight, all_settled_weight, settled_cost}

-- ---- code of two parts

pub joined_own : (code : Piece Row Check) (first second : Lowered) →
    own_weight (joined code first second) ≡ own_weight first + own_weight second
joined_own code first second =
    omega (
      arith,
      length-append first.slots second.slots,
      length-append first.arrays second.arrays,
      length-append first.copies second.copies,
      length-append first.later second.later,
      length-append first.temps second.temps,
    )

pub both_weight : (text : List ℕ → ℕ) (first second : Lowered) →
    weight text (both first second) ≡ weight text first + weight text second
both_weight text first second =
    omega (arith, joined_own (piece.Then first.code second.code) first second)

-- ---- what expressions are within, wherever they are settled

abbrev pub IsWithin : (List ℕ → ℕ) → Where → Expr → ℕ → Type 0
IsWithin text w expr n =
    (line : ℕ) (next : Next) (rank : Rank) →
    settled_weight text (settled w line next rank expr) + 8 ≤ n

abbrev pub AreWithin : (List ℕ → ℕ) → Where → List Placed → ℕ → Type 0
AreWithin text w exprs n =
    (line : ℕ) (next : Next) → all_settled_weight text (settled_each w line next exprs) ≤ n

pub words_within : (text : List ℕ → ℕ) (w : Where) (expr : Expr) → HasThree w.setup.known →
    IsWithin text w expr (cost text (expr_words expr))
words_within text w expr three =
    λ line next rank. settled_cost text w line next rank expr three

pub assigned_within : (text : List ℕ → ℕ) (w : Where) (name : Name) (operator : Option Op)
    (value : Expr) → HasThree w.setup.known →
    IsWithin text w (assigned_expr name operator value) (cost text (expr_words value) + 32)
assigned_within text w name None value three =
    λ line next rank. omega (arith, settled_cost text w line next rank value three)
assigned_within text w name (Some operator) value three =
    λ line next rank.
    let one = settled w line next rank (Named name.at name) in
    let after = behind next one in
    let other = settled w line after rank value in
    omega (
      arith,
      settled_cost text w line next rank (Named name.at name) three,
      settled_cost text w line after rank value three,
      rows_both text one.rows other.rows,
      length-append one.slots other.slots,
      length-append one.copies other.copies,
    )

pub none_within : (text : List ℕ → ℕ) (w : Where) → AreWithin text w [] 0
none_within text w = λ line next. omega arith

pub more_within : (text : List ℕ → ℕ) (w : Where) (placed : Placed) (rest : List Placed)
    (m n : ℕ) → IsWithin text w placed.expr m → AreWithin text w rest n →
    AreWithin text w (placed ∷ rest) (m + n)
more_within text w placed rest m n first others =
    λ line next.
    let one = settled w line next placed.rank placed.expr in
    let after = behind next one in
    let more = settled_each w line after rest in
    omega (
      arith,
      first line next placed.rank,
      others line after,
      rows_both text one.rows more.rows,
      length-append one.slots more.slots,
      length-append one.copies more.copies,
    )

pub one_within : (text : List ℕ → ℕ) (w : Where) (placed : Placed) (n : ℕ) →
    IsWithin text w placed.expr n → AreWithin text w (placed ∷ []) n
one_within text w placed n first =
    λ line next. omega (arith, more_within text w placed [] n 0 first (none_within text w) line next)

-- ---- the phases

dropped : (one : Reference) (all : List Reference) →
    length (filter (λ other. not (is_same one other)) all) ≤ length all
dropped one [] = omega arith
dropped one (other ∷ all) = by (not (is_same one other)) (dropped one all)
  where
    by : (b : Bool) →
        length (filter (λ other. not (is_same one other)) all) ≤ length all →
        length (cond b (other ∷ filter (λ other. not (is_same one other)) all)
        (filter (λ other. not (is_same one other)) all)) ≤ suc (length all)
    by true few = omega arith
    by false few = omega arith

once_count : (all : List Reference) → length (each_once all) ≤ length all
once_count [] = omega arith
once_count (one ∷ rest) = omega (arith, once_count rest, dropped one (each_once rest))

need_weight : (text : List ℕ → ℕ) (line : ℕ) (all : List Reference) →
    rows_weight text (map (need_of line) all) ≡ length all
need_weight text line [] = refl
need_weight text line (one ∷ rest) = omega (arith, need_weight text line rest)

pub needs_weight : (text : List ℕ → ℕ) (line : ℕ) (all : List Reference) →
    rows_weight text (needs line all) ≤ length all
needs_weight text line all =
    omega (arith, need_weight text line (each_once all), once_count all)

pub phases_weight : (text : List ℕ → ℕ) (w : Where) (line : ℕ) (next : Next)
    (own last : List Reference) (exprs : List Placed) (n : ℕ) → AreNarrow w.numbers.arrays →
    AreWithin text w exprs n →
    weight text (phased_with w line next own last exprs).lowered
    + lefts_weight (phased_with w line next own last exprs).left
    ≤ n + (length own + length last)
phases_weight text w line next own last exprs n narrow within =
    let all = settled_each w line next exprs in
    let refers = all_referred w.numbers all.slate in
    let rows = needs line (own ++ (refers ++ last)) in
    omega (
      arith,
      within line next,
      slates_weight text w.numbers line (free_at next 0) all.slate narrow,
      rows_both text all.rows (all_conforming line all.slate ++ rows),
      rows_both text (all_conforming line all.slate) rows,
      needs_weight text line (own ++ (refers ++ last)),
      length-append own (refers ++ last),
      length-append refers last,
    )

pub first_words : (left : List Expression) →
    length (words_of (first_left left)) ≤ lefts_weight left + 1
first_words [] = omega arith
first_words (expr ∷ exprs) = omega arith
