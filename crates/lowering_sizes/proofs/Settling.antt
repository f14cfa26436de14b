-- Expressions with slots, and the rows of their brackets, weigh no more than their words pay for.
use Rattle.std.proofs.Common.{◌≡◌, ℕ, zero, suc, ◌+◌, ◌*◌, ◌-◌, ◌^◌, ◌≤◌, Bool, true, false, ℤ, List, [], ◌∷◌, ◌++◌, length, Option, Some, None, refl, arith, length-append, length-drop}
use Rattle.std.specs.Prelude.{flat_map, filter, cond}
use Rattle.std.proofs.lemmas.List.{length-replicate}
use Rattle.zpl_nums.specs.Integer.{is_true}
use Rattle.zpl_arrays.specs.Around.{copy_shift}
use Rattle.zpl_tokens.specs.declared.symbols.Sym.TheVariants as sym
use Rattle.zpl_tree.specs.Syntax.{Expr, Number, Truth, Coord, Named, Shifted, Around, Remap, Call, Paren, Neg, Not, Abs, Pair, Reduce, Scan, Flood, Exprs, NoExpr, ThenExpr, NoBracket, Bracketed}
use Rattle.zpl_tree.specs.Spelling.{symbol, in_square, fold_words, along_words, expr_words, exprs_words, more_exprs, inner_words}
use Rattle.zpl_names.specs.Kinds.{Rank}
use Rattle.zpl_names.specs.Ranks.{operand_rank}
use Rattle.zpl_meaning.specs.Store.{Thing, Scalar, ArrayAt, Fixed, thing_of}
use Rattle.zpl_meaning.specs.Regions.{vector_in}
use Rattle.zpl_lowering.specs.Where.{Slotted, slotted_at, Where, Next}
use Rattle.zpl_lowering.specs.Slate.{Slate, Slates, Settled, named_slate, shifted_slate, remap_slate, is_moving, border_slots, around_slate, source_of, under_source, source_rank, opened_source, of_opened, settled, settled_all, behind}
use Rattle.zpl_lowering.specs.Hoist.{kept_or_not, choices, border_vectors}
use Rattle.lowering_sizes.proofs.Costs.{cost, cost_both}
use Rattle.lowering_sizes.proofs.Weights.{rows_weight, rows_both}
use Rattle.lowering_sizes.proofs.Slates.{heft, hefts}
use Rattle.lowering_sizes.proofs.Known.{HasThree, vector_three, copy_shift_count}
use Rattle.lowering_sizes.proofs.BracketLemmas.{round_cost, square_cost, index_cost, truth_cost, pair_cost, bracket_cost}

-- ---- reads that wrap round: at most seven borders

moving_count : (shift : List ℤ) → length (filter is_moving shift) ≤ length shift
moving_count [] = omega arith
moving_count (d ∷ shift) = by (is_moving d) (moving_count shift)
  where
    by : (b : Bool) → length (filter is_moving shift) ≤ length shift →
        length (cond b (d ∷ filter is_moving shift) (filter is_moving shift)) ≤ suc (length shift)
    by true few = omega arith
    by false few = omega arith

slots_count : (shift : List ℤ) → length shift ≤ 3 → border_slots shift ≤ 15
slots_count shift three = by (length (filter is_moving shift)) (omega (arith, moving_count shift))
  where
    by : (n : ℕ) → n ≤ 3 → 1 + 2 * (2 ^ n - 1) ≤ 15
    by zero few = omega arith
    by (suc zero) few = omega arith
    by (suc (suc zero)) few = omega arith
    by (suc (suc (suc zero))) few = omega arith
    by (suc (suc (suc (suc n)))) few = absurd (omega arith)

kept_two : (d : ℤ) (rest : List ℤ) → length (kept_or_not d rest) ≤ 2
kept_two d rest = by (is_true d) refl
  where
    by : (b : Bool) → is_true d ≡ b → length (kept_or_not d rest) ≤ 2
    by true e = rw e (omega arith)
    by false e = rw e (omega arith)

twice : (d : ℤ) (all : List (List ℤ)) →
    length (flat_map (kept_or_not d) all) ≤ 2 * length all
twice d [] = omega arith
twice d (one ∷ all) =
    omega (
      arith,
      twice d all,
      kept_two d one,
      length-append (kept_or_not d one) (flat_map (kept_or_not d) all),
    )

choices_count : (shift : List ℤ) → length shift ≤ 3 → length (choices shift) ≤ 8
choices_count [] three = omega arith
choices_count (a ∷ []) three = omega (arith, twice a (choices []))
choices_count (a ∷ b ∷ []) three =
    omega (arith, twice a (choices (b ∷ [])), twice b (choices []))
choices_count (a ∷ b ∷ c ∷ []) three =
    omega (arith, twice a (choices (b ∷ c ∷ [])), twice b (choices (c ∷ [])), twice c (choices []))
choices_count (a ∷ b ∷ c ∷ d ∷ shift) three = absurd (omega arith)

borders_count : (shift : List ℤ) → length shift ≤ 3 → length (border_vectors shift) ≤ 7
borders_count shift three =
    omega (arith, choices_count shift three, length-drop 1 (choices shift))

-- ---- what is settled

abbrev pub settled_weight : (List ℕ → ℕ) → Settled Slate → ℕ
settled_weight text all =
    rows_weight text all.rows + (length all.slots + (length all.copies + heft all.slate))

abbrev pub all_settled_weight : (List ℕ → ℕ) → Settled Slates → ℕ
all_settled_weight text all =
    rows_weight text all.rows + (length all.slots + (length all.copies + hefts all.slate))

named_weight : (over : Slotted) (thing : Option Thing) → heft (named_slate over thing) ≤ 2
named_weight over (Some (Scalar place)) = omega arith
named_weight over (Some (Fixed value)) = omega arith
named_weight over (Some (ArrayAt place home)) = omega arith
named_weight over None = omega arith

shifted_weight : (over : Slotted) (shift : List ℤ) (thing : Option Thing) →
    heft (shifted_slate over shift thing) ≤ 2
shifted_weight over shift (Some (Scalar place)) = omega arith
shifted_weight over shift (Some (Fixed value)) = omega arith
shifted_weight over shift (Some (ArrayAt place home)) = omega arith
shifted_weight over shift None = omega arith

remap_weight : (over : Slotted) (thing : Option Thing) (indices : Slates) →
    heft (remap_slate over thing indices) ≤ hefts indices + 48
remap_weight over (Some (Scalar place)) indices = omega arith
remap_weight over (Some (Fixed value)) indices = omega arith
remap_weight over (Some (ArrayAt place home)) indices = omega arith
remap_weight over None indices = omega arith

around_weight : (text : List ℕ → ℕ) (next : Next) (over : Slotted) (shift : List ℤ)
    (thing : Option Thing) → length shift ≤ 3 →
    settled_weight text (around_slate next over shift thing) ≤ 44
around_weight text next over shift (Some (Scalar place)) three = omega arith
around_weight text next over shift (Some (Fixed value)) three = omega arith
around_weight text next over shift None three = omega arith
around_weight text next over shift (Some (ArrayAt place home)) three =
    let moved = copy_shift home shift in
    let few : length moved ≤ 3 = omega (arith, copy_shift_count home shift) in
    omega (
      arith,
      slots_count moved few,
      borders_count moved few,
      length-replicate (border_slots moved) home.rank,
    )

mutual
  pub settled_cost : (text : List ℕ → ℕ) (w : Where) (line : ℕ) (next : Next) (rank : Rank)
      (expr : Expr) → HasThree w.setup.known →
      settled_weight text (settled w line next rank expr) + 8 ≤ cost text (expr_words expr)
  settled_cost text w line next rank (Number at value) three = omega arith
  settled_cost text w line next rank (Truth at value) three = omega (arith, truth_cost text at value)
  settled_cost text w line next rank (Coord at k) three = omega (arith, index_cost text k)
  settled_cost text w line next rank (Named at name) three =
      omega (
        arith,
        named_weight (slotted_at w.currents rank) (thing_of w.environment name.text),
      )
  settled_cost text w line next rank (Shifted at name shift) three =
      omega (
        arith,
        shifted_weight (slotted_at w.currents rank) (vector_in w.setup.known shift)
            (thing_of w.environment name.text),
      )
  settled_cost text w line next rank (Around at name shift) three =
      omega (
        arith,
        around_weight text next (slotted_at w.currents rank) (vector_in w.setup.known shift)
            (thing_of w.environment name.text) (vector_three w.setup.known shift three),
      )
  settled_cost text w line next rank (Remap at name indices) three =
      omega (
        arith,
        settled_all_cost text w line next rank indices three,
        remap_weight (slotted_at w.currents rank) (thing_of w.environment name.text)
            (settled_all w line next rank indices).slate,
        square_cost text (exprs_words indices),
      )
  settled_cost text w line next rank (Call at name actuals) three = omega arith
  settled_cost text w line next rank (Paren at inside) three =
      omega (
        arith,
        settled_cost text w line next rank inside three,
        round_cost text (expr_words inside),
      )
  settled_cost text w line next rank (Neg at operand) three =
      omega (arith, settled_cost text w line next rank operand three)
  settled_cost text w line next rank (Not at operand) three =
      omega (arith, settled_cost text w line next rank operand three)
  settled_cost text w line next rank (Abs at operand) three =
      omega (
        arith,
        settled_cost text w line next rank operand three,
        round_cost text (expr_words operand),
      )
  settled_cost text w line next rank (Pair at op left right) three =
      let one = settled w line next rank left in
      let after = behind next one in
      let other = settled w line after rank right in
      omega (
        arith,
        settled_cost text w line next rank left three,
        settled_cost text w line after rank right three,
        pair_cost text op (expr_words left) (expr_words right),
        rows_both text one.rows other.rows,
        length-append one.slots other.slots,
        length-append one.copies other.copies,
      )
  settled_cost text w line next rank (Reduce at operator NoBracket operand) three =
      let over = operand_rank w.scope w.prefix operand in
      omega (
        arith,
        settled_cost text w line next over operand three,
        cost_both text (fold_words operator ++ symbol sym.Reduce ++ []) (expr_words operand),
        cost_both text (fold_words operator ++ symbol sym.Reduce) [],
        cost_both text (fold_words operator) (symbol sym.Reduce),
      )
  settled_cost text w line next rank (Reduce at operator (Bracketed source) operand) three =
      let over = source_rank w source operand in
      let opened = opened_source w next line source operand in
      let after = behind next (of_opened opened) in
      let inside = under_source w over (source_of opened) in
      let other = settled inside line after over operand in
      omega (
        arith,
        settled_cost text inside line after over operand three,
        bracket_cost text w next.slots line
            (slotted_at w.currents (source_rank w source operand)) source,
        rows_both text opened.rows other.rows,
        length-append opened.slots other.slots,
        square_cost text (inner_words source),
        cost_both text (fold_words operator ++ symbol sym.Reduce ++ in_square (inner_words source))
            (expr_words operand),
        cost_both text (fold_words operator ++ symbol sym.Reduce) (in_square (inner_words source)),
        cost_both text (fold_words operator) (symbol sym.Reduce),
      )
  settled_cost text w line next rank (Scan at operator along operand) three =
      omega (
        arith,
        settled_cost text w line next rank operand three,
        cost_both text (fold_words operator ++ symbol sym.Scan ++ along_words along)
            (expr_words operand),
        cost_both text (fold_words operator ++ symbol sym.Scan) (along_words along),
        cost_both text (fold_words operator) (symbol sym.Scan),
      )
  settled_cost text w line next rank (Flood at source operand) three =
      let over = source_rank w source operand in
      let opened = opened_source w next line source operand in
      let after = behind next (of_opened opened) in
      let inside = under_source w over (source_of opened) in
      let other = settled inside line after over operand in
      omega (
        arith,
        settled_cost text inside line after over operand three,
        bracket_cost text w next.slots line
            (slotted_at w.currents (source_rank w source operand)) source,
        rows_both text opened.rows other.rows,
        length-append opened.slots other.slots,
        square_cost text (inner_words source),
        cost_both text (in_square (inner_words source)) (expr_words operand),
      )

  pub settled_all_cost : (text : List ℕ → ℕ) (w : Where) (line : ℕ) (next : Next) (rank : Rank)
      (exprs : Exprs) → HasThree w.setup.known →
      all_settled_weight text (settled_all w line next rank exprs) ≤ cost text (exprs_words exprs)
  settled_all_cost text w line next rank NoExpr three = omega arith
  settled_all_cost text w line next rank (ThenExpr first rest) three =
      let one = settled w line next rank first in
      let after = behind next one in
      let others = settled_all w line after rank rest in
      omega (
        arith,
        settled_cost text w line next rank first three,
        more_cost text w line after rank rest three,
        rows_both text one.rows others.rows,
        length-append one.slots others.slots,
        length-append one.copies others.copies,
        cost_both text (expr_words first) (more_exprs rest),
      )

  more_cost : (text : List ℕ → ℕ) (w : Where) (line : ℕ) (next : Next) (rank : Rank)
      (exprs : Exprs) → HasThree w.setup.known →
      all_settled_weight text (settled_all w line next rank exprs) ≤ cost text (more_exprs exprs)
  more_cost text w line next rank NoExpr three = omega arith
  more_cost text w line next rank (ThenExpr first rest) three =
      let one = settled w line next rank first in
      let after = behind next one in
      let others = settled_all w line after rank rest in
      omega (
        arith,
        settled_cost text w line next rank first three,
        more_cost text w line after rank rest three,
        rows_both text one.rows others.rows,
        length-append one.slots others.slots,
        length-append one.copies others.copies,
        cost_both text (expr_words first) (more_exprs rest),
      )
