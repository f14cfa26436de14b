-- Every form of statement weighs no more than its words pay for, and what its calls weigh.
use Rattle.std.proofs.Common.{◌≡◌, ℕ, zero, suc, ◌+◌, ◌≤◌, Bool, true, false, if◌then◌else◌, List, [], ◌∷◌, ◌++◌, length, Option, Some, None, refl, arith, length-append}
use Rattle.std.specs.Prelude.{slice_get, flat_map}
use Rattle.zpl_nums.specs.declared.ends.Border.{Border as BorderKind}
use Rattle.zpl_tokens.specs.declared.keywords.Key.TheVariants as key
use Rattle.zpl_tokens.specs.declared.symbols.Sym.TheVariants as sym
use Rattle.zpl_text.specs.Escapes.{unescaped}
use Rattle.zpl_tree.specs.Syntax.{Name, Expr, Inner, Prefix, ForHead, Item, Str, Value, Stmt, Prefixed, Stmts, NoStmt, ThenStmt, Form, Assign, Invoke, Block, If, While, Repeat, For, Border, Write, Return, Arm, Tested, Arms, NoArm, ThenArm, Otherwise, NoElse, Else}
use Rattle.zpl_tree.specs.Spelling.{symbol, keyword, name_words, in_round, expr_words, exprs_words, inner_words, mask_words, prefix_words, step_words, head_words, each_after, names_words, item_words, items_words, border_words, end_words, stmt_words, stmts_words, form_words, arms_words, arm_words, more_arms, otherwise_words}
use Rattle.zpl_names.specs.Kinds.{Rank}
use Rattle.zpl_names.specs.Sites.{Limit, Test, Printed, Result, Reach, AtStmt, arm_sites, arms_rank, arms_sites, form_sites, inside, is_shattered, otherwise_sites, prefixes_sites, step_sites, stmt_sites, stmts_sites, test_rank, under_prefixes, whole_sites}
use Rattle.zpl_meaning.specs.Store.{Thing, Scalar, ArrayAt, Fixed, thing_of}
use Rattle.zpl_meaning.specs.Statement.{arms_at, step_expr}
use Rattle.node_form.specs.Expression.{Expression, Variable, words_of}
use Rattle.row_runs.specs.Structured as piece
use Rattle.flat_form.specs.Row.{Words}
use Rattle.zpl_lowering.specs.Where.{Stored, Numbers, Slotted, slotted_at, SlotEdge, Where, Next, reach_of, rank_in, line_of}
use Rattle.zpl_lowering.specs.Lowered.{Lowered, rows_alone, behind, joined, phased}
use Rattle.zpl_lowering.specs.Statement.{Lowering, placed_in, Testing, test_of, set_row, with_values, scalar_of, border_rows, border_thing, each_border, lowered_borders, is_border, prefix_opened, current_for, under_prefix, of_opened, is_last, lowered_under, Counter, counter_from, head_exprs, counted, lowered_for, printed_exprs, Shown, is_truth, scalar_print, shown_at, shown_of, Prints, with_shown, newline, items_of, of_prints, lowered_write, choose_code, chosen, when, while_code, repeat_code, ends_arms, lowered, lowered_all, lowered_form, lowered_arms, lowered_arm, lowered_otherwise}
use Rattle.zpl_names.specs.Types.{type_of}
use Rattle.zpl_nums.specs.declared.ends.Border.TheVariants.{Reflect, Wrap}
use Rattle.lowering_sizes.proofs.Costs.{cost, cost_both}
use Rattle.lowering_sizes.proofs.Weights.{row_weight, rows_weight, rows_both}
use Rattle.lowering_sizes.proofs.LaidOut.{weight}
use Rattle.lowering_sizes.proofs.Slates.{lefts_weight, AreNarrow}
use Rattle.lowering_sizes.proofs.Known.{HasThree}
use Rattle.lowering_sizes.proofs.BracketLemmas.{round_cost, square_cost, opened_weight, bracket_cost, computed_cost}
use Rattle.lowering_sizes.proofs.Phases.{both_weight, joined_own, IsWithin, AreWithin, words_within, more_within, one_within, phases_weight}
use Rattle.lowering_sizes.proofs.Members.{arms_cost, shattered_cost}
use Rattle.lowering_sizes.proofs.Statements.{calls_weight, calls_both, Fits, test_weight, scalar_weight, set_weight, with_values_weight, invoke_weight, assign_weight}

-- ---- borders

border_weight : (text : List ℕ → ℕ) (kind : BorderKind) (edge : SlotEdge)
    (border source line : ℕ) (stored : Option Stored) →
    rows_weight text (border_rows kind edge border source line stored) ≤ 3
border_weight text kind edge border source line None = omega arith
border_weight text kind edge border source line (Some stored) = omega arith

border_thing_weight : (text : List ℕ → ℕ) (numbers : Numbers) (kind : BorderKind)
    (edge : SlotEdge) (border source line : ℕ) (thing : Option Thing) →
    rows_weight text (border_thing numbers kind edge border source line thing) ≤ 3
border_thing_weight text numbers kind edge border source line (Some (ArrayAt place home)) =
    border_weight text kind edge border source line (slice_get numbers.arrays place)
border_thing_weight text numbers kind edge border source line (Some (Scalar place)) = omega arith
border_thing_weight text numbers kind edge border source line (Some (Fixed value)) = omega arith
border_thing_weight text numbers kind edge border source line None = omega arith

borders_weight : (text : List ℕ → ℕ) (w : Where) (kind : BorderKind) (edge : SlotEdge)
    (border source line : ℕ) (names : List Name) →
    rows_weight text (each_border w kind edge border source line names)
    ≤ cost text (each_after (symbol sym.Comma) name_words names)
borders_weight text w kind edge border source line [] = omega arith
borders_weight text w kind edge border source line (name ∷ names) =
    omega (
      arith,
      borders_weight text w kind edge border source line names,
      border_thing_weight text w.numbers kind edge border source line
          (thing_of w.environment name.text),
      rows_both text
          (border_thing w.numbers kind edge border source line (thing_of w.environment name.text))
          (each_border w kind edge border source line names),
    )

after_cost : (text : List ℕ → ℕ) (names : List Name) →
    cost text (each_after (symbol sym.Comma) name_words names)
    ≤ cost text (names_words names) + 32
after_cost text [] = omega arith
after_cost text (name ∷ names) = omega arith

pub borders_cost : (text : List ℕ → ℕ) (w : Where) (kind : BorderKind) (edge : Option SlotEdge)
    (line : ℕ) (next : Next) (names : List Name) →
    weight text (lowered_borders w kind edge line next names)
    ≤ cost text (names_words names) + 36
borders_cost text w kind None line next names = omega arith
borders_cost text w kind (Some edge) line next names =
    omega (
      arith,
      after_cost text names,
      borders_weight text w kind edge (slotted_at w.currents w.prefix).slot next.slots line names,
    )

pub border_word : (text : List ℕ → ℕ) (kind : BorderKind) → cost text (border_words kind) ≡ 32
border_word text Wrap = refl
border_word text Reflect = refl

-- ---- prefixes

pub opened_cost : (text : List ℕ → ℕ) (borders : Bool) (w : Where) (next line : ℕ)
    (current : Slotted) (inner : Inner) →
    opened_weight text (prefix_opened borders w next line current inner)
    ≤ cost text (inner_words inner) + 2
opened_cost text true w next line current inner = computed_cost text w next line current inner
opened_cost text false w next line current inner = bracket_cost text w next line current inner

pub under_cost : (text : List ℕ → ℕ) (most : List ℕ → ℕ) (borders : Bool) (context : Lowering)
    (next : Next) (prefixes : List Prefix) (rest : Lowering → Next → Lowered) (n : ℕ) →
    Fits text most context →
    ((inner : Lowering) (after : Next) → Fits text most inner →
    weight text (rest inner after) ≤ n) →
    weight text (lowered_under borders context next prefixes rest)
    ≤ cost text (flat_map prefix_words prefixes) + n
under_cost text most borders context next [] rest n fits inside =
    omega (arith, inside context next fits)
under_cost text most borders context next (prefix ∷ prefixes) rest n fits inside =
    let w = context.place in
    let opened = prefix_opened (is_last borders prefixes) w next.slots (line_of w prefix.at)
    (current_for w prefix) prefix.region in
    let under : Lowering = record context { place = under_prefix w prefix opened } in
    let after = behind next (of_opened opened) in
    omega (
      arith,
      under_cost text most borders under after prefixes rest n
          (record { three = fits.three; narrow = fits.narrow; call = fits.call }) inside,
      opened_cost text (is_last borders prefixes) w next.slots (line_of w prefix.at)
          (current_for w prefix) prefix.region,
      both_weight text (of_opened opened) (lowered_under borders under after prefixes rest),
      square_cost text (inner_words prefix.region ++ mask_words prefix.mask),
      cost_both text (inner_words prefix.region) (mask_words prefix.mask),
      cost_both text (prefix_words prefix) (flat_map prefix_words prefixes),
    )

-- ---- `for`

step_within : (text : List ℕ → ℕ) (w : Where) (step : Option Expr) → HasThree w.setup.known →
    IsWithin text w (step_expr step) (cost text (step_words step) + 9)
step_within text w None three = λ line next rank. omega arith
step_within text w (Some step) three =
    λ line next rank. omega (arith, words_within text w step three line next rank)

pub head_within : (text : List ℕ → ℕ) (w : Where) (head : ForHead) → HasThree w.setup.known →
    AreWithin text w (head_exprs w head) (cost text (head_words head))
head_within text w head three =
    let first = placed_in w Limit head.first in
    let last = placed_in w Limit head.last in
    let step = placed_in w Limit (step_expr head.step) in
    let a = cost text (expr_words head.first) in
    let b = cost text (expr_words head.last) in
    let c = cost text (step_words head.step) + 9 in
    let way = if head.down then keyword key.Downto else keyword key.To in
    let before_down = name_words head.name ++ symbol sym.Assign ++ expr_words head.first in
    let before_to = before_down ++ way in
    let before_last = before_to ++ expr_words head.last in
    λ line next.
    omega (
      arith,
      more_within text w first (last ∷ step ∷ []) a (b + c) (words_within text w head.first three)
          (more_within text w last (step ∷ []) b c (words_within text w head.last three)
          (one_within text w step c (step_within text w head.step three))) line next,
      cost_both text before_last (step_words head.step),
      cost_both text before_to (expr_words head.last),
      cost_both text before_down way,
      cost_both text (name_words head.name ++ symbol sym.Assign) (expr_words head.first),
    )

counted_weight : (text : List ℕ → ℕ) (down : Bool) (counter : Counter) (line : ℕ)
    (target : Option ℕ) (next : Next) (body : Next → Lowered) (n : ℕ) →
    ((after : Next) → weight text (body after) ≤ n) →
    weight text (counted down counter line target next body) ≤ n + 25
counted_weight text down counter line target next body n inside =
    let first = rows_alone (set_row line (Variable counter.at) target) in
    omega (
      arith,
      inside (behind next first),
      set_weight text line (Variable counter.at) target,
      both_weight text first (body (behind next first)),
    )

for_cost : (text : List ℕ → ℕ) (w : Where) (line : ℕ) (next : Next) (head : ForHead)
    (body : Next → Lowered) (n : ℕ) → HasThree w.setup.known → AreNarrow w.numbers.arrays →
    ((after : Next) → weight text (body after) ≤ n) →
    weight text (lowered_for w line next head body) ≤ cost text (head_words head) + n + 25
for_cost text w line next head body n three narrow inside =
    let exprs = head_exprs w head in
    let phases = phased w line next exprs in
    let scalar = next.scalars + phases.lowered.scalars in
    let first = with_values line scalar phases in
    let after = behind next first in
    let target = scalar_of w.numbers (thing_of w.environment head.name.text) in
    omega (
      arith,
      phases_weight text w line next [] [] exprs (cost text (head_words head)) narrow
          (head_within text w head three),
      with_values_weight text line scalar phases,
      counted_weight text head.down (counter_from scalar) line target after body n inside,
      both_weight text first (counted head.down (counter_from scalar) line target after body),
    )

-- ---- prints

-- what strings pay for
abbrev strings_cost : (List ℕ → ℕ) → List Item → ℕ
strings_cost text [] = 0
strings_cost text (Str bytes ∷ items) = 32 + text (unescaped bytes) + strings_cost text items
strings_cost text (Value expr ∷ items) = strings_cost text items

abbrev values_cost : (List ℕ → ℕ) → List Item → ℕ
values_cost text [] = 0
values_cost text (Str bytes ∷ items) = values_cost text items
values_cost text (Value expr ∷ items) = cost text (expr_words expr) + values_cost text items

items_cost : (text : List ℕ → ℕ) (items : List Item) →
    strings_cost text items + values_cost text items
    ≤ cost text (each_after (symbol sym.Comma) item_words items)
items_cost text [] = omega arith
items_cost text (Str bytes ∷ items) = omega (arith, items_cost text items)
items_cost text (Value expr ∷ items) =
    omega (
      arith,
      items_cost text items,
      cost_both text (expr_words expr) (each_after (symbol sym.Comma) item_words items),
    )

separated_cost : (text : List ℕ → ℕ) (items : List Item) →
    cost text (each_after (symbol sym.Comma) item_words items)
    ≤ cost text (items_words items) + 32
separated_cost text [] = omega arith
separated_cost text (item ∷ items) = omega arith

printed_within : (text : List ℕ → ℕ) (w : Where) (items : List Item) → HasThree w.setup.known →
    AreWithin text w (printed_exprs w items) (values_cost text items)
printed_within text w [] three = λ line next. omega arith
printed_within text w (Str bytes ∷ items) three = printed_within text w items three
printed_within text w (Value expr ∷ items) three =
    more_within text w (placed_in w Printed expr) (printed_exprs w items)
    (cost text (expr_words expr)) (values_cost text items) (words_within text w expr three)
    (printed_within text w items three)

abbrev shown_weight : (List ℕ → ℕ) → Shown → ℕ
shown_weight text shown =
    rows_weight text shown.values + row_weight text shown.print + shown.scalars
    + length shown.temps

scalar_print_weight : (text : List ℕ → ℕ) (truth : Bool) (expr : Words) →
    row_weight text (scalar_print truth expr) ≡ length expr + 1
scalar_print_weight text true expr = omega arith
scalar_print_weight text false expr = omega arith

shown_at_weight : (text : List ℕ → ℕ) (line : ℕ) (truth : Bool) (scalar temp : ℕ)
    (over : Slotted) (rank : Rank) (expr : Expression) →
    shown_weight text (shown_at line truth scalar temp over rank expr)
    ≤ length (words_of expr) + 8
shown_at_weight text line truth scalar temp over (Some (suc rank)) expr = omega arith
shown_at_weight text line truth scalar temp over (Some zero) expr =
    omega (arith, scalar_print_weight text truth (words_of (Variable scalar)))
shown_at_weight text line truth scalar temp over None expr =
    omega (arith, scalar_print_weight text truth (words_of (Variable scalar)))

abbrev prints_weight : (List ℕ → ℕ) → Prints → ℕ
prints_weight text all =
    rows_weight text all.values + rows_weight text all.prints + all.scalars + length all.temps

with_shown_weight : (text : List ℕ → ℕ) (shown : Shown) (rest : Prints) →
    prints_weight text (with_shown shown rest) ≡ shown_weight text shown + prints_weight text rest
with_shown_weight text shown rest =
    omega (arith, rows_both text shown.values rest.values, length-append shown.temps rest.temps)

newline_weight : (text : List ℕ → ℕ) → text (10 ∷ []) ≤ 1 → (ends : Bool) →
    rows_weight text (newline ends) ≤ 2
newline_weight text one true = omega arith
newline_weight text one false = omega arith

items_weight : (text : List ℕ → ℕ) → text (10 ∷ []) ≤ 1 → (w : Where) (line scalar temp : ℕ)
    (ends : Bool) (items : List Item) (left : List Expression) →
    prints_weight text (items_of w line scalar temp ends items left)
    ≤ strings_cost text items + lefts_weight left + 2
items_weight text one w line scalar temp ends [] left =
    omega (arith, newline_weight text one ends)
items_weight text one w line scalar temp ends (Str bytes ∷ items) left =
    omega (arith, items_weight text one w line scalar temp ends items left)
items_weight text one w line scalar temp ends (Value expr ∷ items) [] =
    items_weight text one w line scalar temp ends items []
items_weight text one w line scalar temp ends (Value expr ∷ items) (first ∷ left) =
    let rank = rank_in w Printed expr in
    let truth = is_truth (type_of w.scope expr) in
    let over = slotted_at w.currents rank in
    let shown = shown_of w line scalar temp expr first in
    omega (
      arith,
      shown_at_weight text line truth scalar temp over rank first,
      items_weight text one w line (scalar + shown.scalars) (temp + length shown.temps) ends items
          left,
      with_shown_weight text shown
          (items_of w line (scalar + shown.scalars) (temp + length shown.temps) ends items left),
    )

pub write_cost : (text : List ℕ → ℕ) → text (10 ∷ []) ≤ 1 → (w : Where) (line : ℕ) (next : Next)
    (ends : Bool) (items : List Item) → HasThree w.setup.known → AreNarrow w.numbers.arrays →
    weight text (lowered_write w line next ends items) ≤ cost text (items_words items) + 34
write_cost text one w line next ends items three narrow =
    let exprs = printed_exprs w items in
    let phases = phased w line next exprs in
    let after = behind next phases.lowered in
    let all = items_of w line after.scalars after.temps ends items phases.left in
    omega (
      arith,
      phases_weight text w line next [] [] exprs (values_cost text items) narrow
          (printed_within text w items three),
      items_weight text one w line after.scalars after.temps ends items phases.left,
      items_cost text items,
      separated_cost text items,
      both_weight text phases.lowered (of_prints all),
      rows_both text all.values all.prints,
    )

-- ---- choices and loops

choose_weight : (text : List ℕ → ℕ) (choice : Bool) (one other : Lowered) (n : ℕ) →
    weight text one ≤ n → weight text other ≤ n → weight text (choose_code choice one other) ≤ n
choose_weight text true one other n first second = first
choose_weight text false one other n first second = second

chosen_weight : (text : List ℕ → ℕ) (next : Next) (test : Testing) (one other : Next → Lowered)
    (m n : ℕ) → ((after : Next) → weight text (one after) ≤ m) →
    ((after : Next) → weight text (other after) ≤ n) →
    weight text (chosen next test one other)
    ≤ weight text test.before + length test.check.expr + (m + n + 2)
chosen_weight text next test one other m n inside outside =
    let after = behind next test.before in
    let first = one after in
    let second = other (behind after first) in
    let code = piece.Choose test.check first.code second.code in
    omega (
      arith,
      inside after,
      outside (behind after first),
      joined_own code first second,
      both_weight text test.before (joined code first second),
    )

when_weight : (text : List ℕ → ℕ) (next : Next) (test : Testing) (one : Next → Lowered) (m : ℕ) →
    ((after : Next) → weight text (one after) ≤ m) →
    weight text (when next test one)
    ≤ weight text test.before + length test.check.expr + (m + 1)
when_weight text next test one m inside =
    let after = behind next test.before in
    let first = one after in
    omega (
      arith,
      inside after,
      both_weight text test.before (record first { code = piece.When test.check first.code }),
    )

while_weight : (text : List ℕ → ℕ) (next : Next) (test : Testing) (body : Next → Lowered)
    (m : ℕ) → ((after : Next) → weight text (body after) ≤ m) →
    weight text (while_code next test body)
    ≤ weight text test.before + length test.check.expr + (m + 2)
while_weight text next test body m inside =
    let first = body (behind next test.before) in
    omega (
      arith,
      inside (behind next test.before),
      joined_own (piece.While test.before.code test.check first.code) test.before first,
    )

repeat_weight : (text : List ℕ → ℕ) (next : Next) (body : Lowered) (test_from : Next → Testing)
    (m : ℕ) →
    ((after : Next) → weight text (test_from after).before
    + length (test_from after).check.expr ≤ m) →
    weight text (repeat_code next body test_from) ≤ weight text body + (m + 2)
repeat_weight text next body test_from m inside =
    let test = test_from (behind next body) in
    omega (
      arith,
      inside (behind next body),
      joined_own (piece.Repeat body.code test.before.code test.check) body test.before,
    )

-- ---- all forms

mutual
  pub stmt_cost : (text : List ℕ → ℕ) → text (10 ∷ []) ≤ 1 → (most : List ℕ → ℕ)
      (context : Lowering) (next : Next) (stmt : Stmt) (reach : Reach) → Fits text most context →
      weight text (lowered context next stmt)
      ≤ cost text (stmt_words stmt) + calls_weight most (stmt_sites reach stmt)
  stmt_cost text one most context next (Prefixed at prefixes form) reach fits =
      let under = under_prefixes reach prefixes in
      let n = cost text (form_words form) + calls_weight most (form_sites under form) in
      omega (
        arith,
        under_cost text most (is_border form) context next prefixes
            (λ inner after. lowered_form inner after at form) n fits
            (λ inner after fit. form_cost text one most inner after at form under fit),
        cost_both text (flat_map prefix_words prefixes) (form_words form),
        calls_both most (prefixes_sites reach prefixes)
            (AtStmt under at prefixes form ∷ form_sites under form),
      )

  pub stmts_cost : (text : List ℕ → ℕ) → text (10 ∷ []) ≤ 1 → (most : List ℕ → ℕ)
      (context : Lowering) (next : Next) (stmts : Stmts) (reach : Reach) →
      Fits text most context →
      weight text (lowered_all context next stmts)
      ≤ cost text (stmts_words stmts) + calls_weight most (stmts_sites reach stmts)
  stmts_cost text one most context next NoStmt reach fits = omega arith
  stmts_cost text one most context next (ThenStmt first rest) reach fits =
      let code = lowered context next first in
      let after = behind next code in
      omega (
        arith,
        stmt_cost text one most context next first reach fits,
        stmts_cost text one most context after rest reach fits,
        both_weight text code (lowered_all context after rest),
        cost_both text (stmt_words first) (stmts_words rest),
        calls_both most (stmt_sites reach first) (stmts_sites reach rest),
      )

  form_cost : (text : List ℕ → ℕ) → text (10 ∷ []) ≤ 1 → (most : List ℕ → ℕ)
      (context : Lowering) (next : Next) (at : ℕ) (form : Form) (reach : Reach) →
      Fits text most context →
      weight text (lowered_form context next at form)
      ≤ cost text (form_words form) + calls_weight most (form_sites reach form)
  form_cost text one most context next at (Assign name op value) reach fits =
      assign_weight text most context next name op value (line_of context.place at) reach fits
  form_cost text one most context next at (Invoke name actuals) reach fits =
      omega (
        arith,
        invoke_weight text most context next name actuals 0 (line_of context.place at) fits,
        cost_both text (name_words name ++ in_round (exprs_words actuals)) (symbol sym.Semicolon),
        round_cost text (exprs_words actuals),
      )
  form_cost text one most context next at (Block body) reach fits =
      omega (
        arith,
        stmts_cost text one most context next body (inside reach (Some 0)) fits,
        cost_both text (stmts_words body) end_words,
      )
  form_cost text one most context next at (If arms otherwise) reach fits =
      let within = inside reach (arms_rank reach arms) in
      let n = cost text (otherwise_words otherwise)
      + calls_weight most (otherwise_sites within otherwise) in
      choose_weight text (is_shattered (reach_of context.place) (If arms otherwise)) _ _ _
      (omega (
        arith,
        shattered_cost text context.place (line_of context.place at) next (If arms otherwise)
            fits.three fits.narrow,
      ))
      (omega (
        arith,
        arms_weight text one most context next at arms otherwise
            (λ after. lowered_otherwise context after otherwise) n reach within fits
            (λ after. otherwise_cost text one most context after otherwise within fits),
        arms_cost text arms,
        cost_both text (arms_words arms ++ otherwise_words otherwise) end_words,
        cost_both text (arms_words arms) (otherwise_words otherwise),
        calls_both most (arms_sites reach within arms) (otherwise_sites within otherwise),
      ))
  form_cost text one most context next at (While test body) reach fits =
      let within = inside reach (test_rank reach test) in
      let n = cost text (stmts_words body) + calls_weight most (stmts_sites within body) in
      choose_weight text (is_shattered (reach_of context.place) (While test body)) _ _ _
      (omega (
        arith,
        shattered_cost text context.place (line_of context.place at) next (While test body)
            fits.three fits.narrow,
      ))
      (omega (
        arith,
        while_weight text next (test_of context.place next test at)
            (λ after. lowered_all context after body) n
            (λ after. stmts_cost text one most context after body within fits),
        test_weight text context.place next test at fits.three fits.narrow,
        cost_both text (expr_words test ++ keyword key.Do ++ stmts_words body) end_words,
        cost_both text (expr_words test ++ keyword key.Do) (stmts_words body),
        cost_both text (expr_words test) (keyword key.Do),
        calls_both most (whole_sites reach Test test) (stmts_sites within body),
      ))
  form_cost text one most context next at (Repeat body until test) reach fits =
      let within = inside reach (test_rank reach test) in
      choose_weight text (is_shattered (reach_of context.place) (Repeat body until test)) _ _ _
      (omega (
        arith,
        shattered_cost text context.place (line_of context.place at) next (Repeat body until test)
            fits.three fits.narrow,
      ))
      (omega (
        arith,
        repeat_weight text next (lowered_all context next body)
            (λ after. test_of context.place after test until) (cost text (expr_words test) + 1)
            (λ after. test_weight text context.place after test until fits.three fits.narrow),
        stmts_cost text one most context next body within fits,
        cost_both text (stmts_words body ++ keyword key.Until ++ expr_words test)
            (symbol sym.Semicolon),
        cost_both text (stmts_words body ++ keyword key.Until) (expr_words test),
        cost_both text (stmts_words body) (keyword key.Until),
        calls_both most (stmts_sites within body) (whole_sites reach Test test),
      ))
  form_cost text one most context next at (For head body) reach fits =
      let within = inside reach (Some 0) in
      let n = cost text (stmts_words body) + calls_weight most (stmts_sites within body) in
      omega (
        arith,
        for_cost text context.place (line_of context.place at) next head
            (λ after. lowered_all context after body) n fits.three fits.narrow
            (λ after. stmts_cost text one most context after body within fits),
        cost_both text (keyword key.For ++ head_words head ++ keyword key.Do ++ stmts_words body)
            end_words,
        cost_both text (keyword key.For ++ head_words head ++ keyword key.Do) (stmts_words body),
        cost_both text (keyword key.For ++ head_words head) (keyword key.Do),
        calls_both most
            (whole_sites reach Limit head.first ++ whole_sites reach Limit head.last
            ++ step_sites reach head.step) (stmts_sites within body),
      )
  form_cost text one most context next at (Border kind names) reach fits =
      omega (
        arith,
        borders_cost text context.place kind context.place.edge (line_of context.place at) next names,
        cost_both text (border_words kind ++ names_words names) (symbol sym.Semicolon),
        cost_both text (border_words kind) (names_words names),
        border_word text kind,
      )
  form_cost text one most context next at (Write ends items) reach fits =
      omega (
        arith,
        write_cost text one context.place (line_of context.place at) next ends items fits.three
            fits.narrow,
        round_cost text (items_words items),
        cost_both,
      )
  form_cost text one most context next at (Return value) reach fits =
      omega (
        arith,
        scalar_weight text context.place (line_of context.place at) next
            (placed_in context.place (Result None) value) (Some context.place.result)
            (cost text (expr_words value)) fits.narrow
            (words_within text context.place value fits.three),
        cost_both text (expr_words value) (symbol sym.Semicolon),
      )

  arms_weight : (text : List ℕ → ℕ) → text (10 ∷ []) ≤ 1 → (most : List ℕ → ℕ)
      (context : Lowering) (next : Next) (at : ℕ) (arms : Arms) (otherwise : Otherwise)
      (last : Next → Lowered) (n : ℕ) (reach within : Reach) → Fits text most context →
      ((after : Next) → weight text (last after) ≤ n) →
      weight text (lowered_arms context next at arms otherwise last)
      ≤ cost text (more_arms arms) + n + calls_weight most (arms_sites reach within arms)
  arms_weight text one most context next at NoArm otherwise last n reach within fits ends =
      omega (arith, ends next)
  arms_weight text one most context next at (ThenArm first rest) otherwise last n reach within fits
      ends =
      let m = cost text (more_arms rest) + n + calls_weight most (arms_sites reach within rest) in
      omega (
        arith,
        arm_weight text one most context next at first (ends_arms rest otherwise)
            (λ after. lowered_arms context after (arms_at rest) rest otherwise last) m reach within fits
            (λ after. arms_weight text one most context after (arms_at rest) rest otherwise last n reach
            within fits ends),
        cost_both text (arm_words first) (more_arms rest),
        calls_both most (arm_sites reach within first) (arms_sites reach within rest),
      )

  arm_weight : (text : List ℕ → ℕ) → text (10 ∷ []) ≤ 1 → (most : List ℕ → ℕ)
      (context : Lowering) (next : Next) (at : ℕ) (arm : Arm) (ending : Bool)
      (last : Next → Lowered) (n : ℕ) (reach within : Reach) → Fits text most context →
      ((after : Next) → weight text (last after) ≤ n) →
      weight text (lowered_arm context next at arm ending last)
      ≤ cost text (arm_words arm) + n + calls_weight most (arm_sites reach within arm)
  arm_weight text one most context next at (Tested own test body) true last n reach within fits
      ends =
      let m = cost text (stmts_words body) + calls_weight most (stmts_sites within body) in
      omega (
        arith,
        when_weight text next (test_of context.place next test at)
            (λ after. lowered_all context after body) m
            (λ after. stmts_cost text one most context after body within fits),
        test_weight text context.place next test at fits.three fits.narrow,
        cost_both text (expr_words test ++ keyword key.Then) (stmts_words body),
        cost_both text (expr_words test) (keyword key.Then),
        calls_both most (whole_sites reach Test test) (stmts_sites within body),
      )
  arm_weight text one most context next at (Tested own test body) false last n reach within fits
      ends =
      let m = cost text (stmts_words body) + calls_weight most (stmts_sites within body) in
      omega (
        arith,
        chosen_weight text next (test_of context.place next test at)
            (λ after. lowered_all context after body) last m n
            (λ after. stmts_cost text one most context after body within fits) ends,
        test_weight text context.place next test at fits.three fits.narrow,
        cost_both text (expr_words test ++ keyword key.Then) (stmts_words body),
        cost_both text (expr_words test) (keyword key.Then),
        calls_both most (whole_sites reach Test test) (stmts_sites within body),
      )

  otherwise_cost : (text : List ℕ → ℕ) → text (10 ∷ []) ≤ 1 → (most : List ℕ → ℕ)
      (context : Lowering) (next : Next) (otherwise : Otherwise) (reach : Reach) →
      Fits text most context →
      weight text (lowered_otherwise context next otherwise)
      ≤ cost text (otherwise_words otherwise)
      + calls_weight most (otherwise_sites reach otherwise)
  otherwise_cost text one most context next NoElse reach fits = omega arith
  otherwise_cost text one most context next (Else body) reach fits =
      omega (arith, stmts_cost text one most context next body reach fits)
