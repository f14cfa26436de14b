-- Shattered statements: one loop, and a row behind one that puts nothing.
use Rattle.std.proofs.Common.{◌≡◌, ℕ, Bool, true, false, ◌+◌, ◌≤◌, List, [], ◌∷◌, ◌++◌, length, Option, Some, None, refl, arith, length-append}
use Rattle.std.specs.Prelude.{slice_get, flat_map}
use Rattle.zpl_tokens.specs.declared.keywords.Key.TheVariants as key
use Rattle.zpl_tokens.specs.declared.symbols.Sym.TheVariants as sym
use Rattle.zpl_tree.specs.Syntax.{Expr, Stmt, Prefixed, Stmts, NoStmt, ThenStmt, Form, Assign, Invoke, Block, If, While, Repeat, For, Border, Write, Return, Arm, Tested, Arms, NoArm, ThenArm, Otherwise, NoElse, Else}
use Rattle.zpl_tree.specs.Spelling.{symbol, keyword, name_words, expr_words, prefix_words, assign_words, end_words, stmt_words, stmts_words, form_words, arms_words, arm_words, more_arms, otherwise_words}
use Rattle.zpl_names.specs.Kinds.{Rank}
use Rattle.zpl_meaning.specs.Store.{Thing, Scalar, ArrayAt, Fixed, thing_of}
use Rattle.zpl_meaning.specs.Points.{assigned_expr}
use Rattle.flat_form.specs.Row as row
use Rattle.flat_form.specs.Row.{Member, Words}
use Rattle.zpl_lowering.specs.Where.{Stored, Slotted, slotted_at, Where, Next, reach_of}
use Rattle.zpl_lowering.specs.Reference.{over_reference, needs}
use Rattle.zpl_lowering.specs.Slate.{settled}
use Rattle.zpl_lowering.specs.Hoist.{mask_code}
use Rattle.zpl_lowering.specs.Statement.{Inside, both_inside, Elementwise, elementwise, put_member, put_thing, opening, otherwise_members, stmt_inside, stmts_inside, form_inside, arms_inside, arm_inside, otherwise_inside, masked_members, shattered_over, has_put, kept_apart, shattered}
use Rattle.zpl_names.specs.Sites.{tests_rank}
use Rattle.lowering_sizes.proofs.Costs.{cost, cost_both}
use Rattle.lowering_sizes.proofs.Weights.{mask_weight, member_weight, members_weight, members_both, rows_both}
use Rattle.lowering_sizes.proofs.LaidOut.{weight}
use Rattle.lowering_sizes.proofs.Slates.{AreNarrow, slate_weight, mask_two, over_once}
use Rattle.lowering_sizes.proofs.Known.{HasThree}
use Rattle.lowering_sizes.proofs.Phases.{IsWithin, words_within, assigned_within, needs_weight}

abbrev pub inside_weight : Inside → ℕ
inside_weight inside = members_weight inside.members + length inside.references

elementwise_weight : (text : List ℕ → ℕ) (w : Where) (line : ℕ) (next : Next) (rank : Rank)
    (expr : Expr) (n : ℕ) → AreNarrow w.numbers.arrays → IsWithin text w expr n →
    length (elementwise w line next rank expr).expr
    + (length (elementwise w line next rank expr).references + 8) ≤ n
elementwise_weight text w line next rank expr n narrow within =
    omega (
      arith,
      within line next rank,
      slate_weight text w.numbers line (record { scalars = next.scalars; temps = next.temps })
          (settled w line next rank expr).slate narrow,
    )

both_inside_weight : (one other : Inside) →
    inside_weight (both_inside one other) ≡ inside_weight one + inside_weight other
both_inside_weight one other =
    omega (
      arith,
      members_both one.members other.members,
      length-append one.references other.references,
    )

put_weight : (w : Where) (line slot : ℕ) (value : Elementwise) (thing : Option Thing) →
    inside_weight (put_thing w line slot value thing)
    ≤ length value.expr + (length value.references + 2)
put_weight w line slot value (Some (Scalar place)) = omega arith
put_weight w line slot value (Some (Fixed constant)) = omega arith
put_weight w line slot value None = omega arith
put_weight w line slot value (Some (ArrayAt place home)) = by (slice_get w.numbers.arrays place)
  where
    by : (stored : Option Stored) →
        inside_weight (put_member line slot value stored)
        ≤ length value.expr + (length value.references + 2)
    by None = omega arith
    by (Some stored) = omega arith

opening_weight : (member : Member) (close : List Member) (test : Elementwise) (inside : Inside) →
    inside_weight (opening member close test inside)
    ≡ member_weight member + (members_weight close + (length test.references
    + inside_weight inside))
opening_weight member close test inside =
    omega (
      arith,
      members_both inside.members close,
      length-append test.references inside.references,
    )

otherwise_weight : (members : List Member) →
    members_weight (otherwise_members members) ≤ members_weight members + 1
otherwise_weight [] = omega arith
otherwise_weight (member ∷ members) = omega arith

pub arms_cost : (text : List ℕ → ℕ) (arms : Arms) →
    cost text (arms_words arms) ≡ cost text (more_arms arms)
arms_cost text NoArm = refl
arms_cost text (ThenArm first rest) = refl

mutual
  stmt_inside_cost : (text : List ℕ → ℕ) (w : Where) (line : ℕ) (next : Next) (rank : Rank)
      (stmt : Stmt) → HasThree w.setup.known → AreNarrow w.numbers.arrays →
      inside_weight (stmt_inside w line next rank stmt) ≤ cost text (stmt_words stmt)
  stmt_inside_cost text w line next rank (Prefixed at prefixes form) three narrow =
      omega (
        arith,
        form_inside_cost text w line next rank form three narrow,
        cost_both text (flat_map prefix_words prefixes) (form_words form),
      )

  stmts_inside_cost : (text : List ℕ → ℕ) (w : Where) (line : ℕ) (next : Next) (rank : Rank)
      (stmts : Stmts) → HasThree w.setup.known → AreNarrow w.numbers.arrays →
      inside_weight (stmts_inside w line next rank stmts) ≤ cost text (stmts_words stmts)
  stmts_inside_cost text w line next rank NoStmt three narrow = omega arith
  stmts_inside_cost text w line next rank (ThenStmt first rest) three narrow =
      omega (
        arith,
        stmt_inside_cost text w line next rank first three narrow,
        stmts_inside_cost text w line next rank rest three narrow,
        both_inside_weight (stmt_inside w line next rank first) (stmts_inside w line next rank rest),
        cost_both text (stmt_words first) (stmts_words rest),
      )

  pub form_inside_cost : (text : List ℕ → ℕ) (w : Where) (line : ℕ) (next : Next) (rank : Rank)
      (form : Form) → HasThree w.setup.known → AreNarrow w.numbers.arrays →
      inside_weight (form_inside w line next rank form) + 9 ≤ cost text (form_words form)
  form_inside_cost text w line next rank (Assign name op value) three narrow =
      let taken = assigned_expr name op value in
      omega (
        arith,
        elementwise_weight text w line next rank taken (cost text (expr_words value) + 32) narrow
            (assigned_within text w name op value three),
        put_weight w line (slotted_at w.currents rank).slot (elementwise w line next rank taken)
            (thing_of w.environment name.text),
        cost_both text (name_words name ++ assign_words op ++ expr_words value)
            (symbol sym.Semicolon),
        cost_both text (name_words name ++ assign_words op) (expr_words value),
      )
  form_inside_cost text w line next rank (Block body) three narrow =
      omega (
        arith,
        stmts_inside_cost text w line next rank body three narrow,
        cost_both text (stmts_words body) end_words,
      )
  form_inside_cost text w line next rank (If arms otherwise) three narrow =
      let last = otherwise_inside w line next rank otherwise in
      omega (
        arith,
        arms_inside_cost text w line next rank arms last three narrow,
        otherwise_inside_cost text w line next rank otherwise three narrow,
        arms_cost text arms,
        cost_both text (arms_words arms ++ otherwise_words otherwise) end_words,
        cost_both text (arms_words arms) (otherwise_words otherwise),
      )
  form_inside_cost text w line next rank (While test body) three narrow =
      let value = elementwise w line next rank test in
      omega (
        arith,
        elementwise_weight text w line next rank test (cost text (expr_words test)) narrow
            (words_within text w test three),
        stmts_inside_cost text w line next rank body three narrow,
        opening_weight (row.OpenWhile value.expr None line) (row.CloseWhile ∷ []) value
            (stmts_inside w line next rank body),
        cost_both text (expr_words test ++ keyword key.Do ++ stmts_words body) end_words,
        cost_both text (expr_words test ++ keyword key.Do) (stmts_words body),
        cost_both text (expr_words test) (keyword key.Do),
      )
  form_inside_cost text w line next rank (Repeat body until test) three narrow =
      let value = elementwise w line next rank test in
      omega (
        arith,
        elementwise_weight text w line next rank test (cost text (expr_words test)) narrow
            (words_within text w test three),
        stmts_inside_cost text w line next rank body three narrow,
        opening_weight (row.OpenRepeat None line) (row.Until value.expr ∷ []) value
            (stmts_inside w line next rank body),
        cost_both text (stmts_words body ++ keyword key.Until ++ expr_words test)
            (symbol sym.Semicolon),
        cost_both text (stmts_words body ++ keyword key.Until) (expr_words test),
        cost_both text (stmts_words body) (keyword key.Until),
      )
  form_inside_cost text w line next rank (Invoke name actuals) three narrow = omega arith
  form_inside_cost text w line next rank (For head body) three narrow = omega arith
  form_inside_cost text w line next rank (Border kind names) three narrow =
      omega (arith, cost_both)
  form_inside_cost text w line next rank (Write ends items) three narrow =
      omega (arith, cost_both)
  form_inside_cost text w line next rank (Return value) three narrow = omega arith

  arms_inside_cost : (text : List ℕ → ℕ) (w : Where) (line : ℕ) (next : Next) (rank : Rank)
      (arms : Arms) (last : Inside) → HasThree w.setup.known → AreNarrow w.numbers.arrays →
      inside_weight (arms_inside w line next rank arms last)
      ≤ cost text (more_arms arms) + inside_weight last
  arms_inside_cost text w line next rank NoArm last three narrow = omega arith
  arms_inside_cost text w line next rank (ThenArm first rest) last three narrow =
      omega (
        arith,
        arm_inside_cost text w line next rank first (arms_inside w line next rank rest last) three
            narrow,
        arms_inside_cost text w line next rank rest last three narrow,
        cost_both text (arm_words first) (more_arms rest),
      )

  arm_inside_cost : (text : List ℕ → ℕ) (w : Where) (line : ℕ) (next : Next) (rank : Rank)
      (arm : Arm) (last : Inside) → HasThree w.setup.known → AreNarrow w.numbers.arrays →
      inside_weight (arm_inside w line next rank arm last)
      ≤ cost text (arm_words arm) + inside_weight last
  arm_inside_cost text w line next rank (Tested at test body) last three narrow =
      let value = elementwise w line next rank test in
      let others : Inside = record last { members = otherwise_members last.members } in
      omega (
        arith,
        elementwise_weight text w line next rank test (cost text (expr_words test)) narrow
            (words_within text w test three),
        stmts_inside_cost text w line next rank body three narrow,
        opening_weight (row.OpenIf value.expr None line) (row.CloseIf ∷ []) value
            (both_inside (stmts_inside w line next rank body) others),
        both_inside_weight (stmts_inside w line next rank body) others,
        otherwise_weight last.members,
        cost_both text (expr_words test ++ keyword key.Then) (stmts_words body),
        cost_both text (expr_words test) (keyword key.Then),
      )

  otherwise_inside_cost : (text : List ℕ → ℕ) (w : Where) (line : ℕ) (next : Next) (rank : Rank)
      (otherwise : Otherwise) → HasThree w.setup.known → AreNarrow w.numbers.arrays →
      inside_weight (otherwise_inside w line next rank otherwise)
      ≤ cost text (otherwise_words otherwise)
  otherwise_inside_cost text w line next rank NoElse three narrow = omega arith
  otherwise_inside_cost text w line next rank (Else body) three narrow =
      omega (arith, stmts_inside_cost text w line next rank body three narrow)

masked_weight : (mask : Option Words) (line : ℕ) (members : List Member) → mask_weight mask ≤ 2 →
    members_weight (masked_members mask line members) ≤ members_weight members + 4
masked_weight None line members two = omega arith
masked_weight (Some mask) line members two =
    omega (arith, members_both members (row.CloseIf ∷ []))

shattered_weight : (text : List ℕ → ℕ) (w : Where) (over : Slotted) (line : ℕ)
    (inside : Inside) →
    weight text (shattered_over w over line inside) ≤ inside_weight inside + 6
shattered_weight text w over line inside =
    let mask = mask_code w.numbers over.mask in
    let refers = inside.references ++ over_reference w.numbers over in
    omega (
      arith,
      masked_weight mask line inside.members (mask_two w.numbers over.mask),
      needs_weight text line refers,
      length-append inside.references (over_reference w.numbers over),
      over_once w.numbers over,
      rows_both text (needs line refers)
          (row.Loop over.slot (masked_members mask line inside.members) ∷ []),
    )

-- a row behind a loop that puts nothing
apart_weight : (text : List ℕ → ℕ) (put : Bool) (line scalar : ℕ) →
    weight text (kept_apart put line scalar) ≤ 3
apart_weight text true line scalar = omega arith
apart_weight text false line scalar = omega arith

pub shattered_cost : (text : List ℕ → ℕ) (w : Where) (line : ℕ) (next : Next) (form : Form) →
    HasThree w.setup.known → AreNarrow w.numbers.arrays →
    weight text (shattered w line next form) ≤ cost text (form_words form)
shattered_cost text w line next form three narrow =
    let rank = tests_rank (reach_of w) form in
    let inside = form_inside w line next rank form in
    omega (
      arith,
      form_inside_cost text w line next rank form three narrow,
      shattered_weight text w (slotted_at w.currents rank) line inside,
      apart_weight text (has_put inside.members) line next.scalars,
    )
