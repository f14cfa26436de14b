-- No group of lowered code has more loops than a shattered statement of the text.
use Rattle.std.proofs.Common.{◌≡◌, ℕ, ◌+◌, ◌≤◌, true, false, List, [], ◌∷◌, ◌++◌, refl, ap, ◌∙◌, subst, arith}
use Rattle.std.specs.Prelude.{Option, Some, None, slice_get, not, ◌&&◌, if◌then◌else◌}
use Rattle.zpl_tree.specs.Syntax.{Stmt, Prefixed, Stmts, NoStmt, ThenStmt, Form, Assign, Invoke, Block, If, While, Repeat, For, Border, Write, Return, Arm, Tested, Arms, NoArm, ThenArm, Otherwise, NoElse, Else, Prefix, Program}
use Rattle.zpl_tree.specs.Depth.{greatest_of}
use Rattle.zpl_names.specs.Counts.{form_loops, stmt_loops, stmts_loops, arms_loops, arm_loops, otherwise_loops}
use Rattle.zpl_names.specs.Expansion.{loops_at, shattered_loops}
use Rattle.zpl_names.specs.Kinds.{Rank}
use Rattle.zpl_names.specs.Ranks.{is_above_zero}
use Rattle.zpl_names.specs.Sites.{Reach, Site, AtStmt, is_shattered, tests_rank, text_sites}
use Rattle.zpl_binding.specs.Settings.{Setting}
use Rattle.zpl_meaning.proofs.DepthLemmas.{Each}
use Rattle.zpl_meaning.specs.Store.{Thing, Scalar, ArrayAt, Fixed, thing_of}
use Rattle.zpl_meaning.specs.Points.{assigned_expr}
use Rattle.flat_form.specs.Row as row
use Rattle.flat_form.specs.Row.{Member, Words}
use Rattle.zpl_lowering.specs.Where.{Stored, slotted_at, Where, Next, reach_of}
use Rattle.zpl_lowering.specs.Hoist.{mask_code}
use Rattle.zpl_lowering.specs.Statement.{Inside, both_inside, Elementwise, elementwise, put_member, put_thing, opening, otherwise_members, stmt_inside, stmts_inside, form_inside, arms_inside, arm_inside, otherwise_inside, masked_members}
use Rattle.zpl_lowering.specs.Program.{lowered_program}
use Rattle.zpl_lowering.specs.Tables.{rows_of}
use Rattle.lowering_loops.proofs.HaveLemmas.{group_of, program_has}
use Rattle.lowering_loops.specs.Turns.{turns_in, RowsTurn}

-- ---- members

turns_both : (xs ys : List Member) → turns_in (xs ++ ys) ≡ turns_in xs + turns_in ys
turns_both [] ys = omega arith
turns_both (row.Put array expr mask line ∷ xs) ys = turns_both xs ys
turns_both (row.Cell cell expr mask line ∷ xs) ys = turns_both xs ys
turns_both (row.Acc scalar operator expr mask line ∷ xs) ys = turns_both xs ys
turns_both (row.OpenIf expr mask line ∷ xs) ys = turns_both xs ys
turns_both (row.Otherwise ∷ xs) ys = turns_both xs ys
turns_both (row.CloseIf ∷ xs) ys = turns_both xs ys
turns_both (row.OpenWhile expr mask line ∷ xs) ys = omega (arith, turns_both xs ys)
turns_both (row.CloseWhile ∷ xs) ys = turns_both xs ys
turns_both (row.OpenRepeat mask line ∷ xs) ys = omega (arith, turns_both xs ys)
turns_both (row.Until expr ∷ xs) ys = turns_both xs ys

opening_turns : (member : Member) (close : List Member) (test : Elementwise) (inside : Inside)
    (n : ℕ) → turns_in close ≡ 0 → turns_in inside.members ≤ n →
    turns_in (opening member close test inside).members ≤ turns_in (member ∷ []) + n
opening_turns member close test inside n none few =
    omega (
      arith,
      few,
      none,
      turns_both inside.members close,
      turns_both (member ∷ []) (inside.members ++ close),
    )

otherwise_turns : (members : List Member) → turns_in (otherwise_members members) ≡ turns_in members
otherwise_turns [] = refl
otherwise_turns (member ∷ members) = refl

put_turns : (w : Where) (line slot : ℕ) (value : Elementwise) (thing : Option Thing) →
    turns_in (put_thing w line slot value thing).members ≡ 0
put_turns w line slot value None = refl
put_turns w line slot value (Some (Scalar place)) = refl
put_turns w line slot value (Some (Fixed number)) = refl
put_turns w line slot value (Some (ArrayAt place home)) = by (slice_get w.numbers.arrays place)
  where
    by : (stored : Option Stored) → turns_in (put_member line slot value stored).members ≡ 0
    by None = refl
    by (Some stored) = refl

module _ (w : Where) (line : ℕ) (next : Next) (rank : Rank) where
  mutual
    stmt_few : (stmt : Stmt) →
        turns_in (stmt_inside w line next rank stmt).members ≤ stmt_loops stmt
    stmt_few (Prefixed at prefixes form) = form_few form

    stmts_few : (stmts : Stmts) →
        turns_in (stmts_inside w line next rank stmts).members ≤ stmts_loops stmts
    stmts_few NoStmt = omega arith
    stmts_few (ThenStmt first rest) =
        omega (
          arith,
          stmt_few first,
          stmts_few rest,
          turns_both (stmt_inside w line next rank first).members
              (stmts_inside w line next rank rest).members,
        )

    form_few : (form : Form) →
        turns_in (form_inside w line next rank form).members ≤ form_loops form
    form_few (Assign name op value) =
        omega (
          arith,
          put_turns w line (slotted_at w.currents rank).slot
              (elementwise w line next rank (assigned_expr name op value))
              (thing_of w.environment name.text),
        )
    form_few (Invoke name actuals) = omega arith
    form_few (Block body) = stmts_few body
    form_few (If arms otherwise) =
        arms_few arms (otherwise_inside w line next rank otherwise) (otherwise_loops otherwise)
        (otherwise_few otherwise)
    form_few (While test body) =
        let value : Elementwise = elementwise w line next rank test in
        opening_turns (row.OpenWhile value.expr None line) (row.CloseWhile ∷ []) value
        (stmts_inside w line next rank body) (stmts_loops body) refl (stmts_few body)
    form_few (Repeat body until test) =
        let value : Elementwise = elementwise w line next rank test in
        opening_turns (row.OpenRepeat None line) (row.Until value.expr ∷ []) value
        (stmts_inside w line next rank body) (stmts_loops body) refl (stmts_few body)
    form_few (For head body) = omega arith
    form_few (Border kind names) = omega arith
    form_few (Write ends items) = omega arith
    form_few (Return value) = omega arith

    arms_few : (arms : Arms) (last : Inside) (n : ℕ) → turns_in last.members ≤ n →
        turns_in (arms_inside w line next rank arms last).members ≤ arms_loops arms + n
    arms_few NoArm last n few = omega (arith, few)
    arms_few (ThenArm first rest) last n few =
        omega (
          arith,
          arm_few first (arms_inside w line next rank rest last) (arms_loops rest + n)
              (arms_few rest last n few),
        )

    arm_few : (arm : Arm) (last : Inside) (n : ℕ) → turns_in last.members ≤ n →
        turns_in (arm_inside w line next rank arm last).members ≤ arm_loops arm + n
    arm_few (Tested at test body) last n few =
        let value : Elementwise = elementwise w line next rank test in
        let inside : Inside = stmts_inside w line next rank body in
        let other : Inside = record last { members = otherwise_members last.members } in
        let both : turns_in (both_inside inside other).members ≤ stmts_loops body + n =
        omega (
          arith,
          few,
          stmts_few body,
          otherwise_turns last.members,
          turns_both inside.members (otherwise_members last.members),
        ) in
        omega (
          arith,
          opening_turns (row.OpenIf value.expr None line) (row.CloseIf ∷ []) value
              (both_inside inside other) (stmts_loops body + n) refl both,
        )

    otherwise_few : (otherwise : Otherwise) →
        turns_in (otherwise_inside w line next rank otherwise).members
        ≤ otherwise_loops otherwise
    otherwise_few NoElse = omega arith
    otherwise_few (Else body) = stmts_few body

masked_turns : (mask : Option Words) (line : ℕ) (members : List Member) →
    turns_in (masked_members mask line members) ≡ turns_in members
masked_turns None line members = refl
masked_turns (Some words) line members = turns_both members (row.CloseIf ∷ []) ∙ omega arith

-- ---- shattered statements

group_few : (w : Where) (line : ℕ) (next : Next) (form : Form) →
    turns_in (group_of w line next form) ≤ form_loops form
group_few w line next form =
    let rank : Rank = tests_rank (reach_of w) form in
    let mask : Option Words = mask_code w.numbers (slotted_at w.currents rank).mask in
    omega (
      arith,
      form_few w line next rank form,
      masked_turns mask line (form_inside w line next rank form).members,
    )

module _ (most : ℕ) where
  -- the loops of a place of the text
  abbrev IsFew : Site → Type 0
  IsFew site = loops_at site ≤ most

  told_few : (reach : Reach) (at : ℕ) (prefixes : List Prefix) (form : Form) →
      is_above_zero reach.shattered ≡ false → is_shattered reach form ≡ true →
      IsFew (AtStmt reach at prefixes form) → form_loops form ≤ most
  told_few reach at prefixes form bare is few =
      subst (λ b. (if b then form_loops form else 0) ≤ most)
      (ap (λ b. not b && is_shattered reach form) bare ∙ is) few

-- ---- the rows of a program

within_greatest : (sites : List Site) → Each (IsFew (greatest_of loops_at sites)) sites
within_greatest sites = each sites (greatest_of loops_at sites) (omega arith)
  where
    each : (sites : List Site) (most : ℕ) → greatest_of loops_at sites ≤ most →
        Each (IsFew most) sites
    each [] most few = tt
    each (site ∷ sites) most few =
        (omega (arith, few), each sites most (omega (arith, few)))

pub program_turns : (program : Program) (settings : List Setting) →
    RowsTurn (shattered_loops program) (rows_of (lowered_program program settings))
program_turns program settings =
    let most : ℕ = shattered_loops program in
    program_has (λ group. turns_in group ≤ most) (λ group none. omega (arith, none)) (IsFew most)
    (λ w line next form reach at prefixes seen is few.
    omega (
      arith,
      group_few w line next form,
      told_few most reach at prefixes form seen.bare is few,
    )) program settings (within_greatest (text_sites program))
