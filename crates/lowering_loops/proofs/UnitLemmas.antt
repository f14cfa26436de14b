-- A group of lowered code that has loops is that of a shattered statement, and one unit: the
-- statement's own member, or the test of the mask that it stands under.
use Rattle.std.proofs.Common.{◌≡◌, ℕ, suc, true, List, [], ◌∷◌, ◌++◌, append_assoc, refl, ap, ◌∙◌, arith}
use Rattle.std.specs.Prelude.{Option, Some, None, slice_get}
use Rattle.zpl_tree.specs.Syntax.{Stmt, Prefixed, Stmts, NoStmt, ThenStmt, Form, Assign, Invoke, Block, If, While, Repeat, For, Border, Write, Return, Arm, Tested, Arms, NoArm, ThenArm, Otherwise, NoElse, Else, Program}
use Rattle.zpl_names.specs.Kinds.{Rank}
use Rattle.zpl_names.specs.Sites.{Reach, Site, is_shattered, tests_rank, text_sites}
use Rattle.zpl_binding.specs.Settings.{Setting}
use Rattle.zpl_meaning.proofs.DepthLemmas.{Each}
use Rattle.zpl_meaning.specs.Store.{Thing, Scalar, ArrayAt, Fixed, thing_of}
use Rattle.zpl_meaning.specs.Points.{assigned_expr}
use Rattle.flat_form.specs.Row as row
use Rattle.flat_form.specs.Row.{Member, Words}
use Rattle.zpl_lowering.specs.Where.{Stored, slotted_at, Where, Next, reach_of}
use Rattle.zpl_lowering.specs.Hoist.{mask_code}
use Rattle.zpl_lowering.specs.Statement.{Elementwise, elementwise, put_member, put_thing, otherwise_members, stmt_inside, stmts_inside, form_inside, arms_inside, arm_inside, otherwise_inside, masked_members, Inside}
use Rattle.zpl_lowering.specs.Program.{lowered_program}
use Rattle.zpl_lowering.specs.Tables.{rows_of}
use Rattle.lowering_loops.specs.Turns.{RowsHave, depth_past, ended, units_in, LoopsInOneUnit}
use Rattle.lowering_loops.proofs.HaveLemmas.{group_of, program_has}

-- ---- members that close what they open

-- within a unit no unit ends in them
abbrev IsWithin : List Member → Type 0
IsWithin xs =
    (depth : ℕ) (ys : List Member) → units_in (suc depth) (xs ++ ys) ≡ units_in (suc depth) ys

none_within : IsWithin []
none_within depth ys = refl

both_within : (xs ys : List Member) → IsWithin xs → IsWithin ys → IsWithin (xs ++ ys)
both_within xs ys first rest depth zs =
    ap (units_in (suc depth)) (append_assoc xs ys zs) ∙ (first depth (ys ++ zs) ∙ rest depth zs)

otherwise_within : (xs : List Member) → IsWithin xs → IsWithin (otherwise_members xs)
otherwise_within [] within depth ys = refl
otherwise_within (one ∷ xs) within depth ys = within depth ys

-- a member that opens, and one that closes
module _ (start close : Member) (opens : (depth : ℕ) → depth_past depth start ≡ suc depth)
    (closes : (depth : ℕ) → depth_past (suc depth) close ≡ depth) where
  enclosed : (xs : List Member) → IsWithin xs → (depth : ℕ) (ys : List Member) →
      units_in depth (start ∷ (xs ++ close ∷ []) ++ ys) ≡ ended depth (units_in depth ys)
  enclosed xs within depth ys =
      ap (λ d. ended d (units_in d ((xs ++ close ∷ []) ++ ys))) (opens depth)
      ∙ (ap (units_in (suc depth)) (append_assoc xs (close ∷ []) ys)
      ∙ (within depth (close ∷ ys) ∙ ap (λ d. ended d (units_in d ys)) (closes depth)))

  enclosed_within : (xs : List Member) → IsWithin xs → IsWithin (start ∷ (xs ++ close ∷ []))
  enclosed_within xs within depth ys = enclosed xs within (suc depth) ys

  one_unit : (xs : List Member) → IsWithin xs → units_in 0 (start ∷ (xs ++ close ∷ [])) ≡ 1
  one_unit xs within =
      ap (λ d. ended d (units_in d (xs ++ close ∷ []))) (opens 0)
      ∙ (within 0 (close ∷ []) ∙ ap (λ d. ended d 0) (closes 0))

while_within : (words : Words) (line : ℕ) (xs : List Member) → IsWithin xs →
    IsWithin (row.OpenWhile words None line ∷ (xs ++ row.CloseWhile ∷ []))
while_within words line =
    enclosed_within (row.OpenWhile words None line) row.CloseWhile (λ d. refl) (λ d. refl)

repeat_within : (words : Words) (line : ℕ) (xs : List Member) → IsWithin xs →
    IsWithin (row.OpenRepeat None line ∷ (xs ++ row.Until words ∷ []))
repeat_within words line =
    enclosed_within (row.OpenRepeat None line) (row.Until words) (λ d. refl) (λ d. refl)

if_within : (words : Words) (line : ℕ) (xs : List Member) → IsWithin xs →
    IsWithin (row.OpenIf words None line ∷ (xs ++ row.CloseIf ∷ []))
if_within words line =
    enclosed_within (row.OpenIf words None line) row.CloseIf (λ d. refl) (λ d. refl)

put_within : (w : Where) (line slot : ℕ) (value : Elementwise) (thing : Option Thing) →
    IsWithin (put_thing w line slot value thing).members
put_within w line slot value None = none_within
put_within w line slot value (Some (Scalar place)) = none_within
put_within w line slot value (Some (Fixed number)) = none_within
put_within w line slot value (Some (ArrayAt place home)) = by (slice_get w.numbers.arrays place)
  where
    by : (stored : Option Stored) → IsWithin (put_member line slot value stored).members
    by None = none_within
    by (Some stored) = λ depth ys. refl

-- ---- statements in a shattered one

module _ (w : Where) (line : ℕ) (next : Next) (rank : Rank) where
  abbrev body_members : Stmts → List Member
  body_members body = (stmts_inside w line next rank body).members

  -- an arm's body, with what stands behind the arm
  abbrev arm_members : Stmts → Inside → List Member
  arm_members body last = body_members body ++ otherwise_members last.members

  mutual
    stmt_within : (stmt : Stmt) → IsWithin (stmt_inside w line next rank stmt).members
    stmt_within (Prefixed at prefixes form) = form_within form

    stmts_within : (stmts : Stmts) → IsWithin (body_members stmts)
    stmts_within NoStmt = none_within
    stmts_within (ThenStmt first rest) =
        both_within (stmt_inside w line next rank first).members (body_members rest)
        (stmt_within first) (stmts_within rest)

    form_within : (form : Form) → IsWithin (form_inside w line next rank form).members
    form_within (Assign name op value) =
        put_within w line (slotted_at w.currents rank).slot
        (elementwise w line next rank (assigned_expr name op value))
        (thing_of w.environment name.text)
    form_within (Invoke name actuals) = none_within
    form_within (Block body) = stmts_within body
    form_within (If arms otherwise) =
        arms_within arms (otherwise_inside w line next rank otherwise) (otherwise_is_within otherwise)
    form_within (While test body) =
        while_within (elementwise w line next rank test).expr line (body_members body)
        (stmts_within body)
    form_within (Repeat body until test) =
        repeat_within (elementwise w line next rank test).expr line (body_members body)
        (stmts_within body)
    form_within (For head body) = none_within
    form_within (Border kind names) = none_within
    form_within (Write ends items) = none_within
    form_within (Return value) = none_within

    arms_within : (arms : Arms) (last : Inside) → IsWithin last.members →
        IsWithin (arms_inside w line next rank arms last).members
    arms_within NoArm last within = within
    arms_within (ThenArm first rest) last within =
        arm_within first (arms_inside w line next rank rest last) (arms_within rest last within)

    arm_within : (arm : Arm) (last : Inside) → IsWithin last.members →
        IsWithin (arm_inside w line next rank arm last).members
    arm_within (Tested at test body) last within =
        if_within (elementwise w line next rank test).expr line (arm_members body last)
        (both_within (body_members body) (otherwise_members last.members) (stmts_within body)
        (otherwise_within last.members within))

    otherwise_is_within : (otherwise : Otherwise) →
        IsWithin (otherwise_inside w line next rank otherwise).members
    otherwise_is_within NoElse = none_within
    otherwise_is_within (Else body) = stmts_within body

  -- ---- a shattered statement is an `if`, `while` or `repeat`

  form_unit : (reach : Reach) (form : Form) → is_shattered reach form ≡ true →
      units_in 0 (form_inside w line next rank form).members ≡ 1
  form_unit reach (Assign name op value) is = let no : ⊥ = cc in absurd no
  form_unit reach (Invoke name actuals) is = let no : ⊥ = cc in absurd no
  form_unit reach (Block body) is = let no : ⊥ = cc in absurd no
  form_unit reach (If NoArm otherwise) is = let no : ⊥ = cc in absurd no
  form_unit reach (If (ThenArm (Tested at test body) rest) otherwise) is =
      let last : Inside = otherwise_inside w line next rank otherwise in
      let others : Inside = arms_inside w line next rank rest last in
      one_unit (row.OpenIf (elementwise w line next rank test).expr None line) row.CloseIf
      (λ d. refl) (λ d. refl) (arm_members body others)
      (both_within (body_members body) (otherwise_members others.members) (stmts_within body)
      (otherwise_within others.members
      (arms_within rest last (otherwise_is_within otherwise))))
  form_unit reach (While test body) is =
      one_unit (row.OpenWhile (elementwise w line next rank test).expr None line) row.CloseWhile
      (λ d. refl) (λ d. refl) (body_members body) (stmts_within body)
  form_unit reach (Repeat body until test) is =
      one_unit (row.OpenRepeat None line) (row.Until (elementwise w line next rank test).expr)
      (λ d. refl) (λ d. refl) (body_members body) (stmts_within body)
  form_unit reach (For head body) is = let no : ⊥ = cc in absurd no
  form_unit reach (Border kind names) is = let no : ⊥ = cc in absurd no
  form_unit reach (Write ends items) is = let no : ⊥ = cc in absurd no
  form_unit reach (Return value) is = let no : ⊥ = cc in absurd no

masked_unit : (mask : Option Words) (line : ℕ) (members : List Member) → IsWithin members →
    units_in 0 members ≡ 1 → units_in 0 (masked_members mask line members) ≡ 1
masked_unit None line members within one = one
masked_unit (Some words) line members within one =
    one_unit (row.OpenIf words None line) row.CloseIf (λ d. refl) (λ d. refl) members within

group_unit : (w : Where) (line : ℕ) (next : Next) (form : Form) (reach : Reach) →
    is_shattered reach form ≡ true → units_in 0 (group_of w line next form) ≡ 1
group_unit w line next form reach is =
    let rank : Rank = tests_rank (reach_of w) form in
    masked_unit (mask_code w.numbers (slotted_at w.currents rank).mask) line
    (form_inside w line next rank form).members (form_within w line next rank form)
    (form_unit w line next rank reach form is)

-- ---- the rows of a program

any_site : (sites : List Site) → Each (λ site. Unit {0}) sites
any_site [] = tt
any_site (site ∷ sites) = (tt, any_site sites)

pub program_units : (program : Program) (settings : List Setting) →
    RowsHave LoopsInOneUnit (rows_of (lowered_program program settings))
program_units program settings =
    program_has LoopsInOneUnit (λ group none some. omega (arith, none, some)) (λ site. Unit {0})
    (λ w line next form reach at prefixes seen is own some.
    omega (arith, group_unit w line next form reach is)) program settings
    (any_site (text_sites program))
