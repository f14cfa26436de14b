-- What a draft grows by where tests, choices and loops are pushed step by step.
use Rattle.std.proofs.Common.{◌≡◌, ◌<◌, ◌≤◌, ℕ, ◌+◌, Bool, List, [], ◌∷◌, ◌++◌, Option, length, refl}
use Rattle.std.proofs.Common.{sym, ap, ap₂, ◌∙◌, append-nil, arith, drop, get_or}
use Rattle.std.proofs.lemmas.List.{drop_all, drop_more}
use Rattle.zpl_tree.specs.View.{stmt_of, stmts_of}
use Rattle.zpl_tree.specs.declared.statements.Stmt.{Stmt as CodeStmt}
use Rattle.row_runs.specs.Structured as piece
use Rattle.row_runs.specs.Structured.{Piece}
use Rattle.zpl_tree.specs.Syntax.{Expr, ForHead}
use Rattle.node_form.specs.Expression.{Variable, words_of}
use Rattle.node_form.specs.declared.words.ExprOp.{ExprOp}
use Rattle.flat_form.specs.Row.{Row}
use Rattle.zpl_region.specs.declared.regions.Region.{Region}
use Rattle.zpl_lowering.specs.Check.{Check}
use Rattle.zpl_lowering.specs.Hoist.{Shifted}
use Rattle.zpl_lowering.specs.Where.{Next, Where, line_of}
use Rattle.zpl_lowering.specs.Lowered.{Lowered, behind, both, check_of, followed, joined, phased, rows_alone}
use Rattle.zpl_lowering.specs.Statement.{Lowering, counter_from, head_exprs, lowered, lowered_all}
use Rattle.zpl_lowering.specs.Statement.{lowered_for, test_of}
use Rattle.zpl_lowering.specs.Statement.{Counter, Testing, chosen, counted, enters, is_done, repeat_code, set_row, step_row, when, while_code}
use Rattle.lower_draft.specs.Drafted.{Drafted, all_pushed, begun, closed, grown, looped, opened, pushed, turned, until}
use Rattle.lower_draft.proofs.GrowthLemmas.{both_grown, choose_grown, repeat_grown, rows_grown, when_grown, while_grown}
use Rattle.lower_statements.specs.Counters.{begun_at}
use Rattle.lower_statements.specs.Tests.{test_at}
use Rattle.zpl_lower.specs.Turns.{target_in, turns_code}

-- nothing was pushed
pub nothing_grown : (draft : Drafted) → draft ≡ grown draft (rows_alone [])
nothing_grown draft = rows_grown draft []

-- one part behind another
pub followed_grown : (d0 d1 d2 : Drafted) (first : Lowered) (rest : Next → Lowered) →
    d1 ≡ grown d0 first → d2 ≡ grown d1 (rest d1.next) →
    d2 ≡ grown d0 (followed d0.next first rest)
followed_grown d0 d1 d2 first rest one two =
    two ∙ ap (λ d. grown d (rest d.next)) one
    ∙ both_grown d0 first (rest (behind d0.next first))

module _ (d0 d1 : Drafted) (test : Testing) (at : ℕ)
    (opens : d1 ≡ opened (grown d0 test.before) test.check)
    (here : at ≡ length (grown d0 test.before).tables.code) where
  inside_is : (d2 : Drafted) (one : Next → Lowered) → d2 ≡ grown d1 (one d1.next) →
      d2 ≡ grown (opened (grown d0 test.before) test.check) (one (behind d0.next test.before))
  inside_is d2 one is = is ∙ ap (λ d. grown d (one d.next)) opens

  -- a test, and what is done where it is true
  pub when_steps : (d2 d3 : Drafted) (one : Next → Lowered) → d2 ≡ grown d1 (one d1.next) →
      d3 ≡ closed d2 at → d3 ≡ grown d0 (when d0.next test one)
  when_steps d2 d3 one inside closes =
      let after = behind d0.next test.before in
      closes ∙ ap₂ closed (inside_is d2 one inside) here
      ∙ when_grown (grown d0 test.before) test.check (one after)
      ∙ both_grown d0 test.before
      (record (one after) { code = piece.When test.check (one after).code })

  -- a test, and one of two
  pub chosen_steps : (d2 d3 d4 d5 : Drafted) (jump : ℕ) (one other : Next → Lowered) →
      d2 ≡ grown d1 (one d1.next) → jump ≡ length d2.tables.code → d3 ≡ turned d2 at →
      d4 ≡ grown d3 (other d3.next) → d5 ≡ closed d4 jump →
      d5 ≡ grown d0 (chosen d0.next test one other)
  chosen_steps d2 d3 d4 d5 jump one other inside jumps turns last closes =
      let g = grown d0 test.before in
      let after = behind d0.next test.before in
      let first = one after in
      let opening = grown (opened g test.check) first in
      let two : d2 ≡ opening = inside_is d2 one inside in
      let three : d3 ≡ turned opening (length g.tables.code) = turns ∙ ap₂ turned two here in
      let four : d4 ≡ grown (turned opening (length g.tables.code)) (other (behind after first)) =
      last ∙ ap (λ d. grown d (other d.next)) three in
      closes ∙ ap₂ closed four (jumps ∙ ap (λ d. length d.tables.code) two)
      ∙ choose_grown g test.check first (other (behind after first))
      ∙ both_grown d0 test.before
      (joined (piece.Choose test.check first.code (other (behind after first)).code) first
      (other (behind after first)))

  -- a loop that tests before its turns
  pub while_steps : (d2 d3 : Drafted) (start : ℕ) (body : Next → Lowered) →
      start ≡ length d0.tables.code → d2 ≡ grown d1 (body d1.next) → d3 ≡ looped d2 start at →
      d3 ≡ grown d0 (while_code d0.next test body)
  while_steps d2 d3 start body starts inside loops =
      loops
      ∙ ap (λ d. looped d start at) (inside_is d2 body inside)
      ∙ ap₂ (λ s a. looped (grown (opened (grown d0 test.before) test.check)
      (body (behind d0.next test.before))) s a) starts here
      ∙ while_grown d0 test.before test.check (body (behind d0.next test.before))

-- a loop that tests behind its turns
pub repeat_steps : (d0 d1 d2 d3 d4 : Drafted) (start line : ℕ) (body : Next → Lowered)
    (test : Next → Testing) →
    start ≡ length d0.tables.code + 1 → d1 ≡ begun d0 → d2 ≡ grown d1 (body d1.next) →
    d3 ≡ grown d2 (test d2.next).before → d4 ≡ until d3 start (test d2.next).check →
    d4 ≡ grown d0 (repeat_code d0.next (body d0.next) test)
repeat_steps d0 d1 d2 d3 d4 start line body test starts begins inside tests ends =
    let b = body d0.next in
    let t = test (behind d0.next b) in
    let two : d2 ≡ grown (begun d0) b = inside ∙ ap (λ d. grown d (body d.next)) begins in
    let three : d3 ≡ grown (grown (begun d0) b) t.before =
    tests ∙ ap (λ d. grown d (test d.next).before) two in
    ends
    ∙ ap₂ (λ d check. until d start check) three (ap (λ d. (test d.next).check) two)
    ∙ ap (λ s. until (grown (grown (begun d0) b) t.before) s t.check) starts
    ∙ repeat_grown d0 b t.before t.check

-- ---- the turns of a `for`

abbrev made : Piece Row Check → ℕ → List ℕ → List Region → List Region → List Region →
    List (List Bool) → List Shifted → Lowered
made code scalars slots arrays copies later temps shifts = record {
  code = code;
  scalars = scalars;
  slots = slots;
  arrays = arrays;
  copies = copies;
  later = later;
  temps = temps;
  shifts = shifts;
}

nothing_more : (n : ℕ) → n + 0 ≡ n
nothing_more n = omega arith

-- rows have nothing of their own
pub joined_alone : (code : Piece Row Check) (first : Lowered) (rows : List Row) →
    joined code first (rows_alone rows) ≡ record first { code = code }
joined_alone code first rows =
    ap (λ n. made code n (first.slots ++ []) (first.arrays ++ []) (first.copies ++ [])
    (first.later ++ []) (first.temps ++ []) (first.shifts ++ [])) (nothing_more first.scalars)
    ∙ ap (λ l. made code first.scalars l (first.arrays ++ []) (first.copies ++ [])
    (first.later ++ []) (first.temps ++ []) (first.shifts ++ [])) (append-nil first.slots)
    ∙ ap (λ l. made code first.scalars first.slots l (first.copies ++ [])
    (first.later ++ []) (first.temps ++ []) (first.shifts ++ [])) (append-nil first.arrays)
    ∙ ap (λ l. made code first.scalars first.slots first.arrays l
    (first.later ++ []) (first.temps ++ []) (first.shifts ++ [])) (append-nil first.copies)
    ∙ ap (λ l. made code first.scalars first.slots first.arrays first.copies l
    (first.temps ++ []) (first.shifts ++ [])) (append-nil first.later)
    ∙ ap (λ l. made code first.scalars first.slots first.arrays first.copies first.later l
    (first.shifts ++ [])) (append-nil first.temps)
    ∙ ap (λ l. made code first.scalars first.slots first.arrays first.copies first.later
    first.temps l) (append-nil first.shifts)

pub turns_steps : (d0 d1 d2 d3 d4 d5 : Drafted) (start line : ℕ) (down : Bool) (counter : Counter)
    (target : Option ℕ) (body : Next → Lowered) →
    start ≡ length d0.tables.code + 1 → d1 ≡ begun d0 →
    d2 ≡ grown d1 (rows_alone (set_row line (Variable counter.at) target)) →
    d3 ≡ grown d2 (body d2.next) → d4 ≡ pushed d3 (step_row down counter line) →
    d5 ≡ until d4 start (check_of (is_done down counter) line) →
    d5 ≡ grown d0 (turns_code down counter line target d0.next body)
turns_steps d0 d1 d2 d3 d4 d5 start line down counter target body starts begins sets inside steps ends =
    let first = rows_alone (set_row line (Variable counter.at) target) in
    let all = followed d0.next first body in
    let step = step_row down counter line ∷ [] in
    let check = check_of (is_done down counter) line in
    let whole = both all (rows_alone step) in
    let three : d3 ≡ grown (begun d0) all =
    followed_grown (begun d0) (grown (begun d0) first) d3 first body refl
    (inside ∙ ap (λ d. grown d (body d.next)) (sets ∙ ap (λ d. grown d first) begins)) in
    let four : d4 ≡ grown (begun d0) whole =
    steps ∙ ap (λ d. all_pushed d step) three ∙ rows_grown (grown (begun d0) all) step
    ∙ both_grown (begun d0) all (rows_alone step) in
    ends
    ∙ ap₂ (λ d s. until d s check) (four ∙ nothing_grown (grown (begun d0) whole)) starts
    ∙ repeat_grown d0 whole (rows_alone []) check
    ∙ ap (grown d0)
    (joined_alone (piece.Repeat whole.code (piece.Rows []) check) whole []
    ∙ ap (λ (one : Lowered). record one { code = piece.Repeat whole.code (piece.Rows []) check })
    (joined_alone whole.code all step))

-- a `for` behind its values
pub counted_steps : (d0 d1 d2 d3 : Drafted) (at line : ℕ) (down : Bool) (counter : Counter)
    (target : Option ℕ) (body : Next → Lowered) →
    at ≡ length d0.tables.code → d1 ≡ opened d0 (check_of (enters down counter) line) →
    d2 ≡ grown d1 (turns_code down counter line target d1.next body) → d3 ≡ closed d2 at →
    d3 ≡ grown d0 (counted down counter line target d0.next body)
counted_steps d0 d1 d2 d3 at line down counter target body here opens turns closes =
    let check = check_of (enters down counter) line in
    let all = turns_code down counter line target d0.next body in
    closes
    ∙ ap₂ closed (turns ∙ ap (λ d. grown d (turns_code down counter line target d.next body)) opens)
    here
    ∙ when_grown d0 check all

-- ---- statements, one after another

module _ (context : Lowering) (stmts : List CodeStmt) (i : ℕ) where
  abbrev ahead : Drafted → List CodeStmt → Drafted
  ahead draft stmts = grown draft (lowered_all context draft.next (stmts_of stmts))

  pub stmts_next : (d : CodeStmt) (d0 d1 whole : Drafted) → i < length stmts →
      d1 ≡ grown d0 (lowered context d0.next (stmt_of (get_or stmts i d))) →
      ahead d0 (drop i stmts) ≡ whole → ahead d1 (drop (i + 1) stmts) ≡ whole
  stmts_next d d0 d1 whole less one had =
      let rest : Next → Lowered =
      λ after. lowered_all context after (stmts_of (drop (i + 1) stmts)) in
      followed_grown d0 d1 (ahead d1 (drop (i + 1) stmts))
      (lowered context d0.next (stmt_of (get_or stmts i d))) rest one refl
      ∙ sym (ap (ahead d0) (drop_more stmts i d less)) ∙ had

  pub stmts_end : (draft whole : Drafted) → length stmts ≤ i →
      ahead draft (drop i stmts) ≡ whole → draft ≡ whole
  stmts_end draft whole past had =
      nothing_grown draft ∙ sym (ap (ahead draft) (drop_all i stmts past)) ∙ had

-- ---- loops, by the words of their tests

pub repeat_at : (d0 d1 d2 d3 d4 : Drafted) (start line : ℕ) (words : List ExprOp) (w : Where)
    (at : ℕ) (body : Next → Lowered) (test : Expr) → line ≡ line_of w at →
    start ≡ length d0.tables.code + 1 → d1 ≡ begun d0 → d2 ≡ grown d1 (body d1.next) →
    d3 ≡ grown d2 (test_at w line d2.next test).before →
    words ≡ (test_at w line d2.next test).check.expr →
    d4 ≡ until d3 start (record { expr = words; line = line }) →
    d4 ≡ grown d0 (repeat_code d0.next (body d0.next) (λ after. test_of w after test at))
repeat_at d0 d1 d2 d3 d4 start line words w at body test is starts begins inside tests same ends =
    repeat_steps d0 d1 d2 d3 d4 start line body (λ after. test_at w line after test) starts begins
    inside tests (ends ∙ ap (λ e. until d3 start (record { expr = e; line = line })) same)
    ∙ ap (λ l. grown d0 (repeat_code d0.next (body d0.next) (λ after. test_at w l after test))) is

pub turns_at : (d0 d1 d2 d3 d4 d5 : Drafted) (start line : ℕ) (down : Bool) (counter : Counter)
    (target : Option ℕ) (words : List ExprOp) (body : Next → Lowered) →
    start ≡ length d0.tables.code + 1 → d1 ≡ begun d0 →
    d2 ≡ grown d1 (rows_alone (set_row line (Variable counter.at) target)) →
    d3 ≡ grown d2 (body d2.next) → d4 ≡ pushed d3 (step_row down counter line) →
    words ≡ words_of (is_done down counter) →
    d5 ≡ until d4 start (record { expr = words; line = line }) →
    d5 ≡ grown d0 (turns_code down counter line target d0.next body)
turns_at d0 d1 d2 d3 d4 d5 start line down counter target words body starts begins sets inside steps same ends =
    turns_steps d0 d1 d2 d3 d4 d5 start line down counter target body starts begins sets inside
    steps (ends ∙ ap (λ e. until d4 start (record { expr = e; line = line })) same)

pub for_steps : (d0 d1 d2 d3 d4 : Drafted) (at line : ℕ) (w : Where) (head : ForHead)
    (counter : Counter) (words : List ExprOp) (body : Next → Lowered) →
    d1 ≡ grown d0 (begun_at w line d0.next head) →
    counter ≡ counter_from (d0.next.scalars
    + (phased w line d0.next (head_exprs w head)).lowered.scalars) →
    words ≡ words_of (enters head.down counter) → at ≡ length d1.tables.code →
    d2 ≡ opened d1 (record { expr = words; line = line }) →
    d3 ≡ grown d2 (turns_code head.down counter line (target_in w head.name) d2.next body) →
    d4 ≡ closed d3 at → d4 ≡ grown d0 (lowered_for w line d0.next head body)
for_steps d0 d1 d2 d3 d4 at line w head counter words body begins is same here opens turns closes =
    let target = target_in w head.name in
    followed_grown d0 d1 d4 (begun_at w line d0.next head)
    (λ after. counted head.down counter line target after body) begins
    (counted_steps d1 d2 d3 d4 at line head.down counter target body here
    (opens ∙ ap (λ e. opened d1 (record { expr = e; line = line })) same) turns closes)
    ∙ ap (λ c. grown d0 (followed d0.next (begun_at w line d0.next head)
    (λ after. counted head.down c line target after body))) is

-- ---- choices, at the lines of their tests

module _ (d0 d1 : Drafted) (w : Where) (at line pending : ℕ) (test : Expr) (is : line ≡ line_of w at)
    (here : pending ≡ length (grown d0 (test_at w line d0.next test).before).tables.code)
    (opens : d1 ≡ opened (grown d0 (test_at w line d0.next test).before)
    (test_at w line d0.next test).check) where
  pub last_steps : (d2 d3 : Drafted) (one : Next → Lowered) → d2 ≡ grown d1 (one d1.next) →
      d3 ≡ closed d2 pending → d3 ≡ grown d0 (when d0.next (test_of w d0.next test at) one)
  last_steps d2 d3 one inside closes =
      when_steps d0 d1 (test_at w line d0.next test) pending opens here d2 d3 one inside closes
      ∙ ap (λ l. grown d0 (when d0.next (test_at w l d0.next test) one)) is

  pub both_steps : (d2 d3 d4 d5 : Drafted) (jump : ℕ) (one other : Next → Lowered) →
      d2 ≡ grown d1 (one d1.next) → jump ≡ length d2.tables.code → d3 ≡ turned d2 pending →
      d4 ≡ grown d3 (other d3.next) → d5 ≡ closed d4 jump →
      d5 ≡ grown d0 (chosen d0.next (test_of w d0.next test at) one other)
  both_steps d2 d3 d4 d5 jump one other inside jumps turns last closes =
      chosen_steps d0 d1 (test_at w line d0.next test) pending opens here d2 d3 d4 d5 jump one other
      inside jumps turns last closes
      ∙ ap (λ l. grown d0 (chosen d0.next (test_at w l d0.next test) one other)) is
