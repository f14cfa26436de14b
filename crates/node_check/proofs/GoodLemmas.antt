-- What is known at goals stays right along a walk.
use Rattle.std.proofs.Common.{◌≡◌, ◌<◌, ◌≤◌, ℕ, zero, suc, ◌+◌, refl, sym, ap, ◌∙◌, subst, arith, Bool, true, false}
use Rattle.std.proofs.Common.{List, [], ◌∷◌, length, Contains, Option, Some, None}
use Rattle.std.specs.Prelude.{slice_get, slice_set, slice_index_or}
use Rattle.code_parts.proofs.ListLemmas.{In, contained, in_list}
use Rattle.node_form.specs.declared.instructions.Instr.{Instr}
use Rattle.node_form.specs.declared.instructions.Instr.TheVariants as instr
use Rattle.node_form.specs.declared.tables.Tables.{Tables}
use Rattle.node_check.specs.Fact.{Fact}
use Rattle.node_check.specs.Front.{Point, behind, met, start_point}
use Rattle.node_check.specs.Learn.{learnt, start_facts}
use Rattle.node_check.specs.Path.{AreFacts, Begins, Comes, Follows, nexts}
use Rattle.node_check.specs.Settled.{IsGood, IsGoodAt, IsRight, IsStart, StartsWith}
use Rattle.node_check.specs.Walk.{Walk, begun, entered, falls, front_at, front_entered, goal_of, here, joined}
use Rattle.node_check.specs.Walk.{joined_at, joined_where, left, left_with, next_where, passed, walked}
use Rattle.node_check.proofs.MoreLemmas.{learnt_more}
use Rattle.node_check.proofs.SharedLemmas.{of_both, of_mine}

-- ---- where a row may lead
pub leads_on : (at : ℕ) (row : Instr) → falls row ≡ true → Contains (nexts at row) (suc at)
leads_on at (instr.Jump goal) is = cc
leads_on at (instr.Trap kind line) is = cc
leads_on at instr.End is = cc
leads_on at (instr.Unless expr goal line) is = (0, omega arith, omega arith)
leads_on at row is = (0, omega arith, omega arith)

pub leads_to : (at : ℕ) (row : Instr) (goal : ℕ) → goal_of row ≡ Some goal
    → Contains (nexts at row) goal
leads_to at (instr.Jump other) goal is =
    let same : other ≡ goal = cc in
    (0, omega arith, same)
leads_to at (instr.Unless expr other line) goal is =
    let same : other ≡ goal = cc in
    (1, omega arith, same)
leads_to at row goal is = cc

-- ---- lists of fronts
pub set_keeps : (P : ℕ → Option Point → Type 0) (fronts : List (Option Point)) (k : ℕ)
    (o : Option Point) → ((at : ℕ) → P at (front_at fronts at)) → P k o → (at : ℕ)
    → P at (front_at (slice_set fronts k o) at)
set_keeps P [] k o all one at = all at
set_keeps P (front ∷ fronts) zero o all one zero = one
set_keeps P (front ∷ fronts) zero o all one (suc at) = all (suc at)
set_keeps P (front ∷ fronts) (suc k) o all one zero = all zero
set_keeps P (front ∷ fronts) (suc k) o all one (suc at) =
    set_keeps (λ n. P (suc n)) fronts k o (λ n. all (suc n)) one at

pub set_long : (fronts : List (Option Point)) (k : ℕ) (o : Option Point)
    → length (slice_set fronts k o) ≡ length fronts
set_long [] k o = refl
set_long (front ∷ fronts) zero o = refl
set_long (front ∷ fronts) (suc k) o = ap suc (set_long fronts k o)

pub set_same : (fronts : List (Option Point)) (k : ℕ)
    → slice_set fronts k (front_at fronts k) ≡ fronts
set_same [] k = refl
set_same (front ∷ fronts) zero = refl
set_same (front ∷ fronts) (suc k) = ap (λ fronts. front ∷ fronts) (set_same fronts k)

module _ (code : Tables) where
  -- ---- one point
  pub good_behind : (at next : ℕ) (point : Point) (row : Instr) → IsGood code at point
      → slice_get code.code at ≡ Some row → Contains (nexts at row) next
      → IsGood code next (behind code point row)
  good_behind at next point row good there leads = record {
    comes = Follows good.comes there leads;
    bounds = λ facts right fact h.
        learnt_more code (facts at) point.facts (good.bounds facts right) row fact
        (in_list (learnt code (facts at) row) fact
        (right.behind at next point.opened row fact good.comes there leads
        (contained (facts next) fact h)));
  }

  pub good_met : (at : ℕ) (one other : Point) → IsGood code at one → IsGood code at other
      → IsGood code at (met one other)
  good_met at one other mine theirs = record {
    comes = mine.comes;
    bounds = λ facts right fact h.
        of_both one.facts other.facts fact (mine.bounds facts right fact h)
        (theirs.bounds facts right fact h);
  }

  pub good_start : IsGood code 0 (start_point code)
  good_start = record {
    comes = Begins;
    bounds = λ facts right fact h.
        in_list (start_facts code) fact (right.start fact (contained (facts 0) fact h));
  }

  -- ---- what stands at a number
  good_joined : (at : ℕ) (o : Option Point) (point : Point) → IsGoodAt code at o
      → IsGood code at point → IsGoodAt code at (joined o point)
  good_joined at None point here there = there
  good_joined at (Some front) point here there = good_met at front point here there

  good_entered : (at : ℕ) (o current : Option Point) → IsGoodAt code at o
      → IsGoodAt code at current → IsGoodAt code at (front_entered o current)
  good_entered at None current here there = tt
  good_entered at (Some front) None here there = here
  good_entered at (Some front) (Some point) here there = good_met at front point here there

  pub good_here : (at : ℕ) (o current : Option Point) → IsGoodAt code at o
      → IsGoodAt code at current → IsGoodAt code at (here o current)
  good_here at None current one other = other
  good_here at (Some front) current one other = one

  start_met : (one other : Point) → IsStart code one → IsStart code (met one other)
  start_met one other start = record {
    opened = start.opened;
    facts = λ fact h. start.facts fact (of_mine one.facts other.facts fact h);
  }

  start_joined : (o : Option Point) (point : Point) → StartsWith code o
      → StartsWith code (joined o point)
  start_joined None point start = absurd start
  start_joined (Some front) point start = start_met front point start

  start_entered : (o current : Option Point) → StartsWith code o
      → StartsWith code (front_entered o current)
  start_entered None current start = absurd start
  start_entered (Some front) None start = start
  start_entered (Some front) (Some point) start = start_met front point start

  -- ---- a walk
  pub record IsGoodWalk (at : ℕ) (walk : Walk) : Type 0 where
    pub right : IsRight code walk.fronts
    pub current : IsGoodAt code at walk.current

  abbrev AtStart : ℕ → Option Point → Type 0
  AtStart at o = at ≡ 0 → StartsWith code o

  starts_at : (fronts : List (Option Point)) → StartsWith code (front_at fronts 0) → (at : ℕ)
      → AtStart at (front_at fronts at)
  starts_at fronts start at is = subst (λ n. StartsWith code (front_at fronts n)) (sym is) start

  right_set : (fronts : List (Option Point)) (k : ℕ) (o : Option Point) → IsRight code fronts
      → IsGoodAt code k o
      → (StartsWith code (front_at fronts k) → StartsWith code o)
      → IsRight code (slice_set fronts k o)
  right_set fronts k o right good start = record {
    good = set_keeps (IsGoodAt code) fronts k o right.good good;
    many = set_long fronts k o ∙ right.many;
    start =
        set_keeps AtStart fronts k o (starts_at fronts right.start)
        (λ is. start (starts_at fronts right.start k is)) 0 refl;
  }

  enters : (at : ℕ) (walk : Walk) → IsGoodWalk at walk → IsGoodWalk at (entered at walk)
  enters at walk good = record {
    right =
        right_set walk.fronts at (front_entered (front_at walk.fronts at) walk.current) good.right
        (good_entered at (front_at walk.fronts at) walk.current (good.right.good at) good.current)
        (start_entered (front_at walk.fronts at) walk.current);
    current =
        good_here at (front_entered (front_at walk.fronts at) walk.current) walk.current
        (good_entered at (front_at walk.fronts at) walk.current (good.right.good at) good.current)
        good.current;
  }

  joins : (goal : ℕ) (point : Point) (walk : Walk) → IsRight code walk.fronts
      → IsGood code goal point → IsRight code (joined_at goal point walk).fronts
  joins goal point walk right good =
      right_set walk.fronts goal (joined (front_at walk.fronts goal) point) right
      (good_joined goal (front_at walk.fronts goal) point (right.good goal) good)
      (start_joined (front_at walk.fronts goal) point)

  joins_where : (o : Option ℕ) (point : Point) (walk : Walk) → IsRight code walk.fronts
      → ((goal : ℕ) → o ≡ Some goal → IsGood code goal point)
      → IsRight code (joined_where o point walk).fronts
  joins_where None point walk right good = right
  joins_where (Some goal) point walk right good = joins goal point walk right (good goal refl)

  next_good : (at : ℕ) (b : Bool) (point : Point) → (b ≡ true → IsGood code at point)
      → IsGoodAt code at (next_where b point)
  next_good at true point good = good refl
  next_good at false point good = tt

  leaves_with : (at : ℕ) (row : Instr) (o : Option Point) (walk : Walk)
      → slice_get code.code at ≡ Some row → walk.current ≡ o → IsGoodWalk at walk
      → IsGoodWalk (suc at) (left_with code row o walk)
  leaves_with at row None walk there is good = record {
    right = good.right;
    current = subst (λ o. IsGoodAt code (suc at) o) (sym is) tt;
  }
  leaves_with at row (Some front) walk there is good = record {
    right =
        joins_where (goal_of row) (behind code front row) walk good.right
        (λ goal leads. good_behind at goal front row here there (leads_to at row goal leads));
    current =
        next_good (suc at) (falls row) (behind code front row)
        (λ on. good_behind at (suc at) front row here there (leads_on at row on));
  }
    where
      here : IsGood code at front
      here = subst (λ o. IsGoodAt code at o) is good.current

  leaves : (at : ℕ) (row : Instr) (walk : Walk) → slice_get code.code at ≡ Some row
      → IsGoodWalk at walk → IsGoodWalk (suc at) (left code row walk)
  leaves at row walk there good = leaves_with at row walk.current walk there refl good

  abbrev pub StandAt : ℕ → List Instr → Type 0
  StandAt at rows =
      (k : ℕ) (row : Instr) → slice_get rows k ≡ Some row → slice_get code.code (at + k) ≡ Some row

  pub stand_on : (at : ℕ) (row : Instr) (rows : List Instr) → StandAt at (row ∷ rows)
      → StandAt (suc at) rows
  stand_on at row rows stand k other there =
      let more : at + suc k ≡ suc at + k = omega arith in
      subst (λ n. slice_get code.code n ≡ Some other) more (stand (suc k) other there)

  pub stand_here : (at : ℕ) (row : Instr) (rows : List Instr) → StandAt at (row ∷ rows)
      → slice_get code.code at ≡ Some row
  stand_here at row rows stand =
      let none : at + 0 ≡ at = omega arith in
      subst (λ n. slice_get code.code n ≡ Some row) none (stand 0 row refl)

  pub stand_all : StandAt 0 code.code
  stand_all k row there =
      let none : k ≡ 0 + k = omega arith in
      subst (λ n. slice_get code.code n ≡ Some row) none there

  walks : (at : ℕ) (rows : List Instr) (walk : Walk) → StandAt at rows → IsGoodWalk at walk
      → IsRight code (walked code at rows walk).fronts
  walks at [] walk stand good = good.right
  walks at (row ∷ rows) walk stand good =
      walks (suc at) rows (left code row (entered at walk)) (stand_on at row rows stand)
      (leaves at row (entered at walk) (stand_here at row rows stand) (enters at walk good))

  pub walk_right : (fronts : List (Option Point)) → IsRight code fronts
      → IsRight code (walked code 0 code.code (begun fronts)).fronts
  walk_right fronts right =
      walks 0 code.code (begun fronts) stand_all (record { right = right; current = tt })
