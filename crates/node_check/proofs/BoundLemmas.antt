-- How many exchanges can be open where something is known: few enough for a small number.
use Rattle.std.proofs.Common.{◌≡◌, ◌⊎◌, inl, inr, ◌<◌, ◌≤◌, ℕ, zero, suc, ◌+◌, ◌*◌, refl, sym, ap, ◌∙◌, subst, arith, Bool, true, false}
use Rattle.std.proofs.Common.{true≢false, List, [], ◌∷◌, ◌++◌, length, Option, Some, None, ◌==◌, cond}
use Rattle.std.specs.Prelude.{slice_get, slice_set}
use Rattle.node_form.specs.declared.instructions.Instr.{Instr}
use Rattle.node_form.specs.declared.instructions.Instr.TheVariants as instr
use Rattle.node_form.specs.declared.tables.Tables.{Tables}
use Rattle.node_check.specs.Front.{Point, behind, met}
use Rattle.node_check.specs.Path.{open_behind, without}
use Rattle.node_check.specs.Settled.{GoesWithin, IsBounded, IsOpenWithin, room}
use Rattle.node_check.specs.Verdict.{judged, no_verdict}
use Rattle.node_check.specs.Walk.{Walk, begun, entered, falls, front_at, front_entered, goal_of, here, joined, joined_at}
use Rattle.node_check.specs.Walk.{joined_where, left, left_with, next_where, passed, walked}
use Rattle.node_check.proofs.CalmLemmas.{come, come_behind, here_at}
use Rattle.node_check.proofs.GoodLemmas.{set_keeps, set_long}
use Rattle.node_check.proofs.LessLemmas.{AllWithin, step_long}

-- ---- a row opens one exchange at most
without_fewer : (number : ℕ) (opened : List ℕ) → length (without number opened) ≤ length opened
without_fewer number [] = omega arith
without_fewer number (first ∷ opened) = by (first == number) (without_fewer number opened)
  where
    by : (b : Bool) → length (without number opened) ≤ length opened
        → length (cond b opened (first ∷ without number opened)) ≤ length (first ∷ opened)
    by true few = omega (arith, few)
    by false few = omega (arith, few)

one_longer : (opened : List ℕ) (number : ℕ) → length (opened ++ number ∷ []) ≡ length opened + 1
one_longer [] number = omega arith
one_longer (first ∷ opened) number =
    let rest = one_longer opened number in
    omega (arith, rest)

pub opens_one : (opened : List ℕ) (row : Instr)
    → length (open_behind opened row) ≤ length opened + 1
opens_one opened (instr.Start exchange) =
    let more = one_longer opened exchange in
    omega (arith, more)
opens_one opened (instr.Finish exchange) =
    let few = without_fewer exchange opened in
    omega (arith, few)
opens_one opened row = omega arith

-- ---- room that is left
abbrev room_of : ℕ → Option Point → ℕ
room_of n None = n
room_of n (Some point) = 0

set_room : (n : ℕ) (fronts : List (Option Point)) (k : ℕ) (o : Option Point) → k < length fronts
    → room n (slice_set fronts k o) + room_of n (front_at fronts k) ≡ room n fronts + room_of n o
set_room n [] k o below = absurd (omega (arith, below))
set_room n (None ∷ fronts) zero None below = omega arith
set_room n (None ∷ fronts) zero (Some point) below = omega arith
set_room n (Some front ∷ fronts) zero None below = omega arith
set_room n (Some front ∷ fronts) zero (Some point) below = omega arith
set_room n (None ∷ fronts) (suc k) o below =
    let rest = set_room n fronts k o (omega (arith, below)) in
    omega (arith, rest)
set_room n (Some front ∷ fronts) (suc k) o below = set_room n fronts k o (omega (arith, below))

pub room_most : (n : ℕ) (fronts : List (Option Point)) → room n fronts ≤ length fronts * n
room_most n [] = omega arith
room_most n (None ∷ fronts) =
    let rest = room_most n fronts in
    omega (arith, rest)
room_most n (Some front ∷ fronts) =
    let rest = room_most n fronts in
    omega (arith, rest)

-- ---- one place is changed
module _ (n limit : ℕ) where
  record IsWithin (at : ℕ) (walk : Walk) : Type 0 where
    fronts : IsBounded n limit walk.fronts
    current : IsOpenWithin (limit + at) (room n walk.fronts) walk.current

  less_left : (limit more less : ℕ) (o : Option Point) → less ≤ more → IsOpenWithin limit more o
      → IsOpenWithin limit less o
  less_left limit more less None few within = tt
  less_left limit more less (Some point) few within = omega (arith, few, within)

  set_within : (fronts : List (Option Point)) (k : ℕ) (o : Option Point)
      → room n (slice_set fronts k o) ≤ room n fronts
      → IsBounded n limit fronts
      → IsOpenWithin limit (room n (slice_set fronts k o)) o
      → IsBounded n limit (slice_set fronts k o)
  set_within fronts k o less within new =
      set_keeps (λ at. IsOpenWithin limit (room n (slice_set fronts k o))) fronts k o
      (λ at. less_left limit (room n fronts) (room n (slice_set fronts k o)) (front_at fronts at) less
      (within at)) new

  -- ---- in front of a row
  same_room : (o current : Option Point) → room_of n (front_entered o current) ≡ room_of n o
  same_room None current = refl
  same_room (Some front) None = refl
  same_room (Some front) (Some point) = refl

  enter_room : (at : ℕ) (walk : Walk) → at < length walk.fronts
      → room n (entered at walk).fronts ≡ room n walk.fronts
  enter_room at walk below =
      let both = set_room n walk.fronts at
      (front_entered (front_at walk.fronts at) walk.current) below in
      let same = same_room (front_at walk.fronts at) walk.current in
      omega (arith, both, same)

  entered_within : (limit left : ℕ) (o current : Option Point) → IsOpenWithin limit left o
      → IsOpenWithin limit left (front_entered o current)
  entered_within limit left None current one = tt
  entered_within limit left (Some front) None one = one
  entered_within limit left (Some front) (Some point) one = one

  here_within : (at left : ℕ) (o current : Option Point) → IsOpenWithin limit left o
      → IsOpenWithin (limit + at) left current → IsOpenWithin (limit + at) left (here o current)
  here_within at left None current one other = other
  here_within at left (Some front) current one other = omega (arith, one)

  enters : (at : ℕ) (walk : Walk) → at < length walk.fronts → IsWithin at walk
      → IsWithin at (entered at walk)
  enters at walk below within = record {
    fronts =
        set_within walk.fronts at (front_entered (front_at walk.fronts at) walk.current)
        (omega (arith, same)) within.fronts new;
    current =
        here_within at (room n (entered at walk).fronts)
        (front_entered (front_at walk.fronts at) walk.current) walk.current new
        (subst (λ left. IsOpenWithin (limit + at) left walk.current) (sym same) within.current);
  }
    where
      same : room n (entered at walk).fronts ≡ room n walk.fronts
      same = enter_room at walk below

      new : IsOpenWithin limit (room n (entered at walk).fronts)
          (front_entered (front_at walk.fronts at) walk.current)
      new =
          subst (λ left. IsOpenWithin limit left
          (front_entered (front_at walk.fronts at) walk.current)) (sym same)
          (entered_within limit (room n walk.fronts) (front_at walk.fronts at) walk.current
          (within.fronts at))

  -- ---- at a goal
  record Joins (walk next : Walk) : Type 0 where
    fronts : IsBounded n limit next.fronts
    less : room n next.fronts ≤ room n walk.fronts

  joined_within : (goal at : ℕ) (o : Option Point) (point : Point) (walk : Walk)
      → front_at walk.fronts goal ≡ o → goal < length walk.fronts → at < n
      → IsBounded n limit walk.fronts
      → length point.opened + room n walk.fronts ≤ limit + suc at
      → Joins walk (record walk { fronts = slice_set walk.fronts goal (joined o point) })
  joined_within goal at None point walk is below small within few =
      let both = set_room n walk.fronts goal (Some point) below in
      let old = ap (room_of n) is in
      record {
        fronts =
            set_within walk.fronts goal (Some point) (omega (arith, both, old)) within
            (omega (arith, both, old, few, small));
        less = omega (arith, both, old);
      }
  joined_within goal at (Some front) point walk is below small within few =
      let both = set_room n walk.fronts goal (Some (met front point)) below in
      let old = ap (room_of n) is in
      let same : room n (slice_set walk.fronts goal (Some (met front point))) ≡ room n walk.fronts =
      omega (arith, both, old) in
      let mine : IsOpenWithin limit (room n walk.fronts) (Some front) =
      subst (λ o. IsOpenWithin limit (room n walk.fronts) o) is (within goal) in
      record {
        fronts =
            set_within walk.fronts goal (Some (met front point)) (omega (arith, same)) within
            (omega (arith, same, mine));
        less = omega (arith, same);
      }

  joins_where : (o : Option ℕ) (at : ℕ) (point : Point) (walk : Walk) → at < n
      → ((goal : ℕ) → o ≡ Some goal → goal < length walk.fronts)
      → IsBounded n limit walk.fronts
      → length point.opened + room n walk.fronts ≤ limit + suc at
      → Joins walk (joined_where o point walk)
  joins_where None at point walk small goes within few = record {
    fronts = within;
    less = omega arith;
  }
  joins_where (Some goal) at point walk small goes within few =
      let one = joined_within goal at (front_at walk.fronts goal) point walk refl (goes goal refl)
      small within few in
      record { fronts = one.fronts; less = one.less }

  next_within : (limit left : ℕ) (b : Bool) (point : Point) → length point.opened + left ≤ limit
      → IsOpenWithin limit left (next_where b point)
  next_within limit left true point few = few
  next_within limit left false point few = tt

  module _ (code : Tables) where
    leaves : (at : ℕ) (row : Instr) (o : Option Point) (walk : Walk) → walk.current ≡ o → at < n
        → GoesWithin (length walk.fronts) row → IsWithin at walk
        → IsWithin (suc at) (left_with code row o walk)
    leaves at row None walk is small goes within = record {
      fronts = within.fronts;
      current = subst (λ o. IsOpenWithin (limit + suc at) (room n walk.fronts) o) (sym is) tt;
    }
    leaves at row (Some front) walk is small goes within = record {
      fronts = joins.fronts;
      current =
          next_within (limit + suc at) (room n (joined_where (goal_of row) (behind code front row) walk).fronts)
          (falls row) (behind code front row) (omega (arith, few, joins.less));
    }
      where
        mine : IsOpenWithin (limit + at) (room n walk.fronts) (Some front)
        mine = subst (λ o. IsOpenWithin (limit + at) (room n walk.fronts) o) is within.current

        few : length (behind code front row).opened + room n walk.fronts ≤ limit + suc at
        few = omega (arith, mine, opens_one front.opened row)

        joins : Joins walk (joined_where (goal_of row) (behind code front row) walk)
        joins =
            joins_where (goal_of row) at (behind code front row) walk small goes within.fronts few

    walks : (at : ℕ) (rows : List Instr) (walk : Walk) → at + length rows ≤ n
        → n < length walk.fronts → AllWithin code (length walk.fronts) rows → IsWithin at walk
        → IsBounded n limit (walked code at rows walk).fronts
    walks at [] walk below many goes within = within.fronts
    walks at (row ∷ rows) walk below many goes within =
        walks (suc at) rows (left code row (entered at walk)) (omega (arith, below))
        (omega (arith, long, many))
        (λ k other there. subst (λ m. GoesWithin m other) (sym long) (goes (suc k) other there))
        (leaves at row (entered at walk).current (entered at walk) refl (omega (arith, below))
        (subst (λ m. GoesWithin m row) (sym same) (goes 0 row refl))
        (enters at walk (omega (arith, below, many)) within))
      where
        long : length (left code row (entered at walk)).fronts ≡ length walk.fronts
        long = step_long code at row walk

        same : length (entered at walk).fronts ≡ length walk.fronts
        same = set_long walk.fronts at (front_entered (front_at walk.fronts at) walk.current)

    pub walk_bounded : (fronts : List (Option Point)) → length code.code ≤ n → n < length fronts
        → AllWithin code (length fronts) code.code → IsBounded n limit fronts
        → IsBounded n limit (walked code 0 code.code (begun fronts)).fronts
    walk_bounded fronts small many goes within =
        walks 0 code.code (begun fronts) (omega (arith, small)) many goes
        (record { fronts = within; current = tt })

    -- ---- along the last walk
    come_within : (fronts : List (Option Point)) → IsBounded n limit fronts → (at : ℕ)
        → IsOpenWithin (limit + at) 0 (come code fronts at)
    come_within fronts within zero = tt
    come_within fronts within (suc at) =
        by (slice_get code.code at) (here_at code fronts at)
        (here_within at 0 (front_at fronts at) (come code fronts at)
        (less_left limit (room n fronts) 0 (front_at fronts at) (omega arith) (within at))
        (come_within fronts within at))
      where
        by : (o : Option Instr) (p : Option Point) → IsOpenWithin (limit + at) 0 p
            → IsOpenWithin (limit + suc at) 0 (come_behind code o p)
        by None p few = tt
        by (Some row) None few = tt
        by (Some row) (Some point) few =
            next_within (limit + suc at) 0 (falls row) (behind code point row)
            (omega (arith, few, opens_one point.opened row))

    pub here_few : (fronts : List (Option Point)) → IsBounded n limit fronts → (at : ℕ)
        (point : Point) → here_at code fronts at ≡ Some point → length point.opened ≤ limit + at
    here_few fronts within at point is =
        let few : IsOpenWithin (limit + at) 0 (Some point) =
        subst (λ o. IsOpenWithin (limit + at) 0 o) is
        (here_within at 0 (front_at fronts at) (come code fronts at)
        (less_left limit (room n fronts) 0 (front_at fronts at) (omega arith) (within at))
        (come_within fronts within at)) in
        omega (arith, few)
