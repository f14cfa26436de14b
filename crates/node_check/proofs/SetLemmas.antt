-- What is known where nothing changes any more are the greatest sets of facts.
use Rattle.std.proofs.Common.{◌≡◌, ◌⊎◌, inl, inr, ◌<◌, ◌≤◌, ℕ, zero, suc, ◌+◌, refl, sym, ap, ◌∙◌, subst, arith, Bool, true, false}
use Rattle.std.proofs.Common.{true≢false, List, [], ◌∷◌, length, Contains, Option, Some, None}
use Rattle.std.specs.Prelude.{slice_get}
use Rattle.code_parts.proofs.ListLemmas.{In, contained, in_list}
use Rattle.node_form.specs.declared.instructions.Instr.{Instr}
use Rattle.node_form.specs.declared.instructions.Instr.TheVariants as instr
use Rattle.node_form.specs.declared.tables.Tables.{Tables}
use Rattle.node_check.specs.Fact.{Fact}
use Rattle.node_check.specs.Front.{Point, behind}
use Rattle.node_check.specs.Learn.{learnt, start_facts}
use Rattle.node_check.specs.Path.{AreFacts, Begins, Comes, Follows, nexts, open_behind}
use Rattle.node_check.specs.Settled.{IsGood, IsGoodAt, IsRight, IsStart, StartsWith}
use Rattle.node_check.specs.Walk.{falls, front_at, goal_of, here, next_where}
use Rattle.node_check.proofs.CalmLemmas.{IsCalm, come, come_behind, here_at}
use Rattle.node_check.proofs.GoodLemmas.{good_behind, good_here, leads_on}

abbrev AreAmong : List Fact → List Fact → Type 0
AreAmong few many = (fact : Fact) → In few fact → In many fact

-- ---- a row leads on, or to its goal
one_number : (number next : ℕ) → In (number ∷ []) next → number ≡ next
one_number number next (inl is) = is
one_number number next (inr h) = absurd h

plus_one : (at next : ℕ) → at + 1 ≡ next → next ≡ suc at
plus_one at next is = omega (arith, is)

pub leads : (at next : ℕ) (row : Instr) → In (nexts at row) next
    → ((falls row ≡ true) × (next ≡ suc at)) ⊎ (goal_of row ≡ Some next)
leads at next (instr.Jump goal) h = inr (ap Some (one_number goal next h))
leads at next (instr.Trap kind line) h = absurd h
leads at next instr.End h = absurd h
leads at next (instr.Unless expr goal line) (inl is) = inl (refl, plus_one at next is)
leads at next (instr.Unless expr goal line) (inr h) = inr (ap Some (one_number goal next h))
leads at next row h = inl (refl, plus_one at next (one_number (at + 1) next h))

-- ---- what is known somewhere
pub record IsKnown (o : Option Point) : Type 0 where
  pub point : Point
  pub is : o ≡ Some point

here_front : (o current : Option Point) (front : Point) → o ≡ Some front → here o current ≡ Some front
here_front o current front is = ap (λ o. here o current) is

pub starts : (code : Tables) (o : Option Point) → StartsWith code o → IsKnown o
starts code None start = absurd start
starts code (Some point) start = record { point = point; is = refl }

pub start_is : (code : Tables) (o : Option Point) (point : Point) → StartsWith code o → o ≡ Some point
    → IsStart code point
start_is code None point start is = absurd start
start_is code (Some front) point start is =
    let same : front ≡ point = cc in
    subst (λ point. IsStart code point) same start

-- ---- sets of facts: at each row what is known there
abbrev pub facts_where : Option Instr → Option Point → List Fact
facts_where None known = []
facts_where (Some row) None = []
facts_where (Some row) (Some point) = point.facts

abbrev pub sets : Tables → List (Option Point) → ℕ → List Fact
sets code fronts at = facts_where (slice_get code.code at) (here_at code fronts at)

pub sets_are : (code : Tables) (fronts : List (Option Point)) (at : ℕ) (row : Instr) (point : Point)
    → slice_get code.code at ≡ Some row → here_at code fronts at ≡ Some point
    → sets code fronts at ≡ point.facts
sets_are code fronts at row point there is =
    ap (λ o. facts_where o (here_at code fronts at)) there ∙ ap (facts_where (Some row)) is

module _ (code : Tables) (fronts : List (Option Point)) (right : IsRight code fronts)
    (calm : IsCalm code fronts) where
  pub come_good : (at : ℕ) → IsGoodAt code at (come code fronts at)
  come_good zero = tt
  come_good (suc at) =
      by (slice_get code.code at) refl (here_at code fronts at)
      (good_here code at (front_at fronts at) (come code fronts at) (right.good at) (come_good at))
    where
      where_falls : (b : Bool) (row : Instr) (point : Point) → falls row ≡ b
          → slice_get code.code at ≡ Some row → IsGood code at point
          → IsGoodAt code (suc at) (next_where b (behind code point row))
      where_falls true row point is there good =
          good_behind code at (suc at) point row good there (leads_on at row is)
      where_falls false row point is there good = tt

      by : (o : Option Instr) → slice_get code.code at ≡ o → (p : Option Point)
          → IsGoodAt code at p → IsGoodAt code (suc at) (come_behind code o p)
      by None there p good = tt
      by (Some row) there None good = tt
      by (Some row) there (Some point) good = where_falls (falls row) row point refl there good

  pub known_good : (at : ℕ) (point : Point) → here_at code fronts at ≡ Some point
      → IsGood code at point
  known_good at point is =
      subst (λ o. IsGoodAt code at o) is
      (good_here code at (front_at fronts at) (come code fronts at) (right.good at) (come_good at))

  pub come_next : (at : ℕ) (row : Instr) (point : Point) → slice_get code.code at ≡ Some row
      → here_at code fronts at ≡ Some point → falls row ≡ true
      → come code fronts (suc at) ≡ Some (behind code point row)
  come_next at row point there is on =
      ap (λ o. come_behind code o (here_at code fronts at)) there
      ∙ ap (λ p. come_behind code (Some row) p) is
      ∙ ap (λ b. next_where b (behind code point row)) on

  -- ---- what is known behind a row, and in front of the next one
  pub record Arrives (next : ℕ) (point : Point) : Type 0 where
    pub there : Point
    pub is : here_at code fronts next ≡ Some there
    pub fewer : (row : Instr) → slice_get code.code next ≡ Some row → AreAmong there.facts point.facts

  arrives_on : (next : ℕ) (point : Point) → come code fronts next ≡ Some point → Arrives next point
  arrives_on next point comes = by (front_at fronts next) refl
    where
      by : (o : Option Point) → front_at fronts next ≡ o → Arrives next point
      by None none = record {
        there = point;
        is = ap (λ o. here o (come code fronts next)) none ∙ comes;
        fewer = λ row there fact h. h;
      }
      by (Some front) known = record {
        there = front;
        is = here_front (front_at fronts next) (come code fronts next) front known;
        fewer = λ row there. (calm next row there).enters front point known comes;
      }

  arrives_at : (at next : ℕ) (row : Instr) (point : Point) → slice_get code.code at ≡ Some row
      → here_at code fronts at ≡ Some point → goal_of row ≡ Some next
      → Arrives next (behind code point row)
  arrives_at at next row point there is goal =
      let known = (calm at row there).leaps point next is goal in
      record {
        there = known.0;
        is = here_front (front_at fronts next) (come code fronts next) known.0 known.1;
        fewer = λ other stands. known.2;
      }

  pub arrives : (at next : ℕ) (row : Instr) (point : Point) → slice_get code.code at ≡ Some row
      → here_at code fronts at ≡ Some point → Contains (nexts at row) next
      → Arrives next (behind code point row)
  arrives at next row point there is to = by (leads at next row (in_list (nexts at row) next to))
    where
      by : ((falls row ≡ true) × (next ≡ suc at)) ⊎ (goal_of row ≡ Some next)
          → Arrives next (behind code point row)
      by (inl on) =
          subst (λ n. Arrives n (behind code point row)) (sym on.1)
          (arrives_on (suc at) (behind code point row) (come_next at row point there is on.0))
      by (inr goal) = arrives_at at next row point there is goal

  pub reached : (at : ℕ) (opened : List ℕ) → Comes code at opened → IsKnown (here_at code fronts at)
  reached at opened Begins =
      let first = starts code (front_at fronts 0) right.start in
      record { point = first.point; is = here_front (front_at fronts 0) None first.point first.is }
  reached at opened (Follows {at = before} {next = next} {opened = one} {row = row} comes there to) =
      let known = reached before one comes in
      let next = arrives before next row known.point there known.is to in
      record { point = next.there; is = next.is }

  sets_start : (fact : Fact) → Contains (sets code fronts 0) fact → Contains (start_facts code) fact
  sets_start fact h =
      contained (start_facts code) fact (by (slice_get code.code 0) (in_list (sets code fronts 0) fact h))
    where
      first : IsKnown (front_at fronts 0)
      first = starts code (front_at fronts 0) right.start

      known : here_at code fronts 0 ≡ Some first.point
      known = here_front (front_at fronts 0) None first.point first.is

      by : (o : Option Instr) → In (facts_where o (here_at code fronts 0)) fact
          → In (start_facts code) fact
      by None h = absurd h
      by (Some row) h =
          (start_is code (front_at fronts 0) first.point right.start first.is).facts fact
          (subst (λ p. In (facts_where (Some row) p) fact) known h)

  sets_behind : (at next : ℕ) (opened : List ℕ) (row : Instr) (fact : Fact) → Comes code at opened
      → slice_get code.code at ≡ Some row → Contains (nexts at row) next
      → Contains (sets code fronts next) fact
      → Contains (learnt code (sets code fronts at) row) fact
  sets_behind at next opened row fact comes there to h =
      subst (λ facts. Contains (learnt code facts row) fact)
      (sym (sets_are code fronts at row known.point there known.is))
      (contained (learnt code known.point.facts row) fact
      (by (slice_get code.code next) refl (in_list (sets code fronts next) fact h)))
    where
      known : IsKnown (here_at code fronts at)
      known = reached at opened comes

      goes : Arrives next (behind code known.point row)
      goes = arrives at next row known.point there known.is to

      by : (o : Option Instr) → slice_get code.code next ≡ o
          → In (facts_where o (here_at code fronts next)) fact
          → In (learnt code known.point.facts row) fact
      by None none h = absurd h
      by (Some other) stands h =
          goes.fewer other stands fact
          (subst (λ p. In (facts_where (Some other) p) fact) goes.is h)

  pub sets_right : AreFacts code (sets code fronts)
  sets_right = record { start = sets_start; behind = sets_behind }
