-- A plan does over links that hold so many messages what it does over links of any number, where no
-- more exchanges are open at once; and orders hold no more messages.
use Rattle.std.proofs.Common.{◌≡◌, ◌≢◌, ℕ, zero, suc, ◌+◌, ◌<◌, ◌≤◌, Bool, true, false, ◌&&◌}
use Rattle.std.proofs.Common.{List, [], ◌∷◌, drop, length, Option, Some, None, refl, sym, ◌∙◌}
use Rattle.std.proofs.Common.{ap, subst, arith, length-append}
use Rattle.std.specs.Prelude.{max, nat_lt, slice_get}
use Rattle.std.proofs.Math.Nat.{le-max_left, le-max_right, max-le}
use Rattle.std.proofs.lemmas.Bool.Decides.{nat_tests}
use Rattle.zpl_nums.specs.declared.ends.End.TheVariants.{Done}
use Rattle.code_parts.specs.Early.{is_roomy}
use Rattle.node_form.specs.declared.arrays.Item.{Item}
use Rattle.node_form.specs.declared.instructions.Instr.{Instr}
use Rattle.node_form.specs.declared.instructions.Instr.TheVariants as instr
use Rattle.node_form.specs.declared.tables.Tables.{Tables}
use Rattle.grid_links.specs.Laws.{HoldsAtMost}
use Rattle.grid_meaning.specs.Exchange as exchange
use Rattle.grid_meaning.specs.Grid.{system_over}
use Rattle.row_runs.specs.Run.{Does, Effect, Ends, Goes, Leaps, Passes, Result, Stop, Stops, Wrong, printed, runs, stopped, walked, went}
use Rattle.row_runs.specs.Growth.{effect_stops, rows_stop, stops_itself}
use Rattle.plan_meaning.specs.Abreast.{Abreast, go_where, start_abreast}
use Rattle.plan_meaning.specs.Act.{Followed, found, plan_act, plan_rows, plan_run, row_does}
use Rattle.plan_meaning.specs.Messages.{started}
use Rattle.plan_orders.specs.InStep.{HoldsFew, IsInStep, least_moves, run_most, some_turns, stops_within}
use Rattle.plan_orders.specs.Open.{HoldsOpen, effect_most, most_open, open_in, rows_most, runs_most}
use Rattle.plan_orders.proofs.MoreLemmas.{IsNear, IsTheSame, StopsBefore, row_near}

-- the same, unless the first goes on to more than so many
data IsAs {S : Type 0} (count : S → ℕ) (most : ℕ) : Effect S → Effect S → Type 0 where
  SameEffect : {effect : Effect S} → IsAs count most effect effect
  WasOver : {bytes : List ℕ} {next : S} {effect : Effect S} → most < count next
      → IsAs count most (Does (Goes bytes next)) effect

-- ---- runs with no more than so many
module _ {S Row : Type 0} (act act' : Row → S → Effect S) (count : S → ℕ) (most : ℕ)
    (alike : (row : Row) (s : S) → IsAs count most (act row s) (act' row s)) (rows : List Row) where
  abbrev AreSame : ℕ → Type 0
  AreSame left =
      (at : ℕ) (s : S) → runs_most act count rows left at s ≤ most
      → (runs act' rows left at s ≡ runs act rows left at s)
      × (stops_itself act' rows left at s ≡ stops_itself act rows left at s)

  went_same : (left at : ℕ) → AreSame left → (rest rest' : S → Result) (behind behind' : S → Bool)
      → (many : S → ℕ) → ((s : S) → count s ≤ many s)
      → ((s : S) → many s ≤ most → (rest' s ≡ rest s) × (behind' s ≡ behind s))
      → (s : S) (one other : Effect S) → IsAs count most one other
      → effect_most act count (runs_most act count rows left) at s one many ≤ most
      → (went (runs act' rows left) at s other rest' ≡ went (runs act rows left) at s one rest)
      × (effect_stops act' (stops_itself act' rows left) at s other behind'
      ≡ effect_stops act (stops_itself act rows left) at s one behind)
  went_same left at again rest rest' behind behind' many least later s one other
      (SameEffect {effect = effect}) few = by effect few
    where
      by : (effect : Effect S)
          → effect_most act count (runs_most act count rows left) at s effect many ≤ most
          → (went (runs act' rows left) at s effect rest'
          ≡ went (runs act rows left) at s effect rest)
          × (effect_stops act' (stops_itself act' rows left) at s effect behind'
          ≡ effect_stops act (stops_itself act rows left) at s effect behind)
      by (Does (Goes bytes next)) few =
          let (same, stops) = later next few in (ap (printed bytes) same, stops)
      by (Does (Stops stop)) few = (refl, refl)
      by (Leaps goal) few = again goal s few
      by Passes few = again (at + 1) s few
  went_same left at again rest rest' behind behind' many least later s one other
      (WasOver {next = next} over) few =
      let low = least next in absurd (omega (arith, over, low, few))

  least_rows : (leap : ℕ → S → ℕ) (at : ℕ) (more : List Row) (s : S)
      → count s ≤ rows_most act count leap at more s
  least_rows leap at [] s = omega arith
  least_rows leap at (row ∷ more) s =
      le-max_left (count s)
      (effect_most act count leap at s (act row s)
      (λ next. rows_most act count leap (at + 1) more next))

  walk_same : (left : ℕ) → AreSame left → (at : ℕ) (more : List Row) (s : S)
      → rows_most act count (runs_most act count rows left) at more s ≤ most
      → (walked act' (runs act' rows left) (λ _. stopped (Ends Done)) at more s
      ≡ walked act (runs act rows left) (λ _. stopped (Ends Done)) at more s)
      × (rows_stop act' (stops_itself act' rows left) at more s
      ≡ rows_stop act (stops_itself act rows left) at more s)
  walk_same left again at [] s few = (refl, refl)
  walk_same left again at (row ∷ more) s few =
      let leap : ℕ → S → ℕ = runs_most act count rows left in
      let many : S → ℕ = λ next. rows_most act count leap (at + 1) more next in
      let greater = le-max_right (count s) (effect_most act count leap at s (act row s) many) in
      went_same left at again
      (λ next. walked act (runs act rows left) (λ _. stopped (Ends Done)) (at + 1) more next)
      (λ next. walked act' (runs act' rows left) (λ _. stopped (Ends Done)) (at + 1) more next)
      (λ next. rows_stop act (stops_itself act rows left) (at + 1) more next)
      (λ next. rows_stop act' (stops_itself act' rows left) (at + 1) more next)
      many (least_rows leap (at + 1) more)
      (λ next. walk_same left again (at + 1) more next) s (act row s) (act' row s) (alike row s)
      (omega (arith, greater, few))

  runs_same : (left : ℕ) → AreSame left
  runs_same zero at s few = (refl, refl)
  runs_same (suc left) at s few = walk_same left (runs_same left) at (drop at rows) s few

-- ---- rows
module _ (code : Tables) (most n : ℕ) where
  over_room : (count : ℕ) → nat_lt count most ≡ false → most < count + 1
  over_room count e = let less : most ≤ count = grind (arith, nat_tests, e) in omega (arith, less)

  room_where : (room one other : Bool) (bytes : List ℕ) (next : Abreast)
      → (room ≡ false → most < open_in next)
      → IsAs open_in most (Does (go_where (true && one && other) bytes next))
      (Does (go_where (room && one && other) bytes next))
  room_where true one other bytes next over = SameEffect
  room_where false true true bytes next over = WasOver (over refl)
  room_where false true false bytes next over = SameEffect
  room_where false false true bytes next over = SameEffect
  room_where false false false bytes next over = SameEffect

  start_as : (number : ℕ) (all : Abreast) (items : Option (List Item))
      → IsAs open_in most (Does (found items (λ items.
      started code (λ p. exchange.started code p number items) all None number)))
      (Does (found items (λ items.
      started code (λ p. exchange.started code p number items) all (Some most) number)))
  start_as number all (Some items) =
      room_where (is_roomy (Some most) (length all.flights)) _ _ _ _
      (λ full. let over = over_room (length all.flights) full in
      subst (λ k. most < k) (sym (length-append all.flights (_ ∷ []))) over)
  start_as number all None = SameEffect

  row_as : (row : Instr) (next : Option Instr) (all : Abreast)
      → IsAs open_in most (row_does code None n row next all)
      (row_does code (Some most) n row next all)
  row_as (instr.Start number) next all = start_as number all (slice_get code.exchanges number)
  row_as row next all = SameEffect

  act_as : (one : Followed) (all : Abreast)
      → IsAs open_in most (plan_act code None n one all) (plan_act code (Some most) n one all)
  act_as one all = row_as one.row one.next all

-- over links that hold as many messages as exchanges are open at once
pub same_over : (code : Tables) (most a n : ℕ) → most_open code None a n ≤ most
    → (plan_run code (Some most) a n ≡ plan_run code None a n)
    × (stops_within code (Some most) a n ≡ stops_within code None a n)
same_over code most a n few =
    runs_same (plan_act code None n) (plan_act code (Some most) n) open_in most
    (act_as code most n) (plan_rows code) a 0 (start_abreast code) few

-- ---- a longer run has as many open
-- the same, or the first stops
data IsFurtherOn {S : Type 0} : Effect S → Effect S → Type 0 where
  AsFar : {effect : Effect S} → IsFurtherOn effect effect
  WasStopped : {stop : Stop} {effect : Effect S} → IsFurtherOn (Does (Stops stop)) effect

module _ {S Row : Type 0} (act act' : Row → S → Effect S) (count : S → ℕ) (rows : List Row) where
  max_more : (k a b : ℕ) → a ≤ b → max k a ≤ max k b
  max_more k a b le =
      let greater = le-max_right k b in
      max-le (le-max_left k b) (omega (arith, le, greater))

  module _ (near : (row : Row) (s : S) → IsFurtherOn (act row s) (act' row s)) where
    effect_more : (leap leap' : ℕ → S → ℕ) → ((at : ℕ) (s : S) → leap at s ≤ leap' at s)
        → (rest rest' : S → ℕ) → ((s : S) → rest s ≤ rest' s) → (at : ℕ) (s : S)
        (one other : Effect S) → IsFurtherOn one other
        → effect_most act count leap at s one rest ≤ effect_most act' count leap' at s other rest'
    effect_more leap leap' leaps rest rest' rests at s one other (AsFar {effect = effect}) =
        by effect
      where
        by : (effect : Effect S)
            → effect_most act count leap at s effect rest
            ≤ effect_most act' count leap' at s effect rest'
        by (Does (Goes bytes next)) = rests next
        by (Does (Stops stop)) = omega arith
        by (Leaps goal) = leaps goal s
        by Passes = leaps (at + 1) s
    effect_more leap leap' leaps rest rest' rests at s one other WasStopped = omega arith

    rows_more : (leap leap' : ℕ → S → ℕ) → ((at : ℕ) (s : S) → leap at s ≤ leap' at s) → (at : ℕ)
        (more : List Row) (s : S)
        → rows_most act count leap at more s ≤ rows_most act' count leap' at more s
    rows_more leap leap' leaps at [] s = omega arith
    rows_more leap leap' leaps at (row ∷ more) s =
        max_more (count s)
        (effect_most act count leap at s (act row s)
        (λ next. rows_most act count leap (at + 1) more next))
        (effect_most act' count leap' at s (act' row s)
        (λ next. rows_most act' count leap' (at + 1) more next))
        (effect_more leap leap' leaps (λ next. rows_most act count leap (at + 1) more next)
        (λ next. rows_most act' count leap' (at + 1) more next)
        (λ next. rows_more leap leap' leaps (at + 1) more next) at s (act row s) (act' row s)
        (near row s))

    runs_more : (left at : ℕ) (s : S)
        → runs_most act count rows left at s ≤ runs_most act' count rows (suc left) at s
    runs_more zero at s =
        least_rows act' act' count 0 (λ row s. SameEffect) rows (runs_most act' count rows zero) at
        (drop at rows) s
    runs_more (suc left) at s =
        rows_more (runs_most act count rows left) (runs_most act' count rows (suc left))
        (runs_more left) at (drop at rows) s

pub more_open : (code : Tables) (links : Option ℕ) (a n : ℕ)
    → most_open code links a n ≤ most_open code links (suc a) (some_turns n)
more_open code links a n =
    runs_more (plan_act code links n) (plan_act code links (some_turns n)) open_in (plan_rows code)
    (λ row s. by (plan_act code links n row s) (plan_act code links (some_turns n) row s)
    (row_near code links n row s)) a 0 (start_abreast code)
  where
    by : (one other : Effect Abreast) → IsNear n one other
        → IsFurtherOn one other
    by one other IsTheSame = AsFar
    by one other (StopsBefore none wanting) = WasStopped

-- ---- orders
pub record IsEnough (plan : Tables) (a n most : ℕ) : Type 0 where
  pub right : (plan_run plan (Some most) (suc a) (some_turns n)).stop ≢ Wrong
  pub runs : plan_run plan (Some most) a n ≡ plan_run plan None a n
  pub stops : stops_within plan (Some most) a n ≡ stops_within plan None a n

pub open_enough : (plan : Tables) (a n : ℕ)
    → (plan_run plan None (suc a) (some_turns n)).stop ≢ Wrong
    → IsEnough plan a n (max 1 (most_open plan None (suc a) (some_turns n)))
open_enough plan a n right =
    let open_now = most_open plan None (suc a) (some_turns n) in
    let some = le-max_right 1 open_now in
    let less = more_open plan None a n in
    let longer = same_over plan (max 1 open_now) (suc a) (some_turns n) some in
    let shorter = same_over plan (max 1 open_now) a n (omega (arith, some, less)) in record {
      right = λ wrong. right (ap (λ (r : Result). r.stop) (sym longer.0) ∙ wrong);
      runs = shorter.0;
      stops = shorter.1;
    }

-- what is in step with the plan over links that hold so many is so over links of any number
pub open_step : (code plan : Tables) (a n most : ℕ) → IsEnough plan a n most
    → (order : List ℕ)
    × IsInStep code None (plan_run plan (Some most) a n)
    (least_moves (stops_within plan (Some most) a n) a n) (run_most plan a n) order
    × HoldsAtMost (system_over code None) order most
    → (order : List ℕ)
    × IsInStep code None (plan_run plan None a n) (least_moves (stops_within plan None a n) a n)
    (run_most plan a n) order
    × HoldsAtMost (system_over code None) order most
open_step code plan a n most enough given =
    subst (λ result. Stepped result (least_moves (stops_within plan None a n) a n)) enough.runs
    (subst (λ stops. Stepped (plan_run plan (Some most) a n) (least_moves stops a n)) enough.stops
    given)
  where
    Stepped : Result → ℕ → Type 0
    Stepped result least =
        (order : List ℕ) × IsInStep code None result least (run_most plan a n) order
        × HoldsAtMost (system_over code None) order most

pub hold_open : (code : Tables) → ((most : ℕ) → 1 ≤ most → HoldsFew code most)
    → HoldsOpen code code
hold_open code few a n right =
    let most = max 1 (most_open code None (suc a) (some_turns n)) in
    let enough = open_enough code a n right in
    open_step code code a n most enough
    (few most (le-max_left 1 (most_open code None (suc a) (some_turns n))) a n enough.right)
