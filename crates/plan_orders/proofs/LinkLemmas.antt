-- A plan that isn't wrong over links of so many messages shows the same over links of any number.
use Rattle.std.proofs.Common.{◌≡◌, ◌≢◌, ℕ, zero, suc, ◌+◌, Bool, true, false, ◌&&◌, List, [], ◌∷◌, drop, length, slice_get, Option, Some, None, refl, ap}
use Rattle.zpl_nums.specs.declared.ends.End.TheVariants.{Done}
use Rattle.code_parts.specs.Early.{is_roomy}
use Rattle.node_form.specs.declared.arrays.Item.{Item}
use Rattle.node_form.specs.declared.instructions.Instr.{Instr}
use Rattle.node_form.specs.declared.instructions.Instr.TheVariants as instr
use Rattle.node_form.specs.declared.tables.Tables.{Tables}
use Rattle.grid_meaning.specs.Exchange as exchange
use Rattle.row_runs.specs.Run.{Does, Effect, Ends, Goes, Leaps, Passes, Result, Stops, Wrong, printed, runs, stopped, walked, went}
use Rattle.row_runs.specs.Growth.{effect_stops, rows_stop, stops_itself}
use Rattle.plan_meaning.specs.Abreast.{Abreast, go_where, start_abreast}
use Rattle.plan_meaning.specs.Act.{Followed, found, plan_act, plan_rows, row_does}
use Rattle.plan_meaning.specs.Messages.{started}
use Rattle.plan_orders.specs.InStep.{ShowsFreely}

-- the same, unless the first is wrong
data IsKept {S : Type 0} : Effect S → Effect S → Type 0 where
  SameEffect : {effect : Effect S} → IsKept effect effect
  WasWrong : {effect : Effect S} → IsKept (Does (Stops Wrong)) effect

-- ---- runs
module _ {S Row : Type 0} (act act' : Row → S → Effect S)
    (kept : (row : Row) (s : S) → IsKept (act row s) (act' row s)) (rows : List Row) where
  abbrev AreSame : ℕ → Type 0
  AreSame left =
      (at : ℕ) (s : S) → (runs act rows left at s).stop ≢ Wrong
      → (runs act' rows left at s ≡ runs act rows left at s)
      × (stops_itself act' rows left at s ≡ stops_itself act rows left at s)

  went_same : (left at : ℕ) → AreSame left → (rest rest' : S → Result) (behind behind' : S → Bool)
      → ((s : S) → (rest s).stop ≢ Wrong → (rest' s ≡ rest s) × (behind' s ≡ behind s))
      → (s : S) (one other : Effect S) → IsKept one other
      → (went (runs act rows left) at s one rest).stop ≢ Wrong
      → (went (runs act' rows left) at s other rest' ≡ went (runs act rows left) at s one rest)
      × (effect_stops act' (stops_itself act' rows left) at s other behind'
      ≡ effect_stops act (stops_itself act rows left) at s one behind)
  went_same left at again rest rest' behind behind' later s one other
      (SameEffect {effect = effect}) right = by effect right
    where
      by : (effect : Effect S) → (went (runs act rows left) at s effect rest).stop ≢ Wrong
          → (went (runs act' rows left) at s effect rest'
          ≡ went (runs act rows left) at s effect rest)
          × (effect_stops act' (stops_itself act' rows left) at s effect behind'
          ≡ effect_stops act (stops_itself act rows left) at s effect behind)
      by (Does (Goes bytes next)) right =
          let (same, stops) = later next right in (ap (printed bytes) same, stops)
      by (Does (Stops stop)) right = (refl, refl)
      by (Leaps goal) right = again goal s right
      by Passes right = again (at + 1) s right
  went_same left at again rest rest' behind behind' later s one other WasWrong right =
      absurd (right refl)

  walk_same : (left : ℕ) → AreSame left → (at : ℕ) (more : List Row) (s : S)
      → (walked act (runs act rows left) (λ _. stopped (Ends Done)) at more s).stop ≢ Wrong
      → (walked act' (runs act' rows left) (λ _. stopped (Ends Done)) at more s
      ≡ walked act (runs act rows left) (λ _. stopped (Ends Done)) at more s)
      × (rows_stop act' (stops_itself act' rows left) at more s
      ≡ rows_stop act (stops_itself act rows left) at more s)
  walk_same left again at [] s right = (refl, refl)
  walk_same left again at (row ∷ more) s right =
      went_same left at again
      (λ next. walked act (runs act rows left) (λ _. stopped (Ends Done)) (at + 1) more next)
      (λ next. walked act' (runs act' rows left) (λ _. stopped (Ends Done)) (at + 1) more next)
      (λ next. rows_stop act (stops_itself act rows left) (at + 1) more next)
      (λ next. rows_stop act' (stops_itself act' rows left) (at + 1) more next)
      (λ next. walk_same left again (at + 1) more next) s (act row s) (act' row s) (kept row s)
      right

  runs_same : (left : ℕ) → AreSame left
  runs_same zero at s right = (refl, refl)
  runs_same (suc left) at s right = walk_same left (runs_same left) at (drop at rows) s right

-- ---- rows
module _ (code : Tables) (most n : ℕ) where
  room_where : (room one other : Bool) (bytes : List ℕ) (next : Abreast)
      → IsKept (Does (go_where (room && one && other) bytes next))
      (Does (go_where (true && one && other) bytes next))
  room_where true one other bytes next = SameEffect
  room_where false one other bytes next = WasWrong

  start_kept : (number : ℕ) (all : Abreast) (items : Option (List Item))
      → IsKept (Does (found items (λ items.
      started code (λ p. exchange.started code p number items) all (Some most) number)))
      (Does (found items (λ items.
      started code (λ p. exchange.started code p number items) all None number)))
  start_kept number all (Some items) =
      room_where (is_roomy (Some most) (length all.flights)) _ _ _ _
  start_kept number all None = SameEffect

  row_kept : (row : Instr) (next : Option Instr) (all : Abreast)
      → IsKept (row_does code (Some most) n row next all) (row_does code None n row next all)
  row_kept (instr.Start number) next all =
      start_kept number all (slice_get code.exchanges number)
  row_kept row next all = SameEffect

  act_kept : (one : Followed) (all : Abreast)
      → IsKept (plan_act code (Some most) n one all) (plan_act code None n one all)
  act_kept one all = row_kept one.row one.next all

pub shows_freely : (code : Tables) (most : ℕ) → ShowsFreely code most
shows_freely code most a n right =
    runs_same (plan_act code (Some most) n) (plan_act code None n) (act_kept code most n)
    (plan_rows code) a 0 (start_abreast code) right
