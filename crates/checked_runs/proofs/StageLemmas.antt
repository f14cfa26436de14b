-- Row by row: all processors have made as many moves each as is wanted, or all have ended.
use Rattle.std.proofs.Common.{◌≡◌, ◌≢◌, ◌⊎◌, ℕ, zero, suc, ◌+◌, ◌<◌, ◌≤◌, List, [], ◌++◌}
use Rattle.std.proofs.Common.{Option, Some, None, refl, ◌∙◌, ap, subst, arith, inl, inr, slice_get}
use Rattle.zpl_nums.specs.declared.ends.End.{End}
use Rattle.zpl_nums.specs.declared.ends.End.TheVariants.{Done}
use Rattle.grid_links.specs.Machine.{Goes as Moves}
use Rattle.grid_links.specs.Run as run
use Rattle.grid_links.specs.Run.{count_of}
use Rattle.grid_links.specs.declared.messages.Message.{Message}
use Rattle.grid_paths.specs.Scene.{Leads, Scene}
use Rattle.grid_paths.proofs.RoundLemmas.{leads_through}
use Rattle.node_form.specs.declared.instructions.Instr.{Instr}
use Rattle.node_form.specs.declared.tables.Tables.{Tables}
use Rattle.grid_meaning.specs.Action.{StuckKind, ended_as}
use Rattle.grid_meaning.specs.Grid.{system_over}
use Rattle.grid_meaning.specs.Local.{Local, processors}
use Rattle.grid_meaning.specs.Turn.{act, act_at}
use Rattle.counted_code.specs.of_row_orders.Rows.{flying}
use Rattle.counted_code.proofs.of_row_orders.StarLemmas.{processor_count}
use Rattle.row_runs.specs.Run.{Does, Effect, Ends, Goes, Leaps, Passes, Stops, Wrong}
use Rattle.counted_code.specs.of_plan_meaning.Abreast.{Abreast, start_abreast}
use Rattle.counted_code.specs.of_plan_meaning.Act.{row_does}
use Rattle.plan_orders.specs.Brings.{AllWait, AreOpen, ComesToEnd, ComesToWait, GoesWell}
use Rattle.plan_orders.specs.Brings.{HaveOrders, LeadsTo, StaysInFront, Stopped, in_front, standing_at}
use Rattle.plan_orders.proofs.PlanLemmas.{AllMove, AllRest, Onward}
use Rattle.plan_orders.proofs.QuietLemmas.{brings_once}
use Rattle.plan_orders.proofs.StartLemmas.{Reach, reach_on, start_reach}
use Rattle.checked_messages.specs.of_checked_rows.Right.{AllEndThere, Fares, GoesRight}

module _ (code : Tables) (links : Option ℕ) where
  abbrev system : run.System Local Message StuckKind
  system = system_over code links

  abbrev first : Scene Local Message
  first = in_front 0 (start_abreast code)

  -- all have ended, whatever is on the links
  pub record AllOver (one : Scene Local Message) : Type 0 where
    pub over : Scene Local Message
    pub many : ℕ → ℕ
    pub shown : ℕ → List ℕ
    pub leads : Leads system one over many shown
    pub each : (p : ℕ) → p < count_of system → 1 ≤ many p
    pub ending : End
    pub ended : (p : ℕ) → p < count_of system → (over.locals p).ended ≡ Some ending

  -- a state of the plan in front of a row or behind the last one, where all have made so many moves
  pub record Place (InFront : ℕ → Abreast → Type 0) (k : ℕ) : Type 0 where
    pub at : ℕ
    pub all : Abreast
    pub reach : Reach code links at all
    pub enough : (p : ℕ) → p < count_of system → k ≤ reach.many p
    pub open_now : AreOpen code links all
    pub in_front : InFront at all

  -- from there: all end; each waits or goes on; or all come to another such place
  data From (InFront : ℕ → Abreast → Type 0) (n at : ℕ) (all : Abreast) : Type 0 where
    Over : AllOver (in_front at all) → From InFront n at all
    Wait : (turns : ℕ) → n ≡ suc turns → AllWait code links (in_front at all) turns []
        → From InFront n at all
    Further : (there : ℕ) (next : Abreast) (bytes : List ℕ)
        → LeadsTo code links n all (in_front at all) (in_front there next) bytes
        → AreOpen code links next → InFront there next → From InFront n at all

  -- what is wanted of the rows
  pub record Rows (InFront : ℕ → Abreast → Type 0) (n : ℕ) : Type 0 where
    pub start : InFront 0 (start_abreast code)
    pub fares : (at : ℕ) (all : Abreast) (row : Instr) → InFront at all → Reach code links at all
        → AreOpen code links all → slice_get code.code at ≡ Some row
        → Fares code links n row (slice_get code.code (at + 1)) all
    pub goes : (at : ℕ) (all next : Abreast) (row : Instr) (bytes : List ℕ) → InFront at all
        → Reach code links at all → Reach code links (at + 1) next
        → AreOpen code links all → slice_get code.code at ≡ Some row
        → row_does code links n row (slice_get code.code (at + 1)) all ≡ Does (Goes bytes next)
        → InFront (at + 1) next
    pub leaps : (at goal : ℕ) (all : Abreast) (row : Instr) → InFront at all
        → slice_get code.code at ≡ Some row
        → row_does code links n row (slice_get code.code (at + 1)) all ≡ Leaps goal
        → InFront goal all
    pub passes : (at : ℕ) (all : Abreast) (row : Instr) → InFront at all
        → slice_get code.code at ≡ Some row
        → row_does code links n row (slice_get code.code (at + 1)) all ≡ Passes
        → InFront (at + 1) all

  module _ (InFront : ℕ → Abreast → Type 0) (n : ℕ) (some : 1 ≤ n) (ordered : HaveOrders code links)
      (rows : Rows InFront n) where
    inside : (p : ℕ) → p < count_of system → p < processors code
    inside p below = subst (λ k. p < k) (processor_count code links) below

    all_end : (at : ℕ) (all : Abreast) → AreOpen code links all → (ending : End)
        → ((p : ℕ) → p < processors code → act code p (standing_at at (all.shares p))
        ≡ Moves (ended_as (standing_at at (all.shares p)) ending) None [])
        → AllOver (in_front at all)
    all_end at all open_now ending acts =
        let brings = brings_once code links n all (λ p. standing_at at (all.shares p))
        (λ p. ended_as (standing_at at (all.shares p)) ending) (λ p. []) all.flights
        open_now.flights open_now.room acts in
        record {
          over = flying (λ p. ended_as (standing_at at (all.shares p)) ending) all.flights;
          many = brings.many;
          shown = brings.shown;
          leads = brings.leads;
          each = brings.enough;
          ending = ending;
          ended = λ p below. refl;
        }

    stopped : (at : ℕ) (all : Abreast) (Premise : Type 0) (most : ℕ) (ending : End)
        → Stopped code links n (in_front at all) Premise most ending → From InFront n at all
    stopped at all Premise most ending (ComesToEnd end) =
        Over (record {
          over = end.over;
          many = end.brings.many;
          shown = end.brings.shown;
          leads = end.brings.leads;
          each = end.brings.enough;
          ending = ending;
          ended = end.ended;
        })
    stopped at all Premise most ending (ComesToWait turns are wait) = Wait turns are wait
    stopped at all Premise most ending (StaysInFront none) = absurd (omega (arith, some, none))

    module _ (at : ℕ) (all : Abreast) (row : Instr) (inv : InFront at all)
        (reach : Reach code links at all) (open_now : AreOpen code links all)
        (here : slice_get code.code at ≡ Some row) where
      abbrev effect_here : Effect Abreast
      effect_here = row_does code links n row (slice_get code.code (at + 1)) all

      by_effect : (effect : Effect Abreast) → effect_here ≡ effect → effect ≢ Does (Stops Wrong)
          → GoesWell code links n at all effect → From InFront n at all
      by_effect (Does (Goes bytes next)) is right well =
          Further (at + 1) next bytes well.0 well.1
          (rows.goes at all next row bytes inv reach
          (reach_on code links n at (at + 1) all next bytes reach well.0) open_now here is)
      by_effect (Does (Stops (Ends ending))) is right well = stopped at all _ _ ending well
      by_effect (Does (Stops Wrong)) is right well = absurd (right refl)
      by_effect (Leaps goal) is right well =
          Further goal all [] well.0 open_now (rows.leaps at goal all row inv here is)
      by_effect Passes is right well =
          Further (at + 1) all [] well open_now (rows.passes at all row inv here is)

      by_fares : Fares code links n row (slice_get code.code (at + 1)) all → From InFront n at all
      by_fares (GoesRight right) =
          by_effect effect_here refl right
          (ordered n at row (slice_get code.code (at + 1)) here (λ group vote. refl) all open_now)
      by_fares (AllEndThere ending acts) =
          Over (all_end at all open_now ending (λ p below.
          ap (act_at code p (standing_at at (all.shares p))) here ∙ acts at p below))

    from_here : (at : ℕ) (all : Abreast) → InFront at all → Reach code links at all
        → AreOpen code links all → From InFront n at all
    from_here at all inv reach open_now = by (slice_get code.code at) refl
      where
        by : (row : Option Instr) → slice_get code.code at ≡ row → From InFront n at all
        by None none =
            Over (all_end at all open_now Done (λ p below.
            ap (act_at code p (standing_at at (all.shares p))) none))
        by (Some row) here =
            by_fares at all row inv reach open_now here
            (rows.fares at all row inv reach open_now here)

    onward : (at : ℕ) (all : Abreast) → From InFront n at all → Onward code links (in_front at all)
    onward at all (Over over) = AllMove over.many over.shown over.leads over.each
    onward at all (Wait turns are wait) = AllRest wait
    onward at all (Further there next bytes leads open_next inv) =
        AllMove leads.many leads.shown leads.leads leads.enough

    -- ---- as many rows as are wanted
    pub data Stage (k : ℕ) : Type 0 where
      StageOver : AllOver first → Stage k
      StageWait : (turns : ℕ) → n ≡ suc turns → (bytes : List ℕ)
          → AllWait code links first turns bytes
          → Stage k
      StageAt : (place : Place InFront k) → Onward code links (in_front place.at place.all)
          → Stage k

    over_behind : (at : ℕ) (all : Abreast) → Reach code links at all → AllOver (in_front at all)
        → AllOver first
    over_behind at all reach over = record {
      over = over.over;
      many = λ p. reach.many p + over.many p;
      shown = λ p. reach.shown p ++ over.shown p;
      leads =
          leads_through system first (in_front at all) over.over reach.many over.many reach.shown
          over.shown reach.leads over.leads;
      each = λ p below. let some = over.each p below in omega (arith, some);
      ending = over.ending;
      ended = over.ended;
    }

    wait_behind : (at turns : ℕ) (all : Abreast) → Reach code links at all
        → AllWait code links (in_front at all) turns []
        → (bytes : List ℕ) × AllWait code links first turns bytes
    wait_behind at turns all reach wait = (
      reach.shown 0 ++ wait.shown 0,
      record {
        other = wait.other;
        many = λ p. reach.many p + wait.many p;
        shown = λ p. reach.shown p ++ wait.shown p;
        leads =
            leads_through system first (in_front at all) wait.other reach.many wait.many reach.shown
            wait.shown reach.leads wait.leads;
        printed = refl;
        each = λ p below. by p (wait.each p below);
        longest = wait.longest;
        longest_below = wait.longest_below;
        longest_moves = let long = wait.longest_moves in omega (arith, long);
        longest_goes = wait.longest_goes;
      },
    )
      where
        by : {A B : Type 0} (p : ℕ) → A ⊎ ((turns ≤ wait.many p) × B)
            → A ⊎ ((turns ≤ reach.many p + wait.many p) × B)
        by p (inl rests) = inl rests
        by p (inr (enough, moves)) = inr (omega (arith, enough), moves)

    placed_at : (k : ℕ) → Place InFront k → Stage k
    placed_at k place =
        StageAt place
        (onward place.at place.all
        (from_here place.at place.all place.in_front place.reach place.open_now))

    next_place : (k : ℕ) (place : Place InFront k) → From InFront n place.at place.all
        → Stage (suc k)
    next_place k place (Over over) = StageOver (over_behind place.at place.all place.reach over)
    next_place k place (Wait turns are wait) =
        let behind = wait_behind place.at turns place.all place.reach wait in
        StageWait turns are behind.0 behind.1
    next_place k place (Further there next bytes leads open_next inv) =
        placed_at (suc k) (record {
          at = there;
          all = next;
          reach = record {
            many = λ p. place.reach.many p + leads.many p;
            shown = λ p. place.reach.shown p ++ leads.shown p;
            leads =
                leads_through system first (in_front place.at place.all) (in_front there next)
                place.reach.many leads.many place.reach.shown leads.shown place.reach.leads
                leads.leads;
          };
          enough = λ p below.
              let so_far = place.enough p below in
              let one_more = leads.enough p below in
              omega (arith, so_far, one_more);
          open_now = open_next;
          in_front = inv;
        })

    pub stage : AreOpen code links (start_abreast code) → (k : ℕ) → Stage k
    stage open_now zero =
        placed_at 0 (record {
          at = 0;
          all = start_abreast code;
          reach = start_reach code links;
          enough = λ p below. omega arith;
          open_now = open_now;
          in_front = rows.start;
        })
    stage open_now (suc k) = by (stage open_now k)
      where
        by : Stage k → Stage (suc k)
        by (StageOver over) = StageOver over
        by (StageWait turns are bytes wait) = StageWait turns are bytes wait
        by (StageAt place moves) =
            next_place k place
            (from_here place.at place.all place.in_front place.reach place.open_now)
