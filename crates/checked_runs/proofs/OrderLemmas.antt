-- After every order none is stuck, and never are all idle with one not over.
use Rattle.std.proofs.Common.{◌≡◌, ℕ, zero, suc, ◌+◌, ◌<◌, ◌≤◌, true, false, List, length, map}
use Rattle.std.proofs.Common.{Option, Some, refl, ◌∙◌, ap, subst, arith, inl, slice_get}
use Rattle.std.specs.List.{range_with_len}
use Rattle.zpl_nums.specs.declared.ends.End.{End}
use Rattle.zpl_nums.specs.declared.ends.End.TheVariants.{More}
use Rattle.grid_links.specs.Laws.{Reaches}
use Rattle.grid_links.specs.Machine.{Ended}
use Rattle.grid_links.specs.Run as run
use Rattle.grid_links.specs.Run.{count_of, moves_of, start_world}
use Rattle.grid_links.specs.declared.messages.Message.{Message}
use Rattle.grid_paths.specs.Scene.{HasEnded, HasScene, Scene}
use Rattle.grid_paths.proofs.ReachLemmas.{reaches_from, starts}
use Rattle.node_form.specs.declared.tables.Tables.{Tables}
use Rattle.grid_meaning.specs.Action.{StuckKind}
use Rattle.grid_meaning.specs.Grid.{IsIdle, IsStuck, after, system_over}
use Rattle.grid_meaning.specs.Local.{Local, processors, start_local}
use Rattle.grid_meaning.specs.Turn.{act, act_at, unless_ended}
use Rattle.counted_code.proofs.of_row_orders.StarLemmas.{processor_count}
use Rattle.row_runs.specs.Run.{Ends}
use Rattle.counted_code.specs.of_plan_meaning.Abreast.{Abreast, start_abreast}
use Rattle.plan_orders.specs.Brings.{AllWait, AreOpen, HaveOrders, in_front}
use Rattle.plan_orders.specs.InStep.{IsInStep}
use Rattle.plan_orders.proofs.PlanLemmas.{AtRow, AtWait, Onward}
use Rattle.plan_orders.proofs.StartLemmas.{in_step}
use Rattle.every_order.proofs.GoodLemmas.{KnowsOrders}
use Rattle.checked_runs.proofs.StageLemmas.{AllOver, Place, Rows, Stage, StageAt, StageOver, StageWait, stage}

numbered : {X : Type 0} (f : ℕ → X) (a n p : ℕ) → p < n
    → slice_get (map f (range_with_len a n)) p ≡ Some (f (a + p))
numbered f a zero p below = absurd (omega (arith, below))
numbered f a (suc n) zero below =
    let same : a ≡ a + 0 = omega arith in ap (λ k. Some (f k)) same
numbered f a (suc n) (suc p) below =
    let same : a + 1 + p ≡ a + suc p = omega arith in
    numbered f (a + 1) n p (omega (arith, below)) ∙ ap (λ k. Some (f k)) same

ended_act : (code : Tables) (p : ℕ) (local : Local) (ending : End) → local.ended ≡ Some ending
    → act code p local ≡ Ended
ended_act code p local ending is =
    ap (λ ended. unless_ended ended (act_at code p local (slice_get code.code local.at))) is

-- an order from the start under which an order of so many turns does what it would do
pub record Far (code : Tables) (links : Option ℕ) (many : ℕ) : Type 0 where
  pub order : List ℕ
  pub reaches : Reaches (system_over code links) order many
  pub far : run.IsIdle (system_over code links) (run.after (system_over code links) order)
      → (p : ℕ) × (many ≤ length (moves_of (system_over code links) order p))

module _ (code : Tables) (links : Option ℕ) where
  abbrev system : run.System Local Message StuckKind
  system = system_over code links

  abbrev first : Scene Local Message
  first = in_front 0 (start_abreast code)

  pub start_is : HasScene (count_of system) (start_world system) first
  start_is =
      starts system first
      (λ p below. numbered (start_local code) 0 (processors code) p
      (subst (λ n. p < n) (processor_count code links) below)
      ∙ ap (λ k. Some (start_local code k)) (from_zero p))
      (λ p q a b. refl)
    where
      from_zero : (p : ℕ) → 0 + p ≡ p
      from_zero p = omega arith

  over_far : (many : ℕ) → AllOver code links first → Far code links many
  over_far many over =
      let reached = reaches_from system first over.over over.many over.shown many start_is
      over.leads
      (λ p below. inl (HasEnded (ended_act code p (over.over.locals p) over.ending
      (over.ended p below)))) in
      record {
        order = reached.order;
        reaches = reached.reaches;
        far = λ idle. absurd (idle.not_over (reached.over (λ p below.
            ended_act code p (over.over.locals p) over.ending (over.ended p below))));
      }

  step_far : (bound most : ℕ) (bytes : List ℕ)
      → (order : List ℕ)
      × IsInStep code links (record { bytes = bytes; stop = Ends More }) bound most order
      → Far code links bound
  step_far bound most bytes (order, step) = record {
    order = order;
    reaches = step.reaches;
    far = λ idle. let one = step.one_moved refl in (one.0, one.2);
  }

  wait_far : (turns many : ℕ) (bytes : List ℕ) → many ≤ turns
      → AllWait code links first turns bytes → Far code links many
  wait_far turns many bytes few wait =
      step_far many 0 bytes
      (in_step code links turns 0 many 0 true few (record { bytes = bytes; stop = Ends More })
      (AtWait wait))

  place_far : (InFront : ℕ → Abreast → Type 0) (k : ℕ) (place : Place code links InFront k)
      → Onward code links (in_front place.at place.all) → Far code links k
  place_far InFront k place onward =
      step_far k 0 (place.reach.shown 0)
      (in_step code links 0 k k 0 false (omega arith)
      (record { bytes = place.reach.shown 0; stop = Ends More })
      (AtRow place.at place.all
      (record {
        many = place.reach.many;
        shown = place.reach.shown;
        leads = place.reach.leads;
        enough = place.enough;
        few = λ never. absurd never;
        printed = refl;
      }) onward))

  -- where no loop wants a turn with so many turns of each, or more
  module _ (InFront : ℕ → ℕ → Abreast → Type 0) (least : ℕ) (ordered : HaveOrders code links)
      (open_now : AreOpen code links (start_abreast code))
      (rows : (n : ℕ) → least ≤ n → Rows code links (InFront n) n) where
    pub far : (many : ℕ) → Far code links many
    far many =
        by
        (stage code links (InFront (least + suc many)) (least + suc many) (omega arith) ordered
        (rows (least + suc many) (omega arith)) open_now many)
      where
        by : Stage code links (InFront (least + suc many)) (least + suc many) (omega arith) ordered
            (rows (least + suc many) (omega arith)) many → Far code links many
        by (StageOver over) = over_far many over
        by (StageWait turns are bytes wait) = wait_far turns many bytes (omega (arith, are)) wait
        by (StageAt place onward) = place_far (InFront (least + suc many)) many place onward

  module _ (knows : KnowsOrders code links) (far : (many : ℕ) → Far code links many) where
    pub never_stuck : (order : List ℕ) → IsStuck code links (after code links order) → ⊥
    never_stuck order stuck =
        let to = far (length order) in
        knows.never_stuck to.order order (length order) to.reaches (omega arith)
        (subst (run.IsStuck system) (knows.world order) ((knows.stuck order).0 stuck))

    pub never_idle : (order : List ℕ) → IsIdle code links (after code links order) → ⊥
    never_idle order idle =
        let to = far (suc (length order)) in
        knows.never_idle to.order order (suc (length order)) to.reaches (omega arith)
        (λ rests. let one = to.far rests in (one.0, omega (arith, one.1)))
        (subst (run.IsIdle system) (knows.world order) ((knows.idle order).0 idle))
