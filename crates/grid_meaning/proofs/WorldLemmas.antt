-- A grid shows what its world shows; and both counts of a grid's processors are one.
use Rattle.std.proofs.Common.{◌≡◌, ℕ, zero, suc, ◌*◌, ◌<◌, ◌↔◌, Bool, true, false, List, [], ◌∷◌, length, get_or, refl, ap, ◌∙◌, subst, arith}
use Rattle.std.specs.Prelude.{Option, Some, None, IsSome, fold, slice_get}
use Rattle.std.proofs.lemmas.Option.{slice_get-get_or}
use Rattle.node_form.specs.of_zpl_nums.declared.ends.End.{End}
use Rattle.grid_layout.specs.Grid as layout
use Rattle.grid_links.specs.declared.messages.Message.{Message}
use Rattle.grid_links.specs.Machine.{Ended, Blocked, Goes, Awaits, Takes, Refuses, Heads, Rooms, Moves, Over, awaits, over_links, takes_from, where_room}
use Rattle.grid_links.specs.Run as run
use Rattle.node_form.specs.declared.tables.Tables.{Tables}
use Rattle.node_form.specs.Grid as form
use Rattle.grid_meaning.specs.Action.{Action, Feeding, StuckKind}
use Rattle.grid_meaning.specs.Grid.{IsIdle, IsOver, IsStuck, after, system_over}
use Rattle.grid_meaning.specs.Local.{Local, processors, start_locals}
use Rattle.grid_meaning.specs.Turn.{act_at, fed, unless_ended}
use Rattle.grid_meaning.proofs.GridLemmas.{length-after, length-start_locals, over_at}
use Rattle.grid_meaning.proofs.PartnerLemmas.{IsOpen, open_at}

-- ---- a turn is Over only where the processor has ended
not_over : (code : Tables) (p : ℕ) (inside : p < processors code) (feeds : Message → Feeding) (heads : Heads Message) (rooms : Rooms)
    (action : Action) → IsOpen code p inside action → over_links feeds heads rooms action ≡ Over → ⊥
not_over code p inside feeds heads rooms Ended is over = is
not_over code p inside feeds heads rooms (Blocked kind) is over = cc
not_over code p inside feeds heads rooms (Goes next None shown) is over = cc
not_over code p inside feeds heads rooms (Goes next (Some sent) shown) is over = by (rooms sent.0) over
  where
    by : (room : Bool) → where_room {K = StuckKind} room (Moves (record { next = next; sent = Some sent; taken = None; shown = shown })) ≡ Over → ⊥
    by true e = cc
    by false e = cc
not_over code p inside feeds heads rooms (Awaits from) is over = by (heads from) over
  where
    fed_over : (feeding : Feeding) → takes_from {M = Message} from feeding ≡ Over → ⊥
    fed_over (Takes next) e = cc
    fed_over (Refuses kind) e = cc

    by : (head : Option Message) → awaits feeds from head ≡ Over → ⊥
    by None e = cc
    by (Some message) e = fed_over (feeds message) e

ended_from : (code : Tables) (p : ℕ) (local : Local) (heads : Heads Message) (rooms : Rooms) → p < processors code
    → over_links (fed code p local) heads rooms (unless_ended local.ended (act_at code p local (slice_get code.code local.at))) ≡ Over
    → IsSome local.ended
ended_from code p local heads rooms inside over = by local.ended over
  where
    by : (ended : Option End)
        → over_links (fed code p local) heads rooms (unless_ended ended (act_at code p local (slice_get code.code local.at))) ≡ Over
        → IsSome ended
    by (Some ending) e = refl
    by None e =
        absurd (not_over code p inside (fed code p local) heads rooms _ (open_at code p inside local (slice_get code.code local.at)) e)

-- ---- over, stuck, idle
pub IsOver-world : (code : Tables) (links : Option ℕ) (order : List ℕ)
    → IsOver (after code links order) ↔ run.IsOver (system_over code links) (after code links order).world
IsOver-world code links order = (
  λ over p inside. over_at code links (after code links order) p (after code links order).world.locals p over,
  λ over i d inside.
      let grid = after code links order in
      let there = slice_get-get_or grid.world.locals i d inside in
      let below : i < processors code = omega (arith, length-after code links order) in
      let counted : i < length (start_locals code) = omega (arith, length-start_locals code) in
      ended_from code i (get_or grid.world.locals i d) _ _ below
      (subst (λ o. run.turn_or_over (system_over code links) grid.world i o ≡ Over) there (over i counted)),
)

pub IsStuck-world : (code : Tables) (links : Option ℕ) (order : List ℕ)
    → IsStuck code links (after code links order) ↔ run.IsStuck (system_over code links) (after code links order).world
IsStuck-world code links order = (
  λ stuck. record {
    process = stuck.processor;
    there = omega (arith, stuck.there, length-start_locals code);
    kind = stuck.kind;
    stuck = stuck.stuck;
  },
  λ stuck. record {
    processor = stuck.process;
    there = omega (arith, stuck.there, length-start_locals code);
    kind = stuck.kind;
    stuck = stuck.stuck;
  },
)

pub IsIdle-world : (code : Tables) (links : Option ℕ) (order : List ℕ)
    → IsIdle code links (after code links order) ↔ run.IsIdle (system_over code links) (after code links order).world
IsIdle-world code links order = (
  λ idle. record {
    not_over = λ over. idle.not_over ((IsOver-world code links order).1 over);
    resting = λ p inside. idle.resting p (omega (arith, length-start_locals code));
  },
  λ idle. record {
    not_over = λ over. idle.not_over ((IsOver-world code links order).0 over);
    resting = λ p inside. idle.resting p (omega (arith, length-start_locals code));
  },
)

-- ---- how many processors a grid has
factors_alike : (grid : List ℕ) → form.factors_of grid ≡ layout.factors_of grid
factors_alike [] = refl
factors_alike (zero ∷ grid) = refl
factors_alike (suc n ∷ grid) = ap (λ rest. suc n ∷ rest) (factors_alike grid)

pub fold-product : (numbers : List ℕ) (count : ℕ)
    → fold (λ so_far factor. so_far * factor) count numbers ≡ count * layout.product numbers
fold-product [] count = omega arith
fold-product (n ∷ numbers) count =
    let rest = fold-product numbers (count * n) in
    omega arith

pub processors_alike : (grid : List ℕ) → form.processors_of grid ≡ layout.processors_of grid
processors_alike grid =
    ap (λ factors. fold (λ so_far factor. so_far * factor) 1 factors) (factors_alike grid)
    ∙ (fold-product (layout.factors_of grid) 1 ∙ omega arith)
