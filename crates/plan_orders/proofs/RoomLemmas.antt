-- An order over links of some capacity does the same over links of any number of messages.
use Rattle.std.proofs.Common.{◌≡◌, ◌⊎◌, ℕ, ◌≤◌, Bool, true, false, List, [], length, All, Option, Some, None, sym, ◌∙◌, ap, subst, inl, inr, slice_get, arith}
use Rattle.std.specs.Prelude.{IsSome, option_and_then}
use Rattle.grid_links.specs.declared.messages.Message.{Message}
use Rattle.grid_links.specs.Laws.{HoldsAtMost, IsSameRun}
use Rattle.grid_links.specs.Machine.{Awaits, Blocked, Ended, Goes, Moves, Stuck, over_links, where_room}
use Rattle.grid_links.specs.Run as run
use Rattle.grid_links.specs.Run.{World, count_of, heads_at, moves_of, rooms_at, shown_by, turn_or_over}
use Rattle.grid_links.proofs.CapacityLemmas.{same_run}
use Rattle.grid_links.proofs.FrontLemmas.{front-same}
use Rattle.grid_paths.specs.Scene.{OnlyMoves}
use Rattle.grid_paths.proofs.RoomLemmas.{holds_as_much}
use Rattle.node_form.specs.declared.tables.Tables.{Tables}
use Rattle.grid_meaning.specs.Action.{Action, Feeding, StuckKind}
use Rattle.grid_meaning.specs.Grid.{IsOver, after, system_over}
use Rattle.grid_meaning.specs.Local.{Local}
use Rattle.grid_meaning.proofs.GridLemmas.{world-after}
use Rattle.row_runs.specs.Run.{Result}
use Rattle.plan_orders.specs.InStep.{ComesInStep, HoldsFew, IsInStep}
use Rattle.plan_orders.proofs.StartLemmas.{printed_is}

module _ (code : Tables) (most : ℕ) where
  abbrev few : run.System Local Message StuckKind
  few = system_over code (Some most)

  abbrev free : run.System Local Message StuckKind
  free = system_over code None

  -- ---- who is stuck isn't so by a full link
  stuck_anyway : (feeds : Message → Feeding) (heads : ℕ → Option Message) (rooms small : ℕ → Bool)
      (act : Action) (kind : StuckKind) → over_links feeds heads rooms act ≡ Stuck kind
      → over_links feeds heads small act ≡ Stuck kind
  stuck_anyway feeds heads rooms small Ended kind e = e
  stuck_anyway feeds heads rooms small (Blocked other) kind e = e
  stuck_anyway feeds heads rooms small (Goes next None shown) kind e = e
  stuck_anyway feeds heads rooms small (Goes next (Some sent) shown) kind e =
      by (rooms sent.0) e
    where
      by : (room : Bool)
          → where_room {K = StuckKind} room (Moves (record {
            next = next;
            sent = Some sent;
            taken = None;
            shown = shown;
          }))
          ≡ Stuck kind
          → over_links feeds heads small (Goes next (Some sent) shown) ≡ Stuck kind
      by true e = cc
      by false e = cc
  stuck_anyway feeds heads rooms small (Awaits from) kind e = e

  stuck_there : (world : World Local Message) (p : ℕ) (kind : StuckKind)
      → run.next_turn free world p ≡ Stuck kind → run.next_turn few world p ≡ Stuck kind
  stuck_there world p kind = by (slice_get world.locals p)
    where
      by : (local : Option Local) → turn_or_over free world p local ≡ Stuck kind
          → turn_or_over few world p local ≡ Stuck kind
      by None e = e
      by (Some local) e =
          stuck_anyway (free.processes.fed p local) (heads_at (count_of free) world.links p)
          (rooms_at None (count_of free) world.links p)
          (rooms_at (Some most) (count_of free) world.links p) (free.processes.act p local) kind e

  -- ---- in step over both
  pub free_step : (result : Result) (bound top : ℕ) (order : List ℕ)
      → IsInStep code (Some most) result bound top order
      → IsInStep code None result bound top order × HoldsAtMost free order most
  free_step result bound top order step = (
    record {
      turns = step.turns;
      only_moves = both.0;
      printed =
          printed_is code None order
          ∙ (sym (ap shown_by (same.moves 0))
          ∙ (sym (printed_is code (Some most) order) ∙ step.printed));
      ends = λ ending is last.
          let (end, empty) = step.ends ending is last in (
            record {
              over = over_there end.over;
              first =
                  sym (ap (λ (w : World Local Message). option_and_then (λ local. local.ended)
                  (slice_get w.locals 0)) grid_same)
                  ∙ end.first;
            },
            subst (λ (w : World Local Message). All (λ link. link ≡ []) w.links) grid_same empty,
          );
      goes_on = λ more over. step.goes_on more (over_back over);
      reaches = record {
        moved = λ p below. moved p (step.freely p below);
        not_stuck = λ stuck. step.reaches.not_stuck (record {
          process = stuck.process;
          there = stuck.there;
          kind = stuck.kind;
          stuck =
              subst (λ w. run.next_turn few w stuck.process ≡ Stuck stuck.kind) (sym world_same)
              (stuck_there (run.after free order) stuck.process stuck.kind stuck.stuck);
        });
      };
      freely = λ p below. moved p (step.freely p below);
      one_moved = λ more.
          let (p, below, enough) = step.one_moved more in
          (p, below, omega (arith, enough, ap length (same.moves p)));
      few = λ three last p below.
          let less = step.few three last p below in
          omega (arith, less, ap length (same.moves p));
    },
    both.1,
  )
    where
      both : OnlyMoves free (run.start_world free) order × HoldsAtMost free order most
      both = holds_as_much free order most step.only_moves

      same : IsSameRun few free order
      same = same_run free most order both.1

      world_same : run.after few order ≡ run.after free order
      world_same = same.worlds order (front-same order)

      grid_same : (after code (Some most) order).world ≡ (after code None order).world
      grid_same =
          world-after code (Some most) order ∙ (world_same ∙ sym (world-after code None order))

      over_there : IsOver (after code (Some most) order) → IsOver (after code None order)
      over_there over =
          subst (λ (w : World Local Message). All (λ local. IsSome local.ended) w.locals) grid_same
          over

      over_back : IsOver (after code None order) → IsOver (after code (Some most) order)
      over_back over =
          subst (λ (w : World Local Message). All (λ local. IsSome local.ended) w.locals)
          (sym grid_same) over

      moved : (p : ℕ)
          → run.Rests free (run.after few order) p ⊎ (bound ≤ length (moves_of few order p))
          → run.Rests free (run.after free order) p ⊎ (bound ≤ length (moves_of free order p))
      moved p (inl rests) = inl (subst (λ w. run.Rests free w p) world_same rests)
      moved p (inr enough) = inr (omega (arith, enough, ap length (same.moves p)))

  pub hold_few : ComesInStep code (Some most) → HoldsFew code most
  hold_few comes a n right =
      let (order, step) = comes a n right in
      let (stepped, holds) = free_step _ _ _ order step in
      (order, stepped, holds)
