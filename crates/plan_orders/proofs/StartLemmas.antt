-- From the start of a plan to where its run comes.
use Rattle.std.proofs.Common.{◌≡◌, ◌⊎◌, ℕ, zero, suc, ◌+◌, ◌*◌, ◌/◌, ◌%◌, ◌<◌, ◌≤◌, ◌==◌, Bool, List, [], ◌∷◌, ◌++◌, length, map, fold, All, slice_get, Option, Some, None, refl, sym, ◌∙◌, ap, subst, inl, inr, arith, length-append, append_assoc, append-nil, get_or}
use Rattle.std.specs.Prelude.{IsSome, option_and_then}
use Rattle.std.specs.List.{range_with_len}
use Rattle.std.proofs.Math.Nat.{div-lt_iff_lt-mul, mod-lt}
use Rattle.std.proofs.lemmas.Nat.{div-add-mod'}
use Rattle.std.proofs.lemmas.Bool.{ne_eqb}
use Rattle.std.proofs.lemmas.Grind.{flat_map-append}
use Rattle.std.proofs.lemmas.List.{get_or_default, length-set}
use Rattle.std.proofs.lemmas.List.Elements.{All-nil, All-cons}
use Rattle.zpl_nums.specs.declared.ends.End.{End}
use Rattle.zpl_nums.specs.declared.ends.End.TheVariants.{More}
use Rattle.grid_links.specs.declared.messages.Message.{Message}
use Rattle.grid_links.specs.Links.{link_of}
use Rattle.grid_links.specs.Machine.{Awaits, Goes, Takes, Ended, Move, Moves, Over, Stuck, Waiting, Turn as TurnOf}
use Rattle.grid_links.specs.Run as run
use Rattle.grid_links.specs.Run.{World, after_turn, count_of, move_in, moves_from, moves_of, shown_by, start_world, turn_or_over}
use Rattle.grid_links.proofs.LapLemmas.{after-append, moves_of-append}
use Rattle.grid_paths.specs.Laws.{Reached}
use Rattle.grid_paths.specs.Scene.{AwaitsMessage, HasEnded, HasScene, Leads, MovesIn, OnlyMoves, RestsIn, Scene, WaitsIn}
use Rattle.grid_paths.proofs.ReachLemmas.{moving_turn, reaches_from, rests, starts, unstuck}
use Rattle.grid_paths.proofs.StuckLemmas.{stays_stuck}
use Rattle.node_form.specs.Grid.{factors_of}
use Rattle.node_form.specs.declared.tables.Tables.{Tables}
use Rattle.grid_meaning.specs.Action.{StuckKind}
use Rattle.grid_meaning.specs.Grid.{Grid, HasEmptyLinks, IsOver, after, after_from, given_turn, next_turn, printed_by, shown_in, start_grid, system_over}
use Rattle.grid_meaning.specs.Local.{Local, processors, start_local}
use Rattle.grid_meaning.specs.Order.{IsOrder}
use Rattle.grid_meaning.specs.State.{HasThree, IsLocal, NextHasThree}
use Rattle.grid_meaning.specs.Turn.{fed, Turn, act, act_at, unless_ended}
use Rattle.grid_meaning.proofs.GridLemmas.{world-after}
use Rattle.grid_meaning.proofs.WorldLemmas.{IsOver-world}
use Rattle.row_orders.proofs.StarLemmas.{processor_count}
use Rattle.row_runs.specs.Run.{Ends, Result}
use Rattle.plan_meaning.specs.Abreast.{Abreast, start_abreast}
use Rattle.plan_orders.specs.Brings.{IsLimited, LeadsTo, in_front, standing_at}
use Rattle.plan_orders.proofs.ReachLemmas.{order_kept, slot_fits}
use Rattle.node_form.specs.Fits.{Fits}
use Rattle.grid_paths.proofs.RoundLemmas.{leads_nowhere, leads_through}
use Rattle.plan_orders.proofs.TestLemmas.{all_at}
use Rattle.plan_orders.specs.InStep.{IsInStep, least_moves}
use Rattle.plan_orders.proofs.PlanLemmas.{AllMove, AllRest, Arrives, AtEnd, AtLoop, AtRow, AtWait, Onward}

-- ---- what a grid has printed is what processor 0 has shown
shown_first : (p : ℕ) (turn : Turn)
    → printed_by p (shown_in turn) ≡ shown_by (move_in (p == 0) turn)
shown_first zero (Moves move) = sym (append-nil move.shown)
shown_first zero Waiting = refl
shown_first zero Over = refl
shown_first zero (Stuck kind) = refl
shown_first (suc p) turn =
    sym (ap (λ b. shown_by (move_in b turn)) (ne_eqb (suc p) 0 (λ same. cc)))

printed_from : (code : Tables) (links : Option ℕ) (grid : Grid) (order : List ℕ)
    → (after_from code links grid order).printed
    ≡ grid.printed ++ shown_by (moves_from (system_over code links) grid.world order 0)
printed_from code links grid [] = sym (append-nil grid.printed)
printed_from code links grid (p ∷ order) =
    printed_from code links (given_turn code links grid p) order
    ∙ (append_assoc grid.printed (printed_by p (shown_in (next_turn code links grid p)))
    (shown_by (moves_from (system_over code links) (given_turn code links grid p).world order 0))
    ∙ ap (λ l. grid.printed ++ l)
    (ap (λ l. l ++ shown_by (moves_from (system_over code links)
    (given_turn code links grid p).world order 0)) (shown_first p (next_turn code links grid p))
    ∙ sym (flat_map-append (λ m. m.shown) (move_in (p == 0) (next_turn code links grid p))
    (moves_from (system_over code links) (given_turn code links grid p).world order 0))))

pub printed_is : (code : Tables) (links : Option ℕ) (order : List ℕ)
    → (after code links order).printed ≡ shown_by (moves_of (system_over code links) order 0)
printed_is code links order = printed_from code links (start_grid code) order

-- ---- elements of lists
numbered : {X : Type 0} (f : ℕ → X) (a n p : ℕ) → p < n
    → slice_get (map f (range_with_len a n)) p ≡ Some (f (a + p))
numbered f a zero p below = absurd (omega (arith, below))
numbered f a (suc n) zero below =
    let same : a ≡ a + 0 = omega arith in ap (λ k. Some (f k)) same
numbered f a (suc n) (suc p) below =
    let same : a + 1 + p ≡ a + suc p = omega arith in
    numbered f (a + 1) n p (omega (arith, below)) ∙ ap (λ k. Some (f k)) same

numbered_back : {X : Type 0} (f : ℕ → X) (a n p : ℕ) (x : X)
    → slice_get (map f (range_with_len a n)) p ≡ Some x → (p < n) × (f (a + p) ≡ x)
numbered_back f a zero p x e = cc
numbered_back f a (suc n) zero x e =
    let same : f a ≡ x = cc in
    let none : a + 0 ≡ a = omega arith in
    (omega arith, ap f none ∙ same)
numbered_back f a (suc n) (suc p) x e =
    let (below, is) = numbered_back f (a + 1) n p x e in
    let same : a + suc p ≡ a + 1 + p = omega arith in
    (omega (arith, below), ap f same ∙ is)

some_processors : (grid : List ℕ) (count : ℕ) → 0 < count
    → 0 < fold (λ so_far factor. so_far * factor) count (factors_of grid)
some_processors [] count some = some
some_processors (zero ∷ grid) count some = some
some_processors (suc n ∷ grid) count some =
    some_processors grid (count * suc n) (more count n some)
  where
    more : (count n : ℕ) → 0 < count → 0 < count * suc n
    more zero n some = absurd (omega (arith, some))
    more (suc count) n some = omega arith

-- ---- orders of moves are orders of processors
here_below : {L M K : Type 0} (system : run.System L M K) (world : World L M) (p : ℕ)
    (move : Move L M) → run.next_turn system world p ≡ Moves move → p < length world.locals
here_below {L = L} {K = K} system world p move turn = by world.locals p refl turn
  where
    long : (locals : List L) (p : ℕ) (local : L) → slice_get locals p ≡ Some local
        → p < length locals
    long [] p local e = cc
    long (first ∷ locals) zero local e = omega arith
    long (first ∷ locals) (suc p) local e =
        let less = long locals p local e in omega (arith, less)

    by : (locals : List L) (q : ℕ) → slice_get world.locals p ≡ slice_get locals q
        → turn_or_over system world p (slice_get locals q) ≡ Moves move → q < length locals
    by locals q same turn = each (slice_get locals q) refl turn
      where
        each : (o : Option L) → slice_get locals q ≡ o → turn_or_over system world p o ≡ Moves move
            → q < length locals
        each None is turn = cc
        each (Some local) is turn = long locals q local is

same_length : {L M K : Type 0} (count p : ℕ) (turn : TurnOf L M K) (world : World L M)
    → length (after_turn count p turn world).locals ≡ length world.locals
same_length count p (Moves move) world = length-set world.locals p move.next
same_length count p Waiting world = refl
same_length count p Over world = refl
same_length count p (Stuck kind) world = refl

moves_below : {L M K : Type 0} (system : run.System L M K) (count : ℕ) (order : List ℕ)
    (world : World L M) → length world.locals ≡ count → OnlyMoves system world order
    → All (λ p. p < count) order
moves_below system count [] world size moves = All-nil (λ p. p < count)
moves_below system count (p ∷ order) world size (move, turn, rest) =
    All-cons (λ p. p < count) p order
    (subst (λ n. p < n) size (here_below system world p move turn))
    (moves_below system count order (run.given_turn system world p)
    (same_length (count_of system) p (run.next_turn system world p) world ∙ size) rest)

-- ---- links without messages
all_empty : {M : Type 0} (count : ℕ) (links : List (List M)) → length links ≡ count * count
    → ((p q : ℕ) → p < count → q < count → link_of count links p q ≡ [])
    → All (λ link. link ≡ []) links
all_empty count links many empty = λ i d less.
    let number : i / count * count + i % count ≡ i = div-add-mod' i count in
    let low : i < count * count = subst (λ n. i < n) many less in
    let positive : 0 < count = some count i low in
    let from_below : i / count < count =
    (div-lt_iff_lt-mul {k = count} {x = i} {y = count} positive).1 low in
    get_or_default links i d [] less
    ∙ (sym (ap (λ k. get_or links k []) number)
    ∙ empty (i / count) (i % count) from_below (mod-lt i positive))
  where
    some : (count i : ℕ) → i < count * count → 0 < count
    some zero i low = absurd (omega (arith, low))
    some (suc count) i low = omega arith

-- ---- a processor that has ended
ended_act : (code : Tables) (p : ℕ) (local : Local) (ending : End) → local.ended ≡ Some ending
    → act code p local ≡ Ended
ended_act code p local ending is =
    ap (λ ended. unless_ended ended (act_at code p local (slice_get code.code local.at))) is

module _ (code : Tables) (links : Option ℕ) where
  abbrev system : run.System Local Message StuckKind
  system = system_over code links

  abbrev count : ℕ
  count = count_of (system_over code links)

  first_below : 0 < count
  first_below =
      subst (λ n. 0 < n) (sym (processor_count code links))
      (some_processors code.grid 1 (omega arith))

  start_is : HasScene count (start_world system) (in_front 0 (start_abreast code))
  start_is =
      starts system (in_front 0 (start_abreast code))
      (λ p below. numbered (start_local code) 0 (processors code) p
      (subst (λ n. p < n) (processor_count code links) below)
      ∙ ap (λ k. Some (start_local code k)) (from_zero p))
      (λ p q a b. refl)
    where
      from_zero : (p : ℕ) → 0 + p ≡ p
      from_zero p = omega arith

  -- ---- who awaits a message rests, also over links of any number of messages
  rests_or : {scene : Scene Local Message} {p : ℕ} {B : Type 0}
      → WaitsIn system scene p ⊎ B → RestsIn system scene p ⊎ B
  rests_or (inl waits) = inl (AwaitsMessage waits)
  rests_or (inr other) = inr other

  awaits_freely : (order : List ℕ) (scene : Scene Local Message)
      → HasScene count (run.after system order) scene → (p : ℕ) → p < count
      → WaitsIn system scene p → run.Rests (system_over code None) (run.after system order) p
  awaits_freely order scene has p below waits =
      rests (system_over code None) (run.after system order) scene has p below
      (AwaitsMessage (record {
        from = waits.from;
        from_below = waits.from_below;
        awaits = waits.awaits;
        empty = waits.empty;
      }))

  -- ---- nobody is stuck where some order leads on
  not_stuck : (order : List ℕ) (scene : Scene Local Message)
      → HasScene count (run.after system order) scene → Onward code links scene
      → run.IsStuck system (run.after system order) → ⊥
  not_stuck order scene has (AllMove many shown leads each) stuck =
      let comes = leads (run.after system order) has in
      let (still, same) = stays_stuck system order comes.order stuck.process stuck.kind stuck.there
      stuck.stuck in
      let long = length-append (moves_of system order stuck.process)
      (moves_from system (run.after system order) comes.order stuck.process) in
      let joined = ap length (moves_of-append system order comes.order stuck.process) in
      let alike = ap length same in
      let moved = comes.moved stuck.process stuck.there in
      let enough = each stuck.process stuck.there in
      omega (arith, long, joined, alike, moved, enough)
  not_stuck order scene has (AllRest {least = least} wait) stuck =
      let comes = wait.leads (run.after system order) has in
      let (still, same) = stays_stuck system order comes.order stuck.process stuck.kind stuck.there
      stuck.stuck in
      unstuck system (run.after_from system (run.after system order) comes.order) wait.other
      comes.arrives stuck.process stuck.there least (wait.many stuck.process) stuck.kind
      (rests_or (wait.each stuck.process stuck.there))
      (sym (ap (λ world. run.next_turn system world stuck.process)
      (after-append system order comes.order)) ∙ still)

  -- ---- what a world shows is what its grid does
  over_grid : (order : List ℕ) → run.IsOver system (run.after system order)
      → IsOver (after code links order)
  over_grid order over =
      (IsOver-world code links order).1
      (subst (run.IsOver system) (sym (world-after code links order)) over)

  over_world : (order : List ℕ) → IsOver (after code links order)
      → run.IsOver system (run.after system order)
  over_world order over =
      subst (run.IsOver system) (world-after code links order)
      ((IsOver-world code links order).0 over)

  goes_not_over : (order : List ℕ) (scene : Scene Local Message)
      → HasScene count (run.after system order) scene → (scene.locals 0).ended ≡ None
      → IsOver (after code links order) → ⊥
  goes_not_over order scene has running over =
      let here : slice_get (after code links order).world.locals 0 ≡ Some (scene.locals 0) =
      ap (λ world. slice_get world.locals 0) (world-after code links order)
      ∙ has.local 0 first_below in
      let ended : IsSome (scene.locals 0).ended =
      all_at (λ local. IsSome local.ended) (after code links order).world.locals 0
      (scene.locals 0) over here in
      none_some (scene.locals 0).ended running ended
    where
      none_some : (o : Option End) → o ≡ None → IsSome o → ⊥
      none_some None e some = cc
      none_some (Some x) e some = cc

  orders_below : (order : List ℕ) → OnlyMoves system (start_world system) order
      → IsOrder (processors code) order
  orders_below order moves =
      subst (λ n. IsOrder n order) (processor_count code links)
      (moves_below system count order (start_world system) refl moves)

  empty_links : (order : List ℕ) (scene : Scene Local Message)
      → HasScene count (run.after system order) scene
      → ((p q : ℕ) → p < count → q < count → scene.links p q ≡ [])
      → HasEmptyLinks (after code links order)
  empty_links order scene has quiet =
      subst (λ world. All (λ link. link ≡ []) world.links) (sym (world-after code links order))
      (all_empty count (run.after system order).links has.many
      (λ p q a b. has.link p q a b ∙ quiet p q a b))

  -- ---- where a run comes
  pub in_step : (n left bound most : ℕ) (stops : Bool) → bound ≤ least_moves stops left n
      → (result : Result)
      → Arrives code links n left (All (HasThree code) code.code) most
      (in_front 0 (start_abreast code)) stops result
      → (order : List ℕ) × IsInStep code links result bound most order
  in_step n left bound most stops few result (AtEnd {bytes = bytes} {ending = ending} end) =
      let reached : Reached system end.over end.brings.many end.brings.shown bound =
      reaches_from system (in_front 0 (start_abreast code)) end.over end.brings.many
      end.brings.shown bound start_is end.brings.leads
      (λ p below. inl (HasEnded (ended_act code p (end.over.locals p) ending
      (end.ended p below)))) in (
        reached.order,
        record {
          turns = orders_below reached.order reached.only_moves;
          only_moves = reached.only_moves;
          printed =
              printed_is code links reached.order
              ∙ (reached.shows 0 first_below ∙ end.brings.printed);
          ends = λ other same last.
              let alike : ending ≡ other = cc in (
                record {
                  over =
                      over_grid reached.order (reached.over (λ p below.
                      ended_act code p (end.over.locals p) ending (end.ended p below)));
                  first =
                      ap (λ world. option_and_then (λ local. local.ended)
                      (slice_get world.locals 0)) (world-after code links reached.order)
                      ∙ (ap (option_and_then (λ local. local.ended))
                      (reached.arrives.local 0 first_below)
                      ∙ (end.ended 0 first_below ∙ ap Some alike));
                },
                empty_links reached.order end.over reached.arrives end.quiet,
              );
          goes_on = λ more. absurd (end.last (wanted ending more));
          reaches = reached.reaches;
          freely = λ p below. inl
              (rests (system_over code None) (run.after system reached.order) end.over
              reached.arrives p below
              (HasEnded (ended_act code p (end.over.locals p) ending (end.ended p below))));
          one_moved = λ more. absurd (end.last (wanted ending more));
          few = λ three last p below.
              let inside = subst (λ k. p < k) (sym (processor_count code links)) below in
              let moved = reached.moved p inside in
              let less = end.brings.few three p inside in
              omega (arith, moved, less);
        },
      )
    where
      wanted : (ending : End) → Ends ending ≡ Ends More → ending ≡ More
      wanted ending e = cc
  in_step n left bound most stops few result (AtWait {bytes = bytes} wait) =
      let reached : Reached system wait.other wait.many wait.shown bound =
      reaches_from system (in_front 0 (start_abreast code)) wait.other wait.many
      wait.shown bound start_is wait.leads
      (λ p below. less (wait.many p) (rests_or (wait.each p below))) in (
        reached.order,
        record {
          turns = orders_below reached.order reached.only_moves;
          only_moves = reached.only_moves;
          printed =
              printed_is code links reached.order
              ∙ (reached.shows 0 first_below ∙ wait.printed);
          ends = λ other same last. let alike : More ≡ other = cc in absurd (last (sym alike));
          goes_on = λ more over.
              let moves = moving_turn system (run.after system reached.order) wait.other
              reached.arrives wait.longest wait.longest_below wait.longest_goes in
              let stays = over_world reached.order over wait.longest wait.longest_below in
              let clash = sym moves ∙ stays in
              cc;
          reaches = reached.reaches;
          freely = λ p below.
              freely reached.order reached.arrives p below (reached.moved p below)
              (wait.each p below);
          one_moved = λ more. (
            wait.longest,
            subst (λ n. wait.longest < n) (processor_count code links) wait.longest_below,
            (let moved = reached.moved wait.longest wait.longest_below in
                let long = wait.longest_moves in
                omega (arith, moved, long, few)),
          );
          few = λ three last. absurd (last refl);
        },
      )
    where
      less : {A B : Type 0} (many : ℕ) → A ⊎ ((n ≤ many) × B) → A ⊎ ((bound ≤ many) × B)
      less many (inl rests) = inl rests
      less many (inr (enough, moves)) = inr (omega (arith, enough, few), moves)

      freely : (order : List ℕ) → HasScene count (run.after system order) wait.other → (p : ℕ)
          → p < count → length (moves_of system order p) ≡ wait.many p
          → WaitsIn system wait.other p
          ⊎ ((n ≤ wait.many p) × MovesIn system wait.other p)
          → run.Rests (system_over code None) (run.after system order) p
          ⊎ (bound ≤ length (moves_of system order p))
      freely order has p below moved (inl waits) =
          inl (awaits_freely order wait.other has p below waits)
      freely order has p below moved (inr (enough, moves)) = inr (omega (arith, moved, enough, few))
  in_step n left bound most stops low result
      (AtLoop {bytes = bytes} {stop = stop} there after_it wanting brings onward) =
      let comes = brings.leads (start_world system) start_is in (
        comes.order,
        record {
          turns = orders_below comes.order comes.only_moves;
          only_moves = comes.only_moves;
          printed =
              printed_is code links comes.order ∙ (comes.shows 0 first_below ∙ brings.printed);
          ends = λ other same last. absurd (last (wanting other same));
          goes_on = λ more over.
              goes_not_over comes.order (in_front there after_it) comes.arrives refl over;
          reaches = record {
            moved = λ p below. inr
                (let moved = comes.moved p below in
                let enough = brings.enough p below in
                omega (arith, moved, enough, low));
            not_stuck = not_stuck comes.order (in_front there after_it) comes.arrives onward;
          };
          freely = λ p below. inr
              (let moved = comes.moved p below in
              let enough = brings.enough p below in
              omega (arith, moved, enough, low));
          one_moved = λ more. (
            0,
            subst (λ n. 0 < n) (processor_count code links) first_below,
            (let moved = comes.moved 0 first_below in
                let enough = brings.enough 0 first_below in
                omega (arith, moved, enough, low)),
          );
          few = λ three last p below.
              let inside = subst (λ k. p < k) (sym (processor_count code links)) below in
              let moved = comes.moved p inside in
              let less = brings.few three p inside in
              omega (arith, moved, less);
        },
      )
  in_step n left bound most stops low result (AtRow {bytes = bytes} there after_it brings onward) =
      let comes = brings.leads (start_world system) start_is in (
        comes.order,
        record {
          turns = orders_below comes.order comes.only_moves;
          only_moves = comes.only_moves;
          printed =
              printed_is code links comes.order ∙ (comes.shows 0 first_below ∙ brings.printed);
          ends = λ other same last. let alike : More ≡ other = cc in absurd (last (sym alike));
          goes_on = λ more over.
              goes_not_over comes.order (in_front there after_it) comes.arrives refl over;
          reaches = record {
            moved = λ p below. inr
                (let moved = comes.moved p below in
                let enough = brings.enough p below in
                omega (arith, moved, enough, low));
            not_stuck = not_stuck comes.order (in_front there after_it) comes.arrives onward;
          };
          freely = λ p below. inr
              (let moved = comes.moved p below in
              let enough = brings.enough p below in
              omega (arith, moved, enough, low));
          one_moved = λ more. (
            0,
            subst (λ n. 0 < n) (processor_count code links) first_below,
            (let moved = comes.moved 0 first_below in
                let enough = brings.enough 0 first_below in
                omega (arith, moved, enough, low)),
          );
          few = λ three last. absurd (last refl);
        },
      )

  -- ---- in front of a row to which an order leads, regions are limited
  pub record Reach (at : ℕ) (all : Abreast) : Type 0 where
    pub many : ℕ → ℕ
    pub shown : ℕ → List ℕ
    pub leads : Leads system (in_front 0 (start_abreast code)) (in_front at all) many shown

  pub start_reach : Reach 0 (start_abreast code)
  start_reach = record {
    many = λ p. 0;
    shown = λ p. [];
    leads = leads_nowhere system (in_front 0 (start_abreast code))
        (in_front 0 (start_abreast code))
        (record { local = λ p below. refl; link = λ p q a b. refl });
  }

  pub reach_on : (n at there : ℕ) (all next : Abreast) (bytes : List ℕ) → Reach at all
      → LeadsTo code links n all (in_front at all) (in_front there next) bytes → Reach there next
  reach_on n at there all next bytes reach brings = record {
    many = λ p. reach.many p + brings.many p;
    shown = λ p. reach.shown p ++ brings.shown p;
    leads =
        leads_through system (in_front 0 (start_abreast code)) (in_front at all)
        (in_front there next) reach.many brings.many reach.shown brings.shown reach.leads
        brings.leads;
  }

  module _ (fits : Fits code)
      (start_kept : (p : ℕ) → p < processors code → IsLocal code p (start_local code p))
      (moves_keep : (p : ℕ) (local next : Local) (sent : Option (ℕ × Message)) (shown : List ℕ)
      → NextHasThree code local → IsLocal code p local
      → act code p local ≡ Goes next sent shown → IsLocal code p next)
      (messages_keep : (p : ℕ) (local next : Local) (from : ℕ) (message : Message)
      → IsLocal code p local → act code p local ≡ Awaits from
      → fed code p local message ≡ Takes next → IsLocal code p next) where
    start_locals_are : (p : ℕ) (local : Local)
        → slice_get (start_world system).locals p ≡ Some local → IsLocal code p local
    start_locals_are p local here =
        let (below, is) = numbered_back (start_local code) 0 (processors code) p local here in
        subst (IsLocal code p) (ap (start_local code) (from_zero p) ∙ is) (start_kept p below)
      where
        from_zero : (p : ℕ) → p ≡ 0 + p
        from_zero p = omega arith

    pub reach_limits : All (HasThree code) code.code → (at : ℕ) (all : Abreast) → Reach at all
        → IsLimited code all
    reach_limits three at all reach =
        let comes = reach.leads (start_world system) start_is in
        let kept = order_kept code links three moves_keep messages_keep comes.order
        (start_world system) start_locals_are comes.only_moves in
        record {
          count = fits.grid.few;
          regions = λ p slot region below here.
              (slot_fits code.slots (all.shares p).slots
              (kept p (standing_at at (all.shares p))
              (comes.arrives.local p (subst (λ k. p < k) (sym (processor_count code links)) below))
              ).parts.slots slot region here).limit.points;
        }
