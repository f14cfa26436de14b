-- Code with orders in step is right after every order.
use Rattle.std.proofs.Common.{◌≡◌, ◌≢◌, ℕ, suc, ◌<◌, ◌≤◌, ◌↔◌, List, [], ◌∷◌, ◌++◌, length}
use Rattle.std.proofs.Common.{sum_by, Option, refl, sym, ◌∙◌, ap, subst, arith}
use Rattle.std.proofs.Common.{All, length-append, append-nil}
use Rattle.std.proofs.lemmas.List.Sums.{sum_by-cons}
use Rattle.std.specs.List.{range_with_len}
use Rattle.std.specs.Prelude.{option_and_then, slice_get}
use Rattle.zpl_lists.specs.Front.{IsFrontOf}
use Rattle.zpl_nums.specs.declared.ends.End.{End}
use Rattle.zpl_nums.specs.declared.ends.End.TheVariants.{Done, Trap, More}
use Rattle.grid_links.specs.Laws.{Dominates, EndsAlike, EndsInLaps, NeverIdle, NeverStuck}
use Rattle.grid_links.specs.Laws.{Begins}
use Rattle.grid_links.specs.declared.messages.Message.{Message}
use Rattle.grid_links.specs.Run.{all_moves, count_of, moves_of, shown_by}
use Rattle.grid_links.specs.Run as run
use Rattle.node_form.specs.declared.tables.Tables.{Tables}
use Rattle.grid_meaning.specs.Grid.{IsIdle, IsOver, IsStuck, after}
use Rattle.grid_meaning.specs.Grid.{system_over}
use Rattle.grid_meaning.specs.Local.{Local}
use Rattle.zpl_meaning.specs.Program.{Meaning}
use Rattle.zpl_claims.specs.Good.{Finishes, IsGood, IsRight}
use Rattle.zpl_claims.specs.LockStep.{HasLockSteps, IsLockStep}
use Rattle.every_order.proofs.PrintLemmas.{printed_is}

-- what is known of the processors of code over links
pub record KnowsOrders (code : Tables) (links : Option ℕ) : Type 0 where
  pub dominates : Dominates (system_over code links)
  pub never_stuck : NeverStuck (system_over code links)
  pub never_idle : NeverIdle (system_over code links)
  pub alike : EndsAlike (system_over code links)
  pub laps : EndsInLaps (system_over code links)
  pub world : (order : List ℕ)
      → (after code links order).world ≡ run.after (system_over code links) order
  pub over : (order : List ℕ) → IsOver (after code links order)
      ↔ run.IsOver (system_over code links) (after code links order).world
  pub stuck : (order : List ℕ) → IsStuck code links (after code links order)
      ↔ run.IsStuck (system_over code links) (after code links order).world
  pub idle : (order : List ℕ) → IsIdle code links (after code links order)
      ↔ run.IsIdle (system_over code links) (after code links order).world

-- ---- sums
sum_grows : (f g : ℕ → ℕ) (ps : List ℕ) → ((p : ℕ) → f p ≤ g p) → sum_by f ps ≤ sum_by g ps
sum_grows f g [] below = omega arith
sum_grows f g (p ∷ ps) below =
    omega (arith, below p, sum_grows f g ps below, sum_by-cons f p ps, sum_by-cons g p ps)

front_shorter : {X : Type 0} (front whole : List X) → IsFrontOf front whole
    → length front ≤ length whole
front_shorter front whole is =
    omega (arith, ap length is.joins, length-append front is.rest)

pub world_over : (code : Tables) (links : Option ℕ) → KnowsOrders code links → (order : List ℕ)
    → IsOver (after code links order)
    → run.IsOver (system_over code links) (run.after (system_over code links) order)
world_over code links knows order over =
    subst (run.IsOver (system_over code links)) (knows.world order) ((knows.over order).0 over)

pub grid_over : (code : Tables) (links : Option ℕ) → KnowsOrders code links → (order : List ℕ)
    → run.IsOver (system_over code links) (run.after (system_over code links) order)
    → IsOver (after code links order)
grid_over code links knows order over =
    (knows.over order).1
    (subst (run.IsOver (system_over code links)) (sym (knows.world order)) over)

-- where one order ends all, so does another under which each has made as many moves
ends_too : (code : Tables) (links : Option ℕ) → KnowsOrders code links → (w x : List ℕ)
    → run.IsOver (system_over code links) (run.after (system_over code links) w)
    → Begins (system_over code links) w x
    → run.IsOver (system_over code links) (run.after (system_over code links) x)
ends_too code links knows w x over begins =
    let system = system_over code links in
    let fewer = sum_grows (λ p. length (moves_of system w p)) (λ p. length (moves_of system x p))
    (range_with_len 0 (count_of system)) (λ p. front_shorter _ _ (begins.moves p)) in
    let plain : x ++ [] ++ [] ≡ x = append-nil (x ++ []) ∙ append-nil x in
    subst (λ order. run.IsOver system (run.after system order)) plain
    (knows.laps w x [] 0 over (omega (arith, fewer)))

-- how the first one ended
abbrev first_in : run.World Local Message → Option End
first_in world = option_and_then (λ local. local.ended) (slice_get world.locals 0)

-- ---- an order in step, and one of as many turns as its bound
module _ (code : Tables) (links : Option ℕ) (knows : KnowsOrders code links) (mean : ℕ → Meaning)
    (steps : HasLockSteps code links mean) (w : List ℕ) where
  abbrev bound : ℕ
  bound = length w

  abbrev in_step : List ℕ
  in_step = (steps bound).0

  step : IsLockStep code links (mean bound) bound in_step
  step = (steps bound).1

  begins : Begins (system_over code links) w in_step
  begins = knows.dominates in_step w bound step.reaches (omega arith)

  -- ---- none is stuck
  not_stuck : IsStuck code links (after code links w) → ⊥
  not_stuck stuck =
      knows.never_stuck in_step w bound step.reaches (omega arith)
      (subst (run.IsStuck (system_over code links)) (knows.world w) ((knows.stuck w).0 stuck))

  -- ---- they don't rest before their end: not with one turn more
  module _ (further : IsLockStep code links (mean (suc bound)) (suc bound) (steps (suc bound)).0)
    where
      abbrev beyond : List ℕ
      beyond = (steps (suc bound)).0

      abbrev OneMore : Type 0
      OneMore =
          (p : ℕ) × (bound < length (moves_of (system_over code links) beyond p))

      ended : (mean (suc bound)).ending ≢ More
          → run.IsIdle (system_over code links) (run.after (system_over code links) beyond)
          → OneMore
      ended within idle =
          absurd (idle.not_over (world_over code links knows beyond (further.ends within).ending.over))

      moved : (mean (suc bound)).ending ≡ More → OneMore
      moved more =
          let one = further.one_moved more in (one.0, omega (arith, one.2))

      one_more : (ending : End) → (mean (suc bound)).ending ≡ ending
          → run.IsIdle (system_over code links) (run.after (system_over code links) beyond)
          → OneMore
      one_more Done is idle = ended (λ more. done_not_more (sym is ∙ more)) idle
        where
          done_not_more : Done ≢ More
          done_not_more e = cc
      one_more (Trap kind line) is idle = ended (λ more. trap_not_more (sym is ∙ more)) idle
        where
          trap_not_more : Trap kind line ≢ More
          trap_not_more e = cc
      one_more More is idle = moved is

  not_idle : IsIdle code links (after code links w) → ⊥
  not_idle idle =
      let further = (steps (suc bound)).1 in
      knows.never_idle (steps (suc bound)).0 w (suc bound) further.reaches (omega arith)
      (one_more further (mean (suc bound)).ending refl)
      (subst (run.IsIdle (system_over code links)) (knows.world w) ((knows.idle w).0 idle))

  -- ---- what is printed
  printed : IsFrontOf (after code links w).printed (mean bound).bytes
  printed =
      let shown = begins.shown 0 in
      subst (λ front. IsFrontOf front (mean bound).bytes) (sym (printed_is code links w))
      (subst (IsFrontOf (shown_by (moves_of (system_over code links) w 0)))
      (sym (printed_is code links in_step) ∙ step.printed) shown)

  -- ---- where all have ended
  finishes : IsOver (after code links w) → Finishes (mean bound) (after code links w)
  finishes over =
      let system = system_over code links in
      let here = world_over code links knows w over in
      let there = ends_too code links knows w in_step here begins in
      let within : (mean bound).ending ≢ More =
      λ more. step.goes_on more (grid_over code links knows in_step there) in
      let finish = step.ends within in
      let same = knows.alike in_step w there here in
      let world : (after code links in_step).world ≡ (after code links w).world =
      knows.world in_step ∙ same.world ∙ sym (knows.world w) in
      record {
        within = within;
        all = printed_is code links w
            ∙ ap shown_by (sym (same.moves 0))
            ∙ sym (printed_is code links in_step)
            ∙ step.printed;
        ending = record {
          over = over;
          first = sym (ap first_in world) ∙ finish.ending.first;
        };
        links = subst (λ world. All (λ link. link ≡ []) (run.World.links world)) world finish.links;
      }

  is_right : IsRight code links (mean bound) (after code links w)
  is_right = record {
    not_stuck = not_stuck;
    not_idle = not_idle;
    printed = printed;
    finishes = finishes;
  }

pub good : (code : Tables) (links : Option ℕ) → KnowsOrders code links → (mean : ℕ → Meaning)
    → HasLockSteps code links mean → IsGood code links mean
good code links knows mean steps order is = is_right code links knows mean steps order
