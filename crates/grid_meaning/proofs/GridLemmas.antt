-- What a turn and an order keep of a grid.
use Rattle.std.proofs.Common.{◌≡◌, ℕ, zero, suc, ◌+◌, ◌-◌, ◌%◌, ◌<◌, Bool, true, false, cond, nat_lt, get_or, List, [], ◌∷◌, ◌++◌, length, Option, Some, None, IsSome, refl, sym, ◌∙◌, ap, subst, arith, append_assoc, length-set, length-append, add-zero}
use Rattle.std.proofs.lemmas.List.{append-nil, length-map}
use Rattle.std.proofs.lemmas.List.Sums.{fold-append}
use Rattle.std.proofs.lemmas.List.Elements.{All-head, All-tail, All-nil, All-cons, All-append}
use Rattle.std.proofs.lemmas.Bool.Decides.{nat_tests}
use Rattle.std.proofs.Math.Nat.{mod-lt}
use Rattle.std.specs.List.{All, slice_get, range_with_len}
use Rattle.grid_links.specs.of_zpl_lists.Front.{IsFrontOf}
use Rattle.node_form.specs.of_zpl_nums.declared.ends.End.{End}
use Rattle.grid_links.specs.Machine.{Ended, Moves, Waiting, Over, Stuck, over_links}
use Rattle.grid_links.specs.declared.messages.Message.{Message}
use Rattle.grid_links.specs.Run as run
use Rattle.node_form.specs.declared.tables.Tables.{Tables}
use Rattle.grid_meaning.specs.Action.{Action}
use Rattle.grid_meaning.specs.Local.{Local, start_local, start_locals, processors, processor_numbers}
use Rattle.grid_meaning.specs.Turn.{Turn, act_at, fed, unless_ended}
use Rattle.grid_meaning.specs.Grid.{Grid, system_over, start_grid, printed_by, shown_in, next_turn, counting, given_turn, after_from, after, IsOver}
use Rattle.grid_meaning.specs.Order.{IsOrder, turn_number, given}

-- ---- an order
-- a turn more at the end of an order
pub after-push : (code : Tables) (links : Option ℕ) (order : List ℕ) (p : ℕ)
    → after code links (order ++ p ∷ []) ≡ given_turn code links (after code links order) p
after-push code links order p = fold-append (given_turn code links) (start_grid code) order (p ∷ [])

pub after-append : (code : Tables) (links : Option ℕ) (order more : List ℕ)
    → after code links (order ++ more) ≡ after_from code links (after code links order) more
after-append code links order more = fold-append (given_turn code links) (start_grid code) order more

-- the world of a grid goes on as the processors' world does
world-after_from : (code : Tables) (links : Option ℕ) (grid : Grid) (order : List ℕ)
    → (after_from code links grid order).world ≡ run.after_from (system_over code links) grid.world order
world-after_from code links grid [] = refl
world-after_from code links grid (p ∷ order) = world-after_from code links (given_turn code links grid p) order

pub world-after : (code : Tables) (links : Option ℕ) (order : List ℕ)
    → (after code links order).world ≡ run.after (system_over code links) order
world-after code links order = world-after_from code links (start_grid code) order

-- ---- what is printed
IsFrontOf-after_from : (code : Tables) (links : Option ℕ) (grid : Grid) (order : List ℕ)
    → IsFrontOf grid.printed (after_from code links grid order).printed
IsFrontOf-after_from code links grid [] = record { rest = []; joins = sym (append-nil grid.printed) }
IsFrontOf-after_from code links grid (p ∷ order) =
    let bytes = printed_by p (shown_in (next_turn code links grid p)) in
    let rest = IsFrontOf-after_from code links (given_turn code links grid p) order in
    record {
      rest = bytes ++ rest.rest;
      joins = rest.joins ∙ append_assoc grid.printed bytes rest.rest;
    }

pub IsFrontOf-after : (code : Tables) (links : Option ℕ) (order more : List ℕ)
    → IsFrontOf (after code links order).printed (after code links (order ++ more)).printed
IsFrontOf-after code links order more =
    subst (λ (g : Grid). IsFrontOf (after code links order).printed g.printed)
    (sym (after-append code links order more)) (IsFrontOf-after_from code links (after code links order) more)

-- ---- counts
turns-after_from : (code : Tables) (links : Option ℕ) (grid : Grid) (order : List ℕ)
    → (after_from code links grid order).turns ≡ grid.turns + length order
turns-after_from code links grid [] = omega arith
turns-after_from code links grid (p ∷ order) =
    let rest = turns-after_from code links (given_turn code links grid p) order in
    omega arith

pub turns-after : (code : Tables) (links : Option ℕ) (order : List ℕ)
    → (after code links order).turns ≡ length order
turns-after code links order = omega (arith, turns-after_from code links (start_grid code) order)

-- ---- processors
length-range : (from many : ℕ) → length (range_with_len from many) ≡ many
length-range from zero = refl
length-range from (suc many) =
    let rest = length-range (from + 1) many in
    omega arith

pub length-start_locals : (code : Tables) → length (start_locals code) ≡ processors code
length-start_locals code =
    length-map (processor_numbers code) (start_local code) ∙ length-range 0 (processors code)

length-after_turn : (count p : ℕ) (turn : Turn) (world : run.World Local Message)
    → length (run.after_turn count p turn world).locals ≡ length world.locals
length-after_turn count p (Moves move) world = length-set world.locals p move.next
length-after_turn count p Waiting world = refl
length-after_turn count p Over world = refl
length-after_turn count p (Stuck kind) world = refl

length-after_from : (code : Tables) (links : Option ℕ) (grid : Grid) (order : List ℕ)
    → length (after_from code links grid order).world.locals ≡ length grid.world.locals
length-after_from code links grid [] = refl
length-after_from code links grid (p ∷ order) =
    length-after_from code links (given_turn code links grid p) order
    ∙ length-after_turn (run.count_of (system_over code links)) p (next_turn code links grid p) grid.world

pub length-after : (code : Tables) (links : Option ℕ) (order : List ℕ)
    → length (after code links order).world.locals ≡ processors code
length-after code links order =
    length-after_from code links (start_grid code) order ∙ length-start_locals code

-- ---- a grid that is over
unless_ended-some : (ended : Option End) (action : Action) → IsSome ended → unless_ended ended action ≡ Ended
unless_ended-some (Some ending) action h = refl
unless_ended-some None action h = cc

-- the turn that an action makes in a world
abbrev pub seen : Tables → Option ℕ → run.World Local Message → ℕ → Local → Action → Turn
seen code links world p local action =
    over_links (fed code p local) (run.heads_at (run.count_of (system_over code links)) world.links p)
    (run.rooms_at links (run.count_of (system_over code links)) world.links p) action

-- each turn of a processor that has ended is Over
pub over_at : (code : Tables) (links : Option ℕ) (grid : Grid) (p : ℕ) (locals : List Local) (i : ℕ)
    → All (λ local. IsSome local.ended) locals
    → run.turn_or_over (system_over code links) grid.world p (slice_get locals i) ≡ Over
over_at code links grid p [] i ended = refl
over_at code links grid p (local ∷ locals) zero ended =
    ap (seen code links grid.world p local)
    (unless_ended-some local.ended (act_at code p local (slice_get code.code local.at))
    (All-head (λ (l : Local). IsSome l.ended) local locals ended))
over_at code links grid p (local ∷ locals) (suc i) ended =
    over_at code links grid p locals i (All-tail (λ (l : Local). IsSome l.ended) local locals ended)

-- one more turn is counted
abbrev counted : Grid → Grid
counted grid = record grid { turns = grid.turns + 1 }

over_counts : (p : ℕ) (grid : Grid) → counting p Over grid grid.world ≡ counted grid
over_counts zero grid = rw (append-nil grid.printed, add-zero grid.sends, add-zero grid.words) refl
over_counts (suc p) grid = rw (append-nil grid.printed, add-zero grid.sends, add-zero grid.words) refl

given_turn-over : (code : Tables) (links : Option ℕ) (grid : Grid) (p : ℕ) → IsOver grid
    → given_turn code links grid p ≡ counted grid
given_turn-over code links grid p over =
    ap (λ turn. counting p turn grid (run.after_turn (run.count_of (system_over code links)) p turn grid.world))
    (over_at code links grid p grid.world.locals p over)
    ∙ over_counts p grid

-- a grid that is over stays as it is, but for the count of turns
after_from-over : (code : Tables) (links : Option ℕ) (grid : Grid) (order : List ℕ) → IsOver grid
    → after_from code links grid order ≡ record grid { turns = grid.turns + length order }
after_from-over code links grid [] over = ap (λ n. record grid { turns = n }) (sym (add-zero grid.turns))
after_from-over code links grid (p ∷ order) over =
    let more : grid.turns + 1 + length order ≡ grid.turns + length (p ∷ order) = omega arith in
    ap (λ g. after_from code links g order) (given_turn-over code links grid p over)
    ∙ (after_from-over code links (counted grid) order over ∙ ap (λ n. record grid { turns = n }) more)

pub after-over : (code : Tables) (links : Option ℕ) (order more : List ℕ) → IsOver (after code links order)
    → after code links (order ++ more)
    ≡ record (after code links order) { turns = (after code links order).turns + length more }
after-over code links order more over =
    after-append code links order more ∙ after_from-over code links (after code links order) more over

-- ---- orders
pub length-given : (order : List ℕ) (count k : ℕ) → length (given order count k) ≡ k
length-given order count zero = refl
length-given order count (suc k) =
    let rest = length-given order count k in
    omega (arith, length-append (given order count k) (turn_number order count k ∷ []))

turn_number-below : (order : List ℕ) (count k : ℕ) → 0 < count → IsOrder count order → turn_number order count k < count
turn_number-below order count k some below = cases (nat_lt k (length order)) refl
  where
    cases : (inside : Bool) → nat_lt k (length order) ≡ inside → cond inside (get_or order k 0) ((k - length order) % count) < count
    cases true e = below k 0 (grind (arith, nat_tests))
    cases false e = mod-lt (k - length order) some

pub IsOrder-given : (order : List ℕ) (count k : ℕ) → 0 < count → IsOrder count order → IsOrder count (given order count k)
IsOrder-given order count zero some below = All-nil (λ p. p < count)
IsOrder-given order count (suc k) some below =
    All-append (λ p. p < count) (given order count k) (turn_number order count k ∷ [])
    (IsOrder-given order count k some below)
    (All-cons (λ p. p < count) (turn_number order count k) [] (turn_number-below order count k some below) (All-nil (λ p. p < count)))
