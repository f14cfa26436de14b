-- What each turn keeps, from the start of a program on.
use Rattle.std.proofs.Common.{◌≡◌, ◌≢◌, ℕ, zero, suc, ◌*◌, ◌<◌, true, nat_lt, ℤ, List, [], ◌∷◌, length, drop, map, replicate, refl, sym, ap, ◌∙◌, subst, length-set}
use Rattle.std.specs.Prelude.{Option, Some, None, All, slice_get, slice_set, slice_index_or, ⊤}
use Rattle.std.specs.Option.{IfSome}
use Rattle.std.proofs.lemmas.Bool.{and_parts, ltb-true}
use Rattle.std.proofs.lemmas.List.{length-replicate}
use Rattle.std.proofs.lemmas.List.Elements.{All-nil, All-cons, All-head, All-tail}
use Rattle.grid_meaning.specs.of_node_form.declared.tables.Tables.{Tables}
use Rattle.zpl_nums.specs.declared.ends.End.{End}
use Rattle.zpl_nums.specs.declared.ends.End.TheVariants.{Done, More, Trap}
use Rattle.grid_links.specs.declared.messages.Message.{Message}
use Rattle.grid_links.specs.Links.{link_number, link_of}
use Rattle.grid_links.specs.Machine.{Moves, Waiting, Over, Stuck}
use Rattle.grid_links.specs.Run as run
use Rattle.grid_links.proofs.LinkLemmas.{number-from, number-to}
use Rattle.grid_meaning.specs.Grid.{Grid, after_from, given_turn, start_grid, system_over}
use Rattle.grid_meaning.specs.Local.{Local, processor_numbers, processors, start_local, start_locals}
use Rattle.grid_meaning.specs.Order.{given}
use Rattle.grid_meaning.specs.Turn.{Turn}
use Rattle.grid_meaning.proofs.GridLemmas.{length-start_locals}
use Rattle.grid_runs.specs.Run.{Run, grid_at}
use Rattle.grid_save.specs.Kept.{IsEnding}
use Rattle.grid_save.specs.Onward.{IsOnward}
use Rattle.grid_save.specs.Saved.{IsSaveable}
use Rattle.saved_runs.proofs.ActLemmas.{IsFine, TurnsWell, turn_fine}
use Rattle.saved_runs.proofs.OtherLemmas.{keeps_others}

-- ---- own links
set_empty : {M : Type 0} (links : List (List M)) (n m : ℕ) (link : List M) → slice_index_or links m [] ≡ []
    → (n ≡ m → link ≡ []) → slice_index_or (slice_set links n link) m [] ≡ []
set_empty [] n m link empty is = empty
set_empty (first ∷ links) zero zero link empty is = is refl
set_empty (first ∷ links) zero (suc m) link empty is = empty
set_empty (first ∷ links) (suc n) zero link empty is = empty
set_empty (first ∷ links) (suc n) (suc m) link empty is = set_empty links n m link empty (λ same. is (ap suc same))

abbrev OwnEmpty : ℕ → List (List Message) → Type 0
OwnEmpty count links = (q : ℕ) → q < count → link_of count links q q ≡ []

own_taken : (count p : ℕ) (taken : Option ℕ) (links : List (List Message)) → OwnEmpty count links
    → OwnEmpty count (run.links_taken count p taken links)
own_taken count p None links own = own
own_taken count p (Some from) links own = λ q below.
    set_empty links (link_number count from p) (link_number count q q) _ (own q below)
    (λ same. ap (drop 1) (ap (λ n. slice_index_or links n []) same ∙ own q below))

-- a message is sent to another one
abbrev ToOther : ℕ → ℕ → Option (ℕ × Message) → Type 0
ToOther count p sent = IfSome sent (λ one. (one.0 ≢ p) × (one.0 < count))

own_sent : (count p : ℕ) (sent : Option (ℕ × Message)) (links : List (List Message)) → ToOther count p sent
    → OwnEmpty count links → OwnEmpty count (run.links_sent count p sent links)
own_sent count p None links other own = own
own_sent count p (Some sent) links other own = λ q below.
    set_empty links (link_number count p sent.0) (link_number count q q) _ (own q below)
    (λ same. absurd (other.0 (number-to count p sent.0 q q other.1 below same
    ∙ sym (number-from count p sent.0 q q other.1 below same))))

many_sent : (count p : ℕ) (sent : Option (ℕ × Message)) (links : List (List Message))
    → length (run.links_sent count p sent links) ≡ length links
many_sent count p None links = refl
many_sent count p (Some sent) links = length-set links _ _

many_taken : (count p : ℕ) (taken : Option ℕ) (links : List (List Message))
    → length (run.links_taken count p taken links) ≡ length links
many_taken count p None links = refl
many_taken count p (Some from) links = length-set links _ _

-- ---- states
abbrev AllFine : List Local → Type 0
AllFine locals = (p : ℕ) (local : Local) → slice_get locals p ≡ Some local → IsFine p local

set_at : (P : ℕ → Local → Type 0) (locals : List Local) (p : ℕ) (next : Local)
    → ((q : ℕ) (local : Local) → slice_get locals q ≡ Some local → P q local) → P p next
    → (q : ℕ) (local : Local) → slice_get (slice_set locals p next) q ≡ Some local → P q local
set_at P [] p next all one q local is = all q local is
set_at P (first ∷ locals) zero next all one zero local is =
    let same : next ≡ local = cc in subst (P 0) same one
set_at P (first ∷ locals) zero next all one (suc q) local is = all (suc q) local is
set_at P (first ∷ locals) (suc p) next all one zero local is = all zero local is
set_at P (first ∷ locals) (suc p) next all one (suc q) local is =
    set_at (λ n. P (suc n)) locals p next (λ n. all (suc n)) one q local is

-- ---- worlds
record KeepsWorld (count : ℕ) (world : run.World Local Message) : Type 0 where
  many : length world.locals ≡ count
  links : length world.links ≡ count * count
  own : OwnEmpty count world.links
  fine : AllFine world.locals

-- what a turn has to be
abbrev IsKept : ℕ → ℕ → Turn → Type 0
IsKept count p (Moves move) = IsFine p move.next × ToOther count p move.sent
IsKept count p Waiting = ⊤
IsKept count p Over = ⊤
IsKept count p (Stuck kind) = ⊤

turn_kept : (count p : ℕ) (turn : Turn) (world : run.World Local Message) → IsKept count p turn
    → KeepsWorld count world → KeepsWorld count (run.after_turn count p turn world)
turn_kept count p (Moves move) world kept is = record {
  many = length-set world.locals p move.next ∙ is.many;
  links =
      many_sent count p move.sent (run.links_taken count p move.taken world.links)
      ∙ (many_taken count p move.taken world.links ∙ is.links);
  own =
      own_sent count p move.sent (run.links_taken count p move.taken world.links) kept.1
      (own_taken count p move.taken world.links is.own);
  fine = set_at IsFine world.locals p move.next is.fine kept.0;
}
turn_kept count p Waiting world kept is = is
turn_kept count p Over world kept is = is
turn_kept count p (Stuck kind) world kept is = is

-- a turn with a message goes only where there is a link
with_rooms : (capacity : Option ℕ) (count : ℕ) (links : List (List Message)) (p : ℕ) (turn : Turn)
    → TurnsWell p (run.rooms_at capacity count links p) turn → IsKept count p turn
with_rooms capacity count links p (Moves move) is = (is.it.0, by move.sent is.it.1)
  where
    by : (sent : Option (ℕ × Message)) → IfSome sent (λ one. (one.0 ≢ p) × (run.rooms_at capacity count links p one.0 ≡ true))
        → ToOther count p sent
    by None other = tt
    by (Some one) other = (other.0, ltb-true one.0 count (and_parts (nat_lt one.0 count) _ other.1).0)
with_rooms capacity count links p Waiting is = tt
with_rooms capacity count links p Over is = tt
with_rooms capacity count links p (Stuck kind) is = tt

module _ (code : Tables) (links : Option ℕ) where
  found_kept : (count : ℕ) (world : run.World Local Message) (p : ℕ) (found : Option Local) → length (start_locals code) ≡ count
      → IfSome found (IsFine p) → IsKept count p (run.turn_or_over (system_over code links) world p found)
  found_kept count world p None same fine = tt
  found_kept count world p (Some local) same fine =
      subst (λ n. IsKept n p (run.turn_or_over (system_over code links) world p (Some local))) same
      (with_rooms links (length (start_locals code)) world.links p _
      (turn_fine code p local fine (run.heads_at (length (start_locals code)) world.links p)
      (run.rooms_at links (length (start_locals code)) world.links p)))

  found_fine : (locals : List Local) (p : ℕ) (found : Option Local) → slice_get locals p ≡ found → AllFine locals
      → IfSome found (IsFine p)
  found_fine locals p None is all = tt
  found_fine locals p (Some local) is all = all p local is

  given_kept : (world : run.World Local Message) (p : ℕ) → KeepsWorld (processors code) world
      → KeepsWorld (processors code) (run.given_turn (system_over code links) world p)
  given_kept world p is =
      let same = length-start_locals code in
      let turn = run.next_turn (system_over code links) world p in
      subst (λ n. KeepsWorld (processors code) (run.after_turn n p turn world)) (sym same)
      (turn_kept (processors code) p turn world
      (found_kept (processors code) world p (slice_get world.locals p) same
      (found_fine world.locals p (slice_get world.locals p) refl is.fine)) is)

-- ---- grids
world_of : (code : Tables) (grid : Grid) → IsOnward code grid → KeepsWorld (processors code) grid.world
world_of code grid is = record {
  many = is.many;
  links = is.links.many;
  own = is.links.own;
  fine = λ p local there. (all_at grid.world.locals p local is.ended there, is.kept p local there);
}
  where
    all_at : (locals : List Local) (p : ℕ) (local : Local) → All (λ l. l.ended ≢ Some More) locals → slice_get locals p ≡ Some local
        → local.ended ≢ Some More
    all_at [] p local all there = cc
    all_at (first ∷ locals) zero local all there =
        let same : first ≡ local = cc in
        subst (λ (l : Local). l.ended ≢ Some More) same (All-head (λ (l : Local). l.ended ≢ Some More) first locals all)
    all_at (first ∷ locals) (suc p) local all there =
        all_at locals p local (All-tail (λ (l : Local). l.ended ≢ Some More) first locals all) there

all_final : (locals : List Local) → ((p : ℕ) (local : Local) → slice_get locals p ≡ Some local → local.ended ≢ Some More)
    → All (λ l. l.ended ≢ Some More) locals
all_final [] each = All-nil (λ (l : Local). l.ended ≢ Some More)
all_final (local ∷ locals) each =
    All-cons (λ (l : Local). l.ended ≢ Some More) local locals (each 0 local refl) (all_final locals (λ p. each (suc p)))

onward_of : (code : Tables) (grid : Grid) → KeepsWorld (processors code) grid.world → IsOnward code grid
onward_of code grid is = record {
  many = is.many;
  links = record { many = is.links; own = is.own };
  ended = all_final grid.world.locals (λ p local there. (is.fine p local there).0);
  kept = λ p local there. (is.fine p local there).1;
}

world_after : (code : Tables) (links : Option ℕ) (grid : Grid) (order : List ℕ) → KeepsWorld (processors code) grid.world
    → KeepsWorld (processors code) (after_from code links grid order).world
world_after code links grid [] is = is
world_after code links grid (p ∷ order) is =
    world_after code links (given_turn code links grid p) order (given_kept code links grid.world p is)

pub orders_stay : (code : Tables) (links : Option ℕ) (grid : Grid) (order : List ℕ) → IsOnward code grid
    → IsOnward code (after_from code links grid order)
orders_stay code links grid order is =
    onward_of code (after_from code links grid order) (world_after code links grid order (world_of code grid is))

-- ---- the start
mapped : (code : Tables) (numbers : List ℕ) (p : ℕ) (local : Local) → slice_get (map (start_local code) numbers) p ≡ Some local
    → (n : ℕ) × (start_local code n ≡ local)
mapped code [] p local there = cc
mapped code (n ∷ numbers) zero local there = (n, cc)
mapped code (n ∷ numbers) (suc p) local there = mapped code numbers p local there

none_there : {M : Type 0} (count n : ℕ) → slice_index_or (replicate {A = List M} count []) n [] ≡ []
none_there zero n = refl
none_there (suc count) zero = refl
none_there (suc count) (suc n) = none_there count n

pub start_is : (code : Tables) → IsOnward code (start_grid code)
start_is code =
    onward_of code (start_grid code)
    (subst (λ n. KeepsWorld n (start_grid code).world) (length-start_locals code) (record {
      many = refl;
      links = length-replicate _ _;
      own = λ q below. none_there (length (start_locals code) * length (start_locals code)) _;
      fine = λ p local there.
          let from = mapped code (processor_numbers code) p local there in
          subst (IsFine p) from.1 (λ same. cc, All-nil (λ (entry : ℕ × List ℤ). entry.0 ≢ p));
    }))

-- ---- saved grids
not_more : (ended : Option End) → IsEnding ended → ended ≢ Some More
not_more None is = λ same. cc
not_more (Some More) is = absurd is
not_more (Some Done) is = λ same. cc
not_more (Some (Trap kind line)) is = λ same. cc

none_more : (locals : List Local) → All (λ l. IsEnding l.ended) locals → All (λ l. l.ended ≢ Some More) locals
none_more [] all = All-nil (λ (l : Local). l.ended ≢ Some More)
none_more (local ∷ locals) all =
    All-cons (λ (l : Local). l.ended ≢ Some More) local locals
    (not_more local.ended (All-head (λ (l : Local). IsEnding l.ended) local locals all))
    (none_more locals (All-tail (λ (l : Local). IsEnding l.ended) local locals all))

pub saved_is : (code : Tables) (grid : Grid) → IsSaveable code grid → IsOnward code grid
saved_is code grid is = record {
  many = is.locals.many;
  links = is.links;
  ended = none_more grid.world.locals is.locals.ended;
  kept = λ p local there. keeps_others code p local (is.locals.each p local there);
}

-- ---- runs
pub runs_stay : (run : Run) (k : ℕ) → IsOnward run.code run.start
    → IsOnward run.code (record (grid_at run k) { printed = [] })
runs_stay run k is =
    onward_of run.code (record (grid_at run k) { printed = [] })
    (world_of run.code (grid_at run k) (orders_stay run.code run.capacity run.start (given run.order (processors run.code) k) is))
