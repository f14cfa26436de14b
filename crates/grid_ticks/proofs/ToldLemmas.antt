-- The moves that are told along an order.
use Rattle.std.proofs.Common.{◌≡◌, ◌⊎◌, ℕ, suc, ◌+◌, ◌*◌, ◌<◌, ◌≤◌, ◌==◌, nat_lt, Bool, true, false, cond, List, [], ◌∷◌, ◌++◌, length, map, Option, Some, None, refl, sym, ◌∙◌, ap, ap₂, subst, inl, inr, arith, append_assoc, append-nil, length-set, length-drop, eqb-true, ltb-true}
use Rattle.std.proofs.Math.Path.{fun_ext}
use Rattle.std.proofs.Math.ListN.{get_or-eq_default}
use Rattle.std.proofs.Math.Nat.{mul-le-mul_right}
use Rattle.std.proofs.lemmas.Bool.{cases_lt, and_parts}
use Rattle.std.proofs.lemmas.List.{length-replicate, map-append}
use Rattle.std.proofs.lemmas.List.Elements.{filter-append}
use Rattle.std.proofs.lemmas.List.Sums.{sum_by-append}
use Rattle.std.proofs.lemmas.Option.{slice_get_within}
use Rattle.std.specs.List.{slice_get}
use Rattle.std.specs.Option.{option_map}
use Rattle.grid_links.specs.Links.{link_number, link_of}
use Rattle.grid_links.specs.Machine as machine
use Rattle.grid_links.specs.Machine.{Act, Ended, Blocked, Goes, Awaits, Fed, Takes, Refuses, Turn, Moves, Waiting, Over, Stuck, Heads, Rooms, where_room, takes_from, awaits, over_links}
use Rattle.grid_links.specs.Run.{System, World, count_of, start_world, heads_at, rooms_at, turn_or_over, next_turn, links_taken, links_sent, after_turn, given_turn, after_from, after, move_in, moves_from, moves_of, message_where, message_to, sent_by, is_from, taken_from}
use Rattle.grid_links.specs.Laws.{EndsAlike, KeepsMessages}
use Rattle.grid_timetable.specs.Run.{Run, is_named, sends_to, numbers_from, sent_at, taken_at, IsLeastLength}
use Rattle.grid_timetable.specs.Run.{takes_from as takes_from_told}
use Rattle.grid_timetable.specs.History.{History, run_of, moves_by, CanMove, IsBelow, HasMessage}
use Rattle.grid_ticks.specs.Told.{move_told, turn_told, told_from, told, history_of}
use Rattle.grid_ticks.specs.Ticks.{TellsMoves, GoesOnWith, TellsMovesOn, TakesEqualTicks}

-- ---- each process's moves
by_turn : {L M K : Type 0} (q p : ℕ) (b : Bool) (turn : Turn L M K) → (q == p) ≡ b
    → moves_by (turn_told q turn) p ≡ map (move_told p) (move_in b turn)
by_turn q p true (Moves move) e =
    let same : q ≡ p = eqb-true q p e in
    ap (λ b. cond b (move_told q move ∷ []) []) e ∙ ap (λ x. move_told x move ∷ []) same
by_turn q p false (Moves move) e = ap (λ b. cond b (move_told q move ∷ []) []) e
by_turn q p true Waiting e = refl
by_turn q p true Over e = refl
by_turn q p true (Stuck kind) e = refl
by_turn q p false Waiting e = refl
by_turn q p false Over e = refl
by_turn q p false (Stuck kind) e = refl

tells_from : {L M K : Type 0} (system : System L M K) (world : World L M) (order : List ℕ) (p : ℕ)
    → moves_by (told_from system world order) p ≡ map (move_told p) (moves_from system world order p)
tells_from system world [] p = refl
tells_from system world (q ∷ order) p =
    filter-append (λ move. move.processor == p) (turn_told q (next_turn system world q)) (told_from system (given_turn system world q) order)
    ∙ (ap₂ (λ a b. a ++ b) (by_turn q p (q == p) (next_turn system world q) refl) (tells_from system (given_turn system world q) order p)
    ∙ sym (map-append (move_told p) (move_in (q == p) (next_turn system world q)) _))

pub tells_moves : {L M K : Type 0} (system : System L M K) → TellsMoves system
tells_moves system order p = tells_from system (start_world system) order p

-- ---- equal ticks
one_least : (run : Run) (t u : ℕ) → IsLeastLength run t → IsLeastLength run u → t ≡ u
one_least run t u is also =
    let below : t ≤ u = omega (arith, is.least also.tick also.timetable, also.length_is) in
    let above : u ≤ t = omega (arith, also.least is.tick is.timetable, is.length_is) in
    omega arith

pub equal_ticks : {L M K : Type 0} (system : System L M K) → EndsAlike system → TakesEqualTicks system
equal_ticks system alike latency x y t u over also is least =
    let same : moves_by (told system x) ≡ moves_by (told system y) =
    fun_ext (λ p. tells_moves system x p ∙ (ap (map (move_told p)) ((alike x y over also).moves p) ∙ sym (tells_moves system y p))) in
    let runs : run_of (history_of system latency x) ≡ run_of (history_of system latency y) =
    ap (λ moves. record { count = count_of system; latency = latency; moves = moves }) same in
    one_least _ t u (subst (λ (run : Run). IsLeastLength run t) runs is) least

-- ---- a turn more
told-push_from : {L M K : Type 0} (system : System L M K) (world : World L M) (order : List ℕ) (p : ℕ)
    → told_from system world (order ++ p ∷ []) ≡ told_from system world order ++ turn_told p (next_turn system (after_from system world order) p)
told-push_from system world [] p = append-nil (turn_told p (next_turn system world p))
told-push_from system world (q ∷ order) p =
    ap (λ l. turn_told q (next_turn system world q) ++ l) (told-push_from system (given_turn system world q) order p)
    ∙ sym (append_assoc (turn_told q (next_turn system world q)) _ _)

-- ---- what a move rests on
where_room-is : {L M K : Type 0} (room : Bool) (turn : Turn L M K) (move : machine.Move L M) → where_room room turn ≡ Moves move
    → (room ≡ true) × (turn ≡ Moves move)
where_room-is true turn move e = (refl, e)
where_room-is false turn move e = cc

-- there is room for what is sent, and a message where one is taken
record RestsOn {L M : Type 0} (heads : Heads M) (rooms : Rooms) (move : machine.Move L M) : Type 0 where
  room : (sent : ℕ × M) → move.sent ≡ Some sent → rooms sent.0 ≡ true
  head : (from : ℕ) → move.taken ≡ Some from → (message : M) × (heads from ≡ Some message)

over_links-rests : {L M K : Type 0} (fed : M → Fed L K) (heads : Heads M) (rooms : Rooms) (act : Act L M K) (move : machine.Move L M)
    → over_links fed heads rooms act ≡ Moves move → RestsOn heads rooms move
over_links-rests fed heads rooms Ended move e = cc
over_links-rests fed heads rooms (Blocked kind) move e = cc
over_links-rests {L = L} {M = M} fed heads rooms (Goes next None shown) move e =
    let going : machine.Move L M = record { next = next; sent = None; taken = None; shown = shown } in
    let same : going ≡ move = cc in
    subst (RestsOn heads rooms) same (record { room = λ sent f. cc; head = λ from f. cc })
over_links-rests {L = L} {M = M} fed heads rooms (Goes next (Some sent) shown) move e =
    let going : machine.Move L M = record { next = next; sent = Some sent; taken = None; shown = shown } in
    let (room, turn) = where_room-is (rooms sent.0) (Moves going) move e in
    let same : going ≡ move = cc in
    subst (RestsOn heads rooms) same (record {
      room = λ other f. (let one : sent ≡ other = cc in subst (λ (s : ℕ × M). rooms s.0 ≡ true) one room);
      head = λ from f. cc;
    })
over_links-rests {L = L} {M = M} {K = K} fed heads rooms (Awaits from) move e = by (heads from) refl e
  where
    fed_is : (message : M) (fed : Fed L K) → heads from ≡ Some message → takes_from {L = L} {M = M} {K = K} from fed ≡ Moves move → RestsOn heads rooms move
    fed_is message (Takes next) h f =
        let taking : machine.Move L M = record { next = next; sent = None; taken = Some from; shown = [] } in
        let same : taking ≡ move = cc in
        subst (RestsOn heads rooms) same (record {
          room = λ sent g. cc;
          head = λ other g. (let one : from ≡ other = cc in subst (λ x. (message : M) × (heads x ≡ Some message)) one (message, h));
        })
    fed_is message (Refuses kind) h f = cc

    by : (head : Option M) → heads from ≡ head → awaits fed from head ≡ Moves move → RestsOn heads rooms move
    by None h f = cc
    by (Some message) h f = fed_is message (fed message) h f

-- ---- every process and every link is there
length-taken : {M : Type 0} (count p : ℕ) (taken : Option ℕ) (links : List (List M)) → length (links_taken count p taken links) ≡ length links
length-taken count p None links = refl
length-taken count p (Some from) links = length-set links _ _

length-sent : {M : Type 0} (count p : ℕ) (sent : Option (ℕ × M)) (links : List (List M)) → length (links_sent count p sent links) ≡ length links
length-sent count p None links = refl
length-sent count p (Some sent) links = length-set links _ _

record IsWhole {L M : Type 0} (count : ℕ) (world : World L M) : Type 0 where
  size : length world.locals ≡ count
  many : length world.links ≡ count * count

whole_turn : {L M K : Type 0} (count p : ℕ) (turn : Turn L M K) (world : World L M) → IsWhole count world → IsWhole count (after_turn count p turn world)
whole_turn count p (Moves move) world is = record {
  size = length-set world.locals p move.next ∙ is.size;
  many = length-sent count p move.sent _ ∙ (length-taken count p move.taken world.links ∙ is.many);
}
whole_turn count p Waiting world is = is
whole_turn count p Over world is = is
whole_turn count p (Stuck kind) world is = is

whole_from : {L M K : Type 0} (system : System L M K) (order : List ℕ) (world : World L M) → IsWhole (count_of system) world
    → IsWhole (count_of system) (after_from system world order)
whole_from system [] world is = is
whole_from system (p ∷ order) world is =
    whole_from system order (given_turn system world p) (whole_turn (count_of system) p (next_turn system world p) world is)

whole : {L M K : Type 0} (system : System L M K) (order : List ℕ) → IsWhole (count_of system) (after system order)
whole system order =
    whole_from system order (start_world system) (record { size = refl; many = length-replicate (count_of system * count_of system) [] })

-- ---- how many are sent and taken
where_named : {M : Type 0} (b : Bool) (n : ℕ) (message : M) (rest : List ℕ) (others : List M) → length rest ≡ length others
    → length (cond b (n ∷ rest) rest) ≡ length (message_where b message ++ others)
where_named true n message rest others e = omega (arith, e)
where_named false n message rest others e = e

where_sent : {M : Type 0} (to n : ℕ) (sent : Option (ℕ × M)) (rest : List ℕ) (others : List M) → length rest ≡ length others
    → length (cond (is_named to (option_map (λ s. s.0) sent)) (n ∷ rest) rest) ≡ length (message_to to sent ++ others)
where_sent to n None rest others e = e
where_sent to n (Some sent) rest others e = where_named (sent.0 == to) n sent.1 rest others e

many_sent : {L M : Type 0} (p to n : ℕ) (moves : List (machine.Move L M))
    → length (numbers_from (sends_to to) n (map (move_told p) moves)) ≡ length (sent_by to moves)
many_sent p to n [] = refl
many_sent p to n (move ∷ moves) = where_sent to n move.sent _ _ (many_sent p to (suc n) moves)

where_taken : (from n : ℕ) (taken : Option ℕ) (rest : List ℕ) (others : ℕ) → length rest ≡ others
    → length (cond (is_named from taken) (n ∷ rest) rest) ≡ cond (is_from from taken) 1 0 + others
where_taken from n None rest others e = omega (arith, e)
where_taken from n (Some sender) rest others e = by (sender == from)
  where
    by : (b : Bool) → length (cond b (n ∷ rest) rest) ≡ cond b 1 0 + others
    by true = omega (arith, e)
    by false = omega (arith, e)

many_taken : {L M : Type 0} (p from n : ℕ) (moves : List (machine.Move L M))
    → length (numbers_from (takes_from_told from) n (map (move_told p) moves)) ≡ taken_from from moves
many_taken p from n [] = refl
many_taken p from n (move ∷ moves) =
    where_taken from n move.taken _ _ (many_taken p from (suc n) moves)
    ∙ (let first : cond (is_from from move.taken) 1 0 + taken_from from moves ≡ (0 + cond (is_from from move.taken) 1 0) + taken_from from moves = omega arith in first
    ∙ sym (sum_by-append (λ (m : machine.Move _ _). cond (is_from from m.taken) 1 0) (move ∷ []) moves))

-- ---- a move may come next
module _ {L M K : Type 0} (system : System L M K) (keeps : KeepsMessages system) (latency : ℕ) (order : List ℕ) (p : ℕ)
    (move : machine.Move L M) (turn : next_turn system (after system order) p ≡ Moves move) where
  abbrev world : World L M
  world = after system order

  abbrev count : ℕ
  count = count_of system

  abbrev so_far : History
  so_far = history_of system latency order

  record IsMade : Type 0 where
    there : p < count
    rests : RestsOn (heads_at count world.links p) (rooms_at system.capacity count world.links p) move

  made_by : (local : Option L) → slice_get world.locals p ≡ local → turn_or_over system world p local ≡ Moves move → IsMade
  made_by None at e = cc
  made_by (Some local) at e = record {
    there = omega (arith, slice_get_within world.locals p local at, (whole system order).size);
    rests = over_links-rests (system.processes.fed p local) _ _ (system.processes.act p local) move e;
  }

  made : IsMade
  made = made_by (slice_get world.locals p) refl turn

  receiver_in : (sent : Option (ℕ × M)) → move.sent ≡ sent → IsBelow count (option_map (λ s. s.0) sent)
  receiver_in None e = tt
  receiver_in (Some sent) e =
      let (inside, room) = and_parts (nat_lt sent.0 count) _ (made.rests.room sent e) in
      ltb-true sent.0 count inside

  -- a message that is there
  sender_below : (from : ℕ) (message : M) → heads_at count world.links p from ≡ Some message → from < count
  sender_below from message e = by (cases_lt from count)
    where
      by : (from < count) ⊎ (count ≤ from) → from < count
      by (inl below) = below
      by (inr beyond) =
          let rows : count * count ≤ from * count = mul-le-mul_right count beyond in
          let past : length world.links ≤ link_number count from p = omega (arith, rows, (whole system order).many) in
          let none : heads_at count world.links p from ≡ None = ap (λ link. slice_get link 0) (get_or-eq_default world.links [] past) in
          cc

  sender_in : (taken : Option ℕ) → move.taken ≡ taken → IsBelow count taken
  sender_in None e = tt
  sender_in (Some from) e = let (message, head) = made.rests.head from e in sender_below from message head

  message_in : (taken : Option ℕ) → move.taken ≡ taken → HasMessage (run_of so_far) p taken
  message_in None e = tt
  message_in (Some from) e =
      let (message, head) = made.rests.head from e in
      let below : from < count = sender_below from message head in
      let some : 0 < length (link_of count world.links from p) = slice_get_within _ 0 message head in
      let link = keeps.link order from p below made.there in
      let sent : length (sent_at (run_of so_far) from p) ≡ length (sent_by p (moves_of system order from)) =
      ap (λ moves. length (numbers_from (sends_to p) 1 moves)) (tells_moves system order from) ∙ many_sent from p 1 (moves_of system order from) in
      let taken : length (taken_at (run_of so_far) from p) ≡ taken_from from (moves_of system order p) =
      ap (λ moves. length (numbers_from (takes_from_told from) 1 moves)) (tells_moves system order p) ∙ many_taken p from 1 (moves_of system order p) in
      omega (arith, some, ap length link, length-drop (taken_from from (moves_of system order p)) (sent_by p (moves_of system order from)), sent, taken)

  can_move : CanMove so_far (move_told p move)
  can_move = record {
    processor = made.there;
    receiver = receiver_in move.sent refl;
    sender = sender_in move.taken refl;
    message = message_in move.taken refl;
  }

with_moves : {L M K : Type 0} (system : System L M K) (latency : ℕ) (order : List ℕ) (p : ℕ) (turn : Turn L M K)
    → next_turn system (after system order) p ≡ turn
    → history_of system latency (order ++ p ∷ []) ≡ record { count = count_of system; latency = latency; moves = told system order ++ turn_told p turn }
with_moves system latency order p turn e =
    ap (λ moves. record { count = count_of system; latency = latency; moves = moves })
    (told-push_from system (start_world system) order p ∙ ap (λ t. told system order ++ turn_told p t) e)

with_none : {L M K : Type 0} (system : System L M K) (latency : ℕ) (order : List ℕ)
    → ◌≡◌ {A = History} (record { count = count_of system; latency = latency; moves = told system order ++ [] }) (history_of system latency order)
with_none system latency order =
    ap (λ moves. record { count = count_of system; latency = latency; moves = moves }) (append-nil (told system order))

pub tells_on : {L M K : Type 0} (system : System L M K) → KeepsMessages system → TellsMovesOn system
tells_on {L} {M} {K} system keeps latency order p = by (next_turn system (after system order) p) refl
  where
    by : (turn : Turn L M K) → next_turn system (after system order) p ≡ turn
        → GoesOnWith (history_of system latency order) (history_of system latency (order ++ p ∷ [])) p turn
    by (Moves move) e = record {
      told = with_moves system latency order p (Moves move) e;
      can = can_move system keeps latency order p move e;
    }
    by Waiting e = with_moves system latency order p Waiting e ∙ with_none system latency order
    by Over e = with_moves system latency order p Over e ∙ with_none system latency order
    by (Stuck kind) e = with_moves system latency order p (Stuck kind) e ∙ with_none system latency order
