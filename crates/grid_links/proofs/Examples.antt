-- Small processes that follow scripts: a pair that exchanges in different orders, a pair that meets a full
-- link, a ring, and processes that are stuck.
use Rattle.std.proofs.Common.{◌≡◌, ℕ, List, [], ◌∷◌, ◌++◌, map, length, drop, nat_lt, Bool, true, false, Option, Some, None, refl}
use Rattle.grid_links.specs.Machine.{Act, Ended, Blocked, Goes, Awaits, Fed, Takes, Refuses, Turn, Moves, Waiting, Over, Stuck}
use Rattle.grid_links.specs.Links.{link_of}
use Rattle.grid_links.specs.Laws.{system_of}
use Rattle.grid_links.specs.Run.{System, World, after, next_turn, moves_of, all_moves, shown_by, sent_by, taken_from, laps}

data Step : Type 0 where
  Send : (to message : ℕ) → Step
  Take : (from : ℕ) → Step
  Show : (byte : ℕ) → Step
  Fail : Step

record Script : Type 0 where
  todo : List Step
  got : List ℕ

data Fault : Type 0 where
  Failed : Fault
  TooLarge : Fault

abbrev act_of : List Step → List ℕ → Act Script ℕ Fault
act_of [] got = Ended
act_of (Send to message ∷ todo) got = Goes (record { todo = todo; got = got }) (Some (to, message)) []
act_of (Take from ∷ todo) got = Awaits from
act_of (Show byte ∷ todo) got = Goes (record { todo = todo; got = got }) None (byte ∷ [])
act_of (Fail ∷ todo) got = Blocked Failed

-- messages from 50 on are refused
abbrev fed_where : Bool → List Step → List ℕ → Fed Script Fault
fed_where true todo got = Takes (record { todo = todo; got = got })
fed_where false todo got = Refuses TooLarge

abbrev fed_of : List Step → List ℕ → ℕ → Fed Script Fault
fed_of todo got message = fed_where (nat_lt message 50) (drop 1 todo) (got ++ message ∷ [])

abbrev act : ℕ → Script → Act Script ℕ Fault
act p script = act_of script.todo script.got

abbrev fed : ℕ → Script → ℕ → Fed Script Fault
fed p script message = fed_of script.todo script.got message

abbrev starts : List (List Step) → List Script
starts scripts = map (λ todo. record { todo = todo; got = [] }) scripts

abbrev scripts_over : Option ℕ → List (List Step) → System Script ℕ Fault
scripts_over capacity scripts = system_of act fed (starts scripts) capacity

abbrev got_by : World Script ℕ → List (List ℕ)
got_by world = map (λ script. script.got) world.locals

-- ---- a pair that exchanges in different orders
abbrev pair : Option ℕ → System Script ℕ Fault
pair capacity = scripts_over capacity (
    (Send 1 7 ∷ Take 1 ∷ Show 65 ∷ []) ∷
    (Take 0 ∷ Send 0 9 ∷ Show 66 ∷ []) ∷ [])

pair_exchanges : after (pair None) (0 ∷ 1 ∷ 1 ∷ 0 ∷ []) ≡ record {
  locals = record { todo = Show 65 ∷ []; got = 9 ∷ [] } ∷ record { todo = Show 66 ∷ []; got = 7 ∷ [] } ∷ [];
  links = [] ∷ [] ∷ [] ∷ [] ∷ [];
}
pair_exchanges = refl

-- the second one waits until the first one has sent; a process that isn't there changes nothing
pair_waits : next_turn (pair None) (after (pair None) (1 ∷ 1 ∷ 2 ∷ [])) 1 ≡ Waiting
pair_waits = refl

message_on_its_way : (after (pair (Some 1)) (1 ∷ 0 ∷ [])).links ≡ [] ∷ (7 ∷ []) ∷ [] ∷ [] ∷ []
message_on_its_way = refl

pair_moves : moves_of (pair (Some 1)) (1 ∷ 0 ∷ 1 ∷ 0 ∷ []) 0 ≡
    record { next = record { todo = Take 1 ∷ Show 65 ∷ []; got = [] }; sent = Some (1, 7); taken = None; shown = [] } ∷ []
pair_moves = refl

pair_shows : shown_by (moves_of (pair (Some 1)) (laps 2 4) 1) ≡ 66 ∷ []
pair_shows = refl

pair_ends : next_turn (pair None) (after (pair None) (laps 2 4)) 0 ≡ Over
pair_ends = refl

pair_makes_six_moves : all_moves (pair None) (laps 2 4) ≡ 6
pair_makes_six_moves = refl

-- ---- a pair that sends twice before it takes
abbrev both_send_twice : Option ℕ → System Script ℕ Fault
both_send_twice capacity = scripts_over capacity (
    (Send 1 1 ∷ Send 1 2 ∷ Take 1 ∷ Take 1 ∷ []) ∷
    (Send 0 3 ∷ Send 0 4 ∷ Take 0 ∷ Take 0 ∷ []) ∷ [])

-- over links with room for one message each waits for the other
full_links : (after (both_send_twice (Some 1)) (laps 2 4)).links ≡ [] ∷ (1 ∷ []) ∷ (3 ∷ []) ∷ [] ∷ []
full_links = refl

both_wait : map (next_turn (both_send_twice (Some 1)) (after (both_send_twice (Some 1)) (laps 2 4))) (0 ∷ 1 ∷ [])
    ≡ Waiting ∷ Waiting ∷ []
both_wait = refl

-- with room for two, and with room for any number, all end; messages come in the order in which they were sent
two_fit : map (next_turn (both_send_twice (Some 2)) (after (both_send_twice (Some 2)) (laps 2 4))) (0 ∷ 1 ∷ [])
    ≡ Over ∷ Over ∷ []
two_fit = refl

oldest_first : got_by (after (both_send_twice None) (laps 2 4)) ≡ (3 ∷ 4 ∷ []) ∷ (1 ∷ 2 ∷ []) ∷ []
oldest_first = refl

sent_in_order : sent_by 1 (moves_of (both_send_twice None) (0 ∷ 1 ∷ 0 ∷ []) 0) ≡ 1 ∷ 2 ∷ []
sent_in_order = refl

-- after one turn of each no link has held more than one message; so over links with room for one each has made
-- as many moves as over links of any number of messages, though the turn behind it waits instead of sending
abbrev moves_made : System Script ℕ Fault → List ℕ
moves_made system = map (λ p. length (moves_of system (0 ∷ 1 ∷ []) p)) (0 ∷ 1 ∷ [])

one_fits : (after (both_send_twice None) (0 ∷ 1 ∷ [])).links ≡ [] ∷ (1 ∷ []) ∷ (3 ∷ []) ∷ [] ∷ []
one_fits = refl

one_each : moves_made (both_send_twice (Some 1)) ≡ 1 ∷ 1 ∷ []
one_each = refl

one_each_there : moves_made (both_send_twice None) ≡ 1 ∷ 1 ∷ []
one_each_there = refl

waits_behind : next_turn (both_send_twice (Some 1)) (after (both_send_twice (Some 1)) (0 ∷ 1 ∷ [])) 0 ≡ Waiting
waits_behind = refl

sends_behind : next_turn (both_send_twice None) (after (both_send_twice None) (0 ∷ 1 ∷ [])) 0 ≡ Moves (record {
  next = record { todo = Take 1 ∷ Take 1 ∷ []; got = [] };
  sent = Some (1, 2);
  taken = None;
  shown = [];
})
sends_behind = refl

-- the pair that exchanges never has more than one message on a link; so an order that ends it over links of any
-- number of messages ends it over links with room for one
abbrev ended_by : System Script ℕ Fault → List (Turn Script ℕ Fault)
ended_by system = map (next_turn system (after system (0 ∷ 1 ∷ 1 ∷ 0 ∷ 0 ∷ 1 ∷ []))) (0 ∷ 1 ∷ [])

pair_is_over : ended_by (pair None) ≡ Over ∷ Over ∷ []
pair_is_over = refl

pair_is_over_there : ended_by (pair (Some 1)) ≡ Over ∷ Over ∷ []
pair_is_over_there = refl

-- the second process has taken one of the two messages that the first one has sent to it; the other one is on the link
abbrev one_of_two : List ℕ
one_of_two = 0 ∷ 1 ∷ 0 ∷ 1 ∷ 1 ∷ []

two_sent : sent_by 1 (moves_of (both_send_twice None) one_of_two 0) ≡ 1 ∷ 2 ∷ []
two_sent = refl

one_taken : map (λ from. taken_from from (moves_of (both_send_twice None) one_of_two 1)) (0 ∷ 1 ∷ []) ≡ 1 ∷ 0 ∷ []
one_taken = refl

one_on_the_link : link_of 2 (after (both_send_twice None) one_of_two).links 0 1 ≡ 2 ∷ []
one_on_the_link = refl

untaken_are_on_the_link : link_of 2 (after (both_send_twice None) one_of_two).links 0 1
    ≡ drop (taken_from 0 (moves_of (both_send_twice None) one_of_two 1)) (sent_by 1 (moves_of (both_send_twice None) one_of_two 0))
untaken_are_on_the_link = refl

-- ---- a ring of three, each of which sends to the next and takes from the one before
abbrev ring : Option ℕ → System Script ℕ Fault
ring capacity = scripts_over capacity (
    (Send 1 10 ∷ Take 2 ∷ []) ∷ (Send 2 11 ∷ Take 0 ∷ []) ∷ (Send 0 12 ∷ Take 1 ∷ []) ∷ [])

ring_goes_round : got_by (after (ring (Some 1)) (2 ∷ 0 ∷ 0 ∷ 1 ∷ 2 ∷ 1 ∷ [])) ≡ (12 ∷ []) ∷ (10 ∷ []) ∷ (11 ∷ []) ∷ []
ring_goes_round = refl

-- no link has room for none
no_room_at_all : next_turn (ring (Some 0)) (after (ring (Some 0)) []) 0 ≡ Waiting
no_room_at_all = refl

-- ---- what is stuck: a process by itself, and one that can't take a message; a link that isn't there has
-- neither room nor messages
abbrev faulty : System Script ℕ Fault
faulty = scripts_over None ((Send 2 60 ∷ Send 9 1 ∷ []) ∷ (Fail ∷ []) ∷ (Take 0 ∷ []) ∷ (Take 9 ∷ []) ∷ [])

turns_before : map (next_turn faulty (after faulty [])) (1 ∷ 2 ∷ 3 ∷ 4 ∷ []) ≡ Stuck Failed ∷ Waiting ∷ Waiting ∷ Over ∷ []
turns_before = refl

turns_behind : map (next_turn faulty (after faulty (0 ∷ []))) (0 ∷ 2 ∷ []) ≡ Waiting ∷ Stuck TooLarge ∷ []
turns_behind = refl

stuck_changes_nothing : after faulty (0 ∷ 2 ∷ 1 ∷ 0 ∷ []) ≡ after faulty (0 ∷ [])
stuck_changes_nothing = refl
