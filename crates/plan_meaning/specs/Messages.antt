-- Rows with messages, on all processors at once.
--
--   started    `start`: the words are on their way, behind those of the exchanges that are open
--   finished   `finish`: the words of the oldest open exchange are taken
--   delivered  `wrap`, `reflect`, `flood`, `part`, `scan` and `gather`: words are taken in the row
--              in which they are sent
--   remapped   a remap read: requests from each to each other, and then answers
use Rattle.std.specs.Prelude.{ℕ, ◌+◌, ◌-◌, ◌*◌, ◌==◌, nat_le, Bool, true, false, ◌&&◌, ℤ}
use Rattle.std.specs.Prelude.{List, [], ◌∷◌, ◌++◌, drop, Option, Some, None, is_some, length}
use Rattle.std.specs.Prelude.{unwrap_or}
use Rattle.std.specs.Prelude.{is_none}
use Rattle.std.specs.List.{filter_map, list_all}
use Rattle.grid_links.specs.Machine.{Goes as Moves}
use Rattle.row_orders.specs.of_grid_paths.Tree.{times}
use Rattle.flat_form.specs.of_node_form.declared.tables.Tables.{Tables}
use Rattle.flat_form.specs.of_code_parts.Early.{is_roomy}
use Rattle.flat_form.specs.of_grid_meaning.Action.{Action}
use Rattle.flat_form.specs.of_grid_meaning.Collective.{Collective, Stage, Alone, Sends, TakesFrom, others}
use Rattle.flat_form.specs.of_grid_meaning.Local.{Local, processors}
use Rattle.row_orders.specs.Rows.{Flight, alone_where, at_turn, taking}
use Rattle.flat_form.specs.of_row_runs.Run.{Step, Stops, Wrong}
use Rattle.plan_meaning.specs.Abreast.{Abreast, every, every_two, go_where, is_quiet, locals_of}
use Rattle.plan_meaning.specs.Abreast.{of_processors, share_of}

-- ---- the stages of a row: whether it begins alone, to whom it sends, and from whom it takes
abbrev pub starts_alone : List Stage → Bool
starts_alone (Alone ∷ stages) = true
starts_alone stages = false

abbrev pub receiver_of : Stage → Option ℕ
receiver_of (Sends to) = Some to
receiver_of stage = None

abbrev pub sender_of : Stage → Option ℕ
sender_of (TakesFrom from) = Some from
sender_of stage = None

abbrev pub receivers : List Stage → List ℕ
receivers stages = filter_map receiver_of stages

abbrev pub senders : List Stage → List ℕ
senders stages = filter_map sender_of stages

-- ---- the last turn: it leaves the row
abbrev pub leaves_row : Action → Bool
leaves_row (Moves next None shown) = is_none next.ended
leaves_row action = false

abbrev pub next_or : Local → Action → Local
next_or local (Moves next sent shown) = next
next_or local action = local

abbrev pub shown_of : Action → List ℕ
shown_of (Moves next sent shown) = shown
shown_of action = []

-- each sends to those that take from it, once
abbrev pub are_partners : Tables → (ℕ → List ℕ) → (ℕ → List ℕ) → Bool
are_partners code to from =
    every_two code (λ p q. (times q (to p) == times p (from q)) && nat_le (times q (to p)) 1)

-- ---- each acts alone, where it does, and says words; takes those that it hears; and goes on
module _ (code : Tables) (row : ℕ → Collective) (locals : ℕ → Local) where
  abbrev pub to_of : ℕ → List ℕ
  to_of p = receivers ((row p).stages (locals p))

  abbrev pub from_of : ℕ → List ℕ
  from_of p = senders ((row p).stages (locals p))

  abbrev pub begun : ℕ → Option Local
  begun p = alone_where (starts_alone ((row p).stages (locals p))) (row p) (locals p)

  abbrev pub middle_of : ℕ → Local
  middle_of p = unwrap_or (begun p) (locals p)

  abbrev pub words_of : ℕ → ℕ → List ℤ
  words_of p q = unwrap_or ((row p).words_to (middle_of p) q) []

  module _ (heard : ℕ → ℕ → List ℤ) where
    abbrev pub took : ℕ → Option Local
    took p = taking (row p) (λ q. heard q p) (middle_of p) (from_of p)

    abbrev pub final_of : ℕ → Local
    final_of p = unwrap_or (took p) (middle_of p)

    -- it isn't stuck
    abbrev pub does_well : ℕ → Bool
    does_well p =
        is_some (begun p)
        && list_all (λ q. is_some ((row p).words_to (middle_of p) q)) (to_of p)
        && is_some (took p)
        && leaves_row ((row p).last (final_of p))

    abbrev pub next_with : List Flight → Abreast
    next_with flights = record {
      shares = λ p. share_of (next_or (final_of p) ((row p).last (final_of p)));
      flights = flights;
    }

    -- processor 0 prints
    abbrev pub bytes : List ℕ
    bytes = shown_of ((row 0).last (final_of 0))

-- ---- the rows
module _ (code : Tables) (row : ℕ → Collective) (all : Abreast) where
  abbrev pub delivered : Step Abreast
  delivered =
      let locals : ℕ → Local = locals_of all in
      let heard : ℕ → ℕ → List ℤ = words_of code row locals in
      go_where
      (is_quiet all && are_partners code (to_of code row locals) (from_of code row locals)
      && every code (does_well code row locals heard))
      (bytes code row locals heard) (next_with code row locals heard [])

  -- over links that hold so many messages
  abbrev pub started : Option ℕ → ℕ → Step Abreast
  started links exchange =
      let locals : ℕ → Local = locals_of all in
      let heard : ℕ → ℕ → List ℤ = λ p q. [] in
      let flight : Flight = record {
        exchange = exchange;
        to = to_of code row locals;
        words = words_of code row locals;
      } in
      go_where
      (is_roomy links (length all.flights)
      && every_two code (λ p q. nat_le (times q (flight.to p)) 1)
      && every code (does_well code row locals heard))
      (bytes code row locals heard) (next_with code row locals heard (all.flights ++ flight ∷ []))

  abbrev pub finished_of : ℕ → Flight → List Flight → Step Abreast
  finished_of exchange flight flights =
      let locals : ℕ → Local = locals_of all in
      go_where
      (flight.exchange == exchange && are_partners code flight.to (from_of code row locals)
      && every code (does_well code row locals flight.words))
      (bytes code row locals flight.words)
      (of_processors code all (next_with code row locals flight.words flights))

  abbrev pub finished_in : ℕ → List Flight → Step Abreast
  finished_in exchange [] = Stops Wrong
  finished_in exchange (flight ∷ flights) = finished_of exchange flight flights

  abbrev pub finished : ℕ → Step Abreast
  finished exchange = finished_in exchange all.flights

-- ---- A remap read: each acts alone, and requests go from each to each other one. What it has
-- heard says to whom it answers, and what it wants from whom it takes answers: these stand behind
-- the others in its stages.
module _ (code : Tables) (row : ℕ → Collective) (all : Abreast) where
  abbrev pub asked : ℕ → Option Local
  asked p = (row p).alone (locals_of all p)

  -- behind the turn alone
  abbrev pub asking : ℕ → Local
  asking p = at_turn 1 (unwrap_or (asked p) (locals_of all p))

  abbrev pub requests : ℕ → ℕ → Option (List ℤ)
  requests p q = (row p).words_to (asking p) q

  abbrev pub heard_by : ℕ → Option Local
  heard_by p = taking (row p) (λ q. unwrap_or (requests q p) []) (asking p) (others code p)

  -- behind the turns of all requests
  abbrev pub answering : ℕ → Local
  answering p =
      at_turn (1 + 2 * (processors code - 1)) (unwrap_or (heard_by p) (locals_of all p))

  abbrev pub answers_to : ℕ → List ℕ
  answers_to p = drop (processors code - 1) (receivers ((row p).stages (answering p)))

  abbrev pub answers_from : ℕ → List ℕ
  answers_from p = drop (processors code - 1) (senders ((row p).stages (answering p)))

  abbrev pub answers : ℕ → ℕ → Option (List ℤ)
  answers p q = (row p).words_to (answering p) q

  abbrev pub answered : ℕ → Option Local
  answered p = taking (row p) (λ q. unwrap_or (answers q p) []) (answering p) (answers_from p)

  abbrev pub behind_answers : ℕ → Local
  behind_answers p = unwrap_or (answered p) (locals_of all p)

  abbrev pub remaps_well : ℕ → Bool
  remaps_well p =
      is_some (asked p)
      && list_all (λ q. is_some (requests p q)) (others code p)
      && is_some (heard_by p)
      && list_all (λ q. is_some (answers p q)) (answers_to p)
      && is_some (answered p)
      && leaves_row ((row p).last (behind_answers p))

  abbrev pub remapped : Step Abreast
  remapped =
      go_where
      (is_quiet all && are_partners code answers_to answers_from && every code remaps_well) []
      (record {
        shares = λ p. share_of (next_or (behind_answers p) ((row p).last (behind_answers p)));
        flights = [];
      })
