-- What the words of a command ask for can be met.
use Rattle.std.proofs.Common.{ℕ, ◌≤◌, Bool, List, [], ◌∷◌, Option, Some, None, subst, arith}
use Rattle.std.specs.Option.{option_map}
use Rattle.zpl_claims.specs.declared.options.Options.{Options}
use Rattle.call_claims.specs.Words.{Word, Order, Turns, Report, Checked, Save, Links, Latency, Grid, Letters, Sets}
use Rattle.call_claims.specs.Words.{IsWord, first_asked}
use Rattle.call_claims.specs.Command.{Asked, AddAll, IsWorded, asked_more, once}
use Rattle.call_claims.specs.Command.AddAll.{no_more, one_more}
use Rattle.call_claims.specs.Met.{CanBeMet}
use Rattle.call_claims.specs.declared.limits.TheConstants.{MOST_LATENCY, MOST_TURNS}

-- what is asked for with one word more, if it may be, can be met
abbrev AreMet : Option Asked → Type 0
AreMet None = Unit {0}
AreMet (Some asked) = CanBeMet asked

with_order : (asked : Asked) (told : Option (Option (List ℕ))) → CanBeMet asked
    → AreMet (option_map (λ order. record asked { order = order }) told)
with_order asked None met = tt
with_order asked (Some order) met = record { links = met.links; turns = met.turns; latency = met.latency }

with_turns : (asked : Asked) (before : Option ℕ) (n : ℕ) → n ≤ MOST_TURNS → CanBeMet asked
    → AreMet (option_map (λ turns. record asked { turns = turns }) (once before n))
with_turns asked (Some other) n few met = tt
with_turns asked None n few met = record { links = met.links; turns = few; latency = met.latency }

with_report : (asked : Asked) (told : Option Bool) → CanBeMet asked
    → AreMet (option_map (λ report. record asked { report = report }) told)
with_report asked None met = tt
with_report asked (Some report) met = record { links = met.links; turns = met.turns; latency = met.latency }

with_checked : (asked : Asked) (told : Option Bool) → CanBeMet asked
    → AreMet (option_map (λ checked. record asked { checked = checked }) told)
with_checked asked None met = tt
with_checked asked (Some checked) met = record { links = met.links; turns = met.turns; latency = met.latency }

with_save : (asked : Asked) (told : Option Bool) → CanBeMet asked
    → AreMet (option_map (λ save. record asked { save = save }) told)
with_save asked None met = tt
with_save asked (Some save) met = record { links = met.links; turns = met.turns; latency = met.latency }

with_links : (asked : Asked) (before : Option ℕ) (capacity : ℕ) → 1 ≤ capacity → CanBeMet asked
    → AreMet (option_map (λ links. record asked { links = links }) (once before capacity))
with_links asked (Some other) capacity some met = tt
with_links asked None capacity some met = record { links = some; turns = met.turns; latency = met.latency }

with_latency : (asked : Asked) (before : Option ℕ) (ticks : ℕ) → ticks ≤ MOST_LATENCY → CanBeMet asked
    → AreMet (option_map (λ latency. record asked { latency = latency }) (once before ticks))
with_latency asked (Some other) ticks few met = tt
with_latency asked None ticks few met = record { links = met.links; turns = met.turns; latency = few }

with_grid : (asked : Asked) (before : Option (List ℕ)) (grid : List ℕ) → CanBeMet asked
    → AreMet (option_map (λ grid. record asked { grid = grid }) (once before grid))
with_grid asked (Some other) grid met = tt
with_grid asked None grid met =
    record { links = met.links; turns = met.turns; latency = met.latency }

with_options : (asked : Asked) (before : Option Options) (options : Options) → CanBeMet asked
    → AreMet (option_map (λ options. record asked { options = options }) (once before options))
with_options asked (Some other) options met = tt
with_options asked None options met =
    record { links = met.links; turns = met.turns; latency = met.latency }

with_word : (asked : Asked) (text : List ℕ) (word : Word) → IsWord text word → CanBeMet asked
    → AreMet (asked_more asked word)
with_word asked text (Order file) is met = with_order asked (once asked.order file) met
with_word asked text (Turns n) is met = with_turns asked asked.turns n is.within met
with_word asked text Report is met = with_report asked (first_asked asked.report) met
with_word asked text Checked is met = with_checked asked (first_asked asked.checked) met
with_word asked text Save is met = with_save asked (first_asked asked.save) met
with_word asked text (Links capacity) is met =
    with_links asked asked.links capacity is.links.some met
with_word asked text (Latency ticks) is met =
    with_latency asked asked.latency ticks is.latency.within met
with_word asked text (Grid grid) is met = with_grid asked asked.grid grid met
with_word asked text (Letters options) is met = with_options asked asked.options options met
with_word asked text (Sets setting) is met = record { links = met.links; turns = met.turns; latency = met.latency }

with_words : (before last : Asked) (texts : List (List ℕ)) → AddAll before texts last
    → CanBeMet before → CanBeMet last
with_words before last texts no_more met = met
with_words before last (text ∷ texts) (one_more {next = next} adds more) met =
    with_words next last texts more
    (subst AreMet adds.adds (with_word before text adds.word adds.is met))

pub is_met : {words : List (List ℕ)} {name file : List ℕ} {asked : Asked}
    → IsWorded words name file asked → CanBeMet asked
is_met {asked = asked} given =
    with_words _ asked given.more given.are (record { links = tt; turns = omega arith; latency = omega arith })
