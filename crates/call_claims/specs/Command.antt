-- The commands: a word, a file, and what the words behind the file ask for.
--
--   Asked, AskFor          what the words behind the file ask for
--   IsWorded, IsCommandOf  words of one command, by its name and by what it takes
--   IsList, IsMean, IsRun, IsExec, IsTime, IsCheck, IsResume, IsGen
--   IsNoCommand            words that are none of these
--   Asks                   what holds of the file of a command and of what is asked for
use Rattle.std.specs.Prelude.{◌≡◌, ℕ, Bool, true, false, IsTrue, List, [], ◌∷◌, ◌++◌, codes, Option, Some, None}
use Rattle.std.specs.Option.{option_map}
use Rattle.zpl_claims.specs.of_zpl_binding.Settings.{Setting}
use Rattle.zpl_claims.specs.Build.{Build, no_options, one_processor}
use Rattle.zpl_claims.specs.declared.options.Options.{Options}
use Rattle.call_claims.specs.Words.{Word, Order, Turns, Report, Checked, Save, Links, Latency, Grid}
use Rattle.call_claims.specs.Words.{Letters, Sets}
use Rattle.call_claims.specs.Words.{IsSeed, IsWord, first_asked}
use Rattle.call_claims.specs.declared.limits.TheConstants.{MOST_TURNS}

-- ---- what the words behind the file ask for
-- The file of an order of turns, how many turns may be given (round the processors behind the
-- order, or in each loop of the meaning), and how many messages a link holds, each where a word
-- tells it; whether a report is wanted, whether code is run only where it is sound, and whether a
-- grid that may go on is saved; for how many ticks a message is on its way, the grid of processors,
-- and the optimisations, where a word tells them; and what configs are set to, in the order of the
-- words.
pub record Asked : Type 0 where
  pub order : Option (List ℕ)
  pub turns : Option ℕ
  pub report : Bool
  pub checked : Bool
  pub save : Bool
  pub links : Option ℕ
  pub latency : Option ℕ
  pub grid : Option (List ℕ)
  pub options : Option Options
  pub settings : List Setting

abbrev pub nothing_asked : Asked
nothing_asked = record {
  order = None;
  turns = None;
  report = false;
  checked = false;
  save = false;
  links = None;
  latency = None;
  grid = None;
  options = None;
  settings = [];
}

-- ---- each at most once
abbrev pub once : {A : Type 0} → Option A → A → Option (Option A)
once None told = Some (Some told)
once (Some before) told = None

-- What is asked for with one word more; nothing where it asks again. Settings may be any, and a
-- name may be set again: what is wrong with them is told of the text.
abbrev pub asked_more : Asked → Word → Option Asked
asked_more asked (Order file) =
    option_map (λ order. record asked { order = order }) (once asked.order file)
asked_more asked (Turns n) =
    option_map (λ turns. record asked { turns = turns }) (once asked.turns n)
asked_more asked Report =
    option_map (λ report. record asked { report = report }) (first_asked asked.report)
asked_more asked Checked =
    option_map (λ checked. record asked { checked = checked }) (first_asked asked.checked)
asked_more asked Save =
    option_map (λ save. record asked { save = save }) (first_asked asked.save)
asked_more asked (Links capacity) =
    option_map (λ links. record asked { links = links }) (once asked.links capacity)
asked_more asked (Latency ticks) =
    option_map (λ latency. record asked { latency = latency }) (once asked.latency ticks)
asked_more asked (Grid grid) =
    option_map (λ grid. record asked { grid = grid }) (once asked.grid grid)
asked_more asked (Letters options) =
    option_map (λ options. record asked { options = options }) (once asked.options options)
asked_more asked (Sets setting) = Some (record asked { settings = asked.settings ++ setting ∷ [] })

-- one word more asks for something, and not again
pub record Adds (before : Asked) (text : List ℕ) (next : Asked) : Type 0 where
  pub word : Word
  pub is : IsWord text word
  pub adds : asked_more before word ≡ Some next

-- the words, one after another
pub data AddAll : Asked → List (List ℕ) → Asked → Type 0 where
  no_more : {all : Asked} → AddAll all [] all
  one_more : {before next last : Asked} {text : List ℕ} {texts : List (List ℕ)}
      → Adds before text next → AddAll next texts last → AddAll before (text ∷ texts) last

-- the words behind the file, in any order
abbrev pub AskFor : List (List ℕ) → Asked → Type 0
AskFor texts asked = AddAll nothing_asked texts asked

-- the most turns
abbrev pub most_turns : Option ℕ → ℕ
most_turns None = MOST_TURNS
most_turns (Some n) = n

abbrev pub limit_of : Asked → ℕ
limit_of asked = most_turns asked.turns

-- for how many ticks a message is on its way
abbrev pub ticks_told : Option ℕ → ℕ
ticks_told None = 1
ticks_told (Some ticks) = ticks

abbrev pub latency_of : Asked → ℕ
latency_of asked = ticks_told asked.latency

-- the grid
abbrev pub grid_told : Option (List ℕ) → List ℕ
grid_told None = one_processor
grid_told (Some grid) = grid

-- the optimisations
abbrev pub options_told : Option Options → Options
options_told None = no_options
options_told (Some options) = options

-- the same, on this grid
abbrev pub asked_on : Asked → List ℕ → Asked
asked_on asked grid = record asked { grid = Some grid }

-- what the words have code built for
abbrev pub build_of : Asked → Build
build_of asked = record {
  grid = grid_told asked.grid;
  options = options_told asked.options;
  links = asked.links;
  settings = asked.settings;
}

-- ---- a command
-- The first word is its name, the second names the file, whatever it holds, and the words behind
-- ask for this.
pub record IsWorded (words : List (List ℕ)) (name file : List ℕ) (asked : Asked) : Type 0 where
  pub more : List (List ℕ)
  pub split : words ≡ name ∷ file ∷ more
  pub are : AskFor more asked

-- they are so worded, and ask for no more than the command takes
pub record IsCommandOf (name : List ℕ) (Takes : Asked → Type 0) (words : List (List ℕ))
    (file : List ℕ) (asked : Asked) : Type 0 where
  pub worded : IsWorded words name file asked
  pub takes : Takes asked

-- no file and nothing that is asked for make the words one
abbrev pub IsNoCommandOf : List ℕ → (Asked → Type 0) → List (List ℕ) → Type 0
IsNoCommandOf name Takes words =
    (file : List ℕ) (asked : Asked) → ¬ IsCommandOf name Takes words file asked

-- ---- list FILE [grid=AxBxC] [opt=LETTERS] [links=C] [name:=value ..]
pub record ListTakes (asked : Asked) : Type 0 where
  pub no_order : asked.order ≡ None
  pub no_turns : asked.turns ≡ None
  pub no_report : asked.report ≡ false
  pub no_checked : asked.checked ≡ false
  pub no_save : asked.save ≡ false
  pub no_latency : asked.latency ≡ None

abbrev pub IsList : List (List ℕ) → List ℕ → Asked → Type 0
IsList = IsCommandOf (codes "list") ListTakes

-- ---- mean FILE [turns=N] [name:=value ..]
-- The turns are those of each loop that is entered.
pub record MeanTakes (asked : Asked) : Type 0 where
  pub no_order : asked.order ≡ None
  pub no_report : asked.report ≡ false
  pub no_checked : asked.checked ≡ false
  pub no_save : asked.save ≡ false
  pub no_links : asked.links ≡ None
  pub no_latency : asked.latency ≡ None
  pub no_grid : asked.grid ≡ None
  pub no_letters : asked.options ≡ None

abbrev pub IsMean : List (List ℕ) → List ℕ → Asked → Type 0
IsMean = IsCommandOf (codes "mean") MeanTakes

-- ---- run FILE [grid=AxBxC] [opt=LETTERS] [order=FILE] [turns=N] [report] [links=C]
-- [name:=value ..]
pub record RunTakes (asked : Asked) : Type 0 where
  pub no_checked : asked.checked ≡ false
  pub no_save : asked.save ≡ false
  pub no_latency : asked.latency ≡ None

abbrev pub IsRun : List (List ℕ) → List ℕ → Asked → Type 0
IsRun = IsCommandOf (codes "run") RunTakes

-- ---- exec FILE [order=FILE] [turns=N] [report] [links=C] [checked] [save]
-- A grid is saved of a run without a report, over links that hold any number of messages, of code
-- that isn't checked.
pub record SavesAlone (asked : Asked) : Type 0 where
  pub no_report : asked.report ≡ false
  pub no_links : asked.links ≡ None
  pub no_checked : asked.checked ≡ false

-- Checked code is run over such links too.
pub record GoTogether (asked : Asked) : Type 0 where
  pub unbounded : IsTrue asked.checked → asked.links ≡ None
  pub alone : IsTrue asked.save → SavesAlone asked

pub record ExecTakes (asked : Asked) : Type 0 where
  pub together : GoTogether asked
  pub no_settings : asked.settings ≡ []
  pub no_latency : asked.latency ≡ None
  pub no_grid : asked.grid ≡ None
  pub no_letters : asked.options ≡ None

abbrev pub IsExec : List (List ℕ) → List ℕ → Asked → Type 0
IsExec = IsCommandOf (codes "exec") ExecTakes

-- ---- time FILE [order=FILE] [turns=N] [latency=L]
-- Links hold any number of messages.
pub record TimeTakes (asked : Asked) : Type 0 where
  pub no_report : asked.report ≡ false
  pub no_checked : asked.checked ≡ false
  pub no_save : asked.save ≡ false
  pub no_links : asked.links ≡ None
  pub no_settings : asked.settings ≡ []
  pub no_grid : asked.grid ≡ None
  pub no_letters : asked.options ≡ None

abbrev pub IsTime : List (List ℕ) → List ℕ → Asked → Type 0
IsTime = IsCommandOf (codes "time") TimeTakes

-- ---- check FILE
pub record CheckTakes (asked : Asked) : Type 0 where
  pub no_order : asked.order ≡ None
  pub no_turns : asked.turns ≡ None
  pub no_report : asked.report ≡ false
  pub no_checked : asked.checked ≡ false
  pub no_save : asked.save ≡ false
  pub no_links : asked.links ≡ None
  pub no_settings : asked.settings ≡ []
  pub no_latency : asked.latency ≡ None
  pub no_grid : asked.grid ≡ None
  pub no_letters : asked.options ≡ None

abbrev pub IsCheck : List (List ℕ) → List ℕ → Asked → Type 0
IsCheck = IsCommandOf (codes "check") CheckTakes

-- ---- resume FILE [order=FILE] [turns=N] [report]
-- Links hold any number of messages.
pub record ResumeTakes (asked : Asked) : Type 0 where
  pub no_checked : asked.checked ≡ false
  pub no_save : asked.save ≡ false
  pub no_links : asked.links ≡ None
  pub no_settings : asked.settings ≡ []
  pub no_latency : asked.latency ≡ None
  pub no_grid : asked.grid ≡ None
  pub no_letters : asked.options ≡ None

abbrev pub IsResume : List (List ℕ) → List ℕ → Asked → Type 0
IsResume = IsCommandOf (codes "resume") ResumeTakes

-- ---- gen N [opt=LETTERS] [turns=N]
-- The program is drawn from a number, and runs on grids that no word tells.
pub record GenTakes (asked : Asked) : Type 0 where
  pub no_order : asked.order ≡ None
  pub no_report : asked.report ≡ false
  pub no_checked : asked.checked ≡ false
  pub no_save : asked.save ≡ false
  pub no_links : asked.links ≡ None
  pub no_latency : asked.latency ≡ None
  pub no_grid : asked.grid ≡ None
  pub no_settings : asked.settings ≡ []

pub record IsGen (words : List (List ℕ)) (n : ℕ) (asked : Asked) : Type 0 where
  pub text : List ℕ
  pub worded : IsWorded words (codes "gen") text asked
  pub seed : IsSeed text n
  pub takes : GenTakes asked

-- ---- words that are none of these
pub record IsNoCommand (words : List (List ℕ)) : Type 0 where
  pub no_list : IsNoCommandOf (codes "list") ListTakes words
  pub no_mean : IsNoCommandOf (codes "mean") MeanTakes words
  pub no_run : IsNoCommandOf (codes "run") RunTakes words
  pub no_exec : IsNoCommandOf (codes "exec") ExecTakes words
  pub no_time : IsNoCommandOf (codes "time") TimeTakes words
  pub no_check : IsNoCommandOf (codes "check") CheckTakes words
  pub no_resume : IsNoCommandOf (codes "resume") ResumeTakes words
  pub no_gen : (n : ℕ) (asked : Asked) → ¬ IsGen words n asked

-- ---- a call of a command
-- The words of the call are this command, of a file and asking for something of which this holds.
pub record Asks (Is : List (List ℕ) → List ℕ → Asked → Type 0) (words : List (List ℕ))
    (Holds : List ℕ → Asked → Type 0) : Type 0 where
  pub file : List ℕ
  pub asked : Asked
  pub given : Is words file asked
  pub holds : Holds file asked
