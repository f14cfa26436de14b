-- The words that may stand behind the file of a command.
use Rattle.std.specs.Prelude.{◌≡◌, ◌≢◌, ℕ, zero, suc, ◌≤◌, ◌==◌, Bool, true, false, if◌then◌else◌}
use Rattle.std.specs.Prelude.{List, [], ◌∷◌, ◌++◌, length, codes, get_or, IsTrue, Option, Some, None}
use Rattle.std.specs.List.{list_all}
use Rattle.std.specs.Option.{option_and_then, option_map}
use Rattle.std.specs.Char.{is_ascii_digit}
use Rattle.std.specs.Str.Parse.{digits_value}
use Rattle.zpl_tokens.specs.declared.Kind.TheVariants.{Name}
use Rattle.zpl_text.specs.Kinds.{IsToken}
use Rattle.zpl_claims.specs.of_zpl_binding.Settings.{Setting}
use Rattle.zpl_claims.specs.Build.{no_options}
use Rattle.zpl_claims.specs.declared.options.Options.{Options}
use Rattle.call_claims.specs.declared.limits.TheConstants.{MOST_DIGITS, MOST_LATENCY, MOST_LINKS, MOST_TURNS}
use Rattle.call_claims.specs.declared.limits.TheConstants.{MOST_FACTOR_DIGITS, MOST_SEED}

-- one to nineteen digits, with leading zeros allowed
pub record IsNumber (text : List ℕ) (n : ℕ) : Type 0 where
  pub some : 1 ≤ length text
  pub few : length text ≤ MOST_DIGITS
  pub digits : IsTrue (list_all is_ascii_digit text)
  pub value : n ≡ digits_value 10 text

-- a number that a program is drawn from
pub record IsSeed (text : List ℕ) (n : ℕ) : Type 0 where
  pub number : IsNumber text n
  pub some : 1 ≤ n
  pub within : n ≤ MOST_SEED

-- the word is `turns=` and a number
pub record IsTurnsWord (word : List ℕ) (n : ℕ) : Type 0 where
  pub digits : List ℕ
  pub split : word ≡ codes "turns=" ++ digits
  pub number : IsNumber digits n
  pub within : n ≤ MOST_TURNS

-- a number from 1 on, in which no zero leads
pub record IsCapacityText (digits : List ℕ) (capacity : ℕ) : Type 0 where
  pub number : IsNumber digits capacity
  pub no_zero : get_or digits 0 0 ≢ 48
  pub some : 1 ≤ capacity
  pub within : capacity ≤ MOST_LINKS

-- the word is `links=` and such a number
pub record IsLinksWord (word : List ℕ) (capacity : ℕ) : Type 0 where
  pub digits : List ℕ
  pub split : word ≡ codes "links=" ++ digits
  pub links : IsCapacityText digits capacity

-- a number in which no zero leads, but for 0 itself
pub record IsLatencyText (digits : List ℕ) (ticks : ℕ) : Type 0 where
  pub number : IsNumber digits ticks
  pub no_zero : get_or digits 0 0 ≡ 48 → length digits ≡ 1
  pub within : ticks ≤ MOST_LATENCY

-- the word is `latency=` and such a number
pub record IsLatencyWord (word : List ℕ) (ticks : ℕ) : Type 0 where
  pub digits : List ℕ
  pub split : word ≡ codes "latency=" ++ digits
  pub latency : IsLatencyText digits ticks

-- ---- optimisations
-- what is asked for once
abbrev pub first_asked : Bool → Option Bool
first_asked false = Some true
first_asked true = None

-- The optimisations with that of one letter more, of f, c, r, m, e and t: none where it is another
-- letter, or asks again.
abbrev pub with_letter : Options → ℕ → Option Options
with_letter options letter =
    if letter == 102 then option_map (λ on. record options { fuse = on }) (first_asked options.fuse)
    else if letter == 99
    then option_map (λ on. record options { contract = on }) (first_asked options.contract)
    else if letter == 114
    then option_map (λ on. record options { redundant = on }) (first_asked options.redundant)
    else if letter == 109
    then option_map (λ on. record options { merge = on }) (first_asked options.merge)
    else if letter == 101
    then option_map (λ on. record options { early = on }) (first_asked options.early)
    else if letter == 116
    then option_map (λ on. record options { tree = on }) (first_asked options.tree)
    else None

-- with those of some letters, one after another
abbrev pub with_letters : Options → List ℕ → Option Options
with_letters options [] = Some options
with_letters options (letter ∷ letters) =
    option_and_then (λ next. with_letters next letters) (with_letter options letter)

-- one letter or more, in any order
pub record AreLetters (letters : List ℕ) (options : Options) : Type 0 where
  pub some : 1 ≤ length letters
  pub told : with_letters no_options letters ≡ Some options

-- the word is `opt=` and such letters
pub record IsLettersWord (word : List ℕ) (options : Options) : Type 0 where
  pub letters : List ℕ
  pub split : word ≡ codes "opt=" ++ letters
  pub are : AreLetters letters options

-- ---- grids
-- a number of one to four digits
pub record IsFactor (text : List ℕ) (n : ℕ) : Type 0 where
  pub number : IsNumber text n
  pub few : length text ≤ MOST_FACTOR_DIGITS

-- such numbers, with an `x` between each two
pub data AreFactors : List ℕ → List ℕ → Type 0 where
  last_factor : {text : List ℕ} {n : ℕ} → IsFactor text n → AreFactors text (n ∷ [])
  one_factor : {text front rest : List ℕ} {n : ℕ} {factors : List ℕ}
      → text ≡ front ++ (codes "x" ++ rest) → IsFactor front n → AreFactors rest factors
      → AreFactors text (n ∷ factors)

-- a grid has no factor 0: where one is told that is, no grid
abbrev pub unless_zero : ℕ → List ℕ → List ℕ
unless_zero zero grid = 0 ∷ 0 ∷ 0 ∷ []
unless_zero (suc n) grid = grid

-- the grid with these factors, 0 for each absent one
abbrev pub grid_of : List ℕ → List ℕ
grid_of [] = 0 ∷ 0 ∷ 0 ∷ []
grid_of (first ∷ []) = first ∷ 0 ∷ 0 ∷ []
grid_of (first ∷ second ∷ []) = unless_zero second (first ∷ second ∷ 0 ∷ [])
grid_of (first ∷ second ∷ third ∷ more) =
    unless_zero second (unless_zero third (first ∷ second ∷ third ∷ []))

-- the text tells the grid, behind the factors before it, by so many factors at most
pub record TellsGrid (before text : List ℕ) (most : ℕ) (grid : List ℕ) : Type 0 where
  pub factors : List ℕ
  pub are : AreFactors text factors
  pub few : length factors ≤ most
  pub is : grid ≡ grid_of (before ++ factors)

-- the word is `grid=` and one to three factors
pub record IsGridWord (word : List ℕ) (grid : List ℕ) : Type 0 where
  pub text : List ℕ
  pub split : word ≡ codes "grid=" ++ text
  pub tells : TellsGrid [] text 3 grid

-- the word is a name of the language, which is no keyword, then `:=` and any text
pub record IsSettingWord (word : List ℕ) (setting : Setting) : Type 0 where
  pub named : IsToken setting.name Name
  pub split : word ≡ setting.name ++ (codes ":=" ++ setting.value)

-- the file of the order of turns, whatever its name holds; how many turns may be given; that a
-- report is wanted; that code is run only where it is sound; that a grid which may go on is saved;
-- how many messages a link holds; for how many ticks one is on its way; the grid of processors, by
-- its factors with 0 for each absent one; the optimisations; and what a config is set to
pub data Word : Type 0 where
  Order : (file : List ℕ) → Word
  Turns : (n : ℕ) → Word
  Report : Word
  Checked : Word
  Save : Word
  Links : (capacity : ℕ) → Word
  Latency : (ticks : ℕ) → Word
  Grid : (grid : List ℕ) → Word
  Letters : (options : Options) → Word
  Sets : (setting : Setting) → Word

abbrev pub IsWord : List ℕ → Word → Type 0
IsWord text (Order file) = text ≡ codes "order=" ++ file
IsWord text (Turns n) = IsTurnsWord text n
IsWord text Report = text ≡ codes "report"
IsWord text Checked = text ≡ codes "checked"
IsWord text Save = text ≡ codes "save"
IsWord text (Links capacity) = IsLinksWord text capacity
IsWord text (Latency ticks) = IsLatencyWord text ticks
IsWord text (Grid grid) = IsGridWord text grid
IsWord text (Letters options) = IsLettersWord text options
IsWord text (Sets setting) = IsSettingWord text setting
