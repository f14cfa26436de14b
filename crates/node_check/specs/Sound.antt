-- Sound code, and what is answered of code.
use Rattle.std.specs.Prelude.{◌≡◌, ◌⊎◌, ℕ, ◌+◌, ◌<◌, ◌≤◌, true, List, length, sum_by, slice_get}
use Rattle.std.specs.Prelude.{Some, ⊤}
use Rattle.node_form.specs.declared.instructions.Instr.{Instr}
use Rattle.node_form.specs.declared.tables.Tables.{Tables}
use Rattle.node_check.specs.declared.faults.CheckFault.{CheckFault}
use Rattle.node_check.specs.declared.faults.CheckFault.TheVariants.{NoMemory, TooLarge, Unsound}
use Rattle.node_check.specs.Demand.{is_met}
use Rattle.node_check.specs.Fact.{Fact}
use Rattle.node_check.specs.Path.{AreFacts, Comes}

-- ---- sound code
-- Some sets of facts meet the demand. So do the greatest ones then, since a demand only asks for
-- facts.
pub record HasFacts (code : Tables) (at : ℕ) (opened : List ℕ) (row : Instr) : Type 0 where
  pub facts : ℕ → List Fact
  pub right : AreFacts code facts
  pub met : is_met code (facts at) opened row ≡ true

-- the same exchanges are open on all paths to the instruction
abbrev pub HasOneList : Tables → ℕ → Type 0
HasOneList code at =
    (one other : List ℕ) → Comes code at one → Comes code at other → one ≡ other

-- That is so, and its demand is met. An instruction to which no path leads has none.
pub record MeetsDemand (code : Tables) (at : ℕ) (row : Instr) : Type 0 where
  pub alike : HasOneList code at
  pub met : (opened : List ℕ) → Comes code at opened → HasFacts code at opened row

abbrev pub IsMet : Tables → ℕ → Type 0
IsMet code at = (row : Instr) → slice_get code.code at ≡ Some row → MeetsDemand code at row

abbrev pub IsSound : Tables → Type 0
IsSound code = (at : ℕ) → IsMet code at

-- The instruction's demand isn't met, and none before it has one that isn't met, those aside in
-- front of which other exchanges are open on other paths.
pub record IsLeastUnmet (code : Tables) (at : ℕ) : Type 0 where
  pub unmet : ¬ IsMet code at
  pub least : (earlier : ℕ) → earlier < at → HasOneList code earlier → IsMet code earlier

-- in front of no instruction other exchanges are open on other paths
abbrev pub HaveOneList : Tables → Type 0
HaveOneList code = (at : ℕ) → at < length code.code → HasOneList code at

-- ---- how many messages links have to hold: as many as exchanges are open at once, or one
pub record IsLinksNeeded (code : Tables) (links : ℕ) : Type 0 where
  pub positive : 1 ≤ links
  pub enough : (at : ℕ) (opened : List ℕ) → Comes code at opened → length opened ≤ links
  pub least : (links ≡ 1) ⊎ ((at : ℕ) × (opened : List ℕ) × Comes code at opened × (length opened ≡ links))

-- ---- what is answered
abbrev pub check_size : Tables → ℕ
check_size code =
    length code.code + code.scalars + length code.slots + sum_by length code.groups

abbrev pub IsLarge : Tables → Type 0
IsLarge code = 16384 < check_size code

-- the code is checked, with so many messages that links have to hold
pub record IsChecked (code : Tables) (links : ℕ) : Type 0 where
  pub small : ¬ IsLarge code
  pub sound : IsSound code
  pub needed : IsLinksNeeded code links

-- the code has this fault. Memory may be wanting for any code
abbrev pub IsFaulty : Tables → CheckFault → Type 0
IsFaulty code TooLarge = IsLarge code
IsFaulty code (Unsound at) = (¬ IsLarge code) × IsLeastUnmet code at
IsFaulty code NoMemory = ⊤
