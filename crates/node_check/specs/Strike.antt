-- Uniform scalars, and slots with known regions, that no sets of facts have: what is lost, as a set
-- of numbers. The number of a scalar is even, and that of a slot is odd.
use Rattle.std.specs.Prelude.{◌≡◌, ◌≢◌, ℕ, ◌+◌, ◌*◌, Bool, false, not, List, filter, flat_map}
use Rattle.std.specs.Prelude.{Option, Some, None, slice_get, unwrap_or, if◌then◌else◌}
use Rattle.std.specs.List.{list_all}
use Rattle.bit_sets.specs.Bits.{bit_of}
use Rattle.code_parts.proofs.ListLemmas.{In}
use Rattle.code_parts.specs.Uses.{scalars_in, words_of}
use Rattle.node_form.specs.declared.instructions.Instr.{Instr}
use Rattle.node_form.specs.declared.instructions.Instr.TheVariants as instr
use Rattle.node_form.specs.declared.tables.Tables.{Tables}
use Rattle.node_check.specs.declared.strikes.Change.{Change}
use Rattle.node_check.specs.declared.strikes.Mark.{Mark}
use Rattle.node_check.specs.Fact.{Fact, Stands, Uniform}
use Rattle.node_check.specs.Front.{Point}
use Rattle.node_check.specs.Path.{AreFacts, Comes}

abbrev pub is_lost : List ℕ → Fact → Bool
is_lost lost (Uniform scalar) = bit_of lost (2 * scalar)
is_lost lost (Stands slot region) = bit_of lost (2 * slot + 1)
is_lost lost fact = false

abbrev pub AreLeft : List ℕ → List Fact → Type 0
AreLeft lost facts = (fact : Fact) → In facts fact → is_lost lost fact ≡ false

-- some path leads there, and no sets of facts have there what is lost
pub record IsLost (code : Tables) (at : ℕ) (lost : List ℕ) : Type 0 where
  pub opened : List ℕ
  pub comes : Comes code at opened
  pub none : (facts : ℕ → List Fact) → AreFacts code facts → AreLeft lost (facts at)

abbrev pub IsLostAt : Tables → ℕ → Option (List ℕ) → Type 0
IsLostAt code at None = Unit {0}
IsLostAt code at (Some lost) = IsLost code at lost

-- ---- what an instruction changes
abbrev pub are_left : Tables → List ℕ → ℕ → Bool
are_left code lost expr =
    list_all (λ scalar. not (bit_of lost (2 * scalar))) (flat_map scalars_in (words_of code expr))

abbrev pub change_of : Tables → List ℕ → Instr → Option Change
change_of code lost (instr.Set scalar expr line) =
    Some (record { number = 2 * scalar; is_lost = not (are_left code lost expr) })
change_of code lost (instr.Fold scalar fold) = Some (record { number = 2 * scalar; is_lost = false })
change_of code lost (instr.TreeFold scalar fold) =
    Some (record { number = 2 * scalar; is_lost = false })
change_of code lost (instr.Fix slot region) =
    Some (record { number = 2 * slot + 1; is_lost = false })
change_of code lost (instr.Formed form slot from shift line) =
    Some (record { number = 2 * slot + 1; is_lost = bit_of lost (2 * from + 1) })
change_of code lost row = None

-- one number is put in or taken out, where there is room for it
pub record IsPut (old new : List ℕ) (number : ℕ) (is_in : Bool) : Type 0 where
  pub here : is_in ≡ false → bit_of new number ≡ false
  pub others : (other : ℕ) → other ≢ number → bit_of new other ≡ bit_of old other

abbrev pub IsChanged : List ℕ → List ℕ → Option Change → Type 0
IsChanged old new None = new ≡ old
IsChanged old new (Some change) = IsPut old new change.number change.is_lost

-- ---- what is lost at goals
abbrev pub mark_at : List (Option Mark) → ℕ → Option Mark
mark_at marks at = unwrap_or (slice_get marks at) None

abbrev pub IsMarkAt : Tables → ℕ → Option Mark → Type 0
IsMarkAt code at None = Unit {0}
IsMarkAt code at (Some mark) = IsLost code at mark.lost

abbrev pub AreMarks : Tables → List (Option Mark) → Type 0
AreMarks code marks = (at : ℕ) → IsMarkAt code at (mark_at marks at)

-- what is to be carried on from a goal
abbrev pub taken_up : Mark → Option (List ℕ)
taken_up mark = if mark.is_new then Some mark.lost else None

-- ---- what is known at a goal, without what is lost there
abbrev pub left_of : List ℕ → Point → Point
left_of lost point = record point { facts = filter (λ fact. not (is_lost lost fact)) point.facts }

abbrev pub struck : Option Mark → Option Point → Option Point
struck None o = o
struck (Some mark) None = None
struck (Some mark) (Some point) = Some (left_of mark.lost point)
