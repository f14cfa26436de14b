-- Stretches of code, and a walk over the code that forgets all where a stretch ends.
use Rattle.std.specs.Prelude.{◌≡◌, ◌⊎◌, ℕ, ◌+◌, ◌<◌, ◌==◌, Bool, true, false, ◌&&◌, ◌||◌}
use Rattle.std.specs.Prelude.{if◌then◌else◌}
use Rattle.std.specs.Prelude.{List, [], ◌∷◌, ◌++◌, length, fold}
use Rattle.std.specs.List.{AllByRecursion, list_any}
use Rattle.node_form.specs.declared.instructions.Instr.{Instr}
use Rattle.node_form.specs.declared.instructions.Instr.TheVariants as instr

-- ---- goals
-- a jump or a test that may lead to the row with this number
abbrev pub leads_to : ℕ → Instr → Bool
leads_to at (instr.Jump goal) = goal == at
leads_to at (instr.Unless expr goal line) = goal == at
leads_to at row = false

abbrev pub is_goal : List Instr → ℕ → Bool
is_goal code at = list_any (leads_to at) code

-- ---- stretches
-- a row that stands in no stretch
abbrev pub ends_stretch : Instr → Bool
ends_stretch (instr.Jump goal) = true
ends_stretch (instr.Unless expr goal line) = true
ends_stretch (instr.Trap kind line) = true
ends_stretch instr.End = true
ends_stretch row = false

-- these rows are empty, or the last of them stands in no stretch
pub data EndsAny : List Instr → Type 0 where
  nothing_before : EndsAny []
  ended_by : (rows : List Instr) (last : Instr) → ends_stretch last ≡ true →
      EndsAny (rows ++ last ∷ [])

-- A stretch: rows of the code one after another, without a jump, a test, a trap and an end, of which
-- only the first may be a goal. Whatever could stand in it before its first row does.
pub record IsStretch (code rows : List Instr) : Type 0 where
  pub front : List Instr
  pub back : List Instr
  pub place : code ≡ front ++ (rows ++ back)
  pub straight : AllByRecursion (λ row. ends_stretch row ≡ false) rows
  pub inside : (k : ℕ) → 0 < k → k < length rows → is_goal code (length front + k) ≡ false
  pub begins : EndsAny front ⊎ (is_goal code (length front) ≡ true)

-- ---- a walk
-- What is known in front of a row: nothing at a goal and behind a row that ends a stretch, and else
-- what the rows before it in its stretch tell, one after another. Each row of a stretch stands a
-- test by what is known.
module _ {F : Type 0} (nothing : F) (learn : F → Instr → F) (is_right : F → Instr → Bool)
    (code : List Instr) where
  abbrev pub known_at : ℕ → F → F
  known_at at facts = if is_goal code at then nothing else facts

  abbrev pub known_behind : F → Instr → F
  known_behind facts row = if ends_stretch row then nothing else learn facts row

  abbrev pub right_from : ℕ → F → List Instr → Bool
  right_from at facts [] = true
  right_from at facts (row ∷ rows) =
      (ends_stretch row || is_right (known_at at facts) row)
      && right_from (at + 1) (known_behind (known_at at facts) row) rows

  abbrev pub is_right_throughout : Bool
  is_right_throughout = right_from 0 nothing code

  -- the same on stretches: by what the rows before it in its stretch tell, each row stands the test
  abbrev pub IsRightInStretches : Type 0
  IsRightInStretches =
      (before : List Instr) (row : Instr) → IsStretch code (before ++ row ∷ []) →
      is_right (fold learn nothing before) row ≡ true
