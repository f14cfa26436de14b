-- What a row does goes by what it names, and changes what it writes alone.
use Rattle.std.specs.Prelude.{◌≡◌, ℕ, Bool, true, List, slice_get}
use Rattle.grid_meaning.specs.of_node_form.declared.instructions.Instr.{Instr}
use Rattle.grid_meaning.specs.of_node_form.declared.tables.Tables.{Tables}
use Rattle.grid_meaning.specs.of_node_form.declared.touches.Thing.{Thing}
use Rattle.grid_meaning.specs.of_node_form.declared.touches.Thing.TheVariants.{Scalar, Slot, Array}
use Rattle.grid_meaning.specs.of_node_form.Touch.{IsNamed, IsWritten}
use Rattle.nest_meaning.specs.of_row_runs.Run.{Stop, Goes, Stops, Effect, Does, Leaps, Passes}
use Rattle.flat_form.specs.Act.{act}
use Rattle.flat_form.specs.Row.{inlined}
use Rattle.flat_form.specs.Whole.{Whole}

-- two tables and two states have the same of a thing
abbrev pub HaveSame : Tables → Tables → Whole → Whole → Thing → Type 0
HaveSame tables other one two (Scalar scalar) =
    (slice_get one.scalars scalar ≡ slice_get two.scalars scalar)
    × (slice_get one.awaited scalar ≡ slice_get two.awaited scalar)
HaveSame tables other one two (Slot slot) =
    (slice_get tables.slots slot ≡ slice_get other.slots slot)
    × (slice_get one.slots slot ≡ slice_get two.slots slot)
HaveSame tables other one two (Array array) =
    (slice_get tables.arrays array ≡ slice_get other.arrays array)
    × (slice_get one.stores array ≡ slice_get two.stores array)

-- both go on, with the same bytes and like states, or both do the same
pub data DoSame (IsLike : Whole → Whole → Type 0) : Effect Whole → Effect Whole → Type 0 where
  BothGo : {bytes : List ℕ} {one two : Whole} → IsLike one two
      → DoSame IsLike (Does (Goes bytes one)) (Does (Goes bytes two))
  BothStop : {stop : Stop} → DoSame IsLike (Does (Stops stop)) (Does (Stops stop))
  BothLeap : {goal : ℕ} → DoSame IsLike (Leaps goal) (Leaps goal)
  BothPass : DoSame IsLike Passes Passes

-- Rows of two tables that are the same inline do the same, in states that have the same of some
-- things, among them all that the row names; and have the same of these things afterwards.
abbrev pub GoByNames : Type 0
GoByNames =
    (tables other : Tables) (n : ℕ) (row second : Instr) → inlined tables row ≡ inlined other second
    → (is_some : Thing → Bool) → ((thing : Thing) → IsNamed tables row thing → is_some thing ≡ true)
    → (one two : Whole) → ((thing : Thing) → is_some thing ≡ true
    → HaveSame tables other one two thing)
    → DoSame (λ s t. (thing : Thing) → is_some thing ≡ true → HaveSame tables other s t thing)
    (act tables n (inlined tables row) one) (act other n (inlined other second) two)

-- What a row doesn't write stays as it was.
abbrev pub ChangeWritten : Type 0
ChangeWritten =
    (tables : Tables) (n : ℕ) (row : Instr) (whole next : Whole) (bytes : List ℕ)
    → act tables n (inlined tables row) whole ≡ Does (Goes bytes next)
    → (thing : Thing) → (IsWritten tables row thing → ⊥) → HaveSame tables tables whole next thing
