-- Arrays that one group alone names are cells, where they can be.
use Rattle.std.specs.Prelude.{◌≡◌, ◌≢◌, ◌⊎◌, ℕ, Bool, true, false, Some, None}
use Rattle.std.specs.Prelude.{List, ◌∷◌, ◌++◌, All, Contains, flat_map, fold, slice_get}
use Rattle.node_form.specs.declared.members.Member.{Member}
use Rattle.node_form.specs.declared.members.Member.TheVariants as member
use Rattle.node_form.specs.declared.instructions.Instr.{Instr}
use Rattle.node_form.specs.declared.instructions.Instr.TheVariants as instr
use Rattle.node_form.specs.declared.tables.Tables.{Tables}
use Rattle.node_form.specs.declared.touches.Thing.TheVariants.{Array}
use Rattle.node_form.specs.Group.{depth_behind}
use Rattle.node_form.specs.Touch.{IsNamed}
use Rattle.code_parts.specs.Uses.{arrays_in, named_arrays, named_by, shifted_arrays, words_of}

-- rows that may name an array which is to become a cell; a loop names it by its group alone
abbrev pub is_aside : Instr → Bool
is_aside (instr.Need slot array shift line) = true
is_aside (instr.Room array slot) = true
is_aside (instr.Clear array) = true
is_aside (instr.Loop slot group) = true
is_aside row = false

-- The group alone names the array, `need`, `clear` and `room` aside, and always without a shift. The
-- first member that names it puts it, without a mask and outside `if`, `while` and `repeat`, and the
-- expression of that doesn't name it.
pub record CanBeCell (tables : Tables) (array group : ℕ) : Type 0 where
  pub no_row :
      All (λ row. (is_aside row ≡ true) ⊎ (IsNamed tables row (Array array) → ⊥)) tables.code
  pub no_other : (other : ℕ) → other ≢ group → ¬ Contains (named_arrays tables other) array
  pub unshifted : ¬ Contains (shifted_arrays tables group) array
  pub before : List Member
  pub expr : ℕ
  pub line : ℕ
  pub after : List Member
  pub place : slice_get tables.groups group ≡
      Some (before ++ member.Put array expr None line ∷ after)
  pub first : All (λ one. ¬ Contains (named_by tables one) array) before
  pub outermost : fold depth_behind 0 before ≡ 0
  pub unread : ¬ Contains (flat_map arrays_in (words_of tables expr)) array

abbrev pub IsContracted : Tables → Type 0
IsContracted tables = (array group : ℕ) → ¬ CanBeCell tables array group
