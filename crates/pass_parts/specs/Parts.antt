-- What passes owe of the parts of tidy code.
--
--   known_after        the references that are known behind rows that begin a stretch
--   KnowsWhatItJoins   where a loop could join the one in front of it, its references are known
--   StandsWithWhatItJoins   and it may stand wherever that one does
--   CanBeFused         loops can be joined wherever that leaves one
--   names_alone        a row names an array by itself
--   IsCellLeft         exchanges aside, an array could be a cell
use Rattle.std.specs.Prelude.{◌≡◌, ◌≢◌, ℕ, Bool, true, false, None, List, [], ◌∷◌, ◌++◌, All}
use Rattle.std.specs.Prelude.{Contains, flat_map, fold, slice_get, Some}
use Rattle.std.specs.List.{list_all}
use Rattle.node_form.specs.declared.arrays.Item.{Item}
use Rattle.node_form.specs.declared.members.Member.{Member}
use Rattle.node_form.specs.declared.members.Member.TheVariants as member
use Rattle.node_form.specs.declared.instructions.Instr.{Instr}
use Rattle.node_form.specs.declared.instructions.Instr.TheVariants as instr
use Rattle.node_form.specs.declared.tables.Tables.{Tables}
use Rattle.node_form.specs.Group.{depth_behind}
use Rattle.code_parts.specs.Counts.{count_of}
use Rattle.code_parts.specs.Fused.{are_joinable, is_between_loops}
use Rattle.code_parts.specs.Stretch.{IsStretch}
use Rattle.code_parts.specs.Uses.{arrays_in, members_of, named_arrays, named_by, shifted_arrays}
use Rattle.code_parts.specs.Uses.{words_of}
use Rattle.pass_sizes.specs.of_fuse_contract.Contracting.{arrays_of_row, is_among}
use Rattle.pass_sizes.specs.of_fuse_contract.Fusing.{known_behind, lies_within, references_of, stands_with}

-- ---- joined loops
-- behind a loop its references are known, and behind other rows what these leave known
abbrev pub known_with : Tables → List Item → Instr → List Item
known_with tables known (instr.Loop slot group) =
    references_of tables slot (members_of tables group) ++ known
known_with tables known row = known_behind known row

abbrev pub known_after : Tables → List Instr → List Item
known_after tables rows = fold (known_with tables) [] rows

-- wherever a loop stands directly behind another one that it could join, each of its references is
-- known to lie within its array there
abbrev pub KnowsWhatItJoins : Tables → Type 0
KnowsWhatItJoins tables =
    (before : List Instr) (slot one other : ℕ) →
    IsStretch tables.code (before ++ instr.Loop slot one ∷ instr.Loop slot other ∷ []) →
    are_joinable tables one other ≡ true →
    list_all (lies_within tables (known_after tables (before ++ instr.Loop slot one ∷ [])))
    (references_of tables slot (members_of tables other)) ≡ true

-- and it may stand wherever that one does
abbrev pub StandsWithWhatItJoins : Tables → Type 0
StandsWithWhatItJoins tables =
    (before : List Instr) (slot one other : ℕ) →
    IsStretch tables.code (before ++ instr.Loop slot one ∷ instr.Loop slot other ∷ []) →
    are_joinable tables one other ≡ true →
    stands_with tables (members_of tables one) (members_of tables other) ≡ true

-- both, and no vote and no exchange stands there
pub record CanBeFused (tables : Tables) : Type 0 where
  pub flat : All (λ row. is_between_loops row ≡ false) tables.code
  pub known : KnowsWhatItJoins tables
  pub stands : StandsWithWhatItJoins tables

-- ---- cells
-- a row of a flat program names the array by itself, and not by its group; `need`, `room` and
-- `clear` aside
abbrev pub names_alone : ℕ → Instr → Bool
names_alone array row = is_among array (arrays_of_row row)

-- The array could be a cell, where exchanges don't count as its names.
pub record IsCellLeft (tables : Tables) (array group : ℕ) : Type 0 where
  pub no_row : count_of (names_alone array) tables ≡ 0
  pub no_other : (other : ℕ) → other ≢ group → ¬ Contains (named_arrays tables other) array
  pub unshifted : ¬ Contains (shifted_arrays tables group) array
  pub before : List Member
  pub expr : ℕ
  pub line : ℕ
  pub after : List Member
  pub place : slice_get tables.groups group ≡
      Some (before ++ member.Put array expr None line ∷ after)
  pub first : All (λ one. ¬ Contains (named_by tables one) array) before
  pub outermost : fold depth_behind 0 before ≡ 0
  pub unread : ¬ Contains (flat_map arrays_in (words_of tables expr)) array

abbrev pub HasNoCellLeft : Tables → Type 0
HasNoCellLeft tables = (array group : ℕ) → ¬ IsCellLeft tables array group
