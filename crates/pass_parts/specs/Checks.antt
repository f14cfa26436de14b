-- Checks that stand between loops.
--
--   checked_in          the references of the checks among rows
--   ChecksWhatItJoins   where checks alone stand between two loops that could be joined, they are
--                       those of the second one's references
--   ChecksWhatFollows   the same of all loops over one slot
--   StandsBehindChecks  where checks alone stand between two loops that could be joined, the second
--                       one may stand wherever the first one does
--   StandsWithWhatFollows   the same of all loops over one slot
use Rattle.std.specs.Prelude.{◌≡◌, ℕ, Bool, true, false, List, [], ◌∷◌, ◌++◌, flat_map}
use Rattle.std.specs.List.{AllByRecursion, list_all, list_any}
use Rattle.node_form.specs.declared.arrays.Item.{Item}
use Rattle.node_form.specs.declared.instructions.Instr.{Instr}
use Rattle.node_form.specs.declared.instructions.Instr.TheVariants as instr
use Rattle.node_form.specs.declared.tables.Tables.{Tables}
use Rattle.code_parts.specs.Fused.{are_joinable}
use Rattle.code_parts.specs.Stretch.{IsStretch}
use Rattle.code_parts.specs.Uses.{is_item, members_of}
use Rattle.pass_sizes.specs.of_fuse_contract.Fusing.{reference, references_of, stands_with}

abbrev pub is_check : Instr → Bool
is_check (instr.Need slot array shift line) = true
is_check row = false

abbrev pub checked_by : Instr → List Item
checked_by (instr.Need slot array shift line) = reference slot array shift ∷ []
checked_by row = []

abbrev pub checked_in : List Instr → List Item
checked_in rows = flat_map checked_by rows

-- the reference is one of these
abbrev pub is_one_of : List Item → Item → Bool
is_one_of items item = list_any (is_item item) items

-- wherever checks alone stand between two loops over one slot that are told as such that could be
-- joined, each reference of the second one is among those of the checks
abbrev pub ChecksBetween : Tables → (ℕ → ℕ → Bool) → Type 0
ChecksBetween tables joins =
    (before between : List Instr) (slot one other : ℕ) →
    IsStretch tables.code
    (before ++ instr.Loop slot one ∷ (between ++ instr.Loop slot other ∷ [])) →
    AllByRecursion (λ row. is_check row ≡ true) between → joins one other ≡ true →
    list_all (is_one_of (checked_in between)) (references_of tables slot (members_of tables other))
    ≡ true

abbrev pub ChecksWhatItJoins : Tables → Type 0
ChecksWhatItJoins tables = ChecksBetween tables (are_joinable tables)

abbrev pub ChecksWhatFollows : Tables → Type 0
ChecksWhatFollows tables = ChecksBetween tables (λ one other. true)

-- wherever checks alone stand between two loops over one slot that are told as such that could be
-- joined, the second one may stand wherever the first one does
abbrev pub StandsBetween : Tables → (ℕ → ℕ → Bool) → Type 0
StandsBetween tables joins =
    (before between : List Instr) (slot one other : ℕ) →
    IsStretch tables.code
    (before ++ instr.Loop slot one ∷ (between ++ instr.Loop slot other ∷ [])) →
    AllByRecursion (λ row. is_check row ≡ true) between → joins one other ≡ true →
    stands_with tables (members_of tables one) (members_of tables other) ≡ true

abbrev pub StandsBehindChecks : Tables → Type 0
StandsBehindChecks tables = StandsBetween tables (are_joinable tables)

abbrev pub StandsWithWhatFollows : Tables → Type 0
StandsWithWhatFollows tables = StandsBetween tables (λ one other. true)
