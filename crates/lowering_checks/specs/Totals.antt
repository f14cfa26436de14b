-- Loops that accumulate, and loops that put nothing, along rows that are seen inline.
--
--   behind_all       the group of the last loop, where checks alone stand behind it
--   AreApart         where checks alone stand between two loops, neither accumulates, and the first
--                    one puts an array
--   NoneAccumulates, FirstPuts  the same of tables
use Rattle.std.specs.Prelude.{◌≡◌, ◌≢◌, ℕ, Bool, true, false, List, [], ◌∷◌, ◌++◌, Option, Some, None, flat_map}
use Rattle.std.specs.List.{AllByRecursion, list_any}
use Rattle.node_form.specs.declared.instructions.Instr.{Instr}
use Rattle.node_form.specs.declared.instructions.Instr.TheVariants as instr
use Rattle.node_form.specs.declared.tables.Tables.{Tables}
use Rattle.code_parts.specs.Stretch.{IsStretch}
use Rattle.code_parts.specs.Uses.{members_of, put_by}
use Rattle.lowering_fits.specs.of_flat_form.Row as row
use Rattle.lowering_fits.specs.of_flat_form.Row.{Row, Member}
use Rattle.lowering_fits.specs.of_zpl_lowering.Statement.{has_put}
use Rattle.pass_parts.specs.of_fuse_contract.Fusing.{is_accumulating}
use Rattle.pass_parts.specs.Checks.{is_check}

abbrev pub has_total : List Member → Bool
has_total [] = false
has_total (row.Acc scalar operator expr mask line ∷ group) = true
has_total (one ∷ group) = has_total group

abbrev pub behind_plain : Option (List Member) → Instr → Option (List Member)
behind_plain last (instr.Need slot array shift line) = last
behind_plain last one = None

abbrev pub behind_one : Option (List Member) → Row → Option (List Member)
behind_one last (row.Loop slot group) = Some group
behind_one last (row.Plain one) = behind_plain last one
behind_one last one = None

abbrev pub behind_all : Option (List Member) → List Row → Option (List Member)
behind_all last [] = last
behind_all last (one ∷ rows) = behind_all (behind_one last one) rows

-- the group of a loop that others may follow with checks alone between
abbrev pub MayLead : List Member → Type 0
MayLead group = (has_total group ≡ false) × (has_put group ≡ true)

abbrev pub MayFollow : Option (List Member) → List Member → Type 0
MayFollow None group = Unit {0}
MayFollow (Some first) group = MayLead first × (has_total group ≡ false)

abbrev pub IsApart : Option (List Member) → Row → Type 0
IsApart last (row.Loop slot group) = MayFollow last group
IsApart last one = Unit {0}

abbrev pub AreApart : Option (List Member) → List Row → Type 0
AreApart last [] = Unit {0}
AreApart last (one ∷ rows) = IsApart last one × AreApart (behind_one last one) rows

-- wherever checks alone stand between two loops, neither accumulates
abbrev pub NoneAccumulates : Tables → Type 0
NoneAccumulates tables =
    (before between : List Instr) (slot other_slot one other : ℕ) →
    IsStretch tables.code
    (before ++ instr.Loop slot one ∷ (between ++ instr.Loop other_slot other ∷ [])) →
    AllByRecursion (λ row. is_check row ≡ true) between →
    (list_any is_accumulating (members_of tables one) ≡ false)
    × (list_any is_accumulating (members_of tables other) ≡ false)

-- and the first one puts an array
abbrev pub FirstPuts : Tables → Type 0
FirstPuts tables =
    (before between : List Instr) (slot other_slot one other : ℕ) →
    IsStretch tables.code
    (before ++ instr.Loop slot one ∷ (between ++ instr.Loop other_slot other ∷ [])) →
    AllByRecursion (λ row. is_check row ≡ true) between →
    flat_map put_by (members_of tables one) ≢ []
