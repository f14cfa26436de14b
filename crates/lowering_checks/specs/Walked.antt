-- Checks in front of loops: a walk over rows that are seen inline.
--
--   Since        a loop, with checks alone behind it, and their references
--   KnowsMember  each reference of a member of a group is one of these
--   AreChecked   wherever checks alone stand between two loops over one slot, each reference of the
--                second one is among theirs; and each row has its parts in its place
use Rattle.std.specs.Prelude.{◌≡◌, ℕ, true, List, [], ◌∷◌, map, Option, Some, None}
use Rattle.node_form.specs.declared.words.ExprOp.{ExprOp}
use Rattle.node_form.specs.declared.words.ExprOp.TheVariants as word
use Rattle.node_form.specs.declared.arrays.Item.{Item}
use Rattle.node_form.specs.declared.instructions.Instr.{Instr}
use Rattle.node_form.specs.declared.instructions.Instr.TheVariants as instr
use Rattle.node_form.specs.Value.{unmoved}
use Rattle.row_runs.specs.Structured.{Piece, flattened}
use Rattle.lowering_fits.specs.of_flat_form.Laws.{IsPlain}
use Rattle.lowering_fits.specs.of_flat_form.Row as row
use Rattle.lowering_fits.specs.of_flat_form.Row.{Row, Member, Words}
use Rattle.lowering_fits.specs.of_zpl_lowering.Check.{Check, flat_row}
use Rattle.pass_parts.specs.of_fuse_contract.Fusing.{reference}
use Rattle.pass_parts.specs.Checks.{is_one_of}

-- ---- references that are known

abbrev pub IsKnown : List Item → Item → Type 0
IsKnown known item = is_one_of known item ≡ true

-- of a loop over a slot
abbrev pub KnowsWord : List Item → ℕ → ExprOp → Type 0
KnowsWord known slot (word.Here array) = IsKnown known (reference slot array unmoved)
KnowsWord known slot (word.Shifted array shift) = IsKnown known (reference slot array shift)
KnowsWord known slot one = Unit {0}

abbrev pub KnowsWords : List Item → ℕ → Words → Type 0
KnowsWords known slot [] = Unit {0}
KnowsWords known slot (one ∷ words) = KnowsWord known slot one × KnowsWords known slot words

abbrev pub KnowsMask : List Item → ℕ → Option Words → Type 0
KnowsMask known slot None = Unit {0}
KnowsMask known slot (Some words) = KnowsWords known slot words

abbrev pub KnowsMember : List Item → ℕ → Member → Type 0
KnowsMember known slot (row.Put array expr mask line) =
    IsKnown known (reference slot array unmoved)
    × KnowsWords known slot expr × KnowsMask known slot mask
KnowsMember known slot (row.Cell cell expr mask line) =
    KnowsWords known slot expr × KnowsMask known slot mask
KnowsMember known slot (row.Acc scalar operator expr mask line) =
    KnowsWords known slot expr × KnowsMask known slot mask
KnowsMember known slot (row.OpenIf expr mask line) =
    KnowsWords known slot expr × KnowsMask known slot mask
KnowsMember known slot row.Otherwise = Unit {0}
KnowsMember known slot row.CloseIf = Unit {0}
KnowsMember known slot (row.OpenWhile expr mask line) =
    KnowsWords known slot expr × KnowsMask known slot mask
KnowsMember known slot row.CloseWhile = Unit {0}
KnowsMember known slot (row.OpenRepeat mask line) = KnowsMask known slot mask
KnowsMember known slot (row.Until expr) = KnowsWords known slot expr

abbrev pub KnowsMembers : List Item → ℕ → List Member → Type 0
KnowsMembers known slot [] = Unit {0}
KnowsMembers known slot (one ∷ group) =
    KnowsMember known slot one × KnowsMembers known slot group

-- ---- a walk

-- the slot of the last loop, and the references of the checks behind it
pub record Since : Type 0 where
  pub slot : ℕ
  pub known : List Item

abbrev pub with_known : Option Since → Item → Option Since
with_known None item = None
with_known (Some since) item = Some (record since { known = item ∷ since.known })

-- behind a row that is neither a loop nor a check there is no such loop
abbrev pub behind_plain : Option Since → Instr → Option Since
behind_plain last (instr.Need slot array shift line) = with_known last (reference slot array shift)
behind_plain last one = None

abbrev pub behind_row : Option Since → Row → Option Since
behind_row last (row.Loop slot group) = Some (record { slot = slot; known = [] })
behind_row last (row.Plain one) = behind_plain last one
behind_row last one = None

abbrev pub behind_rows : Option Since → List Row → Option Since
behind_rows last [] = last
behind_rows last (one ∷ rows) = behind_rows (behind_row last one) rows

-- a loop over the slot of the last one runs only what is known
abbrev pub MayRun : Option Since → ℕ → List Member → Type 0
MayRun None slot group = Unit {0}
MayRun (Some since) slot group = since.slot ≡ slot → KnowsMembers since.known slot group

-- and no row names an expression, a group or a text by number
abbrev pub IsChecked : Option Since → Row → Type 0
IsChecked last (row.Loop slot group) = MayRun last slot group
IsChecked last (row.Plain one) = IsPlain one
IsChecked last one = Unit {0}

abbrev pub AreChecked : Option Since → List Row → Type 0
AreChecked last [] = Unit {0}
AreChecked last (one ∷ rows) = IsChecked last one × AreChecked (behind_row last one) rows

-- ---- structured code

-- the rows that it is, from a number on
abbrev pub laid : ℕ → Piece Row Check → List Row
laid at piece = map flat_row (flattened at piece)

-- wherever it stands, and whatever stands before it
abbrev pub HasChecks : Piece Row Check → Type 0
HasChecks piece = (at : ℕ) (last : Option Since) → AreChecked last (laid at piece)
