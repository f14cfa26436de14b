-- Brackets in a draft.
use Rattle.std.specs.Prelude.{◌≡◌, ℕ, Bool, true, false, List, [], ◌∷◌}
use Rattle.zpl_region.specs.declared.regions.Region.{Region}
use Rattle.node_form.specs.declared.instructions.Instr.TheVariants as instr
use Rattle.flat_form.specs.Row as row
use Rattle.flat_form.specs.Row.{Part, Row}
use Rattle.lower_places.specs.of_zpl_lowering.Where.{flood_of}
use Rattle.lower_places.specs.of_zpl_lowering.Bracket as plain
use Rattle.lower_places.specs.of_zpl_lowering.Statement.{of_opened}
use Rattle.lower_places.specs.of_lower_draft.Drafted.{Drafted, grown}
use Rattle.lower_regions.specs.declared.opened.Opened.{Opened}

-- the draft behind the rows of a bracket
abbrev pub with_opened : Drafted → plain.Opened → Drafted
with_opened draft opened = grown draft (of_opened opened)

-- the region is there
pub record IsOpened (plainly : plain.Opened) (opened : Opened) : Type 0 where
  pub slot : opened.slot ≡ plainly.slot
  pub flood : opened.flood ≡ plainly.flood

-- one row that fills the next slot with the region of these dimensions
abbrev pub span_of : ℕ → ℕ → List Bool → List Part → plain.Opened
span_of next line flood parts = plain.filled next flood (row.Dims next parts line)

-- a region that stands in a slot
abbrev pub standing_at : Opened → plain.Opened
standing_at opened = plain.standing opened.slot opened.flood

-- one row that fills the next slot with a region
abbrev pub fixed_at : ℕ → Region → plain.Opened
fixed_at next region =
    plain.filled next (flood_of region) (row.Plain (instr.Fix next region))

abbrev pub are_none : List Row → Bool
are_none [] = true
are_none (one ∷ rows) = false

abbrev pub has_no : List plain.Form → Bool
has_no [] = true
has_no (form ∷ forms) = false
