-- Plans in units: each start has its finish directly behind it.
use Rattle.std.specs.Prelude.{◌≡◌, ℕ, false, List, [], ◌∷◌}
use Rattle.std.specs.List.{AllByRecursion}
use Rattle.node_form.specs.declared.instructions.Instr.{Instr}
use Rattle.node_form.specs.declared.instructions.Instr.TheVariants as instr
use Rattle.node_form.specs.declared.tables.Tables.{Tables}
use Rattle.code_parts.specs.Exchanged.{is_exchange_row}
use Rattle.comm_combine.specs.of_flat_passes.Rewritten.{stretches_of}

pub data AreUnits : List Instr → Type 0 where
  NoUnits : AreUnits []
  MoreExchange : {exchange : ℕ} {rows : List Instr} → AreUnits rows
      → AreUnits (instr.Start exchange ∷ instr.Finish exchange ∷ rows)
  MoreRow : {row : Instr} {rows : List Instr} → is_exchange_row row ≡ false → AreUnits rows
      → AreUnits (row ∷ rows)

-- the straight rows of each stretch are those of units
abbrev pub IsInUnits : Tables → Type 0
IsInUnits tables = AllByRecursion (λ stretch. AreUnits stretch.front) (stretches_of tables.code)
