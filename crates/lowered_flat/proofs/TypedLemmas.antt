-- Tables with each text once are as types give them where the tables are, and rows bring no cells.
use Rattle.std.proofs.Common.{◌≡◌, List, [], ◌∷◌, map, refl}
use Rattle.std.specs.Prelude.{ℕ, All}
use Rattle.std.proofs.lemmas.List.Elements.{All-cons, All-head, All-nil, All-tail}
use Rattle.node_form.specs.declared.instructions.Instr.{Instr}
use Rattle.node_form.specs.declared.instructions.Instr.TheVariants as instr
use Rattle.node_form.specs.declared.tables.Tables.{Tables}
use Rattle.lowering_fits.specs.of_flat_form.Row.{Row, with_row, with_rows}
use Rattle.lowering_fits.specs.of_text_sharing.Shared.{row_shared, texts_shared}
use Rattle.typed_tables.specs.Typed.{AreTyped, IsTypedRow}

shared_row : (texts : List (List ℕ)) (one : Instr) → IsTypedRow one →
    IsTypedRow (row_shared texts one)
shared_row texts (instr.Print text) is = is
shared_row texts one is = is

shared_rows : (texts : List (List ℕ)) (rows : List Instr) → All IsTypedRow rows →
    All IsTypedRow (map (row_shared texts) rows)
shared_rows texts [] all = All-nil IsTypedRow
shared_rows texts (one ∷ rows) all =
    All-cons IsTypedRow (row_shared texts one) (map (row_shared texts) rows)
    (shared_row texts one (All-head IsTypedRow one rows all))
    (shared_rows texts rows (All-tail IsTypedRow one rows all))

pub shared_typed : (tables : Tables) → AreTyped tables → AreTyped (texts_shared tables)
shared_typed tables are = record {
  arrays = are.arrays;
  exprs = are.exprs;
  exchanges = are.exchanges;
  code = shared_rows tables.texts tables.code are.code;
}

pub cells_are : (base : Tables) (rows : List Row) → (with_rows base rows).cells ≡ base.cells
cells_are base [] = refl
cells_are base (one ∷ rows) = cells_are (with_row base one) rows
