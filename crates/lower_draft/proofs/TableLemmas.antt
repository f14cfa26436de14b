-- The tables that a draft becomes.
use Rattle.std.proofs.Common.{◌≡◌, List, [], ◌∷◌, ◌++◌, ℕ, map, sym, ap, ◌∙◌, append-nil}
use Rattle.std.proofs.Common.{append_assoc}
use Rattle.zpl_region.specs.declared.regions.Region.{Region}
use Rattle.zpl_lowering.specs.of_node_form.declared.arrays.ArrayRow.{ArrayRow}
use Rattle.zpl_lowering.specs.of_node_form.declared.instructions.Instr.{Instr}
use Rattle.zpl_lowering.specs.of_node_form.declared.instructions.Instr.TheVariants as instr
use Rattle.zpl_lowering.specs.of_node_form.declared.members.Member.{Member}
use Rattle.zpl_lowering.specs.of_node_form.declared.tables.Tables.{Tables}
use Rattle.zpl_lowering.specs.of_flat_form.Row as row
use Rattle.zpl_lowering.specs.of_flat_form.Row.{Words, with_row}
use Rattle.zpl_lowering.specs.Tables.{stored_rows, temp_row}
use Rattle.lower_draft.specs.Drafted.{Drafted, finished, owning}

plain_row : (tables : Tables) (one : Instr) →
    record tables { code = tables.code ++ one ∷ [] } ≡ with_row tables (row.Plain one)
plain_row tables one =
    ap (λ (xs : List Words). record tables { exprs = xs; code = tables.code ++ one ∷ [] })
    (sym (append-nil tables.exprs))
    ∙ ap (λ (xs : List (List Member)). record tables {
      exprs = tables.exprs ++ [];
      groups = xs;
      code = tables.code ++ one ∷ [];
    }) (sym (append-nil tables.groups))
    ∙ ap (λ (xs : List (List ℕ)). record tables {
      exprs = tables.exprs ++ [];
      groups = tables.groups ++ [];
      texts = xs;
      code = tables.code ++ one ∷ [];
    }) (sym (append-nil tables.texts))

pub finished_by : (draft : Drafted) (slots : List ℕ) (storages : List Region)
    (stored arrays : List ArrayRow) (code : List Instr) →
    slots ≡ draft.slots →
    storages ≡ (draft.arrays ++ draft.copies) ++ draft.later →
    stored ≡ stored_rows 0 draft.shifts storages →
    arrays ≡ stored ++ map temp_row draft.temps →
    code ≡ draft.tables.code ++ instr.End ∷ [] →
    record draft.tables {
      scalars = draft.next.scalars;
      slots = slots;
      arrays = arrays;
      code = code;
    } ≡ finished draft
finished_by draft slots storages stored arrays code slots-is storages-is stored-is arrays-is
    code-is =
    ap (λ (xs : List ℕ). record draft.tables {
      scalars = draft.next.scalars;
      slots = xs;
      arrays = arrays;
      code = code;
    }) slots-is
    ∙ ap (λ (xs : List ArrayRow). record draft.tables {
      scalars = draft.next.scalars;
      slots = draft.slots;
      arrays = xs;
      code = code;
    }) (arrays-is ∙ ap (λ (xs : List ArrayRow). xs ++ map temp_row draft.temps)
    (stored-is ∙ ap (stored_rows 0 draft.shifts)
    (storages-is ∙ append_assoc draft.arrays draft.copies draft.later)))
    ∙ ap (λ (xs : List Instr). record (owning draft) { code = xs }) code-is
    ∙ plain_row (owning draft) instr.End
