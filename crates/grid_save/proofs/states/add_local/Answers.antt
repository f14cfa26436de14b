use Rattle.std.proofs.Common.{◌++◌, [], ◌∷◌, All, ap, map, sym, subst, ◌∙◌}
use Rattle.zpl_region.specs.declared.regions.Region.{Region}
use Rattle.save_lines.specs.declared.lines.SavedLine.TheVariants.{Proc, Scalars, Cells}
use Rattle.save_lines.specs.Line.{IsProcRow, IsSavedLine, saved_text}
use Rattle.save_lines.proofs.Appends.{by_ok}
use Rattle.grid_save.specs.Writing.{Writes}
use Rattle.grid_save.specs.Written.{kept_lines, proc_row, slot_line, store_line}
use Rattle.grid_save.proofs.NumberLemmas.{slots_saved}
use Rattle.grid_save.proofs.WriteLemmas.{local_written, writes_one}
use Rattle.grid_save.proofs.states.add_local.Goals as goal

pub add_slots-requires : goal.add_slots-requires
add_slots-requires c =
    subst (λ slots. All (λ (region : Region). IsSavedLine (slot_line region)) slots) (sym c.slots.ensures)
    (slots_saved c.args.code.now.slots c.args.local.now.local.slots c.requires.ready.state.parts.slots)

pub returns : goal.returns
returns c =
    let local = c.args.local.now.local in
    let code = c.args.code.now in
    let old = c.args.text.now.items in
    let row = c.in_ok-proc_row.ensures in
    let proc = Proc (proc_row c.args.p local) in
    let is : IsSavedLine proc = subst IsProcRow row.0 row.1 in
    let first : Writes old (proc ∷ []) c.write_line.new.into.items =
    writes_one old c.write_line.new.into.items proc is
    (c.in_ok-write_line.ensures ∙ ap (λ row. old ++ saved_text (Proc row ∷ [])) row.0) in
    let slots : Writes c.add_scalars.new.text.items (map slot_line local.slots) c.add_slots.new.text.items =
    subst (λ slots. Writes c.add_scalars.new.text.items (map slot_line slots) c.add_slots.new.text.items) c.slots.ensures c.in_ok-add_slots.ensures in
    by_ok c.add_kept.result _ _ (c.add_kept.ensures code (sym c.requires.count)) (λ last.
    local_written old c.write_line.new.into.items c.add_scalars.new.text.items c.add_slots.new.text.items c.add_cells.new.text.items
    c.add_stores.new.text.items c.add_kept.new.text.items proc (Scalars local.scalars) (Cells local.cells) (map slot_line local.slots)
    (map store_line local.stores) (kept_lines code local.kept) first c.in_ok-add_scalars.ensures slots
    c.in_ok-add_cells.ensures c.in_ok-add_stores.ensures last)
