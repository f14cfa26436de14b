use Rattle.std.proofs.Common.{sym, subst}
use Rattle.std.specs.Prelude.{Option}
use Rattle.std.specs.Option.{IfSome}
use Rattle.zpl_region.specs.declared.regions.Region.{Region}
use Rattle.save_lines.specs.Line.{IsSavedLine}
use Rattle.grid_save.specs.Writing.{Writes}
use Rattle.grid_save.specs.Written.{found_lines, slot_line}
use Rattle.grid_save.proofs.WriteLemmas.{element_more, elements_end, found_saved, writes_none}
use Rattle.grid_save.proofs.states.add_slots.Goals as goal

pub loop-i-init : goal.loop-i-init
loop-i-init c = writes_none c.args.text.now.items

pub add_slot-requires : goal.add_slot-requires
add_slot-requires c =
    subst (λ (found : Option Region). IfSome found (λ region. IsSavedLine (slot_line region))) (sym c.slot_at.ensures)
    (found_saved slot_line c.args.slots.now c.loop-i.i c.requires)

pub loop-i-preserved : goal.loop-i-preserved
loop-i-preserved c =
    element_more slot_line c.args.slots.now c.args.text.now.items c.loop-i.text.items c.add_slot.new.text.items c.loop-i.i c.loop-i.invariant
    (subst (λ (found : Option Region). Writes c.loop-i.text.items (found_lines slot_line found) c.add_slot.new.text.items) c.slot_at.ensures
    c.in_ok-add_slot.ensures)

pub returns : goal.returns
returns c = elements_end slot_line c.args.slots.now c.args.text.now.items c.loop-i.text.items c.loop-i.i c.loop-i-test.false c.loop-i.invariant
