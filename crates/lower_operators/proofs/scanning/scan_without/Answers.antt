use Rattle.lower_regions.specs.of_lower_places.View.{slotted_of}
use Rattle.lower_operators.proofs.OperatorLemmas.{scan-filled}
use Rattle.lower_operators.proofs.scanning.scan_without.Goals as goal

pub returns-clause-rows : goal.returns-clause-rows
returns-clause-rows c = λ value same.
    scan-filled c.args.numbers.now c.args.line c.args.scan.now.fold c.args.scan.now.along
    (slotted_of c.args.scan.now.over.now) c.args.draft.now c.add_room.new.draft
    c.add_room-2.new.draft c.fill_both.new.draft c.scan_from.new.draft value c.args.operand
    c.in_ok-among.among c.in_ok-from.from c.in_ok-complement.complement c.args.mask
    c.in_ok-from.ensures.temp c.in_ok-complement.ensures.temp c.in_ok-among.ensures same
    c.in_ok-from.ensures.room c.in_ok-complement.ensures.room c.in_ok-fill_both.ensures
    c.in_ok-temp.ensures.rows
