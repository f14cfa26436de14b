use Rattle.node_form.specs.declared.instructions.Instr.TheVariants as instr
use Rattle.lower_regions.specs.of_lower_places.View.{slotted_of}
use Rattle.lower_operators.proofs.OperatorLemmas.{sourced, sourced-left}
use Rattle.lower_operators.proofs.folding.flood_over.Goals as goal

pub returns-clause-rows : goal.returns-clause-rows
returns-clause-rows c = λ start hoisted is.
    let over = slotted_of c.args.over.now in
    let source = slotted_of c.args.source.now in
    sourced c.args.line over source
    (λ array from. instr.Flood array over.slot from source.slot) start
    c.args.draft.now c.keep.new.draft hoisted c.in_ok-from.from c.in_ok-array.array
    c.args.operand is c.in_ok-from.ensures.temp (c.in_ok-from.ensures.rows hoisted.left is.left)
    c.in_ok-array.ensures.temp c.add_room.new.draft c.push_plain.new.draft
    c.in_ok-array.ensures.room c.in_ok-push_plain.ensures

pub returns-clause-left : goal.returns-clause-left
returns-clause-left c = λ start hoisted is.
    let over = slotted_of c.args.over.now in
    let source = slotted_of c.args.source.now in
    sourced-left c.args.line over source
    (λ array from. instr.Flood array over.slot from source.slot) start
    c.args.draft.now c.keep.new.draft hoisted c.in_ok-from.from c.in_ok-array.array
    c.args.operand is c.in_ok-from.ensures.temp (c.in_ok-from.ensures.rows hoisted.left is.left)
    c.in_ok-array.ensures.temp
