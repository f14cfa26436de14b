use Rattle.std.proofs.Common.{ap, ◌∙◌}
use Rattle.lower_regions.specs.of_lower_places.Numbers.{stored_of}
use Rattle.lower_regions.specs.of_lower_places.View.{slotted_of}
use Rattle.lower_operators.proofs.RemapLemmas.{remapped, remapped-left}
use Rattle.lower_operators.proofs.remapping.remap_stored.Goals as goal

pub returns-clause-rows : goal.returns-clause-rows
returns-clause-rows c = λ start hoisted h same.
    remapped c.args.numbers.now c.args.line (slotted_of c.args.over.now)
    (stored_of c.args.stored) start c.args.draft.now c.compute_indices.new.draft
    c.test_all.new.draft c.push_trap.new.draft c.read_into.new.draft hoisted c.args.indices.items
    c.next-first.result.temps c.in_ok-scalar.scalar c.in_ok-outside.outside c.in_ok-parts.parts h same
    (ap (λ n. n.temps) c.next-first.ensures) c.in_ok-compute_indices.ensures c.in_ok-outside.ensures
    c.in_ok-scalar.ensures.number c.in_ok-scalar.ensures.rows c.in_ok-push_trap.ensures
    (c.in_ok-parts.ensures c.args.indices.items (c.len.ensures ∙ c.args.indices.ok.0)) c.in_ok-temp.ensures.rows

pub returns-clause-left : goal.returns-clause-left
returns-clause-left c = λ start hoisted h same.
    remapped-left c.args.numbers.now c.args.line (slotted_of c.args.over.now)
    (stored_of c.args.stored) start c.args.draft.now c.compute_indices.new.draft
    c.test_all.new.draft c.push_trap.new.draft c.read_into.new.draft hoisted c.args.indices.items
    c.next-first.result.temps c.in_ok-scalar.scalar c.in_ok-outside.outside c.in_ok-parts.parts h same
    (ap (λ n. n.temps) c.next-first.ensures) c.in_ok-compute_indices.ensures c.in_ok-temp.temp
    c.in_ok-scalar.ensures.rows c.in_ok-push_trap.ensures c.in_ok-temp.ensures.temp
