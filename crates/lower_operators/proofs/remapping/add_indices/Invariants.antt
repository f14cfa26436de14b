use Rattle.std.proofs.Common.{◌≡◌, ◌++◌, map}
use Rattle.lower_regions.specs.of_zpl_lowering.Hoist.{mask_code}
use Rattle.lower_regions.specs.of_lower_draft.Drafted.{grown}
use Rattle.lower_regions.specs.of_lower_draft.Inline.{member_of}
use Rattle.lower_regions.specs.of_lower_places.View.{slotted_of}
use Rattle.lower_operators.specs.Remapped.{puts_of, with_rooms}
use Rattle.lower_operators.proofs.remapping.add_indices.Given as goal

abbrev pub invariant-loop-expr : goal.invariant-loop-expr
invariant-loop-expr l = record {
  rooms : grown l.draft (with_rooms (slotted_of l.over) l.draft.next.temps
      l.expr-iterator.rest.items)
      ≡ grown l.initial.draft (with_rooms (slotted_of l.over) l.initial.draft.next.temps
      l.initial.expr-iterator.rest.items);
  group : map member_of l.group.items ++ puts_of l.line (mask_code l.numbers
      (slotted_of l.over).mask) l.draft.next.temps l.expr-iterator.rest.items
      ≡ puts_of l.line (mask_code l.numbers (slotted_of l.over).mask) l.initial.draft.next.temps
      l.initial.expr-iterator.rest.items;
}
