use Rattle.std.proofs.Common.{◌≡◌, drop}
use Rattle.lower_regions.specs.of_zpl_lowering.Slate.{settled_each}
use Rattle.lower_regions.specs.of_lower_draft.Drafted.{grown}
use Rattle.lower_regions.specs.of_lower_places.View.{where_of}
use Rattle.lower_operators.specs.Code.{of_settled}
use Rattle.lower_operators.specs.Sound.{AreSound}
use Rattle.lower_operators.specs.View.{all_placed, slates_before, slates_in}
use Rattle.lower_operators.proofs.phasing.settled_each.Given as goal

abbrev pub invariant-loop-placed : goal.invariant-loop-placed
invariant-loop-placed l = record {
  rows : grown l.draft (of_settled (settled_each (where_of l.place) l.line l.draft.next
      (all_placed (drop l.placed-index l.exprs))))
      ≡ grown l.initial.draft (of_settled (settled_each (where_of l.place) l.line
      l.initial.draft.next (all_placed l.exprs)));
  slates : slates_before l.slates.items (settled_each (where_of l.place) l.line l.draft.next
      (all_placed (drop l.placed-index l.exprs))).slate
      ≡ (settled_each (where_of l.place) l.line l.initial.draft.next
      (all_placed l.exprs)).slate;
  sound : AreSound (slates_in l.slates.items);
}
