use Rattle.std.proofs.Common.{◌≡◌, ◌≤◌, ◌++◌, drop, length, map}
use Rattle.zpl_tree.specs.View.{pre_of}
use Rattle.zpl_bind.specs.Known.{known_in}
use Rattle.lower_places.specs.of_zpl_lowering.Bracket.{pre_forms}
use Rattle.lower_regions.specs.Forms.{form_of}
use Rattle.lower_regions.proofs.forms.put_pres.Given as goal

abbrev pub decreases-loop-left : goal.decreases-loop-left
decreases-loop-left l = l.left

abbrev pub invariant-loop-left : goal.invariant-loop-left
invariant-loop-left l = record {
  within : l.left ≤ length l.pre;
  done : map form_of l.forms.items
      ≡ map form_of l.initial.forms.items
      ++ pre_forms (known_in l.known) (map pre_of (drop l.left l.pre));
}
