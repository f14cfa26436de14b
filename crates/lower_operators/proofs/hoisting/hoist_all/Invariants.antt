use Rattle.std.proofs.Common.{◌≡◌, ◌++◌, drop, map}
use Rattle.node_form.specs.Expression.{words_of}
use Rattle.lower_regions.specs.of_zpl_lowering.Hoist.{all_hoisted}
use Rattle.lower_regions.specs.of_lower_draft.Drafted.{grown}
use Rattle.lower_operators.specs.Code.{free_of, of_hoisted}
use Rattle.lower_operators.specs.Sound.{AreSound}
use Rattle.lower_operators.specs.View.{slates_in}
use Rattle.lower_operators.proofs.hoisting.hoist_all.Given as goal

abbrev pub invariant-loop-slate : goal.invariant-loop-slate
invariant-loop-slate l = record {
  rows : grown l.draft (of_hoisted (all_hoisted l.numbers l.line (free_of l.draft.next)
      (slates_in (drop l.slate-index l.slates))))
      ≡ grown l.initial.draft (of_hoisted (all_hoisted l.numbers l.line
      (free_of l.initial.draft.next) (slates_in l.slates)));
  left : l.rows.items ++ map words_of (all_hoisted l.numbers l.line (free_of l.draft.next)
      (slates_in (drop l.slate-index l.slates))).left
      ≡ map words_of (all_hoisted l.numbers l.line (free_of l.initial.draft.next)
      (slates_in l.slates)).left;
  sound : AreSound (slates_in (drop l.slate-index l.slates));
}
