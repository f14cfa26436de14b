use Rattle.std.proofs.Common.{[], get_or, ◌∙◌, ap}
use Rattle.grid_layout.specs.declared.boxes.ArrayBox.{ArrayBox}
use Rattle.grid_layout.specs.Layout.{widened}
use Rattle.grid_layout.proofs.HullLemmas.{hull_more}
use Rattle.grid_layout.proofs.blocks.hull_in.Goals as goal

abbrev none : ArrayBox
none = record { shape = record { rank = 0; dims = [] }; low = []; high = [] }

pub loop-array-preserved : goal.loop-array-preserved
loop-array-preserved c = record {
  hull = c.widened-hull.ensures.widened ∙ (ap (λ h. widened c.args.rank c.args.place h (get_or c.args.boxes.now c.loop-array.array-index none)) c.loop-array.invariant.hull
      ∙ hull_more c.args.rank c.args.place c.args.boxes.now c.loop-array.array-index none c.loop-array-test.true);
  sound = c.widened-hull.ensures.sound;
}
