use Rattle.std.proofs.Common.{◌≡◌, ap, ◌∙◌, sym, List, ◌++◌, ◌∷◌, [], map, rules}
use Rattle.std.specs.Prelude.{Some, slice_get}
use Rattle.grid_layout.specs.declared.boxes.ArrayBox.{ArrayBox}
use Rattle.grid_meaning.specs.Stored.{box_of, stored}
use Rattle.code_layout.proofs.BoxLemmas.{boxes_more}
use Rattle.code_layout.proofs.boxes.boxes_of.Goals as goal

pub loop-i-preserved : goal.loop-i-preserved
loop-i-preserved c =
    let row = c.unwrap.result.now in
    let found : slice_get c.args.code.now.arrays c.loop-i.i ≡ Some row = search rules in
    record {
      boxes = c.in_ok-push_box.ensures.pushed
          ∙ (ap (λ (bs : List ArrayBox). bs ++ map box_of (stored (row ∷ []))) c.loop-i.invariant.boxes
          ∙ sym (boxes_more c.args.code.now.arrays c.loop-i.i row found));
      sound = c.in_ok-push_box.ensures.sound;
    }
