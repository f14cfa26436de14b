use Rattle.std.proofs.Common.{◌+◌, [], get_or, take}
use Rattle.std.specs.Prelude.{sum_by, ◌-◌, ◌^◌}
use Rattle.grid_layout.specs.declared.boxes.ArrayBox.{ArrayBox}
use Rattle.grid_layout.specs.Words.{box_words}
use Rattle.grid_layout.proofs.SizeLemmas.{boxes_more, saturated_by}
use Rattle.grid_layout.proofs.blocks.Blocks.words_of.Goals as goal

abbrev none : ArrayBox
none = record { shape = record { rank = 0; dims = [] }; low = []; high = [] }

pub loop-array-preserved : goal.loop-array-preserved
loop-array-preserved c =
    let more = boxes_more c.args.self.now c.args.boxes.now c.loop-array.array-index none c.loop-array-test.true in
    let here = c.words.ensures in
    let added = c.saturating_add-words.ensures in
    let f = box_words c.args.self.now (get_or c.args.boxes.now c.loop-array.array-index none) in
    let sum = sum_by (box_words c.args.self.now) (take c.loop-array.array-index c.args.boxes.now) in
    saturated_by c.loop-array.words c.words.result sum f (sum_by (box_words c.args.self.now) (take (c.loop-array.array-index + 1) c.args.boxes.now)) c.saturating_add-words.result (2 ^ 128 - 1)
    c.loop-array.invariant here added more
