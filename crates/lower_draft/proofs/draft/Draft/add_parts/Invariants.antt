use Rattle.std.proofs.Common.{◌≡◌, [], length, map}
use Rattle.std.specs.Vec.Iter.{into_iter_items, into_iter_len}
use Rattle.zpl_lowering.specs.of_flat_form.Row.{part_coded, part_words}
use Rattle.lower_draft.specs.Inline.{part_of}
use Rattle.lower_draft.proofs.PushLemmas.{coded_behind, with_all}
use Rattle.lower_draft.proofs.draft.Draft.add_parts.Given as goal

abbrev pub invariant-loop-part : goal.invariant-loop-part
invariant-loop-part l =
    (coded_behind part_words part_coded l.rows.items l.self
    (map part_of (into_iter_items l.part-iterator))
    ≡ coded_behind part_words part_coded [] l.initial.self
    (map part_of (into_iter_items l.initial.part-iterator)))
    × (with_all part_words part_coded l.self (map part_of (into_iter_items l.part-iterator))
    ≡ with_all part_words part_coded l.initial.self
    (map part_of (into_iter_items l.initial.part-iterator)))
    × (into_iter_len l.part-iterator ≡ length (into_iter_items l.part-iterator))
