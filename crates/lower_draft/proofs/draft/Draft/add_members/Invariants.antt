use Rattle.std.proofs.Common.{◌≡◌, [], length, map}
use Rattle.std.specs.Vec.Iter.{into_iter_items, into_iter_len}
use Rattle.zpl_lowering.specs.of_flat_form.Row.{member_coded, member_words}
use Rattle.lower_draft.specs.Inline.{member_of}
use Rattle.lower_draft.proofs.PushLemmas.{coded_behind, with_all}
use Rattle.lower_draft.proofs.draft.Draft.add_members.Given as goal

abbrev pub invariant-loop-member : goal.invariant-loop-member
invariant-loop-member l =
    (coded_behind member_words member_coded l.members.items l.self
    (map member_of (into_iter_items l.member-iterator))
    ≡ coded_behind member_words member_coded [] l.initial.self
    (map member_of (into_iter_items l.initial.member-iterator)))
    × (with_all member_words member_coded l.self (map member_of (into_iter_items l.member-iterator))
    ≡ with_all member_words member_coded l.initial.self
    (map member_of (into_iter_items l.initial.member-iterator)))
    × (into_iter_len l.member-iterator ≡ length (into_iter_items l.member-iterator))
