use Rattle.std.proofs.Common.{◌≡◌, fold, take}
use Rattle.std.specs.Prelude.{flat_map}
use Rattle.temp_norm.specs.of_code_parts.Uses.{member_words}
use Rattle.fuse_contract.specs.Joining.{no_uses, with_member, with_word}
use Rattle.fuse_contract.proofs.uses.uses_of.Given as goal

abbrev pub invariant-loop-member : goal.invariant-loop-member
invariant-loop-member l =
    l.uses
    ≡ fold (with_word l.slot) (fold (with_member l.slot) no_uses l.members)
    (flat_map (member_words l.tables) (take l.member-index l.members))
