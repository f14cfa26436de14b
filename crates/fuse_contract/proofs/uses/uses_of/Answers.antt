use Rattle.std.proofs.Common.{◌∙◌, ap, arith, fold, List}
use Rattle.std.specs.Prelude.{flat_map}
use Rattle.std.proofs.lemmas.List.{take_all}
use Rattle.temp_norm.specs.of_node_form.declared.members.Member.{Member}
use Rattle.temp_norm.specs.of_code_parts.Uses.{member_words}
use Rattle.fuse_contract.specs.Joining.{no_uses, with_member, with_word}
use Rattle.fuse_contract.proofs.UseLemmas.{all_used}
use Rattle.fuse_contract.proofs.uses.uses_of.Goals as goal

pub returns : goal.returns
returns c =
    c.loop-member.invariant
    ∙ (ap (λ (l : List Member). fold (with_word c.args.slot)
    (fold (with_member c.args.slot) no_uses c.args.members.now)
    (flat_map (member_words c.args.tables.now) l))
    (take_all c.loop-member.member-index c.args.members.now (omega arith))
    ∙ all_used c.args.tables.now c.args.slot c.args.members.now)
