use Rattle.std.proofs.Common.{◌≡◌, ◌∙◌, ap, refl, subst, sym, List, Some}
use Rattle.std.specs.Prelude.{All}
use Rattle.temp_norm.specs.of_node_form.declared.members.Member.{Member}
use Rattle.temp_norm.specs.of_code_parts.Uses.{members_of}
use Rattle.fuse_contract.specs.Behind.{FitsReference, IsLast}
use Rattle.fuse_contract.specs.Joining.{last_with, uses_of}
use Rattle.fuse_contract.specs.declared.uses.GroupUses.{GroupUses}
use Rattle.fuse_contract.proofs.ReferenceLemmas.{references_fit}
use Rattle.fuse_contract.proofs.StepLemmas.{loop_added, when_ok}
use Rattle.fuse_contract.proofs.joins.add_loop.Goals as goal

pub joins-joined-requires-clause-references : goal.joins-joined-requires-clause-references
joins-joined-requires-clause-references c =
    let used : c.in_ok-uses.uses
    ≡ uses_of c.args.tables.now c.args.slot (members_of c.args.tables.now c.args.group) =
    c.in_ok-uses.ensures
    ∙ ap (uses_of c.args.tables.now c.args.slot) c.members_of-members.ensures in
    subst (λ (uses : GroupUses). All (FitsReference c.args.tables.now) uses.references) (sym used)
    (references_fit c.args.tables.now c.args.slot c.args.group c.requires.row)

pub returns : goal.returns
returns c =
    let used : c.in_ok-uses.uses
    ≡ uses_of c.args.tables.now c.args.slot (members_of c.args.tables.now c.args.group) =
    c.in_ok-uses.ensures
    ∙ ap (uses_of c.args.tables.now c.args.slot) c.members_of-members.ensures in
    when_ok c.learn_all.result
    (λ learned. loop_added c.args.tables.now c.args.slot c.args.group c.args.walk.now
    c.push_unless.new.walk _ c.in_ok-uses.uses c.joins-joined.result used
    (λ facts behind. c.joins-joined.ensures facts (members_of c.args.tables.now c.args.group) behind
    used)
    (c.in_ok-push_unless.ensures c.args.tables.now)
    (λ loop last. subst (λ (members : List Member). IsLast c.args.tables.now c.grow.new.last
    (Some (last_with c.args.tables.now loop (record { slot = c.args.slot; group = members }))))
    c.members_of-members.ensures
    (c.in_ok-grow.ensures c.args.tables.now loop last c.in_ok-uses.ensures))
    learned refl)
    c.learn_all.ensures
