use Rattle.std.proofs.Common.{◌≡◌, ◌∙◌, ap, sym, arith, true, List}
use Rattle.std.specs.Prelude.{flat_map}
use Rattle.std.specs.List.{list_any}
use Rattle.std.proofs.lemmas.List.Folds.{list_any_at}
use Rattle.plan_form.specs.of_node_form.declared.members.Member.{Member}
use Rattle.plan_form.specs.of_code_parts.Uses.{divides_in, member_words}
use Rattle.comm_needs.proofs.NeedLemmas.{any_of_all}
use Rattle.comm_needs.proofs.groups.divides.Goals as goal

pub returns-then-member_divides : goal.returns-then-member_divides
returns-then-member_divides c =
    let words = member_words c.args.tables.now in
    let members = c.members_of-member-items.result.now in
    let here : list_any (λ one. list_any divides_in (words one)) members ≡ true =
    list_any_at (λ one. list_any divides_in (words one)) members c.loop-member.member-index _
    (omega arith) (sym c.member_divides.ensures ∙ c.if-member_divides.true) in
    sym (ap (λ (l : List Member). list_any divides_in (flat_map words l))
    (sym c.members_of-member-items.ensures)
    ∙ (any_of_all divides_in words members ∙ here))
