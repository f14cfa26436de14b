use Rattle.std.proofs.Common.{◌≡◌, ◌∙◌, [], ap, arith, fold, rules, List, Some}
use Rattle.std.specs.Prelude.{flat_map, slice_get}
use Rattle.std.proofs.lemmas.List.{take_all}
use Rattle.temp_norm.specs.of_node_form.declared.members.Member.{Member}
use Rattle.temp_norm.specs.of_code_parts.Uses.{accumulated_by}
use Rattle.fuse_contract.specs.Joining.{with_number}
use Rattle.fuse_contract.proofs.UseLemmas.{lists_more}
use Rattle.fuse_contract.proofs.grown.totals_of.Goals as goal

pub loop-group-preserved : goal.loop-group-preserved
loop-group-preserved c =
    let there : slice_get c.args.tables.now.groups c.loop-group.group
    ≡ Some c.as_slice-members.result.now = search rules in
    lists_more with_number (flat_map accumulated_by) c.args.tables.now.groups c.loop-group.group
    c.as_slice-members.result.now [] c.loop-group.totals c.add_totals.new.self there
    c.loop-group.invariant c.in_ok-add_totals.ensures

pub returns : goal.returns
returns c =
    c.loop-group.invariant
    ∙ ap (λ (l : List (List Member)). fold with_number [] (flat_map (flat_map accumulated_by) l))
    (take_all c.loop-group.group c.args.tables.now.groups (omega arith))
