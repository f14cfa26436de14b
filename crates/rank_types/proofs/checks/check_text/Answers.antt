use Rattle.std.proofs.Common.{Option, subst}
use Rattle.zpl_tree.specs.View.{syntax_of}
use Rattle.site_faults.specs.Found.{found_in}
use Rattle.site_faults.specs.declared.findings.Found.{Found}
use Rattle.rank_types.proofs.JudgeLemmas.{all-clean, on-map, told-holds}
use Rattle.rank_types.proofs.TextFaults.{IsTold, text-told}
use Rattle.rank_types.proofs.checks.check_text.Goals as goal

pub returns-in-Some-clause-err : goal.returns-in-Some-clause-err
returns-in-Some-clause-err c =
    let program = syntax_of c.args.text.now.program.now in
    let P : Option Found → Type 0 = λ o. IsTold program (found_in o) in
    told-holds program c.fault_of.result c.in-Some.found.kind c.in-Some.found.at
    c.fault_of.ensures
    (subst P c.in-Some.is
    (text-told program (found_in c.args.found) (found_in c.in_ok-found.found) c.requires.found
    c.in_ok-found.ensures.found))

pub check_regions-requires-clause-clean : goal.check_regions-requires-clause-clean
check_regions-requires-clause-clean c =
    let program = syntax_of c.args.text.now.program.now in
    let P : Option Found → Type 0 = λ o. IsTold program (found_in o) in
    subst P c.in_default.is
    (text-told program (found_in c.args.found) (found_in c.in_ok-found.found) c.requires.found
    c.in_ok-found.ensures.found)

pub returns-clause-ok : goal.returns-clause-ok
returns-clause-ok c =
    let program = syntax_of c.args.text.now.program.now in
    let P : Option Found → Type 0 = λ o. IsTold program (found_in o) in
    let clean = subst P c.in_default.is
    (text-told program (found_in c.args.found) (found_in c.in_ok-found.found) c.requires.found
    c.in_ok-found.ensures.found) in
    on-map c.check_regions.result
    (λ pairs. all-clean program clean c.requires.distinct c.in_ok-check_entry.ensures.ok
    c.in_ok-check_calls.ensures.ok pairs)
    c.check_regions.ensures.ok
