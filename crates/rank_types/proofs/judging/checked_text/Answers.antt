use Rattle.std.proofs.Common.{IfErr, IfOk, OnOk, sym, subst}
use Rattle.zpl_tree.specs.View.{syntax_of}
use Rattle.zpl_tree.specs.declared.declarations.Program.{Program}
use Rattle.zpl_names.specs.Accepted.{IsFaultless}
use Rattle.site_faults.specs.Found.{found_in}
use Rattle.rank_types.specs.Faults.{Holds}
use Rattle.rank_types.specs.Judges.{HasDistinctNames, IsFoundDeclared}
use Rattle.rank_types.specs.Typed.{IsTextOf}
use Rattle.rank_types.proofs.JudgeLemmas.{stop-passed}
use Rattle.rank_types.proofs.judging.checked_text.Goals as goal

pub returns-in_err-text-clause-err : goal.returns-in_err-text-clause-err
returns-in_err-text-clause-err c =
    stop-passed (syntax_of c.args.program.now) c.from_residual.result c.in_err-text.field-0.0
    c.from_residual.ensures.1 c.in_err-text.ensures.err

pub check_kept-requires-clause-distinct : goal.check_kept-requires-clause-distinct
check_kept-requires-clause-distinct c =
    let P : Program → Type 0 = HasDistinctNames in
    subst P (sym c.in_ok-text.ensures.program) c.requires

pub check_kept-requires-clause-found : goal.check_kept-requires-clause-found
check_kept-requires-clause-found c =
    let P : Program → Type 0 = λ program. IsFoundDeclared program (found_in c.in_ok-text.found) in
    subst P (sym c.in_ok-text.ensures.program) (record { is = c.in_ok-text.ensures.found })

pub returns-clause-kept : goal.returns-clause-kept
returns-clause-kept c =
    let P : Program → Type 0 = λ program. IfOk c.check_kept.result (IsTextOf program) in
    subst P c.in_ok-text.ensures.program c.check_kept.ensures.kept

pub returns-clause-ok : goal.returns-clause-ok
returns-clause-ok c =
    let P : Program → Type 0 =
    λ program. OnOk c.check_kept.result (IsFaultless (syntax_of program)) in
    subst P c.in_ok-text.ensures.program c.check_kept.ensures.ok

pub returns-clause-err : goal.returns-clause-err
returns-clause-err c =
    let P : Program → Type 0 =
    λ program. IfErr c.check_kept.result (Holds (syntax_of program)) in
    subst P c.in_ok-text.ensures.program c.check_kept.ensures.err
