use Rattle.std.proofs.Common.{[], map, ap, sym, ◌∙◌}
use Rattle.std.specs.List.{flat_map}
use Rattle.zpl_tree.specs.View.{decl_of, syntax_of}
use Rattle.zpl_names.specs.Faults.{repeated}
use Rattle.rank_types.specs.Faults.{Holds}
use Rattle.rank_types.specs.Names.{IsSecond, row_names, row_of, row_symbols}
use Rattle.rank_types.proofs.JudgeLemmas.{err-map, ok-map, on-map, second-holds}
use Rattle.rank_types.proofs.RowLemmas.{names-are, symbols-are}
use Rattle.rank_types.proofs.names.global_names.Goals as goal

pub returns-clause-ok : goal.returns-clause-ok
returns-clause-ok c =
    let program = syntax_of c.args.program.now in
    ok-map c.table_of.result _ _
    (λ symbols is. is ∙
    ap row_symbols (ap (map row_of) c.as_slice.ensures.value ∙ c.in_ok-rows.ensures) ∙
    symbols-are program)
    c.table_of.ensures.ok

pub returns-clause-once : goal.returns-clause-once
returns-clause-once c =
    let program = syntax_of c.args.program.now in
    on-map c.table_of.result
    (λ once. sym (ap (repeated [])
    (ap row_names (ap (map row_of) c.as_slice.ensures.value ∙ c.in_ok-rows.ensures) ∙
    names-are program)) ∙ once)
    c.table_of.ensures.once

pub returns-clause-err : goal.returns-clause-err
returns-clause-err c =
    let program = syntax_of c.args.program.now in
    let names = row_names (map row_of c.as_slice.result.now) in
    err-map c.table_of.result (IsSecond names) (Holds program)
    (λ fault second. second-holds program names fault
    (ap row_names (ap (map row_of) c.as_slice.ensures.value ∙ c.in_ok-rows.ensures) ∙
    names-are program) second)
    c.table_of.ensures.err
