use Rattle.std.proofs.Common.{◌≡◌, false, true, map, sym, ◌∙◌}
use Rattle.zpl_tree.specs.View.{syntax_of}
use Rattle.zpl_parts.specs.View.{part_of}
use Rattle.zpl_bind.specs.Known.{known_in}
use Rattle.zpl_bind.specs.Lists.{settings_of}
use Rattle.zpl_bind.proofs.KnownLemmas.{told-err}
use Rattle.zpl_bind.proofs.BindLemmas.{few-decls, known-fault, vectors-fault, storages-fault, bound-lists, bound-same, bound-accepts}
use Rattle.zpl_bind.proofs.FaultlessLemmas.{faultless-bindable}
use Rattle.zpl_bind.proofs.bind.bind_declarations.Goals as goal

no : false ≡ true → ⊥
no e = cc

pub returns-then-not-are_few-clause-err : goal.returns-then-not-are_few-clause-err
returns-then-not-are_few-clause-err c = λ fine.
    absurd (no (sym c.if-not-are_few.true ∙ c.are_few.ensures ∙
    (faultless-bindable (syntax_of c.args.program.now) fine).few))

pub known_of-requires : goal.known_of-requires
known_of-requires c =
    few-decls c.args.program.now.decls.now (sym c.are_few.ensures ∙ c.if-not-are_few.false)

pub storages_of-requires-clause-few : goal.storages_of-requires-clause-few
storages_of-requires-clause-few c =
    few-decls c.args.program.now.decls.now (sym c.are_few.ensures ∙ c.if-not-are_few.false)

pub returns-in_err-known-clause-err : goal.returns-in_err-known-clause-err
returns-in_err-known-clause-err c = λ fine.
    told-err c.from_residual.result c.in_err-known.field-0.0 _ c.from_residual.ensures.1
    (known-fault (syntax_of c.args.program.now) (settings_of c.args.settings.now)
    c.in_err-known.field-0.0
    (faultless-bindable (syntax_of c.args.program.now) fine).once c.in_err-known.ensures.err)

pub returns-in_err-vectors-clause-err : goal.returns-in_err-vectors-clause-err
returns-in_err-vectors-clause-err c = λ fine.
    told-err c.from_residual-in_err-vectors.result c.in_err-vectors.field-0.0 _
    c.from_residual-in_err-vectors.ensures.1
    (vectors-fault (syntax_of c.args.program.now) (settings_of c.args.settings.now)
    (known_in c.in_ok-known.known) (map part_of c.as_slice.result.now) c.in_err-vectors.field-0.0
    c.in_ok-known.ensures.ok (c.as_slice.ensures ∙ c.in_ok-parts.ensures)
    c.in_err-vectors.ensures.err)

pub returns-in_err-storages-clause-err : goal.returns-in_err-storages-clause-err
returns-in_err-storages-clause-err c = λ fine.
    told-err c.from_residual-in_err-storages.result c.in_err-storages.field-0.0 _
    c.from_residual-in_err-storages.ensures.1
    (storages-fault (syntax_of c.args.program.now) (settings_of c.args.settings.now)
    (known_in c.in_ok-known.known) (map part_of c.as_slice-2.result.now)
    c.in_err-storages.field-0.0 c.in_ok-known.ensures.ok
    (c.as_slice-2.ensures ∙ c.in_ok-parts.ensures) c.in_err-storages.ensures.err)

pub returns-clause-bound : goal.returns-clause-bound
returns-clause-bound c =
    bound-same (syntax_of c.args.program.now) (settings_of c.args.settings.now) _ _ _ _ _ _ _ _
    (bound-lists (syntax_of c.args.program.now) (settings_of c.args.settings.now)
    (known_in c.in_ok-known.known) (map part_of c.as_slice.result.now)
    (map part_of c.as_slice-2.result.now) c.in_ok-values.values.items
    c.in_ok-regions.regions.items c.in_ok-vectors.vectors.items c.in_ok-storages.storages.items
    c.in_ok-known.ensures.ok (c.as_slice.ensures ∙ c.in_ok-parts.ensures)
    (c.as_slice-2.ensures ∙ c.in_ok-parts.ensures) c.in_ok-values.ensures
    c.in_ok-regions.ensures c.in_ok-vectors.ensures.ok c.in_ok-storages.ensures.ok)
    c.of.ensures c.of-2.ensures c.of-3.ensures c.of-4.ensures

pub returns-clause-accepted : goal.returns-clause-accepted
returns-clause-accepted c = λ fine.
    bound-accepts (syntax_of c.args.program.now) (settings_of c.args.settings.now) _
    (bound-lists (syntax_of c.args.program.now) (settings_of c.args.settings.now)
    (known_in c.in_ok-known.known) (map part_of c.as_slice.result.now)
    (map part_of c.as_slice-2.result.now) c.in_ok-values.values.items
    c.in_ok-regions.regions.items c.in_ok-vectors.vectors.items c.in_ok-storages.storages.items
    c.in_ok-known.ensures.ok (c.as_slice.ensures ∙ c.in_ok-parts.ensures)
    (c.as_slice-2.ensures ∙ c.in_ok-parts.ensures) c.in_ok-values.ensures
    c.in_ok-regions.ensures c.in_ok-vectors.ensures.ok c.in_ok-storages.ensures.ok)
    (faultless-bindable (syntax_of c.args.program.now) fine).once c.in_ok-known.ensures.texts
