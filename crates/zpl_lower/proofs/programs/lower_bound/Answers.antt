use Rattle.std.proofs.Common.{ap, refl, subst, sym, ◌∙◌}
use Rattle.zpl_tree.specs.View.{syntax_of}
use Rattle.zpl_lowering.specs.Program.{first_next}
use Rattle.zpl_bind.proofs.BindLemmas.{text-borders}
use Rattle.zpl_bind.specs.Known.{known_in}
use Rattle.zpl_bind.specs.Storages.{borders_among}
use Rattle.zpl_parts.specs.View.{seen}
use Rattle.zpl_tree.specs.declared.declarations.Program.{Program}
use Rattle.lower_draft.specs.Drafted.{grown, next_of}
use Rattle.zpl_lower.specs.Programs.{entry_lowered}
use Rattle.zpl_lower.proofs.DeclLemmas.{fit-regions-of, fit-variables}
use Rattle.zpl_lower.proofs.KnownLemmas.{ranked-known}
use Rattle.zpl_lower.proofs.ProgramLemmas.{opened_of, tables_are}
use Rattle.zpl_lower.proofs.programs.lower_bound.Goals as goal

pub open-requires-clause-known : goal.open-requires-clause-known
open-requires-clause-known c =
    let typed = c.args.typed.now in
    let binds = c.requires.bound.binds in
    ranked-known (syntax_of typed.program.now) c.requires.bound.settings c.args.bound.now.known
    binds.tables binds.known
    (fit-regions-of (syntax_of typed.program.now) c.requires.grammar typed.faultless)

pub open-requires-clause-fit : goal.open-requires-clause-fit
open-requires-clause-fit c =
    fit-variables (syntax_of c.args.typed.now.program.now) c.requires.grammar
    c.args.typed.now.faultless

pub lower_opened-requires : goal.lower_opened-requires
lower_opened-requires c =
    let typed = c.args.typed.now in
    let program = syntax_of typed.program.now in
    let binds = c.requires.bound.binds in
    opened_of typed.text.now c.args.bound.now.known (borders_among (seen c.args.bound.now.parts))
    c.in_ok-opening.opening c.deref.result.now typed.program.now c.requires.text.same
    c.requires.text.text c.requires.short
    (ranked-known program c.requires.bound.settings c.args.bound.now.known binds.tables
    binds.known (fit-regions-of program c.requires.grammar typed.faultless))
    (ap borders_among binds.parts ∙ text-borders program) c.in_ok-opening.ensures.names
    c.in_ok-opening.ensures.numbers c.in_ok-opening.ensures.heads c.in_ok-opening.ensures.sound
    (c.deref.ensures.value ∙ c.in_ok-reads.ensures) c.requires.grammar typed.faultless

pub returns : goal.returns
returns c = λ settings known.
    let typed = c.args.typed.now in
    let program = syntax_of typed.program.now in
    let tables = known_in c.args.bound.now.known in
    tables_are program settings tables c.new-draft.result c.open.new.draft
    c.lower_opened.new.draft (next_of c.in_ok-first_next.field-0) c.in_ok-tables.tables known
    (c.in_ok-first_next.ensures
    ∙ ap (λ (p : Program). first_next (syntax_of p)) c.requires.text.same)
    c.new-draft.ensures c.in_ok-opening.ensures.code
    (c.in_ok-lower_opened.ensures
    ∙ ap (λ (p : Program). grown c.open.new.draft
    (entry_lowered (syntax_of p) tables c.open.new.draft.next)) c.requires.text.same)
    c.in_ok-tables.ensures
