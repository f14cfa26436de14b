use Rattle.std.proofs.Common.{◌≡◌, sym, ap, subst, ◌∙◌}
use Rattle.std.specs.Prelude.{IfErr, IfOk, OnOk}
use Rattle.node_form.specs.Fits.{Fits}
use Rattle.code_layout.specs.Room.{HasRoom}
use Rattle.temp_norm.specs.Normalised.{normalised}
use Rattle.bound_check.specs.Checked.{checked}
use Rattle.pass_fits.proofs.FlatLemmas.{checked_flat, normalised_flat}
use Rattle.flat_code.specs.Passes.{Refuses}
use Rattle.flat_code.proofs.FitLemmas.{tables_fit}
use Rattle.flat_code.proofs.PassLemmas.{whole}
use Rattle.flat_code.proofs.codes.code_of.Goals as goal

pub place_checks-requires : goal.place_checks-requires
place_checks-requires c =
    subst Fits (sym (c.in_ok-normal.ensures ∙ ap normalised c.into_tables.ensures.same))
    (normalised_flat c.args.flat c.into_tables.ensures.flat).fits

pub settle-requires : goal.settle-requires
settle-requires c =
    subst Fits
    (sym (c.in_ok-checked.ensures
    ∙ ap checked (c.in_ok-normal.ensures ∙ ap normalised c.into_tables.ensures.same)))
    (checked_flat (normalised c.args.flat)
    (normalised_flat c.args.flat c.into_tables.ensures.flat)).fits

pub program_of-requires : goal.program_of-requires
program_of-requires c =
    subst Fits
    (sym (whole c.args.build.now c.args.flat _ _ _ _ _ _ _ c.into_tables.ensures.same
    c.in_ok-normal.ensures c.in_ok-checked.ensures c.in_ok-settled.ensures c.in_ok-plan.ensures
    c.in_ok-improved.ensures c.emit.ensures))
    (tables_fit c.args.build.now c.args.flat c.requires.grid c.into_tables.ensures.flat
    c.requires.stored)

pub returns-clause-code : goal.returns-clause-code
returns-clause-code c =
    subst (λ t. IfOk c.program_of.result (λ code. code ≡ t))
    (whole c.args.build.now c.args.flat _ _ _ _ _ _ _ c.into_tables.ensures.same
    c.in_ok-normal.ensures c.in_ok-checked.ensures c.in_ok-settled.ensures c.in_ok-plan.ensures
    c.in_ok-improved.ensures c.emit.ensures) c.program_of.ensures.code

pub returns-clause-room : goal.returns-clause-room
returns-clause-room c =
    subst (λ t. OnOk c.program_of.result (HasRoom t))
    (whole c.args.build.now c.args.flat _ _ _ _ _ _ _ c.into_tables.ensures.same
    c.in_ok-normal.ensures c.in_ok-checked.ensures c.in_ok-settled.ensures c.in_ok-plan.ensures
    c.in_ok-improved.ensures c.emit.ensures) c.program_of.ensures.room

pub returns-clause-refused : goal.returns-clause-refused
returns-clause-refused c =
    subst (λ t. IfErr c.program_of.result (Refuses t))
    (whole c.args.build.now c.args.flat _ _ _ _ _ _ _ c.into_tables.ensures.same
    c.in_ok-normal.ensures c.in_ok-checked.ensures c.in_ok-settled.ensures c.in_ok-plan.ensures
    c.in_ok-improved.ensures c.emit.ensures) c.program_of.ensures.refused
