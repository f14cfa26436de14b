use Rattle.std.proofs.Common.{subst}
use Rattle.node_form.specs.Fits.{Fits}
use Rattle.zpl_lowering.specs.Tables.{flat_tables}
use Rattle.flat_code.specs.declared.builds.Build.{Build}
use Rattle.flat_code.proofs.FitLemmas.{tables_fit}
use Rattle.program_code.proofs.OutcomeLemmas.{as_compiled}
use Rattle.program_code.proofs.laws.compiled_programs_fit.Goals as goal

pub returns : goal.returns
returns c = λ build program grammar clean apart accepted is_grid.
    let parts : Build =
    record { grid = build.grid; options = build.options; links = build.links } in
    subst Fits (as_compiled parts program build.settings)
    (tables_fit parts (flat_tables program build.settings) is_grid
    (c.lowered_programs_are_flat.ensures.flat program build.settings grammar clean apart accepted)
    (c.lowered_shifts_are_stored.ensures program build.settings grammar clean accepted))
