use Rattle.lowering_fits.specs.of_zpl_lowering.Program.{lowered_program}
use Rattle.lowering_fits.specs.of_zpl_lowering.Tables.{empty_tables, rows_of, unshared_tables}
use Rattle.lowered_flat.proofs.TypedLemmas.{cells_are, shared_typed}
use Rattle.lowered_flat.proofs.laws.lowered_tables_are_typed.Goals as goal

pub returns : goal.returns
returns c = record {
  typed = λ program settings grammar clean apart accepted.
      shared_typed (unshared_tables program settings)
      (c.numbered_code_makes_a_flat_program.ensures.typed _ (lowered_program program settings)
      (c.storages_fit.ensures program settings grammar clean apart accepted)
      (c.lowered_programs_fit.ensures.fit program settings grammar clean accepted
      (c.declarations_fit.ensures program settings grammar clean accepted) _));
  cells = λ program settings.
      cells_are (empty_tables _ (lowered_program program settings))
      (rows_of (lowered_program program settings));
}
