use Rattle.lowering_fits.specs.of_zpl_lowering.Tables.{unshared_tables}
use Rattle.lowered_flat.proofs.GridLemmas.{one_processor}
use Rattle.lowered_flat.proofs.laws.lowered_programs_are_flat.Goals as goal

pub returns : goal.returns
returns c = record {
  grids = λ program settings grammar clean apart accepted.
      c.lowered_programs_fit.ensures.flat program settings grammar clean accepted
      (c.declarations_fit.ensures program settings grammar clean accepted)
      (c.storages_fit.ensures program settings grammar clean apart accepted);
  unshared = λ program settings grammar clean apart accepted.
      c.lowered_programs_fit.ensures.flat program settings grammar clean accepted
      (c.declarations_fit.ensures program settings grammar clean accepted)
      (c.storages_fit.ensures program settings grammar clean apart accepted) _ one_processor;
  flat = λ program settings grammar clean apart accepted.
      c.shared_tables_fit.ensures.flat (unshared_tables program settings)
      (c.lowered_programs_fit.ensures.flat program settings grammar clean accepted
      (c.declarations_fit.ensures program settings grammar clean accepted)
      (c.storages_fit.ensures program settings grammar clean apart accepted) _ one_processor);
}
