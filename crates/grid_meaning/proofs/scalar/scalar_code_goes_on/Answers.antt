use Rattle.grid_meaning.proofs.ScalarLemmas.{IsQuietMove-act, IsStuck-never, IsIdle-never}
use Rattle.grid_meaning.proofs.scalar.scalar_code_goes_on.Goals as goal

pub returns : goal.returns
returns c = record {
  moves = λ code p local fits rows enough none. IsQuietMove-act c.rows_fit.ensures.expr c.rows_fit.ensures.instr
      c.scalar_expressions_lack_nothing.ensures code fits p local rows enough none;
  not_stuck = λ code links order fits rows. IsStuck-never c.rows_fit.ensures.expr c.rows_fit.ensures.instr
      c.scalar_expressions_lack_nothing.ensures code fits links order rows;
  not_idle = λ code links order fits rows. IsIdle-never c.rows_fit.ensures.expr c.rows_fit.ensures.instr
      c.scalar_expressions_lack_nothing.ensures code fits links order rows;
}
