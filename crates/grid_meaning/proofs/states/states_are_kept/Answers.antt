use Rattle.grid_meaning.proofs.StateLemmas.{IsLocal-start, IsLocal-act, IsLocal-fed}
use Rattle.grid_meaning.proofs.states.states_are_kept.Goals as goal

pub returns : goal.returns
returns c = record {
  start = λ code p inside fits. IsLocal-start code p inside fits c.rows_fit.ensures.instr c.rows_fit.ensures.slot
      c.rows_fit.ensures.array c.rows_fit.ensures.group c.tests_tell_the_facts.ensures.limit;
  moves = λ code p local next sent shown fits three is goes. IsLocal-act code p is.number fits c.rows_fit.ensures.instr
      c.rows_fit.ensures.slot c.rows_fit.ensures.array c.rows_fit.ensures.group c.tests_tell_the_facts.ensures.limit
      local next sent shown three is goes;
  messages = λ code p local next from message fits is awaits takes. IsLocal-fed code p is.number fits
      c.rows_fit.ensures.instr c.rows_fit.ensures.slot c.rows_fit.ensures.array c.rows_fit.ensures.group
      c.tests_tell_the_facts.ensures.limit local next from message is awaits takes;
}
