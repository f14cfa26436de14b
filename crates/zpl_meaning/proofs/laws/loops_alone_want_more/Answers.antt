use Rattle.zpl_meaning.proofs.MoreLemmas.{while_exact, repeat_exact, for_exact, sequence_exact}
use Rattle.zpl_meaning.proofs.MoreLemmas.{choice_exact, tuples_exact, exec_ends, program_ends}
use Rattle.zpl_meaning.proofs.laws.loops_alone_want_more.Goals as goal

pub returns : goal.returns
returns c = record {
  before = while_exact;
  after = repeat_exact;
  counting = for_exact;
  sequences = sequence_exact;
  choices = choice_exact;
  tuples = tuples_exact;
  statements = exec_ends;
  programs = program_ends;
}
