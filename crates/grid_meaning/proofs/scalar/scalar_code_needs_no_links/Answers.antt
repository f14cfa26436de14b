use Rattle.grid_meaning.proofs.ScalarLemmas.{IsSilent-act, same_after, sends-after, words-after, HasEmptyLinks-after}
use Rattle.grid_meaning.proofs.scalar.scalar_code_needs_no_links.Goals as goal

pub returns : goal.returns
returns c = record {
  silent = IsSilent-act;
  same = same_after;
  sends = sends-after;
  words = words-after;
  empty = HasEmptyLinks-after;
}
