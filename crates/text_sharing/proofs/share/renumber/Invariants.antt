use Rattle.std.proofs.Common.{◌≡◌, length}
use Rattle.text_sharing.specs.Shared.{row_shared}
use Rattle.text_sharing.proofs.ChangeLemmas.{changed}
use Rattle.text_sharing.proofs.share.renumber.Given as goal

abbrev pub invariant-loop-i : goal.invariant-loop-i
invariant-loop-i l = record {
  done : l.code ≡ changed (row_shared l.texts) l.i l.initial.code;
  as_long : length l.code ≡ length l.initial.code;
}
