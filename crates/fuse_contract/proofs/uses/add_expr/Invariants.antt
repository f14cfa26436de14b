use Rattle.std.proofs.Common.{◌≡◌, fold, take}
use Rattle.fuse_contract.specs.Joining.{with_word}
use Rattle.fuse_contract.proofs.uses.add_expr.Given as goal

abbrev pub invariant-loop-word : goal.invariant-loop-word
invariant-loop-word l =
    l.uses ≡ fold (with_word l.slot) l.initial.uses (take l.word-index l.word-items)
