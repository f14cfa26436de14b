use Rattle.std.proofs.Common.{◌≡◌, fold, take}
use Rattle.fuse_contract.specs.Naming.{word_noted}
use Rattle.fuse_contract.proofs.states.note_words.Given as goal

abbrev pub invariant-loop-word : goal.invariant-loop-word
invariant-loop-word l =
    l.states.items
    ≡ fold (word_noted l.group) l.initial.states.items (take l.word-index l.word-items)
