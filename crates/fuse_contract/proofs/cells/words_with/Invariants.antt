use Rattle.std.proofs.Common.{◌≡◌, map, take}
use Rattle.fuse_contract.specs.Contracting.{word_contracted}
use Rattle.fuse_contract.specs.Naming.{cell_at}
use Rattle.fuse_contract.proofs.cells.words_with.Given as goal

abbrev pub invariant-loop-word : goal.invariant-loop-word
invariant-loop-word l = l.made.items ≡ map (word_contracted (cell_at l.cells)) (take l.word-index l.words)
