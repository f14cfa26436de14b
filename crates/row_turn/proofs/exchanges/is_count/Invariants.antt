use Rattle.std.proofs.Common.{◌≡◌, ◌==◌, drop}
use Rattle.grid_meaning.specs.Exchange.{word_count}
use Rattle.row_turn.proofs.exchanges.is_count.Given as goal

abbrev pub invariant-loop-item : goal.invariant-loop-item
invariant-loop-item l =
    (l.left == word_count l.code l.local.local (drop l.item-index l.items) l.from l.to)
    ≡ (l.many == word_count l.code l.local.local l.items l.from l.to)
