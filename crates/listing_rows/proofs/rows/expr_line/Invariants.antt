use Rattle.std.proofs.Common.{◌≡◌, ◌++◌, drop, map}
use Rattle.listing_rows.specs.declared.fields.Said.TheVariants.{Word}
use Rattle.listing_rows.specs.Fields.{fields_of}
use Rattle.listing_rows.specs.Rows.{word_rank}
use Rattle.listing_rows.proofs.rows.expr_line.Given as goal

abbrev pub invariant-loop-word : goal.invariant-loop-word
invariant-loop-word l =
    l.fields.items ++ fields_of (map (λ word. Word (word_rank l.tables word) word) (drop l.word-index l.words))
    ≡ fields_of (map (λ word. Word (word_rank l.tables word) word) l.words)
