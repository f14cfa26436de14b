use Rattle.std.proofs.Common.{◌≤◌, [], List, length, drop}
use Rattle.node_form.specs.declared.arrays.Item.{Item}
use Rattle.listing_rows.specs.of_listing_lines.declared.keywords.Keyword.TheVariants as key
use Rattle.listing_rows.specs.Rows.{line_of}
use Rattle.listing_rules.specs.declared.parts.Part.TheVariants as part
use Rattle.listing_rules.specs.Rules.{belongs, IsItemLine}
use Rattle.listing_rules.specs.Stages.{IsExchange}
use Rattle.listing_rules.proofs.ReadsLemmas.{GoingOver}
use Rattle.listing_rules.proofs.blocks.read_exchanges.Given as goal

abbrev pub invariant-loop-line : goal.invariant-loop-line
invariant-loop-line l = record {
  going : GoingOver (belongs part.Exchanges) (line_of key.Exchange []) (belongs part.Items) (λ (done : List Item). IsItemLine l.known.tables) (IsExchange) (drop l.fn.from l.lines) l.exchanges (drop l.at l.lines);
  inside : l.at ≤ length l.lines;
}

abbrev pub decreases-loop-line : goal.decreases-loop-line
decreases-loop-line l = length (drop l.at l.lines)
