use Rattle.std.proofs.Common.{◌≡◌, ◌+◌, false, List, [], ◌∷◌, ◌++◌, drop, rules}
use Rattle.node_form.specs.declared.arrays.Item.{Item}
use Rattle.listing_rules.specs.Stages.{IsExchange}
use Rattle.listing_rows.specs.of_listing_lines.declared.keywords.Keyword.TheVariants as key
use Rattle.listing_rows.specs.Rows.{line_of}
use Rattle.listing_rules.specs.declared.parts.Part.TheVariants as part
use Rattle.listing_rules.specs.Blocks.{BlocksStop, NoBlock}
use Rattle.listing_rules.specs.Reads.{begins}
use Rattle.listing_rules.specs.Rules.{belongs, IsItemLine}
use Rattle.listing_rules.proofs.ReadsLemmas.{fault_passed, over_on, over_end, over_stop, begun_by}
use Rattle.listing_rules.proofs.blocks.read_exchanges.Goals as goal

pub returns-in_err-items-clause-err : goal.returns-in_err-items-clause-err
returns-in_err-items-clause-err c =
    let lines = c.args.lines.now in
    let t = c.args.known.now.tables in
    let some = begun_by (belongs part.Exchanges) (drop c.loop-line.at lines) c.in-Some.line.now (drop (c.loop-line.at + 1) lines) c.in-Some.ensures.1 c.in-Some.ensures.0 in
    fault_passed (NoBlock (line_of key.Exchange []) (belongs part.Items) (λ (done : List Item). IsItemLine t) IsExchange (drop c.loop-line.at lines)) (BlocksStop (belongs part.Exchanges) (line_of key.Exchange []) (belongs part.Items) (λ (done : List Item). IsItemLine t) IsExchange (drop c.args.from lines)) lines _ _
    c.from_residual.ensures.1 c.in_err-items.ensures.err
    (λ left none. over_stop (belongs part.Exchanges) (line_of key.Exchange []) (belongs part.Items) (λ (done : List Item). IsItemLine t) IsExchange (drop c.args.from lines) c.loop-line.exchanges (drop c.loop-line.at lines) left c.loop-line.invariant.going some none)

pub loop-line-preserved : goal.loop-line-preserved
loop-line-preserved c =
    let lines = c.args.lines.now in
    let t = c.args.known.now.tables in
    let some = begun_by (belongs part.Exchanges) (drop c.loop-line.at lines) c.in-Some.line.now (drop (c.loop-line.at + 1) lines) c.in-Some.ensures.1 c.in-Some.ensures.0 in
    let grown : c.push.new.self ≡ c.loop-line.exchanges ++ c.in_ok-items.items.items ∷ [] = search rules in
    record {
      going = over_on (belongs part.Exchanges) (line_of key.Exchange []) (belongs part.Items) (λ (done : List Item). IsItemLine t) IsExchange (drop c.args.from lines) c.loop-line.exchanges (drop c.loop-line.at lines) (drop c.in_ok-items.behind lines) c.in_ok-items.items.items c.push.new.self
          c.loop-line.invariant.going some c.in_ok-items.ensures.ok grown;
      inside = c.in_ok-items.ensures.inside;
    }

pub returns-clause-ok : goal.returns-clause-ok
returns-clause-ok c =
    let lines = c.args.lines.now in
    let t = c.args.known.now.tables in
    let stop : begins (belongs part.Exchanges) (drop c.loop-line.at lines) ≡ false = search rules in
    over_end (belongs part.Exchanges) (line_of key.Exchange []) (belongs part.Items) (λ (done : List Item). IsItemLine t) IsExchange (drop c.args.from lines) c.loop-line.exchanges (drop c.loop-line.at lines) c.loop-line.invariant.going stop
