use Rattle.std.proofs.Common.{◌+◌, List, [], drop, arith}
use Rattle.node_form.specs.declared.arrays.Item.{Item}
use Rattle.listing_rows.specs.of_listing_lines.declared.keywords.Keyword.TheVariants as key
use Rattle.listing_rows.specs.Rows.{line_of}
use Rattle.listing_rules.specs.declared.parts.Part.TheVariants as part
use Rattle.listing_rules.specs.Reads.{Stops}
use Rattle.listing_rules.specs.Rules.{belongs, IsItemLine}
use Rattle.listing_rules.specs.Stages.{IsExchange}
use Rattle.listing_rules.specs.Blocks.{NoBlock}
use Rattle.listing_rules.proofs.ReadsLemmas.{fault_here, fault_passed}
use Rattle.listing_rules.proofs.BlocksLemmas.{unheaded, headed, stopped_below}
use Rattle.listing_rules.proofs.blocks.read_exchange.Goals as goal

pub returns-then-not-branch-clause-err : goal.returns-then-not-branch-clause-err
returns-then-not-branch-clause-err c =
    let lines = c.args.lines.now in
    let t = c.args.known.now.tables in
    let is = rw c.if-not-branch.true at c.in_ok-is_heading.ensures in
    rw c.bad_table.ensures (fault_here (NoBlock (line_of key.Exchange []) (belongs part.Items) (λ (done : List Item). IsItemLine t) IsExchange (drop c.args.from lines)) lines c.args.from (omega (arith, c.requires.inside))
    (unheaded (line_of key.Exchange []) (belongs part.Items) (λ (done : List Item). IsItemLine t) IsExchange (drop c.args.from lines) c.args.line.now (drop (c.args.from + 1) lines) c.requires.here is))

pub returns-in_err-items-clause-err : goal.returns-in_err-items-clause-err
returns-in_err-items-clause-err c =
    let lines = c.args.lines.now in
    let t = c.args.known.now.tables in
    let is = rw c.if-not-branch.false at c.in_ok-is_heading.ensures in
    let begun = headed (line_of key.Exchange []) (drop c.args.from lines) c.args.line.now (drop (c.args.from + 1) lines) c.requires.here is in
    fault_passed (Stops (belongs part.Items) (λ (done : List Item). IsItemLine t) [] (drop (c.args.from + 1) lines)) (NoBlock (line_of key.Exchange []) (belongs part.Items) (λ (done : List Item). IsItemLine t) IsExchange (drop c.args.from lines)) lines _ _
    c.from_residual-in_err-items.ensures.1 c.in_err-items.ensures.err
    (λ left stops. stopped_below (line_of key.Exchange []) (belongs part.Items) (λ (done : List Item). IsItemLine t) IsExchange (drop c.args.from lines) (drop (c.args.from + 1) lines) left begun stops)
