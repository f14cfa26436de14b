use Rattle.std.proofs.Common.{List, [], drop, sym, subst, refl}
use Rattle.node_form.specs.declared.arrays.Item.{Item}
use Rattle.node_form.specs.declared.tables.Tables.{Tables}
use Rattle.node_form.specs.Fits.{FitsGroup}
use Rattle.listing_rows.specs.of_listing_lines.declared.keywords.Keyword.TheVariants as key
use Rattle.listing_rows.specs.Rows.{line_of}
use Rattle.listing_rules.specs.declared.facts.Known.{Known}
use Rattle.listing_rules.specs.declared.parts.Part.TheVariants as part
use Rattle.listing_rules.specs.Blocks.{BlocksStop}
use Rattle.listing_rules.specs.Rules.{belongs, IsMemberLine, IsItemLine}
use Rattle.listing_rules.specs.Stages.{Breaks, AtGroup, AtExchange, ReadExprs, ReadGroups, IsExchange}
use Rattle.listing_rules.proofs.ReadsLemmas.{fault_passed}
use Rattle.listing_rules.proofs.TablesLemmas.{words_slots, words_groups, knows_groups, knows_exchanges}
use Rattle.listing_rules.proofs.tables.read_bodies.Goals as goal

pub known_of-requires-clause-slots : goal.known_of-requires-clause-slots
known_of-requires-clause-slots c = words_slots c.args.lines.now c.in_ok-tables.tables (drop c.in_ok-tables.at c.args.lines.now) c.in_ok-tables.ensures.ok

pub known_of-requires-clause-groups : goal.known_of-requires-clause-groups
known_of-requires-clause-groups c = words_groups c.args.lines.now c.in_ok-tables.tables (drop c.in_ok-tables.at c.args.lines.now) c.in_ok-tables.ensures.ok

pub returns-in_err-groups-clause-err : goal.returns-in_err-groups-clause-err
returns-in_err-groups-clause-err c =
    let lines = c.args.lines.now in
    let t = c.in_ok-known.known.tables in
    let exprs : ReadExprs lines t (drop c.in_ok-tables.at lines) = subst (λ (b : Tables). ReadExprs lines b (drop c.in_ok-tables.at lines)) (sym c.in_ok-known.ensures.same) c.in_ok-tables.ensures.ok in
    fault_passed (BlocksStop (belongs part.Groups) (line_of key.Group []) (belongs part.Members) (IsMemberLine t) (FitsGroup t) (drop c.in_ok-tables.at lines)) (Breaks lines) lines _ _ c.from_residual-in_err-groups.ensures.1 c.in_err-groups.ensures.err
    (λ left stops. AtGroup t (drop c.in_ok-tables.at lines) left exprs stops)

pub returns-in_err-exchanges-clause-err : goal.returns-in_err-exchanges-clause-err
returns-in_err-exchanges-clause-err c =
    let lines = c.args.lines.now in
    let t = c.in_ok-known.known.tables in
    let exprs : ReadExprs lines t (drop c.in_ok-tables.at lines) = subst (λ (b : Tables). ReadExprs lines b (drop c.in_ok-tables.at lines)) (sym c.in_ok-known.ensures.same) c.in_ok-tables.ensures.ok in
    let grown : Tables = record t { groups = c.in_ok-groups.groups } in
    let read : ReadGroups lines grown (drop c.in_ok-groups.at lines) = record { before = t; behind = drop c.in_ok-tables.at lines; exprs = exprs; rows = c.in_ok-groups.groups; reads = c.in_ok-groups.ensures.ok; made = refl } in
    fault_passed (BlocksStop (belongs part.Exchanges) (line_of key.Exchange []) (belongs part.Items) (λ (done : List Item). IsItemLine grown) IsExchange (drop c.in_ok-groups.at lines)) (Breaks lines) lines _ _ c.from_residual-in_err-exchanges.ensures.1 c.in_err-exchanges.ensures.err
    (λ left stops. AtExchange grown (drop c.in_ok-groups.at lines) left read stops)

pub returns-clause-ok : goal.returns-clause-ok
returns-clause-ok c =
    let lines = c.args.lines.now in
    let t = c.in_ok-known.known.tables in
    let exprs : ReadExprs lines t (drop c.in_ok-tables.at lines) = subst (λ (b : Tables). ReadExprs lines b (drop c.in_ok-tables.at lines)) (sym c.in_ok-known.ensures.same) c.in_ok-tables.ensures.ok in
    let grown : Tables = record t { groups = c.in_ok-groups.groups } in
    let read : ReadGroups lines grown (drop c.in_ok-groups.at lines) = record { before = t; behind = drop c.in_ok-tables.at lines; exprs = exprs; rows = c.in_ok-groups.groups; reads = c.in_ok-groups.ensures.ok; made = refl } in
    record { before = grown; behind = drop c.in_ok-groups.at lines; groups = read; rows = c.in_ok-exchanges.exchanges; reads = c.in_ok-exchanges.ensures.ok; made = refl }

pub returns-clause-knows : goal.returns-clause-knows
returns-clause-knows c =
    let known = c.in_ok-known.known in
    let grown : Known = record known { tables = record known.tables { groups = c.in_ok-groups.groups }; groups = c.in_ok-groups.ranks } in
    knows_exchanges grown c.in_ok-exchanges.exchanges (knows_groups known c.in_ok-groups.groups c.in_ok-groups.ranks c.in_ok-known.ensures.knows c.in_ok-groups.ensures.facts)
