use Rattle.std.proofs.Common.{◌≡◌, ◌+◌, false, [], ◌∷◌, ◌++◌, drop, rules}
use Rattle.node_form.specs.Fits.{FitsGroup}
use Rattle.listing_rules.specs.Facts.{AreGroupFacts}
use Rattle.listing_rows.specs.of_listing_lines.declared.keywords.Keyword.TheVariants as key
use Rattle.listing_rows.specs.Rows.{line_of}
use Rattle.listing_rules.specs.declared.parts.Part.TheVariants as part
use Rattle.listing_rules.specs.Blocks.{BlocksStop, NoBlock}
use Rattle.listing_rules.specs.Reads.{begins}
use Rattle.listing_rules.specs.Rules.{belongs, IsMemberLine}
use Rattle.listing_rules.proofs.FactsLemmas.{tell_more}
use Rattle.listing_rules.proofs.ReadsLemmas.{fault_passed, over_on, over_end, over_stop, begun_by}
use Rattle.listing_rules.proofs.blocks.read_groups.Goals as goal

pub returns-in_err-group-clause-err : goal.returns-in_err-group-clause-err
returns-in_err-group-clause-err c =
    let lines = c.args.lines.now in
    let t = c.args.known.now.tables in
    let some = begun_by (belongs part.Groups) (drop c.loop-line.at lines) c.in-Some.line.now (drop (c.loop-line.at + 1) lines) c.in-Some.ensures.1 c.in-Some.ensures.0 in
    fault_passed (NoBlock (line_of key.Group []) (belongs part.Members) (IsMemberLine t) (FitsGroup t) (drop c.loop-line.at lines)) (BlocksStop (belongs part.Groups) (line_of key.Group []) (belongs part.Members) (IsMemberLine t) (FitsGroup t) (drop c.args.from lines)) lines _ _
    c.from_residual.ensures.1 c.in_err-group.ensures.err
    (λ left none. over_stop (belongs part.Groups) (line_of key.Group []) (belongs part.Members) (IsMemberLine t) (FitsGroup t) (drop c.args.from lines) c.loop-line.groups (drop c.loop-line.at lines) left c.loop-line.invariant.going some none)

pub loop-line-preserved : goal.loop-line-preserved
loop-line-preserved c =
    let lines = c.args.lines.now in
    let t = c.args.known.now.tables in
    let some = begun_by (belongs part.Groups) (drop c.loop-line.at lines) c.in-Some.line.now (drop (c.loop-line.at + 1) lines) c.in-Some.ensures.1 c.in-Some.ensures.0 in
    let grown : c.push-in-Some.new.self ≡ c.loop-line.groups ++ c.in_ok-group.group.members.items ∷ [] = search rules in
    let known : c.push.new.self ≡ c.loop-line.ranks ++ c.in_ok-group.group.ranks ∷ [] = search rules in
    record {
      going = over_on (belongs part.Groups) (line_of key.Group []) (belongs part.Members) (IsMemberLine t) (FitsGroup t) (drop c.args.from lines) c.loop-line.groups (drop c.loop-line.at lines) (drop c.in_ok-group.behind lines) c.in_ok-group.group.members.items c.push-in-Some.new.self
          c.loop-line.invariant.going some c.in_ok-group.ensures.ok grown;
      inside = c.in_ok-group.ensures.inside;
      facts = tell_more (AreGroupFacts t) c.loop-line.groups c.push-in-Some.new.self c.loop-line.ranks c.push.new.self c.in_ok-group.group.members.items c.in_ok-group.group.ranks c.loop-line.invariant.facts c.in_ok-group.ensures.facts grown known;
    }

pub returns-clause-ok : goal.returns-clause-ok
returns-clause-ok c =
    let lines = c.args.lines.now in
    let t = c.args.known.now.tables in
    let stop : begins (belongs part.Groups) (drop c.loop-line.at lines) ≡ false = search rules in
    over_end (belongs part.Groups) (line_of key.Group []) (belongs part.Members) (IsMemberLine t) (FitsGroup t) (drop c.args.from lines) c.loop-line.groups (drop c.loop-line.at lines) c.loop-line.invariant.going stop
