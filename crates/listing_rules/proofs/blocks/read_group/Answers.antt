use Rattle.std.proofs.Common.{◌+◌, [], drop, arith}
use Rattle.node_form.specs.Fits.{FitsGroup}
use Rattle.listing_rows.specs.of_listing_lines.declared.keywords.Keyword.TheVariants as key
use Rattle.listing_rows.specs.Rows.{line_of}
use Rattle.listing_rules.specs.declared.parts.Part.TheVariants as part
use Rattle.listing_rules.specs.Reads.{Stops}
use Rattle.listing_rules.specs.Rules.{belongs, IsMemberLine}
use Rattle.listing_rules.specs.Blocks.{NoBlock}
use Rattle.listing_rules.proofs.ReadsLemmas.{fault_here, fault_passed}
use Rattle.listing_rules.proofs.BlocksLemmas.{unheaded, headed, stopped_below, unfinished}
use Rattle.listing_rules.proofs.blocks.read_group.Goals as goal

pub returns-then-not-branch-clause-err : goal.returns-then-not-branch-clause-err
returns-then-not-branch-clause-err c =
    let lines = c.args.lines.now in
    let t = c.args.known.now.tables in
    let is = rw c.if-not-branch.true at c.in_ok-is_heading.ensures in
    rw c.bad_table.ensures (fault_here (NoBlock (line_of key.Group []) (belongs part.Members) (IsMemberLine t) (FitsGroup t) (drop c.args.from lines)) lines c.args.from (omega (arith, c.requires.inside))
    (unheaded (line_of key.Group []) (belongs part.Members) (IsMemberLine t) (FitsGroup t) (drop c.args.from lines) c.args.line.now (drop (c.args.from + 1) lines) c.requires.here is))

pub returns-in_err-group-clause-err : goal.returns-in_err-group-clause-err
returns-in_err-group-clause-err c =
    let lines = c.args.lines.now in
    let t = c.args.known.now.tables in
    let is = rw c.if-not-branch.false at c.in_ok-is_heading.ensures in
    let begun = headed (line_of key.Group []) (drop c.args.from lines) c.args.line.now (drop (c.args.from + 1) lines) c.requires.here is in
    fault_passed (Stops (belongs part.Members) (IsMemberLine t) [] (drop (c.args.from + 1) lines)) (NoBlock (line_of key.Group []) (belongs part.Members) (IsMemberLine t) (FitsGroup t) (drop c.args.from lines)) lines _ _
    c.from_residual-in_err-group.ensures.1 c.in_err-group.ensures.err
    (λ left stops. stopped_below (line_of key.Group []) (belongs part.Members) (IsMemberLine t) (FitsGroup t) (drop c.args.from lines) (drop (c.args.from + 1) lines) left begun stops)

pub returns-then-not-is_whole-clause-err : goal.returns-then-not-is_whole-clause-err
returns-then-not-is_whole-clause-err c =
    let lines = c.args.lines.now in
    let t = c.args.known.now.tables in
    let is = rw c.if-not-branch.false at c.in_ok-is_heading.ensures in
    let begun = headed (line_of key.Group []) (drop c.args.from lines) c.args.line.now (drop (c.args.from + 1) lines) c.requires.here is in
    let whole = c.is_whole.ensures t c.in_ok-group.ensures.are in
    rw c.bad_table-then-not-is_whole.ensures (fault_here (NoBlock (line_of key.Group []) (belongs part.Members) (IsMemberLine t) (FitsGroup t) (drop c.args.from lines)) lines c.in_ok-group.at c.in_ok-group.ensures.inside
    (unfinished (line_of key.Group []) (belongs part.Members) (IsMemberLine t) (FitsGroup t) (drop c.args.from lines) (drop (c.args.from + 1) lines) c.in_ok-group.group.members.items (drop c.in_ok-group.at lines) begun c.in_ok-group.ensures.ok
    (λ fits. let yes = whole.1 fits in let no = c.if-not-is_whole.true in cc)))
