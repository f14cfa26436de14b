use Rattle.std.proofs.Common.{◌≡◌, ◌+◌, false, List, [], drop, sym, subst, rules, arith}
use Rattle.node_form.specs.declared.members.Member.{Member}
use Rattle.listing_rules.specs.declared.parts.Part.TheVariants as part
use Rattle.listing_rules.specs.Facts.{AreMembers}
use Rattle.listing_rules.specs.Reads.{begins, Stops}
use Rattle.listing_rules.specs.Rules.{belongs, IsMemberLine}
use Rattle.listing_rules.proofs.ReadsLemmas.{Going, fault_here, going_start, going_on, going_over, going_stop}
use Rattle.listing_rules.proofs.reads.read_members.Goals as goal

pub loop-line-init : goal.loop-line-init
loop-line-init c =
    let t = c.args.known.now.tables in
    let start = drop c.args.from c.args.lines.now in
    record {
      going = subst (λ (list : List Member). Going (belongs part.Members) (IsMemberLine t) start list start) (sym c.new-group.ensures.members) (going_start (belongs part.Members) (IsMemberLine t) start);
      inside = c.requires.inside;
      are = subst (λ (list : List Member). AreMembers t list c.new-group.result.ranks c.new-group.result.kept.items) (sym c.new-group.ensures.members) (c.new-group.ensures.are t);
      on = omega arith;
    }

pub returns-then-not-branch-clause-err : goal.returns-then-not-branch-clause-err
returns-then-not-branch-clause-err c =
    let lines = c.args.lines.now in
    let t = c.args.known.now.tables in
    let none = rw c.if-not-branch.true at c.in_ok-take.ensures in
    rw c.bad_table.ensures (fault_here (Stops (belongs part.Members) (IsMemberLine t) [] (drop c.args.from lines)) lines c.loop-line.at c.loop-line.invariant.inside
    (going_stop (belongs part.Members) (IsMemberLine t) (drop c.args.from lines) c.loop-line.group.members.items (drop c.loop-line.at lines) c.in-Some.line.now (drop (c.loop-line.at + 1) lines)
    c.loop-line.invariant.going c.in-Some.ensures.1 c.in-Some.ensures.0 none))

pub loop-line-preserved : goal.loop-line-preserved
loop-line-preserved c =
    let lines = c.args.lines.now in
    let t = c.args.known.now.tables in
    let taken = rw c.if-not-branch.false at c.in_ok-take.ensures in
    let inside = c.in-Some.ensures.2 in
    let before = c.loop-line.invariant in
    record {
      going = going_on (belongs part.Members) (IsMemberLine t) (drop c.args.from lines) c.loop-line.group.members.items (drop c.loop-line.at lines) c.in-Some.line.now (drop (c.loop-line.at + 1) lines) taken.row c.take.new.self.members.items
          before.going c.in-Some.ensures.1 c.in-Some.ensures.0 taken.is taken.added;
      inside = omega arith;
      are = taken.are;
      on = omega (arith, before.on);
    }

pub returns-clause-ok : goal.returns-clause-ok
returns-clause-ok c =
    let lines = c.args.lines.now in
    let stop : begins (belongs part.Members) (drop c.loop-line.at lines) ≡ false = search rules in
    going_over (belongs part.Members) (IsMemberLine c.args.known.now.tables) (drop c.args.from lines) c.loop-line.group.members.items (drop c.loop-line.at lines) c.loop-line.invariant.going stop
