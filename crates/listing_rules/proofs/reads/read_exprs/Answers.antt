use Rattle.std.proofs.Common.{◌≡◌, ◌+◌, false, List, [], ◌∷◌, ◌++◌, drop, rules, arith}
use Rattle.node_form.specs.declared.words.ExprOp.{ExprOp}
use Rattle.listing_rules.specs.declared.parts.Part.TheVariants as part
use Rattle.listing_rules.specs.Reads.{begins, Stops}
use Rattle.listing_rules.specs.Rules.{belongs, IsExprLine}
use Rattle.listing_rules.proofs.ReadsLemmas.{fault_here, going_on, going_over, going_stop}
use Rattle.listing_rules.proofs.reads.read_exprs.Goals as goal

pub returns-in_default-2-clause-err : goal.returns-in_default-2-clause-err
returns-in_default-2-clause-err c =
    let lines = c.args.lines.now in
    let none = rw c.in_default-2.is at c.in_ok-row.ensures in
    rw c.bad_table.ensures (fault_here (Stops (belongs part.Exprs) (λ (done : List (List ExprOp)). IsExprLine c.args.known.now.tables) [] (drop c.args.from lines)) lines c.loop-line.at c.loop-line.invariant.inside
    (going_stop (belongs part.Exprs) (λ (done : List (List ExprOp)). IsExprLine c.args.known.now.tables) (drop c.args.from lines) c.loop-line.rows (drop c.loop-line.at lines) c.in-Some.line.now (drop (c.loop-line.at + 1) lines)
    c.loop-line.invariant.going c.in-Some.ensures.1 c.in-Some.ensures.0 none))

pub loop-line-preserved : goal.loop-line-preserved
loop-line-preserved c =
    let lines = c.args.lines.now in
    let is = rw c.in-Some-2.is at c.in_ok-row.ensures in
    let grown : c.push.new.self ≡ c.loop-line.rows ++ c.in-Some-2.row ∷ [] = search rules in
    let inside = c.in-Some.ensures.2 in
    let before = c.loop-line.invariant in
    record {
      going = going_on (belongs part.Exprs) (λ (done : List (List ExprOp)). IsExprLine c.args.known.now.tables) (drop c.args.from lines) c.loop-line.rows (drop c.loop-line.at lines) c.in-Some.line.now (drop (c.loop-line.at + 1) lines) c.in-Some-2.row c.push.new.self
          before.going c.in-Some.ensures.1 c.in-Some.ensures.0 is grown;
      inside = omega arith;
    }

pub returns-clause-ok : goal.returns-clause-ok
returns-clause-ok c =
    let lines = c.args.lines.now in
    let stop : begins (belongs part.Exprs) (drop c.loop-line.at lines) ≡ false = search rules in
    going_over (belongs part.Exprs) (λ (done : List (List ExprOp)). IsExprLine c.args.known.now.tables) (drop c.args.from lines) c.loop-line.rows (drop c.loop-line.at lines) c.loop-line.invariant.going stop
