use Rattle.std.proofs.Common.{◌≡◌, ◌∙◌, ◌<◌, ap, sym, subst, arith, true, false, true≢false}
use Rattle.node_check.specs.Settled.{IsKept, IsSettled, nones, sizes}
use Rattle.node_check.proofs.CodeLemmas.{walk_fewer, walk_loses, walk_reaches}
use Rattle.node_check.proofs.ValidLemmas.{walk_kept, walk_settles}
use Rattle.node_check.proofs.walks.settle.Goals as goal

pub returns-then-reached-clause-kept : goal.returns-then-reached-clause-kept
returns-then-reached-clause-kept c =
    subst (λ fronts. IsKept c.args.tables.now fronts) (sym c.in_ok-run.ensures.fronts)
    (walk_kept c.args.tables.now c.turns.now.items c.requires.fits c.turns.invariant.kept)

pub returns-then-reached-clause-fewer : goal.returns-then-reached-clause-fewer
returns-then-reached-clause-fewer c = λ is.
    let less = walk_reaches c.args.tables.now c.turns.now.items c.requires.fits
    c.turns.invariant.kept.right (sym c.in_ok-run.ensures.reached ∙ c.if-reached.true) in
    let same = ap nones c.in_ok-run.ensures.fronts in
    omega (arith, less, c.turns.invariant.fewer, same)

pub returns-then-reached-clause-settled : goal.returns-then-reached-clause-settled
returns-then-reached-clause-settled c = λ is. absurd (true≢false is)

pub returns-then-not-lost-clause-kept : goal.returns-then-not-lost-clause-kept
returns-then-not-lost-clause-kept c =
    subst (λ fronts. IsKept c.args.tables.now fronts) (sym c.in_ok-run.ensures.fronts)
    (walk_kept c.args.tables.now c.turns.now.items c.requires.fits c.turns.invariant.kept)

pub returns-then-not-lost-clause-fewer : goal.returns-then-not-lost-clause-fewer
returns-then-not-lost-clause-fewer c = λ is. absurd (true≢false (sym is))

pub returns-then-not-lost-clause-settled : goal.returns-then-not-lost-clause-settled
returns-then-not-lost-clause-settled c = λ is.
    subst (λ fronts. IsSettled c.args.tables.now fronts) (sym c.in_ok-run.ensures.fronts)
    (walk_settles c.args.tables.now c.turns.now.items c.turns.invariant.kept
    (sym c.in_ok-run.ensures.reached ∙ c.if-reached.false)
    (sym c.in_ok-run.ensures.lost ∙ c.if-not-lost.true))

pub turns-smaller : goal.turns-smaller
turns-smaller c =
    let less = walk_loses c.args.tables.now c.turns.now.items c.requires.fits
    c.turns.invariant.kept.right (sym c.in_ok-run.ensures.reached ∙ c.if-reached.false)
    (sym c.in_ok-run.ensures.lost ∙ c.if-not-lost.false) in
    let same = ap sizes c.in_ok-run.ensures.fronts in
    omega (arith, less, same, c.in_ok-strike_lost.ensures.fewer)

pub turns-preserved : goal.turns-preserved
turns-preserved c =
    let less = walk_fewer c.args.tables.now c.turns.now.items c.requires.fits
    c.turns.invariant.kept.right in
    let same = ap nones c.in_ok-run.ensures.fronts in
    record {
      kept = c.in_ok-strike_lost.ensures.kept;
      fewer = omega (arith, less, c.turns.invariant.fewer, same, c.in_ok-strike_lost.ensures.same);
    }

pub strike_lost-requires-clause-kept : goal.strike_lost-requires-clause-kept
strike_lost-requires-clause-kept c =
    subst (λ fronts. IsKept c.args.tables.now fronts) (sym c.in_ok-run.ensures.fronts)
    (walk_kept c.args.tables.now c.turns.now.items c.requires.fits c.turns.invariant.kept)
