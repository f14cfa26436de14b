use Rattle.std.proofs.Common.{◌≡◌, ◌==◌, ◌&&◌, not, length, nat_lt, ap, ◌∙◌, arith}
use Rattle.grid_meaning.specs.of_grid_layout.Grid.{processors_of}
use Rattle.grid_meaning.specs.Local.{processors}
use Rattle.grid_meaning.specs.Owner.{tuples_of}
use Rattle.node_stages.proofs.PartnerLemmas.{apart_and, flagged-others, flags_step, same_not}
use Rattle.node_stages.proofs.PieceLemmas.{grid_count}
use Rattle.node_stages.proofs.gathers.mark_holders.Goals as goal
use Rattle.node_stages.proofs.gathers.mark_holders.Goals.{then-q-p, else-q-p}

pub has_tuples-requires-clause-processor : goal.has_tuples-requires-clause-processor
has_tuples-requires-clause-processor c =
    let count : c.count-q-end.result ≡ processors c.args.code.now =
    c.count-q-end.ensures.count ∙ (ap processors_of c.grid.ensures ∙ grid_count c.args.code.now c.args.layout.now c.requires.layout) in
    omega arith

pub returns : goal.returns
returns c =
    let count : c.count-q-end.result ≡ processors c.args.code.now =
    c.count-q-end.ensures.count ∙ (ap processors_of c.grid.ensures ∙ grid_count c.args.code.now c.args.layout.now c.requires.layout) in
    flagged-others c.loop-q.flags (λ q. not (q == c.args.p))
    (λ q. nat_lt 0 (length (tuples_of c.args.code.now q c.args.region.now))) (processors c.args.code.now)
    (λ k below. c.loop-q.invariant k (omega arith))

pub loop-q-preserved : goal.loop-q-preserved
loop-q-preserved c =
    flags_step c.loop-q.flags c.loop-q.q c.if-q-p.flags (λ k. not (k == c.args.p) && nat_lt 0 (length (tuples_of c.args.code.now k c.args.region.now)))
    (omega arith) c.loop-q.invariant
    (elim c.if-q-p.branch [
      | then-q-p w ↦ w.flags-is ∙ (w.has_tuples.ensures ∙ apart_and c.loop-q.q c.args.p _ w.if-q-p.true)
      | else-q-p w ↦ w.flags-is ∙ same_not c.loop-q.q c.args.p _ w.if-q-p.false
    ])
