use Rattle.std.proofs.Common.{◌≡◌, List, ℤ, subst, arith}
use Rattle.std.specs.Prelude.{IsTrue, ◌↔◌}
use Rattle.grid_meaning.specs.Local.{processors}
use Rattle.grid_meaning.specs.State.{IsRequest}
use Rattle.node_local.specs.Workplace.{Workplace}
use Rattle.row_turn.specs.Together.{OfRow}
use Rattle.row_progress.proofs.RequestLemmas.{Left, all_told, none_left, one_left, sender_at}
use Rattle.row_progress.proofs.requests.are_requests.Goals as goal

pub is_request-requires-clause-sender : goal.is_request-requires-clause-sender
is_request-requires-clause-sender c =
    sender_at (processors c.args.code.now) c.args.kept.now c.loop-i.i c.index-kept-i.result c.loop-i-test.true c.index-kept-i.is c.requires.below.each

pub returns-then-not-branch-clause-requests : goal.returns-then-not-branch-clause-requests
returns-then-not-branch-clause-requests c =
    none_left c.args.code.now c.args.p c.args.local.now c.args.row.now c.requires.start c.requires.requests c.args.kept.now c.loop-i.i c.index-kept-i.result c.loop-i-test.true
    c.index-kept-i.is
    (subst (λ b. OfRow c.args.code.now c.args.p c.args.row.now (λ r. IsTrue b ↔ IsRequest r c.args.local.now.local (c.index-kept-i.result.from, c.index-kept-i.result.words))) c.if-not-branch.true
    (subst (λ (words : List ℤ). OfRow c.args.code.now c.args.p c.args.row.now (λ r. IsTrue c.in_ok-is_request.field-0 ↔ IsRequest r c.args.local.now.local (c.index-kept-i.result.from, words)))
    c.as_slice-words.ensures
    (subst (λ (w : Workplace). OfRow c.args.code.now c.args.p c.args.row.now (λ r. IsTrue c.in_ok-is_request.field-0 ↔ IsRequest r w.local (c.index-kept-i.result.from, c.as_slice-words.result.now)))
    c.loop-i.invariant.0 c.in_ok-is_request.ensures.request)))
    c.loop-i.invariant.1

pub loop-i-preserved : goal.loop-i-preserved
loop-i-preserved c = (
  subst (λ (w : Workplace). c.is_request.new.local ≡ w) c.loop-i.invariant.0 c.in_ok-is_request.ensures.same,
  one_left c.args.code.now c.args.p c.args.local.now c.args.row.now c.requires.start c.requires.requests c.args.kept.now c.loop-i.i c.index-kept-i.result c.loop-i-test.true
      c.index-kept-i.is
      (subst (λ b. OfRow c.args.code.now c.args.p c.args.row.now (λ r. IsTrue b ↔ IsRequest r c.args.local.now.local (c.index-kept-i.result.from, c.index-kept-i.result.words))) c.if-not-branch.false
      (subst (λ (words : List ℤ). OfRow c.args.code.now c.args.p c.args.row.now (λ r. IsTrue c.in_ok-is_request.field-0 ↔ IsRequest r c.args.local.now.local (c.index-kept-i.result.from, words)))
      c.as_slice-words.ensures
      (subst (λ (w : Workplace). OfRow c.args.code.now c.args.p c.args.row.now (λ r. IsTrue c.in_ok-is_request.field-0 ↔ IsRequest r w.local (c.index-kept-i.result.from, c.as_slice-words.result.now)))
      c.loop-i.invariant.0 c.in_ok-is_request.ensures.request)))
      c.loop-i.invariant.1,
)

pub returns-clause-requests : goal.returns-clause-requests
returns-clause-requests c =
    all_told c.args.code.now c.args.p c.args.local.now c.args.row.now c.requires.start c.requires.requests c.args.kept.now
    (subst (λ k. OfRow c.args.code.now c.args.p c.args.row.now (Left c.args.code.now c.args.p c.args.local.now c.args.row.now c.requires.start c.requires.requests c.args.kept.now k))
    (omega (arith, c.loop-i-test.false, c.loop-i.auto.i-end)) c.loop-i.invariant.1)
