use Rattle.std.proofs.Common.{◌≡◌, ℕ, arith, sym, ◌∙◌, ap}
use Rattle.std.specs.List.{flat_map, range_with_len}
use Rattle.std.specs.Prelude.{find, ◌==◌}
use Rattle.grid_save.specs.Written.{found_lines, kept_from, kept_line}
use Rattle.grid_save.proofs.WriteLemmas.{kept_same, number_more, writes_none, writes_same}
use Rattle.grid_save.proofs.states.add_kept.Goals as goal

pub loop-q-init : goal.loop-q-init
loop-q-init c = (omega arith, writes_none c.args.text.now.items)

pub loop-q-preserved : goal.loop-q-preserved
loop-q-preserved c =
    let kept = c.args.local.now.local.kept in
    let q = c.loop-q.q in
    let now = c.loop-q.text.items in
    let lines = ap (λ found. found_lines (λ words. kept_line (q, words)) found) c.kept.ensures
    ∙ kept_same q (find (λ entry. entry.0 == q) kept) in (
      omega (arith, c.loop-q-test.true),
      number_more (λ from. kept_from from (find (λ entry. entry.0 == from) kept)) c.args.text.now.items now c.add_kept_from.new.text.items q
          c.loop-q.invariant.1
          (writes_same now c.add_kept_from.new.text.items _ _ lines c.in_ok-add_kept_from.ensures),
    )

pub returns : goal.returns
returns c = λ code same.
    let f = λ (from : ℕ). kept_from from (find (λ entry. entry.0 == from) c.args.local.now.local.kept) in
    let all : c.loop-q.q ≡ c.args.count = omega (arith, c.loop-q.invariant.0, c.loop-q-test.false) in
    writes_same c.args.text.now.items c.loop-q.text.items _ _ (ap (λ n. flat_map f (range_with_len 0 n)) (all ∙ sym same)) c.loop-q.invariant.1
