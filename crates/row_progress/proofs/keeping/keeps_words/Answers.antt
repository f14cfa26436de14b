use Rattle.std.proofs.Common.{◌≡◌, ℕ, List, arith, map, sym, subst, take}
use Rattle.grid_meaning.specs.State.{ascending, senders}
use Rattle.node_local.specs.Standing.{entry_of}
use Rattle.node_local.specs.Workplace.{Workplace}
use Rattle.row_turn.specs.Together.{OfRow}
use Rattle.row_progress.specs.Kept.{are_front}
use Rattle.row_progress.proofs.WordLemmas.{keeps_by_front}
use Rattle.row_progress.proofs.keeping.keeps_words.Goals as goal

pub returns-clause-keeps : goal.returns-clause-keeps
returns-clause-keeps c =
    keeps_by_front c.args.code.now c.args.p c.args.local.now c.args.far.now c.args.row.now c.requires.begun c.requires.next
    (c.rows_fit.ensures.instr c.args.code.now c.args.local.now.local.at c.args.row.now c.tables-fits.ensures.fits c.requires.next.here) c.requires.words
    c.as_slice-numbers.result.now c.args.kept.now
    (subst (λ (numbers : List ℕ). OfRow c.args.code.now c.args.p c.args.row.now (λ r. numbers ≡ ascending (senders (take c.args.far.now.made (r.stages c.args.local.now.local)))))
    (sym c.as_slice-numbers.ensures.value) c.in_ok-list.ensures.senders)
    c.requires.values.stands c.requires.far c.are_front.result (omega (arith, c.if-numbers-kept.false, c.as_slice-numbers.ensures.len))
    (subst (λ (w : Workplace). OfRow c.args.code.now c.args.p c.args.row.now (λ r. are_front (r.awaits w.local) c.as_slice-numbers.result.now (map entry_of c.args.kept.now) ≡ c.are_front.result))
    c.in_ok-list.ensures.same c.are_front.ensures)
