use Rattle.std.proofs.Common.{◌≡◌, ap, ◌∙◌, sym, subst, map, List, ℕ, ℤ}
use Rattle.std.specs.Prelude.{insert}
use Rattle.grid_meaning.specs.Collective.{keeping, kept_with}
use Rattle.node_local.specs.declared.standings.Kept.{Kept}
use Rattle.node_local.specs.Inside.{workplace_of}
use Rattle.node_local.specs.Standing.{entry_of}
use Rattle.node_local.specs.Workplace.{Workplace}
use Rattle.node_local.proofs.StartLemmas.{entries_insert}
use Rattle.node_local.proofs.locals.Local.keep.Goals as goal

pub returns-clause-kept : goal.returns-clause-kept
returns-clause-kept c =
    let old = workplace_of c.self.inside in
    let kept = c.self.inside.kept.items in
    let placed : kept_with c.args.from c.args.words (map entry_of kept)
    ≡ insert (map entry_of kept) c.place_for-place.result (c.args.from, c.args.words) =
    subst (λ (ks : List Kept). kept_with c.args.from c.args.words (map entry_of ks) ≡ insert (map entry_of ks) c.place_for-place.result (c.args.from, c.args.words))
    c.as_slice.ensures.value (c.place_for-place.ensures.place c.args.words) in
    let entries : map entry_of c.insert.new.self.items ≡ kept_with c.args.from c.args.words (map entry_of kept) =
    ap (map entry_of) c.in_ok-insert.ensures.items
    ∙ (entries_insert kept c.place_for-place.result (record { from = c.args.from; words = c.args.words }) ∙ sym placed) in
    ap (λ (es : List (ℕ × List ℤ)). record old { local = record old.local { kept = es } }) entries
    ∙ ap (λ (w : Workplace). record w { local = keeping w.local c.args.from c.args.words }) c.self.view_is
