use Rattle.std.proofs.Common.{◌≡◌, ◌+◌, ℕ, sym, ◌∙◌, ap}
use Rattle.std.specs.Prelude.{sum_by, length, ◌-◌, ◌^◌}
use Rattle.zpl_region.specs.Region.{members}
use Rattle.zpl_region.specs.Ends.{tuple_count}
use Rattle.grid_layout.specs.Layout.{held_of}
use Rattle.grid_layout.specs.Words.{numbers_from}
use Rattle.grid_layout.proofs.SizeLemmas.{box_tuples, saturated, sum_more}
use Rattle.grid_layout.proofs.blocks.Blocks.words.Goals as goal

pub loop-p-preserved : goal.loop-p-preserved
loop-p-preserved c =
    let f : ℕ → ℕ = λ p. length (members (held_of c.args.self.now c.args.array.now p)) in
    let here : f c.loop-p.p ≡ tuple_count c.held.result.dims =
    sym (ap (λ r. length (members r)) c.held.ensures.held) ∙ box_tuples c.held.result c.held.ensures.boxed in
    let more : sum_by f (numbers_from 0 (c.loop-p.p + 1)) ≡ sum_by f (numbers_from 0 c.loop-p.p) + f c.loop-p.p = sum_more f c.loop-p.p in
    let tuples = c.tuples.ensures in
    let added = c.saturating_add-words.ensures in
    saturated c.loop-p.words c.tuples.result (sum_by f (numbers_from 0 c.loop-p.p)) (f c.loop-p.p) (sum_by f (numbers_from 0 (c.loop-p.p + 1))) c.saturating_add-words.result (2 ^ 128 - 1)
    c.loop-p.invariant (tuples ∙ sym here) added more
