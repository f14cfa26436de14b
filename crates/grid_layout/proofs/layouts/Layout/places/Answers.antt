use Rattle.std.proofs.Common.{◌≡◌, ◌∙◌, ap, subst, sym}
use Rattle.zpl_region.specs.Region.{IsRegion, members}
use Rattle.grid_layout.specs.declared.boxes.ArrayBox.{ArrayBox}
use Rattle.grid_layout.specs.Layout.{held_of, laid_out}
use Rattle.grid_layout.specs.Piece.{piece_in}
use Rattle.grid_layout.proofs.PlaceLemmas.{piece_is, piece_is_region}
use Rattle.grid_layout.proofs.layouts.Layout.places.Goals as goal

pub returns-clause-places : goal.returns-clause-places
returns-clause-places c =
    let a = c.args.self.now in
    let box = c.stored-stored.result.now in
    let ranks : box.shape.rank ≡ c.args.region.now.rank = ap (λ (b : ArrayBox). b.shape.rank) c.stored-stored.ensures.same ∙ c.requires.ranks in
    c.places_by.ensures.places.same
    ∙ (ap members (piece_is (laid_out a) box c.args.from c.args.to c.args.region.now c.args.shift.now c.sides-mine.result.now c.sides-others.result.now ranks c.sides-mine.ensures.sides c.sides-others.ensures.sides)
    ∙ ap (λ b. members (piece_in (laid_out a) (held_of (laid_out a) b c.args.to) c.args.from c.args.to c.args.region.now c.args.shift.now)) c.stored-stored.ensures.same)

pub returns-clause-region : goal.returns-clause-region
returns-clause-region c =
    let a = c.args.self.now in
    let box = c.stored-stored.result.now in
    let ranks : box.shape.rank ≡ c.args.region.now.rank = ap (λ (b : ArrayBox). b.shape.rank) c.stored-stored.ensures.same ∙ c.requires.ranks in
    c.places_by.ensures.places.sound
    (subst IsRegion
    (sym (piece_is (laid_out a) box c.args.from c.args.to c.args.region.now c.args.shift.now c.sides-mine.result.now c.sides-others.result.now ranks c.sides-mine.ensures.sides c.sides-others.ensures.sides))
    (piece_is_region (laid_out a) box c.args.to c.sides-mine.ensures.blocks c.stored-stored.ensures.sound c.places_by.ensures.three c.requires.receiver c.args.from c.args.region.now c.args.shift.now
    ranks c.requires.region c.places_by.ensures.dims c.places_by.ensures.shift c.requires.owner c.requires.aligned))
