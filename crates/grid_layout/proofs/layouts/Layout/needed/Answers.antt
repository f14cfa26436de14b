use Rattle.std.proofs.Common.{◌≡◌, All, arith, rules, subst, sym, IsPermutation}
use Rattle.std.specs.List.{flat_map}
use Rattle.zpl_region.specs.declared.regions.Region.{Region}
use Rattle.zpl_region.specs.Dim.{HasBounds}
use Rattle.zpl_region.specs.Region.{IsRegion, members}
use Rattle.grid_layout.specs.Layout.{laid_out}
use Rattle.grid_layout.specs.Piece.{owned_part}
use Rattle.grid_layout.specs.Words.{processors}
use Rattle.grid_layout.proofs.PartLemmas.{parts_of_owners}
use Rattle.grid_layout.proofs.SideLemmas.{needed_is}
use Rattle.grid_layout.proofs.SoundLemmas.{needed_has_bounds, needed_is_region}
use Rattle.grid_layout.proofs.layouts.Layout.needed.Goals as goal

pub returns-clause-needed : goal.returns-clause-needed
returns-clause-needed c =
    rw (c.held_box-held.ensures.held) at
    (needed_is (laid_out c.args.self.now) c.held_box-held.result c.args.to c.args.region.now c.args.shift c.sides.result.now c.needed_by.result c.sides.ensures.sides c.needed_by.ensures.needed)

abbrev AreBounded : Region → Type 0
AreBounded r = All HasBounds r.dims

pub returns-clause-bounds : goal.returns-clause-bounds
returns-clause-bounds c =
    let is = c.requires.region in
    let held = c.held_box-held.ensures.region in
    subst AreBounded (sym (needed_is (laid_out c.args.self.now) c.held_box-held.result c.args.to c.args.region.now c.args.shift c.sides.result.now c.needed_by.result c.sides.ensures.sides c.needed_by.ensures.needed))
    (needed_has_bounds (laid_out c.args.self.now) c.held_box-held.result c.args.to c.args.region.now c.args.shift c.sides.ensures.blocks is.rank_above is.rank_below c.needed_by.ensures.held_dims c.needed_by.ensures.dims c.needed_by.ensures.shift (λ k d here. (held.dims k d here).1))

pub returns-clause-pieces : goal.returns-clause-pieces
returns-clause-pieces c =
    let a = c.args.self.now in
    let is = c.requires.region in
    let rank : c.needed_by.result.rank ≡ c.args.region.now.rank = search rules in
    subst (λ n. IsPermutation (members c.needed_by.result) (flat_map (λ from. members (owned_part (laid_out a) from c.args.to n)) (processors a.grid))) (returns-clause-needed c)
    (parts_of_owners (laid_out a) c.args.to c.needed_by.result c.sides.ensures.blocks (omega (arith, is.rank_above, rank)) (omega (arith, is.rank_below, rank)) c.needed_by.ensures.three (returns-clause-bounds c) c.requires.receiver)

pub returns-clause-region : goal.returns-clause-region
returns-clause-region c = λ same aligned.
    let is = c.requires.region in
    subst IsRegion (sym (needed_is (laid_out c.args.self.now) c.held_box-held.result c.args.to c.args.region.now c.args.shift c.sides.result.now c.needed_by.result c.sides.ensures.sides c.needed_by.ensures.needed))
    (needed_is_region (laid_out c.args.self.now) c.held_box-held.result c.args.to c.args.region.now c.args.shift c.sides.ensures.blocks is.rank_above is.rank_below c.needed_by.ensures.held_dims c.needed_by.ensures.dims c.needed_by.ensures.shift c.held_box-held.ensures.region is
    (search rules) c.requires.receiver aligned)
