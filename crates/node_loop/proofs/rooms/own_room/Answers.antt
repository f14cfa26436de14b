use Rattle.std.proofs.Common.{◌≡◌, ◌<◌, true, false, [], sym, ap, ◌∙◌, subst}
use Rattle.std.specs.Prelude.{All}
use Rattle.zpl_region.specs.declared.regions.Region.{Region}
use Rattle.zpl_region.specs.Ends.{has_none}
use Rattle.zpl_region.specs.Hull.{IsBoxed}
use Rattle.zpl_region.specs.Region.{IsRegion, members, met}
use Rattle.grid_layout.specs.declared.blocks.Blocks.{Blocks}
use Rattle.grid_layout.specs.Grid.{processors_of}
use Rattle.grid_layout.specs.Layout.{Arrangement, HasWideBounds, laid_out, own_first, own_last}
use Rattle.grid_meaning.specs.Place.{own_part}
use Rattle.grid_meaning.specs.Room.{room_of}
use Rattle.grid_meaning.proofs.WorldLemmas.{processors_alike}
use Rattle.node_loop.proofs.RoomLemmas.{met_region, owns_none, owns_some, region_fits, room_boxed, room_wide}
use Rattle.node_loop.proofs.rooms.own_room.Goals as goal
use Rattle.node_loop.proofs.rooms.own_room.Goals.{After-meet}

pub returns-then-is_empty-clause-places : goal.returns-then-is_empty-clause-places
returns-then-is_empty-clause-places c =
    let none : members c.own_tuples.result ≡ [] = c.is_empty.ensures.0 c.if-is_empty.true in
    c.no_places.ensures.places
    ∙ ap (room_of c.args.row.now (own_part c.args.code.now c.args.p c.args.region.now))
    (sym (owns_none c.args.code.now c.args.p c.args.region.now c.own_tuples.result c.requires.slot c.own_tuples.ensures.tuples none))

pub own_block-requires-clause-processor : goal.own_block-requires-clause-processor
own_block-requires-clause-processor c =
    subst (λ (b : Blocks). c.args.p < processors_of b.grid) (sym c.blocks-2.ensures.blocks)
    (subst (λ (a : Arrangement). c.args.p < processors_of a.grid) (sym c.requires.layout)
    (subst (λ n. c.args.p < n) (processors_alike c.args.code.now.grid) c.requires.processor))

pub meet-requires : goal.meet-requires
meet-requires c = region_fits c.args.region.now c.requires.slot.fits

is_own : (c : After-meet) → c.meet.result ≡ own_part c.args.code.now c.args.p c.args.region.now
is_own c =
    let region = c.args.region.now in
    c.meet.ensures.met
    ∙ (ap (λ lo. met lo c.own_block.result.1 region) c.own_block.ensures.first
    ∙ (ap (λ hi. met (own_first c.blocks-2.result.now region.rank c.args.p) hi region) c.own_block.ensures.last
    ∙ ap (λ (b : Blocks). met (own_first b region.rank c.args.p) (own_last b region.rank c.args.p) region)
    (c.blocks-2.ensures.blocks ∙ ap laid_out c.requires.layout)))

has_some : (c : After-meet) → has_none (own_part c.args.code.now c.args.p c.args.region.now) ≡ false
has_some c =
    let empty = c.if-is_empty.false in
    owns_some c.args.code.now c.args.p c.args.region.now c.own_tuples.result c.requires.slot c.own_tuples.ensures.tuples
    (λ none. let full : c.is_empty.result ≡ true = c.is_empty.ensures.1 none in cc)

own_region : (c : After-meet) → IsRegion c.meet.result
own_region c =
    subst IsRegion (sym (is_own c))
    (met_region c.args.region.now _ _ (region_fits c.args.region.now c.requires.slot.fits) (has_some c))

pub room_of-requires-clause-region : goal.room_of-requires-clause-region
room_of-requires-clause-region c = own_region (goal.at.room_of-requires-clause-region c).After-meet

pub room_of-requires-clause-some : goal.room_of-requires-clause-some
room_of-requires-clause-some c =
    let at = (goal.at.room_of-requires-clause-some c).After-meet in
    ap has_none (is_own at) ∙ has_some at

pub returns-clause-places : goal.returns-clause-places
returns-clause-places c =
    c.room_of.ensures
    ∙ (ap (λ own. room_of c.args.row.now own false) (is_own (goal.at.returns-clause-places c).After-meet)
    ∙ ap (room_of c.args.row.now (own_part c.args.code.now c.args.p c.args.region.now)) (sym (has_some (goal.at.returns-clause-places c).After-meet)))

pub returns-clause-boxed : goal.returns-clause-boxed
returns-clause-boxed c =
    subst (λ (r : Region). All IsBoxed r.dims) (sym c.room_of.ensures)
    (room_boxed c.args.row.now c.meet.result (own_region (goal.at.returns-clause-boxed c).After-meet))

pub returns-clause-bounds : goal.returns-clause-bounds
returns-clause-bounds c =
    subst (λ (r : Region). All HasWideBounds r.dims) (sym c.room_of.ensures)
    (room_wide c.args.row.now c.meet.result (own_region (goal.at.returns-clause-bounds c).After-meet))
