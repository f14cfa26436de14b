use Rattle.std.proofs.Common.{◌∙◌, ap, sym, subst}
use Rattle.std.proofs.Common.{ℕ}
use Rattle.grid_layout.specs.Layout.{Arrangement, laid_out, own_first, own_last}
use Rattle.save_reading.proofs.BoxLemmas.{all_rooms_boxed, both_true, is_room, room_is, there, wide_room}
use Rattle.save_reading.proofs.boxes.is_room.Goals as goal

pub own_block-requires-clause-processor : goal.own_block-requires-clause-processor
own_block-requires-clause-processor c = there c.args._code.now c.args.layout.now c.args.p c.requires.layout c.requires.processor

pub returns-clause-room : goal.returns-clause-room
returns-clause-room c =
    let rank = c.args.row.now.rank in
    let p = c.args.p in
    let within = c.are_room_in-within in
    let first = c.own_block.ensures.first ∙ ap (λ (a : Arrangement). own_first (laid_out a) rank p) c.requires.layout in
    let last = c.own_block.ensures.last ∙ ap (λ (a : Arrangement). own_last (laid_out a) rank p) c.requires.layout in (
      (λ h. is_room c.args._code.now p c.args.row.now c.args.places.now within.result c.have_some-some.result c.own_block.result.0 c.own_block.result.1
          c.requires.ranked c.requires.padded c.requires.boxed within.ensures.dims within.ensures.room c.have_some-some.ensures first last h),
      (λ room. room_is c.args._code.now p c.args.row.now c.args.places.now within.result c.have_some-some.result c.own_block.result.0 c.own_block.result.1
          c.requires.ranked c.requires.padded c.requires.boxed within.ensures.dims within.ensures.room c.have_some-some.ensures first last room),
    )

pub returns-clause-boxes : goal.returns-clause-boxes
returns-clause-boxes c =
    let rank = c.args.row.now.rank in
    let p = c.args.p in
    let within = c.are_room_in-within.ensures in
    let first = c.own_block.ensures.first ∙ ap (λ (a : Arrangement). own_first (laid_out a) rank p) c.requires.layout in
    let last = c.own_block.ensures.last ∙ ap (λ (a : Arrangement). own_last (laid_out a) rank p) c.requires.layout in
    all_rooms_boxed c.args._code.now p c.args.row.now c.own_block.result.0 c.own_block.result.1 within.rows within.lows within.highs first last

pub returns-clause-bounds : goal.returns-clause-bounds
returns-clause-bounds c = λ h.
    let within = c.are_room_in-within.ensures in
    let both = both_true c.are_room_in-within.result c.have_some-some.result h in
    wide_room c.args.row.now.dims c.own_block.result.0 c.own_block.result.1 c.args.places.now.dims (within.rows ∙ sym within.dims) (within.lows ∙ sym within.dims) (within.highs ∙ sym within.dims)
    c.own_block.ensures.first_bounds c.own_block.ensures.last_bounds c.requires.boxed (c.have_some-some.ensures.0 both.1) (within.room.0 both.0)
