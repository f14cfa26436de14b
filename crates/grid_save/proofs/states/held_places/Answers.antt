use Rattle.std.proofs.Common.{◌≡◌, ◌≤◌, length, refl, arith, ap, sym, ◌∙◌}
use Rattle.std.specs.Prelude.{Some, None, slice_get}
use Rattle.std.specs.Option.{option_map}
use Rattle.zpl_arrays.specs.Array.{Array}
use Rattle.node_form.specs.declared.tables.Tables.{Tables}
use Rattle.grid_meaning.specs.State.{IsStore}
use Rattle.grid_save.proofs.BoxLemmas.{arrays_are, found_region, zip_none}
use Rattle.grid_save.proofs.states.held_places.Goals as goal

pub returns-in_err-get-clause-places : goal.returns-in_err-get-clause-places
returns-in_err-get-clause-places c =
    let code = c.args.code.now in
    let stores = c.args.local.now.local.stores in
    let far : length c.tables.result.now.arrays ≤ c.from.result = c.in_err-get.ensures.none.0 refl in
    let same = ap (λ (tables : Tables). length tables.arrays) c.tables.ensures.same in
    let gone : slice_get stores c.args.array ≡ None =
    zip_none (IsStore code c.args.p) code.arrays stores c.args.array c.requires.state.parts.stores (omega (arith, far, same, c.from.ensures)) in
    c.from_residual.ensures ∙ sym (ap (option_map (λ (store : Array). store.storage)) gone)

pub returns-in_err-get-clause-arrays : goal.returns-in_err-get-clause-arrays
returns-in_err-get-clause-arrays c =
    arrays_are c.args.code.now c.args.p c.args.code.now.arrays c.args.local.now.local.stores c.requires.state.parts.stores

pub returns-clause-region : goal.returns-clause-region
returns-clause-region c =
    let code = c.args.code.now in
    let local = c.args.local.now.local in
    let row = c.in_ok-get.field-0.now in
    let at = c.args.array in
    let there : slice_get code.arrays at ≡ Some row =
    ap (λ (tables : Tables). slice_get tables.arrays at) (sym c.tables.ensures.same)
    ∙ (ap (λ n. slice_get c.tables.result.now.arrays n) (sym c.from.ensures) ∙ sym c.in_ok-get.ensures.row) in
    found_region code c.args.p at row local c.shape.result c.requires.state c.tables.ensures.fits there c.has_three.ensures c.shape.ensures

pub returns-clause-arrays : goal.returns-clause-arrays
returns-clause-arrays c =
    arrays_are c.args.code.now c.args.p c.args.code.now.arrays c.args.local.now.local.stores c.requires.state.parts.stores
