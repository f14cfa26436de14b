use Rattle.std.proofs.Common.{◌≡◌, sym, ap, ◌∙◌, subst}
use Rattle.std.specs.Prelude.{Some, slice_get}
use Rattle.zpl_region.specs.Region.{IsRegion}
use Rattle.node_form.specs.declared.tables.Tables.{Tables}
use Rattle.node_control.proofs.StorageLemmas.{storage_there}
use Rattle.node_control.proofs.rows.need.Goals as goal

pub is_reference-stands-requires-clause-storage : goal.is_reference-stands-requires-clause-storage
is_reference-stands-requires-clause-storage c =
    let code = c.args.code.now in
    let row = c.array_at.result.now in
    let here : slice_get code.arrays c.args.array ≡ Some row =
    ap (λ (t : Tables). slice_get t.arrays c.args.array) (sym c.tables.ensures.same) ∙ c.array_at.ensures in
    subst IsRegion (sym c.storage_of-storage.ensures.places)
    (storage_there row (slice_get code.arrays c.args.array) here c.requires.fits.fit.2 c.storage_of-storage.ensures.many
    (c.rows_fit.ensures.array code c.args.array row c.tables.ensures.fits here))
