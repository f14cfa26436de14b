use Rattle.std.proofs.Common.{◌≡◌, ◌∙◌}
use Rattle.listing_rows.specs.Listing.{lines_of, listing_of}
use Rattle.listing_rows.proofs.listings.write_listing.Goals as goal

pub returns-clause-ok : goal.returns-clause-ok
unfolding listing_of
returns-clause-ok c =
    let lines : c.deref.result.now ≡ lines_of c.tables.result.now = c.deref.ensures.value ∙ c.in_ok-lines.ensures in
    rw (← c.tables.ensures.same, ← lines) c.write_lines.ensures.ok
