use Rattle.listing_rows.specs.Listing.{lines_of}
use Rattle.listing_rows.proofs.Rests.{joined}
use Rattle.listing_rows.proofs.listings.all_lines.Goals as goal

pub returns : goal.returns
unfolding lines_of
returns c = joined _ _ _ _ _ _ _ c.new-lines.ensures.items c.in_ok-add_head.ensures c.in_ok-add_body.ensures c.in_ok-add_code.ensures
