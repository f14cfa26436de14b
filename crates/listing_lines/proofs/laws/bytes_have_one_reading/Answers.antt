use Rattle.listing_lines.proofs.OneWay.{one_listing, lines_or_fault, one_fault}
use Rattle.listing_lines.proofs.laws.bytes_have_one_reading.Goals as goal

pub returns : goal.returns
returns c = record { lines = one_listing; apart = lines_or_fault; fault = one_fault }
