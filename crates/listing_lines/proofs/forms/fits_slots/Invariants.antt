use Rattle.std.proofs.Common.{◌≡◌, drop}
use Rattle.listing_lines.specs.Form.{fits_slots}
use Rattle.listing_lines.proofs.forms.fits_slots.Given as goal

abbrev pub invariant-loop-field : goal.invariant-loop-field
invariant-loop-field l = fits_slots l.fields l.initial.rest ≡ fits_slots (drop l.field-index l.fields) l.rest
