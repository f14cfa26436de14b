use Rattle.std.proofs.Common.{arith}
use Rattle.std.proofs.lemmas.List.{length-append}
use Rattle.listing_lines.proofs.Steps.{lead_more, text_more, length_more}
use Rattle.listing_lines.proofs.listings.read_lines.Goals as goal

pub loop-rest-preserved : goal.loop-rest-preserved
loop-rest-preserved c =
    let next = rw c.in-Some.is at c.in_ok-line.ensures in
    let grown = c.in_ok-keep.ensures in
    let before = c.loop-rest.invariant in
    let shorter = length_more c.loop-rest.rest.now c.in-Some.after.now c.in-Some.line next.2 in
    record {
      lead = rw grown (lead_more _ _ _ c.loop-rest.lines.items c.in-Some.line before.lead next.0 next.1);
      written = rw grown (text_more c.args.bytes.now c.loop-rest.rest.now c.in-Some.after.now c.loop-rest.lines.items c.in-Some.line before.written next.2);
      few = rw (grown, length-append) (omega (arith, shorter, before.few));
    }
