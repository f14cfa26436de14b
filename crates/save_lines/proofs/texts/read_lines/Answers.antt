use Rattle.std.proofs.Common.{arith}
use Rattle.std.proofs.lemmas.List.{length-append}
use Rattle.std.proofs.lemmas.List.Elements.{All-push}
use Rattle.save_lines.specs.Line.{IsSavedLine}
use Rattle.save_lines.proofs.Steps.{shorter, text_more}
use Rattle.save_lines.proofs.texts.read_lines.Goals as goal

pub loop-rest-preserved : goal.loop-rest-preserved
loop-rest-preserved c =
    let next = rw c.in-Some.is at c.in_ok-line.ensures in
    let grown = c.in_ok-keep.ensures in
    let before = c.loop-rest.invariant in
    let less = shorter c.loop-rest.rest.now c.in-Some.behind.now c.in-Some.line next.1 in
    record {
      lines_are = rw grown (All-push IsSavedLine c.loop-rest.lines.items c.in-Some.line before.lines_are next.0);
      written = rw grown (text_more c.args.bytes.now c.loop-rest.rest.now c.in-Some.behind.now c.loop-rest.lines.items c.in-Some.line before.written next.1);
      few = rw (grown, length-append) (omega (arith, less, before.few));
    }
