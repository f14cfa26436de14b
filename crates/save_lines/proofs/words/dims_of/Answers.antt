use Rattle.std.proofs.Common.{[]}
use Rattle.std.proofs.lemmas.List.Elements.{All-push}
use Rattle.zpl_region.specs.declared.dims.Dim.TheVariants as dim
use Rattle.save_lines.specs.Line.{IsDimWord, dim_word}
use Rattle.save_lines.proofs.Found.{taken_all, taken_more, taken_none}
use Rattle.save_lines.proofs.words.dims_of.Goals as goal

pub returns-in_default-clause-found : goal.returns-in_default-clause-found
returns-in_default-clause-found c =
    taken_none IsDimWord dim_word (λ word. word.now) record { ref_ptr = (0, 0); now = [] } dim.Flood c.args.words.now c.loop-word.word-index c.loop-word-test.true
    (rw c.in_default.is at c.in_ok-dim.ensures.found)

pub loop-word-preserved : goal.loop-word-preserved
loop-word-preserved c =
    let grown = c.in_ok-push.ensures.items in
    record {
      taken = rw grown (taken_more IsDimWord dim_word (λ word. word.now) record { ref_ptr = (0, 0); now = [] } dim.Flood c.args.words.now c.loop-word.dims.items
          c.loop-word.word-index c.in-Some.dim c.loop-word-test.true c.loop-word.invariant.taken (rw c.in-Some.is at c.in_ok-dim.ensures.found));
      are = rw grown (All-push IsDimWord c.loop-word.dims.items c.in-Some.dim c.loop-word.invariant.are (rw c.in-Some.is at c.in_ok-dim.ensures.range));
    }

pub returns-clause-found : goal.returns-clause-found
returns-clause-found c =
    taken_all IsDimWord dim_word (λ word. word.now) record { ref_ptr = (0, 0); now = [] } dim.Flood c.args.words.now c.loop-word.dims.items c.loop-word.word-index c.loop-word-test.false
    c.loop-word.invariant.taken
