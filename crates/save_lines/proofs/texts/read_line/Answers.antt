use Rattle.std.proofs.Common.{◌≡◌, map, ap, sym, ◌∙◌}
use Rattle.std.specs.Prelude.{◌==◌}
use Rattle.std.specs.List.{slice_split}
use Rattle.save_lines.specs.Line.{line_text, words_of}
use Rattle.save_lines.proofs.Gaps.{split_line}
use Rattle.save_lines.proofs.texts.read_line.Goals as goal

pub returns-in_default : goal.returns-in_default
returns-in_default c = λ line is written.
    let words : map (λ word. word.now) c.deref.result.now ≡ words_of line =
    ap (map (λ word. word.now)) c.deref.ensures.value ∙ (c.in_ok-words.ensures ∙ (ap (slice_split (λ byte. byte == 32)) written ∙ split_line line is)) in
    let found = rw c.in_default.is at c.in_ok-line.ensures.found line is words in
    cc

pub returns-then-not-branch : goal.returns-then-not-branch
returns-then-not-branch c = λ line is written.
    let words : map (λ word. word.now) c.deref.result.now ≡ words_of line =
    ap (map (λ word. word.now)) c.deref.ensures.value ∙ (c.in_ok-words.ensures ∙ (ap (slice_split (λ byte. byte == 32)) written ∙ split_line line is)) in
    let found = rw c.in-Some.is at c.in_ok-line.ensures.found line is words in
    let same : c.in-Some.line ≡ line = cc in
    let own : c.args.text.now ≡ line_text c.in-Some.line = written ∙ ap line_text (sym same) in
    let yes = c.in_ok-is_written.ensures.1 own in
    let no = c.if-not-branch.true in
    cc
