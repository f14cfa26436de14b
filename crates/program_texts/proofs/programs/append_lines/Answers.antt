use Rattle.std.proofs.Common.{◌≡◌, ◌-◌, ◌+◌, ◌++◌, ◌∙◌, ap}
use Rattle.program_texts.specs.Text.{line_behind, line_text, lines_text}
use Rattle.program_texts.proofs.LineLemmas.{line_more}
use Rattle.program_texts.proofs.programs.append_lines.Goals as goal

pub loop-done-preserved : goal.loop-done-preserved
loop-done-preserved c =
    let out = c.loop-done.into.items in
    let left = c.args.count - (c.loop-done.done + 1) in
    let line = line_behind c.loop-done.state in
    let added : c.append_line.new.into.items ≡ out ++ line_text line =
    c.in_ok-append_line.ensures {u = tt} ∙ ap (λ l. out ++ line_text l) c.line_behind-line.ensures in
    ap (λ (items : _). items ++ lines_text left c.line_behind-line.result.direction) added
    ∙ (ap (λ l. (out ++ line_text line) ++ lines_text left l.direction) c.line_behind-line.ensures
    ∙ (line_more out c.args.count c.loop-done.done c.loop-done.state c.loop-done-test.true
    ∙ c.loop-done.invariant))
