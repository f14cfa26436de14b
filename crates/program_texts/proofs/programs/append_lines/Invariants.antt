use Rattle.std.proofs.Common.{◌≡◌, ◌-◌, ◌++◌}
use Rattle.program_texts.specs.Text.{lines_text}
use Rattle.program_texts.proofs.programs.append_lines.Given as goal

-- what is done, and the lines that are left, are all
abbrev pub invariant-loop-done : goal.invariant-loop-done
invariant-loop-done l =
    l.into.items ++ lines_text (l.count - l.done) l.state
    ≡ l.initial.into.items ++ lines_text l.count l.first
