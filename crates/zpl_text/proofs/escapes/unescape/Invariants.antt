use Rattle.std.proofs.Common.{◌≡◌, ◌++◌, if◌then◌else◌, drop}
use Rattle.zpl_text.specs.Escapes.{unescaped, behind_backslash}
use Rattle.zpl_text.proofs.escapes.unescape.Given as goal

-- what is written and what is left to write are the whole
abbrev pub invariant-loop-byte : goal.invariant-loop-byte
invariant-loop-byte l =
    let rest = drop l.byte-index l.string in
    l.text.items ++ (if l.is_escaped then behind_backslash rest else unescaped rest) ≡ unescaped
    l.string
