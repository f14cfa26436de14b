-- What the bytes between the quotes of a string stand for.
use Rattle.std.specs.Prelude.{ℕ, ◌==◌, if◌then◌else◌, List, [], ◌∷◌}
use Rattle.zpl_text.specs.Bytes.{newline, backslash}

-- what a letter behind a backslash stands for: `n` a newline, `t` a tab, and else itself
abbrev pub escape_of : ℕ → ℕ
escape_of letter = if letter == 110 then newline else (if letter == 116 then 9 else letter)

abbrev mutual
  -- the bytes that a string stands for
  pub unescaped : List ℕ → List ℕ
  unescaped [] = []
  unescaped (b ∷ rest) = if b == backslash then behind_backslash rest else b ∷ unescaped rest

  -- and those that stand for what is behind a backslash
  pub behind_backslash : List ℕ → List ℕ
  behind_backslash [] = []
  behind_backslash (letter ∷ rest) = escape_of letter ∷ unescaped rest
