-- Bytes, and how lists of bytes begin.
use Rattle.std.specs.Prelude.{⊤, ◌≡◌, ℕ, Bool, ◌==◌, ◌||◌, List, [], ◌∷◌, ◌++◌, IsTrue}
use Rattle.std.specs.Char.{is_ascii_alphabetic, is_ascii_digit}

-- the bytes that the rules name, apart from letters, digits and symbols
abbrev pub newline : ℕ
newline = 10

abbrev pub quote : ℕ
quote = 34

abbrev pub backslash : ℕ
backslash = 92

-- a space, a tab, a newline or a return
abbrev pub is_white : ℕ → Bool
is_white b = b == 32 || b == 9 || b == newline || b == 13

-- how a word begins: a letter or `_`
abbrev pub is_word_start : ℕ → Bool
is_word_start b = is_ascii_alphabetic b || b == 95

-- how it goes on: letters, `_` and digits
abbrev pub is_word_byte : ℕ → Bool
is_word_byte b = is_word_start b || is_ascii_digit b

-- what a backslash in a string is followed by: `n`, `t`, a backslash or a quote
abbrev pub is_escape : ℕ → Bool
is_escape b = b == 110 || b == 116 || b == backslash || b == quote

-- some bytes with others behind them
abbrev pub BeginsWith : List ℕ → List ℕ → Type 0
BeginsWith front bytes = (after : List ℕ) × (bytes ≡ front ++ after)

-- there is a first byte, and it passes the test
abbrev pub FirstPasses : (ℕ → Bool) → List ℕ → Type 0
FirstPasses test [] = ⊥
FirstPasses test (b ∷ after) = IsTrue (test b)

-- part is somewhere in bytes, in one piece
abbrev pub StandsIn : List ℕ → List ℕ → Type 0
StandsIn part bytes = (front after : List ℕ) × (bytes ≡ front ++ (part ++ after))

-- the line ends here, by a newline or with the text
abbrev pub EndsLine : List ℕ → Type 0
EndsLine [] = ⊤
EndsLine (b ∷ after) = b ≡ newline
