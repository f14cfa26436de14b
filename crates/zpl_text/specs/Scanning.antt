-- What the functions that scan tell of the front of their bytes. The rules don't need these words.
use Rattle.std.specs.Prelude.{◌≡◌, ◌≢◌, ℕ, ◌≤◌, List, [], ◌∷◌, ◌++◌, length}
use Rattle.zpl_tokens.specs.declared.symbols.Sym.{Sym}
use Rattle.zpl_tokens.specs.Sym.{symbol_text}
use Rattle.zpl_text.specs.Bytes.{newline, quote, backslash, is_escape, BeginsWith, FirstPasses}
use Rattle.zpl_text.specs.Kinds.{IsBody}
use Rattle.zpl_text.specs.Cutting.{BeginsWithBars}

-- a body may begin with an escape, or with a byte that stands for itself
abbrev pub BeginsEscape : List ℕ → Type 0
BeginsEscape [] = ⊥
BeginsEscape (b ∷ after) = (b ≡ backslash) × FirstPasses is_escape after

abbrev pub BeginsPlain : List ℕ → Type 0
BeginsPlain [] = ⊥
BeginsPlain (b ∷ after) = (b ≢ quote) × (b ≢ newline) × (b ≢ backslash)

-- Bytes begin with the body of a string, and it can't go on with after, which is what follows.
pub record IsWholeBody (bytes after : List ℕ) : Type 0 where
  pub body : List ℕ
  pub split : bytes ≡ body ++ after
  pub within : IsBody body
  pub no_escape : ¬ BeginsEscape after
  pub no_plain : ¬ BeginsPlain after

-- where no three bars stand together, no symbol at the front has two bytes
abbrev pub AllAreSingle : List ℕ → Type 0
AllAreSingle bytes = ¬ BeginsWithBars bytes → (symbol : Sym) → BeginsWith (symbol_text symbol) bytes
    → length (symbol_text symbol) ≤ 1

-- no three bars stand together, and at the front is this symbol of two bytes
pub record IsDoubleAt (bytes : List ℕ) (symbol : Sym) : Type 0 where
  pub no_bars : ¬ BeginsWithBars bytes
  pub at_front : BeginsWith (symbol_text symbol) bytes
  pub two : length (symbol_text symbol) ≡ 2
