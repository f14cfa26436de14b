-- What a fetch does to the list that it fills, from `old` to `new`. `Told` holds of the texts that
-- are told under the fetched name.
use Rattle.std.specs.Prelude.{◌≡◌, ◌⊎◌, ◌↔◌, ℕ, ◌+◌, ◌<◌, ◌≤◌, List, [], ◌++◌, length, take}
use Rattle.zpl_lists.specs.Front.{IsFrontOf}

-- the list gained a whole text, of at most limit bytes
pub record GainsWhole (Told : List ℕ → Type 0) (limit : ℕ) (old new : List ℕ) : Type 0 where
  pub text : List ℕ
  pub is_told : Told text
  pub is_short : length text ≤ limit
  pub gained : new ≡ old ++ text

-- the list gained the first limit + 1 bytes of a longer text
pub record GainsTooMuch (Told : List ℕ → Type 0) (limit : ℕ) (old new : List ℕ) : Type 0 where
  pub text : List ℕ
  pub is_told : Told text
  pub is_long : limit < length text
  pub gained : new ≡ old ++ take (limit + 1) text

-- the list gained a front of a text, of at most limit bytes, and nothing where no text is told
pub record GainsFront (Told : List ℕ → Type 0) (limit : ℕ) (old new : List ℕ) : Type 0 where
  pub front : List ℕ
  pub is_told : (front ≡ []) ⊎ ((text : List ℕ) × Told text × IsFrontOf front text)
  pub is_short : length front ≤ limit
  pub gained : new ≡ old ++ front

-- the same texts are told before and after, under each name
abbrev pub SameTexts : (List ℕ → List ℕ → Type 0) → (List ℕ → List ℕ → Type 0) → Type 0
SameTexts before after = (name text : List ℕ) → before name text ↔ after name text
