-- What may stand between two tokens: white space and comments.
use Rattle.std.specs.Prelude.{◌≡◌, ◌≢◌, ℕ, List, ◌∷◌, ◌++◌, IsTrue, codes}
use Rattle.std.specs.List.{AllByRecursion}
use Rattle.zpl_text.specs.Bytes.{newline, is_white, BeginsWith, FirstPasses, StandsIn, EndsLine}

-- Bytes begin with `--` and the rest of the line, and after is what follows.
pub record IsLineComment (bytes after : List ℕ) : Type 0 where
  pub body : List ℕ
  pub split : bytes ≡ codes "--" ++ (body ++ after)
  pub on_line : AllByRecursion (λ b. b ≢ newline) body
  pub ends_line : EndsLine after

-- Bytes begin with `/*` and all up to and with the next `*/`, and after is what follows.
pub record IsBlockComment (bytes after : List ℕ) : Type 0 where
  pub body : List ℕ
  pub split : bytes ≡ codes "/*" ++ (body ++ (codes "*/" ++ after))
  pub is_next : ¬ StandsIn (codes "*/") body

-- Bytes begin with a `/*` that no `*/` closes.
pub record IsOpenComment (bytes : List ℕ) : Type 0 where
  pub body : List ℕ
  pub split : bytes ≡ codes "/*" ++ body
  pub is_open : ¬ StandsIn (codes "*/") body

-- Bytes begin with some white space and comments, or with none, and after is what follows.
pub data Skips : List ℕ → List ℕ → Type 0 where
  nothing : {bytes : List ℕ} → Skips bytes bytes
  white : {b : ℕ} {bytes after : List ℕ} → IsTrue (is_white b) → Skips bytes after
      → Skips (b ∷ bytes) after
  line : {bytes next after : List ℕ} → IsLineComment bytes next → Skips next after
      → Skips bytes after
  block : {bytes next after : List ℕ} → IsBlockComment bytes next → Skips next after
      → Skips bytes after

-- Bytes begin with neither white space nor a comment.
pub record IsPastGap (bytes : List ℕ) : Type 0 where
  pub no_white : ¬ FirstPasses is_white bytes
  pub no_line : ¬ BeginsWith (codes "--") bytes
  pub no_block : ¬ BeginsWith (codes "/*") bytes
