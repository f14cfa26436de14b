-- Where tokens stand in a text.
use Rattle.std.specs.Prelude.{⊤, ◌≡◌, ℕ, ◌≤◌, ◌≤ℤ◌, List, [], ◌∷◌, ◌++◌, length}
use Rattle.std.specs.List.{slice_range}
use Rattle.zpl_tokens.specs.declared.Kind.{Kind}
use Rattle.zpl_tokens.specs.declared.Kind.TheVariants.{Number}
use Rattle.zpl_text.specs.declared.tokens.Token.{Token}
use Rattle.zpl_text.specs.Kinds.{IsToken}
use Rattle.zpl_text.specs.Cutting.{greatest}

-- a number is an integer of 64 bits
abbrev pub IsWithinLimit : Kind → Type 0
IsWithinLimit (Number n) = n ≤ℤ greatest
IsWithinLimit _ = ⊤

-- the token stands in the text where it says, not before an offset
pub record IsSpan (text : List ℕ) (at : ℕ) (t : Token) : Type 0 where
  pub behind : at ≤ t.from
  pub in_order : t.from ≤ t.to
  pub within : t.to ≤ length text
  pub text_of : IsToken (slice_range text t.from t.to) t.kind
  pub limit : IsWithinLimit t.kind

-- the tokens stand in the text in order, the first not before an offset
abbrev pub AreSpans : List ℕ → ℕ → List Token → Type 0
AreSpans text at [] = ⊤
AreSpans text at (t ∷ tokens) = IsSpan text at t × AreSpans text t.to tokens

-- the tokens begin with those found
abbrev pub BeginWith : List Token → List Token → Type 0
BeginWith found tokens = (more : List Token) × (tokens ≡ found ++ more)
