-- How one token is cut off the front of bytes, and what is wrong where none can be.
use Rattle.std.specs.Prelude.{⊤, ◌≡◌, ℕ, ◌-◌, ◌<◌, ◌≤◌, ◌^◌, ℤ, pos, ◌<ℤ◌, ◌≤ℤ◌, Bool, true, false}
use Rattle.std.specs.Prelude.{◌==◌, ◌||◌, ◌⊎◌, List, [], ◌∷◌, ◌++◌, length, codes, IsTrue}
use Rattle.std.specs.Char.{is_ascii_digit}
use Rattle.zpl_tokens.specs.declared.Kind.{Kind}
use Rattle.zpl_tokens.specs.declared.Kind.TheVariants.{Number, Str, Ditto, Symbol, Word, End}
use Rattle.zpl_tokens.specs.declared.symbols.Sym.TheVariants.{OpenBracket}
use Rattle.zpl_tokens.specs.declared.keywords.Key.TheVariants.{Of, In}
use Rattle.zpl_text.specs.declared.faults.LexFault.{LexFault}
use Rattle.zpl_text.specs.declared.faults.LexFault.TheVariants.{BadByte, OpenComment, OpenString}
use Rattle.zpl_text.specs.declared.faults.LexFault.TheVariants.{NumberTooLarge, FloatText}
use Rattle.zpl_text.specs.Bytes.{quote, backslash, is_escape, BeginsWith, FirstPasses, EndsLine}
use Rattle.zpl_text.specs.Kinds.{IsBody, IsToken}
use Rattle.zpl_text.specs.Gaps.{IsOpenComment, IsPastGap}

-- a quote is a ditto directly behind the tokens `[`, `of` and `in`, and nowhere else
abbrev pub opens_ditto : Kind → Bool
opens_ditto (Symbol OpenBracket) = true
opens_ditto (Word Of) = true
opens_ditto (Word In) = true
opens_ditto _ = false

-- Where dittos stand no string does, and the other way round. The end is no token to be cut off.
abbrev pub MayStand : Bool → Kind → Type 0
MayStand ditto Ditto = IsTrue ditto
MayStand ditto Str = ditto ≡ false
MayStand ditto End = ⊥
MayStand ditto _ = ⊤

-- three bars stand together here
abbrev pub BeginsWithBars : List ℕ → Type 0
BeginsWithBars bytes = BeginsWith (codes "|||") bytes

-- a front of the bytes is a token, of a kind that may stand here
pub record IsTokenAt (ditto : Bool) (bytes front : List ℕ) (kind : Kind) : Type 0 where
  pub at_front : BeginsWith front bytes
  pub token : IsToken front kind
  pub place : MayStand ditto kind

-- A token of the kind is cut off, and after is what follows: of the fronts that are tokens the
-- longest, but of three bars the first by itself.
pub record IsCut (ditto : Bool) (bytes : List ℕ) (kind : Kind) (after : List ℕ) : Type 0 where
  pub front : List ℕ
  pub split : bytes ≡ front ++ after
  pub token : IsToken front kind
  pub place : MayStand ditto kind
  pub longest : ¬ BeginsWithBars bytes → (other : List ℕ) (k : Kind) → IsTokenAt ditto bytes other k
      → length other ≤ length front
  pub first_bar : BeginsWithBars bytes → front ≡ codes "|"

-- the greatest integer
abbrev pub greatest : ℤ
greatest = pos (2 ^ 63 - 1)

abbrev pub is_dot : ℕ → Bool
is_dot b = b == 46

-- `e` or `E`
abbrev pub is_exponent_mark : ℕ → Bool
is_exponent_mark b = b == 101 || b == 69

-- a digit, `+` or `-`
abbrev pub begins_exponent : ℕ → Bool
begins_exponent b = is_ascii_digit b || b == 43 || b == 45

-- What makes digits before it the text of a float: a `.` that no second one follows, or the mark of
-- an exponent and how an exponent goes on.
abbrev pub IsFloatTail : List ℕ → Type 0
IsFloatTail [] = ⊥
IsFloatTail (b ∷ after) =
    (IsTrue (is_dot b) × ¬ FirstPasses is_dot after)
    ⊎ (IsTrue (is_exponent_mark b) × FirstPasses begins_exponent after)

-- a number is no float's beginning, and at most the greatest integer
abbrev pub IsSound : Kind → List ℕ → Type 0
IsSound (Number n) after = ¬ IsFloatTail after × (n ≤ℤ greatest)
IsSound _ after = ⊤

-- there are bytes, and no front of them is a token, but the empty one, the end
pub record BeginsNoToken (bytes : List ℕ) : Type 0 where
  pub some : 0 < length bytes
  pub none : (front : List ℕ) (kind : Kind) → BeginsWith front bytes → IsToken front kind
      → front ≡ []

-- a string begins here, and its line ends before it does
pub record IsOpenString (bytes : List ℕ) : Type 0 where
  pub body : List ℕ
  pub rest : List ℕ
  pub split : bytes ≡ quote ∷ (body ++ rest)
  pub within : IsBody body
  pub ends : EndsLine rest

-- a string begins here, and in it a backslash, which with after behind it is no escape
pub record IsBadEscape (bytes after : List ℕ) : Type 0 where
  pub body : List ℕ
  pub split : bytes ≡ quote ∷ (body ++ backslash ∷ after)
  pub within : IsBody body
  pub unknown : ¬ FirstPasses is_escape after

-- how many bytes of the text stand before its rest
abbrev pub offset_of : List ℕ → List ℕ → ℕ
offset_of text rest = length text - length rest

-- What is wrong where the rest of a text begins. Each fault has the offset of its place: where the
-- rest begins, or for an unknown escape the backslash.
pub data IsWrong (text : List ℕ) (ditto : Bool) (rest : List ℕ) : LexFault → Type 0 where
  no_token :
      IsPastGap rest → BeginsNoToken rest → IsWrong text ditto rest (BadByte (offset_of text rest))
  bad_escape : {after : List ℕ} →
      ditto ≡ false → IsBadEscape rest after
      → IsWrong text ditto rest (BadByte (offset_of text (backslash ∷ after)))
  open_comment :
      IsOpenComment rest → IsWrong text ditto rest (OpenComment (offset_of text rest))
  open_string :
      ditto ≡ false → IsOpenString rest → IsWrong text ditto rest (OpenString (offset_of text rest))
  too_large : {n : ℤ} {after : List ℕ} →
      IsCut ditto rest (Number n) after → ¬ IsFloatTail after → greatest <ℤ n
      → IsWrong text ditto rest (NumberTooLarge (offset_of text rest))
  float_text : {n : ℤ} {after : List ℕ} →
      IsCut ditto rest (Number n) after → IsFloatTail after
      → IsWrong text ditto rest (FloatText (offset_of text rest))
