-- The tokens of a text, and its faults.
use Rattle.std.specs.Prelude.{◌≡◌, ℕ, Bool, false, List, [], ◌∷◌, ◌++◌, length}
use Rattle.zpl_tokens.specs.declared.Kind.TheVariants.{End}
use Rattle.zpl_text.specs.declared.tokens.Token.{Token}
use Rattle.zpl_text.specs.declared.faults.LexFault.{LexFault}
use Rattle.zpl_text.specs.declared.faults.LexFault.TheVariants.{NoMemory}
use Rattle.zpl_text.specs.Gaps.{Skips, IsPastGap}
use Rattle.zpl_text.specs.Cutting.{opens_ditto, IsCut, IsSound, offset_of, IsWrong}

-- where the cutting of a text stands: what is left of it, and whether a quote is a ditto there
pub record Place : Type 0 where
  pub rest : List ℕ
  pub ditto : Bool

-- One step: behind a gap a token is cut off, and the next place is behind it.
pub record Takes (text : List ℕ) (here : Place) (token : Token) (next : Place) : Type 0 where
  pub begin : List ℕ
  pub skips : Skips here.rest begin
  pub past_gap : IsPastGap begin
  pub cut : IsCut here.ditto begin token.kind next.rest
  pub sound : IsSound token.kind next.rest
  pub from : token.from ≡ offset_of text begin
  pub to : token.to ≡ offset_of text next.rest
  pub ditto : next.ditto ≡ opens_ditto token.kind

-- the tokens that are cut off from one place to another
pub data Cuts (text : List ℕ) : Place → List Token → Place → Type 0 where
  nothing : {here : Place} → Cuts text here [] here
  token : {here next there : Place} {t : Token} {tokens : List Token} → Takes text here t next
      → Cuts text next tokens there → Cuts text here (t ∷ tokens) there

-- the whole text, where no quote is a ditto
abbrev pub start : List ℕ → Place
start text = record { rest = text; ditto = false }

-- the end, which stands at the length of the text
abbrev pub end_of : List ℕ → Token
end_of text = record { kind = End; from = length text; to = length text }

-- found are the first tokens of the text
pub record IsFound (text : List ℕ) (found : List Token) : Type 0 where
  pub last : Place
  pub cuts : Cuts text (start text) found last

-- The tokens of the text: those that are cut off until no more than a gap is left, and the end.
pub record IsTokens (text : List ℕ) (tokens : List Token) : Type 0 where
  pub found : List Token
  pub last : Place
  pub cuts : Cuts text (start text) found last
  pub only_gap : Skips last.rest []
  pub all : tokens ≡ found ++ end_of text ∷ []

-- Nothing can be cut off at a place: behind a gap something is wrong.
pub record IsFaultAt (text : List ℕ) (here : Place) (fault : LexFault) : Type 0 where
  pub begin : List ℕ
  pub skips : Skips here.rest begin
  pub wrong : IsWrong text here.ditto begin fault

-- The text has a fault behind the tokens found.
pub record HasFault (text : List ℕ) (found : List Token) (fault : LexFault) : Type 0 where
  pub last : Place
  pub cuts : Cuts text (start text) found last
  pub fault_at : IsFaultAt text last fault

-- new is old with a list behind it of which the fact holds
pub record Appends (old new : List Token) (fact : List Token → Type 0) : Type 0 where
  pub tokens : List Token
  pub appended : new ≡ old ++ tokens
  pub holds : fact tokens

-- what a refusal tells of the text and the tokens found before it
abbrev pub Refuses : List ℕ → LexFault → List Token → Type 0
Refuses text NoMemory found = IsFound text found
Refuses text fault found = HasFault text found fault
