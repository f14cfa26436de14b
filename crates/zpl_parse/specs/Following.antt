-- What it means that a function of the parser follows a rule of the grammar.
use Rattle.std.specs.Prelude.{◌≡◌, ℕ, List, [], ◌∷◌, Result, Ok, Err, ⊤}
use Rattle.zpl_text.specs.declared.tokens.Token.{Token}
use Rattle.zpl_tokens.specs.declared.Kind.{Kind}
use Rattle.zpl_tokens.specs.declared.Kind.TheVariants as kind
use Rattle.zpl_parse.specs.declared.faults.ParseFault.{ParseFault}
use Rattle.zpl_parse.specs.declared.faults.ParseFault.TheVariants.{Syntax, TooDeep, NoMemory}
use Rattle.zpl_grammar.specs.Lexeme.{Lexeme, head_at}
use Rattle.zpl_parse.specs.Outcome.{Outcome, Wrong, Deep}

-- the rule meets a lexeme that can't stand where it does, and it stands here
pub record IsWrongAt {A : Type 0} (at : ℕ) (outcome : Outcome A) : Type 0 where
  pub rest : List Lexeme
  pub is : outcome ≡ Wrong rest
  pub place : at ≡ head_at rest

-- the rule finds that the tree gets too deep
pub record IsDeep {A : Type 0} (outcome : Outcome A) : Type 0 where
  pub rest : List Lexeme
  pub is : outcome ≡ Deep rest

-- the fault is what the rule's outcome says, or want of memory
abbrev pub IsFaultOf : {A : Type 0} → ParseFault → Outcome A → Type 0
IsFaultOf (Syntax at) outcome = IsWrongAt at outcome
IsFaultOf TooDeep outcome = IsDeep outcome
IsFaultOf NoMemory outcome = ⊤

-- the answer is what the rule's outcome says, where what was read is done so, or memory ran out
abbrev pub Follows : {V A : Type 0} → Result V ParseFault → (V → Outcome A) → Outcome A → Type 0
Follows (Ok read) done outcome = outcome ≡ done read
Follows (Err fault) done outcome = IsFaultOf fault outcome

-- kinds that have no value of their own
abbrev pub HasNoValue : Kind → Type 0
HasNoValue (kind.Number value) = ⊥
HasNoValue _ = ⊤

-- the first token is of the kind
abbrev pub BeginsWith : Kind → List Token → Type 0
BeginsWith kind [] = ⊥
BeginsWith kind (token ∷ tokens) = token.kind ≡ kind
