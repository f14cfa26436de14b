-- What is wrong with a text, and what is told of it.
use Rattle.std.specs.Prelude.{ℕ, List, codes}
use Rattle.zpl_text.specs.declared.faults.LexFault.{LexFault}
use Rattle.zpl_text.specs.declared.tokens.Token.{Token}
use Rattle.zpl_text.specs.Faults.{lexical_name, lexical_offset}
use Rattle.zpl_text.specs.Lines.{line_at}
use Rattle.zpl_text.specs.Tokens.{IsTokens, HasFault}
use Rattle.zpl_grammar.specs.of_zpl_tree.Syntax.{Program}
use Rattle.zpl_grammar.specs.Texts.{IsShallowTree, IsSyntaxFault, IsTooDeep}
use Rattle.zpl_claims.specs.of_zpl_names.Accepted.{FaultKind, HasFault as HasJudgeFault}
use Rattle.call_claims.specs.Texts.{fault_text, judged_name, too_deep_text}

-- a fault of the text, told by its name and its place
abbrev pub placed_text : List ℕ → List ℕ → ℕ → List ℕ
placed_text text name at = fault_text name (line_at text at) at

-- ---- a text
-- Something is wrong with the text, and this is told of it: a byte, comment, string or number that
-- no token is; tokens that no tree has, or none that isn't too deep; or a tree with a fault of
-- names, ranks or types.
pub data IsFault (text : List ℕ) : List ℕ → Type 0 where
  lexical : (found : List Token) (fault : LexFault) → HasFault text found fault
      → IsFault text (placed_text text (lexical_name fault) (lexical_offset fault))
  syntax : (tokens : List Token) (at : ℕ) → IsTokens text tokens → IsSyntaxFault text tokens at
      → IsFault text (placed_text text (codes "Syntax") at)
  too_deep : (tokens : List Token) → IsTokens text tokens → IsTooDeep text tokens
      → IsFault text too_deep_text
  judged : (tokens : List Token) (program : Program) (kind : FaultKind) (at : ℕ)
      → IsTokens text tokens → IsShallowTree text tokens program → HasJudgeFault program kind at
      → IsFault text (placed_text text (judged_name kind) at)
