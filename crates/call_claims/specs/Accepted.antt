-- Texts that are accepted, by themselves and with settings.
use Rattle.std.specs.Prelude.{ℕ, List}
use Rattle.zpl_text.specs.declared.tokens.Token.{Token}
use Rattle.zpl_text.specs.Tokens.{IsTokens}
use Rattle.zpl_grammar.specs.of_zpl_tree.Syntax.{Program}
use Rattle.zpl_grammar.specs.Texts.{IsShallowTree}
use Rattle.zpl_claims.specs.of_zpl_names.Accepted.{IsFaultless}
use Rattle.zpl_claims.specs.of_zpl_binding.Bound.{IsAcceptedWith}
use Rattle.zpl_claims.specs.of_zpl_binding.Settings.{Setting}

-- The text's tree, which isn't too deep and has no fault of names, ranks and types.
pub record IsAccepted (text : List ℕ) (program : Program) : Type 0 where
  pub tokens : List Token
  pub of_text : IsTokens text tokens
  pub tree : IsShallowTree text tokens program
  pub faultless : IsFaultless program

-- it has none such
abbrev pub IsFaulty : List ℕ → Type 0
IsFaulty text = (program : Program) → ¬ IsAccepted text program

-- nor has it a fault of the settings, or of its declarations under them
pub record IsAcceptedUnder (text : List ℕ) (settings : List Setting) (program : Program) : Type 0
  where
    pub accepted : IsAccepted text program
    pub bound : IsAcceptedWith program settings
