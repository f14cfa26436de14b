-- Texts whose programs are accepted.
use Rattle.std.specs.Prelude.{ℕ, List}
use Rattle.zpl_text.specs.declared.tokens.Token.{Token}
use Rattle.zpl_text.specs.Tokens.{IsTokens}
use Rattle.zpl_tree.specs.Syntax.{Program}
use Rattle.zpl_grammar.specs.Texts.{IsTreeOf}
use Rattle.zpl_names.specs.Accepted.{IsFaultless}
use Rattle.zpl_binding.specs.Bound.{IsAcceptedWith}
use Rattle.zpl_claims.specs.Build.{Build}

-- The text has these tokens, and this tree, which has no fault and accepts the settings of a build.
pub record IsAcceptedText (text : List ℕ) (tokens : List Token) (program : Program)
    (build : Build) : Type 0 where
  pub are_tokens : IsTokens text tokens
  pub tree : IsTreeOf text tokens program
  pub faultless : IsFaultless program
  pub accepts : IsAcceptedWith program build.settings
