use Rattle.std.proofs.Common.{List, ℕ, length}
use Rattle.zpl_text.specs.declared.tokens.Token.{Token}
use Rattle.zpl_tree.specs.Syntax.{Program}
use Rattle.node_form.specs.Grid.{IsGrid}
use Rattle.zpl_claims.specs.Build.{Build}
use Rattle.zpl_claims.specs.Compiled.{IsFaithful}
use Rattle.zpl_claims.specs.Origin.{origin_of}
use Rattle.compiled_runs.specs.of_zpl_compile.Compile.{compiled}
use Rattle.compiled_tidy.specs.Accepted.{IsAcceptedText}
use Rattle.compiled_tidy.proofs.AcceptedLemmas.{grammar_of}
use Rattle.right_code.specs.Accepted.{IsAccepted}
use Rattle.right_code.proofs.laws.code_of_accepted_texts_is_right.Goals as goal

pub returns : goal.returns
returns c = λ text tokens program build accepted grid. record {
  faithful = faithful text tokens program build accepted grid;
  tidy = c.accepted_code_is_tidy.ensures text tokens program build accepted;
}
  where
    is : (text : List ℕ) (tokens : List Token) (program : Program) (build : Build)
        → IsAcceptedText text tokens program build → IsGrid build.grid → IsAccepted program build
    is text tokens program build accepted grid = record {
      grammar = grammar_of text tokens program accepted.tree;
      faultless = accepted.faultless;
      apart = c.parsed_names_stand_apart.ensures text tokens program accepted.are_tokens
          accepted.tree;
      settings = accepted.accepts;
      grid = grid;
    }

    faithful : (text : List ℕ) (tokens : List Token) (program : Program) (build : Build)
        → IsAcceptedText text tokens program build → IsGrid build.grid
        → IsFaithful (origin_of build program (length tokens)) (compiled build program)
    faithful text tokens program build accepted grid =
        let one = is text tokens program build accepted grid in
        let meant = c.accepted_texts_are_shown.ensures.lowered text tokens program build accepted in
        record {
          good = c.code_of_meant_programs_is_right.ensures.good program build one meant;
          in_step = c.code_of_meant_programs_is_right.ensures.in_step program build one meant;
          in_time = c.code_of_meant_programs_is_right.ensures.in_time program build one meant;
        }
