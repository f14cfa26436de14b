use Rattle.std.proofs.Common.{List, ℕ}
use Rattle.zpl_text.specs.declared.tokens.Token.{Token}
use Rattle.zpl_tree.specs.Syntax.{Program}
use Rattle.zpl_tree.specs.Grammar.{IsProgram}
use Rattle.zpl_meaning.specs.Program.{outcome_of}
use Rattle.zpl_lowering.specs.Tables.{flat_tables}
use Rattle.compiled_runs.specs.of_lock_steps.Meant.{IsMeant}
use Rattle.zpl_claims.specs.Build.{Build}
use Rattle.compiled_tidy.specs.Accepted.{IsAcceptedText}
use Rattle.compiled_tidy.proofs.AcceptedLemmas.{grammar_of}
use Rattle.right_code.proofs.MeantLemmas.{kept_meant}
use Rattle.right_code.proofs.TypedLemmas.{is_typed}
use Rattle.right_code.proofs.laws.accepted_texts_are_shown.Goals as goal

pub returns : goal.returns
returns c = record {
  lowered = lowered;
  settled = λ text tokens program build accepted.
      let grammar = grammar_of text tokens program accepted.tree in
      let apart = c.parsed_names_stand_apart.ensures text tokens program accepted.are_tokens
      accepted.tree in
      kept_meant _ _ (outcome_of program build.settings)
      (c.flat_passes_keep_runs.ensures build (flat_tables program build.settings)
      (c.lowered_programs_are_flat.ensures.flat program build.settings grammar accepted.faultless
      apart accepted.accepts)
      (is_typed (flat_tables program build.settings)
      (c.lowered_tables_are_typed.ensures.typed program build.settings grammar accepted.faultless
      apart accepted.accepts))
      (c.lowered_tables_are_typed.ensures.cells program build.settings))
      (lowered text tokens program build accepted);
}
  where
    lowered : (text : List ℕ) (tokens : List Token) (program : Program) (build : Build)
        → IsAcceptedText text tokens program build
        → IsMeant (flat_tables program build.settings) (outcome_of program build.settings)
    lowered text tokens program build accepted =
        let grammar : IsProgram program = grammar_of text tokens program accepted.tree in
        let apart = c.parsed_names_stand_apart.ensures text tokens program accepted.are_tokens
        accepted.tree in
        let forms = c.texts_of_shown_forms_are_shown.ensures text tokens program build.settings
        accepted.are_tokens accepted.tree
        (c.faultless_programs_have_shown_forms.ensures program accepted.faultless) in
        record {
          shown = c.array_programs_are_shown.ensures.shown program build.settings grammar
              accepted.faultless apart accepted.accepts forms;
          right = c.array_programs_are_shown.ensures.right program build.settings grammar
              accepted.faultless apart accepted.accepts forms;
        }
