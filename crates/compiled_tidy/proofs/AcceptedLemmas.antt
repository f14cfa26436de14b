-- The lowered tables of an accepted text are laid out tidily. What is said of them elsewhere is handed
-- in: names of arrays that stand apart, tables that are a flat program's, words that the text holds,
-- checks in front of loops, loops that stand apart, arrays that are declared as the text says, loops
-- that put arrays alike, and stored arrays that are the program's.
use Rattle.std.proofs.Common.{◌≡◌, ℕ, List, length}
use Rattle.std.specs.Prelude.{None}
use Rattle.zpl_text.specs.declared.tokens.Token.{Token}
use Rattle.zpl_text.specs.Tokens.{IsTokens}
use Rattle.zpl_tree.specs.Grammar.{IsProgram, Spells}
use Rattle.zpl_tree.specs.Syntax.{Program}
use Rattle.zpl_grammar.specs.Texts.{IsTreeOf}
use Rattle.zpl_names.specs.Accepted.{IsFaultless}
use Rattle.zpl_binding.specs.Bound.{IsAcceptedWith}
use Rattle.zpl_binding.specs.Declarations.{known_of}
use Rattle.zpl_binding.specs.Settings.{Setting}
use Rattle.grid_meaning.specs.Stored.{arrangement_of}
use Rattle.zpl_claims.specs.Boxes.{boxes_of}
use Rattle.node_form.specs.declared.tables.Tables.{Tables}
use Rattle.flat_form.specs.Flat.{IsFlat}
use Rattle.flat_form.specs.Row.{Row, all_inlined}
use Rattle.compiled_sizes.specs.of_pass_parts.Checks.{ChecksWhatFollows}
use Rattle.zpl_lowering.specs.Program.{lowered_program}
use Rattle.zpl_lowering.specs.Tables.{flat_tables, rows_of}
use Rattle.program_boxes.specs.of_lowered_flat.Apart.{NamesStandApart}
use Rattle.program_boxes.specs.of_lowering_fits.Declarations.{FitsProgram}
use Rattle.compiled_sizes.specs.of_lowering_checks.Stands.{PutsAlike, ReadsApart}
use Rattle.compiled_sizes.specs.of_lowering_checks.Totals.{AreApart, FirstPuts, NoneAccumulates}
use Rattle.compiled_sizes.specs.of_lowering_checks.Walked.{AreChecked}
use Rattle.compiled_sizes.specs.of_lowering_sizes.Sizes.{HasTokens, HoldsItsWords}
use Rattle.zpl_claims.specs.Build.{Build}
use Rattle.zpl_claims.specs.Origin.{origin_of}
use Rattle.compiled_sizes.specs.Lowered.{IsLowered}
use Rattle.compiled_sizes.proofs.BaseLemmas.{read}
use Rattle.compiled_tidy.specs.Accepted.{IsAcceptedText}
use Rattle.compiled_tidy.specs.Lowered.{IsLoweredTidily}

pub grammar_of : (text : List ℕ) (tokens : List Token) (program : Program) →
    IsTreeOf text tokens program → IsProgram program
grammar_of text tokens program tree = by tree.spelled.spells
  where
    by : Spells program tree.spelled.words → IsProgram program
    by (decls, grammar, each, same) = grammar

module _
    (apart : (text : List ℕ) (tokens : List Token) (program : Program) → IsTokens text tokens →
    IsTreeOf text tokens program → NamesStandApart program)
    (flat : (program : Program) (settings : List Setting) → IsProgram program →
    IsFaultless program → NamesStandApart program → IsAcceptedWith program settings →
    IsFlat (flat_tables program settings))
    (holds : (text : List ℕ) (tokens : List Token) (program : Program) → IsTokens text tokens →
    IsTreeOf text tokens program → HoldsItsWords program)
    (has : (text : List ℕ) (tokens : List Token) (program : Program) →
    IsTreeOf text tokens program → HasTokens program (length tokens))
    (checked : (program : Program) (settings : List Setting) → IsProgram program →
    IsFaultless program → IsAcceptedWith program settings →
    AreChecked None (rows_of (lowered_program program settings)))
    (follows : (tables : Tables) (rows : List Row) → all_inlined tables ≡ rows →
    AreChecked None rows → ChecksWhatFollows tables)
    (stand_apart : (program : Program) (settings : List Setting) →
    AreApart None (rows_of (lowered_program program settings)))
    (none_accumulate : (tables : Tables) (rows : List Row) → all_inlined tables ≡ rows →
    AreApart None rows → NoneAccumulates tables)
    (first_puts : (tables : Tables) (rows : List Row) → all_inlined tables ≡ rows →
    AreApart None rows → FirstPuts tables)
    (read_apart : (program : Program) (settings : List Setting) → IsFaultless program →
    all_inlined (flat_tables program settings) ≡ rows_of (lowered_program program settings) →
    ChecksWhatFollows (flat_tables program settings) →
    ReadsApart (flat_tables program settings))
    (declared : (program : Program) (settings : List Setting) → IsProgram program →
    IsFaultless program → IsAcceptedWith program settings → FitsProgram program settings)
    (put_alike : (program : Program) (settings : List Setting) → IsProgram program →
    IsFaultless program → IsAcceptedWith program settings → FitsProgram program settings →
    all_inlined (flat_tables program settings) ≡ rows_of (lowered_program program settings) →
    PutsAlike (flat_tables program settings))
    (stored : (text : List ℕ) (tokens : List Token) (program : Program) (settings : List Setting) →
    IsTokens text tokens → IsTreeOf text tokens program → IsFaultless program →
    IsAcceptedWith program settings → (arrangement_of (flat_tables program settings)).boxes ≡
    boxes_of program (known_of program settings))
    (text : List ℕ) (tokens : List Token) (program : Program) (build : Build)
    (accepted : IsAcceptedText text tokens program build) where
  grammar : IsProgram program
  grammar = grammar_of text tokens program accepted.tree

  accepted_lowered : IsLowered build program
  accepted_lowered = record {
    faultless = accepted.faultless;
    holds = holds text tokens program accepted.are_tokens accepted.tree;
    flat = flat program build.settings grammar accepted.faultless
        (apart text tokens program accepted.are_tokens accepted.tree) accepted.accepts;
  }

  checks : ChecksWhatFollows (flat_tables program build.settings)
  checks = follows (flat_tables program build.settings)
      (rows_of (lowered_program program build.settings))
      (read program build.settings accepted_lowered.flat)
      (checked program build.settings grammar accepted.faultless accepted.accepts)

  pub accepted_tidily : IsLoweredTidily (origin_of build program (length tokens))
  accepted_tidily = record {
    lowered = accepted_lowered;
    tokens = has text tokens program accepted.tree;
    checks = checks;
    totals = none_accumulate (flat_tables program build.settings)
        (rows_of (lowered_program program build.settings))
        (read program build.settings accepted_lowered.flat) (stand_apart program build.settings);
    puts = first_puts (flat_tables program build.settings)
        (rows_of (lowered_program program build.settings))
        (read program build.settings accepted_lowered.flat) (stand_apart program build.settings);
    reads = read_apart program build.settings accepted.faultless
        (read program build.settings accepted_lowered.flat) checks;
    alike = put_alike program build.settings grammar accepted.faultless accepted.accepts
        (declared program build.settings grammar accepted.faultless accepted.accepts)
        (read program build.settings accepted_lowered.flat);
    boxes = stored text tokens program build.settings accepted.are_tokens accepted.tree
        accepted.faultless accepted.accepts;
  }
