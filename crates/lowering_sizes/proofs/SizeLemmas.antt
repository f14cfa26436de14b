-- The size of a program's tables.
use Rattle.std.proofs.Common.{◌≡◌, ℕ, zero, suc, ◌+◌, ◌*◌, ◌-◌, ◌≤◌, false, List, [], ◌∷◌, length, Option, Some, None, refl, arith}
use Rattle.std.specs.Prelude.{sum_by}
use Rattle.std.proofs.lemmas.List.{length-map}
use Rattle.std.proofs.lemmas.List.Sums.{sum_by-cons}
use Rattle.zpl_region.specs.declared.regions.Region.{Region}
use Rattle.zpl_arrays.specs.Array.{Array}
use Rattle.zpl_tree.specs.Word.{Word}
use Rattle.zpl_tree.specs.Word as word
use Rattle.zpl_tree.specs.Syntax.{Program}
use Rattle.zpl_tree.specs.Spelling.{stmt_words}
use Rattle.zpl_names.specs.Accepted.{IsFaultless}
use Rattle.zpl_names.specs.Shapes.{unknown_shapes}
use Rattle.zpl_names.specs.Sites.{routine_sites}
use Rattle.zpl_names.specs.Declared.{Routine, entry_of}
use Rattle.zpl_names.specs.Reached.{longest_chain}
use Rattle.zpl_names.specs.Expansion.{callees, expanded, expanded_from, expanded_of, body_tokens, names_count, source_size}
use Rattle.zpl_binding.specs.Outcome.{Computed}
use Rattle.zpl_binding.specs.Settings.{Setting}
use Rattle.zpl_binding.specs.Declarations.{known_of}
use Rattle.zpl_binding.specs.Regions.{Known}
use Rattle.zpl_binding.specs.Storages.{borders_of}
use Rattle.zpl_meaning.specs.Context.{Setup}
use Rattle.zpl_meaning.specs.Program.{setup_of, first_frame}
use Rattle.zpl_meaning.specs.Variables.{Frame}
use Rattle.code_parts.specs.Counts.{code_size}
use Rattle.text_sharing.proofs.RowLemmas.{shared-bare}
use Rattle.zpl_lowering.specs.Where.{Next}
use Rattle.zpl_lowering.specs.Lowered.{behind}
use Rattle.zpl_lowering.specs.Program.{Entry, body_code, reads_round, in_call, routine_code, call_code, region_rows, global_numbers, globals_made, first_next, entry_calling, entry_code, lowered_program}
use Rattle.zpl_lowering.specs.Tables.{flat_tables, unshared_tables}
use Rattle.lowering_sizes.specs.Sizes.{HoldsItsWords}
use Rattle.array_numbers.specs.of_lowering_fits.Whole.{body_frames}
use Rattle.lowering_sizes.proofs.Costs.{cost, no_text}
use Rattle.lowering_sizes.proofs.Weights.{rows_weight}
use Rattle.lowering_sizes.proofs.LaidOut.{weight, tables_size}
use Rattle.lowering_sizes.proofs.Slates.{AreNarrow}
use Rattle.lowering_sizes.proofs.Known.{HasThree, known_three}
use Rattle.lowering_sizes.proofs.Phases.{both_weight}
use Rattle.lowering_sizes.proofs.ProgramLemmas.{weight_measures, of_found, AreProcedures, CallsAreThere, own_cost, lowered_body_cost, entered_most, out_weight, call_weight_most}
use Rattle.lowering_sizes.proofs.DeclaredLemmas.{calls_there, local_count, var_counts, known_regions, Holds, frame_holds, numbers_narrow}
use Rattle.lowering_sizes.proofs.SpelledLemmas.{declared_fit}

-- ---- the entry procedure

entry_most : (text : List ℕ → ℕ) → text (10 ∷ []) ≤ 1 → (setup : Setup) (frame : Frame) →
    HasThree setup.known → CallsAreThere setup.program → AreNarrow (global_numbers frame).arrays →
    (depth : ℕ) (next : Next) →
    weight text (entry_code setup depth (entry_calling setup.program frame) next)
    ≤ 3 * of_found local_count (entry_of setup.program)
    + of_found (expanded setup.program (own_cost text setup.program) depth)
    (entry_of setup.program)
entry_most text one setup frame three there narrow zero next = omega arith
entry_most text one setup frame three there narrow (suc depth) next =
    by (entry_of setup.program) (there setup.program.name.text) there
  where
    by : (found : Option Routine) →
        ((routine : Routine) → found ≡ Some routine →
        AreProcedures (routine_sites setup.program unknown_shapes routine)) →
        CallsAreThere setup.program →
        weight text
        (routine_code setup false (call_code setup depth) found (entry_calling setup.program frame)
        next)
        ≤ 3 * of_found local_count found
        + of_found (expanded setup.program (own_cost text setup.program) (suc depth)) found
    by None there every = omega arith
    by (Some routine) there every =
        let calling = entry_calling setup.program frame in
        let entry : Entry = record { clears = false; line = calling.line } in
        let inside = in_call (reads_round setup.program routine) next in
        let last = body_frames setup entry routine calling inside in
        omega (
          arith,
          entered_most text (weight text) (weight_measures text) setup entry (call_code setup depth)
              routine calling inside
              (expanded setup.program (own_cost text setup.program) (suc depth) routine) three narrow
              (λ narrow.
              lowered_body_cost text one setup depth (call_code setup depth) routine calling last.frame
              last.next three narrow (there routine refl) (call_weight_most text one setup three every depth)),
          out_weight text (body_code setup entry (call_code setup depth) routine calling inside),
        )

-- ---- the sum over all calls

pub bare_parts : (words : List Word) → cost no_text words ≡ 32 * length words
bare_parts [] = refl
bare_parts (word.Str bytes ∷ words) = omega (arith, bare_parts words)
bare_parts (word.Name name ∷ words) = omega (arith, bare_parts words)
bare_parts (word.Number value ∷ words) = omega (arith, bare_parts words)
bare_parts (word.Ditto ∷ words) = omega (arith, bare_parts words)
bare_parts (word.Symbol symbol ∷ words) = omega (arith, bare_parts words)
bare_parts (word.Keyword key ∷ words) = omega (arith, bare_parts words)
bare_parts (word.End ∷ words) = omega (arith, bare_parts words)

sums_apart : (f a b c : Routine → ℕ) → ((x : Routine) → f x ≤ 32 * a x + (b x + 6 * c x)) →
    (xs : List Routine) →
    sum_by f xs ≤ 32 * sum_by a xs + (sum_by b xs + 6 * sum_by c xs)
sums_apart f a b c each [] = omega arith
sums_apart f a b c each (x ∷ xs) =
    omega (
      arith,
      each x,
      sums_apart f a b c each xs,
      sum_by-cons f x xs,
      sum_by-cons a x xs,
      sum_by-cons b x xs,
      sum_by-cons c x xs,
    )

expanded_apart : (program : Program) (f a b c : Routine → ℕ) →
    ((x : Routine) → f x ≤ 32 * a x + (b x + 6 * c x)) → (depth : ℕ) (routine : Routine) →
    expanded program f depth routine
    ≤ 32 * expanded program a depth routine
    + (expanded program b depth routine + 6 * expanded program c depth routine)
expanded_apart program f a b c each zero routine = omega arith
expanded_apart program f a b c each (suc depth) routine =
    omega (
      arith,
      each routine,
      sums_apart (expanded program f depth) (expanded program a depth) (expanded program b depth)
          (expanded program c depth) (expanded_apart program f a b c each depth)
          (callees program routine),
    )

pub program_apart : (program : Program) (f a b c : Routine → ℕ) →
    ((x : Routine) → f x ≤ 32 * a x + (b x + 6 * c x)) →
    of_found (expanded program f longest_chain) (entry_of program)
    ≤ 32 * expanded_of program a + (expanded_of program b + 6 * expanded_of program c)
program_apart program f a b c each = by (entry_of program)
  where
    by : (found : Option Routine) →
        of_found (expanded program f longest_chain) found
        ≤ 32 * expanded_from program a found
        + (expanded_from program b found + 6 * expanded_from program c found)
    by None = omega arith
    by (Some entry) = expanded_apart program f a b c each longest_chain entry

-- ---- the whole program

region_rows_weight : (text : List ℕ → ℕ) (slot : ℕ) (regions : List (Computed Region)) →
    rows_weight text (region_rows slot regions) ≡ length regions
region_rows_weight text slot [] = refl
region_rows_weight text slot (one ∷ rest) =
    omega (arith, region_rows_weight text (suc slot) rest)

globals_weight : (text : List ℕ → ℕ) (known : Known) (frame : Frame) (n : ℕ) → Holds frame n →
    weight text (globals_made known frame) ≡ 2 * length known.regions + n
globals_weight text known frame n holds =
    omega (
      arith,
      holds.count,
      region_rows_weight text 0 known.regions,
      length-map {A = Computed Region} {B = ℕ},
      length-map {A = Array} {B = Region},
    )

pub program_weight : (text : List ℕ → ℕ) → text (10 ∷ []) ≤ 1 → (program : Program)
    (settings : List Setting) → IsFaultless program → HoldsItsWords program →
    weight text (lowered_program program settings)
    ≤ 3 * length program.source
    + of_found (expanded program (own_cost text program) longest_chain) (entry_of program)
program_weight text one program settings faultless holds =
    let known = known_of program settings in
    let borders = borders_of program in
    let frame = first_frame program known borders in
    let setup = setup_of program known borders frame in
    let three = known_three program settings in
    let held = frame_holds program known borders three in
    let first = globals_made known frame in
    let next = behind (first_next program) first in
    omega (
      arith,
      globals_weight text known frame (var_counts program.decls) held,
      known_regions program settings,
      declared_fit program program.name.text holds,
      entry_most text one setup frame three (calls_there program faultless)
          (numbers_narrow frame (var_counts program.decls) held) longest_chain next,
      both_weight text first
          (entry_code setup longest_chain (entry_calling program frame) next),
    )

nothing : (texts : List (List ℕ)) → sum_by no_text texts ≡ 0
nothing [] = refl
nothing (text ∷ texts) = omega (arith, nothing texts, sum_by-cons no_text text texts)

no_sum : (f : Routine → ℕ) → ((x : Routine) → f x ≡ 0) → (xs : List Routine) → sum_by f xs ≡ 0
no_sum f each [] = refl
no_sum f each (x ∷ xs) = omega (arith, each x, no_sum f each xs, sum_by-cons f x xs)

no_expanded : (program : Program) (depth : ℕ) (routine : Routine) →
    expanded program (λ routine. 0) depth routine ≡ 0
no_expanded program zero routine = refl
no_expanded program (suc depth) routine =
    omega (
      arith,
      no_sum (expanded program (λ routine. 0) depth) (no_expanded program depth)
          (callees program routine),
    )

pub none_of : (program : Program) → expanded_of program (λ routine. 0) ≡ 0
none_of program = by (entry_of program)
  where
    by : (found : Option Routine) → expanded_from program (λ routine. 0) found ≡ 0
    by None = refl
    by (Some entry) = no_expanded program longest_chain entry

-- without the bytes of texts
pub bare_law : (program : Program) (settings : List Setting) → IsFaultless program →
    HoldsItsWords program →
    code_size (record (flat_tables program settings) { texts = [] })
    ≤ 3 * length program.source + 32 * (source_size program - length program.source) + 30
bare_law program settings faultless holds =
    let one : no_text (10 ∷ []) ≤ 1 = omega arith in
    omega (
      arith,
      shared-bare (unshared_tables program settings),
      program_weight no_text one program settings faultless holds,
      tables_size no_text (1 ∷ 0 ∷ 0 ∷ []) (lowered_program program settings),
      nothing (unshared_tables program settings).texts,
      program_apart program (own_cost no_text program) body_tokens (λ routine. 0)
          (λ routine. sum_by names_count (callees program routine))
          (λ routine. omega (arith, bare_parts (stmt_words routine.procedure.body))),
      none_of program,
    )
