-- Lowered tables: what their loops run stands in their rows.
use Rattle.std.proofs.Common.{◌≡◌, refl, sym, ap, ◌∙◌, arith, subst, ℕ, zero, suc, ◌+◌}
use Rattle.std.proofs.Common.{◌≤◌, Bool, true, false}
use Rattle.std.proofs.Common.{List, [], ◌∷◌, length, map, length-append, Some, None}
use Rattle.std.specs.Prelude.{All, cond, count_by, flat_map, slice_get, slice_index_or, sum_by}
use Rattle.std.proofs.lemmas.List.{length-map}
use Rattle.std.proofs.lemmas.List.Sums.{sum_by-append, sum_by-cons, sum_by-le-sum_by}
use Rattle.node_form.specs.declared.words.ExprOp.{ExprOp}
use Rattle.node_form.specs.declared.words.ExprOp.TheVariants as word
use Rattle.node_form.specs.declared.members.Member as number
use Rattle.node_form.specs.declared.members.Member.TheVariants as member
use Rattle.node_form.specs.declared.instructions.Instr.{Instr}
use Rattle.node_form.specs.declared.instructions.Instr.TheVariants as instr
use Rattle.node_form.specs.declared.tables.Tables.{Tables}
use Rattle.node_form.specs.Fits.{Fits, FitsArray, FitsExchange, FitsExpr, FitsGroup, FitsInstr}
use Rattle.node_form.specs.Fits.{IsRank}
use Rattle.node_form.specs.Grid.{IsGrid}
use Rattle.code_parts.specs.Counts.{count_of}
use Rattle.code_parts.specs.Uses.{exprs_of, rows_or_none, shifted_in}
use Rattle.flat_form.specs.Flat.{IsFlat, IsFlatRow}
use Rattle.flat_form.specs.Row as row
use Rattle.flat_form.specs.Row.{Member, Row, Words, all_coded, all_inlined, group_coded, inlined}
use Rattle.flat_form.specs.Row.{mask_words, member_coded, member_inlined, member_words, row_groups}
use Rattle.flat_form.specs.Row.{row_words, with_row, with_rows, words_at}
use Rattle.flat_form.proofs.ReadLemmas.{read_again}
use Rattle.flat_passes.specs.Grouped.{grouped, loop_members, members_run}
use Rattle.lowering_checks.specs.of_pass_sizes.Sizes.{expr_shifts, group_shifts, is_unflat, loop_shifts, member_shifts}
use Rattle.lowering_checks.specs.of_pass_sizes.Sizes.{run_by}
use Rattle.lowering_checks.proofs.of_pass_sizes.SumLemmas.{flat_sum, map_sum, same_sum}
use Rattle.text_sharing.proofs.RowLemmas.{shared-inline}
use Rattle.lowering_checks.proofs.InlineLemmas.{rows_inline}
use Rattle.zpl_tree.specs.Syntax.{Program}
use Rattle.zpl_binding.specs.Settings.{Setting}
use Rattle.zpl_lowering.specs.Lowered.{Lowered}
use Rattle.zpl_lowering.specs.Program.{lowered_program}
use Rattle.zpl_lowering.specs.Tables.{empty_tables, flat_tables, rows_of}

-- ---- rows seen inline
abbrev shifts : Words → ℕ
shifts words = length (flat_map shifted_in words)

abbrev row_members : Row → ℕ
row_members (row.Loop slot group) = length group
row_members one = 0

abbrev row_shifts : Row → ℕ
row_shifts (row.Loop slot group) = sum_by shifts (flat_map member_words group)
row_shifts one = 0

abbrev row_length : Row → ℕ
row_length one = sum_by (λ words. length words) (row_words one)

-- the same lists by their numbers
pub found : {X : Type 0} (lists : List (List X)) (k : ℕ) →
    rows_or_none (slice_get lists k) ≡ slice_index_or lists k []
found [] k = refl
found (one ∷ lists) zero = refl
found (one ∷ lists) (suc k) = found lists k

module _ (tables : Tables) where
  members_same : (one : Instr) → members_run (grouped tables one) ≡ row_members (inlined tables one)
  members_same (instr.Loop slot group) =
      ap (λ l. length l) (found tables.groups group)
      ∙ sym (length-map (slice_index_or tables.groups group []) (member_inlined tables))
  members_same one = refl

  pub words_same : (one : number.Member) →
      member_words (member_inlined tables one) ≡ map (words_at tables) (exprs_of one)
  words_same (member.Put array expr (Some mask) line) = refl
  words_same (member.Put array expr None line) = refl
  words_same (member.Cell cell expr (Some mask) line) = refl
  words_same (member.Cell cell expr None line) = refl
  words_same (member.Acc scalar operator expr (Some mask) line) = refl
  words_same (member.Acc scalar operator expr None line) = refl
  words_same (member.OpenIf expr (Some mask) line) = refl
  words_same (member.OpenIf expr None line) = refl
  words_same member.Otherwise = refl
  words_same member.CloseIf = refl
  words_same (member.OpenWhile expr (Some mask) line) = refl
  words_same (member.OpenWhile expr None line) = refl
  words_same member.CloseWhile = refl
  words_same (member.OpenRepeat (Some mask) line) = refl
  words_same (member.OpenRepeat None line) = refl
  words_same (member.Until expr) = refl

  member_same : (one : number.Member) →
      member_shifts tables one ≡ sum_by shifts (member_words (member_inlined tables one))
  member_same one =
      same_sum (expr_shifts tables) (λ expr. shifts (words_at tables expr))
      (λ expr. ap shifts (found tables.exprs expr)) (exprs_of one)
      ∙ sym (map_sum shifts (words_at tables) (exprs_of one))
      ∙ ap (sum_by shifts) (sym (words_same one))

  group_same : (group : List number.Member) →
      group_shifts tables group
      ≡ sum_by shifts (flat_map member_words (map (member_inlined tables) group))
  group_same group =
      same_sum (member_shifts tables)
      (λ one. sum_by shifts (member_words (member_inlined tables one))) member_same group
      ∙ sym (map_sum (λ one. sum_by shifts (member_words one)) (member_inlined tables) group)
      ∙ sym (flat_sum shifts member_words (map (member_inlined tables) group))

  shifts_same : (one : Instr) →
      run_by (group_shifts tables) (grouped tables one) ≡ row_shifts (inlined tables one)
  shifts_same (instr.Loop slot group) =
      ap (group_shifts tables) (found tables.groups group)
      ∙ group_same (slice_index_or tables.groups group [])
  shifts_same one = refl

  pub members_read : (rows : List Row) → all_inlined tables ≡ rows →
      loop_members tables ≡ sum_by row_members rows
  members_read rows are =
      same_sum (λ one. members_run (grouped tables one)) (λ one. row_members (inlined tables one))
      members_same tables.code
      ∙ sym (map_sum row_members (inlined tables) tables.code)
      ∙ ap (sum_by row_members) are

  pub shifts_read : (rows : List Row) → all_inlined tables ≡ rows →
      loop_shifts tables ≡ sum_by row_shifts rows
  shifts_read rows are =
      same_sum (λ one. run_by (group_shifts tables) (grouped tables one))
      (λ one. row_shifts (inlined tables one)) shifts_same tables.code
      ∙ sym (map_sum row_shifts (inlined tables) tables.code)
      ∙ ap (sum_by row_shifts) are

-- ---- tables that rows are laid out in
coded_length : (n : ℕ) (group : List Member) → length (group_coded n group) ≡ length group
coded_length n [] = refl
coded_length n (one ∷ group) =
    omega (arith, coded_length (n + length (member_words one)) group)

groups_length : (n : ℕ) (one : Row) →
    sum_by (λ group. length group) (row_groups n one) ≡ row_members one
groups_length n (row.Loop slot group) = omega (arith, coded_length n group)
groups_length n one = refl

pub laid_groups : (tables : Tables) (rows : List Row) →
    sum_by (λ group. length group) (with_rows tables rows).groups
    ≡ sum_by (λ group. length group) tables.groups + sum_by row_members rows
laid_groups tables [] = omega arith
laid_groups tables (one ∷ rows) =
    omega (
      arith,
      laid_groups (with_row tables one) rows,
      sum_by-append (λ group. length group) tables.groups (row_groups (length tables.exprs) one),
      groups_length (length tables.exprs) one,
      sum_by-cons row_members one rows,
    )

pub laid_words : (tables : Tables) (rows : List Row) →
    sum_by (λ words. length words) (with_rows tables rows).exprs
    ≡ sum_by (λ words. length words) tables.exprs + sum_by row_length rows
laid_words tables [] = omega arith
laid_words tables (one ∷ rows) =
    omega (
      arith,
      laid_words (with_row tables one) rows,
      sum_by-append (λ words. length words) tables.exprs (row_words one),
      sum_by-cons row_length one rows,
    )

one_shift : (one : ExprOp) → length (shifted_in one) ≤ 1
one_shift (word.Shifted array shift) = omega arith
one_shift one = omega arith

few_shifts : (words : Words) → shifts words ≤ length words
few_shifts [] = omega arith
few_shifts (one ∷ words) =
    omega (
      arith,
      one_shift one,
      few_shifts words,
      length-append (shifted_in one) (flat_map shifted_in words),
    )

row_few : (one : Row) → row_shifts one ≤ row_length one
row_few (row.Loop slot group) =
    sum_by-le-sum_by shifts (λ words. length words) (flat_map member_words group) few_shifts
row_few one = omega arith

-- ---- the tables of a program
module _ (program : Program) (settings : List Setting)
    (flat : IsFlat (flat_tables program settings)) where
  abbrev lowered : Lowered
  lowered = lowered_program program settings

  abbrev rows : List Row
  rows = rows_of lowered

  abbrev first : Tables
  first = empty_tables (1 ∷ 0 ∷ 0 ∷ []) lowered

  abbrev old : Tables
  old = with_rows first rows

  abbrev flats : Tables
  flats = flat_tables program settings

  -- laying out rows leaves all but code, groups, expressions and texts
  kept_grid : (tables : Tables) (rows : List Row) → (with_rows tables rows).grid ≡ tables.grid
  kept_grid tables [] = refl
  kept_grid tables (one ∷ rows) = kept_grid (with_row tables one) rows

  kept_slots : (tables : Tables) (rows : List Row) → (with_rows tables rows).slots ≡ tables.slots
  kept_slots tables [] = refl
  kept_slots tables (one ∷ rows) = kept_slots (with_row tables one) rows

  kept_arrays : (tables : Tables) (rows : List Row) → (with_rows tables rows).arrays ≡ tables.arrays
  kept_arrays tables [] = refl
  kept_arrays tables (one ∷ rows) = kept_arrays (with_row tables one) rows

  none_there : {X : Type 0} (P : X → Type 0) → All P []
  none_there P k d inside = absurd (omega arith)

  first_fits : Fits first
  first_fits = record {
    grid = subst IsGrid (kept_grid first rows) flat.fits.grid;
    slots = subst (All IsRank) (kept_slots first rows) flat.fits.slots;
    arrays = subst (All FitsArray) (kept_arrays first rows) flat.fits.arrays;
    exprs = none_there (FitsExpr first);
    groups = none_there (FitsGroup first);
    exchanges = none_there (FitsExchange first);
    code = none_there (FitsInstr first);
  }

  pub read : all_inlined flats ≡ rows
  read = shared-inline old ∙ read_again first rows first_fits (rows_inline program settings)

  pub members_once : loop_members flats ≤ sum_by (λ group. length group) flats.groups
  members_once =
      omega (arith, members_read flats rows read, laid_groups first rows)

  pub shifts_once : loop_shifts flats ≤ sum_by (λ words. length words) flats.exprs
  shifts_once =
      omega (
        arith,
        shifts_read flats rows read,
        laid_words first rows,
        sum_by-le-sum_by row_shifts row_length rows row_few,
      )

  -- ---- rows of a flat program
  unflat_row : (one : Instr) → IsFlatRow one → is_unflat one ≡ false
  unflat_row (instr.Start exchange) f = absurd f
  unflat_row (instr.Finish exchange) f = absurd f
  unflat_row (instr.Vote group) f = absurd f
  unflat_row (instr.TreeVote group) f = absurd f
  unflat_row (instr.TreeFold scalar fold) f = absurd f
  unflat_row one f = refl

  unflat_rows : (code : List Instr) → All IsFlatRow code → count_by is_unflat code ≡ 0
  unflat_rows [] all = refl
  unflat_rows (one ∷ code) all =
      omega (
        arith,
        by (is_unflat one) (unflat_row one (all 0 one (omega arith))),
        unflat_rows code (λ k d inside. all (suc k) d (omega arith)),
        sum_by-cons (λ one. cond (is_unflat one) 1 0) one code,
      )
    where
      by : (b : Bool) → b ≡ false → cond {A = ℕ} b 1 0 ≡ 0
      by true e = cc
      by false e = refl

  pub none_unflat : count_of is_unflat flats ≡ 0
  none_unflat = unflat_rows flats.code flat.rows
