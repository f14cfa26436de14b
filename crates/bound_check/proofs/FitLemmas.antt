-- Tables that fit do so without their decided checks.
use Rattle.std.proofs.Common.{◌≡◌, refl, sym, ap, ◌∙◌, subst, arith, ℕ, zero, suc, ◌+◌, ◌≤◌}
use Rattle.std.proofs.Common.{Bool, true, false, true≢false, List, [], ◌∷◌, ◌++◌, length}
use Rattle.std.specs.Prelude.{All, Option, Some, None, filter, if◌then◌else◌, slice_get}
use Rattle.std.specs.Option.{IfSome, IsSomeAnd}
use Rattle.std.specs.List.{AllByRecursion}
use Rattle.std.proofs.lemmas.List.Elements.{All-from_recursion, recursion_from_All}
use Rattle.flat_passes.specs.of_node_form.declared.words.ExprOp.{ExprOp}
use Rattle.flat_passes.specs.of_node_form.declared.words.ExprOp.TheVariants as word
use Rattle.flat_passes.specs.of_node_form.declared.members.Member.{Member}
use Rattle.flat_passes.specs.of_node_form.declared.members.Member.TheVariants as member
use Rattle.flat_passes.specs.of_node_form.declared.instructions.Instr.{Instr}
use Rattle.flat_passes.specs.of_node_form.declared.instructions.Instr.TheVariants as instr
use Rattle.flat_passes.specs.of_node_form.declared.tables.Tables.{Tables}
use Rattle.flat_passes.specs.of_node_form.Fits.{Fits, FitsInstr, FitsMember, FitsWord, HasExpr}
use Rattle.flat_passes.specs.of_code_parts.Stretch.{ends_stretch}
use Rattle.flat_passes.specs.Numbers.{number_among, numbers_from}
use Rattle.flat_passes.specs.Rewritten.{with_moved_goal}
use Rattle.flat_passes.proofs.FitLemmas.{alone_fits, fits_anew}
use Rattle.flat_passes.proofs.NumberLemmas.{becomes, by_number, counted, new_length, passed_by_rows}
use Rattle.flat_passes.proofs.NumberLemmas.{rows_become, same_moved_goal}
use Rattle.flat_passes.proofs.StretchLemmas.{every_append}
use Rattle.bound_check.specs.Checked.{checked, rows_stayed, stays}
use Rattle.bound_check.proofs.WriteLemmas.{by_steps, one_for_one}

-- ---- new numbers are no larger than the end
number_less : (count : Instr → ℕ) (rows : List Instr) (from end g : ℕ)
    → from + counted count rows ≤ end → number_among (numbers_from count from rows) end g ≤ end
number_less count [] from end g less = omega arith
number_less count (row ∷ rows) from end zero less = omega (arith, less)
number_less count (row ∷ rows) from end (suc g) less =
    number_less count rows (from + count row) end g (omega (arith, less))

weaker_some : {X : Type 0} (P Q : X → Type 0) → ((x : X) → P x → Q x) → (o : Option X)
    → IsSomeAnd o P → IsSomeAnd o Q
weaker_some P Q weaker None holds = holds
weaker_some P Q weaker (Some x) holds = weaker x holds

weaker_if : {X : Type 0} (P Q : X → Type 0) → ((x : X) → P x → Q x) → (o : Option X)
    → IfSome o P → IfSome o Q
weaker_if P Q weaker None holds = holds
weaker_if P Q weaker (Some x) holds = weaker x holds

-- ---- groups, with other code
module _ (tables : Tables) (code : List Instr) where
  abbrev anew : Tables
  anew = record tables { groups = tables.groups; code = code }

  word_same : (rank : ℕ) (one : ExprOp) → FitsWord tables rank one → FitsWord anew rank one
  word_same rank (word.Const value) fits = fits
  word_same rank (word.Scalar scalar) fits = fits
  word_same rank (word.Here array) fits = fits
  word_same rank (word.Shifted array shift) fits = fits
  word_same rank (word.Cell cell) fits = fits
  word_same rank (word.Coord dimension) fits = fits
  word_same rank (word.Pair op) fits = fits
  word_same rank word.Neg fits = fits
  word_same rank word.Not fits = fits
  word_same rank word.Abs fits = fits

  has_expr : (rank expr : ℕ) → HasExpr tables rank expr → HasExpr anew rank expr
  has_expr rank expr =
      weaker_some (All (FitsWord tables rank)) (All (FitsWord anew rank))
      (λ words fits k d inside. word_same rank _ (fits k d inside)) (slice_get tables.exprs expr)

  has_mask : (rank : ℕ) (mask : Option ℕ) → IfSome mask (HasExpr tables rank)
      → IfSome mask (HasExpr anew rank)
  has_mask rank mask = weaker_if (HasExpr tables rank) (HasExpr anew rank) (has_expr rank) mask

  member_same : (rank : ℕ) (one : Member) → FitsMember tables rank one → FitsMember anew rank one
  member_same rank (member.Put array expr mask line) fits =
      (fits.0, has_expr rank expr fits.1, has_mask rank mask fits.2)
  member_same rank (member.Cell cell expr mask line) fits =
      (fits.0, has_expr rank expr fits.1, has_mask rank mask fits.2)
  member_same rank (member.Acc scalar fold expr mask line) fits =
      (fits.0, has_expr rank expr fits.1, has_mask rank mask fits.2)
  member_same rank (member.OpenIf expr mask line) fits =
      (has_expr rank expr fits.0, has_mask rank mask fits.1)
  member_same rank member.Otherwise fits = fits
  member_same rank member.CloseIf fits = fits
  member_same rank (member.OpenWhile expr mask line) fits =
      (has_expr rank expr fits.0, has_mask rank mask fits.1)
  member_same rank member.CloseWhile fits = fits
  member_same rank (member.OpenRepeat mask line) fits = has_mask rank mask fits
  member_same rank (member.Until expr) fits = has_expr rank expr fits

  -- ---- a row that leads nowhere, and one that leads to a row or the end
  row_same : (row : Instr) → ends_stretch row ≡ false → FitsInstr tables row
      → FitsInstr anew row
  row_same (instr.Jump goal) ends fits = absurd (true≢false ends)
  row_same (instr.Unless expr goal line) ends fits = absurd (true≢false ends)
  row_same (instr.Loop slot group) ends fits = record {
    rank = fits.rank;
    fit = (
      fits.fit.0,
      weaker_some (All (FitsMember tables fits.rank)) (All (FitsMember anew fits.rank))
          (λ members fit k d inside. member_same fits.rank _ (fit k d inside))
          (slice_get tables.groups group) fits.fit.1,
    );
  }
  row_same (instr.Vote group) ends fits = record { rank = fits.rank; fit = fits.fit }
  row_same (instr.TreeVote group) ends fits = record { rank = fits.rank; fit = fits.fit }
  row_same row ends fits = alone_fits tables tables.groups code row fits

  row_moved : (moved : ℕ → ℕ) → ((g : ℕ) → moved g ≤ length code) → (row : Instr)
      → ends_stretch row ≡ true → FitsInstr tables row → FitsInstr anew (with_moved_goal moved row)
  row_moved moved less (instr.Jump goal) ends fits = record { rank = 0; fit = less goal }
  row_moved moved less (instr.Unless expr goal line) ends fits =
      record { rank = 0; fit = (fits.fit.0, less goal) }
  row_moved moved less (instr.Trap kind line) ends fits = record { rank = 0; fit = tt }
  row_moved moved less instr.End ends fits = record { rank = 0; fit = tt }
  row_moved moved less _ ends fits = absurd (true≢false (sym ends))

module _ (tables : Tables) (fits : Fits tables) where
  abbrev places : ℕ → ℕ
  places =
      by_number (rows_stayed tables) (filter (stays tables)) with_moved_goal (by_steps tables)
      (one_for_one tables) same_moved_goal tables.code

  abbrev new : List Instr
  new = (checked tables).code

  abbrev all_become : List Instr → List Instr
  all_become =
      rows_become (rows_stayed tables) (filter (stays tables)) with_moved_goal (by_steps tables)
      (one_for_one tables) same_moved_goal tables.code places

  abbrev row_becomes : Bool → Instr → List Instr
  row_becomes b row =
      becomes (rows_stayed tables) (filter (stays tables)) with_moved_goal (by_steps tables)
      (one_for_one tables) same_moved_goal tables.code places b row

  places_less : (g : ℕ) → places g ≤ length new
  places_less g =
      omega (
        arith,
        new_length (rows_stayed tables) (filter (stays tables)) with_moved_goal (by_steps tables)
            (one_for_one tables) same_moved_goal tables.code,
        number_less (λ row. length (rows_stayed tables row)) tables.code 0
            (counted (λ row. length (rows_stayed tables row)) tables.code) g (omega arith),
      )

  kept : (b : Bool) (row : Instr) → FitsInstr (anew tables new) row
      → AllByRecursion (FitsInstr (anew tables new)) (if b then row ∷ [] else [])
  kept true row fit = (fit, tt)
  kept false row fit = tt

  one_fits : (b : Bool) (row : Instr) → ends_stretch row ≡ b → FitsInstr tables row
      → AllByRecursion (FitsInstr (anew tables new)) (row_becomes b row)
  one_fits true row ends fit = (row_moved tables new places places_less row ends fit, tt)
  one_fits false row ends fit = kept (stays tables row) row (row_same tables new row ends fit)

  all_fit : (rows : List Instr) → AllByRecursion (FitsInstr tables) rows
      → AllByRecursion (FitsInstr (anew tables new)) (all_become rows)
  all_fit [] fit = tt
  all_fit (row ∷ rows) fit =
      every_append (FitsInstr (anew tables new)) (row_becomes (ends_stretch row) row)
      (all_become rows) (one_fits (ends_stretch row) row refl fit.0) (all_fit rows fit.1)

  pub checked_fits : Fits (checked tables)
  checked_fits =
      fits_anew tables tables.groups new fits fits.groups
      (All-from_recursion (FitsInstr (anew tables new)) new
      (subst (AllByRecursion (FitsInstr (anew tables new)))
      (sym (passed_by_rows (rows_stayed tables) (filter (stays tables)) with_moved_goal
      (by_steps tables) (one_for_one tables) same_moved_goal tables.code))
      (all_fit tables.code (recursion_from_All (FitsInstr tables) tables.code fits.code))))
