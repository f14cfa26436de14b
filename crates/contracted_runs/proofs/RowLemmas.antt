-- Rows that stay as they are where arrays become cells: what they name and write.
use Rattle.std.proofs.Common.{◌≡◌, refl, sym, ◌∙◌, ap, subst, arith, ℕ, zero, suc, List, [], ◌∷◌}
use Rattle.std.proofs.Common.{All, Any, Option, Some, None, inl, inr, map}
use Rattle.std.specs.Prelude.{slice_get, slice_index_or}
use Rattle.std.specs.Option.{IsSomeAnd}
use Rattle.std.specs.List.{filter_map}
use Rattle.std.proofs.lemmas.List.Elements.{All-head, All-tail}
use Rattle.zpl_region.proofs.ListLemmas.{Among}
use Rattle.node_form.specs.declared.instructions.DimRow.{DimRow}
use Rattle.node_form.specs.declared.instructions.DimRow.TheVariants as part
use Rattle.node_form.specs.declared.instructions.Instr.{Instr}
use Rattle.node_form.specs.declared.instructions.Instr.TheVariants as instr
use Rattle.node_form.specs.declared.tables.Tables.{Tables}
use Rattle.node_form.specs.declared.touches.Thing.TheVariants as thing
use Rattle.node_form.specs.declared.words.ExprOp.{ExprOp}
use Rattle.node_form.specs.declared.words.ExprOp.TheVariants as word
use Rattle.node_form.specs.Fits.{FitsAt, FitsPart, HasScalarExpr, IsScalarWord}
use Rattle.node_form.specs.Touch.{IsNamed, IsNamedByExpr, IsNamedByPart, IsNamedByWord, IsWritten}
use Rattle.code_parts.specs.Uses.{as_list}
use Rattle.normal_runs.specs.of_flat_form.Row.{Dims, Number, Set, Span, Truth, Unless, Words, inlined}
use Rattle.normal_runs.specs.of_flat_form.Row.{part_inlined}
use Rattle.normal_runs.specs.of_flat_form.Row.{words_at}
use Rattle.fuse_contract.specs.Contracting.{arrays_of_row, with_cells, word_contracted, cell_among}
use Rattle.normal_runs.proofs.NameLemmas.{any_all, some_all}

-- rows whose arrays are all named as ones that no cell stands for
abbrev pub IsOrdinary : Instr → Type 0
IsOrdinary (instr.Loop slot group) = ⊥
IsOrdinary (instr.Room array slot) = ⊥
IsOrdinary (instr.Clear array) = ⊥
IsOrdinary (instr.Need slot array shift line) = ⊥
IsOrdinary (instr.Start exchange) = ⊥
IsOrdinary (instr.Finish exchange) = ⊥
IsOrdinary (instr.Vote group) = ⊥
IsOrdinary (instr.TreeVote group) = ⊥
IsOrdinary (instr.TreeFold scalar operator) = ⊥
IsOrdinary row = Unit {0}

module _ (tables : Tables) (a : ℕ) where
  scalar_word : (w : ExprOp) → IsScalarWord w → IsNamedByWord (thing.Array a) w → ⊥
  scalar_word (word.Scalar scalar) fits is = cc
  scalar_word (word.Here array) fits is = fits
  scalar_word (word.Shifted array shift) fits is = fits
  scalar_word w fits is = is

  scalar_expr : (expr : ℕ) → HasScalarExpr tables expr → IsNamedByExpr tables (thing.Array a) expr
      → ⊥
  scalar_expr expr has is =
      some_all (All IsScalarWord) (Any (IsNamedByWord (thing.Array a))) ⊥
      (slice_get tables.exprs expr)
      (λ words. any_all IsScalarWord (IsNamedByWord (thing.Array a)) ⊥ words scalar_word) has is

  one_part : (rank : ℕ) (p : DimRow) → FitsPart tables rank p
      → IsNamedByPart tables (thing.Array a) p
      → ⊥
  one_part rank (part.Span low high) fits (inl is) = scalar_expr low fits.0 is
  one_part rank (part.Span low high) fits (inr is) = scalar_expr high fits.1 is
  one_part rank part.Star fits is = is
  one_part rank (part.Copied slot) fits is = cc

  same_array : (array : ℕ) → thing.Array a ≡ thing.Array array → array ≡ a
  same_array array is = cc

  mask_among : (mask : Option ℕ) → IsSomeAnd mask (λ read. thing.Array a ≡ thing.Array read)
      → Among (as_list mask) a
  mask_among (Some read) is = inl (same_array read is)
  mask_among None is = absurd is

  parts_among : (parts : List (Option ℕ))
      → Any (λ one. IsSomeAnd one (λ read. thing.Array a ≡ thing.Array read)) parts
      → Among (filter_map (λ one. one) parts) a
  parts_among [] (k, x, inside, is, holds) = absurd (omega (arith, inside))
  parts_among (Some read ∷ parts) (zero, x, inside, is, holds) =
      inl (same_array read
      (subst (λ o. IsSomeAnd o (λ read. thing.Array a ≡ thing.Array read)) (sym is) holds))
  parts_among (None ∷ parts) (zero, x, inside, is, holds) =
      absurd (subst (λ o. IsSomeAnd o (λ read. thing.Array a ≡ thing.Array read)) (sym is) holds)
  parts_among (Some read ∷ parts) (suc k, x, inside, is, holds) =
      inr (parts_among parts (k, x, omega (arith, inside), is, holds))
  parts_among (None ∷ parts) (suc k, x, inside, is, holds) =
      parts_among parts (k, x, omega (arith, inside), is, holds)

  pub named_among : (rank : ℕ) (row : Instr) → IsOrdinary row → FitsAt tables rank row
      → IsNamed tables row (thing.Array a) → Among (arrays_of_row row) a
  named_among rank (instr.Set scalar expr line) o fits (inl is) = cc
  named_among rank (instr.Set scalar expr line) o fits (inr is) = scalar_expr expr fits.1 is
  named_among rank (instr.Fix slot region) o fits is = cc
  named_among rank (instr.Dims slot parts line) o fits (inl is) = cc
  named_among rank (instr.Dims slot parts line) o fits (inr is) =
      any_all (FitsPart tables rank) (IsNamedByPart tables (thing.Array a)) ⊥ parts (one_part rank)
      fits.1.0 is
  named_among rank (instr.Formed form slot from shift line) o fits (inl is) = cc
  named_among rank (instr.Formed form slot from shift line) o fits (inr is) = cc
  named_among rank (instr.Need slot array shift line) o fits is = absurd o
  named_among rank (instr.Same target source kind line) o fits (inl is) = cc
  named_among rank (instr.Same target source kind line) o fits (inr is) = cc
  named_among rank (instr.Fits slot shift line) o fits is = cc
  named_among rank (instr.Room array slot) o fits is = absurd o
  named_among rank (instr.Clear array) o fits is = absurd o
  named_among rank (instr.Loop slot group) o fits is = absurd o
  named_among rank (instr.Start exchange) o fits is = absurd o
  named_among rank (instr.Finish exchange) o fits is = absurd o
  named_among rank (instr.Edge kind array slot shift) o fits (inl is) = inl (same_array array is)
  named_among rank (instr.Edge kind array slot shift) o fits (inr is) = cc
  named_among rank (instr.Flood array target from source) o fits (inl is) = inl
      (same_array array is)
  named_among rank (instr.Flood array target from source) o fits (inr (inl is)) = cc
  named_among rank (instr.Flood array target from source) o fits (inr (inr (inl is))) =
      inr (inl (same_array from is))
  named_among rank (instr.Flood array target from source) o fits (inr (inr (inr is))) = cc
  named_among rank (instr.Part array target operator from source) o fits (inl is) =
      inl (same_array array is)
  named_among rank (instr.Part array target operator from source) o fits (inr (inl is)) = cc
  named_among rank (instr.Part array target operator from source) o fits (inr (inr (inl is))) =
      inr (inl (same_array from is))
  named_among rank (instr.Part array target operator from source) o fits (inr (inr (inr is))) = cc
  named_among rank (instr.Scan array slot operator along from mask) o fits (inl is) =
      inl (same_array array is)
  named_among rank (instr.Scan array slot operator along from mask) o fits (inr (inl is)) = cc
  named_among rank (instr.Scan array slot operator along from mask) o fits (inr (inr (inl is))) =
      inr (inl (same_array from is))
  named_among rank (instr.Scan array slot operator along from mask) o fits (inr (inr (inr is))) =
      inr (inr (mask_among mask is))
  named_among rank (instr.Vote group) o fits is = absurd o
  named_among rank (instr.Fold scalar operator) o fits is = cc
  named_among rank (instr.TreeVote group) o fits is = absurd o
  named_among rank (instr.TreeFold scalar operator) o fits is = absurd o
  named_among rank (instr.Print text) o fits is = absurd is
  named_among rank (instr.Number expr) o fits is = absurd (scalar_expr expr fits is)
  named_among rank (instr.Truth expr) o fits is = absurd (scalar_expr expr fits is)
  named_among rank (instr.Gather truth array slot) o fits (inl is) = inl (same_array array is)
  named_among rank (instr.Gather truth array slot) o fits (inr is) = cc
  named_among rank (instr.Jump goal) o fits is = absurd is
  named_among rank (instr.Unless expr goal line) o fits is = absurd (scalar_expr expr fits.0 is)
  named_among rank (instr.Trap kind line) o fits is = absurd is
  named_among rank instr.End o fits is = absurd is
  named_among rank (instr.Remap array slot from parts) o fits (inl is) = inl (same_array array is)
  named_among rank (instr.Remap array slot from parts) o fits (inr (inl is)) = cc
  named_among rank (instr.Remap array slot from parts) o fits (inr (inr (inl is))) =
      inr (inl (same_array from is))
  named_among rank (instr.Remap array slot from parts) o fits (inr (inr (inr any))) =
      inr (inr (parts_among parts any))

  pub written_among : (row : Instr) → IsOrdinary row → IsWritten tables row (thing.Array a)
      → Among (arrays_of_row row) a
  written_among (instr.Set scalar expr line) o is = cc
  written_among (instr.Fix slot region) o is = cc
  written_among (instr.Dims slot parts line) o is = cc
  written_among (instr.Formed form slot from shift line) o is = cc
  written_among (instr.Room array slot) o is = absurd o
  written_among (instr.Clear array) o is = absurd o
  written_among (instr.Loop slot group) o is = absurd o
  written_among (instr.Finish exchange) o is = absurd o
  written_among (instr.Edge kind array slot shift) o is = inl (same_array array is)
  written_among (instr.Flood array target from source) o is = inl (same_array array is)
  written_among (instr.Part array target operator from source) o is = inl (same_array array is)
  written_among (instr.Scan array slot operator along from mask) o is = inl (same_array array is)
  written_among (instr.Fold scalar operator) o is = cc
  written_among (instr.TreeFold scalar operator) o is = absurd o
  written_among (instr.Remap array slot from parts) o is = inl (same_array array is)
  written_among row o is = absurd is

-- ---- inline such rows are the same
module _ (tables : Tables) (arrays : List ℕ) where
  abbrev new : Tables
  new = with_cells tables arrays

  abbrev change : ExprOp → ExprOp
  change = word_contracted (cell_among tables.cells arrays)

  one_same : (w : ExprOp) → IsScalarWord w → change w ≡ w
  one_same (word.Here array) fits = absurd fits
  one_same (word.Shifted array shift) fits = absurd fits
  one_same (word.Cell cell) fits = absurd fits
  one_same (word.Coord dimension) fits = absurd fits
  one_same (word.Const value) fits = refl
  one_same (word.Scalar scalar) fits = refl
  one_same (word.Pair op) fits = refl
  one_same word.Neg fits = refl
  one_same word.Not fits = refl
  one_same word.Abs fits = refl

  words_same : (words : Words) → All IsScalarWord words → map change words ≡ words
  words_same [] all = refl
  words_same (w ∷ words) all =
      ap (λ x. x ∷ map change words) (one_same w (All-head IsScalarWord w words all))
      ∙ ap (λ xs. w ∷ xs) (words_same words (All-tail IsScalarWord w words all))

  expr_in : (exprs : List Words) (k : ℕ) → IsSomeAnd (slice_get exprs k) (All IsScalarWord)
      → slice_index_or (map (map change) exprs) k [] ≡ slice_index_or exprs k []
  expr_in [] k has = absurd has
  expr_in (words ∷ exprs) zero has = words_same words has
  expr_in (words ∷ exprs) (suc k) has = expr_in exprs k has

  expr_same : (expr : ℕ) → HasScalarExpr tables expr → words_at new expr ≡ words_at tables expr
  expr_same expr has = expr_in tables.exprs expr has

  part_same : (rank : ℕ) (p : DimRow) → FitsPart tables rank p
      → part_inlined new p ≡ part_inlined tables p
  part_same rank (part.Span low high) fits =
      ap (λ l. Span l (words_at new high)) (expr_same low fits.0)
      ∙ ap (λ h. Span (words_at tables low) h) (expr_same high fits.1)
  part_same rank part.Star fits = refl
  part_same rank (part.Copied slot) fits = refl

  parts_same : (rank : ℕ) (parts : List DimRow) → All (FitsPart tables rank) parts
      → map (part_inlined new) parts ≡ map (part_inlined tables) parts
  parts_same rank [] all = refl
  parts_same rank (p ∷ parts) all =
      ap (λ x. x ∷ map (part_inlined new) parts)
      (part_same rank p (All-head (FitsPart tables rank) p parts all))
      ∙ ap (λ xs. part_inlined tables p ∷ xs)
      (parts_same rank parts (All-tail (FitsPart tables rank) p parts all))

  pub row_same : (rank : ℕ) (row : Instr) → IsOrdinary row → FitsAt tables rank row
      → inlined new row ≡ inlined tables row
  row_same rank (instr.Set scalar expr line) o fits =
      ap (λ w. Set scalar w line) (expr_same expr fits.1)
  row_same rank (instr.Dims slot parts line) o fits =
      ap (λ ps. Dims slot ps line) (parts_same rank parts fits.1.0)
  row_same rank (instr.Loop slot group) o fits = absurd o
  row_same rank (instr.Number expr) o fits = ap Number (expr_same expr fits)
  row_same rank (instr.Truth expr) o fits = ap Truth (expr_same expr fits)
  row_same rank (instr.Unless expr goal line) o fits =
      ap (λ w. Unless w goal line) (expr_same expr fits.0)
  row_same rank row o fits = refl
