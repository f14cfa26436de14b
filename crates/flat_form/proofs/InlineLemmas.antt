-- Rows that need scalars and slots alone do inline what they do in their tables.
use Rattle.std.proofs.Common.{◌≡◌, refl, sym, ◌∙◌, ap, ℕ, zero, suc, ◌+◌, List, [], ◌∷◌, ◌++◌, map}
use Rattle.std.proofs.Common.{take, drop, length, Option, Some, None, pos, append_assoc}
use Rattle.std.proofs.Common.{append-nil}
use Rattle.std.specs.Prelude.{flat_map, slice_get, slice_index_or}
use Rattle.code_parts.specs.of_zpl_nums.Integer.{is_true}
use Rattle.code_parts.specs.of_zpl_region.declared.dims.Dim.TheVariants as dim
use Rattle.grid_meaning.specs.of_node_form.declared.instructions.DimRow.{DimRow}
use Rattle.grid_meaning.specs.of_node_form.declared.instructions.DimRow.TheVariants as part
use Rattle.grid_meaning.specs.of_node_form.declared.instructions.Instr.TheVariants as instr
use Rattle.grid_meaning.specs.of_node_form.declared.tables.Tables.{Tables}
use Rattle.grid_meaning.specs.of_node_form.Control.{Registers, branched, part_dim, part_dims, region_of}
use Rattle.grid_meaning.specs.of_node_form.Control.{register_value, with_computed, with_row, with_scalar, with_slot}
use Rattle.grid_meaning.specs.of_node_form.Value.{and_then, mapped, read, scalar_operands}
use Rattle.grid_meaning.specs.of_node_form.Value.{value_of}
use Rattle.flat_form.specs.Act.{without_rows}
use Rattle.flat_form.specs.Laws.{ControlInline}
use Rattle.flat_form.specs.Row.{Words, Dims, all_coded, part_coded, part_inlined, part_words}
use Rattle.flat_form.specs.Row.{words_at, with_row as with_inlined}
use Rattle.flat_form.specs.Whole.{registers_of}
use Rattle.flat_form.proofs.ReadLemmas.{drop_part, drop_second}

get_drop : {X : Type 0} (xs : List X) (n : ℕ) (x : X) (rest : List X) → drop n xs ≡ x ∷ rest
    → slice_get xs n ≡ Some x
get_drop [] zero x rest e = cc
get_drop [] (suc n) x rest e = cc
get_drop (y ∷ xs) zero x rest e = let same : y ≡ x = cc in ap Some same
get_drop (y ∷ xs) (suc n) x rest e = get_drop xs n x rest e

module _ (tables : Tables) (registers : Registers) where
  -- an expression that isn't there has no value, and neither have no words
  words_value : (exprs : List Words) (expr : ℕ)
      → value_of (scalar_operands registers.scalars) (slice_index_or exprs expr [])
      ≡ and_then (value_of (scalar_operands registers.scalars)) (read (slice_get exprs expr))
  words_value [] expr = refl
  words_value (words ∷ exprs) zero = refl
  words_value (words ∷ exprs) (suc expr) = words_value exprs expr

  module _ (alone : Tables) where
    value_there : (n expr : ℕ) (rest : List Words) → drop n alone.exprs
        ≡ words_at tables expr ∷ rest
        → register_value alone registers n ≡ register_value tables registers expr
    value_there n expr rest e =
        ap (λ o. and_then (value_of (scalar_operands registers.scalars)) (read o))
        (get_drop alone.exprs n (words_at tables expr) rest e)
        ∙ words_value tables.exprs expr

    part_there : (k n : ℕ) (p : DimRow) (rest : List Words) → drop n alone.exprs
        ≡ part_words (part_inlined tables p) ++ rest
        → part_dim alone registers k (part_coded n (part_inlined tables p))
        ≡ part_dim tables registers k p
    part_there k n (part.Span low high) rest e =
        ap (λ h. and_then (λ lo. mapped (λ hi. dim.Range lo hi (pos 1) lo) h)
        (register_value alone registers n))
        (value_there (n + 1) high rest (drop_second alone.exprs n (words_at tables low)
        (words_at tables high ∷ rest) e))
        ∙ ap (λ l. and_then (λ lo. mapped (λ hi. dim.Range lo hi (pos 1) lo)
        (register_value tables registers high)) l)
        (value_there n low (words_at tables high ∷ rest) e)
    part_there k n part.Star rest e = refl
    part_there k n (part.Copied slot) rest e = refl

    parts_there : (rank k n : ℕ) (parts : List DimRow) (rest : List Words)
        → drop n alone.exprs ≡ flat_map part_words (map (part_inlined tables) parts) ++ rest
        → part_dims alone registers k (take rank
        (all_coded part_words part_coded n (map (part_inlined tables) parts)))
        ≡ part_dims tables registers k (take rank parts)
    parts_there zero k n parts rest e = refl
    parts_there (suc rank) k n [] rest e = refl
    parts_there (suc rank) k n (p ∷ parts) rest e =
        let here = e ∙ append_assoc (part_words (part_inlined tables p))
        (flat_map part_words (map (part_inlined tables) parts)) rest in
        let next = n + length (part_words (part_inlined tables p)) in
        ap (λ first. and_then (λ first. mapped (λ rest. first ∷ rest)
        (part_dims alone registers (suc k) (take rank
        (all_coded part_words part_coded next (map (part_inlined tables) parts))))) first)
        (part_there k n p (flat_map part_words (map (part_inlined tables) parts) ++ rest) here)
        ∙ ap (λ others. and_then (λ first. mapped (λ rest. first ∷ rest) others)
        (part_dim tables registers k p))
        (parts_there rank (suc k) next parts rest
        (drop_part alone.exprs n (part_words (part_inlined tables p))
        (flat_map part_words (map (part_inlined tables) parts) ++ rest) here))

pub control_inline : ControlInline
control_inline tables (instr.Set scalar expr line) whole =
    ap (λ v. with_computed v line (with_scalar (registers_of whole) scalar))
    (words_value tables (registers_of whole) tables.exprs expr)
control_inline tables (instr.Fix slot region) whole = refl
control_inline tables (instr.Dims slot parts line) whole = by (slice_get tables.slots slot)
  where
    alone : Tables
    alone = with_inlined (without_rows tables) (Dims slot (map (part_inlined tables) parts) line)

    by : (o : Option ℕ)
        → with_row o
        (λ rank. with_computed (part_dims alone (registers_of whole) 0
        (take rank (all_coded part_words part_coded 0 (map (part_inlined tables) parts)))) line
        (λ dims. with_slot (registers_of whole) slot line (region_of rank dims)))
        ≡ with_row o
        (λ rank. with_computed (part_dims tables (registers_of whole) 0 (take rank parts)) line
        (λ dims. with_slot (registers_of whole) slot line (region_of rank dims)))
    by None = refl
    by (Some rank) =
        ap (λ v. with_computed v line (λ dims. with_slot (registers_of whole) slot line
        (region_of rank dims)))
        (parts_there tables (registers_of whole) alone rank 0 0 parts []
        (sym (append-nil (flat_map part_words (map (part_inlined tables) parts)))))
control_inline tables (instr.Formed form slot from shift line) whole = refl
control_inline tables (instr.Need slot array shift line) whole = refl
control_inline tables (instr.Same target source kind line) whole = refl
control_inline tables (instr.Fits slot shift line) whole = refl
control_inline tables (instr.Room array slot) whole = refl
control_inline tables (instr.Clear array) whole = refl
control_inline tables (instr.Loop slot group) whole = refl
control_inline tables (instr.Start exchange) whole = refl
control_inline tables (instr.Finish exchange) whole = refl
control_inline tables (instr.Edge kind array slot shift) whole = refl
control_inline tables (instr.Flood array target from source) whole = refl
control_inline tables (instr.Part array target f from source) whole = refl
control_inline tables (instr.Scan array slot f along from mask) whole = refl
control_inline tables (instr.Vote group) whole = refl
control_inline tables (instr.Fold scalar f) whole = refl
control_inline tables (instr.TreeVote group) whole = refl
control_inline tables (instr.TreeFold scalar f) whole = refl
control_inline tables (instr.Print text) whole = refl
control_inline tables (instr.Number expr) whole = refl
control_inline tables (instr.Truth expr) whole = refl
control_inline tables (instr.Gather truth array slot) whole = refl
control_inline tables (instr.Jump goal) whole = refl
control_inline tables (instr.Unless expr goal line) whole =
    ap (λ v. with_computed v line (λ value. branched (registers_of whole) (is_true value) goal))
    (words_value tables (registers_of whole) tables.exprs expr)
control_inline tables (instr.Trap kind line) whole = refl
control_inline tables instr.End whole = refl
control_inline tables (instr.Remap array slot from parts) whole = refl
