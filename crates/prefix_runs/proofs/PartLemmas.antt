-- A row that makes a region of dimensions: each is computed by itself.
use Rattle.std.proofs.Common.{◌≡◌, refl, ◌∙◌, ap, ℕ, zero, suc, ◌+◌, true, ℤ, List, [], ◌∷◌}
use Rattle.std.proofs.Common.{◌++◌, take, drop, length, Some, pos, append_assoc}
use Rattle.std.proofs.Common.{sym, append-nil}
use Rattle.std.specs.Prelude.{flat_map, slice_get}
use Rattle.zpl_region.specs.declared.dims.Dim.{Dim}
use Rattle.zpl_region.specs.declared.dims.Dim.TheVariants as dim
use Rattle.node_form.specs.declared.tables.Tables.{Tables}
use Rattle.node_form.specs.Control.{Registers, part_dim, part_dims, region_of, register_value}
use Rattle.node_form.specs.Control.{slot_dim, with_computed, with_row, with_slot}
use Rattle.node_form.specs.Value.{Computed, Gives, and_then, mapped, read, scalar_operands, value_of}
use Rattle.row_runs.specs.Run.{Step}
use Rattle.array_runs.specs.of_flat_form.Act.{controlled, without_rows}
use Rattle.array_runs.specs.of_flat_form.Row as row
use Rattle.array_runs.specs.of_flat_form.Row.{Words, Part, all_coded, part_coded, part_words}
use Rattle.array_runs.specs.of_flat_form.Right.{is_settled}
use Rattle.array_runs.specs.of_flat_form.Whole.{Whole, registers_of}
use Rattle.array_runs.proofs.of_flat_form.ReadLemmas.{drop_part, drop_second}
use Rattle.array_runs.specs.of_lowering_runs.Run.{straight, step}
use Rattle.array_runs.proofs.of_lowering_runs.RowLemmas.{settled_act}

get_drop : {X : Type 0} (xs : List X) (n : ℕ) (x : X) (rest : List X) → drop n xs ≡ x ∷ rest
    → slice_get xs n ≡ Some x
get_drop [] zero x rest e = cc
get_drop [] (suc n) x rest e = cc
get_drop (y ∷ xs) zero x rest e = let same : y ≡ x = cc in ap Some same
get_drop (y ∷ xs) (suc n) x rest e = get_drop xs n x rest e

module _ (registers : Registers) where
  abbrev pub words_value : Words → Computed ℤ
  words_value words = value_of (scalar_operands registers.scalars) words

  abbrev pub part_value : ℕ → Part → Computed Dim
  part_value k (row.Span low high) =
      and_then (λ lo. mapped (λ hi. dim.Range lo hi (pos 1) lo) (words_value high))
      (words_value low)
  part_value k row.Star = Gives dim.Flood
  part_value k (row.Copied slot) = read (slot_dim registers k slot)

  abbrev pub parts_value : ℕ → List Part → Computed (List Dim)
  parts_value k [] = Gives []
  parts_value k (part ∷ parts) =
      and_then (λ first. mapped (λ rest. first ∷ rest) (parts_value (suc k) parts))
      (part_value k part)

  module _ (alone : Tables) where
    value_there : (n : ℕ) (words : Words) (rest : List Words) → drop n alone.exprs ≡ words ∷ rest
        → register_value alone registers n ≡ words_value words
    value_there n words rest e =
        ap (λ o. and_then (value_of (scalar_operands registers.scalars)) (read o))
        (get_drop alone.exprs n words rest e)

    part_there : (k n : ℕ) (part : Part) (rest : List Words)
        → drop n alone.exprs ≡ part_words part ++ rest
        → part_dim alone registers k (part_coded n part) ≡ part_value k part
    part_there k n (row.Span low high) rest e =
        ap (λ h. and_then (λ lo. mapped (λ hi. dim.Range lo hi (pos 1) lo) h)
        (register_value alone registers n))
        (value_there (n + 1) high rest (drop_second alone.exprs n low (high ∷ rest) e))
        ∙ ap (λ l. and_then (λ lo. mapped (λ hi. dim.Range lo hi (pos 1) lo) (words_value high)) l)
        (value_there n low (high ∷ rest) e)
    part_there k n row.Star rest e = refl
    part_there k n (row.Copied slot) rest e = refl

    parts_there : (rank k n : ℕ) (parts : List Part) (rest : List Words)
        → drop n alone.exprs ≡ flat_map part_words parts ++ rest
        → part_dims alone registers k (take rank (all_coded part_words part_coded n parts))
        ≡ parts_value k (take rank parts)
    parts_there zero k n parts rest e = refl
    parts_there (suc rank) k n [] rest e = refl
    parts_there (suc rank) k n (part ∷ parts) rest e =
        let here = e ∙ append_assoc (part_words part) (flat_map part_words parts) rest in
        let next = n + length (part_words part) in
        ap (λ first. and_then (λ first. mapped (λ rest. first ∷ rest)
        (part_dims alone registers (suc k) (take rank
        (all_coded part_words part_coded next parts)))) first)
        (part_there k n part (flat_map part_words parts ++ rest) here)
        ∙ ap (λ others. and_then (λ first. mapped (λ rest. first ∷ rest) others)
        (part_value k part))
        (parts_there rank (suc k) next parts rest
        (drop_part alone.exprs n (part_words part) (flat_map part_words parts ++ rest) here))

-- what the row does, where the slot has this rank
abbrev pub spans : Whole → ℕ → ℕ → ℕ → List Part → Step Whole
spans whole slot line rank parts =
    straight (controlled whole (with_computed
    (parts_value (registers_of whole) 0 (take rank parts)) line
    (λ dims. with_slot (registers_of whole) slot line (region_of rank dims))))

pub dims_step : (tables : Tables) (n : ℕ) (whole : Whole) → ((k : ℕ) → is_settled whole k ≡ true)
    → (slot line rank : ℕ) (parts : List Part) → slice_get tables.slots slot ≡ Some rank
    → step tables n (row.Dims slot parts line) whole ≡ spans whole slot line rank parts
dims_step tables n whole settled slot line rank parts has =
    ap straight (settled_act tables n whole settled (row.Dims slot parts line))
    ∙ ap (λ o. straight (controlled whole (with_row o (λ rank. with_computed
    (part_dims alone (registers_of whole) 0
    (take rank (all_coded part_words part_coded 0 parts))) line
    (λ dims. with_slot (registers_of whole) slot line (region_of rank dims)))))) has
    ∙ ap (λ v. straight (controlled whole (with_computed v line
    (λ dims. with_slot (registers_of whole) slot line (region_of rank dims)))))
    (parts_there (registers_of whole) alone rank 0 0 parts []
    (sym (append-nil (flat_map part_words parts))))
  where
    alone : Tables
    alone = row.with_row (without_rows tables) (row.Dims slot parts line)
