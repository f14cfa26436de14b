-- What passes over flat programs make of one is one.
use Rattle.std.proofs.Common.{◌≡◌, refl, arith, true, false, true≢false, List, [], ◌∷◌}
use Rattle.std.specs.Prelude.{All, count_by}
use Rattle.std.specs.List.{AllByRecursion}
use Rattle.std.proofs.lemmas.List.Elements.{All-from_recursion, recursion_from_All}
use Rattle.node_form.specs.declared.instructions.Instr.{Instr}
use Rattle.node_form.specs.declared.instructions.Instr.TheVariants as instr
use Rattle.node_form.specs.declared.tables.Tables.{Tables}
use Rattle.pass_parts.specs.of_flat_form.Flat.{IsFlat, IsFlatRow}
use Rattle.code_parts.specs.Counts.{count_of, is_vote}
use Rattle.pass_parts.specs.of_temp_norm.Normalised.{normalised}
use Rattle.pass_parts.proofs.of_temp_norm.FitLemmas.{normalised_fits}
use Rattle.pass_parts.specs.of_bound_check.Checked.{checked}
use Rattle.pass_parts.proofs.of_bound_check.FitLemmas.{checked_fits}
use Rattle.pass_parts.specs.of_fuse_contract.Contracting.{contracted}
use Rattle.pass_parts.specs.of_fuse_contract.Fusing.{fused}
use Rattle.pass_parts.proofs.of_fuse_contract.CellFitLemmas.{contracted_fits}
use Rattle.pass_parts.proofs.of_fuse_contract.FitLemmas.{fused_fits}
use Rattle.pass_parts.specs.of_pass_sizes.Sizes.{is_unflat}
use Rattle.pass_parts.proofs.of_pass_sizes.NormalLemmas.{normal_count}
use Rattle.pass_parts.proofs.of_pass_sizes.SettledLemmas.{checked_count, fused_count}
use Rattle.pass_parts.proofs.of_pass_sizes.TestLemmas.{unflat_blind}
use Rattle.pass_parts.proofs.NameLemmas.{none_counted, none_first}

-- ---- rows of flat programs are those that none of the others is
flat_none : (row : Instr) → IsFlatRow row → is_unflat row ≡ false
flat_none (instr.Start exchange) flat = absurd flat
flat_none (instr.Finish exchange) flat = absurd flat
flat_none (instr.Vote group) flat = absurd flat
flat_none (instr.TreeVote group) flat = absurd flat
flat_none (instr.TreeFold scalar fold) flat = absurd flat
flat_none row flat = refl

none_flat : (row : Instr) → is_unflat row ≡ false → IsFlatRow row
none_flat (instr.Start exchange) none = true≢false none
none_flat (instr.Finish exchange) none = true≢false none
none_flat (instr.Vote group) none = true≢false none
none_flat (instr.TreeVote group) none = true≢false none
none_flat (instr.TreeFold scalar fold) none = true≢false none
none_flat row none = tt

no_vote : (row : Instr) → IsFlatRow row → is_vote row ≡ false
no_vote (instr.Vote group) flat = absurd flat
no_vote (instr.TreeVote group) flat = absurd flat
no_vote row flat = refl

all_flat : (rows : List Instr) → count_by is_unflat rows ≡ 0 → AllByRecursion IsFlatRow rows
all_flat [] none = tt
all_flat (row ∷ rows) none =
    let first = none_first is_unflat row rows none in
    (none_flat row first.0, all_flat rows first.1)

flat_rows : (tables : Tables) → count_of is_unflat tables ≡ 0 → All IsFlatRow tables.code
flat_rows tables none = All-from_recursion IsFlatRow tables.code (all_flat tables.code none)

rows_none : (tables : Tables) → IsFlat tables → count_of is_unflat tables ≡ 0
rows_none tables is =
    none_counted is_unflat IsFlatRow flat_none tables.code
    (recursion_from_All IsFlatRow tables.code is.rows)

pub unvoted : (tables : Tables) → IsFlat tables → All (λ row. is_vote row ≡ false) tables.code
unvoted tables is k d inside = no_vote _ (is.rows k d inside)

-- ---- the passes
pub normalised_flat : (tables : Tables) → IsFlat tables → IsFlat (normalised tables)
normalised_flat tables is = record {
  fits = normalised_fits tables is.fits (unvoted tables is);
  rows =
      flat_rows (normalised tables)
      (omega (
        arith,
        normal_count tables is_unflat unflat_blind 0 0 (λ array slot. omega arith)
            (λ slot. omega arith),
        rows_none tables is,
      ));
}

pub checked_flat : (tables : Tables) → IsFlat tables → IsFlat (checked tables)
checked_flat tables is = record {
  fits = checked_fits tables is.fits;
  rows =
      flat_rows (checked tables)
      (omega (arith, checked_count tables is_unflat unflat_blind, rows_none tables is));
}

pub fused_flat : (tables : Tables) → IsFlat tables → IsFlat (fused tables)
fused_flat tables is = record {
  fits = fused_fits tables is.fits (unvoted tables is);
  rows =
      flat_rows (fused tables)
      (omega (
        arith,
        fused_count tables is_unflat unflat_blind (λ slot group. refl),
        rows_none tables is,
      ));
}

pub contracted_flat : (tables : Tables) → IsFlat tables → IsFlat (contracted tables)
contracted_flat tables is = record {
  fits = contracted_fits tables is.fits;
  rows = is.rows;
}
