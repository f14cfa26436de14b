-- The tables whose loops are joined: a flat program's, which fit.
use Rattle.std.proofs.Common.{◌≡◌, refl, arith, Bool, true, false, true≢false}
use Rattle.std.proofs.Common.{List, [], ◌∷◌}
use Rattle.std.specs.Prelude.{All, count_by}
use Rattle.std.specs.List.{AllByRecursion}
use Rattle.std.proofs.lemmas.List.Elements.{All-from_recursion, recursion_from_All}
use Rattle.node_form.specs.declared.instructions.Instr.{Instr}
use Rattle.node_form.specs.declared.instructions.Instr.TheVariants as instr
use Rattle.node_form.specs.declared.tables.Tables.{Tables}
use Rattle.node_form.specs.Fits.{Fits}
use Rattle.flat_form.specs.Flat.{IsFlat, IsFlatRow}
use Rattle.code_parts.specs.Counts.{count_of, is_vote}
use Rattle.code_parts.specs.Fused.{is_between_loops}
use Rattle.temp_norm.specs.Normalised.{normalised}
use Rattle.temp_norm.proofs.FitLemmas.{normalised_fits}
use Rattle.bound_check.specs.Checked.{checked}
use Rattle.bound_check.proofs.FitLemmas.{checked_fits}
use Rattle.compiled_sizes.specs.of_fuse_contract.Fusing.{fused}
use Rattle.compiled_sizes.proofs.of_fuse_contract.FitLemmas.{fused_fits}
use Rattle.compiled_sizes.specs.of_pass_sizes.Sizes.{is_unflat}
use Rattle.compiled_sizes.proofs.of_pass_sizes.NormalLemmas.{normal_count}
use Rattle.compiled_sizes.proofs.of_pass_sizes.SettledLemmas.{checked_count}
use Rattle.compiled_sizes.proofs.of_pass_sizes.TestLemmas.{unflat_blind}
use Rattle.compiled_sizes.specs.of_pass_parts.Checks.{ChecksWhatFollows, StandsWithWhatFollows}
use Rattle.compiled_sizes.specs.of_pass_parts.Parts.{CanBeFused}
use Rattle.compiled_sizes.proofs.of_pass_parts.CheckedLoops.{checked_knows, checked_stands}
use Rattle.compiled_sizes.proofs.of_pass_parts.NameLemmas.{none_counted, none_first}
use Rattle.compiled_sizes.proofs.of_pass_parts.NormalLoops.{normal_checks, normal_stands}
use Rattle.compiled_sizes.specs.of_zpl_compile.Compile.{if_asked}

-- ---- rows of flat programs
flat_row : (row : Instr) → IsFlatRow row → is_unflat row ≡ false
flat_row (instr.Start exchange) f = absurd f
flat_row (instr.Finish exchange) f = absurd f
flat_row (instr.Vote group) f = absurd f
flat_row (instr.TreeVote group) f = absurd f
flat_row (instr.TreeFold scalar fold) f = absurd f
flat_row row f = refl

between_row : (row : Instr) → is_unflat row ≡ false → is_between_loops row ≡ false
between_row (instr.Start exchange) flat = absurd (true≢false flat)
between_row (instr.Finish exchange) flat = absurd (true≢false flat)
between_row (instr.Vote group) flat = absurd (true≢false flat)
between_row (instr.TreeVote group) flat = absurd (true≢false flat)
between_row row flat = refl

vote_row : (row : Instr) → is_unflat row ≡ false → is_vote row ≡ false
vote_row (instr.Vote group) flat = absurd (true≢false flat)
vote_row (instr.TreeVote group) flat = absurd (true≢false flat)
vote_row row flat = refl

flat_rows : (rows : List Instr) → AllByRecursion IsFlatRow rows → count_by is_unflat rows ≡ 0
flat_rows rows all = none_counted is_unflat IsFlatRow flat_row rows all

all_between : (rows : List Instr) → count_by is_unflat rows ≡ 0
    → AllByRecursion (λ row. is_between_loops row ≡ false) rows
all_between [] none = tt
all_between (row ∷ rows) none =
    let first = none_first is_unflat row rows none in
    (between_row row first.0, all_between rows first.1)

all_unvoted : (rows : List Instr) → count_by is_unflat rows ≡ 0
    → AllByRecursion (λ row. is_vote row ≡ false) rows
all_unvoted [] none = tt
all_unvoted (row ∷ rows) none =
    let first = none_first is_unflat row rows none in
    (vote_row row first.0, all_unvoted rows first.1)

unvoted : (code : Tables) → count_of is_unflat code ≡ 0
    → All (λ row. is_vote row ≡ false) code.code
unvoted code none =
    All-from_recursion (λ row. is_vote row ≡ false) code.code (all_unvoted code.code none)

-- ---- the tables whose loops are joined
module _ (flat : Tables) (is : IsFlat flat) where
  flat_none : count_of is_unflat flat ≡ 0
  flat_none = flat_rows flat.code (recursion_from_All IsFlatRow flat.code is.rows)

  normal_none : count_of is_unflat (normalised flat) ≡ 0
  normal_none =
      omega (
        arith,
        normal_count flat is_unflat unflat_blind 0 0 (λ array slot. omega arith)
            (λ slot. omega arith),
        flat_none,
      )

  checked_none : count_of is_unflat (checked (normalised flat)) ≡ 0
  checked_none =
      omega (arith, checked_count (normalised flat) is_unflat unflat_blind, normal_none)

  normal_fits : Fits (normalised flat)
  normal_fits = normalised_fits flat is.fits (unvoted flat flat_none)

  joined_fits : Fits (checked (normalised flat))
  joined_fits =
      checked_fits (normalised flat) normal_fits

  pub can_be_fused : ChecksWhatFollows flat → StandsWithWhatFollows flat
      → CanBeFused (checked (normalised flat))
  can_be_fused checks stands = record {
    flat =
        All-from_recursion (λ row. is_between_loops row ≡ false) (checked (normalised flat)).code
        (all_between (checked (normalised flat)).code checked_none);
    known =
        checked_knows (normalised flat) normal_fits (normal_checks flat is.fits checks stands)
        (normal_stands flat is.fits checks stands);
    stands =
        checked_stands (normalised flat) normal_fits (normal_checks flat is.fits checks stands)
        (normal_stands flat is.fits checks stands);
  }

  -- with loops joined, or not
  pub first_fits : (b : Bool) → Fits (if_asked b fused (checked (normalised flat)))
  first_fits true =
      fused_fits (checked (normalised flat)) joined_fits
      (unvoted (checked (normalised flat)) checked_none)
  first_fits false = joined_fits
