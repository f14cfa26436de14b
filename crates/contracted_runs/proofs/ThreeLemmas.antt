-- The passes give each array three dimensions, where each had three.
use Rattle.std.proofs.Common.{◌≡◌, refl, ◌∙◌, subst, ℕ, zero, suc, Bool, true, false, List, []}
use Rattle.std.proofs.Common.{◌∷◌, ◌++◌, Option, Some, None, length}
use Rattle.std.specs.Prelude.{◌||◌, if◌then◌else◌, slice_get}
use Rattle.std.specs.List.{AllByRecursion, list_any}
use Rattle.std.proofs.lemmas.List.{length-map}
use Rattle.std.proofs.lemmas.List.Elements.{All-from_recursion, recursion_from_All}
use Rattle.node_form.specs.declared.arrays.ArrayRow.{ArrayRow}
use Rattle.node_form.specs.declared.instructions.Instr.{Instr}
use Rattle.node_form.specs.declared.instructions.Instr.TheVariants as instr
use Rattle.node_form.specs.declared.members.Member.{Member}
use Rattle.node_form.specs.declared.members.Member.TheVariants as member
use Rattle.node_form.specs.declared.tables.Tables.{Tables}
use Rattle.code_parts.specs.Uses.{members_of}
use Rattle.fuse_contract.proofs.of_flat_passes.StretchLemmas.{every_append}
use Rattle.fuse_contract.specs.of_temp_norm.Normalised.{is_like, normalised, temporaries, temporary_like}
use Rattle.fuse_contract.specs.of_temp_norm.Normalised.{with_one_like, without_storage}
use Rattle.fuse_contract.specs.of_temp_norm.Pieces.{kind_put, kind_through, mask_reads, reads_shifted, self_put}
use Rattle.fuse_contract.specs.of_temp_norm.Pieces.{with_kind}
use Rattle.fuse_contract.proofs.of_temp_norm.PieceLemmas.{temporaries_are, with_all}
use Rattle.fuse_contract.specs.of_bound_check.Checked.{checked}
use Rattle.fuse_contract.specs.Contracting.{contracted}
use Rattle.fuse_contract.specs.Fusing.{fused}
use Rattle.contracted_runs.specs.Three.{HaveThreeDims}

abbrev IsThree : ArrayRow → Type 0
IsThree row = length row.dims ≡ 3

row_at : (rows : List ArrayRow) → AllByRecursion IsThree rows → (k : ℕ) (row : ArrayRow)
    → slice_get rows k ≡ Some row → IsThree row
row_at [] all k row e = cc
row_at (one ∷ rows) all zero row e = let is : one ≡ row = cc in subst IsThree is all.0
row_at (one ∷ rows) all (suc k) row e = row_at rows all.1 k row e

module _ (tables : Tables) (three : AllByRecursion IsThree tables.arrays) where
  by_members : (members : List Member) (row : ArrayRow)
      → kind_put tables (self_put tables members) ≡ Some row → IsThree row
  by_members [] row e = cc
  by_members (member.Put array expr mask line ∷ []) row e =
      by (reads_shifted tables array expr || mask_reads tables array mask) e
    where
      by : (b : Bool) → kind_put tables (if b then Some (record {
        array = array;
        expr = expr;
        mask = mask;
        line = line;
      }) else None) ≡ Some row → IsThree row
      by true e = row_at tables.arrays three array row e
      by false e = cc
  by_members (member.Put array expr mask line ∷ two ∷ members) row e = cc
  by_members (one ∷ members) row e = cc

  kind_three : (one : Instr) (row : ArrayRow) → kind_through tables one ≡ Some row → IsThree row
  kind_three (instr.Loop slot group) row e = by_members (members_of tables group) row e
  kind_three one row e = cc

  one_three : (rows : List ArrayRow) (row : ArrayRow) → AllByRecursion IsThree rows → IsThree row
      → AllByRecursion IsThree (with_one_like rows row)
  one_three rows row all is = by (list_any (is_like row) rows)
    where
      by : (b : Bool)
          → AllByRecursion IsThree (if b then rows else rows ++ temporary_like row ∷ [])
      by true = all
      by false =
          every_append IsThree rows (temporary_like row ∷ []) all
          (length-map row.dims without_storage ∙ is, tt)

  with_three : (rows : List ArrayRow) (kind : Option ArrayRow)
      → ((row : ArrayRow) → kind ≡ Some row → IsThree row) → AllByRecursion IsThree rows
      → AllByRecursion IsThree (with_kind rows kind)
  with_three rows None is all = all
  with_three rows (Some row) is all = one_three rows row all (is row refl)

  all_three : (rows : List ArrayRow) (code : List Instr) → AllByRecursion IsThree rows
      → AllByRecursion IsThree (with_all tables rows code)
  all_three rows [] all = all
  all_three rows (row ∷ code) all =
      all_three (with_kind rows (kind_through tables row)) code
      (with_three rows (kind_through tables row) (kind_three row) all)

pub normalised_three : (tables : Tables) → HaveThreeDims tables → HaveThreeDims (normalised tables)
normalised_three tables three =
    let all = recursion_from_All IsThree tables.arrays three in
    All-from_recursion IsThree (tables.arrays ++ temporaries tables)
    (every_append IsThree tables.arrays (temporaries tables) all
    (subst (AllByRecursion IsThree) (temporaries_are tables)
    (all_three tables all [] tables.code tt)))

pub checked_three : (tables : Tables) → HaveThreeDims tables → HaveThreeDims (checked tables)
checked_three tables three = three

pub fused_three : (tables : Tables) → HaveThreeDims tables → HaveThreeDims (fused tables)
fused_three tables three = three

pub contracted_three : (tables : Tables) → HaveThreeDims tables → HaveThreeDims (contracted tables)
contracted_three tables three = three
