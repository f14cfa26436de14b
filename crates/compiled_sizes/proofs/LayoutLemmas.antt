-- The arrays of compiled code.
use Rattle.std.proofs.Common.{◌≡◌, refl, sym, ap, ◌∙◌, subst, Bool, true, false}
use Rattle.std.proofs.Common.{List, [], ◌∷◌, ◌++◌, map, append-nil}
use Rattle.std.specs.Prelude.{cond, flat_map, fold}
use Rattle.std.specs.List.{list_any}
use Rattle.node_form.specs.declared.arrays.ArrayRow.{ArrayRow}
use Rattle.node_form.specs.declared.tables.Tables.{Tables}
use Rattle.grid_meaning.specs.Stored.{arrangement_of, box_of, stored}
use Rattle.code_parts.specs.Counts.{GoesByTrees}
use Rattle.temp_norm.specs.Normalised.{is_like, normalised, rows_through, temporaries}
use Rattle.temp_norm.specs.Normalised.{temporary_like, with_one_like}
use Rattle.bound_check.specs.Checked.{checked}
use Rattle.zpl_compile.specs.of_fuse_contract.Contracting.{contracted}
use Rattle.zpl_compile.specs.of_fuse_contract.Fusing.{fused}
use Rattle.comm_needs.specs.Needs.{planned}
use Rattle.comm_combine.specs.Merge.{neighbours_merged}
use Rattle.comm_combine.specs.Repeats.{repeats_dropped}
use Rattle.comm_early.specs.Send.{sent_early}
use Rattle.node_emit.specs.Emit.{emitted}
use Rattle.node_emit.proofs.TreeLemmas.{by_trees}
use Rattle.zpl_tree.specs.Syntax.{Program}
use Rattle.zpl_lowering.specs.Tables.{flat_tables}
use Rattle.zpl_claims.specs.Build.{Build}
use Rattle.zpl_compile.specs.Compile.{compiled, if_asked, plan_of, settled}

-- ---- temporaries are no stored arrays
stored_both : (xs ys : List ArrayRow) → stored (xs ++ ys) ≡ stored xs ++ stored ys
stored_both [] ys = refl
stored_both (row ∷ xs) ys = by row.stored (stored_both xs ys)
  where
    by : (b : Bool) → stored (xs ++ ys) ≡ stored xs ++ stored ys →
        cond b (row ∷ stored (xs ++ ys)) (stored (xs ++ ys))
        ≡ cond b (row ∷ stored xs) (stored xs) ++ stored ys
    by true e = ap (λ l. row ∷ l) e
    by false e = e

one_more : (rows : List ArrayRow) (row : ArrayRow) → stored rows ≡ [] →
    stored (with_one_like rows row) ≡ []
one_more rows row none = by (list_any (is_like row) rows)
  where
    by : (b : Bool) → stored (cond b rows (rows ++ temporary_like row ∷ [])) ≡ []
    by true = none
    by false = stored_both rows (temporary_like row ∷ []) ∙ ap (λ l. l ++ []) none

none_stored : (rows more : List ArrayRow) → stored rows ≡ [] →
    stored (fold with_one_like rows more) ≡ []
none_stored rows [] none = none
none_stored rows (row ∷ more) none =
    none_stored (with_one_like rows row) more (one_more rows row none)

same_stored : (flat : Tables) → stored (normalised flat).arrays ≡ stored flat.arrays
same_stored flat =
    stored_both flat.arrays (temporaries flat)
    ∙ ap (λ l. stored flat.arrays ++ l)
    (none_stored [] (flat_map (rows_through flat) flat.code) refl)
    ∙ append-nil (stored flat.arrays)

-- ---- passes that leave all arrays
asked : (pass : Tables → Tables) → ((code : Tables) → (pass code).arrays ≡ code.arrays) → (b : Bool)
    (code : Tables) → (if_asked b pass code).arrays ≡ code.arrays
asked pass same true code = same code
asked pass same false code = refl

settled_arrays : (build : Build) (flat : Tables) →
    (settled build flat).arrays ≡ (normalised flat).arrays
settled_arrays build flat =
    asked contracted (λ code. refl) build.options.contract
    (if_asked build.options.fuse fused (checked (normalised flat)))
    ∙ asked fused (λ code. refl) build.options.fuse (checked (normalised flat))

plan_arrays : (build : Build) (code : Tables) → (plan_of build code).arrays ≡ code.arrays
plan_arrays build code =
    let first = planned build.grid code in
    let second = if_asked build.options.redundant repeats_dropped first in
    let third = if_asked build.options.merge neighbours_merged second in
    asked (sent_early build.links) (λ code. refl) build.options.early third
    ∙ (asked neighbours_merged (λ code. refl) build.options.merge second
    ∙ asked repeats_dropped (λ code. refl) build.options.redundant first)

pub laid_out : (build : Build) (program : Program) →
    arrangement_of (compiled build program) ≡ record {
      grid = build.grid;
      boxes = (arrangement_of (flat_tables program build.settings)).boxes;
    }
laid_out build program =
    let flat = flat_tables program build.settings in
    ap (λ rows. record { grid = build.grid; boxes = map box_of rows })
    (ap stored (plan_arrays build (settled build flat) ∙ settled_arrays build flat)
    ∙ same_stored flat)

pub trees : (build : Build) (program : Program) → build.options.tree ≡ true →
    GoesByTrees (compiled build program)
trees build program e =
    let plan = plan_of build (settled build (flat_tables program build.settings)) in
    subst (λ b. GoesByTrees (emitted b build.grid plan)) (sym e) (by_trees build.grid plan)
