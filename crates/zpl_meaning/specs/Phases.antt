-- The phases of a statement, one after the other: the first that fails gives the trap.
use Rattle.std.specs.Prelude.{Bool, true, ◌&&◌, ℤ, pos, List, [], ◌∷◌}
use Rattle.zpl_binding.specs.of_zpl_nums.declared.ends.TrapKind.TheVariants.{OutsideStorage, RegionMismatch}
use Rattle.zpl_binding.specs.of_zpl_tree.Syntax.{Expr}
use Rattle.zpl_binding.specs.of_zpl_names.Sites.{Role}
use Rattle.zpl_meaning.specs.Computed.{Computed, Gives, computed_then, both_then, provided}
use Rattle.zpl_meaning.specs.Store.{Store}
use Rattle.zpl_meaning.specs.Context.{Place, rank_in}
use Rattle.zpl_meaning.specs.Settled.{Placed, settled_each}
use Rattle.zpl_meaning.specs.Checks.{conform, refer}
use Rattle.zpl_meaning.specs.Fields.{Field, fields_of}

-- The fields of a statement's expressions, whose own references, as that of the array that it
-- assigns, are within or not:
--   1. regions: a zero divisor, or the limit of regions;
--   2. conformity;
--   3. references;
--   4. values: reductions, scans, floods and remap reads. The rest, at each tuple that isn't masked
--      out, and the effect are the statement's own.
abbrev pub fields_in : Place → Store → Bool → List Placed → Computed (List Field)
fields_in place store own exprs =
    computed_then (settled_each place store exprs) (λ terms.
    provided (conform terms) RegionMismatch (λ _.
    provided (own && refer store terms) OutsideStorage (λ _.
    fields_of store terms)))

-- ---- statements that take scalars: their expressions have rank 0

abbrev pub placed_in : Place → Role → Expr → Placed
placed_in place role expr = record { rank = rank_in place role expr; expr = expr }

abbrev pub scalar_values : List Field → Computed (List ℤ)
scalar_values [] = Gives []
scalar_values (field ∷ fields) =
    both_then (field []) (scalar_values fields) (λ value values. Gives (value ∷ values))

abbrev pub scalars_in : Place → Store → List Placed → Computed (List ℤ)
scalars_in place store exprs = computed_then (fields_in place store true exprs) scalar_values

-- of one expression
abbrev pub first_value : List ℤ → ℤ
first_value [] = pos 0
first_value (value ∷ values) = value

abbrev pub scalar_in : Place → Store → Role → Expr → Computed ℤ
scalar_in place store role expr =
    computed_then (scalars_in place store (placed_in place role expr ∷ [])) (λ values.
    Gives (first_value values))

abbrev pub first_field : List Field → Field
first_field [] t = Gives (pos 0)
first_field (field ∷ fields) t = field t
