-- Facts that are the same.
use Rattle.std.specs.Prelude.{◌==◌, Bool, true, false, ◌&&◌}
use Rattle.std.specs.Cmp.Lexicographic.{pointwise}
use Rattle.std.specs.Ordering.{int_eq}
use Rattle.zpl_region.specs.declared.dims.Dim.{Dim}
use Rattle.zpl_region.specs.declared.dims.Dim.TheVariants as dim
use Rattle.zpl_region.specs.declared.regions.Region.{Region}
use Rattle.node_form.specs.declared.instructions.RegionForm.{RegionForm}
use Rattle.node_form.specs.declared.instructions.RegionForm.TheVariants.{At, By, Inside, Of}
use Rattle.node_check.specs.Fact.{Fact, Agree, Border, Held, Made, Stands, Uniform}
use Rattle.node_check.specs.Demand.{is_kind, is_vector}

abbrev pub is_dim : Dim → Dim → Bool
is_dim (dim.Range lo hi step align) (dim.Range low high by at) =
    int_eq lo low && (int_eq hi high && (int_eq step by && int_eq align at))
is_dim dim.Flood dim.Flood = true
is_dim one other = false

abbrev pub is_region : Region → Region → Bool
is_region one other = (one.rank == other.rank) && pointwise is_dim one.dims other.dims

abbrev pub is_form : RegionForm → RegionForm → Bool
is_form Of Of = true
is_form Inside Inside = true
is_form At At = true
is_form By By = true
is_form one other = false

abbrev pub is_fact : Fact → Fact → Bool
is_fact (Uniform scalar) (Uniform other) = scalar == other
is_fact (Stands slot region) (Stands other by) = (slot == other) && is_region region by
is_fact (Made form slot from shift) (Made by other source vector) =
    is_form form by && ((slot == other) && ((from == source) && is_vector shift vector))
is_fact (Held slot array shift) (Held other of vector) =
    (slot == other) && ((array == of) && is_vector shift vector)
is_fact (Agree target source kind) (Agree one other by) =
    (target == one) && ((source == other) && is_kind kind by)
is_fact (Border slot shift) (Border other vector) = (slot == other) && is_vector shift vector
is_fact one other = false
