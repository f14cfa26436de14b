-- What is in reach of a statement: names, and the current region of each rank.
use Rattle.std.specs.Prelude.{ℕ, zero, suc, Bool, true, false, not, ℤ, List, Option, Some, None}
use Rattle.zpl_binding.specs.of_zpl_nums.Integer.{is_true}
use Rattle.zpl_binding.specs.of_zpl_region.declared.regions.Region.{Region}
use Rattle.zpl_binding.specs.of_zpl_arrays.Array.{element}
use Rattle.zpl_binding.specs.of_zpl_tree.Syntax.{Expr, Program}
use Rattle.zpl_binding.specs.of_zpl_names.Kinds.{Rank}
use Rattle.zpl_binding.specs.of_zpl_names.Scope.{Scope}
use Rattle.zpl_binding.specs.of_zpl_names.Shapes.{unknown_shapes}
use Rattle.zpl_binding.specs.of_zpl_names.Sites.{Reach, in_body, Role, whole_rank}
use Rattle.zpl_binding.specs.Regions.{Known, no_region}
use Rattle.zpl_binding.specs.Storages.{Border}
use Rattle.zpl_meaning.specs.Store.{Names, Environment, Store, array_at}

-- ---- masks

-- A mask by the place of its array: the values are read anew by each statement that uses it. With
-- `with` the tuples at which the array is false are masked out, with `without` the others.
pub record Mask : Type 0 where
  pub array : ℕ
  pub without : Bool

abbrev pub lets_in : Bool → Bool → Bool
lets_in true value = not value
lets_in false value = value

-- whether a tuple isn't masked out
abbrev pub is_kept : Store → Option Mask → List ℤ → Bool
is_kept store None t = true
is_kept store (Some mask) t =
    lets_in mask.without (is_true (element (array_at store mask.array) t))

-- ---- current regions

-- a region, with its mask or without one
pub record Over : Type 0 where
  pub region : Region
  pub mask : Option Mask

-- that of each rank, if there is one
pub record Currents : Type 0 where
  pub one : Option Over
  pub two : Option Over
  pub three : Option Over

abbrev pub no_currents : Currents
no_currents = record { one = None; two = None; three = None }

-- no accepted program uses one that isn't there; it counts as `1..0`
abbrev pub over_or : Option Over → Over
over_or None = record { region = no_region; mask = None }
over_or (Some over) = over

abbrev pub over_at : Currents → Rank → Over
over_at currents (Some (suc zero)) = over_or currents.one
over_at currents (Some (suc (suc zero))) = over_or currents.two
over_at currents (Some (suc (suc (suc zero)))) = over_or currents.three
over_at currents rank = over_or None

-- with another one of a rank
abbrev pub with_over : Currents → Rank → Over → Currents
with_over currents (Some (suc zero)) over = record currents { one = Some over }
with_over currents (Some (suc (suc zero))) over = record currents { two = Some over }
with_over currents (Some (suc (suc (suc zero)))) over = record currents { three = Some over }
with_over currents rank over = currents

-- ---- places

-- What a run knows of the whole program: its text, what was computed of its declarations, the
-- borders that stand in it, and its global variables.
pub record Setup : Type 0 where
  pub program : Program
  pub known : Known
  pub borders : List Border
  pub globals : Names

-- a border: `d of R`, by the vector and the region
pub record Edge : Type 0 where
  pub shift : List ℤ
  pub region : Region

-- Where a statement stands.
pub record Place : Type 0 where
  pub setup : Setup
  pub scope : Scope
  pub environment : Environment
  -- the place of the scalar that takes what the procedure answers
  pub result : ℕ
  -- the rank of the innermost prefix that encloses it in its procedure's text, or 0
  pub prefix : Rank
  pub currents : Currents
  -- the border that the nearest prefix is
  pub edge : Option Edge

-- the same, as the ranks of expressions see it
abbrev pub reach_of : Place → Reach
reach_of place = record (in_body place.scope unknown_shapes) { prefix = place.prefix }

-- the rank of an expression that stands by itself
abbrev pub rank_in : Place → Role → Expr → Rank
rank_in place role expr = whole_rank (reach_of place) role expr
