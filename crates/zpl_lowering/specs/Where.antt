-- Where a statement is lowered: a place of the meaning that has slots in the place of regions, and
-- the numbers of the tables in the place of what the store has.
use Rattle.std.specs.Prelude.{ℕ, zero, suc, Bool, true, false, ℤ, List, [], ◌∷◌, map, take, length, Option, Some, None}
use Rattle.zpl_meaning.specs.of_zpl_region.declared.dims.Dim.{Dim}
use Rattle.zpl_meaning.specs.of_zpl_region.declared.dims.Dim.TheVariants as dim
use Rattle.zpl_meaning.specs.of_zpl_region.declared.regions.Region.{Region}
use Rattle.zpl_meaning.specs.of_zpl_names.Kinds.{Rank}
use Rattle.zpl_meaning.specs.of_zpl_names.Scope.{Scope}
use Rattle.zpl_meaning.specs.of_zpl_names.Shapes.{unknown_shapes}
use Rattle.zpl_meaning.specs.of_zpl_names.Sites.{Reach, in_body, Role, handed, whole_rank}
use Rattle.zpl_meaning.specs.of_zpl_tree.Syntax.{Expr}
use Rattle.zpl_meaning.specs.of_zpl_text.Lines.{line_at}
use Rattle.zpl_meaning.specs.Store.{Environment}
use Rattle.zpl_meaning.specs.Context.{Mask, Setup}

-- ---- numbers

-- an array of the tables, with its storage
pub record Stored : Type 0 where
  pub array : ℕ
  pub storage : Region

-- what the store's places are in the tables: the numbers of its scalars, and its arrays
pub record Numbers : Type 0 where
  pub scalars : List ℕ
  pub arrays : List Stored

-- ---- current regions

-- A slot that has a rank's current region, with its mask or without one. Which of the dimensions
-- are flood dimensions is known before the run.
pub record Slotted : Type 0 where
  pub slot : ℕ
  pub flood : List Bool
  pub mask : Option Mask

pub record SlotCurrents : Type 0 where
  pub one : Option Slotted
  pub two : Option Slotted
  pub three : Option Slotted

abbrev pub no_slots : SlotCurrents
no_slots = record { one = None; two = None; three = None }

-- no accepted program uses one that isn't there
abbrev pub slotted_or : Option Slotted → Slotted
slotted_or None = record { slot = 0; flood = []; mask = None }
slotted_or (Some slotted) = slotted

abbrev pub slotted_at : SlotCurrents → Rank → Slotted
slotted_at currents (Some (suc zero)) = slotted_or currents.one
slotted_at currents (Some (suc (suc zero))) = slotted_or currents.two
slotted_at currents (Some (suc (suc (suc zero)))) = slotted_or currents.three
slotted_at currents rank = slotted_or None

-- with another one of a rank
abbrev pub with_slotted : SlotCurrents → Rank → Slotted → SlotCurrents
with_slotted currents (Some (suc zero)) slotted = record currents { one = Some slotted }
with_slotted currents (Some (suc (suc zero))) slotted = record currents { two = Some slotted }
with_slotted currents (Some (suc (suc (suc zero)))) slotted =
    record currents { three = Some slotted }
with_slotted currents rank slotted = currents

-- whether each dimension of a region is a flood dimension
abbrev pub is_flood : Dim → Bool
is_flood dim.Flood = true
is_flood (dim.Range lo hi step align) = false

abbrev pub flood_of : Region → List Bool
flood_of region = map is_flood (take region.rank region.dims)

-- ---- places

-- the border that the nearest prefix is: the vector, and the slot of the region
pub record SlotEdge : Type 0 where
  pub shift : List ℤ
  pub slot : ℕ

pub record Where : Type 0 where
  pub setup : Setup
  pub scope : Scope
  pub environment : Environment
  -- the scalar that takes what the procedure answers
  pub result : ℕ
  -- the rank of the innermost prefix that encloses it in its procedure's text, or 0
  pub prefix : Rank
  pub currents : SlotCurrents
  pub edge : Option SlotEdge
  pub numbers : Numbers

-- the same, as the ranks of expressions see it
abbrev pub reach_of : Where → Reach
reach_of w = record (in_body w.scope unknown_shapes) { prefix = w.prefix }

abbrev pub rank_in : Where → Role → Expr → Rank
rank_in w role expr = whole_rank (reach_of w) role expr

abbrev pub rank_for : Where → Role → Rank
rank_for w role = handed (reach_of w) role

abbrev pub line_of : Where → ℕ → ℕ
line_of w at = line_at w.setup.program.source at

-- ---- what there is so far, and what code has of its own

-- The numbers that are free. Arrays of the expanded program come first, then the copies for reads
-- that wrap round, call by call as the calls are expanded, and then the temporaries. So there are
-- two numbers for copies: of the procedure that is lowered, and of those that it calls.
pub record Next : Type 0 where
  pub scalars : ℕ
  pub slots : ℕ
  pub arrays : ℕ
  pub copies : ℕ
  pub later : ℕ
  pub temps : ℕ
