-- Which rows need scalars and slots alone, row by row.
use Rattle.std.proofs.Common.{◌≡◌, ℕ, ◌≤◌, Bool, true, false, length, take, ap, slice_get, Option, Some, ℤ, sym}
use Rattle.zpl_nums.specs.Integer.{is_true}
use Rattle.zpl_nums.specs.declared.ends.TrapKind.TheVariants as kind
use Rattle.zpl_region.specs.Tests.{is_within_limit}
use Rattle.zpl_arrays.specs.Border.{border_conforms}
use Rattle.zpl_arrays.specs.Reference.{is_reference}
use Rattle.node_form.specs.Fits.{storage_of}
use Rattle.node_form.specs.Control as control
use Rattle.node_form.specs.Control.{Control, Registers, control as control_by, conforms, formed_by, part_dims, region_of, register_value, with_computed, with_row, with_scalar, with_slot, checked, branched}
use Rattle.node_form.specs.Value.{Computed, Gives, Divides, Lacks}
use Rattle.node_form.specs.declared.instructions.Instr.{Instr}
use Rattle.node_form.specs.declared.instructions.Instr.TheVariants as instr
use Rattle.node_form.specs.declared.tables.Tables.{Tables}
use Rattle.plan_meaning.specs.Abreast.{Share}
use Rattle.grid_meaning.specs.Turn.{act, act_at}
use Rattle.plan_orders.specs.Brings.{HasOrder, standing_at}
use Rattle.plan_orders.proofs.QuietLemmas.{branched_decided, done_decided, leap_decided, trap_decided, checked_decided, computed_decided, controlled_well, tested_well, goes_decided, limited_decided, row_decided}

module _ (code : Tables) (links : Option ℕ) (n at : ℕ) (next : Option Instr) where
  abbrev Here : Instr → Type 0
  Here row = slice_get code.code at ≡ Some row

  abbrev Ordered : Instr → Type 0
  Ordered row = HasOrder code links n at row next

  stands : {row : Instr} → Here row → (p : ℕ) (share : Share)
      → act code p (standing_at at share) ≡ act_at code p (standing_at at share) (Some row)
  stands here p share = ap (act_at code p (standing_at at share)) here

  pub set_ordered : (scalar expr line : ℕ) → Here (instr.Set scalar expr line)
      → Ordered (instr.Set scalar expr line)
  set_ordered scalar expr line here all open_now =
      controlled_well code links n at (instr.Set scalar expr line) (stands here)
      (λ registers. computed_decided code (register_value code registers expr) line
      (with_scalar registers scalar) (λ x. goes_decided code _)) all open_now

  pub fix_ordered : (slot : ℕ) (region : _) → Here (instr.Fix slot region)
      → Ordered (instr.Fix slot region)
  fix_ordered slot region here all open_now =
      controlled_well code links n at (instr.Fix slot region) (stands here)
      (λ registers. goes_decided code _) all open_now

  pub dims_ordered : (slot : ℕ) (parts : _) (line : ℕ) → Here (instr.Dims slot parts line)
      → Ordered (instr.Dims slot parts line)
  dims_ordered slot parts line here all open_now =
      controlled_well code links n at (instr.Dims slot parts line) (stands here)
      (λ registers.
      row_decided code (slice_get code.slots slot)
      (λ rank. with_computed (part_dims code registers 0 (take rank parts)) line
      (λ dims. with_slot registers slot line (region_of rank dims)))
      (λ rank. computed_decided code (part_dims code registers 0 (take rank parts)) line
      (λ dims. with_slot registers slot line (region_of rank dims))
      (λ dims. limited_decided code registers slot line (region_of rank dims)
      (is_within_limit (region_of rank dims))))) all open_now

  pub formed_ordered : (form : _) (slot from : ℕ) (shift : _) (line : ℕ)
      → Here (instr.Formed form slot from shift line)
      → Ordered (instr.Formed form slot from shift line)
  formed_ordered form slot from shift line here all open_now =
      controlled_well code links n at (instr.Formed form slot from shift line) (stands here)
      (λ registers.
      row_decided code (slice_get registers.slots from)
      (λ region. with_slot registers slot line (formed_by form shift region))
      (λ region. limited_decided code registers slot line (formed_by form shift region)
      (is_within_limit (formed_by form shift region)))) all open_now

  pub need_ordered : (slot array : ℕ) (shift : _) (line : ℕ)
      → Here (instr.Need slot array shift line) → Ordered (instr.Need slot array shift line)
  need_ordered slot array shift line here all open_now =
      controlled_well code links n at (instr.Need slot array shift line) (stands here)
      (λ registers.
      row_decided code (slice_get registers.slots slot)
      (λ region. with_row (slice_get code.arrays array) (λ row.
      checked registers (is_reference shift region (storage_of row)) kind.OutsideStorage line))
      (λ region. row_decided code (slice_get code.arrays array)
      (λ row. checked registers (is_reference shift region (storage_of row)) kind.OutsideStorage
      line)
      (λ row. checked_decided code registers (is_reference shift region (storage_of row))
      kind.OutsideStorage line))) all open_now

  pub same_ordered : (target source : ℕ) (same : _) (line : ℕ)
      → Here (instr.Same target source same line) → Ordered (instr.Same target source same line)
  same_ordered target source same line here all open_now =
      controlled_well code links n at (instr.Same target source same line) (stands here)
      (λ registers.
      row_decided code (slice_get registers.slots target)
      (λ region. with_row (slice_get registers.slots source) (λ other.
      checked registers (conforms same region other) kind.RegionMismatch line))
      (λ region. row_decided code (slice_get registers.slots source)
      (λ other. checked registers (conforms same region other) kind.RegionMismatch line)
      (λ other. checked_decided code registers (conforms same region other)
      kind.RegionMismatch line)))
      all open_now

  pub fits_ordered : (slot : ℕ) (shift : _) (line : ℕ) → Here (instr.Fits slot shift line)
      → Ordered (instr.Fits slot shift line)
  fits_ordered slot shift line here all open_now =
      controlled_well code links n at (instr.Fits slot shift line) (stands here)
      (λ registers.
      row_decided code (slice_get registers.slots slot)
      (λ region. checked registers (border_conforms shift region) kind.RegionMismatch line)
      (λ region. checked_decided code registers (border_conforms shift region) kind.RegionMismatch
      line)) all open_now

  pub jump_ordered : (goal : ℕ) → goal ≤ length code.code → Here (instr.Jump goal)
      → Ordered (instr.Jump goal)
  jump_ordered goal fits here all open_now =
      controlled_well code links n at (instr.Jump goal) (stands here)
      (λ registers. leap_decided code goal fits) all open_now

  pub trap_ordered : (kind : _) (line : ℕ) → Here (instr.Trap kind line)
      → Ordered (instr.Trap kind line)
  trap_ordered kind line here all open_now =
      controlled_well code links n at (instr.Trap kind line) (stands here)
      (λ registers. trap_decided code kind line) all open_now

  pub end_ordered : Here instr.End → Ordered instr.End
  end_ordered here all open_now =
      controlled_well code links n at instr.End (stands here)
      (λ registers. done_decided code) all open_now

  -- ---- a test that goes on changes nothing
  unchanged : (expr goal line : ℕ) (before behind : Registers)
      → control_by code before (instr.Unless expr goal line) ≡ control.Steps behind
      → behind ≡ before
  unchanged expr goal line before behind is = by (register_value code before expr) is
    where
      tests : (b : Bool) → branched before b goal ≡ control.Steps behind → behind ≡ before
      tests true e = let same : before ≡ behind = cc in sym same
      tests false e = cc

      by : (computed : Computed ℤ)
          → with_computed computed line (λ value. branched before (is_true value) goal)
          ≡ control.Steps behind → behind ≡ before
      by (Gives value) e = tests (is_true value) e
      by Divides e = cc
      by Lacks e = cc

  pub unless_ordered : (expr goal line : ℕ) → goal ≤ length code.code
      → Here (instr.Unless expr goal line)
      → Ordered (instr.Unless expr goal line)
  unless_ordered expr goal line fits here all open_now =
      tested_well code links n at (instr.Unless expr goal line) (stands here)
      (λ registers. computed_decided code (register_value code registers expr) line
      (λ value. branched registers (is_true value) goal)
      (λ value. branched_decided code registers (is_true value) goal fits)) all open_now
      (unchanged expr goal line)
