-- Rows that need scalars and slots alone go by what they name.
use Rattle.std.proofs.Common.{◌≡◌, refl, ◌∙◌, ap, subst, ℕ, zero, suc, ◌+◌, Bool, true, false}
use Rattle.std.proofs.Common.{List, [], ◌∷◌, length, take, Option, Some, None, ℤ, pos}
use Rattle.std.specs.Prelude.{slice_get, option_and_then}
use Rattle.code_parts.specs.of_zpl_nums.declared.ends.TrapKind.{TrapKind}
use Rattle.code_parts.specs.of_zpl_nums.Integer.{is_true}
use Rattle.code_parts.specs.of_zpl_region.declared.dims.Dim.TheVariants as dim
use Rattle.code_parts.specs.of_zpl_region.declared.regions.Region.{Region}
use Rattle.code_parts.specs.of_zpl_region.Tests.{is_within_limit}
use Rattle.code_parts.specs.of_zpl_arrays.Border.{border_conforms}
use Rattle.code_parts.specs.of_zpl_arrays.Reference.{is_reference}
use Rattle.grid_meaning.specs.of_node_form.declared.instructions.RegionForm.{RegionForm}
use Rattle.grid_meaning.specs.of_node_form.declared.instructions.SameKind.{SameKind}
use Rattle.grid_meaning.specs.of_node_form.declared.instructions.Instr.TheVariants as instr
use Rattle.grid_meaning.specs.of_node_form.declared.tables.Tables.{Tables}
use Rattle.grid_meaning.specs.of_node_form.declared.touches.Thing.{Thing}
use Rattle.grid_meaning.specs.of_node_form.declared.touches.Thing.TheVariants as thing
use Rattle.grid_meaning.specs.of_node_form.declared.words.ExprOp.{ExprOp}
use Rattle.grid_meaning.specs.of_node_form.declared.words.ExprOp.TheVariants as word
use Rattle.grid_meaning.specs.of_node_form.Control.{Control, branched, checked, conforms, formed_by}
use Rattle.grid_meaning.specs.of_node_form.Control.{limited, part_dim, part_dims, region_of, register_value}
use Rattle.grid_meaning.specs.of_node_form.Control.{with_computed, with_row, with_scalar}
use Rattle.grid_meaning.specs.of_node_form.Fits.{storage_of}
use Rattle.grid_meaning.specs.of_node_form.Value.{Computed, Gives, Divides, Lacks, and_then, mapped, read}
use Rattle.grid_meaning.specs.of_node_form.Value.{scalar_operands, value_of}
use Rattle.nest_meaning.specs.of_row_runs.Straight.{Every}
use Rattle.flat_form.specs.Act.{controlled, row_does, tested, without_rows}
use Rattle.flat_form.specs.Row as row
use Rattle.flat_form.specs.Row.{Words, Part, Span, Star, Copied, Row, Set, Dims, Unless, Plain}
use Rattle.flat_form.specs.Row.{all_coded, part_coded, part_words}
use Rattle.flat_form.specs.Touches.{DoSame, BothGo, BothStop, BothLeap, BothPass}
use Rattle.flat_form.specs.Whole.{Whole, registers_of}
use Rattle.flat_form.proofs.AgreeLemmas.{Agree, set_scalar, set_slot}
use Rattle.flat_form.proofs.NamedLemmas.{ExprNamed, PartNamed, WordNamed, parts_exprs}
use Rattle.flat_form.proofs.WordLemmas.{ReadsSame, every_at, every_more, value_same}

module _ (tables other : Tables) (Q : Thing → Type 0) (one two : Whole)
    (agree : Agree tables other Q one two) where
  abbrev Alike : Control → Control → Type 0
  Alike a b = DoSame (Agree tables other Q) (controlled one a) (controlled two b)

  abbrev Tested : Control → Control → Type 0
  Tested a b = DoSame (Agree tables other Q) (tested one a) (tested two b)

  -- ---- values
  reads_same : (w : ExprOp) → WordNamed Q w → ReadsSame (scalar_operands one.scalars)
      (scalar_operands two.scalars) w
  reads_same (word.Scalar scalar) is = (agree (thing.Scalar scalar) is).0
  reads_same (word.Here array) is = refl
  reads_same (word.Shifted array shift) is = refl
  reads_same (word.Const value) is = tt
  reads_same (word.Cell cell) is = refl
  reads_same (word.Coord dimension) is = refl
  reads_same (word.Pair op) is = tt
  reads_same word.Neg is = tt
  reads_same word.Not is = tt
  reads_same word.Abs is = tt

  pub scalar_same : (words : Words) → ExprNamed Q words
      → value_of (scalar_operands one.scalars) words ≡ value_of (scalar_operands two.scalars) words
  scalar_same words named = value_same (scalar_operands one.scalars)
      (scalar_operands two.scalars) words (every_more reads_same words named)

  -- ---- what is computed, and what is found
  computed_by : {X : Type 0} (x : Computed X) (line : ℕ) (f g : X → Control)
      → ((v : X) → Alike (f v) (g v)) → Alike (with_computed x line f) (with_computed x line g)
  computed_by (Gives v) line f g more = more v
  computed_by Divides line f g more = BothStop
  computed_by Lacks line f g more = BothStop

  computed_alike : {X : Type 0} (x y : Computed X) (line : ℕ) (f g : X → Control) → x ≡ y
      → ((v : X) → Alike (f v) (g v))
      → Alike (with_computed x line f) (with_computed y line g)
  computed_alike x y line f g same more = subst
      (λ z. Alike (with_computed x line f) (with_computed z line g)) same
      (computed_by x line f g more)

  row_by : {X : Type 0} (x : Option X) (f g : X → Control) → ((v : X) → Alike (f v) (g v))
      → Alike (with_row x f) (with_row x g)
  row_by (Some v) f g more = more v
  row_by None f g more = BothStop

  row_alike : {X : Type 0} (x y : Option X) (f g : X → Control) → x ≡ y
      → ((v : X) → Alike (f v) (g v)) → Alike (with_row x f) (with_row y g)
  row_alike x y f g same more =
      subst (λ z. Alike (with_row x f) (with_row z g)) same (row_by x f g more)

  checked_alike : (b : Bool) (kind : TrapKind) (line : ℕ)
      → Alike (checked (registers_of one) b kind line) (checked (registers_of two) b kind line)
  checked_alike true kind line = BothGo agree
  checked_alike false kind line = BothStop

  limited_alike : (slot line : ℕ) (region : Region) (b : Bool) → Q (thing.Slot slot)
      → Alike (limited (registers_of one) slot line region b)
      (limited (registers_of two) slot line region b)
  limited_alike slot line region true is =
      BothGo (set_slot tables other Q one two slot region is agree)
  limited_alike slot line region false is = BothStop

  -- ---- rows
  pub set_alike : (scalar : ℕ) (expr : Words) (line n : ℕ) → Q (thing.Scalar scalar)
      → ExprNamed Q expr
      → DoSame (Agree tables other Q) (row_does tables n (Set scalar expr line) one)
      (row_does other n (Set scalar expr line) two)
  set_alike scalar expr line n is named =
      computed_alike (value_of (scalar_operands one.scalars) expr)
      (value_of (scalar_operands two.scalars) expr) line
      (with_scalar (registers_of one) scalar) (with_scalar (registers_of two) scalar)
      (scalar_same expr named)
      (λ v. BothGo (set_scalar tables other Q one two scalar v is agree))

  branch_by : (goal : ℕ) (b : Bool) → Tested (branched (registers_of one) b goal)
      (branched (registers_of two) b goal)
  branch_by goal true = BothPass
  branch_by goal false = BothLeap

  test_by : (x : Computed ℤ) (line goal : ℕ)
      → Tested (with_computed x line (λ v. branched (registers_of one) (is_true v) goal))
      (with_computed x line (λ v. branched (registers_of two) (is_true v) goal))
  test_by (Gives v) line goal = branch_by goal (is_true v)
  test_by Divides line goal = BothStop
  test_by Lacks line goal = BothStop

  pub unless_alike : (expr : Words) (goal line n : ℕ) → ExprNamed Q expr
      → DoSame (Agree tables other Q) (row_does tables n (Unless expr goal line) one)
      (row_does other n (Unless expr goal line) two)
  unless_alike expr goal line n named =
      subst (λ x. Tested (with_computed (value_of (scalar_operands one.scalars) expr) line
      (λ v. branched (registers_of one) (is_true v) goal))
      (with_computed x line (λ v. branched (registers_of two) (is_true v) goal)))
      (scalar_same expr named) (test_by (value_of (scalar_operands one.scalars) expr) line goal)

  -- ---- dimensions
  values_by : (o : Option Words) → ((words : Words) → o ≡ Some words → ExprNamed Q words)
      → and_then (value_of (scalar_operands one.scalars)) (read o)
      ≡ and_then (value_of (scalar_operands two.scalars)) (read o)
  values_by None named = refl
  values_by (Some words) named = scalar_same words (named words refl)

  module _ (here there : Tables) (same_exprs : here.exprs ≡ there.exprs)
      (all : Every (ExprNamed Q) here.exprs) where
    values_same : (expr : ℕ) → register_value here (registers_of one) expr
        ≡ register_value there (registers_of two) expr
    values_same expr =
        values_by (slice_get here.exprs expr)
        (λ words e. every_at (ExprNamed Q) here.exprs expr words all e)
        ∙ ap (λ exprs. and_then (value_of (scalar_operands two.scalars))
        (read (slice_get exprs expr))) same_exprs

    part_same : (k n : ℕ) (part : Part) → PartNamed Q part
        → part_dim here (registers_of one) k (part_coded n part)
        ≡ part_dim there (registers_of two) k (part_coded n part)
    part_same k n (Span low high) named =
        ap (λ h. and_then (λ lo. mapped (λ hi. dim.Range lo hi (pos 1) lo) h)
        (register_value here (registers_of one) n)) (values_same (n + 1))
        ∙ ap (λ l. and_then (λ lo. mapped (λ hi. dim.Range lo hi (pos 1) lo)
        (register_value there (registers_of two) (n + 1))) l) (values_same n)
    part_same k n Star named = refl
    part_same k n (Copied slot) named =
        ap (λ s. read (option_and_then (λ region. slice_get region.dims k) s))
        (agree (thing.Slot slot) named).1

    parts_same : (rank k n : ℕ) (parts : List Part) → Every (PartNamed Q) parts
        → part_dims here (registers_of one) k (take rank (all_coded part_words part_coded n parts))
        ≡ part_dims there (registers_of two) k (take rank (all_coded part_words part_coded n parts))
    parts_same zero k n parts named = refl
    parts_same (suc rank) k n [] named = refl
    parts_same (suc rank) k n (part ∷ parts) named =
        ap (λ rest. and_then (λ first. mapped (λ rest. first ∷ rest) rest)
        (part_dim here (registers_of one) k (part_coded n part)))
        (parts_same rank (suc k) (n + length (part_words part)) parts named.1)
        ∙ ap (λ first. and_then (λ first. mapped (λ rest. first ∷ rest)
        (part_dims there (registers_of two) (suc k)
        (take rank (all_coded part_words part_coded (n + length (part_words part)) parts))))
        first)
        (part_same k n part named.0)

  pub dims_alike : (slot : ℕ) (parts : List Part) (line n : ℕ) → Q (thing.Slot slot)
      → Every (PartNamed Q) parts
      → DoSame (Agree tables other Q) (row_does tables n (Dims slot parts line) one)
      (row_does other n (Dims slot parts line) two)
  dims_alike slot parts line n is named =
      row_alike (slice_get tables.slots slot) (slice_get other.slots slot) _ _
      (agree (thing.Slot slot) is).0 (λ rank.
      computed_alike _ _ line _ _ (parts_same here there refl
      (parts_exprs Q parts named) rank 0 0 parts named) (λ dims.
      limited_alike slot line (region_of rank dims) (is_within_limit (region_of rank dims)) is))
    where
      here : Tables
      here = row.with_row (without_rows tables) (Dims slot parts line)

      there : Tables
      there = row.with_row (without_rows other) (Dims slot parts line)

  pub fix_alike : (slot : ℕ) (region : Region) (n : ℕ) → Q (thing.Slot slot)
      → DoSame (Agree tables other Q) (row_does tables n (Plain (instr.Fix slot region)) one)
      (row_does other n (Plain (instr.Fix slot region)) two)
  fix_alike slot region n is = BothGo (set_slot tables other Q one two slot region is agree)

  pub formed_alike : (form : RegionForm) (slot from : ℕ) (shift : List ℤ) (line n : ℕ)
      → Q (thing.Slot slot) → Q (thing.Slot from)
      → DoSame (Agree tables other Q) (row_does tables n
      (Plain (instr.Formed form slot from shift line)) one)
      (row_does other n (Plain (instr.Formed form slot from shift line)) two)
  formed_alike form slot from shift line n is source =
      row_alike (slice_get one.slots from) (slice_get two.slots from) _ _
      (agree (thing.Slot from) source).1 (λ region.
      limited_alike slot line (formed_by form shift region)
      (is_within_limit (formed_by form shift region)) is)

  pub need_alike : (slot array : ℕ) (shift : List ℤ) (line n : ℕ) → Q (thing.Slot slot)
      → Q (thing.Array array)
      → DoSame (Agree tables other Q) (row_does tables n
      (Plain (instr.Need slot array shift line)) one)
      (row_does other n (Plain (instr.Need slot array shift line)) two)
  need_alike slot array shift line n is read =
      row_alike (slice_get one.slots slot) (slice_get two.slots slot) _ _
      (agree (thing.Slot slot) is).1 (λ region.
      row_alike (slice_get tables.arrays array) (slice_get other.arrays array) _ _
      (agree (thing.Array array) read).0 (λ row.
      checked_alike (is_reference shift region (storage_of row)) _ line))

  pub same_alike : (target source : ℕ) (kind : SameKind) (line n : ℕ) → Q (thing.Slot target)
      → Q (thing.Slot source)
      → DoSame (Agree tables other Q) (row_does tables n
      (Plain (instr.Same target source kind line)) one)
      (row_does other n (Plain (instr.Same target source kind line)) two)
  same_alike target source kind line n is read =
      row_alike (slice_get one.slots target) (slice_get two.slots target) _ _
      (agree (thing.Slot target) is).1 (λ region.
      row_alike (slice_get one.slots source) (slice_get two.slots source) _ _
      (agree (thing.Slot source) read).1 (λ from.
      checked_alike (conforms kind region from) _ line))

  pub fits_alike : (slot : ℕ) (shift : List ℤ) (line n : ℕ) → Q (thing.Slot slot)
      → DoSame (Agree tables other Q) (row_does tables n (Plain (instr.Fits slot shift line)) one)
      (row_does other n (Plain (instr.Fits slot shift line)) two)
  fits_alike slot shift line n is =
      row_alike (slice_get one.slots slot) (slice_get two.slots slot) _ _
      (agree (thing.Slot slot) is).1 (λ region.
      checked_alike (border_conforms shift region) _ line)
