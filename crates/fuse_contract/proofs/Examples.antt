-- Which loops are joined, and which arrays become cells, on small tables.
use Rattle.std.proofs.Common.{◌≡◌, refl, ℕ, ℤ, pos, true, false, List, [], ◌∷◌, ◌++◌, Some}
use Rattle.std.proofs.Common.{None}
use Rattle.zpl_nums.specs.declared.operators.Op.TheVariants as op
use Rattle.zpl_nums.specs.declared.folds.Fold.TheVariants as operator
use Rattle.zpl_region.specs.declared.dims.Dim.TheVariants as dim
use Rattle.zpl_region.specs.Region.{padding}
use Rattle.temp_norm.specs.of_node_form.declared.words.ExprOp.TheVariants as word
use Rattle.temp_norm.specs.of_node_form.declared.arrays.ArrayDim.{ArrayDim}
use Rattle.temp_norm.specs.of_node_form.declared.arrays.ArrayDim.TheVariants as axis
use Rattle.temp_norm.specs.of_node_form.declared.arrays.ArrayRow.{ArrayRow}
use Rattle.temp_norm.specs.of_node_form.declared.members.Member.{Member}
use Rattle.temp_norm.specs.of_node_form.declared.members.Member.TheVariants as member
use Rattle.temp_norm.specs.of_node_form.declared.instructions.DimRow.TheVariants as part
use Rattle.temp_norm.specs.of_node_form.declared.instructions.Instr.{Instr}
use Rattle.temp_norm.specs.of_node_form.declared.instructions.Instr.TheVariants as instr
use Rattle.temp_norm.specs.of_node_form.declared.tables.Tables.{Tables}
use Rattle.temp_norm.specs.of_node_form.Value.{unmoved}
use Rattle.fuse_contract.specs.Contracting.{contracted, contracted_arrays}
use Rattle.fuse_contract.specs.Fusing.{fused}

abbrev east : List ℤ
east = pos 1 ∷ pos 0 ∷ pos 0 ∷ []

abbrev unused : ArrayDim
unused = axis.Range (pos 0) (pos 0) (pos 0) (pos 0)

abbrev line : ArrayRow
line = record {
  rank = 1;
  stored = true;
  dims = axis.Range (pos 1) (pos 4) (pos 0) (pos 1) ∷ unused ∷ unused ∷ [];
}

-- ---- expressions: 0 is a constant, 1 and 2 read the arrays 0 and 1, 3 reads array 0 to the east,
-- 4 has a quotient of arrays 0 and 1, and 5 reads the scalar
abbrev with_groups : List (List Member) → List Instr → Tables
with_groups groups code = record {
  grid = 1 ∷ 0 ∷ 0 ∷ [];
  scalars = 1;
  cells = 2;
  slots = 1 ∷ 1 ∷ [];
  arrays = line ∷ line ∷ line ∷ [];
  texts = [];
  exprs =
      (word.Const (pos 3) ∷ [])
      ∷ (word.Here 0 ∷ [])
      ∷ (word.Here 1 ∷ [])
      ∷ (word.Shifted 0 east ∷ [])
      ∷ (word.Here 0 ∷ word.Here 1 ∷ word.Pair op.Div ∷ [])
      ∷ (word.Scalar 0 ∷ [])
      ∷ [];
  groups = groups;
  exchanges = [];
  code = code;
}

abbrev put : ℕ → ℕ → Member
put array expr = member.Put array expr None 1

abbrev rows_of : Tables → List Instr
rows_of tables = tables.code

abbrev groups_of : Tables → List (List Member)
groups_of tables = tables.groups

-- a slot whose region the code knows, and one whose region it computes
abbrev fixed : Instr
fixed = instr.Fix 0 (record {
  rank = 1;
  dims = dim.Range (pos 1) (pos 3) (pos 1) (pos 1) ∷ padding ∷ padding ∷ [];
})

abbrev computed : Instr
computed = instr.Dims 0 (part.Span 5 5 ∷ part.Star ∷ part.Star ∷ []) 1

abbrev need : ℕ → List ℤ → Instr
need array shift = instr.Need 0 array shift 1

-- ---- three loops, of which each may join the one before
abbrev three : List (List Member)
three = (put 0 0 ∷ []) ∷ (put 1 1 ∷ []) ∷ (put 2 4 ∷ []) ∷ []

abbrev loops : List Instr
loops = instr.Loop 0 0 ∷ instr.Loop 0 1 ∷ instr.Loop 0 2 ∷ []

abbrev join : List Instr → Tables
join before = fused (with_groups three (before ++ loops))

all_in_one : groups_of (join (fixed ∷ [])) ≡ (put 0 0 ∷ put 1 1 ∷ put 2 4 ∷ []) ∷ []
all_in_one = refl

one_loop : rows_of (join (fixed ∷ [])) ≡ fixed ∷ instr.Loop 0 0 ∷ []
one_loop = refl

-- Where the region is computed, all references need their rows before the first loop: here those of
-- array 2 are missing.
needed : groups_of (join (computed ∷ need 0 unmoved ∷ need 1 unmoved ∷ []))
    ≡ (put 0 0 ∷ put 1 1 ∷ []) ∷ (put 2 4 ∷ []) ∷ []
needed = refl

-- a `need` in front of the row that makes the region doesn't count
too_early : groups_of (join (need 1 unmoved ∷ need 2 unmoved ∷ computed ∷ [])) ≡ three
too_early = refl

-- ---- loops that stay apart: a goal, another slot, a read with a shift, an accumulated scalar
goal :
    rows_of (fused (with_groups three
    (fixed ∷ instr.Loop 0 0 ∷ instr.Loop 0 1 ∷ instr.Jump 2 ∷ [])))
    ≡ fixed ∷ instr.Loop 0 0 ∷ instr.Loop 0 1 ∷ instr.Jump 2 ∷ []
goal = refl

-- goals behind joined loops move
moved :
    rows_of (fused (with_groups three
    (fixed ∷ instr.Loop 0 0 ∷ instr.Loop 0 1 ∷ instr.Unless 5 4 1 ∷ instr.End ∷ [])))
    ≡ fixed ∷ instr.Loop 0 0 ∷ instr.Unless 5 3 1 ∷ instr.End ∷ []
moved = refl

other_slot :
    groups_of (fused (with_groups three (fixed ∷ instr.Loop 0 0 ∷ instr.Loop 1 1 ∷ [])))
    ≡ (put 0 0 ∷ []) ∷ (put 1 1 ∷ []) ∷ []
other_slot = refl

abbrev shifting : List (List Member)
shifting = (put 0 0 ∷ []) ∷ (put 1 3 ∷ []) ∷ []

shifted : groups_of (fused (with_groups shifting (fixed ∷ instr.Loop 0 0 ∷ instr.Loop 0 1 ∷ [])))
    ≡ shifting
shifted = refl

abbrev summing : List (List Member)
summing = (member.Acc 0 operator.Sum 1 None 1 ∷ []) ∷ (put 1 5 ∷ []) ∷ []

accumulated :
    groups_of (fused (with_groups summing (fixed ∷ instr.Loop 0 0 ∷ instr.Loop 0 1 ∷ [])))
    ≡ summing
accumulated = refl

-- a scalar that another group accumulates: its fold could be still to come
abbrev awaiting : List (List Member)
awaiting = (put 0 0 ∷ []) ∷ (put 1 5 ∷ []) ∷ (member.Acc 0 operator.Sum 1 None 1 ∷ []) ∷ []

awaited :
    groups_of (fused (with_groups awaiting (fixed ∷ instr.Loop 0 0 ∷ instr.Loop 0 1 ∷ [])))
    ≡ (put 0 0 ∷ []) ∷ (put 1 5 ∷ []) ∷ []
awaited = refl

-- ---- cells: arrays 0 and 1 of this group are named nowhere else, and 2 is gathered. They come
-- behind the two cells that there are.
abbrev three_in_one : List (List Member)
three_in_one = (put 0 0 ∷ put 1 1 ∷ put 2 4 ∷ []) ∷ []

abbrev gathered : List Instr
gathered = instr.Loop 0 0 ∷ instr.Gather false 2 0 ∷ []

cells : groups_of (contracted (with_groups three_in_one gathered))
    ≡ (member.Cell 2 0 None 1 ∷ member.Cell 3 1 None 1 ∷ put 2 4 ∷ []) ∷ []
cells = refl

cell_words :
    (contracted (with_groups three_in_one gathered)).exprs
    ≡ (word.Const (pos 3) ∷ [])
    ∷ (word.Cell 2 ∷ [])
    ∷ (word.Cell 3 ∷ [])
    ∷ (word.Shifted 0 east ∷ [])
    ∷ (word.Cell 2 ∷ word.Cell 3 ∷ word.Pair op.Div ∷ [])
    ∷ (word.Scalar 0 ∷ [])
    ∷ []
cell_words = refl

-- ---- arrays that stay: named by two groups; read before they are put; put under a mask first; put
-- within `if`; read with a shift
abbrev cellable : List (List Member) → List ℕ
cellable groups = contracted_arrays (with_groups groups (instr.Gather false 2 0 ∷ []))

by_two : cellable ((put 0 0 ∷ []) ∷ (put 2 1 ∷ []) ∷ []) ≡ []
by_two = refl

read_first : cellable ((put 2 1 ∷ put 0 0 ∷ []) ∷ []) ≡ []
read_first = refl

masked : cellable ((member.Put 0 0 (Some 5) 1 ∷ put 2 1 ∷ []) ∷ []) ≡ []
masked = refl

within : cellable ((member.OpenIf 5 None 1 ∷ put 0 0 ∷ member.CloseIf ∷ put 2 1 ∷ []) ∷ []) ≡ []
within = refl

read_shifted : cellable ((put 0 0 ∷ put 2 3 ∷ []) ∷ []) ≡ []
read_shifted = refl

put_first : cellable ((put 0 0 ∷ put 2 1 ∷ []) ∷ []) ≡ 0 ∷ []
put_first = refl
