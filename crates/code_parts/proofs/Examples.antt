-- The definitions, computed on small listings.
use Rattle.std.proofs.Common.{◌≡◌, ◌≢◌, ◌⊎◌, inl, ℕ, zero, suc, ◌<◌, true, false, List, [], ◌∷◌}
use Rattle.std.proofs.Common.{ℤ, pos, refl, Some, None, Contains, get_or, arith}
use Rattle.node_form.specs.of_zpl_nums.declared.operators.Op.TheVariants as op
use Rattle.node_form.specs.of_zpl_region.declared.dims.Dim.TheVariants as dim
use Rattle.node_form.specs.of_zpl_region.Region.{padding}
use Rattle.node_form.specs.declared.arrays.ArrayDim.{ArrayDim}
use Rattle.node_form.specs.declared.arrays.ArrayDim.TheVariants as axis
use Rattle.node_form.specs.declared.arrays.ArrayRow.{ArrayRow}
use Rattle.node_form.specs.declared.arrays.Item.{Item}
use Rattle.node_form.specs.declared.instructions.Instr.{Instr}
use Rattle.node_form.specs.declared.instructions.Instr.TheVariants as instr
use Rattle.node_form.specs.declared.members.Member.TheVariants as member
use Rattle.node_form.specs.declared.tables.Tables.{Tables}
use Rattle.node_form.specs.declared.words.ExprOp.TheVariants as word
use Rattle.node_form.specs.declared.touches.Thing.TheVariants.{Array}
use Rattle.node_form.specs.Touch.{IsNamed}
use Rattle.code_parts.specs.Contracted.{CanBeCell, is_aside}
use Rattle.code_parts.specs.Counts.{code_size, count_of, is_counted, is_loop, is_vote}
use Rattle.code_parts.specs.Early.{is_early}
use Rattle.code_parts.specs.Exchanged.{has_no_repeats, is_merged}
use Rattle.code_parts.specs.Fused.{are_joinable, is_fused}
use Rattle.code_parts.specs.Needs.{is_decided}
use Rattle.code_parts.specs.Uses.{named_arrays}

-- ---- tables: arrays over 1..4 that are read one place to the east, groups that put them, and
-- exchanges of them
abbrev unused : ArrayDim
unused = axis.Range (pos 0) (pos 0) (pos 0) (pos 0)

abbrev line : ArrayRow
line = record {
  rank = 1;
  stored = true;
  dims = axis.Range (pos 1) (pos 4) (pos 0) (pos 1) ∷ unused ∷ unused ∷ [];
}

abbrev east : List ℤ
east = pos 1 ∷ pos 0 ∷ pos 0 ∷ []

abbrev east_of : ℕ → Item
east_of array = record { array = array; slot = 0; shift = east }

-- 0 puts array 0 with a constant, 1 puts array 1 from array 0 at its place, 2 from array 0 to the
-- east, and 3 has a quotient
abbrev with_code : List Instr → Tables
with_code code = record {
  grid = 2 ∷ 0 ∷ 0 ∷ [];
  scalars = 1;
  cells = 0;
  slots = 1 ∷ 1 ∷ [];
  arrays = line ∷ line ∷ [];
  texts = [];
  exprs =
      (word.Const (pos 3) ∷ [])
      ∷ (word.Here 0 ∷ [])
      ∷ (word.Shifted 0 east ∷ [])
      ∷ (word.Here 0 ∷ word.Scalar 0 ∷ word.Pair op.Div ∷ [])
      ∷ [];
  groups =
      (member.Put 0 0 None 1 ∷ [])
      ∷ (member.Put 1 1 None 2 ∷ [])
      ∷ (member.Put 1 2 None 3 ∷ [])
      ∷ (member.Put 1 3 None 4 ∷ [])
      ∷ [];
  exchanges = (east_of 0 ∷ []) ∷ (east_of 1 ∷ []) ∷ (east_of 0 ∷ []) ∷ [];
  code = code;
}

abbrev fixed : ℤ → ℤ → Instr
fixed lo hi = instr.Fix 0 (record {
  rank = 1;
  dims = dim.Range lo hi (pos 1) lo ∷ padding ∷ padding ∷ [];
})

-- ---- neighbouring loops
-- an array that one puts and the other reads with a shift keeps them apart
joinable : are_joinable (with_code []) 0 1 ≡ true
joinable = refl

not_joinable : are_joinable (with_code []) 0 2 ≡ false
not_joinable = refl

fused : is_fused (with_code (instr.Loop 0 0 ∷ instr.Loop 0 2 ∷ instr.Loop 1 1 ∷ [])) ≡ true
fused = refl

-- a vote and an exchange between them don't
unfused :
    is_fused (with_code
    (instr.Loop 0 0 ∷ instr.Vote 0 ∷ instr.Start 1 ∷ instr.Finish 1 ∷ instr.Loop 0 1 ∷ []))
    ≡ false
unfused = refl

-- a goal between them does, and so does any other row
apart_by_a_goal :
    is_fused (with_code (instr.Loop 0 0 ∷ instr.Loop 0 1 ∷ instr.Jump 1 ∷ [])) ≡ true
apart_by_a_goal = refl

apart_by_a_row :
    is_fused (with_code (instr.Loop 0 0 ∷ instr.Clear 0 ∷ instr.Loop 0 1 ∷ [])) ≡ true
apart_by_a_row = refl

-- ---- repeats
repeated :
    has_no_repeats (with_code
    (instr.Start 0 ∷ instr.Finish 0 ∷ instr.Start 2 ∷ instr.Finish 2 ∷ [])) ≡ false
repeated = refl

-- behind a loop that puts the array, and behind a row that writes the slot, it is no repeat
written_between :
    has_no_repeats (with_code
    (instr.Start 0 ∷ instr.Finish 0 ∷ instr.Loop 1 0 ∷ instr.Start 2 ∷ instr.Finish 2 ∷ []))
    ≡ true
written_between = refl

moved_between :
    has_no_repeats (with_code
    (instr.Start 0 ∷ instr.Finish 0 ∷ fixed (pos 2) (pos 3) ∷ instr.Start 2 ∷ instr.Finish 2
    ∷ [])) ≡ true
moved_between = refl

-- ---- neighbouring exchanges
unmerged :
    is_merged (with_code
    (instr.Start 0 ∷ instr.Finish 0 ∷ instr.Start 1 ∷ instr.Finish 1 ∷ [])) ≡ false
unmerged = refl

merged :
    is_merged (with_code
    (instr.Start 0 ∷ instr.Start 1 ∷ instr.Finish 0 ∷ instr.Loop 0 2 ∷ instr.Finish 1 ∷ []))
    ≡ true
merged = refl

-- ---- early starts
late : is_early None (with_code (instr.Print 0 ∷ instr.Start 0 ∷ instr.Finish 0 ∷ [])) ≡ false
late = refl

-- a loop that puts the array, a row that writes the slot and a quotient aren't crossed
behind_its_array :
    is_early None (with_code (instr.Loop 0 0 ∷ instr.Start 0 ∷ instr.Finish 0 ∷ [])) ≡ true
behind_its_array = refl

behind_its_slot :
    is_early None (with_code (fixed (pos 1) (pos 3) ∷ instr.Start 0 ∷ instr.Finish 0 ∷ []))
    ≡ true
behind_its_slot = refl

behind_a_quotient :
    is_early None (with_code (instr.Set 0 3 1 ∷ instr.Start 0 ∷ instr.Finish 0 ∷ [])) ≡ true
behind_a_quotient = refl

-- the finish of another exchange is crossed where links have room for one more
abbrev one_behind_the_other : List Instr
one_behind_the_other =
    instr.Start 0 ∷ instr.Finish 0 ∷ instr.Start 1 ∷ instr.Finish 1 ∷ []

unbounded : is_early None (with_code one_behind_the_other) ≡ false
unbounded = refl

full : is_early (Some 1) (with_code one_behind_the_other) ≡ true
full = refl

roomy : is_early (Some 2) (with_code one_behind_the_other) ≡ false
roomy = refl

-- ---- cells
-- group 0 puts array 0 and reads it in the next member
abbrev alone : Tables
alone = record (with_code (instr.Loop 0 0 ∷ [])) {
  groups = (member.Put 0 0 None 1 ∷ member.Put 1 1 None 2 ∷ []) ∷ [];
}

cell : CanBeCell alone 0 0
cell = record {
  no_row = λ k d inside. row k d inside;
  no_other = λ other apart named. absurd (outside other apart named);
  unshifted = λ read. absurd (omega (arith, read.1));
  before = [];
  expr = 0;
  line = 1;
  after = member.Put 1 1 None 2 ∷ [];
  place = refl;
  first = λ k d inside. absurd (omega (arith, inside));
  outermost = refl;
  unread = λ read. absurd (omega (arith, read.1));
}
  where
    row : (k : ℕ) (d : Instr) → k < 1
        → (is_aside (get_or (instr.Loop 0 0 ∷ []) k d) ≡ true)
        ⊎ (IsNamed alone (get_or (instr.Loop 0 0 ∷ []) k d) (Array 0) → ⊥)
    row zero d inside = inl refl
    row (suc k) d inside = absurd (omega (arith, inside))

    outside : (other : ℕ) → other ≢ 0 → ¬ Contains (named_arrays alone other) 0
    outside zero apart named = apart refl
    outside (suc other) apart named = absurd (omega (arith, named.1))

-- an array that is read with a shift stays one
shifted : ¬ CanBeCell (with_code (instr.Loop 0 2 ∷ [])) 0 2
shifted can = can.unshifted (0, omega arith, refl)

-- ---- checks of places
abbrev need : Instr
need = instr.Need 0 0 east 1

decided : is_decided (with_code (fixed (pos 1) (pos 3) ∷ need ∷ [])) need ≡ true
decided = refl

-- it may fail, or its slot is written by a computation
outside : is_decided (with_code (fixed (pos 1) (pos 3) ∷ fixed (pos 1) (pos 4) ∷ need ∷ [])) need
    ≡ false
outside = refl

computed : is_decided (with_code (instr.Dims 0 [] 1 ∷ need ∷ [])) need ≡ false
computed = refl

-- ---- counts
abbrev counted : Tables
counted = with_code
    (fixed (pos 1) (pos 3) ∷ need ∷ instr.Start 0 ∷ instr.Finish 0 ∷ instr.Loop 0 3
    ∷ instr.Vote 3 ∷ instr.End ∷ [])

rows : count_of is_counted counted ≡ 3
rows = refl

votes : count_of is_vote counted ≡ 1
votes = refl

loops : count_of is_loop counted ≡ 1
loops = refl

-- 1 scalar, 2 slots, 2 arrays, 3 exchanges, 7 rows, 4 members and 6 words
size : code_size counted ≡ 25
size = refl
