use Rattle.std.proofs.Common.{◌≡◌, ◌<◌, ◌&&◌, true, false, w64, to_z, of_z, ◌-ℤ◌, ◌≤ℤ◌, sym, ◌∙◌, ap, arith}
use Rattle.std.specs.Int.RustNames.{int_le}
use Rattle.std.proofs.lemmas.Int.{ints}
use Rattle.zpl_region.specs.declared.dims.Dim.TheVariants.{Range}
use Rattle.zpl_region.specs.Dim.{IsDim, dim_moved}
use Rattle.zpl_region.specs.Ends.{coordinate_count, first_of, last_of}
use Rattle.zpl_region.proofs.HullLemmas.{ends_in_bounds}
use Rattle.zpl_arrays.specs.Reference.{dim_lies_in}
use Rattle.zpl_arrays.proofs.CheckLemmas.{range_lies}
use Rattle.zpl_arrays.proofs.SourceLemmas.{near_fits}
use Rattle.zpl_arrays.proofs.checks.dim_lies_in.Goals as goal
use Rattle.zpl_arrays.proofs.checks.dim_lies_in.Goals.{In-Range-dim}

asked : (c : In-Range-dim) → IsDim (Range c.in-Range.lo c.in-Range.hi c.in-Range.step c.in-Range.align)
asked c = rw c.in-Range.is at c.requires.storage

mine : (c : In-Range-dim) → IsDim (Range c.in-Range-dim.lo c.in-Range-dim.hi c.in-Range-dim.step c.in-Range-dim.align)
mine c = rw c.in-Range-dim.is at c.requires.dim

some : (c : In-Range-dim) → 0 < coordinate_count (Range c.in-Range-dim.lo c.in-Range-dim.hi c.in-Range-dim.step c.in-Range-dim.align)
some c = rw c.in-Range-dim.is at c.requires.some

first_is : (c : In-Range-dim) → c.args.first ≡ first_of (Range c.in-Range-dim.lo c.in-Range-dim.hi c.in-Range-dim.step c.in-Range-dim.align)
first_is c = rw c.in-Range-dim.is at c.requires.first

last_is : (c : In-Range-dim) → c.args.last ≡ last_of (Range c.in-Range-dim.lo c.in-Range-dim.hi c.in-Range-dim.step c.in-Range-dim.align)
last_is c = rw c.in-Range-dim.is at c.requires.last

-- the ends lie between the bounds
ends : (c : In-Range-dim) → (c.in-Range-dim.lo ≤ℤ c.args.first) × (c.args.first ≤ℤ c.args.last) × (c.args.last ≤ℤ c.in-Range-dim.hi)
ends c =
    let d = c.in-Range-dim in
    let e = ends_in_bounds d.lo d.hi d.step d.align (mine c).0 (some c) in
    (omega (arith, ints, e, first_is c), omega (arith, ints, e, first_is c, last_is c), omega (arith, ints, e, last_is c))

pub overflow_sub-lo : goal.overflow_sub-lo
overflow_sub-lo c = let w = (goal.at.overflow_sub-lo c).In-Range-dim in let a = asked w in let m = mine w in let e = ends w in near_fits _ (omega (arith, ints)) (omega (arith, ints))

pub overflow_sub-result : goal.overflow_sub-result
overflow_sub-result c = let w = (goal.at.overflow_sub-result c).In-Range-dim in let a = asked w in let m = mine w in let e = ends w in near_fits _ (omega (arith, ints)) (omega (arith, ints))

low_is : (c : In-Range-dim) → to_z w64 (of_z w64 (to_z w64 (of_z w64 c.in-Range.lo) -ℤ to_z w64 (of_z w64 c.args.first))) ≡ c.in-Range.lo -ℤ c.args.first
low_is c = let a = asked c in let m = mine c in let e = ends c in omega (arith, ints)

high_is : (c : In-Range-dim) → to_z w64 (of_z w64 (to_z w64 (of_z w64 c.in-Range.hi) -ℤ to_z w64 (of_z w64 c.args.last))) ≡ c.in-Range.hi -ℤ c.args.last
high_is c = let a = asked c in let m = mine c in let e = ends c in omega (arith, ints)

d_is : (c : In-Range-dim) → to_z w64 (of_z w64 c.args.d) ≡ c.args.d
d_is c = omega (arith, ints)

lies : (c : In-Range-dim) → dim_lies_in (dim_moved c.args.d c.args.dim) c.args.storage ≡ (int_le (c.in-Range.lo -ℤ c.args.first) c.args.d && int_le c.args.d (c.in-Range.hi -ℤ c.args.last))
lies c =
    let r = c.in-Range in
    let d = c.in-Range-dim in
    rw (c.in-Range.is, c.in-Range-dim.is) (range_lies d.lo d.hi d.step d.align r.lo r.hi r.step r.align c.args.d c.args.first c.args.last (some c) (first_is c) (last_is c))

low_test : (c : In-Range-dim) → int_le (to_z w64 (of_z w64 (to_z w64 (of_z w64 c.in-Range.lo) -ℤ to_z w64 (of_z w64 c.args.first)))) (to_z w64 (of_z w64 c.args.d)) ≡ int_le (c.in-Range.lo -ℤ c.args.first) c.args.d
low_test c = ap (λ z. int_le z (to_z w64 (of_z w64 c.args.d))) (low_is c) ∙ ap (int_le (c.in-Range.lo -ℤ c.args.first)) (d_is c)

high_test : (c : In-Range-dim) → int_le (to_z w64 (of_z w64 c.args.d)) (to_z w64 (of_z w64 (to_z w64 (of_z w64 c.in-Range.hi) -ℤ to_z w64 (of_z w64 c.args.last)))) ≡ int_le c.args.d (c.in-Range.hi -ℤ c.args.last)
high_test c = ap (int_le (to_z w64 (of_z w64 c.args.d))) (high_is c) ∙ ap (λ z. int_le z (c.in-Range.hi -ℤ c.args.last)) (d_is c)

pub returns-then-lo-first : goal.returns-then-lo-first
returns-then-lo-first c =
    let w = (goal.at.returns-then-lo-first c).In-Range-dim in
    let low : int_le (c.in-Range.lo -ℤ c.args.first) c.args.d ≡ true = sym (low_test w) ∙ c.if-lo-first.true in
    high_test w ∙ sym (lies w ∙ ap (λ b. b && int_le c.args.d (c.in-Range.hi -ℤ c.args.last)) low)

pub returns-else-lo-first : goal.returns-else-lo-first
returns-else-lo-first c =
    let w = (goal.at.returns-else-lo-first c).In-Range-dim in
    let low : int_le (c.in-Range.lo -ℤ c.args.first) c.args.d ≡ false = sym (low_test w) ∙ c.if-lo-first.false in
    c.if-lo-first.false ∙ sym (lies w ∙ ap (λ b. b && int_le c.args.d (c.in-Range.hi -ℤ c.args.last)) low)
