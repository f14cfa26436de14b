use Rattle.std.proofs.Common.{◌≡◌, to_z, of_z, w64, pos, neg_ℤ, ◌-ℤ◌, arith}
use Rattle.std.proofs.lemmas.Int.{ints}
use Rattle.zpl_arrays.specs.of_zpl_nums.declared.ends.Border.TheVariants.{Wrap}
use Rattle.zpl_arrays.specs.Border.{dim_border_source}
use Rattle.move_plan.proofs.CodeLemmas.{pair_same}
use Rattle.move_plan.proofs.borders.target_bounds.Goals as goal

pub returns-in-Wrap : goal.returns-in-Wrap
returns-in-Wrap c =
    let d : to_z w64 (of_z w64 (pos 0 -ℤ to_z w64 (of_z w64 c.args.d))) ≡ neg_ℤ c.args.d = omega (arith, ints) in
    let f : to_z w64 (of_z w64 c.args.first) ≡ c.args.first = omega (arith, ints) in
    let l : to_z w64 (of_z w64 c.args.last) ≡ c.args.last = omega (arith, ints) in
    let a = rw (c.in-Wrap.is, d, f) at c.border_coordinate.ensures in
    let b = rw (c.in-Wrap.is, d, l) at c.border_coordinate-in-Wrap.ensures in
    rw c.in-Wrap.is
    (pair_same _ _ (dim_border_source Wrap (neg_ℤ c.args.d) c.args.dim c.args.first) (dim_border_source Wrap (neg_ℤ c.args.d) c.args.dim c.args.last) (omega (arith, ints)) (omega (arith, ints)))
