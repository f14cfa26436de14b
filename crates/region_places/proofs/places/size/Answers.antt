use Rattle.std.proofs.Common.{◌≡◌, ◌+◌, arith}
use Rattle.std.proofs.lemmas.Int.{ints}
use Rattle.zpl_arrays.specs.of_zpl_region.Ends.{coordinate_count}
use Rattle.region_places.proofs.PlaceLemmas.{few_coordinates, no_ones, some_ones}
use Rattle.region_places.proofs.places.size.Goals as goal
use Rattle.region_places.proofs.places.size.Goals.{After-abs_diff}

pub returns-then-hi-lo-clause-size : goal.returns-then-hi-lo-clause-size
returns-then-hi-lo-clause-size c =
    let r = c.in-Range in
    no_ones c.args.dim r.lo r.hi r.step r.align r.is (omega (arith, ints)) (omega (arith, ints))

size_is : (c : After-abs_diff) → c.abs_diff.result + 1 ≡ coordinate_count c.args.dim
size_is c =
    let r = c.in-Range in
    some_ones c.abs_diff.result c.args.dim r.lo r.hi r.step r.align r.is (omega (arith, ints)) (omega (arith, ints)) (omega (arith, ints))

pub overflow_add-result : goal.overflow_add-result
overflow_add-result c =
    let size = size_is (goal.at.overflow_add-result c).After-abs_diff in
    let few = few_coordinates c.args.dim c.requires in
    omega (arith, size, few)

pub returns-clause-size : goal.returns-clause-size
returns-clause-size c = size_is (goal.at.returns-clause-size c).After-abs_diff

pub returns-clause-few : goal.returns-clause-few
returns-clause-few c =
    let size = size_is (goal.at.returns-clause-few c).After-abs_diff in
    let few = few_coordinates c.args.dim c.requires in
    omega (arith, size, few)
