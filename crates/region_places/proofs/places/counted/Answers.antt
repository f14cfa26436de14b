use Rattle.std.proofs.Common.{◌∙◌, arith}
use Rattle.region_places.proofs.PlaceLemmas.{few_coordinates, length-single}
use Rattle.region_places.proofs.places.counted.Goals as goal

pub count-requires-clause-fits : goal.count-requires-clause-fits
count-requires-clause-fits c = omega (arith, length-single c.args.dim c.requires, few_coordinates c.args.dim c.requires)

pub returns-clause-size : goal.returns-clause-size
returns-clause-size c = c.count.ensures ∙ length-single c.args.dim c.requires

pub returns-clause-few : goal.returns-clause-few
returns-clause-few c = omega (arith, c.count.ensures, length-single c.args.dim c.requires, few_coordinates c.args.dim c.requires)
