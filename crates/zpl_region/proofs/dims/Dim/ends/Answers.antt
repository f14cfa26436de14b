use Rattle.std.proofs.Common.{◌≡◌, w64, to_z, of_z, ◌∙◌, arith}
use Rattle.std.proofs.lemmas.Int.{ints}
use Rattle.zpl_region.proofs.EndLemmas.{ends_of_terms}
use Rattle.zpl_region.proofs.dims.Dim.ends.Goals as goal

pub overflow_sub-coordinates : goal.overflow_sub-coordinates
overflow_sub-coordinates c = (ends_of_terms c.progression-coordinates.result c.args.self c.requires.dim.0 c.progression-coordinates.ensures.terms c.requires.some).some

pub at-requires-clause-in_count : goal.at-requires-clause-in_count
at-requires-clause-in_count c =
    let some = (ends_of_terms c.progression-coordinates.result c.args.self c.requires.dim.0 c.progression-coordinates.ensures.terms c.requires.some).some in omega arith

pub returns-clause-first : goal.returns-clause-first
returns-clause-first c =
    let first_is : to_z w64 (of_z w64 c.progression-coordinates.result.first) ≡ c.progression-coordinates.result.first = omega (arith, ints) in
    first_is ∙ (ends_of_terms c.progression-coordinates.result c.args.self c.requires.dim.0 c.progression-coordinates.ensures.terms c.requires.some).first

pub returns-clause-last : goal.returns-clause-last
returns-clause-last c =
    let last_is : to_z w64 (of_z w64 c.at.result) ≡ c.at.result = omega (arith, ints) in
    last_is ∙ (c.at.ensures ∙ (ends_of_terms c.progression-coordinates.result c.args.self c.requires.dim.0 c.progression-coordinates.ensures.terms c.requires.some).last)
