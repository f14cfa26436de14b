use Rattle.std.proofs.Common.{◌≡◌, w64, to_z, of_z, pos, ◌∙◌, arith}
use Rattle.std.proofs.lemmas.Int.{ints}
use Rattle.zpl_region.specs.declared.dims.Dim.{Dim}
use Rattle.zpl_region.specs.declared.dims.Dim.TheVariants.{Range}
use Rattle.zpl_region.specs.Ends.{first_of}
use Rattle.zpl_region.proofs.HullCode.{each_some, least_none, least_some, mapped_is, none_told, some_told}
use Rattle.zpl_region.proofs.regions.Region.least.Goals as goal

abbrev nothing : Dim
nothing = Range (pos 0) (pos 0) (pos 0) (pos 0)

pub returns-then-is_empty : goal.returns-then-is_empty
returns-then-is_empty c = least_none c.args.self.now (none_told c.is_empty.result c.args.self.now c.requires c.is_empty.ensures c.if-is_empty.true)

pub ends-requires-clause-some : goal.ends-requires-clause-some
ends-requires-clause-some c = (each_some c.args.self.now.dims nothing (omega arith) (some_told c.is_empty.result c.args.self.now c.requires c.is_empty.ensures c.if-is_empty.false)).0

pub ends-requires-2-clause-some : goal.ends-requires-2-clause-some
ends-requires-2-clause-some c = (each_some c.args.self.now.dims nothing (omega arith) (some_told c.is_empty.result c.args.self.now c.requires c.is_empty.ensures c.if-is_empty.false)).1

pub ends-requires-3-clause-some : goal.ends-requires-3-clause-some
ends-requires-3-clause-some c = (each_some c.args.self.now.dims nothing (omega arith) (some_told c.is_empty.result c.args.self.now c.requires c.is_empty.ensures c.if-is_empty.false)).2

pub returns : goal.returns
returns c =
    let x : to_z w64 (of_z w64 c.ends.result.0) ≡ c.ends.result.0 = omega (arith, ints) in
    let y : to_z w64 (of_z w64 c.ends-2.result.0) ≡ c.ends-2.result.0 = omega (arith, ints) in
    let z : to_z w64 (of_z w64 c.ends-3.result.0) ≡ c.ends-3.result.0 = omega (arith, ints) in
    least_some c.args.self.now _ (some_told c.is_empty.result c.args.self.now c.requires c.is_empty.ensures c.if-is_empty.false)
    (mapped_is first_of c.args.self.now.dims nothing _ _ _ (omega arith) (x ∙ c.ends.ensures.first) (y ∙ c.ends-2.ensures.first) (z ∙ c.ends-3.ensures.first))
