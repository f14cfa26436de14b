use Rattle.std.proofs.Common.{◌≡◌, pos, w64, to_z, of_z, [], ◌∷◌, get_or, OkIff, refl, arith}
use Rattle.std.proofs.lemmas.Int.{ints}
use Rattle.zpl_region.specs.declared.dims.Dim.TheVariants.{Range}
use Rattle.zpl_region.specs.declared.regions.Region.{Region}
use Rattle.zpl_region.specs.Dim.{dim_inside_of}
use Rattle.zpl_region.specs.Region.{IsWithinLimit}
use Rattle.zpl_region.proofs.RegionLemmas.{formed_limit, formed_padded}
use Rattle.zpl_region.proofs.regions.Region.inside.Goals as goal

pub new-requires-clause-padded : goal.new-requires-clause-padded
new-requires-clause-padded c =
    let v = c.components.result in
    let y : to_z w64 (of_z w64 (get_or v 1 (pos 0))) ≡ get_or v 1 (pos 0) = omega (arith, ints) in
    let z : to_z w64 (of_z w64 (get_or v 2 (pos 0))) ≡ get_or v 2 (pos 0) = omega (arith, ints) in
    formed_padded dim_inside_of c.args.self.now c.args.d v c.inside_of.result c.inside_of-2.result c.inside_of-3.result (Range (pos 0) (pos 0) (pos 0) (pos 0))
    c.components.ensures (omega arith) (omega arith) c.requires refl (rw y at c.inside_of-2.ensures.near) (rw z at c.inside_of-3.ensures.near)

pub returns-clause-limit : goal.returns-clause-limit
returns-clause-limit c =
    let r = c.args.self.now in
    let v = c.components.result in
    let x : to_z w64 (of_z w64 (get_or v 0 (pos 0))) ≡ get_or v 0 (pos 0) = omega (arith, ints) in
    let y : to_z w64 (of_z w64 (get_or v 1 (pos 0))) ≡ get_or v 1 (pos 0) = omega (arith, ints) in
    let z : to_z w64 (of_z w64 (get_or v 2 (pos 0))) ≡ get_or v 2 (pos 0) = omega (arith, ints) in
    let built : Region = record { rank = r.rank; dims = c.inside_of.result ∷ c.inside_of-2.result ∷ c.inside_of-3.result ∷ [] } in
    let h : OkIff c.new.result (IsWithinLimit built) built = c.new.ensures.limit in
    formed_limit dim_inside_of r c.args.d v c.inside_of.result c.inside_of-2.result c.inside_of-3.result (Range (pos 0) (pos 0) (pos 0) (pos 0))
    c.components.ensures (omega arith) (omega arith) (rw x at c.inside_of.ensures.near) (rw y at c.inside_of-2.ensures.near) (rw z at c.inside_of-3.ensures.near) c.new.result h
