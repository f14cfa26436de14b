use Rattle.std.proofs.Common.{pos, arith}
use Rattle.zpl_region.specs.declared.dims.Dim.TheVariants.{Range}
use Rattle.grid_layout.proofs.PlaceLemmas.{by_third, none_of_first, none_of_second}
use Rattle.grid_layout.proofs.dims.has_tuples.Goals as goal

pub has_some-requires : goal.has_some-requires
has_some-requires c = c.requires 0 _ (omega arith)

pub has_some-requires-2 : goal.has_some-requires-2
has_some-requires-2 c = c.requires 1 _ (omega arith)

pub has_some-requires-3 : goal.has_some-requires-3
has_some-requires-3 c = c.requires 2 _ (omega arith)

pub returns-then-not-has_some : goal.returns-then-not-has_some
returns-then-not-has_some c =
    none_of_first c.args.dims.now (Range (pos 0) (pos 0) (pos 0) (pos 0)) c.has_some.result c.requires (omega arith) c.has_some.ensures c.if-not-has_some.true

pub returns-then-not-has_some-2 : goal.returns-then-not-has_some-2
returns-then-not-has_some-2 c =
    none_of_second c.args.dims.now (Range (pos 0) (pos 0) (pos 0) (pos 0)) c.has_some.result c.has_some-2.result c.requires (omega arith) c.has_some.ensures c.has_some-2.ensures
    c.if-not-has_some.false c.if-not-has_some-2.true

pub returns : goal.returns
returns c =
    by_third c.args.dims.now (Range (pos 0) (pos 0) (pos 0) (pos 0)) c.has_some.result c.has_some-2.result c.has_some-3.result c.requires (omega arith) c.has_some.ensures c.has_some-2.ensures c.has_some-3.ensures
    c.if-not-has_some.false c.if-not-has_some-2.false
