-- What binding looks at in a text: vectors, borders of regions, reads that wrap round, and calls.
use Rattle.std.specs.Prelude.{List, [], ◌∷◌, map, if◌then◌else◌, Option, Some, None}
use Rattle.zpl_binding.specs.of_zpl_tree.Syntax.{Name, Exprs, Dir, Vector, NamedRegion, Rexpr, NoPost, Around, Expr}
use Rattle.zpl_binding.specs.of_zpl_names.Sites.{Site, AtExpr, AtCall, AtDir, AtRegion}
use Rattle.zpl_binding.specs.Storages.{Border, innermost}

pub data Part : Type 0 where
  -- the components of a vector that stands in a statement
  VectorPart : (parts : Exprs) → Part
  -- `d of R`, with R's own name behind the `of` and nothing behind that
  BorderPart : (border : Border) → Part
  -- `A@^d`
  AroundPart : (array : Name) (shift : Dir) → Part
  CallPart : (name : Name) (actuals : Exprs) → Part

-- those of a site
abbrev pub parts_at : Site → List Part
parts_at (AtDir reach (Vector parts)) = if reach.declared then [] else VectorPart parts ∷ []
parts_at (AtRegion reach hint (Rexpr pre (NamedRegion region) NoPost)) =
    map BorderPart (innermost pre region)
parts_at (AtExpr reach rank (Around at name shift)) = AroundPart name shift ∷ []
parts_at (AtCall reach place name actuals) = CallPart name actuals ∷ []
parts_at site = []
