-- What the place of an expression has to know of it, found in one pass over it.
use Rattle.std.specs.Prelude.{Bool, true, false, ◌&&◌, ◌||◌, Option, Some, None}
use Rattle.zpl_nums.specs.declared.operators.Op.{Op}
use Rattle.zpl_nums.specs.declared.folds.Fold.{Fold}
use Rattle.zpl_tree.specs.Syntax as plain
use Rattle.zpl_tree.specs.Syntax.{Expr, Number, Truth, Coord, Named, Shifted, Around, Remap, Call, Paren, Neg, Not, Abs, Pair, Reduce, Scan, Flood, Exprs, NoExpr, ThenExpr, Inner, Bracket, NoBracket, Bracketed}
use Rattle.zpl_names.specs.Kinds as kind
use Rattle.zpl_names.specs.Kinds.{Rank}
use Rattle.zpl_names.specs.Scope.{Scope, kind_of}
use Rattle.zpl_names.specs.Ranks.{both_ranks, value_rank, array_rank, inner_rank}
use Rattle.zpl_names.specs.Types.{kind_base, result_base, op_base, fold_base}
use Rattle.name_kinds.specs.declared.kinds.BaseType.{BaseType}
use Rattle.name_kinds.specs.declared.kinds.BaseType.TheVariants.{Integer, Boolean}
use Rattle.name_kinds.specs.declared.parts.Part.{Part}
use Rattle.name_kinds.specs.declared.parts.Parts.{Parts}
use Rattle.name_kinds.specs.Seen.{type_of_base}

-- a base type, where there is one, without the name of one that is no type of the language
abbrev pub base_seen : Option plain.Base → Option BaseType
base_seen None = None
base_seen (Some base) = Some (type_of_base base)

abbrev pub leaf_part : Bool → BaseType → Part
leaf_part takes base = record {
  own = Some 0;
  is_open = takes;
  base = Some base;
  has_parallel = false;
  is_elementwise = true;
}

abbrev pub named_part : Option kind.Kind → Part
named_part kind = record {
  own = value_rank kind;
  is_open = false;
  base = base_seen (kind_base kind);
  has_parallel = false;
  is_elementwise = true;
}

abbrev pub shifted_part : Option kind.Kind → Part
shifted_part kind = record {
  own = array_rank kind;
  is_open = false;
  base = base_seen (kind_base kind);
  has_parallel = false;
  is_elementwise = false;
}

abbrev pub remap_part : Option kind.Kind → Parts → Part
remap_part kind indices = record {
  own = indices.own;
  is_open = true;
  base = base_seen (kind_base kind);
  has_parallel = true;
  is_elementwise = false;
}

abbrev pub call_part : Option kind.Kind → Parts → Part
call_part kind actuals = record {
  own = Some 0;
  is_open = false;
  base = base_seen (result_base kind);
  has_parallel = actuals.has_parallel;
  is_elementwise = false;
}

abbrev pub unary_part : BaseType → Part → Part
unary_part base operand = record operand { base = Some base }

abbrev pub pair_part : Op → Part → Part → Part
pair_part op left right = record {
  own = both_ranks left.own right.own;
  is_open = left.is_open || right.is_open;
  base = Some (type_of_base (op_base op));
  has_parallel = left.has_parallel || right.has_parallel;
  is_elementwise = left.is_elementwise && right.is_elementwise;
}

abbrev pub reduce_part : Fold → Rank → Part
reduce_part operator rank = record {
  own = rank;
  is_open = false;
  base = Some (type_of_base (fold_base operator));
  has_parallel = true;
  is_elementwise = false;
}

abbrev pub scan_part : Fold → Part → Part
scan_part operator operand = record {
  own = operand.own;
  is_open = true;
  base = Some (type_of_base (fold_base operator));
  has_parallel = true;
  is_elementwise = false;
}

abbrev pub flood_part : Rank → Part → Part
flood_part source operand = record {
  own = both_ranks source operand.own;
  is_open = false;
  base = operand.base;
  has_parallel = true;
  is_elementwise = false;
}

-- the rank of a reduction over a region, or of a full one
abbrev pub reduced_rank : Scope → Rank → Bracket → Rank → Rank
reduced_rank scope prefix NoBracket own = Some 0
reduced_rank scope prefix (Bracketed source) own = both_ranks (inner_rank scope own prefix source) own

abbrev pub no_parts : Parts
no_parts = record { own = Some 0; has_parallel = false }

abbrev pub more_parts : Part → Parts → Parts
more_parts first rest = record {
  own = both_ranks first.own rest.own;
  has_parallel = first.has_parallel || rest.has_parallel;
}

abbrev mutual
  pub part_of : Scope → Rank → Expr → Part
  part_of scope prefix (Number at value) = leaf_part false Integer
  part_of scope prefix (Truth at value) = leaf_part false Boolean
  part_of scope prefix (Coord at dimension) = leaf_part true Integer
  part_of scope prefix (Named at name) = named_part (kind_of scope name)
  part_of scope prefix (Shifted at name shift) = shifted_part (kind_of scope name)
  part_of scope prefix (Around at name shift) = shifted_part (kind_of scope name)
  part_of scope prefix (Remap at name indices) =
      remap_part (kind_of scope name) (parts_of scope prefix indices)
  part_of scope prefix (Call at name actuals) =
      call_part (kind_of scope name) (parts_of scope prefix actuals)
  part_of scope prefix (Paren at inside) = part_of scope prefix inside
  part_of scope prefix (Neg at operand) = unary_part Integer (part_of scope prefix operand)
  part_of scope prefix (Not at operand) = unary_part Boolean (part_of scope prefix operand)
  part_of scope prefix (Abs at operand) = unary_part Integer (part_of scope prefix operand)
  part_of scope prefix (Pair at op left right) =
      pair_part op (part_of scope prefix left) (part_of scope prefix right)
  part_of scope prefix (Reduce at operator over operand) =
      reduce_part operator (reduced_rank scope prefix over (part_of scope prefix operand).own)
  part_of scope prefix (Scan at operator along operand) =
      scan_part operator (part_of scope prefix operand)
  part_of scope prefix (Flood at source operand) =
      flood_part (inner_rank scope (part_of scope prefix operand).own prefix source)
      (part_of scope prefix operand)

  pub parts_of : Scope → Rank → Exprs → Parts
  parts_of scope prefix NoExpr = no_parts
  parts_of scope prefix (ThenExpr first rest) =
      more_parts (part_of scope prefix first) (parts_of scope prefix rest)
