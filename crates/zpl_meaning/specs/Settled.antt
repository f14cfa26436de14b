-- The first phase of a statement: the regions that stand in it are computed, in text order, a
-- bracket before its operand. What is left is a term.
use Rattle.std.specs.Prelude.{pos, ℤ, List, [], ◌∷◌, Option, Some, None}
use Rattle.zpl_binding.specs.of_zpl_nums.declared.operators.UnaryOp.TheVariants as unary
use Rattle.zpl_binding.specs.of_zpl_nums.Integer.{truth}
use Rattle.zpl_binding.specs.of_zpl_region.declared.regions.Region.{Region}
use Rattle.zpl_binding.specs.of_zpl_tree.Syntax.{Expr, Number, Truth, Coord, Named, Shifted, Around, Remap, Call}
use Rattle.zpl_binding.specs.of_zpl_tree.Syntax.{Paren, Neg, Not, Abs, Pair, Reduce, Scan, Flood, Exprs, NoExpr}
use Rattle.zpl_binding.specs.of_zpl_tree.Syntax.{ThenExpr, Inner, NoBracket, Bracketed}
use Rattle.zpl_binding.specs.of_zpl_names.Kinds.{Rank}
use Rattle.zpl_binding.specs.of_zpl_names.Ranks.{own_rank, operand_rank, inner_rank}
use Rattle.zpl_meaning.specs.Computed.{Computed, Gives, computed_then, both_then}
use Rattle.zpl_meaning.specs.Store.{Thing, Scalar, ArrayAt, Fixed, Store, thing_of}
use Rattle.zpl_meaning.specs.Context.{Over, over_at, Place}
use Rattle.zpl_meaning.specs.Regions.{vector_in, region_in, under_source}
use Rattle.zpl_meaning.specs.Term.{Term, Constant, Variable, Coordinate, Element, Wrapped, Unary}
use Rattle.zpl_meaning.specs.Term.{Binary, Folded, PartFolded, Scanned, Flooded, Remapped, Terms}
use Rattle.zpl_meaning.specs.Term.{NoTerm, ThenTerm}

-- ---- names; one that stands for nothing of its kind, as none of an accepted program does, counts
-- as 0

abbrev pub named_term : Over → Option Thing → Term
named_term over (Some (Scalar place)) = Variable place
named_term over (Some (Fixed value)) = Constant value
named_term over (Some (ArrayAt place home)) = Element over.region place []
named_term over None = Constant (pos 0)

abbrev pub shifted_term : Over → List ℤ → Option Thing → Term
shifted_term over shift (Some (ArrayAt place home)) = Element over.region place shift
shifted_term over shift thing = Constant (pos 0)

abbrev pub around_term : Over → List ℤ → Option Thing → Term
around_term over shift (Some (ArrayAt place home)) = Wrapped over.region place home shift
around_term over shift thing = Constant (pos 0)

abbrev pub remap_term : Over → Option Thing → Terms → Term
remap_term over (Some (ArrayAt place home)) indices = Remapped over place indices
remap_term over thing indices = Constant (pos 0)

-- ---- expressions

-- the rank of the region that an operator with an operand is over
abbrev pub source_rank : Place → Inner → Expr → Rank
source_rank place source operand =
    inner_rank place.scope (own_rank place.scope place.prefix operand) place.prefix source

-- that region
abbrev pub source_in : Place → Store → Inner → Expr → Computed Region
source_in place store source operand =
    region_in place store (own_rank place.scope place.prefix operand) source

abbrev mutual
  -- an expression of a rank, which is passed down; the operand of a full reduction has its own rank
  pub settled : Place → Store → Rank → Expr → Computed Term
  settled place store rank (Number at value) = Gives (Constant value)
  settled place store rank (Truth at value) = Gives (Constant (truth value))
  settled place store rank (Coord at k) = Gives (Coordinate k)
  settled place store rank (Named at name) =
      Gives (named_term (over_at place.currents rank) (thing_of place.environment name.text))
  settled place store rank (Shifted at name shift) =
      Gives (shifted_term (over_at place.currents rank) (vector_in place.setup.known shift)
      (thing_of place.environment name.text))
  settled place store rank (Around at name shift) =
      Gives (around_term (over_at place.currents rank) (vector_in place.setup.known shift)
      (thing_of place.environment name.text))
  settled place store rank (Remap at name indices) =
      computed_then (settled_all place store rank indices) (λ terms.
      Gives (remap_term (over_at place.currents rank) (thing_of place.environment name.text)
      terms))
  -- no accepted program has a call in an expression
  settled place store rank (Call at name actuals) = Gives (Constant (pos 0))
  settled place store rank (Paren at inside) = settled place store rank inside
  settled place store rank (Neg at operand) =
      computed_then (settled place store rank operand) (λ term. Gives (Unary unary.Neg term))
  settled place store rank (Not at operand) =
      computed_then (settled place store rank operand) (λ term. Gives (Unary unary.Not term))
  settled place store rank (Abs at operand) =
      computed_then (settled place store rank operand) (λ term. Gives (Unary unary.Abs term))
  settled place store rank (Pair at op left right) =
      both_then (settled place store rank left) (settled place store rank right) (λ first second.
      Gives (Binary op first second))
  settled place store rank (Reduce at operator NoBracket operand) =
      let over = operand_rank place.scope place.prefix operand in
      computed_then (settled place store over operand) (λ term.
      Gives (Folded operator (over_at place.currents over) term))
  settled place store rank (Reduce at operator (Bracketed source) operand) =
      let over = source_rank place source operand in
      computed_then (source_in place store source operand) (λ region.
      computed_then (settled (under_source place over region) store over operand) (λ term.
      Gives (PartFolded operator (over_at place.currents over) region term)))
  settled place store rank (Scan at operator along operand) =
      computed_then (settled place store rank operand) (λ term.
      Gives (Scanned operator along (over_at place.currents rank) term))
  settled place store rank (Flood at source operand) =
      let over = source_rank place source operand in
      computed_then (source_in place store source operand) (λ region.
      computed_then (settled (under_source place over region) store over operand) (λ term.
      Gives (Flooded (over_at place.currents over) region term)))

  pub settled_all : Place → Store → Rank → Exprs → Computed Terms
  settled_all place store rank NoExpr = Gives NoTerm
  settled_all place store rank (ThenExpr first rest) =
      both_then (settled place store rank first) (settled_all place store rank rest)
      (λ term terms. Gives (ThenTerm term terms))

-- ---- the expressions of a statement

-- an expression with its rank
pub record Placed : Type 0 where
  pub rank : Rank
  pub expr : Expr

abbrev pub settled_each : Place → Store → List Placed → Computed Terms
settled_each place store [] = Gives NoTerm
settled_each place store (placed ∷ rest) =
    both_then (settled place store placed.rank placed.expr) (settled_each place store rest)
    (λ term terms. Gives (ThenTerm term terms))
