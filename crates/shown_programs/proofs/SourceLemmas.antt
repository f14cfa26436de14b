-- Values of whole programs with operators over regions: the vectors that stand in the brackets of these
-- have no fault, and what wraps round and what is called stands in the text of a procedure.
use Rattle.std.proofs.Common.{ℕ, List, [], ◌∷◌}
use Rattle.std.specs.Prelude.{Contains}
use Rattle.zpl_tree.specs.Syntax.{Expr, Number, Truth, Coord, Named, Shifted, Around, Remap, Call, Paren, Neg, Not, Abs, Pair, Reduce, Scan, Flood, Exprs, NoExpr, ThenExpr, Inner, Rexpr, Dims, NoBracket, Bracketed, Item, Str, Value, Name, Dir, Program}
use Rattle.zpl_names.specs.Shapes.{Shapes}
use Rattle.zpl_names.specs.Reached.{calls_in}
use Rattle.zpl_binding.specs.Regions.{Known}
use Rattle.zpl_binding.specs.Formals.{around_reads}
use Rattle.zpl_meaning.specs.Store.{Environment}
use Rattle.served_places.specs.of_prefix_runs.Opens.{AreGivenPosts}
use Rattle.served_places.specs.Given.{IsSound}
use Rattle.shown_programs.specs.Operators.{AreOperatedExprs, HasCopyWithin, IsOperatedExpr}
use Rattle.shown_programs.specs.Text.{AreOperatedIndices, HasSmallInner, IsOperatedText}

-- vectors that stand in a bracket have no fault
abbrev pub AreGivenInner : Known → Inner → Type 0
AreGivenInner known (Rexpr pre base post) = AreGivenPosts known post
AreGivenInner known (Dims dims) = Unit {0}

-- the procedure in whose text something stands, by its name, with what was computed before the run
pub record ProcedureText : Type 0 where
  pub program : Program
  pub known : Known
  pub text : List ℕ

-- what wraps round, and what is called, stands in the text
abbrev pub IsReadOf : ProcedureText → Name → Dir → Type 0
IsReadOf own name shift =
    Contains (around_reads own.program own.text) (record { array = name.text; shift = shift })

abbrev pub IsCallOf : ProcedureText → Name → Exprs → Type 0
IsCallOf own name actuals =
    (shapes : Shapes)
    × Contains (calls_in own.program own.text)
    (record { name = name; actuals = actuals; shapes = shapes })

-- nor have those in the brackets of the operators of a value
abbrev mutual
  pub AreGivenSources : ProcedureText → Expr → Type 0
  AreGivenSources own (Number at value) = Unit {0}
  AreGivenSources own (Truth at value) = Unit {0}
  AreGivenSources own (Coord at k) = Unit {0}
  AreGivenSources own (Named at name) = Unit {0}
  AreGivenSources own (Shifted at name shift) = Unit {0}
  AreGivenSources own (Around at name shift) = IsReadOf own name shift
  AreGivenSources own (Remap at name indices) = AllGivenSources own indices
  AreGivenSources own (Call at name actuals) =
      IsCallOf own name actuals × AllGivenSources own actuals
  AreGivenSources own (Paren at inside) = AreGivenSources own inside
  AreGivenSources own (Neg at operand) = AreGivenSources own operand
  AreGivenSources own (Not at operand) = AreGivenSources own operand
  AreGivenSources own (Abs at operand) = AreGivenSources own operand
  AreGivenSources own (Pair at op left right) =
      AreGivenSources own left × AreGivenSources own right
  AreGivenSources own (Reduce at operator NoBracket operand) = AreGivenSources own operand
  AreGivenSources own (Reduce at operator (Bracketed source) operand) =
      AreGivenInner own.known source × AreGivenSources own operand
  AreGivenSources own (Scan at operator along operand) = AreGivenSources own operand
  AreGivenSources own (Flood at source operand) =
      AreGivenInner own.known source × AreGivenSources own operand

  pub AllGivenSources : ProcedureText → Exprs → Type 0
  AllGivenSources own NoExpr = Unit {0}
  AllGivenSources own (ThenExpr first rest) =
      AreGivenSources own first × AllGivenSources own rest

abbrev pub AreGivenItems : ProcedureText → List Item → Type 0
AreGivenItems own [] = Unit {0}
AreGivenItems own (Str bytes ∷ items) = AreGivenItems own items
AreGivenItems own (Value value ∷ items) =
    AreGivenSources own value × AreGivenItems own items

pub sound_inner : (known : Known) (region : Inner) → AreGivenInner known region
    → HasSmallInner region → IsSound known region
sound_inner known (Rexpr pre base post) h s = h
sound_inner known (Dims dims) h s = s

-- where numbers are of 64 bits too, and the copies of the procedure's reads are within the limit,
-- the value is served
module _ (own : ProcedureText) (environment : Environment)
    (within : (name : Name) (shift : Dir) → IsReadOf own name shift
    → HasCopyWithin own.known environment name.text shift) where
  abbrev Served : Expr → Type 0
  Served expr = IsOperatedExpr own.known environment expr

  mutual
    pub operated_text : (expr : Expr) → IsOperatedText expr → AreGivenSources own expr → Served expr
    operated_text (Number at value) t g = t
    operated_text (Truth at value) t g = tt
    operated_text (Coord at k) t g = tt
    operated_text (Named at name) t g = tt
    operated_text (Shifted at name shift) t g = tt
    operated_text (Around at name shift) t g = within name shift g
    operated_text (Remap at name indices) t g = operated_indices indices t g
    operated_text (Call at name actuals) t g = absurd t
    operated_text (Paren at inside) t g = operated_text inside t g
    operated_text (Neg at operand) t g = operated_text operand t g
    operated_text (Not at operand) t g = operated_text operand t g
    operated_text (Abs at operand) t g = operated_text operand t g
    operated_text (Pair at op left right) t g =
        (operated_text left t.0 g.0, operated_text right t.1 g.1)
    operated_text (Reduce at operator NoBracket operand) t g = operated_text operand t g
    operated_text (Reduce at operator (Bracketed source) operand) t g =
        (sound_inner own.known source g.0 t.0, operated_text operand t.1 g.1)
    operated_text (Scan at operator along operand) t g = operated_text operand t g
    operated_text (Flood at source operand) t g =
        (sound_inner own.known source g.0 t.0, operated_text operand t.1 g.1)

    operated_indices : (indices : Exprs) → AreOperatedIndices indices
        → AllGivenSources own indices → AreOperatedExprs own.known environment indices
    operated_indices NoExpr t g = tt
    operated_indices (ThenExpr first rest) t g =
        (operated_text first t.0 g.0, operated_indices rest t.1 g.1)
