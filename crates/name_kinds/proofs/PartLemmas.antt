-- What is known of expressions, one after another, and of one by the definitions of its parts.
use Rattle.std.proofs.Common.{◌≡◌, ℕ, zero, suc, Bool, true, false, ◌&&◌, ◌||◌, Option, Some, None, refl, sym, ◌∙◌, ap, ap₂, drop-cons}
use Rattle.std.proofs.lemmas.List.{drop_all}
use Rattle.zpl_tree.specs.Syntax.{Expr, Number, Truth, Coord, Named, Shifted, Around, Remap, Call, Paren, Neg, Not, Abs, Pair, Reduce, Scan, Flood, Exprs, NoExpr, ThenExpr, NoBracket, Bracketed}
use Rattle.zpl_names.specs.Kinds.{Rank}
use Rattle.zpl_names.specs.Scope.{Scope}
use Rattle.zpl_names.specs.Ranks.{both_ranks, inner_rank, is_open, own_rank, own_ranks}
use Rattle.zpl_names.specs.Types.{has_parallel, have_parallel, is_elementwise, type_of}
use Rattle.name_kinds.specs.declared.parts.Part.{Part}
use Rattle.name_kinds.specs.declared.parts.Parts.{Parts}
use Rattle.name_kinds.specs.Part.{base_seen, more_parts, no_parts, part_of, parts_of}

-- what is known of two lists of expressions
abbrev pub joined : Parts → Parts → Parts
joined before behind = record {
  own = both_ranks before.own behind.own;
  has_parallel = before.has_parallel || behind.has_parallel;
}

both-first : (rank : Rank) → both_ranks (Some 0) rank ≡ rank
both-first None = refl
both-first (Some rank) = refl

both-last : (rank : Rank) → both_ranks rank (Some 0) ≡ rank
both-last None = refl
both-last (Some zero) = refl
both-last (Some (suc rank)) = refl

both-assoc : (one two three : Rank) →
    both_ranks (both_ranks one two) three ≡ both_ranks one (both_ranks two three)
both-assoc one two None = refl
both-assoc one None (Some three) = refl
both-assoc None (Some zero) (Some three) = refl
both-assoc None (Some (suc two)) (Some three) = refl
both-assoc (Some zero) (Some zero) (Some three) = refl
both-assoc (Some zero) (Some (suc two)) (Some three) = refl
both-assoc (Some (suc one)) (Some zero) (Some three) = refl
both-assoc (Some (suc one)) (Some (suc two)) (Some three) = refl

or-false : (b : Bool) → b || false ≡ b
or-false true = refl
or-false false = refl

or-assoc : (a b c : Bool) → (a || b) || c ≡ a || (b || c)
or-assoc true b c = refl
or-assoc false b c = refl

parts-are : (one two : Parts) → one.own ≡ two.own → one.has_parallel ≡ two.has_parallel → one ≡ two
parts-are one two own parallel =
    ap₂ (λ own parallel. record { own = own; has_parallel = parallel }) own parallel

pub joined-none : (parts : Parts) → joined no_parts parts ≡ parts
joined-none parts = parts-are (joined no_parts parts) parts (both-first parts.own) refl

pub joined-all : (parts : Parts) → joined parts no_parts ≡ parts
joined-all parts =
    parts-are (joined parts no_parts) parts (both-last parts.own) (or-false parts.has_parallel)

-- one more expression
pub joined-more : (before now rest : Parts) (part : Part) →
    now ≡ record {
      own = both_ranks before.own part.own;
      has_parallel = before.has_parallel || part.has_parallel;
    } → joined now rest ≡ joined before (more_parts part rest)
joined-more before now rest part is =
    ap (λ now. joined now rest) is ∙
    ap₂ (λ own parallel. record { own = own; has_parallel = parallel })
    (both-assoc before.own part.own rest.own)
    (or-assoc before.has_parallel part.has_parallel rest.has_parallel)

pub ruleset more_parts_known = (joined-none, joined-all, joined-more, drop-cons, drop_all)

-- ---- the parts of an expression are what the definitions say of it

mutual
  pub part-own : (scope : Scope) (prefix : Rank) (expr : Expr) →
      (part_of scope prefix expr).own ≡ own_rank scope prefix expr
  part-own scope prefix (Number at value) = refl
  part-own scope prefix (Truth at value) = refl
  part-own scope prefix (Coord at dimension) = refl
  part-own scope prefix (Named at name) = refl
  part-own scope prefix (Shifted at name shift) = refl
  part-own scope prefix (Around at name shift) = refl
  part-own scope prefix (Remap at name indices) = parts-own scope prefix indices
  part-own scope prefix (Call at name actuals) = refl
  part-own scope prefix (Paren at inside) = part-own scope prefix inside
  part-own scope prefix (Neg at operand) = part-own scope prefix operand
  part-own scope prefix (Not at operand) = part-own scope prefix operand
  part-own scope prefix (Abs at operand) = part-own scope prefix operand
  part-own scope prefix (Pair at op left right) =
      ap₂ (λ one two. both_ranks one two) (part-own scope prefix left)
      (part-own scope prefix right)
  part-own scope prefix (Reduce at operator NoBracket operand) = refl
  part-own scope prefix (Reduce at operator (Bracketed source) operand) =
      ap (λ own. both_ranks (inner_rank scope own prefix source) own)
      (part-own scope prefix operand)
  part-own scope prefix (Scan at operator along operand) = part-own scope prefix operand
  part-own scope prefix (Flood at source operand) =
      ap (λ own. both_ranks (inner_rank scope own prefix source) own)
      (part-own scope prefix operand)

  pub parts-own : (scope : Scope) (prefix : Rank) (exprs : Exprs) →
      (parts_of scope prefix exprs).own ≡ own_ranks scope prefix exprs
  parts-own scope prefix NoExpr = refl
  parts-own scope prefix (ThenExpr first rest) =
      ap₂ (λ one two. both_ranks one two) (part-own scope prefix first)
      (parts-own scope prefix rest)

pub part-open : (scope : Scope) (prefix : Rank) (expr : Expr) →
    (part_of scope prefix expr).is_open ≡ is_open expr
part-open scope prefix (Number at value) = refl
part-open scope prefix (Truth at value) = refl
part-open scope prefix (Coord at dimension) = refl
part-open scope prefix (Named at name) = refl
part-open scope prefix (Shifted at name shift) = refl
part-open scope prefix (Around at name shift) = refl
part-open scope prefix (Remap at name indices) = refl
part-open scope prefix (Call at name actuals) = refl
part-open scope prefix (Paren at inside) = part-open scope prefix inside
part-open scope prefix (Neg at operand) = part-open scope prefix operand
part-open scope prefix (Not at operand) = part-open scope prefix operand
part-open scope prefix (Abs at operand) = part-open scope prefix operand
part-open scope prefix (Pair at op left right) =
    ap₂ (λ one two. one || two) (part-open scope prefix left) (part-open scope prefix right)
part-open scope prefix (Reduce at operator over operand) = refl
part-open scope prefix (Scan at operator along operand) = refl
part-open scope prefix (Flood at source operand) = refl

pub part-base : (scope : Scope) (prefix : Rank) (expr : Expr) →
    (part_of scope prefix expr).base ≡ base_seen (type_of scope expr)
part-base scope prefix (Number at value) = refl
part-base scope prefix (Truth at value) = refl
part-base scope prefix (Coord at dimension) = refl
part-base scope prefix (Named at name) = refl
part-base scope prefix (Shifted at name shift) = refl
part-base scope prefix (Around at name shift) = refl
part-base scope prefix (Remap at name indices) = refl
part-base scope prefix (Call at name actuals) = refl
part-base scope prefix (Paren at inside) = part-base scope prefix inside
part-base scope prefix (Neg at operand) = refl
part-base scope prefix (Not at operand) = refl
part-base scope prefix (Abs at operand) = refl
part-base scope prefix (Pair at op left right) = refl
part-base scope prefix (Reduce at operator over operand) = refl
part-base scope prefix (Scan at operator along operand) = refl
part-base scope prefix (Flood at source operand) = part-base scope prefix operand

mutual
  pub part-parallel : (scope : Scope) (prefix : Rank) (expr : Expr) →
      (part_of scope prefix expr).has_parallel ≡ has_parallel expr
  part-parallel scope prefix (Number at value) = refl
  part-parallel scope prefix (Truth at value) = refl
  part-parallel scope prefix (Coord at dimension) = refl
  part-parallel scope prefix (Named at name) = refl
  part-parallel scope prefix (Shifted at name shift) = refl
  part-parallel scope prefix (Around at name shift) = refl
  part-parallel scope prefix (Remap at name indices) = refl
  part-parallel scope prefix (Call at name actuals) = parts-parallel scope prefix actuals
  part-parallel scope prefix (Paren at inside) = part-parallel scope prefix inside
  part-parallel scope prefix (Neg at operand) = part-parallel scope prefix operand
  part-parallel scope prefix (Not at operand) = part-parallel scope prefix operand
  part-parallel scope prefix (Abs at operand) = part-parallel scope prefix operand
  part-parallel scope prefix (Pair at op left right) =
      ap₂ (λ one two. one || two) (part-parallel scope prefix left)
      (part-parallel scope prefix right)
  part-parallel scope prefix (Reduce at operator over operand) = refl
  part-parallel scope prefix (Scan at operator along operand) = refl
  part-parallel scope prefix (Flood at source operand) = refl

  pub parts-parallel : (scope : Scope) (prefix : Rank) (exprs : Exprs) →
      (parts_of scope prefix exprs).has_parallel ≡ have_parallel exprs
  parts-parallel scope prefix NoExpr = refl
  parts-parallel scope prefix (ThenExpr first rest) =
      ap₂ (λ one two. one || two) (part-parallel scope prefix first)
      (parts-parallel scope prefix rest)

pub part-elementwise : (scope : Scope) (prefix : Rank) (expr : Expr) →
    (part_of scope prefix expr).is_elementwise ≡ is_elementwise expr
part-elementwise scope prefix (Number at value) = refl
part-elementwise scope prefix (Truth at value) = refl
part-elementwise scope prefix (Coord at dimension) = refl
part-elementwise scope prefix (Named at name) = refl
part-elementwise scope prefix (Shifted at name shift) = refl
part-elementwise scope prefix (Around at name shift) = refl
part-elementwise scope prefix (Remap at name indices) = refl
part-elementwise scope prefix (Call at name actuals) = refl
part-elementwise scope prefix (Paren at inside) = part-elementwise scope prefix inside
part-elementwise scope prefix (Neg at operand) = part-elementwise scope prefix operand
part-elementwise scope prefix (Not at operand) = part-elementwise scope prefix operand
part-elementwise scope prefix (Abs at operand) = part-elementwise scope prefix operand
part-elementwise scope prefix (Pair at op left right) =
    ap₂ (λ one two. one && two) (part-elementwise scope prefix left)
    (part-elementwise scope prefix right)
part-elementwise scope prefix (Reduce at operator over operand) = refl
part-elementwise scope prefix (Scan at operator along operand) = refl
part-elementwise scope prefix (Flood at source operand) = refl
