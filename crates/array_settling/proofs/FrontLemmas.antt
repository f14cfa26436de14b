-- Terms of expressions that are settled from the last one on.
use Rattle.std.proofs.Common.{◌≡◌, ℕ, zero, suc, ◌-◌, ◌<◌, ◌≤◌, List, [], ◌∷◌, map, length, drop, drop-cons, get_or, ap, ◌∙◌, arith}
use Rattle.zpl_tree.specs.View.{expr_of, exprs_of}
use Rattle.zpl_tree.specs.declared.expressions.Expr.{Expr}
use Rattle.zpl_names.specs.Kinds.{Rank}
use Rattle.zpl_meaning.specs.Computed.{Gives, both_then}
use Rattle.zpl_meaning.specs.Context.{Place}
use Rattle.zpl_meaning.specs.Store.{Store}
use Rattle.zpl_meaning.specs.Term.{ThenTerm}
use Rattle.zpl_meaning.specs.Settled.{settled, settled_all, settled_each}
use Rattle.array_settling.specs.declared.phases.Placed.{Placed}
use Rattle.array_settling.specs.Fit.{AreFit, IsFit}
use Rattle.array_settling.specs.Placed.{AreFitPlaced, placed_of}
use Rattle.std.specs.List.{AllByRecursion}
use Rattle.std.proofs.lemmas.List.Elements.{recursion_from_All}

one-less : (left : ℕ) → 0 < left → suc (left - 1) ≡ left
one-less left above = omega arith

-- the expressions from one before on
pub exprs-before : (place : Place) (store : Store) (rank : Rank) (exprs : List Expr)
    (left : ℕ) (d : Expr) → 0 < left → left ≤ length exprs →
    settled_all place store rank (exprs_of (drop (left - 1) exprs))
    ≡ both_then (settled place store rank (expr_of (get_or exprs (left - 1) d)))
    (settled_all place store rank (exprs_of (drop left exprs)))
    (λ term terms. Gives (ThenTerm term terms))
exprs-before place store rank exprs left d above within =
    ap (λ l. settled_all place store rank (exprs_of l))
    (drop-cons exprs (left - 1) d (omega arith)
    ∙ ap (λ n. get_or exprs (left - 1) d ∷ drop n exprs) (one-less left above))

pub each-before : (place : Place) (store : Store) (exprs : List Placed) (left : ℕ)
    (d : Placed) → 0 < left → left ≤ length exprs →
    settled_each place store (map placed_of (drop (left - 1) exprs))
    ≡ both_then (settled place store (get_or exprs (left - 1) d).rank
    (expr_of (get_or exprs (left - 1) d).expr.now))
    (settled_each place store (map placed_of (drop left exprs)))
    (λ term terms. Gives (ThenTerm term terms))
each-before place store exprs left d above within =
    ap (λ l. settled_each place store (map placed_of l))
    (drop-cons exprs (left - 1) d (omega arith)
    ∙ ap (λ n. get_or exprs (left - 1) d ∷ drop n exprs) (one-less left above))

-- an element of a list of fit expressions
pub element_fit : (exprs : List Expr) (k : ℕ) (d : Expr) → k < length exprs →
    AreFit (exprs_of exprs) → IsFit (expr_of (get_or exprs k d))
element_fit [] k d below fit = absurd (omega arith)
element_fit (expr ∷ exprs) zero d below fit = fit.0
element_fit (expr ∷ exprs) (suc k) d below fit = element_fit exprs k d (omega arith) fit.1

pub placed_fit : (exprs : List Placed) (k : ℕ) (d : Placed) → k < length exprs →
    AreFitPlaced exprs → IsFit (expr_of (get_or exprs k d).expr.now)
placed_fit exprs k d below all =
    by exprs k below (recursion_from_All (λ placed. IsFit (expr_of placed.expr.now)) exprs all)
  where
    by : (exprs : List Placed) (k : ℕ) → k < length exprs →
        AllByRecursion (λ placed. IsFit (expr_of placed.expr.now)) exprs →
        IsFit (expr_of (get_or exprs k d).expr.now)
    by [] k below h = absurd (omega arith)
    by (placed ∷ rest) zero below h = h.0
    by (placed ∷ rest) (suc k) below h = by rest k (omega arith) h.1
