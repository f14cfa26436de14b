-- What calls hand on.
use Rattle.std.proofs.Common.{◌≡◌, ℕ, suc, ◌+◌, ◌<◌, ◌≤◌, Bool, List, [], ◌∷◌, ◌++◌, map, length, drop, get_or, drop_of_length-le, refl, sym, ap, ◌∙◌, arith, drop-cons}
use Rattle.std.proofs.lemmas.List.{append_assoc}
use Rattle.zpl_tree.specs.Syntax.{Expr, Number, Truth, Coord, Named, Shifted, Around, Remap, Call, Paren, Neg, Not, Abs, Pair, Reduce, Scan, Flood, Exprs, NoExpr, ThenExpr}
use Rattle.zpl_tree.specs.View.{expr_of, exprs_of, name_of}
use Rattle.zpl_tree.specs.declared.expressions.Expr.{Expr as Arena}
use Rattle.zpl_tree.specs.declared.names.Name.{Name as Seen}
use Rattle.zpl_names.specs.Expansion.{FormalName}
use Rattle.zpl_binding.specs.Formals.{each_handed}
use Rattle.zpl_copies.specs.Uses.{Use, actual_uses, handed_uses}

pub none-handed : (formals : List FormalName) → each_handed formals NoExpr ≡ []
none-handed [] = refl
none-handed (formal ∷ formals) = refl

-- one formal and its actual
pub first-handed : (callee : List ℕ) (formal : FormalName) (formals : List FormalName)
    (actual : Expr) (rest : Exprs) →
    handed_uses callee (each_handed (formal ∷ formals) (ThenExpr actual rest))
    ≡ actual_uses callee formal.name.text actual ++ handed_uses callee (each_handed formals rest)
first-handed callee formal formals (Named at name) rest = refl
first-handed callee formal formals (Number at value) rest = refl
first-handed callee formal formals (Truth at value) rest = refl
first-handed callee formal formals (Coord at dimension) rest = refl
first-handed callee formal formals (Shifted at name shift) rest = refl
first-handed callee formal formals (Around at name shift) rest = refl
first-handed callee formal formals (Remap at name indices) rest = refl
first-handed callee formal formals (Call at name actuals) rest = refl
first-handed callee formal formals (Paren at inside) rest = refl
first-handed callee formal formals (Neg at operand) rest = refl
first-handed callee formal formals (Not at operand) rest = refl
first-handed callee formal formals (Abs at operand) rest = refl
first-handed callee formal formals (Pair at op left right) rest = refl
first-handed callee formal formals (Reduce at operator over operand) rest = refl
first-handed callee formal formals (Scan at operator along operand) rest = refl
first-handed callee formal formals (Flood at source operand) rest = refl

abbrev formals_of : Bool → List Seen → List FormalName
formals_of by_ref names = map (λ name. record { by_ref = by_ref; name = name }) (map name_of names)

-- past the last actual nothing is handed
pub past-actuals : (callee : List ℕ) (formals others : List FormalName) (actuals : List Arena)
    (place : ℕ) → length actuals ≤ place →
    handed_uses callee (each_handed formals (exprs_of (drop place actuals)))
    ≡ handed_uses callee (each_handed others (exprs_of (drop place actuals)))
past-actuals callee formals others actuals place past =
    ap (λ l. handed_uses callee (each_handed formals (exprs_of l))) (none actuals place past) ∙
    ap (handed_uses callee) (none-handed formals ∙ sym (none-handed others)) ∙
    sym (ap (λ l. handed_uses callee (each_handed others (exprs_of l))) (none actuals place past))
  where
    none : (xs : List Arena) (n : ℕ) → length xs ≤ n → drop n xs ≡ []
    none xs n past = drop_of_length-le xs past

-- one formal more
pub handed-next : (callee : List ℕ) (by_ref : Bool) (more : List FormalName) (names : List Seen)
    (i : ℕ) (name : Seen) (actuals : List Arena) (place : ℕ) (actual : Arena)
    (old new whole : List (List ℕ × Use)) → i < length names → place < length actuals →
    new ≡ old ++ actual_uses callee (get_or names i name).text.now (expr_of (get_or actuals place actual)) →
    old ++ handed_uses callee (each_handed (formals_of by_ref (drop i names) ++ more) (exprs_of (drop place actuals))) ≡ whole →
    new ++ handed_uses callee (each_handed (formals_of by_ref (drop (i + 1) names) ++ more) (exprs_of (drop (place + 1) actuals))) ≡ whole
handed-next callee by_ref more names i name actuals place actual old new whole below within is rest =
    ap (λ l. l ++ later) is ∙
    append_assoc old (actual_uses callee (get_or names i name).text.now (expr_of (get_or actuals place actual))) later ∙
    ap (λ l. old ++ l) (sym (first-handed callee (record { by_ref = by_ref; name = name_of (get_or names i name) }) (formals_of by_ref (drop (i + 1) names) ++ more) (expr_of (get_or actuals place actual)) (exprs_of (drop (place + 1) actuals)))) ∙
    ap (λ l. old ++ handed_uses callee (each_handed (formals_of by_ref l ++ more) (exprs_of (get_or actuals place actual ∷ drop (place + 1) actuals))))
    (sym (drop-cons names i name below ∙ ap (λ n. get_or names i name ∷ drop n names) (one i))) ∙
    ap (λ l. old ++ handed_uses callee (each_handed (formals_of by_ref (drop i names) ++ more) (exprs_of l)))
    (sym (drop-cons actuals place actual within ∙ ap (λ n. get_or actuals place actual ∷ drop n actuals) (one place))) ∙
    rest
  where
    later : List (List ℕ × Use)
    later = handed_uses callee (each_handed (formals_of by_ref (drop (i + 1) names) ++ more) (exprs_of (drop (place + 1) actuals)))

    one : (n : ℕ) → suc n ≡ n + 1
    one n = omega arith
