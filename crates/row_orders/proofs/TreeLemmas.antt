-- The kin of a row are a tree.
use Rattle.std.proofs.Common.{◌≡◌, ℕ, zero, suc, ◌+◌, ◌-◌, ◌*◌, ◌/◌, ◌%◌, ◌<◌, Bool, true, false, cond, ◌==◌, nat_lt, [], ◌∷◌, filter, All, Option, Some, None, refl, sym, ◌∙◌, ap, ap₂, subst, arith, eqb-true, ltb-true, lt-ltb, mod-lt, div-add-mod', div-le_self}
use Rattle.std.proofs.lemmas.Bool.{eqb-false, ne_eqb}
use Rattle.std.proofs.lemmas.List.Elements.{All-nil, All-cons}
use Rattle.grid_meaning.specs.of_node_form.declared.tables.Tables.{Tables}
use Rattle.grid_meaning.specs.Collective.{parent_of, star, tree}
use Rattle.grid_meaning.specs.Local.{processors}
use Rattle.grid_paths.specs.Tree.{times, parents, IsTree}
use Rattle.row_orders.specs.Agreement.{tree_of, AreTrees}
use Rattle.row_orders.proofs.PartnerLemmas.{times-cons, times-filter, star_family}
use Rattle.row_orders.proofs.StarLemmas.{between, processor_count}

-- ---- the tree of halves
halves : (p k : ℕ) (a b c : Bool) → (2 * p + 1 == suc k) ≡ a → (2 * p + 2 == suc k) ≡ b
    → (k / 2 == p) ≡ c
    → cond a 1 0 + (cond b 1 0 + 0) ≡ cond c 1 0 + 0
halves p k a b c l r h = by a b c l r h (div-add-mod' k 2) (mod-lt k (le_two))
  where
    le_two : 0 < 2
    le_two = omega arith

    by : (a b c : Bool) → (2 * p + 1 == suc k) ≡ a → (2 * p + 2 == suc k) ≡ b → (k / 2 == p) ≡ c
        → k / 2 * 2 + k % 2 ≡ k → k % 2 < 2 → cond a 1 0 + (cond b 1 0 + 0) ≡ cond c 1 0 + 0
    by true true c l r h d m = absurd (omega (arith, eqb-true _ _ l, eqb-true _ _ r))
    by true false true l r h d m = refl
    by true false false l r h d m = absurd (omega (arith, eqb-true _ _ l, eqb-false _ _ h, d, m))
    by false true true l r h d m = refl
    by false true false l r h d m = absurd (omega (arith, eqb-true _ _ r, eqb-false _ _ h, d, m))
    by false false true l r h d m = absurd
        (omega (arith, eqb-false _ _ l, eqb-false _ _ r, eqb-true _ _ h, d, m))
    by false false false l r h d m = refl

pub tree_family : (code : Tables) (p q : ℕ) → p < processors code → q < processors code
    → times q (tree code p).children ≡ times p (parents (tree code q).parent)
tree_family code p q a b =
    times-filter (λ r. nat_lt r (processors code)) q ((2 * p + 1) ∷ (2 * p + 2) ∷ [])
    ∙ (ap (λ t. cond t (times q ((2 * p + 1) ∷ (2 * p + 2) ∷ [])) 0) (lt-ltb q (processors code) b)
    ∙ (times-cons q (2 * p + 1) ((2 * p + 2) ∷ [])
    ∙ (ap (λ n. cond (2 * p + 1 == q) 1 0 + n) (times-cons q (2 * p + 2) []) ∙ by q)))
  where
    by : (k : ℕ) → cond (2 * p + 1 == k) 1 0 + (cond (2 * p + 2 == k) 1 0 + 0)
        ≡ times p (parents (parent_of k))
    by zero = ap₂ (λ x y. cond x 1 0 + (cond y 1 0 + 0))
        (ne_eqb (2 * p + 1) 0 (λ e. omega (arith, e)))
        (ne_eqb (2 * p + 2) 0 (λ e. omega (arith, e)))
    by (suc k) = halves p k _ _ _ refl refl refl ∙ sym (times-cons p (k / 2) [])

pair_all : (P : ℕ → Type 0) (test : ℕ → Bool) (a b : ℕ) → (test a ≡ true → P a)
    → (test b ≡ true → P b) → All P (filter test (a ∷ b ∷ []))
pair_all P test a b first second = by (test a) (test b) first second
  where
    by : (s t : Bool) → (s ≡ true → P a) → (t ≡ true → P b)
        → All P (cond s (a ∷ cond t (b ∷ []) []) (cond t (b ∷ []) []))
    by true true f g = All-cons P a (b ∷ []) (f refl) (All-cons P b [] (g refl) (All-nil P))
    by true false f g = All-cons P a [] (f refl) (All-nil P)
    by false true f g = All-cons P b [] (g refl) (All-nil P)
    by false false f g = All-nil P

pub halves_tree : (code : Tables) → IsTree (processors code) (tree_of (tree code))
halves_tree code =
    record { family = family; children = children; parent = parent; root = root }
  where
    family : (p c : ℕ) → p < processors code → c < processors code
        → times c (tree code p).children ≡ times p (parents (tree code c).parent)
    family p c a b = tree_family code p c a b

    children : (p : ℕ) → p < processors code
        → All (λ c. (p < c) × (c < processors code)) (tree code p).children
    children p below =
        pair_all (λ c. (p < c) × (c < processors code)) (λ q. nat_lt q (processors code))
        (2 * p + 1) (2 * p + 2)
        (λ e. (omega arith, ltb-true (2 * p + 1) (processors code) e))
        (λ e. (omega arith, ltb-true (2 * p + 2) (processors code) e))

    parent : (c p : ℕ) → c < processors code → (tree code c).parent ≡ Some p → p < c
    parent zero p below e = cc
    parent (suc c) p below e =
        let same : c / 2 ≡ p = cc in let less = div-le_self c 2 in omega (arith, same, less)

    root : (p : ℕ) → p < processors code → (tree code p).parent ≡ None → p ≡ 0
    root zero below e = refl
    root (suc p) below e = cc

star_tree : (code : Tables) → IsTree (processors code) (tree_of (star code))
star_tree code =
    record { family = family; children = children; parent = parent; root = root }
  where
    family : (p c : ℕ) → p < processors code → c < processors code
        → times c (star code p).children ≡ times p (parents (star code c).parent)
    family p c a b = star_family code p c a b

    children : (p : ℕ) → p < processors code
        → All (λ c. (p < c) × (c < processors code)) (star code p).children
    children zero below =
        between 1 (processors code - 1) (processors code) (omega arith)
        (λ some. omega (arith, some))
    children (suc p) below = All-nil (λ c. (suc p < c) × (c < processors code))

    parent : (c p : ℕ) → c < processors code → (star code c).parent ≡ Some p → p < c
    parent zero p below e = cc
    parent (suc c) p below e = let same : 0 ≡ p = cc in omega (arith, same)

    root : (p : ℕ) → p < processors code → (star code p).parent ≡ None → p ≡ 0
    root zero below e = refl
    root (suc p) below e = cc

pub are_trees : (code : Tables) (links : Option ℕ) → AreTrees code links
are_trees code links = record {
  stars = subst (λ n. IsTree n (tree_of (star code))) (sym (processor_count code links))
      (star_tree code);
  halves = subst (λ n. IsTree n (tree_of (tree code))) (sym (processor_count code links))
      (halves_tree code);
}
