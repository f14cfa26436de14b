-- The value of words goes by what each of them reads.
use Rattle.std.proofs.Common.{◌≡◌, refl, ◌∙◌, ap, subst, ℕ, zero, suc, ◌-◌, List, [], ◌∷◌}
use Rattle.std.proofs.Common.{◌++◌, Some, ℤ}
use Rattle.std.specs.Prelude.{slice_get, flat_map, ⊤}
use Rattle.nest_meaning.specs.of_row_runs.Straight.{Every}
use Rattle.grid_meaning.specs.of_node_form.declared.words.ExprOp.{ExprOp}
use Rattle.grid_meaning.specs.of_node_form.declared.words.ExprOp.TheVariants.{Const, Scalar, Here, Shifted, Cell}
use Rattle.grid_meaning.specs.of_node_form.declared.words.ExprOp.TheVariants.{Coord, Pair, Neg, Not, Abs}
use Rattle.grid_meaning.specs.of_node_form.Value.{Computed, Gives, Divides, Lacks, Operands, and_then, evaluated}
use Rattle.grid_meaning.specs.of_node_form.Value.{only_value, pushed, read, stepped, unmoved, value_of}

abbrev pub ReadsSame : Operands → Operands → ExprOp → Type 0
ReadsSame o u (Scalar scalar) = slice_get o.scalars scalar ≡ slice_get u.scalars scalar
ReadsSame o u (Here array) = o.element array unmoved ≡ u.element array unmoved
ReadsSame o u (Shifted array shift) = o.element array shift ≡ u.element array shift
ReadsSame o u (Cell cell) = slice_get o.cells cell ≡ slice_get u.cells cell
ReadsSame o u (Coord dimension) =
    slice_get o.index (dimension - 1) ≡ slice_get u.index (dimension - 1)
ReadsSame o u (Const value) = ⊤
ReadsSame o u (Pair op) = ⊤
ReadsSame o u Neg = ⊤
ReadsSame o u Not = ⊤
ReadsSame o u Abs = ⊤

module _ (o u : Operands) where
  stepped_same : (word : ExprOp) (stack : List ℤ) → ReadsSame o u word → stepped o word stack
      ≡ stepped u word stack
  stepped_same (Const value) stack same = refl
  stepped_same (Scalar scalar) stack same = ap (λ v. pushed stack (read v)) same
  stepped_same (Here array) stack same = ap (λ v. pushed stack (read v)) same
  stepped_same (Shifted array shift) stack same = ap (λ v. pushed stack (read v)) same
  stepped_same (Cell cell) stack same = ap (λ v. pushed stack (read v)) same
  stepped_same (Coord dimension) stack same = ap (λ v. pushed stack (read v)) same
  stepped_same (Pair op) [] same = refl
  stepped_same (Pair op) (right ∷ []) same = refl
  stepped_same (Pair op) (right ∷ (left ∷ stack)) same = refl
  stepped_same Neg [] same = refl
  stepped_same Neg (value ∷ stack) same = refl
  stepped_same Not [] same = refl
  stepped_same Not (value ∷ stack) same = refl
  stepped_same Abs [] same = refl
  stepped_same Abs (value ∷ stack) same = refl

  then_same : (s : Computed (List ℤ)) (f g : List ℤ → Computed (List ℤ))
      → ((stack : List ℤ) → f stack ≡ g stack) → and_then f s ≡ and_then g s
  then_same (Gives stack) f g more = more stack
  then_same Divides f g more = refl
  then_same Lacks f g more = refl

  evaluated_same : (words : List ExprOp) (stack : List ℤ) → Every (ReadsSame o u) words
      → evaluated o words stack ≡ evaluated u words stack
  evaluated_same [] stack same = refl
  evaluated_same (word ∷ words) stack same =
      ap (λ s. and_then (evaluated o words) s) (stepped_same word stack same.0)
      ∙ then_same (stepped u word stack) (evaluated o words) (evaluated u words)
      (λ stack. evaluated_same words stack same.1)

  pub value_same : (words : List ExprOp) → Every (ReadsSame o u) words → value_of o words
      ≡ value_of u words
  value_same words same = ap (and_then only_value) (evaluated_same words [] same)

-- ---- of each element
pub every_more : {X : Type 0} {P Q : X → Type 0} → ((x : X) → P x → Q x) → (xs : List X)
    → Every P xs → Every Q xs
every_more more [] all = tt
every_more more (x ∷ xs) all = (more x all.0, every_more more xs all.1)

pub every_append : {X : Type 0} (P : X → Type 0) (xs ys : List X) → Every P xs → Every P ys
    → Every P (xs ++ ys)
every_append P [] ys here there = there
every_append P (x ∷ xs) ys here there = (here.0, every_append P xs ys here.1 there)

pub every_flat : {X Y : Type 0} (P : Y → Type 0) (f : X → List Y) (xs : List X)
    → Every (λ x. Every P (f x)) xs → Every P (flat_map f xs)
every_flat P f [] all = tt
every_flat P f (x ∷ xs) all = every_append P (f x) (flat_map f xs) all.0 (every_flat P f xs all.1)

pub every_at : {X : Type 0} (P : X → Type 0) (xs : List X) (k : ℕ) (x : X) → Every P xs
    → slice_get xs k ≡ Some x → P x
every_at P [] k x all e = cc
every_at P (y ∷ ys) zero x all e = let same : y ≡ x = cc in subst P same all.0
every_at P (y ∷ ys) (suc k) x all e = every_at P ys k x all.1 e
