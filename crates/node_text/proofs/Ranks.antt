-- Numbers, ranks and lists of three.
use Rattle.std.proofs.Common.{◌≡◌, ℕ, zero, suc, ◌≤◌, Bool, true, List, [], ◌∷◌, take, drop, sym, ◌∙◌, ap, refl, arith}
use Rattle.std.specs.Prelude.{ℤ, pos, Option, Some, None, All, IsSomeAnd, unwrap_or, min, if◌then◌else◌}
use Rattle.std.specs.Option.{option_map}
use Rattle.std.proofs.Math.Nat.{min-eq_left}
use Rattle.std.proofs.lemmas.Bool.{lt-ltb}
use Rattle.std.proofs.lemmas.List.Elements.{All-head, All-tail}
use Rattle.zpl_nums.specs.Integer.{IsInteger}
use Rattle.node_form.specs.Fits.{IsRank}
use Rattle.listing_rules.specs.of_listing_lines.Field.{are_some}
use Rattle.listing_rules.specs.Found.{u32_of, vector_of}
use Rattle.node_text.specs.Typed.{IsU32, IsShift, HasThree}

-- ---- equations of several parts
pub by2 : {A B R : Type 0} (f : A → B → R) {a c : A} {b d : B} → a ≡ c → b ≡ d → f a b ≡ f c d
by2 f e g = cc

pub by3 : {A B C R : Type 0} (f : A → B → C → R) {a d : A} {b e : B} {c g : C} → a ≡ d → b ≡ e → c ≡ g → f a b c ≡ f d e g
by3 f p q r = cc

pub by4 : {A B C D R : Type 0} (f : A → B → C → D → R) {a e : A} {b g : B} {c h : C} {d i : D} → a ≡ e → b ≡ g → c ≡ h → d ≡ i → f a b c d ≡ f e g h i
by4 f p q r s = cc

pub by5 : {A B C D E R : Type 0} (f : A → B → C → D → E → R) {a g : A} {b h : B} {c i : C} {d j : D} {e k : E} →
    a ≡ g → b ≡ h → c ≡ i → d ≡ j → e ≡ k → f a b c d e ≡ f g h i j k
by5 f p q r s t = cc

pub by6 : {A B C D E F R : Type 0} (f : A → B → C → D → E → F → R) {a g : A} {b h : B} {c i : C} {d j : D} {e k : E} {m n : F} →
    a ≡ g → b ≡ h → c ≡ i → d ≡ j → e ≡ k → m ≡ n → f a b c d e m ≡ f g h i j k n
by6 f p q r s t u = cc

-- ---- numbers
pub kept : (n : ℕ) → IsU32 n → u32_of (pos n) ≡ n
kept n small = ap (λ (b : Bool). if b then n else 0) (lt-ltb n 4294967296 small)

pub small : (n : ℕ) → n ≤ 3 → min n 4 ≡ n
small n few = min-eq_left (omega arith)

pub kept_small : (n : ℕ) → n ≤ 3 → min (u32_of (pos n)) 4 ≡ n
kept_small n few = ap (λ (m : ℕ). min m 4) (kept n (omega arith)) ∙ small n few

pub integer : (n : ℕ) → IsU32 n → IsInteger (pos n)
integer n few = omega arith

-- ---- ranks
pub data Rank : ℕ → Type 0 where
  One : Rank 1
  Two : Rank 2
  Three : Rank 3

pub rank_is : (rank : ℕ) → IsRank rank → Rank rank
rank_is zero is = let low = is.0 in absurd (omega arith)
rank_is (suc zero) is = One
rank_is (suc (suc zero)) is = Two
rank_is (suc (suc (suc zero))) is = Three
rank_is (suc (suc (suc (suc n)))) is = let high = is.1 in absurd (omega arith)

-- the rank that is read at a number
pub read_rank : {X : Type 0} (f : X → ℕ) (o : Option X) (rank : ℕ) → IsSomeAnd o (λ x. f x ≡ rank) → unwrap_or (option_map f o) 0 ≡ rank
read_rank f None rank is = absurd is
read_rank f (Some x) rank is = is

-- ---- lists of three
pub data Of3 {X : Type 0} : List X → Type 0 where
  Of : (a b c : X) → Of3 (a ∷ b ∷ c ∷ [])

pub three_are : {X : Type 0} (xs : List X) → HasThree xs → Of3 xs
three_are [] n = absurd cc
three_are (a ∷ []) n = absurd (omega (arith, n))
three_are (a ∷ b ∷ []) n = absurd (omega (arith, n))
three_are (a ∷ b ∷ c ∷ []) n = Of a b c
three_are (a ∷ b ∷ c ∷ d ∷ xs) n = absurd (omega (arith, n))

-- ---- vectors
vector_short : (rank : ℕ) (shift : List ℤ) → Rank rank → Of3 shift → All (λ z. z ≡ pos 0) (drop rank shift) → vector_of (take rank shift) ≡ shift
vector_short rank shift One (Of a b c) zeros =
    let second : b ≡ pos 0 = All-head (λ (z : ℤ). z ≡ pos 0) b (c ∷ []) zeros in
    let third : c ≡ pos 0 = All-head (λ (z : ℤ). z ≡ pos 0) c [] (All-tail (λ (z : ℤ). z ≡ pos 0) b (c ∷ []) zeros) in
    by2 (λ (x y : ℤ). a ∷ x ∷ y ∷ []) (sym second) (sym third)
vector_short rank shift Two (Of a b c) zeros =
    let third : c ≡ pos 0 = All-head (λ (z : ℤ). z ≡ pos 0) c [] zeros in
    ap (λ (z : ℤ). a ∷ b ∷ z ∷ []) (sym third)
vector_short rank shift Three (Of a b c) zeros = refl

pub vector_kept : (r rank : ℕ) (shift : List ℤ) → r ≡ rank → Rank rank → IsShift shift → All (λ z. z ≡ pos 0) (drop rank shift) → vector_of (take r shift) ≡ shift
vector_kept r rank shift same is typed zeros =
    ap (λ (n : ℕ). vector_of (take n shift)) same ∙ vector_short rank shift is (three_are shift typed.0) zeros

shift_some : (rank : ℕ) (shift : List ℤ) → Rank rank → Of3 shift → are_some (take rank shift) ≡ true
shift_some rank shift One (Of a b c) = refl
shift_some rank shift Two (Of a b c) = refl
shift_some rank shift Three (Of a b c) = refl

pub some_kept : (r rank : ℕ) (shift : List ℤ) → r ≡ rank → Rank rank → IsShift shift → are_some (take r shift) ≡ true
some_kept r rank shift same is typed = ap (λ (n : ℕ). are_some (take n shift)) same ∙ shift_some rank shift is (three_are shift typed.0)
