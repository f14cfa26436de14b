-- Lists of outcomes.
use Rattle.std.proofs.Common.{◌≡◌, zero, List, [], ◌∷◌, ◌++◌, map, Contains, refl, sym, ◌∙◌, ap, arith}
use Rattle.zpl_binding.specs.Outcome.{Outcome, Gives, Fails, failures}

-- a list without members
pub no_member : {X : Type 0} (xs : List X) → ((x : X) → ¬ Contains xs x) → xs ≡ []
no_member [] h = refl
no_member (x ∷ xs) h = absurd (h x (zero, omega arith, refl))

pub empty-left : {X : Type 0} (xs ys : List X) → xs ++ ys ≡ [] → xs ≡ []
empty-left [] ys h = refl
empty-left (x ∷ xs) ys h = cc

pub empty-right : {X : Type 0} (xs ys : List X) → xs ++ ys ≡ [] → ys ≡ []
empty-right [] ys h = h
empty-right (x ∷ xs) ys h = cc

-- the values of outcomes, where all have one
abbrev pub gains : {A : Type 0} → List (Outcome A) → List A
gains [] = []
gains (Gives value ∷ rest) = value ∷ gains rest
gains (Fails fault ∷ rest) = gains rest

pub all-give : {A : Type 0} (xs : List (Outcome A)) → failures xs ≡ [] → xs ≡ map Gives (gains xs)
all-give [] h = refl
all-give (Gives value ∷ rest) h = ap (λ more. Gives value ∷ more) (all-give rest h)
all-give (Fails fault ∷ rest) h = cc

pub gains-are : {A : Type 0} (ys : List A) → gains (map Gives ys) ≡ ys
gains-are [] = refl
gains-are (y ∷ ys) = ap (λ more. y ∷ more) (gains-are ys)

-- what is given is given in one way
pub same-given : {A : Type 0} (xs : List (Outcome A)) (ys zs : List A) → xs ≡ map Gives ys →
    xs ≡ map Gives zs → ys ≡ zs
same-given xs ys zs one other =
    sym (gains-are ys) ∙ ap gains (sym one ∙ other) ∙ gains-are zs

none-fail : {A : Type 0} (ys : List A) → failures (map Gives ys) ≡ []
none-fail [] = refl
none-fail (y ∷ ys) = none-fail ys

pub given-none : {A : Type 0} (xs : List (Outcome A)) (ys : List A) → xs ≡ map Gives ys →
    failures xs ≡ []
given-none xs ys is = ap failures is ∙ none-fail ys

cons-nil : {X : Type 0} (y : X) (xs : List X) → y ∷ xs ≡ [] → ⊥
cons-nil y xs e = cc

pub no-contains : {X : Type 0} (xs : List X) (x : X) → xs ≡ [] → ¬ Contains xs x
no-contains [] x is (k, below, at) = omega arith
no-contains (y ∷ xs) x is there = cons-nil y xs is
