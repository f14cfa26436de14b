-- Membership in lists.
use Rattle.std.proofs.Common.{zero, suc, List, [], ◌∷◌, map, Contains, refl, sym, ap, subst, arith, ◌⊎◌, inl, inr, ◌++◌, ◌≡◌}
use Rattle.std.specs.List.{flat_map}
use Rattle.std.proofs.lemmas.List.Elements.{Contains-append_left, Contains-append_right}

pub head-member : {X : Type 0} (x : X) (xs : List X) → Contains (x ∷ xs) x
head-member x xs = (zero, omega arith, refl)

pub tail-member : {X : Type 0} (x : X) (xs : List X) (y : X) → Contains xs y → Contains (x ∷ xs) y
tail-member x xs y c = (suc c.0, omega (arith, c.1), c.2)

pub map-member : {X Y : Type 0} (f : X → Y) (xs : List X) (x : X) → Contains xs x →
    Contains (map f xs) (f x)
map-member f [] x (k, below, is) = absurd (omega arith)
map-member f (y ∷ ys) x (zero, below, is) = (zero, omega arith, ap f is)
map-member f (y ∷ ys) x (suc k, below, is) =
    tail-member (f y) (map f ys) (f x) (map-member f ys x (k, omega arith, is))

pub flat-member : {X Y : Type 0} (f : X → List Y) (xs : List X) (x : X) (y : Y) → Contains xs x →
    Contains (f x) y → Contains (flat_map f xs) y
flat-member f [] x y (k, below, is) h = absurd (omega arith)
flat-member f (z ∷ zs) x y (zero, below, is) h =
    Contains-append_left (f z) (flat_map f zs) y (subst (λ w. Contains (f w) y) (sym is) h)
flat-member f (z ∷ zs) x y (suc k, below, is) h =
    Contains-append_right (f z) (flat_map f zs) y
    (flat-member f zs x y (k, omega arith, is) h)

-- ---- x is among the elements

abbrev pub Among : {X : Type 0} → List X → X → Type 0
Among [] x = ⊥
Among (y ∷ ys) x = (y ≡ x) ⊎ Among ys x

pub among_from_Contains : {X : Type 0} (xs : List X) (x : X) → Contains xs x → Among xs x
among_from_Contains [] x (k, below, is) = omega arith
among_from_Contains (y ∷ ys) x (zero, below, is) = inl is
among_from_Contains (y ∷ ys) x (suc k, below, is) =
    inr (among_from_Contains ys x (k, omega arith, is))

pub Contains-from_among : {X : Type 0} (xs : List X) (x : X) → Among xs x → Contains xs x
Contains-from_among [] x h = absurd h
Contains-from_among (y ∷ ys) x (inl e) = (zero, omega arith, e)
Contains-from_among (y ∷ ys) x (inr h) =
    let c = Contains-from_among ys x h in (suc c.0, omega (arith, c.1), c.2)

pub among-append : {X : Type 0} (xs ys : List X) (x : X) → Among (xs ++ ys) x →
    Among xs x ⊎ Among ys x
among-append [] ys x m = inr m
among-append (y ∷ xs) ys x (inl e) = inl (inl e)
among-append (y ∷ xs) ys x (inr m) = by (among-append xs ys x m)
  where
    by : Among xs x ⊎ Among ys x → Among (y ∷ xs) x ⊎ Among ys x
    by (inl a) = inl (inr a)
    by (inr b) = inr b

pub among-left : {X : Type 0} (xs ys : List X) (x : X) → Among xs x → Among (xs ++ ys) x
among-left [] ys x m = absurd m
among-left (y ∷ xs) ys x (inl e) = inl e
among-left (y ∷ xs) ys x (inr m) = inr (among-left xs ys x m)

pub among-right : {X : Type 0} (xs ys : List X) (x : X) → Among ys x → Among (xs ++ ys) x
among-right [] ys x m = m
among-right (y ∷ xs) ys x m = inr (among-right xs ys x m)

pub among-map : {X Y : Type 0} (f : X → Y) (xs : List X) (y : Y) → Among (map f xs) y →
    (x : X) × Among xs x × (f x ≡ y)
among-map f [] y m = absurd m
among-map f (x ∷ xs) y (inl e) = (x, inl refl, e)
among-map f (x ∷ xs) y (inr m) = let r = among-map f xs y m in (r.0, inr r.1, r.2)

pub among-flat : {X Y : Type 0} (f : X → List Y) (xs : List X) (y : Y) →
    Among (flat_map f xs) y → (x : X) × Among xs x × Among (f x) y
among-flat f [] y m = absurd m
among-flat {X = X} f (x ∷ xs) y m =
    by (among-append (f x) (flat_map f xs) y m) (among-flat f xs y)
  where
    by : Among (f x) y ⊎ Among (flat_map f xs) y →
        (Among (flat_map f xs) y → (z : X) × Among xs z × Among (f z) y) →
        (z : X) × Among (x ∷ xs) z × Among (f z) y
    by (inl m) later = (x, inl refl, m)
    by (inr m) later = let r = later m in (r.0, inr r.1, r.2)

pub flat-among : {X Y : Type 0} (f : X → List Y) (xs : List X) (x : X) (y : Y) → Among xs x →
    Among (f x) y → Among (flat_map f xs) y
flat-among f [] x y m there = absurd m
flat-among f (z ∷ zs) x y (inl e) there =
    among-left (f z) (flat_map f zs) y (subst (λ w. Among (f w) y) (sym e) there)
flat-among f (z ∷ zs) x y (inr m) there =
    among-right (f z) (flat_map f zs) y (flat-among f zs x y m there)
