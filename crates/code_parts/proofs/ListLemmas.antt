-- Elements of lists, one after another.
use Rattle.std.proofs.Common.{◌≡◌, ◌⊎◌, inl, inr, ℕ, zero, suc, ◌<◌, Bool, true, false}
use Rattle.std.proofs.Common.{cond, refl, sym, ap, ◌∙◌, subst, arith, List, [], ◌∷◌, ◌++◌, length}
use Rattle.std.proofs.Common.{true≢false, Contains}
use Rattle.std.specs.Prelude.{◌||◌, filter, flat_map, map, slice_index_or, Any}
use Rattle.std.specs.List.{list_any}

-- ---- elements, one after another
abbrev pub In : {X : Type 0} → List X → X → Type 0
In [] x = ⊥
In (y ∷ ys) x = (y ≡ x) ⊎ In ys x

pub in_list : {X : Type 0} (ys : List X) (x : X) → Contains ys x → In ys x
in_list [] x c = absurd (omega (arith, c.1))
in_list (y ∷ ys) x c = at (in_list ys x) c.0 c.1 c.2
  where
    at : (Contains ys x → In ys x) → (k : ℕ) → k < length (y ∷ ys)
        → slice_index_or (y ∷ ys) k x ≡ x → In (y ∷ ys) x
    at later zero below is = inl is
    at later (suc k) below is = inr (later (k, (omega (arith, below)), is))

pub contained : {X : Type 0} (ys : List X) (x : X) → In ys x → Contains ys x
contained [] x h = absurd h
contained (y ∷ ys) x (inl is) = (0, omega arith, is)
contained (y ∷ ys) x (inr h) =
    let c = contained ys x h in
    (suc c.0, omega (arith, c.1), c.2)

-- ---- tests of lists
pub some_passes : {X : Type 0} (test : X → Bool) (xs : List X) (x : X) → In xs x → test x ≡ true
    → list_any test xs ≡ true
some_passes test [] x h passes = absurd h
some_passes test (y ∷ xs) x (inl is) passes =
    ap (λ b. b || list_any test xs) (ap test is ∙ passes)
some_passes test (y ∷ xs) x (inr h) passes =
    later (test y) (list_any test xs) (some_passes test xs x h passes)
  where
    later : (a b : Bool) → b ≡ true → (a || b) ≡ true
    later true b is = refl
    later false b is = is

pub record Passes {X : Type 0} (test : X → Bool) (xs : List X) : Type 0 where
  pub x : X
  pub there : In xs x
  pub passes : test x ≡ true

pub one_passes : {X : Type 0} (test : X → Bool) (xs : List X) → list_any test xs ≡ true
    → Passes test xs
one_passes test [] any = absurd (true≢false (sym any))
one_passes test (y ∷ xs) any = by (one_passes test xs) (test y) refl any
  where
    by : (list_any test xs ≡ true → Passes test xs) → (b : Bool) → test y ≡ b
        → (b || list_any test xs) ≡ true → Passes test (y ∷ xs)
    by later true is any = record { x = y; there = inl refl; passes = is }
    by later false is any =
        let p = later any in
        record { x = p.x; there = inr p.there; passes = p.passes }

pub filtered : {X : Type 0} (test : X → Bool) (xs : List X) (x : X) → In xs x → test x ≡ true
    → In (filter test xs) x
filtered test [] x h passes = absurd h
filtered test (y ∷ xs) x (inl is) passes =
    subst (λ b. In (cond b (y ∷ filter test xs) (filter test xs)) x)
    (sym (ap test is ∙ passes)) (inl is)
filtered test (y ∷ xs) x (inr h) passes = by (filtered test xs x h passes) (test y)
  where
    by : In (filter test xs) x → (b : Bool)
        → In (cond b (y ∷ filter test xs) (filter test xs)) x
    by rest true = inr rest
    by rest false = rest

pub unfiltered : {X : Type 0} (test : X → Bool) (xs : List X) (x : X) → In (filter test xs) x
    → In xs x × (test x ≡ true)
unfiltered test [] x h = absurd h
unfiltered test (y ∷ xs) x h = by (unfiltered test xs x) (test y) refl h
  where
    by : (In (filter test xs) x → In xs x × (test x ≡ true)) → (b : Bool) → test y ≡ b
        → In (cond b (y ∷ filter test xs) (filter test xs)) x → In (y ∷ xs) x × (test x ≡ true)
    by later true passes (inl is) = (inl is, ap test (sym is) ∙ passes)
    by later true passes (inr h) = let rest = later h in (inr rest.0, rest.1)
    by later false passes h = let rest = later h in (inr rest.0, rest.1)

pub in_append : {X : Type 0} (xs ys : List X) (x : X) → In (xs ++ ys) x → In xs x ⊎ In ys x
in_append [] ys x h = inr h
in_append (z ∷ xs) ys x (inl is) = inl (inl is)
in_append (z ∷ xs) ys x (inr h) = from (in_append xs ys x h)
  where
    from : In xs x ⊎ In ys x → In (z ∷ xs) x ⊎ In ys x
    from (inl h) = inl (inr h)
    from (inr h) = inr h

pub in_front : {X : Type 0} (xs ys : List X) (x : X) → In xs x → In (xs ++ ys) x
in_front [] ys x h = absurd h
in_front (z ∷ xs) ys x (inl is) = inl is
in_front (z ∷ xs) ys x (inr h) = inr (in_front xs ys x h)

pub in_back : {X : Type 0} (xs ys : List X) (x : X) → In ys x → In (xs ++ ys) x
in_back [] ys x h = h
in_back (z ∷ xs) ys x h = inr (in_back xs ys x h)

-- ---- lists of lists
pub in_each : {X Y : Type 0} (f : X → List Y) (xs : List X) (x : X) (y : Y) → In xs x → In (f x) y
    → In (flat_map f xs) y
in_each f [] x y h there = absurd h
in_each f (z ∷ xs) x y (inl is) there =
    in_front (f z) (flat_map f xs) y (subst (λ x. In (f x) y) (sym is) there)
in_each f (z ∷ xs) x y (inr h) there =
    in_back (f z) (flat_map f xs) y (in_each f xs x y h there)

pub from_each : {X Y : Type 0} (f : X → List Y) (xs : List X) (y : Y) → In (flat_map f xs) y
    → (x : X) × In xs x × In (f x) y
from_each f [] y h = absurd h
from_each {X = X} f (z ∷ xs) y h = by (from_each f xs y) (in_append (f z) (flat_map f xs) y h)
  where
    by : (In (flat_map f xs) y → (x : X) × In xs x × In (f x) y)
        → In (f z) y ⊎ In (flat_map f xs) y → (x : X) × In (z ∷ xs) x × In (f x) y
    by later (inl there) = (z, inl refl, there)
    by later (inr h) = let rest = later h in (rest.0, inr rest.1, rest.2)

pub in_mapped : {X Y : Type 0} (f : X → Y) (xs : List X) (x : X) → In xs x → In (map f xs) (f x)
in_mapped f [] x h = absurd h
in_mapped f (z ∷ xs) x (inl is) = inl (ap f is)
in_mapped f (z ∷ xs) x (inr h) = inr (in_mapped f xs x h)

pub from_mapped : {X Y : Type 0} (f : X → Y) (xs : List X) (y : Y) → In (map f xs) y
    → (x : X) × In xs x × (f x ≡ y)
from_mapped f [] y h = absurd h
from_mapped f (z ∷ xs) y (inl is) = (z, inl refl, is)
from_mapped f (z ∷ xs) y (inr h) =
    let rest = from_mapped f xs y h in
    (rest.0, inr rest.1, rest.2)

-- of some element it holds
pub some_holds : {X : Type 0} (P : X → Type 0) (xs : List X) → Any P xs
    → (x : X) × In xs x × P x
some_holds P xs any = (any.1, in_list xs any.1 (any.0, any.2, any.3), any.4)

pub holds_somewhere : {X : Type 0} (P : X → Type 0) (xs : List X) (x : X) → In xs x → P x
    → Any P xs
holds_somewhere P xs x h holds = let c = contained xs x h in (c.0, x, c.1, c.2, holds)
