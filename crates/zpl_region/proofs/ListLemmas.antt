-- Lemmas on lists: membership by recursion, lists in which each element stands in a relation to all later ones,
-- and what `find`, `filter` and `slice_get` give of joined and mapped lists.
use Rattle.std.proofs.Common.{◌≡◌, ℕ, zero, suc, ◌+◌, ◌<◌, Bool, true, false, cond, Some, None, List, [], ◌∷◌, ◌++◌, map, length, ℤ, ◌≤ℤ◌, ◌<ℤ◌, ◌⊎◌, inl, inr, refl, sym, ◌∙◌, ap, subst, arith, AllPairs, All, Contains, Decides, slice_get}
use Rattle.std.specs.List.{filter, find}
use Rattle.std.specs.Option.{option_map}
use Rattle.std.specs.Int.RustNames.{int_le, int_lt}
use Rattle.std.specs.Ordering.{int_eq}
use Rattle.std.proofs.lemmas.Bool.Decides.{Decides-int_eq}
use Rattle.std.proofs.lemmas.Int.{ints, by_lt_z}
use Rattle.std.proofs.lemmas.List.Elements.{All-nil, All-cons}
use Rattle.std.proofs.lemmas.List.Kept.{AllPairs-cons}

-- ---- comparisons
pub int_lt-true : (x y : ℤ) → x <ℤ y → int_lt x y ≡ true
int_lt-true x y h = grind (arith, ints)

pub int_lt-false : (x y : ℤ) → y ≤ℤ x → int_lt x y ≡ false
int_lt-false x y h = grind (arith, ints)

pub le_from_test : (a b : ℤ) → int_le a b ≡ true → a ≤ℤ b
le_from_test a b e = grind (arith, ints)

pub test_from_le : (a b : ℤ) → a ≤ℤ b → int_le a b ≡ true
test_from_le a b h = grind (arith, ints)

pub no_test : {P : Type 0} → (b : Bool) → Decides b P → (P → ⊥) → b ≡ false
no_test true d n = absurd (n (d.0 refl))
no_test false d n = refl

pub int_eq-true : (x : ℤ) → int_eq x x ≡ true
int_eq-true x = (Decides-int_eq x x).1 refl

pub int_eq-false : (x y : ℤ) → (x ≡ y → ⊥) → int_eq x y ≡ false
int_eq-false x y other = no_test (int_eq x y) (Decides-int_eq x y) other

pub cases_order_z : (x y : ℤ) → (x <ℤ y) ⊎ ((x ≡ y) ⊎ (y <ℤ x))
cases_order_z x y = by_lt_z x y (λ l. inl l) (λ ge. by_lt_z y x (λ l. inr (inr l)) (λ le. inr (inl (omega (arith, ints)))))

-- ---- x is among the elements
abbrev pub Among : {X : Type 0} → List X → X → Type 0
Among [] x = ⊥
Among (y ∷ ys) x = (y ≡ x) ⊎ Among ys x

pub among_from_Contains : {X : Type 0} (xs : List X) (x : X) → Contains xs x → Among xs x
among_from_Contains [] x (k, below, is) = omega arith
among_from_Contains (y ∷ ys) x (zero, below, is) = inl is
among_from_Contains (y ∷ ys) x (suc k, below, is) = inr (among_from_Contains ys x (k, omega arith, is))

pub Contains-from_among : {X : Type 0} (xs : List X) (x : X) → Among xs x → Contains xs x
Contains-from_among [] x h = absurd h
Contains-from_among (y ∷ ys) x (inl e) = (zero, omega arith, e)
Contains-from_among (y ∷ ys) x (inr h) = let c = Contains-from_among ys x h in (suc c.0, omega (arith, c.1), c.2)

pub Among-filter : {X : Type 0} (p : X → Bool) (xs : List X) (x : X) → Among xs x → p x ≡ true → Among (filter p xs) x
Among-filter p [] x h e = h
Among-filter p (y ∷ ys) x (inl is) e = first (p y) (ap p is ∙ e)
  where
    first : (t : Bool) → t ≡ true → Among (cond t (y ∷ filter p ys) (filter p ys)) x
    first true q = inl is
    first false q = absurd (let both : true ≡ false = sym q in cc)
Among-filter p (y ∷ ys) x (inr later) e = rest (p y) (Among-filter p ys x later e)
  where
    rest : (t : Bool) → Among (filter p ys) x → Among (cond t (y ∷ filter p ys) (filter p ys)) x
    rest true m = inr m
    rest false m = m

pub among_filtered : {X : Type 0} (p : X → Bool) (xs : List X) (x : X) → Among (filter p xs) x → Among xs x × (p x ≡ true)
among_filtered p [] x h = absurd h
among_filtered p (y ∷ ys) x h = by_test (p y) refl (among_filtered p ys x) h
  where
    by_test : (t : Bool) → p y ≡ t → (Among (filter p ys) x → Among ys x × (p x ≡ true)) → Among (cond t (y ∷ filter p ys) (filter p ys)) x → ((y ≡ x) ⊎ Among ys x) × (p x ≡ true)
    by_test true q further (inl is) = (inl is, ap p (sym is) ∙ q)
    by_test true q further (inr later) = let m = further later in (inr m.0, m.1)
    by_test false q further later = let m = further later in (inr m.0, m.1)

pub Among-append_left : {X : Type 0} (xs ys : List X) (x : X) → Among xs x → Among (xs ++ ys) x
Among-append_left [] ys x h = absurd h
Among-append_left (y ∷ xs) ys x (inl e) = inl e
Among-append_left (y ∷ xs) ys x (inr h) = inr (Among-append_left xs ys x h)

pub Among-append_right : {X : Type 0} (xs ys : List X) (x : X) → Among ys x → Among (xs ++ ys) x
Among-append_right [] ys x h = h
Among-append_right (y ∷ xs) ys x h = inr (Among-append_right xs ys x h)

pub among_appended : {X : Type 0} (xs ys : List X) (x : X) → Among (xs ++ ys) x → Among xs x ⊎ Among ys x
among_appended [] ys x h = inr h
among_appended (y ∷ xs) ys x (inl e) = inl (inl e)
among_appended (y ∷ xs) ys x (inr h) = elim (among_appended xs ys x h) [ inl l ↦ inl (inr l) | inr r ↦ inr r ]

pub Among-map : {X Y : Type 0} (f : X → Y) (xs : List X) (x : X) → Among xs x → Among (map f xs) (f x)
Among-map f [] x h = absurd h
Among-map f (y ∷ ys) x (inl e) = inl (ap f e)
Among-map f (y ∷ ys) x (inr h) = inr (Among-map f ys x h)

pub among_mapped : {X Y : Type 0} (f : X → Y) (xs : List X) (y : Y) → Among (map f xs) y → (x : X) × (f x ≡ y) × Among xs x
among_mapped f [] y h = absurd h
among_mapped f (x ∷ xs) y (inl e) = (x, e, inl refl)
among_mapped f (x ∷ xs) y (inr h) = let m = among_mapped f xs y h in (m.0, m.1, inr m.2)

-- ---- each element stands in R to all later ones
abbrev pub Rises : {X : Type 0} → (X → X → Type 0) → List X → Type 0
Rises R [] = Unit {0}
Rises {X} R (x ∷ xs) = ((y : X) → Among xs y → R x y) × Rises R xs

pub all_from_among : {X : Type 0} (P : X → Type 0) (xs : List X) → ((x : X) → Among xs x → P x) → All P xs
all_from_among P [] h = All-nil P
all_from_among P (x ∷ xs) h = All-cons P x xs (h x (inl refl)) (all_from_among P xs (λ y m. h y (inr m)))

pub AllPairs-from_rises : {X : Type 0} (R : X → X → Type 0) (xs : List X) → Rises R xs → AllPairs R xs
AllPairs-from_rises R [] h = λ i j d l m. absurd (omega arith)
AllPairs-from_rises R (x ∷ xs) h = AllPairs-cons R x xs (all_from_among (R x) xs h.0) (AllPairs-from_rises R xs h.1)

pub Rises-append : {X : Type 0} (R : X → X → Type 0) (xs ys : List X) → Rises R xs → Rises R ys → ((x y : X) → Among xs x → Among ys y → R x y) → Rises R (xs ++ ys)
Rises-append R [] ys h k across = k
Rises-append R (x ∷ xs) ys h k across =
    ((λ y m. elim (among_appended xs ys y m) [ inl l ↦ h.0 y l | inr r ↦ across x y (inl refl) r ]), Rises-append R xs ys h.1 k (λ a b l r. across a b (inr l) r))

pub Rises-map : {X Y : Type 0} (R : X → X → Type 0) (S : Y → Y → Type 0) (f : X → Y) (xs : List X) → ((x y : X) → R x y → S (f x) (f y)) → Rises R xs → Rises S (map f xs)
Rises-map R S f [] keeps h = tt
Rises-map {X} {Y} R S f (x ∷ xs) keeps h =
    ((λ y m. let w = among_mapped f xs y m in subst (S (f x)) w.1 (keeps x w.0 (h.0 w.0 w.2))), Rises-map R S f xs keeps h.1)

pub Rises-filter : {X : Type 0} (R : X → X → Type 0) (p : X → Bool) (xs : List X) → Rises R xs → Rises R (filter p xs)
Rises-filter R p [] h = tt
Rises-filter {X} R p (x ∷ xs) h = by_test (p x) (Rises-filter R p xs h.1)
  where
    by_test : (t : Bool) → Rises R (filter p xs) → Rises R (cond t (x ∷ filter p xs) (filter p xs))
    by_test true further = ((λ y m. h.0 y (among_filtered p xs y m).0), further)
    by_test false further = further

pub cons_same : {X : Type 0} {a b : X} {ks ls : List X} → a ≡ b → ks ≡ ls → a ∷ ks ≡ b ∷ ls
cons_same p q = cc

-- two ascending lists with the same elements are one list
pub same_ascending : (xs ys : List ℤ) → Rises ◌<ℤ◌ xs → Rises ◌<ℤ◌ ys → ((x : ℤ) → Among xs x → Among ys x) → ((x : ℤ) → Among ys x → Among xs x) → xs ≡ ys
same_ascending [] [] f g there back = refl
same_ascending [] (y ∷ ys) f g there back = absurd (back y (inl refl))
same_ascending (x ∷ xs) [] f g there back = absurd (there x (inl refl))
same_ascending (x ∷ xs) (y ∷ ys) f g there back =
    cons_same same (same_ascending xs ys f.1 g.1 (λ z m. past x z y ys (f.0 z m) (there z (inr m)) same) (λ z m. past y z x xs (g.0 z m) (back z (inr m)) (sym same)))
  where
    at_least : (a b : ℤ) (bs : List ℤ) → ((c : ℤ) → Among bs c → b <ℤ c) → (b ≡ a) ⊎ Among bs a → b ≤ℤ a
    at_least a b bs rise (inl e) = omega (arith, ints)
    at_least a b bs rise (inr m) = omega (arith, ints, rise a m)

    same : x ≡ y
    same = omega (arith, ints, at_least x y ys g.0 (there x (inl refl)), at_least y x xs f.0 (back y (inl refl)))

    past : (a z b : ℤ) (bs : List ℤ) → a <ℤ z → (b ≡ z) ⊎ Among bs z → a ≡ b → Among bs z
    past a z b bs l (inl e) is = absurd (omega (arith, ints))
    past a z b bs l (inr m) is = m

-- ---- filter, find and slice_get
pub filter-map : {X Y : Type 0} (p : Y → Bool) (f : X → Y) (xs : List X) → filter p (map f xs) ≡ map f (filter (λ x. p (f x)) xs)
filter-map p f [] = refl
filter-map p f (x ∷ xs) = by_test (p (f x)) (filter-map p f xs)
  where
    by_test : (t : Bool) → filter p (map f xs) ≡ map f (filter (λ y. p (f y)) xs)
        → cond t (f x ∷ filter p (map f xs)) (filter p (map f xs)) ≡ map f (cond t (x ∷ filter (λ y. p (f y)) xs) (filter (λ y. p (f y)) xs))
    by_test true further = ap (λ ys. f x ∷ ys) further
    by_test false further = further

pub find-map : {X Y : Type 0} (p : Y → Bool) (f : X → Y) (xs : List X) → find p (map f xs) ≡ option_map f (find (λ x. p (f x)) xs)
find-map p f [] = refl
find-map p f (x ∷ xs) = by_test (p (f x)) (find-map p f xs)
  where
    by_test : (t : Bool) → find p (map f xs) ≡ option_map f (find (λ y. p (f y)) xs)
        → cond t (Some (f x)) (find p (map f xs)) ≡ option_map f (cond t (Some x) (find (λ y. p (f y)) xs))
    by_test true further = refl
    by_test false further = further

pub find-all_pass : {X : Type 0} (p : X → Bool) (xs : List X) → ((x : X) → p x ≡ true) → find p xs ≡ slice_get xs 0
find-all_pass p [] all = refl
find-all_pass p (x ∷ xs) all = rw (all x) refl

pub find-none_pass : {X : Type 0} (p : X → Bool) (xs : List X) → ((x : X) → p x ≡ false) → find p xs ≡ None
find-none_pass p [] none = refl
find-none_pass p (x ∷ xs) none = rw (none x) (find-none_pass p xs none)

pub find_agree : {X : Type 0} (p q : X → Bool) (xs : List X) → ((x : X) → p x ≡ q x) → find p xs ≡ find q xs
find_agree p q [] same = refl
find_agree p q (x ∷ xs) same = rw (same x) (ap (cond (q x) (Some x)) (find_agree p q xs same))

pub slice_get-append_left : {X : Type 0} (xs ys : List X) (i : ℕ) → i < length xs → slice_get (xs ++ ys) i ≡ slice_get xs i
slice_get-append_left [] ys i h = absurd (omega arith)
slice_get-append_left (x ∷ xs) ys zero h = refl
slice_get-append_left (x ∷ xs) ys (suc i) h = slice_get-append_left xs ys i (omega arith)

pub slice_get-append_right : {X : Type 0} (xs ys : List X) (i : ℕ) → slice_get (xs ++ ys) (length xs + i) ≡ slice_get ys i
slice_get-append_right [] ys i = let none : 0 + i ≡ i = omega arith in ap (slice_get ys) none
slice_get-append_right (x ∷ xs) ys i =
    let one : suc (length xs) + i ≡ suc (length xs + i) = omega arith in
    ap (slice_get (x ∷ (xs ++ ys))) one ∙ slice_get-append_right xs ys i
