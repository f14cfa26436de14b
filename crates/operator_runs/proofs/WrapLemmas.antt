-- What the borders of a copy cover: where the home box is read with the copy's shift, a tuple is in
-- the home box, or in one of the borders that are wrapped.
use Rattle.std.proofs.Common.{◌≡◌, refl, sym, ◌∙◌, ap, subst, arith, ℕ, zero, suc, Bool, true, false}
use Rattle.std.proofs.Common.{List, [], ◌∷◌, ◌++◌, length, drop, ℤ, pos, ◌+ℤ◌, ◌-ℤ◌, ◌≤ℤ◌, ◌<ℤ◌, All, ◌⊎◌, inl, inr}
use Rattle.std.specs.Prelude.{flat_map, int_lt, not}
use Rattle.std.specs.List.{AllZip}
use Rattle.std.specs.Ordering.{int_eq}
use Rattle.std.proofs.lemmas.Int.{ints}
use Rattle.std.proofs.lemmas.Bool.Decides.{Decides-int_eq}
use Rattle.std.proofs.lemmas.List.Elements.{All-head, All-tail}
use Rattle.zpl_nums.specs.Integer.{is_true}
use Rattle.zpl_region.specs.declared.dims.Dim.{Dim}
use Rattle.zpl_region.specs.declared.dims.Dim.TheVariants.{Flood, Range}
use Rattle.zpl_region.specs.declared.regions.Region.{Region}
use Rattle.zpl_region.specs.Dim.{IsCoordinate, coordinate_moved, dim_outside_of}
use Rattle.zpl_region.specs.Hull.{IsBoxed}
use Rattle.zpl_region.specs.Region.{IsMember, components, each, each_coordinate_moved, outside_of, tuple_moved}
use Rattle.zpl_region.proofs.ListLemmas.{Among, int_lt-false, int_lt-true}
use Rattle.std.proofs.lemmas.Bool.{and_from, and_parts}
use Rattle.zpl_arrays.specs.Around.{zeros}
use Rattle.zpl_arrays.specs.Border.{border_conforms, dim_border_conforms, each_border_conforms}
use Rattle.zpl_arrays.proofs.SourceLemmas.{by_sign, unit_step}
use Rattle.print_runs.specs.of_zpl_lowering.Hoist.{border_vectors, choices, kept_or_not}

-- ---- one dimension

-- a component is kept, or it is 0
abbrev pub IsKeptOrNot : ℤ → ℤ → Type 0
IsKeptOrNot d c = (c ≡ pos 0) ⊎ (c ≡ d)

pub record IsChosen (d : ℤ) (dim : Dim) (x : ℤ) : Type 0 where
  pub part : ℤ
  pub kept : IsKeptOrNot d part
  pub is : IsCoordinate (dim_outside_of part dim) (coordinate_moved d dim x)

module _ (lo hi step align d x : ℤ) (b : IsBoxed (Range lo hi step align))
    (m : IsCoordinate (Range lo hi step align) x) where
  inside : lo ≤ℤ (x +ℤ d) → (x +ℤ d) ≤ℤ hi → IsChosen d (Range lo hi step align) x
  inside low high = record {
    part = pos 0;
    kept = inl refl;
    is = (low, high, unit_step (x +ℤ d) align step b.0);
  }

  above : pos 0 <ℤ d → hi <ℤ (x +ℤ d) → IsChosen d (Range lo hi step align) x
  above up past = record { part = d; kept = inr refl; is = placed }
    where
      positive : int_lt (pos 0) d ≡ true
      positive = int_lt-true (pos 0) d up

      placed : IsCoordinate (dim_outside_of d (Range lo hi step align)) (x +ℤ d)
      placed = rw positive (
        omega (arith, ints, past),
        omega (arith, ints, m.1),
        unit_step (x +ℤ d) align step b.0,
      )

  below : d <ℤ pos 0 → (x +ℤ d) <ℤ lo → IsChosen d (Range lo hi step align) x
  below down past = record { part = d; kept = inr refl; is = placed }
    where
      off : int_lt (pos 0) d ≡ false
      off = int_lt-false (pos 0) d (omega (arith, ints, down))

      negative : int_lt d (pos 0) ≡ true
      negative = int_lt-true d (pos 0) down

      placed : IsCoordinate (dim_outside_of d (Range lo hi step align)) (x +ℤ d)
      placed = rw (off, negative) (
        omega (arith, ints, m.0),
        omega (arith, ints, past),
        unit_step (x +ℤ d) align step b.0,
      )

  chosen_range : IsChosen d (Range lo hi step align) x
  chosen_range = by (by_sign d)
    where
      by_high : (up : pos 0 <ℤ d) → (((x +ℤ d) -ℤ hi) ≡ pos 0)
          ⊎ ((pos 0 <ℤ ((x +ℤ d) -ℤ hi)) ⊎ (((x +ℤ d) -ℤ hi) <ℤ pos 0))
          → IsChosen d (Range lo hi step align) x
      by_high up (inl e) = inside (omega (arith, ints, up, m.0)) (omega (arith, ints, e))
      by_high up (inr (inl g)) = above up (omega (arith, ints, g))
      by_high up (inr (inr l)) = inside (omega (arith, ints, up, m.0)) (omega (arith, ints, l))

      by_low : (down : d <ℤ pos 0) → ((lo -ℤ (x +ℤ d)) ≡ pos 0)
          ⊎ ((pos 0 <ℤ (lo -ℤ (x +ℤ d))) ⊎ ((lo -ℤ (x +ℤ d)) <ℤ pos 0))
          → IsChosen d (Range lo hi step align) x
      by_low down (inl e) = inside (omega (arith, ints, e)) (omega (arith, ints, down, m.1))
      by_low down (inr (inl g)) = below down (omega (arith, ints, g))
      by_low down (inr (inr l)) = inside (omega (arith, ints, l)) (omega (arith, ints, down, m.1))

      by : (d ≡ pos 0) ⊎ ((pos 0 <ℤ d) ⊎ (d <ℤ pos 0)) → IsChosen d (Range lo hi step align) x
      by (inl e) = inside (omega (arith, ints, e, m.0)) (omega (arith, ints, e, m.1))
      by (inr (inl up)) = by_high up (by_sign ((x +ℤ d) -ℤ hi))
      by (inr (inr down)) = by_low down (by_sign (lo -ℤ (x +ℤ d)))

chosen : (d : ℤ) (dim : Dim) (x : ℤ) → IsBoxed dim → IsCoordinate dim x → IsChosen d dim x
chosen d Flood x b m = record { part = pos 0; kept = inl refl; is = m }
chosen d (Range lo hi step align) x b m = chosen_range lo hi step align d x b m

-- ---- tuples

abbrev pub AreKeptOrNot : List ℤ → List ℤ → Type 0
AreKeptOrNot shift v = AllZip IsKeptOrNot shift v

pub record AreChosen (rank : ℕ) (shift : List ℤ) (dims : List Dim) (t : List ℤ) : Type 0 where
  pub vector : List ℤ
  pub kept : AreKeptOrNot shift vector
  pub is : AllZip IsCoordinate (each dim_outside_of (components rank vector) dims)
      (each_coordinate_moved (components rank shift) dims t)

all_chosen : (rank : ℕ) (shift : List ℤ) (dims : List Dim) (t : List ℤ)
    → length shift ≡ length dims → All IsBoxed dims → AllZip IsCoordinate dims t
    → AreChosen rank shift dims t
all_chosen rank [] [] [] l b m = record { vector = []; kept = tt; is = tt }
all_chosen rank [] [] (x ∷ t) l b m = absurd m
all_chosen rank [] (dim ∷ dims) t l b m = absurd (omega (arith, l))
all_chosen rank (d ∷ shift) [] t l b m = absurd (omega (arith, l))
all_chosen rank (d ∷ shift) (dim ∷ dims) [] l b m = absurd m
all_chosen zero (d ∷ shift) (dim ∷ dims) (x ∷ t) l b m =
    let c = chosen (pos 0) dim x (All-head IsBoxed dim dims b) m.0 in
    let rest = all_chosen zero shift dims t (omega (arith, l)) (All-tail IsBoxed dim dims b) m.1 in
    record {
      vector = pos 0 ∷ rest.vector;
      kept = (inl refl, rest.kept);
      is = (
        subst (λ (p : ℤ). IsCoordinate (dim_outside_of p dim) (coordinate_moved (pos 0) dim x))
            (none c.part c.kept) c.is,
        rest.is,
      );
    }
  where
    none : (c : ℤ) → IsKeptOrNot (pos 0) c → c ≡ pos 0
    none c (inl e) = e
    none c (inr e) = e
all_chosen (suc rank) (d ∷ shift) (dim ∷ dims) (x ∷ t) l b m =
    let c = chosen d dim x (All-head IsBoxed dim dims b) m.0 in
    let rest = all_chosen rank shift dims t (omega (arith, l)) (All-tail IsBoxed dim dims b) m.1 in
    record {
      vector = c.part ∷ rest.vector;
      kept = (c.kept, rest.kept);
      is = (c.is, rest.is);
    }

-- ---- vectors of borders

among_left : {X : Type 0} (xs ys : List X) (x : X) → Among xs x → Among (xs ++ ys) x
among_left [] ys x h = absurd h
among_left (y ∷ xs) ys x (inl e) = inl e
among_left (y ∷ xs) ys x (inr h) = inr (among_left xs ys x h)

among_right : {X : Type 0} (xs ys : List X) (x : X) → Among ys x → Among (xs ++ ys) x
among_right [] ys x h = h
among_right (y ∷ xs) ys x h = inr (among_right xs ys x h)

among_each : {X Y : Type 0} (f : X → List Y) (xs : List X) (x : X) (y : Y) → Among xs x
    → Among (f x) y → Among (flat_map f xs) y
among_each f [] x y h k = absurd h
among_each f (z ∷ xs) x y (inl e) k =
    among_left (f z) (flat_map f xs) y (subst (λ (w : _). Among (f w) y) (sym e) k)
among_each f (z ∷ xs) x y (inr h) k =
    among_right (f z) (flat_map f xs) y (among_each f xs x y h k)

kept_among : (d c : ℤ) (rest : List ℤ) → IsKeptOrNot d c → Among (kept_or_not d rest) (c ∷ rest)
kept_among d c rest k = by (is_true d) refl k
  where
    zero_is : not (int_eq d (pos 0)) ≡ false → d ≡ pos 0
    zero_is e = (Decides-int_eq d (pos 0)).0 (twice (int_eq d (pos 0)) e)
      where
        twice : (b : Bool) → not b ≡ false → b ≡ true
        twice true e = refl
        twice false e = absurd (let no : ⊥ = cc in no)

    by : (b : Bool) → is_true d ≡ b → IsKeptOrNot d c → Among (kept_or_not d rest) (c ∷ rest)
    by true e (inl z) = rw e (inl (ap (λ x. x ∷ rest) (sym z)))
    by true e (inr z) = rw e (inr (inl (ap (λ x. x ∷ rest) (sym z))))
    by false e (inl z) = rw e (inl (ap (λ x. x ∷ rest) (zero_is e ∙ sym z)))
    by false e (inr z) = rw e (inl (ap (λ x. x ∷ rest) (sym z)))

choice_among : (shift v : List ℤ) → AreKeptOrNot shift v → Among (choices shift) v
choice_among [] [] h = inl refl
choice_among [] (c ∷ v) h = absurd h
choice_among (d ∷ shift) [] h = absurd h
choice_among (d ∷ shift) (c ∷ v) h =
    among_each (kept_or_not d) (choices shift) v (c ∷ v) (choice_among shift v h.1)
    (kept_among d c v h.0)

-- the first one keeps none
head_kept : (d : ℤ) (rest : List ℤ) (more : List (List ℤ))
    → kept_or_not d rest ++ more ≡ (pos 0 ∷ rest) ∷ drop 1 (kept_or_not d rest ++ more)
head_kept d rest more = by (is_true d) refl
  where
    zero_is : not (int_eq d (pos 0)) ≡ false → d ≡ pos 0
    zero_is e = (Decides-int_eq d (pos 0)).0 (twice (int_eq d (pos 0)) e)
      where
        twice : (b : Bool) → not b ≡ false → b ≡ true
        twice true e = refl
        twice false e = absurd (let no : ⊥ = cc in no)

    by : (b : Bool) → is_true d ≡ b
        → kept_or_not d rest ++ more ≡ (pos 0 ∷ rest) ∷ drop 1 (kept_or_not d rest ++ more)
    by true e = rw e refl
    by false e = rw e (ap (λ x. (x ∷ rest) ∷ more) (zero_is e))

pub zeros_first : (shift : List ℤ) → choices shift ≡ zeros shift ∷ border_vectors shift
zeros_first [] = refl
zeros_first (d ∷ shift) =
    let more = flat_map (kept_or_not d) (border_vectors shift) in
    let e : flat_map (kept_or_not d) (choices shift) ≡ kept_or_not d (zeros shift) ++ more =
    ap (flat_map (kept_or_not d)) (zeros_first shift) in
    e ∙ head_kept d (zeros shift) more
    ∙ ap (λ xs. (pos 0 ∷ zeros shift) ∷ drop 1 xs) (sym e)

-- no border is the box itself
pub no_border : (rank : ℕ) (shift : List ℤ) (dims : List Dim) → length shift ≡ length dims
    → each dim_outside_of (components rank (zeros shift)) dims ≡ dims
no_border rank [] dims l = refl
no_border rank (d ∷ shift) [] l = absurd (omega (arith, l))
no_border zero (d ∷ shift) (dim ∷ dims) l =
    ap (λ x. x ∷ each dim_outside_of (components zero (zeros shift)) dims) (still dim)
    ∙ ap (λ xs. dim ∷ xs) (no_border zero shift dims (omega (arith, l)))
  where
    still : (dim : Dim) → dim_outside_of (pos 0) dim ≡ dim
    still Flood = refl
    still (Range lo hi step align) = refl
no_border (suc rank) (d ∷ shift) (dim ∷ dims) l =
    ap (λ x. x ∷ each dim_outside_of (components rank (zeros shift)) dims) (still dim)
    ∙ ap (λ xs. dim ∷ xs) (no_border rank shift dims (omega (arith, l)))
  where
    still : (dim : Dim) → dim_outside_of (pos 0) dim ≡ dim
    still Flood = refl
    still (Range lo hi step align) = refl

-- A tuple that is moved from the home box is in it, or in one of the borders.
pub record InBorder (home : Region) (shift u : List ℤ) : Type 0 where
  pub vector : List ℤ
  pub among : Among (border_vectors shift) vector
  pub is : IsMember (outside_of vector home) u

pub covered : (home : Region) (shift t : List ℤ) → All IsBoxed home.dims
    → length shift ≡ length home.dims → IsMember home t
    → IsMember home (tuple_moved shift home t) ⊎ InBorder home shift (tuple_moved shift home t)
covered home shift t b l m =
    let c = all_chosen home.rank shift home.dims t l b m in
    by c (subst (λ (vs : List (List ℤ)). Among vs c.vector) (zeros_first shift)
    (choice_among shift c.vector c.kept))
  where
    by : (c : AreChosen home.rank shift home.dims t)
        → Among (zeros shift ∷ border_vectors shift) c.vector
        → IsMember home (tuple_moved shift home t) ⊎ InBorder home shift (tuple_moved shift home t)
    by c (inl e) =
        inl (subst (λ (dims : List Dim). AllZip IsCoordinate dims (tuple_moved shift home t))
        (no_border home.rank shift home.dims l)
        (subst (λ (v : List ℤ). AllZip IsCoordinate (each dim_outside_of (components home.rank v)
        home.dims) (tuple_moved shift home t)) (sym e) c.is))
    by c (inr k) = inr (record { vector = c.vector; among = k; is = c.is })

-- ---- each of them conforms, where the shift does

among_parts : {X : Type 0} (xs ys : List X) (x : X) → Among (xs ++ ys) x → Among xs x ⊎ Among ys x
among_parts [] ys x h = inr h
among_parts (y ∷ xs) ys x (inl e) = inl (inl e)
among_parts (y ∷ xs) ys x (inr h) = by (among_parts xs ys x h)
  where
    by : Among xs x ⊎ Among ys x → Among (y ∷ xs) x ⊎ Among ys x
    by (inl k) = inl (inr k)
    by (inr k) = inr k

pub record AmongOne {X Y : Type 0} (f : X → List Y) (xs : List X) (y : Y) : Type 0 where
  pub of : X
  pub there : Among xs of
  pub is : Among (f of) y

among_one : {X Y : Type 0} (f : X → List Y) (xs : List X) (y : Y) → Among (flat_map f xs) y
    → AmongOne f xs y
among_one f [] y h = absurd h
among_one f (x ∷ xs) y h = by (among_parts (f x) (flat_map f xs) y h) (λ k. among_one f xs y k)
  where
    by : Among (f x) y ⊎ Among (flat_map f xs) y → (Among (flat_map f xs) y → AmongOne f xs y)
        → AmongOne f (x ∷ xs) y
    by (inl k) more = record { of = x; there = inl refl; is = k }
    by (inr k) more = let m = more k in record { of = m.of; there = inr m.there; is = m.is }

one_choice : (d : ℤ) (rest v : List ℤ) → Among (kept_or_not d rest) v
    → (c : ℤ) × (IsKeptOrNot d c) × (c ∷ rest ≡ v)
one_choice d rest v h = by (is_true d) refl
  where
    by : (b : Bool) → is_true d ≡ b → (c : ℤ) × (IsKeptOrNot d c) × (c ∷ rest ≡ v)
    by true e = of_two (rw e at h)
      where
        of_two : Among ((pos 0 ∷ rest) ∷ (d ∷ rest) ∷ []) v
            → (c : ℤ) × (IsKeptOrNot d c) × (c ∷ rest ≡ v)
        of_two (inl k) = (pos 0, inl refl, k)
        of_two (inr (inl k)) = (d, inr refl, k)
        of_two (inr (inr k)) = absurd k
    by false e = of_one (rw e at h)
      where
        of_one : Among ((d ∷ rest) ∷ []) v → (c : ℤ) × (IsKeptOrNot d c) × (c ∷ rest ≡ v)
        of_one (inl k) = (d, inr refl, k)
        of_one (inr k) = absurd k

pub among_choice : (shift v : List ℤ) → Among (choices shift) v → AreKeptOrNot shift v
among_choice [] v (inl e) = subst (λ (u : List ℤ). AreKeptOrNot [] u) e tt
among_choice [] v (inr k) = absurd k
among_choice (d ∷ shift) v h =
    let m = among_one (kept_or_not d) (choices shift) v h in
    let c = one_choice d m.of v m.is in
    subst (λ (u : List ℤ). AreKeptOrNot (d ∷ shift) u) c.2 (c.1, among_choice shift m.of m.there)

kept_conforms : (rank : ℕ) (shift v : List ℤ) (dims : List Dim) → AreKeptOrNot shift v
    → each_border_conforms (components rank shift) dims ≡ true
    → each_border_conforms (components rank v) dims ≡ true
kept_conforms rank [] [] dims h e = refl
kept_conforms rank [] (c ∷ v) dims h e = absurd h
kept_conforms rank (d ∷ shift) [] dims h e = absurd h
kept_conforms zero (d ∷ shift) (c ∷ v) [] h e = refl
kept_conforms (suc rank) (d ∷ shift) (c ∷ v) [] h e = refl
kept_conforms zero (d ∷ shift) (c ∷ v) (dim ∷ dims) h e =
    let p = and_parts (dim_border_conforms (pos 0) dim)
    (each_border_conforms (components zero shift) dims) e in
    and_from (dim_border_conforms (pos 0) dim) (each_border_conforms (components zero v) dims) p.0
    (kept_conforms zero shift v dims h.1 p.1)
kept_conforms (suc rank) (d ∷ shift) (c ∷ v) (dim ∷ dims) h e =
    let p = and_parts (dim_border_conforms d dim)
    (each_border_conforms (components rank shift) dims) e in
    and_from (dim_border_conforms c dim) (each_border_conforms (components rank v) dims)
    (one dim h.0 p.0) (kept_conforms rank shift v dims h.1 p.1)
  where
    one : (dim : Dim) → IsKeptOrNot d c → dim_border_conforms d dim ≡ true
        → dim_border_conforms c dim ≡ true
    one Flood (inl z) e = ap (λ x. int_eq x (pos 0)) z
    one (Range lo hi step align) (inl z) e =
        ap (λ x. dim_border_conforms x (Range lo hi step align)) z
    one dim (inr z) e = ap (λ x. dim_border_conforms x dim) z ∙ e

pub borders_conform : (home : Region) (shift v : List ℤ) → border_conforms shift home ≡ true
    → Among (border_vectors shift) v → border_conforms v home ≡ true
borders_conform home shift v e k =
    kept_conforms home.rank shift v home.dims
    (among_choice shift v (subst (λ (vs : List (List ℤ)). Among vs v) (sym (zeros_first shift)) (inr k)))
    e
