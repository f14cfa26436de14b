-- Lemmas on the tuples of several lists.
use Rattle.std.proofs.Common.{◌≡◌, ℕ, zero, suc, ◌+◌, ◌*◌, ◌<◌, Bool, true, false, cond, ◌&&◌, Option, Some, None, List, [], ◌∷◌, ◌++◌, map, length, IsTrue, ℤ, ◌≤ℤ◌, ◌<ℤ◌, ◌⊎◌, inl, inr, refl, sym, ◌∙◌, ap, subst, arith, slice_get, length-append}
use Rattle.std.specs.List.{filter, find, flat_map, AllZip}
use Rattle.std.specs.Option.{option_map, option_and_then, option_or}
use Rattle.std.specs.Int.RustNames.{int_lt}
use Rattle.std.proofs.lemmas.Int.{ints}
use Rattle.std.proofs.lemmas.List.Elements.{filter-append, filter_agree}
use Rattle.std.proofs.lemmas.List.{length-map, map-append}
use Rattle.std.proofs.lemmas.Option.{slice_get-map}
use Rattle.std.proofs.lemmas.List.Folds.{find-append}
use Rattle.zpl_region.specs.Region.{tuples, is_before}
use Rattle.zpl_region.proofs.ListLemmas.{int_lt-true, int_lt-false, cases_order_z, cons_same, Among, Among-append_left, Among-append_right, among_appended, Among-map, among_mapped, Rises, Rises-append, Rises-map, filter-map, find-map, find-all_pass, find-none_pass, find_agree, slice_get-append_left, slice_get-append_right}

-- the tuples that begin with an element of xs and go on as one of ms
abbrev pub lines : List ℤ → List (List ℤ) → List (List ℤ)
lines xs ms = flat_map (λ x. map (λ t. x ∷ t) ms) xs

-- ---- how many there are
length-lines : (xs : List ℤ) (ms : List (List ℤ)) → length (lines xs ms) ≡ length xs * length ms
length-lines [] ms = omega arith
length-lines (x ∷ xs) ms =
    length-append (map (λ t. x ∷ t) ms) (lines xs ms)
    ∙ (ap (λ n. n + length (lines xs ms)) (length-map ms (λ t. x ∷ t))
    ∙ (ap (λ n. length ms + n) (length-lines xs ms) ∙ omega arith))

pub length-tuples : (xs : List ℤ) (rest : List (List ℤ)) → length (tuples (xs ∷ rest)) ≡ length xs * length (tuples rest)
length-tuples xs rest = length-lines xs (tuples rest)

-- ---- which they are
Among-lines : (xs : List ℤ) (ms : List (List ℤ)) (x : ℤ) (t : List ℤ) → Among xs x → Among ms t → Among (lines xs ms) (x ∷ t)
Among-lines [] ms x t h k = absurd h
Among-lines (y ∷ ys) ms x t (inl e) k =
    Among-append_left (map (λ u. y ∷ u) ms) (lines ys ms) (x ∷ t) (subst (λ z. Among (map (λ u. y ∷ u) ms) (z ∷ t)) e (Among-map (λ u. y ∷ u) ms t k))
Among-lines (y ∷ ys) ms x t (inr h) k =
    Among-append_right (map (λ u. y ∷ u) ms) (lines ys ms) (x ∷ t) (Among-lines ys ms x t h k)

-- t begins with an element of xs and goes on as one of ms
pub record IsLine (xs : List ℤ) (ms : List (List ℤ)) (t : List ℤ) : Type 0 where
  pub first : ℤ
  pub rest : List ℤ
  pub is : first ∷ rest ≡ t
  pub first_in : Among xs first
  pub rest_in : Among ms rest

line_among : (xs : List ℤ) (ms : List (List ℤ)) (t : List ℤ) → Among (lines xs ms) t → IsLine xs ms t
line_among [] ms t h = absurd h
line_among (y ∷ ys) ms t h =
    elim (among_appended (map (λ u. y ∷ u) ms) (lines ys ms) t h) [
      | inl l ↦ (let w = among_mapped (λ u. y ∷ u) ms t l in record { first = y; rest = w.0; is = w.1; first_in = inl refl; rest_in = w.2 })
      | inr r ↦ (let w = line_among ys ms t r in record { first = w.first; rest = w.rest; is = w.is; first_in = inr w.first_in; rest_in = w.rest_in })
    ]

pub Among-tuples : (xss : List (List ℤ)) (t : List ℤ) → AllZip Among xss t → Among (tuples xss) t
Among-tuples [] [] h = inl refl
Among-tuples [] (x ∷ t) h = absurd h
Among-tuples (xs ∷ rest) [] h = absurd h
Among-tuples (xs ∷ rest) (x ∷ t) h = Among-lines xs (tuples rest) x t h.0 (Among-tuples rest t h.1)

pub among_tuples : (xss : List (List ℤ)) (t : List ℤ) → Among (tuples xss) t → AllZip Among xss t
among_tuples [] [] h = tt
among_tuples [] (x ∷ t) (inl e) = absurd (cc)
among_tuples [] (x ∷ t) (inr h) = absurd h
among_tuples (xs ∷ rest) t h =
    let w = line_among xs (tuples rest) t h in
    subst (AllZip Among (xs ∷ rest)) w.is (w.first_in, among_tuples rest w.rest w.rest_in)

-- ---- their order
abbrev pub IsBefore : List ℤ → List ℤ → Type 0
IsBefore t u = IsTrue (is_before t u)

before_by_first : (x y : ℤ) (t u : List ℤ) → x <ℤ y → is_before (x ∷ t) (y ∷ u) ≡ true
before_by_first x y t u h = rw (int_lt-true x y h) refl

not_before_by_first : (x y : ℤ) (t u : List ℤ) → y <ℤ x → is_before (x ∷ t) (y ∷ u) ≡ false
not_before_by_first x y t u h =
    rw (int_lt-false x y (omega (arith, ints)), int_lt-true y x h) refl

before_by_rest : (x : ℤ) (t u : List ℤ) → is_before (x ∷ t) (x ∷ u) ≡ is_before t u
before_by_rest x t u = rw (int_lt-false x x (omega (arith, ints))) refl

Rises-lines : (xs : List ℤ) (ms : List (List ℤ)) → Rises ◌<ℤ◌ xs → Rises IsBefore ms → Rises IsBefore (lines xs ms)
Rises-lines [] ms h k = tt
Rises-lines (x ∷ xs) ms h k =
    Rises-append IsBefore (map (λ t. x ∷ t) ms) (lines xs ms)
    (Rises-map IsBefore IsBefore (λ t. x ∷ t) ms (λ t u b. before_by_rest x t u ∙ b) k)
    (Rises-lines xs ms h.1 k)
    (λ t u l r.
    let v = among_mapped (λ u. x ∷ u) ms t l in
    let w = line_among xs ms u r in
    subst (λ a. IsBefore a u) v.1 (subst (IsBefore (x ∷ v.0)) w.is (before_by_first x w.first v.0 w.rest (h.0 w.first w.first_in))))

-- every list of a list of lists is ascending
abbrev pub AllRise : List (List ℤ) → Type 0
AllRise [] = Unit {0}
AllRise (xs ∷ rest) = Rises ◌<ℤ◌ xs × AllRise rest

pub Rises-tuples : (xss : List (List ℤ)) → AllRise xss → Rises IsBefore (tuples xss)
Rises-tuples [] h = ((λ y m. absurd m), tt)
Rises-tuples (xs ∷ rest) h = Rises-lines xs (tuples rest) h.0 (Rises-tuples rest h.1)

-- ---- the tuple at a place
abbrev pub joined : List (List ℤ) → ℕ → ℤ → Option (List ℤ)
joined ms r x = option_map (λ t. x ∷ t) (slice_get ms r)

slice_get-lines : (xs : List ℤ) (ms : List (List ℤ)) (q r : ℕ) → r < length ms → slice_get (lines xs ms) (q * length ms + r) ≡ option_and_then (joined ms r) (slice_get xs q)
slice_get-lines [] ms q r h = refl
slice_get-lines (x ∷ xs) ms zero r h =
    let front = map (λ t. x ∷ t) ms in
    let here : 0 * length ms + r ≡ r = omega arith in
    ap (slice_get (front ++ lines xs ms)) here
    ∙ (slice_get-append_left front (lines xs ms) r (omega (arith, length-map ms (λ t. x ∷ t)))
    ∙ slice_get-map (λ t. x ∷ t) ms r)
slice_get-lines (x ∷ xs) ms (suc q) r h =
    let front = map (λ t. x ∷ t) ms in
    let past : suc q * length ms + r ≡ length front + (q * length ms + r) = omega (arith, length-map ms (λ t. x ∷ t)) in
    ap (slice_get (front ++ lines xs ms)) past
    ∙ (slice_get-append_right front (lines xs ms) (q * length ms + r) ∙ slice_get-lines xs ms q r h)

pub slice_get-tuples : (xs : List ℤ) (rest : List (List ℤ)) (q r : ℕ) → r < length (tuples rest)
    → slice_get (tuples (xs ∷ rest)) (q * length (tuples rest) + r) ≡ option_and_then (joined (tuples rest) r) (slice_get xs q)
slice_get-tuples xs rest q r h = slice_get-lines xs (tuples rest) q r h

lines_none : (xs : List ℤ) → lines xs [] ≡ []
lines_none [] = refl
lines_none (x ∷ xs) = lines_none xs

slice_get-lines_first : (xs : List ℤ) (ms : List (List ℤ)) → slice_get (lines xs ms) 0 ≡ option_and_then (joined ms 0) (slice_get xs 0)
slice_get-lines_first [] [] = refl
slice_get-lines_first (x ∷ xs) [] = ap (λ l. slice_get l 0) (lines_none xs)
slice_get-lines_first xs (m ∷ ms) =
    let first : 0 * length (m ∷ ms) + 0 ≡ 0 = omega arith in
    sym (ap (slice_get (lines xs (m ∷ ms))) first) ∙ slice_get-lines xs (m ∷ ms) 0 0 (omega arith)

pub slice_get-tuples_first : (xs : List ℤ) (rest : List (List ℤ)) → slice_get (tuples (xs ∷ rest)) 0 ≡ option_and_then (joined (tuples rest) 0) (slice_get xs 0)
slice_get-tuples_first xs rest = slice_get-lines_first xs (tuples rest)

-- ---- the first tuple behind another
find-line : (p : List ℤ → Bool) (x : ℤ) (xs : List ℤ) (ms : List (List ℤ))
    → find p (lines (x ∷ xs) ms) ≡ option_or (option_map (λ t. x ∷ t) (find (λ t. p (x ∷ t)) ms)) (find p (lines xs ms))
find-line p x xs ms =
    find-append p (map (λ t. x ∷ t) ms) (lines xs ms) ∙ ap (λ o. option_or o (find p (lines xs ms))) (find-map p (λ t. x ∷ t) ms)

find_lt_here : (x y : ℤ) (ys : List ℤ) → x <ℤ y → find (int_lt x) (y ∷ ys) ≡ Some y
find_lt_here x y ys l = rw (int_lt-true x y l) refl

find_lt_later : (x y : ℤ) (ys : List ℤ) → y ≤ℤ x → find (int_lt x) (y ∷ ys) ≡ find (int_lt x) ys
find_lt_later x y ys l = rw (int_lt-false x y l) refl

-- no tuple that begins with x stands behind x ∷ t: so the first that does begins with the next element
find-lines_next : (xs : List ℤ) (ms : List (List ℤ)) (x : ℤ) (t : List ℤ) → (Among xs x → find (is_before t) ms ≡ None)
    → find (is_before (x ∷ t)) (lines xs ms) ≡ option_and_then (joined ms 0) (find (int_lt x) xs)
find-lines_next [] ms x t none = refl
find-lines_next (y ∷ ys) ms x t none =
    find-line (is_before (x ∷ t)) y ys ms
    ∙ by_order (cases_order_z x y) (find-lines_next ys ms x t (λ m. none (inr m)))
  where
    behind : List ℤ → Bool
    behind u = is_before (x ∷ t) u

    rest : Option (List ℤ)
    rest = find behind (lines ys ms)

    first_or : (ns : List (List ℤ)) → option_or (option_map (λ u. y ∷ u) (slice_get ns 0)) (find behind (lines ys ns)) ≡ option_map (λ u. y ∷ u) (slice_get ns 0)
    first_or [] = ap (find behind) (lines_none ys)
    first_or (m ∷ ns) = refl

    with_line : (o : Option (List ℤ)) → find (λ u. behind (y ∷ u)) ms ≡ o → option_or (option_map (λ u. y ∷ u) (find (λ u. behind (y ∷ u)) ms)) rest ≡ option_or (option_map (λ u. y ∷ u) o) rest
    with_line o e = ap (λ p. option_or (option_map (λ u. y ∷ u) p) rest) e

    later : y ≤ℤ x → rest ≡ option_and_then (joined ms 0) (find (int_lt x) ys) → rest ≡ option_and_then (joined ms 0) (find (int_lt x) (y ∷ ys))
    later l further = further ∙ sym (ap (option_and_then (joined ms 0)) (find_lt_later x y ys l))

    by_order : (x <ℤ y) ⊎ ((x ≡ y) ⊎ (y <ℤ x)) → rest ≡ option_and_then (joined ms 0) (find (int_lt x) ys)
        → option_or (option_map (λ u. y ∷ u) (find (λ u. behind (y ∷ u)) ms)) rest ≡ option_and_then (joined ms 0) (find (int_lt x) (y ∷ ys))
    by_order (inl l) further =
        with_line (slice_get ms 0) (find-all_pass (λ u. behind (y ∷ u)) ms (λ u. before_by_first x y t u l))
        ∙ (first_or ms ∙ sym (ap (option_and_then (joined ms 0)) (find_lt_here x y ys l)))
    by_order (inr (inl e)) further =
        with_line None (find_agree (λ u. behind (y ∷ u)) (is_before t) ms (λ u. subst (λ z. is_before (x ∷ t) (z ∷ u) ≡ is_before t u) e (before_by_rest x t u)) ∙ none (inl (sym e)))
        ∙ later (omega (arith, ints)) further
    by_order (inr (inr l)) further =
        with_line None (find-none_pass (λ u. behind (y ∷ u)) ms (λ u. not_before_by_first x y t u l))
        ∙ later (omega (arith, ints)) further

-- u is the first of ms behind t: so x ∷ u is the first tuple behind x ∷ t
find-lines_here : (xs : List ℤ) (ms : List (List ℤ)) (x : ℤ) (t u : List ℤ) → Rises ◌<ℤ◌ xs → Among xs x → find (is_before t) ms ≡ Some u
    → find (is_before (x ∷ t)) (lines xs ms) ≡ Some (x ∷ u)
find-lines_here [] ms x t u h k found = absurd k
find-lines_here (y ∷ ys) ms x t u h (inl e) found =
    find-line (is_before (x ∷ t)) y ys ms
    ∙ (ap (λ o. option_or (option_map (λ w. y ∷ w) o) (find (is_before (x ∷ t)) (lines ys ms))) (find_agree (λ w. is_before (x ∷ t) (y ∷ w)) (is_before t) ms (λ w. subst (λ z. is_before (x ∷ t) (z ∷ w) ≡ is_before t w) (sym e) (before_by_rest x t w)) ∙ found)
    ∙ ap (λ z. Some (z ∷ u)) e)
find-lines_here (y ∷ ys) ms x t u h (inr k) found =
    find-line (is_before (x ∷ t)) y ys ms
    ∙ (ap (λ o. option_or (option_map (λ w. y ∷ w) o) (find (is_before (x ∷ t)) (lines ys ms))) (find-none_pass (λ w. is_before (x ∷ t) (y ∷ w)) ms (λ w. not_before_by_first x y t w (h.0 x k)))
    ∙ find-lines_here ys ms x t u h.1 k found)

pub find-tuples_next : (xs : List ℤ) (rest : List (List ℤ)) (x : ℤ) (t : List ℤ) → (Among xs x → find (is_before t) (tuples rest) ≡ None)
    → find (is_before (x ∷ t)) (tuples (xs ∷ rest)) ≡ option_and_then (joined (tuples rest) 0) (find (int_lt x) xs)
find-tuples_next xs rest x t none = find-lines_next xs (tuples rest) x t none

pub find-tuples_here : (xs : List ℤ) (rest : List (List ℤ)) (x : ℤ) (t u : List ℤ) → Rises ◌<ℤ◌ xs → Among xs x → find (is_before t) (tuples rest) ≡ Some u
    → find (is_before (x ∷ t)) (tuples (xs ∷ rest)) ≡ Some (x ∷ u)
find-tuples_here xs rest x t u h k found = find-lines_here xs (tuples rest) x t u h k found

-- ---- tests and moves of tuples, element by element
filter-none_pass : {X : Type 0} (p : X → Bool) (xs : List X) → ((x : X) → p x ≡ false) → filter p xs ≡ []
filter-none_pass p [] none = refl
filter-none_pass p (x ∷ xs) none = rw (none x) (filter-none_pass p xs none)

filter-lines : (p : ℤ → Bool) (q r : List ℤ → Bool) → ((x : ℤ) (t : List ℤ) → r (x ∷ t) ≡ (p x && q t))
    → (xs : List ℤ) (ms : List (List ℤ)) → filter r (lines xs ms) ≡ lines (filter p xs) (filter q ms)
filter-lines p q r parts [] ms = refl
filter-lines p q r parts (x ∷ xs) ms =
    filter-append r (map (λ t. x ∷ t) ms) (lines xs ms)
    ∙ (ap (λ l. l ++ filter r (lines xs ms)) (filter-map r (λ t. x ∷ t) ms)
    ∙ by_test (p x) refl (filter-lines p q r parts xs ms))
  where
    by_test : (b : Bool) → p x ≡ b → filter r (lines xs ms) ≡ lines (filter p xs) (filter q ms)
        → map (λ t. x ∷ t) (filter (λ t. r (x ∷ t)) ms) ++ filter r (lines xs ms) ≡ lines (cond b (x ∷ filter p xs) (filter p xs)) (filter q ms)
    by_test true e further =
        ap (λ l. map (λ t. x ∷ t) l ++ filter r (lines xs ms)) (filter_agree (λ t. r (x ∷ t)) q (λ t. parts x t ∙ ap (λ b. b && q t) e) ms)
        ∙ ap (λ l. map (λ t. x ∷ t) (filter q ms) ++ l) further
    by_test false e further =
        ap (λ l. map (λ t. x ∷ t) l ++ filter r (lines xs ms)) (filter-none_pass (λ t. r (x ∷ t)) ms (λ t. parts x t ∙ ap (λ b. b && q t) e))
        ∙ further

pub filter-tuples : (p : ℤ → Bool) (q r : List ℤ → Bool) → ((x : ℤ) (t : List ℤ) → r (x ∷ t) ≡ (p x && q t))
    → (xs : List ℤ) (rest kept : List (List ℤ)) → tuples kept ≡ filter q (tuples rest) → filter r (tuples (xs ∷ rest)) ≡ tuples (filter p xs ∷ kept)
filter-tuples p q r parts xs rest kept e = filter-lines p q r parts xs (tuples rest) ∙ ap (lines (filter p xs)) (sym e)

map-lines : (f : ℤ → ℤ) (g h : List ℤ → List ℤ) → ((x : ℤ) (t : List ℤ) → h (x ∷ t) ≡ f x ∷ g t)
    → (xs : List ℤ) (ms : List (List ℤ)) → map h (lines xs ms) ≡ lines (map f xs) (map g ms)
map-lines f g h parts [] ms = refl
map-lines f g h parts (x ∷ xs) ms =
    map-append h (map (λ t. x ∷ t) ms) (lines xs ms)
    ∙ (ap (λ l. l ++ map h (lines xs ms)) (line_moved ms)
    ∙ ap (λ l. map (λ t. f x ∷ t) (map g ms) ++ l) (map-lines f g h parts xs ms))
  where
    line_moved : (ms : List (List ℤ)) → map h (map (λ t. x ∷ t) ms) ≡ map (λ t. f x ∷ t) (map g ms)
    line_moved [] = refl
    line_moved (m ∷ ms) = cons_same (parts x m) (line_moved ms)

pub map-tuples : (f : ℤ → ℤ) (g h : List ℤ → List ℤ) → ((x : ℤ) (t : List ℤ) → h (x ∷ t) ≡ f x ∷ g t)
    → (xs : List ℤ) (rest moved : List (List ℤ)) → tuples moved ≡ map g (tuples rest) → map h (tuples (xs ∷ rest)) ≡ tuples (map f xs ∷ moved)
map-tuples f g h parts xs rest moved e = map-lines f g h parts xs (tuples rest) ∙ ap (lines (map f xs)) (sym e)
