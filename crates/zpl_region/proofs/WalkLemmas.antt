-- Lemmas on walks over two and three lists.
use Rattle.std.proofs.Common.{◌≡◌, ℕ, zero, suc, ◌+◌, ◌*◌, ◌/◌, ◌%◌, ◌<◌, Option, Some, None, List, [], ◌∷◌, map, length, get_or, ℤ, pos, ◌+ℤ◌, ◌<ℤ◌, All, Contains, slice_get, refl, sym, ◌∙◌, ap, subst, arith}
use Rattle.std.specs.List.{find}
use Rattle.std.specs.Option.{option_map, option_and_then}
use Rattle.std.specs.Int.RustNames.{int_lt}
use Rattle.std.proofs.lemmas.Nat.{div_below, div-add-mod', mul-add-lt}
use Rattle.zpl_region.specs.declared.progressions.Progression.{Progression}
use Rattle.zpl_region.specs.Progression.{IsNormal, terms}
use Rattle.zpl_region.specs.declared.regions.Region.{Region}
use Rattle.zpl_region.specs.Dim.{coordinates}
use Rattle.zpl_region.specs.Region.{is_before, members, tuples}
use Rattle.zpl_region.proofs.ListLemmas.{Contains-from_among, Rises, among_from_Contains}
use Rattle.zpl_region.proofs.DimLemmas.{Rises-progression}
use Rattle.zpl_region.proofs.ProgressionLemmas.{length-progression, slice_get-progression}
use Rattle.zpl_region.proofs.TupleLemmas.{joined, length-tuples, slice_get-tuples, slice_get-tuples_first, find-tuples_here, find-tuples_next}
use Rattle.zpl_region.proofs.RegionLemmas.{length-tuples_one, three_components}

-- ---- the first tuple behind another
find_one : (xs : List ℤ) (x : ℤ) → find (is_before (x ∷ [])) (tuples (xs ∷ [])) ≡ option_and_then (joined ([] ∷ []) 0) (find (int_lt x) xs)
find_one xs x = find-tuples_next xs [] x [] (λ m. refl)

pub pair_here : (xs ys : List ℤ) (x y z : ℤ) → Rises ◌<ℤ◌ xs → Contains xs x → find (int_lt y) ys ≡ Some z → find (is_before (x ∷ y ∷ [])) (tuples (xs ∷ ys ∷ [])) ≡ Some (x ∷ z ∷ [])
pair_here xs ys x y z rise has found =
    find-tuples_here xs (ys ∷ []) x (y ∷ []) (z ∷ []) rise (among_from_Contains xs x has) (find_one ys y ∙ ap (option_and_then (joined ([] ∷ []) 0)) found)

pub pair_next : (xs ys : List ℤ) (x y : ℤ) → (Contains xs x → find (int_lt y) ys ≡ None)
    → find (is_before (x ∷ y ∷ [])) (tuples (xs ∷ ys ∷ [])) ≡ option_and_then (joined (tuples (ys ∷ [])) 0) (find (int_lt x) xs)
pair_next xs ys x y none =
    find-tuples_next xs (ys ∷ []) x (y ∷ []) (λ m. find_one ys y ∙ ap (option_and_then (joined ([] ∷ []) 0)) (none (Contains-from_among xs x m)))

pub joined_one : (ys : List ℤ) (o : Option ℤ) → slice_get ys 0 ≡ o → (x : ℤ) → joined (tuples (ys ∷ [])) 0 x ≡ option_map (λ y. x ∷ y ∷ []) o
joined_one ys None e x = ap (option_map (λ t. x ∷ t)) (slice_get-tuples_first ys [] ∙ ap (option_and_then (joined ([] ∷ []) 0)) e)
joined_one ys (Some y) e x = ap (option_map (λ t. x ∷ t)) (slice_get-tuples_first ys [] ∙ ap (option_and_then (joined ([] ∷ []) 0)) e)

pub joined_two : (ys zs : List ℤ) (y z : ℤ) → slice_get ys 0 ≡ Some y → slice_get zs 0 ≡ Some z → (x : ℤ) → joined (tuples (ys ∷ zs ∷ [])) 0 x ≡ Some (x ∷ y ∷ z ∷ [])
joined_two ys zs y z e f x =
    ap (option_map (λ t. x ∷ t)) (slice_get-tuples_first ys (zs ∷ []) ∙ (ap (option_and_then (joined (tuples (zs ∷ [])) 0)) e ∙ joined_one zs (Some z) f y))

pub joined_no_row : (ys zs : List ℤ) → slice_get ys 0 ≡ None → (x : ℤ) → joined (tuples (ys ∷ zs ∷ [])) 0 x ≡ None
joined_no_row ys zs e x =
    ap (option_map (λ t. x ∷ t)) (slice_get-tuples_first ys (zs ∷ []) ∙ ap (option_and_then (joined (tuples (zs ∷ [])) 0)) e)

pub joined_no_column : (ys zs : List ℤ) (y : ℤ) → slice_get ys 0 ≡ Some y → slice_get zs 0 ≡ None → (x : ℤ) → joined (tuples (ys ∷ zs ∷ [])) 0 x ≡ None
joined_no_column ys zs y e f x =
    ap (option_map (λ t. x ∷ t)) (slice_get-tuples_first ys (zs ∷ []) ∙ (ap (option_and_then (joined (tuples (zs ∷ [])) 0)) e ∙ joined_one zs None f y))

-- ---- three progressions
abbrev pub blank : Progression
blank = record { first = pos 0; step = 0; count = 0 }

pub three_lists : (ps : List Progression) (e : Progression) → length ps ≡ 3 → terms (get_or ps 0 e) ∷ terms (get_or ps 1 e) ∷ terms (get_or ps 2 e) ∷ [] ≡ map terms ps
three_lists [] e h = absurd (omega arith)
three_lists (a ∷ []) e h = absurd (omega arith)
three_lists (a ∷ b ∷ []) e h = absurd (omega arith)
three_lists (a ∷ b ∷ c ∷ []) e h = refl
three_lists (a ∷ b ∷ c ∷ d ∷ ps) e h = absurd (omega arith)

-- what is found among three lists is found among the tuples of the region, behind a vector of three components
pub found_in : (ps : List Progression) (r : Region) (x : List ℤ) (t : Option (List ℤ)) → length ps ≡ 3 → length x ≡ 3 → map terms ps ≡ map coordinates r.dims
    → find (is_before (get_or x 0 (pos 0) ∷ get_or x 1 (pos 0) ∷ get_or x 2 (pos 0) ∷ [])) (tuples (terms (get_or ps 0 blank) ∷ terms (get_or ps 1 blank) ∷ terms (get_or ps 2 blank) ∷ [])) ≡ t
    → t ≡ find (is_before x) (members r)
found_in ps r x t h k e found =
    sym found ∙ (ap (λ l. find (is_before l) (tuples (terms (get_or ps 0 blank) ∷ terms (get_or ps 1 blank) ∷ terms (get_or ps 2 blank) ∷ []))) (three_components x (pos 0) k)
    ∙ ap (λ l. find (is_before x) (tuples l)) (three_lists ps blank h ∙ e))

-- ---- the tuple at a place
counts_positive : (i a b c : ℕ) → i < a * (b * c) → (0 < a) × (0 < b) × (0 < c)
counts_positive i zero b c h = absurd (omega arith)
counts_positive i (suc a) zero c h = absurd (omega arith)
counts_positive i (suc a) (suc b) zero h = absurd (omega arith)
counts_positive i (suc a) (suc b) (suc c) h = (omega arith, omega arith, omega arith)

-- i counts c numbers within b within a
pub record Digits (i a b c : ℕ) : Type 0 where
  pub first : 0 < a
  pub second : 0 < b
  pub third : 0 < c
  pub plane : i / c / b < a
  pub row : (i / c) % b < b
  pub column : i % c < c
  pub is : (i / c / b) * (b * c) + ((i / c) % b * c + i % c) ≡ i

pub digits_of : (i a b c : ℕ) → i < a * (b * c) → Digits i a b c
digits_of i a b c h =
    let p = counts_positive i a b c h in
    let lines : i / c < a * b = div_below i c (a * b) p.2 (omega (arith, h)) in
    record {
      first = p.0;
      second = p.1;
      third = p.2;
      plane = div_below (i / c) b a p.1 lines;
      row = omega (arith, p.1);
      column = omega (arith, p.2);
      is = omega (arith, ap (λ n. n * c) (div-add-mod' (i / c) b), div-add-mod' i c);
    }

-- the first numbers of a progression rise
pub terms_rise : (ps : List Progression) (k : ℕ) → All IsNormal ps → k < length ps → Rises ◌<ℤ◌ (terms (get_or ps k blank))
terms_rise ps k normal below = let p = get_or ps k blank in Rises-progression p.first p.step p.count (normal k blank below).rising

nth_one : (zs : List ℤ) (k : ℕ) (z : ℤ) → slice_get zs k ≡ Some z → slice_get (tuples (zs ∷ [])) k ≡ Some (z ∷ [])
nth_one zs k z e =
    let place : k * 1 + 0 ≡ k = omega arith in
    ap (slice_get (tuples (zs ∷ []))) (sym place) ∙ (slice_get-tuples zs [] k 0 (omega arith) ∙ ap (option_and_then (joined ([] ∷ []) 0)) e)

nth_two : (ys zs : List ℤ) (j k : ℕ) (y z : ℤ) → k < length zs → slice_get ys j ≡ Some y → slice_get zs k ≡ Some z → slice_get (tuples (ys ∷ zs ∷ [])) (j * length zs + k) ≡ Some (y ∷ z ∷ [])
nth_two ys zs j k y z below e f =
    let wide = length-tuples_one zs in
    ap (λ n. slice_get (tuples (ys ∷ zs ∷ [])) (j * n + k)) (sym wide)
    ∙ (slice_get-tuples ys (zs ∷ []) j k (subst (λ n. k < n) (sym wide) below)
    ∙ (ap (option_and_then (joined (tuples (zs ∷ [])) k)) e
    ∙ ap (option_map (λ t. y ∷ t)) (nth_one zs k z f)))

pub nth_three : (xs ys zs : List ℤ) (i j k : ℕ) (x y z : ℤ) → j < length ys → k < length zs → slice_get xs i ≡ Some x → slice_get ys j ≡ Some y → slice_get zs k ≡ Some z
    → slice_get (tuples (xs ∷ ys ∷ zs ∷ [])) (i * (length ys * length zs) + (j * length zs + k)) ≡ Some (x ∷ y ∷ z ∷ [])
nth_three xs ys zs i j k x y z within below e f g =
    let wide : length (tuples (ys ∷ zs ∷ [])) ≡ length ys * length zs = length-tuples ys (zs ∷ []) ∙ ap (λ n. length ys * n) (length-tuples_one zs) in
    let inside : j * length zs + k < length ys * length zs = omega (arith, mul-add-lt j (length zs) k (length ys) within below) in
    ap (λ n. slice_get (tuples (xs ∷ ys ∷ zs ∷ [])) (i * n + (j * length zs + k))) (sym wide)
    ∙ (slice_get-tuples xs (ys ∷ zs ∷ []) i (j * length zs + k) (subst (λ n. j * length zs + k < n) (sym wide) inside)
    ∙ (ap (option_and_then (joined (tuples (ys ∷ zs ∷ [])) (j * length zs + k))) e
    ∙ ap (option_map (λ t. x ∷ t)) (nth_two ys zs j k y z below f g)))

-- ---- for the code: how many tuples three progressions have, and the tuple at place i
pub count_of_three : (ps : List Progression) (r : Region) → length ps ≡ 3 → map terms ps ≡ map coordinates r.dims
    → length (members r) ≡ (get_or ps 0 blank).count * ((get_or ps 1 blank).count * (get_or ps 2 blank).count)
count_of_three ps r h e =
    let a = get_or ps 0 blank in
    let b = get_or ps 1 blank in
    let c = get_or ps 2 blank in
    sym (ap (λ l. length (tuples l)) (three_lists ps blank h ∙ e))
    ∙ (length-tuples (terms a) (terms b ∷ terms c ∷ [])
    ∙ (ap (λ n. length (terms a) * n) (length-tuples (terms b) (terms c ∷ []) ∙ ap (λ n. length (terms b) * n) (length-tuples_one (terms c)))
    ∙ (ap (λ n. n * (length (terms b) * length (terms c))) (length-progression a.first a.step a.count)
    ∙ (ap (λ n. a.count * (n * length (terms c))) (length-progression b.first b.step b.count)
    ∙ ap (λ n. a.count * (b.count * n)) (length-progression c.first c.step c.count)))))

pub nth_of_three : (ps : List Progression) (r : Region) (i : ℕ) (x y z : ℤ) → length ps ≡ 3 → map terms ps ≡ map coordinates r.dims → i < length (members r)
    → x ≡ (get_or ps 0 blank).first +ℤ pos ((i / (get_or ps 2 blank).count / (get_or ps 1 blank).count) * (get_or ps 0 blank).step)
    → y ≡ (get_or ps 1 blank).first +ℤ pos (((i / (get_or ps 2 blank).count) % (get_or ps 1 blank).count) * (get_or ps 1 blank).step)
    → z ≡ (get_or ps 2 blank).first +ℤ pos ((i % (get_or ps 2 blank).count) * (get_or ps 2 blank).step)
    → Some (x ∷ y ∷ z ∷ []) ≡ slice_get (members r) i
nth_of_three ps r i x y z h e below at_x at_y at_z =
    let a = get_or ps 0 blank in
    let b = get_or ps 1 blank in
    let c = get_or ps 2 blank in
    let plane = i / c.count / b.count in
    let row = (i / c.count) % b.count in
    let column = i % c.count in
    let long_b = length-progression b.first b.step b.count in
    let long_c = length-progression c.first c.step c.count in
    let d = digits_of i a.count b.count c.count (subst (λ n. i < n) (count_of_three ps r h e) below) in
    let place : plane * (length (terms b) * length (terms c)) + (row * length (terms c) + column) ≡ i =
    ap (λ n. plane * (n * length (terms c)) + (row * length (terms c) + column)) long_b
    ∙ (ap (λ n. plane * (b.count * n) + (row * n + column)) long_c ∙ d.is) in
    sym (ap (slice_get (members r)) (sym place)
    ∙ (sym (ap (λ l. slice_get (tuples l) (plane * (length (terms b) * length (terms c)) + (row * length (terms c) + column))) (three_lists ps blank h ∙ e))
    ∙ nth_three (terms a) (terms b) (terms c) plane row column x y z (subst (λ n. row < n) (sym long_b) d.row) (subst (λ n. column < n) (sym long_c) d.column)
    (slice_get-progression a.first a.step a.count plane d.plane ∙ ap Some (sym at_x))
    (slice_get-progression b.first b.step b.count row d.row ∙ ap Some (sym at_y))
    (slice_get-progression c.first c.step c.count column d.column ∙ ap Some (sym at_z))))
