-- Lemmas on walks over the tuples of a region.
use Rattle.std.proofs.Common.{◌≡◌, Result, Ok, Err, ℕ, zero, suc, ◌+◌, ◌-◌, ◌<◌, Bool, Option, Some, None, List, [], ◌∷◌, ◌++◌, All, map, take, length, get_or, slice_get, ℤ, pos, refl, sym, ◌∙◌, ap, subst, arith, add-one}
use Rattle.std.specs.Prelude.{if◌then◌else◌, OnOk, is_ok}
use Rattle.std.specs.List.{filter, find}
use Rattle.std.proofs.lemmas.List.{map-append}
use Rattle.std.proofs.lemmas.List.Elements.{filter-append}
use Rattle.std.proofs.lemmas.List.Sums.{fold-append}
use Rattle.std.proofs.lemmas.Option.{get_or_from_slice_get, slice_get_within}
use Rattle.region_places.specs.of_zpl_nums.declared.folds.Fold.{Fold}
use Rattle.region_places.specs.of_zpl_nums.Fold.{folded, joined, unit_of}
use Rattle.grid_layout.specs.of_zpl_region.declared.regions.Region.{Region}
use Rattle.grid_layout.specs.of_zpl_region.Dim.{HasStep}
use Rattle.grid_layout.specs.of_zpl_region.Region.{IsMember, is_before, members}
use Rattle.grid_layout.proofs.of_zpl_region.LawLemmas.{next_member}
use Rattle.region_places.specs.of_zpl_arrays.Array.{Array, element, place_among}
use Rattle.region_places.proofs.of_zpl_arrays.ArrayLemmas.{only_place, place_of_tuple, value_at_place}

-- one element more
pub take_one : {X : Type 0} (xs : List X) (i : ℕ) (x : X) → slice_get xs i ≡ Some x → take (suc i) xs ≡ take i xs ++ x ∷ []
take_one [] i x e = absurd (cc)
take_one (y ∷ ys) zero x e = let is : y ≡ x = cc in ap (λ z. z ∷ []) is
take_one (y ∷ ys) (suc i) x e = ap (λ l. y ∷ l) (take_one ys i x e)

take_past : {X : Type 0} (xs : List X) (i : ℕ) → slice_get xs i ≡ None → take i xs ≡ xs
take_past [] zero e = refl
take_past [] (suc i) e = refl
take_past (x ∷ xs) zero e = absurd (cc)
take_past (x ∷ xs) (suc i) e = ap (λ l. x ∷ l) (take_past xs i e)

-- the fold goes on by the value at one tuple
pub fold_one : (op : Fold) (f : List ℤ → ℤ) (ms : List (List ℤ)) (i : ℕ) (t : List ℤ) (so_far next v : ℤ) → slice_get ms i ≡ Some t → v ≡ f t → next ≡ joined op so_far v
    → so_far ≡ folded op (map f (take i ms)) → next ≡ folded op (map f (take (i + 1) ms))
fold_one op f ms i t so_far next v at is e invariant =
    e ∙ (ap (λ z. joined op so_far z) is ∙ (ap (λ z. joined op z (f t)) invariant
    ∙ sym (ap (λ k. folded op (map f (take k ms))) (add-one i)
    ∙ (ap (λ l. folded op (map f l)) (take_one ms i t at)
    ∙ (ap (folded op) (map-append f (take i ms) (t ∷ [])) ∙ fold-append (joined op) (unit_of op) (map f (take i ms)) (f t ∷ []))))))

-- ---- a walk by next tuples: what is still to come, and what the tuples gone through gave
abbrev pub left : Region → Option (List ℤ) → ℕ
left r None = 0
left r (Some t) = length (members r) - place_among r.dims t

pub record IsThrough (r : Region) (is_kept : List ℤ → Bool) (f : List ℤ → ℤ) (next : Option (List ℤ)) (made : List ℤ) : Type 0 where
  pub passed : ℕ
  pub next_is : next ≡ slice_get (members r) passed
  pub made_is : made ≡ map f (filter is_kept (take passed (members r)))

pub through_step : (r : Region) (is_kept : List ℤ → Bool) (f : List ℤ → ℤ) (t : List ℤ) (next : Option (List ℤ)) (made more : List ℤ) (w : IsThrough r is_kept f (Some t) made)
    → next ≡ find (is_before t) (members r) → more ≡ made ++ map f (filter is_kept (t ∷ [])) → IsThrough r is_kept f next more
through_step r is_kept f t next made more w next_is more_is = record {
  passed = w.passed + 1;
  next_is = next_is ∙ next_member r w.passed t (sym w.next_is);
  made_is =
      more_is ∙ (ap (λ l. l ++ map f (filter is_kept (t ∷ []))) w.made_is
      ∙ sym (ap (λ k. map f (filter is_kept (take k (members r)))) (add-one w.passed)
      ∙ (ap (λ l. map f (filter is_kept l)) (take_one (members r) w.passed t (sym w.next_is))
      ∙ (ap (map f) (filter-append is_kept (take w.passed (members r)) (t ∷ []))
      ∙ map-append f (filter is_kept (take w.passed (members r))) (filter is_kept (t ∷ []))))));
}

pub through_ends : (r : Region) (is_kept : List ℤ → Bool) (f : List ℤ → ℤ) (made : List ℤ) → IsThrough r is_kept f None made → made ≡ map f (filter is_kept (members r))
through_ends r is_kept f made w = w.made_is ∙ ap (λ l. map f (filter is_kept l)) (take_past (members r) w.passed (sym w.next_is))

-- less is left
pub fewer_left : (r : Region) (is_kept : List ℤ → Bool) (f : List ℤ → ℤ) (t : List ℤ) (next : Option (List ℤ)) (made : List ℤ) → All HasStep r.dims → IsThrough r is_kept f (Some t) made
    → next ≡ find (is_before t) (members r) → left r next < left r (Some t)
fewer_left r is_kept f t next made h w next_is = by_next next (next_is ∙ next_member r w.passed t (sym w.next_is))
  where
    inside : w.passed < length (members r)
    inside = slice_get_within (members r) w.passed t (sym w.next_is)

    here : place_among r.dims t ≡ w.passed
    here = only_place r t w.passed h (sym w.next_is)

    by_next : (n : Option (List ℤ)) → n ≡ slice_get (members r) (w.passed + 1) → left r n < left r (Some t)
    by_next None e = omega (arith, here, inside)
    by_next (Some u) e =
        let there : place_among r.dims u ≡ w.passed + 1 = only_place r u (w.passed + 1) h (sym e) in
        omega (arith, here, there, inside)

-- ---- the value at a tuple, by its place
pub element_is : (block : Region) (values : List ℤ) (t : List ℤ) (k : ℕ) → All HasStep block.dims → length values ≡ length (members block) → IsMember block t → k ≡ place_among block.dims t
    → get_or values k (pos 0) ≡ element (record { storage = block; values = values }) t
element_is block values t k h filled here at =
    let a : Array = record { storage = block; values = values } in
    ap (λ j. get_or values j (pos 0)) at
    ∙ sym (value_at_place a (place_among block.dims t) t (record { filled = filled; steps = h }) (place_of_tuple block.dims t h here))

pub within_is_some : (ms : List (List ℤ)) (i : ℕ) → i < length ms → slice_get ms i ≡ None → ⊥
within_is_some [] i h e = omega (arith, h)
within_is_some (m ∷ ms) zero h e = cc
within_is_some (m ∷ ms) (suc i) h e = within_is_some ms i (omega (arith, h)) e

pub member_at : (block : Region) (ms : List (List ℤ)) (i : ℕ) (t : List ℤ) → All (IsMember block) ms → slice_get ms i ≡ Some t → IsMember block t
member_at block ms i t all e = subst (IsMember block) (get_or_from_slice_get ms i t t e) (all i t (slice_get_within ms i t e))

pub none_from_default : {X : Type 0} (o : Option X) → ((x : X) → o ≡ Some x → ⊥) → o ≡ None
none_from_default None h = refl
none_from_default (Some x) h = absurd (h x refl)

-- ---- what is appended
pub appended : {X E : Type 0} (res : Result (Unit {0}) E) (new old more want : List X) → new ≡ (if is_ok res then old ++ more else old) → more ≡ want → OnOk res (new ≡ old ++ want)
appended (Ok u) new old more want e f = e ∙ ap (λ l. old ++ l) f
appended (Err x) new old more want e f = tt

-- what an accepted push leaves
pub pushed : {X E F : Type 0} (res : Result F E) (new old : List X) (x y : X) (z : F) → new ≡ (if is_ok res then old ++ x ∷ [] else old) → res ≡ Ok z → x ≡ y → new ≡ old ++ y ∷ []
pushed (Ok u) new old x y z e ok f = e ∙ ap (λ v. old ++ v ∷ []) f
pushed (Err u) new old x y z e ok f = absurd (cc)

pub nothing_more : {X : Type 0} (xs : List X) → xs ≡ xs ++ []
nothing_more [] = refl
nothing_more (x ∷ xs) = ap (λ l. x ∷ l) (nothing_more xs)
