-- Parameters and local variables: the frame that a procedure has is what is seen of the state.
use Rattle.std.proofs.Common.{◌≡◌, ℕ, zero, suc, ◌≤◌, ◌<◌, ℤ, List, []}
use Rattle.std.proofs.Common.{◌∷◌, ◌++◌, map, length, take, refl, sym, ap, ◌∙◌, subst}
use Rattle.std.proofs.Common.{arith, append_assoc, append-nil, length-append}
use Rattle.std.proofs.lemmas.List.{length-map}
use Rattle.zpl_arrays.specs.Array.{Array}
use Rattle.zpl_tree.specs.Syntax.{Name}
use Rattle.lowering_fits.specs.of_zpl_meaning.Store.{Thing, Scalar, ArrayAt, Fixed, Names, cut_back}
use Rattle.lowering_fits.specs.of_zpl_meaning.Variables.{with_scalar_named, with_new_scalar}
use Rattle.lowering_fits.specs.of_flat_form.Whole.{Whole}
use Rattle.lowering_fits.specs.of_zpl_lowering.Where.{Stored}
use Rattle.lowering_fits.specs.of_zpl_lowering.Program as low
use Rattle.lowering_fits.specs.of_zpl_lowering.Program.{Framed, Entry}
use Rattle.lowering_runs.specs.Seen.{scalar_in, array_in, Spot, At, Answer, seen_spot, seen_store, numbered, place_of, seen_thing, seen_names}
use Rattle.lowering_runs.specs.Stands.{Rises, Misses, IsKnown, AreKnown}
use Rattle.lowering_runs.specs.Frames.{seen_frame, AreAbove, Framing}
use Rattle.lowering_runs.proofs.NumberLemmas.{rises_on, rises_with}

-- ---- lists of spots

pub map_append : {A B : Type 0} (f : A → B) (xs ys : List A) → map f (xs ++ ys) ≡ map f xs ++ map f ys
map_append f [] ys = refl
map_append f (x ∷ xs) ys = ap (λ zs. f x ∷ zs) (map_append f xs ys)

pub numbered_append : (xs ys : List Spot) → numbered (xs ++ ys) ≡ numbered xs ++ numbered ys
numbered_append [] ys = refl
numbered_append (At k ∷ xs) ys = ap (λ zs. k ∷ zs) (numbered_append xs ys)
numbered_append (Answer value ∷ xs) ys = numbered_append xs ys

pub place_below : (xs ys : List Spot) (p : ℕ) → p < length (numbered xs)
    → place_of (xs ++ ys) p ≡ place_of xs p
place_below [] ys p lt = absurd (omega (arith, lt))
place_below (At k ∷ xs) ys zero lt = refl
place_below (At k ∷ xs) ys (suc p) lt = ap suc (place_below xs ys p (omega (arith, lt)))
place_below (Answer value ∷ xs) ys p lt = ap suc (place_below xs ys p lt)

pub place_next : (xs ys : List Spot) (k : ℕ)
    → place_of (xs ++ At k ∷ ys) (length (numbered xs)) ≡ length xs
place_next [] ys k = refl
place_next (At j ∷ xs) ys k = ap suc (place_next xs ys k)
place_next (Answer value ∷ xs) ys k = ap suc (place_next xs ys k)

pub thing_below : (xs ys : List Spot) (arrays : ℕ) (thing : Thing)
    → IsKnown (length (numbered xs)) arrays thing
    → seen_thing (xs ++ ys) thing ≡ seen_thing xs thing
thing_below xs ys arrays (Scalar p) lt = ap (λ q. Scalar q) (place_below xs ys p lt)
thing_below xs ys arrays (ArrayAt p home) h = refl
thing_below xs ys arrays (Fixed value) h = refl

pub names_below : (xs ys : List Spot) (arrays : ℕ) (names : Names)
    → AreKnown (length (numbered xs)) arrays names
    → seen_names (xs ++ ys) names ≡ seen_names xs names
names_below xs ys arrays [] h = refl
names_below xs ys arrays (entry ∷ names) h =
    ap (λ t. (entry.0, t) ∷ seen_names (xs ++ ys) names) (thing_below xs ys arrays entry.1 h.0)
    ∙ ap (λ rest. (entry.0, seen_thing xs entry.1) ∷ rest) (names_below xs ys arrays names h.1)

pub thing_more : (scalars more arrays : ℕ) (thing : Thing) → scalars ≤ more
    → IsKnown scalars arrays thing → IsKnown more arrays thing
thing_more scalars more arrays (Scalar p) le h = omega (arith, le, h)
thing_more scalars more arrays (ArrayAt p home) le h = h
thing_more scalars more arrays (Fixed value) le h = h

pub known_more : (scalars more arrays : ℕ) (names : Names) → scalars ≤ more
    → AreKnown scalars arrays names → AreKnown more arrays names
known_more scalars more arrays [] le h = tt
known_more scalars more arrays (entry ∷ names) le h =
    (thing_more scalars more arrays entry.1 le h.0, known_more scalars more arrays names le h.1)

pub known_both : (scalars arrays : ℕ) (names others : Names) → AreKnown scalars arrays names
    → AreKnown scalars arrays others → AreKnown scalars arrays (names ++ others)
known_both scalars arrays [] others h k = k
known_both scalars arrays (entry ∷ names) others h k =
    (h.0, known_both scalars arrays names others h.1 k)

above_with : (low : ℕ) (numbers : List ℕ) (k : ℕ) → low ≤ k → AreAbove low numbers
    → AreAbove low (numbers ++ k ∷ [])
above_with low [] k le h = (le, tt)
above_with low (number ∷ numbers) k le h = (h.0, above_with low numbers k le h.1)

pub misses_more : (numbers more : List ℕ) (low k : ℕ) → k < low → AreAbove low more
    → Misses numbers k → Misses (numbers ++ more) k
misses_more [] [] low k l a h = tt
misses_more [] (x ∷ more) low k l a h =
    ((λ e. absurd (omega (arith, l, a.0, e))), misses_more [] more low k l a.1 tt)
misses_more (x ∷ numbers) more low k l a h = (h.0, misses_more numbers more low k l a h.1)

cut_map : {A B : Type 0} (f g : A → B) (xs ys : List A)
    → take (length (map f xs)) (map g (xs ++ ys)) ≡ map g xs
cut_map f g [] ys = refl
cut_map f g (x ∷ xs) ys = ap (λ zs. g x ∷ zs) (cut_map f g xs ys)

-- the store without what has come behind
pub cut_seen : (base more : List Spot) (arrays : List Stored) (start after : Whole)
    → cut_back (seen_store base arrays start) (seen_store (base ++ more) arrays after)
    ≡ seen_store base arrays after
cut_seen base more arrays start after =
    ap (λ (xs : List ℤ). record (cut_back (seen_store base arrays start)
    (seen_store (base ++ more) arrays after)) { scalars = xs })
    (cut_map (seen_spot start) (seen_spot after) base more)
    ∙ ap (λ (xs : List Array). record (seen_store base arrays after) { arrays = xs })
    (ap (λ (ys : List Stored). take (length (map (λ s. array_in start s.array) arrays))
    (map (λ s. array_in after s.array) ys)) (sym (append-nil arrays))
    ∙ cut_map (λ (s : Stored). array_in start s.array) (λ s. array_in after s.array) arrays [])

-- ---- one scalar more

pub framing_with : (base : List Spot) (bottom : ℕ) (arrays : List Stored) (framed : Framed)
    (spots : List Spot) (bound k : ℕ) (name : Name) → bound ≤ k → bottom ≤ k
    → Framing base bottom arrays framed spots bound
    → Framing base bottom arrays (low.with_scalar framed name k) (spots ++ At k ∷ []) (suc k)
framing_with base bottom arrays framed spots bound k name le l h =
    let numbers : numbered (spots ++ At k ∷ []) ≡ numbered spots ++ k ∷ [] =
    numbered_append spots (At k ∷ []) in
    let longer : length (numbered spots) < length (numbered (spots ++ At k ∷ [])) =
    omega (arith, ap length numbers ∙ length-append (numbered spots) (k ∷ [])) in
    record {
      more = h.more ++ At k ∷ [];
      is = ap (λ (xs : List Spot). xs ++ At k ∷ []) h.is ∙ append_assoc base h.more (At k ∷ []);
      above = subst (λ (ks : List ℕ). AreAbove bottom ks) (sym (numbered_append h.more (At k ∷ [])))
          (above_with bottom (numbered h.more) k l h.above);
      numbers = numbers ∙ ap (λ (ks : List ℕ). ks ++ k ∷ []) h.numbers;
      arrays_are = h.arrays_are;
      rises = subst (λ (ks : List ℕ). Rises 0 ks (suc k)) (sym numbers)
          (rises_with 0 (numbered spots) k (suc k) (omega arith)
          (rises_on 0 (numbered spots) bound k le h.rises));
      known = known_both (length (numbered (spots ++ At k ∷ []))) (length arrays) framed.names _
          (known_more (length (numbered spots)) (length (numbered (spots ++ At k ∷ [])))
          (length arrays) framed.names (omega (arith, longer)) h.known)
          (omega (arith, longer, ap length h.numbers), tt);
    }

-- the frame with it
pub scalar_frame : (spots : List Spot) (framed : Framed) (arrays k : ℕ) (name : Name) (value : ℤ)
    (now after : Whole) → AreKnown (length (numbered spots)) arrays framed.names
    → numbered spots ≡ framed.numbers.scalars
    → map (seen_spot after) spots ≡ map (seen_spot now) spots → scalar_in after k ≡ value
    → map (λ (s : Stored). array_in after s.array) framed.numbers.arrays
    ≡ map (λ (s : Stored). array_in now s.array) framed.numbers.arrays
    → with_scalar_named (seen_frame spots framed now) name value
    ≡ seen_frame (spots ++ At k ∷ []) (low.with_scalar framed name k) after
scalar_frame spots framed arrays k name value now after known numbers same here stores =
    ap (λ (names : Names). record {
      names = names;
      store = with_new_scalar (seen_store spots framed.numbers.arrays now) value;
    })
    names_are
    ∙ ap (λ (xs : List ℤ). record {
      names = seen_names (spots ++ At k ∷ []) (low.with_scalar framed name k).names;
      store = record (seen_store spots framed.numbers.arrays now) { scalars = xs };
    }) scalars_are
    ∙ ap (λ (xs : List Array). record {
      names = seen_names (spots ++ At k ∷ []) (low.with_scalar framed name k).names;
      store = record (seen_store (spots ++ At k ∷ []) framed.numbers.arrays after) { arrays = xs };
    })
    (sym stores)
  where
    place_is : place_of (spots ++ At k ∷ []) (length framed.numbers.scalars)
        ≡ length (map (seen_spot now) spots)
    place_is =
        ap (λ (ks : List ℕ). place_of (spots ++ At k ∷ []) (length ks)) (sym numbers)
        ∙ place_next spots [] k ∙ sym (length-map spots (seen_spot now))

    names_are : seen_names spots framed.names
        ++ (name.text, Scalar (length (map (seen_spot now) spots))) ∷ []
        ≡ seen_names (spots ++ At k ∷ []) (low.with_scalar framed name k).names
    names_are =
        ap (λ (ns : Names). ns ++ (name.text, Scalar (length (map (seen_spot now) spots))) ∷ [])
        (sym (names_below spots (At k ∷ []) arrays framed.names known))
        ∙ ap (λ (p : ℕ). seen_names (spots ++ At k ∷ []) framed.names ++ (name.text, Scalar p) ∷ [])
        (sym place_is)
        ∙ sym (map_append (λ (e : List ℕ × Thing). (e.0, seen_thing (spots ++ At k ∷ []) e.1))
        framed.names ((name.text, Scalar (length framed.numbers.scalars)) ∷ []))

    scalars_are : map (seen_spot now) spots ++ value ∷ [] ≡ map (seen_spot after) (spots ++ At k ∷ [])
    scalars_are =
        ap (λ (xs : List ℤ). xs ++ value ∷ []) (sym same)
        ∙ ap (λ (v : ℤ). map (seen_spot after) spots ++ v ∷ []) (sym here)
        ∙ sym (map_append (seen_spot after) spots (At k ∷ []))
