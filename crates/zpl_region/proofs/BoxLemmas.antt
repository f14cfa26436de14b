-- Lemmas on regions and boxes.
use Rattle.std.proofs.Common.{◌≡◌, Bool, true, ◌&&◌, List, [], ◌∷◌, map, length, get_or, ℤ, pos, IsTrue, All, refl, sym, ◌∙◌, subst, inl}
use Rattle.std.specs.List.{AllZip}
use Rattle.std.proofs.lemmas.Bool.{and_from, and_parts}
use Rattle.std.proofs.lemmas.List.Elements.{All-contains}
use Rattle.zpl_region.specs.declared.dims.Dim.{Dim}
use Rattle.zpl_region.specs.declared.regions.Region.{Region}
use Rattle.zpl_region.specs.Dim.{coordinates, lies_within}
use Rattle.zpl_region.specs.Region.{components, each_lies_within, lies_in_box, members, tuples}
use Rattle.zpl_region.proofs.ListLemmas.{Among, Contains-from_among, all_from_among}
use Rattle.zpl_region.proofs.TupleLemmas.{Among-tuples, among_tuples}
use Rattle.zpl_region.proofs.RegionLemmas.{three_components, three_dims}

pass : {X : Type 0} (p : X → Bool) (xs : List X) (x : X) → All (λ y. IsTrue (p y)) xs → Among xs x → IsTrue (p x)
pass p xs x all m = All-contains (λ y. IsTrue (p y)) xs x all (Contains-from_among xs x m)

some_member : {X : Type 0} (xs : List X) → (xs ≡ [] → ⊥) → (x : X) × Among xs x
some_member [] none = absurd (none refl)
some_member (x ∷ xs) none = (x, inl refl)

module _ (l m n h i j : ℤ) (a b c : Dim) where
  abbrev in_box : List ℤ → Bool
  in_box t = each_lies_within (l ∷ m ∷ n ∷ []) (h ∷ i ∷ j ∷ []) (a ∷ b ∷ c ∷ []) t

  abbrev inside_each : Type 0
  inside_each = All (λ x. IsTrue (lies_within l h a x)) (coordinates a) × All (λ x. IsTrue (lies_within m i b x)) (coordinates b) × All (λ x. IsTrue (lies_within n j c x)) (coordinates c)

  in_box_from : (t : List ℤ) → inside_each → AllZip Among (coordinates a ∷ coordinates b ∷ coordinates c ∷ []) t → IsTrue (in_box t)
  in_box_from [] all z = absurd z
  in_box_from (x ∷ []) all z = absurd z.1
  in_box_from (x ∷ y ∷ []) all z = absurd z.1.1
  in_box_from (x ∷ y ∷ w ∷ []) all z =
      and_from (lies_within l h a x) (lies_within m i b y && (lies_within n j c w && true)) (pass (lies_within l h a) (coordinates a) x all.0 z.0)
      (and_from (lies_within m i b y) (lies_within n j c w && true) (pass (lies_within m i b) (coordinates b) y all.1 z.1.0)
      (and_from (lies_within n j c w) true (pass (lies_within n j c) (coordinates c) w all.2 z.1.1.0) refl))
  in_box_from (x ∷ y ∷ w ∷ v ∷ t) all z = absurd z.1.1.1

  parts_in_box : (x y w : ℤ) → IsTrue (in_box (x ∷ y ∷ w ∷ [])) → IsTrue (lies_within l h a x) × IsTrue (lies_within m i b y) × IsTrue (lies_within n j c w)
  parts_in_box x y w e =
      let p = and_parts (lies_within l h a x) (lies_within m i b y && (lies_within n j c w && true)) e in
      let q = and_parts (lies_within m i b y) (lies_within n j c w && true) p.1 in
      let r = and_parts (lies_within n j c w) true q.1 in
      (p.0, q.0, r.0)

  all_in_box : inside_each → All (λ t. IsTrue (in_box t)) (tuples (map coordinates (a ∷ b ∷ c ∷ [])))
  all_in_box all =
      all_from_among (λ t. IsTrue (in_box t)) (tuples (map coordinates (a ∷ b ∷ c ∷ []))) (λ t m. in_box_from t all (among_tuples (map coordinates (a ∷ b ∷ c ∷ [])) t m))

  each_in_box : (t : List ℤ) → AllZip Among (coordinates a ∷ coordinates b ∷ coordinates c ∷ []) t → All (λ t. IsTrue (in_box t)) (tuples (map coordinates (a ∷ b ∷ c ∷ []))) → inside_each
  each_in_box [] z all = absurd z
  each_in_box (x ∷ []) z all = absurd z.1
  each_in_box (x ∷ y ∷ []) z all = absurd z.1.1
  each_in_box (x ∷ y ∷ w ∷ []) z all = (
    all_from_among (λ u. IsTrue (lies_within l h a u)) (coordinates a) (λ u k. (parts_in_box u y w (box (u ∷ y ∷ w ∷ []) (k, z.1))).0),
    all_from_among (λ u. IsTrue (lies_within m i b u)) (coordinates b) (λ u k. (parts_in_box x u w (box (x ∷ u ∷ w ∷ []) (z.0, (k, z.1.1)))).1),
    all_from_among (λ u. IsTrue (lies_within n j c u)) (coordinates c) (λ u k. (parts_in_box x y u (box (x ∷ y ∷ u ∷ []) (z.0, (z.1.0, (k, tt))))).2),
  )
    where
      box : (t : List ℤ) → AllZip Among (coordinates a ∷ coordinates b ∷ coordinates c ∷ []) t → IsTrue (in_box t)
      box t k = pass in_box (tuples (map coordinates (a ∷ b ∷ c ∷ []))) t all (Among-tuples (map coordinates (a ∷ b ∷ c ∷ [])) t k)
  each_in_box (x ∷ y ∷ w ∷ v ∷ t) z all = absurd z.1.1.1

-- the same at a region and at vectors of three components
module _ (r : Region) (lo hi v w : List ℤ) (e : Dim) (v_is : v ≡ components r.rank lo) (w_is : w ≡ components r.rank hi) (wide : length v ≡ 3) (high : length w ≡ 3) (three : length r.dims ≡ 3) where
  abbrev pub InsideEach : Type 0
  InsideEach = All (λ x. IsTrue (lies_within (get_or v 0 (pos 0)) (get_or w 0 (pos 0)) (get_or r.dims 0 e) x)) (coordinates (get_or r.dims 0 e))
      × All (λ x. IsTrue (lies_within (get_or v 1 (pos 0)) (get_or w 1 (pos 0)) (get_or r.dims 1 e) x)) (coordinates (get_or r.dims 1 e))
      × All (λ x. IsTrue (lies_within (get_or v 2 (pos 0)) (get_or w 2 (pos 0)) (get_or r.dims 2 e) x)) (coordinates (get_or r.dims 2 e))

  abbrev AllIn : List ℤ → List ℤ → List Dim → Type 0
  AllIn l h dims = All (λ t. IsTrue (each_lies_within l h dims t)) (tuples (map coordinates dims))

  pub all_within : InsideEach → All (λ t. IsTrue (lies_in_box lo hi r t)) (members r)
  all_within all =
      subst (λ l. AllIn l (components r.rank hi) r.dims) (three_components v (pos 0) wide ∙ v_is)
      (subst (λ h. AllIn (get_or v 0 (pos 0) ∷ get_or v 1 (pos 0) ∷ get_or v 2 (pos 0) ∷ []) h r.dims) (three_components w (pos 0) high ∙ w_is)
      (subst (λ d. AllIn (get_or v 0 (pos 0) ∷ get_or v 1 (pos 0) ∷ get_or v 2 (pos 0) ∷ []) (get_or w 0 (pos 0) ∷ get_or w 1 (pos 0) ∷ get_or w 2 (pos 0) ∷ []) d) (three_dims r.dims e three)
      (all_in_box (get_or v 0 (pos 0)) (get_or v 1 (pos 0)) (get_or v 2 (pos 0)) (get_or w 0 (pos 0)) (get_or w 1 (pos 0)) (get_or w 2 (pos 0)) (get_or r.dims 0 e) (get_or r.dims 1 e) (get_or r.dims 2 e) all)))

  pub each_within : (members r ≡ [] → ⊥) → All (λ t. IsTrue (lies_in_box lo hi r t)) (members r) → InsideEach
  each_within some all =
      let dims = three_dims r.dims e three in
      let t = some_member (members r) some in
      let k = among_tuples (map coordinates r.dims) t.0 t.1 in
      each_in_box (get_or v 0 (pos 0)) (get_or v 1 (pos 0)) (get_or v 2 (pos 0)) (get_or w 0 (pos 0)) (get_or w 1 (pos 0)) (get_or w 2 (pos 0)) (get_or r.dims 0 e) (get_or r.dims 1 e) (get_or r.dims 2 e)
      t.0 (subst (λ d. AllZip Among (map coordinates d) t.0) (sym dims) k)
      (subst (λ d. AllIn (get_or v 0 (pos 0) ∷ get_or v 1 (pos 0) ∷ get_or v 2 (pos 0) ∷ []) (get_or w 0 (pos 0) ∷ get_or w 1 (pos 0) ∷ get_or w 2 (pos 0) ∷ []) d) (sym dims)
      (subst (λ h. AllIn (get_or v 0 (pos 0) ∷ get_or v 1 (pos 0) ∷ get_or v 2 (pos 0) ∷ []) h r.dims) (sym (three_components w (pos 0) high ∙ w_is))
      (subst (λ l. AllIn l (components r.rank hi) r.dims) (sym (three_components v (pos 0) wide ∙ v_is)) all)))
