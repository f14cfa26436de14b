-- Values that are read at some tuples, and what is made of them line by line.
use Rattle.std.proofs.Common.{◌≡◌, ℕ, zero, suc, Bool, true, false, cond, Some, None, List, [], ◌∷◌, ◌++◌, All, map, take, length, get_or, slice_get, ℤ, refl, sym, ap, ◌∙◌, inl, inr, append_assoc}
use Rattle.std.specs.Prelude.{Option, option_and_then}
use Rattle.std.specs.List.{filter, fold}
use Rattle.std.specs.Option.{option_map}
use Rattle.std.proofs.lemmas.List.{map-append}
use Rattle.std.proofs.lemmas.List.Elements.{filter-append}
use Rattle.zpl_nums.specs.declared.folds.Fold.{Fold}
use Rattle.zpl_nums.specs.Fold.{joined}
use Rattle.zpl_region.specs.declared.regions.Region.{Region}
use Rattle.zpl_region.specs.Dim.{HasStep}
use Rattle.zpl_region.specs.Region.{IsMember, members}
use Rattle.zpl_region.proofs.ListLemmas.{Among, cons_same}
use Rattle.zpl_arrays.specs.Array.{Array, place_among}
use Rattle.zpl_arrays.specs.Row.{joined_with, kept_values, running}
use Rattle.zpl_arrays.proofs.ArrayLemmas.{place_of_tuple}
use Rattle.grid_meaning.specs.Delivery.{each_word}
use Rattle.grid_meaning.specs.Local.{Local}
use Rattle.grid_meaning.specs.Place.{with_value, with_values}
use Rattle.grid_meaning.specs.Scan.{scan_value, scan_values}
use Rattle.scan_plan.specs.Line.{is_along, value_at}

-- ---- each of some words
pub each_some : (word : List ℤ → Option ℤ) (g : List ℤ → ℤ) (ts : List (List ℤ)) → ((t : List ℤ) → Among ts t → word t ≡ Some (g t))
    → each_word word ts ≡ Some (map g ts)
each_some word g [] all = refl
each_some word g (t ∷ ts) all =
    ap (option_and_then (λ value. option_map (λ rest. value ∷ rest) (each_word word ts))) (all t (inl refl))
    ∙ ap (option_map (λ rest. g t ∷ rest)) (each_some word g ts (λ u m. all u (inr m)))

pub each_none : (word : List ℤ → Option ℤ) (ts : List (List ℤ)) (t : List ℤ) → Among ts t → word t ≡ None → each_word word ts ≡ None
each_none word [] t m none = absurd m
each_none word (u ∷ ts) t (inl same) none =
    ap (option_and_then (λ value. option_map (λ rest. value ∷ rest) (each_word word ts))) (ap word same ∙ none)
each_none word (u ∷ ts) t (inr m) none = by (word u) (each_none word ts t m none)
  where
    by : (value : Option ℤ) → each_word word ts ≡ None → option_and_then (λ v. option_map (λ rest. v ∷ rest) (each_word word ts)) value ≡ None
    by None rest = refl
    by (Some v) rest = ap (option_map (λ l. v ∷ l)) rest

-- ---- the values that a scan counts
module _ (local : Local) (from : ℕ) (mask : Option ℕ) where
  value_of : List ℤ → Option (Option ℤ)
  value_of t = scan_value local from mask t

  pub values_some : (w : List ℤ → Option ℤ) (ts : List (List ℤ)) → ((t : List ℤ) → Among ts t → scan_value local from mask t ≡ Some (w t))
      → scan_values local from mask ts ≡ Some (map w ts)
  values_some w [] all = refl
  values_some w (t ∷ ts) all =
      ap (option_and_then (λ value. option_map (λ rest. value ∷ rest) (scan_values local from mask ts))) (all t (inl refl))
      ∙ ap (option_map (λ rest. w t ∷ rest)) (values_some w ts (λ u m. all u (inr m)))

  pub values_none : (ts : List (List ℤ)) (t : List ℤ) → Among ts t → scan_value local from mask t ≡ None → scan_values local from mask ts ≡ None
  values_none [] t m none = absurd m
  values_none (u ∷ ts) t (inl same) none =
      ap (option_and_then (λ value. option_map (λ rest. value ∷ rest) (scan_values local from mask ts))) (ap (scan_value local from mask) same ∙ none)
  values_none (u ∷ ts) t (inr m) none = by (scan_value local from mask u) (values_none ts t m none)
    where
      by : (value : Option (Option ℤ)) → scan_values local from mask ts ≡ None
          → option_and_then (λ v. option_map (λ rest. v ∷ rest) (scan_values local from mask ts)) value ≡ None
      by None rest = refl
      by (Some v) rest = ap (option_map (λ l. v ∷ l)) rest

  -- what is told of all values, and of one that lacks
  pub record AreRead (ts : List (List ℤ)) (vs : List (Option ℤ)) : Type 0 where
    pub many : length vs ≡ length ts
    pub each : (i : ℕ) (t : List ℤ) → slice_get ts i ≡ Some t → scan_value local from mask t ≡ Some (get_or vs i None)

  pub are_read : (ts : List (List ℤ)) (vs : List (Option ℤ)) → scan_values local from mask ts ≡ Some vs → AreRead ts vs
  are_read [] vs is =
      let same : [] ≡ vs = cc in
      record { many = sym (ap length same); each = λ i t there. cc }
  are_read (t ∷ ts) vs is = by (scan_value local from mask t) (scan_values local from mask ts) refl is (are_read ts)
    where
      by : (value : Option (Option ℤ)) (rest : Option (List (Option ℤ))) → scan_value local from mask t ≡ value
          → option_and_then (λ v. option_map (λ r. v ∷ r) rest) value ≡ Some vs
          → ((ws : List (Option ℤ)) → rest ≡ Some ws → AreRead ts ws) → AreRead (t ∷ ts) vs
      by None rest here e more = cc
      by (Some v) None here e more = cc
      by (Some v) (Some ws) here e more =
          let same : v ∷ ws ≡ vs = cc in
          let others = more ws refl in
          record {
            many = sym (ap length same) ∙ ap suc others.many;
            each = λ i u there. told i u there ∙ ap (λ l. Some (get_or l i None)) same;
          }
        where
          told : (i : ℕ) (u : List ℤ) → slice_get (t ∷ ts) i ≡ Some u → scan_value local from mask u ≡ Some (get_or (v ∷ ws) i None)
          told zero u there = let first : t ≡ u = cc in ap (scan_value local from mask) (sym first) ∙ here
          told (suc i) u there = (more ws refl).each i u there

  pub record Lacks (ts : List (List ℤ)) : Type 0 where
    pub tuple : List ℤ
    pub here : Among ts tuple
    pub none : scan_value local from mask tuple ≡ None

  pub lacking : (ts : List (List ℤ)) → scan_values local from mask ts ≡ None → Lacks ts
  lacking [] is = cc
  lacking (t ∷ ts) is = by (scan_value local from mask t) (scan_values local from mask ts) refl refl is (lacking ts)
    where
      by : (value : Option (Option ℤ)) (rest : Option (List (Option ℤ))) → scan_value local from mask t ≡ value → scan_values local from mask ts ≡ rest
          → option_and_then (λ v. option_map (λ r. v ∷ r) rest) value ≡ None
          → (scan_values local from mask ts ≡ None → Lacks ts) → Lacks (t ∷ ts)
      by None rest here later e further = record { tuple = t; here = inl refl; none = here }
      by (Some v) None here later e further =
          let more = further later in
          record { tuple = more.tuple; here = inr more.here; none = more.none }
      by (Some v) (Some ws) here later e further = cc

  -- by the places of the tuples
  pub value_there : (r : Region) (vs : List (Option ℤ)) (t : List ℤ) → All HasStep r.dims → scan_values local from mask (members r) ≡ Some vs
      → IsMember r t → scan_value local from mask t ≡ Some (value_at r vs t)
  value_there r vs t steps is here = (are_read (members r) vs is).each (place_among r.dims t) t (place_of_tuple r.dims t steps here)

-- ---- the running scan of a line
fold_one : (op : Fold) (a : ℤ) (xs : List ℤ) (v : Option ℤ) → fold (joined op) a (xs ++ kept_values (v ∷ [])) ≡ joined_with op (fold (joined op) a xs) v
fold_one op a [] None = refl
fold_one op a [] (Some v) = refl
fold_one op a (x ∷ xs) v = fold_one op (joined op a x) xs v

kept-append : (xs ys : List (Option ℤ)) → kept_values (xs ++ ys) ≡ kept_values xs ++ kept_values ys
kept-append [] ys = refl
kept-append (Some x ∷ xs) ys = ap (λ l. x ∷ l) (kept-append xs ys)
kept-append (None ∷ xs) ys = kept-append xs ys

module _ (op : Fold) (k : ℕ) (value : List ℤ → Option ℤ) (h : List ℤ) (b : ℤ) where
  -- the fold of what some tuples have on the line
  abbrev pub so_far : List (List ℤ) → ℤ
  so_far ts = fold (joined op) b (kept_values (map value (filter (is_along k h) ts)))

  one_passes : (ts : List (List ℤ)) (t : List ℤ) → is_along k h t ≡ true → so_far (ts ++ t ∷ []) ≡ joined_with op (so_far ts) (value t)
  one_passes ts t on =
      ap (λ l. fold (joined op) b (kept_values (map value l)))
      (filter-append (is_along k h) ts (t ∷ []) ∙ ap (λ c. filter (is_along k h) ts ++ cond c (t ∷ []) []) on)
      ∙ (ap (λ l. fold (joined op) b (kept_values l)) (map-append value (filter (is_along k h) ts) (t ∷ []))
      ∙ (ap (fold (joined op) b) (kept-append (map value (filter (is_along k h) ts)) (value t ∷ []))
      ∙ fold_one op b (kept_values (map value (filter (is_along k h) ts))) (value t)))

  none_passes : (ts : List (List ℤ)) (t : List ℤ) → is_along k h t ≡ false → so_far (ts ++ t ∷ []) ≡ so_far ts
  none_passes ts t off =
      ap (λ l. fold (joined op) b (kept_values (map value l)))
      (filter-append (is_along k h) ts (t ∷ []) ∙ (ap (λ c. filter (is_along k h) ts ++ cond c (t ∷ []) []) off ∙ nothing_more (filter (is_along k h) ts)))
    where
      nothing_more : (xs : List (List ℤ)) → xs ++ [] ≡ xs
      nothing_more [] = refl
      nothing_more (x ∷ xs) = ap (λ l. x ∷ l) (nothing_more xs)

  running_from : (g : List ℤ → ℤ) (ms pre : List (List ℤ)) (a : ℤ) → a ≡ so_far pre
      → ((i : ℕ) (t : List ℤ) → slice_get ms i ≡ Some t → is_along k h t ≡ true → g t ≡ so_far (pre ++ take (suc i) ms))
      → running op a (map value (filter (is_along k h) ms)) ≡ map g (filter (is_along k h) ms)
  running_from g [] pre a is all = refl
  running_from g (t ∷ ms) pre a is all = by (is_along k h t) refl (λ b is_b. running_from g ms (pre ++ t ∷ []) b is_b more)
    where
      more : (i : ℕ) (u : List ℤ) → slice_get ms i ≡ Some u → is_along k h u ≡ true → g u ≡ so_far ((pre ++ t ∷ []) ++ take (suc i) ms)
      more i u there on = all (suc i) u there on ∙ ap so_far (sym (append_assoc pre (t ∷ []) (take (suc i) ms)))

      by : (c : Bool) → is_along k h t ≡ c
          → ((z : ℤ) → z ≡ so_far (pre ++ t ∷ []) → running op z (map value (filter (is_along k h) ms)) ≡ map g (filter (is_along k h) ms))
          → running op a (map value (cond c (t ∷ filter (is_along k h) ms) (filter (is_along k h) ms))) ≡ map g (cond c (t ∷ filter (is_along k h) ms) (filter (is_along k h) ms))
      by true on further =
          let step : joined_with op a (value t) ≡ so_far (pre ++ t ∷ []) = ap (λ z. joined_with op z (value t)) is ∙ sym (one_passes pre t on) in
          cons_same (step ∙ sym (all 0 t refl on)) (further (joined_with op a (value t)) step)
      by false off further = further a (is ∙ sym (none_passes pre t off))

  pub running_line : (g : List ℤ → ℤ) (ms : List (List ℤ))
      → ((i : ℕ) (t : List ℤ) → slice_get ms i ≡ Some t → is_along k h t ≡ true → g t ≡ so_far (take (suc i) ms))
      → running op b (map value (filter (is_along k h) ms)) ≡ map g (filter (is_along k h) ms)
  running_line g ms all = running_from g ms [] b refl all

-- ---- values written at one list of tuples after another
pub with_more : (array : ℕ) (g : List ℤ → ℤ) (xs ys : List (List ℤ)) (stores : List Array)
    → with_values array (xs ++ ys) (map g (xs ++ ys)) stores
    ≡ option_and_then (with_values array ys (map g ys)) (with_values array xs (map g xs) stores)
with_more array g [] ys stores = refl
with_more array g (x ∷ xs) ys stores = by (with_value stores array x (g x)) (with_more array g xs ys)
  where
    by : (found : Option (List Array))
        → ((next : List Array) → with_values array (xs ++ ys) (map g (xs ++ ys)) next ≡ option_and_then (with_values array ys (map g ys)) (with_values array xs (map g xs) next))
        → option_and_then (with_values array (xs ++ ys) (map g (xs ++ ys))) found
        ≡ option_and_then (with_values array ys (map g ys)) (option_and_then (with_values array xs (map g xs)) found)
    by None rest = refl
    by (Some next) rest = rest next

pub map_among : {X Y : Type 0} (f g : X → Y) (xs : List X) → ((x : X) → Among xs x → f x ≡ g x) → map f xs ≡ map g xs
map_among f g [] same = refl
map_among f g (x ∷ xs) same = cons_same (same x (inl refl)) (map_among f g xs (λ y m. same y (inr m)))
