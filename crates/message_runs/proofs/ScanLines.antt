-- Lines of a processor's part, and their first tuples, as a scan's row and as plans have them.
use Rattle.std.proofs.Common.{◌≡◌, refl, sym, ◌∙◌, ap, subst, ℕ, zero, suc, ◌+◌, ◌-◌, ◌<◌, ◌==◌, Bool, true, false, ◌&&◌, ◌||◌, cond, List, [], ◌∷◌, ◌++◌, ℤ, pos, ◌≤ℤ◌, length, map, drop, take, replicate, get_or, slice_get, All, Option, Some, None, append_assoc, arith}
use Rattle.std.specs.Prelude.{if◌then◌else◌}
use Rattle.std.specs.List.{AllZip, filter, fold}
use Rattle.std.specs.Int.RustNames.{int_lt}
use Rattle.std.specs.Ordering.{int_eq}
use Rattle.std.proofs.lemmas.Bool.{and_parts}
use Rattle.std.proofs.lemmas.Bool.Decides.{Decides-int_eq, nat_tests}
use Rattle.std.proofs.lemmas.Int.{ints}
use Rattle.std.proofs.lemmas.List.{map-append}
use Rattle.std.proofs.lemmas.List.Elements.{All-head, All-tail, filter-append}
use Rattle.zpl_nums.specs.declared.folds.Fold.{Fold}
use Rattle.zpl_nums.specs.Fold.{joined}
use Rattle.zpl_region.specs.declared.dims.Dim.{Dim}
use Rattle.zpl_region.specs.declared.dims.Dim.TheVariants.{Range, Flood}
use Rattle.zpl_region.specs.declared.regions.Region.{Region}
use Rattle.zpl_region.specs.Dim.{HasStep, IsCoordinate, coordinates}
use Rattle.zpl_region.specs.Ends.{coordinate_count, first_of, has_none}
use Rattle.zpl_region.specs.Hull.{all_from}
use Rattle.zpl_region.specs.Region.{IsMember, is_before, members, padding, tuples}
use Rattle.zpl_region.proofs.DimLemmas.{Among-coordinates, Rises-coordinates, among_coordinates}
use Rattle.zpl_region.proofs.EndLemmas.{Among-first, first_member, length-coordinates}
use Rattle.zpl_region.proofs.LawLemmas.{members_iff}
use Rattle.zpl_region.proofs.ListLemmas.{Among, Among-filter, Contains-from_among, Rises-filter, among_filtered, among_from_Contains, cons_same, int_eq-true, int_lt-false, same_ascending}
use Rattle.zpl_region.proofs.TupleLemmas.{filter-tuples}
use Rattle.zpl_arrays.specs.Row.{joined_with, kept_values, running}
use Rattle.zpl_arrays.specs.Scan.{is_below, is_earlier_line, is_same_tuple}
use Rattle.grid_layout.proofs.PartLemmas.{filter_among}
use Rattle.node_form.specs.declared.tables.Tables.{Tables}
use Rattle.grid_meaning.specs.Owner.{tuples_of}
use Rattle.grid_meaning.specs.Place.{own_part}
use Rattle.grid_meaning.specs.Scan.{line_heads, line_of, line_start, with_coordinate}
use Rattle.scan_plan.specs.Line.{changed_at, first_alone, heads, is_along}
use Rattle.scan_plan.proofs.BehindLemmas.{not_before_itself}
use Rattle.scan_plan.proofs.LineLemmas.{as_long, same_from_test, same_tuple}
use Rattle.scan_plan.proofs.StepLemmas.{line_fold}
use Rattle.message_runs.proofs.GatherRows.{met_steps}

-- ---- the tuples of a region
pub among_is : (r : Region) (t : List ℤ) → All HasStep r.dims → Among (members r) t → IsMember r t
among_is r t steps among = (members_iff r t steps).0 (Contains-from_among (members r) t among)

pub is_among : (r : Region) (t : List ℤ) → All HasStep r.dims → IsMember r t → Among (members r) t
is_among r t steps is = among_from_Contains (members r) t ((members_iff r t steps).1 is)

and_true : (b : Bool) → (b && true) ≡ b
and_true true = refl
and_true false = refl

all_kept : {X : Type 0} (p : X → Bool) (xs : List X) → ((x : X) → p x ≡ true) → xs ≡ filter p xs
all_kept p [] all = refl
all_kept p (x ∷ xs) all =
    ap (λ l. x ∷ l) (all_kept p xs all)
    ∙ sym (ap (λ b. cond b (x ∷ filter p xs) (filter p xs)) (all x))

no_elements : (xs : List ℤ) → length xs ≡ 0 → xs ≡ []
no_elements [] e = refl
no_elements (x ∷ xs) e = absurd (omega (arith, e))

-- ---- one line
along_is : (k : ℕ) (h g : List ℤ) → k < length h → length g ≡ length h
    → is_along k h g ≡ is_same_tuple h (with_coordinate k (get_or h k (pos 0)) g)
along_is k [] g low long = absurd (omega arith)
along_is k (x ∷ h) [] low long = absurd (omega (arith, long))
along_is zero (x ∷ h) (y ∷ g) low long =
    sym (ap (λ b. b && is_same_tuple h g) (int_eq-true x))
along_is (suc k) (x ∷ h) (y ∷ g) low long =
    ap (λ b. int_eq y x && b) (along_is k h g (omega arith) (omega (arith, long)))

-- ---- the first tuples of lines
abbrev is_first : ℕ → ℤ → List ℤ → Bool
is_first k start t = is_same_tuple t (with_coordinate k start t)

first_test : (k : ℕ) (start : ℤ) (t : List ℤ) → k < length t
    → is_first k start t ≡ int_eq start (get_or t k (pos 0))
first_test k start [] low = absurd (omega arith)
first_test zero start (x ∷ t) low =
    ap (λ b. int_eq start x && b) (same_tuple t) ∙ and_true (int_eq start x)
first_test (suc k) start (x ∷ t) low =
    ap (λ b. b && is_first k start t) (int_eq-true x) ∙ first_test k start t (omega arith)

first_coordinates : (d : Dim) → HasStep d
    → coordinates (first_alone d) ≡ filter (λ x. int_eq (first_of d) x) (coordinates d)
first_coordinates Flood step = refl
first_coordinates (Range lo hi step align) has =
    by (coordinate_count (Range lo hi step align) == 0) refl
  where
    d : Dim
    d = Range lo hi step align

    f : ℤ
    f = first_of (Range lo hi step align)

    one : HasStep (all_from f f)
    one = omega (arith, ints)

    here : (x : ℤ) → x ≡ f → IsCoordinate (all_from f f) x
    here x is = (omega (arith, ints, is), omega (arith, ints, is), (pos 0, omega (arith, ints, is)))

    there : 0 < coordinate_count d → (x : ℤ) → Among (coordinates (all_from f f)) x
        → Among (filter (λ y. int_eq f y) (coordinates d)) x
    there some x among =
        let is = among_coordinates (all_from f f) x one among in
        let same : f ≡ x = omega (arith, ints, is.0, is.1) in
        Among-filter (λ y. int_eq f y) (coordinates d) x
        (subst (Among (coordinates d)) same (Among-first d has some)) ((Decides-int_eq f x).1 same)

    back : (x : ℤ) → Among (filter (λ y. int_eq f y) (coordinates d)) x
        → Among (coordinates (all_from f f)) x
    back x among =
        let passed = among_filtered (λ y. int_eq f y) (coordinates d) x among in
        Among-coordinates (all_from f f) x one (here x (sym ((Decides-int_eq f x).0 passed.1)))

    by : (b : Bool) → (coordinate_count d == 0) ≡ b
        → coordinates (if b then d else all_from f f) ≡ filter (λ x. int_eq f x) (coordinates d)
    by true e =
        let none : coordinate_count d ≡ 0 = grind (arith, nat_tests) in
        let empty : coordinates d ≡ [] =
        no_elements (coordinates d) (length-coordinates d has ∙ none) in
        empty ∙ sym (ap (filter (λ x. int_eq f x)) empty)
    by false e =
        let some : 0 < coordinate_count d = grind (arith, nat_tests) in
        same_ascending (coordinates (all_from f f)) (filter (λ x. int_eq f x) (coordinates d))
        (Rises-coordinates (all_from f f))
        (Rises-filter _ (λ x. int_eq f x) (coordinates d) (Rises-coordinates d)) (there some) back

first_tuples : (k : ℕ) (dims : List Dim) → k < length dims → All HasStep dims
    → tuples (map coordinates (changed_at k first_alone dims))
    ≡ filter (is_first k (first_of (get_or dims k Flood))) (tuples (map coordinates dims))
first_tuples k [] low steps = absurd (omega arith)
first_tuples zero (d ∷ dims) low steps =
    ap (λ xs. tuples (xs ∷ map coordinates dims))
    (first_coordinates d (All-head HasStep d dims steps))
    ∙ sym (filter-tuples (λ x. int_eq (first_of d) x) (λ t. is_same_tuple t t)
    (is_first 0 (first_of d)) (λ x t. refl) (coordinates d) (map coordinates dims)
    (map coordinates dims)
    (all_kept (λ t. is_same_tuple t t) (tuples (map coordinates dims)) same_tuple))
first_tuples (suc k) (d ∷ dims) low steps =
    let first = first_of (get_or dims k Flood) in
    ap (λ xs. tuples (xs ∷ map coordinates (changed_at k first_alone dims)))
    (all_kept (λ x. int_eq x x) (coordinates d) int_eq-true)
    ∙ sym (filter-tuples (λ x. int_eq x x) (is_first k first) (is_first (suc k) first) (λ x t. refl)
    (coordinates d) (map coordinates dims) (map coordinates (changed_at k first_alone dims))
    (first_tuples k dims (omega arith) (All-tail HasStep d dims steps)))

heads_are_first : (k : ℕ) (r : Region) → k < length r.dims → All HasStep r.dims
    → members (heads k r) ≡ filter (is_first k (first_of (get_or r.dims k Flood))) (members r)
heads_are_first k r low steps = first_tuples k r.dims low steps

pub head_is : (k : ℕ) (r : Region) (h : List ℤ) → k < length r.dims → All HasStep r.dims
    → Among (members (heads k r)) h → IsMember r h
head_is k r h low steps among =
    among_is r h steps
    (among_filtered (is_first k (first_of (get_or r.dims k Flood))) (members r) h
    (subst (λ ts. Among ts h) (heads_are_first k r low steps) among)).0

-- ---- the part in the own block, which two regions tell
first_at : (k : ℕ) (dims : List Dim)
    → first_of (get_or dims k Flood) ≡ get_or (map first_of dims) k (pos 0)
first_at k [] = refl
first_at zero (d ∷ dims) = refl
first_at (suc k) (d ∷ dims) = first_at k dims

first_from : (r : Region) (t : List ℤ) (ts : List (List ℤ)) → All HasStep r.dims
    → members r ≡ t ∷ ts → t ≡ map first_of r.dims
first_from r t ts steps is =
    by (has_none r) (sym (first_member r steps) ∙ ap (λ l. slice_get l 0) is)
  where
    by : (b : Bool) → (if b then None else Some (map first_of r.dims)) ≡ Some t
        → t ≡ map first_of r.dims
    by true e = cc
    by false e = let same : map first_of r.dims ≡ t = cc in sym same

module _ (code : Tables) (q k : ℕ) (region part : Region) (low : k < length part.dims)
    (steps : All HasStep part.dims) (same : members part ≡ tuples_of code q region) where
  pub heads_told : All HasStep region.dims
      → members (heads k part) ≡ line_heads code q region k
  heads_told whole =
      heads_are_first k part low steps
      ∙ (by (tuples_of code q region) refl
      ∙ ap (filter (is_first k (line_start code q region k))) same)
    where
      own : Region
      own = own_part code q region

      own_steps : All HasStep own.dims
      own_steps = met_steps _ _ region.dims whole

      place : k + 1 - 1 ≡ k
      place = omega arith

      by : (ts : List (List ℤ)) → tuples_of code q region ≡ ts
          → filter (is_first k (first_of (get_or part.dims k Flood))) (members part)
          ≡ filter (is_first k (line_start code q region k)) (members part)
      by [] is =
          ap (filter (is_first k (first_of (get_or part.dims k Flood)))) (same ∙ is)
          ∙ sym (ap (filter (is_first k (line_start code q region k))) (same ∙ is))
      by (t ∷ ts) is =
          let firsts : map first_of part.dims ≡ map first_of own.dims =
          sym (first_from part t ts steps (same ∙ is)) ∙ first_from own t ts own_steps is in
          ap (λ start. filter (is_first k start) (members part))
          (first_at k part.dims ∙ (ap (λ list. get_or list k (pos 0)) firsts
          ∙ (sym (first_at k own.dims)
          ∙ ap (λ n. first_of (get_or own.dims n Flood)) (sym place))))

  -- a line, by its first tuple
  pub line_told : (h : List ℤ) → IsMember part h
      → line_of code q region k h ≡ filter (is_along k h) (members part)
  line_told h head =
      let long = as_long part.dims h head in
      let on : List ℤ → Bool =
      λ t. is_same_tuple h (with_coordinate k (get_or h k (pos 0)) t) in
      sym (ap (filter on) same)
      ∙ sym (filter_among (is_along k h) on (members part)
      (λ t among. along_is k h t (omega (arith, low, long))
      (as_long part.dims t (among_is part t steps among) ∙ sym long)))

  -- the first coordinate of a line's first tuple
  pub start_told : All HasStep region.dims → (h : List ℤ) → Among (members (heads k part)) h
      → line_start code q region k ≡ get_or h k (pos 0)
  start_told whole h among =
      let start = line_start code q region k in
      let first = (among_filtered (is_first k start) (tuples_of code q region) h
      (subst (λ hs. Among hs h) (heads_told whole) among)).1 in
      let long = as_long part.dims h (head_is k part h low steps among) in
      (Decides-int_eq start (get_or h k (pos 0))).0
      (sym (first_test k start h (omega (arith, low, long))) ∙ first)

-- ---- what stands before a line, told in two ways
or_and : (lt eq e s b : Bool)
    → (lt || (eq && (e || (s && b)))) ≡ ((lt || (eq && e)) || ((eq && s) && b))
or_and true eq e s b = refl
or_and false true e s b = refl
or_and false false e s b = refl

never_less : (a c : Bool) → (a || (c && false)) ≡ a
never_less true c = refl
never_less false true = refl
never_less false false = refl

pub earlier_is : (k : ℕ) (h g : List ℤ) → k < length h → length g ≡ length h
    → drop (suc k) g ≡ drop (suc k) h
    → is_before g h ≡ (is_earlier_line k h g
    || (is_same_tuple h (with_coordinate k (get_or h k (pos 0)) g)
    && is_below k (get_or h k (pos 0)) g))
earlier_is k [] g low long rest = absurd (omega arith)
earlier_is k (x ∷ h) [] low long rest = absurd (omega (arith, long))
earlier_is zero (x ∷ h) (y ∷ g) low long rest =
    ap (λ b. int_lt y x || (int_eq y x && b)) (ap (λ u. is_before u h) rest ∙ not_before_itself h)
    ∙ (never_less (int_lt y x) (int_eq y x)
    ∙ sym (ap (λ b. (b && is_same_tuple h g) && int_lt y x) (int_eq-true x)
    ∙ ap (λ b. b && int_lt y x) (ap (is_same_tuple h) rest ∙ same_tuple h)))
earlier_is (suc k) (x ∷ h) (y ∷ g) low long rest =
    ap (λ b. int_lt y x || (int_eq y x && b))
    (earlier_is k h g (omega arith) (omega (arith, long)) rest)
    ∙ or_and (int_lt y x) (int_eq y x) (is_earlier_line k h g)
    (is_same_tuple h (with_coordinate k (get_or h k (pos 0)) g)) (is_below k (get_or h k (pos 0)) g)

below_along : (k : ℕ) (h g : List ℤ) → k < length h → is_along k h g ≡ true
    → is_before g h ≡ is_below k (get_or h k (pos 0)) g
below_along k [] g low e = absurd (omega arith)
below_along zero (x ∷ h) [] low e = cc
below_along (suc k) (x ∷ h) [] low e = cc
below_along zero (x ∷ h) (y ∷ g) low e =
    ap (λ b. int_lt y x || (int_eq y x && b))
    (ap (λ u. is_before u h) (same_from_test h g e) ∙ not_before_itself h)
    ∙ never_less (int_lt y x) (int_eq y x)
below_along (suc k) (x ∷ h) (y ∷ g) low e =
    let both = and_parts (int_eq y x) (is_along k h g) e in
    let is : y ≡ x = (Decides-int_eq y x).0 both.0 in
    let first : int_lt y x ≡ false = int_lt-false y x (omega (arith, ints, is)) in
    ap (λ b. b || (int_eq y x && is_before g h)) first
    ∙ (ap (λ b. b && is_before g h) both.0 ∙ below_along k h g (omega arith) both.1)

pub before_along : (k : ℕ) (h g : List ℤ) → k < length h → length g ≡ length h
    → (is_along k h g && is_before g h)
    ≡ (is_same_tuple h (with_coordinate k (get_or h k (pos 0)) g)
    && is_below k (get_or h k (pos 0)) g)
before_along k h g low long =
    by (is_along k h g) refl
    ∙ ap (λ b. b && is_below k (get_or h k (pos 0)) g) (along_is k h g low long)
  where
    by : (b : Bool) → is_along k h g ≡ b
        → (b && is_before g h) ≡ (b && is_below k (get_or h k (pos 0)) g)
    by true e = below_along k h g low e
    by false e = refl

-- past the rank all coordinates are 0
zeros : (n : ℕ) (t : List ℤ) → AllZip IsCoordinate (replicate n padding) t
    → t ≡ replicate n (pos 0)
zeros zero [] is = refl
zeros zero (x ∷ t) is = absurd is
zeros (suc n) [] is = absurd is
zeros (suc n) (x ∷ t) is =
    let low : pos 0 ≤ℤ x = is.0.0 in
    let high : x ≤ℤ pos 0 = is.0.1 in
    cons_same (omega (arith, ints, low, high)) (zeros n t is.1)

pub past_rank : (rank n : ℕ) (dims : List Dim) (t : List ℤ)
    → drop rank dims ≡ replicate n padding → AllZip IsCoordinate dims t
    → drop rank t ≡ replicate n (pos 0)
past_rank zero n dims t is here = zeros n t (subst (λ ds. AllZip IsCoordinate ds t) is here)
past_rank (suc rank) n [] [] is here = by n is
  where
    by : (n : ℕ) → [] ≡ replicate n padding → [] ≡ replicate n (pos 0)
    by zero e = refl
    by (suc n) e = cc
past_rank (suc rank) n [] (x ∷ t) is here = absurd here
past_rank (suc rank) n (d ∷ dims) [] is here = absurd here
past_rank (suc rank) n (d ∷ dims) (x ∷ t) is here = past_rank rank n dims t is here.1

-- ---- the running fold of a line
fold_one : (op : Fold) (a : ℤ) (xs : List ℤ) (v : Option ℤ)
    → fold (joined op) a (xs ++ kept_values (v ∷ [])) ≡ joined_with op (fold (joined op) a xs) v
fold_one op a [] None = refl
fold_one op a [] (Some v) = refl
fold_one op a (x ∷ xs) v = fold_one op (joined op a x) xs v

kept-append : (xs ys : List (Option ℤ)) → kept_values (xs ++ ys) ≡ kept_values xs ++ kept_values ys
kept-append [] ys = refl
kept-append (Some x ∷ xs) ys = ap (λ l. x ∷ l) (kept-append xs ys)
kept-append (None ∷ xs) ys = kept-append xs ys

append_none : (xs : List (List ℤ)) → xs ++ [] ≡ xs
append_none [] = refl
append_none (x ∷ xs) = ap (λ l. x ∷ l) (append_none xs)

module _ (op : Fold) (k : ℕ) (value : List ℤ → Option ℤ) (h : List ℤ) (b : ℤ) where
  abbrev on : List (List ℤ) → List (List ℤ)
  on ts = filter (is_along k h) ts

  abbrev so_far : List (List ℤ) → ℤ
  so_far ts = line_fold op k value b ts h

  one_more : (ts : List (List ℤ)) (t : List ℤ) → is_along k h t ≡ true
      → so_far (ts ++ t ∷ []) ≡ joined_with op (so_far ts) (value t)
  one_more ts t e =
      ap (λ l. fold (joined op) b (kept_values (map value l)))
      (filter-append (is_along k h) ts (t ∷ []) ∙ ap (λ c. on ts ++ cond c (t ∷ []) []) e)
      ∙ (ap (λ l. fold (joined op) b (kept_values l)) (map-append value (on ts) (t ∷ []))
      ∙ (ap (fold (joined op) b) (kept-append (map value (on ts)) (value t ∷ []))
      ∙ fold_one op b (kept_values (map value (on ts))) (value t)))

  none_more : (ts : List (List ℤ)) (t : List ℤ) → is_along k h t ≡ false
      → so_far (ts ++ t ∷ []) ≡ so_far ts
  none_more ts t e =
      ap (λ l. fold (joined op) b (kept_values (map value l)))
      (filter-append (is_along k h) ts (t ∷ [])
      ∙ (ap (λ c. on ts ++ cond c (t ∷ []) []) e ∙ append_none (on ts)))

  running_from : (g : List ℤ → ℤ) (ms pre : List (List ℤ)) (a : ℤ) → a ≡ so_far pre
      → ((i : ℕ) (t : List ℤ) → slice_get ms i ≡ Some t → is_along k h t ≡ true
      → g t ≡ so_far (pre ++ take (suc i) ms))
      → running op a (map value (on ms)) ≡ map g (on ms)
  running_from g [] pre a is all = refl
  running_from g (t ∷ ms) pre a is all =
      by (is_along k h t) refl (λ z same. running_from g ms (pre ++ t ∷ []) z same more)
    where
      more : (i : ℕ) (u : List ℤ) → slice_get ms i ≡ Some u → is_along k h u ≡ true
          → g u ≡ so_far ((pre ++ t ∷ []) ++ take (suc i) ms)
      more i u there e =
          all (suc i) u there e ∙ ap so_far (sym (append_assoc pre (t ∷ []) (take (suc i) ms)))

      by : (c : Bool) → is_along k h t ≡ c
          → ((z : ℤ) → z ≡ so_far (pre ++ t ∷ []) → running op z (map value (on ms)) ≡ map g (on ms))
          → running op a (map value (cond c (t ∷ on ms) (on ms))) ≡ map g (cond c (t ∷ on ms) (on ms))
      by true e further =
          let step : joined_with op a (value t) ≡ so_far (pre ++ t ∷ []) =
          ap (λ z. joined_with op z (value t)) is ∙ sym (one_more pre t e) in
          cons_same (step ∙ sym (all 0 t refl e)) (further (joined_with op a (value t)) step)
      by false e further = further a (is ∙ sym (none_more pre t e))

  pub running_line : (g : List ℤ → ℤ) (ms : List (List ℤ))
      → ((i : ℕ) (t : List ℤ) → slice_get ms i ≡ Some t → is_along k h t ≡ true
      → g t ≡ line_fold op k value b (take (suc i) ms) h)
      → running op b (map value (filter (is_along k h) ms)) ≡ map g (filter (is_along k h) ms)
  running_line g ms all = running_from g ms [] b refl all
