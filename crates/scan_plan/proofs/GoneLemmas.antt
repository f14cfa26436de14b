-- Lemmas on going through the lines of all parts.
use Rattle.std.proofs.Common.{◌≡◌, ◌≢◌, Result, Ok, Err, ℕ, zero, suc, ◌+◌, ◌-◌, ◌*◌, ◌<◌, ◌≤◌, ◌⊎◌, inl, inr, Bool, true, false, cond, not, ◌&&◌, Option, Some, None, List, [], ◌∷◌, ◌++◌, All, map, set, take, length, get_or, slice_get, ℤ, pos, ◌+ℤ◌, unsigned_abs, refl, sym, ◌∙◌, ap, subst, arith, add-one, append_assoc}
use Rattle.std.specs.Prelude.{if◌then◌else◌, option_map, OnOk, is_ok}
use Rattle.std.specs.List.{AllZip, filter, find, zip}
use Rattle.std.specs.Ordering.{int_eq}
use Rattle.std.proofs.lemmas.Bool.{and_from, and_parts, false≢true}
use Rattle.std.proofs.lemmas.Bool.Decides.{Decides-int_eq}
use Rattle.std.proofs.lemmas.Int.{ints}
use Rattle.std.proofs.lemmas.List.{map-append}
use Rattle.std.proofs.lemmas.List.Elements.{All-head, All-tail, filter-append}
use Rattle.std.proofs.lemmas.List.Sums.{fold-append}
use Rattle.zpl_nums.specs.declared.folds.Fold.{Fold}
use Rattle.zpl_nums.specs.Fold.{folded, joined, unit_of}
use Rattle.zpl_region.specs.declared.dims.Dim.{Dim}
use Rattle.zpl_region.specs.declared.dims.Dim.TheVariants.{Range, Flood}
use Rattle.zpl_region.specs.declared.regions.Region.{Region}
use Rattle.zpl_region.specs.Dim.{HasStep, IsCoordinate}
use Rattle.zpl_region.specs.Ends.{coordinate_count, first_of, last_of}
use Rattle.zpl_region.specs.Region.{IsMember, IsRegion, is_before, members}
use Rattle.zpl_region.specs.Tests.{is_member}
use Rattle.zpl_region.proofs.DimLemmas.{Among-coordinates}
use Rattle.zpl_region.proofs.EndLemmas.{among_at, between_ends}
use Rattle.zpl_region.proofs.HullLemmas.{has_steps}
use Rattle.zpl_region.proofs.LawLemmas.{members_iff, next_member}
use Rattle.zpl_region.proofs.ListLemmas.{Contains-from_among, cons_same}
use Rattle.zpl_region.proofs.TestLemmas.{is_member_iff}
use Rattle.zpl_arrays.specs.Array.{place_among}
use Rattle.zpl_arrays.proofs.ArrayLemmas.{only_place, place_of_tuple}
use Rattle.scan_plan.specs.Line.{head_of, is_along}
use Rattle.scan_plan.specs.Scan.{LineTotal, before, fold_of_totals, folds_between, gone_through, line_behind, precedes}
use Rattle.scan_plan.proofs.LineLemmas.{along_itself, along_of, as_long, same_from_test}

-- ---- one line more
pub fold_one_more : (op : Fold) (p : List ℤ → Bool) (lines : List LineTotal) (h : List ℤ) (t : ℤ)
    → fold_of_totals op p (lines ++ (h, t) ∷ []) ≡ cond (p h) (joined op (fold_of_totals op p lines) t) (fold_of_totals op p lines)
fold_one_more op p lines h t =
    ap (λ l. folded op (map second l)) (filter-append kept lines ((h, t) ∷ []))
    ∙ by_test (p h)
  where
    kept : LineTotal → Bool
    kept line = p line.0

    second : LineTotal → ℤ
    second line = line.1

    nothing_more : {X : Type 0} (xs : List X) → xs ++ [] ≡ xs
    nothing_more [] = refl
    nothing_more (x ∷ xs) = ap (λ l. x ∷ l) (nothing_more xs)

    by_test : (b : Bool) → folded op (map second (filter kept lines ++ cond b ((h, t) ∷ []) [])) ≡ cond b (joined op (fold_of_totals op p lines) t) (fold_of_totals op p lines)
    by_test true = ap (folded op) (map-append second (filter kept lines) ((h, t) ∷ [])) ∙ fold-append (joined op) (unit_of op) (map second (filter kept lines)) (t ∷ [])
    by_test false = ap (λ l. folded op (map second l)) (nothing_more (filter kept lines))

-- what is kept for a line is joined with one value more
abbrev pub changed : Fold → Option ℕ → ℤ → List ℤ → List ℤ
changed op None t kept = kept
changed op (Some j) t kept = set kept j (joined op (get_or kept j (pos 0)) t)

-- ---- in row-major order: the first own line behind it
abbrev pub first_place : {X : Type 0} → (X → Bool) → List X → Option ℕ
first_place p [] = None
first_place p (x ∷ xs) = cond (p x) (Some 0) (option_map suc (first_place p xs))

folds_between_one : (op : Fold) (hs : List (List ℤ)) (lines : List LineTotal) (h : List ℤ) (t : ℤ)
    → folds_between op hs (lines ++ (h, t) ∷ []) ≡ changed op (first_place (is_before h) hs) t (folds_between op hs lines)
folds_between_one op [] lines h t = refl
folds_between_one op (m ∷ ms) lines h t =
    cons_same (fold_one_more op (precedes zero m) lines h t) (ap (folds_between op ms) (filter-append (λ line. not (is_before line.0 m)) lines ((h, t) ∷ [])))
    ∙ by_test (is_before h m) (folds_between_one op ms (filter (λ line. not (is_before line.0 m)) lines) h t)
  where
    kept : List LineTotal
    kept = filter (λ line. not (is_before line.0 m)) lines

    here : ℤ
    here = fold_of_totals op (precedes zero m) lines

    nothing_more : {X : Type 0} (xs : List X) → xs ++ [] ≡ xs
    nothing_more [] = refl
    nothing_more (x ∷ xs) = ap (λ l. x ∷ l) (nothing_more xs)

    later : (o : Option ℕ) → here ∷ changed op o t (folds_between op ms kept) ≡ changed op (option_map suc o) t (here ∷ folds_between op ms kept)
    later None = refl
    later (Some j) = refl

    by_test : (b : Bool) → folds_between op ms (kept ++ (h, t) ∷ []) ≡ changed op (first_place (is_before h) ms) t (folds_between op ms kept)
        → cond b (joined op here t) here ∷ folds_between op ms (kept ++ cond (not b) ((h, t) ∷ []) [])
        ≡ changed op (cond b (Some 0) (option_map suc (first_place (is_before h) ms))) t (here ∷ folds_between op ms kept)
    by_test true further = ap (λ l. joined op here t ∷ folds_between op ms l) (nothing_more kept)
    by_test false further = ap (λ l. here ∷ l) further ∙ later (first_place (is_before h) ms)

-- the place of what is found is that of the first that passes
abbrev AtFirst : {X : Type 0} → List X → Option X → Option ℕ → Type 0
AtFirst xs None None = Unit {0}
AtFirst xs None (Some i) = ⊥
AtFirst xs (Some x) None = ⊥
AtFirst xs (Some x) (Some i) = slice_get xs i ≡ Some x

at_first : {X : Type 0} (p : X → Bool) (xs : List X) → AtFirst xs (find p xs) (first_place p xs)
at_first p [] = tt
at_first {X} p (x ∷ xs) = by_test (p x) (at_first p xs)
  where
    further : (o : Option X) (i : Option ℕ) → AtFirst xs o i → AtFirst (x ∷ xs) o (option_map suc i)
    further None None h = tt
    further None (Some i) h = h
    further (Some y) None h = h
    further (Some y) (Some i) h = h

    by_test : (b : Bool) → AtFirst xs (find p xs) (first_place p xs) → AtFirst (x ∷ xs) (cond b (Some x) (find p xs)) (cond b (Some 0) (option_map suc (first_place p xs)))
    by_test true h = refl
    by_test false h = further (find p xs) (first_place p xs) h

place_found : (own : Region) (p : List ℤ → Bool) → All HasStep own.dims → option_map (place_among own.dims) (find p (members own)) ≡ first_place p (members own)
place_found own p steps = by_answers (find p (members own)) (first_place p (members own)) (at_first p (members own))
  where
    by_answers : (o : Option (List ℤ)) (i : Option ℕ) → AtFirst (members own) o i → option_map (place_among own.dims) o ≡ i
    by_answers None None h = refl
    by_answers None (Some i) h = absurd h
    by_answers (Some t) None h = absurd h
    by_answers (Some t) (Some i) h = ap Some (only_place own t i steps h)

-- ---- along a dimension: the own line that it is on
pub one_changed : (F G : List ℤ → ℤ) (hs : List (List ℤ)) (j : ℕ) (g : List ℤ) → slice_get hs j ≡ Some g → ((i : ℕ) (h : List ℤ) → slice_get hs i ≡ Some h → i ≢ j → G h ≡ F h) → map G hs ≡ set (map F hs) j (G g)
one_changed F G [] j g e same = absurd (cc)
one_changed F G (h ∷ hs) zero g e same =
    let is : h ≡ g = cc in
    cons_same (ap G is) (all_same hs (λ i x f. same (suc i) x f (λ bad. omega (arith, bad))))
  where
    all_same : (hs : List (List ℤ)) → ((i : ℕ) (x : List ℤ) → slice_get hs i ≡ Some x → G x ≡ F x) → map G hs ≡ map F hs
    all_same [] s = refl
    all_same (y ∷ ys) s = cons_same (s 0 y refl) (all_same ys (λ i x f. s (suc i) x f))
one_changed F G (h ∷ hs) (suc j) g e same =
    cons_same (same 0 h refl (λ bad. omega (arith, bad))) (one_changed F G hs j g e (λ i x f other. same (suc i) x f (λ bad. other (omega (arith, bad)))))

pub none_changed : (F G : List ℤ → ℤ) (hs : List (List ℤ)) → ((i : ℕ) (h : List ℤ) → slice_get hs i ≡ Some h → G h ≡ F h) → map G hs ≡ map F hs
none_changed F G [] same = refl
none_changed F G (h ∷ hs) same = cons_same (same 0 h refl) (none_changed F G hs (λ i x f. same (suc i) x f))

pub get_or-map : (F : List ℤ → ℤ) (hs : List (List ℤ)) (j : ℕ) (g : List ℤ) → slice_get hs j ≡ Some g → get_or (map F hs) j (pos 0) ≡ F g
get_or-map F [] j g e = absurd (cc)
get_or-map F (h ∷ hs) zero g e = let is : h ≡ g = cc in ap F is
get_or-map F (h ∷ hs) (suc j) g e = get_or-map F hs j g e

-- the only coordinate of a dimension is its first one
only_first : (d : Dim) (x : ℤ) → HasStep d → coordinate_count d ≤ 1 → IsCoordinate d x → x ≡ first_of d
only_first (Range lo hi step align) x h one is =
    let d : Dim = Range lo hi step align in
    let ends = between_ends d x h (Among-coordinates d x h is) in
    let none : coordinate_count d - 1 ≡ 0 = omega (arith, one) in
    let last : last_of d ≡ first_of d = ap (λ n. first_of d +ℤ pos (n * unsigned_abs step)) none ∙ omega (arith, ints) in
    omega (arith, ints, ends.0, ends.1, last)
only_first Flood x h one is = is

on_line : (k : ℕ) (dims : List Dim) (g h : List ℤ) → k < length dims → All HasStep dims → along_of k dims ≤ 1 → AllZip IsCoordinate dims g → is_along k g h ≡ true → g ≡ head_of k dims h
on_line k [] g h l steps one z e = absurd (omega arith)
on_line k (d ∷ dims) [] h l steps one z e = absurd z
on_line zero (d ∷ dims) (x ∷ g) [] l steps one z e = absurd (let both : false ≡ true = e in cc)
on_line (suc k) (d ∷ dims) (x ∷ g) [] l steps one z e = absurd (let both : false ≡ true = e in cc)
on_line zero (d ∷ dims) (x ∷ g) (y ∷ h) l steps one z e =
    cons_same (only_first d x (All-head HasStep d dims steps) one z.0) (sym (same_from_test g h e))
on_line (suc k) (d ∷ dims) (x ∷ g) (y ∷ h) l steps one z e =
    let both = and_parts (int_eq y x) (is_along k g h) e in
    cons_same (sym ((Decides-int_eq y x).0 both.0)) (on_line k dims g h (omega arith) (All-tail HasStep d dims steps) one z.1 both.1)

pub member_of : (own : Region) (i : ℕ) (g : List ℤ) → All HasStep own.dims → slice_get (members own) i ≡ Some g → IsMember own g
member_of own i g steps e = (members_iff own g steps).0 (Contains-from_among (members own) g (among_at (members own) i g e))

before_one : (op : Fold) (k : ℕ) (own : Region) (lines : List LineTotal) (h : List ℤ) (t : ℤ) → IsRegion own → k < length own.dims → length h ≡ length own.dims → along_of k own.dims ≤ 1
    → map (before op (suc k) (lines ++ (h, t) ∷ [])) (members own) ≡ changed op (line_behind (suc k) own h) t (map (before op (suc k) lines) (members own))
before_one op k own lines h t is below long one = by_test (is_member own next && is_before h next) refl
  where
    next : List ℤ
    next = head_of k own.dims h

    steps : All HasStep own.dims
    steps = has_steps own.dims is.dims

    F : List ℤ → ℤ
    F g = before op (suc k) lines g

    G : List ℤ → ℤ
    G g = before op (suc k) (lines ++ (h, t) ∷ []) g

    -- a line that h precedes is the one behind it
    is_next : (g : List ℤ) → IsMember own g → precedes (suc k) g h ≡ true → g ≡ next
    is_next g here e = on_line k own.dims g h below steps one here (and_parts (is_along k g h) (is_before h g) e).0

    unchanged : (g : List ℤ) → precedes (suc k) g h ≡ false → G g ≡ F g
    unchanged g e = fold_one_more op (precedes (suc k) g) lines h t ∙ ap (λ b. cond b (joined op (F g) t) (F g)) e

    by_test : (b : Bool) → (is_member own next && is_before h next) ≡ b → map G (members own) ≡ changed op (if b then Some (place_among own.dims next) else None) t (map F (members own))
    by_test true e =
        let w = and_parts (is_member own next) (is_before h next) e in
        let here : IsMember own next = (is_member_iff own next steps).0 w.0 in
        let at = place_of_tuple own.dims next steps here in
        let passes : precedes (suc k) next h ≡ true = and_from (is_along k next h) (is_before h next) (along_itself k own.dims h below long) w.1 in
        let grown : G next ≡ joined op (F next) t = fold_one_more op (precedes (suc k) next) lines h t ∙ ap (λ b. cond b (joined op (F next) t) (F next)) passes in
        one_changed F G (members own) (place_among own.dims next) next at (λ i g f other. unchanged g (not_true (precedes (suc k) g h) (λ p.
        other (sym (only_place own g i steps f) ∙ ap (place_among own.dims) (is_next g (member_of own i g steps f) p)))))
        ∙ (ap (set (map F (members own)) (place_among own.dims next)) grown
        ∙ ap (λ z. set (map F (members own)) (place_among own.dims next) (joined op z t)) (sym (get_or-map F (members own) (place_among own.dims next) next at)))
      where
        not_true : (b : Bool) → (b ≡ true → ⊥) → b ≡ false
        not_true true n = absurd (n refl)
        not_true false n = refl
    by_test false e =
        none_changed F G (members own) (λ i g f. unchanged g (not_true (precedes (suc k) g h) (λ p.
        let here = member_of own i g steps f in
        let same = is_next g here p in
        let passes : (is_member own next && is_before h next) ≡ true = and_from (is_member own next) (is_before h next) ((is_member_iff own next steps).1 (subst (IsMember own) same here))
        (subst (λ u. is_before h u ≡ true) same (and_parts (is_along k g h) (is_before h g) p).1) in
        false≢true (sym e ∙ passes))))
      where
        not_true : (b : Bool) → (b ≡ true → ⊥) → b ≡ false
        not_true true n = absurd (n refl)
        not_true false n = refl

pub gone_one : (op : Fold) (along : ℕ) (own : Region) (lines : List LineTotal) (h : List ℤ) (t : ℤ) → IsRegion own → along ≤ length own.dims → length h ≡ length own.dims → (1 ≤ along → along_of (along - 1) own.dims ≤ 1)
    → gone_through op along (members own) (lines ++ (h, t) ∷ []) ≡ changed op (line_behind along own h) t (gone_through op along (members own) lines)
gone_one op zero own lines h t is few long one =
    folds_between_one op (members own) lines h t
    ∙ ap (λ o. changed op o t (folds_between op (members own) lines)) (sym (place_found own (is_before h) (has_steps own.dims is.dims)))
gone_one op (suc k) own lines h t is few long one =
    let same : suc k - 1 ≡ k = omega arith in
    before_one op k own lines h t is (omega arith) long (subst (λ j. along_of j own.dims ≤ 1) same (one (omega arith)))

-- ---- pairs, one more
pub take_zip_one : {X : Type 0} (ms : List X) (ts : List ℤ) (i : ℕ) (m : X) (d : ℤ) → slice_get ms i ≡ Some m → i < length ts → take (i + 1) (zip ms ts) ≡ take i (zip ms ts) ++ (m, get_or ts i d) ∷ []
take_zip_one {X} ms ts i m d e h = ap (λ k. take k (zip ms ts)) (add-one i) ∙ one ms ts i e h
  where
    one : (ms : List X) (ts : List ℤ) (i : ℕ) → slice_get ms i ≡ Some m → i < length ts → take (suc i) (zip ms ts) ≡ take i (zip ms ts) ++ (m, get_or ts i d) ∷ []
    one [] ts i e h = absurd (cc)
    one (x ∷ xs) [] i e h = absurd (omega arith)
    one (x ∷ xs) (t ∷ ts) zero e h = let is : x ≡ m = cc in ap (λ y. (y, t) ∷ []) is
    one (x ∷ xs) (t ∷ ts) (suc i) e h = ap (λ l. (x, t) ∷ l) (one xs ts i e (omega arith))

pub zip_ends_first : {X : Type 0} (ms : List X) (ts : List ℤ) (i : ℕ) → slice_get ms i ≡ None → take i (zip ms ts) ≡ zip ms ts
zip_ends_first [] ts zero e = refl
zip_ends_first [] ts (suc i) e = refl
zip_ends_first (m ∷ ms) [] zero e = refl
zip_ends_first (m ∷ ms) [] (suc i) e = refl
zip_ends_first (m ∷ ms) (t ∷ ts) zero e = absurd (cc)
zip_ends_first (m ∷ ms) (t ∷ ts) (suc i) e = ap (λ l. (m, t) ∷ l) (zip_ends_first ms ts i e)

pub zip_ends_second : {X : Type 0} (ms : List X) (ts : List ℤ) (i : ℕ) → length ts ≤ i → take i (zip ms ts) ≡ zip ms ts
zip_ends_second [] ts zero e = refl
zip_ends_second [] ts (suc i) e = refl
zip_ends_second (m ∷ ms) [] zero e = refl
zip_ends_second (m ∷ ms) [] (suc i) e = refl
zip_ends_second (m ∷ ms) (t ∷ ts) zero e = absurd (omega arith)
zip_ends_second (m ∷ ms) (t ∷ ts) (suc i) e = ap (λ l. (m, t) ∷ l) (zip_ends_second ms ts i (omega arith))

-- the totals of a part's first i lines are joined in
pub record IsAdded (op : Fold) (along : ℕ) (own part : Region) (totals : List ℤ) (initial kept : List ℤ) (head : Option (List ℤ)) (i : ℕ) : Type 0 where
  pub head_is : head ≡ slice_get (members part) i
  pub long : length kept ≡ length initial
  pub kept_is : (lines : List LineTotal) → initial ≡ gone_through op along (members own) lines → kept ≡ gone_through op along (members own) (lines ++ take i (zip (members part) totals))

pub nothing_behind : {X : Type 0} (xs : List X) → xs ≡ xs ++ []
nothing_behind [] = refl
nothing_behind (x ∷ xs) = ap (λ l. x ∷ l) (nothing_behind xs)

pub added_none : (op : Fold) (along : ℕ) (own part : Region) (totals initial : List ℤ) (head : Option (List ℤ)) → head ≡ slice_get (members part) 0 → IsAdded op along own part totals initial initial head 0
added_none op along own part totals initial head e = record {
  head_is = e;
  long = refl;
  kept_is = λ lines f. f ∙ ap (gone_through op along (members own)) (nothing_behind lines);
}

pub added_step : (op : Fold) (along : ℕ) (own part : Region) (totals initial kept more : List ℤ) (h : List ℤ) (head next : Option (List ℤ)) (i : ℕ) (t : ℤ) → IsRegion own → IsRegion part
    → length own.dims ≡ 3 → length part.dims ≡ 3 → along ≤ 3 → (1 ≤ along → along_of (along - 1) own.dims ≤ 1) → i < length totals → t ≡ get_or totals i (pos 0)
    → IsAdded op along own part totals initial kept head i → head ≡ Some h → next ≡ find (is_before h) (members part) → length more ≡ length kept → more ≡ changed op (line_behind along own h) t kept
    → IsAdded op along own part totals initial more next (i + 1)
added_step op along own part totals initial kept more h head next i t is are three wide few alone inside t_is w found next_is same more_is =
    let here : slice_get (members part) i ≡ Some h = sym w.head_is ∙ found in
    let member = member_of part i h (has_steps part.dims are.dims) here in
    let long : length h ≡ length own.dims = as_long part.dims h member ∙ (wide ∙ sym three) in
    record {
      head_is = next_is ∙ next_member part i h here;
      long = same ∙ w.long;
      kept_is = λ lines e.
          let so_far : List LineTotal = lines ++ take i (zip (members part) totals) in
          more_is
          ∙ (ap (changed op (line_behind along own h) t) (w.kept_is lines e)
          ∙ (sym (gone_one op along own so_far h t is (omega (arith, few, three)) long alone)
          ∙ ap (gone_through op along (members own)) (append_assoc lines (take i (zip (members part) totals)) ((h, t) ∷ [])
          ∙ ap (λ l. lines ++ l) (ap (λ z. take i (zip (members part) totals) ++ (h, z) ∷ []) t_is ∙ sym (take_zip_one (members part) totals i h (pos 0) here inside)))));
    }

pub added_all : (op : Fold) (along : ℕ) (own part : Region) (totals initial kept : List ℤ) (head : Option (List ℤ)) (i : ℕ) → IsAdded op along own part totals initial kept head i → (length totals ≤ i) ⊎ (head ≡ None)
    → (lines : List LineTotal) → initial ≡ gone_through op along (members own) lines → kept ≡ gone_through op along (members own) (lines ++ zip (members part) totals)
added_all op along own part totals initial kept head i w (inl past) lines e = w.kept_is lines e ∙ ap (λ l. gone_through op along (members own) (lines ++ l)) (zip_ends_second (members part) totals i past)
added_all op along own part totals initial kept head i w (inr none) lines e =
    w.kept_is lines e ∙ ap (λ l. gone_through op along (members own) (lines ++ l)) (zip_ends_first (members part) totals i (sym w.head_is ∙ none))

pub set_long : (xs : List ℤ) (i : ℕ) (x : ℤ) → length (set xs i x) ≡ length xs
set_long [] zero x = refl
set_long [] (suc i) x = refl
set_long (y ∷ ys) zero x = refl
set_long (y ∷ ys) (suc i) x = ap suc (set_long ys i x)

pub none_from_default : {X : Type 0} (o : Option X) → ((x : X) → o ≡ Some x → ⊥) → o ≡ None
none_from_default None h = refl
none_from_default (Some x) h = absurd (h x refl)

-- ---- what is appended
pub appended : {X E : Type 0} (res : Result (Unit {0}) E) (new old more want : List X) → new ≡ (if is_ok res then old ++ more else old) → more ≡ want → OnOk res (new ≡ old ++ want)
appended (Ok u) new old more want e f = e ∙ ap (λ l. old ++ l) f
appended (Err x) new old more want e f = tt

-- what an accepted push leaves
pub pushed : {X E F : Type 0} (res : Result F E) (new old : List X) (x y : X) (z : F) → new ≡ (if is_ok res then old ++ x ∷ [] else old) → res ≡ Ok z → x ≡ y → new ≡ old ++ y ∷ []
pushed (Ok u) new old x y z e ok f = e ∙ ap (λ v. old ++ v ∷ []) f
pushed (Err u) new old x y z e ok f = absurd (cc)
