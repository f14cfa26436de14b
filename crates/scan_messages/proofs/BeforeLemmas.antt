-- What stands before a line: the totals of all processors, as the row's record and as plans go through them.
use Rattle.std.proofs.Common.{◌≡◌, ℕ, zero, suc, ◌+◌, ◌*◌, ◌<◌, ◌≤◌, ◌==◌, ◌≢◌, ◌⊎◌, inl, inr, Bool, true, false, cond, not, Some, List, [], ◌∷◌, ◌++◌, map, replicate, length, slice_get, ℤ, refl, sym, ap, ◌∙◌, arith, eq-eqb}
use Rattle.std.specs.Prelude.{slice_set}
use Rattle.std.specs.List.{filter, flat_map, range_with_len, zip}
use Rattle.std.proofs.lemmas.List.{map-append}
use Rattle.std.proofs.lemmas.List.Elements.{filter-append}
use Rattle.zpl_nums.specs.declared.folds.Fold.{Fold}
use Rattle.zpl_nums.specs.Fold.{folded, joined}
use Rattle.zpl_nums.proofs.FoldLemmas.{folded-append, joined_assoc, joined_comm, settled-folded, settled_right}
use Rattle.zpl_region.specs.declared.dims.Dim.{Dim}
use Rattle.zpl_region.specs.declared.dims.Dim.TheVariants.{Range, Flood}
use Rattle.zpl_region.specs.declared.regions.Region.{Region}
use Rattle.zpl_region.specs.Ends.{coordinate_count, tuple_count}
use Rattle.zpl_region.specs.Region.{members}
use Rattle.zpl_region.proofs.ListLemmas.{Among, cons_same}
use Rattle.grid_layout.specs.declared.axes.Axis.{Axis}
use Rattle.grid_layout.specs.declared.blocks.Blocks.{Blocks}
use Rattle.grid_layout.specs.Grid.{blocks_at, cuts}
use Rattle.grid_layout.specs.Layout.{axes_at}
use Rattle.grid_layout.specs.Piece.{each_owned, nothing, owned_dim, owned_part}
use Rattle.grid_layout.specs.Words.{numbers_from}
use Rattle.grid_layout.proofs.PartLemmas.{blocks_length}
use Rattle.grid_meaning.specs.State.{IsPart}
use Rattle.scan_plan.specs.Line.{heads}
use Rattle.scan_plan.specs.Scan.{LineTotal, lines_of}
use Rattle.scan_messages.specs.Totals.{totals_in, with_totals}

-- ---- the totals of lines that count
abbrev pub picked : (List ℤ → Bool) → List (List ℤ) → List ℤ → List ℤ
picked counts hs totals = map (λ (line : LineTotal). line.1) (filter (λ (line : LineTotal). counts line.0) (zip hs totals))

pub picked_no_totals : (counts : List ℤ → Bool) (hs : List (List ℤ)) → picked counts hs [] ≡ []
picked_no_totals counts [] = refl
picked_no_totals counts (h ∷ hs) = refl

pub picked_alike : (p q : List ℤ → Bool) (hs : List (List ℤ)) (totals : List ℤ) → ((h : List ℤ) → Among hs h → p h ≡ q h)
    → picked p hs totals ≡ picked q hs totals
picked_alike p q [] totals same = refl
picked_alike p q (h ∷ hs) [] same = refl
picked_alike p q (h ∷ hs) (total ∷ totals) same =
    ap (λ b. map (λ (line : LineTotal). line.1) (cond b ((h, total) ∷ filter (λ (line : LineTotal). p line.0) (zip hs totals)) (filter (λ (line : LineTotal). p line.0) (zip hs totals)))) (same h (inl refl))
    ∙ by (q h) (picked_alike p q hs totals (λ g m. same g (inr m)))
  where
    by : (b : Bool) → picked p hs totals ≡ picked q hs totals
        → map (λ (line : LineTotal). line.1) (cond b ((h, total) ∷ filter (λ (line : LineTotal). p line.0) (zip hs totals)) (filter (λ (line : LineTotal). p line.0) (zip hs totals)))
        ≡ map (λ (line : LineTotal). line.1) (cond b ((h, total) ∷ filter (λ (line : LineTotal). q line.0) (zip hs totals)) (filter (λ (line : LineTotal). q line.0) (zip hs totals)))
    by true rest = ap (λ l. total ∷ l) rest
    by false rest = rest

pub picked_none : (counts : List ℤ → Bool) (hs : List (List ℤ)) (totals : List ℤ) → ((h : List ℤ) → Among hs h → counts h ≡ false)
    → picked counts hs totals ≡ []
picked_none counts [] totals none = refl
picked_none counts (h ∷ hs) [] none = refl
picked_none counts (h ∷ hs) (total ∷ totals) none =
    ap (λ b. map (λ (line : LineTotal). line.1) (cond b ((h, total) ∷ filter (λ (line : LineTotal). counts line.0) (zip hs totals)) (filter (λ (line : LineTotal). counts line.0) (zip hs totals)))) (none h (inl refl))
    ∙ picked_none counts hs totals (λ g m. none g (inr m))

-- ---- a list for each processor, of which some are given
abbrev pub from_number : (ℕ → List ℤ → List ℤ) → ℕ → List (List ℤ) → List ℤ
from_number pick n [] = []
from_number pick n (totals ∷ all) = pick n totals ++ from_number pick (suc n) all

abbrev pub of_entries : (ℕ → List ℤ → List ℤ) → List (ℕ × List ℤ) → List ℤ
of_entries pick entries = flat_map (λ (entry : ℕ × List ℤ). pick entry.0 entry.1) entries

-- each entry is given to a processor that has nothing yet
abbrev pub AreFree : List (List ℤ) → List (ℕ × List ℤ) → Type 0
AreFree all [] = Unit {0}
AreFree all (entry ∷ entries) = (slice_get all entry.0 ≡ Some []) × AreFree (slice_set all entry.0 entry.1) entries

module _ (op : Fold) (pick : ℕ → List ℤ → List ℤ) (nothing_picked : (q : ℕ) → pick q [] ≡ []) where
  turned : (a b c : ℤ) → joined op a (joined op b c) ≡ joined op b (joined op a c)
  turned a b c = sym (joined_assoc op a b c) ∙ (ap (λ z. joined op z c) (joined_comm op a b) ∙ joined_assoc op b a c)

  set_adds : (all : List (List ℤ)) (n q : ℕ) (totals : List ℤ) → slice_get all q ≡ Some []
      → folded op (from_number pick n (slice_set all q totals)) ≡ joined op (folded op (pick (n + q) totals)) (folded op (from_number pick n all))
  set_adds [] n q totals free = cc
  set_adds (first ∷ all) n zero totals free =
      let empty : first ≡ [] = cc in
      let same : n ≡ n + 0 = omega arith in
      folded-append op (pick n totals) (from_number pick (suc n) all)
      ∙ (ap (λ i. joined op (folded op (pick i totals)) (folded op (from_number pick (suc n) all))) same
      ∙ ap (λ l. joined op (folded op (pick (n + 0) totals)) (folded op (l ++ from_number pick (suc n) all))) (sym (ap (pick n) empty ∙ nothing_picked n)))
  set_adds (first ∷ all) n (suc q) totals free =
      let same : suc n + q ≡ n + suc q = omega arith in
      folded-append op (pick n first) (from_number pick (suc n) (slice_set all q totals))
      ∙ (ap (joined op (folded op (pick n first))) (set_adds all (suc n) q totals free)
      ∙ (turned (folded op (pick n first)) (folded op (pick (suc n + q) totals)) (folded op (from_number pick (suc n) all))
      ∙ (ap (λ z. joined op (folded op (pick (suc n + q) totals)) z) (sym (folded-append op (pick n first) (from_number pick (suc n) all)))
      ∙ ap (λ i. joined op (folded op (pick i totals)) (folded op (pick n first ++ from_number pick (suc n) all))) same)))

  sets_add : (entries : List (ℕ × List ℤ)) (all : List (List ℤ)) → AreFree all entries
      → folded op (from_number pick 0 (with_totals all entries)) ≡ joined op (folded op (of_entries pick entries)) (folded op (from_number pick 0 all))
  sets_add [] all free = sym (settled-folded op (from_number pick 0 all))
  sets_add (entry ∷ entries) all free =
      let same : 0 + entry.0 ≡ entry.0 = omega arith in
      let here = folded op (pick entry.0 entry.1) in
      let later = folded op (of_entries pick entries) in
      let before = folded op (from_number pick 0 all) in
      sets_add entries (slice_set all entry.0 entry.1) free.1
      ∙ (ap (joined op later) (set_adds all 0 entry.0 entry.1 free.0 ∙ ap (λ i. joined op (folded op (pick i entry.1)) before) same)
      ∙ (turned later here before
      ∙ (sym (joined_assoc op here later before)
      ∙ ap (λ z. joined op z before) (sym (folded-append op (pick entry.0 entry.1) (of_entries pick entries))))))

  none_yet : (n count : ℕ) → from_number pick n (replicate count []) ≡ []
  none_yet n zero = refl
  none_yet n (suc count) = ap (λ l. l ++ from_number pick (suc n) (replicate count [])) (nothing_picked n) ∙ none_yet (suc n) count

  pub entries_are_all : (entries : List (ℕ × List ℤ)) (count : ℕ) → AreFree (replicate count []) entries
      → folded op (of_entries pick entries) ≡ folded op (from_number pick 0 (totals_in count entries))
  entries_are_all entries count free =
      sym (sets_add entries (replicate count []) free
      ∙ (ap (λ l. joined op (folded op (of_entries pick entries)) (folded op l)) (none_yet 0 count)
      ∙ settled_right op (folded op (of_entries pick entries)) (settled-folded op (of_entries pick entries))))

-- ---- entries of some of the others are given to processors that have nothing
set_other : (all : List (List ℤ)) (i j : ℕ) (totals : List ℤ) → i ≢ j → slice_get (slice_set all i totals) j ≡ slice_get all j
set_other [] i j totals apart = refl
set_other (first ∷ all) zero zero totals apart = absurd (apart refl)
set_other (first ∷ all) zero (suc j) totals apart = refl
set_other (first ∷ all) (suc i) zero totals apart = refl
set_other (first ∷ all) (suc i) (suc j) totals apart = set_other all i j totals (λ e. apart (ap suc e))

pub free_part : (test : ℕ → Bool) (many n : ℕ) (entries : List (ℕ × List ℤ)) (all : List (List ℤ))
    → IsPart (map (λ (entry : ℕ × List ℤ). entry.0) entries) (filter test (range_with_len n many))
    → ((j : ℕ) → n ≤ j → j < n + many → test j ≡ true → slice_get all j ≡ Some []) → AreFree all entries
free_part test many n [] all part free = tt
free_part test zero n (entry ∷ entries) all part free = absurd part
free_part test (suc many) n (entry ∷ entries) all part free =
    by (test n) refl part
    (λ p. free_part test many (n + 1) (entry ∷ entries) all p (λ j low high on. free j (omega arith) (omega arith) on))
    (λ same p. free_part test many (n + 1) entries (slice_set all entry.0 entry.1) p
    (λ j low high on. set_other all entry.0 j entry.1 (λ e. absurd (omega (arith, e, same, low))) ∙ free j (omega arith) (omega arith) on))
  where
    by : (b : Bool) → test n ≡ b
        → IsPart (map (λ (e : ℕ × List ℤ). e.0) (entry ∷ entries)) (cond b (n ∷ filter test (range_with_len (n + 1) many)) (filter test (range_with_len (n + 1) many)))
        → (IsPart (map (λ (e : ℕ × List ℤ). e.0) (entry ∷ entries)) (filter test (range_with_len (n + 1) many)) → AreFree all (entry ∷ entries))
        → (entry.0 ≡ n → IsPart (map (λ (e : ℕ × List ℤ). e.0) entries) (filter test (range_with_len (n + 1) many)) → AreFree (slice_set all entry.0 entry.1) entries)
        → AreFree all (entry ∷ entries)
    by true on (inl here) later first = (ap (slice_get all) here.0 ∙ free n (omega arith) (omega arith) on, first here.0 here.1)
    by true on (inr p) later first = later p
    by false off p later first = later p

free_at : (count q : ℕ) → q < count → slice_get (replicate {A = List ℤ} count []) q ≡ Some []
free_at zero q below = absurd (omega arith)
free_at (suc count) zero below = refl
free_at (suc count) (suc q) below = free_at count q (omega arith)

pub all_free : (count p : ℕ) (own : List ℤ) (kept : List (ℕ × List ℤ)) → p < count
    → IsPart (map (λ (entry : ℕ × List ℤ). entry.0) kept) (filter (λ q. not (q == p)) (range_with_len 0 count))
    → AreFree (replicate count []) ((p, own) ∷ kept)
all_free count p own kept below part = (
  free_at count p below,
  free_part (λ q. not (q == p)) count 0 kept (slice_set (replicate count []) p own) part
      (λ j low high other. set_other (replicate count []) p j own (λ e. apart j other e) ∙ free_at count j (omega (arith, high))),
)
  where
    apart : (j : ℕ) → not (j == p) ≡ true → p ≡ j → ⊥
    apart j other e = let same : (j == p) ≡ true = eq-eqb j p (sym e) in let off : not (j == p) ≡ false = ap not same in cc

-- ---- as plans list all lines
pub lines_in_order : (k : ℕ) (blocks : Blocks) (p : ℕ) (region : Region) (counts : List ℤ → Bool) (m n : ℕ) (all : List (List ℤ)) → length all ≡ m
    → map (λ (line : LineTotal). line.1) (filter (λ (line : LineTotal). counts line.0) (lines_of k (map (λ q. owned_part blocks q p region) (numbers_from n m)) all))
    ≡ from_number (λ q totals. picked counts (members (heads k (owned_part blocks q p region))) totals) n all
lines_in_order k blocks p region counts zero n [] long = refl
lines_in_order k blocks p region counts zero n (totals ∷ all) long = absurd (omega (arith, long))
lines_in_order k blocks p region counts (suc m) n [] long = absurd (omega (arith, long))
lines_in_order k blocks p region counts (suc m) n (totals ∷ all) long =
    let hs = members (heads k (owned_part blocks n p region)) in
    let others = lines_of k (map (λ q. owned_part blocks q p region) (numbers_from (suc n) m)) all in
    ap (map (λ (line : LineTotal). line.1)) (filter-append (λ (line : LineTotal). counts line.0) (zip hs totals) others)
    ∙ (map-append (λ (line : LineTotal). line.1) (filter (λ (line : LineTotal). counts line.0) (zip hs totals)) (filter (λ (line : LineTotal). counts line.0) others)
    ∙ ap (λ l. picked counts hs totals ++ l) (lines_in_order k blocks p region counts m (suc n) all (omega (arith, long))))

-- ---- the part that a processor owns for another is its own part, or empty
same_or_none : (axes : List Axis) (ns cs ks : List ℕ) (dims : List Dim) → length cs ≡ length ks
    → (each_owned axes ns cs ks dims ≡ each_owned axes ns cs cs dims) ⊎ (tuple_count (each_owned axes ns cs ks dims) ≡ 0)
same_or_none [] ns cs ks dims l = inl refl
same_or_none (a ∷ axes) [] cs ks dims l = inl refl
same_or_none (a ∷ axes) (n ∷ ns) [] ks dims l = inl refl
same_or_none (a ∷ axes) (n ∷ ns) (c ∷ cs) [] dims l = absurd (omega (arith, l))
same_or_none (a ∷ axes) (n ∷ ns) (c ∷ cs) (k ∷ ks) [] l = inl refl
same_or_none (a ∷ axes) (n ∷ ns) (c ∷ cs) (k ∷ ks) (Range lo hi step align ∷ dims) l = by (same_or_none axes ns cs ks dims (omega (arith, l)))
  where
    by : (each_owned axes ns cs ks dims ≡ each_owned axes ns cs cs dims) ⊎ (tuple_count (each_owned axes ns cs ks dims) ≡ 0)
        → (owned_dim a n c k (Range lo hi step align) ∷ each_owned axes ns cs ks dims ≡ owned_dim a n c c (Range lo hi step align) ∷ each_owned axes ns cs cs dims)
        ⊎ (coordinate_count (owned_dim a n c k (Range lo hi step align)) * tuple_count (each_owned axes ns cs ks dims) ≡ 0)
    by (inl same) = inl (ap (λ ds. owned_dim a n c k (Range lo hi step align) ∷ ds) same)
    by (inr none) = inr (ap (λ i. coordinate_count (owned_dim a n c k (Range lo hi step align)) * i) none ∙ omega arith)
same_or_none (a ∷ axes) (n ∷ ns) (c ∷ cs) (k ∷ ks) (Flood ∷ dims) l = by (c == k) (same_or_none axes ns cs ks dims (omega (arith, l)))
  where
    itself : owned_dim a n c c Flood ≡ Flood
    itself = ap (λ b. cond b Flood nothing) (eq-eqb c c refl)

    by : (b : Bool) → (each_owned axes ns cs ks dims ≡ each_owned axes ns cs cs dims) ⊎ (tuple_count (each_owned axes ns cs ks dims) ≡ 0)
        → (cond b Flood nothing ∷ each_owned axes ns cs ks dims ≡ owned_dim a n c c Flood ∷ each_owned axes ns cs cs dims)
        ⊎ (coordinate_count (cond b Flood nothing) * tuple_count (each_owned axes ns cs ks dims) ≡ 0)
    by true (inl same) = inl (cons_same (sym itself) same)
    by true (inr none) = inr (ap (λ i. 1 * i) none)
    by false rest = inr (omega arith)

pub owned_same_or_none : (blocks : Blocks) (q p : ℕ) (region : Region)
    → (owned_part blocks q p region ≡ owned_part blocks q q region) ⊎ (tuple_count (owned_part blocks q p region).dims ≡ 0)
owned_same_or_none blocks q p region =
    by (same_or_none (axes_at blocks region.rank) ns (blocks_at ns q) (blocks_at ns p) region.dims (blocks_length ns q ∙ sym (blocks_length ns p)))
  where
    ns : List ℕ
    ns = cuts blocks.grid region.rank

    by : ((owned_part blocks q p region).dims ≡ (owned_part blocks q q region).dims) ⊎ (tuple_count (owned_part blocks q p region).dims ≡ 0)
        → (owned_part blocks q p region ≡ owned_part blocks q q region) ⊎ (tuple_count (owned_part blocks q p region).dims ≡ 0)
    by (inl same) = inl (ap (λ ds. record { rank = region.rank; dims = ds }) same)
    by (inr none) = inr none
