-- All others are children of processor 0.
use Rattle.std.proofs.Common.{◌≡◌, ℕ, zero, suc, ◌+◌, ◌-◌, ◌<◌, ◌≤◌, Bool, true, false, cond, ◌==◌, ℤ, List, [], ◌∷◌, ◌++◌, length, fold, All, slice_get, Option, Some, None, refl, sym, ◌∙◌, ap, subst, arith, le-ltb}
use Rattle.std.specs.List.{range_with_len}
use Rattle.std.proofs.lemmas.List.{length-map}
use Rattle.std.proofs.lemmas.List.FromFn.{length-range_with_len}
use Rattle.std.proofs.lemmas.List.Sums.{sum_by-cons}
use Rattle.std.proofs.lemmas.List.Elements.{All-nil, All-cons, All-head, All-tail, All-append}
use Rattle.grid_meaning.specs.of_grid_links.Machine.{Goes}
use Rattle.grid_meaning.specs.of_grid_links.Run.{count_of}
use Rattle.grid_meaning.specs.of_node_form.declared.instructions.Instr.{Instr}
use Rattle.grid_meaning.specs.of_node_form.declared.tables.Tables.{Tables}
use Rattle.grid_meaning.specs.Action.{Action}
use Rattle.grid_meaning.specs.Collective.{agreed, agreeing_stages, star, joined_values, kept_with, keeping, first_word}
use Rattle.grid_meaning.specs.Grid.{IsCapacity, system_over}
use Rattle.grid_meaning.specs.Local.{Local, processors, processor_numbers, start_local}
use Rattle.grid_meaning.specs.Rows.{collective}
use Rattle.grid_paths.specs.Scene.{Leads}
use Rattle.grid_paths.specs.Tree.{times, parents}
use Rattle.row_orders.specs.Rows.{quiet_scene}
use Rattle.row_orders.specs.Agreement.{gathered, Agreeing, joined_over, AgreeAsStar}
use Rattle.row_orders.proofs.AgreementLemmas.{agrees}
use Rattle.row_orders.proofs.PartnerLemmas.{star_family}

pub processor_count : (code : Tables) (links : Option ℕ) → count_of (system_over code links)
    ≡ processors code
processor_count code links =
    length-map (processor_numbers code) (start_local code)
    ∙ length-range_with_len 0 (processors code)

-- ---- what is kept
abbrev pub kept_of : (ℕ → ℤ) → List ℕ → List (ℕ × List ℤ) → List (ℕ × List ℤ)
kept_of value [] kept = kept
kept_of value (q ∷ from) kept = kept_of value from (kept_with q (value q ∷ []) kept)

pub gathered_is : (value : ℕ → ℤ) (from : List ℕ) (local : Local) → gathered value local from
    ≡ record local { kept = kept_of value from local.kept }
gathered_is value [] local = refl
gathered_is value (q ∷ from) local = gathered_is value from (keeping local q (value q ∷ []))

abbrev pub IsUnder : ℕ → ℕ × List ℤ → Type 0
IsUnder r entry = entry.0 < r

pub kept_last : (q : ℕ) (words : List ℤ) (kept : List (ℕ × List ℤ)) → All (IsUnder q) kept
    → kept_with q words kept ≡ kept ++ (q, words) ∷ []
kept_last q words [] under = refl
kept_last q words (entry ∷ kept) under =
    ap (λ b. Rattle.std.specs.Bool.if◌then◌else◌ b ((q, words) ∷ (entry ∷ kept))
    (entry ∷ kept_with q words kept))
    (le-ltb q entry.0 (let less : entry.0 < q = All-head (IsUnder q) entry kept under in omega
    (arith, less)))
    ∙ ap (λ l. entry ∷ l) (kept_last q words kept (All-tail (IsUnder q) entry kept under))

-- the values of all are joined in their order
joined_from : (join : ℤ → ℤ → ℤ) (value : ℕ → ℤ) (first : ℤ) (a n : ℕ) (kept : List (ℕ × List ℤ))
    → All (IsUnder a) kept
    → fold (λ v entry. join v (first_word entry.1)) first (kept_of value (range_with_len a n) kept)
    ≡ fold (λ v q. join v (value q)) (fold (λ v entry. join v (first_word entry.1)) first kept)
    (range_with_len a n)
joined_from join value first a zero kept under = refl
joined_from join value first a (suc n) kept under =
    ap (λ l. fold (λ v entry. join v (first_word entry.1)) first
    (kept_of value (range_with_len (a + 1) n) l)) (kept_last a (value a ∷ []) kept under)
    ∙ (joined_from join value first (a + 1) n (kept ++ (a, value a ∷ []) ∷ [])
    (All-append (IsUnder (a + 1)) kept ((a, value a ∷ []) ∷ [])
    (λ i d below. omega (arith, under i d below))
    (All-cons (IsUnder (a + 1)) (a, value a ∷ []) [] (omega arith) (All-nil (IsUnder (a + 1)))))
    ∙ ap (λ v. fold (λ w q. join w (value q)) v (range_with_len (a + 1) n))
    (last_joined kept first))
  where
    last_joined : (entries : List (ℕ × List ℤ)) (start : ℤ)
        → fold (λ v entry. join v (first_word entry.1)) start (entries ++ (a, value a ∷ []) ∷ [])
        ≡ join (fold (λ v entry. join v (first_word entry.1)) start entries) (value a)
    last_joined [] start = refl
    last_joined (entry ∷ entries) start = last_joined entries (join start (first_word entry.1))

fold_same : (join : ℤ → ℤ → ℤ) (f g : ℕ → ℤ) (first : ℤ) (a n : ℕ) → ((q : ℕ) → a ≤ q → f q ≡ g q)
    → fold (λ v q. join v (f q)) first (range_with_len a n)
    ≡ fold (λ v q. join v (g q)) first (range_with_len a n)
fold_same join f g first a zero same = refl
fold_same join f g first a (suc n) same =
    ap (λ v. fold (λ w q. join w (f q)) (join first v) (range_with_len (a + 1) n))
    (same a (omega arith))
    ∙ fold_same join f g (join first (g a)) (a + 1) n (λ q less. same q (omega (arith, less)))

pub between : (from many most : ℕ) → 0 < from → (0 < many → from + many ≤ most)
    → All (λ c. (0 < c) × (c < most)) (range_with_len from many)
between from zero most low high = All-nil (λ c. (0 < c) × (c < most))
between from (suc many) most low high =
    let fits : from + suc many ≤ most = high (omega arith) in
    All-cons (λ c. (0 < c) × (c < most)) from (range_with_len (from + 1) many)
    (low, omega (arith, fits))
    (between (from + 1) many most (omega arith) (λ some. omega (arith, fits)))

parents_once : (p : ℕ) (parent : Option ℕ) → times p (parents parent) ≤ 1
parents_once p None = omega arith
parents_once p (Some r) = subst (λ n. n ≤ 1) (sym (sum_by-cons (λ m. cond (m == p) 1 0) r []))
    (few (r == p))
  where
    few : (b : Bool) → cond b 1 0 + 0 ≤ 1
    few true = omega arith
    few false = omega arith

abbrev star_sum : ℤ → (Local → ℤ) → (ℕ → Local) → ℕ → ℤ
star_sum value own one zero = value
star_sum value own one (suc p) = own (one (suc p))

module _ (code : Tables) (links : Option ℕ) (capable : IsCapacity links)
    (counts : count_of (system_over code links) ≡ processors code)
    (join : ℤ → ℤ → ℤ) (own : Local → ℤ) (last : Local → ℤ → Action) (at : ℕ) (instr : Instr)
    (here : slice_get code.code at ≡ Some instr)
    (rows : (p : ℕ) → p < processors code → collective code p instr
    ≡ Some (agreed (star code p) join own last))
    (blind_own : (local : Local) (n : ℕ) (kept : List (ℕ × List ℤ))
    → own (record local { made = n; kept = kept }) ≡ own local)
    (blind_last : (local : Local) (n : ℕ) (kept : List (ℕ × List ℤ)) (value : ℤ)
    → last (record local { made = n; kept = kept }) value ≡ last local value)
    (one : ℕ → Local) (stands : (p : ℕ) → (one p).at ≡ at) (runs : (p : ℕ) → (one p).ended ≡ None)
    (made : (p : ℕ) → (one p).made ≡ 0)
    (kept : (p : ℕ) → (one p).kept ≡ []) where
  abbrev value : ℤ
  value = joined_over (processors code) join own one

  sums : (p : ℕ) → joined_values (star code p) join own
      (gathered (star_sum value own one) (one p) (star code p).children) ≡ star_sum value own one p
  sums zero =
      ap (joined_values (star code 0) join own)
      (gathered_is (star_sum value own one) (range_with_len 1 (processors code - 1)) (one 0))
      ∙ (ap (λ v. fold (λ w entry. join w (first_word entry.1)) v
      (kept_of (star_sum value own one) (range_with_len 1 (processors code - 1)) (one 0).kept))
      (blind_own (one 0) (one 0).made
      (kept_of (star_sum value own one) (range_with_len 1 (processors code - 1)) (one 0).kept))
      ∙ (joined_from join (star_sum value own one) (own (one 0)) 1 (processors code - 1)
      (one 0).kept
      (subst (All (IsUnder 1)) (sym (kept 0)) (All-nil (IsUnder 1)))
      ∙ (ap (λ l. fold (λ v q. join v (star_sum value own one q))
      (fold (λ v entry. join v (first_word entry.1)) (own (one 0)) l)
      (range_with_len 1 (processors code - 1))) (kept 0)
      ∙ fold_same join (star_sum value own one) (λ q. own (one q)) (own (one 0)) 1
      (processors code - 1) (λ q less. above q less))))
    where
      above : (q : ℕ) → 1 ≤ q → star_sum value own one q ≡ own (one q)
      above zero less = absurd (omega arith)
      above (suc q) less = refl
  sums (suc p) = ap (λ l. fold (λ v entry. join v (first_word entry.1)) (own (one (suc p))) l)
      (kept (suc p))

  star_agreeing : (other : ℕ → Local) (shown : ℕ → List ℕ)
      → ((p : ℕ) → p < processors code → last (one p) value ≡ Goes (other p) None (shown p))
      → Agreeing code links (star code) join own last value one other shown
  star_agreeing other shown ends = record {
    at_row = λ p below. record {
      running = runs p;
      instr = instr;
      here = ap (slice_get code.code) (stands p)
          ∙ here;
      row_of = rows p (inside p below);
    };
    made = λ p below. made p;
    kept = λ p below. kept p;
    at = at;
    same_at = λ p below. stands p;
    blind_own = λ local n. blind_own local n local.kept;
    blind_last = λ local n v. blind_last local n local.kept v;
    children = λ p below. subst (λ n. All (λ c. (p < c) × (c < n)) (star code p).children)
        (sym counts) (children p);
    family = λ p q a b. star_family code p q (inside p a) (inside q b);
    once = λ p q a b. once p q (inside p a) (inside q b);
    parent = λ q p below e. parent q p e;
    sum = star_sum value own one;
    sums = λ p below. sums p;
    root = λ p below e. root p e;
    ends = λ p below.
        ap (λ l. last l value)
        (ap (λ l. gathered (λ q. value) l (parents (star code p).parent))
        (gathered_is (star_sum value own one) (star code p).children (one p))
        ∙ gathered_is (λ q. value) (parents (star code p).parent) _)
        ∙ (blind_last (one p) (one p).made _ value ∙ ends p (inside p below));
  }
    where
      inside : (p : ℕ) → p < count_of (system_over code links) → p < processors code
      inside p below = subst (λ n. p < n) counts below

      children : (p : ℕ) → All (λ c. (p < c) × (c < processors code)) (star code p).children
      children zero = between 1 (processors code - 1) (processors code) (omega arith)
          (λ some. omega (arith, some))
      children (suc p) = All-nil (λ c. (suc p < c) × (c < processors code))

      once : (p q : ℕ) → p < processors code → q < processors code → times q (star code p).children
          ≤ 1
      once p q a b = subst (λ n. n ≤ 1) (sym (star_family code p q a b))
          (parents_once p (star code q).parent)

      parent : (q p : ℕ) → (star code q).parent ≡ Some p → p < q
      parent zero p e = cc
      parent (suc q) p e = let same : 0 ≡ p = cc in omega (arith, same)

      root : (p : ℕ) → (star code p).parent ≡ None → star_sum value own one p ≡ value
      root zero e = refl
      root (suc p) e = cc

star_leads : (code : Tables) (links : Option ℕ) → IsCapacity links
    → count_of (system_over code links) ≡ processors code
    → (join : ℤ → ℤ → ℤ) (own : Local → ℤ) (last : Local → ℤ → Action) (at : ℕ) (instr : Instr)
    → slice_get code.code at ≡ Some instr
    → ((p : ℕ) → p < processors code → collective code p instr
    ≡ Some (agreed (star code p) join own last))
    → ((local : Local) (n : ℕ) (kept : List (ℕ × List ℤ))
    → own (record local { made = n; kept = kept }) ≡ own local)
    → ((local : Local) (n : ℕ) (kept : List (ℕ × List ℤ)) (value : ℤ)
    → last (record local { made = n; kept = kept }) value ≡ last local value)
    → (one other : ℕ → Local) (shown : ℕ → List ℕ) → ((p : ℕ) → (one p).at ≡ at)
    → ((p : ℕ) → (one p).ended ≡ None) → ((p : ℕ) → (one p).made ≡ 0)
    → ((p : ℕ) → (one p).kept ≡ [])
    → ((p : ℕ) → p < processors code → last (one p) (joined_over (processors code) join own one)
    ≡ Goes (other p) None (shown p))
    → Leads (system_over code links) (quiet_scene one) (quiet_scene other)
    (λ p. length (agreeing_stages (star code p))) shown
star_leads code links capable counts join own last at instr here rows blind_own blind_last one other
    shown stands runs made kept ends =
    agrees code links capable (star code) join own last (joined_over (processors code) join own one)
    one other shown
    (star_agreeing code links capable counts join own last at instr here rows blind_own blind_last
    one stands runs made kept other shown ends)

pub agree_as_star : (code : Tables) (links : Option ℕ) → IsCapacity links → AgreeAsStar code links
agree_as_star code links capable join own last at one other shown row stands ends =
    star_leads code links capable (processor_count code links) join own last at row.instr row.here
    row.rows row.blind_own row.blind_last one other shown (λ p. (stands p).stands)
    (λ p. (stands p).runs) (λ p. (stands p).made) (λ p. (stands p).kept) ends
