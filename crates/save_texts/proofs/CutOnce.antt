-- A listing is cut from the lines behind it in one way: at the first line that begins a state.
use Rattle.std.proofs.Common.{◌≡◌, ℕ, zero, suc, ◌+◌, ◌<◌, ◌≤◌, List, [], ◌∷◌, ◌++◌, length, take, drop, inl, inr, ◌⊎◌, refl, ap, sym, ◌∙◌, subst, arith, length-append}
use Rattle.std.specs.Prelude.{◌≢◌}
use Rattle.std.proofs.lemmas.List.{append_assoc, append-nil, take-append-drop}
use Rattle.grid_save.specs.Fault.{BeginsState, EndsLine, IsCut, proc_text}
use Rattle.grid_save.proofs.CutLemmas.{Every}

-- ---- lists in two parts
pub record Longer {X : Type 0} (xs a ys b : List X) : Type 0 where
  pub more : List X
  pub front : ys ≡ xs ++ more
  pub back : a ≡ more ++ b

-- of two ways to part a list one has the longer front
pub parted : {X : Type 0} (xs a ys b : List X) → xs ++ a ≡ ys ++ b → Longer xs a ys b ⊎ Longer ys b xs a
parted [] a ys b e = inl record { more = ys; front = refl; back = e }
parted (x ∷ xs) a [] b e = inr record { more = x ∷ xs; front = refl; back = sym e }
parted (x ∷ xs) a (y ∷ ys) b e = by (parted xs a ys b tails) where
  head : x ≡ y
  head = cc

  tails : xs ++ a ≡ ys ++ b
  tails = cc

  by : Longer xs a ys b ⊎ Longer ys b xs a → Longer (x ∷ xs) a (y ∷ ys) b ⊎ Longer (y ∷ ys) b (x ∷ xs) a
  by (inl longer) = inl record { more = longer.more; front = (let front = longer.front in ap (λ z. z ∷ ys) (sym head) ∙ ap (λ zs. x ∷ zs) front); back = longer.back }
  by (inr longer) = inr record { more = longer.more; front = (let front = longer.front in ap (λ z. z ∷ xs) head ∙ ap (λ zs. y ∷ zs) front); back = longer.back }

-- what ends in an item ends so behind any front
last_of : (xs : List ℕ) (y : ℕ) (ys f : List ℕ) → xs ++ y ∷ ys ≡ f ++ 10 ∷ [] → (g : List ℕ) × (y ∷ ys ≡ g ++ 10 ∷ [])
last_of [] y ys f e = (f, e)
last_of (x ∷ []) y ys [] e = absurd cc
last_of (x ∷ (z ∷ xs)) y ys [] e = absurd cc
last_of (x ∷ xs) y ys (b ∷ f) e = let tails : xs ++ y ∷ ys ≡ f ++ 10 ∷ [] = cc in last_of xs y ys f tails

-- a line that begins with a word without a newline has it whole
has_front : (w m s rest : List ℕ) → Every (λ b. b ≢ 10) w → m ++ 10 ∷ s ≡ w ++ rest → (r : List ℕ) × (m ++ 10 ∷ [] ≡ w ++ r)
has_front [] m s rest none e = (m ++ 10 ∷ [], refl)
has_front (b ∷ w) [] s rest none e = absurd (none.0 cc)
has_front (b ∷ w) (x ∷ m) s rest none e =
    let head : x ≡ b = cc in
    let tails : m ++ 10 ∷ s ≡ w ++ rest = cc in
    let below = has_front w m s rest none.1 tails in
    (below.0, ap (λ z. z ∷ (m ++ 10 ∷ [])) head ∙ ap (λ zs. b ∷ zs) below.1)

not_newline : (b : ℕ) → 10 < b → b ≢ 10
not_newline b more same = let e : b ≡ 10 = same in omega (arith, more, e)

proc_in_line : Every (λ b. b ≢ 10) proc_text
proc_in_line =
    (not_newline 112 (omega arith), (not_newline 114 (omega arith), (not_newline 111 (omega arith), (not_newline 99 (omega arith), (not_newline 32 (omega arith), tt)))))

pub begins_more : (back more : List ℕ) → BeginsState back → BeginsState (back ++ more)
begins_more back more begins = (begins.0 ++ more, ap (λ bytes. bytes ++ more) begins.1)

-- what begins a state does so whole
pub begins_whole : (n : ℕ) (bytes : List ℕ) → BeginsState (take n bytes) → BeginsState bytes
begins_whole n bytes begins = subst BeginsState (take-append-drop n bytes) (begins_more (take n bytes) (drop n bytes) begins)

-- ---- one cut
no_more : (bytes l1 s1 l2 s2 : List ℕ) → IsCut bytes l1 s1 → IsCut bytes l2 s2 → (longer : Longer l1 s1 l2 s2) → longer.more ≡ []
no_more bytes l1 s1 l2 s2 one other longer = by longer.more longer.front longer.back one.state_begins where
  begun : (x : ℕ) (m : List ℕ) → l2 ≡ l1 ++ x ∷ m → s1 ≡ (x ∷ m) ++ s2 → EndsLine l1 → BeginsState s1 → (s2 ≡ []) ⊎ (EndsLine l2 × BeginsState s2) → BeginsState (x ∷ m)
  begun x m front back ends begins (inl none) = (begins.0, sym (append-nil (x ∷ m)) ∙ (ap (λ s. (x ∷ m) ++ s) (sym none) ∙ (sym back ∙ begins.1)))
  begun x m front back ends begins (inr also) = whole also.0 where
    no : (xs : List ℕ) → [] ≡ xs ++ x ∷ m → ⊥
    no [] e = cc
    no (y ∷ ys) e = cc

    whole : EndsLine l2 → BeginsState (x ∷ m)
    whole (inl none) = absurd (no l1 (sym none ∙ front))
    whole (inr (f, last)) =
        let line = last_of l1 x m f (sym front ∙ last) in
        let text : line.0 ++ 10 ∷ s2 ≡ proc_text ++ begins.0 =
        sym (append_assoc line.0 (10 ∷ []) s2) ∙ (ap (λ bs. bs ++ s2) (sym line.1) ∙ (sym back ∙ begins.1)) in
        let has = has_front proc_text line.0 s2 begins.0 proc_in_line text in
        (has.0, line.1 ∙ has.1)

  by : (more : List ℕ) → l2 ≡ l1 ++ more → s1 ≡ more ++ s2 → (s1 ≡ []) ⊎ (EndsLine l1 × BeginsState s1) → more ≡ []
  by [] front back begins = refl
  by (x ∷ m) front back (inl none) = absurd (let e : [] ≡ x ∷ (m ++ s2) = sym none ∙ back in cc)
  by (x ∷ m) front back (inr begins) =
      absurd (other.listing_lacks l1 (x ∷ m) front begins.0 (begun x m front back begins.0 begins.1 other.state_begins))

pub cut_once : (bytes l1 s1 l2 s2 : List ℕ) → IsCut bytes l1 s1 → IsCut bytes l2 s2 → (l1 ≡ l2) × (s1 ≡ s2)
cut_once bytes l1 s1 l2 s2 one other = by (parted l1 s1 l2 s2 (sym one.whole ∙ other.whole)) where
  by : Longer l1 s1 l2 s2 ⊎ Longer l2 s2 l1 s1 → (l1 ≡ l2) × (s1 ≡ s2)
  by (inl longer) =
      let none = no_more bytes l1 s1 l2 s2 one other longer in
      (sym (longer.front ∙ (ap (λ m. l1 ++ m) none ∙ append-nil l1)), longer.back ∙ ap (λ m. m ++ s2) none)
  by (inr longer) =
      let none = no_more bytes l2 s2 l1 s1 other one longer in
      (longer.front ∙ (ap (λ m. l2 ++ m) none ∙ append-nil l2), sym (longer.back ∙ ap (λ m. m ++ s1) none))

-- ---- found by looking at one line after another
pub cut_at : (bytes : List ℕ) (i : ℕ) → i ≤ length bytes → ((k : ℕ) → k < i → EndsLine (take k bytes) → BeginsState (drop k bytes) → ⊥) →
    (drop i bytes ≡ []) ⊎ (EndsLine (take i bytes) × BeginsState (drop i bytes)) → IsCut bytes (take i bytes) (drop i bytes)
cut_at bytes i inside none begins = record { whole = sym (take-append-drop i bytes); state_begins = begins; listing_lacks = lacks } where
  front_of : (xs ys : List ℕ) → take (length xs) (xs ++ ys) ≡ xs
  front_of [] ys = refl
  front_of (x ∷ xs) ys = ap (λ zs. x ∷ zs) (front_of xs ys)

  back_of : (xs ys : List ℕ) → drop (length xs) (xs ++ ys) ≡ ys
  back_of [] ys = refl
  back_of (x ∷ xs) ys = back_of xs ys

  many : (back : List ℕ) → BeginsState back → 0 < length back
  many back begins = let e = ap length begins.1 in omega (arith, e)

  lacks : (front back : List ℕ) → take i bytes ≡ front ++ back → EndsLine front → BeginsState back → ⊥
  lacks front back e ends begins =
      let whole : bytes ≡ front ++ (back ++ drop i bytes) = sym (take-append-drop i bytes) ∙ (ap (λ bs. bs ++ drop i bytes) e ∙ append_assoc front back (drop i bytes)) in
      let long : length (take i bytes) ≡ length front + length back = ap length e ∙ length-append front back in
      let short : length (take i bytes) ≤ i = most i bytes in
      let some = many back begins in
      let first : take (length front) bytes ≡ front = ap (take (length front)) whole ∙ front_of front (back ++ drop i bytes) in
      let second : drop (length front) bytes ≡ back ++ drop i bytes = ap (drop (length front)) whole ∙ back_of front (back ++ drop i bytes) in
      none (length front) (omega (arith, long, short, some)) (subst EndsLine (sym first) ends) (subst BeginsState (sym second) (begins_more back (drop i bytes) begins))
    where
      most : (n : ℕ) (xs : List ℕ) → length (take n xs) ≤ n
      most zero xs = omega arith
      most (suc n) [] = omega arith
      most (suc n) (x ∷ xs) = let below = most n xs in omega (arith, below)
