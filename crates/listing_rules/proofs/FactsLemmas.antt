-- What is known of rows that have been read.
use Rattle.std.proofs.Common.{◌≡◌, ℕ, zero, suc, ◌+◌, ◌<◌, ◌≤◌, ◌⊎◌, inl, inr, List, [], ◌∷◌, ◌++◌, length, take, sym, ap, subst, refl, arith, length-append}
use Rattle.std.specs.Prelude.{Option, Some, None, slice_get, IsTrue, ◌↔◌}
use Rattle.std.specs.Option.{IsSomeAnd}
use Rattle.std.proofs.lemmas.Option.{slice_get_within, slice_get_past}
use Rattle.node_form.specs.Fits.{IsRank}
use Rattle.listing_rules.specs.declared.facts.Ranks.{Ranks}
use Rattle.listing_rules.specs.Facts.{AreRanks, Tell}
use Rattle.listing_rules.specs.Ranks.{bit}

pub bit_tells : (Holds : ℕ → Type 0) (ranks : Ranks) (rank : ℕ) → AreRanks Holds ranks → IsRank rank → IsTrue (bit rank ranks) ↔ Holds rank
bit_tells Holds ranks zero are is = let low = is.0 in absurd (omega arith)
bit_tells Holds ranks (suc zero) are is = are.one
bit_tells Holds ranks (suc (suc zero)) are is = are.two
bit_tells Holds ranks (suc (suc (suc zero))) are is = are.three
bit_tells Holds ranks (suc (suc (suc (suc n)))) are is = let high = is.1 in absurd (omega arith)

-- ---- the fact of a row
stands : {X : Type 0} (xs : List X) (k : ℕ) → k < length xs → (x : X) × (slice_get xs k ≡ Some x)
stands [] k inside = absurd (omega arith)
stands (x ∷ xs) zero inside = (x, refl)
stands (x ∷ xs) (suc k) inside = stands xs k (omega arith)

pub told : {X F : Type 0} (Is : X → F → Type 0) (P : X → Type 0) (Q : Type 0) (rows : List X) (facts : List F) (k : ℕ) (fact : F) → Tell Is rows facts → slice_get facts k ≡ Some fact →
    ((row : X) → Is row fact → Q ↔ P row) → Q ↔ IsSomeAnd (slice_get rows k) P
told {X} Is P Q rows facts k fact tell found same =
    let inside = slice_get_within facts k fact found in
    let count = tell.count in
    let row = stands rows k (omega arith) in
    subst (λ (o : Option X). Q ↔ IsSomeAnd o P) (sym row.1) (same row.0 (tell.each k row.0 fact row.1 found))

past : {F : Type 0} (facts : List F) (k : ℕ) → slice_get facts k ≡ None → length facts ≤ k
past [] k e = omega arith
past (f ∷ facts) zero e = absurd cc
past (f ∷ facts) (suc k) e = let more = past facts k e in omega (arith, more)

pub untold : {X F : Type 0} (Is : X → F → Type 0) (P : X → Type 0) (rows : List X) (facts : List F) (k : ℕ) → Tell Is rows facts → slice_get facts k ≡ None → IsSomeAnd (slice_get rows k) P → ⊥
untold {X} Is P rows facts k tell none has =
    let behind = past facts k none in
    let count = tell.count in
    subst (λ (o : Option X). IsSomeAnd o P) (slice_get_past rows k (omega arith)) has

-- ---- facts of lists that grow
last : {X : Type 0} (xs : List X) (x : X) (k : ℕ) (y : X) → slice_get (xs ++ x ∷ []) k ≡ Some y → (slice_get xs k ≡ Some y) ⊎ ((k ≡ length xs) × (x ≡ y))
last [] x zero y e = let same : x ≡ y = cc in inr (refl, same)
last [] x (suc k) y e = absurd cc
last (z ∷ xs) x zero y e = inl e
last (z ∷ xs) x (suc k) y e = elim (last xs x k y e) [ inl h ↦ inl h | inr h ↦ inr (ap suc h.0, h.1) ]

pub tell_none : {X F : Type 0} (Is : X → F → Type 0) → Tell Is [] []
tell_none Is = record { count = refl; each = λ k row fact e f. absurd cc }

pub tell_more : {X F : Type 0} (Is : X → F → Type 0) (rows more : List X) (facts known : List F) (row : X) (fact : F) → Tell Is rows facts → Is row fact → more ≡ rows ++ row ∷ [] → known ≡ facts ++ fact ∷ [] → Tell Is more known
tell_more {X} {F} Is rows more facts known row fact tell is grown also =
    let count = tell.count in
    rw (grown, also) (record {
      count = omega (arith, length-append rows (row ∷ []), length-append facts (fact ∷ []));
      each = λ k a b e f.
          elim (last rows row k a e) [
            | inl h ↦ elim (last facts fact k b f) [
              | inl i ↦ tell.each k a b h i
              | inr i ↦ let inside = slice_get_within rows k a h in let at = i.0 in absurd (omega arith)
            ]
            | inr h ↦ elim (last facts fact k b f) [
              | inl i ↦ let inside = slice_get_within facts k b i in let at = h.0 in absurd (omega arith)
              | inr i ↦ subst (λ (x : X). Is x b) h.1 (subst (λ (y : F). Is row y) i.1 is)
            ]
          ];
    })

-- one row more of a list
pub take_at : {X : Type 0} (xs : List X) (k : ℕ) (x : X) → slice_get xs k ≡ Some x → take (k + 1) xs ≡ take k xs ++ x ∷ []
take_at [] k x e = absurd cc
take_at (y ∷ xs) zero x e = let same : y ≡ x = cc in rw same refl
take_at (y ∷ xs) (suc k) x e =
    let next : suc k + 1 ≡ suc (k + 1) = omega arith in
    rw next (ap (λ (l : List _). y ∷ l) (take_at xs k x e))

pub take_whole : {X : Type 0} (xs : List X) (k : ℕ) → length xs ≤ k → take k xs ≡ xs
take_whole [] zero past = refl
take_whole [] (suc k) past = refl
take_whole (x ∷ xs) zero past = absurd (omega arith)
take_whole (x ∷ xs) (suc k) past = ap (λ (l : List _). x ∷ l) (take_whole xs k (omega arith))
