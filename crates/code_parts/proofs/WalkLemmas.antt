-- A walk says of code what its test says of stretches.
use Rattle.std.proofs.Common.{◌≡◌, ◌⊎◌, inl, inr, ℕ, zero, suc, ◌+◌, ◌<◌, Bool, true, false, refl}
use Rattle.std.proofs.Common.{sym, ap, ◌∙◌, subst, arith, List, [], ◌∷◌, ◌++◌, length}
use Rattle.std.proofs.Common.{length-append, append_assoc, true≢false}
use Rattle.std.specs.Prelude.{◌&&◌, ◌||◌, if◌then◌else◌, fold}
use Rattle.std.specs.List.{AllByRecursion}
use Rattle.std.proofs.lemmas.List.Sums.{fold-append}
use Rattle.node_form.specs.declared.instructions.Instr.{Instr}
use Rattle.code_parts.specs.Stretch.{EndsAny, IsStretch, IsRightInStretches, ends_stretch, is_goal}
use Rattle.code_parts.specs.Stretch.{is_right_throughout, known_at, known_behind, right_from}
use Rattle.code_parts.specs.Stretch.EndsAny.{nothing_before, ended_by}

-- ---- truth values
pub both_left : (a b : Bool) → (a && b) ≡ true → a ≡ true
both_left true b e = refl
both_left false b e = e

pub both_right : (a b : Bool) → (a && b) ≡ true → b ≡ true
both_right true b e = e
both_right false b e = absurd (true≢false (sym e))

other_one : (a b : Bool) → a ≡ false → (a || b) ≡ true → b ≡ true
other_one true b off e = absurd (true≢false off)
other_one false b off e = e

last_or : (k n : ℕ) → k < n + 1 → (k < n) ⊎ (k ≡ n)
last_or zero zero below = inr refl
last_or zero (suc n) below = inl (omega arith)
last_or (suc k) zero below = absurd (omega (arith, below))
last_or (suc k) (suc n) below = more (last_or k n (omega (arith, below)))
  where
    more : (k < n) ⊎ (k ≡ n) → (suc k < suc n) ⊎ (suc k ≡ suc n)
    more (inl less) = inl (omega (arith, less))
    more (inr same) = inr (ap suc same)

same_either_way : {X : Type 0} (b : Bool) (x y : X) → x ≡ y → (if b then y else x) ≡ y
same_either_way true x y e = refl
same_either_way false x y e = e

at_true : {X : Type 0} (b : Bool) (x y : X) → b ≡ true → (if b then x else y) ≡ x
at_true b x y e = ap (λ b. if b then x else y) e

at_false : {X : Type 0} (b : Bool) (x y : X) → b ≡ false → (if b then x else y) ≡ y
at_false b x y e = ap (λ b. if b then x else y) e

-- ---- rows of which something holds
pub every_append : {X : Type 0} (P : X → Type 0) (xs ys : List X) → AllByRecursion P xs
    → AllByRecursion P ys → AllByRecursion P (xs ++ ys)
every_append P [] ys left right = right
every_append P (x ∷ xs) ys left right = (left.0, every_append P xs ys left.1 right)

pub every_front : {X : Type 0} (P : X → Type 0) (xs ys : List X) → AllByRecursion P (xs ++ ys)
    → AllByRecursion P xs
every_front P [] ys all = tt
every_front P (x ∷ xs) ys all = (all.0, every_front P xs ys all.1)

-- a front of a stretch is one
pub stretch_front : (code rows more : List Instr) → IsStretch code (rows ++ more)
    → IsStretch code rows
stretch_front code rows more s = record {
  front = s.front;
  back = more ++ s.back;
  place = s.place ∙ ap (λ l. s.front ++ l) (append_assoc rows more s.back);
  straight = every_front (λ row. ends_stretch row ≡ false) rows more s.straight;
  inside = λ k some below. s.inside k some (omega (arith, below, length-append rows more));
  begins = s.begins;
}

module _ {F : Type 0} (nothing : F) (learn : F → Instr → F) (is_right : F → Instr → Bool)
    (code : List Instr) where
  abbrev at_row : ℕ → F → F
  at_row at facts = known_at nothing learn is_right code at facts

  abbrev behind_row : F → Instr → F
  behind_row facts row = known_behind nothing learn is_right code facts row

  abbrev from : ℕ → F → List Instr → Bool
  from at facts rows = right_from nothing learn is_right code at facts rows

  -- what is known behind rows
  abbrev behind : ℕ → F → List Instr → F
  behind at facts [] = facts
  behind at facts (row ∷ rows) = behind (at + 1) (behind_row (at_row at facts) row) rows

  -- ---- from the walk to stretches
  past : (front rows : List Instr) (at : ℕ) (facts : F) → from at facts (front ++ rows) ≡ true
      → from (at + length front) (behind at facts front) rows ≡ true
  past [] rows at facts right =
      let e : at ≡ at + 0 = omega arith in
      subst (λ n. from n facts rows ≡ true) e right
  past (row ∷ front) rows at facts right =
      let rest = both_right (ends_stretch row || is_right (at_row at facts) row) _ right in
      let e : at + 1 + length front ≡ at + length (row ∷ front) = omega arith in
      subst (λ n. from n (behind at facts (row ∷ front)) rows ≡ true) e
      (past front rows (at + 1) (behind_row (at_row at facts) row) rest)

  behind_more : (rows : List Instr) (last : Instr) (at : ℕ) (facts : F)
      → ends_stretch last ≡ true → behind at facts (rows ++ last ∷ []) ≡ nothing
  behind_more [] last at facts ends = at_true (ends_stretch last) nothing _ ends
  behind_more (row ∷ rows) last at facts ends =
      behind_more rows last (at + 1) (behind_row (at_row at facts) row) ends

  -- nothing is known where a stretch begins
  fresh : (front : List Instr) → EndsAny front ⊎ (is_goal code (length front) ≡ true)
      → at_row (length front) (behind 0 nothing front) ≡ nothing
  fresh front (inl nothing_before) = same_either_way (is_goal code 0) nothing nothing refl
  fresh front (inl (ended_by rows last ends)) =
      same_either_way (is_goal code (length (rows ++ last ∷ []))) _ nothing
      (behind_more rows last 0 nothing ends)
  fresh front (inr goal) = at_true (is_goal code (length front)) nothing _ goal

  along : (before : List Instr) (row : Instr) (more : List Instr) (at : ℕ) (facts known : F)
      → at_row at facts ≡ known → from at facts (before ++ row ∷ more) ≡ true
      → AllByRecursion (λ row. ends_stretch row ≡ false) (before ++ row ∷ [])
      → ((k : ℕ) → 0 < k → k < length before + 1 → is_goal code (at + k) ≡ false)
      → is_right (fold learn known before) row ≡ true
  along [] row more at facts known is right straight inside =
      other_one (ends_stretch row) _ straight.0
      (subst (λ f. (ends_stretch row || is_right f row) ≡ true) is
      (both_left (ends_stretch row || is_right (at_row at facts) row) _ right))
  along (x ∷ before) row more at facts known is right straight inside =
      let rest = both_right (ends_stretch x || is_right (at_row at facts) x) _ right in
      let learned : behind_row (at_row at facts) x ≡ learn known x =
      at_false (ends_stretch x) nothing _ straight.0 ∙ ap (λ f. learn f x) is in
      let no_goal : is_goal code (at + 1) ≡ false = inside 1 (omega arith) (omega arith) in
      along before row more (at + 1) (behind_row (at_row at facts) x) (learn known x)
      (at_false (is_goal code (at + 1)) nothing _ no_goal ∙ learned) rest straight.1
      (λ k some below.
      let e : at + 1 + k ≡ at + (k + 1) = omega arith in
      ap (is_goal code) e ∙ inside (k + 1) (omega arith) (omega (arith, below)))

  pub in_stretches : is_right_throughout nothing learn is_right code ≡ true
      → IsRightInStretches nothing learn is_right code
  in_stretches right before row s =
      let place : code ≡ s.front ++ (before ++ row ∷ s.back) =
      s.place ∙ ap (λ l. s.front ++ l) (append_assoc before (row ∷ []) s.back) in
      let none : 0 + length s.front ≡ length s.front = omega arith in
      let there = subst
      (λ n. from n (behind 0 nothing s.front) (before ++ row ∷ s.back) ≡ true) none
      (past s.front (before ++ row ∷ s.back) 0 nothing
      (subst (λ rows. from 0 nothing rows ≡ true) place right)) in
      along before row s.back (length s.front) (behind 0 nothing s.front) nothing
      (fresh s.front s.begins) there s.straight
      (λ k some below. s.inside k some (omega (arith, below, length-append before (row ∷ []))))

  -- ---- and back
  -- the rows behind the front are a stretch so far
  record IsBegun (front before : List Instr) : Type 0 where
    straight : AllByRecursion (λ row. ends_stretch row ≡ false) before
    inside : (k : ℕ) → 0 < k → k < length before → is_goal code (length front + k) ≡ false
    begins : EndsAny front ⊎ (is_goal code (length front) ≡ true)

  abbrev Later : List Instr → Type 0
  Later rows =
      (front before : List Instr) (at : ℕ) (facts : F) → code ≡ front ++ (before ++ rows)
      → IsBegun front before → at ≡ length front + length before
      → facts ≡ fold learn nothing before → from at facts rows ≡ true

  and_then : (a b : Bool) → a ≡ true → b ≡ true → (a && b) ≡ true
  and_then true b ea eb = eb
  and_then false b ea eb = ea

  module _ (stretches : IsRightInStretches nothing learn is_right code) where
    -- the row is in the stretch so far, or ends it
    here : (row : Instr) (rows front before : List Instr) (at : ℕ) (known : F) → Later rows
        → code ≡ front ++ (before ++ row ∷ rows) → IsBegun front before
        → ((k : ℕ) → 0 < k → k < length before + 1 → is_goal code (length front + k) ≡ false)
        → at ≡ length front + length before → known ≡ fold learn nothing before
        → ((ends_stretch row || is_right known row)
        && from (at + 1) (behind_row known row) rows) ≡ true
    here row rows front before at known later place begun inside number is =
        by (ends_stretch row) refl
      where
        joined : code ≡ front ++ ((before ++ row ∷ []) ++ rows)
        joined = place ∙ ap (λ l. front ++ l) (sym (append_assoc before (row ∷ []) rows))

        begun_more : ends_stretch row ≡ false → IsBegun front (before ++ row ∷ [])
        begun_more goes_on = record {
          straight = every_append (λ row. ends_stretch row ≡ false) before (row ∷ [])
              begun.straight (goes_on, tt);
          inside = λ k some below.
              inside k some (omega (arith, below, length-append before (row ∷ [])));
          begins = begun.begins;
        }

        stretch : ends_stretch row ≡ false → IsStretch code (before ++ row ∷ [])
        stretch goes_on = record {
          front = front;
          back = rows;
          place = joined;
          straight = (begun_more goes_on).straight;
          inside = (begun_more goes_on).inside;
          begins = begun.begins;
        }

        by : (b : Bool) → ends_stretch row ≡ b
            → ((b || is_right known row)
            && from (at + 1) (if b then nothing else learn known row) rows) ≡ true
        by true ends =
            later (front ++ (before ++ row ∷ [])) [] (at + 1) nothing
            (joined ∙ sym (append_assoc front (before ++ row ∷ []) rows))
            (record {
              straight = tt;
              inside = λ k some below. absurd (omega (arith, below));
              begins = inl (subst EndsAny (append_assoc front before (row ∷ []))
                  (ended_by (front ++ before) row ends));
            })
            (omega (
              arith,
              number,
              length-append front (before ++ row ∷ []),
              length-append before (row ∷ []),
            )) refl
        by false goes_on =
            and_then (is_right known row) _
            (ap (λ f. is_right f row) is ∙ stretches before row (stretch goes_on))
            (later front (before ++ row ∷ []) (at + 1) (learn known row) joined (begun_more goes_on)
            (omega (arith, number, length-append before (row ∷ [])))
            (ap (λ f. learn f row) is ∙ sym (fold-append learn nothing before (row ∷ []))))

    step : (rows : List Instr) → Later rows
    step [] front before at facts place begun number is = refl
    step (row ∷ rows) front before at facts place begun number is =
        by (is_goal code at) refl (step rows)
      where
        by : (b : Bool) → is_goal code at ≡ b → Later rows
            → ((ends_stretch row || is_right (if b then nothing else facts) row)
            && from (at + 1) (behind_row (if b then nothing else facts) row) rows) ≡ true
        by true goal later =
            here row rows (front ++ before) [] at nothing later
            (place ∙ sym (append_assoc front before (row ∷ rows)))
            (record {
              straight = tt;
              inside = λ k some below. absurd (omega (arith, below));
              begins = inr (subst (λ n. is_goal code n ≡ true)
                  (number ∙ sym (length-append front before)) goal);
            })
            (λ k some below. absurd (omega (arith, some, below)))
            (omega (arith, number, length-append front before)) refl
        by false inner later =
            here row rows front before at facts later place begun
            (λ k some below. within inner k some (last_or k (length before) below)) number is
          where
            within : is_goal code at ≡ false → (k : ℕ) → 0 < k
                → (k < length before) ⊎ (k ≡ length before)
                → is_goal code (length front + k) ≡ false
            within inner k some (inl less) = begun.inside k some less
            within inner k some (inr same) =
                ap (is_goal code) (ap (λ n. length front + n) same ∙ sym number) ∙ inner

    pub throughout : is_right_throughout nothing learn is_right code ≡ true
    throughout =
        step code [] [] 0 nothing refl
        (record {
          straight = tt;
          inside = λ k some below. absurd (omega (arith, below));
          begins = inl nothing_before;
        })
        refl refl
