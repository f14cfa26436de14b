-- Declared regions with their slots.
use Rattle.std.proofs.Common.{◌≡◌, ℕ, suc, ◌+◌, ◌<◌, ◌≤◌, Bool, true, false, cond, List, [], ◌∷◌, ◌++◌, map, drop, drop-cons, length, get_or, Option, Some, None, refl, sym, ap, ◌∙◌, subst, arith, Bor}
use Rattle.std.proofs.Math.ListN.{drop_of_length-le}
use Rattle.std.specs.Prelude.{position, unwrap_or}
use Rattle.std.specs.List.{position_from}
use Rattle.std.specs.Str.{bytes_eq}
use Rattle.std.proofs.lemmas.List.{append_assoc, append-nil}
use Rattle.std.proofs.lemmas.Iterator.Adapters.{position_from-zero}
use Rattle.zpl_tree.specs.Syntax.{Name}
use Rattle.zpl_binding.specs.Outcome.{Computed}
use Rattle.zpl_binding.specs.Regions.{Known}
use Rattle.zpl_bind.specs.Tables.{computed, found}
use Rattle.lower_draft.specs.of_zpl_lowering.Bracket.{region_slot}
use Rattle.lower_places.specs.RegionSlots.{region_names, slot_in, slot_or, slots_from, texts_of}

-- what is found of a name is where it first stands
pub found-slots : (slot : ℕ) (names : List (List ℕ)) (text : List ℕ) →
    found (slots_from slot names) text ≡ position_from (λ name. bytes_eq name text) slot names
found-slots slot [] text = refl
found-slots slot (name ∷ names) text =
    by (bytes_eq name text) (found-slots (slot + 1) names text)
  where
    by : (b : Bool) →
        found (slots_from (slot + 1) names) text
        ≡ position_from (λ name. bytes_eq name text) (slot + 1) names →
        cond b (Some slot) (found (slots_from (slot + 1) names) text)
        ≡ cond b (Some slot) (position_from (λ name. bytes_eq name text) (slot + 1) names)
    by true rest = refl
    by false rest = rest

unwrap-slot : (o : Option ℕ) → unwrap_or o 0 ≡ slot_or o
unwrap-slot None = refl
unwrap-slot (Some slot) = refl

pub slot-found : (names : List (List ℕ)) (text : List ℕ) →
    unwrap_or (found (slots_from 0 names) text) 0 ≡ slot_in names text
slot-found names text =
    unwrap-slot (found (slots_from 0 names) text) ∙ ap slot_or (found-slots 0 names text
    ∙ sym (position_from-zero (λ name. bytes_eq name text) names))

-- ---- one name after the other

next-up : (i : ℕ) → suc i ≡ i + 1
next-up i = omega arith

pub slots-more : {T : Type 0} (entries : List (Bor (List ℕ) × T)) (i : ℕ)
    (entry : Bor (List ℕ) × T) (old new all : List (List ℕ × ℕ)) (slot next : ℕ) →
    i < length entries → next ≡ slot + 1 →
    new ≡ old ++ ((get_or entries i entry).0.now, slot) ∷ [] →
    old ++ slots_from slot (texts_of (drop i entries)) ≡ all →
    new ++ slots_from next (texts_of (drop (i + 1) entries)) ≡ all
slots-more {T} entries i entry old new all slot next below up added rest =
    let name = (get_or entries i entry).0.now in
    let P : ℕ → Type 0 = λ n. new ++ slots_from next (texts_of (drop n entries)) ≡ all in
    subst P (next-up i)
    (ap (λ (done : List (List ℕ × ℕ)). done ++ slots_from next (texts_of (drop (suc i) entries)))
    added
    ∙ ap (λ (k : ℕ).
    (old ++ (name, slot) ∷ []) ++ slots_from k (texts_of (drop (suc i) entries))) up
    ∙ append_assoc old ((name, slot) ∷ []) (slots_from (slot + 1) (texts_of (drop (suc i) entries)))
    ∙ ap (λ (left : List (Bor (List ℕ) × T)). old ++ slots_from slot (texts_of left))
    (sym (drop-cons entries i entry below))
    ∙ rest)

pub slots-end : {T : Type 0} (entries : List (Bor (List ℕ) × T)) (i : ℕ)
    (done all : List (List ℕ × ℕ)) (slot : ℕ) → length entries ≤ i →
    done ++ slots_from slot (texts_of (drop i entries)) ≡ all → done ≡ all
slots-end {T} entries i done all slot past rest =
    sym (append-nil done)
    ∙ ap (λ (left : List (Bor (List ℕ) × T)). done ++ slots_from slot (texts_of left))
    (sym (drop_of_length-le entries past))
    ∙ rest

-- ---- names of what was listed

pub listed-texts : {T : Type 0} (entries : List (Bor (List ℕ) × T)) →
    texts_of entries ≡ map (λ (entry : List ℕ × T). entry.0)
    (map (λ (entry : Bor (List ℕ) × T). (entry.0.now, entry.1)) entries)
listed-texts [] = refl
listed-texts (entry ∷ entries) = ap (λ names. entry.0.now ∷ names) (listed-texts entries)

pub slot-names : (slot : ℕ) (names : List (List ℕ)) →
    map (λ (entry : List ℕ × ℕ). entry.0) (slots_from slot names) ≡ names
slot-names slot [] = refl
slot-names slot (name ∷ names) = ap (λ others. name ∷ others) (slot-names (slot + 1) names)

pub computed-names : {T : Type 0} (entries : List (List ℕ × T)) →
    map (λ (entry : List ℕ × T). entry.0) entries ≡ map (λ (one : Computed T). one.name) (computed entries)
computed-names [] = refl
computed-names (entry ∷ entries) = ap (λ names. entry.0 ∷ names) (computed-names entries)

-- ---- regions of what was computed

position-map : {A B : Type 0} (f : A → B) (p : B → Bool) (k : ℕ) (xs : List A) →
    position_from (λ x. p (f x)) k xs ≡ position_from p k (map f xs)
position-map f p k [] = refl
position-map f p k (x ∷ xs) = ap (cond (p (f x)) (Some k)) (position-map f p (k + 1) xs)

named-at : (known : Known) (text : List ℕ) →
    position (λ one. bytes_eq one.name text) known.regions
    ≡ position (λ name. bytes_eq name text) (region_names known)
named-at known text =
    position_from-zero (λ one. bytes_eq one.name text) known.regions
    ∙ position-map (λ one. one.name) (λ name. bytes_eq name text) 0 known.regions
    ∙ sym (position_from-zero (λ name. bytes_eq name text) (region_names known))

slot-is : (known : Known) (name : Name) (o : Option ℕ) →
    position (λ one. bytes_eq one.name name.text) known.regions ≡ o →
    region_slot known name ≡ slot_or o
slot-is known name None is = rw is refl
slot-is known name (Some slot) is = rw is refl

-- the slot of a declared region
pub slot-named : (known : Known) (name : Name) →
    slot_in (region_names known) name.text ≡ region_slot known name
slot-named known name =
    sym (slot-is known name _ (named-at known name.text))
