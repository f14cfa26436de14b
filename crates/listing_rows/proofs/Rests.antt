-- What is left of lists, and fields in a row.
use Rattle.std.proofs.Common.{◌≡◌, ℕ, zero, suc, ◌+◌, List, [], ◌∷◌, ◌++◌, drop, map, sym, ◌∙◌, ap, refl, arith}
use Rattle.std.specs.Prelude.{Option, Some, None, slice_get}
use Rattle.std.specs.List.{flat_map}
use Rattle.std.proofs.lemmas.List.{append_assoc}
use Rattle.listing_lines.specs.of_node_form.Grid.{factors_of}
use Rattle.listing_lines.specs.declared.fields.Field.{Field}
use Rattle.listing_rows.specs.declared.fields.Said.{Said}
use Rattle.listing_rows.specs.Fields.{added, field_of, fields_of}

-- a row that is at a place is the first one that is left there
pub drop_at : {A : Type 0} (xs : List A) (k : ℕ) (x : A) → slice_get xs k ≡ Some x → drop k xs ≡ x ∷ drop (k + 1) xs
drop_at [] k x e = absurd cc
drop_at (y ∷ xs) zero x e = let same : y ≡ x = cc in rw same refl
drop_at (y ∷ xs) (suc k) x e =
    let step = drop_at xs k x e in
    let next : suc k + 1 ≡ suc (k + 1) = omega arith in
    rw next step

added-append : (field : Option Field) (xs ys : List Field) → added field xs ++ ys ≡ added field (xs ++ ys)
added-append None xs ys = refl
added-append (Some field) xs ys = refl

pub fields_of_append : (xs ys : List Said) → fields_of (xs ++ ys) ≡ fields_of xs ++ fields_of ys
fields_of_append [] ys = refl
fields_of_append (x ∷ xs) ys = ap (added (field_of x)) (fields_of_append xs ys) ∙ sym (added-append (field_of x) (fields_of xs) (fields_of ys))

pub factors_more : (factor : ℕ) (grid : List ℕ) → (factor ≡ 0 → ⊥) → factors_of (factor ∷ grid) ≡ factor ∷ factors_of grid
factors_more zero grid some = absurd (some refl)
factors_more (suc n) grid some = refl

-- a step of a loop that appends one element for each row
pub pushed : {A B : Type 0} (f : A → B) (rows : List A) (k : ℕ) (row : A) (old new whole : List B) → slice_get rows k ≡ Some row →
    new ≡ old ++ f row ∷ [] → old ++ map f (drop k rows) ≡ whole → new ++ map f (drop (k + 1) rows) ≡ whole
pushed f rows k row old new whole here grown before =
    let step = drop_at rows k row here in
    let left : old ++ f row ∷ map f (drop (k + 1) rows) ≡ whole = rw step at before in
    rw grown (append_assoc old (f row ∷ []) (map f (drop (k + 1) rows)) ∙ left)

-- and of one that appends several
pub extended : {A B : Type 0} (f : A → List B) (rows : List A) (k : ℕ) (row : A) (old new whole : List B) → slice_get rows k ≡ Some row →
    new ≡ old ++ f row → old ++ flat_map f (drop k rows) ≡ whole → new ++ flat_map f (drop (k + 1) rows) ≡ whole
extended f rows k row old new whole here grown before =
    let step = drop_at rows k row here in
    let left : old ++ (f row ++ flat_map f (drop (k + 1) rows)) ≡ whole = rw step at before in
    rw grown (append_assoc old (f row) (flat_map f (drop (k + 1) rows)) ∙ left)

-- three lists, appended one after another to none
pub joined : {A : Type 0} (start one two all xs ys zs : List A) → start ≡ [] → one ≡ start ++ xs → two ≡ one ++ ys → all ≡ two ++ zs →
    all ≡ xs ++ (ys ++ zs)
joined start one two all xs ys zs e f g h = rw (h, g, f, e) (append_assoc xs ys zs)
