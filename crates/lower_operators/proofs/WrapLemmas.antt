-- Borders of reads that wrap round.
use Rattle.std.proofs.Common.{◌≡◌, ℕ, suc, ◌+◌, ◌<◌, ◌≤◌, true, ℤ, pos, List, [], ◌∷◌, ◌++◌, map, flat_map, length, drop, get_or, refl, sym, ap, ap₂, ◌∙◌, append_assoc, append-nil, arith}
use Rattle.std.proofs.lemmas.List.{at_drop_more, at_drop_all}
use Rattle.zpl_nums.specs.Integer.{is_true}
use Rattle.lower_regions.specs.of_zpl_lowering.Hoist.{border_rows, choices, kept_or_not}
use Rattle.lower_regions.specs.of_zpl_lowering.Lowered.{rows_alone}
use Rattle.lower_regions.specs.of_lower_draft.Drafted.{Drafted, grown}
use Rattle.lower_operators.proofs.GrowthLemmas.{nothing, owning_both}

-- ---- vectors

pub three-are : (v : List ℤ) → length v ≡ 3 →
    get_or v 0 (pos 0) ∷ get_or v 1 (pos 0) ∷ get_or v 2 (pos 0) ∷ [] ≡ v
three-are (x ∷ y ∷ z ∷ []) h = refl
three-are [] h = absurd (omega arith)
three-are (x ∷ []) h = absurd (omega arith)
three-are (x ∷ y ∷ []) h = absurd (omega arith)
three-are (x ∷ y ∷ z ∷ w ∷ v) h = absurd (omega arith)

pub mapped-three : (f : ℤ → ℤ) (v : List ℤ) (x y z : ℤ) → length v ≡ 3 →
    x ≡ f (get_or v 0 (pos 0)) → y ≡ f (get_or v 1 (pos 0)) → z ≡ f (get_or v 2 (pos 0)) →
    x ∷ y ∷ z ∷ [] ≡ map f v
mapped-three f v x y z l h k j =
    ap₂ (λ a l. a ∷ l) h (ap₂ (λ a l. a ∷ l) k (ap (λ a. a ∷ []) j)) ∙ ap (map f) (three-are v l)

-- ---- choices

pub kept-two : (d : ℤ) (rest : List ℤ) → is_true d ≡ true →
    kept_or_not d rest ≡ (pos 0 ∷ rest) ∷ (d ∷ rest) ∷ []
kept-two d rest h = rw h refl

-- what each of the vectors makes, one behind the other
pub each-two : (f : List ℤ → List (List ℤ)) (old mid new : List (List ℤ)) (d : ℤ)
    (rest : List ℤ) → is_true d ≡ true → mid ≡ old ++ f (pos 0 ∷ rest) →
    new ≡ mid ++ f (d ∷ rest) → new ≡ old ++ flat_map f (kept_or_not d rest)
each-two f old mid new d rest is h k =
    k ∙ ap (λ l. l ++ f (d ∷ rest)) h ∙ append_assoc old (f (pos 0 ∷ rest)) (f (d ∷ rest))
    ∙ ap (λ l. old ++ (f (pos 0 ∷ rest) ++ l)) (sym (append-nil (f (d ∷ rest))))
    ∙ sym (ap (λ l. old ++ flat_map f l) (kept-two d rest is))

pub two-kept : (old mid new : List (List ℤ)) (d : ℤ) (rest : List ℤ) → is_true d ≡ true →
    mid ≡ old ++ (pos 0 ∷ rest) ∷ [] → new ≡ mid ++ (d ∷ rest) ∷ [] →
    new ≡ old ++ kept_or_not d rest
two-kept old mid new d rest is h k =
    k ∙ ap (λ l. l ++ (d ∷ rest) ∷ []) h
    ∙ append_assoc old ((pos 0 ∷ rest) ∷ []) ((d ∷ rest) ∷ [])
    ∙ sym (ap (λ l. old ++ l) (kept-two d rest is))

flat_both : (f : List ℤ → List (List ℤ)) (xs ys : List (List ℤ)) →
    flat_map f (xs ++ ys) ≡ flat_map f xs ++ flat_map f ys
flat_both f [] ys = refl
flat_both f (x ∷ xs) ys =
    ap (λ l. f x ++ l) (flat_both f xs ys) ∙ sym (append_assoc (f x) (flat_map f xs) (flat_map f ys))

flat_flat : (f g : List ℤ → List (List ℤ)) (xs : List (List ℤ)) →
    flat_map (λ x. flat_map f (g x)) xs ≡ flat_map f (flat_map g xs)
flat_flat f g [] = refl
flat_flat f g (x ∷ xs) =
    ap (λ l. flat_map f (g x) ++ l) (flat_flat f g xs) ∙ sym (flat_both f (g x) (flat_map g xs))

-- by the last component first
pub all-chosen : (x y z : ℤ) →
    flat_map (λ rest. flat_map (kept_or_not x) (kept_or_not y rest)) (kept_or_not z [])
    ≡ choices (x ∷ y ∷ z ∷ [])
all-chosen x y z =
    flat_flat (kept_or_not x) (kept_or_not y) (kept_or_not z [])
    ∙ ap (λ l. flat_map (kept_or_not x) (flat_map (kept_or_not y) l))
    (sym (append-nil (kept_or_not z [])))

-- ---- rows

pub border-next : (line copy home : ℕ) (draft new whole : Drafted) (vectors : List (List ℤ))
    (i : ℕ) (d : List ℤ) (slot behind : ℕ) → i < length vectors → behind ≡ suc (suc slot) →
    new ≡ grown draft (rows_alone (border_rows line copy home slot (get_or vectors i d ∷ []))) →
    grown draft (rows_alone (border_rows line copy home slot (drop i vectors))) ≡ whole →
    grown new (rows_alone (border_rows line copy home behind (drop (i + 1) vectors))) ≡ whole
border-next line copy home draft new whole vectors i d slot behind below is h k =
    let rest = drop (i + 1) vectors in
    let more = border_rows line copy home (suc (suc slot)) rest in
    ap (λ n. grown new (rows_alone (border_rows line copy home n rest))) is
    ∙ ap (λ e. grown e (rows_alone more)) h
    ∙ owning_both draft 0 0 [] [] (border_rows line copy home slot (get_or vectors i d ∷ [])) more
    ∙ sym (at_drop_more (λ l. grown draft (rows_alone (border_rows line copy home slot l))) vectors
    i d below) ∙ k

pub border-end : (line copy home : ℕ) (draft whole : Drafted) (vectors : List (List ℤ)) (i : ℕ)
    (slot : ℕ) → length vectors ≤ i →
    grown draft (rows_alone (border_rows line copy home slot (drop i vectors))) ≡ whole →
    draft ≡ whole
border-end line copy home draft whole vectors i slot past k =
    nothing draft
    ∙ sym (at_drop_all (λ l. grown draft (rows_alone (border_rows line copy home slot l))) vectors i
    past) ∙ k
