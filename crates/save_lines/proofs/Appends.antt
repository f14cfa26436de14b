-- Texts that are appended one after another.
use Rattle.std.proofs.Common.{◌≡◌, ℕ, List, [], ◌∷◌, ◌++◌, refl, ap, sym, ◌∙◌}
use Rattle.std.specs.Prelude.{Result, Ok, Err, OnOk}
use Rattle.std.specs.List.{flat_map}
use Rattle.std.proofs.lemmas.Grind.{flat_map-append}
use Rattle.std.proofs.lemmas.List.{append_assoc, append-nil}
use Rattle.listing_lines.specs.Line.{spaced}

pub by_ok : {V E : Type 0} (r : Result V E) (P Q : Type 0) → OnOk r P → (P → Q) → OnOk r Q
by_ok (Ok v) P Q h f = f h
by_ok (Err e) P Q h f = tt

joined : (s x y a b : List ℕ) → a ≡ s ++ x → b ≡ a ++ y → b ≡ s ++ (x ++ y)
joined s x y a b is_a is_b = is_b ∙ (ap (λ t. t ++ y) is_a ∙ append_assoc s x y)

regrouped : (lo dots hi one step two align : List ℕ) →
    lo ++ (dots ++ hi) ++ one ++ step ++ two ++ align ≡ lo ++ (dots ++ (hi ++ (one ++ (step ++ (two ++ align)))))
regrouped lo dots hi one step two align = simp append_assoc refl

-- bounds, a step and an alignment
pub range_appended : (s a b c d e lo hi step align : List ℕ) → a ≡ s ++ (lo ++ (46 ∷ 46 ∷ hi)) → b ≡ a ++ 58 ∷ [] → c ≡ b ++ step →
    d ≡ c ++ 58 ∷ [] → e ≡ d ++ align → e ≡ s ++ (lo ++ (46 ∷ 46 ∷ (hi ++ 58 ∷ (step ++ 58 ∷ (align ++ [])))))
range_appended s a b c d e lo hi step align is_a is_b is_c is_d is_e =
    let front = lo ++ (46 ∷ 46 ∷ hi) in
    let at_b = joined s front (58 ∷ []) a b is_a is_b in
    let at_c = joined s (front ++ 58 ∷ []) step b c at_b is_c in
    let at_d = joined s (front ++ 58 ∷ [] ++ step) (58 ∷ []) c d at_c is_d in
    let at_e = joined s (front ++ 58 ∷ [] ++ step ++ 58 ∷ []) align d e at_d is_e in
    rw append-nil (at_e ∙ ap (λ t. s ++ t) (regrouped lo (46 ∷ 46 ∷ []) hi (58 ∷ []) step (58 ∷ []) align))

-- words, each behind a space
pub words_appended : (s a b : List ℕ) (xs ys : List (List ℕ)) → a ≡ s ++ flat_map spaced xs → b ≡ a ++ flat_map spaced ys →
    b ≡ s ++ flat_map spaced (xs ++ ys)
words_appended s a b xs ys is_a is_b =
    joined s (flat_map spaced xs) (flat_map spaced ys) a b is_a is_b ∙ ap (λ t. s ++ t) (sym (flat_map-append spaced xs ys))

pub end_appended : (f g h last : List ℕ) → g ≡ f ++ (32 ∷ 101 ∷ 110 ∷ 100 ∷ 32 ∷ []) → h ≡ g ++ last →
    h ≡ f ++ flat_map spaced ((101 ∷ 110 ∷ 100 ∷ []) ∷ last ∷ [])
end_appended f g h last is_g is_h = rw append-nil (joined f (32 ∷ 101 ∷ 110 ∷ 100 ∷ 32 ∷ []) last g h is_g is_h)

-- a word, five pairs of words, and two more words
pub row_appended : (s a b c d e f g h : List ℕ) (w n1 w1 n2 w2 n3 w3 n4 w4 n5 w5 last : List ℕ) →
    a ≡ s ++ flat_map spaced (w ∷ []) → b ≡ a ++ flat_map spaced (n1 ∷ w1 ∷ []) → c ≡ b ++ flat_map spaced (n2 ∷ w2 ∷ []) →
    d ≡ c ++ flat_map spaced (n3 ∷ w3 ∷ []) → e ≡ d ++ flat_map spaced (n4 ∷ w4 ∷ []) → f ≡ e ++ flat_map spaced (n5 ∷ w5 ∷ []) →
    g ≡ f ++ (32 ∷ 101 ∷ 110 ∷ 100 ∷ 32 ∷ []) → h ≡ g ++ last →
    h ≡ s ++ flat_map spaced (w ∷ n1 ∷ w1 ∷ n2 ∷ w2 ∷ n3 ∷ w3 ∷ n4 ∷ w4 ∷ n5 ∷ w5 ∷ (101 ∷ 110 ∷ 100 ∷ []) ∷ last ∷ [])
row_appended s a b c d e f g h w n1 w1 n2 w2 n3 w3 n4 w4 n5 w5 last is_a is_b is_c is_d is_e is_f is_g is_h =
    let at_b = words_appended s a b (w ∷ []) (n1 ∷ w1 ∷ []) is_a is_b in
    let at_c = words_appended s b c (w ∷ n1 ∷ w1 ∷ []) (n2 ∷ w2 ∷ []) at_b is_c in
    let at_d = words_appended s c d (w ∷ n1 ∷ w1 ∷ n2 ∷ w2 ∷ []) (n3 ∷ w3 ∷ []) at_c is_d in
    let at_e = words_appended s d e (w ∷ n1 ∷ w1 ∷ n2 ∷ w2 ∷ n3 ∷ w3 ∷ []) (n4 ∷ w4 ∷ []) at_d is_e in
    let at_f = words_appended s e f (w ∷ n1 ∷ w1 ∷ n2 ∷ w2 ∷ n3 ∷ w3 ∷ n4 ∷ w4 ∷ []) (n5 ∷ w5 ∷ []) at_e is_f in
    words_appended s f h (w ∷ n1 ∷ w1 ∷ n2 ∷ w2 ∷ n3 ∷ w3 ∷ n4 ∷ w4 ∷ n5 ∷ w5 ∷ []) ((101 ∷ 110 ∷ 100 ∷ []) ∷ last ∷ []) at_f (end_appended f g h last is_g is_h)
