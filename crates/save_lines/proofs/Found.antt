-- Words that are read one after another, each found in its own text.
use Rattle.std.proofs.Common.{◌≡◌, ℕ, ◌+◌, ◌<◌, ◌≤◌, List, [], ◌∷◌, ◌++◌, length, take, get_or, map, ap, ◌∙◌, refl, arith}
use Rattle.std.specs.Prelude.{All, Option, Some, None}
use Rattle.std.proofs.lemmas.List.{take_all, length-map, take_more}
use Rattle.std.proofs.lemmas.List.Elements.{All-get_or}
use Rattle.listing_lines.proofs.Taken.{same_at}

-- if the words are those of some things, the first of these were taken
abbrev pub AreTaken : {W X : Type 0} (Is : X → Type 0) (text_of : X → List ℕ) (seen : W → List ℕ) → List W → List X → ℕ → Type 0
AreTaken Is text_of seen words taken k = (all : List _) → All Is all → map seen words ≡ map text_of all → taken ≡ take k all

module _ {W X : Type 0} (Is : X → Type 0) (text_of : X → List ℕ) (seen : W → List ℕ) (w : W) (x : X) where
  abbrev pub Finds : W → Option X → Type 0
  Finds word found = (y : X) → Is y → seen word ≡ text_of y → found ≡ Some y

  pub taken_more : (words : List W) (taken : List X) (k : ℕ) (y : X) → k < length words → AreTaken Is text_of seen words taken k →
      Finds (get_or words k w) (Some y) → AreTaken Is text_of seen words (taken ++ y ∷ []) (k + 1)
  taken_more words taken k y below before finds all are same =
      let at = same_at seen text_of words all k w x same below in
      let own = finds (get_or all k x) (All-get_or Is all k x at.0 are) at.1 in
      let is : y ≡ get_or all k x = cc in
      rw (take_more all k x at.0, is, before all are same) refl

  pub taken_none : (words : List W) (k : ℕ) → k < length words → Finds (get_or words k w) None →
      (all : List X) → All Is all → map seen words ≡ map text_of all → ⊥
  taken_none words k below finds all are same =
      let at = same_at seen text_of words all k w x same below in
      let own = finds (get_or all k x) (All-get_or Is all k x at.0 are) at.1 in
      cc

  pub taken_all : (words : List W) (taken : List X) (k : ℕ) → length words ≤ k → AreTaken Is text_of seen words taken k →
      (all : List X) → All Is all → map seen words ≡ map text_of all → taken ≡ all
  taken_all words taken k past before all are same =
      let many : length all ≤ k = fewer words all k past same in
      before all are same ∙ take_all k all many where
        fewer : (ws : List W) (xs : List X) (n : ℕ) → length ws ≤ n → map seen ws ≡ map text_of xs → length xs ≤ n
        fewer ws xs n past' same' =
            let e : length (map seen ws) ≡ length (map text_of xs) = ap length same' in
            let here : length ws ≡ length xs = simp length-map at e in
            omega (arith, past', here)
