-- What words pay for: so many for each word, and what a string weighs.
use Rattle.std.proofs.Common.{◌≡◌, ℕ, ◌+◌, List, [], ◌∷◌, ◌++◌, arith}
use Rattle.zpl_tree.specs.Word.{Word}
use Rattle.zpl_tree.specs.Word as word
use Rattle.zpl_text.specs.Escapes.{unescaped}

abbrev pub word_cost : (List ℕ → ℕ) → Word → ℕ
word_cost text (word.Str bytes) = 32 + text (unescaped bytes)
word_cost text (word.Name name) = 32
word_cost text (word.Number value) = 32
word_cost text word.Ditto = 32
word_cost text (word.Symbol symbol) = 32
word_cost text (word.Keyword key) = 32
word_cost text word.End = 32

abbrev pub cost : (List ℕ → ℕ) → List Word → ℕ
cost text [] = 0
cost text (w ∷ words) = word_cost text w + cost text words

pub cost_both : (text : List ℕ → ℕ) (xs ys : List Word) →
    cost text (xs ++ ys) ≡ cost text xs + cost text ys
cost_both text [] ys = omega arith
cost_both text (x ∷ xs) ys = omega (arith, cost_both text xs ys)

-- strings that weigh nothing
abbrev pub no_text : List ℕ → ℕ
no_text text = 0
