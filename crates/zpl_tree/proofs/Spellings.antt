-- Equations of the spelling.
use Rattle.std.proofs.Common.{◌≡◌, ◌⊎◌, List, [], ◌∷◌, ◌++◌, append-nil, refl, ◌∙◌, arith}
use Rattle.std.proofs.lemmas.List.Concat.{flat_map-append}
use Rattle.zpl_nums.specs.declared.operators.Op.{Op}
use Rattle.zpl_nums.specs.declared.operators.Op.TheVariants as op
use Rattle.zpl_tokens.specs.declared.symbols.Sym.TheVariants as sym
use Rattle.zpl_tree.specs.Spelling.{symbol, in_round, operator_words, pair_words}
use Rattle.zpl_tree.specs.Word.{Word, End, written, printed_text}

-- the operators that are written before their operands
pub pair_words-call : (o : Op) (left right : List Word) → (o ≡ op.Max) ⊎ (o ≡ op.Min) →
    pair_words o left right ≡ operator_words o ++ in_round (left ++ symbol sym.Comma ++ right)
pair_words-call op.Max left right is = refl
pair_words-call op.Min left right is = refl
pair_words-call op.Add left right is = grind arith
pair_words-call op.Sub left right is = grind arith
pair_words-call op.Mul left right is = grind arith
pair_words-call op.Div left right is = grind arith
pair_words-call op.Rem left right is = grind arith
pair_words-call op.Eq left right is = grind arith
pair_words-call op.Ne left right is = grind arith
pair_words-call op.Lt left right is = grind arith
pair_words-call op.Le left right is = grind arith
pair_words-call op.Gt left right is = grind arith
pair_words-call op.Ge left right is = grind arith
pair_words-call op.And left right is = grind arith
pair_words-call op.Or left right is = grind arith

-- the end is printed as nothing
pub printed_ending : (words : List Word) → printed_text (words ++ End ∷ []) ≡ printed_text words
unfolding written
printed_ending words = flat_map-append written words (End ∷ []) ∙ append-nil (printed_text words)
