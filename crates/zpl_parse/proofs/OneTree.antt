-- A text has at most one tree.
use Rattle.std.proofs.Common.{◌≡◌, inl, inr, ℕ, suc, ◌+◌, ◌≤◌, List, [], ◌∷◌, ◌++◌, length, refl, sym, ap, subst, ◌∙◌, arith, append_assoc}
use Rattle.zpl_text.specs.declared.tokens.Token.{Token}
use Rattle.zpl_tree.specs.Syntax.{Program}
use Rattle.zpl_tree.specs.Depth.{depth}
use Rattle.zpl_tree.specs.Shape.{shape_of, SameShape}
use Rattle.zpl_tree.specs.Word.{Word}
use Rattle.zpl_grammar.specs.Written.{AreWords}
use Rattle.zpl_grammar.specs.Texts.{IsTreeOf, TokensSpell}
use Rattle.zpl_grammar.specs.Lexeme.{lexemes_of}
use Rattle.zpl_parse.specs.Written.{AreLexemes}
use Rattle.zpl_parse.specs.Outcome.{Outcome, Done}
use Rattle.zpl_parse.proofs.Complete.Programs.{IsReadOrDeep, program_within, within_is_complete}
use Rattle.zpl_parse.proofs.Once.Declarations.{program_once}

all_lexemes : (text : List ℕ) (tokens : List Token) (words : List Word) → AreWords text tokens words
    → AreLexemes (lexemes_of text tokens) words
all_lexemes text [] [] are = tt
all_lexemes text [] (w ∷ words) are = absurd are
all_lexemes text (t ∷ tokens) [] are = absurd are
all_lexemes text (t ∷ tokens) (w ∷ words) are =
    (record { kind = are.0.kind; bytes = are.0.bytes }, all_lexemes text tokens words are.1)

pub length-lexemes_of : (text : List ℕ) (tokens : List Token) → length (lexemes_of text tokens)
    ≡ length tokens
length-lexemes_of text [] = refl
length-lexemes_of text (t ∷ tokens) = ap suc (length-lexemes_of text tokens)

same_done : (one two : Program) → Done one [] ≡ Done two [] → one ≡ two
same_done first second e = cc

-- What has a tree is read as one of the same shape, where the limit is no less than its depth.
tree_is_read : (text : List ℕ) (tokens : List Token) (tree : Program) → TokensSpell text tokens tree
    → (most deeper : ℕ) → length tokens ≤ most → depth tree ≤ suc deeper →
    (other : Program) × (program_within (suc deeper) deeper [] most (lexemes_of text tokens)
    ≡ Done other []) × SameShape other tree
tree_is_read text tokens tree is most deeper enough fits =
    go (within_is_complete (suc deeper) deeper refl [] most tree is.words (lexemes_of text tokens)
    is.spells (all_lexemes text tokens is.words is.are) (let e =
    length-lexemes_of text tokens in omega arith))
  where
    go : {outcome : Outcome Program} → IsReadOrDeep (suc deeper) tree outcome
        → (other : Program) × (outcome ≡ Done other []) × SameShape other tree
    go (inl read) = read.1
    go (inr sinks) = absurd (omega (arith, sinks.0, fits))

-- A text has at most one tree, up to its shape, however deep it is: a limit that neither exceeds
-- reads both.
pub one_tree : (text : List ℕ) (tokens : List Token) (tree other : Program)
    → TokensSpell text tokens tree → TokensSpell text tokens other → SameShape tree other
one_tree text tokens tree other is too =
    let deeper : ℕ = depth tree + depth other in
    let one = tree_is_read text tokens tree is (length tokens) deeper (omega arith) (omega arith) in
    let two = tree_is_read text tokens other too (length tokens) deeper (omega arith) (omega arith)
    in
    let same : one.0 ≡ two.0 = same_done one.0 two.0 (sym one.1 ∙ two.1) in
    sym one.2 ∙ (ap shape_of same ∙ two.2)

-- With its offsets and its source it has one.
pub placed_once : (text : List ℕ) (tokens : List Token) (tree other : Program)
    → IsTreeOf text tokens tree → IsTreeOf text tokens other → tree ≡ other
placed_once text tokens tree other is too =
    program_once (lexemes_of text tokens) tree other is.offsets too.offsets
    (one_tree text tokens tree other is.spelled too.spelled) (is.source ∙ sym too.source)
