-- The rule of programs is complete, however deep trees may be: words of a tree are read as a tree
-- of its shape, or are too deep.
use Rattle.std.proofs.Common.{◌≡◌, ℕ, suc, ◌<◌, ◌≤◌, List, [], ◌∷◌, ◌++◌, length, ◌⊎◌, inl, inr, refl, sym, subst, arith}
use Rattle.zpl_tokens.specs.declared.Kind.{Kind}
use Rattle.zpl_tokens.specs.declared.keywords.Key.TheVariants as key
use Rattle.zpl_tokens.specs.declared.symbols.Sym.TheVariants as sym
use Rattle.zpl_grammar.specs.Written.{HasBytes}
use Rattle.zpl_tree.specs.Word.{Word, kind_of}
use Rattle.zpl_tree.specs.Word as word
use Rattle.zpl_tree.specs.Syntax.{Program}
use Rattle.zpl_tree.specs.Depth.{depth}
use Rattle.zpl_tree.specs.Shape.{SameShape}
use Rattle.zpl_tree.specs.Grammar.{IsProgram, SpellsEach, SpellsDecl, Spells}
use Rattle.zpl_grammar.specs.Lexeme.{Lexeme}
use Rattle.zpl_parse.specs.Written.{AreLexemes}
use Rattle.zpl_parse.specs.Outcome.{Outcome, Done, Deep, Reader}
use Rattle.zpl_grammar.specs.Texts.{most_deep}
use Rattle.zpl_parse.specs.Expressions.{levels}
use Rattle.zpl_parse.specs.Declarations.{program}
use Rattle.zpl_parse.proofs.Sound.Declarations.{program_over}
use Rattle.zpl_parse.proofs.Complete.Base.{bytes_of, Begins, none, more, Split, split, shorter, narrower, reword, Reads, read, deep, made_reads}
use Rattle.zpl_parse.proofs.Complete.Declarations.{decls_at}

-- a word's lexeme has its bytes
bytes_are : (w : Word) (bytes : List ℕ) → HasBytes w bytes → bytes ≡ bytes_of w bytes
bytes_are (word.Name text) bytes has = has
bytes_are (word.Number value) bytes has = refl
bytes_are (word.Str string) bytes has = has
bytes_are word.Ditto bytes has = refl
bytes_are (word.Symbol symbol) bytes has = refl
bytes_are (word.Keyword keyword) bytes has = refl
bytes_are word.End bytes has = refl

begins_one : (most : ℕ) (w : Word) (words : List Word) (kind : Kind) (bytes : List ℕ) (at : ℕ)
    (lexemes : List Lexeme) → kind ≡ kind_of w → bytes ≡ bytes_of w bytes
    → suc (length lexemes) < most → Begins most words lexemes [] →
    Begins most (w ∷ words) (record { kind = kind; bytes = bytes; at = at } ∷ lexemes) []
begins_one most w words kind bytes at lexemes is has bound b =
    subst (λ k. Begins most (w ∷ words) (record { kind = k; bytes = bytes; at = at } ∷ lexemes) [])
    (sym is)
    (subst (λ those. Begins most (w ∷ words) (record { kind = kind_of w; bytes = those; at = at } ∷
    lexemes) []) (sym has) (more w bytes at bound b))

-- lexemes that are the words begin with them, and nothing stands behind
pub begins_all : (most : ℕ) (lexemes : List Lexeme) (words : List Word) → AreLexemes lexemes words
    → length lexemes < most → Begins most words lexemes []
begins_all most [] [] are bound = none bound
begins_all most [] (w ∷ words) are bound = absurd are
begins_all most (first ∷ lexemes) [] are bound = absurd are
begins_all most (first ∷ lexemes) (w ∷ words) are bound =
    begins_one most w words first.kind first.bytes first.at lexemes are.0.kind
    (bytes_are w first.bytes are.0.bytes) bound (begins_all most lexemes words are.1
    (omega arith))

abbrev pub SameProgram : Program → Program → Type 0
SameProgram t value = SameShape value t

-- either the tree is read, or it is too deep
abbrev pub IsReadOrDeep : ℕ → Program → Outcome Program → Type 0
IsReadOrDeep limit t outcome =
    ((depth t ≤ limit) × ((value : Program) × (outcome ≡ Done value []) × SameShape value t))
    ⊎ ((limit < depth t) × ((rest : List Lexeme) × (outcome ≡ Deep rest)))

read_or_deep : (limit : ℕ) (t : Program) {outcome : Outcome Program}
    → Reads (SameProgram t) [] (depth t) limit outcome → IsReadOrDeep limit t outcome
read_or_deep limit t (read value fits same) = inl (fits, (value, refl, same))
read_or_deep limit t (deep rest sinks) = inr (sinks, (rest, refl))

-- the rule of programs in which expressions are within the limit, and statements nest so deep
abbrev pub program_within : ℕ → ℕ → List ℕ → ℕ → Reader Program
program_within limit deeper source most = program_over source most (levels most limit).expr deeper

module _ (limit deeper : ℕ) (e : suc deeper ≡ limit) where
  -- "program" NAME ";" { decl } END
  program_reads : (source : List ℕ) (most : ℕ) (t : Program) → (words : List Word) → IsProgram t
      → SpellsEach SpellsDecl t.decls words → (xs : List Lexeme) →
      Begins (suc most) (word.Keyword key.Program ∷ word.Name t.name.text ∷
      word.Symbol sym.Semicolon ∷ (words ++ word.End ∷ [])) xs []
      → Reads (SameProgram t) [] (depth t) limit (program_within limit deeper source most xs)
  unfolding program_over
  program_reads source most t words is spells xs
      (more w bytes at bound (more v other place short (more {lexemes =
      others} u another there after b))) =
      let parts : Split (suc most) words (word.End ∷ []) others [] =
      split words (word.End ∷ []) b in
      let fewer = shorter parts.first in
      made_reads (λ those. record {
        name = record { text = t.name.text; at = place };
        decls =
            those;
        source = source;
      }) (λ those same. cc)
      (decls_at most limit deeper e t.decls is words spells most others parts.middle []
      (narrower (omega arith) parts.first) (narrower (omega arith) parts.then) (omega arith)
      (omega arith))

  -- Lexemes that are written as a tree of the grammar are read as a tree of its shape where it
  -- isn't too deep, and else are too deep.
  pub within_is_complete : (source : List ℕ) (most : ℕ) (t : Program) (words : List Word)
      (lexemes : List Lexeme) → Spells t words → AreLexemes lexemes words → length lexemes ≤ most →
      IsReadOrDeep limit t (program_within limit deeper source most lexemes)
  within_is_complete source most t words lexemes spells are enough =
      read_or_deep limit t (program_reads source most t spells.0 spells.1 spells.2 lexemes
      (reword lexemes [] spells.3 (begins_all (suc most) lexemes words are (omega arith))))

-- So it is of the limit of the language.
pub program_is_complete : (source : List ℕ) (most : ℕ) (t : Program) (words : List Word)
    (lexemes : List Lexeme) → Spells t words → AreLexemes lexemes words → length lexemes ≤ most →
    IsReadOrDeep most_deep t (program source most lexemes)
unfolding program_over
program_is_complete source most t words lexemes spells are enough =
    within_is_complete most_deep 199 refl source most t words lexemes spells are enough
