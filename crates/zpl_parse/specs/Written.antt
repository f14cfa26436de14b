-- How lexemes are the words of a tree.
use Rattle.std.specs.Prelude.{◌≡◌, List, [], ◌∷◌, ⊤}
use Rattle.zpl_tree.specs.Word.{Word, kind_of}
use Rattle.zpl_grammar.specs.Written.{HasBytes}
use Rattle.zpl_grammar.specs.Lexeme.{Lexeme}

-- The lexeme is the word.
pub record IsLexeme (lexeme : Lexeme) (word : Word) : Type 0 where
  pub kind : lexeme.kind ≡ kind_of word
  pub bytes : HasBytes word lexeme.bytes

-- The lexemes are the words, one by one.
abbrev pub AreLexemes : List Lexeme → List Word → Type 0
AreLexemes [] [] = ⊤
AreLexemes [] (word ∷ words) = ⊥
AreLexemes (lexeme ∷ lexemes) [] = ⊥
AreLexemes (lexeme ∷ lexemes) (word ∷ words) = IsLexeme lexeme word × AreLexemes lexemes words
