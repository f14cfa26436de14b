-- The texts that a program can print.
use Rattle.std.specs.Prelude.{ℕ, List, [], ◌∷◌, flat_map}
use Rattle.zpl_text.specs.Escapes.{unescaped}
use Rattle.zpl_tree.specs.Syntax.{Program}
use Rattle.zpl_tree.specs.Spelling.{program_words}
use Rattle.zpl_tree.specs.Word.{Word}
use Rattle.zpl_tree.specs.Word as word

-- what a word's string stands for, if it is one
abbrev pub string_of : Word → List (List ℕ)
string_of (word.Str bytes) = unescaped bytes ∷ []
string_of (word.Name text) = []
string_of (word.Number value) = []
string_of word.Ditto = []
string_of (word.Symbol symbol) = []
string_of (word.Keyword key) = []
string_of word.End = []

-- a newline, and what the strings of the text stand for
abbrev pub texts_of : Program → List (List ℕ)
texts_of program = (10 ∷ []) ∷ flat_map string_of (program_words program)
