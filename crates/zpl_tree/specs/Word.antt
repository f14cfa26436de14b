-- The words of a program: its tokens, with the bytes of names and strings.
use Rattle.std.specs.Prelude.{◌≡◌, ℕ, ℤ, List, [], ◌++◌, codes}
use Rattle.std.specs.Fmt.{signed_decimal}
use Rattle.std.specs.List.{flat_map}
use Rattle.zpl_tokens.specs.declared.Kind.{Kind}
use Rattle.zpl_tokens.specs.declared.Kind.TheVariants as kind
use Rattle.zpl_tokens.specs.declared.keywords.Key.{Key}
use Rattle.zpl_tokens.specs.declared.symbols.Sym.{Sym}
use Rattle.zpl_tokens.specs.declared.symbols.Sym.TheVariants.{Semicolon}
use Rattle.zpl_tokens.specs.Key.{keyword_text}
use Rattle.zpl_tokens.specs.Sym.{symbol_text}

pub data Word : Type 0 where
  Name : (text : List ℕ) → Word
  Number : (value : ℤ) → Word
  -- a string's bytes as they are written between its quotes
  Str : (bytes : List ℕ) → Word
  Ditto : Word
  Symbol : (symbol : Sym) → Word
  Keyword : (key : Key) → Word
  End : Word

-- the kind of its token
abbrev pub kind_of : Word → Kind
kind_of (Name text) = kind.Name
kind_of (Number value) = kind.Number value
kind_of (Str bytes) = kind.Str
kind_of Ditto = kind.Ditto
kind_of (Symbol symbol) = kind.Symbol symbol
kind_of (Keyword key) = kind.Word key
kind_of End = kind.End

-- how it is written
abbrev pub word_text : Word → List ℕ
word_text (Name text) = text
word_text (Number value) = signed_decimal value
word_text (Str bytes) = codes "\"" ++ bytes ++ codes "\""
word_text Ditto = codes "\""
word_text (Symbol symbol) = symbol_text symbol
word_text (Keyword key) = keyword_text key
word_text End = []

-- what the printer puts behind it: a newline behind a `;`, a space behind any other word, and
-- nothing at the end
abbrev pub space_behind : Word → List ℕ
space_behind (Symbol Semicolon) = codes "\n"
space_behind End = []
space_behind _ = codes " "

-- a word as it is printed
unfoldable pub written : Word → List ℕ
written word = word_text word ++ space_behind word

-- words in a row, as they are printed
abbrev pub printed_text : List Word → List ℕ
printed_text words = flat_map written words

-- a text gains these words at its end, as they are printed
abbrev pub Gains : List ℕ → List ℕ → List Word → Type 0
Gains old new words = new ≡ old ++ printed_text words
