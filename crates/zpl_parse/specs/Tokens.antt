-- Rules of single tokens.
use Rattle.std.specs.Prelude.{ℕ, suc, zero, ℤ, Bool, true, false, List, [], ◌∷◌, Option, Some}
use Rattle.zpl_tokens.specs.declared.Kind.{Kind}
use Rattle.zpl_tokens.specs.declared.Kind.TheVariants as kind
use Rattle.zpl_tokens.specs.declared.keywords.Key.{Key}
use Rattle.zpl_tokens.specs.declared.keywords.Key.TheVariants as key
use Rattle.zpl_tokens.specs.declared.symbols.Sym.{Sym}
use Rattle.zpl_tokens.specs.declared.symbols.Sym.TheVariants as sym
use Rattle.zpl_grammar.specs.Same.{same}
use Rattle.zpl_tree.specs.Syntax.{Name}
use Rattle.zpl_parse.specs.Classes.{opening_of}
use Rattle.zpl_parse.specs.declared.classes.Opening.{Opening}
use Rattle.zpl_parse.specs.declared.classes.Opening.TheVariants as opening
use Rattle.zpl_grammar.specs.Lexeme.{Lexeme, head_kind, behind}
pub use Rattle.zpl_grammar.specs.Lexeme.{next_is}
use Rattle.zpl_parse.specs.Outcome.{Outcome, Done, Wrong, Reader, and_then, made}

-- one of this kind, whose offset it is
abbrev pub taken : Bool → Lexeme → List Lexeme → Outcome ℕ
taken true first rest = Done first.at rest
taken false first rest = Wrong (first ∷ rest)

abbrev pub expect : Kind → Reader ℕ
expect wanted [] = Wrong []
expect wanted (first ∷ rest) = taken (same first.kind wanted) first rest

abbrev pub symbol : Sym → Reader ℕ
symbol wanted = expect (kind.Symbol wanted)

abbrev pub keyword : Key → Reader ℕ
keyword wanted = expect (kind.Word wanted)

-- NAME
abbrev pub name_of_kind : Kind → Lexeme → List Lexeme → Outcome Name
name_of_kind kind.Name first rest = Done (record { text = first.bytes; at = first.at }) rest
name_of_kind _ first rest = Wrong (first ∷ rest)

abbrev pub name : Reader Name
name [] = Wrong []
name (first ∷ rest) = name_of_kind first.kind first rest

-- NUMBER
abbrev pub natural_of : Option Opening → List Lexeme → Outcome ℤ
natural_of (Some (opening.Number value)) lexemes = Done value (behind lexemes)
natural_of _ lexemes = Wrong lexemes

abbrev pub natural : Reader ℤ
natural lexemes = natural_of (opening_of (head_kind lexemes)) lexemes

-- NAME { "," NAME }, where no more than so many stand
abbrev pub names : ℕ → Reader (List Name)
names zero lexemes = Wrong lexemes
names (suc most) lexemes = and_then (name lexemes) (λ first rest.
    elim (next_is (kind.Symbol sym.Comma) rest) [
      | true ↦ made (λ others. first ∷ others) (names most (behind rest))
      | false ↦ Done (first ∷ []) rest
    ])

-- "end" ";"
abbrev pub closing : Reader ℕ
closing lexemes = and_then (keyword key.End lexemes) (λ at rest. symbol sym.Semicolon rest)

-- what stands between the quotes of a string
abbrev pub without_last : List ℕ → List ℕ
without_last [] = []
without_last (byte ∷ []) = []
without_last (byte ∷ next ∷ bytes) = byte ∷ without_last (next ∷ bytes)

abbrev pub in_quotes : List ℕ → List ℕ
in_quotes [] = []
in_quotes (quote ∷ bytes) = without_last bytes

-- STRING, where one stands first
abbrev pub string_of : Reader (List ℕ)
string_of [] = Wrong []
string_of (first ∷ rest) = Done (in_quotes first.bytes) rest
