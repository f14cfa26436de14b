-- Which words are writable, and how they are printed, row by row.
use Rattle.std.proofs.Common.{◌≡◌, pos, false, List, [], ◌∷◌, codes, refl, arith}
use Rattle.std.proofs.lemmas.Bool.{false≢true, true≢false}
use Rattle.std.proofs.lemmas.Int.{ints}
use Rattle.std.specs.Fmt.{digits}
use Rattle.zpl_tokens.specs.declared.keywords.Key.TheVariants as key
use Rattle.zpl_tokens.specs.declared.symbols.Sym.TheVariants.{OpenBracket, Equal, Semicolon}
use Rattle.zpl_text.specs.Kinds.{nothing, plain}
use Rattle.zpl_tree.specs.Word.{Word, Name, Number, Str, Ditto, Symbol, End, written, printed_text}
use Rattle.zpl_grammar.specs.Writable.{EachIsWritable, AreWritable}

-- a ditto behind its bracket, a string, a number and a semicolon
abbrev some : List Word
some = Symbol OpenBracket ∷ Ditto ∷ Str (codes "a") ∷ Number (pos 12) ∷ Symbol Semicolon ∷ []

abbrev some_words : List Word
some_words =
    Symbol OpenBracket ∷ Ditto ∷ Str (codes "a") ∷ Number (pos 12) ∷ Symbol Semicolon ∷ End ∷ []

some_printed : printed_text some_words ≡ codes "[ \" \"a\" 12 ;\n"
unfolding written digits
some_printed = refl

some_writable : AreWritable some_words
unfolding digits
some_writable = record {
  before = some;
  split = refl;
  each = (
    record { token = refl; stands = tt; limit = tt },
    (
      record { token = refl; stands = refl; limit = tt },
      (
        record {
          token = (
            codes "a",
            plain (λ is. omega (arith, is)) (λ is. omega (arith, is)) (λ is. omega (arith, is))
                nothing,
            refl,
          );
          stands = refl;
          limit = tt;
        },
        (
          record { token = (refl, refl); stands = tt; limit = omega (arith, ints) },
          (record { token = refl; stands = tt; limit = tt }, tt),
        ),
      ),
    ),
  );
}

-- a ditto stands behind no `=`, a string behind no bracket, and no keyword is a name
ditto_misplaced : EachIsWritable false (Symbol Equal ∷ Ditto ∷ []) → ⊥
ditto_misplaced each = false≢true each.1.0.stands

string_misplaced : EachIsWritable false (Symbol OpenBracket ∷ Str (codes "a") ∷ []) → ⊥
string_misplaced each = true≢false each.1.0.stands

keyword_no_name : EachIsWritable false (Name (codes "end") ∷ []) → ⊥
keyword_no_name each = each.0.token.1 key.End refl
