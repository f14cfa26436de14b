-- Writable words are the tokens of what they are printed as.
use Rattle.std.proofs.Common.{◌≡◌, ℕ, ◌+◌, ◌-◌, Bool, true, false, List, [], ◌∷◌, ◌++◌, length, take, drop, refl, sym, ◌∙◌, ap, subst, arith, append_assoc, length-append}
use Rattle.std.specs.List.{list_all, slice_range}
use Rattle.std.proofs.lemmas.Bool.{and_parts}
use Rattle.std.proofs.lemmas.List.{take_at, drop_at}
use Rattle.zpl_tokens.specs.declared.symbols.Sym.TheVariants.{Semicolon}
use Rattle.zpl_text.specs.declared.tokens.Token.{Token}
use Rattle.zpl_text.specs.Bytes.{is_white}
use Rattle.zpl_text.specs.Gaps.{Skips}
use Rattle.zpl_text.specs.Gaps as gaps
use Rattle.zpl_text.specs.Cutting.{opens_ditto, MayStand, offset_of}
use Rattle.zpl_text.specs.Tokens.{Place, Takes, Cuts, nothing, token, end_of}
use Rattle.zpl_tree.proofs.Spellings.{printed_ending}
use Rattle.zpl_tree.specs.Word.{Word, Name, Number, Str, Ditto, Symbol, Keyword, End, kind_of, word_text, space_behind, written, printed_text}
use Rattle.zpl_grammar.specs.Written.{token_text, HasBytes, IsWord, AreWords}
use Rattle.zpl_grammar.specs.Writable.{IsWritable, EachIsWritable, AreWritable, HasWords}
use Rattle.zpl_grammar.proofs.WordCuts.{word_before_white, word_past_gap, word_sound}

-- white space is a gap
white_skips : (gap bytes : List ℕ) → list_all is_white gap ≡ true → Skips (gap ++ bytes) bytes
white_skips [] bytes all = gaps.nothing
white_skips (b ∷ gap) bytes all =
    let parts = and_parts (is_white b) (list_all is_white gap) all in
    gaps.white parts.0 (white_skips gap bytes parts.1)

-- behind each word but the end one byte of white space is printed
record IsSpace (bytes : List ℕ) : Type 0 where
  byte : ℕ
  white : is_white byte ≡ true
  is : bytes ≡ byte ∷ []

space_is : (ditto : Bool) (word : Word) → MayStand ditto (kind_of word)
    → IsSpace (space_behind word)
space_is ditto (Symbol Semicolon) place = record { byte = 10; white = refl; is = refl }
space_is ditto (Symbol s) place = record { byte = 32; white = refl; is = refl }
space_is ditto (Name text) place = record { byte = 32; white = refl; is = refl }
space_is ditto (Number value) place = record { byte = 32; white = refl; is = refl }
space_is ditto (Str bytes) place = record { byte = 32; white = refl; is = refl }
space_is ditto Ditto place = record { byte = 32; white = refl; is = refl }
space_is ditto (Keyword k) place = record { byte = 32; white = refl; is = refl }
space_is ditto End place = absurd place

-- the bytes of a word are its text
has_bytes : (word : Word) (bytes : List ℕ) → bytes ≡ word_text word → HasBytes word bytes
has_bytes (Name name) bytes same = same
has_bytes (Number value) bytes same = tt
has_bytes (Str string) bytes same = same
has_bytes Ditto bytes same = tt
has_bytes (Symbol symbol) bytes same = tt
has_bytes (Keyword key) bytes same = tt
has_bytes End bytes same = tt

-- the bytes between two offsets
middle : (text front part after : List ℕ) → text ≡ front ++ (part ++ after)
    → slice_range text (offset_of text (part ++ after)) (offset_of text after) ≡ part
middle text front part after split =
    let from : offset_of text (part ++ after) ≡ length front =
    omega (arith, ap length split, length-append front (part ++ after)) in
    let to : offset_of text after ≡ length front + length part =
    omega (arith, ap length split, length-append front (part ++ after), length-append part after) in
    let long : offset_of text after - offset_of text (part ++ after) ≡ length part = omega arith in
    ap (λ (n : ℕ). take n (drop (offset_of text (part ++ after)) text)) long
    ∙ ap (λ (xs : List ℕ). take (length part) (drop (offset_of text (part ++ after)) xs)) split
    ∙ ap (λ (xs : List ℕ). take (length part) xs)
    (drop_at front (part ++ after) (offset_of text (part ++ after)) (sym from))
    ∙ take_at part after (length part) refl

-- from a place the words are cut off, and then the text is over
record AreRead (text : List ℕ) (here : Place) (words : List Word) : Type 0 where
  found : List Token
  last : Place
  cuts : Cuts text here found last
  only_gap : Skips last.rest []
  are : AreWords text (found ++ end_of text ∷ []) (words ++ End ∷ [])

-- one word, with a gap before it and white space behind it
module _ (text front gap : List ℕ) (ditto : Bool) (word : Word) (b : ℕ) (rest : List ℕ)
    (is : IsWritable ditto word) (white : is_white b ≡ true) (all : list_all is_white gap
    ≡ true) where
  abbrev begin : List ℕ
  begin = word_text word ++ b ∷ rest

  abbrev token_of : Token
  token_of = record {
    kind = kind_of word;
    from = offset_of text begin;
    to =
        offset_of text (b ∷ rest);
  }

  abbrev here_of : Place
  here_of = record { rest = gap ++ begin; ditto = ditto }

  abbrev next_of : Place
  next_of = record { rest = b ∷ rest; ditto = opens_ditto (kind_of word) }

  takes_word : Takes text here_of token_of next_of
  takes_word = record {
    begin = begin;
    skips = white_skips gap begin all;
    past_gap = word_past_gap ditto word b rest white is;
    cut = word_before_white ditto word b rest white is;
    sound = word_sound ditto word b rest white is;
    from = refl;
    to = refl;
    ditto = refl;
  }

  is_word : text ≡ front ++ begin → IsWord text token_of word
  is_word split =
      record {
        kind = refl;
        bytes =
            has_bytes word (token_text text token_of) (middle text front (word_text word) (b ∷
            rest) split);
      }

-- how the words begin
printed_first : (word : Word) (words : List Word) (space : IsSpace (space_behind word))
    → printed_text (word ∷ words) ≡ word_text word ++ (space.byte ∷ printed_text words)
unfolding written
printed_first word words space =
    append_assoc (word_text word) (space_behind word) (printed_text words)
    ∙ ap (λ (xs : List ℕ). word_text word ++ (xs ++ printed_text words)) space.is

read_words : (text front gap : List ℕ) (ditto : Bool) (words : List Word)
    → text ≡ front ++ (gap ++ printed_text words) → list_all is_white gap ≡ true
    → EachIsWritable ditto words
    → AreRead text (record { rest = gap ++ printed_text words; ditto = ditto }) words
read_words text front gap ditto [] split all each = record {
  found = [];
  last = record { rest = gap ++ []; ditto = ditto };
  cuts = nothing;
  only_gap = white_skips gap [] all;
  are = (record { kind = refl; bytes = tt }, tt);
}
read_words text front gap ditto (word ∷ words) split all each =
    let space = space_is ditto word each.0.stands in
    let b = space.byte in
    let rest : List ℕ = printed_text words in
    let part : List ℕ = word_text word in
    let first : printed_text (word ∷ words) ≡ part ++ b ∷ rest = printed_first word words space in
    let whole : text ≡ (front ++ gap) ++ (part ++ b ∷ rest) =
    split ∙ ap (λ (xs : List ℕ). front ++ (gap ++ xs)) first
    ∙ sym (append_assoc front gap (part ++ b ∷ rest)) in
    let behind : text ≡ ((front ++ gap) ++ part) ++ ((b ∷ []) ++ rest) =
    whole ∙ sym (append_assoc (front ++ gap) part (b ∷ rest)) in
    let white : list_all is_white (b ∷ []) ≡ true = rw space.white refl in
    let more = read_words text ((front ++ gap) ++ part) (b ∷ []) (opens_ditto (kind_of word)) words
    behind white each.1 in
    let here : AreRead text (here_of text front gap ditto word b rest each.0 space.white all)
    (word ∷ words) = record {
      found = token_of text front gap ditto word b rest each.0 space.white all ∷ more.found;
      last = more.last;
      cuts = token (takes_word text front gap ditto word b rest each.0 space.white all) more.cuts;
      only_gap = more.only_gap;
      are = (
        is_word text (front ++ gap) gap ditto word b rest each.0 space.white all whole,
        more.are,
      );
    } in
    subst (λ (xs : List ℕ). AreRead text (record { rest = gap ++ xs; ditto = ditto }) (word ∷
    words)) (sym first) here

has_words : (before : List Word) → EachIsWritable false before
    → HasWords (printed_text before) (before ++ End ∷ [])
has_words before each =
    let read = read_words (printed_text before) [] [] false before refl refl each in
    record {
      tokens = read.found ++ end_of (printed_text before) ∷ [];
      are_tokens = record {
        found = read.found;
        last = read.last;
        cuts = read.cuts;
        only_gap =
            read.only_gap;
        all = refl;
      };
      are = read.are;
    }

pub words_read_back : (words : List Word) → AreWritable words → HasWords (printed_text words) words
words_read_back words is =
    subst (λ (ws : List Word). HasWords (printed_text ws) ws) (sym is.split)
    (subst (λ (text : List ℕ). HasWords text (is.before ++ End ∷ []))
    (sym (printed_ending is.before)) (has_words is.before is.each))
