-- The lexemes of a parsed program: they are its words, and its names stand apart.
use Rattle.std.proofs.Common.{◌≡◌, ℕ, ◌-◌, ◌<◌, ◌≤◌, ◌⊎◌, inl, inr, List, [], ◌∷◌, ◌++◌, length, refl, sym, subst, arith}
use Rattle.std.specs.List.{slice_range}
use Rattle.std.proofs.lemmas.List.{length-take, length-drop}
use Rattle.zpl_tokens.specs.declared.Kind.TheVariants as kind
use Rattle.zpl_text.specs.declared.tokens.Token.{Token}
use Rattle.zpl_text.specs.Kinds.{IsToken}
use Rattle.zpl_text.specs.Spans.{AreSpans}
use Rattle.zpl_tree.specs.Word.{Word, kind_of}
use Rattle.zpl_grammar.specs.Lexeme.{Lexeme, behind, lexemes_of}
use Rattle.zpl_grammar.specs.Offsets.{past}
use Rattle.zpl_grammar.specs.Written.{AreWords, token_text}
use Rattle.zpl_names.proofs.ListLemmas.{Among, among_from_Contains, Contains-from_among}
use Rattle.lowered_flat.specs.Apart.{AreApart}

-- ---- lexemes that are words

abbrev pub Reads : List Lexeme → List Word → Type 0
Reads lexemes [] = Unit {0}
Reads [] (word ∷ words) = ⊥
Reads (first ∷ rest) (word ∷ words) = (first.kind ≡ kind_of word) × Reads rest words

pub reads_words : (text : List ℕ) (tokens : List Token) (words : List Word) →
    AreWords text tokens words → Reads (lexemes_of text tokens) words
reads_words text [] [] are = tt
reads_words text [] (word ∷ words) are = absurd are
reads_words text (token ∷ tokens) [] are = tt
reads_words text (token ∷ tokens) (word ∷ words) are =
    (are.0.kind, reads_words text tokens words are.1)

pub reads_past : (xs ys : List Word) (lexemes : List Lexeme) → Reads lexemes (xs ++ ys) →
    Reads (past xs lexemes) ys
reads_past [] ys lexemes reads = reads
reads_past (x ∷ xs) ys [] reads = absurd reads
reads_past (x ∷ xs) ys (first ∷ rest) reads = reads_past xs ys rest reads.1

pub past_both : (xs ys : List Word) (lexemes : List Lexeme) →
    past (xs ++ ys) lexemes ≡ past ys (past xs lexemes)
past_both [] ys lexemes = refl
past_both (x ∷ xs) ys lexemes = past_both xs ys (behind lexemes)

-- ---- lexemes in the order of the text: behind a name stands none at its offset

abbrev pub Ordered : ℕ → List Lexeme → Type 0
Ordered least [] = Unit {0}
Ordered least (first ∷ rest) =
    (least ≤ first.at)
    × ((next : ℕ) × ((first.at ≤ next) × (first.kind ≡ kind.Name → first.at < next)
    × Ordered next rest))

name_some : (bytes : List ℕ) → IsToken bytes kind.Name → 0 < length bytes
name_some [] is = absurd is.0
name_some (b ∷ bytes) is = omega arith

length_range : (text : List ℕ) (from to : ℕ) → from ≤ to → to ≤ length text →
    length (slice_range text from to) ≡ to - from
length_range text from to in_order within = simp (length-take, length-drop) (omega arith)

pub in_order : (text : List ℕ) (least : ℕ) (tokens : List Token) → AreSpans text least tokens →
    Ordered least (lexemes_of text tokens)
in_order text least [] spans = tt
in_order text least (token ∷ tokens) spans =
    let span = spans.0 in (
      span.behind,
      (
        token.to,
        (span.in_order, λ named. longer named, in_order text token.to tokens spans.1),
      ),
    )
  where
    longer : token.kind ≡ kind.Name → token.from < token.to
    longer named =
        let span = spans.0 in
        let some = name_some (token_text text token)
        (subst (IsToken (token_text text token)) named span.text_of) in
        let long = length_range text token.from token.to span.in_order span.within in
        omega (arith, some, long)

-- ---- names that are taken from lexemes in their order, into two lists

pub data IsMerged : List Lexeme → List ℕ → List ℕ → Type 0 where
  Ends : {lexemes : List Lexeme} → IsMerged lexemes [] []
  Skips : {rest : List Lexeme} {gs ss : List ℕ} (first : Lexeme) → IsMerged rest gs ss →
      IsMerged (first ∷ rest) gs ss
  TakesGlobal : {rest : List Lexeme} {gs ss : List ℕ} (first : Lexeme) →
      first.kind ≡ kind.Name → IsMerged rest gs ss → IsMerged (first ∷ rest) (first.at ∷ gs) ss
  TakesLocal : {rest : List Lexeme} {gs ss : List ℕ} (first : Lexeme) →
      first.kind ≡ kind.Name → IsMerged rest gs ss → IsMerged (first ∷ rest) gs (first.at ∷ ss)

abbrev AllFrom : ℕ → List ℕ → Type 0
AllFrom least ats = (at : ℕ) → Among ats at → least ≤ at

more_from : (few least : ℕ) (ats : List ℕ) → few ≤ least → AllFrom least ats → AllFrom few ats
more_from few least ats less from at m = let here = from at m in omega (arith, less, here)

one_from : (least first : ℕ) (ats : List ℕ) → least ≤ first → AllFrom least ats →
    AllFrom least (first ∷ ats)
one_from least first ats less from at (inl e) = omega (arith, less, e)
one_from least first ats less from at (inr m) = from at m

merged_from : (lexemes : List Lexeme) (gs ss : List ℕ) → IsMerged lexemes gs ss →
    (least : ℕ) → Ordered least lexemes → AllFrom least gs × AllFrom least ss
merged_from lexemes [] [] Ends least ordered = (λ at m. absurd m, λ at m. absurd m)
merged_from (x ∷ rest) gs ss (Skips first is) least ordered =
    let later = merged_from rest gs ss is ordered.1.0 ordered.1.1.2 in
    let less : least ≤ ordered.1.0 = omega (arith, ordered.0, ordered.1.1.0) in
    (more_from least ordered.1.0 gs less later.0, more_from least ordered.1.0 ss less later.1)
merged_from (x ∷ rest) (g ∷ gs) ss (TakesGlobal first named is) least ordered =
    let later = merged_from rest gs ss is ordered.1.0 ordered.1.1.2 in
    let less : least ≤ ordered.1.0 = omega (arith, ordered.0, ordered.1.1.0) in (
      one_from least first.at gs ordered.0 (more_from least ordered.1.0 gs less later.0),
      more_from least ordered.1.0 ss less later.1,
    )
merged_from (x ∷ rest) gs (s ∷ ss) (TakesLocal first named is) least ordered =
    let later = merged_from rest gs ss is ordered.1.0 ordered.1.1.2 in
    let less : least ≤ ordered.1.0 = omega (arith, ordered.0, ordered.1.1.0) in (
      more_from least ordered.1.0 gs less later.0,
      one_from least first.at ss ordered.0 (more_from least ordered.1.0 ss less later.1),
    )
merged_from [] (g ∷ gs) ss is least ordered = elim is [ ]
merged_from [] [] (s ∷ ss) is least ordered = elim is [ ]

among_either : (xs ys : List ℕ) (at : ℕ) → Among (xs ++ ys) at → Among xs at ⊎ Among ys at
among_either [] ys at m = inr m
among_either (x ∷ xs) ys at (inl e) = inl (inl e)
among_either (x ∷ xs) ys at (inr m) = by (among_either xs ys at m)
  where
    by : Among xs at ⊎ Among ys at → Among (x ∷ xs) at ⊎ Among ys at
    by (inl m) = inl (inr m)
    by (inr m) = inr m

-- behind a name none stands at its offset
none_behind : (first next : ℕ) (gs ss : List ℕ) → first < next → AllFrom next gs →
    AllFrom next ss → Among (gs ++ ss) first → ⊥
none_behind first next gs ss less from rest m = by (among_either gs ss first m)
  where
    by : Among gs first ⊎ Among ss first → ⊥
    by (inl m) = let here = from first m in omega (arith, less, here)
    by (inr m) = let here = rest first m in omega (arith, less, here)

among_insert : (gs ss : List ℕ) (at x : ℕ) → Among (gs ++ at ∷ ss) x →
    (at ≡ x) ⊎ Among (gs ++ ss) x
among_insert [] ss at x (inl e) = inl e
among_insert [] ss at x (inr m) = inr m
among_insert (g ∷ gs) ss at x (inl e) = inr (inl e)
among_insert (g ∷ gs) ss at x (inr m) = by (among_insert gs ss at x m)
  where
    by : (at ≡ x) ⊎ Among (gs ++ ss) x → (at ≡ x) ⊎ Among (g ∷ gs ++ ss) x
    by (inl e) = inl e
    by (inr m) = inr (inr m)

apart_insert : (gs ss : List ℕ) (at : ℕ) → AreApart (gs ++ ss) → (Among (gs ++ ss) at → ⊥) →
    AreApart (gs ++ at ∷ ss)
apart_insert [] ss at apart none = (λ there. none (among_from_Contains ss at there), apart)
apart_insert (g ∷ gs) ss at apart none = (
  λ there. by (among_insert gs ss at g (among_from_Contains (gs ++ at ∷ ss) g there)),
  apart_insert gs ss at apart.1 (λ m. none (inr m)),
)
  where
    by : (at ≡ g) ⊎ Among (gs ++ ss) g → ⊥
    by (inl e) = none (inl (sym e))
    by (inr m) = apart.0 (Contains-from_among (gs ++ ss) g m)

pub merged_apart : (lexemes : List Lexeme) (gs ss : List ℕ) → IsMerged lexemes gs ss →
    (least : ℕ) → Ordered least lexemes → AreApart (gs ++ ss)
merged_apart lexemes [] [] Ends least ordered = tt
merged_apart (x ∷ rest) gs ss (Skips first is) least ordered =
    merged_apart rest gs ss is ordered.1.0 ordered.1.1.2
merged_apart (x ∷ rest) (g ∷ gs) ss (TakesGlobal first named is) least ordered =
    let later = merged_from rest gs ss is ordered.1.0 ordered.1.1.2 in (
      λ there. none_behind first.at ordered.1.0 gs ss (ordered.1.1.1 named) later.0 later.1
          (among_from_Contains (gs ++ ss) first.at there),
      merged_apart rest gs ss is ordered.1.0 ordered.1.1.2,
    )
merged_apart (x ∷ rest) gs (s ∷ ss) (TakesLocal first named is) least ordered =
    let later = merged_from rest gs ss is ordered.1.0 ordered.1.1.2 in
    apart_insert gs ss first.at (merged_apart rest gs ss is ordered.1.0 ordered.1.1.2)
    (none_behind first.at ordered.1.0 gs ss (ordered.1.1.1 named) later.0 later.1)
merged_apart [] (g ∷ gs) ss is least ordered = elim is [ ]
merged_apart [] [] (s ∷ ss) is least ordered = elim is [ ]
