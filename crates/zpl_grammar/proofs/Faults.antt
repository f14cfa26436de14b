-- A text that has a tree has no fault, and a fault of syntax has one place.
use Rattle.std.proofs.Common.{◌≡◌, ℕ, ◌≤◌, List, [], ◌∷◌, ◌++◌, sym, ap, subst, ◌∙◌, arith, append_assoc}
use Rattle.zpl_text.specs.declared.tokens.Token.{Token}
use Rattle.zpl_tree.specs.Depth.{depth}
use Rattle.zpl_tree.specs.Syntax.{Program}
use Rattle.zpl_tree.specs.Word.{Word}
use Rattle.zpl_grammar.specs.Written.{AreWords}
use Rattle.zpl_grammar.specs.Texts.{most_deep, AreFirstWords, BeginsWords, TokensSpell, IsSyntaxFault, IsTooDeep}

first_of_all : (text : List ℕ) (tokens : List Token) (words : List Word)
    → AreWords text tokens words → AreFirstWords text tokens words
first_of_all text [] [] are = tt
first_of_all text [] (w ∷ words) are = absurd are
first_of_all text (t ∷ tokens) [] are = absurd are
first_of_all text (t ∷ tokens) (w ∷ words) are = (are.0, first_of_all text tokens words are.1)

front_of_first : (text : List ℕ) (front back : List Token) (words : List Word)
    → AreFirstWords text (front ++ back) words → AreFirstWords text front words
front_of_first text [] back words first = tt
front_of_first text (t ∷ front) back [] first = absurd first
front_of_first text (t ∷ front) back (w ∷ words) first =
    (first.0, front_of_first text front back words first.1)

-- the words of a tree begin with each front of its tokens
begins_with_front : (text : List ℕ) (tokens front back : List Token) (program : Program)
    (spell : TokensSpell text tokens program) → tokens ≡ front ++ back
    → AreFirstWords text front spell.words
begins_with_front text tokens front back program spell split =
    front_of_first text front back spell.words
    (subst (λ ts. AreFirstWords text ts spell.words) split (first_of_all text tokens spell.words
    spell.are))

pub tree_no_fault : (text : List ℕ) (tokens : List Token) (program : Program) (at : ℕ)
    → TokensSpell text tokens program → IsSyntaxFault text tokens at → ⊥
tree_no_fault text tokens program at spell fault =
    let split : tokens ≡ (fault.front ++ fault.token ∷ []) ++ fault.back =
    fault.split ∙ sym (append_assoc fault.front (fault.token ∷ []) fault.back) in
    fault.none (record {
      program = program;
      words = spell.words;
      spells = spell.spells;
      first = begins_with_front text tokens (fault.front ++ fault.token ∷ []) fault.back program
          spell split;
    })

pub tree_not_deep : (text : List ℕ) (tokens : List Token) (program : Program)
    → TokensSpell text tokens program → depth program ≤ most_deep → IsTooDeep text tokens → ⊥
tree_not_deep text tokens program spell shallow fault =
    let deep = fault.deep program spell.words spell.spells
    (begins_with_front text tokens fault.front fault.back program spell fault.split) in
    omega (arith, deep, shallow)

-- what begins the words of a program does so with each front of it
begins_front : (text : List ℕ) (front back : List Token)
    → BeginsWords text (front ++ back) → BeginsWords text front
begins_front text front back begins = record {
  program = begins.program;
  words = begins.words;
  spells = begins.spells;
  first = front_of_first text front back begins.words begins.first;
}

-- The first token with which nothing begins stands where the first one does: of two fronts of one
-- list the shorter one with its token is a front of the longer one.
one_token : (text : List ℕ) (before front back front' back' : List Token) (token token' : Token)
    → front ++ token ∷ back ≡ front' ++ token' ∷ back'
    → BeginsWords text (before ++ front) → (BeginsWords text (before ++ (front ++ token ∷ [])) → ⊥)
    → BeginsWords text (before ++ front') → (BeginsWords text (before ++ (front' ++ token' ∷ []))
    → ⊥)
    → token.from ≡ token'.from
one_token text before [] back [] back' token token' same begins none begins' none' =
    let e : token ≡ token' = cc in
    ap (λ (t : Token). t.from) e
one_token text before [] back (t ∷ front') back' token token' same begins none begins' none' =
    let e : token ≡ t = cc in
    absurd (none (begins_front text (before ++ token ∷ []) front'
    (subst (λ ts. BeginsWords text ts) (sym (append_assoc before (token ∷ []) front'))
    (subst (λ (u : Token). BeginsWords text (before ++ (u ∷ front'))) (sym e) begins'))))
one_token text before (t ∷ front) back [] back' token token' same begins none begins' none' =
    let e : token' ≡ t = cc in
    absurd (none' (begins_front text (before ++ token' ∷ []) front
    (subst (λ ts. BeginsWords text ts) (sym (append_assoc before (token' ∷ []) front))
    (subst (λ (u : Token). BeginsWords text (before ++ (u ∷ front))) (sym e) begins))))
one_token text before (t ∷ front) back (t' ∷ front') back' token token' same begins none begins'
    none' =
    let e : t' ≡ t = cc in
    let rest : front ++ token ∷ back ≡ front' ++ token' ∷ back' = cc in
    let past : (ts : List Token) → (before ++ t ∷ []) ++ ts ≡ before ++ (t ∷ ts) =
    λ ts. append_assoc before (t ∷ []) ts in
    let past' : (ts : List Token) → (before ++ t ∷ []) ++ ts ≡ before ++ (t' ∷ ts) =
    λ ts. past ts ∙ ap (λ (u : Token). before ++ (u ∷ ts)) (sym e) in
    one_token text (before ++ t ∷ []) front back front' back' token token' rest
    (subst (λ ts. BeginsWords text ts) (sym (past front)) begins)
    (λ more. none (subst (λ ts. BeginsWords text ts) (past (front ++ token ∷ [])) more))
    (subst (λ ts. BeginsWords text ts) (sym (past' front')) begins')
    (λ more. none' (subst (λ ts. BeginsWords text ts) (past' (front' ++ token' ∷ [])) more))

pub one_place : (text : List ℕ) (tokens : List Token) (at other : ℕ)
    → IsSyntaxFault text tokens at → IsSyntaxFault text tokens other → at ≡ other
one_place text tokens at other one two =
    sym one.offset
    ∙ (one_token text [] one.front one.back two.front two.back one.token two.token
    (sym one.split ∙ two.split) one.begins.begun one.none two.begins.begun two.none ∙ two.offset)
