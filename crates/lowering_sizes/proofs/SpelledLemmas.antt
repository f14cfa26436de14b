-- Whatever words a program is written as, they have a byte and a word for each region and each
-- variable that is declared, the words of each body, and the strings of the words that are printed.
use Rattle.std.proofs.Common.{◌≡◌, inl, inr, ℕ, suc, ◌+◌, ◌≤◌, Bool, true, false, List, [], ◌∷◌, ◌++◌, length, Some, refl, sym, ap, ◌∙◌, subst, arith, length-append}
use Rattle.std.specs.Prelude.{flat_map, sum_by, find, cond}
use Rattle.std.proofs.lemmas.List.Sums.{sum_by-cons}
use Rattle.std.specs.Str.{bytes_eq}
use Rattle.zpl_tokens.specs.declared.keywords.Key.TheVariants as key
use Rattle.zpl_tokens.specs.declared.symbols.Sym.TheVariants as sym
use Rattle.zpl_text.specs.declared.tokens.Token.{Token}
use Rattle.zpl_tree.specs.Word.{Word, word_text}
use Rattle.zpl_tree.specs.Word as word
use Rattle.zpl_tree.specs.Syntax.{Posts, NoPost, ThenPost, RegionDef, VarDef, Procedure, Decl, Config, Constant, Regions, Directions, Vars, Defined, Program}
use Rattle.zpl_tree.specs.Spelling.{symbol, keyword, name_words, in_square, inner_words, posts_words, stmt_words, region_words, var_words, locals_words, heading_words, decl_words, program_words}
use Rattle.zpl_tree.specs.Grammar.{Spells, SpellsEach, SpellsRegion, SpellsMoreLocals, SpellsLocals, SpellsProcedure, SpellsDecl, HasNoPost, bare_words}
use Rattle.zpl_grammar.specs.Texts.{IsTreeOf}
use Rattle.zpl_grammar.specs.Written.{AreWords}
use Rattle.zpl_names.specs.Scope.{Entry}
use Rattle.zpl_names.specs.Declared.{with_decl, with_procedure, Routine, routine_of, routines_behind, routines_of, routine_named}
use Rattle.zpl_names.specs.Expansion.{body_tokens}
use Rattle.lowering_sizes.specs.Sizes.{HoldsItsWords, HasTokens}
use Rattle.lowering_sizes.specs.Texts.{string_of}
use Rattle.lowering_sizes.proofs.ProgramLemmas.{local_names, of_found}
use Rattle.lowering_sizes.proofs.DeclaredLemmas.{bytes, bytes_both, bytes_sum, var_bytes, vars_bytes, var_length, local_count, region_counts, var_counts}

-- ---- bytes

one_bytes : (region : RegionDef) (words : List Word) → SpellsRegion region words → 1 ≤ bytes words
one_bytes region words (inl same) =
    subst (λ ws. 1 ≤ bytes ws) (sym same)
    (omega (
      arith,
      bytes_both (name_words region.name ++ symbol sym.Equal ++ in_square (inner_words region.body)
          ++ posts_words region.posts) (symbol sym.Semicolon),
    ))
one_bytes region words (inr is) =
    subst (λ ws. 1 ≤ bytes ws) (sym is.2)
    (omega (
      arith,
      bytes_both (name_words region.name ++ symbol sym.Equal ++ inner_words region.body)
          (symbol sym.Semicolon),
    ))

regions_bytes : (regions : List RegionDef) (words : List Word) →
    SpellsEach SpellsRegion regions words → length regions ≤ bytes words
regions_bytes [] words spells = omega arith
regions_bytes (region ∷ regions) words (front, back, one, rest, same) =
    subst (λ ws. suc (length regions) ≤ bytes ws) (sym same)
    (omega (
      arith,
      one_bytes region front one,
      regions_bytes regions back rest,
      bytes_both front back,
    ))

more_bytes : (vars : List VarDef) (words : List Word) → SpellsMoreLocals vars words →
    length (local_names vars) ≤ bytes words
more_bytes [] words spells = omega arith
more_bytes (var ∷ vars) words (others, rest, inl same) =
    subst (λ ws. length (local_names (var ∷ vars)) ≤ bytes ws) (sym same)
    (omega (
      arith,
      var_bytes var,
      more_bytes vars others rest,
      length-append var.names (local_names vars),
      bytes_both (var_words var) others,
    ))
more_bytes (var ∷ vars) words (others, rest, inr same) =
    subst (λ ws. length (local_names (var ∷ vars)) ≤ bytes ws) (sym same)
    (omega (
      arith,
      var_bytes var,
      more_bytes vars others rest,
      length-append var.names (local_names vars),
      bytes_both (keyword key.Var ++ var_words var) others,
      bytes_both (keyword key.Var) (var_words var),
    ))

locals_bytes : (vars : List VarDef) (words : List Word) → SpellsLocals vars words →
    length (local_names vars) ≤ bytes words
locals_bytes [] words spells = omega arith
locals_bytes (var ∷ vars) words (others, rest, same) =
    more_bytes (var ∷ vars) words (others, rest, inr same)

procedure_bytes : (procedure : Procedure) (words : List Word) → SpellsProcedure procedure words →
    length (local_names procedure.locals) ≤ bytes words
procedure_bytes procedure words (locals, spells, same) =
    subst (λ ws. length (local_names procedure.locals) ≤ bytes ws) (sym same)
    (omega (
      arith,
      locals_bytes procedure.locals locals spells,
      bytes_both (heading_words procedure ++ locals) (stmt_words procedure.body),
      bytes_both (heading_words procedure) locals,
    ))

decls_bytes : (test : Routine → Bool) (earlier : List Entry) (decls : List Decl)
    (words : List Word) → SpellsEach SpellsDecl decls words →
    of_found local_count (find test (routines_behind earlier decls))
    + (region_counts decls + var_counts decls) ≤ bytes words
decls_bytes test earlier [] words spells = omega arith
decls_bytes test earlier (Defined procedure ∷ decls) words (front, back, one, rest, same) =
    subst
    (λ ws. of_found local_count (find test (routines_behind earlier (Defined procedure ∷ decls)))
    + (region_counts (Defined procedure ∷ decls) + var_counts (Defined procedure ∷ decls))
    ≤ bytes ws) (sym same)
    (by (test (routine_of earlier procedure))
    (decls_bytes test (with_procedure earlier procedure) decls back rest))
  where
    by : (b : Bool) →
        of_found local_count (find test (routines_behind (with_procedure earlier procedure) decls))
        + (region_counts decls + var_counts decls) ≤ bytes back →
        of_found local_count (cond b (Some (routine_of earlier procedure))
        (find test (routines_behind (with_procedure earlier procedure) decls)))
        + (region_counts (Defined procedure ∷ decls) + var_counts (Defined procedure ∷ decls))
        ≤ bytes (front ++ back)
    by true few =
        omega (arith, procedure_bytes procedure front one, bytes_both front back)
    by false few = omega (arith, bytes_both front back)
decls_bytes test earlier (Config defines ∷ decls) words (front, back, one, rest, same) =
    subst
    (λ ws. of_found local_count (find test (routines_behind earlier (Config defines ∷ decls)))
    + (region_counts (Config defines ∷ decls) + var_counts (Config defines ∷ decls)) ≤ bytes ws)
    (sym same)
    (omega (
      arith,
      decls_bytes test (with_decl earlier (Config defines)) decls back rest,
      bytes_both front back,
    ))
decls_bytes test earlier (Constant defines ∷ decls) words (front, back, one, rest, same) =
    subst
    (λ ws. of_found local_count (find test (routines_behind earlier (Constant defines ∷ decls)))
    + (region_counts (Constant defines ∷ decls) + var_counts (Constant defines ∷ decls))
    ≤ bytes ws) (sym same)
    (omega (
      arith,
      decls_bytes test (with_decl earlier (Constant defines)) decls back rest,
      bytes_both front back,
    ))
decls_bytes test earlier (Regions regions ∷ decls) words
    (front, back, (definitions, each, begins), rest, same) =
    let few : length regions ≤ bytes front =
    subst (λ ws. length regions ≤ bytes ws) (sym begins)
    (omega (
      arith,
      regions_bytes regions definitions each,
      bytes_both (keyword key.Region) definitions,
    )) in
    subst
    (λ ws. of_found local_count (find test (routines_behind earlier (Regions regions ∷ decls)))
    + (region_counts (Regions regions ∷ decls) + var_counts (Regions regions ∷ decls)) ≤ bytes ws)
    (sym same)
    (omega (
      arith,
      decls_bytes test (with_decl earlier (Regions regions)) decls back rest,
      few,
      bytes_both front back,
    ))
decls_bytes test earlier (Directions directions ∷ decls) words (front, back, one, rest, same) =
    subst
    (λ ws. of_found local_count
    (find test (routines_behind earlier (Directions directions ∷ decls)))
    + (region_counts (Directions directions ∷ decls) + var_counts (Directions directions ∷ decls))
    ≤ bytes ws) (sym same)
    (omega (
      arith,
      decls_bytes test (with_decl earlier (Directions directions)) decls back rest,
      bytes_both front back,
    ))
decls_bytes test earlier (Vars vars ∷ decls) words (front, back, one, rest, same) =
    let few : length (local_names vars) ≤ bytes front =
    subst (λ ws. length (local_names vars) ≤ bytes ws) (sym one)
    (omega (
      arith,
      vars_bytes vars,
      bytes_both (keyword key.Var) (flat_map var_words vars),
    )) in
    subst
    (λ ws. of_found local_count (find test (routines_behind earlier (Vars vars ∷ decls)))
    + (region_counts (Vars vars ∷ decls) + var_counts (Vars vars ∷ decls)) ≤ bytes ws) (sym same)
    (omega (
      arith,
      decls_bytes test (with_decl earlier (Vars vars)) decls back rest,
      few,
      bytes_both front back,
    ))

pub declared_fit : (program : Program) (name : List ℕ) → HoldsItsWords program →
    of_found local_count (routine_named program name)
    + (region_counts program.decls + var_counts program.decls) ≤ length program.source
declared_fit program name holds = by holds.spells
  where
    by : Spells program holds.words →
        of_found local_count (routine_named program name)
        + (region_counts program.decls + var_counts program.decls) ≤ length program.source
    by (decls, grammar, each, same) =
        let front = keyword key.Program ++ name_words program.name ++ symbol sym.Semicolon in
        omega (
          arith,
          holds.fit,
          bytes_sum holds.words,
          ap bytes same,
          decls_bytes (λ routine. bytes_eq routine.procedure.name.text name) [] program.decls decls
              each,
          bytes_both (front ++ decls) (word.End ∷ []),
          bytes_both front decls,
        )

-- ---- words

one_length : (region : RegionDef) (words : List Word) → SpellsRegion region words →
    1 ≤ length words
one_length region words (inl same) = subst (λ ws. 1 ≤ length ws) (sym same) (omega arith)
one_length region words (inr is) = subst (λ ws. 1 ≤ length ws) (sym is.2) (omega arith)

regions_length : (regions : List RegionDef) (words : List Word) →
    SpellsEach SpellsRegion regions words → length regions ≤ length words
regions_length [] words spells = omega arith
regions_length (region ∷ regions) words (front, back, one, rest, same) =
    subst (λ ws. suc (length regions) ≤ length ws) (sym same)
    (omega (
      arith,
      one_length region front one,
      regions_length regions back rest,
      length-append front back,
    ))

more_length : (vars : List VarDef) (words : List Word) → SpellsMoreLocals vars words →
    length (local_names vars) ≤ length words
more_length [] words spells = omega arith
more_length (var ∷ vars) words (others, rest, inl same) =
    subst (λ ws. length (local_names (var ∷ vars)) ≤ length ws) (sym same)
    (omega (
      arith,
      var_length var,
      more_length vars others rest,
      length-append var.names (local_names vars),
      length-append (var_words var) others,
    ))
more_length (var ∷ vars) words (others, rest, inr same) =
    subst (λ ws. length (local_names (var ∷ vars)) ≤ length ws) (sym same)
    (omega (
      arith,
      var_length var,
      more_length vars others rest,
      length-append var.names (local_names vars),
      length-append (keyword key.Var ++ var_words var) others,
      length-append (keyword key.Var) (var_words var),
    ))

locals_length : (vars : List VarDef) (words : List Word) → SpellsLocals vars words →
    length (local_names vars) ≤ length words
locals_length [] words spells = omega arith
locals_length (var ∷ vars) words (others, rest, same) =
    more_length (var ∷ vars) words (others, rest, inr same)

procedure_length : (procedure : Procedure) (words : List Word) → SpellsProcedure procedure words →
    length (local_names procedure.locals) + length (stmt_words procedure.body) ≤ length words
procedure_length procedure words (locals, spells, same) =
    subst (λ ws. length (local_names procedure.locals) + length (stmt_words procedure.body)
    ≤ length ws) (sym same)
    (omega (
      arith,
      locals_length procedure.locals locals spells,
      length-append (heading_words procedure ++ locals) (stmt_words procedure.body),
      length-append (heading_words procedure) locals,
    ))

decls_length : (test : Routine → Bool) (earlier : List Entry) (decls : List Decl)
    (words : List Word) → SpellsEach SpellsDecl decls words →
    of_found local_count (find test (routines_behind earlier decls))
    + (region_counts decls + sum_by body_tokens (routines_behind earlier decls)) ≤ length words
decls_length test earlier [] words spells = omega arith
decls_length test earlier (Defined procedure ∷ decls) words (front, back, one, rest, same) =
    subst
    (λ ws. of_found local_count (find test (routines_behind earlier (Defined procedure ∷ decls)))
    + (region_counts (Defined procedure ∷ decls)
    + sum_by body_tokens (routines_behind earlier (Defined procedure ∷ decls))) ≤ length ws)
    (sym same)
    (by (test (routine_of earlier procedure))
    (decls_length test (with_procedure earlier procedure) decls back rest))
  where
    by : (b : Bool) →
        of_found local_count (find test (routines_behind (with_procedure earlier procedure) decls))
        + (region_counts decls
        + sum_by body_tokens (routines_behind (with_procedure earlier procedure) decls))
        ≤ length back →
        of_found local_count (cond b (Some (routine_of earlier procedure))
        (find test (routines_behind (with_procedure earlier procedure) decls)))
        + (region_counts (Defined procedure ∷ decls)
        + sum_by body_tokens (routines_behind earlier (Defined procedure ∷ decls)))
        ≤ length (front ++ back)
    by true few =
        omega (
          arith,
          procedure_length procedure front one,
          sum_by-cons body_tokens (routine_of earlier procedure)
              (routines_behind (with_procedure earlier procedure) decls),
          length-append front back,
        )
    by false few =
        omega (
          arith,
          procedure_length procedure front one,
          sum_by-cons body_tokens (routine_of earlier procedure)
              (routines_behind (with_procedure earlier procedure) decls),
          length-append front back,
        )
decls_length test earlier (Config defines ∷ decls) words (front, back, one, rest, same) =
    subst
    (λ ws. of_found local_count (find test (routines_behind earlier (Config defines ∷ decls)))
    + (region_counts (Config defines ∷ decls)
    + sum_by body_tokens (routines_behind earlier (Config defines ∷ decls))) ≤ length ws)
    (sym same)
    (omega (
      arith,
      decls_length test (with_decl earlier (Config defines)) decls back rest,
      length-append front back,
    ))
decls_length test earlier (Constant defines ∷ decls) words (front, back, one, rest, same) =
    subst
    (λ ws. of_found local_count (find test (routines_behind earlier (Constant defines ∷ decls)))
    + (region_counts (Constant defines ∷ decls)
    + sum_by body_tokens (routines_behind earlier (Constant defines ∷ decls))) ≤ length ws)
    (sym same)
    (omega (
      arith,
      decls_length test (with_decl earlier (Constant defines)) decls back rest,
      length-append front back,
    ))
decls_length test earlier (Regions regions ∷ decls) words
    (front, back, (definitions, each, begins), rest, same) =
    let few : length regions ≤ length front =
    subst (λ ws. length regions ≤ length ws) (sym begins)
    (omega (
      arith,
      regions_length regions definitions each,
      length-append (keyword key.Region) definitions,
    )) in
    subst
    (λ ws. of_found local_count (find test (routines_behind earlier (Regions regions ∷ decls)))
    + (region_counts (Regions regions ∷ decls)
    + sum_by body_tokens (routines_behind earlier (Regions regions ∷ decls))) ≤ length ws)
    (sym same)
    (omega (
      arith,
      decls_length test (with_decl earlier (Regions regions)) decls back rest,
      few,
      length-append front back,
    ))
decls_length test earlier (Directions directions ∷ decls) words (front, back, one, rest, same) =
    subst
    (λ ws. of_found local_count
    (find test (routines_behind earlier (Directions directions ∷ decls)))
    + (region_counts (Directions directions ∷ decls)
    + sum_by body_tokens (routines_behind earlier (Directions directions ∷ decls))) ≤ length ws)
    (sym same)
    (omega (
      arith,
      decls_length test (with_decl earlier (Directions directions)) decls back rest,
      length-append front back,
    ))
decls_length test earlier (Vars vars ∷ decls) words (front, back, one, rest, same) =
    subst
    (λ ws. of_found local_count (find test (routines_behind earlier (Vars vars ∷ decls)))
    + (region_counts (Vars vars ∷ decls)
    + sum_by body_tokens (routines_behind earlier (Vars vars ∷ decls))) ≤ length ws) (sym same)
    (omega (
      arith,
      decls_length test (with_decl earlier (Vars vars)) decls back rest,
      length-append front back,
    ))

-- what stands in no statement has a word for each region and each local name of a procedure
pub declared_words : (program : Program) (tokens : ℕ) (name : List ℕ) →
    HasTokens program tokens →
    of_found local_count (routine_named program name)
    + (region_counts program.decls + sum_by body_tokens (routines_of program)) ≤ tokens
declared_words program tokens name has = by has.spells
  where
    by : Spells program has.words →
        of_found local_count (routine_named program name)
        + (region_counts program.decls + sum_by body_tokens (routines_of program)) ≤ tokens
    by (decls, grammar, each, same) =
        let front = keyword key.Program ++ name_words program.name ++ symbol sym.Semicolon in
        omega (
          arith,
          has.fit,
          ap length same,
          decls_length (λ routine. bytes_eq routine.procedure.name.text name) [] program.decls decls
              each,
          length-append (front ++ decls) (word.End ∷ []),
          length-append front decls,
        )

-- ---- strings

abbrev pub strings : List Word → List (List ℕ)
strings words = flat_map string_of words

strings_both : (xs ys : List Word) → strings (xs ++ ys) ≡ strings xs ++ strings ys
strings_both [] ys = refl
strings_both (word.Str text ∷ xs) ys =
    ap (λ rest. string_of (word.Str text) ++ rest) (strings_both xs ys)
strings_both (word.Name name ∷ xs) ys = strings_both xs ys
strings_both (word.Number value ∷ xs) ys = strings_both xs ys
strings_both (word.Ditto ∷ xs) ys = strings_both xs ys
strings_both (word.Symbol symbol ∷ xs) ys = strings_both xs ys
strings_both (word.Keyword key ∷ xs) ys = strings_both xs ys
strings_both (word.End ∷ xs) ys = strings_both xs ys

-- parts with the same strings
apart : (xs ys xs' ys' : List Word) → strings xs ≡ strings xs' → strings ys ≡ strings ys' →
    strings (xs ++ ys) ≡ strings (xs' ++ ys')
apart xs ys xs' ys' first rest =
    strings_both xs ys
    ∙ ap (λ s. s ++ strings ys) first
    ∙ ap (λ s. strings xs' ++ s) rest
    ∙ sym (strings_both xs' ys')

none_behind : (all : List (List ℕ)) → all ++ [] ≡ all
none_behind [] = refl
none_behind (one ∷ all) = ap (λ rest. one ∷ rest) (none_behind all)

-- words without strings stand behind
quiet_end : (xs ys : List Word) → strings ys ≡ [] → strings (xs ++ ys) ≡ strings xs
quiet_end xs ys none =
    strings_both xs ys ∙ ap (λ s. strings xs ++ s) none ∙ none_behind (strings xs)

region_strings : (region : RegionDef) (words : List Word) → SpellsRegion region words →
    strings words ≡ strings (region_words region)
region_strings region words (inl same) = ap strings same
region_strings region words (inr (is, none, same)) =
    ap strings same ∙ by region.posts none
  where
    inner : List Word
    inner = inner_words region.body

    by : (posts : Posts) → HasNoPost posts →
        strings (bare_words region)
        ≡ strings (name_words region.name ++ symbol sym.Equal ++ in_square inner ++ posts_words posts
        ++ symbol sym.Semicolon)
    by NoPost none =
        quiet_end inner (symbol sym.Semicolon) refl
        ∙ sym (quiet_end ((inner ++ symbol sym.CloseBracket) ++ []) (symbol sym.Semicolon) refl
        ∙ quiet_end (inner ++ symbol sym.CloseBracket) [] refl
        ∙ quiet_end inner (symbol sym.CloseBracket) refl)
    by (ThenPost stride dir rest) none = absurd none

regions_strings : (regions : List RegionDef) (words : List Word) →
    SpellsEach SpellsRegion regions words →
    strings words ≡ strings (flat_map region_words regions)
regions_strings [] words spells = ap strings spells
regions_strings (region ∷ regions) words (front, back, one, rest, same) =
    ap strings same
    ∙ apart front back (region_words region) (flat_map region_words regions)
    (region_strings region front one) (regions_strings regions back rest)

more_strings : (vars : List VarDef) (words : List Word) → SpellsMoreLocals vars words →
    strings words ≡ strings (flat_map var_words vars)
more_strings [] words spells = ap strings spells
more_strings (var ∷ vars) words (others, rest, inl same) =
    ap strings same
    ∙ apart (var_words var) others (var_words var) (flat_map var_words vars) refl
    (more_strings vars others rest)
more_strings (var ∷ vars) words (others, rest, inr same) =
    ap strings same
    ∙ apart (var_words var) others (var_words var) (flat_map var_words vars) refl
    (more_strings vars others rest)

locals_strings : (vars : List VarDef) (words : List Word) → SpellsLocals vars words →
    strings words ≡ strings (locals_words vars)
locals_strings [] words spells = ap strings spells
locals_strings (var ∷ vars) words (others, rest, same) =
    more_strings (var ∷ vars) words (others, rest, inr same)

decl_strings : (decl : Decl) (words : List Word) → SpellsDecl decl words →
    strings words ≡ strings (decl_words decl)
decl_strings (Defined procedure) words (locals, spells, same) =
    ap strings same
    ∙ apart (heading_words procedure ++ locals) (stmt_words procedure.body)
    (heading_words procedure ++ locals_words procedure.locals) (stmt_words procedure.body)
    (apart (heading_words procedure) locals (heading_words procedure)
    (locals_words procedure.locals) refl (locals_strings procedure.locals locals spells)) refl
decl_strings (Regions regions) words (definitions, each, same) =
    ap strings same ∙ regions_strings regions definitions each
decl_strings (Config defines) words same = ap strings same
decl_strings (Constant defines) words same = ap strings same
decl_strings (Directions directions) words same = ap strings same
decl_strings (Vars vars) words same = ap strings same

decls_strings : (decls : List Decl) (words : List Word) → SpellsEach SpellsDecl decls words →
    strings words ≡ strings (flat_map decl_words decls)
decls_strings [] words spells = ap strings spells
decls_strings (decl ∷ decls) words (front, back, one, rest, same) =
    ap strings same
    ∙ apart front back (decl_words decl) (flat_map decl_words decls) (decl_strings decl front one)
    (decls_strings decls back rest)

-- those of any words are those of the words that are printed
pub same_strings : (program : Program) (words : List Word) → Spells program words →
    strings words ≡ strings (program_words program)
same_strings program words (decls, grammar, each, same) =
    let front = keyword key.Program ++ name_words program.name ++ symbol sym.Semicolon in
    ap strings same
    ∙ apart (front ++ decls) (word.End ∷ []) (front ++ flat_map decl_words program.decls)
    (word.End ∷ [])
    (apart front decls front (flat_map decl_words program.decls) refl
    (decls_strings program.decls decls each)) refl

-- ---- the words of a text

as_many : (text : List ℕ) (tokens : List Token) (words : List Word) → AreWords text tokens words →
    length words ≡ length tokens
as_many text [] [] same = refl
as_many text [] (one ∷ words) same = absurd same
as_many text (token ∷ tokens) [] same = absurd same
as_many text (token ∷ tokens) (one ∷ words) same = ap suc (as_many text tokens words same.1)

pub text_holds : (text : List ℕ) (tokens : List Token) (program : Program) →
    ((words : List Word) → AreWords text tokens words →
    sum_by (λ word. length (word_text word)) words ≤ length text) →
    IsTreeOf text tokens program → HoldsItsWords program
text_holds text tokens program fit tree = record {
  words = tree.spelled.words;
  spells = tree.spelled.spells;
  fit = subst (λ source. sum_by (λ word. length (word_text word)) tree.spelled.words ≤ length source)
      (sym tree.source) (fit tree.spelled.words tree.spelled.are);
}

pub text_has : (text : List ℕ) (tokens : List Token) (program : Program) →
    IsTreeOf text tokens program → HasTokens program (length tokens)
text_has text tokens program tree = record {
  words = tree.spelled.words;
  spells = tree.spelled.spells;
  fit = omega (arith, as_many text tokens tree.spelled.words tree.spelled.are);
}
