-- In a parsed program no two arrays' names stand at one offset.
use Rattle.std.proofs.Common.{◌≡◌, ℕ, Bool, true, false, ◌⊎◌, inl, inr, List, [], ◌∷◌, ◌++◌, map, refl, sym, ap, ◌∙◌, subst, append_assoc}
use Rattle.std.specs.List.{AllByRecursion, flat_map}
use Rattle.zpl_tokens.specs.declared.Kind.{Kind}
use Rattle.zpl_tokens.specs.declared.Kind.TheVariants as kind
use Rattle.zpl_tokens.specs.declared.keywords.Key.TheVariants as key
use Rattle.zpl_tokens.specs.declared.symbols.Sym.TheVariants as sym
use Rattle.zpl_text.specs.declared.tokens.Token.{Token}
use Rattle.zpl_text.specs.Spans.{AreSpans}
use Rattle.zpl_tree.specs.Grammar.{HasAny, IsDecl, IsRexpr, IsVar, SpellsDecl, SpellsEach, SpellsLocals, SpellsMoreLocals, SpellsRegion, bare_words}
use Rattle.zpl_tree.specs.Spelling.{bracket_words, decl_words, each_after, heading_words, keyword, name_words, names_words, stmt_words, symbol, type_words, var_words}
use Rattle.zpl_tree.specs.Syntax.{Name, NamedRegion, Ditto, Inner, Rexpr, Dims, Bracket, NoBracket, Bracketed, Base, RegionDef, VarDef, Procedure, Decl, Config, Constant, Regions, Directions, Vars, Defined, Program}
use Rattle.zpl_tree.specs.Word as word
use Rattle.zpl_tree.specs.Word.{Word, kind_of}
use Rattle.zpl_grammar.specs.Lexeme.{Lexeme, behind, lexemes_of, next_is}
use Rattle.zpl_grammar.specs.Offsets.{DeclsAt, DeclAt, EachAt, LocalsAt, NameAt, NamesAt, SeparatedAt, VarAt, formal_of, grouped, opens, past, past_decl, past_locals, past_region, past_regions, region_spelling}
use Rattle.zpl_grammar.specs.Same.{same}
use Rattle.zpl_grammar.specs.Texts.{IsTreeOf}
use Rattle.zpl_names.specs.Scope.{Entry}
use Rattle.zpl_names.specs.Declared.{Routine, routines_behind, with_decl, with_procedure}
use Rattle.zpl_binding.specs.Storages.{Shaped, shaped_by, shaped_in, shaped_over}
use Rattle.lowered_flat.specs.Apart.{AreApart, NamesStandApart}
use Rattle.lowered_flat.proofs.ReadLemmas.{IsMerged, Ends, Skips, TakesGlobal, TakesLocal, Reads, in_order, merged_apart, past_both, reads_past, reads_words}

-- ---- offsets of lists of arrays

abbrev offsets : List Shaped → List ℕ
offsets arrays = map (λ array. array.name.at) arrays

offsets_both : (xs ys : List Shaped) → offsets (xs ++ ys) ≡ offsets xs ++ offsets ys
offsets_both [] ys = refl
offsets_both (x ∷ xs) ys = ap (λ all. x.name.at ∷ all) (offsets_both xs ys)

shaped_offsets : (names : List Name) (inner : Inner) →
    offsets (shaped_over names (Bracketed inner)) ≡ map (λ name. name.at) names
shaped_offsets [] inner = refl
shaped_offsets (name ∷ names) inner = ap (λ all. name.at ∷ all) (shaped_offsets names inner)

-- ---- lexemes that are words of declarations

pub reads_front : (xs ys : List Word) (lexemes : List Lexeme) → Reads lexemes (xs ++ ys) →
    Reads lexemes xs
reads_front [] ys lexemes reads = tt
reads_front (x ∷ xs) ys [] reads = absurd reads
reads_front (x ∷ xs) ys (first ∷ rest) reads = (reads.0, reads_front xs ys rest reads.1)

next_of : (lexemes : List Lexeme) (one : Word) (words : List Word) (wanted : Kind) (b : Bool) →
    same (kind_of one) wanted ≡ b → Reads lexemes (one ∷ words) → next_is wanted lexemes ≡ b
next_of [] one words wanted b is reads = absurd reads
next_of (first ∷ rest) one words wanted b is reads = ap (λ k. same k wanted) reads.0 ∙ is

-- a group of local variables, with its `var` or without one
pub group_read : (var : VarDef) (words others back : List Word) (lexemes : List Lexeme) →
    HasAny var.names →
    (words ≡ var_words var ++ others) ⊎ (words ≡ keyword key.Var ++ var_words var ++ others) →
    Reads lexemes (words ++ back) → Reads (grouped lexemes) (var_words var ++ (others ++ back))
group_read var words others back lexemes any (inl e) reads =
    subst (λ b. Reads (formal_of b lexemes) (var_words var ++ (others ++ back)))
    (sym (no_var var.names any here)) here
  where
    here : Reads lexemes (var_words var ++ (others ++ back))
    here = subst (Reads lexemes)
        (ap (λ (all : List Word). all ++ back) e ∙ append_assoc (var_words var) others back) reads

    no_var : (names : List Name) → HasAny names →
        Reads lexemes (var_words (record { names = names; shape = var.shape; base = var.base })
        ++ (others ++ back)) → next_is (kind.Word key.Var) lexemes ≡ false
    no_var [] any here = absurd any
    no_var (name ∷ names) any here =
        next_of lexemes (word.Name name.text) _ (kind.Word key.Var) false refl here
group_read var words others back lexemes any (inr e) reads =
    subst (λ b. Reads (formal_of b lexemes) (var_words var ++ (others ++ back)))
    (sym (next_of lexemes (word.Keyword key.Var) (var_words var ++ (others ++ back))
    (kind.Word key.Var) true refl here))
    (reads_past (keyword key.Var) (var_words var ++ (others ++ back)) lexemes here)
  where
    here : Reads lexemes (keyword key.Var ++ (var_words var ++ (others ++ back)))
    here = subst (Reads lexemes)
        (ap (λ (all : List Word). all ++ back) e
        ∙ ap (λ (all : List Word). word.Keyword key.Var ∷ all)
        (append_assoc (var_words var) others back)) reads

pub locals_spelled : (vars : List VarDef) (words : List Word) → SpellsLocals vars words →
    SpellsMoreLocals vars words
locals_spelled [] words spells = spells
locals_spelled (var ∷ vars) words spells = (spells.0, spells.1, inr spells.2)

pub locals_read : (vars : List VarDef) (words back : List Word) (lexemes : List Lexeme) →
    AllByRecursion IsVar vars → SpellsMoreLocals vars words → Reads lexemes (words ++ back) →
    Reads (past_locals vars lexemes) back
locals_read [] words back lexemes are spells reads =
    subst (λ (all : List Word). Reads lexemes (all ++ back)) spells reads
locals_read (var ∷ vars) words back lexemes are spells reads =
    locals_read vars spells.0 back (past (var_words var) (grouped lexemes)) are.1 spells.1
    (reads_past (var_words var) (spells.0 ++ back) (grouped lexemes)
    (group_read var words spells.0 back lexemes are.0.0 spells.2 reads))

pub procedure_words_are : (heading locals body front back : List Word) →
    front ≡ heading ++ locals ++ body →
    front ++ back ≡ heading ++ (locals ++ (body ++ back))
procedure_words_are heading locals body front back e =
    ap (λ (all : List Word). all ++ back) e
    ∙ (append_assoc (heading ++ locals) body back ∙ append_assoc heading locals (body ++ back))

-- a region in brackets, and a bare one
spelled_region : (b : Bool) (region : RegionDef) (front back : List Word)
    (lexemes : List Lexeme) → opens (behind (behind lexemes)) ≡ b →
    front ≡ region_spelling b region → Reads lexemes (front ++ back) →
    Reads (past_region region lexemes) back
spelled_region b region front back lexemes is e reads =
    subst (λ c. Reads (past (region_spelling c region) lexemes) back) (sym is)
    (reads_past (region_spelling b region) back lexemes
    (subst (λ (all : List Word). Reads lexemes (all ++ back)) e reads))

third_is : (lexemes : List Lexeme) (one two three : Word) (words : List Word) (b : Bool) →
    same (kind_of three) (kind.Symbol sym.OpenBracket) ≡ b →
    Reads lexemes (one ∷ two ∷ three ∷ words) → opens (behind (behind lexemes)) ≡ b
third_is [] one two three words b is reads = absurd reads
third_is (x ∷ []) one two three words b is reads = absurd reads.1
third_is (x ∷ y ∷ rest) one two three words b is reads =
    next_of rest three words (kind.Symbol sym.OpenBracket) b is reads.1.1

pub region_read : (region : RegionDef) (front back : List Word) (lexemes : List Lexeme) →
    SpellsRegion region front → Reads lexemes (front ++ back) →
    Reads (past_region region lexemes) back
region_read region front back lexemes (inl e) reads =
    spelled_region true region front back lexemes
    (third_is lexemes (word.Name region.name.text) (word.Symbol sym.Equal)
    (word.Symbol sym.OpenBracket) _ true refl
    (subst (λ (all : List Word). Reads lexemes (all ++ back)) e reads)) e reads
region_read region front back lexemes (inr bare) reads =
    spelled_region false region front back lexemes
    (closed region.body bare.0
    (subst (λ (all : List Word). Reads lexemes (all ++ back)) bare.2 reads)) bare.2 reads
  where
    closed : (body : Inner) → IsRexpr body →
        Reads lexemes (bare_words (record { name = region.name; body = body; posts = region.posts })
        ++ back) → opens (behind (behind lexemes)) ≡ false
    closed (Dims dims) is reads = absurd is
    closed (Rexpr [] (NamedRegion name) post) is reads =
        third_is lexemes (word.Name region.name.text) (word.Symbol sym.Equal)
        (word.Name name.text) _ false refl reads
    closed (Rexpr [] (Ditto at) post) is reads =
        third_is lexemes (word.Name region.name.text) (word.Symbol sym.Equal) word.Ditto _ false
        refl reads
    closed (Rexpr (pre ∷ more) base post) is reads =
        third_is lexemes (word.Name region.name.text) (word.Symbol sym.Equal)
        (word.Name pre.dir.text) _ false refl reads

pub regions_read : (regions : List RegionDef) (words back : List Word) (lexemes : List Lexeme) →
    SpellsEach SpellsRegion regions words → Reads lexemes (words ++ back) →
    Reads (past_regions regions lexemes) back
regions_read [] words back lexemes spells reads =
    subst (λ (all : List Word). Reads lexemes (all ++ back)) spells reads
regions_read (region ∷ regions) words back lexemes spells reads =
    let front = spells.0 in
    let more = spells.1 in
    regions_read regions more back (past_region region lexemes) spells.3
    (region_read region front (more ++ back) lexemes spells.2
    (subst (Reads lexemes)
    (ap (λ (all : List Word). all ++ back) spells.4 ∙ append_assoc front more back) reads))

plain_read : (words front back : List Word) (lexemes : List Lexeme) → front ≡ words →
    Reads lexemes (front ++ back) → Reads (past words lexemes) back
plain_read words front back lexemes e reads =
    reads_past words back lexemes
    (subst (λ (all : List Word). Reads lexemes (all ++ back)) e reads)

pub decl_read : (decl : Decl) (front back : List Word) (lexemes : List Lexeme) → IsDecl decl →
    SpellsDecl decl front → Reads lexemes (front ++ back) → Reads (past_decl decl lexemes) back
decl_read (Config defines) front back lexemes is spells reads =
    plain_read (decl_words (Config defines)) front back lexemes spells reads
decl_read (Constant defines) front back lexemes is spells reads =
    plain_read (decl_words (Constant defines)) front back lexemes spells reads
decl_read (Regions regions) front back lexemes is spells reads =
    regions_read regions spells.0 back (behind lexemes) spells.1
    (reads_past (keyword key.Region) (spells.0 ++ back) lexemes
    (subst (λ (all : List Word). Reads lexemes (all ++ back)) spells.2 reads))
decl_read (Directions directions) front back lexemes is spells reads =
    plain_read (decl_words (Directions directions)) front back lexemes spells reads
decl_read (Vars vars) front back lexemes is spells reads =
    plain_read (decl_words (Vars vars)) front back lexemes spells reads
decl_read (Defined procedure) front back lexemes is spells reads =
    let heading = heading_words procedure in
    let body = stmt_words procedure.body in
    reads_past body back (past_locals procedure.locals (past heading lexemes))
    (locals_read procedure.locals spells.0 (body ++ back) (past heading lexemes) is.1
    (locals_spelled procedure.locals spells.0 spells.1)
    (reads_past heading (spells.0 ++ (body ++ back)) lexemes
    (subst (Reads lexemes) (procedure_words_are heading spells.0 body front back spells.2) reads)))

-- ---- names and variables, where names may be taken and lexemes skipped

module _ (Taken : List Lexeme → List ℕ → Type 0)
    (takes : (first : Lexeme) (rest : List Lexeme) (ats : List ℕ) → first.kind ≡ kind.Name →
    Taken rest ats → Taken (first ∷ rest) (first.at ∷ ats))
    (skips : (first : Lexeme) (rest : List Lexeme) (ats : List ℕ) → Taken rest ats →
    Taken (first ∷ rest) ats) where
  pub skip_behind : (lexemes : List Lexeme) (ats : List ℕ) → Taken (behind lexemes) ats →
      Taken lexemes ats
  skip_behind [] ats taken = taken
  skip_behind (first ∷ rest) ats taken = skips first rest ats taken

  pub skip_past : (words : List Word) (lexemes : List Lexeme) (ats : List ℕ) →
      Taken (past words lexemes) ats → Taken lexemes ats
  skip_past [] lexemes ats taken = taken
  skip_past (one ∷ words) lexemes ats taken =
      skip_behind lexemes ats (skip_past words (behind lexemes) ats taken)

  pub name_taken : (name : Name) (first : Lexeme) (rest : List Lexeme) (ats : List ℕ) →
      first.kind ≡ kind.Name → name.at ≡ first.at → Taken rest ats →
      Taken (first ∷ rest) (name.at ∷ ats)
  name_taken name first rest ats named at taken =
      subst (λ n. Taken (first ∷ rest) (n ∷ ats)) (sym at) (takes first rest ats named taken)

  pub more_taken : (names : List Name) (lexemes : List Lexeme) (ats : List ℕ) →
      Reads lexemes (each_after (symbol sym.Comma) name_words names) →
      SeparatedAt NameAt name_words (behind lexemes) names →
      Taken (past (each_after (symbol sym.Comma) name_words names) lexemes) ats →
      Taken lexemes (map (λ name. name.at) names ++ ats)
  more_taken [] lexemes ats reads at taken = taken
  more_taken (name ∷ names) [] ats reads at taken = absurd reads
  more_taken (name ∷ names) (comma ∷ []) ats reads at taken = absurd reads.1
  more_taken (name ∷ names) (comma ∷ first ∷ rest) ats reads at taken =
      skips comma (first ∷ rest) (name.at ∷ (map (λ name. name.at) names ++ ats))
      (name_taken name first rest (map (λ name. name.at) names ++ ats) reads.1.0 at.0
      (more_taken names rest ats reads.1.1 at.1 taken))

  pub names_taken : (names : List Name) (lexemes : List Lexeme) (ats : List ℕ) →
      Reads lexemes (names_words names) → NamesAt lexemes names →
      Taken (past (names_words names) lexemes) ats →
      Taken lexemes (map (λ name. name.at) names ++ ats)
  names_taken [] lexemes ats reads at taken = taken
  names_taken (name ∷ names) [] ats reads at taken = absurd reads
  names_taken (name ∷ names) (first ∷ rest) ats reads at taken =
      name_taken name first rest (map (λ name. name.at) names ++ ats) reads.0 at.0
      (more_taken names rest ats reads.1 at.1 taken)

  -- ---- variables

  pub skip_more : (xs ys : List Word) (lexemes : List Lexeme) (ats : List ℕ) →
      Taken (past (xs ++ ys) lexemes) ats → Taken (past xs lexemes) ats
  skip_more xs ys lexemes ats taken =
      skip_past ys (past xs lexemes) ats
      (subst (λ (rest : List Lexeme). Taken rest ats) (past_both xs ys lexemes) taken)

  var_taken : (names : List Name) (shape : Bracket) (base : Base) (lexemes : List Lexeme)
      (ats : List ℕ) →
      Reads lexemes (var_words (record { names = names; shape = shape; base = base })) →
      NamesAt lexemes names →
      Taken (past (var_words (record { names = names; shape = shape; base = base })) lexemes) ats →
      Taken lexemes (offsets (shaped_over names shape) ++ ats)
  var_taken names NoBracket base lexemes ats reads at taken =
      skip_past (var_words (record { names = names; shape = NoBracket; base = base })) lexemes ats
      taken
  var_taken names (Bracketed inner) base lexemes ats reads at taken =
      let one = names_words names in
      let two = one ++ symbol sym.Colon in
      let three = two ++ bracket_words (Bracketed inner) in
      let four = three ++ type_words base in
      subst (λ all. Taken lexemes (all ++ ats)) (sym (shaped_offsets names inner))
      (names_taken names lexemes ats
      (reads_front one (symbol sym.Colon) lexemes
      (reads_front two (bracket_words (Bracketed inner)) lexemes
      (reads_front three (type_words base) lexemes
      (reads_front four (symbol sym.Semicolon) lexemes reads)))) at
      (skip_more one (symbol sym.Colon) lexemes ats
      (skip_more two (bracket_words (Bracketed inner)) lexemes ats
      (skip_more three (type_words base) lexemes ats
      (skip_more four (symbol sym.Semicolon) lexemes ats taken)))))

  more_offsets : (xs ys : List Shaped) (lexemes : List Lexeme) (ats : List ℕ) →
      Taken lexemes (offsets xs ++ (offsets ys ++ ats)) → Taken lexemes (offsets (xs ++ ys) ++ ats)
  more_offsets xs ys lexemes ats taken =
      subst (Taken lexemes)
      (sym (append_assoc (offsets xs) (offsets ys) ats)
      ∙ ap (λ all. all ++ ats) (sym (offsets_both xs ys))) taken

  pub vars_taken : (vars : List VarDef) (lexemes : List Lexeme) (ats : List ℕ) →
      Reads lexemes (flat_map var_words vars) → EachAt VarAt var_words lexemes vars →
      Taken (past (flat_map var_words vars) lexemes) ats →
      Taken lexemes (offsets (flat_map shaped_by vars) ++ ats)
  vars_taken [] lexemes ats reads at taken = taken
  vars_taken (var ∷ vars) lexemes ats reads at taken =
      let here = var_words var in
      let more = flat_map var_words vars in
      more_offsets (shaped_by var) (flat_map shaped_by vars) lexemes ats
      (var_taken var.names var.shape var.base lexemes (offsets (flat_map shaped_by vars) ++ ats)
      (reads_front here more lexemes reads) at.0.0
      (vars_taken vars (past here lexemes) ats (reads_past here more lexemes reads) at.1
      (subst (λ (rest : List Lexeme). Taken rest ats) (past_both here more lexemes) taken)))

  -- ---- local variables

  pub skip_group : (lexemes : List Lexeme) (ats : List ℕ) → Taken (grouped lexemes) ats →
      Taken lexemes ats
  skip_group lexemes ats = by (next_is (kind.Word key.Var) lexemes)
    where
      by : (b : Bool) → Taken (formal_of b lexemes) ats → Taken lexemes ats
      by true taken = skip_behind lexemes ats taken
      by false taken = taken

  pub locals_taken : (vars : List VarDef) (words back : List Word) (lexemes : List Lexeme)
      (ats : List ℕ) → AllByRecursion IsVar vars → SpellsMoreLocals vars words →
      Reads lexemes (words ++ back) → LocalsAt lexemes vars →
      Taken (past_locals vars lexemes) ats →
      Taken lexemes (offsets (flat_map shaped_by vars) ++ ats)
  locals_taken [] words back lexemes ats are spells reads at taken = taken
  locals_taken (var ∷ vars) words back lexemes ats are spells reads at taken =
      let here = var_words var in
      let others = spells.0 in
      let inner = grouped lexemes in
      let read = group_read var words others back lexemes are.0.0 spells.2 reads in
      more_offsets (shaped_by var) (flat_map shaped_by vars) lexemes ats
      (skip_group lexemes (offsets (shaped_by var) ++ (offsets (flat_map shaped_by vars) ++ ats))
      (var_taken var.names var.shape var.base inner (offsets (flat_map shaped_by vars) ++ ats)
      (reads_front here (others ++ back) inner read) at.0.0
      (locals_taken vars others back (past here inner) ats are.1 spells.1
      (reads_past here (others ++ back) inner read) at.1 taken)))

  -- ---- regions

  pub skip_regions : (regions : List RegionDef) (lexemes : List Lexeme) (ats : List ℕ) →
      Taken (past_regions regions lexemes) ats → Taken lexemes ats
  skip_regions [] lexemes ats taken = taken
  skip_regions (region ∷ regions) lexemes ats taken =
      skip_past (region_spelling (opens (behind (behind lexemes))) region) lexemes ats
      (skip_regions regions (past_region region lexemes) ats taken)

  -- ---- declarations without arrays

  pub skip_decl : (decl : Decl) (lexemes : List Lexeme) (ats : List ℕ) →
      Taken (past_decl decl lexemes) ats → Taken lexemes ats
  skip_decl (Config defines) lexemes ats taken =
      skip_past (decl_words (Config defines)) lexemes ats taken
  skip_decl (Constant defines) lexemes ats taken =
      skip_past (decl_words (Constant defines)) lexemes ats taken
  skip_decl (Regions regions) lexemes ats taken =
      skip_behind lexemes ats (skip_regions regions (behind lexemes) ats taken)
  skip_decl (Directions directions) lexemes ats taken =
      skip_past (decl_words (Directions directions)) lexemes ats taken
  skip_decl (Vars vars) lexemes ats taken =
      skip_past (decl_words (Vars vars)) lexemes ats taken
  skip_decl (Defined procedure) lexemes ats taken =
      let first = heading_words procedure in
      skip_past first lexemes ats
      (skip_locals procedure.locals (past first lexemes) ats
      (skip_past (stmt_words procedure.body)
      (past_locals procedure.locals (past first lexemes)) ats taken))
    where
      skip_locals : (vars : List VarDef) (lexemes : List Lexeme) (ats : List ℕ) →
          Taken (past_locals vars lexemes) ats → Taken lexemes ats
      skip_locals [] lexemes ats taken = taken
      skip_locals (var ∷ vars) lexemes ats taken =
          skip_group lexemes ats
          (skip_past (var_words var) (grouped lexemes) ats
          (skip_locals vars (past (var_words var) (grouped lexemes)) ats taken))

  -- the arrays of a declaration of global variables
  pub globals_taken : (vars : List VarDef) (back : List Word) (lexemes : List Lexeme)
      (ats : List ℕ) → Reads lexemes (decl_words (Vars vars) ++ back) →
      DeclAt lexemes (Vars vars) → Taken (past_decl (Vars vars) lexemes) ats →
      Taken lexemes (offsets (flat_map shaped_by vars) ++ ats)
  globals_taken vars back lexemes ats reads at taken =
      let words = flat_map var_words vars in
      skip_behind lexemes (offsets (flat_map shaped_by vars) ++ ats)
      (vars_taken vars (behind lexemes) ats
      (reads_front words back (behind lexemes)
      (reads_past (keyword key.Var) (words ++ back) lexemes reads)) at taken)

  -- and of a procedure
  pub owned_taken : (procedure : Procedure) (front back : List Word) (lexemes : List Lexeme)
      (ats : List ℕ) → IsDecl (Defined procedure) → SpellsDecl (Defined procedure) front →
      Reads lexemes (front ++ back) → DeclAt lexemes (Defined procedure) →
      Taken (past_decl (Defined procedure) lexemes) ats →
      Taken lexemes (offsets (flat_map shaped_by procedure.locals) ++ ats)
  owned_taken procedure front back lexemes ats is spells reads at taken =
      let heading = heading_words procedure in
      let body = stmt_words procedure.body in
      let all = offsets (flat_map shaped_by procedure.locals) ++ ats in
      skip_past heading lexemes all
      (locals_taken procedure.locals spells.0 (body ++ back) (past heading lexemes) ats is.1
      (locals_spelled procedure.locals spells.0 spells.1)
      (reads_past heading (spells.0 ++ (body ++ back)) lexemes
      (subst (Reads lexemes) (procedure_words_are heading spells.0 body front back spells.2) reads))
      at.3
      (skip_past body (past_locals procedure.locals (past heading lexemes)) ats taken))

-- ---- declarations

abbrev owned : List Routine → List Shaped
owned routines = flat_map (λ routine. flat_map shaped_by routine.procedure.locals) routines

-- names of global arrays, beside given ones of local arrays
globals_merged : (vars : List VarDef) (back : List Word) (lexemes : List Lexeme)
    (gs ss : List ℕ) → Reads lexemes (decl_words (Vars vars) ++ back) →
    DeclAt lexemes (Vars vars) → IsMerged (past_decl (Vars vars) lexemes) gs ss →
    IsMerged lexemes (offsets (flat_map shaped_by vars) ++ gs) ss
globals_merged vars back lexemes gs ss reads at merged =
    globals_taken (λ rest ats. IsMerged rest ats ss)
    (λ first rest ats named is. TakesGlobal first named is)
    (λ first rest ats is. Skips first is) vars back lexemes gs reads at merged

owned_merged : (procedure : Procedure) (front back : List Word) (lexemes : List Lexeme)
    (gs ss : List ℕ) → IsDecl (Defined procedure) → SpellsDecl (Defined procedure) front →
    Reads lexemes (front ++ back) → DeclAt lexemes (Defined procedure) →
    IsMerged (past_decl (Defined procedure) lexemes) gs ss →
    IsMerged lexemes gs (offsets (flat_map shaped_by procedure.locals) ++ ss)
owned_merged procedure front back lexemes gs ss is spells reads at merged =
    owned_taken (λ rest ats. IsMerged rest gs ats)
    (λ first rest ats named is. TakesLocal first named is)
    (λ first rest ats is. Skips first is) procedure front back lexemes ss is spells reads at
    merged

none_merged : (decl : Decl) (lexemes : List Lexeme) (gs ss : List ℕ) →
    IsMerged (past_decl decl lexemes) gs ss → IsMerged lexemes gs ss
none_merged decl lexemes gs ss merged =
    skip_decl (λ rest ats. IsMerged rest ats ss)
    (λ first rest ats named is. TakesGlobal first named is)
    (λ first rest ats is. Skips first is) decl lexemes gs merged

decls_merged : (decls : List Decl) (earlier : List Entry) (words back : List Word)
    (lexemes : List Lexeme) → AllByRecursion IsDecl decls → SpellsEach SpellsDecl decls words →
    Reads lexemes (words ++ back) → DeclsAt lexemes decls →
    IsMerged lexemes (offsets (flat_map shaped_in decls))
    (offsets (owned (routines_behind earlier decls)))
decls_merged [] earlier words back lexemes are spells reads at = Ends
decls_merged (decl ∷ decls) earlier words back lexemes are spells reads at =
    by decl are.0 spells.2 at.0
    (λ (next : List Entry). decls_merged decls next more back (past_decl decl lexemes) are.1 spells.3
    (decl_read decl front (more ++ back) lexemes are.0 spells.2 here) at.1)
  where
    front : List Word
    front = spells.0

    more : List Word
    more = spells.1

    here : Reads lexemes (front ++ (more ++ back))
    here = subst (Reads lexemes)
        (ap (λ (all : List Word). all ++ back) spells.4 ∙ append_assoc front more back) reads

    by : (decl : Decl) → IsDecl decl → SpellsDecl decl front → DeclAt lexemes decl →
        ((next : List Entry) → IsMerged (past_decl decl lexemes) (offsets (flat_map shaped_in decls))
        (offsets (owned (routines_behind next decls)))) →
        IsMerged lexemes (offsets (flat_map shaped_in (decl ∷ decls)))
        (offsets (owned (routines_behind earlier (decl ∷ decls))))
    by (Config defines) is spells at later =
        none_merged (Config defines) lexemes _ _ (later (with_decl earlier (Config defines)))
    by (Constant defines) is spells at later =
        none_merged (Constant defines) lexemes _ _ (later (with_decl earlier (Constant defines)))
    by (Regions regions) is spells at later =
        none_merged (Regions regions) lexemes _ _ (later (with_decl earlier (Regions regions)))
    by (Directions directions) is spells at later =
        none_merged (Directions directions) lexemes _ _
        (later (with_decl earlier (Directions directions)))
    by (Vars vars) is spells at later =
        let ss = offsets (owned (routines_behind (with_decl earlier (Vars vars)) decls)) in
        subst (λ gs. IsMerged lexemes gs ss)
        (sym (offsets_both (flat_map shaped_by vars) (flat_map shaped_in decls)))
        (globals_merged vars (more ++ back) lexemes (offsets (flat_map shaped_in decls)) ss
        (subst (λ (all : List Word). Reads lexemes (all ++ (more ++ back))) spells here) at
        (later (with_decl earlier (Vars vars))))
    by (Defined procedure) is spells at later =
        let rest = owned (routines_behind (with_procedure earlier procedure) decls) in
        subst (IsMerged lexemes (offsets (flat_map shaped_in decls)))
        (sym (offsets_both (flat_map shaped_by procedure.locals) rest))
        (owned_merged procedure front (more ++ back) lexemes (offsets (flat_map shaped_in decls))
        (offsets rest) is spells here at (later (with_procedure earlier procedure)))

pub parsed_apart : (text : List ℕ) (tokens : List Token) (program : Program) →
    AreSpans text 0 tokens → IsTreeOf text tokens program → NamesStandApart program
parsed_apart text tokens program spans tree =
    let spells = tree.spelled.spells in
    let lexemes = lexemes_of text tokens in
    let first = keyword key.Program ++ name_words program.name ++ symbol sym.Semicolon in
    let reads : Reads lexemes (first ++ (spells.0 ++ word.End ∷ [])) =
    subst (Reads lexemes) spells.3 (reads_words text tokens tree.spelled.words tree.spelled.are) in
    let merged = decls_merged program.decls [] spells.0 (word.End ∷ []) (past first lexemes) spells.1
    spells.2 (reads_past first (spells.0 ++ word.End ∷ []) lexemes reads) tree.offsets.1 in
    let gs = flat_map shaped_in program.decls in
    let ss = owned (routines_behind [] program.decls) in
    subst AreApart (sym (offsets_both gs ss))
    (merged_apart lexemes (offsets gs) (offsets ss)
    (skip_past (λ rest ats. IsMerged rest ats (offsets ss))
    (λ first rest ats named is. TakesGlobal first named is)
    (λ first rest ats is. Skips first is) first lexemes (offsets gs) merged) 0
    (in_order text 0 tokens spans))
