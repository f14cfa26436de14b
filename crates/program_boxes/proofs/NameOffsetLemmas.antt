-- In a parsed program no two names that are declared stand at one offset: neither two global ones,
-- nor two of a procedure, nor one of each.
use Rattle.std.proofs.Common.{◌≡◌, ℕ, Bool, true, false, cond, inl, inr, List, [], ◌∷◌, ◌++◌, map, sym, ap, ◌∙◌, subst, append_assoc}
use Rattle.std.specs.List.{AllByRecursion, flat_map}
use Rattle.std.proofs.lemmas.List.{map-append}
use Rattle.zpl_tokens.specs.declared.Kind.TheVariants as kind
use Rattle.zpl_tokens.specs.declared.keywords.Key.TheVariants as key
use Rattle.zpl_tokens.specs.declared.symbols.Sym.TheVariants as sym
use Rattle.zpl_tree.specs.Grammar.{IsVar, SpellsDecl, SpellsEach, SpellsMoreLocals, SpellsRegion}
use Rattle.zpl_tree.specs.Spelling.{bracket_words, define_words, direction_words, each_after, expr_words, exprs_words, heading_words, in_round, in_square, inner_words, keyword, name_words, names_words, param_words, params_words, posts_words, result_words, stmt_words, symbol, type_words, var_words}
use Rattle.zpl_tree.specs.Syntax.{Name, Base, Bracket, Define, DirDef, Param, RegionDef, VarDef, Procedure, Decl, Config, Constant, Regions, Directions, Vars, Defined}
use Rattle.zpl_tree.specs.Word.{Word}
use Rattle.zpl_grammar.specs.Lexeme.{Lexeme, behind}
use Rattle.zpl_grammar.specs.Offsets.{DeclAt, DefineAt, DirectionAt, EachAt, LocalsAt, NameAt, NamesAt, ParamAt, RegionsAt, SeparatedAt, VarAt, grouped, opens, past, past_decl, past_locals, past_region, past_regions, region_spelling}
use Rattle.lowered_flat.proofs.ApartLemmas.{group_read, name_taken, names_taken, procedure_words_are, reads_front, region_read, skip_group, skip_more, skip_past}
use Rattle.lowered_flat.proofs.ReadLemmas.{Reads, past_both, reads_past}

abbrev pub offsets : List Name → List ℕ
offsets names = map (λ name. name.at) names

pub offsets_both : (xs ys : List Name) → offsets (xs ++ ys) ≡ offsets xs ++ offsets ys
offsets_both xs ys = map-append (λ (name : Name). name.at) xs ys

-- the global names that a declaration adds
abbrev pub decl_names : Decl → List Name
decl_names (Config defines) = map (λ define. define.name) defines
decl_names (Constant defines) = map (λ define. define.name) defines
decl_names (Regions regions) = map (λ region. region.name) regions
decl_names (Directions directions) = map (λ direction. direction.name) directions
decl_names (Vars vars) = flat_map (λ var. var.names) vars
decl_names (Defined procedure) = procedure.name ∷ []

module _ (Taken : List Lexeme → List ℕ → Type 0)
    (takes : (first : Lexeme) (rest : List Lexeme) (ats : List ℕ) → first.kind ≡ kind.Name →
    Taken rest ats → Taken (first ∷ rest) (first.at ∷ ats))
    (skips : (first : Lexeme) (rest : List Lexeme) (ats : List ℕ) → Taken rest ats →
    Taken (first ∷ rest) ats) where
  -- ---- variables

  var_names : (names : List Name) (shape : Bracket) (base : Base) (lexemes : List Lexeme)
      (ats : List ℕ) →
      Reads lexemes (var_words (record { names = names; shape = shape; base = base })) →
      NamesAt lexemes names →
      Taken (past (var_words (record { names = names; shape = shape; base = base })) lexemes) ats →
      Taken lexemes (offsets names ++ ats)
  var_names names shape base lexemes ats reads at taken =
      let one = names_words names in
      let two = one ++ symbol sym.Colon in
      let three = two ++ bracket_words shape in
      let four = three ++ type_words base in
      names_taken Taken takes skips names lexemes ats
      (reads_front one (symbol sym.Colon) lexemes
      (reads_front two (bracket_words shape) lexemes
      (reads_front three (type_words base) lexemes
      (reads_front four (symbol sym.Semicolon) lexemes reads)))) at
      (skip_more Taken takes skips one (symbol sym.Colon) lexemes ats
      (skip_more Taken takes skips two (bracket_words shape) lexemes ats
      (skip_more Taken takes skips three (type_words base) lexemes ats
      (skip_more Taken takes skips four (symbol sym.Semicolon) lexemes ats taken))))

  more_names : (xs ys : List Name) (lexemes : List Lexeme) (ats : List ℕ) →
      Taken lexemes (offsets xs ++ (offsets ys ++ ats)) → Taken lexemes (offsets (xs ++ ys) ++ ats)
  more_names xs ys lexemes ats taken =
      subst (Taken lexemes)
      (sym (append_assoc (offsets xs) (offsets ys) ats)
      ∙ ap (λ all. all ++ ats) (sym (offsets_both xs ys))) taken

  abbrev vars_of : List VarDef → List Name
  vars_of vars = flat_map (λ var. var.names) vars

  pub vars_names : (vars : List VarDef) (lexemes : List Lexeme) (ats : List ℕ) →
      Reads lexemes (flat_map var_words vars) → EachAt VarAt var_words lexemes vars →
      Taken (past (flat_map var_words vars) lexemes) ats →
      Taken lexemes (offsets (vars_of vars) ++ ats)
  vars_names [] lexemes ats reads at taken = taken
  vars_names (var ∷ vars) lexemes ats reads at taken =
      let here = var_words var in
      let more = flat_map var_words vars in
      more_names var.names (vars_of vars) lexemes ats
      (var_names var.names var.shape var.base lexemes (offsets (vars_of vars) ++ ats)
      (reads_front here more lexemes reads) at.0.0
      (vars_names vars (past here lexemes) ats (reads_past here more lexemes reads) at.1
      (subst (λ (rest : List Lexeme). Taken rest ats) (past_both here more lexemes) taken)))

  pub locals_names : (vars : List VarDef) (words back : List Word) (lexemes : List Lexeme)
      (ats : List ℕ) → AllByRecursion IsVar vars → SpellsMoreLocals vars words →
      Reads lexemes (words ++ back) → LocalsAt lexemes vars →
      Taken (past_locals vars lexemes) ats → Taken lexemes (offsets (vars_of vars) ++ ats)
  locals_names [] words back lexemes ats are spells reads at taken = taken
  locals_names (var ∷ vars) words back lexemes ats are spells reads at taken =
      let here = var_words var in
      let others = spells.0 in
      let inner = grouped lexemes in
      let read = group_read var words others back lexemes are.0.0 spells.2 reads in
      more_names var.names (vars_of vars) lexemes ats
      (skip_group Taken takes skips lexemes
      (offsets var.names ++ (offsets (vars_of vars) ++ ats))
      (var_names var.names var.shape var.base inner (offsets (vars_of vars) ++ ats)
      (reads_front here (others ++ back) inner read) at.0.0
      (locals_names vars others back (past here inner) ats are.1 spells.1
      (reads_past here (others ++ back) inner read) at.1 taken)))

  -- ---- one name, and then other words

  named : (name : Name) (words : List Word) (lexemes : List Lexeme) (ats : List ℕ) →
      Reads lexemes (name_words name ++ words) → NameAt lexemes name →
      Taken (past (name_words name ++ words) lexemes) ats → Taken lexemes (name.at ∷ ats)
  named name words [] ats reads at taken = absurd reads
  named name words (first ∷ rest) ats reads at taken =
      name_taken Taken takes skips name first rest ats reads.0 at
      (skip_past Taken takes skips words rest ats taken)

  pub defines_names : (defines : List Define) (lexemes : List Lexeme) (ats : List ℕ) →
      Reads lexemes (flat_map define_words defines) →
      EachAt DefineAt define_words lexemes defines →
      Taken (past (flat_map define_words defines) lexemes) ats →
      Taken lexemes (offsets (map (λ define. define.name) defines) ++ ats)
  defines_names [] lexemes ats reads at taken = taken
  defines_names (define ∷ defines) lexemes ats reads at taken =
      let here = define_words define in
      let more = flat_map define_words defines in
      let rest = symbol sym.Colon ++ type_words define.base ++ symbol sym.Equal
      ++ expr_words define.value ++ symbol sym.Semicolon in
      named define.name rest lexemes
      (offsets (map (λ define. define.name) defines) ++ ats)
      (reads_front here more lexemes reads) at.0.0
      (defines_names defines (past here lexemes) ats (reads_past here more lexemes reads) at.1
      (subst (λ (rest : List Lexeme). Taken rest ats) (past_both here more lexemes) taken))

  pub directions_names : (directions : List DirDef) (lexemes : List Lexeme) (ats : List ℕ) →
      Reads lexemes (flat_map direction_words directions) →
      EachAt DirectionAt direction_words lexemes directions →
      Taken (past (flat_map direction_words directions) lexemes) ats →
      Taken lexemes (offsets (map (λ direction. direction.name) directions) ++ ats)
  directions_names [] lexemes ats reads at taken = taken
  directions_names (direction ∷ directions) lexemes ats reads at taken =
      let here = direction_words direction in
      let more = flat_map direction_words directions in
      let rest = symbol sym.Equal ++ in_square (exprs_words direction.parts)
      ++ symbol sym.Semicolon in
      named direction.name rest lexemes
      (offsets (map (λ direction. direction.name) directions) ++ ats)
      (reads_front here more lexemes reads) at.0.0
      (directions_names directions (past here lexemes) ats (reads_past here more lexemes reads)
      at.1
      (subst (λ (rest : List Lexeme). Taken rest ats) (past_both here more lexemes) taken))

  -- a region, whose words begin with its name, in brackets or bare
  region_named : (region : RegionDef) (front back : List Word) (lexemes : List Lexeme)
      (ats : List ℕ) → SpellsRegion region front → Reads lexemes (front ++ back) →
      NameAt lexemes region.name → Taken (past_region region lexemes) ats →
      Taken lexemes (region.name.at ∷ ats)
  region_named region front back [] ats (inl e) reads at taken =
      absurd (subst (λ (all : List Word). Reads [] (all ++ back)) e reads)
  region_named region front back [] ats (inr bare) reads at taken =
      absurd (subst (λ (all : List Word). Reads [] (all ++ back)) bare.2 reads)
  region_named region front back (first ∷ rest) ats spells reads at taken =
      name_taken Taken takes skips region.name first rest ats (is_name spells) at
      (by (opens (behind rest)) taken)
    where
      is_name : SpellsRegion region front → first.kind ≡ kind.Name
      is_name (inl e) =
          (subst (λ (all : List Word). Reads (first ∷ rest) (all ++ back)) e reads).0
      is_name (inr bare) =
          (subst (λ (all : List Word). Reads (first ∷ rest) (all ++ back)) bare.2 reads).0

      by : (b : Bool) → Taken (past (region_spelling b region) (first ∷ rest)) ats →
          Taken rest ats
      by true taken =
          skip_past Taken takes skips
          (symbol sym.Equal ++ in_square (inner_words region.body) ++ posts_words region.posts
          ++ symbol sym.Semicolon) rest ats taken
      by false taken =
          skip_past Taken takes skips
          (symbol sym.Equal ++ inner_words region.body ++ symbol sym.Semicolon) rest ats taken

  pub regions_names : (regions : List RegionDef) (words back : List Word)
      (lexemes : List Lexeme) (ats : List ℕ) → SpellsEach SpellsRegion regions words →
      Reads lexemes (words ++ back) → RegionsAt lexemes regions →
      Taken (past_regions regions lexemes) ats →
      Taken lexemes (offsets (map (λ region. region.name) regions) ++ ats)
  regions_names [] words back lexemes ats spells reads at taken = taken
  regions_names (region ∷ regions) words back lexemes ats spells reads at taken =
      let front = spells.0 in
      let more = spells.1 in
      let here : Reads lexemes (front ++ (more ++ back)) =
      subst (Reads lexemes)
      (ap (λ (all : List Word). all ++ back) spells.4 ∙ append_assoc front more back) reads in
      region_named region front (more ++ back) lexemes
      (offsets (map (λ region. region.name) regions) ++ ats) spells.2 here at.0.0
      (regions_names regions more back (past_region region lexemes) ats spells.3
      (region_read region front (more ++ back) lexemes spells.2 here) at.1 taken)

  -- ---- parameters

  param_names : (param : Param) (lexemes : List Lexeme) (ats : List ℕ) →
      Reads lexemes (param_words param) → ParamAt lexemes param →
      Taken (past (param_words param) lexemes) ats → Taken lexemes (offsets param.names ++ ats)
  param_names param lexemes ats = by param.by_ref
    where
      rest_names : (inner : List Lexeme) →
          Reads inner (names_words param.names ++ symbol sym.Colon ++ bracket_words param.shape
          ++ type_words param.base) → NamesAt inner param.names →
          Taken (past (names_words param.names ++ symbol sym.Colon ++ bracket_words param.shape
          ++ type_words param.base) inner) ats → Taken inner (offsets param.names ++ ats)
      rest_names inner reads at taken =
          let one = names_words param.names in
          let two = one ++ symbol sym.Colon in
          let three = two ++ bracket_words param.shape in
          names_taken Taken takes skips param.names inner ats
          (reads_front one (symbol sym.Colon) inner
          (reads_front two (bracket_words param.shape) inner
          (reads_front three (type_words param.base) inner reads))) at
          (skip_more Taken takes skips one (symbol sym.Colon) inner ats
          (skip_more Taken takes skips two (bracket_words param.shape) inner ats
          (skip_more Taken takes skips three (type_words param.base) inner ats taken)))

      by : (b : Bool) →
          Reads lexemes (cond b (keyword key.Var) [] ++ names_words param.names
          ++ symbol sym.Colon ++ bracket_words param.shape ++ type_words param.base) →
          ParamAt lexemes (record param { by_ref = b }) →
          Taken (past (cond b (keyword key.Var) [] ++ names_words param.names
          ++ symbol sym.Colon ++ bracket_words param.shape ++ type_words param.base) lexemes)
          ats → Taken lexemes (offsets param.names ++ ats)
      by true reads at taken = with_var lexemes reads at.0 taken
        where
          with_var : (lexemes : List Lexeme) →
              Reads lexemes (keyword key.Var ++ names_words param.names
              ++ symbol sym.Colon ++ bracket_words param.shape ++ type_words param.base) →
              NamesAt (behind lexemes) param.names →
              Taken (past (keyword key.Var ++ names_words param.names
              ++ symbol sym.Colon ++ bracket_words param.shape ++ type_words param.base)
              lexemes) ats → Taken lexemes (offsets param.names ++ ats)
          with_var [] reads at taken = absurd reads
          with_var (first ∷ rest) reads at taken =
              skips first rest (offsets param.names ++ ats)
              (rest_names rest reads.1 at taken)
      by false reads at taken = rest_names lexemes reads at.0 taken

  abbrev params_of : List Param → List Name
  params_of params = flat_map (λ param. param.names) params

  -- behind a separator, each with one before it
  more_params : (params : List Param) (lexemes : List Lexeme) (ats : List ℕ) →
      Reads lexemes (each_after (symbol sym.Semicolon) param_words params) →
      SeparatedAt ParamAt param_words (behind lexemes) params →
      Taken (past (each_after (symbol sym.Semicolon) param_words params) lexemes) ats →
      Taken lexemes (offsets (params_of params) ++ ats)
  more_params [] lexemes ats reads at taken = taken
  more_params (param ∷ params) [] ats reads at taken = absurd reads
  more_params (param ∷ params) (semicolon ∷ inner) ats reads at taken =
      let here = param_words param in
      let more = each_after (symbol sym.Semicolon) param_words params in
      skips semicolon inner (offsets (params_of (param ∷ params)) ++ ats)
      (more_names param.names (params_of params) inner ats
      (param_names param inner (offsets (params_of params) ++ ats)
      (reads_front here more inner reads.1) at.0
      (more_params params (past here inner) ats (reads_past here more inner reads.1) at.1
      (subst (λ (rest : List Lexeme). Taken rest ats) (past_both here more inner) taken))))

  pub params_names : (params : List Param) (lexemes : List Lexeme) (ats : List ℕ) →
      Reads lexemes (params_words params) → SeparatedAt ParamAt param_words lexemes params →
      Taken (past (params_words params) lexemes) ats →
      Taken lexemes (offsets (params_of params) ++ ats)
  params_names [] lexemes ats reads at taken = taken
  params_names (param ∷ params) lexemes ats reads at taken =
      let here = param_words param in
      let more = each_after (symbol sym.Semicolon) param_words params in
      more_names param.names (params_of params) lexemes ats
      (param_names param lexemes (offsets (params_of params) ++ ats)
      (reads_front here more lexemes reads) at.0
      (more_params params (past here lexemes) ats (reads_past here more lexemes reads) at.1
      (subst (λ (rest : List Lexeme). Taken rest ats) (past_both here more lexemes) taken)))

  -- ---- declarations

  pub skip_locals : (vars : List VarDef) (lexemes : List Lexeme) (ats : List ℕ) →
      Taken (past_locals vars lexemes) ats → Taken lexemes ats
  skip_locals [] lexemes ats taken = taken
  skip_locals (var ∷ vars) lexemes ats taken =
      skip_group Taken takes skips lexemes ats
      (skip_past Taken takes skips (var_words var) (grouped lexemes) ats
      (skip_locals vars (past (var_words var) (grouped lexemes)) ats taken))

  -- what a procedure's name stands before
  abbrev behind_name : Procedure → List Word
  behind_name procedure =
      in_round (params_words procedure.params) ++ result_words procedure.result
      ++ symbol sym.Semicolon

  -- the global names of a declaration
  pub decl_taken : (decl : Decl) (front back : List Word) (lexemes : List Lexeme)
      (ats : List ℕ) → SpellsDecl decl front → Reads lexemes (front ++ back) →
      DeclAt lexemes decl → Taken (past_decl decl lexemes) ats →
      Taken lexemes (offsets (decl_names decl) ++ ats)
  decl_taken (Config defines) front back lexemes ats spells reads at taken =
      let words = flat_map define_words defines in
      let two = keyword key.Config ++ keyword key.Var in
      let here : Reads lexemes (two ++ (words ++ back)) =
      subst (λ (all : List Word). Reads lexemes (all ++ back)) spells reads in
      skip_past Taken takes skips two lexemes (offsets (decl_names (Config defines)) ++ ats)
      (defines_names defines (past two lexemes) ats
      (reads_front words back (past two lexemes) (reads_past two (words ++ back) lexemes here)) at
      taken)
  decl_taken (Constant defines) front back lexemes ats spells reads at taken =
      let words = flat_map define_words defines in
      let one = keyword key.Constant in
      let here : Reads lexemes (one ++ (words ++ back)) =
      subst (λ (all : List Word). Reads lexemes (all ++ back)) spells reads in
      skip_past Taken takes skips one lexemes (offsets (decl_names (Constant defines)) ++ ats)
      (defines_names defines (past one lexemes) ats
      (reads_front words back (past one lexemes) (reads_past one (words ++ back) lexemes here)) at
      taken)
  decl_taken (Regions regions) front back lexemes ats spells reads at taken =
      let one = keyword key.Region in
      let here : Reads lexemes (one ++ (spells.0 ++ back)) =
      subst (λ (all : List Word). Reads lexemes (all ++ back)) spells.2 reads in
      skip_past Taken takes skips one lexemes (offsets (decl_names (Regions regions)) ++ ats)
      (regions_names regions spells.0 back (past one lexemes) ats spells.1
      (reads_past one (spells.0 ++ back) lexemes here) at taken)
  decl_taken (Directions directions) front back lexemes ats spells reads at taken =
      let words = flat_map direction_words directions in
      let one = keyword key.Direction in
      let here : Reads lexemes (one ++ (words ++ back)) =
      subst (λ (all : List Word). Reads lexemes (all ++ back)) spells reads in
      skip_past Taken takes skips one lexemes
      (offsets (decl_names (Directions directions)) ++ ats)
      (directions_names directions (past one lexemes) ats
      (reads_front words back (past one lexemes) (reads_past one (words ++ back) lexemes here)) at
      taken)
  decl_taken (Vars vars) front back lexemes ats spells reads at taken =
      let words = flat_map var_words vars in
      let one = keyword key.Var in
      let here : Reads lexemes (one ++ (words ++ back)) =
      subst (λ (all : List Word). Reads lexemes (all ++ back)) spells reads in
      skip_past Taken takes skips one lexemes (offsets (decl_names (Vars vars)) ++ ats)
      (vars_names vars (past one lexemes) ats
      (reads_front words back (past one lexemes) (reads_past one (words ++ back) lexemes here)) at
      taken)
  decl_taken (Defined procedure) front back lexemes ats spells reads at taken =
      by lexemes
      (subst (Reads lexemes)
      (procedure_words_are (heading_words procedure) spells.0 (stmt_words procedure.body) front
      back spells.2) reads) at.0
      (skip_locals procedure.locals (past (heading_words procedure) lexemes) ats
      (skip_past Taken takes skips (stmt_words procedure.body)
      (past_locals procedure.locals (past (heading_words procedure) lexemes)) ats taken))
    where
      by : (lexemes : List Lexeme) →
          Reads lexemes (heading_words procedure
          ++ (spells.0 ++ (stmt_words procedure.body ++ back))) →
          NameAt (behind lexemes) procedure.name →
          Taken (past (heading_words procedure) lexemes) ats →
          Taken lexemes (procedure.name.at ∷ ats)
      by [] reads at taken = absurd reads
      by (first ∷ []) reads at taken = absurd reads.1
      by (first ∷ second ∷ rest) reads at taken =
          skips first (second ∷ rest) (procedure.name.at ∷ ats)
          (name_taken Taken takes skips procedure.name second rest ats reads.1.0 at
          (skip_past Taken takes skips (behind_name procedure) rest ats taken))
