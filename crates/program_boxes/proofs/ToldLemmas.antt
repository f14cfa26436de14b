-- In a parsed program calls and names have offsets of their own.
use Rattle.std.proofs.Common.{◌≡◌, ℕ, inl, inr, List, [], ◌∷◌, ◌++◌, map, refl, sym, ap, ◌∙◌, subst, append-nil, append_assoc}
use Rattle.std.specs.List.{AllByRecursion, flat_map}
use Rattle.std.proofs.lemmas.List.{map-append}
use Rattle.zpl_text.specs.declared.tokens.Token.{Token}
use Rattle.zpl_text.specs.Spans.{AreSpans}
use Rattle.zpl_tokens.specs.declared.Kind.TheVariants as tokens
use Rattle.zpl_tokens.specs.declared.keywords.Key.TheVariants as key
use Rattle.zpl_tokens.specs.declared.symbols.Sym.TheVariants as sym
use Rattle.zpl_tree.specs.Grammar.{IsDecl, SpellsDecl, SpellsEach}
use Rattle.zpl_tree.specs.Spelling.{heading_words, keyword, name_words, params_words, result_words, stmt_words, symbol}
use Rattle.zpl_tree.specs.Syntax.{Name, Define, DirDef, RegionDef, VarDef, Procedure, Decl, Config, Constant, Regions, Directions, Vars, Defined, Program}
use Rattle.zpl_tree.specs.Word as word
use Rattle.zpl_tree.specs.Word.{Word}
use Rattle.zpl_grammar.specs.Lexeme.{Lexeme, lexemes_of}
use Rattle.zpl_grammar.specs.Offsets.{DeclAt, DeclsAt, past, past_decl, past_locals}
use Rattle.zpl_grammar.specs.Texts.{IsTreeOf}
use Rattle.zpl_names.specs.Accepted.{HasNoFault, IsFaultless}
use Rattle.zpl_names.specs.Kinds as kind
use Rattle.zpl_names.specs.Kinds.{Kind}
use Rattle.zpl_names.specs.Scope.{Entry}
use Rattle.zpl_names.specs.Shapes.{unknown_shapes, variable_kind}
use Rattle.zpl_names.specs.Declared.{Routine, declaring, entry_for, globals_of, own_names, routines_behind, routines_of, scope_of, with_decl, with_define, with_direction, with_each, with_procedure, with_region, with_variables}
use Rattle.zpl_names.specs.Sites.{Site, in_body, outermost_sites, routine_sites}
use Rattle.zpl_names.proofs.FaultlessLemmas.{clean-routine}
use Rattle.zpl_names.proofs.ListLemmas.{Among}
use Rattle.zpl_meaning.proofs.DepthLemmas.{Each}
use Rattle.lowered_flat.specs.Apart.{AreApart}
use Rattle.lowered_flat.proofs.ApartLemmas.{decl_read, locals_read, locals_spelled, name_taken, procedure_words_are, reads_front, skip_decl, skip_past}
use Rattle.lowered_flat.proofs.ReadLemmas.{Ends, IsMerged, Reads, Skips, TakesGlobal, TakesLocal, in_order, merged_apart, past_both, reads_past, reads_words}
use Rattle.stored_boxes.specs.Different.{IsToldApart}
use Rattle.program_boxes.proofs.CallOffsetLemmas.{call_ats, outermost_taken}
use Rattle.program_boxes.proofs.NameOffsetLemmas.{decl_names, decl_taken, locals_names, offsets, offsets_both, params_names, skip_locals}

-- ---- the global names

module _ {A : Type 0} (adds : List Entry → A → List Entry) (names : A → List Name)
    (adds_are : (earlier : List Entry) (one : A) →
    map (λ entry. entry.name) (adds earlier one) ≡ map (λ entry. entry.name) earlier ++ names one)
  where
    each_adds : (earlier : List Entry) (list : List A) →
        map (λ entry. entry.name) (with_each adds earlier list) ≡
        map (λ entry. entry.name) earlier ++ flat_map names list
    each_adds earlier [] = sym (append-nil (map (λ entry. entry.name) earlier))
    each_adds earlier (one ∷ list) =
        each_adds (adds earlier one) list
        ∙ ap (λ front. front ++ flat_map names list) (adds_are earlier one)
        ∙ append_assoc (map (λ entry. entry.name) earlier) (names one) (flat_map names list)

one_each : {A : Type 0} (f : A → Name) (xs : List A) → flat_map (λ x. f x ∷ []) xs ≡ map f xs
one_each f [] = refl
one_each f (x ∷ xs) = ap (λ rest. f x ∷ rest) (one_each f xs)

one_adds : (earlier : List Entry) (one : Entry) →
    map (λ (entry : Entry). entry.name) (earlier ++ one ∷ []) ≡
    map (λ entry. entry.name) earlier ++ one.name ∷ []
one_adds earlier one = map-append (λ (entry : Entry). entry.name) earlier (one ∷ [])

entries_named : (one : Kind) (names : List Name) →
    map (λ (entry : Entry). entry.name) (map (entry_for one) names) ≡ names
entries_named one [] = refl
entries_named one (name ∷ names) = ap (λ rest. name ∷ rest) (entries_named one names)

decl_adds : (earlier : List Entry) (decl : Decl) →
    map (λ entry. entry.name) (with_decl earlier decl) ≡
    map (λ entry. entry.name) earlier ++ decl_names decl
decl_adds earlier (Config defines) =
    each_adds (with_define kind.Config) (λ define. define.name ∷ [])
    (λ before define. one_adds before _) earlier defines
    ∙ ap (λ back. map (λ (entry : Entry). entry.name) earlier ++ back)
    (one_each (λ (define : Define). define.name) defines)
decl_adds earlier (Constant defines) =
    each_adds (with_define kind.Constant) (λ define. define.name ∷ [])
    (λ before define. one_adds before _) earlier defines
    ∙ ap (λ back. map (λ (entry : Entry). entry.name) earlier ++ back)
    (one_each (λ (define : Define). define.name) defines)
decl_adds earlier (Regions regions) =
    each_adds with_region (λ region. region.name ∷ []) (λ before region. one_adds before _)
    earlier regions
    ∙ ap (λ back. map (λ (entry : Entry). entry.name) earlier ++ back)
    (one_each (λ (region : RegionDef). region.name) regions)
decl_adds earlier (Directions directions) =
    each_adds with_direction (λ direction. direction.name ∷ [])
    (λ before direction. one_adds before _) earlier directions
    ∙ ap (λ back. map (λ (entry : Entry). entry.name) earlier ++ back)
    (one_each (λ (direction : DirDef). direction.name) directions)
decl_adds earlier (Vars vars) =
    each_adds with_variables (λ var. var.names)
    (λ before var. map-append (λ (entry : Entry). entry.name) before _
    ∙ ap (λ back. map (λ (entry : Entry). entry.name) before ++ back)
    (entries_named (variable_kind (declaring [] before) var.shape var.base) var.names))
    earlier vars
decl_adds earlier (Defined procedure) = one_adds earlier _

globals_named : (program : Program) →
    map (λ entry. entry.name) (globals_of program) ≡ flat_map decl_names program.decls
globals_named program = each_adds with_decl decl_names decl_adds [] program.decls

-- ---- names

abbrev all_names : List Decl → List Name
all_names decls = flat_map decl_names decls

more_global : (decl : Decl) (decls : List Decl) (front back : List Word)
    (lexemes : List Lexeme) (ss : List ℕ) → SpellsDecl decl front → Reads lexemes (front ++ back) →
    DeclAt lexemes decl → IsMerged (past_decl decl lexemes) (offsets (all_names decls)) ss →
    IsMerged lexemes (offsets (all_names (decl ∷ decls))) ss
more_global decl decls front back lexemes ss spells reads at merged =
    subst (λ gs. IsMerged lexemes gs ss) (sym (offsets_both (decl_names decl) (all_names decls)))
    (decl_taken (λ rest ats. IsMerged rest ats ss)
    (λ first rest ats named is. TakesGlobal first named is)
    (λ first rest ats is. Skips first is) decl front back lexemes (offsets (all_names decls))
    spells reads at merged)

globals_merged : (decls : List Decl) (words back : List Word) (lexemes : List Lexeme) →
    AllByRecursion IsDecl decls → SpellsEach SpellsDecl decls words →
    Reads lexemes (words ++ back) → DeclsAt lexemes decls →
    IsMerged lexemes (offsets (all_names decls)) []
globals_merged [] words back lexemes are spells reads at = Ends
globals_merged (decl ∷ decls) words back lexemes are spells reads at =
    let front = spells.0 in
    let more = spells.1 in
    let here : Reads lexemes (front ++ (more ++ back)) =
    subst (Reads lexemes)
    (ap (λ (all : List Word). all ++ back) spells.4 ∙ append_assoc front more back) reads in
    more_global decl decls front (more ++ back) lexemes [] spells.2 here at.0
    (globals_merged decls more back (past_decl decl lexemes) are.1 spells.3
    (decl_read decl front (more ++ back) lexemes are.0 spells.2 here) at.1)

-- the name of a procedure, and its own names
procedure_merged : (procedure : Procedure) (front back : List Word) (lexemes : List Lexeme)
    (gs : List ℕ) → IsDecl (Defined procedure) → SpellsDecl (Defined procedure) front →
    Reads lexemes (front ++ back) → DeclAt lexemes (Defined procedure) →
    IsMerged (past_decl (Defined procedure) lexemes) gs [] →
    IsMerged lexemes (procedure.name.at ∷ gs) (offsets (own_names procedure))
procedure_merged procedure front back lexemes gs is spells reads at merged =
    by lexemes
    (subst (Reads lexemes) (procedure_words_are (heading_words procedure) spells.0
    (stmt_words procedure.body) front back spells.2) reads) at merged
  where
    params : List Name
    params = flat_map (λ param. param.names) procedure.params

    locals : List Name
    locals = flat_map (λ var. var.names) procedure.locals

    takes : (first : Lexeme) (rest : List Lexeme) (ats : List ℕ) →
        first.kind ≡ tokens.Name →
        IsMerged rest gs ats → IsMerged (first ∷ rest) gs (first.at ∷ ats)
    takes first rest ats named is = TakesLocal first named is

    skips : (first : Lexeme) (rest : List Lexeme) (ats : List ℕ) → IsMerged rest gs ats →
        IsMerged (first ∷ rest) gs ats
    skips first rest ats is = Skips first is

    by : (lexemes : List Lexeme) →
        Reads lexemes (heading_words procedure
        ++ (spells.0 ++ (stmt_words procedure.body ++ back))) →
        DeclAt lexemes (Defined procedure) →
        IsMerged (past_decl (Defined procedure) lexemes) gs [] →
        IsMerged lexemes (procedure.name.at ∷ gs) (offsets (own_names procedure))
    by [] reads at merged = absurd reads
    by (one ∷ []) reads at merged = absurd reads.1
    by (one ∷ two ∷ []) reads at merged = absurd reads.1.1
    by (one ∷ two ∷ three ∷ rest) reads at merged =
        let tail = (params_words procedure.params ++ symbol sym.CloseParen)
        ++ result_words procedure.result ++ symbol sym.Semicolon in
        let behind_it = spells.0 ++ (stmt_words procedure.body ++ back) in
        let here = past (heading_words procedure) (one ∷ two ∷ three ∷ rest) in
        let own_locals : IsMerged here gs (offsets locals ++ []) =
        locals_names (λ rest ats. IsMerged rest gs ats) takes skips procedure.locals spells.0
        (stmt_words procedure.body ++ back) here [] is.1
        (locals_spelled procedure.locals spells.0 spells.1)
        (reads_past (heading_words procedure) behind_it (one ∷ two ∷ three ∷ rest) reads) at.3
        (skip_past (λ rest ats. IsMerged rest gs ats) takes skips (stmt_words procedure.body)
        (past_locals procedure.locals here) [] merged) in
        let own_params : IsMerged rest gs (offsets params ++ (offsets locals ++ [])) =
        params_names (λ rest ats. IsMerged rest gs ats) takes skips procedure.params rest
        (offsets locals ++ [])
        (reads_front (params_words procedure.params) (symbol sym.CloseParen) rest
        (reads_front (params_words procedure.params ++ symbol sym.CloseParen)
        (result_words procedure.result) rest
        (reads_front ((params_words procedure.params ++ symbol sym.CloseParen)
        ++ result_words procedure.result) (symbol sym.Semicolon) rest
        (reads_front tail behind_it rest reads.1.1.1)))) at.1
        (skip_past (λ rest ats. IsMerged rest gs ats) takes skips (symbol sym.CloseParen)
        (past (params_words procedure.params) rest) (offsets locals ++ [])
        (subst (λ (rest : List Lexeme). IsMerged rest gs (offsets locals ++ []))
        (past_both (params_words procedure.params) (symbol sym.CloseParen) rest)
        (skip_past (λ rest ats. IsMerged rest gs ats) takes skips
        (result_words procedure.result)
        (past (params_words procedure.params ++ symbol sym.CloseParen) rest)
        (offsets locals ++ [])
        (subst (λ (rest : List Lexeme). IsMerged rest gs (offsets locals ++ []))
        (past_both (params_words procedure.params ++ symbol sym.CloseParen)
        (result_words procedure.result) rest)
        (skip_past (λ rest ats. IsMerged rest gs ats) takes skips (symbol sym.Semicolon)
        (past ((params_words procedure.params ++ symbol sym.CloseParen)
        ++ result_words procedure.result) rest) (offsets locals ++ [])
        (subst (λ (rest : List Lexeme). IsMerged rest gs (offsets locals ++ []))
        (past_both ((params_words procedure.params ++ symbol sym.CloseParen)
        ++ result_words procedure.result) (symbol sym.Semicolon) rest) own_locals)))))) in
        let all_are : offsets params ++ (offsets locals ++ []) ≡ offsets (own_names procedure) =
        ap (λ back. offsets params ++ back) (append-nil (offsets locals))
        ∙ sym (offsets_both params locals) in
        Skips one
        (name_taken (λ rest ats. IsMerged rest ats (offsets (own_names procedure)))
        (λ first rest ats named is. TakesGlobal first named is)
        (λ first rest ats is. Skips first is) procedure.name two (three ∷ rest) gs reads.1.0 at.0
        (Skips three (subst (IsMerged rest gs) all_are own_params)))

told_merged : (decls : List Decl) (earlier : List Entry) (words back : List Word)
    (lexemes : List Lexeme) → AllByRecursion IsDecl decls → SpellsEach SpellsDecl decls words →
    Reads lexemes (words ++ back) → DeclsAt lexemes decls → (routine : Routine) →
    Among (routines_behind earlier decls) routine →
    IsMerged lexemes (offsets (all_names decls)) (offsets (own_names routine.procedure))
told_merged [] earlier words back lexemes are spells reads at routine m = absurd m
told_merged (decl ∷ decls) earlier words back lexemes are spells reads at routine m =
    by decl are.0 spells.2 at.0 m
    (λ next later. told_merged decls next more back (past_decl decl lexemes) are.1 spells.3
    (decl_read decl front (more ++ back) lexemes are.0 spells.2 here) at.1 routine later)
    (globals_merged decls more back (past_decl decl lexemes) are.1 spells.3
    (decl_read decl front (more ++ back) lexemes are.0 spells.2 here) at.1)
  where
    front : List Word
    front = spells.0

    more : List Word
    more = spells.1

    here : Reads lexemes (front ++ (more ++ back))
    here = subst (Reads lexemes)
        (ap (λ (all : List Word). all ++ back) spells.4 ∙ append_assoc front more back) reads

    by : (decl : Decl) → IsDecl decl → SpellsDecl decl front → DeclAt lexemes decl →
        Among (routines_behind earlier (decl ∷ decls)) routine →
        ((next : List Entry) → Among (routines_behind next decls) routine →
        IsMerged (past_decl decl lexemes) (offsets (all_names decls))
        (offsets (own_names routine.procedure))) →
        IsMerged (past_decl decl lexemes) (offsets (all_names decls)) [] →
        IsMerged lexemes (offsets (all_names (decl ∷ decls)))
        (offsets (own_names routine.procedure))
    by (Config defines) is told where_it m later last =
        more_global (Config defines) decls front (more ++ back) lexemes
        (offsets (own_names routine.procedure)) told here where_it
        (later (with_decl earlier (Config defines)) m)
    by (Constant defines) is told where_it m later last =
        more_global (Constant defines) decls front (more ++ back) lexemes
        (offsets (own_names routine.procedure)) told here where_it
        (later (with_decl earlier (Constant defines)) m)
    by (Regions regions) is told where_it m later last =
        more_global (Regions regions) decls front (more ++ back) lexemes
        (offsets (own_names routine.procedure)) told here where_it
        (later (with_decl earlier (Regions regions)) m)
    by (Directions directions) is told where_it m later last =
        more_global (Directions directions) decls front (more ++ back) lexemes
        (offsets (own_names routine.procedure)) told here where_it
        (later (with_decl earlier (Directions directions)) m)
    by (Vars vars) is told where_it m later last =
        more_global (Vars vars) decls front (more ++ back) lexemes
        (offsets (own_names routine.procedure)) told here where_it
        (later (with_decl earlier (Vars vars)) m)
    by (Defined procedure) is told where_it (inl same) later last =
        subst (λ (one : Procedure). IsMerged lexemes
        (offsets (all_names (Defined procedure ∷ decls))) (offsets (own_names one)))
        (ap (λ (one : Routine). one.procedure) same)
        (procedure_merged procedure front (more ++ back) lexemes (offsets (all_names decls)) is told
        here where_it last)
    by (Defined procedure) is told where_it (inr m) later last =
        more_global (Defined procedure) decls front (more ++ back) lexemes
        (offsets (own_names routine.procedure)) told here where_it
        (later (with_procedure earlier procedure) m)

-- ---- calls

clean_sites : (sites : List Site) → ((site : Site) → Among sites site → HasNoFault site) →
    Each HasNoFault sites
clean_sites [] are = tt
clean_sites (site ∷ sites) are =
    (are site (inl refl), clean_sites sites (λ other m. are other (inr m)))

abbrev calls_of : Program → Routine → List ℕ
calls_of program routine = call_ats (routine_sites program unknown_shapes routine)

skip_one : (decl : Decl) (lexemes : List Lexeme) (ats : List ℕ) →
    IsMerged (past_decl decl lexemes) [] ats → IsMerged lexemes [] ats
skip_one decl lexemes ats merged =
    skip_decl (λ rest ats. IsMerged rest [] ats)
    (λ first rest ats named is. TakesLocal first named is)
    (λ first rest ats is. Skips first is) decl lexemes ats merged

skip_words : (words : List Word) (lexemes : List Lexeme) (ats : List ℕ) →
    IsMerged (past words lexemes) [] ats → IsMerged lexemes [] ats
skip_words words lexemes ats merged =
    skip_past (λ rest ats. IsMerged rest [] ats)
    (λ first rest ats named is. TakesLocal first named is)
    (λ first rest ats is. Skips first is) words lexemes ats merged

skip_variables : (vars : List VarDef) (lexemes : List Lexeme) (ats : List ℕ) →
    IsMerged (past_locals vars lexemes) [] ats → IsMerged lexemes [] ats
skip_variables vars lexemes ats merged =
    skip_locals (λ rest ats. IsMerged rest [] ats)
    (λ first rest ats named is. TakesLocal first named is)
    (λ first rest ats is. Skips first is) vars lexemes ats merged

module _ (program : Program) (routine : Routine)
    (clean : Each HasNoFault (routine_sites program unknown_shapes routine)) where
  own_calls : (procedure : Procedure) → procedure ≡ routine.procedure →
      (front back : List Word) (lexemes : List Lexeme) → IsDecl (Defined procedure) →
      SpellsDecl (Defined procedure) front → Reads lexemes (front ++ back) →
      DeclAt lexemes (Defined procedure) → IsMerged lexemes [] (calls_of program routine)
  own_calls procedure same front back lexemes is spells reads at =
      let heading = heading_words procedure in
      let here = past heading lexemes in
      let body = stmt_words procedure.body in
      let read = reads_past heading (spells.0 ++ (body ++ back)) lexemes
      (subst (Reads lexemes)
      (procedure_words_are heading spells.0 body front back spells.2) reads) in
      let inside = past_locals procedure.locals here in
      let reads_body : Reads inside body =
      reads_front body back inside
      (locals_read procedure.locals spells.0 (body ++ back) here is.1
      (locals_spelled procedure.locals spells.0 spells.1) read) in
      let reach = in_body (scope_of program routine) unknown_shapes in
      let all_are : call_ats (outermost_sites reach procedure.result procedure.body) ++ [] ≡
      calls_of program routine =
      append-nil (call_ats (outermost_sites reach procedure.result procedure.body))
      ∙ ap (λ (one : Procedure). call_ats (outermost_sites reach one.result one.body)) same in
      let clean_here : Each HasNoFault (outermost_sites reach procedure.result procedure.body) =
      subst (λ (one : Procedure). Each HasNoFault (outermost_sites reach one.result one.body))
      (sym same) clean in
      skip_words heading lexemes (calls_of program routine)
      (skip_variables procedure.locals here (calls_of program routine)
      (subst (IsMerged inside []) all_are
      (outermost_taken (λ rest ats. IsMerged rest [] ats)
      (λ first rest ats named is. TakesLocal first named is)
      (λ first rest ats is. Skips first is) procedure.result procedure.body reach inside []
      clean_here reads_body at.4 Ends)))

  calls_merged : (decls : List Decl) (earlier : List Entry) (words back : List Word)
      (lexemes : List Lexeme) → AllByRecursion IsDecl decls → SpellsEach SpellsDecl decls words →
      Reads lexemes (words ++ back) → DeclsAt lexemes decls →
      Among (routines_behind earlier decls) routine →
      IsMerged lexemes [] (calls_of program routine)
  calls_merged [] earlier words back lexemes are spells reads at m = absurd m
  calls_merged (decl ∷ decls) earlier words back lexemes are spells reads at m =
      by decl are.0 spells.2 at.0 m
      (λ next later. calls_merged decls next more back (past_decl decl lexemes) are.1 spells.3
      (decl_read decl front (more ++ back) lexemes are.0 spells.2 here) at.1 later)
    where
      front : List Word
      front = spells.0

      more : List Word
      more = spells.1

      here : Reads lexemes (front ++ (more ++ back))
      here = subst (Reads lexemes)
          (ap (λ (all : List Word). all ++ back) spells.4 ∙ append_assoc front more back) reads

      by : (decl : Decl) → IsDecl decl → SpellsDecl decl front → DeclAt lexemes decl →
          Among (routines_behind earlier (decl ∷ decls)) routine →
          ((next : List Entry) → Among (routines_behind next decls) routine →
          IsMerged (past_decl decl lexemes) [] (calls_of program routine)) →
          IsMerged lexemes [] (calls_of program routine)
      by (Config defines) is told where_it m later =
          skip_one (Config defines) lexemes (calls_of program routine)
          (later (with_decl earlier (Config defines)) m)
      by (Constant defines) is told where_it m later =
          skip_one (Constant defines) lexemes (calls_of program routine)
          (later (with_decl earlier (Constant defines)) m)
      by (Regions regions) is told where_it m later =
          skip_one (Regions regions) lexemes (calls_of program routine)
          (later (with_decl earlier (Regions regions)) m)
      by (Directions directions) is told where_it m later =
          skip_one (Directions directions) lexemes (calls_of program routine)
          (later (with_decl earlier (Directions directions)) m)
      by (Vars vars) is told where_it m later =
          skip_one (Vars vars) lexemes (calls_of program routine)
          (later (with_decl earlier (Vars vars)) m)
      by (Defined procedure) is told where_it (inl same) later =
          own_calls procedure (ap (λ (one : Routine). one.procedure) same) front (more ++ back)
          lexemes is told here where_it
      by (Defined procedure) is told where_it (inr m) later =
          skip_one (Defined procedure) lexemes (calls_of program routine)
          (later (with_procedure earlier procedure) m)

-- ---- a parsed program

pub parsed_told : (text : List ℕ) (tokens : List Token) (program : Program) →
    AreSpans text 0 tokens → IsTreeOf text tokens program → IsFaultless program →
    (routine : Routine) → Among (routines_of program) routine → IsToldApart program routine
parsed_told text tokens program spans tree clean routine m =
    let spells = tree.spelled.spells in
    let lexemes = lexemes_of text tokens in
    let first = keyword key.Program ++ name_words program.name ++ symbol sym.Semicolon in
    let reads : Reads lexemes (first ++ (spells.0 ++ word.End ∷ [])) =
    subst (Reads lexemes) spells.3 (reads_words text tokens tree.spelled.words tree.spelled.are) in
    let inner = past first lexemes in
    let read = reads_past first (spells.0 ++ word.End ∷ []) lexemes reads in
    let own = offsets (own_names routine.procedure) in
    let all = offsets (all_names program.decls) in
    let names = told_merged program.decls [] spells.0 (word.End ∷ []) inner spells.1 spells.2 read
    tree.offsets.1 routine m in
    let calls = calls_merged program routine
    (clean_sites (routine_sites program unknown_shapes routine)
    (λ site there. clean-routine program clean unknown_shapes routine m site there))
    program.decls [] spells.0 (word.End ∷ []) inner spells.1 spells.2 read tree.offsets.1 m in
    let ordered = in_order text 0 tokens spans in
    record {
      names = subst (λ front. AreApart (front ++ own))
          (sym (names_at (globals_of program)
          ∙ ap offsets (globals_named program)))
          (merged_apart lexemes all own
          (skip_past (λ rest ats. IsMerged rest ats own)
          (λ first rest ats named is. TakesGlobal first named is)
          (λ first rest ats is. Skips first is) first lexemes all names) 0 ordered);
      calls = merged_apart lexemes [] (calls_of program routine)
          (skip_words first lexemes (calls_of program routine) calls) 0 ordered;
    }
  where
    names_at : (entries : List Entry) →
        map (λ (entry : Entry). entry.name.at) entries ≡
        offsets (map (λ (entry : Entry). entry.name) entries)
    names_at [] = refl
    names_at (entry ∷ entries) = ap (λ rest. entry.name.at ∷ rest) (names_at entries)
