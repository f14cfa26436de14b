-- Where declarations and whole programs stand.
use Rattle.std.proofs.Common.{◌≡◌, ℕ, zero, suc, Bool, true, false, List, [], ◌∷◌, ◌++◌, Option, Some, None, refl, sym, ap, subst, ◌∙◌}
use Rattle.std.specs.Bool.{⊤}
use Rattle.std.specs.List.{flat_map}
use Rattle.zpl_tokens.specs.declared.Kind.{Kind}
use Rattle.zpl_tokens.specs.declared.Kind.TheVariants as kind
use Rattle.zpl_tokens.specs.declared.keywords.Key.TheVariants as key
use Rattle.zpl_tokens.specs.declared.symbols.Sym.TheVariants as sym
use Rattle.zpl_tree.specs.Syntax.{Name, Expr, NoPost, Inner, Posts, Stmt, Prefixed, Block, Base, Other, RegionDef, VarDef, Param, Decl, Config, Constant, Regions, Directions, Vars, Defined, Program}
use Rattle.zpl_tree.specs.Spelling.{symbol, in_round, in_square, inner_words, posts_words, names_words, bracket_words, prefix_words, type_words, define_words, region_words, direction_words, var_words, param_words, result_words, params_words, heading_words, stmt_words}
use Rattle.zpl_tree.specs.Grammar.{bare_words, IsDefine, IsDirection, IsVar}
use Rattle.zpl_tree.specs.Depth.{define_depth, direction_depth, var_depth}
use Rattle.zpl_tree.specs.Word.{Word}
use Rattle.zpl_parse.specs.declared.classes.Part.{Part}
use Rattle.zpl_parse.specs.declared.classes.Part.TheVariants as part
use Rattle.zpl_grammar.specs.Lexeme.{Lexeme, head_kind, head_at, behind}
use Rattle.zpl_parse.specs.Outcome.{Done, Reader}
use Rattle.zpl_parse.specs.Classes.{part_of}
use Rattle.zpl_grammar.specs.Same.{same}
use Rattle.zpl_parse.specs.Tokens.{next_is}
use Rattle.zpl_parse.specs.Expressions.{levels}
use Rattle.zpl_parse.specs.Statements.{stmts, stmt}
use Rattle.zpl_parse.specs.Declarations.{base, group, define, region_body, region, direction, variables, formals, param, some_params, params, result, locals, body, procedure, decl_by, decls, program}
use Rattle.zpl_grammar.specs.Offsets.{past, opens, EachAt, SeparatedAt, NameAt, ExprAt, StmtAt, TypeAt, DefineAt, BodyAt, RegionAt, region_spelling, past_region, RegionsAt, past_regions, DirectionAt, VarAt, formal_of, ParamAt, ResultAt, grouped, LocalsAt, past_locals, DeclAt, past_decl, DeclsAt, ProgramAt}
use Rattle.zpl_parse.proofs.Sound.Base.{IsSound, Spelled}
use Rattle.zpl_parse.proofs.Sound.Tokens.{same_is_name, name_sound, names_sound}
use Rattle.zpl_parse.proofs.Sound.Expressions.{IsGood, SaysExpr, levels_sound, in_bracket_sound, posts_sound, rexpr_sound, bracket_sound}
use Rattle.zpl_parse.proofs.Sound.Statements.{prefixes_sound, stmt_sound}
use Rattle.zpl_parse.proofs.Sound.Declarations.{base_sound, group_sound, define_sound, direction_sound, variables_sound, param_sound, params_sound, result_sound, body_sound, program_over}
use Rattle.zpl_parse.proofs.Placed.Base.{IsAt, done_at, wrong_at, past_append, then_at, step_at, finish_at, last_at, choose_at, sign_at, name_at, names_at, lands_at, end_at}
use Rattle.zpl_parse.proofs.Placed.Expressions.{levels_at, components_at, in_bracket_at, posts_at, rexpr_at, bracket_at}
use Rattle.zpl_parse.proofs.Placed.Statements.{prefixes_at, body_end_at, stmts_at, stmt_at}

base_at : (lexemes : List Lexeme) → IsAt (λ base rest. TypeAt lexemes base) (base lexemes)
base_at lexemes = choose_at (next_is (kind.Word key.Integer) lexemes) (λ is. done_at tt)
    (λ other. choose_at (next_is (kind.Word key.Boolean) lexemes) (λ is. done_at tt) (λ named.
    finish_at Other (name_at lexemes) (λ called rest here. here)))

group_at : {A : Type 0} (At : List Lexeme → A → Type 0) (spelling : A → List Word) (Is : A
    → Type 0) (definition : Reader A) →
    ((lexemes : List Lexeme) → IsSound (Spelled spelling Is) lexemes (definition lexemes))
    → ((lexemes : List Lexeme) → IsAt (λ x rest. At lexemes x) (definition lexemes)) →
    (most : ℕ) (lexemes : List Lexeme)
    → IsAt (λ xs rest. EachAt At spelling lexemes xs) (group most definition lexemes)
group_at At spelling Is definition sound at zero lexemes = wrong_at
group_at At spelling Is definition sound at (suc most) lexemes =
    step_at _ (sound lexemes) (at lexemes) (λ first here.
    choose_at (next_is kind.Name (past (spelling first) lexemes))
    (λ begins. finish_at (λ others. first ∷ others) (group_at At spelling Is definition sound at
    most (past (spelling first) lexemes)) (λ others rest there. (here, there)))
    (λ other. done_at (here, tt)))

-- a group of local variables, of which none but the first has a `var` before it
abbrev LaterAt : List Lexeme → List VarDef → Type 0
LaterAt lexemes [] = ⊤
LaterAt lexemes (var ∷ vars) = (next_is (kind.Word key.Var) lexemes ≡ false) × VarAt lexemes var ×
    LaterAt (past (var_words var) lexemes) vars

abbrev GroupAt : List Lexeme → List VarDef → Type 0
GroupAt lexemes [] = ⊥
GroupAt lexemes (var ∷ vars) = VarAt lexemes var × LaterAt (past (var_words var) lexemes) vars

no_var : (lexemes : List Lexeme) → next_is kind.Name lexemes ≡ true
    → next_is (kind.Word key.Var) lexemes ≡ false
no_var [] begins = refl
no_var (first ∷ rest) begins =
    ap (λ (k : Kind). same k (kind.Word key.Var)) (same_is_name first.kind begins)

later_at : (lexemes : List Lexeme) (vars : List VarDef) → next_is kind.Name lexemes ≡ true
    → GroupAt lexemes vars → LaterAt lexemes vars
later_at lexemes [] begins at = absurd at
later_at lexemes (var ∷ vars) begins at = (no_var lexemes begins, at.0, at.1)

-- the position of a later one
later_locals : (lexemes : List Lexeme) (vars others : List VarDef) → LaterAt lexemes vars
    → LocalsAt (past (flat_map var_words vars) lexemes) others → LocalsAt lexemes (vars ++ others)
later_locals lexemes [] others at more = more
later_locals lexemes (var ∷ vars) others at more =
    let stays : grouped lexemes ≡ lexemes = ap (λ (b : Bool). formal_of b lexemes) at.0 in
    let next : LocalsAt (past (var_words var) lexemes) (vars ++ others) =
    later_locals (past (var_words var) lexemes) vars others at.2
    (subst (λ (l : List Lexeme). LocalsAt l others)
    (past_append (var_words var) (flat_map var_words vars) lexemes) more) in (
      subst (λ (l : List Lexeme). VarAt l var) (sym stays) at.1,
      subst (λ (l : List Lexeme). LocalsAt (past (var_words var) l) (vars ++ others)) (sym stays)
          next,
    )

later_past : (lexemes : List Lexeme) (vars others : List VarDef) → LaterAt lexemes vars
    → past_locals (vars ++ others) lexemes
    ≡ past_locals others (past (flat_map var_words vars) lexemes)
later_past lexemes [] others at = refl
later_past lexemes (var ∷ vars) others at =
    let stays : grouped lexemes ≡ lexemes = ap (λ (b : Bool). formal_of b lexemes) at.0 in
    ap (λ (l : List Lexeme). past_locals (vars ++ others) (past (var_words var) l)) stays
    ∙ (later_past (past (var_words var) lexemes) vars others at.2
    ∙ ap (λ (l : List Lexeme). past_locals others l)
    (sym (past_append (var_words var) (flat_map var_words vars) lexemes)))

-- a whole group behind its `var`, and what follows it
abbrev LocalsTo : List Lexeme → List VarDef → List Lexeme → Type 0
LocalsTo lexemes vars rest = LocalsAt lexemes vars × (rest ≡ past_locals vars lexemes)

group_locals : (lexemes : List Lexeme) (vars others : List VarDef) (rest : List Lexeme)
    → next_is (kind.Word key.Var) lexemes ≡ true → GroupAt (behind lexemes) vars →
    LocalsTo (past (flat_map var_words vars) (behind lexemes)) others rest
    → LocalsTo lexemes (vars ++ others) rest
group_locals lexemes [] others rest begins at more = absurd at
group_locals lexemes (var ∷ vars) others rest begins at more =
    let goes : grouped lexemes ≡ behind lexemes = ap (λ (b : Bool). formal_of b lexemes) begins in
    let to : LocalsTo (past (flat_map var_words vars) (past (var_words var) (behind lexemes)))
    others rest =
    subst (λ (l : List Lexeme). LocalsTo l others rest)
    (past_append (var_words var) (flat_map var_words vars) (behind lexemes)) more in
    let locals_there : LocalsAt (past (var_words var) (behind lexemes)) (vars ++ others) =
    later_locals (past (var_words var) (behind lexemes)) vars others at.1 to.0 in (
      (
        subst (λ (l : List Lexeme). VarAt l var) (sym goes) at.0,
        subst (λ (l : List Lexeme). LocalsAt (past (var_words var) l) (vars ++ others)) (sym goes)
            locals_there,
      ),
      to.1 ∙ (sym (later_past (past (var_words var) (behind lexemes)) vars others at.1)
          ∙ ap (λ (l : List Lexeme). past_locals (vars ++ others) (past (var_words var) l))
          (sym goes)),
    )

-- where what stands behind a heading begins
past_heading : (defined : Name) (those : List Param) (type : Option Base) (own : List VarDef)
    (what : Stmt) (lexemes : List Lexeme) →
    behind (past (result_words type) (past (in_round (params_words those))
    (behind (behind lexemes))))
    ≡ past (heading_words (record {
      name = defined;
      params = those;
      result = type;
      locals =
          own;
      body = what;
    })) lexemes
past_heading defined those type own what lexemes =
    let first =
    past_append (in_round (params_words those)) (result_words type) (behind (behind lexemes)) in
    let both =
    past_append (in_round (params_words those) ++ result_words type) (symbol sym.Semicolon)
    (behind (behind lexemes)) in
    sym (both ∙ ap behind first)

-- and what stands behind a region's definition
past_bracketed : (defined : Name) (inner : Inner) (those : Posts) (lexemes : List Lexeme) →
    behind (past (posts_words those) (past (in_square (inner_words inner))
    (behind (behind lexemes))))
    ≡ past (region_words (record { name = defined; body = inner; posts = those })) lexemes
past_bracketed defined inner those lexemes =
    let first =
    past_append (in_square (inner_words inner)) (posts_words those) (behind (behind lexemes)) in
    let both =
    past_append (in_square (inner_words inner) ++ posts_words those) (symbol sym.Semicolon)
    (behind (behind lexemes)) in
    sym (both ∙ ap behind first)

past_bare : (defined : Name) (inner : Inner) (lexemes : List Lexeme) →
    behind (past (inner_words inner) (behind (behind lexemes)))
    ≡ past (bare_words (record { name = defined; body = inner; posts = NoPost })) lexemes
past_bare defined inner lexemes =
    sym (past_append (inner_words inner) (symbol sym.Semicolon) (behind (behind lexemes)))

-- a region's definition, and where what follows its `;` begins
abbrev RegionTo : List Lexeme → RegionDef → List Lexeme → Type 0
RegionTo lexemes region rest = RegionAt lexemes region × (rest ≡ past_region region lexemes)

bracketed_to : (lexemes : List Lexeme) (defined : Name) (inner : Inner) (those : Posts)
    (rest : List Lexeme) → opens (behind (behind lexemes)) ≡ true → NameAt lexemes defined →
    BodyAt true (behind (behind lexemes)) (record { name = defined; body = inner; posts = those })
    → rest ≡ past (posts_words those) (past (in_square (inner_words inner))
    (behind (behind lexemes))) →
    RegionTo lexemes (record { name = defined; body = inner; posts = those }) (behind rest)
bracketed_to lexemes defined inner those rest begins here there lands =
    let region : RegionDef = record { name = defined; body = inner; posts = those } in (
      (here, subst (λ (b : Bool). BodyAt b (behind (behind lexemes)) region) (sym begins) there),
      ap behind lands ∙ (past_bracketed defined inner those lexemes
          ∙ ap (λ (b : Bool). past (region_spelling b region) lexemes) (sym begins)),
    )

bare_to : (lexemes : List Lexeme) (defined : Name) (inner : Inner) (rest : List Lexeme)
    → opens (behind (behind lexemes)) ≡ false → NameAt lexemes defined →
    BodyAt false (behind (behind lexemes)) (record { name = defined; body = inner; posts = NoPost })
    → rest ≡ past (inner_words inner) (behind (behind lexemes)) →
    RegionTo lexemes (record { name = defined; body = inner; posts = NoPost }) (behind rest)
bare_to lexemes defined inner rest begins here there lands =
    let region : RegionDef = record { name = defined; body = inner; posts = NoPost } in (
      (here, subst (λ (b : Bool). BodyAt b (behind (behind lexemes)) region) (sym begins) there),
      ap behind lands
          ∙ (past_bare defined inner lexemes
          ∙ ap (λ (b : Bool). past (region_spelling b region) lexemes) (sym begins)),
    )

-- a declaration, and where what follows it begins
abbrev DeclTo : List Lexeme → Decl → List Lexeme → Type 0
DeclTo lexemes decl rest = DeclAt lexemes decl × (rest ≡ past_decl decl lexemes)

procedure_to : (lexemes : List Lexeme) (defined : Name) (those : List Param) (type : Option Base)
    (own : List VarDef) (what : Stmt) (last rest : List Lexeme) → NameAt (behind lexemes) defined →
    SeparatedAt ParamAt param_words (behind (behind (behind lexemes))) those
    → ResultAt (past (in_round (params_words those)) (behind (behind lexemes))) type →
    LocalsTo (behind
    (past (result_words type) (past (in_round (params_words those)) (behind (behind lexemes)))))
    own last → StmtAt last what × (rest ≡ past (stmt_words what) last) →
    DeclTo lexemes (Defined (record {
      name = defined;
      params = those;
      result = type;
      locals =
          own;
      body = what;
    })) rest
procedure_to lexemes defined those type own what last rest here at_params at_type to there =
    let heading = past_heading defined those type own what lexemes in
    let begin = to.1 ∙ ap (λ (l : List Lexeme). past_locals own l) heading in (
      (
        here,
        at_params,
        at_type,
        subst (λ (l : List Lexeme). LocalsAt l own) heading to.0,
        subst (λ (l : List Lexeme). StmtAt l what) begin there.0,
      ),
      there.1 ∙ ap (λ (l : List Lexeme). past (stmt_words what) l) begin,
    )

-- the rules over one of expressions
module _ (d : ℕ) (expr : Reader Expr) (sound : (lexemes : List Lexeme)
    → IsSound (SaysExpr 0 d) lexemes (expr lexemes))
    (at : (lexemes : List Lexeme) → IsAt (λ tree rest. ExprAt lexemes tree) (expr lexemes)) where
  define_at : (lexemes : List Lexeme)
      → IsAt (λ define rest. DefineAt lexemes define) (define expr lexemes)
  define_at lexemes =
      step_at _ (name_sound lexemes) (name_at lexemes) (λ defined here.
      sign_at (kind.Symbol sym.Colon) (behind lexemes) _
      (step_at _ (base_sound (behind (behind lexemes))) (base_at (behind (behind lexemes)))
      (λ type there.
      sign_at (kind.Symbol sym.Equal) (past (type_words type) (behind (behind lexemes))) _
      (then_at (at (behind (past (type_words type) (behind (behind lexemes))))) (λ value rest last.
      last_at _ _ (λ end left. (here, there, last)))))))

  region_body_at : (most : ℕ) (defined : Name) (lexemes : List Lexeme) → NameAt lexemes defined
      → IsAt (λ region rest. RegionTo lexemes region (behind rest))
      (region_body most expr defined (behind (behind lexemes)))
  region_body_at most defined lexemes here = choose_at (opens (behind (behind lexemes)))
      (λ begins. step_at _ (in_bracket_sound d expr sound most (behind (behind lexemes)))
      (in_bracket_at d expr sound at most (behind (behind lexemes))) (λ inner inside.
      let after : List Lexeme = past (in_square (inner_words inner)) (behind (behind lexemes)) in
      finish_at (λ those. record {
        name = defined;
        body = inner;
        posts =
            those;
      }) (lands_at (posts_sound d expr sound most after)
      (posts_at d expr sound at most after)) (λ those rest there.
      bracketed_to lexemes defined inner those rest begins here (inside, there.0) there.1)))
      (λ other. finish_at (λ inner. record { name = defined; body = inner; posts = NoPost })
      (lands_at (rexpr_sound d expr sound most (behind (behind lexemes)))
      (rexpr_at d expr sound at most (behind (behind lexemes)))) (λ inner rest there.
      bare_to lexemes defined inner rest other here (there.0, tt) there.1))

  region_at : (most : ℕ) (lexemes : List Lexeme)
      → IsAt (λ region rest. RegionTo lexemes region rest) (region most expr lexemes)
  region_at most lexemes =
      step_at _ (name_sound lexemes) (name_at lexemes) (λ defined here.
      sign_at (kind.Symbol sym.Equal) (behind lexemes) _
      (then_at (region_body_at most defined lexemes here) (λ definition last to.
      end_at (kind.Symbol sym.Semicolon) last definition to)))

  regions_at : (turns most : ℕ) (lexemes : List Lexeme)
      → IsAt (λ those rest. RegionsAt lexemes those × (rest ≡ past_regions those lexemes))
      (group turns (region most expr) lexemes)
  regions_at zero most lexemes = wrong_at
  regions_at (suc turns) most lexemes =
      then_at (region_at most lexemes) (λ first rest here. choose_at (next_is kind.Name rest)
      (λ begins. finish_at (λ others. first ∷ others) (regions_at turns most rest)
      (λ others left there. (
        (here.0, subst (λ (l : List Lexeme). RegionsAt l others) here.1 there.0),
        there.1
            ∙ ap (λ (l : List Lexeme). past_regions others l) here.1,
      )))
      (λ other. done_at ((here.0, tt), here.1)))

  direction_at : (most : ℕ) (lexemes : List Lexeme)
      → IsAt (λ direction rest. DirectionAt lexemes direction) (direction most expr lexemes)
  direction_at most lexemes =
      step_at _ (name_sound lexemes) (name_at lexemes) (λ defined here.
      sign_at (kind.Symbol sym.Equal) (behind lexemes) _
      (sign_at (kind.Symbol sym.OpenBracket) (behind (behind lexemes)) _
      (then_at (components_at d expr sound at most (behind (behind (behind lexemes))))
      (λ parts rest there. last_at _ _ (λ end left. (here, there))))))

  variables_at : (most : ℕ) (lexemes : List Lexeme)
      → IsAt (λ var rest. VarAt lexemes var) (variables most expr lexemes)
  variables_at most lexemes =
      step_at _ (names_sound most lexemes) (names_at most lexemes) (λ those here.
      sign_at (kind.Symbol sym.Colon) (past (names_words those) lexemes) _
      (step_at _ (bracket_sound d expr sound most (behind (past (names_words those) lexemes)))
      (bracket_at d expr sound at most (behind (past (names_words those) lexemes)))
      (λ shape there.
      then_at (base_at (past (bracket_words shape) (behind (past (names_words those) lexemes))))
      (λ type rest last. last_at _ _ (λ end left. (here, (there, last)))))))

  formals_at : (most : ℕ) (by_ref : Bool) (lexemes : List Lexeme)
      → IsAt (λ param rest. ParamAt lexemes param)
      (formals most expr by_ref (formal_of by_ref lexemes))
  formals_at most by_ref lexemes =
      let begin : List Lexeme = formal_of by_ref lexemes in
      step_at _ (names_sound most begin) (names_at most begin) (λ those here.
      sign_at (kind.Symbol sym.Colon) (past (names_words those) begin) _
      (step_at _ (bracket_sound d expr sound most (behind (past (names_words those) begin)))
      (bracket_at d expr sound at most (behind (past (names_words those) begin)))
      (λ shape there.
      finish_at (λ type. record {
        by_ref = by_ref;
        names = those;
        shape = shape;
        base =
            type;
      }) (base_at (past (bracket_words shape) (behind (past (names_words those) begin))))
      (λ type rest last. (here, (there, last))))))

  param_at : (most : ℕ) (lexemes : List Lexeme)
      → IsAt (λ param rest. ParamAt lexemes param) (param most expr lexemes)
  param_at most lexemes =
      choose_at (next_is (kind.Word key.Var) lexemes) (λ begins. formals_at most true lexemes)
      (λ other. formals_at most false lexemes)

  some_params_at : (most : ℕ) (lexemes : List Lexeme)
      → IsAt (λ those rest. SeparatedAt ParamAt param_words lexemes those)
      (some_params most expr lexemes)
  some_params_at zero lexemes = wrong_at
  some_params_at (suc most) lexemes =
      step_at _ (param_sound d expr sound most lexemes) (param_at most lexemes) (λ first here.
      choose_at (next_is (kind.Symbol sym.Semicolon) (past (param_words first) lexemes))
      (λ more. finish_at (λ others. first ∷ others) (some_params_at most _) (λ others rest there.
      (here, there)))
      (λ other. done_at (here, tt)))

  params_at : (most : ℕ) (lexemes : List Lexeme)
      → IsAt (λ those rest. SeparatedAt ParamAt param_words lexemes those)
      (params most expr lexemes)
  params_at most lexemes =
      choose_at (next_is (kind.Symbol sym.CloseParen) lexemes) (λ closes. done_at tt)
      (λ other. then_at (some_params_at most lexemes) (λ those rest here.
      last_at _ _ (λ end left. here)))

  result_at : (lexemes : List Lexeme) → IsAt (λ type rest. ResultAt lexemes type) (result lexemes)
  result_at lexemes =
      choose_at (next_is (kind.Symbol sym.Colon) lexemes) (λ begins.
      finish_at Some (base_at (behind lexemes)) (λ type rest here. here)) (λ other. done_at tt)

  body_at : (most deep : ℕ) (lexemes : List Lexeme)
      → IsAt (λ what rest. StmtAt lexemes what) (body most expr deep lexemes)
  body_at most deep lexemes =
      step_at _ (prefixes_sound d expr sound most lexemes)
      (prefixes_at d expr sound at most lexemes) (λ before here.
      let begin : List Lexeme = past (flat_map prefix_words before) lexemes in
      sign_at (kind.Word key.Begin) begin _
      (finish_at (λ those. Prefixed (head_at begin) before (Block those))
      (body_end_at d expr sound at (stmts most (stmt most expr deep))
      (stmts_at d expr sound at deep (stmt most expr deep) (stmt_sound d expr sound most deep)
      (stmt_at d expr sound at most deep) most) (behind begin)) (λ those rest there.
      (here, refl, there))))

  -- a group of local variables, and all groups
  group_vars_at : (turns most : ℕ) (lexemes : List Lexeme)
      → IsAt (λ those rest. GroupAt lexemes those) (group turns (variables most expr) lexemes)
  group_vars_at zero most lexemes = wrong_at
  group_vars_at (suc turns) most lexemes =
      step_at _ (variables_sound d expr sound most lexemes) (variables_at most lexemes)
      (λ first here.
      let rest : List Lexeme = past (var_words first) lexemes in
      choose_at (next_is kind.Name rest)
      (λ begins. finish_at (λ others. first ∷ others) (group_vars_at turns most rest)
      (λ others left there. (here, later_at rest others begins there)))
      (λ other. done_at (here, tt)))

  locals_at : (most : ℕ) (lexemes : List Lexeme)
      → IsAt (λ vars rest. LocalsTo lexemes vars rest) (locals most expr lexemes)
  locals_at zero lexemes = wrong_at
  locals_at (suc most) lexemes = choose_at (next_is (kind.Word key.Var) lexemes)
      (λ begins. step_at _ (group_sound var_words IsVar var_depth d (variables most expr)
      (variables_sound d expr sound most) most (behind lexemes))
      (group_vars_at most most (behind lexemes)) (λ first here.
      finish_at (λ others. first ++
      others) (locals_at most (past (flat_map var_words first) (behind lexemes)))
      (λ others rest there. group_locals lexemes first others rest begins here there)))
      (λ other. done_at (tt, refl))

  procedure_at : (most deep : ℕ) (lexemes : List Lexeme)
      → IsAt (λ procedure rest. DeclTo lexemes (Defined procedure) rest)
      (procedure most expr deep (behind lexemes))
  procedure_at most deep lexemes =
      step_at _ (name_sound (behind lexemes)) (name_at (behind lexemes)) (λ defined here.
      sign_at (kind.Symbol sym.OpenParen) (behind (behind lexemes)) _
      (step_at _ (params_sound d expr sound most (behind (behind (behind lexemes))))
      (params_at most (behind (behind (behind lexemes)))) (λ those at_params.
      let behind_params : List Lexeme =
      past (in_round (params_words those)) (behind (behind lexemes)) in
      step_at _ (result_sound d expr sound behind_params) (result_at behind_params) (λ type at_type.
      sign_at (kind.Symbol sym.Semicolon) (past (result_words type) behind_params) _
      (then_at (locals_at most (behind (past (result_words type) behind_params))) (λ own last to.
      finish_at (λ what. record {
        name = defined;
        params = those;
        result = type;
        locals =
            own;
        body = what;
      }) (lands_at (body_sound d expr sound most deep last)
      (body_at most deep last)) (λ what rest there.
      procedure_to lexemes defined those type own what last rest here at_params at_type to
      there)))))))

  decl_by_at : (most deep : ℕ) (p : Option Part) (lexemes : List Lexeme)
      → IsAt (λ decl rest. DeclTo lexemes decl rest) (decl_by most expr deep p lexemes)
  decl_by_at most deep None lexemes = wrong_at
  decl_by_at most deep (Some part.Config) lexemes = sign_at (kind.Word key.Var) (behind lexemes) _
      (finish_at Config (lands_at (group_sound define_words IsDefine define_depth d (define expr)
      (define_sound d expr sound) most (behind (behind lexemes)))
      (group_at DefineAt define_words (IsGood IsDefine define_depth d) (define expr)
      (define_sound d expr sound) define_at most (behind (behind lexemes))))
      (λ those rest there. there))
  decl_by_at most deep (Some part.Constant) lexemes =
      finish_at Constant (lands_at (group_sound define_words IsDefine define_depth d (define expr)
      (define_sound d expr sound) most (behind lexemes))
      (group_at DefineAt define_words (IsGood IsDefine define_depth d) (define expr)
      (define_sound d expr sound) define_at most (behind lexemes))) (λ those rest there. there)
  decl_by_at most deep (Some part.Region) lexemes =
      finish_at Regions (regions_at most most (behind lexemes)) (λ those rest there. there)
  decl_by_at most deep (Some part.Direction) lexemes =
      finish_at Directions
      (lands_at (group_sound direction_words IsDirection direction_depth d (direction most expr)
      (direction_sound d expr sound most) most (behind lexemes))
      (group_at DirectionAt direction_words (IsGood IsDirection direction_depth d)
      (direction most expr) (direction_sound d expr sound most) (direction_at most) most
      (behind lexemes))) (λ those rest there. there)
  decl_by_at most deep (Some part.Var) lexemes =
      finish_at Vars (lands_at (group_sound var_words IsVar var_depth d (variables most expr)
      (variables_sound d expr sound most) most (behind lexemes))
      (group_at VarAt var_words (IsGood IsVar var_depth d) (variables most expr)
      (variables_sound d expr sound most) (variables_at most) most (behind lexemes)))
      (λ those rest there. there)
  decl_by_at most deep (Some part.Procedure) lexemes =
      finish_at Defined (procedure_at most deep lexemes) (λ procedure rest there. there)

  decls_at : (most deep : ℕ) (lexemes : List Lexeme)
      → IsAt (λ those rest. DeclsAt lexemes those) (decls most expr deep lexemes)
  decls_at zero deep lexemes = wrong_at
  decls_at (suc most) deep lexemes = choose_at (next_is kind.End lexemes) (λ ends. done_at tt)
      (λ other. then_at (decl_by_at most deep (part_of (head_kind lexemes)) lexemes)
      (λ first rest here.
      finish_at (λ others. first ∷ others) (decls_at most deep rest) (λ others left there.
      (here.0, subst (λ (l : List Lexeme). DeclsAt l others) here.1 there))))

  program_over_at : (source : List ℕ) (most deep : ℕ) (lexemes : List Lexeme)
      → IsAt (λ tree rest. ProgramAt lexemes tree) (program_over source most expr deep lexemes)
  unfolding program_over
  program_over_at source most deep lexemes = sign_at (kind.Word key.Program) lexemes _
      (step_at _ (name_sound (behind lexemes)) (name_at (behind lexemes)) (λ called here.
      sign_at (kind.Symbol sym.Semicolon) (behind (behind lexemes)) _
      (finish_at (λ those. record {
        name = called;
        decls = those;
        source =
            source;
      }) (decls_at most deep (behind (behind (behind lexemes)))) (λ those rest there.
      (here, there)))))

program_at : (source : List ℕ) (most : ℕ) (lexemes : List Lexeme)
    → IsAt (λ tree rest. ProgramAt lexemes tree) (program source most lexemes)
unfolding program_over
program_at source most lexemes =
    program_over_at 200 (levels most 200).expr (levels_sound most 200).expr
    (levels_at most 200).expr source most 199 lexemes

-- The offsets in what the rule of programs makes of lexemes are those of the lexemes.
pub program_is_placed : (source : List ℕ) (most : ℕ) (lexemes : List Lexeme) (tree : Program)
    (rest : List Lexeme) → program source most lexemes ≡ Done tree rest → ProgramAt lexemes tree
program_is_placed source most lexemes tree rest done =
    let at : IsAt (λ tree rest. ProgramAt lexemes tree) (Done tree rest) =
    subst (IsAt (λ tree rest. ProgramAt lexemes tree)) done (program_at source most lexemes) in
    at.holds
