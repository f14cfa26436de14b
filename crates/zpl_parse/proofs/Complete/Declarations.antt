-- The rules of declarations are complete: words of a declaration of the grammar are read as one of
-- the same shape, or are too deep.
use Rattle.std.proofs.Common.{◌≡◌, ℕ, suc, zero, ◌+◌, ◌<◌, ◌≤◌, max, Bool, true, false, List, [], ◌∷◌, ◌++◌, map, length, Option, Some, None, ◌⊎◌, inl, inr, refl, sym, ap, subst, arith}
use Rattle.std.specs.Option.{option_map}
use Rattle.std.specs.List.{flat_map, AllByRecursion}
use Rattle.zpl_tokens.specs.declared.Kind.TheVariants as kind
use Rattle.zpl_tokens.specs.declared.keywords.Key.{Key}
use Rattle.zpl_tokens.specs.declared.keywords.Key.TheVariants as key
use Rattle.zpl_tokens.specs.declared.symbols.Sym.TheVariants as sym
use Rattle.zpl_tree.specs.Word.{Word}
use Rattle.zpl_tree.specs.Word as word
use Rattle.zpl_tree.specs.Syntax.{Name, Inner, Rexpr, Dims, Bracket, Posts, NoPost, ThenPost, Pre, RegionBase, NamedRegion, Ditto, Prefix, Stmt, Prefixed, Stmts, Assign, Invoke, Block, If, While, Repeat, For, Border, Write, Return, Base, Integer, Boolean, Other, Define, RegionDef, DirDef, VarDef, Param, Procedure, Decl, Config, Constant, Regions, Directions, Vars, Defined}
use Rattle.zpl_tree.specs.Depth.{expr_depth, inner_depth, bracket_depth, posts_depth, greatest_of, prefix_depth, stmt_depth, nest_depth, stmts_depth, stmts_nest, define_depth, region_depth, direction_depth, var_depth, param_depth, procedure_depth, decl_depth}
use Rattle.zpl_tree.specs.Shape.{stmt_shape, base_type_shape, define_shape, region_shape, direction_shape, var_shape, param_shape, procedure_shape, decl_shape}
use Rattle.zpl_tree.specs.Spelling.{keyword as keyword_of, expr_words, exprs_words, inner_words, bracket_words, posts_words, names_words, prefix_words, end_words, stmt_words, stmts_words, type_words, define_words, region_words, direction_words, var_words, param_words, params_words, result_words, heading_words}
use Rattle.zpl_tree.specs.Grammar.{IsInner, IsBracket, HasAny, IsPrefix, AreStmts, IsBody, IsDefine, IsRegion, IsDirection, IsVar, IsParam, IsProcedure, IsDecl, SpellsEach, IsRexpr, HasNoPost, bare_words, SpellsRegion, SpellsMoreLocals, SpellsLocals, SpellsDecl}
use Rattle.zpl_grammar.specs.Lexeme.{Lexeme, head_kind}
use Rattle.zpl_parse.specs.Outcome.{Outcome, Done, Wrong, Deep, Reader, and_then, made}
use Rattle.zpl_parse.specs.Classes.{stride_of, part_of}
use Rattle.zpl_parse.specs.Tokens.{next_is, symbol, keyword, names, name}
use Rattle.zpl_parse.specs.Expressions.{levels, bracket}
use Rattle.zpl_parse.specs.Statements.{body_end, stmts, stmt}
use Rattle.zpl_parse.specs.Declarations.{base, group, define, region_body, region, direction, variables, formals, param, some_params, params, result, locals, body, procedure, decl_by, decls}
use Rattle.zpl_parse.proofs.Complete.Base.{Begins, none, more, Split, split, split_at, bound_of, shorter, shorter_by_one, narrower, reword, Reads, read, weigh, made_reads, then_reads, then_then_reads, symbol_reads, ends_with, at_head}
use Rattle.zpl_parse.proofs.Complete.Levels.{StopsWhole}
use Rattle.zpl_parse.proofs.Complete.Parts.{SameBracket, RegionEnds}
use Rattle.zpl_parse.proofs.Complete.Here.{SameNames, names_at, expr_here, components_here, in_bracket_here, bracket_here, posts_here, rexpr_here}
use Rattle.zpl_parse.proofs.Complete.Statements.{SamePrefixes, prefixes_at, body_end_at, stmts_all}

abbrev pub SameBase : Base → Base → Type 0
SameBase t value = base_type_shape value ≡ base_type_shape t

abbrev pub SameResult : Option Base → Option Base → Type 0
SameResult t value = option_map base_type_shape value ≡ option_map base_type_shape t

abbrev pub SameDefine : Define → Define → Type 0
SameDefine t value = define_shape value ≡ define_shape t

abbrev pub SameRegion : RegionDef → RegionDef → Type 0
SameRegion t value = region_shape value ≡ region_shape t

abbrev pub SameDirection : DirDef → DirDef → Type 0
SameDirection t value = direction_shape value ≡ direction_shape t

abbrev pub SameVar : VarDef → VarDef → Type 0
SameVar t value = var_shape value ≡ var_shape t

abbrev pub SameVars : List VarDef → List VarDef → Type 0
SameVars t value = map var_shape value ≡ map var_shape t

abbrev pub SameParam : Param → Param → Type 0
SameParam t value = param_shape value ≡ param_shape t

abbrev pub SameParams : List Param → List Param → Type 0
SameParams t value = map param_shape value ≡ map param_shape t

abbrev pub SameProcedure : Procedure → Procedure → Type 0
SameProcedure t value = procedure_shape value ≡ procedure_shape t

abbrev pub SameBody : Stmt → Stmt → Type 0
SameBody t value = stmt_shape value ≡ stmt_shape t

abbrev pub SameDecl : Decl → Decl → Type 0
SameDecl t value = decl_shape value ≡ decl_shape t

abbrev pub SameDecls : List Decl → List Decl → Type 0
SameDecls t value = map decl_shape value ≡ map decl_shape t

zero_fits : (n : ℕ) → 0 ≤ n
zero_fits n = omega arith

module _ {most : ℕ} where
  -- base = "integer" | "boolean" | NAME
  base_at : (d : ℕ) (t : Base) {xs rest : List Lexeme} → Begins most (type_words t) xs rest
      → Reads (SameBase t) rest 0 d (base xs)
  base_at d Integer (more w bytes place bound (none limit)) = read Integer (zero_fits d) refl
  base_at d Boolean (more w bytes place bound (none limit)) = read Boolean (zero_fits d) refl
  base_at d (Other name) (more w bytes place bound (none limit)) =
      read (Other (record { text = name.text; at = place })) (zero_fits d) refl

  base_plain : (t : Base) {xs rest : List Lexeme} → Begins most (type_words t) xs rest
      → next_is (kind.Symbol sym.OpenBracket) xs ≡ false
  base_plain Integer (more w bytes place bound b) = refl
  base_plain Boolean (more w bytes place bound b) = refl
  base_plain (Other called) (more w bytes place bound b) = refl

-- definitions, one behind the other
module _ {A : Type 0} (most limit : ℕ) (definition : Reader A) (shape : A → A) (depth_of : A
    → ℕ) (Is : A → Type 0) (Spell : A → List Word → Type 0)
    (named : (t : A) → Is t → (words : List Word) (xs rest : List Lexeme) → Spell t words
    → Begins most words xs rest → (next_is kind.Name xs ≡ true) × (length rest < length xs))
    (reads : (t : A) → Is t → (words : List Word) → Spell t words → (xs rest : List Lexeme)
    → Begins most words xs rest
    → Reads (λ value. shape value ≡ shape t) rest (depth_of t) limit (definition xs)) where
  group_last : (t : A) → Is t → (front back : List Word) → Spell t front → back ≡ []
      → (turns : ℕ) (xs middle rest : List Lexeme) → Begins most front xs middle
      → Begins most back middle rest → next_is kind.Name rest ≡ false →
      Reads (λ value. map shape value ≡ map shape (t ∷ [])) rest (max (depth_of t) 0) limit
      (group (suc turns) definition xs)
  group_last t is front back spells empty turns xs middle rest b c ends =
      group_only b (reword middle rest empty c)
    where
      group_only : {middle : List Lexeme} → Begins most front xs middle → Begins most [] middle rest
          → Reads (λ value. map shape value ≡ map shape (t ∷ [])) rest (max (depth_of t) 0) limit
          (group (suc turns) definition xs)
      group_only b (none bound) =
          then_reads _ (reads t is front spells xs rest b) (λ value same.
          rw ends (read (value ∷ []) (zero_fits limit) (ap (λ one. one ∷ []) same)))

  pub group_at : (those : List A) → HasAny those → AllByRecursion Is those → (words : List Word)
      → SpellsEach Spell those words → (turns : ℕ) (xs rest : List Lexeme)
      → Begins most words xs rest → length xs < turns → next_is kind.Name rest ≡ false →
      Reads (λ value. map shape value ≡ map shape those) rest (greatest_of depth_of those) limit
      (group turns definition xs)
  group_at [] has are words spells turns xs rest b short ends = absurd has
  group_at (first ∷ others) has are words spells zero xs rest b short ends = absurd (omega arith)
  group_at (first ∷ []) has are words spells (suc turns) xs rest b short ends =
      let parts : Split most spells.0 spells.1 xs rest =
      split spells.0 spells.1 (reword xs rest spells.4 b) in
      group_last first are.0 spells.0 spells.1 spells.2 spells.3 turns xs parts.middle rest
      parts.first parts.then ends
  group_at (first ∷ second ∷ others) has are words spells (suc turns) xs rest b short ends =
      let parts : Split most spells.0 spells.1 xs rest =
      split spells.0 spells.1 (reword xs rest spells.4 b) in
      let fewer = (named first are.0 spells.0 xs parts.middle spells.2 parts.first).1 in
      let inner : Split most spells.3.0 spells.3.1 parts.middle rest =
      split spells.3.0 spells.3.1 (reword parts.middle rest spells.3.4 parts.then) in
      let next : next_is kind.Name parts.middle ≡ true =
      (named second are.1.0 spells.3.0 parts.middle inner.middle spells.3.2 inner.first).0 in
      then_reads _ (reads first are.0 spells.0 spells.2 xs parts.middle parts.first) (λ value same.
      rw next (made_reads (λ those. value ∷ those) (λ those alike. cc)
      (group_at (second ∷ others) tt are.1 spells.1 spells.3 turns parts.middle rest parts.then
      (omega arith) ends)))

-- what is spelled in one way
pub each_of : {A : Type 0} (words : A → List Word) (those : List A)
    → SpellsEach (λ t spelled. spelled ≡ words t) those (flat_map words those)
each_of words [] = refl
each_of words (first ∷ others) =
    (words first, flat_map words others, refl, each_of words others, refl)

module _ (wide most limit : ℕ) (fits : most ≤ wide) where
  -- NAME ":" base "=" expr ";"
  define_tail : (t : Define) → IsDefine t → (place : ℕ) (type : Base) → SameBase t.base type
      → (xs after rest : List Lexeme)
      → Begins most (word.Symbol sym.Equal ∷ expr_words t.value) xs after
      → Begins most (word.Symbol sym.Semicolon ∷ []) after rest →
      Reads (SameDefine t) rest (expr_depth t.value) limit
      (and_then (symbol sym.Equal xs) (λ equal behind_equal.
      and_then ((levels wide limit).expr behind_equal) (λ value last.
      made (λ end. record {
        name = record { text = t.name.text; at = place };
        base =
            type;
        value = value;
      }) (symbol sym.Semicolon last))))
  define_tail t is place type same xs after rest (more w bytes spot bound b) c =
      ends_with sym.Semicolon (λ v. record {
        name = record { text = t.name.text; at = place };
        base = type;
        value = v;
      }) (λ v alike. cc) (expr_here wide most limit fits t.value is _
      after b (at_head StopsWhole (λ bytes at others. refl) c)) c

  define_at : (t : Define) → IsDefine t → (words : List Word) → words ≡ define_words t
      → (xs rest : List Lexeme) → Begins most words xs rest
      → Reads (SameDefine t) rest (define_depth t) limit (define (levels wide limit).expr xs)
  define_at t is words spells xs rest b = define_words_at (reword xs rest spells b)
    where
      define_words_at : {xs : List Lexeme} → Begins most (define_words t) xs rest
          → Reads (SameDefine t) rest (define_depth t) limit (define (levels wide limit).expr xs)
      define_words_at (more w bytes place bound (more {lexemes = others} v other where_at after b))
          =
          let outer : Split most ((type_words t.base ++ word.Symbol sym.Equal ∷ []) ++
          expr_words t.value) (word.Symbol sym.Semicolon ∷ []) others rest =
          split ((type_words t.base ++ word.Symbol sym.Equal ∷ []) ++ expr_words t.value)
          (word.Symbol sym.Semicolon ∷ []) b in
          let parts : Split most (type_words t.base) (word.Symbol sym.Equal ∷ expr_words t.value)
          others outer.middle =
          split_at (type_words t.base) (word.Symbol sym.Equal) (expr_words t.value) outer.first
          in
          weigh {n = max 0 (expr_depth t.value)} {d = limit} (λ k. omega arith) (λ k. omega arith)
          (then_reads _ (base_at limit t.base parts.first) (λ type same.
          define_tail t is place type same parts.middle outer.middle rest parts.then
          outer.then))

  -- NAME "=" ( bracket { post } | rexpr ) ";"
  rexpr_plain : (pre : List Pre) (base : RegionBase) (post : Posts) {xs rest : List Lexeme}
      → Begins most (inner_words (Rexpr pre base post)) xs rest
      → next_is (kind.Symbol sym.OpenBracket) xs ≡ false
  rexpr_plain [] (NamedRegion called) post (more w bytes place bound b) = refl
  rexpr_plain [] (Ditto at) post (more w bytes place bound b) = refl
  rexpr_plain (first ∷ pre) root post (more w bytes place bound b) = refl

  bracket_body : (t : RegionDef) → IsRegion t → (place : ℕ) (xs rest : List Lexeme)
      → Begins most ((word.Symbol sym.OpenBracket ∷
      (inner_words t.body ++ word.Symbol sym.CloseBracket ∷ [])) ++ posts_words t.posts) xs rest
      → stride_of (head_kind rest) ≡ None →
      Reads (SameRegion t) rest (region_depth t) limit (region_body most (levels wide limit).expr
      (record { text = t.name.text; at = place }) xs)
  bracket_body t is place xs rest b ends =
      let parts : Split most (word.Symbol sym.OpenBracket ∷
      (inner_words t.body ++ word.Symbol sym.CloseBracket ∷ [])) (posts_words t.posts) xs rest =
      split (word.Symbol sym.OpenBracket ∷ (inner_words t.body ++ word.Symbol sym.CloseBracket ∷
      [])) (posts_words t.posts) b in
      let opened : next_is (kind.Symbol sym.OpenBracket) xs ≡ true =
      at_head (λ those. next_is (kind.Symbol sym.OpenBracket) those ≡ true) (λ bytes at others.
      refl) parts.first in
      rw (opened, region_body)
      (then_reads _ (in_bracket_here wide most limit fits t.body is.0 most xs parts.middle
      parts.first (bound_of parts.first))
      (λ value same. made_reads (λ those. record {
        name = record { text = t.name.text; at = place };
        body = value;
        posts = those;
      }) (λ those alike. cc)
      (posts_here wide most limit fits t.posts is.1 most parts.middle rest parts.then
      (bound_of parts.then) ends)))

  region_brackets : (t : RegionDef) → IsRegion t → {xs rest : List Lexeme}
      → Begins most (region_words t) xs rest
      → Reads (SameRegion t) rest (region_depth t) limit (region most (levels wide limit).expr xs)
  region_brackets t is {rest =
      rest} (more w bytes place bound (more {lexemes = others} v other where_at after b)) =
      let front : List Word =
      (word.Symbol sym.OpenBracket ∷ (inner_words t.body ++ word.Symbol sym.CloseBracket ∷ []))
      ++ posts_words t.posts in
      let parts : Split most front (word.Symbol sym.Semicolon ∷ []) others rest =
      split front (word.Symbol sym.Semicolon ∷ []) b in
      ends_with sym.Semicolon (λ v. v) (λ v same. same) (bracket_body t is place others parts.middle
      parts.first (at_head (λ those. stride_of (head_kind those) ≡ None) (λ bytes at others.
      refl) parts.then)) parts.then

  region_bare : (name : Name) (region_of : Inner) (those : Posts) → IsInner region_of
      → IsRexpr region_of → HasNoPost those → {xs rest : List Lexeme}
      → Begins most (bare_words (record { name = name; body = region_of; posts = those })) xs rest →
      Reads (SameRegion (record { name = name; body = region_of; posts = those })) rest
      (max (inner_depth region_of) (posts_depth those)) limit
      (region most (levels wide limit).expr xs)
  region_bare name (Dims dims) those is bare plain b = absurd bare
  region_bare name (Rexpr pre base post) (ThenPost stride way others) is bare plain b = absurd plain
  region_bare name (Rexpr pre base post) NoPost is bare plain {rest =
      rest} (more w bytes place bound (more {lexemes = others} v other where_at after b)) =
      let parts : Split most (inner_words (Rexpr pre base post)) (word.Symbol sym.Semicolon ∷
      []) others rest =
      split (inner_words (Rexpr pre base post)) (word.Symbol sym.Semicolon ∷ []) b in
      weigh {n = posts_depth post} {d = limit} (λ k. omega arith) (λ k. omega arith)
      (ends_with sym.Semicolon (λ v. v) (λ v same. same)
      (bare_body parts.middle parts.first (at_head RegionEnds (λ bytes at others.
      record { outside = refl; stride = refl }) parts.then)) parts.then)
    where
      bare_body : {others : List Lexeme} (after : List Lexeme)
          → Begins most (inner_words (Rexpr pre base post)) others after → RegionEnds after →
          Reads (SameRegion (record { name = name; body = Rexpr pre base post; posts = NoPost }))
          after (posts_depth post) limit (region_body most (levels wide limit).expr
          (record { text = name.text; at = place }) others)
      bare_body {others = others} after b ends =
          rw (rexpr_plain pre base post b, region_body) (made_reads (λ v. record {
            name =
                record { text = name.text; at = place };
            body = v;
            posts = NoPost;
          }) (λ v same. cc)
          (rexpr_here wide most limit fits pre base post is most others after b (bound_of b)
          ends))

  region_at : (t : RegionDef) → IsRegion t → (words : List Word) → SpellsRegion t words
      → (xs rest : List Lexeme) → Begins most words xs rest
      → Reads (SameRegion t) rest (region_depth t) limit (region most (levels wide limit).expr xs)
  region_at t is words (inl spells) xs rest b = region_brackets t is (reword xs rest spells b)
  region_at t is words (inr spells) xs rest b =
      region_bare t.name t.body t.posts is.0 spells.0 spells.1 (reword xs rest spells.2 b)

  -- NAME "=" vector ";"
  direction_at : (t : DirDef) → IsDirection t → (words : List Word) → words ≡ direction_words t
      → (xs rest : List Lexeme) → Begins most words xs rest
      → Reads (SameDirection t) rest (direction_depth t) limit
      (direction most (levels wide limit).expr xs)
  direction_at t is words spells xs rest b = direction_words_at (reword xs rest spells b)
    where
      direction_words_at : {xs : List Lexeme} → Begins most (direction_words t) xs rest
          → Reads (SameDirection t) rest (direction_depth t) limit
          (direction most (levels wide limit).expr xs)
      direction_words_at (more w bytes place bound (more v other where_at after (more {lexemes =
          others} u another there behind_it b))) =
          let parts : Split most (exprs_words t.parts ++ word.Symbol sym.CloseBracket ∷
          []) (word.Symbol sym.Semicolon ∷ []) others rest =
          split (exprs_words t.parts ++ word.Symbol sym.CloseBracket ∷
          []) (word.Symbol sym.Semicolon ∷ []) b in
          ends_with sym.Semicolon (λ v. record {
            name = record { text = t.name.text; at = place };
            parts = v;
          }) (λ v same. cc) (components_here wide most limit fits t.parts is.1 is.0
          most others parts.middle parts.first (bound_of parts.first)) parts.then

  shape_split : {A : Type 0} {Same : A → Type 0} (t : Bracket) → IsBracket t → (type : Base)
      → (m : ℕ) (next : Bracket → Base → Reader A) (turns : ℕ) (xs middle after rest : List Lexeme)
      → Begins most (word.Symbol sym.Colon ∷ bracket_words t) xs middle
      → Begins most (type_words type) middle after → length xs ≤ turns →
      ((shape : Bracket) → SameBracket t shape → (base_of : Base) → SameBase type base_of
      → Reads Same rest m limit (next shape base_of after)) →
      Reads Same rest (max (bracket_depth t) m) limit
      (and_then (symbol sym.Colon xs) (λ colon after.
      and_then (bracket turns (levels wide limit).expr after) (λ shape behind_shape.
      and_then (base behind_shape) (λ type last. next shape type last))))
  shape_split t is type m next turns xs middle after rest (more w bytes place bound b) c short h =
      weigh {n = max (bracket_depth t) (max 0 m)} {d = limit} (λ k. omega arith) (λ k. omega arith)
      (then_reads _ (bracket_here wide most limit fits t is turns _ middle b (omega arith)
      (base_plain type c)) (λ shape same. then_reads _ (base_at limit type c) (λ base_of alike.
      h shape same base_of alike)))

  -- vardef
  variables_at : (turns : ℕ) (t : VarDef) → IsVar t → (xs rest : List Lexeme)
      → Begins most (var_words t) xs rest → length xs ≤ turns
      → Reads (SameVar t) rest (var_depth t) limit (variables turns (levels wide limit).expr xs)
  variables_at turns t is xs rest b short =
      let outer : Split most (((names_words t.names ++ word.Symbol sym.Colon ∷ []) ++
      bracket_words t.shape) ++ type_words t.base) (word.Symbol sym.Semicolon ∷ []) xs rest =
      split (((names_words t.names ++ word.Symbol sym.Colon ∷ []) ++ bracket_words t.shape) ++
      type_words t.base) (word.Symbol sym.Semicolon ∷ []) b in
      let front : Split most ((names_words t.names ++ word.Symbol sym.Colon ∷ []) ++
      bracket_words t.shape) (type_words t.base) xs outer.middle =
      split ((names_words t.names ++ word.Symbol sym.Colon ∷ []) ++ bracket_words t.shape)
      (type_words t.base) outer.first in
      let parts : Split most (names_words t.names) (word.Symbol sym.Colon ∷ bracket_words t.shape)
      xs front.middle =
      split_at (names_words t.names) (word.Symbol sym.Colon) (bracket_words t.shape) front.first
      in
      let fewer = shorter parts.first in
      weigh {n = max 0 (max (bracket_depth t.shape) 0)} {d =
      limit} (λ k. omega arith) (λ k. omega arith)
      (then_reads _ (names_at limit t.names is.0 turns xs parts.middle parts.first short
      (at_head (λ those. next_is (kind.Symbol sym.Comma) those ≡ false) (λ bytes at others.
      refl) parts.then))
      (λ those same. shape_split t.shape is.1 t.base 0 (λ shape type last.
      made (λ end. record {
        names = those;
        shape = shape;
        base =
            type;
      }) (symbol sym.Semicolon last)) turns parts.middle front.middle outer.middle rest
      parts.then front.then (omega arith)
      (λ shape alike type equal. made_reads (λ end. record {
        names = those;
        shape = shape;
        base =
            type;
      }) (λ end any. cc) (symbol_reads sym.Semicolon {d = limit} outer.then))))

  var_named : (t : VarDef) → IsVar t → {xs rest : List Lexeme} → Begins most (var_words t) xs rest
      → (next_is kind.Name xs ≡ true) × (length rest < length xs)
  var_named t is b = go t.names is.0 b
    where
      go : (those : List Name) → HasAny those → {xs rest : List Lexeme}
          → Begins most (var_words (record { names = those; shape = t.shape; base = t.base })) xs
          rest → (next_is kind.Name xs ≡ true) × (length rest < length xs)
      go [] has b = absurd has
      go (first ∷ others) has b = (
        at_head (λ those. next_is kind.Name those ≡ true) (λ bytes at others. refl) b,
        shorter_by_one b,
      )

  -- param = [ "var" ] NAME { "," NAME } ":" [ bracket ] base
  formals_at : (turns : ℕ) (t : Param) → IsParam t → (xs rest : List Lexeme)
      → Begins most (((names_words t.names ++ word.Symbol sym.Colon ∷ []) ++ bracket_words t.shape)
      ++ type_words t.base) xs rest → length xs ≤ turns →
      Reads (SameParam t) rest (param_depth t) limit (formals turns (levels wide limit).expr
      t.by_ref xs)
  formals_at turns t is xs rest b short =
      let front : Split most ((names_words t.names ++ word.Symbol sym.Colon ∷ []) ++
      bracket_words t.shape) (type_words t.base) xs rest =
      split ((names_words t.names ++ word.Symbol sym.Colon ∷ []) ++ bracket_words t.shape)
      (type_words t.base) b in
      let parts : Split most (names_words t.names) (word.Symbol sym.Colon ∷ bracket_words t.shape)
      xs front.middle =
      split_at (names_words t.names) (word.Symbol sym.Colon) (bracket_words t.shape) front.first
      in
      let fewer = shorter parts.first in
      weigh {n = max 0 (max (bracket_depth t.shape) 0)} {d =
      limit} (λ k. omega arith) (λ k. omega arith)
      (then_reads _ (names_at limit t.names is.0 turns xs parts.middle parts.first short
      (at_head (λ those. next_is (kind.Symbol sym.Comma) those ≡ false) (λ bytes at others.
      refl) parts.then))
      (λ those same. formals_split turns t is those same parts.middle front.middle rest parts.then
      front.then (omega arith)))
    where
      formals_split : (turns : ℕ) (t : Param) → IsParam t → (those : List Name)
          → SameNames t.names those → (xs middle rest : List Lexeme)
          → Begins most (word.Symbol sym.Colon ∷ bracket_words t.shape) xs middle
          → Begins most (type_words t.base) middle rest → length xs ≤ turns →
          Reads (SameParam t) rest (max (bracket_depth t.shape) 0) limit
          (and_then (symbol sym.Colon xs) (λ colon after.
          and_then (bracket turns (levels wide limit).expr after) (λ shape last.
          made (λ type. record {
            by_ref = t.by_ref;
            names = those;
            shape = shape;
            base =
                type;
          }) (base last))))
      formals_split turns t is those same xs middle rest (more w bytes place bound b) c short =
          then_reads _ (bracket_here wide most limit fits t.shape is.1 turns _ middle b
          (omega arith) (base_plain t.base c)) (λ shape alike.
          made_reads (λ type. record {
            by_ref = t.by_ref;
            names = those;
            shape = shape;
            base =
                type;
          }) (λ type equal. cc) (base_at limit t.base c))

  param_fields_at : (turns : ℕ) (by_ref : Bool) (those : List Name) (shape : Bracket) (type : Base)
      → HasAny those → IsBracket shape → (xs rest : List Lexeme)
      → Begins most (param_words (record {
        by_ref = by_ref;
        names = those;
        shape = shape;
        base =
            type;
      })) xs rest → length xs ≤ turns →
      Reads (SameParam (record { by_ref = by_ref; names = those; shape = shape; base = type })) rest
      (bracket_depth shape) limit (param turns (levels wide limit).expr xs)
  param_fields_at turns true those shape type has is xs rest (more w bytes place bound b) short =
      formals_at turns (record { by_ref = true; names = those; shape = shape; base = type }) (
        has,
        is,
      ) _ rest b (omega arith)
  param_fields_at turns false [] shape type has is xs rest b short = absurd has
  param_fields_at turns false (first ∷ others) shape type has is xs rest b short =
      let plain : next_is (kind.Word key.Var) xs ≡ false =
      at_head (λ those. next_is (kind.Word key.Var) those ≡ false) (λ bytes at others. refl) b
      in
      rw (plain, param) (formals_at turns (record {
        by_ref = false;
        names = first ∷ others;
        shape =
            shape;
        base = type;
      }) (has, is) xs rest b short)

  param_at : (turns : ℕ) (t : Param) → IsParam t → (xs rest : List Lexeme)
      → Begins most (param_words t) xs rest → length xs ≤ turns
      → Reads (SameParam t) rest (param_depth t) limit (param turns (levels wide limit).expr xs)
  param_at turns t is xs rest b short =
      param_fields_at turns t.by_ref t.names t.shape t.base is.0 is.1 xs rest b short

  param_plain : (by_ref : Bool) (those : List Name) (shape : Bracket) (type : Base) → HasAny those
      → {xs rest : List Lexeme}
      → Begins most (param_words (record {
        by_ref = by_ref;
        names = those;
        shape = shape;
        base =
            type;
      })) xs rest → next_is (kind.Symbol sym.CloseParen) xs ≡ false
  param_plain true those shape type has (more w bytes place bound b) = refl
  param_plain false [] shape type has b = absurd has
  param_plain false (first ∷ others) shape type has (more w bytes place bound b) = refl

  params_last : (first : Param) → IsParam first → (turns : ℕ) (xs middle rest : List Lexeme)
      → Begins most (param_words first) xs middle → Begins most [] middle rest
      → length xs < suc turns → next_is (kind.Symbol sym.Semicolon) rest ≡ false →
      Reads (SameParams (first ∷ [])) rest (max (param_depth first) 0) limit
      (some_params (suc turns) (levels wide limit).expr xs)
  params_last first is turns xs middle rest b (none bound) short ends =
      then_reads _ (param_at turns first is xs rest b (omega arith)) (λ value same.
      rw ends (read (value ∷ []) (zero_fits limit) (ap (λ shape. shape ∷ []) same)))

  params_more : (first : Param) (words : List Word) (others : List Param) → IsParam first
      → (turns : ℕ) (xs middle rest : List Lexeme) → Begins most (param_words first) xs middle
      → Begins most (word.Symbol sym.Semicolon ∷ words) middle rest → length xs < suc turns →
      ((ys : List Lexeme) → Begins most words ys rest → length ys < turns
      → Reads (SameParams others) rest (greatest_of param_depth others) limit
      (some_params turns (levels wide limit).expr ys)) →
      Reads (SameParams (first ∷ others)) rest
      (max (param_depth first) (greatest_of param_depth others)) limit
      (some_params (suc turns) (levels wide limit).expr xs)
  params_more first words others is turns xs middle rest b (more w bytes place bound c) short h =
      let fewer = shorter b in
      then_reads _ (param_at turns first is xs _ b (omega arith)) (λ value same.
      made_reads (λ those. value ∷ those) (λ those alike. cc) (h _ c (omega arith)))

  some_params_at : (first : Param) (others : List Param) → AllByRecursion IsParam (first ∷ others)
      → (turns : ℕ) (xs rest : List Lexeme) → Begins most (params_words (first ∷ others)) xs rest
      → length xs < turns → next_is (kind.Symbol sym.Semicolon) rest ≡ false →
      Reads (SameParams (first ∷ others)) rest (greatest_of param_depth (first ∷ others)) limit
      (some_params turns (levels wide limit).expr xs)
  some_params_at first others are zero xs rest b short ends = absurd (omega arith)
  some_params_at first [] are (suc turns) xs rest b short ends =
      let parts : Split most (param_words first) [] xs rest = split (param_words first) [] b in
      params_last first are.0 turns xs parts.middle rest parts.first parts.then short ends
  some_params_at first (second ∷ others) are (suc turns) xs rest b short ends =
      let parts : Split most (param_words first) (word.Symbol sym.Semicolon ∷
      params_words (second ∷ others)) xs rest =
      split (param_words first) (word.Symbol sym.Semicolon ∷ params_words (second ∷ others)) b
      in
      params_more first (params_words (second ∷ others)) (second ∷ others) are.0 turns xs
      parts.middle rest parts.first parts.then short (λ ys c fewer.
      some_params_at second others are.1 turns ys rest c fewer ends)

  -- [ param { ";" param } ] ")"
  params_at : (those : List Param) → AllByRecursion IsParam those → (xs rest : List Lexeme)
      → Begins most (params_words those ++ word.Symbol sym.CloseParen ∷ []) xs rest →
      Reads (SameParams those) rest (greatest_of param_depth those) limit
      (params most (levels wide limit).expr xs)
  params_at [] are xs rest (more w bytes place bound (none last)) = read [] (zero_fits limit) refl
  params_at (first ∷ others) are xs rest b =
      let parts : Split most (params_words (first ∷ others)) (word.Symbol sym.CloseParen ∷
      []) xs rest = split (params_words (first ∷ others)) (word.Symbol sym.CloseParen ∷ []) b in
      let inside : Split most (param_words first) _ xs parts.middle =
      split (param_words first) _ parts.first in
      rw (
        param_plain first.by_ref first.names first.shape first.base are.0.0 inside.first,
        params,
      ) (ends_with sym.CloseParen (λ those. those) (λ those same. same)
      (some_params_at first others are most xs parts.middle parts.first (bound_of parts.first)
      (at_head (λ those. next_is (kind.Symbol sym.Semicolon) those ≡ false) (λ bytes at others.
      refl) parts.then)) parts.then)

  -- [ ":" base ]
  result_at : (t : Option Base) → (xs rest : List Lexeme) → Begins most (result_words t) xs rest
      → next_is (kind.Symbol sym.Colon) rest ≡ false → Reads (SameResult t) rest 0 limit (result xs)
  result_at None xs rest (none bound) ends = rw (ends, result) (read None (zero_fits limit) refl)
  result_at (Some type) xs rest (more w bytes place bound b) ends =
      made_reads Some (λ v same. ap Some same) (base_at limit type b)

  -- what may stand behind local variables
  pub record LocalsEnd (rest : List Lexeme) : Type 0 where
    pub var : next_is (kind.Word key.Var) rest ≡ false
    pub named : next_is kind.Name rest ≡ false

  made_behind : (first : VarDef) (outcome : Outcome (List VarDef)) (next : Reader (List VarDef)) →
      and_then (made (λ v. first ∷ v) outcome) (λ v rest. made (λ others. v ++ others) (next rest))
      ≡ made (λ v. first ∷
      v) (and_then outcome (λ v rest. made (λ others. v ++ others) (next rest)))
  made_behind first (Done v rest) next = made_twice first v (next rest)
    where
      made_twice : (first : VarDef) (v : List VarDef) (o : Outcome (List VarDef))
          → made (λ others. (first ∷ v) ++ others) o
          ≡ made (λ v. first ∷ v) (made (λ others. v ++ others) o)
      made_twice first v (Done w rest) = refl
      made_twice first v (Wrong rest) = refl
      made_twice first v (Deep rest) = refl
  made_behind first (Wrong rest) next = refl
  made_behind first (Deep rest) next = refl

  no_locals : (turns : ℕ) (rest : List Lexeme) → length rest < turns → LocalsEnd rest
      → Reads (SameVars []) rest 0 limit (locals turns (levels wide limit).expr rest)
  no_locals zero rest short ends = absurd (omega arith)
  no_locals (suc turns) rest short ends = rw (ends.var, locals) (read [] (zero_fits limit) refl)

  -- variables of a group, and the groups behind it
  abbrev grouped : ℕ → ℕ → Reader (List VarDef)
  grouped g m xs =
      and_then (group g (variables m (levels wide limit).expr) xs) (λ first rest.
      made (λ others. first ++ others) (locals m (levels wide limit).expr rest))

  last_local : (first : VarDef) → IsVar first → (g m : ℕ) (xs middle rest : List Lexeme)
      → Begins most (var_words first) xs middle → Begins most [] middle rest → length xs < suc g
      → length xs < m → LocalsEnd rest →
      Reads (SameVars (first ∷ [])) rest (max (var_depth first) 0) limit (grouped (suc g) m xs)
  last_local first is g m xs middle rest b (none bound) short few ends =
      let fewer = shorter b in
      then_then_reads _ _ (variables_at m first is xs rest b (omega arith)) (λ value same.
      rw (ends.named, and_then) (made_reads (λ others. value ∷ others) (λ others alike. cc)
      (no_locals m rest (omega arith) ends)))

  next_local : (first : VarDef) → IsVar first
      → (others : List VarDef) (words : List Word) (g m : ℕ) (xs middle rest : List Lexeme)
      → Begins most (var_words first) xs middle → Begins most words middle rest
      → next_is kind.Name middle ≡ true → length xs < m →
      Reads (SameVars others) rest (greatest_of var_depth others) limit (grouped g m middle) →
      Reads (SameVars (first ∷ others)) rest (max (var_depth first) (greatest_of var_depth others))
      limit (grouped (suc g) m xs)
  next_local first is others words g m xs middle rest b c named few h =
      then_then_reads _ _ (variables_at m first is xs middle b (omega arith)) (λ value same.
      rw (named, and_then)
      (subst (λ outcome. Reads (SameVars (first ∷ others)) rest (greatest_of var_depth others) limit
      outcome) (sym (made_behind value (group g (variables m (levels wide limit).expr) middle)
      (locals m (levels wide limit).expr)))
      (made_reads (λ those. value ∷ those) (λ those alike. cc) h)))

  next_group : (first : VarDef) → IsVar first
      → (others : List VarDef) (words : List Word) (g m : ℕ) (xs middle rest : List Lexeme)
      → Begins most (var_words first) xs middle
      → Begins most (word.Keyword key.Var ∷ words) middle rest → length xs < suc m →
      ((ys : List Lexeme) → Begins most words ys rest → length ys < m
      → Reads (SameVars others) rest (greatest_of var_depth others) limit (grouped m m ys)) →
      Reads (SameVars (first ∷ others)) rest (max (var_depth first) (greatest_of var_depth others))
      limit (grouped (suc g) (suc m) xs)
  next_group first is others words g m xs middle rest b (more w bytes place bound c) few h =
      let fewer = shorter b in
      then_then_reads _ _ (variables_at (suc m) first is xs _ b (omega arith)) (λ value same.
      made_reads (λ those. value ∷ those) (λ those alike. cc) (h _ c (omega arith)))

  later_local : (first second : VarDef) (those : List VarDef)
      → AllByRecursion IsVar (first ∷ second ∷ those) → (others rest_words : List Word) →
      (others ≡ var_words second ++ rest_words)
      ⊎ (others ≡ keyword_of key.Var ++ var_words second ++ rest_words) →
      (g m : ℕ) (xs rest : List Lexeme) → Begins most (var_words first ++ others) xs rest
      → length xs < suc g → length xs < suc m →
      ((f n : ℕ) (ys : List Lexeme) → Begins most (var_words second ++ rest_words) ys rest
      → length ys < f → length ys < n
      → Reads (SameVars (second ∷ those)) rest (greatest_of var_depth (second ∷ those)) limit
      (grouped f n ys)) →
      Reads (SameVars (first ∷ second ∷ those)) rest (greatest_of var_depth (first ∷ second ∷
      those)) limit (grouped (suc g) (suc m) xs)
  later_local first second those are others rest_words (inl same) g m xs rest b short few h =
      let parts : Split most (var_words first) others xs rest = split (var_words first) others b in
      let after : Begins most (var_words second ++ rest_words) parts.middle rest =
      reword parts.middle rest same parts.then in
      let inside : Split most (var_words second) rest_words parts.middle rest =
      split (var_words second) rest_words after in
      let fewer = (var_named first are.0 parts.first).1 in
      next_local first are.0 (second ∷ those) (var_words second ++ rest_words) g (suc m) xs
      parts.middle rest parts.first after (var_named second are.1.0 inside.first).0 few
      (h g (suc m) parts.middle after (omega arith) (omega arith))
  later_local first second those are others rest_words (inr same) g m xs rest b short few h =
      let parts : Split most (var_words first) others xs rest = split (var_words first) others b in
      let after : Begins most (word.Keyword key.Var ∷ (var_words second ++ rest_words)) parts.middle
      rest = reword parts.middle rest same parts.then in
      next_group first are.0 (second ∷ those) (var_words second ++ rest_words) g m xs parts.middle
      rest parts.first after few (λ ys c fewer. h m m ys c fewer fewer)

  more_locals_at : (first : VarDef) (those : List VarDef) → AllByRecursion IsVar (first ∷ those)
      → (others : List Word) → SpellsMoreLocals those others → (g m : ℕ) (xs rest : List Lexeme)
      → Begins most (var_words first ++ others) xs rest → length xs < g → length xs < m
      → LocalsEnd rest →
      Reads (SameVars (first ∷ those)) rest (greatest_of var_depth (first ∷ those)) limit
      (grouped g m xs)
  more_locals_at first those are others spells zero m xs rest b short few ends =
      absurd (omega arith)
  more_locals_at first those are others spells (suc g) zero xs rest b short few ends =
      absurd (omega arith)
  more_locals_at first [] are others spells (suc g) (suc m) xs rest b short few ends =
      let parts : Split most (var_words first) others xs rest = split (var_words first) others b in
      last_local first are.0 g (suc m) xs parts.middle rest parts.first
      (reword parts.middle rest spells parts.then) short few ends
  more_locals_at first (second ∷ those) are others spells (suc g) (suc m) xs rest b short few ends =
      later_local first second those are others spells.0 spells.2 g m xs rest b short few
      (λ f n ys c fewer less. more_locals_at second those are.1 spells.0 spells.1 f n ys rest c
      fewer less ends)

  -- { "var" vardef { vardef } }
  first_group : (first : VarDef) (those : List VarDef) → AllByRecursion IsVar (first ∷ those)
      → (others : List Word) → SpellsMoreLocals those others → (turns : ℕ) (xs rest : List Lexeme)
      → Begins most (word.Keyword key.Var ∷ (var_words first ++ others)) xs rest
      → length xs < suc turns → LocalsEnd rest →
      Reads (SameVars (first ∷ those)) rest (greatest_of var_depth (first ∷ those)) limit
      (locals (suc turns) (levels wide limit).expr xs)
  first_group first those are others spells turns xs rest (more w bytes place bound b) short ends =
      more_locals_at first those are others spells turns turns _ rest b (omega arith) (omega arith)
      ends

  locals_at : (those : List VarDef) → AllByRecursion IsVar those → (words : List Word)
      → SpellsLocals those words → (turns : ℕ) (xs rest : List Lexeme) → Begins most words xs rest
      → length xs < turns → LocalsEnd rest →
      Reads (SameVars those) rest (greatest_of var_depth those) limit
      (locals turns (levels wide limit).expr xs)
  locals_at those are words spells zero xs rest b short ends = absurd (omega arith)
  locals_at [] are words spells (suc turns) xs rest b short ends =
      nothing_left (reword xs rest spells b)
    where
      nothing_left : {xs : List Lexeme} → Begins most [] xs rest
          → Reads (SameVars []) rest 0 limit (locals (suc turns) (levels wide limit).expr xs)
      nothing_left (none bound) = rw (ends.var, locals) (read [] (zero_fits limit) refl)
  locals_at (first ∷ those) are words spells (suc turns) xs rest b short ends =
      first_group first those are spells.0 spells.1 turns xs rest (reword xs rest spells.2 b) short
      ends

  -- { prefix } block
  body_split : (at : ℕ) (before : List Prefix) (t : Stmts) → AreStmts t → (deeper spent : ℕ)
      → suc deeper + spent ≡ limit → (value : List Prefix) → SamePrefixes before value
      → (xs rest : List Lexeme)
      → Begins most (word.Keyword key.Begin ∷ (stmts_words t ++ end_words)) xs rest →
      Reads (SameBody (Prefixed at before (Block t))) rest
      (max (stmts_depth t) (stmts_nest t + suc spent)) limit
      (and_then (keyword key.Begin xs) (λ at after. made (λ those. Prefixed at value (Block those))
      (body_end (stmts most (stmt most (levels wide limit).expr deeper)) after)))
  body_split at before t are deeper spent e value same xs rest (more w bytes place bound b) =
      made_reads (λ those. Prefixed place value (Block those)) (λ those alike. cc)
      (body_end_at wide most limit fits t (stmts_all wide most limit fits t are) deeper spent e
      _ rest b)

  block_body_at : (at : ℕ) (before : List Prefix) (t : Stmts) → AllByRecursion IsPrefix before
      → AreStmts t → (deeper spent : ℕ) → suc deeper + spent ≡ limit → (xs rest : List Lexeme)
      → Begins most (stmt_words (Prefixed at before (Block t))) xs rest →
      Reads (SameBody (Prefixed at before (Block t))) rest
      (max (max (greatest_of prefix_depth before) (stmts_depth t)) (1 + stmts_nest t + spent))
      limit (body most (levels wide limit).expr deeper xs)
  block_body_at at before t prefixes_are are deeper spent e xs rest b =
      let parts : Split most (flat_map prefix_words before) (word.Keyword key.Begin ∷
      (stmts_words t ++ end_words)) xs rest =
      split (flat_map prefix_words before) (word.Keyword key.Begin ∷
      (stmts_words t ++ end_words)) b in
      weigh {n =
      max (greatest_of prefix_depth before) (max (stmts_depth t) (stmts_nest t + suc spent))}
      {d = limit} (λ k. omega arith) (λ k. omega arith)
      (then_reads _ (prefixes_at wide most limit fits before prefixes_are most xs parts.middle
      parts.first (bound_of parts.first)
      (at_head (λ those. next_is (kind.Symbol sym.OpenBracket) those
      ≡ false) (λ bytes at others. refl) parts.then))
      (λ value same. body_split at before t are deeper spent e value same parts.middle rest
      parts.then))

  body_at : (t : Stmt) → IsBody t → (deeper : ℕ) → suc deeper ≡ limit → (xs rest : List Lexeme)
      → Begins most (stmt_words t) xs rest
      → Reads (SameBody t) rest (max (stmt_depth t) (nest_depth t)) limit
      (body most (levels wide limit).expr deeper xs)
  body_at (Prefixed at before (Block t)) is deeper e xs rest b =
      weigh {n = max (max (greatest_of prefix_depth before) (stmts_depth t)) (1 + stmts_nest t + 0)}
      {d = limit} (λ k. omega arith) (λ k. omega arith) (block_body_at at before t is.0 is.1
      deeper 0 (omega arith) xs rest b)
  body_at (Prefixed at before (Assign called op value)) is deeper e xs rest b = absurd is
  body_at (Prefixed at before (Invoke called actuals)) is deeper e xs rest b = absurd is
  body_at (Prefixed at before (If arms otherwise)) is deeper e xs rest b = absurd is
  body_at (Prefixed at before (While test body)) is deeper e xs rest b = absurd is
  body_at (Prefixed at before (Repeat body until test)) is deeper e xs rest b = absurd is
  body_at (Prefixed at before (For head body)) is deeper e xs rest b = absurd is
  body_at (Prefixed at before (Border kind names)) is deeper e xs rest b = absurd is
  body_at (Prefixed at before (Write line items)) is deeper e xs rest b = absurd is
  body_at (Prefixed at before (Return value)) is deeper e xs rest b = absurd is

  body_ends : (t : Stmt) → IsBody t → {xs rest : List Lexeme} → Begins most (stmt_words t) xs rest
      → LocalsEnd xs
  body_ends (Prefixed at [] (Block t)) is (more w bytes place bound b) =
      record { var = refl; named = refl }
  body_ends (Prefixed at (first ∷ before) (Block t)) is (more w bytes place bound b) =
      record { var = refl; named = refl }
  body_ends (Prefixed at before (Assign called op value)) is b = absurd is
  body_ends (Prefixed at before (Invoke called actuals)) is b = absurd is
  body_ends (Prefixed at before (If arms otherwise)) is b = absurd is
  body_ends (Prefixed at before (While test body)) is b = absurd is
  body_ends (Prefixed at before (Repeat body until test)) is b = absurd is
  body_ends (Prefixed at before (For head body)) is b = absurd is
  body_ends (Prefixed at before (Border kind names)) is b = absurd is
  body_ends (Prefixed at before (Write line items)) is b = absurd is
  body_ends (Prefixed at before (Return value)) is b = absurd is

  -- a procedure behind its keyword
  procedure_parts : (t : Procedure) → IsProcedure t → (local_words : List Word)
      → SpellsLocals t.locals local_words → (deeper : ℕ) → suc deeper ≡ limit
      → (place : ℕ) (xs rest : List Lexeme) →
      Begins most
      (((((params_words t.params ++ word.Symbol sym.CloseParen ∷ []) ++ result_words t.result)
      ++ word.Symbol sym.Semicolon ∷ []) ++ local_words) ++ stmt_words t.body) xs rest →
      Reads (SameProcedure t) rest (procedure_depth t) limit
      (and_then (params most (levels wide limit).expr xs) (λ those behind_params.
      and_then (result behind_params) (λ type behind_result.
      and_then (symbol sym.Semicolon behind_result) (λ semicolon behind_heading.
      and_then (locals most (levels wide limit).expr behind_heading) (λ own last.
      made (λ what. record {
        name = record { text = t.name.text; at = place };
        params =
            those;
        result = type;
        locals = own;
        body =
            what;
      }) (body most (levels wide limit).expr deeper last))))))
  procedure_parts t is local_words spells deeper e place xs rest b =
      let front : List Word = (params_words t.params ++ word.Symbol sym.CloseParen ∷ []) ++
      result_words t.result in
      let one : Split most ((front ++ word.Symbol sym.Semicolon ∷ []) ++ local_words)
      (stmt_words t.body) xs rest =
      split ((front ++ word.Symbol sym.Semicolon ∷ []) ++ local_words) (stmt_words t.body) b in
      let two : Split most (front ++ word.Symbol sym.Semicolon ∷ []) local_words xs one.middle =
      split (front ++ word.Symbol sym.Semicolon ∷ []) local_words one.first in
      let three : Split most front (word.Symbol sym.Semicolon ∷ []) xs two.middle =
      split front (word.Symbol sym.Semicolon ∷ []) two.first in
      let four : Split most (params_words t.params ++ word.Symbol sym.CloseParen ∷
      []) (result_words t.result) xs three.middle =
      split (params_words t.params ++ word.Symbol sym.CloseParen ∷ []) (result_words t.result)
      three.first in
      weigh {n =
      max (greatest_of param_depth t.params)
      (max 0 (max 0 (max (greatest_of var_depth t.locals)
      (max (stmt_depth t.body) (nest_depth t.body)))))} {d =
      limit} (λ k. omega arith) (λ k. omega arith)
      (then_reads _ (params_at t.params is.0 xs four.middle four.first)
      (λ those same.
      then_reads _ (result_at t.result four.middle three.middle four.then
      (at_head (λ those. next_is (kind.Symbol sym.Colon) those ≡ false) (λ bytes at others.
      refl) three.then))
      (λ type alike. then_reads _ (symbol_reads sym.Semicolon {d = limit} three.then)
      (λ semicolon any. then_reads _ (locals_at t.locals is.1 local_words spells most two.middle
      one.middle two.then (bound_of two.then) (body_ends t.body is.2 one.then))
      (λ own equal. made_reads (λ what. record {
        name = record { text = t.name.text; at = place };
        params = those;
        result = type;
        locals = own;
        body = what;
      }) (λ what even. cc)
      (body_at t.body is.2 deeper e one.middle rest one.then))))))

  procedure_at : (t : Procedure) → IsProcedure t → (local_words : List Word)
      → SpellsLocals t.locals local_words → (deeper : ℕ) → suc deeper ≡ limit
      → (xs rest : List Lexeme) →
      Begins most (word.Name t.name.text ∷ word.Symbol sym.OpenParen ∷
      (((((params_words t.params ++ word.Symbol sym.CloseParen ∷ []) ++ result_words t.result)
      ++ word.Symbol sym.Semicolon ∷ []) ++ local_words) ++ stmt_words t.body)) xs rest →
      Reads (SameProcedure t) rest (procedure_depth t) limit
      (procedure most (levels wide limit).expr deeper xs)
  procedure_at t is local_words spells deeper e xs rest
      (more w bytes place bound (more v other where_at after b)) =
      procedure_parts t is local_words spells deeper e place _ rest b

  -- what names a definition
  named_first : {name : List ℕ} {words : List Word} (spelled : List Word) (xs rest : List Lexeme)
      → spelled ≡ word.Name name ∷ words → Begins most spelled xs rest
      → (next_is kind.Name xs ≡ true) × (length rest < length xs)
  named_first {name = name} {words = words} spelled xs rest e b = go (reword xs rest e b)
    where
      go : {xs : List Lexeme} → Begins most (word.Name name ∷ words) xs rest
          → (next_is kind.Name xs ≡ true) × (length rest < length xs)
      go b = (
        at_head (λ those. next_is kind.Name those ≡ true) (λ bytes at others. refl) b,
        shorter_by_one b,
      )

  defines_at : (those : List Define) → HasAny those → AllByRecursion IsDefine those
      → (xs rest : List Lexeme) → Begins most (flat_map define_words those) xs rest
      → next_is kind.Name rest ≡ false →
      Reads (λ value. map define_shape value ≡ map define_shape those) rest
      (greatest_of define_depth those) limit (group most (define (levels wide limit).expr) xs)
  defines_at those has are xs rest b ends =
      group_at most limit (define (levels wide limit).expr) define_shape define_depth IsDefine
      (λ t words. words ≡ define_words t) (λ t is words xs rest spells b.
      named_first words xs rest spells b) (λ t is words spells xs rest b.
      define_at t is words spells xs rest b)
      those has are (flat_map define_words those) (each_of define_words those) most xs rest b
      (bound_of b) ends

  directions_at : (those : List DirDef) → HasAny those → AllByRecursion IsDirection those
      → (xs rest : List Lexeme) → Begins most (flat_map direction_words those) xs rest
      → next_is kind.Name rest ≡ false →
      Reads (λ value. map direction_shape value ≡ map direction_shape those) rest
      (greatest_of direction_depth those) limit
      (group most (direction most (levels wide limit).expr) xs)
  directions_at those has are xs rest b ends =
      group_at most limit (direction most (levels wide limit).expr) direction_shape direction_depth
      IsDirection (λ t words. words ≡ direction_words t) (λ t is words xs rest spells b.
      named_first words xs rest spells b) (λ t is words spells xs rest b.
      direction_at t is words spells xs rest b)
      those has are (flat_map direction_words those) (each_of direction_words those) most xs rest b
      (bound_of b) ends

  vars_at : (those : List VarDef) → HasAny those → AllByRecursion IsVar those
      → (xs rest : List Lexeme) → Begins most (flat_map var_words those) xs rest
      → next_is kind.Name rest ≡ false →
      Reads (SameVars those) rest (greatest_of var_depth those) limit
      (group most (variables most (levels wide limit).expr) xs)
  vars_at those has are xs rest b ends =
      group_at most limit (variables most (levels wide limit).expr) var_shape var_depth IsVar
      (λ t words. words ≡ var_words t) (λ t is words xs rest spells b.
      var_named t is (reword xs rest spells b)) (λ t is words spells xs rest b.
      variables_at most t is xs rest (reword xs rest spells b) (let short = bound_of b in
      omega arith))
      those has are (flat_map var_words those) (each_of var_words those) most xs rest b (bound_of b)
      ends

  region_named : (t : RegionDef) (words : List Word) → SpellsRegion t words
      → (xs rest : List Lexeme) → Begins most words xs rest → (next_is kind.Name xs ≡ true) ×
      (length rest < length xs)
  region_named t words (inl spells) xs rest b = named_first words xs rest spells b
  region_named t words (inr spells) xs rest b = named_first words xs rest spells.2 b

  regions_at : (those : List RegionDef) → HasAny those → AllByRecursion IsRegion those
      → (words : List Word) → SpellsEach SpellsRegion those words → (xs rest : List Lexeme)
      → Begins most words xs rest → next_is kind.Name rest ≡ false →
      Reads (λ value. map region_shape value ≡ map region_shape those) rest
      (greatest_of region_depth those) limit (group most (region most (levels wide limit).expr)
      xs)
  regions_at those has are words spells xs rest b ends =
      group_at most limit (region most (levels wide limit).expr) region_shape region_depth IsRegion
      SpellsRegion (λ t is words xs rest spells b. region_named t words spells xs rest b)
      (λ t is words spells xs rest b. region_at t is words spells xs rest b)
      those has are words spells most xs rest b (bound_of b) ends

  -- a declaration behind its keyword, and what goes on with none of its definitions behind it
  abbrev DeclAt : Decl → List Word → Type 0
  DeclAt t words = (deeper : ℕ) → suc deeper ≡ limit → (xs rest : List Lexeme)
      → Begins (suc most) words xs rest → next_is kind.Name rest ≡ false →
      Reads (SameDecl t) rest (decl_depth t) limit (decl_by most (levels wide limit).expr deeper
      (part_of (head_kind xs)) xs)

  config_at : (those : List Define) → HasAny those → AllByRecursion IsDefine those
      → DeclAt (Config those) (word.Keyword key.Config ∷ word.Keyword key.Var ∷
      flat_map define_words those)
  config_at those has are deeper e xs rest
      (more w bytes place bound (more v other where_at after b)) ends =
      made_reads Config (λ value same. ap Config same)
      (defines_at those has are _ rest (narrower (omega arith) b) ends)

  constant_at : (those : List Define) → HasAny those → AllByRecursion IsDefine those
      → DeclAt (Constant those) (word.Keyword key.Constant ∷ flat_map define_words those)
  constant_at those has are deeper e xs rest (more w bytes place bound b) ends =
      made_reads Constant (λ value same. ap Constant same)
      (defines_at those has are _ rest (narrower (omega arith) b) ends)

  directions_decl : (those : List DirDef) → HasAny those → AllByRecursion IsDirection those
      → DeclAt (Directions those) (word.Keyword key.Direction ∷ flat_map direction_words those)
  directions_decl those has are deeper e xs rest (more w bytes place bound b) ends =
      made_reads Directions (λ value same. ap Directions same)
      (directions_at those has are _ rest (narrower (omega arith) b) ends)

  vars_decl : (those : List VarDef) → HasAny those → AllByRecursion IsVar those
      → DeclAt (Vars those) (word.Keyword key.Var ∷ flat_map var_words those)
  vars_decl those has are deeper e xs rest (more w bytes place bound b) ends =
      made_reads Vars (λ value same. ap Vars same)
      (vars_at those has are _ rest (narrower (omega arith) b) ends)

  regions_decl : (those : List RegionDef) → HasAny those → AllByRecursion IsRegion those
      → (words : List Word) → SpellsEach SpellsRegion those words
      → DeclAt (Regions those) (word.Keyword key.Region ∷ words)
  regions_decl those has are words spells deeper e xs rest (more w bytes place bound b) ends =
      made_reads Regions (λ value same. ap Regions same) (regions_at those has are words spells _
      rest (narrower (omega arith) b) ends)

  procedure_decl : (t : Procedure) → IsProcedure t → (local_words : List Word)
      → SpellsLocals t.locals local_words
      → DeclAt (Defined t) ((heading_words t ++ local_words) ++ stmt_words t.body)
  procedure_decl t is local_words spells deeper e xs rest (more w bytes place bound b) ends =
      made_reads Defined (λ value same. ap Defined same) (procedure_at t is local_words spells
      deeper e _ rest (narrower (omega arith) b))

  decl_at : (t : Decl) → IsDecl t → (words : List Word) → SpellsDecl t words → DeclAt t words
  decl_at (Config those) is words spells deeper e xs rest b ends =
      config_at those is.0 is.1 deeper e xs rest (reword xs rest spells b) ends
  decl_at (Constant those) is words spells deeper e xs rest b ends =
      constant_at those is.0 is.1 deeper e xs rest (reword xs rest spells b) ends
  decl_at (Regions those) is words spells deeper e xs rest b ends =
      regions_decl those is.0 is.1 spells.0 spells.1 deeper e xs rest (reword xs rest spells.2 b)
      ends
  decl_at (Directions those) is words spells deeper e xs rest b ends =
      directions_decl those is.0 is.1 deeper e xs rest (reword xs rest spells b) ends
  decl_at (Vars those) is words spells deeper e xs rest b ends =
      vars_decl those is.0 is.1 deeper e xs rest (reword xs rest spells b) ends
  decl_at (Defined t) is words spells deeper e xs rest b ends =
      procedure_decl t is spells.0 spells.1 deeper e xs rest (reword xs rest spells.2 b) ends

-- how a declaration begins
pub record OpensDecl (xs rest : List Lexeme) : Type 0 where
  pub plain : next_is kind.End xs ≡ false
  pub named : next_is kind.Name xs ≡ false
  pub fewer : length rest < length xs

module _ {most : ℕ} where
  keyword_opens : {k : Key} {words : List Word} {xs rest : List Lexeme}
      → Begins most (word.Keyword k ∷ words) xs rest → OpensDecl xs rest
  keyword_opens b =
      record {
        plain =
            at_head (λ those. next_is kind.End those ≡ false) (λ bytes at others. refl) b;
        named =
            at_head (λ those. next_is kind.Name those ≡ false) (λ bytes at others. refl) b;
        fewer =
            shorter_by_one b;
      }

  decl_opens : (t : Decl) (words : List Word) → SpellsDecl t words → (xs rest : List Lexeme)
      → Begins most words xs rest → OpensDecl xs rest
  decl_opens (Config those) words spells xs rest b = keyword_opens (reword xs rest spells b)
  decl_opens (Constant those) words spells xs rest b = keyword_opens (reword xs rest spells b)
  decl_opens (Regions those) words spells xs rest b = keyword_opens (reword xs rest spells.2 b)
  decl_opens (Directions those) words spells xs rest b = keyword_opens (reword xs rest spells b)
  decl_opens (Vars those) words spells xs rest b = keyword_opens (reword xs rest spells b)
  decl_opens (Defined t) words spells xs rest b = keyword_opens (reword xs rest spells.2 b)

  decls_named : (those : List Decl) (words : List Word) → SpellsEach SpellsDecl those words
      → (xs middle rest : List Lexeme) → Begins most words xs middle
      → Begins most (word.End ∷ []) middle rest → next_is kind.Name xs ≡ false
  decls_named [] words spells xs middle rest b c = go (reword xs middle spells b) c
    where
      go : {xs middle rest : List Lexeme} → Begins most [] xs middle
          → Begins most (word.End ∷ []) middle rest → next_is kind.Name xs ≡ false
      go (none bound) (more w bytes at limit c) = refl
  decls_named (first ∷ others) words spells xs middle rest b c =
      let parts : Split most spells.0 spells.1 xs middle =
      split spells.0 spells.1 (reword xs middle spells.4 b) in
      (decl_opens first spells.0 spells.2 xs parts.middle parts.first).named

-- { decl } END
module _ (wide limit deeper : ℕ) (e : suc deeper ≡ limit) where
  no_decls : (turns : ℕ) {xs middle rest : List Lexeme} → Begins wide [] xs middle
      → Begins wide (word.End ∷ []) middle rest
      → Reads (SameDecls []) rest 0 limit (decls (suc turns) (levels wide limit).expr deeper xs)
  no_decls turns (none bound) (more w bytes at after (none last)) = read [] (zero_fits limit) refl

  pub decls_at : (those : List Decl) → AllByRecursion IsDecl those → (words : List Word)
      → SpellsEach SpellsDecl those words → (turns : ℕ) (xs middle rest : List Lexeme)
      → Begins wide words xs middle → Begins wide (word.End ∷ []) middle rest → length xs < turns
      → turns ≤ wide →
      Reads (SameDecls those) rest (greatest_of decl_depth those) limit
      (decls turns (levels wide limit).expr deeper xs)
  decls_at those are words spells zero xs middle rest b c short fits = absurd (omega arith)
  decls_at [] are words spells (suc turns) xs middle rest b c short fits =
      no_decls turns (reword xs middle spells b) c
  decls_at (first ∷ others) are words spells (suc turns) xs middle rest b c short fits =
      let parts : Split wide spells.0 spells.1 xs middle =
      split spells.0 spells.1 (reword xs middle spells.4 b) in
      let opens : OpensDecl xs parts.middle =
      decl_opens first spells.0 spells.2 xs parts.middle parts.first in
      let fewer = opens.fewer in
      rw (
        opens.plain,
        decls,
      ) (then_reads _ (decl_at wide turns limit (omega arith) first are.0 spells.0 spells.2
      deeper e xs parts.middle (narrower short parts.first)
      (decls_named others spells.1 spells.3 parts.middle middle rest parts.then c))
      (λ value same. made_reads (λ those. value ∷ those) (λ those alike. cc)
      (decls_at others are.1 spells.1 spells.3 turns parts.middle middle rest parts.then c
      (omega arith) (omega arith))))
