-- Soundness of the rules of declarations and of whole programs.
use Rattle.std.proofs.Common.{◌≡◌, inl, inr, ℕ, zero, suc, ◌≤◌, max, if◌then◌else◌, Bool, true, false, List, [], ◌∷◌, ◌++◌, Option, Some, None, refl, sym, ap, subst, ◌∙◌, arith, append_assoc}
use Rattle.std.specs.Bool.{⊤}
use Rattle.std.proofs.lemmas.Bool.{false≢true}
use Rattle.std.specs.List.{flat_map, AllByRecursion}
use Rattle.zpl_tokens.specs.declared.Kind.TheVariants as kind
use Rattle.zpl_tokens.specs.declared.keywords.Key.TheVariants as key
use Rattle.zpl_tokens.specs.declared.symbols.Sym.TheVariants as sym
use Rattle.zpl_tree.specs.Syntax.{Name, Expr, Other, VarDef, Decl, Config, Constant, Regions, Directions, Vars, Defined, Program}
use Rattle.zpl_tree.specs.Spelling.{symbol, keyword, name_words, type_words, define_words, direction_words, var_words, param_words, result_words, params_words, stmt_words}
use Rattle.zpl_tree.specs.Grammar.{HasAny, IsDefine, IsRegion, IsDirection, IsVar, IsParam, IsBody, IsProcedure, IsDecl, SpellsEach, SpellsRegion, SpellsMoreLocals, SpellsLocals, SpellsProcedure, SpellsDecl, Spells}
use Rattle.zpl_tree.specs.Depth.{greatest_of, define_depth, region_depth, direction_depth, var_depth, param_depth, procedure_depth, stmt_depth, nest_depth, decl_depth, depth}
use Rattle.zpl_tree.specs.Word.{Word, kind_of}
use Rattle.zpl_tree.specs.Word as word
use Rattle.zpl_parse.specs.declared.classes.Part.{Part}
use Rattle.zpl_parse.specs.declared.classes.Part.TheVariants as part
use Rattle.zpl_grammar.specs.Lexeme.{Lexeme, head_kind, behind}
use Rattle.zpl_parse.specs.Outcome.{Outcome, Done, Wrong, Deep, Reader, and_then, made}
use Rattle.zpl_parse.specs.Classes.{part_of}
use Rattle.zpl_parse.specs.Tokens.{next_is, expect, name}
use Rattle.zpl_parse.specs.Expressions.{levels}
use Rattle.zpl_parse.specs.Statements.{stmts, stmt}
use Rattle.zpl_grammar.specs.Texts.{most_deep}
use Rattle.zpl_parse.specs.Declarations.{base, group, define, region_body, region, direction, variables, formals, param, some_params, params, result, locals, body, procedure, decl_by, decls, program}
use Rattle.zpl_parse.proofs.Sound.Base.{Takes, nothing, Past, here, past_then, takes_then, IsSound, Spelled, done, wrong, behind_words, weaken, step, step_says, finish, made_says, choose}
use Rattle.zpl_parse.proofs.Sound.Tokens.{IsSign, at_sign, expect_sound, sign, last_sign, name_sound, names_sound, one_more, takes_head, same_is_end}
use Rattle.zpl_parse.proofs.Sound.Classes.{IsPart, part_is}
use Rattle.zpl_parse.proofs.Sound.Expressions.{IsGood, SaysExpr, levels_sound, components_sound, in_bracket_sound, posts_sound, rexpr_sound, bracket_sound}
use Rattle.zpl_parse.proofs.Sound.Statements.{IsNest, prefixes_sound, stmts_sound, body_end_sound, stmt_sound}

pub greater : (a b d : ℕ) → a ≤ d → b ≤ d → max a b ≤ d
greater a b d p q = omega arith

pub base_sound : (lexemes : List Lexeme)
    → IsSound (Spelled type_words (λ base. ⊤)) lexemes (base lexemes)
base_sound lexemes = at_sign (word.Keyword key.Integer) tt lexemes (done (refl, tt))
    (at_sign (word.Keyword key.Boolean) tt lexemes (done (refl, tt))
    (finish Other (name_sound lexemes) (λ called fact. (refl, tt))))

-- one or more definitions of which each is spelled in one of its ways
abbrev pub SaysEach : {A : Type 0} → (A → List Word → Type 0) → (A → Type 0) → (A → ℕ) → ℕ → List A
    → List Word → Type 0
SaysEach Spells_one Is depth_of d xs words =
    SpellsEach Spells_one xs words ×
    IsGood (λ xs. HasAny xs × AllByRecursion Is xs) (greatest_of depth_of) d xs

pub each_group_sound : {A : Type 0} (Spells_one : A → List Word → Type 0) (Is : A
    → Type 0) (depth_of : A → ℕ) (d : ℕ) (definition : Reader A) →
    ((lexemes : List Lexeme)
    → IsSound (λ x words. Spells_one x words × IsGood Is depth_of d x) lexemes
    (definition lexemes)) → (most : ℕ) (lexemes : List Lexeme) →
    IsSound (SaysEach Spells_one Is depth_of d) lexemes (group most definition lexemes)
each_group_sound Spells_one Is depth_of d definition sound zero lexemes = wrong
each_group_sound Spells_one Is depth_of d definition sound (suc most) lexemes =
    step_says (sound lexemes) (λ first rest words says.
    choose (next_is kind.Name rest)
    (λ begins. made_says (λ others. first ∷
    others) (weaken (each_group_sound Spells_one Is depth_of d definition sound most rest)
    (λ others more tells. (
      (words, more, says.0, tells.0, refl),
      record {
        is = (tt, (says.1.is, tells.1.is.1));
        depth =
            greater (depth_of first) (greatest_of depth_of others) d says.1.depth tells.1.depth;
      },
    ))))
    (λ other. done (
      (words, [], says.0, refl, refl),
      record {
        is = (tt, (says.1.is, tt));
        depth =
            greater (depth_of first) 0 d says.1.depth (omega arith);
      },
    )))

pub each_flat : {A : Type 0} (spelling : A → List Word) (xs : List A) (words : List Word)
    → SpellsEach (λ x w. w ≡ spelling x) xs words → words ≡ flat_map spelling xs
each_flat spelling [] words e = e
each_flat spelling (x ∷ xs) words (front, back, here_is, there, e) =
    e ∙ (ap (λ w. w ++ back) here_is ∙ ap (λ w. spelling x ++ w) (each_flat spelling xs back there))

pub group_sound : {A : Type 0} (spelling : A → List Word) (Is : A → Type 0) (depth_of : A
    → ℕ) (d : ℕ) (definition : Reader A) →
    ((lexemes : List Lexeme)
    → IsSound (Spelled spelling (IsGood Is depth_of d)) lexemes (definition lexemes))
    → (most : ℕ) (lexemes : List Lexeme) →
    IsSound (Spelled (flat_map spelling) (IsGood (λ xs. HasAny xs × AllByRecursion Is xs)
    (greatest_of depth_of) d)) lexemes (group most definition lexemes)
group_sound spelling Is depth_of d definition sound most lexemes =
    weaken (each_group_sound (λ x w. w ≡ spelling x) Is depth_of d definition sound most lexemes)
    (λ xs words says. (each_flat spelling xs words says.0, says.1))

-- several groups of local variables
pub more_from_locals : (vars : List VarDef) (words : List Word) → SpellsLocals vars words
    → SpellsMoreLocals vars words
more_from_locals [] words e = e
more_from_locals (first ∷ rest) words (others, more, e) = (others, more, inr e)

pub more_locals : (vars others : List VarDef) (words : List Word) → SpellsLocals others words
    → SpellsMoreLocals (vars ++ others) (flat_map var_words vars ++ words)
more_locals [] others words spells = more_from_locals others words spells
more_locals (first ∷ rest) others words spells = (
  flat_map var_words rest ++ words,
  more_locals rest others words spells,
  inl (append_assoc (var_words first) (flat_map var_words rest) words),
)

pub locals_then : (vars others : List VarDef) (words : List Word) → HasAny vars
    → SpellsLocals others words
    → SpellsLocals (vars ++ others) (word.Keyword key.Var ∷ (flat_map var_words vars ++ words))
locals_then [] others words has spells = absurd has
locals_then (first ∷ rest) others words has spells = (
  flat_map var_words rest ++ words,
  more_locals rest others words spells,
  ap (λ w. word.Keyword key.Var ∷ w) (append_assoc (var_words first) (flat_map var_words rest)
      words),
)

pub all_then : {A : Type 0} (Is : A → Type 0) (xs ys : List A) → AllByRecursion Is xs
    → AllByRecursion Is ys → AllByRecursion Is (xs ++ ys)
all_then Is [] ys all more = more
all_then Is (x ∷ xs) ys all more = (all.0, all_then Is xs ys all.1 more)

pub greatest_then : {A : Type 0} (f : A → ℕ) (d : ℕ) (xs ys : List A) → greatest_of f xs ≤ d
    → greatest_of f ys ≤ d → greatest_of f (xs ++ ys) ≤ d
greatest_then f d [] ys a b = b
greatest_then f d (x ∷ xs) ys a b =
    greater (f x) (greatest_of f (xs ++ ys)) d (omega arith) (greatest_then f d xs ys (omega arith)
    b)

-- an outcome that has taken the end, too
abbrev pub TellsWhole : {A : Type 0} → (A → List Word → Type 0) → List Lexeme → Outcome A → Type 0
TellsWhole Says lexemes (Done tree rest) = (words : List Word) × (end : Lexeme) ×
    Takes lexemes words (end ∷ rest) × (end.kind ≡ kind.End) × Says tree words
TellsWhole Says lexemes (Wrong rest) = Past lexemes rest
TellsWhole Says lexemes (Deep rest) = Past lexemes rest

pub record IsWhole {A : Type 0} (Says : A → List Word
    → Type 0) (lexemes : List Lexeme) (outcome : Outcome A) : Type 0 where
  pub tells : TellsWhole Says lexemes outcome

pub behind_whole : {A : Type 0} {Says : A → List Word → Type 0} {lexemes rest : List Lexeme}
    {words : List Word} (outcome : Outcome A) → Takes lexemes words rest →
    IsWhole (λ tree more. Says tree (words ++ more)) rest outcome → IsWhole Says lexemes outcome
behind_whole {words = words} (Done tree rest) takes whole =
    record {
      tells = (
        words ++ whole.tells.0,
        whole.tells.1,
        takes_then takes whole.tells.2,
        whole.tells.3,
        whole.tells.4,
      );
    }
behind_whole (Wrong rest) takes whole = record { tells = past_then takes whole.tells }
behind_whole (Deep rest) takes whole = record { tells = past_then takes whole.tells }

pub whole_then : {A B : Type 0} (Other_says : A → List Word → Type 0) (Says : B → List Word
    → Type 0) (lexemes : List Lexeme) (outcome : Outcome A) (next : A → Reader B) →
    IsSound Other_says lexemes outcome →
    ((tree : A) (rest : List Lexeme) (words : List Word) → Other_says tree words
    → IsWhole (λ made more. Says made (words ++ more)) rest (next tree rest)) →
    IsWhole Says lexemes (and_then outcome next)
whole_then Other_says Says lexemes (Done tree rest) next sound so =
    behind_whole (next tree rest) sound.tells.1 (so tree rest sound.tells.0 sound.tells.2)
whole_then Other_says Says lexemes (Wrong rest) next sound so = record { tells = sound.tells }
whole_then Other_says Says lexemes (Deep rest) next sound so = record { tells = sound.tells }

pub made_whole : {A B : Type 0} (Other_says : A → List Word → Type 0) (Says : B → List Word
    → Type 0) (lexemes : List Lexeme) (f : A → B) (outcome : Outcome A) →
    IsWhole Other_says lexemes outcome → ((tree : A) (words : List Word) → Other_says tree words
    → Says (f tree) words) → IsWhole Says lexemes (made f outcome)
made_whole Other_says Says lexemes f (Done tree rest) whole so =
    record {
      tells = (
        whole.tells.0,
        whole.tells.1,
        whole.tells.2,
        whole.tells.3,
        so tree whole.tells.0 whole.tells.4,
      );
    }
made_whole Other_says Says lexemes f (Wrong rest) whole so = record { tells = whole.tells }
made_whole Other_says Says lexemes f (Deep rest) whole so = record { tells = whole.tells }

-- the rules over one of expressions
module _ (d : ℕ) (expr : Reader Expr) (sound : (lexemes : List Lexeme)
    → IsSound (SaysExpr 0 d) lexemes (expr lexemes)) where
  pub define_sound : (lexemes : List Lexeme)
      → IsSound (Spelled define_words (IsGood IsDefine define_depth d)) lexemes
      (define expr lexemes)
  define_sound lexemes =
      step (name_sound lexemes) (λ defined rest fact.
      sign (word.Symbol sym.Colon) tt (λ colon behind_colon.
      step (base_sound behind_colon) (λ type behind_base fact'.
      sign (word.Symbol sym.Equal) tt (λ equal behind_equal.
      step (sound behind_equal) (λ value last good.
      last_sign (word.Symbol sym.Semicolon) tt _ (
        simp append_assoc,
        record {
          is = good.is;
          depth =
              good.depth;
        },
      ))))))

  pub region_body_sound : (most : ℕ) (defined : Name) (lexemes : List Lexeme) →
      IsSound (λ definition more. SpellsRegion definition (word.Name defined.text ∷
      word.Symbol sym.Equal ∷ (more ++ symbol sym.Semicolon)) ×
      IsGood IsRegion region_depth d definition) lexemes
      (region_body most expr defined lexemes)
  region_body_sound most defined lexemes = choose (next_is (kind.Symbol sym.OpenBracket) lexemes)
      (λ begins. step (in_bracket_sound d expr sound most lexemes) (λ body rest good.
      finish _ (posts_sound d expr sound most rest) (λ those more. (
        inl (simp append_assoc),
        record { is = (good.is, more.is); depth = omega arith },
      ))))
      (λ other. finish _ (rexpr_sound d expr sound most lexemes) (λ body good.
      (inr (good.is.1, tt, refl), record { is = (good.is.0, tt); depth = omega arith })))

  pub region_sound : (most : ℕ) (lexemes : List Lexeme)
      → IsSound (λ definition words. SpellsRegion definition words ×
      IsGood IsRegion region_depth d definition) lexemes (region most expr lexemes)
  region_sound most lexemes =
      step (name_sound lexemes) (λ defined rest fact.
      sign (word.Symbol sym.Equal) tt (λ equal after.
      step_says (region_body_sound most defined after) (λ definition last words says.
      last_sign (word.Symbol sym.Semicolon) tt definition says)))

  pub direction_sound : (most : ℕ) (lexemes : List Lexeme)
      → IsSound (Spelled direction_words (IsGood IsDirection direction_depth d)) lexemes
      (direction most expr lexemes)
  direction_sound most lexemes =
      step (name_sound lexemes) (λ defined rest fact.
      sign (word.Symbol sym.Equal) tt (λ equal after.
      sign (word.Symbol sym.OpenBracket) tt (λ at inside.
      step (components_sound d expr sound most inside) (λ parts last good.
      last_sign (word.Symbol sym.Semicolon) tt _ (
        simp append_assoc,
        record {
          is = good.is;
          depth =
              good.depth;
        },
      )))))

  pub variables_sound : (most : ℕ) (lexemes : List Lexeme)
      → IsSound (Spelled var_words (IsGood IsVar var_depth d)) lexemes (variables most expr lexemes)
  variables_sound most lexemes =
      step (names_sound most lexemes) (λ those rest has.
      sign (word.Symbol sym.Colon) tt (λ colon after.
      step (bracket_sound d expr sound most after) (λ shape behind_shape good.
      step (base_sound behind_shape) (λ type last fact.
      last_sign (word.Symbol sym.Semicolon) tt _ (
        simp append_assoc,
        record {
          is =
              (has, good.is);
          depth = good.depth;
        },
      )))))

  pub formals_sound : (most : ℕ) (by_ref : Bool) (lexemes : List Lexeme) →
      IsSound (λ param more. Spelled param_words (IsGood IsParam param_depth d) param
      ((if by_ref then keyword key.Var else []) ++ more)) lexemes
      (formals most expr by_ref lexemes)
  formals_sound most by_ref lexemes =
      step (names_sound most lexemes) (λ those rest has.
      sign (word.Symbol sym.Colon) tt (λ colon after.
      step (bracket_sound d expr sound most after) (λ shape last good.
      finish _ (base_sound last) (λ type fact. (
        simp append_assoc,
        record {
          is =
              (has, good.is);
          depth = good.depth;
        },
      )))))

  pub param_sound : (most : ℕ) (lexemes : List Lexeme)
      → IsSound (Spelled param_words (IsGood IsParam param_depth d)) lexemes
      (param most expr lexemes)
  param_sound most lexemes =
      at_sign (word.Keyword key.Var) tt lexemes (formals_sound most true (behind lexemes))
      (formals_sound most false lexemes)

  pub some_params_sound : (most : ℕ) (lexemes : List Lexeme) →
      IsSound (Spelled params_words (IsGood (λ those. HasAny those × AllByRecursion IsParam those)
      (greatest_of param_depth) d)) lexemes (some_params most expr lexemes)
  some_params_sound zero lexemes = wrong
  some_params_sound (suc most) lexemes = step (param_sound most lexemes) (λ first rest good.
      at_sign (word.Symbol sym.Semicolon) tt rest
      (finish (λ others. first ∷ others) (some_params_sound most (behind rest)) (λ others more. (
        ap (λ w. param_words first ++ w) (one_more (word.Symbol sym.Semicolon ∷ []) param_words
            others more.is.0),
        record { is = (tt, (good.is, more.is.1)); depth = omega arith },
      )))
      (done (refl, record { is = (tt, (good.is, tt)); depth = omega arith })))

  pub params_sound : (most : ℕ) (lexemes : List Lexeme) →
      IsSound (Spelled (λ those. params_words those ++ symbol sym.CloseParen)
      (IsGood (AllByRecursion IsParam) (greatest_of param_depth) d)) lexemes
      (params most expr lexemes)
  params_sound most lexemes = at_sign (word.Symbol sym.CloseParen) tt lexemes
      (done (refl, record { is = tt; depth = omega arith }))
      (step (some_params_sound most lexemes) (λ those rest good.
      last_sign (word.Symbol sym.CloseParen) tt those (
        refl,
        record {
          is = good.is.1;
          depth =
              good.depth;
        },
      )))

  pub result_sound : (lexemes : List Lexeme)
      → IsSound (Spelled result_words (λ result. ⊤)) lexemes (result lexemes)
  result_sound lexemes =
      at_sign (word.Symbol sym.Colon) tt lexemes (finish Some (base_sound (behind lexemes))
      (λ type fact. (refl, tt))) (done (refl, tt))

  pub locals_sound : (most : ℕ) (lexemes : List Lexeme) →
      IsSound (λ vars words. SpellsLocals vars words ×
      IsGood (AllByRecursion IsVar) (greatest_of var_depth) d vars) lexemes
      (locals most expr lexemes)
  locals_sound zero lexemes = wrong
  locals_sound (suc most) lexemes = at_sign (word.Keyword key.Var) tt lexemes
      (step (group_sound var_words IsVar var_depth d (variables most expr) (variables_sound most)
      most (behind lexemes)) (λ first rest good.
      made_says (λ others. first ++ others) (weaken (locals_sound most rest) (λ others words says. (
        locals_then first others words good.is.0 says.0,
        record {
          is = all_then IsVar first others good.is.1 says.1.is;
          depth = greatest_then var_depth d first others good.depth says.1.depth;
        },
      )))))
      (done (refl, record { is = tt; depth = omega arith }))

  pub body_sound : (most deep : ℕ) (lexemes : List Lexeme)
      → IsSound (Spelled stmt_words (IsNest IsBody stmt_depth d nest_depth (suc deep))) lexemes
      (body most expr deep lexemes)
  body_sound most deep lexemes =
      step (prefixes_sound d expr sound most lexemes) (λ before rest good.
      step (expect_sound (word.Keyword key.Begin) tt rest) (λ at after fact.
      finish _ (body_end_sound d expr sound deep (stmts most (stmt most expr deep))
      (stmts_sound d expr sound deep (stmt most expr deep) (stmt_sound d expr sound most deep)
      most) after) (λ those more.
      (refl, record { is = (good.is, more.is); depth = omega arith; nest = omega arith }))))

  module _ (deep : ℕ) (below : suc deep ≤ d) where
    pub procedure_sound : (most : ℕ) (lexemes : List Lexeme) →
        IsSound (λ procedure more. SpellsProcedure procedure (word.Keyword key.Procedure ∷ more) ×
        IsGood IsProcedure procedure_depth d procedure) lexemes
        (procedure most expr deep lexemes)
    procedure_sound most lexemes =
        step (name_sound lexemes) (λ defined rest fact.
        sign (word.Symbol sym.OpenParen) tt (λ at inside.
        step (params_sound most inside) (λ those behind_params good_params.
        step (result_sound behind_params) (λ type behind_result fact'.
        sign (word.Symbol sym.Semicolon) tt (λ semicolon behind_heading.
        step_says (locals_sound most behind_heading) (λ own last words says.
        finish _ (body_sound most deep last) (λ what good. (
          (words, says.0, simp append_assoc),
          record {
            is = (good_params.is, says.1.is, good.is);
            depth = omega arith;
          },
        ))))))))

    unfoldable pub SaysDecl : Decl → List Word → Type 0
    SaysDecl decl words = SpellsDecl decl words × IsGood IsDecl decl_depth d decl

    pub part_sound : (most : ℕ) (p : Part) (lexemes : List Lexeme) → IsPart (head_kind lexemes) p
        → IsSound SaysDecl lexemes (decl_by most expr deep (Some p) lexemes)
    unfolding SaysDecl
    part_sound most part.Config lexemes is =
        behind_words _ (takes_head (word.Keyword key.Config) tt lexemes is)
        (sign (word.Keyword key.Var) tt (λ at rest.
        finish Config (group_sound define_words IsDefine define_depth d (define expr) define_sound
        most rest) (λ those good. (refl, record { is = good.is; depth = good.depth }))))
    part_sound most part.Constant lexemes is =
        behind_words _ (takes_head (word.Keyword key.Constant) tt lexemes is)
        (finish Constant (group_sound define_words IsDefine define_depth d (define expr)
        define_sound most (behind lexemes)) (λ those good. (
          refl,
          record {
            is = good.is;
            depth =
                good.depth;
          },
        )))
    part_sound most part.Region lexemes is =
        behind_words _ (takes_head (word.Keyword key.Region) tt lexemes is)
        (made_says Regions
        (weaken (each_group_sound SpellsRegion IsRegion region_depth d (region most expr)
        (region_sound most) most (behind lexemes)) (λ those words says.
        ((words, says.0, refl), record { is = says.1.is; depth = says.1.depth }))))
    part_sound most part.Direction lexemes is =
        behind_words _ (takes_head (word.Keyword key.Direction) tt lexemes is)
        (finish Directions (group_sound direction_words IsDirection direction_depth d
        (direction most expr) (direction_sound most) most (behind lexemes)) (λ those good.
        (refl, record { is = good.is; depth = good.depth })))
    part_sound most part.Var lexemes is =
        behind_words _ (takes_head (word.Keyword key.Var) tt lexemes is)
        (finish Vars (group_sound var_words IsVar var_depth d (variables most expr)
        (variables_sound most) most (behind lexemes)) (λ those good.
        (refl, record { is = good.is; depth = good.depth })))
    part_sound most part.Procedure lexemes is =
        behind_words _ (takes_head (word.Keyword key.Procedure) tt lexemes is)
        (made_says Defined (weaken (procedure_sound most (behind lexemes)) (λ procedure words says.
        (says.0, record { is = says.1.is; depth = says.1.depth }))))

    pub decl_by_sound : (most : ℕ) (p : Option Part) (lexemes : List Lexeme)
        → part_of (head_kind lexemes) ≡ p
        → IsSound SaysDecl lexemes (decl_by most expr deep p lexemes)
    decl_by_sound most None lexemes e = wrong
    decl_by_sound most (Some p) lexemes e =
        part_sound most p lexemes (part_is (head_kind lexemes) p e)

    unfoldable pub SaysDecls : List Decl → List Word → Type 0
    SaysDecls those words =
        SpellsEach SpellsDecl those words × IsGood (AllByRecursion IsDecl) (greatest_of decl_depth)
        d those

    pub ends : (lexemes : List Lexeme) → next_is kind.End lexemes ≡ true
        → IsWhole SaysDecls lexemes (Done [] (behind lexemes))
    unfolding SaysDecls
    ends [] e = absurd (false≢true e)
    ends (first ∷ rest) e =
        record {
          tells = (
            [],
            first,
            nothing,
            same_is_end first.kind e,
            (refl, record { is = tt; depth = omega arith }),
          );
        }

    pub whole_choice : {A : Type 0} (Says : A → List Word
        → Type 0) (lexemes : List Lexeme) (test : Bool) (x y : Outcome A) →
        (test ≡ true → IsWhole Says lexemes x) → (test ≡ false → IsWhole Says lexemes y)
        → IsWhole Says lexemes (elim test [ true ↦ x | false ↦ y ])
    whole_choice Says lexemes true x y so other = so refl
    whole_choice Says lexemes false x y so other = other refl

    pub decls_sound : (most : ℕ) (lexemes : List Lexeme)
        → IsWhole SaysDecls lexemes (decls most expr deep lexemes)
    unfolding SaysDecls SaysDecl
    decls_sound zero lexemes = record { tells = here }
    decls_sound (suc most) lexemes = whole_choice SaysDecls lexemes (next_is kind.End lexemes) _ _
        (λ e. ends lexemes e)
        (λ other. whole_then SaysDecl SaysDecls lexemes
        (decl_by most expr deep (part_of (head_kind lexemes)) lexemes) _
        (decl_by_sound most (part_of (head_kind lexemes)) lexemes refl)
        (λ first rest words says.
        made_whole SaysDecls _ rest (λ others. first ∷ others) _ (decls_sound most rest)
        (λ others more tells. (
          (words, more, says.0, tells.0, refl),
          record {
            is = (says.1.is, tells.1.is);
            depth =
                greater (decl_depth first) (greatest_of decl_depth others) d says.1.depth tells.1.depth;
          },
        ))))

-- what a program says: all its words but the end
abbrev pub SaysProgram : List ℕ → Program → List Word → Type 0
SaysProgram source tree words = Spells tree (words ++ word.End ∷ []) × (depth tree ≤ most_deep) ×
    (tree.source ≡ source)

pub whole_sign : {A : Type 0} (Says : A → List Word → Type 0) (w : Word) → IsSign w
    → (lexemes : List Lexeme) (next : ℕ → Reader A) →
    ((at : ℕ) (rest : List Lexeme)
    → IsWhole (λ tree more. Says tree (w ∷ more)) rest (next at rest)) →
    IsWhole Says lexemes (and_then (expect (kind_of w) lexemes) next)
whole_sign Says w is lexemes next so =
    whole_then (Spelled (λ at. w ∷ []) (λ (at : ℕ). ⊤)) Says lexemes (expect (kind_of w) lexemes)
    next (expect_sound w is lexemes)
    (λ at rest words says.
    subst (λ (v : List Word). IsWhole (λ made more. Says made (v ++ more)) rest (next at rest))
    (sym says.0) (so at rest))

unfoldable pub program_over : List ℕ → ℕ → Reader Expr → ℕ → Reader Program
program_over source most expr deep lexemes =
    and_then (expect (kind.Word key.Program) lexemes) (λ at rest.
    and_then (name rest) (λ called after.
    and_then (expect (kind.Symbol sym.Semicolon) after) (λ semicolon last.
    made (λ those. record {
      name = called;
      decls = those;
      source =
          source;
    }) (decls most expr deep last))))

pub program_over_sound : (d : ℕ) (expr : Reader Expr)
    → ((lexemes : List Lexeme) → IsSound (SaysExpr 0 d) lexemes (expr lexemes)) → (deep : ℕ)
    → suc deep ≤ d →
    (source : List ℕ) (most : ℕ) (lexemes : List Lexeme) →
    IsWhole (λ tree words. Spells tree (words ++ word.End ∷ []) × (depth tree ≤ d) ×
    (tree.source ≡ source)) lexemes (program_over source most expr deep lexemes)
unfolding program_over SaysDecls
program_over_sound d expr sound deep below source most lexemes =
    whole_sign _ (word.Keyword key.Program) tt lexemes _ (λ at rest.
    whole_then (Spelled name_words (λ name. ⊤)) _ rest (name rest) _ (name_sound rest)
    (λ called after words says.
    whole_sign _ (word.Symbol sym.Semicolon) tt after _ (λ semicolon last.
    made_whole (SaysDecls d expr sound deep below) _ last _ (decls most expr deep last)
    (decls_sound d expr sound deep below most last) (λ those more tells. (
      (
        more,
        tells.1.is,
        tells.0,
        ap (λ w. word.Keyword key.Program ∷
            ((w ++ word.Symbol sym.Semicolon ∷ more) ++ word.End ∷ [])) says.0,
      ),
      tells.1.depth,
      refl,
    )))))

pub program_whole : (source : List ℕ) (most : ℕ) (lexemes : List Lexeme)
    → IsWhole (SaysProgram source) lexemes (program source most lexemes)
unfolding program_over
program_whole source most lexemes =
    program_over_sound 200 (levels most 200).expr (levels_sound most 200).expr 199 (omega arith)
    source most lexemes
