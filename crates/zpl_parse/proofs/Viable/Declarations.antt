-- What was taken before a declaration or a program got too deep, or before a lexeme that can't
-- stand there, begins some.
use Rattle.std.proofs.Common.{◌≡◌, inl, inr, ℕ, zero, suc, if◌then◌else◌, Bool, true, false, List, [], ◌∷◌, ◌++◌, Option, Some, None, refl, sym, ap, ◌∙◌, append_assoc, append-nil}
use Rattle.std.specs.Bool.{⊤}
use Rattle.std.specs.List.{flat_map, AllByRecursion}
use Rattle.zpl_tokens.specs.declared.Kind.TheVariants as kind
use Rattle.zpl_tokens.specs.declared.keywords.Key.TheVariants as key
use Rattle.zpl_tokens.specs.declared.symbols.Sym.TheVariants as sym
use Rattle.zpl_tree.specs.Syntax.{Name, Expr, NoBracket, Integer, Other, Decl, Program, Config, Constant, Regions, Directions, Vars, Defined}
use Rattle.zpl_tree.specs.Spelling.{symbol, keyword, name_words, type_words, define_words, direction_words, var_words, param_words, result_words, params_words, stmt_words, decl_words}
use Rattle.zpl_tree.specs.Grammar.{HasAny, IsDefine, IsRegion, IsDirection, IsVar, IsParam, IsBody, IsProcedure, IsDecl, SpellsEach, SpellsRegion, SpellsLocals, SpellsProcedure, SpellsDecl, Spells}
use Rattle.zpl_tree.specs.Word.{Word}
use Rattle.zpl_tree.specs.Word as word
use Rattle.zpl_parse.specs.declared.classes.Part.{Part}
use Rattle.zpl_parse.specs.declared.classes.Part.TheVariants as part
use Rattle.zpl_grammar.specs.Lexeme.{Lexeme, head_kind, behind}
use Rattle.zpl_parse.specs.Outcome.{Reader}
use Rattle.zpl_parse.specs.Classes.{part_of}
use Rattle.zpl_parse.specs.Tokens.{next_is, name}
use Rattle.zpl_parse.specs.Expressions.{levels}
use Rattle.zpl_parse.specs.Statements.{stmts, stmt}
use Rattle.zpl_parse.specs.Declarations.{base, group, define, region_body, region, direction, variables, formals, param, some_params, params, result, locals, body, procedure, decl_by, decls, program}
use Rattle.zpl_parse.proofs.Sound.Base.{nothing, Spelled}
use Rattle.zpl_parse.proofs.Sound.Tokens.{one_more, takes_head}
use Rattle.zpl_parse.proofs.Sound.Classes.{IsPart, part_is}
use Rattle.zpl_parse.proofs.Sound.Declarations.{each_flat, locals_then, all_then}
use Rattle.zpl_parse.proofs.Viable.Base.{Goes, IsViable, exactly, goes_all, some_tree, viable_done, viable_wrong, viable_behind, viable_then, viable_step, viable_made, viable_finish, viable_weaken, viable_choose, viable_at_sign, expect_viable, viable_sign, viable_last, some_name, name_viable, names_viable, IsBegun, begun_then, begun_sign, begun_made, begun_choose}
use Rattle.zpl_parse.proofs.Viable.Expressions.{Tree, levels_viable, components_viable, posts_viable, rexpr_viable, in_bracket_viable, bracket_viable}
use Rattle.zpl_parse.proofs.Viable.Statements.{prefixes_viable, stmts_viable, body_end_viable, stmt_viable}

base_viable : (lexemes : List Lexeme)
    → IsViable (Spelled type_words (λ base. ⊤)) lexemes (base lexemes)
base_viable lexemes = viable_at_sign (word.Keyword key.Integer) tt lexemes (viable_done (refl, tt))
    (viable_at_sign (word.Keyword key.Boolean) tt lexemes (viable_done (refl, tt))
    (viable_finish Other (name_viable lexemes) (λ called fact. (refl, tt))))

result_viable : (lexemes : List Lexeme)
    → IsViable (Spelled result_words (λ result. ⊤)) lexemes (result lexemes)
result_viable lexemes =
    viable_at_sign (word.Symbol sym.Colon) tt lexemes
    (viable_finish Some (base_viable (behind lexemes)) (λ type fact. (refl, tt)))
    (viable_done (refl, tt))

-- one or more definitions
abbrev Each : {A : Type 0} → (A → List Word → Type 0) → (A → Type 0) → List A → List Word → Type 0
Each Spells_one Is xs words = SpellsEach Spells_one xs words × HasAny xs × AllByRecursion Is xs

each_goes : {A : Type 0} (Spells_one : A → List Word → Type 0) (Is : A → Type 0)
    → Goes (λ x words. Spells_one x words × Is x) [] → Goes (Each Spells_one Is) []
each_goes Spells_one Is goes = record {
  tree = goes.tree ∷ [];
  more = goes.more;
  says =
      ((goes.more, [], goes.says.0, refl, sym (append-nil goes.more)), tt, (goes.says.1, tt));
  plain =
      goes.plain;
}

each_group_viable : {A : Type 0} (Spells_one : A → List Word → Type 0) (Is : A
    → Type 0) (definition : Reader A) →
    ((lexemes : List Lexeme)
    → IsViable (λ x words. Spells_one x words × Is x) lexemes (definition lexemes))
    → (most : ℕ) (lexemes : List Lexeme) →
    IsViable (Each Spells_one Is) lexemes (group most definition lexemes)
each_group_viable Spells_one Is definition can zero lexemes =
    viable_wrong (each_goes Spells_one Is (some_tree refl (can [])))
each_group_viable Spells_one Is definition can (suc most) lexemes =
    viable_then (can lexemes) (λ first rest words says.
    viable_choose (next_is kind.Name rest)
    (λ begins. viable_made (λ others. first ∷ others) (each_group_viable Spells_one Is definition
    can most rest) (λ others more tells.
    ((words, more, says.0, tells.0, refl), tt, (says.1, tells.2))))
    (λ other. viable_done ((words, [], says.0, refl, refl), tt, (says.1, tt))))

group_viable : {A : Type 0} (spelling : A → List Word) (Is : A → Type 0) (definition : Reader A) →
    ((lexemes : List Lexeme) → IsViable (Spelled spelling Is) lexemes (definition lexemes))
    → (most : ℕ) (lexemes : List Lexeme) →
    IsViable (Spelled (flat_map spelling) (λ xs. HasAny xs × AllByRecursion Is xs)) lexemes
    (group most definition lexemes)
group_viable spelling Is definition can most lexemes =
    viable_weaken (each_group_viable (λ x w. w ≡ spelling x) Is definition can most lexemes)
    (λ xs words says. (each_flat spelling xs words says.0, (says.1, says.2)))

-- the smallest declaration
abbrev one_var : Decl
one_var = Vars (record { names = some_name ∷ []; shape = NoBracket; base = Integer } ∷ [])

-- a whole declaration
abbrev OneDecl : Decl → List Word → Type 0
OneDecl decl words = SpellsDecl decl words × IsDecl decl

-- the rules over one of expressions
module _ (expr : Reader Expr) (viable : (lexemes : List Lexeme)
    → IsViable (Tree 0) lexemes (expr lexemes)) where
  define_viable : (lexemes : List Lexeme)
      → IsViable (Spelled define_words IsDefine) lexemes (define expr lexemes)
  define_viable lexemes =
      viable_step (name_viable lexemes) (λ defined rest fact. viable_sign (word.Symbol sym.Colon) tt
      (λ colon behind_colon.
      viable_step (base_viable behind_colon) (λ type behind_base fact'.
      viable_sign (word.Symbol sym.Equal) tt (λ equal behind_equal.
      viable_step (viable behind_equal) (λ value last is.
      viable_last (word.Symbol sym.Semicolon) tt _ (simp append_assoc, is))))))

  region_body_viable : (most : ℕ) (defined : Name) (lexemes : List Lexeme) →
      IsViable (λ definition more. SpellsRegion definition (word.Name defined.text ∷
      word.Symbol sym.Equal ∷ (more ++ symbol sym.Semicolon)) × IsRegion definition) lexemes
      (region_body most expr defined lexemes)
  region_body_viable most defined lexemes =
      viable_choose (next_is (kind.Symbol sym.OpenBracket) lexemes)
      (λ begins. viable_step (in_bracket_viable expr viable most lexemes) (λ body rest is.
      viable_finish _ (posts_viable expr viable most rest) (λ those are.
      (inl (simp append_assoc), (is, are)))))
      (λ other. viable_finish _ (rexpr_viable expr viable most lexemes) (λ body is.
      (inr (is.1, tt, refl), (is.0, tt))))

  region_viable : (most : ℕ) (lexemes : List Lexeme)
      → IsViable (λ definition words. SpellsRegion definition words × IsRegion definition) lexemes
      (region most expr lexemes)
  region_viable most lexemes =
      viable_step (name_viable lexemes) (λ defined rest fact. viable_sign (word.Symbol sym.Equal) tt
      (λ equal after.
      viable_then (region_body_viable most defined after) (λ definition last words says.
      viable_last (word.Symbol sym.Semicolon) tt definition says)))

  direction_viable : (most : ℕ) (lexemes : List Lexeme)
      → IsViable (Spelled direction_words IsDirection) lexemes (direction most expr lexemes)
  direction_viable most lexemes =
      viable_step (name_viable lexemes) (λ defined rest fact. viable_sign (word.Symbol sym.Equal) tt
      (λ equal after.
      viable_sign (word.Symbol sym.OpenBracket) tt (λ at inside.
      viable_step (components_viable expr viable most inside) (λ parts last are.
      viable_last (word.Symbol sym.Semicolon) tt _ (simp append_assoc, are)))))

  variables_viable : (most : ℕ) (lexemes : List Lexeme)
      → IsViable (Spelled var_words IsVar) lexemes (variables most expr lexemes)
  variables_viable most lexemes =
      viable_step (names_viable most lexemes) (λ those rest has.
      viable_sign (word.Symbol sym.Colon) tt (λ colon after.
      viable_step (bracket_viable expr viable most after) (λ shape behind_shape is.
      viable_step (base_viable behind_shape) (λ type last fact.
      viable_last (word.Symbol sym.Semicolon) tt _ (simp append_assoc, (has, is))))))

  formals_viable : (most : ℕ) (by_ref : Bool) (lexemes : List Lexeme) →
      IsViable (λ param more.
      Spelled param_words IsParam param ((if by_ref then keyword key.Var else []) ++ more))
      lexemes (formals most expr by_ref lexemes)
  formals_viable most by_ref lexemes =
      viable_step (names_viable most lexemes) (λ those rest has.
      viable_sign (word.Symbol sym.Colon) tt (λ colon after.
      viable_step (bracket_viable expr viable most after) (λ shape last is.
      viable_finish _ (base_viable last) (λ type fact. (simp append_assoc, (has, is))))))

  param_viable : (most : ℕ) (lexemes : List Lexeme)
      → IsViable (Spelled param_words IsParam) lexemes (param most expr lexemes)
  param_viable most lexemes =
      viable_at_sign (word.Keyword key.Var) tt lexemes (formals_viable most true (behind lexemes))
      (formals_viable most false lexemes)

  some_params_viable : (most : ℕ) (lexemes : List Lexeme)
      → IsViable (Spelled params_words (λ those. HasAny those × AllByRecursion IsParam those))
      lexemes (some_params most expr lexemes)
  some_params_viable zero lexemes =
      viable_wrong (goes_all (record {
        by_ref = false;
        names = some_name ∷ [];
        shape =
            NoBracket;
        base = Integer;
      } ∷ []) (tt, ((tt, tt), tt)) refl)
  some_params_viable (suc most) lexemes = viable_step (param_viable most lexemes) (λ first rest is.
      viable_at_sign (word.Symbol sym.Semicolon) tt rest
      (viable_finish (λ others. first ∷ others) (some_params_viable most (behind rest))
      (λ others are. (
        ap (λ w. param_words first ++ w) (one_more (word.Symbol sym.Semicolon ∷ []) param_words
            others are.0),
        (tt, (is, are.1)),
      )))
      (viable_done (refl, (tt, (is, tt)))))

  params_viable : (most : ℕ) (lexemes : List Lexeme)
      → IsViable (Spelled (λ those. params_words those ++ symbol sym.CloseParen)
      (AllByRecursion IsParam)) lexemes (params most expr lexemes)
  params_viable most lexemes = viable_at_sign (word.Symbol sym.CloseParen) tt lexemes
      (viable_done (refl, tt))
      (viable_step (some_params_viable most lexemes) (λ those rest are.
      viable_last (word.Symbol sym.CloseParen) tt those (refl, are.1)))

  locals_viable : (most : ℕ) (lexemes : List Lexeme)
      → IsViable (λ vars words. SpellsLocals vars words × AllByRecursion IsVar vars) lexemes
      (locals most expr lexemes)
  locals_viable zero lexemes =
      viable_wrong (record { tree = []; more = []; says = (refl, tt); plain = refl })
  locals_viable (suc most) lexemes = viable_at_sign (word.Keyword key.Var) tt lexemes
      (viable_step (group_viable var_words IsVar (variables most expr) (variables_viable most) most
      (behind lexemes)) (λ first rest are.
      viable_made (λ others. first ++ others) (locals_viable most rest) (λ others words says.
      (locals_then first others words are.0 says.0, all_then IsVar first others are.1 says.1))))
      (viable_done (refl, tt))

  body_viable : (most deep : ℕ) (lexemes : List Lexeme)
      → IsViable (Spelled stmt_words IsBody) lexemes (body most expr deep lexemes)
  body_viable most deep lexemes =
      viable_step (prefixes_viable expr viable most lexemes) (λ before rest are.
      viable_step (expect_viable (word.Keyword key.Begin) tt rest) (λ at after fact.
      viable_finish _ (body_end_viable expr viable (stmts most (stmt most expr deep))
      (stmts_viable expr viable (stmt most expr deep) (stmt_viable expr viable most deep) most)
      after)
      (λ those more. (refl, (are, more)))))

  procedure_viable : (deep most : ℕ) (lexemes : List Lexeme) →
      IsViable (λ procedure more. SpellsProcedure procedure (word.Keyword key.Procedure ∷ more) ×
      IsProcedure procedure) lexemes (procedure most expr deep lexemes)
  procedure_viable deep most lexemes =
      viable_step (name_viable lexemes) (λ defined rest fact.
      viable_sign (word.Symbol sym.OpenParen) tt (λ at inside.
      viable_step (params_viable most inside) (λ those behind_params are.
      viable_step (result_viable behind_params) (λ type behind_result fact'.
      viable_sign (word.Symbol sym.Semicolon) tt (λ semicolon behind_heading.
      viable_then (locals_viable most behind_heading) (λ own last words says.
      viable_finish _ (body_viable most deep last) (λ what is.
      ((words, says.0, simp append_assoc), (are, says.1, is)))))))))

  part_viable : (deep most : ℕ) (p : Part) (lexemes : List Lexeme) → IsPart (head_kind lexemes) p
      → IsViable OneDecl lexemes (decl_by most expr deep (Some p) lexemes)
  part_viable deep most part.Config lexemes is =
      viable_behind (takes_head (word.Keyword key.Config) tt lexemes is)
      (viable_sign (word.Keyword key.Var) tt (λ at rest.
      viable_finish Config (group_viable define_words IsDefine (define expr) define_viable most
      rest) (λ those are. (refl, are))))
  part_viable deep most part.Constant lexemes is =
      viable_behind (takes_head (word.Keyword key.Constant) tt lexemes is)
      (viable_finish Constant (group_viable define_words IsDefine (define expr) define_viable most
      (behind lexemes)) (λ those are. (refl, are)))
  part_viable deep most part.Region lexemes is =
      viable_behind (takes_head (word.Keyword key.Region) tt lexemes is)
      (viable_made Regions (each_group_viable SpellsRegion IsRegion (region most expr)
      (region_viable most) most (behind lexemes)) (λ those words says.
      ((words, says.0, refl), (says.1, says.2))))
  part_viable deep most part.Direction lexemes is =
      viable_behind (takes_head (word.Keyword key.Direction) tt lexemes is)
      (viable_finish Directions (group_viable direction_words IsDirection (direction most expr)
      (direction_viable most) most (behind lexemes)) (λ those are. (refl, are)))
  part_viable deep most part.Var lexemes is =
      viable_behind (takes_head (word.Keyword key.Var) tt lexemes is)
      (viable_finish Vars (group_viable var_words IsVar (variables most expr)
      (variables_viable most) most (behind lexemes)) (λ those are. (refl, are)))
  part_viable deep most part.Procedure lexemes is =
      viable_behind (takes_head (word.Keyword key.Procedure) tt lexemes is)
      (viable_made Defined (procedure_viable deep most (behind lexemes)) (λ procedure words says.
      says))

  decl_by_viable : (deep most : ℕ) (p : Option Part) (lexemes : List Lexeme)
      → part_of (head_kind lexemes) ≡ p
      → IsViable OneDecl lexemes (decl_by most expr deep p lexemes)
  decl_by_viable deep most None lexemes e =
      viable_wrong (record {
        tree = one_var;
        more = decl_words one_var;
        says =
            (refl, (tt, ((tt, tt), tt)));
        plain = refl;
      })
  decl_by_viable deep most (Some p) lexemes e =
      part_viable deep most p lexemes (part_is (head_kind lexemes) p e)

-- declarations
abbrev SomeDecls : List Decl → List Word → Type 0
SomeDecls those words = SpellsEach SpellsDecl those words × AllByRecursion IsDecl those

no_decls : Goes SomeDecls []
no_decls = record { tree = []; more = []; says = (refl, tt); plain = refl }

decls_begun : (expr : Reader Expr)
    → ((lexemes : List Lexeme) → IsViable (Tree 0) lexemes (expr lexemes))
    → (deep most : ℕ) (lexemes : List Lexeme)
    → IsBegun SomeDecls lexemes (decls most expr deep lexemes)
decls_begun expr viable deep zero lexemes = record {
  some = λ none. no_decls;
  begun =
      ([], nothing, no_decls);
}
decls_begun expr viable deep (suc most) lexemes =
    begun_choose SomeDecls lexemes (next_is kind.End lexemes) _ _
    (record { some = λ none. no_decls; begun = tt })
    (begun_then OneDecl SomeDecls lexemes (decl_by most expr deep (part_of (head_kind lexemes))
    lexemes) _ (decl_by_viable expr viable deep most (part_of (head_kind lexemes)) lexemes refl)
    (λ first rest words says.
    begun_made SomeDecls _ (λ others. first ∷ others) rest _
    (decls_begun expr viable deep most rest) (λ others more tells.
    exactly (first ∷ others) ((words, more, says.0, tells.0, refl), (says.1, tells.1)))))

-- the words of a program before its end
abbrev pub SpellsBefore : Program → List Word → Type 0
SpellsBefore program words = Spells program (words ++ word.End ∷ [])

program_regroup : (words called more : List Word) → words ≡ called →
    word.Keyword key.Program ∷ ((words ++ word.Symbol sym.Semicolon ∷ more) ++ word.End ∷ [])
    ≡ word.Keyword key.Program ∷ (called ++ word.Symbol sym.Semicolon ∷ (more ++ word.End ∷ []))
program_regroup words called more same = ap (λ (w : List Word). word.Keyword key.Program ∷ w)
    (append_assoc words (word.Symbol sym.Semicolon ∷ more) (word.End ∷ [])
    ∙ ap (λ w. w ++ word.Symbol sym.Semicolon ∷ (more ++ word.End ∷ [])) same)

-- What was taken before a program got too deep, or before a lexeme that can't stand there, begins a
-- program.
pub program_viable : (source : List ℕ) (most : ℕ) (lexemes : List Lexeme)
    → IsBegun SpellsBefore lexemes (program source most lexemes)
program_viable source most lexemes =
    begun_sign SpellsBefore (word.Keyword key.Program) tt lexemes _ (λ at rest.
    begun_then (Spelled name_words (λ name. ⊤)) _ rest (name rest) _ (name_viable rest)
    (λ called after words says.
    begun_sign _ (word.Symbol sym.Semicolon) tt after _ (λ semicolon last.
    begun_made SomeDecls _ _ last (decls most (levels most 200).expr 199 last)
    (decls_begun (levels most 200).expr (levels_viable most 200).expr 199 most last)
    (λ those more tells.
    exactly (record { name = called; decls = those; source = source })
    (more, tells.1, tells.0, program_regroup words (name_words called) more says.0)))))
