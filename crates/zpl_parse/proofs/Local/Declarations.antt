-- The rules of declarations and of whole programs are local.
use Rattle.std.proofs.Common.{ℕ, Bool, true, false, List, ◌∷◌, ◌++◌, Option, Some, None, refl}
use Rattle.zpl_tokens.specs.declared.Kind.TheVariants as kind
use Rattle.zpl_tokens.specs.declared.keywords.Key.TheVariants as key
use Rattle.zpl_tokens.specs.declared.symbols.Sym.TheVariants as sym
use Rattle.zpl_tree.specs.Syntax.{Name, Expr, NoPost, Prefixed, Block, Other, Config, Constant, Regions, Directions, Vars, Defined}
use Rattle.zpl_parse.specs.declared.classes.Part.{Part}
use Rattle.zpl_parse.specs.declared.classes.Part.TheVariants as part
use Rattle.zpl_parse.specs.Classes.{part_of}
use Rattle.zpl_parse.specs.Outcome.{Reader}
use Rattle.zpl_parse.specs.Declarations.{base, group, define, region_body, region, direction, variables, formals, param, some_params, params, result, locals, body, procedure, decl_by, decls, program}
use Rattle.zpl_parse.proofs.Local.Base.{IsLocal, local_then, local_made, local_done, local_wrong, local_behind, local_by, local_if}
use Rattle.zpl_parse.proofs.Local.Tokens.{next_told, kind_told, symbol_local, keyword_local, name_local, names_local, Turns, local_turns}
use Rattle.zpl_parse.proofs.Local.Expressions.{IsReady, local_taken, components_local, posts_local, rexpr_local, inner_local, in_bracket_local, bracket_local, levels_ready}
use Rattle.zpl_parse.proofs.Local.Statements.{prefixes_local, stmts_local, body_end_local, stmt_local}

base_local : {Exact Sure : Type 0} → IsLocal Exact Sure base base
base_local =
    local_if (next_told (kind.Word key.Integer)) local_taken
    (local_if (next_told (kind.Word key.Boolean)) local_taken (local_made Other name_local))

group_local : {Exact Sure A : Type 0} {definition definition' : Reader A}
    → IsLocal Exact Sure definition definition' → {m m' : ℕ} → Turns Exact m m' →
    IsLocal Exact Sure (group m definition) (group m' definition')
group_local {definition = definition} {definition' = definition'} h =
    local_turns (λ m. group m definition) (λ m. group m definition') (λ l. refl) (λ l. tt)
    (λ m m' turns before.
    local_then h (λ first. local_if (next_told kind.Name) (local_made (λ others. first ∷
    others) before) local_done))

define_local : {Exact Sure : Type 0} {expr expr' : Reader Expr} → IsLocal Exact Sure expr expr'
    → IsLocal Exact Sure (define expr) (define expr')
define_local h =
    local_then name_local (λ defined. local_then (symbol_local sym.Colon) (λ colon.
    local_then base_local (λ type. local_then (symbol_local sym.Equal) (λ equal.
    local_then h (λ value. local_made (λ end. record {
      name = defined;
      base = type;
      value =
          value;
    }) (symbol_local sym.Semicolon))))))

region_body_local : {Exact Sure : Type 0} {expr expr' : Reader Expr} → IsReady Exact Sure expr expr'
    → {m m' : ℕ} → Turns Exact m m' → (defined : Name) →
    IsLocal Exact Sure (region_body m expr defined) (region_body m' expr' defined)
region_body_local {expr = expr} {expr' = expr'} ready {m} {m'} turns defined =
    local_if (next_told (kind.Symbol sym.OpenBracket))
    (local_then (in_bracket_local m m' expr expr' (inner_local ready turns)) (λ body.
    local_made (λ those. record {
      name = defined;
      body = body;
      posts =
          those;
    }) (posts_local ready.whole turns)))
    (local_made (λ body. record {
      name = defined;
      body = body;
      posts =
          NoPost;
    }) (rexpr_local ready.whole turns))

region_local : {Exact Sure : Type 0} {expr expr' : Reader Expr} → IsReady Exact Sure expr expr'
    → {m m' : ℕ} → Turns Exact m m' →
    IsLocal Exact Sure (region m expr) (region m' expr')
region_local ready turns =
    local_then name_local (λ defined. local_then (symbol_local sym.Equal) (λ equal.
    local_then (region_body_local ready turns defined) (λ definition.
    local_made (λ end. definition) (symbol_local sym.Semicolon))))

direction_local : {Exact Sure : Type 0} {expr expr' : Reader Expr} → IsLocal Exact Sure expr expr'
    → {m m' : ℕ} → Turns Exact m m' →
    IsLocal Exact Sure (direction m expr) (direction m' expr')
direction_local h turns =
    local_then name_local (λ defined. local_then (symbol_local sym.Equal) (λ equal.
    local_then (symbol_local sym.OpenBracket) (λ at.
    local_then (components_local h turns) (λ parts. local_made (λ end. record {
      name =
          defined;
      parts = parts;
    }) (symbol_local sym.Semicolon)))))

variables_local : {Exact Sure : Type 0} {expr expr' : Reader Expr} → IsReady Exact Sure expr expr'
    → {m m' : ℕ} → Turns Exact m m' →
    IsLocal Exact Sure (variables m expr) (variables m' expr')
variables_local {expr = expr} {expr' = expr'} ready {m} {m'} turns =
    local_then (names_local turns) (λ those. local_then (symbol_local sym.Colon) (λ colon.
    local_then (bracket_local m m' expr expr' (inner_local ready turns)) (λ shape.
    local_then base_local (λ type.
    local_made (λ end. record {
      names = those;
      shape = shape;
      base =
          type;
    }) (symbol_local sym.Semicolon)))))

formals_local : {Exact Sure : Type 0} {expr expr' : Reader Expr} → IsReady Exact Sure expr expr'
    → {m m' : ℕ} → Turns Exact m m' → (by_ref : Bool) →
    IsLocal Exact Sure (formals m expr by_ref) (formals m' expr' by_ref)
formals_local {expr = expr} {expr' = expr'} ready {m} {m'} turns by_ref =
    local_then (names_local turns) (λ those. local_then (symbol_local sym.Colon) (λ colon.
    local_then (bracket_local m m' expr expr' (inner_local ready turns)) (λ shape.
    local_made (λ type. record {
      by_ref = by_ref;
      names = those;
      shape = shape;
      base =
          type;
    }) base_local)))

param_local : {Exact Sure : Type 0} {expr expr' : Reader Expr} → IsReady Exact Sure expr expr'
    → {m m' : ℕ} → Turns Exact m m' →
    IsLocal Exact Sure (param m expr) (param m' expr')
param_local ready turns =
    local_if (next_told (kind.Word key.Var)) (local_behind (formals_local ready turns true))
    (formals_local ready turns false)

some_params_local : {Exact Sure : Type 0} {expr expr' : Reader Expr} → IsReady Exact Sure expr expr'
    → {m m' : ℕ} → Turns Exact m m' →
    IsLocal Exact Sure (some_params m expr) (some_params m' expr')
some_params_local {expr = expr} {expr' = expr'} ready =
    local_turns (λ m. some_params m expr) (λ m. some_params m expr') (λ l. refl) (λ l. tt)
    (λ m m' turns before.
    local_then (param_local ready turns) (λ first. local_if (next_told (kind.Symbol sym.Semicolon))
    (local_made (λ others. first ∷ others) (local_behind before)) local_done))

params_local : {Exact Sure : Type 0} {expr expr' : Reader Expr} → IsReady Exact Sure expr expr'
    → {m m' : ℕ} → Turns Exact m m' →
    IsLocal Exact Sure (params m expr) (params m' expr')
params_local ready turns = local_if (next_told (kind.Symbol sym.CloseParen)) local_taken
    (local_then (some_params_local ready turns) (λ those.
    local_made (λ at. those) (symbol_local sym.CloseParen)))

result_local : {Exact Sure : Type 0} → IsLocal Exact Sure result result
result_local =
    local_if (next_told (kind.Symbol sym.Colon)) (local_made Some (local_behind base_local))
    local_done

locals_local : {Exact Sure : Type 0} {expr expr' : Reader Expr} → IsReady Exact Sure expr expr'
    → {m m' : ℕ} → Turns Exact m m' →
    IsLocal Exact Sure (locals m expr) (locals m' expr')
locals_local {expr = expr} {expr' = expr'} ready =
    local_turns (λ m. locals m expr) (λ m. locals m expr') (λ l. refl) (λ l. tt)
    (λ m m' turns before.
    local_if (next_told (kind.Word key.Var))
    (local_then (local_behind (group_local (variables_local ready turns) turns)) (λ first.
    local_made (λ others. first ++ others) before)) local_done)

body_local : {Exact Sure : Type 0} {expr expr' : Reader Expr} → IsReady Exact Sure expr expr'
    → {m m' : ℕ} → Turns Exact m m' → (deep : ℕ) →
    IsLocal Exact Sure (body m expr deep) (body m' expr' deep)
body_local ready turns deep =
    local_then (prefixes_local ready turns) (λ before. local_then (keyword_local key.Begin) (λ at.
    local_made (λ those. Prefixed at before (Block those))
    (body_end_local (stmts_local (stmt_local ready turns deep) turns))))

procedure_local : {Exact Sure : Type 0} {expr expr' : Reader Expr} → IsReady Exact Sure expr expr'
    → {m m' : ℕ} → Turns Exact m m' → (deep : ℕ) →
    IsLocal Exact Sure (procedure m expr deep) (procedure m' expr' deep)
procedure_local ready turns deep =
    local_then name_local (λ defined. local_then (symbol_local sym.OpenParen) (λ at.
    local_then (params_local ready turns) (λ those.
    local_then result_local (λ type. local_then (symbol_local sym.Semicolon) (λ semicolon.
    local_then (locals_local ready turns) (λ own.
    local_made (λ what. record {
      name = defined;
      params = those;
      result = type;
      locals = own;
      body =
          what;
    }) (body_local ready turns deep)))))))

decl_by_local : {Exact Sure : Type 0} {expr expr' : Reader Expr} → IsReady Exact Sure expr expr'
    → {m m' : ℕ} → Turns Exact m m' → (deep : ℕ) → (o : Option Part) →
    IsLocal Exact Sure (decl_by m expr deep o) (decl_by m' expr' deep o)
decl_by_local ready turns deep (Some part.Config) =
    local_then (local_behind (keyword_local key.Var)) (λ at.
    local_made Config (group_local (define_local ready.whole) turns))
decl_by_local ready turns deep (Some part.Constant) =
    local_made Constant (local_behind (group_local (define_local ready.whole) turns))
decl_by_local ready turns deep (Some part.Region) =
    local_made Regions (local_behind (group_local (region_local ready turns) turns))
decl_by_local ready turns deep (Some part.Direction) =
    local_made Directions (local_behind (group_local (direction_local ready.whole turns) turns))
decl_by_local ready turns deep (Some part.Var) =
    local_made Vars (local_behind (group_local (variables_local ready turns) turns))
decl_by_local ready turns deep (Some part.Procedure) =
    local_made Defined (local_behind (procedure_local ready turns deep))
decl_by_local ready turns deep None = local_wrong

decls_local : {Exact Sure : Type 0} {expr expr' : Reader Expr} → IsReady Exact Sure expr expr'
    → (deep : ℕ) → {m m' : ℕ} → Turns Exact m m' →
    IsLocal Exact Sure (decls m expr deep) (decls m' expr' deep)
decls_local {expr = expr} {expr' = expr'} ready deep =
    local_turns (λ m. decls m expr deep) (λ m. decls m expr' deep) (λ l. refl) (λ l. tt)
    (λ m m' turns before.
    local_if (next_told kind.End) local_taken
    (local_then (local_by (λ o. decl_by m expr deep o) (λ o. decl_by m' expr' deep o)
    (kind_told part_of) (decl_by_local ready turns deep))
    (λ first. local_made (λ others. first ∷ others) before)))

pub program_local : {Exact Sure : Type 0} (source : List ℕ) {m m' : ℕ} → Turns Exact m m'
    → IsLocal Exact Sure (program source m) (program source m')
program_local source turns =
    local_then (keyword_local key.Program) (λ at.
    local_then name_local (λ called. local_then (symbol_local sym.Semicolon) (λ semicolon.
    local_made (λ those. record {
      name = called;
      decls = those;
      source =
          source;
    }) (decls_local (levels_ready turns 199) 199 turns))))
