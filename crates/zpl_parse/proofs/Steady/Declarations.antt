-- The rules of declarations and of whole programs are steady.
use Rattle.std.proofs.Common.{◌≡◌, ℕ, zero, suc, ◌<◌, ◌≤◌, Bool, true, false, List, [], ◌∷◌, ◌++◌, length, Option, Some, None, refl, arith}
use Rattle.zpl_tokens.specs.declared.Kind.TheVariants as kind
use Rattle.zpl_tokens.specs.declared.keywords.Key.TheVariants as key
use Rattle.zpl_tokens.specs.declared.symbols.Sym.TheVariants as sym
use Rattle.zpl_tree.specs.Syntax.{Name, Expr, NoPost, Prefixed, Block, Base, Integer, Boolean, Other, Config, Constant, Regions, Directions, Vars, Defined}
use Rattle.zpl_grammar.specs.Lexeme.{Lexeme, head_kind, behind, next_is}
use Rattle.zpl_grammar.specs.Texts.{most_deep}
use Rattle.zpl_parse.specs.declared.classes.Part.{Part}
use Rattle.zpl_parse.specs.declared.classes.Part.TheVariants as part
use Rattle.zpl_parse.specs.Outcome.{Done, Reader, and_then, made}
use Rattle.zpl_parse.specs.Classes.{part_of}
use Rattle.zpl_parse.specs.Tokens.{name}
use Rattle.zpl_parse.specs.Expressions.{levels}
use Rattle.zpl_parse.specs.Declarations.{base, group, define, region_body, region, direction, variables, formals, param, some_params, params, result, locals, body, procedure, decl_by, decls, program}
use Rattle.zpl_parse.proofs.Steady.Base.{IsSteadyAt, IsSteady, steady_less, steady_loose, steady_after, steady_then, steady_made, steady_done, steady_behind, behind_one, steady_if, steady_next, steady_cons}
use Rattle.zpl_parse.proofs.Steady.Expressions.{symbol_steady, keyword_steady, name_steady, taken_steady, names_steady, components_steady, posts_steady, rexpr_steady, in_bracket_steady, bracket_steady, levels_steady}
use Rattle.zpl_parse.proofs.Steady.Statements.{prefixes_steady, stmts_steady, body_end_steady, stmt_steady}

base_steady : {k : ℕ} → IsSteady 0 k base base
base_steady = steady_if (next_is (kind.Word key.Integer)) (taken_steady {tree = Integer})
    (steady_if (next_is (kind.Word key.Boolean)) (taken_steady {tree =
    Boolean}) (steady_made Other (steady_loose name_steady)))

group_steady : {k m m' : ℕ} {A : Type 0} {definition definition' : Reader A}
    → IsSteady 1 k definition definition' → k < m → k < m' →
    IsSteady 0 k (group m definition) (group m' definition')
group_steady {k} {m} {m'} {A} {definition} {definition'} h a b = go m m' k (omega arith) a b
  where
    go : (m m' j : ℕ) → j ≤ k → j < m → j < m'
        → IsSteady 0 j (group m definition) (group m' definition')
    go zero m' j within a b = absurd (omega arith)
    go (suc m) zero j within a b = absurd (omega arith)
    go (suc m) (suc m') j within a b =
        steady_loose (steady_after (steady_less within h) (λ first i below.
        steady_if (next_is kind.Name) (steady_made (λ others. first ∷
        others) (go m m' i (omega arith) (omega arith) (omega arith))) steady_done))

module _ {k : ℕ} {expr expr' : Reader Expr} (h : IsSteady 0 k expr expr') where
  define_steady : IsSteady 1 k (define expr) (define expr')
  define_steady =
      steady_then name_steady (λ defined. steady_then (symbol_steady sym.Colon) (λ colon.
      steady_then base_steady (λ type. steady_then (symbol_steady sym.Equal) (λ equal.
      steady_then h (λ value. steady_made (λ end. record {
        name = defined;
        base = type;
        value =
            value;
      }) (symbol_steady sym.Semicolon))))))

  region_body_steady : {m m' : ℕ} → k < m → k < m' → (defined : Name)
      → IsSteady 0 k (region_body m expr defined) (region_body m' expr' defined)
  region_body_steady {m} {m'} a b defined = steady_if (next_is (kind.Symbol sym.OpenBracket))
      (steady_loose (steady_then (in_bracket_steady {m = m} {m' = m'} h (omega arith) (omega arith))
      (λ body. steady_made (λ those. record {
        name = defined;
        body = body;
        posts =
            those;
      }) (posts_steady h a b))))
      (steady_made (λ body. record {
        name = defined;
        body = body;
        posts =
            NoPost;
      }) (rexpr_steady h a b))

  region_steady : {m m' : ℕ} → k < m → k < m' → IsSteady 1 k (region m expr) (region m' expr')
  region_steady a b =
      steady_then name_steady (λ defined. steady_then (symbol_steady sym.Equal) (λ equal.
      steady_then (region_body_steady a b defined) (λ definition.
      steady_made (λ end. definition) (symbol_steady sym.Semicolon))))

  direction_steady : {m m' : ℕ} → k < m → k < m'
      → IsSteady 1 k (direction m expr) (direction m' expr')
  direction_steady a b =
      steady_then name_steady (λ defined. steady_then (symbol_steady sym.Equal) (λ equal.
      steady_then (symbol_steady sym.OpenBracket) (λ at.
      steady_then (components_steady h a b) (λ parts. steady_made (λ end. record {
        name =
            defined;
        parts = parts;
      }) (symbol_steady sym.Semicolon)))))

  variables_steady : {m m' : ℕ} → k ≤ m → k ≤ m'
      → IsSteady 1 k (variables m expr) (variables m' expr')
  variables_steady {m} {m'} a b =
      steady_after (names_steady a b) (λ those j below. steady_then (symbol_steady sym.Colon)
      (λ colon.
      steady_then (bracket_steady {m = m} {m' =
      m'} (steady_less {j = j} (omega arith) h) (omega arith) (omega arith)) (λ shape.
      steady_then base_steady (λ type.
      steady_made (λ end. record {
        names = those;
        shape = shape;
        base =
            type;
      }) (symbol_steady sym.Semicolon)))))

  formals_steady : {m m' : ℕ} → k ≤ m → k ≤ m' → (by_ref : Bool)
      → IsSteady 1 k (formals m expr by_ref) (formals m' expr' by_ref)
  formals_steady {m} {m'} a b by_ref =
      steady_after (names_steady a b) (λ those j below. steady_then (symbol_steady sym.Colon)
      (λ colon.
      steady_then (bracket_steady {m = m} {m' =
      m'} (steady_less {j = j} (omega arith) h) (omega arith) (omega arith)) (λ shape.
      steady_made (λ type. record {
        by_ref = by_ref;
        names = those;
        shape = shape;
        base =
            type;
      }) base_steady)))

  param_steady : {m m' : ℕ} → k ≤ m → k ≤ m' → IsSteady 0 k (param m expr) (param m' expr')
  param_steady a b =
      steady_if (next_is (kind.Word key.Var))
      (steady_behind (steady_loose (formals_steady a b true)))
      (steady_loose (formals_steady a b false))

some_params_steady : {k m m' : ℕ} {expr expr' : Reader Expr} → IsSteady 0 k expr expr' → k < m
    → k < m' → IsSteady 0 k (some_params m expr) (some_params m' expr')
some_params_steady {k} {m} {m'} {expr} {expr'} h a b = go m m' k (omega arith) a b
  where
    go : (m m' j : ℕ) → j ≤ k → j < m → j < m'
        → IsSteady 0 j (some_params m expr) (some_params m' expr')
    go zero m' j within a b = absurd (omega arith)
    go (suc m) zero j within a b = absurd (omega arith)
    go (suc m) (suc m') j within a b =
        steady_then (param_steady (steady_less within h) {m = m} {m' =
        m'} (omega arith) (omega arith)) (λ first.
        steady_next (kind.Symbol sym.Semicolon) (λ i below. steady_made (λ others. first ∷
        others) (go m m' i (omega arith) (omega arith) (omega arith))) steady_done)

params_steady : {k m m' : ℕ} {expr expr' : Reader Expr} → IsSteady 0 k expr expr' → k < m → k < m'
    → IsSteady 0 k (params m expr) (params m' expr')
params_steady h a b = steady_if (next_is (kind.Symbol sym.CloseParen)) taken_steady
    (steady_then (some_params_steady h a b) (λ those.
    steady_made (λ at. those) (symbol_steady sym.CloseParen)))

result_steady : {k : ℕ} → IsSteady 0 k result result
result_steady =
    steady_if (next_is (kind.Symbol sym.Colon)) (steady_made Some (steady_behind base_steady))
    steady_done

locals_steady : {k m m' : ℕ} {expr expr' : Reader Expr} → IsSteady 0 k expr expr' → k < m → k < m'
    → IsSteady 0 k (locals m expr) (locals m' expr')
locals_steady {k} {m} {m'} {expr} {expr'} h a b = go m m' k (omega arith) a b
  where
    go : (m m' j : ℕ) → j ≤ k → j < m → j < m' → IsSteady 0 j (locals m expr) (locals m' expr')
    go zero m' j within a b = absurd (omega arith)
    go (suc m) zero j within a b = absurd (omega arith)
    go (suc m) (suc m') j within a b = steady_next (kind.Word key.Var)
        (λ i below. steady_then (group_steady {k = i} {m = m} {m' =
        m'} (variables_steady (steady_less (omega arith) h) {m = m} {m' =
        m'} (omega arith) (omega arith)) (omega arith) (omega arith))
        (λ first. steady_made (λ others. first ++
        others) (go m m' i (omega arith) (omega arith) (omega arith))))
        steady_done

module _ {k m m' : ℕ} {expr expr' : Reader Expr} (h : IsSteady 0 k expr expr') (a : k < m)
    (b : k < m') (deep : ℕ) where
  body_steady : IsSteady 0 k (body m expr deep) (body m' expr' deep)
  body_steady =
      steady_then (prefixes_steady h a b) (λ before. steady_then (keyword_steady key.Begin) (λ at.
      steady_made (λ those. Prefixed at before (Block those))
      (body_end_steady (stmts_steady (stmt_steady h a b deep) a b))))

  procedure_steady : IsSteady 0 k (procedure m expr deep) (procedure m' expr' deep)
  procedure_steady =
      steady_loose (steady_then name_steady (λ defined. steady_then (symbol_steady sym.OpenParen)
      (λ at. steady_then (params_steady h a b) (λ those.
      steady_then result_steady (λ type. steady_then (symbol_steady sym.Semicolon) (λ semicolon.
      steady_then (locals_steady h a b) (λ own.
      steady_made (λ what. record {
        name = defined;
        params = those;
        result = type;
        locals =
            own;
        body = what;
      }) body_steady)))))))

-- a declaration by its first lexeme, which is taken; so the bound may be the number of lexemes
-- itself
module _ {k m m' : ℕ} {expr expr' : Reader Expr} (h : IsSteady 0 k expr expr') (a : k ≤ m)
    (b : k ≤ m') (deep : ℕ) where
  decl_at : (x : Lexeme) (rest : List Lexeme) → length (x ∷ rest) ≤ k → (o : Option Part) →
      IsSteadyAt 1 (x ∷ rest) (decl_by m expr deep o (x ∷ rest)) (decl_by m' expr' deep o (x ∷
      rest))
  decl_at x rest within (Some part.Config) =
      behind_one (λ j below. steady_loose (steady_then (keyword_steady key.Var) (λ at.
      steady_made Config (group_steady {k = j} {m = m} {m' =
      m'} (define_steady (steady_less (omega arith) h)) (omega arith) (omega arith))))) x rest
      within
  decl_at x rest within (Some part.Constant) = behind_one (λ j below.
      steady_made Constant (group_steady {k = j} {m = m} {m' =
      m'} (define_steady (steady_less (omega arith) h)) (omega arith) (omega arith))) x rest
      within
  decl_at x rest within (Some part.Region) = behind_one (λ j below.
      steady_made Regions (group_steady {k = j} {m = m} {m' =
      m'} (region_steady (steady_less (omega arith) h) {m = m} {m' =
      m'} (omega arith) (omega arith)) (omega arith) (omega arith))) x rest within
  decl_at x rest within (Some part.Direction) = behind_one (λ j below.
      steady_made Directions (group_steady {k = j} {m = m} {m' =
      m'} (direction_steady (steady_less (omega arith) h) {m = m} {m' =
      m'} (omega arith) (omega arith)) (omega arith) (omega arith))) x rest within
  decl_at x rest within (Some part.Var) = behind_one (λ j below.
      steady_made Vars (group_steady {k = j} {m = m} {m' =
      m'} (variables_steady (steady_less (omega arith) h) {m = m} {m' =
      m'} (omega arith) (omega arith)) (omega arith) (omega arith))) x rest within
  decl_at x rest within (Some part.Procedure) = behind_one (λ j below.
      steady_made Defined (procedure_steady {k = j} {m = m} {m' =
      m'} (steady_less (omega arith) h) (omega arith) (omega arith) deep)) x rest within
  decl_at x rest within None = record { equal = refl; fewer = tt }

  decl_steady : IsSteady 1 k (λ l. decl_by m expr deep (part_of (head_kind l)) l) (λ l.
      decl_by m' expr' deep (part_of (head_kind l)) l)
  decl_steady =
      steady_cons (record { equal = refl; fewer = tt }) (λ x rest within.
      decl_at x rest within (part_of x.kind))

decls_steady : {k m m' : ℕ} {expr expr' : Reader Expr} → IsSteady 0 k expr expr' → k < m → k < m'
    → (deep : ℕ) → IsSteady 0 k (decls m expr deep) (decls m' expr' deep)
decls_steady {k} {m} {m'} {expr} {expr'} h a b deep = go m m' k (omega arith) a b
  where
    go : (m m' j : ℕ) → j ≤ k → j < m → j < m'
        → IsSteady 0 j (decls m expr deep) (decls m' expr' deep)
    go zero m' j within a b = absurd (omega arith)
    go (suc m) zero j within a b = absurd (omega arith)
    go (suc m) (suc m') j within a b = steady_if (next_is kind.End) taken_steady
        (steady_loose (steady_after (decl_steady {k = j} {m = m} {m' =
        m'} (steady_less within h) (omega arith) (omega arith) deep)
        (λ first i below. steady_made (λ others. first ∷
        others) (go m m' i (omega arith) (omega arith) (omega arith)))))

program_steady : {k m m' : ℕ} (source : List ℕ) → k < m → k < m'
    → IsSteady 1 k (program source m) (program source m')
program_steady source a b =
    steady_then (keyword_steady key.Program) (λ at.
    steady_then name_steady (λ called. steady_then (symbol_steady sym.Semicolon) (λ semicolon.
    steady_made (λ those. record {
      name = called;
      decls = those;
      source =
          source;
    }) (decls_steady (levels_steady a b most_deep).expr a b 199))))

-- the rule of programs gives the same with each bound that is greater than the number of lexemes
pub program_same : (source : List ℕ) (m m' : ℕ) (lexemes : List Lexeme) → length lexemes < m
    → length lexemes < m' →
    program source m lexemes ≡ program source m' lexemes
program_same source m m' lexemes a b =
    ((program_steady {k = length lexemes} source a b).at lexemes (omega arith)).equal
