-- Declarations and programs of one shape that have the offsets of the same lexemes are equal.
use Rattle.std.proofs.Common.{◌≡◌, ℕ, Bool, true, false, List, [], ◌∷◌, map, Option, Some, None, refl, sym, ap, subst}
use Rattle.std.specs.Option.{option_map}
use Rattle.zpl_tree.specs.Syntax.{Name, Expr, Exprs, Inner, Bracket, Posts, Stmt, Base, Integer, Boolean, Other, Define, RegionDef, DirDef, VarDef, Param, Procedure, Decl, Config, Constant, Regions, Directions, Vars, Defined, Program}
use Rattle.zpl_tree.specs.Shape.{name_shape, inner_shape, posts_shape, base_type_shape, define_shape, region_shape, direction_shape, var_shape, param_shape, procedure_shape, decl_shape, SameShape}
use Rattle.zpl_tree.specs.Spelling.{in_round, in_square, names_words, inner_words, bracket_words, type_words, define_words, direction_words, var_words, param_words, params_words, heading_words}
use Rattle.zpl_grammar.specs.Lexeme.{Lexeme, behind}
use Rattle.zpl_grammar.specs.Offsets.{past, SeparatedAt, ExprAt, PostsAt, StmtAt, TypeAt, DefineAt, BodyAt, opens, RegionAt, past_region, RegionsAt, DirectionAt, ShapeAt, VarAt, formal_of, ParamAt, ResultAt, grouped, LocalsAt, past_locals, ProcedureAt, DeclAt, past_decl, DeclsAt, ProgramAt}
use Rattle.zpl_parse.proofs.Once.Expressions.{AreOnce, ap_two, ap_three, each_once, separated_once, name_once, names_once, expr_once, exprs_once, inner_once, bracket_once, posts_once}
use Rattle.zpl_parse.proofs.Once.Statements.{ap_five, stmt_once}

type_once : AreOnce TypeAt base_type_shape
type_once lexemes Integer Integer x y e = refl
type_once lexemes Boolean Boolean x y e = refl
type_once lexemes (Other name) (Other other_name) x y e =
    let names : name_shape name ≡ name_shape other_name = cc in
    ap Other (name_once lexemes name other_name x y names)
type_once lexemes one other x y e = absurd (let no : ⊥ = cc in no)

define_once : AreOnce DefineAt define_shape
define_once lexemes one other x y e =
    let begin : List Lexeme = behind (behind lexemes) in
    let name = name_once lexemes one.name other.name x.0 y.0 (ap (λ (d : Define). d.name) e) in
    let base = type_once begin one.base other.base x.1 y.1 (ap (λ (d : Define). d.base) e) in
    let there =
    subst (λ (z : Base). ExprAt (behind (past (type_words z) begin)) other.value) (sym base) y.2
    in
    let value =
    expr_once (behind (past (type_words one.base) begin)) one.value other.value x.2 there
    (ap (λ (d : Define). d.value) e) in
    ap_three (λ (n : Name) (b : Base) (v : Expr). record {
      name = n;
      base = b;
      value =
          v;
    }) name base value

-- in a bracket or bare, what a region is defined as
body_once : (bracketed : Bool) (lexemes : List Lexeme) (one other : RegionDef)
    → BodyAt bracketed lexemes one → BodyAt bracketed lexemes other →
    inner_shape one.body ≡ inner_shape other.body → posts_shape one.posts ≡ posts_shape other.posts
    → (one.body ≡ other.body) × (one.posts ≡ other.posts)
body_once true lexemes one other x y inners those =
    let inner = inner_once (behind lexemes) one.body other.body x.0 y.0 inners in
    let there =
    subst (λ (z : Inner). PostsAt (past (in_square (inner_words z)) lexemes) other.posts)
    (sym inner) y.1 in (
      inner,
      posts_once (past (in_square (inner_words one.body)) lexemes) one.posts other.posts x.1
          there those,
    )
body_once false lexemes one other x y inners those =
    let inner = inner_once lexemes one.body other.body x.0 y.0 inners in
    let there =
    subst (λ (z : Inner). PostsAt (past (inner_words z) lexemes) other.posts) (sym inner) y.1 in
    (inner, posts_once (past (inner_words one.body) lexemes) one.posts other.posts x.1 there those)

region_once : AreOnce RegionAt region_shape
region_once lexemes one other x y e =
    let begin : List Lexeme = behind (behind lexemes) in
    let name = name_once lexemes one.name other.name x.0 y.0 (ap (λ (r : RegionDef). r.name) e) in
    let body =
    body_once (opens begin) begin one other x.1 y.1 (ap (λ (r : RegionDef). r.body) e)
    (ap (λ (r : RegionDef). r.posts) e) in
    ap_three (λ (n : Name) (b : Inner) (p : Posts). record {
      name = n;
      body = b;
      posts =
          p;
    }) name body.0 body.1

regions_once : AreOnce RegionsAt (map region_shape)
regions_once lexemes [] [] x y e = refl
regions_once lexemes (one ∷ ones) (other ∷ others) x y e =
    let shapes : region_shape one ≡ region_shape other = cc in
    let more : map region_shape ones ≡ map region_shape others = cc in
    let first = region_once lexemes one other x.0 y.0 shapes in
    let there =
    subst (λ (z : RegionDef). RegionsAt (past_region z lexemes) others) (sym first) y.1 in
    ap_two (λ z zs. z ∷ zs) first (regions_once (past_region one lexemes) ones others x.1 there
    more)
regions_once lexemes one other x y e = absurd (let no : ⊥ = cc in no)

direction_once : AreOnce DirectionAt direction_shape
direction_once lexemes one other x y e =
    let name = name_once lexemes one.name other.name x.0 y.0 (ap (λ (d : DirDef). d.name) e) in
    let parts =
    exprs_once (behind (behind (behind lexemes))) one.parts other.parts x.1 y.1
    (ap (λ (d : DirDef). d.parts) e) in
    ap_two (λ (n : Name) (p : Exprs). record { name = n; parts = p }) name parts

var_once : AreOnce VarAt var_shape
var_once lexemes one other x y e =
    let names = names_once lexemes one.names other.names x.0 y.0 (ap (λ (v : VarDef). v.names) e) in
    let there =
    subst (λ (z : List Name). ShapeAt (behind (past (names_words z) lexemes)) other.shape
    other.base) (sym names) y.1 in
    let begin : List Lexeme = behind (past (names_words one.names) lexemes) in
    let shape =
    bracket_once begin one.shape other.shape x.1.0 there.0 (ap (λ (v : VarDef). v.shape) e) in
    let base_there =
    subst (λ (z : Bracket). TypeAt (past (bracket_words z) begin) other.base) (sym shape)
    there.1 in
    let base = type_once (past (bracket_words one.shape) begin) one.base other.base x.1.1 base_there
    (ap (λ (v : VarDef). v.base) e) in
    ap_three (λ (n : List Name) (s : Bracket) (b : Base). record {
      names = n;
      shape = s;
      base =
          b;
    }) names shape base

param_once : AreOnce ParamAt param_shape
param_once lexemes one other x y e =
    let refers = ap (λ (p : Param). p.by_ref) e in
    let start : List Lexeme = formal_of one.by_ref lexemes in
    let those =
    subst (λ (z : Bool). VarAt (formal_of z lexemes) (record {
      names = other.names;
      shape =
          other.shape;
      base = other.base;
    })) (sym refers) y in
    let var =
    var_once start (record {
      names = one.names;
      shape = one.shape;
      base =
          one.base;
    }) (record { names = other.names; shape = other.shape; base = other.base }) x those
    (ap (λ (p : Param). the_var p) e) in
    ap_two (λ (r : Bool) (v : VarDef). record {
      by_ref = r;
      names = v.names;
      shape = v.shape;
      base =
          v.base;
    }) refers var
  where
    the_var : Param → VarDef
    the_var p = record { names = p.names; shape = p.shape; base = p.base }

params_once : AreOnce (SeparatedAt ParamAt param_words) (map param_shape)
params_once = separated_once ParamAt param_words param_shape param_once

result_once : AreOnce ResultAt (option_map base_type_shape)
result_once lexemes None None x y e = refl
result_once lexemes (Some base) (Some other_base) x y e =
    let bases : base_type_shape base ≡ base_type_shape other_base = cc in
    ap Some (type_once (behind lexemes) base other_base x y bases)
result_once lexemes one other x y e = absurd (let no : ⊥ = cc in no)

locals_once : AreOnce LocalsAt (map var_shape)
locals_once lexemes [] [] x y e = refl
locals_once lexemes (one ∷ ones) (other ∷ others) x y e =
    let shapes : var_shape one ≡ var_shape other = cc in
    let more : map var_shape ones ≡ map var_shape others = cc in
    let first = var_once (grouped lexemes) one other x.0 y.0 shapes in
    let there =
    subst (λ (z : VarDef). LocalsAt (past (var_words z) (grouped lexemes)) others) (sym first)
    y.1 in
    ap_two (λ z zs. z ∷ zs) first (locals_once (past (var_words one) (grouped lexemes)) ones others
    x.1 there more)
locals_once lexemes one other x y e = absurd (let no : ⊥ = cc in no)

procedure_once : AreOnce ProcedureAt procedure_shape
procedure_once lexemes one other x y e =
    let name =
    name_once (behind lexemes) one.name other.name x.0 y.0 (ap (λ (p : Procedure). p.name) e) in
    let params =
    params_once (behind (behind (behind lexemes))) one.params other.params x.1 y.1
    (ap (λ (p : Procedure). p.params) e) in
    let result_there =
    subst (λ (z : List Param).
    ResultAt (past (in_round (params_words z)) (behind (behind lexemes))) other.result)
    (sym params) y.2 in
    let result =
    result_once (past (in_round (params_words one.params)) (behind (behind lexemes))) one.result
    other.result x.2 result_there (ap (λ (p : Procedure). p.result) e) in
    let heading = ap_three (λ (n : Name) (ps : List Param) (r : Option Base).
    past (heading_words (record {
      name = n;
      params = ps;
      result = r;
      locals = other.locals;
      body =
          other.body;
    })) lexemes) name params result in
    let locals_there = subst (λ (l : List Lexeme). LocalsAt l other.locals) (sym heading) y.3 in
    let locals =
    locals_once (past (heading_words one) lexemes) one.locals other.locals x.3 locals_there
    (ap (λ (p : Procedure). p.locals) e) in
    let begin = ap_two (λ (vs : List VarDef) (l : List Lexeme). past_locals vs l) locals heading in
    let body_there = subst (λ (l : List Lexeme). StmtAt l other.body) (sym begin) y.4 in
    let body =
    stmt_once (past_locals one.locals (past (heading_words one) lexemes)) one.body other.body
    x.4 body_there (ap (λ (p : Procedure). p.body) e) in
    ap_five (λ (n : Name) (ps : List Param) (r : Option Base) (vs : List VarDef) (b : Stmt).
    record { name = n; params = ps; result = r; locals = vs; body = b })
    name params result locals body

decl_once : AreOnce DeclAt decl_shape
decl_once lexemes (Config defines) (Config other_defines) x y e =
    let those : map define_shape defines ≡ map define_shape other_defines = cc in
    ap Config (each_once DefineAt define_words define_shape define_once (behind (behind lexemes))
    defines other_defines x y those)
decl_once lexemes (Constant defines) (Constant other_defines) x y e =
    let those : map define_shape defines ≡ map define_shape other_defines = cc in
    ap Constant (each_once DefineAt define_words define_shape define_once (behind lexemes) defines
    other_defines x y those)
decl_once lexemes (Regions regions) (Regions other_regions) x y e =
    let those : map region_shape regions ≡ map region_shape other_regions = cc in
    ap Regions (regions_once (behind lexemes) regions other_regions x y those)
decl_once lexemes (Directions directions) (Directions other_directions) x y e =
    let those : map direction_shape directions ≡ map direction_shape other_directions = cc in
    ap Directions (each_once DirectionAt direction_words direction_shape direction_once
    (behind lexemes) directions other_directions x y those)
decl_once lexemes (Vars vars) (Vars other_vars) x y e =
    let those : map var_shape vars ≡ map var_shape other_vars = cc in
    ap Vars (each_once VarAt var_words var_shape var_once (behind lexemes) vars other_vars x y
    those)
decl_once lexemes (Defined procedure) (Defined other_procedure) x y e =
    let those : procedure_shape procedure ≡ procedure_shape other_procedure = cc in
    ap Defined (procedure_once lexemes procedure other_procedure x y those)
decl_once lexemes one other x y e = absurd (let no : ⊥ = cc in no)

decls_once : AreOnce DeclsAt (map decl_shape)
decls_once lexemes [] [] x y e = refl
decls_once lexemes (one ∷ ones) (other ∷ others) x y e =
    let shapes : decl_shape one ≡ decl_shape other = cc in
    let more : map decl_shape ones ≡ map decl_shape others = cc in
    let first = decl_once lexemes one other x.0 y.0 shapes in
    let there = subst (λ (z : Decl). DeclsAt (past_decl z lexemes) others) (sym first) y.1 in
    ap_two (λ z zs. z ∷ zs) first (decls_once (past_decl one lexemes) ones others x.1 there more)
decls_once lexemes one other x y e = absurd (let no : ⊥ = cc in no)

-- and so are programs, over one source
pub program_once : (lexemes : List Lexeme) (one other : Program) → ProgramAt lexemes one
    → ProgramAt lexemes other → SameShape one other → one.source ≡ other.source → one ≡ other
program_once lexemes one other x y e source =
    let name =
    name_once (behind lexemes) one.name other.name x.0 y.0 (ap (λ (p : Program). p.name) e) in
    let decls =
    decls_once (behind (behind (behind lexemes))) one.decls other.decls x.1 y.1
    (ap (λ (p : Program). p.decls) e) in
    ap_three (λ (n : Name) (ds : List Decl) (s : List ℕ). record {
      name = n;
      decls = ds;
      source =
          s;
    }) name decls source
