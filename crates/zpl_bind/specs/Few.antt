-- Declarations whose brackets have at most three dimensions, as those of a program without faults.
use Rattle.std.specs.Prelude.{◌≤◌, nat_le, Bool, true, List, All}
use Rattle.std.specs.List.{list_all}
use Rattle.zpl_tree.specs.Syntax.{Inner, Rexpr, Dims, Bracket, NoBracket, Bracketed, VarDef, Decl, Config, Constant, Regions, Directions, Vars, Defined}
use Rattle.zpl_parts.specs.of_zpl_names.Ranks.{dims_count}

abbrev pub IsFew : Inner → Type 0
IsFew (Rexpr pre base post) = Unit {0}
IsFew (Dims dims) = dims_count dims ≤ 3

abbrev pub IsFewBracket : Bracket → Type 0
IsFewBracket NoBracket = Unit {0}
IsFewBracket (Bracketed inner) = IsFew inner

abbrev pub AreFewVars : List VarDef → Type 0
AreFewVars vars = All (λ var. IsFewBracket var.shape) vars

abbrev pub IsFewDecl : Decl → Type 0
IsFewDecl (Regions regions) = All (λ region. IsFew region.body) regions
IsFewDecl (Vars vars) = AreFewVars vars
IsFewDecl (Defined procedure) = AreFewVars procedure.locals
IsFewDecl (Config defines) = Unit {0}
IsFewDecl (Constant defines) = Unit {0}
IsFewDecl (Directions directions) = Unit {0}

-- ---- as tests

abbrev pub is_few : Inner → Bool
is_few (Rexpr pre base post) = true
is_few (Dims dims) = nat_le (dims_count dims) 3

abbrev pub is_few_bracket : Bracket → Bool
is_few_bracket NoBracket = true
is_few_bracket (Bracketed inner) = is_few inner

abbrev pub are_few_vars : List VarDef → Bool
are_few_vars vars = list_all (λ var. is_few_bracket var.shape) vars

abbrev pub is_few_decl : Decl → Bool
is_few_decl (Regions regions) = list_all (λ region. is_few region.body) regions
is_few_decl (Vars vars) = are_few_vars vars
is_few_decl (Defined procedure) = are_few_vars procedure.locals
is_few_decl (Config defines) = true
is_few_decl (Constant defines) = true
is_few_decl (Directions directions) = true
