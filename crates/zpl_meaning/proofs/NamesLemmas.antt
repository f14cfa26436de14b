-- What names stand for in a run is of the kind that the text says.
use Rattle.std.proofs.Common.{◌≡◌, ℕ, zero, suc, Bool, true, false, cond, List, [], ◌∷◌, ◌++◌}
use Rattle.std.proofs.Common.{map, length, Option, Some, None, option_map, IsSome, refl, sym}
use Rattle.std.proofs.Common.{subst, true≢false, append_assoc, append-nil, inl, inr, ℤ}
use Rattle.std.specs.List.{AllByRecursion, find, flat_map}
use Rattle.std.specs.Option.{option_or}
use Rattle.std.specs.Str.{bytes_eq}
use Rattle.zpl_binding.specs.of_zpl_tree.Syntax.{Name, Expr, Exprs, NoExpr, ThenExpr, NamedRegion, Ditto, Inner}
use Rattle.zpl_binding.specs.of_zpl_tree.Syntax.{Rexpr, Dims, Bracket, NoBracket, Bracketed, DimTexts, NoDim}
use Rattle.zpl_binding.specs.of_zpl_tree.Syntax.{ThenDim, Base, Integer, Define, RegionDef, DirDef, VarDef, Param}
use Rattle.zpl_binding.specs.of_zpl_tree.Syntax.{Decl, Config, Constant, Regions, Directions, Vars, Defined}
use Rattle.zpl_binding.specs.of_zpl_tree.Syntax as plain
use Rattle.zpl_binding.specs.of_zpl_tree.Grammar.{HasDims, IsInner, IsBracket, IsRegion, IsVar, IsParam, IsDecl}
use Rattle.zpl_binding.specs.of_zpl_tree.Grammar.{IsProcedure}
use Rattle.zpl_binding.specs.of_zpl_names.Kinds as kind
use Rattle.zpl_binding.specs.of_zpl_names.Kinds.{Shape, Rank, Kind, Formal, ScalarFormal, ArrayFormal}
use Rattle.zpl_binding.specs.of_zpl_names.Scope.{Entry, Scope, kind_in, kind_of, in_reach}
use Rattle.zpl_binding.specs.of_zpl_names.Ranks.{IsRank, HasRank, IsKnownKind, inner_rank, is_index, region_shape}
use Rattle.zpl_binding.specs.of_zpl_names.Shapes.{Current, current_at, no_shapes, shape_of_current, dim_shape}
use Rattle.zpl_binding.specs.of_zpl_names.Shapes.{with_dim, dims_shape, inner_shape, declared_shape, variable_kind}
use Rattle.zpl_binding.specs.of_zpl_names.Declared.{entry_for, declaring, own_names, head_scope, own_entries}
use Rattle.zpl_binding.specs.of_zpl_names.Declared.{formal_of, formals_of}
use Rattle.zpl_binding.specs.of_zpl_names.Declared.{procedure_entry, with_define, with_region, with_direction}
use Rattle.zpl_binding.specs.of_zpl_names.Declared.{with_variables as with_global_variables, with_procedure}
use Rattle.zpl_binding.specs.of_zpl_names.Declared.{with_each, with_decl, Routine, routines_behind}
use Rattle.zpl_binding.specs.of_zpl_names.Expansion.{FormalName, formal_names}
use Rattle.zpl_binding.proofs.of_zpl_names.ListLemmas.{Among}
use Rattle.zpl_binding.specs.Regions.{Known}
use Rattle.zpl_binding.specs.Storages.{Border}
use Rattle.zpl_meaning.specs.Store.{Thing, Fixed, Names}
use Rattle.zpl_meaning.specs.Variables.{Frame, with_name, with_names, with_variables, with_values}
use Rattle.zpl_meaning.specs.Variables.{with_declared, with_declarations}
use Rattle.zpl_meaning.specs.Calls.{Handed, Copied, CopiedArray, Referred, with_handed, with_formals}
use Rattle.zpl_meaning.specs.Proper.{IsVariable, IsArray, IsArrayRank}
use Rattle.zpl_meaning.proofs.ProperLemmas.{IsFixed, IsNamed, array_rank_is}

-- ---- names that are listed as what their entries say

-- a thing of a kind
abbrev pub Stands : Kind → Thing → Type 0
Stands (kind.Config base) thing = IsFixed (Some thing)
Stands (kind.Constant base) thing = IsFixed (Some thing)
Stands (kind.Scalar base) thing = IsVariable (Some thing)
Stands (kind.Array base shape) thing = IsArray (Some thing)
Stands (kind.Region shape) thing = ⊥
Stands (kind.Direction rank) thing = ⊥
Stands (kind.Procedure signature) thing = ⊥

-- a kind without a thing
abbrev pub IsOther : Kind → Type 0
IsOther (kind.Region shape) = Unit {0}
IsOther (kind.Direction rank) = Unit {0}
IsOther (kind.Procedure signature) = Unit {0}
IsOther (kind.Config base) = ⊥
IsOther (kind.Constant base) = ⊥
IsOther (kind.Scalar base) = ⊥
IsOther (kind.Array base shape) = ⊥

pub data Listed : List Entry → Names → Type 0 where
  Nothing : Listed [] []
  Skips : {entries : List Entry} {names : Names} (name : Name) (thing : Kind) → IsOther thing →
      Listed entries names → Listed (entry_for thing name ∷ entries) names
  Lists : {entries : List Entry} {names : Names} (name : Name) (thing : Kind) (it : Thing) →
      Stands thing it → Listed entries names →
      Listed (entry_for thing name ∷ entries) ((name.text, it) ∷ names)

pub listed_append : (xs ys : List Entry) (ns ms : Names) → Listed xs ns → Listed ys ms
    → Listed (xs ++ ys) (ns ++ ms)
listed_append [] ys [] ms Nothing k = k
listed_append [] ys (n ∷ ns) ms h k = elim h [ ]
listed_append (x ∷ xs) ys ns ms (Skips name thing other h) k =
    Skips name thing other (listed_append xs ys ns ms h k)
listed_append (x ∷ xs) ys (n ∷ ns) ms (Lists name thing it stands h) k =
    Lists name thing it stands (listed_append xs ys ns ms h k)

listed_skip : (xs : List Entry) (ns : Names) (name : Name) (thing : Kind) → IsOther thing
    → Listed xs ns → Listed (xs ++ entry_for thing name ∷ []) ns
listed_skip xs ns name thing other h =
    subst (Listed (xs ++ entry_for thing name ∷ [])) (append-nil ns)
    (listed_append xs (entry_for thing name ∷ []) ns [] h (Skips name thing other Nothing))

listed_one : (xs : List Entry) (ns : Names) (name : Name) (thing : Kind) (it : Thing)
    → Stands thing it → Listed xs ns
    → Listed (xs ++ entry_for thing name ∷ []) (ns ++ (name.text, it) ∷ [])
listed_one xs ns name thing it stands h =
    listed_append xs (entry_for thing name ∷ []) ns ((name.text, it) ∷ []) h
    (Lists name thing it stands Nothing)

-- what a name stands for in both
abbrev pub IsFound : Option Kind → Option Thing → Type 0
IsFound (Some (kind.Config base)) thing = IsFixed thing
IsFound (Some (kind.Constant base)) thing = IsFixed thing
IsFound (Some (kind.Scalar base)) thing = IsVariable thing
IsFound (Some (kind.Array base shape)) thing = IsArray thing
IsFound (Some (kind.Region shape)) thing = Unit {0}
IsFound (Some (kind.Direction rank)) thing = Unit {0}
IsFound (Some (kind.Procedure signature)) thing = Unit {0}
IsFound None thing = Unit {0}

other_found : (thing : Kind) (it : Option Thing) → IsOther thing → IsFound (Some thing) it
other_found (kind.Region shape) it h = tt
other_found (kind.Direction rank) it h = tt
other_found (kind.Procedure signature) it h = tt
other_found (kind.Config base) it h = absurd h
other_found (kind.Constant base) it h = absurd h
other_found (kind.Scalar base) it h = absurd h
other_found (kind.Array base shape) it h = absurd h

stands_found : (thing : Kind) (it : Thing) → Stands thing it → IsFound (Some thing) (Some it)
stands_found (kind.Config base) it h = h
stands_found (kind.Constant base) it h = h
stands_found (kind.Scalar base) it h = h
stands_found (kind.Array base shape) it h = h
stands_found (kind.Region shape) it h = absurd h
stands_found (kind.Direction rank) it h = absurd h
stands_found (kind.Procedure signature) it h = absurd h

abbrev named_thing : Names → List ℕ → Option Thing
named_thing names text =
    option_map (λ entry. entry.1) (find (λ entry. bytes_eq entry.0 text) names)

pub listed_found : (xs : List Entry) (ns : Names) (text : List ℕ) → Listed xs ns
    → IsFound (kind_in xs text) (named_thing ns text)
listed_found [] [] text Nothing = tt
listed_found [] (n ∷ ns) text h = elim h [ ]
listed_found (x ∷ xs) ns text (Skips name thing other h) =
    by (bytes_eq name.text text) (listed_found xs ns text h)
  where
    by : (b : Bool) → IsFound (kind_in xs text) (named_thing ns text)
        → IsFound (option_map (λ entry. entry.kind)
        (cond b (Some (entry_for thing name)) (find (λ entry. bytes_eq entry.name.text text) xs)))
        (named_thing ns text)
    by true later = other_found thing (named_thing ns text) other
    by false later = later
listed_found (x ∷ xs) (n ∷ ns) text (Lists name thing it stands h) =
    by (bytes_eq name.text text) (listed_found xs ns text h)
  where
    by : (b : Bool) → IsFound (kind_in xs text) (named_thing ns text)
        → IsFound (option_map (λ entry. entry.kind)
        (cond b (Some (entry_for thing name)) (find (λ entry. bytes_eq entry.name.text text) xs)))
        (option_map (λ entry. entry.1)
        (cond b (Some (name.text, it)) (find (λ entry. bytes_eq entry.0 text) ns)))
    by true later = stands_found thing it stands
    by false later = later

-- ---- entries whose regions and arrays have ranks from 1 to 3

abbrev pub IsGood : Kind → Type 0
IsGood (kind.Region shape) = IsArrayRank (option_map length shape)
IsGood (kind.Array base shape) = IsArrayRank (option_map length shape)
IsGood (kind.Config base) = Unit {0}
IsGood (kind.Constant base) = Unit {0}
IsGood (kind.Scalar base) = Unit {0}
IsGood (kind.Direction rank) = Unit {0}
IsGood (kind.Procedure signature) = Unit {0}

abbrev pub OptGood : Option Kind → Type 0
OptGood None = Unit {0}
OptGood (Some kind) = IsGood kind

pub good_in : (entries : List Entry) (text : List ℕ)
    → AllByRecursion (λ entry. IsGood entry.kind) entries → OptGood (kind_in entries text)
good_in [] text h = tt
good_in (first ∷ rest) text h = by (bytes_eq first.name.text text) (good_in rest text h.1)
  where
    by : (b : Bool) → OptGood (kind_in rest text)
        → OptGood (option_map (λ entry. entry.kind)
        (cond b (Some first) (find (λ entry. bytes_eq entry.name.text text) rest)))
    by true later = h.0
    by false later = later

pub named_from : (kind : Option Kind) (thing : Option Thing) → IsFound kind thing → OptGood kind
    → IsNamed kind thing
named_from (Some (kind.Config base)) thing h g = h
named_from (Some (kind.Constant base)) thing h g = h
named_from (Some (kind.Scalar base)) thing h g = h
named_from (Some (kind.Array base shape)) thing h g = (h, g)
named_from (Some (kind.Region shape)) thing h g = g
named_from (Some (kind.Direction rank)) thing h g = tt
named_from (Some (kind.Procedure signature)) thing h g = tt
named_from None thing h g = tt

-- ---- shapes that aren't empty

abbrev NotEmpty : Option Shape → Type 0
NotEmpty None = Unit {0}
NotEmpty (Some []) = ⊥
NotEmpty (Some (flood ∷ shape)) = Unit {0}

abbrev pub HasShape : Kind → Type 0
HasShape (kind.Region shape) = NotEmpty shape
HasShape (kind.Array base shape) = NotEmpty shape
HasShape (kind.Config base) = Unit {0}
HasShape (kind.Constant base) = Unit {0}
HasShape (kind.Scalar base) = Unit {0}
HasShape (kind.Direction rank) = Unit {0}
HasShape (kind.Procedure signature) = Unit {0}

shape_rank : (shape : Option Shape) → IsSome shape → IsRank (option_map length shape)
    → NotEmpty shape → IsArrayRank (option_map length shape)
shape_rank None k le h = absurd (true≢false (sym k))
shape_rank (Some []) k le h = absurd h
shape_rank (Some (flood ∷ shape)) k le h =
    array_rank_is (Some (length (flood ∷ shape))) refl refl le

pub good_from : (thing : Kind) → IsKnownKind thing → HasRank thing → HasShape thing → IsGood thing
good_from (kind.Region shape) k le h = shape_rank shape k le h
good_from (kind.Array base shape) k le h = shape_rank shape k le h
good_from (kind.Config base) k le h = tt
good_from (kind.Constant base) k le h = tt
good_from (kind.Scalar base) k le h = tt
good_from (kind.Direction rank) k le h = tt
good_from (kind.Procedure signature) k le h = tt

abbrev pub Shaped : List Entry → Type 0
Shaped entries = AllByRecursion (λ entry. HasShape entry.kind) entries

abbrev OptShaped : Option Kind → Type 0
OptShaped None = Unit {0}
OptShaped (Some kind) = HasShape kind

shaped_in : (entries : List Entry) (text : List ℕ) → Shaped entries
    → OptShaped (kind_in entries text)
shaped_in [] text h = tt
shaped_in (first ∷ rest) text h = by (bytes_eq first.name.text text) (shaped_in rest text h.1)
  where
    by : (b : Bool) → OptShaped (kind_in rest text)
        → OptShaped (option_map (λ entry. entry.kind)
        (cond b (Some first) (find (λ entry. bytes_eq entry.name.text text) rest)))
    by true later = h.0
    by false later = later

shaped_or : (one other : Option Kind) → OptShaped one → OptShaped other
    → OptShaped (option_or one other)
shaped_or None other h k = k
shaped_or (Some kind) other h k = h

shaped_reach : (constants : Bool) (kind : Option Kind) → OptShaped kind
    → OptShaped (in_reach constants kind)
shaped_reach true None h = tt
shaped_reach true (Some (kind.Config base)) h = tt
shaped_reach true (Some (kind.Constant base)) h = tt
shaped_reach true (Some (kind.Region shape)) h = h
shaped_reach true (Some (kind.Direction rank)) h = h
shaped_reach true (Some (kind.Scalar base)) h = tt
shaped_reach true (Some (kind.Array base shape)) h = tt
shaped_reach true (Some (kind.Procedure signature)) h = tt
shaped_reach false kind h = h

shaped_kind : (scope : Scope) (name : Name) → Shaped scope.own → Shaped scope.globals
    → OptShaped (kind_of scope name)
shaped_kind scope name own globals =
    shaped_reach scope.constants
    (option_or (kind_in scope.own name.text) (kind_in scope.globals name.text))
    (shaped_or (kind_in scope.own name.text) (kind_in scope.globals name.text)
    (shaped_in scope.own name.text own) (shaped_in scope.globals name.text globals))

shape_of_region : (kind : Option Kind) → OptShaped kind → NotEmpty (region_shape kind)
shape_of_region (Some (kind.Region shape)) h = h
shape_of_region (Some (kind.Config base)) h = tt
shape_of_region (Some (kind.Constant base)) h = tt
shape_of_region (Some (kind.Direction rank)) h = tt
shape_of_region (Some (kind.Scalar base)) h = tt
shape_of_region (Some (kind.Array base shape)) h = tt
shape_of_region (Some (kind.Procedure signature)) h = tt
shape_of_region None h = tt

dims_not_empty : (current : Current) (k : ℕ) (dims : DimTexts) → HasDims dims
    → NotEmpty (dims_shape current k dims)
dims_not_empty current k NoDim h = absurd h
dims_not_empty current k (ThenDim first rest) h =
    by (dim_shape current k first) (dims_shape current (suc k) rest)
  where
    by : (flood : Option Bool) (shape : Option Shape) → NotEmpty (with_dim flood shape)
    by None shape = tt
    by (Some flood) None = tt
    by (Some flood) (Some shape) = tt

none_current : (n : ℕ) → NotEmpty (shape_of_current (current_at no_shapes n))
none_current zero = tt
none_current (suc zero) = tt
none_current (suc (suc zero)) = tt
none_current (suc (suc (suc zero))) = tt
none_current (suc (suc (suc (suc n)))) = tt

declared_not_empty : (scope : Scope) → Shaped scope.own → Shaped scope.globals → (inner : Inner)
    → IsInner inner → NotEmpty (declared_shape scope inner)
declared_not_empty scope own globals (Rexpr pre (NamedRegion name) post) g =
    by (inner_rank scope (Some 0) (Some 0) (Rexpr pre (NamedRegion name) post))
  where
    shaped : (b : Bool)
        → NotEmpty (cond b (Some (false ∷ [])) (region_shape (kind_of scope name)))
    shaped true = tt
    shaped false = shape_of_region (kind_of scope name) (shaped_kind scope name own globals)

    by : (rank : Rank)
        → NotEmpty (inner_shape scope no_shapes rank (Rexpr pre (NamedRegion name) post))
    by None = tt
    by (Some n) = shaped (is_index scope pre name post)
declared_not_empty scope own globals (Rexpr pre (Ditto at) post) g =
    by (inner_rank scope (Some 0) (Some 0) (Rexpr pre (Ditto at) post))
  where
    by : (rank : Rank) → NotEmpty (inner_shape scope no_shapes rank (Rexpr pre (Ditto at) post))
    by None = tt
    by (Some n) = none_current n
declared_not_empty scope own globals (Dims dims) g =
    by (inner_rank scope (Some 0) (Some 0) (Dims dims))
  where
    by : (rank : Rank) → NotEmpty (inner_shape scope no_shapes rank (Dims dims))
    by None = tt
    by (Some n) = dims_not_empty (current_at no_shapes n) 0 dims g.0

variable_shaped : (scope : Scope) → Shaped scope.own → Shaped scope.globals → (bracket : Bracket)
    (base : Base) → IsBracket bracket → HasShape (variable_kind scope bracket base)
variable_shaped scope own globals NoBracket base g = tt
variable_shaped scope own globals (Bracketed inner) base g =
    declared_not_empty scope own globals inner g

shaped_append : (xs ys : List Entry) → Shaped xs → Shaped ys → Shaped (xs ++ ys)
shaped_append [] ys h k = k
shaped_append (x ∷ xs) ys h k = (h.0, shaped_append xs ys h.1 k)

shaped_names : (thing : Kind) → HasShape thing → (names : List Name)
    → Shaped (map (entry_for thing) names)
shaped_names thing h [] = tt
shaped_names thing h (name ∷ names) = (h, shaped_names thing h names)

params_shaped : (scope : Scope) → Shaped scope.own → Shaped scope.globals → (params : List Param)
    → AllByRecursion IsParam params
    → Shaped (flat_map (λ param. map (entry_for (variable_kind scope param.shape param.base))
    param.names) params)
params_shaped scope own globals [] g = tt
params_shaped scope own globals (param ∷ rest) g =
    shaped_append (map (entry_for (variable_kind scope param.shape param.base)) param.names) _
    (shaped_names (variable_kind scope param.shape param.base)
    (variable_shaped scope own globals param.shape param.base g.0.1) param.names)
    (params_shaped scope own globals rest g.1)

locals_shaped : (scope : Scope) → Shaped scope.own → Shaped scope.globals → (locals : List VarDef)
    → AllByRecursion IsVar locals
    → Shaped (flat_map (λ var. map (entry_for (variable_kind scope var.shape var.base)) var.names)
    locals)
locals_shaped scope own globals [] g = tt
locals_shaped scope own globals (var ∷ rest) g =
    shaped_append (map (entry_for (variable_kind scope var.shape var.base)) var.names) _
    (shaped_names (variable_kind scope var.shape var.base)
    (variable_shaped scope own globals var.shape var.base g.0.1) var.names)
    (locals_shaped scope own globals rest g.1)

own_shaped : (earlier : List Entry) (procedure : plain.Procedure) → Shaped earlier
    → IsProcedure procedure → Shaped (own_entries earlier procedure)
own_shaped earlier procedure h g =
    let scope = head_scope earlier procedure in
    let own = shaped_names (kind.Scalar Integer) tt (own_names procedure) in
    shaped_append
    (flat_map (λ param. map (entry_for (variable_kind scope param.shape param.base)) param.names)
    procedure.params) _
    (params_shaped scope own h procedure.params g.0)
    (locals_shaped scope own h procedure.locals g.1)

each_shaped : {A : Type 0} (adds : List Entry → A → List Entry) (G : A → Type 0)
    → ((earlier : List Entry) (a : A) → Shaped earlier → G a → Shaped (adds earlier a))
    → (list : List A) (earlier : List Entry) → Shaped earlier → AllByRecursion G list
    → Shaped (with_each adds earlier list)
each_shaped adds G keeps [] earlier h g = h
each_shaped adds G keeps (a ∷ rest) earlier h g =
    each_shaped adds G keeps rest (adds earlier a) (keeps earlier a h g.0) g.1

each_plain : {A : Type 0} (adds : List Entry → A → List Entry)
    → ((earlier : List Entry) (a : A) → Shaped earlier → Shaped (adds earlier a))
    → (list : List A) (earlier : List Entry) → Shaped earlier
    → Shaped (with_each adds earlier list)
each_plain adds keeps [] earlier h = h
each_plain adds keeps (a ∷ rest) earlier h =
    each_plain adds keeps rest (adds earlier a) (keeps earlier a h)

pub decl_shaped : (decl : Decl) (earlier : List Entry) → Shaped earlier → IsDecl decl
    → Shaped (with_decl earlier decl)
decl_shaped (Config defines) earlier h g =
    each_plain (with_define kind.Config)
    (λ earlier define h. shaped_append earlier _ h (tt, tt)) defines earlier h
decl_shaped (Constant defines) earlier h g =
    each_plain (with_define kind.Constant)
    (λ earlier define h. shaped_append earlier _ h (tt, tt)) defines earlier h
decl_shaped (Regions regions) earlier h g =
    each_shaped with_region IsRegion
    (λ earlier region h g. shaped_append earlier _ h
    (declared_not_empty (declaring [] earlier) tt h region.body g.0, tt)) regions earlier h g.1
decl_shaped (Directions directions) earlier h g =
    each_plain with_direction (λ earlier direction h. shaped_append earlier _ h (tt, tt))
    directions earlier h
decl_shaped (Vars vars) earlier h g =
    each_shaped with_global_variables IsVar
    (λ earlier var h g. shaped_append earlier _ h
    (shaped_names (variable_kind (declaring [] earlier) var.shape var.base)
    (variable_shaped (declaring [] earlier) tt h var.shape var.base g.1) var.names))
    vars earlier h g.1
decl_shaped (Defined procedure) earlier h g =
    shaped_append earlier (procedure_entry earlier procedure ∷ []) h (tt, tt)

pub globals_shaped : (decls : List Decl) (earlier : List Entry) → Shaped earlier
    → AllByRecursion IsDecl decls → Shaped (with_each with_decl earlier decls)
globals_shaped [] earlier h g = h
globals_shaped (decl ∷ decls) earlier h g =
    globals_shaped decls (with_decl earlier decl) (decl_shaped decl earlier h g.0) g.1

-- ---- routines of the text

pub record IsSound (routine : Routine) : Type 0 where
  pub earlier : List Entry
  pub own : routine.own ≡ own_entries earlier routine.procedure
  pub shaped : Shaped routine.own
  pub grammar : IsProcedure routine.procedure

pub routine_sound : (decls : List Decl) (earlier : List Entry) (routine : Routine)
    → Shaped earlier → AllByRecursion IsDecl decls → Among (routines_behind earlier decls) routine
    → IsSound routine
routine_sound [] earlier routine h g m = absurd m
routine_sound (Defined procedure ∷ decls) earlier routine h g (inl e) =
    subst IsSound e (record {
      earlier = earlier;
      own = refl;
      shaped = own_shaped earlier procedure h g.0;
      grammar = g.0;
    })
routine_sound (Defined procedure ∷ decls) earlier routine h g (inr m) =
    routine_sound decls (with_procedure earlier procedure) routine
    (decl_shaped (Defined procedure) earlier h g.0) g.1 m
routine_sound (Config defines ∷ decls) earlier routine h g m =
    routine_sound decls (with_decl earlier (Config defines)) routine
    (decl_shaped (Config defines) earlier h g.0) g.1 m
routine_sound (Constant defines ∷ decls) earlier routine h g m =
    routine_sound decls (with_decl earlier (Constant defines)) routine
    (decl_shaped (Constant defines) earlier h g.0) g.1 m
routine_sound (Regions regions ∷ decls) earlier routine h g m =
    routine_sound decls (with_decl earlier (Regions regions)) routine
    (decl_shaped (Regions regions) earlier h g.0) g.1 m
routine_sound (Directions directions ∷ decls) earlier routine h g m =
    routine_sound decls (with_decl earlier (Directions directions)) routine
    (decl_shaped (Directions directions) earlier h g.0) g.1 m
routine_sound (Vars vars ∷ decls) earlier routine h g m =
    routine_sound decls (with_decl earlier (Vars vars)) routine
    (decl_shaped (Vars vars) earlier h g.0) g.1 m

-- ---- the names of a run

module _ (known : Known) (borders : List Border) where
  name_listed : (bracket : Bracket) (base : Base) (scope : Scope) (frame : Frame) (name : Name)
      (xs : List Entry) → Listed xs frame.names
      → Listed (xs ++ entry_for (variable_kind scope bracket base) name ∷ [])
      (with_name known borders bracket frame name).names
  name_listed NoBracket base scope frame name xs h =
      listed_one xs frame.names name (kind.Scalar base) _ tt h
  name_listed (Bracketed inner) base scope frame name xs h =
      listed_one xs frame.names name (kind.Array base (declared_shape scope inner)) _ tt h

  names_listed : (names : List Name) (shape : Bracket) (base : Base) (scope : Scope)
      (frame : Frame) (xs : List Entry) → Listed xs frame.names
      → Listed (xs ++ map (entry_for (variable_kind scope shape base)) names)
      (with_names known borders shape frame names).names
  names_listed [] shape base scope frame xs h =
      subst (λ ys. Listed ys frame.names) (sym (append-nil xs)) h
  names_listed (name ∷ names) shape base scope frame xs h =
      let one = entry_for (variable_kind scope shape base) name ∷ [] in
      let rest = map (entry_for (variable_kind scope shape base)) names in
      subst
      (λ ys. Listed ys (with_names known borders shape
      (with_name known borders shape frame name) names).names)
      (append_assoc xs one rest)
      (names_listed names shape base scope (with_name known borders shape frame name)
      (xs ++ one) (name_listed shape base scope frame name xs h))

  pub variables_listed : (vars : List VarDef) (scope : Scope) (frame : Frame) (xs : List Entry)
      → Listed xs frame.names
      → Listed (xs ++ flat_map
      (λ var. map (entry_for (variable_kind scope var.shape var.base)) var.names) vars)
      (with_variables known borders frame vars).names
  variables_listed [] scope frame xs h =
      subst (λ ys. Listed ys frame.names) (sym (append-nil xs)) h
  variables_listed (var ∷ vars) scope frame xs h =
      let one = map (entry_for (variable_kind scope var.shape var.base)) var.names in
      let next = with_names known borders var.shape frame var.names in
      subst (λ ys. Listed ys (with_variables known borders next vars).names)
      (append_assoc xs one _)
      (variables_listed vars scope next (xs ++ one)
      (names_listed var.names var.shape var.base scope frame xs h))

  globals_listed : (vars : List VarDef) (frame : Frame) (xs : List Entry) → Listed xs frame.names
      → Listed (with_each with_global_variables xs vars)
      (with_variables known borders frame vars).names
  globals_listed [] frame xs h = h
  globals_listed (var ∷ vars) frame xs h =
      globals_listed vars (with_names known borders var.shape frame var.names)
      (with_global_variables xs var)
      (names_listed var.names var.shape var.base (declaring [] xs) frame xs h)

  values_listed : (of_base : Base → Kind) → ((base : Base) (value : ℤ) → Stands (of_base base) (Fixed value))
      → (defines : List Define) (frame : Frame) (xs : List Entry) → Listed xs frame.names
      → Listed (with_each (with_define of_base) xs defines) (with_values known frame defines).names
  values_listed of_base stands [] frame xs h = h
  values_listed of_base stands (define ∷ defines) frame xs h =
      values_listed of_base stands defines _ (with_define of_base xs define)
      (listed_one xs frame.names define.name (of_base define.base) _ (stands define.base _) h)

  skipped : {A : Type 0} (adds : List Entry → A → List Entry)
      → ((earlier : List Entry) (a : A) (ns : Names) → Listed earlier ns
      → Listed (adds earlier a) ns) → (list : List A) (xs : List Entry) (ns : Names)
      → Listed xs ns → Listed (with_each adds xs list) ns
  skipped adds skips [] xs ns h = h
  skipped adds skips (a ∷ rest) xs ns h = skipped adds skips rest (adds xs a) ns (skips xs a ns h)

  decl_listed : (decl : Decl) (frame : Frame) (xs : List Entry) → Listed xs frame.names
      → Listed (with_decl xs decl) (with_declared known borders frame decl).names
  decl_listed (Config defines) frame xs h =
      values_listed kind.Config (λ base value. tt) defines frame xs h
  decl_listed (Constant defines) frame xs h =
      values_listed kind.Constant (λ base value. tt) defines frame xs h
  decl_listed (Regions regions) frame xs h =
      skipped with_region (λ earlier region ns h. listed_skip earlier ns region.name
      (kind.Region (declared_shape (declaring [] earlier) region.body)) tt h) regions xs
      frame.names h
  decl_listed (Directions directions) frame xs h =
      skipped with_direction (λ earlier direction ns h. listed_skip earlier ns direction.name _ tt h)
      directions xs frame.names h
  decl_listed (Vars vars) frame xs h = globals_listed vars frame xs h
  decl_listed (Defined procedure) frame xs h =
      listed_skip xs frame.names procedure.name _ tt h

  pub declarations_listed : (decls : List Decl) (frame : Frame) (xs : List Entry)
      → Listed xs frame.names
      → Listed (with_each with_decl xs decls) (with_declarations known borders frame decls).names
  declarations_listed [] frame xs h = h
  declarations_listed (decl ∷ decls) frame xs h =
      declarations_listed decls (with_declared known borders frame decl) (with_decl xs decl)
      (decl_listed decl frame xs h)

-- ---- parameters

-- what a parameter takes is of its kind
abbrev pub IsHanded : Formal → Handed → Type 0
IsHanded (ScalarFormal false base) (Copied value) = Unit {0}
IsHanded (ScalarFormal false base) (CopiedArray array home) = ⊥
IsHanded (ScalarFormal false base) (Referred thing) = ⊥
IsHanded (ScalarFormal true base) (Referred thing) = IsVariable (Some thing)
IsHanded (ScalarFormal true base) (Copied value) = ⊥
IsHanded (ScalarFormal true base) (CopiedArray array home) = ⊥
IsHanded (ArrayFormal false base shape) (CopiedArray array home) = Unit {0}
IsHanded (ArrayFormal false base shape) (Copied value) = ⊥
IsHanded (ArrayFormal false base shape) (Referred thing) = ⊥
IsHanded (ArrayFormal true base shape) (Referred thing) = IsArray (Some thing)
IsHanded (ArrayFormal true base shape) (Copied value) = ⊥
IsHanded (ArrayFormal true base shape) (CopiedArray array home) = ⊥

abbrev pub AreHanded : List Formal → List Handed → Type 0
AreHanded [] [] = Unit {0}
AreHanded [] (handed ∷ rest) = ⊥
AreHanded (formal ∷ formals) [] = ⊥
AreHanded (formal ∷ formals) (handed ∷ rest) = IsHanded formal handed × AreHanded formals rest

abbrev kind_of_formal : Formal → Kind
kind_of_formal (ScalarFormal by_ref base) = kind.Scalar base
kind_of_formal (ArrayFormal by_ref base shape) = kind.Array base shape

handed_listed : (formal : Formal) (handed : Handed) (frame : Frame) (name : Name)
    (xs : List Entry) → IsHanded formal handed → Listed xs frame.names
    → Listed (xs ++ entry_for (kind_of_formal formal) name ∷ [])
    (with_handed frame name handed).names
handed_listed (ScalarFormal false base) (Copied value) frame name xs g h =
    listed_one xs frame.names name (kind.Scalar base) _ tt h
handed_listed (ScalarFormal false base) (CopiedArray array home) frame name xs g h = absurd g
handed_listed (ScalarFormal false base) (Referred thing) frame name xs g h = absurd g
handed_listed (ScalarFormal true base) (Referred thing) frame name xs g h =
    listed_one xs frame.names name (kind.Scalar base) thing g h
handed_listed (ScalarFormal true base) (Copied value) frame name xs g h = absurd g
handed_listed (ScalarFormal true base) (CopiedArray array home) frame name xs g h = absurd g
handed_listed (ArrayFormal false base shape) (CopiedArray array home) frame name xs g h =
    listed_one xs frame.names name (kind.Array base shape) _ tt h
handed_listed (ArrayFormal false base shape) (Copied value) frame name xs g h = absurd g
handed_listed (ArrayFormal false base shape) (Referred thing) frame name xs g h = absurd g
handed_listed (ArrayFormal true base shape) (Referred thing) frame name xs g h =
    listed_one xs frame.names name (kind.Array base shape) thing g h
handed_listed (ArrayFormal true base shape) (Copied value) frame name xs g h = absurd g
handed_listed (ArrayFormal true base shape) (CopiedArray array home) frame name xs g h = absurd g

formal_kind : (scope : Scope) (param : Param)
    → kind_of_formal (formal_of scope param) ≡ variable_kind scope param.shape param.base
formal_kind scope param = by param.shape
  where
    by : (shape : Bracket)
        → kind_of_formal (formal_of scope (record param { shape = shape }))
        ≡ variable_kind scope shape param.base
    by NoBracket = refl
    by (Bracketed inner) = refl

-- the parameters that have one head, and those behind them
param_listed : (names : List Name) (scope : Scope) (param : Param) (later : List FormalName)
    (formals : List Formal) (others : List Entry) (frame : Frame) (xs : List Entry)
    (handed : List Handed)
    → AreHanded (map (λ name. formal_of scope param) names ++ formals) handed
    → Listed xs frame.names
    → ((frame : Frame) (ys : List Entry) (rest : List Handed) → AreHanded formals rest
    → Listed ys frame.names → Listed (ys ++ others) (with_formals frame later rest).names)
    → Listed (xs ++ (map (entry_for (variable_kind scope param.shape param.base)) names ++ others))
    (with_formals frame
    (map (λ (name : Name). record { by_ref = param.by_ref; name = name }) names ++ later)
    handed).names
param_listed [] scope param later formals others frame xs handed g h next =
    next frame xs handed g h
param_listed (name ∷ names) scope param later formals others frame xs [] g h next = absurd g
param_listed (name ∷ names) scope param later formals others frame xs (first ∷ rest) g h next =
    let one = entry_for (variable_kind scope param.shape param.base) name ∷ [] in
    let here : Listed (xs ++ one) (with_handed frame name first).names =
    subst (λ thing. Listed (xs ++ entry_for thing name ∷ []) (with_handed frame name first).names)
    (formal_kind scope param) (handed_listed (formal_of scope param) first frame name xs g.0 h) in
    subst
    (λ ys. Listed ys (with_formals (with_handed frame name first)
    (map (λ (name : Name). record { by_ref = param.by_ref; name = name }) names ++ later)
    rest).names)
    (append_assoc xs one
    (map (entry_for (variable_kind scope param.shape param.base)) names ++ others))
    (param_listed names scope param later formals others (with_handed frame name first) (xs ++ one)
    rest g.1 here next)

no_formals : (frame : Frame) (handed : List Handed) → AreHanded [] handed
    → with_formals frame [] handed ≡ frame
no_formals frame [] g = refl
no_formals frame (first ∷ rest) g = absurd g

pub formals_listed : (params : List Param) (scope : Scope) (frame : Frame) (xs : List Entry)
    (handed : List Handed) → AreHanded (formals_of scope params) handed → Listed xs frame.names
    → Listed (xs ++ flat_map
    (λ param. map (entry_for (variable_kind scope param.shape param.base)) param.names) params)
    (with_formals frame (formal_names params) handed).names
formals_listed [] scope frame xs handed g h =
    subst (λ ys. Listed ys (with_formals frame [] handed).names) (sym (append-nil xs))
    (subst (λ f. Listed xs f.names) (sym (no_formals frame handed g)) h)
formals_listed (param ∷ params) scope frame xs handed g h =
    param_listed param.names scope param (formal_names params) (formals_of scope params) _ frame xs
    handed g h (λ frame ys rest g h. formals_listed params scope frame ys rest g h)
