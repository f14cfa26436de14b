-- What a program without faults declares leaves no shape open.
use Rattle.std.proofs.Common.{◌≡◌, ℕ, suc, Bool, true, false, cond, List, [], ◌∷◌, ◌++◌, map, Option, Some, None, option_to_list, IsSome, Contains, refl, subst, inl, inr}
use Rattle.std.specs.List.{AllByRecursion, flat_map}
use Rattle.std.proofs.lemmas.List.Elements.{All-from_recursion, recursion_from_All}
use Rattle.zpl_tree.specs.Syntax.{Name, Pre, NamedRegion, Ditto, Inner, Rexpr, Dims, Bracket, NoBracket, Bracketed, DimText, Blank, Star, One, Span, DimTexts, NoDim, ThenDim, Base, Integer, Define, RegionDef, DirDef, VarDef, Param, Decl, Config, Constant, Regions, Directions, Vars, Defined, Program}
use Rattle.zpl_tree.specs.Syntax as plain
use Rattle.zpl_names.specs.Kinds as kind
use Rattle.zpl_names.specs.Kinds.{Shape, Rank, Kind}
use Rattle.zpl_names.specs.Scope.{Entry, Scope, kind_of}
use Rattle.zpl_names.specs.Ranks.{IsKnownKind, AreKnown, dims_count, at_most_three, inner_rank, is_index, region_shape}
use Rattle.zpl_names.specs.Shapes.{Current, current_at, no_shapes, unknown_shapes, with_dim, dims_shape, inner_shape, declared_shape, variable_kind}
use Rattle.zpl_names.specs.Declared.{entry_for, declaring, own_names, head_scope, own_entries, region_entry, direction_entry, procedure_entry, with_define, with_region, with_direction, with_variables, with_procedure, with_each, with_decl, globals_of, Routine, routine_of, routines_behind, routines_of, scope_of}
use Rattle.zpl_names.specs.Sites.{Site, AtRegion, AtBase, AtPosts, AtProcedure, in_declaration, region_sites, posts_sites, shape_sites, define_sites, region_def_sites, direction_sites, variable_sites, param_sites, head_sites, each_sites, decl_sites, routine_sites, text_sites}
use Rattle.zpl_names.specs.Faults.{unless_taken, unknown_base, no_regions, blanks, fourth_dim}
use Rattle.zpl_names.specs.Scope.{is_direction}
use Rattle.zpl_names.specs.Accepted.{HasNoFault, IsFaultless, NoRegion}
use Rattle.zpl_names.proofs.ListLemmas.{Among, among_from_Contains, Contains-from_among}
use Rattle.zpl_names.proofs.NameLemmas.{empty_parts}
use Rattle.zpl_names.proofs.FaultlessLemmas.{clean_text, none-at}
use Rattle.zpl_names.proofs.KnownLemmas.{AllKnown, Clean, region-known, few-dims, few-parts, named-region, region-shape-known, kind-known}

-- ---- sites of a text without faults

record IsClear (site : Site) : Type 0 where
  clean : HasNoFault site
  regions : no_regions site ≡ []

abbrev Clear : List Site → Type 0
Clear sites = AllByRecursion IsClear sites

split-clear : (xs ys : List Site) → Clear (xs ++ ys) → Clear xs × Clear ys
split-clear [] ys h = (tt, h)
split-clear (x ∷ xs) ys h = let parts = split-clear xs ys h.1 in ((h.0, parts.0), parts.1)

clean-of : (sites : List Site) → Clear sites → Clean sites
clean-of [] h = tt
clean-of (site ∷ sites) h = (h.0.clean, clean-of sites h.1)

-- ---- shapes

no-blank : (current : Current) (k : ℕ) (dims : DimTexts) → blanks dims ≡ [] →
    IsSome (dims_shape current k dims)
no-blank current k NoDim h = refl
no-blank current k (ThenDim (Blank at) rest) h = cc
no-blank current k (ThenDim (Star at) rest) h =
    by (dims_shape current (suc k) rest) (no-blank current (suc k) rest h)
  where
    by : (shape : Option Shape) → IsSome shape → IsSome (with_dim (Some true) shape)
    by None h = h
    by (Some shape) h = refl
no-blank current k (ThenDim (One index) rest) h =
    by (dims_shape current (suc k) rest) (no-blank current (suc k) rest h)
  where
    by : (shape : Option Shape) → IsSome shape → IsSome (with_dim (Some false) shape)
    by None h = h
    by (Some shape) h = refl
no-blank current k (ThenDim (Span low high) rest) h =
    by (dims_shape current (suc k) rest) (no-blank current (suc k) rest h)
  where
    by : (shape : Option Shape) → IsSome shape → IsSome (with_dim (Some false) shape)
    by None h = h
    by (Some shape) h = refl

-- in a declaration no dimension is blank
declared-blanks : (scope : Scope) (hint : Rank) (dims : DimTexts) → fourth_dim dims ≡ [] →
    no_regions (AtRegion (in_declaration scope) hint (Dims dims)) ≡ [] → blanks dims ≡ []
declared-blanks scope hint NoDim f h = refl
declared-blanks scope hint (ThenDim one NoDim) f h = h
declared-blanks scope hint (ThenDim one (ThenDim two NoDim)) f h = h
declared-blanks scope hint (ThenDim one (ThenDim two (ThenDim three NoDim))) f h = h
declared-blanks scope hint (ThenDim one (ThenDim two (ThenDim three (ThenDim four rest)))) f h = cc

inner-some : (scope : Scope) (rank : Rank) (inner : Inner) → IsSome rank →
    ((n : ℕ) → IsSome (inner_shape scope no_shapes (Some n) inner)) →
    IsSome (inner_shape scope no_shapes rank inner)
inner-some scope None inner h k = h
inner-some scope (Some n) inner h k = k n

declared-known : (scope : Scope) → AllKnown scope → (inner : Inner) →
    Clear (region_sites (in_declaration scope) (Some 0) inner) →
    IsSome (declared_shape scope inner)
declared-known scope k (Rexpr pre (NamedRegion name) post) h =
    inner-some scope (inner_rank scope (Some 0) (Some 0) (Rexpr pre (NamedRegion name) post))
    (Rexpr pre (NamedRegion name) post)
    (region-known (in_declaration scope) (Some 0) (Rexpr pre (NamedRegion name) post) k refl refl
    (clean-of (region_sites (in_declaration scope) (Some 0) (Rexpr pre (NamedRegion name) post)) h))
    (λ n. by (is_index scope pre name post) refl)
  where
    by : (b : Bool) → is_index scope pre name post ≡ b →
        IsSome (cond b (Some (false ∷ [])) (region_shape (kind_of scope name)))
    by true e = refl
    by false e =
        region-shape-known (kind_of scope name) (kind-known scope name k)
        (named-region (in_declaration scope) pre name post
        (empty_parts (flat_map (λ pre. unless_taken (in_declaration scope) is_direction pre.dir)
        pre) (unknown_base (in_declaration scope) pre (NamedRegion name) post)
        h.0.clean.known).1 e)
declared-known scope k (Rexpr pre (Ditto at) post) h = absurd (no (h.0.regions))
  where
    no : at ∷ [] ≡ [] → ⊥
    no e = cc
declared-known scope k (Dims dims) h =
    inner-some scope (at_most_three (dims_count dims)) (Dims dims) (few-dims dims h.0.clean.ranks)
    (λ n. no-blank (current_at no_shapes n) 0 dims
    (declared-blanks scope (Some 0) dims h.0.clean.ranks h.0.regions))

variable-known : (scope : Scope) → AllKnown scope → (bracket : Bracket) (base : Base) →
    Clear (shape_sites scope bracket) →
    IsKnownKind (variable_kind scope bracket base)
variable-known scope k NoBracket base h = tt
variable-known scope k (Bracketed inner) base h = declared-known scope k inner h

-- ---- entries

abbrev Known : List Entry → Type 0
Known entries = AllByRecursion (λ entry. IsKnownKind entry.kind) entries

known-append : (xs ys : List Entry) → Known xs → Known ys → Known (xs ++ ys)
known-append [] ys h k = k
known-append (x ∷ xs) ys h k = (h.0, known-append xs ys h.1 k)

known-names : (thing : Kind) → IsKnownKind thing → (names : List Name) →
    Known (map (entry_for thing) names)
known-names thing h [] = tt
known-names thing h (name ∷ names) = (h, known-names thing h names)

declaring-known : (own earlier : List Entry) → Known own → Known earlier →
    AllKnown (declaring own earlier)
declaring-known own earlier h k = record { own = h; globals = k }

-- what a list of definitions adds, each over those that stand earlier
each-known : {A : Type 0} (adds : List Entry → A → List Entry) (sites : List Entry → A → List Site)
    →
    ((earlier : List Entry) (a : A) → Known earlier → Clear (sites earlier a) →
    Known (adds earlier a)) →
    (earlier : List Entry) (list : List A) → Known earlier →
    Clear (each_sites adds sites earlier list) →
    Known (with_each adds earlier list)
each-known adds sites keeps earlier [] k h = k
each-known adds sites keeps earlier (a ∷ rest) k h =
    let parts = split-clear (sites earlier a) (each_sites adds sites (adds earlier a) rest) h in
    each-known adds sites keeps (adds earlier a) rest (keeps earlier a k parts.0) parts.1

-- ---- declarations

region-def-known : (earlier : List Entry) (region : RegionDef) → Known earlier →
    Clear (region_def_sites earlier region) →
    Known (with_region earlier region)
region-def-known earlier region k h =
    let reach = in_declaration (declaring [] earlier) in
    let parts = split-clear (region_sites reach (Some 0) region.body)
    (AtPosts reach region.body region.posts ∷ posts_sites reach region.posts) h in
    known-append earlier (region_entry earlier region ∷ []) k (
      declared-known (declaring [] earlier) (declaring-known [] earlier tt k) region.body parts.0,
      tt,
    )

direction-def-known : (earlier : List Entry) (direction : DirDef) → Known earlier →
    Clear (direction_sites earlier direction) →
    Known (with_direction earlier direction)
direction-def-known earlier direction k h =
    known-append earlier (direction_entry direction ∷ []) k
    (few-parts direction.parts h.0.clean.ranks, tt)

variables-known : (earlier : List Entry) (var : VarDef) → Known earlier →
    Clear (variable_sites (declaring [] earlier) var) →
    Known (with_variables earlier var)
variables-known earlier var k h =
    let scope = declaring [] earlier in
    let parts = split-clear (shape_sites scope var.shape) (AtBase var.base ∷ []) h in
    known-append earlier (map (entry_for (variable_kind scope var.shape var.base)) var.names) k
    (known-names (variable_kind scope var.shape var.base)
    (variable-known scope (declaring-known [] earlier tt k) var.shape var.base parts.0) var.names)

decl-known : (program : Program) (earlier : List Entry) (decl : Decl) → Known earlier →
    Clear (decl_sites program earlier decl) →
    Known (with_decl earlier decl)
decl-known program earlier (Config defines) k h =
    each-known (with_define kind.Config) define_sites
    (λ earlier define k h. known-append earlier
    (entry_for (kind.Config define.base) define.name ∷ []) k (tt, tt)) earlier defines k h
decl-known program earlier (Constant defines) k h =
    each-known (with_define kind.Constant) define_sites
    (λ earlier define k h. known-append earlier
    (entry_for (kind.Constant define.base) define.name ∷ []) k (tt, tt)) earlier defines k h
decl-known program earlier (Regions regions) k h =
    each-known with_region region_def_sites region-def-known earlier regions k h
decl-known program earlier (Directions directions) k h =
    each-known with_direction direction_sites direction-def-known earlier directions k h
decl-known program earlier (Vars vars) k h =
    each-known with_variables (λ earlier var. variable_sites (declaring [] earlier) var)
    variables-known earlier vars k h
decl-known program earlier (Defined procedure) k h =
    known-append earlier (procedure_entry earlier procedure ∷ []) k (tt, tt)

-- ---- procedures

params-known : (scope : Scope) → AllKnown scope → (params : List Param) →
    Clear (flat_map (param_sites scope) params) →
    Known
    (flat_map (λ param. map (entry_for (variable_kind scope param.shape param.base))
    param.names) params)
params-known scope k [] h = tt
params-known scope k (param ∷ rest) h =
    let parts = split-clear (param_sites scope param) (flat_map (param_sites scope) rest) h in
    let own = split-clear (shape_sites scope param.shape) (AtBase param.base ∷ []) parts.0 in
    known-append (map (entry_for (variable_kind scope param.shape param.base)) param.names)
    (flat_map (λ param. map (entry_for (variable_kind scope param.shape param.base)) param.names)
    rest)
    (known-names (variable_kind scope param.shape param.base)
    (variable-known scope k param.shape param.base own.0) param.names)
    (params-known scope k rest parts.1)

locals-known : (scope : Scope) → AllKnown scope → (locals : List VarDef) →
    Clear (flat_map (variable_sites scope) locals) →
    Known (flat_map (λ var. map (entry_for (variable_kind scope var.shape var.base)) var.names)
    locals)
locals-known scope k [] h = tt
locals-known scope k (var ∷ rest) h =
    let parts = split-clear (variable_sites scope var) (flat_map (variable_sites scope) rest) h in
    let own = split-clear (shape_sites scope var.shape) (AtBase var.base ∷ []) parts.0 in
    known-append (map (entry_for (variable_kind scope var.shape var.base)) var.names)
    (flat_map (λ var. map (entry_for (variable_kind scope var.shape var.base)) var.names) rest)
    (known-names (variable_kind scope var.shape var.base)
    (variable-known scope k var.shape var.base own.0) var.names)
    (locals-known scope k rest parts.1)

own-entries-known : (earlier : List Entry) (procedure : plain.Procedure) → Known earlier →
    Clear (head_sites earlier procedure) →
    Known (own_entries earlier procedure)
own-entries-known earlier procedure k h =
    let scope = head_scope earlier procedure in
    let known = declaring-known (map (entry_for (kind.Scalar Integer)) (own_names procedure))
    earlier (known-names (kind.Scalar Integer) tt (own_names procedure)) k in
    let heads = AtProcedure procedure ∷ flat_map (param_sites scope) procedure.params in
    let answer = map AtBase (option_to_list procedure.result) in
    let two = split-clear (heads ++ answer) (flat_map (variable_sites scope) procedure.locals) h in
    let one = split-clear heads answer two.0 in
    known-append
    (flat_map (λ param. map (entry_for (variable_kind scope param.shape param.base))
    param.names) procedure.params)
    (flat_map (λ var. map (entry_for (variable_kind scope var.shape var.base)) var.names)
    procedure.locals)
    (params-known scope known procedure.params one.0.1)
    (locals-known scope known procedure.locals two.1)

abbrev sites_behind : Program → List Entry → List Decl → List Site
sites_behind program earlier decls = each_sites with_decl (decl_sites program) earlier decls

routine-known : (program : Program) (earlier : List Entry) (decls : List Decl) (routine : Routine) →
    Known earlier →
    Clear (sites_behind program earlier decls) → Among (routines_behind earlier decls) routine →
    Known routine.own
routine-known program earlier [] routine k h m = absurd m
routine-known program earlier (Defined procedure ∷ decls) routine k h (inl e) =
    let parts = split-clear (decl_sites program earlier (Defined procedure))
    (sites_behind program (with_procedure earlier procedure) decls) h in
    let own = split-clear (head_sites earlier procedure)
    (routine_sites program unknown_shapes (routine_of earlier procedure)) parts.0 in
    let P : Routine → Type 0 =
    λ routine. Known routine.own in subst P e (own-entries-known earlier procedure k own.0)
routine-known program earlier (Defined procedure ∷ decls) routine k h (inr m) =
    let parts = split-clear (decl_sites program earlier (Defined procedure))
    (sites_behind program (with_procedure earlier procedure) decls) h in
    routine-known program (with_procedure earlier procedure) decls routine
    (decl-known program earlier (Defined procedure) k parts.0) parts.1 m
routine-known program earlier (Config defines ∷ decls) routine k h m =
    let parts = split-clear (decl_sites program earlier (Config defines))
    (sites_behind program (with_decl earlier (Config defines)) decls) h in
    routine-known program (with_decl earlier (Config defines)) decls routine
    (decl-known program earlier (Config defines) k parts.0) parts.1 m
routine-known program earlier (Constant defines ∷ decls) routine k h m =
    let parts = split-clear (decl_sites program earlier (Constant defines))
    (sites_behind program (with_decl earlier (Constant defines)) decls) h in
    routine-known program (with_decl earlier (Constant defines)) decls routine
    (decl-known program earlier (Constant defines) k parts.0) parts.1 m
routine-known program earlier (Regions regions ∷ decls) routine k h m =
    let parts = split-clear (decl_sites program earlier (Regions regions))
    (sites_behind program (with_decl earlier (Regions regions)) decls) h in
    routine-known program (with_decl earlier (Regions regions)) decls routine
    (decl-known program earlier (Regions regions) k parts.0) parts.1 m
routine-known program earlier (Directions directions ∷ decls) routine k h m =
    let parts = split-clear (decl_sites program earlier (Directions directions))
    (sites_behind program (with_decl earlier (Directions directions)) decls) h in
    routine-known program (with_decl earlier (Directions directions)) decls routine
    (decl-known program earlier (Directions directions) k parts.0) parts.1 m
routine-known program earlier (Vars vars ∷ decls) routine k h m =
    let parts = split-clear (decl_sites program earlier (Vars vars))
    (sites_behind program (with_decl earlier (Vars vars)) decls) h in
    routine-known program (with_decl earlier (Vars vars)) decls routine
    (decl-known program earlier (Vars vars) k parts.0) parts.1 m

-- ---- programs without faults

clear-all : (sites : List Site) → ((site : Site) → Among sites site → IsClear site) → Clear sites
clear-all [] h = tt
clear-all (site ∷ sites) h = (h site (inl refl), clear-all sites (λ site m. h site (inr m)))

clear-text : (program : Program) → IsFaultless program → Clear (text_sites program)
clear-text program clean = clear-all (text_sites program) (λ site m. record {
  clean = clean_text program clean site (Contains-from_among (text_sites program) site m);
  regions = none-at no_regions (text_sites program) (λ at c. clean NoRegion at (inl c)) site m;
})

pub known_scope : (program : Program) → IsFaultless program → (routine : Routine) →
    Contains (routines_of program) routine →
    AreKnown (scope_of program routine)
known_scope program clean routine c =
    let clear = clear-text program clean in record {
      own = All-from_recursion (λ entry. IsKnownKind entry.kind) routine.own
          (routine-known program [] program.decls routine tt clear
          (among_from_Contains (routines_of program) routine c));
      globals = All-from_recursion (λ entry. IsKnownKind entry.kind) (globals_of program)
          (each-known with_decl (decl_sites program) (decl-known program) [] program.decls tt
          clear);
    }

pub all_known : (scope : Scope) → AreKnown scope → AllKnown scope
all_known scope h = record {
  own = recursion_from_All (λ entry. IsKnownKind entry.kind) scope.own h.own;
  globals = recursion_from_All (λ entry. IsKnownKind entry.kind) scope.globals h.globals;
}
