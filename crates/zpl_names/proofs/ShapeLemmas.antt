-- What a program declares has ranks up to 3.
use Rattle.std.proofs.Common.{◌≡◌, ℕ, zero, suc, ◌≤◌, Bool, true, false, cond, List, [], ◌∷◌, ◌++◌, map, length, Option, Some, None, option_map, nat_le, Contains, refl, sym, subst, arith, leb-true, inl, inr}
use Rattle.std.specs.List.{AllByRecursion, flat_map}
use Rattle.std.proofs.lemmas.List.Elements.{All-from_recursion, recursion_from_All}
use Rattle.zpl_tree.specs.Syntax.{Name, Pre, NamedRegion, Ditto, Inner, Rexpr, Dims, Bracket, NoBracket, Bracketed, DimText, Blank, Star, One, Span, DimTexts, NoDim, ThenDim, Base, Integer, VarDef, Param, Decl, Config, Constant, Regions, Directions, Vars, Defined, Program}
use Rattle.zpl_tree.specs.Syntax as plain
use Rattle.zpl_names.specs.Kinds as kind
use Rattle.zpl_names.specs.Kinds.{Shape, Rank, Kind}
use Rattle.zpl_names.specs.Scope.{Entry, Scope, kind_of}
use Rattle.zpl_names.specs.Ranks.{IsRank, HasRank, HasRanks, dims_count, exprs_count, inner_rank, is_index, region_shape}
use Rattle.zpl_names.specs.Shapes.{Current, current_at, no_shapes, shape_of_current, dim_shape, with_dim, dims_shape, inner_shape, declared_shape, variable_kind}
use Rattle.zpl_names.specs.Declared.{entry_for, declaring, own_names, head_scope, own_entries, region_entry, direction_entry, procedure_entry, with_define, with_region, with_direction, with_variables, with_procedure, with_each, with_decl, globals_of, Routine, routines_behind, routines_of, scope_of}
use Rattle.zpl_names.proofs.ListLemmas.{Among, among_from_Contains}
use Rattle.zpl_names.proofs.RankLemmas.{AreRanked, count-fits, region-fits, kind-ranked}

-- ---- shapes

abbrev HasLength : Option Shape → ℕ → Type 0
HasLength None n = Unit {0}
HasLength (Some shape) n = length shape ≡ n

abbrev Fits : Option Shape → Type 0
Fits shape = IsRank (option_map length shape)

dims-length : (current : Current) (k : ℕ) (dims : DimTexts) →
    HasLength (dims_shape current k dims) (dims_count dims)
dims-length current k NoDim = refl
dims-length current k (ThenDim first rest) =
    by (dim_shape current k first) (dims_shape current (suc k) rest)
    (dims-length current (suc k) rest)
  where
    by : (flood : Option Bool) (shape : Option Shape) → HasLength shape (dims_count rest) →
        HasLength (with_dim flood shape) (suc (dims_count rest))
    by None shape h = tt
    by (Some flood) None h = tt
    by (Some flood) (Some shape) h = omega arith

length-fits : (shape : Option Shape) (n : ℕ) → HasLength shape n → n ≤ 3 → Fits shape
length-fits None n h le = tt
length-fits (Some shape) n h le = omega arith

absent-shape : (n : ℕ) → shape_of_current (current_at no_shapes n) ≡ None
absent-shape zero = refl
absent-shape (suc zero) = refl
absent-shape (suc (suc zero)) = refl
absent-shape (suc (suc (suc zero))) = refl
absent-shape (suc (suc (suc (suc n)))) = refl

declared-fits : (scope : Scope) → AreRanked scope → (inner : Inner) →
    Fits (declared_shape scope inner)
declared-fits scope h (Rexpr pre (NamedRegion name) post) =
    by (inner_rank scope (Some 0) (Some 0) (Rexpr pre (NamedRegion name) post))
  where
    shaped : (b : Bool) → Fits (cond b (Some (false ∷ [])) (region_shape (kind_of scope name)))
    shaped true = omega arith
    shaped false = region-fits (kind_of scope name) (kind-ranked scope name h)

    by : (rank : Rank) → Fits (inner_shape scope no_shapes rank (Rexpr pre (NamedRegion name) post))
    by None = tt
    by (Some n) = shaped (is_index scope pre name post)
declared-fits scope h (Rexpr pre (Ditto at) post) =
    by (inner_rank scope (Some 0) (Some 0) (Rexpr pre (Ditto at) post))
  where
    by : (rank : Rank) → Fits (inner_shape scope no_shapes rank (Rexpr pre (Ditto at) post))
    by None = tt
    by (Some n) = subst Fits (sym (absent-shape n)) tt
declared-fits scope h (Dims dims) = by (nat_le (dims_count dims) 3) refl
  where
    by : (b : Bool) → nat_le (dims_count dims) 3 ≡ b →
        Fits (inner_shape scope no_shapes (cond b (Some (dims_count dims)) None) (Dims dims))
    by true e =
        length-fits (dims_shape (current_at no_shapes (dims_count dims)) 0 dims) (dims_count dims)
        (dims-length (current_at no_shapes (dims_count dims)) 0 dims)
        (leb-true (dims_count dims) 3 e)
    by false e = tt

variable-fits : (scope : Scope) → AreRanked scope → (bracket : Bracket) (base : Base) →
    HasRank (variable_kind scope bracket base)
variable-fits scope h NoBracket base = tt
variable-fits scope h (Bracketed inner) base = declared-fits scope h inner

-- ---- entries

abbrev Ranked : List Entry → Type 0
Ranked entries = AllByRecursion (λ entry. HasRank entry.kind) entries

ranked-append : (xs ys : List Entry) → Ranked xs → Ranked ys → Ranked (xs ++ ys)
ranked-append [] ys h k = k
ranked-append (x ∷ xs) ys h k = (h.0, ranked-append xs ys h.1 k)

ranked-names : (thing : Kind) → HasRank thing → (names : List Name) →
    Ranked (map (entry_for thing) names)
ranked-names thing h [] = tt
ranked-names thing h (name ∷ names) = (h, ranked-names thing h names)

ranked-flat : {A : Type 0} (f : A → List Entry) → ((a : A) → Ranked (f a)) → (list : List A) →
    Ranked (flat_map f list)
ranked-flat f h [] = tt
ranked-flat f h (a ∷ rest) = ranked-append (f a) (flat_map f rest) (h a) (ranked-flat f h rest)

declaring-ranked : (own earlier : List Entry) → Ranked own → Ranked earlier →
    AreRanked (declaring own earlier)
declaring-ranked own earlier h k = record { own = h; globals = k }

head-ranked : (earlier : List Entry) (procedure : plain.Procedure) → Ranked earlier →
    AreRanked (head_scope earlier procedure)
head-ranked earlier procedure h =
    declaring-ranked (map (entry_for (kind.Scalar Integer)) (own_names procedure)) earlier
    (ranked-names (kind.Scalar Integer) tt (own_names procedure)) h

own-ranked : (earlier : List Entry) (procedure : plain.Procedure) → Ranked earlier →
    Ranked (own_entries earlier procedure)
own-ranked earlier procedure h =
    let scope = head_scope earlier procedure in
    let ranked = head-ranked earlier procedure h in
    ranked-append
    (flat_map (λ param. map (entry_for (variable_kind scope param.shape param.base)) param.names)
    procedure.params)
    (flat_map (λ var. map (entry_for (variable_kind scope var.shape var.base)) var.names)
    procedure.locals)
    (ranked-flat (λ param. map (entry_for (variable_kind scope param.shape param.base)) param.names)
    (λ param. ranked-names (variable_kind scope param.shape param.base)
    (variable-fits scope ranked param.shape param.base) param.names) procedure.params)
    (ranked-flat (λ var. map (entry_for (variable_kind scope var.shape var.base)) var.names)
    (λ var. ranked-names (variable_kind scope var.shape var.base)
    (variable-fits scope ranked var.shape var.base) var.names) procedure.locals)

each-ranked : {A : Type 0} (adds : List Entry → A → List Entry) →
    ((earlier : List Entry) (a : A) → Ranked earlier → Ranked (adds earlier a)) →
    (earlier : List Entry) (list : List A) → Ranked earlier → Ranked (with_each adds earlier list)
each-ranked adds keeps earlier [] h = h
each-ranked adds keeps earlier (a ∷ rest) h =
    each-ranked adds keeps (adds earlier a) rest (keeps earlier a h)

decl-ranked : (earlier : List Entry) (decl : Decl) → Ranked earlier →
    Ranked (with_decl earlier decl)
decl-ranked earlier (Config defines) h =
    each-ranked (with_define kind.Config) (λ earlier define h. ranked-append earlier
    (entry_for (kind.Config define.base) define.name ∷ []) h (tt, tt)) earlier defines h
decl-ranked earlier (Constant defines) h =
    each-ranked (with_define kind.Constant) (λ earlier define h. ranked-append earlier
    (entry_for (kind.Constant define.base) define.name ∷ []) h (tt, tt)) earlier defines h
decl-ranked earlier (Regions regions) h =
    each-ranked with_region (λ earlier region h. ranked-append earlier
    (region_entry earlier region ∷ []) h
    (declared-fits (declaring [] earlier) (declaring-ranked [] earlier tt h) region.body, tt))
    earlier regions h
decl-ranked earlier (Directions directions) h =
    each-ranked with_direction (λ earlier direction h. ranked-append earlier
    (direction_entry direction ∷ []) h
    (count-fits (exprs_count direction.parts), tt)) earlier directions h
decl-ranked earlier (Vars vars) h =
    each-ranked with_variables (λ earlier var h. ranked-append earlier
    (map (entry_for (variable_kind (declaring [] earlier) var.shape var.base)) var.names) h
    (ranked-names (variable_kind (declaring [] earlier) var.shape var.base)
    (variable-fits (declaring [] earlier) (declaring-ranked [] earlier tt h) var.shape var.base)
    var.names)) earlier vars h
decl-ranked earlier (Defined procedure) h =
    ranked-append earlier (procedure_entry earlier procedure ∷ []) h (tt, tt)

globals-ranked : (program : Program) → Ranked (globals_of program)
globals-ranked program = each-ranked with_decl decl-ranked [] program.decls tt

routine-ranked : (earlier : List Entry) (decls : List Decl) (routine : Routine) → Ranked earlier →
    Among (routines_behind earlier decls) routine → Ranked routine.own
routine-ranked earlier [] routine h m = absurd m
routine-ranked earlier (Defined procedure ∷ decls) routine h (inl e) =
    let P : Routine → Type 0 =
    λ routine. Ranked routine.own in subst P e (own-ranked earlier procedure h)
routine-ranked earlier (Defined procedure ∷ decls) routine h (inr m) =
    routine-ranked (with_procedure earlier procedure) decls routine
    (decl-ranked earlier (Defined procedure) h) m
routine-ranked earlier (Config defines ∷ decls) routine h m =
    routine-ranked (with_decl earlier (Config defines)) decls routine
    (decl-ranked earlier (Config defines) h) m
routine-ranked earlier (Constant defines ∷ decls) routine h m =
    routine-ranked (with_decl earlier (Constant defines)) decls routine
    (decl-ranked earlier (Constant defines) h) m
routine-ranked earlier (Regions regions ∷ decls) routine h m =
    routine-ranked (with_decl earlier (Regions regions)) decls routine
    (decl-ranked earlier (Regions regions) h) m
routine-ranked earlier (Directions directions ∷ decls) routine h m =
    routine-ranked (with_decl earlier (Directions directions)) decls routine
    (decl-ranked earlier (Directions directions) h) m
routine-ranked earlier (Vars vars ∷ decls) routine h m =
    routine-ranked (with_decl earlier (Vars vars)) decls routine (decl-ranked earlier (Vars vars) h)
    m

pub scope-ranked : (program : Program) (routine : Routine) →
    Contains (routines_of program) routine → HasRanks (scope_of program routine)
scope-ranked program routine c = record {
  own = All-from_recursion (λ entry. HasRank entry.kind) routine.own
      (routine-ranked [] program.decls routine tt
      (among_from_Contains (routines_of program) routine c));
  globals = All-from_recursion (λ entry. HasRank entry.kind) (globals_of program)
      (globals-ranked program);
}

pub by_recursion : (scope : Scope) → HasRanks scope → AreRanked scope
by_recursion scope h = record {
  own = recursion_from_All (λ entry. HasRank entry.kind) scope.own h.own;
  globals = recursion_from_All (λ entry. HasRank entry.kind) scope.globals h.globals;
}
