-- For each name that stands for a region or a direction something was computed before the run; and
-- the forms of a region that stands in a statement go past the limit of regions, or nothing is
-- wrong with them.
use Rattle.std.proofs.Common.{◌≡◌, ℕ, Bool, true, false, cond, ◌⊎◌, inl, inr, ℤ, List, [], ◌∷◌}
use Rattle.std.proofs.Common.{◌++◌, map, Option, Some, option_map, Contains, refl, sym, ap}
use Rattle.std.proofs.Common.{◌∙◌, subst, Decides}
use Rattle.std.specs.Prelude.{find}
use Rattle.std.specs.List.{flat_map}
use Rattle.std.specs.Str.{bytes_eq}
use Rattle.std.proofs.lemmas.Slice.Eq.{bytes_eq-Decides}
use Rattle.zpl_region.specs.declared.regions.Region.{Region}
use Rattle.zpl_region.specs.Region.{outside_of, inside_of, moved, strided}
use Rattle.zpl_region.specs.Tests.{is_within_limit}
use Rattle.zpl_meaning.specs.of_zpl_tree.Syntax.{Name, Base, Bracket, NoBracket, Bracketed, Define, RegionDef}
use Rattle.zpl_meaning.specs.of_zpl_tree.Syntax.{DirDef}
use Rattle.zpl_meaning.specs.of_zpl_tree.Syntax.{VarDef, Decl, Config, Constant, Regions, Directions, Vars}
use Rattle.zpl_meaning.specs.of_zpl_tree.Syntax.{Defined}
use Rattle.zpl_meaning.specs.of_zpl_tree.Syntax.{Pre, Dir, NamedDir, Vector, Posts, NoPost, ThenPost, Exprs}
use Rattle.zpl_meaning.specs.of_zpl_tree.Syntax.{Program}
use Rattle.zpl_meaning.specs.of_zpl_tree.Syntax.{Prefix, Stmt, Prefixed}
use Rattle.zpl_meaning.specs.of_zpl_tree.Syntax as plain
use Rattle.zpl_meaning.specs.of_zpl_names.Kinds as kind
use Rattle.zpl_meaning.specs.of_zpl_names.Kinds.{Kind}
use Rattle.zpl_meaning.specs.of_zpl_names.Scope.{Entry, Scope, kind_in, kind_of}
use Rattle.zpl_meaning.specs.of_zpl_names.Shapes.{variable_kind}
use Rattle.zpl_meaning.specs.of_zpl_names.Declared.{declaring, entry_for, with_define, with_region, with_direction}
use Rattle.zpl_meaning.specs.of_zpl_names.Declared.{with_variables, with_procedure, with_each, with_decl}
use Rattle.zpl_meaning.specs.of_zpl_names.Declared.{globals_of}
use Rattle.zpl_meaning.specs.of_zpl_names.Declared.{Routine, routines_of, scope_of}
use Rattle.zpl_meaning.proofs.of_zpl_names.ListLemmas.{Among, Contains-from_among}
use Rattle.zpl_meaning.proofs.of_zpl_names.FaultlessLemmas.{split, left-among, right-among}
use Rattle.zpl_meaning.specs.of_zpl_binding.Outcome.{BindFault, RegionLimit, Outcome, Gives, Fails}
use Rattle.zpl_meaning.specs.of_zpl_binding.Outcome.{outcome_of}
use Rattle.zpl_meaning.specs.of_zpl_binding.Vectors.{three_components, vector_of, dir_of}
use Rattle.zpl_meaning.specs.of_zpl_binding.Regions.{Known, limited, formed_by, behind, before}
use Rattle.zpl_meaning.specs.of_zpl_binding.Declarations.{known_of, region_names, direction_names, names_of}
use Rattle.zpl_meaning.specs.of_zpl_binding.Settings.{Setting}
use Rattle.zpl_meaning.specs.of_zpl_binding.Bound.{vectors_in}
use Rattle.zpl_meaning.specs.Store.{Store}
use Rattle.zpl_meaning.specs.Context.{Place}
use Rattle.zpl_meaning.specs.Given.{IsGiven}
use Rattle.zpl_meaning.specs.Regions.{under_prefix}
use Rattle.meaning_runs.specs.Computed.{HasVectors}
use Rattle.meaning_runs.specs.Met.{ComesUnder, opening_of, IsMet}
use Rattle.meaning_runs.proofs.OwnLemmas.{global_kind, named_among}

-- ---- global names of a kind

-- the kinds of what isn't declared as a region or a direction are left out
record IsKindOf (K : Kind → Type 0) : Type 0 where
  config : (base : Base) → K (kind.Config base) → ⊥
  constant : (base : Base) → K (kind.Constant base) → ⊥
  scalar : (base : Base) → K (kind.Scalar base) → ⊥
  array : (base : Base) (shape : _) → K (kind.Array base shape) → ⊥
  procedure : (signature : _) → K (kind.Procedure signature) → ⊥

module _ (K : Kind → Type 0) (only : IsKindOf K) (text : List ℕ) where
  record HasKind (entries : List Entry) : Type 0 where
    entry : Entry
    among : Among entries entry
    named : entry.name.text ≡ text
    is : K entry.kind

  first_kind : (first : Entry) (rest : List Entry) → HasKind rest → HasKind (first ∷ rest)
  first_kind first rest h =
      record { entry = h.entry; among = inr h.among; named = h.named; is = h.is }

  found_kind : (entries : List Entry) (thing : Kind) → kind_in entries text ≡ Some thing → K thing
      → HasKind entries
  found_kind [] thing e is = cc
  found_kind (first ∷ rest) thing e is =
      by (bytes_eq first.name.text text) (bytes_eq-Decides first.name.text text) e
      (found_kind rest thing)
    where
      by : (b : Bool) → Decides b (first.name.text ≡ text)
          → option_map (λ entry. entry.kind)
          (cond b (Some first) (find (λ entry. bytes_eq entry.name.text text) rest)) ≡ Some thing
          → (kind_in rest text ≡ Some thing → K thing → HasKind rest)
          → HasKind (first ∷ rest)
      by true same e later =
          let kinds : first.kind ≡ thing = cc in
          record {
            entry = first;
            among = inl refl;
            named = same.0 refl;
            is = subst K (sym kinds) is;
          }
      by false same e later = first_kind first rest (later e is)

  not_added : (earlier new : List Entry)
      → ((entry : Entry) → Among new entry → K entry.kind → ⊥) → HasKind (earlier ++ new)
      → HasKind earlier
  not_added earlier new none h =
      elim (split earlier new h.entry h.among) [
        | inl m ↦ record { entry = h.entry; among = m; named = h.named; is = h.is }
        | inr m ↦ absurd (none h.entry m h.is)
      ]

  not_one : (earlier : List Entry) (entry : Entry) → (K entry.kind → ⊥)
      → HasKind (earlier ++ entry ∷ []) → HasKind earlier
  not_one earlier entry none h =
      not_added earlier (entry ∷ []) (λ other m is. one other m is) h
    where
      one : (other : Entry) → Among (entry ∷ []) other → K other.kind → ⊥
      one other (inl e) is = none (subst (λ (x : Entry). K x.kind) (sym e) is)
      one other (inr m) is = m

  one_more : (earlier : List Entry) (entry : Entry) → HasKind (earlier ++ entry ∷ [])
      → HasKind earlier ⊎ (entry.name.text ≡ text)
  one_more earlier entry h =
      elim (split earlier (entry ∷ []) h.entry h.among) [
        | inl m ↦ inl (record { entry = h.entry; among = m; named = h.named; is = h.is })
        | inr m ↦ inr (one m)
      ]
    where
      one : Among (entry ∷ []) h.entry → entry.name.text ≡ text
      one (inl e) = ap (λ (x : Entry). x.name.text) e ∙ h.named
      one (inr m) = absurd m

  each_none : {A : Type 0} (adds : List Entry → A → List Entry)
      → ((earlier : List Entry) (a : A) → HasKind (adds earlier a) → HasKind earlier)
      → (list : List A) (earlier : List Entry) → HasKind (with_each adds earlier list)
      → HasKind earlier
  each_none adds step [] earlier h = h
  each_none adds step (a ∷ list) earlier h =
      step earlier a (each_none adds step list (adds earlier a) h)

  each_mapped : {A : Type 0} (adds : List Entry → A → List Entry) (name : A → List ℕ)
      → ((earlier : List Entry) (a : A) → HasKind (adds earlier a)
      → HasKind earlier ⊎ (name a ≡ text))
      → (list : List A) (earlier : List Entry) → HasKind (with_each adds earlier list)
      → HasKind earlier ⊎ Among (map name list) text
  each_mapped adds name step [] earlier h = inl h
  each_mapped adds name step (a ∷ list) earlier h =
      elim (each_mapped adds name step list (adds earlier a) h)
      as (λ _. HasKind earlier ⊎ Among (map name (a ∷ list)) text) [
        | inl before ↦ elim (step earlier a before)
            as (λ _. HasKind earlier ⊎ Among (map name (a ∷ list)) text) [
              | inl first ↦ inl first
              | inr same ↦ inr (inl same)
            ]
        | inr m ↦ inr (inr m)
      ]

  not_variable : (scope : Scope) (shape : Bracket) (base : Base)
      → K (variable_kind scope shape base) → ⊥
  not_variable scope NoBracket base is = only.scalar base is
  not_variable scope (Bracketed inner) base is = only.array base _ is

  among_named : (thing : Kind) (names : List Name) (entry : Entry)
      → Among (map (entry_for thing) names) entry → entry.kind ≡ thing
  among_named thing [] entry m = absurd m
  among_named thing (name ∷ names) entry (inl e) = ap (λ (x : Entry). x.kind) (sym e)
  among_named thing (name ∷ names) entry (inr m) = among_named thing names entry m

  configs_none : (defines : List Define) (earlier : List Entry)
      → HasKind (with_each (with_define kind.Config) earlier defines) → HasKind earlier
  configs_none = each_none (with_define kind.Config) (λ earlier define.
      not_one earlier (entry_for (kind.Config define.base) define.name) (only.config define.base))

  constants_none : (defines : List Define) (earlier : List Entry)
      → HasKind (with_each (with_define kind.Constant) earlier defines) → HasKind earlier
  constants_none = each_none (with_define kind.Constant) (λ earlier define.
      not_one earlier (entry_for (kind.Constant define.base) define.name)
      (only.constant define.base))

  variables_none : (vars : List VarDef) (earlier : List Entry)
      → HasKind (with_each with_variables earlier vars) → HasKind earlier
  variables_none = each_none with_variables (λ earlier var.
      let thing = variable_kind (declaring [] earlier) var.shape var.base in
      not_added earlier (map (entry_for thing) var.names) (λ entry m is.
      not_variable (declaring [] earlier) var.shape var.base
      (subst K (among_named thing var.names entry m) is)))

  procedure_none : (procedure : plain.Procedure) (earlier : List Entry)
      → HasKind (with_procedure earlier procedure) → HasKind earlier
  procedure_none procedure earlier h = not_one earlier _ (only.procedure _) h

  -- what all declarations add
  all_named : (names : Decl → List (List ℕ))
      → ((decl : Decl) (earlier : List Entry) → HasKind (with_decl earlier decl)
      → HasKind earlier ⊎ Among (names decl) text)
      → (decls : List Decl) (earlier : List Entry) → HasKind (with_each with_decl earlier decls)
      → HasKind earlier ⊎ Among (flat_map names decls) text
  all_named names step [] earlier h = inl h
  all_named names step (decl ∷ decls) earlier h =
      elim (all_named names step decls (with_decl earlier decl) h)
      as (λ _. HasKind earlier ⊎ Among (flat_map names (decl ∷ decls)) text) [
        | inl before ↦ elim (step decl earlier before)
            as (λ _. HasKind earlier ⊎ Among (flat_map names (decl ∷ decls)) text) [
              | inl first ↦ inl first
              | inr m ↦ inr (left-among (names decl) (flat_map names decls) text m)
            ]
        | inr m ↦ inr (right-among (names decl) (flat_map names decls) text m)
      ]

  in_declarations : (names : Decl → List (List ℕ))
      → ((decl : Decl) (earlier : List Entry) → HasKind (with_decl earlier decl)
      → HasKind earlier ⊎ Among (names decl) text)
      → (program : Program) (thing : Kind) → kind_in (globals_of program) text ≡ Some thing
      → K thing → Among (flat_map names program.decls) text
  in_declarations names step program thing e is =
      elim (all_named names step program.decls [] (found_kind (globals_of program) thing e is)) [
        | inl none ↦ absurd none.among
        | inr m ↦ m
      ]

-- ---- regions and directions

abbrev IsRegionKind : Kind → Type 0
IsRegionKind (kind.Region shape) = Unit {0}
IsRegionKind (kind.Config base) = ⊥
IsRegionKind (kind.Constant base) = ⊥
IsRegionKind (kind.Direction rank) = ⊥
IsRegionKind (kind.Scalar base) = ⊥
IsRegionKind (kind.Array base shape) = ⊥
IsRegionKind (kind.Procedure signature) = ⊥

abbrev IsDirectionKind : Kind → Type 0
IsDirectionKind (kind.Direction rank) = Unit {0}
IsDirectionKind (kind.Region shape) = ⊥
IsDirectionKind (kind.Config base) = ⊥
IsDirectionKind (kind.Constant base) = ⊥
IsDirectionKind (kind.Scalar base) = ⊥
IsDirectionKind (kind.Array base shape) = ⊥
IsDirectionKind (kind.Procedure signature) = ⊥

region_only : IsKindOf IsRegionKind
region_only = record {
  config = λ base is. is;
  constant = λ base is. is;
  scalar = λ base is. is;
  array = λ base shape is. is;
  procedure = λ signature is. is;
}

direction_only : IsKindOf IsDirectionKind
direction_only = record {
  config = λ base is. is;
  constant = λ base is. is;
  scalar = λ base is. is;
  array = λ base shape is. is;
  procedure = λ signature is. is;
}

decl_regions : (text : List ℕ) (decl : Decl) (earlier : List Entry)
    → HasKind IsRegionKind region_only text (with_decl earlier decl)
    → HasKind IsRegionKind region_only text earlier ⊎ Among (region_names decl) text
decl_regions text (Regions regions) earlier h =
    each_mapped IsRegionKind region_only text with_region
    (λ (region : RegionDef). region.name.text)
    (λ earlier region. one_more IsRegionKind region_only text earlier _) regions earlier h
decl_regions text (Directions directions) earlier h =
    inl (each_none IsRegionKind region_only text with_direction
    (λ earlier direction. not_one IsRegionKind region_only text earlier _ (λ is. is)) directions
    earlier h)
decl_regions text (Config defines) earlier h =
    inl (configs_none IsRegionKind region_only text defines earlier h)
decl_regions text (Constant defines) earlier h =
    inl (constants_none IsRegionKind region_only text defines earlier h)
decl_regions text (Vars vars) earlier h =
    inl (variables_none IsRegionKind region_only text vars earlier h)
decl_regions text (Defined procedure) earlier h =
    inl (procedure_none IsRegionKind region_only text procedure earlier h)

decl_directions : (text : List ℕ) (decl : Decl) (earlier : List Entry)
    → HasKind IsDirectionKind direction_only text (with_decl earlier decl)
    → HasKind IsDirectionKind direction_only text earlier ⊎ Among (direction_names decl) text
decl_directions text (Directions directions) earlier h =
    each_mapped IsDirectionKind direction_only text with_direction
    (λ (direction : DirDef). direction.name.text)
    (λ earlier direction. one_more IsDirectionKind direction_only text earlier _) directions earlier
    h
decl_directions text (Regions regions) earlier h =
    inl (each_none IsDirectionKind direction_only text with_region
    (λ earlier region. not_one IsDirectionKind direction_only text earlier _ (λ is. is)) regions
    earlier h)
decl_directions text (Config defines) earlier h =
    inl (configs_none IsDirectionKind direction_only text defines earlier h)
decl_directions text (Constant defines) earlier h =
    inl (constants_none IsDirectionKind direction_only text defines earlier h)
decl_directions text (Vars vars) earlier h =
    inl (variables_none IsDirectionKind direction_only text vars earlier h)
decl_directions text (Defined procedure) earlier h =
    inl (procedure_none IsDirectionKind direction_only text procedure earlier h)

-- ---- global regions and directions

module _ (program : Program) (settings : List Setting) where
  pub region_named :
      names_of (known_of program settings).regions ≡ flat_map region_names program.decls
      → (text : List ℕ) (shape : Option kind.Shape)
      → kind_in (globals_of program) text ≡ Some (kind.Region shape)
      → Contains (names_of (known_of program settings).regions) text
  region_named names text shape e =
      Contains-from_among (names_of (known_of program settings).regions) text
      (subst (λ all. Among all text) (sym names)
      (in_declarations IsRegionKind region_only text region_names (decl_regions text)
      program (kind.Region shape) e tt))

  pub direction_named :
      names_of (known_of program settings).directions ≡ flat_map direction_names program.decls
      → (text : List ℕ) (rank : kind.Rank)
      → kind_in (globals_of program) text ≡ Some (kind.Direction rank)
      → Contains (names_of (known_of program settings).directions) text
  direction_named names text rank e =
      Contains-from_among (names_of (known_of program settings).directions) text
      (subst (λ all. Among all text) (sym names)
      (in_declarations IsDirectionKind direction_only text direction_names (decl_directions text)
      program (kind.Direction rank) e tt))

-- ---- the scope of a statement that a run comes to

record HasScope (program : Program) (place : Place) : Type 0 where
  routine : Routine
  member : Among (routines_of program) routine
  scope : place.scope ≡ scope_of program routine

under_scope : (store : Store) (prefixes : List Prefix) (place inner : Place)
    → ComesUnder store prefixes place inner → inner.scope ≡ place.scope
under_scope store prefixes place inner (ComesUnder.Bare same) = refl
under_scope store prefixes place inner (ComesUnder.Behind prefix rest outer last over is comes) =
    under_scope store rest (under_prefix outer prefix over) last comes

module _ (program : Program) (settings : List Setting) (n : ℕ) where
  met_scope : (deeper : ℕ) (place : Place) (stmt : Stmt) (store : Store)
      → IsMet (opening_of program settings n) deeper place stmt store → HasScope program place
  met_scope deeper place stmt store (IsMet.Begins less routine chain named) = record {
    routine = routine;
    member = named_among program program.name.text routine named;
    scope = refl;
  }
  met_scope deeper place stmt store
      (IsMet.Holds less outer inner at prefixes form from part later met comes goes) =
      let before = met_scope less outer (Prefixed at prefixes form) from met in record {
        routine = before.routine;
        member = before.member;
        scope = under_scope from prefixes outer inner comes ∙ before.scope;
      }
  met_scope deeper place stmt store
      (IsMet.Calls less outer inner at prefixes form from called before routine met comes makes
      named) = record {
        routine = routine;
        member = named_among program called.name routine named;
        scope = refl;
      }

  pub region_computed :
      names_of (known_of program settings).regions ≡ flat_map region_names program.decls
      → (deeper : ℕ) (place : Place) (stmt : Stmt) (store : Store)
      → IsMet (opening_of program settings n) deeper place stmt store
      → (name : Name) (shape : Option kind.Shape)
      → kind_of place.scope name ≡ Some (kind.Region shape)
      → Contains (names_of (known_of program settings).regions) name.text
  region_computed names deeper place stmt store met name shape e =
      let has = met_scope deeper place stmt store met in
      region_named program settings names name.text shape
      (global_kind program has.routine has.member name (kind.Region shape) tt
      (subst (λ scope. kind_of scope name ≡ Some (kind.Region shape)) has.scope e))

  pub direction_computed :
      names_of (known_of program settings).directions ≡ flat_map direction_names program.decls
      → (deeper : ℕ) (place : Place) (stmt : Stmt) (store : Store)
      → IsMet (opening_of program settings n) deeper place stmt store
      → (name : Name) (rank : kind.Rank) → kind_of place.scope name ≡ Some (kind.Direction rank)
      → Contains (names_of (known_of program settings).directions) name.text
  direction_computed names deeper place stmt store met name rank e =
      let has = met_scope deeper place stmt store met in
      direction_named program settings names name.text rank
      (global_kind program has.routine has.member name (kind.Direction rank) tt
      (subst (λ scope. kind_of scope name ≡ Some (kind.Direction rank)) has.scope e))

-- ---- forms of a region

-- nothing is wrong but the limit of regions
abbrev IsLimited : Outcome Region → Type 0
IsLimited (Gives region) = Unit {0}
IsLimited (Fails fault) = fault ≡ RegionLimit

limited_is : (region : Region) → IsLimited (limited region)
limited_is region = by (is_within_limit region)
  where
    by : (b : Bool) → IsLimited (cond b (Gives region) (Fails RegionLimit))
    by true = tt
    by false = refl

formed_is : (form : List ℤ → Region → Region) (vector : Outcome (List ℤ)) (region : Outcome Region)
    → IsGiven (List ℤ) vector → IsLimited region → IsLimited (formed_by form vector region)
formed_is form (Gives vector) (Gives region) given h = limited_is (form vector region)
formed_is form vector (Fails fault) given h = h
formed_is form (Fails fault) (Gives region) given h =
    let e : Fails fault ≡ Gives given.value = given.given in cc

-- the laws that are used
pub record AreGiven (program : Program) (settings : List Setting) : Type 0 where
  pub directions : (text : List ℕ) (default : List ℤ) →
      IsGiven (List ℤ) (outcome_of default (known_of program settings).directions text)
  pub vectors : (parts : Exprs) → Contains (vectors_in program) parts →
      IsGiven (List ℤ) (vector_of (known_of program settings).values parts)

module _ (program : Program) (settings : List Setting) (given : AreGiven program settings) where
  abbrev known : Known
  known = known_of program settings

  behind_is : (post : Posts) (region : Outcome Region) → HasVectors program post
      → IsLimited region → IsLimited (behind known region post)
  behind_is NoPost region has h = h
  behind_is (ThenPost stride (NamedDir name) rest) region has h =
      behind_is rest _ has
      (formed_is (cond stride strided moved) (dir_of known.values known.directions (NamedDir name))
      region (given.directions name.text (three_components [])) h)
  behind_is (ThenPost stride (Vector parts) rest) region has h =
      behind_is rest _ has.1
      (formed_is (cond stride strided moved) (dir_of known.values known.directions (Vector parts))
      region (given.vectors parts has.0) h)

  before_is : (pre : List Pre) (region : Outcome Region) → IsLimited region
      → IsLimited (before known pre region)
  before_is [] region h = h
  before_is (one ∷ rest) region h =
      formed_is (cond one.outside outside_of inside_of) _ (before known rest region)
      (given.directions one.dir.text (three_components [])) (before_is rest region h)

  failed_is : (outcome : Outcome Region) (fault : BindFault) → IsLimited outcome
      → outcome ≡ Fails fault → fault ≡ RegionLimit
  failed_is (Gives region) fault h e = cc
  failed_is (Fails other) fault h e = let same : other ≡ fault = cc in sym same ∙ h

  pub forms_limited : (pre : List Pre) (region : Region) (post : Posts) (fault : BindFault)
      → HasVectors program post
      → before known pre (behind known (Gives region) post) ≡ Fails fault → fault ≡ RegionLimit
  forms_limited pre region post fault has e =
      failed_is (before known pre (behind known (Gives region) post)) fault
      (before_is pre (behind known (Gives region) post)
      (behind_is post (Gives region) has tt)) e
