-- Directions that are declared have ranks from 1 to 3.
use Rattle.std.proofs.Common.{◌≡◌, ℕ, suc, Bool, true, false, cond, List, [], ◌∷◌, ◌++◌, map, nat_le}
use Rattle.std.proofs.Common.{Option, Some, None, option_map, refl, sym, subst}
use Rattle.std.proofs.Common.{true≢false}
use Rattle.std.specs.List.{AllByRecursion, flat_map, find}
use Rattle.std.specs.Option.{option_or}
use Rattle.std.specs.Str.{bytes_eq}
use Rattle.std.proofs.lemmas.List.Elements.{recursion_from_All}
use Rattle.meaning_runs.specs.of_zpl_tree.Syntax.{Name, Exprs, NoExpr, ThenExpr, Bracket, NoBracket, Bracketed, Base}
use Rattle.meaning_runs.specs.of_zpl_tree.Syntax.{Define, RegionDef, DirDef, VarDef, Param, Decl, Config, Constant}
use Rattle.meaning_runs.specs.of_zpl_tree.Syntax.{Regions, Directions, Vars, Defined, Program}
use Rattle.meaning_runs.specs.of_zpl_tree.Syntax as plain
use Rattle.meaning_runs.specs.of_zpl_tree.Grammar.{HasExpr, IsDirection, IsDecl, IsProgram}
use Rattle.meaning_runs.specs.of_zpl_names.Kinds as kind
use Rattle.meaning_runs.specs.of_zpl_names.Kinds.{Rank, Kind}
use Rattle.meaning_runs.specs.of_zpl_names.Scope.{Entry, Scope, kind_in, kind_of, is_direction}
use Rattle.meaning_runs.specs.of_zpl_names.Ranks.{HasRank, HasRanks, IsKnownKind, AreKnown, exprs_count}
use Rattle.meaning_runs.specs.of_zpl_names.Ranks.{at_most_three, direction_rank, is_zero}
use Rattle.meaning_runs.specs.of_zpl_names.Shapes.{variable_kind}
use Rattle.meaning_runs.specs.of_zpl_names.Declared.{entry_for, declaring, head_scope, own_entries, with_define}
use Rattle.meaning_runs.specs.of_zpl_names.Declared.{with_region, with_direction, with_variables}
use Rattle.meaning_runs.specs.of_zpl_names.Declared.{with_each, with_decl, globals_of, Routine, routines_of, scope_of}
use Rattle.meaning_runs.specs.of_zpl_names.Declared.{procedure_entry}
use Rattle.meaning_runs.proofs.of_zpl_names.ListLemmas.{Among}
use Rattle.meaning_runs.specs.of_zpl_meaning.Proper.{IsArrayRank}
use Rattle.meaning_runs.proofs.of_zpl_meaning.ProperLemmas.{array_rank_is}
use Rattle.meaning_runs.proofs.of_zpl_meaning.NamesLemmas.{routine_sound}
use Rattle.meaning_ranks.proofs.RankLemmas.{KnowsDirections}

-- a direction has at least one component
abbrev IsAimed : Kind → Type 0
IsAimed (kind.Direction rank) = is_zero rank ≡ false
IsAimed (kind.Config base) = Unit {0}
IsAimed (kind.Constant base) = Unit {0}
IsAimed (kind.Region shape) = Unit {0}
IsAimed (kind.Scalar base) = Unit {0}
IsAimed (kind.Array base shape) = Unit {0}
IsAimed (kind.Procedure signature) = Unit {0}

abbrev Aimed : List Entry → Type 0
Aimed entries = AllByRecursion (λ entry. IsAimed entry.kind) entries

aimed_append : (xs ys : List Entry) → Aimed xs → Aimed ys → Aimed (xs ++ ys)
aimed_append [] ys h k = k
aimed_append (x ∷ xs) ys h k = (h.0, aimed_append xs ys h.1 k)

aimed_names : (thing : Kind) → IsAimed thing → (names : List Name)
    → Aimed (map (entry_for thing) names)
aimed_names thing h [] = tt
aimed_names thing h (name ∷ names) = (h, aimed_names thing h names)

aimed_variable : (scope : Scope) (bracket : Bracket) (base : Base)
    → IsAimed (variable_kind scope bracket base)
aimed_variable scope NoBracket base = tt
aimed_variable scope (Bracketed inner) base = tt

aimed_flat : {A : Type 0} (f : A → List Entry) → ((a : A) → Aimed (f a)) → (list : List A)
    → Aimed (flat_map f list)
aimed_flat f h [] = tt
aimed_flat f h (a ∷ rest) = aimed_append (f a) (flat_map f rest) (h a) (aimed_flat f h rest)

own_aimed : (earlier : List Entry) (procedure : plain.Procedure)
    → Aimed (own_entries earlier procedure)
own_aimed earlier procedure =
    let scope = head_scope earlier procedure in
    aimed_append
    (flat_map (λ param. map (entry_for (variable_kind scope param.shape param.base)) param.names)
    procedure.params) _
    (aimed_flat (λ (param : Param). map (entry_for (variable_kind scope param.shape param.base))
    param.names)
    (λ param. aimed_names (variable_kind scope param.shape param.base)
    (aimed_variable scope param.shape param.base) param.names) procedure.params)
    (aimed_flat (λ (var : VarDef). map (entry_for (variable_kind scope var.shape var.base))
    var.names)
    (λ var. aimed_names (variable_kind scope var.shape var.base)
    (aimed_variable scope var.shape var.base) var.names) procedure.locals)

each_aimed : {A : Type 0} (adds : List Entry → A → List Entry) (G : A → Type 0)
    → ((earlier : List Entry) (a : A) → G a → Aimed earlier → Aimed (adds earlier a))
    → (list : List A) (earlier : List Entry) → Aimed earlier → AllByRecursion G list
    → Aimed (with_each adds earlier list)
each_aimed adds G keeps [] earlier h g = h
each_aimed adds G keeps (a ∷ rest) earlier h g =
    each_aimed adds G keeps rest (adds earlier a) (keeps earlier a g.0 h) g.1

each_plain : {A : Type 0} (adds : List Entry → A → List Entry)
    → ((earlier : List Entry) (a : A) → Aimed earlier → Aimed (adds earlier a))
    → (list : List A) (earlier : List Entry) → Aimed earlier
    → Aimed (with_each adds earlier list)
each_plain adds keeps [] earlier h = h
each_plain adds keeps (a ∷ rest) earlier h =
    each_plain adds keeps rest (adds earlier a) (keeps earlier a h)

not_none : (parts : Exprs) → HasExpr parts → is_zero (at_most_three (exprs_count parts)) ≡ false
not_none NoExpr g = absurd g
not_none (ThenExpr one rest) g = by (exprs_count rest) (nat_le (exprs_count (ThenExpr one rest)) 3)
  where
    by : (n : ℕ) (b : Bool) → is_zero (cond b (Some (suc n)) None) ≡ false
    by n true = refl
    by n false = refl

decl_aimed : (decl : Decl) (earlier : List Entry) → Aimed earlier → IsDecl decl
    → Aimed (with_decl earlier decl)
decl_aimed (Config defines) earlier h g =
    each_plain (with_define kind.Config)
    (λ earlier define h. aimed_append earlier _ h (tt, tt)) defines earlier h
decl_aimed (Constant defines) earlier h g =
    each_plain (with_define kind.Constant)
    (λ earlier define h. aimed_append earlier _ h (tt, tt)) defines earlier h
decl_aimed (Regions regions) earlier h g =
    each_plain with_region (λ earlier region h. aimed_append earlier _ h (tt, tt)) regions earlier h
decl_aimed (Directions directions) earlier h g =
    each_aimed with_direction IsDirection
    (λ earlier direction g h. aimed_append earlier _ h (not_none direction.parts g.0, tt))
    directions earlier h g.1
decl_aimed (Vars vars) earlier h g =
    each_plain with_variables
    (λ earlier var h. aimed_append earlier _ h
    (aimed_names (variable_kind (declaring [] earlier) var.shape var.base)
    (aimed_variable (declaring [] earlier) var.shape var.base) var.names)) vars earlier h
decl_aimed (Defined procedure) earlier h g =
    aimed_append earlier (procedure_entry earlier procedure ∷ []) h (tt, tt)

globals_aimed : (decls : List Decl) (earlier : List Entry) → Aimed earlier
    → AllByRecursion IsDecl decls → Aimed (with_each with_decl earlier decls)
globals_aimed [] earlier h g = h
globals_aimed (decl ∷ decls) earlier h g =
    globals_aimed decls (with_decl earlier decl) (decl_aimed decl earlier h g.0) g.1

-- ---- what a name stands for

abbrev IsGood : Kind → Type 0
IsGood (kind.Direction rank) = IsArrayRank rank
IsGood (kind.Config base) = Unit {0}
IsGood (kind.Constant base) = Unit {0}
IsGood (kind.Region shape) = Unit {0}
IsGood (kind.Scalar base) = Unit {0}
IsGood (kind.Array base shape) = Unit {0}
IsGood (kind.Procedure signature) = Unit {0}

abbrev OptGood : Option Kind → Type 0
OptGood None = Unit {0}
OptGood (Some kind) = IsGood kind

good_from : (thing : Kind) → IsKnownKind thing → HasRank thing → IsAimed thing → IsGood thing
good_from (kind.Direction rank) k le h = array_rank_is rank k h le
good_from (kind.Config base) k le h = tt
good_from (kind.Constant base) k le h = tt
good_from (kind.Region shape) k le h = tt
good_from (kind.Scalar base) k le h = tt
good_from (kind.Array base shape) k le h = tt
good_from (kind.Procedure signature) k le h = tt

good_in : (entries : List Entry) (text : List ℕ)
    → AllByRecursion (λ entry. IsKnownKind entry.kind) entries
    → AllByRecursion (λ entry. HasRank entry.kind) entries → Aimed entries
    → OptGood (kind_in entries text)
good_in [] text k le h = tt
good_in (first ∷ rest) text k le h =
    by (bytes_eq first.name.text text) (good_in rest text k.1 le.1 h.1)
  where
    by : (b : Bool) → OptGood (kind_in rest text)
        → OptGood (option_map (λ entry. entry.kind)
        (cond b (Some first) (find (λ entry. bytes_eq entry.name.text text) rest)))
    by true later = good_from first.kind k.0 le.0 h.0
    by false later = later

or_good : (one other : Option Kind) → OptGood one → OptGood other → OptGood (option_or one other)
or_good None other h k = k
or_good (Some kind) other h k = h

direction_is : (found : Option Kind) → OptGood found → is_direction found ≡ true
    → IsArrayRank (direction_rank found)
direction_is (Some (kind.Direction rank)) h e = h
direction_is (Some (kind.Config base)) h e = absurd (true≢false (sym e))
direction_is (Some (kind.Constant base)) h e = absurd (true≢false (sym e))
direction_is (Some (kind.Region shape)) h e = absurd (true≢false (sym e))
direction_is (Some (kind.Scalar base)) h e = absurd (true≢false (sym e))
direction_is (Some (kind.Array base shape)) h e = absurd (true≢false (sym e))
direction_is (Some (kind.Procedure signature)) h e = absurd (true≢false (sym e))
direction_is None h e = absurd (true≢false (sym e))

pub directions_known : (program : Program) → IsProgram program → (routine : Routine)
    → Among (routines_of program) routine → AreKnown (scope_of program routine)
    → HasRanks (scope_of program routine) → KnowsDirections (scope_of program routine)
directions_known program grammar routine member known ranked name e =
    let sound = routine_sound program.decls [] routine tt grammar member in
    direction_is (kind_of (scope_of program routine) name)
    (or_good (kind_in routine.own name.text) (kind_in (globals_of program) name.text)
    (good_in routine.own name.text
    (recursion_from_All (λ entry. IsKnownKind entry.kind) routine.own known.own)
    (recursion_from_All (λ entry. HasRank entry.kind) routine.own ranked.own)
    (subst Aimed (sym sound.own) (own_aimed sound.earlier routine.procedure)))
    (good_in (globals_of program) name.text
    (recursion_from_All (λ entry. IsKnownKind entry.kind) (globals_of program) known.globals)
    (recursion_from_All (λ entry. HasRank entry.kind) (globals_of program) ranked.globals)
    (globals_aimed program.decls [] tt grammar))) e
