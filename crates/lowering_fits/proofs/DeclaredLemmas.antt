-- What was computed before the run fits the names in reach of each procedure.
use Rattle.std.proofs.Common.{◌≡◌, ℕ, List, [], map, length, sym, ◌∙◌, subst}
use Rattle.std.specs.Prelude.{option_map, Option, Some, None}
use Rattle.std.specs.List.{AllByRecursion}
use Rattle.std.specs.Str.{bytes_eq}
use Rattle.zpl_region.specs.declared.regions.Region.{Region}
use Rattle.meaning_ranks.specs.of_zpl_tree.Syntax.{Name, Program}
use Rattle.meaning_ranks.specs.of_zpl_tree.Grammar.{IsDecl}
use Rattle.meaning_ranks.specs.of_zpl_names.Kinds as kind
use Rattle.meaning_ranks.specs.of_zpl_names.Kinds.{Kind, Shape}
use Rattle.meaning_ranks.specs.of_zpl_names.Scope.{kind_in, kind_of}
use Rattle.meaning_ranks.specs.of_zpl_names.Ranks.{region_shape}
use Rattle.meaning_ranks.specs.of_zpl_names.Declared.{Routine, own_entries, routine_named, routines_of, scope_of}
use Rattle.meaning_ranks.specs.of_zpl_names.Accepted.{IsFaultless}
use Rattle.meaning_ranks.proofs.of_zpl_names.ListLemmas.{Among}
use Rattle.meaning_ranks.specs.of_zpl_binding.Outcome.{Outcome, Gives, Fails, outcome_of}
use Rattle.meaning_ranks.specs.of_zpl_binding.Regions.{no_region, region_named}
use Rattle.meaning_ranks.specs.of_zpl_binding.Settings.{Setting}
use Rattle.meaning_ranks.specs.of_zpl_binding.Declarations.{known_of}
use Rattle.meaning_ranks.specs.of_zpl_meaning.Given.{IsGiven}
use Rattle.meaning_ranks.proofs.of_zpl_meaning.NamesLemmas.{IsSound, routine_sound}
use Rattle.meaning_ranks.proofs.of_zpl_meaning.VisitLemmas.{find_among, IsOwn, all_own, own_in}
use Rattle.meaning_ranks.proofs.ShapeLemmas.{Fits}
use Rattle.meaning_ranks.proofs.RegionLemmas.{reach_fits}
use Rattle.stored_shifts.specs.of_node_form.declared.tables.Tables.{Tables}
use Rattle.lowering_fits.specs.Slates.{SlotsAt}
use Rattle.lowering_fits.specs.Reach.{FitsKnown}
use Rattle.lowering_fits.specs.Lowerings.{region_rank}
use Rattle.lowering_fits.proofs.ScopeLemmas.{IsVariableKind, HasRankOf, known_fits}

own_kind : (one : Option Kind) → IsOwn one → IsVariableKind one
own_kind None is = tt
own_kind (Some (kind.Scalar base)) is = tt
own_kind (Some (kind.Array base shape)) is = tt
own_kind (Some (kind.Config base)) is = absurd is
own_kind (Some (kind.Constant base)) is = absurd is
own_kind (Some (kind.Region shape)) is = absurd is
own_kind (Some (kind.Direction rank)) is = absurd is
own_kind (Some (kind.Procedure signature)) is = absurd is

shaped_rank : (rank : ℕ) (shape : Option Shape) (outcome : Outcome Region) → Fits shape outcome →
    option_map length shape ≡ Some rank → HasRankOf rank outcome
shaped_rank rank None outcome fits is = let no : ⊥ = cc in absurd no
shaped_rank rank (Some shape) (Gives region) fits is =
    let same : length shape ≡ rank = cc in fits.rank ∙ same
shaped_rank rank (Some shape) (Fails fault) fits is = tt

pub own_kinds : (program : Program) → AllByRecursion IsDecl program.decls → (routine : Routine) →
    Among (routines_of program) routine → (text : List ℕ) →
    IsVariableKind (kind_in routine.own text)
own_kinds program grammar routine among text =
    let sound : IsSound routine = routine_sound program.decls [] routine tt grammar among in
    own_kind (kind_in routine.own text)
    (subst (λ entries. IsOwn (kind_in entries text)) (sym sound.own)
    (own_in (own_entries sound.earlier routine.procedure) text
    (all_own sound.earlier routine.procedure)))

pub ranks_of : (program : Program) (settings : List Setting) →
    AllByRecursion IsDecl program.decls → IsFaultless program → (routine : Routine) →
    Among (routines_of program) routine → (name : Name) (rank : ℕ) →
    option_map length (region_shape (kind_of (scope_of program routine) name)) ≡ Some rank →
    HasRankOf rank (region_named (known_of program settings) name)
ranks_of program settings grammar clean routine among name rank is =
    let sound : IsSound routine = routine_sound program.decls [] routine tt grammar among in
    shaped_rank rank (region_shape (kind_of (scope_of program routine) name))
    (region_named (known_of program settings) name)
    (reach_fits program settings clean routine sound name) is

pub among_fit : (program : Program) (settings : List Setting) →
    AllByRecursion IsDecl program.decls → IsFaultless program →
    ((text : List ℕ) (default : Region) →
    IsGiven Region (outcome_of default (known_of program settings).regions text)) →
    (tables : Tables) (routine : Routine) → Among (routines_of program) routine →
    SlotsAt tables 0 (map region_rank (known_of program settings).regions) →
    FitsKnown tables (known_of program settings) (scope_of program routine)
among_fit program settings grammar clean given tables routine among slots =
    known_fits tables program settings routine (own_kinds program grammar routine among)
    (λ name. given name no_region) (ranks_of program settings grammar clean routine among) slots

pub declared_fit : (program : Program) (settings : List Setting) →
    AllByRecursion IsDecl program.decls → IsFaultless program →
    ((text : List ℕ) (default : Region) →
    IsGiven Region (outcome_of default (known_of program settings).regions text)) →
    (tables : Tables) (text : List ℕ) (routine : Routine) →
    routine_named program text ≡ Some routine →
    SlotsAt tables 0 (map region_rank (known_of program settings).regions) →
    FitsKnown tables (known_of program settings) (scope_of program routine)
declared_fit program settings grammar clean given tables text routine named slots =
    among_fit program settings grammar clean given tables routine
    (find_among (λ routine. bytes_eq routine.procedure.name.text text) (routines_of program)
    routine named) slots
