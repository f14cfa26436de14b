-- Declared regions have ranks from 1 to 3.
use Rattle.std.proofs.Common.{List, [], ◌∷◌, map, length, sym, subst, arith}
use Rattle.std.specs.Prelude.{Option, Some, None, option_map}
use Rattle.std.specs.List.{AllByRecursion}
use Rattle.std.proofs.lemmas.List.Elements.{recursion_from_All}
use Rattle.zpl_region.specs.declared.regions.Region.{Region}
use Rattle.meaning_ranks.specs.of_zpl_tree.Grammar.{IsProgram}
use Rattle.meaning_ranks.specs.of_zpl_tree.Syntax.{Program}
use Rattle.meaning_ranks.specs.of_zpl_names.Kinds.{Shape}
use Rattle.meaning_ranks.specs.of_zpl_names.Scope.{Entry}
use Rattle.meaning_ranks.specs.of_zpl_names.Ranks.{HasRank, IsKnownKind}
use Rattle.meaning_ranks.specs.of_zpl_names.Accepted.{IsFaultless}
use Rattle.meaning_ranks.specs.of_zpl_names.Declared.{globals_of, routines_of}
use Rattle.meaning_ranks.proofs.of_zpl_names.ListLemmas.{Contains-from_among}
use Rattle.meaning_ranks.specs.of_zpl_binding.Outcome.{Outcome, Gives, Fails, Computed, value_or}
use Rattle.meaning_ranks.specs.of_zpl_binding.Regions.{no_region}
use Rattle.meaning_ranks.specs.of_zpl_binding.Settings.{Setting}
use Rattle.meaning_ranks.specs.of_zpl_binding.Declarations.{known_of}
use Rattle.meaning_ranks.specs.of_zpl_meaning.Proper.{IsArrayRank}
use Rattle.meaning_ranks.proofs.of_zpl_meaning.NamesLemmas.{IsGood, globals_shaped}
use Rattle.meaning_ranks.proofs.of_zpl_meaning.VisitLemmas.{Laws, all_good, find_among}
use Rattle.meaning_ranks.proofs.ShapeLemmas.{Fits}
use Rattle.meaning_ranks.proofs.RegionLemmas.{Pairs, Nothing, Skips, Adds, globals_fit}
use Rattle.stored_shifts.specs.of_node_form.Fits.{IsRank}
use Rattle.lowering_fits.specs.Lowerings.{AllRanks, region_rank}
use Rattle.lowering_fits.proofs.SettleLemmas.{array_rank_number}
use Rattle.lowering_fits.proofs.MadeWholeLemmas.{entry_is_there}

pub given_rank : (shape : Option Shape) (outcome : Outcome Region) →
    IsArrayRank (option_map length shape) → Fits shape outcome →
    IsRank (value_or no_region outcome).rank
given_rank None outcome is fits = absurd is
given_rank (Some shape) (Gives region) is fits =
    subst IsRank (sym fits.rank) (array_rank_number (Some (length shape)) is).0
given_rank (Some shape) (Fails fault) is fits = (omega arith, omega arith)

pairs_ranked : (xs : List Entry) (rs : List (Computed Region)) → Pairs xs rs →
    AllByRecursion (λ entry. IsGood entry.kind) xs → AllRanks (map region_rank rs)
pairs_ranked [] [] Nothing good = tt
pairs_ranked [] (r ∷ rs) pairs good = elim pairs [ ]
pairs_ranked (x ∷ xs) rs (Skips entry other pairs) good = pairs_ranked xs rs pairs good.1
pairs_ranked (x ∷ xs) (r ∷ rs) (Adds name shape outcome fits pairs) good =
    (given_rank shape outcome good.0 fits, pairs_ranked xs rs pairs good.1)

pub regions_ranked : (program : Program) (settings : List Setting) → Laws program →
    IsProgram program → IsFaultless program →
    AllRanks (map region_rank (known_of program settings).regions)
regions_ranked program settings laws grammar clean =
    let entry = entry_is_there program clean in
    let member = Contains-from_among (routines_of program) entry.0
    (find_among _ (routines_of program) entry.0 entry.1) in
    pairs_ranked (globals_of program) (known_of program settings).regions
    (globals_fit program settings clean)
    (all_good (globals_of program)
    (recursion_from_All (λ entry. IsKnownKind entry.kind) (globals_of program)
    (laws.names entry.0 member).globals)
    (recursion_from_All (λ entry. HasRank entry.kind) (globals_of program)
    (laws.ranked entry.0 member).globals)
    (globals_shaped program.decls [] tt grammar))
