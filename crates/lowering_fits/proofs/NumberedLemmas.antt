-- All code of a program is numbered as it is laid out.
use Rattle.std.proofs.Common.{◌≡◌, ℕ, List, [], ◌∷◌, map}
use Rattle.std.specs.List.{sum_by}
use Rattle.zpl_region.specs.declared.regions.Region.{Region}
use Rattle.meaning_ranks.specs.of_zpl_tree.Grammar.{IsProgram}
use Rattle.meaning_ranks.specs.of_zpl_tree.Syntax.{NoBracket, Bracketed, Bracket, VarDef, Program}
use Rattle.meaning_ranks.specs.of_zpl_names.Accepted.{IsFaultless}
use Rattle.meaning_ranks.specs.of_zpl_names.Declared.{Routine}
use Rattle.meaning_ranks.specs.of_zpl_names.Expansion.{expanded_of, instances_of}
use Rattle.meaning_ranks.specs.of_zpl_binding.Settings.{Setting}
use Rattle.meaning_ranks.specs.of_zpl_binding.Declarations.{known_of}
use Rattle.meaning_ranks.specs.of_zpl_binding.Storages.{borders_of}
use Rattle.meaning_ranks.specs.of_zpl_meaning.Context.{Setup}
use Rattle.meaning_ranks.specs.of_zpl_meaning.Program.{first_frame}
use Rattle.meaning_ranks.specs.of_zpl_meaning.Visited.{first_setup}
use Rattle.lower_numbers.specs.of_zpl_lowering.Program.{first_next, lowered_program}
use Rattle.lowering_fits.specs.Whole.{IsNumbered}
use Rattle.lowering_fits.proofs.PartLemmas.{AreRight}
use Rattle.lowering_fits.proofs.MadeLemmas.{AllOf}
use Rattle.lowering_fits.proofs.MadeFrameLemmas.{FineBox, FineVars}
use Rattle.lowering_fits.proofs.MadeWholeLemmas.{whole_made}

pub any_all : (storages : List Region) → AllOf (λ storage. Unit {0}) storages
any_all [] = tt
any_all (storage ∷ storages) = (tt, any_all storages)

any_box : (setup : Setup) (shape : Bracket) → FineBox (λ storage. Unit {0}) setup shape
any_box setup NoBracket = tt
any_box setup (Bracketed inner) = tt

pub any_vars : (setup : Setup) (vars : List VarDef) → FineVars (λ storage. Unit {0}) setup vars
any_vars setup [] = tt
any_vars setup (var ∷ vars) = (any_box setup var.shape, any_vars setup vars)

pub all_numbered : (program : Program) (settings : List Setting) → IsProgram program →
    IsFaultless program → AreRight (first_setup program settings) →
    ((own : Routine → ℕ) → expanded_of program own ≡
    sum_by (λ instance. own instance.routine) (instances_of program)) →
    IsNumbered (first_next program) (lowered_program program settings)
all_numbered program settings grammar clean right sums =
    let setup = first_setup program settings in
    let frame = first_frame program (known_of program settings) (borders_of program) in
    let made = whole_made program settings grammar clean right
    (λ storage. Unit {0}) (λ routine environment numbers. Unit {0})
    (λ routine environment numbers inside place stored is. tt)
    (λ routine environment numbers inside reach rank at name shift place home there is. tt)
    (λ routine member. any_vars setup routine.procedure.locals)
    (λ routine environment numbers inside w name actuals is callee named scalar target line entry
    next. tt) sums
    (any_all (map (λ array. array.storage) frame.store.arrays)) (λ entry is next. tt) in
    made.numbered
