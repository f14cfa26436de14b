-- Calls of procedures under current regions: what is known where one is made is handed on to what is
-- called.
use Rattle.std.proofs.Common.{◌≡◌, ℕ, Bool, true, false, List}
use Rattle.std.specs.Prelude.{Some, length}
use Rattle.zpl_tree.specs.Syntax.{Name, Dir, Stmt, Form, Program}
use Rattle.zpl_tree.specs.Grammar.{IsProgram}
use Rattle.zpl_names.specs.Kinds.{Signature}
use Rattle.zpl_names.specs.Shapes.{Shapes}
use Rattle.zpl_names.specs.Declared.{Routine, IsProcedureOf, routine_named}
use Rattle.zpl_names.specs.Expansion.{formal_names}
use Rattle.zpl_names.specs.Ranks.{dir_rank}
use Rattle.zpl_names.specs.Accepted.{IsFaultless}
use Rattle.zpl_binding.specs.Formals.{IsCalled}
use Rattle.zpl_binding.specs.Settings.{Setting}
use Rattle.zpl_meaning.specs.Store.{Store}
use Rattle.zpl_meaning.specs.Context.{Setup, Place}
use Rattle.zpl_meaning.specs.Calls.{Called}
use Rattle.zpl_meaning.specs.Regions.{vector_in}
use Rattle.zpl_meaning.specs.Visited.{first_setup, IsVisited, body_place}
use Rattle.zpl_meaning.proofs.VisitLemmas.{Laws}
use Rattle.meaning_ranks.proofs.PlaceLemmas.{IsAt}
use Rattle.zpl_lowering.specs.Where.{Where}
use Rattle.zpl_lowering.specs.Statement.{Given}
use Rattle.served_places.specs.of_lowering_runs.Goes.{World}
use Rattle.served_places.proofs.of_lowering_runs.SuitLemmas.{LeafGoes}
use Rattle.operator_runs.specs.of_call_runs.Taken.{CallsGo}
use Rattle.operator_runs.specs.of_call_runs.Answered.{CallsAnswer}
use Rattle.operator_runs.specs.of_call_runs.Leaf as leaf
use Rattle.operator_runs.proofs.of_call_runs.LeafLemmas as leaf_lemmas
use Rattle.operator_runs.specs.Served.{OperatedValue}
use Rattle.operator_runs.proofs.ValueLemmas.{operated_values}
use Rattle.served_places.specs.Told.{IsTold}
use Rattle.served_places.specs.Given.{KnowsGiven}
use Rattle.lowered_flat.specs.of_lowering_fits.Reach.{FitNames, AreGlobals}
use Rattle.lowered_flat.specs.of_lowering_fits.Storages.{AllKept}
use Rattle.lowered_flat.proofs.of_lowering_fits.KeptLemmas.{AreGivenOf}
use Rattle.lowered_flat.proofs.of_lowering_fits.ReachLemmas.{FewScalars}
use Rattle.lowered_flat.proofs.CalledLemmas.{AreGiven}
use Rattle.lowered_flat.proofs.ToldLemmas.{AreTold}
use Rattle.shown_programs.specs.Operators.{HasCopyWithin}
use Rattle.shown_programs.proofs.BoundedLemmas.{IsBoundedAt}
use Rattle.shown_programs.proofs.SourceLemmas.{IsReadOf, ProcedureText}

module _ (program : Program) (settings : List Setting) (laws : Laws program)
    (grammar : IsProgram program) (clean : IsFaultless program) where
  abbrev pub setup : Setup
  setup = first_setup program settings

  abbrev pub text_of : List ℕ → ProcedureText
  text_of text = record { program = program; known = setup.known; text = text }

  -- Where code of a procedure that is called stands under current regions of these shapes: names
  -- stand for what is of their kinds, arrays are what they may be by the text, and the copies of
  -- reads that wrap round are within the limit; slots, masks and arrays are as the text says, and
  -- vectors have three components.
  pub record IsKnownAt (text : List ℕ) (w : Where) (shapes : Shapes) : Type 0 where
    pub owned : w.setup ≡ setup
    pub names : FitNames w.scope w.environment w.numbers
    pub scalars : FewScalars w.environment w.numbers
    pub globals : AreGlobals program w.numbers setup.globals
    pub kept : AllKept w.numbers.arrays
    pub told : IsTold w shapes
    pub given : KnowsGiven w.setup.known w.scope
    pub long : (rank : ℕ) (dir : Dir) → dir_rank w.scope dir ≡ Some rank
        → length (vector_in w.setup.known dir) ≡ 3
    pub called : IsCalled program text
    pub homes : AreTold program setup.known text w.environment
    pub copies : (name : Name) (shift : Dir) → IsReadOf (text_of text) name shift
        → HasCopyWithin setup.known w.environment name.text shift

  -- a body is visited, under current regions of these shapes
  pub record IsEntered (shapes : Shapes) (place : Place) (body : Stmt) : Type 0 where
    pub here : IsAt program settings laws grammar clean place shapes body
    pub visited : IsVisited setup place body
    pub bounded : IsBoundedAt place

  -- a call, by what its parameters take
  pub record IsCalledFrom (IsCallable : List ℕ → Type 0) (w : Where) (givens : List Given)
      (called : Called) : Type 0 where
    pub caller : List ℕ
    pub shapes : Shapes
    pub known : IsKnownAt caller w shapes
    pub callable : IsCallable called.name
    pub comes : IsCalled program called.name
    pub homes : (routine : Routine) → routine_named program called.name ≡ Some routine
        → AreGiven program setup.known called.name (formal_names routine.procedure.params) givens
    pub signature : Signature
    pub of : (routine : Routine) → routine_named program called.name ≡ Some routine
        → IsProcedureOf signature routine
    pub givens_are : AreGivenOf w.numbers signature.formals givens
    pub entered : (routine : Routine) (store : Store)
        → routine_named program called.name ≡ Some routine
        → IsEntered shapes (body_place setup routine called store) routine.procedure.body

  -- ---- calls as statements, and calls that answer

  module _ (IsCallable : Bool → List ℕ → Type 0) where
    abbrev pub IsCalledBy : Bool → Where → List Given → Called → Type 0
    IsCalledBy answers w givens called = IsCalledFrom (IsCallable answers) w givens called

    -- what is called so goes as its code does
    pub record AreCalls (world : World) : Type 0 where
      pub go : CallsGo (IsCalledBy false) world
      pub answer : CallsAnswer (IsCalledBy true) world

    -- as further forms
    abbrev pub CallLeaf : ℕ → Form → Where → Place → Type 0
    CallLeaf = leaf.CallLeaf (IsCalledBy false) (IsCalledBy true) OperatedValue

    pub call_leaves : (world : World) → AreCalls world → (at : ℕ) (form : Form)
        → LeafGoes world CallLeaf at form
    call_leaves world calls =
        leaf_lemmas.call_leaves (IsCalledBy false) (IsCalledBy true) OperatedValue world calls.go
        calls.answer (operated_values world)
