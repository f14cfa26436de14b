-- The calls of a lowered program, each with what it is of the expanded program.
use Rattle.std.specs.Prelude.{◌≡◌, ℕ, ◌+◌, ◌≤◌, List, [], ◌++◌, length, Some, Contains, slice_get}
use Rattle.zpl_region.specs.declared.regions.Region.{Region}
use Rattle.zpl_tree.specs.Syntax.{Name, Program}
use Rattle.zpl_names.specs.Scope.{kind_of}
use Rattle.zpl_names.specs.Shapes.{unknown_shapes}
use Rattle.zpl_names.specs.Declared.{Routine, entry_of, routine_named, scope_of}
use Rattle.zpl_names.specs.Sites.{CallSite, calls_under}
use Rattle.zpl_names.specs.Expansion.{Binding, ExpandedArray, Instance, called_instance, entry_instance}
use Rattle.zpl_binding.specs.Regions.{Known}
use Rattle.zpl_binding.specs.Storages.{Border}
use Rattle.zpl_meaning.specs.Calls.{formals_in}
use Rattle.zpl_meaning.specs.Context.{Setup}
use Rattle.zpl_meaning.specs.Store.{ArrayAt, Names, thing_of}
use Rattle.zpl_meaning.specs.Program.{first_frame, setup_of}
use Rattle.lowering_fits.specs.of_zpl_lowering.Where.{Numbers, Stored, Where, Next}
use Rattle.lowering_fits.specs.of_zpl_lowering.Statement.{Calling, given_to}
use Rattle.lowering_fits.specs.of_zpl_lowering.Program.{Entry, Framed, global_numbers}
use Rattle.lowering_fits.specs.Whole.{body_frames}

-- Where a procedure's body is lowered: in an expanded call, with these own names and numbers, behind
-- so many arrays. The entry procedure begins with the numbers of the global arrays, behind these; and
-- what a text calls begins with the caller's names and numbers, behind all arrays so far.
pub data IsLoweredCall (setup : Setup) (start : Numbers) (first : ℕ) :
    Instance → Framed → ℕ → Type 0 where
  Entered : (routine : Routine) (entry : Entry) (calling : Calling) (next : Next) →
      entry_of setup.program ≡ Some routine → calling.actuals ≡ [] → calling.numbers ≡ start →
      first ≤ next.arrays →
      IsLoweredCall setup start first (entry_instance routine)
      (body_frames setup entry routine calling next).frame
      (body_frames setup entry routine calling next).next.arrays
  Called : (caller : Instance) (frame : Framed) (arrays : ℕ) →
      IsLoweredCall setup start first caller frame arrays →
      (call : CallSite) → Contains (calls_under setup.program unknown_shapes caller.routine) call →
      (routine : Routine) → routine_named setup.program call.name.text ≡ Some routine →
      (w : Where) → w.environment ≡ record { names = frame.names ++ setup.globals } →
      w.numbers ≡ frame.numbers →
      (scalar : ℕ) (entry : Entry) (calling : Calling) (next : Next) →
      calling.actuals ≡ given_to w scalar
      (formals_in (kind_of (scope_of setup.program caller.routine) call.name)) call.actuals →
      calling.numbers ≡ w.numbers → arrays ≤ next.arrays →
      IsLoweredCall setup start first (called_instance setup.program caller call routine)
      (body_frames setup entry routine calling next).frame
      (body_frames setup entry routine calling next).next.arrays

-- those of a program, with what was computed of its declarations
abbrev pub IsCallOf : Program → Known → List Border → Instance → Framed → ℕ → Type 0
IsCallOf program known borders instance framed arrays =
    let frame = first_frame program known borders in
    IsLoweredCall (setup_of program known borders frame) (global_numbers frame)
    (length frame.store.arrays) instance framed arrays

-- in such a call a name stands for the array with this number
pub record HasNumber (globals : Names) (framed : Framed) (name : Name) (number : ℕ) : Type 0 where
  pub place : ℕ
  pub home : Region
  pub stored : Stored
  pub thing : thing_of (record { names = framed.names ++ globals }) name.text ≡
      Some (ArrayAt place home)
  pub has : slice_get framed.numbers.arrays place ≡ Some stored
  pub is : stored.array ≡ number

-- ---- arrays that stand in a list

-- the arrays of these bindings stand there from a number on, in order
abbrev pub StandFrom : List ExpandedArray → ℕ → List Binding → Type 0
StandFrom all first own =
    (i : ℕ) (one : Binding) → slice_get own i ≡ Some one →
    slice_get all (first + i) ≡ Some one.array

-- so do the own arrays of a call, and of those that lead to it, each from the number on that was free
module _ (all : List ExpandedArray) (setup : Setup) (start : Numbers) (first : ℕ) where
  abbrev pub AreStanding : (instance : Instance) (framed : Framed) (arrays : ℕ) →
      IsLoweredCall setup start first instance framed arrays → Type 0
  AreStanding instance framed arrays (Entered routine entry calling next is none same below) =
      StandFrom all next.arrays (entry_instance routine).own
  AreStanding instance framed arrays
      (Called caller frame before is call there routine found w environment numbers scalar entry
      calling next actuals same below) =
      AreStanding caller frame before is
      × StandFrom all next.arrays (called_instance setup.program caller call routine).own
