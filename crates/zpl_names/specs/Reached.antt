-- Which procedures a program reaches by calls, and under which current regions.
use Rattle.std.specs.Prelude.{◌≡◌, ℕ, ◌<◌, List, [], ◌∷◌, length, flat_map, Option, Some, None, Contains}
use Rattle.zpl_tree.specs.Syntax.{Program}
use Rattle.zpl_names.specs.Shapes.{Shapes, no_shapes, unknown_shapes}
use Rattle.zpl_names.specs.Declared.{Routine, routine_named}
use Rattle.zpl_names.specs.Sites.{Site, CallSite, routine_sites, calls_under}

-- ---- the procedure with a name, under current regions

abbrev pub sites_of : Program → Shapes → Option Routine → List Site
sites_of program shapes None = []
sites_of program shapes (Some routine) = routine_sites program shapes routine

abbrev pub sites_at : Program → List ℕ → Shapes → List Site
sites_at program text shapes = sites_of program shapes (routine_named program text)

abbrev pub calls_of : Program → Shapes → Option Routine → List CallSite
calls_of program shapes None = []
calls_of program shapes (Some routine) = calls_under program shapes routine

abbrev pub calls_at : Program → List ℕ → Shapes → List CallSite
calls_at program text shapes = calls_of program shapes (routine_named program text)

-- the calls that its text has
abbrev pub calls_in : Program → List ℕ → List CallSite
calls_in program text = calls_at program text unknown_shapes

-- ---- what is reached

-- Some chain of calls from the entry procedure on comes to the procedure with this name under these
-- current regions. The entry procedure begins with none.
pub data IsReached (program : Program) : List ℕ → Shapes → Type 0 where
  Entered : IsReached program program.name.text no_shapes
  Called : (text : List ℕ) (shapes : Shapes) (call : CallSite) → IsReached program text shapes →
      Contains (calls_at program text shapes) call → IsReached program call.name.text call.shapes

-- A list of procedures' names with current regions that has the entry procedure, and with each one
-- all that it calls.
pub record IsClosed (program : Program) (pairs : List (List ℕ × Shapes)) : Type 0 where
  pub entry : Contains pairs (program.name.text, no_shapes)
  pub calls : (text : List ℕ) (shapes : Shapes) (call : CallSite) → Contains pairs (text, shapes) →
      Contains (calls_at program text shapes) call → Contains pairs (call.name.text, call.shapes)

-- a place that a fault names under some chain of calls
pub record IsReachedFault (program : Program) (fault : Site → List ℕ) (at : ℕ) : Type 0 where
  pub text : List ℕ
  pub shapes : Shapes
  pub reached : IsReached program text shapes
  pub there : Contains (flat_map fault (sites_at program text shapes)) at

-- ---- Recursion: a procedure reaches itself by calls; at a call's name

-- a procedure comes to another by calls, or is the other
pub data Reaches (program : Program) : List ℕ → List ℕ → Type 0 where
  Itself : (text : List ℕ) → Reaches program text text
  ByCall : (text other : List ℕ) (call : CallSite) → Contains (calls_in program text) call →
      Reaches program call.name.text other → Reaches program text other

-- numbers of procedures that fall with each call
abbrev pub IsHeight : Program → (List ℕ → ℕ) → Type 0
IsHeight program height =
    (text : List ℕ) (call : CallSite) → Contains (calls_in program text) call →
    height call.name.text < height text

pub record IsRecursion (program : Program) (at : ℕ) : Type 0 where
  pub text : List ℕ
  pub call : CallSite
  pub called : Contains (calls_in program text) call
  pub back : Reaches program call.name.text text
  pub place : call.name.at ≡ at

-- ---- DeepCalls: a chain of calls from the entry procedure has more different procedures than it
-- may have; at the name of the call that makes it longer

unfoldable pub longest_chain : ℕ
longest_chain = 32

-- different procedures, each called by the next, down to the entry procedure
pub data IsChain (program : Program) : List (List ℕ) → Type 0 where
  Alone : IsChain program (program.name.text ∷ [])
  Longer : (last : List ℕ) (before : List (List ℕ)) (call : CallSite) →
      IsChain program (last ∷ before) →
      Contains (calls_in program last) call → ¬ Contains (last ∷ before) call.name.text →
      IsChain program (call.name.text ∷ last ∷ before)

pub record IsDeepCall (program : Program) (at : ℕ) : Type 0 where
  pub last : List ℕ
  pub before : List (List ℕ)
  pub chain : IsChain program (last ∷ before)
  pub full : length (last ∷ before) ≡ longest_chain
  pub call : CallSite
  pub called : Contains (calls_in program last) call
  pub different : ¬ Contains (last ∷ before) call.name.text
  pub place : call.name.at ≡ at
