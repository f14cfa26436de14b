-- Members one after another, from the first one of a turn on.
use Rattle.std.proofs.Common.{◌≡◌, ℕ, ◌≤◌, min, List, length, drop}
use Rattle.zpl_arrays.specs.Array.{Array}
use Rattle.node_form.specs.declared.members.Member.{Member}
use Rattle.node_form.specs.declared.tables.Tables.{Tables}
use Rattle.node_form.specs.Group.{Access, ran, ran_from}
use Rattle.grid_meaning.specs.Loop.{point_of}
use Rattle.node_local.specs.Workplace.{Workplace}
use Rattle.node_loop.specs.declared.modes.Mode.{Mode}
use Rattle.node_loop.specs.Step.{Changes, depth_in, mode_of}

-- the members that are left make of the state what all of them do
module _ (code : Tables) (access : Access (List Array)) (all : List Member) (first : ℕ) (before : Workplace) where
  pub record IsRunning (i : ℕ) (mode : Mode) (now : Workplace) : Type 0 where
    pub ran_so_far : ran_from code access all first (point_of before.local)
        ≡ ran code access all i (mode_of mode) (drop i all) (point_of now.local)
    pub changes : Changes (min i (length all)) before now
    pub deep : depth_in mode ≤ i
