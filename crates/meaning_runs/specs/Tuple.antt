-- What the run of one tuple of a shattered statement comes to.
use Rattle.std.specs.Prelude.{◌≡◌, ℕ, ℤ, List, Contains}
use Rattle.zpl_meaning.specs.of_zpl_tree.Syntax.{Prefix, Prefixed, Form}
use Rattle.zpl_meaning.specs.of_zpl_names.Kinds.{Rank}
use Rattle.zpl_meaning.specs.of_zpl_names.Sites.{tests_rank}
use Rattle.zpl_meaning.specs.Computed.{Gives}
use Rattle.zpl_meaning.specs.Store.{Store}
use Rattle.zpl_meaning.specs.Context.{Over, Place, over_at, reach_of}
use Rattle.zpl_meaning.specs.Fields.{Field}
use Rattle.zpl_meaning.specs.Points.{Point, at_tuple, kept_tuples, parts_in}
use Rattle.meaning_runs.specs.Runner.{runner_of}
use Rattle.meaning_runs.specs.Comes.{ComesIn}

-- the statement itself, and the forms of the statements in it, each with what the tuple has of the
-- store there
pub data IsMetAt (point : Point) (n : ℕ) (whole : Form) (first : Store) : Form → Store → Type 0
  where
    Whole : IsMetAt point n whole first whole first
    Within : (form : Form) (store : Store) (at : ℕ) (prefixes : List Prefix) (part : Form)
        (later : Store) → IsMetAt point n whole first form store →
        ComesIn (runner_of point n) 0 form store (Prefixed at prefixes part) later →
        IsMetAt point n whole first part later

abbrev pub split_rank : Place → Form → Rank
split_rank place form = tests_rank (reach_of place) form

-- its current region, with its mask
abbrev pub split_over : Place → Form → Over
split_over place form = over_at place.currents (split_rank place form)

abbrev pub point_at : Place → ℕ → Form → List ℤ → Point
point_at place line form tuple =
    record { place = place; rank = split_rank place form; tuple = tuple; line = line }

-- A tuple that runs the shattered statement: the statement's regions, conformity and references are
-- right, the operators over regions in its expressions have values, and the tuple isn't masked out.
pub record IsRunAt (place : Place) (form : Form) (store : Store) (tuple : List ℤ) : Type 0 where
  pub fields : List Field
  pub checked : parts_in place (split_rank place form) (split_over place form) form store ≡
      Gives fields
  pub kept : Contains (kept_tuples store (split_over place form)) tuple

-- a form that the run of a tuple comes to
abbrev pub IsMetBy : Place → ℕ → ℕ → Form → Store → List ℤ → Form → Store → Type 0
IsMetBy place line n form store tuple part later =
    IsMetAt (point_at place line form tuple) n form (at_tuple tuple store) part later
