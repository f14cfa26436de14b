-- Members seen as a tree. They are read from the last one on.
use Rattle.std.specs.Prelude.{ℕ, Option, Some, None, List, [], ◌∷◌, option_and_then}
use Rattle.node_form.specs.declared.members.Member.{Member}
use Rattle.node_form.specs.declared.members.Member.TheVariants.{Put, Cell, Acc, OpenIf, Otherwise}
use Rattle.node_form.specs.declared.members.Member.TheVariants.{CloseIf, OpenWhile, CloseWhile}
use Rattle.node_form.specs.declared.members.Member.TheVariants.{OpenRepeat, Until}
use Rattle.node_form.specs.Nest.{Nest, Nothing, Putting, Keeping, Joining, Choosing, ChoosingElse}
use Rattle.node_form.specs.Nest.{Looping, Repeating}

-- what closes behind the members that are read, and the trees there
pub data Closing : Type 0 where
  ClosesIf : (after : Nest) → Closing
  ClosesElse : (otherwise after : Nest) → Closing
  ClosesWhile : (after : Nest) → Closing
  ClosesRepeat : (until : ℕ) (after : Nest) → Closing

-- the tree that was read last, up to the innermost closing; and the closings, the innermost first
pub record Reading : Type 0 where
  pub tree : Nest
  pub closings : List Closing

abbrev pub reading : Nest → List Closing → Reading
reading tree closings = record { tree = tree; closings = closings }

-- a member that goes on with an opening, or opens one, in front of what was read
abbrev pub else_read : Nest → List Closing → Option Reading
else_read tree (ClosesIf after ∷ closings) =
    Some (reading Nothing (ClosesElse tree after ∷ closings))
else_read tree closings = None

abbrev pub if_read : ℕ → Option ℕ → ℕ → Nest → List Closing → Option Reading
if_read expr mask line tree (ClosesIf after ∷ closings) =
    Some (reading (Choosing expr mask line tree after) closings)
if_read expr mask line tree (ClosesElse otherwise after ∷ closings) =
    Some (reading (ChoosingElse expr mask line tree otherwise after) closings)
if_read expr mask line tree closings = None

abbrev pub while_read : ℕ → Option ℕ → ℕ → Nest → List Closing → Option Reading
while_read expr mask line tree (ClosesWhile after ∷ closings) =
    Some (reading (Looping expr mask line tree after) closings)
while_read expr mask line tree closings = None

abbrev pub repeat_read : Option ℕ → ℕ → Nest → List Closing → Option Reading
repeat_read mask line tree (ClosesRepeat until after ∷ closings) =
    Some (reading (Repeating mask line tree until after) closings)
repeat_read mask line tree closings = None

abbrev pub member_read : Member → Reading → Option Reading
member_read (Put array expr mask line) read =
    Some (reading (Putting array expr mask line read.tree) read.closings)
member_read (Cell cell expr mask line) read =
    Some (reading (Keeping cell expr mask line read.tree) read.closings)
member_read (Acc scalar fold expr mask line) read =
    Some (reading (Joining scalar fold expr mask line read.tree) read.closings)
member_read (OpenIf expr mask line) read = if_read expr mask line read.tree read.closings
member_read Otherwise read = else_read read.tree read.closings
member_read CloseIf read = Some (reading Nothing (ClosesIf read.tree ∷ read.closings))
member_read (OpenWhile expr mask line) read = while_read expr mask line read.tree read.closings
member_read CloseWhile read = Some (reading Nothing (ClosesWhile read.tree ∷ read.closings))
member_read (OpenRepeat mask line) read = repeat_read mask line read.tree read.closings
member_read (Until expr) read = Some (reading Nothing (ClosesRepeat expr read.tree ∷ read.closings))

abbrev pub members_read : List Member → Option Reading
members_read [] = Some (reading Nothing [])
members_read (member ∷ members) = option_and_then (member_read member) (members_read members)

abbrev pub whole_tree : Nest → List Closing → Option Nest
whole_tree tree [] = Some tree
whole_tree tree (closing ∷ closings) = None

-- the tree that members are spelled from, if there is one
abbrev pub nest_of : List Member → Option Nest
nest_of members =
    option_and_then (λ read. whole_tree read.tree read.closings) (members_read members)
