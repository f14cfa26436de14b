-- Members at a tuple write what the group names alone.
use Rattle.std.proofs.Common.{ℕ, zero, suc, ◌+◌, Bool, true, false}
use Rattle.std.proofs.Common.{List, [], ◌∷◌, length, Option, Some, None, ℤ}
use Rattle.std.specs.Prelude.{if◌then◌else◌, option_and_then, ⊤}
use Rattle.code_parts.specs.of_zpl_nums.Integer.{is_true}
use Rattle.grid_meaning.specs.of_node_form.declared.members.Member as number
use Rattle.grid_meaning.specs.of_node_form.declared.members.Member.TheVariants as member
use Rattle.grid_meaning.specs.of_node_form.declared.touches.Thing.{Thing}
use Rattle.grid_meaning.specs.of_node_form.declared.touches.Thing.TheVariants as thing
use Rattle.grid_meaning.specs.of_node_form.Nest.{Nest, Nothing, Putting, Keeping, Joining, Choosing, ChoosingElse}
use Rattle.grid_meaning.specs.of_node_form.Nest.{Looping, Repeating}
use Rattle.grid_meaning.specs.of_node_form.Value.{Computed, Gives, Divides, Lacks}
use Rattle.nest_meaning.specs.Nested.{Ways, Told, Fine, Zero, Wants, Lost, leaf_does, masked}
use Rattle.nest_meaning.specs.Nested.{nested, repeat_turns, then_do, until_done, while_turns}
use Rattle.nest_meaning.specs.Nested.{with_state, with_value}
use Rattle.nest_meaning.specs.Tree.{Closing, ClosesIf, ClosesElse, ClosesWhile, ClosesRepeat}
use Rattle.nest_meaning.specs.Tree.{Reading, else_read, if_read, member_read, members_read, nest_of}
use Rattle.nest_meaning.specs.Tree.{repeat_read, while_read, whole_tree}
use Rattle.nest_meaning.specs.Units.{units_of}
use Rattle.nest_meaning.specs.of_row_runs.Straight.{Every}
use Rattle.flat_form.specs.Loop.{AllTold, AllFine, SomeZero, SomeWant, SomeLost, Column, Point}
use Rattle.flat_form.specs.Loop.{Puts, Joins, Write, all_told, and_fine, and_want, and_zero}
use Rattle.flat_form.specs.Loop.{both_told, log_ways, unit_at}
use Rattle.flat_form.specs.Row.{Words, Member, Put, Cell, Acc, OpenIf, Otherwise, CloseIf}
use Rattle.flat_form.specs.Row.{OpenWhile, CloseWhile, OpenRepeat, Until, group_coded}
use Rattle.flat_form.specs.Row.{member_coded, member_words}
use Rattle.flat_form.specs.Whole.{Whole}
use Rattle.flat_form.proofs.NamedLemmas.{OwnNamed}

module _ (Q : Thing → Type 0) where
  abbrev pub NestNamed : Nest → Type 0
  NestNamed Nothing = ⊤
  NestNamed (Putting array expr mask line after) = Q (thing.Array array) × NestNamed after
  NestNamed (Keeping cell expr mask line after) = NestNamed after
  NestNamed (Joining scalar operator expr mask line after) =
      Q (thing.Scalar scalar) × NestNamed after
  NestNamed (Choosing expr mask line body after) = NestNamed body × NestNamed after
  NestNamed (ChoosingElse expr mask line body otherwise after) =
      NestNamed body × NestNamed otherwise × NestNamed after
  NestNamed (Looping expr mask line body after) = NestNamed body × NestNamed after
  NestNamed (Repeating mask line body until after) = NestNamed body × NestNamed after

  -- ---- the tree that members are read as
  abbrev ClosingNamed : Closing → Type 0
  ClosingNamed (ClosesIf after) = NestNamed after
  ClosingNamed (ClosesElse otherwise after) = NestNamed otherwise × NestNamed after
  ClosingNamed (ClosesWhile after) = NestNamed after
  ClosingNamed (ClosesRepeat until after) = NestNamed after

  record ReadingNamed (read : Reading) : Type 0 where
    tree : NestNamed read.tree
    closings : Every ClosingNamed read.closings

  abbrev MaybeNamed : Option Reading → Type 0
  MaybeNamed None = ⊤
  MaybeNamed (Some read) = ReadingNamed read

  abbrev NumberNamed : number.Member → Type 0
  NumberNamed (member.Put array expr mask line) = Q (thing.Array array)
  NumberNamed (member.Acc scalar operator expr mask line) = Q (thing.Scalar scalar)
  NumberNamed row = ⊤

  if_named : (expr : ℕ) (mask : Option ℕ) (line : ℕ) (tree : Nest) (closings : List Closing)
      → NestNamed tree → Every ClosingNamed closings
      → MaybeNamed (if_read expr mask line tree closings)
  if_named expr mask line tree [] is all = tt
  if_named expr mask line tree (ClosesIf after ∷ closings) is all =
      record { tree = (is, all.0); closings = all.1 }
  if_named expr mask line tree (ClosesElse otherwise after ∷ closings) is all =
      record { tree = (is, all.0.0, all.0.1); closings = all.1 }
  if_named expr mask line tree (ClosesWhile after ∷ closings) is all = tt
  if_named expr mask line tree (ClosesRepeat until after ∷ closings) is all = tt

  else_named : (tree : Nest) (closings : List Closing) → NestNamed tree
      → Every ClosingNamed closings → MaybeNamed (else_read tree closings)
  else_named tree [] is all = tt
  else_named tree (ClosesIf after ∷ closings) is all =
      record { tree = tt; closings = ((is, all.0), all.1) }
  else_named tree (ClosesElse otherwise after ∷ closings) is all = tt
  else_named tree (ClosesWhile after ∷ closings) is all = tt
  else_named tree (ClosesRepeat until after ∷ closings) is all = tt

  while_named : (expr : ℕ) (mask : Option ℕ) (line : ℕ) (tree : Nest) (closings : List Closing)
      → NestNamed tree → Every ClosingNamed closings
      → MaybeNamed (while_read expr mask line tree closings)
  while_named expr mask line tree [] is all = tt
  while_named expr mask line tree (ClosesIf after ∷ closings) is all = tt
  while_named expr mask line tree (ClosesElse otherwise after ∷ closings) is all = tt
  while_named expr mask line tree (ClosesWhile after ∷ closings) is all =
      record { tree = (is, all.0); closings = all.1 }
  while_named expr mask line tree (ClosesRepeat until after ∷ closings) is all = tt

  repeat_named : (mask : Option ℕ) (line : ℕ) (tree : Nest) (closings : List Closing)
      → NestNamed tree → Every ClosingNamed closings
      → MaybeNamed (repeat_read mask line tree closings)
  repeat_named mask line tree [] is all = tt
  repeat_named mask line tree (ClosesIf after ∷ closings) is all = tt
  repeat_named mask line tree (ClosesElse otherwise after ∷ closings) is all = tt
  repeat_named mask line tree (ClosesWhile after ∷ closings) is all = tt
  repeat_named mask line tree (ClosesRepeat until after ∷ closings) is all =
      record { tree = (is, all.0); closings = all.1 }

  member_named : (m : number.Member) (read : Reading) → NumberNamed m → ReadingNamed read
      → MaybeNamed (member_read m read)
  member_named (member.Put array expr mask line) read is named =
      record { tree = (is, named.tree); closings = named.closings }
  member_named (member.Cell cell expr mask line) read is named =
      record { tree = named.tree; closings = named.closings }
  member_named (member.Acc scalar operator expr mask line) read is named =
      record { tree = (is, named.tree); closings = named.closings }
  member_named (member.OpenIf expr mask line) read is named =
      if_named expr mask line read.tree read.closings named.tree named.closings
  member_named member.Otherwise read is named =
      else_named read.tree read.closings named.tree named.closings
  member_named member.CloseIf read is named =
      record { tree = tt; closings = (named.tree, named.closings) }
  member_named (member.OpenWhile expr mask line) read is named =
      while_named expr mask line read.tree read.closings named.tree named.closings
  member_named member.CloseWhile read is named =
      record { tree = tt; closings = (named.tree, named.closings) }
  member_named (member.OpenRepeat mask line) read is named =
      repeat_named mask line read.tree read.closings named.tree named.closings
  member_named (member.Until expr) read is named =
      record { tree = tt; closings = (named.tree, named.closings) }

  then_named : (m : number.Member) (o : Option Reading) → NumberNamed m → MaybeNamed o
      → MaybeNamed (option_and_then (member_read m) o)
  then_named m None is named = tt
  then_named m (Some read) is named = member_named m read is named

  members_read_named : (members : List number.Member) → Every NumberNamed members
      → MaybeNamed (members_read members)
  members_read_named [] all = record { tree = tt; closings = tt }
  members_read_named (m ∷ members) all =
      then_named m (members_read members) all.0 (members_read_named members all.1)

  abbrev pub NestMaybeNamed : Option Nest → Type 0
  NestMaybeNamed None = ⊤
  NestMaybeNamed (Some nest) = NestNamed nest

  whole_named : (tree : Nest) (closings : List Closing) → NestNamed tree
      → NestMaybeNamed (whole_tree tree closings)
  whole_named tree [] is = is
  whole_named tree (closing ∷ closings) is = tt

  read_named : (o : Option Reading) → MaybeNamed o
      → NestMaybeNamed (option_and_then (λ read. whole_tree read.tree read.closings) o)
  read_named None named = tt
  read_named (Some read) named = whole_named read.tree read.closings named.tree

  coded_named : (n : ℕ) (group : List Member) → Every (OwnNamed Q) group
      → Every NumberNamed (group_coded n group)
  coded_named n [] all = tt
  coded_named n (m ∷ group) all =
      (one n m all.0, coded_named (n + length (member_words m)) group all.1)
    where
      one : (n : ℕ) (m : Member) → OwnNamed Q m → NumberNamed (member_coded n m)
      one n (Put array expr mask line) is = is
      one n (Cell cell expr mask line) is = tt
      one n (Acc scalar operator expr mask line) is = is
      one n (OpenIf expr mask line) is = tt
      one n Otherwise is = tt
      one n CloseIf is = tt
      one n (OpenWhile expr mask line) is = tt
      one n CloseWhile is = tt
      one n (OpenRepeat mask line) is = tt
      one n (Until expr) is = tt

  pub nest_named : (group : List Member) → Every (OwnNamed Q) group
      → NestMaybeNamed (nest_of (group_coded 0 group))
  nest_named group all = read_named (members_read (group_coded 0 group))
      (members_read_named (group_coded 0 group) (coded_named 0 group all))

  pub units_named : (nest : Nest) → NestNamed nest → Every NestNamed (units_of nest)
  units_named Nothing is = tt
  units_named (Putting array expr mask line after) is = ((is.0, tt), units_named after is.1)
  units_named (Keeping cell expr mask line after) is = (tt, units_named after is)
  units_named (Joining scalar operator expr mask line after) is =
      ((is.0, tt), units_named after is.1)
  units_named (Choosing expr mask line body after) is = ((is.0, tt), units_named after is.1)
  units_named (ChoosingElse expr mask line body otherwise after) is =
      ((is.0, is.1, tt), units_named after is.2)
  units_named (Looping expr mask line body after) is = ((is.0, tt), units_named after is.1)
  units_named (Repeating mask line body until after) is = ((is.0, tt), units_named after is.1)

  -- ---- logs
  abbrev pub WriteNamed : Write → Type 0
  WriteNamed (Puts array value) = Q (thing.Array array)
  WriteNamed (Joins scalar operator value) = Q (thing.Scalar scalar)

  abbrev pub LogNamed : Point → Type 0
  LogNamed point = Every WriteNamed point.log

  abbrev pub ToldNamed : Told Point → Type 0
  ToldNamed (Fine point) = LogNamed point
  ToldNamed (Zero point) = ⊤
  ToldNamed Wants = ⊤
  ToldNamed Lost = ⊤

  module _ (ways : Ways Point)
      (put : (array : ℕ) (v : ℤ) (p : Point) → Q (thing.Array array) → LogNamed p
      → ToldNamed (with_state (ways.put array v p)))
      (keep : (cell : ℕ) (v : ℤ) (p : Point) → LogNamed p
      → ToldNamed (with_state (ways.keep cell v p)))
      (join : (scalar : ℕ) (operator : _) (v : ℤ) (p : Point) → Q (thing.Scalar scalar) → LogNamed p
      → ToldNamed (with_state (ways.join scalar operator v p))) where
    then_told : (told : Told Point) (f : Point → Told Point) → ToldNamed told
        → ((p : Point) → LogNamed p → ToldNamed (f p)) → ToldNamed (then_do f told)
    then_told (Fine p) f is more = more p is
    then_told (Zero p) f is more = tt
    then_told Wants f is more = tt
    then_told Lost f is more = tt

    value_told : (p : Point) (x : Computed ℤ) (f : ℤ → Told Point) → ((v : ℤ) → ToldNamed (f v))
        → ToldNamed (with_value p x f)
    value_told p (Gives v) f more = more v
    value_told p Divides f more = tt
    value_told p Lacks f more = tt

    if_told : (b : Bool) (s t : Told Point) → ToldNamed s → ToldNamed t
        → ToldNamed (if b then s else t)
    if_told true s t is or = is
    if_told false s t is or = or

    mask_told : (mask : Option ℕ) (p : Point) (run : Told Point) → LogNamed p → ToldNamed run
        → ToldNamed (masked ways mask p run)
    mask_told None p run is more = more
    mask_told (Some mask) p run is more =
        value_told p (ways.value p mask) _ (λ v. if_told (is_true v) run (Fine p) more is)

    choice_told : (mask : Option ℕ) (expr : ℕ) (p : Point) (s t : Told Point) → LogNamed p
        → ToldNamed s → ToldNamed t
        → ToldNamed
        (masked ways mask p (with_value p (ways.value p expr) (λ v. if is_true v then s else t)))
    choice_told mask expr p s t is one or = mask_told mask p _ is
        (value_told p (ways.value p expr) _ (λ v. if_told (is_true v) s t one or))

    leaf_told : (expr : ℕ) (mask : Option ℕ) (way : ℤ → Point → Option Point) (p : Point)
        → LogNamed p → ((v : ℤ) → ToldNamed (with_state (way v p)))
        → ToldNamed (leaf_does ways expr mask way p)
    leaf_told expr mask way p is more =
        mask_told mask p _ is (value_told p (ways.value p expr) _ more)

    while_told : (n : ℕ) (mask : Option ℕ) (expr : ℕ) (body : Point → Told Point)
        → ((p : Point) → LogNamed p → ToldNamed (body p)) → (p : Point) → LogNamed p
        → ToldNamed (while_turns ways n mask expr body p)
    while_told zero mask expr body more p is = choice_told mask expr p Wants (Fine p) is tt is
    while_told (suc n) mask expr body more p is =
        choice_told mask expr p (then_do (while_turns ways n mask expr body) (body p)) (Fine p) is
        (then_told (body p) (while_turns ways n mask expr body) (more p is)
        (λ q is. while_told n mask expr body more q is)) is

    repeat_told : (n : ℕ) (mask : Option ℕ) (until : ℕ) (body : Point → Told Point)
        → ((p : Point) → LogNamed p → ToldNamed (body p)) → (p : Point) → LogNamed p
        → ToldNamed (repeat_turns ways n mask until body p)
    repeat_told zero mask until body more p is = mask_told mask p Wants is tt
    repeat_told (suc n) mask until body more p is =
        mask_told mask p _ is (then_told (body p)
        (until_done ways (repeat_turns ways n mask until body) until) (more p is)
        (λ q is. value_told q (ways.value q until) _
        (λ v. if_told (is_true v) (Fine q) _ is (repeat_told n mask until body more q is))))

    pub nested_told : (n : ℕ) (nest : Nest) → NestNamed nest → (p : Point) → LogNamed p
        → ToldNamed (nested ways n nest p)
    nested_told n Nothing named p is = is
    nested_told n (Putting array expr mask line after) named p is =
        then_told (leaf_does ways expr mask (ways.put array) p) (nested ways n after)
        (leaf_told expr mask (ways.put array) p is (λ v. put array v p named.0 is))
        (nested_told n after named.1)
    nested_told n (Keeping cell expr mask line after) named p is =
        then_told (leaf_does ways expr mask (ways.keep cell) p) (nested ways n after)
        (leaf_told expr mask (ways.keep cell) p is (λ v. keep cell v p is))
        (nested_told n after named)
    nested_told n (Joining scalar operator expr mask line after) named p is =
        then_told (leaf_does ways expr mask (ways.join scalar operator) p) (nested ways n after)
        (leaf_told expr mask (ways.join scalar operator) p is
        (λ v. join scalar operator v p named.0 is)) (nested_told n after named.1)
    nested_told n (Choosing expr mask line body after) named p is =
        then_told _ (nested ways n after) (choice_told mask expr p (nested ways n body p)
        (Fine p) is (nested_told n body named.0 p is) is) (nested_told n after named.1)
    nested_told n (ChoosingElse expr mask line body otherwise after) named p is =
        then_told _ (nested ways n after) (choice_told mask expr p (nested ways n body p)
        (nested ways n otherwise p) is (nested_told n body named.0 p is)
        (nested_told n otherwise named.1 p is)) (nested_told n after named.2)
    nested_told n (Looping expr mask line body after) named p is =
        then_told (while_turns ways n mask expr (nested ways n body) p) (nested ways n after)
        (while_told n mask expr (nested ways n body) (nested_told n body named.0) p is)
        (nested_told n after named.1)
    nested_told n (Repeating mask line body until after) named p is =
        then_told (repeat_turns ways n mask until (nested ways n body) p) (nested ways n after)
        (repeat_told n mask until (nested ways n body) (nested_told n body named.0) p is)
        (nested_told n after named.1)

  pub unit_told : (n : ℕ) (exprs : List Words) (unit : Nest) (before : Whole) (column : Column)
      → NestNamed unit → ToldNamed (unit_at n exprs unit before column)
  unit_told n exprs unit before column named =
      nested_told (log_ways exprs before column.at) (λ array v p q is. (q, is)) (λ cell v p is. is)
      (λ scalar operator v p q is. (q, is))
      n unit named (record { cells = column.cells; log = [] }) tt

  -- ---- all tuples
  abbrev pub AllNamed : AllTold → Type 0
  AllNamed (AllFine points) = Every LogNamed points
  AllNamed SomeZero = ⊤
  AllNamed SomeWant = ⊤
  AllNamed SomeLost = ⊤

  fine_named : (point : Point) (rest : AllTold) → LogNamed point → AllNamed rest
      → AllNamed (and_fine point rest)
  fine_named point (AllFine points) is all = (is, all)
  fine_named point SomeZero is all = tt
  fine_named point SomeWant is all = tt
  fine_named point SomeLost is all = tt

  zero_named : (rest : AllTold) → AllNamed (and_zero rest)
  zero_named (AllFine points) = tt
  zero_named SomeZero = tt
  zero_named SomeWant = tt
  zero_named SomeLost = tt

  want_named : (rest : AllTold) → AllNamed (and_want rest)
  want_named (AllFine points) = tt
  want_named SomeZero = tt
  want_named SomeWant = tt
  want_named SomeLost = tt

  both_named : (told : Told Point) (rest : AllTold) → ToldNamed told → AllNamed rest
      → AllNamed (both_told told rest)
  both_named (Fine point) rest is all = fine_named point rest is all
  both_named (Zero point) rest is all = zero_named rest
  both_named Wants rest is all = want_named rest
  both_named Lost rest is all = tt

  pub all_named : (told : Column → Told Point) → ((column : Column) → ToldNamed (told column))
      → (columns : List Column) → AllNamed (all_told told columns)
  all_named told each [] = tt
  all_named told each (column ∷ columns) =
      both_named (told column) (all_told told columns) (each column) (all_named told each columns)
