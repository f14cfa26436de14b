-- How the members of a group open and close.
use Rattle.std.specs.Prelude.{◌≡◌, ℕ, zero, suc, ◌+◌, Bool, true, false, Option, Some, None, List, [], ◌∷◌, ◌++◌, option_and_then}
use Rattle.std.specs.declared.ops.ControlFlow.{ControlFlow}
use Rattle.std.specs.declared.ops.ControlFlow.TheVariants.{Continue, Break}
use Rattle.zpl_arrays.specs.of_zpl_nums.declared.folds.Fold.{Fold}
use Rattle.node_form.specs.declared.members.Member.{Member}
use Rattle.node_form.specs.declared.members.Member.TheVariants.{Put, Cell, Acc, OpenIf, Otherwise, CloseIf, OpenWhile, CloseWhile, OpenRepeat, Until}
use Rattle.node_form.specs.declared.nests.Opening.{Opening}
use Rattle.node_form.specs.declared.nests.Opening.TheVariants.{If, Else, While, Repeat}

-- Members one after another, as a tree: `after` are those behind the first one and what it
-- encloses.
pub data Nest : Type 0 where
  Nothing : Nest
  Putting : (array expr : ℕ) (mask : Option ℕ) (line : ℕ) (after : Nest) → Nest
  Keeping : (cell expr : ℕ) (mask : Option ℕ) (line : ℕ) (after : Nest) → Nest
  Joining : (scalar : ℕ) (fold : Fold) (expr : ℕ) (mask : Option ℕ) (line : ℕ) (after : Nest) → Nest
  Choosing : (expr : ℕ) (mask : Option ℕ) (line : ℕ) (body after : Nest) → Nest
  ChoosingElse : (expr : ℕ) (mask : Option ℕ) (line : ℕ) (body otherwise after : Nest) → Nest
  Looping : (expr : ℕ) (mask : Option ℕ) (line : ℕ) (body after : Nest) → Nest
  Repeating : (mask : Option ℕ) (line : ℕ) (body : Nest) (until : ℕ) (after : Nest) → Nest

-- the members that a tree is spelled as
abbrev pub members_of : Nest → List Member
members_of Nothing = []
members_of (Putting array expr mask line after) = Put array expr mask line ∷ members_of after
members_of (Keeping cell expr mask line after) = Cell cell expr mask line ∷ members_of after
members_of (Joining scalar fold expr mask line after) = Acc scalar fold expr mask line ∷ members_of after
members_of (Choosing expr mask line body after) = OpenIf expr mask line ∷ (members_of body ++ CloseIf ∷ members_of after)
members_of (ChoosingElse expr mask line body otherwise after) =
    OpenIf expr mask line ∷ (members_of body ++ Otherwise ∷ (members_of otherwise ++ CloseIf ∷ members_of after))
members_of (Looping expr mask line body after) = OpenWhile expr mask line ∷ (members_of body ++ CloseWhile ∷ members_of after)
members_of (Repeating mask line body until after) =
    OpenRepeat mask line ∷ (members_of body ++ Until until ∷ members_of after)

-- the members are those of a tree
pub record IsNest (members : List Member) : Type 0 where
  pub tree : Nest
  pub spelled : members_of tree ≡ members

-- ---- what is open
-- what the members that close or go on make of the openings that are open, the innermost first;
-- nothing where another one is the innermost
abbrev pub else_begun : List Opening → Option (List Opening)
else_begun (If ∷ openings) = Some (Else ∷ openings)
else_begun openings = None

abbrev pub if_closed : List Opening → Option (List Opening)
if_closed (If ∷ openings) = Some openings
if_closed (Else ∷ openings) = Some openings
if_closed openings = None

abbrev pub while_closed : List Opening → Option (List Opening)
while_closed (While ∷ openings) = Some openings
while_closed openings = None

abbrev pub repeat_closed : List Opening → Option (List Opening)
repeat_closed (Repeat ∷ openings) = Some openings
repeat_closed openings = None

-- what a member makes of them
abbrev pub open_behind : List Opening → Member → Option (List Opening)
open_behind openings (Put array expr mask line) = Some openings
open_behind openings (Cell cell expr mask line) = Some openings
open_behind openings (Acc scalar fold expr mask line) = Some openings
open_behind openings (OpenIf expr mask line) = Some (If ∷ openings)
open_behind openings Otherwise = else_begun openings
open_behind openings CloseIf = if_closed openings
open_behind openings (OpenWhile expr mask line) = Some (While ∷ openings)
open_behind openings CloseWhile = while_closed openings
open_behind openings (OpenRepeat mask line) = Some (Repeat ∷ openings)
open_behind openings (Until expr) = repeat_closed openings

-- what members make of them, one after another
abbrev pub opened : List Opening → List Member → Option (List Opening)
opened openings [] = Some openings
opened openings (member ∷ members) = option_and_then (λ next. opened next members) (open_behind openings member)

-- Where an opening at a depth stands among those in front of a member; or that the member opened
-- it. Depths count from the innermost.
abbrev pub found : Opening → ℕ → ControlFlow Opening ℕ
found opening zero = Break opening
found opening (suc depth) = Continue depth

abbrev pub else_found : ℕ → ControlFlow Opening ℕ
else_found zero = Break Else
else_found (suc depth) = Continue (suc depth)

abbrev pub back_over : Member → ℕ → ControlFlow Opening ℕ
back_over (Put array expr mask line) depth = Continue depth
back_over (Cell cell expr mask line) depth = Continue depth
back_over (Acc scalar fold expr mask line) depth = Continue depth
back_over (OpenIf expr mask line) depth = found If depth
back_over Otherwise depth = else_found depth
back_over CloseIf depth = Continue (depth + 1)
back_over (OpenWhile expr mask line) depth = found While depth
back_over CloseWhile depth = Continue (depth + 1)
back_over (OpenRepeat mask line) depth = found Repeat depth
back_over (Until expr) depth = Continue (depth + 1)

-- the member closes an opening, or goes on with one
abbrev pub is_closing : Member → Bool
is_closing (Put array expr mask line) = false
is_closing (Cell cell expr mask line) = false
is_closing (Acc scalar fold expr mask line) = false
is_closing (OpenIf expr mask line) = false
is_closing Otherwise = true
is_closing CloseIf = true
is_closing (OpenWhile expr mask line) = false
is_closing CloseWhile = true
is_closing (OpenRepeat mask line) = false
is_closing (Until expr) = true

-- whether a member may stand where this opening is the innermost
abbrev pub begins_else : Option Opening → Bool
begins_else (Some If) = true
begins_else innermost = false

abbrev pub closes_if : Option Opening → Bool
closes_if (Some If) = true
closes_if (Some Else) = true
closes_if innermost = false

abbrev pub closes_while : Option Opening → Bool
closes_while (Some While) = true
closes_while innermost = false

abbrev pub closes_repeat : Option Opening → Bool
closes_repeat (Some Repeat) = true
closes_repeat innermost = false

abbrev pub may_follow : Option Opening → Member → Bool
may_follow innermost (Put array expr mask line) = true
may_follow innermost (Cell cell expr mask line) = true
may_follow innermost (Acc scalar fold expr mask line) = true
may_follow innermost (OpenIf expr mask line) = true
may_follow innermost Otherwise = begins_else innermost
may_follow innermost CloseIf = closes_if innermost
may_follow innermost (OpenWhile expr mask line) = true
may_follow innermost CloseWhile = closes_while innermost
may_follow innermost (OpenRepeat mask line) = true
may_follow innermost (Until expr) = closes_repeat innermost
