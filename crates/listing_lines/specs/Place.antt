-- Which line may stand behind which.
use Rattle.std.specs.Prelude.{Bool, true, false, Option, Some, None, option_and_then, List, [], ◌∷◌}
use Rattle.std.specs.Option.{option_map}
use Rattle.listing_lines.specs.declared.keywords.Keyword.{Keyword}
use Rattle.listing_lines.specs.declared.keywords.Keyword.TheVariants as key
use Rattle.listing_lines.specs.declared.lines.Line.{Line}
use Rattle.listing_lines.specs.declared.places.Opening.{Opening}
use Rattle.listing_lines.specs.declared.places.Opening.TheVariants.{If, Else, While, Repeat}
use Rattle.listing_lines.specs.declared.places.Part.{Part}
use Rattle.listing_lines.specs.declared.places.Part.TheVariants as part
use Rattle.listing_lines.specs.declared.places.Role.{Role}
use Rattle.listing_lines.specs.declared.places.Role.TheVariants as role
use Rattle.listing_lines.specs.Form.{has_form}

-- ---- parts
-- what part a line belongs to
abbrev pub role_of : Keyword → Role
role_of key.Version = role.Version
role_of key.Grid = role.Grid
role_of key.Scalars = role.Scalars
role_of key.Slots = role.Slots
role_of key.Cells = role.Cells
role_of key.Array = role.Array
role_of key.Text = role.Text
role_of key.Expr = role.Expr
role_of key.Group = role.Group
role_of key.Put = role.Member
role_of key.Cell = role.Member
role_of key.Acc = role.Member
role_of key.If = role.Member
role_of key.Else = role.Member
role_of key.Fi = role.Member
role_of key.While = role.Member
role_of key.Od = role.Member
role_of key.Repeat = role.Member
role_of key.Until = role.Member
role_of key.Exchange = role.Exchange
role_of key.Item = role.Item
role_of key.Code = role.Code
role_of keyword = role.Instruction

-- what comes behind a line of this role; nothing where it can't stand here
abbrev pub part_behind : Part → Role → Option Part
part_behind part.Version role.Version = Some part.Grid
part_behind part.Grid role.Grid = Some part.Scalars
part_behind part.Scalars role.Scalars = Some part.Slots
part_behind part.Slots role.Slots = Some part.Cells
part_behind part.Cells role.Cells = Some part.Arrays
part_behind part.Arrays role.Array = Some part.Arrays
part_behind part.Arrays role.Text = Some part.Texts
part_behind part.Arrays role.Expr = Some part.Exprs
part_behind part.Arrays role.Group = Some part.Groups
part_behind part.Arrays role.Exchange = Some part.Exchanges
part_behind part.Arrays role.Code = Some part.Code
part_behind part.Texts role.Text = Some part.Texts
part_behind part.Texts role.Expr = Some part.Exprs
part_behind part.Texts role.Group = Some part.Groups
part_behind part.Texts role.Exchange = Some part.Exchanges
part_behind part.Texts role.Code = Some part.Code
part_behind part.Exprs role.Expr = Some part.Exprs
part_behind part.Exprs role.Group = Some part.Groups
part_behind part.Exprs role.Exchange = Some part.Exchanges
part_behind part.Exprs role.Code = Some part.Code
part_behind part.Groups role.Member = Some part.Groups
part_behind part.Groups role.Group = Some part.Groups
part_behind part.Groups role.Exchange = Some part.Exchanges
part_behind part.Groups role.Code = Some part.Code
part_behind part.Exchanges role.Item = Some part.Exchanges
part_behind part.Exchanges role.Exchange = Some part.Exchanges
part_behind part.Exchanges role.Code = Some part.Code
part_behind part.Code role.Instruction = Some part.Code
part_behind other role = None

-- ---- openings
-- what a line makes of the members that are open, the innermost first; nothing where it can't stand
-- here
abbrev pub else_begun : List Opening → Option (List Opening)
else_begun (If ∷ openings) = Some (Else ∷ openings)
else_begun openings = None

abbrev pub if_closed : List Opening → Option (List Opening)
if_closed (If ∷ openings) = Some openings
if_closed (Else ∷ openings) = Some openings
if_closed openings = None

abbrev pub while_closed : List Opening → Option (List Opening)
while_closed (While ∷ openings) = Some openings
while_closed openings = None

abbrev pub repeat_closed : List Opening → Option (List Opening)
repeat_closed (Repeat ∷ openings) = Some openings
repeat_closed openings = None

-- nothing may be open behind a group
abbrev pub all_closed : List Opening → Option (List Opening)
all_closed [] = Some []
all_closed (first ∷ openings) = None

abbrev pub open_behind : List Opening → Keyword → Option (List Opening)
open_behind openings key.If = Some (If ∷ openings)
open_behind openings key.Else = else_begun openings
open_behind openings key.Fi = if_closed openings
open_behind openings key.While = Some (While ∷ openings)
open_behind openings key.Od = while_closed openings
open_behind openings key.Repeat = Some (Repeat ∷ openings)
open_behind openings key.Until = repeat_closed openings
open_behind openings key.Group = all_closed openings
open_behind openings key.Exchange = all_closed openings
open_behind openings key.Code = all_closed openings
open_behind openings keyword = Some openings

-- ---- places
pub record Place : Type 0 where
  pub part : Part
  pub openings : List Opening

-- where a listing begins
abbrev pub start : Place
start = record { part = part.Version; openings = [] }

-- where nothing more need come
abbrev pub is_end : Part → Bool
is_end part.Code = true
is_end other = false

abbrev pub with_part : Option (List Opening) → Part → Option Place
with_part openings part = option_map (λ list. record { part = part; openings = list }) openings

-- the place behind a line; nothing where the line has no form, or can't stand here
abbrev pub formed_behind : Place → Line → Bool → Option Place
formed_behind place line true =
    option_and_then (with_part (open_behind place.openings line.keyword)) (part_behind place.part (role_of line.keyword))
formed_behind place line false = None

abbrev pub place_behind : Place → Line → Option Place
place_behind place line = formed_behind place line (has_form line)

-- the place behind lines
abbrev pub place_after : Place → List Line → Option Place
place_after place [] = Some place
place_after place (line ∷ lines) = option_and_then (λ next. place_after next lines) (place_behind place line)
