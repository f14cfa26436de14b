-- What each row of the tables is written as.
use Rattle.std.specs.Prelude.{ℕ, Bool, true, false, Option, Some, None, unwrap_or, List, [], ◌∷◌, ◌++◌, map, take, slice_get}
use Rattle.std.specs.Option.{option_map}
use Rattle.zpl_nums.specs.declared.ends.Border.{Border}
use Rattle.zpl_nums.specs.declared.ends.Border.TheVariants as border
use Rattle.zpl_nums.specs.declared.ends.TrapKind.{TrapKind}
use Rattle.zpl_nums.specs.declared.ends.TrapKind.TheVariants as trap
use Rattle.listing_lines.specs.of_node_form.declared.arrays.ArrayRow.{ArrayRow}
use Rattle.listing_lines.specs.of_node_form.declared.arrays.ArrayDim.{ArrayDim}
use Rattle.listing_lines.specs.of_node_form.declared.arrays.Item.{Item}
use Rattle.listing_lines.specs.of_node_form.declared.instructions.Instr.{Instr}
use Rattle.listing_lines.specs.of_node_form.declared.instructions.Instr.TheVariants as instr
use Rattle.listing_lines.specs.of_node_form.declared.instructions.RegionForm.{RegionForm}
use Rattle.listing_lines.specs.of_node_form.declared.instructions.RegionForm.TheVariants as form
use Rattle.listing_lines.specs.of_node_form.declared.instructions.SameKind.{SameKind}
use Rattle.listing_lines.specs.of_node_form.declared.instructions.SameKind.TheVariants as same
use Rattle.listing_lines.specs.of_node_form.declared.members.Member.{Member}
use Rattle.listing_lines.specs.of_node_form.declared.members.Member.TheVariants as member
use Rattle.listing_lines.specs.of_node_form.declared.tables.Tables.{Tables}
use Rattle.listing_lines.specs.of_node_form.declared.words.ExprOp.{ExprOp}
use Rattle.listing_lines.specs.of_node_form.declared.words.ExprOp.TheVariants as word
use Rattle.listing_lines.specs.declared.fields.Field.TheVariants as field
use Rattle.listing_lines.specs.declared.keywords.Keyword.{Keyword}
use Rattle.listing_lines.specs.declared.keywords.Keyword.TheVariants as key
use Rattle.listing_lines.specs.declared.lines.Line.{Line}
use Rattle.listing_lines.specs.declared.names.Name.{Name}
use Rattle.listing_lines.specs.declared.names.Name.TheVariants as name
use Rattle.listing_rows.specs.declared.fields.Said.{Said}
use Rattle.listing_rows.specs.declared.fields.Said.TheVariants.{Number, Mask, Vector, Called, Bounds, Made, Stored, Hidden, Word}
use Rattle.listing_rows.specs.Fields.{fields_of, fold_name}

abbrev pub line_of : Keyword → List Said → Line
line_of keyword said = record { keyword = keyword; fields = fields_of said }

-- ---- ranks
-- the rank of a slot, and that of an array
abbrev pub slot_rank : Tables → ℕ → ℕ
slot_rank tables slot = unwrap_or (slice_get tables.slots slot) 0

abbrev pub array_rank : Tables → ℕ → ℕ
array_rank tables array = unwrap_or (option_map (λ row. row.rank) (slice_get tables.arrays array)) 0

-- ---- arrays, texts and expressions
abbrev pub array_said : Bool → List ArrayDim → List Said
array_said true dims = map Stored dims
array_said false dims = map Hidden dims

abbrev pub array_line : ArrayRow → Line
array_line row = line_of key.Array (array_said row.stored (take row.rank row.dims))

abbrev pub text_line : List ℕ → Line
text_line bytes = record { keyword = key.Text; fields = field.Bytes bytes ∷ [] }

-- the rank of the vector in a word
abbrev pub word_rank : Tables → ExprOp → ℕ
word_rank tables (word.Shifted array shift) = array_rank tables array
word_rank tables other = 0

abbrev pub expr_line : Tables → List ExprOp → Line
expr_line tables words = line_of key.Expr (map (λ word. Word (word_rank tables word) word) words)

-- ---- groups
abbrev pub member_line : Member → Line
member_line (member.Put array expr mask line) = line_of key.Put (Number array ∷ Number expr ∷ Mask mask ∷ Number line ∷ [])
member_line (member.Cell cell expr mask line) = line_of key.Cell (Number cell ∷ Number expr ∷ Mask mask ∷ Number line ∷ [])
member_line (member.Acc scalar fold expr mask line) =
    line_of key.Acc (Number scalar ∷ Called (fold_name fold) ∷ Number expr ∷ Mask mask ∷ Number line ∷ [])
member_line (member.OpenIf expr mask line) = line_of key.If (Number expr ∷ Mask mask ∷ Number line ∷ [])
member_line member.Otherwise = line_of key.Else []
member_line member.CloseIf = line_of key.Fi []
member_line (member.OpenWhile expr mask line) = line_of key.While (Number expr ∷ Mask mask ∷ Number line ∷ [])
member_line member.CloseWhile = line_of key.Od []
member_line (member.OpenRepeat mask line) = line_of key.Repeat (Mask mask ∷ Number line ∷ [])
member_line (member.Until expr) = line_of key.Until (Number expr ∷ [])

abbrev pub group_lines : List Member → List Line
group_lines members = line_of key.Group [] ∷ map member_line members

-- ---- exchanges
abbrev pub item_line : Tables → Item → Line
item_line tables item = line_of key.Item (Number item.array ∷ Number item.slot ∷ Vector (slot_rank tables item.slot) item.shift ∷ [])

abbrev pub exchange_lines : Tables → List Item → List Line
exchange_lines tables items = line_of key.Exchange [] ∷ map (item_line tables) items

-- ---- instructions
abbrev pub form_keyword : RegionForm → Keyword
form_keyword form.Of = key.Of
form_keyword form.Inside = key.In
form_keyword form.At = key.At
form_keyword form.By = key.By

abbrev pub edge_keyword : Border → Keyword
edge_keyword border.Wrap = key.Wrap
edge_keyword border.Reflect = key.Reflect

abbrev pub same_name : SameKind → Name
same_name same.Part = name.Part
same_name same.Flood = name.Flood

abbrev pub shown_name : Bool → Name
shown_name true = name.Truth
shown_name false = name.Number

abbrev pub trap_number : TrapKind → ℕ
trap_number trap.DivideByZero = 1
trap_number trap.OutsideStorage = 2
trap_number trap.RegionLimit = 3
trap_number trap.RegionMismatch = 4

-- the arrays that are there
abbrev pub present : List (Option ℕ) → List Said
present [] = []
present (None ∷ arrays) = present arrays
present (Some array ∷ arrays) = Number array ∷ present arrays

abbrev pub instr_line : Tables → Instr → Line
instr_line tables (instr.Set scalar expr line) = line_of key.Set (Number scalar ∷ Number expr ∷ Number line ∷ [])
instr_line tables (instr.Fix slot region) = line_of key.Fix (Number slot ∷ map Bounds (take region.rank region.dims))
instr_line tables (instr.Dims slot parts line) =
    line_of key.Dims (Number slot ∷ (map Made (take (slot_rank tables slot) parts) ++ Number line ∷ []))
instr_line tables (instr.Formed form slot from shift line) =
    line_of (form_keyword form) (Number slot ∷ Number from ∷ Vector (slot_rank tables slot) shift ∷ Number line ∷ [])
instr_line tables (instr.Need slot array shift line) =
    line_of key.Need (Number slot ∷ Number array ∷ Vector (slot_rank tables slot) shift ∷ Number line ∷ [])
instr_line tables (instr.Same target source kind line) =
    line_of key.Same (Number target ∷ Number source ∷ Called (same_name kind) ∷ Number line ∷ [])
instr_line tables (instr.Fits slot shift line) = line_of key.Fits (Number slot ∷ Vector (slot_rank tables slot) shift ∷ Number line ∷ [])
instr_line tables (instr.Room array slot) = line_of key.Room (Number array ∷ Number slot ∷ [])
instr_line tables (instr.Clear array) = line_of key.Clear (Number array ∷ [])
instr_line tables (instr.Loop slot group) = line_of key.Loop (Number slot ∷ Number group ∷ [])
instr_line tables (instr.Start exchange) = line_of key.Start (Number exchange ∷ [])
instr_line tables (instr.Finish exchange) = line_of key.Finish (Number exchange ∷ [])
instr_line tables (instr.Edge kind array slot shift) =
    line_of (edge_keyword kind) (Number array ∷ Number slot ∷ Vector (slot_rank tables slot) shift ∷ [])
instr_line tables (instr.Flood array target from source) =
    line_of key.Flood (Number array ∷ Number target ∷ Number from ∷ Number source ∷ [])
instr_line tables (instr.Part array target fold from source) =
    line_of key.Part (Number array ∷ Number target ∷ Called (fold_name fold) ∷ Number from ∷ Number source ∷ [])
instr_line tables (instr.Scan array slot fold along from mask) =
    line_of key.Scan (Number array ∷ Number slot ∷ Called (fold_name fold) ∷ Number along ∷ Number from ∷ Mask mask ∷ [])
instr_line tables (instr.Vote group) = line_of key.Vote (Number group ∷ [])
instr_line tables (instr.Fold scalar fold) = line_of key.Fold (Number scalar ∷ Called (fold_name fold) ∷ [])
instr_line tables (instr.TreeVote group) = line_of key.TreeVote (Number group ∷ [])
instr_line tables (instr.TreeFold scalar fold) = line_of key.TreeFold (Number scalar ∷ Called (fold_name fold) ∷ [])
instr_line tables (instr.Print text) = line_of key.Print (Number text ∷ [])
instr_line tables (instr.Number expr) = line_of key.Number (Number expr ∷ [])
instr_line tables (instr.Truth expr) = line_of key.Truth (Number expr ∷ [])
instr_line tables (instr.Gather truth array slot) = line_of key.Gather (Called (shown_name truth) ∷ Number array ∷ Number slot ∷ [])
instr_line tables (instr.Jump goal) = line_of key.Jump (Number goal ∷ [])
instr_line tables (instr.Unless expr goal line) = line_of key.Unless (Number expr ∷ Number goal ∷ Number line ∷ [])
instr_line tables (instr.Trap kind line) = line_of key.Trap (Number (trap_number kind) ∷ Number line ∷ [])
instr_line tables instr.End = line_of key.End []
instr_line tables (instr.Remap array slot from parts) =
    line_of key.Remap (Number array ∷ Number slot ∷ Number from ∷ present parts)
