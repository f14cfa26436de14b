-- What a grid is written as.
--
--   local_lines     the lines of a processor's state
--   message_lines   those of the messages that it sent and that are on their way
--   save_text       the bytes: the counts, the program's listing, and each processor's lines
use Rattle.std.specs.Prelude.{◌==◌, ℕ, ℤ, pos, negsuc, find, Option, Some, None, List, [], ◌∷◌, ◌++◌, codes, map, take, slice_get}
use Rattle.std.specs.Fmt.{decimal}
use Rattle.std.specs.List.{flat_map}
use Rattle.zpl_nums.specs.declared.ends.End.{End}
use Rattle.zpl_nums.specs.declared.ends.End.TheVariants as ending
use Rattle.zpl_region.specs.declared.dims.Dim.{Dim}
use Rattle.zpl_region.specs.declared.dims.Dim.TheVariants as dim
use Rattle.zpl_region.specs.declared.regions.Region.{Region}
use Rattle.zpl_arrays.specs.Array.{Array}
use Rattle.grid_links.specs.declared.messages.Message.{Message}
use Rattle.grid_links.specs.Links.{link_of}
use Rattle.node_form.specs.declared.tables.Tables.{Tables}
use Rattle.grid_meaning.specs.Grid.{Grid}
use Rattle.grid_meaning.specs.Local.{Local, processor_numbers, processors}
use Rattle.listing_rows.specs.Listing.{listing_of}
use Rattle.listing_rows.specs.Rows.{trap_number}
use Rattle.save_lines.specs.declared.lines.BoxDim.{BoxDim}
use Rattle.save_lines.specs.declared.lines.BoxDim.TheVariants.{Range, Star}
use Rattle.save_lines.specs.declared.lines.EndWord.{EndWord}
use Rattle.save_lines.specs.declared.lines.EndWord.TheVariants.{Going, Done, Trap}
use Rattle.save_lines.specs.declared.lines.ProcRow.{ProcRow}
use Rattle.save_lines.specs.declared.lines.SavedLine.{SavedLine}
use Rattle.save_lines.specs.declared.lines.SavedLine.TheVariants.{Proc, Scalars, Slot, Cells, Store, Kept, Msg}
use Rattle.save_lines.specs.Line.{saved_text}

-- ---- a processor
-- no processor ends in wanting more: `-` stands in for that
abbrev pub end_of : Option End → EndWord
end_of None = Going
end_of (Some ending.More) = Going
end_of (Some ending.Done) = Done
end_of (Some (ending.Trap kind line)) = Trap (pos (trap_number kind)) (pos line)

-- the member, or -1
abbrev pub flag_number : Option ℕ → ℤ
flag_number None = negsuc 0
flag_number (Some member) = pos member

abbrev pub proc_row : ℕ → Local → ProcRow
proc_row p local = record {
  processor = pos p;
  at = pos local.at;
  made = pos local.made;
  index = pos local.index;
  member = pos local.member;
  flag = flag_number local.flag;
  end = end_of local.ended;
}

abbrev pub slot_line : Region → SavedLine
slot_line region = Slot (take region.rank region.dims)

-- steps in a box are 1
abbrev pub box_dim : Dim → BoxDim
box_dim (dim.Range lo hi step align) = Range lo hi
box_dim dim.Flood = Star

abbrev pub store_line : Array → SavedLine
store_line store = Store (map box_dim (take store.storage.rank store.storage.dims)) store.values

-- the line of what was found, if anything was
abbrev pub found_lines : {X : Type 0} → (X → SavedLine) → Option X → List SavedLine
found_lines line_of None = []
found_lines line_of (Some x) = line_of x ∷ []

-- words that are kept, with their sender: a line for each sender of some, in ascending order
abbrev pub kept_line : ℕ × List ℤ → SavedLine
kept_line entry = Kept (pos entry.0) entry.1

abbrev pub kept_from : ℕ → Option (ℕ × List ℤ) → List SavedLine
kept_from q found = found_lines (λ entry. kept_line (q, entry.1)) found

abbrev pub kept_lines : Tables → List (ℕ × List ℤ) → List SavedLine
kept_lines code kept = flat_map (λ q. kept_from q (find (λ entry. entry.0 == q) kept)) (processor_numbers code)

abbrev pub local_lines : Tables → ℕ → Local → List SavedLine
local_lines code p local =
    Proc (proc_row p local) ∷ Scalars local.scalars
    ∷ (map slot_line local.slots
    ++ (Cells local.cells ∷ (map store_line local.stores ++ kept_lines code local.kept)))

-- ---- messages
abbrev pub message_line : ℕ → Message → SavedLine
message_line to message = Msg (pos to) (pos message.tag) message.words

-- by their receivers in ascending order, the oldest first. None is for the processor itself
abbrev pub message_lines : Tables → List (List Message) → ℕ → List SavedLine
message_lines code links p =
    flat_map (λ q. map (message_line q) (link_of (processors code) links p q)) (processor_numbers code)

-- ---- all processors
abbrev pub state_lines : Tables → List (List Message) → ℕ → Option Local → List SavedLine
state_lines code links p None = []
state_lines code links p (Some local) = local_lines code p local ++ message_lines code links p

abbrev pub grid_lines : Tables → Grid → List SavedLine
grid_lines code grid =
    flat_map (λ p. state_lines code grid.world.links p (slice_get grid.world.locals p)) (processor_numbers code)

-- ---- the text
abbrev pub version_text : List ℕ
version_text = codes "zplsave 1\n"

abbrev pub counts_text : ℕ → ℕ → ℕ → List ℕ
counts_text turns sends words =
    codes "counts " ++ (decimal turns ++ (codes " " ++ (decimal sends ++ (codes " " ++ (decimal words ++ codes "\n")))))

unfoldable pub save_text : Tables → Grid → List ℕ
save_text code grid =
    version_text
    ++ (counts_text grid.turns grid.sends grid.words ++ (listing_of code ++ saved_text (grid_lines code grid)))
