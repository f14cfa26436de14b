-- Lines, computed.
use Rattle.std.proofs.Common.{◌≡◌, [], ◌∷◌, pos, negsuc, codes, refl}
use Rattle.std.specs.Fmt.{digits}
use Rattle.zpl_region.specs.declared.dims.Dim.TheVariants as dim
use Rattle.save_lines.specs.declared.lines.BoxDim.TheVariants.{Range, Star}
use Rattle.save_lines.specs.declared.lines.EndWord.{EndWord}
use Rattle.save_lines.specs.declared.lines.EndWord.TheVariants.{Going, Done, Trap}
use Rattle.save_lines.specs.declared.lines.ProcRow.{ProcRow}
use Rattle.save_lines.specs.declared.lines.SavedLine.TheVariants.{Proc, Scalars, Slot, Cells, Store, Kept, Msg}
use Rattle.save_lines.specs.Line.{line_text, saved_text}

abbrev row : EndWord → ProcRow
row end = record {
  processor = pos 3;
  at = pos 12;
  made = pos 0;
  index = pos 7;
  member = pos 2;
  flag = negsuc 0;
  end = end;
}

going : line_text (Proc (row Going)) ≡ codes "proc 3 at 12 made 0 index 7 member 2 flag -1 end -"
unfolding digits
going = refl

done : line_text (Proc (row Done)) ≡ codes "proc 3 at 12 made 0 index 7 member 2 flag -1 end done"
unfolding digits
done = refl

trapped : line_text (Proc (row (Trap (pos 1) (pos 9)))) ≡ codes "proc 3 at 12 made 0 index 7 member 2 flag -1 end trap:1:9"
unfolding digits
trapped = refl

slot : line_text (Slot (dim.Range (pos 1) (pos 8) (pos 1) (pos 1) ∷ dim.Flood ∷ [])) ≡ codes "slot 1..8:1:1 *"
unfolding digits
slot = refl

store : line_text (Store (Range (pos 1) (pos 2) ∷ Star ∷ []) (pos 5 ∷ negsuc 5 ∷ [])) ≡ codes "store 1..2 * : 5 -6"
unfolding digits
store = refl

empty_store : line_text (Store (Range (pos 1) (pos 0) ∷ []) []) ≡ codes "store 1..0 :"
unfolding digits
empty_store = refl

kept : line_text (Kept (pos 2) (pos 40 ∷ [])) ≡ codes "kept 2 40"
unfolding digits
kept = refl

lines : saved_text (Scalars [] ∷ Cells (pos 1 ∷ pos 2 ∷ []) ∷ Msg (pos 0) (pos 1) (pos 0 ∷ []) ∷ []) ≡ codes "scalars\ncells 1 2\nmsg 0 1 0\n"
unfolding digits
lines = refl
