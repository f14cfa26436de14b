-- The definitions, computed on a small program.
use Rattle.std.proofs.Common.{◌≡◌, true, [], ◌∷◌, pos, negsuc, refl}
use Rattle.std.specs.Prelude.{Some, None, codes}
use Rattle.std.specs.Fmt.{digits}
use Rattle.hex.specs.Hex.{encode_with}
use Rattle.zpl_nums.specs.declared.folds.Fold.TheVariants as fold
use Rattle.zpl_nums.specs.declared.operators.Op.TheVariants as op
use Rattle.zpl_region.specs.declared.dims.Dim.TheVariants as dim
use Rattle.zpl_region.specs.Region.{padding}
use Rattle.listing_lines.specs.of_node_form.declared.arrays.ArrayDim.TheVariants as axis
use Rattle.listing_lines.specs.of_node_form.declared.instructions.DimRow.TheVariants.{Span, Star, Copied}
use Rattle.listing_lines.specs.of_node_form.declared.instructions.Instr.TheVariants as instr
use Rattle.listing_lines.specs.of_node_form.declared.members.Member.TheVariants as member
use Rattle.listing_lines.specs.of_node_form.declared.tables.Tables.{Tables}
use Rattle.listing_lines.specs.of_node_form.declared.words.ExprOp.TheVariants.{Const, Scalar, Shifted, Pair}
use Rattle.listing_lines.specs.Line.{line_text}
use Rattle.listing_rows.specs.Listing.{lines_of, listing_of}
use Rattle.listing_rows.specs.Rows.{array_line, expr_line, instr_line, member_line}

-- a program that prints a text and a sum
abbrev hi : Tables
hi = record {
  grid = 2 ∷ 0 ∷ 0 ∷ [];
  scalars = 1;
  cells = 0;
  slots = [];
  arrays = [];
  texts = (104 ∷ 105 ∷ []) ∷ [];
  exprs = (Const (pos 20) ∷ []) ∷ (Scalar 0 ∷ Const (pos 1) ∷ Pair op.Add ∷ []) ∷ [];
  groups = [];
  exchanges = [];
  code = instr.Set 0 0 1 ∷ instr.Print 0 ∷ instr.Number 1 ∷ instr.End ∷ [];
}

hi_listed : listing_of hi ≡ codes "zplnode 1\ngrid 2\nscalars 1\nslots\ncells 0\ntext 6869\nexpr n20\nexpr s0 n1 +\ncode\nset 0 0 1\nprint 0\nnumber 1\nend\n"
unfolding listing_of lines_of digits encode_with
hi_listed = refl

-- ---- rows, with a slot and an array of rank 2
abbrev planes : Tables
planes = record hi {
  slots = 2 ∷ [];
  arrays = record { rank = 2; stored = true; dims = axis.Range (pos 0) (pos 9) (pos 1) (pos 2) ∷ axis.Star ∷ axis.Range (pos 0) (pos 0) (pos 0) (pos 0) ∷ [] } ∷ [];
}

array : line_text (array_line (record { rank = 2; stored = true; dims = axis.Range (pos 0) (pos 9) (pos 1) (pos 2) ∷ axis.Star ∷ axis.Star ∷ [] })) ≡ codes "array 0..9:1,2 *"
unfolding digits
array = refl

shifted : line_text (expr_line planes (Shifted 0 (negsuc 0 ∷ pos 0 ∷ pos 0 ∷ []) ∷ [])) ≡ codes "expr a0@-1,0"
unfolding digits
shifted = refl

dims : line_text (instr_line planes (instr.Dims 0 (Span 1 2 ∷ Copied 0 ∷ Star ∷ []) 7)) ≡ codes "dims 0 1..2 ^0 7"
unfolding digits
dims = refl

fixed : line_text (instr_line planes (instr.Fix 0 (record { rank = 2; dims = dim.Range (pos 1) (pos 8) (pos 1) (pos 1) ∷ dim.Flood ∷ padding ∷ [] }))) ≡ codes "fix 0 1..8:1:1 *"
unfolding digits
fixed = refl

remapped : line_text (instr_line planes (instr.Remap 3 0 1 (Some 4 ∷ Some 5 ∷ None ∷ []))) ≡ codes "remap 3 0 1 4 5"
unfolding digits
remapped = refl

accumulated : line_text (member_line (member.Acc 0 fold.Max 4 None 17)) ≡ codes "acc 0 max 4 - 17"
unfolding digits
accumulated = refl
