-- Two runs that are cut, and what their grids are written as.
use Rattle.std.proofs.Common.{◌≡◌, ℕ, [], ◌∷◌, None, pos, codes, refl}
use Rattle.std.specs.Fmt.{digits}
use Rattle.std.specs.Int.{int_wrap}
use Rattle.hex.specs.Hex.{encode_with}
use Rattle.zpl_nums.specs.declared.folds.Fold.TheVariants as fold
use Rattle.zpl_nums.specs.declared.operators.Op.TheVariants as op
use Rattle.node_form.specs.declared.tables.Tables.{Tables}
use Rattle.node_form.specs.declared.words.ExprOp.TheVariants.{Const, Scalar, Pair}
use Rattle.node_form.specs.declared.instructions.Instr.TheVariants as instr
use Rattle.grid_meaning.specs.Grid.{Grid, after}
use Rattle.grid_meaning.specs.Order.{given}
use Rattle.listing_rows.specs.Listing.{lines_of, listing_of}
use Rattle.grid_save.specs.Written.{save_text}

-- each of two processors sets a scalar to 20; processor 0 prints `hi` and the scalar plus 1
abbrev greet : Tables
greet = record {
  grid = 2 ∷ 0 ∷ 0 ∷ [];
  scalars = 1;
  cells = 0;
  slots = [];
  arrays = [];
  texts = codes "hi" ∷ [];
  exprs = (Const (pos 20) ∷ []) ∷ (Scalar 0 ∷ Const (pos 1) ∷ Pair op.Add ∷ []) ∷ [];
  groups = [];
  exchanges = [];
  code = instr.Set 0 0 1 ∷ instr.Print 0 ∷ instr.Number 1 ∷ instr.End ∷ [];
}

-- two processors add up a scalar
abbrev sum : Tables
sum = record {
  grid = 2 ∷ 0 ∷ 0 ∷ [];
  scalars = 1;
  cells = 0;
  slots = [];
  arrays = [];
  texts = [];
  exprs = [];
  groups = [];
  exchanges = [];
  code = instr.Fold 0 fold.Sum ∷ instr.End ∷ [];
}

-- so many turns of the two in alternation
abbrev cut : Tables → ℕ → Grid
cut code count = after code None (given [] 2 count)

greet_saved : save_text greet (cut greet 5) ≡ codes "zplsave 1\ncounts 5 0 0\nzplnode 1\ngrid 2\nscalars 1\nslots\ncells 0\ntext 6869\nexpr n20\nexpr s0 n1 +\ncode\nset 0 0 1\nprint 0\nnumber 1\nend\nproc 0 at 3 made 0 index 0 member 0 flag -1 end -\nscalars 20\ncells\nproc 1 at 2 made 0 index 0 member 0 flag -1 end -\nscalars 20\ncells\n"
unfolding save_text listing_of lines_of digits encode_with int_wrap
greet_saved = refl

-- processor 1 has sent its word, and waits
sum_saved : save_text sum (cut sum 2) ≡ codes "zplsave 1\ncounts 2 1 1\nzplnode 1\ngrid 2\nscalars 1\nslots\ncells 0\ncode\nfold 0 sum\nend\nproc 0 at 0 made 0 index 0 member 0 flag -1 end -\nscalars 0\ncells\nproc 1 at 0 made 1 index 0 member 0 flag -1 end -\nscalars 0\ncells\nmsg 0 1 0\n"
unfolding save_text listing_of lines_of digits encode_with int_wrap
sum_saved = refl
