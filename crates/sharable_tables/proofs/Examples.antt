-- A loop that reads with a shift what it puts: its tables put what they read so, and settled ones
-- don't. By itself such a loop is shared wrongly: a processor would read what it has just put.
use Rattle.std.proofs.Common.{◌≡◌, refl, ℕ, Bool, true, false, [], ◌∷◌, pos}
use Rattle.std.specs.Prelude.{None}
use Rattle.node_form.specs.declared.arrays.ArrayDim.TheVariants as axis
use Rattle.node_form.specs.declared.arrays.ArrayRow.{ArrayRow}
use Rattle.node_form.specs.declared.instructions.Instr.TheVariants as instr
use Rattle.node_form.specs.declared.members.Member.TheVariants as member
use Rattle.node_form.specs.declared.tables.Tables.{Tables}
use Rattle.node_form.specs.declared.words.ExprOp.TheVariants as word
use Rattle.code_parts.specs.Uses.{put_arrays, share, shifted_arrays}
use Rattle.zpl_claims.specs.Build.{plain_build}
use Rattle.zpl_compile.specs.Compile.{settled}

abbrev stored : ArrayRow
stored = record {
  rank = 1;
  stored = true;
  dims = axis.Range (pos 1) (pos 4) (pos 1) (pos 1)
      ∷ axis.Range (pos 0) (pos 0) (pos 0) (pos 0)
      ∷ axis.Range (pos 0) (pos 0) (pos 0) (pos 0)
      ∷ [];
}

abbrev moving : Tables
moving = record {
  grid = 1 ∷ 0 ∷ 0 ∷ [];
  scalars = 0;
  cells = 0;
  slots = 1 ∷ [];
  arrays = stored ∷ [];
  texts = [];
  exprs = (word.Shifted 0 (pos 1 ∷ pos 0 ∷ pos 0 ∷ []) ∷ []) ∷ [];
  groups = (member.Put 0 0 None 1 ∷ []) ∷ [];
  exchanges = [];
  code = instr.Loop 0 0 ∷ instr.End ∷ [];
}

abbrev puts_shifted : Tables → ℕ → Bool
puts_shifted tables group = share (put_arrays tables group) (shifted_arrays tables group)

before : puts_shifted moving 0 ≡ true
before = refl

abbrev then : Tables
then = settled (plain_build None []) moving

-- one loop puts the values into a temporary, and one reads them there
behind : puts_shifted then 0 ≡ false
behind = refl

behind_too : puts_shifted then 1 ≡ false
behind_too = refl
