-- Names of rows, and references that are known, computed.
use Rattle.std.proofs.Common.{◌≡◌, refl, true, false, [], ◌∷◌}
use Rattle.std.specs.Prelude.{None}
use Rattle.zpl_nums.specs.declared.folds.Fold.TheVariants as fold
use Rattle.node_form.specs.declared.words.ExprOp.TheVariants as word
use Rattle.node_form.specs.declared.members.Member.TheVariants as member
use Rattle.node_form.specs.declared.instructions.Instr.TheVariants as instr
use Rattle.node_form.specs.declared.tables.Tables.{Tables}
use Rattle.node_form.specs.Value.{unmoved}
use Rattle.pass_sizes.specs.of_fuse_contract.Fusing.{reference}
use Rattle.pass_parts.specs.Parts.{known_after, names_alone}

-- a group that puts array 0 to what array 1 has
abbrev tables : Tables
tables = record {
  grid = 1 ∷ 0 ∷ 0 ∷ [];
  scalars = 0;
  slots = 2 ∷ 2 ∷ [];
  cells = 0;
  arrays = [];
  texts = [];
  exprs = (word.Here 1 ∷ []) ∷ [];
  groups = (member.Put 0 0 None 1 ∷ []) ∷ [];
  exchanges = [];
  code = [];
}

-- ---- a scan names its arrays by itself, and a loop and a `clear` don't
scan_names : names_alone 2 (instr.Scan 1 0 fold.Sum 1 2 None) ≡ true
scan_names = refl

loop_names_none : names_alone 0 (instr.Loop 0 0) ≡ false
loop_names_none = refl

clear_names_none : names_alone 0 (instr.Clear 0) ≡ false
clear_names_none = refl

-- ---- behind a loop its references are known, until its slot is written
known_behind_loop : known_after tables (instr.Loop 0 0 ∷ [])
    ≡ reference 0 0 unmoved ∷ reference 0 1 unmoved ∷ []
known_behind_loop = refl

known_behind_need : known_after tables (instr.Need 1 0 unmoved 3 ∷ instr.Loop 0 0 ∷ [])
    ≡ reference 0 0 unmoved ∷ reference 0 1 unmoved ∷ reference 1 0 unmoved ∷ []
known_behind_need = refl
