-- Two loops over one slot with checks alone between them.
--
--   ReadsApart   the second one reads no scalar that some loop accumulates
--   PutsAlike    what the second one puts has the flood dimensions of all that the first one puts
use Rattle.std.specs.Prelude.{◌≡◌, ℕ, true, false, List, [], ◌∷◌, ◌++◌, flat_map}
use Rattle.std.specs.List.{AllByRecursion, list_all}
use Rattle.node_form.specs.declared.instructions.Instr.{Instr}
use Rattle.node_form.specs.declared.instructions.Instr.TheVariants as instr
use Rattle.node_form.specs.declared.tables.Tables.{Tables}
use Rattle.code_parts.specs.Stretch.{IsStretch}
use Rattle.code_parts.specs.Uses.{member_words, members_of, put_by, scalars_in, share}
use Rattle.pass_parts.specs.of_fuse_contract.Fusing.{all_accumulated, are_like}
use Rattle.pass_parts.specs.Checks.{is_check}

abbrev pub ReadsApart : Tables → Type 0
ReadsApart tables =
    (before between : List Instr) (slot one other : ℕ) →
    IsStretch tables.code
    (before ++ instr.Loop slot one ∷ (between ++ instr.Loop slot other ∷ [])) →
    AllByRecursion (λ row. is_check row ≡ true) between →
    share (flat_map scalars_in (flat_map (member_words tables) (members_of tables other)))
    (all_accumulated tables) ≡ false

abbrev pub PutsAlike : Tables → Type 0
PutsAlike tables =
    (before between : List Instr) (slot one other : ℕ) →
    IsStretch tables.code
    (before ++ instr.Loop slot one ∷ (between ++ instr.Loop slot other ∷ [])) →
    AllByRecursion (λ row. is_check row ≡ true) between →
    list_all (λ array. list_all (are_like tables array)
    (flat_map put_by (members_of tables other))) (flat_map put_by (members_of tables one)) ≡ true
