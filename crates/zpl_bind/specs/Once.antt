-- What binding rests on: a program without faults has it.
use Rattle.std.specs.Prelude.{◌≡◌, [], map, true}
use Rattle.std.specs.List.{list_all}
use Rattle.zpl_tree.specs.Syntax.{Program}
use Rattle.zpl_parts.specs.of_zpl_names.Declared.{globals_of}
use Rattle.zpl_parts.specs.of_zpl_names.Faults.{repeated}
use Rattle.zpl_bind.specs.Few.{is_few_decl}

-- no name stands for a second thing, and no bracket of a declaration has a fourth dimension
pub record IsBindable (program : Program) : Type 0 where
  pub once : repeated [] (map (λ entry. entry.name) (globals_of program)) ≡ []
  pub few : list_all is_few_decl program.decls ≡ true
