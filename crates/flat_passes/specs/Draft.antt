-- New code while it is written: its rows, and the groups of its loops.
use Rattle.std.specs.Prelude.{ℕ, List, [], ◌∷◌, ◌++◌, length, map}
use Rattle.flat_form.specs.of_node_form.declared.members.Member.{Member}
use Rattle.flat_form.specs.of_node_form.declared.instructions.Instr.{Instr}
use Rattle.flat_form.specs.of_node_form.declared.instructions.Instr.TheVariants as instr
use Rattle.flat_passes.specs.declared.draft.Draft.{Draft}
use Rattle.flat_passes.specs.Grouped.{Grouped, Runs, Plain, all_numbered, groups_of}
use Rattle.flat_passes.specs.Numbers.{number_among}
use Rattle.flat_passes.specs.Rewritten.{with_moved_goal}

abbrev pub empty_draft : Draft
empty_draft = record { code = []; groups = [] }

abbrev pub with_row : Draft → Instr → Draft
with_row draft row = record draft { code = draft.code ++ row ∷ [] }

abbrev pub with_loop : Draft → ℕ → List Member → Draft
with_loop draft slot group = record {
  code = draft.code ++ instr.Loop slot (length draft.groups) ∷ [];
  groups = draft.groups ++ group ∷ [];
}

-- rows with their groups inline, appended one after another
abbrev pub with_rows : Draft → List Grouped → Draft
with_rows draft rows = record {
  code = draft.code ++ all_numbered (length draft.groups) rows;
  groups = draft.groups ++ groups_of rows;
}

-- goals moved by a list of new numbers
abbrev pub moved_draft : List ℕ → Draft → Draft
moved_draft numbers draft = record draft {
  code = map (with_moved_goal (number_among numbers (length draft.code))) draft.code;
}
