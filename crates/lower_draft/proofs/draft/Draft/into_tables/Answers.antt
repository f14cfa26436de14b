use Rattle.std.proofs.Common.{rules, ◌≡◌, ◌++◌, ap, ◌∙◌}
use Rattle.zpl_lowering.specs.Tables.{stored_rows}
use Rattle.lower_draft.specs.Drafted.{finished, next_of}
use Rattle.lower_draft.proofs.TableLemmas.{finished_by}
use Rattle.lower_draft.proofs.draft.Draft.into_tables.Goals as goal

pub returns : goal.returns
returns c =
    let all : c.extend_from_slice-2.new.self.items
    ≡ (c.self.inside.arrays.items ++ c.self.inside.copies.items) ++ c.self.inside.later.items =
    search rules in
    let stored : c.in_ok-rows.rows
    ≡ stored_rows 0 c.self.inside.shifts.items c.extend_from_slice-2.new.self.items =
    search rules in
    let slots : c.of.result ≡ c.self.inside.slots.items = search rules in
    finished_by (record {
      tables = c.self.inside.tables;
      next = next_of c.self.inside.next;
      slots = c.self.inside.slots.items;
      arrays = c.self.inside.arrays.items;
      copies = c.self.inside.copies.items;
      later = c.self.inside.later.items;
      temps = c.self.inside.temps.items;
      shifts = c.self.inside.shifts.items;
    }) c.of.result c.extend_from_slice-2.new.self.items c.in_ok-rows.rows
    c.add_temps.new.rows c.push.new.self slots all stored
    (search rules) (search rules)
    ∙ ap finished c.self.view_is
