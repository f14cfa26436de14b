-- Plans while they are written.
--
--   PlanDraft    in code: new rows, exchanges in the order of their starts, and where old rows come
--                to stand
--   written      a draft with more units
--   plan_of      the plan of a draft, with goals moved
use Rattle.std.specs.Prelude.{List, [], ◌∷◌, ◌++◌, fold, length, map}
use Rattle.flat_passes.specs.of_node_form.declared.arrays.Item.{Item}
use Rattle.flat_passes.specs.of_node_form.declared.instructions.Instr.{Instr}
use Rattle.flat_passes.specs.of_node_form.declared.instructions.Instr.TheVariants as instr
use Rattle.flat_passes.specs.of_node_form.declared.tables.Tables.{Tables}
use Rattle.flat_passes.specs.Numbers.{number_among}
use Rattle.flat_passes.specs.Rewritten.{with_moved_goal}
use Rattle.plan_form.specs.declared.draft.PlanDraft.{PlanDraft}
use Rattle.plan_form.specs.Units.{PlanUnit, Exchange, Single}

abbrev pub empty_draft : PlanDraft
empty_draft = record { code = []; exchanges = []; numbers = [] }

abbrev pub with_number : PlanDraft → PlanDraft
with_number draft = record draft { numbers = draft.numbers ++ length draft.code ∷ [] }

abbrev pub with_row : PlanDraft → Instr → PlanDraft
with_row draft row = record draft { code = draft.code ++ row ∷ [] }

abbrev pub with_exchange : PlanDraft → List Item → PlanDraft
with_exchange draft items = record draft {
  code =
      draft.code
      ++ (instr.Start (length draft.exchanges) ∷ instr.Finish (length draft.exchanges) ∷ []);
  exchanges = draft.exchanges ++ items ∷ [];
}

abbrev pub with_unit : PlanDraft → PlanUnit → PlanDraft
with_unit draft (Exchange items) = with_exchange draft items
with_unit draft (Single row) = with_row draft row

abbrev pub written : PlanDraft → List PlanUnit → PlanDraft
written draft units = fold with_unit draft units

-- the tables with these exchanges, and with these rows for their code
abbrev pub plan_of : PlanDraft → Tables → Tables
plan_of draft tables = record tables {
  exchanges = draft.exchanges;
  code = map (with_moved_goal (number_among draft.numbers (length draft.code))) draft.code;
}
