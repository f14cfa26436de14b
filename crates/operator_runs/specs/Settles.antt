-- The first phase of a statement: the rows of the brackets that stand in its expressions.
use Rattle.std.specs.Prelude.{ℕ, List}
use Rattle.zpl_nums.specs.declared.ends.End.TheVariants.{Trap}
use Rattle.zpl_nums.specs.declared.ends.TrapKind.{TrapKind}
use Rattle.zpl_meaning.specs.Computed as mean
use Rattle.zpl_meaning.specs.Term.{Terms}
use Rattle.node_form.specs.declared.tables.Tables.{Tables}
use Rattle.row_runs.specs.Run.{Ends}
use Rattle.row_runs.specs.Structured as code
use Rattle.row_runs.specs.Structured.{Course, Over}
use Rattle.flat_form.specs.Whole.{Whole}
use Rattle.print_runs.specs.of_zpl_lowering.Where.{Where, Next}
use Rattle.print_runs.specs.of_zpl_lowering.Slate.{Slates}
use Rattle.print_runs.specs.of_lowering_runs.Seen.{Spot}
use Rattle.call_runs.specs.of_prefix_runs.Filled.{IsFilled}
use Rattle.operator_runs.specs.Meant.{Site, AreMeantAt}
use Rattle.operator_runs.specs.Copies.{AllCopied, AllTakeOthers}
use Rattle.operator_runs.specs.Hoists.{Own}

-- The rows come to a state that differs in slots alone, none of which was taken, and in which the
-- slates stand for the terms that expressions are settled to, each at its site; or they end with the
-- trap of the first bracket that has one. They print nothing, and make no jumps. Each read that
-- wraps round has a copy, and operators take their tuples from other slots than copies are filled
-- with.
pub data Settles (tables : Tables) (own : Own) (w : Where) (spots : List Spot)
    (sites : List Site) (line : ℕ) (next : Next) (now : Whole) (slates : Slates)
    : mean.Computed Terms → Course Whole → Type 0 where
  SettlesTo : {there : Whole} {terms : Terms} → IsFilled next.slots now there
      → AreMeantAt w spots there.slots sites slates terms
      → AllCopied tables w own next.copies slates × AllTakeOthers own.slots slates
      → Settles tables own w spots sites line next now slates (mean.Gives terms)
      (code.goes_on there)
  Unsettled : {after : Whole} {kind : TrapKind}
      → Settles tables own w spots sites line next now slates (mean.Traps kind)
      (code.closes (Over (Ends (Trap kind line))) after)
