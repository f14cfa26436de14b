use Rattle.std.proofs.Common.{List, sym, subst}
use Rattle.grid_timetable.specs.declared.places.Stretch.{Stretch}
use Rattle.grid_timetable.specs.declared.segments.Segment.{Segment}
use Rattle.grid_timetable.specs.History.{run_of}
use Rattle.grid_timetable.specs.Chain.{IsLongestChain}
use Rattle.grid_timetable.specs.Ledger.{ledger_of}
use Rattle.grid_timetable.specs.Trace.{IsTrace}
use Rattle.grid_timetable.proofs.TraceLemmas.{longest}
use Rattle.grid_timetable.proofs.table.Table.chain.Goals as goal

pub returns-clause-chain : goal.returns-clause-chain
returns-clause-chain c = λ history is.
    subst (λ (chain : List Segment). IsLongestChain (run_of history) chain) (sym c.reverse.ensures.items)
    (longest (ledger_of c.args.self.now) history is c.in-Some.last c.trace.new.into.items c.in-Some.ensures.some
    (subst (λ (stretches : List Stretch). IsTrace stretches c.in-Some.last c.trace.new.into.items)
    c.as_slice.ensures.value c.in_default-trace.ensures))
