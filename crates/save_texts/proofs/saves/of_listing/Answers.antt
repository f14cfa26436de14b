use Rattle.std.proofs.Common.{arith, subst}
use Rattle.node_text.specs.Listing.{Explains}
use Rattle.save_texts.proofs.Faults.{bad_listed_most, bad_table_most, fault_of_listed_line}
use Rattle.save_texts.proofs.saves.of_listing.Goals as goal

pub overflow_add-result : goal.overflow_add-result
overflow_add-result c =
    let bad = subst (Explains c.args.listing.now) c.in-BadLine.is c.requires.explains in
    let line = bad_listed_most c.args.listing.now c.in-BadLine.line bad in
    let few = c.requires.few in
    omega (arith, line, few)

pub overflow_add-result-in-Ok : goal.overflow_add-result-in-Ok
overflow_add-result-in-Ok c =
    let bad = subst (Explains c.args.listing.now) c.in-BadTable.is c.requires.explains in
    let line = bad_table_most c.args.listing.now c.in-BadTable.line bad in
    let few = c.requires.few in
    omega (arith, line, few)

pub returns-in-BadLine : goal.returns-in-BadLine
returns-in-BadLine c =
    let bad = subst (Explains c.args.listing.now) c.in-BadLine.is c.requires.explains in
    fault_of_listed_line c.args.listing.now c.args.state.now c.in-BadLine.line bad
