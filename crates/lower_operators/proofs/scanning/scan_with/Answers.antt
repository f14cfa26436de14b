use Rattle.std.proofs.Common.{ap, ◌∙◌}
use Rattle.lower_regions.specs.of_lower_places.View.{slotted_of}
use Rattle.lower_operators.proofs.OperatorLemmas.{scan-kept}
use Rattle.lower_operators.proofs.scanning.scan_with.Goals as goal

pub returns-clause-rows : goal.returns-clause-rows
returns-clause-rows c = λ value same.
    scan-kept c.args.numbers.now c.args.line c.args.scan.now.fold c.args.scan.now.along
    (slotted_of c.args.scan.now.over.now) c.args.draft.now c.keep.new.draft c.scan_from.new.draft
    value c.in_ok-among.among c.args.mask c.in_ok-from.from c.in_ok-from.ensures.temp
    c.in_ok-among.ensures (c.in_ok-from.ensures.rows value same) c.in_ok-temp.ensures.rows

pub returns-clause-temp : goal.returns-clause-temp
returns-clause-temp c = λ value same.
    c.in_ok-temp.ensures.temp ∙ ap (λ d. d.next.temps) (c.in_ok-from.ensures.rows value same)
