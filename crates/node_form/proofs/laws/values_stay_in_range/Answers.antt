use Rattle.node_form.proofs.RangeLemmas.{OperatorsStay, value_of-IsInteger}
use Rattle.node_form.proofs.laws.values_stay_in_range.Goals as goal

pub returns : goal.returns
returns c operands words value integers has e =
    let range = c.operators_stay_in_range.ensures in
    let stay : OperatorsStay = record { binary = range.binary; negation = range.negation; absolute_value = range.absolute_value; denial = range.denial } in
    value_of-IsInteger stay operands integers words value has e
