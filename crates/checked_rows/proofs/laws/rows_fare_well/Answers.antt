use Rattle.checked_rows.proofs.FareLemmas.{alone_fares}
use Rattle.checked_rows.proofs.FlightLemmas.{other_keeps}
use Rattle.checked_rows.proofs.laws.rows_fare_well.Goals as goal

pub returns-clause-fares : goal.returns-clause-fares
returns-clause-fares c code links n row tables alone = alone_fares code tables links n row alone

pub returns-clause-flights : goal.returns-clause-flights
returns-clause-flights c code links n row straight other =
    other_keeps code links n row straight other
