use Rattle.listing_rules.proofs.Sound.{sound}
use Rattle.listing_rules.proofs.laws.told_tables_fit.Goals as goal

pub returns : goal.returns
returns c = record {
  written = λ lines tables are. (sound lines tables are).split;
  fits = λ lines tables are. (sound lines tables are).fits;
  room = λ lines tables are. (sound lines tables are).room;
}
