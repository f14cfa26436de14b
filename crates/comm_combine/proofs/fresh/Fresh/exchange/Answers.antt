use Rattle.std.proofs.Common.{refl}
use Rattle.comm_combine.proofs.KeyLemmas.{exchanged_one, key_of}
use Rattle.comm_combine.proofs.fresh.Fresh.exchange.Goals as goal

pub returns : goal.returns
returns c = record {
  exchanged = λ other.
      exchanged_one c.args.self.now
      (record { exchanged = c.insert.new.self; written = c.args.self.now.written })
      c.args.item.now other c.args.number (c.in_ok-insert.ensures.updates.0 (key_of other));
  written = refl;
}
