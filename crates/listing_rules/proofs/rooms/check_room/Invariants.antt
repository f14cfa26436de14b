use Rattle.std.proofs.Common.{◌≡◌, ◌≤◌, take}
use Rattle.listing_rules.specs.Room.{words_in}
use Rattle.listing_rules.proofs.rooms.check_room.Given as goal

abbrev pub invariant-loop-i : goal.invariant-loop-i
invariant-loop-i l = record {
  words : l.words ≡ words_in l.tables (take l.i l.tables.arrays);
  within : l.words ≤ 16777216;
}
