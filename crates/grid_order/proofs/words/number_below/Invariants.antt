use Rattle.std.proofs.Common.{◌≡◌, ◌<◌, ◌^◌, true, take}
use Rattle.std.specs.Char.{is_ascii_digit}
use Rattle.std.specs.List.{list_all}
use Rattle.grid_order.specs.Item.{decimal}
use Rattle.grid_order.proofs.words.number_below.Given as goal

abbrev pub invariant-loop-byte : goal.invariant-loop-byte
invariant-loop-byte l = record {
  digits : list_all is_ascii_digit (take l.byte-index l.word) ≡ true;
  number : l.number ≡ decimal (take l.byte-index l.word);
  small : l.number < 2 ^ 32;
  below : 0 < l.byte-index → l.number < l.limit;
}
