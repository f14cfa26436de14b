-- What stands for the links of a network.
use Rattle.std.specs.Prelude.{map}
use Rattle.grid_links.specs.Network.{Network}
use Rattle.grid_links.specs.declared.links.Links.TheInside.{Inside}

abbrev pub network_of : Inside → Network
network_of inside = record {
  count = inside.count;
  capacity = inside.capacity;
  links = map (λ queue. queue.items) inside.queues.items;
}
