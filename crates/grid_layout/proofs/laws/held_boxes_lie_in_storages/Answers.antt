use Rattle.grid_layout.proofs.HeldLemmas.{held_in_storage, owned_is_held, region_of_held}
use Rattle.grid_layout.proofs.laws.held_boxes_lie_in_storages.Goals as goal

pub returns : goal.returns
returns c = record {
  region = region_of_held;
  within = λ blocks array p t are is has inside m. held_in_storage blocks array p are is has inside t m;
  owned = λ blocks array p t are is has inside m e. owned_is_held blocks array p are is has inside t m e;
}
