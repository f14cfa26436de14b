use Rattle.std.proofs.Common.{List}
use Rattle.std.specs.Prelude.{Option}
use Rattle.std.specs.Prelude.{Vec}
use Rattle.std.specs.declared.alloc.Global.{Global}
use Rattle.zpl_region.specs.declared.regions.Region.{Region}
use Rattle.bound_check.proofs.WriteLemmas.{pushed}
use Rattle.bound_check.proofs.writes.Writes.push.Goals as goal

abbrev items_of : Vec (Option Region) Global → List (Option Region)
items_of list = list.items

pub returns : goal.returns
returns c =
    pushed items_of c.self.inside.lists.items c.index_mut-list.result.now c.push.new.self
    c.args.slot c.args.region c.args.self.now c.self.view_is c.requires
    c.index_mut-list.ensures.value c.in_ok-push.ensures.items
