use Rattle.std.proofs.Common.{rules, ◌≡◌}
use Rattle.zpl_region.specs.Region.{IsRegion, moved}
use Rattle.lower_operators.proofs.CopyLemmas.{moved-alike}
use Rattle.lower_operators.proofs.wrapping.copy_storage.Goals as goal

pub hull_with-requires : goal.hull_with-requires
hull_with-requires c =
    let region : IsRegion c.in_ok-moved.moved = search rules in
    let is : c.in_ok-moved.moved ≡ moved c.copy_shift.result c.args.home.now = search rules in
    moved-alike c.args.home.now c.copy_shift.result c.in_ok-moved.moved c.requires region is
