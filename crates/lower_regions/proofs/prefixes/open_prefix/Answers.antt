use Rattle.std.proofs.Common.{◌∙◌}
use Rattle.zpl_tree.specs.View.{prefix_of}
use Rattle.lower_places.specs.View.{where_of}
use Rattle.lower_regions.specs.Prefix.{opened_under}
use Rattle.lower_regions.proofs.OpenedLemmas.{under_same}
use Rattle.lower_regions.proofs.prefixes.open_prefix.Goals as goal

pub returns-clause-under : goal.returns-clause-under
returns-clause-under c =
    let w = where_of c.args.place.now in
    let prefix = prefix_of c.args.prefix.now in
    c.under_prefix.ensures.under
    ∙ under_same w prefix
    (opened_under c.args.is_border w c.args.draft.now.next.slots prefix)
    c.in_ok-opened.opened c.in_ok-opened.ensures.opened
