use Rattle.grid_meaning.specs.Local.{start_locals}
use Rattle.grid_meaning.proofs.every_order.small_links_are_enough.Goals as goal

pub returns-clause-same : goal.returns-clause-same
returns-clause-same c code links = c.small_links_are_enough.ensures.same code (start_locals code) links

pub returns-clause-reach : goal.returns-clause-reach
returns-clause-reach c code links = c.small_links_are_enough.ensures.reach code (start_locals code) links
