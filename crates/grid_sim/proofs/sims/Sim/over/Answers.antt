use Rattle.std.proofs.Common.{◌≡◌, ◌∙◌, ap, sym}
use Rattle.grid_layout.specs.Grid.{processors_of}
use Rattle.grid_layout.specs.Layout.{Arrangement}
use Rattle.grid_links.specs.Network.{Network, empty_network}
use Rattle.grid_meaning.specs.Local.{processors}
use Rattle.grid_meaning.proofs.WorldLemmas.{processors_alike}
use Rattle.grid_sim.proofs.sims.Sim.over.Goals as goal

pub start-requires-clause-links : goal.start-requires-clause-links
start-requires-clause-links c =
    let n : c.count.result ≡ processors c.args.code =
    c.count.ensures.count
    ∙ (ap processors_of (c.grid.ensures ∙ ap (λ (a : Arrangement). a.grid) c.in-Ok.ensures) ∙ sym (processors_alike c.args.code.grid)) in
    c.in-Ok-links_for.ensures
    ∙ (ap (λ k. empty_network k c.args.capacity) n
    ∙ ap (empty_network (processors c.args.code)) (sym (ap (λ (l : Network). l.capacity) c.in-Ok-links_for.ensures)))
