use Rattle.std.proofs.Common.{◌≡◌, drop, sym, ◌∙◌, ap, subst}
use Rattle.grid_links.specs.Links.{link_number}
use Rattle.grid_links.specs.Network.{Network, IsNetwork, HasLink, taking}
use Rattle.grid_links.specs.Inside.{network_of}
use Rattle.grid_links.proofs.NetworkLemmas.{network_of-changed, IsNetwork-taking}
use Rattle.grid_links.proofs.links.Links.take.Goals as goal

pub returns-clause-taken : goal.returns-clause-taken
returns-clause-taken c =
    let there : HasLink (network_of c.self.inside) c.args.from c.args.to =
    subst (λ (n : Network). HasLink n c.args.from c.args.to) (sym c.self.view_is) c.requires in
    let at : c.place-place.result ≡ link_number c.self.inside.count c.args.from c.args.to =
    c.place-place.ensures ∙ ap (λ (n : Network). link_number n.count c.args.from c.args.to) (sym c.self.view_is) in
    network_of-changed c.self.inside c.args.from c.args.to c.place-place.result _ c.pop_front.new.self
    (drop 1)
    c.self.invariant there at c.index_mut-queue.ensures.value c.pop_front.ensures.rest
    ∙ ap (λ (n : Network). taking n c.args.from c.args.to) c.self.view_is

pub invariant_of-self : goal.invariant_of-self
invariant_of-self c =
    let there : HasLink (network_of c.self.inside) c.args.from c.args.to =
    subst (λ (n : Network). HasLink n c.args.from c.args.to) (sym c.self.view_is) c.requires in
    let at : c.place-place.result ≡ link_number c.self.inside.count c.args.from c.args.to =
    c.place-place.ensures ∙ ap (λ (n : Network). link_number n.count c.args.from c.args.to) (sym c.self.view_is) in
    let taken = network_of-changed c.self.inside c.args.from c.args.to c.place-place.result _ c.pop_front.new.self
    (drop 1)
    c.self.invariant there at c.index_mut-queue.ensures.value c.pop_front.ensures.rest in
    subst IsNetwork (sym taken) (IsNetwork-taking (network_of c.self.inside) c.args.from c.args.to c.self.invariant there)
