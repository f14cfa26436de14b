use Rattle.std.proofs.Common.{◌≡◌, [], ◌∷◌, ◌++◌, sym, ◌∙◌, ap, subst}
use Rattle.grid_links.specs.Links.{link_number}
use Rattle.grid_links.specs.Network.{Network, IsNetwork, HasLink, HasRoom, sending}
use Rattle.grid_links.specs.Inside.{network_of}
use Rattle.grid_links.proofs.NetworkLemmas.{network_of-changed, putting_same, IsNetwork-sending}
use Rattle.grid_links.proofs.links.Links.send.Goals as goal

pub returns-in-Err-clause-kept : goal.returns-in-Err-clause-kept
returns-in-Err-clause-kept c =
    let there : HasLink (network_of c.self.inside) c.args.from c.args.to =
    subst (λ (n : Network). HasLink n c.args.from c.args.to) (sym c.self.view_is) c.requires.link in
    let at : c.place-place.result ≡ link_number c.self.inside.count c.args.from c.args.to =
    c.place-place.ensures ∙ ap (λ (n : Network). link_number n.count c.args.from c.args.to) (sym c.self.view_is) in
    network_of-changed c.self.inside c.args.from c.args.to c.place-place.result _ c.push_back.new.self
    (λ link. link)
    c.self.invariant there at c.index_mut-queue.ensures.value c.in-Err.ensures.items
    ∙ putting_same (network_of c.self.inside) (link_number c.self.inside.count c.args.from c.args.to)
    ∙ c.self.view_is

pub invariant_of-self : goal.invariant_of-self
invariant_of-self c =
    let there : HasLink (network_of c.self.inside) c.args.from c.args.to =
    subst (λ (n : Network). HasLink n c.args.from c.args.to) (sym c.self.view_is) c.requires.link in
    let at : c.place-place.result ≡ link_number c.self.inside.count c.args.from c.args.to =
    c.place-place.ensures ∙ ap (λ (n : Network). link_number n.count c.args.from c.args.to) (sym c.self.view_is) in
    let same = network_of-changed c.self.inside c.args.from c.args.to c.place-place.result _ c.push_back.new.self
    (λ link. link)
    c.self.invariant there at c.index_mut-queue.ensures.value c.in-Err.ensures.items
    ∙ putting_same (network_of c.self.inside) (link_number c.self.inside.count c.args.from c.args.to) in
    subst IsNetwork (sym same) c.self.invariant

pub returns-clause-sent : goal.returns-clause-sent
returns-clause-sent c =
    let there : HasLink (network_of c.self.inside) c.args.from c.args.to =
    subst (λ (n : Network). HasLink n c.args.from c.args.to) (sym c.self.view_is) c.requires.link in
    let at : c.place-place.result ≡ link_number c.self.inside.count c.args.from c.args.to =
    c.place-place.ensures ∙ ap (λ (n : Network). link_number n.count c.args.from c.args.to) (sym c.self.view_is) in
    network_of-changed c.self.inside c.args.from c.args.to c.place-place.result _ c.push_back.new.self
    (λ link. link ++ c.args.message ∷ [])
    c.self.invariant there at c.index_mut-queue.ensures.value c.in_default.ensures.items
    ∙ ap (λ (n : Network). sending n c.args.from c.args.to c.args.message) c.self.view_is

pub invariant_of-self-2 : goal.invariant_of-self-2
invariant_of-self-2 c =
    let there : HasLink (network_of c.self.inside) c.args.from c.args.to =
    subst (λ (n : Network). HasLink n c.args.from c.args.to) (sym c.self.view_is) c.requires.link in
    let at : c.place-place.result ≡ link_number c.self.inside.count c.args.from c.args.to =
    c.place-place.ensures ∙ ap (λ (n : Network). link_number n.count c.args.from c.args.to) (sym c.self.view_is) in
    let room : HasRoom (network_of c.self.inside) c.args.from c.args.to =
    subst (λ (n : Network). HasRoom n c.args.from c.args.to) (sym c.self.view_is) c.requires.room in
    let sent = network_of-changed c.self.inside c.args.from c.args.to c.place-place.result _ c.push_back.new.self
    (λ link. link ++ c.args.message ∷ [])
    c.self.invariant there at c.index_mut-queue.ensures.value c.in_default.ensures.items in
    subst IsNetwork (sym sent)
    (IsNetwork-sending (network_of c.self.inside) c.args.from c.args.to c.args.message c.self.invariant room)
