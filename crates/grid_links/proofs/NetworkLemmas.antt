-- What the fields of `Links` stand for where one queue is changed.
use Rattle.std.proofs.Common.{◌≡◌, ℕ, ◌<◌, List, [], length, set, get_or, sym, ◌∙◌, ap, subst, length-set}
use Rattle.std.proofs.lemmas.List.{get_or-map, map-set, set-get_or, length-map}
use Rattle.std.proofs.lemmas.List.Elements.{All-set}
use Rattle.std.specs.Vec.{with_item}
use Rattle.std.specs.declared.collections.VecDeque.{VecDeque}
use Rattle.std.specs.declared.alloc.Global.{Global}
use Rattle.grid_links.specs.declared.messages.Message.{Message}
use Rattle.grid_links.specs.declared.links.Links.TheInside.{Inside}
use Rattle.grid_links.specs.Links.{IsWithin, link_number}
use Rattle.grid_links.specs.Network.{Network, IsNetwork, HasLink, HasRoom, link, sending, taking}
use Rattle.grid_links.specs.Inside.{network_of}
use Rattle.grid_links.proofs.LinkLemmas.{number-below, within-sent, within-taken}

abbrev pub items_of : VecDeque Message Global → List Message
items_of queue = queue.items

-- a network with another link at a number
abbrev pub putting : Network → ℕ → List Message → Network
putting network i link = record network { links = set network.links i link }

pub network_of-with_item : (inside : Inside) (i : ℕ) (queue : VecDeque Message Global)
    → network_of (record { count = inside.count; capacity = inside.capacity; queues = with_item inside.queues i queue })
    ≡ putting (network_of inside) i queue.items
network_of-with_item inside i queue =
    ap (λ links. record { count = inside.count; capacity = inside.capacity; links = links })
    (map-set items_of inside.queues.items i queue)

pub IsNetwork-putting : (network : Network) (i : ℕ) (link : List Message) → IsNetwork network
    → IsWithin network.capacity link → IsNetwork (putting network i link)
IsNetwork-putting network i link is within = record {
  many = length-set network.links i link ∙ is.many;
  within = All-set (IsWithin network.capacity) network.links i link within is.within;
}

pub IsNetwork-sending : (network : Network) (from to : ℕ) (message : Message) → IsNetwork network
    → HasRoom network from to → IsNetwork (sending network from to message)
IsNetwork-sending network from to message is room =
    IsNetwork-putting network (link_number network.count from to) _ is
    (within-sent network.capacity (link network from to) message room)

pub IsNetwork-taking : (network : Network) (from to : ℕ) → IsNetwork network → HasLink network from to
    → IsNetwork (taking network from to)
IsNetwork-taking network from to is there =
    let number : ℕ = link_number network.count from to in
    let below : number < length network.links = rw is.many (number-below network.count from to there.0 there.1) in
    IsNetwork-putting network number _ is
    (within-taken network.capacity (link network from to) (is.within number [] below))

-- the fields with one queue changed stand for the network with that link changed
pub network_of-changed : (inside : Inside) (from to place : ℕ) (old new : VecDeque Message Global) (change : List Message → List Message)
    → IsNetwork (network_of inside) → HasLink (network_of inside) from to
    → place ≡ link_number inside.count from to → old ≡ get_or inside.queues.items place old
    → new.items ≡ change old.items
    → network_of (record { count = inside.count; capacity = inside.capacity; queues = with_item inside.queues place new })
    ≡ putting (network_of inside) (link_number inside.count from to) (change (link (network_of inside) from to))
network_of-changed inside from to place old new change is there at held changed =
    let number : ℕ = link_number inside.count from to in
    let network : Network = network_of inside in
    let below : number < length inside.queues.items =
    subst (λ n. number < n) (sym is.many ∙ length-map inside.queues.items items_of)
    (number-below inside.count from to there.0 there.1) in
    let old_link : old.items ≡ link network from to =
    ap items_of (held ∙ ap (λ i. get_or inside.queues.items i old) at)
    ∙ sym (get_or-map items_of inside.queues.items number old [] below) in
    network_of-with_item inside place new
    ∙ (ap (λ i. putting network i new.items) at
    ∙ ap (putting network number) (changed ∙ ap change old_link))

pub putting_same : (network : Network) (i : ℕ) → putting network i (get_or network.links i []) ≡ network
putting_same network i = ap (λ links. record network { links = links }) (set-get_or network.links i [])
