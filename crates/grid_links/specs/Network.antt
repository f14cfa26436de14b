-- What `Links` holds.
--
--   Network      how many processes there are, the capacity of every link, and the links by number
--   IsNetwork    there is a link from each process to each, and none holds more than the capacity
--   HasLink      both are processes
use Rattle.std.specs.Prelude.{◌≡◌, ℕ, ◌*◌, ◌<◌, List, length, All, Option, true}
use Rattle.grid_links.specs.declared.messages.Message.{Message}
use Rattle.grid_links.specs.Links.{IsWithin, link_of, has_room, with_sent, with_taken, no_messages}

pub record Network : Type 0 where
  pub count : ℕ
  pub capacity : Option ℕ
  pub links : List (List Message)

pub record IsNetwork (network : Network) : Type 0 where
  pub many : length network.links ≡ network.count * network.count
  pub within : All (IsWithin network.capacity) network.links

abbrev pub HasLink : Network → ℕ → ℕ → Type 0
HasLink network from to = (from < network.count) × (to < network.count)

-- the links of so many processes, with no message on them
abbrev pub empty_network : ℕ → Option ℕ → Network
empty_network count capacity =
    record { count = count; capacity = capacity; links = no_messages count }

-- ---- one link of a network
abbrev pub link : Network → ℕ → ℕ → List Message
link network from to = link_of network.count network.links from to

abbrev pub HasRoom : Network → ℕ → ℕ → Type 0
HasRoom network from to = has_room network.capacity (link network from to) ≡ true

abbrev pub sending : Network → ℕ → ℕ → Message → Network
sending network from to message =
    record network { links = with_sent network.count network.links from to message }

abbrev pub taking : Network → ℕ → ℕ → Network
taking network from to = record network { links = with_taken network.count network.links from to }
