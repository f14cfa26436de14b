-- Links between processes. A link is a list of messages, the oldest first. Of so many processes
-- there is one from each to each, also to itself: they are a list, that from `from` to `to` at
-- the number `from * count + to`. All have one capacity: how many messages a link holds at most,
-- or none, where it holds any number.
--
--   link_number, link_of   the link's number, and what is on it
--   with_link              that one link anew, all others as they were
--   head_of                the oldest message of a link, where there is one
--   has_room               the link holds fewer messages than the capacity
--   with_sent, with_taken  a message more at the end of a link; the oldest gone
--   no_messages            empty links
--   IsWithin               the link holds at most the capacity
use Rattle.std.specs.Prelude.{ℕ, ◌+◌, ◌*◌, ◌≤◌, Bool, true, nat_lt, List, [], ◌∷◌, ◌++◌, length, drop, replicate, Option, Some, None, slice_get, slice_index_or, slice_set}

abbrev pub link_number : ℕ → ℕ → ℕ → ℕ
link_number count from to = from * count + to

abbrev pub link_of : {M : Type 0} → ℕ → List (List M) → ℕ → ℕ → List M
link_of count links from to = slice_index_or links (link_number count from to) []

abbrev pub with_link : {M : Type 0} → ℕ → List (List M) → ℕ → ℕ → List M → List (List M)
with_link count links from to link = slice_set links (link_number count from to) link

abbrev pub head_of : {M : Type 0} → ℕ → List (List M) → ℕ → ℕ → Option M
head_of count links from to = slice_get (link_of count links from to) 0

abbrev pub has_room : {M : Type 0} → Option ℕ → List M → Bool
has_room None link = true
has_room (Some capacity) link = nat_lt (length link) capacity

abbrev pub with_sent : {M : Type 0} → ℕ → List (List M) → ℕ → ℕ → M → List (List M)
with_sent count links from to message =
    with_link count links from to (link_of count links from to ++ message ∷ [])

abbrev pub with_taken : {M : Type 0} → ℕ → List (List M) → ℕ → ℕ → List (List M)
with_taken count links from to =
    with_link count links from to (drop 1 (link_of count links from to))

abbrev pub no_messages : {M : Type 0} → ℕ → List (List M)
no_messages count = replicate (count * count) []

abbrev pub IsWithin : {M : Type 0} → Option ℕ → List M → Type 0
IsWithin None link = Unit {0}
IsWithin (Some capacity) link = length link ≤ capacity
