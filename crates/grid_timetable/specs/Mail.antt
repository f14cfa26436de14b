-- The links between processors, and the messages on them, each told by the move that sent it. The
-- link from `from` to `to` has the number `from * count + to`.
--
--   Post              how many processors there are, and the links by number, the oldest message
--                     first
--   link_of           what is on a link
--   with_link         that one link anew, all others as they were
--   sending, taking   a message more at the end of a link; the oldest one gone
use Rattle.std.specs.Prelude.{◌≡◌, ℕ, ◌+◌, ◌*◌, ◌<◌, List, [], ◌∷◌, ◌++◌, length, drop, replicate, Option, slice_get, slice_index_or, slice_set}
use Rattle.grid_timetable.specs.declared.places.Place.{Place}

abbrev pub Links : Type 0
Links = List (List Place)

abbrev pub link_number : ℕ → ℕ → ℕ → ℕ
link_number count from to = from * count + to

abbrev pub link_of : ℕ → Links → ℕ → ℕ → List Place
link_of count links from to = slice_index_or links (link_number count from to) []

abbrev pub with_link : ℕ → Links → ℕ → ℕ → List Place → Links
with_link count links from to link = slice_set links (link_number count from to) link

abbrev pub with_sent : ℕ → Links → ℕ → ℕ → Place → Links
with_sent count links from to place =
    with_link count links from to (link_of count links from to ++ place ∷ [])

abbrev pub with_taken : ℕ → Links → ℕ → ℕ → Links
with_taken count links from to =
    with_link count links from to (drop 1 (link_of count links from to))

pub record Post : Type 0 where
  pub count : ℕ
  pub links : Links

pub record IsPost (post : Post) : Type 0 where
  pub many : length post.links ≡ post.count * post.count

abbrev pub HasLink : Post → ℕ → ℕ → Type 0
HasLink post from to = (from < post.count) × (to < post.count)

abbrev pub no_mail : ℕ → Post
no_mail count = record { count = count; links = replicate (count * count) [] }

abbrev pub link : Post → ℕ → ℕ → List Place
link post from to = link_of post.count post.links from to

abbrev pub head : Post → ℕ → ℕ → Option Place
head post from to = slice_get (link post from to) 0

abbrev pub sending : Post → ℕ → ℕ → Place → Post
sending post from to place = record post { links = with_sent post.count post.links from to place }

abbrev pub taking : Post → ℕ → ℕ → Post
taking post from to = record post { links = with_taken post.count post.links from to }
