-- One link changes, and the others stay; and what stands for the queues where one is changed.
use Rattle.std.proofs.Common.{◌≡◌, ◌≢◌, ℕ, ◌+◌, ◌*◌, ◌<◌, ◌≤◌, List, [], length, set, get_or, sym, ◌∙◌, ap, subst, arith, length-set, get_or-set_same}
use Rattle.std.proofs.lemmas.List.{get_or-map, map-set, set-get_or, length-map, get_or-set_other}
use Rattle.std.proofs.Math.Nat.{mul-le-mul_right}
use Rattle.std.specs.Vec.{with_item}
use Rattle.std.specs.declared.collections.VecDeque.{VecDeque}
use Rattle.std.specs.declared.alloc.Global.{Global}
use Rattle.grid_timetable.specs.declared.places.Place.{Place}
use Rattle.grid_timetable.specs.declared.mail.Mail.TheInside.{Inside}
use Rattle.grid_timetable.specs.Mail.{Links, Post, IsPost, HasLink, link, link_of, link_number, with_link}
use Rattle.grid_timetable.specs.Post.{post_of}

-- ---- numbers of links
pub number-below : (count from to : ℕ) → from < count → to < count → link_number count from to < count * count
number-below count from to below there =
    let rows : (from + 1) * count ≤ count * count = mul-le-mul_right count (omega arith) in omega arith

no_less : (count p q r s : ℕ) → q < count → link_number count p q ≡ link_number count r s → p < r → ⊥
no_less count p q r s below same less =
    let rows : (p + 1) * count ≤ r * count = mul-le-mul_right count (omega arith) in omega arith

number-from : (count p q r s : ℕ) → q < count → s < count → link_number count p q ≡ link_number count r s → p ≡ r
number-from count p q r s below there same =
    let not_less : p < r → ⊥ = no_less count p q r s below same in
    let not_more : r < p → ⊥ = no_less count r s p q there (sym same) in
    omega arith

number-to : (count p q r s : ℕ) → q < count → s < count → link_number count p q ≡ link_number count r s → q ≡ s
number-to count p q r s below there same =
    let rows : p * count ≡ r * count = ap (λ n. n * count) (number-from count p q r s below there same) in
    omega arith

-- ---- the same link, and another one
pub link_of-same : (count : ℕ) (links : Links) (from to : ℕ) (link : List Place)
    → length links ≡ count * count → from < count → to < count → link_of count (with_link count links from to link) from to ≡ link
link_of-same count links from to link many below there =
    let inside : link_number count from to < length links = rw many (number-below count from to below there) in
    get_or-set_same links (link_number count from to) link [] inside

pub link_of-other : (count : ℕ) (links : Links) (p q from to : ℕ) (link : List Place)
    → q < count → to < count → (p ≡ from → q ≡ to → ⊥)
    → link_of count (with_link count links p q link) from to ≡ link_of count links from to
link_of-other count links p q from to link below there other =
    let differs : link_number count from to ≢ link_number count p q = λ same.
    other (sym (number-from count from to p q there below same)) (sym (number-to count from to p q there below same)) in
    get_or-set_other links (link_number count p q) (link_number count from to) link [] differs

-- ---- queues
abbrev pub items_of : VecDeque Place Global → List Place
items_of queue = queue.items

abbrev pub putting : Post → ℕ → List Place → Post
putting post i link = record post { links = set post.links i link }

post_of-with_item : (inside : Inside) (i : ℕ) (queue : VecDeque Place Global)
    → post_of (record { count = inside.count; queues = with_item inside.queues i queue }) ≡ putting (post_of inside) i queue.items
post_of-with_item inside i queue =
    ap (λ links. record { count = inside.count; links = links }) (map-set items_of inside.queues.items i queue)

pub IsPost-putting : (post : Post) (i : ℕ) (link : List Place) → IsPost post → IsPost (putting post i link)
IsPost-putting post i link is = record { many = length-set post.links i link ∙ is.many }

-- the fields with one queue changed stand for the post with that link changed
pub post_of-changed : (inside : Inside) (from to place : ℕ) (old new : VecDeque Place Global) (change : List Place → List Place)
    → IsPost (post_of inside) → HasLink (post_of inside) from to
    → place ≡ link_number inside.count from to → old ≡ get_or inside.queues.items place old
    → new.items ≡ change old.items
    → post_of (record { count = inside.count; queues = with_item inside.queues place new })
    ≡ putting (post_of inside) (link_number inside.count from to) (change (link (post_of inside) from to))
post_of-changed inside from to place old new change is there at held changed =
    let number : ℕ = link_number inside.count from to in
    let post : Post = post_of inside in
    let below : number < length inside.queues.items =
    subst (λ n. number < n) (sym is.many ∙ length-map inside.queues.items items_of)
    (number-below inside.count from to there.0 there.1) in
    let old_link : old.items ≡ link post from to =
    ap items_of (held ∙ ap (λ i. get_or inside.queues.items i old) at)
    ∙ sym (get_or-map items_of inside.queues.items number old [] below) in
    post_of-with_item inside place new
    ∙ (ap (λ i. putting post i new.items) at
    ∙ ap (putting post number) (changed ∙ ap change old_link))

pub putting_same : (post : Post) (i : ℕ) → putting post i (get_or post.links i []) ≡ post
putting_same post i = ap (λ links. record post { links = links }) (set-get_or post.links i [])
