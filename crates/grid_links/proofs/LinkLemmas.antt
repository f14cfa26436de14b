-- One link changes, and the others stay.
use Rattle.std.proofs.Common.{◌≡◌, ◌≢◌, ℕ, ◌+◌, ◌*◌, ◌<◌, ◌≤◌, Bool, true, false, cond, ◌==◌, List, [], ◌∷◌, ◌++◌, length, drop, take, Option, Some, None, refl, sym, ◌∙◌, ap, subst, arith, append_assoc, append-nil, length-append, length-set, get_or-set_same, eqb-true, ltb-true, length-drop, take-append-drop, length-take-le}
use Rattle.std.proofs.lemmas.Bool.{eqb-false}
use Rattle.std.proofs.lemmas.List.{get_or-set_other}
use Rattle.std.proofs.Math.Seq.{drop-append_seam}
use Rattle.std.proofs.Math.Nat.{mul-le-mul_right}
use Rattle.grid_links.specs.Links.{link_number, link_of, with_link, with_sent, with_taken, has_room, IsWithin}
use Rattle.grid_links.specs.Run.{links_taken, links_sent, message_where, message_to, is_from}

-- ---- numbers of links
pub number-below : (count from to : ℕ) → from < count → to < count → link_number count from to < count * count
number-below count from to below there =
    let rows : (from + 1) * count ≤ count * count = mul-le-mul_right count (omega arith) in omega arith

no_less : (count p q r s : ℕ) → q < count → link_number count p q ≡ link_number count r s → p < r → ⊥
no_less count p q r s below same less =
    let rows : (p + 1) * count ≤ r * count = mul-le-mul_right count (omega arith) in omega arith

pub number-from : (count p q r s : ℕ) → q < count → s < count → link_number count p q ≡ link_number count r s → p ≡ r
number-from count p q r s below there same =
    let not_less : p < r → ⊥ = no_less count p q r s below same in
    let not_more : r < p → ⊥ = no_less count r s p q there (sym same) in
    omega arith

pub number-to : (count p q r s : ℕ) → q < count → s < count → link_number count p q ≡ link_number count r s → q ≡ s
number-to count p q r s below there same =
    let rows : p * count ≡ r * count = ap (λ n. n * count) (number-from count p q r s below there same) in
    omega arith

-- ---- the same link, and another one
pub link_of-with_link_same : {M : Type 0} (count : ℕ) (links : List (List M)) (from to : ℕ) (link : List M)
    → length links ≡ count * count → from < count → to < count → link_of count (with_link count links from to link) from to ≡ link
link_of-with_link_same count links from to link many below there =
    let inside : link_number count from to < length links = rw many (number-below count from to below there) in
    get_or-set_same links (link_number count from to) link [] inside

pub link_of-with_link_other : {M : Type 0} (count : ℕ) (links : List (List M)) (p q from to : ℕ) (link : List M)
    → q < count → to < count → (p ≡ from → q ≡ to → ⊥)
    → link_of count (with_link count links p q link) from to ≡ link_of count links from to
link_of-with_link_other count links p q from to link below there other =
    let differs : link_number count from to ≢ link_number count p q = λ same.
    other (sym (number-from count from to p q there below same)) (sym (number-to count from to p q there below same)) in
    get_or-set_other links (link_number count p q) (link_number count from to) link [] differs

-- ---- what a message sent, and one taken, make of each link
pub length-links_taken : {M : Type 0} (count p : ℕ) (taken : Option ℕ) (links : List (List M)) → length (links_taken count p taken links) ≡ length links
length-links_taken count p None links = refl
length-links_taken count p (Some from) links = length-set links _ _

pub length-links_sent : {M : Type 0} (count p : ℕ) (sent : Option (ℕ × M)) (links : List (List M)) → length (links_sent count p sent links) ≡ length links
length-links_sent count p None links = refl
length-links_sent count p (Some sent) links = length-set links _ _

-- the receiver of what is sent is a process
abbrev pub IsTo : {M : Type 0} → ℕ → Option (ℕ × M) → Type 0
IsTo count None = Unit {0}
IsTo count (Some sent) = sent.0 < count

-- what is sent from p to a process, told by whether p is asked for
abbrev pub sent_where : {M : Type 0} → Bool → ℕ → Option (ℕ × M) → List M
sent_where true to sent = message_to to sent
sent_where false to sent = []

sent_where_none : {M : Type 0} (asked : Bool) (to : ℕ) → sent_where {M = M} asked to None ≡ []
sent_where_none true to = refl
sent_where_none false to = refl

link_of-sent : {M : Type 0} (count : ℕ) (links : List (List M)) (p q : ℕ) (message : M) (from to : ℕ) (sender receiver : Bool)
    → (p == from) ≡ sender → (q == to) ≡ receiver
    → length links ≡ count * count → p < count → q < count → to < count
    → link_of count (with_sent count links p q message) from to ≡ link_of count links from to ++ cond sender (message_where receiver message) []
link_of-sent count links p q message from to true true s r many below there reached =
    let from_is : p ≡ from = eqb-true p from s in
    let to_is : q ≡ to = eqb-true q to r in
    subst (λ a. link_of count (with_sent count links p q message) a to ≡ link_of count links a to ++ message ∷ []) from_is
    (subst (λ b. link_of count (with_sent count links p q message) p b ≡ link_of count links p b ++ message ∷ []) to_is
    (link_of-with_link_same count links p q _ many below there))
link_of-sent count links p q message from to true false s r many below there reached =
    link_of-with_link_other count links p q from to _ there reached (λ a b. eqb-false q to r b)
    ∙ sym (append-nil (link_of count links from to))
link_of-sent count links p q message from to false receiver s r many below there reached =
    link_of-with_link_other count links p q from to _ there reached (λ a b. eqb-false p from s a)
    ∙ sym (append-nil (link_of count links from to))

sent_where-cond : {M : Type 0} (asked : Bool) (to : ℕ) (sent : ℕ × M)
    → cond asked (message_where (sent.0 == to) sent.1) [] ≡ sent_where asked to (Some sent)
sent_where-cond true to sent = refl
sent_where-cond false to sent = refl

pub link_of-links_sent : {M : Type 0} (count : ℕ) (links : List (List M)) (p : ℕ) (sent : Option (ℕ × M)) (from to : ℕ)
    → length links ≡ count * count → p < count → IsTo count sent → to < count
    → link_of count (links_sent count p sent links) from to ≡ link_of count links from to ++ sent_where (p == from) to sent
link_of-links_sent count links p None from to many below there reached =
    sym (ap (λ s. link_of count links from to ++ s) (sent_where_none (p == from) to) ∙ append-nil (link_of count links from to))
link_of-links_sent count links p (Some sent) from to many below there reached =
    link_of-sent count links p sent.0 sent.1 from to (p == from) (sent.0 == to) refl refl many below there reached
    ∙ ap (λ s. link_of count links from to ++ s) (sent_where-cond (p == from) to sent)

-- how many messages of a sender a move takes; and a move of p, told by whether p is asked for
abbrev pub taken_of : ℕ → Option ℕ → ℕ
taken_of from taken = cond (is_from from taken) 1 0

abbrev pub taken_where : Bool → ℕ → Option ℕ → ℕ
taken_where true from taken = taken_of from taken
taken_where false from taken = 0

pub taken_where_none : (asked : Bool) (from : ℕ) → taken_where asked from None ≡ 0
taken_where_none true from = refl
taken_where_none false from = refl

pub taken_where-cond : (asked : Bool) (from sender : ℕ) → cond asked (cond (sender == from) 1 0) 0 ≡ taken_where asked from (Some sender)
taken_where-cond true from sender = refl
taken_where-cond false from sender = refl

link_of-taken : {M : Type 0} (count : ℕ) (links : List (List M)) (p sender from to : ℕ) (asked named : Bool)
    → (p == to) ≡ asked → (sender == from) ≡ named
    → length links ≡ count * count → p < count → from < count → to < count
    → link_of count (with_taken count links sender p) from to ≡ drop (cond asked (cond named 1 0) 0) (link_of count links from to)
link_of-taken count links p sender from to true true a n many here below there =
    let from_is : sender ≡ from = eqb-true sender from n in
    let to_is : p ≡ to = eqb-true p to a in
    let same : link_of count (with_taken count links from to) from to ≡ drop 1 (link_of count links from to) =
    link_of-with_link_same count links from to _ many below there in
    subst (λ x. link_of count (with_taken count links x p) from to ≡ drop 1 (link_of count links from to)) (sym from_is)
    (subst (λ y. link_of count (with_taken count links from y) from to ≡ drop 1 (link_of count links from to)) (sym to_is) same)
link_of-taken count links p sender from to true false a n many here below there =
    link_of-with_link_other count links sender p from to _ here there (λ x y. eqb-false sender from n x)
link_of-taken count links p sender from to false named a n many here below there =
    link_of-with_link_other count links sender p from to _ here there (λ x y. eqb-false p to a y)

pub link_of-links_taken : {M : Type 0} (count : ℕ) (links : List (List M)) (p : ℕ) (taken : Option ℕ) (from to : ℕ)
    → length links ≡ count * count → p < count → from < count → to < count
    → link_of count (links_taken count p taken links) from to ≡ drop (taken_where (p == to) from taken) (link_of count links from to)
link_of-links_taken count links p None from to many here below there =
    ap (λ n. drop n (link_of count links from to)) (sym (taken_where_none (p == to) from))
link_of-links_taken count links p (Some sender) from to many here below there =
    link_of-taken count links p sender from to (p == to) (sender == from) refl refl many here below there
    ∙ ap (λ n. drop n (link_of count links from to)) (taken_where-cond (p == to) from sender)

-- ---- what was sent on a link, how much of it was taken, and what is on it
pub record OnItsWay {M : Type 0} (sent : List M) (taken : ℕ) (link : List M) : Type 0 where
  pub gone : List M
  pub many : length gone ≡ taken
  pub joins : sent ≡ gone ++ link

pub OnItsWay-goes_on : {M : Type 0} (sent : List M) (taken : ℕ) (link more : List M) (k : ℕ) → OnItsWay sent taken link
    → k ≤ length link → OnItsWay (sent ++ more) (taken + k) (drop k link ++ more)
OnItsWay-goes_on sent taken link more k way enough = record {
  gone = way.gone ++ take k link;
  many = omega (arith, length-append way.gone (take k link), length-take-le k link enough, way.many);
  joins = ap (λ l. l ++ more) (way.joins ∙ ap (λ l. way.gone ++ l) (sym (take-append-drop k link)))
      ∙ (ap (λ l. l ++ more) (sym (append_assoc way.gone (take k link) (drop k link)))
      ∙ append_assoc (way.gone ++ take k link) (drop k link) more);
}

-- what is on a link, by what was sent and how much of it was taken
pub OnItsWay-link : {M : Type 0} (sent : List M) (taken : ℕ) (link : List M) → OnItsWay sent taken link → link ≡ drop taken sent
OnItsWay-link sent taken link way =
    sym (ap (λ n. drop n sent) (sym way.many) ∙ (ap (drop (length way.gone)) way.joins ∙ drop-append_seam way.gone link))

-- no more was taken than was sent
pub OnItsWay-taken : {M : Type 0} {sent : List M} {taken : ℕ} {link : List M} → OnItsWay sent taken link → taken ≤ length sent
OnItsWay-taken {link = link} way = omega (arith, way.many, ap length way.joins, length-append way.gone link)

-- ---- capacities
pub within-sent : {M : Type 0} (capacity : Option ℕ) (link : List M) (message : M)
    → has_room capacity link ≡ true → IsWithin capacity (link ++ message ∷ [])
within-sent None link message room = tt
within-sent (Some capacity) link message room =
    let below : length link < capacity = ltb-true (length link) capacity room in
    omega (arith, length-append link (message ∷ []))

pub within-taken : {M : Type 0} (capacity : Option ℕ) (link : List M) → IsWithin capacity link → IsWithin capacity (drop 1 link)
within-taken None link within = tt
within-taken (Some capacity) link within = omega (arith, length-drop 1 link)
