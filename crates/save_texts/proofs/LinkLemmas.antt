-- What is on links to which messages were sent, one after another.
use Rattle.std.proofs.Common.{◌≡◌, ℕ, zero, suc, ◌+◌, ◌*◌, ◌<◌, ◌≤◌, ◌==◌, Bool, true, false, cond, List, [], ◌∷◌, ◌++◌, length, get_or, replicate, refl, sym, ◌∙◌, ap, subst, arith, append_assoc, append-nil, length-set, Some, None}
use Rattle.grid_links.specs.declared.messages.Message.{Message}
use Rattle.grid_links.specs.Links.{link_of}
use Rattle.grid_links.specs.Network.{Network, empty_network, sending}
use Rattle.grid_links.specs.Run.{message_where}
use Rattle.grid_links.proofs.LinkLemmas.{link_of-links_sent, sent_where}
use Rattle.grid_save.proofs.CutLemmas.{Every}
use Rattle.save_texts.proofs.Groups.{differs_test, same_test}
use Rattle.save_texts.specs.Links.{sending_all, sending_each, sent_to}

-- links of so many processors
pub record AreLinks (count : ℕ) (network : Network) : Type 0 where
  pub counted : network.count ≡ count
  pub many : length network.links ≡ count * count

-- the messages of a sender that are on a link, by whether it is the link's
abbrev from_where : Bool → ℕ → List (ℕ × Message) → List Message
from_where true q sents = sent_to q sents
from_where false q sents = []

from_more : (asked : Bool) (q : ℕ) (sent : ℕ × Message) (more : List (ℕ × Message)) →
    sent_where asked q (Some sent) ++ from_where asked q more ≡ from_where asked q (sent ∷ more)
from_more false q sent more = refl
from_more true q sent more = by (sent.0 == q) where
  by : (b : Bool) → message_where b sent.1 ++ sent_to q more ≡ cond b (sent.1 ∷ sent_to q more) (sent_to q more)
  by true = refl
  by false = refl

module _ (count : ℕ) where
  sending_are : (network : Network) (p q : ℕ) (message : Message) → AreLinks count network → AreLinks count (sending network p q message)
  sending_are network p q message are = record { counted = are.counted; many = length-set network.links _ _ ∙ are.many }

  -- one message more
  one_more : (network : Network) (p : ℕ) (sent : ℕ × Message) (from to : ℕ) → AreLinks count network → p < count → sent.0 < count → to < count →
      link_of count (sending network p sent.0 sent.1).links from to ≡ link_of count network.links from to ++ sent_where (p == from) to (Some sent)
  one_more network p sent from to are below there reached =
      let same = are.counted in
      rw same (link_of-links_sent count network.links p (Some sent) from to are.many below there reached)

  pub all_are : (network : Network) (p : ℕ) (sents : List (ℕ × Message)) → AreLinks count network → AreLinks count (sending_all p sents network)
  all_are network p [] are = are
  all_are network p (sent ∷ more) are = all_are (sending network p sent.0 sent.1) p more (sending_are network p sent.0 sent.1 are)

  all_on : (network : Network) (p : ℕ) (sents : List (ℕ × Message)) (from to : ℕ) → AreLinks count network → p < count → Every (λ sent. sent.0 < count) sents → to < count →
      link_of count (sending_all p sents network).links from to ≡ link_of count network.links from to ++ from_where (p == from) to sents
  all_on network p [] from to are below there reached = by (p == from) where
    by : (b : Bool) → link_of count network.links from to ≡ link_of count network.links from to ++ from_where b to []
    by true = sym (append-nil (link_of count network.links from to))
    by false = sym (append-nil (link_of count network.links from to))
  all_on network p (sent ∷ more) from to are below there reached =
      all_on (sending network p sent.0 sent.1) p more from to (sending_are network p sent.0 sent.1 are) below there.1 reached
      ∙ (ap (λ link. link ++ from_where (p == from) to more) (one_more network p sent from to are below there.0 reached)
      ∙ (append_assoc (link_of count network.links from to) (sent_where (p == from) to (Some sent)) (from_where (p == from) to more)
      ∙ ap (λ ms. link_of count network.links from to ++ ms) (from_more (p == from) to sent more)))

  pub each_are : (network : Network) (p : ℕ) (sentss : List (List (ℕ × Message))) → AreLinks count network → AreLinks count (sending_each p sentss network)
  each_are network p [] are = are
  each_are network p (sents ∷ more) are = each_are (sending_all p sents network) (p + 1) more (all_are network p sents are)

  -- a link from a processor that has sent nothing yet stays
  before_all : (network : Network) (p : ℕ) (sentss : List (List (ℕ × Message))) (from to : ℕ) → AreLinks count network → p + length sentss ≤ count →
      Every (Every (λ sent. sent.0 < count)) sentss → to < count → from < p →
      link_of count (sending_each p sentss network).links from to ≡ link_of count network.links from to
  before_all network p [] from to are within there reached less = refl
  before_all network p (sents ∷ more) from to are within there reached less =
      let test = differs_test p from (λ same. let e : p ≡ from = same in omega (arith, less, e)) in
      let here = all_on network p sents from to are (omega (arith, within)) there.0 reached in
      before_all (sending_all p sents network) (p + 1) more from to (all_are network p sents are) (omega (arith, within)) there.1 reached (omega (arith, less))
      ∙ (here ∙ (ap (λ b. link_of count network.links from to ++ from_where b to sents) test ∙ append-nil (link_of count network.links from to)))

  each_on : (network : Network) (p : ℕ) (sentss : List (List (ℕ × Message))) (k to : ℕ) → AreLinks count network → p + length sentss ≤ count →
      Every (Every (λ sent. sent.0 < count)) sentss → to < count → k < length sentss →
      link_of count (sending_each p sentss network).links (p + k) to ≡ link_of count network.links (p + k) to ++ sent_to to (get_or sentss k [])
  each_on network p [] k to are within there reached inside = absurd (omega (arith, inside))
  each_on network p (sents ∷ more) zero to are within there reached inside =
      let e : p + 0 ≡ p = omega arith in
      let here = all_on network p sents p to are (omega (arith, within)) there.0 reached in
      let later = before_all (sending_all p sents network) (p + 1) more p to (all_are network p sents are) (omega (arith, within)) there.1 reached (omega arith) in
      rw e (later ∙ (here ∙ ap (λ b. link_of count network.links p to ++ from_where b to sents) (same_test p)))
  each_on network p (sents ∷ more) (suc k) to are within there reached inside =
      let e : p + suc k ≡ (p + 1) + k = omega arith in
      let test = differs_test p ((p + 1) + k) (λ same. let f : p ≡ (p + 1) + k = same in omega (arith, f)) in
      let here = all_on network p sents ((p + 1) + k) to are (omega (arith, within)) there.0 reached in
      let later = each_on (sending_all p sents network) (p + 1) more k to (all_are network p sents are) (omega (arith, within)) there.1 reached (omega (arith, inside)) in
      rw e (later ∙ ap (λ link. link ++ sent_to to (get_or more k []))
      (here ∙ (ap (λ b. link_of count network.links ((p + 1) + k) to ++ from_where b to sents) test ∙ append-nil (link_of count network.links ((p + 1) + k) to))))

  empty_are : AreLinks count (empty_network count None)
  empty_are = record { counted = refl; many = long (count * count) } where
    long : (n : ℕ) → length (replicate {A = List Message} n []) ≡ n
    long zero = refl
    long (suc n) = ap suc (long n)

  empty_link : (n i : ℕ) → get_or (replicate {A = List Message} n []) i [] ≡ []
  empty_link zero i = refl
  empty_link (suc n) zero = refl
  empty_link (suc n) (suc i) = empty_link n i

  -- all messages that were sent, and no others
  pub record OnLinks (sentss : List (List (ℕ × Message))) (links : List (List Message)) : Type 0 where
    pub many : length links ≡ count * count
    pub each : (p q : ℕ) → p < count → q < count → link_of count links p q ≡ sent_to q (get_or sentss p [])

  pub on_links : (sentss : List (List (ℕ × Message))) → length sentss ≡ count → Every (Every (λ sent. sent.0 < count)) sentss →
      OnLinks sentss (sending_each 0 sentss (empty_network count None)).links
  on_links sentss long there = record {
    many = (each_are (empty_network count None) 0 sentss empty_are).many;
    each = λ p q below reached.
        let from : 0 + p ≡ p = omega arith in
        let at = each_on (empty_network count None) 0 sentss p q empty_are (omega (arith, long)) there reached (omega (arith, below, long)) in
        let on : link_of count (sending_each 0 sentss (empty_network count None)).links p q ≡ link_of count (empty_network count None).links p q ++ sent_to q (get_or sentss p []) =
        subst (λ k. link_of count (sending_each 0 sentss (empty_network count None)).links k q ≡ link_of count (empty_network count None).links k q ++ sent_to q (get_or sentss p [])) from at in
        let none : link_of count (empty_network count None).links p q ≡ [] = empty_link (count * count) (p * count + q) in
        on ∙ ap (λ link. link ++ sent_to q (get_or sentss p [])) none;
  }
