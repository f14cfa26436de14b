-- The words of a row are taken in it, or are on their way until they are.
use Rattle.std.proofs.Common.{◌≡◌, ℕ, ◌*◌, ◌<◌, ◌≤◌, List, [], ◌∷◌, ◌++◌, length, All, Option, Some, None, sym, ◌∙◌, ap, ap₂, subst, arith, append-nil, length-append, le_trans}
use Rattle.std.proofs.lemmas.Grind.{flat_map-append}
use Rattle.std.proofs.lemmas.List.{length-replicate}
use Rattle.std.proofs.lemmas.List.Elements.{All-head, All-tail}
use Rattle.std.specs.List.{flat_map}
use Rattle.grid_meaning.specs.of_grid_links.Links.{IsWithin}
use Rattle.grid_meaning.specs.of_grid_links.declared.messages.Message.{Message}
use Rattle.grid_meaning.specs.of_grid_links.Run.{count_of}
use Rattle.grid_meaning.specs.of_node_form.declared.tables.Tables.{Tables}
use Rattle.grid_meaning.specs.Grid.{IsCapacity, system_over}
use Rattle.grid_paths.specs.Tree.{times}
use Rattle.row_orders.specs.Rows.{messages, Flight, flight_messages, IsFlight, HasRoom, Deliver, Exchange}
use Rattle.row_orders.proofs.DeliveryLemmas.{meets}

within_one : (links : Option ℕ) (link : List Message) → IsCapacity links → length link ≤ 1
    → IsWithin links link
within_one None link capable short = tt
within_one (Some capacity) link capable short = le_trans short capable

pub delivers : (code : Tables) (links : Option ℕ) → IsCapacity links → Deliver code links
delivers code links capable row one other shown is =
    meets code links row one other shown is.acting (λ p q. []) (λ p q. []) (record {
      balance = λ p q a b.
          ap₂ (messages is.acting.tag) (is.partners.both_ways p q a b) (sym (is.heard p q))
          ∙ sym (append-nil (messages is.acting.tag (times p (is.acting.from q))
          (is.acting.heard p q)));
      rooms = λ p q a b.
          within_one links (messages is.acting.tag (times q (is.acting.to p)) (is.acting.words p q))
          capable
          (subst (λ n. n ≤ 1) (sym (length-replicate (times q (is.acting.to p)) _))
          (is.partners.once p q a b));
    })

-- ---- flights
abbrev on_way : List Flight → ℕ → ℕ → List Message
on_way flights p q = flat_map (λ flight. flight_messages flight p q) flights

few : (count : ℕ) (flights : List Flight) (p q : ℕ) → p < count → q < count
    → All (IsFlight count) flights
    → length (on_way flights p q) ≤ length flights
few count [] p q a b are = omega arith
few count (flight ∷ flights) p q a b are =
    let rest = few count flights p q a b (All-tail (IsFlight count) flight flights are) in
    let first : times q (flight.to p) ≤ 1 = All-head (IsFlight count) flight flights are p q a b in
    omega (
      arith,
      rest,
      first,
      length-append (flight_messages flight p q) (on_way flights p q),
      length-replicate (times q (flight.to p))
          (let m : Message = record { tag = 2 * flight.exchange; words = flight.words p q } in m),
    )

within_room : (links : Option ℕ) (link : List Message) (many : ℕ) → HasRoom links many → length link
    ≤ many → IsWithin links link
within_room None link many room short = tt
within_room (Some capacity) link many room short = le_trans short room

pub exchanges : (code : Tables) (links : Option ℕ) → Exchange code links
exchanges code links = record {
  starts = λ row one other shown flight flights is are room.
      let same : (p q : ℕ) → messages is.acting.tag (times q (is.acting.to p)) (is.acting.words p q)
      ≡ flight_messages flight p q = λ p q.
      ap₂ (λ t w. messages t (times q (is.acting.to p)) w) is.tag (is.words p q)
      ∙ ap (λ to. messages (2 * flight.exchange) (times q to) (flight.words p q)) (is.to p) in
      let joined : (p q : ℕ) → on_way flights p q
      ++ messages is.acting.tag (times q (is.acting.to p)) (is.acting.words p q)
      ≡ on_way (flights ++ flight ∷ []) p q = λ p q.
      ap (λ m. on_way flights p q ++ m) (same p q ∙ sym (append-nil (flight_messages flight p q)))
      ∙ sym (flat_map-append (λ f. flight_messages f p q) flights (flight ∷ [])) in
      meets code links row one other shown is.acting (on_way flights)
      (on_way (flights ++ flight ∷ [])) (record {
        balance = λ p q a b.
            joined p q
            ∙ ap (λ from. messages is.acting.tag (times p from) (is.acting.heard p q)
            ++ on_way (flights ++ flight ∷ []) p q) (sym (is.from q));
        rooms = λ p q a b.
            subst (IsWithin links) (sym (joined p q))
            (within_room links (on_way (flights ++ flight ∷ []) p q)
            (length (flights ++ flight ∷ [])) room
            (few (count_of (system_over code links)) (flights ++ flight ∷ []) p q a b are));
      });
  finishes = λ row one other shown flight flights is are room.
      let none : (p q : ℕ) → on_way (flight ∷ flights) p q
      ++ messages is.acting.tag (times q (is.acting.to p)) (is.acting.words p q)
      ≡ on_way (flight ∷ flights) p q = λ p q.
      ap (λ to. on_way (flight ∷ flights) p q
      ++ messages is.acting.tag (times q to) (is.acting.words p q)) (is.to p)
      ∙ append-nil (on_way (flight ∷ flights) p q) in
      meets code links row one other shown is.acting (on_way (flight ∷ flights)) (on_way flights)
      (record {
        balance = λ p q a b.
            none p q
            ∙ sym (ap (λ m. m ++ on_way flights p q)
            (ap₂ (λ t w. messages t (times p (is.acting.from q)) w) is.tag (is.words p q)
            ∙ ap (λ n. messages (2 * flight.exchange) n (flight.words p q))
            (sym (is.from p q a b))));
        rooms = λ p q a b.
            subst (IsWithin links) (sym (none p q))
            (within_room links (on_way (flight ∷ flights) p q) (length (flight ∷ flights)) room
            (few (count_of (system_over code links)) (flight ∷ flights) p q a b are));
      });
}
