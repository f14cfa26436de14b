-- A row is two rounds: each acts alone and sends, then each takes and goes on.
use Rattle.std.proofs.Common.{◌≡◌, ℕ, ◌+◌, ◌<◌, ◌≤◌, Bool, true, false, List, [], ◌∷◌, ◌++◌, length, map, replicate, Option, Some, None, refl, sym, ◌∙◌, ap, ap₂, subst, arith, append_assoc, append-nil, length-append}
use Rattle.std.proofs.lemmas.List.{length-map}
use Rattle.grid_meaning.specs.of_grid_links.Links.{IsWithin}
use Rattle.grid_meaning.specs.of_grid_links.declared.messages.Message.{Message}
use Rattle.grid_meaning.specs.of_grid_links.Machine.{Goes}
use Rattle.grid_meaning.specs.of_grid_links.Run.{count_of}
use Rattle.grid_meaning.specs.of_node_form.declared.tables.Tables.{Tables}
use Rattle.grid_meaning.specs.Collective.{Collective, Stage, Sends, TakesFrom, Last}
use Rattle.grid_meaning.specs.Grid.{system_over}
use Rattle.grid_meaning.specs.Local.{Local}
use Rattle.grid_meaning.specs.Turn.{processes}
use Rattle.grid_paths.specs.Path.{Event, Quiet, Sent, Taken, IsPath, NamesOthers, messages_to, messages_from, shown_in}
use Rattle.grid_paths.specs.Scene.{Scene, Leads}
use Rattle.grid_paths.specs.Laws.{IsOnceEach, Round}
use Rattle.grid_paths.proofs.RoundLemmas.{leads_agreed, leads_through, runs_in_turn}
use Rattle.grid_paths.specs.Tree.{times}
use Rattle.row_orders.specs.Rows.{at_turn, KeepsRow, IsBlind, alone_where, alone_stage, IsAtRow, Acting, Balances, scene_of, Meet}
use Rattle.row_orders.proofs.StageLemmas.{alone_step, at_row_kept, keeps_same, last_step, sends_path, takes_path}
use Rattle.grid_paths.proofs.EventLemmas.{path_through, messages_to-append, messages_from-append, shown_in-append, named-append, sends_named, takes_named, sends_take_none, takes_send_none, sends_show_none, takes_show_none, sends_send, takes_take}

pub in_order : (count : ℕ) → IsOnceEach count (λ k. k) (λ p. p)
in_order count = record {
  at_below = λ k below. below;
  place_below = λ p below. below;
  place_at = λ k below. refl;
  at_place = λ p below. refl;
}

abbrev alone_events : Bool → List (Event Message)
alone_events true = Quiet [] ∷ []
alone_events false = []

alone_sends_none : (b : Bool) (q : ℕ) → messages_to q (alone_events b) ≡ []
alone_sends_none true q = refl
alone_sends_none false q = refl

alone_takes_none : (b : Bool) (q : ℕ) → messages_from q (alone_events b) ≡ []
alone_takes_none true q = refl
alone_takes_none false q = refl

alone_shows_none : (b : Bool) → shown_in (alone_events b) ≡ []
alone_shows_none true = refl
alone_shows_none false = refl

alone_named : (count p : ℕ) (b : Bool) → NamesOthers count p (alone_events b)
alone_named count p true = (tt, tt)
alone_named count p false = tt

alone_long : (b : Bool) → length (alone_events b) ≡ length (alone_stage b)
alone_long true = refl
alone_long false = refl

alone_path : (code : Tables) (p : ℕ) (row : Collective) (local next : Local) (b : Bool)
    (rest : List Stage)
    → IsAtRow code p row local → IsBlind row → row.stages local ≡ alone_stage b ++ rest → local.made
    ≡ 0
    → alone_where b row local ≡ Some next
    → IsPath (processes code) p local (alone_events b) (at_turn (length (alone_stage b)) next) ×
    KeepsRow row local next
alone_path code p row local next true rest at blind is made e = (
  (
    at_turn 1 next,
    subst (λ l. (processes code).act p l ≡ Goes (at_turn 1 next) None [])
        (ap (λ n. at_turn n local) (sym made))
        (alone_step code p row local next 0 [] rest at blind is refl e),
    refl,
  ),
  blind.keeps_alone local next e,
)
alone_path code p row local next false rest at blind is made e =
    let same : local ≡ next = cc in
    (ap₂ at_turn made same, subst (KeepsRow row local) same (keeps_same row local))

module _ (code : Tables) (links : Option ℕ) (row : ℕ → Collective) (one other : ℕ → Local)
    (shown : ℕ → List ℕ)
    (is : Acting code links row one other shown) (before behind : ℕ → ℕ → List Message)
    (balances : Balances code links row one other shown is before behind) where
  abbrev count : ℕ
  count = count_of (system_over code links)

  abbrev message : ℕ → ℕ → Message
  message p q = record { tag = is.tag; words = is.words p q }

  abbrev heard : ℕ → ℕ → Message
  heard p q = record { tag = is.tag; words = is.heard p q }

  abbrev sends : ℕ → List (Event Message)
  sends p = alone_events (is.alone p) ++ map (λ q. Sent q (message p q)) (is.to p)

  abbrev takes : ℕ → List (Event Message)
  takes p = map (λ q. Taken q (heard q p)) (is.from p) ++ Quiet (shown p) ∷ []

  abbrev halfway : Scene Local Message
  halfway = record {
    locals = λ p. at_turn (length (alone_stage (is.alone p)) + length (is.to p)) (is.middle p);
    links = λ p q. before p q ++ messages_to q (sends p);
  }

  begin : (p : ℕ) → p < count
      → IsPath (processes code) p (one p) (alone_events (is.alone p))
      (at_turn (length (alone_stage (is.alone p))) (is.middle p))
      × KeepsRow (row p) (one p) (is.middle p)
  begin p below =
      alone_path code p (row p) (one p) (is.middle p) (is.alone p)
      (map Sends (is.to p) ++ (map TakesFrom (is.from p) ++ Last ∷ []))
      (is.at_row p below) (is.blind p below) (is.stages p below) (is.made p below)
      (is.begins p below)

  sends_are : (p q : ℕ) → messages_to q (sends p) ≡ replicate (times q (is.to p)) (message p q)
  sends_are p q =
      messages_to-append q (alone_events (is.alone p)) (map (λ r. Sent r (message p r)) (is.to p))
      ∙ (ap (λ l. l ++ messages_to q (map (λ r. Sent r (message p r)) (is.to p)))
      (alone_sends_none (is.alone p) q)
      ∙ sends_send q (message p) (is.to p))

  takes_are : (p q : ℕ) → messages_from p (takes q) ≡ replicate (times p (is.from q)) (heard p q)
  takes_are p q =
      messages_from-append p (map (λ r. Taken r (heard r q)) (is.from q)) (Quiet (shown q) ∷ [])
      ∙ (append-nil (messages_from p (map (λ r. Taken r (heard r q)) (is.from q)))
      ∙ takes_take p (λ r. heard r q) (is.from q))

  sends_take : (p q : ℕ) → messages_from p (sends q) ≡ []
  sends_take p q =
      messages_from-append p (alone_events (is.alone q)) (map (λ r. Sent r (message q r)) (is.to q))
      ∙ ap₂ (λ a b. a ++ b) (alone_takes_none (is.alone q) p)
      (sends_take_none p (message q) (is.to q))

  takes_send : (p q : ℕ) → messages_to q (takes p) ≡ []
  takes_send p q =
      messages_to-append q (map (λ r. Taken r (heard r p)) (is.from p)) (Quiet (shown p) ∷ [])
      ∙ ap (λ l. l ++ []) (takes_send_none q (λ r. heard r p) (is.from p))

  after_sends : (p q : ℕ) → p < count → q < count
      → before p q ++ messages_to q (sends p) ≡ messages_from p (takes q) ++ behind p q
  after_sends p q a b =
      ap (λ l. before p q ++ l) (sends_are p q)
      ∙ (balances.balance p q a b ∙ sym (ap (λ l. l ++ behind p q) (takes_are p q)))

  enough : (p q : ℕ) → p < count → q < count
      → length (messages_from p (takes q)) ≤ length (before p q ++ messages_to q (sends p))
  enough p q a b =
      omega (
        arith,
        ap length (after_sends p q a b),
        length-append (messages_from p (takes q))
            (behind p q),
      )

  room : (p q : ℕ) → p < count → q < count → IsWithin links (before p q ++ messages_to q (sends p))
  room p q a b = subst (λ l. IsWithin links (before p q ++ l)) (sym (sends_are p q))
      (balances.rooms p q a b)

  first_round : Round (system_over code links) (λ p. p) sends (scene_of one before) halfway
  first_round = record {
    path = λ p below.
        let (path, keeps) = begin p below in
        path_through (processes code) p (one p) _ _ (alone_events (is.alone p))
        (map (λ q. Sent q (message p q)) (is.to p)) path
        (sends_path code p (row p) (is.middle p) (length (alone_stage (is.alone p))) _ is.tag
        (is.words p) (is.to p) (alone_stage (is.alone p))
        (map TakesFrom (is.from p) ++ Last ∷ [])
        (at_row_kept code p (row p) (one p) (is.middle p) keeps (is.at_row p below))
        (is.blind p below)
        (keeps.stages ∙ is.stages p below) refl refl (keeps.tag ∙ is.same_tag p below)
        (is.says p below));
    named = λ p below.
        named-append count p (alone_events (is.alone p)) (map (λ q. Sent q (message p q)) (is.to p))
        (alone_named count p (is.alone p))
        (sends_named count p (message p) (is.to p) (is.to_others p below));
    balance = λ p q a b. sym
        (ap (λ l. l ++ (before p q ++ messages_to q (sends p))) (sends_take p q));
    early = λ p q a b sooner. subst (λ l. length l ≤ length (before p q)) (sym (sends_take p q))
        (omega arith);
    rooms = room;
  }

  second_round : Round (system_over code links) (λ p. p) takes halfway (scene_of other behind)
  second_round = record {
    path = λ p below.
        let (path, keeps) = begin p below in
        let front : List Stage = alone_stage (is.alone p) ++ map Sends (is.to p) in
        let turn : ℕ = length (alone_stage (is.alone p)) + length (is.to p) in
        let many : length front ≡ turn =
        length-append (alone_stage (is.alone p)) (map Sends (is.to p))
        ∙ ap (λ n. length (alone_stage (is.alone p)) + n) (length-map (is.to p) Sends) in
        let at_middle : IsAtRow code p (row p) (is.middle p) = at_row_kept code p (row p) (one p)
        (is.middle p) keeps (is.at_row p below) in
        let stages : (row p).stages (is.middle p) ≡ front
        ++ (map TakesFrom (is.from p) ++ Last ∷ []) =
        keeps.stages ∙ (is.stages p below
        ∙ sym (append_assoc (alone_stage (is.alone p)) (map Sends (is.to p))
        (map TakesFrom (is.from p) ++ Last ∷ []))) in
        let (taken, kept) = takes_path code p (row p) (is.middle p) (is.final p) turn
        (turn + length (is.from p)) is.tag (λ q. is.heard q p) (is.from p)
        front (Last ∷ []) at_middle (is.blind p below) stages many refl
        (keeps.tag ∙ is.same_tag p below) (is.takes p below) in
        let all : length (front ++ map TakesFrom (is.from p)) ≡ turn + length (is.from p) =
        length-append front (map TakesFrom (is.from p))
        ∙ ap₂ (λ m n. m + n) many (length-map (is.from p) TakesFrom) in
        path_through (processes code) p _ _ (other p) (map (λ q. Taken q (heard q p)) (is.from p))
        (Quiet (shown p) ∷ []) taken (
          other p,
          last_step code p (row p) (is.final p) (other p) (turn + length (is.from p))
              (shown p) (front ++ map TakesFrom (is.from p))
              (at_row_kept code p (row p) (is.middle p) (is.final p) kept at_middle)
              (is.blind p below)
              (kept.stages ∙ (stages
              ∙ sym (append_assoc front (map TakesFrom (is.from p)) (Last ∷ []))))
              all (is.ends p below),
          refl,
        );
    named = λ p below.
        named-append count p (map (λ q. Taken q (heard q p)) (is.from p)) (Quiet (shown p) ∷ [])
        (takes_named count p (λ q. heard q p) (is.from p) (is.from_others p below)) (tt, tt);
    balance = λ p q a b.
        ap (λ l. (before p q ++ messages_to q (sends p)) ++ l) (takes_send p q)
        ∙ (append-nil (before p q ++ messages_to q (sends p)) ∙ after_sends p q a b);
    early = λ p q a b sooner. enough p q a b;
    rooms = λ p q a b.
        subst (IsWithin links)
        (sym (ap (λ l. (before p q ++ messages_to q (sends p)) ++ l) (takes_send p q)
        ∙ append-nil (before p q ++ messages_to q (sends p))))
        (room p q a b);
  }

  delivered_all : Leads (system_over code links) (scene_of one before) (scene_of other behind)
      (λ p. length ((row p).stages (one p))) shown
  delivered_all =
      leads_agreed (system_over code links) (scene_of one before) (scene_of other behind)
      (scene_of one before) (scene_of other behind) _ _ _ _
      (record { local = λ p below. refl; link = λ p q a b. refl })
      (record { local = λ p below. refl; link = λ p q a b. refl })
      (λ p below. long p below) (λ p below. show p)
      (leads_through (system_over code links) (scene_of one before) halfway (scene_of other behind)
      _ _ _ _
      (runs_in_turn (system_over code links) (λ k. k) (λ p. p) sends (scene_of one before) halfway
      (in_order count) first_round)
      (runs_in_turn (system_over code links) (λ k. k) (λ p. p) takes halfway (scene_of other behind)
      (in_order count) second_round))
    where
      long : (p : ℕ) → p < count → length (sends p) + length (takes p)
          ≡ length ((row p).stages (one p))
      long p below =
          let a : List Stage = alone_stage (is.alone p) in
          omega (
            arith,
            ap length (is.stages p below),
            alone_long (is.alone p),
            length-append
                (alone_events (is.alone p)) (map (λ q. Sent q (message p q)) (is.to p)),
            length-append (map (λ q. Taken q (heard q p)) (is.from p)) (Quiet (shown p) ∷ []),
            length-append a (map Sends (is.to p) ++ (map TakesFrom (is.from p) ++ Last ∷ [])),
            length-append (map Sends (is.to p)) (map TakesFrom (is.from p) ++ Last ∷ []),
            length-append (map TakesFrom (is.from p)) (Last ∷ []),
            length-map (is.to p) Sends,
            length-map (is.from p) TakesFrom,
            length-map (is.to p)
                (λ q. sent_one p q),
            length-map (is.from p) (λ q. took_one p q),
          )
        where
          sent_one : ℕ → ℕ → Event Message
          sent_one p q = Sent q (message p q)

          took_one : ℕ → ℕ → Event Message
          took_one p q = Taken q (heard q p)

      show : (p : ℕ) → shown_in (sends p) ++ shown_in (takes p) ≡ shown p
      show p =
          ap₂ (λ x y. x ++ y)
          (shown_in-append (alone_events (is.alone p)) (map (λ q. Sent q (message p q)) (is.to p))
          ∙ ap₂ (λ x y. x ++ y) (alone_shows_none (is.alone p))
          (sends_show_none (message p) (is.to p)))
          (shown_in-append (map (λ q. Taken q (heard q p)) (is.from p)) (Quiet (shown p) ∷ [])
          ∙ ap₂ (λ x y. x ++ y) (takes_show_none (λ q. heard q p) (is.from p))
          (append-nil (shown p)))

pub meets : (code : Tables) (links : Option ℕ) → Meet code links
meets code links row one other shown acting before behind balances =
    delivered_all code links row one other shown acting before behind balances
