-- Where some stay away from an agreement, all others come to wait.
use Rattle.std.proofs.Common.{◌≡◌, ℕ, ◌+◌, ◌*◌, ◌<◌, Bool, true, false, ℤ, List, [], ◌∷◌, ◌++◌, length, map, Option, Some, None, refl, sym, ◌∙◌, ap, ap₂, arith, append_assoc, length-append, eq-eqb, lt-ltb}
use Rattle.std.proofs.lemmas.List.{length-map, map-append}
use Rattle.grid_meaning.specs.of_grid_links.Links.{has_room}
use Rattle.grid_meaning.specs.of_grid_links.declared.messages.Message.{Message}
use Rattle.grid_meaning.specs.of_grid_links.Machine.{Goes, Awaits, Takes}
use Rattle.grid_meaning.specs.of_grid_links.Run.{count_of}
use Rattle.grid_meaning.specs.of_node_form.declared.tables.Tables.{Tables}
use Rattle.grid_meaning.specs.Action.{Action}
use Rattle.grid_meaning.specs.Collective.{Collective, Stage, Sends, TakesFrom, Last, Kin, agreed, agreeing_stages, joined_values, keeping, value_for, word_from}
use Rattle.grid_meaning.specs.Grid.{IsCapacity, system_over}
use Rattle.grid_meaning.specs.Local.{Local}
use Rattle.grid_meaning.specs.Turn.{act, act_in, fed, processes}
use Rattle.grid_paths.specs.Tree.{parents, Climbs, Halting}
use Rattle.grid_paths.proofs.HaltLemmas.{halts}
use Rattle.row_orders.specs.Rows.{at_turn, KeepsRow, IsBlind, IsAtRow, quiet_scene}
use Rattle.row_orders.specs.Agreement.{gathered, tree_of, Partly, Halt}
use Rattle.row_orders.proofs.StageLemmas.{act_here, at_row_kept, keeps_same, keeps_through, send_step, stage_at, take_step}
use Rattle.row_orders.proofs.AgreementLemmas.{agreed_blind, agreed_keeps, stages_are}

-- ---- words that are kept one after another
gathered-last : (value : ℕ → ℤ) (local : Local) (front : List ℕ) (c : ℕ)
    → gathered value local (front ++ c ∷ []) ≡ keeping (gathered value local front) c (value c ∷ [])
gathered-last value local [] c = refl
gathered-last value local (q ∷ front) c =
    gathered-last value (keeping local q (value q ∷ [])) front c

module _ (code : Tables) (links : Option ℕ) (kin : ℕ → Kin) (join : ℤ → ℤ → ℤ) (own : Local → ℤ)
    (last : Local → ℤ → Action) (away : ℕ → Bool) (bytes : ℕ → List (List ℕ)) (one on : ℕ → Local)
    (is : Partly code links kin join own last away bytes one on) where
  abbrev count : ℕ
  count = count_of (system_over code links)

  abbrev row : ℕ → Collective
  row p = agreed (kin p) join own last

  abbrev message : ℕ → Message
  message p = record { tag = 2 * is.at + 1; words = is.sum p ∷ [] }

  abbrev heard : ℕ → List ℕ → Local
  heard p front = gathered is.sum (one p) front

  abbrev behind : ℕ → List Stage
  behind p = map Sends (kin p).children ++ Last ∷ []

  blind : (p : ℕ) → IsBlind (row p)
  blind p = agreed_blind (kin p) join own last is.blind_own is.blind_last

  gathered_keeps : (p : ℕ) (local : Local) (front : List ℕ)
      → KeepsRow (row p) local (gathered is.sum local front)
  gathered_keeps p local [] = keeps_same (row p) local
  gathered_keeps p local (q ∷ front) =
      keeps_through (row p) local (keeping local q (is.sum q ∷ []))
      (gathered is.sum (keeping local q (is.sum q ∷ [])) front)
      (agreed_keeps (kin p) join own last local (keeping local q (is.sum q ∷ [])) q (is.sum q ∷ [])
      refl)
      (gathered_keeps p (keeping local q (is.sum q ∷ [])) front)

  module _ (p : ℕ) (below : p < count) (here : away p ≡ false) where
    stands : (front : List ℕ) → IsAtRow code p (row p) (heard p front)
    stands front =
        at_row_kept code p (row p) (one p) (heard p front) (gathered_keeps p (one p) front)
        (is.at_row p below here)

    tagged : (front : List ℕ) → (row p).tag (heard p front) ≡ 2 * is.at + 1
    tagged front =
        (gathered_keeps p (one p) front).tag ∙ ap (λ n. 2 * n + 1) (is.same_at p below here)

    begins : at_turn 0 (one p) ≡ one p
    begins = ap (λ n. at_turn n (one p)) (sym (is.made p below here))

    -- the stages behind those that took from some children
    hearing : (front rest : List ℕ) (c : ℕ) → (kin p).children ≡ front ++ c ∷ rest
        → (after : List Stage) ×
        (agreeing_stages (kin p) ≡ map TakesFrom front ++ TakesFrom c ∷ after)
    hearing front rest c children =
        let tail : List Stage =
        map Sends (parents (kin p).parent)
        ++ (map TakesFrom (parents (kin p).parent) ++ behind p) in (
          map TakesFrom rest ++ tail,
          stages_are (kin p)
              ∙ (ap (λ l. map TakesFrom l ++ tail) children
              ∙ (ap (λ l. l ++ tail) (map-append TakesFrom front (c ∷ rest))
              ∙ append_assoc (map TakesFrom front) (TakesFrom c ∷ map TakesFrom rest) tail)),
        )

    awaits_child : (front rest : List ℕ) (c : ℕ) → (kin p).children ≡ front ++ c ∷ rest
        → act code p (at_turn (length front) (heard p front)) ≡ Awaits c
    awaits_child front rest c children =
        let (after, stages) = hearing front rest c children in
        act_here code p (row p) (heard p front) (length front) (stands front)
        ∙ ap (act_in (row p) (at_turn (length front) (heard p front)))
        (stage_at (row p) (heard p front) (length front) (map TakesFrom front) after (TakesFrom c)
        (blind p) stages (length-map front TakesFrom))

    takes : (front rest : List ℕ) (c : ℕ) → (kin p).children ≡ front ++ c ∷ rest
        → fed code p (at_turn (length front) (heard p front)) (message c)
        ≡ Takes (at_turn (length (front ++ c ∷ [])) (heard p (front ++ c ∷ [])))
    takes front rest c children =
        let (after, stages) = hearing front rest c children in
        (take_step code p (row p) (heard p front) (keeping (heard p front) c (is.sum c ∷ []))
        (length front) c (message c) (map TakesFrom front) after (stands front) (blind p) stages
        (length-map front TakesFrom) (sym (tagged front)) refl).1
        ∙ ap Takes (ap₂ at_turn (sym (length-append front (c ∷ [])))
        (sym (gathered-last is.sum (one p) front c)))

    -- the stages behind those that took from all children
    telling : (q : ℕ) → (kin p).parent ≡ Some q → agreeing_stages (kin p)
        ≡ map TakesFrom (kin p).children ++ (Sends q ∷ (TakesFrom q ∷ behind p))
    telling q parent =
        stages_are (kin p)
        ∙ ap (λ l. map TakesFrom (kin p).children ++ (map Sends l ++ (map TakesFrom l ++ behind p)))
        (ap parents parent)

    says : (q : ℕ) → (kin p).parent ≡ Some q
        → (row p).words_to (heard p (kin p).children) q ≡ Some (is.sum p ∷ [])
    says q parent =
        ap (λ o. Some (value_for (kin p) join own o (heard p (kin p).children) q ∷ [])) parent
        ∙ (ap (λ b. Some (Rattle.std.specs.Bool.if◌then◌else◌ b
        (joined_values (kin p) join own (heard p (kin p).children))
        (word_from (heard p (kin p).children) q) ∷ [])) (eq-eqb q q refl)
        ∙ ap (λ v. Some (v ∷ [])) (is.sums p below here))

    sends : (q : ℕ) → (kin p).parent ≡ Some q
        → act code p (at_turn (length (kin p).children) (heard p (kin p).children))
        ≡ Goes (at_turn (length (kin p).children + 1) (heard p (kin p).children))
        (Some (q, message p)) []
    sends q parent =
        send_step code p (row p) (heard p (kin p).children) (length (kin p).children) q
        (is.sum p ∷ []) (map TakesFrom (kin p).children) (TakesFrom q ∷ behind p)
        (stands (kin p).children) (blind p) (telling q parent)
        (length-map (kin p).children TakesFrom) (says q parent)
        ∙ ap (λ (t : ℕ). let action : Action = Goes
        (at_turn (length (kin p).children + 1) (heard p (kin p).children))
        (Some (q, record { tag = t; words = is.sum p ∷ [] })) [] in action)
        (tagged (kin p).children)

    awaits_parent : (q : ℕ) → (kin p).parent ≡ Some q
        → act code p (at_turn (length (kin p).children + 1) (heard p (kin p).children)) ≡ Awaits q
    awaits_parent q parent =
        act_here code p (row p) (heard p (kin p).children) (length (kin p).children + 1)
        (stands (kin p).children)
        ∙ ap (act_in (row p) (at_turn (length (kin p).children + 1) (heard p (kin p).children)))
        (stage_at (row p) (heard p (kin p).children) (length (kin p).children + 1)
        (map TakesFrom (kin p).children ++ Sends q ∷ []) (behind p) (TakesFrom q) (blind p)
        (telling q parent
        ∙ sym (append_assoc (map TakesFrom (kin p).children) (Sends q ∷ [])
        (TakesFrom q ∷ behind p)))
        (length-append (map TakesFrom (kin p).children) (Sends q ∷ [])
        ∙ ap (λ n. n + 1) (length-map (kin p).children TakesFrom)))

    climbs : Climbs (processes code) (tree_of kin) message p (one p)
    climbs = record {
      heard = λ front. at_turn (length front) (heard p front);
      begins = begins;
      awaits_child = awaits_child;
      takes = takes;
      told = at_turn (length (kin p).children + 1) (heard p (kin p).children);
      sends = sends;
      awaits_parent = awaits_parent;
    }

  halting : IsCapacity links → Halting (system_over code links) (tree_of kin) message away bytes
      (quiet_scene one) on
  halting capable = record {
    is_tree = is.is_tree;
    room = room links capable;
    quiet = λ p q a b. refl;
    some = is.some;
    some_below = is.some_below;
    some_away = is.some_away;
    alone = is.alone;
    climbs = climbs;
  }
    where
      room : (capacity : Option ℕ) → IsCapacity capacity → has_room {M = Message} capacity [] ≡ true
      room None able = refl
      room (Some capacity) able = lt-ltb 0 capacity (omega (arith, able))

pub halt : (code : Tables) (links : Option ℕ) → IsCapacity links → Halt code links
halt code links capable kin join own last away bytes one on is =
    halts (system_over code links) (tree_of kin)
    (message code links kin join own last away bytes one on is) away bytes (quiet_scene one) on
    (halting code links kin join own last away bytes one on is capable)
