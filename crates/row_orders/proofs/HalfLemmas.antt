-- Half rounds, and the rows that are made of them.
use Rattle.std.proofs.Common.{◌≡◌, ℕ, ◌+◌, ◌<◌, ◌≤◌, Bool, true, false, cond, ℤ, List, [], ◌∷◌, ◌++◌, length, map, Option, Some, None, refl, sym, ◌∙◌, ap, subst, arith, append-nil, length-append, eq-eqb}
use Rattle.std.proofs.lemmas.List.{length-map, length-replicate}
use Rattle.grid_meaning.specs.of_grid_links.Links.{IsWithin}
use Rattle.grid_meaning.specs.of_grid_links.declared.messages.Message.{Message}
use Rattle.grid_meaning.specs.of_grid_links.Machine.{Goes, Takes, Refuses}
use Rattle.grid_meaning.specs.of_grid_links.Run.{count_of}
use Rattle.grid_meaning.specs.of_node_form.declared.tables.Tables.{Tables}
use Rattle.grid_meaning.specs.Action.{Action, WrongTag, WrongLength}
use Rattle.grid_meaning.specs.Collective.{Collective}
use Rattle.grid_meaning.specs.Grid.{IsCapacity, system_over}
use Rattle.grid_meaning.specs.Local.{Local}
use Rattle.grid_meaning.specs.Turn.{act_in, fed_in, processes, sends, takes}
use Rattle.grid_paths.specs.Path.{AreOthers, Event, Sent, Taken, IsPath, messages_from}
use Rattle.grid_paths.specs.Scene.{Leads}
use Rattle.grid_paths.proofs.RoundLemmas.{leads_agreed, leads_through, runs_in_turn}
use Rattle.grid_paths.specs.Tree.{times}
use Rattle.row_orders.specs.Rows.{taken_where, ArePartners, messages, scene_of, quiet_scene}
use Rattle.row_orders.specs.Halves.{more, Sending, Taking, Remap}
use Rattle.row_orders.proofs.StageLemmas.{act_here, fed_here}
use Rattle.grid_paths.proofs.EventLemmas.{sends_named, takes_named, sends_take_none, takes_send_none, sends_show_none, takes_show_none, sends_send, takes_take}
use Rattle.row_orders.proofs.DeliveryLemmas.{in_order}
use Rattle.row_orders.proofs.QuietLemmas.{goes_once}

abbrev message : ℕ → (ℕ → List ℤ) → ℕ → Message
message tag words q = record { tag = tag; words = words q }

sending_path : (code : Tables) (p : ℕ) (row : Collective) (tag : ℕ) (words : ℕ → List ℤ)
    (one : Local) (to : List ℕ) (other : Local)
    → Sending code p row tag words one to other
    → IsPath (processes code) p one (map (λ q. Sent q (message tag words q)) to) other
sending_path code p row tag words one [] other is = is
sending_path code p row tag words one (q ∷ to) other (at, tagged, stage, says, rest) = (
  more one,
  act_here code p row one one.made at
      ∙ (ap (act_in row one) stage ∙ (ap (sends row one q) says
      ∙ ap (λ (t : ℕ). let action : Action = Goes (more one)
      (Some (q, record { tag = t; words = words q })) [] in action) tagged)),
  sending_path code p row tag words (more one) to other rest,
)

taking_path : (code : Tables) (p : ℕ) (row : Collective) (tag : ℕ) (words : ℕ → List ℤ)
    (one : Local) (from : List ℕ) (other : Local)
    → Taking code p row tag words one from other
    → IsPath (processes code) p one (map (λ q. Taken q (message tag words q)) from) other
taking_path code p row tag words one [] other is = is
taking_path code p row tag words one (q ∷ from) other (next, at, tagged, stage, takes_it, rest) = (
  more next,
  (
    act_here code p row one one.made at ∙ ap (act_in row one) stage,
    fed_here code p row one one.made (message tag words q) at
        ∙ (ap (fed_in row one (message tag words q)) stage
        ∙ (ap (λ b. cond b (cond (row.awaits one q (length (words q)))
        (takes (row.taken one q (words q))) (Refuses WrongLength)) (Refuses WrongTag))
        (eq-eqb tag (row.tag one) (sym tagged))
        ∙ by (row.awaits one q (length (words q))) (row.taken one q (words q)) takes_it)),
  ),
  taking_path code p row tag words (more next) from other rest,
)
  where
    by : (b : Bool) (o : Option Local) → taken_where b o ≡ Some next
        → cond b (takes o) (Refuses WrongLength) ≡ Takes (more next)
    by true o e = ap takes e
    by false o e = cc

-- ---- all send
pub all_send : (code : Tables) (links : Option ℕ) (row : ℕ → Collective) (tag : ℕ)
    (words : ℕ → ℕ → List ℤ) (to : ℕ → List ℕ) (one other : ℕ → Local)
    (on : ℕ → ℕ → List Message)
    → ((p : ℕ) → p < count_of (system_over code links)
    → Sending code p (row p) tag (words p) (one p) (to p) (other p))
    → ((p : ℕ) → p < count_of (system_over code links)
    → AreOthers (count_of (system_over code links)) p (to p))
    → ((p q : ℕ) → p < count_of (system_over code links) → q < count_of (system_over code links)
    → IsWithin links (on p q ++ messages tag (times q (to p)) (words p q)))
    → Leads (system_over code links) (scene_of one on)
    (scene_of other (λ p q. on p q ++ messages tag (times q (to p)) (words p q)))
    (λ p. length (to p)) (λ p. [])
all_send code links row tag words to one other on sending others rooms =
    leads_agreed (system_over code links) _ _ (scene_of one on)
    (scene_of other (λ p q. on p q ++ messages tag (times q (to p)) (words p q))) _ _ _ _
    (record { local = λ p below. refl; link = λ p q a b. refl })
    (record { local = λ p below. refl; link = λ p q a b. refl })
    (λ p below. length-map (to p) (sent p))
    (λ p below. sends_show_none (message tag (words p)) (to p))
    (runs_in_turn (system_over code links) (λ k. k) (λ p. p)
    (λ p. map (λ q. Sent q (message tag (words p) q)) (to p)) (scene_of one on)
    (scene_of other (λ p q. on p q ++ messages tag (times q (to p)) (words p q)))
    (in_order (count_of (system_over code links))) (record {
      path = λ p below. sending_path code p (row p) tag (words p) (one p) (to p) (other p)
          (sending p below);
      named = λ p below. sends_named (count_of (system_over code links)) p (message tag (words p))
          (to p) (others p below);
      balance = λ p q a b.
          ap (λ l. on p q ++ l) (sends_send q (message tag (words p)) (to p))
          ∙ sym (ap (λ l. l ++ (on p q ++ messages tag (times q (to p)) (words p q)))
          (sends_take_none p (message tag (words q)) (to q)));
      early = λ p q a b sooner. subst (λ l. length l ≤ length (on p q))
          (sym (sends_take_none p (message tag (words q)) (to q))) (omega arith);
      rooms = λ p q a b. subst (λ l. IsWithin links (on p q ++ l))
          (sym (sends_send q (message tag (words p)) (to p))) (rooms p q a b);
    }))
  where
    sent : ℕ → ℕ → Event Message
    sent p q = Sent q (message tag (words p) q)

-- ---- all take
pub all_take : (code : Tables) (links : Option ℕ) (row : ℕ → Collective) (tag : ℕ)
    (words : ℕ → ℕ → List ℤ) (from : ℕ → List ℕ) (one other : ℕ → Local)
    (on off : ℕ → ℕ → List Message)
    → ((p : ℕ) → p < count_of (system_over code links)
    → Taking code p (row p) tag (λ q. words q p) (one p) (from p) (other p))
    → ((p : ℕ) → p < count_of (system_over code links)
    → AreOthers (count_of (system_over code links)) p (from p))
    → ((p q : ℕ) → p < count_of (system_over code links) → q < count_of (system_over code links)
    → on p q ≡ messages tag (times p (from q)) (words p q) ++ off p q)
    → ((p q : ℕ) → p < count_of (system_over code links) → q < count_of (system_over code links)
    → IsWithin links (on p q))
    → Leads (system_over code links) (scene_of one on) (scene_of other off) (λ p. length (from p))
    (λ p. [])
all_take code links row tag words from one other on off taking others there rooms =
    leads_agreed (system_over code links) _ _ (scene_of one on) (scene_of other off) _ _ _ _
    (record { local = λ p below. refl; link = λ p q a b. refl })
    (record { local = λ p below. refl; link = λ p q a b. refl })
    (λ p below. length-map (from p) (took p))
    (λ p below. takes_show_none (message tag (λ q. words q p)) (from p))
    (runs_in_turn (system_over code links) (λ k. k) (λ p. p)
    (λ p. map (λ q. Taken q (message tag (λ r. words r p) q)) (from p)) (scene_of one on)
    (scene_of other off) (in_order (count_of (system_over code links))) (record {
      path = λ p below. taking_path code p (row p) tag (λ q. words q p) (one p) (from p) (other p)
          (taking p below);
      named = λ p below. takes_named (count_of (system_over code links)) p
          (message tag (λ q. words q p)) (from p) (others p below);
      balance = λ p q a b.
          ap (λ l. on p q ++ l) (takes_send_none q (message tag (λ r. words r p)) (from p))
          ∙ (append-nil (on p q) ∙ matched p q a b);
      early = λ p q a b sooner.
          omega (
            arith,
            ap length (matched p q a b),
            length-append
                (messages_from p (map (λ r. Taken r (message tag (λ k. words k q) r)) (from q)))
                (off p q),
          );
      rooms = λ p q a b.
          subst (IsWithin links)
          (sym (ap (λ l. on p q ++ l) (takes_send_none q (message tag (λ r. words r p)) (from p))
          ∙ append-nil (on p q))) (rooms p q a b);
    }))
  where
    took : ℕ → ℕ → Event Message
    took p q = Taken q (message tag (λ r. words r p) q)

    matched : (p q : ℕ) → p < count_of (system_over code links)
        → q < count_of (system_over code links)
        → on p q ≡ messages_from p (map (λ r. Taken r (message tag (λ k. words k q) r)) (from q))
        ++ off p q
    matched p q a b = there p q a b
        ∙ sym (ap (λ l. l ++ off p q) (takes_take p (message tag (λ k. words k q)) (from q)))

-- ---- `remap`
within_one : (links : Option ℕ) (tag many : ℕ) (words : List ℤ) → IsCapacity links → many ≤ 1
    → IsWithin links (messages tag many words)
within_one None tag many words capable few = tt
within_one (Some capacity) tag many words capable few = omega
    (arith, length-replicate many (message tag (λ q. words) 0), few, capable)

-- all send, and all take what was sent: from empty links to empty links
pub all_meet : (code : Tables) (links : Option ℕ) → IsCapacity links
    → (row : ℕ → Collective) (tag : ℕ) (words : ℕ → ℕ → List ℤ) (to from : ℕ → List ℕ)
    (one two three : ℕ → Local)
    → ((p : ℕ) → p < count_of (system_over code links)
    → Sending code p (row p) tag (words p) (one p) (to p) (two p))
    → ((p : ℕ) → p < count_of (system_over code links)
    → Taking code p (row p) tag (λ q. words q p) (two p) (from p) (three p))
    → ((p : ℕ) → p < count_of (system_over code links)
    → AreOthers (count_of (system_over code links)) p (to p))
    → ((p : ℕ) → p < count_of (system_over code links)
    → AreOthers (count_of (system_over code links)) p (from p))
    → ArePartners (count_of (system_over code links)) to from
    → Leads (system_over code links) (quiet_scene one) (quiet_scene three)
    (λ p. length (to p) + length (from p)) (λ p. [])
all_meet code links capable row tag words to from one two three sending taking to_others from_others
    partners =
    leads_through (system_over code links) (quiet_scene one)
    (scene_of two (λ p q. messages tag (times q (to p)) (words p q))) (quiet_scene three) _ _ _
    _
    (all_send code links row tag words to one two (λ p q. []) sending to_others
    (λ p q a b. within_one links tag (times q (to p)) (words p q) capable (partners.once p q a b)))
    (all_take code links row tag words from two three
    (λ p q. messages tag (times q (to p)) (words p q)) (λ p q. []) taking from_others
    (λ p q a b.
    ap (λ n. messages tag n (words p q)) (partners.both_ways p q a b)
    ∙ sym (append-nil (messages tag (times p (from q)) (words p q))))
    (λ p q a b. within_one links tag (times q (to p)) (words p q) capable (partners.once p q a b)))

empty_within : (links : Option ℕ) → IsWithin links (let none : List Message = [] in none)
empty_within None = tt
empty_within (Some capacity) = omega arith

pub remaps : (code : Tables) (links : Option ℕ) → IsCapacity links → Remap code links
remaps code links capable row one other is =
    leads_agreed (system_over code links) (quiet_scene one) (quiet_scene other) (quiet_scene one)
    (quiet_scene other) _ _ _ _
    (record { local = λ p below. refl; link = λ p q a b. refl })
    (record { local = λ p below. refl; link = λ p q a b. refl })
    (λ p below. omega arith) (λ p below. refl)
    (leads_through (system_over code links) (quiet_scene one) (quiet_scene is.begun)
    (quiet_scene other) _ _ _ _
    (goes_once code links one is.begun (λ p. []) (λ p q. []) is.begins
    (λ p q a b. empty_within links))
    (leads_through (system_over code links) (quiet_scene is.begun) (quiet_scene is.heard)
    (quiet_scene other) _ _ _ _
    (all_meet code links capable row is.tag is.requests is.to is.from is.begun is.asked is.heard
    is.asks is.hears is.to_others is.from_others is.partners)
    (leads_through (system_over code links) (quiet_scene is.heard) (quiet_scene is.final)
    (quiet_scene other) _ _ _ _
    (all_meet code links capable row is.tag is.answers is.back_to is.back_from is.heard is.answered
    is.final is.replies is.gets is.back_to_others
    is.back_from_others is.back_partners)
    (goes_once code links is.final other (λ p. []) (λ p q. []) is.ends
    (λ p q a b. empty_within links)))))
