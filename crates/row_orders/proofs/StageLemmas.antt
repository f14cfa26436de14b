-- Paths through the stages of a row.
use Rattle.std.proofs.Common.{◌≡◌, ℕ, ◌+◌, Bool, true, false, ℤ, List, [], ◌∷◌, ◌++◌, length, map, All, slice_get, Option, Some, None, option_map, option_and_then, refl, sym, ◌∙◌, ap, ap₂, subst, arith, cond, add-zero, append_assoc, length-append, eq-eqb}
use Rattle.std.proofs.lemmas.List.Elements.{All-head, All-tail}
use Rattle.grid_meaning.specs.of_grid_links.declared.messages.Message.{Message}
use Rattle.grid_meaning.specs.of_grid_links.Machine.{Goes, Takes, Refuses}
use Rattle.grid_meaning.specs.of_node_form.declared.instructions.Instr.{Instr}
use Rattle.grid_meaning.specs.of_node_form.declared.instructions.Instr.TheVariants as instr
use Rattle.grid_meaning.specs.of_node_form.declared.tables.Tables.{Tables}
use Rattle.grid_meaning.specs.of_node_form.Control.{control}
use Rattle.grid_meaning.specs.Action.{Action, Feeding, WrongTag, WrongLength}
use Rattle.grid_meaning.specs.Collective.{Collective, Stage, Alone, Sends, TakesFrom, Last, stage_of}
use Rattle.grid_meaning.specs.Local.{Local}
use Rattle.grid_meaning.specs.Rows.{collective}
use Rattle.grid_meaning.specs.Turn.{act, act_at, act_in, act_together, fed, fed_at, fed_in, fed_together, processes, registers_of, steps_on, sends, takes, unless_ended}
use Rattle.grid_paths.specs.Path.{Quiet, Sent, Taken, IsStep, IsPath}
use Rattle.row_orders.specs.Rows.{at_turn, KeepsRow, IsBlind, taken_where, taking, IsAtRow}

-- ---- a row in which processors work together
act_together_at : (code : Tables) (p : ℕ) (local : Local) (i : Instr) (row : Collective)
    → collective code p i ≡ Some row
    → act_at code p local (Some i) ≡ act_in row local (stage_of row local)
act_together_at code p local (instr.Loop slot group) row e = cc
act_together_at code p local (instr.Room array slot) row e = cc
act_together_at code p local (instr.Clear array) row e = cc
act_together_at code p local (instr.Print text) row e = cc
act_together_at code p local (instr.Number expr) row e = cc
act_together_at code p local (instr.Truth expr) row e = cc
act_together_at code p local i row e = ap
    (λ o. act_together o local (control code (registers_of local) i)) e

pub act_here : (code : Tables) (p : ℕ) (row : Collective) (local : Local) (n : ℕ)
    → IsAtRow code p row local
    → act code p (at_turn n local) ≡ act_in row (at_turn n local) (stage_of row (at_turn n local))
act_here code p row local n is =
    ap (λ e. unless_ended e (act_at code p (at_turn n local) (slice_get code.code local.at)))
    is.running
    ∙ (ap (act_at code p (at_turn n local)) is.here
    ∙ act_together_at code p (at_turn n local) is.instr row is.row_of)

pub fed_here : (code : Tables) (p : ℕ) (row : Collective) (local : Local) (n : ℕ)
    (message : Message) → IsAtRow code p row local
    → fed code p (at_turn n local) message
    ≡ fed_in row (at_turn n local) message (stage_of row (at_turn n local))
fed_here code p row local n message is =
    ap (fed_at code p (at_turn n local) message) is.here
    ∙ ap (λ o. fed_together o (at_turn n local) message) is.row_of

-- ---- the stage that is next
at_front : {X : Type 0} (front rest : List X) (x : X) → slice_get (front ++ x ∷ rest) (length front)
    ≡ Some x
at_front [] rest x = refl
at_front (first ∷ front) rest x = at_front front rest x

pub stage_at : (row : Collective) (local : Local) (n : ℕ) (front rest : List Stage) (stage : Stage)
    → IsBlind row
    → row.stages local ≡ front ++ stage ∷ rest → length front ≡ n → stage_of row (at_turn n local)
    ≡ Some stage
stage_at row local n front rest stage blind is many =
    ap (λ s. slice_get s n) (blind.stages local n ∙ is)
    ∙ (ap (slice_get (front ++ stage ∷ rest)) (sym many) ∙ at_front front rest stage)

pub at_row_kept : (code : Tables) (p : ℕ) (row : Collective) (one other : Local)
    → KeepsRow row one other → IsAtRow code p row one
    → IsAtRow code p row other
at_row_kept code p row one other keeps is = record {
  running = keeps.ended ∙ is.running;
  instr = is.instr;
  here = ap (slice_get code.code) keeps.at ∙ is.here;
  row_of = is.row_of;
}

pub keeps_same : (row : Collective) (local : Local) → KeepsRow row local local
keeps_same row local = record { at = refl; ended = refl; stages = refl; tag = refl }

pub keeps_through : (row : Collective) (one two three : Local) → KeepsRow row one two
    → KeepsRow row two three → KeepsRow row one three
keeps_through row one two three a b = record {
  at = b.at ∙ a.at;
  ended = b.ended ∙ a.ended;
  stages = b.stages ∙ a.stages;
  tag = b.tag ∙ a.tag;
}

-- ---- one stage
pub alone_step : (code : Tables) (p : ℕ) (row : Collective) (local next : Local) (n : ℕ)
    (front rest : List Stage)
    → IsAtRow code p row local → IsBlind row → row.stages local ≡ front ++ Alone ∷ rest
    → length front ≡ n
    → row.alone local ≡ Some next
    → IsStep (processes code) p (at_turn n local) (Quiet []) (at_turn (n + 1) next)
alone_step code p row local next n front rest at blind is many e =
    act_here code p row local n at
    ∙ (ap (act_in row (at_turn n local)) (stage_at row local n front rest Alone blind is many)
    ∙ ap steps_on (blind.alone local n ∙ ap (option_map (at_turn n)) e))

pub send_step : (code : Tables) (p : ℕ) (row : Collective) (local : Local) (n q : ℕ)
    (words : List ℤ) (front rest : List Stage)
    → IsAtRow code p row local → IsBlind row → row.stages local ≡ front ++ Sends q ∷ rest
    → length front ≡ n
    → row.words_to local q ≡ Some words
    → IsStep (processes code) p (at_turn n local)
    (Sent q (record { tag = row.tag local; words = words })) (at_turn (n + 1) local)
send_step code p row local n q words front rest at blind is many e =
    act_here code p row local n at
    ∙ (ap (act_in row (at_turn n local)) (stage_at row local n front rest (Sends q) blind is many)
    ∙ (ap (sends row (at_turn n local) q) (blind.words_to local n q ∙ e)
    ∙ ap (λ (t : ℕ). let action : Action = Goes (at_turn (n + 1) local)
    (Some (q, record { tag = t; words = words })) [] in action)
    (blind.tag local n)))

pub take_step : (code : Tables) (p : ℕ) (row : Collective) (local next : Local) (n q : ℕ)
    (message : Message) (front rest : List Stage)
    → IsAtRow code p row local → IsBlind row → row.stages local ≡ front ++ TakesFrom q ∷ rest
    → length front ≡ n
    → message.tag ≡ row.tag local
    → taken_where (row.awaits local q (length message.words)) (row.taken local q message.words)
    ≡ Some next
    → IsStep (processes code) p (at_turn n local) (Taken q message) (at_turn (n + 1) next)
take_step code p row local next n q message front rest at blind is many tagged e = (
  act_here code p row local n at
      ∙ ap (act_in row (at_turn n local))
      (stage_at row local n front rest (TakesFrom q) blind is many),
  fed_here code p row local n message at
      ∙ (ap (fed_in row (at_turn n local) message)
      (stage_at row local n front rest (TakesFrom q) blind is many)
      ∙ (ap (λ b. fed_if b (row.awaits (at_turn n local) q (length message.words))
      (row.taken (at_turn n local) q message.words))
      (eq-eqb message.tag (row.tag (at_turn n local)) (tagged ∙ sym (blind.tag local n)))
      ∙ (ap₂ (λ b o. fed_if true b o) (blind.awaits local n q (length message.words))
      (blind.taken local n q message.words)
      ∙ by (row.awaits local q (length message.words)) (row.taken local q message.words) e))),
)
  where
    fed_if : Bool → Bool → Option Local → Feeding
    fed_if tag many taken = cond tag (cond many (takes taken) (Refuses WrongLength))
        (Refuses WrongTag)

    by : (b : Bool) (o : Option Local) → taken_where b o ≡ Some next
        → cond b (takes (option_map (at_turn n) o)) (Refuses WrongLength)
        ≡ Takes (at_turn (n + 1) next)
    by true None e = cc
    by true (Some l) e = ap (λ o. takes (option_map (at_turn n) o)) e
    by false o e = cc

pub last_step : (code : Tables) (p : ℕ) (row : Collective) (local next : Local) (n : ℕ)
    (shown : List ℕ) (front : List Stage)
    → IsAtRow code p row local → IsBlind row → row.stages local ≡ front ++ Last ∷ [] → length front
    ≡ n
    → row.last local ≡ Goes next None shown
    → IsStep (processes code) p (at_turn n local) (Quiet shown) next
last_step code p row local next n shown front at blind is many e =
    act_here code p row local n at
    ∙ (ap (act_in row (at_turn n local)) (stage_at row local n front [] Last blind is many)
    ∙ (blind.last local n ∙ e))

-- ---- some stages
push : (front rest : List Stage) (stage : Stage) → front ++ stage ∷ rest ≡ (front ++ stage ∷ [])
    ++ rest
push front rest stage = sym (append_assoc front (stage ∷ []) rest)

longer : (front : List Stage) (stage : Stage) (n : ℕ) → length front ≡ n
    → length (front ++ stage ∷ []) ≡ n + 1
longer front stage n many = length-append front (stage ∷ []) ∙ ap (λ m. m + 1) many

pub sends_path : (code : Tables) (p : ℕ) (row : Collective) (local : Local) (n m tag : ℕ)
    (words : ℕ → List ℤ) (to : List ℕ) (front rest : List Stage)
    → IsAtRow code p row local → IsBlind row → row.stages local ≡ front ++ (map Sends to ++ rest)
    → length front ≡ n
    → m ≡ n + length to → row.tag local ≡ tag → All (λ q. row.words_to local q ≡ Some (words q)) to
    → IsPath (processes code) p (at_turn n local)
    (map (λ q. Sent q (record { tag = tag; words = words q })) to) (at_turn m local)
sends_path code p row local n m tag words [] front rest at blind is many end tagged says = ap
    (λ k. at_turn k local) (sym (end ∙ add-zero n))
sends_path code p row local n m tag words (q ∷ to) front rest at blind is many end tagged says = (
  at_turn (n + 1) local,
  subst (λ t. IsStep (processes code) p (at_turn n local)
      (Sent q (record { tag = t; words = words q })) (at_turn (n + 1) local)) tagged
      (send_step code p row local n q (words q) front (map Sends to ++ rest) at blind is many
      (All-head (λ r. row.words_to local r ≡ Some (words r)) q to says)),
  sends_path code p row local (n + 1) m tag words to (front ++ Sends q ∷ []) rest at blind
      (is ∙ push front (map Sends to ++ rest) (Sends q)) (longer front (Sends q) n many)
      (omega (arith, end)) tagged
      (All-tail (λ r. row.words_to local r ≡ Some (words r)) q to says),
)

pub takes_path : (code : Tables) (p : ℕ) (row : Collective) (local next : Local) (n m tag : ℕ)
    (words : ℕ → List ℤ) (from : List ℕ) (front rest : List Stage)
    → IsAtRow code p row local → IsBlind row → row.stages local ≡ front
    ++ (map TakesFrom from ++ rest) → length front ≡ n
    → m ≡ n + length from → row.tag local ≡ tag → taking row words local from ≡ Some next
    → IsPath (processes code) p (at_turn n local)
    (map (λ q. Taken q (record { tag = tag; words = words q })) from) (at_turn m next)
    × KeepsRow row local next
takes_path code p row local next n m tag words [] front rest at blind is many end tagged e =
    let same : local ≡ next = cc in (
      ap₂ at_turn (sym (end ∙ add-zero n)) same,
      subst (KeepsRow row local) same
          (keeps_same row local),
    )
takes_path code p row local next n m tag words (q ∷ from) front rest at blind is many end tagged e =
    by (taken_where (row.awaits local q (length (words q))) (row.taken local q (words q))) refl e
    (λ l keeps rest_is.
    takes_path code p row l next (n + 1) m tag words from (front ++ TakesFrom q ∷ []) rest
    (at_row_kept code p row local l keeps at) blind
    (keeps.stages ∙ (is ∙ push front (map TakesFrom from ++ rest) (TakesFrom q)))
    (longer front (TakesFrom q) n many)
    (omega (arith, end)) (keeps.tag ∙ tagged) rest_is)
  where
    kept : (b : Bool) (l : Local) → taken_where b (row.taken local q (words q)) ≡ Some l
        → KeepsRow row local l
    kept true l said = blind.keeps_taken local l q (words q) said
    kept false l said = cc

    by : (o : Option Local)
        → taken_where (row.awaits local q (length (words q))) (row.taken local q (words q)) ≡ o
        → option_and_then (λ l. taking row words l from) o ≡ Some next
        → ((l : Local) → KeepsRow row local l → taking row words l from ≡ Some next
        → IsPath (processes code) p (at_turn (n + 1) l)
        (map (λ r. Taken r (record { tag = tag; words = words r })) from) (at_turn m next)
        × KeepsRow row l next)
        → IsPath (processes code) p (at_turn n local)
        (map (λ r. Taken r (record { tag = tag; words = words r })) (q ∷ from)) (at_turn m next)
        × KeepsRow row local next
    by None said rest_is further = cc
    by (Some l) said rest_is further =
        let keeps : KeepsRow row local l = kept (row.awaits local q (length (words q))) l said in
        let (path, more) = further l keeps rest_is in (
          (
            at_turn (n + 1) l,
            take_step code p row local l n q (record { tag = tag; words = words q }) front
                (map TakesFrom from ++ rest) at blind is many
                (sym tagged) said,
            path,
          ),
          keeps_through row local l next keeps more,
        )
