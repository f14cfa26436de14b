-- Rows in which processors work together, one row after another on all of them.
--
--   at_turn        the state with so many turns made in its row
--   IsBlind        a row that looks at the turns made in its stages alone
--   taking         a processor takes words one after another
--   IsAtRow        a processor stands before such a row, or in it
--   Acting         each acts alone, where it does, and sends; then each takes and goes on
--   Balances       what was on a link and is sent is what is taken and what is then on it
--   Meet           then some order leads all through the row
--   ArePartners    each sends to those that take from it
--   Flight         what was sent in an exchange that is open
--   flying         the links hold what was sent in open exchanges, in the order of their starts
--   Delivering, Starting, Finishing
--                  the three kinds of such rows: words are taken in the row in which they are sent;
--                  they stay on their way; those of the oldest open exchange are taken
--   Deliver, Exchange
--                  then some order leads all through
--   GoAlone        so it does where each goes along by itself
use Rattle.std.specs.Prelude.{◌≡◌, ℕ, ◌*◌, ◌<◌, ◌≤◌, Bool, true, false, ℤ, List, [], ◌∷◌, ◌++◌, All, length, map, option_and_then, option_map, replicate, slice_get, Option, Some, None}
use Rattle.std.specs.List.{concat, flat_map}
use Rattle.grid_meaning.specs.of_grid_links.Links.{IsWithin}
use Rattle.grid_meaning.specs.of_grid_links.declared.messages.Message.{Message}
use Rattle.grid_meaning.specs.of_grid_links.Machine.{Goes}
use Rattle.grid_meaning.specs.of_grid_links.Run.{count_of}
use Rattle.grid_meaning.specs.of_node_form.declared.instructions.Instr.{Instr}
use Rattle.grid_meaning.specs.of_node_form.declared.instructions.Instr.TheVariants as instr
use Rattle.grid_meaning.specs.of_node_form.declared.tables.Tables.{Tables}
use Rattle.grid_meaning.specs.Collective.{Collective, Stage, Alone, Sends, TakesFrom, Last}
use Rattle.grid_meaning.specs.Grid.{system_over}
use Rattle.grid_meaning.specs.Local.{Local}
use Rattle.grid_meaning.specs.Rows.{collective}
use Rattle.grid_meaning.specs.Turn.{processes}
use Rattle.grid_paths.specs.Path.{AreOthers, Quiet, IsPath}
use Rattle.grid_paths.specs.Tree.{times}
use Rattle.grid_paths.specs.Scene.{Scene, Leads}

abbrev pub at_turn : ℕ → Local → Local
at_turn n local = record local { made = n }

-- ---- rows that don't see how many turns were made
-- the same instruction is next, in the same way
pub record KeepsRow (row : Collective) (one other : Local) : Type 0 where
  pub at : other.at ≡ one.at
  pub ended : other.ended ≡ one.ended
  pub stages : row.stages other ≡ row.stages one
  pub tag : row.tag other ≡ row.tag one

pub record IsBlind (row : Collective) : Type 0 where
  pub stages : (local : Local) (n : ℕ) → row.stages (at_turn n local) ≡ row.stages local
  pub tag : (local : Local) (n : ℕ) → row.tag (at_turn n local) ≡ row.tag local
  pub alone : (local : Local) (n : ℕ)
      → row.alone (at_turn n local) ≡ option_map (at_turn n) (row.alone local)
  pub words_to : (local : Local) (n q : ℕ) → row.words_to (at_turn n local) q ≡ row.words_to local q
  pub awaits : (local : Local) (n q many : ℕ)
      → row.awaits (at_turn n local) q many ≡ row.awaits local q many
  pub taken : (local : Local) (n q : ℕ) (words : List ℤ)
      → row.taken (at_turn n local) q words ≡ option_map (at_turn n) (row.taken local q words)
  pub last : (local : Local) (n : ℕ) → row.last (at_turn n local) ≡ row.last local
  pub keeps_alone : (local next : Local) → row.alone local ≡ Some next → KeepsRow row local next
  pub keeps_taken : (local next : Local) (q : ℕ) (words : List ℤ)
      → row.taken local q words ≡ Some next → KeepsRow row local next

-- ---- the parts of a row
abbrev pub taken_where : Bool → Option Local → Option Local
taken_where true local = local
taken_where false local = None

abbrev pub taking : Collective → (ℕ → List ℤ) → Local → List ℕ → Option Local
taking row words local [] = Some local
taking row words local (q ∷ from) =
    option_and_then (λ next. taking row words next from)
    (taken_where (row.awaits local q (length (words q))) (row.taken local q (words q)))

abbrev pub alone_where : Bool → Collective → Local → Option Local
alone_where true row local = row.alone local
alone_where false row local = Some local

abbrev pub alone_stage : Bool → List Stage
alone_stage true = Alone ∷ []
alone_stage false = []

abbrev pub delivery_stages : Bool → List ℕ → List ℕ → List Stage
delivery_stages alone to from =
    alone_stage alone ++ (map Sends to ++ (map TakesFrom from ++ Last ∷ []))

-- so many messages
abbrev pub messages : ℕ → ℕ → List ℤ → List Message
messages tag many words = replicate many (record { tag = tag; words = words })

-- a processor is at a row
pub record IsAtRow (code : Tables) (p : ℕ) (row : Collective) (local : Local) : Type 0 where
  pub running : local.ended ≡ None
  pub instr : Instr
  pub here : slice_get code.code local.at ≡ Some instr
  pub row_of : collective code p instr ≡ Some row

-- ---- a row on all processors
-- Each acts alone, where it does, and sends; then each takes and goes on.
pub record Acting (code : Tables) (links : Option ℕ) (row : ℕ → Collective) (one other : ℕ → Local)
    (shown : ℕ → List ℕ) : Type 0 where
  pub at_row : (p : ℕ) → p < count_of (system_over code links) → IsAtRow code p (row p) (one p)
  pub blind : (p : ℕ) → p < count_of (system_over code links) → IsBlind (row p)
  pub made : (p : ℕ) → p < count_of (system_over code links) → (one p).made ≡ 0
  pub tag : ℕ
  pub same_tag : (p : ℕ) → p < count_of (system_over code links) → (row p).tag (one p) ≡ tag
  pub alone : ℕ → Bool
  pub to : ℕ → List ℕ
  pub from : ℕ → List ℕ
  pub stages : (p : ℕ) → p < count_of (system_over code links)
      → (row p).stages (one p) ≡ delivery_stages (alone p) (to p) (from p)
  pub to_others : (p : ℕ) → p < count_of (system_over code links)
      → AreOthers (count_of (system_over code links)) p (to p)
  pub from_others : (p : ℕ) → p < count_of (system_over code links)
      → AreOthers (count_of (system_over code links)) p (from p)
  pub middle : ℕ → Local
  pub begins : (p : ℕ) → p < count_of (system_over code links)
      → alone_where (alone p) (row p) (one p) ≡ Some (middle p)
  pub words : ℕ → ℕ → List ℤ
  pub says : (p : ℕ) → p < count_of (system_over code links)
      → All (λ q. (row p).words_to (middle p) q ≡ Some (words p q)) (to p)
  pub heard : ℕ → ℕ → List ℤ
  pub final : ℕ → Local
  pub takes : (p : ℕ) → p < count_of (system_over code links)
      → taking (row p) (λ q. heard q p) (middle p) (from p) ≡ Some (final p)
  pub ends : (p : ℕ) → p < count_of (system_over code links)
      → (row p).last (final p) ≡ Goes (other p) None (shown p)

-- What was on a link and is sent is what is taken and what is then on it; and there is room.
pub record Balances (code : Tables) (links : Option ℕ) (row : ℕ → Collective)
    (one other : ℕ → Local) (shown : ℕ → List ℕ)
    (acting : Acting code links row one other shown) (before behind : ℕ → ℕ → List Message) : Type 0
  where
    pub balance : (p q : ℕ) → p < count_of (system_over code links)
        → q < count_of (system_over code links)
        → before p q ++ messages acting.tag (times q (acting.to p)) (acting.words p q)
        ≡ messages acting.tag (times p (acting.from q)) (acting.heard p q) ++ behind p q
    pub rooms : (p q : ℕ) → p < count_of (system_over code links)
        → q < count_of (system_over code links)
        → IsWithin links (before p q
        ++ messages acting.tag (times q (acting.to p)) (acting.words p q))

abbrev pub scene_of : (ℕ → Local) → (ℕ → ℕ → List Message) → Scene Local Message
scene_of locals messages = record { locals = locals; links = messages }

abbrev pub Meet : Tables → Option ℕ → Type 0
Meet code links =
    (row : ℕ → Collective) (one other : ℕ → Local) (shown : ℕ → List ℕ)
    (acting : Acting code links row one other shown)
    (before behind : ℕ → ℕ → List Message)
    → Balances code links row one other shown acting before behind
    → Leads (system_over code links) (scene_of one before) (scene_of other behind)
    (λ p. length ((row p).stages (one p))) shown

-- ---- where no message is on its way
abbrev pub quiet_scene : (ℕ → Local) → Scene Local Message
quiet_scene locals = record { locals = locals; links = λ from to. [] }

-- who sends to whom, and who takes from whom: a row's partners
pub record ArePartners (count : ℕ) (to from : ℕ → List ℕ) : Type 0 where
  pub both_ways : (p q : ℕ) → p < count → q < count → times q (to p) ≡ times p (from q)
  pub once : (p q : ℕ) → p < count → q < count → times q (to p) ≤ 1

-- ---- exchanges that are open
-- what was sent in one, and not taken yet
pub record Flight : Type 0 where
  pub exchange : ℕ
  pub to : ℕ → List ℕ
  pub words : ℕ → ℕ → List ℤ

abbrev pub flight_messages : Flight → ℕ → ℕ → List Message
flight_messages flight p q =
    messages (2 * flight.exchange) (times q (flight.to p)) (flight.words p q)

-- the links hold what was sent in open exchanges, in the order of their starts
abbrev pub flying : (ℕ → Local) → List Flight → Scene Local Message
flying locals flights = record {
  locals = locals;
  links = λ p q. flat_map (λ flight. flight_messages flight p q) flights;
}

abbrev pub IsFlight : ℕ → Flight → Type 0
IsFlight count flight = (p q : ℕ) → p < count → q < count → times q (flight.to p) ≤ 1

-- a link has room for so many
abbrev pub HasRoom : Option ℕ → ℕ → Type 0
HasRoom None many = Unit {0}
HasRoom (Some capacity) many = many ≤ capacity

-- ---- the three kinds of rows
-- the words are taken in the same row: `wrap`, `reflect`, `flood`, `part`, `scan` and `gather`
pub record Delivering (code : Tables) (links : Option ℕ) (row : ℕ → Collective)
    (one other : ℕ → Local) (shown : ℕ → List ℕ) : Type 0 where
  pub acting : Acting code links row one other shown
  pub heard : (p q : ℕ) → acting.heard p q ≡ acting.words p q
  pub partners : ArePartners (count_of (system_over code links)) acting.to acting.from

abbrev pub Deliver : Tables → Option ℕ → Type 0
Deliver code links =
    (row : ℕ → Collective) (one other : ℕ → Local) (shown : ℕ → List ℕ)
    → Delivering code links row one other shown
    → Leads (system_over code links) (quiet_scene one) (quiet_scene other)
    (λ p. length ((row p).stages (one p))) shown

-- `start`: they are on their way behind those of other exchanges
pub record Starting (code : Tables) (links : Option ℕ) (row : ℕ → Collective)
    (one other : ℕ → Local) (shown : ℕ → List ℕ) (flight : Flight) : Type 0 where
  pub acting : Acting code links row one other shown
  pub tag : acting.tag ≡ 2 * flight.exchange
  pub to : (p : ℕ) → acting.to p ≡ flight.to p
  pub from : (p : ℕ) → acting.from p ≡ []
  pub words : (p q : ℕ) → acting.words p q ≡ flight.words p q

-- `finish`: those of the oldest open exchange are taken
pub record Finishing (code : Tables) (links : Option ℕ) (row : ℕ → Collective)
    (one other : ℕ → Local) (shown : ℕ → List ℕ) (flight : Flight) : Type 0 where
  pub acting : Acting code links row one other shown
  pub tag : acting.tag ≡ 2 * flight.exchange
  pub to : (p : ℕ) → acting.to p ≡ []
  pub from : (p q : ℕ) → p < count_of (system_over code links)
      → q < count_of (system_over code links)
      → times q (flight.to p) ≡ times p (acting.from q)
  pub words : (p q : ℕ) → acting.heard p q ≡ flight.words p q

pub record Exchange (code : Tables) (links : Option ℕ) : Type 0 where
  pub starts : (row : ℕ → Collective) (one other : ℕ → Local) (shown : ℕ → List ℕ) (flight : Flight)
      (flights : List Flight)
      → Starting code links row one other shown flight
      → All (IsFlight (count_of (system_over code links))) (flights ++ flight ∷ [])
      → HasRoom links (length (flights ++ flight ∷ []))
      → Leads (system_over code links) (flying one flights) (flying other (flights ++ flight ∷ []))
      (λ p. length ((row p).stages (one p))) shown
  pub finishes : (row : ℕ → Collective) (one other : ℕ → Local) (shown : ℕ → List ℕ)
      (flight : Flight) (flights : List Flight)
      → Finishing code links row one other shown flight
      → All (IsFlight (count_of (system_over code links))) (flight ∷ flights)
      → HasRoom links (length (flight ∷ flights))
      → Leads (system_over code links) (flying one (flight ∷ flights)) (flying other flights)
      (λ p. length ((row p).stages (one p))) shown

-- ---- where each goes along by itself, whatever is on the links
abbrev pub GoAlone : Tables → Option ℕ → Type 0
GoAlone code links =
    (bytes : ℕ → List (List ℕ)) (one other : ℕ → Local) (on : ℕ → ℕ → List Message)
    → ((p : ℕ) → p < count_of (system_over code links)
    → IsPath (processes code) p (one p) (map Quiet (bytes p)) (other p))
    → ((p q : ℕ) → p < count_of (system_over code links) → q < count_of (system_over code links)
    → IsWithin links (on p q))
    → Leads (system_over code links) (scene_of one on) (scene_of other on)
    (λ p. length (bytes p)) (λ p. concat (bytes p))

-- ---- which rows are blind: all but `remap`, whose turns are counted along with its requests
abbrev pub is_remap : Instr → Bool
is_remap (instr.Remap array slot from parts) = true
is_remap row = false

abbrev pub AreBlind : Tables → Type 0
AreBlind code =
    (p : ℕ) (instr : Instr) (row : Collective) → collective code p instr ≡ Some row
    → is_remap instr ≡ false → IsBlind row
