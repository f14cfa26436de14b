-- Some order of turns brings all processors from one place of a plan to another.
--
--   placed, in_front    a processor, and all of them, in front of the row with a number
--   AreOpen             links have room for the exchanges that are open
--   loops_among, most_loops, row_most
--                       the most moves that a processor makes in a row
--   IsLimited           regions and processors are as many as the language has
--   Brings              some order leads all from one scene to another
--   AllEnd              some order brings all to their end, and all links are empty
--   AllWait             some order brings each to where it waits or has made many moves
--   GoesWell            some order does what a row does in a plan
--   HasOrder            so it does of each state of a plan in front of the row
--   HaveOrders          so does one for each row of the code
use Rattle.std.specs.Prelude.{◌≡◌, ◌≢◌, ◌⊎◌, ℕ, suc, ◌+◌, ◌<◌, ◌≤◌, true, List, [], All, length}
use Rattle.std.specs.Prelude.{◌*◌, ◌^◌, ◌∷◌, fold, max, slice_get, Option, Some, ⊤}
use Rattle.zpl_nums.specs.declared.ends.End.{End}
use Rattle.zpl_nums.specs.declared.ends.End.TheVariants.{More}
use Rattle.zpl_region.specs.Region.{members}
use Rattle.zpl_region.specs.declared.regions.Region.{Region}
use Rattle.grid_links.specs.declared.messages.Message.{Message}
use Rattle.grid_links.specs.Run.{count_of}
use Rattle.grid_paths.specs.Scene.{Scene, Leads, MovesIn, WaitsIn}
use Rattle.node_form.specs.declared.instructions.Instr.{Instr}
use Rattle.node_form.specs.declared.members.Member.{Member}
use Rattle.node_form.specs.declared.members.Member.TheVariants as member
use Rattle.node_form.specs.declared.tables.Tables.{Tables}
use Rattle.grid_meaning.specs.Grid.{system_over}
use Rattle.grid_meaning.specs.Local.{Local, processors}
use Rattle.row_orders.specs.Rows.{HasRoom, IsFlight, flying}
use Rattle.row_runs.specs.Run.{Goes, Stops, Ends, Wrong, Effect, Does, Leaps, Passes}
use Rattle.plan_meaning.specs.Abreast.{Abreast, Share, standing}
use Rattle.plan_meaning.specs.Act.{is_vote_of, row_does}

-- ---- in front of a row
abbrev pub placed : ℕ → Local → Local
placed at local = record local { at = at }

-- a processor with its share, in front of the row with this number
abbrev pub standing_at : ℕ → Share → Local
standing_at at share = placed at (standing share)

-- all of them; and what was sent in open exchanges is on the links
abbrev pub in_front : ℕ → Abreast → Scene Local Message
in_front at all = flying (λ p. standing_at at (all.shares p)) all.flights

-- ---- open exchanges
-- In each there is at most one message from one processor to another, and links have room for one
-- message of each.
pub record AreOpen (code : Tables) (links : Option ℕ) (all : Abreast) : Type 0 where
  pub flights : All (IsFlight (count_of (system_over code links))) all.flights
  pub room : HasRoom links (length all.flights)

-- ---- how many moves a row takes
-- the `while` and `repeat` members of a group
abbrev pub loops_among : List Member → ℕ
loops_among [] = 0
loops_among (member.OpenWhile expr mask line ∷ members) = suc (loops_among members)
loops_among (member.OpenRepeat mask line ∷ members) = suc (loops_among members)
loops_among (member ∷ members) = loops_among members

-- the most that one group has
abbrev pub most_loops : Tables → ℕ
most_loops code = fold (λ most members. max most (loops_among members)) 0 code.groups

-- the most moves that a processor makes in a row, with n turns of each loop within a group
abbrev pub row_most : Tables → ℕ → ℕ
row_most code n = 2 ^ 23 * (n + 1) ^ most_loops code

-- there are no more processors, and tuples in the regions of slots, than the language has
pub record IsLimited (code : Tables) (all : Abreast) : Type 0 where
  pub count : processors code ≤ 64
  pub regions : (p slot : ℕ) (region : Region) → p < processors code
      → slice_get (all.shares p).slots slot ≡ Some region → length (members region) ≤ 2 ^ 22

-- ---- what some order does
-- It leads all processors from one scene to another; each makes at least so many moves, and, under
-- a premise, at most so many; and processor 0 shows these bytes.
pub record Brings (code : Tables) (links : Option ℕ) (one other : Scene Local Message) (least : ℕ)
    (Premise : Type 0) (most : ℕ) (bytes : List ℕ) : Type 0 where
  pub many : ℕ → ℕ
  pub shown : ℕ → List ℕ
  pub leads : Leads (system_over code links) one other many shown
  pub enough : (p : ℕ) → p < count_of (system_over code links) → least ≤ many p
  pub few : Premise → (p : ℕ) → p < count_of (system_over code links) → many p ≤ most
  pub printed : shown 0 ≡ bytes

-- all end so, and no message is on its way
pub record AllEnd (code : Tables) (links : Option ℕ) (one : Scene Local Message) (ending : End)
    (least : ℕ) (Premise : Type 0) (most : ℕ) (bytes : List ℕ) : Type 0 where
  pub over : Scene Local Message
  pub brings : Brings code links one over least Premise most bytes
  pub ended : (p : ℕ) → p < count_of (system_over code links)
      → (over.locals p).ended ≡ Some ending
  pub quiet : (p q : ℕ) → p < count_of (system_over code links)
      → q < count_of (system_over code links) → over.links p q ≡ []
  pub last : ending ≢ More

-- Each awaits a message, or has made at least so many moves and makes one more; and so does one of
-- them.
pub record AllWait (code : Tables) (links : Option ℕ) (one : Scene Local Message) (least : ℕ)
    (bytes : List ℕ) : Type 0 where
  pub other : Scene Local Message
  pub many : ℕ → ℕ
  pub shown : ℕ → List ℕ
  pub leads : Leads (system_over code links) one other many shown
  pub printed : shown 0 ≡ bytes
  pub each : (p : ℕ) → p < count_of (system_over code links)
      → WaitsIn (system_over code links) other p
      ⊎ ((least ≤ many p) × MovesIn (system_over code links) other p)
  pub longest : ℕ
  pub longest_below : longest < count_of (system_over code links)
  pub longest_moves : least ≤ many longest
  pub longest_goes : MovesIn (system_over code links) other longest

-- ---- a row of a plan
-- With so many turns of each loop. Where a loop that may make none wants one, all stay in front of
-- it: what they do next is what they do with one turn.
pub data Stopped (code : Tables) (links : Option ℕ) (n : ℕ) (one : Scene Local Message)
    (Premise : Type 0) (most : ℕ) : End → Type 0 where
  ComesToEnd : {ending : End} → AllEnd code links one ending 1 Premise most []
      → Stopped code links n one Premise most ending
  ComesToWait : (turns : ℕ) → n ≡ suc turns → AllWait code links one turns []
      → Stopped code links n one Premise most More
  StaysInFront : n ≡ 0 → Stopped code links n one Premise most More

-- from one scene to another by a move of each at least, with n turns of each loop
abbrev pub LeadsTo : Tables → Option ℕ → ℕ → Abreast → Scene Local Message → Scene Local Message
    → List ℕ → Type 0
LeadsTo code links n all one other bytes =
    Brings code links one other 1 (IsLimited code all) (row_most code n) bytes

-- From in front of the row with a number; a goal is a row, or the end behind the last one.
abbrev pub GoesWell : Tables → Option ℕ → ℕ → ℕ → Abreast → Effect Abreast → Type 0
GoesWell code links n at all (Does (Goes bytes next)) =
    LeadsTo code links n all (in_front at all) (in_front (at + 1) next) bytes
    × AreOpen code links next
GoesWell code links n at all (Does (Stops (Ends ending))) =
    Stopped code links n (in_front at all) (IsLimited code all) (row_most code n) ending
GoesWell code links n at all (Does (Stops Wrong)) = ⊤
GoesWell code links n at all (Leaps goal) =
    LeadsTo code links n all (in_front at all) (in_front goal all) [] × (goal ≤ length code.code)
GoesWell code links n at all Passes =
    LeadsTo code links n all (in_front at all) (in_front (at + 1) all) []

-- The row with this number, and the one behind it, of code whose loops may make n turns within a
-- group.
abbrev pub HasOrder : Tables → Option ℕ → ℕ → ℕ → Instr → Option Instr → Type 0
HasOrder code links n at row next =
    (all : Abreast) → AreOpen code links all
    → GoesWell code links n at all (row_does code links n row next all)

-- the row behind it, where it is a vote, is the code's next one
abbrev pub IsFollowed : Tables → ℕ → Option Instr → Type 0
IsFollowed code at next =
    (group : ℕ) → is_vote_of group next ≡ true → slice_get code.code (at + 1) ≡ next

-- every row of the code has its order
abbrev pub HaveOrders : Tables → Option ℕ → Type 0
HaveOrders code links =
    (n at : ℕ) (row : Instr) (next : Option Instr) → slice_get code.code at ≡ Some row
    → IsFollowed code at next → HasOrder code links n at row next
