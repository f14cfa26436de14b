-- A grid of code, and one of its counted code: they differ in the counting cell and in the numbers
-- of members.
--
--   stretched         the number of a member in a group of the counted code
--   counted_local     a processor's state there, with so many turns counted
--   counted_message   a message there: the words of a vote are numbers of members
--   AreAlike          the grids, with at most so many turns counted by each processor
--   most_counted      so many in an order
--   AreTurns          what a processor does next in both
use Rattle.std.specs.Prelude.{◌≡◌, ℕ, zero, suc, ◌+◌, ◌*◌, ◌/◌, ◌%◌, ◌==◌, ◌&&◌, ◌≤◌, Bool, true}
use Rattle.std.specs.Prelude.{false, ℤ, pos}
use Rattle.std.specs.Prelude.{sum_by, negsuc, List, ◌∷◌, [], ◌++◌, length, map, Option, Some, None}
use Rattle.std.specs.Prelude.{slice_get}
use Rattle.std.specs.Option.{option_map}
use Rattle.grid_links.specs.declared.messages.Message.{Message}
use Rattle.grid_links.specs.Machine.{Move, Moves, Waiting, Over, Stuck}
use Rattle.node_form.specs.declared.instructions.Instr.{Instr}
use Rattle.node_form.specs.declared.instructions.Instr.TheVariants as instr
use Rattle.node_form.specs.declared.tables.Tables.{Tables}
use Rattle.grid_meaning.specs.Action.{StuckKind}
use Rattle.grid_meaning.specs.Grid.{Grid}
use Rattle.grid_meaning.specs.Local.{Local}
use Rattle.grid_meaning.specs.Turn.{Turn}

-- ---- numbers of members, k * (n + 1) for k
abbrev pub stretched : ℕ → ℕ → ℕ
stretched n zero = 0
stretched n (suc k) = stretched n k + suc n

-- as a word of a vote, which is -1 for none
abbrev pub stretched_word : ℕ → ℤ → ℤ
stretched_word n (pos k) = pos (stretched n k)
stretched_word n (negsuc k) = negsuc k

abbrev pub words_as : Bool → ℕ → List ℤ → List ℤ
words_as true n words = map (stretched_word n) words
words_as false n words = words

abbrev pub stretched_entry : ℕ → ℕ × List ℤ → ℕ × List ℤ
stretched_entry n entry = (entry.0, map (stretched_word n) entry.1)

abbrev pub kept_as : Bool → ℕ → List (ℕ × List ℤ) → List (ℕ × List ℤ)
kept_as true n kept = map (stretched_entry n) kept
kept_as false n kept = kept

-- ---- votes
abbrev pub is_vote : Option Instr → Bool
is_vote (Some (instr.Vote group)) = true
is_vote (Some (instr.TreeVote group)) = true
is_vote row = false

-- a vote is next; and a message with this tag is one of a vote
abbrev pub votes_at : Tables → ℕ → Bool
votes_at code at = is_vote (slice_get code.code at)

abbrev pub is_of_vote : Tables → ℕ → Bool
is_of_vote code tag = tag % 2 == 1 && votes_at code (tag / 2)

-- ---- processors and messages
abbrev pub counted_local : Tables → ℕ → ℕ → Local → Local
counted_local code n count local = record local {
  member = stretched n local.member;
  flag = option_map (stretched n) local.flag;
  cells = local.cells ++ pos count ∷ [];
  kept = kept_as (votes_at code local.at) n local.kept;
}

abbrev pub counted_message : Tables → ℕ → Message → Message
counted_message code n message =
    record message { words = words_as (is_of_vote code message.tag) n message.words }

-- a state has a cell for each of the code's, and at most so many turns were counted
pub record IsAlike (code : Tables) (n most : ℕ) (local other : Local) : Type 0 where
  pub count : ℕ
  pub few : count ≤ most
  pub long : length local.cells ≡ code.cells
  pub same : other ≡ counted_local code n count local

-- both have such a processor, or neither
pub data AreLocals (code : Tables) (n most : ℕ) : Option Local → Option Local → Type 0 where
  NoLocals : AreLocals code n most None None
  BothLocals : {local other : Local} → IsAlike code n most local other
      → AreLocals code n most (Some local) (Some other)

-- ---- grids
pub record AreAlike (code : Tables) (n most : ℕ) (grid other : Grid) : Type 0 where
  pub locals : (p : ℕ)
      → AreLocals code n most (slice_get grid.world.locals p) (slice_get other.world.locals p)
  pub links : other.world.links ≡ map (map (counted_message code n)) grid.world.links
  pub printed : other.printed ≡ grid.printed
  pub turns : other.turns ≡ grid.turns
  pub sends : other.sends ≡ grid.sends
  pub words : other.words ≡ grid.words

-- How many turns of loops a processor counts at most in so many turns: in one of them it comes to
-- each member of a group once at most.
abbrev pub most_counted : Tables → ℕ → ℕ
most_counted code turns = turns * sum_by length code.groups

-- ---- turns
abbrev pub counted_sent : Tables → ℕ → Option (ℕ × Message) → Option (ℕ × Message)
counted_sent code n sent = option_map (λ s. (s.0, counted_message code n s.1)) sent

pub record AreMoves (code : Tables) (n most : ℕ) (move other : Move Local Message) : Type 0 where
  pub next : IsAlike code n most move.next other.next
  pub sent : other.sent ≡ counted_sent code n move.sent
  pub taken : other.taken ≡ move.taken
  pub shown : other.shown ≡ move.shown

pub data AreTurns (code : Tables) (n most : ℕ) : Turn → Turn → Type 0 where
  BothMove : {move other : Move Local Message} → AreMoves code n most move other
      → AreTurns code n most (Moves move) (Moves other)
  BothWait : AreTurns code n most Waiting Waiting
  BothOver : AreTurns code n most Over Over
  BothStuck : (kind : StuckKind) → AreTurns code n most (Stuck kind) (Stuck kind)
