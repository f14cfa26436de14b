-- Bytes that are the saved text of a grid.
--
--   IsSaveable   a grid that has a saved text: it may go on from where it stands
--   IsSaved      the bytes are that text
use Rattle.std.specs.Prelude.{◌≡◌, ℕ, ◌*◌, ◌^◌, ◌<◌, List, [], length, slice_get, Some, All}
use Rattle.grid_links.specs.declared.messages.Message.{Message}
use Rattle.grid_links.specs.Links.{link_of}
use Rattle.node_form.specs.declared.tables.Tables.{Tables}
use Rattle.grid_meaning.specs.Grid.{Grid}
use Rattle.grid_meaning.specs.Local.{Local, processors}
use Rattle.grid_meaning.specs.State.{IsLocal}
use Rattle.listing_rows.specs.Listing.{listing_of}
use Rattle.node_text.specs.Listing.{IsListing}
use Rattle.save_lines.specs.Line.{AreSavedLines}
use Rattle.grid_save.specs.Kept.{IsEnding}
use Rattle.grid_save.specs.Written.{grid_lines, save_text}

-- the limits of counts
pub record AreCounted (turns sends words : ℕ) : Type 0 where
  pub few_turns : turns < 2 ^ 62
  pub few_sends : sends < 2 ^ 62
  pub few_words : words < 2 ^ 126

-- the states of the program's processors, as each may be, with endings that lines have
pub record AreLocals (code : Tables) (locals : List Local) : Type 0 where
  pub many : length locals ≡ processors code
  pub each : (p : ℕ) (local : Local) → slice_get locals p ≡ Some local → IsLocal code p local
  pub ended : All (λ local. IsEnding local.ended) locals

-- a link from each processor to each, of which that to itself is empty
pub record AreLinks (code : Tables) (links : List (List Message)) : Type 0 where
  pub many : length links ≡ processors code * processors code
  pub own : (p : ℕ) → p < processors code → link_of (processors code) links p p ≡ []

-- The numbers in its lines are of 64 bits. What was printed isn't saved.
pub record IsSaveable (code : Tables) (grid : Grid) : Type 0 where
  pub locals : AreLocals code grid.world.locals
  pub links : AreLinks code grid.world.links
  pub counts : AreCounted grid.turns grid.sends grid.words
  pub lines : AreSavedLines (grid_lines code grid)
  pub printed : grid.printed ≡ []

pub record IsSaved (bytes : List ℕ) (code : Tables) (grid : Grid) : Type 0 where
  pub listed : IsListing (listing_of code) code
  pub grid_is : IsSaveable code grid
  pub written : bytes ≡ save_text code grid
