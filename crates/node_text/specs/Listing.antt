-- Bytes that are the listing of a program, and why others aren't one.
use Rattle.std.specs.Prelude.{◌≡◌, ℕ, List}
use Rattle.node_form.specs.declared.tables.Tables.{Tables}
use Rattle.node_form.specs.Fits.{Fits}
use Rattle.listing_rules.specs.of_listing_lines.declared.lines.Line.{Line}
use Rattle.listing_rules.specs.of_listing_lines.Listing.{AreLines, IsBadLine}
use Rattle.listing_rules.specs.of_listing_rows.Listing.{listing_of}
use Rattle.listing_rules.specs.declared.faults.ListFault.{ListFault}
use Rattle.listing_rules.specs.declared.faults.ListFault.TheVariants.{BadLine, BadTable, NoMemory}
use Rattle.listing_rules.specs.Reads.{IsNumber}
use Rattle.listing_rules.specs.Room.{HasRoom}
use Rattle.listing_rules.specs.Stages.{AreTables, Breaks}

-- The bytes are lines that tell the tables: what these are written as. They fit, and have room.
pub record IsListing (bytes : List ℕ) (tables : Tables) : Type 0 where
  pub lines : List Line
  pub are : AreLines bytes lines
  pub rows : AreTables lines tables
  pub written : bytes ≡ listing_of tables
  pub fits : Fits tables
  pub room : HasRoom tables

-- All lines have their forms, and the line with this number is the first that breaks a rule of
-- tables.
pub record IsBadTable (bytes : List ℕ) (number : ℕ) : Type 0 where
  pub lines : List Line
  pub are : AreLines bytes lines
  pub left : List Line
  pub breaks : Breaks lines left
  pub counted : IsNumber lines left number

abbrev pub Explains : List ℕ → ListFault → Type 0
Explains bytes (BadLine number) = IsBadLine bytes number
Explains bytes (BadTable number) = IsBadTable bytes number
Explains bytes NoMemory = Unit {0}
