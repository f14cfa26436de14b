-- What is read of bytes.
use Rattle.std.proofs.Common.{◌≡◌, ℕ, List, sym, ◌∙◌, ap, subst}
use Rattle.std.specs.Prelude.{Result, Ok, Err, IfErr, IsErrAnd}
use Rattle.node_form.specs.declared.tables.Tables.{Tables}
use Rattle.listing_rules.specs.of_listing_lines.declared.lines.Line.{Line}
use Rattle.listing_rules.specs.of_listing_lines.Line.{lines_text}
use Rattle.listing_rules.specs.of_listing_lines.Listing.{AreLines}
use Rattle.listing_rules.specs.of_listing_rows.Listing.{listing_of}
use Rattle.listing_rules.specs.declared.faults.ListFault.{ListFault}
use Rattle.listing_rules.specs.declared.faults.ListFault.TheVariants.{BadLine, BadTable, NoMemory}
use Rattle.listing_rules.specs.Reads.{FaultAt}
use Rattle.listing_rules.specs.Stages.{AreTables, Breaks}
use Rattle.listing_rules.proofs.Sound.{sound}
use Rattle.node_text.specs.Listing.{Explains, IsListing}

pub listed : (bytes : List ℕ) (lines : List Line) (tables : Tables) → AreLines bytes lines → AreTables lines tables → IsListing bytes tables
unfolding listing_of
listed bytes lines tables are rows =
    let s = sound lines tables rows in
    record { lines = lines; are = are; rows = rows; written = are.written ∙ ap lines_text s.split; fits = s.fits; room = s.room }

explained : (bytes : List ℕ) (lines : List Line) → AreLines bytes lines → (fault : ListFault) → FaultAt (Breaks lines) lines fault → Explains bytes fault
explained bytes lines are (BadLine number) at = absurd at
explained bytes lines are (BadTable number) at = record { lines = lines; are = are; left = at.0; breaks = at.1; counted = at.2 }
explained bytes lines are NoMemory at = tt

pub explained_on : {V : Type 0} (bytes : List ℕ) (lines seen : List Line) (fault : ListFault) (r : Result V ListFault) → AreLines bytes lines → seen ≡ lines → IsErrAnd r (λ e. e ≡ fault) →
    FaultAt (Breaks seen) seen fault → IfErr r (Explains bytes)
explained_on bytes lines seen fault (Ok x) are same is at = absurd is
explained_on bytes lines seen fault (Err e) are same is at =
    subst (Explains bytes) (sym is) (explained bytes lines are fault (subst (λ (l : List Line). FaultAt (Breaks l) l fault) same at))
