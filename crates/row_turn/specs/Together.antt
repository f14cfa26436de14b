-- Rows in which the processors of a grid work together.
--
--   IsTogether   such a row
--   IsAlone      a row that needs no other processor
--   IsScan       one that is a `scan`
--   IsRemap      one that is a `remap`
--   OfRow        what holds of such a row's record
--   NamesOne     whom a stage names is a processor
--   kin_over     with whom a processor comes to one value
use Rattle.std.specs.Prelude.{ℕ, ◌<◌, Bool, ⊤, if◌then◌else◌}
use Rattle.std.specs.Option.{IfSome}
use Rattle.node_form.specs.declared.instructions.Instr.{Instr}
use Rattle.node_form.specs.declared.instructions.Instr.TheVariants as instr
use Rattle.node_form.specs.declared.tables.Tables.{Tables}
use Rattle.grid_meaning.specs.Collective.{Collective, Kin, Stage, Alone, Sends, TakesFrom, Last, star, tree}
use Rattle.grid_meaning.specs.Rows.{collective}

abbrev pub IsTogether : Instr → Type 0
IsTogether (instr.Start exchange) = ⊤
IsTogether (instr.Finish exchange) = ⊤
IsTogether (instr.Edge kind array slot shift) = ⊤
IsTogether (instr.Flood array target from source) = ⊤
IsTogether (instr.Part array target fold from source) = ⊤
IsTogether (instr.Scan array slot fold along from mask) = ⊤
IsTogether (instr.Gather truth array slot) = ⊤
IsTogether (instr.Remap array slot from parts) = ⊤
IsTogether (instr.Vote group) = ⊤
IsTogether (instr.TreeVote group) = ⊤
IsTogether (instr.Fold scalar fold) = ⊤
IsTogether (instr.TreeFold scalar fold) = ⊤
IsTogether row = ⊥

abbrev pub IsAlone : Instr → Type 0
IsAlone (instr.Set scalar expr line) = ⊤
IsAlone (instr.Fix slot region) = ⊤
IsAlone (instr.Dims slot parts line) = ⊤
IsAlone (instr.Formed form slot from shift line) = ⊤
IsAlone (instr.Need slot array shift line) = ⊤
IsAlone (instr.Same target source kind line) = ⊤
IsAlone (instr.Fits slot shift line) = ⊤
IsAlone (instr.Room array slot) = ⊤
IsAlone (instr.Clear array) = ⊤
IsAlone (instr.Loop slot group) = ⊤
IsAlone (instr.Print text) = ⊤
IsAlone (instr.Number expr) = ⊤
IsAlone (instr.Truth expr) = ⊤
IsAlone (instr.Jump goal) = ⊤
IsAlone (instr.Unless expr goal line) = ⊤
IsAlone (instr.Trap kind line) = ⊤
IsAlone instr.End = ⊤
IsAlone row = ⊥

abbrev pub IsScan : Instr → Type 0
IsScan (instr.Scan array slot fold along from mask) = ⊤
IsScan row = ⊥

abbrev pub IsRemap : Instr → Type 0
IsRemap (instr.Remap array slot from parts) = ⊤
IsRemap row = ⊥

abbrev pub OfRow : Tables → ℕ → Instr → (Collective → Type 0) → Type 0
OfRow code p row holds = IfSome (collective code p row) holds

-- whom a stage names is one of so many processors
abbrev pub NamesOne : ℕ → Stage → Type 0
NamesOne count Alone = ⊤
NamesOne count (Sends to) = to < count
NamesOne count (TakesFrom from) = from < count
NamesOne count Last = ⊤

-- over a tree of all processors, or with all others as children of processor 0
abbrev pub kin_over : Tables → ℕ → Bool → Kin
kin_over code p over_tree = if over_tree then tree code p else star code p
