-- When all code of a program is numbered as it is laid out, and its storages may stand in tables.
use Rattle.std.specs.Prelude.{◌≡◌, ℕ, ◌+◌, ◌<◌, List, [], ◌∷◌, ◌++◌, length}
use Rattle.meaning_ranks.specs.of_zpl_tree.Syntax.{Name, Bracket, NoBracket, Bracketed, VarDef}
use Rattle.meaning_ranks.specs.of_zpl_names.Expansion.{FormalName, formal_names}
use Rattle.meaning_ranks.specs.of_zpl_names.Declared.{Routine}
use Rattle.meaning_ranks.specs.of_zpl_meaning.Context.{Setup}
use Rattle.meaning_ranks.specs.of_zpl_meaning.Variables.{home_box, storage_box}
use Rattle.stored_shifts.specs.of_node_form.declared.tables.Tables.{Tables}
use Rattle.lower_numbers.specs.of_zpl_lowering.Where.{Next}
use Rattle.lower_numbers.specs.of_zpl_lowering.Lowered.{Lowered, rows_alone, behind}
use Rattle.lower_numbers.specs.of_zpl_lowering.Statement.{Calling, Given, Valued, Copied, Referring}
use Rattle.lower_numbers.specs.of_zpl_lowering.Program.{Framed, with_scalar, with_array, Entry, zero_row, clear_row, made_copy}
use Rattle.lowering_fits.specs.Slates.{HasStorage}
use Rattle.lowering_fits.specs.Storages.{IsStorage}

-- The numbers begin where the tables do: arrays, copies behind them, and temporaries behind these.
-- All copies are those of calls.
pub record IsNumbered (next : Next) (lowered : Lowered) : Type 0 where
  pub scalars : next.scalars ≡ 0
  pub slots : next.slots ≡ 0
  pub arrays : next.arrays ≡ 0
  pub no_copies : lowered.copies ≡ []
  pub later : next.later ≡ length lowered.arrays
  pub temps : next.temps ≡ length lowered.arrays + length lowered.later

-- ---- parameters and local variables

-- what parameters take: scalars that are there, and arrays that are, with their storages
abbrev pub FitsGiven : Tables → Given → Type 0
FitsGiven tables (Valued scalar) = scalar < tables.scalars
FitsGiven tables (Copied stored home) =
    HasStorage tables stored.storage stored.array × IsStorage stored.storage
FitsGiven tables (Referring thing) = Unit {0}

abbrev pub FitsGivens : Tables → List Given → Type 0
FitsGivens tables [] = Unit {0}
FitsGivens tables (given ∷ rest) = FitsGiven tables given × FitsGivens tables rest

abbrev pub FitsVars : Setup → Bracket → Type 0
FitsVars setup NoBracket = Unit {0}
FitsVars setup (Bracketed inner) = IsStorage (storage_box setup.known setup.borders inner)

-- the names and numbers behind them, and what is free there
pub record Frames : Type 0 where
  pub frame : Framed
  pub next : Next

abbrev pub given_frame : ℕ → Name → Given → Framed → Next → Frames
given_frame line name (Valued scalar) frame next =
    record { frame = with_scalar frame name scalar; next = next }
given_frame line name (Referring thing) frame next =
    record {
      frame = record frame { names = frame.names ++ (name.text, thing) ∷ [] };
      next = next;
    }
given_frame line name (Copied from home) frame next = record {
  frame = with_array frame name home (record { array = next.arrays; storage = from.storage });
  next = behind next (made_copy line next from);
}

abbrev pub given_frames : ℕ → List FormalName → List Given → Framed → Next → Frames
given_frames line [] actuals frame next = record { frame = frame; next = next }
given_frames line (formal ∷ formals) [] frame next = record { frame = frame; next = next }
given_frames line (formal ∷ formals) (actual ∷ actuals) frame next =
    let one = given_frame line formal.name actual frame next in
    given_frames line formals actuals one.frame one.next

abbrev pub local_frame : Setup → Entry → Bracket → Name → Framed → Next → Frames
local_frame setup entry NoBracket name frame next = record {
  frame = with_scalar frame name next.scalars;
  next = behind next (record (rows_alone (zero_row entry next.scalars)) { scalars = 1 });
}
local_frame setup entry (Bracketed inner) name frame next =
    let storage = storage_box setup.known setup.borders inner in
    record {
      frame = with_array frame name (home_box setup.known inner)
          (record { array = next.arrays; storage = storage });
      next = behind next
          (record (rows_alone (clear_row entry next.arrays)) { arrays = storage ∷ [] });
    }

abbrev pub name_frames : Setup → Entry → Bracket → List Name → Framed → Next → Frames
name_frames setup entry shape [] frame next = record { frame = frame; next = next }
name_frames setup entry shape (name ∷ names) frame next =
    let one = local_frame setup entry shape name frame next in
    name_frames setup entry shape names one.frame one.next

abbrev pub local_frames : Setup → Entry → List VarDef → Framed → Next → Frames
local_frames setup entry [] frame next = record { frame = frame; next = next }
local_frames setup entry (var ∷ vars) frame next =
    let one = name_frames setup entry var.shape var.names frame next in
    local_frames setup entry vars one.frame one.next

abbrev pub AllVars : Setup → List VarDef → Type 0
AllVars setup [] = Unit {0}
AllVars setup (var ∷ vars) = FitsVars setup var.shape × AllVars setup vars

-- all of a procedure that is called
abbrev pub body_frames : Setup → Entry → Routine → Calling → Next → Frames
body_frames setup entry routine calling next =
    let given = given_frames entry.line (formal_names routine.procedure.params) calling.actuals
    (record { names = []; numbers = calling.numbers }) next in
    local_frames setup entry routine.procedure.locals given.frame given.next
