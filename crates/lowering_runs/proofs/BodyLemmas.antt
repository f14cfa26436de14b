-- A procedure that is entered: its parameters, and its local variables, which are cleared.
use Rattle.std.proofs.Common.{◌≡◌, ◌≢◌, ℕ, suc, ◌≤◌, ◌<◌, Bool, true, false, pos, List, []}
use Rattle.std.proofs.Common.{◌∷◌, ◌++◌, map, length, refl, sym, ap, ◌∙◌, subst}
use Rattle.std.proofs.Common.{arith}
use Rattle.zpl_nums.proofs.IntegerLemmas.{IsInteger-truth}
use Rattle.std.specs.Prelude.{slice_index_or}
use Rattle.zpl_region.specs.declared.regions.Region.{Region}
use Rattle.zpl_arrays.specs.Array.{Array}
use Rattle.lowering_fits.specs.of_zpl_binding.Regions.{no_region}
use Rattle.lowering_fits.specs.of_zpl_meaning.Store.{no_array}
use Rattle.zpl_tree.specs.Syntax.{Name, Bracket, NoBracket, Bracketed, VarDef}
use Rattle.zpl_names.specs.Expansion.{FormalName}
use Rattle.lowering_fits.specs.of_zpl_meaning.Store.{Thing, Names, Store}
use Rattle.lowering_fits.specs.of_zpl_meaning.Context.{Setup}
use Rattle.lowering_fits.specs.of_zpl_meaning.Outcome.{Outcome}
use Rattle.lowering_fits.specs.of_zpl_meaning.Variables.{Frame, with_scalar_named, with_name, with_names, with_variables}
use Rattle.lowering_fits.specs.of_zpl_meaning.Calls.{with_handed, with_formals}
use Rattle.node_form.specs.Expression.{Constant, words_of}
use Rattle.node_form.specs.Value.{scalar_operands}
use Rattle.node_form.proofs.ValueLemmas.{value_of-words_of}
use Rattle.node_form.specs.declared.tables.Tables.{Tables}
use Rattle.row_runs.specs.Run.{Step}
use Rattle.row_runs.specs.Structured as code
use Rattle.row_runs.specs.Structured.{Course, by_step}
use Rattle.lowering_fits.specs.of_flat_form.Whole.{Whole}
use Rattle.lowering_fits.specs.of_zpl_lowering.Where.{Stored, Next}
use Rattle.lowering_fits.specs.of_zpl_lowering.Lowered.{Lowered, behind, rows_alone}
use Rattle.lowering_fits.specs.of_zpl_lowering.Statement.{Given, Valued, Copied, Referring}
use Rattle.lowering_fits.specs.of_zpl_lowering.Program as low
use Rattle.lowering_fits.specs.of_zpl_lowering.Program.{Framed, Entry}
use Rattle.lowering_runs.specs.Seen.{scalar_in, Spot, At, Answer, seen_spot, seen_store, numbered, seen_thing, seen_names}
use Rattle.lowering_runs.specs.Run.{does}
use Rattle.lowering_runs.specs.Agrees.{Agrees}
use Rattle.lowering_runs.specs.Stands.{IsBefore, IsKnown, HasRoom, IsSound, Keeps}
use Rattle.lowering_runs.specs.Frames.{seen_frame, seen_given, Framing, AreGiven, IsScalarShape, AreScalarLocals, IsFresh}
use Rattle.lowering_runs.proofs.FitLemmas.{room_coded, room_rest}
use Rattle.lowering_runs.proofs.NumberLemmas.{rises_on, same_spots, get_set_same, get_set_other}
use Rattle.lowering_runs.proofs.RowLemmas.{set, set_to, set_step, set_sound}
use Rattle.lowering_runs.proofs.FrameLemmas.{map_append, thing_below, known_both, thing_more, framing_with, scalar_frame}

-- ---- parameters

-- a name of something that there is
thing_frame : (base more : List Spot) (framed : Framed) (spots : List Spot) (arrays : ℕ)
    (name : Name) (thing : Thing) (now : Whole) → spots ≡ base ++ more
    → IsKnown (length (numbered base)) arrays thing
    → with_handed (seen_frame spots framed now) name (seen_given base now (Referring thing))
    ≡ seen_frame spots (record framed { names = framed.names ++ (name.text, thing) ∷ [] }) now
thing_frame base more framed spots arrays name thing now is known =
    ap (λ (t : Thing). record {
      names = seen_names spots framed.names ++ (name.text, t) ∷ [];
      store = seen_store spots framed.numbers.arrays now;
    })
    (sym (ap (λ (xs : List Spot). seen_thing xs thing) is ∙ thing_below base more arrays thing known))
    ∙ ap (λ (ns : Names). record {
      names = ns;
      store = seen_store spots framed.numbers.arrays now;
    })
    (sym (map_append (λ (e : List ℕ × Thing). (e.0, seen_thing spots e.1)) framed.names
    ((name.text, thing) ∷ [])))

-- the longest that any names stand below
longer_known : (base more : List Spot) (arrays : ℕ) (thing : Thing) (spots : List Spot)
    → spots ≡ base ++ more → IsKnown (length (numbered base)) arrays thing
    → IsKnown (length (numbered spots)) arrays thing
longer_known base more arrays thing spots is h =
    thing_more (length (numbered base)) (length (numbered spots)) arrays thing
    (subst (λ (xs : List Spot). length (numbered base) ≤ length (numbered xs)) (sym is)
    (le_append base more)) h
  where
    le_append : (xs ys : List Spot) → length (numbered xs) ≤ length (numbered (xs ++ ys))
    le_append [] ys = omega arith
    le_append (At k ∷ xs) ys = let l = le_append xs ys in omega (arith, l)
    le_append (Answer value ∷ xs) ys = le_append xs ys

-- the numbers that a frame has behind the parameters
pub record Given_ (base : List Spot) (bottom : ℕ) (arrays : List Stored)
    (formals : List FormalName) (givens : List Given) (framed : Framed) (spots : List Spot)
    (line : ℕ) (next : Next) (now : Whole) (to : ℕ) : Type 0 where
  pub frame : Framed
  pub sight : List Spot
  pub code_is : (rest : Framed → Next → Lowered)
      → low.givens_code line formals givens framed next rest ≡ rest frame next
  pub frame_is : with_formals (seen_frame spots framed now) formals (map (seen_given base now) givens)
      ≡ seen_frame sight frame now
  pub framing : Framing base bottom arrays frame sight to

framing_on : (base : List Spot) (bottom : ℕ) (arrays : List Stored) (framed : Framed)
    (spots : List Spot) (bound more : ℕ) → bound ≤ more
    → Framing base bottom arrays framed spots bound → Framing base bottom arrays framed spots more
framing_on base bottom arrays framed spots bound more le h = record {
  more = h.more;
  is = h.is;
  above = h.above;
  numbers = h.numbers;
  arrays_are = h.arrays_are;
  rises = rises_on 0 (numbered spots) bound more le h.rises;
  known = h.known;
}

given_le : (scalars arrays from : ℕ) (givens : List Given) (to : ℕ)
    → AreGiven scalars arrays from givens to → from ≤ to
given_le scalars arrays from [] to h = h
given_le scalars arrays from (Valued k ∷ givens) to h =
    let l = given_le scalars arrays (suc k) givens to h.1 in omega (arith, l, h.0)
given_le scalars arrays from (Referring thing ∷ givens) to h =
    given_le scalars arrays from givens to h.1
given_le scalars arrays from (Copied stored home ∷ givens) to h = absurd h

pub givens_framed : (base : List Spot) (bottom : ℕ) (arrays : List Stored)
    (formals : List FormalName) (givens : List Given) (framed : Framed) (spots : List Spot)
    (line : ℕ) (next : Next) (now : Whole) (from to : ℕ) → bottom ≤ from
    → AreGiven (length (numbered base)) (length arrays) from givens to
    → Framing base bottom arrays framed spots from
    → Given_ base bottom arrays formals givens framed spots line next now to
givens_framed base bottom arrays [] givens framed spots line next now from to le g h = record {
  frame = framed;
  sight = spots;
  code_is = λ rest. refl;
  frame_is = refl;
  framing = framing_on base bottom arrays framed spots from to
      (given_le (length (numbered base)) (length arrays) from givens to g) h;
}
givens_framed base bottom arrays (formal ∷ formals) [] framed spots line next now from to le g h =
    record {
      frame = framed;
      sight = spots;
      code_is = λ rest. refl;
      frame_is = refl;
      framing = framing_on base bottom arrays framed spots from to g h;
    }
givens_framed base bottom arrays (formal ∷ formals) (Valued k ∷ givens) framed spots line next now
    from to le g h =
    let inner = low.with_scalar framed formal.name k in
    let here = spots ++ At k ∷ [] in
    let r = givens_framed base bottom arrays formals givens inner here line next now (suc k) to
    (omega (arith, le, g.0)) g.1
    (framing_with base bottom arrays framed spots from k formal.name g.0 (omega (arith, le, g.0)) h) in
    record {
      frame = r.frame;
      sight = r.sight;
      code_is = r.code_is;
      frame_is =
          ap (λ (f : Frame). with_formals f formals (map (seen_given base now) givens))
          (scalar_frame spots framed (length arrays) k formal.name (scalar_in now k) now now h.known
          h.numbers refl refl refl)
          ∙ r.frame_is;
      framing = r.framing;
    }
givens_framed base bottom arrays (formal ∷ formals) (Referring thing ∷ givens) framed spots line next
    now from to le g h =
    let inner : Framed =
    record framed { names = framed.names ++ (formal.name.text, thing) ∷ [] } in
    let r = givens_framed base bottom arrays formals givens inner spots line next now from to le g.1
    (record {
      more = h.more;
      is = h.is;
      above = h.above;
      numbers = h.numbers;
      arrays_are = h.arrays_are;
      rises = h.rises;
      known = known_both (length (numbered spots)) (length arrays) framed.names _ h.known
          (longer_known base h.more (length arrays) thing spots h.is g.0, tt);
    }) in
    record {
      frame = r.frame;
      sight = r.sight;
      code_is = r.code_is;
      frame_is =
          ap (λ (f : Frame). with_formals f formals (map (seen_given base now) givens))
          (thing_frame base h.more framed spots (length arrays) formal.name thing now h.is g.0)
          ∙ r.frame_is;
      framing = r.framing;
    }
givens_framed base bottom arrays (formal ∷ formals) (Copied stored home ∷ givens) framed spots line
    next now from to le g h = absurd g

-- ---- local variables

module _ (tables : Tables) (n : ℕ) (setup : Setup) (entry : Entry) (base : List Spot)
    (bottom : Next) (arrays : List Stored) (start : Whole) (IsAlike : Store → Whole → Type 0)
    (spare : ℕ) where
  -- what is run and code go alike from each frame and state
  abbrev pub GoesOn : (Frame → Type 0) → (Frame → Outcome) → (Framed → Next → Lowered) → Type 0
  GoesOn IsReached run rest =
      (framed : Framed) (spots : List Spot) (next : Next) (now : Whole)
      → Framing base bottom.scalars arrays framed spots next.scalars → IsBefore bottom next
      → IsSound tables now → Keeps (numbered base) bottom start now
      → IsFresh entry.clears next.scalars now → HasRoom tables next (rest framed next)
      → IsReached (seen_frame spots framed now)
      → Agrees IsAlike n spare (run (seen_frame spots framed now))
      (does tables n (rest framed next).code now)

  -- the state with the variable cleared
  abbrev cleared : Bool → ℕ → Whole → Whole
  cleared true k now = set tables n now k (pos 0)
  cleared false k now = now

  fresh_after : (clears : Bool) (k to : ℕ) (now : Whole) → k ≤ to → IsFresh clears k now
      → IsFresh clears to (cleared clears k now)
  fresh_after true k to now le h = tt
  fresh_after false k to now le h = λ j l. h j (omega (arith, le, l))

  record IsCleared (clears : Bool) (line k : ℕ) (now : Whole) (f : Whole → Course Whole) : Type 0
    where
      course : code.then_do (does tables n
          (code.Rows (low.zero_row (record { clears = clears; line = line }) k)) now) f
          ≡ f (cleared clears k now)
      here : scalar_in (cleared clears k now) k ≡ pos 0
      other : (j : ℕ) → j ≢ k → scalar_in (cleared clears k now) j ≡ scalar_in now j
      sound : IsSound tables (cleared clears k now)
      slots : (cleared clears k now).slots ≡ now.slots
      stores : (cleared clears k now).stores ≡ now.stores

  clears_it : (clears : Bool) (line k : ℕ) (now : Whole) (f : Whole → Course Whole)
      → k < tables.scalars → IsSound tables now → IsFresh clears k now
      → IsCleared clears line k now f
  clears_it true line k now f lt sound fresh = record {
    course =
        ap (λ (s : Step Whole). code.then_do (by_step now s (λ w. code.goes_on w)) f)
        (set_step tables n now sound.settled k line (words_of (Constant (pos 0)))
        ∙ ap (set_to tables n now k line)
        (value_of-words_of (scalar_operands now.scalars) (Constant (pos 0))));
    here = get_set_same now.scalars k (pos 0) (omega (arith, lt, sound.filled.scalars));
    other = λ j ne. get_set_other now.scalars k j (pos 0) ne;
    sound = set_sound tables n now k (pos 0) lt (IsInteger-truth false) sound;
    slots = refl;
    stores = refl;
  }
  clears_it false line k now f lt sound fresh = record {
    course = refl;
    here = fresh k (omega arith);
    other = λ j ne. refl;
    sound = sound;
    slots = refl;
    stores = refl;
  }

  local_goes : (shape : Bracket) (name : Name) (IsReached : Frame → Type 0)
      (run : Frame → Outcome) (rest : Framed → Next → Lowered) → IsScalarShape shape
      → GoesOn IsReached run rest
      → GoesOn (λ frame. IsReached (with_name setup.known setup.borders shape frame name))
      (λ frame. run (with_name setup.known setup.borders shape frame name))
      (λ framed next. low.local_code setup entry shape name framed next rest)
  local_goes (Bracketed inner) name IsReached run rest s each framed spots next now f before sound kept fresh room
      reached = absurd s
  local_goes NoBracket name IsReached run rest s each framed spots next now f before sound kept fresh room
      reached =
      let k = next.scalars in
      let first : Lowered = record (rows_alone (low.zero_row entry k)) { scalars = 1 } in
      let more = behind next first in
      let inner = low.with_scalar framed name k in
      let here = spots ++ At k ∷ [] in
      let go : Whole → Course Whole = does tables n (rest inner more).code in
      let lt : k < tables.scalars = omega (arith, room.scalars) in
      let c = clears_it entry.clears entry.line k now go lt sound fresh in
      let after = cleared entry.clears k now in
      let same : map (seen_spot after) spots ≡ map (seen_spot now) spots =
      same_spots now after 0 spots k f.rises
      (λ j a b. c.other j (λ e. absurd (omega (arith, b, e)))) in
      let frame : with_scalar_named (seen_frame spots framed now) name (pos 0)
      ≡ seen_frame here inner after =
      scalar_frame spots framed (length arrays) k name (pos 0) now after f.known f.numbers same
      c.here (ap (λ (xs : List Array). map (λ (s : Stored). slice_index_or xs s.array no_array)
      framed.numbers.arrays) c.stores) in
      subst (λ (x : Frame). Agrees IsAlike n spare (run x)
      (does tables n (low.local_code setup entry NoBracket name framed next rest).code now))
      (sym frame)
      (subst (λ (x : Course Whole). Agrees IsAlike n spare (run (seen_frame here inner after)) x)
      (sym c.course)
      (each inner here more after
      (framing_on base bottom.scalars arrays inner here (suc k) more.scalars (omega arith)
      (framing_with base bottom.scalars arrays framed spots k k name (omega arith) before.scalars f))
      (record {
        scalars = omega (arith, before.scalars);
        slots = omega (arith, before.slots);
        arrays = omega (arith, before.arrays);
      })
      c.sound
      (record {
        hidden = λ j l m. c.other j (λ e. absurd (omega (arith, l, e, before.scalars)))
            ∙ kept.hidden j l m;
        slots = λ j l. ap (λ (xs : List Region). slice_index_or xs j no_region) c.slots ∙ kept.slots j l;
      })
      (fresh_after entry.clears k more.scalars now (omega arith) fresh)
      (room_rest tables next (code.Rows []) first (rest inner more)
      (room_coded tables next (code.Rows []) _ room))
      (subst (λ (x : Frame). IsReached x) frame reached)))

  names_go : (shape : Bracket) (names : List Name) (IsReached : Frame → Type 0)
      (run : Frame → Outcome) (rest : Framed → Next → Lowered) → IsScalarShape shape
      → GoesOn IsReached run rest
      → GoesOn (λ frame. IsReached (with_names setup.known setup.borders shape frame names))
      (λ frame. run (with_names setup.known setup.borders shape frame names))
      (λ framed next. low.names_code setup entry shape names framed next rest)
  names_go shape [] IsReached run rest s each = each
  names_go shape (name ∷ names) IsReached run rest s each =
      local_goes shape name
      (λ frame. IsReached (with_names setup.known setup.borders shape frame names))
      (λ frame. run (with_names setup.known setup.borders shape frame names))
      (λ framed next. low.names_code setup entry shape names framed next rest) s
      (names_go shape names IsReached run rest s each)

  pub locals_go : (vars : List VarDef) (IsReached : Frame → Type 0) (run : Frame → Outcome)
      (rest : Framed → Next → Lowered) → AreScalarLocals vars → GoesOn IsReached run rest
      → GoesOn (λ frame. IsReached (with_variables setup.known setup.borders frame vars))
      (λ frame. run (with_variables setup.known setup.borders frame vars))
      (λ framed next. low.locals_code setup entry vars framed next rest)
  locals_go [] IsReached run rest s each = each
  locals_go (var ∷ vars) IsReached run rest s each =
      names_go var.shape var.names
      (λ frame. IsReached (with_variables setup.known setup.borders frame vars))
      (λ frame. run (with_variables setup.known setup.borders frame vars))
      (λ framed next. low.locals_code setup entry vars framed next rest) s.0
      (locals_go vars IsReached run rest s.1 each)
