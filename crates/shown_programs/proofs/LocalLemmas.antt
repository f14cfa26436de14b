-- Local variables of a procedure that is entered, arrays among them: they are cleared.
use Rattle.std.proofs.Common.{◌≡◌, ◌≢◌, ◌⊎◌, inl, inr, ℕ, suc, ◌≤◌, ◌<◌, Bool, true, false, pos, List, []}
use Rattle.std.proofs.Common.{◌∷◌, ◌++◌, map, length, Option, Some, refl, sym, ap, ◌∙◌, subst}
use Rattle.std.proofs.Common.{arith}
use Rattle.std.proofs.lemmas.List.{length-map}
use Rattle.std.specs.Prelude.{slice_get, slice_index_or}
use Rattle.zpl_nums.specs.Integer.{IsInteger}
use Rattle.row_runs.specs.Straight.{Every}
use Rattle.served_places.proofs.of_lowering_runs.EntryLemmas.{zeros_integers}
use Rattle.std.proofs.lemmas.Bool.{cases_eq}
use Rattle.zpl_nums.proofs.IntegerLemmas.{IsInteger-truth}
use Rattle.zpl_region.specs.declared.regions.Region.{Region}
use Rattle.zpl_region.specs.Region.{members}
use Rattle.zpl_arrays.specs.Array.{Array}
use Rattle.zpl_binding.specs.Regions.{no_region}
use Rattle.zpl_tree.specs.Syntax.{Name, Bracket, NoBracket, Bracketed, VarDef}
use Rattle.zpl_meaning.specs.Store.{Store, no_array}
use Rattle.zpl_meaning.specs.Context.{Setup}
use Rattle.zpl_meaning.specs.Outcome.{Outcome}
use Rattle.zpl_meaning.specs.Variables.{Frame, home_box, storage_box, zero_array, with_scalar_named, with_array_named, with_name, with_names, with_variables}
use Rattle.node_form.specs.declared.arrays.ArrayRow.{ArrayRow}
use Rattle.node_form.specs.declared.instructions.Instr.TheVariants as instr
use Rattle.node_form.specs.declared.tables.Tables.{Tables}
use Rattle.node_form.specs.Expression.{Constant, words_of}
use Rattle.node_form.specs.Fits.{storage_of}
use Rattle.node_form.specs.Value.{scalar_operands}
use Rattle.node_form.proofs.ValueLemmas.{value_of-words_of}
use Rattle.row_runs.specs.Run.{Step, Goes, Does}
use Rattle.row_runs.specs.Structured as code
use Rattle.row_runs.specs.Structured.{Course, by_step}
use Rattle.flat_form.specs.Moves.{found}
use Rattle.flat_form.specs.Row as row
use Rattle.flat_form.specs.Whole.{Whole, with_store}
use Rattle.grid_meaning.specs.Room.{zeros_at}
use Rattle.normal_runs.proofs.PlaceLemmas.{set_apart, set_there}
use Rattle.zpl_lowering.specs.Where.{Stored, Next}
use Rattle.zpl_lowering.specs.Lowered.{Lowered, behind, rows_alone}
use Rattle.zpl_lowering.specs.Program as low
use Rattle.zpl_lowering.specs.Program.{Framed, Entry}
use Rattle.zpl_lowering.specs.Tables.{stored_row}
use Rattle.served_places.specs.of_lowering_runs.Seen.{scalar_in, array_in, Spot, At, seen_spot, numbered}
use Rattle.served_places.specs.of_lowering_runs.Run.{straight, step, does}
use Rattle.served_places.specs.of_lowering_runs.Agrees.{Agrees}
use Rattle.served_places.specs.of_lowering_runs.Stands.{Rises, array_numbers, IsBefore, HasRoom, IsStored, IsSound, Keeps}
use Rattle.served_places.specs.of_lowering_runs.Frames.{seen_frame}
use Rattle.served_places.proofs.of_lowering_runs.FitLemmas.{room_coded, room_rest}
use Rattle.served_places.proofs.of_lowering_runs.NumberLemmas.{rises_le, same_spots, get_set_same, get_set_other}
use Rattle.served_places.proofs.of_lowering_runs.RowLemmas.{set, set_to, set_step, set_sound, settled_act}
use Rattle.served_places.proofs.of_lowering_runs.FrameLemmas.{scalar_frame}
use Rattle.served_places.specs.of_array_puts.Put.{with_array_in}
use Rattle.point_runs.proofs.of_array_runs.StoredLemmas.{index_of_found, zip_at}
use Rattle.point_runs.proofs.of_array_runs.LikeLemmas.{zip_new, index_is, index_if}
use Rattle.lowered_flat.specs.of_lowering_fits.Whole.{FitsVars, AllVars, local_frame, name_frames, local_frames}
use Rattle.lowered_flat.proofs.of_lowering_fits.ArrayLemmas.{row_storage, row_three}
use Rattle.shown_programs.proofs.FrameLemmas.{Framing, framing_scalar, framing_array, array_frame}

-- ---- what is free is clear already, where variables aren't cleared

-- scalars from a number on
abbrev pub AreFresh : Bool → ℕ → Whole → Type 0
AreFresh true from whole = Unit {0}
AreFresh false from whole = (k : ℕ) → from ≤ k → scalar_in whole k ≡ pos 0

-- stored arrays from a number on
abbrev pub AreFreshArrays : Tables → Bool → ℕ → Whole → Type 0
AreFreshArrays tables true from whole = Unit {0}
AreFreshArrays tables false from whole =
    (k : ℕ) (row : ArrayRow) → from ≤ k → slice_get tables.arrays k ≡ Some row
    → row.stored ≡ true → slice_get whole.stores k ≡ Some (zeros_at (storage_of row))

module _ (tables : Tables) (n : ℕ) where
  -- ---- a scalar

  abbrev scalar_cleared : Bool → ℕ → Whole → Whole
  scalar_cleared true k now = set tables n now k (pos 0)
  scalar_cleared false k now = now

  record IsScalarCleared (clears : Bool) (line k : ℕ) (now : Whole) (f : Whole → Course Whole)
      : Type 0 where
    course : code.then_do (does tables n
        (code.Rows (low.zero_row (record { clears = clears; line = line }) k)) now) f
        ≡ f (scalar_cleared clears k now)
    here : scalar_in (scalar_cleared clears k now) k ≡ pos 0
    other : (j : ℕ) → j ≢ k → scalar_in (scalar_cleared clears k now) j ≡ scalar_in now j
    sound : IsSound tables (scalar_cleared clears k now)
    slots : (scalar_cleared clears k now).slots ≡ now.slots
    stores : (scalar_cleared clears k now).stores ≡ now.stores
    fresh : (to : ℕ) → k ≤ to → AreFresh clears to (scalar_cleared clears k now)
    arrays : (to : ℕ) → AreFreshArrays tables clears to now
        → AreFreshArrays tables clears to (scalar_cleared clears k now)

  clears_scalar : (clears : Bool) (line k : ℕ) (now : Whole) (f : Whole → Course Whole)
      → k < tables.scalars → IsSound tables now → AreFresh clears k now
      → IsScalarCleared clears line k now f
  clears_scalar true line k now f lt sound fresh = record {
    course =
        ap (λ (s : Step Whole). code.then_do (by_step now s (λ w. code.goes_on w)) f)
        (set_step tables n now sound.settled k line (words_of (Constant (pos 0)))
        ∙ ap (set_to tables n now k line)
        (value_of-words_of (scalar_operands now.scalars) (Constant (pos 0))));
    here = get_set_same now.scalars k (pos 0) (omega (arith, lt, sound.filled.scalars));
    other = λ j ne. get_set_other now.scalars k j (pos 0) ne;
    sound = set_sound tables n now k (pos 0) lt (IsInteger-truth false) sound;
    slots = refl;
    stores = refl;
    fresh = λ to le. tt;
    arrays = λ to h. tt;
  }
  clears_scalar false line k now f lt sound fresh = record {
    course = refl;
    here = fresh k (omega arith);
    other = λ j ne. refl;
    sound = sound;
    slots = refl;
    stores = refl;
    fresh = λ to le j l. fresh j (omega (arith, le, l));
    arrays = λ to h. h;
  }

  -- ---- an array

  abbrev array_cleared : Bool → ℕ → Region → Whole → Whole
  array_cleared true k storage now = with_array_in now k (zero_array storage)
  array_cleared false k storage now = now

  record IsArrayCleared (clears : Bool) (line k : ℕ) (storage : Region) (now : Whole)
      (f : Whole → Course Whole) : Type 0 where
    course : code.then_do (does tables n
        (code.Rows (low.clear_row (record { clears = clears; line = line }) k)) now) f
        ≡ f (array_cleared clears k storage now)
    here : array_in (array_cleared clears k storage now) k ≡ zero_array storage
    other : (j : ℕ) → j ≢ k
        → array_in (array_cleared clears k storage now) j ≡ array_in now j
    sound : IsSound tables (array_cleared clears k storage now)
    scalars : (array_cleared clears k storage now).scalars ≡ now.scalars
    slots : (array_cleared clears k storage now).slots ≡ now.slots
    fresh : (to : ℕ) → AreFresh clears to now → AreFresh clears to (array_cleared clears k storage now)
    arrays : (to : ℕ) → k ≤ to
        → AreFreshArrays tables clears to (array_cleared clears k storage now)

  clear_step : (now : Whole) → IsSound tables now → (k : ℕ) (array : Array) (storage : Region)
      → slice_get now.stores k ≡ Some array → array.storage ≡ storage
      → step tables n (row.Plain (instr.Clear k)) now ≡ Goes [] (with_array_in now k (zero_array storage))
  clear_step now sound k array storage e same =
      ap straight (settled_act tables n now sound.settled (row.Plain (instr.Clear k)))
      ∙ ap (λ (o : Option Array). straight (Does (found o (λ store.
      Goes [] (with_store now k (zeros_at store.storage)))))) e
      ∙ ap (λ (s : Region). Goes [] (with_array_in now k (zero_array s))) same

  clears_array : (clears : Bool) (line : ℕ) (stored : Stored) (now : Whole)
      (f : Whole → Course Whole) → IsStored tables stored → IsSound tables now
      → AreFreshArrays tables clears stored.array now
      → IsArrayCleared clears line stored.array stored.storage now f
  clears_array true line stored now f is sound fresh =
      let k = stored.array in
      let storage = stored.storage in
      let new = zero_array storage in
      let z = zip_at tables.arrays now.stores k is.row sound.filled.stores is.found in
      let after = with_array_in now k new in
      record {
        course =
            ap (λ (s : Step Whole). code.then_do (by_step now s (λ w. code.goes_on w)) f)
            (clear_step now sound k z.0 storage z.1 (z.2.placed is.kept ∙ is.storage));
        here = index_of_found after.stores k new no_array (set_there now.stores k new z.0 z.1);
        other = λ j ne. index_is after.stores j no_array
            ∙ ap (index_if no_array) (set_apart now.stores k j new (λ q. ne (sym q)))
            ∙ sym (index_is now.stores j no_array);
        sound = record {
          filled = record {
            scalars = sound.filled.scalars;
            awaited = sound.filled.awaited;
            slots = sound.filled.slots;
            stores = zip_new tables.arrays now.stores k is.row new is.found
                (record {
                  filled = length-map (members storage) (λ t. pos 0);
                  placed = λ e. sym is.storage;
                }) sound.filled.stores;
          };
          settled = sound.settled;
          integers = sound.integers;
          elements = λ j row e kept. by j row e kept (cases_eq j k);
        };
        scalars = refl;
        slots = refl;
        fresh = λ to h. tt;
        arrays = λ to le. tt;
      }
    where
      by : (j : ℕ) (row : ArrayRow) → slice_get tables.arrays j ≡ Some row → row.stored ≡ true
          → (j ≡ stored.array) ⊎ (j ≡ stored.array → ⊥)
          → Every IsInteger (array_in (with_array_in now stored.array (zero_array stored.storage)) j).values
      by j row e kept (inl same) =
          let k = stored.array in
          let new = zero_array stored.storage in
          let z = zip_at tables.arrays now.stores k is.row sound.filled.stores is.found in
          subst (λ (a : Array). Every IsInteger a.values)
          (sym (ap (array_in (with_array_in now k new)) same
          ∙ index_of_found (with_array_in now k new).stores k new no_array
          (set_there now.stores k new z.0 z.1))) (zeros_integers stored.storage)
      by j row e kept (inr ne) =
          let k = stored.array in
          let new = zero_array stored.storage in
          subst (λ (a : Array). Every IsInteger a.values)
          (sym (index_is (with_array_in now k new).stores j no_array
          ∙ ap (index_if no_array) (set_apart now.stores k j new (λ q. ne (sym q)))
          ∙ sym (index_is now.stores j no_array))) (sound.elements j row e kept)
  clears_array false line stored now f is sound fresh =
      let k = stored.array in
      record {
        course = refl;
        here = index_of_found now.stores k (zeros_at (storage_of is.row)) no_array
            (fresh k is.row (omega arith) is.found is.kept)
            ∙ ap (λ (r : Region). zeros_at r) is.storage;
        other = λ j ne. refl;
        sound = sound;
        scalars = refl;
        slots = refl;
        fresh = λ to h. h;
        arrays = λ to le j row l. fresh j row (omega (arith, le, l));
      }

-- arrays below a number are as they were
pub below_same : (now after : Whole) (k : ℕ) (arrays : List Stored) (from : ℕ)
    → Rises from (array_numbers arrays) k
    → ((j : ℕ) → j < k → array_in after j ≡ array_in now j)
    → map (λ (x : Stored). array_in after x.array) arrays
    ≡ map (λ (x : Stored). array_in now x.array) arrays
below_same now after k [] from h same = refl
below_same now after k (one ∷ arrays) from h same =
    let l = rises_le (suc one.array) (array_numbers arrays) k h.1 in
    ap (λ (a : Array). a ∷ map (λ (x : Stored). array_in after x.array) arrays)
    (same one.array (omega (arith, l)))
    ∙ ap (λ (xs : List Array). array_in now one.array ∷ xs)
    (below_same now after k arrays (suc one.array) h.1 same)

module _ (tables : Tables) (n : ℕ) (setup : Setup) (entry : Entry) (base : List Spot)
    (bottom : Next) (arrays : List Stored) (start : Whole) (IsAlike : Store → Whole → Type 0)
    (spare : ℕ) where
  -- What is run and code go alike from each frame and state; it may be asked of what the names of the
  -- frame have in the tables.
  abbrev pub GoesOn : (Framed → Next → Type 0) → (Frame → Type 0) → (Frame → Outcome)
      → (Framed → Next → Lowered) → Type 0
  GoesOn IsFramed IsReached run rest =
      (framed : Framed) (spots : List Spot) (next : Next) (now : Whole)
      → Framing tables base bottom.scalars arrays framed spots next → IsFramed framed next
      → IsBefore bottom next → IsSound tables now → Keeps (numbered base) bottom start now
      → AreFresh entry.clears next.scalars now
      → AreFreshArrays tables entry.clears next.arrays now → HasRoom tables next (rest framed next)
      → IsReached (seen_frame spots framed now)
      → Agrees IsAlike n spare (run (seen_frame spots framed now))
      (does tables n (rest framed next).code now)

  abbrev Behind : Bracket → Name → (Framed → Next → Type 0) → Framed → Next → Type 0
  Behind shape name IsFramed framed next =
      IsFramed (local_frame setup entry shape name framed next).frame
      (local_frame setup entry shape name framed next).next

  local_goes : (shape : Bracket) (name : Name) (IsFramed : Framed → Next → Type 0)
      (IsReached : Frame → Type 0) (run : Frame → Outcome) (rest : Framed → Next → Lowered)
      → FitsVars setup shape → GoesOn IsFramed IsReached run rest
      → GoesOn (Behind shape name IsFramed)
      (λ frame. IsReached (with_name setup.known setup.borders shape frame name))
      (λ frame. run (with_name setup.known setup.borders shape frame name))
      (λ framed next. low.local_code setup entry shape name framed next rest)
  local_goes NoBracket name IsFramed IsReached run rest s each framed spots next now f own before
      sound kept fresh clear room reached =
      let k = next.scalars in
      let first : Lowered = record (rows_alone (low.zero_row entry k)) { scalars = 1 } in
      let more = behind next first in
      let inner = low.with_scalar framed name k in
      let here = spots ++ At k ∷ [] in
      let go : Whole → Course Whole = does tables n (rest inner more).code in
      let lt : k < tables.scalars = omega (arith, room.scalars) in
      let c = clears_scalar tables n entry.clears entry.line k now go lt sound fresh in
      let after = scalar_cleared tables n entry.clears k now in
      let same : map (seen_spot after) spots ≡ map (seen_spot now) spots =
      same_spots now after 0 spots k f.frame.rises
      (λ j a b. c.other j (λ e. absurd (omega (arith, b, e)))) in
      let frame : with_scalar_named (seen_frame spots framed now) name (pos 0)
      ≡ seen_frame here inner after =
      scalar_frame spots framed (length framed.numbers.arrays) k name (pos 0) now after f.frame.known
      f.frame.numbers same c.here
      (ap (λ (xs : List Array). map (λ (s : Stored). slice_index_or xs s.array no_array)
      framed.numbers.arrays) c.stores) in
      subst (λ (x : Frame). Agrees IsAlike n spare (run x)
      (does tables n (low.local_code setup entry NoBracket name framed next rest).code now))
      (sym frame)
      (subst (λ (x : Course Whole). Agrees IsAlike n spare (run (seen_frame here inner after)) x)
      (sym c.course)
      (each inner here more after
      (framing_scalar tables base bottom.scalars arrays framed spots next more k name (omega arith)
      before.scalars (omega arith) (omega arith) f)
      own
      (record {
        scalars = omega (arith, before.scalars);
        slots = omega (arith, before.slots);
        arrays = omega (arith, before.arrays);
      })
      c.sound
      (record {
        hidden = λ j l m. c.other j (λ e. absurd (omega (arith, l, e, before.scalars)))
            ∙ kept.hidden j l m;
        slots = λ j l. ap (λ (xs : List Region). slice_index_or xs j no_region) c.slots ∙ kept.slots j l;
      })
      (c.fresh more.scalars (omega arith))
      (subst (λ (m : ℕ). AreFreshArrays tables entry.clears m after) (omega arith)
      (c.arrays next.arrays clear))
      (room_rest tables next (code.Rows []) first (rest inner more)
      (room_coded tables next (code.Rows []) _ room))
      (subst (λ (x : Frame). IsReached x) frame reached)))
  local_goes (Bracketed bracket) name IsFramed IsReached run rest s each framed spots next now f own
      before sound kept fresh clear room reached =
      let storage = storage_box setup.known setup.borders bracket in
      let home = home_box setup.known bracket in
      let k = next.arrays in
      let stored : Stored = record { array = k; storage = storage } in
      let first : Lowered =
      record (rows_alone (low.clear_row entry k)) { arrays = storage ∷ [] } in
      let more = behind next first in
      let inner = low.with_array framed name home stored in
      let go : Whole → Course Whole = does tables n (rest inner more).code in
      let at = room.arrays.0 in
      let is : IsStored tables stored = record {
        row = stored_row k at.0 storage;
        found = at.1;
        kept = refl;
        three = row_three k at.0 storage s;
        storage = row_storage k at.0 storage s;
      } in
      let c = clears_array tables n entry.clears entry.line stored now go is sound clear in
      let after = array_cleared tables n entry.clears k storage now in
      let same : map (seen_spot after) spots ≡ map (seen_spot now) spots =
      same_spots now after 0 spots next.scalars f.frame.rises
      (λ j a b. ap (λ xs. slice_index_or xs j (pos 0)) c.scalars) in
      let others : map (λ (x : Stored). array_in after x.array) framed.numbers.arrays
      ≡ map (λ (x : Stored). array_in now x.array) framed.numbers.arrays =
      below_same now after k framed.numbers.arrays 0 f.apart
      (λ j l. c.other j (λ e. absurd (omega (arith, l, e)))) in
      let frame : with_array_named (seen_frame spots framed now) name home (zero_array storage)
      ≡ seen_frame spots inner after =
      array_frame spots framed name home stored (zero_array storage) now after same c.here others in
      subst (λ (x : Frame). Agrees IsAlike n spare (run x)
      (does tables n (low.local_code setup entry (Bracketed bracket) name framed next rest).code now))
      (sym frame)
      (subst (λ (x : Course Whole). Agrees IsAlike n spare (run (seen_frame spots inner after)) x)
      (sym c.course)
      (each inner spots more after
      (framing_array tables base bottom.scalars arrays framed spots next more name home stored
      (omega arith) (omega arith) (omega arith) is f)
      own
      (record {
        scalars = omega (arith, before.scalars);
        slots = omega (arith, before.slots);
        arrays = omega (arith, before.arrays);
      })
      c.sound
      (record {
        hidden = λ j l m. ap (λ xs. slice_index_or xs j (pos 0)) c.scalars ∙ kept.hidden j l m;
        slots = λ j l. ap (λ (xs : List Region). slice_index_or xs j no_region) c.slots ∙ kept.slots j l;
      })
      (subst (λ (m : ℕ). AreFresh entry.clears m after) (omega arith) (c.fresh next.scalars fresh))
      (c.arrays more.arrays (omega arith))
      (room_rest tables next (code.Rows []) first (rest inner more)
      (room_coded tables next (code.Rows []) _ room))
      (subst (λ (x : Frame). IsReached x) frame reached)))

  names_go : (shape : Bracket) (names : List Name) (IsFramed : Framed → Next → Type 0)
      (IsReached : Frame → Type 0) (run : Frame → Outcome) (rest : Framed → Next → Lowered)
      → FitsVars setup shape → GoesOn IsFramed IsReached run rest
      → GoesOn (λ framed next. IsFramed (name_frames setup entry shape names framed next).frame
      (name_frames setup entry shape names framed next).next)
      (λ frame. IsReached (with_names setup.known setup.borders shape frame names))
      (λ frame. run (with_names setup.known setup.borders shape frame names))
      (λ framed next. low.names_code setup entry shape names framed next rest)
  names_go shape [] IsFramed IsReached run rest s each = each
  names_go shape (name ∷ names) IsFramed IsReached run rest s each =
      local_goes shape name
      (λ framed next. IsFramed (name_frames setup entry shape names framed next).frame
      (name_frames setup entry shape names framed next).next)
      (λ frame. IsReached (with_names setup.known setup.borders shape frame names))
      (λ frame. run (with_names setup.known setup.borders shape frame names))
      (λ framed next. low.names_code setup entry shape names framed next rest) s
      (names_go shape names IsFramed IsReached run rest s each)

  pub locals_go : (vars : List VarDef) (IsFramed : Framed → Next → Type 0)
      (IsReached : Frame → Type 0) (run : Frame → Outcome) (rest : Framed → Next → Lowered)
      → AllVars setup vars → GoesOn IsFramed IsReached run rest
      → GoesOn (λ framed next. IsFramed (local_frames setup entry vars framed next).frame
      (local_frames setup entry vars framed next).next)
      (λ frame. IsReached (with_variables setup.known setup.borders frame vars))
      (λ frame. run (with_variables setup.known setup.borders frame vars))
      (λ framed next. low.locals_code setup entry vars framed next rest)
  locals_go [] IsFramed IsReached run rest s each = each
  locals_go (var ∷ vars) IsFramed IsReached run rest s each =
      names_go var.shape var.names
      (λ framed next. IsFramed (local_frames setup entry vars framed next).frame
      (local_frames setup entry vars framed next).next)
      (λ frame. IsReached (with_variables setup.known setup.borders frame vars))
      (λ frame. run (with_variables setup.known setup.borders frame vars))
      (λ framed next. low.locals_code setup entry vars framed next rest) s.0
      (locals_go vars IsFramed IsReached run rest s.1 each)
