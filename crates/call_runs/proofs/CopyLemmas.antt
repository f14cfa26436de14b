-- The code of a copy fills an array that was free with what another one holds.
use Rattle.std.proofs.Common.{◌≡◌, ◌⊎◌, inl, inr, refl, sym, ◌∙◌, ap, subst, arith, ℕ, ◌<◌, Bool, true, false, ◌&&◌, All}
use Rattle.std.proofs.Common.{List, [], ◌∷◌, length, map, ℤ, pos, Option, Some, None, append-nil}
use Rattle.std.specs.Prelude.{flat_map, if◌then◌else◌, option_and_then, replicate, slice_get}
use Rattle.std.specs.List.{list_all}
use Rattle.zpl_region.specs.declared.regions.Region.{Region}
use Rattle.zpl_region.specs.Dim.{HasStep}
use Rattle.zpl_region.specs.Region.{IsMember, members}
use Rattle.zpl_region.proofs.TestLemmas.{is_member_iff}
use Rattle.zpl_nums.specs.Integer.{IsInteger}
use Rattle.zpl_arrays.specs.Array.{Array, array_of, element, has_place}
use Rattle.node_form.specs.declared.arrays.ArrayRow.{ArrayRow}
use Rattle.row_runs.specs.Straight.{Every}
use Rattle.prefix_runs.specs.of_lowering_runs.Seen.{array_in}
use Rattle.std.proofs.lemmas.Bool.{cases_eq}
use Rattle.zpl_arrays.proofs.ArrayLemmas.{array_of_is_array, element_of_member, flattened_is, place_of_member, same_elements}
use Rattle.zpl_binding.specs.Regions.{no_region}
use Rattle.zpl_meaning.specs.Computed as mean
use Rattle.zpl_meaning.specs.Computed.{both_then, computed_then}
use Rattle.zpl_meaning.specs.Store.{no_array}
use Rattle.zpl_meaning.specs.Fields.{Field, everywhere, values_at}
use Rattle.zpl_meaning.specs.Statement.{written}
use Rattle.node_form.specs.declared.instructions.Instr.TheVariants as instr
use Rattle.node_form.specs.declared.tables.Tables.{Tables}
use Rattle.node_form.specs.Expression.{words_of}
use Rattle.node_form.specs.Expression as word
use Rattle.node_form.specs.Value as flat
use Rattle.node_form.specs.Value.{tree_value, unmoved}
use Rattle.node_form.proofs.ValueLemmas.{value_of-words_of}
use Rattle.row_runs.specs.Run.{Goes, Step}
use Rattle.row_runs.specs.Structured as code
use Rattle.row_runs.specs.Structured.{Course, by_step}
use Rattle.grid_meaning.specs.Place.{held_value, moved_by, value_at, where_held}
use Rattle.flat_form.specs.Row as row
use Rattle.flat_form.specs.Row.{Words}
use Rattle.flat_form.specs.Names.{group_cells, word_reads}
use Rattle.flat_form.specs.Loop.{loop_stands, looped, operands_at}
use Rattle.flat_form.specs.Right as right
use Rattle.flat_form.specs.Right.{can_read, can_write, each_covers, has_places, matches, reads_well, writes_well}
use Rattle.flat_form.specs.Whole.{Whole}
use Rattle.normal_runs.proofs.PlaceLemmas.{moved_none, set_apart, set_there}
use Rattle.prefix_runs.specs.of_zpl_lowering.Where.{Stored, Next}
use Rattle.prefix_runs.specs.of_zpl_lowering.Program.{made_copy}
use Rattle.prefix_runs.specs.of_lowering_runs.Run.{decide, does, step, straight}
use Rattle.prefix_runs.specs.of_lowering_runs.Stands.{IsSound, IsStored}
use Rattle.prefix_runs.proofs.of_lowering_runs.NumberLemmas.{get_other, get_same, length_set}
use Rattle.prefix_runs.proofs.of_lowering_runs.RowLemmas.{settled_act}
use Rattle.prefix_runs.specs.of_array_puts.Put.{BothGive, IsPutting, IsSame, assigned, put_group, with_array_in}
use Rattle.prefix_runs.proofs.of_array_puts.PutLemmas.{put_assigns}
use Rattle.prefix_runs.specs.of_array_runs.Reads.{EachCovers, EachMatches}
use Rattle.prefix_runs.proofs.of_array_runs.AssignLemmas.{all_read}
use Rattle.prefix_runs.proofs.of_array_runs.ElementLemmas.{all_members, covers_row}
use Rattle.prefix_runs.proofs.of_array_runs.FloodLemmas.{each_matches}
use Rattle.prefix_runs.proofs.of_array_runs.LikeLemmas.{index_if, index_is, zip_new}
use Rattle.prefix_runs.proofs.of_array_runs.StoredLemmas.{IsFound, found_array, index_of_found}
use Rattle.prefix_runs.proofs.of_array_runs.TargetLemmas.{covers_matching, matches_row}
use Rattle.prefix_runs.proofs.ShapedLemmas.{filled}
use Rattle.call_runs.specs.Copied.{IsCopied, copy_at}

-- ---- values that are there

values_given : (f : List ℤ → ℤ) (ts : List (List ℤ))
    → values_at everywhere (λ t. mean.Gives (f t)) ts ≡ mean.Gives (map f ts)
values_given f [] = refl
values_given f (t ∷ ts) =
    ap (λ c. both_then (mean.Gives (f t)) c (λ value values. mean.Gives (value ∷ values)))
    (values_given f ts)

right_true : (b : Bool) → (b && true) ≡ b
right_true true = refl
right_true false = refl

module _ (tables : Tables) (n line : ℕ) (next : Next) (from : Stored) (now : Whole)
    (sound : IsSound tables now) (from_stored : IsStored tables from)
    (copy_stored : IsStored tables (copy_at next from)) (room : next.slots < length tables.slots) where
  abbrev region : Region
  region = from.storage

  f : IsFound tables [] (from ∷ []) now 0 from
  f = found_array tables [] (from ∷ []) now 0 from sound.filled (from_stored, tt) refl

  g : IsFound tables [] (copy_at next from ∷ []) now 0 (copy_at next from)
  g =
      found_array tables [] (copy_at next from ∷ []) now 0 (copy_at next from) sound.filled
      (copy_stored, tt) refl

  steps : All HasStep region.dims
  steps = subst (λ (r : Region). All HasStep r.dims) f.storage f.is.steps

  matching : EachMatches region.dims region.dims
  matching = each_matches region.dims region.dims refl

  in_room : next.slots < length now.slots
  in_room = omega (arith, room, sound.filled.slots)

  abbrev mid : Whole
  mid = filled now next.slots region

  fix_step : step tables n (row.Plain (instr.Fix next.slots region)) now ≡ Goes [] mid
  fix_step =
      ap straight (settled_act tables n now sound.settled (row.Plain (instr.Fix next.slots region)))

  -- ---- each place is read and written

  has_from : (t : List ℤ) → IsMember region t → has_place f.array.storage t ≡ true
  has_from t m = ap (λ (r : Region). has_place r t) f.storage ∙ place_of_member region.dims t steps m

  has_copy : (t : List ℤ) → IsMember region t → has_place g.array.storage t ≡ true
  has_copy t m = ap (λ (r : Region). has_place r t) g.storage ∙ place_of_member region.dims t steps m

  may_read : can_read tables mid region (record { array = from.array; shift = unmoved }) ≡ true
  may_read =
      ap (λ o. reads_well o (slice_get now.stores from.array) region unmoved) f.in_tables
      ∙ ap (λ o. reads_well (Some f.row) o region unmoved) f.in_stores
      ∙ ap (λ b. (if b then each_covers f.row.dims region.dims
      else right.is_unmoved unmoved && matches f.row region)
      && has_places f.array region unmoved) f.kept
      ∙ ap (λ b. b && has_places f.array region unmoved)
      (covers_row f.row.dims region.dims
      (subst (λ (r : Region). EachCovers r.dims region.dims) (sym f.storage_row)
      (covers_matching region.dims region.dims matching)))
      ∙ all_members region (λ t. has_place f.array.storage (moved_by unmoved t)) steps
      (λ t m. ap (has_place f.array.storage) (moved_none t) ∙ has_from t m)

  may_write : can_write tables mid region next.arrays ≡ true
  may_write =
      ap (λ o. writes_well o (slice_get now.stores next.arrays) region) g.in_tables
      ∙ ap (λ o. writes_well (Some g.row) o region) g.in_stores
      ∙ ap (λ b. b && has_places g.array region unmoved)
      (matches_row g.row.dims region.dims
      (subst (λ (r : Region). EachMatches r.dims region.dims) (sym g.storage_row) matching))
      ∙ all_members region (λ t. has_place g.array.storage (moved_by unmoved t)) steps
      (λ t m. ap (has_place g.array.storage) (moved_none t) ∙ has_copy t m)

  -- ---- the loop

  abbrev expr : Words
  expr = words_of (word.Element from.array)

  abbrev field : Field
  field t = mean.Gives (element f.array t)

  stands : loop_stands tables mid region (put_group next.arrays expr None line) ≡ true
  stands =
      ap (λ t. t && ((can_write tables mid region next.arrays && true) && true))
      (ap (λ exprs. list_all (can_read tables mid region)
      (flat_map (λ expr. flat_map word_reads expr) exprs)) (append-nil (expr ∷ []))
      ∙ all_read (can_read tables mid region) (expr ∷ []) (
        (
          right_true (can_read tables mid region (record { array = from.array; shift = unmoved }))
              ∙ may_read,
          tt,
        ),
        tt,
      ))
      ∙ ap (λ t. (t && true) && true) may_write

  read_is : (cells t : List ℤ) → IsMember region t
      → tree_value (operands_at mid t (record { cells = cells; log = [] }))
      (word.Element from.array) ≡ flat.Gives (element f.array t)
  read_is cells t m =
      ap flat.read (choice (right.is_unmoved unmoved)
      (value_at now.stores from.array (moved_by unmoved t))
      ∙ ap (value_at now.stores from.array) (moved_none t)
      ∙ ap (λ o. option_and_then (held_value t) o) f.in_stores
      ∙ ap (λ b. where_held b (element f.array t)) (has_from t m))
    where
      choice : (c : Bool) (v : Option ℤ) → (if c then v else v) ≡ v
      choice true v = refl
      choice false v = refl

  abbrev cells : List ℤ
  cells = replicate (group_cells (put_group next.arrays expr None line)) (pos 0)

  putting : IsPutting tables mid next.arrays g.array region everywhere field expr None line
  putting = record {
    found = g.in_stores;
    filled = g.is;
    steps = steps;
    places = has_copy;
    apart = λ t m. flattened_is g.array.storage.dims t
        (subst (λ (r : Region). IsMember r t) (sym g.storage) m);
    stands = stands;
    masked = λ t m. refl;
    values = λ t m e.
        subst (λ (v : flat.Computed ℤ). IsSame (field t) v)
        (sym (value_of-words_of (operands_at mid t (record { cells = cells; log = [] }))
        (word.Element from.array) ∙ read_is cells t m)) BothGive;
  }

  all_written : written g.array region everywhere (element (array_of region (element f.array)))
      ≡ f.array
  all_written =
      same_elements _ f.array (array_of_is_array g.array.storage _ g.is.steps) f.is
      (g.storage ∙ sym f.storage)
      (λ t m.
      let inside : IsMember region t = subst (λ (r : Region). IsMember r t) g.storage m in
      element_of_member g.array.storage _ t g.is.steps m
      ∙ ap (λ b. if b && true then element (array_of region (element f.array)) t
      else element g.array t) ((is_member_iff region t steps).1 inside)
      ∙ element_of_member region (element f.array) t steps inside)

  abbrev after : Whole
  after = with_array_in mid next.arrays f.array

  loop_step : step tables n (row.Loop next.slots (put_group next.arrays expr None line)) mid
      ≡ Goes [] after
  loop_step =
      ap straight (settled_act tables n mid sound.settled
      (row.Loop next.slots (put_group next.arrays expr None line)))
      ∙ ap (looped tables n (put_group next.arrays expr None line) mid)
      (get_same now.slots next.slots region in_room)
      ∙ put_assigns tables n mid next.arrays g.array region everywhere field expr None line putting
      ∙ ap (λ c. assigned mid next.arrays g.array region everywhere line
      (computed_then c (λ values. mean.Gives (record { storage = region; values = values }))))
      (values_given (element f.array) (members region))
      ∙ ap (λ (a : Array). Goes [] (with_array_in mid next.arrays a)) all_written

  course_is : does tables n (made_copy line next from).code now ≡ code.goes_on after
  course_is =
      ap (λ (s : Step Whole). by_step now s
      (code.rows_do (step tables n) (decide tables n)
      (row.Loop next.slots (put_group next.arrays expr None line) ∷ []))) fix_step
      ∙ ap (λ (s : Step Whole). by_step mid s (λ whole. code.goes_on whole)) loop_step

  copied_integers : (j : ℕ) (row : ArrayRow) → slice_get tables.arrays j ≡ Some row
      → row.stored ≡ true → (j ≡ next.arrays) ⊎ (j ≡ next.arrays → ⊥)
      → Every IsInteger (array_in after j).values
  copied_integers j row e kept (inl same) =
      subst (λ (a : Array). Every IsInteger a.values)
      (sym (ap (array_in after) same ∙ index_of_found after.stores next.arrays f.array no_array
      (set_there now.stores next.arrays f.array g.array g.in_stores)))
      (subst (λ (a : Array). Every IsInteger a.values)
      (index_of_found now.stores from.array f.array no_array f.in_stores)
      (sound.elements from.array f.row f.in_tables f.kept))
  copied_integers j row e kept (inr ne) =
      subst (λ (a : Array). Every IsInteger a.values)
      (sym (index_is after.stores j no_array
      ∙ ap (index_if no_array) (set_apart now.stores next.arrays j f.array (λ q. ne (sym q)))
      ∙ sym (index_is now.stores j no_array))) (sound.elements j row e kept)

  pub copied : IsCopied tables n line next from now
  copied =
      let many = length_set now.slots next.slots region in
      record {
        after = after;
        course = course_is;
        sound = record {
          filled = record {
            scalars = sound.filled.scalars;
            awaited = sound.filled.awaited;
            slots = many ∙ sound.filled.slots;
            stores = zip_new tables.arrays now.stores next.arrays g.row f.array g.in_tables
                (record { filled = f.is.filled; placed = λ h. f.storage ∙ sym g.storage_row })
                sound.filled.stores;
          };
          settled = sound.settled;
          integers = sound.integers;
          elements = λ j row e kept. copied_integers j row e kept (cases_eq j next.arrays);
        };
        here = index_of_found after.stores next.arrays f.array no_array
            (set_there now.stores next.arrays f.array g.array g.in_stores)
            ∙ sym (index_of_found now.stores from.array f.array no_array f.in_stores);
        other = λ k ne.
            index_is after.stores k no_array
            ∙ ap (index_if no_array) (set_apart now.stores next.arrays k f.array (λ q. ne (sym q)))
            ∙ sym (index_is now.stores k no_array);
        scalars = refl;
        slots = λ k ne.
            index_is mid.slots k no_region
            ∙ ap (index_if no_region) (get_other now.slots next.slots k region ne)
            ∙ sym (index_is now.slots k no_region);
        many = many;
      }
