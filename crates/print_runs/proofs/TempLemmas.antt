-- A temporary gets the places of a region, then values, and is printed.
use Rattle.std.proofs.Common.{◌≡◌, ◌≢◌, refl, sym, ◌∙◌, ap, subst, ℕ, zero, suc, Bool, true, false}
use Rattle.std.proofs.Common.{◌&&◌, not, List, [], ◌∷◌, length, map, ℤ, pos, Option, Some, None}
use Rattle.std.proofs.Common.{append-nil}
use Rattle.std.specs.Prelude.{All, flat_map, slice_get, if◌then◌else◌}
use Rattle.std.specs.List.{list_all, list_any}
use Rattle.std.proofs.Math.Path.{fun_ext}
use Rattle.zpl_tree.specs.Syntax.{Base, Boolean}
use Rattle.zpl_region.specs.declared.dims.Dim.{Dim}
use Rattle.zpl_region.specs.declared.dims.Dim.TheVariants as dim
use Rattle.zpl_region.specs.declared.regions.Region.{Region}
use Rattle.zpl_region.specs.Dim.{HasStep}
use Rattle.zpl_region.specs.Region.{IsMember, IsRegion, members}
use Rattle.zpl_region.proofs.HullLemmas.{has_steps}
use Rattle.zpl_region.proofs.TestLemmas.{is_member_iff}
use Rattle.zpl_arrays.specs.Array.{Array, IsArray, element, has_place}
use Rattle.zpl_arrays.specs.ArrayText.{array_text}
use Rattle.zpl_arrays.proofs.ArrayLemmas.{array_of_is_array, element_of_member, flattened_is, place_of_member, same_elements}
use Rattle.zpl_meaning.specs.Computed as mean
use Rattle.zpl_meaning.specs.Computed.{both_then, computed_then}
use Rattle.zpl_nums.specs.Integer.{IsInteger}
use Rattle.zpl_meaning.specs.Store.{Store, no_array}
use Rattle.zpl_meaning.specs.Fields.{Field, array_over, everywhere, values_at}
use Rattle.zpl_meaning.specs.Statement.{written}
use Rattle.zpl_meaning.specs.Text.{value_text}
use Rattle.node_form.specs.declared.arrays.ArrayRow.{ArrayRow}
use Rattle.node_form.specs.declared.instructions.Instr.TheVariants as instr
use Rattle.node_form.specs.declared.tables.Tables.{Tables}
use Rattle.node_form.specs.Expression.{Expression, words_of}
use Rattle.node_form.specs.Value as flat
use Rattle.node_form.specs.Value.{tree_value, unmoved}
use Rattle.node_form.proofs.ValueLemmas.{value_of-words_of}
use Rattle.row_runs.specs.Run.{Goes}
use Rattle.row_runs.specs.Straight.{Every}
use Rattle.grid_meaning.specs.Gather.{element_text}
use Rattle.grid_meaning.specs.Place.{moved_by}
use Rattle.grid_meaning.specs.Room.{zeros_at}
use Rattle.flat_form.specs.Row as row
use Rattle.flat_form.specs.Row.{Row}
use Rattle.flat_form.specs.Names.{word_reads}
use Rattle.flat_form.specs.Loop.{loop_stands, looped, operands_at}
use Rattle.flat_form.specs.Moves.{found, gathered, provided, roomed}
use Rattle.flat_form.specs.Right as right
use Rattle.flat_form.specs.Right.{can_read, can_write, each_matches, has_places, is_settled, matches, may_read, no_flood, reads_well, writes_well}
use Rattle.flat_form.specs.States.{IsStoreOf}
use Rattle.flat_form.specs.Whole.{Whole}
use Rattle.normal_runs.proofs.PlaceLemmas.{moved_none, set_apart}
use Rattle.array_runs.specs.of_zpl_lowering.Statement.{is_truth}
use Rattle.array_runs.specs.of_zpl_lowering.Tables.{temp_dims, temp_row}
use Rattle.array_runs.specs.of_zpl_lowering.Where as low
use Rattle.array_runs.specs.of_zpl_lowering.Where.{Stored, Where, Next}
use Rattle.array_runs.specs.of_lowering_runs.Run.{step, straight}
use Rattle.array_runs.specs.of_lowering_runs.Seen.{Spot, array_in, seen_store}
use Rattle.array_runs.specs.of_lowering_runs.Stands.{AreStored, IsLike, IsSound}
use Rattle.array_runs.proofs.of_lowering_runs.RowLemmas.{settled_act}
use Rattle.array_runs.specs.of_array_puts.Put.{IsPutting, IsSame, assigned, put_group, with_array_in}
use Rattle.array_runs.proofs.of_array_puts.PutLemmas.{put_assigns}
use Rattle.array_runs.specs.Floods.{three_floods}
use Rattle.array_runs.proofs.AssignLemmas.{all_read}
use Rattle.array_runs.proofs.ElementLemmas.{all_members}
use Rattle.array_runs.proofs.LikeLemmas.{index_if, index_is, zip_new}

-- ---- flood dimensions of a temporary and of its region

pub temp_matches : (count : ℕ) (flood : List Bool) (dims : List Dim)
    → map low.is_flood dims ≡ three_floods count flood
    → each_matches (temp_dims count flood) dims ≡ true
temp_matches zero flood dims e = refl
temp_matches (suc count) [] [] e = refl
temp_matches (suc count) [] (dim.Flood ∷ dims) e = absurd (let no : ⊥ = cc in no)
temp_matches (suc count) [] (dim.Range lo hi step align ∷ dims) e =
    let rest : map low.is_flood dims ≡ three_floods count [] = cc in temp_matches count [] dims rest
temp_matches (suc count) (one ∷ flood) [] e = refl
temp_matches (suc count) (true ∷ flood) (dim.Flood ∷ dims) e =
    let rest : map low.is_flood dims ≡ three_floods count flood = cc in
    temp_matches count flood dims rest
temp_matches (suc count) (false ∷ flood) (dim.Flood ∷ dims) e = absurd (let no : ⊥ = cc in no)
temp_matches (suc count) (true ∷ flood) (dim.Range lo hi step align ∷ dims) e =
    absurd (let no : ⊥ = cc in no)
temp_matches (suc count) (false ∷ flood) (dim.Range lo hi step align ∷ dims) e =
    let rest : map low.is_flood dims ≡ three_floods count flood = cc in
    temp_matches count flood dims rest

pub without_flood : (count : ℕ) (flood : List Bool) (dims : List Dim)
    → list_any (λ (one : Bool). one) flood ≡ false
    → map low.is_flood dims ≡ three_floods count flood
    → list_all (λ one. not (right.is_flood one)) dims ≡ true
without_flood zero flood [] h e = refl
without_flood zero flood (one ∷ dims) h e = absurd (let no : ⊥ = cc in no)
without_flood (suc count) flood [] h e = refl
without_flood (suc count) [] (dim.Flood ∷ dims) h e = absurd (let no : ⊥ = cc in no)
without_flood (suc count) [] (dim.Range lo hi step align ∷ dims) h e =
    let rest : map low.is_flood dims ≡ three_floods count [] = cc in
    without_flood count [] dims refl rest
without_flood (suc count) (true ∷ flood) (one ∷ dims) h e = absurd (let no : ⊥ = cc in no)
without_flood (suc count) (false ∷ flood) (dim.Flood ∷ dims) h e = absurd (let no : ⊥ = cc in no)
without_flood (suc count) (false ∷ flood) (dim.Range lo hi step align ∷ dims) h e =
    let rest : map low.is_flood dims ≡ three_floods count flood = cc in
    without_flood count flood dims h rest

-- ---- a state in which a temporary has other places and values

module _ (tables : Tables) (now : Whole) (k : ℕ) (row : ArrayRow) (new : Array)
    (in_tables : slice_get tables.arrays k ≡ Some row) (kept : row.stored ≡ false) where
  abbrev after : Whole
  after = with_array_in now k new

  other : (j : ℕ) → j ≢ k → array_in after j ≡ array_in now j
  other j ne =
      index_is after.stores j no_array
      ∙ ap (index_if no_array) (set_apart now.stores k j new (λ q. ne (sym q)))
      ∙ sym (index_is now.stores j no_array)

  no_temp : (j : ℕ) (one : ArrayRow) → slice_get tables.arrays j ≡ Some one → one.stored ≡ true
      → j ≢ k
  no_temp j one e s q =
      let same : one ≡ row = some_same (sym e ∙ ap (slice_get tables.arrays) q ∙ in_tables) in
      absurd (false_true (sym kept ∙ ap (λ (r : ArrayRow). r.stored) (sym same) ∙ s))
    where
      some_same : Some one ≡ Some row → one ≡ row
      some_same e = cc

      false_true : false ≡ true → ⊥
      false_true e = cc

  pub elements_kept : IsSound tables now → (j : ℕ) (one : ArrayRow)
      → slice_get tables.arrays j ≡ Some one → one.stored ≡ true
      → Every IsInteger (array_in after j).values
  elements_kept sound j one e s =
      subst (λ (a : Array). Every IsInteger a.values) (sym (other j (no_temp j one e s)))
      (sound.elements j one e s)

  pub arrays_same : (arrays : List Stored) → AreStored tables arrays
      → map (λ (one : Stored). array_in after one.array) arrays
      ≡ map (λ (one : Stored). array_in now one.array) arrays
  arrays_same [] h = refl
  arrays_same (one ∷ arrays) h =
      ap (λ x. x ∷ map (λ (one : Stored). array_in after one.array) arrays)
      (other one.array (no_temp one.array h.0.row h.0.found h.0.kept))
      ∙ ap (λ xs. array_in now one.array ∷ xs) (arrays_same arrays h.1)

  pub like_temp : (spots : List Spot) (w : Where) (next : Next) (start : Whole) (store : Store)
      → IsLike tables spots w next start store now → IsStoreOf row new
      → IsLike tables spots w next start store after
  like_temp spots w next start store like of = record {
    seen = like.seen
        ∙ ap (λ (xs : List Array). record (seen_store spots w.numbers.arrays now) { arrays = xs })
        (sym (arrays_same w.numbers.arrays like.held.stored));
    sound = record {
      filled = record {
        scalars = like.sound.filled.scalars;
        awaited = like.sound.filled.awaited;
        slots = like.sound.filled.slots;
        stores = zip_new tables.arrays now.stores k row new in_tables of like.sound.filled.stores;
      };
      settled = like.sound.settled;
      integers = like.sound.integers;
      elements = elements_kept like.sound;
    };
    kept = record { hidden = like.kept.hidden; slots = like.kept.slots };
    held = like.held;
  }

-- ---- its rows

module _ (tables : Tables) (n : ℕ) (slot temp line : ℕ) (region : Region) (is : IsRegion region)
    (flood : List Bool) (in_tables : slice_get tables.arrays temp ≡ Some (temp_row flood))
    (floods : map low.is_flood region.dims ≡ three_floods 3 flood) (expr : Expression)
    (field : Field) where
  steps : All HasStep region.dims
  steps = has_steps region.dims is.dims

  temp_row_matches : matches (temp_row flood) region ≡ true
  temp_row_matches = temp_matches 3 flood region.dims floods

  abbrev places : Whole → Whole
  places now = with_array_in now temp (zeros_at region)

  abbrev filled : Whole → Array → Whole
  filled now array = with_array_in now temp array

  pub room_step : (now : Whole) → ((k : ℕ) → is_settled now k ≡ true)
      → slice_get now.slots slot ≡ Some region
      → step tables n (row.Plain (instr.Room temp slot)) now ≡ Goes [] (places now)
  room_step now settled there =
      ap straight (settled_act tables n now settled (row.Plain (instr.Room temp slot)))
      ∙ ap (λ o. found o (λ row. found (slice_get now.slots slot) (λ region.
      roomed tables now temp region row))) in_tables
      ∙ ap (λ o. found o (λ region. roomed tables now temp region (temp_row flood))) there
      ∙ ap (λ b. provided (true && b) (Goes [] (places now))) temp_row_matches

  -- ---- values are put there

  module _ (mid : Whole) (settled : (k : ℕ) → is_settled mid k ≡ true)
      (there : slice_get mid.slots slot ≡ Some region)
      (room : slice_get mid.stores temp ≡ Some (zeros_at region))
      (values : (cells t : List ℤ) → IsMember region t
      → IsSame (field t) (tree_value (operands_at mid t (record { cells = cells; log = [] })) expr))
      (reads : Every (λ one. list_all (can_read tables mid region) (word_reads one) ≡ true)
      (words_of expr)) where
    can_put : can_write tables mid region temp ≡ true
    can_put =
        ap (λ o. writes_well o (slice_get mid.stores temp) region) in_tables
        ∙ ap (λ o. writes_well (Some (temp_row flood)) o region) room
        ∙ ap (λ b. b && has_places (zeros_at region) region unmoved) temp_row_matches
        ∙ all_members region (λ t. has_place region (moved_by unmoved t)) steps
        (λ t m. ap (has_place region) (moved_none t) ∙ place_of_member region.dims t steps m)

    stands : loop_stands tables mid region (put_group temp (words_of expr) None line) ≡ true
    stands =
        ap (λ t. t && ((can_write tables mid region temp && true) && true))
        (ap (λ exprs. list_all (can_read tables mid region)
        (flat_map (λ expr. flat_map word_reads expr) exprs)) (append-nil (words_of expr ∷ []))
        ∙ all_read (can_read tables mid region) (words_of expr ∷ []) (reads, tt))
        ∙ ap (λ t. (t && true) && true) can_put

    putting : IsPutting tables mid temp (zeros_at region) region everywhere field (words_of expr) None
        line
    putting = record {
      found = room;
      filled = array_of_is_array region (λ t. pos 0) steps;
      steps = steps;
      places = λ t m. place_of_member region.dims t steps m;
      apart = λ t m. flattened_is region.dims t m;
      stands = stands;
      masked = λ t m. refl;
      values = λ t m e.
          subst (λ (v : flat.Computed ℤ). IsSame (field t) v)
          (sym (value_of-words_of (operands_at mid t (record { cells = _; log = [] })) expr))
          (values _ t m);
    }

    pub loop_step : step tables n (row.Loop slot (put_group temp (words_of expr) None line)) mid
        ≡ assigned mid temp (zeros_at region) region everywhere line
        (array_over region everywhere field)
    loop_step =
        ap straight (settled_act tables n mid settled
        (row.Loop slot (put_group temp (words_of expr) None line)))
        ∙ ap (looped tables n (put_group temp (words_of expr) None line) mid) there
        ∙ put_assigns tables n mid temp (zeros_at region) region everywhere field (words_of expr) None
        line putting

  -- ---- what is read of them

  many_values : (ts : List (List ℤ)) (c : mean.Computed (List ℤ)) (values : List ℤ)
      → values_at everywhere field ts ≡ c → c ≡ mean.Gives values → length values ≡ length ts
  many_values [] c values e f =
      let same : [] ≡ values = cc in ap length (sym same)
  many_values (t ∷ ts) c values e f =
      by (λ c vs g h. many_values ts c vs g h) (field t) (values_at everywhere field ts) refl (e ∙ f)
    where
      by : ((c : mean.Computed (List ℤ)) (vs : List ℤ) → values_at everywhere field ts ≡ c
          → c ≡ mean.Gives vs → length vs ≡ length ts)
          → (one : mean.Computed ℤ) (rest : mean.Computed (List ℤ))
          → values_at everywhere field ts ≡ rest
          → both_then one rest (λ value values. mean.Gives (value ∷ values)) ≡ mean.Gives values
          → length values ≡ length (t ∷ ts)
      by more (mean.Gives v) (mean.Gives vs) g h =
          let same : v ∷ vs ≡ values = cc in
          ap length (sym same) ∙ ap suc (more (mean.Gives vs) vs g refl)
      by more (mean.Gives v) (mean.Traps kind) g h = absurd (let no : ⊥ = cc in no)
      by more (mean.Traps kind) rest g h = absurd (let no : ⊥ = cc in no)

  -- the array of all values
  pub record IsComputed (array : Array) : Type 0 where
    pub storage : array.storage ≡ region
    pub array_is : IsArray array

  pub computed_array : (array : Array) → array_over region everywhere field ≡ mean.Gives array
      → IsComputed array
  computed_array array e = by (values_at everywhere field (members region)) refl e
    where
      by : (c : mean.Computed (List ℤ)) → values_at everywhere field (members region) ≡ c
          → computed_then c (λ values. mean.Gives (record { storage = region; values = values }))
          ≡ mean.Gives array
          → IsComputed array
      by (mean.Gives values) f g =
          let same : record { storage = region; values = values } ≡ array = cc in
          subst IsComputed same (record {
            storage = refl;
            array_is = record {
              filled = many_values (members region) (mean.Gives values) values f refl;
              steps = steps;
            };
          })
      by (mean.Traps kind) f g = absurd (let no : ⊥ = cc in no)

  -- all values are written
  pub all_written : (array : Array) → IsComputed array
      → written (zeros_at region) region everywhere (element array) ≡ array
  all_written array c =
      same_elements (written (zeros_at region) region everywhere (element array)) array
      (array_of_is_array region _ steps) c.array_is (sym c.storage)
      (λ t m.
      element_of_member region _ t steps m
      ∙ ap (λ b. if b && true then element array t else element (zeros_at region) t)
      ((is_member_iff region t steps).1 m))

  -- ---- a print

  pub gather_step : (truth : Bool) (after : Whole) (array : Array)
      → ((k : ℕ) → is_settled after k ≡ true) → slice_get after.slots slot ≡ Some region
      → slice_get after.stores temp ≡ Some array → array.storage ≡ region
      → list_any (λ (one : Bool). one) flood ≡ false
      → step tables n (row.Plain (instr.Gather truth temp slot)) after
      ≡ Goes (array_text (element_text truth) region (element array)) after
  gather_step truth after array settled there held storage none =
      ap straight (settled_act tables n after settled (row.Plain (instr.Gather truth temp slot)))
      ∙ ap (λ o. found o (λ region. gathered tables after truth temp region)) there
      ∙ ap (λ b. provided (b && can_read tables after region (record { array = temp; shift = unmoved }))
      (found (slice_get after.stores temp) (λ store.
      Goes (array_text (element_text truth) region (element store)) after)))
      (without_flood 3 flood region.dims none floods)
      ∙ ap (λ b. provided (true && b) (found (slice_get after.stores temp) (λ store.
      Goes (array_text (element_text truth) region (element store)) after))) may
      ∙ ap (λ o. found o (λ store.
      Goes (array_text (element_text truth) region (element store)) after)) held
    where
      may : can_read tables after region (record { array = temp; shift = unmoved }) ≡ true
      may =
          ap (λ o. reads_well o (slice_get after.stores temp) region unmoved) in_tables
          ∙ ap (λ o. reads_well (Some (temp_row flood)) o region unmoved) held
          ∙ ap (λ b. (true && b) && has_places array region unmoved) temp_row_matches
          ∙ all_members region (λ t. has_place array.storage (moved_by unmoved t)) steps
          (λ t m. ap (has_place array.storage) (moved_none t)
          ∙ ap (λ (r : Region). has_place r t) storage ∙ place_of_member region.dims t steps m)

-- ---- texts

texts_same : (type : Option Base) (value : ℤ)
    → element_text (is_truth type) value ≡ value_text type value
texts_same (Some Boolean) value = refl
texts_same (Some base) value = refl
texts_same None value = refl

pub text_same : (type : Option Base) → element_text (is_truth type) ≡ value_text type
text_same type = fun_ext (λ value. texts_same type value)
