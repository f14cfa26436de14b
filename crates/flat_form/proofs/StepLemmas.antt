-- What a row makes of a state, step by step: it is related to what was before by any relation that
-- respects each single change.
use Rattle.std.proofs.Common.{◌≡◌, refl, sym, subst, ℕ, zero, suc, Bool}
use Rattle.std.proofs.Common.{true, false, List, [], ◌∷◌, map, take, Option, Some, None, ℤ}
use Rattle.std.proofs.Common.{Any}
use Rattle.std.specs.Prelude.{if◌then◌else◌, option_and_then, slice_get, slice_index_or, slice_set}
use Rattle.std.specs.Prelude.{⊤, fold}
use Rattle.std.specs.Fmt.{signed_decimal}
use Rattle.std.specs.Option.{IsSomeAnd, option_map}
use Rattle.std.proofs.lemmas.Option.{get_or_from_slice_get}
use Rattle.code_parts.specs.of_zpl_nums.declared.folds.Fold.{Fold}
use Rattle.code_parts.specs.of_zpl_nums.Fold.{joined}
use Rattle.code_parts.specs.of_zpl_region.declared.regions.Region.{Region}
use Rattle.code_parts.specs.of_zpl_region.Region.{members, outside_of}
use Rattle.code_parts.specs.of_zpl_region.Tests.{is_within_limit}
use Rattle.code_parts.specs.of_zpl_arrays.Array.{Array, element, has_place, updated}
use Rattle.code_parts.specs.of_zpl_arrays.Border.{border_source}
use Rattle.code_parts.specs.of_zpl_arrays.ArrayText.{truth_text}
use Rattle.grid_meaning.specs.of_node_form.declared.instructions.Instr.{Instr}
use Rattle.grid_meaning.specs.of_node_form.declared.instructions.Instr.TheVariants as instr
use Rattle.grid_meaning.specs.of_node_form.declared.members.Member as number
use Rattle.grid_meaning.specs.of_node_form.declared.members.Member.TheVariants as member
use Rattle.grid_meaning.specs.of_node_form.declared.tables.Tables.{Tables}
use Rattle.grid_meaning.specs.of_node_form.declared.touches.Thing.{Thing}
use Rattle.grid_meaning.specs.of_node_form.declared.touches.Thing.TheVariants as thing
use Rattle.grid_meaning.specs.of_node_form.Control as control
use Rattle.code_parts.specs.of_zpl_nums.declared.ends.End.{End}
use Rattle.grid_meaning.specs.of_node_form.Control.{Control, Registers, checked, formed_by, limited, part_dims}
use Rattle.grid_meaning.specs.of_node_form.Control.{region_of, with_computed, with_row, with_scalar, with_slot}
use Rattle.grid_meaning.specs.of_node_form.Touch.{IsWritten, IsWrittenByMember}
use Rattle.grid_meaning.specs.of_node_form.Nest.{Nest}
use Rattle.grid_meaning.specs.of_node_form.Value.{Computed, Gives, Divides, Lacks, scalar_operands, value_of}
use Rattle.grid_meaning.specs.Place.{held_with, where_held, with_value, with_values}
use Rattle.grid_meaning.specs.Room.{zeros_at}
use Rattle.nest_meaning.specs.Tree.{nest_of}
use Rattle.nest_meaning.specs.Units.{units_of}
use Rattle.nest_meaning.specs.of_row_runs.Run.{Stop, Step, Goes, Stops, Wrong, Effect, Does, Leaps, Passes}
use Rattle.nest_meaning.specs.of_row_runs.Straight.{Every}
use Rattle.flat_form.specs.Act.{act, controlled, is_awaited, row_does, tested}
use Rattle.flat_form.specs.Act.{value_printed, without_rows}
use Rattle.flat_form.specs.Loop.{AllTold, AllFine, SomeZero, SomeWant, SomeLost, Column, Log, Point}
use Rattle.flat_form.specs.Loop.{Puts, Joins, Write, all_awaiting, all_told, all_written, awaiting}
use Rattle.flat_form.specs.Loop.{columns_behind, from_written, log_written, loop_stands, looped}
use Rattle.flat_form.specs.Loop.{start_columns, tree_does, unit_at, unit_does, unit_line, units_do}
use Rattle.flat_form.specs.Loop.{written}
use Rattle.flat_form.specs.Moves.{found, moved_in, provided, with_stores}
use Rattle.flat_form.specs.Names.{Total, group_totals, group_words}
use Rattle.flat_form.specs.Right.{are_settled}
use Rattle.flat_form.specs.Row.{with_row as with_inlined, all_coded, part_coded, part_words, Member}
use Rattle.flat_form.specs.Row.{Dims, Words}
use Rattle.flat_form.specs.Row.{group_coded, inlined, member_inlined, part_inlined, words_at}
use Rattle.flat_form.specs.Whole.{Whole, registers_of, with_registers, with_store}
use Rattle.flat_form.proofs.LogLemmas.{AllNamed, LogNamed, NestMaybeNamed, NestNamed, WriteNamed}
use Rattle.flat_form.proofs.LogLemmas.{all_named, nest_named, unit_told, units_named}
use Rattle.flat_form.proofs.NamedLemmas.{OwnNamed, every_named, totals_named}
use Rattle.std.specs.Prelude.{not, ◌&&◌}
use Rattle.grid_meaning.specs.of_node_form.declared.arrays.ArrayRow.{ArrayRow}
use Rattle.flat_form.specs.Right.{matches}

-- what a relation of two states has to respect, where only some things are written
pub record Respects (tables : Tables) (W : Thing → Type 0)
    (R : Whole → Whole → Type 0) : Type 0 where
  pub nothing : (whole : Whole) → R whole whole
  pub one_more : (a b c : Whole) → R a b → R b c → R a c
  pub set_scalar : (whole : Whole) (k : ℕ) (v : ℤ) → W (thing.Scalar k)
      → R whole (record whole { scalars = slice_set whole.scalars k v })
  pub set_awaited : (whole : Whole) (k : ℕ) (v : Option Fold) → W (thing.Scalar k)
      → R whole (record whole { awaited = slice_set whole.awaited k v })
  pub set_slot : (whole : Whole) (k : ℕ) (v : Region) → W (thing.Slot k)
      → R whole (record whole { slots = slice_set whole.slots k v })
  pub put : (whole : Whole) (k : ℕ) (t : List ℤ) (v : ℤ) (store : Array)
      → slice_get whole.stores k ≡ Some store → W (thing.Array k)
      → R whole (with_store whole k (updated store t v))
  pub room : (whole : Whole) (k : ℕ) (row : ArrayRow) (region : Region)
      → slice_get tables.arrays k ≡ Some row → row.stored ≡ false → W (thing.Array k)
      → R whole (with_store whole k (zeros_at region))
  pub clear : (whole : Whole) (k : ℕ) (store : Array) → slice_get whole.stores k ≡ Some store
      → W (thing.Array k) → R whole (with_store whole k (zeros_at store.storage))

temporary : (stored fine : Bool) → (not stored && fine) ≡ true → stored ≡ false
temporary true fine e = cc
temporary false fine e = refl

module _ (tables : Tables) (W : Thing → Type 0) (R : Whole → Whole → Type 0)
    (keeps : Respects tables W R) where
  -- ---- steps and effects
  pub data StepOnly (whole : Whole) : Step Whole → Type 0 where
    GoesOnly : {bytes : List ℕ} {next : Whole} → R whole next → StepOnly whole (Goes bytes next)
    StopsOnly : {stop : Stop} → StepOnly whole (Stops stop)

  pub data EffectOnly (whole : Whole) : Effect Whole → Type 0 where
    DoesOnly : {step : Step Whole} → StepOnly whole step → EffectOnly whole (Does step)
    LeapsOnly : {goal : ℕ} → EffectOnly whole (Leaps goal)
    PassesOnly : EffectOnly whole Passes

  data ControlOnly (whole : Whole) : Control → Type 0 where
    StepsOnly : {registers : Registers} → R whole (with_registers whole registers)
        → ControlOnly whole (control.Steps registers)
    GoalOnly : {goal : ℕ} → ControlOnly whole (control.Leaps goal)
    EndOnly : {ending : End} → ControlOnly whole (control.Ends ending)
    OutsideOnly : ControlOnly whole control.Outside

  controlled_only : (whole : Whole) (c : Control) → ControlOnly whole c
      → EffectOnly whole (controlled whole c)
  controlled_only whole c (StepsOnly only) = DoesOnly (GoesOnly only)
  controlled_only whole c GoalOnly = LeapsOnly
  controlled_only whole c EndOnly = DoesOnly StopsOnly
  controlled_only whole c OutsideOnly = DoesOnly StopsOnly

  tested_only : (whole : Whole) (c : Control) → EffectOnly whole (tested whole c)
  tested_only whole (control.Steps registers) = PassesOnly
  tested_only whole (control.Leaps goal) = LeapsOnly
  tested_only whole (control.Ends ending) = DoesOnly StopsOnly
  tested_only whole control.Outside = DoesOnly StopsOnly

  module _ (whole : Whole) where
    computed_only : {X : Type 0} (x : Computed X) (line : ℕ) (f : X → Control)
        → ((v : X) → ControlOnly whole (f v)) → ControlOnly whole (with_computed x line f)
    computed_only (Gives v) line f more = more v
    computed_only Divides line f more = EndOnly
    computed_only Lacks line f more = OutsideOnly

    row_only : {X : Type 0} (x : Option X) (f : X → Control) → ((v : X) → ControlOnly whole (f v))
        → ControlOnly whole (with_row x f)
    row_only (Some v) f more = more v
    row_only None f more = OutsideOnly

    checked_only : (b : Bool) (kind : _) (line : ℕ)
        → ControlOnly whole (checked (registers_of whole) b kind line)
    checked_only true kind line = StepsOnly (keeps.nothing whole)
    checked_only false kind line = EndOnly

    limited_only : (slot line : ℕ) (region : Region) (b : Bool) → W (thing.Slot slot)
        → ControlOnly whole (limited (registers_of whole) slot line region b)
    limited_only slot line region true is = StepsOnly (keeps.set_slot whole slot region is)
    limited_only slot line region false is = EndOnly

    found_only : {X : Type 0} (x : Option X) (f : X → Step Whole) → ((v : X) → StepOnly whole (f v))
        → StepOnly whole (found x f)
    found_only (Some v) f more = more v
    found_only None f more = StopsOnly

    found_as : {X : Type 0} (x : Option X) (f : X → Step Whole)
        → ((v : X) → x ≡ Some v → StepOnly whole (f v)) → StepOnly whole (found x f)
    found_as (Some v) f more = more v refl
    found_as None f more = StopsOnly

    provided_as : (b : Bool) (s : Step Whole) → (b ≡ true → StepOnly whole s)
        → StepOnly whole (provided b s)
    provided_as true s more = more refl
    provided_as false s more = StopsOnly

    provided_only : (b : Bool) (s : Step Whole) → StepOnly whole s → StepOnly whole (provided b s)
    provided_only true s more = more
    provided_only false s more = StopsOnly

    if_only : (b : Bool) (s : Step Whole) → StepOnly whole s
        → StepOnly whole (if b then s else Stops Wrong)
    if_only true s more = more
    if_only false s more = StopsOnly

    if_effect : (b : Bool) (e : Effect Whole) → EffectOnly whole e
        → EffectOnly whole (if b then e else Does (Stops Wrong))
    if_effect true e more = more
    if_effect false e more = DoesOnly StopsOnly

    printed_only : (text : ℤ → List ℕ) (x : Computed ℤ)
        → StepOnly whole (value_printed whole text x)
    printed_only text (Gives v) = GoesOnly (keeps.nothing whole)
    printed_only text Divides = StopsOnly
    printed_only text Lacks = StopsOnly

  -- ---- values of arrays
  abbrev StateOnly : Whole → Option Whole → Type 0
  StateOnly whole None = ⊤
  StateOnly whole (Some next) = R whole next

  abbrev state_with : Whole → Option (List Array) → Option Whole
  state_with whole stores = option_map (λ stores. record whole { stores = stores }) stores

  held_by : (whole : Whole) (k : ℕ) (t : List ℤ) (v : ℤ) (store : Array) (b : Bool)
      → slice_get whole.stores k ≡ Some store → W (thing.Array k)
      → StateOnly whole (state_with whole
      (option_map (slice_set whole.stores k) (where_held b (updated store t v))))
  held_by whole k t v store true e is = keeps.put whole k t v store e is
  held_by whole k t v store false e is = tt

  put_by : (whole : Whole) (k : ℕ) (t : List ℤ) (v : ℤ) (o : Option Array)
      → slice_get whole.stores k ≡ o → W (thing.Array k)
      → StateOnly whole (state_with whole
      (option_map (slice_set whole.stores k) (option_and_then (held_with t v) o)))
  put_by whole k t v None e is = tt
  put_by whole k t v (Some store) e is =
      held_by whole k t v store (has_place store.storage t) e is

  put_only : (whole : Whole) (k : ℕ) (t : List ℤ) (v : ℤ) → W (thing.Array k)
      → StateOnly whole (state_with whole (with_value whole.stores k t v))
  put_only whole k t v is = put_by whole k t v (slice_get whole.stores k) refl is

  then_stores : (whole : Whole) (a : Option (List Array)) (f : List Array → Option (List Array))
      → StateOnly whole (state_with whole a)
      → ((xs : List Array) → StateOnly (record whole { stores = xs })
      (state_with (record whole { stores = xs }) (f xs)))
      → StateOnly whole (state_with whole (option_and_then f a))
  then_stores whole None f first more = tt
  then_stores whole (Some xs) f first more = behind (f xs) (more xs)
    where
      behind : (o : Option (List Array)) → StateOnly (record whole { stores = xs })
          (state_with (record whole { stores = xs }) o) → StateOnly whole (state_with whole o)
      behind None second = tt
      behind (Some ys) second =
          keeps.one_more whole (record whole { stores = xs })
          (record whole { stores = ys }) first second

  puts_only : (k : ℕ) (places : List (List ℤ)) (values : List ℤ) (whole : Whole) → W (thing.Array k)
      → StateOnly whole (state_with whole (with_values k places values whole.stores))
  puts_only k [] values whole is = keeps.nothing whole
  puts_only k (t ∷ places) [] whole is = keeps.nothing whole
  puts_only k (t ∷ places) (value ∷ values) whole is =
      then_stores whole (with_value whole.stores k t value) (with_values k places values)
      (put_only whole k t value is)
      (λ xs. puts_only k places values (record whole { stores = xs }) is)

  stores_only : (whole : Whole) (a : Option (List Array)) → StateOnly whole (state_with whole a)
      → StepOnly whole (found a (with_stores whole))
  stores_only whole None is = StopsOnly
  stores_only whole (Some xs) is = GoesOnly is

  moved_only : (whole : Whole) (array : ℕ) (region : Region) (value : List ℤ → ℤ)
      → W (thing.Array array) → StepOnly whole (moved_in whole array region value)
  moved_only whole array region value is =
      stores_only whole (with_values array (members region)
      (map value (members region)) whole.stores)
      (puts_only array (members region) (map value (members region)) whole is)

  -- ---- loops
  join_by : (whole : Whole) (scalar : ℕ) (operator : Fold) (value : ℤ) (own : Option ℤ)
      → W (thing.Scalar scalar)
      → StateOnly whole
      (option_map
      (λ own. record whole { scalars = slice_set whole.scalars scalar (joined operator own value) })
      own)
  join_by whole scalar operator value None is = tt
  join_by whole scalar operator value (Some own) is =
      keeps.set_scalar whole scalar (joined operator own value) is

  write_only : (t : List ℤ) (write : Write) (whole : Whole) → WriteNamed W write
      → StateOnly whole (written t write whole)
  write_only t (Puts array value) whole is = put_only whole array t value is
  write_only t (Joins scalar operator value) whole is =
      join_by whole scalar operator value (slice_get whole.scalars scalar) is

  then_state : (whole : Whole) (a : Option Whole) (f : Whole → Option Whole) → StateOnly whole a
      → ((next : Whole) → StateOnly next (f next)) → StateOnly whole (option_and_then f a)
  then_state whole None f first more = tt
  then_state whole (Some next) f first more = behind (f next) (more next)
    where
      behind : (o : Option Whole) → StateOnly next o → StateOnly whole o
      behind None second = tt
      behind (Some last) second = keeps.one_more whole next last first second

  log_only : (t : List ℤ) (log : Log) (whole : Whole) → Every (WriteNamed W) log
      → StateOnly whole (log_written t log whole)
  log_only t [] whole all = keeps.nothing whole
  log_only t (write ∷ log) whole all =
      then_state whole (log_written t log whole) (written t write) (log_only t log whole all.1)
      (λ next. write_only t write next all.0)

  logs_only : (columns : List Column) (points : List Point) (whole : Whole)
      → Every (LogNamed W) points → StateOnly whole (all_written columns points whole)
  logs_only [] points whole all = keeps.nothing whole
  logs_only (column ∷ columns) [] whole all = keeps.nothing whole
  logs_only (column ∷ columns) (point ∷ points) whole all =
      then_state whole (log_written column.at point.log whole) (all_written columns points)
      (log_only column.at point.log whole all.0)
      (λ next. logs_only columns points next all.1)

  step_behind : (whole next : Whole) (s : Step Whole) → R whole next → StepOnly next s
      → StepOnly whole s
  step_behind whole next s first (GoesOnly {next = last} second) =
      GoesOnly (keeps.one_more whole next last first second)
  step_behind whole next s first StopsOnly = StopsOnly

  from_only : (whole : Whole) (a : Option Whole) (f : Whole → Step Whole) → StateOnly whole a
      → ((next : Whole) → StepOnly next (f next)) → StepOnly whole (from_written a f)
  from_only whole None f first more = StopsOnly
  from_only whole (Some next) f first more = step_behind whole next (f next) first (more next)

  unit_only : (line : ℕ) (columns : List Column) (whole : Whole) (told : AllTold)
      (f : List Column → Whole → Step Whole) → AllNamed W told
      → ((columns : List Column) (next : Whole) → StepOnly next (f columns next))
      → StepOnly whole (unit_does line columns whole told f)
  unit_only line columns whole (AllFine points) f all more =
      from_only whole (all_written columns points whole) (f (columns_behind columns points))
      (logs_only columns points whole all) (more (columns_behind columns points))
  unit_only line columns whole SomeZero f all more = StopsOnly
  unit_only line columns whole SomeWant f all more = StopsOnly
  unit_only line columns whole SomeLost f all more = StopsOnly

  units_only : (n : ℕ) (exprs : List Words) (units : List Nest) → Every (NestNamed W) units
      → (columns : List Column) (whole : Whole)
      → StepOnly whole (units_do n exprs units columns whole)
  units_only n exprs [] named columns whole = GoesOnly (keeps.nothing whole)
  units_only n exprs (unit ∷ units) named columns whole =
      unit_only (unit_line unit) columns whole (all_told (unit_at n exprs unit whole) columns)
      (λ columns whole. units_do n exprs units columns whole)
      (all_named W (unit_at n exprs unit whole)
      (λ column. unit_told W n exprs unit whole column named.0) columns)
      (units_only n exprs units named.1)

  await_only : (totals : List Total) (whole : Whole)
      → Every (λ total. W (thing.Scalar total.scalar)) totals
      → R whole (fold awaiting whole totals)
  await_only [] whole all = keeps.nothing whole
  await_only (total ∷ totals) whole all =
      keeps.one_more whole (awaiting whole total) (fold awaiting (awaiting whole total) totals)
      (keeps.set_awaited whole total.scalar (Some total.operator) all.0)
      (await_only totals (awaiting whole total) all.1)

  awaiting_only : (totals : List Total) (whole : Whole) (s : Step Whole)
      → Every (λ total. W (thing.Scalar total.scalar)) totals → StepOnly whole s
      → StepOnly whole (all_awaiting totals s)
  awaiting_only totals whole s all (GoesOnly {next = next} only) =
      GoesOnly (keeps.one_more whole next (fold awaiting next totals) only
      (await_only totals next all))
  awaiting_only totals whole s all StopsOnly = StopsOnly

  tree_only : (n : ℕ) (region : Region) (group : List Member) → Every (OwnNamed W) group
      → (whole : Whole) (nest : Option Nest) → NestMaybeNamed W nest
      → StepOnly whole (tree_does n region group whole nest)
  tree_only n region group own whole None is = StopsOnly
  tree_only n region group own whole (Some nest) is =
      awaiting_only (group_totals group) whole
      (units_do n (group_words group) (units_of nest) (start_columns region group) whole)
      (totals_named W group own)
      (units_only n (group_words group) (units_of nest) (units_named W nest is)
      (start_columns region group) whole)

  looped_only : (n : ℕ) (group : List Member) → Every (OwnNamed W) group
      → (whole : Whole) (region : Option Region)
      → StepOnly whole (looped tables n group whole region)
  looped_only n group own whole (Some region) =
      if_only whole (loop_stands tables whole region group)
      (tree_does n region group whole (nest_of (group_coded 0 group)))
      (tree_only n region group own whole (nest_of (group_coded 0 group)) (nest_named W group own))
  looped_only n group own whole None = StopsOnly

  -- ---- what tables write
  own_written : (m : number.Member) → ((it : Thing) → IsWrittenByMember it m → W it)
      → OwnNamed W (member_inlined tables m)
  own_written (member.Put array expr mask line) all = all (thing.Array array) refl
  own_written (member.Cell cell expr mask line) all = tt
  own_written (member.Acc scalar operator expr mask line) all = all (thing.Scalar scalar) refl
  own_written (member.OpenIf expr mask line) all = tt
  own_written member.Otherwise all = tt
  own_written member.CloseIf all = tt
  own_written (member.OpenWhile expr mask line) all = tt
  own_written member.CloseWhile all = tt
  own_written (member.OpenRepeat mask line) all = tt
  own_written (member.Until expr) all = tt

  own_map : (ms : List number.Member) → Every (λ m. OwnNamed W (member_inlined tables m)) ms
      → Every (OwnNamed W) (map (member_inlined tables) ms)
  own_map [] all = tt
  own_map (m ∷ ms) all = (all.0, own_map ms all.1)

  at_none : {X : Type 0} (xs : List X) (k : ℕ) (d : X) → slice_get xs k ≡ None
      → slice_index_or xs k d ≡ d
  at_none [] k d e = refl
  at_none (x ∷ xs) zero d e = cc
  at_none (x ∷ xs) (suc k) d e = at_none xs k d e

  group_by : (group : ℕ) (o : Option (List number.Member)) → slice_get tables.groups group ≡ o
      → ((it : Thing) → IsSomeAnd o (Any (IsWrittenByMember it)) → W it)
      → Every (OwnNamed W) (map (member_inlined tables) (slice_index_or tables.groups group []))
  group_by group None e all = subst (λ g. Every (OwnNamed W) (map (member_inlined tables) g))
      (sym (at_none tables.groups group [] e)) tt
  group_by group (Some ms) e all =
      subst (λ g. Every (OwnNamed W) (map (member_inlined tables) g))
      (sym (get_or_from_slice_get tables.groups group ms [] e))
      (own_map ms (every_named W IsWrittenByMember
      (λ m. OwnNamed W (member_inlined tables m)) own_written ms all))

  -- ---- all rows
  row_change : (n : ℕ) (row : Instr) (whole : Whole)
      → ((it : Thing) → IsWritten tables row it → W it)
      → EffectOnly whole (row_does tables n (inlined tables row) whole)
  row_change n (instr.Set scalar expr line) whole all =
      controlled_only whole _ (computed_only whole
      (value_of (scalar_operands whole.scalars) (words_at tables expr)) line
      (with_scalar (registers_of whole) scalar)
      (λ v. StepsOnly (keeps.set_scalar whole scalar v (all (thing.Scalar scalar) refl))))
  row_change n (instr.Fix slot region) whole all =
      DoesOnly (GoesOnly (keeps.set_slot whole slot region (all (thing.Slot slot) refl)))
  row_change n (instr.Dims slot parts line) whole all =
      let rows = with_inlined (without_rows tables)
      (Dims slot (map (part_inlined tables) parts) line) in
      controlled_only whole _ (row_only whole (slice_get tables.slots slot) _ (λ rank.
      computed_only whole (part_dims rows (registers_of whole) 0
      (take rank (all_coded part_words part_coded 0 (map (part_inlined tables) parts)))) line
      (λ dims. with_slot (registers_of whole) slot line (region_of rank dims)) (λ dims.
      limited_only whole slot line (region_of rank dims) (is_within_limit (region_of rank dims))
      (all (thing.Slot slot) refl))))
  row_change n (instr.Formed form slot from shift line) whole all =
      controlled_only whole _ (row_only whole (slice_get whole.slots from) _ (λ region.
      limited_only whole slot line (formed_by form shift region)
      (is_within_limit (formed_by form shift region)) (all (thing.Slot slot) refl)))
  row_change n (instr.Need slot array shift line) whole all =
      controlled_only whole _ (row_only whole (slice_get whole.slots slot) _
      (λ region. row_only whole (slice_get tables.arrays array) _
      (λ row. checked_only whole _ _ line)))
  row_change n (instr.Same target source kind line) whole all =
      controlled_only whole _ (row_only whole (slice_get whole.slots target) _
      (λ region. row_only whole (slice_get whole.slots source) _
      (λ from. checked_only whole _ _ line)))
  row_change n (instr.Fits slot shift line) whole all =
      controlled_only whole _ (row_only whole (slice_get whole.slots slot) _
      (λ region. checked_only whole _ _ line))
  row_change n (instr.Room array slot) whole all =
      DoesOnly (found_as whole (slice_get tables.arrays array) _ (λ row e.
      found_only whole (slice_get whole.slots slot) _ (λ region.
      provided_as whole (not row.stored && matches row region) _ (λ fine.
      GoesOnly (keeps.room whole array row region e (temporary row.stored (matches row region) fine)
      (all (thing.Array array) refl))))))
  row_change n (instr.Clear array) whole all =
      DoesOnly (found_as whole (slice_get whole.stores array) _ (λ store e.
      GoesOnly (keeps.clear whole array store e (all (thing.Array array) refl))))
  row_change n (instr.Loop slot group) whole all =
      DoesOnly (looped_only n (map (member_inlined tables) (slice_index_or tables.groups group []))
      (group_by group (slice_get tables.groups group) refl all) whole (slice_get whole.slots slot))
  row_change n (instr.Start exchange) whole all = DoesOnly StopsOnly
  row_change n (instr.Finish exchange) whole all = DoesOnly StopsOnly
  row_change n (instr.Edge kind array slot shift) whole all =
      DoesOnly (found_only whole (slice_get whole.slots slot) _
      (λ region. provided_only whole _ _ (found_only whole (slice_get whole.stores array) _
      (λ store.
      moved_only whole array (outside_of shift region)
      (λ t. element store (border_source kind region shift t)) (all (thing.Array array) refl)))))
  row_change n (instr.Flood array target from source) whole all =
      DoesOnly (found_only whole (slice_get whole.slots target) _
      (λ region. found_only whole (slice_get whole.slots source) _ (λ over.
      provided_only whole _ _ (found_only whole (slice_get whole.stores from) _
      (λ store. moved_only whole array region _ (all (thing.Array array) refl))))))
  row_change n (instr.Part array target f from source) whole all =
      DoesOnly (found_only whole (slice_get whole.slots target) _
      (λ region. found_only whole (slice_get whole.slots source) _ (λ over.
      provided_only whole _ _ (found_only whole (slice_get whole.stores from) _
      (λ store. moved_only whole array region _ (all (thing.Array array) refl))))))
  row_change n (instr.Scan array slot f along from mask) whole all =
      DoesOnly (found_only whole (slice_get whole.slots slot) _ (λ region.
      provided_only whole _ _ (found_only whole (slice_get whole.stores from) _
      (λ store. moved_only whole array region _ (all (thing.Array array) refl)))))
  row_change n (instr.Vote group) whole all = DoesOnly StopsOnly
  row_change n (instr.Fold scalar f) whole all =
      DoesOnly (if_only whole (is_awaited f (slice_get whole.awaited scalar)) _
      (GoesOnly (keeps.set_awaited whole scalar None (all (thing.Scalar scalar) refl))))
  row_change n (instr.TreeVote group) whole all = DoesOnly StopsOnly
  row_change n (instr.TreeFold scalar f) whole all = DoesOnly StopsOnly
  row_change n (instr.Print text) whole all = DoesOnly (GoesOnly (keeps.nothing whole))
  row_change n (instr.Number expr) whole all = DoesOnly
      (printed_only whole signed_decimal (value_of (scalar_operands whole.scalars)
      (words_at tables expr)))
  row_change n (instr.Truth expr) whole all = DoesOnly
      (printed_only whole truth_text (value_of (scalar_operands whole.scalars)
      (words_at tables expr)))
  row_change n (instr.Gather truth array slot) whole all =
      DoesOnly (found_only whole (slice_get whole.slots slot) _
      (λ region. provided_only whole _ _ (found_only whole (slice_get whole.stores array) _
      (λ store. GoesOnly (keeps.nothing whole)))))
  row_change n (instr.Jump goal) whole all = LeapsOnly
  row_change n (instr.Unless expr goal line) whole all = tested_only whole _
  row_change n (instr.Trap kind line) whole all = DoesOnly StopsOnly
  row_change n instr.End whole all = DoesOnly StopsOnly
  row_change n (instr.Remap array slot from parts) whole all =
      DoesOnly (found_only whole (slice_get whole.slots slot) _ (λ region.
      provided_only whole _ _ (found_only whole (slice_get whole.stores from) _
      (λ store. moved_only whole array region _ (all (thing.Array array) refl)))))

  pub act_change : (n : ℕ) (row : Instr) (whole : Whole)
      → ((it : Thing) → IsWritten tables row it → W it)
      → EffectOnly whole (act tables n (inlined tables row) whole)
  act_change n row whole all =
      if_effect whole (are_settled whole (inlined tables row))
      (row_does tables n (inlined tables row) whole) (row_change n row whole all)

  pub next_state : (whole next : Whole) (bytes : List ℕ) → EffectOnly whole (Does (Goes bytes next))
      → R whole next
  next_state whole next bytes (DoesOnly (GoesOnly only)) = only
