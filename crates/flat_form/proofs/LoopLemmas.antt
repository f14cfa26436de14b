-- A loop goes by what its group names.
use Rattle.std.proofs.Common.{◌≡◌, refl, ◌∙◌, ap, subst, ℕ, Bool, true, false, List}
use Rattle.std.proofs.Common.{[], ◌∷◌, map, Option, Some, None, ℤ}
use Rattle.std.proofs.Math.Path.{fun_ext}
use Rattle.std.specs.Prelude.{if◌then◌else◌, ◌&&◌, not, option_and_then, slice_get, slice_set}
use Rattle.std.specs.Prelude.{fold}
use Rattle.std.specs.List.{list_all}
use Rattle.std.specs.Option.{option_map}
use Rattle.code_parts.specs.of_zpl_nums.declared.folds.Fold.{Fold}
use Rattle.code_parts.specs.of_zpl_nums.Fold.{joined, unit_of}
use Rattle.code_parts.specs.of_zpl_region.declared.regions.Region.{Region}
use Rattle.grid_meaning.specs.of_node_form.declared.tables.Tables.{Tables}
use Rattle.grid_meaning.specs.of_node_form.declared.touches.Thing.{Thing}
use Rattle.grid_meaning.specs.of_node_form.declared.touches.Thing.TheVariants as thing
use Rattle.grid_meaning.specs.of_node_form.declared.words.ExprOp.{ExprOp}
use Rattle.grid_meaning.specs.of_node_form.declared.words.ExprOp.TheVariants as word
use Rattle.grid_meaning.specs.of_node_form.Nest.{Nest}
use Rattle.grid_meaning.specs.of_node_form.Value.{Computed, and_then, read, unmoved, value_of}
use Rattle.grid_meaning.specs.Place.{held_value, moved_by}
use Rattle.nest_meaning.specs.Nested.{Ways, nested}
use Rattle.nest_meaning.specs.Tree.{nest_of}
use Rattle.nest_meaning.specs.Units.{units_of}
use Rattle.nest_meaning.specs.of_row_runs.Run.{Step, Goes, Stops, Wrong}
use Rattle.nest_meaning.specs.of_row_runs.Straight.{Every}
use Rattle.flat_form.specs.Loop.{AllTold, AllFine, SomeZero, SomeWant, SomeLost, Column, Log, Point}
use Rattle.flat_form.specs.Loop.{Puts, Joins, Write, all_awaiting, all_told, all_written, awaiting}
use Rattle.flat_form.specs.Loop.{columns_behind, from_written, log_ways, log_written, logged}
use Rattle.flat_form.specs.Loop.{loop_stands, looped, operands_at, start_columns, tree_does}
use Rattle.flat_form.specs.Loop.{unit_at, unit_does, unit_line, units_do, written}
use Rattle.flat_form.specs.Names.{Read, Total, each_word, group_puts, group_reads, group_totals}
use Rattle.flat_form.specs.Names.{group_words, word_scalars}
use Rattle.flat_form.specs.Right.{all_begin, are_distinct, can_read, can_write, is_among}
use Rattle.flat_form.specs.Right.{is_unmoved, is_value, no_flood, reads_well, total_begins}
use Rattle.flat_form.specs.Right.{totals_begin, writes_well}
use Rattle.flat_form.specs.Row.{Member, Words, group_coded}
use Rattle.flat_form.specs.Touches.{BothGo, BothStop}
use Rattle.flat_form.specs.Whole.{Whole}
use Rattle.flat_form.proofs.AgreeLemmas.{Agree, AlikeStates, AlikeSteps, NoState, BothStates}
use Rattle.flat_form.proofs.AgreeLemmas.{list_all_same, put_alike, set_awaited, set_scalar}
use Rattle.flat_form.proofs.LogLemmas.{AllNamed, LogNamed, NestNamed, NestMaybeNamed, WriteNamed}
use Rattle.flat_form.proofs.LogLemmas.{all_named, nest_named, unit_told, units_named}
use Rattle.flat_form.proofs.NamedLemmas.{ExprNamed, GroupNamed, WordNamed, puts_named, reads_named}
use Rattle.flat_form.proofs.NamedLemmas.{totals_named}
use Rattle.flat_form.proofs.WordLemmas.{ReadsSame, every_at, every_more, value_same}

module _ (tables other : Tables) (Q : Thing → Type 0) where
  -- ---- what is looked at first
  pub read_same : (one two : Whole) → Agree tables other Q one two → (region : Region) (at : Read)
      → Q (thing.Array at.array)
      → can_read tables one region at ≡ can_read other two region at
  read_same one two agree region at is =
      ap (λ row. reads_well row (slice_get one.stores at.array) region at.shift)
      (agree (thing.Array at.array) is).0
      ∙ ap (λ store. reads_well (slice_get other.arrays at.array) store region at.shift)
      (agree (thing.Array at.array) is).1

  pub write_same : (one two : Whole) → Agree tables other Q one two → (region : Region) (array : ℕ)
      → Q (thing.Array array)
      → can_write tables one region array ≡ can_write other two region array
  write_same one two agree region array is =
      ap (λ row. writes_well row (slice_get one.stores array) region)
      (agree (thing.Array array) is).0
      ∙ ap (λ store. writes_well (slice_get other.arrays array) store region)
      (agree (thing.Array array) is).1

  begins_same : (one two : Whole) → Agree tables other Q one two
      → (scalars : List ℕ) (total : Total) → Q (thing.Scalar total.scalar)
      → total_begins one scalars total ≡ total_begins two scalars total
  begins_same one two agree scalars total is =
      ap (λ v. is_value (unit_of total.operator) v && not (is_among total.scalar scalars))
      (agree (thing.Scalar total.scalar) is).0

  all_begin_same : (one two : Whole) → Agree tables other Q one two
      → (region : Region) (scalars : List ℕ) (totals : List Total)
      → Every (λ total. Q (thing.Scalar total.scalar)) totals → all_begin one region scalars totals
      ≡ all_begin two region scalars totals
  all_begin_same one two agree region scalars [] all = refl
  all_begin_same one two agree region scalars (total ∷ totals) all =
      ap (λ b. no_flood region && (are_distinct (map (λ total. total.scalar) (total ∷ totals))
      && b))
      (list_all_same (total_begins one scalars) (total_begins two scalars) (total ∷ totals)
      (every_more (begins_same one two agree scalars) (total ∷ totals) all))

  stands_same : (one two : Whole) → Agree tables other Q one two
      → (region : Region) (group : List Member) → GroupNamed Q group
      → loop_stands tables one region group ≡ loop_stands other two region group
  stands_same one two agree region group named =
      ap (λ b. b && (list_all (can_write tables one region) (group_puts group)
      && totals_begin one region group))
      (list_all_same (can_read tables one region) (can_read other two region) (group_reads group)
      (every_more (read_same one two agree region) (group_reads group)
      (reads_named Q (group_words group) named.exprs)))
      ∙ (ap (λ b. list_all (can_read other two region) (group_reads group)
      && (b && totals_begin one region group))
      (list_all_same (can_write tables one region) (can_write other two region) (group_puts group)
      (every_more (write_same one two agree region) (group_puts group)
      (puts_named Q group named.own)))
      ∙ ap (λ b. list_all (can_read other two region) (group_reads group)
      && (list_all (can_write other two region) (group_puts group) && b))
      (all_begin_same one two agree region (each_word word_scalars (group_words group))
      (group_totals group) (totals_named Q group named.own)))

  -- ---- what members ask at a tuple
  operand_same : (one two : Whole) → Agree tables other Q one two
      → (t : List ℤ) (p : Point) (w : ExprOp) → WordNamed Q w
      → ReadsSame (operands_at one t p) (operands_at two t p) w
  operand_same one two agree t p (word.Scalar scalar) is = (agree (thing.Scalar scalar) is).0
  operand_same one two agree t p (word.Here array) is =
      ap (λ store. if is_unmoved unmoved then logged p.log array
      (option_and_then (held_value (moved_by unmoved t)) store) else option_and_then
      (held_value (moved_by unmoved t)) store)
      (agree (thing.Array array) is).1
  operand_same one two agree t p (word.Shifted array shift) is =
      ap (λ store. if is_unmoved shift then logged p.log array
      (option_and_then (held_value (moved_by shift t)) store) else option_and_then
      (held_value (moved_by shift t)) store)
      (agree (thing.Array array) is).1
  operand_same one two agree t p (word.Const value) is = tt
  operand_same one two agree t p (word.Cell cell) is = refl
  operand_same one two agree t p (word.Coord dimension) is = refl
  operand_same one two agree t p (word.Pair op) is = tt
  operand_same one two agree t p word.Neg is = tt
  operand_same one two agree t p word.Not is = tt
  operand_same one two agree t p word.Abs is = tt

  asked_by : (one two : Whole) → Agree tables other Q one two
      → (t : List ℤ) (p : Point) (o : Option Words)
      → ((words : Words) → o ≡ Some words → ExprNamed Q words)
      → and_then (value_of (operands_at one t p)) (read o)
      ≡ and_then (value_of (operands_at two t p)) (read o)
  asked_by one two agree t p None named = refl
  asked_by one two agree t p (Some words) named =
      value_same (operands_at one t p) (operands_at two t p) words
      (every_more (operand_same one two agree t p) words (named words refl))

  ways_same : (one two : Whole) → Agree tables other Q one two → (exprs : List Words)
      → Every (ExprNamed Q) exprs → (t : List ℤ)
      → log_ways exprs one t ≡ log_ways exprs two t
  ways_same one two agree exprs all t =
      let same : (λ (p : Point) (expr : ℕ). and_then (value_of (operands_at one t p))
      (read (slice_get exprs expr)))
      ≡ (λ p expr. and_then (value_of (operands_at two t p)) (read (slice_get exprs expr))) =
      fun_ext (λ p. fun_ext (λ expr. asked_by one two agree t p (slice_get exprs expr)
      (λ words e. every_at (ExprNamed Q) exprs expr words all e))) in
      let with : (Point → ℕ → Computed ℤ) → Ways Point = λ value. record
      (log_ways exprs two t) { value = value } in
      ap with same

  units_same : (one two : Whole) → Agree tables other Q one two → (n : ℕ) (exprs : List Words)
      → Every (ExprNamed Q) exprs → (unit : Nest) (columns : List Column)
      → all_told (unit_at n exprs unit one) columns ≡ all_told (unit_at n exprs unit two) columns
  units_same one two agree n exprs all unit columns =
      ap (λ told. all_told told columns)
      (fun_ext (λ (column : Column). ap (λ (ways : Ways Point). nested ways n unit
      (record { cells = column.cells; log = [] })) (ways_same one two agree exprs all column.at)))

  -- ---- what is written
  join_by : (one two : Whole) (scalar : ℕ) (operator : Fold) (value : ℤ) (own : Option ℤ)
      → Q (thing.Scalar scalar) → Agree tables other Q one two
      → AlikeStates tables other Q (option_map
      (λ own. record one { scalars = slice_set one.scalars scalar (joined operator own value) })
      own)
      (option_map
      (λ own. record two { scalars = slice_set two.scalars scalar (joined operator own value) })
      own)
  join_by one two scalar operator value None is agree = NoState
  join_by one two scalar operator value (Some own) is agree =
      BothStates (set_scalar tables other Q one two scalar (joined operator own value) is agree)

  write_alike : (t : List ℤ) (write : Write) (one two : Whole) → WriteNamed Q write
      → Agree tables other Q one two
      → AlikeStates tables other Q (written t write one) (written t write two)
  write_alike t (Puts array value) one two is agree =
      put_alike tables other Q one two array t value is agree
  write_alike t (Joins scalar operator value) one two is agree =
      subst (λ own. AlikeStates tables other Q (written t (Joins scalar operator value) one)
      (option_map
      (λ own. record two { scalars = slice_set two.scalars scalar (joined operator own value) })
      own)) (agree (thing.Scalar scalar) is).0
      (join_by one two scalar operator value (slice_get one.scalars scalar) is agree)

  then_alike : (a b : Option Whole) (f g : Whole → Option Whole) → AlikeStates tables other Q a b
      → ((one two : Whole) → Agree tables other Q one two
      → AlikeStates tables other Q (f one) (g two))
      → AlikeStates tables other Q (option_and_then f a) (option_and_then g b)
  then_alike a b f g NoState more = NoState
  then_alike a b f g (BothStates {one = one} {two = two} agree) more = more one two agree

  log_alike : (t : List ℤ) (log : Log) (one two : Whole) → Every (WriteNamed Q) log
      → Agree tables other Q one two
      → AlikeStates tables other Q (log_written t log one) (log_written t log two)
  log_alike t [] one two all agree = BothStates agree
  log_alike t (write ∷ log) one two all agree =
      then_alike (log_written t log one) (log_written t log two) (written t write) (written t write)
      (log_alike t log one two all.1 agree)
      (λ one two agree. write_alike t write one two all.0 agree)

  logs_alike : (columns : List Column) (points : List Point) (one two : Whole)
      → Every (LogNamed Q) points → Agree tables other Q one two
      → AlikeStates tables other Q (all_written columns points one) (all_written columns points two)
  logs_alike [] points one two all agree = BothStates agree
  logs_alike (column ∷ columns) [] one two all agree = BothStates agree
  logs_alike (column ∷ columns) (point ∷ points) one two all agree =
      then_alike (log_written column.at point.log one) (log_written column.at point.log two)
      (all_written columns points) (all_written columns points)
      (log_alike column.at point.log one two all.0 agree)
      (λ one two agree. logs_alike columns points one two all.1 agree)

  from_alike : (a b : Option Whole) (f g : Whole → Step Whole) → AlikeStates tables other Q a b
      → ((one two : Whole) → Agree tables other Q one two
      → AlikeSteps tables other Q (f one) (g two))
      → AlikeSteps tables other Q (from_written a f) (from_written b g)
  from_alike a b f g NoState more = BothStop
  from_alike a b f g (BothStates {one = one} {two = two} agree) more = more one two agree

  unit_alike : (line : ℕ) (columns : List Column) (one two : Whole) (told : AllTold)
      (f g : List Column → Whole → Step Whole) → AllNamed Q told
      → Agree tables other Q one two
      → ((columns : List Column) (one two : Whole) → Agree tables other Q one two
      → AlikeSteps tables other Q (f columns one) (g columns two))
      → AlikeSteps tables other Q (unit_does line columns one told f)
      (unit_does line columns two told g)
  unit_alike line columns one two (AllFine points) f g all agree more =
      from_alike (all_written columns points one) (all_written columns points two)
      (f (columns_behind columns points)) (g (columns_behind columns points))
      (logs_alike columns points one two all agree) (more (columns_behind columns points))
  unit_alike line columns one two SomeZero f g all agree more = BothStop
  unit_alike line columns one two SomeWant f g all agree more = BothStop
  unit_alike line columns one two SomeLost f g all agree more = BothStop

  -- ---- units, and the row
  units_alike : (n : ℕ) (exprs : List Words) → Every (ExprNamed Q) exprs → (units : List Nest)
      → Every (NestNamed Q) units → (columns : List Column) (one two : Whole)
      → Agree tables other Q one two → AlikeSteps tables other Q
      (units_do n exprs units columns one) (units_do n exprs units columns two)
  units_alike n exprs all [] named columns one two agree = BothGo agree
  units_alike n exprs all (unit ∷ units) named columns one two agree =
      subst (λ told. AlikeSteps tables other Q (units_do n exprs (unit ∷ units) columns one)
      (unit_does (unit_line unit) columns two told
      (λ columns whole. units_do n exprs units columns whole)))
      (units_same one two agree n exprs all unit columns)
      (unit_alike (unit_line unit) columns one two (all_told (unit_at n exprs unit one) columns)
      (λ columns whole. units_do n exprs units columns whole)
      (λ columns whole. units_do n exprs units columns whole)
      (all_named Q (unit_at n exprs unit one)
      (λ column. unit_told Q n exprs unit one column named.0) columns) agree
      (units_alike n exprs all units named.1))

  await_alike : (totals : List Total) → Every (λ total. Q (thing.Scalar total.scalar)) totals
      → (one two : Whole) → Agree tables other Q one two
      → Agree tables other Q (fold awaiting one totals) (fold awaiting two totals)
  await_alike [] all one two agree = agree
  await_alike (total ∷ totals) all one two agree =
      await_alike totals all.1 (awaiting one total) (awaiting two total)
      (set_awaited tables other Q one two total.scalar (Some total.operator) all.0 agree)

  awaiting_alike : (totals : List Total) → Every (λ total. Q (thing.Scalar total.scalar)) totals
      → (s t : Step Whole) → AlikeSteps tables other Q s t
      → AlikeSteps tables other Q (all_awaiting totals s) (all_awaiting totals t)
  awaiting_alike totals all (Goes bytes one) (Goes more two) (BothGo agree) =
      BothGo (await_alike totals all one two agree)
  awaiting_alike totals all (Goes bytes one) (Stops stop) alike = elim alike [ ]
  awaiting_alike totals all (Stops stop) (Goes bytes two) alike = elim alike [ ]
  awaiting_alike totals all (Stops stop) (Stops again) BothStop = BothStop

  tree_alike : (n : ℕ) (region : Region) (group : List Member) → GroupNamed Q group
      → (nest : Option Nest) → NestMaybeNamed Q nest → (one two : Whole)
      → Agree tables other Q one two → AlikeSteps tables other Q (tree_does n region group one nest)
      (tree_does n region group two nest)
  tree_alike n region group named None is one two agree = BothStop
  tree_alike n region group named (Some nest) is one two agree =
      awaiting_alike (group_totals group) (totals_named Q group named.own)
      (units_do n (group_words group) (units_of nest) (start_columns region group) one)
      (units_do n (group_words group) (units_of nest) (start_columns region group) two)
      (units_alike n (group_words group) named.exprs (units_of nest) (units_named Q nest is)
      (start_columns region group) one two agree)

  if_alike : (b c : Bool) (s t : Step Whole) → b ≡ c → AlikeSteps tables other Q s t
      → AlikeSteps tables other Q (if b then s else Stops Wrong) (if c then t else Stops Wrong)
  if_alike b c s t same more = subst (λ d. AlikeSteps tables other Q (if b then s else Stops Wrong)
      (if d then t else Stops Wrong)) same (by b)
    where
      by : (b : Bool) → AlikeSteps tables other Q (if b then s else Stops Wrong)
          (if b then t else Stops Wrong)
      by true = more
      by false = BothStop

  looped_by : (n : ℕ) (group : List Member) → GroupNamed Q group → (one two : Whole)
      → Agree tables other Q one two → (region : Option Region)
      → AlikeSteps tables other Q (looped tables n group one region)
      (looped other n group two region)
  looped_by n group named one two agree (Some region) =
      if_alike (loop_stands tables one region group) (loop_stands other two region group)
      (tree_does n region group one (nest_of (group_coded 0 group)))
      (tree_does n region group two (nest_of (group_coded 0 group)))
      (stands_same one two agree region group named)
      (tree_alike n region group named (nest_of (group_coded 0 group))
      (nest_named Q group named.own) one two agree)
  looped_by n group named one two agree None = BothStop

  pub looped_alike : (n : ℕ) (slot : ℕ) (group : List Member) → Q (thing.Slot slot)
      → GroupNamed Q group → (one two : Whole) → Agree tables other Q one two
      → AlikeSteps tables other Q (looped tables n group one (slice_get one.slots slot))
      (looped other n group two (slice_get two.slots slot))
  looped_alike n slot group is named one two agree =
      subst (λ region. AlikeSteps tables other Q
      (looped tables n group one (slice_get one.slots slot)) (looped other n group two region))
      (agree (thing.Slot slot) is).1 (looped_by n group named one two agree
      (slice_get one.slots slot))
