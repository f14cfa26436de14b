-- A loop over a group without cells, and over one group behind another.
use Rattle.std.proofs.Common.{◌≡◌, refl, sym, ◌∙◌, ap, ℕ, zero, suc}
use Rattle.std.proofs.Common.{List, [], ◌∷◌, ◌++◌, map, replicate, ℤ, pos, Option, Some, None}
use Rattle.std.specs.Prelude.{slice_get, slice_index_or, slice_set, ⊤}
use Rattle.std.specs.List.{AllByRecursion}
use Rattle.zpl_region.specs.declared.regions.Region.{Region}
use Rattle.zpl_region.specs.Region.{members}
use Rattle.row_runs.specs.Run.{Goes, Step, Stops, Wrong}
use Rattle.node_form.specs.declared.members.Member as number
use Rattle.node_form.specs.declared.tables.Tables.{Tables}
use Rattle.node_form.specs.Nest.{Nest, Nothing, Putting, Keeping, Joining, Choosing, ChoosingElse}
use Rattle.node_form.specs.Nest.{Looping, Repeating}
use Rattle.node_form.specs.Nest as nest
use Rattle.node_form.specs.Value.{Operands, and_then, read, value_of}
use Rattle.nest_meaning.specs.Nested.{Told, Fine, Zero, Wants, Lost, Ways}
use Rattle.nest_meaning.specs.Tree.{nest_of}
use Rattle.nest_meaning.specs.Units.{followed_by, units_of}
use Rattle.nest_meaning.specs.Alike.{AreBoth, AreLeaves, AreMasks, AreNests, AreTold, AreValues}
use Rattle.nest_meaning.specs.Alike.{Both}
use Rattle.nest_meaning.specs.Alike.{BothFine, BothLost, BothWant, BothZero, Elses, Ifs, JoinLeaf}
use Rattle.nest_meaning.specs.Alike.{KeepLeaf, Leaves, Masks, PutLeaf, Repeats, Whiles}
use Rattle.nest_meaning.specs.Alike as alike
use Rattle.nest_meaning.proofs.AlikeLemmas.{do_as_pairs}
use Rattle.nest_meaning.proofs.JoinLemmas.{join_members, join_units}
use Rattle.nest_meaning.proofs.TreeLemmas.{reads_again, reads_only}
use Rattle.flat_form.specs.Laws.{AreRenumbered, AreTrees, BothChoose, BothElse, BothJoin, BothKeep}
use Rattle.flat_form.specs.Laws.{BothLoop, BothMasks, BothNothing, BothPut, BothRepeat, BothTrees}
use Rattle.flat_form.specs.Laws.{HaveMasks, HaveWords, NoMasks, NoTree}
use Rattle.flat_form.specs.Loop.{AllFine, AllTold, Column, Joins, Point, Puts, SomeLost, SomeWant}
use Rattle.flat_form.specs.Loop.{SomeZero, all_awaiting, all_told, all_written, both_told}
use Rattle.flat_form.specs.Loop.{columns_behind, from_written, log_ways, logging, operands_at}
use Rattle.flat_form.specs.Loop.{tree_does, unit_at, unit_does, unit_line, units_do}
use Rattle.flat_form.specs.Names.{group_cells, group_totals, group_words}
use Rattle.flat_form.specs.Row.{Member, Words, group_coded, member_inlined}
use Rattle.flat_form.specs.Whole.{Whole}
use Rattle.flat_form.proofs.TreeLemmas.{groups_inline}

-- ---- expressions with other numbers
at_words : (operands : Operands) (exprs : List Words) (expr : ℕ)
    → and_then (value_of operands) (read (slice_get exprs expr))
    ≡ value_of operands (slice_index_or exprs expr [])
at_words operands [] expr = refl
at_words operands (words ∷ exprs) zero = refl
at_words operands (words ∷ exprs) (suc expr) = at_words operands exprs expr

-- the same point, with no cell
abbrev IsLike : Point → Point → Type 0
IsLike p q = (p ≡ q) × (p.cells ≡ [])

module _ (exprs others : List Words) (before : Whole) (t : List ℤ) where
  abbrev one : Ways Point
  one = log_ways exprs before t

  abbrev two : Ways Point
  two = log_ways others before t

  values_same : (expr fxpr : ℕ) → HaveWords exprs others expr fxpr
      → AreValues IsLike one two expr fxpr
  values_same expr fxpr same = record {
    same = λ p q like.
        at_words (operands_at before t p) exprs expr
        ∙ (ap (value_of (operands_at before t p)) same
        ∙ (sym (at_words (operands_at before t p) others fxpr)
        ∙ ap (λ (p : Point). two.value p fxpr) like.0));
  }

  masks_same : (mask nask : Option ℕ) → HaveMasks exprs others mask nask
      → AreMasks IsLike one two mask nask
  masks_same mask nask NoMasks = alike.NoMasks
  masks_same mask nask (BothMasks {mask = expr} {other = fxpr} same) =
      Masks (values_same expr fxpr same)

  put_same : (array : ℕ) → AreLeaves IsLike one two (PutLeaf array) (PutLeaf array)
  put_same array = record {
    steps = λ v p q like. Both (ap (logging (Puts array v)) like.0, like.1);
  }

  keep_same : (cell : ℕ) → AreLeaves IsLike one two (KeepLeaf cell) (KeepLeaf cell)
  keep_same cell = record {
    steps = λ v p q like.
        Both (
          ap (λ (p : Point). record p { cells = slice_set p.cells cell v }) like.0,
          ap (λ cells. slice_set cells cell v) like.1,
        );
  }

  join_same : (scalar : ℕ) (operator : _)
      → AreLeaves IsLike one two (JoinLeaf scalar operator) (JoinLeaf scalar operator)
  join_same scalar operator = record {
    steps = λ v p q like. Both (ap (logging (Joins scalar operator v)) like.0, like.1);
  }

  nests_same : (nest oest : Nest) → AreRenumbered exprs others nest oest
      → AreNests IsLike one two nest oest
  nests_same nest oest BothNothing = alike.BothNothing
  nests_same nest oest (BothPut {array = array} {expr = e} {fxpr = f} {line = line} {mask = m}
      {nask = k} {after = after} {bfter = bfter} words masks more) =
      Leaves {leaf = PutLeaf array} {leaf' = PutLeaf array} line line (masks_same m k masks)
      (values_same e f words) (put_same array) (nests_same after bfter more)
  nests_same nest oest (BothKeep {cell = cell} {expr = e} {fxpr = f} {line = line} {mask = m}
      {nask = k} {after = after} {bfter = bfter} words masks more) =
      Leaves {leaf = KeepLeaf cell} {leaf' = KeepLeaf cell} line line (masks_same m k masks)
      (values_same e f words) (keep_same cell) (nests_same after bfter more)
  nests_same nest oest (BothJoin {scalar = scalar} {expr = e} {fxpr = f} {line = line}
      {operator = operator} {mask = m} {nask = k} {after = after} {bfter = bfter} words masks
      more) =
      Leaves {leaf = JoinLeaf scalar operator} {leaf' = JoinLeaf scalar operator} line line
      (masks_same m k masks) (values_same e f words) (join_same scalar operator)
      (nests_same after bfter more)
  nests_same nest oest (BothChoose {expr = e} {fxpr = f} {mask = m} {nask = k} {body = body}
      {cody = cody} {after = after} {bfter = bfter} words masks within more) =
      Ifs (masks_same m k masks) (values_same e f words) (nests_same body cody within)
      (nests_same after bfter more)
  nests_same nest oest (BothElse {expr = e} {fxpr = f} {mask = m} {nask = k} {body = body}
      {cody = cody} {other = other} {pther = pther} {after = after} {bfter = bfter} words masks
      within otherwise more) =
      Elses (masks_same m k masks) (values_same e f words) (nests_same body cody within)
      (nests_same other pther otherwise) (nests_same after bfter more)
  nests_same nest oest (BothLoop {expr = e} {fxpr = f} {mask = m} {nask = k} {body = body}
      {cody = cody} {after = after} {bfter = bfter} words masks within more) =
      Whiles (masks_same m k masks) (values_same e f words) (nests_same body cody within)
      (nests_same after bfter more)
  nests_same nest oest (BothRepeat {until = e} {vntil = f} {mask = m} {nask = k} {body = body}
      {cody = cody} {after = after} {bfter = bfter} words masks within more) =
      Repeats (masks_same m k masks) (values_same e f words) (nests_same body cody within)
      (nests_same after bfter more)

-- a tree is its own
mask_itself : (exprs : List Words) (mask : Option ℕ) → HaveMasks exprs exprs mask mask
mask_itself exprs None = NoMasks
mask_itself exprs (Some mask) = BothMasks refl

itself : (exprs : List Words) (nest : Nest) → AreRenumbered exprs exprs nest nest
itself exprs Nothing = BothNothing
itself exprs (Putting array expr mask line after) =
    BothPut refl (mask_itself exprs mask) (itself exprs after)
itself exprs (Keeping cell expr mask line after) =
    BothKeep refl (mask_itself exprs mask) (itself exprs after)
itself exprs (Joining scalar operator expr mask line after) =
    BothJoin refl (mask_itself exprs mask) (itself exprs after)
itself exprs (Choosing expr mask line body after) =
    BothChoose refl (mask_itself exprs mask) (itself exprs body) (itself exprs after)
itself exprs (ChoosingElse expr mask line body other after) =
    BothElse refl (mask_itself exprs mask) (itself exprs body) (itself exprs other)
    (itself exprs after)
itself exprs (Looping expr mask line body after) =
    BothLoop refl (mask_itself exprs mask) (itself exprs body) (itself exprs after)
itself exprs (Repeating mask line body until after) =
    BothRepeat refl (mask_itself exprs mask) (itself exprs body) (itself exprs after)

-- ---- at one tuple
abbrev KeepsNone : Told Point → Type 0
KeepsNone (Fine p) = p.cells ≡ []
KeepsNone other = ⊤

told_same : (x y : Told Point) → AreTold IsLike x y → (x ≡ y) × KeepsNone x
told_same x y (BothFine like) = (ap Fine like.0, like.1)
told_same x y (BothZero like) = (ap Zero like.0, tt)
told_same x y BothWant = (refl, tt)
told_same x y BothLost = (refl, tt)

module _ (n : ℕ) (exprs others : List Words) (unit vnit : Nest)
    (are : AreRenumbered exprs others unit vnit) (s : Whole) where
  at_same : (column : Column) → column.cells ≡ []
      → (unit_at n exprs unit s column ≡ unit_at n others vnit s column)
      × KeepsNone (unit_at n exprs unit s column)
  at_same column none =
      let p : Point = record { cells = column.cells; log = [] } in
      told_same (unit_at n exprs unit s column) (unit_at n others vnit s column)
      (do_as_pairs IsLike (log_ways exprs s column.at) (log_ways others s column.at) n unit vnit
      (nests_same exprs others s column.at unit vnit are) p p (refl, none))

-- ---- at all tuples
abbrev NoCells : List Column → Type 0
NoCells columns = AllByRecursion (λ (column : Column). column.cells ≡ []) columns

abbrev PointsOf : List Column → List Point → Type 0
PointsOf [] [] = ⊤
PointsOf (column ∷ columns) (point ∷ points) = (point.cells ≡ []) × PointsOf columns points
PointsOf columns points = ⊥

abbrev AllOf : List Column → AllTold → Type 0
AllOf columns (AllFine points) = PointsOf columns points
AllOf columns other = ⊤

one_told : (column : Column) (columns : List Column) (told : Told Point) (rest : AllTold)
    → KeepsNone told → AllOf columns rest → AllOf (column ∷ columns) (both_told told rest)
one_told column columns (Fine p) (AllFine points) here all = (here, all)
one_told column columns (Fine p) SomeZero here all = tt
one_told column columns (Fine p) SomeWant here all = tt
one_told column columns (Fine p) SomeLost here all = tt
one_told column columns (Zero p) (AllFine points) here all = tt
one_told column columns (Zero p) SomeZero here all = tt
one_told column columns (Zero p) SomeWant here all = tt
one_told column columns (Zero p) SomeLost here all = tt
one_told column columns Wants (AllFine points) here all = tt
one_told column columns Wants SomeZero here all = tt
one_told column columns Wants SomeWant here all = tt
one_told column columns Wants SomeLost here all = tt
one_told column columns Lost rest here all = tt

all_of : (told : Column → Told Point) (columns : List Column) → NoCells columns
    → ((column : Column) → column.cells ≡ [] → KeepsNone (told column))
    → AllOf columns (all_told told columns)
all_of told [] none keeps = tt
all_of told (column ∷ columns) none keeps =
    one_told column columns (told column) (all_told told columns) (keeps column none.0)
    (all_of told columns none.1 keeps)

all_same : (f g : Column → Told Point) (columns : List Column) → NoCells columns
    → ((column : Column) → column.cells ≡ [] → f column ≡ g column)
    → all_told f columns ≡ all_told g columns
all_same f g [] none same = refl
all_same f g (column ∷ columns) none same =
    ap (λ told. both_told told (all_told f columns)) (same column none.0)
    ∙ ap (both_told (g column)) (all_same f g columns none.1 same)

behind_is : (columns : List Column) (points : List Point) → NoCells columns
    → PointsOf columns points → columns_behind columns points ≡ columns
behind_is [] [] none all = refl
behind_is [] (point ∷ points) none all = absurd all
behind_is (column ∷ columns) [] none all = absurd all
behind_is (column ∷ columns) (point ∷ points) none all =
    ap (λ cells. record { at = column.at; cells = cells } ∷ columns_behind columns points)
    (all.0 ∙ sym none.0)
    ∙ ap (λ rest. column ∷ rest) (behind_is columns points none.1 all.1)

-- ---- units
from_same : (found : Option Whole) (f g : Whole → Step Whole) → ((next : Whole) → f next ≡ g next)
    → from_written found f ≡ from_written found g
from_same (Some next) f g same = same next
from_same None f g same = refl

module _ (line : ℕ) (columns : List Column) (none : NoCells columns) (s : Whole)
    (f g : List Column → Whole → Step Whole) where
  does_same : (told : AllTold) → AllOf columns told
      → ((next : Whole) → f columns next ≡ g columns next)
      → unit_does line columns s told f ≡ unit_does line columns s told g
  does_same (AllFine points) all same =
      ap (λ cs. from_written (all_written columns points s) (f cs))
      (behind_is columns points none all)
      ∙ (from_same (all_written columns points s) (f columns) (g columns) same
      ∙ ap (λ cs. from_written (all_written columns points s) (g cs))
      (sym (behind_is columns points none all)))
  does_same SomeZero all same = refl
  does_same SomeWant all same = refl
  does_same SomeLost all same = refl

module _ (n : ℕ) (exprs others : List Words) where
  first_same : (unit vnit : Nest) → AreRenumbered exprs others unit vnit → (line : ℕ)
      (us vs : List Nest) (columns : List Column) → NoCells columns → (s : Whole)
      → ((next : Whole) → units_do n exprs us columns next ≡ units_do n others vs columns next)
      → unit_does line columns s (all_told (unit_at n exprs unit s) columns)
      (λ columns whole. units_do n exprs us columns whole)
      ≡ unit_does line columns s (all_told (unit_at n others vnit s) columns)
      (λ columns whole. units_do n others vs columns whole)
  first_same unit vnit are line us vs columns none s rest =
      does_same line columns none s (λ columns whole. units_do n exprs us columns whole)
      (λ columns whole. units_do n others vs columns whole)
      (all_told (unit_at n exprs unit s) columns)
      (all_of (unit_at n exprs unit s) columns none
      (λ column e. (at_same n exprs others unit vnit are s column e).1)) rest
      ∙ ap (λ told. unit_does line columns s told
      (λ columns whole. units_do n others vs columns whole))
      (all_same (unit_at n exprs unit s) (unit_at n others vnit s) columns none
      (λ column e. (at_same n exprs others unit vnit are s column e).0))

  units_same : (nest oest : Nest) → AreRenumbered exprs others nest oest
      → (columns : List Column) → NoCells columns → (s : Whole)
      → units_do n exprs (units_of nest) columns s ≡ units_do n others (units_of oest) columns s
  units_same nest oest BothNothing columns none s = refl
  units_same nest oest (BothPut {array = array} {expr = e} {fxpr = f} {line = line} {mask = m}
      {nask = k} {after = after} {bfter = bfter} words masks more) columns none s =
      first_same (Putting array e m line Nothing) (Putting array f k line Nothing)
      (BothPut words masks BothNothing) line (units_of after) (units_of bfter)
      columns none s (λ next. units_same after bfter more columns none next)
  units_same nest oest (BothKeep {cell = cell} {expr = e} {fxpr = f} {line = line} {mask = m}
      {nask = k} {after = after} {bfter = bfter} words masks more) columns none s =
      first_same (Keeping cell e m line Nothing) (Keeping cell f k line Nothing)
      (BothKeep words masks BothNothing) line (units_of after) (units_of bfter)
      columns none s (λ next. units_same after bfter more columns none next)
  units_same nest oest (BothJoin {scalar = scalar} {expr = e} {fxpr = f} {line = line}
      {operator = operator} {mask = m} {nask = k} {after = after} {bfter = bfter} words masks
      more) columns none s =
      first_same (Joining scalar operator e m line Nothing)
      (Joining scalar operator f k line Nothing)
      (BothJoin words masks BothNothing) line (units_of after) (units_of bfter)
      columns none s (λ next. units_same after bfter more columns none next)
  units_same nest oest (BothChoose {expr = e} {fxpr = f} {line = line} {mask = m} {nask = k}
      {body = body} {cody = cody} {after = after} {bfter = bfter} words masks within more)
      columns none s =
      first_same (Choosing e m line body Nothing) (Choosing f k line cody Nothing)
      (BothChoose words masks within BothNothing) line (units_of after) (units_of bfter)
      columns none s (λ next. units_same after bfter more columns none next)
  units_same nest oest (BothElse {expr = e} {fxpr = f} {line = line} {mask = m} {nask = k}
      {body = body} {cody = cody} {other = other} {pther = pther} {after = after} {bfter = bfter}
      words masks within otherwise more) columns none s =
      first_same (ChoosingElse e m line body other Nothing)
      (ChoosingElse f k line cody pther Nothing)
      (BothElse words masks within otherwise BothNothing) line (units_of after) (units_of bfter)
      columns none s (λ next. units_same after bfter more columns none next)
  units_same nest oest (BothLoop {expr = e} {fxpr = f} {line = line} {mask = m} {nask = k}
      {body = body} {cody = cody} {after = after} {bfter = bfter} words masks within more)
      columns none s =
      first_same (Looping e m line body Nothing) (Looping f k line cody Nothing)
      (BothLoop words masks within BothNothing) line (units_of after) (units_of bfter)
      columns none s (λ next. units_same after bfter more columns none next)
  units_same nest oest (BothRepeat {until = e} {vntil = f} {line = line} {mask = m} {nask = k}
      {body = body} {cody = cody} {after = after} {bfter = bfter} words masks within more)
      columns none s =
      first_same (Repeating m line body e Nothing) (Repeating k line cody f Nothing)
      (BothRepeat words masks within BothNothing) line (units_of after) (units_of bfter)
      columns none s (λ next. units_same after bfter more columns none next)

-- ---- units behind others
abbrev pub step_then : Step Whole → (Whole → Step Whole) → Step Whole
step_then (Goes bytes next) more = more next
step_then (Stops stop) more = Stops stop

module _ (n : ℕ) (exprs : List Words) where
  then_from : (found : Option Whole) (f g : Whole → Step Whole) (more : Whole → Step Whole)
      → ((next : Whole) → g next ≡ step_then (f next) more)
      → from_written found g ≡ step_then (from_written found f) more
  then_from (Some next) f g more same = same next
  then_from None f g more same = refl

  then_does : (line : ℕ) (columns : List Column) (s : Whole) (told : AllTold)
      (f g : List Column → Whole → Step Whole) (more : Whole → Step Whole) → NoCells columns
      → AllOf columns told → ((next : Whole) → g columns next ≡ step_then (f columns next) more)
      → unit_does line columns s told g ≡ step_then (unit_does line columns s told f) more
  then_does line columns s (AllFine points) f g more none all same =
      ap (λ cs. from_written (all_written columns points s) (g cs))
      (behind_is columns points none all)
      ∙ (then_from (all_written columns points s) (f columns) (g columns) more same
      ∙ ap (λ cs. step_then (from_written (all_written columns points s) (f cs)) more)
      (sym (behind_is columns points none all)))
  then_does line columns s SomeZero f g more none all same = refl
  then_does line columns s SomeWant f g more none all same = refl
  then_does line columns s SomeLost f g more none all same = refl

  units_then : (us vs : List Nest) (columns : List Column) → NoCells columns → (s : Whole)
      → units_do n exprs (us ++ vs) columns s
      ≡ step_then (units_do n exprs us columns s) (λ next. units_do n exprs vs columns next)
  units_then [] vs columns none s = refl
  units_then (unit ∷ us) vs columns none s =
      then_does (unit_line unit) columns s (all_told (unit_at n exprs unit s) columns)
      (λ columns whole. units_do n exprs us columns whole)
      (λ columns whole. units_do n exprs (us ++ vs) columns whole)
      (λ next. units_do n exprs vs columns next) none
      (all_of (unit_at n exprs unit s) columns none
      (λ column e. (at_same n exprs exprs unit unit (itself exprs unit) s column e).1))
      (λ next. units_then us vs columns none next)

-- ---- trees behind others
pub both_nests : (one other : List number.Member) (first second : Nest) → nest_of one ≡ Some first
    → nest_of other ≡ Some second → nest_of (one ++ other) ≡ Some (followed_by first second)
both_nests one other first second e f =
    ap (λ g. nest_of (g ++ other)) (sym (reads_only one first e))
    ∙ (ap (λ g. nest_of (nest.members_of first ++ g)) (sym (reads_only other second f))
    ∙ (ap nest_of (sym (join_members first second))
    ∙ reads_again (followed_by first second)))

-- ---- groups, by the numbers of their expressions
abbrev pub bare_columns : Region → List Column
bare_columns region = map (λ t. record { at = t; cells = [] }) (members region)

bare : (ts : List (List ℤ)) → NoCells (map (λ t. record { at = t; cells = [] }) ts)
bare [] = tt
bare (t ∷ ts) = (refl, bare ts)

module _ (tables : Tables) (n : ℕ) (region : Region) where
  abbrev pub nest_does : Option Nest → Whole → Step Whole
  nest_does (Some nest) s = units_do n tables.exprs (units_of nest) (bare_columns region) s
  nest_does None s = Stops Wrong

  abbrev inline : List number.Member → List Member
  inline group = map (member_inlined tables) group

  coded_by : (group : List number.Member) (s : Whole) → group_cells (inline group) ≡ 0
      → (o p : Option Nest) → AreTrees tables.exprs (group_words (inline group)) o p
      → tree_does n region (inline group) s p
      ≡ all_awaiting (group_totals (inline group)) (nest_does o s)
  coded_by group s few o p NoTree = refl
  coded_by group s few o p (BothTrees {nest = nest} {oest = oest} are) =
      let words = group_words (inline group) in
      ap (all_awaiting (group_totals (inline group)))
      (ap (λ k. units_do n words (units_of oest)
      (map (λ t. record { at = t; cells = replicate k (pos 0) }) (members region)) s) few
      ∙ sym (units_same n tables.exprs words nest oest are (bare_columns region)
      (bare (members region)) s))

  pub coded_does : (group : List number.Member) (s : Whole) → group_cells (inline group) ≡ 0
      → tree_does n region (inline group) s (nest_of (group_coded 0 (inline group)))
      ≡ all_awaiting (group_totals (inline group)) (nest_does (nest_of group) s)
  coded_does group s few =
      coded_by group s few (nest_of group) (nest_of (group_coded 0 (inline group)))
      (groups_inline tables group)

  pub both_do : (one other : List number.Member) (first second : Nest) → nest_of one ≡ Some first
      → nest_of other ≡ Some second → (s : Whole)
      → nest_does (nest_of (one ++ other)) s
      ≡ step_then (nest_does (nest_of one) s) (λ next. nest_does (nest_of other) next)
  both_do one other first second e f s =
      ap (λ o. nest_does o s) (both_nests one other first second e f)
      ∙ (ap (λ us. units_do n tables.exprs us (bare_columns region) s) (join_units first second)
      ∙ (units_then n tables.exprs (units_of first) (units_of second) (bare_columns region)
      (bare (members region)) s
      ∙ (ap (λ o. step_then (nest_does o s) (λ next. nest_does (Some second) next)) (sym e)
      ∙ ap (λ o. step_then (nest_does (nest_of one) s) (λ next. nest_does o next)) (sym f))))

-- ---- loops print nothing
pub data IsQuiet : Step Whole → Type 0 where
  QuietOn : {next : Whole} → IsQuiet (Goes [] next)
  QuietStop : {stop : _} → IsQuiet (Stops stop)

from_quiet : (found : Option Whole) (f : Whole → Step Whole) → ((next : Whole) → IsQuiet (f next))
    → IsQuiet (from_written found f)
from_quiet (Some next) f quiet = quiet next
from_quiet None f quiet = QuietStop

does_quiet : (line : ℕ) (columns : List Column) (s : Whole) (told : AllTold)
    (f : List Column → Whole → Step Whole)
    → ((columns : List Column) (next : Whole) → IsQuiet (f columns next))
    → IsQuiet (unit_does line columns s told f)
does_quiet line columns s (AllFine points) f quiet =
    from_quiet (all_written columns points s) (f (columns_behind columns points))
    (quiet (columns_behind columns points))
does_quiet line columns s SomeZero f quiet = QuietStop
does_quiet line columns s SomeWant f quiet = QuietStop
does_quiet line columns s SomeLost f quiet = QuietStop

units_quiet : (n : ℕ) (exprs : List Words) (units : List Nest) (columns : List Column) (s : Whole)
    → IsQuiet (units_do n exprs units columns s)
units_quiet n exprs [] columns s = QuietOn
units_quiet n exprs (unit ∷ units) columns s =
    does_quiet (unit_line unit) columns s (all_told (unit_at n exprs unit s) columns)
    (λ columns whole. units_do n exprs units columns whole)
    (λ columns next. units_quiet n exprs units columns next)

pub nest_quiet : (tables : Tables) (n : ℕ) (region : Region) (o : Option Nest) (s : Whole)
    → IsQuiet (nest_does tables n region o s)
nest_quiet tables n region (Some nest) s =
    units_quiet n tables.exprs (units_of nest) (bare_columns region) s
nest_quiet tables n region None s = QuietStop
