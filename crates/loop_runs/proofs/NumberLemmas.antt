-- A loop goes by the words of its expressions, whatever their numbers are.
--
--   renumbered   a group that is seen inline does what the tree of its members does
use Rattle.std.proofs.Common.{◌≡◌, refl, sym, ◌∙◌, ap, ℕ, zero, suc}
use Rattle.std.proofs.Common.{List, [], ◌∷◌, map, ℤ, Option, Some, None}
use Rattle.std.specs.Prelude.{slice_get, slice_index_or, slice_set}
use Rattle.row_runs.specs.Run.{Step}
use Rattle.node_form.specs.declared.members.Member as number
use Rattle.node_form.specs.declared.tables.Tables.{Tables}
use Rattle.node_form.specs.Nest.{Nest, Nothing, Putting, Keeping, Joining, Choosing, ChoosingElse}
use Rattle.node_form.specs.Nest.{Looping, Repeating}
use Rattle.node_form.specs.Value.{Operands, and_then, read, value_of}
use Rattle.nest_meaning.specs.Nested.{Told, Fine, Zero, Ways}
use Rattle.nest_meaning.specs.Tree.{nest_of}
use Rattle.nest_meaning.specs.Units.{units_of}
use Rattle.nest_meaning.specs.Alike.{AreLeaves, AreMasks, AreNests, AreTold, AreValues, Both, BothFine}
use Rattle.nest_meaning.specs.Alike.{BothLost, BothWant, BothZero, Elses, Ifs, JoinLeaf}
use Rattle.nest_meaning.specs.Alike.{KeepLeaf, Leaves, Masks, PutLeaf, Repeats, Whiles}
use Rattle.nest_meaning.specs.Alike as alike
use Rattle.nest_meaning.proofs.AlikeLemmas.{do_as_pairs}
use Rattle.flat_form.specs.Laws.{AreRenumbered, AreTrees, BothChoose, BothElse, BothJoin, BothKeep}
use Rattle.flat_form.specs.Laws.{BothLoop, BothMasks, BothNothing, BothPut, BothRepeat, BothTrees}
use Rattle.flat_form.specs.Laws.{HaveMasks, HaveWords, NoMasks, NoTree}
use Rattle.flat_form.specs.Loop.{AllFine, AllTold, Column, Joins, Point, Puts, SomeLost, SomeWant}
use Rattle.flat_form.specs.Loop.{SomeZero, all_told, all_written, both_told, columns_behind}
use Rattle.flat_form.specs.Loop.{from_written, log_ways, logging, operands_at, unit_at, unit_does}
use Rattle.flat_form.specs.Loop.{units_do}
use Rattle.flat_form.specs.Names.{group_words}
use Rattle.flat_form.specs.Row.{Words, group_coded, member_inlined}
use Rattle.flat_form.specs.Whole.{Whole}
use Rattle.flat_form.proofs.TreeLemmas.{groups_inline}

-- ---- expressions with other numbers
at_words : (operands : Operands) (exprs : List Words) (expr : ℕ)
    → and_then (value_of operands) (read (slice_get exprs expr))
    ≡ value_of operands (slice_index_or exprs expr [])
at_words operands [] expr = refl
at_words operands (words ∷ exprs) zero = refl
at_words operands (words ∷ exprs) (suc expr) = at_words operands exprs expr

abbrev IsLike : Point → Point → Type 0
IsLike p q = p ≡ q

module _ (exprs others : List Words) (before : Whole) (t : List ℤ) where
  abbrev one : Ways Point
  one = log_ways exprs before t

  abbrev two : Ways Point
  two = log_ways others before t

  values_same : (expr fxpr : ℕ) → HaveWords exprs others expr fxpr
      → AreValues IsLike one two expr fxpr
  values_same expr fxpr same = record {
    same = λ p q like.
        at_words (operands_at before t p) exprs expr
        ∙ (ap (value_of (operands_at before t p)) same
        ∙ (sym (at_words (operands_at before t p) others fxpr)
        ∙ ap (λ (p : Point). two.value p fxpr) like));
  }

  masks_same : (mask nask : Option ℕ) → HaveMasks exprs others mask nask
      → AreMasks IsLike one two mask nask
  masks_same mask nask NoMasks = alike.NoMasks
  masks_same mask nask (BothMasks {mask = expr} {other = fxpr} same) =
      Masks (values_same expr fxpr same)

  put_same : (array : ℕ) → AreLeaves IsLike one two (PutLeaf array) (PutLeaf array)
  put_same array = record {
    steps = λ v p q like. Both (ap (logging (Puts array v)) like);
  }

  keep_same : (cell : ℕ) → AreLeaves IsLike one two (KeepLeaf cell) (KeepLeaf cell)
  keep_same cell = record {
    steps = λ v p q like.
        Both (ap (λ (p : Point). record p { cells = slice_set p.cells cell v }) like);
  }

  join_same : (scalar : ℕ) (operator : _)
      → AreLeaves IsLike one two (JoinLeaf scalar operator) (JoinLeaf scalar operator)
  join_same scalar operator = record {
    steps = λ v p q like. Both (ap (logging (Joins scalar operator v)) like);
  }

  nests_same : (nest oest : Nest) → AreRenumbered exprs others nest oest
      → AreNests IsLike one two nest oest
  nests_same nest oest BothNothing = alike.BothNothing
  nests_same nest oest (BothPut {array = array} {expr = e} {fxpr = f} {line = line} {mask = m}
      {nask = k} {after = after} {bfter = bfter} words masks more) =
      Leaves {leaf = PutLeaf array} {leaf' = PutLeaf array} line line (masks_same m k masks)
      (values_same e f words) (put_same array) (nests_same after bfter more)
  nests_same nest oest (BothKeep {cell = cell} {expr = e} {fxpr = f} {line = line} {mask = m}
      {nask = k} {after = after} {bfter = bfter} words masks more) =
      Leaves {leaf = KeepLeaf cell} {leaf' = KeepLeaf cell} line line (masks_same m k masks)
      (values_same e f words) (keep_same cell) (nests_same after bfter more)
  nests_same nest oest (BothJoin {scalar = scalar} {expr = e} {fxpr = f} {line = line}
      {operator = operator} {mask = m} {nask = k} {after = after} {bfter = bfter} words masks
      more) =
      Leaves {leaf = JoinLeaf scalar operator} {leaf' = JoinLeaf scalar operator} line line
      (masks_same m k masks) (values_same e f words) (join_same scalar operator)
      (nests_same after bfter more)
  nests_same nest oest (BothChoose {expr = e} {fxpr = f} {mask = m} {nask = k} {body = body}
      {cody = cody} {after = after} {bfter = bfter} words masks within more) =
      Ifs (masks_same m k masks) (values_same e f words) (nests_same body cody within)
      (nests_same after bfter more)
  nests_same nest oest (BothElse {expr = e} {fxpr = f} {mask = m} {nask = k} {body = body}
      {cody = cody} {other = other} {pther = pther} {after = after} {bfter = bfter} words masks
      within otherwise more) =
      Elses (masks_same m k masks) (values_same e f words) (nests_same body cody within)
      (nests_same other pther otherwise) (nests_same after bfter more)
  nests_same nest oest (BothLoop {expr = e} {fxpr = f} {mask = m} {nask = k} {body = body}
      {cody = cody} {after = after} {bfter = bfter} words masks within more) =
      Whiles (masks_same m k masks) (values_same e f words) (nests_same body cody within)
      (nests_same after bfter more)
  nests_same nest oest (BothRepeat {until = e} {vntil = f} {mask = m} {nask = k} {body = body}
      {cody = cody} {after = after} {bfter = bfter} words masks within more) =
      Repeats (masks_same m k masks) (values_same e f words) (nests_same body cody within)
      (nests_same after bfter more)

told_same : (x y : Told Point) → AreTold IsLike x y → x ≡ y
told_same x y (BothFine like) = ap Fine like
told_same x y (BothZero like) = ap Zero like
told_same x y BothWant = refl
told_same x y BothLost = refl

all_same : (f g : Column → Told Point) (columns : List Column)
    → ((column : Column) → f column ≡ g column) → all_told f columns ≡ all_told g columns
all_same f g [] same = refl
all_same f g (column ∷ columns) same =
    ap (λ told. both_told told (all_told f columns)) (same column)
    ∙ ap (both_told (g column)) (all_same f g columns same)

from_same : (found : Option Whole) (f g : Whole → Step Whole) → ((next : Whole) → f next ≡ g next)
    → from_written found f ≡ from_written found g
from_same (Some next) f g same = same next
from_same None f g same = refl

does_same : (line : ℕ) (columns : List Column) (s : Whole) (told : AllTold)
    (f g : List Column → Whole → Step Whole)
    → ((columns : List Column) (next : Whole) → f columns next ≡ g columns next)
    → unit_does line columns s told f ≡ unit_does line columns s told g
does_same line columns s (AllFine points) f g same =
    from_same (all_written columns points s) (f (columns_behind columns points))
    (g (columns_behind columns points)) (same (columns_behind columns points))
does_same line columns s SomeZero f g same = refl
does_same line columns s SomeWant f g same = refl
does_same line columns s SomeLost f g same = refl

module _ (n : ℕ) (exprs others : List Words) where
  at_same : (unit vnit : Nest) → AreRenumbered exprs others unit vnit → (s : Whole)
      (column : Column) → unit_at n exprs unit s column ≡ unit_at n others vnit s column
  at_same unit vnit are s column =
      let p : Point = record { cells = column.cells; log = [] } in
      told_same (unit_at n exprs unit s column) (unit_at n others vnit s column)
      (do_as_pairs IsLike (log_ways exprs s column.at) (log_ways others s column.at) n unit vnit
      (nests_same exprs others s column.at unit vnit are) p p refl)

  first_same : (unit vnit : Nest) → AreRenumbered exprs others unit vnit → (line : ℕ)
      (us vs : List Nest) (columns : List Column) (s : Whole)
      → ((columns : List Column) (next : Whole)
      → units_do n exprs us columns next ≡ units_do n others vs columns next)
      → unit_does line columns s (all_told (unit_at n exprs unit s) columns)
      (λ columns whole. units_do n exprs us columns whole)
      ≡ unit_does line columns s (all_told (unit_at n others vnit s) columns)
      (λ columns whole. units_do n others vs columns whole)
  first_same unit vnit are line us vs columns s rest =
      does_same line columns s (all_told (unit_at n exprs unit s) columns)
      (λ columns whole. units_do n exprs us columns whole)
      (λ columns whole. units_do n others vs columns whole) rest
      ∙ ap (λ told. unit_does line columns s told
      (λ columns whole. units_do n others vs columns whole))
      (all_same (unit_at n exprs unit s) (unit_at n others vnit s) columns
      (at_same unit vnit are s))

  units_same : (nest oest : Nest) → AreRenumbered exprs others nest oest
      → (columns : List Column) (s : Whole)
      → units_do n exprs (units_of nest) columns s ≡ units_do n others (units_of oest) columns s
  units_same nest oest BothNothing columns s = refl
  units_same nest oest (BothPut {array = array} {expr = e} {fxpr = f} {line = line} {mask = m}
      {nask = k} {after = after} {bfter = bfter} words masks more) columns s =
      first_same (Putting array e m line Nothing) (Putting array f k line Nothing)
      (BothPut words masks BothNothing) line (units_of after) (units_of bfter)
      columns s (λ columns next. units_same after bfter more columns next)
  units_same nest oest (BothKeep {cell = cell} {expr = e} {fxpr = f} {line = line} {mask = m}
      {nask = k} {after = after} {bfter = bfter} words masks more) columns s =
      first_same (Keeping cell e m line Nothing) (Keeping cell f k line Nothing)
      (BothKeep words masks BothNothing) line (units_of after) (units_of bfter)
      columns s (λ columns next. units_same after bfter more columns next)
  units_same nest oest (BothJoin {scalar = scalar} {expr = e} {fxpr = f} {line = line}
      {operator = operator} {mask = m} {nask = k} {after = after} {bfter = bfter} words masks
      more) columns s =
      first_same (Joining scalar operator e m line Nothing)
      (Joining scalar operator f k line Nothing)
      (BothJoin words masks BothNothing) line (units_of after) (units_of bfter)
      columns s (λ columns next. units_same after bfter more columns next)
  units_same nest oest (BothChoose {expr = e} {fxpr = f} {line = line} {mask = m} {nask = k}
      {body = body} {cody = cody} {after = after} {bfter = bfter} words masks within more)
      columns s =
      first_same (Choosing e m line body Nothing) (Choosing f k line cody Nothing)
      (BothChoose words masks within BothNothing) line (units_of after) (units_of bfter)
      columns s (λ columns next. units_same after bfter more columns next)
  units_same nest oest (BothElse {expr = e} {fxpr = f} {line = line} {mask = m} {nask = k}
      {body = body} {cody = cody} {other = other} {pther = pther} {after = after} {bfter = bfter}
      words masks within otherwise more) columns s =
      first_same (ChoosingElse e m line body other Nothing)
      (ChoosingElse f k line cody pther Nothing)
      (BothElse words masks within otherwise BothNothing) line (units_of after) (units_of bfter)
      columns s (λ columns next. units_same after bfter more columns next)
  units_same nest oest (BothLoop {expr = e} {fxpr = f} {line = line} {mask = m} {nask = k}
      {body = body} {cody = cody} {after = after} {bfter = bfter} words masks within more)
      columns s =
      first_same (Looping e m line body Nothing) (Looping f k line cody Nothing)
      (BothLoop words masks within BothNothing) line (units_of after) (units_of bfter)
      columns s (λ columns next. units_same after bfter more columns next)
  units_same nest oest (BothRepeat {until = e} {vntil = f} {line = line} {mask = m} {nask = k}
      {body = body} {cody = cody} {after = after} {bfter = bfter} words masks within more)
      columns s =
      first_same (Repeating m line body e Nothing) (Repeating k line cody f Nothing)
      (BothRepeat words masks within BothNothing) line (units_of after) (units_of bfter)
      columns s (λ columns next. units_same after bfter more columns next)

-- a group by the numbers of its expressions
pub data AreRead (code : Tables) (n : ℕ) (members : List number.Member) (columns : List Column)
    (s : Whole) : Option Nest → Type 0 where
  NoneRead : AreRead code n members columns s None
  SomeRead : {oest : Nest} (nest : Nest) → nest_of members ≡ Some nest
      → units_do n (group_words (map (member_inlined code) members)) (units_of oest) columns s
      ≡ units_do n code.exprs (units_of nest) columns s
      → AreRead code n members columns s (Some oest)

pub renumbered : (code : Tables) (n : ℕ) (members : List number.Member) (columns : List Column)
    (s : Whole)
    → AreRead code n members columns s
    (nest_of (group_coded 0 (map (member_inlined code) members)))
renumbered code n members columns s =
    by (nest_of members) refl (nest_of (group_coded 0 (map (member_inlined code) members)))
    (groups_inline code members)
  where
    by : (o : Option Nest) → nest_of members ≡ o → (p : Option Nest)
        → AreTrees code.exprs (group_words (map (member_inlined code) members)) o p
        → AreRead code n members columns s p
    by o is p NoTree = NoneRead
    by o is p (BothTrees {nest = nest} {oest = oest} are) =
        SomeRead nest is
        (sym (units_same n code.exprs (group_words (map (member_inlined code) members)) nest oest are
        columns s))
