-- A flat loop comes to what all units do at each tuple by itself, over the arrays as they were before
-- the loop.
--
--   Kept, Stage    what each tuple has come to; and the state of the flat loop there
--   FlatTo         what a flat loop comes to
--   flat_goes      so it does
use Rattle.std.proofs.Common.{◌≡◌, inl, inr, refl, sym, ◌∙◌, ap, subst, arith, ℕ}
use Rattle.std.proofs.Common.{◌+◌, Bool, true, false, List, [], ◌∷◌, ◌++◌, length}
use Rattle.std.proofs.Common.{map, ℤ, Option, Some, None, append_assoc}
use Rattle.std.specs.Prelude.{◌==◌, if◌then◌else◌, option_and_then, slice_get, slice_set}
use Rattle.zpl_nums.specs.declared.ends.End.TheVariants.{Trap, More}
use Rattle.zpl_nums.specs.declared.ends.TrapKind.TheVariants.{DivideByZero}
use Rattle.zpl_nums.specs.declared.folds.Fold.{Fold}
use Rattle.zpl_nums.specs.Fold.{folded, joined, unit_of}
use Rattle.zpl_nums.proofs.FoldLemmas.{folded-append, joined_assoc, joined_comm}
use Rattle.zpl_region.specs.declared.regions.Region.{Region}
use Rattle.zpl_arrays.specs.Array.{flattened, has_place}
use Rattle.row_runs.specs.Run.{Ends as Ended, Goes, Step, Stops, Wrong}
use Rattle.row_runs.specs.Straight.{Every}
use Rattle.node_form.specs.declared.tables.Tables.{Tables}
use Rattle.node_form.specs.Nest.{Nest, members_of}
use Rattle.grid_meaning.specs.Place.{held_value, moved_by, value_at}
use Rattle.nest_meaning.specs.Alike.{AreLeaves, AreTold, AreValues, Both, BothFine, BothLost}
use Rattle.nest_meaning.specs.Alike.{BothWant, BothZero, JoinLeaf, KeepLeaf, Leaf, PutLeaf}
use Rattle.nest_meaning.specs.Nested.{Ways, Told, Fine, Zero, Wants, Lost, nested}
use Rattle.nest_meaning.proofs.AlikeLemmas.{does_alike}
use Rattle.flat_form.specs.Loop.{AllFine, AllTold, Column, Joins, Log, Point, Puts, SomeLost}
use Rattle.flat_form.specs.Loop.{SomeWant, SomeZero, Write, all_told, all_written, both_told}
use Rattle.flat_form.specs.Loop.{columns_behind, element_at, from_written, log_ways, logged}
use Rattle.flat_form.specs.Loop.{operands_at, unit_at, unit_does, unit_line, units_do}
use Rattle.flat_form.specs.Right.{is_unmoved}
use Rattle.flat_form.specs.Row.{Words}
use Rattle.flat_form.specs.Whole.{Whole}
use Rattle.flat_form.proofs.WordLemmas.{every_append}
use Rattle.loop_runs.proofs.NestLemmas.{NestOf, nest_same}
use Rattle.loop_runs.proofs.ColumnLemmas.{AnyOf, From, HasFlag, IsLine, IsLoopless, Keeps, LoopsFirst}
use Rattle.loop_runs.proofs.ColumnLemmas.{Own, Waits, behind_first, less_from, own_from, own_next, own_run}
use Rattle.loop_runs.proofs.WordLemmas.{ExprOf, LeafOf, is_moved_none, logged_append, value_by}
use Rattle.loop_runs.proofs.WriteLemmas.{AllWrote, Apart, AreOwn, FarFrom, HasOwn, LogsOf, Placed}
use Rattle.loop_runs.proofs.WriteLemmas.{Stays, WriteOf, all_joins, all_wrote, fold_append, joins}
use Rattle.loop_runs.proofs.WriteLemmas.{if_joins, stays_then, unput_logged}

-- a tuple, and what it has come to
pub record Kept : Type 0 where
  pub at : List ℤ
  pub point : Point

abbrev pub column_of : Kept → Column
column_of k = record { at = k.at; cells = k.point.cells }

abbrev pub kept_joins : ℕ → List Kept → List ℤ
kept_joins scalar [] = []
kept_joins scalar (k ∷ ks) = joins scalar k.point.log ++ kept_joins scalar ks

pub choice_same : {X : Type 0} (b : Bool) (x y u v : X) → (b ≡ true → x ≡ u) → (b ≡ false → y ≡ v)
    → (if b then x else y) ≡ (if b then u else v)
choice_same true x y u v one other = one refl
choice_same false x y u v one other = other refl

pub record IsZeroTold (told : Told Point) : Type 0 where
  pub point : Point
  pub is : told ≡ Zero point

-- the same once more, with each record made anew
abbrev ended : List Kept → List Kept
ended [] = []
ended (k ∷ ks) = record { at = k.at; point = k.point } ∷ ended ks

ended_same : (ks : List Kept) → ended ks ≡ ks
ended_same [] = refl
ended_same (k ∷ ks) = ap (λ rest. k ∷ rest) (ended_same ks)

-- ---- what is joined
joins_append : (scalar : ℕ) (one other : Log)
    → joins scalar (one ++ other) ≡ joins scalar other ++ joins scalar one
joins_append scalar [] other = sym (none (joins scalar other))
  where
    none : (xs : List ℤ) → xs ++ [] ≡ xs
    none [] = refl
    none (x ∷ xs) = ap (λ ys. x ∷ ys) (none xs)
joins_append scalar (Puts array v ∷ one) other = joins_append scalar one other
joins_append scalar (Joins k operator v ∷ one) other =
    ap (if_joins (k == scalar) v) (joins_append scalar one other) ∙ by (k == scalar)
  where
    by : (b : Bool) → if_joins b v (joins scalar other ++ joins scalar one)
        ≡ joins scalar other ++ if_joins b v (joins scalar one)
    by true = append_assoc (joins scalar other) (joins scalar one) (v ∷ [])
    by false = refl

middle_four : (f : Fold) (a b c d : ℤ)
    → joined f (joined f a b) (joined f c d) ≡ joined f (joined f a c) (joined f b d)
middle_four f a b c d =
    joined_assoc f a b (joined f c d)
    ∙ (ap (joined f a) (sym (joined_assoc f b c d)
    ∙ (ap (λ x. joined f x d) (joined_comm f b c) ∙ joined_assoc f c b d))
    ∙ sym (joined_assoc f a c (joined f b d)))

-- ---- which arrays are read by which vectors, which scalars are read, which arrays are put and where,
-- and which scalars are accumulated
module _ (tables : Tables) (rank n : ℕ) (exprs : List Words) (before : Whole)
    (R : ℕ → List ℤ → Type 0) (S IsCell : ℕ → Type 0) (puts : ℕ → Bool) (J : ℕ → Fold → Type 0)
    (Z : ℕ → Region) (one : (k : ℕ) (f g : Fold) → J k f → J k g → f ≡ g)
    (far_unput : (a : ℕ) (shift : List ℤ) → R a shift → is_unmoved shift ≡ false → puts a ≡ false)
    (scalar_apart : (k : ℕ) → S k → (f : Fold) → J k f → ⊥) where
  pub record UnitOf (unit : Nest) : Type 0 where
    pub known : List ℕ
    pub is : NestOf (ExprOf tables rank exprs R S known)
        (LeafOf puts J IsCell) unit

  abbrev pub IsWrite : Write → Type 0
  IsWrite = WriteOf puts J Z one

  -- a unit at a tuple, on the one hand over the state of the flat loop
  pub record Like (base : Log) (p q : Point) : Type 0 where
    pub cells : p.cells ≡ q.cells
    pub log : q.log ≡ p.log ++ base
    pub writes : Every IsWrite p.log

  abbrev pub told_at : Nest → Kept → Told Point
  told_at unit k = nested (log_ways exprs before k.at) n unit k.point

  -- what the tuple sees without a vector
  abbrev pub Near : Whole → Kept → Type 0
  Near cur k =
      (a : ℕ) (shift : List ℤ) → R a shift → is_unmoved shift ≡ true
      → value_at cur.stores a (moved_by shift k.at)
      ≡ logged k.point.log a (value_at before.stores a (moved_by shift k.at))

  module _ (cur : Whole) (stays : Stays puts J Z one before cur) (k : Kept) (near : Near cur k) where
    abbrev flat : Ways Point
    flat = log_ways exprs cur k.at

    abbrev alone : Ways Point
    alone = log_ways exprs before k.at

    elements : (p q : Point) → Like k.point.log p q → (a : ℕ) (shift : List ℤ) → R a shift
        → element_at cur k.at p.log a shift ≡ element_at before k.at q.log a shift
    elements p q like a shift r =
        let u = moved_by shift k.at in
        choice_same (is_unmoved shift) (logged p.log a (value_at cur.stores a u))
        (value_at cur.stores a u) (logged q.log a (value_at before.stores a u))
        (value_at before.stores a u)
        (λ e. ap (logged p.log a) (near a shift r e)
        ∙ (sym (logged_append p.log k.point.log a (value_at before.stores a u))
        ∙ ap (λ l. logged l a (value_at before.stores a u)) (sym like.log)))
        (λ e. ap (λ o. option_and_then (held_value u) o) (stays.unput a (far_unput a shift r e)))

    values : (known : List ℕ) (expr : ℕ) → ExprOf tables rank exprs R S known expr
        → AreValues (Like k.point.log) flat alone expr expr
    values known expr is = record {
      same = λ p q like.
          value_by tables rank exprs R S known (operands_at cur k.at p) (operands_at before k.at q)
          (λ s r. stays.others s (scalar_apart s r))
          (λ c kept. ap (λ cells. slice_get cells c) like.cells) refl (elements p q like) expr is;
    }

    leaves : (leaf : Leaf) → LeafOf puts J IsCell leaf → AreLeaves (Like k.point.log) flat alone leaf leaf
    leaves (PutLeaf array) is = record {
      steps = λ v p q like. Both (record {
        cells = like.cells;
        log = ap (λ l. Puts array v ∷ l) like.log;
        writes = (is, like.writes);
      });
    }
    leaves (KeepLeaf cell) is = record {
      steps = λ v p q like. Both (record {
        cells = ap (λ cells. slice_set cells cell v) like.cells;
        log = like.log;
        writes = like.writes;
      });
    }
    leaves (JoinLeaf scalar operator) is = record {
      steps = λ v p q like. Both (record {
        cells = like.cells;
        log = ap (λ l. Joins scalar operator v ∷ l) like.log;
        writes = (is, like.writes);
      });
    }

    pub unit_alike : (unit : Nest) → UnitOf unit
        → AreTold (Like k.point.log) (unit_at n exprs unit cur (column_of k)) (told_at unit k)
    unit_alike unit of =
        does_alike (Like k.point.log) flat alone n unit
        (nest_same (ExprOf tables rank exprs R S of.known) (LeafOf puts J IsCell) (Like k.point.log)
        flat alone (values of.known) leaves unit of.is)
        (record { cells = k.point.cells; log = [] }) k.point
        (record { cells = refl; log = refl; writes = tt })

  -- ---- a unit at all tuples
  abbrev IsZeroAt : Nest → Kept → Type 0
  IsZeroAt unit k = IsZeroTold (told_at unit k)

  -- what each tuple has come to, and what it has written
  data Steps (unit : Nest) : List Kept → List Point → List Kept → Type 0 where
    NoStep : Steps unit [] [] []
    MoreSteps : {k : Kept} {p q : Point} {ks : List Kept} {ps : List Point} {news : List Kept}
        → told_at unit k ≡ Fine q → Like k.point.log p q → Steps unit ks ps news
        → Steps unit (k ∷ ks) (p ∷ ps) (record { at = k.at; point = q } ∷ news)

  data Sum (unit : Nest) : List Kept → AllTold → Type 0 where
    SumFine : {ks : List Kept} {ps : List Point} {news : List Kept} → Steps unit ks ps news
        → Sum unit ks (AllFine ps)
    SumZero : {ks : List Kept} → AnyOf (IsZeroAt unit) ks
        → Every (λ k. told_at unit k ≡ Wants → ⊥) ks → Sum unit ks SomeZero
    SumWant : {ks : List Kept} → AnyOf (λ k. told_at unit k ≡ Wants) ks → Sum unit ks SomeWant
    SumLost : {ks : List Kept} → Sum unit ks SomeLost

  steps_none : (unit : Nest) (ks : List Kept) (ps : List Point) (news : List Kept)
      → Steps unit ks ps news → Every (λ k. told_at unit k ≡ Wants → ⊥) ks
  steps_none unit ks ps news NoStep = tt
  steps_none unit ks ps news (MoreSteps {ks = rest} {ps = qs} {news = more} is like steps) =
      ((λ e. apart (sym is ∙ e)), steps_none unit rest qs more steps)
    where
      apart : {q : Point} → Fine q ≡ Wants → ⊥
      apart e = cc

  add_told : (unit : Nest) (k : Kept) (ks : List Kept) (x y : Told Point) (rest : AllTold)
      → AreTold (Like k.point.log) x y → told_at unit k ≡ y → Sum unit ks rest
      → Sum unit (k ∷ ks) (both_told x rest)
  add_told unit k ks x y rest (BothFine like) is (SumFine steps) =
      SumFine (MoreSteps is like steps)
  add_told unit k ks x y rest (BothFine like) is (SumZero some none) =
      SumZero (inr some) ((λ e. apart (sym is ∙ e)), none)
    where
      apart : {q : Point} → Fine q ≡ Wants → ⊥
      apart e = cc
  add_told unit k ks x y rest (BothFine like) is (SumWant some) = SumWant (inr some)
  add_told unit k ks x y rest (BothFine like) is SumLost = SumLost
  add_told unit k ks x y rest (BothZero {q = q} like) is (SumFine {ps = ps} {news = news} steps) =
      SumZero (inl (record { point = q; is = is }))
      ((λ e. apart (sym is ∙ e)), steps_none unit ks ps news steps)
    where
      apart : {q : Point} → Zero q ≡ Wants → ⊥
      apart e = cc
  add_told unit k ks x y rest (BothZero like) is (SumZero some none) =
      SumZero (inr some) ((λ e. apart (sym is ∙ e)), none)
    where
      apart : {q : Point} → Zero q ≡ Wants → ⊥
      apart e = cc
  add_told unit k ks x y rest (BothZero like) is (SumWant some) = SumWant (inr some)
  add_told unit k ks x y rest (BothZero like) is SumLost = SumLost
  add_told unit k ks x y rest BothWant is (SumFine steps) = SumWant (inl is)
  add_told unit k ks x y rest BothWant is (SumZero some none) = SumWant (inl is)
  add_told unit k ks x y rest BothWant is (SumWant some) = SumWant (inl is)
  add_told unit k ks x y rest BothWant is SumLost = SumLost
  add_told unit k ks x y rest BothLost is sum = SumLost

  sum_all : (cur : Whole) → Stays puts J Z one before cur → (unit : Nest) → UnitOf unit
      → (ks : List Kept) → Every (Near cur) ks
      → Sum unit ks (all_told (unit_at n exprs unit cur) (map column_of ks))
  sum_all cur stays unit of [] near = SumFine NoStep
  sum_all cur stays unit of (k ∷ ks) near =
      add_told unit k ks (unit_at n exprs unit cur (column_of k)) (told_at unit k)
      (all_told (unit_at n exprs unit cur) (map column_of ks))
      (unit_alike cur stays k near.0 unit of) refl (sum_all cur stays unit of ks near.1)

  -- ---- the state of the flat loop, and what the tuples have come to
  abbrev pub KeptOwn : ℕ → Whole → List Kept → Type 0
  KeptOwn a cur ks =
      Every (λ (k : Kept). (u : List ℤ) → has_place (Z a) u ≡ true
      → flattened (Z a).dims u ≡ k.at
      → value_at cur.stores a u ≡ logged k.point.log a (value_at before.stores a u)) ks

  pub record Stage (cur : Whole) (ks : List Kept) : Type 0 where
    pub placed : Placed puts J Z one cur
    pub stays : Stays puts J Z one before cur
    pub own : (a : ℕ) → puts a ≡ true → KeptOwn a cur ks
    pub elsewhere : (a : ℕ) (u : List ℤ) → puts a ≡ true → has_place (Z a) u ≡ true
        → Every (λ (k : Kept). flattened (Z a).dims u ≡ k.at → ⊥) ks
        → value_at cur.stores a u ≡ value_at before.stores a u
    pub totals : (k : ℕ) (f : Fold) → J k f
        → slice_get cur.scalars k ≡ Some (folded f (kept_joins k ks))
    pub writes : Every (λ (k : Kept). Every IsWrite k.point.log) ks

  abbrev AreOwners : List Kept → Type 0
  AreOwners ks = Every (λ (k : Kept). HasOwn puts J Z one k.at) ks

  near_one : (cur : Whole) (k : Kept) → Stays puts J Z one before cur → HasOwn puts J Z one k.at
      → Every IsWrite k.point.log
      → ((a : ℕ) → puts a ≡ true → (u : List ℤ) → has_place (Z a) u ≡ true
      → flattened (Z a).dims u ≡ k.at
      → value_at cur.stores a u ≡ logged k.point.log a (value_at before.stores a u))
      → Near cur k
  near_one cur k stays owns writes own a shift r e = by (puts a) refl
    where
      by : (b : Bool) → puts a ≡ b
          → value_at cur.stores a (moved_by shift k.at)
          ≡ logged k.point.log a (value_at before.stores a (moved_by shift k.at))
      by true is =
          let here = owns a is in
          subst (λ u. value_at cur.stores a u ≡ logged k.point.log a (value_at before.stores a u))
          (sym (is_moved_none shift k.at e)) (own a is k.at here.0 here.1)
      by false is =
          ap (λ o. option_and_then (held_value (moved_by shift k.at)) o) (stays.unput a is)
          ∙ sym (unput_logged puts J Z one k.point.log a
          (value_at before.stores a (moved_by shift k.at)) writes is)

  near_all : (cur : Whole) (ks : List Kept) → Stays puts J Z one before cur → AreOwners ks
      → Every (λ (k : Kept). Every IsWrite k.point.log) ks
      → ((a : ℕ) → puts a ≡ true → KeptOwn a cur ks) → Every (Near cur) ks
  near_all cur [] stays owns writes own = tt
  near_all cur (k ∷ ks) stays owns writes own = (
    near_one cur k stays owns.0 writes.0 (λ a is. (own a is).0),
    near_all cur ks stays owns.1 writes.1 (λ a is. (own a is).1),
  )

  -- ---- what is written when all are fine
  columns_next : (unit : Nest) (ks : List Kept) (ps : List Point) (news : List Kept)
      → Steps unit ks ps news → columns_behind (map column_of ks) ps ≡ map column_of news
  columns_next unit ks ps news NoStep = refl
  columns_next unit ks ps news
      (MoreSteps {k = k} {q = q} {ks = rest} {ps = qs} {news = more} is like steps) =
      ap (λ cells. record { at = k.at; cells = cells } ∷ columns_behind (map column_of rest) qs)
      like.cells
      ∙ ap (λ columns. record { at = k.at; cells = q.cells } ∷ columns) (columns_next unit rest qs more steps)

  logs_next : (unit : Nest) (ks : List Kept) (ps : List Point) (news : List Kept)
      → Steps unit ks ps news → LogsOf puts J Z one ps
  logs_next unit ks ps news NoStep = tt
  logs_next unit ks ps news (MoreSteps {ks = rest} {ps = qs} {news = more} is like steps) =
      (like.writes, logs_next unit rest qs more steps)

  writes_next : (unit : Nest) (ks : List Kept) (ps : List Point) (news : List Kept)
      → Steps unit ks ps news → Every (λ (k : Kept). Every IsWrite k.point.log) ks
      → Every (λ (k : Kept). Every IsWrite k.point.log) news
  writes_next unit ks ps news NoStep writes = tt
  writes_next unit ks ps news
      (MoreSteps {k = k} {p = p} {ks = rest} {ps = qs} {news = more} is like steps) writes = (
        subst (Every IsWrite) (sym like.log)
            (every_append IsWrite p.log k.point.log like.writes writes.0),
        writes_next unit rest qs more steps writes.1,
      )

  owners_next : (unit : Nest) (ks : List Kept) (ps : List Point) (news : List Kept)
      → Steps unit ks ps news → AreOwners ks → AreOwners news
  owners_next unit ks ps news NoStep owns = tt
  owners_next unit ks ps news (MoreSteps {ks = rest} {ps = qs} {news = more} is like steps) owns =
      (owns.0, owners_next unit rest qs more steps owns.1)

  own_next_stage : (a : ℕ) (cur next : Whole) (unit : Nest) (ks : List Kept) (ps : List Point)
      (news : List Kept) → Steps unit ks ps news → KeptOwn a cur ks
      → AreOwn puts J Z one a cur next (map column_of ks) ps → KeptOwn a next news
  own_next_stage a cur next unit ks ps news NoStep before_own own = tt
  own_next_stage a cur next unit ks ps news
      (MoreSteps {k = k} {p = p} {q = q} {ks = rest} {ps = qs} {news = more} is like steps)
      before_own own = (
        λ u has flat.
            own.0 u has flat
            ∙ (ap (logged p.log a) (before_own.0 u has flat)
            ∙ (sym (logged_append p.log k.point.log a (value_at before.stores a u))
            ∙ ap (λ l. logged l a (value_at before.stores a u)) (sym like.log))),
        own_next_stage a cur next unit rest qs more steps before_own.1 own.1,
      )

  far_next : (a : ℕ) (u : List ℤ) (unit : Nest) (ks : List Kept) (ps : List Point)
      (news : List Kept) → Steps unit ks ps news
      → Every (λ (k : Kept). flattened (Z a).dims u ≡ k.at → ⊥) news
      → FarFrom puts J Z one a u (map column_of ks)
      × Every (λ (k : Kept). flattened (Z a).dims u ≡ k.at → ⊥) ks
  far_next a u unit ks ps news NoStep far = (tt, tt)
  far_next a u unit ks ps news (MoreSteps {ks = rest} {ps = qs} {news = more} is like steps) far =
      let others = far_next a u unit rest qs more steps far.1 in
      ((far.0, others.0), (far.0, others.1))

  joins_next : (f : Fold) (scalar : ℕ) (unit : Nest) (ks : List Kept) (ps : List Point)
      (news : List Kept) → Steps unit ks ps news
      → joined f (folded f (kept_joins scalar ks)) (folded f (all_joins scalar (map column_of ks) ps))
      ≡ folded f (kept_joins scalar news)
  joins_next f scalar unit ks ps news NoStep = sym (folded-append f [] [])
  joins_next f scalar unit ks ps news
      (MoreSteps {k = k} {p = p} {q = q} {ks = rest} {ps = qs} {news = more} is like steps) =
      let a = joins scalar k.point.log in
      let b = joins scalar p.log in
      let xs = kept_joins scalar rest in
      let ys = all_joins scalar (map column_of rest) qs in
      ap (λ v. joined f v (folded f (b ++ ys))) (folded-append f a xs)
      ∙ (ap (joined f (joined f (folded f a) (folded f xs))) (folded-append f b ys)
      ∙ (middle_four f (folded f a) (folded f xs) (folded f b) (folded f ys)
      ∙ (ap (joined f (joined f (folded f a) (folded f b)))
      (joins_next f scalar unit rest qs more steps)
      ∙ (ap (λ v. joined f v (folded f (kept_joins scalar more))) (sym (folded-append f a b))
      ∙ (sym (folded-append f (a ++ b) (kept_joins scalar more))
      ∙ ap (λ l. folded f (l ++ kept_joins scalar more))
      (sym (ap (joins scalar) like.log ∙ joins_append scalar p.log k.point.log)))))))

  stage_next : (cur next : Whole) (unit : Nest) (ks : List Kept) (ps : List Point)
      (news : List Kept) → Steps unit ks ps news → Stage cur ks
      → AllWrote puts J Z one (map column_of ks) ps cur next → Stage next news
  stage_next cur next unit ks ps news steps stage wrote = record {
    placed = wrote.placed;
    stays = stays_then puts J Z one before cur next stage.stays wrote.stays;
    own = λ a is. own_next_stage a cur next unit ks ps news steps (stage.own a is) (wrote.own a is);
    elsewhere = λ a u is has far.
        let both = far_next a u unit ks ps news steps far in
        wrote.elsewhere a u is has both.0 ∙ stage.elsewhere a u is has both.1;
    totals = λ k f is.
        wrote.totals k f (folded f (kept_joins k ks)) is (stage.totals k f is)
        ∙ ap Some (sym (fold_append (joined f) (unit_of f) (kept_joins k ks)
        (all_joins k (map column_of ks) ps))
        ∙ (folded-append f (kept_joins k ks) (all_joins k (map column_of ks) ps)
        ∙ joins_next f k unit ks ps news steps));
    writes = writes_next unit ks ps news steps stage.writes;
  }

  -- ---- all units
  abbrev pub own_of : ℕ → List Nest → Kept → Own Point
  own_of number units k = own_run (log_ways exprs before k.at) n number units k.point

  -- each tuple is through, and has come to this
  pub data Ends (number : ℕ) (units : List Nest) : List Kept → List Kept → Type 0 where
    NoEnd : Ends number units [] []
    MoreEnds : {k : Kept} {q : Point} {ks news : List Kept}
        → own_of number units k ≡ Keeps q None → Ends number units ks news
        → Ends number units (k ∷ ks) (record { at = k.at; point = q } ∷ news)

  pub data FlatTo (number : ℕ) (units : List Nest) (ks : List Kept) : Step Whole → Type 0 where
    FlatOn : {next : Whole} {news : List Kept} → Ends number units ks news → Stage next news
        → FlatTo number units ks (Goes [] next)
    FlatZero : (m line : ℕ) → IsLine number units m line
        → Every (λ k. From m (own_of number units k)) ks
        → AnyOf (λ k. HasFlag m (own_of number units k)) ks
        → FlatTo number units ks (Stops (Ended (Trap DivideByZero line)))
    FlatMore : AnyOf (λ k. own_of number units k ≡ Waits) ks
        → FlatTo number units ks (Stops (Ended More))
    FlatWrong : FlatTo number units ks (Stops Wrong)

  own_goes : (number : ℕ) (unit : Nest) (units : List Nest) (k : Kept) (q : Point)
      → told_at unit k ≡ Fine q
      → own_of number (unit ∷ units) k
      ≡ own_of (number + length (members_of unit)) units (record { at = k.at; point = q })
  own_goes number unit units k q is =
      ap (λ told. own_next number told
      (λ p. own_run (log_ways exprs before k.at) n (number + length (members_of unit)) units p)) is

  ends_more : (number : ℕ) (unit : Nest) (units : List Nest) (ks : List Kept) (ps : List Point)
      (news ends : List Kept) → Steps unit ks ps news
      → Ends (number + length (members_of unit)) units news ends
      → Ends number (unit ∷ units) ks ends
  ends_more number unit units ks ps news ends NoStep NoEnd = NoEnd
  ends_more number unit units ks ps news ends
      (MoreSteps {k = k} {q = q} {ks = rest} {ps = qs} {news = more} is like steps)
      (MoreEnds {news = last} own rest_ends) =
      MoreEnds (own_goes number unit units k q is ∙ own)
      (ends_more number unit units rest qs more last steps rest_ends)

  every_back : (P : Own Point → Type 0) (number : ℕ) (unit : Nest) (units : List Nest)
      (ks : List Kept) (ps : List Point) (news : List Kept) → Steps unit ks ps news
      → Every (λ k. P (own_of (number + length (members_of unit)) units k)) news
      → Every (λ k. P (own_of number (unit ∷ units) k)) ks
  every_back P number unit units ks ps news NoStep all = tt
  every_back P number unit units ks ps news
      (MoreSteps {k = k} {q = q} {ks = rest} {ps = qs} {news = more} is like steps) all = (
        subst P (sym (own_goes number unit units k q is)) all.0,
        every_back P number unit units rest qs more steps all.1,
      )

  any_back : (P : Own Point → Type 0) (number : ℕ) (unit : Nest) (units : List Nest)
      (ks : List Kept) (ps : List Point) (news : List Kept) → Steps unit ks ps news
      → AnyOf (λ k. P (own_of (number + length (members_of unit)) units k)) news
      → AnyOf (λ k. P (own_of number (unit ∷ units) k)) ks
  any_back P number unit units ks ps news NoStep some = some
  any_back P number unit units ks ps news
      (MoreSteps {k = k} {q = q} is like steps) (inl here) =
      inl (subst P (sym (own_goes number unit units k q is)) here)
  any_back P number unit units ks ps news
      (MoreSteps {ks = rest} {ps = qs} {news = more} is like steps) (inr there) =
      inr (any_back P number unit units rest qs more steps there)

  further : (number : ℕ) (unit : Nest) (units : List Nest) (ks : List Kept) (ps : List Point)
      (news : List Kept) → Steps unit ks ps news → (step : Step Whole)
      → FlatTo (number + length (members_of unit)) units news step
      → FlatTo number (unit ∷ units) ks step
  further number unit units ks ps news steps step (FlatOn {news = ends} rest stage) =
      FlatOn (ends_more number unit units ks ps news ends steps rest) stage
  further number unit units ks ps news steps step (FlatZero m line at from some) =
      FlatZero m line (inr at) (every_back (From m) number unit units ks ps news steps from)
      (any_back (HasFlag m) number unit units ks ps news steps some)
  further number unit units ks ps news steps step (FlatMore some) =
      FlatMore (any_back (λ own. own ≡ Waits) number unit units ks ps news steps some)
  further number unit units ks ps news steps step FlatWrong = FlatWrong

  zero_from : (number : ℕ) (unit : Nest) (units : List Nest) → Every IsLoopless units
      → (ks : List Kept) → Every (λ k. told_at unit k ≡ Wants → ⊥) ks
      → Every (λ k. From number (own_of number (unit ∷ units) k)) ks
  zero_from number unit units loopless [] none = tt
  zero_from number unit units loopless (k ∷ ks) none =
      (by (told_at unit k) none.0, zero_from number unit units loopless ks none.1)
    where
      by : (told : Told Point) → (told ≡ Wants → ⊥)
          → From number (own_next number told (λ p. own_run (log_ways exprs before k.at) n
          (number + length (members_of unit)) units p))
      by (Fine q) never =
          less_from number (number + length (members_of unit)) _ (omega arith)
          (own_from (log_ways exprs before k.at) n (number + length (members_of unit)) units
          loopless q)
      by (Zero q) never = omega arith
      by Wants never = never refl
      by Lost never = tt

  zero_flag : (number : ℕ) (unit : Nest) (units : List Nest) (ks : List Kept)
      → AnyOf (IsZeroAt unit) ks → AnyOf (λ k. HasFlag number (own_of number (unit ∷ units) k)) ks
  zero_flag number unit units [] some = some
  zero_flag number unit units (k ∷ ks) (inl is) =
      inl (subst (HasFlag number)
      (sym (ap (λ told. own_next number told (λ p. own_run (log_ways exprs before k.at) n
      (number + length (members_of unit)) units p)) is.is)) refl)
  zero_flag number unit units (k ∷ ks) (inr some) = inr (zero_flag number unit units ks some)

  want_waits : (number : ℕ) (unit : Nest) (units : List Nest) (ks : List Kept)
      → AnyOf (λ k. told_at unit k ≡ Wants) ks
      → AnyOf (λ k. own_of number (unit ∷ units) k ≡ Waits) ks
  want_waits number unit units [] some = some
  want_waits number unit units (k ∷ ks) (inl is) =
      inl (ap (λ told. own_next number told (λ p. own_run (log_ways exprs before k.at) n
      (number + length (members_of unit)) units p)) is)
  want_waits number unit units (k ∷ ks) (inr some) = inr (want_waits number unit units ks some)

  apart_next : (unit : Nest) (ks : List Kept) (ps : List Point) (news : List Kept)
      → Steps unit ks ps news → Apart puts J Z one (map column_of ks)
      → Apart puts J Z one (map column_of news)
  apart_next unit ks ps news NoStep apart = tt
  apart_next unit ks ps news
      (MoreSteps {k = k} {ks = rest} {ps = qs} {news = more} is like steps) apart =
      (others rest qs more steps apart.0, apart_next unit rest qs more steps apart.1)
    where
      others : (ks : List Kept) (ps : List Point) (news : List Kept) → Steps unit ks ps news
          → Every (λ (other : Column). k.at ≡ other.at → ⊥) (map column_of ks)
          → Every (λ (other : Column). k.at ≡ other.at → ⊥) (map column_of news)
      others ks ps news NoStep all = tt
      others ks ps news (MoreSteps {ks = rest} {ps = qs} {news = more} is like steps) all =
          (all.0, others rest qs more steps all.1)

  owners_columns : (ks : List Kept) → AreOwners ks
      → Every (λ (column : Column). HasOwn puts J Z one column.at) (map column_of ks)
  owners_columns [] owns = tt
  owners_columns (k ∷ ks) owns = (owns.0, owners_columns ks owns.1)

  pub flat_goes : (units : List Nest) (number : ℕ) → Every UnitOf units → LoopsFirst units
      → (ks : List Kept) → Every (λ (k : Kept). HasOwn puts J Z one k.at) ks
      → Apart puts J Z one (map column_of ks) → (cur : Whole) → Stage cur ks
      → FlatTo number units ks (units_do n exprs units (map column_of ks) cur)
  flat_goes [] number of loops ks owns apart cur stage = FlatOn (all_end ks) (same ks stage)
    where
      all_end : (ks : List Kept) → Ends number [] ks (ended ks)
      all_end [] = NoEnd
      all_end (k ∷ ks) = MoreEnds refl (all_end ks)

      same : (ks : List Kept) → Stage cur ks → Stage cur (ended ks)
      same ks stage = subst (Stage cur) (sym (ended_same ks)) stage
  flat_goes (unit ∷ units) number of loops ks owns apart cur stage =
      by (all_told (unit_at n exprs unit cur) (map column_of ks))
      (sum_all cur stage.stays unit of.0 ks
      (near_all cur ks stage.stays owns stage.writes stage.own))
      (λ ps news steps next wrote.
      flat_goes units (number + length (members_of unit)) of.1 (behind_first units loops) news
      (owners_next unit ks ps news steps owns) (apart_next unit ks ps news steps apart) next
      (stage_next cur next unit ks ps news steps stage wrote))
    where
      written : (ps : List Point) (news : List Kept) → Steps unit ks ps news
          → ((next : Whole) → AllWrote puts J Z one (map column_of ks) ps cur next
          → FlatTo (number + length (members_of unit)) units news
          (units_do n exprs units (map column_of news) next))
          → (found : Option Whole) → all_written (map column_of ks) ps cur ≡ found
          → FlatTo number (unit ∷ units) ks
          (from_written found (λ next. units_do n exprs units
          (columns_behind (map column_of ks) ps) next))
      written ps news steps rest None is = FlatWrong
      written ps news steps rest (Some next) is =
          subst (λ columns. FlatTo number (unit ∷ units) ks (units_do n exprs units columns next))
          (sym (columns_next unit ks ps news steps))
          (further number unit units ks ps news steps
          (units_do n exprs units (map column_of news) next)
          (rest next (all_wrote puts J Z one (map column_of ks) ps cur next stage.placed
          (owners_columns ks owns) apart (logs_next unit ks ps news steps) is)))

      by : (told : AllTold) → Sum unit ks told
          → ((ps : List Point) (news : List Kept) → Steps unit ks ps news → (next : Whole)
          → AllWrote puts J Z one (map column_of ks) ps cur next
          → FlatTo (number + length (members_of unit)) units news
          (units_do n exprs units (map column_of news) next))
          → FlatTo number (unit ∷ units) ks
          (unit_does (unit_line unit) (map column_of ks) cur told
          (λ columns whole. units_do n exprs units columns whole))
      by told (SumFine {ps = ps} {news = news} steps) rest =
          written ps news steps (rest ps news steps) (all_written (map column_of ks) ps cur) refl
      by told (SumZero some none) rest =
          FlatZero number (unit_line unit) (inl (refl, refl)) (zero_from number unit units loops ks none)
          (zero_flag number unit units ks some)
      by told (SumWant some) rest = FlatMore (want_waits number unit units ks some)
      by told SumLost rest = FlatWrong
