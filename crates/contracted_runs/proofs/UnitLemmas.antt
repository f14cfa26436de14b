-- Units one after another, where cells take the place of arrays.
use Rattle.std.proofs.Common.{◌≡◌, refl, sym, ◌∙◌, ap, subst, arith, ℕ, ◌<◌, ◌≤◌}
use Rattle.std.proofs.Common.{Bool, true, false, List, [], ◌∷◌, map, ℤ, Option, Some, None}
use Rattle.std.proofs.Common.{eqb-true, inl, inr, true≢false}
use Rattle.std.specs.Prelude.{◌==◌, if◌then◌else◌, slice_get, slice_index_or, slice_set, ⊤}
use Rattle.zpl_region.proofs.ListLemmas.{Among}
use Rattle.row_runs.specs.Run.{Goes, Step, Stop, Stops, Wrong}
use Rattle.row_runs.specs.Straight.{Every}
use Rattle.node_form.specs.declared.tables.Tables.{Tables}
use Rattle.node_form.specs.Nest.{Nest, Nothing, Putting, Keeping, Joining, Choosing, ChoosingElse}
use Rattle.node_form.specs.Nest.{Looping, Repeating}
use Rattle.node_form.specs.Value.{Computed, Divides, Gives, Lacks}
use Rattle.nest_meaning.specs.Alike.{AreMasks, AreNests, AreTold, AreValues, BothFine, BothLost}
use Rattle.nest_meaning.specs.Alike.{BothNothing}
use Rattle.nest_meaning.specs.Alike.{BothWant, BothZero, Elses, Ifs, Leaves, Repeats, Whiles}
use Rattle.nest_meaning.specs.Nested.{Fine, Lost, Told, Wants, Zero, nested, then_do, with_state}
use Rattle.nest_meaning.specs.Nested.{with_value}
use Rattle.nest_meaning.specs.Units.{units_of}
use Rattle.nest_meaning.proofs.AlikeLemmas.{do_as_pairs}
use Rattle.normal_runs.specs.of_flat_form.Loop.{AllFine, AllTold, Column, Point, Puts, SomeLost, SomeWant}
use Rattle.normal_runs.specs.of_flat_form.Loop.{SomeZero}
use Rattle.normal_runs.specs.of_flat_form.Loop.{all_told, all_written, both_told}
use Rattle.normal_runs.specs.of_flat_form.Loop.{columns_behind, from_written, log_ways, logged, logging, unit_at}
use Rattle.normal_runs.specs.of_flat_form.Loop.{unit_does, unit_line, units_do}
use Rattle.normal_runs.specs.of_flat_form.Row.{Words}
use Rattle.normal_runs.specs.of_flat_form.Whole.{Whole}
use Rattle.normal_runs.proofs.of_flat_form.AgreeLemmas.{Agree}
use Rattle.fuse_contract.specs.Contracting.{word_contracted}
use Rattle.normal_runs.proofs.PlaceLemmas.{Apart, set_apart, set_length}
use Rattle.contracted_runs.proofs.PointLemmas.{ArePoints, IsOther, MaskFine, WordFine}
use Rattle.contracted_runs.proofs.PointLemmas.{drop_if}
use Rattle.contracted_runs.proofs.PointLemmas.{join_both, keep_both, masks_same, put_cell}
use Rattle.contracted_runs.proofs.PointLemmas.{put_others, same_number, set_within, values_same}
use Rattle.contracted_runs.proofs.PointLemmas.{without}
use Rattle.contracted_runs.proofs.WriteLemmas.{AllAreWritten, AreLogs, AreOwn, AreStates, Has}
use Rattle.contracted_runs.proofs.WriteLemmas.{all_alike, all_are_written}
use Rattle.contracted_runs.proofs.WriteLemmas.{value_of_array}

module _ (cell_of : ℕ → Option ℕ) where
  -- ---- a tree with cells
  abbrev pub put_or_keep : ℕ → ℕ → Option ℕ → ℕ → Option ℕ → Nest → Nest
  put_or_keep array expr mask line (Some cell) after = Keeping cell expr mask line after
  put_or_keep array expr mask line None after = Putting array expr mask line after

  abbrev pub nest_contracted : Nest → Nest
  nest_contracted Nothing = Nothing
  nest_contracted (Putting array expr mask line after) =
      put_or_keep array expr mask line (cell_of array) (nest_contracted after)
  nest_contracted (Keeping cell expr mask line after) =
      Keeping cell expr mask line (nest_contracted after)
  nest_contracted (Joining scalar fold expr mask line after) =
      Joining scalar fold expr mask line (nest_contracted after)
  nest_contracted (Choosing expr mask line body after) =
      Choosing expr mask line (nest_contracted body) (nest_contracted after)
  nest_contracted (ChoosingElse expr mask line body otherwise after) =
      ChoosingElse expr mask line (nest_contracted body) (nest_contracted otherwise)
      (nest_contracted after)
  nest_contracted (Looping expr mask line body after) =
      Looping expr mask line (nest_contracted body) (nest_contracted after)
  nest_contracted (Repeating mask line body until after) =
      Repeating mask line (nest_contracted body) until (nest_contracted after)

  pub units_contracted : (nest : Nest)
      → units_of (nest_contracted nest) ≡ map nest_contracted (units_of nest)
  units_contracted Nothing = refl
  units_contracted (Putting array expr mask line after) =
      by (cell_of array) (units_contracted after)
    where
      by : (found : Option ℕ)
          → units_of (nest_contracted after) ≡ map nest_contracted (units_of after)
          → units_of (put_or_keep array expr mask line found (nest_contracted after))
          ≡ put_or_keep array expr mask line found Nothing ∷ map nest_contracted (units_of after)
      by (Some cell) same = ap (λ us. Keeping cell expr mask line Nothing ∷ us) same
      by None same = ap (λ us. Putting array expr mask line Nothing ∷ us) same
  units_contracted (Keeping cell expr mask line after) =
      ap (λ us. Keeping cell expr mask line Nothing ∷ us) (units_contracted after)
  units_contracted (Joining scalar fold expr mask line after) =
      ap (λ us. Joining scalar fold expr mask line Nothing ∷ us) (units_contracted after)
  units_contracted (Choosing expr mask line body after) =
      ap (λ us. Choosing expr mask line (nest_contracted body) Nothing ∷ us)
      (units_contracted after)
  units_contracted (ChoosingElse expr mask line body otherwise after) =
      ap (λ us. ChoosingElse expr mask line (nest_contracted body) (nest_contracted otherwise)
      Nothing ∷ us) (units_contracted after)
  units_contracted (Looping expr mask line body after) =
      ap (λ us. Looping expr mask line (nest_contracted body) Nothing ∷ us)
      (units_contracted after)
  units_contracted (Repeating mask line body until after) =
      ap (λ us. Repeating mask line (nest_contracted body) until Nothing ∷ us)
      (units_contracted after)

  line_stays : (unit : Nest) → unit_line (nest_contracted unit) ≡ unit_line unit
  line_stays Nothing = refl
  line_stays (Putting array expr mask line after) = by (cell_of array)
    where
      by : (found : Option ℕ)
          → unit_line (put_or_keep array expr mask line found (nest_contracted after)) ≡ line
      by (Some cell) = refl
      by None = refl
  line_stays (Keeping cell expr mask line after) = refl
  line_stays (Joining scalar fold expr mask line after) = refl
  line_stays (Choosing expr mask line body after) = refl
  line_stays (ChoosingElse expr mask line body otherwise after) = refl
  line_stays (Looping expr mask line body after) = refl
  line_stays (Repeating mask line body until after) = refl

  -- ---- What is asked of a tree, where some arrays are begun: those that are cells are read where
  -- they are begun alone, never with a shift, and their cells are there.
  module _ (old new : ℕ) (exprs : List Words) (IsPut : ℕ → Type 0) where
    abbrev pub ExprIsFine : List ℕ → ℕ → Type 0
    ExprIsFine begun expr =
        Every (WordFine cell_of old new (Among begun)) (slice_index_or exprs expr [])

    abbrev pub MaskIsFine : List ℕ → Option ℕ → Type 0
    MaskIsFine begun None = ⊤
    MaskIsFine begun (Some mask) = ExprIsFine begun mask

    abbrev pub PutIsFine : ℕ → Type 0
    PutIsFine array = (cell : ℕ) → cell_of array ≡ Some cell → cell < new

    abbrev pub NestIsFine : List ℕ → Nest → Type 0
    NestIsFine begun Nothing = ⊤
    NestIsFine begun (Putting array expr mask line after) =
        MaskIsFine begun mask × ExprIsFine begun expr × PutIsFine array × NestIsFine begun after
    NestIsFine begun (Keeping cell expr mask line after) =
        MaskIsFine begun mask × ExprIsFine begun expr × (cell < old) × NestIsFine begun after
    NestIsFine begun (Joining scalar fold expr mask line after) =
        MaskIsFine begun mask × ExprIsFine begun expr × NestIsFine begun after
    NestIsFine begun (Choosing expr mask line body after) =
        MaskIsFine begun mask × ExprIsFine begun expr × NestIsFine begun body
        × NestIsFine begun after
    NestIsFine begun (ChoosingElse expr mask line body otherwise after) =
        MaskIsFine begun mask × ExprIsFine begun expr × NestIsFine begun body
        × NestIsFine begun otherwise × NestIsFine begun after
    NestIsFine begun (Looping expr mask line body after) =
        MaskIsFine begun mask × ExprIsFine begun expr × NestIsFine begun body
        × NestIsFine begun after
    NestIsFine begun (Repeating mask line body until after) =
        MaskIsFine begun mask × ExprIsFine begun until × NestIsFine begun body
        × NestIsFine begun after

    -- a unit that is a put without a mask begins its array
    pub data UnitsFine : List ℕ → List Nest → Type 0 where
      NoneFine : {begun : List ℕ} → UnitsFine begun []
      BeginFine : {begun : List ℕ} {units : List Nest} {array expr line cell : ℕ}
          → cell_of array ≡ Some cell → cell < new → IsPut array → ExprIsFine begun expr
          → UnitsFine (array ∷ begun) units
          → UnitsFine begun (Putting array expr None line Nothing ∷ units)
      OtherFine : {begun : List ℕ} {unit : Nest} {units : List Nest} → NestIsFine begun unit
          → UnitsFine begun units → UnitsFine begun (unit ∷ units)

    module _ (tables other : Tables)
        (apart : (a b cell : ℕ) → cell_of a ≡ Some cell → cell_of b ≡ Some cell → a ≡ b)
        (above : (a cell : ℕ) → cell_of a ≡ Some cell → old ≤ cell) where
      abbrev exprs' : List Words
      exprs' = map (map (word_contracted cell_of)) exprs

      abbrev Like_at : List ℕ → Whole → List ℤ → Point → Point → Type 0
      Like_at begun s t =
          ArePoints cell_of old new (Among begun) (λ array. value_of_array s array t)

      -- ---- a tree at a tuple
      module _ (begun : List ℕ) (s s' : Whole) (agree : Agree tables other (IsOther cell_of) s s')
          (t : List ℤ) where
        abbrev IsLike : Point → Point → Type 0
        IsLike = Like_at begun s t

        masks : (mask : Option ℕ) → MaskIsFine begun mask
            → AreMasks IsLike (log_ways exprs s t) (log_ways exprs' s' t) mask mask
        masks mask fine =
            masks_same cell_of old new (Among begun) tables other s s' agree t exprs mask
            (by mask fine)
          where
            by : (m : Option ℕ) → MaskIsFine begun m
                → MaskFine cell_of old new (Among begun) tables
                other s s' agree t exprs m
            by None fine = tt
            by (Some m) fine = fine

        abbrev Trees : Nest → Nest → Type 0
        Trees = AreNests IsLike (log_ways exprs s t) (log_ways exprs' s' t)

        trees_alike : (nest : Nest) → NestIsFine begun nest → Trees nest (nest_contracted nest)
        trees_alike Nothing fine = BothNothing
        trees_alike (Putting array expr mask line after) fine =
            by (cell_of array) refl (trees_alike after fine.3)
          where
            values : AreValues IsLike (log_ways exprs s t) (log_ways exprs' s' t) expr expr
            values =
                values_same cell_of old new (Among begun) tables other s s' agree t exprs expr
                fine.1

            by : (found : Option ℕ) → cell_of array ≡ found → Trees after (nest_contracted after)
                → Trees (Putting array expr mask line after)
                (put_or_keep array expr mask line found (nest_contracted after))
            by None none more =
                Leaves line line (masks mask fine.0) values
                (put_others cell_of old new (Among begun) tables other s s' agree t exprs apart
                above
                array none) more
            by (Some cell) is more =
                Leaves line line (masks mask fine.0) values
                (put_cell cell_of old new (Among begun) tables other s s' agree t exprs apart above
                array cell is (fine.2 cell is)) more
        trees_alike (Keeping cell expr mask line after) fine =
            Leaves line line (masks mask fine.0)
            (values_same cell_of old new (Among begun) tables other s s' agree t exprs expr fine.1)
            (keep_both cell_of old new (Among begun) tables other s s' agree t exprs apart above
            cell fine.2) (trees_alike after fine.3)
        trees_alike (Joining scalar fold expr mask line after) fine =
            Leaves line line (masks mask fine.0)
            (values_same cell_of old new (Among begun) tables other s s' agree t exprs expr fine.1)
            (join_both cell_of old new (Among begun) tables other s s' agree t exprs apart above
            scalar fold) (trees_alike after fine.2)
        trees_alike (Choosing expr mask line body after) fine =
            Ifs (masks mask fine.0)
            (values_same cell_of old new (Among begun) tables other s s' agree t exprs expr fine.1)
            (trees_alike body fine.2) (trees_alike after fine.3)
        trees_alike (ChoosingElse expr mask line body otherwise after) fine =
            Elses (masks mask fine.0)
            (values_same cell_of old new (Among begun) tables other s s' agree t exprs expr fine.1)
            (trees_alike body fine.2) (trees_alike otherwise fine.3) (trees_alike after fine.4)
        trees_alike (Looping expr mask line body after) fine =
            Whiles (masks mask fine.0)
            (values_same cell_of old new (Among begun) tables other s s' agree t exprs expr fine.1)
            (trees_alike body fine.2) (trees_alike after fine.3)
        trees_alike (Repeating mask line body until after) fine =
            Repeats (masks mask fine.0)
            (values_same cell_of old new (Among begun) tables other s s' agree t exprs until fine.1)
            (trees_alike body fine.2) (trees_alike after fine.3)

      -- ---- what is told at a tuple
      data ToldAlike (IsLike : Point → Point → Type 0) : Told Point → Told Point → Type 0 where
        FineAlike : {p q : Point} → IsLike p q → ToldAlike IsLike (Fine p) (Fine q)
        ZeroAlike : {p q : Point} → ToldAlike IsLike (Zero p) (Zero q)
        WantAlike : ToldAlike IsLike Wants Wants
        LostAlike : ToldAlike IsLike Lost Lost

      told_alike : (IsLike : Point → Point → Type 0) (a b : Told Point) → AreTold IsLike a b
          → ToldAlike IsLike a b
      told_alike IsLike a b (BothFine like) = FineAlike like
      told_alike IsLike a b (BothZero like) = ZeroAlike
      told_alike IsLike a b BothWant = WantAlike
      told_alike IsLike a b BothLost = LostAlike

      tree_told : (n : ℕ) (begun : List ℕ) (s s' : Whole)
          → Agree tables other (IsOther cell_of) s s' → (t : List ℤ) (nest : Nest)
          → NestIsFine begun nest → (p q : Point) → Like_at begun s t p q
          → ToldAlike (Like_at begun s t) (nested (log_ways exprs s t) n nest p)
          (nested (log_ways exprs' s' t) n (nest_contracted nest) q)
      tree_told n begun s s' agree t nest fine p q like =
          told_alike (Like_at begun s t) (nested (log_ways exprs s t) n nest p)
          (nested (log_ways exprs' s' t) n (nest_contracted nest) q)
          (do_as_pairs (Like_at begun s t) (log_ways exprs s t) (log_ways exprs' s' t) n nest
          (nest_contracted nest) (trees_alike begun s s' agree t nest fine) p q like)

      -- ---- a put that begins its array
      begin_like : (begun : List ℕ) (s s' : Whole) (agree : Agree tables other
          (IsOther cell_of) s s')
          (t : List ℤ) (array cell : ℕ) → cell_of array ≡ Some cell → cell < new → (v : ℤ)
          (p q : Point) → Like_at begun s t p q
          → Like_at (array ∷ begun) s t (logging (Puts array v) p)
          (record q { cells = slice_set q.cells cell v })
      begin_like begun s s' agree t array cell is below v p q like = record {
        cells = λ k less. like.cells k less
            ∙ sym (set_apart q.cells cell k v
            (λ same. omega (arith, same, less, above array cell is)));
        long = set_length q.cells cell v ∙ like.long;
        logs = like.logs
            ∙ ap (λ found. drop_if cell_of found (Puts array v) (without cell_of p.log)) (sym is);
        held = λ kept number begins has. by kept number begins has (array == kept) refl;
      }
        where
          some_is : {a b : ℕ} → Some a ≡ Some b → a ≡ b
          some_is e = cc

          by : (kept number : ℕ) → Among (array ∷ begun) kept → cell_of kept ≡ Some number
              → (b : Bool) → (array == kept) ≡ b
              → (if b then Some v else logged p.log kept (value_of_array s kept t))
              ≡ slice_get (slice_set q.cells cell v) number
          by kept number begins has true e =
              let same : array ≡ kept = eqb-true array kept e in
              let one : cell ≡ number = some_is (sym is ∙ (ap cell_of same ∙ has)) in
              sym (set_within q.cells cell v (omega (arith, below, like.long)))
              ∙ ap (slice_get (slice_set q.cells cell v)) one
          by kept number (inl same) has false e =
              absurd (true≢false (sym (same_number array)
              ∙ (ap (λ k. array == k) same ∙ e)))
          by kept number (inr before) has false e =
              like.held kept number before has
              ∙ sym (set_apart q.cells cell number v
              (λ same. true≢false (sym (same_number array)
              ∙ (ap (λ b. array == b) (apart array kept cell is (has ∙ ap Some (sym same))) ∙ e))))

      begin_told : (n : ℕ) (begun : List ℕ) (s s' : Whole)
          (agree : Agree tables other (IsOther cell_of) s s') (t : List ℤ)
          (array expr line cell : ℕ) → cell_of array ≡ Some cell → cell < new
          → ExprIsFine begun expr → (p q : Point) → Like_at begun s t p q
          → ToldAlike (Like_at (array ∷ begun) s t)
          (nested (log_ways exprs s t) n (Putting array expr None line Nothing) p)
          (nested (log_ways exprs' s' t) n
          (nest_contracted (Putting array expr None line Nothing)) q)
      begin_told n begun s s' agree t array expr line cell is below fine p q like =
          subst (λ found. ToldAlike (Like_at (array ∷ begun) s t)
          (nested (log_ways exprs s t) n (Putting array expr None line Nothing) p)
          (nested (log_ways exprs' s' t) n (put_or_keep array expr None line found Nothing) q))
          (sym is)
          (subst (λ value. ToldAlike (Like_at (array ∷ begun) s t)
          (then_do (λ p. Fine p) (with_value p ((log_ways exprs s t).value p expr)
          (λ v. with_state (Some (logging (Puts array v) p)))))
          (then_do (λ q. Fine q) (with_value q value
          (λ v. with_state (Some (record q { cells = slice_set q.cells cell v })))))) same
          (by ((log_ways exprs s t).value p expr)))
        where
          same : (log_ways exprs s t).value p expr ≡ (log_ways exprs' s' t).value q expr
          same =
              (values_same cell_of old new (Among begun) tables other s s' agree t exprs expr
              fine).same p q like

          by : (value : Computed ℤ) → ToldAlike (Like_at (array ∷ begun) s t)
              (then_do (λ p. Fine p) (with_value p value
              (λ v. with_state (Some (logging (Puts array v) p)))))
              (then_do (λ q. Fine q) (with_value q value
              (λ v. with_state (Some (record q { cells = slice_set q.cells cell v })))))
          by (Gives v) =
              FineAlike (begin_like begun s s' agree t array cell is below v p q like)
          by Divides = ZeroAlike
          by Lacks = LostAlike

      -- ---- columns: tuples with their cells
      abbrev pub ColumnsAlike : List ℕ → Whole → List Column → List Column → Type 0
      ColumnsAlike begun s (column ∷ columns) (one ∷ ones) =
          (one.at ≡ column.at)
          × Like_at begun s column.at (record { cells = column.cells; log = [] })
          (record { cells = one.cells; log = [] })
          × ColumnsAlike begun s columns ones
      ColumnsAlike begun s [] [] = ⊤
      ColumnsAlike begun s [] (one ∷ ones) = ⊥
      ColumnsAlike begun s (column ∷ columns) [] = ⊥

      abbrev PointsAlike : List ℕ → Whole → List Column → List Point → List Point → Type 0
      PointsAlike begun s (column ∷ columns) (p ∷ ps) (q ∷ qs) =
          Like_at begun s column.at p q × PointsAlike begun s columns ps qs
      PointsAlike begun s [] [] [] = ⊤
      PointsAlike begun s columns ps qs = ⊥

      data AllAlike (begun : List ℕ) (s : Whole) (columns : List Column)
          : AllTold → AllTold → Type 0 where
        AllFineAlike : {ps qs : List Point} → PointsAlike begun s columns ps qs
            → AllAlike begun s columns (AllFine ps) (AllFine qs)
        AllZeroAlike : AllAlike begun s columns SomeZero SomeZero
        AllWantAlike : AllAlike begun s columns SomeWant SomeWant
        AllLostAlike : AllAlike begun s columns SomeLost SomeLost

      one_more : (begun : List ℕ) (s : Whole) (column : Column) (columns : List Column)
          (a b : Told Point) (rest others : AllTold) → ToldAlike (Like_at begun s column.at) a b
          → AllAlike begun s columns rest others
          → AllAlike begun s (column ∷ columns) (both_told a rest) (both_told b others)
      one_more begun s column columns a b rest others (FineAlike like) (AllFineAlike all) =
          AllFineAlike (like, all)
      one_more begun s column columns a b rest others (FineAlike like) AllZeroAlike = AllZeroAlike
      one_more begun s column columns a b rest others (FineAlike like) AllWantAlike = AllWantAlike
      one_more begun s column columns a b rest others (FineAlike like) AllLostAlike = AllLostAlike
      one_more begun s column columns a b rest others ZeroAlike (AllFineAlike all) = AllZeroAlike
      one_more begun s column columns a b rest others ZeroAlike AllZeroAlike = AllZeroAlike
      one_more begun s column columns a b rest others ZeroAlike AllWantAlike = AllWantAlike
      one_more begun s column columns a b rest others ZeroAlike AllLostAlike = AllLostAlike
      one_more begun s column columns a b rest others WantAlike (AllFineAlike all) = AllWantAlike
      one_more begun s column columns a b rest others WantAlike AllZeroAlike = AllWantAlike
      one_more begun s column columns a b rest others WantAlike AllWantAlike = AllWantAlike
      one_more begun s column columns a b rest others WantAlike AllLostAlike = AllLostAlike
      one_more begun s column columns a b rest others LostAlike all = AllLostAlike

      all_told_alike : (n : ℕ) (begun after : List ℕ) (s s' : Whole) (unit unit' : Nest)
          → ((t : List ℤ) (p q : Point) → Like_at begun s t p q
          → ToldAlike (Like_at after s t) (nested (log_ways exprs s t) n unit p)
          (nested (log_ways exprs' s' t) n unit' q))
          → (columns ones : List Column) → ColumnsAlike begun s columns ones
          → AllAlike after s columns (all_told (unit_at n exprs unit s) columns)
          (all_told (unit_at n exprs' unit' s') ones)
      all_told_alike n begun after s s' unit unit' told [] [] alike = AllFineAlike tt
      all_told_alike n begun after s s' unit unit' told [] (one ∷ ones) alike = absurd alike
      all_told_alike n begun after s s' unit unit' told (column ∷ columns) [] alike = absurd alike
      all_told_alike n begun after s s' unit unit' told (column ∷ columns) (one ∷ ones) alike =
          one_more after s column columns (unit_at n exprs unit s column)
          (unit_at n exprs' unit' s' one) (all_told (unit_at n exprs unit s) columns)
          (all_told (unit_at n exprs' unit' s') ones)
          (subst (λ t. ToldAlike (Like_at after s column.at) (unit_at n exprs unit s column)
          (nested (log_ways exprs' s' t) n unit' (record { cells = one.cells; log = [] })))
          (sym alike.0)
          (told column.at (record { cells = column.cells; log = [] })
          (record { cells = one.cells; log = [] }) alike.1))
          (all_told_alike n begun after s s' unit unit' told columns ones alike.2)

      -- ---- behind a unit
      logs_alike : (begun after : List ℕ) (s : Whole) (columns ones : List Column)
          (ps qs : List Point) → ColumnsAlike begun s columns ones
          → PointsAlike after s columns ps qs → AreLogs cell_of tables other columns ones ps qs
      logs_alike begun after s [] [] [] [] alike all = tt
      logs_alike begun after s (column ∷ columns) (one ∷ ones) (p ∷ ps) (q ∷ qs) alike all =
          (alike.0, all.0.logs, logs_alike begun after s columns ones ps qs alike.2 all.1)
      logs_alike begun after s [] (one ∷ ones) ps qs alike all = absurd alike
      logs_alike begun after s (column ∷ columns) [] ps qs alike all = absurd alike
      logs_alike begun after s [] [] [] (q ∷ qs) alike all = absurd all
      logs_alike begun after s [] [] (p ∷ ps) qs alike all = absurd all
      logs_alike begun after s (column ∷ columns) (one ∷ ones) [] qs alike all = absurd all
      logs_alike begun after s (column ∷ columns) (one ∷ ones) (p ∷ ps) [] alike all = absurd all

      behind_alike : (begun after : List ℕ) (s next : Whole) (columns ones : List Column)
          (ps qs : List Point) → ColumnsAlike begun s columns ones
          → PointsAlike after s columns ps qs
          → ((array : ℕ) → Among after array → (cell : ℕ) → cell_of array ≡ Some cell
          → AreOwn array (map (λ (c : Column). c.at) columns) s next columns ps)
          → ColumnsAlike after next (columns_behind columns ps) (columns_behind ones qs)
      behind_alike begun after s next [] [] [] [] alike all own = tt
      behind_alike begun after s next (column ∷ columns) (one ∷ ones) (p ∷ ps)
          (q ∷ qs) alike all own = (
            alike.0,
            record {
              cells = all.0.cells;
              long = all.0.long;
              logs = refl;
              held = λ array cell begins is.
                  (own array begins cell is).0 ∙ all.0.held array cell begins is;
            },
            behind_alike begun after s next columns ones ps qs alike.2 all.1
                (λ array begins cell is. (own array begins cell is).1),
          )
      behind_alike begun after s next [] (one ∷ ones) ps qs alike all own = absurd alike
      behind_alike begun after s next (column ∷ columns) [] ps qs alike all own = absurd alike
      behind_alike begun after s next [] [] [] (q ∷ qs) alike all own = absurd all
      behind_alike begun after s next [] [] (p ∷ ps) qs alike all own = absurd all
      behind_alike begun after s next (column ∷ columns) (one ∷ ones) [] qs alike all own = absurd
          all
      behind_alike begun after s next (column ∷ columns) (one ∷ ones) (p ∷ ps) [] alike all own =
          absurd all

      -- the tuples stay
      same_ats : (begun : List ℕ) (s : Whole) (columns : List Column) (ps qs : List Point)
          → PointsAlike begun s columns ps qs
          → map (λ (column : Column). column.at) (columns_behind columns ps)
          ≡ map (λ (column : Column). column.at) columns
      same_ats begun s [] [] [] all = refl
      same_ats begun s (column ∷ columns) (p ∷ ps) (q ∷ qs) all =
          ap (λ rest. column.at ∷ rest) (same_ats begun s columns ps qs all.1)
      same_ats begun s [] [] (q ∷ qs) all = absurd all
      same_ats begun s [] (p ∷ ps) qs all = absurd all
      same_ats begun s (column ∷ columns) [] qs all = absurd all
      same_ats begun s (column ∷ columns) (p ∷ ps) [] all = absurd all

      -- ---- units
      module _ (n : ℕ) (ts : List (List ℤ)) (ts_apart : Apart ts) where
        -- arrays that are cells and are put here have places of their own
        abbrev pub ArePlaced : Whole → Type 0
        ArePlaced s = (array cell : ℕ) → cell_of array ≡ Some cell → IsPut array → Has array ts s

        pub data StepsAlike : Step Whole → Step Whole → Type 0 where
          WasWrong : {step : Step Whole} → StepsAlike (Stops Wrong) step
          BothStop : {stop : Stop} → StepsAlike (Stops stop) (Stops stop)
          BothGo : {bytes : List ℕ} {s s' : Whole} → AreStates cell_of tables other s s'
              → StepsAlike (Goes bytes s) (Goes bytes s')

        some_is : {X : Type 0} {x y : X} → Some x ≡ Some y → x ≡ y
        some_is e = cc

        inside : (us : List (List ℤ)) (columns : List Column)
            → map (λ (column : Column). column.at) columns ≡ us
            → Every (λ (column : Column). Among us column.at) columns
        inside us columns e = subst (λ vs. Every (λ (column : Column). Among vs column.at)
            columns) e
            (all columns)
          where
            more : (u : List ℤ) (vs : List (List ℤ)) (columns : List Column)
                → Every (λ (column : Column). Among vs column.at) columns
                → Every (λ (column : Column). Among (u ∷ vs) column.at) columns
            more u vs [] every = tt
            more u vs (column ∷ columns) every = (inr every.0, more u vs columns every.1)

            all : (columns : List Column) → Every (λ (column : Column).
                Among (map (λ (column : Column). column.at) columns) column.at) columns
            all [] = tt
            all (column ∷ columns) = (
              inl refl,
              more column.at (map (λ (column : Column). column.at) columns) columns (all columns),
            )

        -- what is written, and what is run behind it
        written_alike : (begun after : List ℕ) (columns ones : List Column) (s s' : Whole)
            (ps qs : List Point)
            → AreStates cell_of tables other s s' → ArePlaced s
            → map (λ (column : Column). column.at) columns ≡ ts
            → ((array : ℕ) → Among after array → IsPut array)
            → ColumnsAlike begun s columns ones → PointsAlike after s columns ps qs
            → (next next' : List Column → Whole → Step Whole)
            → ((columns ones : List Column) (s s' : Whole) → AreStates cell_of tables other s s'
            → ArePlaced s → map (λ (column : Column). column.at) columns ≡ ts
            → ColumnsAlike after s columns ones
            → StepsAlike (next columns s) (next' ones s'))
            → StepsAlike (from_written (all_written columns ps s) (next
            (columns_behind columns ps)))
            (from_written (all_written ones qs s') (next' (columns_behind ones qs)))
        written_alike begun after columns ones s s' ps qs alike placed same puts both all next next'
            more =
            by (all_written columns ps s) refl
          where
            by : (found : Option Whole) → all_written columns ps s ≡ found
                → StepsAlike (from_written found (next (columns_behind columns ps)))
                (from_written (all_written ones qs s') (next' (columns_behind ones qs)))
            by None e = WasWrong
            by (Some w) e =
                let there = all_alike cell_of tables other columns ones ps qs s s' w
                (logs_alike begun after s columns ones ps qs both all) alike e in
                let each : (array cell : ℕ) → cell_of array ≡ Some cell → IsPut array
                → AllAreWritten array ts columns ps s w =
                λ array cell is put. all_are_written array ts columns ps s w
                (placed array cell is put)
                (inside ts columns same) (subst Apart (sym same) ts_apart) e in
                subst (λ o. StepsAlike (next (columns_behind columns ps) w)
                (from_written o (next' (columns_behind ones qs)))) (sym there.is)
                (more (columns_behind columns ps) (columns_behind ones qs) w there.state there.alike
                (λ array cell is put. (each array cell is put).has)
                (same_ats after s columns ps qs all ∙ same)
                (behind_alike begun after s w columns ones ps qs both all
                (λ array begins cell is. (each array cell is (puts array begins)).own)))

        told_does : (begun after : List ℕ) (line : ℕ) (columns ones : List Column) (s s' : Whole)
            (a b : AllTold)
            → AreStates cell_of tables other s s' → ArePlaced s
            → map (λ (column : Column). column.at) columns ≡ ts
            → ((array : ℕ) → Among after array → IsPut array)
            → ColumnsAlike begun s columns ones → AllAlike after s columns a b
            → (next next' : List Column → Whole → Step Whole)
            → ((columns ones : List Column) (s s' : Whole) → AreStates cell_of tables other s s'
            → ArePlaced s → map (λ (column : Column). column.at) columns ≡ ts
            → ColumnsAlike after s columns ones
            → StepsAlike (next columns s) (next' ones s'))
            → StepsAlike (unit_does line columns s a next) (unit_does line ones s' b next')
        told_does begun after line columns ones s s' a b alike placed same puts both
            (AllFineAlike {ps = ps} {qs = qs} all) next next' more =
            written_alike begun after columns ones s s' ps qs alike placed same puts both all next
            next' more
        told_does begun after line columns ones s s' a b alike placed same puts both AllZeroAlike
            next
            next' more = BothStop
        told_does begun after line columns ones s s' a b alike placed same puts both AllWantAlike
            next
            next' more = BothStop
        told_does begun after line columns ones s s' a b alike placed same puts both AllLostAlike
            next
            next' more = WasWrong

        pub units_alike : (begun : List ℕ) (units : List Nest) → UnitsFine begun units
            → ((array : ℕ) → Among begun array → IsPut array)
            → (columns ones : List Column) (s s' : Whole) → AreStates cell_of tables other s s'
            → ArePlaced s → map (λ (column : Column). column.at) columns ≡ ts
            → ColumnsAlike begun s columns ones
            → StepsAlike (units_do n exprs units columns s)
            (units_do n exprs' (map nest_contracted units) ones s')
        units_alike begun [] NoneFine puts columns ones s s' alike placed same both = BothGo alike
        units_alike begun (_ ∷ _)
            (BeginFine {units = units} {array = array} {expr = expr} {line = line} {cell = cell} is
            below put fine rest) puts columns ones s s' alike placed same both =
            let unit = Putting array expr None line Nothing in
            let all_put : (k : ℕ) → Among (array ∷ begun) k → IsPut k =
            λ k among. first k among in
            subst (λ at. StepsAlike (units_do n exprs (unit ∷ units) columns s)
            (unit_does at ones s' (all_told (unit_at n exprs' (nest_contracted unit) s') ones)
            (λ columns whole. units_do n exprs' (map nest_contracted units) columns whole)))
            (sym (line_stays unit))
            (told_does begun (array ∷ begun) line columns ones s s'
            (all_told (unit_at n exprs unit s) columns)
            (all_told (unit_at n exprs' (nest_contracted unit) s') ones) alike placed same all_put
            both
            (all_told_alike n begun (array ∷ begun) s s' unit (nest_contracted unit)
            (λ t p q like. begin_told n begun s s' alike.agree t array expr line cell is below
            fine p q
            like) columns ones both)
            (λ columns whole. units_do n exprs units columns whole)
            (λ columns whole. units_do n exprs' (map nest_contracted units) columns whole)
            (units_alike (array ∷ begun) units rest all_put))
          where
            first : (k : ℕ) → Among (array ∷ begun) k → IsPut k
            first k (inl same) = subst IsPut same put
            first k (inr before) = puts k before
        units_alike begun (_ ∷ _) (OtherFine {unit = unit} {units = units} fine rest) puts columns
            ones
            s s' alike placed same both =
            subst (λ at. StepsAlike (units_do n exprs (unit ∷ units) columns s)
            (unit_does at ones s' (all_told (unit_at n exprs' (nest_contracted unit) s') ones)
            (λ columns whole. units_do n exprs' (map nest_contracted units) columns whole)))
            (sym (line_stays unit))
            (told_does begun begun (unit_line unit) columns ones s s'
            (all_told (unit_at n exprs unit s) columns)
            (all_told (unit_at n exprs' (nest_contracted unit) s') ones) alike placed same puts both
            (all_told_alike n begun begun s s' unit (nest_contracted unit)
            (λ t p q like. tree_told n begun s s' alike.agree t unit fine p q like) columns ones
            both)
            (λ columns whole. units_do n exprs units columns whole)
            (λ columns whole. units_do n exprs' (map nest_contracted units) columns whole)
            (units_alike begun units rest puts))
