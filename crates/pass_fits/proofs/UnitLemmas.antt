-- Plans fit where their units do.
use Rattle.std.proofs.Common.{◌≡◌, refl, sym, ap, ◌∙◌, subst, arith, ℕ, zero, suc, ◌+◌, ◌-◌, ◌<◌, ◌≤◌}
use Rattle.std.proofs.Common.{true, false, true≢false, List, [], ◌∷◌, ◌++◌, length}
use Rattle.std.proofs.Common.{length-append}
use Rattle.std.specs.Prelude.{Option, Some, None, flat_map, slice_get}
use Rattle.std.specs.Option.{option_map}
use Rattle.std.specs.List.{AllByRecursion}
use Rattle.std.proofs.lemmas.Grind.{flat_map-append}
use Rattle.std.proofs.lemmas.List.Elements.{All-from_recursion, recursion_from_All}
use Rattle.row_runs.specs.Segments.{Segment, news}
use Rattle.row_runs.specs.Cut.{Stretch, all_rows, as_list, moved_by, relocated, rows_of}
use Rattle.row_runs.specs.Cut.{segments_by}
use Rattle.row_runs.proofs.CutLemmas.{cut_rows}
use Rattle.node_form.specs.declared.arrays.Item.{Item}
use Rattle.node_form.specs.declared.instructions.Instr.{Instr}
use Rattle.node_form.specs.declared.instructions.Instr.TheVariants as instr
use Rattle.node_form.specs.declared.tables.Tables.{Tables}
use Rattle.node_form.specs.Fits.{Fits, FitsExchange, FitsInstr, FitsItem}
use Rattle.node_form.proofs.GrowthLemmas.{Fits-exchange-row}
use Rattle.code_parts.specs.Stretch.{ends_stretch, is_goal}
use Rattle.code_parts.specs.Uses.{rows_or_none}
use Rattle.pass_parts.specs.of_flat_passes.Rewritten.{stretches_of, with_moved_goal}
use Rattle.pass_parts.proofs.of_flat_passes.StretchLemmas.{HoldsOf, IsCut, all_cut, every_append, news_hold}
use Rattle.pass_parts.specs.of_plan_form.Units.{PlanUnit, Exchange, Single, PlanRow, StartOf, FinishOf, Other}
use Rattle.pass_parts.specs.of_plan_form.Units.{exchanges_in, laid_out, numbered_from, unit_of, unit_rows}
use Rattle.pass_parts.specs.of_plan_form.Units.{units_of}
use Rattle.pass_parts.specs.of_plan_form.Rewrite.{ended_by, rows_by, with_units}
use Rattle.pass_fits.proofs.SameLemmas.{FitsSingle, exchange_same, fits_replanned, single_fits}

-- an exchange of items that fit, or another row, with its goal among so many rows
abbrev pub FitsUnit : Tables → ℕ → PlanUnit → Type 0
FitsUnit old end (Exchange items) = AllByRecursion (FitsItem old) items
FitsUnit old end (Single row) = FitsSingle old end row

-- ---- rows by numbers
numbered_length : (n : ℕ) (rows : List PlanRow) → length (numbered_from n rows) ≡ length rows
numbered_length n [] = refl
numbered_length n (StartOf items ∷ rows) = omega (arith, numbered_length (n + 1) rows)
numbered_length n (FinishOf items ∷ rows) = omega (arith, numbered_length n rows)
numbered_length n (Other row ∷ rows) = omega (arith, numbered_length n rows)

module _ (old : Tables) (all : List PlanUnit) where
  abbrev rows_laid : List PlanRow
  rows_laid = flat_map unit_rows all

  abbrev laid : Tables
  laid = laid_out old rows_laid

  exchanges_fit : (end : ℕ) (units : List PlanUnit) → AllByRecursion (FitsUnit old end) units
      → AllByRecursion (FitsExchange laid) (exchanges_in (flat_map unit_rows units))
  exchanges_fit end [] fit = tt
  exchanges_fit end (Exchange items ∷ units) fit = (
    exchange_same old (exchanges_in rows_laid) (numbered_from 0 rows_laid) items fit.0,
    exchanges_fit end units fit.1,
  )
  exchanges_fit end (Single row ∷ units) fit = exchanges_fit end units fit.1

  rows_fit : (n : ℕ) (units : List PlanUnit)
      → n + length (exchanges_in (flat_map unit_rows units)) ≤ length (exchanges_in rows_laid)
      → AllByRecursion (FitsUnit old (length (numbered_from 0 rows_laid))) units
      → AllByRecursion (FitsInstr laid) (numbered_from n (flat_map unit_rows units))
  rows_fit n [] within fit = tt
  rows_fit n (Exchange items ∷ units) within fit =
      let start : n < length (exchanges_in rows_laid) = omega (arith, within) in
      let finish : n + 1 - 1 < length (exchanges_in rows_laid) = omega (arith, within) in (
        record { rank = 0; fit = start },
        (record { rank = 0; fit = finish }, rows_fit (n + 1) units (omega (arith, within)) fit.1),
      )
  rows_fit n (Single row ∷ units) within fit = (
    single_fits old (exchanges_in rows_laid) (numbered_from 0 rows_laid) row fit.0,
    rows_fit n units within fit.1,
  )

  pub laid_fits : Fits old → AllByRecursion (FitsUnit old (length rows_laid)) all → Fits laid
  laid_fits fits fit =
      let long : length rows_laid ≡ length (numbered_from 0 rows_laid) =
      sym (numbered_length 0 rows_laid) in
      let there : AllByRecursion (FitsUnit old (length (numbered_from 0 rows_laid))) all =
      subst (λ end. AllByRecursion (FitsUnit old end) all) long fit in
      fits_replanned old (exchanges_in rows_laid) (numbered_from 0 rows_laid) fits
      (All-from_recursion (FitsExchange laid) (exchanges_in rows_laid)
      (exchanges_fit (length rows_laid) all fit))
      (All-from_recursion (FitsInstr laid) (numbered_from 0 rows_laid)
      (rows_fit 0 all (omega arith) there))

-- ---- where rows come to stand
moved_less : {Old New : Type 0} (segments : List (Segment Old New)) (g : ℕ)
    → relocated segments g ≤ length (news segments)
moved_less [] g = omega arith
moved_less (segment ∷ segments) zero = omega arith
moved_less (segment ∷ segments) (suc g) =
    omega (
      arith,
      length-append segment.new (news segments),
      moved_less segments (suc g - length segment.old),
    )

abbrev ended_unit : (ℕ → ℕ) → Instr → PlanUnit
ended_unit moved row = Single (with_moved_goal moved row)

-- rows by units, whatever the numbers of rows are
module _ (tables : Tables) (rewrite : List PlanUnit → List PlanUnit) where
  abbrev units_by : List Instr → List PlanUnit
  units_by rows = rewrite (units_of tables rows)

  last_rows : (moved : ℕ → ℕ) (last : Option Instr)
      → as_list (option_map (ended_by moved) last)
      ≡ flat_map unit_rows (as_list (option_map (ended_unit moved) last))
  last_rows moved None = refl
  last_rows moved (Some row) = refl

  by_units : (moved : ℕ → ℕ) (stretches : List (Stretch Instr))
      → news (segments_by (rows_by tables rewrite) ended_by moved stretches)
      ≡ flat_map unit_rows (news (segments_by units_by ended_unit moved stretches))
  by_units moved [] = refl
  by_units moved (stretch ∷ stretches) =
      let front : List PlanUnit = units_by stretch.front in
      let last : List PlanUnit = as_list (option_map (ended_unit moved) stretch.last) in
      let later : List PlanUnit = news (segments_by units_by ended_unit moved stretches) in
      sym (flat_map-append unit_rows (front ++ last) later
      ∙ (ap (λ rows. rows ++ flat_map unit_rows later)
      (flat_map-append unit_rows front last
      ∙ ap (λ rows. flat_map unit_rows front ++ rows) (sym (last_rows moved stretch.last)))
      ∙ ap (λ rows. (flat_map unit_rows front
      ++ as_list (option_map (ended_by moved) stretch.last)) ++ rows)
      (sym (by_units moved stretches))))

  last_long : (one other : ℕ → ℕ) (last : Option Instr)
      → length (as_list (option_map (ended_by one) last))
      ≡ length (as_list (option_map (ended_by other) last))
  last_long one other None = refl
  last_long one other (Some row) = refl

  as_long : (one other : ℕ → ℕ) (stretches : List (Stretch Instr))
      → length (news (segments_by (rows_by tables rewrite) ended_by one stretches))
      ≡ length (news (segments_by (rows_by tables rewrite) ended_by other stretches))
  as_long one other [] = refl
  as_long one other (stretch ∷ stretches) =
      let front : List PlanRow = rows_by tables rewrite stretch.front in
      omega (
        arith,
        length-append (front ++ as_list (option_map (ended_by one) stretch.last))
            (news (segments_by (rows_by tables rewrite) ended_by one stretches)),
        length-append front (as_list (option_map (ended_by one) stretch.last)),
        length-append (front ++ as_list (option_map (ended_by other) stretch.last))
            (news (segments_by (rows_by tables rewrite) ended_by other stretches)),
        length-append front (as_list (option_map (ended_by other) stretch.last)),
        last_long one other stretch.last,
        as_long one other stretches,
      )

-- ---- rows of tables that fit, in units
module _ (tables : Tables) (fits : Fits tables) (end : ℕ) where
  exchange_items : (items : List Item) → FitsExchange tables items
      → AllByRecursion (FitsItem tables) items
  unfolding FitsExchange
  exchange_items items fit = recursion_from_All (FitsItem tables) items fit

  items_fit : (exchange : ℕ) (found : Option (List Item))
      → slice_get tables.exchanges exchange ≡ found
      → AllByRecursion (FitsItem tables) (rows_or_none found)
  items_fit exchange None is = tt
  items_fit exchange (Some items) is =
      exchange_items items (Fits-exchange-row tables exchange items fits is)

  unit_fits : (row : Instr) → ends_stretch row ≡ false → FitsInstr tables row
      → AllByRecursion (FitsUnit tables end) (unit_of tables row)
  unit_fits (instr.Start exchange) ends fit =
      (items_fit exchange (slice_get tables.exchanges exchange) refl, tt)
  unit_fits (instr.Finish exchange) ends fit = tt
  unit_fits (instr.Jump goal) ends fit = absurd (true≢false ends)
  unit_fits (instr.Unless expr goal line) ends fit = absurd (true≢false ends)
  unit_fits row ends fit = (fit, tt)

  front_fits : (rows : List Instr) → AllByRecursion (λ row. ends_stretch row ≡ false) rows
      → AllByRecursion (FitsInstr tables) rows
      → AllByRecursion (FitsUnit tables end) (units_of tables rows)
  front_fits [] straight all = tt
  front_fits (row ∷ rows) straight all =
      every_append (FitsUnit tables end) (unit_of tables row) (units_of tables rows)
      (unit_fits row straight.0 all.0) (front_fits rows straight.1 all.1)

  end_fits : (moved : ℕ → ℕ) → ((g : ℕ) → moved g ≤ end) → (row : Instr)
      → ends_stretch row ≡ true → FitsInstr tables row
      → FitsUnit tables end (ended_unit moved row)
  end_fits moved less (instr.Jump goal) ends fit = less goal
  end_fits moved less (instr.Unless expr goal line) ends fit = (fit.fit.0, less goal)
  end_fits moved less (instr.Trap kind line) ends fit = fit
  end_fits moved less instr.End ends fit = fit
  end_fits moved less _ ends fit = absurd (true≢false (sym ends))

pub every_front : {X : Type 0} (P : X → Type 0) (xs ys : List X) → AllByRecursion P (xs ++ ys)
    → AllByRecursion P xs
every_front P [] ys all = tt
every_front P (x ∷ xs) ys all = (all.0, every_front P xs ys all.1)

pub every_back : {X : Type 0} (P : X → Type 0) (xs ys : List X) → AllByRecursion P (xs ++ ys)
    → AllByRecursion P ys
every_back P [] ys all = all
every_back P (x ∷ xs) ys all = every_back P xs ys all.1

pub last_of : (P : Instr → Type 0) (last : Option Instr) → AllByRecursion P (as_list last)
    → (row : Instr) → last ≡ Some row → P row
last_of P None all row is = absurd (none row is)
  where
    none : (row : Instr) → (let n : Option Instr = None in n) ≡ Some row → ⊥
    none row is = cc
last_of P (Some one) all row is = let same : one ≡ row = cc in subst P same all.0

-- ---- the units of each stretch rewritten
module _ (tables : Tables) (rewrite : List PlanUnit → List PlanUnit) where
  -- from units that fit it makes units that do
  abbrev pub KeepsUnits : Type 0
  KeepsUnits =
      (end : ℕ) (units : List PlanUnit) → AllByRecursion (FitsUnit tables end) units
      → AllByRecursion (FitsUnit tables end) (rewrite units)

  module _ (fits : Fits tables) (keeps : KeepsUnits) where
    stretches_fit : (end : ℕ) (moved : ℕ → ℕ) → ((g : ℕ) → moved g ≤ end)
        → (stretches : List (Stretch Instr))
        → AllByRecursion (IsCut ends_stretch (is_goal tables.code)) stretches
        → AllByRecursion (FitsInstr tables) (all_rows stretches)
        → AllByRecursion (HoldsOf (FitsUnit tables end) (units_by tables rewrite) ended_unit moved)
        stretches
    stretches_fit end moved less [] cuts all = tt
    stretches_fit end moved less (stretch ∷ stretches) cuts all =
        let here = every_front (FitsInstr tables) (rows_of stretch) (all_rows stretches) all in (
          record {
            front =
                keeps end (units_of tables stretch.front)
                (front_fits tables fits end stretch.front cuts.0.straight
                (every_front (FitsInstr tables) stretch.front (as_list stretch.last) here));
            last = λ row is. end_fits tables fits end moved less row (cuts.0.last row is)
                (last_of (FitsInstr tables) stretch.last
                (every_back (FitsInstr tables) stretch.front (as_list stretch.last) here) row is);
          },
          stretches_fit end moved less stretches cuts.1
              (every_back (FitsInstr tables) (rows_of stretch) (all_rows stretches) all),
        )

    abbrev stretches : List (Stretch Instr)
    stretches = stretches_of tables.code

    abbrev moved : ℕ → ℕ
    moved = moved_by (rows_by tables rewrite) ended_by stretches

    abbrev units : List PlanUnit
    units = news (segments_by (units_by tables rewrite) ended_unit moved stretches)

    less : (g : ℕ) → moved g ≤ length (flat_map unit_rows units)
    less g =
        omega (
          arith,
          moved_less (segments_by (rows_by tables rewrite) ended_by (λ g. g) stretches) g,
          as_long tables rewrite (λ g. g) moved stretches,
          ap length (by_units tables rewrite moved stretches),
        )

    pub units_fit : Fits (with_units rewrite tables)
    units_fit =
        let whole = cut_rows ends_stretch (is_goal tables.code) 0 tables.code in
        subst (λ rows. Fits (laid_out tables rows))
        (sym (by_units tables rewrite moved stretches))
        (laid_fits tables units fits
        (news_hold (FitsUnit tables (length (flat_map unit_rows units))) (units_by tables rewrite)
        ended_unit moved stretches
        (stretches_fit (length (flat_map unit_rows units)) moved less stretches
        (all_cut ends_stretch (is_goal tables.code) 0 tables.code)
        (subst (AllByRecursion (FitsInstr tables)) (sym whole)
        (recursion_from_All (FitsInstr tables) tables.code fits.code)))))
