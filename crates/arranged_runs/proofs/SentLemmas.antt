-- Exchanges are finished in the order of their starts, and only rows that may stand there stand
-- between, where starts were moved up in a plan in units.
use Rattle.std.proofs.Common.{◌≡◌, ◌⊎◌, inl, inr, refl, sym, ◌∙◌, ap, subst, arith, ℕ, Bool}
use Rattle.std.proofs.Common.{true, false, List, [], ◌∷◌, ◌++◌, length, map, filter, true≢false}
use Rattle.std.proofs.Common.{append-nil, append_assoc, length-append}
use Rattle.std.proofs.lemmas.Bool.Decides.{nat_tests}
use Rattle.std.proofs.Math.Path.{fun_ext}
use Rattle.std.specs.Prelude.{◌==◌, ◌&&◌, cond, fold, if◌then◌else◌, not, Option}
use Rattle.std.specs.List.{AllByRecursion}
use Rattle.node_form.specs.declared.instructions.Instr.{Instr}
use Rattle.node_form.specs.declared.instructions.Instr.TheVariants as instr
use Rattle.node_form.specs.declared.tables.Tables.{Tables}
use Rattle.code_parts.specs.Early.{is_roomy, may_cross, open_behind}
use Rattle.code_parts.specs.Exchanged.{is_exchange_row}
use Rattle.code_parts.specs.Stretch.{ends_stretch, is_goal}
use Rattle.flat_passes.specs.Rewritten.{stretches_of}
use Rattle.row_runs.specs.Cut.{Stretch, cut, moved_by}
use Rattle.comm_early.specs.Send.{open_behind_all, put_early, put_row, rows_early, sent_early}
use Rattle.comm_early.proofs.PassedLemmas.{same_goals}
use Rattle.plan_passes.specs.Units.{AreUnits, IsInUnits, MoreExchange, MoreRow, NoUnits}
use Rattle.plan_passes.proofs.EarlyLemmas.{turned_over}
use Rattle.plan_passes.proofs.EarlyRunLemmas.{early_is, early_long, early_straight}
use Rattle.arranged_runs.specs.Sent.{IsSentInOrder, StandInOrder, finishes_oldest}
use Rattle.arranged_runs.specs.Sent.{may_stand_between}
use Rattle.arranged_runs.proofs.CutLemmas.{cut_rewritten}

abbrev others : ℕ → List ℕ → List ℕ
others exchange open_now = filter (λ other. not (other == exchange)) open_now

-- the exchange is the oldest that is open, where the last one started stands first
record IsOldest (open_now : List ℕ) (exchange : ℕ) : Type 0 where
  later : List ℕ
  is : open_now ≡ later ++ exchange ∷ []
  rest : others exchange open_now ≡ later

turned_last : (xs : List ℕ) (x : ℕ) → turned_over (xs ++ x ∷ []) ≡ x ∷ turned_over xs
turned_last [] x = refl
turned_last (y ∷ xs) x = ap (λ l. l ++ y ∷ []) (turned_last xs x)

turned_long : (xs : List ℕ) → length (turned_over xs) ≡ length xs
turned_long [] = refl
turned_long (x ∷ xs) =
    length-append (turned_over xs) (x ∷ []) ∙ (let more = turned_long xs in omega (arith, more))

turned_apart : (a b : ℕ) → not (a == b) ≡ true → not (b == a) ≡ true
turned_apart a b e = let one : not (b == a) ≡ true = grind (arith, nat_tests, e) in one

same_number : (a : ℕ) → not (a == a) ≡ false
same_number a = let one : not (a == a) ≡ false = grind (arith, nat_tests) in one

module _ (code : Tables) (links : Option ℕ) where
  -- ---- rows that stand reversed
  -- a row, by what is open in front of it
  abbrev IsFine : Instr → List ℕ → Type 0
  IsFine (instr.Start exchange) open_now = is_roomy links (length open_now) ≡ true
  IsFine (instr.Finish exchange) open_now = IsOldest open_now exchange
  IsFine row open_now = (open_now ≡ []) ⊎ (may_stand_between code row ≡ true)

  abbrev AreFine : List Instr → Type 0
  AreFine [] = Unit {0}
  AreFine (row ∷ before) = IsFine row (open_behind_all before) × AreFine before

  -- what is known of a finish that is crossed
  crossed_parts : (a b c : Bool) → (a && b && c) ≡ true → (a ≡ true) × (b ≡ true)
  crossed_parts true true c e = (refl, refl)
  crossed_parts true false c e = absurd (true≢false (sym e))
  crossed_parts false b c e = absurd (true≢false (sym e))

  -- ---- one row that is crossed
  -- what is open behind it, the start in front of it
  crossed_open : (exchange count : ℕ) (row : Instr) (open_now : List ℕ)
      → may_cross code links count row exchange ≡ true
      → open_behind (exchange ∷ open_now) row ≡ exchange ∷ open_behind open_now row
  crossed_open exchange count (instr.Start other) open_now crosses =
      absurd (true≢false (sym crosses))
  crossed_open exchange count (instr.Finish other) open_now crosses =
      ap (λ b. cond b (exchange ∷ others other open_now) (others other open_now))
      (turned_apart other exchange
      (crossed_parts (not (other == exchange)) (is_roomy links count) _ crosses).0)
  crossed_open exchange count row open_now crosses = refl

  crossed_fine : (exchange count : ℕ) (row : Instr) (open_now : List ℕ)
      → may_cross code links count row exchange ≡ true → IsFine row open_now
      → IsFine row (exchange ∷ open_now)
  crossed_fine exchange count (instr.Start other) open_now crosses fine =
      absurd (true≢false (sym crosses))
  crossed_fine exchange count (instr.Finish other) open_now crosses fine = record {
    later = exchange ∷ fine.later;
    is = ap (λ l. exchange ∷ l) fine.is;
    rest = crossed_open exchange count (instr.Finish other) open_now crosses
        ∙ ap (λ l. exchange ∷ l) fine.rest;
  }
  crossed_fine exchange count (instr.Fix slot region) open_now crosses fine = inr refl
  crossed_fine exchange count (instr.Room array slot) open_now crosses fine = inr refl
  crossed_fine exchange count (instr.Clear array) open_now crosses fine = inr refl
  crossed_fine exchange count (instr.Loop slot group) open_now crosses fine = inr refl
  crossed_fine exchange count (instr.Print text) open_now crosses fine = inr refl
  crossed_fine exchange count (instr.Set scalar expr line) open_now crosses fine = inr crosses
  crossed_fine exchange count (instr.Number expr) open_now crosses fine = inr crosses
  crossed_fine exchange count (instr.Truth expr) open_now crosses fine = inr crosses
  crossed_fine exchange count row open_now crosses fine = absurd (true≢false (sym crosses))

  -- there is room in front of it
  crossed_room : (exchange : ℕ) (row : Instr) (open_now : List ℕ)
      → may_cross code links (length open_now) row exchange ≡ true
      → is_roomy links (length (open_behind open_now row)) ≡ true
      → is_roomy links (length open_now) ≡ true
  crossed_room exchange (instr.Start other) open_now crosses roomy =
      absurd (true≢false (sym crosses))
  crossed_room exchange (instr.Finish other) open_now crosses roomy =
      (crossed_parts (not (other == exchange)) (is_roomy links (length open_now)) _ crosses).1
  crossed_room exchange row open_now crosses roomy = roomy

  -- ---- a start that is put early
  put_open : (exchange : ℕ) (before : List Instr)
      → open_behind_all (put_early code links exchange before) ≡ exchange ∷ open_behind_all before
  put_open exchange [] = refl
  put_open exchange (last ∷ before) =
      by (may_cross code links (length (open_behind_all before)) last exchange) refl
      (put_open exchange before)
    where
      by : (b : Bool) → may_cross code links (length (open_behind_all before)) last exchange ≡ b
          → open_behind_all (put_early code links exchange before)
          ≡ exchange ∷ open_behind_all before
          → open_behind_all (if b then last ∷ put_early code links exchange before
          else instr.Start exchange ∷ last ∷ before)
          ≡ exchange ∷ open_behind_all (last ∷ before)
      by true e more =
          ap (λ open_now. open_behind open_now last) more
          ∙ crossed_open exchange (length (open_behind_all before)) last (open_behind_all before) e
      by false e more = refl

  put_fine : (exchange : ℕ) (before : List Instr) → AreFine before
      → is_roomy links (length (open_behind_all before)) ≡ true
      → AreFine (put_early code links exchange before)
  put_fine exchange [] fine roomy = (roomy, tt)
  put_fine exchange (last ∷ before) fine roomy =
      by (may_cross code links (length (open_behind_all before)) last exchange) refl
      (λ roomy. put_fine exchange before fine.1 roomy)
    where
      by : (b : Bool) → may_cross code links (length (open_behind_all before)) last exchange ≡ b
          → (is_roomy links (length (open_behind_all before)) ≡ true
          → AreFine (put_early code links exchange before))
          → AreFine (if b then last ∷ put_early code links exchange before
          else instr.Start exchange ∷ last ∷ before)
      by true e more = (
        subst (IsFine last) (sym (put_open exchange before))
            (crossed_fine exchange (length (open_behind_all before)) last (open_behind_all before) e
            fine.0),
        more (crossed_room exchange last (open_behind_all before) e roomy),
      )
      by false e more = (roomy, fine)

  -- ---- the rows of a stretch
  record IsClosed (before : List Instr) : Type 0 where
    fine : AreFine before
    closed : open_behind_all before ≡ []

  alone : (exchange : ℕ) → others exchange (exchange ∷ []) ≡ []
  alone exchange =
      ap (λ b. cond {A = List ℕ} b (exchange ∷ []) []) (same_number exchange)

  module _ (some : is_roomy links 0 ≡ true) where
    units_closed : (rows : List Instr) → AreUnits rows → (before : List Instr) → IsClosed before
        → IsClosed (fold (put_row code links) before rows)
    units_closed rows NoUnits before is = is
    units_closed rows (MoreExchange {exchange = exchange} {rows = rest} more) before is =
        let early : List Instr = put_early code links exchange before in
        let open_now : open_behind_all early ≡ exchange ∷ [] =
        put_open exchange before ∙ ap (λ l. exchange ∷ l) is.closed in
        units_closed rest more (instr.Finish exchange ∷ early) (record {
          fine = (
            record {
              later = [];
              is = open_now;
              rest = ap (others exchange) open_now ∙ alone exchange;
            },
            put_fine exchange before is.fine
                (subst (λ l. is_roomy links (length l) ≡ true) (sym is.closed) some),
          );
          closed = ap (others exchange) open_now ∙ alone exchange;
        })
    units_closed rows (MoreRow {row = row} {rows = rest} other more) before is =
        subst (λ b. IsClosed (fold (put_row code links) b rest)) (sym (no_start row other))
        (units_closed rest more (row ∷ before) (one row other))
      where
        no_start : (row : Instr) → is_exchange_row row ≡ false
            → put_row code links before row ≡ row ∷ before
        no_start (instr.Start exchange) e = absurd (true≢false e)
        no_start row e = refl

        one : (row : Instr) → is_exchange_row row ≡ false → IsClosed (row ∷ before)
        one (instr.Start exchange) e = absurd (true≢false e)
        one (instr.Finish exchange) e = absurd (true≢false e)
        one row e = record { fine = (inl is.closed, is.fine); closed = is.closed }

  abbrev with_early : Stretch Instr → Stretch Instr
  with_early stretch =
      record { front = rows_early code links stretch.front; last = stretch.last }

  -- ---- and forwards
  abbrev Stand : List Instr → List ℕ → Type 0
  Stand = StandInOrder code links

  row_stands : (row : Instr) (open_now : List ℕ) (rows : List Instr) → IsFine row open_now
      → Stand rows (turned_over (open_behind open_now row))
      → Stand (row ∷ rows) (turned_over open_now)
  row_stands (instr.Start exchange) open_now rows fine more =
      (subst (λ k. is_roomy links k ≡ true) (sym (turned_long open_now)) fine, more)
  row_stands (instr.Finish exchange) open_now rows fine more =
      subst (λ l. finishes_oldest l exchange (Stand rows))
      (sym (ap turned_over fine.is ∙ turned_last fine.later exchange))
      (refl, subst (λ l. Stand rows (turned_over l)) fine.rest more)
  row_stands row open_now rows fine more = (quiet fine, more)
    where
      quiet : (open_now ≡ []) ⊎ (may_stand_between code row ≡ true)
          → (turned_over open_now ≡ []) ⊎ (may_stand_between code row ≡ true)
      quiet (inl none) = inl (ap turned_over none)
      quiet (inr may) = inr may

  all_stand : (before rows : List Instr) → AreFine before
      → Stand rows (turned_over (open_behind_all before)) → Stand (turned_over before ++ rows) []
  all_stand [] rows fine more = more
  all_stand (row ∷ before) rows fine more =
      subst (λ l. Stand l []) (sym (append_assoc (turned_over before) (row ∷ []) rows))
      (all_stand before (row ∷ rows) fine.1
      (row_stands row (open_behind_all before) rows fine.0 more))

  module _ (some : is_roomy links 0 ≡ true) where
    front_stands : (front : List Instr) → AreUnits front → Stand (rows_early code links front) []
    front_stands front units =
        let before : List Instr = fold (put_row code links) [] front in
        let is : IsClosed before =
        units_closed some front units [] (record { fine = tt; closed = refl }) in
        subst (λ l. Stand l [])
        (append-nil (turned_over before) ∙ sym (early_is code links front))
        (all_stand before [] is.fine (ap turned_over is.closed))

    fronts_stand : (stretches : List (Stretch Instr))
        → AllByRecursion (λ stretch. AreUnits stretch.front) stretches
        → AllByRecursion (λ (stretch : Stretch Instr). Stand stretch.front [])
        (map with_early stretches)
    fronts_stand [] units = tt
    fronts_stand (stretch ∷ stretches) units =
        (front_stands stretch.front units.0, fronts_stand stretches units.1)

  -- ---- units, each for itself
  module _ (some : is_roomy links 0 ≡ true) where
    units_stand : (rows : List Instr) → AreUnits rows → Stand rows []
    units_stand rows NoUnits = refl
    units_stand rows (MoreExchange {rows = rest} more) = (some, (refl, units_stand rest more))
    units_stand rows (MoreRow {row = row} {rows = rest} other more) =
        one row other (units_stand rest more)
      where
        one : (row : Instr) → is_exchange_row row ≡ false → Stand rest [] → Stand (row ∷ rest) []
        one (instr.Start exchange) e stand = absurd (true≢false e)
        one (instr.Finish exchange) e stand = absurd (true≢false e)
        one row e stand = (inl refl, stand)

    pub all_units_stand : (stretches : List (Stretch Instr))
        → AllByRecursion (λ stretch. AreUnits stretch.front) stretches
        → AllByRecursion (λ (stretch : Stretch Instr). Stand stretch.front []) stretches
    all_units_stand [] units = tt
    all_units_stand (stretch ∷ stretches) units =
        (units_stand stretch.front units.0, all_units_stand stretches units.1)

  -- ---- whole plans
  sent_stretches : stretches_of (sent_early links code).code
      ≡ map with_early (stretches_of code.code)
  sent_stretches =
      ap (λ goal. cut ends_stretch goal 0 (sent_early links code).code)
      (fun_ext (λ at. same_goals code links at))
      ∙ cut_rewritten ends_stretch (is_goal code.code) (rows_early code links)
      (early_long code links) (early_straight code links) 0 code.code
      (moved_by (rows_early code links) (λ moved row. row) (stretches_of code.code))

pub sent_in_order : (links : Option ℕ) (code : Tables) → is_roomy links 0 ≡ true → IsInUnits code
    → IsSentInOrder links (sent_early links code)
sent_in_order links code some units =
    subst (AllByRecursion (λ (stretch : Stretch Instr). StandInOrder code links stretch.front []))
    (sym (sent_stretches code links)) (fronts_stand code links some (stretches_of code.code) units)

pub units_in_order : (links : Option ℕ) (code : Tables) → is_roomy links 0 ≡ true → IsInUnits code
    → IsSentInOrder links code
units_in_order links code some units =
    all_units_stand code links some (stretches_of code.code) units
