-- A start among rows that stand reversed, of which it crosses some.
use Rattle.std.proofs.Common.{◌≡◌, refl, sym, ap, ◌∙◌, arith, ℕ, zero, suc, ◌+◌, ◌<◌}
use Rattle.std.proofs.Common.{◌==◌, Bool, true, false, not, true≢false, List, [], ◌∷◌, ◌++◌, length}
use Rattle.std.specs.Prelude.{◌&&◌, ◌||◌, cond, if◌then◌else◌, filter, reverse, Option, Some, None}
use Rattle.std.specs.Prelude.{slice_get}
use Rattle.std.specs.List.{list_any}
use Rattle.std.proofs.lemmas.List.{append-nil, append_assoc, reverse-append}
use Rattle.std.proofs.lemmas.Bool.Decides.{Decides-eqb}
use Rattle.last_writes.specs.of_node_form.declared.arrays.Item.{Item}
use Rattle.last_writes.specs.of_node_form.declared.instructions.Instr.{Instr}
use Rattle.last_writes.specs.of_node_form.declared.instructions.Instr.TheVariants as instr
use Rattle.last_writes.specs.of_node_form.declared.tables.Tables.{Tables}
use Rattle.last_writes.specs.of_code_parts.Early.{is_roomy, may_cross}
use Rattle.last_writes.specs.of_code_parts.Uses.{changes, items_of, may_divide}
use Rattle.last_writes.specs.Last.{is_listed}
use Rattle.comm_early.specs.Place.{finished_by, stops_all}
use Rattle.comm_early.specs.Send.{open_behind_all, put_early}
use Rattle.comm_early.specs.Written.{other_at, other_rows}

-- ---- kinds of rows
abbrev pub is_start : Instr → Bool
is_start (instr.Start exchange) = true
is_start row = false

abbrev pub is_finish : Instr → Bool
is_finish (instr.Finish exchange) = true
is_finish row = false

-- the row stops the start of the exchange, where so many are open in front of it
abbrev pub stops : Tables → Option ℕ → ℕ → ℕ → Instr → Bool
stops tables links exchange count row =
    ((stops_all tables row || (is_finish row && not (is_roomy links count)))
    || is_listed (finished_by row) exchange)
    || list_any (λ item. changes tables row item) (items_of tables exchange)

-- ---- it may cross the others
nothing_changed : (tables : Tables) (row : Instr) → ((item : Item) → changes tables row item ≡ false)
    → (items : List Item) → list_any (λ item. changes tables row item) items ≡ false
nothing_changed tables row none [] = refl
nothing_changed tables row none (item ∷ items) =
    ap (λ b. b || list_any (λ item. changes tables row item) items) (none item)
    ∙ nothing_changed tables row none items

alone : (a b : Bool) → b ≡ false → not a ≡ not (((a || false) || false) || b)
alone true b none = refl
alone false b none = ap not (sym none)

whole : (a b c : Bool) → ((not a && b) && not c) ≡ not (((false || not b) || (a || false)) || c)
whole true true c = refl
whole true false c = refl
whole false true c = refl
whole false false c = refl

pub crossed_or_stops : (tables : Tables) (links : Option ℕ) (exchange count : ℕ) (row : Instr)
    → is_start row ≡ false
    → may_cross tables links count row exchange ≡ not (stops tables links exchange count row)
crossed_or_stops tables links exchange count (instr.Start other) other_row =
    absurd (true≢false other_row)
crossed_or_stops tables links exchange count (instr.Print text) other_row =
    ap not (sym (nothing_changed tables (instr.Print text) (λ item. refl)
    (items_of tables exchange)))
crossed_or_stops tables links exchange count (instr.Set scalar expr line) other_row =
    alone (may_divide tables expr) _
    (nothing_changed tables (instr.Set scalar expr line) (λ item. refl) (items_of tables exchange))
crossed_or_stops tables links exchange count (instr.Number expr) other_row =
    alone (may_divide tables expr) _
    (nothing_changed tables (instr.Number expr) (λ item. refl) (items_of tables exchange))
crossed_or_stops tables links exchange count (instr.Truth expr) other_row =
    alone (may_divide tables expr) _
    (nothing_changed tables (instr.Truth expr) (λ item. refl) (items_of tables exchange))
crossed_or_stops tables links exchange count (instr.Finish other) other_row =
    whole (other == exchange) (is_roomy links count)
    (list_any (λ item. changes tables (instr.Finish other) item) (items_of tables exchange))
crossed_or_stops tables links exchange count row other_row = refl

-- a start stops at no test
pub start_stops : (tables : Tables) (links : Option ℕ) (exchange count other : ℕ)
    → stops tables links exchange count (instr.Start other) ≡ false
start_stops tables links exchange count other =
    nothing_changed tables (instr.Start other) (λ item. refl) (items_of tables exchange)

-- ---- rows of code, reversed, put onto others
module _ (code : List Instr) where
  abbrev pub onto : List Instr → ℕ → ℕ → List Instr
  onto fixed first zero = fixed
  onto fixed first (suc count) = other_at (slice_get code (first + count)) ++ onto fixed first count

  pub onto_both : (fixed : List Instr) (first a b : ℕ)
      → onto fixed first (a + b) ≡ onto (onto fixed first a) (first + a) b
  onto_both fixed first a zero = let none : a + 0 ≡ a = omega arith in ap (onto fixed first) none
  onto_both fixed first a (suc b) =
      let more : a + suc b ≡ suc (a + b) = omega arith in
      let there : first + (a + b) ≡ first + a + b = omega arith in
      ap (onto fixed first) more
      ∙ (ap (λ k. other_at (slice_get code k) ++ onto fixed first (a + b)) there
      ∙ ap (λ l. other_at (slice_get code (first + a + b)) ++ l) (onto_both fixed first a b))

  one_reversed : (row : Option Instr) → reverse (other_at row) ≡ other_at row
  one_reversed None = refl
  one_reversed (Some (instr.Start exchange)) = refl
  one_reversed (Some row) = refl

  pub onto_reversed : (fixed : List Instr) (first count : ℕ)
      → reverse (onto fixed first count) ≡ reverse fixed ++ other_rows code first count
  onto_reversed fixed first zero = sym (append-nil (reverse fixed))
  onto_reversed fixed first (suc count) =
      reverse-append (other_at (slice_get code (first + count))) (onto fixed first count)
      ∙ (ap (λ l. reverse (onto fixed first count) ++ l)
      (one_reversed (slice_get code (first + count)))
      ∙ (ap (λ l. l ++ other_at (slice_get code (first + count))) (onto_reversed fixed first count)
      ∙ append_assoc (reverse fixed) (other_rows code first count)
      (other_at (slice_get code (first + count)))))

  -- ---- a start crosses the rows behind its place
  module _ (tables : Tables) (links : Option ℕ) where
    abbrev pub crosses : List Instr → Instr → ℕ → Bool
    crosses before row exchange =
        may_cross tables links (length (open_behind_all before)) row exchange

    pub cross_row : (before : List Instr) (row : Instr) (exchange : ℕ)
        → crosses before row exchange ≡ true
        → put_early tables links exchange (row ∷ before)
        ≡ row ∷ put_early tables links exchange before
    cross_row before row exchange crossed =
        ap (λ b. if b then row ∷ put_early tables links exchange before
        else instr.Start exchange ∷ row ∷ before) crossed

    pub stop_row : (before : List Instr) (row : Instr) (exchange : ℕ)
        → crosses before row exchange ≡ false
        → put_early tables links exchange (row ∷ before) ≡ instr.Start exchange ∷ row ∷ before
    stop_row before row exchange stopped =
        ap (λ b. if b then row ∷ put_early tables links exchange before
        else instr.Start exchange ∷ row ∷ before) stopped

    cross_one : (before after : List Instr) (exchange : ℕ) (row : Option Instr)
        → ((one : Instr) → row ≡ Some one → is_start one ≡ false
        → crosses before one exchange ≡ true)
        → put_early tables links exchange before ≡ after
        → put_early tables links exchange (other_at row ++ before) ≡ other_at row ++ after
    cross_one before after exchange None crossed is = is
    cross_one before after exchange (Some (instr.Start other)) crossed is = is
    cross_one before after exchange (Some row) crossed is =
        cross_row before row exchange (crossed row refl refl) ∙ ap (λ l. row ∷ l) is

    pub put_at : (fixed : List Instr) (first a b exchange : ℕ)
        → put_early tables links exchange (onto fixed first a)
        ≡ instr.Start exchange ∷ onto fixed first a
        → ((k : ℕ) (row : Instr) → k < b → slice_get code (first + a + k) ≡ Some row
        → is_start row ≡ false → crosses (onto fixed first (a + k)) row exchange ≡ true)
        → put_early tables links exchange (onto fixed first (a + b))
        ≡ onto (instr.Start exchange ∷ onto fixed first a) (first + a) b
    put_at fixed first a zero exchange stop crossed =
        let none : a + 0 ≡ a = omega arith in
        ap (λ k. put_early tables links exchange (onto fixed first k)) none ∙ stop
    put_at fixed first a (suc b) exchange stop crossed =
        let more : a + suc b ≡ suc (a + b) = omega arith in
        let there : first + (a + b) ≡ first + a + b = omega arith in
        ap (λ k. put_early tables links exchange (onto fixed first k)) more
        ∙ (ap (λ k. put_early tables links exchange
        (other_at (slice_get code k) ++ onto fixed first (a + b))) there
        ∙ cross_one (onto fixed first (a + b))
        (onto (instr.Start exchange ∷ onto fixed first a) (first + a) b) exchange
        (slice_get code (first + a + b))
        (λ one is. crossed b one (omega arith) is)
        (put_at fixed first a b exchange stop
        (λ k row below. crossed k row (omega (arith, below)))))

  -- ---- exchanges that are open behind a start more
  other_way : (a b : ℕ) → (a == b) ≡ false → (b == a) ≡ false
  other_way a b differ = by (b == a) refl
    where
      by : (same : Bool) → (b == a) ≡ same → same ≡ false
      by true is =
          absurd (true≢false (sym ((Decides-eqb a b).1 (sym ((Decides-eqb b a).0 is))) ∙ differ))
      by false is = refl

  open_one : (row : Option Instr) (before after : List Instr) (exchange : ℕ)
      → ((one : Instr) → row ≡ Some one → is_listed (finished_by one) exchange ≡ false)
      → open_behind_all after ≡ exchange ∷ open_behind_all before
      → open_behind_all (other_at row ++ after)
      ≡ exchange ∷ open_behind_all (other_at row ++ before)
  open_one None before after exchange others is = is
  open_one (Some (instr.Start other)) before after exchange others is = is
  open_one (Some (instr.Finish other)) before after exchange others is =
      ap (λ numbers. filter (λ number. not (number == other)) numbers) is
      ∙ ap (λ b. cond (not b)
      (exchange ∷ filter (λ number. not (number == other)) (open_behind_all before))
      (filter (λ number. not (number == other)) (open_behind_all before)))
      (other_way other exchange
      (left_one (other == exchange) (others (instr.Finish other) refl)))
    where
      left_one : (b : Bool) → (b || false) ≡ false → b ≡ false
      left_one true e = e
      left_one false e = refl
  open_one (Some row) before after exchange others is = is

  pub open_more : (fixed : List Instr) (first count exchange : ℕ)
      → ((k : ℕ) (row : Instr) → k < count → slice_get code (first + k) ≡ Some row
      → is_listed (finished_by row) exchange ≡ false)
      → open_behind_all (onto (instr.Start exchange ∷ fixed) first count)
      ≡ exchange ∷ open_behind_all (onto fixed first count)
  open_more fixed first zero exchange others = refl
  open_more fixed first (suc count) exchange others =
      open_one (slice_get code (first + count)) (onto fixed first count)
      (onto (instr.Start exchange ∷ fixed) first count) exchange
      (λ one is. others count one (omega arith) is)
      (open_more fixed first count exchange (λ k row below. others k row (omega (arith, below))))
