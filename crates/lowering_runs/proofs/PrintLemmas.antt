-- Prints of scalars: all values are computed before the first is printed.
use Rattle.std.proofs.Common.{◌≡◌, ℕ, suc, ◌+◌, ◌≤◌, ◌<◌, Bool, true, false, ℤ, pos, List, [], ◌∷◌}
use Rattle.std.proofs.Common.{◌++◌, length, Option, Some, None, refl, sym, ap, ◌∙◌, subst, arith}
use Rattle.std.proofs.Common.{append_assoc}
use Rattle.std.specs.Prelude.{if◌then◌else◌}
use Rattle.zpl_text.specs.Escapes.{unescaped}
use Rattle.zpl_tree.specs.Syntax.{Expr, Item, Str, Value, Base, Boolean, Write}
use Rattle.zpl_names.specs.Kinds.{Rank}
use Rattle.zpl_names.specs.Scope.{Scope}
use Rattle.zpl_names.specs.Sites.{Printed}
use Rattle.zpl_names.specs.Types.{type_of}
use Rattle.lowering_fits.specs.of_zpl_meaning.Computed as mean
use Rattle.lowering_fits.specs.of_zpl_meaning.Store.{Store}
use Rattle.lowering_fits.specs.of_zpl_meaning.Context.{Place, rank_in}
use Rattle.lowering_fits.specs.of_zpl_meaning.Fields.{Field}
use Rattle.lowering_fits.specs.of_zpl_meaning.Settled as mean_settled
use Rattle.lowering_fits.specs.of_zpl_meaning.Scalars.{AreScalars, values_of}
use Rattle.lowering_fits.specs.of_zpl_meaning.Value as mean_value
use Rattle.lowering_fits.specs.of_zpl_meaning.Text as mean_text
use Rattle.lowering_fits.specs.of_zpl_meaning.Text.{value_text, field_text, items_text, print_text}
use Rattle.lowering_fits.specs.of_zpl_meaning.Outcome as out
use Rattle.lowering_fits.specs.of_zpl_meaning.Outcome.{Outcome}
use Rattle.lowering_fits.specs.of_zpl_meaning.Statement as mean_statement
use Rattle.lowering_fits.proofs.of_zpl_meaning.ScalarLemmas.{AreFieldsOf, fields_of_scalars}
use Rattle.node_form.specs.declared.tables.Tables.{Tables}
use Rattle.node_form.specs.Expression.{Expression, Variable, words_of}
use Rattle.node_form.specs.Value as flat
use Rattle.node_form.specs.Value.{scalar_operands, value_of}
use Rattle.node_form.proofs.ValueLemmas.{value_of-words_of}
use Rattle.row_runs.specs.Run as does_row
use Rattle.row_runs.specs.Run.{Step}
use Rattle.row_runs.specs.Structured as code
use Rattle.row_runs.specs.Structured.{Course, GoesOn, rows_do, by_step}
use Rattle.lowering_fits.specs.of_flat_form.Row as row
use Rattle.lowering_fits.specs.of_flat_form.Row.{Row}
use Rattle.lowering_fits.specs.of_flat_form.Whole.{Whole}
use Rattle.lowering_fits.specs.of_zpl_lowering.Where.{Where, Next, line_of, slotted_at}
use Rattle.lowering_fits.specs.of_zpl_lowering.Where as low_where
use Rattle.lowering_fits.specs.of_zpl_lowering.Words.{scalar_code}
use Rattle.lowering_fits.specs.of_zpl_lowering.Lowered.{phased}
use Rattle.lowering_fits.specs.of_zpl_lowering.Slate as low_slate
use Rattle.lowering_fits.specs.of_zpl_lowering.Statement as low
use Rattle.lowering_fits.specs.of_zpl_lowering.Statement.{Lowering, Prints}
use Rattle.lowering_runs.specs.Seen.{scalar_in, Sight, seen_place}
use Rattle.lowering_runs.specs.Run.{step, decide, does}
use Rattle.lowering_runs.specs.Agrees.{Agrees, Going}
use Rattle.lowering_runs.specs.Stands.{IsSound, IsLike}
use Rattle.lowering_runs.specs.Goes.{World, Goes}
use Rattle.lowering_runs.specs.Leaves.{AreScalarItems}
use Rattle.lowering_runs.proofs.NumberLemmas.{get_some}
use Rattle.lowering_runs.proofs.BareLemmas.{codes_of, all_passed}
use Rattle.lowering_runs.proofs.RowLemmas.{print_step, number_step, truth_step}
use Rattle.lowering_runs.specs.Values.{Hold, meant}
use Rattle.lowering_runs.proofs.ListLemmas.{AreScalarsAt, meant_length, values_agree}
use Rattle.lowering_runs.proofs.HeadLemmas.{scalars_of}

-- scalars alone are printed
printed_scalars : (sight : Sight) (w : Where) (start : Whole) (items : List Item)
    → AreScalarItems (seen_place sight w start) items
    → AreScalarsAt (seen_place sight w start) (low.printed_exprs w items)
printed_scalars sight w start [] h = tt
printed_scalars sight w start (Str bytes ∷ items) h = printed_scalars sight w start items h
printed_scalars sight w start (Value expr ∷ items) h =
    (h.1, printed_scalars sight w start items h.2)

-- ---- the text, by the values

abbrev text_of : Scope → List Item → List ℤ → List ℕ
text_of scope [] values = []
text_of scope (Str bytes ∷ items) values = unescaped bytes ++ text_of scope items values
text_of scope (Value expr ∷ items) [] = []
text_of scope (Value expr ∷ items) (value ∷ values) =
    value_text (type_of scope expr) value ++ text_of scope items values

abbrev pub line_end : Bool → List ℕ
line_end line = if line then 10 ∷ [] else []

module _ (place : Place) (store : Store) where
  str_text : (bytes : List ℕ) (c : mean.Computed (List ℤ)) (t : List ℤ → List ℕ)
      → mean.both_then (mean.Gives bytes) (mean.computed_then c (λ vs. mean.Gives (t vs)))
      (λ first rest. mean.Gives (first ++ rest))
      ≡ mean.computed_then c (λ vs. mean.Gives (bytes ++ t vs))
  str_text bytes (mean.Gives vs) t = refl
  str_text bytes (mean.Traps kind) t = refl

  value_rest : (f : ℤ → List ℕ) (v : mean.Computed ℤ) (c : mean.Computed (List ℤ))
      (t : List ℤ → List ℕ) (u : List ℤ → List ℕ)
      → ((v : ℤ) (vs : List ℤ) → u (v ∷ vs) ≡ f v ++ t vs)
      → mean.both_then (mean.computed_then v (λ v. mean.Gives (f v)))
      (mean.computed_then c (λ vs. mean.Gives (t vs)))
      (λ first rest. mean.Gives (first ++ rest))
      ≡ mean.computed_then (mean.both_then v c (λ v vs. mean.Gives (v ∷ vs)))
      (λ vs. mean.Gives (u vs))
  value_rest f (mean.Gives v) (mean.Gives vs) t u e = ap (λ b. mean.Gives b) (sym (e v vs))
  value_rest f (mean.Gives v) (mean.Traps kind) t u e = refl
  value_rest f (mean.Traps kind) c t u e = refl

  ranked_text : (type : Option Base) (rank : Rank) (field : Field) → rank ≡ Some 0
      → field_text place type rank field
      ≡ mean.computed_then (field []) (λ v. mean.Gives (value_text type v))
  ranked_text type rank field e = ap (λ (r : Rank). field_text place type r field) e

  items_are : (items : List Item) (fields : List Field) → AreScalarItems place items
      → AreFieldsOf place.environment store fields (mean_text.printed_exprs place items)
      → items_text place items fields
      ≡ mean.computed_then (values_of place.environment store (mean_text.printed_exprs place items))
      (λ vs. mean.Gives (text_of place.scope items vs))
  items_are [] [] h f = refl
  items_are [] (field ∷ fields) h f = absurd f
  items_are (Str bytes ∷ items) fields h f =
      ap (λ c. mean.both_then (mean.Gives (unescaped bytes)) c
      (λ first rest. mean.Gives (first ++ rest))) (items_are items fields h f)
      ∙ str_text (unescaped bytes)
      (values_of place.environment store (mean_text.printed_exprs place items))
      (text_of place.scope items)
  items_are (Value expr ∷ items) [] h f = absurd f
  items_are (Value expr ∷ items) (field ∷ fields) h f =
      let type = type_of place.scope expr in
      ap (λ c. mean.both_then c (items_text place items fields)
      (λ first rest. mean.Gives (first ++ rest)))
      (ranked_text type (rank_in place Printed expr) field h.0
      ∙ ap (λ c. mean.computed_then c (λ v. mean.Gives (value_text type v))) f.0)
      ∙ ap (λ c. mean.both_then
      (mean.computed_then (mean_value.value_of place.environment store expr)
      (λ v. mean.Gives (value_text type v))) c
      (λ first rest. mean.Gives (first ++ rest))) (items_are items fields h.2 f.1)
      ∙ value_rest (value_text type) (mean_value.value_of place.environment store expr)
      (values_of place.environment store (mean_text.printed_exprs place items))
      (text_of place.scope items) (text_of place.scope (Value expr ∷ items)) (λ v vs. refl)

  scalar_items : (items : List Item) → AreScalarItems place items
      → AreScalars place.environment (mean_text.printed_exprs place items)
  scalar_items [] h = tt
  scalar_items (Str bytes ∷ items) h = scalar_items items h
  scalar_items (Value expr ∷ items) h = (h.1.1, scalar_items items h.2)

  text_is : (line : Bool) (items : List Item) → AreScalarItems place items
      → print_text place store line items
      ≡ mean.computed_then (values_of place.environment store (mean_text.printed_exprs place items))
      (λ vs. mean.Gives (text_of place.scope items vs ++ line_end line))
  text_is line items h =
      let exprs = mean_text.printed_exprs place items in
      let f = fields_of_scalars place store exprs (scalar_items items h) in
      ap (λ c. mean.computed_then c (λ fields. mean.computed_then (items_text place items fields)
      (λ text. mean.Gives (text ++ line_end line)))) f.computed
      ∙ ap (λ c. mean.computed_then c (λ text. mean.Gives (text ++ line_end line)))
      (items_are items f.fields h f.each)
      ∙ twice (values_of place.environment store exprs)
    where
      twice : (c : mean.Computed (List ℤ))
          → mean.computed_then
          (mean.computed_then c (λ vs. mean.Gives (text_of place.scope items vs)))
          (λ text. mean.Gives (text ++ line_end line))
          ≡ mean.computed_then c (λ vs. mean.Gives (text_of place.scope items vs ++ line_end line))
      twice (mean.Gives vs) = refl
      twice (mean.Traps kind) = refl

-- ---- the rows

abbrev print_rows : Scope → ℕ → Bool → List Item → List Row
print_rows scope scalar line [] = low.newline line
print_rows scope scalar line (Str bytes ∷ items) =
    row.Print (unescaped bytes) ∷ print_rows scope scalar line items
print_rows scope scalar line (Value expr ∷ items) =
    low.scalar_print (low.is_truth (type_of scope expr)) (words_of (Variable scalar))
    ∷ print_rows scope (suc scalar) line items

-- the rows of prints of scalars
record AreRows (w : Where) (line scalar : ℕ) (ends : Bool) (items : List Item)
    (left : List Expression) (prints : Prints) : Type 0 where
  values : prints.values ≡ low.value_rows line scalar left
  rows : prints.prints ≡ print_rows w.scope scalar ends items
  scalars : prints.scalars ≡ length left

items_rows : (sight : Sight) (w : Where) (start : Whole) (line scalar temp : ℕ) (ends : Bool)
    (items : List Item) → AreScalarItems (seen_place sight w start) items
    → AreRows w line scalar ends items (codes_of w (low.printed_exprs w items))
    (low.items_of w line scalar temp ends items (codes_of w (low.printed_exprs w items)))
items_rows sight w start line scalar temp ends [] h =
    record { values = refl; rows = refl; scalars = refl }
items_rows sight w start line scalar temp ends (Str bytes ∷ items) h =
    let r = items_rows sight w start line scalar temp ends items h in
    record {
      values = r.values;
      rows = ap (λ rows. row.Print (unescaped bytes) ∷ rows) r.rows;
      scalars = r.scalars;
    }
items_rows sight w start line scalar temp ends (Value expr ∷ items) h =
    let truth = low.is_truth (type_of w.scope expr) in
    let over = slotted_at w.currents (low_where.rank_in w Printed expr) in
    let one = scalar_code w expr in
    let left = codes_of w (low.printed_exprs w items) in
    let shown = low.shown_at line truth scalar temp over (Some 0) one in
    let r = items_rows sight w start line (scalar + shown.scalars) (temp + length shown.temps) ends
    items h.2 in
    let next : scalar + 1 ≡ suc scalar = omega arith in
    subst (λ (rank : Rank). AreRows w line scalar ends (Value expr ∷ items) (one ∷ left)
    (let shown = low.shown_at line truth scalar temp over rank one in
    low.with_shown shown
    (low.items_of w line (scalar + shown.scalars) (temp + length shown.temps) ends items left)))
    (sym h.0)
    (record {
      values = ap (λ rows. row.Set scalar (words_of one) line ∷ rows)
          (r.values ∙ ap (λ k. low.value_rows line k left) next);
      rows = ap (λ rows. low.scalar_print truth (words_of (Variable scalar)) ∷ rows)
          (r.rows ∙ ap (λ k. print_rows w.scope k ends items) next);
      scalars = ap (λ k. 1 + k) r.scalars ∙ omega arith;
    })

-- ---- what they do

behind_then : (bytes : List ℕ) (course : Course Whole) (f : Whole → Course Whole)
    → code.then_do (code.behind bytes 0 course) f ≡ code.behind bytes 0 (code.then_do course f)
behind_then bytes course f = by course.close course.state course.bytes course.jumps
  where
    by : (close : code.Close) (state : Whole) (b : List ℕ) (j : ℕ)
        → (let c : Course Whole =
        record { close = close; state = state; bytes = b; jumps = j } in
        code.then_do (code.behind bytes 0 c) f ≡ code.behind bytes 0 (code.then_do c f))
    by GoesOn state b j =
        ap (λ (bs : List ℕ). record (f state) {
          bytes = bs;
          jumps = code.and_then j (f state).jumps;
        }) (append_assoc bytes b (f state).bytes)
    by (code.Over stop) state b j = refl
    by code.Wants state b j = refl

pub rows_append : (tables : Tables) (n : ℕ) (one other : List Row) (now : Whole)
    → rows_do (step tables n) (decide tables n) (one ++ other) now
    ≡ code.then_do (rows_do (step tables n) (decide tables n) one now)
    (rows_do (step tables n) (decide tables n) other)
rows_append tables n [] other now = refl
rows_append tables n (first ∷ one) other now =
    by (step tables n first now) (λ w. rows_append tables n one other w)
  where
    by : (does : Step Whole)
        → ((w : Whole) → rows_do (step tables n) (decide tables n) (one ++ other) w
        ≡ code.then_do (rows_do (step tables n) (decide tables n) one w)
        (rows_do (step tables n) (decide tables n) other))
        → code.by_step now does (rows_do (step tables n) (decide tables n) (one ++ other))
        ≡ code.then_do (code.by_step now does (rows_do (step tables n) (decide tables n) one))
        (rows_do (step tables n) (decide tables n) other)
    by (does_row.Goes bytes state) h =
        ap (λ c. code.behind bytes 0 c) (h state)
        ∙ sym (behind_then bytes (rows_do (step tables n) (decide tables n) one state)
        (rows_do (step tables n) (decide tables n) other))
    by (does_row.Stops stop) h = refl

-- a course that only prints
abbrev pub printing : List ℕ → Whole → Course Whole
printing bytes whole = record { close = GoesOn; state = whole; bytes = bytes; jumps = 0 }

module _ (tables : Tables) (n : ℕ) (now : Whole) (sound : IsSound tables now) where
  pub end_prints : (line : Bool) → rows_do (step tables n) (decide tables n) (low.newline line) now
      ≡ printing (line_end line) now
  end_prints true =
      ap (λ (s : Step Whole). by_step now s (λ w. code.goes_on w))
      (print_step tables n now sound.settled (10 ∷ []))
  end_prints false = refl

  pub typed_step : (type : Option Base) (k : ℕ) (value : ℤ) → k < tables.scalars
      → scalar_in now k ≡ value
      → step tables n (low.scalar_print (low.is_truth type) (words_of (Variable k))) now
      ≡ does_row.Goes (value_text type value) now
  typed_step type k value lt e = by type
    where
      inside : k < length now.scalars
      inside = omega (arith, lt, sound.filled.scalars)

      is : value_of (scalar_operands now.scalars) (words_of (Variable k)) ≡ flat.Gives value
      is = value_of-words_of (scalar_operands now.scalars) (Variable k)
          ∙ ap (λ (o : Option ℤ). flat.read o) (get_some now.scalars k (pos 0) inside)
          ∙ ap (λ (x : ℤ). flat.Gives x) e

      by : (type : Option Base)
          → step tables n (low.scalar_print (low.is_truth type) (words_of (Variable k))) now
          ≡ does_row.Goes (value_text type value) now
      by (Some Boolean) = truth_step tables n now sound.settled (words_of (Variable k)) value is
      by (Some base) = number_step tables n now sound.settled (words_of (Variable k)) value is
      by None = number_step tables n now sound.settled (words_of (Variable k)) value is

  rows_print : (scope : Scope) (scalar : ℕ) (line : Bool) (items : List Item) (values : List ℤ)
      (place : Place) (store : Store) → AreScalarItems place items
      → length values ≡ length (mean_text.printed_exprs place items)
      → scalar + length values ≤ tables.scalars → Hold now scalar values
      → rows_do (step tables n) (decide tables n) (print_rows scope scalar line items) now
      ≡ printing (text_of scope items values ++ line_end line) now
  rows_print scope scalar line [] values place store h many fits held = end_prints line
  rows_print scope scalar line (Str bytes ∷ items) values place store h many fits held =
      ap (λ (s : Step Whole). by_step now s
      (rows_do (step tables n) (decide tables n) (print_rows scope scalar line items)))
      (print_step tables n now sound.settled (unescaped bytes))
      ∙ ap (λ c. code.behind (unescaped bytes) 0 c)
      (rows_print scope scalar line items values place store h many fits held)
      ∙ ap (λ b. printing b now)
      (sym (append_assoc (unescaped bytes) (text_of scope items values) (line_end line)))
  rows_print scope scalar line (Value expr ∷ items) [] place store h many fits held =
      absurd (omega (arith, many))
  rows_print scope scalar line (Value expr ∷ items) (value ∷ values) place store h many fits held =
      let type = type_of scope expr in
      ap (λ (s : Step Whole). by_step now s
      (rows_do (step tables n) (decide tables n) (print_rows scope (suc scalar) line items)))
      (typed_step type scalar value (omega (arith, fits)) held.0)
      ∙ ap (λ c. code.behind (value_text type value) 0 c)
      (rows_print scope (suc scalar) line items values place store h.2 (omega (arith, many))
      (omega (arith, fits)) held.1)
      ∙ ap (λ b. printing b now)
      (sym (append_assoc (value_text type value) (text_of scope items values) (line_end line)))

-- ---- the statement

pub meant_items : (sight : Sight) (w : Where) (start : Whole) (items : List Item)
    → meant (low.printed_exprs w items)
    ≡ mean_text.printed_exprs (seen_place sight w start) items
meant_items sight w start [] = refl
meant_items sight w start (Str bytes ∷ items) = meant_items sight w start items
meant_items sight w start (Value expr ∷ items) =
    ap (λ rest. low_placed sight w start expr ∷ rest) (meant_items sight w start items)
  where
    low_placed : Sight → Where → Whole → Expr → mean_settled.Placed
    low_placed sight w start expr =
        record { rank = rank_in (seen_place sight w start) Printed expr; expr = expr }

codes_length : (w : Where) (exprs : List low_slate.Placed)
    → length (codes_of w exprs) ≡ length exprs
codes_length w [] = refl
codes_length w (placed ∷ exprs) = ap suc (codes_length w exprs)

computed_text : (c : mean.Computed (List ℤ)) (t : List ℤ → List ℕ) (store : Store) (line : ℕ)
    → out.with_value (mean.computed_then c (λ vs. mean.Gives (t vs))) store line (out.prints store)
    ≡ out.with_value c store line (λ vs. out.prints store (t vs))
computed_text (mean.Gives vs) t store line = refl
computed_text (mean.Traps kind) t store line = refl

module _ (world : World) (at : ℕ) (ends : Bool) (items : List Item) where
  pub write_goes : Goes world (λ w p. AreScalarItems p items)
      (λ c store. mean_statement.exec_form c world.turns at (Write ends items) store)
      (λ l next. low.lowered_form l next at (Write ends items)) 0
  write_goes sight w next start stands served room store now like =
      let tables = world.tables in
      let n = world.turns in
      let Like = IsLike tables sight.spots w next start in
      let place = seen_place sight w start in
      let line = line_of w at in
      let exprs = low.printed_exprs w items in
      let scalars = printed_scalars sight w start items served in
      let phases = phased w line next exprs in
      let passed = all_passed w line next exprs (scalars_of sight w start exprs scalars) in
      let first = next.scalars + phases.lowered.scalars in
      let temp = next.temps + length phases.lowered.temps in
      let left = codes_of w exprs in
      let all : List Expression → Prints = λ left. low.items_of w line first temp ends items left in
      let are = items_rows sight w start line first temp ends items served in
      let text : List ℤ → List ℕ = λ vs. text_of w.scope items vs ++ line_end ends in
      let rows : Prints → Whole → Course Whole = λ prints now.
      rows_do (step tables n) (decide tables n) (prints.values ++ prints.prints) now in
      let fits : first + length exprs ≤ tables.scalars =
      omega (
        arith,
        room.scalars,
        ap (λ l. (all l).scalars) passed.left_is ∙ are.scalars ∙ codes_length w exprs,
      ) in
      let prints = print_rows w.scope first ends items in
      let outcome : mean.Computed (List ℤ) → Outcome =
      λ c. out.with_value c store line (λ vs. out.prints store (text vs)) in
      let values = values_of place.environment store (meant exprs) in
      let code_is : rows (all left) now ≡ code.then_do
      (rows_do (step tables n) (decide tables n) (low.value_rows line first left) now)
      (rows_do (step tables n) (decide tables n) prints) =
      ap (λ rs. rows_do (step tables n) (decide tables n) (rs ++ (all left).prints) now) are.values
      ∙ ap (λ rs. rows_do (step tables n) (decide tables n)
      (low.value_rows line first left ++ rs) now) are.rows
      ∙ rows_append tables n (low.value_rows line first left) prints now in
      let printed : out.with_value (print_text place store ends items) store line (out.prints store)
      ≡ outcome values =
      ap (λ c. out.with_value c store line (out.prints store)) (text_is place store ends items served)
      ∙ computed_text (values_of place.environment store (mean_text.printed_exprs place items)) text
      store line
      ∙ ap (λ es. outcome (values_of place.environment store es))
      (sym (meant_items sight w start items)) in
      subst (λ (o : Outcome). Agrees Like n 0 o
      (code.then_do (does tables n phases.lowered.code now) (rows (all phases.left)))) (sym printed)
      (subst (λ (c : Course Whole). Agrees Like n 0 (outcome values)
      (code.then_do c (rows (all phases.left)))) (sym (passed.still tables n now))
      (subst (λ (l : List Expression). Agrees Like n 0 (outcome values) (rows (all l) now))
      (sym passed.left_is)
      (subst (λ (c : Course Whole). Agrees Like n 0 (outcome values) c) (sym code_is)
      (values_agree tables n sight w next start stands (omega (arith, room.scalars)) line store Like n 0
      exprs first now (λ vs. out.prints store (text vs))
      (rows_do (step tables n) (decide tables n) prints) scalars (omega arith) fits like
      (λ vs after l set_.
      subst (λ (c : Course Whole). Agrees Like n 0 (out.prints store (text vs)) c)
      (sym (rows_print tables n after l.sound w.scope first ends items vs place store served
      (set_.as_many ∙ sym (meant_length exprs)
      ∙ ap (λ es. length es) (meant_items sight w start items))
      (omega (arith, fits, set_.as_many)) set_.held))
      (Going l (omega arith)))))))
