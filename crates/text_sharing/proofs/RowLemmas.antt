-- Rows and sizes of tables in which equal texts stand once.
use Rattle.std.proofs.Common.{◌≡◌, refl, ap, ◌∙◌, arith, ℕ, ◌≤◌, Bool, cond, List, []}
use Rattle.std.proofs.Common.{◌∷◌, map}
use Rattle.std.specs.List.{count_by}
use Rattle.std.proofs.lemmas.List.{length-map}
use Rattle.std.proofs.lemmas.List.Sums.{sum_by-cons}
use Rattle.flat_form.specs.of_node_form.declared.instructions.Instr.{Instr}
use Rattle.flat_form.specs.of_node_form.declared.instructions.Instr.TheVariants as instr
use Rattle.flat_form.specs.of_node_form.declared.tables.Tables.{Tables}
use Rattle.flat_form.specs.of_row_runs.Run.{runs}
use Rattle.flat_form.specs.of_code_parts.Counts.{code_size, count_of}
use Rattle.flat_form.specs.Act.{act, flat_run}
use Rattle.flat_form.specs.Row as row
use Rattle.flat_form.specs.Row.{all_inlined, inlined}
use Rattle.flat_form.specs.Whole.{start_whole}
use Rattle.text_sharing.specs.Shared.{row_shared, texts_shared}
use Rattle.text_sharing.proofs.DifferentLemmas.{different-smaller, text-again}

-- ---- inline
row-inline : (tables : Tables) (one : Instr) →
    inlined (texts_shared tables) (row_shared tables.texts one) ≡ inlined tables one
row-inline tables (instr.Print text) = ap row.Print (text-again tables.texts text)
row-inline tables one = refl

maps : {X Y Z : Type 0} (f : X → Y) (g : Y → Z) (h : X → Z) → ((x : X) → g (f x) ≡ h x) →
    (xs : List X) → map g (map f xs) ≡ map h xs
maps f g h each [] = refl
maps f g h each (x ∷ xs) =
    ap (λ y. y ∷ map g (map f xs)) (each x) ∙ ap (λ l. h x ∷ l) (maps f g h each xs)

pub shared-inline : (tables : Tables) → all_inlined (texts_shared tables) ≡ all_inlined tables
shared-inline tables =
    maps (row_shared tables.texts) (inlined (texts_shared tables)) (inlined tables)
    (row-inline tables) tables.code

pub shared-run : (tables : Tables) (a n : ℕ) →
    flat_run (texts_shared tables) a n ≡ flat_run tables a n
shared-run tables a n =
    ap (λ rows. runs (act tables n) rows a 0 (start_whole tables)) (shared-inline tables)

-- ---- sizes
pub shared-size : (tables : Tables) → code_size (texts_shared tables) ≤ code_size tables
shared-size tables =
    omega (
      arith,
      different-smaller tables.texts,
      length-map {A = Instr} {B = Instr},
    )

pub shared-bare : (tables : Tables) →
    code_size (record (texts_shared tables) { texts = [] })
    ≡ code_size (record tables { texts = [] })
shared-bare tables = omega (arith, length-map {A = Instr} {B = Instr})

-- ---- counts
row-counted : (texts : List (List ℕ)) (test : Instr → Bool) →
    ((old new : ℕ) → test (instr.Print old) ≡ test (instr.Print new)) → (one : Instr) →
    test (row_shared texts one) ≡ test one
row-counted texts test alike (instr.Print text) = alike _ _
row-counted texts test alike one = refl

counted : (f : Instr → Instr) (test : Instr → Bool) → ((one : Instr) → test (f one) ≡ test one) →
    (rows : List Instr) → count_by test (map f rows) ≡ count_by test rows
counted f test each [] = refl
counted f test each (one ∷ rows) =
    let number : Instr → ℕ = λ one. cond (test one) 1 0 in
    omega (
      arith,
      sum_by-cons number (f one) (map f rows),
      sum_by-cons number one rows,
      counted f test each rows,
      ap {B = ℕ} (λ b. cond b 1 0) (each one),
    )

pub shared-counted : (tables : Tables) (test : Instr → Bool) →
    ((old new : ℕ) → test (instr.Print old) ≡ test (instr.Print new)) →
    count_of test (texts_shared tables) ≡ count_of test tables
shared-counted tables test alike =
    counted (row_shared tables.texts) test (row-counted tables.texts test alike) tables.code
