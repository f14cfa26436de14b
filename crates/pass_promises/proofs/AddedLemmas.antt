-- Rows that are added where values go through temporaries.
use Rattle.std.proofs.Common.{◌≡◌, refl, sym, ◌∙◌, ap, subst, arith, ℕ, ◌+◌, ◌*◌, ◌≤◌, Bool, true}
use Rattle.std.proofs.Common.{false, List, [], ◌∷◌, ◌++◌, length}
use Rattle.std.specs.Prelude.{cond, count_by, flat_map, map, if◌then◌else◌, Option, Some, None}
use Rattle.std.specs.Prelude.{slice_get, sum_by}
use Rattle.std.specs.Option.{option_map}
use Rattle.std.specs.List.{AllByRecursion}
use Rattle.std.proofs.lemmas.List.Sums.{sum_by-append, sum_by-cons}
use Rattle.row_runs.specs.Cut.{Stretch, as_list, moved_by}
use Rattle.row_runs.proofs.CutLemmas.{cut_rows}
use Rattle.node_form.specs.declared.arrays.ArrayRow.{ArrayRow}
use Rattle.node_form.specs.declared.members.Member.{Member}
use Rattle.node_form.specs.declared.members.Member.TheVariants as member
use Rattle.node_form.specs.declared.instructions.Instr.{Instr}
use Rattle.node_form.specs.declared.instructions.Instr.TheVariants as instr
use Rattle.node_form.specs.declared.tables.Tables.{Tables}
use Rattle.code_parts.specs.Counts.{count_of, is_loop}
use Rattle.code_parts.specs.Stretch.{ends_stretch, is_goal}
use Rattle.fuse_contract.specs.of_flat_passes.Rewritten.{stretches_of, with_moved_goal}
use Rattle.fuse_contract.specs.of_flat_passes.Grouped.{Grouped, Runs, Plain, all_numbered, ended_by, group_of}
use Rattle.fuse_contract.specs.of_flat_passes.Grouped.{grouped, numbered, rewritten_rows}
use Rattle.fuse_contract.proofs.of_flat_passes.StretchLemmas.{AtMost, at_most, count_append}
use Rattle.fuse_contract.specs.of_temp_norm.Normalised.{loop_through, loops_on_itself, loops_on_themselves}
use Rattle.fuse_contract.specs.of_temp_norm.Normalised.{normalised, place_among, put_alone, put_through}
use Rattle.fuse_contract.specs.of_temp_norm.Normalised.{reads_itself, row_through, temporaries}
use Rattle.pass_promises.specs.Promises.{is_other, is_room}

-- ---- Rows that pass a test, which is the same for all loops: at most `cost` more of them for each
-- loop that reads itself.
module _ (test : Instr → Bool) (on_loop : Bool) (cost : ℕ)
    (loops : (slot group : ℕ) → test (instr.Loop slot group) ≡ on_loop)
    (unmoved : (moved : ℕ → ℕ) (row : Instr) → test (with_moved_goal moved row) ≡ test row)
    (costs : (array slot : ℕ) → cond (test (instr.Room array slot)) 1 0 + 2 * cond on_loop 1 0
    ≤ cond on_loop 1 0 + cost) where
  abbrev passes : Grouped → Bool
  passes (Runs slot group) = on_loop
  passes (Plain row) = test row

  abbrev one : Bool → ℕ
  one b = cond b 1 0

  count_cons : {X : Type 0} (f : X → Bool) (x : X) (xs : List X)
      → count_by f (x ∷ xs) ≡ one (f x) + count_by f xs
  count_cons f x xs = sum_by-cons (λ y. cond (f y) 1 0) x xs

  numbered_count : (n : ℕ) (rows : List Grouped)
      → count_by test (all_numbered n rows) ≡ count_by passes rows
  numbered_count n [] = refl
  numbered_count n (row ∷ rows) =
      count_cons test (numbered n row) (all_numbered (n + length (group_of row)) rows)
      ∙ omega (
        arith,
        ap one (by row),
        numbered_count (n + length (group_of row)) rows,
        count_cons passes row rows,
      )
    where
      by : (row : Grouped) → test (numbered n row) ≡ passes row
      by (Runs slot group) = loops slot n
      by (Plain row) = refl

  two_more : (a b : Grouped) → count_by passes (a ∷ b ∷ []) ≡ one (passes a) + one (passes b)
  two_more a b = omega (arith, count_cons passes a (b ∷ []), count_cons passes b [])

  alone : (row : Grouped) → count_by passes (row ∷ []) ≡ one (passes row)
  alone row = omega (arith, count_cons passes row [])

  through_count : (temporary read slot : ℕ) (group : List Member)
      → count_by passes (put_through temporary read slot group) ≤ one on_loop + cost
  through_count temporary read slot (member.Put array expr mask line ∷ []) =
      let room = Plain (instr.Room temporary slot) in
      let into = Runs slot (member.Put temporary expr mask line ∷ []) in
      let out = Runs slot (member.Put array read mask line ∷ []) in
      omega (
        arith,
        count_cons passes room (into ∷ out ∷ []),
        two_more into out,
        costs temporary slot,
      )
  through_count temporary read slot [] = omega (arith, alone (Runs slot []))
  through_count temporary read slot (member.Put array expr mask line ∷ two ∷ group) =
      omega (arith, alone (Runs slot (member.Put array expr mask line ∷ two ∷ group)))
  through_count temporary read slot (first ∷ group) = omega (
    arith,
    alone (Runs slot
        (first ∷ group)),
  )

  module _ (tables : Tables) where
    abbrev extra : List ArrayRow
    extra = temporaries tables

    loop_count : (slot : ℕ) (group : List Member) (arrays : List ℕ)
        → count_by passes (loop_through tables extra slot group arrays) ≤ one on_loop + cost
    loop_count slot group [] = omega (arith, alone (Runs slot group))
    loop_count slot group (array ∷ arrays) =
        let place = place_among extra (slice_get tables.arrays array) in
        through_count (length tables.arrays + place) (length tables.exprs + place) slot group

    row_count : (row : Grouped)
        → count_by passes (row_through tables extra row)
        ≤ one (passes row) + cond (loops_on_itself tables row) cost 0
    row_count (Runs slot group) = by (reads_itself tables group)
      where
        by : (b : Bool)
            → count_by passes
            (loop_through tables extra slot group (if b then put_alone group else []))
            ≤ one on_loop + cond b cost 0
        by true = loop_count slot group (put_alone group)
        by false = omega (arith, alone (Runs slot group))
    row_count (Plain row) = omega (arith, alone (Plain row))

    same_test : (row : Instr) → passes (grouped tables row) ≡ test row
    same_test (instr.Loop slot group) = sym (loops slot group)
    same_test row = refl

    abbrev added : Instr → ℕ
    added row = cond (loops_on_itself tables (grouped tables row)) cost 0

    front_count : (rows : List Instr)
        → count_by passes (flat_map (row_through tables extra) (map (grouped tables) rows))
        ≤ count_by test rows + sum_by added rows
    front_count [] = omega arith
    front_count (row ∷ rows) =
        omega (
          arith,
          count_append passes (row_through tables extra (grouped tables row))
              (flat_map (row_through tables extra) (map (grouped tables) rows)),
          row_count (grouped tables row),
          ap one (same_test row),
          front_count rows,
          count_cons test row rows,
          sum_by-cons added row rows,
        )

    abbrev rewrite : List Instr → List Grouped
    rewrite rows = flat_map (row_through tables extra) (map (grouped tables) rows)

    abbrev moved : ℕ → ℕ
    moved = moved_by rewrite ended_by (stretches_of tables.code)

    abbrev allowed : List Instr → ℕ
    allowed rows = count_by test rows + sum_by added rows

    allowed_adds : (xs ys : List Instr) → allowed (xs ++ ys) ≡ allowed xs + allowed ys
    allowed_adds xs ys = omega (arith, count_append test xs ys, sum_by-append added xs ys)

    ended_count : (last : Option Instr)
        → count_by passes (as_list (option_map (ended_by moved) last)) ≤ allowed (as_list last)
    ended_count None = omega arith
    ended_count (Some row) =
        omega (
          arith,
          alone (ended_by moved row),
          ap one (unmoved moved row),
          count_cons test row [],
        )

    all_counts : (stretches : List (Stretch Instr))
        → AllByRecursion (AtMost allowed (count_by passes) allowed_adds (count_append passes) refl
        rewrite ended_by moved) stretches
    all_counts [] = tt
    all_counts (stretch ∷ stretches) = (
      record { front = front_count stretch.front; last = ended_count stretch.last },
      all_counts stretches,
    )

    pub few_added : count_of test (normalised tables)
        ≤ count_of test tables + sum_by added tables.code
    few_added =
        subst (λ old. count_of test (normalised tables) ≤ allowed old)
        (cut_rows ends_stretch (is_goal tables.code) 0 tables.code)
        (omega (
          arith,
          numbered_count 0 (rewritten_rows tables (flat_map (row_through tables extra))),
          at_most allowed (count_by passes) allowed_adds (count_append passes) refl
              rewrite ended_by moved (stretches_of tables.code)
              (all_counts (stretches_of tables.code)),
        ))

-- ---- rooms, loops and other rows
room_unmoved : (moved : ℕ → ℕ) (row : Instr) → is_room (with_moved_goal moved row) ≡ is_room row
room_unmoved moved (instr.Jump goal) = refl
room_unmoved moved (instr.Unless expr goal line) = refl
room_unmoved moved row = refl

loop_unmoved : (moved : ℕ → ℕ) (row : Instr) → is_loop (with_moved_goal moved row) ≡ is_loop row
loop_unmoved moved (instr.Jump goal) = refl
loop_unmoved moved (instr.Unless expr goal line) = refl
loop_unmoved moved row = refl

other_unmoved : (moved : ℕ → ℕ) (row : Instr)
    → is_other (with_moved_goal moved row) ≡ is_other row
other_unmoved moved (instr.Jump goal) = refl
other_unmoved moved (instr.Unless expr goal line) = refl
other_unmoved moved row = refl

pub few_rooms : (tables : Tables)
    → count_of is_room (normalised tables) ≤ count_of is_room tables + loops_on_themselves tables
few_rooms tables =
    few_added is_room false 1 (λ slot group. refl) room_unmoved (λ array slot. omega arith) tables

pub few_loops : (tables : Tables)
    → count_of is_loop (normalised tables) ≤ count_of is_loop tables + loops_on_themselves tables
few_loops tables =
    few_added is_loop true 1 (λ slot group. refl) loop_unmoved (λ array slot. omega arith) tables

none : (b : Bool) → (let n : ℕ = 0 in cond b n n ≡ n)
none true = refl
none false = refl

none_added : (test : Instr → Bool) (rows : List Instr)
    → sum_by (λ row. cond (test row) 0 0) rows ≡ 0
none_added test [] = refl
none_added test (row ∷ rows) =
    sum_by-cons (λ row. cond (test row) 0 0) row rows
    ∙ omega (arith, none (test row), none_added test rows)

pub no_others : (tables : Tables) → count_of is_other (normalised tables) ≤ count_of is_other tables
no_others tables =
    omega (
      arith,
      few_added is_other false 0 (λ slot group. refl) other_unmoved
          (λ array slot. omega arith) tables,
      none_added (λ row. loops_on_itself tables (grouped tables row)) tables.code,
    )
