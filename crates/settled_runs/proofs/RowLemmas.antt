-- Passes over flat tables leave what holds of each row, where it holds of every loop and `room` and goes
-- by no goal: no vote comes in, and rows keep three dimensions.
use Rattle.std.proofs.Common.{◌≡◌, refl, sym, subst, ℕ, ◌+◌, Bool, true, false, List, [], ◌∷◌, ◌++◌}
use Rattle.std.proofs.Common.{length, map, All, Option, Some, None}
use Rattle.std.specs.Prelude.{cond, filter, flat_map, ⊤}
use Rattle.std.specs.List.{AllByRecursion}
use Rattle.std.proofs.lemmas.List.Elements.{All-from_recursion, All-weaker, recursion_from_All}
use Rattle.row_runs.specs.Cut.{Stretch, all_rows, as_list, moved_by, rows_of}
use Rattle.row_runs.proofs.CutLemmas.{cut_rows}
use Rattle.node_form.specs.declared.instructions.Instr.{Instr}
use Rattle.node_form.specs.declared.instructions.Instr.TheVariants as instr
use Rattle.node_form.specs.declared.tables.Tables.{Tables}
use Rattle.node_form.specs.Fits.{Fits}
use Rattle.code_parts.specs.Counts.{is_vote}
use Rattle.code_parts.specs.Stretch.{ends_stretch, is_goal}
use Rattle.flat_form.specs.Flat.{IsFlat, IsFlatRow}
use Rattle.flat_passes.specs.Grouped as grouped
use Rattle.flat_passes.specs.Grouped.{Grouped, Runs, all_numbered, ended_by, group_of}
use Rattle.flat_passes.specs.Grouped.{rewritten_rows}
use Rattle.flat_passes.specs.Rewritten.{rewritten_code, stretches_of, with_moved_goal}
use Rattle.flat_passes.proofs.StretchLemmas.{HoldsOf, IsCut, all_cut, news_hold}
use Rattle.temp_norm.specs.Normalised.{normalised, row_through, temporaries}
use Rattle.temp_norm.specs.Pieces.{row_written}
use Rattle.bound_check.specs.Checked.{checked, stays}
use Rattle.normal_runs.proofs.KeptLemmas.{loop_front, rows_hold}
use Rattle.normal_runs.proofs.PassLemmas.{each_holds, front_holds, last_holds}
use Rattle.fused_runs.proofs.of_contracted_runs.ThreeLemmas.{checked_three, normalised_three}
use Rattle.fused_runs.specs.Typed.{HasThreeDims, IsTyped}

filter_hold : (P : Instr → Type 0) (test : Instr → Bool) (rows : List Instr)
    → AllByRecursion P rows → AllByRecursion P (filter test rows)
filter_hold P test [] all = tt
filter_hold P test (row ∷ rows) all = by (test row) (filter_hold P test rows all.1)
  where
    by : (b : Bool) → AllByRecursion P (filter test rows)
        → AllByRecursion P (cond b (row ∷ filter test rows) (filter test rows))
    by true more = (all.0, more)
    by false more = more

module _ (P : Instr → Type 0) (loops : (slot group : ℕ) → P (instr.Loop slot group))
    (rooms : (array slot : ℕ) → P (instr.Room array slot))
    (moved_hold : (moved : ℕ → ℕ) (row : Instr) → P row → P (with_moved_goal moved row)) where
  abbrev OfGrouped : Grouped → Type 0
  OfGrouped (Runs slot group) = ⊤
  OfGrouped (grouped.Plain row) = P row

  -- ---- rows of drafts
  numbered_hold : (n : ℕ) (rows : List Grouped) → AllByRecursion OfGrouped rows
      → AllByRecursion P (all_numbered n rows)
  numbered_hold n [] all = tt
  numbered_hold n (Runs slot group ∷ rows) all = (loops slot n, numbered_hold (n + 1) rows all.1)
  numbered_hold n (grouped.Plain row ∷ rows) all = (all.0, numbered_hold (n + 0) rows all.1)

  module _ (code : List Instr) (all : AllByRecursion P code) where
    abbrev stretches : List (Stretch Instr)
    stretches = stretches_of code

    each_stretch : AllByRecursion (λ stretch. AllByRecursion P (rows_of stretch)) stretches
    each_stretch =
        let same : all_rows stretches ≡ code = cut_rows ends_stretch (is_goal code) 0 code in
        each_holds P stretches (subst (AllByRecursion P) (sym same) all)

  -- ---- values that go through temporaries
  module _ (tables : Tables) (fits : Fits tables) (none : All P tables.code) where
    old : AllByRecursion P tables.code
    old = recursion_from_All P tables.code none

    abbrev rewrite : List Instr → List Grouped
    rewrite rows =
        flat_map (row_through tables (temporaries tables)) (map (grouped.grouped tables) rows)

    row_hold : (row : Instr) → P row
        → AllByRecursion OfGrouped (row_written tables (temporaries tables) row)
    row_hold (instr.Loop slot group) e =
        loop_front tables fits 0 OfGrouped (λ slot group. tt) (λ array slot. rooms array slot) slot group
    row_hold row e = (e, tt)

    each_row : (rows : List Instr) → AllByRecursion P rows
        → AllByRecursion (λ row.
        AllByRecursion OfGrouped (row_written tables (temporaries tables) row)) rows
    each_row [] all = tt
    each_row (row ∷ rows) all = (row_hold row all.0, each_row rows all.1)

    all_hold : (moved : ℕ → ℕ) (some : List (Stretch Instr))
        → AllByRecursion (λ stretch. AllByRecursion P (rows_of stretch)) some
        → AllByRecursion (HoldsOf OfGrouped rewrite ended_by moved) some
    all_hold moved [] all = tt
    all_hold moved (stretch ∷ some) all = (
      record {
        front = rows_hold tables fits 0 OfGrouped stretch.front
            (each_row stretch.front
            (front_holds P stretch.front (as_list stretch.last) all.0));
        last = λ row last.
            moved_hold moved row (last_holds P stretch.front stretch.last row last all.0);
      },
      all_hold moved some all.1,
    )

    pub normalised_hold : All P (normalised tables).code
    normalised_hold =
        let rows = rewritten_rows tables (flat_map (row_through tables (temporaries tables))) in
        All-from_recursion P (all_numbered 0 rows)
        (numbered_hold 0 rows
        (news_hold OfGrouped rewrite ended_by
        (moved_by rewrite ended_by (stretches_of tables.code)) (stretches_of tables.code)
        (all_hold (moved_by rewrite ended_by (stretches_of tables.code)) (stretches_of tables.code)
        (each_stretch tables.code old))))

  -- ---- checks that are left out
  module _ (tables : Tables) (none : All P tables.code) where
    abbrev stayed : List Instr → List Instr
    stayed rows = filter (stays tables) rows

    all_stay : (moved : ℕ → ℕ) (some : List (Stretch Instr))
        → AllByRecursion (λ stretch. AllByRecursion P (rows_of stretch)) some
        → AllByRecursion (HoldsOf P stayed with_moved_goal moved) some
    all_stay moved [] all = tt
    all_stay moved (stretch ∷ some) all = (
      record {
        front = filter_hold P (stays tables) stretch.front
            (front_holds P stretch.front (as_list stretch.last) all.0);
        last = λ row last.
            moved_hold moved row (last_holds P stretch.front stretch.last row last all.0);
      },
      all_stay moved some all.1,
    )

    pub checked_hold : All P (checked tables).code
    checked_hold =
        All-from_recursion P (checked tables).code
        (news_hold P stayed with_moved_goal
        (moved_by stayed with_moved_goal (stretches_of tables.code)) (stretches_of tables.code)
        (all_stay (moved_by stayed with_moved_goal (stretches_of tables.code))
        (stretches_of tables.code)
        (each_stretch tables.code (recursion_from_All P tables.code none))))

-- ---- votes
abbrev IsNoVote : Instr → Type 0
IsNoVote row = is_vote row ≡ false

abbrev pub HaveNoVotes : Tables → Type 0
HaveNoVotes tables = All IsNoVote tables.code

-- none in a flat program
no_vote : (row : Instr) → IsFlatRow row → IsNoVote row
no_vote (instr.Vote group) flat = absurd flat
no_vote (instr.TreeVote group) flat = absurd flat
no_vote row flat = refl

pub no_votes : (tables : Tables) → IsFlat tables → HaveNoVotes tables
no_votes tables flat = All-weaker IsFlatRow IsNoVote no_vote tables.code flat.rows

vote_moved : (moved : ℕ → ℕ) (row : Instr) → IsNoVote row → IsNoVote (with_moved_goal moved row)
vote_moved moved (instr.Jump goal) e = refl
vote_moved moved (instr.Unless expr goal line) e = refl
vote_moved moved row e = e

pub normalised_votes : (tables : Tables) → Fits tables → HaveNoVotes tables
    → HaveNoVotes (normalised tables)
normalised_votes tables fits none =
    normalised_hold IsNoVote (λ slot group. refl) (λ array slot. refl) vote_moved tables fits none

pub checked_votes : (tables : Tables) → HaveNoVotes tables → HaveNoVotes (checked tables)
checked_votes tables none =
    checked_hold IsNoVote (λ slot group. refl) (λ array slot. refl) vote_moved tables none

-- ---- three dimensions
three_moved : (moved : ℕ → ℕ) (row : Instr) → HasThreeDims row
    → HasThreeDims (with_moved_goal moved row)
three_moved moved (instr.Jump goal) is = tt
three_moved moved (instr.Unless expr goal line) is = tt
three_moved moved row is = is

pub normalised_typed : (tables : Tables) → Fits tables → IsTyped tables
    → IsTyped (normalised tables)
normalised_typed tables fits typed = record {
  arrays = normalised_three tables typed.arrays;
  rows =
      normalised_hold HasThreeDims (λ slot group. tt) (λ array slot. tt) three_moved tables fits
      typed.rows;
}

pub checked_typed : (tables : Tables) → IsTyped tables → IsTyped (checked tables)
checked_typed tables typed = record {
  arrays = checked_three tables typed.arrays;
  rows =
      checked_hold HasThreeDims (λ slot group. tt) (λ array slot. tt) three_moved tables typed.rows;
}
