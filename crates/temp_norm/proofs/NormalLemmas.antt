-- No group reads with a shift what it puts.
use Rattle.std.proofs.Common.{◌≡◌, refl, sym, ap, ◌∙◌, subst, arith, ℕ, zero, suc, ◌+◌, ◌<◌, ◌≤◌}
use Rattle.std.proofs.Common.{Bool, true, false, true≢false, List, [], ◌∷◌, ◌++◌, length}
use Rattle.std.proofs.Common.{append-nil}
use Rattle.std.specs.Prelude.{◌||◌, ◌==◌, flat_map, map, if◌then◌else◌, Option}
use Rattle.std.specs.Prelude.{slice_get, IsSomeAnd}
use Rattle.std.specs.List.{AllByRecursion, list_any}
use Rattle.std.proofs.lemmas.Grind.{flat_map-append}
use Rattle.std.proofs.lemmas.List.Elements.{All-from_recursion, recursion_from_All}
use Rattle.flat_passes.specs.of_row_runs.Cut.{Stretch, moved_by}
use Rattle.flat_passes.specs.of_node_form.declared.words.ExprOp.{ExprOp}
use Rattle.flat_passes.specs.of_node_form.declared.words.ExprOp.TheVariants as word
use Rattle.flat_passes.specs.of_node_form.declared.arrays.ArrayRow.{ArrayRow}
use Rattle.flat_passes.specs.of_node_form.declared.members.Member.{Member}
use Rattle.flat_passes.specs.of_node_form.declared.members.Member.TheVariants as member
use Rattle.flat_passes.specs.of_node_form.declared.instructions.Instr.{Instr}
use Rattle.flat_passes.specs.of_node_form.declared.instructions.Instr.TheVariants as instr
use Rattle.flat_passes.specs.of_node_form.declared.tables.Tables.{Tables}
use Rattle.flat_passes.specs.of_node_form.Fits.{Fits, FitsExpr, FitsWord}
use Rattle.flat_passes.specs.of_code_parts.Uses.{as_list, exprs_of, member_words, members_of, put_by}
use Rattle.flat_passes.specs.of_code_parts.Uses.{rows_or_none, share, shifted_in, words_of}
use Rattle.flat_passes.specs.Rewritten.{stretches_of}
use Rattle.flat_passes.specs.Grouped.{Grouped, Runs, ended_by, group_of, grouped, groups_of}
use Rattle.flat_passes.specs.Grouped.{rewritten_rows}
use Rattle.flat_passes.proofs.StretchLemmas.{HoldsOf, every_append, news_hold}
use Rattle.temp_norm.specs.Normalised.{IsNormal, PutsAlone, ReadThemselvesAlone}
use Rattle.temp_norm.specs.Normalised.{loop_through, normalised, place_among, put_alone}
use Rattle.temp_norm.specs.Normalised.{put_through, read_each, reads_itself, row_through}
use Rattle.temp_norm.specs.Normalised.{shifted_by, temporaries}
use Rattle.temp_norm.specs.Normalised.PutsAlone.{puts_alone}

-- ---- expressions that are added read nothing with a shift
none_shifted : (first : ℕ) (rows : List ArrayRow) (k : ℕ)
    → flat_map shifted_in (rows_or_none (slice_get (read_each first rows) k)) ≡ []
none_shifted first [] k = refl
none_shifted first (row ∷ rows) zero = refl
none_shifted first (row ∷ rows) (suc k) = none_shifted (first + 1) rows k

as_before : (exprs : List (List ExprOp)) (first : ℕ) (rows : List ArrayRow) (k : ℕ)
    → flat_map shifted_in (rows_or_none (slice_get (exprs ++ read_each first rows) k))
    ≡ flat_map shifted_in (rows_or_none (slice_get exprs k))
as_before [] first rows k = none_shifted first rows k
as_before (expr ∷ exprs) first rows zero = refl
as_before (expr ∷ exprs) first rows (suc k) = as_before exprs first rows k

added : (exprs : List (List ExprOp)) (first : ℕ) (rows : List ArrayRow) (k : ℕ)
    → flat_map shifted_in (rows_or_none (slice_get (exprs ++ read_each first rows)
    (length exprs + k))) ≡ []
added [] first rows k =
    let e : 0 + k ≡ k = omega arith in
    rw e (none_shifted first rows k)
added (expr ∷ exprs) first rows k =
    let e : length (expr ∷ exprs) + k ≡ suc (length exprs + k) = omega arith in
    rw e (added exprs first rows k)

-- ---- numbers
in_range : {X : Type 0} (P : X → Type 0) (xs : List X) (k : ℕ) → IsSomeAnd (slice_get xs k) P
    → k < length xs
in_range P [] k h = absurd h
in_range P (x ∷ xs) zero h = omega arith
in_range P (x ∷ xs) (suc k) h = omega (arith, in_range P xs k h)

apart : (one other : ℕ) → other < one → (one == other) ≡ false
apart one other less = grind (arith, less)

fresh : (bound number : ℕ) → bound ≤ number → (others : List ℕ)
    → AllByRecursion (λ other. other < bound) others
    → list_any (λ other. number == other) others ≡ false
fresh bound number less [] all = refl
fresh bound number less (other ∷ others) all =
    let e : (number == other) ≡ false = apart number other (omega (arith, less, all.0)) in
    rw e (fresh bound number less others all.1)

one_member : (tables : Tables) (one : Member)
    → flat_map shifted_in (flat_map (member_words tables) (one ∷ []))
    ≡ shifted_by tables (exprs_of one)
one_member tables one = ap (flat_map shifted_in) (append-nil (member_words tables one))

either : {b : Bool} → b ≡ false → (b || false) ≡ false
either e = rw e refl

module _ (tables : Tables) (fits : Fits tables) where
  word_small : (rank : ℕ) (one : ExprOp) → FitsWord tables rank one
      → AllByRecursion (λ array. array < length tables.arrays) (shifted_in one)
  word_small rank (word.Shifted array shift) fit =
      (in_range (λ row. row.rank ≡ rank) tables.arrays array fit.0, tt)
  word_small rank one fit = tt

  words_small : (rank : ℕ) (words : List ExprOp) → AllByRecursion (FitsWord tables rank) words
      → AllByRecursion (λ array. array < length tables.arrays) (flat_map shifted_in words)
  words_small rank [] fit = tt
  words_small rank (one ∷ words) fit =
      every_append (λ array. array < length tables.arrays) (shifted_in one)
      (flat_map shifted_in words) (word_small rank one fit.0) (words_small rank words fit.1)

  at_small : (exprs : List (List ExprOp)) → AllByRecursion (FitsExpr tables) exprs → (k : ℕ)
      → AllByRecursion (λ array. array < length tables.arrays)
      (flat_map shifted_in (rows_or_none (slice_get exprs k)))
  at_small [] fit k = tt
  at_small (expr ∷ exprs) fit zero =
      words_small fit.0.rank expr
      (recursion_from_All (FitsWord tables fit.0.rank) expr fit.0.fit)
  at_small (expr ∷ exprs) fit (suc k) = at_small exprs fit.1 k

  all_small : (exprs : List ℕ)
      → AllByRecursion (λ array. array < length tables.arrays) (shifted_by tables exprs)
  all_small [] = tt
  all_small (expr ∷ exprs) =
      subst (AllByRecursion (λ array. array < length tables.arrays))
      (sym (flat_map-append shifted_in (words_of tables expr) (flat_map (words_of tables) exprs)))
      (every_append (λ array. array < length tables.arrays)
      (flat_map shifted_in (words_of tables expr)) (shifted_by tables exprs)
      (at_small tables.exprs (recursion_from_All (FitsExpr tables) tables.exprs fits.exprs) expr)
      (all_small exprs))

  -- ---- what is read with a shift is the same
  abbrev extra : List ArrayRow
  extra = temporaries tables

  same_words : (expr : ℕ) → flat_map shifted_in (words_of (normalised tables) expr)
      ≡ flat_map shifted_in (words_of tables expr)
  same_words expr = as_before tables.exprs (length tables.arrays) extra expr

  same_shifted : (exprs : List ℕ) → shifted_by (normalised tables) exprs ≡ shifted_by tables exprs
  same_shifted [] = refl
  same_shifted (expr ∷ exprs) =
      flat_map-append shifted_in (words_of (normalised tables) expr)
      (flat_map (words_of (normalised tables)) exprs)
      ∙ ap (λ list. list ++ shifted_by (normalised tables) exprs) (same_words expr)
      ∙ ap (λ list. flat_map shifted_in (words_of tables expr) ++ list) (same_shifted exprs)
      ∙ sym (flat_map-append shifted_in (words_of tables expr) (flat_map (words_of tables) exprs))

  same_in_group : (group : List Member)
      → flat_map shifted_in (flat_map (member_words (normalised tables)) group)
      ≡ flat_map shifted_in (flat_map (member_words tables) group)
  same_in_group [] = refl
  same_in_group (one ∷ group) =
      flat_map-append shifted_in (member_words (normalised tables) one)
      (flat_map (member_words (normalised tables)) group)
      ∙ ap (λ list. list ++ flat_map shifted_in (flat_map (member_words (normalised tables)) group))
      (same_shifted (exprs_of one))
      ∙ ap (λ list. shifted_by tables (exprs_of one) ++ list) (same_in_group group)
      ∙ sym (flat_map-append shifted_in (member_words tables one)
      (flat_map (member_words tables) group))

  kept : (group : List Member) → reads_itself tables group ≡ false
      → reads_itself (normalised tables) group ≡ false
  kept group e = ap (share (flat_map put_by group)) (same_in_group group) ∙ e

  -- ---- the two loops of one whose values go through a temporary
  into_temporary : (place expr : ℕ) (mask : Option ℕ) (line : ℕ)
      → reads_itself (normalised tables)
      (member.Put (length tables.arrays + place) expr mask line ∷ []) ≡ false
  into_temporary place expr mask line =
      kept (member.Put (length tables.arrays + place) expr mask line ∷ [])
      (either (fresh (length tables.arrays) (length tables.arrays + place) (omega arith)
      (flat_map shifted_in (flat_map (member_words tables)
      (member.Put (length tables.arrays + place) expr mask line ∷ [])))
      (subst (AllByRecursion (λ array. array < length tables.arrays))
      (sym (one_member tables (member.Put (length tables.arrays + place) expr mask line)))
      (all_small (expr ∷ as_list mask)))))

  from_temporary : (array place : ℕ) (mask : Option ℕ) (line : ℕ)
      → share (array ∷ []) (shifted_by tables (as_list mask)) ≡ false
      → reads_itself (normalised tables)
      (member.Put array (length tables.exprs + place) mask line ∷ []) ≡ false
  from_temporary array place mask line e =
      ap (share (array ∷ []))
      (one_member (normalised tables) (member.Put array (length tables.exprs + place) mask line)
      ∙ flat_map-append shifted_in (words_of (normalised tables) (length tables.exprs + place))
      (flat_map (words_of (normalised tables)) (as_list mask))
      ∙ ap (λ list. list ++ shifted_by (normalised tables) (as_list mask))
      (added tables.exprs (length tables.arrays) extra place)
      ∙ same_shifted (as_list mask))
      ∙ e

  -- ---- the rows that take the place of a row
  abbrev Normal : Grouped → Type 0
  Normal row =
      AllByRecursion (λ group. reads_itself (normalised tables) group ≡ false) (group_of row)

  through_normal : (place slot : ℕ) (group : List Member) → PutsAlone tables group
      → AllByRecursion Normal
      (put_through (length tables.arrays + place) (length tables.exprs + place) slot group)
  through_normal place slot group (puts_alone array expr mask line e) = (
    tt,
    (
      (into_temporary place expr mask line, tt),
      ((from_temporary array place mask line e, tt), tt),
    ),
  )

  loop_normal : (slot : ℕ) (group : List Member)
      → (reads_itself tables group ≡ true → PutsAlone tables group)
      → AllByRecursion Normal (row_through tables extra (Runs slot group))
  loop_normal slot group alone = by (reads_itself tables group) refl
    where
      by : (b : Bool) → reads_itself tables group ≡ b
          → AllByRecursion Normal
          (loop_through tables extra slot group (if b then put_alone group else []))
      by false is = ((kept group is, tt), tt)
      by true is = through group (alone is)
        where
          through : (group : List Member) → PutsAlone tables group
              → AllByRecursion Normal (loop_through tables extra slot group (put_alone group))
          through group (puts_alone array expr mask line e) =
              through_normal (place_among extra (slice_get tables.arrays array)) slot
              (member.Put array expr mask line ∷ []) (puts_alone array expr mask line e)

  -- ---- all rows
  module _ (alone : ReadThemselvesAlone tables) where
    of_group : (groups : List (List Member))
        → AllByRecursion (λ group. reads_itself tables group ≡ true → PutsAlone tables group) groups
        → (k : ℕ) → (let group = rows_or_none (slice_get groups k) in
        reads_itself tables group ≡ true → PutsAlone tables group)
    of_group [] all k e = absurd (true≢false (sym e))
    of_group (group ∷ groups) all zero e = all.0 e
    of_group (group ∷ groups) all (suc k) e = of_group groups all.1 k e

    row_normal : (row : Instr)
        → AllByRecursion Normal (row_through tables extra (grouped tables row))
    row_normal (instr.Loop slot group) =
        loop_normal slot (members_of tables group)
        (of_group tables.groups
        (recursion_from_All (λ group. reads_itself tables group ≡ true → PutsAlone tables group)
        tables.groups alone) group)
    row_normal row = (tt, tt)

    front_normal : (rows : List Instr)
        → AllByRecursion Normal (flat_map (row_through tables extra) (map (grouped tables) rows))
    front_normal [] = tt
    front_normal (row ∷ rows) =
        every_append Normal (row_through tables extra (grouped tables row))
        (flat_map (row_through tables extra) (map (grouped tables) rows))
        (row_normal row) (front_normal rows)

    abbrev rewrite : List Instr → List Grouped
    rewrite rows = flat_map (row_through tables extra) (map (grouped tables) rows)

    abbrev moved : ℕ → ℕ
    moved = moved_by rewrite ended_by (stretches_of tables.code)

    all_hold : (stretches : List (Stretch Instr))
        → AllByRecursion (HoldsOf Normal rewrite ended_by moved) stretches
    all_hold [] = tt
    all_hold (stretch ∷ stretches) =
        (record { front = front_normal stretch.front; last = λ row is. tt }, all_hold stretches)

    groups_normal : (rows : List Grouped) → AllByRecursion Normal rows
        → AllByRecursion (λ group. reads_itself (normalised tables) group ≡ false) (groups_of rows)
    groups_normal [] all = tt
    groups_normal (row ∷ rows) all =
        every_append (λ group. reads_itself (normalised tables) group ≡ false) (group_of row)
        (groups_of rows) all.0 (groups_normal rows all.1)

    pub is_normal : IsNormal (normalised tables)
    is_normal =
        All-from_recursion (λ group. reads_itself (normalised tables) group ≡ false)
        (normalised tables).groups
        (groups_normal (rewritten_rows tables (flat_map (row_through tables extra)))
        (news_hold Normal rewrite ended_by moved (stretches_of tables.code)
        (all_hold (stretches_of tables.code))))
