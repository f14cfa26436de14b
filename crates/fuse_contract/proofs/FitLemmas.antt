-- Tables that fit do so with their loops joined.
use Rattle.std.proofs.Common.{◌≡◌, refl, sym, ap, ◌∙◌, subst, arith, ℕ, zero, suc, ◌-◌, ◌≤◌}
use Rattle.std.proofs.Common.{Bool, true, false, true≢false, List, [], ◌∷◌, ◌++◌, eqb-true, length}
use Rattle.std.proofs.Common.{length-append, map}
use Rattle.std.specs.Prelude.{All, if◌then◌else◌, Option, Some, None, option_and_then}
use Rattle.std.specs.Prelude.{slice_get}
use Rattle.std.specs.Option.{IsSomeAnd, option_map}
use Rattle.std.specs.List.{AllByRecursion}
use Rattle.std.proofs.lemmas.List.Elements.{All-append, recursion_from_All}
use Rattle.temp_norm.specs.of_row_runs.Segments.{Segment, news}
use Rattle.temp_norm.specs.of_row_runs.Cut.{Stretch, all_rows, as_list, moved_by, relocated, rows_of, segments_by}
use Rattle.temp_norm.proofs.of_row_runs.CutLemmas.{cut_rows}
use Rattle.temp_norm.specs.of_node_form.declared.arrays.Item.{Item}
use Rattle.temp_norm.specs.of_node_form.declared.members.Member.{Member}
use Rattle.temp_norm.specs.of_node_form.declared.instructions.Instr.{Instr}
use Rattle.temp_norm.specs.of_node_form.declared.instructions.Instr.TheVariants as instr
use Rattle.temp_norm.specs.of_node_form.declared.tables.Tables.{Tables}
use Rattle.temp_norm.specs.of_node_form.Fits.{Fits, FitsInstr, FitsMember, HasSlot}
use Rattle.temp_norm.specs.of_node_form.Nest.{IsNest, opened}
use Rattle.temp_norm.proofs.of_node_form.GrowthLemmas.{Fits-group-row}
use Rattle.temp_norm.proofs.of_node_form.NestLemmas.{IsNest-opened, opened-append}
use Rattle.temp_norm.proofs.of_code_parts.WalkLemmas.{both_left}
use Rattle.temp_norm.specs.of_code_parts.Counts.{is_vote}
use Rattle.temp_norm.specs.of_code_parts.Stretch.{ends_stretch, is_goal}
use Rattle.temp_norm.specs.of_code_parts.Uses.{rows_or_none}
use Rattle.temp_norm.specs.of_flat_passes.Grouped.{Grouped, Plain, Runs, ended_by, grouped, rewritten_rows}
use Rattle.temp_norm.specs.of_flat_passes.Rewritten.{stretches_of}
use Rattle.temp_norm.proofs.of_flat_passes.FitLemmas.{FitsGrouped, FitsInline, laid_fits}
use Rattle.temp_norm.proofs.of_flat_passes.StretchLemmas.{HoldsOf, IsCut, all_cut, every_append, news_hold}
use Rattle.fuse_contract.specs.Fusing.{Loop, both, fused, joined, joins, known_behind, last_rows}
use Rattle.fuse_contract.specs.Fusing.{references_of, with_loop}

-- ---- members of two groups, one behind the other
nest_both : (group other : List Member) → IsNest group → IsNest other → IsNest (group ++ other)
nest_both group other one two =
    (IsNest-opened (group ++ other)).1
    (opened-append [] group other
    ∙ (ap (option_and_then (λ next. opened next other)) ((IsNest-opened group).0 one)
    ∙ (IsNest-opened other).0 two))

-- ---- where rows come to stand
moved_less : {Old New : Type 0} (segments : List (Segment Old New)) (g : ℕ)
    → relocated segments g ≤ length (news segments)
moved_less [] g = omega arith
moved_less (segment ∷ segments) zero = omega arith
moved_less (segment ∷ segments) (suc g) =
    omega (
      arith,
      length-append segment.new (news segments),
      moved_less segments (suc g - length segment.old),
    )

module _ (rewrite : List Instr → List Grouped) where
  last_long : (one other : ℕ → ℕ) (last : Option Instr)
      → length (as_list (option_map (ended_by one) last))
      ≡ length (as_list (option_map (ended_by other) last))
  last_long one other None = refl
  last_long one other (Some row) = refl

  as_long : (one other : ℕ → ℕ) (stretches : List (Stretch Instr))
      → length (news (segments_by rewrite ended_by one stretches))
      ≡ length (news (segments_by rewrite ended_by other stretches))
  as_long one other [] = refl
  as_long one other (stretch ∷ stretches) =
      omega (
        arith,
        length-append (rewrite stretch.front ++ as_list (option_map (ended_by one) stretch.last))
            (news (segments_by rewrite ended_by one stretches)),
        length-append (rewrite stretch.front) (as_list (option_map (ended_by one) stretch.last)),
        length-append (rewrite stretch.front ++ as_list (option_map (ended_by other) stretch.last))
            (news (segments_by rewrite ended_by other stretches)),
        length-append (rewrite stretch.front) (as_list (option_map (ended_by other) stretch.last)),
        last_long one other stretch.last,
        as_long one other stretches,
      )

some_same : (a b : ℕ) → (let s : Option ℕ = Some a in s) ≡ Some b → a ≡ b
some_same a b e = cc

module _ (tables : Tables) (fits : Fits tables) (end : ℕ) where
  abbrev Fit : Grouped → Type 0
  Fit row = FitsGrouped tables end row

  abbrev LastFits : Option Loop → Type 0
  LastFits None = Unit {0}
  LastFits (Some loop) = FitsInline tables loop.slot loop.group

  last_fit : (last : Option Loop) → LastFits last
      → AllByRecursion (FitsGrouped tables end) (last_rows last)
  last_fit None fit = tt
  last_fit (Some loop) fit = (fit, tt)

  both_fit : (loop other : Loop) → loop.slot ≡ other.slot → LastFits (Some loop)
      → LastFits (Some other) → LastFits (Some (both tables loop other))
  both_fit loop other same one two =
      let ranks : two.rank ≡ one.rank =
      some_same two.rank one.rank (sym two.over ∙ (ap (slice_get tables.slots) (sym same) ∙ one.over))
      in
      record {
        rank = one.rank;
        over = one.over;
        nest = nest_both loop.group other.group one.nest two.nest;
        fit =
            All-append (FitsMember tables one.rank) loop.group other.group one.fit
            (subst (λ rank. All (FitsMember tables rank) other.group) ranks two.fit);
      }

  loop_fits : (known : List Item) (last : Option Loop) (loop : Loop) (rest : Loop → List Grouped)
      → LastFits last → LastFits (Some loop)
      → ((one : Loop) → LastFits (Some one) → AllByRecursion (FitsGrouped tables end) (rest one))
      → AllByRecursion (FitsGrouped tables end) (with_loop tables known last loop rest)
  loop_fits known None loop rest before fit later = later loop fit
  loop_fits known (Some last) loop rest before fit later = by (joins tables known last loop) refl
    where
      by : (b : Bool) → joins tables known last loop ≡ b
          → AllByRecursion (FitsGrouped tables end) (if b then rest (both tables last loop)
          else Runs last.slot last.group ∷ rest loop)
      by true e =
          later (both tables last loop)
          (both_fit last loop (eqb-true last.slot loop.slot
          (both_left _ _ (both_left _ _ (both_left _ _ e))))
          before fit)
      by false e = (before, later loop fit)

  joined_fit : (known : List Item) (last : Option Loop) (rows : List Grouped) → LastFits last
      → AllByRecursion (FitsGrouped tables end) rows
      → AllByRecursion (FitsGrouped tables end) (joined tables known last rows)
  joined_fit known last [] before all = last_fit last before
  joined_fit known last (Runs slot group ∷ rows) before all =
      loop_fits known last (record { slot = slot; group = group })
      (λ loop. joined tables (references_of tables slot group ++ known) (Some loop) rows) before
      all.0
      (λ one fit. joined_fit (references_of tables slot group ++ known) (Some one) rows fit all.1)
  joined_fit known last (Plain row ∷ rows) before all =
      every_append (FitsGrouped tables end) (last_rows last)
      (Plain row ∷ joined tables (known_behind known row) None rows) (last_fit last before)
      (all.0, joined_fit (known_behind known row) None rows tt all.1)

  -- ---- rows of tables
  group_fits : (slot rank group : ℕ) → HasSlot tables rank slot
      → (found : Option (List Member)) → slice_get tables.groups group ≡ found
      → IsSomeAnd found (All (FitsMember tables rank))
      → FitsInline tables slot (rows_or_none found)
  group_fits slot rank group over None is has = absurd has
  group_fits slot rank group over (Some members) is has = record {
    rank = rank;
    over = over;
    nest = (Fits-group-row tables group members fits is).nest;
    fit = has;
  }

  row_fits : (row : Instr) → ends_stretch row ≡ false → is_vote row ≡ false
      → FitsInstr tables row → FitsGrouped tables end (grouped tables row)
  row_fits (instr.Loop slot group) ends vote fit =
      group_fits slot fit.rank group fit.fit.0 (slice_get tables.groups group) refl fit.fit.1
  row_fits (instr.Jump goal) ends vote fit = absurd (true≢false ends)
  row_fits (instr.Unless expr goal line) ends vote fit = absurd (true≢false ends)
  row_fits (instr.Vote group) ends vote fit = absurd (true≢false vote)
  row_fits (instr.TreeVote group) ends vote fit = absurd (true≢false vote)
  row_fits row ends vote fit = fit

  front_fits : (rows : List Instr) → AllByRecursion (λ row. ends_stretch row ≡ false) rows
      → AllByRecursion (λ row. is_vote row ≡ false) rows → AllByRecursion (FitsInstr tables) rows
      → AllByRecursion (FitsGrouped tables end) (map (grouped tables) rows)
  front_fits [] straight votes all = tt
  front_fits (row ∷ rows) straight votes all = (
    row_fits row straight.0 votes.0 all.0,
    front_fits rows straight.1 votes.1 all.1,
  )

  end_fits : (moved : ℕ → ℕ) → ((g : ℕ) → moved g ≤ end) → (row : Instr)
      → ends_stretch row ≡ true → FitsInstr tables row
      → FitsGrouped tables end (ended_by moved row)
  end_fits moved less (instr.Jump goal) ends fit = less goal
  end_fits moved less (instr.Unless expr goal line) ends fit = (fit.fit.0, less goal)
  end_fits moved less (instr.Trap kind line) ends fit = fit
  end_fits moved less instr.End ends fit = fit
  end_fits moved less _ ends fit = absurd (true≢false (sym ends))

  -- ---- stretches
  every_front : {X : Type 0} (P : X → Type 0) (xs ys : List X) → AllByRecursion P (xs ++ ys)
      → AllByRecursion P xs
  every_front P [] ys all = tt
  every_front P (x ∷ xs) ys all = (all.0, every_front P xs ys all.1)

  every_back : {X : Type 0} (P : X → Type 0) (xs ys : List X) → AllByRecursion P (xs ++ ys)
      → AllByRecursion P ys
  every_back P [] ys all = all
  every_back P (x ∷ xs) ys all = every_back P xs ys all.1

  last_of : (P : Instr → Type 0) (last : Option Instr) → AllByRecursion P (as_list last)
      → (row : Instr) → last ≡ Some row → P row
  last_of P None all row is = absurd (none row is)
    where
      none : (row : Instr) → (let n : Option Instr = None in n) ≡ Some row → ⊥
      none row is = cc
  last_of P (Some one) all row is = let same : one ≡ row = cc in subst P same all.0

  abbrev rewrite : List Instr → List Grouped
  rewrite rows = joined tables [] None (map (grouped tables) rows)

  stretches_fit : (moved : ℕ → ℕ) → ((g : ℕ) → moved g ≤ end)
      → (stretches : List (Stretch Instr))
      → AllByRecursion (IsCut ends_stretch (is_goal tables.code)) stretches
      → AllByRecursion (λ row. is_vote row ≡ false) (all_rows stretches)
      → AllByRecursion (FitsInstr tables) (all_rows stretches)
      → AllByRecursion (HoldsOf (FitsGrouped tables end) rewrite ended_by moved) stretches
  stretches_fit moved less [] cuts votes all = tt
  stretches_fit moved less (stretch ∷ stretches) cuts votes all =
      let here = every_front (FitsInstr tables) (rows_of stretch) (all_rows stretches) all in
      let calm = every_front (λ row. is_vote row ≡ false) (rows_of stretch) (all_rows stretches) votes in (
        record {
          front =
              joined_fit [] None (map (grouped tables) stretch.front) tt
              (front_fits stretch.front cuts.0.straight
              (every_front (λ row. is_vote row ≡ false) stretch.front (as_list stretch.last) calm)
              (every_front (FitsInstr tables) stretch.front (as_list stretch.last) here));
          last = λ row is. end_fits moved less row (cuts.0.last row is)
              (last_of (FitsInstr tables) stretch.last
              (every_back (FitsInstr tables) stretch.front (as_list stretch.last) here) row is);
        },
        stretches_fit moved less stretches cuts.1
            (every_back (λ row. is_vote row ≡ false) (rows_of stretch) (all_rows stretches) votes)
            (every_back (FitsInstr tables) (rows_of stretch) (all_rows stretches) all),
      )

module _ (tables : Tables) (fits : Fits tables) where
  abbrev rows : List Grouped
  rows = rewritten_rows tables (joined tables [] None)

  abbrev moved : ℕ → ℕ
  moved = moved_by (rewrite tables fits 0) ended_by (stretches_of tables.code)

  less : (g : ℕ) → moved g ≤ length rows
  less g =
      omega (
        arith,
        moved_less (segments_by (rewrite tables fits 0) ended_by (λ g. g)
            (stretches_of tables.code)) g,
        as_long (rewrite tables fits 0) (λ g. g) moved (stretches_of tables.code),
      )

  -- tables that fit, and where nobody votes, fit with their loops joined
  pub fused_fits : All (λ row. is_vote row ≡ false) tables.code → Fits (fused tables)
  fused_fits unvoted =
      let whole = cut_rows ends_stretch (is_goal tables.code) 0 tables.code in
      laid_fits tables rows fits
      (news_hold (FitsGrouped tables (length rows)) (rewrite tables fits 0) ended_by moved
      (stretches_of tables.code)
      (stretches_fit tables fits (length rows) moved less (stretches_of tables.code)
      (all_cut ends_stretch (is_goal tables.code) 0 tables.code)
      (subst (AllByRecursion (λ row. is_vote row ≡ false)) (sym whole)
      (recursion_from_All (λ row. is_vote row ≡ false) tables.code unvoted))
      (subst (AllByRecursion (FitsInstr tables)) (sym whole)
      (recursion_from_All (FitsInstr tables) tables.code fits.code))))
