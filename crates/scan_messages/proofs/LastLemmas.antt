-- What the row's record makes of the own part in its last turn, as plans make it.
use Rattle.std.proofs.Common.{◌≡◌, ℕ, zero, suc, ◌-◌, ◌<◌, ◌≤◌, ◌==◌, ◌⊎◌, inl, inr, Bool, true, false, cond, ◌&&◌, Some, None, List, [], ◌∷◌, ◌++◌, All, map, replicate, take, length, get_or, slice_get, ℤ, pos, refl, sym, ap, ◌∙◌, subst, arith}
use Rattle.std.specs.Prelude.{Option, is_some, option_and_then, slice_set}
use Rattle.std.specs.List.{filter, flat_map, fold, zip}
use Rattle.std.specs.Option.{option_map}
use Rattle.std.proofs.lemmas.Bool.Decides.{Decides-int_eq}
use Rattle.std.proofs.lemmas.List.Elements.{All-cons, All-head, All-tail}
use Rattle.std.proofs.lemmas.List.Sums.{fold-append}
use Rattle.zpl_nums.specs.declared.folds.Fold.{Fold}
use Rattle.zpl_nums.specs.Fold.{folded, joined, unit_of}
use Rattle.zpl_region.specs.declared.regions.Region.{Region}
use Rattle.zpl_region.specs.Dim.{HasStep}
use Rattle.zpl_region.specs.Ends.{tuple_count}
use Rattle.zpl_region.specs.Region.{IsMember, IsRegion, members}
use Rattle.zpl_region.proofs.EndLemmas.{length-tuple_count}
use Rattle.zpl_region.proofs.HullLemmas.{has_steps}
use Rattle.zpl_region.proofs.ListLemmas.{Among, Among-filter, among_appended, among_filtered}
use Rattle.zpl_arrays.specs.Array.{Array, place_among}
use Rattle.zpl_arrays.specs.Row.{kept_values, running}
use Rattle.zpl_arrays.proofs.ArrayLemmas.{place_of_tuple}
use Rattle.grid_layout.specs.declared.blocks.Blocks.{Blocks}
use Rattle.grid_layout.specs.Grid.{processors_of}
use Rattle.grid_layout.specs.Layout.{AreBlocks, laid_out}
use Rattle.grid_layout.specs.Piece.{owned_part}
use Rattle.grid_links.specs.Machine.{Blocked}
use Rattle.node_form.specs.declared.tables.Tables.{Tables}
use Rattle.grid_meaning.specs.Action.{Unheld, goes_on, moves}
use Rattle.grid_meaning.specs.Collective.{others}
use Rattle.grid_meaning.specs.Local.{Local, processors}
use Rattle.grid_meaning.specs.Owner.{owner_for, tuples_of}
use Rattle.grid_meaning.specs.Place.{with_values}
use Rattle.grid_meaning.specs.Scan as meaning
use Rattle.grid_meaning.specs.State.{IsPart, IsSlot}
use Rattle.grid_meaning.specs.Stored.{arrangement_of}
use Rattle.grid_meaning.proofs.WorldLemmas.{processors_alike}
use Rattle.scan_plan.specs.Line.{head_of, heads, is_along, line_dim, totals_of, value_at}
use Rattle.scan_plan.specs.Scan.{LineTotal, before, block_scan, lines_of, parts_of, precedes, scan_at}
use Rattle.scan_plan.proofs.GoneLemmas.{get_or-map}
use Rattle.scan_plan.proofs.LineLemmas.{as_long, head_along, head_steps}
use Rattle.scan_plan.proofs.OwnedLemmas.{owned_region}
use Rattle.scan_plan.proofs.StepLemmas.{line_fold, no_heads, scan_here}
use Rattle.scan_messages.specs.Line.{line_by_line, on_line, value_in}
use Rattle.scan_messages.specs.Totals.{totals_in, with_totals}
use Rattle.scan_messages.proofs.BeforeLemmas.{all_free, entries_are_all, lines_in_order, of_entries, owned_same_or_none, picked, picked_alike, picked_no_totals, picked_none}
use Rattle.scan_messages.proofs.LineLemmas as line
use Rattle.scan_messages.proofs.RowLemmas as row
use Rattle.scan_messages.proofs.ValueLemmas as value

-- ---- entries, one after another
length-set : (all : List (List ℤ)) (q : ℕ) (totals : List ℤ) → length (slice_set all q totals) ≡ length all
length-set [] q totals = refl
length-set (first ∷ all) zero totals = refl
length-set (first ∷ all) (suc q) totals = ap suc (length-set all q totals)

pub length-with_totals : (entries : List (ℕ × List ℤ)) (all : List (List ℤ)) → length (with_totals all entries) ≡ length all
length-with_totals [] all = refl
length-with_totals (entry ∷ entries) all = length-with_totals entries (slice_set all entry.0 entry.1) ∙ length-set all entry.0 entry.1

length-none : (count : ℕ) → length (replicate {A = List ℤ} count []) ≡ count
length-none zero = refl
length-none (suc count) = ap suc (length-none count)

pub length-totals_in : (count : ℕ) (entries : List (ℕ × List ℤ)) → length (totals_in count entries) ≡ count
length-totals_in count entries = length-with_totals entries (replicate count []) ∙ length-none count

pub as_many : (count : ℕ) (entries : List (ℕ × List ℤ)) (all : List (List ℤ)) → all ≡ totals_in count entries → length all ≡ count
as_many count entries all is = ap length is ∙ length-totals_in count entries

flat_alike : (f g : ℕ → List ℤ → List ℤ) (count : ℕ) (entries : List (ℕ × List ℤ)) → ((q : ℕ) (totals : List ℤ) → q < count → f q totals ≡ g q totals)
    → All (λ (entry : ℕ × List ℤ). entry.0 < count) entries → of_entries f entries ≡ of_entries g entries
flat_alike f g count [] same all = refl
flat_alike f g count (entry ∷ entries) same all =
    ap (λ l. l ++ of_entries f entries) (same entry.0 entry.1 (All-head (λ (e : ℕ × List ℤ). e.0 < count) entry entries all))
    ∙ ap (λ l. g entry.0 entry.1 ++ l) (flat_alike f g count entries same (All-tail (λ (e : ℕ × List ℤ). e.0 < count) entry entries all))

pub among_flat : (f : List ℤ → List (List ℤ)) (hs : List (List ℤ)) (t : List ℤ) → Among (flat_map f hs) t → (h : List ℤ) × Among hs h × Among (f h) t
among_flat f [] t m = absurd m
among_flat f (h ∷ hs) t m = by (among_appended (f h) (flat_map f hs) t m) (among_flat f hs t)
  where
    by : Among (f h) t ⊎ Among (flat_map f hs) t → (Among (flat_map f hs) t → (g : List ℤ) × Among hs g × Among (f g) t)
        → (g : List ℤ) × Among (h ∷ hs) g × Among (f g) t
    by (inl here) further = (h, inl refl, here)
    by (inr later) further = let more = further later in (more.0, inr more.1, more.2)

module _ (code : Tables) (p : ℕ) (f : Fold) (along from : ℕ) (mask : Option ℕ) where
  joined_picked : (stands : List ℤ → Bool) (hs : List (List ℤ)) (totals : List ℤ) (so_far : ℤ)
      → meaning.joined_before code p f along from mask stands hs totals so_far ≡ fold (joined f) so_far (picked stands hs totals)
  joined_picked stands [] totals so_far = refl
  joined_picked stands (h ∷ hs) [] so_far = refl
  joined_picked stands (h ∷ hs) (total ∷ totals) so_far = by (stands h) (λ next. joined_picked stands hs totals next)
    where
      by : (b : Bool) → ((next : ℤ) → meaning.joined_before code p f along from mask stands hs totals next ≡ fold (joined f) next (picked stands hs totals))
          → meaning.joined_before code p f along from mask stands hs totals (cond b (joined f so_far total) so_far)
          ≡ fold (joined f) so_far (map (λ (line : LineTotal). line.1) (cond b ((h, total) ∷ filter (λ (line : LineTotal). stands line.0) (zip hs totals)) (filter (λ (line : LineTotal). stands line.0) (zip hs totals))))
      by true more = more (joined f so_far total)
      by false more = more so_far

  entries_joined : (stands : ℕ → List ℤ → Bool) (hs : ℕ → List (List ℤ)) (entries : List (ℕ × List ℤ)) (so_far : ℤ)
      → fold (λ z (entry : ℕ × List ℤ). meaning.joined_before code p f along from mask (stands entry.0) (hs entry.0) entry.1 z) so_far entries
      ≡ fold (joined f) so_far (of_entries (λ q totals. picked (stands q) (hs q) totals) entries)
  entries_joined stands hs [] so_far = refl
  entries_joined stands hs (entry ∷ entries) so_far =
      let here = picked (stands entry.0) (hs entry.0) entry.1 in
      let later = of_entries (λ q totals. picked (stands q) (hs q) totals) entries in
      ap (λ z. fold (λ y (e : ℕ × List ℤ). meaning.joined_before code p f along from mask (stands e.0) (hs e.0) e.1 y) z entries) (joined_picked (stands entry.0) (hs entry.0) entry.1 so_far)
      ∙ (entries_joined stands hs entries (fold (joined f) so_far here) ∙ sym (fold-append (joined f) so_far here later))

-- ---- what stands before a line
module _ (code : Tables) (p : ℕ) (region : Region) (slot : IsSlot region.rank region) (sound : AreBlocks (laid_out (arrangement_of code)))
    (inside : p < processors code) (along : ℕ) (few : along ≤ region.rank) (f : Fold) (from : ℕ) (mask : Option ℕ) where
  abbrev blocks : Blocks
  blocks = laid_out (arrangement_of code)

  abbrev part : Region
  part = owned_part (laid_out (arrangement_of code)) p p region

  abbrev k : ℕ
  k = line_dim region.rank along

  abbrev j : ℕ
  j = meaning.line_dim region along

  whole_is : IsRegion region
  whole_is = row.whole_is code p region slot sound inside

  part_steps : All HasStep part.dims
  part_steps = row.part_steps code p region slot sound inside

  dim_inside : k < length part.dims
  dim_inside = row.dim_inside code p region slot sound inside along few

  heads_are : members (heads k part) ≡ meaning.line_heads code p region k
  heads_are = row.heads_are code p region slot sound inside along few

  start_told : (h : List ℤ) → Among (members (heads k part)) h → meaning.line_start code p region k ≡ get_or h k (pos 0)
  start_told h m =
      let there = subst (λ hs. Among hs h) heads_are m in
      let first = (among_filtered (line.is_first k (meaning.line_start code p region k)) (tuples_of code p region) h there).1 in
      let long = as_long part.dims h (line.head_member k part h dim_inside part_steps m) in
      (Decides-int_eq (meaning.line_start code p region k) (get_or h k (pos 0))).0
      (sym (line.first_test k (meaning.line_start code p region k) h (omega (arith, dim_inside, long))) ∙ first)

  module _ (h : List ℤ) (m : Among (members (heads (line_dim region.rank along) (owned_part (laid_out (arrangement_of code)) p p region))) h) where
    h_is : IsMember part h
    h_is = line.head_member k part h dim_inside part_steps m

    h_long : length h ≡ 3
    h_long = as_long part.dims h h_is ∙ row.part_long code p region slot sound inside

    three : k < 3
    three = omega (arith, dim_inside, row.part_long code p region slot sound inside)

    -- the heads of another processor's part that stand before
    stands_alike : (q : ℕ) (g : List ℤ) → q < processors code → IsMember (owned_part blocks q p region) g
        → meaning.is_before_line code p f along from mask along j (meaning.line_start code p region j) h g ≡ precedes along h g
    stands_alike q g q_inside g_is =
        ap (λ i. meaning.is_before_line code p f along from mask along i (meaning.line_start code p region i) h g) (sym (row.dims_alike region along))
        ∙ (ap (λ z. meaning.is_before_line code p f along from mask along k z h g) (start_told h m) ∙ by along refl)
      where
        g_long : length g ≡ length h
        g_long =
            as_long (owned_part blocks q p region).dims g g_is
            ∙ (row.owned_long code q region slot sound q_inside p ∙ sym h_long)

        by : (n : ℕ) → n ≡ along
            → meaning.is_before_line code p f along from mask n (line_dim region.rank n) (get_or h (line_dim region.rank n) (pos 0)) h g ≡ precedes n h g
        by zero e =
            let last : suc (region.rank - 1) ≡ region.rank = omega (arith, whole_is.rank_above) in
            let low : region.rank - 1 < length h = omega (arith, h_long, whole_is.rank_above, whole_is.rank_below) in
            sym (line.earlier_is (region.rank - 1) h g low g_long
            (row.past code q region slot sound q_inside p (region.rank - 1) g last g_is
            ∙ sym (row.past code p region slot sound inside p (region.rank - 1) h last h_is)))
        by (suc n) e =
            let low : n < length h = omega (arith, h_long, e, few, whole_is.rank_below) in
            sym (line.before_along n h g low g_long)

    stands : ℕ → List ℤ → Bool
    stands q g = owner_for code region p g == q && meaning.is_before_line code p f along from mask along j (meaning.line_start code p region j) h g

    pick_told : (q : ℕ) (totals : List ℤ) → q < processors code
        → picked (λ g. owner_for code region p g == q && meaning.is_before_line code p f along from mask along j (meaning.line_start code p region j) h g) (meaning.line_heads code q region j) totals
        ≡ picked (precedes along h) (members (heads k (owned_part blocks q p region))) totals
    pick_told q totals q_inside = by (owned_same_or_none blocks q p region)
      where
        other_is : IsRegion (owned_part blocks q p region)
        other_is = owned_region blocks q p region sound whole_is

        other_steps : All HasStep (owned_part blocks q p region).dims
        other_steps = has_steps (owned_part blocks q p region).dims other_is.dims

        other_inside : k < length (owned_part blocks q p region).dims
        other_inside = omega (arith, three, row.owned_long code q region slot sound q_inside p)

        by_owner : members (owned_part blocks q p region) ≡ filter (λ t. owner_for code region p t == q) (members region)
        by_owner = row.by_owner code q region slot sound q_inside p inside

        test : List ℤ → Bool
        test g = owner_for code region p g == q && meaning.is_before_line code p f along from mask along j (meaning.line_start code p region j) h g

        same_heads : meaning.line_heads code q region j ≡ members (heads k (owned_part blocks q q region))
        same_heads =
            ap (meaning.line_heads code q region) (sym (row.dims_alike region along))
            ∙ sym (row.heads_are code q region slot sound q_inside along few)

        owned_here : (g : List ℤ) → IsMember (owned_part blocks q p region) g → (owner_for code region p g == q) ≡ true
        owned_here g g_is =
            (among_filtered (λ t. owner_for code region p t == q) (members region) g
            (subst (λ ts. Among ts g) by_owner (line.member_among (owned_part blocks q p region) g other_steps g_is))).1

        by : (owned_part blocks q p region ≡ owned_part blocks q q region) ⊎ (tuple_count (owned_part blocks q p region).dims ≡ 0)
            → picked test (meaning.line_heads code q region j) totals ≡ picked (precedes along h) (members (heads k (owned_part blocks q p region))) totals
        by (inl same) =
            ap (λ hs. picked test hs totals) (same_heads ∙ ap (λ r. members (heads k r)) (sym same))
            ∙ picked_alike test (precedes along h) (members (heads k (owned_part blocks q p region))) totals
            (λ g n.
            let g_is = line.head_member k (owned_part blocks q p region) g other_inside other_steps n in
            ap (λ b. b && meaning.is_before_line code p f along from mask along j (meaning.line_start code p region j) h g) (owned_here g g_is)
            ∙ stands_alike q g q_inside g_is)
        by (inr none) =
            picked_none test (meaning.line_heads code q region j) totals nobody
            ∙ sym (ap (λ hs. picked (precedes along h) hs totals) (no_heads k (owned_part blocks q p region) other_is no_tuples))
          where
            no_tuples : length (members (owned_part blocks q p region)) ≡ 0
            no_tuples = length-tuple_count (owned_part blocks q p region).dims other_steps ∙ none

            empty : (ts : List (List ℤ)) (t : List ℤ) → length ts ≡ 0 → Among ts t → ⊥
            empty [] t e n = n
            empty (u ∷ ts) t e n = absurd (omega (arith, e))

            nobody : (g : List ℤ) → Among (meaning.line_heads code q region j) g → test g ≡ false
            nobody g n = which (owner_for code region p g == q) refl
              where
                mine : Among (tuples_of code q region) g
                mine = (among_filtered (line.is_first j (meaning.line_start code q region j)) (tuples_of code q region) g n).0

                whole : Among (members region) g
                whole =
                    (among_filtered (λ t. owner_for code region q t == q) (members region) g
                    (subst (λ ts. Among ts g) (sym (row.part_tuples code q region slot sound q_inside) ∙ row.by_owner code q region slot sound q_inside q q_inside) mine)).0

                which : (b : Bool) → (owner_for code region p g == q) ≡ b
                    → (b && meaning.is_before_line code p f along from mask along j (meaning.line_start code p region j) h g) ≡ false
                which true e =
                    absurd (empty (members (owned_part blocks q p region)) g no_tuples
                    (subst (λ ts. Among ts g) (sym by_owner) (Among-filter (λ t. owner_for code region p t == q) (members region) g whole e)))
                which false e = refl

    pub before_told : (local : Local) (own : List ℤ) → All (λ (entry : ℕ × List ℤ). entry.0 < processors code) local.kept
        → IsPart (map (λ (entry : ℕ × List ℤ). entry.0) local.kept) (others code p)
        → meaning.before_line code p f along from mask local region own h
        ≡ before f along (lines_of k (parts_of blocks p region) (totals_in (processors code) ((p, own) ∷ local.kept))) h
    before_told local own low apart =
        let entries : List (ℕ × List ℤ) = (p, own) ∷ local.kept in
        let all = totals_in (processors code) entries in
        let pick = λ (q : ℕ) (totals : List ℤ). picked (precedes along h) (members (heads k (owned_part blocks q p region))) totals in
        let as_many : length all ≡ processors_of code.grid =
        length-with_totals entries (replicate (processors code) []) ∙ (length-none (processors code) ∙ processors_alike code.grid) in
        entries_joined code p f along from mask (λ q g. owner_for code region p g == q && meaning.is_before_line code p f along from mask along j (meaning.line_start code p region j) h g)
        (λ q. meaning.line_heads code q region j) entries (unit_of f)
        ∙ (ap (folded f) (flat_alike _ pick (processors code) entries pick_told (All-cons (λ (e : ℕ × List ℤ). e.0 < processors code) (p, own) local.kept inside low))
        ∙ (entries_are_all f pick (λ q. picked_no_totals (precedes along h) (members (heads k (owned_part blocks q p region)))) entries (processors code)
        (all_free (processors code) p own local.kept inside apart)
        ∙ ap (folded f) (sym (lines_in_order k blocks p region (precedes along h) (processors_of code.grid) 0 all as_many))))

  -- ---- the values of the last turn
  module _ (local : Local) (own : List ℤ) (vs : List (Option ℤ)) (read : meaning.scan_values local from mask (members (owned_part (laid_out (arrangement_of code)) p p region)) ≡ Some vs)
      (low : All (λ (entry : ℕ × List ℤ). entry.0 < processors code) local.kept)
      (apart : IsPart (map (λ (entry : ℕ × List ℤ). entry.0) local.kept) (others code p)) where
    abbrev lines : List LineTotal
    lines = lines_of k (parts_of blocks p region) (totals_in (processors code) ((p, own) ∷ local.kept))

    abbrev scan_there : List ℤ → ℤ
    scan_there = scan_at f along part lines (value_at part vs)

    running_told : (h : List ℤ) → Among (members (heads k part)) h
        → running f (meaning.before_line code p f along from mask local region own h) (map (value_at part vs) (on_line k part h)) ≡ map scan_there (on_line k part h)
    running_told h m =
        ap (λ b. running f b (map (value_at part vs) (on_line k part h))) (before_told h m local own low apart)
        ∙ value.running_line f k (value_at part vs) h (before f along lines h) scan_there (members part) (λ i t at on. told i t at on)
      where
        told : (i : ℕ) (t : List ℤ) → slice_get (members part) i ≡ Some t → is_along k h t ≡ true
            → scan_there t ≡ fold (joined f) (before f along lines h) (kept_values (map (value_at part vs) (filter (is_along k h) (take (suc i) (members part)))))
        told i t at on =
            let t_is : IsMember part t = line.member_at part i t part_steps at in
            let mine : head_of k part.dims t ≡ h =
            head_along k part h t dim_inside part_steps (line.among_member (heads k part) h (head_steps k part.dims part_steps) m) t_is on in
            sym (scan_here f k part (value_at part vs) (before f along lines)
            (λ g. map (λ (line : LineTotal). line.1) (filter (λ (line : LineTotal). precedes along g line.0) lines)) i t dim_inside at (λ g. refl))
            ∙ ap (λ g. line_fold f k (value_at part vs) (before f along lines g) (take (suc i) (members part)) g) mine

    line_done : (array : ℕ) (h : List ℤ) (next : Local) → Among (members (heads k part)) h
        → meaning.with_line code p f along from mask array local region own h next
        ≡ option_map (λ stores. record next { stores = stores }) (with_values array (on_line k part h) (map scan_there (on_line k part h)) next.stores)
    line_done array h next m =
        ap (option_and_then (λ values. option_map (λ stores. record next { stores = stores })
        (with_values array (meaning.line_of code p region j h) (running f (meaning.before_line code p f along from mask local region own h) values) next.stores)))
        (row.line_values code p region slot sound inside along few f from mask local vs read h m)
        ∙ (ap (λ ts. option_map (λ stores. record next { stores = stores })
        (with_values array ts (running f (meaning.before_line code p f along from mask local region own h) (map (value_at part vs) (on_line k part h))) next.stores))
        (ap (λ i. meaning.line_of code p region i h) (sym (row.dims_alike region along)) ∙ row.line_is code p region slot sound inside along few h m)
        ∙ ap (λ words. option_map (λ stores. record next { stores = stores }) (with_values array (on_line k part h) words next.stores)) (running_told h m))

    lines_done : (array : ℕ) (hs : List (List ℤ)) (next : Local) → ((h : List ℤ) → Among hs h → Among (members (heads k part)) h)
        → meaning.with_lines code p f along from mask array local region own hs next
        ≡ option_map (λ stores. record next { stores = stores }) (with_values array (flat_map (on_line k part) hs) (map scan_there (flat_map (on_line k part) hs)) next.stores)
    lines_done array [] next each = refl
    lines_done array (h ∷ hs) next each =
        ap (option_and_then (meaning.with_lines code p f along from mask array local region own hs)) (line_done array h next (each h (inl refl)))
        ∙ (by (with_values array (on_line k part h) (map scan_there (on_line k part h)) next.stores) (λ more. lines_done array hs more (λ g n. each g (inr n)))
        ∙ ap (option_map (λ stores. record next { stores = stores })) (sym (value.with_more array scan_there (on_line k part h) (flat_map (on_line k part) hs) next.stores)))
      where
        by : (found : Option (List Array))
            → ((more : Local) → meaning.with_lines code p f along from mask array local region own hs more
            ≡ option_map (λ stores. record more { stores = stores }) (with_values array (flat_map (on_line k part) hs) (map scan_there (flat_map (on_line k part) hs)) more.stores))
            → option_and_then (meaning.with_lines code p f along from mask array local region own hs) (option_map (λ stores. record next { stores = stores }) found)
            ≡ option_map (λ stores. record next { stores = stores }) (option_and_then (with_values array (flat_map (on_line k part) hs) (map scan_there (flat_map (on_line k part) hs))) found)
        by None rest = refl
        by (Some stores) rest = rest (record next { stores = stores })

    -- the words of the own part, line by line
    pub words_told : (found words : List ℤ) (tuples : List (List ℤ)) → tuples ≡ line_by_line k part
        → found ≡ block_scan f along blocks p region (totals_in (processors code) ((p, own) ∷ local.kept)) (value_at part vs)
        → words ≡ map (value_in part found) tuples → words ≡ map scan_there (line_by_line k part)
    words_told found words tuples same is words_are =
        words_are ∙ (ap (map (value_in part found)) same
        ∙ value.map_among (value_in part found) scan_there (line_by_line k part) (λ t m.
        let here = among_flat (on_line k part) (members (heads k part)) t m in
        let t_is = line.among_member part t part_steps (row.on_line_within code p region slot sound inside along few here.0 t here.2) in
        ap (λ l. get_or l (place_among part.dims t) (pos 0)) is
        ∙ get_or-map scan_there (members part) (place_among part.dims t) t (place_of_tuple part.dims t part_steps t_is)))

    pub last_put : (array : ℕ) (held : Bool) (stores : List Array)
        → own ≡ totals_of f k part (value_at part vs)
        → with_values array (line_by_line k part) (map scan_there (line_by_line k part)) local.stores ≡ cond held (Some stores) None
        → meaning.scan_last code p f along from mask array local region
        ≡ cond held (moves (goes_on (record local { stores = stores })) []) (Blocked Unheld)
    last_put array held stores own_is put =
        ap (λ found. meaning.scan_done code p f along from mask (option_and_then (λ totals. meaning.with_lines code p f along from mask array local region totals (meaning.line_heads code p region j) local) found))
        (row.totals_told code p region slot sound inside along few f from mask local vs read ∙ ap Some (sym own_is))
        ∙ (ap (λ hs. meaning.scan_done code p f along from mask (meaning.with_lines code p f along from mask array local region own hs local))
        (ap (meaning.line_heads code p region) (sym (row.dims_alike region along)) ∙ sym heads_are)
        ∙ (ap (meaning.scan_done code p f along from mask) (lines_done array (members (heads k part)) local (λ h m. m))
        ∙ (ap (λ found. meaning.scan_done code p f along from mask (option_map (λ s. record local { stores = s }) found)) put ∙ by held)))
      where
        by : (b : Bool) → meaning.scan_done code p f along from mask (option_map (λ s. record local { stores = s }) (cond b (Some stores) None))
            ≡ cond b (moves (goes_on (record local { stores = stores })) []) (Blocked Unheld)
        by true = refl
        by false = refl

  pub members_line_by_line : (t : List ℤ) → Among (line_by_line k part) t → IsMember part t
  members_line_by_line t m =
      let here = among_flat (on_line k part) (members (heads k part)) t m in
      line.among_member part t part_steps (row.on_line_within code p region slot sound inside along few here.0 t here.2)

  pub last_lacks : (array : ℕ) (local : Local) → meaning.scan_values local from mask (members part) ≡ None
      → meaning.scan_last code p f along from mask array local region ≡ Blocked Unheld
  last_lacks array local none =
      ap (λ found. meaning.scan_done code p f along from mask (option_and_then (λ totals. meaning.with_lines code p f along from mask array local region totals (meaning.line_heads code p region j) local) found))
      (row.totals_lack code p region slot sound inside along few f from mask local none)

  -- whether all places are held that are read
  pub held_told : (local : Local) → is_some (meaning.line_totals code p f along from mask local region) ≡ is_some (meaning.scan_values local from mask (members part))
  held_told local = by (meaning.scan_values local from mask (members part)) refl
    where
      by : (found : Option (List (Option ℤ))) → meaning.scan_values local from mask (members part) ≡ found
          → is_some (meaning.line_totals code p f along from mask local region) ≡ is_some (meaning.scan_values local from mask (members part))
      by (Some vs) e = ap is_some (row.totals_told code p region slot sound inside along few f from mask local vs e) ∙ sym (ap is_some e)
      by None e = ap is_some (row.totals_lack code p region slot sound inside along few f from mask local e) ∙ sym (ap is_some e)
