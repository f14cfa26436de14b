-- What stands before a line of the own part: the totals of all processors, as a scan's row goes
-- through them and as plans do.
use Rattle.std.proofs.Common.{◌≡◌, refl, sym, ◌∙◌, ap, subst, ℕ, zero, suc, ◌+◌, ◌-◌, ◌<◌, ◌≤◌, ◌==◌, nat_lt, not, Bool, true, false, true≢false, ◌&&◌, cond, List, [], ◌∷◌, ◌++◌, ℤ, pos, length, map, drop, replicate, get_or, All, Option, Some, inl, inr, arith}
use Rattle.std.specs.Prelude.{if◌then◌else◌, option_and_then}
use Rattle.std.specs.List.{filter, flat_map, fold, list_all, range_with_len, zip}
use Rattle.std.specs.Option.{option_map}
use Rattle.std.proofs.lemmas.List.{map-append}
use Rattle.std.proofs.lemmas.List.Elements.{filter-append}
use Rattle.std.proofs.lemmas.List.Sums.{fold-append}
use Rattle.zpl_nums.specs.declared.folds.Fold.{Fold}
use Rattle.zpl_nums.specs.Fold.{folded, joined, unit_of}
use Rattle.zpl_nums.proofs.FoldLemmas.{folded-append, folded-cons, joined_assoc, joined_comm, settled-folded, settled_right}
use Rattle.zpl_region.specs.declared.dims.Dim.{Dim}
use Rattle.zpl_region.specs.declared.dims.Dim.TheVariants as dim
use Rattle.zpl_region.specs.declared.regions.Region.{Region}
use Rattle.zpl_region.specs.Dim.{HasStep}
use Rattle.zpl_region.specs.Region.{IsMember, IsRegion, members}
use Rattle.zpl_region.proofs.HullLemmas.{has_steps}
use Rattle.zpl_region.proofs.ListLemmas.{Among, among_filtered}
use Rattle.zpl_arrays.specs.Row.{kept_values}
use Rattle.grid_layout.specs.declared.axes.Axis.{Axis}
use Rattle.grid_layout.specs.declared.blocks.Blocks.{Blocks}
use Rattle.grid_layout.specs.Grid.{blocks_at, cuts, processors_of}
use Rattle.grid_layout.specs.Layout.{AreBlocks, axes_at, laid_out}
use Rattle.grid_layout.specs.Piece.{each_owned, owned_dim, owned_part}
use Rattle.grid_layout.specs.Words.{processors as grid_processors}
use Rattle.grid_layout.proofs.PartLemmas.{blocks_length, parts_by_owner}
use Rattle.grid_layout.proofs.SoundLemmas.{owned_length}
use Rattle.node_form.specs.declared.tables.Tables.{Tables}
use Rattle.node_stages.proofs.OwnLemmas.{IsShaped-slot, own_tuples}
use Rattle.node_stages.proofs.PieceLemmas.{IsRegion-slot}
use Rattle.grid_meaning.specs.Collective.{kept_with, others, others_where}
use Rattle.grid_meaning.specs.Delivery.{each_word}
use Rattle.grid_meaning.specs.Local.{Local, processor_numbers, processors}
use Rattle.grid_meaning.specs.Owner.{owner_for, tuples_of}
use Rattle.grid_meaning.specs.Scan as row
use Rattle.grid_meaning.specs.State.{IsSlot}
use Rattle.grid_meaning.specs.Stored.{arrangement_of}
use Rattle.grid_meaning.proofs.WorldLemmas.{processors_alike}
use Rattle.flat_form.specs.Right.{is_flood, no_flood}
use Rattle.scan_plan.specs.Line.{heads, is_along, line_dim, line_total, totals_of}
use Rattle.scan_plan.specs.Scan.{LineTotal, before, lines_of, parts_of, precedes}
use Rattle.scan_plan.proofs.LineLemmas.{as_long, line_dim_below}
use Rattle.scan_plan.proofs.OwnedLemmas.{owned_region}
use Rattle.message_runs.proofs.GatherRows.{kept_of, zero_below}
use Rattle.message_runs.proofs.OwnerLemmas.{limited_bounds}
use Rattle.message_runs.proofs.PartRows.{map_parts, numbers_same, one_first, without_units}
use Rattle.message_runs.proofs.ScanLines.{before_along, earlier_is, head_is, heads_told, is_among, line_told, past_rank, start_told}
use Rattle.message_runs.proofs.WorkLemmas.{words_all}

-- ---- the totals of lines that count
abbrev pub picked : (List ℤ → Bool) → List (List ℤ) → List ℤ → List ℤ
picked counts hs totals =
    map (λ (line : LineTotal). line.1)
    (filter (λ (line : LineTotal). counts line.0) (zip hs totals))

picked_alike : (one other : List ℤ → Bool) (hs : List (List ℤ)) (totals : List ℤ)
    → ((h : List ℤ) → Among hs h → one h ≡ other h) → picked one hs totals ≡ picked other hs totals
picked_alike one other [] totals same = refl
picked_alike one other (h ∷ hs) [] same = refl
picked_alike one other (h ∷ hs) (total ∷ totals) same =
    ap (λ b. map (λ (line : LineTotal). line.1)
    (cond b ((h, total) ∷ filter (λ (line : LineTotal). one line.0) (zip hs totals))
    (filter (λ (line : LineTotal). one line.0) (zip hs totals)))) (same h (inl refl))
    ∙ by (other h) (picked_alike one other hs totals (λ g later. same g (inr later)))
  where
    by : (b : Bool) → picked one hs totals ≡ picked other hs totals
        → map (λ (line : LineTotal). line.1)
        (cond b ((h, total) ∷ filter (λ (line : LineTotal). one line.0) (zip hs totals))
        (filter (λ (line : LineTotal). one line.0) (zip hs totals)))
        ≡ map (λ (line : LineTotal). line.1)
        (cond b ((h, total) ∷ filter (λ (line : LineTotal). other line.0) (zip hs totals))
        (filter (λ (line : LineTotal). other line.0) (zip hs totals)))
    by true rest = ap (λ l. total ∷ l) rest
    by false rest = rest

-- ---- as plans list them: part by part
lines_folded : (f : Fold) (k : ℕ) (counts : List ℤ → Bool) (told : Region → List ℤ)
    (parts : List Region)
    → folded f (map (λ (line : LineTotal). line.1)
    (filter (λ (line : LineTotal). counts line.0) (lines_of k parts (map told parts))))
    ≡ folded f (map (λ part. folded f (picked counts (members (heads k part)) (told part))) parts)
lines_folded f k counts told [] = refl
lines_folded f k counts told (part ∷ parts) =
    let total : LineTotal → ℤ = λ line. line.1 in
    let test : LineTotal → Bool = λ line. counts line.0 in
    let first = zip (members (heads k part)) (told part) in
    let more = lines_of k parts (map told parts) in
    ap (λ l. folded f (map total l)) (filter-append test first more)
    ∙ (ap (folded f) (map-append total (filter test first) (filter test more))
    ∙ (folded-append f (map total (filter test first)) (map total (filter test more))
    ∙ (ap (joined f (folded f (picked counts (members (heads k part)) (told part))))
    (lines_folded f k counts told parts)
    ∙ sym (folded-cons f (folded f (picked counts (members (heads k part)) (told part)))
    (map (λ part. folded f (picked counts (members (heads k part)) (told part))) parts)))))

-- ---- as they are kept: with their senders
abbrev of_entries : (ℕ → List ℤ → List ℤ) → List (ℕ × List ℤ) → List ℤ
of_entries pick entries = flat_map (λ (entry : ℕ × List ℤ). pick entry.0 entry.1) entries

module _ (f : Fold) (pick : ℕ → List ℤ → List ℤ) where
  turned : (a b c : ℤ) → joined f a (joined f b c) ≡ joined f b (joined f a c)
  turned a b c =
      sym (joined_assoc f a b c)
      ∙ (ap (λ z. joined f z c) (joined_comm f a b) ∙ joined_assoc f b a c)

  kept_adds : (q : ℕ) (words : List ℤ) (kept : List (ℕ × List ℤ))
      → folded f (of_entries pick (kept_with q words kept))
      ≡ joined f (folded f (pick q words)) (folded f (of_entries pick kept))
  kept_adds q words [] = folded-append f (pick q words) []
  kept_adds q words (entry ∷ kept) = by (nat_lt q entry.0) (kept_adds q words kept)
    where
      here : List ℤ
      here = pick entry.0 entry.1

      by : (b : Bool)
          → folded f (of_entries pick (kept_with q words kept))
          ≡ joined f (folded f (pick q words)) (folded f (of_entries pick kept))
          → folded f (of_entries pick (if b then (q, words) ∷ (entry ∷ kept)
          else entry ∷ kept_with q words kept))
          ≡ joined f (folded f (pick q words)) (folded f (here ++ of_entries pick kept))
      by true rest = folded-append f (pick q words) (here ++ of_entries pick kept)
      by false rest =
          folded-append f here (of_entries pick (kept_with q words kept))
          ∙ (ap (joined f (folded f here)) rest
          ∙ (turned (folded f here) (folded f (pick q words)) (folded f (of_entries pick kept))
          ∙ ap (joined f (folded f (pick q words)))
          (sym (folded-append f here (of_entries pick kept)))))

  module _ (words : ℕ → List ℤ) where
    abbrev of_one : ℕ → ℤ
    of_one q = folded f (pick q (words q))

    kept_fold : (from : List ℕ) (kept : List (ℕ × List ℤ))
        → folded f (of_entries pick (kept_of words from kept))
        ≡ joined f (folded f (map of_one from)) (folded f (of_entries pick kept))
    kept_fold [] kept = sym (settled-folded f (of_entries pick kept))
    kept_fold (q ∷ from) kept =
        let rest = folded f (map of_one from) in
        let old = folded f (of_entries pick kept) in
        kept_fold from (kept_with q (words q) kept)
        ∙ (ap (joined f rest) (kept_adds q (words q) kept)
        ∙ (turned rest (of_one q) old
        ∙ (sym (joined_assoc f (of_one q) rest old)
        ∙ ap (λ z. joined f z old) (sym (folded-cons f (of_one q) (map of_one from))))))

    -- the own ones and those that were kept of all that have some
    pub all_fold : (code : Tables) (p : ℕ) (many : ℕ → ℕ) → p < processors code
        → ((q : ℕ) → nat_lt 0 (many q) ≡ false → folded f (pick q (words q)) ≡ unit_of f)
        → folded f (of_entries pick ((p, words p) ∷ kept_of words (others_where code p many) []))
        ≡ folded f (map (λ q. folded f (pick q (words q))) (processor_numbers code))
    all_fold code p many below none =
        folded-append f (pick p (words p)) (of_entries pick (kept_of words (others_where code p many) []))
        ∙ (ap (joined f (of_one p))
        (kept_fold (others_where code p many) []
        ∙ (settled_right f (folded f (map of_one (others_where code p many)))
        (settled-folded f (map of_one (others_where code p many)))
        ∙ without_units f of_one (λ q. nat_lt 0 (many q)) (others code p) none))
        ∙ sym (one_first f of_one p 0 (processors code) (omega arith) (omega (arith, below))))

-- ---- lists
alike_below : (g h : ℕ → ℤ) (a n : ℕ) → ((q : ℕ) → q < a + n → g q ≡ h q)
    → map g (range_with_len a n) ≡ map h (range_with_len a n)
alike_below g h a zero same = refl
alike_below g h a (suc n) same =
    ap (λ v. v ∷ map g (range_with_len (a + 1) n)) (same a (omega arith))
    ∙ ap (λ l. h a ∷ l) (alike_below g h (a + 1) n (λ q low. same q (omega (arith, low))))

-- ---- as the row joins them
module _ (code : Tables) (p : ℕ) (f : Fold) (along from : ℕ) (mask : Option ℕ) where
  joined_picked : (stands : List ℤ → Bool) (hs : List (List ℤ)) (totals : List ℤ) (so_far : ℤ)
      → row.joined_before code p f along from mask stands hs totals so_far
      ≡ fold (joined f) so_far (picked stands hs totals)
  joined_picked stands [] totals so_far = refl
  joined_picked stands (h ∷ hs) [] so_far = refl
  joined_picked stands (h ∷ hs) (total ∷ totals) so_far =
      by (stands h) (λ next. joined_picked stands hs totals next)
    where
      by : (b : Bool)
          → ((next : ℤ) → row.joined_before code p f along from mask stands hs totals next
          ≡ fold (joined f) next (picked stands hs totals))
          → row.joined_before code p f along from mask stands hs totals
          (cond b (joined f so_far total) so_far)
          ≡ fold (joined f) so_far (map (λ (line : LineTotal). line.1)
          (cond b ((h, total) ∷ filter (λ (line : LineTotal). stands line.0) (zip hs totals))
          (filter (λ (line : LineTotal). stands line.0) (zip hs totals))))
      by true more = more (joined f so_far total)
      by false more = more so_far

  entries_joined : (stands : ℕ → List ℤ → Bool) (hs : ℕ → List (List ℤ))
      (entries : List (ℕ × List ℤ)) (so_far : ℤ)
      → fold (λ z (entry : ℕ × List ℤ).
      row.joined_before code p f along from mask (stands entry.0) (hs entry.0) entry.1 z) so_far
      entries
      ≡ fold (joined f) so_far (of_entries (λ q totals. picked (stands q) (hs q) totals) entries)
  entries_joined stands hs [] so_far = refl
  entries_joined stands hs (entry ∷ entries) so_far =
      let here = picked (stands entry.0) (hs entry.0) entry.1 in
      let later = of_entries (λ q totals. picked (stands q) (hs q) totals) entries in
      ap (λ z. fold (λ y (e : ℕ × List ℤ).
      row.joined_before code p f along from mask (stands e.0) (hs e.0) e.1 y) z entries)
      (joined_picked (stands entry.0) (hs entry.0) entry.1 so_far)
      ∙ (entries_joined stands hs entries (fold (joined f) so_far here)
      ∙ sym (fold-append (joined f) so_far here later))

-- ---- parts without flood dimensions, which are the same for all receivers
each_same : (axes : List Axis) (ns cs ks : List ℕ) (dims : List Dim) → length ks ≡ length cs
    → list_all (λ d. not (is_flood d)) dims ≡ true
    → each_owned axes ns cs ks dims ≡ each_owned axes ns cs cs dims
each_same [] ns cs ks dims long plain = refl
each_same (a ∷ axes) [] cs ks dims long plain = refl
each_same (a ∷ axes) (n ∷ ns) [] ks dims long plain = refl
each_same (a ∷ axes) (n ∷ ns) (c ∷ cs) [] dims long plain = absurd (omega (arith, long))
each_same (a ∷ axes) (n ∷ ns) (c ∷ cs) (k ∷ ks) [] long plain = refl
each_same (a ∷ axes) (n ∷ ns) (c ∷ cs) (k ∷ ks) (dim.Flood ∷ dims) long plain = cc
each_same (a ∷ axes) (n ∷ ns) (c ∷ cs) (k ∷ ks) (dim.Range lo hi step align ∷ dims) long plain =
    ap (λ rest. owned_dim a n c c (dim.Range lo hi step align) ∷ rest)
    (each_same axes ns cs ks dims (omega (arith, long)) plain)

-- the dimension of lines, which both count from 0
dims_alike : (region : Region) (along : ℕ)
    → row.line_dim region along ≡ line_dim region.rank along
dims_alike region zero = refl
dims_alike region (suc along) = refl

values_some : (local : Local) (from : ℕ) (mask : Option ℕ) (value : List ℤ → Option ℤ)
    (ts : List (List ℤ))
    → ((t : List ℤ) → Among ts t → row.scan_value local from mask t ≡ Some (value t))
    → row.scan_values local from mask ts ≡ Some (map value ts)
values_some local from mask value [] each = refl
values_some local from mask value (t ∷ ts) each =
    ap (option_and_then (λ v. option_map (λ rest. v ∷ rest) (row.scan_values local from mask ts)))
    (each t (inl refl))
    ∙ ap (option_map (λ rest. value t ∷ rest))
    (values_some local from mask value ts (λ u later. each u (inr later)))

module _ (code : Tables) (sound : AreBlocks (laid_out (arrangement_of code))) (region : Region)
    (slot : IsSlot region.rank region) (along : ℕ) (few : along ≤ region.rank) where
  abbrev pub blocks : Blocks
  blocks = laid_out (arrangement_of code)

  abbrev pub part : ℕ → Region
  part q = owned_part (laid_out (arrangement_of code)) q q region

  abbrev pub k : ℕ
  k = line_dim region.rank along

  pub whole_is : IsRegion region
  whole_is = IsRegion-slot region.rank region slot

  three_dims : k < 3
  three_dims = line_dim_below region.rank along slot.fits.rank.0 slot.fits.rank.1 few

  -- the part of one of them
  module _ (q : ℕ) (below : q < processors code) where
    pub part_is : IsRegion (part q)
    part_is = owned_region blocks q q region sound whole_is

    pub part_steps : All HasStep (part q).dims
    part_steps = has_steps (part q).dims part_is.dims

    pub part_long : length (part q).dims ≡ 3
    part_long =
        owned_length blocks q q region sound slot.fits.rank.0 slot.fits.rank.1 slot.many

    pub dim_low : k < length (part q).dims
    dim_low = omega (arith, part_long, three_dims)

    pub tuples_are : members (part q) ≡ tuples_of code q region
    tuples_are = own_tuples code q region below (IsShaped-slot region.rank region slot)

    pub heads_are : members (heads k (part q)) ≡ row.line_heads code q region k
    heads_are = heads_told code q k region (part q) dim_low part_steps tuples_are slot.fits.steps

    pub heads_there : row.line_heads code q region (row.line_dim region along)
        ≡ members (heads k (part q))
    heads_there = ap (row.line_heads code q region) (dims_alike region along) ∙ sym heads_are

    pub line_is : (h : List ℤ) → Among (members (heads k (part q))) h
        → row.line_of code q region (row.line_dim region along) h
        ≡ filter (is_along k h) (members (part q))
    line_is h among =
        ap (λ j. row.line_of code q region j h) (dims_alike region along)
        ∙ line_told code q k region (part q) dim_low part_steps tuples_are h
        (head_is k (part q) h dim_low part_steps among)

    -- past the rank its tuples have 0
    past : suc k ≡ region.rank → (t : List ℤ) → IsMember (part q) t
        → drop (suc k) t ≡ replicate (3 - region.rank) (pos 0)
    past same t here =
        ap (λ n. drop n t) same
        ∙ past_rank region.rank (3 - region.rank) (part q).dims t part_is.padded here

    -- totals, where the values are there
    module _ (f : Fold) (from : ℕ) (mask : Option ℕ) (value : List ℤ → Option ℤ) (local : Local)
        (reads : (t : List ℤ) → Among (tuples_of code q region) t
        → row.scan_value local from mask t ≡ Some (value t)) where
      pub line_values : (h : List ℤ) → Among (members (heads k (part q))) h
          → row.scan_values local from mask
          (row.line_of code q region (row.line_dim region along) h)
          ≡ Some (map value (filter (is_along k h) (members (part q))))
      line_values h among =
          ap (row.scan_values local from mask) (line_is h among)
          ∙ values_some local from mask value (filter (is_along k h) (members (part q)))
          (λ t on. reads t (subst (λ ts. Among ts t) tuples_are
          (among_filtered (is_along k h) (members (part q)) t on).0))

      pub totals_told : row.line_totals code q f along from mask local region
          ≡ Some (totals_of f k (part q) value)
      totals_told =
          ap (each_word (row.line_total code q f along from mask local region)) heads_there
          ∙ words_all (row.line_total code q f along from mask local region)
          (line_total f k (part q) value) (members (heads k (part q)))
          (λ h among. ap (option_map (λ values. folded f (kept_values values)))
          (line_values h among))

  -- ---- what stands before a line of the part of one
  module _ (plain : no_flood region ≡ true) (p : ℕ) (p_below : p < processors code) (h : List ℤ)
      (head : Among (members (heads k (part p))) h) (f : Fold) (from : ℕ) (mask : Option ℕ) where
    abbrev made_of : List Dim → Region
    made_of dims = record { rank = region.rank; dims = dims }

    owned_same : (q : ℕ) → owned_part blocks q p region ≡ part q
    owned_same q =
        let ns = cuts blocks.grid region.rank in
        ap made_of
        (each_same (axes_at blocks region.rank) ns (blocks_at ns q) (blocks_at ns p) region.dims
        (blocks_length ns p ∙ sym (blocks_length ns q)) plain)

    abbrev stands : ℕ → List ℤ → Bool
    stands q g =
        owner_for code region p g == q
        && row.is_before_line code p f along from mask along (row.line_dim region along)
        (row.line_start code p region (row.line_dim region along)) h g

    h_is : IsMember (part p) h
    h_is = head_is k (part p) h (dim_low p p_below) (part_steps p p_below) head

    h_long : length h ≡ 3
    h_long = as_long (part p).dims h h_is ∙ part_long p p_below

    stands_alike : (q : ℕ) (g : List ℤ) → q < processors code → IsMember (part q) g
        → row.is_before_line code p f along from mask along (row.line_dim region along)
        (row.line_start code p region (row.line_dim region along)) h g
        ≡ precedes along h g
    stands_alike q g below is =
        ap (λ j. row.is_before_line code p f along from mask along j
        (row.line_start code p region j) h g) (dims_alike region along)
        ∙ (ap (λ z. row.is_before_line code p f along from mask along k z h g)
        (start_told code p k region (part p) (dim_low p p_below) (part_steps p p_below)
        (tuples_are p p_below) slot.fits.steps h head)
        ∙ by along refl)
      where
        g_long : length g ≡ length h
        g_long = as_long (part q).dims g is ∙ (part_long q below ∙ sym h_long)

        by : (n : ℕ) → n ≡ along
            → row.is_before_line code p f along from mask n (line_dim region.rank n)
            (get_or h (line_dim region.rank n) (pos 0)) h g
            ≡ precedes n h g
        by zero e =
            let last : suc (region.rank - 1) ≡ region.rank = omega (arith, slot.fits.rank.0) in
            let low : region.rank - 1 < length h =
            omega (arith, h_long, slot.fits.rank.0, slot.fits.rank.1) in
            let rank_is : suc k ≡ region.rank =
            ap (λ n. suc (line_dim region.rank n)) (sym e) ∙ last in
            let last_is : k ≡ region.rank - 1 = ap (line_dim region.rank) (sym e) in
            sym (earlier_is (region.rank - 1) h g low g_long
            (ap (λ n. drop (suc n) g) (sym last_is)
            ∙ (past q below rank_is g is
            ∙ (sym (past p p_below rank_is h h_is) ∙ ap (λ n. drop (suc n) h) last_is))))
        by (suc n) e =
            let low : n < length h = omega (arith, h_long, e, few, slot.fits.rank.1) in
            sym (before_along n h g low g_long)

    owned_here : (q : ℕ) (g : List ℤ) → q < processors code → Among (members (part q)) g
        → (owner_for code region p g == q) ≡ true
    owned_here q g below among =
        let count = processors_alike code.grid in
        (among_filtered (λ t. owner_for code region p t == q) (members region) g
        (subst (λ ts. Among ts g)
        (ap members (sym (owned_same q))
        ∙ parts_by_owner blocks q p region sound slot.fits.rank.0 slot.fits.rank.1 slot.many
        (limited_bounds region.dims slot.fits.steps slot.fits.limit.dims)
        (subst (λ n. p < n) count p_below) (subst (λ n. q < n) count below)) among)).1

    module _ (value : List ℤ → Option ℤ) where
      abbrev told : Region → List ℤ
      told r = totals_of f k r value

      abbrev words : ℕ → List ℤ
      words q = totals_of f k (part q) value

      abbrev many : ℕ → ℕ
      many q = length (row.line_heads code q region (row.line_dim region along))

      abbrev pick : ℕ → List ℤ → List ℤ
      pick q totals =
          picked (stands q) (row.line_heads code q region (row.line_dim region along)) totals

      abbrev lines : List LineTotal
      lines =
          lines_of k (parts_of blocks p region)
          (map (λ r. totals_of f k r value) (parts_of blocks p region))

      abbrev of_part : Region → ℤ
      of_part r = folded f (picked (precedes along h) (members (heads k r)) (told r))

      picked_same : (q : ℕ) → q < processors code
          → folded f (pick q (words q)) ≡ of_part (owned_part blocks q p region)
      picked_same q below =
          ap (folded f) (ap (λ hs. picked (stands q) hs (words q)) (heads_there q below)
          ∙ picked_alike (stands q) (precedes along h) (members (heads k (part q))) (words q)
          (λ g among.
          let is = head_is k (part q) g (dim_low q below) (part_steps q below) among in
          ap (λ b. b && row.is_before_line code p f along from mask along (row.line_dim region along)
          (row.line_start code p region (row.line_dim region along)) h g)
          (owned_here q g below (is_among (part q) g (part_steps q below) is))
          ∙ stands_alike q g below is))
          ∙ ap of_part (sym (owned_same q))

      none_picked : (q : ℕ) → nat_lt 0 (many q) ≡ false → folded f (pick q (words q)) ≡ unit_of f
      none_picked q e = by (row.line_heads code q region (row.line_dim region along)) e
        where
          by : (hs : List (List ℤ)) → nat_lt 0 (length hs) ≡ false
              → folded f (picked (stands q) hs (words q)) ≡ unit_of f
          by [] e = refl
          by (g ∷ hs) e = absurd (true≢false (sym (zero_below (length hs)) ∙ e))

      pub before_told : (local : Local)
          → local.kept ≡ kept_of words (others_where code p many) []
          → row.before_line code p f along from mask local region (words p) h
          ≡ before f along lines h
      before_told local kept =
          entries_joined code p f along from mask stands
          (λ q. row.line_heads code q region (row.line_dim region along))
          ((p, words p) ∷ local.kept) (unit_of f)
          ∙ (ap (λ entries. folded f (of_entries pick ((p, words p) ∷ entries))) kept
          ∙ (all_fold f pick words code p many p_below none_picked
          ∙ (ap (folded f)
          (alike_below (λ q. folded f (pick q (words q)))
          (λ q. of_part (owned_part blocks q p region)) 0 (processors code)
          (λ q low. picked_same q (omega (arith, low)))
          ∙ (ap (map (λ q. of_part (owned_part blocks q p region)))
          (sym (numbers_same 0 (processors_of code.grid)
          ∙ ap (range_with_len 0) (sym (processors_alike code.grid))))
          ∙ sym (map_parts (λ q. owned_part blocks q p region) of_part
          (grid_processors code.grid))))
          ∙ sym (lines_folded f k (precedes along h) told (parts_of blocks p region)))))
