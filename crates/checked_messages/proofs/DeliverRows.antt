-- `wrap`, `reflect`, `flood` and `part` go on where their places are held, and their regions
-- conform.
use Rattle.std.proofs.Common.{◌≡◌, refl, sym, ◌∙◌, ap, ap₂, subst, ℕ, ◌<◌, ◌==◌, Bool, true, List}
use Rattle.std.proofs.Common.{[], ◌∷◌}
use Rattle.std.proofs.Common.{ℤ, pos, ◌+ℤ◌, ◌-ℤ◌, length, map, arith, eqb-true, false}
use Rattle.std.specs.Int.RustNames.{int_lt}
use Rattle.std.proofs.lemmas.List.{length-map}
use Rattle.std.specs.Prelude.{filter, if◌then◌else◌}
use Rattle.std.specs.List.{list_any}
use Rattle.std.specs.Option.{option_map}
use Rattle.zpl_nums.specs.declared.ends.Border.{Border}
use Rattle.zpl_nums.specs.declared.folds.Fold.{Fold}
use Rattle.zpl_nums.specs.Fold.{folded, joined}
use Rattle.zpl_region.specs.declared.dims.Dim.{Dim}
use Rattle.zpl_region.specs.declared.dims.Dim.TheVariants as dim
use Rattle.zpl_region.specs.declared.regions.Region.{Region}
use Rattle.zpl_region.specs.Dim.{dim_inside_of}
use Rattle.zpl_region.specs.Region.{IsMember, components, each, inside_of, members, outside_of}
use Rattle.zpl_region.proofs.LawLemmas.{members_iff}
use Rattle.zpl_region.proofs.ListLemmas.{Among, Contains-from_among, among_filtered}
use Rattle.zpl_region.proofs.ListLemmas.{among_from_Contains}
use Rattle.zpl_arrays.specs.Border.{border_conforms, border_source}
use Rattle.zpl_arrays.specs.Conformity.{flood_conforms}
use Rattle.zpl_arrays.specs.Flood.{flood_source}
use Rattle.zpl_arrays.specs.Fold.{agrees}
use Rattle.zpl_arrays.proofs.SourceLemmas.{border_source_lies, flood_source_lies, side, sources_are}
use Rattle.grid_layout.specs.declared.axes.Axis.{Axis}
use Rattle.grid_layout.specs.Grid.{blocks_at, cuts}
use Rattle.grid_layout.specs.Layout.{AreBlocks, axes_at, laid_out}
use Rattle.grid_layout.specs.Grid.{processor_at}
use Rattle.grid_layout.specs.Piece.{block_for, each_block_for}
use Rattle.node_form.specs.declared.tables.Tables.{Tables}
use Rattle.grid_meaning.specs.Delivery as delivery
use Rattle.grid_meaning.specs.Delivery.{border_targets, flood_targets, part_targets, reaching}
use Rattle.grid_meaning.specs.Delivery.{replaced}
use Rattle.grid_meaning.specs.Local.{Local, processors}
use Rattle.grid_meaning.specs.Owner.{owner_for, region_in, tuples_of}
use Rattle.grid_meaning.specs.Place.{value_at, values_at}
use Rattle.grid_meaning.specs.State.{IsSlot}
use Rattle.grid_meaning.specs.Stored.{arrangement_of}
use Rattle.checked_rows.specs.of_plan_meaning.Abreast.{Abreast, locals_of}
use Rattle.checked_rows.specs.of_plan_meaning.Messages as plan
use Rattle.message_runs.proofs.OwnerLemmas.{owner_has}
use Rattle.checked_rows.specs.of_node_check.Told.{SlotHas}
use Rattle.checked_messages.specs.Going.{GoesOn, StandAlike}
use Rattle.checked_messages.proofs.GoLemmas.{IsBehind}
use Rattle.checked_messages.proofs.HeldLemmas.{Reads, held_still, value_read, values_read}
use Rattle.checked_messages.proofs.OwnLemmas.{HoldsOver, components_long, in_members}
use Rattle.checked_messages.proofs.WorkLemmas.{IsWork, behind_start, region_is, work, work_goes}

module _ (code : Tables) (all : Abreast) (alike : StandAlike code all) (quiet : all.flights ≡
    []) where
  -- ---- each tuple from its source, which its owner has
  module _ (array from : ℕ) (dest src : Region) (source : List ℤ → List ℤ) (owner : ℕ → List ℤ → ℕ)
      (targets_in : Local → ℕ → ℕ → List (List ℤ)) (source_in : Local → List ℤ → List ℤ) where
    abbrev targets : ℕ → ℕ → List (List ℤ)
    targets q p = filter (λ t. owner p t == q) (tuples_of code p dest)

    pub record IsSourced : Type 0 where
      pub targets_are : (p : ℕ) → p < processors code → (local : Local)
          → IsBehind (all.shares p) local → targets_in local ≡ targets
      pub source_are : (p : ℕ) → p < processors code → (local : Local)
          → IsBehind (all.shares p) local → source_in local ≡ source
      pub sets : HoldsOver code all array dest
      pub reads : HoldsOver code all from src
      pub owned : (p : ℕ) → p < processors code → (t : List ℤ) → Among (tuples_of code p dest) t
          → Among (tuples_of code (owner p t) src) (source t)

    module _ (is : IsSourced) where
      sourced_read : (p q : ℕ) → p < processors code → q < processors code → (local : Local)
          → IsBehind (all.shares p) local → (t : List ℤ) → Among (targets p q) t
          → Reads (value_at local.stores from (source_in local t))
      sourced_read p q below q_below local state t among =
          let (one, mine) = among_filtered (λ t. owner q t == p) (tuples_of code q dest) t among in
          let there : Among (tuples_of code p src) (source t) =
          subst (λ r. Among (tuples_of code r src) (source t)) (eqb-true (owner q t) p mine)
          (is.owned q q_below t one) in
          subst (λ f. Reads (value_at local.stores from (f t))) (sym
          (is.source_are p below local state))
          (value_read local.stores from (source t)
          (held_still (all.shares p).stores local.stores from (source t) state.keeps.stores
          (is.reads p below (source t) there)))

      abbrev its_work : IsWork code all alike quiet array targets_in
          (λ p local t. value_at local.stores from (source_in local t))
          (λ p local. targets_in local p p) replaced targets (λ p. targets p p)
      its_work = record {
        targets_are = is.targets_are;
        own_are = λ p below.
            ap (λ ts. ts p p) (is.targets_are p below (locals_of all p) (behind_start
            (all.shares p)));
        own_held = λ p below t among.
            is.sets p below t
            (among_filtered (λ t. owner p t == p) (tuples_of code p dest) t among).0;
        targets_held = λ q p q_below below t among.
            is.sets p below t
            (among_filtered (λ t. owner p t == q) (tuples_of code p dest) t among).0;
        own_reads = λ p below.
            sourced_read p p below below (locals_of all p) (behind_start (all.shares p));
        reads = sourced_read;
      }

      pub sourced_goes : GoesOn code all [] (plan.delivered code
          (work code all alike quiet array targets_in
          (λ p local t. value_at local.stores from (source_in local t))
          (λ p local. targets_in local p p) replaced targets (λ p. targets p p)) all)
      sourced_goes = work_goes code all alike quiet array targets_in
          (λ p local t. value_at local.stores from (source_in local t))
          (λ p local. targets_in local p p) replaced targets (λ p. targets p p) its_work

  -- ---- `flood`
  module _ (are : AreBlocks (laid_out (arrangement_of code))) (array target from source rank : ℕ)
      (dest src : Region) (dest_here : SlotHas all target dest) (src_here : SlotHas all source src)
      (dest_is : IsSlot rank dest) (src_is : IsSlot rank src) (sets : HoldsOver code all array dest)
      (reads : HoldsOver code all from src) (conform : flood_conforms dest src ≡ true) where
    flood_lies : (t : List ℤ) → Among (members dest) t → Among (members src) (flood_source src t)
    flood_lies t among =
        among_from_Contains (members src) (flood_source src t)
        ((members_iff src (flood_source src t) src_is.fits.steps).1
        (flood_source_lies dest src t dest_is.fits.steps src_is.fits.steps
        (dest_is.many ∙ sym src_is.many) conform
        ((members_iff dest t dest_is.fits.steps).0 (Contains-from_among (members dest) t among))))

    pub flood_goes : GoesOn code all []
        (plan.delivered code (λ p. delivery.flooded code p array target from source) all)
    flood_goes =
        sourced_goes array from dest src (flood_source src)
        (λ p t. owner_for code src p (flood_source src t))
        (λ local. flood_targets code (region_in local target) (region_in local source))
        (λ local t. flood_source (region_in local source) t) (record {
          targets_are = λ p below local state.
              ap₂ (λ a b. flood_targets code a b)
              (region_is code all alike target dest dest_here p below local state)
              (region_is code all alike source src src_here p below local state);
          source_are = λ p below local state.
              ap flood_source (region_is code all alike source src src_here p below local state);
          sets = sets;
          reads = reads;
          owned = λ p below t among.
              owner_has code are rank src src_is p below (flood_source src t)
              (flood_lies t (in_members code dest p t among));
        })

  -- ---- `wrap` and `reflect`
  -- a form of a region has the region's flood dimensions, and so the same owners
  same_blocks : (axes : List Axis) (ns ks : List ℕ) (v : List ℤ) (dims : List Dim) (t : List ℤ)
      → length v ≡ length dims
      → each_block_for axes ns ks (each dim_inside_of v dims) t ≡ each_block_for axes ns ks dims t
  same_blocks axes ns ks [] dims t long = refl
  same_blocks axes ns ks (d ∷ v) [] t long = absurd (omega (arith, long))
  same_blocks [] ns ks (d ∷ v) (e ∷ dims) t long = refl
  same_blocks (axis ∷ axes) [] ks (d ∷ v) (e ∷ dims) t long = refl
  same_blocks (axis ∷ axes) (n ∷ ns) [] (d ∷ v) (e ∷ dims) t long = refl
  same_blocks (axis ∷ axes) (n ∷ ns) (k ∷ ks) (d ∷ v) (e ∷ dims) [] long = refl
  same_blocks (axis ∷ axes) (n ∷ ns) (k ∷ ks) (d ∷ v) (e ∷ dims) (x ∷ t) long =
      ap₂ (λ c cs. c ∷ cs) (one e) (same_blocks axes ns ks v dims t (omega (arith, long)))
    where
      by : (a b : Bool) (lo hi step align : ℤ)
          → block_for axis n k (if a then dim.Range ((hi -ℤ d) +ℤ pos 1) hi step align
          else if b then dim.Range lo ((lo -ℤ d) -ℤ pos 1) step align
          else dim.Range lo hi step align) x ≡ block_for axis n k (dim.Range lo hi step align) x
      by true b lo hi step align = refl
      by false true lo hi step align = refl
      by false false lo hi step align = refl

      one : (e : Dim) → block_for axis n k (dim_inside_of d e) x ≡ block_for axis n k e x
      one dim.Flood = refl
      one (dim.Range lo hi step align) = by (int_lt (pos 0) d) (int_lt d (pos 0)) lo hi step align

  same_owner : (v : List ℤ) (region : Region) → length v ≡ length region.dims → (p : ℕ) (t : List ℤ)
      → owner_for code (inside_of v region) p t ≡ owner_for code region p t
  same_owner v region long p t =
      let blocks = laid_out (arrangement_of code) in
      let ns = cuts blocks.grid region.rank in
      ap (processor_at ns)
      (same_blocks (axes_at blocks region.rank) ns (blocks_at ns p) (components region.rank v)
      region.dims t (components_long region.rank v ∙ long))

  module _ (are : AreBlocks (laid_out (arrangement_of code))) (kind : Border) (array slot rank : ℕ)
      (shift : List ℤ) (region : Region) (here : SlotHas all slot region)
      (slot_is : IsSlot rank region)
      (three : length shift ≡ 3) (dest_is : IsSlot rank (outside_of shift region))
      (src_is : IsSlot rank (inside_of (map (side kind) shift) region))
      (sets : HoldsOver code all array (outside_of shift region))
      (reads : HoldsOver code all array (inside_of (map (side kind) shift) region))
      (conform : border_conforms shift region ≡ true) where
    abbrev dest : Region
    dest = outside_of shift region

    abbrev src : Region
    src = inside_of (map (side kind) shift) region

    abbrev source : List ℤ → List ℤ
    source t = border_source kind region shift t

    edge_lies : (t : List ℤ) → Among (members dest) t → Among (members src) (source t)
    edge_lies t among =
        among_from_Contains (members src) (source t)
        ((members_iff src (source t) src_is.fits.steps).1
        (subst (λ r. IsMember r (source t)) (sym (sources_are kind region shift))
        (border_source_lies kind region shift t conform
        ((members_iff dest t dest_is.fits.steps).0 (Contains-from_among (members dest) t among)))))

    pub edge_goes : GoesOn code all []
        (plan.delivered code (λ p. delivery.edged code p kind array slot shift) all)
    edge_goes =
        sourced_goes array array dest src source (λ p t. owner_for code region p (source t))
        (λ local. border_targets code kind (region_in local slot) shift)
        (λ local t. border_source kind (region_in local slot) shift t) (record {
          targets_are = λ p below local state.
              ap (λ r. border_targets code kind r shift)
              (region_is code all alike slot region here p below local state);
          source_are = λ p below local state.
              ap (λ r. λ t. border_source kind r shift t)
              (region_is code all alike slot region here p below local state);
          sets = sets;
          reads = reads;
          owned = λ p below t among.
              subst (λ q. Among (tuples_of code q src) (source t))
              (same_owner (map (side kind) shift) region
              (length-map shift (side kind) ∙ (three ∙ sym slot_is.many)) p (source t))
              (owner_has code are rank src src_is p below (source t)
              (edge_lies t (in_members code dest p t among)));
        })

  -- ---- `part`
  module _ (array target : ℕ) (f : Fold) (from source : ℕ) (dest src : Region)
      (dest_here : SlotHas all target dest) (src_here : SlotHas all source src)
      (sets : HoldsOver code all array dest) (reads : HoldsOver code all from src) where
    part_read : (p : ℕ) → p < processors code → (local : Local) → IsBehind (all.shares p) local
        → (t : List ℤ)
        → Reads (option_map (folded f) (values_at local.stores from
        (reaching code (region_in local target) (region_in local source) p t)))
    part_read p below local state t =
        let ts = reaching code dest src p t in
        let read = values_read local.stores from ts (λ u among.
        held_still (all.shares p).stores local.stores from u state.keeps.stores
        (reads p below u (among_filtered (agrees dest.dims t) (tuples_of code p src) u among).0)) in
        subst (λ ts. Reads (option_map (folded f) (values_at local.stores from ts)))
        (sym (ap₂ (λ a b. reaching code a b p t)
        (region_is code all alike target dest dest_here p below local state)
        (region_is code all alike source src src_here p below local state)))
        (record { value = folded f read.words; is = ap (option_map (folded f)) read.is })

    pub part_goes : GoesOn code all []
        (plan.delivered code (λ p. delivery.parted code p array target f from source) all)
    part_goes =
        work_goes code all alike quiet array
        (λ local. part_targets code (region_in local target) (region_in local source))
        (λ p local t. option_map (folded f) (values_at local.stores from
        (reaching code (region_in local target) (region_in local source) p t)))
        (λ p local. tuples_of code p (region_in local target)) (joined f)
        (part_targets code dest src) (λ p. tuples_of code p dest) (record {
          targets_are = λ p below local state.
              ap₂ (λ a b. part_targets code a b)
              (region_is code all alike target dest dest_here p below local state)
              (region_is code all alike source src src_here p below local state);
          own_are = λ p below.
              ap (tuples_of code p) (region_is code all alike target dest dest_here p below
              (locals_of all p) (behind_start (all.shares p)));
          own_held = λ p below. sets p below;
          targets_held = λ q p q_below below t among.
              sets p below t (among_filtered
              (λ t. list_any (agrees dest.dims t) (tuples_of code q src)) (tuples_of code p dest) t
              among).0;
          own_reads = λ p below t among.
              part_read p below (locals_of all p) (behind_start (all.shares p)) t;
          reads = λ p q below q_below local state t among. part_read p below local state t;
        })
