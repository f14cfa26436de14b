-- The row that sets a border does what the border statement writes.
use Rattle.std.proofs.Common.{◌≡◌, sym, ◌∙◌, ap, subst, true, ◌&&◌, All, List, [], ◌∷◌}
use Rattle.std.proofs.Common.{length, map, ℕ, ℤ, Some}
use Rattle.std.specs.Prelude.{if◌then◌else◌, option_and_then, slice_get, slice_set}
use Rattle.std.specs.Option.{option_map}
use Rattle.zpl_nums.specs.declared.ends.Border.{Border}
use Rattle.zpl_region.specs.declared.regions.Region.{Region}
use Rattle.zpl_region.specs.Dim.{HasStep}
use Rattle.zpl_region.specs.Region.{IsMember, members, outside_of}
use Rattle.zpl_region.proofs.LawLemmas.{members_iff}
use Rattle.zpl_region.proofs.ListLemmas.{Contains-from_among}
use Rattle.zpl_arrays.specs.Array.{Array, element, has_place, updated}
use Rattle.zpl_arrays.specs.Border.{border_conforms, border_source, border_sources}
use Rattle.zpl_arrays.specs.Reference.{lies_in}
use Rattle.zpl_arrays.proofs.ReferenceLemmas.{lies_in_places}
use Rattle.zpl_meaning.specs.Fields.{everywhere}
use Rattle.zpl_meaning.specs.Statement.{written}
use Rattle.node_form.specs.declared.instructions.Instr.TheVariants as instr
use Rattle.node_form.specs.declared.tables.Tables.{Tables}
use Rattle.node_form.specs.Value.{unmoved}
use Rattle.row_runs.specs.Run.{Goes}
use Rattle.row_runs.specs.Straight.{Every}
use Rattle.grid_meaning.specs.Place.{held_with, moved_by, where_held, with_values}
use Rattle.flat_form.specs.Row as row
use Rattle.flat_form.specs.Moves.{edged, found, moved_in, provided, reads_in, with_stores}
use Rattle.flat_form.specs.Right as right
use Rattle.flat_form.specs.Right.{can_read, can_write, each_covers, has_places, is_settled, matches, reads_well, writes_well}
use Rattle.flat_form.specs.Whole.{Whole}
use Rattle.normal_runs.proofs.PlaceLemmas.{moved_none, set_same, set_there, set_twice}
use Rattle.prefix_runs.specs.of_zpl_lowering.Where.{Stored}
use Rattle.prefix_runs.specs.of_lowering_runs.Run.{step, straight}
use Rattle.prefix_runs.specs.of_lowering_runs.Seen.{Spot}
use Rattle.prefix_runs.proofs.of_lowering_runs.RowLemmas.{settled_act}
use Rattle.prefix_runs.specs.of_array_puts.Put.{with_array_in}
use Rattle.prefix_runs.proofs.of_array_puts.WriteLemmas.{all_written, every_among, put_all}
use Rattle.prefix_runs.specs.of_array_runs.Reads.{EachCovers, EachMatches}
use Rattle.prefix_runs.proofs.of_array_runs.ElementLemmas.{all_members, covers_row}
use Rattle.prefix_runs.proofs.of_array_runs.StoredLemmas.{IsFound}
use Rattle.prefix_runs.proofs.of_array_runs.TargetLemmas.{flat_member, matches_row}

-- ---- values that are set one after another

set_values : (k : ℕ) (a : Array) (ts : List (List ℤ)) (f : List ℤ → ℤ) (stores : List Array)
    → slice_get stores k ≡ Some a → Every (λ t. has_place a.storage t ≡ true) ts
    → with_values k ts (map f ts) stores
    ≡ Some (slice_set stores k (put_all a ts (map (λ t. Some (f t)) ts)))
set_values k a [] f stores e h = ap (λ (xs : List Array). Some xs) (sym (set_same stores k a e))
set_values k a (t ∷ ts) f stores e h =
    let b = updated a t (f t) in
    ap (option_and_then (with_values k ts (map f ts)))
    (ap (λ o. option_map (slice_set stores k) (option_and_then (held_with t (f t)) o)) e
    ∙ ap (λ c. option_map (slice_set stores k) (where_held c b)) h.0)
    ∙ set_values k b ts f (slice_set stores k b) (set_there stores k b a e) h.1
    ∙ ap (λ (xs : List Array). Some xs)
    (set_twice stores k b (put_all b ts (map (λ t. Some (f t)) ts)))

-- ---- the row

module _ (tables : Tables) (n : ℕ) (spots : List Spot) (arrays : List Stored) (now : Whole)
    (settled : (k : ℕ) → is_settled now k ≡ true) (target : ℕ) (stored : Stored)
    (f : IsFound tables spots arrays now target stored) (kind : Border) (slot : ℕ) (shift : List ℤ)
    (base : Region) (in_slot : slice_get now.slots slot ≡ Some base)
    (conforms : border_conforms shift base ≡ true) where
  abbrev border : Region
  border = outside_of shift base

  abbrev sources : Region
  sources = border_sources kind base shift

  abbrev k : ℕ
  k = stored.array

  abbrev value : List ℤ → ℤ
  value t = element f.array (border_source kind base shift t)

  module _ (steps : All HasStep border.dims) (three : length border.dims ≡ 3)
      (matching : EachMatches stored.storage.dims border.dims)
      (lies : lies_in border f.array.storage ≡ true) (own_steps : All HasStep sources.dims)
      (own_three : length sources.dims ≡ 3) (covers : EachCovers stored.storage.dims sources.dims)
      (own_lies : lies_in sources f.array.storage ≡ true) where
    places : (t : List ℤ) → IsMember border t → has_place f.array.storage t ≡ true
    places t m = lies_in_places border f.array.storage t steps f.boxed (three ∙ sym f.three) lies m

    own_matching : EachMatches f.array.storage.dims border.dims
    own_matching =
        subst (λ (r : Region). EachMatches r.dims border.dims) (sym f.storage) matching

    may_write : can_write tables now border k ≡ true
    may_write =
        ap (λ o. writes_well o (slice_get now.stores k) border) f.in_tables
        ∙ ap (λ o. writes_well (Some f.row) o border) f.in_stores
        ∙ ap (λ b. b && has_places f.array border unmoved)
        (matches_row f.row.dims border.dims
        (subst (λ (r : Region). EachMatches r.dims border.dims) (sym f.storage_row) matching))
        ∙ all_members border (λ t. has_place f.array.storage (moved_by unmoved t)) steps
        (λ t m. ap (has_place f.array.storage) (moved_none t) ∙ places t m)

    may_read : reads_in tables now sources k ≡ true
    may_read =
        ap (λ o. reads_well o (slice_get now.stores k) sources unmoved) f.in_tables
        ∙ ap (λ o. reads_well (Some f.row) o sources unmoved) f.in_stores
        ∙ ap (λ b. (if b then each_covers f.row.dims sources.dims
        else right.is_unmoved unmoved && matches f.row sources)
        && has_places f.array sources unmoved) f.kept
        ∙ ap (λ b. b && has_places f.array sources unmoved)
        (covers_row f.row.dims sources.dims
        (subst (λ (r : Region). EachCovers r.dims sources.dims) (sym f.storage_row) covers))
        ∙ all_members sources (λ t. has_place f.array.storage (moved_by unmoved t)) own_steps
        (λ t m. ap (has_place f.array.storage) (moved_none t)
        ∙ lies_in_places sources f.array.storage t own_steps f.boxed (own_three ∙ sym f.three) own_lies
        m)

    moved_is : moved_in now k border value
        ≡ Goes [] (with_array_in now k (written f.array border everywhere value))
    moved_is =
        ap (λ o. found o (with_stores now))
        (set_values k f.array (members border) value now.stores f.in_stores
        (every_among (λ t. has_place f.array.storage t ≡ true) (members border)
        (λ t m. places t ((members_iff border t steps).0 (Contains-from_among (members border) t m)))))
        ∙ ap (λ (a : Array). Goes [] (with_array_in now k a))
        (all_written f.array border everywhere value f.is steps places
        (λ t m. flat_member f.array.storage.dims border.dims t own_matching m))

    pub edge_step : step tables n (row.Plain (instr.Edge kind k slot shift)) now
        ≡ Goes [] (with_array_in now k (written f.array border everywhere value))
    edge_step =
        ap straight (settled_act tables n now settled (row.Plain (instr.Edge kind k slot shift)))
        ∙ ap (λ o. found o (λ region. edged tables now kind k region shift)) in_slot
        ∙ ap (λ b. provided (b && (can_write tables now border k && reads_in tables now sources k))
        (found (slice_get now.stores k) (λ store. moved_in now k border
        (λ t. element store (border_source kind base shift t))))) conforms
        ∙ ap (λ b. provided (true && (b && reads_in tables now sources k))
        (found (slice_get now.stores k) (λ store. moved_in now k border
        (λ t. element store (border_source kind base shift t))))) may_write
        ∙ ap (λ b. provided (true && (true && b))
        (found (slice_get now.stores k) (λ store. moved_in now k border
        (λ t. element store (border_source kind base shift t))))) may_read
        ∙ ap (λ o. found o (λ store. moved_in now k border
        (λ t. element store (border_source kind base shift t)))) f.in_stores
        ∙ moved_is
