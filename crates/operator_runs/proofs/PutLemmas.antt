-- The row of an assignment of an array, behind the rows of its operators.
use Rattle.std.proofs.Common.{◌≡◌, refl, sym, ◌∙◌, ap, subst, arith, ℕ, Bool, true}
use Rattle.std.proofs.Common.{◌&&◌, List, [], ◌∷◌, ℤ, pos, Option, Some, append-nil}
use Rattle.std.specs.Prelude.{flat_map, replicate, slice_get}
use Rattle.std.specs.List.{list_all}
use Rattle.zpl_region.specs.declared.regions.Region.{Region}
use Rattle.zpl_region.specs.Region.{IsMember}
use Rattle.zpl_region.proofs.HullLemmas.{has_steps}
use Rattle.zpl_arrays.specs.Array.{Array, element, has_place}
use Rattle.zpl_arrays.proofs.ArrayLemmas.{array_of_is_array}
use Rattle.zpl_arrays.proofs.ReferenceLemmas.{lies_in_places}
use Rattle.zpl_meaning.specs.Computed as mean
use Rattle.zpl_nums.specs.Integer.{IsInteger}
use Rattle.zpl_meaning.specs.Store.{Store, array_at, no_array, with_array}
use Rattle.zpl_meaning.specs.Context.{is_kept}
use Rattle.zpl_meaning.specs.Fields.{Field, array_over, is_kept_in}
use Rattle.zpl_meaning.specs.Outcome as out
use Rattle.zpl_meaning.specs.Outcome.{Outcome}
use Rattle.zpl_meaning.specs.Statement.{written}
use Rattle.node_form.specs.declared.tables.Tables.{Tables}
use Rattle.node_form.specs.Expression.{Expression, words_of}
use Rattle.node_form.specs.Value as flat
use Rattle.node_form.specs.Value.{unmoved, value_of}
use Rattle.node_form.proofs.ValueLemmas.{value_of-words_of}
use Rattle.row_runs.specs.Run.{Step}
use Rattle.row_runs.specs.Straight.{Every}
use Rattle.row_runs.specs.Structured as code
use Rattle.row_runs.specs.Structured.{Course, by_step, rows_do}
use Rattle.grid_meaning.specs.Place.{moved_by}
use Rattle.flat_form.specs.Row as row
use Rattle.flat_form.specs.Row.{Row, Words, mask_words}
use Rattle.flat_form.specs.Names.{group_cells, word_reads}
use Rattle.flat_form.specs.Loop.{loop_stands, looped, operands_at}
use Rattle.flat_form.specs.Right.{can_read, can_write, has_places, writes_well}
use Rattle.flat_form.specs.Whole.{Whole}
use Rattle.normal_runs.proofs.PlaceLemmas.{moved_none}
use Rattle.print_runs.specs.of_zpl_lowering.Where.{Stored, Slotted, Where, Next}
use Rattle.print_runs.specs.of_zpl_lowering.Reference.{mask_reference, refer_to}
use Rattle.print_runs.specs.of_zpl_lowering.Hoist.{mask_code}
use Rattle.print_runs.specs.of_lowering_runs.Seen.{Spot}
use Rattle.print_runs.specs.of_lowering_runs.Run.{decide, step, straight}
use Rattle.print_runs.specs.of_lowering_runs.Agrees.{Agrees, Going, Trapping}
use Rattle.print_runs.specs.of_lowering_runs.Stands.{IsLike}
use Rattle.print_runs.proofs.of_lowering_runs.RowLemmas.{settled_act}
use Rattle.print_runs.specs.of_array_puts.Put.{IsPutting, IsMask, IsSame, assigned, put_group, with_array_in}
use Rattle.print_runs.proofs.of_array_puts.PutLemmas.{put_assigns}
use Rattle.print_runs.specs.of_array_runs.Reads.{EachCovers, EachMatches}
use Rattle.print_runs.specs.of_array_runs.Gates.{holds}
use Rattle.print_runs.specs.of_array_runs.Elementwise.{IsReadableMask}
use Rattle.print_runs.specs.of_array_runs.Integers.{GivesIntegers}
use Rattle.print_runs.proofs.of_array_runs.IntegerLemmas.{array_integers, written_integers}
use Rattle.print_runs.proofs.of_array_runs.StoredLemmas.{IsFound, found_array, index_of_found}
use Rattle.print_runs.proofs.of_array_runs.ElementLemmas.{all_members, holding_is}
use Rattle.print_runs.proofs.of_array_runs.MaskLemmas.{IsMasking}
use Rattle.print_runs.proofs.of_array_runs.AssignLemmas.{all_read}
use Rattle.print_runs.proofs.of_array_runs.TargetLemmas.{covers_matching, matches_row, flat_member}
use Rattle.print_runs.proofs.of_array_runs.LikeLemmas.{like_array}
use Rattle.operator_runs.specs.Meant.{InSlot}
use Rattle.operator_runs.proofs.CurrentLemmas.{current_in}
use Rattle.operator_runs.proofs.MeantLemmas.{mask_at}

module _ (tables : Tables) (n : ℕ) (spots : List Spot) (w : Where) (line : ℕ) (next : Next)
    (start : Whole) (store : Store) (after : Whole)
    (like : IsLike tables spots w next start store after) (over : Slotted) (region : Region)
    (i : InSlot after.slots over region) (target : ℕ) (stored : Stored)
    (found : slice_get w.numbers.arrays target ≡ Some stored)
    (matches : EachMatches stored.storage.dims region.dims)
    (readable : IsReadableMask w region over.mask) (field : Field) (integers : GivesIntegers field)
    (left : Expression)
    (own : list_all (holds tables after) (refer_to over.slot [] (Some stored)) ≡ true)
    (masked : list_all (holds tables after) (mask_reference w.numbers over.slot over.mask) ≡ true)
    (values : (cells t : List ℤ) → IsMember region t
    → IsSame (field t) (flat.tree_value (operands_at after t (record { cells = cells; log = [] })) left))
    (reads : Every (λ one. list_all (can_read tables after region) (word_reads one) ≡ true)
    (words_of left)) where
  abbrev k : ℕ
  k = stored.array

  f : IsFound tables spots w.numbers.arrays after target stored
  f = found_array tables spots w.numbers.arrays after target stored like.sound.filled like.held.stored
      found

  m : IsMasking tables spots w line after region.rank over (current_in after.slots over region i)
      over.mask
  m = mask_at tables spots w line like.held.stored after like.sound over region i readable

  covers : EachCovers stored.storage.dims region.dims
  covers = covers_matching stored.storage.dims region.dims matches

  own_matches : EachMatches f.array.storage.dims region.dims
  own_matches = subst (λ (r : Region). EachMatches r.dims region.dims) (sym f.storage) matches

  places : (t : List ℤ) → IsMember region t → has_place f.array.storage t ≡ true
  places t at =
      lies_in_places region f.array.storage t (has_steps region.dims i.is.dims) f.boxed
      (i.three ∙ sym f.three)
      (sym (holding_is tables spots w line after region.rank over
      (current_in after.slots over region i) target stored found f covers [] tt)
      ∙ ap (λ (o : Option Stored). list_all (holds tables after) (refer_to over.slot [] o)) found ∙ own)
      at

  can_put : can_write tables after region k ≡ true
  can_put =
      ap (λ o. writes_well o (slice_get after.stores k) region) f.in_tables
      ∙ ap (λ o. writes_well (Some f.row) o region) f.in_stores
      ∙ ap (λ b. b && has_places f.array region unmoved)
      (matches_row f.row.dims region.dims
      (subst (λ (r : Region). EachMatches r.dims region.dims) (sym f.storage_row) matches))
      ∙ all_members region (λ t. has_place f.array.storage (moved_by unmoved t))
      (has_steps region.dims i.is.dims)
      (λ t at. ap (has_place f.array.storage) (moved_none t) ∙ places t at)

  abbrev code_mask : Option Words
  code_mask = mask_code w.numbers over.mask

  may_stand : loop_stands tables after region (put_group k (words_of left) code_mask line) ≡ true
  may_stand =
      ap (λ t. t && ((can_write tables after region k && true) && true))
      (ap (λ exprs. list_all (can_read tables after region)
      (flat_map (λ expr. flat_map word_reads expr) exprs))
      (append-nil (words_of left ∷ mask_words code_mask))
      ∙ all_read (can_read tables after region) (words_of left ∷ mask_words code_mask)
      (reads, m.reads masked))
      ∙ ap (λ t. (t && true) && true) can_put

  abbrev kept : List ℤ → Bool
  kept t = is_kept_in store (record { region = region; mask = over.mask }) t

  abbrev cells : List ℤ
  cells = replicate (group_cells (put_group k (words_of left) code_mask line)) (pos 0)

  putting : IsPutting tables after k f.array region kept field (words_of left) code_mask line
  putting = record {
    found = f.in_stores;
    filled = f.is;
    steps = has_steps region.dims i.is.dims;
    places = places;
    apart = λ t at. flat_member f.array.storage.dims region.dims t own_matches at;
    stands = may_stand;
    masked = λ t at.
        subst (λ (s : Store). IsMask (operands_at after t (record { cells = cells; log = [] })) code_mask (is_kept s over.mask t))
        (sym like.seen) (m.masked masked cells t at);
    values = λ t at e.
        subst (λ (v : flat.Computed ℤ). IsSame (field t) v)
        (sym (value_of-words_of (operands_at after t (record { cells = cells; log = [] })) left)) (values cells t at);
  }

  -- ---- the row

  abbrev Like : Store → Whole → Type 0
  Like = IsLike tables spots w next start

  abbrev pub assigns : mean.Computed Array → Outcome
  assigns computed =
      out.with_value computed store line (λ values.
      out.goes_on (with_array store target
      (written (array_at store target) region kept (element values))))

  old_integers : Every IsInteger f.array.values
  old_integers =
      subst (λ (a : Array). Every IsInteger a.values)
      (index_of_found after.stores k f.array no_array f.in_stores)
      (like.sound.elements k f.row f.in_tables f.kept)

  by_values : (computed : mean.Computed Array)
      → ((values : Array) → computed ≡ mean.Gives values → Every IsInteger values.values)
      → array_at store target ≡ f.array → Agrees Like n 0 (assigns computed)
      (by_step after (assigned after k f.array region kept line computed) (λ end. code.goes_on end))
  by_values (mean.Gives values) new e =
      subst (λ (a : Array). Agrees Like n 0 (out.goes_on (with_array store target
      (written a region kept (element values))))
      (code.goes_on (with_array_in after k (written f.array region kept (element values))))) (sym e)
      (Going (like_array tables spots w next start store after target stored f.row f.array
      (written f.array region kept (element values)) like found f.in_tables f.in_stores
      (record {
        filled = (array_of_is_array f.array.storage _ f.is.steps).filled;
        placed = λ h. f.storage ∙ sym f.storage_row;
      }) (written_integers f.array values region kept old_integers (new values refl)))
      (omega arith))
  by_values (mean.Traps kind) new e = Trapping (omega arith)

  loop_step : step tables n (row.Loop over.slot (put_group k (words_of left) code_mask line)) after
      ≡ looped tables n (put_group k (words_of left) code_mask line) after (Some region)
  loop_step =
      ap straight (settled_act tables n after like.sound.settled
      (row.Loop over.slot (put_group k (words_of left) code_mask line)))
      ∙ ap (looped tables n (put_group k (words_of left) code_mask line) after) i.found

  pub put_agrees : Agrees Like n 0 (assigns (array_over region kept field))
      (rows_do (step tables n) (decide tables n)
      (row.Loop over.slot (put_group k (words_of left) code_mask line) ∷ []) after)
  put_agrees =
      subst (λ (s : Step Whole). Agrees Like n 0 (assigns (array_over region kept field))
      (by_step after s (λ end. code.goes_on end)))
      (sym (loop_step ∙ put_assigns tables n after k f.array region kept field (words_of left) code_mask
      line putting))
      (by_values (array_over region kept field)
      (array_integers region kept field i.is.dims integers)
      (ap (λ (s : Store). array_at s target) like.seen ∙ f.seen))
