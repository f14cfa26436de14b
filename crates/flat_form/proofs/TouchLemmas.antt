-- What a row does goes by what it names.
use Rattle.std.proofs.Common.{◌≡◌, refl, ◌∙◌, ap, subst, inl, inr, ℕ, ◌==◌}
use Rattle.std.proofs.Common.{Bool, true, false, List, [], ◌∷◌, map, Option, Some, None, ℤ}
use Rattle.std.specs.Prelude.{if◌then◌else◌, ◌&&◌, not, option_and_then, slice_get, slice_index_or}
use Rattle.std.specs.Prelude.{slice_set, ⊤, is_none}
use Rattle.std.specs.Fmt.{signed_decimal}
use Rattle.std.specs.List.{cons_option, filter_map, list_all}
use Rattle.std.specs.Option.{IsSomeAnd}
use Rattle.code_parts.specs.of_zpl_nums.declared.ends.Border.{Border}
use Rattle.code_parts.specs.of_zpl_nums.declared.folds.Fold.{Fold}
use Rattle.code_parts.specs.of_zpl_region.declared.regions.Region.{Region}
use Rattle.code_parts.specs.of_zpl_region.Region.{outside_of}
use Rattle.code_parts.specs.of_zpl_arrays.Array.{element}
use Rattle.code_parts.specs.of_zpl_arrays.ArrayText.{truth_text}
use Rattle.code_parts.specs.of_zpl_arrays.Border.{border_conforms, border_source, border_sources}
use Rattle.code_parts.specs.of_zpl_arrays.Conformity.{flood_conforms, reduction_conforms}
use Rattle.code_parts.specs.of_zpl_arrays.Flood.{flood_source}
use Rattle.code_parts.specs.of_zpl_arrays.Fold.{partly_reduced}
use Rattle.grid_meaning.specs.of_node_form.declared.instructions.Instr.{Instr}
use Rattle.grid_meaning.specs.of_node_form.declared.instructions.Instr.TheVariants as instr
use Rattle.grid_meaning.specs.of_node_form.declared.tables.Tables.{Tables}
use Rattle.grid_meaning.specs.of_node_form.declared.touches.Thing.{Thing}
use Rattle.grid_meaning.specs.of_node_form.declared.touches.Thing.TheVariants as thing
use Rattle.grid_meaning.specs.of_node_form.Touch.{IsNamed}
use Rattle.grid_meaning.specs.of_node_form.Value.{Computed, Gives, Divides, Lacks, scalar_operands, unmoved}
use Rattle.grid_meaning.specs.of_node_form.Value.{value_of}
use Rattle.nest_meaning.specs.of_row_runs.Run.{Goes, Stops, Wrong, Effect, Does}
use Rattle.nest_meaning.specs.of_row_runs.Straight.{Every}
use Rattle.nest_meaning.specs.of_row_runs.Cut.{as_list}
use Rattle.grid_meaning.specs.Room.{zeros_at}
use Rattle.flat_form.specs.Act.{act, folded, is_awaited, row_does, value_printed}
use Rattle.flat_form.specs.Moves.{kept_by, moved_in, reads_in}
use Rattle.flat_form.specs.Moves.{reads_mask, scan_value, wanted_at}
use Rattle.flat_form.specs.Names.{Total, each_word, group_totals, own_scalars, row_scalars}
use Rattle.flat_form.specs.Names.{word_scalars}
use Rattle.flat_form.specs.Right.{are_settled, can_write, is_settled, no_flood}
use Rattle.flat_form.specs.Row.{Words, Member, Row, Set, Dims, Loop, Print, Number, Truth, Unless}
use Rattle.flat_form.specs.Row.{Plain, inlined, member_inlined, part_inlined, row_words, words_at}
use Rattle.flat_form.specs.Touches.{DoSame, BothGo, BothStop, BothLeap}
use Rattle.flat_form.specs.Touches.{GoByNames}
use Rattle.flat_form.specs.Whole.{Whole}
use Rattle.flat_form.proofs.AgreeLemmas.{Agree, AlikeSteps, found_alike, moved_alike}
use Rattle.flat_form.proofs.AgreeLemmas.{provided_alike, set_awaited, set_store}
use Rattle.flat_form.proofs.ControlLemmas.{dims_alike, fits_alike, fix_alike, formed_alike}
use Rattle.flat_form.proofs.ControlLemmas.{need_alike, same_alike, scalar_same}
use Rattle.flat_form.proofs.ControlLemmas.{set_alike as scalar_set_alike, unless_alike}
use Rattle.flat_form.proofs.LoopLemmas.{looped_alike, read_same, write_same}
use Rattle.flat_form.proofs.NamedLemmas.{ExprNamed, GroupNamed, every_named, expr_named}
use Rattle.flat_form.proofs.NamedLemmas.{group_named, parts_exprs, parts_named, scalars_named}
use Rattle.flat_form.proofs.NamedLemmas.{totals_named}
use Rattle.flat_form.proofs.WordLemmas.{every_append}

module _ (tables other : Tables) (Q : Thing → Type 0) (one two : Whole)
    (agree : Agree tables other Q one two) where
  abbrev Same : Effect Whole → Effect Whole → Type 0
  Same = DoSame (Agree tables other Q)

  abbrev RowSame : ℕ → Row → Type 0
  RowSame n row = Same (row_does tables n row one) (row_does other n row two)

  -- ---- scalars whose `fold` is still to come
  settled_same : (k : ℕ) → Q (thing.Scalar k) → is_settled one k ≡ is_settled two k
  settled_same k is =
      ap (λ o. is_none (option_and_then (λ awaited. awaited) o)) (agree (thing.Scalar k) is).1

  settled_all : (scalars : List ℕ) → Every (λ k. Q (thing.Scalar k)) scalars
      → list_all (is_settled one) scalars ≡ list_all (is_settled two) scalars
  settled_all [] all = refl
  settled_all (k ∷ scalars) all =
      ap (λ b. b && list_all (is_settled one) scalars) (settled_same k all.0)
      ∙ ap (λ b. is_settled two k && b) (settled_all scalars all.1)

  if_same : (b c : Bool) (e f : Effect Whole) → b ≡ c → Same e f
      → Same (if b then e else Does (Stops Wrong)) (if c then f else Does (Stops Wrong))
  if_same b c e f same more = subst (λ d. Same (if b then e else Does (Stops Wrong))
      (if d then f else Does (Stops Wrong))) same (by b)
    where
      by : (b : Bool) → Same (if b then e else Does (Stops Wrong))
          (if b then f else Does (Stops Wrong))
      by true = more
      by false = BothStop

  act_same : (n : ℕ) (row : Row) → Every (λ k. Q (thing.Scalar k)) (row_scalars row) → RowSame n row
      → Same (act tables n row one) (act other n row two)
  act_same n row all more = if_same (are_settled one row) (are_settled two row)
      (row_does tables n row one) (row_does other n row two)
      (settled_all (row_scalars row) all) more

  -- ---- prints
  print_by : (text : ℤ → List ℕ) (x : Computed ℤ)
      → Same (Does (value_printed one text x)) (Does (value_printed two text x))
  print_by text (Gives v) = BothGo agree
  print_by text Divides = BothStop
  print_by text Lacks = BothStop

  print_same : (text : ℤ → List ℕ) (expr : Words) → ExprNamed Q expr
      → Same (Does (value_printed one text (value_of (scalar_operands one.scalars) expr)))
      (Does (value_printed two text (value_of (scalar_operands two.scalars) expr)))
  print_same text expr named =
      subst (λ x. Same (Does (value_printed one text (value_of (scalar_operands one.scalars) expr)))
      (Does (value_printed two text x)))
      (scalar_same tables other Q one two agree expr named)
      (print_by text (value_of (scalar_operands one.scalars) expr))

  -- ---- `fold`
  fold_by : (scalar : ℕ) (b : Bool) → Q (thing.Scalar scalar)
      → Same (Does (if b then Goes [] (record one { awaited = slice_set one.awaited scalar None })
      else Stops Wrong))
      (Does (if b then Goes [] (record two { awaited = slice_set two.awaited scalar None }) else
      Stops Wrong))
  fold_by scalar true is = BothGo (set_awaited tables other Q one two scalar None is agree)
  fold_by scalar false is = BothStop

  fold_same : (scalar : ℕ) (f : Fold) → Q (thing.Scalar scalar)
      → Same (Does (folded one scalar f)) (Does (folded two scalar f))
  fold_same scalar f is =
      subst (λ o. Same (Does (folded one scalar f))
      (Does (if is_awaited f o then Goes []
      (record two { awaited = slice_set two.awaited scalar None }) else Stops Wrong)))
      (agree (thing.Scalar scalar) is).1 (fold_by scalar
      (is_awaited f (slice_get one.awaited scalar)) is)

  -- ---- arrays
  here : (array : ℕ) → Q (thing.Array array) → slice_get one.stores array
      ≡ slice_get two.stores array
  here array is = (agree (thing.Array array) is).1

  slot_here : (slot : ℕ) → Q (thing.Slot slot) → slice_get one.slots slot ≡ slice_get two.slots slot
  slot_here slot is = (agree (thing.Slot slot) is).1

  reads_same : (region : Region) (array : ℕ) → Q (thing.Array array)
      → reads_in tables one region array ≡ reads_in other two region array
  reads_same region array is =
      read_same tables other Q one two agree region (record { array = array; shift = unmoved }) is

  writes_same : (region : Region) (array : ℕ) → Q (thing.Array array)
      → can_write tables one region array ≡ can_write other two region array
  writes_same region array is = write_same tables other Q one two agree region array is

  both_same : (a b c d : Bool) → a ≡ b → c ≡ d → (a && c) ≡ (b && d)
  both_same a b c d e f = ap (λ x. x && c) e ∙ ap (λ x. b && x) f

  moves : (array : ℕ) (region : Region) (value : List ℤ → ℤ) → Q (thing.Array array)
      → AlikeSteps tables other Q (moved_in one array region value)
      (moved_in two array region value)
  moves array region value is = moved_alike tables other Q one two array region value is agree

  edge_same : (kind : Border) (array slot : ℕ) (shift : List ℤ) (n : ℕ) → Q (thing.Array array)
      → Q (thing.Slot slot) → RowSame n (Plain (instr.Edge kind array slot shift))
  edge_same kind array slot shift n is at =
      found_alike tables other Q (slice_get one.slots slot) (slice_get two.slots slot) _ _
      (slot_here slot at) (λ region.
      provided_alike tables other Q _ _ _ _
      (ap (λ b. border_conforms shift region && b)
      (both_same _ _ _ _ (writes_same (outside_of shift region) array is)
      (reads_same (border_sources kind region shift) array is)))
      (found_alike tables other Q (slice_get one.stores array) (slice_get two.stores array) _ _
      (here array is) (λ store.
      moves array (outside_of shift region) (λ t. element store (border_source kind region shift t))
      is)))

  flood_same : (array target from source n : ℕ) → Q (thing.Array array) → Q (thing.Slot target)
      → Q (thing.Array from) → Q (thing.Slot source)
      → RowSame n (Plain (instr.Flood array target from source))
  flood_same array target from source n is at read by =
      found_alike tables other Q (slice_get one.slots target) (slice_get two.slots target) _ _
      (slot_here target at) (λ region.
      found_alike tables other Q (slice_get one.slots source) (slice_get two.slots source) _ _
      (slot_here source by) (λ over.
      provided_alike tables other Q _ _ _ _
      (ap (λ b. flood_conforms region over && b)
      (both_same _ _ _ _ (writes_same region array is) (reads_same over from read)))
      (found_alike tables other Q (slice_get one.stores from) (slice_get two.stores from) _ _
      (here from read) (λ store.
      moves array region (λ t. element store (flood_source over t)) is))))

  part_same : (array target : ℕ) (f : Fold) (from source n : ℕ) → Q (thing.Array array)
      → Q (thing.Slot target) → Q (thing.Array from) → Q (thing.Slot source)
      → RowSame n (Plain (instr.Part array target f from source))
  part_same array target f from source n is at read by =
      found_alike tables other Q (slice_get one.slots target) (slice_get two.slots target) _ _
      (slot_here target at) (λ region.
      found_alike tables other Q (slice_get one.slots source) (slice_get two.slots source) _ _
      (slot_here source by) (λ over.
      provided_alike tables other Q _ _ _ _
      (ap (λ b. reduction_conforms region over && (not (array == from) && (no_flood over && b)))
      (both_same _ _ _ _ (writes_same region array is) (reads_same over from read)))
      (found_alike tables other Q (slice_get one.stores from) (slice_get two.stores from) _ _
      (here from read) (λ store.
      moves array region (partly_reduced f region over (element store)) is))))

  abbrev MaskNamed : Option ℕ → Type 0
  MaskNamed None = ⊤
  MaskNamed (Some mask) = Q (thing.Array mask)

  mask_same : (region : Region) (mask : Option ℕ) → MaskNamed mask
      → reads_mask tables one region mask ≡ reads_mask other two region mask
  mask_same region None is = refl
  mask_same region (Some mask) is = reads_same region mask is

  mask_here : (mask : Option ℕ) → MaskNamed mask
      → option_and_then (λ mask. slice_get one.stores mask) mask
      ≡ option_and_then (λ mask. slice_get two.stores mask) mask
  mask_here None is = refl
  mask_here (Some mask) is = here mask is

  scan_same : (array slot : ℕ) (f : Fold) (along from : ℕ) (mask : Option ℕ) (n : ℕ)
      → Q (thing.Array array) → Q (thing.Slot slot) → Q (thing.Array from) → MaskNamed mask
      → RowSame n (Plain (instr.Scan array slot f along from mask))
  scan_same array slot f along from mask n is at read masked =
      found_alike tables other Q (slice_get one.slots slot) (slice_get two.slots slot) _ _
      (slot_here slot at) (λ region.
      provided_alike tables other Q _ _ _ _
      (ap (λ b. no_flood region && b) (both_same _ _ _ _ (writes_same region array is)
      (both_same _ _ _ _ (reads_same region from read) (mask_same region mask masked))))
      (found_alike tables other Q (slice_get one.stores from) (slice_get two.stores from) _ _
      (here from read) (λ store.
      subst (λ m. AlikeSteps tables other Q
      (moved_in one array region (scan_value along f region
      (kept_by (option_and_then (λ mask. slice_get one.stores mask) mask)) (element store)))
      (moved_in two array region (scan_value along f region (kept_by m) (element store))))
      (mask_here mask masked)
      (moves array region (scan_value along f region
      (kept_by (option_and_then (λ mask. slice_get one.stores mask) mask)) (element store)) is))))

  cons_same : {X : Type 0} (o p : Option X) (xs ys : List X) → o ≡ p → xs ≡ ys → cons_option o xs
      ≡ cons_option p ys
  cons_same o p xs ys e f = ap (λ x. cons_option x xs) e ∙ ap (λ zs. cons_option p zs) f

  parts_here : (parts : List ℕ) → Every (λ k. Q (thing.Array k)) parts
      → filter_map (λ part. slice_get one.stores part) parts
      ≡ filter_map (λ part. slice_get two.stores part) parts
  parts_here [] all = refl
  parts_here (part ∷ parts) all =
      cons_same (slice_get one.stores part) (slice_get two.stores part)
      (filter_map (λ part. slice_get one.stores part) parts)
      (filter_map (λ part. slice_get two.stores part) parts) (here part all.0)
      (parts_here parts all.1)

  reads_all : (region : Region) (parts : List ℕ) → Every (λ k. Q (thing.Array k)) parts
      → list_all (reads_in tables one region) parts ≡ list_all (reads_in other two region) parts
  reads_all region [] all = refl
  reads_all region (part ∷ parts) all =
      both_same _ _ _ _ (reads_same region part all.0) (reads_all region parts all.1)

  remap_same : (array slot from : ℕ) (parts : List (Option ℕ)) (n : ℕ) → Q (thing.Array array)
      → Q (thing.Slot slot) → Q (thing.Array from)
      → Every (λ k. Q (thing.Array k)) (filter_map (λ part. part) parts)
      → RowSame n (Plain (instr.Remap array slot from parts))
  remap_same array slot from parts n is at read all =
      found_alike tables other Q (slice_get one.slots slot) (slice_get two.slots slot) _ _
      (slot_here slot at) (λ region.
      provided_alike tables other Q _ _ _ _ (both_same _ _ _ _ (writes_same region array is)
      (reads_all region (filter_map (λ part. part) parts) all))
      (found_alike tables other Q (slice_get one.stores from) (slice_get two.stores from) _ _
      (here from read) (λ store.
      subst (λ ps. AlikeSteps tables other Q
      (moved_in one array region (λ t. element store
      (wanted_at (filter_map (λ part. slice_get one.stores part)
      (filter_map (λ part. part) parts)) t)))
      (moved_in two array region (λ t. element store (wanted_at ps t))))
      (parts_here (filter_map (λ part. part) parts) all)
      (moves array region (λ t. element store
      (wanted_at (filter_map (λ part. slice_get one.stores part) (filter_map (λ part. part) parts))
      t)) is))))

  gather_same : (truth : Bool) (array slot n : ℕ) → Q (thing.Array array) → Q (thing.Slot slot)
      → RowSame n (Plain (instr.Gather truth array slot))
  gather_same truth array slot n is at =
      found_alike tables other Q (slice_get one.slots slot) (slice_get two.slots slot) _ _
      (slot_here slot at) (λ region.
      provided_alike tables other Q _ _ _ _ (ap (λ b. no_flood region && b)
      (reads_same region array is))
      (found_alike tables other Q (slice_get one.stores array) (slice_get two.stores array) _ _
      (here array is) (λ store. BothGo agree)))

  room_same : (array slot n : ℕ) → Q (thing.Array array) → Q (thing.Slot slot)
      → RowSame n (Plain (instr.Room array slot))
  room_same array slot n is at =
      found_alike tables other Q (slice_get tables.arrays array) (slice_get other.arrays array) _ _
      (agree (thing.Array array) is).0 (λ row.
      found_alike tables other Q (slice_get one.slots slot) (slice_get two.slots slot) _ _
      (slot_here slot at) (λ region.
      provided_alike tables other Q _ _ _ _ refl
      (BothGo (set_store tables other Q one two array (zeros_at region) is agree))))

  clear_same : (array n : ℕ) → Q (thing.Array array) → RowSame n (Plain (instr.Clear array))
  clear_same array n is =
      found_alike tables other Q (slice_get one.stores array) (slice_get two.stores array) _ _
      (here array is) (λ store.
      BothGo (set_store tables other Q one two array (zeros_at store.storage) is agree))

  -- ---- all rows
  part_list : (parts : List (Option ℕ)) → Every
      (λ part. Every (λ k. Q (thing.Array k)) (as_list part)) parts
      → Every (λ k. Q (thing.Array k)) (filter_map (λ part. part) parts)
  part_list [] all = tt
  part_list (None ∷ parts) all = part_list parts all.1
  part_list (Some part ∷ parts) all = (all.0.0, part_list parts all.1)

  some_part : (part : Option ℕ) → ((it : Thing) → IsSomeAnd part (λ k. it ≡ thing.Array k) → Q it)
      → Every (λ k. Q (thing.Array k)) (as_list part)
  some_part None all = tt
  some_part (Some k) all = (all (thing.Array k) refl, tt)

  mask_named : (mask : Option ℕ) → ((it : Thing) → IsSomeAnd mask (λ k. it ≡ thing.Array k) → Q it)
      → MaskNamed mask
  mask_named None all = tt
  mask_named (Some k) all = all (thing.Array k) refl

  own_and : (row : Row) → Every (λ k. Q (thing.Scalar k)) (own_scalars row)
      → Every (ExprNamed Q) (row_words row) → Every (λ k. Q (thing.Scalar k)) (row_scalars row)
  own_and row own exprs = every_append (λ k. Q (thing.Scalar k)) (own_scalars row)
      (each_word word_scalars (row_words row)) own (scalars_named Q (row_words row) exprs)

  total_scalars : (totals : List Total) → Every (λ total. Q (thing.Scalar total.scalar)) totals
      → Every (λ k. Q (thing.Scalar k)) (map (λ total. total.scalar) totals)
  total_scalars [] all = tt
  total_scalars (total ∷ totals) all = (all.0, total_scalars totals all.1)

  loop_same : (n slot : ℕ) (group : List Member) → Q (thing.Slot slot) → GroupNamed Q group
      → Same (act tables n (Loop slot group) one) (act other n (Loop slot group) two)
  loop_same n slot group is named =
      act_same n (Loop slot group) (own_and (Loop slot group)
      (total_scalars (group_totals group) (totals_named Q group named.own)) named.exprs)
      (looped_alike tables other Q n slot group is named one two agree)

  plain_same : (n : ℕ) (row : Instr) → RowSame n (Plain row)
      → Same (act tables n (Plain row) one) (act other n (Plain row) two)
  plain_same n row more = act_same n (Plain row) tt more

  pub acts_same : (n : ℕ) (row : Instr) → ((it : Thing) → IsNamed tables row it → Q it)
      → Same (act tables n (inlined tables row) one) (act other n (inlined tables row) two)
  acts_same n (instr.Set scalar expr line) all =
      let named = expr_named Q tables expr (λ it is. all it (inr is)) in
      act_same n (Set scalar (words_at tables expr) line)
      (own_and (Set scalar (words_at tables expr) line) (all (thing.Scalar scalar) (inl refl), tt)
      (named, tt))
      (scalar_set_alike tables other Q one two agree scalar (words_at tables expr) line n
      (all (thing.Scalar scalar) (inl refl)) named)
  acts_same n (instr.Fix slot region) all = plain_same n (instr.Fix slot region)
      (fix_alike tables other Q one two agree slot region n (all (thing.Slot slot) refl))
  acts_same n (instr.Dims slot parts line) all =
      let named = parts_named Q tables parts (λ it is. all it (inr is)) in
      act_same n (Dims slot (map (part_inlined tables) parts) line)
      (own_and (Dims slot (map (part_inlined tables) parts) line) tt
      (parts_exprs Q (map (part_inlined tables) parts) named))
      (dims_alike tables other Q one two agree slot (map (part_inlined tables) parts) line n
      (all (thing.Slot slot) (inl refl)) named)
  acts_same n (instr.Formed form slot from shift line) all =
      plain_same n (instr.Formed form slot from shift line)
      (formed_alike tables other Q one two agree form slot from shift line n
      (all (thing.Slot slot) (inl refl)) (all (thing.Slot from) (inr refl)))
  acts_same n (instr.Need slot array shift line) all =
      plain_same n (instr.Need slot array shift line)
      (need_alike tables other Q one two agree slot array shift line n
      (all (thing.Slot slot) (inl refl)) (all (thing.Array array) (inr refl)))
  acts_same n (instr.Same target source kind line) all =
      plain_same n (instr.Same target source kind line)
      (same_alike tables other Q one two agree target source kind line n
      (all (thing.Slot target) (inl refl)) (all (thing.Slot source) (inr refl)))
  acts_same n (instr.Fits slot shift line) all = plain_same n (instr.Fits slot shift line)
      (fits_alike tables other Q one two agree slot shift line n (all (thing.Slot slot) refl))
  acts_same n (instr.Room array slot) all = plain_same n (instr.Room array slot)
      (room_same array slot n (all (thing.Array array) (inl refl))
      (all (thing.Slot slot) (inr refl)))
  acts_same n (instr.Clear array) all =
      plain_same n (instr.Clear array) (clear_same array n (all (thing.Array array) refl))
  acts_same n (instr.Loop slot group) all =
      loop_same n slot (map (member_inlined tables) (slice_index_or tables.groups group []))
      (all (thing.Slot slot) (inl refl)) (group_named Q tables group (λ it is. all it (inr is)))
  acts_same n (instr.Start exchange) all = plain_same n (instr.Start exchange) BothStop
  acts_same n (instr.Finish exchange) all = plain_same n (instr.Finish exchange) BothStop
  acts_same n (instr.Edge kind array slot shift) all =
      plain_same n (instr.Edge kind array slot shift)
      (edge_same kind array slot shift n (all (thing.Array array) (inl refl))
      (all (thing.Slot slot) (inr refl)))
  acts_same n (instr.Flood array target from source) all =
      plain_same n (instr.Flood array target from source)
      (flood_same array target from source n (all (thing.Array array) (inl refl))
      (all (thing.Slot target) (inr (inl refl))) (all (thing.Array from) (inr (inr (inl refl))))
      (all (thing.Slot source) (inr (inr (inr refl)))))
  acts_same n (instr.Part array target f from source) all =
      plain_same n (instr.Part array target f from source)
      (part_same array target f from source n (all (thing.Array array) (inl refl))
      (all (thing.Slot target) (inr (inl refl))) (all (thing.Array from) (inr (inr (inl refl))))
      (all (thing.Slot source) (inr (inr (inr refl)))))
  acts_same n (instr.Scan array slot f along from mask) all =
      plain_same n (instr.Scan array slot f along from mask)
      (scan_same array slot f along from mask n (all (thing.Array array) (inl refl))
      (all (thing.Slot slot) (inr (inl refl))) (all (thing.Array from) (inr (inr (inl refl))))
      (mask_named mask (λ it is. all it (inr (inr (inr is))))))
  acts_same n (instr.Vote group) all = plain_same n (instr.Vote group) BothStop
  acts_same n (instr.Fold scalar f) all =
      plain_same n (instr.Fold scalar f) (fold_same scalar f (all (thing.Scalar scalar) refl))
  acts_same n (instr.TreeVote group) all = plain_same n (instr.TreeVote group) BothStop
  acts_same n (instr.TreeFold scalar f) all = plain_same n (instr.TreeFold scalar f) BothStop
  acts_same n (instr.Print text) all =
      act_same n (Print (slice_index_or tables.texts text [])) tt (BothGo agree)
  acts_same n (instr.Number expr) all =
      let named = expr_named Q tables expr all in
      act_same n (Number (words_at tables expr))
      (own_and (Number (words_at tables expr)) tt (named, tt))
      (print_same signed_decimal (words_at tables expr) named)
  acts_same n (instr.Truth expr) all =
      let named = expr_named Q tables expr all in
      act_same n (Truth (words_at tables expr))
      (own_and (Truth (words_at tables expr)) tt (named, tt))
      (print_same truth_text (words_at tables expr) named)
  acts_same n (instr.Gather truth array slot) all = plain_same n (instr.Gather truth array slot)
      (gather_same truth array slot n (all (thing.Array array) (inl refl))
      (all (thing.Slot slot) (inr refl)))
  acts_same n (instr.Jump goal) all = plain_same n (instr.Jump goal) BothLeap
  acts_same n (instr.Unless expr goal line) all =
      let named = expr_named Q tables expr all in
      act_same n (Unless (words_at tables expr) goal line)
      (own_and (Unless (words_at tables expr) goal line) tt (named, tt))
      (unless_alike tables other Q one two agree (words_at tables expr) goal line n named)
  acts_same n (instr.Trap kind line) all = plain_same n (instr.Trap kind line) BothStop
  acts_same n instr.End all = plain_same n instr.End BothStop
  acts_same n (instr.Remap array slot from parts) all =
      plain_same n (instr.Remap array slot from parts)
      (remap_same array slot from parts n (all (thing.Array array) (inl refl))
      (all (thing.Slot slot) (inr (inl refl))) (all (thing.Array from) (inr (inr (inl refl))))
      (part_list parts (every_named Q (λ it part. IsSomeAnd part (λ k. it ≡ thing.Array k))
      (λ part. Every (λ k. Q (thing.Array k)) (as_list part)) some_part parts
      (λ it is. all it (inr (inr (inr is)))))))

pub go_by_names : GoByNames
go_by_names tables other n row second inline is_some named one two agree =
    let Q : Thing → Type 0 = λ it. is_some it ≡ true in
    subst (λ r. DoSame (Agree tables other Q) (act tables n (inlined tables row) one)
    (act other n r two)) inline
    (acts_same tables other Q one two agree n row named)
