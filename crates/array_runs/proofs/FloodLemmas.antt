-- Flood dimensions that are known before the run are those of the current regions.
use Rattle.std.proofs.Common.{◌≡◌, refl, sym, ◌∙◌, ap, subst, arith, ℕ, zero, suc, ◌-◌, ◌≤◌, Bool}
use Rattle.std.proofs.Common.{false, List, [], ◌∷◌, length, map, take, drop, replicate, ℤ, Option}
use Rattle.std.proofs.Common.{Some, None}
use Rattle.std.specs.Prelude.{slice_get}
use Rattle.std.proofs.lemmas.List.{length-map}
use Rattle.zpl_nums.specs.declared.operators.Op.{Op}
use Rattle.zpl_region.specs.declared.dims.Dim.{Dim}
use Rattle.zpl_region.specs.declared.dims.Dim.TheVariants as dim
use Rattle.zpl_region.specs.declared.regions.Region.{Region}
use Rattle.zpl_region.specs.Region.{padding}
use Rattle.zpl_tree.specs.Syntax.{Name, Expr, Assign, Number, Truth, Coord, Named, Shifted, Around, Remap, Call, Paren, Neg, Not, Abs, Pair, Reduce, Scan, Flood}
use Rattle.zpl_names.specs.Sites.{Assigned, handed}
use Rattle.array_puts.specs.of_zpl_meaning.Store.{Thing, Scalar, ArrayAt, Fixed, thing_of}
use Rattle.array_puts.specs.of_zpl_meaning.Points.{assigned_expr}
use Rattle.array_puts.specs.of_zpl_meaning.Context.{Mask, Over, over_at, reach_of}
use Rattle.array_puts.specs.of_zpl_meaning.Regions.{vector_in}
use Rattle.array_puts.specs.of_zpl_meaning.Statement as mean
use Rattle.lowering_runs.specs.of_flat_form.Whole.{Whole}
use Rattle.lowering_runs.specs.of_zpl_lowering.Where.{Stored, Slotted, Where, slotted_at, is_flood}
use Rattle.lowering_runs.specs.of_zpl_lowering.Statement as low
use Rattle.node_form.specs.declared.tables.Tables.{Tables}
use Rattle.lowering_runs.specs.Seen.{Sight, seen_place}
use Rattle.lowering_runs.specs.Stands.{IsCurrent, IsHeld}
use Rattle.lowering_runs.specs.Goes.{World, Goes}
use Rattle.lowering_runs.proofs.FitLemmas.{anew_goes}
use Rattle.array_runs.specs.Reads.{EachCovers, EachMatches, IsShift}
use Rattle.array_runs.specs.Elementwise.{IsReadable, IsElement, IsElementwise, IsReadableMask}
use Rattle.array_runs.specs.Assigned.{IsWritable, IsArrayAssigned}
use Rattle.array_runs.specs.Floods.{three_floods, CoverFloods, slot_floods, IsReadableAs, IsElementAs, IsElementwiseAs, IsReadableMaskAs, IsWritableAs, IsArrayServed}
use Rattle.array_runs.proofs.CodedLemmas.{current_of, region_of}
use Rattle.array_runs.proofs.FormLemmas.{assign_goes}

-- ---- a region of a slot

padded_floods : (count rank : ℕ) (dims : List Dim) → length dims ≡ count
    → drop rank dims ≡ replicate (count - rank) padding
    → map is_flood dims ≡ three_floods count (map is_flood (take rank dims))
padded_floods zero rank [] l e = refl
padded_floods zero rank (one ∷ dims) l e = absurd (omega (arith, l))
padded_floods (suc count) rank [] l e = absurd (omega (arith, l))
padded_floods (suc count) zero (one ∷ dims) l e =
    let whole : one ∷ dims ≡ padding ∷ replicate count padding =
    e ∙ ap (λ (n : ℕ). replicate n padding) (none_off (suc count)) in
    let first : one ≡ padding = head_of one dims padding (replicate count padding) whole in
    let rest : dims ≡ replicate (count - zero) padding =
    tail_of one dims padding (replicate count padding) whole
    ∙ ap (λ (n : ℕ). replicate n padding) (sym (none_off count)) in
    ap (λ (d : Dim). is_flood d ∷ map is_flood dims) first
    ∙ ap (λ bs. false ∷ bs) (padded_floods count zero dims (omega (arith, l)) rest)
  where
    none_off : (n : ℕ) → n - 0 ≡ n
    none_off n = omega arith

    head_of : (x : Dim) (xs : List Dim) (y : Dim) (ys : List Dim) → x ∷ xs ≡ y ∷ ys → x ≡ y
    head_of x xs y ys e = cc

    tail_of : (x : Dim) (xs : List Dim) (y : Dim) (ys : List Dim) → x ∷ xs ≡ y ∷ ys → xs ≡ ys
    tail_of x xs y ys e = cc
padded_floods (suc count) (suc rank) (one ∷ dims) l e =
    ap (λ bs. is_flood one ∷ bs)
    (padded_floods count rank dims (omega (arith, l))
    (e ∙ ap (λ (n : ℕ). replicate n padding) (less count rank)))
  where
    less : (count rank : ℕ) → suc count - suc rank ≡ count - rank
    less count rank = omega arith

pub current_floods : (slots : List Region) (rank : ℕ) (slotted : Slotted)
    (c : IsCurrent slots rank slotted) → map is_flood c.region.dims ≡ slot_floods slotted
current_floods slots rank slotted c =
    padded_floods 3 c.region.rank c.region.dims c.three c.is.padded
    ∙ ap (three_floods 3) c.flood

flood_rank : (slots : List Region) (rank : ℕ) (slotted : Slotted) (c : IsCurrent slots rank slotted)
    → length slotted.flood ≡ c.region.rank
flood_rank slots rank slotted c =
    ap (λ (bs : List Bool). length bs) (sym c.flood)
    ∙ length-map (take c.region.rank c.region.dims) is_flood
    ∙ taken c.region.rank c.region.dims (omega (arith, c.is.rank_below, c.three))
  where
    taken : (n : ℕ) (dims : List Dim) → n ≤ length dims → length (take n dims) ≡ n
    taken zero dims le = refl
    taken (suc n) [] le = absurd (omega (arith, le))
    taken (suc n) (one ∷ dims) le = ap suc (taken n dims (omega (arith, le)))

-- ---- dimension by dimension

pub each_matches : (storage dims : List Dim) → map is_flood storage ≡ map is_flood dims
    → EachMatches storage dims
each_matches [] [] e = tt
each_matches [] (one ∷ dims) e = tt
each_matches (one ∷ storage) [] e = tt
each_matches (dim.Flood ∷ storage) (dim.Flood ∷ dims) e =
    (tt, each_matches storage dims (tail_of _ _ _ _ e))
  where
    tail_of : (x : Bool) (xs : List Bool) (y : Bool) (ys : List Bool) → x ∷ xs ≡ y ∷ ys → xs ≡ ys
    tail_of x xs y ys e = cc
each_matches (dim.Flood ∷ storage) (dim.Range lo hi step align ∷ dims) e =
    absurd (let no : ⊥ = cc in no)
each_matches (dim.Range lo hi step align ∷ storage) (dim.Flood ∷ dims) e =
    absurd (let no : ⊥ = cc in no)
each_matches (dim.Range lo hi step align ∷ storage) (dim.Range from to every base ∷ dims) e =
    (tt, each_matches storage dims (tail_of _ _ _ _ e))
  where
    tail_of : (x : Bool) (xs : List Bool) (y : Bool) (ys : List Bool) → x ∷ xs ≡ y ∷ ys → xs ≡ ys
    tail_of x xs y ys e = cc

each_covers : (storage dims : List Dim) → CoverFloods (map is_flood storage) (map is_flood dims)
    → EachCovers storage dims
each_covers [] [] h = tt
each_covers [] (one ∷ dims) h = tt
each_covers (one ∷ storage) [] h = tt
each_covers (dim.Flood ∷ storage) (one ∷ dims) h = (tt, each_covers storage dims h.1)
each_covers (dim.Range lo hi step align ∷ storage) (dim.Flood ∷ dims) h = absurd h.0
each_covers (dim.Range lo hi step align ∷ storage) (dim.Range from to every base ∷ dims) h =
    (tt, each_covers storage dims h.1)

-- ---- what is asked of an assignment

module _ (w : Where) (slots : List Region) (rank : ℕ) (slotted : Slotted)
    (c : IsCurrent slots rank slotted) where
  pub readable : (shift : List ℤ) (o : Option Stored) → IsReadableAs slotted shift o
      → IsReadable c.region shift o
  readable shift None h = absurd h
  readable shift (Some stored) h = (
    each_covers stored.storage.dims c.region.dims
        (subst (λ (bs : List Bool). CoverFloods (map is_flood stored.storage.dims) bs)
        (sym (current_floods slots rank slotted c)) h.0),
    subst (λ (k : ℕ). IsShift k shift) (flood_rank slots rank slotted c) h.1,
  )

  element : (shift : List ℤ) (thing : Option Thing) → IsElementAs w slotted shift thing
      → IsElement w c.region shift thing
  element shift (Some (Scalar place)) h = tt
  element shift (Some (Fixed value)) h = tt
  element shift (Some (ArrayAt place home)) h = readable shift (slice_get w.numbers.arrays place) h
  element shift None h = tt

  pub elementwise : (expr : Expr) → IsElementwiseAs w slotted expr → IsElementwise w c.region expr
  elementwise (Number at value) h = h
  elementwise (Truth at value) h = tt
  elementwise (Coord at k) h = h
  elementwise (Named at name) h = element [] (thing_of w.environment name.text) h
  elementwise (Shifted at name shift) h =
      element (vector_in w.setup.known shift) (thing_of w.environment name.text) h
  elementwise (Paren at inside) h = elementwise inside h
  elementwise (Neg at operand) h = elementwise operand h
  elementwise (Not at operand) h = elementwise operand h
  elementwise (Abs at operand) h = elementwise operand h
  elementwise (Pair at op left right) h = (elementwise left h.0, elementwise right h.1)
  elementwise (Around at name shift) h = absurd h
  elementwise (Remap at name indices) h = absurd h
  elementwise (Call at name actuals) h = absurd h
  elementwise (Reduce at operator over operand) h = absurd h
  elementwise (Scan at operator along operand) h = absurd h
  elementwise (Flood at source operand) h = absurd h

  pub mask_readable : (mask : Option Mask) → IsReadableMaskAs w slotted mask
      → IsReadableMask w c.region mask
  mask_readable None h = tt
  mask_readable (Some mask) h = readable [] (slice_get w.numbers.arrays mask.array) h

  pub writable : (o : Option Stored) → IsWritableAs slotted o → IsWritable c.region o
  writable None h = absurd h
  writable (Some stored) h =
      each_matches stored.storage.dims c.region.dims
      (h ∙ sym (current_floods slots rank slotted c))

pub assigned_here : (tables : Tables) (sight : Sight) (w : Where) (now : Whole) (name : Name)
    (op : Option Op) (value : Expr)
    → IsHeld tables w.setup.known w.numbers.arrays w.currents now.slots
    → IsArrayServed name op value w (seen_place sight w now)
    → IsArrayAssigned w (seen_place sight w now) name op value
assigned_here tables sight w now name op value held h =
    let place = seen_place sight w now in
    let rank = handed (reach_of place) (Assigned name op) in
    let slotted = slotted_at w.currents rank in
    let c = current_of tables w now rank held h.current in
    let same : c.current.region ≡ (over_at place.currents rank).region =
    sym (region_of w now rank c) in
    record {
      target = h.target;
      home = h.home;
      named = h.named;
      is = record {
        current = h.current;
        ranked = h.ranked;
        writable = subst (λ (r : Region). IsWritable r (slice_get w.numbers.arrays h.target)) same
            (writable w now.slots c.of slotted c.current (slice_get w.numbers.arrays h.target)
            h.writable);
        masked = subst (λ (m : Option Mask). IsReadableMask w (over_at place.currents rank).region m)
            (sym (ap (λ (o : Over). o.mask) c.over_is))
            (subst (λ (r : Region). IsReadableMask w r slotted.mask) same
            (mask_readable w now.slots c.of slotted c.current slotted.mask h.masked));
        elementwise = subst (λ (r : Region). IsElementwise w r (assigned_expr name op value)) same
            (elementwise w now.slots c.of slotted c.current (assigned_expr name op value)
            h.elementwise);
      };
    }

pub served_goes : (world : World) (at : ℕ) (name : Name) (op : Option Op) (value : Expr)
    → Goes world (IsArrayServed name op value)
    (λ c store. mean.exec_form c world.turns at (Assign name op value) store)
    (λ l next. low.lowered_form l next at (Assign name op value)) 0
served_goes world at name op value =
    anew_goes world (IsArrayServed name op value)
    (λ c store. mean.exec_form c world.turns at (Assign name op value) store)
    (λ l next. low.lowered_form l next at (Assign name op value)) 0
    (λ sight w next now stands served room like.
    assign_goes world sight w next now at name op value stands
    (assigned_here world.tables sight w now name op value like.held served) room _ now like)
