-- Values that are written at places of arrays, one after another: what they come to goes by which
-- are written, where those of one place are the same.
use Rattle.std.proofs.Common.{◌≡◌, ◌≢◌, ◌⊎◌, inl, inr, refl, sym, ◌∙◌, ap, ap₂, subst, ℕ, zero, suc}
use Rattle.std.proofs.Common.{Bool, true, false, List, [], ◌∷◌, ℤ, pos, Option, Some, None}
use Rattle.std.proofs.Common.{true≢false, is_some, eqb-true}
use Rattle.std.specs.Prelude.{◌&&◌, ◌==◌, option_and_then, slice_get, slice_index_or, slice_set}
use Rattle.std.specs.Prelude.{if◌then◌else◌, unwrap_or}
use Rattle.std.specs.Option.{option_map}
use Rattle.zpl_region.specs.declared.regions.Region.{Region}
use Rattle.zpl_region.proofs.ListLemmas.{Among}
use Rattle.zpl_arrays.specs.Array.{Array, element, has_place, place_among, updated}
use Rattle.grid_meaning.specs.Place.{held_value, held_with, value_at, where_held, with_value}
use Rattle.plan_passes.proofs.ControlLemmas.{other_set}
use Rattle.plan_passes.proofs.LoopLemmas.{differs}

pub record Write : Type 0 where
  pub array : ℕ
  pub place : List ℤ
  pub value : ℤ

abbrev pub put : Write → List Array → Option (List Array)
put w stores = with_value stores w.array w.place w.value

abbrev pub written : List Write → List Array → Option (List Array)
written [] stores = Some stores
written (w ∷ ws) stores = option_and_then (written ws) (put w stores)

-- ---- lists, options
none_some : {X : Type 0} {x : X} → None ≡ Some x → ⊥
none_some e = cc

pub same_lists : {X : Type 0} (xs ys : List X) → ((i : ℕ) → slice_get xs i ≡ slice_get ys i) → xs ≡ ys
same_lists [] [] e = refl
same_lists [] (y ∷ ys) e = absurd (none_some (e 0))
same_lists (x ∷ xs) [] e = absurd (none_some (sym (e 0)))
same_lists (x ∷ xs) (y ∷ ys) e =
    ap₂ (λ z zs. z ∷ zs) (let one : x ≡ y = by (e 0) in one) (same_lists xs ys (λ i. e (suc i)))
  where
    by : {X : Type 0} {x y : X} → Some x ≡ Some y → x ≡ y
    by e = cc

set_here : {X : Type 0} (xs : List X) (k : ℕ) (x : X)
    → slice_get (slice_set xs k x) k ≡ option_map (λ _. x) (slice_get xs k)
set_here [] zero x = refl
set_here [] (suc k) x = refl
set_here (y ∷ xs) zero x = refl
set_here (y ∷ xs) (suc k) x = set_here xs k x

-- a value in the place of another, where there is one
abbrev pub over : Bool → ℤ → Option ℤ → Option ℤ
over true value old = option_map (λ _. value) old
over false value old = old

over_twice : (b : Bool) (one other : ℤ) (old : Option ℤ)
    → option_map (λ _. one) (over b other old) ≡ option_map (λ _. one) old
over_twice false one other old = refl
over_twice true one other None = refl
over_twice true one other (Some x) = refl

value_set : (xs : List ℤ) (k i : ℕ) (x : ℤ) (b : Bool) → (k == i) ≡ b
    → slice_get (slice_set xs k x) i ≡ over b x (slice_get xs i)
value_set xs k i x true e =
    subst (λ j. slice_get (slice_set xs k x) j ≡ option_map (λ _. x) (slice_get xs j))
    (eqb-true k i e) (set_here xs k x)
value_set xs k i x false e = other_set xs k i x (differs k i e)

-- ---- cells: a value of an array, by its number
abbrev pub shape : List Array → ℕ → Option Region
shape stores a = option_map (λ (x : Array). x.storage) (slice_get stores a)

abbrev pub cell : List Array → ℕ → ℕ → Option ℤ
cell stores a i = option_and_then (λ (x : Array). slice_get x.values i) (slice_get stores a)

abbrev pub place_in : Option Region → List ℤ → ℕ
place_in None t = 0
place_in (Some storage) t = place_among storage.dims t

abbrev pub has_in : Option Region → List ℤ → Bool
has_in None t = false
has_in (Some storage) t = has_place storage t

-- whether the write is one of that cell
abbrev pub hits : List Array → Write → ℕ → ℕ → Bool
hits stores w a i = (w.array == a) && (place_in (shape stores w.array) w.place == i)

abbrev pub can_put : List Array → Write → Bool
can_put stores w = has_in (shape stores w.array) w.place

pub same_stores : (s t : List Array) → ((a : ℕ) → shape s a ≡ shape t a)
    → ((a i : ℕ) → cell s a i ≡ cell t a i) → s ≡ t
same_stores s t shapes cells =
    same_lists s t (λ a. by (slice_get s a) (slice_get t a) (shapes a) (cells a))
  where
    by : (x y : Option Array)
        → option_map (λ (z : Array). z.storage) x ≡ option_map (λ (z : Array). z.storage) y
        → ((i : ℕ) → option_and_then (λ (z : Array). slice_get z.values i) x
        ≡ option_and_then (λ (z : Array). slice_get z.values i) y) → x ≡ y
    by None None e f = refl
    by None (Some y) e f = absurd (none_some e)
    by (Some x) None e f = absurd (none_some (sym e))
    by (Some x) (Some y) e f =
        ap₂ (λ r v. Some (record { storage = r; values = v })) (some_is e)
        (same_lists x.values y.values f)
      where
        some_is : {r u : Region} → Some r ≡ Some u → r ≡ u
        some_is e = cc

-- ---- one write
pub record Puts (w : Write) (s r : List Array) : Type 0 where
  pub shapes : (a : ℕ) → shape r a ≡ shape s a
  pub cells : (a i : ℕ) → cell r a i ≡ over (hits s w a i) w.value (cell s a i)
  pub others : (a : ℕ) → a ≢ w.array → slice_get r a ≡ slice_get s a

module _ (w : Write) (s : List Array) (x : Array) (there : slice_get s w.array ≡ Some x) where
  abbrev after : List Array
  after = slice_set s w.array (updated x w.place w.value)

  after_here : slice_get after w.array ≡ Some (updated x w.place w.value)
  after_here =
      set_here s w.array (updated x w.place w.value)
      ∙ ap (option_map (λ _. updated x w.place w.value)) there

  shape_after : (a : ℕ) (b : Bool) → (w.array == a) ≡ b → shape after a ≡ shape s a
  shape_after a true e =
      subst (λ k. shape after k ≡ shape s k) (eqb-true w.array a e)
      (ap (option_map (λ (z : Array). z.storage)) after_here
      ∙ ap (option_map (λ (z : Array). z.storage)) (sym there))
  shape_after a false e =
      ap (option_map (λ (z : Array). z.storage))
      (other_set s w.array a (updated x w.place w.value) (differs w.array a e))

  cell_after : (a i : ℕ) (b : Bool) → (w.array == a) ≡ b
      → cell after a i ≡ over (b && (place_among x.storage.dims w.place == i)) w.value (cell s a i)
  cell_after a i true e =
      subst (λ k. cell after k i
      ≡ over (place_among x.storage.dims w.place == i) w.value (cell s k i)) (eqb-true w.array a e)
      (ap (option_and_then (λ (z : Array). slice_get z.values i)) after_here
      ∙ (value_set x.values (place_among x.storage.dims w.place) i w.value
      (place_among x.storage.dims w.place == i) refl
      ∙ ap (over (place_among x.storage.dims w.place == i) w.value)
      (ap (option_and_then (λ (z : Array). slice_get z.values i)) (sym there))))
  cell_after a i false e =
      ap (option_and_then (λ (z : Array). slice_get z.values i))
      (other_set s w.array a (updated x w.place w.value) (differs w.array a e))

  puts_after : Puts w s after
  puts_after = record {
    shapes = λ a. shape_after a (w.array == a) refl;
    cells = λ a i.
        cell_after a i (w.array == a) refl
        ∙ ap (λ o. over ((w.array == a)
        && (place_in (option_map (λ (z : Array). z.storage) o) w.place == i)) w.value (cell s a i))
        (sym there);
    others = λ a apart. other_set s w.array a (updated x w.place w.value) apart;
  }

  puts_there : (b : Bool) (r : List Array)
      → option_map (slice_set s w.array) (where_held b (updated x w.place w.value)) ≡ Some r
      → Puts w s r
  puts_there true r e = subst (Puts w s) (by e) puts_after
    where
      by : {s t : List Array} → Some s ≡ Some t → s ≡ t
      by e = cc
  puts_there false r e = absurd (none_some e)

pub puts : (w : Write) (s r : List Array) → put w s ≡ Some r → Puts w s r
puts w s r e = by (slice_get s w.array) refl e
  where
    by : (o : Option Array) → slice_get s w.array ≡ o
        → option_map (slice_set s w.array) (option_and_then (held_with w.place w.value) o) ≡ Some r
        → Puts w s r
    by None there e = absurd (none_some e)
    by (Some x) there e = puts_there w s x there (has_place x.storage w.place) r e

pub can_is : (w : Write) (s : List Array) → is_some (put w s) ≡ can_put s w
can_is w s = by (slice_get s w.array)
  where
    by : (o : Option Array)
        → is_some (option_map (slice_set s w.array) (option_and_then (held_with w.place w.value) o))
        ≡ has_in (option_map (λ (z : Array). z.storage) o) w.place
    by None = refl
    by (Some x) = at (has_place x.storage w.place)
      where
        at : (b : Bool)
            → is_some (option_map (slice_set s w.array) (where_held b (updated x w.place w.value))) ≡ b
        at true = refl
        at false = refl

pub hits_shape : (w : Write) (s r : List Array) → ((a : ℕ) → shape r a ≡ shape s a) → (a i : ℕ)
    → hits r w a i ≡ hits s w a i
hits_shape w s r shapes a i =
    ap (λ o. (w.array == a) && (place_in o w.place == i)) (shapes w.array)

-- ---- all writes, one after another
some_parts : {X Y : Type 0} (next : X → Option Y) (o : Option X) (y : Y) → option_and_then next o ≡ Some y
    → (x : X) × (o ≡ Some x) × (next x ≡ Some y)
some_parts next None y e = absurd (none_some e)
some_parts next (Some x) y e = (x, refl, e)

pub written_shapes : (ws : List Write) (s r : List Array) → written ws s ≡ Some r
    → (a : ℕ) → shape r a ≡ shape s a
written_shapes [] s r e a = ap (λ t. shape t a) (sym (by e))
  where
    by : {s t : List Array} → Some s ≡ Some t → s ≡ t
    by e = cc
written_shapes (w ∷ ws) s r e a =
    let (m, first, rest) = some_parts (written ws) (put w s) r e in
    written_shapes ws m r rest a ∙ (puts w s m first).shapes a

pub data CellIs (s : List Array) (ws : List Write) (a i : ℕ) (o : Option ℤ) : Type 0 where
  Untouched : ((w : Write) → Among ws w → hits s w a i ≡ false) → o ≡ cell s a i → CellIs s ws a i o
  Touched : (w : Write) → Among ws w → hits s w a i ≡ true
      → o ≡ option_map (λ _. w.value) (cell s a i) → CellIs s ws a i o

pub cell_is : (ws : List Write) (s r : List Array) → written ws s ≡ Some r → (a i : ℕ)
    → CellIs s ws a i (cell r a i)
cell_is [] s r e a i = Untouched (λ w among. absurd among) (ap (λ t. cell t a i) (sym (by e)))
  where
    by : {s t : List Array} → Some s ≡ Some t → s ≡ t
    by e = cc
cell_is (w ∷ ws) s r e a i =
    let (m, first, rest) = some_parts (written ws) (put w s) r e in
    let one = puts w s m first in
    by m (one.cells a i) (λ u. hits_shape u s m one.shapes a i) (cell_is ws m r rest a i)
  where
    by : (m : List Array) → cell m a i ≡ over (hits s w a i) w.value (cell s a i)
        → ((u : Write) → hits m u a i ≡ hits s u a i)
        → CellIs m ws a i (cell r a i) → CellIs s (w ∷ ws) a i (cell r a i)
    by m first same (Touched u among hit is) =
        Touched u (inr among) (sym (same u) ∙ hit)
        (is ∙ (ap (option_map (λ _. u.value)) first
        ∙ over_twice (hits s w a i) u.value w.value (cell s a i)))
    by m first same (Untouched none is) =
        at (hits s w a i) refl (is ∙ first) (λ u among. sym (same u) ∙ none u among)
      where
        at : (b : Bool) → hits s w a i ≡ b → cell r a i ≡ over b w.value (cell s a i)
            → ((u : Write) → Among ws u → hits s u a i ≡ false)
            → CellIs s (w ∷ ws) a i (cell r a i)
        at true hit is none = Touched w (inl refl) hit is
        at false hit is none = Untouched (λ u among. one u among) is
          where
            one : (u : Write) → Among (w ∷ ws) u → hits s u a i ≡ false
            one u (inl same) = subst (λ v. hits s v a i ≡ false) same hit
            one u (inr among) = none u among

-- writes of one cell write one value
abbrev pub Coherent : List Array → List Write → Type 0
Coherent s ws =
    (one other : Write) → Among ws one → Among ws other → (a i : ℕ) → hits s one a i ≡ true
    → hits s other a i ≡ true → one.value ≡ other.value

-- it writes what is there
abbrev pub Held : List Array → Write → Type 0
Held s w = put w s ≡ Some s

held_cell : (s : List Array) (w : Write) → Held s w → (a i : ℕ) → hits s w a i ≡ true
    → cell s a i ≡ option_map (λ _. w.value) (cell s a i)
held_cell s w held a i hit =
    (puts w s s held).cells a i ∙ ap (λ b. over b w.value (cell s a i)) hit

contradiction : {b : Bool} → b ≡ true → b ≡ false → ⊥
contradiction e f = true≢false (sym e ∙ f)

-- Writes of which some are left out that write what is there, or in another order, or repeated.
pub same_written : (ws vs : List Write) (s r t : List Array) → Coherent s ws
    → ((w : Write) → Among vs w → Among ws w)
    → ((w : Write) → Among ws w → Among vs w ⊎ Held s w)
    → written ws s ≡ Some r → written vs s ≡ Some t → r ≡ t
same_written ws vs s r t coherent fewer others one two =
    same_stores r t (λ a. written_shapes ws s r one a ∙ sym (written_shapes vs s t two a))
    (λ a i. by a i (cell_is ws s r one a i) (cell_is vs s t two a i))
  where
    by : (a i : ℕ) → CellIs s ws a i (cell r a i) → CellIs s vs a i (cell t a i)
        → cell r a i ≡ cell t a i
    by a i (Untouched none is) (Untouched none' is') = is ∙ sym is'
    by a i (Untouched none is) (Touched w among hit is') =
        absurd (contradiction hit (none w (fewer w among)))
    by a i (Touched w among hit is) (Touched w' among' hit' is') =
        is
        ∙ (ap (λ v. option_map (λ _. v) (cell s a i))
        (coherent w w' among (fewer w' among') a i hit hit') ∙ sym is')
    by a i (Touched w among hit is) (Untouched none is') = at (others w among)
      where
        at : Among vs w ⊎ Held s w → cell r a i ≡ cell t a i
        at (inl among') = absurd (contradiction hit (none w among'))
        at (inr held) = is ∙ (sym (held_cell s w held a i hit) ∙ sym is')

-- ---- where they can be written
pub can_each : (ws : List Write) (s r : List Array) → written ws s ≡ Some r → (w : Write)
    → Among ws w → can_put s w ≡ true
can_each [] s r e w among = absurd among
can_each (v ∷ ws) s r e w among =
    let (m, first, rest) = some_parts (written ws) (put v s) r e in
    by m first ((puts v s m first).shapes) (can_each ws m r rest) among
  where
    by : (m : List Array) → put v s ≡ Some m → ((a : ℕ) → shape m a ≡ shape s a)
        → ((w : Write) → Among ws w → can_put m w ≡ true)
        → Among (v ∷ ws) w → can_put s w ≡ true
    by m first shapes more (inl same) =
        subst (λ u. can_put s u ≡ true) same (sym (can_is v s) ∙ ap is_some first)
    by m first shapes more (inr among) =
        ap (λ o. has_in o w.place) (sym (shapes w.array)) ∙ more w among

some_there : {X : Type 0} (o : Option X) → is_some o ≡ true → (x : X) × (o ≡ Some x)
some_there None e = absurd (true≢false (sym e))
some_there (Some x) e = (x, refl)

pub all_can : (ws : List Write) (s : List Array)
    → ((w : Write) → Among ws w → can_put s w ≡ true)
    → (r : List Array) × (written ws s ≡ Some r)
all_can [] s all = (s, refl)
all_can (w ∷ ws) s all =
    let (m, first) = some_there (put w s) (can_is w s ∙ all w (inl refl)) in
    let shapes = (puts w s m first).shapes in
    let (r, rest) = all_can ws m (λ v among.
    ap (λ o. has_in o v.place) (shapes v.array) ∙ all v (inr among)) in
    (r, ap (option_and_then (written ws)) first ∙ rest)

-- ---- what was written is there
pub held_behind : (ws : List Write) (s r : List Array) → Coherent s ws → written ws s ≡ Some r
    → (w : Write) → Among ws w → Held r w
held_behind ws s r coherent is w among =
    let shapes = written_shapes ws s r is in
    let can : can_put r w ≡ true =
    ap (λ o. has_in o w.place) (shapes w.array) ∙ can_each ws s r is w among in
    let (m, put_is) = some_there (put w r) (can_is w r ∙ can) in
    let one = puts w r m put_is in
    put_is
    ∙ ap Some (same_stores m r one.shapes
    (λ a i. one.cells a i ∙ by a i (hits r w a i) refl (hits_shape w s r shapes a i)
    (cell_is ws s r is a i)))
  where
    by : (a i : ℕ) (b : Bool) → hits r w a i ≡ b → hits r w a i ≡ hits s w a i
        → CellIs s ws a i (cell r a i) → over b w.value (cell r a i) ≡ cell r a i
    by a i false e same cell_of = refl
    by a i true e same (Untouched none e') = absurd (contradiction (sym same ∙ e) (none w among))
    by a i true e same (Touched v among' hit e') =
        ap (option_map (λ _. w.value)) e'
        ∙ (over_twice true w.value v.value (cell s a i)
        ∙ (ap (λ x. option_map (λ _. x) (cell s a i))
        (coherent w v among among' a i (sym same ∙ e) hit) ∙ sym e'))

-- ---- what is read at a place that no other value is written at
index_get : (xs : List ℤ) (i : ℕ) → slice_index_or xs i (pos 0) ≡ unwrap_or (slice_get xs i) (pos 0)
index_get [] zero = refl
index_get [] (suc i) = refl
index_get (x ∷ xs) zero = refl
index_get (x ∷ xs) (suc i) = index_get xs i

pub value_same : (r s : List Array) (a : ℕ) (t : List ℤ) → shape r a ≡ shape s a
    → cell r a (place_in (shape s a) t) ≡ cell s a (place_in (shape s a) t)
    → value_at r a t ≡ value_at s a t
value_same r s a t shapes cells = by (slice_get r a) (slice_get s a) shapes cells
  where
    by : (x y : Option Array)
        → option_map (λ (z : Array). z.storage) x ≡ option_map (λ (z : Array). z.storage) y
        → (let i = place_in (option_map (λ (z : Array). z.storage) y) t in
        option_and_then (λ (z : Array). slice_get z.values i) x
        ≡ option_and_then (λ (z : Array). slice_get z.values i) y)
        → option_and_then (held_value t) x ≡ option_and_then (held_value t) y
    by None None e f = refl
    by None (Some y) e f = absurd (none_some e)
    by (Some x) None e f = absurd (none_some (sym e))
    by (Some x) (Some y) e f =
        ap (λ st. held_value t (record { storage = st; values = x.values })) (some_is e)
        ∙ ap (λ v. where_held (has_place y.storage t) (if has_place y.storage t then v else pos 0))
        (index_get x.values (place_among y.storage.dims t)
        ∙ (ap (λ o. unwrap_or o (pos 0)) f ∙ sym (index_get y.values (place_among y.storage.dims t))))
      where
        some_is : {r u : Region} → Some r ≡ Some u → r ≡ u
        some_is e = cc

-- a value is there where a place is
pub some_has : (s : List Array) (a : ℕ) (t : List ℤ) → is_some (value_at s a t) ≡ true
    → has_in (shape s a) t ≡ true
some_has s a t e = by (slice_get s a) e
  where
    by : (o : Option Array) → is_some (option_and_then (held_value t) o) ≡ true
        → has_in (option_map (λ (x : Array). x.storage) o) t ≡ true
    by None e = e
    by (Some x) e = at (has_place x.storage t) (element x t) e
      where
        at : (b : Bool) (v : ℤ) → is_some (where_held b v) ≡ true → b ≡ true
        at true v e = refl
        at false v e = e

-- what is there is there still where its array stays
pub held_other : (w : Write) (s t : List Array) → slice_get t w.array ≡ slice_get s w.array
    → Held s w → Held t w
held_other w s t same held =
    let can : can_put t w ≡ true =
    ap (λ o. has_in (option_map (λ (x : Array). x.storage) o) w.place) same
    ∙ (sym (can_is w s) ∙ ap is_some held) in
    let (m, put_is) = some_there (put w t) (can_is w t ∙ can) in
    let one = puts w t m put_is in
    put_is
    ∙ ap Some (same_stores m t one.shapes (λ a i. one.cells a i ∙ by a i (hits t w a i) refl))
  where
    by : (a i : ℕ) (b : Bool) → hits t w a i ≡ b → over b w.value (cell t a i) ≡ cell t a i
    by a i false e = refl
    by a i true e =
        let same_array : w.array ≡ a = eqb-true w.array a (first (w.array == a) _ e) in
        let cells : cell t a i ≡ cell s a i =
        subst (λ k. cell t k i ≡ cell s k i) same_array
        (ap (option_and_then (λ (x : Array). slice_get x.values i)) same) in
        let hit : hits s w a i ≡ true =
        sym (ap (λ o. (w.array == a)
        && (place_in (option_map (λ (x : Array). x.storage) o) w.place == i)) same) ∙ e in
        ap (option_map (λ _. w.value)) cells ∙ (sym (held_cell s w held a i hit) ∙ sym cells)
      where
        first : (b c : Bool) → (b && c) ≡ true → b ≡ true
        first true c e = refl
        first false c e = e
