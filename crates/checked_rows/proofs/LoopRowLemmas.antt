-- A loop whose places are held lacks none.
use Rattle.std.proofs.Common.{◌≡◌, ◌≢◌, ◌⊎◌, ◌≤◌, ◌<◌, ◌+◌, inl, inr, ℕ, zero, suc, Bool, true, false, refl, sym, ◌∙◌, ap, subst}
use Rattle.std.proofs.Common.{arith, ℤ, List, [], ◌∷◌, ◌++◌, length, All, Option, Some, None}
use Rattle.std.specs.Prelude.{flat_map, if◌then◌else◌, map, option_and_then, slice_get, slice_set}
use Rattle.std.specs.List.{AllByRecursion}
use Rattle.std.specs.Option.{IfSome, IsSomeAnd, option_map}
use Rattle.std.proofs.lemmas.Grind.{flat_map-append}
use Rattle.std.proofs.lemmas.List.{length-set}
use Rattle.zpl_nums.specs.Integer.{is_true}
use Rattle.zpl_nums.specs.Fold.{joined}
use Rattle.zpl_nums.specs.declared.folds.Fold.{Fold}
use Rattle.zpl_region.specs.declared.regions.Region.{Region}
use Rattle.zpl_arrays.specs.Array.{Array, element, has_place, updated}
use Rattle.node_form.specs.Fits.{Fits, FitsExpr, FitsMember, FitsWord, HasExpr}
use Rattle.node_form.specs.Group.{Point, operands_at, value_at as point_value}
use Rattle.node_form.specs.Nest.{Nest, Nothing, Putting, Keeping, Joining, Choosing, ChoosingElse}
use Rattle.node_form.specs.Nest.{Looping, Repeating, members_of}
use Rattle.node_form.specs.Value.{Computed, Divides, Gives, IsUnheld, Lacks, and_then}
use Rattle.node_form.specs.Value.{read, unmoved, value_of}
use Rattle.node_form.specs.declared.members.Member.{Member}
use Rattle.node_form.specs.declared.members.Member.TheVariants as member
use Rattle.node_form.specs.declared.tables.Tables.{Tables}
use Rattle.node_form.specs.declared.words.ExprOp.{ExprOp}
use Rattle.node_form.specs.declared.words.ExprOp.TheVariants as word
use Rattle.node_form.proofs.ValueLemmas.{value_of-Lacks}
use Rattle.code_parts.specs.Uses.{as_list, exprs_of, member_words, put_by, rows_or_none, words_of}
use Rattle.code_parts.proofs.ListLemmas.{In, in_append, in_back, in_each, in_front}
use Rattle.grid_meaning.specs.Loop.{access_at}
use Rattle.grid_meaning.specs.Place.{held_value, held_with, moved_by, value_at, where_held, with_value}
use Rattle.nest_meaning.specs.Nested.{Fine, Told, Wants, Ways, Zero, leaf_does, masked, nested}
use Rattle.nest_meaning.specs.Nested.{repeat_turns, then_do, until_done, ways_of, while_turns, with_state, with_value as with_computed}
use Rattle.nest_meaning.specs.Units.{units_of}
use Rattle.plan_meaning.specs.Loops.{Shared, Through, WantsTurn, tuple_next}
use Rattle.plan_meaning.specs.Loops.{tuples_shared, unit_next, units_shared}
use Rattle.plan_passes.proofs.WriteLemmas.{puts, shape}
use Rattle.plan_orders.proofs.TestLemmas.{all_at}
use Rattle.node_check.specs.Demand.{places_in, places_of}

-- ---- what a group may ask of a point: scalars and cells, and places of arrays
module _ (code : Tables) (fits : Fits code) (start : List Array) where
  pub record Keeps (point : Point (List Array)) : Type 0 where
    pub scalars : code.scalars ≤ length point.scalars
    pub cells : code.cells ≤ length point.cells
    pub shapes : (array : ℕ) → shape point.store array ≡ shape start array

  -- what a processor comes to: something is found, or a turn is wanted
  pub data Shares : Shared → Type 0 where
    SharesThrough : {point : Point (List Array)} {flag : Option ℕ} → Keeps point
        → Shares (Through point flag)
    SharesWants : Shares WantsTurn

  -- the array has the place at a tuple, moved by the vector
  abbrev pub Reaches : List ℤ → ℕ × List ℤ → Type 0
  Reaches t place =
      (region : Region) × (shape start place.0 ≡ Some region)
      × (has_place region (moved_by place.1 t) ≡ true)

  module _ (rank : ℕ) (few : rank ≤ 3) (t : List ℤ) (long : length t ≡ 3) where
    -- the places of an expression's words are reached
    abbrev Readable : ℕ → Type 0
    Readable expr =
        (place : ℕ × List ℤ) → In (flat_map places_in (words_of code expr)) place → Reaches t place

    store_there : (stores : List Array) (array : ℕ) (region : Region)
        → shape stores array ≡ Some region
        → (store : Array) × (slice_get stores array ≡ Some store) × (store.storage ≡ region)
    store_there stores array region is = by (slice_get stores array) refl is
      where
        by : (o : Option Array) → slice_get stores array ≡ o
            → option_map (λ (store : Array). store.storage) o ≡ Some region
            → (store : Array) × (slice_get stores array ≡ Some store) × (store.storage ≡ region)
        by None there e = cc
        by (Some store) there e = (store, there, (let same : store.storage ≡ region = cc in same))

    some_not : {X : Type 0} (x : X) (o : Option X) → o ≡ Some x → o ≡ None → ⊥
    some_not x None e f = cc
    some_not x (Some y) e f = cc

    element_there : (point : Point (List Array)) → Keeps point → (array : ℕ) (shift : List ℤ)
        → Reaches t (array, shift) → value_at point.store array (moved_by shift t) ≡ None → ⊥
    element_there point keeps array shift reaches none =
        let store = store_there point.store array reaches.0 (keeps.shapes array ∙ reaches.1) in
        some_not (element store.0 (moved_by shift t))
        (value_at point.store array (moved_by shift t))
        (ap (option_and_then (held_value (moved_by shift t))) store.1
        ∙ ap (λ b. where_held b (element store.0 (moved_by shift t)))
        (ap (λ (r : Region). has_place r (moved_by shift t)) store.2 ∙ reaches.2)) none

    in_words : (words front rest : List ExprOp) (one : ExprOp) → words ≡ front ++ one ∷ rest
        → (place : ℕ × List ℤ) → In (places_in one) place → In (flat_map places_in words) place
    in_words words front rest one is place h =
        in_each places_in words one place
        (subst (λ words. In words one) (sym is) (in_back front (one ∷ rest) one (inl refl))) h

    value_there : (point : Point (List Array)) → Keeps point → (expr : ℕ) → HasExpr code rank expr
        → Readable expr → point_value code (access_at t) point expr ≡ Lacks → ⊥
    value_there point keeps expr has readable e =
        by (slice_get code.exprs expr) refl has readable e
      where
        by_word : (words front rest : List ExprOp) (one : ExprOp) → words ≡ front ++ one ∷ rest
            → ((place : ℕ × List ℤ) → In (flat_map places_in words) place → Reaches t place)
            → IsUnheld (operands_at (access_at t) point) one → ⊥
        by_word words front rest (word.Here array) is reach unheld =
            element_there point keeps array unmoved
            (reach (array, unmoved) (in_words words front rest (word.Here array) is (array, unmoved)
            (inl refl)))
            unheld
        by_word words front rest (word.Shifted array shift) is reach unheld =
            element_there point keeps array shift
            (reach (array, shift)
            (in_words words front rest (word.Shifted array shift) is (array, shift) (inl refl)))
            unheld
        by_word words front rest one is reach unheld = unheld

        by : (o : Option (List ExprOp)) → slice_get code.exprs expr ≡ o
            → IsSomeAnd o (All (FitsWord code rank))
            → ((place : ℕ × List ℤ) → In (flat_map places_in (rows_or_none o)) place → Reaches t
            place)
            → and_then (value_of (operands_at (access_at t) point)) (read o) ≡ Lacks → ⊥
        by None there has reach e = has
        by (Some words) there has reach e =
            let fit = all_at (FitsExpr code) code.exprs expr words fits.exprs there in
            let reads = (value_of-Lacks code rank (operands_at (access_at t) point) words fit.stack
            has
            (record {
              scalars = keeps.scalars;
              cells = keeps.cells;
              index = omega (arith, few, long);
            })).0 e in
            by_word words reads.front reads.rest reads.word reads.place reach reads.unheld

    -- ---- what members come to
    data Found : Told (Point (List Array)) → Type 0 where
      FoundFine : {point : Point (List Array)} → Keeps point → Found (Fine point)
      FoundZero : {point : Point (List Array)} → Keeps point → Found (Zero point)
      FoundWants : Found Wants

    abbrev ways : Ways (Point (List Array))
    ways = ways_of code (access_at t)

    then_found : (next : Point (List Array) → Told (Point (List Array)))
        → ((point : Point (List Array)) → Keeps point → Found (next point))
        → (told : Told (Point (List Array))) → Found told → Found (then_do next told)
    then_found next each told (FoundFine {point = point} keeps) = each point keeps
    then_found next each told (FoundZero keeps) = FoundZero keeps
    then_found next each told FoundWants = FoundWants

    value_found : (point : Point (List Array)) → Keeps point → (o : Computed ℤ) → o ≢ Lacks
        → (next : ℤ → Told (Point (List Array))) → ((v : ℤ) → Found (next v))
        → Found (with_computed point o next)
    value_found point keeps (Gives v) there next each = each v
    value_found point keeps Divides there next each = FoundZero keeps
    value_found point keeps Lacks there next each = absurd (there refl)

    if_found : (b : Bool) (one other : Told (Point (List Array))) → Found one → Found other
        → Found (if b then one else other)
    if_found true one other a b = a
    if_found false one other a b = b

    -- an expression that may be read here
    record Expr (expr : ℕ) : Type 0 where
      has : HasExpr code rank expr
      readable : Readable expr

    abbrev IfExpr : Option ℕ → Type 0
    IfExpr mask = IfSome mask Expr

    masked_found : (mask : Option ℕ) → IfExpr mask → (point : Point (List Array)) → Keeps point
        → (run : Told (Point (List Array))) → Found run → Found (masked ways mask point run)
    masked_found None is point keeps run found = found
    masked_found (Some mask) is point keeps run found =
        value_found point keeps (ways.value point mask)
        (value_there point keeps mask is.has is.readable)
        (λ v. if is_true v then run else Fine point)
        (λ v. if_found (is_true v) run (Fine point) found (FoundFine keeps))

    -- ---- members without others
    abbrev Leaves : (ℤ → Point (List Array) → Option (Point (List Array))) → Type 0
    Leaves way =
        (v : ℤ) (point : Point (List Array)) → Keeps point
        → (next : Point (List Array)) × (way v point ≡ Some next) × Keeps next

    leaf_found : (expr : ℕ) → Expr expr → (mask : Option ℕ) → IfExpr mask
        → (way : ℤ → Point (List Array) → Option (Point (List Array))) → Leaves way
        → (point : Point (List Array)) → Keeps point
        → Found (leaf_does ways expr mask way point)
    leaf_found expr is mask if_mask way leaves point keeps =
        masked_found mask if_mask point keeps _
        (value_found point keeps (ways.value point expr)
        (value_there point keeps expr is.has is.readable)
        (λ v. with_state (way v point))
        (λ v. let next = leaves v point keeps in
        subst (λ o. Found (with_state o)) (sym next.1) (FoundFine next.2)))

    put_leaves : (array : ℕ) → Reaches t (array, unmoved) → moved_by unmoved t ≡ t
        → Leaves (λ v point. ways.put array v point)
    put_leaves array reaches still v point keeps =
        let store = store_there point.store array reaches.0 (keeps.shapes array ∙ reaches.1) in
        let next : List Array = slice_set point.store array (updated store.0 t v) in
        let place : has_place store.0.storage t ≡ true =
        ap (λ (r : Region). has_place r t) store.2
        ∙ (ap (has_place reaches.0) (sym still) ∙ reaches.2) in
        let is : with_value point.store array t v ≡ Some next =
        ap (λ o. option_map (slice_set point.store array) (option_and_then (held_with t v) o))
        store.1
        ∙ ap (λ b. option_map (slice_set point.store array) (where_held b (updated store.0 t v)))
        place in (
          record point { store = next },
          ap (option_map (λ store. record point { store = store })) is,
          record {
            scalars = keeps.scalars;
            cells = keeps.cells;
            shapes = λ other.
                (puts (record { array = array; place = t; value = v }) point.store next is).shapes
                other
                ∙ keeps.shapes other;
          },
        )

    keep_leaves : (cell : ℕ) → Leaves (λ v point. ways.keep cell v point)
    keep_leaves cell v point keeps = (
      _,
      refl,
      record {
        scalars = keeps.scalars;
        cells =
            let same = length-set point.cells cell v in
            let enough = keeps.cells in
            omega (arith, same, enough);
        shapes = keeps.shapes;
      },
    )

    join_leaves : (scalar : ℕ) (fold : Fold) → scalar < code.scalars
        → Leaves (λ v point. ways.join scalar fold v point)
    join_leaves scalar fold below v point keeps =
        by (slice_get point.scalars scalar) (some_scalar point.scalars scalar
        (let enough = keeps.scalars in omega (arith, below, enough)))
      where
        some_scalar : (xs : List ℤ) (k : ℕ) → k < length xs → slice_get xs k ≡ None → ⊥
        some_scalar [] k less e = omega (arith, less)
        some_scalar (x ∷ xs) zero less e = cc
        some_scalar (x ∷ xs) (suc k) less e = some_scalar xs k (omega (arith, less)) e

        by : (o : Option ℤ) → (o ≡ None → ⊥)
            → (next : Point (List Array))
            × (option_map (λ own. record point {
              scalars = slice_set point.scalars scalar (joined fold own v);
            }) o ≡ Some next) × Keeps next
        by None there = absurd (there refl)
        by (Some own) there = (
          _,
          refl,
          record {
            scalars =
                let same = length-set point.scalars scalar (joined fold own v) in
                let enough = keeps.scalars in
                omega (arith, same, enough);
            cells = keeps.cells;
            shapes = keeps.shapes;
          },
        )

    -- ---- members as the demand has them
    pub record MemberHas (one : Member) : Type 0 where
      pub fit : FitsMember code rank one
      pub reach : (place : ℕ × List ℤ) → In (places_of code one) place → Reaches t place

    among_exprs : (exprs : List ℕ) (expr : ℕ) → In exprs expr → (place : ℕ × List ℤ)
        → In (flat_map places_in (words_of code expr)) place
        → In (flat_map places_in (flat_map (words_of code) exprs)) place
    among_exprs [] expr h place k = absurd h
    among_exprs (first ∷ exprs) expr (inl is) place k =
        subst (λ places. In places place)
        (sym (flat_map-append places_in (words_of code first) (flat_map (words_of code) exprs)))
        (in_front (flat_map places_in (words_of code first))
        (flat_map places_in (flat_map (words_of code) exprs)) place
        (subst (λ e. In (flat_map places_in (words_of code e)) place) (sym is) k))
    among_exprs (first ∷ exprs) expr (inr h) place k =
        subst (λ places. In places place)
        (sym (flat_map-append places_in (words_of code first) (flat_map (words_of code) exprs)))
        (in_back (flat_map places_in (words_of code first))
        (flat_map places_in (flat_map (words_of code) exprs)) place
        (among_exprs exprs expr h place k))

    expr_of : (one : Member) → MemberHas one → (expr : ℕ) → In (exprs_of one) expr
        → HasExpr code rank expr → Expr expr
    expr_of one is expr h has = record {
      has = has;
      readable = λ place k.
          is.reach place
          (in_back (map (λ array. (array, unmoved)) (put_by one))
          (flat_map places_in (member_words code one))
          place (among_exprs (exprs_of one) expr h place k));
    }

    mask_of : (one : Member) → MemberHas one → (mask : Option ℕ)
        → ((expr : ℕ) → In (as_list mask) expr → In (exprs_of one) expr)
        → IfSome mask (HasExpr code rank) → IfExpr mask
    mask_of one is None among has = tt
    mask_of one is (Some mask) among has = expr_of one is mask (among mask (inl refl)) has

    -- ---- loops within the group
    while_found : (n : ℕ) (mask : Option ℕ) → IfExpr mask → (expr : ℕ) → Expr expr
        → (body : Point (List Array) → Told (Point (List Array)))
        → ((point : Point (List Array)) → Keeps point → Found (body point))
        → (point : Point (List Array)) → Keeps point
        → Found (while_turns ways n mask expr body point)
    while_found zero mask if_mask expr is body each point keeps =
        masked_found mask if_mask point keeps _
        (value_found point keeps (ways.value point expr)
        (value_there point keeps expr is.has is.readable)
        (λ v. if is_true v then Wants else Fine point)
        (λ v. if_found (is_true v) Wants (Fine point) FoundWants (FoundFine keeps)))
    while_found (suc n) mask if_mask expr is body each point keeps =
        masked_found mask if_mask point keeps _
        (value_found point keeps (ways.value point expr)
        (value_there point keeps expr is.has is.readable)
        (λ v. if is_true v then then_do (while_turns ways n mask expr body) (body point) else Fine
        point)
        (λ v. if_found (is_true v) (then_do (while_turns ways n mask expr body) (body point))
        (Fine point)
        (then_found (while_turns ways n mask expr body)
        (while_found n mask if_mask expr is body each)
        (body point) (each point keeps)) (FoundFine keeps)))

    until_found : (more : Point (List Array) → Told (Point (List Array)))
        → ((point : Point (List Array)) → Keeps point → Found (more point)) → (expr : ℕ) → Expr expr
        → (point : Point (List Array)) → Keeps point → Found (until_done ways more expr point)
    until_found more each expr is point keeps =
        value_found point keeps (ways.value point expr)
        (value_there point keeps expr is.has is.readable)
        (λ v. if is_true v then Fine point else more point)
        (λ v. if_found (is_true v) (Fine point) (more point) (FoundFine keeps) (each point keeps))

    repeat_found : (n : ℕ) (mask : Option ℕ) → IfExpr mask → (expr : ℕ) → Expr expr
        → (body : Point (List Array) → Told (Point (List Array)))
        → ((point : Point (List Array)) → Keeps point → Found (body point))
        → (point : Point (List Array)) → Keeps point
        → Found (repeat_turns ways n mask expr body point)
    repeat_found zero mask if_mask expr is body each point keeps =
        masked_found mask if_mask point keeps Wants FoundWants
    repeat_found (suc n) mask if_mask expr is body each point keeps =
        masked_found mask if_mask point keeps _
        (then_found (until_done ways (repeat_turns ways n mask expr body) expr)
        (until_found (repeat_turns ways n mask expr body)
        (repeat_found n mask if_mask expr is body each)
        expr is) (body point) (each point keeps))

    -- ---- a tree of members
    abbrev pub HaveAll : List Member → Type 0
    HaveAll members = (one : Member) → In members one → MemberHas one

    module _ (n : ℕ) (still : moved_by unmoved t ≡ t) where
      nest_found : (nest : Nest) → HaveAll (members_of nest) → (point : Point (List Array))
          → Keeps point → Found (nested ways n nest point)
      nest_found Nothing has point keeps = FoundFine keeps
      nest_found (Putting array expr mask line after) has point keeps =
          let one = has (member.Put array expr mask line) (inl refl) in
          then_found (nested ways n after) (nest_found after (λ m h. has m (inr h))) _
          (leaf_found expr (expr_of (member.Put array expr mask line) one expr (inl refl) one.fit.1)
          mask
          (mask_of (member.Put array expr mask line) one mask (λ e h. inr h) one.fit.2)
          (ways.put array)
          (put_leaves array (one.reach (array, unmoved) (inl refl)) still) point keeps)
      nest_found (Keeping cell expr mask line after) has point keeps =
          let one = has (member.Cell cell expr mask line) (inl refl) in
          then_found (nested ways n after) (nest_found after (λ m h. has m (inr h))) _
          (leaf_found expr (expr_of (member.Cell cell expr mask line) one expr (inl refl) one.fit.1)
          mask
          (mask_of (member.Cell cell expr mask line) one mask (λ e h. inr h) one.fit.2)
          (ways.keep cell)
          (keep_leaves cell) point keeps)
      nest_found (Joining scalar fold expr mask line after) has point keeps =
          let one = has (member.Acc scalar fold expr mask line) (inl refl) in
          then_found (nested ways n after) (nest_found after (λ m h. has m (inr h))) _
          (leaf_found expr (expr_of (member.Acc scalar fold expr mask line) one expr (inl refl)
          one.fit.1)
          mask (mask_of (member.Acc scalar fold expr mask line) one mask (λ e h. inr h) one.fit.2)
          (ways.join scalar fold) (join_leaves scalar fold one.fit.0) point keeps)
      nest_found (Choosing expr mask line body after) has point keeps =
          let head = member.OpenIf expr mask line in
          let one = has head (inl refl) in
          let is = expr_of head one expr (inl refl) one.fit.0 in
          then_found (nested ways n after)
          (nest_found after (λ m h. has m (inr
          (in_back (members_of body) (member.CloseIf ∷ members_of after) m (inr h)))))
          _ (masked_found mask (mask_of head one mask (λ e h. inr h) one.fit.1) point keeps _
          (value_found point keeps (ways.value point expr)
          (value_there point keeps expr is.has is.readable)
          (λ v. if is_true v then nested ways n body point else Fine point)
          (λ v. if_found (is_true v) (nested ways n body point) (Fine point)
          (nest_found body (λ m h. has m (inr (in_front (members_of body)
          (member.CloseIf ∷ members_of after) m h)))
          point keeps) (FoundFine keeps))))
      nest_found (ChoosingElse expr mask line body otherwise after) has point keeps =
          let head = member.OpenIf expr mask line in
          let one = has head (inl refl) in
          let is = expr_of head one expr (inl refl) one.fit.0 in
          let rest : List Member = member.Otherwise ∷
          (members_of otherwise ++ member.CloseIf ∷ members_of after) in
          then_found (nested ways n after)
          (nest_found after (λ m h. has m (inr (in_back (members_of body) rest m
          (inr (in_back (members_of otherwise) (member.CloseIf ∷ members_of after) m (inr h)))))))
          _ (masked_found mask (mask_of head one mask (λ e h. inr h) one.fit.1) point keeps _
          (value_found point keeps (ways.value point expr)
          (value_there point keeps expr is.has is.readable)
          (λ v. if is_true v then nested ways n body point else nested ways n otherwise point)
          (λ v. if_found (is_true v) (nested ways n body point) (nested ways n otherwise point)
          (nest_found body (λ m h. has m (inr (in_front (members_of body) rest m h))) point keeps)
          (nest_found otherwise (λ m h. has m (inr (in_back (members_of body) rest m
          (inr (in_front (members_of otherwise) (member.CloseIf ∷ members_of after) m h))))) point
          keeps))))
      nest_found (Looping expr mask line body after) has point keeps =
          let head = member.OpenWhile expr mask line in
          let one = has head (inl refl) in
          then_found (nested ways n after)
          (nest_found after (λ m h. has m (inr
          (in_back (members_of body) (member.CloseWhile ∷ members_of after) m (inr h)))))
          _ (while_found n mask (mask_of head one mask (λ e h. inr h) one.fit.1) expr
          (expr_of head one expr (inl refl) one.fit.0) (nested ways n body)
          (nest_found body (λ m h. has m (inr (in_front (members_of body)
          (member.CloseWhile ∷ members_of after) m h))))
          point keeps)
      nest_found (Repeating mask line body until after) has point keeps =
          let head = member.OpenRepeat mask line in
          let one = has head (inl refl) in
          let last = has (member.Until until)
          (inr (in_back (members_of body) (member.Until until ∷ members_of after)
          (member.Until until) (inl refl))) in
          then_found (nested ways n after)
          (nest_found after (λ m h. has m (inr
          (in_back (members_of body) (member.Until until ∷ members_of after) m (inr h)))))
          _ (repeat_found n mask (mask_of head one mask (λ e h. h) one.fit) until
          (expr_of (member.Until until) last until (inl refl) last.fit) (nested ways n body)
          (nest_found body (λ m h. has m (inr (in_front (members_of body)
          (member.Until until ∷ members_of after) m h))))
          point keeps)

      -- ---- the units of a group
      abbrev pub UnitsHave : List Nest → Type 0
      UnitsHave units = AllByRecursion (λ unit. HaveAll (members_of unit)) units

      shorter : (xs : List Member) (c : Member) (ys : List Member) (m : Member)
          → In (xs ++ c ∷ []) m → In (xs ++ c ∷ ys) m
      shorter xs c ys m h = by (in_append xs (c ∷ []) m h)
        where
          by : In xs m ⊎ In (c ∷ []) m → In (xs ++ c ∷ ys) m
          by (inl h) = in_front xs (c ∷ ys) m h
          by (inr (inl is)) = in_back xs (c ∷ ys) m (inl is)
          by (inr (inr h)) = absurd h

      alone_in : (c : Member) (ys : List Member) (m : Member) → In (c ∷ []) m → In (c ∷ ys) m
      alone_in c ys m (inl is) = inl is
      alone_in c ys m (inr h) = absurd h

      behind_in : (c : Member) (xs ys : List Member) (m : Member) → (In xs m → In ys m)
          → In (c ∷ xs) m → In (c ∷ ys) m
      behind_in c xs ys m more (inl is) = inl is
      behind_in c xs ys m more (inr h) = inr (more h)

      pub units_have : (nest : Nest) → HaveAll (members_of nest) → UnitsHave (units_of nest)
      units_have Nothing has = tt
      units_have (Putting array expr mask line after) has = (
        λ m h. has m (alone_in _ (members_of after) m h),
        units_have after
            (λ m h. has m (inr h)),
      )
      units_have (Keeping cell expr mask line after) has = (
        λ m h. has m (alone_in _ (members_of after) m h),
        units_have after
            (λ m h. has m (inr h)),
      )
      units_have (Joining scalar fold expr mask line after) has = (
        λ m h. has m (alone_in _ (members_of after) m h),
        units_have after
            (λ m h. has m (inr h)),
      )
      units_have (Choosing expr mask line body after) has = (
        λ m h. has m (behind_in _ _ _ m (shorter (members_of body) member.CloseIf (members_of after)
            m) h),
        units_have after (λ m h. has m (inr (in_back (members_of body) _ m (inr h)))),
      )
      units_have (ChoosingElse expr mask line body otherwise after) has = (
        λ m h. has m (behind_in _ _ _ m (inner m) h),
        units_have after (λ m h. has m (inr (in_back (members_of body) _ m
            (inr (in_back (members_of otherwise) _ m (inr h)))))),
      )
        where
          inner : (m : Member)
              → In
              (members_of body ++ member.Otherwise ∷ (members_of otherwise ++ member.CloseIf ∷ []))
              m
              → In
              (members_of body ++ member.Otherwise ∷
              (members_of otherwise ++ member.CloseIf ∷ members_of after)) m
          inner m h =
              by (in_append (members_of body)
              (member.Otherwise ∷ (members_of otherwise ++ member.CloseIf ∷ [])) m h)
            where
              rest : List Member
              rest = member.Otherwise ∷ (members_of otherwise ++ member.CloseIf ∷ members_of after)

              by : In (members_of body) m
                  ⊎ In (member.Otherwise ∷ (members_of otherwise ++ member.CloseIf ∷ [])) m
                  → In
                  (members_of body ++ member.Otherwise ∷
                  (members_of otherwise ++ member.CloseIf ∷ members_of after)) m
              by (inl h) =
                  in_front (members_of body)
                  (member.Otherwise ∷ (members_of otherwise ++ member.CloseIf ∷ members_of after)) m
                  h
              by (inr h) =
                  in_back (members_of body)
                  (member.Otherwise ∷ (members_of otherwise ++ member.CloseIf ∷ members_of after)) m
                  (behind_in member.Otherwise _ _ m
                  (shorter (members_of otherwise) member.CloseIf (members_of after) m) h)
      units_have (Looping expr mask line body after) has = (
        λ m h. has m (behind_in _ _ _ m (shorter (members_of body) member.CloseWhile
            (members_of after) m) h),
        units_have after (λ m h. has m (inr (in_back (members_of body) _ m (inr h)))),
      )
      units_have (Repeating mask line body until after) has = (
        λ m h. has m (behind_in _ _ _ m (shorter (members_of body) (member.Until until)
            (members_of after) m) h),
        units_have after (λ m h. has m (inr (in_back (members_of body) _ m (inr h)))),
      )

      pub units_found : (units : List Nest) → UnitsHave units → (number : ℕ)
          → (point : Point (List Array)) → Keeps point
          → Shares (units_shared code n number units t point)
      units_found [] has number point keeps = SharesThrough keeps
      units_found (unit ∷ units) has number point keeps =
          by (nested ways n unit point) (nest_found unit has.0 point keeps)
          (λ next kept. units_found units has.1 (number + length (members_of unit)) next kept)
        where
          by : (told : Told (Point (List Array))) → Found told
              → ((next : Point (List Array)) → Keeps next
              → Shares (units_shared code n (number + length (members_of unit)) units t next))
              → Shares (unit_next number told
              (λ point. units_shared code n (number + length (members_of unit)) units t point))
          by told (FoundFine {point = next} kept) more = more next kept
          by told (FoundZero kept) more = SharesThrough kept
          by told FoundWants more = SharesWants

  -- ---- all tuples
  pub tuples_found : (n : ℕ) (units : List Nest) (tuples : List (List ℤ)) (flag : Option ℕ)
      (point : Point (List Array)) → Keeps point
      → ((t : List ℤ) → In tuples t → (point : Point (List Array)) → Keeps point
      → Shares (units_shared code n 0 units t point))
      → Shares (tuples_shared code n units tuples flag point)
  tuples_found n units [] flag point keeps each = SharesThrough keeps
  tuples_found n units (t ∷ tuples) flag point keeps each =
      by (units_shared code n 0 units t point) (each t (inl refl) point keeps)
      (λ next flag kept. tuples_found n units tuples flag next kept (λ t h. each t (inr h)))
    where
      by : (some : Shared) → Shares some
          → ((next : Point (List Array)) (flag : Option ℕ) → Keeps next
          → Shares (tuples_shared code n units tuples flag next))
          → Shares (tuple_next flag some
          (λ point flag. tuples_shared code n units tuples flag point))
      by some (SharesThrough {point = next} kept) more = more next _ kept
      by some SharesWants more = SharesWants
