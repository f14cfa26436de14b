-- Two trees of members do alike.
use Rattle.std.proofs.Common.{◌≡◌, refl, sym, subst, ℕ, zero, suc, Bool, true, false, ℤ}
use Rattle.std.proofs.Common.{◌∷◌}
use Rattle.std.specs.Prelude.{Option, Some, None, if◌then◌else◌}
use Rattle.std.specs.Option.{IfSome}
use Rattle.node_form.specs.of_zpl_nums.Integer.{is_true}
use Rattle.node_form.specs.Nest.{Nest, Nothing, Putting, Keeping, Joining, Choosing, ChoosingElse}
use Rattle.node_form.specs.Nest.{Looping, Repeating}
use Rattle.node_form.specs.Value.{Computed, Gives, Divides, Lacks}
use Rattle.nest_meaning.specs.Nested.{Ways, Told, Fine, Wants, then_do, with_value}
use Rattle.nest_meaning.specs.Nested.{with_state}
use Rattle.nest_meaning.specs.Nested.{masked, while_turns, until_done, repeat_turns, leaf_does}
use Rattle.nest_meaning.specs.Nested.{nested}
use Rattle.nest_meaning.specs.Alike.{AreTold, BothFine, BothZero, BothWant, BothLost, AreBoth}
use Rattle.nest_meaning.specs.Alike.{Neither, Both}
use Rattle.nest_meaning.specs.Alike.{Leaf, PutLeaf, KeepLeaf, JoinLeaf, leafed, way_of, AreValues}
use Rattle.nest_meaning.specs.Alike.{AreMasks}
use Rattle.nest_meaning.specs.Alike.{NoMasks, Masks, AreLeaves, AreNests, BothNothing, Leaves, Ifs}
use Rattle.nest_meaning.specs.Alike.{Elses}
use Rattle.nest_meaning.specs.Alike.{Whiles, Repeats, IsSame, IsNestSame}
use Rattle.nest_meaning.specs.Alike.{AreUnits, NoUnits, MoreUnits}
use Rattle.nest_meaning.specs.Units.{units_of}
use Rattle.nest_meaning.specs.Laws.{DoAlike, DoesAlike, HaveLikeUnits}

module _ {P Q : Type 0} (IsLike : P → Q → Type 0) where
  value_told : (p : P) (q : Q) (x y : Computed ℤ) (f : ℤ → Told P) (g : ℤ → Told Q) → IsLike p q
      → x ≡ y
      → ((v : ℤ) → AreTold IsLike (f v) (g v))
      → AreTold IsLike (with_value p x f) (with_value q y g)
  value_told p q x y f g like e alike =
      subst (λ c. AreTold IsLike (with_value p x f) (with_value q c g)) e (by x)
    where
      by : (c : Computed ℤ) → AreTold IsLike (with_value p c f) (with_value q c g)
      by (Gives v) = alike v
      by Divides = BothZero like
      by Lacks = BothLost

  if_told : (v : Bool) (s u : Told P) (t w : Told Q) → AreTold IsLike s t → AreTold IsLike u w
      → AreTold IsLike (if v then s else u) (if v then t else w)
  if_told true s u t w first second = first
  if_told false s u t w first second = second

  state_told : (s : Option P) (t : Option Q) → AreBoth IsLike s t
      → AreTold IsLike (with_state s) (with_state t)
  state_told s t Neither = BothLost
  state_told s t (Both like) = BothFine like

  then_told : (s : Told P) (t : Told Q) (f : P → Told P) (g : Q → Told Q) → AreTold IsLike s t
      → ((p : P) (q : Q) → IsLike p q → AreTold IsLike (f p) (g q))
      → AreTold IsLike (then_do f s) (then_do g t)
  then_told s t f g (BothFine {p = p} {q = q} like) more = more p q like
  then_told s t f g (BothZero like) more = BothZero like
  then_told s t f g BothWant more = BothWant
  then_told s t f g BothLost more = BothLost

  module _ (a : Ways P) (b : Ways Q) where
    masked_told : (p : P) (q : Q) (mask mask' : Option ℕ) (s : Told P) (t : Told Q) → IsLike p q
        → AreMasks IsLike a b mask mask' → AreTold IsLike s t
        → AreTold IsLike (masked a mask p s) (masked b mask' q t)
    masked_told p q mask mask' s t like NoMasks told = told
    masked_told p q mask mask' s t like (Masks {expr = e} {expr' = f} same) told =
        value_told p q (a.value p e) (b.value q f) _ _ like (same.same p q like)
        (λ v. if_told (is_true v) s (Fine p) t (Fine q) told (BothFine like))

    -- a choice by an expression, behind a mask
    choice_told : (p : P) (q : Q) (mask mask' : Option ℕ) (expr expr' : ℕ) (s u : Told P)
        (t w : Told Q)
        → IsLike p q → AreMasks IsLike a b mask mask' → AreValues IsLike a b expr expr'
        → AreTold IsLike s t → AreTold IsLike u w
        → AreTold IsLike
        (masked a mask p (with_value p (a.value p expr) (λ v. if is_true v then s else u)))
        (masked b mask' q (with_value q (b.value q expr') (λ v. if is_true v then t else w)))
    choice_told p q mask mask' expr expr' s u t w like m e one other =
        masked_told p q mask mask' _ _ like m
        (value_told p q (a.value p expr) (b.value q expr') _ _ like (e.same p q like)
        (λ v. if_told (is_true v) s u t w one other))

    while_told : (n : ℕ) (mask mask' : Option ℕ) (expr expr' : ℕ) (f : P → Told P) (g : Q → Told Q)
        → AreMasks IsLike a b mask mask' → AreValues IsLike a b expr expr'
        → ((p : P) (q : Q) → IsLike p q → AreTold IsLike (f p) (g q)) → (p : P) (q : Q) → IsLike p q
        → AreTold IsLike (while_turns a n mask expr f p) (while_turns b n mask' expr' g q)
    while_told zero mask mask' expr expr' f g m e body p q like =
        choice_told p q mask mask' expr expr' Wants (Fine p) Wants (Fine q) like m e BothWant
        (BothFine like)
    while_told (suc n) mask mask' expr expr' f g m e body p q like =
        choice_told p q mask mask' expr expr' (then_do (while_turns a n mask expr f) (f p)) (Fine p)
        (then_do (while_turns b n mask' expr' g) (g q)) (Fine q) like m e
        (then_told (f p) (g q) (while_turns a n mask expr f) (while_turns b n mask' expr' g)
        (body p q like)
        (while_told n mask mask' expr expr' f g m e body)) (BothFine like)

    repeat_told : (n : ℕ) (mask mask' : Option ℕ) (expr expr' : ℕ) (f : P → Told P) (g : Q → Told Q)
        → AreMasks IsLike a b mask mask' → AreValues IsLike a b expr expr'
        → ((p : P) (q : Q) → IsLike p q → AreTold IsLike (f p) (g q)) → (p : P) (q : Q) → IsLike p q
        → AreTold IsLike (repeat_turns a n mask expr f p) (repeat_turns b n mask' expr' g q)
    repeat_told zero mask mask' expr expr' f g m e body p q like =
        masked_told p q mask mask' Wants Wants like m BothWant
    repeat_told (suc n) mask mask' expr expr' f g m e body p q like =
        masked_told p q mask mask' _ _ like m
        (then_told (f p) (g q) (until_done a (repeat_turns a n mask expr f) expr)
        (until_done b (repeat_turns b n mask' expr' g) expr') (body p q like)
        (λ p q like. value_told p q (a.value p expr) (b.value q expr') _ _ like (e.same p q like)
        (λ v. if_told (is_true v) (Fine p) (repeat_turns a n mask expr f p) (Fine q)
        (repeat_turns b n mask' expr' g q) (BothFine like)
        (repeat_told n mask mask' expr expr' f g m e body p q like))))

    leaf_told : (mask mask' : Option ℕ) (expr expr' : ℕ) (leaf leaf' : Leaf)
        → AreMasks IsLike a b mask mask'
        → AreValues IsLike a b expr expr' → AreLeaves IsLike a b leaf leaf' → (p : P) (q : Q)
        → IsLike p q
        → AreTold IsLike (leaf_does a expr mask (way_of a leaf) p)
        (leaf_does b expr' mask' (way_of b leaf') q)
    leaf_told mask mask' expr expr' leaf leaf' m e l p q like =
        masked_told p q mask mask' _ _ like m
        (value_told p q (a.value p expr) (b.value q expr') _ _ like (e.same p q like)
        (λ v. state_told (way_of a leaf v p) (way_of b leaf' v q) (l.steps v p q like)))

    pub do_alike : (n : ℕ) (nest nest' : Nest) → AreNests IsLike a b nest nest' → (p : P) (q : Q)
        → IsLike p q
        → AreTold IsLike (nested a n nest p) (nested b n nest' q)
    do_alike n nest nest' BothNothing p q like = BothFine like
    do_alike n nest nest'
        (Leaves {leaf = x} {leaf' = y} {expr = e} {expr' = f} {mask = k} {mask' = l} line line'
        {after = c} {after' = d}
        m s w r) p q like =
        subst (λ t. AreTold IsLike t (nested b n (leafed y f l line' d) q))
        (sym (leaf_is a n x e k line c p))
        (subst (λ t. AreTold IsLike (then_do (nested a n c) (leaf_does a e k (way_of a x) p)) t)
        (sym (leaf_is b n y f l line' d q))
        (then_told _ _ (nested a n c) (nested b n d) (leaf_told k l e f x y m s w p q like)
        (do_alike n c d r)))
      where
        leaf_is : {P : Type 0} (ways : Ways P) (n : ℕ) (leaf : Leaf) (expr : ℕ) (mask : Option ℕ)
            (line : ℕ)
            (after : Nest) (p : P)
            → nested ways n (leafed leaf expr mask line after) p
            ≡ then_do (nested ways n after) (leaf_does ways expr mask (way_of ways leaf) p)
        leaf_is ways n (PutLeaf array) expr mask line after p = refl
        leaf_is ways n (KeepLeaf cell) expr mask line after p = refl
        leaf_is ways n (JoinLeaf scalar fold) expr mask line after p = refl
    do_alike n nest nest'
        (Ifs {expr = e} {expr' = f} {mask = k} {mask' = l} {body = x} {body' = y} {after = c}
        {after' = d} m s w r)
        p q like =
        then_told _ _ (nested a n c) (nested b n d)
        (choice_told p q k l e f (nested a n x p) (Fine p) (nested b n y q) (Fine q) like m s
        (do_alike n x y w p q like) (BothFine like)) (do_alike n c d r)
    do_alike n nest nest'
        (Elses {expr = e} {expr' = f} {mask = k} {mask' = l} {body = x} {body' = y} {other = z}
        {other' = u}
        {after = c} {after' = d} m s w o r) p q like =
        then_told _ _ (nested a n c) (nested b n d)
        (choice_told p q k l e f (nested a n x p) (nested a n z p) (nested b n y q)
        (nested b n u q) like m s
        (do_alike n x y w p q like) (do_alike n z u o p q like)) (do_alike n c d r)
    do_alike n nest nest'
        (Whiles {expr = e} {expr' = f} {mask = k} {mask' = l} {body = x} {body' = y} {after = c}
        {after' = d}
        m s w r) p q like =
        then_told _ _ (nested a n c) (nested b n d)
        (while_told n k l e f (nested a n x) (nested b n y) m s (do_alike n x y w) p q like)
        (do_alike n c d r)
    do_alike n nest nest'
        (Repeats {expr = e} {expr' = f} {mask = k} {mask' = l} {body = x} {body' = y} {after = c}
        {after' = d}
        m s w r) p q like =
        then_told _ _ (nested a n c) (nested b n d)
        (repeat_told n k l e f (nested a n x) (nested b n y) m s (do_alike n x y w) p q like)
        (do_alike n c d r)

    -- ---- one tree by two ways
    masks_same : (mask : Option ℕ) → IfSome mask (IsSame IsLike a b) → AreMasks IsLike a b mask mask
    masks_same None same = NoMasks
    masks_same (Some expr) same = Masks same

    pub same_nests : (nest : Nest) → IsNestSame IsLike a b nest → AreNests IsLike a b nest nest
    same_nests Nothing same = BothNothing
    same_nests (Putting array expr mask line after) same =
        Leaves line line (masks_same mask same.0.0) same.0.1 same.0.2 (same_nests after same.1)
    same_nests (Keeping cell expr mask line after) same =
        Leaves line line (masks_same mask same.0.0) same.0.1 same.0.2 (same_nests after same.1)
    same_nests (Joining scalar fold expr mask line after) same =
        Leaves line line (masks_same mask same.0.0) same.0.1 same.0.2 (same_nests after same.1)
    same_nests (Choosing expr mask line body after) same =
        Ifs (masks_same mask same.0) same.1 (same_nests body same.2) (same_nests after same.3)
    same_nests (ChoosingElse expr mask line body otherwise after) same =
        Elses (masks_same mask same.0) same.1 (same_nests body same.2) (same_nests otherwise same.3)
        (same_nests after same.4)
    same_nests (Looping expr mask line body after) same =
        Whiles (masks_same mask same.0) same.1 (same_nests body same.2) (same_nests after same.3)
    same_nests (Repeating mask line body until after) same =
        Repeats (masks_same mask same.0) same.1 (same_nests body same.2) (same_nests after same.3)

  pub have_like_units : HaveLikeUnits IsLike
  have_like_units a b nest nest' BothNothing = NoUnits
  have_like_units a b nest nest'
      (Leaves {leaf = x} {leaf' = y} line line' {after = c} {after' = d} m s w r) =
      by c d x y m s w (have_like_units a b c d r)
    where
      one : (leaf : Leaf) (expr : ℕ) (mask : Option ℕ) (line : ℕ) (after : Nest)
          → units_of (leafed leaf expr mask line after)
          ≡ leafed leaf expr mask line Nothing ∷ units_of after
      one (PutLeaf array) expr mask line after = refl
      one (KeepLeaf cell) expr mask line after = refl
      one (JoinLeaf scalar fold) expr mask line after = refl

      by : {expr expr' : ℕ} {mask mask' : Option ℕ} (after after' : Nest) (x y : Leaf)
          → AreMasks IsLike a b mask mask' → AreValues IsLike a b expr expr'
          → AreLeaves IsLike a b x y
          → AreUnits IsLike a b (units_of after) (units_of after')
          → AreUnits IsLike a b (units_of (leafed x expr mask line after))
          (units_of (leafed y expr' mask' line' after'))
      by {expr = e} {expr' = f} {mask = k} {mask' = l} c d x y m s w more =
          subst (λ units. AreUnits IsLike a b units (units_of (leafed y f l line' d)))
          (sym (one x e k line c))
          (subst (AreUnits IsLike a b (leafed x e k line Nothing ∷ units_of c))
          (sym (one y f l line' d))
          (MoreUnits (Leaves line line' m s w BothNothing) more))
  have_like_units a b nest nest' (Ifs m s w r) =
      MoreUnits (Ifs m s w BothNothing) (have_like_units a b _ _ r)
  have_like_units a b nest nest' (Elses m s w o r) =
      MoreUnits (Elses m s w o BothNothing) (have_like_units a b _ _ r)
  have_like_units a b nest nest' (Whiles m s w r) =
      MoreUnits (Whiles m s w BothNothing) (have_like_units a b _ _ r)
  have_like_units a b nest nest' (Repeats m s w r) =
      MoreUnits (Repeats m s w BothNothing) (have_like_units a b _ _ r)

  pub do_as_pairs : DoAlike IsLike
  do_as_pairs a b n nest nest' are p q like = do_alike a b n nest nest' are p q like

  pub does_alike : DoesAlike IsLike
  does_alike a b n nest same p q like = do_alike a b n nest nest (same_nests a b nest same) p q like
