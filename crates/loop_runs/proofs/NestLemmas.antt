-- What a tree of members reads and writes is found in its members; and what a tree then comes to.
--
--   NestOf, nest_from     a fact of all expressions and leaves in a tree, from those of its members
--   nest_same             then the tree does alike by two ways
--   ToldGood, nested_good a tree whose expressions lack nothing is never lost
use Rattle.std.proofs.Common.{ℕ, zero, suc, Bool, true, false}
use Rattle.std.proofs.Common.{List, [], ◌∷◌, ◌++◌, Option, Some, None, ℤ}
use Rattle.std.specs.Prelude.{if◌then◌else◌, ⊤}
use Rattle.std.specs.Option.{IfSome}
use Rattle.zpl_nums.specs.Integer.{is_true}
use Rattle.node_form.specs.declared.members.Member.{Member}
use Rattle.node_form.specs.declared.members.Member.TheVariants as member
use Rattle.node_form.specs.Nest.{Nest, Nothing, Putting, Keeping, Joining, Choosing, ChoosingElse}
use Rattle.node_form.specs.Nest.{Looping, Repeating, members_of}
use Rattle.node_form.specs.Value.{Computed, Gives, Divides, Lacks}
use Rattle.row_runs.specs.Straight.{Every}
use Rattle.nest_meaning.specs.Alike.{AreLeaves, AreValues, IsNestSame, JoinLeaf, KeepLeaf, Leaf}
use Rattle.nest_meaning.specs.Alike.{PutLeaf, way_of}
use Rattle.nest_meaning.specs.Nested.{Ways, Told, Fine, Zero, Wants, leaf_does, masked}
use Rattle.nest_meaning.specs.Nested.{nested, repeat_turns, then_do, until_done, while_turns}
use Rattle.nest_meaning.specs.Nested.{with_state, with_value}

pub every_front : {X : Type 0} (P : X → Type 0) (xs ys : List X) → Every P (xs ++ ys) → Every P xs
every_front P [] ys all = tt
every_front P (x ∷ xs) ys all = (all.0, every_front P xs ys all.1)

pub every_behind : {X : Type 0} (P : X → Type 0) (xs ys : List X) → Every P (xs ++ ys)
    → Every P ys
every_behind P [] ys all = all
every_behind P (x ∷ xs) ys all = every_behind P xs ys all.1

-- ---- a fact of each expression and each leaf
module _ (E : ℕ → Type 0) (W : Leaf → Type 0) where
  abbrev pub NestOf : Nest → Type 0
  NestOf Nothing = ⊤
  NestOf (Putting array expr mask line after) =
      IfSome mask E × E expr × W (PutLeaf array) × NestOf after
  NestOf (Keeping cell expr mask line after) =
      IfSome mask E × E expr × W (KeepLeaf cell) × NestOf after
  NestOf (Joining scalar fold expr mask line after) =
      IfSome mask E × E expr × W (JoinLeaf scalar fold) × NestOf after
  NestOf (Choosing expr mask line body after) = IfSome mask E × E expr × NestOf body × NestOf after
  NestOf (ChoosingElse expr mask line body otherwise after) =
      IfSome mask E × E expr × NestOf body × NestOf otherwise × NestOf after
  NestOf (Looping expr mask line body after) = IfSome mask E × E expr × NestOf body × NestOf after
  NestOf (Repeating mask line body until after) =
      IfSome mask E × E until × NestOf body × NestOf after

  abbrev pub MemberOf : Member → Type 0
  MemberOf (member.Put array expr mask line) = IfSome mask E × E expr × W (PutLeaf array)
  MemberOf (member.Cell cell expr mask line) = IfSome mask E × E expr × W (KeepLeaf cell)
  MemberOf (member.Acc scalar fold expr mask line) =
      IfSome mask E × E expr × W (JoinLeaf scalar fold)
  MemberOf (member.OpenIf expr mask line) = IfSome mask E × E expr
  MemberOf member.Otherwise = ⊤
  MemberOf member.CloseIf = ⊤
  MemberOf (member.OpenWhile expr mask line) = IfSome mask E × E expr
  MemberOf member.CloseWhile = ⊤
  MemberOf (member.OpenRepeat mask line) = IfSome mask E
  MemberOf (member.Until expr) = E expr

  pub nest_from : (nest : Nest) → Every MemberOf (members_of nest) → NestOf nest
  nest_from Nothing all = tt
  nest_from (Putting array expr mask line after) all =
      (all.0.0, all.0.1, all.0.2, nest_from after all.1)
  nest_from (Keeping cell expr mask line after) all =
      (all.0.0, all.0.1, all.0.2, nest_from after all.1)
  nest_from (Joining scalar fold expr mask line after) all =
      (all.0.0, all.0.1, all.0.2, nest_from after all.1)
  nest_from (Choosing expr mask line body after) all =
      let rest = every_behind MemberOf (members_of body) (member.CloseIf ∷ members_of after) all.1 in (
        all.0.0,
        all.0.1,
        nest_from body
            (every_front MemberOf (members_of body) (member.CloseIf ∷ members_of after) all.1),
        nest_from after rest.1,
      )
  nest_from (ChoosingElse expr mask line body otherwise after) all =
      let tail = members_of otherwise ++ member.CloseIf ∷ members_of after in
      let rest = every_behind MemberOf (members_of body) (member.Otherwise ∷ tail) all.1 in
      let last = every_behind MemberOf (members_of otherwise) (member.CloseIf ∷ members_of after)
      rest.1 in (
        all.0.0,
        all.0.1,
        nest_from body (every_front MemberOf (members_of body) (member.Otherwise ∷ tail) all.1),
        nest_from otherwise
            (every_front MemberOf (members_of otherwise) (member.CloseIf ∷ members_of after) rest.1),
        nest_from after last.1,
      )
  nest_from (Looping expr mask line body after) all =
      let rest =
      every_behind MemberOf (members_of body) (member.CloseWhile ∷ members_of after) all.1 in (
        all.0.0,
        all.0.1,
        nest_from body
            (every_front MemberOf (members_of body) (member.CloseWhile ∷ members_of after) all.1),
        nest_from after rest.1,
      )
  nest_from (Repeating mask line body until after) all =
      let rest =
      every_behind MemberOf (members_of body) (member.Until until ∷ members_of after) all.1 in (
        all.0,
        rest.0,
        nest_from body
            (every_front MemberOf (members_of body) (member.Until until ∷ members_of after) all.1),
        nest_from after rest.1,
      )

  -- ---- by two ways
  module _ {P Q : Type 0} (IsLike : P → Q → Type 0) (a : Ways P) (b : Ways Q)
      (values : (expr : ℕ) → E expr → AreValues IsLike a b expr expr)
      (leaves : (leaf : Leaf) → W leaf → AreLeaves IsLike a b leaf leaf) where
    mask_same : (mask : Option ℕ) → IfSome mask E
        → IfSome mask (λ expr. AreValues IsLike a b expr expr)
    mask_same None is = tt
    mask_same (Some mask) is = values mask is

    pub nest_same : (nest : Nest) → NestOf nest → IsNestSame IsLike a b nest
    nest_same Nothing is = tt
    nest_same (Putting array expr mask line after) is = (
      (mask_same mask is.0, values expr is.1, leaves (PutLeaf array) is.2),
      nest_same after is.3,
    )
    nest_same (Keeping cell expr mask line after) is = (
      (mask_same mask is.0, values expr is.1, leaves (KeepLeaf cell) is.2),
      nest_same after is.3,
    )
    nest_same (Joining scalar fold expr mask line after) is = (
      (mask_same mask is.0, values expr is.1, leaves (JoinLeaf scalar fold) is.2),
      nest_same after is.3,
    )
    nest_same (Choosing expr mask line body after) is =
        (mask_same mask is.0, values expr is.1, nest_same body is.2, nest_same after is.3)
    nest_same (ChoosingElse expr mask line body otherwise after) is = (
      mask_same mask is.0,
      values expr is.1,
      nest_same body is.2,
      nest_same otherwise is.3,
      nest_same after is.4,
    )
    nest_same (Looping expr mask line body after) is =
        (mask_same mask is.0, values expr is.1, nest_same body is.2, nest_same after is.3)
    nest_same (Repeating mask line body until after) is =
        (mask_same mask is.0, values until is.1, nest_same body is.2, nest_same after is.3)

  -- ---- a tree whose expressions lack nothing; `Z` says whether one may divide by zero
  module _ {P : Type 0} (Inv : P → Type 0) (Z : Type 0) where
    pub data ToldGood : Told P → Type 0 where
      GoodFine : {p : P} → Inv p → ToldGood (Fine p)
      GoodZero : {p : P} → Z → Inv p → ToldGood (Zero p)
      GoodWant : ToldGood Wants

    abbrev pub ValueGood : Computed ℤ → Type 0
    ValueGood (Gives v) = ⊤
    ValueGood Divides = Z
    ValueGood Lacks = ⊥

    abbrev pub StateGood : Option P → Type 0
    StateGood None = ⊥
    StateGood (Some p) = Inv p

    module _ (ways : Ways P)
        (values : (expr : ℕ) → E expr → (p : P) → Inv p → ValueGood (ways.value p expr))
        (leaves : (leaf : Leaf) → W leaf → (v : ℤ) (p : P) → Inv p
        → StateGood (way_of ways leaf v p)) where
      value_good : (p : P) (x : Computed ℤ) (f : ℤ → Told P) → Inv p → ValueGood x
          → ((v : ℤ) → ToldGood (f v)) → ToldGood (with_value p x f)
      value_good p (Gives v) f has is more = more v
      value_good p Divides f has is more = GoodZero is has
      value_good p Lacks f has is more = absurd is

      if_good : (b : Bool) (s t : Told P) → ToldGood s → ToldGood t
          → ToldGood (if b then s else t)
      if_good true s t is or = is
      if_good false s t is or = or

      then_good : (told : Told P) (f : P → Told P) → ToldGood told
          → ((p : P) → Inv p → ToldGood (f p)) → ToldGood (then_do f told)
      then_good told f (GoodFine {p = p} has) more = more p has
      then_good told f (GoodZero is has) more = GoodZero is has
      then_good told f GoodWant more = GoodWant

      state_good : (o : Option P) → StateGood o → ToldGood (with_state o)
      state_good None is = absurd is
      state_good (Some p) is = GoodFine is

      mask_good : (mask : Option ℕ) (p : P) (run : Told P) → IfSome mask E → Inv p → ToldGood run
          → ToldGood (masked ways mask p run)
      mask_good None p run is has good = good
      mask_good (Some mask) p run is has good =
          value_good p (ways.value p mask) _ has (values mask is p has)
          (λ v. if_good (is_true v) run (Fine p) good (GoodFine has))

      choice_good : (mask : Option ℕ) (expr : ℕ) (p : P) (s t : Told P) → IfSome mask E → E expr
          → Inv p → ToldGood s → ToldGood t
          → ToldGood
          (masked ways mask p (with_value p (ways.value p expr) (λ v. if is_true v then s else t)))
      choice_good mask expr p s t m e has one or = mask_good mask p _ m has
          (value_good p (ways.value p expr) _ has (values expr e p has)
          (λ v. if_good (is_true v) s t one or))

      leaf_good : (leaf : Leaf) (expr : ℕ) (mask : Option ℕ) (p : P) → IfSome mask E → E expr
          → W leaf → Inv p → ToldGood (leaf_does ways expr mask (way_of ways leaf) p)
      leaf_good leaf expr mask p m e w has = mask_good mask p _ m has
          (value_good p (ways.value p expr) _ has (values expr e p has)
          (λ v. state_good (way_of ways leaf v p) (leaves leaf w v p has)))

      while_good : (n : ℕ) (mask : Option ℕ) (expr : ℕ) (body : P → Told P) → IfSome mask E
          → E expr → ((p : P) → Inv p → ToldGood (body p)) → (p : P) → Inv p
          → ToldGood (while_turns ways n mask expr body p)
      while_good zero mask expr body m e more p has =
          choice_good mask expr p Wants (Fine p) m e has GoodWant (GoodFine has)
      while_good (suc n) mask expr body m e more p has =
          choice_good mask expr p (then_do (while_turns ways n mask expr body) (body p)) (Fine p)
          m e has
          (then_good (body p) (while_turns ways n mask expr body) (more p has)
          (λ q has. while_good n mask expr body m e more q has)) (GoodFine has)

      repeat_good : (n : ℕ) (mask : Option ℕ) (until : ℕ) (body : P → Told P) → IfSome mask E
          → E until → ((p : P) → Inv p → ToldGood (body p)) → (p : P) → Inv p
          → ToldGood (repeat_turns ways n mask until body p)
      repeat_good zero mask until body m e more p has = mask_good mask p Wants m has GoodWant
      repeat_good (suc n) mask until body m e more p has =
          mask_good mask p _ m has (then_good (body p)
          (until_done ways (repeat_turns ways n mask until body) until) (more p has)
          (λ q has. value_good q (ways.value q until) _ has (values until e q has)
          (λ v. if_good (is_true v) (Fine q) _ (GoodFine has)
          (repeat_good n mask until body m e more q has))))

      pub nested_good : (n : ℕ) (nest : Nest) → NestOf nest → (p : P) → Inv p
          → ToldGood (nested ways n nest p)
      nested_good n Nothing is p has = GoodFine has
      nested_good n (Putting array expr mask line after) is p has =
          then_good (leaf_does ways expr mask (ways.put array) p) (nested ways n after)
          (leaf_good (PutLeaf array) expr mask p is.0 is.1 is.2 has) (nested_good n after is.3)
      nested_good n (Keeping cell expr mask line after) is p has =
          then_good (leaf_does ways expr mask (ways.keep cell) p) (nested ways n after)
          (leaf_good (KeepLeaf cell) expr mask p is.0 is.1 is.2 has) (nested_good n after is.3)
      nested_good n (Joining scalar fold expr mask line after) is p has =
          then_good (leaf_does ways expr mask (ways.join scalar fold) p) (nested ways n after)
          (leaf_good (JoinLeaf scalar fold) expr mask p is.0 is.1 is.2 has)
          (nested_good n after is.3)
      nested_good n (Choosing expr mask line body after) is p has =
          then_good _ (nested ways n after) (choice_good mask expr p (nested ways n body p)
          (Fine p) is.0 is.1 has (nested_good n body is.2 p has) (GoodFine has))
          (nested_good n after is.3)
      nested_good n (ChoosingElse expr mask line body otherwise after) is p has =
          then_good _ (nested ways n after) (choice_good mask expr p (nested ways n body p)
          (nested ways n otherwise p) is.0 is.1 has (nested_good n body is.2 p has)
          (nested_good n otherwise is.3 p has)) (nested_good n after is.4)
      nested_good n (Looping expr mask line body after) is p has =
          then_good (while_turns ways n mask expr (nested ways n body) p) (nested ways n after)
          (while_good n mask expr (nested ways n body) is.0 is.1 (nested_good n body is.2) p has)
          (nested_good n after is.3)
      nested_good n (Repeating mask line body until after) is p has =
          then_good (repeat_turns ways n mask until (nested ways n body) p) (nested ways n after)
          (repeat_good n mask until (nested ways n body) is.0 is.1 (nested_good n body is.2) p has)
          (nested_good n after is.3)
