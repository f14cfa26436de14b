-- Greater bounds on loops.
use Rattle.std.proofs.Common.{ℕ, zero, suc, ◌≤◌, Bool, true, false, Option, Some, None, ℤ, arith}
use Rattle.std.specs.Prelude.{if◌then◌else◌}
use Rattle.node_form.specs.of_zpl_nums.Integer.{is_true}
use Rattle.node_form.specs.Nest.{Nothing, Putting, Keeping, Joining, Choosing, ChoosingElse}
use Rattle.node_form.specs.Nest.{Looping, Repeating}
use Rattle.node_form.specs.Value.{Computed, Gives, Divides, Lacks}
use Rattle.nest_meaning.specs.Nested.{Ways, Told, Fine, Zero, Wants, Lost, then_do, with_value}
use Rattle.nest_meaning.specs.Nested.{masked}
use Rattle.nest_meaning.specs.Nested.{while_turns, until_done, repeat_turns, nested}
use Rattle.nest_meaning.specs.Laws.{IsUpTo, TheSame, Beyond, Grow}

module _ {P : Type 0} (ways : Ways P) where
  abbrev Most : Told P → Told P → Type 0
  Most = IsUpTo Wants

  then_most : (s t : Told P) (f g : P → Told P) → Most s t → ((p : P) → Most (f p) (g p))
      → Most (then_do f s) (then_do g t)
  then_most s t f g (TheSame {x = x}) more = by x
    where
      by : (x : Told P) → Most (then_do f x) (then_do g x)
      by (Fine p) = more p
      by (Zero p) = TheSame
      by Wants = TheSame
      by Lost = TheSame
  then_most s t f g Beyond more = Beyond

  value_most : (p : P) (x : Computed ℤ) (f g : ℤ → Told P) → ((v : ℤ) → Most (f v) (g v))
      → Most (with_value p x f) (with_value p x g)
  value_most p (Gives v) f g more = more v
  value_most p Divides f g more = TheSame
  value_most p Lacks f g more = TheSame

  if_most : (b : Bool) (s t u w : Told P) → Most s t → Most u w
      → Most (if b then s else u) (if b then t else w)
  if_most true s t u w one other = one
  if_most false s t u w one other = other

  mask_most : (mask : Option ℕ) (p : P) (s t : Told P) → Most s t
      → Most (masked ways mask p s) (masked ways mask p t)
  mask_most None p s t more = more
  mask_most (Some mask) p s t more =
      value_most p (ways.value p mask) _ _
      (λ v. if_most (is_true v) s t (Fine p) (Fine p) more TheSame)

  -- a choice by an expression, behind a mask
  choice_most : (mask : Option ℕ) (expr : ℕ) (p : P) (s t u w : Told P) → Most s t → Most u w
      → Most (masked ways mask p
      (with_value p (ways.value p expr) (λ v. if is_true v then s else u)))
      (masked ways mask p (with_value p (ways.value p expr) (λ v. if is_true v then t else w)))
  choice_most mask expr p s t u w one other =
      mask_most mask p _ _
      (value_most p (ways.value p expr) _ _ (λ v. if_most (is_true v) s t u w one other))

  while_most : (n m : ℕ) → n ≤ m → (mask : Option ℕ) (expr : ℕ) (f g : P → Told P)
      → ((p : P) → Most (f p) (g p)) → (p : P)
      → Most (while_turns ways n mask expr f p) (while_turns ways m mask expr g p)
  while_most zero zero less mask expr f g body p = TheSame
  while_most zero (suc m) less mask expr f g body p =
      choice_most mask expr p Wants _ (Fine p) (Fine p) Beyond TheSame
  while_most (suc n) zero less mask expr f g body p = absurd (omega (arith, less))
  while_most (suc n) (suc m) less mask expr f g body p =
      choice_most mask expr p _ _ (Fine p) (Fine p)
      (then_most (f p) (g p) (while_turns ways n mask expr f) (while_turns ways m mask expr g)
      (body p)
      (λ q. while_most n m (omega (arith, less)) mask expr f g body q)) TheSame

  repeat_most : (n m : ℕ) → n ≤ m → (mask : Option ℕ) (until : ℕ) (f g : P → Told P)
      → ((p : P) → Most (f p) (g p)) → (p : P)
      → Most (repeat_turns ways n mask until f p) (repeat_turns ways m mask until g p)
  repeat_most zero zero less mask until f g body p = TheSame
  repeat_most zero (suc m) less mask until f g body p = mask_most mask p Wants _ Beyond
  repeat_most (suc n) zero less mask until f g body p = absurd (omega (arith, less))
  repeat_most (suc n) (suc m) less mask until f g body p =
      mask_most mask p _ _
      (then_most (f p) (g p) (until_done ways (repeat_turns ways n mask until f) until)
      (until_done ways (repeat_turns ways m mask until g) until) (body p)
      (λ q. value_most q (ways.value q until) _ _
      (λ v. if_most (is_true v) (Fine q) (Fine q) _ _ TheSame
      (repeat_most n m (omega (arith, less)) mask until f g body q))))

  pub grow : Grow ways
  grow n m less Nothing p = TheSame
  grow n m less (Putting array expr mask line after) p =
      then_most _ _ (nested ways n after) (nested ways m after) TheSame (grow n m less after)
  grow n m less (Keeping cell expr mask line after) p =
      then_most _ _ (nested ways n after) (nested ways m after) TheSame (grow n m less after)
  grow n m less (Joining scalar fold expr mask line after) p =
      then_most _ _ (nested ways n after) (nested ways m after) TheSame (grow n m less after)
  grow n m less (Choosing expr mask line body after) p =
      then_most _ _ (nested ways n after) (nested ways m after)
      (choice_most mask expr p (nested ways n body p) (nested ways m body p) (Fine p) (Fine p)
      (grow n m less body p) TheSame) (grow n m less after)
  grow n m less (ChoosingElse expr mask line body otherwise after) p =
      then_most _ _ (nested ways n after) (nested ways m after)
      (choice_most mask expr p (nested ways n body p) (nested ways m body p)
      (nested ways n otherwise p)
      (nested ways m otherwise p) (grow n m less body p) (grow n m less otherwise p))
      (grow n m less after)
  grow n m less (Looping expr mask line body after) p =
      then_most _ _ (nested ways n after) (nested ways m after)
      (while_most n m less mask expr (nested ways n body) (nested ways m body)
      (grow n m less body) p)
      (grow n m less after)
  grow n m less (Repeating mask line body until after) p =
      then_most _ _ (nested ways n after) (nested ways m after)
      (repeat_most n m less mask until (nested ways n body) (nested ways m body)
      (grow n m less body) p)
      (grow n m less after)
