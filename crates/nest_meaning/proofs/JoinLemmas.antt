-- A tree with another one behind it; and trees without loops.
use Rattle.std.proofs.Common.{◌≡◌, refl, sym, ap, ◌∙◌, ℕ, Bool, true, false, List}
use Rattle.std.proofs.Common.{◌∷◌, ◌++◌, append_assoc, arith, ℤ, Option, Some, None}
use Rattle.std.specs.Prelude.{if◌then◌else◌}
use Rattle.node_form.specs.of_zpl_nums.Integer.{is_true}
use Rattle.node_form.specs.declared.members.Member.{Member}
use Rattle.node_form.specs.declared.members.Member.TheVariants.{Put, Cell, Acc, OpenIf, Otherwise}
use Rattle.node_form.specs.declared.members.Member.TheVariants.{CloseIf}
use Rattle.node_form.specs.declared.members.Member.TheVariants.{OpenWhile, CloseWhile, OpenRepeat}
use Rattle.node_form.specs.declared.members.Member.TheVariants.{Until}
use Rattle.node_form.specs.Nest.{Nothing, Putting, Keeping, Joining, Choosing, ChoosingElse}
use Rattle.node_form.specs.Nest.{Looping, Repeating, members_of}
use Rattle.node_form.specs.Value.{Computed, Gives, Divides, Lacks}
use Rattle.nest_meaning.specs.Nested.{Ways, Told, Fine, Zero, Wants, Lost, then_do, with_value}
use Rattle.nest_meaning.specs.Nested.{with_state}
use Rattle.nest_meaning.specs.Nested.{masked, leaf_does, nested}
use Rattle.nest_meaning.specs.Turns.{loops_in}
use Rattle.nest_meaning.specs.Laws.{DoBoth, JoinMembers, JoinUnits, WantNothing}

module _ {P : Type 0} (ways : Ways P) where
  then_both : (told : Told P) (f g h : P → Told P) → ((p : P) → h p ≡ then_do g (f p))
      → then_do h told ≡ then_do g (then_do f told)
  then_both (Fine p) f g h same = same p
  then_both (Zero p) f g h same = refl
  then_both Wants f g h same = refl
  then_both Lost f g h same = refl

  pub do_both : DoBoth ways
  do_both n Nothing second p = refl
  do_both n (Putting array expr mask line after) second p =
      then_both _ (nested ways n after) (nested ways n second) _ (do_both n after second)
  do_both n (Keeping cell expr mask line after) second p =
      then_both _ (nested ways n after) (nested ways n second) _ (do_both n after second)
  do_both n (Joining scalar fold expr mask line after) second p =
      then_both _ (nested ways n after) (nested ways n second) _ (do_both n after second)
  do_both n (Choosing expr mask line body after) second p =
      then_both _ (nested ways n after) (nested ways n second) _ (do_both n after second)
  do_both n (ChoosingElse expr mask line body otherwise after) second p =
      then_both _ (nested ways n after) (nested ways n second) _ (do_both n after second)
  do_both n (Looping expr mask line body after) second p =
      then_both _ (nested ways n after) (nested ways n second) _ (do_both n after second)
  do_both n (Repeating mask line body until after) second p =
      then_both _ (nested ways n after) (nested ways n second) _ (do_both n after second)

  -- ---- without loops
  abbrev IsMore : Told P → Type 0
  IsMore told = told ≡ Wants

  then_not : (told : Told P) (f : P → Told P) → (IsMore told → ⊥) → ((p : P) → IsMore (f p) → ⊥)
      → IsMore (then_do f told) → ⊥
  then_not (Fine p) f first next e = next p e
  then_not (Zero p) f first next e = first e
  then_not Wants f first next e = first refl
  then_not Lost f first next e = first e

  value_not : (p : P) (x : Computed ℤ) (f : ℤ → Told P) → ((v : ℤ) → IsMore (f v) → ⊥)
      → IsMore (with_value p x f) → ⊥
  value_not p (Gives v) f next e = next v e
  value_not p Divides f next e = cc
  value_not p Lacks f next e = cc

  if_not : (b : Bool) (s t : Told P) → (IsMore s → ⊥) → (IsMore t → ⊥)
      → IsMore (if b then s else t) → ⊥
  if_not true s t one other e = one e
  if_not false s t one other e = other e

  fine_not : (p : P) → IsMore (Fine p) → ⊥
  fine_not p e = cc

  mask_not : (mask : Option ℕ) (p : P) (told : Told P) → (IsMore told → ⊥)
      → IsMore (masked ways mask p told) → ⊥
  mask_not None p told first e = first e
  mask_not (Some mask) p told first e =
      value_not p (ways.value p mask) _ (λ v. if_not (is_true v) told (Fine p) first (fine_not p)) e

  state_not : (s : Option P) → IsMore (with_state s) → ⊥
  state_not (Some p) e = cc
  state_not None e = cc

  leaf_not : (expr : ℕ) (mask : Option ℕ) (way : ℤ → P → Option P) (p : P)
      → IsMore (leaf_does ways expr mask way p) → ⊥
  leaf_not expr mask way p e =
      mask_not mask p _ (value_not p (ways.value p expr) _ (λ v. state_not (way v p))) e

  choice_not : (expr : ℕ) (mask : Option ℕ) (p : P) (s t : Told P) → (IsMore s → ⊥) → (IsMore t → ⊥)
      → IsMore (masked ways mask p
      (with_value p (ways.value p expr) (λ v. if is_true v then s else t)))
      → ⊥
  choice_not expr mask p s t one other e =
      mask_not mask p _
      (value_not p (ways.value p expr) _ (λ v. if_not (is_true v) s t one other)) e

  pub want_nothing : WantNothing ways
  want_nothing n Nothing p none e = cc
  want_nothing n (Putting array expr mask line after) p none e =
      then_not _ (nested ways n after) (leaf_not expr mask (ways.put array) p)
      (λ q. want_nothing n after q none) e
  want_nothing n (Keeping cell expr mask line after) p none e =
      then_not _ (nested ways n after) (leaf_not expr mask (ways.keep cell) p)
      (λ q. want_nothing n after q none) e
  want_nothing n (Joining scalar fold expr mask line after) p none e =
      then_not _ (nested ways n after) (leaf_not expr mask (ways.join scalar fold) p)
      (λ q. want_nothing n after q none) e
  want_nothing n (Choosing expr mask line body after) p none e =
      let one : loops_in body ≡ 0 = omega (arith, none) in
      let two : loops_in after ≡ 0 = omega (arith, none) in
      then_not _ (nested ways n after)
      (choice_not expr mask p (nested ways n body p) (Fine p) (want_nothing n body p one)
      (fine_not p))
      (λ q. want_nothing n after q two) e
  want_nothing n (ChoosingElse expr mask line body otherwise after) p none e =
      let one : loops_in body ≡ 0 = omega (arith, none) in
      let other : loops_in otherwise ≡ 0 = omega (arith, none) in
      let two : loops_in after ≡ 0 = omega (arith, none) in
      then_not _ (nested ways n after)
      (choice_not expr mask p (nested ways n body p) (nested ways n otherwise p)
      (want_nothing n body p one) (want_nothing n otherwise p other))
      (λ q. want_nothing n after q two) e
  want_nothing n (Looping expr mask line body after) p none e = absurd (omega (arith, none))
  want_nothing n (Repeating mask line body until after) p none e = absurd (omega (arith, none))

-- ---- members and units
enclosed_join : (opening closing : Member) (body after second : List Member)
    → opening ∷ (body ++ closing ∷ (after ++ second))
    ≡ (opening ∷ (body ++ closing ∷ after)) ++ second
enclosed_join opening closing body after second =
    ap (λ l. opening ∷ l) (sym (append_assoc body (closing ∷ after) second))

pub join_members : JoinMembers
join_members Nothing second = refl
join_members (Putting array expr mask line after) second =
    ap (λ l. Put array expr mask line ∷ l) (join_members after second)
join_members (Keeping cell expr mask line after) second =
    ap (λ l. Cell cell expr mask line ∷ l) (join_members after second)
join_members (Joining scalar fold expr mask line after) second =
    ap (λ l. Acc scalar fold expr mask line ∷ l) (join_members after second)
join_members (Choosing expr mask line body after) second =
    ap (λ l. OpenIf expr mask line ∷ (members_of body ++ CloseIf ∷ l)) (join_members after second)
    ∙ enclosed_join (OpenIf expr mask line) CloseIf (members_of body) (members_of after)
    (members_of second)
join_members (ChoosingElse expr mask line body otherwise after) second =
    ap (λ l. OpenIf expr mask line
    ∷ (members_of body ++ Otherwise ∷ (members_of otherwise ++ CloseIf ∷ l)))
    (join_members after second)
    ∙ (ap (λ l. OpenIf expr mask line ∷ (members_of body ++ l))
    (enclosed_join Otherwise CloseIf (members_of otherwise) (members_of after) (members_of second))
    ∙ ap (λ l. OpenIf expr mask line ∷ l)
    (sym (append_assoc (members_of body)
    (Otherwise ∷ (members_of otherwise ++ CloseIf ∷ members_of after)) (members_of second))))
join_members (Looping expr mask line body after) second =
    ap (λ l. OpenWhile expr mask line ∷ (members_of body ++ CloseWhile ∷ l))
    (join_members after second)
    ∙ enclosed_join (OpenWhile expr mask line) CloseWhile (members_of body) (members_of after)
    (members_of second)
join_members (Repeating mask line body until after) second =
    ap (λ l. OpenRepeat mask line ∷ (members_of body ++ Until until ∷ l))
    (join_members after second)
    ∙ enclosed_join (OpenRepeat mask line) (Until until) (members_of body) (members_of after)
    (members_of second)

pub join_units : JoinUnits
join_units Nothing second = refl
join_units (Putting array expr mask line after) second =
    ap (λ l. Putting array expr mask line Nothing ∷ l) (join_units after second)
join_units (Keeping cell expr mask line after) second =
    ap (λ l. Keeping cell expr mask line Nothing ∷ l) (join_units after second)
join_units (Joining scalar fold expr mask line after) second =
    ap (λ l. Joining scalar fold expr mask line Nothing ∷ l) (join_units after second)
join_units (Choosing expr mask line body after) second =
    ap (λ l. Choosing expr mask line body Nothing ∷ l) (join_units after second)
join_units (ChoosingElse expr mask line body otherwise after) second =
    ap (λ l. ChoosingElse expr mask line body otherwise Nothing ∷ l) (join_units after second)
join_units (Looping expr mask line body after) second =
    ap (λ l. Looping expr mask line body Nothing ∷ l) (join_units after second)
join_units (Repeating mask line body until after) second =
    ap (λ l. Repeating mask line body until Nothing ∷ l) (join_units after second)
