-- Members that a tree is spelled as, and where they stand.
use Rattle.std.proofs.Common.{◌≡◌, refl, sym, ◌∙◌, ap, ap₂, ℕ, zero, suc, ◌+◌, ◌*◌, ◌<◌, ◌≤◌}
use Rattle.std.proofs.Common.{◌^◌, List, []}
use Rattle.std.proofs.Common.{◌∷◌, ◌++◌, drop, arith, append_assoc}
use Rattle.std.proofs.Math.Nat.{one-le-mul, pow-succ', pow-zero}
use Rattle.std.proofs.lemmas.Nat.{pow-add}
use Rattle.std.specs.Prelude.{take}
use Rattle.node_form.specs.declared.members.Member.{Member}
use Rattle.node_form.specs.declared.members.Member.TheVariants.{Put, Cell, Acc, OpenIf, Otherwise}
use Rattle.node_form.specs.declared.members.Member.TheVariants.{CloseIf}
use Rattle.node_form.specs.declared.members.Member.TheVariants.{OpenWhile, CloseWhile, OpenRepeat}
use Rattle.node_form.specs.declared.members.Member.TheVariants.{Until}
use Rattle.node_form.specs.Nest.{Nest, Nothing, Putting, Keeping, Joining, Choosing, ChoosingElse}
use Rattle.node_form.specs.Nest.{Looping, Repeating, members_of}
use Rattle.node_form.specs.Group.{open_numbers, open_from, open_before}
use Rattle.nest_meaning.specs.Turns.{past, loops_in}

-- the members that a tree is spelled as, and others behind them
abbrev pub spelled : Nest → List Member → List Member
spelled Nothing rest = rest
spelled (Putting array expr mask line after) rest = Put array expr mask line ∷ spelled after rest
spelled (Keeping cell expr mask line after) rest = Cell cell expr mask line ∷ spelled after rest
spelled (Joining scalar fold expr mask line after) rest =
    Acc scalar fold expr mask line ∷ spelled after rest
spelled (Choosing expr mask line body after) rest =
    OpenIf expr mask line ∷ spelled body (CloseIf ∷ spelled after rest)
spelled (ChoosingElse expr mask line body otherwise after) rest =
    OpenIf expr mask line ∷ spelled body
    (Otherwise ∷ spelled otherwise (CloseIf ∷ spelled after rest))
spelled (Looping expr mask line body after) rest =
    OpenWhile expr mask line ∷ spelled body (CloseWhile ∷ spelled after rest)
spelled (Repeating mask line body until after) rest =
    OpenRepeat mask line ∷ spelled body (Until until ∷ spelled after rest)

-- a bound on its turns where each loop makes up to n
abbrev pub weight : ℕ → Nest → ℕ
weight n Nothing = 1
weight n (Putting array expr mask line after) = weight n after
weight n (Keeping cell expr mask line after) = weight n after
weight n (Joining scalar fold expr mask line after) = weight n after
weight n (Choosing expr mask line body after) = weight n body * weight n after
weight n (ChoosingElse expr mask line body otherwise after) =
    weight n body * weight n otherwise * weight n after
weight n (Looping expr mask line body after) = suc n * weight n body * weight n after
weight n (Repeating mask line body until after) = suc n * weight n body * weight n after

-- a member's number: the members from there on, and those that are open
pub record IsAt (all : List Member) (number : ℕ) (members : List Member)
    (opens : List ℕ) : Type 0 where
  pub ahead : drop number all ≡ members
  pub open_there : open_before all number ≡ opens

-- ---- where a member stands
pub drop_next : {X : Type 0} (n : ℕ) (xs : List X) (x : X) (rest : List X) → drop n xs ≡ x ∷ rest
    → drop (n + 1) xs ≡ rest
drop_next zero [] x rest e = cc
drop_next zero (y ∷ xs) x rest e =
    let more : xs ≡ rest = cc in
    more
drop_next (suc n) [] x rest e = cc
drop_next (suc n) (y ∷ xs) x rest e =
    let next : suc n + 1 ≡ suc (n + 1) = omega arith in
    ap (λ k. drop k (y ∷ xs)) next ∙ drop_next n xs x rest e

open_next : (n start : ℕ) (opens : List ℕ) (xs : List Member) (x : Member) (rest : List Member)
    → drop n xs ≡ x ∷ rest
    → open_from start opens (take (n + 1) xs)
    ≡ open_numbers (start + n) (open_from start opens (take n xs)) x
open_next zero start opens [] x rest e = cc
open_next zero start opens (y ∷ xs) x rest e =
    let same : y ≡ x = cc in
    let here : start ≡ start + 0 = omega arith in
    ap (open_numbers start opens) same ∙ ap (λ k. open_numbers k opens x) here
open_next (suc n) start opens [] x rest e = cc
open_next (suc n) start opens (y ∷ xs) x rest e =
    let next : suc n + 1 ≡ suc (n + 1) = omega arith in
    let there : start + 1 + n ≡ start + suc n = omega arith in
    ap (λ k. open_from start opens (take k (y ∷ xs))) next
    ∙ (open_next n (start + 1) (open_numbers start opens y) xs x rest e
    ∙ ap (λ k. open_numbers k (open_from (start + 1) (open_numbers start opens y) (take n xs)) x)
    there)

pub next_at : (all : List Member) (number : ℕ) (member : Member) (rest : List Member)
    (opens : List ℕ) → IsAt all number (member ∷ rest) opens
    → IsAt all (number + 1) rest (open_numbers number opens member)
next_at all number member rest opens at = record {
  ahead = drop_next number all member rest at.ahead;
  open_there =
      let here : 0 + number ≡ number = omega arith in
      open_next number 0 [] all member rest at.ahead
      ∙ (ap (λ k. open_numbers k (open_before all number) member) here
      ∙ ap (λ o. open_numbers number o member) at.open_there);
}

pub past_at : (all : List Member) (nest : Nest) (number : ℕ) (rest : List Member) (opens : List ℕ)
    → IsAt all number (spelled nest rest) opens
    → IsAt all (past nest number) rest opens
past_at all Nothing number rest opens at = at
past_at all (Putting array expr mask line after) number rest opens at =
    past_at all after (number + 1) rest opens (next_at all number _ _ opens at)
past_at all (Keeping cell expr mask line after) number rest opens at =
    past_at all after (number + 1) rest opens (next_at all number _ _ opens at)
past_at all (Joining scalar fold expr mask line after) number rest opens at =
    past_at all after (number + 1) rest opens (next_at all number _ _ opens at)
past_at all (Choosing expr mask line body after) number rest opens at =
    past_at all after (past body (number + 1) + 1) rest opens
    (next_at all (past body (number + 1)) _ _ (number ∷ opens)
    (past_at all body (number + 1) _ (number ∷ opens) (next_at all number _ _ opens at)))
past_at all (ChoosingElse expr mask line body otherwise after) number rest opens at =
    past_at all after (past otherwise (past body (number + 1) + 1) + 1) rest opens
    (next_at all (past otherwise (past body (number + 1) + 1)) _ _ (number ∷ opens)
    (past_at all otherwise (past body (number + 1) + 1) _ (number ∷ opens)
    (next_at all (past body (number + 1)) _ _ (number ∷ opens)
    (past_at all body (number + 1) _ (number ∷ opens) (next_at all number _ _ opens at)))))
past_at all (Looping expr mask line body after) number rest opens at =
    past_at all after (past body (number + 1) + 1) rest opens
    (next_at all (past body (number + 1)) _ _ (number ∷ opens)
    (past_at all body (number + 1) _ (number ∷ opens) (next_at all number _ _ opens at)))
past_at all (Repeating mask line body until after) number rest opens at =
    past_at all after (past body (number + 1) + 1) rest opens
    (next_at all (past body (number + 1)) _ _ (number ∷ opens)
    (past_at all body (number + 1) _ (number ∷ opens) (next_at all number _ _ opens at)))

-- ---- bounds
pub positive : (n : ℕ) (nest : Nest) → 0 < weight n nest
positive n Nothing = omega arith
positive n (Putting array expr mask line after) = positive n after
positive n (Keeping cell expr mask line after) = positive n after
positive n (Joining scalar fold expr mask line after) = positive n after
positive n (Choosing expr mask line body after) = one-le-mul (positive n body) (positive n after)
positive n (ChoosingElse expr mask line body otherwise after) =
    one-le-mul (one-le-mul (positive n body) (positive n otherwise)) (positive n after)
positive n (Looping expr mask line body after) =
    one-le-mul (one-le-mul (let e : 1 ≤ suc n = omega arith in e) (positive n body))
    (positive n after)
positive n (Repeating mask line body until after) =
    one-le-mul (one-le-mul (let e : 1 ≤ suc n = omega arith in e) (positive n body))
    (positive n after)

-- ---- members, and numbers
pub spelled_is : (nest : Nest) (rest : List Member) → spelled nest rest ≡ members_of nest ++ rest
spelled_is Nothing rest = refl
spelled_is (Putting array expr mask line after) rest =
    ap (λ l. Put array expr mask line ∷ l) (spelled_is after rest)
spelled_is (Keeping cell expr mask line after) rest =
    ap (λ l. Cell cell expr mask line ∷ l) (spelled_is after rest)
spelled_is (Joining scalar fold expr mask line after) rest =
    ap (λ l. Acc scalar fold expr mask line ∷ l) (spelled_is after rest)
spelled_is (Choosing expr mask line body after) rest =
    ap (λ l. OpenIf expr mask line ∷ l)
    (held body after CloseIf rest (spelled_is body) (spelled_is after))
  where
    held : (body after : Nest) (closing : Member) (rest : List Member)
        → ((rest : List Member) → spelled body rest ≡ members_of body ++ rest)
        → ((rest : List Member) → spelled after rest ≡ members_of after ++ rest)
        → spelled body (closing ∷ spelled after rest)
        ≡ (members_of body ++ closing ∷ members_of after) ++ rest
    held body after closing rest one two =
        one (closing ∷ spelled after rest)
        ∙ (ap (λ l. members_of body ++ closing ∷ l) (two rest)
        ∙ sym (append_assoc (members_of body) (closing ∷ members_of after) rest))
spelled_is (ChoosingElse expr mask line body otherwise after) rest =
    ap (λ l. OpenIf expr mask line ∷ l)
    (spelled_is body (Otherwise ∷ spelled otherwise (CloseIf ∷ spelled after rest))
    ∙ (ap (λ l. members_of body ++ Otherwise ∷ l)
    (spelled_is otherwise (CloseIf ∷ spelled after rest)
    ∙ (ap (λ l. members_of otherwise ++ CloseIf ∷ l) (spelled_is after rest)
    ∙ sym (append_assoc (members_of otherwise) (CloseIf ∷ members_of after) rest)))
    ∙ sym (append_assoc (members_of body)
    (Otherwise ∷ (members_of otherwise ++ CloseIf ∷ members_of after)) rest)))
spelled_is (Looping expr mask line body after) rest =
    ap (λ l. OpenWhile expr mask line ∷ l)
    (spelled_is body (CloseWhile ∷ spelled after rest)
    ∙ (ap (λ l. members_of body ++ CloseWhile ∷ l) (spelled_is after rest)
    ∙ sym (append_assoc (members_of body) (CloseWhile ∷ members_of after) rest)))
spelled_is (Repeating mask line body until after) rest =
    ap (λ l. OpenRepeat mask line ∷ l)
    (spelled_is body (Until until ∷ spelled after rest)
    ∙ (ap (λ l. members_of body ++ Until until ∷ l) (spelled_is after rest)
    ∙ sym (append_assoc (members_of body) (Until until ∷ members_of after) rest)))

pub weight_is : (n : ℕ) (nest : Nest) → weight n nest ≡ suc n ^ loops_in nest
weight_is n Nothing = sym (pow-zero (suc n))
weight_is n (Putting array expr mask line after) = weight_is n after
weight_is n (Keeping cell expr mask line after) = weight_is n after
weight_is n (Joining scalar fold expr mask line after) = weight_is n after
weight_is n (Choosing expr mask line body after) =
    ap₂ (λ x y. x * y) (weight_is n body) (weight_is n after)
    ∙ sym (pow-add (suc n) (loops_in body) (loops_in after))
weight_is n (ChoosingElse expr mask line body otherwise after) =
    ap₂ (λ x y. x * y)
    (ap₂ (λ x y. x * y) (weight_is n body) (weight_is n otherwise)
    ∙ sym (pow-add (suc n) (loops_in body) (loops_in otherwise))) (weight_is n after)
    ∙ sym (pow-add (suc n) (loops_in body + loops_in otherwise) (loops_in after))
weight_is n (Looping expr mask line body after) =
    ap₂ (λ x y. x * y)
    (ap (λ x. suc n * x) (weight_is n body) ∙ sym (pow-succ' (suc n) (loops_in body)))
    (weight_is n after)
    ∙ sym (pow-add (suc n) (suc (loops_in body)) (loops_in after))
weight_is n (Repeating mask line body until after) =
    ap₂ (λ x y. x * y)
    (ap (λ x. suc n * x) (weight_is n body) ∙ sym (pow-succ' (suc n) (loops_in body)))
    (weight_is n after)
    ∙ sym (pow-add (suc n) (suc (loops_in body)) (loops_in after))
