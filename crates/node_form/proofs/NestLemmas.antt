-- How members open and close.
use Rattle.std.proofs.Common.{◌≡◌, ℕ, zero, suc, ◌+◌, ◌<◌, ◌≤◌, ◌↔◌, ◌⊎◌, inl, inr, List, [], ◌∷◌, ◌++◌, length, take, drop, get_or, refl, sym, ap, ◌∙◌, subst, arith, append_assoc, append-nil, ControlFlow, Continue, Break}
use Rattle.std.specs.Prelude.{Bool, true, false, Option, Some, None, is_some, is_none, slice_get, option_and_then}
use Rattle.std.proofs.Math.Seq.{drop-cons}
use Rattle.std.proofs.lemmas.List.{take_all, take-append-drop}
use Rattle.std.specs.ControlFlow.{MatchControlFlow}
use Rattle.node_form.specs.declared.members.Member.{Member}
use Rattle.node_form.specs.declared.members.Member.TheVariants.{Put, Cell, Acc, OpenIf, Otherwise, CloseIf, OpenWhile, CloseWhile, OpenRepeat, Until}
use Rattle.node_form.specs.declared.nests.Opening.{Opening}
use Rattle.node_form.specs.declared.nests.Opening.TheVariants.{If, Else, While, Repeat}
use Rattle.node_form.specs.Nest.{is_closing, may_follow, Nest, Nothing, Putting, Keeping, Joining, Choosing, ChoosingElse, Looping, Repeating, members_of, IsNest, else_begun, if_closed, while_closed, repeat_closed, open_behind, opened, found, else_found, back_over}

-- ---- members one after another
pub opened-append : (openings : List Opening) (front rest : List Member) → opened openings (front ++ rest) ≡ option_and_then (λ next. opened next rest) (opened openings front)
opened-append openings [] rest = refl
opened-append openings (member ∷ front) rest =
    elim (open_behind openings member) as (λ o. option_and_then (λ next. opened next (front ++ rest)) o ≡ option_and_then (λ next. opened next rest) (option_and_then (λ next. opened next front) o)) [
      | None ↦ refl
      | Some next ↦ opened-append next front rest
    ]

take_one_more : (members : List Member) (k : ℕ) (d : Member) → k < length members → take (suc k) members ≡ take k members ++ get_or members k d ∷ []
take_one_more [] k d inside = absurd (omega arith)
take_one_more (member ∷ members) zero d inside = refl
take_one_more (member ∷ members) (suc k) d inside = ap (λ ms. member ∷ ms) (take_one_more members k d (omega arith))

and_then-Some : (o : Option (List Opening)) → option_and_then (λ next. Some next) o ≡ o
and_then-Some None = refl
and_then-Some (Some x) = refl

-- one member more
pub opened-take : (members : List Member) (k : ℕ) (d : Member) → k < length members → opened [] (take (suc k) members) ≡ option_and_then (λ next. open_behind next (get_or members k d)) (opened [] (take k members))
opened-take members k d inside =
    ap (opened []) (take_one_more members k d inside) ∙ (opened-append [] (take k members) (get_or members k d ∷ []) ∙ elim (opened [] (take k members)) as (λ o. option_and_then (λ next. opened next (get_or members k d ∷ [])) o ≡ option_and_then (λ next. open_behind next (get_or members k d)) o) [
      | None ↦ refl
      | Some next ↦ and_then-Some (open_behind next (get_or members k d))
    ])

split : (o : Option (List Opening)) (member : Member) (after : List Opening) → option_and_then (λ next. open_behind next member) o ≡ Some after → (before : List Opening) × (o ≡ Some before) × (open_behind before member ≡ Some after)
split None member after e = cc
split (Some before) member after e = (before, refl, e)

-- ---- one step back
abbrev Finds : List Opening → List Opening → ℕ → ControlFlow Opening ℕ → Type 0
Finds before after depth flow = MatchControlFlow flow (λ next. slice_get after depth ≡ slice_get before next) (λ opening. slice_get after depth ≡ Some opening)

found-Finds : (opening : Opening) (before : List Opening) (depth : ℕ) → Finds before (opening ∷ before) depth (found opening depth)
found-Finds opening before zero = refl
found-Finds opening before (suc depth) = refl

closed-Finds : (opening : Opening) (after : List Opening) (depth : ℕ) → slice_get after depth ≡ slice_get (opening ∷ after) (depth + 1)
closed-Finds opening after depth = let e : depth + 1 ≡ suc depth = omega arith in rw e refl

back_over-Finds : (member : Member) (depth : ℕ) (before after : List Opening) → open_behind before member ≡ Some after → Finds before after depth (back_over member depth)
back_over-Finds (Put array expr mask line) depth before after e = let is : before ≡ after = cc in ap (λ o. slice_get o depth) (sym is)
back_over-Finds (Cell cell expr mask line) depth before after e = let is : before ≡ after = cc in ap (λ o. slice_get o depth) (sym is)
back_over-Finds (Acc scalar fold expr mask line) depth before after e = let is : before ≡ after = cc in ap (λ o. slice_get o depth) (sym is)
back_over-Finds (OpenIf expr mask line) depth before after e = let is : If ∷ before ≡ after = cc in subst (λ o. Finds before o depth (found If depth)) is (found-Finds If before depth)
back_over-Finds Otherwise zero [] after e = cc
back_over-Finds Otherwise zero (If ∷ before) after e = let is : Else ∷ before ≡ after = cc in ap (λ o. slice_get o 0) (sym is)
back_over-Finds Otherwise zero (Else ∷ before) after e = cc
back_over-Finds Otherwise zero (While ∷ before) after e = cc
back_over-Finds Otherwise zero (Repeat ∷ before) after e = cc
back_over-Finds Otherwise (suc depth) [] after e = cc
back_over-Finds Otherwise (suc depth) (If ∷ before) after e = let is : Else ∷ before ≡ after = cc in ap (λ o. slice_get o (suc depth)) (sym is)
back_over-Finds Otherwise (suc depth) (Else ∷ before) after e = cc
back_over-Finds Otherwise (suc depth) (While ∷ before) after e = cc
back_over-Finds Otherwise (suc depth) (Repeat ∷ before) after e = cc
back_over-Finds CloseIf depth [] after e = cc
back_over-Finds CloseIf depth (If ∷ before) after e = let is : before ≡ after = cc in subst (λ o. slice_get o depth ≡ slice_get (If ∷ before) (depth + 1)) is (closed-Finds If before depth)
back_over-Finds CloseIf depth (Else ∷ before) after e = let is : before ≡ after = cc in subst (λ o. slice_get o depth ≡ slice_get (Else ∷ before) (depth + 1)) is (closed-Finds Else before depth)
back_over-Finds CloseIf depth (While ∷ before) after e = cc
back_over-Finds CloseIf depth (Repeat ∷ before) after e = cc
back_over-Finds (OpenWhile expr mask line) depth before after e = let is : While ∷ before ≡ after = cc in subst (λ o. Finds before o depth (found While depth)) is (found-Finds While before depth)
back_over-Finds CloseWhile depth [] after e = cc
back_over-Finds CloseWhile depth (If ∷ before) after e = cc
back_over-Finds CloseWhile depth (Else ∷ before) after e = cc
back_over-Finds CloseWhile depth (While ∷ before) after e = let is : before ≡ after = cc in subst (λ o. slice_get o depth ≡ slice_get (While ∷ before) (depth + 1)) is (closed-Finds While before depth)
back_over-Finds CloseWhile depth (Repeat ∷ before) after e = cc
back_over-Finds (OpenRepeat mask line) depth before after e = let is : Repeat ∷ before ≡ after = cc in subst (λ o. Finds before o depth (found Repeat depth)) is (found-Finds Repeat before depth)
back_over-Finds (Until expr) depth [] after e = cc
back_over-Finds (Until expr) depth (If ∷ before) after e = cc
back_over-Finds (Until expr) depth (Else ∷ before) after e = cc
back_over-Finds (Until expr) depth (While ∷ before) after e = cc
back_over-Finds (Until expr) depth (Repeat ∷ before) after e = let is : before ≡ after = cc in subst (λ o. slice_get o depth ≡ slice_get (Repeat ∷ before) (depth + 1)) is (closed-Finds Repeat before depth)

-- ---- the way back: the innermost opening that all members leave stands at this depth behind the first few
abbrev pub IsAtDepth : List Member → ℕ → ℕ → Type 0
IsAtDepth members k depth = (openings : List Opening) → opened [] members ≡ Some openings → (before : List Opening) × (opened [] (take k members) ≡ Some before) × (slice_get openings 0 ≡ slice_get before depth)

pub IsAtDepth-start : (members : List Member) → IsAtDepth members (length members) 0
IsAtDepth-start members openings e = (openings, rw (take_all (length members) members (omega arith)) e, refl)

pub IsAtDepth-step : (members : List Member) (k depth next : ℕ) (d : Member) → k < length members → IsAtDepth members (suc k) depth → back_over (get_or members k d) depth ≡ Continue next → IsAtDepth members k next
IsAtDepth-step members k depth next d inside at flow openings e =
    let here = at openings e in
    let back = split (opened [] (take k members)) (get_or members k d) here.0 (sym (opened-take members k d inside) ∙ here.1) in
    let finds : Finds back.0 here.0 depth (back_over (get_or members k d) depth) = back_over-Finds (get_or members k d) depth back.0 here.0 back.2 in
    let same : slice_get here.0 depth ≡ slice_get back.0 next = subst (Finds back.0 here.0 depth) flow finds in
    (back.0, back.1, here.2 ∙ same)

pub IsAtDepth-stop : (members : List Member) (k depth : ℕ) (opening : Opening) (d : Member) → k < length members → IsAtDepth members (suc k) depth → back_over (get_or members k d) depth ≡ Break opening → (openings : List Opening) → opened [] members ≡ Some openings → Some opening ≡ slice_get openings 0
IsAtDepth-stop members k depth opening d inside at flow openings e =
    let here = at openings e in
    let back = split (opened [] (take k members)) (get_or members k d) here.0 (sym (opened-take members k d inside) ∙ here.1) in
    let finds : Finds back.0 here.0 depth (back_over (get_or members k d) depth) = back_over-Finds (get_or members k d) depth back.0 here.0 back.2 in
    let same : slice_get here.0 depth ≡ Some opening = subst (Finds back.0 here.0 depth) flow finds in
    sym (here.2 ∙ same)

pub IsAtDepth-end : (members : List Member) (depth : ℕ) → IsAtDepth members 0 depth → (openings : List Opening) → opened [] members ≡ Some openings → None ≡ slice_get openings 0
IsAtDepth-end members depth at openings e =
    let here = at openings e in
    let none : [] ≡ here.0 = cc in
    sym (here.2 ∙ ap (λ o. slice_get o depth) (sym none))

found-bound : (opening : Opening) (depth next : ℕ) → found opening depth ≡ Continue next → next ≤ depth + 1
found-bound opening zero next e = cc
found-bound opening (suc depth) next e = let is : depth ≡ next = cc in omega arith

else_found-bound : (depth next : ℕ) → else_found depth ≡ Continue next → next ≤ depth + 1
else_found-bound zero next e = cc
else_found-bound (suc depth) next e = let is : suc depth ≡ next = cc in omega arith

-- a step back goes one deeper at most
pub back_over-bound : (member : Member) (depth next : ℕ) → back_over member depth ≡ Continue next → next ≤ depth + 1
back_over-bound (Put array expr mask line) depth next e = let is : depth ≡ next = cc in omega arith
back_over-bound (Cell cell expr mask line) depth next e = let is : depth ≡ next = cc in omega arith
back_over-bound (Acc scalar fold expr mask line) depth next e = let is : depth ≡ next = cc in omega arith
back_over-bound (OpenIf expr mask line) depth next e = found-bound If depth next e
back_over-bound Otherwise depth next e = else_found-bound depth next e
back_over-bound CloseIf depth next e = let is : depth + 1 ≡ next = cc in omega arith
back_over-bound (OpenWhile expr mask line) depth next e = found-bound While depth next e
back_over-bound CloseWhile depth next e = let is : depth + 1 ≡ next = cc in omega arith
back_over-bound (OpenRepeat mask line) depth next e = found-bound Repeat depth next e
back_over-bound (Until expr) depth next e = let is : depth + 1 ≡ next = cc in omega arith

-- ---- what may follow
pub may_follow-open_behind : (openings : List Opening) (member : Member) → may_follow (slice_get openings 0) member ≡ is_some (open_behind openings member)
may_follow-open_behind openings (Put array expr mask line) = refl
may_follow-open_behind openings (Cell cell expr mask line) = refl
may_follow-open_behind openings (Acc scalar fold expr mask line) = refl
may_follow-open_behind openings (OpenIf expr mask line) = refl
may_follow-open_behind [] Otherwise = refl
may_follow-open_behind (If ∷ openings) Otherwise = refl
may_follow-open_behind (Else ∷ openings) Otherwise = refl
may_follow-open_behind (While ∷ openings) Otherwise = refl
may_follow-open_behind (Repeat ∷ openings) Otherwise = refl
may_follow-open_behind [] CloseIf = refl
may_follow-open_behind (If ∷ openings) CloseIf = refl
may_follow-open_behind (Else ∷ openings) CloseIf = refl
may_follow-open_behind (While ∷ openings) CloseIf = refl
may_follow-open_behind (Repeat ∷ openings) CloseIf = refl
may_follow-open_behind openings (OpenWhile expr mask line) = refl
may_follow-open_behind [] CloseWhile = refl
may_follow-open_behind (If ∷ openings) CloseWhile = refl
may_follow-open_behind (Else ∷ openings) CloseWhile = refl
may_follow-open_behind (While ∷ openings) CloseWhile = refl
may_follow-open_behind (Repeat ∷ openings) CloseWhile = refl
may_follow-open_behind openings (OpenRepeat mask line) = refl
may_follow-open_behind [] (Until expr) = refl
may_follow-open_behind (If ∷ openings) (Until expr) = refl
may_follow-open_behind (Else ∷ openings) (Until expr) = refl
may_follow-open_behind (While ∷ openings) (Until expr) = refl
may_follow-open_behind (Repeat ∷ openings) (Until expr) = refl

pub open_behind-opening : (openings : List Opening) (member : Member) → is_closing member ≡ false → is_some (open_behind openings member) ≡ true
open_behind-opening openings (Put array expr mask line) e = refl
open_behind-opening openings (Cell cell expr mask line) e = refl
open_behind-opening openings (Acc scalar fold expr mask line) e = refl
open_behind-opening openings (OpenIf expr mask line) e = refl
open_behind-opening openings Otherwise e = cc
open_behind-opening openings CloseIf e = cc
open_behind-opening openings (OpenWhile expr mask line) e = refl
open_behind-opening openings CloseWhile e = cc
open_behind-opening openings (OpenRepeat mask line) e = refl
open_behind-opening openings (Until expr) e = cc

-- ---- trees and openings
-- the members of a tree leave the openings as they were
pub opened-members_of : (tree : Nest) (openings : List Opening) (rest : List Member) → opened openings (members_of tree ++ rest) ≡ opened openings rest
opened-members_of Nothing openings rest = refl
opened-members_of (Putting array expr mask line after) openings rest = opened-members_of after openings rest
opened-members_of (Keeping cell expr mask line after) openings rest = opened-members_of after openings rest
opened-members_of (Joining scalar fold expr mask line after) openings rest = opened-members_of after openings rest
opened-members_of (Choosing expr mask line body after) openings rest =
    ap (opened (If ∷ openings)) (append_assoc (members_of body) (CloseIf ∷ members_of after) rest) ∙ (opened-members_of body (If ∷ openings) (CloseIf ∷ (members_of after ++ rest)) ∙ opened-members_of after openings rest)
opened-members_of (ChoosingElse expr mask line body otherwise after) openings rest =
    ap (opened (If ∷ openings)) (append_assoc (members_of body) (Otherwise ∷ (members_of otherwise ++ CloseIf ∷ members_of after)) rest) ∙ (opened-members_of body (If ∷ openings) (Otherwise ∷ ((members_of otherwise ++ CloseIf ∷ members_of after) ++ rest)) ∙ (ap (opened (Else ∷ openings)) (append_assoc (members_of otherwise) (CloseIf ∷ members_of after) rest) ∙ (opened-members_of otherwise (Else ∷ openings) (CloseIf ∷ (members_of after ++ rest)) ∙ opened-members_of after openings rest)))
opened-members_of (Looping expr mask line body after) openings rest =
    ap (opened (While ∷ openings)) (append_assoc (members_of body) (CloseWhile ∷ members_of after) rest) ∙ (opened-members_of body (While ∷ openings) (CloseWhile ∷ (members_of after ++ rest)) ∙ opened-members_of after openings rest)
opened-members_of (Repeating mask line body until after) openings rest =
    ap (opened (Repeat ∷ openings)) (append_assoc (members_of body) (Until until ∷ members_of after) rest) ∙ (opened-members_of body (Repeat ∷ openings) (Until until ∷ (members_of after ++ rest)) ∙ opened-members_of after openings rest)

-- members that close these openings, one after another, with trees between
abbrev Closes : List Opening → List Member → Type 0
Closes [] members = IsNest members
Closes (If ∷ openings) members =
    ((body : Nest) × (rest : List Member) × (members ≡ members_of body ++ CloseIf ∷ rest) × Closes openings rest)
    ⊎ ((body : Nest) × (otherwise : Nest) × (rest : List Member) × (members ≡ members_of body ++ Otherwise ∷ (members_of otherwise ++ CloseIf ∷ rest)) × Closes openings rest)
Closes (Else ∷ openings) members = (body : Nest) × (rest : List Member) × (members ≡ members_of body ++ CloseIf ∷ rest) × Closes openings rest
Closes (While ∷ openings) members = (body : Nest) × (rest : List Member) × (members ≡ members_of body ++ CloseWhile ∷ rest) × Closes openings rest
Closes (Repeat ∷ openings) members = (body : Nest) × (until : ℕ) × (rest : List Member) × (members ≡ members_of body ++ Until until ∷ rest) × Closes openings rest

-- more in front of the first tree
module _ (front : List Member) (more : Nest → Nest) (spells : (tree : Nest) → members_of (more tree) ≡ front ++ members_of tree) where
  longer : (body : Nest) (rest members : List Member) → members ≡ members_of body ++ rest → front ++ members ≡ members_of (more body) ++ rest
  longer body rest members e = ap (λ ms. front ++ ms) e ∙ (sym (append_assoc front (members_of body) rest) ∙ ap (λ ms. ms ++ rest) (sym (spells body)))

  in_front : (openings : List Opening) (members : List Member) → Closes openings members → Closes openings (front ++ members)
  in_front [] members nest = record { tree = more nest.tree; spelled = spells nest.tree ∙ ap (λ ms. front ++ ms) nest.spelled }
  in_front (If ∷ openings) members (inl (body, rest, e, closes)) = inl (more body, rest, longer body (CloseIf ∷ rest) members e, closes)
  in_front (If ∷ openings) members (inr (body, otherwise, rest, e, closes)) =
      inr (more body, otherwise, rest, longer body (Otherwise ∷ (members_of otherwise ++ CloseIf ∷ rest)) members e, closes)
  in_front (Else ∷ openings) members (body, rest, e, closes) = (more body, rest, longer body (CloseIf ∷ rest) members e, closes)
  in_front (While ∷ openings) members (body, rest, e, closes) = (more body, rest, longer body (CloseWhile ∷ rest) members e, closes)
  in_front (Repeat ∷ openings) members (body, until, rest, e, closes) =
      (more body, until, rest, longer body (Until until ∷ rest) members e, closes)

-- an opening in front of members that close it
close_choice : (expr : ℕ) (mask : Option ℕ) (line : ℕ) (openings : List Opening) (members : List Member) → Closes (If ∷ openings) members → Closes openings (OpenIf expr mask line ∷ members)
close_choice expr mask line openings members (inl (body, rest, e, closes)) =
    let front : List Member = OpenIf expr mask line ∷ (members_of body ++ CloseIf ∷ []) in
    let spells : (tree : Nest) → members_of (Choosing expr mask line body tree) ≡ front ++ members_of tree = λ tree. ap (λ ms. OpenIf expr mask line ∷ ms) (sym (append_assoc (members_of body) (CloseIf ∷ []) (members_of tree))) in
    let done : Closes openings (front ++ rest) = in_front front (Choosing expr mask line body) spells openings rest closes in
    let is : front ++ rest ≡ OpenIf expr mask line ∷ members = ap (λ ms. OpenIf expr mask line ∷ ms) (append_assoc (members_of body) (CloseIf ∷ []) rest ∙ sym e) in
    subst (Closes openings) is done
close_choice expr mask line openings members (inr (body, otherwise, rest, e, closes)) =
    let front : List Member = OpenIf expr mask line ∷ (members_of body ++ Otherwise ∷ (members_of otherwise ++ CloseIf ∷ [])) in
    let joins : (ms : List Member) → (members_of body ++ Otherwise ∷ (members_of otherwise ++ CloseIf ∷ [])) ++ ms ≡ members_of body ++ Otherwise ∷ (members_of otherwise ++ CloseIf ∷ ms) = λ ms. append_assoc (members_of body) (Otherwise ∷ (members_of otherwise ++ CloseIf ∷ [])) ms ∙ ap (λ rest. members_of body ++ Otherwise ∷ rest) (append_assoc (members_of otherwise) (CloseIf ∷ []) ms) in
    let spells : (tree : Nest) → members_of (ChoosingElse expr mask line body otherwise tree) ≡ front ++ members_of tree = λ tree. ap (λ ms. OpenIf expr mask line ∷ ms) (sym (joins (members_of tree))) in
    let done : Closes openings (front ++ rest) = in_front front (ChoosingElse expr mask line body otherwise) spells openings rest closes in
    let is : front ++ rest ≡ OpenIf expr mask line ∷ members = ap (λ ms. OpenIf expr mask line ∷ ms) (joins rest ∙ sym e) in
    subst (Closes openings) is done

close_while : (expr : ℕ) (mask : Option ℕ) (line : ℕ) (openings : List Opening) (members : List Member) → Closes (While ∷ openings) members → Closes openings (OpenWhile expr mask line ∷ members)
close_while expr mask line openings members (body, rest, e, closes) =
    let front : List Member = OpenWhile expr mask line ∷ (members_of body ++ CloseWhile ∷ []) in
    let spells : (tree : Nest) → members_of (Looping expr mask line body tree) ≡ front ++ members_of tree = λ tree. ap (λ ms. OpenWhile expr mask line ∷ ms) (sym (append_assoc (members_of body) (CloseWhile ∷ []) (members_of tree))) in
    let done : Closes openings (front ++ rest) = in_front front (Looping expr mask line body) spells openings rest closes in
    let is : front ++ rest ≡ OpenWhile expr mask line ∷ members = ap (λ ms. OpenWhile expr mask line ∷ ms) (append_assoc (members_of body) (CloseWhile ∷ []) rest ∙ sym e) in
    subst (Closes openings) is done

close_repeat : (mask : Option ℕ) (line : ℕ) (openings : List Opening) (members : List Member) → Closes (Repeat ∷ openings) members → Closes openings (OpenRepeat mask line ∷ members)
close_repeat mask line openings members (body, until, rest, e, closes) =
    let front : List Member = OpenRepeat mask line ∷ (members_of body ++ Until until ∷ []) in
    let spells : (tree : Nest) → members_of (Repeating mask line body until tree) ≡ front ++ members_of tree = λ tree. ap (λ ms. OpenRepeat mask line ∷ ms) (sym (append_assoc (members_of body) (Until until ∷ []) (members_of tree))) in
    let done : Closes openings (front ++ rest) = in_front front (λ tree. Repeating mask line body until tree) spells openings rest closes in
    let is : front ++ rest ≡ OpenRepeat mask line ∷ members = ap (λ ms. OpenRepeat mask line ∷ ms) (append_assoc (members_of body) (Until until ∷ []) rest ∙ sym e) in
    subst (Closes openings) is done

begun : (openings : List Opening) (members : List Member) → Closes (Else ∷ openings) members → Closes (If ∷ openings) (Otherwise ∷ members)
begun openings members (otherwise, rest, e, closes) = inr (Nothing, otherwise, rest, ap (λ ms. Otherwise ∷ ms) e, closes)

-- members behind which nothing is open close what was open in front of them
pub Closes-opened : (members : List Member) (openings : List Opening) → opened openings members ≡ Some [] → Closes openings members
Closes-opened [] [] e = record { tree = Nothing; spelled = refl }
Closes-opened [] (If ∷ openings) e = cc
Closes-opened [] (Else ∷ openings) e = cc
Closes-opened [] (While ∷ openings) e = cc
Closes-opened [] (Repeat ∷ openings) e = cc
Closes-opened (Put array expr mask line ∷ members) openings e =
    in_front (Put array expr mask line ∷ []) (Putting array expr mask line) (λ tree. refl) openings members (Closes-opened members openings e)
Closes-opened (Cell cell expr mask line ∷ members) openings e =
    in_front (Cell cell expr mask line ∷ []) (Keeping cell expr mask line) (λ tree. refl) openings members (Closes-opened members openings e)
Closes-opened (Acc scalar fold expr mask line ∷ members) openings e =
    in_front (Acc scalar fold expr mask line ∷ []) (Joining scalar fold expr mask line) (λ tree. refl) openings members (Closes-opened members openings e)
Closes-opened (OpenIf expr mask line ∷ members) openings e = close_choice expr mask line openings members (Closes-opened members (If ∷ openings) e)
Closes-opened (Otherwise ∷ members) [] e = cc
Closes-opened (Otherwise ∷ members) (If ∷ openings) e = begun openings members (Closes-opened members (Else ∷ openings) e)
Closes-opened (Otherwise ∷ members) (Else ∷ openings) e = cc
Closes-opened (Otherwise ∷ members) (While ∷ openings) e = cc
Closes-opened (Otherwise ∷ members) (Repeat ∷ openings) e = cc
Closes-opened (CloseIf ∷ members) [] e = cc
Closes-opened (CloseIf ∷ members) (If ∷ openings) e = inl (Nothing, members, refl, Closes-opened members openings e)
Closes-opened (CloseIf ∷ members) (Else ∷ openings) e = (Nothing, members, refl, Closes-opened members openings e)
Closes-opened (CloseIf ∷ members) (While ∷ openings) e = cc
Closes-opened (CloseIf ∷ members) (Repeat ∷ openings) e = cc
Closes-opened (OpenWhile expr mask line ∷ members) openings e = close_while expr mask line openings members (Closes-opened members (While ∷ openings) e)
Closes-opened (CloseWhile ∷ members) [] e = cc
Closes-opened (CloseWhile ∷ members) (If ∷ openings) e = cc
Closes-opened (CloseWhile ∷ members) (Else ∷ openings) e = cc
Closes-opened (CloseWhile ∷ members) (While ∷ openings) e = (Nothing, members, refl, Closes-opened members openings e)
Closes-opened (CloseWhile ∷ members) (Repeat ∷ openings) e = cc
Closes-opened (OpenRepeat mask line ∷ members) openings e = close_repeat mask line openings members (Closes-opened members (Repeat ∷ openings) e)
Closes-opened (Until expr ∷ members) [] e = cc
Closes-opened (Until expr ∷ members) (If ∷ openings) e = cc
Closes-opened (Until expr ∷ members) (Else ∷ openings) e = cc
Closes-opened (Until expr ∷ members) (While ∷ openings) e = cc
Closes-opened (Until expr ∷ members) (Repeat ∷ openings) e = (Nothing, expr, members, refl, Closes-opened members openings e)

-- members are those of a tree exactly where nothing is open behind them
pub IsNest-opened : (members : List Member) → IsNest members ↔ (opened [] members ≡ Some [])
IsNest-opened members = (there, Closes-opened members []) where
  there : IsNest members → opened [] members ≡ Some []
  there nest =
      let e : opened [] (members_of nest.tree ++ []) ≡ Some [] = opened-members_of nest.tree [] [] in
      let same : members_of nest.tree ++ [] ≡ members = append-nil (members_of nest.tree) ∙ nest.spelled in
      subst (λ ms. opened [] ms ≡ Some []) same e

-- ---- the walk over all members
-- the first few members leave something open
abbrev pub IsWalked : List Member → ℕ → Type 0
IsWalked members k = (openings : List Opening) × (opened [] (take k members) ≡ Some openings)

pub IsWalked-step : (members : List Member) (k : ℕ) (d : Member) → k < length members → IsWalked members k → ((openings : List Opening) → opened [] (take k members) ≡ Some openings → is_some (open_behind openings (get_or members k d)) ≡ true) → IsWalked members (suc k)
IsWalked-step members k d inside (openings, e) some =
    let next : opened [] (take (suc k) members) ≡ open_behind openings (get_or members k d) = opened-take members k d inside ∙ ap (option_and_then (λ next. open_behind next (get_or members k d))) e in
    go (open_behind openings (get_or members k d)) next (some openings e) where
      go : (o : Option (List Opening)) → opened [] (take (suc k) members) ≡ o → is_some o ≡ true → IsWalked members (suc k)
      go None next is = cc
      go (Some after) next is = (after, next)

stop : (member : Member) (rest : List Member) (o : Option (List Opening)) → is_some o ≡ false → option_and_then (λ next. opened next rest) o ≡ Some [] → ⊥
stop member rest None is e = cc
stop member rest (Some next) is e = cc

-- a member that may not follow
pub IsNest-stopped : (members : List Member) (k : ℕ) (d : Member) → k < length members → ((openings : List Opening) → opened [] (take k members) ≡ Some openings → is_some (open_behind openings (get_or members k d)) ≡ false) → IsNest members → ⊥
IsNest-stopped members k d inside stops nest =
    let whole : opened [] (take k members ++ drop k members) ≡ Some [] = ap (opened []) (take-append-drop k members) ∙ (IsNest-opened members).0 nest in
    go (opened [] (take k members)) refl (sym (opened-append [] (take k members) (drop k members)) ∙ whole) where
      go : (o : Option (List Opening)) → opened [] (take k members) ≡ o → option_and_then (λ next. opened next (drop k members)) o ≡ Some [] → ⊥
      go None at e = cc
      go (Some openings) at e =
          let next : opened openings (get_or members k d ∷ drop (suc k) members) ≡ Some [] = sym (ap (opened openings) (drop-cons members k d inside)) ∙ e in
          stop (get_or members k d) (drop (suc k) members) (open_behind openings (get_or members k d)) (stops openings at) next

none_left : (o : Option Opening) (openings : List Opening) → o ≡ slice_get openings 0 → (openings ≡ []) ↔ (is_some o ≡ false)
none_left o [] e = (λ _. ap is_some e, λ _. refl)
none_left o (opening ∷ openings) e = (λ same. cc, λ none. let some : is_some o ≡ true = ap is_some e in cc)

-- the innermost opening tells whether something is open at the end
pub IsNest-walked : (members : List Member) (o : Option Opening) → IsWalked members (length members) → ((openings : List Opening) → opened [] members ≡ Some openings → o ≡ slice_get openings 0) → IsNest members ↔ (is_some o ≡ false)
IsNest-walked members o (openings, e) innermost =
    let all : opened [] members ≡ Some openings = sym (ap (opened []) (take_all (length members) members (omega arith))) ∙ e in
    let none = none_left o openings (innermost openings all) in (
      λ nest. let closed : opened [] members ≡ Some [] = (IsNest-opened members).0 nest in let same : openings ≡ [] = cc in none.0 same,
      λ is. (IsNest-opened members).1 (all ∙ ap (λ o. Some o) (none.1 is)),
    )
