-- The units of a tree are spelled as the units of its members.
use Rattle.std.proofs.Common.{◌≡◌, refl, sym, ◌∙◌, ap, ℕ, suc, ◌+◌, ◌-◌, List, [], ◌∷◌}
use Rattle.std.proofs.Common.{◌++◌}
use Rattle.std.proofs.Common.{append_assoc, append-nil, arith, map}
use Rattle.node_form.specs.declared.members.Member.{Member}
use Rattle.node_form.specs.declared.members.Member.TheVariants.{Put, Cell, Acc, OpenIf, Otherwise}
use Rattle.node_form.specs.declared.members.Member.TheVariants.{CloseIf}
use Rattle.node_form.specs.declared.members.Member.TheVariants.{OpenWhile, CloseWhile, OpenRepeat}
use Rattle.node_form.specs.declared.members.Member.TheVariants.{Until}
use Rattle.node_form.specs.Nest.{Nest, Nothing, Putting, Keeping, Joining, Choosing, ChoosingElse}
use Rattle.node_form.specs.Nest.{Looping, Repeating, members_of}
use Rattle.node_form.specs.Group.{depth_behind, next_unit, units_from}
use Rattle.nest_meaning.specs.Units.{units_of}
use Rattle.nest_meaning.specs.Laws.{UnitsAreSpelled}
use Rattle.nest_meaning.proofs.Spelled.{spelled, spelled_is}

-- members put to a unit one after another
one_more : {X : Type 0} (unit : List X) (x : X) (xs : List X)
    → (unit ++ x ∷ []) ++ xs ≡ unit ++ x ∷ xs
one_more unit x xs = append_assoc unit (x ∷ []) xs

enclosed : {X : Type 0} (unit : List X) (x : X) (xs : List X) (y : X) (ys : List X)
    → (((unit ++ x ∷ []) ++ xs) ++ y ∷ []) ++ ys ≡ unit ++ x ∷ (xs ++ y ∷ ys)
enclosed unit x xs y ys =
    one_more ((unit ++ x ∷ []) ++ xs) y ys
    ∙ (ap (λ l. l ++ y ∷ ys) (one_more unit x xs) ∙ append_assoc unit (x ∷ xs) (y ∷ ys))

-- a member that opens, and one that closes, inside
opened : (d : ℕ) (unit : List Member) (member : Member) (rest : List Member)
    → depth_behind (suc d) member ≡ suc d + 1
    → units_from (suc d) unit (member ∷ rest) ≡ units_from (suc (suc d)) (unit ++ member ∷ []) rest
opened d unit member rest e =
    let f : suc d + 1 ≡ suc (suc d) = omega arith in
    ap (λ k. next_unit k (unit ++ member ∷ []) (λ depth unit. units_from depth unit rest)) (e ∙ f)

closed : (d : ℕ) (unit : List Member) (member : Member) (rest : List Member)
    → depth_behind (suc (suc d)) member ≡ suc (suc d) - 1
    → units_from (suc (suc d)) unit (member ∷ rest) ≡ units_from (suc d) (unit ++ member ∷ []) rest
closed d unit member rest e =
    let f : suc (suc d) - 1 ≡ suc d = omega arith in
    ap (λ k. next_unit k (unit ++ member ∷ []) (λ depth unit. units_from depth unit rest)) (e ∙ f)

abbrev Inside : Nest → Type 0
Inside nest =
    (d : ℕ) (unit rest : List Member)
    → units_from (suc d) unit (spelled nest rest)
    ≡ units_from (suc d) (unit ++ members_of nest) rest

-- what encloses a tree, and a tree behind it
around : (d : ℕ) (unit rest : List Member) (opening closing : Member) (body after : Nest)
    → depth_behind (suc d) opening ≡ suc d + 1
    → depth_behind (suc (suc d)) closing ≡ suc (suc d) - 1 → Inside body → Inside after
    → units_from (suc d) unit (opening ∷ spelled body (closing ∷ spelled after rest))
    ≡ units_from (suc d) (unit ++ opening ∷ (members_of body ++ closing ∷ members_of after)) rest
around d unit rest opening closing body after e f one two =
    let first = unit ++ opening ∷ [] in
    let whole = first ++ members_of body in
    opened d unit opening (spelled body (closing ∷ spelled after rest)) e
    ∙ (one (suc d) first (closing ∷ spelled after rest)
    ∙ (closed d whole closing (spelled after rest) f
    ∙ (two d (whole ++ closing ∷ []) rest
    ∙ ap (λ l. units_from (suc d) l rest)
    (enclosed unit opening (members_of body) closing (members_of after)))))

inside : (nest : Nest) → Inside nest
inside Nothing d unit rest = ap (λ l. units_from (suc d) l rest) (sym (append-nil unit))
inside (Putting array expr mask line after) d unit rest =
    inside after d (unit ++ Put array expr mask line ∷ []) rest
    ∙ ap (λ l. units_from (suc d) l rest)
    (one_more unit (Put array expr mask line) (members_of after))
inside (Keeping cell expr mask line after) d unit rest =
    inside after d (unit ++ Cell cell expr mask line ∷ []) rest
    ∙ ap (λ l. units_from (suc d) l rest)
    (one_more unit (Cell cell expr mask line) (members_of after))
inside (Joining scalar fold expr mask line after) d unit rest =
    inside after d (unit ++ Acc scalar fold expr mask line ∷ []) rest
    ∙ ap (λ l. units_from (suc d) l rest)
    (one_more unit (Acc scalar fold expr mask line) (members_of after))
inside (Choosing expr mask line body after) d unit rest =
    around d unit rest (OpenIf expr mask line) CloseIf body after refl refl (inside body)
    (inside after)
inside (ChoosingElse expr mask line body otherwise after) d unit rest =
    let opening = OpenIf expr mask line in
    let first = unit ++ opening ∷ [] in
    let middle = first ++ members_of body in
    let second = middle ++ Otherwise ∷ [] in
    let whole = second ++ members_of otherwise in
    let others = CloseIf ∷ spelled after rest in
    opened d unit opening (spelled body (Otherwise ∷ spelled otherwise others)) refl
    ∙ (inside body (suc d) first (Otherwise ∷ spelled otherwise others)
    ∙ (inside otherwise (suc d) second others
    ∙ (closed d whole CloseIf (spelled after rest) refl
    ∙ (inside after d (whole ++ CloseIf ∷ []) rest
    ∙ ap (λ l. units_from (suc d) l rest)
    (enclosed middle Otherwise (members_of otherwise) CloseIf (members_of after)
    ∙ (ap (λ l. l ++ Otherwise ∷ (members_of otherwise ++ CloseIf ∷ members_of after))
    (one_more unit opening (members_of body))
    ∙ append_assoc unit (opening ∷ members_of body)
    (Otherwise ∷ (members_of otherwise ++ CloseIf ∷ members_of after))))))))
inside (Looping expr mask line body after) d unit rest =
    around d unit rest (OpenWhile expr mask line) CloseWhile body after refl refl (inside body)
    (inside after)
inside (Repeating mask line body until after) d unit rest =
    around d unit rest (OpenRepeat mask line) (Until until) body after refl refl (inside body)
    (inside after)

-- a whole unit that encloses a tree
unit_around : (opening closing : Member) (body after : Nest) → depth_behind 0 opening ≡ 1
    → depth_behind 1 closing ≡ 0
    → units_from 0 [] (opening ∷ spelled body (closing ∷ spelled after []))
    ≡ (opening ∷ (members_of body ++ closing ∷ [])) ∷ units_from 0 [] (spelled after [])
unit_around opening closing body after e f =
    let rest = closing ∷ spelled after [] in
    ap (λ k. next_unit k (opening ∷ []) (λ depth unit. units_from depth unit (spelled body rest))) e
    ∙ (inside body 0 (opening ∷ []) rest
    ∙ ap (λ k. next_unit k ((opening ∷ members_of body) ++ closing ∷ [])
    (λ depth unit. units_from depth unit (spelled after []))) f)

by_units : (nest : Nest) → units_from 0 [] (spelled nest []) ≡ map members_of (units_of nest)
by_units Nothing = refl
by_units (Putting array expr mask line after) =
    ap (λ units. (Put array expr mask line ∷ []) ∷ units) (by_units after)
by_units (Keeping cell expr mask line after) =
    ap (λ units. (Cell cell expr mask line ∷ []) ∷ units) (by_units after)
by_units (Joining scalar fold expr mask line after) =
    ap (λ units. (Acc scalar fold expr mask line ∷ []) ∷ units) (by_units after)
by_units (Choosing expr mask line body after) =
    unit_around (OpenIf expr mask line) CloseIf body after refl refl
    ∙ ap (λ units. (OpenIf expr mask line ∷ (members_of body ++ CloseIf ∷ [])) ∷ units)
    (by_units after)
by_units (ChoosingElse expr mask line body otherwise after) =
    let opening = OpenIf expr mask line in
    let rest = CloseIf ∷ spelled after [] in
    let middle = opening ∷ members_of body in
    let second = middle ++ Otherwise ∷ [] in
    let whole = middle ++ (Otherwise ∷ (members_of otherwise ++ CloseIf ∷ [])) in
    inside body 0 (opening ∷ []) (Otherwise ∷ spelled otherwise rest)
    ∙ (inside otherwise 0 second rest
    ∙ (ap (λ unit. unit ∷ units_from 0 [] (spelled after []))
    (append_assoc second (members_of otherwise) (CloseIf ∷ [])
    ∙ one_more middle Otherwise (members_of otherwise ++ CloseIf ∷ []))
    ∙ ap (λ units. whole ∷ units) (by_units after)))
by_units (Looping expr mask line body after) =
    unit_around (OpenWhile expr mask line) CloseWhile body after refl refl
    ∙ ap (λ units. (OpenWhile expr mask line ∷ (members_of body ++ CloseWhile ∷ [])) ∷ units)
    (by_units after)
by_units (Repeating mask line body until after) =
    unit_around (OpenRepeat mask line) (Until until) body after refl refl
    ∙ ap (λ units. (OpenRepeat mask line ∷ (members_of body ++ Until until ∷ [])) ∷ units)
    (by_units after)

pub units_are_spelled : UnitsAreSpelled
units_are_spelled nest =
    ap (units_from 0 []) (sym (spelled_is nest [] ∙ append-nil (members_of nest))) ∙ by_units nest
