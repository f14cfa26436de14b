-- Elements of lists.
use Rattle.std.proofs.Common.{inl, inr, List, [], ◌∷◌, ◌++◌, map, sym, ap, subst}
use Rattle.std.specs.List.{AllByRecursion, flat_map}
use Rattle.zpl_names.proofs.ListLemmas.{Among}
use Rattle.zpl_names.proofs.FaultlessLemmas.{left-among}

pub right_there : {A : Type 0} (xs ys : List A) (x : A) → Among ys x → Among (xs ++ ys) x
right_there [] ys x m = m
right_there (z ∷ zs) ys x m = inr (right_there zs ys x m)

pub map_there : {A B : Type 0} (f : A → B) (xs : List A) (x : A) → Among xs x →
    Among (map f xs) (f x)
map_there f [] x m = absurd m
map_there f (z ∷ zs) x (inl e) = inl (ap f e)
map_there f (z ∷ zs) x (inr m) = inr (map_there f zs x m)

pub flat_there : {A B : Type 0} (f : A → List B) (xs : List A) (x : A) (y : B) → Among xs x →
    Among (f x) y → Among (flat_map f xs) y
flat_there f [] x y m n = absurd m
flat_there f (z ∷ zs) x y (inl e) n =
    left-among (f z) (flat_map f zs) y (subst (λ w. Among (f w) y) (sym e) n)
flat_there f (z ∷ zs) x y (inr m) n = right_there (f z) (flat_map f zs) y (flat_there f zs x y m n)

pub all_there : {A : Type 0} (P : A → Type 0) (xs : List A) → AllByRecursion P xs → (x : A) →
    Among xs x → P x
all_there P [] are x m = absurd m
all_there P (z ∷ zs) are x (inl e) = subst P e are.0
all_there P (z ∷ zs) are x (inr m) = all_there P zs are.1 x m
