-- The faults of storages, one after the other.
use Rattle.std.proofs.Common.{◌≡◌, ℕ, zero, suc, ◌+◌, ◌<◌, ◌==◌, false, List, [], ◌∷◌, ◌++◌, map, length, get_or, drop, Contains, append_assoc, drop-cons, ℤ, Option, Some, None, refl, sym, ap, ◌∙◌, subst, arith}
use Rattle.std.specs.List.{flat_map}
use Rattle.std.specs.Prelude.{MatchOption}
use Rattle.std.proofs.lemmas.List.{map-append}
use Rattle.std.proofs.lemmas.List.Elements.{Contains-append_left, Contains-append_right}
use Rattle.zpl_tree.specs.Syntax.{Inner, Bracketed, Exprs}
use Rattle.zpl_parts.specs.Part as parts
use Rattle.zpl_parts.specs.View.{part_of}
use Rattle.zpl_parts.specs.declared.parts.Part.{Part}
use Rattle.zpl_tree.specs.View.{name_of}
use Rattle.zpl_tree.specs.declared.names.Name.{Name}
use Rattle.zpl_region.specs.declared.regions.Region.{Region}
use Rattle.zpl_parts.specs.of_zpl_binding.Outcome as plain
use Rattle.zpl_parts.specs.of_zpl_binding.Outcome.{Outcome, Gives, Fails, failures}
use Rattle.zpl_parts.specs.of_zpl_binding.Regions.{Known}
use Rattle.zpl_parts.specs.of_zpl_binding.Storages.{Border, Shaped, shaped_over, storage_of}
use Rattle.zpl_bind.specs.declared.faults.BindFault.{BindFault}
use Rattle.zpl_bind.specs.Fault.{FailsAs, IsAmong, fault_of}
use Rattle.zpl_bind.specs.Storages.{storages_over, vectors_among}

pub among-more : (fault : BindFault) (xs ys : List plain.BindFault) →
    ((f : plain.BindFault) → Contains xs f → Contains ys f) → IsAmong fault xs → IsAmong fault ys
among-more fault xs ys more h = by (fault_of fault) h
  where
    by : (o : Option plain.BindFault) → MatchOption o (Unit {0}) (Contains xs) →
        MatchOption o (Unit {0}) (Contains ys)
    by None h = tt
    by (Some f) h = more f h

pub failures-append : {A : Type 0} (xs ys : List (Outcome A)) →
    failures (xs ++ ys) ≡ failures xs ++ failures ys
failures-append [] ys = refl
failures-append (Gives value ∷ xs) ys = failures-append xs ys
failures-append (Fails fault ∷ xs) ys = ap (λ l. fault ∷ l) (failures-append xs ys)

over-append : (known : Known) (borders : List Border) (xs ys : List Shaped) →
    failures (storages_over known borders (xs ++ ys))
    ≡ failures (storages_over known borders xs) ++ failures (storages_over known borders ys)
over-append known borders xs ys =
    ap failures (map-append _ xs ys) ∙
    failures-append (storages_over known borders xs) (storages_over known borders ys)

pub flat-fails : {A X : Type 0} (known : Known) (borders : List Border) (f : A → List Shaped)
    (seen : X → A) (items : List X) (i : ℕ) (d : X) (fault : BindFault) → i < length items →
    IsAmong fault (failures (storages_over known borders (f (seen (get_or items i d))))) →
    IsAmong fault (failures (storages_over known borders (flat_map f (map seen items))))
flat-fails known borders f seen [] i d fault below h = absurd (omega arith)
flat-fails known borders f seen (x ∷ xs) zero d fault below h =
    among-more fault (failures (storages_over known borders (f (seen x)))) _
    (λ g there. subst (λ l. Contains l g)
    (sym (over-append known borders (f (seen x)) (flat_map f (map seen xs))))
    (Contains-append_left (failures (storages_over known borders (f (seen x))))
    (failures (storages_over known borders (flat_map f (map seen xs)))) g there)) h
flat-fails known borders f seen (x ∷ xs) (suc i) d fault below h =
    among-more fault (failures (storages_over known borders (flat_map f (map seen xs)))) _
    (λ g there. subst (λ l. Contains l g)
    (sym (over-append known borders (f (seen x)) (flat_map f (map seen xs))))
    (Contains-append_right (failures (storages_over known borders (f (seen x))))
    (failures (storages_over known borders (flat_map f (map seen xs)))) g there))
    (flat-fails known borders f seen xs i d fault (omega arith) h)

failed : (fault : BindFault) (o : Outcome Region) (rest : List (Outcome Region)) →
    FailsAs fault o → IsAmong fault (failures (o ∷ rest))
failed fault o rest fails =
    subst (λ (c : Option plain.BindFault). MatchOption c (Unit {0}) (Contains (failures (o ∷ rest))))
    (sym fails.tells)
    (subst (λ o. Contains (failures (o ∷ rest)) fails.told) (sym fails.fails)
    (zero, omega arith, refl))

pub storages-fail : (known : Known) (borders : List Border) (names : List Name) (inner : Inner)
    (fault : BindFault) → (length names == 0) ≡ false →
    FailsAs fault (storage_of known borders inner) →
    IsAmong fault (failures (storages_over known borders
    (shaped_over (map name_of names) (Bracketed inner))))
storages-fail known borders [] inner fault some fails = cc
storages-fail known borders (name ∷ names) inner fault some fails =
    failed fault (storage_of known borders inner)
    (storages_over known borders (shaped_over (map name_of names) (Bracketed inner))) fails

-- one array after the other
pub arrays-next : (known : Known) (borders : List Border) (inner : Inner) (names : List Name)
    (i : ℕ) (d : Name) (items new : List Region) (storage : Region)
    (whole : List (Outcome Region)) → i < length names →
    storage_of known borders inner ≡ Gives storage → new ≡ items ++ storage ∷ [] →
    map Gives items ++ storages_over known borders
    (shaped_over (map name_of (drop i names)) (Bracketed inner)) ≡ whole →
    map Gives new ++ storages_over known borders
    (shaped_over (map name_of (drop (i + 1) names)) (Bracketed inner)) ≡ whole
arrays-next known borders inner names i d items new storage whole below is pushed rest =
    ap (λ l. l ++ over (drop (i + 1) names))
    (ap (map Gives) pushed ∙ map-append Gives items (storage ∷ [])) ∙
    append_assoc (map Gives items) (Gives storage ∷ []) (over (drop (i + 1) names)) ∙
    ap (λ o. map Gives items ++ (o ∷ over (drop (i + 1) names))) (sym is) ∙
    ap (λ l. map Gives items ++ over l) (sym (drop-cons names i d below ∙
    ap (λ n. get_or names i d ∷ drop n names) next_index)) ∙ rest
  where
    over : List Name → List (Outcome Region)
    over l = storages_over known borders (shaped_over (map name_of l) (Bracketed inner))

    next_index : suc i ≡ i + 1
    next_index = omega arith

-- ---- vectors

vectors-first : (part : parts.Part) (rest : List parts.Part) →
    vectors_among (part ∷ rest) ≡ vectors_among (part ∷ []) ++ vectors_among rest
vectors-first (parts.VectorPart p) rest = refl
vectors-first (parts.BorderPart p) rest = refl
vectors-first (parts.AroundPart a p) rest = refl
vectors-first (parts.CallPart a p) rest = refl

pub vectors-fail : (f : Exprs → Outcome (List ℤ)) (items : List Part) (i : ℕ) (d : Part)
    (fault : BindFault) → i < length items →
    IsAmong fault (failures (map f (vectors_among (part_of (get_or items i d) ∷ [])))) →
    IsAmong fault (failures (map f (vectors_among (map part_of items))))
vectors-fail f [] i d fault below h = absurd (omega arith)
vectors-fail f (x ∷ xs) zero d fault below h =
    among-more fault (failures (map f (vectors_among (part_of x ∷ [])))) _
    (λ g there. subst (λ l. Contains l g) (sym (split x xs))
    (Contains-append_left (failures (map f (vectors_among (part_of x ∷ []))))
    (failures (map f (vectors_among (map part_of xs)))) g there)) h
  where
    split : (x : Part) (xs : List Part) → failures (map f (vectors_among (map part_of (x ∷ xs))))
        ≡ failures (map f (vectors_among (part_of x ∷ []))) ++ failures (map f (vectors_among (map part_of xs)))
    split x xs =
        ap (λ l. failures (map f l)) (vectors-first (part_of x) (map part_of xs)) ∙
        ap failures (map-append f (vectors_among (part_of x ∷ [])) (vectors_among (map part_of xs))) ∙
        failures-append (map f (vectors_among (part_of x ∷ []))) (map f (vectors_among (map part_of xs)))
vectors-fail f (x ∷ xs) (suc i) d fault below h =
    among-more fault (failures (map f (vectors_among (map part_of xs)))) _
    (λ g there. subst (λ l. Contains l g) (sym (split x xs))
    (Contains-append_right (failures (map f (vectors_among (part_of x ∷ []))))
    (failures (map f (vectors_among (map part_of xs)))) g there))
    (vectors-fail f xs i d fault (omega arith) h)
  where
    split : (x : Part) (xs : List Part) → failures (map f (vectors_among (map part_of (x ∷ xs))))
        ≡ failures (map f (vectors_among (part_of x ∷ []))) ++ failures (map f (vectors_among (map part_of xs)))
    split x xs =
        ap (λ l. failures (map f l)) (vectors-first (part_of x) (map part_of xs)) ∙
        ap failures (map-append f (vectors_among (part_of x ∷ [])) (vectors_among (map part_of xs))) ∙
        failures-append (map f (vectors_among (part_of x ∷ []))) (map f (vectors_among (map part_of xs)))
