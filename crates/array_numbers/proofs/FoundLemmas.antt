-- What is found in lists of names that grow.
use Rattle.std.proofs.Common.{◌≡◌, ℕ, Bool, true, false, cond, List, [], ◌∷◌, ◌++◌, Option, Some, None, option_map, refl, sym, ap, ◌∙◌, subst, arith}
use Rattle.std.specs.Prelude.{find}
use Rattle.std.specs.List.{list_any}
use Rattle.std.specs.Option.{option_or}
use Rattle.std.specs.Str.{bytes_eq}
use Rattle.zpl_region.specs.declared.regions.Region.{Region}
use Rattle.zpl_tree.specs.Syntax.{Name}
use Rattle.zpl_names.specs.Kinds.{Kind}
use Rattle.zpl_names.specs.Scope.{Entry, kind_in}
use Rattle.zpl_names.specs.Declared.{entry_for}
use Rattle.zpl_names.specs.Faults.{at_if, repeated}
use Rattle.zpl_names.specs.Expansion.{ExpandedArray, Binding, bound_in}
use Rattle.zpl_meaning.specs.Store.{Thing, Names}
use Rattle.lowering_fits.specs.Reach.{named_thing}
use Rattle.array_numbers.specs.Numbering.{Numbering, IsNumber, IsLater, IsOwn, NotOwn, OwnScalar, OwnArray, IsGlobal, GlobalScalar, GlobalArray, GlobalOther}

-- ---- numbers that stay

pub number_stays : (Sound : ℕ → Region → Region → Type 0) (few more : Numbering) →
    IsLater few more → (place : ℕ) (home : Region) (array : ExpandedArray) →
    IsNumber Sound few place home array → IsNumber Sound more place home array
number_stays Sound few more later place home array is = record {
  stored = is.stored;
  there = later.arrays place is.stored is.there;
  below = omega (arith, is.below, later.bound);
  stands = later.of is.stored.array is.below ∙ is.stands;
  sound = is.sound;
}

pub own_stays : (Sound : ℕ → Region → Region → Type 0) (few more : Numbering) → IsLater few more → (kind : Option Kind)
    (thing : Option Thing) (array : Option ExpandedArray) → IsOwn Sound few kind thing array →
    IsOwn Sound more kind thing array
own_stays Sound few more later kind thing array NotOwn = NotOwn
own_stays Sound few more later kind thing array (OwnScalar base place) = OwnScalar base place
own_stays Sound few more later kind thing array (OwnArray base shape place home one is) =
    OwnArray base shape place home one (number_stays Sound few more later place home one is)

pub global_stays : (Sound : ℕ → Region → Region → Type 0) (few more : Numbering) → IsLater few more → (kind : Option Kind)
    (thing : Option Thing) (array : Option ExpandedArray) → IsGlobal Sound few kind thing array →
    IsGlobal Sound more kind thing array
global_stays Sound few more later kind thing array (GlobalScalar base place one) =
    GlobalScalar base place one
global_stays Sound few more later kind thing array (GlobalArray base shape place home one is) =
    GlobalArray base shape place home one (number_stays Sound few more later place home one is)
global_stays Sound few more later kind thing array (GlobalOther k t a fixed still) =
    GlobalOther k t a fixed still

pub later_none : (one : Numbering) → IsLater one one
later_none one = record {
  arrays = λ place stored is. is;
  of = λ number below. refl;
  bound = omega arith;
}

pub later_both : (few more most : Numbering) → IsLater few more → IsLater more most →
    IsLater few most
later_both few more most first rest = record {
  arrays = λ place stored is. rest.arrays place stored (first.arrays place stored is);
  of = λ number below.
      rest.of number (omega (arith, below, first.bound)) ∙ first.of number below;
  bound = omega (arith, first.bound, rest.bound);
}

-- ---- what is found in two lists

pub or_none : {A : Type 0} (one : Option A) → option_or one None ≡ one
or_none None = refl
or_none (Some a) = refl

pub found_both : {A B : Type 0} (p : A → Bool) (f : A → B) (xs ys : List A) →
    option_map f (find p (xs ++ ys)) ≡ option_or (option_map f (find p xs)) (option_map f (find p ys))
found_both p f [] ys = refl
found_both {A} {B} p f (x ∷ xs) ys = by (p x) (found_both p f xs ys)
  where
    by : (b : Bool) →
        option_map f (find p (xs ++ ys)) ≡ option_or (option_map f (find p xs)) (option_map f (find p ys)) →
        option_map f (cond b (Some x) (find p (xs ++ ys))) ≡
        option_or (option_map f (cond b (Some x) (find p xs))) (option_map f (find p ys))
    by true later = refl
    by false later = later

abbrev pub only_if : {A : Type 0} → Bool → Option A → Option A
only_if b found = cond b found None

found_one : {A B : Type 0} (f : A → B) (b : Bool) (x : A) →
    option_map f (cond b (Some x) None) ≡ only_if b (Some (f x))
found_one f true x = refl
found_one f false x = refl

pub kind_more : (xs : List Entry) (one : Kind) (name : Name) (text : List ℕ) →
    kind_in (xs ++ entry_for one name ∷ []) text ≡
    option_or (kind_in xs text) (only_if (bytes_eq name.text text) (Some one))
kind_more xs one name text =
    found_both (λ entry. bytes_eq entry.name.text text) (λ entry. entry.kind) xs
    (entry_for one name ∷ [])
    ∙ ap (option_or (kind_in xs text))
    (found_one (λ (entry : Entry). entry.kind) (bytes_eq name.text text) (entry_for one name))

pub thing_more : (names : Names) (thing : Thing) (name : Name) (text : List ℕ) →
    named_thing (names ++ (name.text, thing) ∷ []) text ≡
    option_or (named_thing names text) (only_if (bytes_eq name.text text) (Some thing))
thing_more names thing name text =
    found_both (λ entry. bytes_eq entry.0 text) (λ entry. entry.1) names ((name.text, thing) ∷ [])
    ∙ ap (option_or (named_thing names text))
    (found_one (λ (entry : List ℕ × Thing). entry.1) (bytes_eq name.text text) (name.text, thing))

abbrev pub binding_for : List ℕ → ExpandedArray → Binding
binding_for text array = record { name = text; array = array }

pub bound_more : (bindings : List Binding) (array : ExpandedArray) (name text : List ℕ) →
    bound_in (bindings ++ binding_for name array ∷ []) text ≡
    option_or (bound_in bindings text) (only_if (bytes_eq name text) (Some array))
bound_more bindings array name text =
    found_both (λ binding. bytes_eq binding.name text) (λ binding. binding.array) bindings
    (binding_for name array ∷ [])
    ∙ ap (option_or (bound_in bindings text))
    (found_one (λ (binding : Binding). binding.array) (bytes_eq name text) (binding_for name array))

pub bound_both : (xs ys : List Binding) (text : List ℕ) →
    bound_in (xs ++ ys) text ≡ option_or (bound_in xs text) (bound_in ys text)
bound_both xs ys text =
    found_both (λ binding. bytes_eq binding.name text) (λ binding. binding.array) xs ys

-- ---- one name more

none_own : (Sound : ℕ → Region → Region → Type 0) (numbering : Numbering) (thing : Option Thing) (array : Option ExpandedArray) →
    IsOwn Sound numbering None thing array → (thing ≡ None) × (array ≡ None)
none_own Sound numbering thing array NotOwn = (refl, refl)

neither : {A : Type 0} (one other : Option A) → option_or one other ≡ None →
    (one ≡ None) × (other ≡ None)
neither None other e = (refl, e)
neither (Some a) other e = cc

-- of two lists of bindings one has it more
pub data MoreBound (first rest : Option ExpandedArray) (b : Bool) :
    Option ExpandedArray → Option ExpandedArray → Option ExpandedArray → Type 0 where
  NoMore : MoreBound first rest b first rest None
  MoreFirst : (array : ExpandedArray) →
      MoreBound first rest b (option_or first (only_if b (Some array))) rest (Some array)
  MoreRest : (array : ExpandedArray) →
      MoreBound first rest b first (option_or rest (only_if b (Some array))) (Some array)

new_found : (Sound : ℕ → Region → Region → Type 0) (numbering : Numbering) (kind : Kind) (thing : Thing)
    (one other array : Option ExpandedArray) → MoreBound None None true one other array →
    IsOwn Sound numbering (Some kind) (Some thing) array →
    IsOwn Sound numbering (Some kind) (Some thing) (option_or one other)
new_found Sound numbering kind thing one other array NoMore new = new
new_found Sound numbering kind thing one other array (MoreFirst a) new = new
new_found Sound numbering kind thing one other array (MoreRest a) new = new

old_found : (first rest one other array : Option ExpandedArray) →
    MoreBound first rest false one other array → option_or first rest ≡ option_or one other
old_found first rest one other array NoMore = refl
old_found first rest one other array (MoreFirst a) =
    ap (λ found. option_or found rest) (sym (or_none first))
old_found first rest one other array (MoreRest a) = ap (option_or first) (sym (or_none rest))

pub one_more : (Sound : ℕ → Region → Region → Type 0) (numbering : Numbering) (b : Bool) (kinds : Option Kind) (things : Option Thing)
    (first rest one other array : Option ExpandedArray) (kind : Kind) (thing : Thing) →
    (b ≡ true → kinds ≡ None) → IsOwn Sound numbering kinds things (option_or first rest) →
    MoreBound first rest b one other array → IsOwn Sound numbering (Some kind) (Some thing) array →
    IsOwn Sound numbering (option_or kinds (only_if b (Some kind)))
    (option_or things (only_if b (Some thing))) (option_or one other)
one_more Sound numbering true kinds things first rest one other array kind thing fresh old more new =
    let none = fresh refl in
    let two = none_own Sound numbering things (option_or first rest)
    (subst (λ k. IsOwn Sound numbering k things (option_or first rest)) none old) in
    let parts = neither first rest two.1 in
    subst (λ k. IsOwn Sound numbering (option_or k (Some kind)) (option_or things (Some thing))
    (option_or one other)) (sym none)
    (subst (λ t. IsOwn Sound numbering (Some kind) (option_or t (Some thing)) (option_or one other))
    (sym two.0)
    (new_found Sound numbering kind thing one other array
    (subst (λ found. MoreBound found None true one other array) parts.0
    (subst (λ found. MoreBound first found true one other array) parts.1 more)) new))
one_more Sound numbering false kinds things first rest one other array kind thing fresh old more new =
    subst (λ k. IsOwn Sound numbering k (option_or things None) (option_or one other))
    (sym (or_none kinds))
    (subst (λ t. IsOwn Sound numbering kinds t (option_or one other)) (sym (or_none things))
    (subst (IsOwn Sound numbering kinds things) (old_found first rest one other array more) old))

-- ---- names that stand once

abbrev pub has_name : List Name → List ℕ → Bool
has_name names text = list_any (λ earlier. bytes_eq earlier.text text) names

first_once : (b : Bool) (at : ℕ) (rest : List ℕ) → at_if b at ++ rest ≡ [] →
    (b ≡ false) × (rest ≡ [])
first_once true at rest e = cc
first_once false at rest e = (refl, e)

pub once_first : (before : List Name) (name : Name) (rest : List Name) →
    repeated before (name ∷ rest) ≡ [] →
    (has_name before name.text ≡ false) × (repeated (name ∷ before) rest ≡ [])
once_first before name rest e =
    first_once (has_name before name.text) name.at (repeated (name ∷ before) rest) e
