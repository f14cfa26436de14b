-- The own names of a call, one by one: each array that is new has a number that stood for none.
use Rattle.std.proofs.Common.{◌≡◌, ℕ, zero, suc, ◌+◌, ◌<◌, Bool, true, false, not, ◌||◌, cond, List, [], ◌∷◌, ◌++◌, map, length, Option, Some, None, refl, sym, ap, ◌∙◌, subst, arith, append-nil, append_assoc, length-append, ◌⊎◌, inl, inr}
use Rattle.std.specs.Prelude.{flat_map, slice_get}
use Rattle.std.specs.Option.{option_or}
use Rattle.std.specs.Str.{bytes_eq}
use Rattle.std.proofs.lemmas.Slice.Eq.{bytes_eq-Decides}
use Rattle.zpl_region.specs.declared.regions.Region.{Region}
use Rattle.zpl_tree.specs.Syntax.{Name, Expr, Exprs, NoExpr, ThenExpr, Base, Bracket, NoBracket, Bracketed, VarDef, Program}
use Rattle.zpl_names.specs.Kinds as kind
use Rattle.zpl_names.specs.Kinds.{Kind, Shape}
use Rattle.zpl_names.specs.Scope.{Entry, Scope, kind_in}
use Rattle.zpl_names.specs.Shapes.{variable_kind}
use Rattle.zpl_names.specs.Declared.{entry_for}
use Rattle.zpl_names.specs.Faults.{repeated}
use Rattle.zpl_names.specs.Expansion.{ExpandedArray, Binding, Instance, FormalName, bound_in, array_at, local_arrays, actual_array, actual_arrays, copy_of}
use Rattle.zpl_meaning.specs.Context.{Setup}
use Rattle.zpl_meaning.specs.Store.{Thing, Scalar, ArrayAt, Names}
use Rattle.lowering_fits.specs.of_zpl_lowering.Where.{Stored, Next}
use Rattle.lowering_fits.specs.of_zpl_lowering.Statement.{Given, Valued, Copied, Referring}
use Rattle.lowering_fits.specs.of_zpl_lowering.Program.{Framed, Entry as CallEntry}
use Rattle.lowering_fits.specs.Reach.{named_thing}
use Rattle.lowering_fits.specs.Whole.{given_frame, given_frames, local_frame, name_frames, local_frames}
use Rattle.array_numbers.specs.Numbering.{Numbering, IsNumber, IsLater, IsOwn, OwnScalar, OwnArray, SoundOver, SoundVars}
use Rattle.array_numbers.proofs.FoundLemmas.{number_stays, own_stays, later_none, later_both, or_none, only_if, kind_more, thing_more, binding_for, bound_more, MoreBound, NoMore, MoreFirst, MoreRest, one_more, has_name, once_first}

-- ---- a number more

abbrev pub extended : (ℕ → ExpandedArray) → ℕ → ExpandedArray → ℕ → ExpandedArray
extended of zero array k = array
extended of (suc bound) array zero = of 0
extended of (suc bound) array (suc k) = extended (λ j. of (suc j)) bound array k

pub extended_below : (of : ℕ → ExpandedArray) (bound : ℕ) (array : ExpandedArray) (k : ℕ) →
    k < bound → extended of bound array k ≡ of k
extended_below of zero array k below = let no : ⊥ = omega (arith, below) in absurd no
extended_below of (suc bound) array zero below = refl
extended_below of (suc bound) array (suc k) below =
    extended_below (λ j. of (suc j)) bound array k (omega (arith, below))

pub extended_at : (of : ℕ → ExpandedArray) (bound : ℕ) (array : ExpandedArray) →
    extended of bound array bound ≡ array
extended_at of zero array = refl
extended_at of (suc bound) array = extended_at (λ j. of (suc j)) bound array

in_front : (xs ys : List Stored) (place : ℕ) (stored : Stored) →
    slice_get xs place ≡ Some stored → slice_get (xs ++ ys) place ≡ Some stored
in_front [] ys place stored is = let no : ⊥ = cc in absurd no
in_front (x ∷ xs) ys zero stored is = is
in_front (x ∷ xs) ys (suc place) stored is = in_front xs ys place stored is

at_end : (xs : List Stored) (x : Stored) → slice_get (xs ++ x ∷ []) (length xs) ≡ Some x
at_end [] x = refl
at_end (y ∷ xs) x = at_end xs x

last_or_before : (xs : List Binding) (x : Binding) (i : ℕ) (found : Binding) →
    slice_get (xs ++ x ∷ []) i ≡ Some found →
    ((i < length xs) × (slice_get xs i ≡ Some found)) ⊎ ((i ≡ length xs) × (x ≡ found))
last_or_before [] x zero found is = let same : x ≡ found = cc in inr (refl, same)
last_or_before [] x (suc i) found is = let no : ⊥ = cc in absurd no
last_or_before (y ∷ xs) x zero found is = inl (omega arith, is)
last_or_before (y ∷ xs) x (suc i) found is =
    elim (last_or_before xs x i found is) [
      | inl before ↦ inl (omega (arith, before.0), before.1)
      | inr last ↦ inr (ap suc last.0, last.1)
    ]

-- ---- what is known of the names so far

-- the arrays of a call's own have the numbers from the first one on, in order
pub record AreInOrder (first : ℕ) (of : ℕ → ExpandedArray) (own : List Binding) (bound : ℕ) : Type 0
  where
    pub many : bound ≡ first + length own
    pub placed : (i : ℕ) (one : Binding) → slice_get own i ≡ Some one → of (first + i) ≡ one.array

-- with one more
pub ordered_more : (first : ℕ) (of : ℕ → ExpandedArray) (own : List Binding) (bound : ℕ)
    (one : Binding) → AreInOrder first of own bound →
    AreInOrder first (extended of bound one.array) (own ++ one ∷ []) (bound + 1)
ordered_more first of own bound one ordered = record {
  many = omega (arith, ordered.many, length-append own (one ∷ []));
  placed = λ i found is. by i found (last_or_before own one i found is);
}
  where
    by : (i : ℕ) (found : Binding) →
        ((i < length own) × (slice_get own i ≡ Some found)) ⊎ ((i ≡ length own) × (one ≡ found)) →
        extended of bound one.array (first + i) ≡ found.array
    by i found (inl earlier) =
        extended_below of bound one.array (first + i) (omega (arith, earlier.0, ordered.many))
        ∙ ordered.placed i found earlier.1
    by i found (inr last) =
        let here : first + i ≡ bound = omega (arith, last.0, ordered.many) in
        ap (extended of bound one.array) here
        ∙ extended_at of bound one.array
        ∙ ap (λ (one : Binding). one.array) last.1

abbrev numbering_of : (ℕ → ExpandedArray) → List Stored → ℕ → Numbering
numbering_of of arrays bound = record { arrays = arrays; of = of; bound = bound }

pub record IsWalked (Sound : ℕ → Region → Region → Type 0) (first : Numbering) (before : List Name) (xs : List Entry) (names : Names)
    (referred own : List Binding) (arrays : List Stored) (bound : ℕ) : Type 0 where
  pub of : ℕ → ExpandedArray
  pub later : IsLater first (record { arrays = arrays; of = of; bound = bound })
  pub found : (text : List ℕ) → IsOwn Sound (record { arrays = arrays; of = of; bound = bound })
      (kind_in xs text) (named_thing names text)
      (option_or (bound_in referred text) (bound_in own text))
  pub covers : (text : List ℕ) → has_name before text ≡ false → kind_in xs text ≡ None
  pub ordered : AreInOrder first.bound of own bound

module _ (Sound : ℕ → Region → Region → Type 0) (first : Numbering) where
  step : (before : List Name) (xs : List Entry) (names : Names)
      (referred own referred_more own_more : List Binding) (array : Option ExpandedArray)
      (arrays more : List Stored) (bound most : ℕ) (name : Name) (kind : Kind) (thing : Thing) →
      has_name before name.text ≡ false →
      (walked : IsWalked Sound first before xs names referred own arrays bound) →
      (of : ℕ → ExpandedArray) →
      IsLater (numbering_of walked.of arrays bound) (numbering_of of more most) →
      ((text : List ℕ) → MoreBound (bound_in referred text) (bound_in own text)
      (bytes_eq name.text text) (bound_in referred_more text) (bound_in own_more text) array) →
      IsOwn Sound (numbering_of of more most) (Some kind) (Some thing) array →
      AreInOrder first.bound of own_more most →
      IsWalked Sound first (name ∷ before) (xs ++ entry_for kind name ∷ [])
      (names ++ (name.text, thing) ∷ []) referred_more own_more more most
  step before xs names referred own referred_more own_more array arrays more bound most name kind
      thing new walked of later bounds is ordered = record {
        of = of;
        later = later_both first (numbering_of walked.of arrays bound) (numbering_of of more most)
            walked.later later;
        found = found;
        covers = covers;
        ordered = ordered;
      }
    where
      fresh : (text : List ℕ) → bytes_eq name.text text ≡ true → kind_in xs text ≡ None
      fresh text e =
          subst (λ t. kind_in xs t ≡ None) ((bytes_eq-Decides name.text text).0 e)
          (walked.covers name.text new)

      found : (text : List ℕ) → IsOwn Sound (numbering_of of more most)
          (kind_in (xs ++ entry_for kind name ∷ []) text)
          (named_thing (names ++ (name.text, thing) ∷ []) text)
          (option_or (bound_in referred_more text) (bound_in own_more text))
      found text =
          subst (λ k. IsOwn Sound (numbering_of of more most) k
          (named_thing (names ++ (name.text, thing) ∷ []) text)
          (option_or (bound_in referred_more text) (bound_in own_more text)))
          (sym (kind_more xs kind name text))
          (subst (λ t. IsOwn Sound (numbering_of of more most)
          (option_or (kind_in xs text) (only_if (bytes_eq name.text text) (Some kind))) t
          (option_or (bound_in referred_more text) (bound_in own_more text)))
          (sym (thing_more names thing name text))
          (one_more Sound (numbering_of of more most) (bytes_eq name.text text) (kind_in xs text)
          (named_thing names text) (bound_in referred text) (bound_in own text)
          (bound_in referred_more text) (bound_in own_more text) array kind thing (fresh text)
          (own_stays Sound (numbering_of walked.of arrays bound) (numbering_of of more most) later
          (kind_in xs text) (named_thing names text)
          (option_or (bound_in referred text) (bound_in own text)) (walked.found text))
          (bounds text) is))

      covers : (text : List ℕ) → has_name (name ∷ before) text ≡ false →
          kind_in (xs ++ entry_for kind name ∷ []) text ≡ None
      covers text e = kind_more xs kind name text ∙ by (bytes_eq name.text text) e
        where
          by : (b : Bool) → (b || has_name before text) ≡ false →
              option_or (kind_in xs text) (only_if b (Some kind)) ≡ None
          by true e = cc
          by false e = or_none (kind_in xs text) ∙ walked.covers text e

  pub scalar_step : (before : List Name) (xs : List Entry) (names : Names)
      (referred own : List Binding) (arrays : List Stored) (bound : ℕ) (name : Name) (base : Base)
      (place : ℕ) → has_name before name.text ≡ false →
      IsWalked Sound first before xs names referred own arrays bound →
      IsWalked Sound first (name ∷ before) (xs ++ entry_for (kind.Scalar base) name ∷ [])
      (names ++ (name.text, Scalar place) ∷ []) referred own arrays bound
  scalar_step before xs names referred own arrays bound name base place new walked =
      step before xs names referred own referred own None arrays arrays bound bound name
      (kind.Scalar base) (Scalar place) new walked walked.of
      (later_none (numbering_of walked.of arrays bound)) (λ text. NoMore) (OwnScalar base place)
      walked.ordered

  pub refer_step : (before : List Name) (xs : List Entry) (names : Names)
      (referred own : List Binding) (arrays : List Stored) (bound : ℕ) (name : Name) (base : Base)
      (shape : Option Shape) (place : ℕ) (home : Region) (array : ExpandedArray) →
      IsNumber Sound first place home array → has_name before name.text ≡ false →
      IsWalked Sound first before xs names referred own arrays bound →
      IsWalked Sound first (name ∷ before) (xs ++ entry_for (kind.Array base shape) name ∷ [])
      (names ++ (name.text, ArrayAt place home) ∷ [])
      (referred ++ binding_for name.text array ∷ []) own arrays bound
  refer_step before xs names referred own arrays bound name base shape place home array is new
      walked =
      step before xs names referred own (referred ++ binding_for name.text array ∷ []) own
      (Some array) arrays arrays bound bound name (kind.Array base shape) (ArrayAt place home) new
      walked walked.of (later_none (numbering_of walked.of arrays bound))
      (λ text. subst (λ found. MoreBound (bound_in referred text) (bound_in own text)
      (bytes_eq name.text text) found (bound_in own text) (Some array))
      (sym (bound_more referred array name.text text)) (MoreFirst array))
      (OwnArray base shape place home array
      (number_stays Sound first (numbering_of walked.of arrays bound) walked.later place home array is))
      walked.ordered

  pub array_step : (before : List Name) (xs : List Entry) (names : Names)
      (referred own : List Binding) (arrays : List Stored) (bound : ℕ) (name : Name) (base : Base)
      (shape : Option Shape) (home storage : Region) (array : ExpandedArray) →
      Sound array.storage home storage → has_name before name.text ≡ false →
      IsWalked Sound first before xs names referred own arrays bound →
      IsWalked Sound first (name ∷ before) (xs ++ entry_for (kind.Array base shape) name ∷ [])
      (names ++ (name.text, ArrayAt (length arrays) home) ∷ []) referred
      (own ++ binding_for name.text array ∷ [])
      (arrays ++ record { array = bound; storage = storage } ∷ []) (bound + 1)
  array_step before xs names referred own arrays bound name base shape home storage array sound new
      walked =
      let stored : Stored = record { array = bound; storage = storage } in
      let of = extended walked.of bound array in
      step before xs names referred own referred (own ++ binding_for name.text array ∷ [])
      (Some array) arrays (arrays ++ stored ∷ []) bound (bound + 1) name (kind.Array base shape)
      (ArrayAt (length arrays) home) new walked of
      (record {
        arrays = λ place one is. in_front arrays (stored ∷ []) place one is;
        of = λ number below. extended_below walked.of bound array number below;
        bound = omega arith;
      })
      (λ text. subst (λ found. MoreBound (bound_in referred text) (bound_in own text)
      (bytes_eq name.text text) (bound_in referred text) found (Some array))
      (sym (bound_more own array name.text text)) (MoreRest array))
      (OwnArray base shape (length arrays) home array (record {
        stored = stored;
        there = at_end arrays stored;
        below = omega arith;
        stands = extended_at walked.of bound array;
        sound = sound;
      }))
      (ordered_more first.bound walked.of own bound (binding_for name.text array) walked.ordered)

-- ---- names that were seen

abbrev pub seen : List Name → List Name → List Name
seen before [] = before
seen before (name ∷ names) = seen (name ∷ before) names

pub once_rest : (before names others : List Name) → repeated before (names ++ others) ≡ [] →
    repeated (seen before names) others ≡ []
once_rest before [] others e = e
once_rest before (name ∷ names) others e =
    once_rest (name ∷ before) names others (once_first before name (names ++ others) e).1

-- ---- parameters

-- a parameter: its kind, and its name
pub record Parameter : Type 0 where
  pub kind : Kind
  pub name : FormalName

abbrev pub entry_of : Parameter → Entry
entry_of one = entry_for one.kind one.name.name

abbrev pub formal_of : Parameter → FormalName
formal_of one = one.name

abbrev pub name_of : Parameter → Name
name_of one = one.name.name

abbrev listed : Option Binding → List Binding
listed None = []
listed (Some binding) = binding ∷ []

none_listed : (b : Bool) (found : Option Binding) (rest : List Binding) → found ≡ None →
    cond b (listed found) [] ++ rest ≡ rest
none_listed true found rest e = ap (λ o. listed o ++ rest) e
none_listed false found rest e = refl

not_listed : (b : Bool) (found : Option Binding) (rest : List Binding) → b ≡ false →
    cond b (listed found) [] ++ rest ≡ rest
not_listed true found rest e = cc
not_listed false found rest e = refl

one_listed : (b : Bool) (found : Option Binding) (one : Binding) (rest : List Binding) →
    b ≡ true → found ≡ Some one → cond b (listed found) [] ++ rest ≡ one ∷ rest
one_listed true found one rest t e = ap (λ o. listed o ++ rest) e
one_listed false found one rest t e = cc

module _ (Sound : ℕ → Region → Region → Type 0) (program : Program) (caller : Instance)
    (first : Numbering) where
  -- what a parameter takes, and the array that its actual stands for
  pub data IsGiven (one : Parameter) (actual : Expr) : Given → Type 0 where
    ByValue : (base : Base) (scalar : ℕ) → one.kind ≡ kind.Scalar base →
        actual_array program caller one.name actual ≡ None → IsGiven one actual (Valued scalar)
    ByName : (base : Base) (place : ℕ) → one.kind ≡ kind.Scalar base →
        actual_array program caller one.name actual ≡ None →
        IsGiven one actual (Referring (Scalar place))
    ByArray : (base : Base) (shape : Option Shape) (place : ℕ) (home : Region)
        (array : ExpandedArray) → one.kind ≡ kind.Array base shape → one.name.by_ref ≡ true →
        actual_array program caller one.name actual ≡ Some (binding_for one.name.name.text array) →
        IsNumber Sound first place home array → IsGiven one actual (Referring (ArrayAt place home))
    ByCopy : (base : Base) (shape : Option Shape) (from : Stored) (home : Region)
        (array : ExpandedArray) → one.kind ≡ kind.Array base shape → one.name.by_ref ≡ false →
        actual_array program caller one.name actual ≡ Some (binding_for one.name.name.text array) →
        Sound array.storage home from.storage → IsGiven one actual (Copied from home)

  abbrev pub AreGiven : List Parameter → Exprs → List Given → Type 0
  AreGiven [] NoExpr [] = Unit {0}
  AreGiven (one ∷ rest) (ThenExpr actual actuals) (given ∷ givens) =
      IsGiven one actual given × AreGiven rest actuals givens
  AreGiven parameters actuals givens = ⊥

  module _ (path : List ℕ) (all : List FormalName) where
    abbrev copies : List Binding → List Binding
    copies bindings = map (copy_of path all) bindings

    abbrev values : List Parameter → Exprs → List Binding
    values parameters actuals =
        actual_arrays program caller false (map formal_of parameters) actuals

    abbrev references : List Parameter → Exprs → List Binding
    references parameters actuals =
        actual_arrays program caller true (map formal_of parameters) actuals

    pub formals_walked : (parameters : List Parameter) (actuals : Exprs) (givens : List Given)
        (line : ℕ) (frame : Framed) (next : Next) (before others : List Name) (xs : List Entry)
        (referred own : List Binding) → AreGiven parameters actuals givens →
        repeated before (map name_of parameters ++ others) ≡ [] →
        IsWalked Sound first before xs frame.names referred own frame.numbers.arrays next.arrays →
        (let last = given_frames line (map formal_of parameters) givens frame next in
        IsWalked Sound first (seen before (map name_of parameters)) (xs ++ map entry_of parameters)
        last.frame.names (referred ++ references parameters actuals)
        (own ++ copies (values parameters actuals)) last.frame.numbers.arrays last.next.arrays)
    formals_walked [] NoExpr [] line frame next before others xs referred own are once walked =
        subst (λ ys. IsWalked Sound first before ys frame.names (referred ++ []) (own ++ [])
        frame.numbers.arrays next.arrays) (sym (append-nil xs))
        (subst (λ bs. IsWalked Sound first before xs frame.names bs (own ++ []) frame.numbers.arrays
        next.arrays) (sym (append-nil referred))
        (subst (λ bs. IsWalked Sound first before xs frame.names referred bs frame.numbers.arrays
        next.arrays) (sym (append-nil own)) walked))
    formals_walked [] (ThenExpr actual actuals) givens line frame next before others xs referred own
        are once walked = absurd are
    formals_walked [] NoExpr (given ∷ givens) line frame next before others xs referred own are once
        walked = absurd are
    formals_walked (one ∷ rest) NoExpr givens line frame next before others xs referred own are once
        walked = absurd are
    formals_walked (one ∷ rest) (ThenExpr actual actuals) [] line frame next before others xs
        referred own are once walked = absurd are
    formals_walked (one ∷ rest) (ThenExpr actual actuals) (given ∷ givens) line frame next before
        others xs referred own are once walked =
        by given are.0 (formals_walked rest actuals givens line)
      where
        name : Name
        name = one.name.name

        parts : (has_name before name.text ≡ false)
            × (repeated (name ∷ before) (map name_of rest ++ others) ≡ [])
        parts = once_first before name (map name_of rest ++ others) once

        found : Option Binding
        found = actual_array program caller one.name actual

        -- what comes behind, as the lists of all have it
        whole : (names : Names) (rs os : List Binding) (arrays : List Stored) (bound : ℕ) →
            rs ≡ referred ++ references (one ∷ rest) (ThenExpr actual actuals) →
            os ≡ own ++ copies (values (one ∷ rest) (ThenExpr actual actuals)) →
            IsWalked Sound first (seen (name ∷ before) (map name_of rest))
            ((xs ++ entry_of one ∷ []) ++ map entry_of rest) names rs os arrays bound →
            IsWalked Sound first (seen (name ∷ before) (map name_of rest))
            (xs ++ map entry_of (one ∷ rest)) names
            (referred ++ references (one ∷ rest) (ThenExpr actual actuals))
            (own ++ copies (values (one ∷ rest) (ThenExpr actual actuals))) arrays bound
        whole names rs os arrays bound same alike is =
            subst (λ ys. IsWalked Sound first (seen (name ∷ before) (map name_of rest)) ys names
            (referred ++ references (one ∷ rest) (ThenExpr actual actuals))
            (own ++ copies (values (one ∷ rest) (ThenExpr actual actuals))) arrays bound)
            (append_assoc xs (entry_of one ∷ []) (map entry_of rest))
            (subst (λ bs. IsWalked Sound first (seen (name ∷ before) (map name_of rest))
            ((xs ++ entry_of one ∷ []) ++ map entry_of rest) names bs
            (own ++ copies (values (one ∷ rest) (ThenExpr actual actuals))) arrays bound) same
            (subst (λ bs. IsWalked Sound first (seen (name ∷ before) (map name_of rest))
            ((xs ++ entry_of one ∷ []) ++ map entry_of rest) names rs bs arrays bound) alike is))

        no_reference : found ≡ None →
            referred ++ references rest actuals ≡
            referred ++ references (one ∷ rest) (ThenExpr actual actuals)
        no_reference e =
            ap (λ bs. referred ++ bs)
            (sym (none_listed one.name.by_ref found (references rest actuals) e))

        no_copy : found ≡ None →
            own ++ copies (values rest actuals) ≡
            own ++ copies (values (one ∷ rest) (ThenExpr actual actuals))
        no_copy e =
            ap (λ bs. own ++ copies bs)
            (sym (none_listed (not one.name.by_ref) found (values rest actuals) e))

        by : (given : Given) → IsGiven one actual given →
            ((frame : Framed) (next : Next) (before others : List Name) (xs : List Entry)
            (referred own : List Binding) → AreGiven rest actuals givens →
            repeated before (map name_of rest ++ others) ≡ [] →
            IsWalked Sound first before xs frame.names referred own frame.numbers.arrays next.arrays →
            (let last = given_frames line (map formal_of rest) givens frame next in
            IsWalked Sound first (seen before (map name_of rest)) (xs ++ map entry_of rest)
            last.frame.names (referred ++ references rest actuals)
            (own ++ copies (values rest actuals)) last.frame.numbers.arrays last.next.arrays)) →
            (let last = given_frames line (map formal_of (one ∷ rest)) (given ∷ givens) frame next
            in
            IsWalked Sound first (seen before (map name_of (one ∷ rest)))
            (xs ++ map entry_of (one ∷ rest)) last.frame.names
            (referred ++ references (one ∷ rest) (ThenExpr actual actuals))
            (own ++ copies (values (one ∷ rest) (ThenExpr actual actuals)))
            last.frame.numbers.arrays last.next.arrays)
        by (Valued scalar) (ByValue base number is none) later =
            let inner = given_frame line name (Valued scalar) frame next in
            whole _ _ _ _ _ (no_reference none) (no_copy none)
            (later inner.frame inner.next (name ∷ before) others (xs ++ entry_of one ∷ []) referred
            own are.1 parts.1
            (subst (λ k. IsWalked Sound first (name ∷ before) (xs ++ entry_for k name ∷ [])
            inner.frame.names referred own inner.frame.numbers.arrays inner.next.arrays) (sym is)
            (scalar_step Sound first before xs frame.names referred own frame.numbers.arrays next.arrays
            name base (length frame.numbers.scalars) parts.0 walked)))
        by (Referring thing) (ByName base place is none) later =
            let inner = given_frame line name (Referring (Scalar place)) frame next in
            whole _ _ _ _ _ (no_reference none) (no_copy none)
            (later inner.frame inner.next (name ∷ before) others (xs ++ entry_of one ∷ []) referred
            own are.1 parts.1
            (subst (λ k. IsWalked Sound first (name ∷ before) (xs ++ entry_for k name ∷ [])
            inner.frame.names referred own inner.frame.numbers.arrays inner.next.arrays) (sym is)
            (scalar_step Sound first before xs frame.names referred own frame.numbers.arrays next.arrays
            name base place parts.0 walked)))
        by (Referring thing) (ByArray base shape place home array is ref has number) later =
            let inner = given_frame line name (Referring (ArrayAt place home)) frame next in
            let binding = binding_for name.text array in
            whole _ _ _ _ _
            (append_assoc referred (binding ∷ []) (references rest actuals)
            ∙ ap (λ bs. referred ++ bs)
            (sym (one_listed one.name.by_ref found binding (references rest actuals) ref has)))
            (ap (λ bs. own ++ copies bs)
            (sym (not_listed (not one.name.by_ref) found (values rest actuals) (ap not ref))))
            (later inner.frame inner.next (name ∷ before) others (xs ++ entry_of one ∷ [])
            (referred ++ binding ∷ []) own are.1 parts.1
            (subst (λ k. IsWalked Sound first (name ∷ before) (xs ++ entry_for k name ∷ [])
            inner.frame.names (referred ++ binding ∷ []) own inner.frame.numbers.arrays
            inner.next.arrays) (sym is)
            (refer_step Sound first before xs frame.names referred own frame.numbers.arrays next.arrays
            name base shape place home array number parts.0 walked)))
        by (Copied from home) (ByCopy base shape stored box array is ref has sound) later =
            let inner = given_frame line name (Copied from home) frame next in
            let binding = binding_for name.text array in
            let copied = copy_of path all binding in
            whole _ _ _ _ _
            (ap (λ bs. referred ++ bs)
            (sym (not_listed one.name.by_ref found (references rest actuals) ref)))
            (append_assoc own (copied ∷ []) (copies (values rest actuals))
            ∙ ap (λ bs. own ++ copies bs)
            (sym (one_listed (not one.name.by_ref) found binding (values rest actuals) (ap not ref)
            has)))
            (later inner.frame inner.next (name ∷ before) others (xs ++ entry_of one ∷ []) referred
            (own ++ copied ∷ []) are.1 parts.1
            (subst (λ k. IsWalked Sound first (name ∷ before) (xs ++ entry_for k name ∷ [])
            inner.frame.names referred (own ++ copied ∷ []) inner.frame.numbers.arrays
            inner.next.arrays) (sym is)
            (array_step Sound first before xs frame.names referred own frame.numbers.arrays next.arrays
            name base shape home from.storage copied.array sound parts.0 walked)))

-- ---- local variables

module _ (Sound : ℕ → Region → Region → Type 0) (first : Numbering) (setup : Setup) (entry : CallEntry) (scope : Scope)
    (path : List ℕ) where
  abbrev own_of : Bracket → List Name → List Binding
  own_of NoBracket names = []
  own_of (Bracketed inner) names =
      map (λ (name : Name). binding_for name.text (array_at path name)) names

  names_walked : (shape : Bracket) (base : Base) (names others : List Name) (frame : Framed)
      (next : Next) (before : List Name) (xs : List Entry) (referred own : List Binding) →
      repeated before (names ++ others) ≡ [] → SoundOver Sound setup.known setup.borders shape names →
      IsWalked Sound first before xs frame.names referred own frame.numbers.arrays next.arrays →
      (let last = name_frames setup entry shape names frame next in
      IsWalked Sound first (seen before names) (xs ++ map (entry_for (variable_kind scope shape base)) names)
      last.frame.names referred (own ++ own_of shape names) last.frame.numbers.arrays
      last.next.arrays)
  names_walked NoBracket base [] others frame next before xs referred own once sound walked =
      subst (λ ys. IsWalked Sound first before ys frame.names referred (own ++ []) frame.numbers.arrays
      next.arrays) (sym (append-nil xs))
      (subst (λ bs. IsWalked Sound first before xs frame.names referred bs frame.numbers.arrays
      next.arrays) (sym (append-nil own)) walked)
  names_walked (Bracketed inner) base [] others frame next before xs referred own once sound walked =
      subst (λ ys. IsWalked Sound first before ys frame.names referred (own ++ []) frame.numbers.arrays
      next.arrays) (sym (append-nil xs))
      (subst (λ bs. IsWalked Sound first before xs frame.names referred bs frame.numbers.arrays
      next.arrays) (sym (append-nil own)) walked)
  names_walked NoBracket base (name ∷ names) others frame next before xs referred own once sound walked =
      let parts = once_first before name (names ++ others) once in
      let one = entry_for (kind.Scalar base) name ∷ [] in
      let inner = local_frame setup entry NoBracket name frame next in
      let last = name_frames setup entry NoBracket names inner.frame inner.next in
      subst (λ ys. IsWalked Sound first (seen (name ∷ before) names) ys last.frame.names referred
      (own ++ []) last.frame.numbers.arrays last.next.arrays)
      (append_assoc xs one (map (entry_for (kind.Scalar base)) names))
      (names_walked NoBracket base names others inner.frame inner.next (name ∷ before) (xs ++ one)
      referred own parts.1 tt
      (subst (λ bound. IsWalked Sound first (name ∷ before) (xs ++ one) inner.frame.names referred own
      inner.frame.numbers.arrays bound) (omega arith)
      (scalar_step Sound first before xs frame.names referred own frame.numbers.arrays next.arrays name
      base (length frame.numbers.scalars) parts.0 walked)))
  names_walked (Bracketed region) base (name ∷ names) others frame next before xs referred own once
      sound walked =
      let parts = once_first before name (names ++ others) once in
      let kind = variable_kind scope (Bracketed region) base in
      let one = entry_for kind name ∷ [] in
      let binding = binding_for name.text (array_at path name) in
      let inner = local_frame setup entry (Bracketed region) name frame next in
      let last = name_frames setup entry (Bracketed region) names inner.frame inner.next in
      subst (λ ys. IsWalked Sound first (seen (name ∷ before) names) ys last.frame.names referred
      (own ++ own_of (Bracketed region) (name ∷ names)) last.frame.numbers.arrays last.next.arrays)
      (append_assoc xs one (map (entry_for kind) names))
      (subst (λ bs. IsWalked Sound first (seen (name ∷ before) names)
      ((xs ++ one) ++ map (entry_for kind) names) last.frame.names referred bs
      last.frame.numbers.arrays last.next.arrays)
      (append_assoc own (binding ∷ []) (own_of (Bracketed region) names))
      (names_walked (Bracketed region) base names others inner.frame inner.next (name ∷ before)
      (xs ++ one) referred (own ++ binding ∷ []) parts.1 sound.1
      (array_step Sound first before xs frame.names referred own frame.numbers.arrays next.arrays name
      base _ _ _ (array_at path name) sound.0 parts.0 walked)))

  pub locals_walked : (vars : List VarDef) (frame : Framed) (next : Next) (before : List Name)
      (xs : List Entry) (referred own : List Binding) →
      repeated before (flat_map (λ var. var.names) vars) ≡ [] →
      SoundVars Sound setup.known setup.borders vars →
      IsWalked Sound first before xs frame.names referred own frame.numbers.arrays next.arrays →
      (let last = local_frames setup entry vars frame next in
      IsWalked Sound first (seen before (flat_map (λ var. var.names) vars))
      (xs ++ flat_map (λ var. map (entry_for (variable_kind scope var.shape var.base)) var.names)
      vars) last.frame.names referred (own ++ local_arrays path vars) last.frame.numbers.arrays
      last.next.arrays)
  locals_walked [] frame next before xs referred own once sound walked =
      subst (λ ys. IsWalked Sound first before ys frame.names referred (own ++ []) frame.numbers.arrays
      next.arrays) (sym (append-nil xs))
      (subst (λ bs. IsWalked Sound first before xs frame.names referred bs frame.numbers.arrays
      next.arrays) (sym (append-nil own)) walked)
  locals_walked (var ∷ vars) frame next before xs referred own once sound walked =
      by var.shape sound.0
      (λ frame next before xs referred own once walked.
      locals_walked vars frame next before xs referred own once sound.1 walked)
    where
      others : List Name
      others = flat_map (λ var. var.names) vars

      entries : Bracket → List Entry
      entries shape = map (entry_for (variable_kind scope shape var.base)) var.names

      behind : List Entry
      behind = flat_map
          (λ var. map (entry_for (variable_kind scope var.shape var.base)) var.names) vars

      seen_both : (before names more : List Name) →
          seen before (names ++ more) ≡ seen (seen before names) more
      seen_both before [] more = refl
      seen_both before (name ∷ names) more = seen_both (name ∷ before) names more

      by : (shape : Bracket) → SoundOver Sound setup.known setup.borders shape var.names →
          ((frame : Framed) (next : Next) (before : List Name) (xs : List Entry)
          (referred own : List Binding) → repeated before others ≡ [] →
          IsWalked Sound first before xs frame.names referred own frame.numbers.arrays next.arrays →
          (let last = local_frames setup entry vars frame next in
          IsWalked Sound first (seen before others) (xs ++ behind) last.frame.names referred
          (own ++ local_arrays path vars) last.frame.numbers.arrays last.next.arrays)) →
          (let one = name_frames setup entry shape var.names frame next in
          let last = local_frames setup entry vars one.frame one.next in
          IsWalked Sound first (seen before (var.names ++ others)) (xs ++ (entries shape ++ behind))
          last.frame.names referred
          (own ++ local_arrays path (record var { shape = shape } ∷ vars))
          last.frame.numbers.arrays last.next.arrays)
      by NoBracket good later =
          let one = name_frames setup entry NoBracket var.names frame next in
          let last = local_frames setup entry vars one.frame one.next in
          subst (λ ns. IsWalked Sound first ns (xs ++ (entries NoBracket ++ behind)) last.frame.names
          referred (own ++ local_arrays path vars) last.frame.numbers.arrays last.next.arrays)
          (sym (seen_both before var.names others))
          (subst (λ ys. IsWalked Sound first (seen (seen before var.names) others) ys last.frame.names
          referred (own ++ local_arrays path vars) last.frame.numbers.arrays last.next.arrays)
          (append_assoc xs (entries NoBracket) behind)
          (later one.frame one.next (seen before var.names) (xs ++ entries NoBracket)
          referred own (once_rest before var.names others once)
          (subst (λ bs. IsWalked Sound first (seen before var.names) (xs ++ entries NoBracket)
          one.frame.names referred bs one.frame.numbers.arrays one.next.arrays) (append-nil own)
          (names_walked NoBracket var.base var.names others frame next before xs referred own once
          good walked))))
      by (Bracketed region) good later =
          let one = name_frames setup entry (Bracketed region) var.names frame next in
          let last = local_frames setup entry vars one.frame one.next in
          let mine = own_of (Bracketed region) var.names in
          subst (λ ns. IsWalked Sound first ns (xs ++ (entries (Bracketed region) ++ behind))
          last.frame.names referred (own ++ (mine ++ local_arrays path vars))
          last.frame.numbers.arrays last.next.arrays)
          (sym (seen_both before var.names others))
          (subst (λ ys. IsWalked Sound first (seen (seen before var.names) others) ys last.frame.names
          referred (own ++ (mine ++ local_arrays path vars)) last.frame.numbers.arrays
          last.next.arrays) (append_assoc xs (entries (Bracketed region)) behind)
          (subst (λ bs. IsWalked Sound first (seen (seen before var.names) others)
          ((xs ++ entries (Bracketed region)) ++ behind) last.frame.names referred bs
          last.frame.numbers.arrays last.next.arrays)
          (append_assoc own mine (local_arrays path vars))
          (later one.frame one.next (seen before var.names)
          (xs ++ entries (Bracketed region)) referred (own ++ mine)
          (once_rest before var.names others once)
          (names_walked (Bracketed region) var.base var.names others frame next before xs referred
          own once good walked))))
