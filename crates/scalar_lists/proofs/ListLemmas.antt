-- Lemmas on the values of several terms.
use Rattle.std.proofs.Common.{◌≡◌, Bool, true, false, ◌||◌, List, [], ◌∷◌, ◌++◌, map, ℤ, refl, sym, ◌∙◌, ap, subst, append_assoc, append-nil}
use Rattle.std.specs.List.{list_any}
use Rattle.zpl_nums.specs.declared.ends.TrapKind.TheVariants.{DivideByZero}
use Rattle.zpl_meaning.specs.Computed.{Computed, Gives, Traps, both_then, computed_then}
use Rattle.zpl_meaning.specs.Fields.{Field, fields_of}
use Rattle.zpl_meaning.specs.Phases.{scalar_values}
use Rattle.zpl_meaning.specs.Store.{Store}
use Rattle.zpl_meaning.specs.Term.{Term, Terms, NoTerm, ThenTerm}
use Rattle.array_totals.specs.Total.{Total, computed_if, computed_map, field_of_total, total_of, totals_of}
use Rattle.array_totals.proofs.TotalLemmas.{all_are_totals}
use Rattle.array_stops.specs.declared.stops.Stop.{Stop}
use Rattle.array_stops.specs.declared.stops.Stop.TheVariants.{Trap, NoMemory}
use Rattle.array_stops.specs.Answer.{Stops}
use Rattle.array_scalars.specs.declared.scalars.Scalar.{Scalar}
use Rattle.array_scalars.specs.Scalar.{scalar_in, scalar_of}
use Rattle.scalar_lists.specs.Scalars.{Scalars, scalars_in, scalars_of, scalars_with}
use Rattle.array_scalars.proofs.ScalarLemmas.{scalar_told}

pub record AreScalars (store : Store) (before : List ℤ) (terms : Terms) (now : List ℤ) (missed : Bool) : Type 0 where
  pub totals : List Total
  pub is : totals_of store terms ≡ Gives totals
  pub values : now ≡ before ++ map (λ (total : Total). total.value []) totals
  pub misses : missed ≡ list_any (λ (total : Total). total.is_bad []) totals

same_scalars : (a b : Scalars) → ◌≡◌ {A = Computed Scalars} (Gives a) (Gives b) → a ≡ b
same_scalars a b e = cc

pub scalars_told : (store : Store) (before : List ℤ) (terms : Terms) (now : List ℤ) (missed : Bool) → scalars_in store before terms ≡ Gives (scalars_with now missed) → AreScalars store before terms now missed
scalars_told store before terms now missed e = by (totals_of store terms) refl e
  where
    by : (c : Computed (List Total)) → totals_of store terms ≡ c → computed_map (scalars_of before) c ≡ Gives (scalars_with now missed) → AreScalars store before terms now missed
    by (Gives totals) is h =
        let same : scalars_of before totals ≡ scalars_with now missed = same_scalars (scalars_of before totals) (scalars_with now missed) h in
        record { totals = totals; is = is; values = sym (ap (λ (r : Scalars). r.values) same); misses = sym (ap (λ (r : Scalars). r.misses) same) }
    by (Traps kind) is h = absurd (cc)

pub scalars_more : (store : Store) (before : List ℤ) (first : Term) (rest : Terms) (scalar : Scalar) (value : ℤ) (mid now : List ℤ) (others : Bool) → scalar_in store first ≡ Gives scalar → value ≡ scalar.value
    → mid ≡ before ++ value ∷ [] → scalars_in store mid rest ≡ Gives (scalars_with now others)
    → scalars_in store before (ThenTerm first rest) ≡ Gives (scalars_with now (scalar.misses || others))
scalars_more store before first rest scalar value mid now others e v is f =
    let w = scalar_told store first scalar e in
    let u = scalars_told store mid rest now others f in
    let all = w.total ∷ u.totals in
    let at : value ≡ w.total.value [] = v ∙ sym (ap (λ (s : Scalar). s.value) w.value) in
    let values : now ≡ before ++ map (λ (total : Total). total.value []) all =
    u.values ∙ (ap (λ (l : List ℤ). l ++ map (λ (total : Total). total.value []) u.totals) (is ∙ ap (λ (z : ℤ). before ++ z ∷ []) at)
    ∙ append_assoc before (w.total.value [] ∷ []) (map (λ (total : Total). total.value []) u.totals)) in
    let misses : (scalar.misses || others) ≡ list_any (λ (total : Total). total.is_bad []) all =
    ap (λ b. b || others) (sym (ap (λ (s : Scalar). s.misses) w.value)) ∙ ap (λ b. w.total.is_bad [] || b) u.misses in
    ap (λ c. computed_map (scalars_of before) (both_then c (totals_of store rest) (λ t ts. Gives (t ∷ ts)))) w.is
    ∙ (ap (λ c. computed_map (scalars_of before) (both_then (Gives w.total) c (λ t ts. Gives (t ∷ ts)))) u.is
    ∙ ap Gives (sym (ap (λ (l : List ℤ). scalars_with l (scalar.misses || others)) values ∙ ap (scalars_with (before ++ map (λ (total : Total). total.value []) all)) misses)))

pub first_stops : (stop : Stop) (store : Store) (before : List ℤ) (first : Term) (rest : Terms) → Stops stop (scalar_in store first) → Stops stop (scalars_in store before (ThenTerm first rest))
first_stops NoMemory store before first rest h = tt
first_stops (Trap kind) store before first rest h = by (total_of store first) h
  where
    by : (c : Computed Total) → computed_map scalar_of c ≡ Traps kind → computed_map (scalars_of before) (both_then c (totals_of store rest) (λ t ts. Gives (t ∷ ts))) ≡ Traps kind
    by (Gives total) e = absurd (cc)
    by (Traps k) e = let same : k ≡ kind = cc in ap Traps same

pub rest_stops : (stop : Stop) (store : Store) (before mid : List ℤ) (first : Term) (rest : Terms) (scalar : Scalar) → scalar_in store first ≡ Gives scalar → Stops stop (scalars_in store mid rest)
    → Stops stop (scalars_in store before (ThenTerm first rest))
rest_stops NoMemory store before mid first rest scalar e h = tt
rest_stops (Trap kind) store before mid first rest scalar e h =
    let w = scalar_told store first scalar e in
    ap (λ c. computed_map (scalars_of before) (both_then c (totals_of store rest) (λ t ts. Gives (t ∷ ts)))) w.is ∙ by w.total (totals_of store rest) h
  where
    by : (t : Total) (c : Computed (List Total)) → computed_map (scalars_of mid) c ≡ Traps kind → computed_map (scalars_of before) (both_then (Gives t) c (λ u us. Gives (u ∷ us))) ≡ Traps kind
    by t (Gives totals) i = absurd (cc)
    by t (Traps k) i = let same : k ≡ kind = cc in ap Traps same

pub none_is : (before : List ℤ) → scalars_of before [] ≡ scalars_with before false
none_is before = ap (λ (l : List ℤ). scalars_with l false) (append-nil before)

-- ---- as the meaning has them

abbrev values_if_sure : Bool → List ℤ → Computed (List ℤ)
values_if_sure true values = Traps DivideByZero
values_if_sure false values = Gives values

each_value : (totals : List Total) → scalar_values (map field_of_total totals) ≡ values_if_sure (list_any (λ (total : Total). total.is_bad []) totals) (map (λ (total : Total). total.value []) totals)
each_value [] = refl
each_value (total ∷ totals) =
    ap (λ c. both_then (computed_if (total.is_bad []) (total.value [])) c (λ v vs. Gives (v ∷ vs))) (each_value totals)
    ∙ by (total.is_bad []) (list_any (λ (t : Total). t.is_bad []) totals)
  where
    by : (a b : Bool) → both_then (computed_if a (total.value [])) (values_if_sure b (map (λ (t : Total). t.value []) totals)) (λ v vs. Gives (v ∷ vs))
        ≡ values_if_sure (a || b) (total.value [] ∷ map (λ (t : Total). t.value []) totals)
    by true true = refl
    by true false = refl
    by false true = refl
    by false false = refl

fields_are : (store : Store) (terms : Terms) → computed_then (fields_of store terms) scalar_values ≡ computed_then (computed_map (map field_of_total) (totals_of store terms)) scalar_values
fields_are store terms = ap (λ (c : Computed (List Field)). computed_then c scalar_values) (all_are_totals store terms)

pub values_given : (store : Store) (before : List ℤ) (terms : Terms) (now : List ℤ) (missed : Bool) → before ≡ [] → missed ≡ false → AreScalars store before terms now missed
    → computed_then (fields_of store terms) scalar_values ≡ Gives now
values_given store before terms now missed none good w =
    fields_are store terms
    ∙ (ap (λ (c : Computed (List Total)). computed_then (computed_map (map field_of_total) c) scalar_values) w.is
    ∙ (each_value w.totals
    ∙ (ap (λ b. values_if_sure b (map (λ (total : Total). total.value []) w.totals)) (sym w.misses ∙ good)
    ∙ ap Gives (sym (w.values ∙ ap (λ (l : List ℤ). l ++ map (λ (total : Total). total.value []) w.totals) none)))))

pub values_trap : (store : Store) (before : List ℤ) (terms : Terms) (now : List ℤ) (missed : Bool) → missed ≡ true → AreScalars store before terms now missed
    → computed_then (fields_of store terms) scalar_values ≡ Traps DivideByZero
values_trap store before terms now missed bad w =
    fields_are store terms
    ∙ (ap (λ (c : Computed (List Total)). computed_then (computed_map (map field_of_total) c) scalar_values) w.is
    ∙ (each_value w.totals ∙ ap (λ b. values_if_sure b (map (λ (total : Total). total.value []) w.totals)) (sym w.misses ∙ bad)))

pub values_stop : (stop : Stop) (store : Store) (before : List ℤ) (terms : Terms) → Stops stop (scalars_in store before terms) → Stops stop (computed_then (fields_of store terms) scalar_values)
values_stop NoMemory store before terms h = tt
values_stop (Trap kind) store before terms h = fields_are store terms ∙ by (totals_of store terms) h
  where
    by : (c : Computed (List Total)) → computed_map (scalars_of before) c ≡ Traps kind → computed_then (computed_map (map field_of_total) c) scalar_values ≡ Traps kind
    by (Gives totals) e = absurd (cc)
    by (Traps k) e = let same : k ≡ kind = cc in ap Traps same
