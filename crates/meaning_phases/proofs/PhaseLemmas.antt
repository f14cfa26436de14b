-- A computation that is these phases, one after the other.
use Rattle.std.proofs.Common.{◌≡◌, inl, inr, ℕ, Bool, true, false, ◌&&◌, List}
use Rattle.std.proofs.Common.{refl, ap, ◌∙◌}
use Rattle.zpl_nums.specs.declared.ends.TrapKind.{TrapKind}
use Rattle.zpl_nums.specs.declared.ends.TrapKind.TheVariants.{OutsideStorage, RegionMismatch}
use Rattle.zpl_meaning.specs.Computed.{Computed, Gives, Traps, computed_then, provided}
use Rattle.zpl_meaning.specs.Store.{Store}
use Rattle.zpl_meaning.specs.Context.{Place}
use Rattle.zpl_meaning.specs.Term.{Terms}
use Rattle.zpl_meaning.specs.Settled.{Placed, settled_each}
use Rattle.zpl_meaning.specs.Checks.{conform, refer}
use Rattle.zpl_meaning.specs.Fields.{Field, fields_of}
use Rattle.zpl_meaning.specs.Phases.{fields_in}
use Rattle.zpl_meaning.specs.Outcome.{Outcome, with_value}
use Rattle.meaning_phases.specs.Phased.{Phases, Fails, InRegions, InConformity, InReferences}
use Rattle.meaning_phases.specs.Phased.{InValues, Has, FailsOrHas, IsComputedIn, IsRunIn}
use Rattle.meaning_phases.specs.Statements.{phases_of}

-- ---- the four phases before the effect

abbrev pub checked : {A : Type 0} → Computed Terms → (Terms → Bool) → (Terms → Bool)
    → (Terms → Computed A) → Computed A
checked regions conformity references next =
    computed_then regions (λ terms.
    provided (conformity terms) RegionMismatch (λ _.
    provided (references terms) OutsideStorage (λ _. next terms)))

abbrev pub computed_by : {Values Effect : Type 0} → Phases Values Effect → Computed Values
computed_by phases = checked phases.regions phases.conformity phases.references phases.values

module _ {Values Effect : Type 0} (phases : Phases Values Effect) where
  pub failed : (kind : TrapKind) → Fails phases kind → computed_by phases ≡ Traps kind
  failed kind (InRegions same is) =
      ap (λ regions. checked regions phases.conformity phases.references phases.values) is
  failed kind (InConformity terms is conforms) =
      ap (λ regions. checked regions phases.conformity phases.references phases.values) is
      ∙ ap (λ b. provided b RegionMismatch (λ _. provided (phases.references terms) OutsideStorage
      (λ _. phases.values terms))) conforms
  failed kind (InReferences terms is conforms refers) =
      ap (λ regions. checked regions phases.conformity phases.references phases.values) is
      ∙ ap (λ b. provided b RegionMismatch (λ _. provided (phases.references terms) OutsideStorage
      (λ _. phases.values terms))) conforms
      ∙ ap (λ b. provided b OutsideStorage (λ _. phases.values terms)) refers
  failed kind (InValues terms same is conforms refers values) =
      ap (λ regions. checked regions phases.conformity phases.references phases.values) is
      ∙ ap (λ b. provided b RegionMismatch (λ _. provided (phases.references terms) OutsideStorage
      (λ _. phases.values terms))) conforms
      ∙ ap (λ b. provided b OutsideStorage (λ _. phases.values terms)) refers
      ∙ values

  pub worked : (values : Values) → Has phases values → computed_by phases ≡ Gives values
  worked values h =
      ap (λ regions. checked regions phases.conformity phases.references phases.values) h.regions
      ∙ ap (λ b. provided b RegionMismatch (λ _. provided (phases.references h.terms)
      OutsideStorage (λ _. phases.values h.terms))) h.conforms
      ∙ ap (λ b. provided b OutsideStorage (λ _. phases.values h.terms)) h.refers
      ∙ h.computed

  pub decided : FailsOrHas phases
  decided = by phases.regions refl
    where
      at_values : (terms : Terms) → phases.regions ≡ Gives terms
          → phases.conformity terms ≡ true → phases.references terms ≡ true
          → (computed : Computed Values) → phases.values terms ≡ computed → FailsOrHas phases
      at_values terms is conforms refers (Gives values) has = inr (
        values,
        record {
          terms = terms;
          regions = is;
          conforms = conforms;
          refers = refers;
          computed = has;
        },
      )
      at_values terms is conforms refers (Traps kind) has =
          inl (kind, InValues terms kind is conforms refers has)

      at_references : (terms : Terms) → phases.regions ≡ Gives terms
          → phases.conformity terms ≡ true → (b : Bool) → phases.references terms ≡ b
          → FailsOrHas phases
      at_references terms is conforms true refers =
          at_values terms is conforms refers (phases.values terms) refl
      at_references terms is conforms false refers =
          inl (OutsideStorage, InReferences terms is conforms refers)

      at_conformity : (terms : Terms) → phases.regions ≡ Gives terms → (b : Bool)
          → phases.conformity terms ≡ b → FailsOrHas phases
      at_conformity terms is true conforms =
          at_references terms is conforms (phases.references terms) refl
      at_conformity terms is false conforms =
          inl (RegionMismatch, InConformity terms is conforms)

      by : (computed : Computed Terms) → phases.regions ≡ computed → FailsOrHas phases
      by (Gives terms) is = at_conformity terms is (phases.conformity terms) refl
      by (Traps kind) is = inl (kind, InRegions kind is)

  pub computed_in : (computed : Computed Effect)
      → computed ≡ computed_then (computed_by phases) (λ values. Gives (phases.effect values))
      → IsComputedIn phases computed
  computed_in computed same = record {
    fails = λ kind h. same ∙ ap (λ c. computed_then c (λ values. Gives (phases.effect values)))
        (failed kind h);
    has = λ values h. same ∙ ap (λ c. computed_then c (λ values. Gives (phases.effect values)))
        (worked values h);
    decided = decided;
  }

pub run_in : {Values : Type 0} (phases : Phases Values Outcome) (store : Store) (line : ℕ)
    (outcome : Outcome) → outcome ≡ with_value (computed_by phases) store line phases.effect
    → IsRunIn phases store line outcome
run_in phases store line outcome same = record {
  fails = λ kind h. same ∙ ap (λ c. with_value c store line phases.effect) (failed phases kind h);
  has = λ values h. same ∙ ap (λ c. with_value c store line phases.effect) (worked phases values h);
  decided = decided phases;
}

-- ---- statements with expressions

module _ {A B : Type 0} where
  pub then_then : {C : Type 0} (first : Computed A) (next : A → Computed B) (last : B → Computed C)
      → computed_then (computed_then first next) last
      ≡ computed_then first (λ a. computed_then (next a) last)
  then_then (Gives value) next last = refl
  then_then (Traps kind) next last = refl

  pub with_then : (first : Computed A) (next : A → B) (store : Store) (line : ℕ)
      (last : B → Outcome)
      → with_value (computed_then first (λ a. Gives (next a))) store line last
      ≡ with_value first store line (λ a. last (next a))
  with_then (Gives value) next store line last = refl
  with_then (Traps kind) next store line last = refl

-- what goes on with the fields of a statement's expressions
pub fields_then : {Values Effect : Type 0} (place : Place) (store : Store) (own : Bool)
    (exprs : List Placed) (rest : List Field → Computed Values) (effect : Values → Effect)
    → computed_then (fields_in place store own exprs) rest
    ≡ computed_by (phases_of place store own exprs rest effect)
fields_then place store own exprs rest effect =
    by (settled_each place store exprs)
  where
    at_references : (terms : Terms) (b : Bool)
        → computed_then (provided b OutsideStorage (λ _. fields_of store terms)) rest
        ≡ provided b OutsideStorage (λ _. computed_then (fields_of store terms) rest)
    at_references terms true = refl
    at_references terms false = refl

    at_conformity : (terms : Terms) (b : Bool)
        → computed_then (provided b RegionMismatch (λ _.
        provided (own && refer store terms) OutsideStorage (λ _. fields_of store terms))) rest
        ≡ provided b RegionMismatch (λ _. provided (own && refer store terms) OutsideStorage (λ _.
        computed_then (fields_of store terms) rest))
    at_conformity terms true = at_references terms (own && refer store terms)
    at_conformity terms false = refl

    by : (settled : Computed Terms)
        → computed_then (computed_then settled (λ terms.
        provided (conform terms) RegionMismatch (λ _.
        provided (own && refer store terms) OutsideStorage (λ _. fields_of store terms)))) rest
        ≡ checked settled conform (λ terms. own && refer store terms) (λ terms.
        computed_then (fields_of store terms) rest)
    by (Gives terms) = at_conformity terms (conform terms)
    by (Traps kind) = refl
