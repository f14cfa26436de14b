-- Values of terms that passed their checks.
use Rattle.std.proofs.Common.{◌≡◌, ℤ, List, [], ◌∷◌, sym, ap, ◌∙◌, subst}
use Rattle.std.specs.Prelude.{Result, Ok, Err, get_or}
use Rattle.zpl_meaning.specs.Computed.{Computed, Gives, Traps, computed_then}
use Rattle.zpl_meaning.specs.Fields.{Field}
use Rattle.zpl_meaning.specs.Phases.{first_value}
use Rattle.array_stops.specs.declared.stops.Stop.{Stop}
use Rattle.array_stops.specs.Answer.{Answers}

-- what is computed of the fields of terms is what is computed of the statement's fields
pub of-fields : {A B C : Type 0} (r : Result A Stop) (seen : A → B) (fields terms : Computed C)
    (next : C → Computed B) → fields ≡ terms → Answers r seen (computed_then terms next) →
    Answers r seen (computed_then fields next)
of-fields r seen fields terms next is answers =
    subst (λ f. Answers r seen (computed_then f next)) (sym is) answers

-- the first of the values
pub first-is : (values : List ℤ) (o : Computed (List ℤ)) (value : ℤ) → o ≡ Gives values →
    value ≡ first_value values →
    computed_then o (λ values. Gives (first_value values)) ≡ Gives value
first-is values o value is same =
    ap (λ c. computed_then c (λ values. Gives (first_value values))) is ∙ ap Gives (sym same)
