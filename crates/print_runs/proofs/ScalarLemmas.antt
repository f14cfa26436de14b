-- An expression of scalars has a field, which has its value.
use Rattle.std.proofs.Common.{◌≡◌, refl, subst, Bool, true, false, ◌&&◌, List, [], ◌∷◌}
use Rattle.zpl_nums.specs.declared.ends.TrapKind.TheVariants.{OutsideStorage, RegionMismatch}
use Rattle.zpl_tree.specs.Syntax.{Expr}
use Rattle.zpl_names.specs.Kinds.{Rank}
use Rattle.zpl_meaning.specs.Computed.{Computed, Gives, Traps, computed_then, both_then, provided}
use Rattle.zpl_meaning.specs.Store.{Store}
use Rattle.zpl_meaning.specs.Context.{Place}
use Rattle.zpl_meaning.specs.Value.{value_of}
use Rattle.zpl_meaning.specs.Term.{Term, NoTerm, ThenTerm}
use Rattle.zpl_meaning.specs.Settled.{Placed, settled}
use Rattle.zpl_meaning.specs.Checks.{conforms, refers, conform, refer}
use Rattle.zpl_meaning.specs.Fields.{Field, field_of, fields_of}
use Rattle.zpl_meaning.specs.Scalars.{IsScalar}
use Rattle.zpl_meaning.proofs.ScalarLemmas.{AreFieldsOf, fields_of_scalars}

pub record HasField (place : Place) (store : Store) (rank : Rank) (expr : Expr) : Type 0 where
  pub term : Term
  pub termed : settled place store rank expr ≡ Gives term
  pub conformed : conforms term ≡ true
  pub referred : refers store term ≡ true
  pub field : Field
  pub fielded : field_of store term ≡ Gives field
  pub valued : field [] ≡ value_of place.environment store expr

module _ (place : Place) (store : Store) (rank : Rank) (expr : Expr) where
  abbrev alone : List Placed
  alone = record { rank = rank; expr = expr } ∷ []

  by_field : (term : Term) → settled place store rank expr ≡ Gives term → conforms term ≡ true
      → refers store term ≡ true → (c : Computed Field) → field_of store term ≡ c
      → (fields : List Field)
      → both_then c (Gives []) (λ field fields. Gives (field ∷ fields)) ≡ Gives fields
      → AreFieldsOf place.environment store fields alone → HasField place store rank expr
  by_field term e f g (Gives field) q fields computed each =
      let same : fields ≡ field ∷ [] = cc in
      record {
        term = term;
        termed = e;
        conformed = f;
        referred = g;
        field = field;
        fielded = q;
        valued =
            (subst (λ (fs : List Field). AreFieldsOf place.environment store fs alone) same each).0;
      }
  by_field term e f g (Traps kind) q fields computed each = absurd (let no : ⊥ = cc in no)

  by_refer : (term : Term) → settled place store rank expr ≡ Gives term → conforms term ≡ true
      → (b : Bool) → refers store term ≡ b → (fields : List Field)
      → provided (true && (b && true)) OutsideStorage (λ _. fields_of store (ThenTerm term NoTerm))
      ≡ Gives fields
      → AreFieldsOf place.environment store fields alone → HasField place store rank expr
  by_refer term e f true g fields computed each =
      by_field term e f g (field_of store term) refl fields computed each
  by_refer term e f false g fields computed each = absurd (let no : ⊥ = cc in no)

  by_conform : (term : Term) → settled place store rank expr ≡ Gives term → (b : Bool)
      → conforms term ≡ b → (fields : List Field)
      → provided (b && true) RegionMismatch (λ _.
      provided (true && (refers store term && true)) OutsideStorage (λ _.
      fields_of store (ThenTerm term NoTerm)))
      ≡ Gives fields
      → AreFieldsOf place.environment store fields alone → HasField place store rank expr
  by_conform term e true f fields computed each =
      by_refer term e f (refers store term) refl fields computed each
  by_conform term e false f fields computed each = absurd (let no : ⊥ = cc in no)

  by_term : (c : Computed Term) → settled place store rank expr ≡ c → (fields : List Field)
      → computed_then (both_then c (Gives NoTerm) (λ term terms. Gives (ThenTerm term terms)))
      (λ terms. provided (conform terms) RegionMismatch (λ _.
      provided (true && refer store terms) OutsideStorage (λ _. fields_of store terms)))
      ≡ Gives fields
      → AreFieldsOf place.environment store fields alone → HasField place store rank expr
  by_term (Gives term) e fields computed each =
      by_conform term e (conforms term) refl fields computed each
  by_term (Traps kind) e fields computed each = absurd (let no : ⊥ = cc in no)

  pub scalar_field : IsScalar place.environment expr → HasField place store rank expr
  scalar_field h =
      let f = fields_of_scalars place store alone (h, tt) in
      by_term (settled place store rank expr) refl f.fields f.computed f.each
