-- Looking names up in tables.
use Rattle.std.proofs.Common.{◌≡◌, ℕ, Bool, true, false, cond, if◌then◌else◌, List, [], ◌∷◌, ◌++◌, Option, Some, None, is_some, refl, sym, ap, ◌∙◌}
use Rattle.std.specs.Option.{option_or}
use Rattle.std.specs.Str.{bytes_eq}
use Rattle.std.proofs.lemmas.Slice.Eq.{bytes_eq-Decides}
use Rattle.std.specs.Prelude.{find, unwrap_or}
use Rattle.zpl_parts.specs.of_zpl_binding.Outcome.{Gives, Computed, outcome_of, outcome_or}
use Rattle.zpl_bind.specs.Tables.{found, computed}

abbrev pub one_of : {T : Type 0} → List ℕ × T → Computed T
one_of entry = record { name = entry.0; outcome = Gives entry.1 }

pub found-push : {T : Type 0} (xs : List (List ℕ × T)) (name : List ℕ) (value : T)
    (text : List ℕ) → found (xs ++ (name, value) ∷ []) text
    ≡ option_or (found xs text) (if bytes_eq name text then Some value else None)
found-push [] name value text = refl
found-push {T} (x ∷ xs) name value text =
    by (bytes_eq x.0 text) (found-push xs name value text)
  where
    by : (b : Bool) → found (xs ++ (name, value) ∷ []) text
        ≡ option_or (found xs text) (if bytes_eq name text then Some value else None) →
        cond b (Some x.1) (found (xs ++ (name, value) ∷ []) text)
        ≡ option_or (cond b (Some x.1) (found xs text))
        (if bytes_eq name text then Some value else None)
    by true rest = refl
    by false rest = rest

false-true : false ≡ true → ⊥
false-true e = cc

none-some : {T : Type 0} (o : Option T) → o ≡ None → is_some o ≡ true → ⊥
none-some None e h = cc
none-some (Some x) e h = cc

-- a name that was there already
pub found-again : {T : Type 0} (xs : List (List ℕ × T)) (name : List ℕ) (value : T) →
    is_some (found xs name) ≡ true → (text : List ℕ) →
    found (xs ++ (name, value) ∷ []) text ≡ found xs text
found-again {T} xs name value there text =
    found-push xs name value text ∙ by (bytes_eq name text) refl (found xs text) refl
  where
    by : (b : Bool) → bytes_eq name text ≡ b → (o : Option T) → found xs text ≡ o →
        option_or o (if b then Some value else None) ≡ o
    by b e (Some x) is = refl
    by false e None is = refl
    by true e None is =
        absurd (none-some (found xs name)
        (ap (found xs) ((bytes_eq-Decides name text).0 e) ∙ is) there)

-- a new name
pub found-new : {T : Type 0} (xs : List (List ℕ × T)) (name : List ℕ) (value : T) →
    is_some (found xs name) ≡ false → (text : List ℕ) →
    found (xs ++ (name, value) ∷ []) text ≡ cond (bytes_eq name text) (Some value) (found xs text)
found-new {T} xs name value none text =
    found-push xs name value text ∙ by (bytes_eq name text) refl (found xs text) refl
  where
    by : (b : Bool) → bytes_eq name text ≡ b → (o : Option T) → found xs text ≡ o →
        option_or o (if b then Some value else None) ≡ cond b (Some value) o
    by false e (Some x) is = refl
    by false e None is = refl
    by true e None is = refl
    by true e (Some x) is =
        absurd (false-true (sym none ∙ ap is_some (ap (found xs)
        ((bytes_eq-Decides name text).0 e) ∙ is)))

-- what is computed for a name
pub outcome-found : {T : Type 0} (default : T) (xs : List (List ℕ × T)) (text : List ℕ) →
    outcome_of default (computed xs) text ≡ Gives (unwrap_or (found xs text) default)
outcome-found default [] text = refl
outcome-found {T} default (x ∷ xs) text =
    by (bytes_eq x.0 text) (outcome-found default xs text)
  where
    by : (b : Bool) → outcome_of default (computed xs) text
        ≡ Gives (unwrap_or (found xs text) default) →
        outcome_or default (cond b (Some (one_of x))
        (find (λ one. bytes_eq one.name text) (computed xs)))
        ≡ Gives (unwrap_or (cond b (Some x.1) (found xs text)) default)
    by true rest = refl
    by false rest = rest
