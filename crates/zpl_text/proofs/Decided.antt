-- Facts that hold or don't.
use Rattle.std.proofs.Common.{◌≡◌, ℕ, Bool, true, false, List, [], ◌∷◌, length, drop}
use Rattle.std.proofs.Common.{refl, sym}
use Rattle.std.proofs.Common.{◌⊎◌, inl, inr, ⊎_elim, IsTrue, nat_eq, Option, Some, None}
use Rattle.std.specs.List.{starts_with}
use Rattle.std.proofs.lemmas.Bool.{false≢true, cases_Bool, cases_eq}
use Rattle.std.proofs.lemmas.Bool.Decides.{Decides-eqb}
use Rattle.std.proofs.lemmas.Slice.Eq.{starts_is}
use Rattle.zpl_text.specs.Bytes.{newline, BeginsWith, FirstPasses, EndsLine}

abbrev pub Decided : Type 0 → Type 0
Decided fact = fact ⊎ ¬ fact

pub either : {A B : Type 0} → Decided A → Decided B → Decided (A ⊎ B)
either (inl a) b = inl (inl a)
either (inr not_a) (inl b) = inl (inr b)
either (inr not_a) (inr not_b) = inr (⊎_elim not_a not_b)

pub both : {A B : Type 0} → Decided A → Decided B → Decided (A × B)
both (inl a) (inl b) = inl (a, b)
both (inl a) (inr not_b) = inr (λ is. not_b is.1)
both (inr not_a) b = inr (λ is. not_a is.0)

pub neither : {A : Type 0} → Decided A → Decided (¬ A)
neither (inl a) = inr (λ not_a. not_a a)
neither (inr not_a) = inl not_a

pub of_test : (b : Bool) → Decided (IsTrue b)
of_test true = inl refl
of_test false = inr (λ is. false≢true is)

pub of_first : (test : ℕ → Bool) (bytes : List ℕ) → Decided (FirstPasses test bytes)
of_first test [] = inr (λ is. is)
of_first test (b ∷ bytes) = of_test (test b)

pub of_line_end : (bytes : List ℕ) → Decided (EndsLine bytes)
of_line_end [] = inl tt
of_line_end (b ∷ bytes) = cases_eq b newline

pub of_front : (front bytes : List ℕ) → Decided (BeginsWith front bytes)
of_front front bytes =
    ⊎_elim
    (λ test. inl (
      drop (length front) bytes,
      (starts_is Decides-eqb bytes front true (sym test)).0
          refl,
    ))
    (λ test. inr (λ is. false≢true
    ((starts_is Decides-eqb bytes front false (sym test)).1 is.0 is.1)))
    (cases_Bool (starts_with nat_eq bytes front))

-- what a look-up gives
pub looked_up : {A : Type 0} (o : Option A) → ((x : A) × (o ≡ Some x)) ⊎ (o ≡ None)
looked_up (Some x) = inl (x, refl)
looked_up None = inr refl
