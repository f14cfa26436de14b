-- Files in memory that are there for sure.
use Rattle.std.proofs.Common.{◌≡◌, ℕ, List, [], ◌∷◌, Option, Some, None, Contains, sym, ◌∙◌, inl, inr, arith}
use Rattle.zpl_io.specs.MemFiles.{FailsLater, FailsNext, HasText, KeptFiles, text_under}
use Rattle.call_claims.specs.Call.{call_of}
use Rattle.call_claims.specs.Command.{Asked}
use Rattle.top_call.specs.Whole.{AreSure}

none_there : (found : Option (List ℕ)) (text : List ℕ) → found ≡ Some text → found ≡ None → ⊥
none_there found text is e = let same : Some text ≡ None = sym is ∙ e in cc

none_fails : (calls : List ℕ) (call : ℕ) → calls ≡ [] → Contains calls call → ⊥
none_fails [] call none has = omega (arith, has.1)
none_fails (first ∷ more) call none has = let no : ⊥ = cc in no

one_text : (found : Option (List ℕ)) (text other : List ℕ) → found ≡ Some text
    → found ≡ Some other → text ≡ other
one_text found text other e f = let same : Some text ≡ Some other = sym e ∙ f in cc

pub are_sure : (files : KeptFiles) (words : List (List ℕ)) (file text : List ℕ) (asked : Asked)
    → files.failing ≡ [] → HasText files file text
    → ((order : List ℕ) → asked.order ≡ Some order → (other : List ℕ) × HasText files order other)
    → AreSure (call_of words (HasText files) (FailsNext files) (FailsLater files)) file asked
are_sure files words file text asked none there ordered = record {
  one = λ name text other e f. one_text (text_under name files.named) text other e f;
  file_comes = λ may. elim may [
    | inl has ↦ none_fails files.failing files.calls none has
    | inr lacks ↦ none_there (text_under file files.named) text there lacks
  ];
  order_comes = λ order is may. elim may [
    | inl later ↦ none_fails files.failing later.0 none later.2
    | inr lacks ↦ none_there (text_under order files.named) (ordered order is).0
        (ordered order is).1 lacks
  ];
}
