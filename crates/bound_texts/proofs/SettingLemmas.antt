-- Settings, word by word.
use Rattle.std.proofs.Common.{◌≡◌, ℕ, ◌+◌, ◌<◌, List, [], ◌∷◌, ◌++◌, length, take, get_or, Some, None}
use Rattle.std.proofs.Common.{Result, Ok, Err, OnOk, refl, sym, ◌∙◌, ap}
use Rattle.std.proofs.lemmas.List.{append-nil}
use Rattle.zpl_binding.specs.Settings.{Setting}
use Rattle.zpl_bind.specs.Lists.{settings_of}
use Rattle.call_words.specs.of_call_claims.Setting.{one_or_none, setting_in, settings_among}
use Rattle.call_words.proofs.AskedLemmas.{settings_more}

-- a pair more
pair_more : (old : List (List ℕ × List ℕ)) (name value : List ℕ)
    → settings_of (old ++ (name, value) ∷ [])
    ≡ settings_of old ++ (record { name = name; value = value }) ∷ []
pair_more [] name value = refl
pair_more (pair ∷ old) name value =
    ap (λ more. (record { name = pair.0; value = pair.1 }) ∷ more) (pair_more old name value)

pub word_adds : (old new : List (List ℕ × List ℕ)) (name value word : List ℕ)
    → new ≡ old ++ (name, value) ∷ []
    → setting_in word ≡ Some (record { name = name; value = value })
    → settings_of new ≡ settings_of old ++ one_or_none (setting_in word)
word_adds old new name value word added is =
    ap settings_of added ∙ (pair_more old name value
    ∙ ap (λ s. settings_of old ++ one_or_none s) (sym is))

pub word_adds_none : (old : List (List ℕ × List ℕ)) (word : List ℕ) → setting_in word ≡ None
    → settings_of old ≡ settings_of old ++ one_or_none (setting_in word)
word_adds_none old word is =
    sym (append-nil (settings_of old)) ∙ ap (λ s. settings_of old ++ one_or_none s) (sym is)

-- and the words up to it
pub words_so_far : (words : List (List ℕ)) (i : ℕ) → i < length words → (word : List ℕ)
    → get_or words i [] ≡ word → (old new : List Setting)
    → old ≡ settings_among (take i words) → new ≡ old ++ one_or_none (setting_in word)
    → new ≡ settings_among (take (i + 1) words)
words_so_far words i inside word here old new before added =
    added ∙ (ap (λ s. s ++ one_or_none (setting_in word)) before
    ∙ (ap (λ w. settings_among (take i words) ++ one_or_none (setting_in w)) (sym here)
    ∙ sym (settings_more words i inside)))

-- what holds where there is an answer
pub on_ok : {A E : Type 0} (r : Result A E) {P Q : Type 0} → (P → Q) → OnOk r P → OnOk r Q
on_ok (Ok v) to h = to h
on_ok (Err e) to h = tt
