-- Bodies of strings, part by part.
use Rattle.std.proofs.Common.{◌≡◌, ℕ, ◌-◌, List, [], ◌∷◌, ◌++◌, length, take, drop, append_assoc}
use Rattle.std.proofs.Common.{refl, sym, ◌∙◌}
use Rattle.std.proofs.lemmas.List.{take_rest}
use Rattle.zpl_text.specs.Scanning.{BeginsEscape, BeginsPlain}
use Rattle.zpl_text.specs.Kinds.{IsBody, nothing, plain, escape}

-- bytes are a body and this rest
pub record IsBodyUpTo (bytes rest : List ℕ) : Type 0 where
  pub body : List ℕ
  pub split : bytes ≡ body ++ rest
  pub within : IsBody body

IsBody-append : {xs ys : List ℕ} → IsBody xs → IsBody ys → IsBody (xs ++ ys)
IsBody-append nothing more = more
IsBody-append (plain no_quote no_newline no_backslash first) more =
    plain no_quote no_newline no_backslash (IsBody-append first more)
IsBody-append (escape is first) more = escape is (IsBody-append first more)

-- before the first byte
pub IsBodyUpTo-none : (bytes : List ℕ) → IsBodyUpTo bytes bytes
IsBodyUpTo-none bytes = record { body = []; split = refl; within = nothing }

-- one part further
IsBodyUpTo-more : (bytes part rest : List ℕ) → IsBodyUpTo bytes (part ++ rest) → IsBody part
    → IsBodyUpTo bytes rest
IsBodyUpTo-more bytes part rest front more = record {
  body = front.body ++ part;
  split = front.split ∙ sym (append_assoc front.body part rest);
  within = IsBody-append front.within more;
}

pub IsBodyUpTo-plain : (bytes rest : List ℕ) → IsBodyUpTo bytes rest → BeginsPlain rest
    → IsBodyUpTo bytes (take (length rest - 1) (drop 1 rest))
IsBodyUpTo-plain bytes [] front is = elim is [ ]
IsBodyUpTo-plain bytes (b ∷ rest) front is =
    rw (take_rest (b ∷ rest) 1)
    (IsBodyUpTo-more bytes (b ∷ []) rest front (plain is.0 is.1 is.2 nothing))

pub IsBodyUpTo-escape : (bytes rest : List ℕ) → IsBodyUpTo bytes rest → BeginsEscape rest
    → IsBodyUpTo bytes (take (length rest - 2) (drop 2 rest))
IsBodyUpTo-escape bytes [] front is = elim is [ ]
IsBodyUpTo-escape bytes (b ∷ []) front is = elim is.1 [ ]
IsBodyUpTo-escape bytes (b ∷ c ∷ rest) front is =
    let part : IsBody (b ∷ c ∷ []) = rw is.0 (escape is.1 nothing) in
    rw (take_rest (b ∷ c ∷ rest) 2) (IsBodyUpTo-more bytes (b ∷ c ∷ []) rest front part)
