-- A text has tokens or a fault: at each place there is a token, only a gap, or a fault.
use Rattle.std.proofs.Common.{◌≡◌, ℕ, zero, suc, ◌<◌, ◌≤◌, List, [], ◌∷◌, ◌++◌, length, refl, ap}
use Rattle.std.proofs.Common.{arith}
use Rattle.std.proofs.Common.{length-append, ◌⊎◌, inl, inr, ⊎_elim}
use Rattle.zpl_text.specs.declared.tokens.Token.{Token}
use Rattle.zpl_text.specs.declared.faults.LexFault.{LexFault}
use Rattle.zpl_text.specs.declared.faults.LexFault.TheVariants.{OpenComment}
use Rattle.zpl_text.specs.Gaps.{Skips, IsPastGap}
use Rattle.zpl_text.specs.Cutting.{opens_ditto, offset_of, open_comment}
use Rattle.zpl_text.specs.Tokens.{Place, Takes, Cuts, nothing, token, start, end_of, IsTokens}
use Rattle.zpl_text.specs.Tokens.{IsFaultAt}
use Rattle.zpl_text.specs.Tokens.{HasFault}
use Rattle.zpl_text.proofs.GapEnds.{GapEnds, gap_ends}
use Rattle.zpl_text.proofs.OneStep.{cut_front_some}
use Rattle.zpl_text.proofs.Skipping.{Skips-length}
use Rattle.zpl_text.proofs.TokenOrFault.{TokenOrFault, token_or_fault}

-- one step from a place, a gap up to the end, or a fault
data Step (text : List ℕ) (here : Place) : Type 0 where
  steps : (t : Token) (next : Place) → Takes text here t next → length next.rest < length here.rest
      → Step text here
  ends : Skips here.rest [] → Step text here
  fails : (fault : LexFault) → IsFaultAt text here fault → Step text here

-- what has a byte is longer than nothing
some_bytes : (front : List ℕ) → ¬ (front ≡ []) → 0 < length front
some_bytes [] some = absurd (some refl)
some_bytes (b ∷ front) some = omega arith

cut_step : (text : List ℕ) (here : Place) (b : ℕ) (bytes : List ℕ) → Skips here.rest (b ∷ bytes)
    → IsPastGap (b ∷ bytes) → TokenOrFault text here.ditto (b ∷ bytes) → Step text here
cut_step text here b bytes skips past (inl (kind, after, cut, sound)) =
    let some = some_bytes cut.front (cut_front_some here.ditto (b ∷ bytes) kind after cut) in
    let shorter : length after < length here.rest =
    omega (arith, some, ap length cut.split, length-append cut.front after, Skips-length skips) in
    steps
    (record { kind = kind; from = offset_of text (b ∷ bytes); to = offset_of text after })
    (record { rest = after; ditto = opens_ditto kind })
    (record {
      begin = b ∷ bytes;
      skips = skips;
      past_gap = past;
      cut = cut;
      sound = sound;
      from = refl;
      to = refl;
      ditto = refl;
    })
    shorter
cut_step text here b bytes skips past (inr (fault, wrong)) =
    fails fault (record { begin = b ∷ bytes; skips = skips; wrong = wrong })

step : (text : List ℕ) (here : Place) → GapEnds here.rest → Step text here
step text here (inl ([], skips, past)) = ends skips
step text here (inl (b ∷ bytes, skips, past)) =
    cut_step text here b bytes skips past (token_or_fault text here.ditto b bytes past)
step text here (inr (rest, skips, unclosed)) =
    fails (OpenComment (offset_of text rest))
    (record { begin = rest; skips = skips; wrong = open_comment unclosed })

-- the tokens from a place on, up to a gap at the end or to a fault
record Found (text : List ℕ) (here : Place) : Type 0 where
  found : List Token
  last : Place
  cuts : Cuts text here found last
  stops : Skips last.rest [] ⊎ ((fault : LexFault) × IsFaultAt text last fault)

found_on : (text : List ℕ) (here : Place) → Step text here
    → ((next : Place) → length next.rest < length here.rest → Found text next) → Found text here
found_on text here (steps t next takes shorter) go =
    let more = go next shorter in
    record {
      found = t ∷ more.found;
      last = more.last;
      cuts = token takes more.cuts;
      stops =
          more.stops;
    }
found_on text here (ends gap) go =
    record { found = []; last = here; cuts = nothing; stops = inl gap }
found_on text here (fails fault at) go =
    record { found = []; last = here; cuts = nothing; stops = inr (fault, at) }

found_from : (n : ℕ) (text : List ℕ) (here : Place) → length here.rest ≤ n → Found text here
found_from zero text here fits =
    found_on text here (step text here (gap_ends (length here.rest) here.rest (omega arith)))
    (λ next shorter. absurd (omega arith))
found_from (suc n) text here fits =
    found_on text here (step text here (gap_ends (length here.rest) here.rest (omega arith)))
    (λ next shorter. found_from n text next (omega arith))

pub tokens_or_fault : (text : List ℕ)
    → ((tokens : List Token) × IsTokens text tokens)
    ⊎ ((found : List Token) × (fault : LexFault) × HasFault text found fault)
tokens_or_fault text =
    let all = found_from (length text) text (start text) (omega arith) in
    ⊎_elim
    (λ gap. inl (
      all.found ++ end_of text ∷ [],
      record {
        found = all.found;
        last = all.last;
        cuts = all.cuts;
        only_gap = gap;
        all = refl;
      },
    ))
    (λ wrong. inr
    (all.found, wrong.0, record { last = all.last; cuts = all.cuts; fault_at = wrong.1 }))
    all.stops
