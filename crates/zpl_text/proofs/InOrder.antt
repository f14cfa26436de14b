-- Tokens stand in order, and where they say.
use Rattle.std.proofs.Common.{◌≡◌, ℕ, Bool, ◌+◌, ◌-◌, ◌<◌, ◌≤◌, List, Option, [], ◌∷◌, ◌++◌, length}
use Rattle.std.proofs.Common.{take, drop, codes, refl, sym, ap, subst, ◌∙◌, arith, append_assoc}
use Rattle.std.proofs.Common.{length-append}
use Rattle.std.proofs.lemmas.List.{drop_at, take_at, append-nil}
use Rattle.zpl_tokens.specs.declared.Kind.{Kind}
use Rattle.zpl_tokens.specs.declared.Kind.TheVariants.{Name, Number}
use Rattle.zpl_text.specs.declared.tokens.Token.{Token}
use Rattle.zpl_text.specs.declared.faults.LexFault.{LexFault}
use Rattle.zpl_text.specs.Bytes.{quote, backslash}
use Rattle.zpl_text.specs.Kinds.{IsToken}
use Rattle.zpl_text.specs.Gaps.{Skips, nothing, white, line, block}
use Rattle.zpl_text.specs.Cutting.{IsSound, offset_of, IsWrong, no_token, bad_escape, open_comment}
use Rattle.zpl_text.specs.Cutting.{open_string, too_large, float_text}
use Rattle.zpl_text.specs.Tokens.{Place, Takes, Cuts, end_of, IsTokens, IsFound, HasFault}
use Rattle.zpl_text.specs.Tokens as cutting
use Rattle.zpl_text.specs.Faults.{lexical_offset}
use Rattle.zpl_text.specs.Spans.{IsWithinLimit, IsSpan, AreSpans, BeginWith}
use Rattle.zpl_text.proofs.Cuts.{nil≢cons}
use Rattle.zpl_text.proofs.OneStep.{cut_some}
use Rattle.zpl_text.proofs.Skipping.{Skips-length}
use Rattle.zpl_text.proofs.OneWay.{Ends, whole, faulty, ends_no_step, takes_token, takes_next}

-- rest is what is left of a text behind a front
abbrev IsTail : List ℕ → List ℕ → Type 0
IsTail text rest = (front : List ℕ) × (text ≡ front ++ rest)

IsTail-trans : (text rest part after : List ℕ) → IsTail text rest → rest ≡ part ++ after
    → IsTail text after
IsTail-trans text rest part after (front, split) more = (
  front ++ part,
  split ∙ ap (λ (xs : List ℕ). front ++ xs) more
      ∙ sym (append_assoc front part after),
)

IsTail-skips : (text : List ℕ) {bytes after : List ℕ} → IsTail text bytes → Skips bytes after
    → IsTail text after
IsTail-skips text tail nothing = tail
IsTail-skips text tail (white {b = b} {bytes = bytes} is more) =
    IsTail-skips text (IsTail-trans text (b ∷ bytes) (b ∷ []) bytes tail refl) more
IsTail-skips text tail (line {bytes = bytes} {next = next} comment more) =
    IsTail-skips text (IsTail-trans text bytes (codes "--" ++ comment.body) next tail comment.split)
    more
IsTail-skips text tail (block {bytes = bytes} {next = next} comment more) =
    IsTail-skips text
    (IsTail-trans text bytes (codes "/*" ++ (comment.body ++ codes "*/")) next tail
    (comment.split ∙ ap (λ (xs : List ℕ). 47 ∷ 42 ∷ xs)
    (sym (append_assoc comment.body (codes "*/") next)))) more

-- an offset is the length of what stands before
offset_is : (text rest : List ℕ) (tail : IsTail text rest) → offset_of text rest ≡ length tail.0
offset_is text rest (front, split) = omega (arith, ap length split, length-append front rest)

limit_from_sound : (kind : Kind) (after : List ℕ) → IsSound kind after → IsWithinLimit kind
limit_from_sound (Number n) after sound = sound.1
limit_from_sound Name after sound = tt
limit_from_sound _ after sound = tt

-- the bytes between two offsets
middle : (text front part after : List ℕ) (from to : ℕ) → text ≡ front ++ (part ++ after)
    → from ≡ length front → to ≡ length front + length part
    → take (to - from) (drop from text) ≡ part
middle text front part after from to split is_from is_to =
    let long : to - from ≡ length part = omega arith in
    ap (λ (n : ℕ). take n (drop from text)) long
    ∙ ap (λ (xs : List ℕ). take (length part) (drop from xs)) split
    ∙ ap (λ (xs : List ℕ). take (length part) xs) (drop_at front (part ++ after) from (sym is_from))
    ∙ take_at part after (length part) refl

-- one step
module _ (text : List ℕ) (here next : Place) (t : Token) (step : Takes text here t next)
    (tail : IsTail text here.rest) where
  step_begin : IsTail text step.begin
  step_begin = IsTail-skips text tail step.skips

  step_next : IsTail text next.rest
  step_next = IsTail-trans text step.begin step.cut.front next.rest step_begin step.cut.split

  step_span : IsSpan text (offset_of text here.rest) t
  unfolding step_next IsTail-trans
  step_span =
      let before = offset_is text step.begin step_begin in
      let end = offset_is text next.rest step_next in
      let part = length-append step_begin.0 step.cut.front in
      let same : take (t.to - t.from) (drop t.from text) ≡ step.cut.front =
      middle text step_begin.0 step.cut.front next.rest t.from t.to
      (step_begin.1 ∙ ap (λ (xs : List ℕ). step_begin.0 ++ xs) step.cut.split)
      (step.from ∙ before) (step.to ∙ end ∙ part) in
      record {
        behind = omega (arith, Skips-length step.skips, step.from);
        in_order = omega (arith, step.from, step.to, before, end, part);
        within = omega (arith, step.to);
        text_of = subst (λ (xs : List ℕ). IsToken xs t.kind) (sym same) step.cut.token;
        limit = limit_from_sound t.kind next.rest step.sound;
      }

-- a place of a text has a tail of it
cuts_tail : {text : List ℕ} {here last : Place} {tokens : List Token} → Cuts text here tokens last
    → IsTail text here.rest → IsTail text last.rest
cuts_tail cutting.nothing tail = tail
cuts_tail {text = text} {here = here} (cutting.token {next = next} {t = t} step steps) tail =
    cuts_tail steps (step_next text here next t step tail)

-- the tokens up to a place, and those behind it
spans_then : {text : List ℕ} {here last : Place} {tokens : List Token} (more : List Token)
    → Cuts text here tokens last → IsTail text here.rest
    → ((at : ℕ) → at ≤ length text → AreSpans text at more)
    → AreSpans text (offset_of text here.rest) (tokens ++ more)
spans_then {text = text} {here = here} more cutting.nothing tail rest =
    rest (offset_of text here.rest) (omega arith)
spans_then {text = text} {here = here} more
    (cutting.token {next = next} {t = t} {tokens = tokens} step steps) tail rest =
    let span = step_span text here next t step tail in
    let spans = spans_then more steps (step_next text here next t step tail) rest in
    (span, subst (λ (n : ℕ). AreSpans text n (tokens ++ more)) (sym step.to) spans)

-- the end stands behind all
end_spans : (text : List ℕ) (at : ℕ) → at ≤ length text → AreSpans text at (end_of text ∷ [])
end_spans text at fits =
    let none : length text - length text ≡ 0 = omega arith in (
      record {
        behind = fits;
        in_order = omega arith;
        within = omega arith;
        text_of = ap (λ (n : ℕ). take n (drop (length text) text)) none;
        limit = tt;
      },
      tt,
    )

pub tokens_in_order : (text : List ℕ) (tokens : List Token) → IsTokens text tokens
    → AreSpans text 0 tokens
tokens_in_order text tokens is =
    let first : offset_of text text ≡ 0 = omega arith in
    subst (AreSpans text 0) (sym is.all)
    (subst (λ (n : ℕ). AreSpans text n (is.found ++ end_of text ∷ [])) first
    (spans_then (end_of text ∷ []) is.cuts ([], refl) (end_spans text)))

pub found_in_order : (text : List ℕ) (found : List Token) → IsFound text found
    → AreSpans text 0 found
found_in_order text found is =
    let first : offset_of text text ≡ 0 = omega arith in
    let spans = spans_then [] is.cuts ([], refl) (λ at fits. tt) in
    subst (AreSpans text 0) (append-nil found)
    (subst (λ (n : ℕ). AreSpans text n (found ++ [])) first spans)

cons_same : {t u : Token} {ts us : List Token} → t ≡ u → ts ≡ us → t ∷ ts ≡ u ∷ us
cons_same one more = λ i. one i ∷ more i

-- what is found is a front of what a cutting up to an end gives
cuts_front : {text : List ℕ} {here last last' : Place} {found tokens : List Token}
    {end : Option LexFault} → Cuts text here found last → Cuts text here tokens last'
    → Ends text last' end → BeginWith found tokens
cuts_front {tokens = tokens} cutting.nothing steps ends = (tokens, refl)
cuts_front (cutting.token step more) cutting.nothing ends = absurd (ends_no_step ends step)
cuts_front {text = text} {last' = last'} (cutting.token step more)
    (cutting.token {t = t} {tokens = tokens} step' more') ends =
    let rest = cuts_front more
    (subst (λ (p : Place). Cuts text p tokens last') (sym (takes_next step step')) more')
    ends in
    (rest.0, cons_same (sym (takes_token step step')) rest.1)

pub found_front : (text : List ℕ) (found tokens : List Token) → IsFound text found
    → IsTokens text tokens → BeginWith found tokens
found_front text found tokens is all =
    let front = cuts_front is.cuts all.cuts (whole all.only_gap) in (
      front.0 ++ end_of text ∷ [],
      all.all ∙ ap (λ (ts : List Token). ts ++ end_of text ∷ []) front.1
          ∙ append_assoc found front.0 (end_of text ∷ []),
    )

pub found_front_of_fault : (text : List ℕ) (found others : List Token) (fault : LexFault)
    → IsFound text found → HasFault text others fault → BeginWith found others
found_front_of_fault text found others fault is has =
    cuts_front is.cuts has.cuts (faulty has.fault_at)

-- the offset of a byte of the text
offset_below : (text rest : List ℕ) → IsTail text rest → (rest ≡ [] → ⊥)
    → offset_of text rest < length text
offset_below text [] tail some = absurd (some refl)
offset_below text (b ∷ rest) (front, split) some =
    omega (arith, ap length split, length-append front (b ∷ rest))

wrong_below : {text : List ℕ} {ditto : Bool} {rest : List ℕ} {fault : LexFault} → IsTail text rest
    → IsWrong text ditto rest fault → lexical_offset fault < length text
wrong_below {text = text} {rest = rest} tail (no_token past none) =
    offset_below text rest tail (λ empty. omega (arith, none.some, ap length empty))
wrong_below {text = text} {rest = rest} tail (bad_escape {after = after} strings bad) =
    offset_below text (backslash ∷ after)
    (IsTail-trans text rest (quote ∷ bad.body) (backslash ∷ after) tail bad.split) nil≢cons
wrong_below {text = text} {rest = rest} tail (open_comment comment) =
    offset_below text rest tail (λ empty. nil≢cons (sym comment.split ∙ empty))
wrong_below {text = text} {rest = rest} tail (open_string strings string) =
    offset_below text rest tail (λ empty. nil≢cons (sym string.split ∙ empty))
wrong_below {text = text} {ditto = ditto} {rest = rest} tail
    (too_large {n = n} {after = after} cut sound over) =
    offset_below text rest tail (cut_some ditto rest (Number n) after cut)
wrong_below {text = text} {ditto = ditto} {rest = rest} tail
    (float_text {n = n} {after = after} cut floats) =
    offset_below text rest tail (cut_some ditto rest (Number n) after cut)

pub fault_below : (text : List ℕ) (found : List Token) (fault : LexFault)
    → HasFault text found fault → lexical_offset fault < length text
fault_below text found fault is =
    wrong_below (IsTail-skips text (cuts_tail is.cuts ([], refl)) is.fault_at.skips)
    is.fault_at.wrong
