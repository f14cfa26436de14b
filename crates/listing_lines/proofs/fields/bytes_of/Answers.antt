use Rattle.std.proofs.Common.{◌≡◌, [], ◌∷◌, sym, ◌∙◌, refl, inl, inr}
use Rattle.std.specs.Cmp.Lexicographic.{same_text, other_text}
use Rattle.hex.proofs.HexLemmas.{decode_of-ok}
use Rattle.listing_lines.proofs.FieldTexts.{no_bytes_in, decoded}
use Rattle.listing_lines.proofs.Taken.{nothing_found}
use Rattle.listing_lines.proofs.fields.bytes_of.Goals as goal

pub returns-then-eq-clause-found : goal.returns-then-eq-clause-found
returns-then-eq-clause-found c = λ bytes range written.
    let dash : c.args.word.now ≡ 45 ∷ [] = same_text c.args.word.now (45 ∷ []) (sym c.if-eq.true ∙ (c.eq.ensures ∙ rw c.as_slice.ensures refl)) in
    c.new.ensures.items ∙ no_bytes_in bytes (sym dash ∙ written)

pub returns-in-Ok-clause-found : goal.returns-in-Ok-clause-found
returns-in-Ok-clause-found c = λ bytes range written.
    let other = other_text c.args.word.now (45 ∷ []) (sym c.if-eq.false ∙ (c.eq.ensures ∙ rw c.as_slice.ensures refl)) in
    let read = decoded c.args.word.now bytes range written other in
    let same = c.in-Ok.ensures.ok in
    cc

pub returns-in-Ok-clause-range : goal.returns-in-Ok-clause-range
returns-in-Ok-clause-range c = (decode_of-ok c.args.word.now c.in-Ok.bytes.items c.in-Ok.ensures.ok).3

pub returns-in-Err-clause-found : goal.returns-in-Err-clause-found
returns-in-Err-clause-found c =
    nothing_found c.no_bytes.result _ _ c.no_bytes.ensures.none c.no_bytes.ensures.fault (λ fault bytes range written.
    let other = other_text c.args.word.now (45 ∷ []) (sym c.if-eq.false ∙ (c.eq.ensures ∙ rw c.as_slice.ensures refl)) in
    let read = decoded c.args.word.now bytes range written other in
    elim c.in-Err.ensures.err [ inl e ↦ fault e | inr e ↦ cc ])
