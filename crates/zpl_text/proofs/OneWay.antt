-- A text is cut one way.
use Rattle.std.proofs.Common.{◌≡◌, ℕ, List, [], ◌∷◌, ◌++◌, Option, Some, None, refl, sym, ap, subst}
use Rattle.std.proofs.Common.{◌∙◌}
use Rattle.std.proofs.lemmas.Option.{none-some, same_Some}
use Rattle.zpl_text.specs.declared.tokens.Token.{Token}
use Rattle.zpl_text.specs.declared.faults.LexFault.{LexFault}
use Rattle.zpl_text.specs.Gaps.{Skips}
use Rattle.zpl_text.specs.Cutting.{opens_ditto, IsCut, offset_of, IsWrong}
use Rattle.zpl_text.specs.Tokens.{Place, Takes, Cuts, nothing, token, end_of, IsTokens, IsFaultAt}
use Rattle.zpl_text.specs.Tokens.{HasFault}
use Rattle.zpl_text.proofs.Cuts.{nil≢cons}
use Rattle.zpl_text.proofs.OneGap.{IsStop, IsStop-past_gap, Skips-unique}
use Rattle.zpl_text.proofs.OneStep.{cut_kind, cut_after, cut_some}
use Rattle.zpl_text.proofs.OneFault.{wrong_unique, wrong_no_cut, wrong_stops, wrong_some}

-- two steps from a place are one
module _ {text : List ℕ} {here next other : Place} {t u : Token} (one : Takes text here t next)
    (two : Takes text here u other) where
  takes_begin : one.begin ≡ two.begin
  takes_begin = Skips-unique one.skips two.skips (IsStop-past_gap one.begin one.past_gap)
      (IsStop-past_gap two.begin two.past_gap)

  takes_cut : IsCut here.ditto one.begin u.kind other.rest
  takes_cut = subst (λ (xs : List ℕ). IsCut here.ditto xs u.kind other.rest) (sym takes_begin)
      two.cut

  takes_kind : t.kind ≡ u.kind
  takes_kind = cut_kind here.ditto one.begin t.kind u.kind next.rest other.rest one.cut takes_cut

  takes_rest : next.rest ≡ other.rest
  takes_rest = cut_after here.ditto one.begin t.kind u.kind next.rest other.rest one.cut takes_cut

  takes_from : t.from ≡ u.from
  takes_from = one.from ∙ ap (offset_of text) takes_begin ∙ sym two.from

  takes_to : t.to ≡ u.to
  takes_to = one.to ∙ ap (offset_of text) takes_rest ∙ sym two.to

  takes_ditto : next.ditto ≡ other.ditto
  takes_ditto = one.ditto ∙ ap opens_ditto takes_kind ∙ sym two.ditto

  pub takes_token : t ≡ u
  takes_token = λ i. record { kind = takes_kind i; from = takes_from i; to = takes_to i }

  pub takes_next : next ≡ other
  takes_next = λ i. record { rest = takes_rest i; ditto = takes_ditto i }

-- a cutting ends where no more than a gap is left, or at a fault
pub data Ends (text : List ℕ) (here : Place) : Option LexFault → Type 0 where
  whole : Skips here.rest [] → Ends text here None
  faulty : {fault : LexFault} → IsFaultAt text here fault → Ends text here (Some fault)

IsStop-nil : IsStop []
IsStop-nil = record {
  no_white = λ is. is;
  no_line =
      λ after comment. nil≢cons (sym comment.split);
  no_block =
      λ after comment. nil≢cons (sym comment.split);
}

-- where a cutting ends no token is cut off
pub ends_no_step : {text : List ℕ} {here next : Place} {t : Token} {end : Option LexFault}
    → Ends text here end → Takes text here t next → ⊥
ends_no_step {here = here} {next = next} {t = t} (whole gap) step =
    cut_some here.ditto step.begin t.kind next.rest step.cut
    (Skips-unique step.skips gap (IsStop-past_gap step.begin step.past_gap) IsStop-nil)
ends_no_step {text = text} {here = here} (faulty {fault = fault} at) step =
    let same = Skips-unique at.skips step.skips (wrong_stops at.wrong)
    (IsStop-past_gap step.begin step.past_gap) in
    wrong_no_cut step.past_gap step.cut step.sound
    (subst (λ (xs : List ℕ). IsWrong text here.ditto xs fault) same at.wrong)

-- and it ends one way
ends_unique : {text : List ℕ} {here : Place} {end other : Option LexFault} → Ends text here end
    → Ends text here other → end ≡ other
ends_unique (whole gap) (whole gap') = refl
ends_unique (whole gap) (faulty at) =
    absurd (wrong_some at.wrong (Skips-unique at.skips gap (wrong_stops at.wrong) IsStop-nil))
ends_unique (faulty at) (whole gap) =
    absurd (wrong_some at.wrong (Skips-unique at.skips gap (wrong_stops at.wrong) IsStop-nil))
ends_unique {text = text} {here = here} (faulty {fault = fault} at) (faulty {fault = other} at') =
    let same = Skips-unique at.skips at'.skips (wrong_stops at.wrong) (wrong_stops at'.wrong) in
    ap (λ (f : LexFault). Some f)
    (wrong_unique (subst (λ (xs : List ℕ). IsWrong text here.ditto xs fault) same at.wrong)
    at'.wrong)

-- from a place there is one cutting up to an end
pub cuts_unique : {text : List ℕ} {here last last' : Place} {tokens others : List Token}
    {end end' : Option LexFault} → Cuts text here tokens last → Ends text last end
    → Cuts text here others last' → Ends text last' end' → (tokens ≡ others) × (end ≡ end')
cuts_unique nothing ends nothing ends' = (refl, ends_unique ends ends')
cuts_unique nothing ends (token step more) ends' = absurd (ends_no_step ends step)
cuts_unique (token step more) ends nothing ends' = absurd (ends_no_step ends' step)
cuts_unique {text = text} {last' = last'} (token step more) ends
    (token {tokens = others} step' more') ends' =
    let rest = cuts_unique more ends
    (subst (λ (p : Place). Cuts text p others last') (sym (takes_next step step')) more')
    ends' in
    ((λ i. takes_token step step' i ∷ rest.0 i), rest.1)

module _ (text : List ℕ) where
  pub tokens_unique : (tokens others : List Token) → IsTokens text tokens → IsTokens text others
      → tokens ≡ others
  tokens_unique tokens others one two =
      let same = cuts_unique one.cuts (whole one.only_gap) two.cuts (whole two.only_gap) in
      one.all ∙ ap (λ (ts : List Token). ts ++ end_of text ∷ []) same.0 ∙ sym two.all

  pub fault_unique : (found others : List Token) (fault other : LexFault)
      → HasFault text found fault → HasFault text others other → (found ≡ others) × (fault ≡ other)
  fault_unique found others fault other one two =
      let same = cuts_unique one.cuts (faulty one.fault_at) two.cuts (faulty two.fault_at) in
      (same.0, same_Some fault other same.1)

  pub not_both : (tokens found : List Token) (fault : LexFault) → IsTokens text tokens
      → HasFault text found fault → ⊥
  not_both tokens found fault one two =
      none-some fault (cuts_unique one.cuts (whole one.only_gap) two.cuts (faulty two.fault_at)).1
