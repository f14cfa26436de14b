-- Runs of one call, and what follows of one.
use Rattle.std.proofs.Common.{◌≡◌, ◌≢◌, ◌⊎◌, ℕ, ◌≤◌, Bool, false, List, [], Option, Some, None, Result, Ok, Err, refl, sym, ◌∙◌, ap, subst, inl, inr, arith}
use Rattle.node_form.specs.declared.tables.Tables.{Tables}
use Rattle.grid_meaning.specs.Grid.{processors}
use Rattle.grid_order.specs.Reading.{reading}
use Rattle.grid_runs.specs.Run.{Run}
use Rattle.grid_time.specs.Timed.{IsPastMoves}
use Rattle.node_text.specs.Listing.{IsListing}
use Rattle.call_claims.specs.Call.{Call}
use Rattle.call_claims.specs.Command.{Asked}
use Rattle.call_claims.specs.Decided.{IsSettled}
use Rattle.call_claims.specs.Execution.{Execution}
use Rattle.exec_claims.specs.Cause.{RunCause, Source, run_of}
use Rattle.exec_claims.specs.Cause.RunCause.{done, trap, turn_limit, stuck, idle}
use Rattle.exec_claims.specs.Decided.{HasBadOrder, HasListing, HasLongOrder, HasNoListing, HasRun, IsOrderText}
use Rattle.exec_claims.specs.declared.status.TheConstants.{TOO_MANY_MOVES}
use Rattle.exec_claims.proofs.OneCause.{read_one, text_short, texts_same}
use Rattle.exec_claims.proofs.OrderExact.{IsLong}
use Rattle.time_claims.specs.Cause.{IsRunEnd, WithFewMoves}

-- ---- the cause of a run
pub run_end : {run : Run} {report : Bool} {k n : ℕ} {told : List ℕ} → RunCause run report k n told
    → IsRunEnd n
run_end (done e) = inl refl
run_end (trap kind line e) = inr (inl refl)
run_end (turn_limit e) = inr (inr (inl refl))
run_end (stuck p kind e) = inr (inr (inr refl))
run_end (idle p e) = inr (inr (inr refl))

pub end_other : {n : ℕ} → IsRunEnd n → n ≢ TOO_MANY_MOVES
end_other (inl e) = λ h. omega (arith, e, h)
end_other (inr (inl e)) = λ h. omega (arith, e, h)
end_other (inr (inr (inl e))) = λ h. omega (arith, e, h)
end_other (inr (inr (inr e))) = λ h. omega (arith, e, h)

-- with a report or without
pub with_report : {run : Run} {k n : ℕ} {told : List ℕ} (report : Bool)
    → RunCause run false k n told → (text : List ℕ) × RunCause run report k n text
with_report report (done e) = (_, done e)
with_report report (trap kind line e) = (_, trap kind line e)
with_report report (turn_limit e) = (_, turn_limit e)
with_report report (stuck p kind e) = (_, stuck p kind e)
with_report report (idle p e) = (_, idle p e)

-- ---- one call
same_order : (read : Result (List ℕ) ℕ) (order other : List ℕ) → read ≡ Ok order → read ≡ Ok other
    → order ≡ other
same_order read order other a b = let same : Ok order ≡ Ok other = sym a ∙ b in cc

pub same_code : (made : Option Tables) (code other : Tables) → made ≡ Some code → made ≡ Some other
    → code ≡ other
same_code made code other a b = let same : Some code ≡ Some other = sym a ∙ b in cc

module _ (call : Call) (ex : Execution) (file : List ℕ) (asked : Asked) (m : ℕ)
    (settled : IsSettled call m) where
  order_texts : (named : Option (List ℕ)) (text other : List ℕ) → IsOrderText call named text
      → IsOrderText call named other → text ≡ other
  order_texts None text other is also = is ∙ sym also
  order_texts (Some name) text other is also =
      sym is.1 ∙ (texts_same call name m settled is.0 also.0 ∙ also.1)

  -- two runs are the same
  pub runs_same : {P Q : Run → ℕ → Type 0} (h : HasRun call file asked ex P)
      (r : HasRun call file asked ex Q)
      → run_of h.code asked h.order ≡ run_of r.code asked r.order
  runs_same h r =
      let codes : h.code ≡ r.code = same_code ex.code h.code r.code h.made r.made in
      let texts : h.text ≡ r.text = order_texts asked.order h.text r.text h.order_text r.order_text in
      let read : reading (processors r.code) r.text ≡ Ok h.order =
      subst (λ code. reading (processors code) r.text ≡ Ok h.order) codes
      (subst (λ text. reading (processors h.code) text ≡ Ok h.order) texts h.read) in
      ap (λ code. run_of code asked h.order) codes
      ∙ ap (run_of r.code asked) (same_order (reading (processors r.code) r.text) h.order r.order read r.read)

  -- the listing and the order were read
  order_read : (named : Option (List ℕ)) (text : List ℕ) → IsOrderText call named text
      → HasLongOrder call named → ⊥
  order_read None text is long = long
  order_read (Some name) text is long = text_short call name m settled long is.0

  pub not_long : {P : Run → ℕ → Type 0} → HasRun call file asked ex P
      → IsLong call ex file asked → ⊥
  not_long h (inl long) = text_short call file m settled long h.source
  not_long h (inr listed) = order_read asked.order h.text h.order_text listed.holds.1

  pub not_unlisted : {P : Run → ℕ → Type 0} → HasRun call file asked ex P
      → HasNoListing call file → ⊥
  not_unlisted h none =
      none.1 h.code (subst (λ text. IsListing text h.code)
      (texts_same call file m settled h.source none.0) h.listing)

  pub not_wrong : ((bytes : List ℕ) (one other : Tables) → IsListing bytes one
      → IsListing bytes other → one ≡ other)
      → {P : Run → ℕ → Type 0} → HasRun call file asked ex P
      → HasListing call file (HasBadOrder call asked) → ⊥
  not_wrong law h listed =
      let bad = listed.holds in
      let codes : listed.code ≡ h.code = law h.source.text listed.code h.code
      (subst (λ text. IsListing text listed.code) (texts_same call file m settled listed.source h.source)
      listed.listing) h.listing in
      let texts : bad.text ≡ h.text = order_texts asked.order bad.text h.text bad.order_text h.order_text in
      read_one bad.at h.order
      (subst (λ code. reading (processors code) h.text ≡ Err bad.at) codes
      (subst (λ text. reading (processors listed.code) text ≡ Err bad.at) texts bad.bad)) h.read
