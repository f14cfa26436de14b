-- A flat program that shows what a program means comes to no row that may not stand there.
use Rattle.std.proofs.Common.{◌≡◌, ◌≢◌, ℕ, ◌+◌, ◌≤◌, ◌<◌, ◌⊎◌, inl, inr, sym, ap, ◌∙◌, arith}
use Rattle.std.proofs.lemmas.Bool.{cases_lt}
use Rattle.zpl_nums.specs.declared.ends.End.{End}
use Rattle.zpl_nums.specs.declared.ends.End.TheVariants.{More}
use Rattle.lowering_fits.specs.of_zpl_meaning.Outcome.{Outcome}
use Rattle.node_form.specs.declared.tables.Tables.{Tables}
use Rattle.row_runs.specs.Run.{Stop, Ends, Wrong, Result}
use Rattle.row_runs.specs.Growth.{GoesOnTo, StaysSo, WasCutOff}
use Rattle.lowering_fits.specs.of_flat_form.Act.{flat_run}
use Rattle.lowering_fits.proofs.of_flat_form.GrowthLemmas.{grow}
use Rattle.lowering_runs.specs.Shown.{shown, IsBound, Few, Many, Shattered, Shows}

not_wrong : (stop : Stop) (ending : End) → stop ≡ Ends ending → stop ≢ Wrong
not_wrong stop ending e q = differ (sym e ∙ q)
  where
    differ : Ends ending ≡ Wrong → ⊥
    differ d = cc

before_it : (shorter longer : Result) (outcome : Outcome) → GoesOnTo shorter longer
    → longer ≡ shown outcome → shorter.stop ≢ Wrong
before_it shorter longer outcome (StaysSo same) e =
    not_wrong shorter.stop outcome.ending (ap (λ (r : Result). r.stop) (same ∙ e))
before_it shorter longer outcome (WasCutOff more front) e = not_wrong shorter.stop More more

-- a longer run is the same
far : (tables : Tables) (m b a : ℕ) (outcome : Outcome) → a ≤ m → b < a
    → flat_run tables b m ≡ shown outcome → IsBound (λ x. flat_run tables x m) m b outcome
    → flat_run tables a m ≡ shown outcome
far tables m b a outcome le lt same (Few ends few) =
    by (grow tables b a (omega (arith, lt)) m m (omega arith))
  where
    ending_of : Ends outcome.ending ≡ Ends More → outcome.ending ≡ More
    ending_of e = cc

    by : GoesOnTo (flat_run tables b m) (flat_run tables a m) → flat_run tables a m ≡ shown outcome
    by (StaysSo is) = sym is ∙ same
    by (WasCutOff more front) =
        absurd (ends (ending_of (sym (ap (λ (r : Result). r.stop) same) ∙ more)))
far tables m b a outcome le lt same (Many more many) = absurd (omega (arith, many, le, lt))
far tables m b a outcome le lt same (Shattered more stays) = stays a (omega (arith, lt)) ∙ same

pub never_wrong : (tables : Tables) (outcome : ℕ → Outcome)
    → ((n : ℕ) → Shows (λ a. flat_run tables a n) n (outcome n))
    → (a n : ℕ) → (flat_run tables a n).stop ≢ Wrong
never_wrong tables outcome each a n =
    let h = each (n + a) in
    by h.bound h.same h.size (cases_lt h.bound a)
  where
    by : (b : ℕ) → flat_run tables b (n + a) ≡ shown (outcome (n + a))
        → IsBound (λ x. flat_run tables x (n + a)) (n + a) b (outcome (n + a))
        → (b < a) ⊎ (a ≤ b) → (flat_run tables a n).stop ≢ Wrong
    by b same size (inr le) =
        before_it (flat_run tables a n) (flat_run tables b (n + a)) (outcome (n + a))
        (grow tables a b le n (n + a) (omega arith)) same
    by b same size (inl lt) =
        before_it (flat_run tables a n) (flat_run tables a (n + a)) (outcome (n + a))
        (grow tables a a (omega arith) n (n + a) (omega arith))
        (far tables (n + a) b a (outcome (n + a)) (omega arith) lt same size)
