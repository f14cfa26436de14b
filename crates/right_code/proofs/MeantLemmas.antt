-- What keeps the runs of a flat program that shows what is meant shows it too.
use Rattle.std.proofs.Common.{◌≡◌, ◌≢◌, ℕ, sym, ap, ◌∙◌, subst}
use Rattle.zpl_meaning.specs.Outcome.{Outcome}
use Rattle.node_form.specs.declared.tables.Tables.{Tables}
use Rattle.row_runs.specs.Run.{Wrong}
use Rattle.row_runs.specs.Segments.{Keeps}
use Rattle.flat_form.specs.Act.{flat_run}
use Rattle.compiled_runs.specs.of_lowering_runs.Shown.{Few, IsBound, Many, Shattered, shown}
use Rattle.compiled_runs.specs.of_lock_steps.Meant.{IsMeant}
use Rattle.compiled_runs.proofs.of_lock_steps.StepLemmas.{kept_same}

pub kept_meant : (flat kept : Tables) (outcomes : ℕ → Outcome)
    → ((a n : ℕ) → Keeps (flat_run flat a n) (flat_run kept a n)) → IsMeant flat outcomes
    → IsMeant kept outcomes
kept_meant flat kept outcomes keeps meant = record {
  shown = λ n.
      let there = meant.shown n in
      record {
        bound = there.bound;
        same = sym (same there.bound n) ∙ there.same;
        size = bounds n there.bound (outcomes n) there.size;
      };
  right = λ a n e. meant.right a n (ap (λ result. result.stop) (same a n) ∙ e);
}
  where
    same : (a n : ℕ) → flat_run flat a n ≡ flat_run kept a n
    same a n = kept_same (flat_run flat a n) (flat_run kept a n) (meant.right a n) (keeps a n)

    bounds : (n bound : ℕ) (outcome : Outcome) → IsBound (λ a. flat_run flat a n) n bound outcome
        → IsBound (λ a. flat_run kept a n) n bound outcome
    bounds n bound outcome (Few ends few) = Few ends few
    bounds n bound outcome (Many more many) = Many more many
    bounds n bound outcome (Shattered more stays) =
        Shattered more (λ k long. sym (same k n) ∙ stays k long ∙ same bound n)
