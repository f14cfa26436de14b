-- A grid that can be saved, of states that may be, with lines of 64 bits, is a saveable one.
use Rattle.std.proofs.Common.{◌≡◌, ◌≢◌, ◌⊎◌, inl, inr, ℕ, suc, ◌+◌, ◌<◌, ◌≤◌, List, [], ◌∷◌, refl, sym, ap, ◌∙◌, subst, arith}
use Rattle.std.specs.Prelude.{All, Some, slice_get, Result, Ok, Err, OnOk}
use Rattle.std.proofs.lemmas.Bool.{cases_lt}
use Rattle.std.proofs.lemmas.List.Elements.{All-nil, All-cons, All-head, All-tail}
use Rattle.std.proofs.lemmas.Option.{slice_get_within}
use Rattle.zpl_nums.specs.declared.ends.End.TheVariants.{More}
use Rattle.node_form.specs.declared.tables.Tables.{Tables}
use Rattle.grid_meaning.specs.Grid.{Grid}
use Rattle.grid_meaning.specs.Local.{Local, processors}
use Rattle.save_lines.specs.Line.{AreSavedLines}
use Rattle.grid_save.specs.Kept.{IsEnding}
use Rattle.grid_save.specs.Onward.{CanBeSaved, MayBe}
use Rattle.grid_save.specs.Saved.{IsSaveable}
use Rattle.grid_save.specs.Written.{grid_lines}

pub on_ok : {V E : Type 0} (r : Result V E) (P : Type 0) → P → OnOk r P
on_ok (Ok v) P is = is
on_ok (Err e) P is = tt

-- ---- states that are seen one after another
abbrev pub AreSeen : Tables → List Local → ℕ → Type 0
AreSeen code locals k =
    (p : ℕ) (local : Local) → p < k → slice_get locals p ≡ Some local → MayBe code p local

pub seen_more : (code : Tables) (locals : List Local) (k : ℕ) (found : Local) → slice_get locals k ≡ Some found → MayBe code k found
    → AreSeen code locals k → AreSeen code locals (k + 1)
seen_more code locals k found there may seen p local below at = by (cases_lt p k)
  where
    by : (p < k) ⊎ (k ≤ p) → MayBe code p local
    by (inl less) = seen p local less at
    by (inr more) =
        let same : k ≡ p = omega (arith, below, more) in
        let one : found ≡ local = let e : Some found ≡ Some local = sym there ∙ (ap (slice_get locals) same ∙ at) in cc in
        subst (λ n. MayBe code n local) same (subst (MayBe code k) one may)

all_ended : (locals : List Local) → All (λ l. l.ended ≢ Some More) locals
    → ((p : ℕ) (local : Local) → slice_get locals p ≡ Some local → local.ended ≢ Some More → IsEnding local.ended)
    → All (λ l. IsEnding l.ended) locals
all_ended [] none each = All-nil (λ (l : Local). IsEnding l.ended)
all_ended (local ∷ locals) none each =
    All-cons (λ (l : Local). IsEnding l.ended) local locals
    (each 0 local refl (All-head (λ (l : Local). l.ended ≢ Some More) local locals none))
    (all_ended locals (All-tail (λ (l : Local). l.ended ≢ Some More) local locals none) (λ p. each (suc p)))

pub saveable : (code : Tables) (grid : Grid) → AreSavedLines (grid_lines code grid)
    → AreSeen code grid.world.locals (processors code) → CanBeSaved code grid → IsSaveable code grid
saveable code grid lines seen can =
    let below : (p : ℕ) (local : Local) → slice_get grid.world.locals p ≡ Some local → p < processors code =
    λ p local there. subst (λ n. p < n) can.onward.many (slice_get_within grid.world.locals p local there) in
    record {
      locals = record {
        many = can.onward.many;
        each = λ p local there. (seen p local (below p local there) there).state;
        ended = all_ended grid.world.locals can.onward.ended (λ p local there. (seen p local (below p local there) there).ending);
      };
      links = can.onward.links;
      counts = can.counts;
      lines = lines;
      printed = can.printed;
    }
