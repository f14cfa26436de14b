-- A gather goes on where each processor holds its places.
use Rattle.std.proofs.Common.{◌≡◌, refl, sym, ◌∙◌, ap, ap₂, subst, inl, ℕ, zero, suc, ◌<◌, ◌≤◌}
use Rattle.std.proofs.Common.{◌==◌}
use Rattle.std.proofs.Common.{Bool, true, false, not, nat_lt, cond, List, [], ◌∷◌, ℤ, length}
use Rattle.std.proofs.Common.{Some, arith, eq-eqb, true≢false, ◌+◌}
use Rattle.std.specs.Prelude.{if◌then◌else◌}
use Rattle.std.proofs.lemmas.Bool.{ne_eqb}
use Rattle.zpl_region.specs.declared.regions.Region.{Region}
use Rattle.zpl_region.proofs.ListLemmas.{Among, among_filtered}
use Rattle.grid_paths.specs.Tree.{times}
use Rattle.node_form.specs.declared.tables.Tables.{Tables}
use Rattle.grid_meaning.specs.Action.{goes_on}
use Rattle.grid_meaning.specs.Collective.{Collective, Last, Sends, keeping, others, others_where}
use Rattle.grid_meaning.specs.Gather.{gather_stages, gathered, prints_gathered}
use Rattle.grid_meaning.specs.Local.{Local, processor_numbers, processors}
use Rattle.grid_meaning.specs.Owner.{region_in, tuples_of}
use Rattle.grid_meaning.specs.Place.{values_at}
use Rattle.row_orders.specs.Rows.{ArePartners, delivery_stages, taken_where}
use Rattle.row_orders.proofs.PartnerLemmas.{times-cons, times-others_where}
use Rattle.checked_rows.specs.of_plan_meaning.Abreast.{Abreast, Share, locals_of}
use Rattle.checked_rows.specs.of_plan_meaning.Messages.{delivered}
use Rattle.message_runs.proofs.GatherRows.{zero_below}
use Rattle.checked_rows.specs.of_node_check.Told.{SlotHas}
use Rattle.checked_messages.specs.Going.{GoesOn, StandAlike}
use Rattle.checked_messages.proofs.GoLemmas.{Acts, IsBehind, Leaves, delivered_goes}
use Rattle.checked_messages.proofs.HeldLemmas.{ReadsAll, held_still, values_read}
use Rattle.checked_messages.proofs.OwnLemmas.{HoldsOver}
use Rattle.checked_messages.proofs.WorkLemmas.{behind_start, others_turned, region_is, some_of}

not_zero : (n : ℕ) → (suc n == 0) ≡ false
not_zero n = ne_eqb (suc n) 0 (λ same. cc)

-- one that has some words sends them to processor 0
abbrev sender_to : ℕ → List ℕ
sender_to zero = []
sender_to (suc n) = 0 ∷ []

some_to : (n : ℕ) → 0 < n → Among (sender_to n) 0
some_to zero some = absurd (omega (arith, some))
some_to (suc n) some = inl refl

-- words that are kept change nothing that a processor has
pub keeps_words : (share : Share) (local : Local) (q : ℕ) (words : List ℤ) → IsBehind share local
    → IsBehind share (keeping local q words)
keeps_words share local q words is = record { running = is.running; keeps = is.keeps }

module _ (code : Tables) (all : Abreast) (alike : StandAlike code all) (quiet : all.flights ≡ [])
    (truth : Bool) (array slot : ℕ) (region : Region) (here : SlotHas all slot region)
    (reads : HoldsOver code all array region) where
  abbrev row : ℕ → Collective
  row p = gathered code p truth array slot

  abbrev State : ℕ → Local → Type 0
  State p local = IsBehind (all.shares p) local

  abbrev count : ℕ → ℕ
  count q = length (tuples_of code q region)

  abbrev many : ℕ → ℕ → ℕ
  many p q = count p

  abbrev to_of : ℕ → List ℕ
  to_of zero = []
  to_of (suc p) = sender_to (count (suc p))

  abbrev from_of : ℕ → List ℕ
  from_of zero = others_where code 0 count
  from_of (suc p) = []

  stages_are : (p : ℕ) → p < processors code
      → (row p).stages (locals_of all p) ≡ delivery_stages false (to_of p) (from_of p)
  stages_are p below =
      ap (gather_stages code p)
      (region_is code all alike slot region here p below (locals_of all p)
      (behind_start (all.shares p)))
      ∙ by p
    where
      by : (p : ℕ) → gather_stages code p region ≡ delivery_stages false (to_of p) (from_of p)
      by zero = refl
      by (suc p) = some (count (suc p))
        where
          some : (n : ℕ) → (if n == 0 then Last ∷ [] else Sends 0 ∷ Last ∷ [])
              ≡ delivery_stages false (sender_to n) []
          some zero = refl
          some (suc n) =
              ap (λ b. if b then Last ∷ [] else Sends 0 ∷ Last ∷ []) (not_zero n)

  none_to : (n q : ℕ) → times (suc q) (sender_to n) ≡ 0
  none_to zero q = refl
  none_to (suc n) q =
      times-cons (suc q) 0 [] ∙ ap (λ b. cond b 1 0 + 0) (ne_eqb 0 (suc q) (λ same. cc))

  sent_once : (p n : ℕ) → times 0 (sender_to n) ≡ cond (nat_lt 0 n) (cond (not (suc p == 0)) 1 0) 0
  sent_once p zero = refl
  sent_once p (suc n) =
      sym (ap₂ (λ a b. cond a (cond (not b) 1 0) 0) (zero_below n) (not_zero p))

  partners : ArePartners (processors code) to_of from_of
  partners = record { both_ways = both; once = few }
    where
      both : (p q : ℕ) → p < processors code → q < processors code
          → times q (to_of p) ≡ times p (from_of q)
      both zero zero a b = sym (times-others_where code 0 0 count b ∙ none (nat_lt 0 (count 0)))
        where
          none : (b : Bool) → (let n : ℕ = cond b (cond (not (0 == 0)) 1 0) 0 in n) ≡ 0
          none true = refl
          none false = refl
      both zero (suc q) a b = refl
      both (suc p) zero a b =
          sent_once p (count (suc p)) ∙ sym (times-others_where code 0 (suc p) count a)
      both (suc p) (suc q) a b = none_to (count (suc p)) q

      few : (p q : ℕ) → p < processors code → q < processors code → times q (to_of p) ≤ 1
      few zero q a b = omega arith
      few (suc p) zero a b = by (count (suc p))
        where
          by : (n : ℕ) → times 0 (sender_to n) ≤ 1
          by zero = omega arith
          by (suc n) = omega arith
      few (suc p) (suc q) a b = let none = none_to (count (suc p)) q in omega (arith, none)

  read : (p : ℕ) → p < processors code → (local : Local) → State p local
      → ReadsAll (count p) (values_at local.stores array (tuples_of code p (region_in local slot)))
  read p below local state =
      subst (λ r. ReadsAll (count p) (values_at local.stores array (tuples_of code p r)))
      (sym (region_is code all alike slot region here p below local state))
      (values_read local.stores array (tuples_of code p region) (λ t among.
      held_still (all.shares p).stores local.stores array t state.keeps.stores
      (reads p below t among)))

  turned : (p q : ℕ) → p < processors code → Among (from_of p) q
      → (q < processors code) × Among (to_of q) p
  turned zero q below among = by q (others_turned code many 0 q below among)
    where
      by : (q : ℕ) → (q < processors code) × Among (others_where code q (λ r. count q)) 0
          → (q < processors code) × Among (to_of q) 0
      by zero is =
          absurd (true≢false (sym (among_filtered (λ r. not (r == 0)) (processor_numbers code) 0
          (among_filtered (λ r. nat_lt 0 (count 0)) (others code 0) 0 is.1).0).1))
      by (suc q) is = (
        is.0,
        some_to (count (suc q))
            (some_of (count (suc q)) (among_filtered (λ r. nat_lt 0 (count (suc q)))
            (others code (suc q)) 0 is.1).1),
      )
  turned (suc p) q below among = absurd among

  ends : (p : ℕ) → p < processors code → (local : Local) → State p local
      → Leaves (all.shares p) ((row p).last local)
  ends zero below local state =
      let own = read 0 below local state in
      record {
        next = goes_on local;
        shown = _;
        is = ap (prints_gathered code truth (region_in local slot) local) own.is;
        running = state.running;
        keeps = state.keeps;
      }
  ends (suc p) below local state = record {
    next = goes_on local;
    shown = [];
    is = refl;
    running = state.running;
    keeps = state.keeps;
  }

  abbrev acts : Acts code row all State many
  acts = record {
    alone = λ p. false;
    to = to_of;
    from = from_of;
    stages = stages_are;
    begins = λ p below. record {
      local = locals_of all p;
      is = refl;
      has = behind_start (all.shares p);
    };
    says = λ p q below among local state. read p below local state;
    takes = λ p q below among local state words long. record {
      local = keeping local q words;
      is =
          ap (λ b. taken_where b (Some (keeping local q words)))
          (ap (λ r. length words == length (tuples_of code q r))
          (region_is code all alike slot region here p below local state)
          ∙ eq-eqb (length words) (count q) long);
      has = keeps_words (all.shares p) local q words state;
    };
    ends = ends;
  }

  pub gather_goes : GoesOn code all [] (delivered code row all)
  gather_goes = delivered_goes code row all State many acts quiet partners turned
