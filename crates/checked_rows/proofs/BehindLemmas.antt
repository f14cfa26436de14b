-- Behind a row that goes on: scalars that it doesn't set, and what is on its way, are as they were.
use Rattle.std.proofs.Common.{◌≡◌, ℕ, zero, suc, Bool, true, false, refl, sym, ◌∙◌, ap, subst}
use Rattle.std.proofs.Common.{true≢false, ℤ, List, [], ◌∷◌, Option, Some, None}
use Rattle.std.specs.Prelude.{◌&&◌, if◌then◌else◌, flat_map, not, slice_get, take, unwrap_or}
use Rattle.std.specs.Fmt.{signed_decimal}
use Rattle.std.specs.List.{filter_map}
use Rattle.zpl_nums.specs.Integer.{is_true}
use Rattle.zpl_nums.specs.declared.ends.End.{End}
use Rattle.zpl_nums.specs.declared.ends.End.TheVariants.{More}
use Rattle.zpl_nums.specs.declared.ends.TrapKind.{TrapKind}
use Rattle.zpl_region.specs.declared.regions.Region.{Region}
use Rattle.zpl_region.specs.Tests.{is_within_limit}
use Rattle.zpl_arrays.specs.Array.{Array}
use Rattle.zpl_arrays.specs.ArrayText.{truth_text}
use Rattle.node_form.specs.Control as control
use Rattle.node_form.specs.Control.{Control, Registers}
use Rattle.node_form.specs.Nest.{Nest}
use Rattle.node_form.specs.Value.{Computed, Divides, Gives, Lacks}
use Rattle.node_form.specs.declared.arrays.ArrayRow.{ArrayRow}
use Rattle.node_form.specs.declared.arrays.Item.{Item}
use Rattle.node_form.specs.declared.instructions.Instr.{Instr}
use Rattle.node_form.specs.declared.instructions.Instr.TheVariants as instr
use Rattle.node_form.specs.declared.members.Member.{Member}
use Rattle.node_form.specs.declared.tables.Tables.{Tables}
use Rattle.code_parts.specs.Exchanged.{is_exchange_row}
use Rattle.code_parts.specs.Uses.{accumulated, accumulated_by, rows_or_none}
use Rattle.grid_meaning.specs.Collective.{Collective}
use Rattle.grid_meaning.specs.Delivery as delivery
use Rattle.grid_meaning.specs.Exchange as exchange
use Rattle.grid_meaning.specs.Local.{Local}
use Rattle.grid_meaning.specs.Remap as remap
use Rattle.grid_meaning.specs.Room.{cleared, roomed}
use Rattle.grid_meaning.specs.Turn.{expression_value, prints_text, prints_value}
use Rattle.nest_meaning.specs.Tree.{nest_of}
use Rattle.nest_meaning.specs.Units.{units_of}
use Rattle.nest_meaning.proofs.TreeLemmas.{reads_only}
use Rattle.row_orders.specs.Rows.{Flight}
use Rattle.row_runs.specs.Run.{Does, Effect, Ends, Goes, Leaps, Passes, Step, Stops, Wrong}
use Rattle.plan_meaning.specs.Abreast.{Abreast, Share, every, go_where, is_quiet, locals_of, of_processors}
use Rattle.plan_meaning.specs.Abreast.{standing}
use Rattle.plan_meaning.specs.Act.{action_of, alone, control_of, controlled, controlled_as, ends_where, folded}
use Rattle.plan_meaning.specs.Act.{found, go_one_way, leaps_where, print_ends, registers_of, registers_or}
use Rattle.plan_meaning.specs.Act.{is_vote_of, row_does, shares_on, tested, voted_as}
use Rattle.plan_meaning.specs.Loops.{lacks, looped, share_behind}
use Rattle.plan_meaning.specs.Loops.{shared, tree_looped, wants}
use Rattle.plan_meaning.specs.Messages.{answered, answering, asked, asking, begun, behind_answers, delivered, final_of, finished}
use Rattle.plan_meaning.specs.Messages.{finished_in, from_of, heard_by, middle_of, next_or, next_with, remapped}
use Rattle.plan_meaning.specs.Messages.{started, starts_alone, took, words_of}
use Rattle.plan_meaning.proofs.ThereLemmas.{either_share}
use Rattle.plan_passes.proofs.ControlLemmas.{misses_one, other_set}
use Rattle.plan_passes.proofs.LoopLemmas.{Misses}
use Rattle.plan_orders.proofs.TestLemmas.{no_flights}
use Rattle.checked_rows.proofs.LoopScalarLemmas.{behind_stays, shared_stays}
use Rattle.checked_rows.proofs.ScalarLemmas as scalars
use Rattle.checked_rows.proofs.ScalarLemmas.{IfLocal, RowKept}

-- ---- the scalars that a row sets or accumulates
abbrev pub set_scalars : Tables → Instr → List ℕ
set_scalars code (instr.Set scalar expr line) = scalar ∷ []
set_scalars code (instr.Loop slot group) = accumulated code group
set_scalars code (instr.Fold scalar fold) = scalar ∷ []
set_scalars code (instr.TreeFold scalar fold) = scalar ∷ []
set_scalars code row = []

-- a processor's scalars are as they were, but these
abbrev SharesLeft : List ℕ → Share → Share → Type 0
SharesLeft numbers one other =
    (scalar : ℕ) → Misses scalar numbers → slice_get other.scalars scalar ≡ slice_get one.scalars
    scalar

abbrev AllLeft : List ℕ → Abreast → Abreast → Type 0
AllLeft numbers all next = (p : ℕ) → SharesLeft numbers (all.shares p) (next.shares p)

pub record Stays (code : Tables) (row : Instr) (all next : Abreast) : Type 0 where
  pub scalars : (p scalar : ℕ) → Misses scalar (set_scalars code row)
      → slice_get (next.shares p).scalars scalar ≡ slice_get (all.shares p).scalars scalar
  pub flights : is_exchange_row row ≡ false → next.flights ≡ all.flights

-- ---- steps
pub where_goes : (b : Bool) (shown bytes : List ℕ) (next after : Abreast)
    → go_where b shown next ≡ Goes bytes after → (b ≡ true) × (next ≡ after)
where_goes true shown bytes next after e = let same : next ≡ after = cc in (refl, same)
where_goes false shown bytes next after e = cc

does_goes : (step : Step Abreast) (bytes : List ℕ) (after : Abreast)
    → Does step ≡ Does (Goes bytes after) → step ≡ Goes bytes after
does_goes step bytes after e = cc

module _ (code : Tables) (links : Option ℕ) (n : ℕ) (all after : Abreast) (bytes : List ℕ) where
  abbrev Same : List ℕ → Type 0
  Same numbers = AllLeft numbers all after × (after.flights ≡ all.flights)

  left_of : (numbers : List ℕ) (b : Bool) (shown : List ℕ) (next : Abreast)
      → go_where b shown next ≡ Goes bytes after
      → (b ≡ true → AllLeft numbers all next × (next.flights ≡ all.flights)) → Same numbers
  left_of numbers b shown next e left =
      let is = where_goes b shown bytes next after e in
      subst (λ (next : Abreast). AllLeft numbers all next × (next.flights ≡ all.flights)) is.1
      (left is.0)

  shares_left : (numbers : List ℕ) (b : Bool) (shown : List ℕ) (next : Abreast)
      → go_where b shown next ≡ Goes bytes after → AllLeft numbers all next
      → AllLeft numbers all after
  shares_left numbers b shown next e left =
      subst (λ (next : Abreast). AllLeft numbers all next)
      (where_goes b shown bytes next after e).1 left

  first_of : (a b c : Bool) → (a && b && c) ≡ true → a ≡ true
  first_of true b c e = refl
  first_of false b c e = cc

  ends_never : (b : Bool) (ending : End) → ends_where b ending ≡ Goes bytes after → ⊥
  ends_never true ending e = cc
  ends_never false ending e = cc

  leaps_never : (b : Bool) (goal : ℕ) → leaps_where b goal ≡ Does (Goes bytes after) → ⊥
  leaps_never true goal e = cc
  leaps_never false goal e = cc

  -- ---- rows that need scalars and slots alone
  abbrev Kept : List ℕ → Registers → Control → Type 0
  Kept numbers registers way =
      (scalar : ℕ) → Misses scalar numbers
      → slice_get (registers_or way registers).scalars scalar ≡ slice_get registers.scalars scalar

  limited_kept : (registers : Registers) (slot line : ℕ) (region : Region) (b : Bool)
      → Kept [] registers (control.limited registers slot line region b)
  limited_kept registers slot line region true scalar misses = refl
  limited_kept registers slot line region false scalar misses = refl

  checked_kept : (registers : Registers) (b : Bool) (kind : TrapKind) (line : ℕ)
      → Kept [] registers (control.checked registers b kind line)
  checked_kept registers true kind line scalar misses = refl
  checked_kept registers false kind line scalar misses = refl

  branched_kept : (registers : Registers) (b : Bool) (goal : ℕ)
      → Kept [] registers (control.branched registers b goal)
  branched_kept registers true goal scalar misses = refl
  branched_kept registers false goal scalar misses = refl

  row_kept : {X : Type 0} (numbers : List ℕ) (registers : Registers) (o : Option X)
      (next : X → Control) → ((x : X) → Kept numbers registers (next x))
      → Kept numbers registers (control.with_row o next)
  row_kept numbers registers (Some x) next each = each x
  row_kept numbers registers None next each = λ scalar misses. refl

  computed_kept : {X : Type 0} (numbers : List ℕ) (registers : Registers) (o : Computed X)
      (line : ℕ)
      (next : X → Control) → ((x : X) → Kept numbers registers (next x))
      → Kept numbers registers (control.with_computed o line next)
  computed_kept numbers registers (Gives x) line next each = each x
  computed_kept numbers registers Divides line next each = λ scalar misses. refl
  computed_kept numbers registers Lacks line next each = λ scalar misses. refl

  control_kept : (row : Instr) (registers : Registers)
      → Kept (set_scalars code row) registers (control.control code registers row)
  control_kept (instr.Set scalar expr line) registers =
      computed_kept (scalar ∷ []) registers (control.register_value code registers expr) line
      (control.with_scalar registers scalar)
      (λ value number misses.
      other_set registers.scalars scalar number value (misses_one number scalar misses))
  control_kept (instr.Fix slot region) registers = λ scalar misses. refl
  control_kept (instr.Dims slot parts line) registers =
      row_kept [] registers (slice_get code.slots slot) _
      (λ rank. computed_kept [] registers (control.part_dims code registers 0 (take rank parts))
      line
      (λ dims. control.with_slot registers slot line (control.region_of rank dims))
      (λ dims. limited_kept registers slot line (control.region_of rank dims)
      (is_within_limit (control.region_of rank dims))))
  control_kept (instr.Formed form slot from shift line) registers =
      row_kept [] registers (slice_get registers.slots from) _
      (λ region. limited_kept registers slot line (control.formed_by form shift region)
      (is_within_limit (control.formed_by form shift region)))
  control_kept (instr.Need slot array shift line) registers =
      row_kept [] registers (slice_get registers.slots slot) _
      (λ region. row_kept [] registers (slice_get code.arrays array) _
      (λ row. checked_kept registers _ _ line))
  control_kept (instr.Same target source kind line) registers =
      row_kept [] registers (slice_get registers.slots target) _
      (λ region. row_kept [] registers (slice_get registers.slots source) _
      (λ other. checked_kept registers _ _ line))
  control_kept (instr.Fits slot shift line) registers =
      row_kept [] registers (slice_get registers.slots slot) _
      (λ region. checked_kept registers _ _ line)
  control_kept (instr.Unless expr goal line) registers =
      computed_kept [] registers (control.register_value code registers expr) line
      (λ value. control.branched registers (is_true value) goal)
      (λ value. branched_kept registers (is_true value) goal)
  control_kept row registers = λ scalar misses. refl

  controlled_left : (row : Instr) → controlled code row all ≡ Does (Goes bytes after)
      → Same (set_scalars code row)
  controlled_left row e = by (control_of code row all 0) e
    where
      by : (way : Control) → controlled_as code row all way ≡ Does (Goes bytes after)
          → Same (set_scalars code row)
      by (control.Steps registers) e =
          left_of (set_scalars code row) (go_one_way code row all) [] (shares_on code row all)
          (does_goes _ bytes after e)
          (λ is. (λ p. control_kept row (registers_of (all.shares p)), refl))
      by (control.Leaps goal) e = absurd (leaps_never (go_one_way code row all) goal e)
      by (control.Ends ending) e =
          absurd (ends_never (go_one_way code row all && is_quiet all) ending
          (does_goes _ bytes after e))
      by control.Outside e = cc

  -- ---- rows of one turn
  same_list : (numbers : List ℕ) {xs ys : List ℤ} → ys ≡ xs → (scalar : ℕ)
      → Misses scalar numbers → slice_get ys scalar ≡ slice_get xs scalar
  same_list numbers is = λ scalar misses. ap (λ list. slice_get list scalar) is

  alone_left : (row : Instr)
      → ((p : ℕ) → (next_or (locals_of all p) (action_of code row all p)).scalars
      ≡ (all.shares p).scalars)
      → Does (alone code row all) ≡ Does (Goes bytes after) → Same []
  alone_left row kept e =
      left_of [] _ _ _ (does_goes (alone code row all) bytes after e)
      (λ is. (λ p. same_list [] (kept p), refl))

  text_kept : (share : Share) (p : ℕ) (text : Option (List ℕ))
      → (next_or (standing share) (prints_text p (standing share) text)).scalars ≡ share.scalars
  text_kept share p None = refl
  text_kept share zero (Some text) = refl
  text_kept share (suc p) (Some text) = refl

  value_kept : (share : Share) (p : ℕ) (value : Computed ℤ) (text : ℤ → List ℕ)
      → (next_or (standing share) (prints_value p (standing share) value text)).scalars
      ≡ share.scalars
  value_kept share zero (Gives x) text = refl
  value_kept share (suc p) (Gives x) text = refl
  value_kept share p Divides text = refl
  value_kept share p Lacks text = refl

  room_kept : (share : Share) (p array : ℕ) (o : Option ArrayRow) (r : Option Region)
      → (next_or (standing share) (roomed code p (standing share) array o r)).scalars
      ≡ share.scalars
  room_kept share p array None r = refl
  room_kept share p array (Some row) None = refl
  room_kept share p array (Some row) (Some region) = refl

  clear_kept : (share : Share) (array : ℕ) (o : Option Array)
      → (next_or (standing share) (cleared (standing share) array o)).scalars ≡ share.scalars
  clear_kept share array None = refl
  clear_kept share array (Some store) = refl

  printed_left : (row : Instr) (o : Option End)
      → ((p : ℕ) → (next_or (locals_of all p) (action_of code row all p)).scalars
      ≡ (all.shares p).scalars)
      → Does (print_ends code row all o) ≡ Does (Goes bytes after) → Same []
  printed_left row None kept e = alone_left row kept e
  printed_left row (Some ending) kept e =
      absurd (ends_never _ ending (does_goes (print_ends code row all (Some ending)) bytes after e))

  -- ---- votes and folds
  fold_left : (scalar : ℕ) (f : _) → folded code all scalar f ≡ Goes bytes after
      → Same (scalar ∷ [])
  fold_left scalar f e =
      left_of (scalar ∷ []) _ _ _ e
      (λ is. (
        λ p number misses.
            other_set (all.shares p).scalars scalar number _ (misses_one number scalar misses),
        refl,
      ))

  vote_left : (group : ℕ) (o : Option ℕ) → voted_as code all group o ≡ Goes bytes after → Same []
  vote_left group None e = left_of [] _ _ _ e (λ is. (λ p scalar misses. refl, refl))
  vote_left group (Some member) e = absurd (ends_never _ _ e)

  -- ---- rows with messages
  module _ (row : ℕ → Collective) (kept : (p : ℕ) → RowKept (row p)) where
    abbrev locals : ℕ → Local
    locals = locals_of all

    middle_kept : (p : ℕ) → (middle_of code row locals p).scalars ≡ (locals p).scalars
    middle_kept p =
        scalars.or_local (locals p) (begun code row locals p) (locals p)
        (scalars.begun_kept (row p) (kept p) (starts_alone ((row p).stages (locals p))) (locals p))
        refl

    final_kept : (heard : ℕ → ℕ → List ℤ) (p : ℕ)
        → (final_of code row locals heard p).scalars ≡ (locals p).scalars
    final_kept heard p =
        by (took code row locals heard p)
        (scalars.taking_kept (row p) (kept p) (λ q. heard q p) (middle_of code row locals p)
        (from_of code row locals p))
      where
        by : (o : Option Local) → IfLocal (middle_of code row locals p) o
            → (unwrap_or o (middle_of code row locals p)).scalars ≡ (locals p).scalars
        by None is = middle_kept p
        by (Some next) is = is ∙ middle_kept p

    next_kept : (heard : ℕ → ℕ → List ℤ) (flights : List Flight) (p : ℕ)
        → ((next_with code row locals heard flights).shares p).scalars ≡ (all.shares p).scalars
    next_kept heard flights p =
        scalars.action_kept (locals p) ((row p).last (final_of code row locals heard p))
        (final_of code row locals heard p) (final_kept heard p)
        ((kept p).last (final_of code row locals heard p))

    delivered_left : delivered code row all ≡ Goes bytes after → Same []
    delivered_left e =
        left_of [] _ _ _ e
        (λ is. (
          λ p. same_list [] (next_kept (words_of code row locals) [] p),
          sym (no_flights all.flights (first_of (is_quiet all) _ _ is)),
        ))

    started_left : (number : ℕ) → started code row all links number ≡ Goes bytes after
        → AllLeft [] all after
    started_left number e =
        shares_left [] _ _ _ e (λ p. same_list [] (next_kept (λ p q. []) [] p))

    finished_left : (number : ℕ) (flights : List Flight)
        → finished_in code row all number flights ≡ Goes bytes after → AllLeft [] all after
    finished_left number [] e = cc
    finished_left number (flight ∷ flights) e =
        shares_left [] _ _ _ e (λ p.
        either_share (SharesLeft [] (all.shares p)) code all
        (next_with code row locals flight.words flights) p (λ scalar misses. refl)
        (same_list [] (next_kept flight.words flights p)))

    -- a remap read
    asking_kept : (p : ℕ)
        → (unwrap_or (asked code row all p) (locals p)).scalars ≡ (locals p).scalars
    asking_kept p =
        scalars.or_local (locals p) (asked code row all p) (locals p) ((kept p).alone (locals p))
        refl

    or_kept : (one middle : Local) (o : Option Local) → middle.scalars ≡ one.scalars
        → IfLocal middle o → (unwrap_or o one).scalars ≡ one.scalars
    or_kept one middle None a b = refl
    or_kept one middle (Some next) a b = b ∙ a

    heard_kept : (p : ℕ)
        → (unwrap_or (heard_by code row all p) (locals p)).scalars ≡ (locals p).scalars
    heard_kept p =
        or_kept (locals p) (asking code row all p)
        (heard_by code row all p) (asking_kept p)
        (scalars.taking_kept (row p) (kept p) _ (asking code row all p) _)

    answered_kept : (p : ℕ) → (behind_answers code row all p).scalars ≡ (locals p).scalars
    answered_kept p =
        or_kept (locals p) (answering code row all p)
        (answered code row all p) (heard_kept p)
        (scalars.taking_kept (row p) (kept p) _ (answering code row all p) _)

    remapped_left : remapped code row all ≡ Goes bytes after → Same []
    remapped_left e =
        left_of [] _ _ _ e
        (λ is. (
          λ p. same_list []
              (scalars.action_kept (locals p) ((row p).last (behind_answers code row all p))
              (behind_answers code row all p) (answered_kept p)
              ((kept p).last (behind_answers code row all p))),
          sym (no_flights all.flights (first_of (is_quiet all) _ _ is)),
        ))

  -- ---- loops
  module _ (slot group : ℕ) (vote : Bool) where
    abbrev joins_of : Option (List Member) → List ℕ
    joins_of o = flat_map accumulated_by (rows_or_none o)

    in_tree : (members : List Member) (nest : Nest) → nest_of members ≡ Some nest
        → (p scalar : ℕ) → Misses scalar (flat_map accumulated_by members)
        → slice_get
        (share_behind code n (all.shares p) (shared code n (units_of nest) slot all p)).scalars
        scalar ≡ slice_get (all.shares p).scalars scalar
    in_tree members nest tree p scalar misses =
        behind_stays scalar (slice_get (all.shares p).scalars scalar) code n (all.shares p) _ refl
        (shared_stays scalar (slice_get (all.shares p).scalars scalar) code n nest slot all p
        (subst (λ ms. Misses scalar (flat_map accumulated_by ms))
        (sym (reads_only members nest tree))
        misses) refl)

    pick : (numbers : List ℕ) (a w v : Bool) (shares : ℕ → Share)
        → ((p : ℕ) → SharesLeft numbers (all.shares p) (shares p))
        → (if a then (if w then Goes [] (of_processors code all (record all { shares = shares }))
        else (if v then Stops (Ends More) else Stops Wrong)) else Stops Wrong) ≡ Goes bytes after
        → Same numbers
    pick numbers true true v shares left e =
        let is : of_processors code all (record all { shares = shares }) ≡ after = cc in (
          λ p. subst (λ (next : Abreast). SharesLeft numbers (all.shares p) (next.shares p)) is
              (either_share (SharesLeft numbers (all.shares p)) code all
              (record all { shares = shares }) p (λ scalar misses. refl) (left p)),
          sym (ap (λ (next : Abreast). next.flights) is),
        )
    pick numbers true false true shares left e = cc
    pick numbers true false false shares left e = cc
    pick numbers false w v shares left e = cc

    loop_left : (o : Option (List Member)) → slice_get code.groups group ≡ o
        → found o (λ members. looped code n vote slot members all) ≡ Goes bytes after
        → Same (joins_of o)
    loop_left None there e = cc
    loop_left (Some members) there e = by (nest_of members) refl e
      where
        by : (o : Option Nest) → nest_of members ≡ o
            → tree_looped code n vote slot o all ≡ Goes bytes after
            → Same (flat_map accumulated_by members)
        by None tree e = cc
        by (Some nest) tree e =
            pick (flat_map accumulated_by members)
            (every code (λ p. not (lacks code n (shared code n (units_of nest) slot all p))))
            (every code (λ p. not (wants code n (shared code n (units_of nest) slot all p))))
            (vote && is_quiet all) _ (λ p scalar misses. in_tree members nest tree p scalar misses)
            e

  -- ---- each row
  tested_never : (effect : Effect Abreast) → tested effect ≡ Does (Goes bytes after) → ⊥
  tested_never (Does (Goes shown next)) e = cc
  tested_never (Does (Stops stop)) e = cc
  tested_never (Leaps goal) e = cc
  tested_never Passes e = cc

  by_both : (row : Instr) → Same (set_scalars code row) → Stays code row all after
  by_both row (left, flights) = record {
    scalars = λ p scalar misses. left p scalar misses;
    flights = λ other. flights;
  }

  by_left : (row : Instr) → is_exchange_row row ≡ true → set_scalars code row ≡ []
      → AllLeft [] all after → Stays code row all after
  by_left row exchange none left = record {
    scalars = λ p scalar misses.
        left p scalar (subst (λ numbers. Misses scalar numbers) none misses);
    flights = λ other. absurd (true≢false (sym exchange ∙ other));
  }

  pub stays_behind : (row : Instr) (next : Option Instr)
      → row_does code links n row next all ≡ Does (Goes bytes after) → Stays code row all after
  stays_behind (instr.Set scalar expr line) next e =
      by_both (instr.Set scalar expr line) (controlled_left (instr.Set scalar expr line) e)
  stays_behind (instr.Fix slot region) next e =
      by_both (instr.Fix slot region) (controlled_left (instr.Fix slot region) e)
  stays_behind (instr.Dims slot parts line) next e =
      by_both (instr.Dims slot parts line) (controlled_left (instr.Dims slot parts line) e)
  stays_behind (instr.Formed form slot from shift line) next e =
      by_both (instr.Formed form slot from shift line)
      (controlled_left (instr.Formed form slot from shift line) e)
  stays_behind (instr.Need slot array shift line) next e =
      by_both (instr.Need slot array shift line)
      (controlled_left (instr.Need slot array shift line) e)
  stays_behind (instr.Same target source kind line) next e =
      by_both (instr.Same target source kind line)
      (controlled_left (instr.Same target source kind line) e)
  stays_behind (instr.Fits slot shift line) next e =
      by_both (instr.Fits slot shift line) (controlled_left (instr.Fits slot shift line) e)
  stays_behind (instr.Jump goal) next e =
      by_both (instr.Jump goal) (controlled_left (instr.Jump goal) e)
  stays_behind (instr.Unless expr goal line) next e =
      absurd (tested_never (controlled code (instr.Unless expr goal line) all) e)
  stays_behind (instr.Trap kind line) next e =
      by_both (instr.Trap kind line) (controlled_left (instr.Trap kind line) e)
  stays_behind instr.End next e = by_both instr.End (controlled_left instr.End e)
  stays_behind (instr.Room array slot) next e =
      by_both (instr.Room array slot)
      (alone_left (instr.Room array slot)
      (λ p. room_kept (all.shares p) p array (slice_get code.arrays array)
      (slice_get (all.shares p).slots slot)) e)
  stays_behind (instr.Clear array) next e =
      by_both (instr.Clear array)
      (alone_left (instr.Clear array)
      (λ p. clear_kept (all.shares p) array (slice_get (all.shares p).stores array)) e)
  stays_behind (instr.Print text) next e =
      by_both (instr.Print text)
      (alone_left (instr.Print text)
      (λ p. text_kept (all.shares p) p (slice_get code.texts text)) e)
  stays_behind (instr.Number expr) next e =
      by_both (instr.Number expr)
      (printed_left (instr.Number expr) _
      (λ p. value_kept (all.shares p) p (expression_value code (locals_of all p) expr)
      signed_decimal) e)
  stays_behind (instr.Truth expr) next e =
      by_both (instr.Truth expr)
      (printed_left (instr.Truth expr) _
      (λ p. value_kept (all.shares p) p (expression_value code (locals_of all p) expr) truth_text)
      e)
  stays_behind (instr.Loop slot group) next e =
      by_both (instr.Loop slot group)
      (loop_left slot group (is_vote_of group next) (slice_get code.groups group) refl
      (does_goes _ bytes after e))
  stays_behind (instr.Start number) next e =
      by_left (instr.Start number) refl refl
      (by (slice_get code.exchanges number) (does_goes _ bytes after e))
    where
      by : (o : Option (List Item))
          → found o (λ items.
          started code (λ p. exchange.started code p number items) all links number)
          ≡ Goes bytes after → AllLeft [] all after
      by None e = cc
      by (Some items) e =
          started_left (λ p. exchange.started code p number items)
          (λ p. scalars.start_kept code p number items) number e
  stays_behind (instr.Finish number) next e =
      by_left (instr.Finish number) refl refl
      (by (slice_get code.exchanges number) (does_goes _ bytes after e))
    where
      by : (o : Option (List Item))
          → found o (λ items. finished code (λ p. exchange.finished code p number items) all number)
          ≡ Goes bytes after → AllLeft [] all after
      by None e = cc
      by (Some items) e =
          finished_left (λ p. exchange.finished code p number items)
          (λ p. scalars.finish_kept code p number items) number all.flights e
  stays_behind (instr.Edge kind array slot shift) next e =
      by_both (instr.Edge kind array slot shift)
      (delivered_left _
      (λ p. scalars.delivery_kept code p (delivery.edging code p kind array slot shift))
      (does_goes _ bytes after e))
  stays_behind (instr.Flood array target from source) next e =
      by_both (instr.Flood array target from source)
      (delivered_left _
      (λ p. scalars.delivery_kept code p (delivery.flooding code p array target from source))
      (does_goes _ bytes after e))
  stays_behind (instr.Part array target fold from source) next e =
      by_both (instr.Part array target fold from source)
      (delivered_left _
      (λ p. scalars.delivery_kept code p (delivery.parting code p array target fold from source))
      (does_goes _ bytes after e))
  stays_behind (instr.Scan array slot fold along from mask) next e =
      by_both (instr.Scan array slot fold along from mask)
      (delivered_left _ (λ p. scalars.scan_kept code p fold along from mask array slot)
      (does_goes _ bytes after e))
  stays_behind (instr.Gather truth array slot) next e =
      by_both (instr.Gather truth array slot)
      (delivered_left _ (λ p. scalars.gather_kept code p truth array slot)
      (does_goes _ bytes after e))
  stays_behind (instr.Remap array slot from parts) next e =
      by_both (instr.Remap array slot from parts)
      (by (slice_get code.arrays from) (does_goes _ bytes after e))
    where
      by : (o : Option ArrayRow)
          → found o (λ row. remapped code
          (λ p. remap.remapped code p array slot from (filter_map (λ part. part) parts) row) all)
          ≡ Goes bytes after → Same []
      by None e = cc
      by (Some row) e =
          remapped_left _
          (λ p. scalars.remap_kept code p array slot from (filter_map (λ part. part) parts) row) e
  stays_behind (instr.Vote group) next e =
      by_both (instr.Vote group) (vote_left group _ (does_goes _ bytes after e))
  stays_behind (instr.TreeVote group) next e =
      by_both (instr.TreeVote group) (vote_left group _ (does_goes _ bytes after e))
  stays_behind (instr.Fold scalar f) next e =
      by_both (instr.Fold scalar f) (fold_left scalar f (does_goes _ bytes after e))
  stays_behind (instr.TreeFold scalar f) next e =
      by_both (instr.TreeFold scalar f) (fold_left scalar f (does_goes _ bytes after e))
