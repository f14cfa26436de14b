-- At the start no row wants a further turn of a loop: slots are without tuples then.
use Rattle.std.proofs.Common.{◌≡◌, ◌≢◌, ℕ, zero, suc, Bool, true, false, not, ◌&&◌, List, [], ◌∷◌, All, Option, Some, None, filter, if◌then◌else◌, map, slice_get, take, refl, ◌∙◌, ap, arith}
use Rattle.std.specs.Fmt.{signed_decimal}
use Rattle.std.specs.List.{list_all}
use Rattle.std.proofs.lemmas.List.Elements.{All-head, All-tail}
use Rattle.zpl_nums.specs.declared.ends.End.{End}
use Rattle.zpl_nums.specs.declared.ends.End.TheVariants.{More}
use Rattle.zpl_region.specs.Region.{lies_in_box, members}
use Rattle.zpl_region.specs.Tests.{is_within_limit}
use Rattle.zpl_region.specs.declared.regions.Region.{Region}
use Rattle.zpl_region.proofs.LawLemmas.{members-met}
use Rattle.zpl_arrays.specs.ArrayText.{truth_text}
use Rattle.node_form.specs.Control as control
use Rattle.node_form.specs.Control.{Control, with_computed, with_row}
use Rattle.node_form.specs.Fits.{IsRank}
use Rattle.node_form.specs.Nest.{Nest}
use Rattle.node_form.specs.Value.{Computed, Divides, Gives, Lacks}
use Rattle.node_form.specs.declared.instructions.Instr.{Instr}
use Rattle.node_form.specs.declared.instructions.Instr.TheVariants as instr
use Rattle.node_form.specs.declared.members.Member.{Member}
use Rattle.node_form.specs.declared.tables.Tables.{Tables}
use Rattle.grid_layout.specs.Layout.{laid_out, own_first, own_last}
use Rattle.grid_meaning.specs.Local.{processor_numbers}
use Rattle.grid_meaning.specs.Place.{own_part}
use Rattle.grid_meaning.specs.Turn.{expression_value}
use Rattle.grid_meaning.specs.Stored.{arrangement_of, no_places}
use Rattle.nest_meaning.specs.Tree.{nest_of}
use Rattle.nest_meaning.specs.Units.{units_of}
use Rattle.row_runs.specs.Run.{Does, Effect, Ends, Goes, Leaps, Passes, Step, Stops, Wrong}
use Rattle.plan_meaning.specs.Abreast.{Abreast, every, go_where, is_quiet, locals_of, of_processors, start_abreast}
use Rattle.plan_meaning.specs.Act.{Followed, action_of, control_of, controlled, controlled_as, ended_by, ends_where, found, go_one_way, leaps_where, plan_act, print_ends, row_does, tested, voted_as}
use Rattle.plan_meaning.specs.Loops.{Shared, all_shared, lacks, looped, part_shared, point_of, share_behind, shared, tree_looped, tuples_shared, wants}
use Rattle.plan_orders.proofs.PrintLemmas.{never_more}

abbrev WantsMore : Effect Abreast → Type 0
WantsMore effect = effect ≡ Does (Stops (Ends More))

go_never : (b : Bool) (bytes : List ℕ) (next : Abreast) → WantsMore (Does (go_where b bytes next))
    → ⊥
go_never true bytes next e = cc
go_never false bytes next e = cc

end_never : (b : Bool) (ending : End) → ending ≢ More → WantsMore (Does (ends_where b ending)) → ⊥
end_never true ending other e = let same : ending ≡ More = cc in other same
end_never false ending other e = cc

leap_never : (b : Bool) (goal : ℕ) → WantsMore (leaps_where b goal) → ⊥
leap_never true goal e = cc
leap_never false goal e = cc

found_never : {X : Type 0} (o : Option X) (next : X → Step Abreast)
    → ((x : X) → WantsMore (Does (next x)) → ⊥) → WantsMore (Does (found o next)) → ⊥
found_never (Some x) next each e = each x e
found_never None next each e = cc

-- ---- rows that need scalars and slots alone
abbrev EndsMore : Control → Type 0
EndsMore way = way ≡ control.Ends More

row_ends : {X : Type 0} (row : Option X) (next : X → Control) → ((x : X) → EndsMore (next x) → ⊥)
    → EndsMore (with_row row next) → ⊥
row_ends (Some x) next each e = each x e
row_ends None next each e = cc

computed_ends : {X : Type 0} (computed : Computed X) (line : ℕ) (next : X → Control)
    → ((x : X) → EndsMore (next x) → ⊥) → EndsMore (with_computed computed line next) → ⊥
computed_ends (Gives x) line next each e = each x e
computed_ends Divides line next each e = cc
computed_ends Lacks line next each e = cc

limited_ends : (registers : control.Registers) (slot line : ℕ) (region : Region) (b : Bool)
    → EndsMore (control.limited registers slot line region b) → ⊥
limited_ends registers slot line region true e = cc
limited_ends registers slot line region false e = cc

checked_ends : (registers : control.Registers) (b : Bool) (kind : _) (line : ℕ)
    → EndsMore (control.checked registers b kind line) → ⊥
checked_ends registers true kind line e = cc
checked_ends registers false kind line e = cc

branched_ends : (registers : control.Registers) (b : Bool) (goal : ℕ)
    → EndsMore (control.branched registers b goal) → ⊥
branched_ends registers true goal e = cc
branched_ends registers false goal e = cc

module _ (code : Tables) (links : Option ℕ) (n : ℕ) where
  control_ends : (registers : control.Registers) (row : Instr)
      → EndsMore (control.control code registers row) → ⊥
  control_ends registers (instr.Set scalar expr line) e =
      computed_ends (control.register_value code registers expr) line
      (control.with_scalar registers scalar) (λ value e. cc) e
  control_ends registers (instr.Fix slot region) e = cc
  control_ends registers (instr.Dims slot parts line) e =
      row_ends (slice_get code.slots slot) _
      (λ rank e. computed_ends (control.part_dims code registers 0 (take rank parts)) line
      (λ dims. control.with_slot registers slot line (control.region_of rank dims))
      (λ dims e. limited_ends registers slot line (control.region_of rank dims)
      (is_within_limit (control.region_of rank dims)) e) e) e
  control_ends registers (instr.Formed form slot from shift line) e =
      row_ends (slice_get registers.slots from) _
      (λ region e. limited_ends registers slot line _ _ e) e
  control_ends registers (instr.Need slot array shift line) e =
      row_ends (slice_get registers.slots slot) _
      (λ region e. row_ends (slice_get code.arrays array) _
      (λ row e. checked_ends registers _ _ line e) e) e
  control_ends registers (instr.Same target source kind line) e =
      row_ends (slice_get registers.slots target) _
      (λ region e. row_ends (slice_get registers.slots source) _
      (λ other e. checked_ends registers _ _ line e) e) e
  control_ends registers (instr.Fits slot shift line) e =
      row_ends (slice_get registers.slots slot) _
      (λ region e. checked_ends registers _ _ line e) e
  control_ends registers (instr.Jump goal) e = cc
  control_ends registers (instr.Unless expr goal line) e =
      computed_ends (control.register_value code registers expr) line _
      (λ value e. branched_ends registers _ goal e) e
  control_ends registers (instr.Trap kind line) e = cc
  control_ends registers instr.End e = cc
  control_ends registers row e = cc

  controlled_never : (row : Instr) (all : Abreast) → WantsMore (controlled code row all) → ⊥
  controlled_never row all = by (control_of code row all 0) refl
    where
      by : (way : Control) → control_of code row all 0 ≡ way
          → WantsMore (controlled_as code row all way) → ⊥
      by (control.Steps registers) is e = go_never (go_one_way code row all) [] _ e
      by (control.Leaps goal) is e = leap_never (go_one_way code row all) goal e
      by (control.Ends ending) is e =
          end_never (go_one_way code row all && is_quiet all) ending
          (λ more. control_ends _ row (is ∙ ap control.Ends more)) e
      by control.Outside is e = cc

  tested_never : (effect : Effect Abreast) → (WantsMore effect → ⊥) → WantsMore (tested effect) → ⊥
  tested_never (Does (Goes bytes next)) never e = cc
  tested_never (Does (Stops stop)) never e = never e
  tested_never (Leaps goal) never e = cc
  tested_never Passes never e = cc

  -- ---- prints of values
  ends_never : (row : Instr) (all : Abreast) → ((ending : End)
      → ended_by (action_of code row all 0) ≡ Some ending → ending ≢ More)
      → WantsMore (Does (print_ends code row all (ended_by (action_of code row all 0)))) → ⊥
  ends_never row all other = by (ended_by (action_of code row all 0)) refl
    where
      by : (o : Option End) → ended_by (action_of code row all 0) ≡ o
          → WantsMore (Does (print_ends code row all o)) → ⊥
      by (Some ending) is e = end_never _ ending (other ending is) e
      by None is e = go_never _ _ _ e

  voted_never : (all : Abreast) (group : ℕ) (member : Option ℕ)
      → WantsMore (Does (voted_as code all group member)) → ⊥
  voted_never all group None e = go_never _ _ _ e
  voted_never all group (Some member) e = end_never _ _ (λ more. cc) e

  -- ---- loops
  not_wanting : (list : List ℕ) (want : ℕ → Bool) → ((p : ℕ) → want p ≡ false)
      → list_all (λ p. not (want p)) list ≡ true
  not_wanting [] want none = refl
  not_wanting (p ∷ list) want none =
      ap (λ b. not b && list_all (λ p. not (want p)) list) (none p)
      ∙ not_wanting list want none

  all_never : (shares : ℕ → Shared) (vote : Bool) (all : Abreast)
      → ((p : ℕ) → wants code n (shares p) ≡ false)
      → WantsMore (Does (all_shared code n shares vote all)) → ⊥
  all_never shares vote all none e =
      by (every code (λ p. not (lacks code n (shares p))))
      (every code (λ p. not (wants code n (shares p))))
      (not_wanting (processor_numbers code) (λ p. wants code n (shares p)) none) e
    where
      by : (held done : Bool) → done ≡ true
          → WantsMore (Does (if held then (if done then Goes [] (of_processors code all (record all {
            shares = λ p. share_behind code n (all.shares p) (shares p);
          }))
          else (if vote && is_quiet all then Stops (Ends More) else Stops Wrong)) else Stops Wrong))
          → ⊥
      by true true is e = cc
      by true false is e = cc
      by false done is e = cc

  no_members : (rank : ℕ) → IsRank rank → members (no_places rank) ≡ []
  no_members zero is = absurd (let low = is.0 in omega (arith, low))
  no_members (suc rank) is = refl

  no_part : (p rank : ℕ) → IsRank rank → members (own_part code p (no_places rank)) ≡ []
  no_part p rank is =
      let blocks = laid_out (arrangement_of code) in
      members-met (no_places rank) (own_first blocks rank p) (own_last blocks rank p)
      ∙ ap (filter (lies_in_box (own_first blocks rank p) (own_last blocks rank p)
      (no_places rank))) (no_members rank is)

  module _ (ranks : All IsRank code.slots) where
    first_shares : (units : List Nest) (slot p : ℕ) → wants code n
        (shared code n units slot (start_abreast code) p) ≡ false
    first_shares units slot p = by code.slots ranks slot
      where
        by : (slots : List ℕ) → All IsRank slots → (slot : ℕ)
            → wants code n (part_shared code n units ((start_abreast code).shares p) p
            (slice_get (map no_places slots) slot)) ≡ false
        by [] all slot = refl
        by (rank ∷ slots) all zero =
            ap (λ tuples. wants code n (tuples_shared code n units tuples
            ((start_abreast code).shares p).flag (point_of code n ((start_abreast code).shares p))))
            (no_part p rank (All-head IsRank rank slots all))
        by (rank ∷ slots) all (suc slot) = by slots (All-tail IsRank rank slots all) slot

    loop_never : (slot group : ℕ) (vote : Bool) (members : List Member)
        → WantsMore (Does (looped code n vote slot members (start_abreast code))) → ⊥
    loop_never slot group vote members = by (nest_of members)
      where
        by : (nest : Option Nest)
            → WantsMore (Does (tree_looped code n vote slot nest (start_abreast code))) → ⊥
        by (Some nest) e =
            all_never (shared code n (units_of nest) slot (start_abreast code)) vote
            (start_abreast code) (first_shares (units_of nest) slot) e
        by None e = cc

    row_never : (row : Instr) (next : Option Instr)
        → WantsMore (row_does code links n row next (start_abreast code)) → ⊥
    row_never (instr.Loop slot group) next e =
        found_never (slice_get code.groups group) _ (loop_never slot group _) e
    row_never (instr.Start number) next e =
        found_never (slice_get code.exchanges number) _ (λ items e. go_never _ _ _ e) e
    row_never (instr.Finish number) next e =
        found_never (slice_get code.exchanges number) _ (λ items e. cc) e
    row_never (instr.Edge border array slot shift) next e = go_never _ _ _ e
    row_never (instr.Flood array target from source) next e = go_never _ _ _ e
    row_never (instr.Part array target f from source) next e = go_never _ _ _ e
    row_never (instr.Scan array slot f along from mask) next e = go_never _ _ _ e
    row_never (instr.Gather truth array slot) next e = go_never _ _ _ e
    row_never (instr.Remap array slot from parts) next e =
        found_never (slice_get code.arrays from) _ (λ row e. go_never _ _ _ e) e
    row_never (instr.Vote group) next e = voted_never (start_abreast code) group _ e
    row_never (instr.TreeVote group) next e = voted_never (start_abreast code) group _ e
    row_never (instr.Fold scalar f) next e = cc
    row_never (instr.TreeFold scalar f) next e = cc
    row_never (instr.Room array slot) next e = go_never _ _ _ e
    row_never (instr.Clear array) next e = go_never _ _ _ e
    row_never (instr.Print text) next e = go_never _ _ _ e
    row_never (instr.Number expr) next e =
        ends_never (instr.Number expr) (start_abreast code)
        (λ ending is. never_more 0 ((start_abreast code).shares 0) ending
        (expression_value code (locals_of (start_abreast code) 0) expr) signed_decimal is) e
    row_never (instr.Truth expr) next e =
        ends_never (instr.Truth expr) (start_abreast code)
        (λ ending is. never_more 0 ((start_abreast code).shares 0) ending
        (expression_value code (locals_of (start_abreast code) 0) expr) truth_text is) e
    row_never (instr.Unless expr goal line) next e =
        tested_never (controlled code (instr.Unless expr goal line) (start_abreast code))
        (controlled_never (instr.Unless expr goal line) (start_abreast code)) e
    row_never (instr.Set scalar expr line) next e =
        controlled_never (instr.Set scalar expr line) (start_abreast code) e
    row_never (instr.Fix slot region) next e =
        controlled_never (instr.Fix slot region) (start_abreast code) e
    row_never (instr.Dims slot parts line) next e =
        controlled_never (instr.Dims slot parts line) (start_abreast code) e
    row_never (instr.Formed form slot from shift line) next e =
        controlled_never (instr.Formed form slot from shift line) (start_abreast code) e
    row_never (instr.Need slot array shift line) next e =
        controlled_never (instr.Need slot array shift line) (start_abreast code) e
    row_never (instr.Same target source kind line) next e =
        controlled_never (instr.Same target source kind line) (start_abreast code) e
    row_never (instr.Fits slot shift line) next e =
        controlled_never (instr.Fits slot shift line) (start_abreast code) e
    row_never (instr.Jump goal) next e =
        controlled_never (instr.Jump goal) (start_abreast code) e
    row_never (instr.Trap kind line) next e =
        controlled_never (instr.Trap kind line) (start_abreast code) e
    row_never instr.End next e = controlled_never instr.End (start_abreast code) e

    pub start_never : (one : Followed)
        → plan_act code links n one (start_abreast code) ≡ Does (Stops (Ends More)) → ⊥
    start_never one e = row_never one.row one.next e
