-- The code of an assignment of an array, with its references and its loop.
use Rattle.std.proofs.Common.{◌≡◌, refl, sym, ◌∙◌, ap, subst, ℕ, ◌≤◌, Bool, true, false}
use Rattle.std.proofs.Common.{◌⊎◌, inl, inr}
use Rattle.std.proofs.Common.{◌&&◌, List, [], ◌∷◌, ◌++◌, Option, Some, None, append-nil}
use Rattle.std.specs.Prelude.{slice_get}
use Rattle.std.specs.List.{list_all}
use Rattle.zpl_nums.specs.declared.ends.TrapKind.TheVariants.{OutsideStorage, RegionMismatch}
use Rattle.zpl_region.specs.declared.regions.Region.{Region}
use Rattle.zpl_arrays.specs.Array.{element}
use Rattle.lowering_runs.specs.of_zpl_binding.Regions.{no_region}
use Rattle.zpl_tree.specs.Syntax.{Expr}
use Rattle.zpl_names.specs.Kinds.{Rank}
use Rattle.zpl_names.specs.Sites.{Role}
use Rattle.array_puts.specs.of_zpl_meaning.Computed as mean
use Rattle.array_puts.specs.of_zpl_meaning.Computed.{both_then, computed_then, provided}
use Rattle.array_puts.specs.of_zpl_meaning.Store.{Store, array_at, with_array}
use Rattle.array_puts.specs.of_zpl_meaning.Context.{Over, Place, over_at}
use Rattle.array_puts.specs.of_zpl_meaning.Term.{Term, NoTerm, ThenTerm}
use Rattle.array_puts.specs.of_zpl_meaning.Scalars.{IsScalar}
use Rattle.array_puts.specs.of_zpl_meaning.Settled as meant
use Rattle.array_puts.specs.of_zpl_meaning.Checks.{conform, has_mask_within, is_within, refer, refers}
use Rattle.array_puts.specs.of_zpl_meaning.Fields.{Field, array_over, fields_of, is_kept_in}
use Rattle.array_puts.specs.of_zpl_meaning.Phases as phase
use Rattle.array_puts.specs.of_zpl_meaning.Phases.{fields_in, first_field}
use Rattle.array_puts.specs.of_zpl_meaning.Outcome as out
use Rattle.array_puts.specs.of_zpl_meaning.Outcome.{Outcome}
use Rattle.array_puts.specs.of_zpl_meaning.Statement.{assign_array, written}
use Rattle.node_form.specs.declared.tables.Tables.{Tables}
use Rattle.node_form.specs.Expression.{Expression}
use Rattle.row_runs.specs.Structured as code
use Rattle.row_runs.specs.Structured.{Course, rows_do}
use Rattle.lowering_runs.specs.of_flat_form.Row.{Row}
use Rattle.lowering_runs.specs.of_flat_form.Whole.{Whole}
use Rattle.lowering_runs.specs.of_zpl_lowering.Where.{Stored, Slotted, Where, Next, slotted_at, rank_for}
use Rattle.lowering_runs.specs.of_zpl_lowering.Slate as slate
use Rattle.lowering_runs.specs.of_zpl_lowering.Slate.{Settled, Slate, Slates, NoSlate, ThenSlate, settled, settled_each}
use Rattle.lowering_runs.specs.of_zpl_lowering.Reference.{Reference, all_referred, mask_reference, needs, over_reference, refer_to, referred}
use Rattle.lowering_runs.specs.of_zpl_lowering.Hoist as hoist
use Rattle.lowering_runs.specs.of_zpl_lowering.Hoist.{all_hoisted, hoisted}
use Rattle.lowering_runs.specs.of_zpl_lowering.Lowered.{first_left, free_at, phases_of, then_rows}
use Rattle.lowering_runs.specs.of_zpl_lowering.Statement.{lowered_array, placed_in, put_row}
use Rattle.lowering_runs.specs.Seen.{Spot, Sight, seen_currents, seen_place, seen_store}
use Rattle.lowering_runs.specs.Run.{does, decide, step}
use Rattle.lowering_runs.specs.Agrees.{Agrees}
use Rattle.lowering_runs.specs.Stands.{IsLike, Stands}
use Rattle.lowering_runs.proofs.FitLemmas.{place_kept}
use Rattle.lowering_runs.proofs.ValueLemmas.{scalar_unseen}
use Rattle.array_runs.specs.Gates.{holds, gate}
use Rattle.array_runs.specs.Elementwise.{IsElementwise, IsReadableMask}
use Rattle.array_runs.specs.Assigned.{IsAssigned, IsWritable}
use Rattle.array_runs.proofs.GateLemmas.{needs_gate}
use Rattle.array_runs.proofs.RanklessLemmas.{meant_any, code_any}
use Rattle.array_runs.proofs.StoredLemmas.{IsFound, found_array, index_of_found}
use Rattle.array_runs.proofs.PartLemmas.{IsStill, alone_still, both_still}
use Rattle.array_runs.proofs.CodedLemmas.{CurrentOf, current_of, IsCoded, coded}
use Rattle.array_runs.proofs.MaskLemmas.{IsMasking, masking}
use Rattle.array_runs.specs.Integers.{GivesIntegers}
use Rattle.array_runs.proofs.IntegerLemmas.{term_integers, store_integers}
use Rattle.array_runs.proofs.AssignLemmas.{all_is, all_there, put_agrees}

right_true : (b : Bool) → (b && true) ≡ b
right_true true = refl
right_true false = refl

module _ (tables : Tables) (n : ℕ) (sight : Sight) (w : Where) (next : Next) (start : Whole)
    (line target : ℕ) (stands : Stands sight.spots w next) (room : next.scalars ≤ tables.scalars)
    (now : Whole) (like : IsLike tables sight.spots w next start
    (seen_store sight.spots w.numbers.arrays now) now) (rank : Rank) (c : CurrentOf w now rank)
    (stored : Stored) (found : slice_get w.numbers.arrays target ≡ Some stored) (own_rank : Rank)
    (value : Expr)
    (ranked : (own_rank ≡ rank) ⊎ IsScalar (seen_place sight w now).environment value)
    (writable : IsWritable c.current.region (Some stored))
    (masked : IsReadableMask w c.current.region (slotted_at w.currents rank).mask)
    (elementwise : IsElementwise w c.current.region value) where
  abbrev spots : List Spot
  spots = sight.spots

  abbrev place : Place
  place = seen_place sight w now

  abbrev store : Store
  store = seen_store spots w.numbers.arrays now

  abbrev over : Slotted
  over = slotted_at w.currents rank

  abbrev region : Region
  region = c.current.region

  abbrev meant_over : Over
  meant_over = record { region = region; mask = over.mask }

  it : IsCoded tables sight w line next now stands room like.sound like.held rank c value
  it = coded tables sight w line next now stands room like.sound like.held rank c value elementwise

  f : IsFound tables spots w.numbers.arrays now target stored
  f = found_array tables spots w.numbers.arrays now target stored like.sound.filled like.held.stored
      found

  m : IsMasking tables spots w line now c.of over c.current over.mask
  m = masking tables spots w line now c.of over c.current like.sound like.held.stored over.mask masked

  narrow : GivesIntegers it.part.field
  narrow =
      term_integers store (store_integers tables spots w.numbers.arrays now like.sound like.held.stored)
      it.term it.integers it.part.field it.part.fielded

  abbrev refs : List Reference
  refs =
      refer_to over.slot [] (slice_get w.numbers.arrays target)
      ++ ((referred w.numbers it.one ++ []) ++ mask_reference w.numbers over.slot over.mask)

  abbrev own : Bool
  own = is_within store region target && has_mask_within store meant_over

  abbrev goes : Bool
  goes = own && refers store it.term

  -- ---- the rank of an array's value is the array's, or a scalar is put at all tuples

  meant_same : (own_rank ≡ rank) ⊎ IsScalar place.environment value
      → meant.settled place store own_rank value ≡ meant.settled place store rank value
  meant_same (inl same) = ap (λ (r : Rank). meant.settled place store r value) same
  meant_same (inr scalar) = meant_any place store own_rank rank value scalar

  code_same : (own_rank ≡ rank) ⊎ IsScalar place.environment value
      → settled w line next own_rank value ≡ settled w line next rank value
  code_same (inl same) = ap (λ (r : Rank). settled w line next r value) same
  code_same (inr scalar) =
      code_any w line next own_rank rank value
      (scalar_unseen sight.spots w.environment value scalar)

  -- ---- the meaning

  fields_are : fields_in place store own (record { rank = own_rank; expr = value } ∷ [])
      ≡ provided goes OutsideStorage (λ _. mean.Gives (it.part.field ∷ []))
  fields_are =
      ap (λ (x : mean.Computed Term). computed_then (both_then x (mean.Gives NoTerm)
      (λ term terms. mean.Gives (ThenTerm term terms))) (λ terms.
      provided (conform terms) RegionMismatch (λ _.
      provided (own && refer store terms) OutsideStorage (λ _. fields_of store terms))))
      (meant_same ranked ∙ it.termed)
      ∙ ap (λ b. provided (b && true) RegionMismatch (λ _.
      provided (own && (refers store it.term && true)) OutsideStorage (λ _.
      fields_of store (ThenTerm it.term NoTerm)))) it.part.conformed
      ∙ ap (λ b. provided (own && b) OutsideStorage (λ _.
      fields_of store (ThenTerm it.term NoTerm))) (right_true (refers store it.term))
      ∙ ap (λ (x : mean.Computed Field). provided (own && refers store it.term) OutsideStorage (λ _.
      both_then x (mean.Gives []) (λ field fields. mean.Gives (field ∷ fields)))) it.part.fielded

  -- ---- the code

  abbrev slates : Slates
  slates = ThenSlate it.one NoSlate

  abbrev course : Settled Slates → Course Whole
  course settled =
      let phases = phases_of line (refer_to over.slot [] (slice_get w.numbers.arrays target))
      (all_referred w.numbers settled.slate ++ over_reference w.numbers over) settled
      (all_hoisted w.numbers line (free_at next 0) settled.slate) in
      does tables n (then_rows phases (put_row w line over (first_left phases.left)
      (slice_get w.numbers.arrays target))).code now

  settled_is : settled_each w line next (record { rank = own_rank; expr = value } ∷ [])
      ≡ slate.alone slates
  settled_is =
      ap (λ x. slate.both ThenSlate x (slate.alone NoSlate))
      (code_same ranked ∙ it.slated next)

  still : IsStill (List Expression) (all_hoisted w.numbers line (free_at next 0) slates)
      (it.left ∷ [])
  still =
      both_still (λ one others. one ∷ others) (hoisted w.numbers line (free_at next 0) it.one)
      (hoist.alone []) it.left [] (it.part.hoists (free_at next 0)) (alone_still [])

  abbrev rows : List Row → Whole → Course Whole
  rows = rows_do (step tables n) (decide tables n)

  gate_then : (b : Bool) (g : Whole → Course Whole)
      → code.then_do (gate b line now (code.goes_on now)) g ≡ gate b line now (g now)
  gate_then true g = refl
  gate_then false g = refl

  needs_go : rows (needs line refs) now
      ≡ gate (list_all (holds tables now) refs) line now (code.goes_on now)
  needs_go =
      ap (λ rs. rows rs now) (sym (append-nil (needs line refs)))
      ∙ needs_gate tables n now like.sound.settled line refs []
      (all_there tables n spots w line now c.of over c.current target stored found f writable it.one
      it.term it.left it.part narrow over.mask m)

  abbrev puts : List Row
  puts = put_row w line over it.left (Some stored)

  course_is : course (slate.alone slates)
      ≡ gate (list_all (holds tables now) refs) line now (rows puts now)
  course_is =
      let free = free_at next 0 in
      let all_code = does tables n (all_hoisted w.numbers line free slates).code in
      let last = rows (put_row w line over
      (first_left (all_hoisted w.numbers line free slates).left) (slice_get w.numbers.arrays target))
      in
      let b = list_all (holds tables now) refs in
      ap (λ rs. code.then_do (code.then_do (rows ([] ++ ((rs ++ []) ++ needs line refs)) now)
      all_code) last) it.part.conforming_is
      ∙ ap (λ x. code.then_do (code.then_do x all_code) last) needs_go
      ∙ ap (λ x. code.then_do x last) (gate_then b all_code
      ∙ ap (gate b line now) (still.still tables n now))
      ∙ gate_then b last
      ∙ ap (λ es. gate b line now (rows (put_row w line over (first_left es)
      (slice_get w.numbers.arrays target)) now)) still.left_is
      ∙ ap (λ o. gate b line now (rows (put_row w line over it.left o) now)) found

  -- ---- both

  abbrev Like : Store → Whole → Type 0
  Like = IsLike tables spots w next start

  abbrev run : Over → Outcome
  run o =
      out.with_value
      (computed_then (fields_in place store
      (is_within store o.region target && has_mask_within store o)
      (record { rank = own_rank; expr = value } ∷ []))
      (λ fields. array_over o.region (is_kept_in store o) (first_field fields))) store line (λ values.
      out.goes_on (with_array store target
      (written (array_at store target) o.region (is_kept_in store o) (element values))))

  pub both_agree : Agrees Like n 0 (run meant_over)
      (course (settled_each w line next (record { rank = own_rank; expr = value } ∷ [])))
  both_agree =
      let gates : list_all (holds tables now) refs ≡ goes =
      all_is tables n spots w line now c.of over c.current target stored found f writable it.one it.term
      it.left it.part narrow over.mask m in
      subst (λ (x : Course Whole). Agrees Like n 0 (run meant_over) x)
      (sym (ap course settled_is ∙ course_is ∙ ap (λ b. gate b line now (rows puts now)) gates))
      (subst (λ (x : mean.Computed (List Field)). Agrees Like n 0
      (out.with_value (computed_then x
      (λ fields. array_over region (is_kept_in store meant_over) (first_field fields))) store line
      (λ values. out.goes_on (with_array store target
      (written (array_at store target) region (is_kept_in store meant_over) (element values)))))
      (gate goes line now (rows puts now))) (sym fields_are)
      (put_agrees tables n spots w line now c.of over c.current target stored found f writable it.one
      it.term it.left it.part narrow over.mask m next start store like f.seen goes gates))

  pub agrees_at : (o : Over) → o ≡ meant_over → Agrees Like n 0 (run o)
      (course (settled_each w line next (record { rank = own_rank; expr = value } ∷ [])))
  agrees_at o e =
      subst (λ (x : Over). Agrees Like n 0 (run x)
      (course (settled_each w line next (record { rank = own_rank; expr = value } ∷ [])))) (sym e)
      both_agree

-- ---- an assignment, where a statement stands

module _ (tables : Tables) (n : ℕ) (sight : Sight) (w : Where) (next : Next) (start : Whole)
    (role : Role) (line target : ℕ) (value : Expr) (stands : Stands sight.spots w next)
    (room : next.scalars ≤ tables.scalars) (now : Whole)
    (like : IsLike tables sight.spots w next start (seen_store sight.spots w.numbers.arrays now) now)
    (served : IsAssigned w (seen_place sight w now) role target value) where
  abbrev rank : Rank
  rank = rank_for w role

  abbrev made : Course Whole
  made =
      does tables n (lowered_array w line next (slotted_at w.currents rank) (placed_in w role value)
      (slice_get w.numbers.arrays target)).code now

  abbrev meant_store : Store
  meant_store = seen_store sight.spots w.numbers.arrays now

  current : CurrentOf w now rank
  current = current_of tables w now rank like.held served.current

  abbrev the_over : Over
  the_over =
      record { region = current.current.region; mask = (slotted_at w.currents rank).mask }

  over_same : over_at (seen_currents now w.currents) rank ≡ the_over
  over_same =
      current.over_is
      ∙ ap (λ (r : Region). record { region = r; mask = (slotted_at w.currents rank).mask })
      (index_of_found now.slots (slotted_at w.currents rank).slot current.current.region no_region
      current.current.found)

  by_stored : (o : Option Stored) → slice_get w.numbers.arrays target ≡ o
      → IsWritable current.current.region o
      → Agrees (IsLike tables sight.spots w next start) n 0
      (assign_array (seen_place sight w now) role target value line meant_store) made
  by_stored None e h = absurd h
  by_stored (Some stored) e h =
      agrees_at tables n sight w next start line target stands room now like rank current stored e
      (phase.placed_in (seen_place sight w now) role value).rank value served.ranked h
      (subst (λ (o : Over). IsReadableMask w o.region o.mask) over_same served.masked)
      (subst (λ (o : Over). IsElementwise w o.region value) over_same served.elementwise)
      (over_at (seen_currents now w.currents) rank) over_same

  pub here_agrees : Agrees (IsLike tables sight.spots w next start) n 0
      (assign_array (seen_place sight w now) role target value line meant_store) made
  here_agrees =
      by_stored (slice_get w.numbers.arrays target) refl
      (subst (λ (o : Over). IsWritable o.region (slice_get w.numbers.arrays target)) over_same
      served.writable)

pub array_agrees : (tables : Tables) (n : ℕ) (sight : Sight) (w : Where) (next : Next)
    (start : Whole) (role : Role) (line target : ℕ) (value : Expr) → Stands sight.spots w next
    → next.scalars ≤ tables.scalars → IsAssigned w (seen_place sight w start) role target value
    → (store : Store) (now : Whole) → IsLike tables sight.spots w next start store now
    → Agrees (IsLike tables sight.spots w next start) n 0
    (assign_array (seen_place sight w start) role target value line store)
    (does tables n (lowered_array w line next (slotted_at w.currents (rank_for w role))
    (placed_in w role value) (slice_get w.numbers.arrays target)).code now)
array_agrees tables n sight w next start role line target value stands room served store now like =
    let Like = IsLike tables sight.spots w next start in
    let same : seen_place sight w now ≡ seen_place sight w start =
    place_kept start now next.slots like.kept.slots sight w stands.taken stands.edge in
    let made = does tables n (lowered_array w line next (slotted_at w.currents (rank_for w role))
    (placed_in w role value) (slice_get w.numbers.arrays target)).code now in
    subst (λ (p : Place). Agrees Like n 0 (assign_array p role target value line store) made) same
    (subst (λ (s : Store).
    Agrees Like n 0 (assign_array (seen_place sight w now) role target value line s) made)
    (sym like.seen)
    (here_agrees tables n sight w next start role line target value stands room now
    (subst (λ (s : Store). Like s now) like.seen like)
    (subst (λ (p : Place). IsAssigned w p role target value) (sym same) served)))
