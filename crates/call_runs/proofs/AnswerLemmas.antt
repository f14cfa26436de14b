-- A call whose answer is assigned goes as its code does, where what is called does.
use Rattle.std.proofs.Common.{◌≡◌, refl, sym, ◌∙◌, ap, subst, arith, ℕ, ◌+◌, ◌<◌, ℤ, pos, List, []}
use Rattle.std.proofs.Common.{◌∷◌, ◌++◌, length, map, Option, Some, None, append-nil}
use Rattle.std.proofs.lemmas.List.{length-map}
use Rattle.std.specs.Option.{option_map}
use Rattle.std.specs.Prelude.{slice_get, slice_index_or, slice_set, take}
use Rattle.zpl_nums.specs.declared.ends.End.TheVariants.{Done}
use Rattle.zpl_tree.specs.Syntax.{Name, Expr, Call, Exprs, Assign}
use Rattle.zpl_names.specs.Counts.{exprs_nodes}
use Rattle.zpl_names.specs.Kinds.{Formal}
use Rattle.zpl_names.specs.Scope.{kind_of}
use Rattle.zpl_arrays.specs.Array.{Array}
use Rattle.zpl_meaning.specs.Store as mean_store
use Rattle.zpl_meaning.specs.Store.{Store, Thing, Scalar, ArrayAt, Fixed, cut_back, scalar_at, thing_of}
use Rattle.zpl_meaning.specs.Context.{Place}
use Rattle.zpl_meaning.specs.Phases.{scalars_in}
use Rattle.zpl_meaning.specs.Outcome as out
use Rattle.zpl_meaning.specs.Outcome.{Outcome}
use Rattle.zpl_meaning.specs.Calls as mean_calls
use Rattle.zpl_meaning.specs.Calls.{Called, Handed, formals_in, handed_on}
use Rattle.zpl_meaning.specs.Settled.{Placed}
use Rattle.zpl_meaning.specs.Variables.{with_new_scalar}
use Rattle.zpl_meaning.specs.Proper.{IsVariable}
use Rattle.zpl_meaning.specs.Statement as mean
use Rattle.zpl_meaning.specs.Statement.{with_result}
use Rattle.node_form.specs.declared.tables.Tables.{Tables}
use Rattle.row_runs.specs.Structured as code
use Rattle.row_runs.specs.Structured.{Course, GoesOn}
use Rattle.flat_form.specs.Whole.{Whole}
use Rattle.prefix_runs.specs.of_zpl_lowering.Where.{Stored, Where, Next, line_of}
use Rattle.prefix_runs.specs.of_zpl_lowering.Lowered.{Lowered, behind, joined, phased}
use Rattle.prefix_runs.specs.of_zpl_lowering.Slate as low_slate
use Rattle.prefix_runs.specs.of_zpl_lowering.Statement as low
use Rattle.prefix_runs.specs.of_zpl_lowering.Statement.{Given}
use Rattle.prefix_runs.specs.of_lowering_runs.Seen.{Spot, Sight, Answer, array_in, numbered, place_of, seen_place, seen_spot, seen_store, seen_thing}
use Rattle.prefix_runs.specs.of_lowering_runs.Run.{does}
use Rattle.prefix_runs.specs.of_lowering_runs.Agrees.{Agrees, Going, Trapping, Shattering, Wanting}
use Rattle.prefix_runs.specs.of_lowering_runs.Stands.{HasRoom, IsLike, Stands}
use Rattle.prefix_runs.specs.of_lowering_runs.Goes.{World, Goes, ValuesGo, lowering}
use Rattle.prefix_runs.specs.of_lowering_runs.Values.{AreSet, nodes_of}
use Rattle.prefix_runs.specs.of_lowering_runs.Frames.{seen_given}
use Rattle.prefix_runs.specs.of_lowering_runs.Called.{calling_at}
use Rattle.prefix_runs.proofs.of_lowering_runs.CallLemmas.{value_meant}
use Rattle.prefix_runs.proofs.of_lowering_runs.FitLemmas.{room_coded, room_first, room_here, room_rest}
use Rattle.prefix_runs.proofs.of_lowering_runs.FrameLemmas.{cut_seen, map_append}
use Rattle.prefix_runs.proofs.of_lowering_runs.HeadLemmas.{phased_length, with_computed_value}
use Rattle.prefix_runs.proofs.of_lowering_runs.ListLemmas.{filled_agrees, meant_length}
use Rattle.prefix_runs.proofs.of_lowering_runs.NumberLemmas.{get_some, number_below}
use Rattle.prefix_runs.proofs.of_lowering_runs.RowLemmas.{like_variable, set}
use Rattle.prefix_runs.proofs.of_lowering_runs.ValueLemmas.{known_thing, thing_seen}
use Rattle.call_runs.specs.Answered.{CallsAnswer, HasAnswered, IsAnswered}
use Rattle.call_runs.specs.Taken.{AllGiven}
use Rattle.call_runs.proofs.ActualLemmas.{given_earlier, given_is, handed_is, values_are, values_counted}

-- ---- something behind a run that only changes the store

followed_agrees : (One Other : Store → Whole → Type 0) (turns spare : ℕ) (outcome : Outcome)
    (course : Course Whole) (f : Store → Store)
    → ((store : Store) (whole : Whole) → One store whole → Other (f store) whole)
    → Agrees One turns spare outcome course
    → Agrees Other turns spare (out.then_do outcome (λ store. out.goes_on (f store))) course
followed_agrees One Other turns spare outcome course f h
    (Going {store = s} {after = w} {bytes = b} {steps = n} {jumps = j} alike few) =
    subst (λ (bytes : List ℕ). Agrees Other turns spare
    (record { store = f s; bytes = bytes; ending = Done; steps = n + 0 })
    (record { close = GoesOn; state = w; bytes = b; jumps = j })) (sym (append-nil b))
    (Going (h s w alike) (omega (arith, few)))
followed_agrees One Other turns spare outcome course f h (Trapping few) = Trapping few
followed_agrees One Other turns spare outcome course f h Shattering = Shattering
followed_agrees One Other turns spare outcome course f h (Wanting many) = Wanting many

-- ---- the store behind a call that answers

last_at : (xs : List ℤ) (v : ℤ) → slice_index_or (xs ++ v ∷ []) (length xs) (pos 0) ≡ v
last_at [] v = refl
last_at (x ∷ xs) v = last_at xs v

module _ (tables : Tables) (n : ℕ) (spots : List Spot) (w : Where) (next : Next) (start : Whole)
    (stands : Stands spots w next) (now : Whole) where
  -- it is assigned
  answered_like : (p k : ℕ) → slice_get (numbered spots) p ≡ Some k → k < tables.scalars
      → (store : Store) (whole : Whole) → HasAnswered tables spots w next start k store whole
      → IsLike tables spots w next start
      (with_result (Some (Scalar (place_of spots p))) (scalar_at store (length spots))
      (cut_back (seen_store spots w.numbers.arrays now) store)) whole
  answered_like p k found lt store whole h =
      let arrays = w.numbers.arrays in
      let begun = seen_store spots arrays now in
      let q = place_of spots p in
      let value_is : scalar_at store (length spots) ≡ h.value =
      ap (λ (s : Store). scalar_at s (length spots)) h.store_is
      ∙ ap (λ (s : Store). slice_index_or (s.scalars ++ h.value ∷ []) (length spots) (pos 0))
      h.like.seen
      ∙ ap (λ (m : ℕ). slice_index_or (map (seen_spot h.mid) spots ++ h.value ∷ []) m (pos 0))
      (sym (length-map spots (seen_spot h.mid)))
      ∙ last_at (map (seen_spot h.mid) spots) h.value in
      let store_seen : store ≡ seen_store (spots ++ Answer h.value ∷ []) arrays h.mid =
      h.store_is ∙ ap (λ (s : Store). with_new_scalar s h.value) h.like.seen
      ∙ ap (λ (xs : List ℤ). record (seen_store spots arrays h.mid) { scalars = xs })
      (sym (map_append (seen_spot h.mid) spots (Answer h.value ∷ []))) in
      let cut_is : cut_back begun store ≡ h.before =
      ap (cut_back begun) store_seen
      ∙ cut_seen spots (Answer h.value ∷ []) arrays now h.mid
      ∙ sym h.like.seen in
      let l = like_variable tables n spots w next start h.before h.mid h.like stands.rises h.value
      h.integer p k found lt in
      subst (λ (x : Whole). IsLike tables spots w next start
      (mean_store.with_scalar (cut_back begun store) q (scalar_at store (length spots))) x)
      (sym h.whole_is)
      (subst (λ (v : ℤ). IsLike tables spots w next start
      (mean_store.with_scalar (cut_back begun store) q v) (set tables n h.mid k h.value))
      (sym value_is)
      (subst (λ (s : Store). IsLike tables spots w next start
      (mean_store.with_scalar s q h.value) (set tables n h.mid k h.value)) (sym cut_is) l))

-- the store behind a body that returned a value, seen from its call
module _ (now mid : Whole) where
  cut_scalars : (spots more : List Spot) (value : ℤ)
      → take (length (map (seen_spot now) spots ++ pos 0 ∷ []))
      (slice_set (map (seen_spot mid) (spots ++ Answer (pos 0) ∷ more)) (length spots) value)
      ≡ map (seen_spot mid) spots ++ value ∷ []
  cut_scalars [] more value = refl
  cut_scalars (spot ∷ spots) more value =
      ap (λ xs. seen_spot mid spot ∷ xs) (cut_scalars spots more value)

  cut_arrays : (arrays more : List Stored)
      → take (length (map (λ (one : Stored). array_in now one.array) arrays))
      (map (λ (one : Stored). array_in mid one.array) (arrays ++ more))
      ≡ map (λ (one : Stored). array_in mid one.array) arrays
  cut_arrays [] more = refl
  cut_arrays (one ∷ arrays) more =
      ap (λ xs. array_in mid one.array ∷ xs) (cut_arrays arrays more)

  pub returned_store : (spots more : List Spot) (arrays others : List Stored) (value : ℤ)
      → cut_back (with_new_scalar (seen_store spots arrays now) (pos 0))
      (mean_store.with_scalar
      (seen_store (spots ++ Answer (pos 0) ∷ more) (arrays ++ others) mid) (length spots) value)
      ≡ with_new_scalar (seen_store spots arrays mid) value
  returned_store spots more arrays others value =
      ap (λ (xs : List ℤ). record (cut_back (with_new_scalar (seen_store spots arrays now) (pos 0))
      (mean_store.with_scalar
      (seen_store (spots ++ Answer (pos 0) ∷ more) (arrays ++ others) mid) (length spots) value)) {
        scalars = xs;
      }) (cut_scalars spots more value)
      ∙ ap (λ (xs : List Array). record (with_new_scalar (seen_store spots arrays mid) value) {
        arrays = xs;
      }) (cut_arrays arrays others)

-- ---- the statement

module _ (IsCalled : Where → List Given → Called → Type 0) (IsValue : Expr → Where → Place → Type 0)
    (world : World) (calls : CallsAnswer IsCalled world) (valued : ValuesGo world IsValue) (at offset : ℕ) (name callee : Name) (actuals : Exprs)
    (sight : Sight) (w : Where) (next : Next) (start : Whole) (stands : Stands sight.spots w next)
    (served : IsAnswered IsCalled IsValue name callee actuals w (seen_place sight w start))
    (room : HasRoom world.tables next
    (low.lowered_form (lowering world w) next at (Assign name None (Call offset callee actuals))))
    (store : Store) (now : Whole) (like : IsLike world.tables sight.spots w next start store now) where
  abbrev Like : Store → Whole → Type 0
  Like = IsLike world.tables sight.spots w next start

  abbrev p : Place
  p = seen_place sight w start

  abbrev line : ℕ
  line = line_of w at

  abbrev formals : List Formal
  formals = formals_in (kind_of w.scope callee)

  abbrev exprs : List low_slate.Placed
  exprs = low.value_exprs w formals actuals

  abbrev first : ℕ
  first = next.scalars + (phased w line next exprs).lowered.scalars

  abbrev own : Lowered
  own = low.with_values line first (phased w line next exprs)

  abbrev more : Next
  more = behind next own

  abbrev givens : List Given
  givens = low.given_to w first formals actuals

  abbrev handed : List ℤ → List Handed
  handed values = handed_on p.environment store formals actuals values

  abbrev made : ℕ → List Handed → Called
  made m hs = record { name = callee.text; actuals = hs; currents = p.currents; result = m }

  abbrev whole_answer : Option Thing → List Handed → Outcome
  whole_answer thing hs =
      out.then_do (world.call (made (length store.scalars) hs) (with_new_scalar store (pos 0)))
      (λ after.
      out.goes_on (with_result thing (scalar_at after (length store.scalars)) (cut_back store after)))

  abbrev coded : ℕ → Whole → Course Whole
  coded target =
      does world.tables world.turns
      (world.code (calling_at w callee.text givens target line) more).code

  answers : (q k : ℕ) → slice_get (numbered sight.spots) q ≡ Some k → k < world.tables.scalars
      → HasRoom world.tables more (world.code (calling_at w callee.text givens k line) more)
      → (vs : List ℤ) (after : Whole) → Like store after
      → handed vs ≡ map (seen_given sight.spots after) givens
      → length vs ≡ length (mean_calls.value_exprs p formals actuals)
      → AllGiven (length (numbered sight.spots)) w.numbers.arrays next.scalars givens more.scalars
      → Agrees Like world.turns 0
      (whole_answer (Some (Scalar (place_of sight.spots q))) (handed vs)) (coded k after)
  answers q k found lt inside vs after l same many given =
      let begun = seen_store sight.spots w.numbers.arrays after in
      let size : length store.scalars ≡ length sight.spots =
      ap (λ (s : Store). length s.scalars) l.seen ∙ length-map sight.spots (seen_spot after) in
      let ending : ℕ → Store → Store → Store = λ m s x.
      with_result (Some (Scalar (place_of sight.spots q))) (scalar_at x m) (cut_back s x) in
      subst (λ (m : ℕ). Agrees Like world.turns 0
      (out.then_do (world.call (made m (handed vs)) (with_new_scalar store (pos 0)))
      (λ x. out.goes_on (ending m store x))) (coded k after)) (sym size)
      (subst (λ (s : Store). Agrees Like world.turns 0
      (out.then_do (world.call (made (length sight.spots) (handed vs)) (with_new_scalar store (pos 0)))
      (λ x. out.goes_on (ending (length sight.spots) s x))) (coded k after)) (sym l.seen)
      (followed_agrees (HasAnswered world.tables sight.spots w next start k) Like world.turns 0 _ _
      (ending (length sight.spots) begun)
      (λ x whole h. answered_like world.tables world.turns sight.spots w next start stands after q k
      found lt x whole h)
      (subst (λ (hs : List Handed). Agrees (HasAnswered world.tables sight.spots w next start k)
      world.turns 0 (world.call (made (length sight.spots) hs) (with_new_scalar store (pos 0)))
      (coded k after)) (sym same)
      (calls.by sight.spots w next more start callee.text givens k line stands
      (record { scalars = omega arith; slots = omega arith; arrays = omega arith }) given inside store
      after l
      (subst (λ (hs : List Handed). IsCalled w givens (made (length sight.spots) hs)) same
      (served.from first (length sight.spots) vs store many))))))

  target_agrees : (thing : Option Thing) → thing_of w.environment name.text ≡ thing
      → IsVariable (option_map (seen_thing sight.spots) thing)
      → Agrees Like world.turns (exprs_nodes actuals)
      (out.with_value (mean_calls.actuals_in p store callee actuals) store line
      (whole_answer (option_map (seen_thing sight.spots) thing)))
      (code.then_do (does world.tables world.turns own.code now)
      (coded (low.scalar_or (low.scalar_of w.numbers thing))))
  target_agrees (Some (Scalar q)) e v =
      let k = slice_index_or (numbered sight.spots) q 0 in
      let below : q < length (numbered sight.spots) =
      known_thing (length (numbered sight.spots)) (length w.numbers.arrays) w.environment.names
      name.text (Scalar q) stands.known e in
      let found : slice_get (numbered sight.spots) q ≡ Some k =
      get_some (numbered sight.spots) q 0 below in
      let here = room_here world.tables next
      (low.lowered_form (lowering world w) next at (Assign name None (Call offset callee actuals)))
      room in
      let lt : k < next.scalars =
      (number_below 0 (numbered sight.spots) next.scalars q k stands.rises found).1 in
      let target_is : low.scalar_or (low.scalar_of w.numbers (Some (Scalar q))) ≡ k =
      ap low.scalar_or (ap (λ (ks : List ℕ). slice_get ks q) (sym stands.numbers) ∙ found) in
      let target_eq : low.target_of w name ≡ k =
      ap (λ (t : Option Thing). low.scalar_or (low.scalar_of w.numbers t)) e ∙ target_is in
      let rooms : HasRoom world.tables next
      (joined (code.Rows []) own (world.code (calling_at w callee.text givens k line) more)) =
      subst (λ (m : ℕ). HasRoom world.tables next
      (joined (code.Rows []) own (world.code (calling_at w callee.text givens m line) more))) target_eq
      (room_coded world.tables next (code.Rows []) _ room) in
      let inside = room_rest world.tables next (code.Rows []) own
      (world.code (calling_at w callee.text givens k line) more) rooms in
      let few = values_counted IsValue sight w start formals actuals in
      let many = phased_length w line next exprs in
      let thing : Option Thing = Some (Scalar (place_of sight.spots q)) in
      let course = code.then_do (does world.tables world.turns own.code now) (coded k) in
      subst (λ (m : ℕ). Agrees Like world.turns (exprs_nodes actuals)
      (out.with_value (mean_calls.actuals_in p store callee actuals) store line (whole_answer thing))
      (code.then_do (does world.tables world.turns own.code now) (coded m))) (sym target_is)
      (subst (λ (o : Outcome). Agrees Like world.turns (exprs_nodes actuals) o course)
      (sym (with_computed_value (scalars_in p store (mean_calls.value_exprs p formals actuals)) handed
      store line (whole_answer thing)))
      (subst (λ (es : List Placed). Agrees Like world.turns (exprs_nodes actuals)
      (out.with_value (scalars_in p store es) store line (λ vs. whole_answer thing (handed vs)))
      course) (value_meant sight w start formals actuals)
      (filled_agrees Like (λ vs after. Like store after × AreSet first (length exprs) vs after)
      world.turns 0 line (nodes_of exprs) (exprs_nodes actuals) store
      (λ vs. whole_answer thing (handed vs)) (coded k) _ _ (omega (arith, few))
      (λ vs after l. answers q k found (omega (arith, lt, here)) inside vs after l.0
      (handed_is IsValue sight w start next stands formals actuals first vs store after
      served.actuals_are l.1.as_many l.1.held l.0.seen)
      (l.1.as_many ∙ sym (meant_length exprs)
      ∙ ap (λ es. length es) (value_meant sight w start formals actuals))
      (given_earlier (length (numbered sight.spots)) w.numbers.arrays next.scalars first givens
      more.scalars (omega arith)
      (given_is IsValue sight w start next stands formals actuals first more.scalars served.actuals_are
      (omega (arith, many)))))
      (valued sight w next start line exprs stands
      (values_are IsValue sight w start formals actuals served.actuals_are)
      (room_first world.tables next (code.Rows []) own
      (world.code (calling_at w callee.text givens k line) more) rooms) store now like))))
  target_agrees (Some (ArrayAt q home)) e v = absurd v
  target_agrees (Some (Fixed value)) e v = absurd v
  target_agrees None e v = absurd v

  here_agrees : Agrees Like world.turns (exprs_nodes actuals)
      (out.with_value (mean_calls.actuals_in p store callee actuals) store line
      (whole_answer (thing_of p.environment name.text)))
      (code.then_do (does world.tables world.turns own.code now) (coded (low.target_of w name)))
  here_agrees =
      let seen = thing_seen sight.spots w.environment.names name.text in
      subst (λ (t : Option Thing). Agrees Like world.turns (exprs_nodes actuals)
      (out.with_value (mean_calls.actuals_in p store callee actuals) store line (whole_answer t))
      (code.then_do (does world.tables world.turns own.code now) (coded (low.target_of w name))))
      (sym seen)
      (target_agrees (thing_of w.environment name.text) refl
      (subst (λ (t : Option Thing). IsVariable t) seen served.variable))

pub answer_goes : (IsCalled : Where → List Given → Called → Type 0)
    (IsValue : Expr → Where → Place → Type 0) (world : World)
    → CallsAnswer IsCalled world → ValuesGo world IsValue
    → (at offset : ℕ) (name callee : Name) (actuals : Exprs)
    → Goes world (IsAnswered IsCalled IsValue name callee actuals)
    (λ c store. mean.exec_form c world.turns at (Assign name None (Call offset callee actuals)) store)
    (λ l next. low.lowered_form l next at (Assign name None (Call offset callee actuals)))
    (exprs_nodes actuals)
answer_goes IsCalled IsValue world calls valued at offset name callee actuals sight w next start stands
    served room store now like =
    here_agrees IsCalled IsValue world calls valued at offset name callee actuals sight w next start
    stands served room store now like
