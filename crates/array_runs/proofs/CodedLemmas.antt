-- Expressions without operators over regions: the meaning's terms and the lowering's slates.
use Rattle.std.proofs.Common.{◌≡◌, refl, sym, ◌∙◌, ap, subst, ℕ, zero, suc, ◌≤◌, true, false}
use Rattle.std.proofs.Common.{List, [], length, ℤ, pos, Option, Some, None}
use Rattle.std.specs.Prelude.{slice_get, IsSome}
use Rattle.std.specs.Option.{option_map}
use Rattle.zpl_nums.specs.declared.operators.UnaryOp.{UnaryOp}
use Rattle.zpl_nums.specs.declared.operators.UnaryOp.TheVariants as unary
use Rattle.zpl_nums.specs.Integer.{IsInteger, truth}
use Rattle.zpl_nums.proofs.IntegerLemmas.{IsInteger-truth}
use Rattle.zpl_region.specs.declared.regions.Region.{Region}
use Rattle.lowering_runs.specs.of_zpl_binding.Regions.{no_region}
use Rattle.zpl_tree.specs.Syntax.{Expr, Number, Truth, Coord, Named, Shifted, Around, Remap, Call, Paren, Neg, Not, Abs, Pair, Reduce, Scan, Flood}
use Rattle.zpl_names.specs.Kinds.{Rank}
use Rattle.array_puts.specs.of_zpl_meaning.Computed as mean
use Rattle.array_puts.specs.of_zpl_meaning.Computed.{both_then, computed_then}
use Rattle.array_puts.specs.of_zpl_meaning.Store.{Store, Thing, Scalar, ArrayAt, Fixed, thing_of}
use Rattle.array_puts.specs.of_zpl_meaning.Context.{Over, over_at, over_or}
use Rattle.array_puts.specs.of_zpl_meaning.Proper.{HasCurrent}
use Rattle.array_puts.specs.of_zpl_meaning.Regions.{vector_in}
use Rattle.array_puts.specs.of_zpl_meaning.Settled as meant
use Rattle.array_puts.specs.of_zpl_meaning.Settled.{named_term, shifted_term}
use Rattle.array_puts.specs.of_zpl_meaning.Term as term
use Rattle.array_puts.specs.of_zpl_meaning.Term.{Term}
use Rattle.node_form.specs.declared.tables.Tables.{Tables}
use Rattle.node_form.specs.Expression.{Expression}
use Rattle.node_form.specs.Value as flat
use Rattle.lowering_runs.specs.of_flat_form.Whole.{Whole}
use Rattle.lowering_runs.specs.of_zpl_lowering.Where.{Stored, Slotted, Where, Next, slotted_or, slotted_at}
use Rattle.lowering_runs.specs.of_zpl_lowering.Hoist.{element_code}
use Rattle.lowering_runs.specs.of_zpl_lowering.Reference.{vector_over}
use Rattle.lowering_runs.specs.of_zpl_lowering.Slate as slate
use Rattle.lowering_runs.specs.of_zpl_lowering.Slate.{Slate, named_slate, shifted_slate, settled}
use Rattle.lowering_runs.specs.Seen.{Spot, Sight, numbered, seen_over, seen_currents, seen_place, seen_store, seen_thing}
use Rattle.lowering_runs.specs.Stands.{IsCurrent, IsCurrentIf, IsHeld, IsKnown, IsSound, Stands}
use Rattle.lowering_runs.specs.Scalars.{IsSameValue, BothGive}
use Rattle.lowering_runs.proofs.ValueLemmas.{known_thing, place_same, thing_seen}
use Rattle.array_runs.specs.Elementwise.{IsReadable, IsElement, IsElementwise}
use Rattle.array_runs.specs.Integers.{AreIntegers}
use Rattle.array_runs.proofs.StoredLemmas.{found_array, index_of_found}
use Rattle.array_runs.proofs.PartLemmas.{IsPart, constant_part, coordinate_part, unary_part, binary_part, variable_part}
use Rattle.array_runs.proofs.ElementLemmas.{element_part}

-- ---- the current region of a rank

pub record CurrentOf (w : Where) (now : Whole) (rank : Rank) : Type 0 where
  pub of : ℕ
  pub is_of : rank ≡ Some of
  pub current : IsCurrent now.slots of (slotted_at w.currents rank)
  pub over_is : over_at (seen_currents now w.currents) rank
      ≡ seen_over now (slotted_at w.currents rank)

some_current : (now : Whole) (k : ℕ) (one : Option Slotted) → IsSome (option_map (seen_over now) one)
    → IsCurrentIf now.slots k one
    → IsCurrent now.slots k (slotted_or one)
    × (over_or (option_map (seen_over now) one) ≡ seen_over now (slotted_or one))
some_current now k (Some one) s h = (h, refl)
some_current now k None s h = absurd (let bad : false ≡ true = s in cc)

pub current_of : (tables : Tables) (w : Where) (now : Whole) (rank : Rank)
    → IsHeld tables w.setup.known w.numbers.arrays w.currents now.slots
    → HasCurrent (seen_currents now w.currents) rank → CurrentOf w now rank
current_of tables w now (Some (suc zero)) held h =
    let c = some_current now 1 w.currents.one h held.one in
    record { of = 1; is_of = refl; current = c.0; over_is = c.1 }
current_of tables w now (Some (suc (suc zero))) held h =
    let c = some_current now 2 w.currents.two h held.two in
    record { of = 2; is_of = refl; current = c.0; over_is = c.1 }
current_of tables w now (Some (suc (suc (suc zero)))) held h =
    let c = some_current now 3 w.currents.three h held.three in
    record { of = 3; is_of = refl; current = c.0; over_is = c.1 }
current_of tables w now (Some zero) held h = absurd h
current_of tables w now (Some (suc (suc (suc (suc k))))) held h = absurd h
current_of tables w now None held h = absurd h

pub region_of : (w : Where) (now : Whole) (rank : Rank) (c : CurrentOf w now rank)
    → (over_at (seen_currents now w.currents) rank).region ≡ c.current.region
region_of w now rank c =
    ap (λ (o : Over). o.region) c.over_is
    ∙ index_of_found now.slots (slotted_at w.currents rank).slot c.current.region no_region
    c.current.found

-- ---- expressions

module _ (tables : Tables) (sight : Sight) (w : Where) (line : ℕ) (next : Next) (now : Whole)
    (stands : Stands sight.spots w next) (room : next.scalars ≤ tables.scalars)
    (sound : IsSound tables now) (held : IsHeld tables w.setup.known w.numbers.arrays w.currents now.slots)
    (rank : Rank) (c : CurrentOf w now rank) where
  abbrev spots : List Spot
  spots = sight.spots

  abbrev over : Slotted
  over = slotted_at w.currents rank

  abbrev region : Region
  region = c.current.region

  abbrev meant_over : Over
  meant_over = over_at (seen_currents now w.currents) rank

  abbrev pub Part : Slate → Term → Expression → Type 0
  Part one term left = IsPart tables spots w line now c.of over c.current one term left

  readable : (d : List ℤ) (place : ℕ) (o : Option Stored) → slice_get w.numbers.arrays place ≡ o
      → IsReadable region d o → (left : Expression)
      × Part (slate.Element over.slot place d) (term.Element meant_over.region place d) left
  readable d place None e h = absurd h
  readable d place (Some stored) e h =
      let f = found_array tables spots w.numbers.arrays now place stored sound.filled held.stored e in
      let p = element_part tables spots w line now c.of over c.current place stored e f h.0 d h.1 in (
        element_code stored.array (vector_over stored.storage d),
        subst (λ (r : Region). Part (slate.Element over.slot place d) (term.Element r place d)
            (element_code stored.array (vector_over stored.storage d)))
            (sym (region_of w now rank c)) p,
      )

  named_part : (thing : Option Thing) → IsElement w region [] thing → (left : Expression)
      × Part (named_slate over thing) (named_term meant_over (option_map (seen_thing spots) thing))
      left
  named_part (Some (Scalar place)) h = (
    _,
    variable_part tables spots w line now c.of over c.current place
        (place_same tables spots w next now stands room sound place),
  )
  named_part (Some (Fixed value)) h =
      (_, constant_part tables spots w line now c.of over c.current value)
  named_part (Some (ArrayAt place home)) h =
      readable [] place (slice_get w.numbers.arrays place) refl h
  named_part None h = (_, constant_part tables spots w line now c.of over c.current (pos 0))

  shifted_part : (d : List ℤ) (thing : Option Thing) → IsElement w region d thing
      → (left : Expression) × Part (shifted_slate over d thing)
      (shifted_term meant_over d (option_map (seen_thing spots) thing)) left
  shifted_part d (Some (Scalar place)) h =
      (_, constant_part tables spots w line now c.of over c.current (pos 0))
  shifted_part d (Some (Fixed value)) h =
      (_, constant_part tables spots w line now c.of over c.current (pos 0))
  shifted_part d (Some (ArrayAt place home)) h =
      readable d place (slice_get w.numbers.arrays place) refl h
  shifted_part d None h = (_, constant_part tables spots w line now c.of over c.current (pos 0))

  -- ---- values of 64 bits

  abbrev here : Store
  here = seen_store spots w.numbers.arrays now

  gives_integer : (value : ℤ) (one : flat.Computed ℤ) → IsSameValue (mean.Gives value) one
      → IsInteger value
  gives_integer value _ (BothGive f) = f

  named_integers : (thing : Option Thing) → ((found : Thing) → thing ≡ Some found
      → IsKnown (length (numbered spots)) (length w.numbers.arrays) found)
      → AreIntegers here (named_term meant_over (option_map (seen_thing spots) thing))
  named_integers (Some (Scalar place)) known =
      gives_integer _ _ (place_same tables spots w next now stands room sound place)
  named_integers (Some (Fixed value)) known = known (Fixed value) refl
  named_integers (Some (ArrayAt place home)) known = tt
  named_integers None known = IsInteger-truth false

  shifted_integers : (d : List ℤ) (thing : Option Thing)
      → AreIntegers here (shifted_term meant_over d (option_map (seen_thing spots) thing))
  shifted_integers d (Some (Scalar place)) = IsInteger-truth false
  shifted_integers d (Some (Fixed value)) = IsInteger-truth false
  shifted_integers d (Some (ArrayAt place home)) = tt
  shifted_integers d None = IsInteger-truth false

  -- an expression of the rank, as the meaning and the lowering settle it
  pub record IsCoded (expr : Expr) : Type 0 where
    pub one : Slate
    pub term : Term
    pub left : Expression
    pub slated : (free : Next) → settled w line free rank expr ≡ slate.alone one
    pub termed : meant.settled (seen_place sight w now) (seen_store spots w.numbers.arrays now) rank
        expr ≡ mean.Gives term
    pub part : Part one term left
    pub integers : AreIntegers (seen_store spots w.numbers.arrays now) term

  unary_coded : (op : UnaryOp) (expr made : Expr)
      → ((free : Next) → settled w line free rank made
      ≡ slate.mapped (slate.Unary op) (settled w line free rank expr))
      → meant.settled (seen_place sight w now) (seen_store spots w.numbers.arrays now) rank made
      ≡ computed_then (meant.settled (seen_place sight w now)
      (seen_store spots w.numbers.arrays now) rank expr) (λ one. mean.Gives (term.Unary op one))
      → IsCoded expr → IsCoded made
  unary_coded op expr made e f h = record {
    one = slate.Unary op h.one;
    term = term.Unary op h.term;
    left = _;
    slated = λ free. e free ∙ ap (slate.mapped (slate.Unary op)) (h.slated free);
    termed = f ∙ ap (λ x. computed_then x (λ one. mean.Gives (term.Unary op one))) h.termed;
    part = unary_part tables spots w line now c.of over c.current op h.one h.term h.left h.part;
    integers = h.integers;
  }

  pub coded : (expr : Expr) → IsElementwise w region expr → IsCoded expr
  coded (Number at value) h = record {
    one = slate.Constant value;
    term = term.Constant value;
    left = _;
    slated = λ free. refl;
    termed = refl;
    part = constant_part tables spots w line now c.of over c.current value;
    integers = h;
  }
  coded (Truth at value) h = record {
    one = slate.Constant (truth value);
    term = term.Constant (truth value);
    left = _;
    slated = λ free. refl;
    termed = refl;
    part = constant_part tables spots w line now c.of over c.current (truth value);
    integers = IsInteger-truth value;
  }
  coded (Coord at k) h = record {
    one = slate.Coordinate k;
    term = term.Coordinate k;
    left = _;
    slated = λ free. refl;
    termed = refl;
    part = coordinate_part tables spots w line now c.of over c.current k h;
    integers = tt;
  }
  coded (Named at name) h =
      let p = named_part (thing_of w.environment name.text) h in
      record {
        one = named_slate over (thing_of w.environment name.text);
        term = named_term meant_over
            (option_map (seen_thing spots) (thing_of w.environment name.text));
        left = p.0;
        slated = λ free. refl;
        termed = ap (λ o. mean.Gives (named_term meant_over o))
            (thing_seen spots w.environment.names name.text);
        part = p.1;
        integers = named_integers (thing_of w.environment name.text) (λ found e. known_thing
            (length (numbered spots)) (length w.numbers.arrays) w.environment.names name.text found
            stands.known e);
      }
  coded (Shifted at name shift) h =
      let d = vector_in w.setup.known shift in
      let p = shifted_part d (thing_of w.environment name.text) h in
      record {
        one = shifted_slate over d (thing_of w.environment name.text);
        term = shifted_term meant_over d
            (option_map (seen_thing spots) (thing_of w.environment name.text));
        left = p.0;
        slated = λ free. refl;
        termed = ap (λ o. mean.Gives (shifted_term meant_over d o))
            (thing_seen spots w.environment.names name.text);
        part = p.1;
        integers = shifted_integers d (thing_of w.environment name.text);
      }
  coded (Paren at inside) h =
      let r = coded inside h in
      record {
        one = r.one;
        term = r.term;
        left = r.left;
        slated = r.slated;
        termed = r.termed;
        part = r.part;
        integers = r.integers;
      }
  coded (Neg at operand) h =
      unary_coded unary.Neg operand (Neg at operand) (λ free. refl) refl (coded operand h)
  coded (Not at operand) h =
      unary_coded unary.Not operand (Not at operand) (λ free. refl) refl (coded operand h)
  coded (Abs at operand) h =
      unary_coded unary.Abs operand (Abs at operand) (λ free. refl) refl (coded operand h)
  coded (Pair at op left right) h =
      let a = coded left h.0 in
      let b = coded right h.1 in
      let place = seen_place sight w now in
      let store = seen_store spots w.numbers.arrays now in
      record {
        one = slate.Binary op a.one b.one;
        term = term.Binary op a.term b.term;
        left = _;
        slated = λ free.
            ap (λ x. slate.both (slate.Binary op) x
            (settled w line (slate.behind free (settled w line free rank left)) rank right))
            (a.slated free)
            ∙ ap (λ x. slate.both (slate.Binary op) (slate.alone a.one) x)
            (b.slated (slate.behind free (settled w line free rank left)));
        termed =
            ap (λ x. both_then x (meant.settled place store rank right)
            (λ one other. mean.Gives (term.Binary op one other))) a.termed
            ∙ ap (λ x. both_then (mean.Gives a.term) x
            (λ one other. mean.Gives (term.Binary op one other))) b.termed;
        part = binary_part tables spots w line now c.of over c.current op a.one b.one a.term b.term
            a.left b.left a.part b.part;
        integers = (a.integers, b.integers);
      }
  coded (Around at name shift) h = absurd h
  coded (Remap at name indices) h = absurd h
  coded (Call at name actuals) h = absurd h
  coded (Reduce at operator source operand) h = absurd h
  coded (Scan at operator along operand) h = absurd h
  coded (Flood at source operand) h = absurd h
