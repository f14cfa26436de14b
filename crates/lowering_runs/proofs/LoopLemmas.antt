-- Tests, choices and loops keep that runs agree.
use Rattle.std.proofs.Common.{◌≡◌, ℕ, zero, suc, ◌+◌, ◌*◌, ◌≤◌, Bool, true, false, ℤ, []}
use Rattle.std.proofs.Common.{refl, sym, ap, subst, arith}
use Rattle.zpl_nums.specs.declared.ends.End.TheVariants.{Trap}
use Rattle.zpl_nums.specs.Integer.{is_true}
use Rattle.lowering_fits.specs.of_zpl_meaning.Computed.{Computed, Gives, Traps}
use Rattle.lowering_fits.specs.of_zpl_meaning.Store.{Store}
use Rattle.lowering_fits.specs.of_zpl_meaning.Outcome as out
use Rattle.lowering_fits.specs.of_zpl_meaning.Outcome.{Outcome, Test, Count, is_past, next_value}
use Rattle.row_runs.specs.Run.{Step, Ends}
use Rattle.row_runs.specs.Code.{Decision, Says}
use Rattle.row_runs.specs.Structured as code
use Rattle.row_runs.specs.Structured.{Course, GoesOn, Over, Wants, and_then}
use Rattle.lowering_fits.specs.of_flat_form.Whole.{Whole}
use Rattle.lowering_runs.specs.Agrees.{Agrees, Trapping, Wanting}
use Rattle.lowering_runs.specs.Heads.{Heads, Comes, Stumbles, says_of}
use Rattle.lowering_runs.proofs.AgreeLemmas.{goes_agrees, weaker_agrees}
use Rattle.lowering_runs.proofs.AgreeLemmas.{led_agrees, counting_agrees, jumping_agrees}
use Rattle.lowering_runs.proofs.AgreeLemmas.{turned_agrees, then_agrees}

-- ---- one test

-- a test may make more jumps
pub more_heads : (IsAlike : Whole → Type 0) (value : Computed ℤ) (line few most : ℕ)
    (decide : Whole → Decision) (course : Course Whole) → few ≤ most
    → Heads IsAlike value line few decide course → Heads IsAlike value line most decide course
more_heads IsAlike value line few most decide course le (Comes alike says less) =
    Comes alike says (omega (arith, le, less))
more_heads IsAlike value line few most decide course le (Stumbles is less) =
    Stumbles is (omega (arith, le, less))

module _ (One Other : Store → Whole → Type 0) (turns : ℕ) (test : Test) (decide : Whole → Decision)
  where
    -- what is chosen behind the head of a test
    abbrev pub chosen : (Whole → Course Whole) → (Whole → Course Whole) → Whole → Course Whole
    chosen holds fails whole = code.choose (decide whole) holds fails whole

    either : (spare : ℕ) (b : Bool) (store : Store) (whole : Whole) (one other : Store → Outcome)
        (holds fails : Whole → Course Whole)
        → Agrees Other turns spare (one store) (holds whole)
        → Agrees Other turns spare (other store) (fails whole)
        → Agrees Other turns spare (out.choose b one other store)
        (code.choose (Says b) holds fails whole)
    either spare true store whole one other holds fails h k = h
    either spare false store whole one other holds fails h k = k

    valued : (spare : ℕ) (value : Computed ℤ) (store : Store) (whole : Whole)
        (one other : Store → Outcome) (holds fails : Whole → Course Whole)
        → Agrees Other turns spare (one store) (holds whole)
        → Agrees Other turns spare (other store) (fails whole)
        → Agrees Other turns spare
        (out.with_value value store test.line (λ v. out.choose (is_true v) one other store))
        (code.choose (says_of test.line value) holds fails whole)
    valued spare (Gives v) store whole one other holds fails h k =
        either spare (is_true v) store whole one other holds fails h k
    valued spare (Traps kind) store whole one other holds fails h k = Trapping (omega arith)

    -- the head, and then one of two
    pub tested_agrees : (most spare less : ℕ) (store : Store) (head : Course Whole)
        (one other : Store → Outcome) (holds fails : Whole → Course Whole)
        → most + spare ≤ 2 * test.steps + less
        → Heads (One store) (test.value store) test.line most decide head
        → ((whole : Whole) → One store whole → Agrees Other turns spare (one store) (holds whole))
        → ((whole : Whole) → One store whole → Agrees Other turns spare (other store) (fails whole))
        → Agrees Other turns less (out.tested test one other store)
        (code.then_do head (chosen holds fails))
    tested_agrees most spare less store head one other holds fails e
        (Comes {after = w} {jumps = j} alike says few) h k =
        counting_agrees Other turns (most + spare) less test.steps _ _ e
        (weaker_agrees Other turns turns (j + spare) (most + spare) _ _ (omega arith)
        (omega (arith, few))
        (led_agrees Other turns spare j _ _
        (subst (λ (d : Decision). Agrees Other turns spare
        (out.with_value (test.value store) store test.line (λ v. out.choose (is_true v) one other store))
        (code.choose d holds fails w)) (sym says)
        (valued spare (test.value store) store w one other holds fails (h w alike) (k w alike)))))
    tested_agrees most spare less store head one other holds fails e
        (Stumbles {after = w} {jumps = j} {kind = kind} is few) h k =
        subst (λ (c : Computed ℤ). Agrees Other turns less
        (out.counting test.steps
        (out.with_value c store test.line (λ v. out.choose (is_true v) one other store)))
        (record { close = Over (Ends (Trap kind test.line)); state = w; bytes = []; jumps = j }))
        (sym is) (Trapping (omega (arith, e, few)))

-- ---- loops

module _ {R T : Type 0} (step : R → Whole → Step Whole) (decide : T → Whole → Decision)
    (IsAlike : Store → Whole → Type 0) (test : Test) (check : T) (most : ℕ)
    (room : most + 2 ≤ 2 * test.steps) (head : Whole → Course Whole)
    (heads : (store : Store) (whole : Whole) → IsAlike store whole
    → Heads (IsAlike store) (test.value store) test.line most (decide check) (head whole))
    (turns : ℕ) (body : Store → Outcome) (run : Whole → Course Whole)
    (each : (store : Store) (whole : Whole) → IsAlike store whole
    → Agrees IsAlike turns 0 (body store) (run whole)) where
  out_agrees : (m : ℕ) (store : Store) (whole : Whole) → IsAlike store whole
      → Agrees IsAlike m 2 (out.goes_on store) (code.jumping (code.goes_on whole))
  out_agrees m store whole h =
      weaker_agrees IsAlike m m 1 2 _ _ (omega arith) (omega arith)
      (jumping_agrees IsAlike m 0 _ _ (goes_agrees IsAlike m store whole h))

  body_agrees : (m : ℕ) → m ≤ turns → (store : Store) (whole : Whole) → IsAlike store whole
      → Agrees IsAlike m 0 (body store) (run whole)
  body_agrees m le store whole h =
      weaker_agrees IsAlike turns m 0 0 _ _ le (omega arith) (each store whole h)

  pub while_agrees : (m : ℕ) → m ≤ turns → (store : Store) (whole : Whole) → IsAlike store whole
      → Agrees IsAlike m 0 (out.while_turns m test body store)
      (code.while_turns step decide m head check run whole)
  while_agrees zero le store whole h =
      tested_agrees IsAlike IsAlike 0 test (decide check) most 2 0 store (head whole) out.wants_more
      out.goes_on code.wants_more (λ state. code.jumping (code.goes_on state)) (omega (arith, room))
      (heads store whole h) (λ w k. Wanting (omega arith)) (λ w k. out_agrees 0 store w k)
  while_agrees (suc m) le store whole h =
      let again : Store → Outcome = out.while_turns m test body in
      let anew : Whole → Course Whole =
      λ after. code.jumping (code.while_turns step decide m head check run after) in
      tested_agrees IsAlike IsAlike (suc m) test (decide check) most 2 0 store (head whole)
      (λ store. out.then_do (body store) again) out.goes_on
      (λ state. code.jumping (code.then_do (run state) anew))
      (λ state. code.jumping (code.goes_on state)) (omega (arith, room)) (heads store whole h)
      (λ w k. turned_agrees IsAlike m 1 _ _
      (then_agrees IsAlike IsAlike m 0 1 (body store) (run w) again anew
      (body_agrees m (omega (arith, le)) store w k)
      (λ s v l. jumping_agrees IsAlike m 0 _ _ (while_agrees m (omega (arith, le)) s v l))))
      (λ w k. out_agrees (suc m) store w k)

  pub repeat_agrees : (m : ℕ) → m ≤ turns → (store : Store) (whole : Whole) → IsAlike store whole
      → Agrees IsAlike m 1 (out.repeat_turns m test body store)
      (code.repeat_turns step decide m run head check whole)
  repeat_agrees zero le store whole h = Wanting (omega arith)
  repeat_agrees (suc m) le store whole h =
      let again : Store → Outcome = out.tested test out.goes_on (out.repeat_turns m test body) in
      let anew : Whole → Course Whole =
      code.tested step decide head check (λ after. code.jumping (code.goes_on after))
      (code.repeat_turns step decide m run head check) in
      turned_agrees IsAlike m 0 _ _
      (then_agrees IsAlike IsAlike m 0 0 (body store) (run whole) again anew
      (body_agrees m (omega (arith, le)) store whole h)
      (λ s v l. tested_agrees IsAlike IsAlike m test (decide check) most 2 0 s (head v) out.goes_on
      (out.repeat_turns m test body) (λ after. code.jumping (code.goes_on after))
      (code.repeat_turns step decide m run head check) (omega (arith, room)) (heads s v l)
      (λ w k. out_agrees m s w k)
      (λ w k. weaker_agrees IsAlike m m 1 2 _ _ (omega arith) (omega arith)
      (repeat_agrees m (omega (arith, le)) s w k))))

-- ---- counted loops

-- `IsAt v` says that a turn begins with this value, and `IsPast v` that one has ended that did.
module _ {R T : Type 0} (step : R → Whole → Step Whole) (decide : T → Whole → Decision)
    (IsAlike : Store → Whole → Type 0) (count : Count) (set : ℤ → Store → Store) (check : T)
    (turns : ℕ) (body : Store → Outcome) (head run : Whole → Course Whole)
    (IsAt IsPast : ℤ → Store → Whole → Type 0)
    (each : (v : ℤ) (store : Store) (whole : Whole) → IsAt v store whole
    → Agrees (IsPast v) turns 0 (body (set v store)) (run whole))
    (still : (whole : Whole) → head whole ≡ code.goes_on whole)
    (says : (v : ℤ) (store : Store) (whole : Whole) → IsPast v store whole
    → decide check whole ≡ Says (is_past count (next_value count v)))
    (ends : (v : ℤ) (store : Store) (whole : Whole) → IsPast v store whole → IsAlike store whole)
    (goes : (v : ℤ) (store : Store) (whole : Whole) → IsPast v store whole
    → is_past count (next_value count v) ≡ false → IsAt (next_value count v) store whole) where
  abbrev again : ℕ → Whole → Course Whole
  again m = code.repeat_turns step decide m run head check

  -- where the next value is past the last, no turn is wanted
  pub over : (m : ℕ) (v : ℤ) (store : Store) → is_past count v ≡ true
      → out.for_turns m count set body v store ≡ out.goes_on store
  over zero v store e = ap (λ b. out.choose b out.goes_on out.wants_more store) e
  over (suc m) v store e =
      ap (λ b. out.choose b out.goes_on (λ store. out.counting 1 (out.then_do (body (set v store))
      (out.for_turns m count set body (next_value count v)))) store) e

  pub for_agrees : (m : ℕ) → m ≤ turns → (v : ℤ) (store : Store) (whole : Whole)
      → IsAt v store whole → is_past count v ≡ false
      → Agrees IsAlike m 0 (out.for_turns m count set body v store) (again m whole)
  for_agrees zero le v store whole h e =
      subst (λ (b : Bool). Agrees IsAlike 0 0
      (out.choose b out.goes_on out.wants_more store) (code.wants_more whole)) (sym e)
      (Wanting (omega arith))
  for_agrees (suc m) le v store whole h e =
      let next : Store → Outcome = out.for_turns m count set body (next_value count v) in
      let anew : Whole → Course Whole =
      code.tested step decide head check (λ after. code.jumping (code.goes_on after)) (again m) in
      subst (λ (b : Bool). Agrees IsAlike (suc m) 0
      (out.choose b out.goes_on
      (λ store. out.counting 1 (out.then_do (body (set v store)) next)) store)
      (code.jumping (code.then_do (run whole) anew))) (sym e)
      (counting_agrees IsAlike (suc m) 2 0 1 _ _ (omega arith)
      (turned_agrees IsAlike m 1 _ _
      (then_agrees (IsPast v) IsAlike m 0 1 (body (set v store)) (run whole) next anew
      (weaker_agrees (IsPast v) turns m 0 0 _ _ (omega (arith, le)) (omega arith)
      (each v store whole h))
      (λ s w k. subst (λ (c : Course Whole). Agrees IsAlike m 1 (next s) (code.then_do c
      (λ after. code.choose (decide check after) (λ after. code.jumping (code.goes_on after)) (again m)
      after))) (sym (still w))
      (subst (λ (d : Decision). Agrees IsAlike m 1 (next s)
      (code.choose d (λ after. code.jumping (code.goes_on after)) (again m) w)) (sym (says v s w k))
      (behind_turn s w
      (λ past. for_agrees m (omega (arith, le)) (next_value count v) s w (goes v s w k past) past)
      k (is_past count (next_value count v)) refl))))))
    where
      behind_turn : (s : Store) (w : Whole) → (is_past count (next_value count v) ≡ false
          → Agrees IsAlike m 0 (out.for_turns m count set body (next_value count v) s) (again m w))
          → IsPast v s w → (b : Bool) → is_past count (next_value count v) ≡ b
          → Agrees IsAlike m 1 (out.for_turns m count set body (next_value count v) s)
          (code.choose (Says b) (λ after. code.jumping (code.goes_on after)) (again m) w)
      behind_turn s w more k true past =
          subst (λ (o : Outcome). Agrees IsAlike m 1 o (code.jumping (code.goes_on w)))
          (sym (over m (next_value count v) s past))
          (jumping_agrees IsAlike m 0 _ _ (goes_agrees IsAlike m s w (ends v s w k)))
      behind_turn s w more k false past =
          weaker_agrees IsAlike m m 0 1 _ _ (omega arith) (omega arith) (more past)
