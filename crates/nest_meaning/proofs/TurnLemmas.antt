-- What a tree of members does, in turns.
use Rattle.std.proofs.Common.{◌≡◌, refl, sym, ◌∙◌, ap, subst, ℕ, zero, suc, ◌+◌, ◌-◌, ◌*◌, ◌<◌, ◌≤◌}
use Rattle.std.proofs.Common.{Bool}
use Rattle.std.proofs.Common.{true, false, List, ◌∷◌, ℤ, arith}
use Rattle.std.proofs.Math.Nat.{one-le-mul, le-mul_of_pos_right, mul_comm}
use Rattle.std.specs.Prelude.{Option, Some, None, if◌then◌else◌, slice_get, slice_set}
use Rattle.std.specs.Prelude.{unwrap_or}
use Rattle.std.specs.Option.{option_map}
use Rattle.node_form.specs.of_zpl_nums.Integer.{is_true}
use Rattle.node_form.specs.of_zpl_nums.Fold.{joined}
use Rattle.node_form.specs.of_zpl_nums.declared.folds.Fold.{Fold}
use Rattle.node_form.specs.declared.members.Member.{Member}
use Rattle.node_form.specs.declared.members.Member.TheVariants.{Put, Cell, Acc, OpenIf, Otherwise}
use Rattle.node_form.specs.declared.members.Member.TheVariants.{CloseIf}
use Rattle.node_form.specs.declared.members.Member.TheVariants.{OpenWhile, CloseWhile, OpenRepeat}
use Rattle.node_form.specs.declared.members.Member.TheVariants.{Until}
use Rattle.node_form.specs.declared.tables.Tables.{Tables}
use Rattle.node_form.specs.Nest.{Nest, Nothing, Putting, Keeping, Joining, Choosing, ChoosingElse}
use Rattle.node_form.specs.Nest.{Looping, Repeating}
use Rattle.node_form.specs.Value.{Computed, Gives, Divides, Lacks, read}
use Rattle.node_form.specs.Group as group
use Rattle.node_form.specs.Group.{Access, Point, Mode, Runs, Skips, Step, GoesOn, GoesBack, Ran}
use Rattle.node_form.specs.Group.{Again}
use Rattle.node_form.specs.Group.{Divided, ran, ran_from, goes_on, open_numbers, open_from}
use Rattle.node_form.specs.Group.{open_before}
use Rattle.node_form.specs.Group.{last_or, innermost_of, outermost_of, value_at, with_found}
use Rattle.node_form.specs.Group.{with_store}
use Rattle.node_form.specs.Group.{chosen}
use Rattle.nest_meaning.specs.Nested.{Ways, Told, Fine, Zero, Wants, Lost, then_do, with_value}
use Rattle.nest_meaning.specs.Nested.{with_state}
use Rattle.nest_meaning.specs.Nested.{masked, while_turns, until_done, repeat_turns, nested}
use Rattle.nest_meaning.specs.Nested.{ways_of}
use Rattle.nest_meaning.specs.Turns.{past, Leads, Stays}
use Rattle.nest_meaning.proofs.Spelled.{spelled, weight, positive, IsAt, next_at, past_at}

-- fewer turns than u, and than v, are fewer than their product
pub fits_times : (u v j k : ℕ) → j < u → k < v → j + k < u * v
fits_times u v j k a b =
    let (i, one) = above j u a in
    let (l, other) = above k v b in
    subst (λ x. j + k < x * v) one (subst (λ y. j + k < (suc (j + i)) * y) other (omega arith))
  where
    above : (j u : ℕ) → j < u → (i : ℕ) × (suc (j + i) ≡ u)
    above j u a = (u - suc j, omega (arith, a))

-- a loop's bound, as a product
pub loop_wide : (n w : ℕ) → 0 < w → suc (n * w) ≤ suc n * w
loop_wide n w p = omega (arith, p)

pub fits_one : (v j k : ℕ) → j < 1 → k < v → j + k < v
fits_one v j k a b = omega (arith, a, b)

module _ {S : Type 0} (tables : Tables) (access : Access S) (all : List Member) where
  -- What a tree does, against the rest of a turn: by fewer turns than w to what is behind it, or to
  -- a
  -- zero divisor; or at least m.
  pub data Comes (m w : ℕ) (r : Ran S) (behind : Point S → Ran S) (flag : ℕ) : Told (Point S)
      → Type 0 where
    Passes : {q : Point S} (k : ℕ) → k < w → Leads tables access all k r (behind q)
        → Comes m w r behind flag (Fine q)
    Ends : {q : Point S} (k : ℕ) → k < w → Leads tables access all k r (Divided flag q)
        → Comes m w r behind flag (Zero q)
    Waits : Stays tables access all m r → Comes m w r behind flag Wants
    Loses : Comes m w r behind flag Lost

  abbrev run_on : ℕ → Mode → List Member → Point S → Ran S
  run_on = ran tables access all

  abbrev ways : Ways (Point S)
  ways = ways_of tables access

  -- ---- a tree that is skipped
  skip : (nest : Nest) (number depth : ℕ) (to_else : Bool) (rest : List Member) (p : Point S)
      → run_on number (Skips depth to_else) (spelled nest rest) p
      ≡ run_on (past nest number) (Skips depth to_else) rest p
  skip Nothing number depth to_else rest p = refl
  skip (Putting array expr mask line after) number depth to_else rest p =
      skip after (number + 1) depth to_else rest p
  skip (Keeping cell expr mask line after) number depth to_else rest p =
      skip after (number + 1) depth to_else rest p
  skip (Joining scalar fold expr mask line after) number depth to_else rest p =
      skip after (number + 1) depth to_else rest p
  skip (Choosing expr mask line body after) number depth to_else rest p =
      skip body (number + 1) (suc depth) to_else (CloseIf ∷ spelled after rest) p
      ∙ skip after (past body (number + 1) + 1) depth to_else rest p
  skip (ChoosingElse expr mask line body otherwise after) number depth to_else rest p =
      skip body (number + 1) (suc depth) to_else
      (Otherwise ∷ spelled otherwise (CloseIf ∷ spelled after rest)) p
      ∙ (skip otherwise (past body (number + 1) + 1) (suc depth) to_else
      (CloseIf ∷ spelled after rest) p
      ∙ skip after (past otherwise (past body (number + 1) + 1) + 1) depth to_else rest p)
  skip (Looping expr mask line body after) number depth to_else rest p =
      skip body (number + 1) (suc depth) to_else (CloseWhile ∷ spelled after rest) p
      ∙ skip after (past body (number + 1) + 1) depth to_else rest p
  skip (Repeating mask line body until after) number depth to_else rest p =
      skip body (number + 1) (suc depth) to_else (Until until ∷ spelled after rest) p
      ∙ skip after (past body (number + 1) + 1) depth to_else rest p

  -- ---- turns one after another
  pub leads_then : (j k : ℕ) (r s end : Ran S) → Leads tables access all j r s
      → Leads tables access all k s end → Leads tables access all (j + k) r end
  leads_then zero k r s end same more =
      subst (λ i. Leads tables access all i r end) (let e : k ≡ 0 + k = omega arith in e)
      (subst (λ x. Leads tables access all k x end) (sym same) more)
  leads_then (suc j) k r s end (back, next, is, rest) more =
      subst (λ i. Leads tables access all i r end)
      (let e : suc (j + k) ≡ suc j + k = omega arith in e)
      (back, next, is, leads_then j k (ran_from tables access all back next) s end rest more)

  pub stays_then : (j k : ℕ) (r s : Ran S) → Leads tables access all j r s
      → Stays tables access all k s → Stays tables access all (j + k) r
  stays_then zero k r s same more =
      subst (λ i. Stays tables access all i r) (let e : k ≡ 0 + k = omega arith in e)
      (subst (λ x. Stays tables access all k x) (sym same) more)
  stays_then (suc j) k r s (back, next, is, rest) more =
      subst (λ i. Stays tables access all i r) (let e : suc (j + k) ≡ suc j + k = omega arith in e)
      (back, next, is, stays_then j k (ran_from tables access all back next) s rest more)

  pub stays_less : (i k : ℕ) (r : Ran S) → i ≤ k → Stays tables access all k r
      → Stays tables access all i r
  stays_less zero k r less stays = tt
  stays_less (suc i) zero r less stays = absurd (omega (arith, less))
  stays_less (suc i) (suc k) r less (back, next, is, rest) = (
    back,
    next,
    is,
    stays_less i k (ran_from tables access all back next)
        (omega (arith, less)) rest,
  )

  abbrev Told_by : ℕ → ℕ → Ran S → (Point S → Ran S) → ℕ → Told (Point S) → Type 0
  Told_by = Comes

  lead_comes : (j m v n w : ℕ) → n ≤ j + m → ((k : ℕ) → k < v → j + k < w)
      → (r s : Ran S) (behind : Point S → Ran S) (flag : ℕ) (told : Told (Point S))
      → Leads tables access all j r s → Told_by m v s behind flag told
      → Told_by n w r behind flag told
  lead_comes j m v n w turns fits r s behind flag told leads (Passes {q = q} k less more) =
      Passes (j + k) (fits k less) (leads_then j k r s (behind q) leads more)
  lead_comes j m v n w turns fits r s behind flag told leads (Ends {q = q} k less more) =
      Ends (j + k) (fits k less) (leads_then j k r s (Divided flag q) leads more)
  lead_comes j m v n w turns fits r s behind flag told leads (Waits stays) =
      Waits (stays_less n (j + m) r turns (stays_then j m r s leads stays))
  lead_comes j m v n w turns fits r s behind flag told leads Loses = Loses

  -- from the same, with less said of it
  pub less_comes : (m v n w : ℕ) → n ≤ m → v ≤ w
      → (r s : Ran S) (behind : Point S → Ran S) (flag : ℕ) (told : Told (Point S))
      → r ≡ s → Told_by m v s behind flag told → Told_by n w r behind flag told
  less_comes m v n w turns fits r s behind flag told same comes =
      lead_comes 0 m v n w (omega (arith, turns))
      (λ k less. omega (arith, less, fits)) r s behind flag told same comes

  -- to what is the same behind it
  to_same : (m w : ℕ) (r : Ran S) (mid behind : Point S → Ran S) (flag : ℕ) (told : Told (Point S))
      → ((q : Point S) → mid q ≡ behind q)
      → Told_by m w r mid flag told → Told_by m w r behind flag told
  to_same m w r mid behind flag told same (Passes {q = q} k less more) =
      Passes k less (subst (λ x. Leads tables access all k r x) (same q) more)
  to_same m w r mid behind flag told same (Ends k less more) = Ends k less more
  to_same m w r mid behind flag told same (Waits stays) = Waits stays
  to_same m w r mid behind flag told same Loses = Loses

  pub then_comes : (m u v w : ℕ) → 0 < v → ((j k : ℕ) → j < u → k < v → j + k < w)
      → (r : Ran S) (mid behind : Point S → Ran S) (flag : ℕ) (told : Told (Point S))
      (next : Point S → Told (Point S))
      → Told_by m u r mid flag told → ((q : Point S) → Told_by m v (mid q) behind flag (next q))
      → Told_by m w r behind flag (then_do next told)
  then_comes m u v w positive fits r mid behind flag told next (Passes {q = q} j less leads) more =
      lead_comes j m v m w (omega arith) (λ k l. fits j k less l) r (mid q) behind flag
      (next q) leads (more q)
  then_comes m u v w positive fits r mid behind flag told next (Ends k less leads) more =
      Ends k (let e : k + 0 < w = fits k 0 less positive in omega (arith, e)) leads
  then_comes m u v w positive fits r mid behind flag told next (Waits stays) more = Waits stays
  then_comes m u v w positive fits r mid behind flag told next Loses more = Loses

  -- ---- one member
  module _ (number flag : ℕ) (outer : outermost_of all number ≡ flag) (m w : ℕ) (positive : 0 < w)
      (p : Point S) (next : Mode → Point S → Ran S) (behind : Point S → Ran S) where
    abbrev Does : Step S → Told (Point S) → Type 0
    Does step told = Told_by m w (goes_on tables access all number p step next) behind flag told

    value_comes : (x : Computed ℤ) (f : ℤ → Step S) (g : ℤ → Told (Point S))
        → ((v : ℤ) → Does (f v) (g v)) → Does (group.with_value x f) (with_value p x g)
    value_comes (Gives v) f g more = more v
    value_comes Divides f g more =
        Ends 0 positive (ap (λ k. let r : Ran S = Divided k p in r) outer)
    value_comes Lacks f g more = Loses

    if_comes : (b : Bool) (s t : Step S) (x y : Told (Point S)) → Does s x → Does t y
        → Does (if b then s else t) (if b then x else y)
    if_comes true s t x y first second = first
    if_comes false s t x y first second = second

    mask_comes : (mask : Option ℕ) (mode : Mode) (run : Step S) (told : Told (Point S))
        → next mode p ≡ behind p → Does run told
        → Does (group.masked tables access p mask mode run) (masked ways mask p told)
    mask_comes None mode run told same comes = comes
    mask_comes (Some mask) mode run told same comes =
        value_comes (value_at tables access p mask) (λ v. if is_true v then run else GoesOn mode p)
        (λ v. if is_true v then told else Fine p)
        (λ v. if_comes (is_true v) run (GoesOn mode p) told (Fine p) comes (Passes 0 positive same))

    chosen_comes : (b to_else : Bool) (x y : Told (Point S))
        → Told_by m w (next Runs p) behind flag x
        → Told_by m w (next (Skips 0 to_else) p) behind flag y
        → Does (chosen tables access p b to_else) (if b then x else y)
    chosen_comes true to_else x y first second = first
    chosen_comes false to_else x y first second = second

  -- ---- members that hold no others
  found_comes : (number flag m w : ℕ) → 0 < w
      → (p : Point S) (x : Option S) (next : Mode → Point S → Ran S)
      → Told_by m w
      (goes_on tables access all number p (with_found (with_store tables access p x)) next)
      (next Runs) flag
      (with_state (option_map (λ store. record p { store = store }) x))
  found_comes number flag m w positive p (Some store) next = Passes 0 positive refl
  found_comes number flag m w positive p None next = Loses

  joined_comes : (number flag m w : ℕ) → 0 < w
      → (p : Point S) (scalar : ℕ) (fold : Fold) (v : ℤ) (x : Option ℤ)
      (next : Mode → Point S → Ran S)
      → Told_by m w (goes_on tables access all number p
      (group.with_value (read x)
      (λ own. GoesOn Runs (record p { scalars = slice_set p.scalars scalar (joined fold own v) })))
      next) (next Runs) flag
      (with_state
      (option_map (λ own. record p { scalars = slice_set p.scalars scalar (joined fold own v) }) x))
  joined_comes number flag m w positive p scalar fold v (Some own) next = Passes 0 positive refl
  joined_comes number flag m w positive p scalar fold v None next = Loses

  module _ (n number flag : ℕ) (rest : List Member) (outer : outermost_of all number ≡ flag)
      (p : Point S) where
    abbrev after_one : Mode → Point S → Ran S
    after_one mode q = run_on (number + 1) mode rest q

    pub put_comes : (array expr : ℕ) (mask : Option ℕ) (line : ℕ)
        → Told_by n 1 (run_on number Runs (Put array expr mask line ∷ rest) p) (after_one Runs) flag
        (masked ways mask p
        (with_value p (ways.value p expr) (λ v. with_state (ways.put array v p))))
    put_comes array expr mask line =
        mask_comes number flag outer n 1 (omega arith) p after_one
        (after_one Runs) mask Runs _ _ refl
        (value_comes number flag outer n 1 (omega arith) p after_one (after_one Runs)
        (value_at tables access p expr) _ _
        (λ v. found_comes number flag n 1 (omega arith) p
        (access.with_element p.store array v) after_one))

    pub keep_comes : (cell expr : ℕ) (mask : Option ℕ) (line : ℕ)
        → Told_by n 1 (run_on number Runs (Cell cell expr mask line ∷ rest) p) (after_one Runs) flag
        (masked ways mask p
        (with_value p (ways.value p expr) (λ v. with_state (ways.keep cell v p))))
    keep_comes cell expr mask line =
        mask_comes number flag outer n 1 (omega arith) p after_one
        (after_one Runs) mask Runs _ _ refl
        (value_comes number flag outer n 1 (omega arith) p after_one (after_one Runs)
        (value_at tables access p expr) _ _
        (λ v. Passes 0 (omega arith) refl))

    pub join_comes : (scalar : ℕ) (fold : Fold) (expr : ℕ) (mask : Option ℕ) (line : ℕ)
        → Told_by n 1 (run_on number Runs (Acc scalar fold expr mask line ∷ rest) p)
        (after_one Runs) flag
        (masked ways mask p
        (with_value p (ways.value p expr) (λ v. with_state (ways.join scalar fold v p))))
    join_comes scalar fold expr mask line =
        mask_comes number flag outer n 1 (omega arith) p after_one
        (after_one Runs) mask Runs _ _ refl
        (value_comes number flag outer n 1 (omega arith) p after_one (after_one Runs)
        (value_at tables access p expr) _ _
        (λ v. joined_comes number flag n 1 (omega arith) p scalar fold v
        (slice_get p.scalars scalar) after_one))

  -- ---- what holds of a tree wherever other members are open, with this one outermost
  abbrev IsTold : ℕ → Nest → Type 0
  IsTold n nest = (number flag : ℕ) (rest : List Member) (first : ℕ) (opens : List ℕ)
      → IsAt all number (spelled nest rest) (first ∷ opens)
      → last_or first opens ≡ flag → (p : Point S)
      → Told_by n (weight n nest) (run_on number Runs (spelled nest rest) p)
      (λ q. run_on (past nest number) Runs rest q) flag (nested ways n nest p)

  pub outer_there : (number flag : ℕ) (members : List Member) (opens : List ℕ)
      → IsAt all number members opens → last_or number opens ≡ flag → outermost_of all number ≡ flag
  outer_there number flag members opens at last = ap (last_or number) at.open_there ∙ last

  -- ---- members that hold others
  module _ (n number flag : ℕ) (rest : List Member) (opens : List ℕ)
      (last : last_or number opens ≡ flag) where
    pub choose_comes : (expr : ℕ) (mask : Option ℕ) (line : ℕ) (body : Nest) → IsTold n body
        → IsAt all number (OpenIf expr mask line ∷ spelled body (CloseIf ∷ rest)) opens
        → (p : Point S)
        → Told_by n (weight n body)
        (run_on number Runs (OpenIf expr mask line ∷ spelled body (CloseIf ∷ rest)) p)
        (λ q. run_on (past body (number + 1) + 1) Runs rest q) flag
        (masked ways mask p
        (with_value p (ways.value p expr)
        (λ v. if is_true v then nested ways n body p else Fine p)))
    choose_comes expr mask line body told at p =
        mask_comes number flag outer n w (positive n body) p next behind mask (Skips 0 false) _ _
        (skip body (number + 1) 0 false (CloseIf ∷ rest) p)
        (value_comes number flag outer n w (positive n body) p next behind
        (value_at tables access p expr) _ _
        (λ v. chosen_comes number flag outer n w (positive n body) p next behind (is_true v) true
        (nested ways n body p) (Fine p)
        (told (number + 1) flag (CloseIf ∷ rest) number opens
        (next_at all number _ _ opens at) last p)
        (Passes 0 (positive n body) (skip body (number + 1) 0 true (CloseIf ∷ rest) p))))
      where
        w : ℕ
        w = weight n body

        outer : outermost_of all number ≡ flag
        outer = outer_there number flag _ opens at last

        next : Mode → Point S → Ran S
        next mode q = run_on (number + 1) mode (spelled body (CloseIf ∷ rest)) q

        behind : Point S → Ran S
        behind q = run_on (past body (number + 1) + 1) Runs rest q

    pub choose_else_comes : (expr : ℕ) (mask : Option ℕ) (line : ℕ) (body otherwise : Nest)
        → IsTold n body → IsTold n otherwise
        → IsAt all number
        (OpenIf expr mask line ∷ spelled body (Otherwise ∷ spelled otherwise (CloseIf ∷ rest)))
        opens → (p : Point S)
        → Told_by n (weight n body * weight n otherwise)
        (run_on number Runs
        (OpenIf expr mask line ∷ spelled body (Otherwise ∷ spelled otherwise (CloseIf ∷ rest))) p)
        (λ q. run_on (past otherwise (past body (number + 1) + 1) + 1) Runs rest q) flag
        (masked ways mask p
        (with_value p (ways.value p expr)
        (λ v. if is_true v then nested ways n body p else nested ways n otherwise p)))
    choose_else_comes expr mask line body otherwise told told_otherwise at p =
        mask_comes number flag outer n w full p next behind mask (Skips 0 false) _ _
        (skip body (number + 1) 0 false others p
        ∙ skip otherwise (middle + 1) 0 false (CloseIf ∷ rest) p)
        (value_comes number flag outer n w full p next behind (value_at tables access p expr) _ _
        (λ v. chosen_comes number flag outer n w full p next behind (is_true v) true
        (nested ways n body p) (nested ways n otherwise p)
        (to_same n w _ (λ q. run_on middle Runs others q) behind flag (nested ways n body p)
        (λ q. skip otherwise (middle + 1) 0 false (CloseIf ∷ rest) q)
        (less_comes n (weight n body) n w (omega arith) wide _ _
        (λ q. run_on middle Runs others q) flag (nested ways n body p) refl
        (told (number + 1) flag others number opens inside last p)))
        (less_comes n (weight n otherwise) n w (omega arith) wide_otherwise _ _ behind flag
        (nested ways n otherwise p) (skip body (number + 1) 0 true others p)
        (told_otherwise (middle + 1) flag (CloseIf ∷ rest) number opens
        (next_at all middle _ _ (number ∷ opens)
        (past_at all body (number + 1) others (number ∷ opens) inside)) last p))))
      where
        w : ℕ
        w = weight n body * weight n otherwise

        full : 0 < w
        full = one-le-mul (positive n body) (positive n otherwise)

        wide : weight n body ≤ w
        wide = le-mul_of_pos_right (weight n body) (positive n otherwise)

        wide_otherwise : weight n otherwise ≤ w
        wide_otherwise =
            subst (λ x. weight n otherwise ≤ x) (mul_comm (weight n otherwise) (weight n body))
            (le-mul_of_pos_right (weight n otherwise) (positive n body))

        outer : outermost_of all number ≡ flag
        outer = outer_there number flag _ opens at last

        middle : ℕ
        middle = past body (number + 1)

        others : List Member
        others = Otherwise ∷ spelled otherwise (CloseIf ∷ rest)

        inside : IsAt all (number + 1) (spelled body others) (number ∷ opens)
        inside = next_at all number _ _ opens at

        next : Mode → Point S → Ran S
        next mode q = run_on (number + 1) mode (spelled body others) q

        behind : Point S → Ran S
        behind q = run_on (past otherwise (middle + 1) + 1) Runs rest q

    -- ---- loops
    module _ (mask : Option ℕ) (line : ℕ) (body : Nest) (told : IsTold n body) where
      abbrev end : ℕ
      end = past body (number + 1)

      abbrev body_wide : ℕ
      body_wide = weight n body

      abbrev behind_loop : Point S → Ran S
      behind_loop q = run_on (end + 1) Runs rest q

      -- a turn that goes back, and the loop from there
      back_comes : (m : ℕ) (opening closing : Member)
          (at : IsAt all number (opening ∷ spelled body (closing ∷ rest)) opens)
          → open_numbers number opens opening ≡ number ∷ opens
          → (told : Told (Point S)) (q : Point S)
          → Told_by m (suc (m * body_wide))
          (run_on number Runs (opening ∷ spelled body (closing ∷ rest)) q) behind_loop flag told
          → Told_by (suc m) (suc (suc (m * body_wide)))
          (let r : Ran S = Again (innermost_of all end) q in r) behind_loop flag told
      back_comes m opening closing at opens_it told q comes =
          lead_comes 1 m (suc (m * body_wide)) (suc m) (suc (suc (m * body_wide))) (omega arith)
          (λ k less. omega (arith, less)) _
          (run_on number Runs (opening ∷ spelled body (closing ∷ rest)) q) behind_loop flag told (
            number,
            q,
            ap (λ k. let r : Ran S = Again k q in r) innermost,
            ap
                (λ members. run_on number Runs members q) at.ahead,
          ) comes
        where
          inside : IsAt all (number + 1) (spelled body (closing ∷ rest)) (number ∷ opens)
          inside = subst (IsAt all (number + 1) (spelled body (closing ∷ rest))) opens_it
              (next_at all number opening _ opens at)

          innermost : innermost_of all end ≡ number
          innermost =
              ap (λ o. unwrap_or (slice_get o 0) end)
              (past_at all body (number + 1) (closing ∷ rest) (number ∷ opens) inside).open_there

      fits_turn : (m : ℕ) (j k : ℕ) → j < body_wide → k < suc (suc (m * body_wide))
          → j + k < suc (suc m * body_wide)
      fits_turn m j k a b = omega (arith, a, b)

      pub while_comes : (expr m : ℕ) → m ≤ n
          → IsAt all number (OpenWhile expr mask line ∷ spelled body (CloseWhile ∷ rest)) opens
          → (p : Point S)
          → Told_by m (suc (m * body_wide))
          (run_on number Runs (OpenWhile expr mask line ∷ spelled body (CloseWhile ∷ rest)) p)
          behind_loop flag
          (while_turns ways m mask expr (nested ways n body) p)
      while_comes expr zero fewer at p =
          mask_comes number flag outer 0 w (omega arith) p next behind_loop mask (Skips 0 false) _ _
          (skip body (number + 1) 0 false (CloseWhile ∷ rest) p)
          (value_comes number flag outer 0 w (omega arith) p next behind_loop
          (value_at tables access p expr) _ _
          (λ v. chosen_comes number flag outer 0 w (omega arith) p next behind_loop
          (is_true v) false Wants (Fine p)
          (Waits tt)
          (Passes 0 (omega arith) (skip body (number + 1) 0 false (CloseWhile ∷ rest) p))))
        where
          w : ℕ
          w = suc (0 * body_wide)

          outer : outermost_of all number ≡ flag
          outer = outer_there number flag _ opens at last

          next : Mode → Point S → Ran S
          next mode q = run_on (number + 1) mode (spelled body (CloseWhile ∷ rest)) q
      while_comes expr (suc m) fewer at p =
          mask_comes number flag outer (suc m) w (omega arith) p next behind_loop mask
          (Skips 0 false) _ _ (skip body (number + 1) 0 false (CloseWhile ∷ rest) p)
          (value_comes number flag outer (suc m) w (omega arith) p next behind_loop
          (value_at tables access p expr) _ _
          (λ v. chosen_comes number flag outer (suc m) w (omega arith) p next behind_loop
          (is_true v) false
          (then_do (while_turns ways m mask expr (nested ways n body)) (nested ways n body p))
          (Fine p)
          (then_comes (suc m) body_wide (suc (suc (m * body_wide))) w (omega arith) (fits_turn m) _
          (λ q. run_on end Runs (CloseWhile ∷ rest) q) behind_loop flag
          (nested ways n body p) (while_turns ways m mask expr (nested ways n body))
          (less_comes n body_wide (suc m) body_wide fewer (omega arith) _ _
          (λ q. run_on end Runs (CloseWhile ∷ rest) q) flag (nested ways n body p) refl
          (told (number + 1) flag (CloseWhile ∷ rest) number opens
          (next_at all number _ _ opens at) last p))
          (λ q. back_comes m (OpenWhile expr mask line) CloseWhile at refl
          (while_turns ways m mask expr (nested ways n body) q) q
          (while_comes expr m (omega (arith, fewer)) at q)))
          (Passes 0 (omega arith) (skip body (number + 1) 0 false (CloseWhile ∷ rest) p))))
        where
          w : ℕ
          w = suc (suc m * body_wide)

          outer : outermost_of all number ≡ flag
          outer = outer_there number flag _ opens at last

          next : Mode → Point S → Ran S
          next mode q = run_on (number + 1) mode (spelled body (CloseWhile ∷ rest)) q

      pub repeat_comes : (until m : ℕ) → m ≤ n
          → IsAt all number (OpenRepeat mask line ∷ spelled body (Until until ∷ rest)) opens
          → (p : Point S)
          → Told_by m (suc (m * body_wide))
          (run_on number Runs (OpenRepeat mask line ∷ spelled body (Until until ∷ rest)) p)
          behind_loop flag
          (repeat_turns ways m mask until (nested ways n body) p)
      repeat_comes until zero fewer at p =
          mask_comes number flag outer 0 w (omega arith) p next behind_loop mask (Skips 0 false) _ _
          (skip body (number + 1) 0 false (Until until ∷ rest) p)
          (Waits tt)
        where
          w : ℕ
          w = suc (0 * body_wide)

          outer : outermost_of all number ≡ flag
          outer = outer_there number flag _ opens at last

          next : Mode → Point S → Ran S
          next mode q = run_on (number + 1) mode (spelled body (Until until ∷ rest)) q
      repeat_comes until (suc m) fewer at p =
          mask_comes number flag outer (suc m) w (omega arith) p next behind_loop mask
          (Skips 0 false) _ _ (skip body (number + 1) 0 false (Until until ∷ rest) p)
          (then_comes (suc m) body_wide (suc (suc (m * body_wide))) w (omega arith) (fits_turn m) _
          (λ q. run_on end Runs (Until until ∷ rest) q) behind_loop flag
          (nested ways n body p)
          (until_done ways (repeat_turns ways m mask until (nested ways n body)) until)
          (less_comes n body_wide (suc m) body_wide fewer (omega arith) _ _
          (λ q. run_on end Runs (Until until ∷ rest) q) flag (nested ways n body p) refl
          (told (number + 1) flag (Until until ∷ rest) number opens inside last p))
          (λ q. value_comes end flag outer_end (suc m) (suc (suc (m * body_wide))) (omega arith) q
          (after_end) behind_loop (value_at tables access q until) _ _
          (λ v. if_comes end flag outer_end (suc m) (suc (suc (m * body_wide))) (omega arith) q
          (after_end) behind_loop (is_true v) (GoesOn Runs q) (GoesBack q)
          (Fine q) (repeat_turns ways m mask until (nested ways n body) q)
          (Passes 0 (omega arith) refl)
          (back_comes m (OpenRepeat mask line) (Until until) at refl
          (repeat_turns ways m mask until (nested ways n body) q) q
          (repeat_comes until m (omega (arith, fewer)) at q)))))
        where
          w : ℕ
          w = suc (suc m * body_wide)

          outer : outermost_of all number ≡ flag
          outer = outer_there number flag _ opens at last

          inside : IsAt all (number + 1) (spelled body (Until until ∷ rest)) (number ∷ opens)
          inside = next_at all number _ _ opens at

          outer_end : outermost_of all end ≡ flag
          outer_end =
              outer_there end flag _ (number ∷ opens)
              (past_at all body (number + 1) _ (number ∷ opens) inside) last

          after_end : Mode → Point S → Ran S
          after_end mode q = run_on (end + 1) mode rest q

          next : Mode → Point S → Ran S
          next mode q = run_on (number + 1) mode (spelled body (Until until ∷ rest)) q

  -- ---- a tree where others are open
  pub nest_comes : (n : ℕ) (nest : Nest) → IsTold n nest
  nest_comes n Nothing number flag rest first opens at last p = Passes 0 (omega arith) refl
  nest_comes n (Putting array expr mask line after) number flag rest first opens at last p =
      then_comes n 1 (weight n after) (weight n after) (positive n after)
      (fits_one (weight n after)) _ (λ q. run_on (number + 1) Runs (spelled after rest) q) _ flag _
      (nested ways n after)
      (put_comes n number flag (spelled after rest)
      (outer_there number flag _ (first ∷ opens) at last) p array expr mask line)
      (λ q. nest_comes n after (number + 1) flag rest first opens
      (next_at all number _ _ (first ∷ opens) at) last q)
  nest_comes n (Keeping cell expr mask line after) number flag rest first opens at last p =
      then_comes n 1 (weight n after) (weight n after) (positive n after)
      (fits_one (weight n after)) _ (λ q. run_on (number + 1) Runs (spelled after rest) q) _ flag _
      (nested ways n after)
      (keep_comes n number flag (spelled after rest)
      (outer_there number flag _ (first ∷ opens) at last) p cell expr mask line)
      (λ q. nest_comes n after (number + 1) flag rest first opens
      (next_at all number _ _ (first ∷ opens) at) last q)
  nest_comes n (Joining scalar fold expr mask line after) number flag rest first opens at last p =
      then_comes n 1 (weight n after) (weight n after) (positive n after)
      (fits_one (weight n after)) _ (λ q. run_on (number + 1) Runs (spelled after rest) q) _ flag _
      (nested ways n after)
      (join_comes n number flag (spelled after rest)
      (outer_there number flag _ (first ∷ opens) at last) p scalar fold expr mask line)
      (λ q. nest_comes n after (number + 1) flag rest first opens
      (next_at all number _ _ (first ∷ opens) at) last q)
  nest_comes n (Choosing expr mask line body after) number flag rest first opens at last p =
      then_comes n (weight n body) (weight n after) (weight n body * weight n after)
      (positive n after) (fits_times (weight n body) (weight n after)) _
      (λ q. run_on (past body (number + 1) + 1) Runs (spelled after rest) q) _ flag _
      (nested ways n after)
      (choose_comes n number flag (spelled after rest) (first ∷ opens) last expr mask line body
      (nest_comes n body) at p)
      (λ q. nest_comes n after (past body (number + 1) + 1) flag rest first opens
      (past_at all (Choosing expr mask line body Nothing) number (spelled after rest)
      (first ∷ opens) at) last q)
  nest_comes n (ChoosingElse expr mask line body otherwise after) number flag rest first opens at
      last p =
      then_comes n (weight n body * weight n otherwise) (weight n after)
      (weight n body * weight n otherwise * weight n after) (positive n after)
      (fits_times (weight n body * weight n otherwise) (weight n after)) _
      (λ q. run_on (past otherwise (past body (number + 1) + 1) + 1) Runs (spelled after rest) q) _
      flag _ (nested ways n after)
      (choose_else_comes n number flag (spelled after rest) (first ∷ opens) last expr mask line body
      otherwise (nest_comes n body) (nest_comes n otherwise) at p)
      (λ q. nest_comes n after
      (past otherwise (past body (number + 1) + 1) + 1) flag rest first opens
      (past_at all (ChoosingElse expr mask line body otherwise Nothing) number (spelled after rest)
      (first ∷ opens) at) last q)
  nest_comes n (Looping expr mask line body after) number flag rest first opens at last p =
      then_comes n (suc n * weight n body) (weight n after) (suc n * weight n body * weight n after)
      (positive n after)
      (fits_times (suc n * weight n body) (weight n after)) _
      (λ q. run_on (past body (number + 1) + 1) Runs (spelled after rest) q) _ flag _
      (nested ways n after)
      (less_comes n (suc (n * weight n body)) n (suc n * weight n body) (omega arith)
      (loop_wide n (weight n body) (positive n body)) _ _ _ flag _ refl
      (while_comes n number flag (spelled after rest) (first ∷ opens) last mask line body
      (nest_comes n body) expr n (omega arith) at p))
      (λ q. nest_comes n after (past body (number + 1) + 1) flag rest first opens
      (past_at all (Looping expr mask line body Nothing) number (spelled after rest)
      (first ∷ opens) at) last q)
  nest_comes n (Repeating mask line body until after) number flag rest first opens at last p =
      then_comes n (suc n * weight n body) (weight n after) (suc n * weight n body * weight n after)
      (positive n after)
      (fits_times (suc n * weight n body) (weight n after)) _
      (λ q. run_on (past body (number + 1) + 1) Runs (spelled after rest) q) _ flag _
      (nested ways n after)
      (less_comes n (suc (n * weight n body)) n (suc n * weight n body) (omega arith)
      (loop_wide n (weight n body) (positive n body)) _ _ _ flag _ refl
      (repeat_comes n number flag (spelled after rest) (first ∷ opens) last mask line body
      (nest_comes n body) until n (omega arith) at p))
      (λ q. nest_comes n after (past body (number + 1) + 1) flag rest first opens
      (past_at all (Repeating mask line body until Nothing) number (spelled after rest)
      (first ∷ opens) at) last q)
