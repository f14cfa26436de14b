-- Rounds of turns behind an order end all, where one order does.
use Rattle.std.proofs.Common.{◌≡◌, ◌⊎◌, ℕ, zero, suc, ◌+◌, ◌*◌, ◌<◌, ◌≤◌, Bool, true, false, ◌==◌, nat_lt, List, [], ◌∷◌, ◌++◌, length, sum_by, refl, sym, ◌∙◌, ap, ap₂, subst, inl, inr, arith, append_assoc, append-nil, length-append, eq-eqb, eq-or-lt_of_le, le_of_suc-le-suc, ltb-true, ltb-false}
use Rattle.std.proofs.Math.Path.{fun_ext}
use Rattle.std.proofs.lemmas.List.Sums.{fold-append, sum_by-cons}
use Rattle.std.specs.List.{range_with_len}
use Rattle.zpl_lists.specs.Front.{IsFrontOf}
use Rattle.grid_links.specs.Machine.{Move, Turn, Moves, Waiting, Over, Stuck}
use Rattle.grid_links.specs.Run.{System, World, count_of, start_world, next_turn, given_turn, after_turn, after_from, after, move_in, moves_from, moves_of, IsOver, Rests, laps, all_moves}
use Rattle.grid_links.specs.Laws.{Reaches, GoesOn, CountsMoves}
use Rattle.grid_links.proofs.FrontLemmas.{length-front, front-full}
use Rattle.grid_links.proofs.HistoryLemmas.{Past, IsRun, IsRun-after, IsWorldOf, length-moves_of, next_turn-beyond}
use Rattle.grid_links.proofs.DominationLemmas.{moves-front, never_stuck, moves_below}
use Rattle.grid_links.proofs.EndLemmas.{same_world, over-reaches, never_idle}

-- ---- sums over the processes
sum-le : (f g : ℕ → ℕ) (a n : ℕ) → ((p : ℕ) → f p ≤ g p) → sum_by f (range_with_len a n) ≤ sum_by g (range_with_len a n)
sum-le f g a zero less = omega arith
sum-le f g a (suc n) less =
    let rest = sum-le f g (a + 1) n less in
    omega (arith, less a, sum_by-cons f a (range_with_len (a + 1) n), sum_by-cons g a (range_with_len (a + 1) n))

sum-lt : (f g : ℕ → ℕ) (a n p : ℕ) → ((q : ℕ) → f q ≤ g q) → a ≤ p → p < a + n → f p < g p
    → sum_by f (range_with_len a n) < sum_by g (range_with_len a n)
sum-lt f g a zero p less low high more = absurd (omega arith)
sum-lt f g a (suc n) p less low high more =
    parts (eq-or-lt_of_le low) (sum-le f g (a + 1) n less) (λ above. sum-lt f g (a + 1) n p less above (omega arith) more)
  where
    parts : (a ≡ p) ⊎ (a < p) → sum_by f (range_with_len (a + 1) n) ≤ sum_by g (range_with_len (a + 1) n)
        → (a + 1 ≤ p → sum_by f (range_with_len (a + 1) n) < sum_by g (range_with_len (a + 1) n))
        → sum_by f (range_with_len a (suc n)) < sum_by g (range_with_len a (suc n))
    parts (inl same) rest later =
        let first : f a < g a = subst (λ q. f q < g q) (sym same) more in
        omega (arith, sum_by-cons f a (range_with_len (a + 1) n), sum_by-cons g a (range_with_len (a + 1) n))
    parts (inr above) rest later =
        let strict = later (omega arith) in
        omega (arith, less a, sum_by-cons f a (range_with_len (a + 1) n), sum_by-cons g a (range_with_len (a + 1) n))

-- ---- orders behind orders
pub after-append : {L M K : Type 0} (system : System L M K) (order more : List ℕ) → after system (order ++ more) ≡ after_from system (after system order) more
after-append system order more = fold-append (given_turn system) (start_world system) order more

moves_from-append : {L M K : Type 0} (system : System L M K) (order : List ℕ) (world : World L M) (more : List ℕ) (a : ℕ)
    → moves_from system world (order ++ more) a ≡ moves_from system world order a ++ moves_from system (after_from system world order) more a
moves_from-append system [] world more a = refl
moves_from-append system (p ∷ order) world more a =
    ap (λ l. move_in (p == a) (next_turn system world p) ++ l) (moves_from-append system order (given_turn system world p) more a)
    ∙ sym (append_assoc (move_in (p == a) (next_turn system world p)) _ _)

pub moves_of-append : {L M K : Type 0} (system : System L M K) (order more : List ℕ) (a : ℕ)
    → moves_of system (order ++ more) a ≡ moves_of system order a ++ moves_from system (after system order) more a
moves_of-append system order more a = moves_from-append system order (start_world system) more a

-- ---- a turn that is no move
after_turn-none : {L M K : Type 0} (count p : ℕ) (turn : Turn L M K) (world : World L M) → ((move : Move L M) → turn ≡ Moves move → ⊥)
    → after_turn count p turn world ≡ world
after_turn-none count p (Moves move) world none = absurd (none move refl)
after_turn-none count p Waiting world none = refl
after_turn-none count p Over world none = refl
after_turn-none count p (Stuck kind) world none = refl

over_turn : {L M K : Type 0} (system : System L M K) (world : World L M) → length world.locals ≡ count_of system → IsOver system world
    → (p : ℕ) → next_turn system world p ≡ Over
over_turn system world size over p = there (nat_lt p (count_of system)) refl
  where
    there : (inside : Bool) → nat_lt p (count_of system) ≡ inside → next_turn system world p ≡ Over
    there true e = over p (ltb-true p (count_of system) e)
    there false e =
        let beyond : length world.locals ≤ p = rw size (ltb-false p (count_of system) e) in
        next_turn-beyond system world p beyond

over_from : {L M K : Type 0} (system : System L M K) (world : World L M) → length world.locals ≡ count_of system → IsOver system world
    → (order : List ℕ) → after_from system world order ≡ world
over_from system world size over [] = refl
over_from system world size over (p ∷ order) =
    let turn = over_turn system world size over p in
    let same : given_turn system world p ≡ world =
    after_turn-none (count_of system) p (next_turn system world p) world (λ move e. let both : Over ≡ Moves move = sym turn ∙ e in cc) in
    ap (λ w. after_from system w order) same ∙ over_from system world size over order

pub over_stays : {L M K : Type 0} (system : System L M K) (order more : List ℕ) → IsOver system (after system order) → IsOver system (after system (order ++ more))
over_stays system order more over =
    let same = over_from system (after system order) (IsRun-after system order).world_of.size over more in
    subst (IsOver system) (sym (after-append system order more ∙ same)) over

-- ---- a round in which one can move is one in which one does
abbrev Moved : {L M K : Type 0} → System L M K → World L M → List ℕ → Type 0
Moved system world order = (r : ℕ) × (r < count_of system) × (1 ≤ length (moves_from system world order r))

round-moves : {L M K : Type 0} (system : System L M K) (a n q : ℕ) (past : Past L M) (world : World L M) (move : Move L M) → IsRun system past world
    → a ≤ q → q < a + n → next_turn system world q ≡ Moves move → Moved system world (range_with_len a n)
round-moves system a zero q past world move run low high e = absurd (omega arith)
round-moves {L = L} {M = M} {K = K} system a (suc n) q past world move run low high e =
    by_turn (next_turn system world a) refl (λ above. round-moves system (a + 1) n q past world move run above (omega arith) e)
  where
    later : (turn : Turn L M K) → next_turn system world a ≡ turn → ((made : Move L M) → turn ≡ Moves made → ⊥)
        → (a + 1 ≤ q → Moved system world (range_with_len (a + 1) n)) → Moved system world (range_with_len a (suc n))
    later turn is none rest =
        let other : a ≡ q → ⊥ = λ same. none move (sym is ∙ (ap (next_turn system world) same ∙ e)) in
        let (r, below, some) = rest (omega arith) in
        let same : given_turn system world a ≡ world =
        after_turn-none (count_of system) a (next_turn system world a) world (λ made f. none made (sym is ∙ f)) in
        let count_same = ap (λ w. length (moves_from system w (range_with_len (a + 1) n) r)) same in
        (r, below, omega (arith, length-append (move_in (a == r) (next_turn system world a)) (moves_from system (given_turn system world a) (range_with_len (a + 1) n) r)))

    by_turn : (turn : Turn L M K) → next_turn system world a ≡ turn
        → (a + 1 ≤ q → Moved system world (range_with_len (a + 1) n)) → Moved system world (range_with_len a (suc n))
    by_turn (Moves made) is rest =
        let first : move_in (a == a) (next_turn system world a) ≡ made ∷ [] = ap₂ move_in (eq-eqb a a refl) is in (
          a,
          moves_below system past world run a made is,
          omega (arith, ap length first, length-append (move_in (a == a) (next_turn system world a)) (moves_from system (given_turn system world a) (range_with_len (a + 1) n) a)),
        )
    by_turn Waiting is rest = later Waiting is (λ made f. cc) rest
    by_turn Over is rest = later Over is (λ made f. cc) rest
    by_turn (Stuck kind) is rest = later (Stuck kind) is (λ made f. cc) rest

round-grows : {L M K : Type 0} (system : System L M K) (w : List ℕ) (q : ℕ) (move : Move L M) → q < count_of system
    → next_turn system (after system w) q ≡ Moves move → all_moves system w < all_moves system (w ++ range_with_len 0 (count_of system))
round-grows system w q move below e =
    let lap : List ℕ = range_with_len 0 (count_of system) in
    let (r, there, some) = round-moves system 0 (count_of system) q (moves_of system w) (after system w) move (IsRun-after system w) (omega arith) (omega arith) e in
    let longer : (p : ℕ) → length (moves_of system (w ++ lap) p) ≡ length (moves_of system w p) + length (moves_from system (after system w) lap p) =
    λ p. ap length (moves_of-append system w lap p) ∙ length-append (moves_of system w p) (moves_from system (after system w) lap p) in
    sum-lt (λ p. length (moves_of system w p)) (λ p. length (moves_of system (w ++ lap) p)) 0 (count_of system) r
    (λ p. omega (arith, longer p)) (omega arith) (omega arith) (omega (arith, longer r))

-- ---- what can be told of a world
abbrev Any_moves : {L M K : Type 0} → System L M K → World L M → ℕ → Type 0
Any_moves {L} {M} system world n = (q : ℕ) × (move : Move L M) × (q < n) × (next_turn system world q ≡ Moves move)

-- one of the first processes moves, or none does
any_moves : {L M K : Type 0} (system : System L M K) (world : World L M) (n : ℕ)
    → Any_moves system world n ⊎ ((p : ℕ) → p < n → (move : Move L M) → next_turn system world p ≡ Moves move → ⊥)
any_moves system world zero = inr (λ p below move e. absurd (omega arith))
any_moves {L = L} {M = M} {K = K} system world (suc n) = of_rest (any_moves system world n)
  where
    none_more : ((p : ℕ) → p < n → (move : Move L M) → next_turn system world p ≡ Moves move → ⊥)
        → ((move : Move L M) → next_turn system world n ≡ Moves move → ⊥)
        → (p : ℕ) → p < suc n → (move : Move L M) → next_turn system world p ≡ Moves move → ⊥
    none_more before here p below move e = parts (eq-or-lt_of_le (le_of_suc-le-suc below))
      where
        parts : (p ≡ n) ⊎ (p < n) → ⊥
        parts (inl same) = here move (ap (next_turn system world) (sym same) ∙ e)
        parts (inr less) = before p less move e

    by_turn : (turn : Turn L M K) → next_turn system world n ≡ turn
        → ((p : ℕ) → p < n → (move : Move L M) → next_turn system world p ≡ Moves move → ⊥)
        → Any_moves system world (suc n) ⊎ ((p : ℕ) → p < suc n → (move : Move L M) → next_turn system world p ≡ Moves move → ⊥)
    by_turn (Moves move) is before = inl (n, move, omega arith, is)
    by_turn Waiting is before = inr (none_more before (λ move e. let both : Waiting ≡ Moves move = sym is ∙ e in cc))
    by_turn Over is before = inr (none_more before (λ move e. let both : Over ≡ Moves move = sym is ∙ e in cc))
    by_turn (Stuck kind) is before = inr (none_more before (λ move e. let both : Stuck kind ≡ Moves move = sym is ∙ e in cc))

    of_rest : Any_moves system world n ⊎ ((p : ℕ) → p < n → (move : Move L M) → next_turn system world p ≡ Moves move → ⊥)
        → Any_moves system world (suc n) ⊎ ((p : ℕ) → p < suc n → (move : Move L M) → next_turn system world p ≡ Moves move → ⊥)
    of_rest (inl (q, move, below, e)) = inl (q, move, omega arith, e)
    of_rest (inr before) = by_turn (next_turn system world n) refl before

-- the first processes are over, or one isn't
abbrev Not_over : {L M K : Type 0} → System L M K → World L M → ℕ → Type 0
Not_over system world n = (q : ℕ) × (q < n) × (next_turn system world q ≡ Over → ⊥)

all_over : {L M K : Type 0} (system : System L M K) (world : World L M) (n : ℕ)
    → ((p : ℕ) → p < n → next_turn system world p ≡ Over) ⊎ Not_over system world n
all_over system world zero = inl (λ p below. absurd (omega arith))
all_over {L = L} {M = M} {K = K} system world (suc n) = of_rest (all_over system world n)
  where
    over_more : ((p : ℕ) → p < n → next_turn system world p ≡ Over) → next_turn system world n ≡ Over
        → (p : ℕ) → p < suc n → next_turn system world p ≡ Over
    over_more before here p below = parts (eq-or-lt_of_le (le_of_suc-le-suc below))
      where
        parts : (p ≡ n) ⊎ (p < n) → next_turn system world p ≡ Over
        parts (inl same) = ap (next_turn system world) same ∙ here
        parts (inr less) = before p less

    by_turn : (turn : Turn L M K) → next_turn system world n ≡ turn → ((p : ℕ) → p < n → next_turn system world p ≡ Over)
        → ((p : ℕ) → p < suc n → next_turn system world p ≡ Over) ⊎ Not_over system world (suc n)
    by_turn Over is before = inl (over_more before is)
    by_turn Waiting is before = inr (n, omega arith, λ e. let both : Waiting ≡ Over = sym is ∙ e in cc)
    by_turn (Moves move) is before = inr (n, omega arith, λ e. let both : Moves move ≡ Over = sym is ∙ e in cc)
    by_turn (Stuck kind) is before = inr (n, omega arith, λ e. let both : Stuck kind ≡ Over = sym is ∙ e in cc)

    of_rest : ((p : ℕ) → p < n → next_turn system world p ≡ Over) ⊎ Not_over system world n
        → ((p : ℕ) → p < suc n → next_turn system world p ≡ Over) ⊎ Not_over system world (suc n)
    of_rest (inl before) = by_turn (next_turn system world n) refl before
    of_rest (inr (q, below, e)) = inr (q, omega arith, e)

-- ---- behind an order that ends all
module _ {L M K : Type 0} (system : System L M K) (x : List ℕ) (over : IsOver system (after system x)) where
  -- as many moves as under x are all of them
  all_made : (w : List ℕ) → all_moves system x ≤ all_moves system w → IsOver system (after system w)
  all_made w enough =
      let front : (p : ℕ) → IsFrontOf (moves_of system w p) (moves_of system x p) =
      moves-front system x (length w) (over-reaches system x (length w) over) w (omega arith) in
      let same : (p : ℕ) → moves_of system w p ≡ moves_of system x p = λ p. same_at front p (nat_lt p (count_of system)) refl in
      subst (IsOver system)
      (same_world system (moves_of system x) (after system x) (after system w) (IsRun-after system x).world_of
      (subst (λ (h : Past L M). IsWorldOf system h (after system w)) (fun_ext same) (IsRun-after system w).world_of))
      over
    where
      same_at : ((p : ℕ) → IsFrontOf (moves_of system w p) (moves_of system x p)) → (p : ℕ) → (inside : Bool) → nat_lt p (count_of system) ≡ inside
          → moves_of system w p ≡ moves_of system x p
      same_at front p false e =
          let beyond : count_of system ≤ p = ltb-false p (count_of system) e in
          (IsRun-after system w).world_of.beyond p beyond ∙ sym ((IsRun-after system x).world_of.beyond p beyond)
      same_at front p true e =
          let not_less : length (moves_of system w p) < length (moves_of system x p) → ⊥ = λ less.
          absurd (let fewer = sum-lt (λ q. length (moves_of system w q)) (λ q. length (moves_of system x q)) 0 (count_of system) p
          (λ q. length-front (front q)) (omega arith) (omega (arith, ltb-true p (count_of system) e)) less in omega arith) in
          front-full (front p) (omega arith)

  one_can_move : (w : List ℕ) → Not_over system (after system w) (count_of system)
      → Any_moves system (after system w) (count_of system)
  one_can_move w (q, below, not_over) = by_moves (any_moves system (after system w) (count_of system))
    where
      reaches : Reaches system x (length w)
      reaches = over-reaches system x (length w) over

      resting : ((p : ℕ) → p < count_of system → (move : Move L M) → next_turn system (after system w) p ≡ Moves move → ⊥)
          → (p : ℕ) → p < count_of system → Rests system (after system w) p
      resting none p there = by_turn (next_turn system (after system w) p) refl
        where
          by_turn : (turn : Turn L M K) → next_turn system (after system w) p ≡ turn → Rests system (after system w) p
          by_turn (Moves move) is = absurd (none p there move is)
          by_turn Waiting is = inl is
          by_turn Over is = inr is
          by_turn (Stuck kind) is =
              absurd (never_stuck system x (length w) reaches w (omega arith) (record { process = p; there = there; kind = kind; stuck = is }))

      by_moves : Any_moves system (after system w) (count_of system)
          ⊎ ((p : ℕ) → p < count_of system → (move : Move L M) → next_turn system (after system w) p ≡ Moves move → ⊥)
          → Any_moves system (after system w) (count_of system)
      by_moves (inl found) = found
      by_moves (inr none) =
          absurd (never_idle system x w (length w) reaches (omega arith) (λ idle. absurd (idle.not_over over))
          (record { not_over = λ all. not_over (all q below); resting = resting none }))

  laps_end : (rounds : ℕ) (w : List ℕ) → all_moves system x ≤ all_moves system w + rounds → IsOver system (after system (w ++ laps (count_of system) rounds))
  laps_end zero w enough = subst (λ order. IsOver system (after system order)) (sym (append-nil w)) (all_made w (omega arith))
  laps_end (suc rounds) w enough =
      by_over (all_over system (after system w) (count_of system))
      (λ more. laps_end rounds (w ++ range_with_len 0 (count_of system)) more)
    where
      by_over : ((p : ℕ) → p < count_of system → next_turn system (after system w) p ≡ Over) ⊎ Not_over system (after system w) (count_of system)
          → (all_moves system x ≤ all_moves system (w ++ range_with_len 0 (count_of system)) + rounds
          → IsOver system (after system (w ++ range_with_len 0 (count_of system) ++ laps (count_of system) rounds)))
          → IsOver system (after system (w ++ laps (count_of system) (suc rounds)))
      by_over (inl all) rest = over_stays system w (laps (count_of system) (suc rounds)) all
      by_over (inr some) rest =
          let (q, move, below, e) = one_can_move w some in
          let grows = round-grows system w q move below e in
          subst (λ order. IsOver system (after system order)) (append_assoc w (range_with_len 0 (count_of system)) (laps (count_of system) rounds))
          (rest (omega arith))

  pub ends_in_laps : (w more : List ℕ) (rounds : ℕ) → all_moves system x ≤ all_moves system w + rounds
      → IsOver system (after system (w ++ laps (count_of system) rounds ++ more))
  ends_in_laps w more rounds enough = over_stays system (w ++ laps (count_of system) rounds) more (laps_end rounds w enough)

-- ---- orders go on
pub goes_on : {L M K : Type 0} (system : System L M K) → GoesOn system
goes_on system = record {
  turn = λ order p. after-append system order (p ∷ []);
  turns = after-append system;
  moves = λ order more p.
      record { rest = moves_from system (after system order) more p; joins = moves_of-append system order more p };
}

-- ---- how many moves
sum-most : (f : ℕ → ℕ) (a n most : ℕ) → ((p : ℕ) → a ≤ p → p < a + n → f p ≤ most)
    → sum_by f (range_with_len a n) ≤ n * most
sum-most f a zero most less = omega arith
sum-most f a (suc n) most less =
    let rest = sum-most f (a + 1) n most (λ p low high. less p (omega arith) (omega arith)) in
    let first = less a (omega arith) (omega arith) in
    omega (arith, sum_by-cons f a (range_with_len (a + 1) n))

pub counts_moves : {L M K : Type 0} (system : System L M K) → CountsMoves system
counts_moves system = record {
  each = length-moves_of system;
  all = λ order most less.
      sum-most (λ p. length (moves_of system order p)) 0 (count_of system) most
      (λ p low high. less p (omega arith));
}
