-- An order that reaches so many moves dominates every order of at most so many turns, and what follows of
-- processes that are stuck or at rest.
use Rattle.std.proofs.Common.{◌≡◌, ◌⊎◌, ℕ, ◌+◌, ◌<◌, ◌≤◌, Bool, true, false, ◌&&◌, ◌==◌, nat_lt, List, [], ◌∷◌, ◌++◌, length, drop, Option, Some, None, refl, sym, ◌∙◌, ap, subst, inl, inr, arith, append_assoc, append-nil, length-append, length-drop, eqb-true, ltb-true, ltb-false, lt-ltb}
use Rattle.std.proofs.lemmas.List.Sums.{sum_by-append}
use Rattle.zpl_lists.specs.Front.{IsFrontOf}
use Rattle.grid_links.specs.Links.{has_room}
use Rattle.grid_links.specs.Machine.{Move, Turn, Moves, Waiting, Over, Stuck, turn_of}
use Rattle.grid_links.specs.Run.{System, World, count_of, start_world, next_turn, given_turn, after, move_in, moves_of, message_to, sent_by, taken_from, IsStuck, Rests}
use Rattle.grid_links.specs.Laws.{Reaches, Begins}
use Rattle.grid_links.proofs.FrontLemmas.{slice_get-front, flat_map-front}
use Rattle.grid_links.proofs.LinkLemmas.{taken_of}
use Rattle.grid_links.proofs.TurnLemmas.{Grows, turn_of-grows}
use Rattle.grid_links.proofs.HistoryLemmas.{Past, state_after, with_turn, heads_by, rooms_by, every_room, IsRun, turn_by, next_turn-by, next_turn-beyond, start_of, with_order, with_order-cons, with_turn-none, IsRun-start, IsRun-turn, IsRun-order, IsRun-after, length-move_in, and-left}

-- how many messages of a sender are taken grows with the moves
taken_from-front : {L M : Type 0} (from : ℕ) {a b : List (Move L M)} → IsFrontOf a b → taken_from from a ≤ taken_from from b
taken_from-front from {a = a} front =
    omega (arith, ap (taken_from from) front.joins, sum_by-append (λ m. taken_of from m.taken) a front.rest)

-- with fewer messages on it a link has room still
has_room-less : {M : Type 0} (capacity : Option ℕ) (one other : List M) → length other ≤ length one → has_room capacity one ≡ true
    → has_room capacity other ≡ true
has_room-less None one other less room = refl
has_room-less (Some capacity) one other less room =
    let below : length one < capacity = ltb-true (length one) capacity room in
    lt-ltb (length other) capacity (omega arith)

and-both : (a b c : Bool) → (b ≡ true → c ≡ true) → (a && b) ≡ true → (a && c) ≡ true
and-both true b c more e = more e
and-both false b c more e = e

-- ---- a run and one that goes further
-- what a process does that isn't waiting: it is its next turn in the other run, where it has made no more moves
-- there, or else its next move there
abbrev pub IsCarried : {L M K : Type 0} → List (Move L M) → List (Move L M) → Turn L M K → Turn L M K → Type 0
IsCarried {L} {M} {K} whole past theirs turn =
    ((whole ≡ past) × (theirs ≡ turn))
    ⊎ ((move : Move L M) × (rest : List (Move L M)) × (whole ≡ past ++ move ∷ rest) × (turn ≡ Moves move))

module _ {L M K : Type 0} (system : System L M K) (past : Past L M) (world : World L M) (run : IsRun system past world)
    (whole : Past L M) (last : World L M) (goal : IsRun system whole last)
    (fronts : (a : ℕ) → IsFrontOf (past a) (whole a)) where
  head-grows : (p : ℕ) (before : List (Move L M)) (from : ℕ) (message : M) → heads_by past p before from ≡ Some message
      → heads_by whole p before from ≡ Some message
  head-grows p before from message e =
      slice_get-front (flat_map-front (λ m. message_to p m.sent) (fronts from)) (taken_from from before) message e

  -- where p has made the same moves, the others have sent and taken at least as much
  grows-same : (p : ℕ) → whole p ≡ past p
      → Grows (heads_by past p (past p)) (heads_by whole p (past p))
      (rooms_by system.capacity (count_of system) past p (past p)) (rooms_by system.capacity (count_of system) whole p (past p))
  grows-same p same = record {
    head = λ from message e. head-grows p (past p) from message e;
    room = λ to e.
        let less : length (drop (taken_from p (whole to)) (sent_by to (past p))) ≤ length (drop (taken_from p (past to)) (sent_by to (past p))) =
        omega (arith, length-drop (taken_from p (whole to)) (sent_by to (past p)), length-drop (taken_from p (past to)) (sent_by to (past p)), taken_from-front p (fronts to)) in
        and-both (nat_lt to (count_of system)) _ _ (has_room-less system.capacity _ _ less) e;
  }

  pub carried : (p : ℕ) → p < count_of system → (turn : Turn L M K) → next_turn system world p ≡ turn → (turn ≡ Waiting → ⊥)
      → IsCarried (whole p) (past p) (next_turn system last p) turn
  carried p below turn e acts = by_rest (fronts p).rest (fronts p).joins
    where
      by_rest : (rest : List (Move L M)) → whole p ≡ past p ++ rest
          → IsCarried (whole p) (past p) (next_turn system last p) turn
      by_rest [] joins =
          let (start, first) = start_of system p below in
          let same : whole p ≡ past p = joins ∙ append-nil (past p) in
          let mine : turn_by system past p start ≡ turn = sym (next_turn-by system past world run.world_of p start first) ∙ e in
          let theirs = turn_of-grows system.processes p (state_after start (past p)) _ _ _ _ turn (grows-same p same) mine acts in
          inl (
            same,
            next_turn-by system whole last goal.world_of p start first
                ∙ subst (λ l. turn_of system.processes p (state_after start l) (heads_by whole p l) (rooms_by system.capacity (count_of system) whole p l) ≡ turn) (sym same) theirs,
          )
      by_rest (move ∷ rest) joins =
          let (start, first) = start_of system p below in
          let mine : turn_by system past p start ≡ turn = sym (next_turn-by system past world run.world_of p start first) ∙ e in
          let grown = turn_of-grows system.processes p (state_after start (past p)) _ (heads_by whole p (past p)) _ (every_room (count_of system)) turn
          (record { head = λ from message h. head-grows p (past p) from message h; room = λ to h. and-left (nat_lt to (count_of system)) _ h })
          mine acts in
          inr (move, rest, joins, sym grown ∙ goal.turns p start (past p) move rest first joins)

-- ---- domination
-- a process that isn't there makes no move
pub moves_below : {L M K : Type 0} (system : System L M K) (past : Past L M) (world : World L M) → IsRun system past world
    → (p : ℕ) (move : Move L M) → next_turn system world p ≡ Moves move → p < count_of system
moves_below system past world run p move e = there (nat_lt p (count_of system)) refl
  where
    there : (inside : Bool) → nat_lt p (count_of system) ≡ inside → p < count_of system
    there true below = ltb-true p (count_of system) below
    there false beyond =
        let past_end : length world.locals ≤ p = rw run.world_of.size (ltb-false p (count_of system) beyond) in
        let nothing : Moves move ≡ Over = sym e ∙ next_turn-beyond system world p past_end in
        cc

module _ {L M K : Type 0} (system : System L M K) (x : List ℕ) (many : ℕ) (reaches : Reaches system x many) where
  -- the next move is the next one under x
  move-front : (past : Past L M) (world : World L M) (run : IsRun system past world)
      (fronts : (a : ℕ) → IsFrontOf (past a) (moves_of system x a)) (p : ℕ) (move : Move L M)
      → length (past p) < many → next_turn system world p ≡ Moves move
      → IsFrontOf (past p ++ move ∷ []) (moves_of system x p)
  move-front past world run fronts p move short e =
      let below = moves_below system past world run p move e in
      one_of below (carried system past world run (moves_of system x) (after system x) (IsRun-after system x) fronts p below (Moves move) e (λ w. cc))
    where
      rests : Rests system (after system x) p ⊎ (many ≤ length (moves_of system x p)) → moves_of system x p ≡ past p
          → next_turn system (after system x) p ≡ Moves move → ⊥
      rests (inl (inl waiting)) same theirs = let no_move : Waiting ≡ Moves move = sym waiting ∙ theirs in cc
      rests (inl (inr over)) same theirs = let no_move : Over ≡ Moves move = sym over ∙ theirs in cc
      rests (inr enough) same theirs = omega (arith, ap length same)

      one_of : p < count_of system
          → IsCarried (moves_of system x p) (past p) (next_turn system (after system x) p) (Moves move)
          → IsFrontOf (past p ++ move ∷ []) (moves_of system x p)
      one_of below (inl (same, theirs)) = absurd (rests (reaches.moved p below) same theirs)
      one_of below (inr (next, rest, joins, is)) =
          let same : next ≡ move = cc in
          record {
            rest = rest;
            joins = joins ∙ (ap (λ m. past p ++ m ∷ rest) same ∙ sym (append_assoc (past p) (move ∷ []) rest));
          }

  turn-front : (past : Past L M) (world : World L M) (run : IsRun system past world)
      (fronts : (a : ℕ) → IsFrontOf (past a) (moves_of system x a)) (p : ℕ) → length (past p) < many
      → (turn : Turn L M K) → next_turn system world p ≡ turn → (a : ℕ) → IsFrontOf (with_turn past p turn a) (moves_of system x a)
  turn-front past world run fronts p short (Moves move) e a = asked_for (p == a) refl
    where
      asked_for : (asked : Bool) → (p == a) ≡ asked → IsFrontOf (past a ++ move_in {K = K} asked (Moves move)) (moves_of system x a)
      asked_for true here =
          subst (λ b. IsFrontOf (past b ++ move ∷ []) (moves_of system x b)) (eqb-true p a here) (move-front past world run fronts p move short e)
      asked_for false other = subst (λ l. IsFrontOf l (moves_of system x a)) (sym (append-nil (past a))) (fronts a)
  turn-front past world run fronts p short Waiting e a =
      subst (λ (h : Past L M). IsFrontOf (h a) (moves_of system x a)) (with_turn-none {K = K} past p Waiting (λ move w. cc)) (fronts a)
  turn-front past world run fronts p short Over e a =
      subst (λ (h : Past L M). IsFrontOf (h a) (moves_of system x a)) (with_turn-none {K = K} past p Over (λ move w. cc)) (fronts a)
  turn-front past world run fronts p short (Stuck kind) e a =
      subst (λ (h : Past L M). IsFrontOf (h a) (moves_of system x a)) (with_turn-none past p (Stuck kind) (λ move w. cc)) (fronts a)

  order-front : (order : List ℕ) (past : Past L M) (world : World L M) (run : IsRun system past world)
      (fronts : (a : ℕ) → IsFrontOf (past a) (moves_of system x a)) → ((a : ℕ) → length (past a) + length order ≤ many)
      → (a : ℕ) → IsFrontOf (with_order system past world order a) (moves_of system x a)
  order-front [] past world run fronts short a = subst (λ l. IsFrontOf l (moves_of system x a)) (sym (append-nil (past a))) (fronts a)
  order-front (p ∷ order) past world run fronts short a =
      subst (λ (h : Past L M). IsFrontOf (h a) (moves_of system x a)) (with_order-cons system past world p order)
      (order-front order (with_turn past p (next_turn system world p)) (given_turn system world p) (IsRun-turn system past world run p)
      (turn-front past world run fronts p (let h = short p in omega arith) (next_turn system world p) refl)
      (λ b. let h = short b in
      omega (arith, length-append (past b) (move_in (p == b) (next_turn system world p)), length-move_in (p == b) (next_turn system world p)))
      a)

  pub moves-front : (w : List ℕ) → length w ≤ many → (a : ℕ) → IsFrontOf (moves_of system w a) (moves_of system x a)
  moves-front w short a =
      order-front w (λ b. []) (start_world system) (IsRun-order system [] (λ b. []) (start_world system) (IsRun-start system))
      (λ b. record { rest = moves_of system x b; joins = refl }) (λ b. omega arith) a

  pub Begins-dominated : (w : List ℕ) → length w ≤ many → Begins system w x
  Begins-dominated w short = record {
    moves = moves-front w short;
    shown = λ p. flat_map-front (λ m. m.shown) (moves-front w short p);
    sent = λ from to. flat_map-front (λ m. message_to to m.sent) (moves-front w short from);
  }

  pub never_stuck : (w : List ℕ) → length w ≤ many → IsStuck system (after system w) → ⊥
  never_stuck w short stuck =
      one_of (carried system (moves_of system w) (after system w) (IsRun-after system w) (moves_of system x) (after system x) (IsRun-after system x)
      (moves-front w short) stuck.process stuck.there (Stuck stuck.kind) stuck.stuck (λ w. cc))
    where
      one_of : IsCarried (moves_of system x stuck.process) (moves_of system w stuck.process)
          (next_turn system (after system x) stuck.process) (Stuck stuck.kind) → ⊥
      one_of (inl (same, theirs)) = reaches.not_stuck (record { process = stuck.process; there = stuck.there; kind = stuck.kind; stuck = theirs })
      one_of (inr (next, rest, joins, is)) = cc
