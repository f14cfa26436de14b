-- Processes that are at rest, or have all ended.
use Rattle.std.proofs.Common.{◌≡◌, ℕ, zero, suc, ◌+◌, ◌*◌, ◌/◌, ◌%◌, ◌<◌, ◌≤◌, List, [], ◌∷◌, length, drop, get_or, refl, sym, ◌∙◌, ap, ap₂, subst, inl, inr, arith, lt_of_mul-lt-mul_right}
use Rattle.std.proofs.Math.Path.{fun_ext}
use Rattle.std.proofs.Math.Nat.{div-add-mod', mod-lt}
use Rattle.std.proofs.lemmas.List.{ext_get_or}
use Rattle.std.specs.List.{slice_get}
use Rattle.grid_links.specs.Links.{link_of}
use Rattle.grid_links.specs.Machine.{Waiting, Over, Stuck}
use Rattle.grid_links.specs.Run.{System, World, count_of, after, moves_of, sent_by, IsOver, IsStuck, taken_from, Rests, IsIdle}
use Rattle.grid_links.specs.Laws.{Reaches, EndAlike, KeepsMessages}
use Rattle.grid_links.proofs.FrontLemmas.{front-both}
use Rattle.grid_links.proofs.LinkLemmas.{OnItsWay-link, OnItsWay-taken}
use Rattle.grid_links.proofs.HistoryLemmas.{Past, IsWorldOf, IsRun-after, length-moves_of}
use Rattle.grid_links.proofs.DominationLemmas.{moves-front}

-- ---- the moves made tell the world
slice_get-ext : {X : Type 0} (xs ys : List X) → ((i : ℕ) → slice_get xs i ≡ slice_get ys i) → xs ≡ ys
slice_get-ext [] [] h = refl
slice_get-ext [] (y ∷ ys) h = let e = h 0 in cc
slice_get-ext (x ∷ xs) [] h = let e = h 0 in cc
slice_get-ext (x ∷ xs) (y ∷ ys) h =
    let e = h 0 in
    let rest : xs ≡ ys = slice_get-ext xs ys (λ i. h (suc i)) in
    let first : x ≡ y = cc in
    ap₂ (λ a l. a ∷ l) first rest

link_of-world : {L M K : Type 0} (system : System L M K) (past : Past L M) (world : World L M) → IsWorldOf system past world
    → (from to : ℕ) → from < count_of system → to < count_of system
    → link_of (count_of system) world.links from to ≡ drop (taken_from from (past to)) (sent_by to (past from))
link_of-world system past world is from to below there =
    OnItsWay-link (sent_by to (past from)) (taken_from from (past to)) _ (is.ways from to below there)

pub keeps_messages : {L M K : Type 0} (system : System L M K) → KeepsMessages system
keeps_messages system = record {
  link = λ order from to below there.
      link_of-world system (moves_of system order) (after system order) (IsRun-after system order).world_of from to below there;
  taken = λ order from to below there. OnItsWay-taken ((IsRun-after system order).world_of.ways from to below there);
}

pub same_world : {L M K : Type 0} (system : System L M K) (past : Past L M) (one other : World L M)
    → IsWorldOf system past one → IsWorldOf system past other → one ≡ other
same_world {L = L} {M = M} system past one other is also =
    let make : List L → List (List M) → World L M = λ l k. record { locals = l; links = k } in
    ap₂ make (slice_get-ext one.locals other.locals (λ p. is.locals p ∙ sym (also.locals p)))
    (ext_get_or [] one.links other.links (is.many ∙ sym also.many) same_link)
  where
    same_link : (n : ℕ) → n < length one.links → get_or one.links n [] ≡ get_or other.links n []
    same_link n below =
        let count : ℕ = count_of system in
        let inside : n < count * count = omega (arith, is.many) in
        let some : 0 < count = positive count n inside in
        let from : ℕ = n / count in
        let to : ℕ = n % count in
        let there : to < count = mod-lt n some in
        let number : from * count + to ≡ n = div-add-mod' n count in
        let here : from < count = lt_of_mul-lt-mul_right count (omega arith) in
        subst (λ k. get_or one.links k [] ≡ get_or other.links k []) number
        (link_of-world system past one is from to here there ∙ sym (link_of-world system past other also from to here there))
      where
        positive : (count k : ℕ) → k < count * count → 0 < count
        positive zero k h = absurd (omega arith)
        positive (suc c) k h = omega arith

-- ---- at rest an order reaches any number of moves
resting-reaches : {L M K : Type 0} (system : System L M K) (order : List ℕ) (many : ℕ)
    → ((p : ℕ) → p < count_of system → Rests system (after system order) p) → Reaches system order many
resting-reaches system order many resting = record {
  moved = λ p below. inl (resting p below);
  not_stuck = λ stuck. not_both stuck (resting stuck.process stuck.there);
}
  where
    not_both : (stuck : IsStuck system (after system order)) → Rests system (after system order) stuck.process → ⊥
    not_both stuck (inl waiting) = let e : Waiting ≡ Stuck stuck.kind = sym waiting ∙ stuck.stuck in cc
    not_both stuck (inr over) = let e : Over ≡ Stuck stuck.kind = sym over ∙ stuck.stuck in cc

-- two orders that dominate one another
both-worlds : {L M K : Type 0} (system : System L M K) (x y : List ℕ) (many most : ℕ) → Reaches system x many → Reaches system y most
    → length y ≤ many → length x ≤ most → EndAlike system x y
both-worlds {L = L} {M = M} system x y many most reaches also less more =
    let moves : (p : ℕ) → moves_of system x p ≡ moves_of system y p = λ p.
    front-both (moves-front system y most also x more p) (moves-front system x many reaches y less p) in
    record {
      moves = moves;
      world = same_world system (moves_of system y) (after system x) (after system y)
          (subst (λ (h : Past L M). IsWorldOf system h (after system x)) (fun_ext moves) (IsRun-after system x).world_of)
          (IsRun-after system y).world_of;
    }

pub over-reaches : {L M K : Type 0} (system : System L M K) (order : List ℕ) (many : ℕ) → IsOver system (after system order) → Reaches system order many
over-reaches system order many over = resting-reaches system order many (λ p below. inr (over p below))

pub ends_alike : {L M K : Type 0} (system : System L M K) (x y : List ℕ) → IsOver system (after system x) → IsOver system (after system y)
    → EndAlike system x y
ends_alike system x y over also =
    both-worlds system x y (length y) (length x) (over-reaches system x (length y) over) (over-reaches system y (length x) also)
    (omega arith) (omega arith)

pub never_idle : {L M K : Type 0} (system : System L M K) (x w : List ℕ) (many : ℕ) → Reaches system x many → length w ≤ many
    → (IsIdle system (after system x) → (p : ℕ) × (length w < length (moves_of system x p)))
    → IsIdle system (after system w) → ⊥
never_idle system x w many reaches short busy idle =
    let alike = both-worlds system x w many (length x) reaches (resting-reaches system w (length x) idle.resting) short (omega arith) in
    let (p, more) = busy (subst (IsIdle system) (sym alike.world) idle) in
    omega (arith, ap length (alike.moves p), length-moves_of system w p)
