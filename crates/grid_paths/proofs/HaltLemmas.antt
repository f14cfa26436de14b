-- Where some stay away from an exchange up a tree, all others come to wait.
use Rattle.std.proofs.Common.{◌≡◌, ℕ, zero, suc, ◌-◌, ◌<◌, ◌≤◌, Bool, true, false, ◌==◌, nat_lt, List, [], ◌∷◌, ◌++◌, length, map, replicate, All, Option, Some, None, refl, sym, ◌∙◌, ap, ap₂, subst, arith, append_assoc, append-nil, ltb-true, ltb-false, ◌||◌}
use Rattle.std.proofs.lemmas.Bool.{ne_eqb}
use Rattle.std.proofs.lemmas.List.{length-map, length-replicate}
use Rattle.std.proofs.lemmas.List.Elements.{All-nil, All-cons, All-head, All-tail}
use Rattle.std.specs.Bool.{if◌then◌else◌}
use Rattle.std.specs.List.{concat}
use Rattle.grid_links.specs.Links.{IsWithin, has_room}
use Rattle.grid_links.specs.Machine.{Processes, Awaits}
use Rattle.grid_links.specs.Run.{System, count_of}
use Rattle.grid_paths.specs.Path.{Event, Quiet, Sent, Taken, IsPath, messages_to, messages_from, shown_in, NamesOthers}
use Rattle.grid_paths.specs.Scene.{Scene, WaitsIn}
use Rattle.grid_paths.specs.Tree.{times, Tree, parents, Climbs, Halting, Halted}
use Rattle.grid_paths.specs.Laws.{IsOnceEach, Round, Halts}
use Rattle.grid_paths.proofs.EventLemmas.{path_through, messages_to-append, messages_from-append, shown_in-append, named-append, sends_named, takes_named, sends_take_none, takes_send_none, sends_show_none, takes_show_none, sends_send, takes_take}
use Rattle.grid_paths.proofs.RoundLemmas.{leads_agreed, runs_in_turn}
use Rattle.grid_paths.proofs.TreeLemmas.{All-each, times_below, times_other, times_parents, clear_front, Fronts, AllClear, FirstBlocked, fronts, any_blocked, All-clear_front, times-clear_front, times-clear_front_blocked, blocked_of, blocked_by, away_blocked, clear_parent}

-- ---- events without a message
pub quiets_send_none : {M : Type 0} (q : ℕ) (bytes : List (List ℕ))
    → messages_to {M = M} q (map Quiet bytes) ≡ []
quiets_send_none q [] = refl
quiets_send_none q (shown ∷ bytes) = quiets_send_none q bytes

pub quiets_take_none : {M : Type 0} (q : ℕ) (bytes : List (List ℕ))
    → messages_from {M = M} q (map Quiet bytes) ≡ []
quiets_take_none q [] = refl
quiets_take_none q (shown ∷ bytes) = quiets_take_none q bytes

pub quiets_show : (M : Type 0) (bytes : List (List ℕ))
    → shown_in {M = M} (map Quiet bytes) ≡ concat bytes
quiets_show M [] = refl
quiets_show M (shown ∷ bytes) = ap (λ l. shown ++ l) (quiets_show M bytes)

pub quiets_named : (M : Type 0) (count p : ℕ) (bytes : List (List ℕ))
    → NamesOthers {M = M} count p (map Quiet bytes)
quiets_named M count p [] = tt
quiets_named M count p (shown ∷ bytes) = (tt, quiets_named M count p bytes)

-- ---- from the last to the first
pub backwards : (count : ℕ) → IsOnceEach count (λ k. count - 1 - k) (λ p. count - 1 - p)
backwards count = record {
  at_below = λ k below. omega arith;
  place_below = λ p below. omega arith;
  place_at = λ k below. omega arith;
  at_place = λ p below. omega arith;
}

-- ---- the way up
-- it takes the messages of some of its children, behind those that it has heard
takes_path : {L M K : Type 0} (processes : Processes L M K) (tree : Tree) (message : ℕ → M) (p : ℕ)
    (one : L) (climbs : Climbs processes tree message p one) (front now behind : List ℕ)
    → tree.children p ≡ front ++ (now ++ behind)
    → IsPath processes p (climbs.heard front) (map (λ c. Taken c (message c)) now)
    (climbs.heard (front ++ now))
takes_path processes tree message p one climbs front [] behind is =
    ap climbs.heard (sym (append-nil front))
takes_path processes tree message p one climbs front (c ∷ now) behind is = (
  climbs.heard (front ++ c ∷ []),
  (climbs.awaits_child front (now ++ behind) c is, climbs.takes front (now ++ behind) c is),
  subst (λ l. IsPath processes p (climbs.heard (front ++ c ∷ []))
      (map (λ k. Taken k (message k)) now) (climbs.heard l)) (append_assoc front (c ∷ []) now)
      (takes_path processes tree message p one climbs (front ++ c ∷ []) now behind
      (is ∙ sym (append_assoc front (c ∷ []) (now ++ behind)))),
)

all_of : {X : Type 0} (xs : List X) → xs ≡ xs ++ []
all_of xs = sym (append-nil xs)

replicate_less : {X : Type 0} (x : X) (m n : ℕ) → n ≤ m
    → replicate m x ≡ replicate n x ++ replicate (m - n) x
replicate_less x m zero less = ap (λ k. replicate k x) (let e : m ≡ m - 0 = omega arith in e)
replicate_less x zero (suc n) less = absurd (omega arith)
replicate_less x (suc m) (suc n) less =
    let same : m - n ≡ suc m - suc n = omega arith in
    ap (λ l. x ∷ l) (replicate_less x m n (omega arith)
    ∙ ap (λ k. replicate n x ++ replicate k x) same)

module _ {L M K : Type 0} (system : System L M K) (tree : Tree) (message : ℕ → M) (away : ℕ → Bool)
    (bytes : ℕ → List (List ℕ)) (one : Scene L M) (on : ℕ → L)
    (is : Halting system tree message away bytes one on) where
  abbrev count : ℕ
  count = count_of system

  abbrev stuck : ℕ → Bool
  stuck = blocked_of count tree away

  abbrev own : ℕ → List (List ℕ)
  own p = if away p then bytes p else []

  abbrev hears : ℕ → List ℕ
  hears p = if away p then [] else clear_front stuck (tree.children p)

  abbrev tells : ℕ → List ℕ
  tells p = if stuck p then [] else parents (tree.parent p)

  abbrev ups : ℕ → List (Event M)
  ups p = map (λ c. Taken c (message c)) (hears p) ++ map (λ q. Sent q (message p)) (tells p)

  abbrev events : ℕ → List (Event M)
  events p = map Quiet (own p) ++ ups p

  abbrev on_link : ℕ → ℕ → List M
  on_link p q = replicate (times q (tells p) - times p (hears q)) (message p)

  -- ---- whom it hears and tells
  away_tells : (p : ℕ) → p < count → away p ≡ true → tells p ≡ []
  away_tells p below e =
      ap (λ b. if b then [] else parents (tree.parent p))
      (away_blocked count tree is.is_tree away p below e)

  hears_above : (p : ℕ) → p < count → All (λ c. (p < c) × (c < count)) (hears p)
  hears_above p below = by (away p)
    where
      by : (b : Bool) → All (λ c. (p < c) × (c < count))
          (if b then [] else clear_front stuck (tree.children p))
      by true = All-nil (λ c. (p < c) × (c < count))
      by false =
          All-clear_front (λ c. (p < c) × (c < count)) stuck (tree.children p)
          (is.is_tree.children p below)

  tells_below : (p : ℕ) → p < count → All (λ q. q < p) (tells p)
  tells_below p below = by (stuck p) (tree.parent p) refl
    where
      by : (b : Bool) (parent : Option ℕ) → tree.parent p ≡ parent
          → All (λ q. q < p) (if b then [] else parents parent)
      by true parent e = All-nil (λ q. q < p)
      by false None e = All-nil (λ q. q < p)
      by false (Some q) e =
          All-cons (λ q. q < p) q [] (is.is_tree.parent p q below e) (All-nil (λ q. q < p))

  tells_few : (p q : ℕ) → times q (tells p) ≤ 1
  tells_few p q = by (stuck p)
    where
      by : (b : Bool) → times q (if b then [] else parents (tree.parent p)) ≤ 1
      by true = omega arith
      by false = times_parents q (tree.parent p)

  hears_children : (p q : ℕ) → times p (hears q) ≤ times p (tree.children q)
  hears_children p q = by (away q)
    where
      by : (b : Bool) → times p (if b then [] else clear_front stuck (tree.children q))
          ≤ times p (tree.children q)
      by true = omega arith
      by false = times-clear_front p stuck (tree.children q)

  stuck_unheard : (p q : ℕ) → stuck p ≡ true → times p (hears q) ≡ 0
  stuck_unheard p q e = by (away q)
    where
      by : (b : Bool) → times p (if b then [] else clear_front stuck (tree.children q)) ≡ 0
      by true = refl
      by false = times-clear_front_blocked p stuck (tree.children q) e

  -- whom a process hears has told it
  told_first : (p q : ℕ) → p < count → q < count → times p (hears q) ≤ times q (tells p)
  told_first p q here there = by (stuck p) refl
    where
      by : (b : Bool) → stuck p ≡ b
          → times p (hears q) ≤ times q (if b then [] else parents (tree.parent p))
      by true e = let none = stuck_unheard p q e in omega (arith, none)
      by false e =
          let few = hears_children p q in
          let same = is.is_tree.family q p there here in
          omega (arith, few, same)

  -- ---- what events send, take and show
  ups_send : (p q : ℕ) → messages_to q (ups p) ≡ replicate (times q (tells p)) (message p)
  ups_send p q =
      messages_to-append q (map (λ c. Taken c (message c)) (hears p))
      (map (λ r. Sent r (message p)) (tells p))
      ∙ ap₂ (λ a b. a ++ b) (takes_send_none q message (hears p))
      (sends_send q (λ r. message p) (tells p))

  events_send : (p q : ℕ) → messages_to q (events p) ≡ replicate (times q (tells p)) (message p)
  events_send p q =
      messages_to-append q (map Quiet (own p)) (ups p)
      ∙ ap₂ (λ a b. a ++ b) (quiets_send_none q (own p)) (ups_send p q)

  ups_take : (p q : ℕ) → messages_from p (ups q) ≡ replicate (times p (hears q)) (message p)
  ups_take p q =
      messages_from-append p (map (λ c. Taken c (message c)) (hears q))
      (map (λ r. Sent r (message q)) (tells q))
      ∙ (ap₂ (λ a b. a ++ b) (takes_take p message (hears q))
      (sends_take_none p (λ r. message q) (tells q))
      ∙ append-nil (replicate (times p (hears q)) (message p)))

  events_take : (p q : ℕ) → messages_from p (events q) ≡ replicate (times p (hears q)) (message p)
  events_take p q =
      messages_from-append p (map Quiet (own q)) (ups q)
      ∙ ap₂ (λ a b. a ++ b) (quiets_take_none p (own q)) (ups_take p q)

  events_show : (p : ℕ) → shown_in (events p) ≡ (if away p then concat (bytes p) else [])
  events_show p =
      shown_in-append (map Quiet (own p)) (ups p)
      ∙ (ap₂ (λ a b. a ++ b) (quiets_show M (own p))
      (shown_in-append (map (λ c. Taken c (message c)) (hears p))
      (map (λ q. Sent q (message p)) (tells p))
      ∙ ap₂ (λ a b. a ++ b) (takes_show_none message (hears p))
      (sends_show_none (λ q. message p) (tells p)))
      ∙ (append-nil (concat (own p)) ∙ by (away p)))
    where
      by : (b : Bool) → concat (if b then bytes p else []) ≡ (if b then concat (bytes p) else [])
      by true = refl
      by false = refl

  events_named : (p : ℕ) → p < count → NamesOthers count p (events p)
  events_named p below =
      named-append count p (map Quiet (own p)) (ups p) (quiets_named M count p (own p))
      (named-append count p (map (λ c. Taken c (message c)) (hears p))
      (map (λ q. Sent q (message p)) (tells p))
      (takes_named count p message (hears p)
      (All-each (λ c. (p < c) × (c < count)) (λ c. (c < count) × ((c == p) ≡ false)) (hears p)
      (λ c both. (both.1, ne_eqb c p (λ same. omega (arith, both.0, same)))) (hears_above p below)))
      (sends_named count p (λ q. message p) (tells p)
      (All-each (λ q. q < p) (λ q. (q < count) × ((q == p) ≡ false)) (tells p)
      (λ q less. (omega (arith, less, below), ne_eqb q p (λ same. omega (arith, less, same))))
      (tells_below p below))))

  -- ---- what is left on the links
  untold : (p q : ℕ) → times q (tells p) ≡ 0 → on_link p q ≡ []
  untold p q none =
      ap (λ n. replicate n (message p))
      (let e : times q (tells p) - times p (hears q) ≡ 0 = omega (arith, none) in e)

  stuck_untold : (p q : ℕ) → stuck p ≡ true → times q (tells p) ≡ 0
  stuck_untold p q e = ap (λ b. times q (if b then [] else parents (tree.parent p))) e

  -- nobody tells one that has a greater number
  up_untold : (p q : ℕ) → p < count → p < q → times q (tells p) ≡ 0
  up_untold p q below less = by (stuck p) (tree.parent p) refl
    where
      by : (b : Bool) (parent : Option ℕ) → tree.parent p ≡ parent
          → times q (if b then [] else parents parent) ≡ 0
      by true parent e = refl
      by false None e = refl
      by false (Some r) e =
          let lower : r < p = is.is_tree.parent p r below e in
          times_other q r (λ same. omega (arith, lower, less, same))

  -- ---- where each goes
  pub record Went (p : ℕ) : Type 0 where
    pub state : L
    pub path : p < count → IsPath system.processes p (one.locals p) (events p) state
    pub alone : p < count → away p ≡ true → state ≡ on p
    pub waits : p < count → away p ≡ false
        → (q : ℕ) × (q < count) × (system.processes.act p state ≡ Awaits q) × (on_link q p ≡ [])

  went_away : (p : ℕ) → p < count → away p ≡ true → Went p
  went_away p below e = record {
    state = on p;
    path = λ there.
        subst (λ l. IsPath system.processes p (one.locals p) l (on p))
        (sym (ap₂ (λ b l. map Quiet (if b then bytes p else [])
        ++ (map (λ c. Taken c (message c)) (if b then [] else clear_front stuck (tree.children p))
        ++ map (λ q. Sent q (message p)) l))
        e (away_tells p below e) ∙ append-nil (map Quiet (bytes p))))
        (is.alone p below e);
    alone = λ there a. refl;
    waits = λ there a. let both : true ≡ false = sym e ∙ a in cc;
  }

  -- the events of one that climbs
  climbing : (p : ℕ) → away p ≡ false → (told : List ℕ) → tells p ≡ told → events p
      ≡ map (λ c. Taken c (message c)) (clear_front stuck (tree.children p))
      ++ map (λ q. Sent q (message p)) told
  climbing p e told tells_is =
      ap₂ (λ b l. map Quiet (if b then bytes p else [])
      ++ (map (λ c. Taken c (message c)) (if b then [] else clear_front stuck (tree.children p))
      ++ map (λ q. Sent q (message p)) l)) e tells_is

  hear_path : (p : ℕ) → (climbs : Climbs system.processes tree message p (one.locals p))
      → (front behind : List ℕ) → tree.children p ≡ front ++ behind
      → IsPath system.processes p (one.locals p) (map (λ c. Taken c (message c)) front)
      (climbs.heard front)
  hear_path p climbs front behind children =
      subst (λ l. IsPath system.processes p l (map (λ c. Taken c (message c)) front)
      (climbs.heard front)) climbs.begins
      (takes_path system.processes tree message p (one.locals p) climbs [] front behind children)

  went_blocked : (p c : ℕ) (rest : List ℕ) → p < count → away p ≡ false → stuck p ≡ true
      → tree.children p ≡ clear_front stuck (tree.children p) ++ c ∷ rest → stuck c ≡ true → Went p
  went_blocked p c rest below e s children by =
      let climbs = is.climbs p below e in
      let front : List ℕ = clear_front stuck (tree.children p) in
      let none : tells p ≡ [] = ap (λ b. if b then [] else parents (tree.parent p)) s in
      record {
        state = climbs.heard front;
        path = λ there.
            subst (λ l. IsPath system.processes p (one.locals p) l (climbs.heard front))
            (sym (climbing p e [] none ∙ append-nil (map (λ c. Taken c (message c)) front)))
            (hear_path p climbs front (c ∷ rest) children);
        alone = λ there a. let both : true ≡ false = sym a ∙ e in cc;
        waits = λ there a. (
          c,
          child_below p c rest below children,
          climbs.awaits_child front rest c children,
          untold c p (stuck_untold c p by),
        );
      }
    where
      child_below : (p c : ℕ) (rest : List ℕ) → p < count
          → tree.children p ≡ clear_front stuck (tree.children p) ++ c ∷ rest → c < count
      child_below p c rest below children =
          (middle (clear_front stuck (tree.children p))
          (subst (All (λ k. (p < k) × (k < count))) children (is.is_tree.children p below))).1
        where
          middle : (front : List ℕ) → All (λ k. (p < k) × (k < count)) (front ++ c ∷ rest)
              → (p < c) × (c < count)
          middle [] all = All-head (λ k. (p < k) × (k < count)) c rest all
          middle (k ∷ front) all =
              middle front (All-tail (λ k. (p < k) × (k < count)) k (front ++ c ∷ rest) all)

  went_clear : (p q : ℕ) → p < count → away p ≡ false → stuck p ≡ false
      → clear_front stuck (tree.children p) ≡ tree.children p → tree.parent p ≡ Some q → Went p
  went_clear p q below e s all parent =
      let climbs = is.climbs p below e in
      let told : tells p ≡ q ∷ [] =
      ap₂ (λ b o. if b then [] else parents o) s parent in
      let lower : q < p = is.is_tree.parent p q below parent in
      record {
        state = climbs.told;
        path = λ there.
            subst (λ l. IsPath system.processes p (one.locals p) l climbs.told)
            (sym (climbing p e (q ∷ []) told
            ∙ ap (λ l. map (λ c. Taken c (message c)) l ++ Sent q (message p) ∷ []) all))
            (path_through system.processes p (one.locals p) (climbs.heard (tree.children p))
            climbs.told (map (λ c. Taken c (message c)) (tree.children p)) (Sent q (message p) ∷ [])
            (hear_path p climbs (tree.children p) [] (all_of (tree.children p)))
            (climbs.told, climbs.sends q parent, refl));
        alone = λ there a. let both : true ≡ false = sym a ∙ e in cc;
        waits = λ there a. (
          q,
          (let inside : q < count = omega (arith, lower, below) in inside),
          climbs.awaits_parent q parent,
          untold q p (up_untold q p (omega (arith, lower, below)) lower),
        );
      }

  climbed : (p : ℕ) → p < count → away p ≡ false → (b : Bool) → stuck p ≡ b
      → Fronts stuck (tree.children p) (clear_front stuck (tree.children p))
      (any_blocked stuck (tree.children p)) → Went p
  climbed p below e true s (AllClear none all) =
      let both : true ≡ false = sym s ∙ (by_children p below e ∙ none) in cc
    where
      by_children : (p : ℕ) → p < count → away p ≡ false
          → stuck p ≡ any_blocked stuck (tree.children p)
      by_children p below e =
          blocked_by count tree is.is_tree away p below
          ∙ ap (λ b. b || any_blocked stuck (tree.children p)) e
  climbed p below e true s (FirstBlocked any c rest children by) =
      went_blocked p c rest below e s children by
  climbed p below e false s (AllClear none all) =
      let (q, parent) = clear_parent count tree is.is_tree away is.some p is.some_below is.some_away
      below s in
      went_clear p q below e s all parent
  climbed p below e false s (FirstBlocked any c rest children by) =
      let both : false ≡ true = sym s ∙ (blocked_by count tree is.is_tree away p below
      ∙ (ap (λ b. b || any_blocked stuck (tree.children p)) e ∙ any)) in cc

  went : (p : ℕ) → Went p
  went p = by (nat_lt p count) refl
    where
      inside : p < count → (b : Bool) → away p ≡ b → Went p
      inside below true e = went_away p below e
      inside below false e = climbed p below e (stuck p) refl (fronts stuck (tree.children p))

      by : (b : Bool) → nat_lt p count ≡ b → Went p
      by true e = inside (ltb-true p count e) (away p) refl
      by false e = record {
        state = one.locals p;
        path = λ below. absurd (omega (arith, below, ltb-false p count e));
        alone = λ below. absurd (omega (arith, below, ltb-false p count e));
        waits = λ below. absurd (omega (arith, below, ltb-false p count e));
      }

  -- ---- the round
  abbrev behind : Scene L M
  behind = record { locals = λ p. (went p).state; links = on_link }

  round : Round system (λ p. count - 1 - p) events one behind
  round = record {
    path = λ p below. (went p).path below;
    named = events_named;
    balance = λ p q a b.
        ap₂ (λ l m. l ++ m) (is.quiet p q a b) (events_send p q)
        ∙ (replicate_less (message p) (times q (tells p)) (times p (hears q)) (told_first p q a b)
        ∙ sym (ap (λ l. l ++ on_link p q) (events_take p q)));
    early = λ p q a b sooner.
        let none : times p (hears q) ≡ 0 =
        times_below p q (hears q)
        (All-each (λ c. (q < c) × (c < count)) (λ c. q < c) (hears q) (λ c both. both.0)
        (hears_above q b)) (omega arith) in
        subst (λ n. n ≤ length (one.links p q))
        (sym (ap length (events_take p q ∙ ap (λ n. replicate n (message p)) none))) (omega arith);
    rooms = λ p q a b.
        subst (IsWithin system.capacity)
        (sym (ap₂ (λ l m. l ++ m) (is.quiet p q a b) (events_send p q)))
        (within_one system.capacity (times q (tells p)) (message p) (tells_few p q) is.room);
  }
    where
      within_one : (capacity : Option ℕ) (many : ℕ) (m : M) → many ≤ 1
          → has_room {M = M} capacity [] ≡ true → IsWithin capacity (replicate many m)
      within_one None many m few room = tt
      within_one (Some capacity) many m few room =
          let some : 0 < capacity = ltb-true 0 capacity room in
          omega (arith, length-replicate many m, few, some)

  pub halted : Halted system away bytes one on
  halted = record {
    other = behind;
    many = λ p. length (events p);
    leads =
        leads_agreed system one behind one behind _ _ _ _
        (record { local = λ p below. refl; link = λ p q a b. refl })
        (record { local = λ p below. refl; link = λ p q a b. refl })
        (λ p below. refl) (λ p below. events_show p)
        (runs_in_turn system (λ k. count - 1 - k) (λ p. count - 1 - p) events one behind
        (backwards count) round);
    alone = λ p below e. ((went p).alone below e, long p below e);
    waits = λ p below e. waits p ((went p).waits below e);
    silent = λ p q a b e.
        untold p q (ap (times q) (away_tells p a e));
    few = λ p q a b.
        let most = tells_few p q in
        let size = length-replicate (times q (tells p) - times p (hears q)) (message p) in
        omega (arith, most, size);
  }
    where
      long : (p : ℕ) → p < count → away p ≡ true → length (events p) ≡ length (bytes p)
      long p below e =
          ap₂ (λ b l. length (map Quiet (if b then bytes p else [])
          ++ (map (λ c. Taken c (message c)) (if b then [] else clear_front stuck (tree.children p))
          ++ map (λ q. Sent q (message p)) l))) e (away_tells p below e)
          ∙ (ap length (append-nil (map Quiet (bytes p))) ∙ length-map (bytes p) Quiet)

      waits : (p : ℕ)
          → (q : ℕ) × (q < count) × (system.processes.act p (went p).state ≡ Awaits q)
          × (on_link q p ≡ []) → WaitsIn system behind p
      waits p (q, below, awaits, empty) =
          record { from = q; from_below = below; awaits = awaits; empty = empty }

pub halts : {L M K : Type 0} (system : System L M K) → Halts system
halts system tree message away bytes one on is = halted system tree message away bytes one on is
