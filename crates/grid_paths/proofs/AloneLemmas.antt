-- One process goes along its path.
use Rattle.std.proofs.Common.{◌≡◌, ℕ, zero, suc, ◌+◌, ◌<◌, Bool, true, false, cond, ◌&&◌, ◌==◌, List, [], ◌∷◌, ◌++◌, length, drop, set, Option, Some, None, refl, sym, ◌∙◌, ap, subst, arith, append_assoc, append-nil, length-append, length-set, eqb-true, eq-eqb, lt-ltb}
use Rattle.std.proofs.lemmas.Bool.{eqb-false}
use Rattle.std.proofs.lemmas.Grind.{flat_map-append}
use Rattle.std.proofs.lemmas.List.{get_or-set_same}
use Rattle.std.proofs.lemmas.Option.{slice_get-get_or}
use Rattle.std.specs.Bool.{if◌then◌else◌}
use Rattle.std.specs.List.{slice_get}
use Rattle.grid_links.specs.Links.{link_of, has_room, IsWithin}
use Rattle.grid_links.specs.Machine.{Move, Moves, where_room, takes_from, awaits, over_links, turn_of}
use Rattle.grid_links.specs.Run.{System, World, count_of, heads_at, rooms_at, turn_or_over, next_turn, links_taken, after_turn, given_turn, move_in, moves_from, shown_by, message_where}
use Rattle.grid_links.proofs.LinkLemmas.{IsTo, sent_where, taken_where, length-links_taken, length-links_sent, link_of-links_sent, link_of-links_taken}
use Rattle.grid_paths.specs.Path.{Event, Quiet, Sent, Taken, IsStep, IsPath, messages_to, messages_from, shown_in, NamesOther}
use Rattle.grid_paths.specs.Scene.{Scene, HasScene, Agrees, IsReady}
use Rattle.grid_paths.specs.Laws.{alone_after, Finds, many_for, shown_for, RunsAlone}

-- ---- one event as a move
abbrev pub move_of : {L M : Type 0} → Event M → L → Move L M
move_of (Quiet shown) next = record { next = next; sent = None; taken = None; shown = shown }
move_of (Sent to message) next = record
    { next = next; sent = Some (to, message); taken = None; shown = [] }
move_of (Taken from message) next = record
    { next = next; sent = None; taken = Some from; shown = [] }

pub step_turn : {L M K : Type 0} (system : System L M K) (world : World L M) (scene : Scene L M)
    (p : ℕ) (event : Event M) (next : L)
    → HasScene (count_of system) world scene → p < count_of system
    → IsStep system.processes p (scene.locals p) event next
    → IsReady (count_of system) system.capacity p scene.links event → next_turn system world p
    ≡ Moves (move_of event next)
step_turn {L = L} {M = M} {K = K} system world scene p event next shows below step ready =
    ap (turn_or_over system world p) (shows.local p below) ∙ by event step ready
  where
    by : (e : Event M) → IsStep system.processes p (scene.locals p) e next
        → IsReady (count_of system) system.capacity p scene.links e
        → turn_of system.processes p (scene.locals p) (heads_at (count_of system) world.links p)
        (rooms_at system.capacity (count_of system) world.links p)
        ≡ Moves (move_of e next)
    by (Quiet shown) s r =
        ap (over_links (system.processes.fed p (scene.locals p))
        (heads_at (count_of system) world.links p)
        (rooms_at system.capacity (count_of system) world.links p)) s
    by (Sent to message) s r =
        ap (over_links (system.processes.fed p (scene.locals p))
        (heads_at (count_of system) world.links p)
        (rooms_at system.capacity (count_of system) world.links p)) s
        ∙ ap (λ room. where_room room (Moves (move_of (Sent to message) next)))
        (ap (λ b. b && has_room system.capacity (link_of (count_of system) world.links p to))
        (lt-ltb to (count_of system) r.0)
        ∙ (ap (has_room system.capacity) (shows.link p to below r.0) ∙ r.1))
    by (Taken from message) s r =
        ap (over_links (system.processes.fed p (scene.locals p))
        (heads_at (count_of system) world.links p)
        (rooms_at system.capacity (count_of system) world.links p)) s.0
        ∙ (ap (λ link. awaits (system.processes.fed p (scene.locals p)) from (slice_get link 0))
        (shows.link from p r.0 below ∙ r.2)
        ∙ ap (takes_from {L = L} {M = M} {K = K} from) s.1)

-- ---- what one event makes of a scene
-- how many messages of a link are gone, and which are more
abbrev gone : {M : Type 0} → ℕ → Event M → ℕ → ℕ → ℕ
gone p (Quiet shown) from to = 0
gone p (Sent q message) from to = 0
gone p (Taken q message) from to = taken_where (p == to) from (Some q)

abbrev more : {M : Type 0} → ℕ → Event M → ℕ → ℕ → List M
more p (Quiet shown) from to = []
more p (Sent q message) from to = sent_where (p == from) to (Some (q, message))
more p (Taken q message) from to = []

abbrev scene_after : {L M : Type 0} → ℕ → Event M → L → Scene L M → Scene L M
scene_after p event next scene = record {
  locals = λ q. if p == q then next else scene.locals q;
  links = λ from to. drop (gone p event from to) (scene.links from to) ++ more p event from to;
}

slice_get-set_same : {X : Type 0} (xs : List X) (i : ℕ) (x : X) → i < length xs
    → slice_get (set xs i x) i ≡ Some x
slice_get-set_same xs i x below =
    let inside : i < length (set xs i x) = subst (λ n. i < n) (sym (length-set xs i x)) below in
    slice_get-get_or (set xs i x) i x inside ∙ ap Some (get_or-set_same xs i x x below)

slice_get-set_other : {X : Type 0} (xs : List X) (i j : ℕ) (x : X) → (i ≡ j → ⊥)
    → slice_get (set xs i x) j ≡ slice_get xs j
slice_get-set_other [] i j x other = refl
slice_get-set_other (y ∷ xs) zero zero x other = absurd (other refl)
slice_get-set_other (y ∷ xs) zero (suc j) x other = refl
slice_get-set_other (y ∷ xs) (suc i) zero x other = refl
slice_get-set_other (y ∷ xs) (suc i) (suc j) x other = slice_get-set_other xs i j x
    (λ e. other (ap suc e))

sent_none : {M : Type 0} (asked : Bool) (to : ℕ) → sent_where {M = M} asked to None ≡ []
sent_none true to = refl
sent_none false to = refl

taken_none : (asked : Bool) (from : ℕ) → taken_where asked from None ≡ 0
taken_none true from = refl
taken_none false from = refl

links_of_event : {L M : Type 0} (p : ℕ) (event : Event M) (next : L) (from to : ℕ) (link : List M)
    → drop (taken_where (p == to) from (move_of event next).taken) link
    ++ sent_where (p == from) to (move_of event next).sent
    ≡ drop (gone p event from to) link ++ more p event from to
links_of_event p (Quiet shown) next from to link =
    ap (λ n. drop n link ++ sent_where (p == from) to None) (taken_none (p == to) from)
    ∙ ap (λ l. link ++ l) (sent_none (p == from) to)
links_of_event p (Sent q message) next from to link =
    ap (λ n. drop n link ++ sent_where (p == from) to (Some (q, message)))
    (taken_none (p == to) from)
links_of_event p (Taken q message) next from to link =
    ap (λ l. drop (taken_where (p == to) from (Some q)) link ++ l) (sent_none (p == from) to)

is_to : {L M : Type 0} (count p : ℕ) (event : Event M) (next : L) → NamesOther count p event
    → IsTo count (move_of event next).sent
is_to count p (Quiet shown) next names = tt
is_to count p (Sent q message) next names = names.0
is_to count p (Taken q message) next names = tt

next_of : {L M : Type 0} (event : Event M) (next : L) → (move_of event next).next ≡ next
next_of (Quiet shown) next = refl
next_of (Sent to message) next = refl
next_of (Taken from message) next = refl

shows_after : {L M : Type 0} (K : Type 0) (count p : ℕ) (event : Event M) (next : L)
    (world : World L M) (scene : Scene L M)
    → HasScene count world scene → p < count → NamesOther count p event
    → HasScene count (after_turn {K = K} count p (Moves (move_of event next)) world)
    (scene_after p event next scene)
shows_after {L = L} {M = M} K count p event next world scene shows below names = record {
  size = length-set world.locals p _ ∙ shows.size;
  many = length-links_sent count p sent (links_taken count p taken world.links)
      ∙ (length-links_taken count p taken world.links ∙ shows.many);
  local = λ q there. by q there (p == q) refl;
  link = λ from to here there.
      link_of-links_sent count (links_taken count p taken world.links) p sent from to
      (length-links_taken count p taken world.links ∙ shows.many) below
      (is_to count p event next names) there
      ∙ (ap (λ l. l ++ sent_where (p == from) to sent)
      (link_of-links_taken count world.links p taken from to shows.many below here there
      ∙ ap (drop (taken_where (p == to) from taken)) (shows.link from to here there))
      ∙ links_of_event p event next from to (scene.links from to));
}
  where
    sent : Option (ℕ × M)
    sent = (move_of event next).sent

    taken : Option ℕ
    taken = (move_of event next).taken

    by : (q : ℕ) → q < count → (same : Bool) → (p == q) ≡ same
        → slice_get (set world.locals p (move_of event next).next) q
        ≡ Some (if same then next else scene.locals q)
    by q there true e =
        subst (λ r. slice_get (set world.locals p (move_of event next).next) r ≡ Some next)
        (eqb-true p q e)
        (slice_get-set_same world.locals p _ (subst (λ n. p < n) (sym shows.size) below)
        ∙ ap Some (next_of event next))
    by q there false e = slice_get-set_other world.locals p q _ (eqb-false p q e)
        ∙ shows.local q there

-- ---- one event, where it finds what it needs
step_shows : {L M K : Type 0} (system : System L M K) (world : World L M) (scene : Scene L M)
    (p : ℕ) (event : Event M) (next : L)
    → HasScene (count_of system) world scene → p < count_of system
    → IsStep system.processes p (scene.locals p) event next
    → IsReady (count_of system) system.capacity p scene.links event
    → NamesOther (count_of system) p event
    → HasScene (count_of system) (given_turn system world p) (scene_after p event next scene)
step_shows {L = L} {M = M} {K = K} system world scene p event next shows below step ready names =
    subst (λ turn. HasScene (count_of system) (after_turn (count_of system) p turn world)
    (scene_after p event next scene))
    (sym (step_turn system world scene p event next shows below step ready))
    (shows_after K (count_of system) p event next world scene shows below names)

-- ---- a scene that agrees shows the same
pub shows_agreed : {L M : Type 0} (count : ℕ) (world : World L M) (one other : Scene L M)
    → Agrees count one other
    → HasScene count world one → HasScene count world other
shows_agreed count world one other agrees shows = record {
  size = shows.size;
  many = shows.many;
  local = λ p below. shows.local p below ∙ ap Some (agrees.local p below);
  link = λ from to here there. shows.link from to here there ∙ agrees.link from to here there;
}

-- ---- what an event leaves to find
message_same : {M : Type 0} (q : ℕ) (message : M) → message_where (q == q) message ≡ message ∷ []
message_same q message = ap (λ b. message_where b message) (eq-eqb q q refl)

more_self : {M : Type 0} (count p : ℕ) (event : Event M) (q : ℕ) → NamesOther count p event
    → more p event q p ≡ []
more_self count p (Quiet shown) q names = refl
more_self count p (Sent to message) q names = by (p == q)
  where
    by : (asked : Bool) → sent_where asked p (Some (to, message)) ≡ []
    by true = ap (λ b. message_where b message) names.1
    by false = refl
more_self count p (Taken from message) q names = refl

gone_self : {M : Type 0} (count p : ℕ) (event : Event M) (q : ℕ) → NamesOther count p event
    → gone p event p q ≡ 0
gone_self count p (Quiet shown) q names = refl
gone_self count p (Sent to message) q names = refl
gone_self count p (Taken from message) q names = by (p == q)
  where
    by : (asked : Bool) → taken_where asked p (Some from) ≡ 0
    by true = ap (λ b. cond b 1 0) names.1
    by false = refl

head_gone : {M : Type 0} (p : ℕ) (event : Event M) (events : List (Event M)) (q : ℕ) (left : List M)
    → drop (gone p event q p) (messages_from q (event ∷ events) ++ left) ≡ messages_from q events
    ++ left
head_gone p (Quiet shown) events q left = refl
head_gone p (Sent to message) events q left = refl
head_gone p (Taken from message) events q left =
    ap (λ b. drop (taken_where b q (Some from))
    ((message_where (from == q) message ++ messages_from q events) ++ left)) (eq-eqb p p refl)
    ∙ by (from == q)
  where
    by : (named : Bool) → drop (cond named 1 0)
        ((message_where named message ++ messages_from q events) ++ left) ≡ messages_from q events
        ++ left
    by true = refl
    by false = refl

more_sent : {M : Type 0} (p : ℕ) (event : Event M) (events : List (Event M)) (q : ℕ)
    → more p event p q ++ messages_to q events ≡ messages_to q (event ∷ events)
more_sent p (Quiet shown) events q = refl
more_sent p (Sent to message) events q = ap
    (λ b. sent_where b q (Some (to, message)) ++ messages_to q events) (eq-eqb p p refl)
more_sent p (Taken from message) events q = refl

-- links with others don't change
elsewhere : {M : Type 0} (p : ℕ) (event : Event M) (from to : ℕ) (link : List M) → (p == from)
    ≡ false → (p == to) ≡ false
    → drop (gone p event from to) link ++ more p event from to ≡ link
elsewhere p (Quiet shown) from to link here there = append-nil link
elsewhere p (Sent q message) from to link here there =
    ap (λ b. link ++ sent_where b to (Some (q, message))) here ∙ append-nil link
elsewhere p (Taken q message) from to link here there =
    append-nil (drop (taken_where (p == to) from (Some q)) link)
    ∙ ap (λ b. drop (taken_where b from (Some q)) link) there

here_links : {M : Type 0} (count p : ℕ) (event : Event M) (events : List (Event M)) (q : ℕ)
    (link : List M) → NamesOther count p event
    → (drop (gone p event p q) link ++ more p event p q) ++ messages_to q events ≡ link
    ++ messages_to q (event ∷ events)
here_links count p event events q link names =
    ap (λ n. (drop n link ++ more p event p q) ++ messages_to q events)
    (gone_self count p event q names)
    ∙ (append_assoc link (more p event p q) (messages_to q events)
    ∙ ap (λ l. link ++ l) (more_sent p event events q))

finds_next : {L M K : Type 0} (system : System L M K) (p : ℕ) (event : Event M)
    (events : List (Event M)) (left : ℕ → List M)
    (scene : Scene L M) (next : L) → Finds system p (event ∷ events) left scene
    → Finds system p events left (scene_after p event next scene)
finds_next system p event events left scene next finds = record {
  inside = finds.inside;
  named = finds.named.1;
  heads = λ q below.
      ap (λ m. drop (gone p event q p) (scene.links q p) ++ m)
      (more_self (count_of system) p event q finds.named.0)
      ∙ (append-nil (drop (gone p event q p) (scene.links q p))
      ∙ (ap (drop (gone p event q p)) (finds.heads q below) ∙ head_gone p event events q (left q)));
  rooms = λ q below.
      subst (IsWithin system.capacity)
      (sym (here_links (count_of system) p event events q (scene.links p q) finds.named.0))
      (finds.rooms q below);
}

room_for : {M : Type 0} (capacity : Option ℕ) (link : List M) (message : M) (rest : List M)
    → IsWithin capacity (link ++ (message ∷ [] ++ rest)) → has_room capacity link ≡ true
room_for None link message rest within = refl
room_for (Some capacity) link message rest within =
    lt-ltb (length link) capacity (omega (arith, within, length-append link (message ∷ [] ++ rest)))

is_ready : {L M K : Type 0} (system : System L M K) (p : ℕ) (event : Event M)
    (events : List (Event M)) (left : ℕ → List M)
    (scene : Scene L M) → Finds system p (event ∷ events) left scene
    → IsReady (count_of system) system.capacity p scene.links event
is_ready system p (Quiet shown) events left scene finds = tt
is_ready system p (Sent to message) events left scene finds = (
  finds.named.0.0,
  room_for system.capacity (scene.links p to) message (messages_to to events)
      (subst (λ m. IsWithin system.capacity (scene.links p to ++ (m ++ messages_to to events)))
      (message_same to message)
      (finds.rooms to finds.named.0.0)),
)
is_ready system p (Taken from message) events left scene finds = (
  finds.named.0.0,
  messages_from from events ++ left from,
  finds.heads from finds.named.0.0
      ∙ ap (λ m. (m ++ messages_from from events) ++ left from) (message_same from message),
)

agrees_next : {L M K : Type 0} (system : System L M K) (p : ℕ) (event : Event M)
    (events : List (Event M)) (left : ℕ → List M)
    (scene : Scene L M) (next local : L) → Finds system p (event ∷ events) left scene
    → Agrees (count_of system) (alone_after p local events left (scene_after p event next scene))
    (alone_after p local (event ∷ events) left scene)
agrees_next system p event events left scene next local finds = record {
  local = λ q below. by_local q (p == q);
  link = λ from to here there. by_link from to (p == from) (p == to) refl refl;
}
  where
    by_local : (q : ℕ) (same : Bool)
        → (if same then local else (if same then next else scene.locals q))
        ≡ (if same then local else scene.locals q)
    by_local q true = refl
    by_local q false = refl

    by_link : (from to : ℕ) (here there : Bool) → (p == from) ≡ here → (p == to) ≡ there
        → (if here then (drop (gone p event from to) (scene.links from to) ++ more p event from to)
        ++ messages_to to events else
        (if there then left from else drop (gone p event from to) (scene.links from to)
        ++ more p event from to))
        ≡ (if here then scene.links from to
        ++ messages_to to (event ∷ events) else (if there then left from else scene.links from to))
    by_link from to true there h t =
        subst (λ a. (drop (gone p event a to) (scene.links a to) ++ more p event a to)
        ++ messages_to to events
        ≡ scene.links a to ++ messages_to to (event ∷ events)) (eqb-true p from h)
        (here_links (count_of system) p event events to (scene.links p to) finds.named.0)
    by_link from to false true h t = refl
    by_link from to false false h t = elsewhere p event from to (scene.links from to) h t

-- none are left to find
agrees_end : {L M K : Type 0} (system : System L M K) (p : ℕ) (left : ℕ → List M)
    (scene : Scene L M) (local : L)
    → scene.locals p ≡ local → Finds system p [] left scene
    → Agrees (count_of system) scene (alone_after p local [] left scene)
agrees_end system p left scene local is finds = record {
  local = λ q below. by_local q (p == q) refl;
  link = λ from to here there. by_link from to here (p == from) (p == to) refl refl;
}
  where
    by_local : (q : ℕ) (same : Bool) → (p == q) ≡ same → scene.locals q
        ≡ (if same then local else scene.locals q)
    by_local q true e = subst (λ r. scene.locals r ≡ local) (eqb-true p q e) is
    by_local q false e = refl

    by_link : (from to : ℕ) → from < count_of system → (here there : Bool) → (p == from) ≡ here
        → (p == to) ≡ there
        → scene.links from to
        ≡ (if here then scene.links from to
        ++ [] else (if there then left from else scene.links from to))
    by_link from to inside true there h t = sym (append-nil (scene.links from to))
    by_link from to inside false true h t = subst (λ b. scene.links from b ≡ left from)
        (eqb-true p to t) (finds.heads from inside)
    by_link from to inside false false h t = refl

-- ---- what is counted and shown
counted : {L M : Type 0} (K : Type 0) (p q : ℕ) (event : Event M) (next : L) (same : Bool) (n : ℕ)
    → length (move_in {K = K} same (Moves (move_of event next))) + (if same then n else 0)
    ≡ (if same then suc n else 0)
counted K p q event next true n = omega arith
counted K p q event next false n = refl

shown_first : {L M : Type 0} (K : Type 0) (event : Event M) (events : List (Event M)) (next : L)
    (same : Bool)
    → shown_by (move_in {K = K} same (Moves (move_of event next)))
    ++ (if same then shown_in events else [])
    ≡ (if same then shown_in (event ∷ events) else [])
shown_first K (Quiet shown) events next true = ap (λ s. s ++ shown_in events) (append-nil shown)
shown_first K (Sent to message) events next true = refl
shown_first K (Taken from message) events next true = refl
shown_first K event events next false = refl

pub if_same : {X : Type 0} (b : Bool) (x : X) → (if b then x else x) ≡ x
if_same true x = refl
if_same false x = refl

-- ---- the events one after another
pub runs_alone : {L M K : Type 0} (system : System L M K) → RunsAlone system
runs_alone system p [] left scene local path finds world shows = record {
  order = [];
  only_moves = tt;
  arrives = shows_agreed (count_of system) world scene _
      (agrees_end system p left scene local path finds) shows;
  moved = λ q below. sym (if_same (p == q) 0);
  shows = λ q below. sym (if_same (p == q) []);
}
runs_alone {L = L} {M = M} {K = K} system p (event ∷ events) left scene local (next, step, path)
    finds world shows =
    let turn : next_turn system world p ≡ Moves (move_of event next) =
    step_turn system world scene p event next shows finds.inside step
    (is_ready system p event events left scene finds) in
    let after : Scene L M = scene_after p event next scene in
    let there : after.locals p
    ≡ next = ap (λ b. if b then next else scene.locals p) (eq-eqb p p refl) in
    let rest = runs_alone system p events left after local
    (subst (λ l. IsPath system.processes p l events local) (sym there) path)
    (finds_next system p event events left scene next finds) (given_turn system world p)
    (step_shows system world scene p event next shows finds.inside step
    (is_ready system p event events left scene finds) finds.named.0) in
    record {
      order = p ∷ rest.order;
      only_moves = (move_of event next, turn, rest.only_moves);
      arrives = shows_agreed (count_of system) _ _ _
          (agrees_next system p event events left scene next local finds) rest.arrives;
      moved = λ q below.
          length-append (move_in (p == q) (next_turn system world p))
          (moves_from system (given_turn system world p) rest.order q)
          ∙ (ap (λ n. length (move_in (p == q) (next_turn system world p)) + n) (rest.moved q below)
          ∙ (ap (λ t. length (move_in (p == q) t) + many_for p (length events) q) turn
          ∙ counted K p q event next (p == q) (length events)));
      shows = λ q below.
          flat_map-append (λ m. m.shown) (move_in (p == q) (next_turn system world p))
          (moves_from system (given_turn system world p) rest.order q)
          ∙ (ap (λ s. shown_by (move_in (p == q) (next_turn system world p)) ++ s)
          (rest.shows q below)
          ∙ (ap (λ t. shown_by (move_in (p == q) t) ++ shown_for p (shown_in events) q) turn
          ∙ shown_first K event events next (p == q)));
    }
