-- A grid of code, and one of its counted code, turn by turn.
use Rattle.std.proofs.Common.{◌≡◌, ◌⊎◌, inl, inr, refl, sym, ◌∙◌, ap, ap₂, subst, ℕ, zero, suc, ◌+◌}
use Rattle.std.proofs.Common.{◌*◌, ◌≤◌, Bool, true, false, ◌&&◌, List, [], ◌∷◌, ◌++◌, length}
use Rattle.std.proofs.Common.{map, arith}
use Rattle.std.proofs.Common.{pos, drop, replicate, fold, sum_by}
use Rattle.std.specs.Prelude.{Option, Some, None, slice_get, slice_set, slice_index_or, All, nat_lt}
use Rattle.std.specs.Prelude.{IsSome}
use Rattle.std.specs.Option.{option_map}
use Rattle.std.proofs.lemmas.List.{drop-map, length-map}
use Rattle.std.proofs.lemmas.Option.{slice_get-map}
use Rattle.std.proofs.lemmas.List.Elements.{All-nil, All-cons, All-head, All-tail}
use Rattle.grid_links.specs.declared.messages.Message.{Message}
use Rattle.grid_links.specs.Links.{has_room, link_number, link_of}
use Rattle.grid_links.specs.Machine.{Heads, Moves, Over}
use Rattle.grid_links.specs.Machine.{Rooms, Stuck}
use Rattle.grid_links.specs.Machine.{Waiting, awaits, goes, over_links, takes_from, where_room}
use Rattle.grid_links.specs.Run.{after_turn, count_of, heads_at, links_sent, links_taken}
use Rattle.grid_links.specs.Run.{rooms_at, turn_or_over}
use Rattle.node_form.specs.declared.members.Member.{Member}
use Rattle.node_form.specs.declared.tables.Tables.{Tables}
use Rattle.node_form.specs.Fits.{Fits}
use Rattle.node_form.proofs.GrowthLemmas.{Fits-instr-row}
use Rattle.grid_meaning.specs.Action.{Action, Feeding, StuckKind}
use Rattle.grid_meaning.specs.Grid.{Grid, IsIdle, IsStuck, after, after_from}
use Rattle.grid_meaning.specs.Grid.{counting, given_turn, message_of}
use Rattle.grid_meaning.specs.Grid.{next_turn, printed_by, start_grid}
use Rattle.grid_meaning.specs.Grid.{system_over}
use Rattle.grid_meaning.specs.Local.{Local, processor_numbers, start_local}
use Rattle.grid_meaning.specs.Local.{start_locals}
use Rattle.grid_meaning.specs.Turn.{Turn, act, fed}
use Rattle.counted_code.specs.Counted.{counted}
use Rattle.counted_code.specs.Alike.{AreAlike, AreLocals, AreTurns, BothLocals, BothMove}
use Rattle.counted_code.specs.Alike.{BothOver, BothStuck, BothWait}
use Rattle.counted_code.specs.Alike.{IsAlike, NoLocals, counted_local, counted_message}
use Rattle.counted_code.specs.Alike.{counted_sent, is_of_vote}
use Rattle.counted_code.specs.Alike.{votes_at}
use Rattle.counted_code.proofs.ActLemmas.{act_alike, fed_both}
use Rattle.counted_code.proofs.TurnLemmas.{ActsAlike, BothAwait, BothEnded, BothGo, BothRefuse}
use Rattle.counted_code.proofs.TurnLemmas.{BothStop, BothTake, FedAlike}
use Rattle.counted_code.proofs.TurnLemmas.{kept_none, words_long}

-- ---- lists
map_set : {X Y : Type 0} (f : X → Y) (xs : List X) (k : ℕ) (x : X)
    → slice_set (map f xs) k (f x) ≡ map f (slice_set xs k x)
map_set f [] k x = refl
map_set f (y ∷ xs) zero x = refl
map_set f (y ∷ xs) (suc k) x = ap (λ l. f y ∷ l) (map_set f xs k x)

map_index : {X Y : Type 0} (f : X → Y) (xs : List X) (k : ℕ) (x : X)
    → slice_index_or (map f xs) k (f x) ≡ f (slice_index_or xs k x)
map_index f [] k x = refl
map_index f (y ∷ xs) zero x = refl
map_index f (y ∷ xs) (suc k) x = map_index f xs k x

map_more : {X Y : Type 0} (f : X → Y) (xs : List X) (x : X) → map f xs ++ f x ∷ []
    ≡ map f (xs ++ x ∷ [])
map_more f [] x = refl
map_more f (y ∷ xs) x = ap (λ l. f y ∷ l) (map_more f xs x)

map_none : {X Y : Type 0} (f : X → Y) (k : ℕ) (x : X) → map f (replicate k x) ≡ replicate k (f x)
map_none f zero x = refl
map_none f (suc k) x = ap (λ l. f x ∷ l) (map_none f k x)

module _ (n : ℕ) (code : Tables) (links : Option ℕ) where
  abbrev real : Tables
  real = counted n code

  abbrev made : Message → Message
  made = counted_message code n

  abbrev far : List (List Message) → List (List Message)
  far l = map (map made) l

  abbrev count : ℕ
  count = count_of (system_over code links)

  pub same_count : count_of (system_over real links) ≡ count
  same_count =
      length-map (processor_numbers code) (start_local real)
      ∙ sym (length-map (processor_numbers code) (start_local code))

  -- ---- links
  link_far : (l : List (List Message)) (from to : ℕ)
      → link_of count (far l) from to ≡ map made (link_of count l from to)
  link_far l from to = map_index (map made) l (link_number count from to) []

  head_far : (l : List (List Message)) (p from : ℕ)
      → heads_at count (far l) p from ≡ option_map made (heads_at count l p from)
  head_far l p from =
      ap (λ link. slice_get link 0) (link_far l from p)
      ∙ slice_get-map made (link_of count l from p) 0

  room_far : (l : List (List Message)) (p to : ℕ)
      → rooms_at links count (far l) p to ≡ rooms_at links count l p to
  room_far l p to = ap (λ b. nat_lt to count && b)
      (ap (has_room links) (link_far l p to) ∙ by links)
    where
      by : (capacity : Option ℕ)
          → has_room capacity (map made (link_of count l p to))
          ≡ has_room capacity (link_of count l p to)
      by None = refl
      by (Some capacity) = ap (λ k. nat_lt k capacity) (length-map (link_of count l p to) made)

  taken_far : (l : List (List Message)) (p : ℕ) (from : Option ℕ)
      → links_taken count p from (far l) ≡ far (links_taken count p from l)
  taken_far l p None = refl
  taken_far l p (Some from) =
      ap (slice_set (far l) (link_number count from p))
      (ap (drop 1) (link_far l from p) ∙ drop-map made 1 (link_of count l from p))
      ∙ map_set (map made) l (link_number count from p) (drop 1 (link_of count l from p))

  sent_far : (l : List (List Message)) (p : ℕ) (sent : Option (ℕ × Message))
      → links_sent count p (counted_sent code n sent) (far l) ≡ far (links_sent count p sent l)
  sent_far l p None = refl
  sent_far l p (Some sent) =
      ap (slice_set (far l) (link_number count p sent.0))
      (ap (λ link. link ++ made sent.1 ∷ []) (link_far l p sent.0)
      ∙ map_more made (link_of count l p sent.0) sent.1)
      ∙ map_set (map made) l (link_number count p sent.0) (link_of count l p sent.0 ++ sent.1 ∷ [])

  -- ---- a turn
  module _ (p most : ℕ) (l : List (List Message)) where
    abbrev heads : Heads Message
    heads = heads_at count l p

    abbrev rooms : Rooms
    rooms = rooms_at links count l p

    abbrev there_heads : Heads Message
    there_heads = heads_at count (far l) p

    abbrev there_rooms : Rooms
    there_rooms = rooms_at links count (far l) p

    room_alike : (b : Bool) (one other : Turn) → AreTurns code n most one other
        → AreTurns code n most (where_room b one) (where_room b other)
    room_alike true one other alike = alike
    room_alike false one other alike = BothWait

    goes_alike : (next other : Local) (sent : Option (ℕ × Message)) (shown : List ℕ)
        → IsAlike code n most next other
        → AreTurns code n most (goes next sent shown rooms)
        (goes other (counted_sent code n sent) shown there_rooms)
    goes_alike next other None shown alike =
        BothMove (record { next = alike; sent = refl; taken = refl; shown = refl })
    goes_alike next other (Some sent) shown alike =
        subst (λ b. AreTurns code n most (goes next (Some sent) shown rooms)
        (where_room b (Moves (record {
          next = other;
          sent = counted_sent code n (Some sent);
          taken =
              None;
          shown = shown;
        }))))
        (sym (room_far l p sent.0))
        (room_alike (rooms sent.0) _ _
        (BothMove (record { next = alike; sent = refl; taken = refl; shown = refl })))

    fed_turns : (from : ℕ) (one other : Feeding) → FedAlike code n most one other
        → AreTurns code n most (takes_from from one) (takes_from from other)
    fed_turns from _ _ (BothTake alike) =
        BothMove (record { next = alike; sent = refl; taken = refl; shown = refl })
    fed_turns from _ _ (BothRefuse kind) = BothStuck kind

    awaits_alike : (from : ℕ) (local other : Local) (o : Option Message)
        → ((message : Message) → FedAlike code n most (fed code p local message)
        (fed real p other (made message)))
        → AreTurns code n most (awaits (fed code p local) from o)
        (awaits (fed real p other) from (option_map made o))
    awaits_alike from local other None feds = BothWait
    awaits_alike from local other (Some message) feds = fed_turns from _ _ (feds message)

    over_alike : (local other : Local) (one two : Action)
        → ((message : Message) → FedAlike code n most (fed code p local message)
        (fed real p other (made message)))
        → ActsAlike code n most one two
        → AreTurns code n most (over_links (fed code p local) heads rooms one)
        (over_links (fed real p other) there_heads there_rooms two)
    over_alike local other _ _ feds
        (BothGo {next = next} {other = behind} {sent = sent} {sent' = sent'} shown alike same) =
        subst (λ s. AreTurns code n most (goes next sent shown rooms)
        (goes behind s shown there_rooms)) (sym same)
        (goes_alike next behind sent shown alike)
    over_alike local other _ _ feds (BothStop kind) = BothStuck kind
    over_alike local other _ _ feds (BothAwait from) =
        subst (λ o. AreTurns code n most (awaits (fed code p local) from (heads from))
        (awaits (fed real p other) from o))
        (sym (head_far l p from)) (awaits_alike from local other (heads from) feds)
    over_alike local other _ _ feds BothEnded = BothOver

  -- ---- how much is counted in a turn
  abbrev pub size : ℕ
  size = sum_by length code.groups

  abbrev total : ℕ → List (List Member) → ℕ
  total s groups = fold (λ a members. a + length members) s groups

  total_from : (s : ℕ) (groups : List (List Member)) → s ≤ total s groups
  total_from s [] = omega arith
  total_from s (one ∷ groups) =
      let more = total_from (s + length one) groups in
      by (length one) (total (s + length one) groups) more
    where
      by : (a b : ℕ) → s + a ≤ b → s ≤ b
      by a b less = omega (arith, less)

  group_from : (s : ℕ) (groups : List (List Member)) (k : ℕ) (members : List Member)
      → slice_get groups k ≡ Some members → length members ≤ total s groups
  group_from s [] k members e = cc
  group_from s (one ∷ groups) zero members e =
      let same : one ≡ members = cc in
      subst (λ members. length members ≤ total s (one ∷ groups)) same
      (by (length one) (total (s + length one) groups) (total_from (s + length one) groups))
    where
      by : (a b : ℕ) → s + a ≤ b → a ≤ b
      by a b less = omega (arith, less)
  group_from s (one ∷ groups) (suc k) members e = group_from (s + length one) groups k members e

  pub group_few : (k : ℕ) (members : List Member) → slice_get code.groups k ≡ Some members
      → length members ≤ size
  group_few k members e = group_from 0 code.groups k members e

  abbrev by_links : ℕ → List (List Message) → ℕ → Option Local → Turn
  by_links p l k None = Over
  by_links p l k (Some other) =
      over_links (fed real p other) (heads_at k l p) (rooms_at links k l p) (act real p other)

  module _ (fits : Fits code) where
    -- over so many links
    abbrev by_count : ℕ → List (List Message) → ℕ → Option Local → Turn
    by_count p l k other = by_links p (far l) k other

    local_turns : (p most : ℕ) (l : List (List Message)) (one other : Option Local)
        → most + size ≤ n
        → AreLocals code n most one other
        → (k : ℕ) → count ≡ k
        → AreTurns code n (most + size)
        (turn_or_over (system_over code links) (record { locals = []; links = l }) p one)
        (by_count p l k other)
    local_turns p most l _ _ room NoLocals k e = BothOver
    local_turns p most l _ _ room (BothLocals {local = local} {other = other} is) k e =
        subst (λ k. AreTurns code n (most + size)
        (over_links (fed code p local) (heads_at count l p) (rooms_at links count l p)
        (act code p local))
        (over_links (fed real p other) (heads_at k (far l) p) (rooms_at links k (far l) p)
        (act real p other))) e
        (subst (λ other. AreTurns code n (most + size)
        (over_links (fed code p local) (heads_at count l p) (rooms_at links count l p)
        (act code p local))
        (over_links (fed real p other) (heads_at count (far l) p) (rooms_at links count (far l) p)
        (act real p other)))
        (sym is.same)
        (over_alike p (most + size) l local (counted_local code n is.count local) (act code p local)
        (act real p (counted_local code n is.count local))
        (λ message. fed_both n code p (most + size) is.count (up is.count is.few) local is.long
        message)
        (act_alike n code p (most + size) is.count (up is.count is.few) local is.long
        (λ k members e. (
          grow is.count (length members) is.few (group_few k members e) room,
          keep is.count (length members) is.few (group_few k members e),
        ))
        (λ row e. Fits-instr-row code local.at row fits e))))
      where
        up : (a : ℕ) → a ≤ most → a ≤ most + size
        up a less = omega (arith, less)

        keep : (a b : ℕ) → a ≤ most → b ≤ size → a + b ≤ most + size
        keep a b less more = omega (arith, less, more)

        grow : (a b : ℕ) → a ≤ most → b ≤ size → most + size ≤ n → a + b ≤ n
        grow a b less more room = omega (arith, less, more, room)

    -- ---- the next turn
    pub next_alike : (p most : ℕ) (grid other : Grid) → most + size ≤ n
        → AreAlike code n most grid other
        → AreTurns code n (most + size) (next_turn code links grid p) (next_turn real links other p)
    next_alike p most grid other room alike =
        subst (λ l. AreTurns code n (most + size) (next_turn code links grid p)
        (by_links p l (count_of (system_over real links)) (slice_get other.world.locals p)))
        (sym alike.links)
        (local_turns p most grid.world.links (slice_get grid.world.locals p)
        (slice_get other.world.locals p) room
        (alike.locals p) (count_of (system_over real links)) (sym same_count))

    -- ---- the grid behind it
    weaker : (few most : ℕ) (one other : Option Local) → few ≤ most → AreLocals code n few one other
        → AreLocals code n most one other
    weaker few most _ _ less NoLocals = NoLocals
    weaker few most _ _ less (BothLocals is) = BothLocals (record {
      count = is.count;
      few = omega (arith, less, is.few);
      long = is.long;
      same = is.same;
    })

    set_locals : (most : ℕ) (one other : Local) → IsAlike code n most one other
        → (xs ys : List Local) (p : ℕ)
        → ((q : ℕ) → AreLocals code n most (slice_get xs q) (slice_get ys q))
        → (q : ℕ) → AreLocals code n most (slice_get (slice_set xs p one) q)
        (slice_get (slice_set ys p other) q)
    set_locals most one other is [] [] p all q = all q
    set_locals most one other is [] (y ∷ ys) p all q = elim (all 0) [ ]
    set_locals most one other is (x ∷ xs) [] p all q = elim (all 0) [ ]
    set_locals most one other is (x ∷ xs) (y ∷ ys) zero all zero = BothLocals is
    set_locals most one other is (x ∷ xs) (y ∷ ys) zero all (suc q) = all (suc q)
    set_locals most one other is (x ∷ xs) (y ∷ ys) (suc p) all zero = all zero
    set_locals most one other is (x ∷ xs) (y ∷ ys) (suc p) all (suc q) =
        set_locals most one other is xs ys p (λ q. all (suc q)) q

    message_count : (sent : Option (ℕ × Message))
        → length (message_of (counted_sent code n sent)) ≡ length (message_of sent)
    message_count None = refl
    message_count (Some sent) = refl

    word_count : (sent : Option (ℕ × Message))
        → sum_by (λ message. length message.words) (message_of (counted_sent code n sent))
        ≡ sum_by (λ message. length message.words) (message_of sent)
    word_count None = refl
    word_count (Some sent) =
        ap (λ k. 0 + k) (words_long (is_of_vote code sent.1.tag) n sent.1.words)

    counted_alike : (p few most : ℕ) (grid other : Grid) (one two : Turn) → few ≤ most
        → AreAlike code n few grid other → AreTurns code n most one two
        → AreAlike code n most (counting p one grid (after_turn count p one grid.world))
        (counting p two other (after_turn count p two other.world))
    counted_alike p few most grid other _ _ less alike BothWait = record {
      locals = λ q. weaker few most _ _ less (alike.locals q);
      links = alike.links;
      printed = ap (λ b. b ++ printed_by p []) alike.printed;
      turns = ap (λ k. k + 1) alike.turns;
      sends = ap (λ k. k + 0) alike.sends;
      words = ap (λ k. k + 0) alike.words;
    }
    counted_alike p few most grid other _ _ less alike BothOver = record {
      locals = λ q. weaker few most _ _ less (alike.locals q);
      links = alike.links;
      printed = ap (λ b. b ++ printed_by p []) alike.printed;
      turns = ap (λ k. k + 1) alike.turns;
      sends = ap (λ k. k + 0) alike.sends;
      words = ap (λ k. k + 0) alike.words;
    }
    counted_alike p few most grid other _ _ less alike (BothStuck kind) = record {
      locals = λ q. weaker few most _ _ less (alike.locals q);
      links = alike.links;
      printed = ap (λ b. b ++ printed_by p []) alike.printed;
      turns = ap (λ k. k + 1) alike.turns;
      sends = ap (λ k. k + 0) alike.sends;
      words = ap (λ k. k + 0) alike.words;
    }
    counted_alike p few most grid other _ _ less alike
        (BothMove {move = move} {other = there} moves) = record {
          locals =
              set_locals most move.next there.next moves.next grid.world.locals
              other.world.locals p (λ q. weaker few most _ _ less (alike.locals q));
          links =
              ap₂ (λ sent l. links_sent count p sent l) moves.sent
              (ap₂ (λ from l. links_taken count p from l) moves.taken alike.links
              ∙ taken_far grid.world.links p move.taken)
              ∙ sent_far (links_taken count p move.taken grid.world.links) p move.sent;
          printed = ap₂ (λ a b. a ++ printed_by p b) alike.printed moves.shown;
          turns = ap (λ k. k + 1) alike.turns;
          sends = ap₂ (λ a b. a + b) alike.sends
              (ap (λ sent. length (message_of sent)) moves.sent ∙ message_count move.sent);
          words = ap₂ (λ a b. a + b) alike.words
              (ap (λ sent. sum_by (λ message. length message.words) (message_of sent)) moves.sent
              ∙ word_count move.sent);
        }

    pub given_alike : (p most : ℕ) (grid other : Grid) → most + size ≤ n
        → AreAlike code n most grid other
        → AreAlike code n (most + size) (given_turn code links grid p)
        (given_turn real links other p)
    given_alike p most grid other room alike =
        subst (λ k. AreAlike code n (most + size) (given_turn code links grid p)
        (counting p (next_turn real links other p) other
        (after_turn k p (next_turn real links other p) other.world)))
        (sym same_count)
        (counted_alike p most (most + size) grid other (next_turn code links grid p)
        (next_turn real links other p)
        (up most size) alike (next_alike p most grid other room alike))
      where
        up : (a b : ℕ) → a ≤ a + b
        up a b = omega arith

    pub from_grids : (order : List ℕ) (most : ℕ) (grid other : Grid)
        → most + length order * size ≤ n
        → AreAlike code n most grid other
        → AreAlike code n (most + length order * size) (after_from code links grid order)
        (after_from real links other order)
    from_grids [] most grid other room alike =
        subst (λ k. AreAlike code n k grid other) (by most size) alike
      where
        by : (a b : ℕ) → a ≡ a + 0 * b
        by a b = omega arith
    from_grids (p ∷ order) most grid other room alike =
        subst (λ k. AreAlike code n k (after_from code links (given_turn code links grid p) order)
        (after_from real links (given_turn real links other p) order)) (by most (length order) size)
        (from_grids order (most + size) (given_turn code links grid p)
        (given_turn real links other p)
        (first most (length order) size room)
        (given_alike p most grid other (second most (length order) size room) alike))
      where
        by : (a b c : ℕ) → a + c + b * c ≡ a + suc b * c
        by a b c = omega arith

        first : (a b c : ℕ) → a + suc b * c ≤ n → a + c + b * c ≤ n
        first a b c less = omega (arith, less)

        second : (a b c : ℕ) → a + suc b * c ≤ n → a + c ≤ n
        second a b c less = let less = first a b c less in third (a + c) (b * c) less
          where
            third : (a b : ℕ) → a + b ≤ n → a ≤ n
            third a b less = omega (arith, less)

    -- ---- the start
    zeros_more : (k : ℕ) → replicate (k + 1) (pos 0) ≡ replicate k (pos 0) ++ pos 0 ∷ []
    zeros_more k = ap (λ j. replicate j (pos 0)) (one_more k) ∙ by k
      where
        one_more : (k : ℕ) → k + 1 ≡ suc k
        one_more k = omega arith

        by : (k : ℕ) → replicate (suc k) (pos 0) ≡ replicate k (pos 0) ++ pos 0 ∷ []
        by zero = refl
        by (suc k) = ap (λ l. pos 0 ∷ l) (by k)

    zeros_long : (k : ℕ) → length (replicate k (pos 0)) ≡ k
    zeros_long zero = refl
    zeros_long (suc k) = ap suc (zeros_long k)

    start_local_alike : (q : ℕ) → IsAlike code n 0 (start_local code q) (start_local real q)
    start_local_alike q = record {
      count = 0;
      few = omega arith;
      long = zeros_long code.cells;
      same =
          ap₂ (λ cells kept. record (start_local code q) { cells = cells; kept = kept })
          (zeros_more code.cells) (sym (kept_none (votes_at code 0) n));
    }

    start_alike : AreAlike code n 0 (start_grid code) (start_grid real)
    start_alike = record {
      locals = λ p.
          subst (λ o. AreLocals code n 0 o (slice_get (start_locals real) p))
          (sym (slice_get-map (start_local code) (processor_numbers code) p))
          (subst (AreLocals code n 0 (option_map (start_local code)
          (slice_get (processor_numbers code) p)))
          (sym (slice_get-map (start_local real) (processor_numbers code) p))
          (by (slice_get (processor_numbers code) p)));
      links =
          ap (λ k. replicate (k * k) []) same_count
          ∙ sym (map_none (map made) (count * count) []);
      printed = refl;
      turns = refl;
      sends = refl;
      words = refl;
    }
      where
        by : (o : Option ℕ)
            → AreLocals code n 0 (option_map (start_local code) o) (option_map (start_local real) o)
        by None = NoLocals
        by (Some q) = BothLocals (start_local_alike q)

    pub after_alike : (order : List ℕ) → length order * size ≤ n
        → AreAlike code n (length order * size) (after code links order) (after real links order)
    after_alike order room =
        subst (λ k. AreAlike code n k (after code links order) (after real links order))
        (none (length order * size))
        (from_grids order 0 (start_grid code) (start_grid real)
        (subst (λ k. k ≤ n) (sym (none (length order * size))) room) start_alike)
      where
        none : (a : ℕ) → 0 + a ≡ a
        none a = omega arith

    -- ---- what shows
    module _ (order : List ℕ) (room : (length order + 1) * size ≤ n) where
      abbrev grid : Grid
      grid = after code links order

      abbrev other : Grid
      other = after real links order

      pub turn_alike : (p : ℕ)
          → AreTurns code n ((length order + 1) * size) (next_turn code links grid p)
          (next_turn real links other p)
      turn_alike p =
          subst (λ k. AreTurns code n k (next_turn code links grid p)
          (next_turn real links other p))
          (whole (length order) size)
          (next_alike p (length order * size) grid other (one (length order) size room)
          (after_alike order (two (length order) size room)))
        where
          whole : (a b : ℕ) → a * b + b ≡ (a + 1) * b
          whole a b = omega arith

          one : (a b : ℕ) → (a + 1) * b ≤ n → a * b + b ≤ n
          one a b less = omega (arith, less)

          two : (a b : ℕ) → (a + 1) * b ≤ n → a * b ≤ n
          two a b less = three (a * b) b (one a b less)
            where
              three : (a b : ℕ) → a + b ≤ n → a ≤ n
              three a b less = omega (arith, less)

      stuck_too : (kind : StuckKind) (most : ℕ) (one other : Turn) → AreTurns code n most one other
          → one ≡ Stuck kind
          → other ≡ Stuck kind
      stuck_too kind most _ _ (BothMove moves) e = cc
      stuck_too kind most _ _ BothWait e = cc
      stuck_too kind most _ _ BothOver e = cc
      stuck_too kind most _ _ (BothStuck same) e = e

      rests_too : (most : ℕ) (one other : Turn) → AreTurns code n most one other
          → (one ≡ Waiting) ⊎ (one ≡ Over) → (other ≡ Waiting) ⊎ (other ≡ Over)
      rests_too most _ _ (BothMove moves) (inl e) = cc
      rests_too most _ _ (BothMove moves) (inr e) = cc
      rests_too most _ _ BothWait e = e
      rests_too most _ _ BothOver e = e
      rests_too most _ _ (BothStuck kind) (inl e) = cc
      rests_too most _ _ (BothStuck kind) (inr e) = cc

      pub stuck_alike : IsStuck code links grid → IsStuck real links other
      stuck_alike stuck = record {
        processor = stuck.processor;
        there = stuck.there;
        kind = stuck.kind;
        stuck = stuck_too stuck.kind _ _ _ (turn_alike stuck.processor) stuck.stuck;
      }

      over_from : (most : ℕ) (xs ys : List Local)
          → ((q : ℕ) → AreLocals code n most (slice_get xs q) (slice_get ys q))
          → All (λ local. IsSome local.ended) ys → All (λ local. IsSome local.ended) xs
      over_from most [] ys all over = All-nil (λ local. IsSome local.ended)
      over_from most (x ∷ xs) [] all over = elim (all 0) [ ]
      over_from most (x ∷ xs) (y ∷ ys) all over =
          All-cons (λ local. IsSome local.ended) x xs
          (first x y (all 0) (All-head (λ local. IsSome local.ended) y ys over))
          (over_from most xs ys (λ q. all (suc q))
          (All-tail (λ local. IsSome local.ended) y ys over))
        where
          first : (x y : Local) → AreLocals code n most (Some x) (Some y) → IsSome y.ended
              → IsSome x.ended
          first x y (BothLocals is) ended = subst (λ (l : Local). IsSome l.ended) is.same ended

      pub idle_alike : IsIdle code links grid → IsIdle real links other
      idle_alike idle = record {
        not_over = λ over.
            idle.not_over (over_from (length order * size) grid.world.locals other.world.locals
            (after_alike order (two (length order) size room)).locals over);
        resting = λ p below. rests_too _ _ _ (turn_alike p) (idle.resting p below);
      }
        where
          two : (a b : ℕ) → (a + 1) * b ≤ n → a * b ≤ n
          two a b less = three (a * b) b (omega (arith, less))
            where
              three : (a b : ℕ) → a + b ≤ n → a ≤ n
              three a b less = omega (arith, less)
