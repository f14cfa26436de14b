-- Routes: with the same region in the slot of all items, an exchange has the same partners.
use Rattle.std.proofs.Common.{◌≡◌, ℕ, ◌+◌, nat_lt, not, ◌==◌, Bool, true, false, cond, List, [], ◌∷◌, length, refl, sym, ap, ◌∙◌, subst}
use Rattle.std.specs.Prelude.{Option, Some, None, All, filter, slice_get}
use Rattle.std.specs.List.{range_with_len}
use Rattle.std.specs.Option.{IfSome}
use Rattle.std.proofs.lemmas.List.Sums.{sum_by-cons}
use Rattle.std.proofs.lemmas.List.Elements.{All-head, All-tail}
use Rattle.reduce_plan.specs.of_zpl_region.declared.regions.Region.{Region}
use Rattle.grid_meaning.specs.of_node_form.declared.arrays.Item.{Item}
use Rattle.grid_meaning.specs.of_node_form.declared.tables.Tables.{Tables}
use Rattle.grid_meaning.specs.Collective.{others, others_where}
use Rattle.grid_meaning.specs.Exchange.{places_in, places_of, word_count}
use Rattle.node_stages.specs.Known.{AreRoutes, IsRecalled, IsRoute, IsRouteFor, Known, Route}
use Rattle.node_stages.specs.Partners.{receivers_from, senders_to}
use Rattle.node_stages.specs.Slots.{at_slots}

-- ---- the same words
words_alike : (code : Tables) (one two : List Region) (items : List Item) (slot : ℕ) (region : Region) → All (λ (item : Item). item.slot ≡ slot) items
    → slice_get one slot ≡ Some region → slice_get two slot ≡ Some region
    → (from to : ℕ) → word_count code (at_slots one) items from to ≡ word_count code (at_slots two) items from to
words_alike code one two [] slot region all here there from to = refl
words_alike code one two (item ∷ items) slot region all here there from to =
    let at : item.slot ≡ slot = All-head (λ (it : Item). it.slot ≡ slot) item items all in
    let same : slice_get one item.slot ≡ slice_get two item.slot = ap (slice_get one) at ∙ (here ∙ (sym there ∙ sym (ap (slice_get two) at))) in
    let rest = words_alike code one two items slot region (All-tail (λ (it : Item). it.slot ≡ slot) item items all) here there from to in
    sum_by-cons (λ it. length (places_of code (at_slots one) from to it)) item items
    ∙ (ap (λ found. length (places_in code from to item found) + word_count code (at_slots one) items from to) same
    ∙ (ap (λ n. length (places_in code from to item (slice_get two item.slot)) + n) rest
    ∙ sym (sum_by-cons (λ it. length (places_of code (at_slots two) from to it)) item items)))

-- ---- the same partners
filter_same : (one two : ℕ → Bool) → ((q : ℕ) → one q ≡ two q) → (xs : List ℕ) → filter one xs ≡ filter two xs
filter_same one two same [] = refl
filter_same one two same (x ∷ xs) = by (one x) (two x) (same x) (filter_same one two same xs)
  where
    by : (b c : Bool) → b ≡ c → filter one xs ≡ filter two xs → cond b (x ∷ filter one xs) (filter one xs) ≡ cond c (x ∷ filter two xs) (filter two xs)
    by true true e rest = ap (λ list. x ∷ list) rest
    by false false e rest = rest
    by true false e rest = cc
    by false true e rest = cc

others_same : (code : Tables) (p : ℕ) (one two : ℕ → ℕ) → ((q : ℕ) → one q ≡ two q) → others_where code p one ≡ others_where code p two
others_same code p one two same = filter_same (λ q. nat_lt 0 (one q)) (λ q. nat_lt 0 (two q)) (λ q. ap (nat_lt 0) (same q)) (others code p)

receivers_alike : (code : Tables) (p : ℕ) (one two : List Region) (items : List Item) (slot : ℕ) (region : Region) → All (λ (item : Item). item.slot ≡ slot) items
    → slice_get one slot ≡ Some region → slice_get two slot ≡ Some region → receivers_from code one items p ≡ receivers_from code two items p
receivers_alike code p one two items slot region all here there =
    others_same code p (word_count code (at_slots one) items p) (word_count code (at_slots two) items p)
    (λ q. words_alike code one two items slot region all here there p q)

senders_alike : (code : Tables) (p : ℕ) (one two : List Region) (items : List Item) (slot : ℕ) (region : Region) → All (λ (item : Item). item.slot ≡ slot) items
    → slice_get one slot ≡ Some region → slice_get two slot ≡ Some region → senders_to code one items p ≡ senders_to code two items p
senders_alike code p one two items slot region all here there =
    others_same code p (λ q. word_count code (at_slots one) items q p) (λ q. word_count code (at_slots two) items q p)
    (λ q. words_alike code one two items slot region all here there q p)

-- ---- a route that was found is one
same_items : (code : Tables) (exchange : ℕ) (route : Route) (items its : List Item) → route.exchange ≡ exchange
    → slice_get code.exchanges exchange ≡ Some items → slice_get code.exchanges route.exchange ≡ Some its → its ≡ items
same_items code exchange route items its is there here =
    let both : Some its ≡ Some items = sym here ∙ (ap (slice_get code.exchanges) is ∙ there) in cc

pub started_route : (code : Tables) (p exchange : ℕ) (slots : List Region) (items : List Item) (list : List ℕ) (route : Route)
    → slice_get code.exchanges exchange ≡ Some items → list ≡ receivers_from code slots items p → IsRouteFor exchange slots items list route
    → IsRoute code (λ regions its. receivers_from code regions its p) route
started_route code p exchange slots items list route there is for = λ others its here region.
    ap (λ its. receivers_from code others its p) (same_items code exchange route items its for.exchange_is there here)
    ∙ (receivers_alike code p others slots items route.slot route.region for.one region for.region_is ∙ (sym is ∙ sym for.list_is))

pub finished_route : (code : Tables) (p exchange : ℕ) (slots : List Region) (items : List Item) (list : List ℕ) (route : Route)
    → slice_get code.exchanges exchange ≡ Some items → list ≡ senders_to code slots items p → IsRouteFor exchange slots items list route
    → IsRoute code (λ regions its. senders_to code regions its p) route
finished_route code p exchange slots items list route there is for = λ others its here region.
    ap (λ its. senders_to code others its p) (same_items code exchange route items its for.exchange_is there here)
    ∙ (senders_alike code p others slots items route.slot route.region for.one region for.region_is ∙ (sym is ∙ sym for.list_is))

-- ---- what is recalled are the partners
pub recalled_list : (code : Tables) (partners : List Region → List Item → List ℕ) (known : Option Route) (exchange : ℕ) (slots : List Region)
    (items : List Item) (list : List ℕ) → slice_get code.exchanges exchange ≡ Some items → IfSome known (IsRoute code partners)
    → IsRecalled known exchange slots list → list ≡ partners slots items
recalled_list code partners None exchange slots items list there right is = let no : None ≡ Some is.route = is.there in cc
recalled_list code partners (Some route) exchange slots items list there right is =
    let both : Some route ≡ Some is.route = is.there in
    let same : route ≡ is.route = cc in
    let of_exchange : slice_get code.exchanges route.exchange ≡ Some items =
    ap (λ (r : Route). slice_get code.exchanges r.exchange) same ∙ (ap (slice_get code.exchanges) is.exchange_is ∙ there) in
    let region : slice_get slots route.slot ≡ Some route.region = subst (λ (r : Route). slice_get slots r.slot ≡ Some r.region) (sym same) is.region_is in
    sym (right slots items of_exchange region ∙ (ap (λ (r : Route). r.list) same ∙ is.list_is))

-- ---- the routes with another one
pub started_kept : (code : Tables) (p : ℕ) (old new : Known) (route : Option Route) → new ≡ record old { started = route } → AreRoutes code p old
    → IfSome route (IsRoute code (λ slots items. receivers_from code slots items p)) → AreRoutes code p new
started_kept code p old new route is are right = subst (AreRoutes code p) (sym is) (record { started = right; finished = are.finished })

pub finished_kept : (code : Tables) (p : ℕ) (old new : Known) (route : Option Route) → new ≡ record old { finished = route } → AreRoutes code p old
    → IfSome route (IsRoute code (λ slots items. senders_to code slots items p)) → AreRoutes code p new
finished_kept code p old new route is are right = subst (AreRoutes code p) (sym is) (record { started = are.started; finished = right })

pub on_some : {A : Type 0} (P Q : A → Type 0) (found : Option A) → ((a : A) → P a → Q a) → IfSome found P → IfSome found Q
on_some P Q None step h = tt
on_some P Q (Some a) step h = step a h
