-- The ledger of the moves so far with a move more is the ledger of all.
use Rattle.std.proofs.Common.{◌≡◌, ◌⊎◌, ℕ, zero, suc, ◌+◌, ◌-◌, ◌<◌, ◌≤◌, ◌==◌, max, nat_lt, Bool, true, false, cond, List, [], ◌∷◌, ◌++◌, length, drop, get_or, set, Option, Some, None, refl, sym, ◌∙◌, ap, ap₂, subst, inl, inr, arith, length-append, length-set, length-drop, ltb-true, ltb-false, eqb-true, get_or-set_same}
use Rattle.std.proofs.lemmas.Bool.{cases_lt, cases_eq, and_parts}
use Rattle.std.proofs.lemmas.List.{get_or-set_other, get_or-append_right}
use Rattle.std.proofs.Math.ListN.{get_or-append}
use Rattle.std.proofs.lemmas.Option.{slice_get-get_or}
use Rattle.std.specs.List.{slice_get}
use Rattle.grid_timetable.specs.declared.places.Place.{Place}
use Rattle.grid_timetable.specs.declared.places.Stretch.{Stretch}
use Rattle.grid_timetable.specs.declared.places.Lane.{Lane}
use Rattle.grid_timetable.specs.Run.{Move, Run, is_named, sends_to, takes_from, sent_at, taken_at, behind, end_of_last}
use Rattle.grid_timetable.specs.History.{History, run_of, with_move, CanMove, HasMessage, IsBelow}
use Rattle.grid_timetable.specs.Mail.{link, head}
use Rattle.grid_timetable.specs.Ledger.{Ledger, stretch_at, tick_in, tick_at, lane_at, next_place, arrival, stretch_behind, where_late, late, opened, place_in, stretches_with, mail_sent, mail_taken, moved, no_stretch, no_lane}
use Rattle.grid_timetable.specs.Table.{IsPlaceOf, IsJoined, IsCaused, IsStretch, IsLane, IsLetter, IsLink, IsLedgerOf}
use Rattle.grid_timetable.specs.Adding.{move_of}
use Rattle.grid_timetable.proofs.NumberLemmas.{slice_get-append, slice_get-behind, slice_get-drop, number_where, numbers-within}
use Rattle.grid_timetable.proofs.RunLemmas.{HasMore, HasMore-with_move, at-kept, length-made, length-others, length-grows, with_tick, with_tick-new, with_tick-old, next_number, Takes, IsFit, earliest-more, new_number}
use Rattle.grid_timetable.proofs.LengthLemmas.{end-within, tick-within, length-more}
use Rattle.grid_timetable.proofs.LedgerLemmas.{letter_where, is_sent, is_taken, link-moved, IsPost-sent, IsPost-taken, count-sent, count-taken, numbers-moved, length-moved}

-- ---- lists of stretches grow
stretch_at-more : (stretches : List Stretch) (stretch : Option Stretch) (s : ℕ) → s < length stretches
    → stretch_at (stretches_with stretches stretch) s ≡ stretch_at stretches s
stretch_at-more stretches None s below = refl
stretch_at-more stretches (Some stretch) s below = get_or-append stretches (stretch ∷ []) no_stretch s below

length-more_stretches : (stretches : List Stretch) (stretch : Option Stretch) → length stretches ≤ length (stretches_with stretches stretch)
length-more_stretches stretches None = omega arith
length-more_stretches stretches (Some stretch) = omega (arith, length-append stretches (stretch ∷ []))

stretch_at-new : (stretches : List Stretch) (stretch : Stretch) → stretch_at (stretches ++ stretch ∷ []) (length stretches) ≡ stretch
stretch_at-new stretches stretch =
    let first : length stretches - length stretches ≡ 0 = omega arith in
    get_or-append_right stretches (stretch ∷ []) (length stretches) (length stretches) no_stretch refl (omega arith)
    ∙ ap (λ i. get_or (stretch ∷ []) i no_stretch) first

-- ---- what holds goes on holding
module _ {run other : Run} {move : Move} (more : HasMore run other move) (tick : ℕ → ℕ → ℕ) (t : ℕ)
    (stretches : List Stretch) (stretch : Option Stretch) where
  abbrev new_tick : ℕ → ℕ → ℕ
  new_tick = with_tick tick move.processor (next_number run move.processor) t

  abbrev all : List Stretch
  all = stretches_with stretches stretch

  place-kept : (q : ℕ) (place : Place) → IsPlaceOf run tick stretches q place → IsPlaceOf other new_tick all q place
  place-kept q place is =
      let same : stretch_at all place.stretch ≡ stretch_at stretches place.stretch = stretch_at-more stretches stretch place.stretch is.there in
      record {
        there = omega (arith, is.there, length-more_stretches stretches stretch);
        processor = ap (λ (s : Stretch). s.processor) same ∙ is.processor;
        numbered = subst (λ (s : Stretch). 1 ≤ s.first) (sym same) is.numbered;
        behind = subst (λ (s : Stretch). s.first ≤ place.number) (sym same) is.behind;
        made = omega (arith, is.made, length-grows more q);
        at = ap (λ (s : Stretch). tick_in s place.number) same
            ∙ (is.at ∙ sym (with_tick-old run tick move.processor t q place.number is.made));
      }

  tick_at-kept : (place : Place) → place.stretch < length stretches → tick_at all place ≡ tick_at stretches place
  tick_at-kept place there = ap (λ (s : Stretch). tick_in s place.number) (stretch_at-more stretches stretch place.stretch there)

  joined-kept : (s : ℕ) (one : Stretch) (cause : Place) → IsJoined run tick stretches s one cause → IsJoined other new_tick all s one cause
  joined-kept s one cause is = record {
    before = is.before;
    sender = is.sender;
    place = place-kept is.sender cause is.place;
    message = is.message;
    sent = at-kept more (sends_to one.processor) is.sender is.message cause.number is.sent;
    taken = at-kept more (takes_from is.sender) one.processor is.message one.first is.taken;
    at = is.at ∙ ap₂ (λ x l. x + 1 + l) (sym (tick_at-kept cause is.place.there)) (sym more.latency);
  }

  caused-kept : (s : ℕ) (one : Stretch) (cause : Option Place) → IsCaused run tick stretches s one cause → IsCaused other new_tick all s one cause
  caused-kept s one None is = is
  caused-kept s one (Some cause) is = joined-kept s one cause is

  stretch-kept : (s : ℕ) → s < length stretches → IsStretch run tick stretches s → IsStretch other new_tick all s
  stretch-kept s below is =
      subst (λ (one : Stretch). IsCaused other new_tick all s one one.cause) (sym (stretch_at-more stretches stretch s below))
      (caused-kept s (stretch_at stretches s) _ is)

  letter-kept : (from to message : ℕ) (sender : Place) → IsLetter run tick stretches from to message sender
      → IsLetter other new_tick all from to message sender
  letter-kept from to message sender is = record {
    sent = at-kept more (sends_to to) from message sender.number is.sent;
    place = place-kept from sender is.place;
  }

  -- the lane of another processor
  lane-kept : (q : ℕ) (lane : Lane) → (q ≡ move.processor → ⊥) → IsLane run tick stretches q lane → IsLane other new_tick all q lane
  lane-kept q lane away is =
      let same : stretch_at all lane.stretch ≡ stretch_at stretches lane.stretch = stretch_at-more stretches stretch lane.stretch is.there in
      record {
        made = is.made ∙ sym (length-others more q away);
        there = omega (arith, is.there, length-more_stretches stretches stretch);
        processor = ap (λ (s : Stretch). s.processor) same ∙ is.processor;
        numbered = subst (λ (s : Stretch). 1 ≤ s.first) (sym same) is.numbered;
        behind = subst (λ (s : Stretch). s.first ≤ lane.made + 1) (sym same) is.behind;
        next = ap (λ (s : Stretch). tick_in s (lane.made + 1)) same ∙ (is.next ∙ sym (ap (behind (new_tick q)) (length-others more q away)
            ∙ end_same (length (run.moves q)) (omega arith)));
        last = λ some. subst (λ (s : Stretch). s.first ≤ lane.made) (sym same) (is.last some);
      }
    where
      end_same : (j : ℕ) → j ≤ length (run.moves q) → behind (new_tick q) j ≡ behind (tick q) j
      end_same zero inside = refl
      end_same (suc j) inside = ap (λ n. n + 1) (with_tick-old run tick move.processor t q (suc j) inside)

-- ---- one move
module _ (ledger : Ledger) (history : History) (is : IsLedgerOf ledger history) (p : ℕ) (sent took : Option ℕ)
    (can : CanMove history (move_of p sent took)) where
  abbrev move : Move
  move = move_of p sent took

  abbrev run : Run
  run = run_of history

  abbrev other : Run
  other = run_of (with_move history move)

  more : HasMore run other move
  more = HasMore-with_move history move

  abbrev number : ℕ
  number = next_number run p

  abbrev lane : Lane
  lane = lane_at ledger.lanes p

  lane_is : IsLane run is.tick ledger.stretches p lane
  lane_is = is.lanes p can.processor

  -- ---- the message that is taken
  record HasHead (from : ℕ) : Type 0 where
    cause : Place
    is_head : head ledger.mail from p ≡ Some cause
    letter : IsLetter run is.tick ledger.stretches from p (length (taken_at run from p)) cause

  message_there : (from : ℕ) → took ≡ Some from → length (taken_at run from p) < length (sent_at run from p)
  message_there from e = subst (HasMessage run p) e can.message

  sender_below : (from : ℕ) → took ≡ Some from → from < history.count
  sender_below from e = subst (IsBelow history.count) e can.sender

  head_there : (from : ℕ) → took ≡ Some from → HasHead from
  head_there from e =
      let line : List Place = link ledger.mail from p in
      let is_link = is.links from p (sender_below from e) can.processor in
      let some : 0 < length line = omega (arith, is_link.joins, message_there from e) in
      let no_place : Place = record { stretch = 0; number = 0 } in
      let first = slice_get-get_or line 0 no_place some in
      let same : length (taken_at run from p) + 0 ≡ length (taken_at run from p) = omega arith in
      record {
        cause = get_or line 0 no_place;
        is_head = first;
        letter = subst (λ n. IsLetter run is.tick ledger.stretches from p n (get_or line 0 no_place)) same (is_link.each 0 _ first);
      }

  -- ---- where the move stands
  abbrev stretches_by : Option Stretch → List Stretch
  stretches_by stretch = stretches_with ledger.stretches stretch

  abbrev tick_by : Option Stretch → ℕ
  tick_by stretch = tick_at (stretches_by stretch) (place_in ledger p stretch)

  -- a stretch that the move opens
  record IsOpened (stretch : Stretch) : Type 0 where
    from : ℕ
    took_is : took ≡ Some from
    cause : Place
    cause_is : stretch.cause ≡ Some cause
    letter : IsLetter run is.tick ledger.stretches from p (length (taken_at run from p)) cause
    processor : stretch.processor ≡ p
    first : stretch.first ≡ number
    at : stretch.tick ≡ tick_at ledger.stretches cause + 1 + run.latency

  abbrev IsOpenedAs : Option Stretch → Type 0
  IsOpenedAs None = Unit {0}
  IsOpenedAs (Some stretch) = IsOpened stretch

  record IsChosen (stretch : Option Stretch) : Type 0 where
    fit : IsFit run is.tick move (tick_by stretch)
    there : (place_in ledger p stretch).stretch < length (stretches_by stretch)
    processor : (stretch_at (stretches_by stretch) (place_in ledger p stretch).stretch).processor ≡ p
    numbered : 1 ≤ (stretch_at (stretches_by stretch) (place_in ledger p stretch).stretch).first
    behind : (stretch_at (stretches_by stretch) (place_in ledger p stretch).stretch).first ≤ number
    at : (place_in ledger p stretch).number ≡ number
    opens : IsOpenedAs stretch

  next_number_is : (next_place ledger p).number ≡ number
  next_number_is = omega (arith, lane_is.made)

  -- it goes on behind the move before
  goes_on : ((from i : ℕ) → Takes run move from i → is.tick from i + 1 + run.latency ≤ tick_by None) → IsChosen None
  goes_on late_enough = record {
    fit = record { free = omega (arith, lane_is.next); late = late_enough; least = inl lane_is.next };
    there = lane_is.there;
    processor = lane_is.processor;
    numbered = lane_is.numbered;
    behind = omega (arith, lane_is.behind, lane_is.made);
    at = next_number_is;
    opens = tt;
  }

  -- what a message that is taken lets the move stand at
  same_sender : (from : ℕ) → took ≡ Some from → (one : HasHead from) → (q i : ℕ) → Takes run move q i
      → is.tick q i + 1 + run.latency ≡ tick_at ledger.stretches one.cause + 1 + run.latency
  same_sender from e one q i takes =
      let same : from ≡ q = let f : Some from ≡ Some q = sym e ∙ takes.took in cc in
      let sent_there : slice_get (sent_at run from p) (length (taken_at run from p)) ≡ Some i =
      subst (λ x. slice_get (sent_at run x p) (length (taken_at run x p)) ≡ Some i) (sym same) takes.sent in
      let numbers : i ≡ one.cause.number = let f : Some i ≡ Some one.cause.number = sym sent_there ∙ one.letter.sent in cc in
      ap (λ x. x + 1 + run.latency) (ap₂ is.tick (sym same) numbers ∙ sym one.letter.place.at)

  in_time : (from : ℕ) → took ≡ Some from → (one : HasHead from) → arrival ledger one.cause ≤ tick_at ledger.stretches (next_place ledger p) → IsChosen None
  in_time from e one enough = goes_on (λ q i takes. omega (arith, same_sender from e one q i takes, is.latency, enough))

  comes_late : (from : ℕ) → took ≡ Some from → (one : HasHead from)
      → tick_at ledger.stretches (next_place ledger p) < arrival ledger one.cause → IsChosen (Some (stretch_behind ledger p one.cause))
  comes_late from e one later =
      let stretch : Stretch = stretch_behind ledger p one.cause in
      let new = stretch_at-new ledger.stretches stretch in
      let tick_is : tick_by (Some stretch) ≡ arrival ledger one.cause =
      ap (λ (s : Stretch). tick_in s stretch.first) new ∙ omega arith in
      record {
        fit = record {
          free = omega (arith, tick_is, lane_is.next, later);
          late = λ q i takes. omega (arith, same_sender from e one q i takes, is.latency, tick_is);
          least = inr (
            from,
            one.cause.number,
            record { took = e; sent = one.letter.sent },
            tick_is ∙ ap₂ (λ x l. x + 1 + l) one.letter.place.at is.latency,
          );
        };
        there = omega (arith, length-append ledger.stretches (stretch ∷ []));
        processor = ap (λ (s : Stretch). s.processor) new;
        numbered = subst (λ (s : Stretch). 1 ≤ s.first) (sym new) (omega arith);
        behind = subst (λ (s : Stretch). s.first ≤ number) (sym new) (omega (arith, next_number_is));
        at = next_number_is;
        opens = record {
          from = from;
          took_is = e;
          cause = one.cause;
          cause_is = refl;
          letter = one.letter;
          processor = refl;
          first = next_number_is;
          at = ap (λ l. tick_at ledger.stretches one.cause + 1 + l) is.latency;
        };
      }

  chosen_late : (from : ℕ) → took ≡ Some from → (one : HasHead from) → (b : Bool)
      → nat_lt (tick_at ledger.stretches (next_place ledger p)) (arrival ledger one.cause) ≡ b
      → IsChosen (where_late b (stretch_behind ledger p one.cause))
  chosen_late from e one true later = comes_late from e one (ltb-true _ _ later)
  chosen_late from e one false early = in_time from e one (ltb-false _ _ early)

  chosen_by : (q : Option ℕ) → took ≡ q → IsChosen (opened ledger p q)
  chosen_by None e = goes_on (λ from i takes. let f : None ≡ Some from = sym e ∙ takes.took in cc)
  chosen_by (Some from) e =
      let one = head_there from e in
      subst (λ h. IsChosen (late ledger p h)) (sym one.is_head) (chosen_late from e one _ refl)

  chosen : IsChosen (opened ledger p took)
  chosen = chosen_by took refl

  pub chosen_there : (place_in ledger p (opened ledger p took)).stretch < length (stretches_with ledger.stretches (opened ledger p took))
  chosen_there = chosen.there

  pub chosen_behind : (stretch_at (stretches_with ledger.stretches (opened ledger p took)) (place_in ledger p (opened ledger p took)).stretch).first
      ≤ next_number (run_of history) p
  chosen_behind = chosen.behind

  pub chosen_at : (place_in ledger p (opened ledger p took)).number ≡ next_number (run_of history) p
  chosen_at = chosen.at

  -- ---- the parts of the ledger behind the move
  abbrev stretch : Option Stretch
  stretch = opened ledger p took

  abbrev place : Place
  place = place_in ledger p stretch

  abbrev stretches_now : List Stretch
  stretches_now = stretches_by stretch

  abbrev t : ℕ
  t = tick_by stretch

  abbrev tick_now : ℕ → ℕ → ℕ
  tick_now = with_tick is.tick p number t

  new_place : IsPlaceOf other tick_now stretches_now p place
  new_place = record {
    there = chosen.there;
    processor = chosen.processor;
    numbered = chosen.numbered;
    behind = omega (arith, chosen.behind, chosen.at);
    made = omega (arith, chosen.at, length-made more);
    at = sym (with_tick-new is.tick p number t p place.number refl chosen.at);
  }

  new_lane : IsLane other tick_now stretches_now p (record { made = place.number; stretch = place.stretch })
  new_lane = record {
    made = omega (arith, chosen.at, length-made more);
    there = chosen.there;
    processor = chosen.processor;
    numbered = chosen.numbered;
    behind = omega (arith, chosen.behind, chosen.at);
    next = omega (arith, chosen.behind, chosen.at, ends);
    last = λ some. omega (arith, chosen.behind, chosen.at);
  }
    where
      made_is : length (other.moves p) ≡ suc (length (run.moves p))
      made_is = omega (arith, length-made more)

      ends : end_of_last other tick_now p ≡ t + 1
      ends = ap (behind (tick_now p)) made_is
          ∙ ap (λ n. n + 1) (with_tick-new is.tick p number t p (suc (length (run.moves p))) refl (omega arith))

  lanes_moved : (q : ℕ) → q < history.count
      → IsLane other tick_now stretches_now q (lane_at (set ledger.lanes p (record { made = place.number; stretch = place.stretch })) q)
  lanes_moved q below = by (cases_eq q p)
    where
      new : Lane
      new = record { made = place.number; stretch = place.stretch }

      by : (q ≡ p) ⊎ (q ≡ p → ⊥)
          → IsLane other tick_now stretches_now q (lane_at (set ledger.lanes p (record { made = place.number; stretch = place.stretch })) q)
      by (inl here) =
          subst (λ x. IsLane other tick_now stretches_now x (lane_at (set ledger.lanes p (record { made = place.number; stretch = place.stretch })) x)) (sym here)
          (subst (IsLane other tick_now stretches_now p) (sym (get_or-set_same ledger.lanes p _ no_lane (omega (arith, is.all, can.processor)))) new_lane)
      by (inr away) =
          subst (IsLane other tick_now stretches_now q) (sym (get_or-set_other ledger.lanes p q _ no_lane away))
          (lane-kept more is.tick t ledger.stretches stretch q _ away (is.lanes q below))

  -- the stretch that was opened
  opened_is : (one : Stretch) → IsOpened one → IsCaused other tick_now (ledger.stretches ++ one ∷ []) (length ledger.stretches) one one.cause
  opened_is one opens =
      let kept = letter-kept more is.tick t ledger.stretches (Some one) opens.from p (length (taken_at run opens.from p)) opens.cause opens.letter in
      let joined : IsJoined other tick_now (ledger.stretches ++ one ∷ []) (length ledger.stretches) one opens.cause = record {
        before = opens.letter.place.there;
        sender = opens.from;
        place = kept.place;
        message = length (taken_at run opens.from p);
        sent = ap (λ x. slice_get (sent_at other opens.from x) (length (taken_at run opens.from p))) opens.processor ∙ kept.sent;
        taken = ap (λ x. slice_get (taken_at other opens.from x) (length (taken_at run opens.from p))) opens.processor
            ∙ (new_number more is.tick t is.enough message_there opens.from opens.took_is ∙ ap Some (sym opens.first));
        at = opens.at ∙ ap (λ x. x + 1 + run.latency)
            (sym (tick_at-kept more is.tick t ledger.stretches (Some one) opens.cause opens.letter.place.there));
      } in
      subst (λ c. IsCaused other tick_now (ledger.stretches ++ one ∷ []) (length ledger.stretches) one c) (sym opens.cause_is) joined

  stretches_moved : (one : Option Stretch) → IsOpenedAs one → (s : ℕ) → s < length (stretches_by one)
      → IsStretch other tick_now (stretches_by one) s
  stretches_moved None opens s below = stretch-kept more is.tick t ledger.stretches None s below (is.stretches s below)
  stretches_moved (Some one) opens s below = by (cases_lt s (length ledger.stretches))
    where
      by : (s < length ledger.stretches) ⊎ (length ledger.stretches ≤ s) → IsStretch other tick_now (stretches_by (Some one)) s
      by (inl old) = stretch-kept more is.tick t ledger.stretches (Some one) s old (is.stretches s old)
      by (inr new) =
          let last : s ≡ length ledger.stretches = omega (arith, length-append ledger.stretches (one ∷ [])) in
          subst (IsStretch other tick_now (stretches_by (Some one))) (sym last)
          (subst (λ (x : Stretch). IsCaused other tick_now (stretches_by (Some one)) (length ledger.stretches) x x.cause)
          (sym (stretch_at-new ledger.stretches one)) (opened_is one opens))

  -- ---- the links
  takes_here : (from to : ℕ) → is_taken p took from to ≡ true → length (taken_at run from to) < length (sent_at run from to)
  takes_here from to e =
      let (a, b) = and_parts (to == p) (is_named from took) e in
      subst (λ x. length (taken_at run from x) < length (sent_at run from x)) (sym (eqb-true to p a)) (message_there from (named took refl b))
    where
      named : (q : Option ℕ) → took ≡ q → is_named from q ≡ true → took ≡ Some from
      named None e f = cc
      named (Some x) e f = e ∙ ap Some (eqb-true x from f)

  abbrev ticked : Bool → ℕ
  ticked b = cond b 1 0

  enough_moved : (from to : ℕ) → length (taken_at other from to) ≤ length (sent_at other from to)
  enough_moved from to = by (is_taken p took from to) refl (length-moved more (takes_from from) to) (length-moved more (sends_to to) from)
    where
      by : (b : Bool) → is_taken p took from to ≡ b
          → length (taken_at other from to) ≡ length (taken_at run from to) + cond (is_taken p took from to) 1 0
          → length (sent_at other from to) ≡ length (sent_at run from to) + cond (is_sent p sent from to) 1 0
          → length (taken_at other from to) ≤ length (sent_at other from to)
      by true e taken sent_is =
          let f = ap ticked e in omega (arith, taken, sent_is, takes_here from to e, f)
      by false e taken sent_is =
          let f = ap ticked e in omega (arith, taken, sent_is, is.enough from to, f)

  -- a message on a link behind the move: an old one, or the one that was sent
  link_by : (d b : Bool) (from to : ℕ) (link : List Place)
      → IsLink run is.tick ledger.stretches from to link
      → (d ≡ true → 0 < length link)
      → (b ≡ true → from ≡ p)
      → length (taken_at other from to) ≡ length (taken_at run from to) + ticked d
      → sent_at other from to ≡ sent_at run from to ++ number_where b number
      → IsLink other tick_now stretches_now from to (drop (ticked d) (link ++ letter_where b place))
  link_by d b from to link was some sender taken sent_is = record {
    joins = omega (
      arith,
      was.joins,
      taken,
      ap length sent_is,
      length-append (sent_at run from to) (number_where b number),
      length-drop (ticked d) (link ++ letter_where b place),
      length-append link (letter_where b place),
      long d some,
      both b,
    );
    each = λ k one e. letter_at k one (sym (slice_get-drop (ticked d) _ k) ∙ e) (cases_lt (ticked d + k) (length link));
  }
    where
      long : (d : Bool) → (d ≡ true → 0 < length link) → ticked d ≤ length link
      long true some = some refl
      long false some = omega arith

      both : (b : Bool) → length (letter_where b place) ≡ length (number_where b number)
      both true = refl
      both false = refl

      new_letter : (b : Bool) (k : ℕ) (one : Place) → (b ≡ true → from ≡ p) → slice_get (letter_where b place) k ≡ Some one
          → (b ≡ true) × (k ≡ 0) × (one ≡ place) × (from ≡ p)
      new_letter true zero one sender e = (refl, refl, (let same : place ≡ one = cc in sym same), sender refl)
      new_letter true (suc k) one sender e = cc
      new_letter false k one sender e = cc

      letter_at : (k : ℕ) (one : Place) → slice_get (link ++ letter_where b place) (ticked d + k) ≡ Some one
          → (ticked d + k < length link) ⊎ (length link ≤ ticked d + k)
          → IsLetter other tick_now stretches_now from to (length (taken_at other from to) + k) one
      letter_at k one e (inl old) =
          let letter = was.each (ticked d + k) one (sym (slice_get-append link (letter_where b place) (ticked d + k) old) ∙ e) in
          let message : length (taken_at run from to) + (ticked d + k) ≡ length (taken_at other from to) + k = omega (arith, taken) in
          subst (λ n. IsLetter other tick_now stretches_now from to n one) message
          (letter-kept more is.tick t ledger.stretches stretch from to _ one letter)
      letter_at k one e (inr new) =
          let at : length link + (ticked d + k - length link) ≡ ticked d + k = omega arith in
          let (b_is, first, one_is, here) = new_letter b (ticked d + k - length link) one sender
          (sym (slice_get-behind link (letter_where b place) (ticked d + k - length link))
          ∙ (ap (slice_get (link ++ letter_where b place)) at ∙ e)) in
          let message : length (sent_at run from to) + 0 ≡ length (taken_at other from to) + k = omega (arith, taken, was.joins, first) in
          let there : slice_get (sent_at other from to) (length (sent_at run from to) + 0) ≡ Some number =
          ap (λ l. slice_get l (length (sent_at run from to) + 0)) (sent_is ∙ ap (λ x. sent_at run from to ++ number_where x number) b_is)
          ∙ slice_get-behind (sent_at run from to) (number ∷ []) 0 in
          record {
            sent = ap (slice_get (sent_at other from to)) (sym message) ∙ (there ∙ ap Some (sym (ap (λ (x : Place). x.number) one_is ∙ chosen.at)));
            place = subst (λ x. IsPlaceOf other tick_now stretches_now x one) (sym here)
                (subst (IsPlaceOf other tick_now stretches_now p) (sym one_is) new_place);
          }

  links_moved : (from to : ℕ) → from < history.count → to < history.count
      → IsLink other tick_now stretches_now from to (link (mail_taken (mail_sent ledger.mail p sent place) p took) from to)
  links_moved from to below there =
      let here : p < ledger.mail.count = omega (arith, is.posts, can.processor) in
      let from_in : from < ledger.mail.count = omega (arith, is.posts) in
      let to_in : to < ledger.mail.count = omega (arith, is.posts) in
      let was = is.links from to below there in
      subst (IsLink other tick_now stretches_now from to)
      (sym (link-moved ledger.mail p sent took place from to is.post here
      (subst (λ n. IsBelow n sent) (sym is.posts) can.receiver) (subst (λ n. IsBelow n took) (sym is.posts) can.sender) from_in to_in))
      (link_by (is_taken p took from to) (is_sent p sent from to) from to _ was
      (λ e. omega (arith, takes_here from to e, was.joins))
      (λ e. let (a, b) = and_parts (from == p) (is_named to sent) e in eqb-true from p a)
      (length-moved more (takes_from from) to) (numbers-moved more (sends_to to) from))

  -- ---- how long
  pub soon_enough : tick_at (stretches_with ledger.stretches (opened ledger p took)) (place_in ledger p (opened ledger p took))
      ≤ ledger.ticks + history.latency
  soon_enough = by chosen.fit.least
    where
      by : (t ≡ end_of_last run is.tick p) ⊎ ((from : ℕ) × (i : ℕ) × Takes run move from i × (t ≡ is.tick from i + 1 + run.latency))
          → t ≤ ledger.ticks + history.latency
      by (inl free) = omega (arith, free, end-within run is.tick is.earliest.timetable p can.processor, is.ticks)
      by (inr (from, i, takes, late)) =
          let number_is = numbers-within (sends_to p) 1 (run.moves from) _ i takes.sent in
          let before = tick-within run is.tick from i (sender_below from takes.took) number_is.low_end (omega (arith, number_is.high_end)) in
          omega (arith, late, before, is.ticks)

  long : length (history.moves ++ move ∷ []) ≡ length history.moves + 1
  long = length-append history.moves (move ∷ []) ∙ omega arith

  pub ledger_moved : length history.moves < 4194304 → IsLedgerOf (moved ledger p sent took) (with_move history move)
  ledger_moved room = record {
    tick = tick_now;
    earliest = earliest-more more is.tick t is.enough message_there is.earliest chosen.fit;
    enough = enough_moved;
    count = is.count;
    latency = is.latency;
    soon = is.soon;
    few = omega (arith, long);
    made = omega (arith, is.made, long);
    ticks = ap (λ n. max n (t + 1)) is.ticks ∙ sym (length-more more is.tick t can.processor);
    short = rw long (omega (arith, is.short, soon_enough));
    all = length-set ledger.lanes p _ ∙ is.all;
    lanes = lanes_moved;
    stretches = stretches_moved stretch chosen.opens;
    posts = count-taken (mail_sent ledger.mail p sent place) p took ∙ (count-sent ledger.mail p sent place ∙ is.posts);
    post = IsPost-taken _ p took (IsPost-sent ledger.mail p sent place is.post);
    links = links_moved;
  }
