-- What a table keeps, and what a move makes of it.
--
--   Ledger      what the fields of a table stand for
--   tick_at     the tick that a place stands for
--   next_place  where a processor's next move stands that goes on behind the one before
--   arrival     the tick at which a message can be taken, by the move that sent it
--   opened      the stretch that a move opens, where it takes a message that comes too late to go
--               on
--   moved       the ledger with a move more
use Rattle.std.specs.Prelude.{ℕ, ◌+◌, ◌-◌, max, Bool, true, false, nat_lt, List, [], ◌∷◌, ◌++◌, length, Option, Some, None, slice_index_or, slice_set}
use Rattle.grid_timetable.specs.declared.places.Place.{Place}
use Rattle.grid_timetable.specs.declared.places.Stretch.{Stretch}
use Rattle.grid_timetable.specs.declared.places.Lane.{Lane}
use Rattle.grid_timetable.specs.declared.table.Table.{Table}
use Rattle.grid_timetable.specs.Mail.{Post, head, sending, taking}

pub record Ledger : Type 0 where
  pub count : ℕ
  pub latency : ℕ
  pub made : ℕ
  pub ticks : ℕ
  pub lanes : List Lane
  pub stretches : List Stretch
  pub mail : Post

abbrev pub ledger_of : Table → Ledger
ledger_of table = record {
  count = table.count;
  latency = table.latency;
  made = table.made;
  ticks = table.ticks;
  lanes = table.lanes.items;
  stretches = table.stretches.items;
  mail = table.mail;
}

-- ---- where moves stand
abbrev pub no_stretch : Stretch
no_stretch = record { processor = 0; first = 0; tick = 0; cause = None }

abbrev pub no_lane : Lane
no_lane = record { made = 0; stretch = 0 }

abbrev pub stretch_at : List Stretch → ℕ → Stretch
stretch_at stretches s = slice_index_or stretches s no_stretch

abbrev pub tick_in : Stretch → ℕ → ℕ
tick_in stretch number = stretch.tick + (number - stretch.first)

abbrev pub tick_at : List Stretch → Place → ℕ
tick_at stretches place = tick_in (stretch_at stretches place.stretch) place.number

abbrev pub lane_at : List Lane → ℕ → Lane
lane_at lanes p = slice_index_or lanes p no_lane

abbrev pub next_in : Lane → Place
next_in lane = record { stretch = lane.stretch; number = lane.made + 1 }

abbrev pub next_place : Ledger → ℕ → Place
next_place ledger p = next_in (lane_at ledger.lanes p)

-- ---- a move more
abbrev pub arrival : Ledger → Place → ℕ
arrival ledger cause = tick_at ledger.stretches cause + 1 + ledger.latency

abbrev pub stretch_behind : Ledger → ℕ → Place → Stretch
stretch_behind ledger p cause = record {
  processor = p;
  first = (next_place ledger p).number;
  tick = arrival ledger cause;
  cause = Some cause;
}

abbrev pub where_late : Bool → Stretch → Option Stretch
where_late true stretch = Some stretch
where_late false stretch = None

abbrev pub late : Ledger → ℕ → Option Place → Option Stretch
late ledger p None = None
late ledger p (Some cause) =
    where_late (nat_lt (tick_at ledger.stretches (next_place ledger p)) (arrival ledger cause))
    (stretch_behind ledger p cause)

abbrev pub opened : Ledger → ℕ → Option ℕ → Option Stretch
opened ledger p None = None
opened ledger p (Some from) = late ledger p (head ledger.mail from p)

-- where the move stands
abbrev pub place_in : Ledger → ℕ → Option Stretch → Place
place_in ledger p None = next_place ledger p
place_in ledger p (Some stretch) =
    record { stretch = length ledger.stretches; number = stretch.first }

abbrev pub stretches_with : List Stretch → Option Stretch → List Stretch
stretches_with stretches None = stretches
stretches_with stretches (Some stretch) = stretches ++ stretch ∷ []

abbrev pub with_stretch : Ledger → Option Stretch → Ledger
with_stretch ledger stretch =
    record ledger { stretches = stretches_with ledger.stretches stretch }

abbrev pub mail_sent : Post → ℕ → Option ℕ → Place → Post
mail_sent mail p None place = mail
mail_sent mail p (Some to) place = sending mail p to place

abbrev pub mail_taken : Post → ℕ → Option ℕ → Post
mail_taken mail p None = mail
mail_taken mail p (Some from) = taking mail from p

abbrev pub with_mail : Ledger → ℕ → Option ℕ → Place → Ledger
with_mail ledger p sent place = record ledger { mail = mail_sent ledger.mail p sent place }

abbrev pub with_mail_taken : Ledger → ℕ → Option ℕ → Ledger
with_mail_taken ledger p took = record ledger { mail = mail_taken ledger.mail p took }

abbrev pub settled : Ledger → ℕ → Option ℕ → Place → Ledger
settled ledger p took place = record ledger {
  made = ledger.made + 1;
  ticks = max ledger.ticks (tick_at ledger.stretches place + 1);
  lanes = slice_set ledger.lanes p (record { made = place.number; stretch = place.stretch });
  mail = mail_taken ledger.mail p took;
}

abbrev pub moved : Ledger → ℕ → Option ℕ → Option ℕ → Ledger
moved ledger p sent took =
    let stretch = opened ledger p took in
    let place = place_in ledger p stretch in
    settled (with_mail (with_stretch ledger stretch) p sent place) p took place
