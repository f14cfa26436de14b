-- What is noted of a stretch says where a start comes to stand.
use Rattle.std.proofs.Common.{◌≡◌, ◌⊎◌, inl, inr, refl, sym, ap, ◌∙◌, subst, arith, ℕ, suc}
use Rattle.std.proofs.Common.{◌+◌, ◌-◌, ◌≤◌, ◌<◌, Bool, true, false, not, true≢false}
use Rattle.std.proofs.Common.{List, [], ◌∷◌, ◌++◌, length}
use Rattle.std.specs.Prelude.{◌&&◌, ◌||◌, max, Option, Some, slice_get}
use Rattle.std.specs.List.{list_any}
use Rattle.last_writes.specs.of_node_form.declared.instructions.Instr.{Instr}
use Rattle.last_writes.specs.of_node_form.declared.instructions.Instr.TheVariants as instr
use Rattle.last_writes.specs.of_node_form.declared.tables.Tables.{Tables}
use Rattle.last_writes.specs.of_code_parts.Early.{is_roomy}
use Rattle.last_writes.specs.of_code_parts.Uses.{changes, items_of, written_arrays, written_slots}
use Rattle.last_writes.specs.Last.{is_listed, last_change, noted}
use Rattle.comm_early.specs.Place.{IsNewStretch, IsNotedRow, finished_by, place_by, stops_all}
use Rattle.comm_early.specs.Send.{put_early}
use Rattle.comm_early.specs.Written.{other_at}
use Rattle.comm_early.specs.declared.stretch.Stretch.{Stretch}
use Rattle.comm_early.proofs.CrossLemmas.{crossed_or_stops, crosses, is_finish, is_start, onto}
use Rattle.comm_early.proofs.CrossLemmas.{start_stops, stop_row, stops}
use Rattle.comm_early.proofs.LoadLemmas.{Loads, loads_new, loads_row, loads_start, opened_at}
use Rattle.comm_early.proofs.TrackLemmas.{Attained, Tracks, tracks_all, tracks_both}
use Rattle.comm_early.proofs.TrackLemmas.{tracks_later, tracks_more, tracks_none}

module _ (tables : Tables) (links : Option ℕ) where
  pub record Follows (fixed : List Instr) (first last : ℕ) (stretch : Stretch) : Type 0 where
    pub order : first ≤ last
    pub least : Tracks tables.code (λ at row. stops_all tables row) first last stretch.least
    pub arrays : (array : ℕ)
        → Tracks tables.code (λ at row. is_listed (written_arrays tables row) array) first last
        (noted stretch.written.arrays array)
    pub slots : (slot : ℕ)
        → Tracks tables.code (λ at row. is_listed (written_slots row) slot) first last
        (noted stretch.written.slots slot)
    pub finished : (exchange : ℕ)
        → Tracks tables.code (λ at row. is_listed (finished_by row) exchange) first last
        (noted stretch.finished exchange)
    pub load : Loads tables.code links fixed first last stretch.load

  pub follows_new : (at : ℕ) (stretch : Stretch) → IsNewStretch links stretch
      → Follows [] at at stretch
  follows_new at stretch new = record {
    order = omega arith;
    least = tracks_none tables.code _ at stretch.least new.least;
    arrays = λ array.
        tracks_none tables.code _ at (noted stretch.written.arrays array) (new.arrays array);
    slots = λ slot.
        tracks_none tables.code _ at (noted stretch.written.slots slot) (new.slots slot);
    finished = λ exchange.
        tracks_none tables.code _ at (noted stretch.finished exchange) (new.finished exchange);
    load = loads_new tables.code links at stretch.load new.load;
  }

  -- a row that is no start
  pub follows_row : (fixed : List Instr) (first last : ℕ) (row : Instr) (old new : Stretch)
      → slice_get tables.code last ≡ Some row → is_start row ≡ false
      → IsNotedRow tables row old (last + 1) new
      → Follows fixed first last old → Follows fixed first (last + 1) new
  follows_row fixed first last row old new there other is f = record {
    order = omega (arith, f.order);
    least = tracks_more tables.code _ first last old.least new.least row there f.order is.least
        f.least;
    arrays = λ array.
        tracks_more tables.code _ first last (noted old.written.arrays array)
        (noted new.written.arrays array) row there f.order (is.arrays array) (f.arrays array);
    slots = λ slot.
        tracks_more tables.code _ first last (noted old.written.slots slot)
        (noted new.written.slots slot) row there f.order (is.slots slot) (f.slots slot);
    finished = λ exchange.
        tracks_more tables.code _ first last (noted old.finished exchange)
        (noted new.finished exchange) row there f.order (is.finished exchange)
        (f.finished exchange);
    load = loads_row tables.code links fixed first last row old.load new.load f.order there other
        is.load f.load;
  }

  -- a start, which crosses the last rows
  pub follows_start : (fixed : List Instr) (first a b exchange : ℕ) (old new : Stretch)
      → ((k : ℕ) (row : Instr) → k < b → slice_get tables.code (first + a + k) ≡ Some row
      → is_listed (finished_by row) exchange ≡ false)
      → slice_get tables.code (first + a + b) ≡ Some (instr.Start exchange)
      → IsNotedRow tables (instr.Start exchange) old (first + a + b + 1) new
      → Follows fixed first (first + a + b) old
      → Follows (instr.Start exchange ∷ onto tables.code fixed first a) (first + a)
      (first + a + b + 1) new
  follows_start fixed first a b exchange old new others there is f = record {
    order = omega arith;
    least = tracks_more tables.code _ (first + a) (first + a + b) old.least new.least
        (instr.Start exchange) there inner is.least
        (tracks_later tables.code _ first (first + a) (first + a + b) old.least outer f.least);
    arrays = λ array.
        tracks_more tables.code _ (first + a) (first + a + b) (noted old.written.arrays array)
        (noted new.written.arrays array) (instr.Start exchange) there inner (is.arrays array)
        (tracks_later tables.code _ first (first + a) (first + a + b)
        (noted old.written.arrays array) outer (f.arrays array));
    slots = λ slot.
        tracks_more tables.code _ (first + a) (first + a + b) (noted old.written.slots slot)
        (noted new.written.slots slot) (instr.Start exchange) there inner (is.slots slot)
        (tracks_later tables.code _ first (first + a) (first + a + b)
        (noted old.written.slots slot) outer (f.slots slot));
    finished = λ other.
        tracks_more tables.code _ (first + a) (first + a + b) (noted old.finished other)
        (noted new.finished other) (instr.Start exchange) there inner (is.finished other)
        (tracks_later tables.code _ first (first + a) (first + a + b)
        (noted old.finished other) outer (f.finished other));
    load = loads_start tables.code links fixed first a b exchange others old.load new.load there
        is.load f.load;
  }
    where
      inner : first + a ≤ first + a + b
      inner = omega arith

      outer : first ≤ first + a
      outer = omega arith

  -- ---- the place of a start
  abbrev stops_at : List Instr → ℕ → ℕ → ℕ → Instr → Bool
  stops_at fixed first exchange at row =
      stops tables links exchange
      (length (opened_at tables.code links fixed first at)) row

  place_tracks : (fixed : List Instr) (first last exchange : ℕ) (stretch : Stretch)
      → Follows fixed first last stretch
      → Tracks tables.code (stops_at fixed first exchange) first last
      (place_by stretch exchange (items_of tables exchange))
  place_tracks fixed first last exchange stretch f =
      tracks_all tables.code
      (λ at row. (stops_all tables row
      || (is_finish row
      && not (is_roomy links (length (opened_at tables.code links fixed first at)))))
      || is_listed (finished_by row) exchange)
      (λ item row. changes tables row item) (λ item. last_change stretch.written item) first last
      (max (max stretch.least stretch.load.full) (noted stretch.finished exchange))
      (items_of tables exchange)
      (λ item. tracks_both tables.code
      (λ at row. is_listed (written_arrays tables row) item.array)
      (λ at row. is_listed (written_slots row) item.slot) first last
      (noted stretch.written.arrays item.array) (noted stretch.written.slots item.slot)
      (f.arrays item.array) (f.slots item.slot))
      (tracks_both tables.code
      (λ at row. stops_all tables row
      || (is_finish row
      && not (is_roomy links (length (opened_at tables.code links fixed first at)))))
      (λ at row. is_listed (finished_by row) exchange) first last
      (max stretch.least stretch.load.full) (noted stretch.finished exchange)
      (tracks_both tables.code (λ at row. stops_all tables row)
      (λ at row. is_finish row
      && not (is_roomy links (length (opened_at tables.code links fixed first at))))
      first last stretch.least stretch.load.full f.least f.load.full)
      (f.finished exchange))

  pub record IsPlace (fixed : List Instr) (first last exchange place : ℕ) : Type 0 where
    pub a : ℕ
    pub b : ℕ
    pub is : first + a ≡ max first place
    pub whole : last ≡ first + a + b
    pub stop : put_early tables links exchange (onto tables.code fixed first a)
        ≡ instr.Start exchange ∷ onto tables.code fixed first a
    pub crossed : (k : ℕ) (row : Instr) → k < b
        → slice_get tables.code (first + a + k) ≡ Some row → is_start row ≡ false
        → crosses tables.code tables links (onto tables.code fixed first (a + k)) row exchange
        ≡ true
    pub others : (k : ℕ) (row : Instr) → k < b
        → slice_get tables.code (first + a + k) ≡ Some row
        → is_listed (finished_by row) exchange ≡ false

  -- rows that stop at no test
  third : (a b c d : Bool) → (((a || b) || c) || d) ≡ false → c ≡ false
  third true b c d e = absurd (true≢false e)
  third false true c d e = absurd (true≢false e)
  third false false true d e = absurd (true≢false e)
  third false false false d e = refl

  none_stops : (fixed : List Instr) (first last exchange place at : ℕ) (row : Instr)
      → Tracks tables.code (stops_at fixed first exchange) first last place
      → first ≤ at → at < last → place ≤ at → slice_get tables.code at ≡ Some row
      → stops_at fixed first exchange at row ≡ false
  none_stops fixed first last exchange place at row t behind before past there =
      by (stops_at fixed first exchange at row) refl
    where
      by : (b : Bool) → stops_at fixed first exchange at row ≡ b → b ≡ false
      by true passes =
          let under = t.above at row behind before there passes in
          absurd (omega (arith, under, past))
      by false fails = refl

  placed_at : (fixed : List Instr) (first last exchange place a b : ℕ)
      → Tracks tables.code (stops_at fixed first exchange) first last place
      → first + a ≡ max first place → last ≡ first + a + b
      → put_early tables links exchange (onto tables.code fixed first a)
      ≡ instr.Start exchange ∷ onto tables.code fixed first a
      → IsPlace fixed first last exchange place
  placed_at fixed first last exchange place a b t is whole stop = record {
    a = a;
    b = b;
    is = is;
    whole = whole;
    stop = stop;
    crossed = λ k row below there other.
        ap (λ n. crosses tables.code tables links (onto tables.code fixed first n) row exchange)
        (same k)
        ∙ (crossed_or_stops tables links exchange
        (length (opened_at tables.code links fixed first (first + a + k))) row other
        ∙ ap not (none k row below there));
    others = λ k row below there.
        third (stops_all tables row)
        (is_finish row && not (is_roomy links
        (length (opened_at tables.code links fixed first (first + a + k)))))
        (is_listed (finished_by row) exchange)
        (list_any (λ item. changes tables row item) (items_of tables exchange))
        (none k row below there);
  }
    where
      same : (k : ℕ) → a + k ≡ first + a + k - first
      same k = omega arith

      none : (k : ℕ) (row : Instr) → k < b → slice_get tables.code (first + a + k) ≡ Some row
          → stops_at fixed first exchange (first + a + k) row ≡ false
      none k row below there =
          none_stops fixed first last exchange place (first + a + k) row t (omega arith)
          (omega (arith, whole, below)) (omega (arith, is)) there

  pub place_is : (fixed : List Instr) (first last exchange : ℕ) (stretch : Stretch)
      → Follows fixed first last stretch
      → put_early tables links exchange fixed ≡ instr.Start exchange ∷ fixed
      → IsPlace fixed first last exchange (place_by stretch exchange (items_of tables exchange))
  place_is fixed first last exchange stretch f top = by tracks.attained
    where
      tracks : Tracks tables.code (stops_at fixed first exchange) first last
          (place_by stretch exchange (items_of tables exchange))
      tracks = place_tracks fixed first last exchange stretch f

      by : (place_by stretch exchange (items_of tables exchange) ≤ first)
          ⊎ Attained tables.code (stops_at fixed first exchange) first last
          (place_by stretch exchange (items_of tables exchange))
          → IsPlace fixed first last exchange
          (place_by stretch exchange (items_of tables exchange))
      by (inl low) =
          placed_at fixed first last exchange
          (place_by stretch exchange (items_of tables exchange)) 0 (last - first) tracks
          (omega (arith, low)) (omega (arith, f.order)) top
      by (inr h) =
          placed_at fixed first last exchange
          (place_by stretch exchange (items_of tables exchange)) (suc (h.at - first))
          (last - (h.at + 1)) tracks (omega (arith, h.is, h.behind))
          (omega (arith, h.behind, h.before)) stop
        where
          other : is_start h.row ≡ false
          other = from h.row h.passes
            where
              from : (row : Instr) → stops_at fixed first exchange h.at row ≡ true
                  → is_start row ≡ false
              from (instr.Start other) passes =
                  absurd (true≢false (sym passes ∙ start_stops tables links exchange
                  (length (opened_at tables.code links fixed first h.at)) other))
              from row passes = refl

          there : slice_get tables.code (first + (h.at - first)) ≡ Some h.row
          there =
              let same : first + (h.at - first) ≡ h.at = omega (arith, h.behind) in
              ap (slice_get tables.code) same ∙ h.there

          stopped : crosses tables.code tables links
              (onto tables.code fixed first (h.at - first)) h.row exchange ≡ false
          stopped =
              crossed_or_stops tables links exchange
              (length (opened_at tables.code links fixed first h.at)) h.row other
              ∙ ap not h.passes

          one : (row : Instr) → is_start row ≡ false
              → crosses tables.code tables links
              (onto tables.code fixed first (h.at - first)) row exchange ≡ false
              → put_early tables links exchange
              (other_at (Some row) ++ onto tables.code fixed first (h.at - first))
              ≡ instr.Start exchange
              ∷ (other_at (Some row) ++ onto tables.code fixed first (h.at - first))
          one (instr.Start exchange) starts stopped = absurd (true≢false starts)
          one row starts stopped =
              stop_row tables.code tables links (onto tables.code fixed first (h.at - first)) row
              exchange stopped

          stop : put_early tables links exchange (onto tables.code fixed first (suc (h.at - first)))
              ≡ instr.Start exchange ∷ onto tables.code fixed first (suc (h.at - first))
          stop =
              subst (λ r. put_early tables links exchange
              (other_at r ++ onto tables.code fixed first (h.at - first))
              ≡ instr.Start exchange
              ∷ (other_at r ++ onto tables.code fixed first (h.at - first)))
              (sym there) (one h.row other stopped)
