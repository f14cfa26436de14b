-- Items whose exchange brings what is there: they stay so behind exchanges, and behind rows that
-- write neither their arrays nor their slots.
use Rattle.std.proofs.Common.{◌≡◌, inl, inr, refl, sym, ◌∙◌, ap, subst, ℕ, ◌<◌, Bool, true, false}
use Rattle.std.proofs.Common.{List, [], ◌∷◌, ℤ, pos}
use Rattle.std.specs.Prelude.{◌==◌, if◌then◌else◌, nat_lt, option_and_then, slice_get, unwrap_or}
use Rattle.std.specs.Option.{option_map}
use Rattle.zpl_region.specs.declared.regions.Region.{Region}
use Rattle.zpl_region.proofs.ListLemmas.{Among}
use Rattle.zpl_arrays.specs.Array.{Array}
use Rattle.node_form.specs.declared.arrays.Item.{Item}
use Rattle.node_form.specs.declared.instructions.Instr.{Instr}
use Rattle.node_form.specs.declared.tables.Tables.{Tables}
use Rattle.code_parts.specs.Uses.{changes}
use Rattle.grid_meaning.specs.Exchange.{places_in}
use Rattle.grid_meaning.specs.Local.{processors}
use Rattle.grid_meaning.specs.Place.{held_value, value_at}
use Rattle.needs_runs.specs.of_plan_meaning.Abreast.{Abreast, Share}
use Rattle.needs_runs.specs.Agree.{HasLayout}
use Rattle.plan_passes.proofs.FreeLemmas.{misses_changes}
use Rattle.plan_passes.proofs.GoodLemmas.{Good}
use Rattle.plan_passes.proofs.JoinLemmas.{behind_there, behind_written}
use Rattle.plan_passes.proofs.KeepLemmas.{Behind, ByArrays, BySlots}
use Rattle.plan_passes.proofs.PlaceLemmas.{FitsWell, coherent, value_stays}
use Rattle.plan_passes.proofs.SentLemmas.{AllSaid, AllWrite, IsSent, all_writes, behind, is_sent, owned}
use Rattle.plan_passes.proofs.SentLemmas.{sent_is, stores_behind, write_of}
use Rattle.plan_passes.proofs.WriteLemmas.{Coherent, Held, Write, has_in, held_behind, held_other, shape}
use Rattle.plan_passes.proofs.WriteLemmas.{some_has, written, written_shapes}

module _ (code : Tables) (layout : HasLayout code) where
  -- each processor has at the item's places what their owners have
  pub record IsDone (slots : List Region) (shares : ℕ → Share) (item : Item) : Type 0 where
    pub fits : FitsWell code layout item
    pub has : (q p : ℕ) → q < processors code → p < processors code → (q == p) ≡ false
        → (t : List ℤ) → Among (owned code slots q p item) t
        → has_in (shape (shares q).stores item.array) t ≡ true
    pub held : (p : ℕ) → p < processors code → (w : Write)
        → Among (all_writes code slots shares (item ∷ []) p) w → Held (shares p).stores w

  abbrev pub Done : Abreast → Item → Type 0
  Done all item = IsDone (all.shares 0).slots all.shares item

  -- ---- behind a row
  module _ (row : Instr) (all next : Abreast) (item : Item) (done : Done all item)
      (slot_same : slice_get (next.shares 0).slots item.slot ≡ slice_get (all.shares 0).slots item.slot)
      (array_same : (p : ℕ) → slice_get (next.shares p).stores item.array
      ≡ slice_get (all.shares p).stores item.array) where
    owned_same : (q p : ℕ) → owned code (next.shares 0).slots q p item
        ≡ owned code (all.shares 0).slots q p item
    owned_same q p = ap (places_in code q p item) slot_same

    value_same : (q : ℕ) (t : List ℤ)
        → value_at (next.shares q).stores item.array t ≡ value_at (all.shares q).stores item.array t
    value_same q t = ap (option_and_then (held_value t)) (array_same q)

    sent_before : (p : ℕ) (w : Write)
        → IsSent code (next.shares 0).slots next.shares (item ∷ []) p w
        → IsSent code (all.shares 0).slots all.shares (item ∷ []) p w × (w.array ≡ item.array)
    sent_before p w sent = by sent.item sent.one sent.here sent.is
      where
        by : (other : Item) → Among (item ∷ []) other
            → Among (owned code (next.shares 0).slots sent.owner p other) sent.place
            → write_of code (next.shares 0).slots next.shares sent.owner other.array sent.place ≡ w
            → IsSent code (all.shares 0).slots all.shares (item ∷ []) p w × (w.array ≡ item.array)
        by other (inr none) here is = absurd none
        by other (inl same) here is =
            let mine : Among (owned code (next.shares 0).slots sent.owner p item) sent.place =
            subst (λ i. Among (owned code (next.shares 0).slots sent.owner p i) sent.place) (sym same) here in
            let written : write_of code (next.shares 0).slots next.shares sent.owner item.array sent.place ≡ w =
            subst (λ (i : Item). write_of code (next.shares 0).slots next.shares sent.owner i.array sent.place ≡ w)
            (sym same) is in (
              record {
                owner = sent.owner;
                below = sent.below;
                apart = sent.apart;
                item = item;
                one = inl refl;
                place = sent.place;
                here = subst (λ ts. Among ts sent.place) (owned_same sent.owner p) mine;
                is =
                    ap (λ o. record {
                      array = item.array;
                      place = sent.place;
                      value = unwrap_or o (pos 0);
                    }) (sym (value_same sent.owner sent.place)) ∙ written;
              },
              ap (λ (w : Write). w.array) (sym written),
            )

    done_same : Done next item
    done_same = record {
      fits = done.fits;
      has = λ q p a b apart t place.
          ap (λ o. has_in (option_map (λ (x : Array). x.storage) o) t) (array_same q)
          ∙ done.has q p a b apart t (subst (λ ts. Among ts t) (owned_same q p) place);
      held = λ p below w among.
          let before = sent_before p w
          (sent_is code (next.shares 0).slots next.shares (item ∷ []) p w among) in
          held_other w (all.shares p).stores (next.shares p).stores
          (ap (slice_get (next.shares p).stores) before.1
          ∙ (array_same p ∙ sym (ap (slice_get (all.shares p).stores) before.1)))
          (done.held p below w
          (is_sent code (all.shares 0).slots all.shares (item ∷ []) p w before.0));
    }

  pub done_row : (row : Instr) (all next : Abreast) (item : Item) → changes code row item ≡ false
      → Behind code row all next → Done all item → Done next item
  done_row row all next item e (BySlots is) done =
      let misses = misses_changes code row item e in
      done_same row all next item done (is.others 0 item.slot misses.1)
      (λ p. ap (λ stores. slice_get stores item.array) (is.stores p))
  done_row row all next item e (ByArrays kept) done =
      let misses = misses_changes code row item e in
      done_same row all next item done (ap (λ slots. slice_get slots item.slot) (kept 0).slots)
      (λ p. (kept p).stays item.array misses.0)

  -- ---- behind an exchange
  module _ (all : Abreast) (good : Good code layout all) (items : List Item)
      (fit : (item : Item) → Among items item → FitsWell code layout item)
      (said : AllSaid code (all.shares 0).slots all.shares items)
      (write : AllWrite code (all.shares 0).slots all.shares items) where
    abbrev S : List Region
    S = (all.shares 0).slots

    abbrev next : Abreast
    next = behind code S all.shares items

    stores_next : (p : ℕ) → p < processors code
        → (next.shares p).stores ≡ stores_behind code S all.shares items p
    stores_next p below = ap (λ (s : Share). s.stores) (behind_there code S all.shares items p below)

    shape_next : (p : ℕ) → p < processors code → (a : ℕ)
        → shape (next.shares p).stores a ≡ shape (all.shares p).stores a
    shape_next p below a =
        ap (λ stores. shape stores a) (stores_next p below)
        ∙ written_shapes (all_writes code S all.shares items p) (all.shares p).stores
        (stores_behind code S all.shares items p) (behind_written code S all.shares items write p below) a

    module _ (item : Item) (fits : FitsWell code layout item)
        (has : (q p : ℕ) → q < processors code → p < processors code → (q == p) ≡ false
        → (t : List ℤ) → Among (owned code S q p item) t
        → has_in (shape (all.shares q).stores item.array) t ≡ true)
        (held : (p : ℕ) → p < processors code → (w : Write)
        → Among (all_writes code S all.shares (item ∷ []) p) w
        → Held (stores_behind code S all.shares items p) w) where
      sent_before_exchange : (p : ℕ) → p < processors code → (w : Write)
          → IsSent code S next.shares (item ∷ []) p w → IsSent code S all.shares (item ∷ []) p w
      sent_before_exchange p below w sent = by sent.item sent.one sent.here sent.is
        where
          by : (other : Item) → Among (item ∷ []) other → Among (owned code S sent.owner p other) sent.place
              → write_of code S next.shares sent.owner other.array sent.place ≡ w
              → IsSent code S all.shares (item ∷ []) p w
          by other (inr none) here is = absurd none
          by other (inl same) here is =
              let mine : Among (owned code S sent.owner p item) sent.place =
              subst (λ i. Among (owned code S sent.owner p i) sent.place) (sym same) here in
              record {
                owner = sent.owner;
                below = sent.below;
                apart = sent.apart;
                item = item;
                one = inl refl;
                place = sent.place;
                here = mine;
                is =
                    ap (λ o. record {
                      array = item.array;
                      place = sent.place;
                      value = unwrap_or o (pos 0);
                    })
                    (sym (ap (λ stores. value_at stores item.array sent.place) (stores_next sent.owner sent.below)
                    ∙ value_stays code layout S all.shares good.placed items fit sent.owner p sent.below below
                    item fits sent.place mine (has sent.owner p sent.below below sent.apart sent.place mine)
                    (stores_behind code S all.shares items sent.owner)
                    (behind_written code S all.shares items write sent.owner sent.below)))
                    ∙ subst (λ (i : Item). write_of code S next.shares sent.owner i.array sent.place ≡ w)
                    (sym same) is;
              }

      done_next : IsDone S next.shares item
      done_next = record {
        fits = fits;
        has = λ q p a b apart t place.
            ap (λ o. has_in o t) (shape_next q a item.array) ∙ has q p a b apart t place;
        held = λ p below w among.
            subst (λ stores. Held stores w) (sym (stores_next p below))
            (held p below w (is_sent code S all.shares (item ∷ []) p w
            (sent_before_exchange p below w (sent_is code S next.shares (item ∷ []) p w among))));
      }

    slots_next : (next.shares 0).slots ≡ S
    slots_next = by (nat_lt 0 (processors code))
      where
        by : (b : Bool)
            → (if b then (record (all.shares 0) { stores = stores_behind code S all.shares items 0 })
            else all.shares 0).slots ≡ S
        by true = refl
        by false = refl

    with_slots : (item : Item) → IsDone S next.shares item → Done next item
    with_slots item done = subst (λ slots. IsDone slots next.shares item) (sym slots_next) done

    -- an item that was exchanged
    pub done_exchanged : (item : Item) → Among items item → Done next item
    done_exchanged item among =
        with_slots item (done_next item (fit item among)
        (λ q p a b apart t place. some_has (all.shares q).stores item.array t (said q p a b apart item among t place))
        (λ p below w k.
        held_behind (all_writes code S all.shares items p) (all.shares p).stores
        (stores_behind code S all.shares items p)
        (coherent code layout S all.shares good.placed items fit p below)
        (behind_written code S all.shares items write p below) w (to_all p w k)))
      where
        to_all : (p : ℕ) (w : Write) → Among (all_writes code S all.shares (item ∷ []) p) w
            → Among (all_writes code S all.shares items p) w
        to_all p w k =
            let sent = sent_is code S all.shares (item ∷ []) p w k in
            is_sent code S all.shares items p w (record {
              owner = sent.owner;
              below = sent.below;
              apart = sent.apart;
              item = sent.item;
              one = by sent.item sent.one;
              place = sent.place;
              here = sent.here;
              is = sent.is;
            })
          where
            by : (other : Item) → Among (item ∷ []) other → Among items other
            by other (inl same) = subst (Among items) same among
            by other (inr none) = absurd none

    -- one that was done before
    pub done_still : (item : Item) → Done all item → Done next item
    done_still item done =
        with_slots item (done_next item done.fits done.has
        (λ p below w k.
        held_behind (w ∷ all_writes code S all.shares items p) (all.shares p).stores
        (stores_behind code S all.shares items p) (together p below w k)
        (ap (option_and_then (written (all_writes code S all.shares items p))) (done.held p below w k)
        ∙ behind_written code S all.shares items write p below) w (inl refl)))
      where
        fit_more : (other : Item) → Among (item ∷ items) other → FitsWell code layout other
        fit_more other (inl same) = subst (FitsWell code layout) same done.fits
        fit_more other (inr k) = fit other k

        widened : (p : ℕ) (some : List Item)
            → ((other : Item) → Among some other → Among (item ∷ items) other) → (v : Write)
            → Among (all_writes code S all.shares some p) v
            → Among (all_writes code S all.shares (item ∷ items) p) v
        widened p some into v k =
            let sent = sent_is code S all.shares some p v k in
            is_sent code S all.shares (item ∷ items) p v (record {
              owner = sent.owner;
              below = sent.below;
              apart = sent.apart;
              item = sent.item;
              one = into sent.item sent.one;
              place = sent.place;
              here = sent.here;
              is = sent.is;
            })

        first : (other : Item) → Among (item ∷ []) other → Among (item ∷ items) other
        first other (inl same) = inl same
        first other (inr none) = absurd none

        all_of : (p : ℕ) (w : Write) → Among (all_writes code S all.shares (item ∷ []) p) w → (v : Write)
            → Among (w ∷ all_writes code S all.shares items p) v
            → Among (all_writes code S all.shares (item ∷ items) p) v
        all_of p w k v (inl same) =
            subst (Among (all_writes code S all.shares (item ∷ items) p)) same
            (widened p (item ∷ []) first w k)
        all_of p w k v (inr later) = widened p items (λ other m. inr m) v later

        together : (p : ℕ) → p < processors code → (w : Write)
            → Among (all_writes code S all.shares (item ∷ []) p) w
            → Coherent (all.shares p).stores (w ∷ all_writes code S all.shares items p)
        together p below w k one other a b i j hit hit' =
            coherent code layout S all.shares good.placed (item ∷ items) fit_more p below one other
            (all_of p w k one a) (all_of p w k other b) i j hit hit'
