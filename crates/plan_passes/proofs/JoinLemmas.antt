-- What exchanges do without items that bring what is there; and two of them one behind the other are
-- one with the items of both.
use Rattle.std.proofs.Common.{◌≡◌, ◌⊎◌, inl, inr, refl, sym, ◌∙◌, ap, ℕ, ◌<◌, Bool, true, false}
use Rattle.std.proofs.Common.{List, [], ◌∷◌, ◌++◌, ℤ, pos, Option, Some, None, is_some, ltb-true, true≢false}
use Rattle.std.proofs.Math.Path.{fun_ext}
use Rattle.std.specs.Prelude.{◌==◌, if◌then◌else◌, nat_lt, option_and_then, unwrap_or}
use Rattle.zpl_region.specs.declared.regions.Region.{Region}
use Rattle.zpl_region.proofs.ListLemmas.{Among, Among-append_left, Among-append_right, among_appended}
use Rattle.zpl_arrays.specs.Array.{Array}
use Rattle.node_form.specs.declared.arrays.Item.{Item}
use Rattle.node_form.specs.declared.tables.Tables.{Tables}
use Rattle.grid_meaning.specs.Local.{processors}
use Rattle.grid_meaning.specs.Place.{value_at}
use Rattle.needs_runs.specs.of_plan_meaning.Abreast.{Abreast, Share, of_processors}
use Rattle.needs_runs.proofs.of_plan_meaning.ThereLemmas.{there_is}
use Rattle.needs_runs.specs.Agree.{HasLayout}
use Rattle.plan_passes.proofs.GoodLemmas.{Good}
use Rattle.plan_passes.proofs.PlaceLemmas.{FitsWell, coherent, value_stays}
use Rattle.plan_passes.proofs.SentLemmas.{AllSaid, AllWrite, IsSent, all_behind, all_writes, behind}
use Rattle.plan_passes.proofs.SentLemmas.{is_sent, owned}
use Rattle.plan_passes.proofs.SentLemmas.{sent_is, stores_behind, write_of, written_append}
use Rattle.plan_passes.proofs.UnitLemmas.{quiet}
use Rattle.plan_passes.proofs.WriteLemmas.{Coherent, Held, Write, all_can, can_each, has_in, same_written}
use Rattle.plan_passes.proofs.WriteLemmas.{shape, some_has, written, written_shapes}

pub is_written : (o : Option (List Array)) (s : List Array) → is_some o ≡ true → o ≡ Some (unwrap_or o s)
is_written None s e = absurd (true≢false (sym e))
is_written (Some r) s e = refl

pub same_shares : (code : Tables) (one other : ℕ → Share)
    → ((p : ℕ) → p < processors code → one p ≡ other p)
    → ((p : ℕ) → nat_lt p (processors code) ≡ false → one p ≡ other p) → one ≡ other
same_shares code one other there absent = fun_ext (λ p. by p (nat_lt p (processors code)) refl)
  where
    by : (p : ℕ) (b : Bool) → nat_lt p (processors code) ≡ b → one p ≡ other p
    by p true e = there p (ltb-true p (processors code) e)
    by p false e = absent p e

pub absent_is : (code : Tables) (before next : Abreast) (p : ℕ) → nat_lt p (processors code) ≡ false
    → (of_processors code before next).shares p ≡ before.shares p
absent_is code before next p e = ap (λ b. if b then next.shares p else before.shares p) e

module _ (code : Tables) (slots : List Region) (shares : ℕ → Share) (items : List Item) where
  pub behind_there : (p : ℕ) → p < processors code
      → (behind code slots shares items).shares p
      ≡ record (shares p) { stores = stores_behind code slots shares items p }
  behind_there p below = there_is code (quiet shares) (all_behind code slots shares items) p below

  pub behind_absent : (p : ℕ) → nat_lt p (processors code) ≡ false
      → (behind code slots shares items).shares p ≡ shares p
  behind_absent p e = absent_is code (quiet shares) (all_behind code slots shares items) p e

  pub behind_written : AllWrite code slots shares items → (p : ℕ) → p < processors code
      → written (all_writes code slots shares items p) (shares p).stores
      ≡ Some (stores_behind code slots shares items p)
  behind_written write p below =
      is_written (written (all_writes code slots shares items p) (shares p).stores) (shares p).stores
      (write p below)

module _ (code : Tables) (layout : HasLayout code) (all : Abreast) (good : Good code layout all) where
  abbrev S : List Region
  S = (all.shares 0).slots

  abbrev shares : ℕ → Share
  shares = all.shares

  abbrev writes : List Item → ℕ → List Write
  writes = all_writes code S shares

  -- ---- fewer items, where the others bring what is there
  module _ (items js : List Item) (fit : (item : Item) → Among items item → FitsWell code layout item)
      (fewer : (item : Item) → Among js item → Among items item)
      (rest : (p : ℕ) → p < processors code → (w : Write) → Among (writes items p) w
      → Among (writes js p) w ⊎ Held (shares p).stores w)
      (said : AllSaid code S shares items) (write : AllWrite code S shares items) where
    fewer_writes : (p : ℕ) (w : Write) → Among (writes js p) w → Among (writes items p) w
    fewer_writes p w among =
        let sent = sent_is code S shares js p w among in
        is_sent code S shares items p w (record {
          owner = sent.owner;
          below = sent.below;
          apart = sent.apart;
          item = sent.item;
          one = fewer sent.item sent.one;
          place = sent.place;
          here = sent.here;
          is = sent.is;
        })

    pub fewer_said : AllSaid code S shares js
    fewer_said q p a b apart item among = said q p a b apart item (fewer item among)

    some_written : (p : ℕ) → p < processors code
        → (t : List Array) × (written (writes js p) (shares p).stores ≡ Some t)
    some_written p below =
        all_can (writes js p) (shares p).stores (λ w among.
        can_each (writes items p) (shares p).stores (stores_behind code S shares items p)
        (behind_written code S shares items write p below) w (fewer_writes p w among))

    pub fewer_write : AllWrite code S shares js
    fewer_write p below = let (t, is) = some_written p below in ap is_some is

    pub fewer_behind : behind code S shares items ≡ behind code S shares js
    fewer_behind =
        ap (λ s. record { shares = s; flights = [] })
        (same_shares code (behind code S shares items).shares (behind code S shares js).shares
        (λ p below.
        behind_there code S shares items p below
        ∙ (ap (λ stores. record (shares p) { stores = stores })
        (same_written (writes items p) (writes js p) (shares p).stores
        (stores_behind code S shares items p) (stores_behind code S shares js p)
        (coherent code layout S shares good.placed items fit p below) (fewer_writes p)
        (rest p below) (behind_written code S shares items write p below)
        (behind_written code S shares js fewer_write p below))
        ∙ sym (behind_there code S shares js p below)))
        (λ p e. behind_absent code S shares items p e ∙ sym (behind_absent code S shares js p e)))

  -- none at all
  pub none_behind : behind code S shares [] ≡ quiet shares
  none_behind =
      ap (λ s. record { shares = s; flights = [] })
      (same_shares code (behind code S shares []).shares shares
      (λ p below. behind_there code S shares [] p below
      ∙ ap (λ stores. record (shares p) { stores = stores }) (nothing p))
      (λ p e. behind_absent code S shares [] p e))
    where
      nothing : (p : ℕ) → stores_behind code S shares [] p ≡ (shares p).stores
      nothing p = by (writes [] p) (λ w among. absurd ((sent_is code S shares [] p w among).one))
        where
          by : (ws : List Write) → ((w : Write) → Among ws w → ⊥)
              → unwrap_or (written ws (shares p).stores) (shares p).stores ≡ (shares p).stores
          by [] none = refl
          by (w ∷ ws) none = absurd (none w (inl refl))

  -- ---- two exchanges
  module _ (xs ys js : List Item) (fit_xs : (item : Item) → Among xs item → FitsWell code layout item)
      (fit_ys : (item : Item) → Among ys item → FitsWell code layout item)
      (into : (item : Item) → Among xs item ⊎ Among ys item → Among js item)
      (out : (item : Item) → Among js item → Among xs item ⊎ Among ys item)
      (said_xs : AllSaid code S shares xs) (write_xs : AllWrite code S shares xs) where
    abbrev middle : ℕ → Share
    middle = (behind code S shares xs).shares

    stores_middle : (p : ℕ) → p < processors code
        → (middle p).stores ≡ stores_behind code S shares xs p
    stores_middle p below = ap (λ (s : Share). s.stores) (behind_there code S shares xs p below)

    fit_js : (item : Item) → Among js item → FitsWell code layout item
    fit_js item among = by (out item among)
      where
        by : Among xs item ⊎ Among ys item → FitsWell code layout item
        by (inl k) = fit_xs item k
        by (inr k) = fit_ys item k

    module _ (said_ys : AllSaid code S middle ys) (write_ys : AllWrite code S middle ys) where
      has_there : (q p : ℕ) → q < processors code → p < processors code → (q == p) ≡ false
          → (item : Item) → Among ys item → (t : List ℤ) → Among (owned code S q p item) t
          → has_in (shape (shares q).stores item.array) t ≡ true
      has_there q p a b apart item among t place =
          ap (λ o. has_in o t)
          (sym (ap (λ stores. shape stores item.array) (stores_middle q a)
          ∙ written_shapes (writes xs q) (shares q).stores (stores_behind code S shares xs q)
          (behind_written code S shares xs write_xs q a) item.array))
          ∙ some_has (middle q).stores item.array t (said_ys q p a b apart item among t place)

      value_same_there : (q p : ℕ) → q < processors code → p < processors code → (q == p) ≡ false
          → (item : Item) → Among ys item → (t : List ℤ) → Among (owned code S q p item) t
          → value_at (middle q).stores item.array t ≡ value_at (shares q).stores item.array t
      value_same_there q p a b apart item among t place =
          ap (λ stores. value_at stores item.array t) (stores_middle q a)
          ∙ value_stays code layout S shares good.placed xs fit_xs q p a b item (fit_ys item among) t
          place (has_there q p a b apart item among t place) (stores_behind code S shares xs q)
          (behind_written code S shares xs write_xs q a)

      pub joined_said : AllSaid code S shares js
      joined_said q p a b apart item among t place = by (out item among)
        where
          by : Among xs item ⊎ Among ys item → is_some (value_at (shares q).stores item.array t) ≡ true
          by (inl k) = said_xs q p a b apart item k t place
          by (inr k) =
              sym (ap is_some (value_same_there q p a b apart item k t place))
              ∙ said_ys q p a b apart item k t place

      write_same : (q p : ℕ) → q < processors code → p < processors code → (q == p) ≡ false
          → (item : Item) → Among ys item → (t : List ℤ) → Among (owned code S q p item) t
          → write_of code S middle q item.array t ≡ write_of code S shares q item.array t
      write_same q p a b apart item among t place =
          ap (λ o. record { array = item.array; place = t; value = unwrap_or o (pos 0) })
          (value_same_there q p a b apart item among t place)

      abbrev both : ℕ → List Write
      both p = writes xs p ++ all_writes code S middle ys p

      to_joined : (p : ℕ) → p < processors code → (w : Write) → Among (both p) w
          → Among (writes js p) w
      to_joined p below w among =
          by (among_appended (writes xs p) (all_writes code S middle ys p) w among)
        where
          by : Among (writes xs p) w ⊎ Among (all_writes code S middle ys p) w → Among (writes js p) w
          by (inl k) =
              let sent = sent_is code S shares xs p w k in
              is_sent code S shares js p w (record {
                owner = sent.owner;
                below = sent.below;
                apart = sent.apart;
                item = sent.item;
                one = into sent.item (inl sent.one);
                place = sent.place;
                here = sent.here;
                is = sent.is;
              })
          by (inr k) =
              let sent = sent_is code S middle ys p w k in
              is_sent code S shares js p w (record {
                owner = sent.owner;
                below = sent.below;
                apart = sent.apart;
                item = sent.item;
                one = into sent.item (inr sent.one);
                place = sent.place;
                here = sent.here;
                is =
                    sym (write_same sent.owner p sent.below below sent.apart sent.item sent.one sent.place
                    sent.here) ∙ sent.is;
              })

      from_joined : (p : ℕ) → p < processors code → (w : Write) → Among (writes js p) w
          → Among (both p) w
      from_joined p below w among =
          let sent = sent_is code S shares js p w among in by sent (out sent.item sent.one)
        where
          by : (sent : IsSent code S shares js p w) → Among xs sent.item ⊎ Among ys sent.item
              → Among (both p) w
          by sent (inl k) =
              Among-append_left (writes xs p) (all_writes code S middle ys p) w
              (is_sent code S shares xs p w (record {
                owner = sent.owner;
                below = sent.below;
                apart = sent.apart;
                item = sent.item;
                one = k;
                place = sent.place;
                here = sent.here;
                is = sent.is;
              }))
          by sent (inr k) =
              Among-append_right (writes xs p) (all_writes code S middle ys p) w
              (is_sent code S middle ys p w (record {
                owner = sent.owner;
                below = sent.below;
                apart = sent.apart;
                item = sent.item;
                one = k;
                place = sent.place;
                here = sent.here;
                is =
                    write_same sent.owner p sent.below below sent.apart sent.item k sent.place sent.here
                    ∙ sent.is;
              }))

      both_written : (p : ℕ) → p < processors code
          → written (both p) (shares p).stores ≡ Some (stores_behind code S middle ys p)
      both_written p below =
          written_append (writes xs p) (all_writes code S middle ys p) (shares p).stores
          ∙ (ap (option_and_then (written (all_writes code S middle ys p)))
          (behind_written code S shares xs write_xs p below)
          ∙ (ap (written (all_writes code S middle ys p)) (sym (stores_middle p below))
          ∙ behind_written code S middle ys write_ys p below))

      coherent_js : (p : ℕ) → p < processors code → Coherent (shares p).stores (writes js p)
      coherent_js p below = coherent code layout S shares good.placed js fit_js p below

      coherent_both : (p : ℕ) → p < processors code → Coherent (shares p).stores (both p)
      coherent_both p below one other k k' a i hit hit' =
          coherent_js p below one other (to_joined p below one k) (to_joined p below other k') a i hit hit'

      some_joined : (p : ℕ) → p < processors code
          → (t : List Array) × (written (writes js p) (shares p).stores ≡ Some t)
      some_joined p below =
          all_can (writes js p) (shares p).stores (λ w among.
          can_each (both p) (shares p).stores (stores_behind code S middle ys p) (both_written p below) w
          (from_joined p below w among))

      pub joined_write : AllWrite code S shares js
      joined_write p below = let (t, is) = some_joined p below in ap is_some is

      pub joined_behind : behind code S middle ys ≡ behind code S shares js
      joined_behind =
          ap (λ s. record { shares = s; flights = [] })
          (same_shares code (behind code S middle ys).shares (behind code S shares js).shares
          (λ p below.
          behind_there code S middle ys p below
          ∙ (ap (λ (s : Share). record s { stores = stores_behind code S middle ys p })
          (behind_there code S shares xs p below)
          ∙ (ap (λ stores. record (shares p) { stores = stores })
          (same_written (both p) (writes js p) (shares p).stores (stores_behind code S middle ys p)
          (stores_behind code S shares js p) (coherent_both p below)
          (from_joined p below) (λ w k. inl (to_joined p below w k)) (both_written p below)
          (behind_written code S shares js joined_write p below))
          ∙ sym (behind_there code S shares js p below))))
          (λ p e. behind_absent code S middle ys p e
          ∙ (behind_absent code S shares xs p e ∙ sym (behind_absent code S shares js p e))))
