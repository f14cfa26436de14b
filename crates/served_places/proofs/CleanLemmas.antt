-- Clean statements suit their places, where these are as the text says.
use Rattle.std.proofs.Common.{◌≡◌, inl, inr, refl, sym, ◌∙◌, ℕ, zero, suc, Bool}
use Rattle.std.proofs.Common.{List, [], ◌∷◌, Option, Some, None}
use Rattle.std.specs.Prelude.{IsSome}
use Rattle.std.specs.Option.{option_map}
use Rattle.zpl_region.specs.declared.regions.Region.{Region}
use Rattle.zpl_tree.specs.Syntax.{Base, Prefix, Stmt, Prefixed, Stmts, NoStmt, ThenStmt, Form, Assign, Invoke, Block, If, While, Repeat, For, Border, Write, Return, Tested, Arms, NoArm, ThenArm, Otherwise, NoElse, Else}
use Rattle.zpl_names.specs.Kinds.{Rank}
use Rattle.zpl_names.specs.Shapes.{Shapes, prefix_rank, shapes_under}
use Rattle.zpl_meaning.specs.Store.{Thing, Scalar, ArrayAt, Fixed, Environment, thing_of}
use Rattle.zpl_meaning.specs.Context.{Over, Currents, Edge, Setup, Place, with_over}
use Rattle.prefix_runs.specs.of_zpl_lowering.Where.{Slotted, SlotCurrents, with_slotted, Where}
use Rattle.prefix_runs.specs.of_zpl_lowering.Statement as low
use Rattle.prefix_runs.specs.of_lowering_runs.Seen.{Spot, seen_thing}
use Rattle.prefix_runs.specs.of_lowering_runs.Suits.{SuitsStmt, SuitAll, SuitsForm, SuitArms, SuitsElse}
use Rattle.prefix_runs.specs.Under.{opened_at, over_of, mean_under, IsUnder}
use Rattle.prefix_runs.specs.Plain.{PlainLeaf}
use Rattle.served_places.specs.Told.{place_of}
use Rattle.served_places.specs.Clean.{StandsAsTold, IsCleanPrefix, IsCleanUnder, IsCleanStmt, AreClean, IsCleanForm, AreCleanArms, IsCleanElse}
use Rattle.served_places.proofs.ToldLemmas.{array_served}
use Rattle.served_places.proofs.GivenLemmas.{prefix_opens}
use Rattle.served_places.proofs.PrefixLemmas.{under_told}

-- ---- what is seen behind a prefix

pub one_with : (currents : Currents) (slots : SlotCurrents) (rank : Rank) (over : Over)
    (slotted : Slotted) → (IsSome currents.one → IsSome slots.one)
    → IsSome (with_over currents rank over).one → IsSome (with_slotted slots rank slotted).one
one_with currents slots (Some (suc zero)) over slotted f h = refl
one_with currents slots (Some (suc (suc zero))) over slotted f h = f h
one_with currents slots (Some (suc (suc (suc zero)))) over slotted f h = f h
one_with currents slots (Some zero) over slotted f h = f h
one_with currents slots (Some (suc (suc (suc (suc k))))) over slotted f h = f h
one_with currents slots None over slotted f h = f h

pub two_with : (currents : Currents) (slots : SlotCurrents) (rank : Rank) (over : Over)
    (slotted : Slotted) → (IsSome currents.two → IsSome slots.two)
    → IsSome (with_over currents rank over).two → IsSome (with_slotted slots rank slotted).two
two_with currents slots (Some (suc zero)) over slotted f h = f h
two_with currents slots (Some (suc (suc zero))) over slotted f h = refl
two_with currents slots (Some (suc (suc (suc zero)))) over slotted f h = f h
two_with currents slots (Some zero) over slotted f h = f h
two_with currents slots (Some (suc (suc (suc (suc k))))) over slotted f h = f h
two_with currents slots None over slotted f h = f h

pub three_with : (currents : Currents) (slots : SlotCurrents) (rank : Rank) (over : Over)
    (slotted : Slotted) → (IsSome currents.three → IsSome slots.three)
    → IsSome (with_over currents rank over).three
    → IsSome (with_slotted slots rank slotted).three
three_with currents slots (Some (suc zero)) over slotted f h = f h
three_with currents slots (Some (suc (suc zero))) over slotted f h = f h
three_with currents slots (Some (suc (suc (suc zero)))) over slotted f h = refl
three_with currents slots (Some zero) over slotted f h = f h
three_with currents slots (Some (suc (suc (suc (suc k))))) over slotted f h = f h
three_with currents slots None over slotted f h = f h

pub array_there : (spots : List Spot) (thing : Option Thing) (target : ℕ) (home : Region)
    → option_map (seen_thing spots) thing ≡ Some (ArrayAt target home)
    → thing ≡ Some (ArrayAt target home)
array_there spots (Some (ArrayAt p other)) target home e = e
array_there spots (Some (Scalar p)) target home e = cc
array_there spots (Some (Fixed value)) target home e = cc
array_there spots None target home e = cc

module _ (spots : List Spot) (setup : Setup) (IsCallable : List ℕ → Type 0) (shattered : Rank)
    (result : Option Base) (environment : Environment) (answer : ℕ) where
  abbrev Served : (Place → Shapes → Type 0) → (Where → Place → Type 0) → Type 0
  Served IsClean IsServed =
      (w : Where) (currents : Currents) (edge : Option Edge) (shapes : Shapes)
      → StandsAsTold spots environment w currents shapes → IsClean (place_of w environment answer currents edge) shapes
      → IsServed w (place_of w environment answer currents edge)

  under_served : (borders : Bool) (prefixes : List Prefix) (IsClean : Place → Shapes → Type 0)
      (IsServed : Where → Place → Type 0) → Served IsClean IsServed
      → Served (IsCleanUnder shattered result prefixes IsClean) (IsUnder borders prefixes IsServed)
  under_served borders [] IsClean IsServed f w currents edge shapes stands h =
      f w currents edge shapes stands h
  under_served borders (prefix ∷ rest) IsClean IsServed f w currents edge shapes stands h =
      let place = place_of w environment answer currents edge in
      let c : IsCleanPrefix shattered result prefix place shapes = h.0 in
      let opens = prefix_opens place stands.given prefix c.proper c.ranked c.sound in (
        opens,
        λ slot line store region meant told.
            let opened = opened_at (low.is_last borders rest) w slot line prefix in
            let inner = low.under_prefix w prefix opened in
            let there = mean_under place prefix region in
            under_served borders rest IsClean IsServed f inner there.currents there.edge
            (shapes_under w.scope shapes (prefix_rank w.scope w.prefix prefix) prefix)
            (record {
              seen = record {
                names = stands.seen.names;
                one = one_with currents w.currents (prefix_rank w.scope w.prefix prefix)
                    (over_of place prefix region) _ stands.seen.one;
                two = two_with currents w.currents (prefix_rank w.scope w.prefix prefix)
                    (over_of place prefix region) _ stands.seen.two;
                three = three_with currents w.currents (prefix_rank w.scope w.prefix prefix)
                    (over_of place prefix region) _ stands.seen.three;
              };
              told = under_told w environment answer currents edge shapes stands.told stands.given
                  shattered result prefix opens c.ranked.1 c.shape c.shape_is c.count c.free
                  (low.is_last borders rest) slot line;
              given = stands.given;
            }) (h.1 store region meant),
      )

  abbrev Leaf : ℕ → Form → Where → Place → Type 0
  Leaf = PlainLeaf setup IsCallable

  mutual
    pub stmt_served : (stmt : Stmt)
        → Served (IsCleanStmt setup IsCallable shattered result stmt) (SuitsStmt IsUnder Leaf stmt)
    stmt_served (Prefixed at prefixes form) =
        under_served (low.is_border form) prefixes
        (λ inner there. IsCleanForm setup IsCallable shattered result at prefixes form inner there)
        (λ inner there. SuitsForm IsUnder Leaf at form inner there) (form_served form at prefixes)

    all_served : (stmts : Stmts)
        → Served (AreClean setup IsCallable shattered result stmts) (SuitAll IsUnder Leaf stmts)
    all_served NoStmt w currents edge shapes stands h = tt
    all_served (ThenStmt first rest) w currents edge shapes stands h = (
      stmt_served first w currents edge shapes stands h.0,
      all_served rest w currents edge shapes stands h.1,
    )

    form_served : (form : Form) (at : ℕ) (prefixes : List Prefix)
        → Served (IsCleanForm setup IsCallable shattered result at prefixes form)
        (SuitsForm IsUnder Leaf at form)
    form_served (Assign name op value) at prefixes w currents edge shapes stands (inl h) = inl (h w)
    form_served (Assign name op value) at prefixes w currents edge shapes stands (inr h) =
        inr (array_served spots w environment answer currents edge stands.seen shapes stands.told
        shattered result at prefixes name op value h.target h.home
        (array_there spots (thing_of w.environment name.text) h.target h.home
        (sym (stands.seen.names name.text) ∙ h.is_array)) h.plain h.proper h.ranked h.free h.frees)
    form_served (Invoke name actuals) at prefixes w currents edge shapes stands h = inl (h w)
    form_served (Block body) at prefixes w currents edge shapes stands h =
        all_served body w currents edge shapes stands h
    form_served (If arms otherwise) at prefixes w currents edge shapes stands h =
        inr (
          h.0,
          (
            arms_served arms w currents edge shapes stands h.1.0,
            else_served otherwise w currents edge shapes stands h.1.1,
          ),
        )
    form_served (While test body) at prefixes w currents edge shapes stands h =
        inr (h.0, (h.1.0, all_served body w currents edge shapes stands h.1.1))
    form_served (Repeat body until test) at prefixes w currents edge shapes stands h =
        inr (h.0, (h.1.0, all_served body w currents edge shapes stands h.1.1))
    form_served (For head body) at prefixes w currents edge shapes stands h =
        (h.0, all_served body w currents edge shapes stands h.1)
    form_served (Border kind names) at prefixes w currents edge shapes stands h = absurd h
    form_served (Write line items) at prefixes w currents edge shapes stands h = inl h
    form_served (Return value) at prefixes w currents edge shapes stands h = absurd h

    arms_served : (arms : Arms)
        → Served (AreCleanArms setup IsCallable shattered result arms) (SuitArms IsUnder Leaf arms)
    arms_served NoArm w currents edge shapes stands h = tt
    arms_served (ThenArm (Tested own test body) rest) w currents edge shapes stands h = (
      (h.0.0, all_served body w currents edge shapes stands h.0.1),
      arms_served rest w currents edge shapes stands h.1,
    )

    else_served : (otherwise : Otherwise)
        → Served (IsCleanElse setup IsCallable shattered result otherwise)
        (SuitsElse IsUnder Leaf otherwise)
    else_served NoElse w currents edge shapes stands h = tt
    else_served (Else body) w currents edge shapes stands h =
        all_served body w currents edge shapes stands h
