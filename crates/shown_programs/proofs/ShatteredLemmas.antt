-- Shattered statements of accepted programs go as their code does.
use Rattle.std.proofs.Common.{◌≡◌, refl, subst, ℕ, Bool, true, false}
use Rattle.std.proofs.Common.{List, [], ◌∷◌, ◌++◌, Option, Some, None}
use Rattle.std.specs.Prelude.{slice_get}
use Rattle.std.specs.Option.{option_map}
use Rattle.zpl_nums.specs.declared.operators.Op.{Op}
use Rattle.zpl_tree.specs.Syntax.{Name, Base, Expr, Number, Truth, Coord, Named, Shifted, Around, Remap, Call, Paren, Neg, Not, Abs, Pair, Reduce, Scan, Flood, Prefix, Stmt, Prefixed, Stmts, NoStmt, ThenStmt, Form, Assign, Invoke, Block, If, While, Repeat, For, Border, Write, Return, Tested, Arms, NoArm, ThenArm, Otherwise, NoElse, Else, Program}
use Rattle.zpl_tree.specs.Grammar.{IsProgram}
use Rattle.zpl_names.specs.Kinds.{Rank}
use Rattle.zpl_names.specs.Ranks.{first_rank}
use Rattle.zpl_names.specs.Scope.{kind_of}
use Rattle.zpl_names.specs.Shapes.{Shapes}
use Rattle.zpl_names.specs.Sites.{Reach, Site, Assigned, AtStmt, Test, arms_rank, arms_sites, expr_sites, form_sites, is_shattered, otherwise_sites, stmt_sites, stmts_sites, test_rank, tests_rank, value_sites, whole_rank, whole_sites}
use Rattle.zpl_names.specs.Accepted.{IsFaultless}
use Rattle.zpl_names.specs.Faults.{flood_clashes}
use Rattle.zpl_names.proofs.NameLemmas.{no_place}
use Rattle.zpl_binding.specs.Settings.{Setting}
use Rattle.zpl_meaning.specs.Store.{Environment, Thing, Scalar, ArrayAt, Fixed, thing_of}
use Rattle.zpl_meaning.specs.Context.{Currents, Edge, Setup, Place, reach_of}
use Rattle.zpl_meaning.specs.Points.{Part, Reads, Writes, arms_parts, form_parts, otherwise_parts, stmt_parts, stmts_parts}
use Rattle.zpl_meaning.specs.Proper.{ArePointArms, ArePoints, HasCurrent, IsArray, IsPoint, IsPointElse, IsPointForm, IsProperStmt, IsProperTested}
use Rattle.zpl_meaning.specs.Visited.{IsVisited}
use Rattle.zpl_meaning.proofs.DepthLemmas.{Each, each_left, each_right}
use Rattle.zpl_meaning.proofs.ProperLemmas.{reach_at}
use Rattle.zpl_meaning.proofs.VisitLemmas.{Laws, IsHere, Inside, InStmt}
use Rattle.meaning_ranks.specs.Ranked.{ArePointArmsOf, ArePointsOf, IsArrayOf, IsPointElseOf, IsPointExpr, IsPointFormOf, IsPointOf, IsRankedStmt, IsRankedTested}
use Rattle.zpl_lowering.specs.Where.{Slotted, Where, slotted_at}
use Rattle.row_runs.specs.Straight.{Every}
use Rattle.flat_form.proofs.WordLemmas.{every_append}
use Rattle.served_places.specs.of_lowering_runs.Seen.{Spot, seen_thing}
use Rattle.point_runs.specs.of_array_runs.Floods.{IsReadableMaskAs}
use Rattle.point_runs.specs.Shattered.{IsServedPart, IsSplit, IsWrittenAs, SplitLeaf}
use Rattle.shown_programs.specs.Text.{IsPlainPart}
use Rattle.served_places.specs.Told.{IsPlainExpr, IsSeenFrom, IsTold, place_of, reach_told}
use Rattle.served_places.proofs.ToldLemmas.{HasSlotOf, has_slot, elementwise, writable}
use Rattle.shown_programs.proofs.CallLemmas.{setup}
use Rattle.shown_programs.proofs.PlaceLemmas.{IsPlaced, placed_proper, placed_ranked, placed_inside, each_free}

-- ---- values without operators over regions are no calls

pub plain_sites : (reach : Reach) (name : Name) (op : Option Op) (value : Expr) → IsPlainExpr value
    → value_sites reach name op value ≡ whole_sites reach (Assigned name op) value
plain_sites reach name (Some op) value h = refl
plain_sites reach name None (Number at number) h = refl
plain_sites reach name None (Truth at truth) h = refl
plain_sites reach name None (Coord at k) h = refl
plain_sites reach name None (Named at it) h = refl
plain_sites reach name None (Shifted at it shift) h = refl
plain_sites reach name None (Around at it shift) h = refl
plain_sites reach name None (Remap at it indices) h = refl
plain_sites reach name None (Paren at inside) h = refl
plain_sites reach name None (Neg at operand) h = refl
plain_sites reach name None (Not at operand) h = refl
plain_sites reach name None (Abs at operand) h = refl
plain_sites reach name None (Pair at o left right) h = refl
plain_sites reach name None (Reduce at operator over operand) h = refl
plain_sites reach name None (Scan at operator along operand) h = refl
plain_sites reach name None (Flood at source operand) h = refl
plain_sites reach name None (Call at it actuals) h = absurd h

module _ (program : Program) (settings : List Setting) (laws : Laws program)
    (grammar : IsProgram program) (clean : IsFaultless program) (own_text : List ℕ) where
  abbrev own : Setup
  own = setup program settings laws grammar clean

  -- ---- what is read and written in one

  module _ (text : List ℕ) (around : Shapes) (spots : List Spot) (w : Where)
      (environment : Environment) (answer : ℕ) (currents : Currents) (edge : Option Edge)
      (shapes : Shapes) (seen : IsSeenFrom spots w environment currents) (told : IsTold w shapes)
      (k : ℕ) (current : HasCurrent currents (Some k)) where
    abbrev inner : Place
    inner = place_of w environment answer currents edge

    abbrev Here : Site → Type 0
    Here site = IsHere program text around site

    abbrev slotted : Slotted
    slotted = slotted_at w.currents (Some k)

    abbrev AreServed : List Part → Type 0
    AreServed parts = Every (IsServedPart w slotted) parts

    abbrev told_at : Rank → Option Base → Reach
    told_at shattered result = reach_told w shapes shattered result

    slot : (shattered : Rank) (result : Option Base)
        → HasSlotOf spots w environment answer currents edge seen shapes told shattered result k
    slot shattered result =
        has_slot spots w environment answer currents edge seen shapes told shattered result k current

    read_served : (shattered : Rank) (result : Option Base) (rank : Rank) (expr : Expr)
        → IsPlainExpr expr → IsPointExpr inner (Some k) expr
        → Each Here (expr_sites (told_at shattered result) rank expr)
        → IsServedPart w slotted (Reads expr)
    read_served shattered result rank expr plain h sites = (
      h.0,
      elementwise spots w environment answer currents edge seen shapes told shattered result k
          (slot shattered result) rank expr plain h.1
          (each_free program text around (expr_sites (told_at shattered result) rank expr) sites),
    )

    write_served : (shattered : Rank) (result : Option Base) (at : ℕ) (prefixes : List Prefix)
        (name : Name) (op : Option Op) (value : Expr) → IsArrayOf inner (Some k) name
        → IsArray (thing_of environment name.text)
        → flood_clashes (AtStmt (told_at shattered result) at prefixes (Assign name op value)) ≡ []
        → IsServedPart w slotted (Writes name)
    write_served shattered result at prefixes name op value ranked array free =
        by (thing_of w.environment name.text) refl
        (subst (λ (o : Option Thing). IsArray o) (seen.names name.text) array)
      where
        by : (thing : Option Thing) → thing_of w.environment name.text ≡ thing
            → IsArray (option_map (seen_thing spots) thing) → IsWrittenAs w slotted thing
        by (Some (ArrayAt target home)) e h =
            writable spots w environment answer currents edge seen shapes told shattered result k
            (slot shattered result) (kind_of w.scope name) (slice_get w.numbers.arrays target) ranked
            (no_place _ at free) (told.arrays name target home e)
        by (Some (Scalar place)) e h = absurd h
        by (Some (Fixed fixed)) e h = absurd h
        by None e h = absurd h

    abbrev ArePlain : List Part → Type 0
    ArePlain parts = Every IsPlainPart parts

    plain_left : (one other : List Part) → ArePlain (one ++ other) → ArePlain one
    plain_left [] other h = tt
    plain_left (part ∷ one) other h = (h.0, plain_left one other h.1)

    plain_right : (one other : List Part) → ArePlain (one ++ other) → ArePlain other
    plain_right [] other h = h
    plain_right (part ∷ one) other h = plain_right one other h.1

    every_both : (one other : List Part) → AreServed one → AreServed other
        → AreServed (one ++ other)
    every_both one other h g = every_append (IsServedPart w slotted) one other h g

    mutual
      stmt_served : (stmt : Stmt) (shattered : Rank) (result : Option Base)
          → ArePlain (stmt_parts stmt) → IsPointOf inner (Some k) stmt → IsPoint inner (Some k) stmt
          → Each Here (stmt_sites (told_at shattered result) stmt) → AreServed (stmt_parts stmt)
      stmt_served (Prefixed at [] form) shattered result plain r p sites =
          form_served form shattered result at [] plain r p.1 sites.0 sites.1
      stmt_served (Prefixed at (prefix ∷ rest) form) shattered result plain r p sites = absurd p.0

      stmts_served : (stmts : Stmts) (shattered : Rank) (result : Option Base)
          → ArePlain (stmts_parts stmts) → ArePointsOf inner (Some k) stmts
          → ArePoints inner (Some k) stmts
          → Each Here (stmts_sites (told_at shattered result) stmts)
          → AreServed (stmts_parts stmts)
      stmts_served NoStmt shattered result plain r p sites = tt
      stmts_served (ThenStmt first rest) shattered result plain r p sites =
          let reach = told_at shattered result in
          every_both (stmt_parts first) (stmts_parts rest)
          (stmt_served first shattered result
          (plain_left (stmt_parts first) (stmts_parts rest) plain) r.0 p.0
          (each_left Here (stmt_sites reach first) (stmts_sites reach rest) sites))
          (stmts_served rest shattered result
          (plain_right (stmt_parts first) (stmts_parts rest) plain) r.1 p.1
          (each_right Here (stmt_sites reach first) (stmts_sites reach rest) sites))

      pub form_served : (form : Form) (shattered : Rank) (result : Option Base) (at : ℕ)
          (prefixes : List Prefix) → ArePlain (form_parts form)
          → IsPointFormOf inner (Some k) form
          → IsPointForm inner (Some k) form
          → Here (AtStmt (told_at shattered result) at prefixes form)
          → Each Here (form_sites (told_at shattered result) form) → AreServed (form_parts form)
      form_served (Assign name op value) shattered result at prefixes plain r p here sites =
          let reach = told_at shattered result in (
            write_served shattered result at prefixes name op value r.0 p.0 here.clean.under.floods,
            (
              read_served shattered result (whole_rank reach (Assigned name op) value) value
                  plain.1.0 r.1
                  (subst (λ (sites : List Site). Each Here sites)
                  (plain_sites reach name op value plain.1.0) sites).1,
              tt,
            ),
          )
      form_served (Block body) shattered result at prefixes plain r p here sites =
          stmts_served body (first_rank shattered (Some 0)) None plain r p sites
      form_served (If arms otherwise) shattered result at prefixes plain r p here sites =
          let reach = told_at shattered result in
          let rank = first_rank shattered (arms_rank reach arms) in
          let within = told_at rank None in
          every_both (arms_parts arms) (otherwise_parts otherwise)
          (arms_served arms shattered result rank
          (plain_left (arms_parts arms) (otherwise_parts otherwise) plain) r.0 p.0
          (each_left Here (arms_sites reach within arms) (otherwise_sites within otherwise) sites))
          (otherwise_served otherwise rank
          (plain_right (arms_parts arms) (otherwise_parts otherwise) plain) r.1 p.1
          (each_right Here (arms_sites reach within arms) (otherwise_sites within otherwise) sites))
      form_served (While test body) shattered result at prefixes plain r p here sites =
          let reach = told_at shattered result in
          let rank = first_rank shattered (test_rank reach test) in
          let within = told_at rank None in (
            read_served shattered result (whole_rank reach Test test) test plain.0 r.0
                (each_left Here (whole_sites reach Test test) (stmts_sites within body) sites).1,
            stmts_served body rank None plain.1 r.1 p.1
                (each_right Here (whole_sites reach Test test) (stmts_sites within body) sites),
          )
      form_served (Repeat body until test) shattered result at prefixes plain r p here sites =
          let reach = told_at shattered result in
          let rank = first_rank shattered (test_rank reach test) in
          let within = told_at rank None in
          every_both (stmts_parts body) (Reads test ∷ [])
          (stmts_served body rank None (plain_left (stmts_parts body) (Reads test ∷ []) plain) r.1 p.1
          (each_left Here (stmts_sites within body) (whole_sites reach Test test) sites)) (
            read_served shattered result (whole_rank reach Test test) test
                (plain_right (stmts_parts body) (Reads test ∷ []) plain).0 r.0
                (each_right Here (stmts_sites within body) (whole_sites reach Test test) sites).1,
            tt,
          )
      form_served (Invoke name actuals) shattered result at prefixes plain r p here sites = absurd r
      form_served (For head body) shattered result at prefixes plain r p here sites = absurd r
      form_served (Border kind names) shattered result at prefixes plain r p here sites = absurd r
      form_served (Write line items) shattered result at prefixes plain r p here sites = absurd r
      form_served (Return value) shattered result at prefixes plain r p here sites = absurd r

      arms_served : (arms : Arms) (shattered : Rank) (result : Option Base) (deeper : Rank)
          → ArePlain (arms_parts arms) → ArePointArmsOf inner (Some k) arms
          → ArePointArms inner (Some k) arms
          → Each Here (arms_sites (told_at shattered result) (told_at deeper None) arms)
          → AreServed (arms_parts arms)
      arms_served NoArm shattered result deeper plain r p sites = tt
      arms_served (ThenArm (Tested at test body) rest) shattered result deeper plain r p sites =
          let reach = told_at shattered result in
          let within = told_at deeper None in
          let own_sites = whole_sites reach Test test ++ stmts_sites within body in
          let mine = each_left Here own_sites (arms_sites reach within rest) sites in
          let own_plain = plain_left (Reads test ∷ stmts_parts body) (arms_parts rest) plain in
          every_both (Reads test ∷ stmts_parts body) (arms_parts rest) (
            read_served shattered result (whole_rank reach Test test) test own_plain.0 r.0.0
                (each_left Here (whole_sites reach Test test) (stmts_sites within body) mine).1,
            stmts_served body deeper None own_plain.1 r.0.1 p.0.1
                (each_right Here (whole_sites reach Test test) (stmts_sites within body) mine),
          )
          (arms_served rest shattered result deeper
          (plain_right (Reads test ∷ stmts_parts body) (arms_parts rest) plain) r.1 p.1
          (each_right Here own_sites (arms_sites reach within rest) sites))

      otherwise_served : (otherwise : Otherwise) (deeper : Rank)
          → ArePlain (otherwise_parts otherwise) → IsPointElseOf inner (Some k) otherwise
          → IsPointElse inner (Some k) otherwise
          → Each Here (otherwise_sites (told_at deeper None) otherwise)
          → AreServed (otherwise_parts otherwise)
      otherwise_served NoElse deeper plain r p sites = tt
      otherwise_served (Else body) deeper plain r p sites =
          stmts_served body deeper None plain r p sites

  -- ---- the statement

  module _ (proper : (place : Place) (stmt : Stmt) → IsVisited own place stmt
      → IsProperStmt place stmt)
      (ranked : (place : Place) (stmt : Stmt) → IsVisited own place stmt
      → IsRankedStmt place stmt)
      (at : ℕ) (prefixes : List Prefix) (spots : List Spot) (w : Where)
      (environment : Environment) (answer : ℕ) (currents : Currents) (edge : Option Edge)
      (shapes : Shapes) where
    abbrev place : Place
    place = place_of w environment answer currents edge

    abbrev Placed : Form → Type 0
    Placed form =
        IsPlaced program settings laws grammar clean own_text at prefixes form spots w environment
        answer currents edge shapes

    split_suits : (form : Form) (h : Placed form) → is_shattered (reach_of place) form ≡ true
        → Every IsPlainPart (form_parts form) → IsRankedTested true place form → IsProperTested true place form
        → Each (IsHere program h.here.text h.here.around)
        (AtStmt (reach_at place shapes h.here.shattered h.here.result) at prefixes form
        ∷ form_sites (reach_at place shapes h.here.shattered h.here.result) form)
        → IsSplit form w place
    split_suits form h t plain r p sites =
        let s = by (tests_rank (reach_of place) form) r p.0 p.1 in
        record { shattered = t; current = p.0; masked = s.0; parts = s.1 }
      where
        by : (rank : Rank) → IsPointFormOf place rank form → HasCurrent place.currents rank
            → IsPointForm place rank form
            → IsReadableMaskAs w (slotted_at w.currents rank) (slotted_at w.currents rank).mask
            × Every (IsServedPart w (slotted_at w.currents rank)) (form_parts form)
        by None r c p = absurd c
        by (Some k) r c p = (
          (has_slot spots w environment answer currents edge h.seen shapes h.known.told
              h.here.shattered h.here.result k c).masked,
          form_served h.here.text h.here.around spots w environment answer currents edge shapes h.seen
              h.known.told k c form h.here.shattered h.here.result at prefixes plain r p sites.0 sites.1,
        )

    placed_split : (form : Form) (h : Placed form) → is_shattered (reach_of place) form ≡ true
        → Every IsPlainPart (form_parts form) → IsRankedTested (is_shattered (reach_of place) form) place form
        → IsProperTested (is_shattered (reach_of place) form) place form
        → Each (IsHere program h.here.text h.here.around)
        (AtStmt (reach_at place shapes h.here.shattered h.here.result) at prefixes form
        ∷ form_sites (reach_at place shapes h.here.shattered h.here.result) form)
        → IsSplit form w place
    placed_split form h t plain r p sites =
        split_suits form h t plain (subst (λ (b : Bool). IsRankedTested b place form) t r)
        (subst (λ (b : Bool). IsProperTested b place form) t p) sites

    abbrev Sited : (form : Form) → Placed form → Type 0
    Sited form h =
        Inside program h.here.text h.here.around
        (reach_at place shapes h.here.shattered h.here.result) at prefixes form

    if_suits : (arms : Arms) (otherwise : Otherwise) (h : Placed (If arms otherwise))
        → is_shattered (reach_of place) (If arms otherwise) ≡ true
        → Every IsPlainPart (form_parts (If arms otherwise)) → Sited (If arms otherwise) h
        → IsSplit (If arms otherwise) w place
    if_suits arms otherwise h t plain (InStmt sites) =
        let form = If arms otherwise in
        placed_split form h t plain
        (placed_ranked program settings laws grammar clean own_text proper ranked at prefixes form
        spots w environment answer currents edge shapes h)
        (placed_proper program settings laws grammar clean own_text proper ranked at prefixes form
        spots w environment answer currents edge shapes h) sites

    while_suits : (test : Expr) (body : Stmts) (h : Placed (While test body))
        → is_shattered (reach_of place) (While test body) ≡ true
        → Every IsPlainPart (form_parts (While test body)) → Sited (While test body) h
        → IsSplit (While test body) w place
    while_suits test body h t plain (InStmt sites) =
        let form = While test body in
        placed_split form h t plain
        (placed_ranked program settings laws grammar clean own_text proper ranked at prefixes form
        spots w environment answer currents edge shapes h)
        (placed_proper program settings laws grammar clean own_text proper ranked at prefixes form
        spots w environment answer currents edge shapes h) sites

    repeat_suits : (body : Stmts) (until : ℕ) (test : Expr) (h : Placed (Repeat body until test))
        → is_shattered (reach_of place) (Repeat body until test) ≡ true
        → Every IsPlainPart (form_parts (Repeat body until test)) → Sited (Repeat body until test) h → IsSplit (Repeat body until test) w place
    repeat_suits body until test h t plain (InStmt sites) =
        let form = Repeat body until test in
        placed_split form h t plain
        (placed_ranked program settings laws grammar clean own_text proper ranked at prefixes form
        spots w environment answer currents edge shapes h)
        (placed_proper program settings laws grammar clean own_text proper ranked at prefixes form
        spots w environment answer currents edge shapes h) sites

    sited : (form : Form) (h : Placed form) → Sited form h
    sited form h =
        placed_inside program settings laws grammar clean own_text proper ranked at prefixes form
        spots w environment answer currents edge shapes h

    pub shattered_suits : (form : Form) → Placed form
        → is_shattered (reach_of place) form ≡ true → Every IsPlainPart (form_parts form)
        → SplitLeaf at form w place
    shattered_suits (If arms otherwise) h t plain =
        if_suits arms otherwise h t plain (sited (If arms otherwise) h)
    shattered_suits (While test body) h t plain = while_suits test body h t plain (sited (While test body) h)
    shattered_suits (Repeat body until test) h t plain =
        repeat_suits body until test h t plain (sited (Repeat body until test) h)
    shattered_suits (Assign name op value) h t plain = absurd (let no : false ≡ true = t in cc)
    shattered_suits (Invoke name actuals) h t plain = absurd (let no : false ≡ true = t in cc)
    shattered_suits (Block body) h t plain = absurd (let no : false ≡ true = t in cc)
    shattered_suits (For head body) h t plain = absurd (let no : false ≡ true = t in cc)
    shattered_suits (Border kind names) h t plain = absurd (let no : false ≡ true = t in cc)
    shattered_suits (Write line items) h t plain = absurd (let no : false ≡ true = t in cc)
    shattered_suits (Return value) h t plain = absurd (let no : false ≡ true = t in cc)
