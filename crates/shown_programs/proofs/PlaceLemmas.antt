-- Statements of whole programs suit the places where they are run: by what the text says of prefixes,
-- and by what is known of forms that have no statements in them.
use Rattle.std.proofs.Common.{◌≡◌, inl, inr, ℕ, Bool, false, List, [], ◌∷◌, ◌++◌}
use Rattle.std.proofs.Common.{map, Option, Some, None, option_to_list, refl, sym, ap, ◌∙◌, subst}
use Rattle.std.specs.Prelude.{Contains}
use Rattle.std.specs.List.{AllByRecursion}
use Rattle.std.proofs.lemmas.List.Elements.{Contains-append_left, Contains-append_right}
use Rattle.zpl_tree.specs.Syntax.{Expr, ForHead, Base, Mask as MaskText, Prefix, Stmt, Prefixed, Stmts, NoStmt, ThenStmt, Form, Assign, Invoke, Block, If, While, Repeat, For, Border, Write, Return, Tested, Arms, NoArm, ThenArm, Otherwise, NoElse, Else, Program}
use Rattle.zpl_tree.specs.Grammar.{IsPrefix, IsProgram}
use Rattle.zpl_names.specs.Kinds.{Rank}
use Rattle.zpl_names.specs.Ranks.{mask_rank}
use Rattle.zpl_names.specs.Shapes.{Shapes, current_at, inner_shape, prefix_rank, shapes_under}
use Rattle.zpl_names.specs.Sites.{Reach, Role, Site, AtMask, Limit, Test as TestRole, region_sites, prefix_sites, prefixes_sites, under_prefixes, arms_rank, arms_sites, expr_sites, inside, is_shattered, otherwise_sites, step_sites, stmts_sites, test_rank, whole_rank, whole_sites}
use Rattle.zpl_names.specs.Sites.{under_prefix as reach_under}
use Rattle.zpl_names.specs.Faults.{flood_clashes}
use Rattle.zpl_names.specs.Accepted.{IsFaultless}
use Rattle.zpl_binding.specs.Regions.{Known}
use Rattle.zpl_binding.proofs.LimitLemmas.{HasLimited}
use Rattle.zpl_binding.specs.Settings.{Setting}
use Rattle.zpl_meaning.specs.Store.{Environment}
use Rattle.zpl_meaning.specs.Context.{Currents, Edge, Setup, Place, reach_of}
use Rattle.zpl_meaning.specs.Proper.{IsProperForm, IsProperUnder, IsProper, IsProperScalar, IsProperStmt, AreProperTests}
use Rattle.zpl_meaning.specs.Regions as mean
use Rattle.zpl_meaning.specs.Visited as visits
use Rattle.zpl_meaning.specs.Visited.{IsVisited, Holds, list_of, arms_parts, else_parts, parts_of}
use Rattle.zpl_meaning.specs.Statement.{step_expr}
use Rattle.zpl_meaning.proofs.DepthLemmas.{Each, each_left, each_right}
use Rattle.zpl_meaning.proofs.ProperLemmas.{IsClean, Clean, Fits as FitsPlace, reach_at}
use Rattle.zpl_meaning.proofs.StatementLemmas.{fits_under}
use Rattle.zpl_meaning.proofs.VisitLemmas.{Laws, IsHere, clean_of, Inside, InStmt}
use Rattle.meaning_ranks.specs.Ranked.{AreRankedTests, IsOfRank, IsRanked, IsRankedForm, IsRankedTested, IsRankedUnder, IsRankedStmt}
use Rattle.meaning_ranks.proofs.CurrentLemmas.{region_told, region_first}
use Rattle.meaning_ranks.proofs.PlaceLemmas.{IsAt, behind, inside_at, part_at}
use Rattle.zpl_lowering.specs.Where.{Where}
use Rattle.zpl_lowering.specs.Statement as low
use Rattle.served_places.specs.of_lowering_runs.Seen.{Spot}
use Rattle.served_places.specs.of_lowering_runs.Suits.{IsServedHeadBy, SuitsStmtBy, SuitAllBy, SuitsFormBy, SuitArmsBy, SuitsElseBy}
use Rattle.served_places.proofs.of_lowering_runs.StatementLemmas.{false_choice, contains_first, contains_later}
use Rattle.operator_runs.specs.Served.{OperatedValue}
use Rattle.served_places.specs.of_prefix_runs.Under.{opened_at, over_of, mean_under, IsUnder}
use Rattle.served_places.specs.Told.{IsSeenFrom, AreFree, place_of}
use Rattle.served_places.proofs.GivenLemmas.{prefix_opens}
use Rattle.served_places.proofs.PrefixLemmas.{under_told}
use Rattle.served_places.proofs.CleanLemmas.{one_with, two_with, three_with}
use Rattle.shown_programs.specs.Operators.{IsOperatedExpr}
use Rattle.shown_programs.specs.Text.{HaveSmallPrefixes, behind_prefixes, IsOperatedText, IsShownStmt, AreShown, IsShownForm, AreShownArms, IsShownElse}
use Rattle.shown_programs.proofs.BoundedLemmas.{IsBoundedAt, bounded_under, known_limited}
use Rattle.shown_programs.proofs.CallLemmas.{setup, text_of, IsKnownAt}
use Rattle.shown_programs.proofs.ShapeLemmas.{are_told, currents_of, shape_of}
use Rattle.shown_programs.proofs.OperandLemmas.{serves_alone}
use Rattle.shown_programs.proofs.SourceLemmas.{AllGivenSources, AreGivenInner, AreGivenItems, AreGivenSources, IsCallOf, ProcedureText, operated_text, sound_inner}

-- ---- sites without a clash

pub each_free : (program : Program) (text : List ℕ) (around : Shapes) (sites : List Site)
    → Each (IsHere program text around) sites → AreFree sites
each_free program text around [] h = tt
each_free program text around (site ∷ sites) h =
    (h.0.clean.under.floods, each_free program text around sites h.1)

-- ---- what is told of a form behind its prefixes

proper_behind : (prefixes : List Prefix) (form : Form) (place inner : Place)
    → IsProperUnder place prefixes form → visits.IsUnder prefixes place inner
    → IsProperForm inner form
proper_behind [] form place inner h visits.Itself = h
proper_behind (prefix ∷ rest) form place inner h (visits.Behind over deeper) =
    proper_behind rest form (mean.under_prefix place prefix over) inner (h.1 over) deeper

ranked_behind : (prefixes : List Prefix) (form : Form) (place inner : Place)
    → IsRankedUnder place prefixes form → visits.IsUnder prefixes place inner
    → IsRankedForm inner form
ranked_behind [] form place inner h visits.Itself = h
ranked_behind (prefix ∷ rest) form place inner h (visits.Behind over deeper) =
    ranked_behind rest form (mean.under_prefix place prefix over) inner (h.1 over) deeper

reach_behind : (prefixes : List Prefix) (place inner : Place) → visits.IsUnder prefixes place inner
    → behind_prefixes (reach_of place) prefixes ≡ reach_of inner
reach_behind [] place inner visits.Itself = refl
reach_behind (prefix ∷ rest) place inner (visits.Behind over deeper) =
    reach_behind rest (mean.under_prefix place prefix over) inner deeper

-- one whose tests have rank 0
ranked_choice : (b : Bool) (place : Place) (form : Form) → b ≡ false → IsRankedTested b place form
    → IsRankedTested false place form
ranked_choice b place form e h = subst (λ (c : Bool). IsRankedTested c place form) e h

-- vectors that stand in brackets have no fault
abbrev pub AreGivenPrefixes : Known → List Prefix → Type 0
AreGivenPrefixes known [] = Unit {0}
AreGivenPrefixes known (prefix ∷ rest) =
    AreGivenInner known prefix.region × AreGivenPrefixes known rest

abbrev pub IsGivenHead : ProcedureText → ForHead → Type 0
IsGivenHead own head =
    AreGivenSources own head.first × AreGivenSources own head.last
    × AreGivenSources own (step_expr head.step)

abbrev mutual
  pub IsGivenStmt : ProcedureText → Stmt → Type 0
  IsGivenStmt own (Prefixed at prefixes form) =
      AreGivenPrefixes own.known prefixes × IsGivenForm own form

  pub AreGivenStmts : ProcedureText → Stmts → Type 0
  AreGivenStmts own NoStmt = Unit {0}
  AreGivenStmts own (ThenStmt first rest) = IsGivenStmt own first × AreGivenStmts own rest

  pub IsGivenForm : ProcedureText → Form → Type 0
  IsGivenForm own (Block body) = AreGivenStmts own body
  IsGivenForm own (If arms otherwise) = AreGivenArms own arms × IsGivenElse own otherwise
  IsGivenForm own (While test body) = AreGivenSources own test × AreGivenStmts own body
  IsGivenForm own (Repeat body until test) = AreGivenSources own test × AreGivenStmts own body
  IsGivenForm own (For head body) = IsGivenHead own head × AreGivenStmts own body
  IsGivenForm own (Assign name op value) = AreGivenSources own value
  IsGivenForm own (Invoke name actuals) =
      IsCallOf own name actuals × AllGivenSources own actuals
  IsGivenForm own (Border kind names) = Unit {0}
  IsGivenForm own (Write line items) = AreGivenItems own items
  IsGivenForm own (Return value) = AreGivenSources own value

  pub AreGivenArms : ProcedureText → Arms → Type 0
  AreGivenArms own NoArm = Unit {0}
  AreGivenArms own (ThenArm (Tested at test body) rest) =
      (AreGivenSources own test × AreGivenStmts own body) × AreGivenArms own rest

  pub IsGivenElse : ProcedureText → Otherwise → Type 0
  IsGivenElse own NoElse = Unit {0}
  IsGivenElse own (Else body) = AreGivenStmts own body

module _ (program : Program) (settings : List Setting) (laws : Laws program)
    (grammar : IsProgram program) (clean : IsFaultless program) (own_text : List ℕ) where
  abbrev At : Place → Shapes → Stmt → Type 0
  At place shapes stmt = IsAt program settings laws grammar clean place shapes stmt

  abbrev Here : Where → Shapes → Type 0
  Here w shapes = IsKnownAt program settings laws grammar clean own_text w shapes

  abbrev own_setup : Setup
  own_setup = setup program settings laws grammar clean

  abbrev own_source : ProcedureText
  own_source = text_of program settings laws grammar clean own_text

  -- Where a form is run, behind its prefixes.
  pub record IsPlaced (at : ℕ) (prefixes : List Prefix) (form : Form) (spots : List Spot)
      (w : Where) (environment : Environment) (answer : ℕ) (currents : Currents)
      (edge : Option Edge) (shapes : Shapes) : Type 0 where
    pub start : Place
    pub outer : Shapes
    pub here : At start outer (Prefixed at prefixes form)
    pub visited : IsVisited own_setup start (Prefixed at prefixes form)
    pub under : visits.IsUnder prefixes start (place_of w environment answer currents edge)
    pub shapes_are : (behind program settings laws grammar clean start
        (place_of w environment answer currents edge) outer at prefixes form here under).under
        ≡ shapes
    pub known : Here w shapes
    pub seen : IsSeenFrom spots w environment currents
    pub bounded : IsBoundedAt (place_of w environment answer currents edge)
    pub given : IsGivenForm own_source form

  module _ (proper : (place : Place) (stmt : Stmt) → IsVisited own_setup place stmt
      → IsProperStmt place stmt)
      (ranked : (place : Place) (stmt : Stmt) → IsVisited own_setup place stmt
      → IsRankedStmt place stmt) where
    module _ (at : ℕ) (prefixes : List Prefix) (form : Form) (spots : List Spot) (w : Where)
        (environment : Environment) (answer : ℕ) (currents : Currents) (edge : Option Edge)
        (shapes : Shapes)
        (h : IsPlaced at prefixes form spots w environment answer currents edge shapes) where
      abbrev inner : Place
      inner = place_of w environment answer currents edge

      pub placed_proper : IsProperForm inner form
      placed_proper =
          proper_behind prefixes form h.start inner
          (proper h.start (Prefixed at prefixes form) h.visited) h.under

      pub placed_ranked : IsRankedForm inner form
      placed_ranked =
          ranked_behind prefixes form h.start inner
          (ranked h.start (Prefixed at prefixes form) h.visited) h.under

      pub placed_inside : Inside program h.here.text h.here.around
          (reach_at inner shapes h.here.shattered h.here.result) at prefixes form
      placed_inside =
          subst (λ (s : Shapes). Inside program h.here.text h.here.around
          (reach_at inner s h.here.shattered h.here.result) at prefixes form) h.shapes_are
          (inside_at program settings laws grammar clean h.start inner h.outer at prefixes form h.here
          h.under)

      -- a statement in it
      pub placed_part : (part : Stmt) → Contains (parts_of form) part
          → At inner shapes part × IsVisited own_setup inner part
      placed_part part member = (
        subst (λ (s : Shapes). At inner s part) h.shapes_are
            (part_at program settings laws grammar clean h.start inner h.outer at prefixes form part
            h.here h.under member),
        Holds h.start inner at prefixes form part h.visited h.under member,
      )

    -- ---- prefixes

    module _ (environment : Environment) (answer : ℕ) (spots : List Spot) (shattered : Rank)
        (result : Option Base) (form : Form) (IsServed : Where → Place → Type 0) where
      abbrev Reached : List Prefix → Place → Shapes → Type 0
      Reached prefixes place shapes =
          (w : Where) (currents : Currents) (edge : Option Edge) (deeper : Shapes)
          → visits.IsUnder prefixes place (place_of w environment answer currents edge)
          → (under_prefixes (reach_at place shapes shattered result) prefixes).shapes ≡ deeper
          → Here w deeper → IsSeenFrom spots w environment currents
          → IsBoundedAt (place_of w environment answer currents edge)
          → IsServed w (place_of w environment answer currents edge)

      under_suits : (borders : Bool) (prefixes : List Prefix) (w : Where) (currents : Currents)
          (edge : Option Edge) (shapes : Shapes)
          → Clean (prefixes_sites (reach_at (place_of w environment answer currents edge) shapes
          shattered result) prefixes)
          → AllByRecursion IsPrefix prefixes
          → FitsPlace (place_of w environment answer currents edge) shapes
          → IsProperUnder (place_of w environment answer currents edge) prefixes form
          → IsRankedUnder (place_of w environment answer currents edge) prefixes form
          → HaveSmallPrefixes prefixes → AreGivenPrefixes w.setup.known prefixes → Here w shapes
          → IsSeenFrom spots w environment currents
          → IsBoundedAt (place_of w environment answer currents edge)
          → Reached prefixes (place_of w environment answer currents edge) shapes
          → IsUnder borders prefixes IsServed w (place_of w environment answer currents edge)
      under_suits borders [] w currents edge shapes sites tree fits p r small given known seen bounded
          f =
          f w currents edge shapes visits.Itself refl known seen bounded
      under_suits borders (prefix ∷ rest) w currents edge shapes sites tree fits p r small given known
          seen bounded f =
          let place = place_of w environment answer currents edge in
          let reach = reach_at place shapes shattered result in
          let hint = mask_rank place.scope prefix.mask in
          let own = each_left IsClean (prefix_sites reach prefix)
          (prefixes_sites (reach_under reach prefix) rest) sites in
          let region = each_left IsClean (region_sites reach hint prefix.region)
          (map (AtMask reach prefix) (option_to_list prefix.mask)) own in
          let masks = each_right IsClean (region_sites reach hint prefix.region)
          (map (AtMask reach prefix) (option_to_list prefix.mask)) own in
          let opens = prefix_opens place known.given prefix p.0 r.0
          (sound_inner w.setup.known prefix.region given.0 small.0) in
          let shape = shape_of w.scope (current_at shapes opens.rank) opens.rank prefix.region
          (region_told prefix.region (record place { currents = currents_of shapes }) shapes shattered
          result hint opens.rank (are_told shapes w.currents known.told.slots) opens.ranked
          opens.is_rank (region_first reach hint prefix.region region)) in
          let rank = prefix_rank w.scope w.prefix prefix in (
            opens,
            λ slot line store found meant told.
                let opened = opened_at (low.is_last borders rest) w slot line prefix in
                let inner = low.under_prefix w prefix opened in
                let over = over_of place prefix found in
                let there = mean_under place prefix found in
                let deeper = shapes_under w.scope shapes rank prefix in
                under_suits borders rest inner there.currents there.edge deeper
                (each_right IsClean (prefix_sites reach prefix)
                (prefixes_sites (reach_under reach prefix) rest) sites)
                tree.1 (fits_under laws.ranks place shapes shattered result prefix over fits own tree.0)
                (p.1 over) (r.1 over) small.1 given.1
                (record {
                  owned = known.owned;
                  names = known.names;
                  scalars = known.scalars;
                  globals = known.globals;
                  kept = known.kept;
                  told = under_told w environment answer currents edge shapes known.told known.given
                      shattered result prefix opens r.0.1 shape.shape
                      (subst (λ (k : Rank). inner_shape w.scope shapes k prefix.region
                      ≡ Some shape.shape) (sym opens.ranked) shape.is)
                      (ap (λ (k : ℕ). Some k) shape.many ∙ sym opens.ranked)
                      (mask_free prefix.mask masks) (low.is_last borders rest) slot line;
                  given = known.given;
                  long = known.long;
                  called = known.called;
                  homes = known.homes;
                  copies = known.copies;
                })
                (record {
                  names = seen.names;
                  one = one_with currents w.currents rank over _ seen.one;
                  two = two_with currents w.currents rank over _ seen.two;
                  three = three_with currents w.currents rank over _ seen.three;
                })
                (bounded_under place prefix found store opened.flood
                (subst (λ (s : Setup). HasLimited s.known) (sym known.owned)
                (known_limited program settings)) bounded opens meant told)
                (λ w' currents' edge' deeper' under is known' seen' bounded'.
                f w' currents' edge' deeper' (visits.Behind over under) is known' seen' bounded'),
          )
        where
          mask_free : (mask : Option MaskText)
              → Clean (map (AtMask (reach_at (place_of w environment answer currents edge) shapes
              shattered result) prefix) (option_to_list mask))
              → (one : MaskText) → mask ≡ Some one
              → flood_clashes (AtMask (reach_at (place_of w environment answer currents edge) shapes
              shattered result) prefix one) ≡ []
          mask_free None h one e = cc
          mask_free (Some found) h one e =
              let same : found ≡ one = cc in
              subst (λ (m : MaskText). flood_clashes (AtMask (reach_at
              (place_of w environment answer currents edge) shapes shattered result) prefix m) ≡ [])
              same h.0.under.floods

    -- what is asked behind the prefixes of a statement
    pub placed_under : (at : ℕ) (prefixes : List Prefix) (form : Form)
        (IsServed : Where → Place → Type 0) (spots : List Spot) (w : Where)
        (environment : Environment) (answer : ℕ) (currents : Currents) (edge : Option Edge)
        (shapes : Shapes)
        → At (place_of w environment answer currents edge) shapes (Prefixed at prefixes form)
        → IsVisited own_setup (place_of w environment answer currents edge)
        (Prefixed at prefixes form)
        → Here w shapes → IsSeenFrom spots w environment currents
        → IsBoundedAt (place_of w environment answer currents edge) → HaveSmallPrefixes prefixes
        → IsGivenStmt own_source (Prefixed at prefixes form)
        → ((inner : Where) (deep : Currents) (last : Option Edge) (deeper : Shapes)
        → IsPlaced at prefixes form spots inner environment answer deep last deeper
        → behind_prefixes (reach_of (place_of w environment answer currents edge)) prefixes
        ≡ reach_of (place_of inner environment answer deep last)
        → IsServed inner (place_of inner environment answer deep last))
        → IsUnder (low.is_border form) prefixes IsServed w (place_of w environment answer currents edge)
    placed_under at prefixes form IsServed spots w environment answer currents edge shapes here visited
        known seen bounded small given served =
        let place = place_of w environment answer currents edge in
        let stmt = Prefixed at prefixes form in
        under_suits environment answer spots here.shattered here.result form IsServed
        (low.is_border form) prefixes w currents edge shapes
        (clean_of program here.text here.around _ here.sites.0) here.tree.0 here.fits
        (proper place stmt visited) (ranked place stmt visited) small
        (subst (λ (s : Setup). AreGivenPrefixes s.known prefixes) (sym known.owned) given.0) known seen
        bounded
        (λ inner deep last deeper under is known' seen' bounded'.
        served inner deep last deeper
        (record {
          start = place;
          outer = shapes;
          here = here;
          visited = visited;
          under = under;
          shapes_are =
              sym (ap (λ (r : Reach). r.shapes)
              (behind program settings laws grammar clean place
              (place_of inner environment answer deep last) shapes at prefixes form here under).same)
              ∙ is;
          known = known';
          seen = seen';
          bounded = bounded';
          given = given.1;
        })
        (reach_behind prefixes place (place_of inner environment answer deep last) under))

    -- ---- tests

    module _ (text : List ℕ) (around : Shapes) (spots : List Spot) (w : Where)
        (environment : Environment) (answer : ℕ) (currents : Currents) (edge : Option Edge)
        (shapes : Shapes) (known : Here w shapes) (seen : IsSeenFrom spots w environment currents)
        (shattered : Rank) (result : Option Base) where
      abbrev tested : Place
      tested = place_of w environment answer currents edge

      abbrev test_reach : Reach
      test_reach = reach_at tested shapes shattered result

      -- a value, with what was computed before the run
      pub operated_here : (value : Expr) → IsOperatedText value
          → AreGivenSources own_source value → IsOperatedExpr w.setup.known w.environment value
      operated_here value text given =
          subst (λ (s : Setup). IsOperatedExpr s.known w.environment value) (sym known.owned)
          (operated_text own_source w.environment known.copies value text given)

      -- one of rank 0
      pub value_suits : (role : Role) (value : Expr) (rank : Rank) → IsOperatedText value
          → AreGivenSources own_source value → IsProperScalar tested role value
          → IsRanked tested role value
          → Each (IsHere program text around) (expr_sites test_reach rank value)
          → OperatedValue value w tested
      value_suits role value rank operated given p r sites =
          serves_alone spots environment answer edge shattered result w currents shapes
          (record {
            seen = seen;
            told = known.told;
            given = known.given;
            names = known.names;
            kept = known.kept;
            long = known.long;
          }) value rank
          (operated_here value operated given) (
            subst (λ (k : Rank). IsOfRank tested k value) p.0 r,
            subst (λ (k : Rank). IsProper tested k value) p.0 p.1,
          )
          (clean_of program text around (expr_sites test_reach rank value) sites)

      test_suits : (test : Expr) → IsOperatedText test → AreGivenSources own_source test
          → IsProperScalar tested TestRole test → IsRanked tested TestRole test
          → Each (IsHere program text around) (whole_sites test_reach TestRole test)
          → OperatedValue test w tested
      test_suits test t given p r sites =
          value_suits TestRole test (whole_rank test_reach TestRole test) t given p r sites.1

      -- the bounds and the step of a `for`
      step_suits : (step : Option Expr) → IsOperatedText (step_expr step)
          → AreGivenSources own_source (step_expr step)
          → IsProperScalar tested Limit (step_expr step) → IsRanked tested Limit (step_expr step)
          → Each (IsHere program text around) (step_sites test_reach step)
          → OperatedValue (step_expr step) w tested
      step_suits None operated given p r sites = operated
      step_suits (Some step) operated given p r sites =
          value_suits Limit step (whole_rank test_reach Limit step) operated given p r sites.1

      head_suits : (at : ℕ) (prefixes : List Prefix) (head : ForHead) (body : Stmts)
          → Inside program text around test_reach at prefixes (For head body)
          → (IsOperatedText head.first × IsOperatedText head.last
          × IsOperatedText (step_expr head.step))
          → IsGivenHead own_source head → IsProperForm tested (For head body)
          → IsRankedForm tested (For head body) → IsServedHeadBy OperatedValue head w tested
      head_suits at prefixes head body (InStmt sites) t given p r =
          let Sited = IsHere program text around in
          let first = whole_sites test_reach Limit head.first in
          let last = whole_sites test_reach Limit head.last in
          let step = step_sites test_reach head.step in
          let inner = stmts_sites (inside test_reach (Some 0)) body in
          let heads = each_left Sited ((first ++ last) ++ step) inner sites.1 in
          let bounds = each_left Sited (first ++ last) step heads in
          let one = each_left Sited first last bounds in
          let other = each_right Sited first last bounds in (
            value_suits Limit head.first (whole_rank test_reach Limit head.first) t.0 given.0 p.1 r.0
                one.1,
            value_suits Limit head.last (whole_rank test_reach Limit head.last) t.1 given.1 p.2 r.1
                other.1,
            step_suits head.step t.2 given.2 p.3 r.2
                (each_right Sited (first ++ last) step heads),
            p.0,
          )

      -- the test of a `while` or a `repeat`
      while_suits : (at : ℕ) (prefixes : List Prefix) (test : Expr) (body : Stmts)
          → Inside program text around test_reach at prefixes (While test body) → IsOperatedText test
          → AreGivenSources own_source test → IsProperScalar tested TestRole test
          → IsRanked tested TestRole test → OperatedValue test w tested
      while_suits at prefixes test body (InStmt sites) t given p r =
          test_suits test t given p r
          (each_left (IsHere program text around) (whole_sites test_reach TestRole test)
          (stmts_sites (inside test_reach (test_rank test_reach test)) body) sites.1)

      repeat_suits : (at : ℕ) (prefixes : List Prefix) (body : Stmts) (until : ℕ) (test : Expr)
          → Inside program text around test_reach at prefixes (Repeat body until test)
          → IsOperatedText test → AreGivenSources own_source test
          → IsProperScalar tested TestRole test → IsRanked tested TestRole test
          → OperatedValue test w tested
      repeat_suits at prefixes body until test (InStmt sites) t given p r =
          test_suits test t given p r
          (each_right (IsHere program text around)
          (stmts_sites (inside test_reach (test_rank test_reach test)) body)
          (whole_sites test_reach TestRole test) sites.1)

      if_sites : (at : ℕ) (prefixes : List Prefix) (arms : Arms) (otherwise : Otherwise)
          → Inside program text around test_reach at prefixes (If arms otherwise)
          → Each (IsHere program text around)
          (arms_sites test_reach (inside test_reach (arms_rank test_reach arms)) arms)
      if_sites at prefixes arms otherwise (InStmt sites) =
          let within = inside test_reach (arms_rank test_reach arms) in
          each_left (IsHere program text around) (arms_sites test_reach within arms)
          (otherwise_sites within otherwise) sites.1

    -- ---- statements

    module _ (Leaf : ℕ → Form → Where → Place → Type 0) (Text : Reach → Form → Type 0)
        (leaf_suits : (at : ℕ) (prefixes : List Prefix) (form : Form) (spots : List Spot)
        (w : Where) (environment : Environment) (answer : ℕ) (currents : Currents)
        (edge : Option Edge) (shapes : Shapes)
        → IsPlaced at prefixes form spots w environment answer currents edge shapes
        → Text (reach_of (place_of w environment answer currents edge)) form
        → Leaf at form w (place_of w environment answer currents edge)) where
      abbrev Parts : List Stmt → Place → Shapes → Type 0
      Parts stmts place shapes =
          (part : Stmt) → Contains stmts part → At place shapes part × IsVisited own_setup place part

      mutual
        pub stmt_suits : (stmt : Stmt) (spots : List Spot) (w : Where) (environment : Environment)
            (answer : ℕ) (currents : Currents) (edge : Option Edge) (shapes : Shapes)
            → At (place_of w environment answer currents edge) shapes stmt
            → IsVisited own_setup (place_of w environment answer currents edge) stmt
            → Here w shapes → IsSeenFrom spots w environment currents
            → IsBoundedAt (place_of w environment answer currents edge)
            → IsShownStmt Text (reach_of (place_of w environment answer currents edge)) stmt
            → IsGivenStmt own_source stmt
            → SuitsStmtBy IsUnder OperatedValue OperatedValue Leaf stmt w (place_of w environment answer currents edge)
        stmt_suits (Prefixed at prefixes form) spots w environment answer currents edge shapes here
            visited known seen bounded text given =
            placed_under at prefixes form
            (λ inner there. SuitsFormBy IsUnder OperatedValue OperatedValue Leaf at form inner there) spots w
            environment answer currents edge shapes here visited known seen bounded text.0 given
            (λ inner deep last deeper h same.
            form_suits form at prefixes spots inner environment answer deep last deeper h
            (subst (λ (r : Reach). IsShownForm Text r form) same text.1) given.1)

        form_suits : (form : Form) (at : ℕ) (prefixes : List Prefix) (spots : List Spot) (w : Where)
            (environment : Environment) (answer : ℕ) (currents : Currents) (edge : Option Edge)
            (shapes : Shapes)
            → IsPlaced at prefixes form spots w environment answer currents edge shapes
            → IsShownForm Text (reach_of (place_of w environment answer currents edge)) form
            → IsGivenForm own_source form
            → SuitsFormBy IsUnder OperatedValue OperatedValue Leaf at form w (place_of w environment answer currents edge)
        form_suits (Assign name op value) at prefixes spots w environment answer currents edge shapes h
            text given =
            leaf_suits at prefixes (Assign name op value) spots w environment answer currents edge shapes
            h text
        form_suits (Invoke name actuals) at prefixes spots w environment answer currents edge shapes h
            text given =
            leaf_suits at prefixes (Invoke name actuals) spots w environment answer currents edge shapes
            h text
        form_suits (Block body) at prefixes spots w environment answer currents edge shapes h text
            given =
            all_suit body spots w environment answer currents edge shapes
            (placed_part at prefixes (Block body) spots w environment answer currents edge shapes h)
            h.known h.seen h.bounded text given
        form_suits (If arms otherwise) at prefixes spots w environment answer currents edge shapes h
            (inl text) given =
            inl (leaf_suits at prefixes (If arms otherwise) spots w environment answer currents edge
            shapes h text)
        form_suits (If arms otherwise) at prefixes spots w environment answer currents edge shapes h
            (inr text) given =
            let place = place_of w environment answer currents edge in
            let form = If arms otherwise in
            let parts = placed_part at prefixes form spots w environment answer currents edge shapes h in
            let tests = false_choice (is_shattered (reach_of place) form) place form text.0
            (placed_proper at prefixes form spots w environment answer currents edge shapes h) in
            let ranks = ranked_choice (is_shattered (reach_of place) form) place form text.0
            (placed_ranked at prefixes form spots w environment answer currents edge shapes h) in
            let own = reach_at place shapes h.here.shattered h.here.result in
            let sites = if_sites h.here.text h.here.around spots w environment answer currents edge
            shapes h.known h.seen h.here.shattered h.here.result at prefixes arms otherwise
            (placed_inside at prefixes form spots w environment answer currents edge shapes h) in
            inr (
              text.0,
              (
                arms_suit arms h.here.text h.here.around h.here.shattered h.here.result
                    (inside own (arms_rank own arms)) spots w environment answer currents edge shapes
                    (λ part c. parts part
                    (Contains-append_left (arms_parts arms) (else_parts otherwise) part c))
                    tests ranks sites h.known h.seen h.bounded text.1.0 given.0,
                else_suits otherwise spots w environment answer currents edge shapes
                    (λ part c. parts part
                    (Contains-append_right (arms_parts arms) (else_parts otherwise) part c))
                    h.known h.seen h.bounded text.1.1 given.1,
              ),
            )
        form_suits (While test body) at prefixes spots w environment answer currents edge shapes h
            (inl text) given =
            inl (leaf_suits at prefixes (While test body) spots w environment answer currents edge shapes
            h text)
        form_suits (While test body) at prefixes spots w environment answer currents edge shapes h
            (inr text) given =
            let place = place_of w environment answer currents edge in
            let form = While test body in
            let p = false_choice (is_shattered (reach_of place) form) place form text.0
            (placed_proper at prefixes form spots w environment answer currents edge shapes h) in
            let r = ranked_choice (is_shattered (reach_of place) form) place form text.0
            (placed_ranked at prefixes form spots w environment answer currents edge shapes h) in
            inr (
              text.0,
              (
                while_suits h.here.text h.here.around spots w environment answer currents edge shapes
                    h.known h.seen h.here.shattered h.here.result at prefixes test body
                    (placed_inside at prefixes form spots w environment answer currents edge shapes h)
                    text.1.0 given.0 p r,
                all_suit body spots w environment answer currents edge shapes
                    (placed_part at prefixes form spots w environment answer currents edge shapes h)
                    h.known h.seen h.bounded text.1.1 given.1,
              ),
            )
        form_suits (Repeat body until test) at prefixes spots w environment answer currents edge shapes
            h (inl text) given =
            inl (leaf_suits at prefixes (Repeat body until test) spots w environment answer currents edge
            shapes h text)
        form_suits (Repeat body until test) at prefixes spots w environment answer currents edge shapes
            h (inr text) given =
            let place = place_of w environment answer currents edge in
            let form = Repeat body until test in
            let p = false_choice (is_shattered (reach_of place) form) place form text.0
            (placed_proper at prefixes form spots w environment answer currents edge shapes h) in
            let r = ranked_choice (is_shattered (reach_of place) form) place form text.0
            (placed_ranked at prefixes form spots w environment answer currents edge shapes h) in
            inr (
              text.0,
              (
                repeat_suits h.here.text h.here.around spots w environment answer currents edge shapes
                    h.known h.seen h.here.shattered h.here.result at prefixes body until test
                    (placed_inside at prefixes form spots w environment answer currents edge shapes h)
                    text.1.0 given.0 p r,
                all_suit body spots w environment answer currents edge shapes
                    (placed_part at prefixes form spots w environment answer currents edge shapes h)
                    h.known h.seen h.bounded text.1.1 given.1,
              ),
            )
        form_suits (For head body) at prefixes spots w environment answer currents edge shapes h text
            given =
            let place = place_of w environment answer currents edge in
            let form = For head body in (
              head_suits h.here.text h.here.around spots w environment answer currents edge shapes
                  h.known h.seen h.here.shattered h.here.result at prefixes head body
                  (placed_inside at prefixes form spots w environment answer currents edge shapes h)
                  text.0 given.0
                  (placed_proper at prefixes form spots w environment answer currents edge shapes h)
                  (placed_ranked at prefixes form spots w environment answer currents edge shapes h),
              all_suit body spots w environment answer currents edge shapes
                  (placed_part at prefixes form spots w environment answer currents edge shapes h)
                  h.known h.seen h.bounded text.1 given.1,
            )
        form_suits (Border kind names) at prefixes spots w environment answer currents edge shapes h text
            given =
            leaf_suits at prefixes (Border kind names) spots w environment answer currents edge shapes h
            text
        form_suits (Write ends items) at prefixes spots w environment answer currents edge shapes h text
            given =
            leaf_suits at prefixes (Write ends items) spots w environment answer currents edge shapes h
            text
        form_suits (Return value) at prefixes spots w environment answer currents edge shapes h text
            given =
            leaf_suits at prefixes (Return value) spots w environment answer currents edge shapes h text

        all_suit : (stmts : Stmts) (spots : List Spot) (w : Where) (environment : Environment)
            (answer : ℕ) (currents : Currents) (edge : Option Edge) (shapes : Shapes)
            → Parts (list_of stmts) (place_of w environment answer currents edge) shapes
            → Here w shapes → IsSeenFrom spots w environment currents
            → IsBoundedAt (place_of w environment answer currents edge)
            → AreShown Text (reach_of (place_of w environment answer currents edge)) stmts
            → AreGivenStmts own_source stmts
            → SuitAllBy IsUnder OperatedValue OperatedValue Leaf stmts w (place_of w environment answer currents edge)
        all_suit NoStmt spots w environment answer currents edge shapes parts known seen bounded text given =
            tt
        all_suit (ThenStmt first rest) spots w environment answer currents edge shapes parts known seen
            bounded text given =
            let one = parts first (contains_first first (list_of rest)) in (
              stmt_suits first spots w environment answer currents edge shapes one.0 one.1 known seen
                  bounded text.0 given.0,
              all_suit rest spots w environment answer currents edge shapes
                  (λ part c. parts part (contains_later first (list_of rest) part c)) known seen bounded
                  text.1 given.1,
            )

        arms_suit : (arms : Arms) (own_text : List ℕ) (around : Shapes) (shattered : Rank)
            (result : Option Base) (within : Reach) (spots : List Spot) (w : Where)
            (environment : Environment) (answer : ℕ) (currents : Currents) (edge : Option Edge)
            (shapes : Shapes)
            → Parts (arms_parts arms) (place_of w environment answer currents edge) shapes
            → AreProperTests (place_of w environment answer currents edge) arms
            → AreRankedTests (place_of w environment answer currents edge) arms
            → Each (IsHere program own_text around)
            (arms_sites (reach_at (place_of w environment answer currents edge) shapes shattered
            result) within arms)
            → Here w shapes → IsSeenFrom spots w environment currents
            → IsBoundedAt (place_of w environment answer currents edge)
            → AreShownArms Text (reach_of (place_of w environment answer currents edge)) arms
            → AreGivenArms own_source arms
            → SuitArmsBy IsUnder OperatedValue OperatedValue Leaf arms w (place_of w environment answer currents edge)
        arms_suit NoArm own_text around shattered result within spots w environment answer currents edge
            shapes parts tests ranks sites known seen bounded text given = tt
        arms_suit (ThenArm (Tested own test body) rest) own_text around shattered result within spots w
            environment answer currents edge shapes parts tests ranks sites known seen bounded text
            given =
            let reach = reach_at (place_of w environment answer currents edge) shapes shattered result in
            let Sited = IsHere program own_text around in
            let own_sites = whole_sites reach TestRole test ++ stmts_sites within body in
            let others = arms_sites reach within rest in (
              (
                test_suits own_text around spots w environment answer currents edge shapes known seen
                    shattered result test text.0.0 given.0.0 tests.0 ranks.0
                    (each_left Sited (whole_sites reach TestRole test) (stmts_sites within body)
                    (each_left Sited own_sites others sites)),
                all_suit body spots w environment answer currents edge shapes
                    (λ part c. parts part
                    (Contains-append_left (list_of body) (arms_parts rest) part c)) known seen
                    bounded text.0.1 given.0.1,
              ),
              arms_suit rest own_text around shattered result within spots w environment answer currents
                  edge shapes
                  (λ part c. parts part
                  (Contains-append_right (list_of body) (arms_parts rest) part c)) tests.1 ranks.1
                  (each_right Sited own_sites others sites) known seen bounded text.1 given.1,
            )

        else_suits : (otherwise : Otherwise) (spots : List Spot) (w : Where)
            (environment : Environment) (answer : ℕ) (currents : Currents) (edge : Option Edge)
            (shapes : Shapes)
            → Parts (else_parts otherwise) (place_of w environment answer currents edge) shapes
            → Here w shapes → IsSeenFrom spots w environment currents
            → IsBoundedAt (place_of w environment answer currents edge)
            → IsShownElse Text (reach_of (place_of w environment answer currents edge)) otherwise
            → IsGivenElse own_source otherwise
            → SuitsElseBy IsUnder OperatedValue OperatedValue Leaf otherwise w (place_of w environment answer currents edge)
        else_suits NoElse spots w environment answer currents edge shapes parts known seen bounded text
            given = tt
        else_suits (Else body) spots w environment answer currents edge shapes parts known seen bounded
            text given =
            all_suit body spots w environment answer currents edge shapes parts known seen bounded text
            given
