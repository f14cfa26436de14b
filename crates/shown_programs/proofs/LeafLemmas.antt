-- The forms that are proved suit their places, and go as their code does.
use Rattle.std.proofs.Common.{◌≡◌, ◌⊎◌, inl, inr, ℕ, ◌+◌, Bool, true, false, ℤ, List, length, Option, Some, None}
use Rattle.std.proofs.Common.{refl, sym, ap, ◌∙◌, subst}
use Rattle.std.specs.Prelude.{slice_get}
use Rattle.std.specs.Option.{IsSomeAnd, option_map}
use Rattle.zpl_region.specs.declared.regions.Region.{Region}
use Rattle.zpl_nums.specs.declared.operators.Op.{Op}
use Rattle.zpl_tree.specs.Syntax.{Name, Expr, Number, Truth, Coord, Named, Shifted, Around, Remap, Call, Paren, Neg, Not, Abs, Pair, Reduce, Scan, Flood, Exprs, Prefix, Stmt, Form, Assign, Invoke, Block, If, While, Repeat, For, Border, Write, Return, Program}
use Rattle.zpl_tree.specs.Grammar.{IsProgram}
use Rattle.zpl_names.specs.Counts.{own_nodes}
use Rattle.zpl_names.specs.Kinds.{Formal, Signature}
use Rattle.zpl_names.specs.Scope.{kind_of}
use Rattle.zpl_names.specs.Shapes.{Shapes}
use Rattle.zpl_names.specs.Declared.{Routine, IsProcedureOf, head_scope, routine_named}
use Rattle.zpl_names.specs.Expansion.{formal_names}
use Rattle.zpl_names.specs.Sites.{actuals_sites}
use Rattle.zpl_names.specs.Accepted.{IsFaultless}
use Rattle.zpl_binding.specs.Settings.{Setting}
use Rattle.zpl_meaning.specs.Store.{Thing, Scalar, ArrayAt, Fixed, Environment, Store, thing_of}
use Rattle.zpl_meaning.specs.Context.{Currents, Edge, Setup, Place, reach_of}
use Rattle.zpl_meaning.specs.Calls.{formals_in, actual_thing, handed_on, value_exprs}
use Rattle.zpl_meaning.specs.Proper.{IsArray, IsVariable, IsProperCall, IsProperStmt, AreProperActuals}
use Rattle.zpl_meaning.specs.Statement as mean
use Rattle.zpl_meaning.specs.Visited.{IsVisited, IsCall, AsStatement, AsAnswer, Calls, body_place, handed_at}
use Rattle.zpl_meaning.proofs.DepthLemmas.{Each}
use Rattle.zpl_meaning.proofs.ProperLemmas.{reach_at}
use Rattle.zpl_meaning.proofs.VisitLemmas.{Laws, IsHere, Inside, InStmt}
use Rattle.meaning_ranks.specs.Ranked.{IsRankedCall, IsRankedStmt}
use Rattle.meaning_ranks.proofs.PlaceLemmas.{behind, call_at_body}
use Rattle.meaning_ranks.proofs.PlaceLemmas as places
use Rattle.node_form.specs.declared.tables.Tables.{Tables}
use Rattle.zpl_lowering.specs.Where.{Stored, Where}
use Rattle.zpl_lowering.specs.Statement as low
use Rattle.zpl_lowering.specs.Statement.{given_to}
use Rattle.served_places.specs.of_lowering_runs.Seen.{Spot, seen_thing}
use Rattle.served_places.specs.of_lowering_runs.Goes.{World, Goes}
use Rattle.served_places.specs.of_lowering_runs.Called.{world_at}
use Rattle.served_places.proofs.of_lowering_runs.SuitLemmas.{either_goes, leaf_goes}
use Rattle.operator_runs.specs.of_call_runs.Leaf.{IsAnsweredBy}
use Rattle.operator_runs.specs.of_call_runs.Taken.{AreCallActuals, IsInvoked}
use Rattle.operator_runs.specs.Served.{OperatedLeaf, OperatedValue}
use Rattle.operator_runs.proofs.LeafLemmas.{operated_leaves}
use Rattle.operator_runs.specs.of_border_runs.Bordered.{BorderLeaf}
use Rattle.operator_runs.proofs.of_border_runs.BorderLemmas.{border_leaves}
use Rattle.point_runs.specs.Shattered.{SplitLeaf}
use Rattle.point_runs.proofs.SplitLemmas.{split_leaves}
use Rattle.served_places.specs.Told.{IsSeenFrom, place_of}
use Rattle.lowered_flat.specs.of_lowering_fits.Reach.{FitNames}
use Rattle.lowered_flat.specs.of_lowering_fits.Storages.{IsHomeIn}
use Rattle.lowered_flat.proofs.of_lowering_fits.KeptLemmas.{AreGivenOf}
use Rattle.lowered_flat.proofs.of_lowering_fits.MadeFrameLemmas.{as_many}
use Rattle.lowered_flat.proofs.GivenLemmas.{givens_told}
use Rattle.lowered_flat.proofs.ToldLemmas.{handed_told, reach_more}
use Rattle.lowered_flat.proofs.of_lowering_fits.ReachLemmas.{givens_of}
use Rattle.shown_programs.specs.Text.{AreCallTexts, IsAskedText, IsCallForm, IsLeafForm}
use Rattle.shown_programs.proofs.CallLemmas.{setup, text_of, IsCalledFrom, IsCalledBy, CallLeaf, call_leaves}
use Rattle.shown_programs.proofs.ActualLemmas.{actuals_suit}
use Rattle.shown_programs.proofs.PlaceLemmas.{IsPlaced, placed_proper, placed_ranked, placed_inside}
use Rattle.shown_programs.proofs.BorderLemmas.{border_suits}
use Rattle.shown_programs.proofs.ShatteredLemmas.{shattered_suits}
use Rattle.shown_programs.proofs.OperatedLemmas.{operated_suits}
use Rattle.shown_programs.proofs.RoutineLemmas.{AreLeaves}
use Rattle.shown_programs.proofs.SourceLemmas.{AllGivenSources, IsCallOf}

-- ---- actuals that are names

module _ (spots : List Spot) (w : Where) (environment : Environment) (currents : Currents)
    (seen : IsSeenFrom spots w environment currents) where
  actual_from : (actual : Expr) → actual_thing environment actual
      ≡ option_map (seen_thing spots) (actual_thing w.environment actual)
  actual_from (Named at name) = seen.names name.text
  actual_from (Number at value) = refl
  actual_from (Truth at value) = refl
  actual_from (Coord at k) = refl
  actual_from (Shifted at name shift) = refl
  actual_from (Around at name shift) = refl
  actual_from (Remap at name indices) = refl
  actual_from (Call at name actuals) = refl
  actual_from (Paren at inside) = refl
  actual_from (Neg at operand) = refl
  actual_from (Not at operand) = refl
  actual_from (Abs at operand) = refl
  actual_from (Pair at op left right) = refl
  actual_from (Reduce at operator over operand) = refl
  actual_from (Scan at operator along operand) = refl
  actual_from (Flood at source operand) = refl

  variable_of : (thing : Option Thing) → IsVariable (option_map (seen_thing spots) thing)
      → IsVariable thing
  variable_of (Some (Scalar place)) h = tt
  variable_of (Some (Fixed value)) h = h
  variable_of (Some (ArrayAt place home)) h = h
  variable_of None h = h

  array_of : (thing : Option Thing) → IsArray (option_map (seen_thing spots) thing) → IsArray thing
  array_of (Some (ArrayAt place home)) h = tt
  array_of (Some (Scalar place)) h = h
  array_of (Some (Fixed value)) h = h
  array_of None h = h

  variable_from : (actual : Expr) → IsVariable (actual_thing environment actual)
      → IsVariable (actual_thing w.environment actual)
  variable_from actual h =
      variable_of (actual_thing w.environment actual) (subst IsVariable (actual_from actual) h)

  array_from : (actual : Expr) → IsArray (actual_thing environment actual)
      → IsArray (actual_thing w.environment actual)
  array_from actual h =
      array_of (actual_thing w.environment actual) (subst IsArray (actual_from actual) h)

same_routine : {a b : Routine} → Some a ≡ Some b → a ≡ b
same_routine e = cc

-- ---- what is handed on

-- a parameter for each formal
many_formals : (routine : Routine) (signature : Signature) (formals : List Formal)
    → formals ≡ signature.formals → IsProcedureOf signature routine
    → length (formal_names routine.procedure.params) ≡ length formals
many_formals routine signature formals same of =
    as_many (head_scope of.earlier routine.procedure) routine.procedure.params
    ∙ ap length (sym (same ∙ ap (λ (s : Signature). s.formals) of.signed))

-- a name of an array has a storage
array_found : (w : Where) → FitNames w.scope w.environment w.numbers → (text : List ℕ)
    (target : ℕ) (home : Region) → thing_of w.environment text ≡ Some (ArrayAt target home)
    → (stored : Stored) × (slice_get w.numbers.arrays target ≡ Some stored)
array_found w names text target home e =
    by (slice_get w.numbers.arrays target) refl
    (names (record { text = text; at = 0 }) target home e).homed
  where
    by : (o : Option Stored) → slice_get w.numbers.arrays target ≡ o
        → IsSomeAnd o (λ stored. IsHomeIn stored.storage home)
        → (stored : Stored) × (slice_get w.numbers.arrays target ≡ Some stored)
    by None f h = absurd h
    by (Some stored) f h = (stored, f)

module _ (program : Program) (settings : List Setting) (laws : Laws program)
    (grammar : IsProgram program) (clean : IsFaultless program) where
  abbrev own : Setup
  own = setup program settings laws grammar clean

  abbrev Placed : List ℕ → ℕ → List Prefix → Form → List Spot → Where → Environment → ℕ → Currents
      → Option Edge → Shapes → Type 0
  Placed own_text at prefixes form spots w environment answer currents edge shapes =
      IsPlaced program settings laws grammar clean own_text at prefixes form spots w environment
      answer currents edge shapes

  module _ (own_text : List ℕ)
      (proper : (place : Place) (stmt : Stmt) → IsVisited own place stmt → IsProperStmt place stmt)
      (ranked : (place : Place) (stmt : Stmt) → IsVisited own place stmt → IsRankedStmt place stmt)
      (at : ℕ) (prefixes : List Prefix) (spots : List Spot) (w : Where)
      (environment : Environment) (answer : ℕ) (currents : Currents) (edge : Option Edge)
      (shapes : Shapes) where
    abbrev place : Place
    place = place_of w environment answer currents edge

    -- ---- calls

    -- what is known at a call is handed on to what is called
    called_from : (MayCall : List ℕ → Type 0) (form : Form) (name : Name) (actuals : Exprs)
        → Placed own_text at prefixes form spots w environment answer currents edge shapes
        → IsCall form name actuals → (c : IsProperCall place name actuals)
        → AreProperActuals place (formals_in (kind_of w.scope name)) actuals
        → IsRankedCall place name actuals
        → IsCallOf (text_of program settings laws grammar clean own_text) name actuals
        → MayCall name.text → (scalar result : ℕ) (values : List ℤ) (before : Store)
        → length values ≡ length (value_exprs place (formals_in (kind_of w.scope name)) actuals)
        → IsCalledFrom program settings laws grammar clean MayCall w
        (given_to w scalar (formals_in (kind_of w.scope name)) actuals) (record {
          name = name.text;
          actuals = handed_on environment before (formals_in (kind_of w.scope name)) actuals values;
          currents = currents;
          result = result;
        })
    called_from MayCall form name actuals h is c taken r there callable scalar result values before
        many =
        let formals = formals_in (kind_of w.scope name) in
        let same : formals ≡ c.signature.formals = ap formals_in c.called in
        let deeper = behind program settings laws grammar clean h.start place h.outer at prefixes form
        h.here h.under in
        let callee = deeper.fits.callees name c.signature c.called in
        let named : routine_named program name.text ≡ Some callee.0 =
        subst (λ (s : Setup). routine_named s.program name.text ≡ Some callee.0) h.known.owned callee.1 in
        record {
          caller = own_text;
          shapes = shapes;
          known = h.known;
          callable = callable;
          comes = reach_more program program.name.text own_text
              (record { name = name; actuals = actuals; shapes = there.0 }) h.known.called there.1;
          homes = λ routine found.
              givens_told program own.known own_text name.text w place
              (variable_from spots w environment currents h.seen)
              (array_from spots w environment currents h.seen) h.known.homes
              (λ text target home e.
              array_found w h.known.names text target home e) scalar
              (formal_names routine.procedure.params) formals actuals
              (many_formals routine c.signature formals same
              (subst (IsProcedureOf c.signature) (same_routine (sym named ∙ found)) callee.2)) taken
              (handed_told program own.known own_text name actuals there.0 h.known.called there.1
              routine found);
          signature = c.signature;
          of = λ routine is.
              subst (IsProcedureOf c.signature) (same_routine (sym named ∙ is)) callee.2;
          givens_are =
              subst (λ (fs : List Formal). AreGivenOf w.numbers fs
              (given_to w scalar formals actuals)) same
              (givens_of w place refl (variable_from spots w environment currents h.seen)
              (array_from spots w environment currents h.seen) h.known.names h.known.scalars scalar
              formals actuals taken r);
          entered = λ routine store found. record {
            here =
                subst (λ (s : Shapes). places.IsAt program settings laws grammar clean
                (body_place own routine (record {
                  name = name.text;
                  actuals = handed_at place before name actuals values;
                  currents = currents;
                  result = result;
                }) store) s routine.procedure.body) h.shapes_are
                (call_at_body program settings laws grammar clean h.start place h.outer at prefixes
                form name actuals values before store result routine h.here h.under is c many found);
            visited = Calls h.start place at prefixes form name actuals values before store result
                routine h.visited h.under is many found;
            bounded = record { currents = h.bounded.currents; edge = tt };
          };
        }

    -- what its parameters take
    taken_at : (name : Name) (actuals : Exprs) → (c : IsProperCall place name actuals)
        → AreProperActuals place (formals_in (kind_of w.scope name)) actuals
    taken_at name actuals c =
        subst (λ (fs : List Formal). AreProperActuals place fs actuals)
        (sym (ap formals_in c.called)) c.taken

    -- their sites
    abbrev Actuals : (form : Form) (actuals : Exprs)
        → Placed own_text at prefixes form spots w environment answer currents edge shapes → Type 0
    Actuals form actuals h =
        Each (IsHere program h.here.text h.here.around)
        (actuals_sites (reach_at place shapes h.here.shattered h.here.result) actuals)

    actual_sites : (name : Name) (actuals : Exprs)
        → (h : Placed own_text at prefixes (Invoke name actuals) spots w environment answer currents
        edge shapes) → Inside program h.here.text h.here.around
        (reach_at place shapes h.here.shattered h.here.result) at prefixes (Invoke name actuals)
        → Actuals (Invoke name actuals) actuals h
    actual_sites name actuals h (InStmt k) = k.1.1

    asked_sites : (name : Name) (offset : ℕ) (callee : Name) (actuals : Exprs)
        → (h : Placed own_text at prefixes (Assign name None (Call offset callee actuals)) spots w
        environment answer currents edge shapes)
        → Inside program h.here.text h.here.around
        (reach_at place shapes h.here.shattered h.here.result) at prefixes
        (Assign name None (Call offset callee actuals))
        → Actuals (Assign name None (Call offset callee actuals)) actuals h
    asked_sites name offset callee actuals h (InStmt k) = k.1.1.1

    taken_suit : (form : Form) (name : Name) (actuals : Exprs)
        → (h : Placed own_text at prefixes form spots w environment answer currents edge shapes)
        → AreCallTexts (formals_in (kind_of w.scope name)) actuals
        → AllGivenSources (text_of program settings laws grammar clean own_text) actuals
        → AreProperActuals place (formals_in (kind_of w.scope name)) actuals
        → IsRankedCall place name actuals → Actuals form actuals h
        → AreCallActuals OperatedValue w place (formals_in (kind_of w.scope name)) actuals
    taken_suit form name actuals h t given p r sites =
        actuals_suit program settings laws grammar clean own_text proper ranked h.here.text
        h.here.around spots w environment answer currents edge shapes h.known h.seen
        h.here.shattered h.here.result (formals_in (kind_of w.scope name)) actuals t given p r sites

    invoke_suits : (IsCallable : Bool → List ℕ → Type 0) (name : Name) (actuals : Exprs)
        → Placed own_text at prefixes (Invoke name actuals) spots w environment answer currents edge
        shapes → IsCallForm IsCallable (reach_of place) (Invoke name actuals)
        → IsInvoked (IsCalledBy program settings laws grammar clean IsCallable false) OperatedValue name
        actuals w place
    invoke_suits IsCallable name actuals h t =
        let form = Invoke name actuals in
        let c = placed_proper program settings laws grammar clean own_text proper ranked at prefixes
        form spots w environment answer currents edge shapes h in
        let r = placed_ranked program settings laws grammar clean own_text proper ranked at prefixes
        form spots w environment answer currents edge shapes h in
        let taken = taken_at name actuals c in
        record {
          actuals_are = taken_suit form name actuals h t.0 h.given.1 taken r
              (actual_sites name actuals h (placed_inside program settings laws grammar clean
              own_text proper ranked at prefixes form spots w environment answer currents edge
              shapes h));
          from = λ scalar values before many.
              called_from (IsCallable false) form name actuals h AsStatement c taken r h.given.0 t.1
              scalar 0
              values before many;
        }

    asked_suits : (IsCallable : Bool → List ℕ → Type 0) (name : Name) (op : Option Op) (value : Expr)
        → Placed own_text at prefixes (Assign name op value) spots w environment answer currents
        edge shapes → IsAskedText IsCallable (reach_of place) op value
        → IsAnsweredBy (IsCalledBy program settings laws grammar clean IsCallable false)
        (IsCalledBy program settings laws grammar clean IsCallable true) OperatedValue name op value w
        place
    asked_suits IsCallable name None (Call offset callee actuals) h t =
        let form = Assign name None (Call offset callee actuals) in
        let p = placed_proper program settings laws grammar clean own_text proper ranked at prefixes
        form spots w environment answer currents edge shapes h in
        let r = placed_ranked program settings laws grammar clean own_text proper ranked at prefixes
        form spots w environment answer currents edge shapes h in
        let taken = taken_at callee actuals p.1 in
        record {
          variable = p.0;
          actuals_are = taken_suit form callee actuals h t.0 h.given.1 taken r
              (asked_sites name offset callee actuals h (placed_inside program settings laws grammar
              clean own_text proper ranked at prefixes form spots w environment answer currents edge
              shapes h));
          from = λ scalar result values before many.
              called_from (IsCallable true) form callee actuals h AsAnswer p.1 taken r h.given.0 t.1
              scalar result values before many;
        }
    asked_suits IsCallable name (Some op) value h t = absurd t
    asked_suits IsCallable name None (Number o number) h t = absurd t
    asked_suits IsCallable name None (Truth o truth) h t = absurd t
    asked_suits IsCallable name None (Coord o k) h t = absurd t
    asked_suits IsCallable name None (Named o it) h t = absurd t
    asked_suits IsCallable name None (Shifted o it shift) h t = absurd t
    asked_suits IsCallable name None (Around o it shift) h t = absurd t
    asked_suits IsCallable name None (Remap o it indices) h t = absurd t
    asked_suits IsCallable name None (Paren o inside) h t = absurd t
    asked_suits IsCallable name None (Neg o operand) h t = absurd t
    asked_suits IsCallable name None (Not o operand) h t = absurd t
    asked_suits IsCallable name None (Abs o operand) h t = absurd t
    asked_suits IsCallable name None (Pair o op left right) h t = absurd t
    asked_suits IsCallable name None (Reduce o operator over operand) h t = absurd t
    asked_suits IsCallable name None (Scan o operator along operand) h t = absurd t
    asked_suits IsCallable name None (Flood o source operand) h t = absurd t

    call_suits : (IsCallable : Bool → List ℕ → Type 0) (form : Form)
        → Placed own_text at prefixes form spots w environment answer currents edge shapes
        → IsCallForm IsCallable (reach_of place) form
        → CallLeaf program settings laws grammar clean IsCallable at form w place
    call_suits IsCallable (Invoke name actuals) h t = invoke_suits IsCallable name actuals h t
    call_suits IsCallable (Assign name op value) h t = asked_suits IsCallable name op value h t
    call_suits IsCallable (Write ends items) h t = absurd t
    call_suits IsCallable (Block body) h t = absurd t
    call_suits IsCallable (If arms otherwise) h t = absurd t
    call_suits IsCallable (While test body) h t = absurd t
    call_suits IsCallable (Repeat body until test) h t = absurd t
    call_suits IsCallable (For head body) h t = absurd t
    call_suits IsCallable (Border kind names) h t = absurd t
    call_suits IsCallable (Return value) h t = absurd t

  -- ---- all of them

  -- what is asked of a form that is proved: further ones are further lines
  abbrev pub Leaf : (Bool → List ℕ → Type 0) → ℕ → Form → Where → Place → Type 0
  Leaf IsCallable at form w place =
      BorderLeaf at form w place
      ⊎ (SplitLeaf at form w place
      ⊎ (OperatedLeaf at form w place
      ⊎ CallLeaf program settings laws grammar clean IsCallable at form w place))

  -- one form more
  or_goes : (world : World) (at : ℕ) (form : Form) (One Other : Where → Place → Type 0)
      → Goes world One (λ c store. mean.exec_form c world.turns at form store)
      (λ l next. low.lowered_form l next at form) (1 + own_nodes form)
      → Goes world Other (λ c store. mean.exec_form c world.turns at form store)
      (λ l next. low.lowered_form l next at form) (1 + own_nodes form)
      → Goes world (λ w p. One w p ⊎ Other w p)
      (λ c store. mean.exec_form c world.turns at form store)
      (λ l next. low.lowered_form l next at form) (1 + own_nodes form)
  or_goes world at form One Other one other =
      either_goes world One Other (λ c store. mean.exec_form c world.turns at form store)
      (λ l next. low.lowered_form l next at form) (1 + own_nodes form) one
      other

  pub leaves_go : (tables : Tables) (n : ℕ)
      → ((place : Place) (stmt : Stmt) → IsVisited own place stmt → IsProperStmt place stmt)
      → ((place : Place) (stmt : Stmt) → IsVisited own place stmt → IsRankedStmt place stmt)
      → AreLeaves program settings laws grammar clean tables n Leaf IsLeafForm
  leaves_go tables n proper ranked = record {
    suits = λ text IsCallable at prefixes form spots w environment answer currents edge shapes h t.
        elim t [
          | inl border ↦ inl (border_suits program settings laws grammar clean text proper
              ranked at prefixes spots w environment answer currents edge shapes form h border)
          | inr (inl split) ↦ inr (inl (shattered_suits program settings laws grammar clean text
              proper ranked at prefixes spots w environment answer currents edge shapes form h
              split.0 split.1))
          | inr (inr (inl operated)) ↦ inr (inr (inl (operated_suits program settings laws grammar
              clean text proper ranked at prefixes spots w environment answer currents edge
              shapes form h operated)))
          | inr (inr (inr call)) ↦ inr (inr (inr (call_suits text proper ranked at prefixes
              spots w environment answer currents edge shapes IsCallable form h call)))
        ];
    go = λ depth IsCallable calls at form.
        let world = world_at tables n own depth in
        let Call = λ (w : Where) (place : Place).
        CallLeaf program settings laws grammar clean IsCallable at form w place in
        let Operated = λ (w : Where) (place : Place). OperatedLeaf at form w place ⊎ Call w place in
        let Split = λ (w : Where) (place : Place). SplitLeaf at form w place ⊎ Operated w place in
        or_goes world at form (BorderLeaf at form) Split
        (leaf_goes world BorderLeaf at form (border_leaves world at form))
        (or_goes world at form (SplitLeaf at form) Operated
        (leaf_goes world SplitLeaf at form (split_leaves world at form))
        (or_goes world at form (OperatedLeaf at form) Call (operated_leaves world at form)
        (call_leaves program settings laws grammar clean IsCallable world calls at form)));
  }
