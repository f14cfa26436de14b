-- Procedures that answer: their bodies suit the places where they are run, and the store behind one
-- is what its call asks for.
use Rattle.std.proofs.Common.{◌≡◌, ℕ, List, [], ◌∷◌, ◌++◌, length, map, Option, None, refl}
use Rattle.std.proofs.Common.{sym, ap, ◌∙◌, subst, append-nil, ℤ}
use Rattle.std.specs.Prelude.{Contains}
use Rattle.zpl_tree.specs.Syntax.{Expr, Prefix, Stmt, Prefixed, Stmts, NoStmt, ThenStmt, Form, Assign, Invoke, Block, If, While, Repeat, For, Border, Write, Return, Program}
use Rattle.zpl_tree.specs.Grammar.{IsProgram}
use Rattle.zpl_names.specs.Shapes.{Shapes}
use Rattle.zpl_names.specs.Sites.{Reach, Result, whole_rank}
use Rattle.zpl_names.specs.Accepted.{IsFaultless}
use Rattle.zpl_binding.specs.Settings.{Setting}
use Rattle.zpl_meaning.specs.Store.{Environment, Store, Thing}
use Rattle.zpl_meaning.specs.Context.{Currents, Edge, Setup, Place, reach_of}
use Rattle.zpl_meaning.specs.Calls as mean_calls
use Rattle.zpl_meaning.specs.Calls.{Handed}
use Rattle.zpl_meaning.specs.Variables.{with_new_scalar}
use Rattle.zpl_meaning.specs.Proper.{IsProperStmt}
use Rattle.zpl_meaning.specs.Visited.{IsVisited, list_of}
use Rattle.zpl_meaning.proofs.ProperLemmas.{reach_at}
use Rattle.zpl_meaning.proofs.VisitLemmas.{Laws, Inside, InStmt}
use Rattle.meaning_ranks.specs.Ranked.{IsRankedStmt}
use Rattle.meaning_ranks.proofs.PlaceLemmas.{IsAt}
use Rattle.node_form.specs.declared.tables.Tables.{Tables}
use Rattle.flat_form.specs.Whole.{Whole}
use Rattle.zpl_lowering.specs.Where.{Stored, Where, Next}
use Rattle.zpl_lowering.specs.Statement.{Given, Valued, Copied, Referring}
use Rattle.served_places.specs.of_lowering_runs.Seen.{Spot, Answer, numbered, seen_spot, seen_store}
use Rattle.served_places.specs.of_lowering_runs.Stands.{AreKnown, IsKnown, IsLike, Keeps, Rises, Stands}
use Rattle.served_places.specs.of_lowering_runs.Frames.{seen_given}
use Rattle.served_places.specs.of_lowering_runs.Suits.{SuitsStmtBy}
use Rattle.served_places.proofs.of_lowering_runs.FrameLemmas.{map_append, names_below, numbered_append, thing_below}
use Rattle.served_places.proofs.of_lowering_runs.StatementLemmas.{contains_first, contains_later}
use Rattle.operator_runs.specs.Served.{OperatedValue}
use Rattle.served_places.specs.of_prefix_runs.Under.{IsUnder}
use Rattle.served_places.specs.Told.{IsSeenFrom, place_of}
use Rattle.operator_runs.specs.of_call_runs.Ending.{AreAnswering, IsAnsweringBody, IsBlockAnswering, IsReturned, IsReturning}
use Rattle.operator_runs.specs.of_call_runs.Taken.{AllGiven}
use Rattle.shown_programs.specs.Text.{AreAnsweringTexts, IsAnsweringForm, IsAnsweringText, IsOperatedText, IsReturnForm, IsReturnText}
use Rattle.shown_programs.proofs.BoundedLemmas.{IsBoundedAt}
use Rattle.shown_programs.proofs.CallLemmas.{setup, text_of, IsKnownAt}
use Rattle.shown_programs.proofs.PlaceLemmas.{AreGivenStmts, IsGivenForm, IsGivenStmt, IsPlaced, placed_inside, placed_part, placed_proper, placed_ranked, placed_under, stmt_suits, value_suits}
use Rattle.shown_programs.proofs.SourceLemmas.{ProcedureText}

-- ---- the scalar that takes an answer: code has none

module _ (spots : List Spot) (value : ℤ) where
  abbrev pub with_answer : List Spot
  with_answer = spots ++ Answer value ∷ []

  pub answer_numbered : numbered with_answer ≡ numbered spots
  answer_numbered = numbered_append spots (Answer value ∷ []) ∙ append-nil (numbered spots)

  pub answer_store : (arrays : List Stored) (whole : Whole)
      → with_new_scalar (seen_store spots arrays whole) value ≡ seen_store with_answer arrays whole
  answer_store arrays whole =
      ap (λ (xs : List ℤ). record (seen_store spots arrays whole) { scalars = xs })
      (sym (map_append (seen_spot whole) spots (Answer value ∷ [])))

  pub answer_stands : (w : Where) (next : Next) → Stands spots w next → Stands with_answer w next
  answer_stands w next stands =
      let arrays = length w.numbers.arrays in
      let same = sym answer_numbered in
      record {
        numbers = answer_numbered ∙ stands.numbers;
        rises = subst (λ (ks : List ℕ). Rises 0 ks next.scalars) same stands.rises;
        known = subst (λ (ks : List ℕ). AreKnown (length ks) arrays w.environment.names) same
            stands.known;
        globals = subst (λ (ks : List ℕ). AreKnown (length ks) arrays w.setup.globals) same
            stands.globals;
        unmoved = names_below spots (Answer value ∷ []) arrays w.setup.globals stands.globals
            ∙ stands.unmoved;
        taken = stands.taken;
        edge = stands.edge;
        declared = stands.declared;
        stored = stands.stored;
      }

  pub answer_like : (tables : Tables) (w : Where) (next : Next) (start : Whole) (store : Store)
      (whole : Whole) → IsLike tables spots w next start store whole
      → IsLike tables with_answer w next start (with_new_scalar store value) whole
  answer_like tables w next start store whole l = record {
    seen =
        ap (λ (s : Store). with_new_scalar s value) l.seen ∙ answer_store w.numbers.arrays whole;
    sound = l.sound;
    kept = subst (λ (ks : List ℕ). Keeps ks next start whole) (sym answer_numbered) l.kept;
    held = l.held;
  }

  -- without it
  pub plain_like : (tables : Tables) (w : Where) (next : Next) (start : Whole) (store : Store)
      (whole : Whole) → IsLike tables with_answer w next start store whole
      → IsLike tables spots w next start (seen_store spots w.numbers.arrays whole) whole
  plain_like tables w next start store whole l = record {
    seen = refl;
    sound = l.sound;
    kept = subst (λ (ks : List ℕ). Keeps ks next start whole) answer_numbered l.kept;
    held = l.held;
  }

  pub answer_given : (scalars : ℕ) (arrays : List Stored) (from : ℕ) (givens : List Given) (to : ℕ)
      (whole : Whole) → scalars ≡ length (numbered spots) → AllGiven scalars arrays from givens to
      → map (seen_given with_answer whole) givens ≡ map (seen_given spots whole) givens
  answer_given scalars arrays from [] to whole e g = refl
  answer_given scalars arrays from (Valued k ∷ givens) to whole e g =
      ap (λ (hs : List Handed). seen_given spots whole (Valued k) ∷ hs)
      (answer_given scalars arrays _ givens to whole e g.1)
  answer_given scalars arrays from (Copied stored home ∷ givens) to whole e g =
      ap (λ (hs : List Handed). seen_given spots whole (Copied stored home) ∷ hs)
      (answer_given scalars arrays from givens to whole e g.1)
  answer_given scalars arrays from (Referring thing ∷ givens) to whole e g =
      ap (λ (t : Thing). mean_calls.Referred t ∷ map (seen_given with_answer whole) givens)
      (thing_below spots (Answer value ∷ []) (length arrays) thing
      (subst (λ (m : ℕ). IsKnown m (length arrays) thing) e g.0))
      ∙ ap (λ (hs : List Handed). seen_given spots whole (Referring thing) ∷ hs)
      (answer_given scalars arrays from givens to whole e g.1)

-- ---- bodies that end in a `return`

module _ (program : Program) (settings : List Setting) (laws : Laws program)
    (grammar : IsProgram program) (clean : IsFaultless program) (own_text : List ℕ) where
  abbrev own : Setup
  own = setup program settings laws grammar clean

  abbrev source : ProcedureText
  source = text_of program settings laws grammar clean own_text

  abbrev At : Place → Shapes → Stmt → Type 0
  At place shapes stmt = IsAt program settings laws grammar clean place shapes stmt

  abbrev Here : Where → Shapes → Type 0
  Here w shapes = IsKnownAt program settings laws grammar clean own_text w shapes

  module _ (proper : (place : Place) (stmt : Stmt) → IsVisited own place stmt
      → IsProperStmt place stmt)
      (ranked : (place : Place) (stmt : Stmt) → IsVisited own place stmt
      → IsRankedStmt place stmt)
      (Leaf : ℕ → Form → Where → Place → Type 0) (Text : Reach → Form → Type 0)
      (leaf_suits : (at : ℕ) (prefixes : List Prefix) (form : Form) (spots : List Spot)
      (w : Where) (environment : Environment) (answer : ℕ) (currents : Currents)
      (edge : Option Edge) (shapes : Shapes)
      → IsPlaced program settings laws grammar clean own_text at prefixes form spots w environment
      answer currents edge shapes
      → Text (reach_of (place_of w environment answer currents edge)) form
      → Leaf at form w (place_of w environment answer currents edge)) where
    abbrev Served : Stmt → Where → Place → Type 0
    Served stmt w place = SuitsStmtBy IsUnder OperatedValue OperatedValue Leaf stmt w place

    -- ---- the `return`

    module _ (at : ℕ) (prefixes : List Prefix) (spots : List Spot) (w : Where)
        (environment : Environment) (answer : ℕ) (currents : Currents) (edge : Option Edge)
        (shapes : Shapes) where
      abbrev place : Place
      place = place_of w environment answer currents edge

      abbrev Placed : Form → Type 0
      Placed form =
          IsPlaced program settings laws grammar clean own_text at prefixes form spots w environment
          answer currents edge shapes

      value_returned : (value : Expr) → (h : Placed (Return value)) → IsOperatedText value
          → Inside program h.here.text h.here.around
          (reach_at place shapes h.here.shattered h.here.result) at prefixes (Return value)
          → OperatedValue value w place
      value_returned value h t (InStmt k) =
          let reach = reach_at place shapes h.here.shattered h.here.result in
          value_suits program settings laws grammar clean own_text proper ranked h.here.text
          h.here.around spots w environment answer currents edge shapes h.known h.seen
          h.here.shattered h.here.result (Result None) value (whole_rank reach (Result
          h.here.result) value) t h.given (placed_proper program settings laws grammar clean
          own_text proper ranked at prefixes (Return value) spots w environment answer currents edge
          shapes h) (placed_ranked program settings laws grammar clean own_text proper ranked at
          prefixes (Return value) spots w environment answer currents edge shapes h) k.1.1

      form_returned : (form : Form) → Placed form → IsReturnForm form
          → IsReturned OperatedValue form w place
      form_returned (Return value) h t =
          value_returned value h t
          (placed_inside program settings laws grammar clean own_text proper ranked at prefixes
          (Return value) spots w environment answer currents edge shapes h)
      form_returned (Assign name op value) h t = absurd t
      form_returned (Invoke name actuals) h t = absurd t
      form_returned (Block body) h t = absurd t
      form_returned (If arms otherwise) h t = absurd t
      form_returned (While test body) h t = absurd t
      form_returned (Repeat body until test) h t = absurd t
      form_returned (For head body) h t = absurd t
      form_returned (Border kind names) h t = absurd t
      form_returned (Write line items) h t = absurd t

    return_suits : (stmt : Stmt) (spots : List Spot) (w : Where) (environment : Environment)
        (answer : ℕ) (currents : Currents) (edge : Option Edge) (shapes : Shapes)
        → At (place_of w environment answer currents edge) shapes stmt
        → IsVisited own (place_of w environment answer currents edge) stmt
        → Here w shapes → IsSeenFrom spots w environment currents
        → IsBoundedAt (place_of w environment answer currents edge) → IsReturnText stmt
        → IsGivenStmt source stmt
        → IsReturning OperatedValue stmt w (place_of w environment answer currents edge)
    return_suits (Prefixed at prefixes form) spots w environment answer currents edge shapes here visited
        known seen bounded text given =
        placed_under program settings laws grammar clean own_text proper ranked at prefixes form
        (λ inner there. IsReturned OperatedValue form inner there) spots w environment answer currents
        edge shapes here visited known seen bounded text.0 given
        (λ inner deep last deeper h same.
        form_returned at prefixes spots inner environment answer deep last deeper form h text.1)

    -- ---- the statements before it

    all_suit : (stmts : Stmts) (spots : List Spot) (w : Where) (environment : Environment)
        (answer : ℕ) (currents : Currents) (edge : Option Edge) (shapes : Shapes)
        → ((part : Stmt) → Contains (list_of stmts) part
        → At (place_of w environment answer currents edge) shapes part
        × IsVisited own (place_of w environment answer currents edge) part)
        → Here w shapes → IsSeenFrom spots w environment currents
        → IsBoundedAt (place_of w environment answer currents edge)
        → AreAnsweringTexts Text (reach_of (place_of w environment answer currents edge)) stmts
        → AreGivenStmts source stmts
        → AreAnswering OperatedValue Served stmts w (place_of w environment answer currents edge)
    all_suit NoStmt spots w environment answer currents edge shapes parts known seen bounded text given =
        absurd text
    all_suit (ThenStmt first NoStmt) spots w environment answer currents edge shapes parts known seen
        bounded text given =
        let one = parts first (contains_first first []) in
        return_suits first spots w environment answer currents edge shapes one.0 one.1 known seen bounded
        text given.0
    all_suit (ThenStmt first (ThenStmt second rest)) spots w environment answer currents edge shapes
        parts known seen bounded text given =
        let others = list_of (ThenStmt second rest) in
        let one = parts first (contains_first first others) in (
          stmt_suits program settings laws grammar clean own_text proper ranked Leaf Text leaf_suits
              first spots
              w environment answer currents edge shapes one.0 one.1 known seen bounded text.0 given.0,
          all_suit (ThenStmt second rest) spots w environment answer currents edge shapes
              (λ part c. parts part (contains_later first others part c)) known seen bounded text.1
              given.1,
        )

    block_suits : (form : Form) (at : ℕ) (prefixes : List Prefix) (spots : List Spot) (w : Where)
        (environment : Environment) (answer : ℕ) (currents : Currents) (edge : Option Edge)
        (shapes : Shapes)
        → IsPlaced program settings laws grammar clean own_text at prefixes form spots w environment
        answer currents edge shapes
        → IsAnsweringForm Text (reach_of (place_of w environment answer currents edge)) form
        → IsGivenForm source form
        → IsBlockAnswering OperatedValue Served form w (place_of w environment answer currents edge)
    block_suits (Block body) at prefixes spots w environment answer currents edge shapes h text given =
        all_suit body spots w environment answer currents edge shapes
        (placed_part program settings laws grammar clean own_text proper ranked at prefixes
        (Block body) spots w environment answer currents edge shapes h) h.known h.seen h.bounded
        text given
    block_suits (Return value) at prefixes spots w environment answer currents edge shapes h text given =
        absurd text
    block_suits (Assign name op value) at prefixes spots w environment answer currents edge shapes h text
        given = absurd text
    block_suits (Invoke name actuals) at prefixes spots w environment answer currents edge shapes h text
        given = absurd text
    block_suits (If arms otherwise) at prefixes spots w environment answer currents edge shapes h text
        given = absurd text
    block_suits (While test body) at prefixes spots w environment answer currents edge shapes h text
        given = absurd text
    block_suits (Repeat body until test) at prefixes spots w environment answer currents edge shapes h text
        given = absurd text
    block_suits (For head body) at prefixes spots w environment answer currents edge shapes h text
        given = absurd text
    block_suits (Border kind names) at prefixes spots w environment answer currents edge shapes h text
        given = absurd text
    block_suits (Write line items) at prefixes spots w environment answer currents edge shapes h text
        given = absurd text

    pub answering_suits : (body : Stmt) (spots : List Spot) (w : Where) (environment : Environment)
        (answer : ℕ) (currents : Currents) (edge : Option Edge) (shapes : Shapes)
        → At (place_of w environment answer currents edge) shapes body
        → IsVisited own (place_of w environment answer currents edge) body
        → Here w shapes → IsSeenFrom spots w environment currents
        → IsBoundedAt (place_of w environment answer currents edge)
        → IsAnsweringText Text (reach_of (place_of w environment answer currents edge)) body
        → IsGivenStmt source body
        → IsAnsweringBody OperatedValue Served body w (place_of w environment answer currents edge)
    answering_suits (Prefixed at prefixes form) spots w environment answer currents edge shapes here
        visited known seen bounded text given =
        placed_under program settings laws grammar clean own_text proper ranked at prefixes form
        (λ inner there. IsBlockAnswering OperatedValue Served form inner there) spots w environment answer
        currents edge shapes here visited known seen bounded text.0 given
        (λ inner deep last deeper h same.
        block_suits form at prefixes spots inner environment answer deep last deeper h
        (subst (λ (r : Reach). IsAnsweringForm Text r form) same text.1) given.1)
