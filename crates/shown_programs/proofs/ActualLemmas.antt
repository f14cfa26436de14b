-- What the parameters of calls take, in accepted programs, suits the places where they stand.
use Rattle.std.proofs.Common.{refl, subst, ℕ, true, false, List, [], ◌∷◌, ◌++◌, Option, Some, None}
use Rattle.std.specs.Prelude.{IsSome}
use Rattle.zpl_tree.specs.Syntax.{Base, Expr, Number, Truth, Coord, Named, Shifted, Around, Remap, Call, Paren, Neg, Not, Abs, Pair, Reduce, Scan, Flood, Exprs, NoExpr, ThenExpr, Stmt, Program}
use Rattle.zpl_tree.specs.Grammar.{IsProgram}
use Rattle.zpl_names.specs.Kinds.{Rank, Formal, ScalarFormal, ArrayFormal}
use Rattle.zpl_names.specs.Shapes.{Shapes}
use Rattle.zpl_names.specs.Sites.{Reach, Site, Actual, actuals_sites, expr_sites, whole_rank}
use Rattle.zpl_names.specs.Accepted.{IsFaultless}
use Rattle.zpl_binding.specs.Settings.{Setting}
use Rattle.zpl_meaning.specs.Store.{Environment, Thing, Scalar, ArrayAt, Fixed, thing_of}
use Rattle.zpl_meaning.specs.Context.{Currents, Edge, Setup, Place}
use Rattle.zpl_meaning.specs.Calls.{actual_thing}
use Rattle.zpl_meaning.specs.Proper.{AreProperActuals, IsArray, IsProper, IsProperScalar, IsProperStmt, IsRead, IsVariable}
use Rattle.zpl_meaning.specs.Visited.{IsVisited}
use Rattle.zpl_meaning.proofs.DepthLemmas.{Each, each_left, each_right}
use Rattle.zpl_meaning.proofs.ProperLemmas.{reach_at}
use Rattle.zpl_meaning.proofs.VisitLemmas.{Laws, IsHere}
use Rattle.meaning_ranks.specs.Ranked.{AreShapedActuals, IsRanked, IsRankedStmt}
use Rattle.zpl_lowering.specs.Where.{Where}
use Rattle.served_places.specs.of_lowering_runs.Seen.{Spot}
use Rattle.operator_runs.specs.of_call_runs.Taken.{AreCallActuals, IsArrayThing}
use Rattle.operator_runs.specs.Served.{OperatedValue}
use Rattle.served_places.specs.Told.{IsSeenFrom, place_of}
use Rattle.shown_programs.specs.Text.{AreCallTexts, IsOperatedText}
use Rattle.shown_programs.proofs.CallLemmas.{setup, text_of, IsKnownAt}
use Rattle.shown_programs.proofs.OperandLemmas.{name_alone}
use Rattle.shown_programs.proofs.PlaceLemmas.{value_suits}
use Rattle.shown_programs.proofs.SourceLemmas.{AllGivenSources, AreGivenSources, ProcedureText}

-- ---- names

variable_some : (thing : Option Thing) → IsVariable thing → IsSome thing
variable_some (Some thing) h = refl
variable_some None h = absurd h

array_some : (thing : Option Thing) → IsArray thing → IsSome thing
array_some (Some thing) h = refl
array_some None h = absurd h

array_is : (thing : Option Thing) → IsArray thing → IsArrayThing thing
array_is (Some (ArrayAt place home)) h = tt
array_is (Some (Scalar place)) h = h
array_is (Some (Fixed value)) h = h
array_is None h = h

module _ (program : Program) (settings : List Setting) (laws : Laws program)
    (grammar : IsProgram program) (clean : IsFaultless program) (own_text : List ℕ) where
  abbrev own : Setup
  own = setup program settings laws grammar clean

  abbrev source : ProcedureText
  source = text_of program settings laws grammar clean own_text

  module _ (proper : (place : Place) (stmt : Stmt) → IsVisited own place stmt
      → IsProperStmt place stmt)
      (ranked : (place : Place) (stmt : Stmt) → IsVisited own place stmt → IsRankedStmt place stmt)
      (text : List ℕ) (around : Shapes) (spots : List Spot) (w : Where) (environment : Environment)
      (answer : ℕ) (currents : Currents) (edge : Option Edge) (shapes : Shapes)
      (known : IsKnownAt program settings laws grammar clean own_text w shapes)
      (seen : IsSeenFrom spots w environment currents) (shattered : Rank) (result : Option Base)
    where
      abbrev place : Place
      place = place_of w environment answer currents edge

      abbrev reach : Reach
      reach = reach_at place shapes shattered result

      abbrev Sited : List Site → Type 0
      Sited sites = Each (IsHere program text around) sites

      -- ---- one value

      -- it suits its place, and the others have their sites behind its own
      abbrev Suits : Expr → Exprs → Type 0
      Suits actual rest =
          (IsOperatedText actual → AreGivenSources source actual
          → IsProperScalar place Actual actual → IsRanked place Actual actual
          → OperatedValue actual w place) × Sited (actuals_sites reach rest)

      read_suits : (actual : Expr) (rest : Exprs)
          → Sited (expr_sites reach (whole_rank reach Actual actual) actual
          ++ actuals_sites reach rest) → Suits actual rest
      read_suits actual rest sites =
          let own_sites = expr_sites reach (whole_rank reach Actual actual) actual in
          let others = actuals_sites reach rest in (
            λ t g p r. value_suits program settings laws grammar clean own_text proper ranked text
                around spots w environment answer currents edge shapes known seen shattered result
                Actual actual (whole_rank reach Actual actual) t g p r
                (each_left (IsHere program text around) own_sites others sites),
            each_right (IsHere program text around) own_sites others sites,
          )

      one_suits : (actual : Expr) (rest : Exprs) → Sited (actuals_sites reach (ThenExpr actual rest))
          → Suits actual rest
      one_suits (Named at name) rest sites = (
        λ t g p r. name_alone spots environment answer edge shattered result currents
            (thing_of w.environment name.text)
            (subst (λ (o : Option Thing). IsRead currents (Some 0) o) (seen.names name.text)
            (subst (λ (k : Rank). IsProper place k (Named at name)) p.0 p.1)),
        sites.1,
      )
      one_suits (Number at value) rest sites = read_suits (Number at value) rest sites.1
      one_suits (Truth at value) rest sites = read_suits (Truth at value) rest sites.1
      one_suits (Coord at k) rest sites = read_suits (Coord at k) rest sites.1
      one_suits (Shifted at name shift) rest sites = read_suits (Shifted at name shift) rest sites.1
      one_suits (Around at name shift) rest sites = read_suits (Around at name shift) rest sites.1
      one_suits (Remap at name indices) rest sites = read_suits (Remap at name indices) rest sites.1
      one_suits (Call at name actuals) rest sites = read_suits (Call at name actuals) rest sites.1
      one_suits (Paren at inside) rest sites = read_suits (Paren at inside) rest sites.1
      one_suits (Neg at operand) rest sites = read_suits (Neg at operand) rest sites.1
      one_suits (Not at operand) rest sites = read_suits (Not at operand) rest sites.1
      one_suits (Abs at operand) rest sites = read_suits (Abs at operand) rest sites.1
      one_suits (Pair at op left right) rest sites = read_suits (Pair at op left right) rest sites.1
      one_suits (Reduce at operator over operand) rest sites = read_suits (Reduce at operator over operand) rest sites.1
      one_suits (Scan at operator along operand) rest sites = read_suits (Scan at operator along operand) rest sites.1
      one_suits (Flood at source operand) rest sites = read_suits (Flood at source operand) rest sites.1

      -- ---- all of them

      pub actuals_suit : (formals : List Formal) (actuals : Exprs) → AreCallTexts formals actuals
          → AllGivenSources source actuals → AreProperActuals place formals actuals
          → AreShapedActuals place formals actuals → Sited (actuals_sites reach actuals)
          → AreCallActuals OperatedValue w place formals actuals
      actuals_suit [] actuals t g p r sites = tt
      actuals_suit (formal ∷ formals) NoExpr t g p r sites = tt
      actuals_suit (ScalarFormal false base ∷ formals) (ThenExpr actual rest) t g p r sites =
          let one = one_suits actual rest sites in
          (one.0 t.0 g.0 p.0 r.0, actuals_suit formals rest t.1 g.1 p.1 r.1 one.1)
      actuals_suit (ScalarFormal true base ∷ formals) (ThenExpr actual rest) t g p r sites = (
        variable_some (actual_thing environment actual) p.0,
        actuals_suit formals rest t g.1 p.1 r.1 (one_suits actual rest sites).1,
      )
      actuals_suit (ArrayFormal true base shape ∷ formals) (ThenExpr actual rest) t g p r sites = (
        array_some (actual_thing environment actual) p.0,
        actuals_suit formals rest t g.1 p.1 r.1 (one_suits actual rest sites).1,
      )
      actuals_suit (ArrayFormal false base shape ∷ formals) (ThenExpr actual rest) t g p r sites = (
        array_is (actual_thing environment actual) p.0,
        actuals_suit formals rest t g.1 p.1 r.1 (one_suits actual rest sites).1,
      )
