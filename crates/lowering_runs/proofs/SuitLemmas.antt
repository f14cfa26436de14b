-- The code of a statement goes as the statement does, where all forms in it suit their places: by
-- what is known of prefixes, of tests and bounds, and of forms that have no statements in them.
use Rattle.std.proofs.Common.{◌≡◌, ◌⊎◌, inl, inr, ℕ, ◌+◌, ◌*◌, ◌≤◌, Bool, false, List, [], ◌∷◌, Option, Some, None, arith}
use Rattle.zpl_tree.specs.Syntax.{Expr, ForHead, Prefix, Stmt, Prefixed, Stmts, NoStmt, ThenStmt, Form, Assign, Invoke, Block, If, While, Repeat, For, Border, Write, Return, Tested, Arms, NoArm, ThenArm, Otherwise, NoElse, Else}
use Rattle.zpl_names.specs.Counts.{expr_nodes, own_nodes, step_nodes}
use Rattle.zpl_names.specs.Sites.{is_shattered}
use Rattle.lowering_fits.specs.of_zpl_meaning.Store.{Store}
use Rattle.lowering_fits.specs.of_zpl_meaning.Context.{Place, reach_of}
use Rattle.lowering_fits.specs.of_zpl_meaning.Points.{shattered}
use Rattle.lowering_fits.specs.of_zpl_meaning.Outcome as out
use Rattle.lowering_fits.specs.of_zpl_meaning.Outcome.{Outcome}
use Rattle.lowering_fits.specs.of_zpl_meaning.Statement as mean
use Rattle.lowering_fits.specs.of_zpl_meaning.Statement.{Context}
use Rattle.lowering_fits.specs.of_zpl_lowering.Where.{Where, Next, line_of}
use Rattle.lowering_fits.specs.of_zpl_lowering.Lowered.{Lowered}
use Rattle.lowering_fits.specs.of_zpl_lowering.Statement as low
use Rattle.lowering_fits.specs.of_zpl_lowering.Statement.{Lowering}
use Rattle.lowering_runs.specs.Seen.{seen_place}
use Rattle.lowering_runs.specs.Stands.{IsLike}
use Rattle.lowering_runs.specs.Goes.{World, Goes, TestsGo, ValuesGo}
use Rattle.lowering_runs.specs.Suits.{SuitsStmtBy, SuitAllBy, SuitsFormBy, SuitArmsBy, SuitsElseBy}
use Rattle.lowering_runs.proofs.AgreeLemmas.{weaker_agrees, counting_agrees}
use Rattle.lowering_runs.proofs.ControlLemmas.{nothing_goes, two_go, unsplit_goes, when_goes, chosen_goes, while_goes, repeat_goes}
use Rattle.lowering_runs.proofs.HeadLemmas.{for_goes, head_nodes}

module _ (world : World) where
  pub goes_by : (One Other : Where → Place → Type 0) (run : Context → Store → Outcome)
      (made : Lowering → Next → Lowered) (spare : ℕ) → ((w : Where) (p : Place) → One w p → Other w p)
      → Goes world Other run made spare → Goes world One run made spare
  goes_by One Other run made spare f goes sight w next start stands served room store now like =
      goes sight w next start stands (f w (seen_place sight w start) served) room store now like

  -- with more to spare
  pub spare_more : (One : Where → Place → Type 0) (run : Context → Store → Outcome)
      (made : Lowering → Next → Lowered) (spare more : ℕ) → spare ≤ more
      → Goes world One run made spare → Goes world One run made more
  spare_more One run made spare more le goes sight w next start stands served room store now like =
      weaker_agrees (IsLike world.tables sight.spots w next start) world.turns world.turns spare more _ _
      (omega arith) le (goes sight w next start stands served room store now like)

  pub goes_more : (One : Where → Place → Type 0) (run : Context → Store → Outcome)
      (made : Lowering → Next → Lowered) → Goes world One run made 0 → Goes world One run made 1
  goes_more One run made goes = spare_more One run made 0 1 (omega arith) goes

  pub either_goes : (One Other : Where → Place → Type 0) (run : Context → Store → Outcome)
      (made : Lowering → Next → Lowered) (spare : ℕ) → Goes world One run made spare
      → Goes world Other run made spare → Goes world (λ w p. One w p ⊎ Other w p) run made spare
  either_goes One Other run made spare first second sight w next start stands (inl served) room store
      now like = first sight w next start stands served room store now like
  either_goes One Other run made spare first second sight w next start stands (inr served) room store
      now like = second sight w next start stands served room store now like

  -- a statement counts steps, which make room for jumps
  counting_goes : (IsServed : Where → Place → Type 0) (spare steps : ℕ)
      (run : Context → Store → Outcome) (made : Lowering → Next → Lowered) → spare ≤ 2 * (1 + steps)
      → Goes world IsServed run made spare
      → Goes world IsServed (λ c store. out.counting (1 + steps) (run c store)) made 0
  counting_goes IsServed spare steps run made le goes sight w next start stands served room store now
      like =
      counting_agrees (IsLike world.tables sight.spots w next start) world.turns spare 0 (1 + steps) _ _
      (omega (arith, le)) (goes sight w next start stands served room store now like)

  -- its own nodes are among them
  pub own_counted : (prefixes : List Prefix) (form : Form)
      → own_nodes form ≤ mean.nodes_under prefixes form
  own_counted [] form = omega arith
  own_counted (prefix ∷ rest) form = let h = own_counted rest form in omega (arith, h)

  -- and so are those of a `for`, whose step has a node where none stands in the text
  head_counted : (head : ForHead) → head_nodes head + 1 ≤ 2 + (expr_nodes head.first
      + expr_nodes head.last + step_nodes head.step)
  head_counted head = let h = step_counted head.step in omega (arith, h)
    where
      step_counted : (step : Option Expr) → expr_nodes (mean.step_expr step) ≤ step_nodes step + 1
      step_counted None = omega arith
      step_counted (Some step) = omega arith

  abbrev pub FormGoes : (ℕ → Form → Where → Place → Type 0) → ℕ → Form → Type 0
  FormGoes IsServed at form =
      Goes world (IsServed at form) (λ c store. mean.exec_form c world.turns at form store)
      (λ l next. low.lowered_form l next at form) 1

  -- a form without statements in it has as many jumps to spare as it has nodes, and one more
  abbrev pub LeafGoes : (ℕ → Form → Where → Place → Type 0) → ℕ → Form → Type 0
  LeafGoes IsServed at form =
      Goes world (IsServed at form) (λ c store. mean.exec_form c world.turns at form store)
      (λ l next. low.lowered_form l next at form) (1 + own_nodes form)

  pub leaf_goes : (IsServed : ℕ → Form → Where → Place → Type 0) (at : ℕ) (form : Form)
      → FormGoes IsServed at form → LeafGoes IsServed at form
  leaf_goes IsServed at form goes =
      spare_more (IsServed at form) (λ c store. mean.exec_form c world.turns at form store)
      (λ l next. low.lowered_form l next at form) 1 (1 + own_nodes form) (omega arith) goes

  module _ (IsUnder : Bool → List Prefix → (Where → Place → Type 0) → Where → Place → Type 0)
      (IsTest IsBound : Expr → Where → Place → Type 0)
      (IsLeaf : ℕ → Form → Where → Place → Type 0)
      (under : (borders : Bool) (prefixes : List Prefix) (IsServed : Where → Place → Type 0)
      (run : Context → Store → Outcome) (made : Lowering → Next → Lowered) (spare : ℕ)
      → Goes world IsServed run made spare → Goes world (IsUnder borders prefixes IsServed)
      (λ c store. mean.under c prefixes store (λ inner. run inner store))
      (λ l next. low.lowered_under borders l next prefixes made) spare)
      (tests : TestsGo world IsTest) (bounds : ValuesGo world IsBound)
      (leaves : (at : ℕ) (form : Form) → LeafGoes IsLeaf at form) where
    abbrev Stmt_ : Stmt → Where → Place → Type 0
    Stmt_ stmt = SuitsStmtBy IsUnder IsTest IsBound IsLeaf stmt

    abbrev All_ : Stmts → Where → Place → Type 0
    All_ stmts = SuitAllBy IsUnder IsTest IsBound IsLeaf stmts

    abbrev Form_ : ℕ → Form → Where → Place → Type 0
    Form_ at form = SuitsFormBy IsUnder IsTest IsBound IsLeaf at form

    abbrev Else_ : Otherwise → Where → Place → Type 0
    Else_ otherwise = SuitsElseBy IsUnder IsTest IsBound IsLeaf otherwise

    abbrev Arms_ : Arms → Otherwise → Where → Place → Type 0
    Arms_ arms otherwise w p = SuitArmsBy IsUnder IsTest IsBound IsLeaf arms w p × Else_ otherwise w p

    abbrev StmtGoes : Stmt → Type 0
    StmtGoes stmt =
        Goes world (Stmt_ stmt) (λ c store. mean.exec c world.turns stmt store)
        (λ l next. low.lowered l next stmt) 0

    abbrev AllGo : Stmts → Type 0
    AllGo stmts =
        Goes world (All_ stmts) (λ c. mean.exec_all c world.turns stmts)
        (λ l next. low.lowered_all l next stmts) 0

    abbrev run_arms : Arms → ℕ → Otherwise → Context → Store → Outcome
    run_arms arms at otherwise c store =
        mean.exec_arms c world.turns at arms (mean.exec_otherwise c world.turns otherwise) store

    abbrev made_arms : Arms → ℕ → Otherwise → Lowering → Next → Lowered
    made_arms arms at otherwise l next =
        low.lowered_arms l next at arms otherwise (λ after. low.lowered_otherwise l after otherwise)

    abbrev ArmsGo : Arms → ℕ → Otherwise → Type 0
    ArmsGo arms at otherwise =
        Goes world (Arms_ arms otherwise) (run_arms arms at otherwise)
        (made_arms arms at otherwise) 0

    abbrev ElseGoes : Otherwise → Type 0
    ElseGoes otherwise =
        Goes world (Else_ otherwise)
        (λ c store. mean.exec_otherwise c world.turns otherwise store)
        (λ l next. low.lowered_otherwise l next otherwise) 0

    abbrev run_form : ℕ → Form → Context → Store → Outcome
    run_form at form c store = mean.exec_form c world.turns at form store

    abbrev made_form : ℕ → Form → Lowering → Next → Lowered
    made_form at form l next = low.lowered_form l next at form

    -- a `for` has one more, for where it makes no turn
    abbrev RunGoes : ℕ → Form → Type 0
    RunGoes at form =
        Goes world (Form_ at form) (run_form at form) (made_form at form) (2 + own_nodes form)

    one_more : (at : ℕ) (form : Form) → LeafGoes Form_ at form → RunGoes at form
    one_more at form goes =
        spare_more (Form_ at form) (run_form at form) (made_form at form) (1 + own_nodes form)
        (2 + own_nodes form) (omega arith) goes

    -- one that may be shattered
    tested_goes : (at : ℕ) (form : Form) (Plain : Where → Place → Type 0)
        → Goes world (λ w p. (is_shattered (reach_of p) form ≡ false) × Plain w p)
        (run_form at form) (made_form at form) (1 + own_nodes form)
        → Goes world
        (λ w p. IsLeaf at form w p ⊎ ((is_shattered (reach_of p) form ≡ false) × Plain w p))
        (run_form at form) (made_form at form) (1 + own_nodes form)
    tested_goes at form Plain goes =
        either_goes (IsLeaf at form)
        (λ w p. (is_shattered (reach_of p) form ≡ false) × Plain w p) (run_form at form)
        (made_form at form) (1 + own_nodes form) (leaves at form) goes

    mutual
      pub suited_goes : (stmt : Stmt) → StmtGoes stmt
      suited_goes (Prefixed at prefixes form) =
          counting_goes (Stmt_ (Prefixed at prefixes form)) (2 + own_nodes form)
          (mean.nodes_under prefixes form)
          (λ c store. mean.under c prefixes store (λ inner.
          mean.exec_form inner world.turns at form store))
          (λ l next. low.lowered_under (low.is_border form) l next prefixes
          (λ inner after. low.lowered_form inner after at form))
          (let h = own_counted prefixes form in omega (arith, h))
          (under (low.is_border form) prefixes (Form_ at form) (run_form at form)
          (made_form at form) (2 + own_nodes form) (form_goes form at))

      all_go : (stmts : Stmts) → AllGo stmts
      all_go NoStmt = nothing_goes world (All_ NoStmt)
      all_go (ThenStmt first rest) =
          two_go world (Stmt_ first) (All_ rest)
          (λ c store. mean.exec c world.turns first store) (λ c. mean.exec_all c world.turns rest)
          (λ l next. low.lowered l next first) (λ l next. low.lowered_all l next rest)
          (suited_goes first) (all_go rest)

      form_goes : (form : Form) (at : ℕ) → RunGoes at form
      form_goes (Assign name op value) at =
          one_more at (Assign name op value) (leaves at (Assign name op value))
      form_goes (Invoke name actuals) at =
          one_more at (Invoke name actuals) (leaves at (Invoke name actuals))
      form_goes (Block body) at =
          one_more at (Block body)
          (goes_more (All_ body) (run_form at (Block body)) (made_form at (Block body)) (all_go body))
      form_goes (If arms otherwise) at =
          one_more at (If arms otherwise)
          (tested_goes at (If arms otherwise) (Arms_ arms otherwise)
          (goes_more (λ w p. (is_shattered (reach_of p) (If arms otherwise) ≡ false)
          × Arms_ arms otherwise w p) (run_form at (If arms otherwise))
          (made_form at (If arms otherwise))
          (unsplit_goes world (Arms_ arms otherwise) (If arms otherwise)
          (λ c. shattered c.place (mean.line_of c.place at) world.turns (If arms otherwise))
          (run_arms arms at otherwise)
          (λ l next. low.shattered l.place (line_of l.place at) next (If arms otherwise))
          (made_arms arms at otherwise) 0 (arms_go arms at otherwise (else_goes otherwise)))))
      form_goes (While test body) at =
          one_more at (While test body)
          (tested_goes at (While test body) (λ w p. IsTest test w p × All_ body w p)
          (goes_more (λ w p. (is_shattered (reach_of p) (While test body) ≡ false)
          × (IsTest test w p × All_ body w p)) (run_form at (While test body))
          (made_form at (While test body))
          (unsplit_goes world (λ w p. IsTest test w p × All_ body w p) (While test body)
          (λ c. shattered c.place (mean.line_of c.place at) world.turns (While test body))
          (λ c store. out.while_turns world.turns (mean.test_of c.place test at)
          (mean.exec_all c world.turns body) store)
          (λ l next. low.shattered l.place (line_of l.place at) next (While test body))
          (λ l next. low.while_code next (low.test_of l.place next test at)
          (λ after. low.lowered_all l after body)) 0
          (while_goes world IsTest tests at test body (All_ body) (all_go body)))))
      form_goes (Repeat body until test) at =
          one_more at (Repeat body until test)
          (tested_goes at (Repeat body until test) (λ w p. IsTest test w p × All_ body w p)
          (unsplit_goes world (λ w p. IsTest test w p × All_ body w p) (Repeat body until test)
          (λ c. shattered c.place (mean.line_of c.place at) world.turns (Repeat body until test))
          (λ c store. out.repeat_turns world.turns (mean.test_of c.place test until)
          (mean.exec_all c world.turns body) store)
          (λ l next. low.shattered l.place (line_of l.place at) next (Repeat body until test))
          (λ l next. low.repeat_code next (low.lowered_all l next body)
          (λ after. low.test_of l.place after test until)) 1
          (repeat_goes world IsTest tests until test body (All_ body) (all_go body))))
      form_goes (For head body) at =
          spare_more (Form_ at (For head body)) (run_form at (For head body))
          (made_form at (For head body)) (head_nodes head + 1) (2 + own_nodes (For head body))
          (head_counted head) (for_goes world IsBound bounds at head body (All_ body) (all_go body))
      form_goes (Border kind names) at =
          one_more at (Border kind names) (leaves at (Border kind names))
      form_goes (Write ends items) at =
          one_more at (Write ends items) (leaves at (Write ends items))
      form_goes (Return value) at =
          one_more at (Return value) (leaves at (Return value))

      arms_go : (arms : Arms) (at : ℕ) (otherwise : Otherwise) → ElseGoes otherwise
          → ArmsGo arms at otherwise
      arms_go NoArm at otherwise h =
          goes_by (Arms_ NoArm otherwise) (Else_ otherwise) (run_arms NoArm at otherwise)
          (made_arms NoArm at otherwise) 0 (λ w p k. k.1) h
      arms_go (ThenArm (Tested own test body) NoArm) at NoElse h =
          let arms = ThenArm (Tested own test body) NoArm in
          goes_by (Arms_ arms NoElse) (λ w p. IsTest test w p × All_ body w p)
          (run_arms arms at NoElse) (made_arms arms at NoElse) 0 (λ w p k. k.0.0)
          (when_goes world IsTest tests at own test body (All_ body) (all_go body)
          (λ l after. made_arms NoArm (mean.arms_at NoArm) NoElse l after))
      arms_go (ThenArm (Tested own test body) NoArm) at (Else other) h =
          let arms = ThenArm (Tested own test body) NoArm in
          goes_by (Arms_ arms (Else other))
          (λ w p. IsTest test w p × All_ body w p × Arms_ NoArm (Else other) w p)
          (run_arms arms at (Else other)) (made_arms arms at (Else other)) 0
          (λ w p k. (k.0.0.0, k.0.0.1, (k.0.1, k.1)))
          (chosen_goes world IsTest tests at own test body (All_ body) (all_go body) (Arms_ NoArm (Else other))
          (run_arms NoArm (mean.arms_at NoArm) (Else other))
          (λ l after. made_arms NoArm (mean.arms_at NoArm) (Else other) l after)
          (goes_by (Arms_ NoArm (Else other)) (Else_ (Else other))
          (run_arms NoArm (mean.arms_at NoArm) (Else other))
          (made_arms NoArm (mean.arms_at NoArm) (Else other)) 0 (λ w p k. k.1) h))
      arms_go (ThenArm (Tested own test body) (ThenArm second rest)) at otherwise h =
          let arms = ThenArm (Tested own test body) (ThenArm second rest) in
          let more = ThenArm second rest in
          goes_by (Arms_ arms otherwise)
          (λ w p. IsTest test w p × All_ body w p × Arms_ more otherwise w p)
          (run_arms arms at otherwise) (made_arms arms at otherwise) 0
          (λ w p k. (k.0.0.0, k.0.0.1, (k.0.1, k.1)))
          (chosen_goes world IsTest tests at own test body (All_ body) (all_go body) (Arms_ more otherwise)
          (run_arms more (mean.arms_at more) otherwise)
          (λ l after. made_arms more (mean.arms_at more) otherwise l after)
          (arms_go (ThenArm second rest) (mean.arms_at (ThenArm second rest)) otherwise h))

      else_goes : (otherwise : Otherwise) → ElseGoes otherwise
      else_goes NoElse = nothing_goes world (Else_ NoElse)
      else_goes (Else body) =
          goes_by (Else_ (Else body)) (All_ body)
          (λ c store. mean.exec_otherwise c world.turns (Else body) store)
          (λ l next. low.lowered_otherwise l next (Else body)) 0 (λ w p h. h) (all_go body)
