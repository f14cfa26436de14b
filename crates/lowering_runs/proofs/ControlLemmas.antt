-- Sequences, choices and loops of statements.
use Rattle.std.proofs.Common.{◌≡◌, ℕ, Bool, true, false, []}
use Rattle.std.proofs.Common.{sym, subst, arith}
use Rattle.zpl_tree.specs.Syntax.{Expr, Stmts, Form, Tested}
use Rattle.zpl_names.specs.Counts.{expr_nodes}
use Rattle.zpl_names.specs.Sites.{is_shattered}
use Rattle.lowering_fits.specs.of_zpl_meaning.Store.{Store}
use Rattle.lowering_fits.specs.of_zpl_meaning.Context.{Place, reach_of}
use Rattle.lowering_fits.specs.of_zpl_meaning.Outcome as out
use Rattle.lowering_fits.specs.of_zpl_meaning.Outcome.{Outcome}
use Rattle.lowering_fits.specs.of_zpl_meaning.Statement as mean
use Rattle.lowering_fits.specs.of_zpl_meaning.Statement.{Context}
use Rattle.row_runs.specs.Structured as code
use Rattle.row_runs.specs.Structured.{Course}
use Rattle.lowering_fits.specs.of_flat_form.Whole.{Whole}
use Rattle.lowering_fits.specs.of_zpl_lowering.Where.{Where, Next, line_of}
use Rattle.lowering_fits.specs.of_zpl_lowering.Where.{reach_of as where_reach}
use Rattle.lowering_fits.specs.of_zpl_lowering.Lowered.{Lowered, behind, joined, followed, rows_alone}
use Rattle.lowering_fits.specs.of_zpl_lowering.Statement as low
use Rattle.lowering_fits.specs.of_zpl_lowering.Statement.{Lowering}
use Rattle.lowering_runs.specs.Seen.{Sight, seen_place}
use Rattle.lowering_runs.specs.Run.{step, decide, does}
use Rattle.lowering_runs.specs.Agrees.{Agrees}
use Rattle.lowering_runs.specs.Stands.{HasRoom, IsLike}
use Rattle.lowering_runs.specs.Goes.{World, context, lowering, Goes, TestsGo}
use Rattle.lowering_runs.specs.Suits.{ScalarTest}
use Rattle.lowering_runs.proofs.AgreeLemmas.{goes_agrees, weaker_agrees, jumping_agrees}
use Rattle.lowering_runs.proofs.AgreeLemmas.{leaving_agrees, then_agrees}
use Rattle.lowering_runs.proofs.LoopLemmas.{more_heads, tested_agrees, while_agrees, repeat_agrees}
use Rattle.lowering_runs.proofs.FitLemmas.{itself, before_behind, room_coded, room_first, room_rest}
use Rattle.lowering_runs.proofs.FitLemmas.{later_goes}
use Rattle.lowering_runs.proofs.ScalarLemmas.{heads}

module _ (world : World) where
  abbrev Like : Sight → Where → Next → Whole → Store → Whole → Type 0
  Like sight w next start = IsLike world.tables sight.spots w next start

  pub nothing_goes : (IsServed : Where → Place → Type 0)
      → Goes world IsServed (λ c store. out.goes_on store) (λ l next. rows_alone []) 0
  nothing_goes IsServed sight w next start stands served room store now like =
      goes_agrees (Like sight w next start) world.turns store now like

  -- ---- one after the other

  pub two_go : (One Other : Where → Place → Type 0) (run rest : Context → Store → Outcome)
      (made more : Lowering → Next → Lowered)
      → Goes world One run made 0 → Goes world Other rest more 0
      → Goes world (λ w p. One w p × Other w p) (λ c store. out.then_do (run c store) (rest c))
      (λ l next. followed next (made l next) (λ after. more l after)) 0
  two_go One Other run rest made more first second sight w next start stands served room store now
      like =
      let l = lowering world w in
      let one = made l next in
      let other = more l (behind next one) in
      then_agrees (Like sight w next start) (Like sight w next start) world.turns 0 0 _ _ _ _
      (first sight w next start stands served.0
      (room_first world.tables next (code.Then one.code other.code) one other room) store now like)
      (λ s v k. later_goes world Other rest more 0 second sight w next (behind next one) start
      (before_behind next one) stands served.1
      (room_rest world.tables next (code.Then one.code other.code) one other room) s v k)

  -- ---- tests of scalars

  pub scalar_tests : TestsGo world ScalarTest
  scalar_tests sight w next from start at test stands before scalar room store now like =
      more_heads (IsLike world.tables sight.spots w next start store)
      ((mean.test_of (seen_place sight w start) test at).value store) (line_of w at) 0
      (expr_nodes test) (decide world.tables world.turns (low.test_of w from test at).check)
      (does world.tables world.turns (low.test_of w from test at).before.code now) (omega arith)
      (heads world.tables world.turns sight w next start stands
      (omega (arith, room.scalars, before.scalars)) from at test scalar store now like)

  -- ---- statements that are not shattered

  pub unsplit_goes : (IsServed : Where → Place → Type 0) (form : Form)
      (split plain : Context → Store → Outcome) (shattered made : Lowering → Next → Lowered)
      (spare : ℕ) → Goes world IsServed plain made spare
      → Goes world (λ w p. (is_shattered (reach_of p) form ≡ false) × IsServed w p)
      (λ c store. out.choose (is_shattered (reach_of c.place) form) (split c) (plain c) store)
      (λ l next. low.choose_code (is_shattered (where_reach l.place) form) (shattered l next)
      (made l next)) spare
  unsplit_goes IsServed form split plain shattered made spare goes sight w next start stands served
      room store now like =
      let l = lowering world w in
      let c = context world sight w start in
      subst (λ (b : Bool). HasRoom world.tables next
      (low.choose_code b (shattered l next) (made l next))
      → Agrees (Like sight w next start) world.turns spare
      (out.choose b (split c) (plain c) store)
      (does world.tables world.turns (low.choose_code b (shattered l next) (made l next)).code now))
      (sym served.0)
      (λ room. goes sight w next start stands served.1 room store now like) room

  -- ---- choices

  module _ (IsTest : Expr → Where → Place → Type 0) (tests : TestsGo world IsTest) (at offset : ℕ)
      (test : Expr) (body : Stmts) (IsServed : Where → Place → Type 0)
      (goes : Goes world IsServed (λ c. mean.exec_all c world.turns body)
      (λ l next. low.lowered_all l next body) 0) where
    pub when_goes : (last : Lowering → Next → Lowered)
        → Goes world (λ w p. IsTest test w p × IsServed w p)
        (λ c store. mean.exec_arm c world.turns at (Tested offset test body) out.goes_on store)
        (λ l next. low.lowered_arm l next at (Tested offset test body) true (last l)) 0
    when_goes last sight w next start stands served room store now like =
        let l = lowering world w in
        let t = low.test_of w next test at in
        let more = behind next t.before in
        let inside = low.lowered_all l more body in
        let rooms : HasRoom world.tables next
        (joined (code.Then t.before.code inside.code) t.before inside) =
        room_coded world.tables next (code.Then t.before.code inside.code) _ room in
        tested_agrees (Like sight w next start) (Like sight w next start) world.turns
        (mean.test_of (seen_place sight w start) test at)
        (decide world.tables world.turns t.check) (expr_nodes test) 2 0 store
        (does world.tables world.turns t.before.code now)
        (mean.exec_all (context world sight w start) world.turns body) out.goes_on
        (λ state. code.jumping (does world.tables world.turns inside.code state))
        (λ state. code.jumping (code.goes_on state)) (omega arith)
        (tests sight w next next start at test stands (itself next) served.0
        (room_first world.tables next (code.Then t.before.code inside.code) t.before inside rooms)
        store now like)
        (λ v k. weaker_agrees (Like sight w next start) world.turns world.turns 1 2 _ _ (omega arith)
        (omega arith) (jumping_agrees (Like sight w next start) world.turns 0 _ _
        (later_goes world IsServed (λ c. mean.exec_all c world.turns body)
        (λ l next. low.lowered_all l next body) 0 goes sight w next more start
        (before_behind next t.before) stands served.1
        (room_rest world.tables next (code.Then t.before.code inside.code) t.before inside rooms)
        store v k)))
        (λ v k. weaker_agrees (Like sight w next start) world.turns world.turns 1 2 _ _ (omega arith)
        (omega arith) (jumping_agrees (Like sight w next start) world.turns 0 _ _
        (goes_agrees (Like sight w next start) world.turns store v k)))

    pub chosen_goes : (Other : Where → Place → Type 0) (rest : Context → Store → Outcome)
        (last : Lowering → Next → Lowered) → Goes world Other rest last 0
        → Goes world (λ w p. IsTest test w p × IsServed w p × Other w p)
        (λ c store. mean.exec_arm c world.turns at (Tested offset test body) (rest c) store)
        (λ l next. low.lowered_arm l next at (Tested offset test body) false (last l)) 0
    chosen_goes Other rest last others sight w next start stands served room store now like =
        let l = lowering world w in
        let t = low.test_of w next test at in
        let more = behind next t.before in
        let inside = low.lowered_all l more body in
        let far = behind more inside in
        let other = last l far in
        let both : Lowered = joined (code.Then inside.code other.code) inside other in
        let all : HasRoom world.tables next
        (joined (code.Then t.before.code inside.code) t.before both) =
        room_coded world.tables next (code.Then t.before.code inside.code) _ room in
        let rooms : HasRoom world.tables more both =
        room_rest world.tables next (code.Then t.before.code inside.code) t.before both all in
        let leave : Whole → Course Whole = λ state. code.jumping (code.goes_on state) in
        tested_agrees (Like sight w next start) (Like sight w next start) world.turns
        (mean.test_of (seen_place sight w start) test at)
        (decide world.tables world.turns t.check) (expr_nodes test) 2 0 store
        (does world.tables world.turns t.before.code now)
        (mean.exec_all (context world sight w start) world.turns body)
        (rest (context world sight w start))
        (λ state. code.jumping
        (code.then_do (does world.tables world.turns inside.code state) leave))
        (λ state. code.jumping (does world.tables world.turns other.code state)) (omega arith)
        (tests sight w next next start at test stands (itself next) served.0
        (room_first world.tables next (code.Then t.before.code inside.code) t.before both all) store
        now like)
        (λ v k. jumping_agrees (Like sight w next start) world.turns 1 _ _
        (leaving_agrees (Like sight w next start) world.turns 0 _ _
        (later_goes world IsServed (λ c. mean.exec_all c world.turns body)
        (λ l next. low.lowered_all l next body) 0 goes sight w next more start
        (before_behind next t.before) stands served.1
        (room_first world.tables more (code.Then inside.code other.code) inside other rooms)
        store v k)))
        (λ v k. weaker_agrees (Like sight w next start) world.turns world.turns 1 2 _ _ (omega arith)
        (omega arith) (jumping_agrees (Like sight w next start) world.turns 0 _ _
        (later_goes world Other rest last 0 others sight w next far start
        (record {
          scalars = omega arith;
          slots = omega arith;
          arrays = omega arith;
        }) stands served.2
        (room_rest world.tables more (code.Then inside.code other.code) inside other rooms)
        store v k)))

  -- ---- loops

  module _ (IsTest : Expr → Where → Place → Type 0) (tests : TestsGo world IsTest) (at : ℕ)
      (test : Expr) (body : Stmts) (IsServed : Where → Place → Type 0)
      (goes : Goes world IsServed (λ c. mean.exec_all c world.turns body)
      (λ l next. low.lowered_all l next body) 0) where
    pub while_goes : Goes world (λ w p. IsTest test w p × IsServed w p)
        (λ c store. out.while_turns world.turns (mean.test_of c.place test at)
        (mean.exec_all c world.turns body) store)
        (λ l next. low.while_code next (low.test_of l.place next test at)
        (λ after. low.lowered_all l after body)) 0
    while_goes sight w next start stands served room store now like =
        let l = lowering world w in
        let t = low.test_of w next test at in
        let more = behind next t.before in
        let inside = low.lowered_all l more body in
        let here = room_first world.tables next (code.While t.before.code t.check inside.code)
        t.before inside room in
        while_agrees (step world.tables world.turns) (decide world.tables world.turns)
        (Like sight w next start) (mean.test_of (seen_place sight w start) test at) t.check
        (expr_nodes test)
        (omega arith) (does world.tables world.turns t.before.code)
        (λ s v k. tests sight w next next start at test stands (itself next) served.0 here s v k)
        world.turns (mean.exec_all (context world sight w start) world.turns body)
        (does world.tables world.turns inside.code)
        (λ s v k. later_goes world IsServed (λ c. mean.exec_all c world.turns body)
        (λ l next. low.lowered_all l next body) 0 goes sight w next more start
        (before_behind next t.before) stands served.1
        (room_rest world.tables next (code.While t.before.code t.check inside.code) t.before inside
        room) s v k)
        world.turns (omega arith) store now like

    pub repeat_goes : Goes world (λ w p. IsTest test w p × IsServed w p)
        (λ c store. out.repeat_turns world.turns (mean.test_of c.place test at)
        (mean.exec_all c world.turns body) store)
        (λ l next. low.repeat_code next (low.lowered_all l next body)
        (λ after. low.test_of l.place after test at)) 1
    repeat_goes sight w next start stands served room store now like =
        let l = lowering world w in
        let inside = low.lowered_all l next body in
        let t = low.test_of w (behind next inside) test at in
        let here = room_rest world.tables next (code.Repeat inside.code t.before.code t.check) inside
        t.before room in
        repeat_agrees (step world.tables world.turns) (decide world.tables world.turns)
        (Like sight w next start) (mean.test_of (seen_place sight w start) test at) t.check
        (expr_nodes test)
        (omega arith) (does world.tables world.turns t.before.code)
        (λ s v k. tests sight w next (behind next inside) start at test stands
        (before_behind next inside) served.0 here s v k)
        world.turns (mean.exec_all (context world sight w start) world.turns body)
        (does world.tables world.turns inside.code)
        (λ s v k. later_goes world IsServed (λ c. mean.exec_all c world.turns body)
        (λ l next. low.lowered_all l next body) 0 goes sight w next next start
        (itself next) stands served.1
        (room_first world.tables next (code.Repeat inside.code t.before.code t.check) inside
        t.before room) s v k)
        world.turns (omega arith) store now like
