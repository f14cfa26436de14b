-- A `return`, and bodies that end in one.
use Rattle.std.proofs.Common.{◌≡◌, sym, ◌∙◌, ap, subst, arith, ℕ, ◌+◌, ◌*◌, ◌≤◌}
use Rattle.std.specs.Prelude.{slice_set}
use Rattle.std.proofs.Common.{List, []}
use Rattle.zpl_tree.specs.Syntax.{Expr, Prefix, Stmt, Prefixed, Stmts, NoStmt, ThenStmt, Form, Assign, Invoke, Block, If, While, Repeat, For, Border, Write, Return}
use Rattle.zpl_names.specs.Counts.{expr_nodes, own_nodes}
use Rattle.zpl_meaning.specs.Store.{Store}
use Rattle.zpl_meaning.specs.Context.{Place}
use Rattle.zpl_meaning.specs.Outcome as out
use Rattle.zpl_meaning.specs.Outcome.{Outcome}
use Rattle.zpl_meaning.specs.Statement as mean
use Rattle.zpl_meaning.specs.Statement.{Context}
use Rattle.node_form.specs.declared.tables.Tables.{Tables}
use Rattle.row_runs.specs.Structured as code
use Rattle.flat_form.specs.Whole.{Whole}
use Rattle.prefix_runs.specs.of_zpl_lowering.Where.{Where, Next}
use Rattle.prefix_runs.specs.of_zpl_lowering.Lowered.{Lowered, behind, followed, rows_alone}
use Rattle.prefix_runs.specs.of_zpl_lowering.Statement as low
use Rattle.prefix_runs.specs.of_zpl_lowering.Statement.{Lowering}
use Rattle.prefix_runs.specs.of_lowering_runs.Seen.{Sight, seen_place}
use Rattle.prefix_runs.specs.of_lowering_runs.Run.{does}
use Rattle.prefix_runs.specs.of_lowering_runs.Agrees.{Agrees}
use Rattle.prefix_runs.specs.of_lowering_runs.Stands.{HasRoom, IsBefore, IsLike, Stands}
use Rattle.prefix_runs.specs.of_lowering_runs.Goes.{World, Goes, context, lowering}
use Rattle.prefix_runs.proofs.of_lowering_runs.AgreeLemmas.{alike_agrees, counting_agrees, goes_agrees, then_agrees, weaker_agrees}
use Rattle.prefix_runs.proofs.of_lowering_runs.FitLemmas.{IsCarried, before_behind, like_anew, like_then, place_kept, room_first, room_rest, stands_on}
use Rattle.prefix_runs.proofs.of_lowering_runs.SuitLemmas.{own_counted}
use Rattle.prefix_runs.specs.Under.{IsUnder}
use Rattle.prefix_runs.proofs.UnderLemmas.{under_goes_to}
use Rattle.call_runs.specs.Answered.{HasReturned, Returns}
use Rattle.call_runs.specs.Ending.{AreAnswering, IsAnsweringBody, IsBlockAnswering, IsReturned, IsReturning}

-- ---- behind prefixes

-- what is behind a `return` is so for an earlier place
pub returned_carried : (tables : Tables)
    → IsCarried tables (λ sight w next start. HasReturned tables sight w next start)
returned_carried tables sight w inner next more start now same f s v h = record {
  before = h.before;
  mid = h.mid;
  value = h.value;
  integer = h.integer;
  like = f h.before h.mid h.like;
  store_is = h.store_is;
  whole_is = h.whole_is
      ∙ ap (λ k. record h.mid { scalars = slice_set h.mid.scalars k h.value }) same;
}

-- ---- runs that end in one

module _ (world : World) where
  abbrev Ended : Sight → Where → Next → Whole → Store → Whole → Type 0
  Ended sight w next start = HasReturned world.tables sight w next start

  -- where it never is
  never : (IsServed : Where → Place → Type 0) (run : Context → Store → Outcome)
      (made : Lowering → Next → Lowered) (spare : ℕ) → ((w : Where) (p : Place) → IsServed w p → ⊥)
      → Returns world IsServed run made spare
  never IsServed run made spare none sight w next start stands served room store now like =
      absurd (none w (seen_place sight w start) served)

  -- it counts steps, which make room for jumps
  counted : (IsServed : Where → Place → Type 0) (spare steps : ℕ) (run : Context → Store → Outcome)
      (made : Lowering → Next → Lowered) → spare ≤ 2 * (1 + steps)
      → Returns world IsServed run made spare
      → Returns world IsServed (λ c store. out.counting (1 + steps) (run c store)) made 0
  counted IsServed spare steps run made le returns sight w next start stands served room store now
      like =
      counting_agrees (Ended sight w next start) world.turns spare 0 (1 + steps) _ _ (omega (arith, le))
      (returns sight w next start stands served room store now like)

  -- behind prefixes
  under_returns : (prefixes : List Prefix) (form : Form) (at : ℕ) (IsServed : Where → Place → Type 0)
      → Returns world IsServed (λ c store. mean.exec_form c world.turns at form store)
      (λ l next. low.lowered_form l next at form) (1 + own_nodes form)
      → Returns world (IsUnder (low.is_border form) prefixes IsServed)
      (λ c store. mean.exec c world.turns (Prefixed at prefixes form) store)
      (λ l next. low.lowered l next (Prefixed at prefixes form)) 0
  under_returns prefixes form at IsServed returns =
      counted (IsUnder (low.is_border form) prefixes IsServed) (1 + own_nodes form)
      (mean.nodes_under prefixes form)
      (λ c store. mean.under c prefixes store (λ inner. mean.exec_form inner world.turns at form store))
      (λ l next. low.lowered_under (low.is_border form) l next prefixes
      (λ inner after. low.lowered_form inner after at form))
      (let h = own_counted world prefixes form in omega (arith, h))
      (under_goes_to world Ended (returned_carried world.tables) (low.is_border form) prefixes IsServed
      (λ c store. mean.exec_form c world.turns at form store)
      (λ l next. low.lowered_form l next at form) (1 + own_nodes form) returns)

  -- behind something else
  behind_returns : (IsServed : Where → Place → Type 0) (run : Context → Store → Outcome)
      (made : Lowering → Next → Lowered) → Returns world IsServed run made 0
      → (sight : Sight) (w : Where) (next more : Next) (start : Whole) → IsBefore next more
      → Stands sight.spots w next → IsServed w (seen_place sight w start)
      → HasRoom world.tables more (made (lowering world w) more) → (store : Store) (mid : Whole)
      → IsLike world.tables sight.spots w next start store mid
      → Agrees (Ended sight w next start) world.turns 0 (run (context world sight w start) store)
      (does world.tables world.turns (made (lowering world w) more).code mid)
  behind_returns IsServed run made returns sight w next more start b stands served room store mid
      like =
      let same : seen_place sight w mid ≡ seen_place sight w start =
      place_kept start mid next.slots like.kept.slots sight w stands.taken stands.edge in
      let course = does world.tables world.turns (made (lowering world w) more).code mid in
      subst (λ (p : Place). Agrees (Ended sight w next start) world.turns 0
      (run (record { place = p; call = world.call }) store) course) same
      (alike_agrees (Ended sight w more mid) (Ended sight w next start) world.turns 0 _ _
      (λ s v h. record {
        before = h.before;
        mid = h.mid;
        value = h.value;
        integer = h.integer;
        like = like_then world.tables sight.spots w next more start store mid h.before h.mid b like
            h.like;
        store_is = h.store_is;
        whole_is = h.whole_is;
      })
      (returns sight w more mid (stands_on sight.spots w next more b stands)
      (subst (λ (p : Place). IsServed w p) (sym same) served) room store mid
      (like_anew world.tables sight.spots w next more start store mid like)))

  two_return : (One Other : Where → Place → Type 0) (run rest : Context → Store → Outcome)
      (made more : Lowering → Next → Lowered)
      → Goes world One run made 0 → Returns world Other rest more 0
      → Returns world (λ w p. One w p × Other w p) (λ c store. out.then_do (run c store) (rest c))
      (λ l next. followed next (made l next) (λ after. more l after)) 0
  two_return One Other run rest made more first second sight w next start stands served room store
      now like =
      let l = lowering world w in
      let one = made l next in
      let other = more l (behind next one) in
      then_agrees (IsLike world.tables sight.spots w next start) (Ended sight w next start) world.turns 0
      0 _ _ _ _
      (first sight w next start stands served.0
      (room_first world.tables next (code.Then one.code other.code) one other room) store now like)
      (λ s v k. behind_returns Other rest more second sight w next (behind next one) start
      (before_behind next one) stands served.1
      (room_rest world.tables next (code.Then one.code other.code) one other room) s v k)

  -- nothing behind it
  last_returns : (IsServed : Where → Place → Type 0) (run : Context → Store → Outcome)
      (made : Lowering → Next → Lowered) → Returns world IsServed run made 0
      → Returns world IsServed (λ c store. out.then_do (run c store) (λ s. out.goes_on s))
      (λ l next. followed next (made l next) (λ after. rows_alone [])) 0
  last_returns IsServed run made returns sight w next start stands served room store now like =
      let l = lowering world w in
      let one = made l next in
      then_agrees (Ended sight w next start) (Ended sight w next start) world.turns 0 0 _ _ _ _
      (returns sight w next start stands served
      (room_first world.tables next (code.Then one.code (rows_alone []).code) one (rows_alone []) room)
      store now like)
      (λ s v k. goes_agrees (Ended sight w next start) world.turns s v k)

  -- ---- a `return`

  module _ (IsValue : Expr → Where → Place → Type 0)
      (returns : (at : ℕ) (value : Expr) → Returns world (IsValue value)
      (λ c store. mean.exec_form c world.turns at (Return value) store)
      (λ l next. low.lowered_form l next at (Return value)) (1 + expr_nodes value)) where
    no_return : (at : ℕ) (form : Form) → ((w : Where) (p : Place) → IsReturned IsValue form w p → ⊥)
        → Returns world (IsReturned IsValue form)
        (λ c store. mean.exec_form c world.turns at form store)
        (λ l next. low.lowered_form l next at form) (1 + own_nodes form)
    no_return at form none =
        never (IsReturned IsValue form) (λ c store. mean.exec_form c world.turns at form store)
        (λ l next. low.lowered_form l next at form) (1 + own_nodes form) none

    form_returns : (at : ℕ) (form : Form)
        → Returns world (IsReturned IsValue form)
        (λ c store. mean.exec_form c world.turns at form store)
        (λ l next. low.lowered_form l next at form) (1 + own_nodes form)
    form_returns at (Return value) = returns at value
    form_returns at (Assign name op value) = no_return at (Assign name op value) (λ w p h. h)
    form_returns at (Invoke name actuals) = no_return at (Invoke name actuals) (λ w p h. h)
    form_returns at (Block body) = no_return at (Block body) (λ w p h. h)
    form_returns at (If arms otherwise) = no_return at (If arms otherwise) (λ w p h. h)
    form_returns at (While test body) = no_return at (While test body) (λ w p h. h)
    form_returns at (Repeat body until test) = no_return at (Repeat body until test) (λ w p h. h)
    form_returns at (For head body) = no_return at (For head body) (λ w p h. h)
    form_returns at (Border kind names) = no_return at (Border kind names) (λ w p h. h)
    form_returns at (Write ends items) = no_return at (Write ends items) (λ w p h. h)

    return_goes : (stmt : Stmt)
        → Returns world (IsReturning IsValue stmt) (λ c store. mean.exec c world.turns stmt store)
        (λ l next. low.lowered l next stmt) 0
    return_goes (Prefixed at prefixes form) =
        under_returns prefixes form at (IsReturned IsValue form) (form_returns at form)

    -- ---- bodies

    module _ (IsServed : Stmt → Where → Place → Type 0)
        (goes : (stmt : Stmt) → Goes world (IsServed stmt)
        (λ c store. mean.exec c world.turns stmt store) (λ l next. low.lowered l next stmt) 0) where
      all_return : (stmts : Stmts)
          → Returns world (AreAnswering IsValue IsServed stmts)
          (λ c store. mean.exec_all c world.turns stmts store)
          (λ l next. low.lowered_all l next stmts) 0
      all_return NoStmt =
          never (AreAnswering IsValue IsServed NoStmt)
          (λ c store. mean.exec_all c world.turns NoStmt store)
          (λ l next. low.lowered_all l next NoStmt) 0 (λ w p h. h)
      all_return (ThenStmt first NoStmt) =
          last_returns (IsReturning IsValue first) (λ c store. mean.exec c world.turns first store)
          (λ l next. low.lowered l next first) (return_goes first)
      all_return (ThenStmt first (ThenStmt second rest)) =
          two_return (IsServed first) (AreAnswering IsValue IsServed (ThenStmt second rest))
          (λ c store. mean.exec c world.turns first store)
          (λ c store. mean.exec_all c world.turns (ThenStmt second rest) store)
          (λ l next. low.lowered l next first)
          (λ l next. low.lowered_all l next (ThenStmt second rest)) (goes first)
          (all_return (ThenStmt second rest))

      no_block : (at : ℕ) (form : Form)
          → ((w : Where) (p : Place) → IsBlockAnswering IsValue IsServed form w p → ⊥)
          → Returns world (IsBlockAnswering IsValue IsServed form)
          (λ c store. mean.exec_form c world.turns at form store)
          (λ l next. low.lowered_form l next at form) (1 + own_nodes form)
      no_block at form none =
          never (IsBlockAnswering IsValue IsServed form)
          (λ c store. mean.exec_form c world.turns at form store)
          (λ l next. low.lowered_form l next at form) (1 + own_nodes form) none

      more_returns : (stmts : Stmts)
          → Returns world (AreAnswering IsValue IsServed stmts)
          (λ c store. mean.exec_all c world.turns stmts store)
          (λ l next. low.lowered_all l next stmts) 1
      more_returns stmts sight w next start stands served room store now like =
          weaker_agrees (Ended sight w next start) world.turns world.turns 0 1 _ _ (omega arith)
          (omega arith) (all_return stmts sight w next start stands served room store now like)

      block_returns : (at : ℕ) (form : Form)
          → Returns world (IsBlockAnswering IsValue IsServed form)
          (λ c store. mean.exec_form c world.turns at form store)
          (λ l next. low.lowered_form l next at form) (1 + own_nodes form)
      block_returns at (Block body) = more_returns body
      block_returns at (Return value) = no_block at (Return value) (λ w p h. h)
      block_returns at (Assign name op value) = no_block at (Assign name op value) (λ w p h. h)
      block_returns at (Invoke name actuals) = no_block at (Invoke name actuals) (λ w p h. h)
      block_returns at (If arms otherwise) = no_block at (If arms otherwise) (λ w p h. h)
      block_returns at (While test body) = no_block at (While test body) (λ w p h. h)
      block_returns at (Repeat body until test) = no_block at (Repeat body until test) (λ w p h. h)
      block_returns at (For head body) = no_block at (For head body) (λ w p h. h)
      block_returns at (Border kind names) = no_block at (Border kind names) (λ w p h. h)
      block_returns at (Write ends items) = no_block at (Write ends items) (λ w p h. h)

      pub body_returns : (body : Stmt)
          → Returns world (IsAnsweringBody IsValue IsServed body)
          (λ c store. mean.exec c world.turns body store) (λ l next. low.lowered l next body) 0
      body_returns (Prefixed at prefixes form) =
          under_returns prefixes form at (IsBlockAnswering IsValue IsServed form)
          (block_returns at form)
