use Rattle.std.proofs.Common.{◌≡◌, ◌+◌, ◌∷◌, suc, None, drop, get_or, subst, arith}
use Rattle.std.proofs.Math.Seq.{drop-cons}
use Rattle.grid_timetable_tests.specs.declared.adding.Told.{Told}
use Rattle.grid_timetable_tests.specs.Playing.{MayPlay}
use Rattle.grid_timetable_tests.proofs.PlayLemmas.{goes_on}
use Rattle.grid_timetable_tests.proofs.adding.add_all.Goals as goal

pub loop-told-preserved : goal.loop-told-preserved
loop-told-preserved c =
    let none : Told = record { processor = 0; sent = None; took = None } in
    let cut : drop c.loop-told.told-index c.args.moves.now ≡ get_or c.args.moves.now c.loop-told.told-index none ∷ drop (suc c.loop-told.told-index) c.args.moves.now =
    drop-cons c.args.moves.now c.loop-told.told-index none c.loop-told-test.true in
    let may : MayPlay c.loop-told.table (get_or c.args.moves.now c.loop-told.told-index none ∷ drop (suc c.loop-told.told-index) c.args.moves.now) =
    subst (MayPlay c.loop-told.table) cut c.loop-told.invariant in
    let next : suc c.loop-told.told-index ≡ c.loop-told.told-index + 1 = omega arith in
    subst (λ n. MayPlay c.add.new.self (drop n c.args.moves.now)) next
    (goes_on c.add.new.self c.loop-told.table (get_or c.args.moves.now c.loop-told.told-index none) (drop (suc c.loop-told.told-index) c.args.moves.now) may
    (c.in_ok-add.ensures.added may.history may.is).1)
