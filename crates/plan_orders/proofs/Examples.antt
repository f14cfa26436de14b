-- Rows.
use Rattle.std.proofs.Common.{◌≡◌, ℕ, zero, suc, true, false, List, [], ◌∷◌, pos, None, Some, refl}
use Rattle.zpl_nums.specs.declared.ends.End.TheVariants.{Done}
use Rattle.node_form.specs.declared.instructions.Instr.{Instr}
use Rattle.node_form.specs.declared.instructions.Instr.TheVariants as instr
use Rattle.node_form.specs.declared.members.Member.{Member}
use Rattle.node_form.specs.declared.members.Member.TheVariants.{CloseIf, CloseWhile, OpenIf, OpenRepeat, OpenWhile, Until}
use Rattle.node_form.specs.declared.tables.Tables.{Tables}
use Rattle.row_runs.specs.Run.{Ends, Wrong}
use Rattle.plan_meaning.specs.Abreast.{Abreast, Share}
use Rattle.plan_meaning.specs.Act.{plan_run}
use Rattle.plan_orders.specs.Brings.{in_front, loops_among, most_loops, row_most}
use Rattle.plan_orders.specs.InStep.{least_moves, run_most, some_turns, stops_within}
use Rattle.plan_orders.specs.Open.{most_open}

-- a group with a loop in a choice and one behind it, and one with a loop
two_loops : List Member
two_loops =
    OpenIf 0 None 1 ∷ OpenWhile 0 None 2 ∷ CloseWhile ∷ CloseIf ∷ OpenRepeat None 3 ∷ Until 0 ∷ []

one_loop : List Member
one_loop = OpenWhile 0 None 4 ∷ CloseWhile ∷ []

code : Tables
code = record {
  grid = 2 ∷ [];
  scalars = 0;
  cells = 0;
  slots = [];
  arrays = [];
  texts = [];
  exprs = [];
  groups = one_loop ∷ two_loops ∷ one_loop ∷ [];
  exchanges = [];
  code = instr.Loop 0 1 ∷ instr.End ∷ [];
}

counted : loops_among two_loops ≡ 2
unfolding two_loops
counted = refl

most : most_loops code ≡ 2
unfolding code two_loops one_loop
most = refl

-- 2 ^ 23 * 4 ^ 2, and as much for each of three rows, in a run of at most two jumps and tests
in_a_row : row_most code 3 ≡ 134217728
unfolding code two_loops one_loop
in_a_row = refl

-- without a turn of any loop
in_a_row_alone : row_most code 0 ≡ 8388608
unfolding code two_loops one_loop
in_a_row_alone = refl

in_a_run : run_most code 2 3 ≡ 805306368
unfolding code two_loops one_loop
in_a_run = refl

-- a run of one row and an end stops by itself, but where it may make no jump
stops : stops_within code None 1 3 ≡ true
unfolding code two_loops one_loop
stops = refl

cut_off : stops_within code None 0 3 ≡ false
cut_off = refl

turns : least_moves true 1 3 ≡ 3
turns = refl

at_least_one : some_turns 0 ≡ 1
at_least_one = refl

as_many : some_turns 3 ≡ 3
as_many = refl

-- ---- exchanges that are open at once
abbrev exchanging : List Instr → Tables
exchanging rows = record {
  grid = 2 ∷ [];
  scalars = 0;
  cells = 0;
  slots = [];
  arrays = [];
  texts = [];
  exprs = [];
  groups = [];
  exchanges = [] ∷ [] ∷ [];
  code = rows;
}

abbrev both : Tables
both = exchanging
    (instr.Start 0 ∷ instr.Start 1 ∷ instr.Finish 0 ∷ instr.Finish 1 ∷ instr.End ∷ [])

two_open : most_open both None 1 0 ≡ 2
two_open = refl

-- over links that hold as many the plan does the same, and over others it is wrong
in_room : plan_run both (Some 2) 1 0 ≡ record { bytes = []; stop = Ends Done }
in_room = refl

without_room : plan_run both (Some 1) 1 0 ≡ record { bytes = []; stop = Wrong }
without_room = refl

one_open : most_open (exchanging
    (instr.Start 0 ∷ instr.Finish 0 ∷ instr.Start 1 ∷ instr.Finish 1 ∷ instr.End ∷ [])) None 1 0
    ≡ 1
one_open = refl

none_open : most_open code None 1 3 ≡ 0
unfolding code two_loops one_loop
none_open = refl

-- ---- in front of a row, with the words of an open exchange on their way
share : Share
share = record { scalars = pos 5 ∷ []; slots = []; cells = []; stores = []; flag = None }

to_of : ℕ → List ℕ
to_of zero = 1 ∷ []
to_of (suc p) = []

abreast : Abreast
abreast = record {
  shares = λ p. share;
  flights = record { exchange = 3; to = to_of; words = λ p q. pos 7 ∷ [] } ∷ [];
}

stands : ((in_front 4 abreast).locals 1).at ≡ 4
stands = refl

on_the_way : (in_front 4 abreast).links 0 1 ≡ record { tag = 6; words = pos 7 ∷ [] } ∷ []
unfolding abreast to_of
on_the_way = refl

not_back : (in_front 4 abreast).links 1 0 ≡ []
unfolding abreast to_of
not_back = refl
