use Rattle.std.proofs.Common.{◌≡◌, map, replicate, []}
use Rattle.grid_timetable.proofs.mail.empty_queues.Given as goal

-- a queue for each place so far, with nothing in it
abbrev pub invariant-loop-place : goal.invariant-loop-place
invariant-loop-place l = map (λ queue. queue.items) l.queues.items ≡ replicate l._place []
