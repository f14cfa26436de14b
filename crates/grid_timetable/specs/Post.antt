-- What stands for messages on their way.
use Rattle.std.specs.Prelude.{map}
use Rattle.grid_timetable.specs.Mail.{Post}
use Rattle.grid_timetable.specs.declared.mail.Mail.TheInside.{Inside}

abbrev pub post_of : Inside → Post
post_of inside = record {
  count = inside.count;
  links = map (λ queue. queue.items) inside.queues.items;
}
