use Rattle.std.proofs.Common.{[], ◌++◌, sym, append_assoc, append-nil}
use Rattle.zpl_io.proofs.laws.puts_join.Goals as goal

pub returns-clause-whole : goal.returns-clause-whole
returns-clause-whole g c = λ before after x takes. record {
  front = x;
  is_front = record { rest = []; joins = sym (append-nil x) };
  takes = takes;
}

pub returns-clause-front : goal.returns-clause-front
returns-clause-front g c = λ before between after x y first second. record {
  front = x ++ second.front;
  is_front = record {
    rest = second.is_front.rest;
    joins = rw second.is_front.joins (sym (append_assoc x second.front second.is_front.rest));
  };
  takes = λ taken told. rw append_assoc at (second.takes (taken ++ x) (first taken told));
}
