-- How a draft goes into a call and out of it.
use Rattle.std.specs.Prelude.{ℕ, ◌+◌, ◌++◌, drop, take, length}
use Rattle.zpl_lowering.specs.Program.{in_call}
use Rattle.lower_draft.specs.Drafted.{Drafted}
use Rattle.lower_draft.specs.declared.calls.Call.{Call}

-- what a draft has where a call begins
abbrev pub call_at : Drafted → Call
call_at draft = record {
  copies = draft.next.copies;
  later = draft.next.later;
  own = length draft.copies;
  others = length draft.later;
}

abbrev pub entered : Drafted → ℕ → Drafted
entered draft reads = record draft { next = in_call reads draft.next }

-- The copies of the call stand behind those of all calls before, and in front of those of the calls
-- in it.
abbrev pub left : Drafted → Call → Drafted
left draft call =
    let behind = drop call.own draft.copies ++ drop call.others draft.later in
    record draft {
      next = record draft.next { copies = call.copies; later = call.later + length behind };
      copies = take call.own draft.copies;
      later = take call.others draft.later ++ behind;
    }
