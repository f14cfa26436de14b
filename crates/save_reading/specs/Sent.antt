-- Messages with their receivers.
--
--   sent_pair   a message with its receiver
--   IsFrom      a line that is that of a message to another processor, from one of them on
use Rattle.std.specs.Prelude.{◌≡◌, ◌≢◌, ℕ, ◌<◌, ◌≤◌}
use Rattle.grid_links.specs.declared.messages.Message.{Message}
use Rattle.save_lines.specs.declared.lines.SavedLine.{SavedLine}
use Rattle.grid_save.specs.Written.{message_line}
use Rattle.save_reading.specs.declared.messages.Sent.{Sent}

abbrev pub sent_pair : Sent → ℕ × Message
sent_pair sent = (sent.to, sent.message)

pub record IsFrom (count p least : ℕ) (line : SavedLine) (sent : ℕ × Message) : Type 0 where
  pub written : line ≡ message_line sent.0 sent.1
  pub there : sent.0 < count
  pub other : sent.0 ≢ p
  pub from_least : least ≤ sent.0
