use Rattle.checked_messages.proofs.TogetherRows.{together_keeps, together_right, together_stands}
use Rattle.checked_messages.proofs.messages_go_on.Goals as goal

pub returns : goal.returns
returns c = record { right = together_right; flights = together_keeps; stands = together_stands }
