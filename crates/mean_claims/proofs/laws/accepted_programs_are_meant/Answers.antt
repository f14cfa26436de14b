use Rattle.call_claims.specs.Call.{call_of}
use Rattle.mean_claims.proofs.WholeLemmas.{ended, took_meaning}
use Rattle.mean_claims.proofs.laws.accepted_programs_are_meant.Goals as goal

pub returns-clause-ended : goal.returns-clause-ended
returns-clause-ended g c = λ files words status told cause settled file asked given can.
    ended c.text_is_cut_one_way.ensures.tokens c.texts_have_one_tree.ensures.tree
    (call_of words (g.F.Files.tells files) (g.F.Files.may_fail files) (g.F.Files.may_fail_later files))
    file asked given status settled can cause

pub returns-clause-taken : goal.returns-clause-taken
returns-clause-taken g c = λ files out taken words status settled file asked given can is output.
    took_meaning c.text_is_cut_one_way.ensures.tokens c.texts_have_one_tree.ensures.tree
    (call_of words (g.F.Files.tells files) (g.F.Files.may_fail files) (g.F.Files.may_fail_later files))
    file asked given status settled can (g.O.Sink.tells out) (g.O.Sink.tells taken) is output
