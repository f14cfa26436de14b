use Rattle.row_progress.proofs.tests.may_keep.Goals as goal

pub returns-in_ok-yes-in-Requests-clause-keeps : goal.returns-in_ok-yes-in-Requests-clause-keeps
returns-in_ok-yes-in-Requests-clause-keeps c = c.in_ok-yes-in-Requests.ensures.keeps c.requires.values.stands c.requires.far
