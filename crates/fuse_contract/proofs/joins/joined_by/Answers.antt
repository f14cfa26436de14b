use Rattle.fuse_contract.proofs.joins.joined_by.Goals as goal

pub join_all-requires-clause-behind : goal.join_all-requires-clause-behind
join_all-requires-clause-behind c = c.begin-walk.ensures.behind c.args.tables.now
