use Rattle.grid_meaning.specs.Local.{start_locals}
use Rattle.every_order.proofs.TimeLemmas.{in_time}
use Rattle.every_order.proofs.laws.code_ends_in_time.Goals as goal

pub returns : goal.returns
returns c code links mean steps loops few =
    in_time code links
    (record {
      dominates = c.orders_are_dominated.ensures.moves code links;
      never_stuck = c.orders_are_dominated.ensures.not_stuck code links;
      never_idle = c.orders_are_dominated.ensures.not_idle code links;
      alike = c.orders_end_alike.ensures.alike code links;
      laps = c.orders_end_alike.ensures.rounds code links;
      world = c.orders_go_on.ensures.world code links;
      over = c.grids_show_their_worlds.ensures.over code links;
      stuck = c.grids_show_their_worlds.ensures.stuck code links;
      idle = c.grids_show_their_worlds.ensures.idle code links;
    }) (c.moves_are_turns.ensures code (start_locals code) links) mean steps loops few
