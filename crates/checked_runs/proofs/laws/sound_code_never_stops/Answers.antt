use Rattle.checked_runs.proofs.SoundLemmas.{never_stops}
use Rattle.checked_runs.proofs.laws.sound_code_never_stops.Goals as goal

pub returns : goal.returns
returns c code links least sound never =
    never_stops code links least
    (record {
      start = λ p below. c.states_are_kept.ensures.start code p below sound.tables.fits;
      moves = λ p local next sent shown three is goes.
          c.states_are_kept.ensures.moves code p local next sent shown sound.tables.fits three is
          goes;
      messages = λ p local next from message is waits takes.
          c.states_are_kept.ensures.messages code p local next from message sound.tables.fits is
          waits takes;
    })
    (record {
      dominates = c.orders_are_dominated.ensures.moves code links;
      never_stuck = c.orders_are_dominated.ensures.not_stuck code links;
      never_idle = c.orders_are_dominated.ensures.not_idle code links;
      alike = c.orders_end_alike.ensures.alike code links;
      laps = c.orders_end_alike.ensures.rounds code links;
      world = c.orders_go_on.ensures.world code links;
      over = c.grids_show_their_worlds.ensures.over code links;
      stuck = c.grids_show_their_worlds.ensures.stuck code links;
      idle = c.grids_show_their_worlds.ensures.idle code links;
    })
    sound never
