use Rattle.play_chain.proofs.TextLemmas.{text_same}
use Rattle.play_chain.proofs.ThroughLemmas.{stands_through}
use Rattle.play_chain.proofs.path.Path.through.Goals as goal

pub returns-clause-stands : goal.returns-clause-stands
returns-clause-stands c = λ first second once x y.
    stands_through (record { alloc = c.args.alloc; firsts = c.args.firsts; seconds = record { rows = c.make_room.new.rows } }) c.args.seconds
    first second once x y c.make_room.ensures.same c.in_ok-make_room.ensures.room

pub returns-clause-text : goal.returns-clause-text
returns-clause-text c = text_same c.args.firsts c.args.seconds (record { rows = c.make_room.new.rows }) c.make_room.ensures.same
