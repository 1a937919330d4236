use Rattle.fate_departures.specs.Frames.{frames_in}
use Rattle.fate_departures.proofs.Standing.{DeparturesStand}
use Rattle.fate_departures.proofs.departures.first_other_departure.Given as goal

abbrev pub invariant-loop-i : goal.invariant-loop-i
invariant-loop-i g l = DeparturesStand (g.C.Classify.dressed l.classify) (frames_in l.frames) l.rows l.i l.departures l.rest
