-- Each way reads through its wrapper.
use Rattle.std.proofs.Common.{◌≤◌, ap, refl, subst, sym}
use Rattle.arrivals_source.specs.Ways.{held_by, way_number}
use Rattle.arrivals_source.specs.declared.way.Way.{Way}
use Rattle.arrivals_source.proofs.way.Way.read.Goals as goal

pub read-requires : goal.read-requires
read-requires g c = c.requires.there

pub read_front-requires : goal.read_front-requires
read_front-requires g c = record { there = c.requires.there }

pub read_marked-requires : goal.read_marked-requires
read_marked-requires g c = record { there = c.requires.there; few = subst (λ (x : Way _). held_by x ≤ 262160) c.in-Marked.is c.requires.few }

pub read_both-requires : goal.read_both-requires
read_both-requires g c = record { there = c.requires.there; few = subst (λ (x : Way _). held_by x ≤ 262160) c.in-MarkedConverted.is c.requires.few }

pub returns-in-AsGiven : goal.returns-in-AsGiven
returns-in-AsGiven g c =
    let e = c.read.ensures in
    record {
      few = c.requires.few;
      same = refl;
      read = rw c.in-AsGiven.is (record { count = e.count; took = e.took; counts = e.counts; ended = e.end; refused = e.refused; failed = e.failed });
    }

pub returns-in-Converted : goal.returns-in-Converted
returns-in-Converted g c = record { few = c.requires.few; same = refl; read = rw c.in-Converted.is c.read_front.ensures }

pub returns-in-Marked : goal.returns-in-Marked
returns-in-Marked g c = record {
  few = c.read_marked.ensures.few;
  same = sym (ap (λ (x : Way _). way_number x) c.in-Marked.is);
  read = rw c.in-Marked.is c.read_marked.ensures.read;
}

pub returns-in-MarkedConverted : goal.returns-in-MarkedConverted
returns-in-MarkedConverted g c = record {
  few = c.read_both.ensures.few;
  same = sym (ap (λ (x : Way _). way_number x) c.in-MarkedConverted.is);
  read = rw c.in-MarkedConverted.is c.read_both.ensures.read;
}
