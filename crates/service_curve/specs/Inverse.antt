-- Numbers by which quotients are guessed. What a quotient is does not rest on them.
use Rattle.quotients.specs.Inverse.{inverse}
use Rattle.service_curve.specs.declared.Curve.{Curve}
use Rattle.service_curve.specs.declared.inverses.Inverses.{Inverses}

-- those of the slopes of a curve
abbrev pub inverses : Curve → Inverses
inverses s = record { first = inverse s.m1; second = inverse s.m2 }
