-- The classes of an interface whose play is that of one queue.
use Rattle.std.specs.Prelude.{◌≡◌, None}
use Rattle.conf_tree.specs.declared.class.Class.{Class}
use Rattle.hfsc_model.specs.RealTime.{unless_zero}

-- a class has no upper limit, and no real-time curve but one that is 0 everywhere
abbrev pub OnlyShares : Class → Type 0
OnlyShares c = (c.upper ≡ None) × (unless_zero c.real ≡ None)
