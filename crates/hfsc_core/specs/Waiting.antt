-- What is due is sent now, or nothing is due.
use Rattle.discipline.specs.declared.pick.Pick.{Pick}
use Rattle.discipline.specs.declared.pick.Pick.TheVariants.{Send, Wait, Empty}

abbrev pub IsNoWait : Pick → Type 0
IsNoWait (Send ticket class len rule) = Unit {0}
IsNoWait (Wait till) = ⊥
IsNoWait Empty = Unit {0}
