-- What a precedence has of its own. The thresholds are this project's: docs/reference/QUEUE-RULES.md says where they come from.
use Rattle.std.specs.Prelude.{ℕ, ◌*◌, ◌^◌, ◌==◌, if◌then◌else◌}
use Rattle.leaf_queue.specs.declared.rule.Waiting.{Waiting}
use Rattle.red_average.specs.declared.ruling.Thresholds.{Thresholds}

-- how many of the waiting packets are of precedence j or a better one
abbrev pub seen : (j : ℕ) → Waiting → ℕ
seen j waiting = if j == 0 then waiting.best else if j == 1 then waiting.middle else waiting.all

abbrev pub packets : (low high : ℕ) → Thresholds
packets low high = record { low = low * 2 ^ 21; high = high * 2 ^ 21 }

abbrev pub thresholds_of : (prec : ℕ) → Thresholds
thresholds_of prec = if prec == 0 then packets 35 45 else if prec == 1 then packets 20 30 else packets 5 15
