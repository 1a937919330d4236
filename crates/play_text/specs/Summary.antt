-- The line that `make` says of its play.
use Rattle.std.specs.Prelude.{ℕ, List, ◌++◌, codes, decimal}

-- how many packets there were, how many were sent and dropped, and the last end in nanoseconds, 0 if nothing was sent
abbrev pub summary_text : (packets sent dropped end : ℕ) → List ℕ
summary_text packets sent dropped end =
    codes "packets " ++ (decimal packets ++ (codes " sent " ++ (decimal sent ++ (codes " dropped " ++ (decimal dropped ++ (codes " end " ++ (decimal end ++ codes "\n")))))))
