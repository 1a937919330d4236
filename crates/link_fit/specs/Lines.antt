-- The line that says whether curves fit a link.
use Rattle.std.specs.Prelude.{ℕ, List, ◌++◌, codes, decimal}
use Rattle.admission.specs.declared.Fit.{Fit}
use Rattle.admission.specs.declared.Fit.TheVariants.{Fits, Exceeds}

abbrev pub fit_line : Fit → List ℕ
fit_line Fits = codes "fits\n"
fit_line (Exceeds at by) = codes "exceeds at " ++ (decimal at ++ (codes " by " ++ (decimal by ++ codes "\n")))

-- the number of an answer: 0 where the curves fit, 1 where they exceed
abbrev pub fit_kind : Fit → ℕ
fit_kind Fits = 0
fit_kind (Exceeds at by) = 1
