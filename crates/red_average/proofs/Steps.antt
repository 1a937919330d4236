-- How many steps with nothing waiting there may be before the average moves no more.
use Rattle.std.proofs.Common.{◌≡◌, ◌<◌, ◌≤◌, ◌+◌, ◌-◌, ◌^◌, min, ℕ, zero, suc, refl, ap, sym, ◌∙◌, ⊎_elim, arith}
use Rattle.std.proofs.lemmas.Bool.{cases_lt}
use Rattle.red_average.specs.Average.{stepped, idled}
use Rattle.red_average.proofs.Idle.{idled_rest}

-- steps one after the other
idled_add : (m n k a : ℕ) → k ≡ m + n → idled k a ≡ idled n (idled m a)
idled_add zero n k a e = let same : k ≡ n = omega arith in ap (λ j. idled j a) same
idled_add (suc m) n k a e =
    let next : k ≡ suc (m + n) = omega arith in
    ap (λ j. idled j a) next ∙ idled_add m n (m + n) (stepped 0 a) refl

-- a greater average stays the greater one
stepped_rises : (a b : ℕ) → a ≤ b → stepped 0 a ≤ stepped 0 b
stepped_rises a b h = omega arith

idled_rises : (m a b : ℕ) → a ≤ b → idled m a ≤ idled m b
idled_rises zero a b h = h
idled_rises (suc m) a b h = idled_rises m (stepped 0 a) (stepped 0 b) (stepped_rises a b h)

-- from the greatest average that there may be down to one that moves no more, 500 steps at a time
from_0 : idled 500 18014398509481984 ≡ 6777809298500483
from_0 = refl

from_500 : idled 500 6777809298500483 ≡ 2550110061274668
from_500 = refl

from_1000 : idled 500 2550110061274668 ≡ 959463602207529
from_1000 = refl

from_1500 : idled 500 959463602207529 ≡ 360992420656994
from_1500 = refl

from_2000 : idled 500 360992420656994 ≡ 135821231229685
from_2000 = refl

from_2500 : idled 500 135821231229685 ≡ 51101922913531
from_2500 = refl

from_3000 : idled 500 51101922913531 ≡ 19226791730802
from_3000 = refl

from_3500 : idled 500 19226791730802 ≡ 7233964970166
from_3500 = refl

from_4000 : idled 500 7233964970166 ≡ 2721735894594
from_4000 = refl

from_4500 : idled 500 2721735894594 ≡ 1024036791878
from_4500 = refl

from_5000 : idled 500 1024036791878 ≡ 385287695793
from_5000 = refl

from_5500 : idled 500 385287695793 ≡ 144962182815
from_5500 = refl

from_6000 : idled 500 144962182815 ≡ 54541151235
from_6000 = refl

from_6500 : idled 500 54541151235 ≡ 20520780896
from_6500 = refl

from_7000 : idled 500 20520780896 ≡ 7720820784
from_7000 = refl

from_7500 : idled 500 7720820784 ≡ 2904912628
from_7500 = refl

from_8000 : idled 500 2904912628 ≡ 1092956098
from_8000 = refl

from_8500 : idled 500 1092956098 ≡ 411218332
from_8500 = refl

from_9000 : idled 500 411218332 ≡ 154718590
from_9000 = refl

from_9500 : idled 500 154718590 ≡ 58212095
from_9500 = refl

from_10000 : idled 500 58212095 ≡ 21902109
from_10000 = refl

from_10500 : idled 500 21902109 ≡ 8240694
from_10500 = refl

from_11000 : idled 500 8240694 ≡ 3100677
from_11000 = refl

from_11500 : idled 500 3100677 ≡ 1166772
from_11500 = refl

from_12000 : idled 500 1166772 ≡ 439158
from_12000 = refl

from_12500 : idled 500 439158 ≡ 165383
from_12500 = refl

from_13000 : idled 500 165383 ≡ 62377
from_13000 = refl

from_13500 : idled 500 62377 ≡ 23628
from_13500 = refl

from_14000 : idled 500 23628 ≡ 9051
from_14000 = refl

from_14500 : idled 500 9051 ≡ 3562
from_14500 = refl

from_15000 : idled 500 3562 ≡ 1500
from_15000 = refl

from_15500 : idled 500 1500 ≡ 761
from_15500 = refl

from_16000 : idled 250 761 ≡ 511
from_16000 = refl

at_0 : idled 0 18014398509481984 ≡ 18014398509481984
at_0 = refl

at_500 : idled 500 18014398509481984 ≡ 6777809298500483
at_500 = idled_add 0 500 500 18014398509481984 refl ∙ ap (idled 500) at_0 ∙ from_0

at_1000 : idled 1000 18014398509481984 ≡ 2550110061274668
at_1000 = idled_add 500 500 1000 18014398509481984 refl ∙ ap (idled 500) at_500 ∙ from_500

at_1500 : idled 1500 18014398509481984 ≡ 959463602207529
at_1500 = idled_add 1000 500 1500 18014398509481984 refl ∙ ap (idled 500) at_1000 ∙ from_1000

at_2000 : idled 2000 18014398509481984 ≡ 360992420656994
at_2000 = idled_add 1500 500 2000 18014398509481984 refl ∙ ap (idled 500) at_1500 ∙ from_1500

at_2500 : idled 2500 18014398509481984 ≡ 135821231229685
at_2500 = idled_add 2000 500 2500 18014398509481984 refl ∙ ap (idled 500) at_2000 ∙ from_2000

at_3000 : idled 3000 18014398509481984 ≡ 51101922913531
at_3000 = idled_add 2500 500 3000 18014398509481984 refl ∙ ap (idled 500) at_2500 ∙ from_2500

at_3500 : idled 3500 18014398509481984 ≡ 19226791730802
at_3500 = idled_add 3000 500 3500 18014398509481984 refl ∙ ap (idled 500) at_3000 ∙ from_3000

at_4000 : idled 4000 18014398509481984 ≡ 7233964970166
at_4000 = idled_add 3500 500 4000 18014398509481984 refl ∙ ap (idled 500) at_3500 ∙ from_3500

at_4500 : idled 4500 18014398509481984 ≡ 2721735894594
at_4500 = idled_add 4000 500 4500 18014398509481984 refl ∙ ap (idled 500) at_4000 ∙ from_4000

at_5000 : idled 5000 18014398509481984 ≡ 1024036791878
at_5000 = idled_add 4500 500 5000 18014398509481984 refl ∙ ap (idled 500) at_4500 ∙ from_4500

at_5500 : idled 5500 18014398509481984 ≡ 385287695793
at_5500 = idled_add 5000 500 5500 18014398509481984 refl ∙ ap (idled 500) at_5000 ∙ from_5000

at_6000 : idled 6000 18014398509481984 ≡ 144962182815
at_6000 = idled_add 5500 500 6000 18014398509481984 refl ∙ ap (idled 500) at_5500 ∙ from_5500

at_6500 : idled 6500 18014398509481984 ≡ 54541151235
at_6500 = idled_add 6000 500 6500 18014398509481984 refl ∙ ap (idled 500) at_6000 ∙ from_6000

at_7000 : idled 7000 18014398509481984 ≡ 20520780896
at_7000 = idled_add 6500 500 7000 18014398509481984 refl ∙ ap (idled 500) at_6500 ∙ from_6500

at_7500 : idled 7500 18014398509481984 ≡ 7720820784
at_7500 = idled_add 7000 500 7500 18014398509481984 refl ∙ ap (idled 500) at_7000 ∙ from_7000

at_8000 : idled 8000 18014398509481984 ≡ 2904912628
at_8000 = idled_add 7500 500 8000 18014398509481984 refl ∙ ap (idled 500) at_7500 ∙ from_7500

at_8500 : idled 8500 18014398509481984 ≡ 1092956098
at_8500 = idled_add 8000 500 8500 18014398509481984 refl ∙ ap (idled 500) at_8000 ∙ from_8000

at_9000 : idled 9000 18014398509481984 ≡ 411218332
at_9000 = idled_add 8500 500 9000 18014398509481984 refl ∙ ap (idled 500) at_8500 ∙ from_8500

at_9500 : idled 9500 18014398509481984 ≡ 154718590
at_9500 = idled_add 9000 500 9500 18014398509481984 refl ∙ ap (idled 500) at_9000 ∙ from_9000

at_10000 : idled 10000 18014398509481984 ≡ 58212095
at_10000 = idled_add 9500 500 10000 18014398509481984 refl ∙ ap (idled 500) at_9500 ∙ from_9500

at_10500 : idled 10500 18014398509481984 ≡ 21902109
at_10500 = idled_add 10000 500 10500 18014398509481984 refl ∙ ap (idled 500) at_10000 ∙ from_10000

at_11000 : idled 11000 18014398509481984 ≡ 8240694
at_11000 = idled_add 10500 500 11000 18014398509481984 refl ∙ ap (idled 500) at_10500 ∙ from_10500

at_11500 : idled 11500 18014398509481984 ≡ 3100677
at_11500 = idled_add 11000 500 11500 18014398509481984 refl ∙ ap (idled 500) at_11000 ∙ from_11000

at_12000 : idled 12000 18014398509481984 ≡ 1166772
at_12000 = idled_add 11500 500 12000 18014398509481984 refl ∙ ap (idled 500) at_11500 ∙ from_11500

at_12500 : idled 12500 18014398509481984 ≡ 439158
at_12500 = idled_add 12000 500 12500 18014398509481984 refl ∙ ap (idled 500) at_12000 ∙ from_12000

at_13000 : idled 13000 18014398509481984 ≡ 165383
at_13000 = idled_add 12500 500 13000 18014398509481984 refl ∙ ap (idled 500) at_12500 ∙ from_12500

at_13500 : idled 13500 18014398509481984 ≡ 62377
at_13500 = idled_add 13000 500 13500 18014398509481984 refl ∙ ap (idled 500) at_13000 ∙ from_13000

at_14000 : idled 14000 18014398509481984 ≡ 23628
at_14000 = idled_add 13500 500 14000 18014398509481984 refl ∙ ap (idled 500) at_13500 ∙ from_13500

at_14500 : idled 14500 18014398509481984 ≡ 9051
at_14500 = idled_add 14000 500 14500 18014398509481984 refl ∙ ap (idled 500) at_14000 ∙ from_14000

at_15000 : idled 15000 18014398509481984 ≡ 3562
at_15000 = idled_add 14500 500 15000 18014398509481984 refl ∙ ap (idled 500) at_14500 ∙ from_14500

at_15500 : idled 15500 18014398509481984 ≡ 1500
at_15500 = idled_add 15000 500 15500 18014398509481984 refl ∙ ap (idled 500) at_15000 ∙ from_15000

at_16000 : idled 16000 18014398509481984 ≡ 761
at_16000 = idled_add 15500 500 16000 18014398509481984 refl ∙ ap (idled 500) at_15500 ∙ from_15500

at_end : idled 16250 18014398509481984 ≡ 511
at_end = idled_add 16000 250 16250 18014398509481984 refl ∙ ap (idled 250) at_16000 ∙ from_16000

below_by : (x y : ℕ) → x ≤ y → y ≡ 511 → x < 512
below_by x y h e = omega arith

-- after as many steps as the greatest average takes, no average moves any more
few_steps : (most : ℕ) → idled most (2 ^ 54) ≡ 511 → (steps a : ℕ) → a ≤ 2 ^ 54 → idled (min steps most) a ≡ idled steps a
few_steps most last steps a h =
    ⊎_elim (λ less. let e : min steps most ≡ steps = omega arith in ap (λ k. idled k a) e)
    (λ least.
    let e : min steps most ≡ most = omega arith in
    let apart : steps ≡ most + (steps - most) = omega arith in
    let small : idled most a < 512 = below_by (idled most a) (idled most (2 ^ 54)) (idled_rises most a (2 ^ 54) h) last in
    ap (λ k. idled k a) e
    ∙ sym (idled_add most (steps - most) steps a apart ∙ idled_rest (steps - most) (idled most a) small))
    (cases_lt steps most)

pub idled_most : (steps a : ℕ) → a ≤ 2 ^ 54 → idled (min steps 16250) a ≡ idled steps a
idled_most = few_steps 16250 at_end
