-- One more fate at the end of a journal, and the numbers of its sendings.
use Rattle.std.proofs.Common.{◌≡◌, ◌≢◌, ◌≤◌, ◌<◌, ◌+◌, ◌-◌, ◌∙◌, ℕ, zero, suc, max, Bool, true, false, cond, List, [], ◌∷◌, ◌++◌, length, None, Some, refl, ap, sym, subst, arith}
use Rattle.std.specs.Prelude.{◌==◌, slice_get, if◌then◌else◌}
use Rattle.std.specs.declared.option.Option.{Option}
use Rattle.std.proofs.lemmas.Bool.{eqb-true, eq-eqb}
use Rattle.altq_model.specs.declared.Fate.{Fate}
use Rattle.altq_model.specs.declared.Fate.TheVariants.{Dropped, Sent}
use Rattle.altq_model.specs.History.{Decision}
use Rattle.altq_model.specs.Laws.{numbers, occurs}
use Rattle.play_loop.specs.declared.kept.KeptFate.{KeptFate}
use Rattle.play_chain.specs.Path.{fate_under, kept_under, numbers_of, second_number, sendings, with_sent}
use Rattle.play_chain.specs.Text.{above}

pub same_is : (n : ℕ) → (n == n) ≡ true
same_is n = eq-eqb n n refl

pub other_is : (m n : ℕ) → m ≢ n → (b : Bool) → (m == n) ≡ b → b ≡ false
other_is m n d true e = absurd (d (eqb-true m n e))
other_is m n d false e = refl

-- a number that does not occur is not that of the first
not_first : (m n : ℕ) (ms : List ℕ) (b : Bool) → (m == n) ≡ b → (if b then 1 else 0) + occurs n ms ≡ 0 → b ≡ false
not_first m n ms true e o = absurd (omega (arith, o))
not_first m n ms false e o = refl

none_first : (m n : ℕ) (ms : List ℕ) → occurs n (m ∷ ms) ≡ 0 → (m == n) ≡ false
none_first m n ms o = not_first m n ms (m == n) refl o

none_rest : (m n : ℕ) (ms : List ℕ) → occurs n (m ∷ ms) ≡ 0 → occurs n ms ≡ 0
none_rest m n ms o = omega (arith, o)

pub occurs_append : (n : ℕ) (xs ys : List ℕ) → occurs n (xs ++ ys) ≡ occurs n xs + occurs n ys
occurs_append n [] ys = omega arith
occurs_append n (x ∷ xs) ys = omega (arith, occurs_append n xs ys)

-- fates under a number
pub kept_other : (fs : List KeptFate) (f : KeptFate) (n : ℕ) → (f.number == n) ≡ false → kept_under (fs ++ f ∷ []) n ≡ kept_under fs n
kept_other [] f n e = rw e refl
kept_other (x ∷ fs) f n e = ap (λ (o : Option KeptFate). cond (x.number == n) (Some x) o) (kept_other fs f n e)

pub kept_new : (fs : List KeptFate) (f : KeptFate) → occurs f.number (numbers_of fs) ≡ 0 → kept_under (fs ++ f ∷ []) f.number ≡ Some f
kept_new [] f o = rw (same_is f.number) refl
kept_new (x ∷ fs) f o = rw (none_first x.number f.number (numbers_of fs) o) (kept_new fs f (none_rest x.number f.number (numbers_of fs) o))

pub kept_none : (fs : List KeptFate) (n : ℕ) → occurs n (numbers_of fs) ≡ 0 → kept_under fs n ≡ None
kept_none [] n o = refl
kept_none (x ∷ fs) n o = rw (none_first x.number n (numbers_of fs) o) (kept_none fs n (none_rest x.number n (numbers_of fs) o))

some_none : {X : Type 0} (x : X) → Some x ≡ None → ⊥
some_none x e = cc

none_by : (x : KeptFate) (fs : List KeptFate) (n : ℕ) (b : Bool) → (x.number == n) ≡ b → cond b (Some x) (kept_under fs n) ≡ None
    → (kept_under fs n ≡ None → occurs n (numbers_of fs) ≡ 0) → (if b then 1 else 0) + occurs n (numbers_of fs) ≡ 0
none_by x fs n true e h r = absurd (some_none x h)
none_by x fs n false e h r = omega (arith, r h)

pub none_kept : (fs : List KeptFate) (n : ℕ) → kept_under fs n ≡ None → occurs n (numbers_of fs) ≡ 0
none_kept [] n h = refl
none_kept (x ∷ fs) n h = none_by x fs n (x.number == n) refl h (none_kept fs n)

pub fate_other : (js : List Decision) (k : ℕ) (f : Fate) (n : ℕ) → (k == n) ≡ false → fate_under (js ++ (k, f) ∷ []) n ≡ fate_under js n
fate_other [] k f n e = rw e refl
fate_other (d ∷ js) k f n e = ap (λ (o : Option Fate). cond (d.0 == n) (Some d.1) o) (fate_other js k f n e)

fate_by : (d : Decision) (js : List Decision) (k : ℕ) (f : Fate) (b : Bool) → (d.0 == k) ≡ b → cond b (Some d.1) (fate_under js k) ≡ None
    → (fate_under js k ≡ None → fate_under (js ++ (k, f) ∷ []) k ≡ Some f) → cond b (Some d.1) (fate_under (js ++ (k, f) ∷ []) k) ≡ Some f
fate_by d js k f true e h r = absurd (some_none d.1 h)
fate_by d js k f false e h r = r h

pub fate_new : (js : List Decision) (k : ℕ) (f : Fate) → fate_under js k ≡ None → fate_under (js ++ (k, f) ∷ []) k ≡ Some f
fate_new [] k f h = rw (same_is k) refl
fate_new (d ∷ js) k f h = fate_by d js k f (d.0 == k) refl h (fate_new js k f)

pub fate_none : (js : List Decision) (k : ℕ) → occurs k (numbers js) ≡ 0 → fate_under js k ≡ None
fate_none [] k o = refl
fate_none (d ∷ js) k o = rw (none_first d.0 k (numbers js) o) (fate_none js k (none_rest d.0 k (numbers js) o))

-- the numbers of a longer journal
pub numbers_more : (fs : List KeptFate) (f : KeptFate) → numbers_of (fs ++ f ∷ []) ≡ numbers_of fs ++ f.number ∷ []
numbers_more [] f = refl
numbers_more (x ∷ fs) f = ap (λ (ns : List ℕ). x.number ∷ ns) (numbers_more fs f)

sent_more : (n : ℕ) (f : Fate) (ns ms : List ℕ) → with_sent n f (ns ++ ms) ≡ with_sent n f ns ++ ms
sent_more n (Dropped r) ns ms = refl
sent_more n (Sent start end rule) ns ms = refl

pub sendings_more : (fs : List KeptFate) (f : KeptFate) → sendings (fs ++ f ∷ []) ≡ sendings fs ++ with_sent f.number f.fate []
sendings_more [] f = refl
sendings_more (x ∷ fs) f =
    ap (λ (ns : List ℕ). with_sent x.number x.fate ns) (sendings_more fs f) ∙ sent_more x.number x.fate (sendings fs) (with_sent f.number f.fate [])

pub above_more : (fs : List KeptFate) (f : KeptFate) → above (fs ++ f ∷ []) ≡ max (above fs) (f.number + 1)
above_more [] f = omega arith
above_more (x ∷ fs) f = omega (arith, above_more fs f)

above_by : (x : KeptFate) (fs : List KeptFate) (n : ℕ) (b : Bool) → (x.number == n) ≡ b → x.number < n → kept_under fs n ≡ None → cond b (Some x) (kept_under fs n) ≡ None
above_by x fs n true e l h = absurd (omega (arith, l, eqb-true x.number n e))
above_by x fs n false e l h = h

pub none_above : (fs : List KeptFate) (n : ℕ) → above fs ≤ n → kept_under fs n ≡ None
none_above [] n l = refl
none_above (x ∷ fs) n l = above_by x fs n (x.number == n) refl (omega (arith, l)) (none_above fs n (omega (arith, l)))

-- what was sent occurs among the sendings, and no more often than among all
occur_by : (m : ℕ) (f : Fate) (ns ms : List ℕ) (n : ℕ) → occurs n ns ≤ occurs n ms → occurs n (with_sent m f ns) ≤ occurs n (m ∷ ms)
occur_by m (Dropped r) ns ms n l = omega (arith, l)
occur_by m (Sent start end rule) ns ms n l = omega (arith, l)

pub sendings_occur : (fs : List KeptFate) (n : ℕ) → occurs n (sendings fs) ≤ occurs n (numbers_of fs)
sendings_occur [] n = omega arith
sendings_occur (x ∷ fs) n = occur_by x.number x.fate (sendings fs) (numbers_of fs) n (sendings_occur fs n)

abbrev pub IsSending : Fate → Type 0
IsSending (Dropped r) = ⊥
IsSending (Sent start end rule) = Unit {0}

abbrev pub WasSent : Option KeptFate → Type 0
WasSent None = ⊥
WasSent (Some f) = IsSending f.fate

in_more : (m : ℕ) (f : Fate) (ns : List ℕ) (n : ℕ) → 0 < occurs n ns → 0 < occurs n (with_sent m f ns)
in_more m (Dropped r) ns n l = l
in_more m (Sent start end rule) ns n l = omega (arith, l)

in_first : (m : ℕ) (f : Fate) (ns : List ℕ) (n : ℕ) → (m == n) ≡ true → IsSending f → 0 < occurs n (with_sent m f ns)
in_first m (Dropped r) ns n e s = absurd s
in_first m (Sent start end rule) ns n e s = rw e (omega arith)

in_by : (x : KeptFate) (fs : List KeptFate) (n : ℕ) (b : Bool) → (x.number == n) ≡ b → WasSent (cond b (Some x) (kept_under fs n))
    → (WasSent (kept_under fs n) → 0 < occurs n (sendings fs)) → 0 < occurs n (with_sent x.number x.fate (sendings fs))
in_by x fs n true e s r = in_first x.number x.fate (sendings fs) n e s
in_by x fs n false e s r = in_more x.number x.fate (sendings fs) n (r s)

pub was_sent : (fs : List KeptFate) (n : ℕ) → WasSent (kept_under fs n) → 0 < occurs n (sendings fs)
was_sent [] n s = absurd s
was_sent (x ∷ fs) n s = in_by x fs n (x.number == n) refl s (was_sent fs n)

-- and where a number is once, what occurs among the sendings was sent
drop_first : (x : KeptFate) (f : Fate) (fs : List KeptFate) (n : ℕ) → x.fate ≡ f → (x.number == n) ≡ true → (if true then 1 else 0) + occurs n (numbers_of fs) ≤ 1
    → 0 < occurs n (with_sent x.number f (sendings fs)) → IsSending f
drop_first x (Dropped r) fs n is e once l = absurd (omega (arith, once, l, sendings_occur fs n))
drop_first x (Sent start end rule) fs n is e once l = tt

out_by : (m n : ℕ) (f : Fate) (ns : List ℕ) → (m == n) ≡ false → 0 < occurs n (with_sent m f ns) → 0 < occurs n ns
out_by m n (Dropped r) ns e l = l
out_by m n (Sent start end rule) ns e l = let P : Bool → Type 0 = λ b. 0 < (if b then 1 else 0) + occurs n ns in omega (arith, subst P e l)

sent_by : (x : KeptFate) (fs : List KeptFate) (n : ℕ) (b : Bool) → (x.number == n) ≡ b → (if b then 1 else 0) + occurs n (numbers_of fs) ≤ 1
    → 0 < occurs n (with_sent x.number x.fate (sendings fs)) → (occurs n (numbers_of fs) ≤ 1 → 0 < occurs n (sendings fs) → WasSent (kept_under fs n))
    → WasSent (cond b (Some x) (kept_under fs n))
sent_by x fs n true e once l r = drop_first x x.fate fs n refl e once l
sent_by x fs n false e once l r = r (omega (arith, once)) (out_by x.number n x.fate (sendings fs) e l)

pub is_sent : (fs : List KeptFate) (n : ℕ) → occurs n (numbers_of fs) ≤ 1 → 0 < occurs n (sendings fs) → WasSent (kept_under fs n)
is_sent [] n once l = absurd (omega (arith, l))
is_sent (x ∷ fs) n once l = sent_by x fs n (x.number == n) refl once l (is_sent fs n)

-- the place of a number among others
place_by : (m : ℕ) (ms ns : List ℕ) (n : ℕ) (b : Bool) → (m == n) ≡ b → 0 < (if b then 1 else 0) + occurs n ms
    → (0 < occurs n ms → second_number (ms ++ ns) n ≡ second_number ms n)
    → (if b then 1 else second_number (ms ++ ns) n + 1) ≡ (if b then 1 else second_number ms n + 1)
place_by m ms ns n true e l r = refl
place_by m ms ns n false e l r = omega (arith, r (omega (arith, l)))

pub place_stays : (ms ns : List ℕ) (n : ℕ) → 0 < occurs n ms → second_number (ms ++ ns) n ≡ second_number ms n
place_stays [] ns n l = absurd (omega (arith, l))
place_stays (m ∷ ms) ns n l = place_by m ms ns n (m == n) refl l (place_stays ms ns n)

pub place_new : (ms : List ℕ) (n : ℕ) → occurs n ms ≡ 0 → second_number (ms ++ n ∷ []) n ≡ length ms + 1
place_new [] n o = rw (same_is n) refl
place_new (m ∷ ms) n o = rw (none_first m n ms o) (omega (arith, place_new ms n (none_rest m n ms o)))

-- a number stands at its place
there_by : (m : ℕ) (ms : List ℕ) (n : ℕ) (b : Bool) → (m == n) ≡ b → 0 < (if b then 1 else 0) + occurs n ms
    → (0 < occurs n ms → (0 < second_number ms n) × (slice_get ms (second_number ms n - 1) ≡ Some n))
    → (0 < (if b then 1 else second_number ms n + 1)) × (slice_get (m ∷ ms) ((if b then 1 else second_number ms n + 1) - 1) ≡ Some n)
there_by m ms n true e l r = (omega arith, ap (λ (k : ℕ). Some k) (eqb-true m n e))
there_by m ms n false e l r =
    let h = r (omega (arith, l)) in
    let s : second_number ms n + 1 - 1 ≡ suc (second_number ms n - 1) = omega (arith, h.0) in
    (omega arith, ap (λ (k : ℕ). slice_get (m ∷ ms) k) s ∙ h.1)

pub there : (ms : List ℕ) (n : ℕ) → 0 < occurs n ms → (0 < second_number ms n) × (slice_get ms (second_number ms n - 1) ≡ Some n)
there [] n l = absurd (omega (arith, l))
there (m ∷ ms) n l = there_by m ms n (m == n) refl l (there ms n)

-- what stands somewhere occurs, and where it occurs once that is its place
pub stands_occurs : (ms : List ℕ) (k n : ℕ) → slice_get ms k ≡ Some n → 0 < occurs n ms
stands_occurs [] k n e = absurd (some_none n (sym e))
stands_occurs (m ∷ ms) zero n e = let s : m ≡ n = cc in rw (eq-eqb m n s) (omega arith)
stands_occurs (m ∷ ms) (suc k) n e = omega (arith, stands_occurs ms k n e)

later_by : (m : ℕ) (ms : List ℕ) (k n : ℕ) (b : Bool) → (m == n) ≡ b → (if b then 1 else 0) + occurs n ms ≤ 1 → 0 < occurs n ms → second_number ms n ≡ k + 1
    → (if b then 1 else second_number ms n + 1) ≡ suc k + 1
later_by m ms k n true e once l h = absurd (omega (arith, once, l))
later_by m ms k n false e once l h = omega (arith, h)

pub place_is : (ms : List ℕ) (k n : ℕ) → occurs n ms ≤ 1 → slice_get ms k ≡ Some n → second_number ms n ≡ k + 1
place_is [] k n once e = absurd (some_none n (sym e))
place_is (m ∷ ms) zero n once e = let s : m ≡ n = cc in rw (eq-eqb m n s) refl
place_is (m ∷ ms) (suc k) n once e =
    later_by m ms k n (m == n) refl once (stands_occurs ms k n e) (place_is ms k n (omega (arith, once)) e)
