-- The sums and the rows of one count more.
use Rattle.std.proofs.Common.{◌≡◌, ◌≤◌, ◌<◌, ◌+◌, ◌*◌, ◌^◌, ◌∙◌, ℕ, zero, suc, List, [], ◌∷◌, ◌++◌, length, take, Some, refl, ap, sym, arith, append_assoc}
use Rattle.std.specs.Prelude.{slice_get, slice_index_or, option_map}
use Rattle.std.proofs.lemmas.List.{append-nil}
use Rattle.altq_model.specs.declared.Counts.{Counts}
use Rattle.altq_model.specs.Counts.{total}
use Rattle.play_text.specs.Names.{NameList}
use Rattle.play_text.specs.Statistics.{IsCountable, count_row, count_rows, sum_of}

take_total : {X : Type 0} (f : X → ℕ) (xs : List X) (k : ℕ) (x : X) → slice_get xs k ≡ Some x → total f (take (suc k) xs) ≡ total f (take k xs) + f x
take_total f [] k x e = absurd (cc)
take_total f (y ∷ xs) zero x e = let same : y ≡ x = cc in omega (arith, ap f same)
take_total f (y ∷ xs) (suc k) x e = omega (arith, take_total f xs k x e)

next_total : {X : Type 0} (f : X → ℕ) (xs : List X) (k : ℕ) (x : X) → slice_get xs k ≡ Some x → total f (take (k + 1) xs) ≡ total f (take k xs) + f x
next_total f xs k x e = let s : k + 1 ≡ suc k = omega arith in ap (λ (n : ℕ). total f (take n xs)) s ∙ take_total f xs k x e

pub read_at : (ks : List Counts) (k : ℕ) (d : Counts) → k < length ks → slice_get ks k ≡ Some (slice_index_or ks k d)
read_at [] k d l = absurd (omega arith)
read_at (x ∷ ks) zero d l = refl
read_at (x ∷ ks) (suc k) d l = read_at ks k d (omega (arith, l))

-- each number of the counts a and b added
abbrev pub added : Counts → Counts → Counts
added a b = record {
  arrived = a.arrived + b.arrived;
  arrived_bytes = a.arrived_bytes + b.arrived_bytes;
  raised = a.raised + b.raised;
  sent = a.sent + b.sent;
  sent_bytes = a.sent_bytes + b.sent_bytes;
  full = a.full + b.full;
  early = a.early + b.early;
  forced = a.forced + b.forced;
}

pub next_sum : (ks : List Counts) (k : ℕ) (x : Counts) → slice_get ks k ≡ Some x → sum_of (take (k + 1) ks) ≡ added (sum_of (take k ks)) x
next_sum ks k x e = λ i. record {
  arrived = next_total (λ c. c.arrived) ks k x e i;
  arrived_bytes = next_total (λ c. c.arrived_bytes) ks k x e i;
  raised = next_total (λ c. c.raised) ks k x e i;
  sent = next_total (λ c. c.sent) ks k x e i;
  sent_bytes = next_total (λ c. c.sent_bytes) ks k x e i;
  full = next_total (λ c. c.full) ks k x e i;
  early = next_total (λ c. c.early) ks k x e i;
  forced = next_total (λ c. c.forced) ks k x e i;
}

-- each number of the counts is at most `n` times the bound of one count
pub record IsUnder (n : ℕ) (k : Counts) : Type 0 where
  pub arrived : k.arrived ≤ n * 2 ^ 41
  pub arrived_bytes : k.arrived_bytes ≤ n * 2 ^ 41
  pub raised : k.raised ≤ n * 2 ^ 41
  pub sent : k.sent ≤ n * 2 ^ 41
  pub sent_bytes : k.sent_bytes ≤ n * 2 ^ 41
  pub full : k.full ≤ n * 2 ^ 41
  pub early : k.early ≤ n * 2 ^ 41
  pub forced : k.forced ≤ n * 2 ^ 41

pub next_under : (n : ℕ) (a b : Counts) → IsUnder n a → IsCountable b → IsUnder (n + 1) (added a b)
next_under n a b x y = record {
  arrived = omega (arith, x.arrived, y.arrived);
  arrived_bytes = omega (arith, x.arrived_bytes, y.arrived_bytes);
  raised = omega (arith, x.raised, y.raised);
  sent = omega (arith, x.sent, y.sent);
  sent_bytes = omega (arith, x.sent_bytes, y.sent_bytes);
  full = omega (arith, x.full, y.full);
  early = omega (arith, x.early, y.early);
  forced = omega (arith, x.forced, y.forced);
}

take_rows : (names : NameList) (ks : List Counts) (k : ℕ) (name : List ℕ) (x : Counts) → option_map (λ n. n.1) (slice_get names k) ≡ Some name → slice_get ks k ≡ Some x
    → count_rows (take (suc k) names) (take (suc k) ks) ≡ count_rows (take k names) (take k ks) ++ count_row name x
take_rows [] ks k name x e f = absurd (cc)
take_rows (n ∷ names) [] k name x e f = absurd (cc)
take_rows (n ∷ names) (y ∷ ks) zero name x e f =
    let a : n.1 ≡ name = cc in
    let b : y ≡ x = cc in
    append-nil (count_row n.1 y) ∙ ap (λ (t : List ℕ). count_row t y) a ∙ ap (count_row name) b
take_rows (n ∷ names) (y ∷ ks) (suc k) name x e f =
    ap (λ (t : List ℕ). count_row n.1 y ++ t) (take_rows names ks k name x e f)
    ∙ sym (append_assoc (count_row n.1 y) (count_rows (take k names) (take k ks)) (count_row name x))

pub next_rows : (names : NameList) (ks : List Counts) (k : ℕ) (name : List ℕ) (x : Counts) → option_map (λ n. n.1) (slice_get names k) ≡ Some name → slice_get ks k ≡ Some x
    → count_rows (take (k + 1) names) (take (k + 1) ks) ≡ count_rows (take k names) (take k ks) ++ count_row name x
next_rows names ks k name x e f =
    let s : k + 1 ≡ suc k = omega arith in ap (λ (n : ℕ). count_rows (take n names) (take n ks)) s ∙ take_rows names ks k name x e f

pub all_rows : (names : NameList) (ks : List Counts) → length ks ≡ length names → count_rows (take (length ks) names) (take (length ks) ks) ≡ count_rows names ks
all_rows [] [] e = refl
all_rows [] (k ∷ ks) e = absurd (omega arith)
all_rows (n ∷ names) [] e = absurd (omega arith)
all_rows (n ∷ names) (k ∷ ks) e = ap (λ (t : List ℕ). count_row n.1 k ++ t) (all_rows names ks (omega (arith, e)))
