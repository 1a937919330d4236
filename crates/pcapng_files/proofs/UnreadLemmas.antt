-- What is read at a place: the bytes from there on, and how many the file has in all.
use Rattle.std.specs.Prelude.{◌≡◌, ◌≤◌, ◌<◌, ◌+◌, ◌-◌, ℕ, Bool, true, false, List, [], ◌++◌, length, take, drop, Some, None}
use Rattle.std.proofs.Common.{◌∙◌, refl, ap, sym, subst, arith, inl, inr}
use Rattle.std.proofs.Math.Seq.{drop_at}
use Rattle.std.proofs.lemmas.Bool.{cases_lt}
use Rattle.std.proofs.lemmas.List.{nil_from_length}
use Rattle.std.proofs.lemmas.Grind.{common_steps}
use Rattle.std.specs.declared.option.Option.{Option}
use Rattle.pcapng_files.proofs.OptionLemmas.{is_less}
use Rattle.pcapng_model.specs.Block.{framed, framed_by, order_at}
use Rattle.pcapng_model.specs.Number.{number}
use Rattle.pcapng_model.specs.Reading.{Place, step}

pub drop_more : (xs : List ℕ) (at k : ℕ) → drop (at + k) xs ≡ drop k (drop at xs)
drop_more xs at k = grind (arith, common_steps)

pub drop_further : (xs ys : List ℕ) (at after : ℕ) → at ≤ after → drop at xs ≡ drop at ys → drop after xs ≡ drop after ys
drop_further xs ys at after further same =
    let k = after - at in
    let is : after ≡ at + k = omega arith in
    ap (λ (n : ℕ). drop n xs) is ∙ drop_more xs at k ∙ ap (drop k) same ∙ sym (drop_more ys at k) ∙ ap (λ (n : ℕ). drop n ys) (sym is)

number_behind : (big : Bool) (n : ℕ) (xs ys : List ℕ) (at later : ℕ) → at ≤ later → drop at xs ≡ drop at ys → number big n xs later ≡ number big n ys later
number_behind true n xs ys at later further same = ap (λ (b : List ℕ). number true n b 0) (drop_further xs ys at later further same)
number_behind false n xs ys at later further same = ap (λ (b : List ℕ). number false n b 0) (drop_further xs ys at later further same)

order_behind : (big : Bool) (xs ys : List ℕ) (at : ℕ) → drop at xs ≡ drop at ys → order_at big xs at ≡ order_at big ys at
order_behind big xs ys at same =
    rw (number_behind true 4 xs ys at at (omega arith) same, number_behind true 4 xs ys at (at + 8) (omega arith) same) refl

framed_behind_by : (order : Option Bool) (xs ys : List ℕ) (at : ℕ) → length xs ≡ length ys → drop at xs ≡ drop at ys
    → framed_by order xs at ≡ framed_by order ys at
framed_behind_by None xs ys at size same = refl
framed_behind_by (Some big) xs ys at size same =
    let total = number big 4 ys (at + 4) in
    let is : number big 4 xs (at + 4) ≡ total = number_behind big 4 xs ys at (at + 4) (omega arith) same in
    elim (cases_lt total 12) [
      | inl less ↦ rw (size, is, is_less total 12 less) refl
      | inr more ↦
          rw (
            size,
            is,
            number_behind big 4 xs ys at (at + total - 4) (omega (arith, more)) same,
            number_behind big 4 xs ys at at (omega arith) same,
            drop_further xs ys at (at + 8) (omega arith) same,
          )
          refl
    ]

pub framed_behind : (big : Bool) (xs ys : List ℕ) (at : ℕ) → length xs ≡ length ys → drop at xs ≡ drop at ys → framed big xs at ≡ framed big ys at
framed_behind big xs ys at size same =
    rw (size, order_behind big xs ys at same, framed_behind_by (order_at big ys at) xs ys at size same) refl

pub step_behind : (xs ys : List ℕ) (p : Place) → length xs ≡ length ys → drop p.at xs ≡ drop p.at ys → step xs p ≡ step ys p
step_behind xs ys p size same = rw (framed_behind p.big xs ys p.at size same, size) refl

-- the records behind the first 24 bytes of a file; a shorter file has none
none_there : (front records : List ℕ) (most : ℕ) → length (front ++ records) ≤ most → length front ≡ most → records ≡ []
none_there front records most short all = nil_from_length records (grind (arith, common_steps, short, all))

none_short : (file bytes : List ℕ) (end : ℕ) (records : List ℕ) → length bytes ≡ length file → take end bytes ≡ take 24 file ++ records
    → length file < 24 → records ≡ []
none_short file bytes end records size same short =
    none_there (take 24 file) records (length file) (subst (λ (l : List ℕ). length l ≤ length file) same (grind (arith, common_steps, size)))
    (grind (arith, common_steps, short))

pub behind_head : (file bytes : List ℕ) (end : ℕ) (records : List ℕ) → length bytes ≡ length file → take end bytes ≡ take 24 file ++ records
    → drop 24 (take 24 file ++ records) ≡ records
behind_head file bytes end records size same =
    elim (cases_lt (length file) 24) [
      | inl short ↦
          let none = none_short file bytes end records size same short in
          ap (λ (rs : List ℕ). drop 24 (take 24 file ++ rs)) none ∙ grind (arith, common_steps, short) ∙ sym none
      | inr long ↦ drop_at (take 24 file) records 24 (grind (arith, common_steps, long))
    ]
