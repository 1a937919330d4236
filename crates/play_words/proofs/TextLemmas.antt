-- Texts that are compared in the place where they stand.
use Rattle.std.proofs.Common.{◌≡◌, ◌≢◌, ◌∙◌, ap₂, cond, Option, Some, None, ◌||◌, ◌&&◌, ◌-◌, ℕ, Bool, true, false, nat_eq, subst, List, [], ◌∷◌, ap, sym, refl, arith, length, map}
use Rattle.std.specs.Prelude.{bytes_eq, codes, not, take, drop, slice_index_or}
use Rattle.std.specs.Borrow.{Bor}
use Rattle.std.specs.List.{list_any}
use Rattle.std.proofs.Math.Seq.{take-length}
use Rattle.std.proofs.lemmas.Slice.Eq.{bytes_eq-Decides}
use Rattle.clap.specs.Words.{Row}
use Rattle.play_words.specs.declared.words.ChainWords.{ChainWords}
use Rattle.play_words.specs.Options.{value_of}
use Rattle.play_words.specs.Read.{ReadsNames, files_of}
use Rattle.play_words.specs.Words.{AreAllDistinct, DiffersFrom, are_all_distinct, chain_files, links_refusal, seed_in}

any_mapped : (x : List ℕ) (xs : List (Bor (List ℕ))) → list_any (λ y. bytes_eq y.now x) xs ≡ list_any (λ y. bytes_eq y x) (map (λ y. y.now) xs)
any_mapped x [] = refl
any_mapped x (y ∷ ys) = ap (λ b. bytes_eq y.now x || b) (any_mapped x ys)

-- those behind the first are all that follow it
behind : (y : Bor (List ℕ)) (ys : List (Bor (List ℕ))) → take (length (y ∷ ys) - 1) (drop 1 (y ∷ ys)) ≡ ys
behind y ys = let e : length (y ∷ ys) - 1 ≡ length ys = omega arith in rw e (take-length ys)

not_empty : (xs : List (Bor (List ℕ))) → xs ≡ [] → nat_eq (length xs) 0 ≡ false → ⊥
not_empty [] e h = no h
  where
    no : true ≡ false → ⊥
    no e = cc
not_empty (y ∷ ys) e h = cc

pub first_apart : (xs : List (Bor (List ℕ))) (d : Bor (List ℕ)) (b r : Bool) → nat_eq (length xs) 0 ≡ false
    → b ≡ list_any (λ y. bytes_eq y.now (slice_index_or xs 0 d).now) (take (length xs - 1) (drop 1 xs))
    → r ≡ are_all_distinct (map (λ y. y.now) (take (length xs - 1) (drop 1 xs))) → (not b && r) ≡ are_all_distinct (map (λ y. y.now) xs)
first_apart [] d b r some one others = absurd (not_empty [] refl some)
first_apart (y ∷ ys) d b r some one others =
    let P : List (Bor (List ℕ)) → Type 0 = λ zs. b ≡ list_any (λ z. bytes_eq z.now y.now) zs in
    let Q : List (Bor (List ℕ)) → Type 0 = λ zs. r ≡ are_all_distinct (map (λ z. z.now) zs) in
    let b_is : b ≡ list_any (λ z. bytes_eq z y.now) (map (λ z. z.now) ys) = subst P (behind y ys) one ∙ any_mapped y.now ys in
    let r_is : r ≡ are_all_distinct (map (λ z. z.now) ys) = subst Q (behind y ys) others in
    rw (b_is, r_is) refl

-- the first is one of the others
pub first_again : (xs : List (Bor (List ℕ))) (d : Bor (List ℕ)) (b : Bool) → nat_eq (length xs) 0 ≡ false
    → b ≡ list_any (λ y. bytes_eq y.now (slice_index_or xs 0 d).now) (take (length xs - 1) (drop 1 xs)) → b ≡ true
    → false ≡ are_all_distinct (map (λ y. y.now) xs)
first_again xs d b some one is =
    let r : Bool = are_all_distinct (map (λ y. y.now) (take (length xs - 1) (drop 1 xs))) in
    sym (ap (λ c. not c && r) is) ∙ first_apart xs d b r some one refl

-- no two are equal, in facts
no_more : (b : Bool) → b ≡ true → b ≡ false → ⊥
no_more b t f = let e : true ≡ false = sym t ∙ f in cc

other_than : (x y : List ℕ) → bytes_eq y x ≡ false → x ≢ y
other_than x y h e = no_more (bytes_eq y x) ((bytes_eq-Decides y x).1 (sym e)) h

neither : (a b : Bool) → (a || b) ≡ false → (a ≡ false) × (b ≡ false)
neither false false h = (refl, refl)
neither false true h = absurd (no_more true refl h)
neither true b h = absurd (no_more true refl h)

not_and : (a b : Bool) → (not a && b) ≡ true → (a ≡ false) × (b ≡ true)
not_and false true h = (refl, refl)
not_and false false h = absurd (no_more false h refl)
not_and true b h = absurd (no_more false h refl)

differs : (x : List ℕ) (ys : List (List ℕ)) → list_any (λ y. bytes_eq y x) ys ≡ false → DiffersFrom x ys
differs x [] h = tt
differs x (y ∷ ys) h = let both = neither (bytes_eq y x) (list_any (λ z. bytes_eq z x) ys) h in (other_than x y both.0, differs x ys both.1)

pub all_apart : (xs : List (List ℕ)) → are_all_distinct xs ≡ true → AreAllDistinct xs
all_apart [] h = tt
all_apart (x ∷ xs) h =
    let both = not_and (list_any (λ y. bytes_eq y x) xs) (are_all_distinct xs) h in (differs x xs both.0, all_apart xs both.1)

-- the names of the files are those of the options
pub files_read : (rows : List Row) (w : ChainWords) → ReadsNames rows w.play → w.departures2.now ≡ value_of (codes "departures2") rows
    → w.fates2.now ≡ value_of (codes "fates2") rows → w.stats2.now ≡ value_of (codes "stats2") rows → w.path.now ≡ value_of (codes "path") rows
    → files_of w ≡ map (λ name. value_of name rows) chain_files
files_read rows w names departures fates stats path =
    ap₂ ◌∷◌ names.config (ap₂ ◌∷◌ names.arrivals (ap₂ ◌∷◌ names.departures (ap₂ ◌∷◌ names.fates (ap₂ ◌∷◌ names.stats
    (ap₂ ◌∷◌ departures (ap₂ ◌∷◌ fates (ap₂ ◌∷◌ stats (ap₂ ◌∷◌ path refl))))))))

-- what is refused of options whose seed is a number
abbrev pub kind_by : Bool → Option ℕ
kind_by true = None
kind_by false = Some 3

by_names : (b : Bool) → cond (not b) (kind_by false) None ≡ kind_by b
by_names true = refl
by_names false = refl

pub links_known : (rows : List Row) (seed : ℕ) (files : List (List ℕ)) (b : Bool) → seed_in rows ≡ Some seed
    → files ≡ map (λ name. value_of name rows) chain_files → b ≡ are_all_distinct files → links_refusal rows ≡ kind_by b
links_known rows seed files b known same is =
    let e : are_all_distinct (map (λ name. value_of name rows) chain_files) ≡ b = sym (is ∙ ap are_all_distinct same) in
    rw (known, e) (by_names b)
