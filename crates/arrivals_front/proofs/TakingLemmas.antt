-- What reads one after another gain.
use Rattle.std.proofs.Common.{◌≡◌, ◌∙◌, ◌⊎◌, ◌++◌, ◌≤◌, ◌<◌, ◌+◌, ℕ, List, [], Some, ap, sym, append_assoc, append-nil, arith, length, length-append, take, inl, inr}
use Rattle.std.proofs.lemmas.List.{length-take, nil_from_length}
use Rattle.std.specs.Prelude.{◌≢◌, IsSome}
use Rattle.play_base.specs.View.{View, Everything, IsAtEnd, Took, Unchanged}
use Rattle.play_base.proofs.ViewLaws.{keeps_fewer, keeps_trans, part_of_there, took_more, took_nothing}
use Rattle.arrivals_front.specs.Taking.{Gained, IsRestOf, TookSome, TookUpTo}

pub gained_nothing : (a : View) (file : ℕ) (xs : List ℕ) → Gained a a file xs xs
gained_nothing a file xs = record { more = []; joined = sym (append-nil xs); took = took_nothing a file }

pub gained_more : (a b c : View) (file : ℕ) (xs ys zs more : List ℕ) → ys ++ more ≡ zs → Gained a b file xs ys → Took b c file more → Gained a c file xs zs
gained_more a b c file xs ys zs more e x y = record {
  more = x.more ++ more;
  joined = sym e ∙ ap (λ l. l ++ more) x.joined ∙ append_assoc xs x.more more;
  took = took_more a b c file x.more more x.took y;
}

-- a call that changed nothing took nothing
pub took_unchanged : (a b c : View) (file : ℕ) (xs : List ℕ) → IsSome (b.part file) → Took a b file xs → Unchanged b c → Took a c file xs
took_unchanged a b c file xs there x y = record {
  left = λ all at.
      let z = x.left all at in
      let p = part_of_there (b.part file) there in
      (z.0, z.1, y.keeps.left file p.0 p.1 tt ∙ z.2);
  keeps = keeps_trans Everything (λ f. f ≢ file) a b c x.keeps (keeps_fewer Everything Everything Everything (λ f. f ≢ file) b c (λ n h. tt) (λ f h. tt) y.keeps);
  none = λ f h. y.none f (x.none f h);
  said = y.said ∙ x.said;
}

more_than : (xs more ys : List ℕ) (most : ℕ) → ys ≡ xs ++ more → length ys ≤ most → length more ≤ most
more_than xs more ys most e h = let l : length ys ≡ length xs + length more = ap length e ∙ length-append xs more in omega (arith, l, h)

-- what was gained is no more than there is in all
pub up_to : (a b : View) (file most : ℕ) (xs ys : List ℕ) → length ys ≤ most → Gained a b file xs ys → TookUpTo a b file most
up_to a b file most xs ys h x = record { bytes = x.more; took = x.took; few = more_than xs x.more ys most x.joined h }

pub up_to_unchanged : (a b c : View) (file most : ℕ) (xs ys : List ℕ) → IsSome (b.part file) → length ys ≤ most → Gained a b file xs ys → Unchanged b c
    → TookUpTo a c file most
up_to_unchanged a b c file most xs ys there h x u =
    record { bytes = x.more; took = took_unchanged a b c file x.more there x.took u; few = more_than xs x.more ys most x.joined h }

pub up_to_more : (a b c : View) (file most n : ℕ) (xs ys more : List ℕ) → length ys + n ≤ most → Gained a b file xs ys → Took b c file (take n more)
    → TookUpTo a c file most
up_to_more a b c file most n xs ys more h x y = record {
  bytes = x.more ++ take n more;
  took = took_more a b c file x.more (take n more) x.took y;
  few =
      let l : length ys ≡ length xs + length x.more = ap length x.joined ∙ length-append xs x.more in
      omega (arith, l, h, length-append x.more (take n more), length-take n more);
}

pub some_more : (a b c : View) (file most : ℕ) → TookUpTo a b file most → TookSome b c file → TookSome a c file
some_more a b c file most x y = (x.bytes ++ y.0, took_more a b c file x.bytes y.0 x.took y.1)

-- where the file is at its end all that it had left was taken
pub rest_of : (a b : View) (file : ℕ) (xs ys : List ℕ) → Gained a b file xs ys → IsAtEnd b file → IsRestOf a b file xs ys
rest_of a b file xs ys x end = λ rest h.
    let l = x.took.left rest h in
    let none : l.0 ≡ [] = nil_from_length l.0 (end l.0 l.2) in
    (x.joined ∙ ap (λ m. xs ++ m) (sym (append-nil x.more) ∙ ap (λ m. x.more ++ m) (sym none) ∙ sym l.1), l.2 ∙ ap (λ (m : List ℕ). Some m) none)

pub at_end : (b : View) (file most : ℕ) (ys : List ℕ) → (length ys ≡ most) ⊎ IsAtEnd b file → length ys < most → IsAtEnd b file
at_end b file most ys (inl full) h = absurd (omega (arith, full, h))
at_end b file most ys (inr end) h = end
