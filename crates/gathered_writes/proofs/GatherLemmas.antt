-- What a gathered file was given when writing stopped.
use Rattle.std.proofs.Common.{◌≡◌, ◌++◌, ◌∙◌, ℕ, zero, suc, List, [], ◌∷◌, length, take, drop, refl, ap, sym, append_assoc}
use Rattle.std.proofs.lemmas.List.{append-nil}
use Rattle.std.specs.Prelude.{IsSome}
use Rattle.play_base.specs.View.{View, Wrote, WroteFront}
use Rattle.play_base.proofs.ViewLaws.{wrote_more_there}
use Rattle.gathered_writes.specs.Gathered.{Grew, Stopped}

pub take_drop : {X : Type 0} (k : ℕ) (xs : List X) → take k xs ++ drop k xs ≡ xs
take_drop zero xs = refl
take_drop (suc k) [] = refl
take_drop (suc k) (x ∷ xs) = ap (λ r. x ∷ r) (take_drop k xs)

pub take_all : {X : Type 0} (xs : List X) → take (length xs) xs ≡ xs
take_all [] = refl
take_all (x ∷ xs) = ap (λ r. x ∷ r) (take_all xs)

pub stopped_at_front : (v w : View) (file : ℕ) (before bytes : List ℕ) → WroteFront v w file before → Stopped v w file before bytes
stopped_at_front v w file before bytes x = record {
  written = take x.0 before;
  rest = drop x.0 before ++ bytes;
  wrote = x.1;
  split = sym (append_assoc (take x.0 before) (drop x.0 before) bytes) ∙ ap (λ (r : List ℕ). r ++ bytes) (take_drop x.0 before);
}

pub stopped_behind : (u v w : View) (file : ℕ) (before bytes : List ℕ) → IsSome (u.part file) → Wrote u v file before → WroteFront v w file bytes → Stopped u w file before bytes
stopped_behind u v w file before bytes there x y = record {
  written = before ++ take y.0 bytes;
  rest = drop y.0 bytes;
  wrote = wrote_more_there u v w file before (take y.0 bytes) there x y.1;
  split = append_assoc before (take y.0 bytes) (drop y.0 bytes) ∙ ap (λ (r : List ℕ). before ++ r) (take_drop y.0 bytes);
}

pub stopped_between : (u v : View) (file : ℕ) (before bytes : List ℕ) → Wrote u v file before → Stopped u v file before bytes
stopped_between u v file before bytes x = record { written = before; rest = bytes; wrote = x; split = refl }

pub grew_by_itself : (u v w : View) (file : ℕ) (before after bytes : List ℕ) → IsSome (u.part file) → Wrote u v file before → Wrote v w file bytes → after ≡ []
    → Grew u w file before after bytes
grew_by_itself u v w file before after bytes there x y e = record {
  written = before ++ bytes;
  wrote = wrote_more_there u v w file before bytes there x y;
  split = ap (λ (r : List ℕ). (before ++ bytes) ++ r) e ∙ append-nil (before ++ bytes);
}

-- one text after another
pub grew_more : (u v w : View) (file : ℕ) (a b c xs ys : List ℕ) → IsSome (u.part file) → Grew u v file a b xs → Grew v w file b c ys → Grew u w file a c (xs ++ ys)
grew_more u v w file a b c xs ys there x y = record {
  written = x.written ++ y.written;
  wrote = wrote_more_there u v w file x.written y.written there x.wrote y.wrote;
  split = append_assoc x.written y.written c ∙ ap (λ (r : List ℕ). x.written ++ r) y.split ∙ sym (append_assoc x.written b ys)
      ∙ ap (λ (r : List ℕ). r ++ ys) x.split ∙ append_assoc a xs ys;
}

pub stopped_more : (u v w : View) (file : ℕ) (a b xs ys : List ℕ) → IsSome (u.part file) → Grew u v file a b xs → Stopped v w file b ys → Stopped u w file a (xs ++ ys)
stopped_more u v w file a b xs ys there x y = record {
  written = x.written ++ y.written;
  rest = y.rest;
  wrote = wrote_more_there u v w file x.written y.written there x.wrote y.wrote;
  split = append_assoc x.written y.written y.rest ∙ ap (λ (r : List ℕ). x.written ++ r) y.split ∙ sym (append_assoc x.written b ys)
      ∙ ap (λ (r : List ℕ). r ++ ys) x.split ∙ append_assoc a xs ys;
}

pub stopped_longer : (u v : View) (file : ℕ) (a xs ys : List ℕ) → Stopped u v file a xs → Stopped u v file a (xs ++ ys)
stopped_longer u v file a xs ys x = record {
  written = x.written;
  rest = x.rest ++ ys;
  wrote = x.wrote;
  split = sym (append_assoc x.written x.rest ys) ∙ ap (λ (r : List ℕ). r ++ ys) x.split ∙ append_assoc a xs ys;
}

-- a text that nothing was gathered before
pub grew_whole : (u v : View) (file : ℕ) (bytes : List ℕ) → Wrote u v file bytes → Grew u v file [] [] bytes
grew_whole u v file bytes x = record { written = bytes; wrote = x; split = append-nil bytes }

pub stopped_whole : (u v : View) (file : ℕ) (bytes : List ℕ) → WroteFront u v file bytes → Stopped u v file [] bytes
stopped_whole u v file bytes x = record { written = take x.0 bytes; rest = drop x.0 bytes; wrote = x.1; split = take_drop x.0 bytes }

-- a front of all that had been gathered was written
pub stopped_flushed : (u v : View) (file : ℕ) (before all bytes : List ℕ) → all ≡ before ++ bytes → WroteFront u v file all → Stopped u v file before bytes
stopped_flushed u v file before all bytes e x = record { written = take x.0 all; rest = drop x.0 all; wrote = x.1; split = take_drop x.0 all ∙ e }
