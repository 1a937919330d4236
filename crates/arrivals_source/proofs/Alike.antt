-- Files that tell the same but for what is fixed of them, and what they have left told in another form.
use Rattle.std.proofs.Common.{◌≡◌, ◌∙◌, ℕ, List, Ok, Err, sym, take}
use Rattle.std.specs.Prelude.{◌≢◌, IsSome}
use Rattle.std.specs.declared.option.Option.{Option}
use Rattle.std.specs.declared.result.Result.{Result}
use Rattle.std.proofs.lemmas.Result.{IfOk-weaker, on_err_weaker, on_ok_weaker}
use Rattle.play_base.specs.View.{View, Everything, Keeps, Took}
use Rattle.play_base.specs.declared.trouble.Trouble.{Trouble}
use Rattle.play_base.proofs.ViewLaws.{keeps_fewer, still_there}
use Rattle.arrivals_source.specs.Through.{ReadSo}

-- the files, of which these bytes are left and these numbers are fixed
abbrev pub alike : View → (left : ℕ → Option (List ℕ)) → (fixed : List ℕ) → View
alike v left fixed = record v { left = left; fixed = fixed }

-- what is kept of files that are told in one form is kept in another in which what has stayed stays
pub keeps_alike : (a b : View) (l m : ℕ → Option (List ℕ)) (x y : List ℕ) (N : List ℕ → Type 0) (F : ℕ → Type 0)
    → (b.tells ≡ a.tells → (f : ℕ) → F f → b.left f ≡ a.left f → m f ≡ l f) → (b.fixed ≡ a.fixed → y ≡ x) → Keeps N F a b → Keeps N F (alike a l x) (alike b m y)
keeps_alike a b l m x y N F stays fixed k = record {
  tells = k.tells;
  bytes = k.bytes;
  left = λ f p at kept. stays k.tells f kept (k.left f p at kept);
  part = k.part;
  name = k.name;
  later = record { read = k.later.read; write = k.later.write; fixed = fixed k.later.fixed };
}

-- A READ IS ONE IN ANOTHER FORM where the file has the same left in both
module _ (a b : View) (l m : ℕ → Option (List ℕ)) (x y : List ℕ) (file : ℕ) (into : List ℕ) (r : Result ℕ Trouble)
    (old : l file ≡ a.left file) (new : m file ≡ b.left file) (stays : b.tells ≡ a.tells → (f : ℕ) → b.left f ≡ a.left f → m f ≡ l f)
    (fixed : b.fixed ≡ a.fixed → y ≡ x) where
  took_alike : (bytes : List ℕ) → Took a b file bytes → Took (alike a l x) (alike b m y) file bytes
  took_alike bytes t = record {
    left = λ all h. let z = t.left all (sym old ∙ h) in (z.0, z.1, new ∙ z.2);
    keeps = keeps_alike a b l m x y Everything (λ f. f ≢ file) (λ t f k. stays t f) fixed t.keeps;
    none = t.none;
    said = t.said;
  }

  pub read_alike : ReadSo a b file into r → ReadSo (alike a l x) (alike b m y) file into r
  read_alike s = record {
    count = s.count;
    took = IfOk-weaker r _ _ (λ n t. took_alike (take n into) t) s.took;
    counts = on_ok_weaker r (λ c. record { read = c.read; write = c.write }) s.counts;
    ended = IfOk-weaker r _ _ (λ n e none asked rest h. e none asked rest (sym new ∙ h)) s.ended;
    refused = on_err_weaker r
        (λ u. record { keeps = keeps_alike a b l m x y Everything Everything (λ t f k. stays t f) fixed u.keeps; none = u.none; said = u.said }) s.refused;
    failed = s.failed;
  }

-- whatever the answer, all else is kept
pub read_keeps : (a b : View) (file : ℕ) (into : List ℕ) (r : Result ℕ Trouble) → ReadSo a b file into r → Keeps Everything (λ f. f ≢ file) a b
read_keeps a b file into (Ok n) s = s.took.keeps
read_keeps a b file into (Err t) s = keeps_fewer Everything Everything Everything (λ f. f ≢ file) a b (λ n k. k) (λ f k. tt) s.refused.keeps

pub still_read : (a b : View) (f file : ℕ) (into : List ℕ) (r : Result ℕ Trouble) → ReadSo a b f into r → IsSome (a.part file) → IsSome (b.part file)
still_read a b f file into r s there = still_there Everything (λ i. i ≢ f) a b file (read_keeps a b f into r s) there
