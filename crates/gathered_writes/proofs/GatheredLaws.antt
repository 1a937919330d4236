-- What a gathered file's text becomes, and what another file's stays.
use Rattle.std.specs.Prelude.{◌≡◌, ℕ, List, [], ◌++◌}
use Rattle.std.proofs.Common.{◌∙◌, ap, sym, subst, append_assoc}
use Rattle.std.proofs.lemmas.List.{append-nil}
use Rattle.play_base.specs.View.{View, Everything, Keeps, Wrote}
use Rattle.play_base.specs.Holds.{HoldsAt, Apart}
use Rattle.play_base.proofs.HoldsLaws.{holds_wrote, holds_beside, holds_kept}
use Rattle.gathered_writes.specs.Gathered.{Grew, Stopped, HasText, HoldsFront}

pub text_grew : (v w : View) (file : ℕ) (before after bytes text : List ℕ) → HasText v file before text → Grew v w file before after bytes → HasText w file after (text ++ bytes)
text_grew v w file before after bytes text h x = record {
  written = h.written ++ x.written;
  holds = holds_wrote v w file h.written x.written h.holds x.wrote;
  split = append_assoc h.written x.written after ∙ ap (λ (r : List ℕ). h.written ++ r) x.split
      ∙ sym (append_assoc h.written before bytes) ∙ ap (λ (r : List ℕ). r ++ bytes) h.split;
}

pub text_stopped : (v w : View) (file : ℕ) (before bytes text : List ℕ) → HasText v file before text → Stopped v w file before bytes → HoldsFront w file (text ++ bytes)
text_stopped v w file before bytes text h x = record {
  written = h.written ++ x.written;
  rest = x.rest;
  holds = holds_wrote v w file h.written x.written h.holds x.wrote;
  split = append_assoc h.written x.written x.rest ∙ ap (λ (r : List ℕ). h.written ++ r) x.split
      ∙ sym (append_assoc h.written before bytes) ∙ ap (λ (r : List ℕ). r ++ bytes) h.split;
}

-- what is written to a file of another name leaves a file's text
pub text_beside : (v w : View) (file other : ℕ) (pending text ys : List ℕ) → HasText v file pending text → Apart v file other → Wrote v w other ys → HasText w file pending text
text_beside v w file other pending text ys h apart x = record {
  written = h.written;
  holds = holds_beside v w file other h.written ys h.holds apart x;
  split = h.split;
}

-- so does a call that leaves every name
pub text_kept : (F : ℕ → Type 0) (v w : View) (file : ℕ) (pending text : List ℕ) → HasText v file pending text → Keeps Everything F v w → HasText w file pending text
text_kept F v w file pending text h k = record { written = h.written; holds = holds_kept F v w file h.written h.holds k; split = h.split }

pub front_beside : (v w : View) (file other : ℕ) (text ys : List ℕ) → HoldsFront v file text → Apart v file other → Wrote v w other ys → HoldsFront w file text
front_beside v w file other text ys h apart x = record {
  written = h.written;
  rest = h.rest;
  holds = holds_beside v w file other h.written ys h.holds apart x;
  split = h.split;
}

-- a text of which nothing is gathered any more is what the file holds
pub text_whole : (v : View) (file : ℕ) (text : List ℕ) → HasText v file [] text → HoldsAt v file text
text_whole v file text h = let P : List ℕ → Type 0 = λ xs. HoldsAt v file xs in subst P (sym (append-nil h.written) ∙ h.split) h.holds

pub text_front : (v : View) (file : ℕ) (pending text : List ℕ) → HasText v file pending text → HoldsFront v file text
text_front v file pending text h = record { written = h.written; rest = pending; holds = h.holds; split = h.split }

-- a front of a text is a front of each longer one
pub front_longer : (v : View) (file : ℕ) (text more : List ℕ) → HoldsFront v file text → HoldsFront v file (text ++ more)
front_longer v file text more h = record {
  written = h.written;
  rest = h.rest ++ more;
  holds = h.holds;
  split = sym (append_assoc h.written h.rest more) ∙ ap (λ (r : List ℕ). r ++ more) h.split;
}

pub text_of_held : (v : View) (file : ℕ) (text : List ℕ) → HoldsAt v file text → HasText v file [] text
text_of_held v file text h = record { written = text; holds = h; split = append-nil text }

pub text_same : (v : View) (file : ℕ) (pending text text' : List ℕ) → text ≡ text' → HasText v file pending text → HasText v file pending text'
text_same v file pending text text' e h = record { written = h.written; holds = h.holds; split = h.split ∙ e }

pub front_same : (v : View) (file : ℕ) (text text' : List ℕ) → text ≡ text' → HoldsFront v file text → HoldsFront v file text'
front_same v file text text' e h = record { written = h.written; rest = h.rest; holds = h.holds; split = h.split ∙ e }
