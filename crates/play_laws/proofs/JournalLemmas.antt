-- The journal of more events begins with that of the older ones.
use Rattle.std.proofs.Common.{◌≡◌, ◌∙◌, List, [], ◌∷◌, ◌++◌, sym, ap, append_assoc}
use Rattle.std.proofs.lemmas.List.{append-nil}
use Rattle.altq_model.specs.History.{LabelledEvent, Decision, decided, journal}

pub journal-append : (es g : List LabelledEvent) → journal (es ++ g) ≡ journal g ++ journal es
journal-append [] g = sym (append-nil (journal g))
journal-append (e ∷ es) g =
    ap (λ (js : List Decision). js ++ decided e.label e.what) (journal-append es g)
    ∙ append_assoc (journal g) (journal es) (decided e.label e.what)
