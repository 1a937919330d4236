-- The rows of the numbers below a bound.
use Rattle.std.proofs.Common.{◌≡◌, ◌≤◌, ◌+◌, ◌-◌, ◌∙◌, ℕ, zero, suc, List, [], ◌++◌, length, None, Some, refl, ap, sym, append_assoc, arith}
use Rattle.std.proofs.lemmas.List.{append-nil}
use Rattle.std.specs.Prelude.{option_map}
use Rattle.std.specs.Option.{option_map_or}
use Rattle.std.specs.declared.option.Option.{Option}
use Rattle.altq_model.specs.History.{Decision}
use Rattle.play_loop.specs.declared.kept.KeptFate.{KeptFate}
use Rattle.play_chain.specs.declared.firsts.First.{First}
use Rattle.play_chain.specs.declared.firsts.First.TheVariants as first
use Rattle.play_chain.specs.declared.firsts.Firsts.{Firsts}
use Rattle.play_chain.specs.declared.outcome.Passage.{Passage}
use Rattle.play_chain.specs.declared.seconds.Second.{Second}
use Rattle.play_chain.specs.declared.seconds.Seconds.{Seconds}
use Rattle.play_chain.specs.Path.{decisions_of, outcome_of, passage, sendings}
use Rattle.play_chain.specs.Tables.{AreOnce, HoldsFirsts, HoldsSeconds, first_in, in_tables, outcome_by, passage_by, second_in, text_in}
use Rattle.play_chain.specs.Text.{above, path_header, path_row, path_text, rows_below}
use Rattle.play_chain.specs.Written.{Continues}
use Rattle.play_chain.proofs.ListLemmas.{none_above}
use Rattle.play_chain.proofs.PathLemmas.{passages}

both : (as' bs cs ds : List ℕ) → as' ≡ cs → bs ≡ ds → as' ++ bs ≡ cs ++ ds
both as' bs cs ds e f = cc

pub rows_same : (m : ℕ) (f g : ℕ → Option Passage) → ((n : ℕ) → f n ≡ g n) → rows_below m f ≡ rows_below m g
rows_same zero f g h = refl
rows_same (suc m) f g h = both _ _ _ _ (rows_same m f g h) (ap (λ (o : Option Passage). option_map_or (path_row m) o []) (h m))

rows_more : (a d : ℕ) (f : ℕ → Option Passage) → ((n : ℕ) → a ≤ n → f n ≡ None) → rows_below (d + a) f ≡ rows_below a f
rows_more a zero f h = let s : 0 + a ≡ a = omega arith in ap (λ (n : ℕ). rows_below n f) s
rows_more a (suc d) f h =
    let s : suc d + a ≡ suc (d + a) = omega arith in
    ap (λ (n : ℕ). rows_below n f) s
    ∙ ap (λ (t : List ℕ). t ++ option_map_or (path_row (d + a)) (f (d + a)) []) (rows_more a d f h)
    ∙ ap (λ (o : Option Passage). rows_below a f ++ option_map_or (path_row (d + a)) o []) (h (d + a) (omega arith))
    ∙ append-nil (rows_below a f)

next : (n : ℕ) → suc n ≡ n + 1
next n = omega arith

-- the row of one number more, where it has one
pub one_row : (old now new : List ℕ) (from n : ℕ) (f : ℕ → Option Passage) (p : Passage) → f n ≡ Some p → new ≡ now ++ path_row n p → Continues old now from n f
    → Continues old new from (n + 1) f
one_row old now new from n f p is e h = λ before front g.
    ap (λ (t : List ℕ). before ++ t) e ∙ sym (append_assoc before now (path_row n p))
    ∙ ap (λ (t : List ℕ). t ++ path_row n p) (h before front g) ∙ append_assoc front (rows_below n f) (path_row n p)
    ∙ ap (λ (o : Option Passage). front ++ (rows_below n f ++ option_map_or (path_row n) o [])) (sym is) ∙ ap (λ (k : ℕ). front ++ rows_below k f) (next n)

pub no_row : (old now : List ℕ) (from n : ℕ) (f : ℕ → Option Passage) → f n ≡ None → Continues old now from n f → Continues old now from (n + 1) f
no_row old now from n f is h = λ before front g.
    h before front g ∙ ap (λ (t : List ℕ). front ++ t) (sym (append-nil (rows_below n f)))
    ∙ ap (λ (o : Option Passage). front ++ (rows_below n f ++ option_map_or (path_row n) o [])) (sym is) ∙ ap (λ (k : ℕ). front ++ rows_below k f) (next n)

-- from the head row on, and from rows on
pub from_head : (old new text : List ℕ) (m : ℕ) (f : ℕ → Option Passage) → old ≡ path_header → text ≡ new → Continues old new 0 m f
    → text ≡ path_header ++ rows_below m f
from_head old new text m f e is h = is ∙ h [] path_header (e ∙ sym (append-nil path_header))

pub from_rows : (old new text : List ℕ) (from m : ℕ) (f : ℕ → Option Passage) → old ≡ [] → text ≡ new → Continues old new from m f
    → rows_below m f ≡ rows_below from f ++ text
from_rows old new text from m f e is h =
    sym (h (rows_below from f) [] (ap (λ (t : List ℕ). rows_below from f ++ t) e ∙ append-nil (rows_below from f)))
    ∙ ap (λ (t : List ℕ). rows_below from f ++ t) (sym is)

abbrev through : (sent : List ℕ) → List Decision → (n : ℕ) → KeptFate → Passage
through sent second n f = record { arrival = f.arrival; outcome = outcome_of sent second n f.fate }

none_passes : (fates : List KeptFate) (js : List Decision) (n : ℕ) → above fates ≤ n → passage fates js n ≡ None
none_passes fates js n l = ap (λ (o : Option KeptFate). option_map (through (sendings fates) js n) o) (none_above fates n l)

-- the text of tables that hold these passages
pub text_is : (t : Firsts) (u : Seconds) (fates : List KeptFate) (js : List Decision) → ((n : ℕ) → in_tables t.rows.items u.rows.items n ≡ passage fates js n)
    → above fates ≤ length t.rows.items → text_in t u ≡ path_text fates js
text_is t u fates js table within =
    let size : length t.rows.items ≡ (length t.rows.items - above fates) + above fates = omega (arith, within) in
    ap (λ (l : List ℕ). path_header ++ l)
    (rows_same (length t.rows.items) (in_tables t.rows.items u.rows.items) (passage fates js) table
    ∙ ap (λ (n : ℕ). rows_below n (passage fates js)) size
    ∙ rows_more (above fates) (length t.rows.items - above fates) (passage fates js) (none_passes fates js))

-- of what two plays were told
pub text_held : (t : Firsts) (u : Seconds) (xs ys : List KeptFate) → AreOnce xs → AreOnce ys → HoldsFirsts t xs → HoldsSeconds u ys
    → text_in t u ≡ path_text xs (decisions_of ys)
text_held t u xs ys x y first second =
    text_is t u xs (decisions_of ys) (passages t u.rows.items xs (decisions_of ys) (first x) (λ k some l. second y k)) (first x).within

-- of a second table that was made longer
passage_same : (row : First) (xs ys : List Second) → ((k : ℕ) → second_in ys k ≡ second_in xs k) → passage_by ys row ≡ passage_by xs row
passage_same first.Absent xs ys h = refl
passage_same (first.Dropped at) xs ys h = refl
passage_same (first.Sent at place) xs ys h =
    let with_row : Second → Passage = λ row. record { arrival = at; outcome = outcome_by row } in ap (λ (row : Second). Some (with_row row)) (h place)

pub text_same : (t : Firsts) (u v : Seconds) → ((k : ℕ) → second_in v.rows.items k ≡ second_in u.rows.items k) → text_in t v ≡ text_in t u
text_same t u v h =
    ap (λ (l : List ℕ). path_header ++ l)
    (rows_same (length t.rows.items) (in_tables t.rows.items v.rows.items) (in_tables t.rows.items u.rows.items)
    (λ n. passage_same (first_in t.rows.items n) u.rows.items v.rows.items h))
