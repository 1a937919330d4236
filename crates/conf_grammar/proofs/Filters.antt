-- A filter and a conditioner, from behind the word that says which statement it is up to the end.
use Rattle.std.proofs.Common.{◌≡◌, ℕ, ◌+◌, Bool, true, false, cond, List, [], ◌∷◌, ◌++◌, None, Some, refl, sym, subst, codes}
use Rattle.conf_lines.proofs.Readings.{past}
use Rattle.conf_lines.specs.Grammar.{Place, chosen, end, step}
use Rattle.conf_lines.specs.Slots.{address6_in, address_in, are_plain, is_text, mask_in, whole_in}
use Rattle.conf_lines.specs.declared.item.What.{What}
use Rattle.conf_lines.specs.declared.item.What.TheVariants as what
use Rattle.conf_lines.specs.declared.options.Key.{Key}
use Rattle.conf_lines.specs.declared.options.Key.TheVariants as key
use Rattle.conf_lines.specs.declared.options.Slots.TheVariants as slots
use Rattle.conf_lines.specs.declared.statement.Form.TheVariants as form
use Rattle.conf_grammar.proofs.Leads.{Ends, Found, Good, Leads, NoFault, found_more, ◌>>◌}
use Rattle.conf_grammar.proofs.Many.{Written}
use Rattle.conf_grammar.proofs.Optionals.{closed, closes_by, read_option}
use Rattle.conf_grammar.proofs.OneWord.{whole_by, whole_taken}
use Rattle.conf_grammar.proofs.Parts.{Unruled, address6_part, address_part, at_part, last_options, name_part, port_part, protocol_part, rule_ends}
use Rattle.conf_grammar.proofs.Places.{err_is, is_word, refused_is, wanting}
use Rattle.conf_grammar.proofs.Values.{values_lead}
use Rattle.conf_grammar.specs.Phrases.{◌▷◌, Either, first, second, Maybe, option}
use Rattle.conf_grammar.specs.Spells.{Address, Address6, Port, Rule}
use Rattle.conf_grammar.specs.Words.{Name, Phrase, Protocol, Whole}

-- FILTERS: their names, addresses of one kind, and two options at the end
abbrev FilterPhrase : Phrase → Key → Key → Phrase
FilterPhrase Of j k = Name ▷ Name ▷ Rule (Of ▷ Port ▷ Of ▷ Port ▷ Protocol ▷ Maybe (Written j ▷ Maybe (Written k)))

-- with addresses of IPv4
tos_ends : Ends form.Filter (Maybe (Written key.Tos ▷ Maybe (Written key.Tosmask))) (at_part form.Filter 11)
unfolding step end
tos_ends =
    last_options form.Filter 11 key.Tos key.Tosmask
    (record { form = refl; named = λ w e. rw e refl; other = λ w e. rw e refl; ends = refl; refused = refused_is (codes "tos") })
    (record { form = refl; named = λ w e. rw e refl; other = λ w e. rw e refl; ends = refl; refused = refused_is (codes "tosmask") })
    (closes_by (at_part form.Filter 13) refl refused_is)

filter_unruled : Unruled (at_part form.Filter 4)
unfolding step is_text address_in mask_in are_plain
filter_unruled = record { behind_name = λ w. refl; behind_ruleno = λ w. refl; name = tt; ruleno = tt }

pub filter_ends : Ends form.Filter (FilterPhrase Address key.Tos key.Tosmask) (at_part form.Filter 0)
filter_ends =
    name_part (at_part form.Filter 1) >> name_part (at_part form.Filter 2)
    >> rule_ends (at_part form.Filter 4) filter_unruled
    (address_part (at_part form.Filter 7) >> port_part (at_part form.Filter 7) >> address_part (at_part form.Filter 10) >> port_part (at_part form.Filter 10)
    >> protocol_part (at_part form.Filter 11) >> tos_ends)

-- with addresses of IPv6
tclass_ends : Ends form.Filter6 (Maybe (Written key.Tclass ▷ Maybe (Written key.Tclassmask))) (at_part form.Filter6 9)
unfolding step end
tclass_ends =
    last_options form.Filter6 9 key.Tclass key.Tclassmask
    (record { form = refl; named = λ w e. rw e refl; other = λ w e. rw e refl; ends = refl; refused = refused_is (codes "tclass") })
    (record { form = refl; named = λ w e. rw e refl; other = λ w e. rw e refl; ends = refl; refused = refused_is (codes "tclassmask") })
    (closes_by (at_part form.Filter6 11) refl refused_is)

filter6_unruled : Unruled (at_part form.Filter6 4)
unfolding step is_text address6_in are_plain
filter6_unruled = record { behind_name = λ w. refl; behind_ruleno = λ w. refl; name = tt; ruleno = tt }

pub filter6_ends : Ends form.Filter6 (FilterPhrase Address6 key.Tclass key.Tclassmask) (at_part form.Filter6 0)
filter6_ends =
    name_part (at_part form.Filter6 1) >> name_part (at_part form.Filter6 2)
    >> rule_ends (at_part form.Filter6 4) filter6_unruled
    (address6_part (at_part form.Filter6 6) >> port_part (at_part form.Filter6 6) >> address6_part (at_part form.Filter6 8)
    >> port_part (at_part form.Filter6 8) >> protocol_part (at_part form.Filter6 9) >> tclass_ends)

-- A CONDITIONER
abbrev at_meter : Place
at_meter = at_part form.Conditioner 2

abbrev at_af : Place
at_af = at_part form.Conditioner 3

abbrev Meter : Phrase
Meter = Either (Written key.Srtcm) (Written key.Trtcm)

read_meter : {words more : List (List ℕ)} {says rest : List What} → Meter words says → Good form.Conditioner at_af more rest
    → Good form.Conditioner at_meter (words ++ more) (says ++ rest)
unfolding step is_text
read_meter (first x) good = (read_option at_meter (wanting slots.Single at_af) at_af (codes "srtcm") key.Srtcm refl (values_lead slots.Single at_af)).read x good
read_meter (second x) good = (read_option at_meter (wanting slots.Two at_af) at_af (codes "trtcm") key.Trtcm refl (values_lead slots.Two at_af)).read x good

find_meter : (line : ℕ) (words : List (List ℕ)) (at : ℕ) → NoFault line words at_meter at → Found Meter at_af line words
unfolding step end
find_meter line [] at h = absurd cc
find_meter line (w ∷ words) at h = go (is_text (codes "srtcm") w) (is_text (codes "trtcm") w) refl refl h
  where
    by_word : (text : List ℕ) → is_text text w ≡ true → Found Meter at_af line (text ∷ words) → Found Meter at_af line (w ∷ words)
    by_word text t found = subst (λ (v : List ℕ). Found Meter at_af line (v ∷ words)) (sym (is_word text w t)) found

    go : (a b : Bool) → is_text (codes "srtcm") w ≡ a → is_text (codes "trtcm") w ≡ b
        → (past line words at_meter at (chosen at_af w (cond a (Some key.Srtcm) (cond b (Some key.Trtcm) None)))).fault ≡ None
        → Found Meter at_af line (w ∷ words)
    go true b e f h =
        by_word (codes "srtcm") e
        (found_more (codes "srtcm") (what.Key key.Srtcm) (λ ws xs v. first (option v)) ((values_lead slots.Single at_af).found line words (at + 1) h))
    go false true e f h =
        by_word (codes "trtcm") f
        (found_more (codes "trtcm") (what.Key key.Trtcm) (λ ws xs v. second (option v)) ((values_lead slots.Two at_af).found line words (at + 1) h))
    go false false e f h = absurd (err_is line words at_meter at (chosen at_af w None) (refused_is w) h)

meter_part : Leads form.Conditioner Meter at_meter at_af
meter_part = record { read = read_meter; found = find_meter }

pub conditioner_ends : Ends form.Conditioner (Name ▷ Name ▷ Meter ▷ Whole 1 4) (at_part form.Conditioner 0)
unfolding step end
conditioner_ends =
    name_part (at_part form.Conditioner 1) >> name_part at_meter >> meter_part
    >> closed at_af (at_part form.Conditioner 4)
    (whole_by form.Conditioner 1 4 at_af (at_part form.Conditioner 4) (λ w. whole_taken (at_part form.Conditioner 4) (whole_in 1 4 w)) (λ e. cc))
    (closes_by (at_part form.Conditioner 4) refl refused_is)
