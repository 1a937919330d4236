-- What an option asks for leads from behind its word to where the statement goes on.
use Rattle.std.proofs.Common.{◌≡◌, ℕ, Bool, List, [], ◌++◌, refl}
use Rattle.conf_lines.specs.Grammar.{Place}
use Rattle.conf_lines.specs.declared.item.What.{What}
use Rattle.conf_lines.specs.declared.options.Key.{Key}
use Rattle.conf_lines.specs.declared.options.Slots.{Slots}
use Rattle.conf_lines.specs.declared.options.Slots.TheVariants as slots
use Rattle.conf_grammar.proofs.Curves.{curve_leads}
use Rattle.conf_grammar.proofs.Leads.{Good, Leads}
use Rattle.conf_grammar.proofs.Meters.{one_rate_leads, two_rates_lead}
use Rattle.conf_grammar.proofs.OneWord.{mask_leads, rate_leads, whole_leads, word_leads}
use Rattle.conf_grammar.proofs.Places.{resumed, wanting}
use Rattle.conf_grammar.specs.Phrases.{has, then}
use Rattle.conf_grammar.specs.Spells.{OneRate}
use Rattle.conf_grammar.specs.Words.{Curve, curve, Ip4, ip4, Nothing, nothing, Phrase, Rate, rate, TwoRates, two_rates, Whole, whole, Word, word}

abbrev pub Values : Slots → Phrase
Values slots.Nothing = Nothing
Values slots.Word = Word
Values (slots.Rate low high) = Rate low high
Values (slots.Whole low high) = Whole low high
Values (slots.Curve low least) = Curve low least
Values slots.Mask = Ip4
Values slots.Single = OneRate
Values slots.Two = TwoRates

nothing_leads : (q : Place) → Leads q.form Nothing (resumed q) (resumed q)
nothing_leads q = record {
  read = reads;
  found = λ line words at h. record { front = []; says = []; rest = words; at = at; split = refl; is = nothing; on = h };
}
  where
    reads : {words more : List (List ℕ)} {says rest : List What} → Nothing words says → Good q.form (resumed q) more rest
        → Good q.form (resumed q) (words ++ more) (says ++ rest)
    reads nothing good = good

pub values_lead : (s : Slots) (q : Place) → Leads q.form (Values s) (wanting s q) (resumed q)
values_lead slots.Nothing q = nothing_leads q
values_lead slots.Word q = word_leads q
values_lead (slots.Rate low high) q = rate_leads low high q
values_lead (slots.Whole low high) q = whole_leads low high q
values_lead (slots.Curve low least) q = curve_leads low least q
values_lead slots.Mask q = mask_leads q
values_lead slots.Single q = one_rate_leads q
values_lead slots.Two q = two_rates_lead q

-- no word behind an option is one
pub values_are_none : (test : Key → Bool) (s : Slots) (words : List (List ℕ)) (says rest : List What) → Values s words says
    → has test (says ++ rest) ≡ has test rest
values_are_none test slots.Nothing words says rest nothing = refl
values_are_none test slots.Word words says rest (word p) = refl
values_are_none test (slots.Rate low high) words says rest (rate is) = refl
values_are_none test (slots.Whole low high) words says rest (whole is) = refl
values_are_none test (slots.Curve low least) words says rest (curve a b c up) = refl
values_are_none test slots.Mask words says rest (ip4 p is) = refl
values_are_none test slots.Single words says rest (then (rate a) (then (whole b) (whole c))) = refl
values_are_none test slots.Two words says rest (two_rates a b c d) = refl
