-- THE GRAMMAR: what a user writes of each statement, after altq.conf(5) and docs/reference/CONFIGURATION.md.
use Rattle.std.specs.Prelude.{◌≡◌, ◌-◌, ◌^◌, ℕ, Bool, true, List, ◌∷◌, codes}
use Rattle.line_text.specs.Names.{is_name}
use Rattle.conf_lines.specs.declared.item.What.{What}
use Rattle.conf_lines.specs.declared.item.What.TheVariants as what
use Rattle.conf_lines.specs.declared.options.Key.{Key}
use Rattle.conf_lines.specs.declared.options.Key.TheVariants as key
use Rattle.conf_lines.specs.declared.statement.Form.{Form}
use Rattle.conf_lines.specs.declared.statement.Form.TheVariants as form
use Rattle.conf_grammar.specs.Options.{CbqOption, HfscOption, InterfaceOption, is_discipline, is_rate, is_share}
use Rattle.conf_grammar.specs.Phrases.{◌▷◌, Either, Fixed, Many, Maybe, Option, has}
use Rattle.conf_grammar.specs.Words.{Ip4, Ip6, Name, Phrase, Protocol, Rate, TwoRates, Whole, Word, Zero}

-- options, one of which must be there
pub data Needing (test : Key → Bool) (Of : Phrase) : List (List ℕ) → List What → Type 0 where
  needing : {words : List (List ℕ)} {says : List What} → Many Of words says → has test says ≡ true → Needing test Of words says

-- PARENT and options: NULL makes the root, which needs none
pub data Below (test : Key → Bool) (Of : Phrase) : List (List ℕ) → List What → Type 0 where
  root : {words : List (List ℕ)} {says : List What} → Many Of words says → Below test Of (codes "NULL" ∷ words) (what.Name (codes "NULL") ∷ says)
  below : {parent : List ℕ} {words : List (List ℕ)} {says : List What} → is_name parent ≡ true → Needing test Of words says
      → Below test Of (parent ∷ words) (what.Name parent ∷ says)

-- DST or SRC of a filter, and of a filter6
abbrev pub Address : Phrase
Address = Either Zero (Ip4 ▷ Maybe (Option (codes "netmask") key.Netmask Ip4))

abbrev pub Address6 : Phrase
Address6 = Either Zero Ip6

abbrev pub Port : Phrase
Port = Whole 0 65535

abbrev pub Tos : Phrase
Tos = Whole 0 255

-- CIR CBS EBS: a meter of one rate (RFC 2697)
abbrev pub OneRate : Phrase
OneRate = Rate 1000 (10 ^ 12) ▷ Whole 1 (2 ^ 30) ▷ Whole 0 (2 ^ 30)

-- [name WORD] [ruleno WHOLE]
abbrev pub Rule : Phrase → Phrase
Rule Rest = Maybe (Option (codes "name") key.Name Word) ▷ Maybe (Option (codes "ruleno") key.Ruleno (Whole 0 (2 ^ 32 - 1))) ▷ Rest

-- interface NAME ( .. )*
-- class hfsc INTERFACE NAME PARENT ( .. )*, class cbq likewise
-- filter INTERFACE CLASS [name WORD] [ruleno WHOLE] DST DPORT SRC SPORT PROTO [tos WHOLE [tosmask WHOLE]], filter6 likewise
-- conditioner INTERFACE CLASS (srtcm CIR CBS EBS | trtcm PIR PBS CIR CBS) AF
abbrev pub Spells : Form → Phrase
Spells form.Interface = Fixed (codes "interface") ▷ Name ▷ Needing is_discipline InterfaceOption
Spells form.ClassHfsc = Fixed (codes "class") ▷ Fixed (codes "hfsc") ▷ Name ▷ Name ▷ Below is_share HfscOption
Spells form.ClassCbq = Fixed (codes "class") ▷ Fixed (codes "cbq") ▷ Name ▷ Name ▷ Below is_rate CbqOption
Spells form.Filter =
    Fixed (codes "filter") ▷ Name ▷ Name ▷ Rule (Address ▷ Port ▷ Address ▷ Port ▷ Protocol
    ▷ Maybe (Option (codes "tos") key.Tos Tos ▷ Maybe (Option (codes "tosmask") key.Tosmask Tos)))
Spells form.Filter6 =
    Fixed (codes "filter6") ▷ Name ▷ Name ▷ Rule (Address6 ▷ Port ▷ Address6 ▷ Port ▷ Protocol
    ▷ Maybe (Option (codes "tclass") key.Tclass Tos ▷ Maybe (Option (codes "tclassmask") key.Tclassmask Tos)))
Spells form.Conditioner =
    Fixed (codes "conditioner") ▷ Name ▷ Name
    ▷ Either (Option (codes "srtcm") key.Srtcm OneRate) (Option (codes "trtcm") key.Trtcm TwoRates) ▷ Whole 1 4
Spells form.Unread = λ words says. ⊥
