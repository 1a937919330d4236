-- The options of each statement are those of its rows of the table of options.
use Rattle.std.proofs.Common.{ℕ, List, refl}
use Rattle.conf_lines.specs.Options.{class_options, options_of}
use Rattle.conf_lines.specs.Slots.{is_text}
use Rattle.conf_lines.specs.declared.item.What.{What}
use Rattle.conf_lines.specs.declared.options.Key.TheVariants as key
use Rattle.conf_lines.specs.declared.statement.Form.TheVariants as form
use Rattle.conf_grammar.proofs.Many.{Choice, Each, done, ◌&◌, Keyed, keyed, Row, also_keyed}
use Rattle.conf_grammar.specs.Options.{CbqOption, ClassOption, HfscOption, InterfaceOption, is_discipline, is_rate, is_share, bandwidth, tbrsize, hfsc, cbq, efficient, cbq_wrr, sc, rt, ls, ul, pshare, grate, priority, pbandwidth, exactbandwidth, borrow, control, maxburst, packetsize, qlimit, red, ecn, rio, cleardscp, admission, default, hfsc_shared, cbq_shared}
use Rattle.conf_grammar.specs.Words.{Phrase}

-- of an interface
interface_keyed : {words : List (List ℕ)} {says : List What} → InterfaceOption words says → Keyed (options_of form.Interface) words says
unfolding is_text
interface_keyed (bandwidth o) = keyed key.Bandwidth refl o
interface_keyed (tbrsize o) = keyed key.Tbrsize refl o
interface_keyed (hfsc o) = keyed key.Hfsc refl o
interface_keyed (cbq o) = keyed key.Cbq refl o
interface_keyed (efficient o) = keyed key.Efficient refl o
interface_keyed (cbq_wrr o) = keyed key.CbqWrr refl o

pub interface_choice : Choice form.Interface is_discipline InterfaceOption
interface_choice = record {
  completes = refl & refl & refl & refl & refl & refl & done;
  keyed = interface_keyed;
  rows =
      (λ ws xs o. bandwidth o) & (λ ws xs o. tbrsize o) & (λ ws xs o. hfsc o) & (λ ws xs o. cbq o) & (λ ws xs o. efficient o) & (λ ws xs o. cbq_wrr o)
      & done;
}

-- of both kinds of class
class_keyed : {words : List (List ℕ)} {says : List What} → ClassOption words says → Keyed class_options words says
unfolding is_text
class_keyed (qlimit o) = keyed key.Qlimit refl o
class_keyed (red o) = keyed key.Red refl o
class_keyed (ecn o) = keyed key.Ecn refl o
class_keyed (rio o) = keyed key.Rio refl o
class_keyed (cleardscp o) = keyed key.Cleardscp refl o
class_keyed (admission o) = keyed key.Admission refl o
class_keyed (default o) = keyed key.Default refl o

class_rows : {Of : Phrase} → ((words : List (List ℕ)) (says : List What) → ClassOption words says → Of words says) → Each (Row Of) class_options
class_rows shared =
    (λ ws xs o. shared ws xs (qlimit o)) & (λ ws xs o. shared ws xs (red o)) & (λ ws xs o. shared ws xs (ecn o)) & (λ ws xs o. shared ws xs (rio o))
    & (λ ws xs o. shared ws xs (cleardscp o)) & (λ ws xs o. shared ws xs (admission o)) & (λ ws xs o. shared ws xs (default o)) & done

-- of a class of HFSC
hfsc_keyed : {words : List (List ℕ)} {says : List What} → HfscOption words says → Keyed (options_of form.ClassHfsc) words says
unfolding is_text
hfsc_keyed (sc o) = keyed key.Sc refl o
hfsc_keyed (rt o) = keyed key.Rt refl o
hfsc_keyed (ls o) = keyed key.Ls refl o
hfsc_keyed (ul o) = keyed key.Ul refl o
hfsc_keyed (pshare o) = keyed key.Pshare refl o
hfsc_keyed (grate o) = keyed key.Grate refl o
hfsc_keyed (hfsc_shared o) = also_keyed (class_keyed o) (refl & refl & refl & refl & refl & refl & refl & done)

pub hfsc_choice : Choice form.ClassHfsc is_share HfscOption
hfsc_choice = record {
  completes = refl & refl & refl & refl & refl & refl & refl & refl & refl & refl & refl & refl & refl & done;
  keyed = hfsc_keyed;
  rows =
      (λ ws xs o. sc o) & (λ ws xs o. rt o) & (λ ws xs o. ls o) & (λ ws xs o. ul o) & (λ ws xs o. pshare o) & (λ ws xs o. grate o)
      & class_rows (λ ws xs o. hfsc_shared o);
}

-- of a class of CBQ
cbq_keyed : {words : List (List ℕ)} {says : List What} → CbqOption words says → Keyed (options_of form.ClassCbq) words says
unfolding is_text
cbq_keyed (priority o) = keyed key.Priority refl o
cbq_keyed (pbandwidth o) = keyed key.Pbandwidth refl o
cbq_keyed (exactbandwidth o) = keyed key.Exactbandwidth refl o
cbq_keyed (borrow o) = keyed key.Borrow refl o
cbq_keyed (control o) = keyed key.Control refl o
cbq_keyed (maxburst o) = keyed key.Maxburst refl o
cbq_keyed (packetsize o) = keyed key.Packetsize refl o
cbq_keyed (cbq_shared o) = also_keyed (class_keyed o) (refl & refl & refl & refl & refl & refl & refl & done)

pub cbq_choice : Choice form.ClassCbq is_rate CbqOption
cbq_choice = record {
  completes = refl & refl & refl & refl & refl & refl & refl & refl & refl & refl & refl & refl & refl & refl & done;
  keyed = cbq_keyed;
  rows =
      (λ ws xs o. priority o) & (λ ws xs o. pbandwidth o) & (λ ws xs o. exactbandwidth o) & (λ ws xs o. borrow o) & (λ ws xs o. control o)
      & (λ ws xs o. maxburst o) & (λ ws xs o. packetsize o) & class_rows (λ ws xs o. cbq_shared o);
}
