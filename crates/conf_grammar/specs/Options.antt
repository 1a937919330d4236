-- The options of an interface and of a class, each with what stands behind it.
use Rattle.std.specs.Prelude.{◌^◌, ℕ, Bool, true, false, List, codes}
use Rattle.conf_lines.specs.declared.item.What.{What}
use Rattle.conf_lines.specs.declared.options.Key.{Key}
use Rattle.conf_lines.specs.declared.options.Key.TheVariants as key
use Rattle.conf_grammar.specs.Phrases.{Option}
use Rattle.conf_grammar.specs.Words.{Curve, Nothing, Rate, Whole, Word}

-- of an interface: bandwidth RATE | tbrsize WORD | hfsc | cbq | efficient | cbq-wrr
pub data InterfaceOption : List (List ℕ) → List What → Type 0 where
  bandwidth : {w : List (List ℕ)} {x : List What} → Option (codes "bandwidth") key.Bandwidth (Rate 1000 (10 ^ 12)) w x → InterfaceOption w x
  tbrsize : {w : List (List ℕ)} {x : List What} → Option (codes "tbrsize") key.Tbrsize Word w x → InterfaceOption w x
  hfsc : {w : List (List ℕ)} {x : List What} → Option (codes "hfsc") key.Hfsc Nothing w x → InterfaceOption w x
  cbq : {w : List (List ℕ)} {x : List What} → Option (codes "cbq") key.Cbq Nothing w x → InterfaceOption w x
  efficient : {w : List (List ℕ)} {x : List What} → Option (codes "efficient") key.Efficient Nothing w x → InterfaceOption w x
  cbq_wrr : {w : List (List ℕ)} {x : List What} → Option (codes "cbq-wrr") key.CbqWrr Nothing w x → InterfaceOption w x

-- of both kinds of class: qlimit WHOLE | red | ecn | rio | cleardscp | admission WORD | default
pub data ClassOption : List (List ℕ) → List What → Type 0 where
  qlimit : {w : List (List ℕ)} {x : List What} → Option (codes "qlimit") key.Qlimit (Whole 1 10000) w x → ClassOption w x
  red : {w : List (List ℕ)} {x : List What} → Option (codes "red") key.Red Nothing w x → ClassOption w x
  ecn : {w : List (List ℕ)} {x : List What} → Option (codes "ecn") key.Ecn Nothing w x → ClassOption w x
  rio : {w : List (List ℕ)} {x : List What} → Option (codes "rio") key.Rio Nothing w x → ClassOption w x
  cleardscp : {w : List (List ℕ)} {x : List What} → Option (codes "cleardscp") key.Cleardscp Nothing w x → ClassOption w x
  admission : {w : List (List ℕ)} {x : List What} → Option (codes "admission") key.Admission Word w x → ClassOption w x
  default : {w : List (List ℕ)} {x : List What} → Option (codes "default") key.Default Nothing w x → ClassOption w x

-- of a class of HFSC: sc, rt, ls or ul with a curve | pshare WHOLE | grate RATE
pub data HfscOption : List (List ℕ) → List What → Type 0 where
  sc : {w : List (List ℕ)} {x : List What} → Option (codes "sc") key.Sc (Curve 0 1) w x → HfscOption w x
  rt : {w : List (List ℕ)} {x : List What} → Option (codes "rt") key.Rt (Curve 0 0) w x → HfscOption w x
  ls : {w : List (List ℕ)} {x : List What} → Option (codes "ls") key.Ls (Curve 0 1) w x → HfscOption w x
  ul : {w : List (List ℕ)} {x : List What} → Option (codes "ul") key.Ul (Curve 1000 1000) w x → HfscOption w x
  pshare : {w : List (List ℕ)} {x : List What} → Option (codes "pshare") key.Pshare (Whole 1 100) w x → HfscOption w x
  grate : {w : List (List ℕ)} {x : List What} → Option (codes "grate") key.Grate (Rate 0 (10 ^ 12)) w x → HfscOption w x
  hfsc_shared : {w : List (List ℕ)} {x : List What} → ClassOption w x → HfscOption w x

-- of a class of CBQ: priority WHOLE | pbandwidth WHOLE | exactbandwidth RATE | borrow | control | maxburst WHOLE | packetsize WHOLE
pub data CbqOption : List (List ℕ) → List What → Type 0 where
  priority : {w : List (List ℕ)} {x : List What} → Option (codes "priority") key.Priority (Whole 0 7) w x → CbqOption w x
  pbandwidth : {w : List (List ℕ)} {x : List What} → Option (codes "pbandwidth") key.Pbandwidth (Whole 0 100) w x → CbqOption w x
  exactbandwidth : {w : List (List ℕ)} {x : List What} → Option (codes "exactbandwidth") key.Exactbandwidth (Rate 1000 (10 ^ 12)) w x
      → CbqOption w x
  borrow : {w : List (List ℕ)} {x : List What} → Option (codes "borrow") key.Borrow Nothing w x → CbqOption w x
  control : {w : List (List ℕ)} {x : List What} → Option (codes "control") key.Control Nothing w x → CbqOption w x
  maxburst : {w : List (List ℕ)} {x : List What} → Option (codes "maxburst") key.Maxburst (Whole 1 1000) w x → CbqOption w x
  packetsize : {w : List (List ℕ)} {x : List What} → Option (codes "packetsize") key.Packetsize (Whole 1 262144) w x → CbqOption w x
  cbq_shared : {w : List (List ℕ)} {x : List What} → ClassOption w x → CbqOption w x

-- what must be among them: a discipline of an interface, a link-sharing curve of a class of HFSC, a rate of a class of CBQ
abbrev pub is_discipline : Key → Bool
is_discipline key.Hfsc = true
is_discipline key.Cbq = true
is_discipline _ = false

abbrev pub is_share : Key → Bool
is_share key.Sc = true
is_share key.Ls = true
is_share key.Pshare = true
is_share _ = false

abbrev pub is_rate : Key → Bool
is_rate key.Pbandwidth = true
is_rate key.Exactbandwidth = true
is_rate _ = false
