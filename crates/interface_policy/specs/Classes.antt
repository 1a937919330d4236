-- The classes of an interface as its discipline sees them.
use Rattle.std.specs.Prelude.{List, map}
use Rattle.conf_tree.specs.declared.class.Class.{Class}
use Rattle.hfsc_model.specs.declared.HfscClass.{HfscClass}
use Rattle.cbq_model.specs.declared.CbqClass.{CbqClass}

-- a class of HFSC
abbrev pub hfsc_class : Class → HfscClass
hfsc_class c = record { parent = c.parent; real = c.real; share = c.share; limit = c.upper }

abbrev pub hfsc_classes : List Class → List HfscClass
hfsc_classes classes = map hfsc_class classes

-- a class of CBQ
abbrev pub cbq_class : Class → CbqClass
cbq_class c = record {
  parent = c.parent;
  rate = c.rate;
  priority = c.priority;
  borrow = c.borrow;
  maxburst = c.maxburst;
  packetsize = c.packetsize;
}

abbrev pub cbq_classes : List Class → List CbqClass
cbq_classes classes = map cbq_class classes
