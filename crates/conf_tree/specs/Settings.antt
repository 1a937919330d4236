-- What each option of a class sets, by the numbers behind its word. An option without its numbers, which no text has, leaves
-- what they would set.
use Rattle.std.specs.Option.{option_or}
use Rattle.std.specs.Prelude.{unwrap_or, ℕ, ◌==◌, ◌*◌, ◌/◌, ◌^◌, ◌&&◌, ◌||◌, true, false, List, nat_le, if◌then◌else◌, Option, Some, None, Result, Ok, Err, option_map}
use Rattle.service_curve.specs.declared.Curve.{Curve}
use Rattle.service_curve.specs.Curve.{curve, straight}
use Rattle.conf_lines.specs.declared.fault.ConfPlace.{ConfPlace}
use Rattle.conf_lines.specs.declared.item.Item.{Item}
use Rattle.conf_lines.specs.declared.options.Key.{Key}
use Rattle.conf_lines.specs.declared.options.Key.TheVariants as key
use Rattle.conf_lines.specs.Grammar.{is_convex}
use Rattle.conf_lines.specs.declared.options.Slots.{Slots}
use Rattle.conf_lines.specs.declared.options.Slots.TheVariants as slots
use Rattle.conf_lines.specs.Options.{most_rate, most_bend, slots_of}
use Rattle.conf_tree.specs.declared.class.Class.{Class}
use Rattle.conf_tree.specs.declared.interface.Kind.{Kind}
use Rattle.conf_tree.specs.declared.interface.Kind.TheVariants.{Hfsc, Cbq}
use Rattle.conf_tree.specs.declared.class.DropRule.TheVariants.{Tail, Red, Ecn, Rio}
use Rattle.conf_tree.specs.declared.settings.ReadContext.{ReadContext}
use Rattle.conf_tree.specs.declared.settings.Settings.{Settings}
use Rattle.conf_tree.specs.Items.{number_at, number_behind, word_at}
use Rattle.conf_tree.specs.Places.{fault_at}
use Rattle.conf_lines.specs.declared.fault.ConfKind.TheVariants.{RateRange, TwoDefaults}

-- before the first option
abbrev pub unset : Settings
unset = record {
  real = None;
  fixed = false;
  share = None;
  upper = None;
  rate = None;
  priority = 0;
  borrow = false;
  control = false;
  maxburst = 16;
  packetsize = 1500;
  limit = 50;
  drop = Tail;
  clear = false;
  is_default = false;
}

-- a class has nothing of what the options of the other kind set
abbrev pub of_kind : Kind → Settings → Settings
of_kind Hfsc s = record s { priority = 0; borrow = false; control = false; maxburst = 0; packetsize = 0 }
of_kind Cbq s = record s { real = None; fixed = false; share = None; upper = None }

abbrev pub rate_of_kind : Kind → ℕ → ℕ
rate_of_kind Hfsc rate = 0
rate_of_kind Cbq rate = rate

-- the class of a name, a parent, a rate and settings, without a conditioner
abbrev pub class_of : List ℕ → Option ℕ → ℕ → Settings → Class
class_of name parent rate s = record {
  name = name;
  parent = parent;
  real = s.real;
  share = s.share;
  upper = s.upper;
  rate = rate;
  priority = s.priority;
  borrow = s.borrow;
  control = s.control;
  maxburst = s.maxburst;
  packetsize = s.packetsize;
  limit = s.limit;
  drop = s.drop;
  clear = s.clear;
  is_default = s.is_default;
  meter = None;
}

-- the curve of m1, d in nanoseconds and m2: without a first piece, or with one slope, it is the line of slope m2
abbrev pub made : ℕ → ℕ → ℕ → Curve
made m1 d m2 = if d == 0 || m1 == m2 then straight m2 else curve m1 d m2

-- RATE WHOLE RATE are m1, d in milliseconds and m2; none that bends upwards from m1 > 0
abbrev pub curve_of : Option ℕ → Option ℕ → Option ℕ → Option Curve
curve_of None d m2 = None
curve_of (Some m1) None m2 = None
curve_of (Some m1) (Some d) None = None
curve_of (Some m1) (Some d) (Some m2) = if is_convex m1 d m2 then None else Some (made m1 (d * 10 ^ 6) m2)

-- the curve behind an option, whose slopes are at least what the table of options says
abbrev pub curve_in_slots : Slots → List Item → Option Curve
curve_in_slots (slots.Curve low least) items =
    curve_of (number_at low most_rate items 0) (number_at 0 most_bend items 1) (number_at least most_rate items 2)
curve_in_slots _ items = None

abbrev pub curve_behind : Key → List Item → Option Curve
curve_behind key items = curve_in_slots (slots_of key) items

-- a part of a rate in percent, rounded down
abbrev pub percent : ℕ → ℕ → ℕ
percent rate n = n * rate / 100

-- pbandwidth P: the rate is tested at the word of its number
abbrev pub set_percent : ReadContext → Settings → ℕ → Option ℕ → Result Settings ConfPlace
set_percent scope s word None = Ok s
set_percent scope s word (Some n) =
    if nat_le 1000 (percent scope.rate n) && nat_le (percent scope.rate n) most_rate then Ok (record s { rate = Some (percent scope.rate n) })
    else Err (fault_at scope.line word RateRange)

-- default: one on each interface
abbrev pub set_default : ReadContext → Settings → ℕ → Result Settings ConfPlace
set_default scope s word =
    if scope.chosen || s.is_default then Err (fault_at scope.line word TwoDefaults) else Ok (record s { is_default = true })

-- What the option word at a word of the line sets, by the items behind it: an option of both kinds of classes
abbrev pub set_queue : ReadContext → Settings → ℕ → Key → List Item → Result Settings ConfPlace
set_queue scope s word key.Qlimit items = Ok (record s { limit = unwrap_or (number_behind key.Qlimit items) s.limit })
set_queue scope s word key.Red items = Ok (record s { drop = Red })
set_queue scope s word key.Ecn items = Ok (record s { drop = Ecn })
set_queue scope s word key.Rio items = Ok (record s { drop = Rio })
set_queue scope s word key.Cleardscp items = Ok (record s { clear = true })
set_queue scope s word key.Default items = set_default scope s word
set_queue scope s word _ items = Ok s

-- an option of CBQ, or one of both
abbrev pub set_cbq : ReadContext → Settings → ℕ → Key → List Item → Result Settings ConfPlace
set_cbq scope s word key.Priority items = Ok (record s { priority = unwrap_or (number_behind key.Priority items) s.priority })
set_cbq scope s word key.Pbandwidth items = set_percent scope s (word_at items 0) (number_behind key.Pbandwidth items)
set_cbq scope s word key.Exactbandwidth items = Ok (record s { rate = option_or (number_behind key.Exactbandwidth items) s.rate })
set_cbq scope s word key.Borrow items = Ok (record s { borrow = true })
set_cbq scope s word key.Control items = Ok (record s { control = true })
set_cbq scope s word key.Maxburst items = Ok (record s { maxburst = unwrap_or (number_behind key.Maxburst items) s.maxburst })
set_cbq scope s word key.Packetsize items = Ok (record s { packetsize = unwrap_or (number_behind key.Packetsize items) s.packetsize })
set_cbq scope s word key items = set_queue scope s word key items

-- an option of HFSC, or another; sc sets both curves, and a class whose real-time curve was set last by rt or grate cannot
-- be a parent
abbrev pub set_option : ReadContext → Settings → ℕ → Key → List Item → Result Settings ConfPlace
set_option scope s word key.Sc items =
    let curve = curve_behind key.Sc items in
    Ok (record s { real = option_or curve s.real; fixed = false; share = option_or curve s.share })
set_option scope s word key.Rt items = Ok (record s { real = option_or (curve_behind key.Rt items) s.real; fixed = true })
set_option scope s word key.Ls items = Ok (record s { share = option_or (curve_behind key.Ls items) s.share })
set_option scope s word key.Ul items = Ok (record s { upper = option_or (curve_behind key.Ul items) s.upper })
set_option scope s word key.Pshare items =
    Ok (record s { share = option_or (option_map (λ n. straight (percent scope.rate n)) (number_behind key.Pshare items)) s.share })
set_option scope s word key.Grate items =
    Ok (record s { real = option_or (option_map (λ n. straight n) (number_behind key.Grate items)) s.real; fixed = true })
set_option scope s word key items = set_cbq scope s word key items
