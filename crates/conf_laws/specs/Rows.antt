-- Worked rows of the configuration, computed from its definitions: the first fault of a text, by its line, its word and its kind,
-- and the canonical text of one that has none. See altq.conf(5).
use Rattle.std.specs.Prelude.{◌≡◌, ℕ, true, false, List, [], ◌∷◌, Option, Some, None, Ok, Err, slice_get, codes}
use Rattle.conf_lines.specs.declared.fault.ConfKind.{ConfKind}
use Rattle.conf_lines.specs.declared.fault.ConfKind.TheVariants.{UnknownWord, MissingWord, BadNumber, RateRange, BadAddress, BadByte, WrongDiscipline, NameTaken, ConvexFirst, NoShare, RealTimeInside, InnerQueue, TwoDefaults, NoDefault, TwoRoots, NoInterface, NoClass, ConditionerTwice}
use Rattle.conf_lines.specs.declared.fault.ConfPlace.{ConfPlace}
use Rattle.conf_lines.specs.Texts.{statements_of}
use Rattle.conf_tree.specs.declared.class.Class.{Class}
use Rattle.conf_tree.specs.declared.class.DropRule.TheVariants.{Tail}
use Rattle.conf_tree.specs.declared.interface.Interface.{Interface}
use Rattle.conf_tree.specs.Canonical.{canonical_text}
use Rattle.conf_tree.specs.Reading.{reading}
use Rattle.conf_laws.specs.Laws.{ends_word}

abbrev pub fault_of : List ℕ → Option ConfPlace
fault_of text = elim (reading (statements_of text)) [ Ok interfaces ↦ None | Err fault ↦ Some fault ]

abbrev pub meaning_of : List ℕ → Option (List ℕ)
meaning_of text = elim (reading (statements_of text)) [ Ok interfaces ↦ Some (canonical_text interfaces) | Err fault ↦ None ]

abbrev pub Faulty : List ℕ → (line word : ℕ) → (kind : ConfKind) → Type 0
Faulty text line word kind = fault_of text ≡ Some (record { line = line; word = word; kind = kind })

abbrev pub Means : List ℕ → List ℕ → Type 0
Means text canonical = meaning_of text ≡ Some canonical

-- the class of a number of the first interface
abbrev pub class_in : ℕ → List Interface → Option Class
class_in k [] = None
class_in k (i ∷ interfaces) = slice_get i.classes k

abbrev pub class_of : List ℕ → ℕ → Option Class
class_of text k = elim (reading (statements_of text)) [ Ok interfaces ↦ class_in k interfaces | Err fault ↦ None ]

-- lines, and options of an interface
pub record LinesAre : Type 0 where
  pub comment_keeps_its_backslash : Faulty (codes "interface # a \\\nif0 hfsc\n") 1 2 MissingWord
  pub backslash_continues : Means (codes "interface \\\nif0 hfsc\n") (codes "interface if0 bandwidth 100000000 hfsc\n")
  pub brackets_are_blanks : Means (codes "interface [if0]hfsc") (codes "interface if0 bandwidth 100000000 hfsc\n")
  pub later_discipline_holds : Means (codes "interface if0 hfsc cbq") (codes "interface if0 bandwidth 100000000 cbq\n")
  pub later_bandwidth_holds : Means (codes "interface if0 bandwidth 1K hfsc bandwidth 2K") (codes "interface if0 bandwidth 2000 hfsc\n")
  pub earlier_discipline_goes : Means (codes "interface if0 cbq hfsc") (codes "interface if0 bandwidth 100000000 hfsc\n")

-- where a word has ended, whatever follows
pub record EndsAre : Type 0 where
  pub blank_ends_a_word : ends_word (codes "class ") ≡ true
  pub return_ends_a_word : ends_word (codes "class\r") ≡ true
  pub line_feed_ends_a_word : ends_word (codes "class\n") ≡ true
  pub comment_ends_a_word : ends_word (codes "class#") ≡ true
  pub continuation_ends_a_word : ends_word (codes "class\\\n") ≡ true
  pub continuation_with_a_return_ends_a_word : ends_word (codes "class\\\r\n") ≡ true
  pub letter_ends_none : ends_word (codes "class") ≡ false
  pub backslash_ends_none : ends_word (codes "class\\") ≡ false
  pub return_behind_a_backslash_ends_none : ends_word (codes "class\\\r") ≡ false
  pub unended_word_is_faulty : Faulty (codes "class hfs") 1 2 UnknownWord
  pub unended_word_is_mended : Faulty (codes "class hfsc") 1 3 MissingWord
  pub ended_word_is_faulty : Faulty (codes "class hfs c") 1 2 UnknownWord

-- NAME: 1 to 64 letters, digits and signs
pub record NamesAre : Type 0 where
  pub name_of_64 : Means (codes "interface nnnnnnnnnnnnnnnnnnnnnnnnnnnnnnnnnnnnnnnnnnnnnnnnnnnnnnnnnnnnnnnn hfsc") (codes "interface nnnnnnnnnnnnnnnnnnnnnnnnnnnnnnnnnnnnnnnnnnnnnnnnnnnnnnnnnnnnnnnn bandwidth 100000000 hfsc\n")
  pub name_of_65 : Faulty (codes "interface nnnnnnnnnnnnnnnnnnnnnnnnnnnnnnnnnnnnnnnnnnnnnnnnnnnnnnnnnnnnnnnnn hfsc") 1 2 BadByte
  pub each_kind_of_byte : Means (codes "interface aZ09_-.:/ hfsc") (codes "interface aZ09_-.:/ bandwidth 100000000 hfsc\n")
  pub no_below_the_digits : Faulty (codes "interface a, hfsc") 1 2 BadByte
  pub no_at_sign : Faulty (codes "interface a@ hfsc") 1 2 BadByte
  pub no_above_the_letters : Faulty (codes "interface a{ hfsc") 1 2 BadByte
  pub no_backquote : Faulty (codes "interface a` hfsc") 1 2 BadByte
  pub no_semicolon : Faulty (codes "interface a; hfsc") 1 2 BadByte
  pub no_bracket_of_arrays : Faulty (codes "interface a^ hfsc") 1 2 BadByte
  pub name_like_a_number : Means (codes "interface a:1 hfsc") (codes "interface a:1 bandwidth 100000000 hfsc\n")

-- the ends of each range
pub record RangesAre : Type 0 where
  pub least_bandwidth : Means (codes "interface if0 bandwidth 1000 hfsc") (codes "interface if0 bandwidth 1000 hfsc\n")
  pub below_the_bandwidth : Faulty (codes "interface if0 bandwidth 999 hfsc") 1 4 RateRange
  pub greatest_bandwidth : Means (codes "interface if0 bandwidth 1000G hfsc") (codes "interface if0 bandwidth 1000000000000 hfsc\n")
  pub above_the_bandwidth : Faulty (codes "interface if0 bandwidth 1000000000001 hfsc") 1 4 RateRange
  pub above_by_nine_digits : Faulty (codes "interface if0 bandwidth 1000.000000001G hfsc") 1 4 RateRange
  pub nine_digits : Means (codes "interface if0 bandwidth 1.123456789G hfsc") (codes "interface if0 bandwidth 1123456789 hfsc\n")
  pub ten_digits : Faulty (codes "interface if0 bandwidth 1.1234567890G hfsc") 1 4 BadNumber
  pub part_of_a_bit : Faulty (codes "interface if0 bandwidth 1000.5 hfsc") 1 4 BadNumber
  pub greatest_curve : Means (codes "interface if0 hfsc\nclass hfsc if0 r NULL\nclass hfsc if0 a r ls 1 0 1 ls 1000G 1000000 1000G ls 1000G 1000000 1 default") (codes "interface if0 bandwidth 100000000 hfsc\nclass hfsc if0 r NULL qlimit 50\nclass hfsc if0 a r ls 1000000000000 1000000 1 qlimit 50 default\n")
  pub first_slope_above : Faulty (codes "interface if0 hfsc\nclass hfsc if0 r NULL\nclass hfsc if0 a r ls 1000000000001 0 1 default") 3 7 RateRange
  pub bend_above : Faulty (codes "interface if0 hfsc\nclass hfsc if0 r NULL\nclass hfsc if0 a r ls 1 1000001 1 default") 3 8 BadNumber
  pub second_slope_above : Faulty (codes "interface if0 hfsc\nclass hfsc if0 r NULL\nclass hfsc if0 a r ls 1 0 1000000000001 default") 3 9 RateRange
  pub second_slope_of_0 : Faulty (codes "interface if0 hfsc\nclass hfsc if0 r NULL\nclass hfsc if0 a r sc 1 0 0 default") 3 9 RateRange
  pub real_time_of_0 : Means (codes "interface if0 hfsc\nclass hfsc if0 r NULL\nclass hfsc if0 a r ls 1 0 1 rt 0 0 0 default") (codes "interface if0 bandwidth 100000000 hfsc\nclass hfsc if0 r NULL qlimit 50\nclass hfsc if0 a r rt 0 0 0 ls 1 0 1 qlimit 50 default\n")
  pub limit_first_below : Faulty (codes "interface if0 hfsc\nclass hfsc if0 r NULL\nclass hfsc if0 a r ul 999 0 1000 default") 3 7 RateRange
  pub limit_second_below : Faulty (codes "interface if0 hfsc\nclass hfsc if0 r NULL\nclass hfsc if0 a r ul 1000 0 999 default") 3 9 RateRange
  pub limit_of_a_thousand : Means (codes "interface if0 hfsc\nclass hfsc if0 r NULL\nclass hfsc if0 a r ls 1 0 1 ul 1000 0 1000 default") (codes "interface if0 bandwidth 100000000 hfsc\nclass hfsc if0 r NULL qlimit 50\nclass hfsc if0 a r ls 1 0 1 ul 1000 0 1000 qlimit 50 default\n")
  pub limit_above : Faulty (codes "interface if0 hfsc\nclass hfsc if0 r NULL\nclass hfsc if0 a r ul 1000000000001 0 1000 default") 3 7 RateRange
  pub convex_limit : Faulty (codes "interface if0 hfsc\nclass hfsc if0 r NULL\nclass hfsc if0 a r ls 1M 0 1M ul 1M 10 2M default") 3 13 ConvexFirst
  pub share_of_0 : Faulty (codes "interface if0 hfsc\nclass hfsc if0 r NULL\nclass hfsc if0 a r pshare 0 default") 3 7 BadNumber
  pub share_of_101 : Faulty (codes "interface if0 hfsc\nclass hfsc if0 r NULL\nclass hfsc if0 a r pshare 101 default") 3 7 BadNumber
  pub share_of_1 : Means (codes "interface if0 hfsc\nclass hfsc if0 r NULL\nclass hfsc if0 a r ls 1 0 1 pshare 1 default") (codes "interface if0 bandwidth 100000000 hfsc\nclass hfsc if0 r NULL qlimit 50\nclass hfsc if0 a r ls 1000000 0 1000000 qlimit 50 default\n")
  pub share_of_100 : Means (codes "interface if0 hfsc\nclass hfsc if0 r NULL\nclass hfsc if0 a r ls 1 0 1 pshare 100 default") (codes "interface if0 bandwidth 100000000 hfsc\nclass hfsc if0 r NULL qlimit 50\nclass hfsc if0 a r ls 100000000 0 100000000 qlimit 50 default\n")
  pub guaranteed_above : Faulty (codes "interface if0 hfsc\nclass hfsc if0 r NULL\nclass hfsc if0 a r ls 1 0 1 grate 1000000000001 default") 3 11 RateRange
  pub queue_of_0 : Faulty (codes "interface if0 hfsc\nclass hfsc if0 r NULL\nclass hfsc if0 a r ls 1 0 1 qlimit 0 default") 3 11 BadNumber
  pub queue_of_10001 : Faulty (codes "interface if0 hfsc\nclass hfsc if0 r NULL\nclass hfsc if0 a r ls 1 0 1 qlimit 10001 default") 3 11 BadNumber
  pub queue_of_10000 : Means (codes "interface if0 hfsc\nclass hfsc if0 r NULL\nclass hfsc if0 a r ls 1 0 1 qlimit 10000 default") (codes "interface if0 bandwidth 100000000 hfsc\nclass hfsc if0 r NULL qlimit 50\nclass hfsc if0 a r ls 1 0 1 qlimit 10000 default\n")
  pub queue_of_1 : Means (codes "interface if0 hfsc\nclass hfsc if0 r NULL\nclass hfsc if0 a r ls 1 0 1 qlimit 1 default") (codes "interface if0 bandwidth 100000000 hfsc\nclass hfsc if0 r NULL qlimit 50\nclass hfsc if0 a r ls 1 0 1 qlimit 1 default\n")
  pub burst_of_0 : Faulty (codes "interface if0 cbq\nclass cbq if0 r NULL\nclass cbq if0 a r exactbandwidth 1K maxburst 0 default") 3 9 BadNumber
  pub burst_of_1001 : Faulty (codes "interface if0 cbq\nclass cbq if0 r NULL\nclass cbq if0 a r exactbandwidth 1K maxburst 1001 default") 3 9 BadNumber
  pub size_of_0 : Faulty (codes "interface if0 cbq\nclass cbq if0 r NULL\nclass cbq if0 a r exactbandwidth 1K packetsize 0 default") 3 9 BadNumber
  pub size_above : Faulty (codes "interface if0 cbq\nclass cbq if0 r NULL\nclass cbq if0 a r exactbandwidth 1K packetsize 262145 default") 3 9 BadNumber
  pub least_of_cbq : Means (codes "interface if0 cbq\nclass cbq if0 r NULL\nclass cbq if0 a r exactbandwidth 1K maxburst 1 packetsize 1 priority 0 default") (codes "interface if0 bandwidth 100000000 cbq\nclass cbq if0 r NULL priority 0 exactbandwidth 100000000 maxburst 16 packetsize 1500 qlimit 50\nclass cbq if0 a r priority 0 exactbandwidth 1000 maxburst 1 packetsize 1 qlimit 50 default\n")
  pub greatest_of_cbq : Means (codes "interface if0 cbq\nclass cbq if0 r NULL\nclass cbq if0 a r exactbandwidth 1K maxburst 1000 packetsize 262144 priority 7 exactbandwidth 1000G default") (codes "interface if0 bandwidth 100000000 cbq\nclass cbq if0 r NULL priority 0 exactbandwidth 100000000 maxburst 16 packetsize 1500 qlimit 50\nclass cbq if0 a r priority 7 exactbandwidth 1000000000000 maxburst 1000 packetsize 262144 qlimit 50 default\n")
  pub priority_of_8 : Faulty (codes "interface if0 cbq\nclass cbq if0 r NULL\nclass cbq if0 a r exactbandwidth 1K priority 8 default") 3 9 BadNumber
  pub exact_below : Faulty (codes "interface if0 cbq\nclass cbq if0 r NULL\nclass cbq if0 a r exactbandwidth 1K exactbandwidth 999 default") 3 9 RateRange
  pub exact_above : Faulty (codes "interface if0 cbq\nclass cbq if0 r NULL\nclass cbq if0 a r exactbandwidth 1K exactbandwidth 1001G default") 3 9 RateRange
  pub percent_of_101 : Faulty (codes "interface if0 cbq\nclass cbq if0 r NULL\nclass cbq if0 a r exactbandwidth 1K pbandwidth 101 default") 3 9 BadNumber
  pub percent_of_0 : Faulty (codes "interface if0 cbq\nclass cbq if0 r NULL\nclass cbq if0 a r exactbandwidth 1K pbandwidth 0 default") 3 9 RateRange
  pub greatest_real_time : Means (codes "interface if0 hfsc\nclass hfsc if0 r NULL\nclass hfsc if0 a r ls 1 0 1 rt 0 0 1000G rt 1000G 1000000 1 default") (codes "interface if0 bandwidth 100000000 hfsc\nclass hfsc if0 r NULL qlimit 50\nclass hfsc if0 a r rt 1000000000000 1000000 1 ls 1 0 1 qlimit 50 default\n")
  pub real_time_above : Faulty (codes "interface if0 hfsc\nclass hfsc if0 r NULL\nclass hfsc if0 a r ls 1 0 1 rt 0 0 1001G default") 3 13 RateRange
  pub greatest_guarantee : Means (codes "interface if0 hfsc\nclass hfsc if0 r NULL\nclass hfsc if0 a r ls 1 0 1 grate 1000G default") (codes "interface if0 bandwidth 100000000 hfsc\nclass hfsc if0 r NULL qlimit 50\nclass hfsc if0 a r rt 1000000000000 0 1000000000000 ls 1 0 1 qlimit 50 default\n")
  pub guarantee_of_0 : Means (codes "interface if0 hfsc\nclass hfsc if0 r NULL\nclass hfsc if0 a r ls 1 0 1 grate 0 default") (codes "interface if0 bandwidth 100000000 hfsc\nclass hfsc if0 r NULL qlimit 50\nclass hfsc if0 a r rt 0 0 0 ls 1 0 1 qlimit 50 default\n")
  pub greatest_limit : Means (codes "interface if0 hfsc\nclass hfsc if0 r NULL\nclass hfsc if0 a r ls 1 0 1 ul 1000 0 1000G ul 1000G 1000000 1000 default") (codes "interface if0 bandwidth 100000000 hfsc\nclass hfsc if0 r NULL qlimit 50\nclass hfsc if0 a r ls 1 0 1 ul 1000000000000 1000000 1000 qlimit 50 default\n")
  pub limit_bend_above : Faulty (codes "interface if0 hfsc\nclass hfsc if0 r NULL\nclass hfsc if0 a r ls 1 0 1 ul 1000 1000001 1000 default") 3 12 BadNumber
  pub limit_second_above : Faulty (codes "interface if0 hfsc\nclass hfsc if0 r NULL\nclass hfsc if0 a r ls 1 0 1 ul 1000 0 1000000000001 default") 3 13 RateRange
  pub percent_of_100 : Means (codes "interface if0 cbq\nclass cbq if0 r NULL\nclass cbq if0 a r exactbandwidth 1K pbandwidth 100 default") (codes "interface if0 bandwidth 100000000 cbq\nclass cbq if0 r NULL priority 0 exactbandwidth 100000000 maxburst 16 packetsize 1500 qlimit 50\nclass cbq if0 a r priority 0 exactbandwidth 100000000 maxburst 16 packetsize 1500 qlimit 50 default\n")
  pub percent_of_a_thousand : Means (codes "interface if0 bandwidth 100000 cbq\nclass cbq if0 r NULL pbandwidth 1 default") (codes "interface if0 bandwidth 100000 cbq\nclass cbq if0 r NULL priority 0 exactbandwidth 1000 maxburst 16 packetsize 1500 qlimit 50 default\n")
  pub percent_below_a_thousand : Faulty (codes "interface if0 bandwidth 99999 cbq\nclass cbq if0 r NULL pbandwidth 1 default") 2 7 RateRange

-- of two faults the earlier word, and at one word the order of the kinds
pub record OrdersAre : Type 0 where
  pub real_time_before_queue : Faulty (codes "interface if0 hfsc\nclass hfsc if0 r NULL\nclass hfsc if0 a r grate 1 ls 1 0 1 default\nclass hfsc if0 b a ls 1 0 1") 4 5 RealTimeInside
  pub queue_before_its_options : Faulty (codes "interface if0 hfsc\nclass hfsc if0 r NULL\nclass hfsc if0 a r ls 1 0 1 default\nclass hfsc if0 b a quick") 4 5 InnerQueue
  pub queue_before_the_filter : Faulty (codes "interface if0 hfsc\nclass hfsc if0 r NULL\nclass hfsc if0 a r ls 1 0 1\nfilter if0 r 0 0 0 0 256") 4 3 InnerQueue
  pub own_fault_of_a_filter : Faulty (codes "interface if0 hfsc\nclass hfsc if0 r NULL\nclass hfsc if0 a r ls 1 0 1\nfilter if0 a 0 0 0 0 256") 4 8 BadNumber
  pub option_before_the_class : Faulty (codes "interface if0 hfsc\nclass hfsc if0 r NULL\nclass hfsc if0 a r quick") 3 6 UnknownWord
  pub default_before_the_option : Faulty (codes "interface if0 hfsc\nclass hfsc if0 r NULL\nclass hfsc if0 a r default default quick") 3 7 TwoDefaults
  pub percent_before_the_option : Faulty (codes "interface if0 cbq\nclass cbq if0 r NULL\nclass cbq if0 a r pbandwidth 0 quick") 3 7 RateRange
  pub discipline_before_the_name : Faulty (codes "interface if0 hfsc\nclass hfsc if0 r NULL\nclass cbq if0 r r") 3 3 WrongDiscipline
  pub name_before_the_parent : Faulty (codes "interface if0 hfsc\nclass hfsc if0 r NULL\nclass hfsc if0 r x") 3 4 NameTaken
  pub share_at_the_end : Faulty (codes "interface if0 hfsc\nclass hfsc if0 r NULL\nclass hfsc if0 a r red") 3 7 NoShare
  pub no_default_after_all : Faulty (codes "interface if0 hfsc\nclass hfsc if0 r NULL\n") 1 0 NoDefault
  pub burst_before_the_rate : Faulty (codes "interface if0 cbq\nclass cbq if0 r NULL\nclass cbq if0 a r maxburst 0") 3 7 BadNumber
  pub spot_before_the_options : Faulty (codes "interface if0 hfsc\nclass hfsc if0 r NULL\nclass hfsc if0 a NULL quick") 3 5 TwoRoots
  pub option_before_the_default : Faulty (codes "interface if0 hfsc\nclass hfsc if0 r NULL\nclass hfsc if0 a r ls 0 0 0") 3 9 RateRange

-- a later option replaces an earlier one
pub record LaterAre : Type 0 where
  pub rt_then_grate : Means (codes "interface if0 hfsc\nclass hfsc if0 r NULL\nclass hfsc if0 a r default ls 1 0 1 rt 5 2 3 grate 7") (codes "interface if0 bandwidth 100000000 hfsc\nclass hfsc if0 r NULL qlimit 50\nclass hfsc if0 a r rt 7 0 7 ls 1 0 1 qlimit 50 default\n")
  pub grate_then_rt : Means (codes "interface if0 hfsc\nclass hfsc if0 r NULL\nclass hfsc if0 a r default ls 1 0 1 grate 7 rt 5 2 3") (codes "interface if0 bandwidth 100000000 hfsc\nclass hfsc if0 r NULL qlimit 50\nclass hfsc if0 a r rt 5 2 3 ls 1 0 1 qlimit 50 default\n")
  pub rt_then_sc : Means (codes "interface if0 hfsc\nclass hfsc if0 r NULL\nclass hfsc if0 a r default rt 5 2 3 sc 9 1 8") (codes "interface if0 bandwidth 100000000 hfsc\nclass hfsc if0 r NULL qlimit 50\nclass hfsc if0 a r rt 9 1 8 ls 9 1 8 qlimit 50 default\n")
  pub sc_then_rt : Means (codes "interface if0 hfsc\nclass hfsc if0 r NULL\nclass hfsc if0 a r default sc 9 1 8 rt 5 2 3") (codes "interface if0 bandwidth 100000000 hfsc\nclass hfsc if0 r NULL qlimit 50\nclass hfsc if0 a r rt 5 2 3 ls 9 1 8 qlimit 50 default\n")
  pub sc_then_ls : Means (codes "interface if0 hfsc\nclass hfsc if0 r NULL\nclass hfsc if0 a r default sc 9 1 8 ls 5 2 3") (codes "interface if0 bandwidth 100000000 hfsc\nclass hfsc if0 r NULL qlimit 50\nclass hfsc if0 a r rt 9 1 8 ls 5 2 3 qlimit 50 default\n")
  pub ls_then_sc : Means (codes "interface if0 hfsc\nclass hfsc if0 r NULL\nclass hfsc if0 a r default ls 5 2 3 sc 9 1 8") (codes "interface if0 bandwidth 100000000 hfsc\nclass hfsc if0 r NULL qlimit 50\nclass hfsc if0 a r rt 9 1 8 ls 9 1 8 qlimit 50 default\n")
  pub ls_then_pshare : Means (codes "interface if0 hfsc\nclass hfsc if0 r NULL\nclass hfsc if0 a r default ls 5 2 3 pshare 2") (codes "interface if0 bandwidth 100000000 hfsc\nclass hfsc if0 r NULL qlimit 50\nclass hfsc if0 a r ls 2000000 0 2000000 qlimit 50 default\n")
  pub pshare_then_ls : Means (codes "interface if0 hfsc\nclass hfsc if0 r NULL\nclass hfsc if0 a r default pshare 2 ls 5 2 3") (codes "interface if0 bandwidth 100000000 hfsc\nclass hfsc if0 r NULL qlimit 50\nclass hfsc if0 a r ls 5 2 3 qlimit 50 default\n")
  pub sc_then_pshare : Means (codes "interface if0 hfsc\nclass hfsc if0 r NULL\nclass hfsc if0 a r default sc 9 1 8 pshare 2") (codes "interface if0 bandwidth 100000000 hfsc\nclass hfsc if0 r NULL qlimit 50\nclass hfsc if0 a r rt 9 1 8 ls 2000000 0 2000000 qlimit 50 default\n")
  pub grate_then_sc : Means (codes "interface if0 hfsc\nclass hfsc if0 r NULL\nclass hfsc if0 a r default grate 7 sc 9 1 8") (codes "interface if0 bandwidth 100000000 hfsc\nclass hfsc if0 r NULL qlimit 50\nclass hfsc if0 a r rt 9 1 8 ls 9 1 8 qlimit 50 default\n")
  pub sc_then_grate : Means (codes "interface if0 hfsc\nclass hfsc if0 r NULL\nclass hfsc if0 a r default sc 9 1 8 grate 7") (codes "interface if0 bandwidth 100000000 hfsc\nclass hfsc if0 r NULL qlimit 50\nclass hfsc if0 a r rt 7 0 7 ls 9 1 8 qlimit 50 default\n")
  pub ul_twice : Means (codes "interface if0 hfsc\nclass hfsc if0 r NULL\nclass hfsc if0 a r default ls 1 0 1 ul 2000 3 1000 ul 4000 1 3000") (codes "interface if0 bandwidth 100000000 hfsc\nclass hfsc if0 r NULL qlimit 50\nclass hfsc if0 a r ls 1 0 1 ul 4000 1 3000 qlimit 50 default\n")
  pub qlimit_twice : Means (codes "interface if0 hfsc\nclass hfsc if0 r NULL\nclass hfsc if0 a r default ls 1 0 1 qlimit 7 qlimit 9") (codes "interface if0 bandwidth 100000000 hfsc\nclass hfsc if0 r NULL qlimit 50\nclass hfsc if0 a r ls 1 0 1 qlimit 9 default\n")
  pub red_then_ecn : Means (codes "interface if0 hfsc\nclass hfsc if0 r NULL\nclass hfsc if0 a r default ls 1 0 1 red ecn") (codes "interface if0 bandwidth 100000000 hfsc\nclass hfsc if0 r NULL qlimit 50\nclass hfsc if0 a r ls 1 0 1 qlimit 50 ecn default\n")
  pub ecn_then_red : Means (codes "interface if0 hfsc\nclass hfsc if0 r NULL\nclass hfsc if0 a r default ls 1 0 1 ecn red") (codes "interface if0 bandwidth 100000000 hfsc\nclass hfsc if0 r NULL qlimit 50\nclass hfsc if0 a r ls 1 0 1 qlimit 50 red default\n")
  pub rio_then_ecn : Means (codes "interface if0 hfsc\nclass hfsc if0 r NULL\nclass hfsc if0 a r default ls 1 0 1 rio ecn cleardscp") (codes "interface if0 bandwidth 100000000 hfsc\nclass hfsc if0 r NULL qlimit 50\nclass hfsc if0 a r ls 1 0 1 qlimit 50 ecn cleardscp default\n")
  pub ecn_then_rio : Means (codes "interface if0 hfsc\nclass hfsc if0 r NULL\nclass hfsc if0 a r default ls 1 0 1 cleardscp ecn rio") (codes "interface if0 bandwidth 100000000 hfsc\nclass hfsc if0 r NULL qlimit 50\nclass hfsc if0 a r ls 1 0 1 qlimit 50 rio cleardscp default\n")
  pub red_then_rio : Means (codes "interface if0 hfsc\nclass hfsc if0 r NULL\nclass hfsc if0 a r default ls 1 0 1 red rio") (codes "interface if0 bandwidth 100000000 hfsc\nclass hfsc if0 r NULL qlimit 50\nclass hfsc if0 a r ls 1 0 1 qlimit 50 rio default\n")
  pub rio_then_red : Means (codes "interface if0 hfsc\nclass hfsc if0 r NULL\nclass hfsc if0 a r default ls 1 0 1 rio red") (codes "interface if0 bandwidth 100000000 hfsc\nclass hfsc if0 r NULL qlimit 50\nclass hfsc if0 a r ls 1 0 1 qlimit 50 red default\n")
  pub percent_then_exact : Means (codes "interface if0 cbq\nclass cbq if0 r NULL\nclass cbq if0 a r default pbandwidth 50 exactbandwidth 3000") (codes "interface if0 bandwidth 100000000 cbq\nclass cbq if0 r NULL priority 0 exactbandwidth 100000000 maxburst 16 packetsize 1500 qlimit 50\nclass cbq if0 a r priority 0 exactbandwidth 3000 maxburst 16 packetsize 1500 qlimit 50 default\n")
  pub exact_then_percent : Means (codes "interface if0 cbq\nclass cbq if0 r NULL\nclass cbq if0 a r default exactbandwidth 3000 pbandwidth 50") (codes "interface if0 bandwidth 100000000 cbq\nclass cbq if0 r NULL priority 0 exactbandwidth 100000000 maxburst 16 packetsize 1500 qlimit 50\nclass cbq if0 a r priority 0 exactbandwidth 50000000 maxburst 16 packetsize 1500 qlimit 50 default\n")
  pub cbq_twice : Means (codes "interface if0 cbq\nclass cbq if0 r NULL\nclass cbq if0 a r default exactbandwidth 3K priority 1 priority 2 maxburst 3 maxburst 4 packetsize 5 packetsize 6") (codes "interface if0 bandwidth 100000000 cbq\nclass cbq if0 r NULL priority 0 exactbandwidth 100000000 maxburst 16 packetsize 1500 qlimit 50\nclass cbq if0 a r priority 2 exactbandwidth 3000 maxburst 4 packetsize 6 qlimit 50 default\n")
  pub pshare_then_sc : Means (codes "interface if0 hfsc\nclass hfsc if0 r NULL\nclass hfsc if0 a r default pshare 2 sc 9 1 8") (codes "interface if0 bandwidth 100000000 hfsc\nclass hfsc if0 r NULL qlimit 50\nclass hfsc if0 a r rt 9 1 8 ls 9 1 8 qlimit 50 default\n")
  pub rt_twice : Means (codes "interface if0 hfsc\nclass hfsc if0 r NULL\nclass hfsc if0 a r default ls 1 0 1 rt 5 2 3 rt 9 1 8") (codes "interface if0 bandwidth 100000000 hfsc\nclass hfsc if0 r NULL qlimit 50\nclass hfsc if0 a r rt 9 1 8 ls 1 0 1 qlimit 50 default\n")
  pub sc_twice : Means (codes "interface if0 hfsc\nclass hfsc if0 r NULL\nclass hfsc if0 a r default sc 5 2 3 sc 9 1 8") (codes "interface if0 bandwidth 100000000 hfsc\nclass hfsc if0 r NULL qlimit 50\nclass hfsc if0 a r rt 9 1 8 ls 9 1 8 qlimit 50 default\n")
  pub ls_twice : Means (codes "interface if0 hfsc\nclass hfsc if0 r NULL\nclass hfsc if0 a r default ls 5 2 3 ls 9 1 8") (codes "interface if0 bandwidth 100000000 hfsc\nclass hfsc if0 r NULL qlimit 50\nclass hfsc if0 a r ls 9 1 8 qlimit 50 default\n")
  pub pshare_twice : Means (codes "interface if0 hfsc\nclass hfsc if0 r NULL\nclass hfsc if0 a r default pshare 1 pshare 2") (codes "interface if0 bandwidth 100000000 hfsc\nclass hfsc if0 r NULL qlimit 50\nclass hfsc if0 a r ls 2000000 0 2000000 qlimit 50 default\n")
  pub grate_twice : Means (codes "interface if0 hfsc\nclass hfsc if0 r NULL\nclass hfsc if0 a r default ls 1 0 1 grate 7 grate 9") (codes "interface if0 bandwidth 100000000 hfsc\nclass hfsc if0 r NULL qlimit 50\nclass hfsc if0 a r rt 9 0 9 ls 1 0 1 qlimit 50 default\n")
  pub percent_twice : Means (codes "interface if0 cbq\nclass cbq if0 r NULL\nclass cbq if0 a r default pbandwidth 50 pbandwidth 2") (codes "interface if0 bandwidth 100000000 cbq\nclass cbq if0 r NULL priority 0 exactbandwidth 100000000 maxburst 16 packetsize 1500 qlimit 50\nclass cbq if0 a r priority 0 exactbandwidth 2000000 maxburst 16 packetsize 1500 qlimit 50 default\n")
  pub exact_twice : Means (codes "interface if0 cbq\nclass cbq if0 r NULL\nclass cbq if0 a r default exactbandwidth 3000 exactbandwidth 4000") (codes "interface if0 bandwidth 100000000 cbq\nclass cbq if0 r NULL priority 0 exactbandwidth 100000000 maxburst 16 packetsize 1500 qlimit 50\nclass cbq if0 a r priority 0 exactbandwidth 4000 maxburst 16 packetsize 1500 qlimit 50 default\n")

-- filters under their masks
pub record FiltersAre : Type 0 where
  pub under_its_masks : Means (codes "interface if0 hfsc\nclass hfsc if0 r NULL\nclass hfsc if0 a r ls 1 0 1 default\nfilter if0 a ruleno 4294967295 10.1.2.3 netmask 255.0.15.0 65535 0 0 icmp tos 0x1f tosmask 0x1c") (codes "interface if0 bandwidth 100000000 hfsc\nclass hfsc if0 r NULL qlimit 50\nclass hfsc if0 a r ls 1 0 1 qlimit 50 default\nfilter if0 a ruleno 4294967295 10.0.2.0 netmask 255.0.15.0 65535 0.0.0.0 netmask 0.0.0.0 0 1 tos 28 tosmask 28\n")
  pub under_its_prefix : Means (codes "interface if0 hfsc\nclass hfsc if0 r NULL\nclass hfsc if0 a r ls 1 0 1 default\nfilter6 if0 a fEff::10/12 0 ::1 0 udp tclass 255") (codes "interface if0 bandwidth 100000000 hfsc\nclass hfsc if0 r NULL qlimit 50\nclass hfsc if0 a r ls 1 0 1 qlimit 50 default\nfilter6 if0 a ruleno 0 fef0:0:0:0:0:0:0:0/12 0 0:0:0:0:0:0:0:1/128 0 17 tclass 255 tclassmask 255\n")
  pub ruleno_above : Faulty (codes "interface if0 hfsc\nclass hfsc if0 r NULL\nclass hfsc if0 a r ls 1 0 1 default\nfilter if0 a ruleno 4294967296 0 0 0 0 0") 4 5 BadNumber
  pub port_above : Faulty (codes "interface if0 hfsc\nclass hfsc if0 r NULL\nclass hfsc if0 a r ls 1 0 1 default\nfilter if0 a 0 65536 0 0 0") 4 5 BadNumber
  pub protocol_above : Faulty (codes "interface if0 hfsc\nclass hfsc if0 r NULL\nclass hfsc if0 a r ls 1 0 1 default\nfilter if0 a 0 0 0 0 256") 4 8 BadNumber
  pub type_above : Faulty (codes "interface if0 hfsc\nclass hfsc if0 r NULL\nclass hfsc if0 a r ls 1 0 1 default\nfilter if0 a 0 0 0 0 0 tos 256") 4 10 BadNumber
  pub mask_above : Faulty (codes "interface if0 hfsc\nclass hfsc if0 r NULL\nclass hfsc if0 a r ls 1 0 1 default\nfilter if0 a 0 0 0 0 0 tos 0 tosmask 256") 4 12 BadNumber
  pub prefix_above : Faulty (codes "interface if0 hfsc\nclass hfsc if0 r NULL\nclass hfsc if0 a r ls 1 0 1 default\nfilter6 if0 a ::/129 0 0 0 0") 4 4 BadAddress

-- which parts of a filter may stand where: an option only before what must be there next, a mask of an address only behind one that is
-- not `0`, a mask of the type of service only behind it
pub record PartsAre : Type 0 where
  pub mask_behind_each_address : Means (codes "interface if0 hfsc\nclass hfsc if0 r NULL\nclass hfsc if0 a r ls 1 0 1 default\nfilter if0 a 10.1.2.3 netmask 255.0.0.0 1 10.4.5.6 netmask 255.255.0.0 2 6") (codes "interface if0 bandwidth 100000000 hfsc\nclass hfsc if0 r NULL qlimit 50\nclass hfsc if0 a r ls 1 0 1 qlimit 50 default\nfilter if0 a ruleno 0 10.0.0.0 netmask 255.0.0.0 1 10.4.0.0 netmask 255.255.0.0 2 6\n")
  pub no_mask_is_needed : Means (codes "interface if0 hfsc\nclass hfsc if0 r NULL\nclass hfsc if0 a r ls 1 0 1 default\nfilter if0 a 10.1.2.3 1 10.4.5.6 2 6") (codes "interface if0 bandwidth 100000000 hfsc\nclass hfsc if0 r NULL qlimit 50\nclass hfsc if0 a r ls 1 0 1 qlimit 50 default\nfilter if0 a ruleno 0 10.1.2.3 netmask 255.255.255.255 1 10.4.5.6 netmask 255.255.255.255 2 6\n")
  pub no_mask_behind_any_target : Faulty (codes "interface if0 hfsc\nclass hfsc if0 r NULL\nclass hfsc if0 a r ls 1 0 1 default\nfilter if0 a 0 netmask 255.0.0.0 1 0 2 6") 4 5 BadNumber
  pub no_mask_behind_any_source : Faulty (codes "interface if0 hfsc\nclass hfsc if0 r NULL\nclass hfsc if0 a r ls 1 0 1 default\nfilter if0 a 0 1 0 netmask 255.0.0.0 2 6") 4 7 BadNumber
  pub mask_behind_the_source_alone : Means (codes "interface if0 hfsc\nclass hfsc if0 r NULL\nclass hfsc if0 a r ls 1 0 1 default\nfilter if0 a 0 1 10.4.5.6 netmask 255.255.0.0 2 6") (codes "interface if0 bandwidth 100000000 hfsc\nclass hfsc if0 r NULL qlimit 50\nclass hfsc if0 a r ls 1 0 1 qlimit 50 default\nfilter if0 a ruleno 0 0.0.0.0 netmask 0.0.0.0 1 10.4.0.0 netmask 255.255.0.0 2 6\n")
  pub mask_twice : Faulty (codes "interface if0 hfsc\nclass hfsc if0 r NULL\nclass hfsc if0 a r ls 1 0 1 default\nfilter if0 a 10.1.2.3 netmask 255.0.0.0 netmask 255.0.0.0 1 0 2 6") 4 7 BadNumber
  pub no_mask_in_filter6 : Faulty (codes "interface if0 hfsc\nclass hfsc if0 r NULL\nclass hfsc if0 a r ls 1 0 1 default\nfilter6 if0 a ::1 netmask 255.0.0.0 1 0 2 6") 4 5 BadNumber
  pub type_with_its_mask : Means (codes "interface if0 hfsc\nclass hfsc if0 r NULL\nclass hfsc if0 a r ls 1 0 1 default\nfilter if0 a 0 1 0 2 6 tos 31 tosmask 28") (codes "interface if0 bandwidth 100000000 hfsc\nclass hfsc if0 r NULL qlimit 50\nclass hfsc if0 a r ls 1 0 1 qlimit 50 default\nfilter if0 a ruleno 0 0.0.0.0 netmask 0.0.0.0 1 0.0.0.0 netmask 0.0.0.0 2 6 tos 28 tosmask 28\n")
  pub no_mask_without_its_type : Faulty (codes "interface if0 hfsc\nclass hfsc if0 r NULL\nclass hfsc if0 a r ls 1 0 1 default\nfilter if0 a 0 1 0 2 6 tosmask 28") 4 9 UnknownWord
  pub nothing_behind_the_last_mask : Faulty (codes "interface if0 hfsc\nclass hfsc if0 r NULL\nclass hfsc if0 a r ls 1 0 1 default\nfilter if0 a 0 1 0 2 6 tos 31 tosmask 28 tos") 4 13 UnknownWord
  pub type_twice : Faulty (codes "interface if0 hfsc\nclass hfsc if0 r NULL\nclass hfsc if0 a r ls 1 0 1 default\nfilter if0 a 0 1 0 2 6 tos 31 tos 28") 4 11 UnknownWord
  pub type_of_the_other_form : Faulty (codes "interface if0 hfsc\nclass hfsc if0 r NULL\nclass hfsc if0 a r ls 1 0 1 default\nfilter if0 a 0 1 0 2 6 tclass 31") 4 9 UnknownWord
  pub no_class_mask_without_its_class : Faulty (codes "interface if0 hfsc\nclass hfsc if0 r NULL\nclass hfsc if0 a r ls 1 0 1 default\nfilter6 if0 a 0 1 0 2 6 tclassmask 28") 4 9 UnknownWord
  pub name_then_rule_number : Means (codes "interface if0 hfsc\nclass hfsc if0 r NULL\nclass hfsc if0 a r ls 1 0 1 default\nfilter if0 a name x ruleno 7 0 1 0 2 6") (codes "interface if0 bandwidth 100000000 hfsc\nclass hfsc if0 r NULL qlimit 50\nclass hfsc if0 a r ls 1 0 1 qlimit 50 default\nfilter if0 a ruleno 7 0.0.0.0 netmask 0.0.0.0 1 0.0.0.0 netmask 0.0.0.0 2 6\n")
  pub name_alone : Means (codes "interface if0 hfsc\nclass hfsc if0 r NULL\nclass hfsc if0 a r ls 1 0 1 default\nfilter if0 a name x 0 1 0 2 6") (codes "interface if0 bandwidth 100000000 hfsc\nclass hfsc if0 r NULL qlimit 50\nclass hfsc if0 a r ls 1 0 1 qlimit 50 default\nfilter if0 a ruleno 0 0.0.0.0 netmask 0.0.0.0 1 0.0.0.0 netmask 0.0.0.0 2 6\n")
  pub name_behind_the_rule_number : Faulty (codes "interface if0 hfsc\nclass hfsc if0 r NULL\nclass hfsc if0 a r ls 1 0 1 default\nfilter if0 a ruleno 7 name x 0 1 0 2 6") 4 6 BadAddress
  pub name_twice : Faulty (codes "interface if0 hfsc\nclass hfsc if0 r NULL\nclass hfsc if0 a r ls 1 0 1 default\nfilter if0 a name x name y 0 1 0 2 6") 4 6 BadAddress
  pub end_before_the_protocol : Faulty (codes "interface if0 hfsc\nclass hfsc if0 r NULL\nclass hfsc if0 a r ls 1 0 1 default\nfilter if0 a 0 1 0 2") 4 8 MissingWord
  pub end_before_a_mask : Faulty (codes "interface if0 hfsc\nclass hfsc if0 r NULL\nclass hfsc if0 a r ls 1 0 1 default\nfilter if0 a 10.1.2.3 netmask") 4 6 MissingWord
  pub end_before_a_type : Faulty (codes "interface if0 hfsc\nclass hfsc if0 r NULL\nclass hfsc if0 a r ls 1 0 1 default\nfilter if0 a 0 1 0 2 6 tos") 4 10 MissingWord

-- conditioners: the numbers of each meter, which class may have one, and their lines in the order of the classes behind the filters
pub record ConditionersAre : Type 0 where
  pub of_one_rate : Means (codes "interface if0 hfsc\nclass hfsc if0 r NULL\nclass hfsc if0 a r ls 1 0 1 default\nconditioner if0 a srtcm 8M 1500 0x5dc 1") (codes "interface if0 bandwidth 100000000 hfsc\nclass hfsc if0 r NULL qlimit 50\nclass hfsc if0 a r ls 1 0 1 qlimit 50 default\nconditioner if0 a srtcm 8000000 1500 1500 1\n")
  pub of_two_rates : Means (codes "interface if0 hfsc\nclass hfsc if0 r NULL\nclass hfsc if0 a r ls 1 0 1 default\nconditioner if0 a trtcm 16M 2000 8M 1000 4") (codes "interface if0 bandwidth 100000000 hfsc\nclass hfsc if0 r NULL qlimit 50\nclass hfsc if0 a r ls 1 0 1 qlimit 50 default\nconditioner if0 a trtcm 16000000 2000 8000000 1000 4\n")
  pub no_excess_burst : Means (codes "interface if0 hfsc\nclass hfsc if0 r NULL\nclass hfsc if0 a r ls 1 0 1 default\nconditioner if0 a srtcm 1000 1 0 1") (codes "interface if0 bandwidth 100000000 hfsc\nclass hfsc if0 r NULL qlimit 50\nclass hfsc if0 a r ls 1 0 1 qlimit 50 default\nconditioner if0 a srtcm 1000 1 0 1\n")
  pub greatest_of_one_rate : Means (codes "interface if0 hfsc\nclass hfsc if0 r NULL\nclass hfsc if0 a r ls 1 0 1 default\nconditioner if0 a srtcm 1000G 1073741824 1073741824 4") (codes "interface if0 bandwidth 100000000 hfsc\nclass hfsc if0 r NULL qlimit 50\nclass hfsc if0 a r ls 1 0 1 qlimit 50 default\nconditioner if0 a srtcm 1000000000000 1073741824 1073741824 4\n")
  pub equal_rates : Means (codes "interface if0 hfsc\nclass hfsc if0 r NULL\nclass hfsc if0 a r ls 1 0 1 default\nconditioner if0 a trtcm 8M 1073741824 8M 1 1") (codes "interface if0 bandwidth 100000000 hfsc\nclass hfsc if0 r NULL qlimit 50\nclass hfsc if0 a r ls 1 0 1 qlimit 50 default\nconditioner if0 a trtcm 8000000 1073741824 8000000 1 1\n")
  pub peak_below_the_committed_rate : Faulty (codes "interface if0 hfsc\nclass hfsc if0 r NULL\nclass hfsc if0 a r ls 1 0 1 default\nconditioner if0 a trtcm 7999999 2000 8M 1000 1") 4 7 RateRange
  pub committed_rate_below : Faulty (codes "interface if0 hfsc\nclass hfsc if0 r NULL\nclass hfsc if0 a r ls 1 0 1 default\nconditioner if0 a srtcm 999 1500 0 1") 4 5 RateRange
  pub peak_above : Faulty (codes "interface if0 hfsc\nclass hfsc if0 r NULL\nclass hfsc if0 a r ls 1 0 1 default\nconditioner if0 a trtcm 1000000000001 2000 8M 1000 1") 4 5 RateRange
  pub no_burst : Faulty (codes "interface if0 hfsc\nclass hfsc if0 r NULL\nclass hfsc if0 a r ls 1 0 1 default\nconditioner if0 a srtcm 8M 0 0 1") 4 6 BadNumber
  pub burst_above : Faulty (codes "interface if0 hfsc\nclass hfsc if0 r NULL\nclass hfsc if0 a r ls 1 0 1 default\nconditioner if0 a srtcm 8M 1073741825 0 1") 4 6 BadNumber
  pub excess_burst_above : Faulty (codes "interface if0 hfsc\nclass hfsc if0 r NULL\nclass hfsc if0 a r ls 1 0 1 default\nconditioner if0 a srtcm 8M 1500 1073741825 1") 4 7 BadNumber
  pub no_peak_burst : Faulty (codes "interface if0 hfsc\nclass hfsc if0 r NULL\nclass hfsc if0 a r ls 1 0 1 default\nconditioner if0 a trtcm 8M 0 8M 1000 1") 4 6 BadNumber
  pub no_burst_below_the_peak : Faulty (codes "interface if0 hfsc\nclass hfsc if0 r NULL\nclass hfsc if0 a r ls 1 0 1 default\nconditioner if0 a trtcm 8M 2000 8M 0 1") 4 8 BadNumber
  pub no_class_of_forwarding : Faulty (codes "interface if0 hfsc\nclass hfsc if0 r NULL\nclass hfsc if0 a r ls 1 0 1 default\nconditioner if0 a srtcm 8M 1500 0 0") 4 8 BadNumber
  pub fifth_class_of_forwarding : Faulty (codes "interface if0 hfsc\nclass hfsc if0 r NULL\nclass hfsc if0 a r ls 1 0 1 default\nconditioner if0 a srtcm 8M 1500 0 5") 4 8 BadNumber
  pub no_meter : Faulty (codes "interface if0 hfsc\nclass hfsc if0 r NULL\nclass hfsc if0 a r ls 1 0 1 default\nconditioner if0 a red") 4 4 UnknownWord
  pub end_before_the_meter : Faulty (codes "interface if0 hfsc\nclass hfsc if0 r NULL\nclass hfsc if0 a r ls 1 0 1 default\nconditioner if0 a") 4 4 MissingWord
  pub end_before_the_class_of_forwarding : Faulty (codes "interface if0 hfsc\nclass hfsc if0 r NULL\nclass hfsc if0 a r ls 1 0 1 default\nconditioner if0 a trtcm 16M 2000 8M 1000") 4 9 MissingWord
  pub nothing_behind_it : Faulty (codes "interface if0 hfsc\nclass hfsc if0 r NULL\nclass hfsc if0 a r ls 1 0 1 default\nconditioner if0 a srtcm 8M 1500 0 1 default") 4 9 UnknownWord
  pub second : Faulty (codes "interface if0 hfsc\nclass hfsc if0 r NULL\nclass hfsc if0 a r ls 1 0 1 default\nconditioner if0 a srtcm 8M 1500 0 1\nconditioner if0 a trtcm x") 5 3 ConditionerTwice
  pub no_interface : Faulty (codes "interface if0 hfsc\nclass hfsc if0 r NULL\nclass hfsc if0 a r ls 1 0 1 default\nconditioner if1 a srtcm x") 4 2 NoInterface
  pub no_class : Faulty (codes "interface if0 hfsc\nclass hfsc if0 r NULL\nclass hfsc if0 a r ls 1 0 1 default\nconditioner if0 b srtcm x") 4 3 NoClass
  pub no_name : Faulty (codes "interface if0 hfsc\nclass hfsc if0 r NULL\nclass hfsc if0 a r ls 1 0 1 default\nconditioner if0 a, srtcm x") 4 3 BadByte
  pub inner_class : Faulty (codes "interface if0 hfsc\nclass hfsc if0 r NULL\nclass hfsc if0 a r ls 1 0 1 default\nconditioner if0 r srtcm x") 4 3 InnerQueue
  pub no_child_behind_it : Faulty (codes "interface if0 hfsc\nclass hfsc if0 r NULL\nclass hfsc if0 a r ls 1 0 1\nconditioner if0 a srtcm 8M 1500 0 1\nclass hfsc if0 b a ls 1 0 1 default") 5 5 InnerQueue
  pub order_of_classes_behind_filters : Means (codes "interface if0 cbq\nclass cbq if0 r NULL\nclass cbq if0 a r exactbandwidth 1K default\nconditioner if0 a srtcm 8M 1500 0 1\nconditioner if0 r srtcm 9M 1500 0 2\nfilter if0 a 0 1 0 2 6") (codes "interface if0 bandwidth 100000000 cbq\nclass cbq if0 r NULL priority 0 exactbandwidth 100000000 maxburst 16 packetsize 1500 qlimit 50\nclass cbq if0 a r priority 0 exactbandwidth 1000 maxburst 16 packetsize 1500 qlimit 50 default\nfilter if0 a ruleno 0 0.0.0.0 netmask 0.0.0.0 1 0.0.0.0 netmask 0.0.0.0 2 6\nconditioner if0 r srtcm 9000000 1500 0 2\nconditioner if0 a srtcm 8000000 1500 0 1\n")
  pub none_of_an_implied_class : Faulty (codes "interface if0 cbq\nconditioner if0 default srtcm x") 2 3 NoClass

-- the implied classes
pub record ImpliedAre : Type 0 where
  pub leaf_of_hfsc : class_of (codes "interface if0 bandwidth 8M hfsc") 1 ≡ Some (record { name = codes "default"; parent = Some 0; real = None; share = Some (record { m1 = 8000000; d = 0; m2 = 8000000 }); upper = None; rate = 0; priority = 0; borrow = false; control = false; maxburst = 0; packetsize = 0; limit = 50; drop = Tail; clear = false; is_default = true; meter = None })
  pub root_of_hfsc : class_of (codes "interface if0 bandwidth 8M hfsc") 0 ≡ Some (record { name = codes "root"; parent = None; real = None; share = None; upper = None; rate = 0; priority = 0; borrow = false; control = false; maxburst = 0; packetsize = 0; limit = 50; drop = Tail; clear = false; is_default = false; meter = None })
  pub leaf_of_cbq : class_of (codes "interface if0 bandwidth 8M cbq") 1 ≡ Some (record { name = codes "default"; parent = Some 0; real = None; share = None; upper = None; rate = 8000000; priority = 0; borrow = true; control = false; maxburst = 16; packetsize = 1500; limit = 50; drop = Tail; clear = false; is_default = true; meter = None })
  pub root_of_cbq : class_of (codes "interface if0 bandwidth 8M cbq") 0 ≡ Some (record { name = codes "root"; parent = None; real = None; share = None; upper = None; rate = 8000000; priority = 0; borrow = false; control = false; maxburst = 16; packetsize = 1500; limit = 50; drop = Tail; clear = false; is_default = false; meter = None })
