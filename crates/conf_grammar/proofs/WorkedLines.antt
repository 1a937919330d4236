-- The worked lines, put together by the grammar.
use Rattle.std.proofs.Common.{◌≡◌, ◌^◌, ◌-◌, ℕ, true, List, Some, None, refl, ap, arith, nat_le, leb-true, codes}
use Rattle.line_text.specs.Numbers.{rate_of, whole_of}
use Rattle.line_text.specs.Words.{words_of}
use Rattle.conf_lines.specs.Grammar.{at_discipline, at_parent, at_statement, end, start, step}
use Rattle.conf_lines.specs.Slots.{address6_in, address_in, are_plain, is_text, name_in, rate_in, whole_in}
use Rattle.conf_lines.specs.Texts.{Reading, read_from}
use Rattle.conf_lines.specs.declared.item.What.{What}
use Rattle.conf_lines.specs.declared.statement.Form.{Form}
use Rattle.conf_lines.specs.declared.statement.Form.TheVariants as form
use Rattle.conf_grammar.proofs.Statements.{spelled_is_read}
use Rattle.conf_grammar.specs.Options.{admission, bandwidth, default, ecn, hfsc, ls, hfsc_shared, cbq_shared, qlimit, rt, tbrsize, ul}
use Rattle.conf_grammar.specs.Phrases.{then, first, second, absent, present, fixed, option, none, more}
use Rattle.conf_grammar.specs.Rows.{Says, SaysNothing, conditioner_says, filter6_says, filter_says, hfsc_says, interface_says, root_says}
use Rattle.conf_grammar.specs.Spells.{Spells, below, needing, root}
use Rattle.conf_grammar.specs.Words.{IsRate, IsWhole, by_number, curve, ip4, name, nothing, rate, two_rates, whole, with_length, word, zero_address}

is_rate : (low high : ℕ) (w : List ℕ) (n : ℕ) → are_plain w ≡ true → rate_of w ≡ Some n → nat_le low n ≡ true → nat_le n high ≡ true → IsRate low high w n
is_rate low high w n plain is least most = record { plain = plain; is = is; least = leb-true low n least; most = leb-true n high most }

is_whole : (low high : ℕ) (w : List ℕ) (n : ℕ) → are_plain w ≡ true → whole_of w ≡ Some n → nat_le low n ≡ true → nat_le n high ≡ true → IsWhole low high w n
is_whole low high w n plain is least most = record { plain = plain; is = is; least = leb-true low n least; most = leb-true n high most }

pub interface_line : Says (Spells form.Interface) (codes "interface if0 bandwidth 9.5M tbrsize auto hfsc") interface_says
unfolding are_plain
interface_line =
    then fixed (then (name refl) (needing
    (more (bandwidth (option (rate (is_rate 1000 (10 ^ 12) (codes "9.5M") 9500000 refl refl refl refl))))
    (more (tbrsize (option (word refl))) (more (hfsc (option nothing)) none))) refl))

pub hfsc_line : Says (Spells form.ClassHfsc) (codes "class hfsc if0 data root rt 0 10 2M [ls 3M 0 3M] ul 6M 20 4M ecn admission none default") hfsc_says
unfolding are_plain
hfsc_line =
    then fixed (then fixed (then (name refl) (then (name refl) (below refl (needing
    (more (rt (option (curve (is_rate 0 (10 ^ 12) (codes "0") 0 refl refl refl refl) (is_whole 0 1000000 (codes "10") 10 refl refl refl refl)
    (is_rate 0 (10 ^ 12) (codes "2M") 2000000 refl refl refl refl) (λ some slope. absurd (omega (arith, slope))))))
    (more (ls (option (curve (is_rate 0 (10 ^ 12) (codes "3M") 3000000 refl refl refl refl) (is_whole 0 1000000 (codes "0") 0 refl refl refl refl)
    (is_rate 1 (10 ^ 12) (codes "3M") 3000000 refl refl refl refl) (λ some slope. omega arith))))
    (more (ul (option (curve (is_rate 1000 (10 ^ 12) (codes "6M") 6000000 refl refl refl refl) (is_whole 0 1000000 (codes "20") 20 refl refl refl refl)
    (is_rate 1000 (10 ^ 12) (codes "4M") 4000000 refl refl refl refl) (λ some slope. omega arith))))
    (more (hfsc_shared (ecn (option nothing))) (more (hfsc_shared (admission (option (word refl))))
    (more (hfsc_shared (default (option nothing))) none)))))) refl)))))

pub root_line : Says (Spells form.ClassCbq) (codes "class cbq if1 root NULL qlimit 0x14") root_says
unfolding are_plain
root_line =
    then fixed (then fixed (then (name refl) (then (name refl) (root
    (more (cbq_shared (qlimit (option (whole (is_whole 1 10000 (codes "0x14") 20 refl refl refl refl))))) none)))))

pub filter_line : Says (Spells form.Filter)
    (codes "filter if0 voice name calls ruleno 10 10.0.0.0 netmask 255.0.0.0 0 0 5060 17 tos 0xB8") filter_says
unfolding are_plain
filter_line =
    then fixed (then (name refl) (then (name refl)
    (then (present (option (word refl))) (then (present (option (whole (is_whole 0 (2 ^ 32 - 1) (codes "10") 10 refl refl refl refl))))
    (then (second (then (ip4 refl refl) (present (option (ip4 refl refl))))) (then (whole (is_whole 0 65535 (codes "0") 0 refl refl refl refl))
    (then (first zero_address) (then (whole (is_whole 0 65535 (codes "5060") 5060 refl refl refl refl))
    (then (by_number (is_whole 0 255 (codes "17") 17 refl refl refl refl))
    (present (then (option (whole (is_whole 0 255 (codes "0xB8") 184 refl refl refl refl))) absent)))))))))))

pub filter6_line : Says (Spells form.Filter6) (codes "filter6 if0 voice ::1/64 5004 0 0 58") filter6_says
unfolding are_plain
filter6_line =
    then fixed (then (name refl) (then (name refl) (then absent (then absent
    (then (second (with_length refl refl refl refl (omega arith))) (then (whole (is_whole 0 65535 (codes "5004") 5004 refl refl refl refl))
    (then (first zero_address) (then (whole (is_whole 0 65535 (codes "0") 0 refl refl refl refl))
    (then (by_number (is_whole 0 255 (codes "58") 58 refl refl refl refl)) absent)))))))))

pub conditioner_line : Says (Spells form.Conditioner) (codes "conditioner if0 data trtcm 16M 2000 8M 1000 4") conditioner_says
unfolding are_plain
conditioner_line =
    then fixed (then (name refl) (then (name refl) (then (second (option (two_rates
    (is_rate 1000 (10 ^ 12) (codes "16M") 16000000 refl refl refl refl) (is_whole 1 (2 ^ 30) (codes "2000") 2000 refl refl refl refl)
    (is_rate 1000 16000000 (codes "8M") 8000000 refl refl refl refl) (is_whole 1 (2 ^ 30) (codes "1000") 1000 refl refl refl refl))))
    (whole (is_whole 1 4 (codes "4") 4 refl refl refl refl)))))

-- LINES THAT SPELL NOTHING: the reading, which is the grammar, has a fault
pub refuted : (form : Form) (words : List (List ℕ)) → ((read_from 1 words start 1).fault ≡ None → ⊥) → (says : List What) → Spells form words says → ⊥
refuted form words fault says x = fault (ap (λ (r : Reading). r.fault) (spelled_is_read 1 form words says x))

pub rate_below : SaysNothing (Spells form.Interface) (codes "interface if0 bandwidth 999 hfsc")
unfolding is_text are_plain rate_in name_in at_statement step end
rate_below = refuted form.Interface (words_of (codes "interface if0 bandwidth 999 hfsc")) (λ e. cc)

pub class_without_share : SaysNothing (Spells form.ClassHfsc) (codes "class hfsc if0 a root rt 0 10 2M")
unfolding is_text are_plain rate_in whole_in name_in at_statement at_discipline at_parent step end
class_without_share = refuted form.ClassHfsc (words_of (codes "class hfsc if0 a root rt 0 10 2M")) (λ e. cc)

pub rate_left_out : SaysNothing (Spells form.ClassCbq) (codes "class cbq if0 a root borrow")
unfolding is_text are_plain name_in at_statement at_discipline at_parent step end
rate_left_out = refuted form.ClassCbq (words_of (codes "class cbq if0 a root borrow")) (λ e. cc)

pub mask_behind_zero : SaysNothing (Spells form.Filter) (codes "filter if0 a 0 netmask 255.0.0.0 0 0 0 17")
unfolding is_text are_plain whole_in name_in address_in at_statement step end
mask_behind_zero = refuted form.Filter (words_of (codes "filter if0 a 0 netmask 255.0.0.0 0 0 0 17")) (λ e. cc)

pub prefix_too_long : SaysNothing (Spells form.Filter6) (codes "filter6 if0 a ::1/129 0 0 0 17")
unfolding is_text are_plain name_in address6_in at_statement step end
prefix_too_long = refuted form.Filter6 (words_of (codes "filter6 if0 a ::1/129 0 0 0 17")) (λ e. cc)

pub committed_above_peak : SaysNothing (Spells form.Conditioner) (codes "conditioner if0 a trtcm 8M 1500 9M 1500 1")
unfolding is_text are_plain rate_in whole_in name_in at_statement step end
committed_above_peak = refuted form.Conditioner (words_of (codes "conditioner if0 a trtcm 8M 1500 9M 1500 1")) (λ e. cc)
