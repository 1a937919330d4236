-- Each part of a statement leads from where it comes next to where the part behind it does.
use Rattle.std.proofs.Common.{◌≡◌, ◌∙◌, ℕ, ◌+◌, false, List, ◌++◌, drop, take, Result, Ok, Err, refl, sym, codes}
use Rattle.std.proofs.Math.Bool.{or-false}
use Rattle.conf_lines.proofs.GrammarPlaces.{at_interface_name}
use Rattle.conf_lines.specs.Grammar.{Place, as_read, at_part as at_first, end, reads, step}
use Rattle.conf_lines.specs.Options.{slots_of}
use Rattle.conf_lines.specs.Parts.{parts_of, reach}
use Rattle.conf_lines.specs.Slots.{are_plain, is_text, whole_in}
use Rattle.conf_lines.specs.declared.fault.ConfKind.{ConfKind}
use Rattle.conf_lines.specs.declared.item.What.{What}
use Rattle.conf_lines.specs.declared.item.What.TheVariants as what
use Rattle.conf_lines.specs.declared.options.Key.{Key}
use Rattle.conf_lines.specs.declared.options.Key.TheVariants as key
use Rattle.conf_lines.specs.declared.options.Slots.TheVariants as slots
use Rattle.conf_lines.specs.declared.statement.Form.{Form}
use Rattle.conf_lines.specs.declared.statement.Form.TheVariants as form
use Rattle.conf_grammar.proofs.Addresses.{address6_leads, address_leads}
use Rattle.conf_grammar.proofs.Leads.{Ends, Leads, ◌>>◌}
use Rattle.conf_grammar.proofs.Many.{Written}
use Rattle.conf_grammar.proofs.OneWord.{name_by, protocol_by, whole_by, whole_taken}
use Rattle.conf_grammar.proofs.Optionals.{Closes, MayStand, closed, maybe_ends, maybe_leads}
use Rattle.conf_grammar.proofs.Places.{IsErr, by_text, resumed, wanting}
use Rattle.conf_grammar.proofs.Values.{values_lead}
use Rattle.conf_grammar.specs.Phrases.{◌▷◌, Maybe}
use Rattle.conf_grammar.specs.Spells.{Address, Address6, Port, Rule}
use Rattle.conf_grammar.specs.Words.{Name, Phrase, Protocol}

-- where the parts from one on are still to come
abbrev pub at_part : Form → ℕ → Place
at_part f n = record (at_interface_name f) { parts = drop n (parts_of f) }

-- k parts of a filter, from number n on, in front of those of a place: each part that statements share is one of a filter too
abbrev pub in_front : ℕ → ℕ → Place → Place
in_front n k q = record (resumed q) { parts = take k (drop n (parts_of form.Filter)) ++ q.parts }

-- WORDS THAT MUST BE THERE
abbrev pub at_name : Place → Place
at_name q = in_front 0 1 q

abbrev pub at_port : Place → Place
at_port q = in_front 6 1 q

abbrev pub at_protocol : Place → Place
at_protocol q = in_front 10 1 q

pub name_part : (q : Place) → Leads q.form Name (at_name q) (resumed q)
unfolding step end
name_part q = name_by q.form (at_name q) (resumed q) (λ w. refl) (λ e. cc)

pub port_part : (q : Place) → Leads q.form Port (at_port q) (resumed q)
unfolding step end
port_part q = whole_by q.form 0 65535 (at_port q) (resumed q) (λ w. whole_taken (resumed q) (whole_in 0 65535 w)) (λ e. cc)

pub protocol_part : (q : Place) → Leads q.form Protocol (at_protocol q) (resumed q)
unfolding step end
protocol_part q = protocol_by q.form (at_protocol q) (resumed q) (λ w. refl) (λ e. cc)

-- ADDRESSES, each with a port behind it, which is read alike behind the address `0` and behind any other
either_way : (q : Place) (r : Result What ConfKind) → reads r (record q { stands = false }) ≡ reads r q
either_way q (Ok x) = refl
either_way q (Err kind) = refl

abbrev pub at_mask : Place → Place
at_mask q = in_front 5 1 (at_port q)

abbrev pub at_address : Place → Place
at_address q = in_front 4 2 (at_port q)

mask_stands : (q : Place) → MayStand key.Netmask (at_mask q) (wanting slots.Mask (at_port q)) (at_port q)
unfolding step end is_text whole_in are_plain
mask_stands q =
    record { form = refl; named = λ w e. rw (e, or-false q.completed) refl; other = λ w e. rw e refl; ends = refl; refused = tt }

pub address_part : (q : Place) → Leads q.form Address (at_address q) (at_port q)
unfolding step end
address_part q =
    address_leads
    (record {
      steps = λ w. refl;
      unended = λ e. cc;
      zero_same = record { form = refl; steps = λ w. either_way (resumed q) (as_read what.Whole (whole_in 0 65535 w)); ends = refl };
    })
    (maybe_leads key.Netmask (at_mask q) (wanting slots.Mask (at_port q)) (at_port q) (mask_stands q) (values_lead slots.Mask (at_port q)))

abbrev pub at_address6 : Place → Place
at_address6 q = record (at_port q) { parts = take 1 (drop 4 (parts_of form.Filter6)) ++ (at_port q).parts }

pub address6_part : (q : Place) → Leads q.form Address6 (at_address6 q) (at_port q)
unfolding step end
address6_part q =
    address6_leads
    (record {
      steps = λ w. refl;
      unended = λ e. cc;
      zero_same = record { form = refl; steps = λ w. either_way (resumed q) (as_read what.Whole (whole_in 0 65535 w)); ends = refl };
    })
    (record { form = refl; steps = λ w. refl; ends = refl })

-- [name WORD] [ruleno WHOLE], and the rest from q on, which has neither word, and which is read alike whether they stand or not
abbrev pub at_ruleno : Place → Place
at_ruleno q = in_front 3 1 q

abbrev pub at_rule : Place → Place
at_rule q = in_front 2 2 q

pub record Unruled (q : Place) : Type 0 where
  pub behind_name : (w : List ℕ) → at_first (reach false q.parts w) (at_rule q) w ≡ step (resumed q) w
  pub behind_ruleno : (w : List ℕ) → at_first (reach false q.parts w) (at_ruleno q) w ≡ step (resumed q) w
  pub name : IsErr (step (resumed q) (codes "name"))
  pub ruleno : IsErr (step (resumed q) (codes "ruleno"))

name_stands : (q : Place) → Unruled q → MayStand key.Name (at_rule q) (wanting slots.Word (at_ruleno q)) (at_ruleno q)
unfolding step end is_text
name_stands q u = record {
  form = refl;
  named = λ w e. rw (e, or-false q.completed) refl;
  other = λ w e. by_text (codes "ruleno") w (λ f. rw (e, f) refl) (λ f. rw (e, f) (u.behind_name w ∙ sym (u.behind_ruleno w)));
  ends = refl;
  refused = rw (u.behind_ruleno (codes "name")) u.name;
}

ruleno_stands : (q : Place) → Unruled q → MayStand key.Ruleno (at_ruleno q) (wanting (slots_of key.Ruleno) (resumed q)) (resumed q)
unfolding step end is_text
ruleno_stands q u =
    record { form = refl; named = λ w e. rw (e, or-false q.completed) refl; other = λ w e. rw e (u.behind_ruleno w); ends = refl; refused = u.ruleno }

pub rule_ends : {Rest : Phrase} (q : Place) → Unruled q → Ends q.form Rest (resumed q) → Ends q.form (Rule Rest) (at_rule q)
rule_ends q u rest =
    maybe_leads key.Name (at_rule q) (wanting slots.Word (at_ruleno q)) (at_ruleno q) (name_stands q u) (values_lead slots.Word (at_ruleno q))
    >> maybe_leads key.Ruleno (at_ruleno q) (wanting (slots_of key.Ruleno) (resumed q)) (resumed q) (ruleno_stands q u)
    (values_lead (slots_of key.Ruleno) (resumed q))
    >> rest

-- THE LAST OPTIONS: one, and another behind it
pub last_options : (f : Form) (n : ℕ) (j k : Key) → MayStand j (at_part f n) (wanting (slots_of j) (at_part f (n + 1))) (at_part f (n + 1 + 1))
    → MayStand k (at_part f (n + 1)) (wanting (slots_of k) (at_part f (n + 1 + 1))) (at_part f (n + 1 + 1)) → Closes f (at_part f (n + 1 + 1))
    → Ends f (Maybe (Written j ▷ Maybe (Written k))) (at_part f n)
last_options f n j k first second closes =
    let one = at_part f (n + 1) in
    let two = at_part f (n + 1 + 1) in
    maybe_ends j (at_part f n) (wanting (slots_of j) one) one two first closes (values_lead (slots_of j) one)
    (closed one two (maybe_leads k one (wanting (slots_of k) two) two second (values_lead (slots_of k) two)) closes)
