-- How a line is read word by word: where its items and its fault stand.
use Rattle.std.proofs.Common.{◌≡◌, ℕ, ◌+◌, ◌≤◌, List, [], ◌∷◌, ◌++◌, append_assoc, Option, Some, None, Result, Ok, Err, refl, ap, ◌∙◌, arith}
use Rattle.conf_lines.specs.declared.fault.ConfKind.{ConfKind}
use Rattle.conf_lines.specs.declared.fault.ConfPlace.{ConfPlace}
use Rattle.conf_lines.specs.declared.grammar.Place as code_place
use Rattle.conf_lines.specs.declared.grammar.Refusal.{Refusal}
use Rattle.conf_lines.specs.declared.grammar.Refusal.TheVariants.{Kind, NoMemory}
use Rattle.conf_lines.specs.declared.item.Item.{Item}
use Rattle.conf_lines.specs.declared.item.What.{What}
use Rattle.conf_lines.specs.Grammar.{Place, Step, Fails, seen, step, end}
use Rattle.conf_lines.specs.Texts.{Reading, Takes, fault_at, stops, item_of, behind, read_from}

-- what a word that leads there, or to a fault, makes of a line
abbrev pub past : ℕ → List (List ℕ) → Place → ℕ → Result Step ConfKind → Reading
past line words place at r =
    elim r [
      | Ok taken ↦ behind (item_of at taken.what) (read_from line words taken.after (at + 1))
      | Err kind ↦ stops place (fault_at line at (Some kind))
    ]

-- what holds of a reading that stops, and of one behind a word if it does of the rest, holds of each reading
module _ (line : ℕ) (P : ℕ → Reading → Type 0) (stop : (place : Place) (at : ℕ) (o : Option ConfKind) → P at (stops place (fault_at line at o)))
    (more : (at : ℕ) (o : Option What) (r : Reading) → P (at + 1) r → P at (behind (item_of at o) r)) where
  by_step : (words : List (List ℕ)) (place : Place) (at : ℕ) (r : Result Step ConfKind) → ((to : Place) → P (at + 1) (read_from line words to (at + 1)))
      → P at (past line words place at r)
  by_step words place at (Ok taken) k = more at taken.what (read_from line words taken.after (at + 1)) (k taken.after)
  by_step words place at (Err kind) k = stop place at (Some kind)

  each_reading : (words : List (List ℕ)) (place : Place) (at : ℕ) → P at (read_from line words place at)
  each_reading [] place at = stop place at (end place)
  each_reading (word ∷ words) place at = by_step words place at (step place word) (λ to. each_reading words to (at + 1))

-- its fault stands on its line
abbrev pub IsOn : ℕ → Option ConfPlace → Type 0
IsOn line None = Unit {0}
IsOn line (Some fault) = fault.line ≡ line

on_line : (line at : ℕ) (o : Option ConfKind) → IsOn line (fault_at line at o)
on_line line at None = tt
on_line line at (Some kind) = refl

pub faults_on_line : (line : ℕ) (words : List (List ℕ)) (place : Place) (at : ℕ) → IsOn line (read_from line words place at).fault
faults_on_line line = each_reading line (λ at r. IsOn line r.fault) (λ place at o. on_line line at o) (λ at o r k. k)

-- what stands from a word on
abbrev pub IsLate : ℕ → Option ConfPlace → Type 0
IsLate m None = Unit {0}
IsLate m (Some fault) = m ≤ fault.word

abbrev pub AreLate : ℕ → List Item → Type 0
AreLate m [] = Unit {0}
AreLate m (item ∷ items) = (m ≤ item.word) × AreLate m items

pub record AllLate (m : ℕ) (r : Reading) : Type 0 where
  pub items : AreLate m r.items
  pub fault : IsLate m r.fault

fault_late : (line at : ℕ) (o : Option ConfKind) → IsLate at (fault_at line at o)
fault_late line at None = tt
fault_late line at (Some kind) = omega arith

less_late : (m : ℕ) (items : List Item) → AreLate (m + 1) items → AreLate m items
less_late m [] k = tt
less_late m (item ∷ items) k = (omega (arith, k.0), less_late m items k.1)

less_fault : (m : ℕ) (o : Option ConfPlace) → IsLate (m + 1) o → IsLate m o
less_fault m None k = tt
less_fault m (Some fault) k = omega arith

more_late : (at : ℕ) (o : Option What) (r : Reading) → AllLate (at + 1) r → AllLate at (behind (item_of at o) r)
more_late at None r k = record { items = less_late at r.items k.items; fault = less_fault at r.fault k.fault }
more_late at (Some says) r k = record { items = (omega arith, less_late at r.items k.items); fault = less_fault at r.fault k.fault }

pub late_from : (line : ℕ) (words : List (List ℕ)) (place : Place) (at : ℕ) → AllLate at (read_from line words place at)
late_from line = each_reading line AllLate (λ place at o. record { items = tt; fault = fault_late line at o }) more_late

-- the place and the item of a word that leads somewhere
pub taken : (place : Place) (after : code_place.Place) (word : List ℕ) (what : Option What) (at : ℕ) (old new : List Item)
    → step place word ≡ Ok (record { what = what; after = seen after }) → new ≡ old ++ item_of at what → Takes at place word old new (Ok after)
taken place after word what at old new e n line words =
    ap (λ (r : Result Step ConfKind). behind old (past line words place at r)) e ∙ rw (n, append_assoc) refl

-- a word that is refused, or for which there was no memory
pub refused : (place : Place) (word : List ℕ) (refusal : Refusal) (at : ℕ) (items : List Item) → Fails refusal (step place word)
    → Takes at place word items items (Err refusal)
refused place word (Kind kind) at items e = λ line words. ap (λ (r : Result Step ConfKind). behind items (past line words place at r)) e
refused place word NoMemory at items e = tt
