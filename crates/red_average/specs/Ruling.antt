-- What follows from an average (Floyd and Jacobson 1993, section 4). A difference of natural numbers is 0 where it would be less.
use Rattle.std.specs.Prelude.{◌≡◌, ◌≤◌, ℕ, ◌+◌, ◌-◌, ◌*◌, ◌^◌, ◌==◌, nat_lt, nat_le, min, Bool, if◌then◌else◌, ℤ, pos, negsuc, ◌+ℤ◌, ◌*ℤ◌, ◌<ℤ◌}
use Rattle.altq_model.specs.declared.Reason.{Reason}
use Rattle.altq_model.specs.declared.Reason.TheVariants.{Full, Early, Forced}
use Rattle.altq_model.specs.declared.Verdict.TheVariants.{Keep, Drop}
use Rattle.red_average.specs.declared.ruling.Thresholds.{Thresholds}
use Rattle.red_average.specs.declared.ruling.Ruling.{Ruling}

-- a ruling, and how many random words were drawn for it
pub record Ruled : Type 0 where
  pub ruling : Ruling
  pub took : ℕ

-- a drop begins the count anew
abbrev pub dropped : Reason → (took : ℕ) → Ruled
dropped reason took = record { ruling = record { verdict = Drop reason; count = pos 0 }; took = took }

abbrev pub kept : (count : ℤ) → (took : ℕ) → Ruled
kept count took = record { ruling = record { verdict = Keep; count = count }; took = took }

-- the count after one packet more: 0 after -1; it stays at 2^62
abbrev pub next_count : ℤ → ℕ
next_count (pos c) = min (c + 1) (2 ^ 62)
next_count (negsuc c) = 0

-- the greatest chance of an early drop is one in ten
abbrev pub spacing : (width : ℕ) → ℕ
spacing width = 10 * width

-- a word drops the packet where word / 2^32 is below over / spacing_left
abbrev pub by_word : (spacing_left over word count : ℕ) → Ruled
by_word spacing_left over word count = if nat_lt (word * spacing_left) (2 ^ 32 * over) then dropped Early 1 else kept (pos count) 1

-- without room it is dropped, and no word is drawn
abbrev pub by_spacing : (spacing_left over word count : ℕ) → Ruled
by_spacing spacing_left over word count = if spacing_left == 0 then dropped Early 0 else by_word spacing_left over word count

-- an average between the thresholds
abbrev pub between : Thresholds → (average : ℕ) → (count : ℤ) → (word : ℕ) → Ruled
between t a c word = by_spacing (spacing (t.high - t.low) - next_count c * (a - t.low)) (a - t.low) word (next_count c)

-- the test for a full queue comes first, then those of the average
abbrev pub ruled : Thresholds → (full : Bool) → (average : ℕ) → (count : ℤ) → (word : ℕ) → Ruled
ruled t full a c word =
    if full then dropped Full 0
    else if nat_lt a t.low then kept (negsuc 0) 0
    else if nat_le t.high a then dropped Forced 0
    else between t a c word

-- Where a packet is kept at an average of x or more over the lower threshold, it is counted, and the count times x is below the
-- spacing. So of ceil(spacing / x) + 1 such packets in a row at least one is dropped, or, where drops become marks, dropped or
-- marked.
abbrev pub KeepsCount : Thresholds → (average : ℕ) → (count : ℤ) → Ruling → Type 0
KeepsCount t a c r = (x : ℕ) → 1 ≤ x → t.low + x ≤ a → r.verdict ≡ Keep
    → (r.count ≡ c +ℤ pos 1) × ((r.count *ℤ pos x) <ℤ pos (spacing (t.high - t.low)))
