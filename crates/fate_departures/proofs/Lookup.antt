-- The captured bytes of a number.
use Rattle.std.proofs.Common.{◌≡◌, ◌∙◌, ◌++◌, ℕ, Bool, List, length, ap, sym}
use Rattle.capture_model.specs.Header.{record_header}
use Rattle.capture_model.specs.Written.{record_text}
use Rattle.altq_model.specs.Departures.{Dressing}
use Rattle.fate_check.specs.declared.reading.Row.{Row}
use Rattle.fate_departures.specs.Departures.{leaving}
use Rattle.fate_departures.specs.Frames.{Packets, frame_of}

-- the text of a record, by its parts
pub text_is : (dress : Dressing) (p : Packets) (r : Row) (end : ℕ) (marked : Bool) (frame head bytes : List ℕ) → frame ≡ frame_of p r.number
    → length (dress r.class marked frame) ≡ length frame → head ≡ record_header end (length frame) r.len → bytes ≡ dress r.class marked frame
    → head ++ bytes ≡ record_text (leaving dress p r end marked)
text_is dress p r end marked frame head bytes f long h b =
    ap (λ (xs : List ℕ). xs ++ bytes) (h ∙ ap (λ (n : ℕ). record_header end n r.len) (sym long))
    ∙ ap (λ (xs : List ℕ). record_header end (length (dress r.class marked frame)) r.len ++ xs) b
    ∙ ap (λ (xs : List ℕ). record_text (record { stamp = end; captured = dress r.class marked xs; original = r.len })) f
