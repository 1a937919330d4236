-- How the `Head` that the code reads gives the form of a capture.
use Rattle.capture_model.specs.Capture.{Form}
use Rattle.pcap_files.specs.declared.form.Head.{Head}

-- the form that a `Head` gives
abbrev pub form : Head → Form
form h = record { big = h.big; nanos = h.nanos }
