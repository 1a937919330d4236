-- What the fields of a row hold.
use Rattle.fate_check.specs.declared.parse.RowFields.{RowFields}
use Rattle.fate_check.specs.Parse.{Texts}

abbrev pub texts_in : RowFields → Texts
texts_in f = record { number = f.number.now; at = f.at.now; len = f.len.now; class = f.class.now; word = f.word.now; start = f.start.now; end = f.end.now }
