-- A writer of comma-separated values between two rows.
use Rattle.std.specs.Prelude.{◌≡◌, [], false}
use Rattle.csv.specs.declared.writer.Writer.{Writer}
use Rattle.csv.specs.Writing.{default_writer, writer_setup, writer_pending, fields_written, has_written}

-- it writes in the default form, nothing is held back, and no row is begun
pub record IsReady {W : Type 0} (w : Writer W) : Type 0 where
  pub setup : writer_setup w ≡ default_writer
  pub pending : writer_pending w ≡ []
  pub fields : fields_written w ≡ 0
  pub wrote : has_written w ≡ false

-- it writes in the default form, and no row is begun
pub record IsBetweenRows {W : Type 0} (w : Writer W) : Type 0 where
  pub setup : writer_setup w ≡ default_writer
  pub fields : fields_written w ≡ 0
  pub wrote : has_written w ≡ false
