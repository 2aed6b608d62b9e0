-- Order 2's promise holds.
use mathlib.Core.Path.{refl}
use lib.Ieee.{to_bits}
use Rattle.promises.specs.RoundTrip.{RoundTrip}
use Rattle.script_writer_laws.proofs.InARow.{in_a_row}
use Rattle.script_writer_laws.proofs.ReadBack.{reading-back, events-back, ends-back}
use Rattle.script_writer_laws.proofs.Wide.{written_alike, engine_alike}
use Rattle.script_writer_laws.proofs.WrittenBack.{script_again}

pub round_trip : RoundTrip
unfolding to_bits
round_trip =
    record {
      in_a_row = in_a_row;
      read_back = λ es h o l. (rw (reading-back es h o l) (ends-back 0 es), rw (reading-back es h o l) (events-back 0 es));
      written_back = script_again;
      nan_written = refl;
      nan_of_a_seek = refl;
      wide_written = written_alike;
      wide_alike = engine_alike;
    }
