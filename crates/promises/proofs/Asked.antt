-- The laws that the scope asks for: each is cited from where it is proved.
use lib.Ieee.{of_bits, of_fields}
use Rattle.powers.proofs.PowerLike.{in_unit}
use Rattle.powers.proofs.Exp64Rises.{exp64_like}
use Rattle.elementary_laws.proofs.LogRises.{log2-rises}
use Rattle.elementary_laws.proofs.PowerRises.{exp_like}
use Rattle.mask_laws.proofs.FullScan.{full-scan}
use Rattle.engine_laws.proofs.Joins.{advance_joins}
use Rattle.promises.specs.Asked.{Asked}

pub asked : Asked
unfolding of_bits of_fields
asked =
    record {
      advance_joins = λ e m n a b. advance_joins e m n a b;
      walk_is_scan = λ ws all logs fit ok bin l h. full-scan ws all logs fit ok bin l h;
      log2_never_falls = λ x y f g h k. log2-rises x y f g h k;
      exp_to_one = λ x h. in_unit exp_like x h;
      exp64_to_one = λ x h. in_unit exp64_like x h;
    }
