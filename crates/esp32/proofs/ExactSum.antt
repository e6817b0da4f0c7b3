-- A record by two points has the exact sum as its b: it was decoded, so nothing was refused, and the sum isn't negative. Assumes nothing.
use Rattle.std.proofs.Common.{ℕ, List}
use Rattle.esp32.specs.Characterize.{coefficients_of, basis_refusal}
use Rattle.esp32.specs.Decode.{found_of, decoded_record}
use Rattle.esp32.specs.ExactSum.{ExactSum}
use Rattle.esp32.proofs.Coefficients.{two_point_b_exact}
use Rattle.esp32.proofs.Decoding.{decode_good}
use Rattle.esp32.proofs.Says.{record_none, record_is}
use Rattle.esp32.proofs.Bases.{basis_two_point}

module _ (lengths dump map : List ℕ) (unit atten : ℕ) where
  pub exact_sum : ExactSum lengths dump map unit atten
  unfolding decoded_record found_of coefficients_of basis_refusal
  exact_sum r e t =
      let two = basis_two_point dump map unit t in
      let good = (decode_good lengths dump map unit atten (record_none lengths dump map unit atten e)).2 in
      rw (record_is lengths dump map unit atten e, two) (two_point_b_exact _ _ (rw two at good))
