-- Laws of two numbers of 32 bits as one of 64: they are its halves, and two such are alike exactly if both halves are. Assumes nothing.
use mathlib.Core.Path.{◌≡◌}
use mathlib.Core.Bool.{◌&&◌}
use Prim.Native.Nat.{ℕ, ◌+◌, ◌*◌, ◌/◌, ◌%◌, ◌<◌}
use native.Mathlib.Omega.{arith}
use lib.Dec.{eqb}
use borrow.Author.Tests.{eq-eqb, ne_eqb}
use Rattle.terms.proofs.Order.{equal_or}

pub halves : {whole low high : ℕ} → whole ≡ high * 4294967296 + low → low < 4294967296
    → (whole % 4294967296 ≡ low) × (whole / 4294967296 ≡ high)
halves e h = (omega arith, omega arith)

module _ (a b c d : ℕ) (f : a < 4294967296) (g : c < 4294967296) where
  pub joined_same : eqb (b * 4294967296 + a) (d * 4294967296 + c) ≡ eqb a c && eqb b d
  joined_same =
      equal_or a c
      (λ low.
      equal_or b d
      (λ high. simp (eq-eqb _ _ low, eq-eqb _ _ high, eq-eqb (b * 4294967296 + a) (d * 4294967296 + c) (omega arith)))
      (λ high. simp (eq-eqb _ _ low, ne_eqb _ _ high, ne_eqb (b * 4294967296 + a) (d * 4294967296 + c) (λ e. high (omega arith)))))
      (λ low. simp (ne_eqb _ _ low, ne_eqb (b * 4294967296 + a) (d * 4294967296 + c) (λ e. low (omega arith))))
