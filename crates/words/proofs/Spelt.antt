-- std's text of a number of 64 bits, which itoa gives, is its digits, the fewest that hold it, so it is `decimal`'s. Assumes nothing.
use mathlib.Core.Path.{◌≡◌, sym, ◌∙◌, ap}
use mathlib.Core.List.{List, [], ◌∷◌, ◌++◌}
use Prim.Native.Nat.{ℕ, zero, suc, ◌+◌, ◌/◌, ◌%◌, ◌^◌, ◌≤◌, ◌<◌}
use native.Mathlib.Nat.{pow-suc, mod-eq_of_lt}
use native.Mathlib.Omega.{arith}
use lib.ListN.{length, length-append}
use Rattle.std.proofs.lemmas.Fmt.{decimal_by_steps}
use Rattle.std.specs.Fmt as std
use Rattle.io.specs.Digits.{last_digits, IsDigitCount}
use Rattle.words.specs.Put.{decimal}
use Rattle.words.proofs.Decimals.{pred_pow, last_glyph, spelt_decimal}

-- a text that is the digits of a number, the fewest that hold it
abbrev Spelt : ℕ → List ℕ → Type 0
Spelt n text = IsDigitCount 10 1 n (length text) × (text ≡ last_digits 10 (length text) n)

one : (n : ℕ) → n < 10 → Spelt n ((48 + n) ∷ [])
one n h =
    ((omega arith, omega arith, λ more. absurd (omega arith)), ap (λ (d : ℕ). d ∷ []) (sym (last_glyph n ∙ ap (λ (d : ℕ). 48 + d) (mod-eq_of_lt h))))

-- a digit more holds ten times as much
fewest_more : (n k : ℕ) → 10 ≤ n → IsDigitCount 10 1 (n / 10) k → IsDigitCount 10 1 n (suc k)
fewest_more n zero h f = absurd (omega (arith, f.0))
fewest_more n (suc zero) h f = (omega arith, omega (arith, f.1), λ more. omega arith)
fewest_more n (suc (suc k)) h f =
    (omega arith, omega (arith, f.1, pow-suc 10 (suc (suc k))), λ more. omega (arith, f.2 (omega arith), pred_pow (suc (suc k)), pred_pow (suc k), pow-suc 10 (suc k)))

more : (n : ℕ) (text : List ℕ) → 10 ≤ n → Spelt (n / 10) text → Spelt n (text ++ ((48 + n % 10) ∷ []))
more n text h s =
    let long : length (text ++ ((48 + n % 10) ∷ [])) ≡ suc (length text) = length-append text ((48 + n % 10) ∷ []) ∙ omega arith in
    rw long (fewest_more n (length text) h s.0, λ i. s.1 i ++ (sym (last_glyph n) i ∷ []))

spelt : (n : ℕ) → n < 2 ^ 64 → Spelt n (std.decimal n)
spelt = decimal_by_steps Spelt one more

pub text_decimal : (n : ℕ) → n < 2 ^ 64 → std.decimal n ≡ decimal n
text_decimal n h = (spelt n h).1 ∙ spelt_decimal n _ h (spelt n h).0
