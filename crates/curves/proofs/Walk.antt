-- Horner's walk down a list of coefficients, from the last to the first. Assumes nothing.
use mathlib.Core.Path.{◌≡◌, refl, sym, ◌∙◌, ap}
use mathlib.Core.List.{List, [], ◌∷◌, ◌++◌}
use Prim.Native.Nat.{ℕ, suc, ◌<◌}
use native.Mathlib.Numerals.{add-one}
use native.Mathlib.Omega.{arith}
use lib.IntN.{ℤ, pos, ◌+ℤ◌, ◌*ℤ◌}
use lib.ListN.{length, drop, length-append}
use mir.Syntax.{w64}
use mir.Val.{SFits}
use Rattle.std.proofs.lemmas.List.{append_assoc, append-nil, nil_from_length}
use Rattle.std.proofs.Math.Seq.{drop-append_seam, drop-append-add}
use Rattle.curves.specs.Error.{horner}
use Rattle.curves.specs.NothingLost.{Steps}

-- `front` are still to come, and x is the polynomial of those behind them
pub record Walk (coeffs front : List ℤ) (v : ℕ) (x : ℤ) : Type 0 where
  pub done : List ℤ
  pub all : front ++ done ≡ coeffs
  pub so_far : x ≡ horner done v

module _ (coeffs front : List ℤ) (v : ℕ) where
  pub walk_start : front ≡ coeffs → Walk coeffs front v (pos 0)
  unfolding horner
  walk_start e = record { done = []; all = append-nil front ∙ e; so_far = refl }

  pub walk_end : (x : ℤ) → length front ≡ 0 → Walk coeffs front v x → x ≡ horner coeffs v
  walk_end x none walk = walk.so_far ∙ ap (λ (cs : List ℤ). horner cs v) (rw (nil_from_length front none) at walk.all)

  -- a turn takes in the last of them, c, which the machine reads back as b
  module _ (x c b : ℤ) (walk : Walk coeffs front v x) (next : List ℤ) (last : front ≡ next ++ c ∷ []) (back : b ≡ c) where
    all : next ++ (c ∷ walk.done) ≡ coeffs
    all = sym (append_assoc next (c ∷ []) walk.done) ∙ rw (← last) walk.all

    sum : x *ℤ pos v +ℤ b ≡ horner (c ∷ walk.done) v
    unfolding horner
    sum = rw (back, walk.so_far)

    some : length next < length coeffs
    some = rw (← all, length-append) (omega arith)

    pub walk_fits : Steps coeffs v → SFits w64 (x *ℤ pos v) × SFits w64 (x *ℤ pos v +ℤ b)
    walk_fits steps =
        let step = steps (length next) some in
        let before : drop (length next) coeffs ≡ c ∷ walk.done = rw (← all) (drop-append_seam next (c ∷ walk.done)) in
        let behind : drop (suc (length next)) coeffs ≡ walk.done = rw (← all, ← add-one) (drop-append-add next (c ∷ walk.done) 1) in
        (rw (walk.so_far, ← behind) step.0, rw (sum, ← before) step.1)

    pub walk_more : (y : ℤ) → y ≡ x *ℤ pos v +ℤ b → Walk coeffs next v y
    walk_more y e = record { done = c ∷ walk.done; all = all; so_far = e ∙ sum }
