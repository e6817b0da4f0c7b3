-- A list of which a part was lent and has come back: the part's entries stand in it, and the others are as they were.
-- Assumes nothing.
use mathlib.Core.Path.{◌≡◌, sym, ◌∙◌, ap}
use mathlib.Core.List.{List, ◌++◌}
use Prim.Native.Nat.{ℕ, ◌+◌, ◌-◌, ◌≤◌, ◌<◌}
use native.Mathlib.Nat.{add-sub_of_le}
use native.Mathlib.Omega.{arith}
use lib.ListN.{length, get_or, take, drop, length-append, length-drop, get_or-append}
use lib.Seq.{length-take-le, get_or-append-add, get_or-take, get_or-drop}
use Rattle.terms.specs.Table.{tab, put_back}
use Rattle.terms.proofs.Order.{either}
use Rattle.terms.proofs.Tab.{tab_length, tab_at, Filled}

module _ (l part : List ℕ) (a e : ℕ) (rising : a ≤ e) (within : e ≤ length l) (long : length part ≡ e - a) where
  abbrev rest : List ℕ
  rest = drop (e - a) (drop a l)

  head : length (take a l) ≡ a
  head = length-take-le a l (omega arith)

  pub put_length : length (put_back l a e part) ≡ length l
  put_length = simp (length-append, length-drop) (omega (arith, head))

  pub put_before : (k : ℕ) → k < a → get_or (put_back l a e part) k 0 ≡ get_or l k 0
  put_before k h = get_or-append (take a l) (part ++ rest) 0 k (omega (arith, head)) ∙ get_or-take a l k 0 h

  -- past the first a entries
  past : (j : ℕ) → get_or (put_back l a e part) (a + j) 0 ≡ get_or (part ++ rest) j 0
  past j = ap (λ (n : ℕ). get_or (put_back l a e part) (n + j) 0) (sym head) ∙ get_or-append-add (take a l) (part ++ rest) j 0

  pub put_in : (k : ℕ) → a ≤ k → k < e → get_or (put_back l a e part) k 0 ≡ get_or part (k - a) 0
  put_in k from h =
      ap (λ (n : ℕ). get_or (put_back l a e part) n 0) (sym (add-sub_of_le from))
      ∙ past (k - a)
      ∙ get_or-append part rest 0 (k - a) (omega arith)

  pub put_after : (k : ℕ) → e ≤ k → get_or (put_back l a e part) k 0 ≡ get_or l k 0
  put_after k h =
      let j : ℕ = k - e in
      let place : k ≡ a + (length part + j) = omega arith in
      let whole : a + (e - a + j) ≡ k = omega arith in
      ap (λ (n : ℕ). get_or (put_back l a e part) n 0) place
      ∙ past (length part + j)
      ∙ get_or-append-add part rest j 0
      ∙ get_or-drop (e - a) (drop a l) j 0
      ∙ get_or-drop a l (e - a + j) 0
      ∙ ap (λ (n : ℕ). get_or l n 0) whole

-- a part that was lent is as long as it says
pub lent_length : (l : List ℕ) (a e : ℕ) → a ≤ e → e ≤ length l → length (take (e - a) (drop a l)) ≡ e - a
lent_length l a e rising within = length-take-le (e - a) (drop a l) (simp length-drop (omega arith))

-- a loop that fills a list from the front, a part a turn
pub fill_part : (f g : ℕ → ℕ) {before : List ℕ} (l part : List ℕ) (a e : ℕ) → Filled f before l a → a ≤ e → e ≤ length l
    → ((k : ℕ) → g k ≡ f (a + k)) → part ≡ tab g (length (take (e - a) (drop a l))) → Filled f before (put_back l a e part) e
fill_part f g l part a e p rising within agree came =
    let back : part ≡ tab g (e - a) = came ∙ ap (tab g) (lent_length l a e rising within) in
    let long : length part ≡ e - a = ap length back ∙ tab_length g (e - a) in
    let same = put_length l part a e rising within long in
    record {
      same = same ∙ p.same;
      within = omega arith;
      first =
          λ k h.
          either a k
          (λ late.
          put_in l part a e rising within long k late h
          ∙ ap (λ (t : List ℕ). get_or t (k - a) 0) back
          ∙ tab_at g (e - a) (k - a) (omega arith)
          ∙ agree (k - a)
          ∙ ap f (add-sub_of_le late))
          (λ early. put_before l part a e rising within long k early ∙ p.first k early);
    }
