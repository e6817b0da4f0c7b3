-- Laws of writing into lent memory: nothing, one entry, and one text after another, which writes both. Assumes nothing.
use mathlib.Core.Path.{◌≡◌, refl, sym, ◌∙◌, ap}
use mathlib.Core.List.{List, [], ◌∷◌, ◌++◌, append_assoc}
use Prim.Native.Nat.{ℕ, ◌+◌, ◌-◌, ◌≤◌, ◌<◌}
use native.Mathlib.Nat.{add_assoc, add-zero}
use native.Mathlib.Numerals.{add-one}
use native.Mathlib.Omega.{arith}
use lib.ListN.{length, take, drop, set, get_or, length-append, take-append-drop, length-set}
use lib.Seq.{set_split, take_at, drop_at, drop-drop, length-take-le, take-suc}
use Rattle.terms.specs.Table.{written}
use Rattle.terms.specs.Put.{Put}

-- what comes after the text, by its place in the whole list
written_flat : (before : List ℕ) (at : ℕ) (t : List ℕ) → written before at t ≡ take at before ++ (t ++ drop (at + length t) before)
written_flat before at t =
    let past : at + (at + length t - at) ≡ at + length t = omega arith in
    ap (λ (r : List ℕ). take at before ++ (t ++ r)) (drop-drop (at + length t - at) at before ∙ ap (λ (n : ℕ). drop n before) past)

module _ (before s : List ℕ) (at : ℕ) (h : at ≤ length before) where
  abbrev flat : List ℕ
  flat = take at before ++ (s ++ drop (at + length s) before)

  head_length : length (take at before ++ s) ≡ at + length s
  head_length = simp (length-append, length-take-le at before h)

  head : take (at + length s) (written before at s) ≡ take at before ++ s
  head = ap (take (at + length s)) (written_flat before at s) ∙ rw (← append_assoc) (take_at (take at before ++ s) _ _ head_length)

  tail : (n : ℕ) → drop (at + length s + n) (written before at s) ≡ drop (at + length s + n) before
  tail n =
      ap (drop (at + length s + n)) (written_flat before at s)
      ∙ sym (drop-drop n (at + length s) flat)
      ∙ ap (drop n) (rw (← append_assoc) (drop_at (take at before ++ s) _ _ head_length))
      ∙ drop-drop n (at + length s) before

  -- one text written after another
  written_more : (t : List ℕ) → written (written before at s) (at + length s) t ≡ written before at (s ++ t)
  written_more t =
      written_flat (written before at s) (at + length s) t
      ∙ rw (head, tail) (simp (append_assoc, length-append, add_assoc))
      ∙ sym (written_flat before at (s ++ t))

pub put_none : (before : List ℕ) (at : ℕ) → at ≤ length before → Put before at [] at before
put_none before at h =
    record { past = rw add-zero; within = h; same = refl; content = sym (written_flat before at [] ∙ rw add-zero (take-append-drop at before)) }

pub put_one : (before : List ℕ) (at b : ℕ) → at < length before → Put before at (b ∷ []) (at + 1) (set before at b)
put_one before at b h =
    let flat : set before at b ≡ take at before ++ (b ∷ [] ++ drop (at + length (b ∷ [])) before) = rw (set_split, ← add-one at) in
    record { past = refl; within = omega arith; same = simp length-set; content = flat ∙ sym (written_flat before at (b ∷ [])) }

pub put_more : {before between after s t : List ℕ} {at m n : ℕ} → Put before at s m between → Put between m t n after
    → Put before at (s ++ t) n after
put_more {before} {s = s} {t = t} {at = at} p q =
    record {
      past = simp length-append (omega (arith, p.past, q.past));
      within = omega (arith, q.within, p.same);
      same = q.same ∙ p.same;
      content = q.content ∙ rw (p.past, p.content) (written_more before s at (omega (arith, p.past, p.within)) t);
    }

-- what stands up to the place past the text: what stood before it, and the text
pub put_front : {before after t : List ℕ} {at n : ℕ} → Put before at t n after → take n after ≡ take at before ++ t
put_front {before} {t = t} {at = at} p =
    rw (p.past, p.content) (head before t at (omega (arith, p.past, p.within)))

-- a turn of a loop that writes a word: one entry more of it
pub put_next : {before l : List ℕ} {at i : ℕ} (word : List ℕ) → i < length word → at + i < length l
    → Put before at (take i word) (at + i) l → Put before at (take (i + 1) word) (at + (i + 1)) (set l (at + i) (get_or word i 0))
put_next {l = l} {at = at} {i = i} word h g p =
    rw (add-one, take-suc word i 0, ← add-one, ← add_assoc) (put_more p (put_one l (at + i) (get_or word i 0) g))
