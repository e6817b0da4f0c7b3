-- Each number of a reading is given exactly when. Assumes nothing.
use mathlib.Core.Path.{◌≡◌, sym, ◌∙◌}
use mathlib.Core.List.{List}
use Prim.Native.Nat.{ℕ}
use lib.ListN.{length}
use Rattle.terms.specs.Exactly.{Exactly}
use Rattle.terms.proofs.Exactly.{Some, exactly, case, by_first, unit_exactly}
use Rattle.terms.proofs.Order.{either, equal_or}
use Rattle.terms.proofs.Refusals.{or_else_given}
use Rattle.dumps.specs.Lengths.{words_of}
use Rattle.dumps.proofs.Exactly.{dump_exactly}
use Rattle.s2_readings.specs.declared.tag.RtcCalibParam.{RtcCalibParam}
use Rattle.s2_readings.specs.Reading.{chosen_refusal, reading_refusal, table_refusal}
use Rattle.s2_readings.specs.Tag.{tag_of}
use Rattle.s2_readings.specs.When.{ReadingWhen, reading_dump, reading_unit, reading_chain}
use Rattle.s2_readings.specs.When.{TableWhen, table_dump, table_lengths, table_unit, table_chain}
use Rattle.s2_readings.proofs.Links.{chain_exactly}
use Rattle.s2_readings.proofs.Readings.{chosen_unit, chosen_chain, table_short, table_long, table_chosen}

module _ (lengths dump : List ℕ) (version unit atten : ℕ) (param : RtcCalibParam) where
  reading_gives : (n : ℕ) → ReadingWhen lengths dump version unit atten param n → reading_refusal lengths dump version unit atten param ≡ n
  unfolding reading_refusal chosen_refusal
  reading_gives n (reading_dump d some) = or_else_given _ _ ((dump_exactly lengths dump n).1 d) some
  reading_gives n (reading_unit d u some) =
      rw ((dump_exactly lengths dump 0).1 d) (or_else_given _ _ ((unit_exactly unit atten n).1 u) some)
  reading_gives n (reading_chain d u w) =
      rw ((dump_exactly lengths dump 0).1 d, (unit_exactly unit atten 0).1 u) ((chain_exactly lengths (tag_of version unit atten param) n).1 w)

  reading_some : Some (ReadingWhen lengths dump version unit atten param)
  reading_some =
      by_first (dump_exactly lengths dump)
      (λ d.
      by_first (unit_exactly unit atten)
      (λ u. (_, reading_chain d u (case (chain_exactly lengths (tag_of version unit atten param)))))
      (λ n u some. (n, reading_unit d u some)))
      (λ n d some. (n, reading_dump d some))

  pub reading_exactly : Exactly (reading_refusal lengths dump version unit atten param) (ReadingWhen lengths dump version unit atten param)
  reading_exactly = exactly reading_gives reading_some

  -- `table_reading`
  table_gives : (n : ℕ) → TableWhen lengths dump version unit atten param n → table_refusal lengths dump version unit atten param ≡ n
  table_gives _ (table_dump h) = sym (table_short lengths dump version unit atten param h)
  table_gives _ (table_lengths d h) = sym (table_long lengths dump version unit atten param d h)
  table_gives n (table_unit d w u some) =
      table_chosen lengths dump version unit atten param (record { whole = d; room = w })
      ∙ sym (chosen_unit lengths version unit atten param (sym ((unit_exactly unit atten n).1 u)) some)
  table_gives n (table_chain d w u c) =
      table_chosen lengths dump version unit atten param (record { whole = d; room = w })
      ∙ chosen_chain lengths version unit atten param ((unit_exactly unit atten 0).1 u)
      ∙ (chain_exactly lengths (tag_of version unit atten param) n).1 c

  table_some : Some (TableWhen lengths dump version unit atten param)
  table_some =
      equal_or (length dump) 88
      (λ d.
      either (words_of lengths 2) 8
      (λ w.
      by_first (unit_exactly unit atten)
      (λ u. (_, table_chain d w u (case (chain_exactly lengths (tag_of version unit atten param)))))
      (λ n u some. (n, table_unit d w u some)))
      (λ w. (20, table_lengths d w)))
      (λ d. (1, table_dump d))

  pub table_exactly : Exactly (table_refusal lengths dump version unit atten param) (TableWhen lengths dump version unit atten param)
  table_exactly = exactly table_gives table_some
