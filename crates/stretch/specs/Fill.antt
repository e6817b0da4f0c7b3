-- Document 01, "ESP32 line rules": the fill, with the refusals of "Filling: 10, then 11".
-- It is this build's own: esp-hal converts one count at a time.
use Rattle.std.specs.Prelude.{List, ℕ, ◌+◌, length, ltb}
use Rattle.terms.specs.Refusal.{refuse, or_else, by_number}
use Rattle.terms.specs.Table.{tab}
use Rattle.line_record.specs.declared.record.LineRecord.{LineRecord}
use Rattle.line_record.specs.Record.{record_refusal}
use Rattle.line.specs.Convert.{answer_at}

-- 10: line record outside its ranges
-- 11: a stretch whose first count plus length is above 4096
unfoldable pub fill_refusal : LineRecord → ℕ → ℕ → ℕ
fill_refusal r first n =
    or_else (record_refusal r)
    (refuse (ltb 4096 (first + n)) 11 0)

-- the n answers from a first count on
abbrev pub answers_from : LineRecord → ℕ → ℕ → List ℕ
answers_from r first n = tab (λ k. answer_at r (first + k)) n

-- what the lent list is then: "It writes the n answers and nothing else"; a refusal "leaves lent memory untouched"
unfoldable pub filled : LineRecord → ℕ → List ℕ → List ℕ
filled r first lent = by_number (fill_refusal r first (length lent)) (answers_from r first (length lent)) lent
