-- What the words of records say, and of the lines that begin a life and its log.
use Rattle.std.specs.Prelude.{ℕ, List, [], codes, cond, Option, Some, None}
use Rattle.std.specs.Str.{bytes_eq}
use Rattle.tx_events.specs.declared.record.Rec.{Rec}
use Rattle.tx_events.specs.declared.record.Rec.TheVariants as records
use Rattle.report_words.specs.Reading.{◌>>=◌, word_at, number_at, named_at, full_id, full_multi, counters_at, front_ids}
use Rattle.report_lines.specs.declared.life.Start.{Start}
use Rattle.report_lines.specs.declared.life.LogHead.{LogHead}
use Rattle.report_words.specs.Members.{until_arrow, member_of}

-- the record of a transaction's end, behind its number
unfoldable pub ended_at : List (List ℕ) → Option Rec
ended_at ws = do
  word ← word_at ws
  top ← number_at word.1
  id ← full_id top.0
  cond (bytes_eq word.0 (codes "commit")) (Some (records.Commit id (front_ids top.1)))
      (cond (bytes_eq word.0 (codes "abort")) (Some (records.Abort id (front_ids top.1))) None)

unfoldable pub multi_record_at : List (List ℕ) → Option Rec
multi_record_at ws = do
  n ← number_at ws
  multi ← full_multi n.0
  offset ← number_at n.1
  members ← until_arrow member_of [] offset.1
  Some (records.Multi multi offset.0 members.0)

unfoldable pub truncate_at : List (List ℕ) → Option Rec
truncate_at ws = do
  n ← number_at ws
  oldest ← full_id n.0
  m ← number_at n.1
  multi ← full_multi m.0
  offset ← number_at m.1
  Some (records.Truncate oldest multi offset.0)

-- a record that has this number, behind the number
unfoldable pub record_at : ℕ → List (List ℕ) → Option Rec
record_at number ws = do
  w ← word_at ws
  cond (bytes_eq w.0 (codes "multi")) (multi_record_at w.1)
      (cond (bytes_eq w.0 (codes "checkpoint")) (counters_at w.1 >>= λ c. Some (records.Checkpoint number c))
      (cond (bytes_eq w.0 (codes "truncate")) (truncate_at w.1) (ended_at ws)))

unfoldable pub record_line_at : ℕ → List (List ℕ) → Option Rec
record_line_at number ws = do
  n ← word_at ws
  record_at number n.1

-- the line that begins a life
unfoldable pub start_at : List (List ℕ) → Option Start
start_at ws = do
  number ← named_at ws
  from ← named_at number.1
  base ← counters_at from.1
  Some (record { from = from.0; base = base })

-- the line that begins a log
unfoldable pub log_at : List (List ℕ) → Option LogHead
log_at ws = do
  w ← word_at ws
  flushed ← named_at w.1
  end ← named_at flushed.1
  Some (record { flushed = flushed.0; end = end.0 })
