-- The lines of the log.
use Rattle.std.specs.Prelude.{ℕ, ◌+◌, List, [], ◌∷◌, ◌++◌, codes}
use Rattle.std.specs.Fmt.{decimal}
use Rattle.report_text.specs.MemberText.{member_words}
use Rattle.report_text.specs.Words.{numbers, line_text}
use Rattle.tx_events.specs.declared.record.Counters.{Counters}
use Rattle.tx_events.specs.declared.record.Rec.{Rec}
use Rattle.tx_events.specs.declared.record.Rec.TheVariants as records

abbrev pub first_counters : Counters → List (List ℕ)
first_counters c = codes "next" ∷ decimal c.next ∷ codes "oldest" ∷ decimal c.oldest ∷ codes "multi" ∷ decimal c.multi ∷ []

abbrev pub last_counters : Counters → List (List ℕ)
last_counters c =
    codes "offset" ∷ decimal c.offset ∷ codes "oldest-multi" ∷ decimal c.oldest_multi ∷ codes "oldest-offset" ∷ decimal c.oldest_offset ∷ []

-- the counters, each behind its word
unfoldable pub counters_words : Counters → List (List ℕ)
counters_words c = first_counters c ++ last_counters c

-- the line of a record, behind its number
abbrev pub record_words : Rec → List (List ℕ)
record_words (records.Commit top subs) = codes "commit" ∷ decimal top ∷ numbers subs
record_words (records.Abort top subs) = codes "abort" ∷ decimal top ∷ numbers subs
record_words (records.Multi multi offset members) = codes "multi" ∷ decimal multi ∷ decimal offset ∷ member_words members
record_words (records.Checkpoint number counters) = codes "checkpoint" ∷ counters_words counters
record_words (records.Truncate oldest multi offset) = codes "truncate" ∷ decimal oldest ∷ decimal multi ∷ decimal offset ∷ []

-- each record behind its number
abbrev pub records_text : ℕ → List Rec → List ℕ
records_text number [] = []
records_text number (r ∷ recs) = line_text (decimal number ∷ record_words r) ++ records_text (number + 1) recs
