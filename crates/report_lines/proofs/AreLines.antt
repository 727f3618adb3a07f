-- Each line is one line.
use Rattle.std.proofs.Common.{rules, ◌≡◌, ℕ, ◌^◌, ◌<◌, ◌==◌, List, [], ◌∷◌, ◌++◌, true, false, Some, refl, arith, codes}
use Rattle.std.specs.List.{AllByRecursion}
use Rattle.std.specs.Fmt.{decimal}
use Rattle.std.proofs.lemmas.Bool.Decides.{nat_tests}
use Rattle.tx_events.specs.Events.{by_of}
use Rattle.tx_events.specs.declared.event.Event.{Event}
use Rattle.tx_events.specs.declared.multi.MultiEvent.{MultiEvent}
use Rattle.tx_events.specs.declared.record.Rec.{Rec}
use Rattle.tx_model.specs.declared.report.How.{How}
use Rattle.tx_model.specs.declared.report.How.TheVariants as hows
use Rattle.tx_model.specs.declared.report.Line.{Line}
use Rattle.tx_model.specs.declared.report.Step.{Step}
use Rattle.tx_model.specs.declared.report.Step.TheVariants as steps
use Rattle.report_text.specs.Words.{more, line_text, name_at}
use Rattle.report_text.specs.CommandText.{command_word, command_rest}
use Rattle.tx_events.specs.Multis.{multi_by}
use Rattle.report_text.specs.EventText.{event_word, event_rest, by_words, multi_event_word, multi_event_rest}
use Rattle.report_text.specs.RecordText.{record_words, counters_words}
use Rattle.report_text.specs.ReplyText.{reply_words}
use Rattle.report_text.specs.ReportText.{command_line, crash_text, dump_words, life_line, round_line, step_text, title_text}
use Rattle.report_words.specs.Words.{IsWord, AreWords, is_shown}
use Rattle.report_words.specs.Fits.{AreNames, FitsEvent, FitsLine, FitsMultiEvent, FitsRecord}
use Rattle.report_words.proofs.Again.{number_word}
use Rattle.report_lines.specs.declared.life.Start.{Start}
use Rattle.report_lines.specs.declared.life.LogHead.{LogHead}
use Rattle.report_lines.specs.Fits.{FitsLog, FitsStart, FitsStep}
use Rattle.report_lines.specs.Front.{IsLine}
use Rattle.report_words.specs.Texts.{event_line, multi_line, record_line}
use Rattle.report_lines.specs.Texts.{log_line, start_line}
use Rattle.report_lines.proofs.AgainEvents.{event_are_words, multi_event_are_words}
use Rattle.report_lines.proofs.AgainLines.{log_are_words, record_are_words, said_are_words, start_are_words}
use Rattle.report_lines.proofs.AgainSteps.{checkpoint_words, dumped_are_words}

abbrev IsPlain : List ℕ → Type 0
IsPlain t = AllByRecursion (λ b. (b == 10) ≡ false) t

not_end : (b : ℕ) → is_shown b ≡ true → (b == 10) ≡ false
not_end b e = grind (arith, nat_tests)

word_plain : (w : List ℕ) → IsWord w → IsPlain w
word_plain [] i = tt
word_plain (b ∷ w) i = (not_end b i.0, word_plain w i.1)

plain_append : (v w : List ℕ) → IsPlain v → IsPlain w → IsPlain (v ++ w)
plain_append [] w a b = b
plain_append (c ∷ v) w a b = (a.0, plain_append v w a.1 b)

more_plain : (ws : List (List ℕ)) → AreWords ws → IsPlain (more ws)
unfolding more
more_plain [] a = tt
more_plain (w ∷ ws) a = (refl, plain_append w (more ws) (word_plain w a.0) (more_plain ws a.1))

pub words_are_line : (w : List ℕ) (ws : List (List ℕ)) → AreWords (w ∷ ws) → IsLine (line_text (w ∷ ws))
unfolding line_text
words_are_line w ws a = record { body = w ++ more ws; text = refl; plain = plain_append w (more ws) (word_plain w a.0) (more_plain ws a.1) }

pub event_is_line : (names : List (List ℕ)) (e : Event) → AreNames names → FitsEvent names e → IsLine (event_line names e)
event_is_line names e n f = words_are_line (event_word e) (by_words names (by_of e) ++ event_rest e) (event_are_words names e n f)

pub multi_is_line : (names : List (List ℕ)) (e : MultiEvent) → AreNames names → FitsMultiEvent names e → IsLine (multi_line names e)
multi_is_line names e n f = words_are_line (multi_event_word e) (by_words names (multi_by e) ++ multi_event_rest e) (multi_event_are_words names e n f)

pub command_is_line : (names : List (List ℕ)) (l : Line) → AreNames names → FitsLine names l → IsLine (command_line names l)
command_is_line names l n f = words_are_line (name_at names l.by.session) (decimal l.by.command ∷ command_word l.command ∷ (command_rest l.command ++ codes "->" ∷ reply_words names l.reply)) (said_are_words names l n f)

pub step_is_line : (names : List (List ℕ)) (s : Step) → AreNames names → FitsStep names s → IsLine (step_text names s)
unfolding step_text
step_is_line names (steps.Round number lines) n f = absurd f
step_is_line names (steps.Checkpoint reply) n f = words_are_line (codes "checkpoint") (codes "->" ∷ reply_words names reply) (checkpoint_words names reply n f)
step_is_line names (steps.Dump what from size reply) n f = words_are_line (codes "dump") (dump_words what ++ decimal from ∷ decimal size ∷ codes "->" ∷ reply_words names reply) (dumped_are_words names what from size reply f.0 f.1)

pub record_is_line : (n : ℕ) (r : Rec) → n < 2 ^ 64 → FitsRecord n r → IsLine (record_line n r)
record_is_line n r l f = words_are_line (decimal n) (record_words r) (number_word n l, record_are_words n r f)

pub start_is_line : (n : ℕ) (s : Start) → n < 2 ^ 64 → FitsStart s → IsLine (start_line n s)
unfolding life_line
start_is_line n s l f = words_are_line (codes "life") (decimal n ∷ codes "from" ∷ decimal s.from ∷ counters_words s.base) (start_are_words n s l f)

pub log_is_line : (l : LogHead) → FitsLog l → IsLine (log_line l)
log_is_line l f = words_are_line (codes "log") (codes "flushed" ∷ decimal l.flushed ∷ codes "end" ∷ decimal l.end ∷ []) (log_are_words l f)

pub round_is_line : (n : ℕ) → n < 2 ^ 64 → IsLine (round_line n)
round_is_line n l = words_are_line (codes "round") (decimal n ∷ []) (search rules, (number_word n l, tt))

pub crash_is_line : (h : How) → IsLine (crash_text (Some h))
unfolding crash_text
crash_is_line hows.Lost = words_are_line (codes "crash") (codes "lost" ∷ []) (search rules, (search rules, tt))
crash_is_line hows.Kept = words_are_line (codes "crash") (codes "kept" ∷ []) (search rules, (search rules, tt))
crash_is_line hows.Torn = words_are_line (codes "crash") (codes "torn" ∷ []) (search rules, (search rules, tt))

pub word_is_line : (w : List ℕ) → IsWord w → IsLine (line_text (w ∷ []))
word_is_line w i = words_are_line w [] (i, tt)

pub title_is_line : IsLine title_text
title_is_line = words_are_line (codes "txid") (codes "report" ∷ codes "1" ∷ []) (search rules, (search rules, (search rules, tt)))
