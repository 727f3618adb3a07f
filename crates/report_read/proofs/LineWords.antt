-- The words of the lines that may stand.
use Rattle.std.proofs.Common.{rules, ◌≡◌, ℕ, ◌-◌, ◌≤◌, List, [], ◌∷◌, ◌++◌, Some, refl, sym, ◌∙◌, arith, length, take, drop, codes}
use Rattle.std.specs.Fmt.{decimal}
use Rattle.tx_events.specs.Events.{by_of}
use Rattle.tx_model.specs.declared.report.How.{How}
use Rattle.tx_model.specs.declared.report.How.TheVariants as hows
use Rattle.tx_model.specs.declared.report.Step.{Step}
use Rattle.tx_model.specs.declared.report.Step.TheVariants as steps
use Rattle.report_text.specs.Words.{name_at}
use Rattle.report_text.specs.CommandText.{command_word, command_rest}
use Rattle.tx_events.specs.Multis.{multi_by}
use Rattle.report_text.specs.EventText.{event_word, event_words, event_rest, by_words, multi_event_word, multi_event_words, multi_event_rest}
use Rattle.report_text.specs.RecordText.{record_words, counters_words}
use Rattle.report_text.specs.ReplyText.{reply_words}
use Rattle.report_text.specs.ReportText.{crash_text, dump_words, life_line, step_text}
use Rattle.report_words.specs.Words.{behind}
use Rattle.report_words.specs.Fits.{AreNames}
use Rattle.report_words.proofs.Again.{line_again, number_word}
use Rattle.report_lines.specs.Front.{IsLine}
use Rattle.report_lines.specs.Fits.{FitsStep}
use Rattle.report_lines.proofs.AgainEvents.{event_are_words, multi_event_are_words}
use Rattle.report_lines.proofs.AgainLines.{log_are_words, record_are_words, said_are_words, start_are_words}
use Rattle.report_lines.proofs.AgainSteps.{checkpoint_words, dumped_are_words}
use Rattle.report_lines.proofs.AreLines.{command_is_line, crash_is_line, event_is_line, log_is_line, multi_is_line, record_is_line, round_is_line, start_is_line, step_is_line, title_is_line, word_is_line}
use Rattle.report_read.specs.Item.{Item}
use Rattle.report_read.specs.Item as items
use Rattle.report_read.specs.Grammar.{Rule, item_line}
use Rattle.report_read.specs.declared.told.Told.{Told}

pub how_words : How → List (List ℕ)
how_words hows.Lost = codes "lost" ∷ []
how_words hows.Kept = codes "kept" ∷ []
how_words hows.Torn = codes "torn" ∷ []

abbrev pub step_words : List (List ℕ) → Step → List (List ℕ)
step_words names (steps.Round number lines) = []
step_words names (steps.Checkpoint reply) = codes "checkpoint" ∷ codes "->" ∷ reply_words names reply
step_words names (steps.Dump what from size reply) = codes "dump" ∷ (dump_words what ++ decimal from ∷ decimal size ∷ codes "->" ∷ reply_words names reply)

abbrev pub item_words : List (List ℕ) → Item → List (List ℕ)
item_words names items.title = codes "txid" ∷ codes "report" ∷ codes "1" ∷ []
item_words names (items.life number s) = codes "life" ∷ decimal number ∷ codes "from" ∷ decimal s.from ∷ counters_words s.base
item_words names (items.round number) = codes "round" ∷ decimal number ∷ []
item_words names (items.command l) = name_at names l.by.session ∷ decimal l.by.command ∷ command_word l.command ∷ (command_rest l.command ++ codes "->" ∷ reply_words names l.reply)
item_words names (items.step s) = step_words names s
item_words names items.history = codes "history" ∷ []
item_words names (items.event e) = event_words names e
item_words names items.multis = codes "multis" ∷ []
item_words names (items.multi e) = multi_event_words names e
item_words names (items.log l) = codes "log" ∷ codes "flushed" ∷ decimal l.flushed ∷ codes "end" ∷ decimal l.end ∷ []
item_words names (items.logged number r) = decimal number ∷ record_words r
item_words names (items.crash how) = codes "crash" ∷ how_words how
item_words names items.last = codes "end" ∷ []

pub step_again : (names : List (List ℕ)) (s : Step) (bytes : List ℕ) → 1 ≤ length bytes → AreNames names → FitsStep names s → drop 1 bytes ≡ step_text names s → behind (take (length bytes - 1) bytes) ≡ step_words names s
unfolding step_text
step_again names (steps.Round number lines) bytes l n f e = absurd f
step_again names (steps.Checkpoint reply) bytes l n f e = line_again bytes (codes "checkpoint") (codes "->" ∷ reply_words names reply) l (checkpoint_words names reply n f) e
step_again names (steps.Dump what from size reply) bytes l n f e = line_again bytes (codes "dump") (dump_words what ++ decimal from ∷ decimal size ∷ codes "->" ∷ reply_words names reply) l (dumped_are_words names what from size reply f.0 f.1) e

crash_again : (how : How) (bytes : List ℕ) → 1 ≤ length bytes → drop 1 bytes ≡ crash_text (Some how) → behind (take (length bytes - 1) bytes) ≡ codes "crash" ∷ how_words how
unfolding crash_text how_words
crash_again hows.Lost bytes l e = line_again bytes (codes "crash") (codes "lost" ∷ []) l (search rules, (search rules, tt)) e
crash_again hows.Kept bytes l e = line_again bytes (codes "crash") (codes "kept" ∷ []) l (search rules, (search rules, tt)) e
crash_again hows.Torn bytes l e = line_again bytes (codes "crash") (codes "torn" ∷ []) l (search rules, (search rules, tt)) e

life_again : (number : ℕ) (bytes : List ℕ) (t : Told) (names : List (List ℕ)) (s : _) → 1 ≤ length bytes → Rule t (items.life number s) names → drop 1 bytes ≡ item_line names (items.life number s) → behind (take (length bytes - 1) bytes) ≡ item_words names (items.life number s)
unfolding life_line
life_again number bytes t names s l r e = line_again bytes (codes "life") (decimal number ∷ codes "from" ∷ decimal s.from ∷ counters_words s.base) l (start_are_words number s r.2 r.3) e

pub line_words : (t : Told) (x : Item) (names : List (List ℕ)) (bytes : List ℕ) → 1 ≤ length bytes → Rule t x names → drop 1 bytes ≡ item_line names x → behind (take (length bytes - 1) bytes) ≡ item_words names x
line_words t items.title names bytes l r e = line_again bytes (codes "txid") (codes "report" ∷ codes "1" ∷ []) l (search rules, (search rules, (search rules, tt))) e
line_words t (items.life number s) names bytes l r e = life_again number bytes t names s l r e
line_words t (items.round number) names bytes l r e = line_again bytes (codes "round") (decimal number ∷ []) l (search rules, (number_word number r.2, tt)) e
line_words t (items.command c) names bytes l r e = line_again bytes (name_at names c.by.session) (decimal c.by.command ∷ command_word c.command ∷ (command_rest c.command ++ codes "->" ∷ reply_words names c.reply)) l (said_are_words names c r.0.are r.1) e
line_words t (items.step s) names bytes l r e = step_again names s bytes l r.1 r.2 e
line_words t items.history names bytes l r e = line_again bytes (codes "history") [] l (search rules, tt) e
line_words t (items.event v) names bytes l r e = line_again bytes (event_word v) (by_words names (by_of v) ++ event_rest v) l (event_are_words names v r.0.are r.1) e
line_words t items.multis names bytes l r e = line_again bytes (codes "multis") [] l (search rules, tt) e
line_words t (items.multi v) names bytes l r e = line_again bytes (multi_event_word v) (by_words names (multi_by v) ++ multi_event_rest v) l (multi_event_are_words names v r.0.are r.1) e
line_words t (items.log h) names bytes l r e = line_again bytes (codes "log") (codes "flushed" ∷ decimal h.flushed ∷ codes "end" ∷ decimal h.end ∷ []) l (log_are_words h r.1) e
line_words t (items.logged number c) names bytes l r e = line_again bytes (decimal number) (record_words c) l (number_word number r.2, record_are_words number c r.3) e
line_words t (items.crash how) names bytes l r e = crash_again how bytes l e
line_words t items.last names bytes l r e = line_again bytes (codes "end") [] l (search rules, tt) e

-- lines that are the same have the same words
pub same_words : (t : Told) (x y : Item) (m k : List (List ℕ)) → Rule t x m → Rule t y k → item_line m x ≡ item_line k y → item_words m x ≡ item_words k y
same_words t x y m k a b e =
    let l : 1 ≤ length (10 ∷ item_line m x) = omega arith in
    sym (line_words t x m (10 ∷ item_line m x) l a refl) ∙ line_words t y k (10 ∷ item_line m x) l b e

pub item_is_line : (t : Told) (x : Item) (names : List (List ℕ)) → Rule t x names → IsLine (item_line names x)
item_is_line t items.title names r = title_is_line
item_is_line t (items.life number s) names r = start_is_line number s r.2 r.3
item_is_line t (items.round number) names r = round_is_line number r.2
item_is_line t (items.command c) names r = command_is_line names c r.0.are r.1
item_is_line t (items.step s) names r = step_is_line names s r.1 r.2
item_is_line t items.history names r = word_is_line (codes "history") (search rules)
item_is_line t (items.event v) names r = event_is_line names v r.0.are r.1
item_is_line t items.multis names r = word_is_line (codes "multis") (search rules)
item_is_line t (items.multi v) names r = multi_is_line names v r.0.are r.1
item_is_line t (items.log h) names r = log_is_line h r.1
item_is_line t (items.logged number c) names r = record_is_line number c r.2 r.3
item_is_line t (items.crash how) names r = crash_is_line how
item_is_line t items.last names r = word_is_line (codes "end") (search rules)
