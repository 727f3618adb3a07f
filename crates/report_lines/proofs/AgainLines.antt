-- Commands with their replies, records and the lines that begin a life and its log are read again.
use Rattle.std.proofs.Common.{rules, ◌≡◌, ℕ, ◌-◌, ◌^◌, ◌<◌, ◌≤◌, List, [], ◌∷◌, ◌++◌, Some, inr, refl, arith, codes, length, take, drop}
use Rattle.std.specs.List.{AllByRecursion}
use Rattle.std.specs.Fmt.{decimal}
use Rattle.tx_model.specs.declared.command.Command.{Command}
use Rattle.tx_model.specs.declared.command.Command.TheVariants as commands
use Rattle.tx_events.specs.declared.record.Counters.{Counters}
use Rattle.tx_events.specs.declared.record.Rec.{Rec}
use Rattle.tx_events.specs.declared.record.Rec.TheVariants as records
use Rattle.tx_model.specs.declared.report.Line.{Line}
use Rattle.report_text.specs.Words.{line_text, name_at}
use Rattle.report_text.specs.CommandText.{command_word, command_rest, command_words}
use Rattle.report_text.specs.ReplyText.{reply_words}
use Rattle.report_text.specs.RecordText.{counters_words, record_words}
use Rattle.report_text.specs.ReportText.{command_line, life_line}
use Rattle.report_words.specs.Words.{behind, AreWords}
use Rattle.report_words.specs.Fits.{FitsCounters, FitsId, AreNames, FitsCommand, FitsLine, FitsRecord}
use Rattle.report_words.proofs.Again.{number_at_again, number_word, id_again, by_again, line_gives, name_is_word, name_word}
use Rattle.report_words.proofs.Snaps.{multi_again, named_again, counters_again, all_ids}
use Rattle.report_lines.specs.declared.life.Start.{Start}
use Rattle.report_lines.specs.declared.life.LogHead.{LogHead}
use Rattle.report_words.specs.Replies.{kind_of}
use Rattle.report_lines.specs.Commands.{plain_command, named_command, number_command, long_command, command_at, line_at}
use Rattle.report_lines.specs.Records.{ended_at, multi_record_at, truncate_at, record_at, record_line_at, start_at, log_at}
use Rattle.report_lines.specs.Texts.{log_line, start_line}
use Rattle.report_lines.specs.Fits.{FitsStart, FitsLog}
use Rattle.report_words.proofs.AgainMembers.{small_again, pairs_again, members_again, words_append, pairs_are_words, members_are_words}
use Rattle.report_words.proofs.AgainReplies.{reply_again, reply_are_words, ids_are_words}

pub command_again : (c : Command) (ws : List (List ℕ)) → FitsCommand c → command_at (command_word c ∷ (command_rest c ++ codes "->" ∷ ws)) ≡ Some (c, codes "->" ∷ ws)
unfolding command_at command_word plain_command long_command named_command number_command
command_again (commands.Snap name) ws f = rw f refl
command_again (commands.DropSnap name) ws f = rw f refl
command_again (commands.See name x) ws f = rw (f.0, number_at_again x.number (codes "->" ∷ ws) (omega arith), small_again x.number f.1) refl
command_again (commands.Status x) ws f = rw (number_at_again x (codes "->" ∷ ws) (omega arith), id_again x (omega arith, f.0)) refl
command_again (commands.Did x) ws f = rw (number_at_again x.number (codes "->" ∷ ws) (omega arith), small_again x.number f) refl
command_again (commands.Multi members) ws f = rw (pairs_again members ws f) refl
command_again (commands.SeeMulti name multi) ws f = rw (f.0, number_at_again multi.number (codes "->" ∷ ws) (omega arith), small_again multi.number f.2) refl
command_again (commands.Freeze oldest) ws f = rw (number_at_again oldest (codes "->" ∷ ws) (omega arith), id_again oldest (omega arith, inr f.0)) refl
command_again (commands.MultiFreeze multi) ws f = rw (number_at_again multi (codes "->" ∷ ws) (omega arith), multi_again multi (omega arith, f.0)) refl
command_again _ ws f = refl

command_are_words : (c : Command) → FitsCommand c → AreWords (command_words c)
unfolding command_word
command_are_words (commands.Snap name) f = (search rules, (name_word name f, tt))
command_are_words (commands.DropSnap name) f = (search rules, (name_word name f, tt))
command_are_words (commands.See name x) f = (search rules, (name_word name f.0, (number_word x.number (omega arith), tt)))
command_are_words (commands.Status x) f = (search rules, (number_word x (omega arith), tt))
command_are_words (commands.Did x) f = (search rules, (number_word x.number (omega arith), tt))
command_are_words (commands.Multi members) f = (search rules, pairs_are_words members f)
command_are_words (commands.SeeMulti name multi) f = (search rules, (name_word name f.0, (number_word multi.number (omega arith), tt)))
command_are_words (commands.Freeze oldest) f = (search rules, (number_word oldest (omega arith), tt))
command_are_words (commands.MultiFreeze multi) f = (search rules, (number_word multi (omega arith), tt))
command_are_words _ f = search rules

pub line_words_again : (names : List (List ℕ)) (l : Line) → AreNames names → FitsLine names l → line_at names (name_at names l.by.session ∷ decimal l.by.command ∷ command_word l.command ∷ (command_rest l.command ++ codes "->" ∷ reply_words names l.reply)) ≡ Some l
unfolding line_at
line_words_again names l n f = rw (by_again names l.by _ n f.by, command_again l.command (reply_words names l.reply) f.command, reply_again names (kind_of l.command) l.reply f.reply) refl

pub said_are_words : (names : List (List ℕ)) (l : Line) → AreNames names → FitsLine names l → AreWords (name_at names l.by.session ∷ decimal l.by.command ∷ command_word l.command ∷ (command_rest l.command ++ codes "->" ∷ reply_words names l.reply))
said_are_words names l n f =
    let c : AreWords (command_words l.command) = command_are_words l.command f.command in
    (name_is_word names l.by.session n.each f.by.session, (number_word l.by.command f.by.command, (c.0, words_append (command_rest l.command) (codes "->" ∷ reply_words names l.reply) c.1 (search rules, reply_are_words names (kind_of l.command) l.reply f.reply))))

pub command_line_again : (names : List (List ℕ)) (bytes : List ℕ) (l : Line) → AreNames names → 1 ≤ length bytes → FitsLine names l → drop 1 bytes ≡ command_line names l → line_at names (behind (take (length bytes - 1) bytes)) ≡ Some l
command_line_again names bytes l n s f t =
    line_gives (line_at names) bytes _ _ (Some l) s (line_words_again names l n f) (said_are_words names l n f) t

-- ---- records

pub commit_again : (top : ℕ) (subs : List ℕ) → FitsId top → AllByRecursion FitsId subs → ended_at (record_words (records.Commit top subs)) ≡ Some (records.Commit top subs)
unfolding ended_at
commit_again top subs f g = rw (number_at_again top _ f.0, id_again top f, all_ids subs g) refl

pub abort_again : (top : ℕ) (subs : List ℕ) → FitsId top → AllByRecursion FitsId subs → ended_at (record_words (records.Abort top subs)) ≡ Some (records.Abort top subs)
unfolding ended_at
abort_again top subs f g = rw (number_at_again top _ f.0, id_again top f, all_ids subs g) refl

checkpoint_again : (n : ℕ) (c : Counters) → FitsCounters c → record_at n (codes "checkpoint" ∷ counters_words c) ≡ Some (records.Checkpoint n c)
unfolding record_at
checkpoint_again n c f = rw (counters_again c f) refl

pub record_again : (n : ℕ) (r : Rec) → FitsRecord n r → record_at n (record_words r) ≡ Some r
unfolding record_at multi_record_at truncate_at
record_again n (records.Commit top subs) f = commit_again top subs f.0 f.1
record_again n (records.Abort top subs) f = abort_again top subs f.0 f.1
record_again n (records.Multi multi offset members) f = rw (number_at_again multi _ f.0.0, multi_again multi f.0, number_at_again offset _ f.1, members_again members f.2) refl
record_again n (records.Checkpoint number counters) f = rw f.0 (checkpoint_again n counters f.1)
record_again n (records.Truncate oldest multi offset) f = rw (number_at_again oldest _ f.0.0, id_again oldest f.0, number_at_again multi _ f.1.0, multi_again multi f.1, number_at_again offset [] f.2) refl

counters_are_words : (c : Counters) → FitsCounters c → AreWords (counters_words c)
unfolding counters_words
counters_are_words c f = (search rules, (number_word c.next f.next.0, (search rules, (number_word c.oldest f.oldest.0, (search rules, (number_word c.multi f.multi.0, (search rules, (number_word c.offset f.offset, (search rules, (number_word c.oldest_multi f.oldest_multi.0, (search rules, (number_word c.oldest_offset f.oldest_offset, tt))))))))))))

pub record_are_words : (n : ℕ) (r : Rec) → FitsRecord n r → AreWords (record_words r)
record_are_words n (records.Commit top subs) f = (search rules, (number_word top f.0.0, ids_are_words subs f.1))
record_are_words n (records.Abort top subs) f = (search rules, (number_word top f.0.0, ids_are_words subs f.1))
record_are_words n (records.Multi multi offset members) f = (search rules, (number_word multi f.0.0, (number_word offset f.1, members_are_words members f.2)))
record_are_words n (records.Checkpoint number counters) f = (search rules, counters_are_words counters f.1)
record_are_words n (records.Truncate oldest multi offset) f = (search rules, (number_word oldest f.0.0, (number_word multi f.1.0, (number_word offset f.2, tt))))

pub record_line_again : (n : ℕ) (bytes : List ℕ) (r : Rec) → n < 2 ^ 64 → 1 ≤ length bytes → FitsRecord n r → drop 1 bytes ≡ line_text (decimal n ∷ record_words r) → record_line_at n (behind (take (length bytes - 1) bytes)) ≡ Some r
unfolding record_line_at
record_line_again n bytes r l s f t = line_gives (record_line_at n) bytes (decimal n) (record_words r) (Some r) s (record_again n r f) (number_word n l, record_are_words n r f) t

-- ---- the lines that begin a life and its log

start_again : (n : ℕ) (s : Start) → n < 2 ^ 64 → FitsStart s → start_at (codes "life" ∷ decimal n ∷ codes "from" ∷ decimal s.from ∷ counters_words s.base) ≡ Some s
unfolding start_at
start_again n s l f = rw (named_again (codes "life") n _ l, named_again (codes "from") s.from _ f.from, counters_again s.base f.base) refl

pub start_are_words : (n : ℕ) (s : Start) → n < 2 ^ 64 → FitsStart s → AreWords (codes "life" ∷ decimal n ∷ codes "from" ∷ decimal s.from ∷ counters_words s.base)
start_are_words n s l f = (search rules, (number_word n l, (search rules, (number_word s.from f.from, counters_are_words s.base f.base))))

pub start_line_again : (n : ℕ) (bytes : List ℕ) (s : Start) → n < 2 ^ 64 → 1 ≤ length bytes → FitsStart s → drop 1 bytes ≡ start_line n s → start_at (behind (take (length bytes - 1) bytes)) ≡ Some s
unfolding life_line
start_line_again n bytes s l k f t = line_gives start_at bytes _ _ (Some s) k (start_again n s l f) (start_are_words n s l f) t

log_again : (l : LogHead) → FitsLog l → log_at (codes "log" ∷ codes "flushed" ∷ decimal l.flushed ∷ codes "end" ∷ decimal l.end ∷ []) ≡ Some l
unfolding log_at
log_again l f = rw (named_again (codes "flushed") l.flushed _ f.flushed, named_again (codes "end") l.end [] f.end) refl

pub log_are_words : (l : LogHead) → FitsLog l → AreWords (codes "log" ∷ codes "flushed" ∷ decimal l.flushed ∷ codes "end" ∷ decimal l.end ∷ [])
log_are_words l f = (search rules, (search rules, (number_word l.flushed f.flushed, (search rules, (number_word l.end f.end, tt)))))

pub log_line_again : (bytes : List ℕ) (l : LogHead) → 1 ≤ length bytes → FitsLog l → drop 1 bytes ≡ log_line l → log_at (behind (take (length bytes - 1) bytes)) ≡ Some l
log_line_again bytes l k f t = line_gives log_at bytes _ _ (Some l) k (log_again l f) (log_are_words l f) t
