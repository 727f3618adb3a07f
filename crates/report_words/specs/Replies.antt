-- What the words of a reply say, by what was asked.
use Rattle.std.specs.Prelude.{ℕ, ◌+◌, ◌*◌, ◌%◌, ◌||◌, nat_lt, List, [], ◌∷◌, codes, Bool, true, false, cond, Option, Some, None, length}
use Rattle.std.specs.Str.{bytes_eq}
use Rattle.tx_model.specs.declared.command.Command.{Command}
use Rattle.tx_model.specs.declared.command.Command.TheVariants as commands
use Rattle.tx_events.specs.declared.refusal.Refusal.{Refusal}
use Rattle.tx_events.specs.declared.refusal.Refusal.TheVariants as refusals
use Rattle.tx_model.specs.declared.reply.Reply.{Reply}
use Rattle.tx_model.specs.declared.reply.Reply.TheVariants as replies
use Rattle.tx_model.specs.declared.reply.Status.TheVariants as statuses
use Rattle.report_words.specs.Reading.{◌>>=◌, word_at, number_at, full_id, full_multi, name_place, list_ids, behind_list, snap_at}
use Rattle.report_words.specs.declared.reply.Kind.{Kind}
use Rattle.report_words.specs.declared.reply.Kind.TheVariants as kinds
use Rattle.report_words.specs.Members.{small, until_arrow, verdict_of}
use Rattle.report_words.specs.Refusals.{refusal_at}

-- what a command's reply can say
abbrev pub kind_of : Command → Kind
kind_of commands.Begin = kinds.Plain
kind_of commands.Save = kinds.Plain
kind_of commands.Write = kinds.Ids
kind_of commands.Release = kinds.Plain
kind_of commands.Undo = kinds.Plain
kind_of commands.Commit = kinds.Plain
kind_of commands.Abort = kinds.Plain
kind_of commands.Trim = kinds.Plain
kind_of commands.Horizon = kinds.Horizon
kind_of (commands.Snap name) = kinds.Snapshot
kind_of (commands.DropSnap name) = kinds.Plain
kind_of (commands.See name x) = kinds.Look
kind_of (commands.Status x) = kinds.Status
kind_of (commands.Did x) = kinds.Did
kind_of (commands.Multi members) = kinds.Multi
kind_of (commands.SeeMulti name multi) = kinds.Members
kind_of (commands.Freeze oldest) = kinds.Plain
kind_of (commands.MultiFreeze multi) = kinds.Plain

-- whether a warning follows
abbrev pub warn_at : List (List ℕ) → Bool
warn_at [] = false
warn_at (w ∷ ws) = true

unfoldable pub wrote_at : List (List ℕ) → Option Reply
wrote_at ws = Some (replies.Wrote (warn_at (behind_list ws)) (list_ids ws))

unfoldable pub multi_reply_at : List (List ℕ) → Option Reply
multi_reply_at ws = do
  n ← number_at ws
  multi ← full_multi n.0
  offset ← number_at n.1
  Some (replies.Multi multi offset.0 (warn_at offset.1))

unfoldable pub horizon_at : List (List ℕ) → Option Reply
horizon_at ws = do
  n ← number_at ws
  id ← full_id n.0
  Some (replies.Horizon id)

-- behind `ok`
abbrev pub ok_at : Kind → List (List ℕ) → Option Reply
ok_at kinds.Plain ws = Some replies.Done
ok_at kinds.Ids ws = wrote_at ws
ok_at kinds.Snapshot ws = snap_at ws >>= λ s. Some (replies.Snapped s)
ok_at kinds.Look ws = None
ok_at kinds.Status ws = None
ok_at kinds.Did ws = None
ok_at kinds.Multi ws = multi_reply_at ws
ok_at kinds.Members ws = until_arrow verdict_of [] ws >>= λ v. Some (replies.Verdicts v.0)
ok_at kinds.Horizon ws = horizon_at ws

-- a word that is no refusal's
unfoldable pub is_answer : List ℕ → Bool
is_answer w =
    bytes_eq w (codes "visible") || bytes_eq w (codes "hidden") || bytes_eq w (codes "in-progress") || bytes_eq w (codes "committed")
    || bytes_eq w (codes "aborted") || bytes_eq w (codes "yes") || bytes_eq w (codes "no")

unfoldable pub look_in : List ℕ → Option Reply
look_in w = Some (replies.Seen (bytes_eq w (codes "visible")))

unfoldable pub status_in : List ℕ → Option Reply
status_in w =
    cond (bytes_eq w (codes "in-progress")) (Some (replies.Known statuses.InProgress))
    (cond (bytes_eq w (codes "committed")) (Some (replies.Known statuses.Committed))
    (cond (bytes_eq w (codes "aborted")) (Some (replies.Known statuses.Aborted)) None))

unfoldable pub did_in : List ℕ → Option Reply
did_in w = Some (replies.Did (bytes_eq w (codes "yes")))

abbrev pub answer_in : Kind → List ℕ → Option Reply
answer_in kinds.Plain w = None
answer_in kinds.Ids w = None
answer_in kinds.Snapshot w = None
answer_in kinds.Look w = look_in w
answer_in kinds.Status w = status_in w
answer_in kinds.Did w = did_in w
answer_in kinds.Multi w = None
answer_in kinds.Members w = None
answer_in kinds.Horizon w = None

unfoldable pub reply_at : Kind → List (List ℕ) → Option Reply
reply_at kind ws = do
  w ← word_at ws
  cond (bytes_eq w.0 (codes "ok")) (ok_at kind w.1)
      (cond (is_answer w.0) (answer_in kind w.0) (refusal_at w.0 w.1 >>= λ r. Some (replies.Refused r)))

-- ---- checkpoints

unfoldable pub pending_at : List (List ℕ) → Refusal → List (List ℕ) → Option Reply
pending_at names refusal ws = do
  name ← word_at ws
  session ← name_place names name.0
  Some (replies.Pending session refusal)

unfoldable pub checkpoint_reply_at : List (List ℕ) → List (List ℕ) → Option Reply
checkpoint_reply_at names ws = do
  w ← word_at ws
  cond (bytes_eq w.0 (codes "ok")) (Some replies.Done)
      (cond (bytes_eq w.0 (codes "commit-pending")) (pending_at names refusals.CommitPending w.1)
      (cond (bytes_eq w.0 (codes "multi-pending")) (pending_at names refusals.MultiPending w.1)
      (refusal_at w.0 w.1 >>= λ r. Some (replies.Refused r))))

-- ---- dumps

-- a digit of base 16, whatever the byte is
abbrev pub hex_value : ℕ → ℕ
hex_value b = cond (nat_lt b 58) (b + 208) (b + 169) % 256

abbrev pub byte_of : List ℕ → Option ℕ
byte_of (a ∷ b ∷ []) = Some ((16 * hex_value a + hex_value b) % 256)
byte_of _ = None

abbrev pub bytes_at : List (List ℕ) → Option Reply
bytes_at ws = until_arrow byte_of [] ws >>= λ b. Some (replies.Bytes b.0)

unfoldable pub cut_at : List (List ℕ) → Option Reply
cut_at ws = do
  n ← number_at ws
  page ← small n.0
  Some (replies.Cut page)

unfoldable pub dump_reply_at : List (List ℕ) → Option Reply
dump_reply_at ws = do
  w ← word_at ws
  cond (nat_lt (length w.0) 2) (Some (replies.Bytes []))
      (cond (nat_lt (length w.0) 3) (bytes_at ws)
      (cond (bytes_eq w.0 (codes "cut")) (cut_at w.1) (refusal_at w.0 w.1 >>= λ r. Some (replies.Refused r))))
