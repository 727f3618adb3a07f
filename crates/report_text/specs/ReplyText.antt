-- The words of replies and refusals.
use Rattle.std.specs.Prelude.{ℕ, ◌+◌, ◌/◌, ◌%◌, nat_lt, if◌then◌else◌, List, [], ◌∷◌, ◌++◌, codes, Bool, true, false, cond, map}
use Rattle.std.specs.Fmt.{decimal}
use Rattle.report_text.specs.Words.{numbers_or_dash, yes_or_no, name_at}
use Rattle.report_text.specs.MemberText.{member_verdict_words}
use Rattle.tx_events.specs.declared.refusal.Lock.{Lock}
use Rattle.tx_events.specs.declared.refusal.Lock.TheVariants as locks
use Rattle.tx_events.specs.declared.refusal.Refusal.{Refusal}
use Rattle.tx_events.specs.declared.refusal.Refusal.TheVariants as refusals
use Rattle.tx_model.specs.declared.reply.Reply.{Reply}
use Rattle.tx_model.specs.declared.reply.Reply.TheVariants as replies
use Rattle.tx_events.specs.declared.snapshot.SnapData.{SnapData}
use Rattle.tx_model.specs.declared.reply.Status.{Status}
use Rattle.tx_model.specs.declared.reply.Status.TheVariants as statuses

-- a refusal's first word
unfoldable pub refusal_word : Refusal → List ℕ
refusal_word refusals.AlreadyOpen = codes "already-open"
refusal_word refusals.NoTransaction = codes "no-transaction"
refusal_word refusals.NoSavepoint = codes "no-savepoint"
refusal_word refusals.DepthLimit = codes "depth-limit"
refusal_word refusals.CommitPending = codes "commit-pending"
refusal_word refusals.AbortPending = codes "abort-pending"
refusal_word refusals.UndoPending = codes "undo-pending"
refusal_word (refusals.Stop next stop) = codes "stop"
refusal_word (refusals.DiskFault lock) = codes "disk-fault"
refusal_word refusals.LogFault = codes "log-fault"
refusal_word (refusals.LogDown at) = codes "log-down"
refusal_word refusals.Full = codes "log-full"
refusal_word refusals.NameTaken = codes "name-taken"
refusal_word refusals.SnapLimit = codes "snap-limit"
refusal_word refusals.NoSnapshot = codes "no-snapshot"
refusal_word (refusals.TooOld oldest) = codes "too-old"
refusal_word (refusals.Future next) = codes "future"
refusal_word refusals.TwoUpdaters = codes "two-updaters"
refusal_word refusals.MemberCount = codes "member-count"
refusal_word (refusals.NotGiven x) = codes "not-given"
refusal_word (refusals.MultiStop next stop) = codes "multi-stop"
refusal_word (refusals.MemberStop next stop) = codes "member-stop"
refusal_word (refusals.NotYet multi) = codes "not-yet"
refusal_word (refusals.MultiTooOld oldest) = codes "multi-too-old"
refusal_word (refusals.MultiFuture next) = codes "multi-future"
refusal_word (refusals.Backward now) = codes "backward"
refusal_word (refusals.TooNew limit) = codes "too-new"
refusal_word (refusals.Held limit) = codes "held"
refusal_word refusals.MultiPending = codes "multi-pending"
refusal_word refusals.Memory = codes "memory"

-- the lock whose volume failed
abbrev pub lock_words : Lock → List (List ℕ)
lock_words locks.Log = codes "log" ∷ []
lock_words locks.Proc = codes "proc" ∷ []
lock_words locks.Multi = codes "multi" ∷ []
lock_words (locks.Xact bank) = codes "xact" ∷ decimal bank ∷ []
lock_words (locks.Subtrans bank) = codes "subtrans" ∷ decimal bank ∷ []
lock_words (locks.Offsets bank) = codes "offsets" ∷ decimal bank ∷ []
lock_words (locks.Members bank) = codes "members" ∷ decimal bank ∷ []

-- and the words behind it
abbrev pub refusal_rest : Refusal → List (List ℕ)
refusal_rest refusals.AlreadyOpen = []
refusal_rest refusals.NoTransaction = []
refusal_rest refusals.NoSavepoint = []
refusal_rest refusals.DepthLimit = []
refusal_rest refusals.CommitPending = []
refusal_rest refusals.AbortPending = []
refusal_rest refusals.UndoPending = []
refusal_rest (refusals.Stop next stop) = decimal next ∷ decimal stop ∷ []
refusal_rest (refusals.DiskFault lock) = lock_words lock
refusal_rest refusals.LogFault = []
refusal_rest (refusals.LogDown at) = decimal at ∷ []
refusal_rest refusals.Full = []
refusal_rest refusals.NameTaken = []
refusal_rest refusals.SnapLimit = []
refusal_rest refusals.NoSnapshot = []
refusal_rest (refusals.TooOld oldest) = decimal oldest ∷ []
refusal_rest (refusals.Future next) = decimal next ∷ []
refusal_rest refusals.TwoUpdaters = []
refusal_rest refusals.MemberCount = []
refusal_rest (refusals.NotGiven x) = decimal x.number ∷ []
refusal_rest (refusals.MultiStop next stop) = decimal next ∷ decimal stop ∷ []
refusal_rest (refusals.MemberStop next stop) = decimal next ∷ decimal stop ∷ []
refusal_rest (refusals.NotYet multi) = decimal multi ∷ []
refusal_rest (refusals.MultiTooOld oldest) = decimal oldest ∷ []
refusal_rest (refusals.MultiFuture next) = decimal next ∷ []
refusal_rest (refusals.Backward now) = decimal now ∷ []
refusal_rest (refusals.TooNew limit) = decimal limit ∷ []
refusal_rest (refusals.Held limit) = decimal limit ∷ []
refusal_rest refusals.MultiPending = []
refusal_rest refusals.Memory = []

abbrev pub refusal_words : Refusal → List (List ℕ)
refusal_words r = refusal_word r ∷ refusal_rest r

-- the warning that limits are near
abbrev pub warned : Bool → List (List ℕ)
warned true = codes "warn" ∷ []
warned false = []

unfoldable pub status_word : Status → List ℕ
status_word statuses.InProgress = codes "in-progress"
status_word statuses.Committed = codes "committed"
status_word statuses.Aborted = codes "aborted"

-- what a snapshot holds
unfoldable pub snapshot_words : SnapData → List (List ℕ)
snapshot_words s =
    codes "xmin" ∷ decimal s.xmin ∷ codes "xmax" ∷ decimal s.xmax ∷ codes "xip" ∷ numbers_or_dash s.xip
    ++ codes "sub" ∷ numbers_or_dash s.subxip ++ codes "overflow" ∷ yes_or_no s.overflowed ∷ []

-- a digit of base 16: `0` to `9`, and then `a` to `f`
abbrev pub hex_digit : ℕ → ℕ
hex_digit d = if nat_lt d 10 then 48 + d else 87 + d

-- a byte in two digits of base 16
unfoldable pub hex_word : ℕ → List ℕ
hex_word byte = hex_digit (byte / 16) ∷ hex_digit (byte % 16) ∷ []

-- the bytes of a dump, or a dash for none
abbrev pub dump_bytes : List ℕ → List (List ℕ)
dump_bytes [] = codes "-" ∷ []
dump_bytes (b ∷ bytes) = map hex_word (b ∷ bytes)

-- a reply's words, given the names of the sessions
abbrev pub reply_words : List (List ℕ) → Reply → List (List ℕ)
reply_words names replies.Done = codes "ok" ∷ []
reply_words names (replies.Wrote warn ids) = codes "ok" ∷ numbers_or_dash ids ++ warned warn
reply_words names (replies.Snapped s) = codes "ok" ∷ snapshot_words s
reply_words names (replies.Seen visible) = cond visible (codes "visible") (codes "hidden") ∷ []
reply_words names (replies.Known status) = status_word status ∷ []
reply_words names (replies.Did has) = yes_or_no has ∷ []
reply_words names (replies.Multi multi offset warn) = codes "ok" ∷ decimal multi ∷ decimal offset ∷ warned warn
reply_words names (replies.Verdicts list) = codes "ok" ∷ member_verdict_words list
reply_words names (replies.Horizon oldest_xmin) = codes "ok" ∷ decimal oldest_xmin ∷ []
reply_words names (replies.Bytes bytes) = dump_bytes bytes
reply_words names (replies.Cut cutoff) = codes "cut" ∷ decimal cutoff ∷ []
reply_words names (replies.Pending session refusal) = refusal_word refusal ∷ name_at names session ∷ []
reply_words names (replies.Refused refusal) = refusal_words refusal
