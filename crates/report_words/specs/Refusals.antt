-- What the words of a refusal say.
use Rattle.std.specs.Prelude.{ℕ, List, codes, cond, Option, Some, None}
use Rattle.std.specs.Str.{bytes_eq}
use Rattle.tx_events.specs.declared.refusal.Lock.{Lock}
use Rattle.tx_events.specs.declared.refusal.Lock.TheVariants as locks
use Rattle.tx_events.specs.declared.refusal.Refusal.{Refusal}
use Rattle.tx_events.specs.declared.refusal.Refusal.TheVariants as refusals
use Rattle.report_words.specs.Reading.{◌>>=◌, word_at, number_at, full_id, full_multi}
use Rattle.report_words.specs.Members.{small}

abbrev pub first_of : {X : Type 0} → Option X → Option X → Option X
first_of None o = o
first_of (Some x) o = Some x

-- a refusal of one word, about a session's transaction
unfoldable pub own_refusal : List ℕ → Option Refusal
own_refusal w =
    cond (bytes_eq w (codes "already-open")) (Some refusals.AlreadyOpen)
    (cond (bytes_eq w (codes "no-transaction")) (Some refusals.NoTransaction)
    (cond (bytes_eq w (codes "no-savepoint")) (Some refusals.NoSavepoint)
    (cond (bytes_eq w (codes "depth-limit")) (Some refusals.DepthLimit)
    (cond (bytes_eq w (codes "commit-pending")) (Some refusals.CommitPending)
    (cond (bytes_eq w (codes "abort-pending")) (Some refusals.AbortPending)
    (cond (bytes_eq w (codes "undo-pending")) (Some refusals.UndoPending) None))))))

-- and the others of one word
unfoldable pub other_refusal : List ℕ → Option Refusal
other_refusal w =
    cond (bytes_eq w (codes "log-fault")) (Some refusals.LogFault)
    (cond (bytes_eq w (codes "log-full")) (Some refusals.Full)
    (cond (bytes_eq w (codes "name-taken")) (Some refusals.NameTaken)
    (cond (bytes_eq w (codes "snap-limit")) (Some refusals.SnapLimit)
    (cond (bytes_eq w (codes "no-snapshot")) (Some refusals.NoSnapshot)
    (cond (bytes_eq w (codes "two-updaters")) (Some refusals.TwoUpdaters)
    (cond (bytes_eq w (codes "member-count")) (Some refusals.MemberCount)
    (cond (bytes_eq w (codes "multi-pending")) (Some refusals.MultiPending)
    (cond (bytes_eq w (codes "memory")) (Some refusals.Memory) None))))))))

unfoldable pub bank_lock : List ℕ → ℕ → Option Lock
bank_lock w bank =
    cond (bytes_eq w (codes "xact")) (Some (locks.Xact bank))
    (cond (bytes_eq w (codes "subtrans")) (Some (locks.Subtrans bank))
    (cond (bytes_eq w (codes "offsets")) (Some (locks.Offsets bank))
    (cond (bytes_eq w (codes "members")) (Some (locks.Members bank)) None)))

-- the lock whose volume failed
unfoldable pub lock_at : List (List ℕ) → Option Lock
lock_at ws = do
  w ← word_at ws
  cond (bytes_eq w.0 (codes "log")) (Some locks.Log) (number_at w.1 >>= λ n. small n.0 >>= λ bank. bank_lock w.0 bank)

-- a refusal with an id
unfoldable pub id_refusal : List ℕ → ℕ → Option Refusal
id_refusal w id =
    cond (bytes_eq w (codes "too-old")) (Some (refusals.TooOld id))
    (cond (bytes_eq w (codes "future")) (Some (refusals.Future id))
    (cond (bytes_eq w (codes "too-new")) (Some (refusals.TooNew id)) None))

-- a refusal with a multixact
unfoldable pub multi_refusal : List ℕ → ℕ → Option Refusal
multi_refusal w multi =
    cond (bytes_eq w (codes "not-yet")) (Some (refusals.NotYet multi))
    (cond (bytes_eq w (codes "multi-too-old")) (Some (refusals.MultiTooOld multi))
    (cond (bytes_eq w (codes "multi-future")) (Some (refusals.MultiFuture multi))
    (cond (bytes_eq w (codes "held")) (Some (refusals.Held multi)) None)))

-- a refusal with a number
unfoldable pub number_refusal : List ℕ → ℕ → Option Refusal
number_refusal w n =
    cond (bytes_eq w (codes "log-down")) (Some (refusals.LogDown n))
    (cond (bytes_eq w (codes "backward")) (Some (refusals.Backward n))
    (cond (bytes_eq w (codes "not-given")) (small n >>= λ x. Some (refusals.NotGiven (record { number = x }))) None))

-- a refusal with two numbers
unfoldable pub stop_refusal : List ℕ → ℕ → ℕ → Option Refusal
stop_refusal w n m =
    cond (bytes_eq w (codes "stop")) (full_id n >>= λ a. full_id m >>= λ b. Some (refusals.Stop a b))
    (cond (bytes_eq w (codes "multi-stop")) (full_multi n >>= λ a. full_multi m >>= λ b. Some (refusals.MultiStop a b))
    (cond (bytes_eq w (codes "member-stop")) (Some (refusals.MemberStop n m)) None))

-- a refusal with one number, whatever it is of
unfoldable pub one_refusal : List ℕ → ℕ → Option Refusal
one_refusal w n =
    first_of (number_refusal w n)
    (first_of (full_id n >>= λ id. id_refusal w id) (full_multi n >>= λ multi. multi_refusal w multi))

-- a refusal with numbers
unfoldable pub counted_refusal : List ℕ → List (List ℕ) → Option Refusal
counted_refusal w ws = do
  n ← number_at ws
  first_of (one_refusal w n.0) (number_at n.1 >>= λ m. stop_refusal w n.0 m.0)

-- a refusal behind its first word
unfoldable pub refusal_at : List ℕ → List (List ℕ) → Option Refusal
refusal_at w ws =
    first_of (own_refusal w)
    (first_of (other_refusal w)
    (cond (bytes_eq w (codes "disk-fault")) (lock_at ws >>= λ l. Some (refusals.DiskFault l)) (counted_refusal w ws)))
