-- No two records of the log contradict each other.
use Rattle.std.specs.Prelude.{ℕ, List, ◌∷◌, Contains}
use Rattle.tx_events.specs.declared.event.By.{By}
use Rattle.tx_events.specs.declared.multi.Member.{Member}
use Rattle.tx_events.specs.declared.record.Rec.{Rec}
use Rattle.tx_events.specs.declared.record.Rec.TheVariants as records
use Rattle.tx_core.specs.declared.entry.Entry.{Entry}
use Rattle.tx_core.specs.declared.entry.Kind.{Kind}
use Rattle.tx_core.specs.declared.entry.Kind.TheVariants as kinds
use Rattle.tx_core.specs.Entries.{IsAppended}
use Rattle.tx_core.specs.Lists.{Upheld}

-- a commit record among these entries names the id
pub record IsCommitNamed (es : List Entry) (id : ℕ) : Type 0 where
  pub by : By
  pub top : ℕ
  pub subs : List ℕ
  pub stands : Contains es (record { by = by; kind = kinds.Append (records.Commit top subs) })
  pub among : Contains (top ∷ subs) id

-- so an abort record
pub record IsAbortNamed (es : List Entry) (id : ℕ) : Type 0 where
  pub by : By
  pub top : ℕ
  pub subs : List ℕ
  pub stands : Contains es (record { by = by; kind = kinds.Append (records.Abort top subs) })
  pub among : Contains (top ∷ subs) id

-- the multixact has a record among them
pub record IsMultiNamed (es : List Entry) (multi : ℕ) : Type 0 where
  pub by : By
  pub offset : ℕ
  pub members : List Member
  pub stands : Contains es (record { by = by; kind = kinds.Append (records.Multi multi offset members) })

-- no record of an end names one of these ids
abbrev pub EndsOnce : List Entry → List ℕ → Type 0
EndsOnce before ids = (id : ℕ) → Contains ids id → (IsCommitNamed before id → ⊥) × (IsAbortNamed before id → ⊥)

abbrev pub OnceOf : List Entry → Rec → Type 0
OnceOf before (records.Commit top subs) = EndsOnce before (top ∷ subs)
OnceOf before (records.Abort top subs) = EndsOnce before (top ∷ subs)
OnceOf before (records.Multi multi offset members) = IsMultiNamed before multi → ⊥
OnceOf before _ = Unit {0}

abbrev pub OnceIn : List Entry → Kind → Type 0
OnceIn before (kinds.Append rec) = OnceOf before rec
OnceIn before _ = Unit {0}

abbrev pub NeedsOnce : List (List Entry) → ℕ → List Entry → Entry → Type 0
NeedsOnce lists lock before e = OnceIn before e.kind

-- No id stands in two records of ends, be they commits or aborts. No multixact has two records.
pub record RecordsOnce (lists : List (List Entry)) : Type 0 where
  pub each : Upheld NeedsOnce lists

-- What a session knows of its own records. None of them is an abort record of this id,
abbrev pub HasNoAbort : List (List Entry) → ℕ → ℕ → Type 0
HasNoAbort seen session id =
    (top : ℕ) (subs : List ℕ) → IsAppended seen session (records.Abort top subs) → Contains (top ∷ subs) id → ⊥

-- nor the record of this multixact.
abbrev pub HasNoMulti : List (List Entry) → ℕ → ℕ → Type 0
HasNoMulti seen session multi =
    (offset : ℕ) (members : List Member) → IsAppended seen session (records.Multi multi offset members) → ⊥
