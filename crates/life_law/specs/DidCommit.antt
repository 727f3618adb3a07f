-- What is answered of an id by the stores alone (TransactionIdDidCommit of transam.c): its commit record may stand before
-- its commit counts.
use Rattle.std.specs.Prelude.{◌≡◌, ℕ, ◌<◌, ◌≤◌, ◌==◌, ◌⊎◌, Bool, true, false, not, List, ◌∷◌, Some, Contains, take}
use Rattle.tx_events.specs.declared.event.By.{By}
use Rattle.tx_events.specs.declared.event.Event.{Event}
use Rattle.tx_events.specs.declared.record.Counters.{Counters}
use Rattle.tx_events.specs.declared.record.Rec.{Rec}
use Rattle.tx_events.specs.declared.record.Rec.TheVariants as records
use Rattle.tx_events.specs.Visible.{is_visible}
use Rattle.tx_model.specs.Replies.{IsNearNext, IsNotTooOld, MayReadAt, RoundSpan}

-- a commit record names the id
pub record IsRecorded (recs : List Rec) (id : ℕ) : Type 0 where
  pub top : ℕ
  pub subs : List ℕ
  pub stands : Contains recs (records.Commit top subs)
  pub among : Contains (top ∷ subs) id

-- a special id has a fixed answer
abbrev pub special_did : ℕ → Bool
special_did x = not (x == 0)

-- at a place where the command may read, the id doesn't count as committed
pub record WasUncommitted (committed : List ℕ) (h : List Event) (round : RoundSpan) (by : By) (id : ℕ) : Type 0 where
  pub place : ℕ
  pub read : MayReadAt h round by place
  pub hidden : is_visible committed (take place h) id ≡ false

-- What is answered of the id that the stored id means. Where the states on pages are told, yes is answered of an id with
-- which the life began as committed, or which a commit record names, and no of one whose commit the command needn't have
-- seen.
pub record IsDidOf (told : Type 0) (base : Counters) (committed : List ℕ) (h : List Event) (recs : List Rec) (round : RoundSpan) (by : By) (x : ℕ) (answer : Bool) : Type 0 where
  pub id : ℕ
  pub near : IsNearNext base h round by x (Some id)
  pub young : IsNotTooOld base h round by id
  pub for_yes : told → answer ≡ true → Contains committed id ⊎ IsRecorded recs id
  pub for_no : told → answer ≡ false → WasUncommitted committed h round by id

abbrev pub IsDid : Type 0 → Counters → List ℕ → List Event → List Rec → RoundSpan → By → ℕ → Bool → Type 0
IsDid told base committed h recs round by x answer =
    (x < 3 → answer ≡ special_did x) × (3 ≤ x → IsDidOf told base committed h recs round by x answer)
