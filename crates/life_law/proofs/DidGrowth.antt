-- What the stores alone may answer they may answer when the history has grown by events of other commands, and the log by
-- records.
use Rattle.std.proofs.Common.{Bool, Contains, List, ap, arith, inl, inr, length, ⊎_elim, ℕ, ◌++◌, ◌∙◌, ◌≤◌, Some}
use Rattle.std.proofs.Math.Seq.{take-append-le}
use Rattle.tx_events.specs.declared.event.By.{By}
use Rattle.tx_events.specs.declared.event.Event.{Event}
use Rattle.tx_events.specs.declared.record.Counters.{Counters}
use Rattle.tx_events.specs.declared.record.Rec.{Rec}
use Rattle.tx_events.specs.declared.record.Rec.TheVariants as records
use Rattle.tx_events.specs.Visible.{is_visible}
use Rattle.tx_events.proofs.OwnEvents.{AreLater}
use Rattle.tx_model.specs.Replies.{RoundSpan}
use Rattle.tx_model.proofs.Growth.{near_next_grows, read_grows, young_grows}
use Rattle.life_law.specs.DidCommit.{IsDid, IsDidOf, IsRecorded, WasUncommitted}

pub recorded_wider : (recs more : List Rec) (id : ℕ) → ((rec : Rec) → Contains recs rec → Contains more rec) → IsRecorded recs id → IsRecorded more id
recorded_wider recs more id f r = record { top = r.top; subs = r.subs; stands = f (records.Commit r.top r.subs) r.stands; among = r.among }

module _ (committed : List ℕ) (h es : List Event) (r r' : RoundSpan) (by : By) (from : r'.from ≤ r.from) (to : r.to ≤ r'.to) (within : r.to ≤ length h) (later : AreLater by es) where
  was_grows : (id : ℕ) → WasUncommitted committed h r by id → WasUncommitted committed (h ++ es) r' by id
  was_grows id u = record {
    place = u.place;
    read = read_grows h es r r' by u.place from to within later u.read;
    hidden = ap (λ (t : List Event). is_visible committed t id) (take-append-le u.place h es (omega (arith, u.read.not_past))) ∙ u.hidden;
  }

  did_of_grows : (told less : Type 0) (base : Counters) (recs more : List Rec) (x : ℕ) (answer : Bool) → (less → told) → ((rec : Rec) → Contains recs rec → Contains more rec) → IsDidOf told base committed h recs r by x answer → IsDidOf less base committed (h ++ es) more r' by x answer
  did_of_grows told less base recs more x answer f wider k = record {
    id = k.id;
    near = near_next_grows base h es r r' by x (Some k.id) from to within later k.near;
    young = young_grows base h es r r' by k.id from to within later k.young;
    for_yes = λ t q. ⊎_elim inl (λ c. inr (recorded_wider recs more k.id wider c)) (k.for_yes (f t) q);
    for_no = λ t q. was_grows k.id (k.for_no (f t) q);
  }

pub did_grows : (told less : Type 0) (base : Counters) (committed : List ℕ) (h es : List Event) (recs more : List Rec) (r r' : RoundSpan) (by : By) (x : ℕ) (answer : Bool) → (less → told) → r'.from ≤ r.from → r.to ≤ r'.to → r.to ≤ length h → AreLater by es → ((rec : Rec) → Contains recs rec → Contains more rec)
    → IsDid told base committed h recs r by x answer → IsDid less base committed (h ++ es) more r' by x answer
did_grows told less base committed h es recs more r r' by x answer f from to within later wider k = (k.0, λ n. did_of_grows committed h es r r' by from to within later told less base recs more x answer f wider (k.1 n))

-- where less is told
pub did_less : (told less : Type 0) (base : Counters) (committed : List ℕ) (h : List Event) (recs : List Rec) (r : RoundSpan) (by : By) (x : ℕ) (answer : Bool) → (less → told) → IsDid told base committed h recs r by x answer → IsDid less base committed h recs r by x answer
did_less told less base committed h recs r by x answer f k = (
  k.0,
  λ n. let i = k.1 n in
      record { id = i.id; near = i.near; young = i.young; for_yes = λ t. i.for_yes (f t); for_no = λ t. i.for_no (f t) },
)
