-- From batches to records: what a flush promises.
use Rattle.std.proofs.Common.{◌≡◌, inl, inr, ℕ, ◌+◌, ◌-◌, ◌<◌, ◌^◌, List, [], ◌∷◌, ◌++◌, length, take, drop, Option, Some, None, Result, Ok, refl, sym, ◌∙◌, ap, subst, arith}
use Rattle.std.specs.Prelude.{IsSome, IfOk}
use Rattle.std.proofs.lemmas.List.{take_at, drop_at}
use Rattle.tx_events.specs.declared.record.Rec.{Rec}
use Rattle.tx_events.specs.declared.record.Counters.{Counters}
use Rattle.disk_core.specs.Volume.{Volume}
use Rattle.wal_records.specs.Numbers.{le_bytes}
use Rattle.wal_records.specs.Reading.{◌>>=◌}
use Rattle.wal_core.specs.Opening.{History, Opened, Walked, walked, AtRest, IsBeforeOrAfter, with_body, opened, behind_gate, body_in, IsBehindGate, next_number}
use Rattle.wal_core.specs.Crash.{IsFromImage}
use Rattle.wal_core.specs.Log.{history_in, history_on, bytes_of, End, end_of, end_with, IsReady, IsNextBatch, EndsWithin, OpensBeforeOrAfter, OpensFromImage}
use Rattle.wal_records.proofs.Fields.{length-le_bytes}
use Rattle.wal_core.proofs.Gates.{length-behind}
use Rattle.wal_core.proofs.Walks.{walked-at_rest, opened_same, opened_more}

-- what stands behind a gate has its body
pub body_in-behind_gate : (body : List ℕ) → body_in (behind_gate body) ≡ body
body_in-behind_gate body =
    let front : List ℕ = le_bytes 4 (length body) in
    let back : drop 4 (behind_gate body) ≡ body ++ 0 ∷ [] = drop_at front (body ++ 0 ∷ []) 4 (length-le_bytes 4 (length body)) in
    let size : length (behind_gate body) - 5 ≡ length body = omega (arith, length-behind body) in
    ap (λ (k : ℕ). take k (drop 4 (behind_gate body))) size ∙ ap (λ (l : List ℕ). take (length body) l) back ∙ take_at body (0 ∷ []) (length body) refl

pub body_of_next : (behind : List ℕ) (pending : List Rec) → IsNextBatch behind pending → body_in behind ≡ bytes_of pending
body_of_next behind pending next = ap body_in next.spelled ∙ body_in-behind_gate (bytes_of pending)

pub is_behind : (bytes behind : List ℕ) (pending : List Rec) → bytes ≡ behind → IsNextBatch behind pending → IsBehindGate bytes
is_behind bytes behind pending same next =
    let body : body_in bytes ≡ bytes_of pending = ap body_in same ∙ body_of_next behind pending next in
    record {
      spelled = same ∙ next.spelled ∙ ap behind_gate (sym body);
      few = subst (λ (l : List ℕ). length l < 2 ^ 32) (sym body) next.few;
    }

pub long_behind : (behind : List ℕ) (pending : List Rec) → IsNextBatch behind pending → length behind ≡ 5 + length (bytes_of pending)
long_behind behind pending next = ap length next.spelled ∙ length-behind (bytes_of pending)

pub nothing_next : (behind : List ℕ) (left : List Rec) → left ≡ [] → behind ≡ behind_gate [] → IsNextBatch behind left
nothing_next behind left none is = subst (λ (l : List Rec). IsNextBatch behind l) (sym none) (record { spelled = is; few = omega arith })

-- what the records behind the gate make of a volume
pub record Goes (gate : ℕ) (pending : List Rec) (counters : Option Counters) (next : ℕ) (v : Volume) : Type 0 where
  pub there : History
  pub comes : with_body gate (history_on v) (bytes_of pending) ≡ Some there
  pub counters_are : counters ≡ Some there.counters
  pub next_is : next ≡ next_number there

pub goes_by : (gate : ℕ) (h : Option History) (r : Rec) (recs : List Rec) (w : Option History) (counters : Option Counters) (next : ℕ) → with_body gate h (bytes_of (r ∷ recs)) ≡ w
    → (w >>= λ x. Some (end_of (Some x))) ≡ Some (record { counters = counters; next = next }) → (x : History) × (w ≡ Some x) × ((counters ≡ Some x.counters) × (next ≡ next_number x))
goes_by gate h r recs None counters next is e = absurd cc
goes_by gate h r recs (Some x) counters next is e = (x, refl, (ap counters_in (sym e), ap next_in (sym e)))
  where
    counters_in : Option End → Option Counters
    counters_in (Some e) = e.counters
    counters_in None = None

    next_in : Option End → ℕ
    next_in (Some e) = e.next
    next_in None = 0

pub goes : (gate : ℕ) (pending : List Rec) (counters : Option Counters) (next : ℕ) (v : Volume) → 0 < length pending → IsReady gate pending counters next v → Goes gate pending counters next v
goes gate [] counters next v some ready = absurd (omega arith)
goes gate (r ∷ recs) counters next v some ready =
    let x = goes_by gate (history_on v) r recs (with_body gate (history_on v) (bytes_of (r ∷ recs))) counters next refl ready.ends in
    record { there = x.0; comes = x.1; counters_are = x.2.0; next_is = x.2.1 }

-- a volume that opens so, with the gate within
pub ends_at : (c : Volume) (h : Option History) (gate : ℕ) → opened c ≡ Ok (record { history = h; gate = gate }) → gate < length c.bytes → EndsWithin c
ends_at c h gate e lt = subst (λ (r : Result Opened ℕ). IfOk r (λ o. IsSome o.history → o.gate < length c.bytes)) (sym e) (λ some. lt)

pub ready_ends : (gate : ℕ) (pending : List Rec) (counters : Option Counters) (next : ℕ) (v : Volume) → IsReady gate pending counters next v → EndsWithin v
ready_ends gate pending counters next v ready = ends_at v (history_on v) gate ready.opens ready.at_rest.within

module _ (gate : ℕ) (pending : List Rec) (counters : Option Counters) (next : ℕ) (some : 0 < length pending) where
  pub opens_more : (v : Volume) → IsReady gate pending counters next v → (g : Goes gate pending counters next v) (c : Volume) → AtRest c ((walked v).bodies ++ bytes_of pending ∷ []) (gate + (5 + length (bytes_of pending)))
      → opened c ≡ Ok (record { history = Some g.there; gate = gate + (5 + length (bytes_of pending)) })
  opens_more v ready g c rest = opened_more v c (walked v).bodies (bytes_of pending) gate (gate + (5 + length (bytes_of pending))) (history_on v) g.there ready.at_rest rest ready.opens g.comes refl

  opens_either : (v : Volume) → IsReady gate pending counters next v → (c : Volume) → IsBeforeOrAfter (walked v).bodies gate (bytes_of pending) c → OpensBeforeOrAfter v gate pending c
  opens_either v ready c (inl rest) = inl (opened_same v c (walked v).bodies gate ready.at_rest rest)
  opens_either v ready c (inr rest) =
      let g = goes gate pending counters next v some ready in
      inr (opens_more v ready g c rest ∙ ap (λ (h : Option History). Ok (record { history = h; gate = gate + (5 + length (bytes_of pending)) })) (sym g.comes))

  ends_either : (v : Volume) → IsReady gate pending counters next v → (c : Volume) → IsBeforeOrAfter (walked v).bodies gate (bytes_of pending) c → EndsWithin c
  ends_either v ready c (inl rest) = ends_at c (history_on v) gate (opened_same v c (walked v).bodies gate ready.at_rest rest ∙ ready.opens) rest.within
  ends_either v ready c (inr rest) =
      let g = goes gate pending counters next v some ready in
      ends_at c (Some g.there) (gate + (5 + length (bytes_of pending))) (opens_more v ready g c rest) rest.within

  pub opens_from : (images : Volume → Type 0) → ((d : Volume) → images d → IsReady gate pending counters next d) → (body : List ℕ) → body ≡ bytes_of pending → (c : Volume) → IsFromImage images gate body c → OpensFromImage images gate pending c
  opens_from images ready body is c from =
      let so : IsBeforeOrAfter (walked from.0).bodies gate (bytes_of pending) c = subst (λ (b : List ℕ). IsBeforeOrAfter (walked from.0).bodies gate b c) is from.2 in
      (from.0, from.1, (opens_either from.0 (ready from.0 from.1) c so, ends_either from.0 (ready from.0 from.1) c so))

  -- with the batch on it a volume is ready for the next
  pub ready_again : (v : Volume) → IsReady gate pending counters next v → (w : Volume) (body : List ℕ) (gate_2 : ℕ) (left : List Rec) → body ≡ bytes_of pending → gate_2 ≡ gate + (5 + length (bytes_of pending))
      → AtRest w ((walked v).bodies ++ body ∷ []) gate_2 → left ≡ [] → IsReady gate_2 left counters next w
  ready_again v ready w body gate_2 left is place rest none =
      let g = goes gate pending counters next v some ready in
      let bodies : List (List ℕ) = (walked v).bodies ++ bytes_of pending ∷ [] in
      let rest_2 : AtRest w bodies (gate + (5 + length (bytes_of pending))) =
      subst (λ (k : ℕ). AtRest w bodies k) place (subst (λ (b : List ℕ). AtRest w ((walked v).bodies ++ b ∷ []) gate_2) is rest) in
      let same : (walked w).bodies ≡ bodies = ap (λ (x : Walked). x.bodies) (walked-at_rest w bodies (gate + (5 + length (bytes_of pending))) rest_2) in
      let e : opened w ≡ Ok (record { history = Some g.there; gate = gate + (5 + length (bytes_of pending)) }) = opens_more v ready g w rest_2 in
      let h : history_on w ≡ Some g.there = ap history_in e in
      record {
        at_rest = subst (λ (k : ℕ). AtRest w (walked w).bodies k) (sym place) (subst (λ (b : List (List ℕ)). AtRest w b (gate + (5 + length (bytes_of pending)))) (sym same) rest_2);
        opens = e ∙ (λ i. Ok (record { history = sym h i; gate = sym place i }));
        ends = subst (λ (l : List Rec). end_with gate_2 (history_on w) l ≡ Some (record { counters = counters; next = next })) (sym none)
            (ap (λ (o : Option History). Some (end_of o)) h ∙ (λ i. Some (record { counters = sym g.counters_are i; next = sym g.next_is i })));
      }
