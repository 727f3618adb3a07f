-- With which record what a crash leaves begins.
use Rattle.std.proofs.Common.{◌≡◌, ◌⊎◌, inl, inr, ℕ, ◌+◌, ◌-◌, ◌<◌, ◌≤◌, Bool, true, false, cond, ltb, List, [], ◌∷◌, ◌++◌, length, Option, Some, None, Result, Ok, Err, refl, sym, ◌∙◌, ap, subst, arith}
use Rattle.std.specs.List.{slice_get}
use Rattle.std.proofs.lemmas.Bool.{ltb-false, ltb-true}
use Rattle.tx_events.specs.declared.record.Rec.{Rec}
use Rattle.tx_events.specs.declared.record.Counters.{Counters}
use Rattle.disk_core.specs.Volume.{Volume}
use Rattle.wal_records.specs.Lawful.{are_lawful}
use Rattle.wal_records.specs.Reading.{◌>>=◌}
use Rattle.wal_records.proofs.LawfulTests.{all_lawful}
use Rattle.wal_core.specs.Opening.{AtRest, History, Opened, began, first_number, joined, opened, walked}
use Rattle.wal_core.specs.Log.{IsReady, OpensBeforeOrAfter, bytes_of, history_in, history_on}
use Rattle.wal_core.specs.Kept.{HasFlushed, HasRecords, OpensToRecords, first_in, first_on}
use Rattle.wal_core.specs.Checkpoint.{begun_with, kept_from, numbered}
use Rattle.wal_core.specs.declared.checkpoint.LastCheckpoint.{LastCheckpoint}
use Rattle.wal_core.proofs.Starts.{not_under}
use Rattle.wal_core.proofs.Append.{continued, with_body-bytes}
use Rattle.wal_core.proofs.Flush.{goes, opens_more}
use Rattle.wal_core.proofs.Keeping.{is_continued, joined_all, not_lower}
use Rattle.wal_core.proofs.News.{new_if_none}

-- ---- no image begins past the record that is kept

at_most_in : (first : ℕ) (all : List Rec) (kept flushed : ℕ) (o : Option History) → HasRecords first all kept flushed o → first_in o ≤ kept
at_most_in first all kept flushed None has = omega arith
at_most_in first all kept flushed (Some h) has = has.1.0

at_most : (first : ℕ) (all : List Rec) (kept flushed : ℕ) (r : Result Opened ℕ) → OpensToRecords first all kept flushed r → first_in (history_in r) ≤ kept
at_most first all kept flushed (Ok o) has = at_most_in first all kept flushed o.history has
at_most first all kept flushed (Err at) has = absurd has

pub begins_at : (first : ℕ) (all : List Rec) (kept flushed : ℕ) (v : Volume) → HasFlushed first all kept flushed v → kept ≤ first_on v → first_on v ≡ kept
begins_at first all kept flushed v has low = let most = at_most first all kept flushed (opened v) has.opens in omega (arith, most, low)

-- nor past one that it has
pub not_past_in : (n : ℕ) (r : Rec) (o : Option History) → numbered n o ≡ Some r → first_in o ≤ n
not_past_in n r None there = absurd cc
not_past_in n r (Some h) there = ltb-false n h.first (not_lower (ltb n h.first) (slice_get h.recs (n - h.first)) r there).0

-- ---- what was put behind it leaves the first record as it was

begun_low : (gate : ℕ) (recs : List Rec) (n : Option ℕ) (x : History) → (n >>= λ number. cond (ltb gate number) None (joined (began number) recs)) ≡ Some x → x.first ≤ gate
begun_low gate recs None x e = absurd cc
begun_low gate recs (Some n) x e =
    let u = not_under (ltb gate n) (joined (began n) recs) x e in
    let low = ltb-false gate n u.0 in let same = (joined_all recs (began n) x u.1).first in
    omega (arith, low, same)

first_continued : (gate : ℕ) (h : Option History) (recs : List Rec) (x : History) → continued gate h recs ≡ Some x → (h ≡ None → gate ≡ 0) → x.first ≡ first_in h
first_continued gate (Some h) recs x e new = (is_continued gate (Some h) recs x e).same_first h refl
first_continued gate None recs x e new = let low = begun_low gate recs (first_number recs) x e in let none = new refl in omega (arith, low, none)

module _ (gate : ℕ) (pending : List Rec) (counters : Option Counters) (next : ℕ) where
  new_gate : (v : Volume) → IsReady gate pending counters next v → history_on v ≡ None → gate ≡ 0
  new_gate v ready none = (new_if_none v gate (ready.opens ∙ (λ i. Ok (record { history = none i; gate = gate })))).1

  module _ (some : 0 < length pending) (lawful : are_lawful pending ≡ true) where
    first_goes : (v : Volume) (ready : IsReady gate pending counters next v) → (goes gate pending counters next v some ready).there.first ≡ first_on v
    first_goes v ready =
        let g = goes gate pending counters next v some ready in
        first_continued gate (history_on v) pending g.there (sym (with_body-bytes gate (history_on v) pending (all_lawful pending lawful)) ∙ g.comes) (new_gate v ready)

    pub first_from : (d c : Volume) → IsReady gate pending counters next d → OpensBeforeOrAfter d gate pending c → first_on c ≡ first_on d
    first_from d c ready (inl same) = ap (λ (r : Result Opened ℕ). first_in (history_in r)) same
    first_from d c ready (inr more) =
        ap (λ (r : Result Opened ℕ). first_in (history_in r)) more ∙ (ap first_in (goes gate pending counters next d some ready).comes ∙ first_goes d ready)

    -- with the batch on it
    first_again : (v : Volume) → IsReady gate pending counters next v → (w : Volume) (body : List ℕ) (gate_2 : ℕ) → body ≡ bytes_of pending → gate_2 ≡ gate + (5 + length (bytes_of pending))
        → AtRest w ((walked v).bodies ++ body ∷ []) gate_2 → first_on w ≡ first_on v
    first_again v ready w body gate_2 is place rest =
        let g = goes gate pending counters next v some ready in
        let rest_2 : AtRest w ((walked v).bodies ++ bytes_of pending ∷ []) (gate + (5 + length (bytes_of pending))) =
        subst (λ (n : ℕ). AtRest w ((walked v).bodies ++ bytes_of pending ∷ []) n) place (subst (λ (b : List ℕ). AtRest w ((walked v).bodies ++ b ∷ []) gate_2) is rest) in
        ap (λ (r : Result Opened ℕ). first_in (history_in r)) (opens_more gate pending counters next some v ready g w rest_2) ∙ first_goes v ready

    pub still_from : (kept : ℕ) (v : Volume) → IsReady gate pending counters next v → (w : Volume) (body : List ℕ) (gate_2 : ℕ) → body ≡ bytes_of pending → gate_2 ≡ gate + (5 + length (bytes_of pending))
        → AtRest w ((walked v).bodies ++ body ∷ []) gate_2 → kept ≤ first_on v → kept ≤ first_on w
    still_from kept v ready w body gate_2 is place rest low = let same = first_again v ready w body gate_2 is place rest in omega (arith, same, low)

-- ---- of two first records a forget leaves the later one, where that is settled

pub one_of : (b : Bool) (kept other n f : ℕ) → ltb kept n ≡ b → f ≤ n → (kept < n → f ≡ kept) → (f ≡ kept) ⊎ (f ≡ other) → (f ≡ n) ⊎ (f ≡ cond b kept other)
one_of true kept other n f is low settled one = inr (settled (ltb-true kept n is))
one_of false kept other n f is low settled (inl same) = let high = ltb-false kept n is in inl (omega (arith, same, low, high))
one_of false kept other n f is low settled (inr same) = inr same

-- what is kept from the checkpoint on begins with it
pub first_forgotten : (k : LastCheckpoint) (v w : Volume) → w.start ≡ k.gate → w.bytes ≡ v.bytes → history_on (kept_from k.gate v) ≡ Some (begun_with k) → first_on w ≡ k.number
first_forgotten k v w start bytes alone =
    let same : w ≡ kept_from k.gate v = λ i. record { start = start i; bytes = bytes i } in
    ap first_on same ∙ ap first_in alone
