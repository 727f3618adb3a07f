-- A life's log fits a report: each record names ids and multixacts that were given or announced.
use Rattle.std.proofs.Common.{◌≡◌, Contains, ℕ, suc, ◌+◌, ◌^◌, ◌<◌, List, [], ◌∷◌, Some, refl, sym, ap, subst, ◌∙◌, ⊎_elim, arith, length, take, slice_get}
use Rattle.std.specs.List.{AllByRecursion}
use Rattle.tx_events.specs.declared.event.By.{By}
use Rattle.tx_events.specs.declared.event.Event.{Event}
use Rattle.tx_events.specs.declared.event.Event.TheVariants as events
use Rattle.tx_events.specs.declared.record.Counters.{Counters}
use Rattle.tx_events.specs.declared.record.Rec.{Rec}
use Rattle.tx_events.specs.declared.record.Rec.TheVariants as records
use Rattle.tx_events.specs.declared.xact_end.XactEnd.{XactEnd}
use Rattle.tx_events.specs.Base.{IsBase}
use Rattle.tx_events.specs.History.{IsLegal}
use Rattle.tx_events.specs.Running.{open_ids}
use Rattle.tx_events.specs.XactEnds.{end_event}
use Rattle.tx_events.proofs.GivenIds.{legal_take}
use Rattle.tx_events.proofs.Membership.{all_at, contains_has, has_contains, place_has}
use Rattle.tx_events.specs.declared.multi.MultiEvent.{MultiEvent}
use Rattle.tx_events.specs.declared.multi.MultiEvent.TheVariants as multis
use Rattle.life_law.specs.LifeLog.{IsAnnounced, IsAnnouncedMulti, IsLogOf, IsRecordOf, IsTransaction, counters_behind}
use Rattle.report_words.specs.Fits.{FitsCounters, FitsId, FitsMulti, FitsRecord}
use Rattle.run_report.proofs.Fits.{oldest_after}
use Rattle.run_report.proofs.MultiFits.{GoodMultis, MadeFits, MultiNamed, free_fits, made_fit, next_made_fits, oldest_multi_fits, oldest_offset_fits}
use Rattle.run_report.proofs.Ids.{AnnouncesFit, next_fits, oldest_fits, open_fits}

-- ---- the ids of a record

-- what holds of all ids that a session has open holds of those of a transaction
transaction_all : (P : ℕ → Type 0) (base : Counters) (h : List Event) (how : XactEnd) (top : ℕ) (subs : List ℕ) → IsLegal base h → ((g : List Event) (session : ℕ) → IsLegal base g → AllByRecursion P (open_ids session g)) → IsTransaction h how top subs → AllByRecursion P (top ∷ subs)
transaction_all P base h how top subs legal all t = ⊎_elim
    (λ (e : open_ids t.session h ≡ top ∷ subs). subst (AllByRecursion P) e (all h t.session legal))
    (λ (e : (p : ℕ) × (by : By) × (by.session ≡ t.session) × (slice_get h p ≡ Some (end_event how by top)) × (open_ids t.session (take p h) ≡ top ∷ subs)). subst (AllByRecursion P) e.4 (all (take e.0 h) t.session (legal_take base h e.0 legal)))
    t.ids

-- an oldest id that was announced
announced_id : (base : Counters) (h : List Event) (oldest : ℕ) → IsBase base → AllByRecursion AnnouncesFit h → IsAnnounced base h oldest → FitsId oldest
announced_id base h oldest b p a = ⊎_elim
    (λ (e : oldest ≡ base.oldest). subst FitsId (sym e) (oldest_fits base b))
    (λ (e : (by : By) × Contains h (events.Oldest by oldest)). all_at AnnouncesFit h (events.Oldest e.0 oldest) p (contains_has h (events.Oldest e.0 oldest) e.1))
    a

-- an oldest multixact that was announced, and its offset
announced_multi : (base : Counters) (all : List MultiEvent) (multi offset : ℕ) → GoodMultis base all → AllByRecursion MultiNamed all → IsAnnouncedMulti base all multi offset → FitsMulti multi × (offset < 2 ^ 64)
announced_multi base all multi offset g n a = ⊎_elim
    (λ (e : (multi ≡ base.oldest_multi) × (offset ≡ base.oldest_offset)). (subst FitsMulti (sym e.0) g.counters.oldest_multi, subst (λ z. z < 2 ^ 64) (sym e.1) g.counters.oldest_offset))
    (λ (e : (by : By) × Contains all (multis.Raise by multi offset)).
    let k = contains_has all (multis.Raise e.0 multi offset) e.1 in
    (all_at MultiNamed all (multis.Raise e.0 multi offset) n k, (let m = all_at MadeFits all (multis.Raise e.0 multi offset) (made_fit base all g) k in omega (arith, m))))
    a

-- the counters behind some of the events
behind_fits : (base : Counters) (h : List Event) (all : List MultiEvent) (place at : ℕ) → IsBase base → GoodMultis base all → AllByRecursion MultiNamed all → IsLegal base h → AllByRecursion AnnouncesFit h → FitsCounters (counters_behind base (take place h) (take at all))
behind_fits base h all place at b g n l p = record {
  next = next_fits base (take place h) b (legal_take base h place l);
  oldest = oldest_after base place h b p;
  multi = next_made_fits base all at g;
  offset = (let f = free_fits base all at g in omega (arith, f));
  oldest_multi = oldest_multi_fits base all at g n;
  oldest_offset = oldest_offset_fits base all at g;
}

-- a checkpoint has its own number
abbrev OwnNumber : ℕ → Rec → Type 0
OwnNumber n (records.Checkpoint number counters) = number ≡ n
OwnNumber n rec = Unit {0}

record_fits : (base : Counters) (h : List Event) (all : List MultiEvent) (n : ℕ) (r : Rec) → IsBase base → GoodMultis base all → AllByRecursion MultiNamed all → IsLegal base h → AllByRecursion AnnouncesFit h → IsRecordOf base h all r → OwnNumber n r → FitsRecord n r
record_fits base h all n (records.Commit top subs) b g m l p t own = transaction_all FitsId base h _ top subs l (λ g session k. open_fits base g session b k) t
record_fits base h all n (records.Abort top subs) b g m l p t own = transaction_all FitsId base h _ top subs l (λ g session k. open_fits base g session b k) t
record_fits base h all n (records.Truncate oldest multi offset) b g m l p t own = let a = announced_multi base all multi offset g m t.1 in (announced_id base h oldest b p t.0, a.0, a.1)
record_fits base h all n (records.Checkpoint number counters) b g m l p t own = (own, subst FitsCounters (sym t.4) (behind_fits base h all t.0 t.2 b g m l p))
record_fits base h all n (records.Multi multi offset members) b g m l p t own =
    let k = contains_has all (multis.Gen t.0 multi offset members) t.1 in
    let made = all_at MadeFits all (multis.Gen t.0 multi offset members) (made_fit base all g) k in
    let low = made.1 in
    (made.0, omega (arith, low), all_at MultiNamed all (multis.Gen t.0 multi offset members) m k)

-- what a report says of the log of a life that begins with this record
pub record LogFits (from : ℕ) (recs : List Rec) (flushed end : ℕ) : Type 0 where
  pub few : from + length recs < 2 ^ 64
  pub flushed_to : flushed < 2 ^ 64
  pub gate : end < 2 ^ 64

pub log_fits : (from : ℕ) (base : Counters) (h : List Event) (all : List MultiEvent) (recs : List Rec) (flushed end : ℕ) → IsLogOf from base h all recs flushed end → LogFits from recs flushed end
log_fits from base h all recs flushed end log =
    let count = log.count in
    let within = log.within in
    let gate = log.gate in
    record { few = omega arith; flushed_to = omega arith; gate = omega arith }

-- each record fits its number
abbrev pub AreNumbered : ℕ → List Rec → Type 0
AreNumbered n [] = Unit {0}
AreNumbered n (r ∷ rs) = FitsRecord n r × AreNumbered (suc n) rs

-- each at its place
all_numbered : (n : ℕ) (rs : List Rec) → ((i : ℕ) (r : Rec) → slice_get rs i ≡ Some r → FitsRecord (n + i) r) → AreNumbered n rs
all_numbered n [] at = tt
all_numbered n (r ∷ rs) at = (
  subst (λ k. FitsRecord k r) (omega arith) (at 0 r refl),
  all_numbered (suc n) rs (λ i q k. let e : n + suc i ≡ suc n + i = omega arith in subst (λ m. FitsRecord m q) e (at (suc i) q k)),
)

pub rest_fits : (from : ℕ) (base : Counters) (h : List Event) (all : List MultiEvent) (recs : List Rec) (flushed end : ℕ) → IsBase base → GoodMultis base all → AllByRecursion MultiNamed all → IsLegal base h → AllByRecursion AnnouncesFit h → (log : IsLogOf from base h all recs flushed end) → AreNumbered (suc from) log.rest
rest_fits from base h all recs flushed end b g m l p log = all_numbered (suc from) log.rest each
  where
    own : (i : ℕ) (r : Rec) → slice_get recs (suc i) ≡ Some r → OwnNumber (suc from + i) r
    own i (records.Checkpoint number counters) k = let e = log.numbered (suc i) number counters k in omega (arith, e)
    own i (records.Commit top subs) k = tt
    own i (records.Abort top subs) k = tt
    own i (records.Truncate oldest multi offset) k = tt
    own i (records.Multi multi offset members) k = tt

    each : (i : ℕ) (r : Rec) → slice_get log.rest i ≡ Some r → FitsRecord (suc from + i) r
    each i r k = record_fits base h all (suc from + i) r b g m l p (log.each r (has_contains log.rest r (place_has log.rest i r k))) (own i r (ap (λ (rs : List Rec). slice_get rs (suc i)) log.split ∙ k))
