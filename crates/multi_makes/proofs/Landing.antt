-- Behind a truncation's record the log takes that of the multixact that a session makes.
use Rattle.std.proofs.Common.{List, None, Ok, Err, OnOk, Option, Result, Some, ap, arith, length, max, subst, sym, ℕ, ◌∙◌, ◌<◌, ◌≡◌, ◌≤◌}
use Rattle.notes.specs.Lists.{Grows, at}
use Rattle.tx_events.specs.Ids.{IsFullMulti}
use Rattle.tx_events.specs.declared.event.By.{By}
use Rattle.tx_events.specs.declared.multi.Member.{Member}
use Rattle.tx_events.specs.declared.record.Counters.{Counters}
use Rattle.tx_events.specs.declared.record.Rec.{Rec}
use Rattle.tx_events.specs.declared.record.Rec.TheVariants as records
use Rattle.tx_events.specs.declared.refusal.Refusal.{Refusal}
use Rattle.tx_events.specs.After.{after_record}
use Rattle.tx_events.specs.Base.{IsBase}
use Rattle.tx_events.specs.Horizon.{oldest_id}
use Rattle.tx_events.specs.Multis.{multi_counters, oldest_multi, oldest_offset}
use Rattle.tx_core.specs.declared.entry.Entry.{Entry}
use Rattle.tx_core.specs.declared.entry.Start.{Start}
use Rattle.tx_core.specs.EngineInvariant.{EngineInvariant}
use Rattle.tx_core.specs.Entries.{history}
use Rattle.tx_core.specs.Locks.{log_lock}
use Rattle.tx_core.specs.MultiEntries.{multi_history}
use Rattle.tx_core.specs.RecordsFollow.{counters_after}
use Rattle.tx_core.proofs.Posting.{oldest_rises}
use Rattle.log_takes.specs.Takes.{AreOldestTold, IsTaken}
use Rattle.log_takes.proofs.Announced.{multis_rise}
use Rattle.log_takes.proofs.Counting.{counters_push, counters_rise}
use Rattle.log_takes.proofs.Taking.{multis_taken}
use Rattle.engine_parts.specs.declared.session.Making.{Making}
use Rattle.engine_parts.specs.declared.session.Session.{Session}
use Rattle.engine_parts.specs.Holds.{Knowledge}
use Rattle.engine_parts.specs.Makings.{Makes}
use Rattle.engine_parts.specs.Sessions.{IsAt}
use Rattle.engine_parts.proofs.Leaving.{grows_then}
use Rattle.engine_parts.proofs.Sectioning.{section_list}
use Rattle.log_sections.specs.declared.appending.Appended.{Appended}
use Rattle.log_sections.specs.declared.appending.Appended.TheVariants as came
use Rattle.log_sections.specs.LogSections.{TruncationSection}
use Rattle.log_sections.specs.MultiRecords.{IsMakingRecord, TakesMulti}

-- a truncation tells what was announced by then: the oldest id was read first, and then the oldest multixact
pub truncation_tells : (start : Start) (old first : List (List Entry)) (v w : Knowledge) (by : By) (result : Result ℕ Refusal) (oldest : ℕ) (found : Counters) → IsBase start.base → EngineInvariant start first → EngineInvariant start v.seen
    → Grows old first → Grows old v.seen → log_lock < length v.seen → oldest ≡ oldest_id start.base.oldest (history first) → found ≡ multi_counters start.base (multi_history v.seen)
    → TruncationSection start by (records.Truncate oldest found.oldest_multi found.oldest_offset) v w result → OnOk result (AreOldestTold start old w.seen)
truncation_tells start old first v w by (Err r) oldest found is k later near far inside read same section = tt
truncation_tells start old first v w by (Ok number) oldest found is k later near far inside read same section =
    let rec : Rec = records.Truncate oldest found.oldest_multi found.oldest_offset in
    let es : List Entry = at section.within.seen log_lock in
    let c : Counters = counters_after start es in
    let now : counters_after start (at w.seen log_lock) ≡ after_record c rec =
    ap (λ (t : List Entry). counters_after start t) (section_list start v w log_lock _ section inside) ∙ counters_push start es by rec in
    let up = oldest_rises start old first k near in
    let rise = multis_rise start old v.seen is later far in
    let a = rise.0 in
    let b = rise.1 in
    let multi : found.oldest_multi ≡ oldest_multi start.base.oldest_multi (multi_history v.seen) = ap (λ (z : Counters). z.oldest_multi) same in
    let offset : found.oldest_offset ≡ oldest_offset start.base.oldest_offset (multi_history v.seen) = ap (λ (z : Counters). z.oldest_offset) same in
    record {
      id = subst (λ (z : Counters). oldest_id start.base.oldest (history old) ≤ z.oldest) (sym now) (under (oldest_id start.base.oldest (history old)) oldest c.oldest (omega arith));
      multi = subst (λ (z : Counters). oldest_multi start.base.oldest_multi (multi_history old) ≤ z.oldest_multi) (sym now) (under (oldest_multi start.base.oldest_multi (multi_history old)) found.oldest_multi c.oldest_multi (omega arith));
      offset = subst (λ (z : Counters). oldest_offset start.base.oldest_offset (multi_history old) ≤ z.oldest_offset) (sym now) (under (oldest_offset start.base.oldest_offset (multi_history old)) found.oldest_offset c.oldest_offset (omega arith));
    }
  where
    under : (a b c : ℕ) → a ≤ b → a ≤ max c b
    under a b c le = omega arith

-- so the multixact's can come next
pub multi_lands : (start : Start) (v : Knowledge) (mid lists : List (List Entry)) (n : ℕ) (s t t' : Session) (rec : Rec) (appended : Appended) → IsAt start v n s → IsMakingRecord s.making rec
    → ((multi offset : ℕ) (members : List Member) → rec ≡ records.Multi multi offset members → IsFullMulti multi) → EngineInvariant start lists
    → AreOldestTold start v.seen mid → Grows v.seen mid → Grows mid lists → appended ≡ came.NoBase → TakesMulti start lists rec t t' (Ok appended) → ⊥
multi_lands start v mid lists n s t t' rec appended a p form k told near far is takes =
    let can = taken s.making a.makes p in
    (subst (λ (z : Appended). TakesMulti start lists rec t t' (Ok z)) is takes).1 can.lawful can.base
  where
    now : AreOldestTold start v.seen lists
    now =
        let rises = counters_rise start mid lists far in
        let id = rises.oldest in
        let multi = rises.oldest_multi in
        let offset = rises.oldest_offset in
        let told_id = told.id in
        let told_multi = told.multi in
        let told_offset = told.offset in
        record { id = omega arith; multi = omega arith; offset = omega arith }

    taken : (o : Option Making) → Makes start v.seen n o → IsMakingRecord o rec → IsTaken start lists rec
    taken None m p = absurd p
    taken (Some x) m p =
        let g = m.pending.given in
        subst (IsTaken start lists) (sym p.0)
        (multis_taken start v.seen lists g.0 x.multi x.offset x.members a.kept k (grows_then v.seen mid lists near far) a.base (form x.multi x.offset x.members p.0) g.2 m.pending.full m.pending.before now)
