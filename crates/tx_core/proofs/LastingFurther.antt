-- What the parts on the log, on cuts, on multixacts and on syncs ask for stays while lists grow.
use Rattle.tx_events.proofs.ListSteps.{all_weaker}
use Rattle.std.proofs.Common.{Contains, List, ap, arith, inl, inr, sym, ℕ, ⊎_elim, ◌+◌, ◌∙◌}
use Rattle.std.specs.List.{flat_map}
use Rattle.tx_events.specs.declared.event.By.{By}
use Rattle.store_pages.specs.Layouts.{subtrans_cut_page}
use Rattle.tx_events.specs.declared.event.Event.{Event}
use Rattle.tx_events.specs.declared.multi.Member.{Member}
use Rattle.tx_events.specs.declared.multi.MultiEvent.{MultiEvent}
use Rattle.tx_events.specs.declared.record.Rec.{Rec}
use Rattle.tx_events.specs.Horizon.{oldest_id, oldest_xmin}
use Rattle.tx_events.specs.Multis.{free_offset, next_made}
use Rattle.tx_core.specs.declared.entry.Entry.{Entry}
use Rattle.tx_core.specs.declared.entry.Kind.{Kind}
use Rattle.tx_core.specs.declared.entry.Start.{Start}
use Rattle.tx_core.proofs.Asking.{if_weaker}
use Rattle.tx_core.proofs.Growing.{begins_filter_map, begins_flat_map, contains_begins, slice_get_begins, take_begins}
use Rattle.tx_core.proofs.Lasting.{appended_grows, flushed_grows, history_grows}
use Rattle.tx_core.proofs.Rising.{given_more, multis_grow, taken_begins}
use Rattle.tx_core.specs.CutsFollow.{CutBy, IsMemberGone, IsTruncated, NeedsCut}
use Rattle.tx_core.specs.Entries.{cut_in, events_in, history}
use Rattle.tx_core.specs.Lists.{IsLasting}
use Rattle.notes.specs.Lists.{Begins, Grows, at}
use Rattle.tx_core.specs.Locks.{members_lock, members_lock_of, offsets_lock, oldest_word, xact_lock}
use Rattle.tx_core.specs.MembersBeforeOffset.{IsRecorded, NeedsOffsets, NeedsSlots, OffsetOf, SlotOf}
use Rattle.tx_core.specs.MultiEntries.{IsSlotSet, multi_history, offsets_in, slots_in}
use Rattle.tx_core.specs.MultisLegal.{NeedsMulti}
use Rattle.tx_core.specs.PostsFollow.{IsFound, NeedsPost, PostIn, WasShown, posted_in, posts}
use Rattle.tx_core.specs.FaultsRise.{NeedsCount}
use Rattle.tx_core.specs.StaysDown.{NeedsUp}
use Rattle.tx_core.specs.RecordsOnce.{NeedsOnce}
use Rattle.tx_core.specs.RecordsFollow.{AppendOf, CountersOf, IsMultiAnnounced, IsMultiAt, IsOldestAnnounced, NeedsCounters}
use Rattle.tx_core.specs.SyncsBeforeForgets.{AreMembersSynced, AreOffsetsSynced, AreStatesSynced, ForgetOf, IsMultiBelow, IsNamedBelow, IsSynced, MayForget, NeedsSync}
use Rattle.tx_core.specs.declared.entry.Kind.TheVariants as kinds
use Rattle.tx_core.specs.declared.entry.LogCall.TheVariants as calls
use Rattle.tx_events.specs.declared.event.Event.TheVariants as events
use Rattle.tx_events.specs.declared.multi.MultiEvent.TheVariants as multis
use Rattle.tx_events.specs.declared.record.Rec.TheVariants as records

-- the counters of records

oldest_announced_grows : (start : Start) (lists more : List (List Entry)) (oldest : ℕ) → Grows lists more → IsOldestAnnounced start lists oldest → IsOldestAnnounced start more oldest
oldest_announced_grows start lists more oldest g a =
    ⊎_elim inl (λ (h : (by : By) × Contains (history lists) (events.Oldest by oldest)). inr (h.0, contains_begins (history lists) (history more) (events.Oldest h.0 oldest) (history_grows lists more g) h.1)) a

multi_announced_grows : (start : Start) (lists more : List (List Entry)) (multi offset : ℕ) → Grows lists more → IsMultiAnnounced start lists multi offset → IsMultiAnnounced start more multi offset
multi_announced_grows start lists more multi offset g a =
    ⊎_elim inl (λ (h : (by : By) × Contains (multi_history lists) (multis.Raise by multi offset)). inr (h.0, contains_begins (multi_history lists) (multi_history more) (multis.Raise h.0 multi offset) (multis_grow lists more g) h.1)) a

multi_at_grows : (start : Start) (lists more : List (List Entry)) (multi offset : ℕ) → Grows lists more → IsMultiAt start lists multi offset → IsMultiAt start more multi offset
multi_at_grows start lists more multi offset g a =
    let r = taken_begins (multi_history lists) (multi_history more) a.0 (multis_grow lists more g) a.1 in
    (a.0, r.0, a.2 ∙ ap (λ (h : List MultiEvent). next_made start.base.multi h) (sym r.1), a.3 ∙ ap (λ (h : List MultiEvent). free_offset start.base.offset h) (sym r.1))

counters_stay : (start : Start) (lists more : List (List Entry)) (before : List Entry) (rec : Rec) → Grows lists more → CountersOf start lists before rec → CountersOf start more before rec
counters_stay start lists more before (records.Checkpoint number counters) g n = record {
  place = n.place;
  not_below = n.not_below;
  next = let a = given_more start.base (history lists) (history more) (history_grows lists more g) in let b = n.next in omega arith;
  multi = ⊎_elim inl (λ a. inr (multi_at_grows start lists more counters.multi counters.offset g a)) n.multi;
  oldest = oldest_announced_grows start lists more counters.oldest g n.oldest;
  oldest_multi = multi_announced_grows start lists more counters.oldest_multi counters.oldest_offset g n.oldest_multi;
}
counters_stay start lists more before (records.Truncate oldest multi offset) g n = (oldest_announced_grows start lists more oldest g n.0, multi_announced_grows start lists more multi offset g n.1)
counters_stay start lists more before _ g n = tt

append_stays : (start : Start) (lists more : List (List Entry)) (before : List Entry) (kind : Kind) → Grows lists more → AppendOf start lists before kind → AppendOf start more before kind
append_stays start lists more before (kinds.Append rec) g n = (n.0, counters_stay start lists more before rec g n.1)
append_stays start lists more before _ g n = tt

pub counters_lasting : (start : Start) → IsLasting (NeedsCounters start)
counters_lasting start = record { stays = λ lists more lock before e g n. append_stays start lists more before e.kind g n }

-- cuts

truncated_grows : (start : Start) (lists more : List (List Entry)) (oldest multi offset : ℕ) → Grows lists more → IsTruncated start lists oldest multi offset → IsTruncated start more oldest multi offset
truncated_grows start lists more oldest multi offset g t = record { session = t.session; flushed = flushed_grows start lists more t.session (records.Truncate oldest multi offset) g t.flushed }

cut_grows : (start : Start) (lists more : List (List Entry)) (lock page : ℕ) → Grows lists more → CutBy start lists lock page → CutBy start more lock page
cut_grows start lists more lock page g c = record {
  xact = λ bank q. let t = c.xact bank q in (t.0, t.1, t.2, truncated_grows start lists more t.0 t.1 t.2 g t.3, t.4);
  offsets = λ bank q. let t = c.offsets bank q in (t.0, t.1, t.2, truncated_grows start lists more t.0 t.1 t.2 g t.3, t.4);
  members = λ bank q. let t = c.members bank q in (t.0, t.1, t.2, truncated_grows start lists more t.0 t.1 t.2 g t.3, t.4);
  subtrans = λ bank q.
      let t = c.subtrans bank q in
      let r = taken_begins (history lists) (history more) t.0 (history_grows lists more g) t.1 in
      (t.0, r.0, t.2 ∙ ap (λ (h : List Event). subtrans_cut_page start.base.oldest (oldest_xmin start.base.next h)) (sym r.1));
}

pub cuts_lasting : (start : Start) → IsLasting (NeedsCut start)
cuts_lasting start = record { stays = λ lists more lock before e g n. if_weaker (cut_in e.kind) (CutBy start lists lock) (CutBy start more lock) (λ page c. cut_grows start lists more lock page g c) n }

-- multixacts

pub multis_lasting : (start : Start) → IsLasting (NeedsMulti start)
multis_lasting start = record { stays = λ lists more lock before e g n. n }

slot_grows : (start : Start) (lists more : List (List Entry)) (offset : ℕ) (member : Member) → Grows lists more → IsSlotSet start lists offset member → IsSlotSet start more offset member
slot_grows start lists more offset member g s =
    let lock = members_lock_of start offset in (s.0, contains_begins (flat_map slots_in (at lists lock)) (flat_map slots_in (at more lock)) _ (begins_flat_map slots_in (at lists lock) (at more lock) (g.begins lock)) s.1)

gone_grows : (es more : List Entry) (offset : ℕ) → Begins es more → IsMemberGone es offset → IsMemberGone more offset
gone_grows es more offset b c = (c.0, c.1, contains_begins es more c.0 b c.2, c.3, c.4)

recorded_grows : (lists more : List (List Entry)) (session multi offset : ℕ) (members : List Member) → Grows lists more → IsRecorded lists session multi offset members → IsRecorded more session multi offset members
recorded_grows lists more session multi offset members g r = record {
  by = r.by;
  own = r.own;
  given = contains_begins (multi_history lists) (multi_history more) _ (multis_grow lists more g) r.given;
  appended = appended_grows lists more session (records.Multi multi offset members) g r.appended;
}

pub slots_lasting : IsLasting NeedsSlots
slots_lasting = record {
  stays = λ lists more lock before e g n. all_weaker (λ slot. SlotOf lists slot) (λ slot. SlotOf more slot) (λ slot s. record {
    multi = s.multi;
    first = s.first;
    members = s.members;
    recorded = recorded_grows lists more slot.caller.session s.multi s.first s.members g s.recorded;
    behind = s.behind;
    member = s.member;
  }) (slots_in e) n;
}

pub offsets_lasting : (start : Start) → IsLasting (NeedsOffsets start)
offsets_lasting start = record {
  stays = λ lists more lock before e g n. all_weaker (λ set. OffsetOf start lists set) (λ set. OffsetOf start more set) (λ set o. record {
    members = o.members;
    recorded = recorded_grows lists more set.caller.session set.multi set.offset o.members g o.recorded;
    each = λ k member here.
        ⊎_elim (λ s. inl (slot_grows start lists more (set.offset + k) member g s))
        (λ c. inr (gone_grows (at lists (members_lock_of start (set.offset + k))) (at more (members_lock_of start (set.offset + k))) (set.offset + k) (g.begins (members_lock_of start (set.offset + k))) c))
        (o.each k member here);
  }) (offsets_in e) n;
}

-- syncs and forgets

synced_grows : (es more before : List Entry) → Begins es more → IsSynced es before → IsSynced more before
synced_grows es more before b s =
    let e : Entry = record { by = s.by; kind = kinds.Sync } in
    record { place = s.place; by = s.by; sync = slice_get_begins es more s.place e b s.sync; front = take_begins es more s.place e b s.sync ∙ s.front }

states_synced_grow : (start : Start) (es more : List Entry) (bank : ℕ) (Named : ℕ → Type 0) → Begins es more → AreStatesSynced start es bank Named → AreStatesSynced start more bank Named
states_synced_grow start es more bank Named b s = record { before = s.before; synced = synced_grows es more s.before b s.synced; each = s.each }

offsets_synced_grow : (start : Start) (es more : List Entry) (bank : ℕ) (Recorded : ℕ → ℕ → List Member → Type 0) → Begins es more → AreOffsetsSynced start es bank Recorded → AreOffsetsSynced start more bank Recorded
offsets_synced_grow start es more bank Recorded b s = record { before = s.before; synced = synced_grows es more s.before b s.synced; each = s.each }

members_synced_grow : (start : Start) (es more : List Entry) (bank : ℕ) (Recorded : ℕ → ℕ → List Member → Type 0) → Begins es more → AreMembersSynced start es bank Recorded → AreMembersSynced start more bank Recorded
members_synced_grow start es more bank Recorded b s = record { before = s.before; synced = synced_grows es more s.before b s.synced; each = s.each }

forget_grows : (start : Start) (lists more : List (List Entry)) (before : List Entry) (number : ℕ) → Grows lists more → MayForget start lists before number → MayForget start more before number
forget_grows start lists more before number g m = record {
  from = m.from;
  by = m.by;
  counters = m.counters;
  checkpoint = m.checkpoint;
  flush = m.flush;
  to = m.to;
  past = m.past;
  flushed = m.flushed;
  states = λ bank inside. states_synced_grow start (at lists (xact_lock bank)) (at more (xact_lock bank)) bank (IsNamedBelow start before number) (g.begins (xact_lock bank)) (m.states bank inside);
  offsets = λ bank inside. offsets_synced_grow start (at lists (offsets_lock bank)) (at more (offsets_lock bank)) bank (IsMultiBelow start before number) (g.begins (offsets_lock bank)) (m.offsets bank inside);
  members = λ bank inside. members_synced_grow start (at lists (members_lock bank)) (at more (members_lock bank)) bank (IsMultiBelow start before number) (g.begins (members_lock bank)) (m.members bank inside);
  recorded = m.recorded;
}

forget_stays : (start : Start) (lists more : List (List Entry)) (before : List Entry) (kind : Kind) → Grows lists more → ForgetOf start lists before kind → ForgetOf start more before kind
forget_stays start lists more before (kinds.Forget number) g n = forget_grows start lists more before number g n
forget_stays start lists more before (kinds.LogFault (calls.Forget number) count) g n = forget_grows start lists more before number g n
forget_stays start lists more before _ g n = tt

pub syncs_lasting : (start : Start) → IsLasting (NeedsSync start)
syncs_lasting start = record { stays = λ lists more lock before e g n. forget_stays start lists more before e.kind g n }

-- published numbers

found_grows : (shown : List Event → ℕ) (lists more : List (List Entry)) (before : List Entry) (number : ℕ) → Grows lists more → IsFound shown lists before number → IsFound shown more before number
found_grows shown lists more before number g f =
    let r = taken_begins (history lists) (history more) f.place (history_grows lists more g) f.within in
    record { place = f.place; within = r.0; found = f.found ∙ ap (λ (h : List Event). shown h) (sym r.1); rises = f.rises }

pub shown_grows : (start : Start) (lists more : List (List Entry)) (oldest : ℕ) → Grows lists more → WasShown start lists oldest → WasShown start more oldest
shown_grows start lists more oldest g w = let lock = oldest_word start in ⊎_elim inl (λ p. inr (p.0, contains_begins (posts (at lists lock)) (posts (at more lock)) p.0 (begins_filter_map (λ (e : Entry). posted_in e.kind) (at lists lock) (at more lock) (g.begins lock)) p.1, p.2)) w

post_stays : (start : Start) (lists more : List (List Entry)) (lock : ℕ) (before : List Entry) (kind : Kind) → Grows lists more → PostIn start lists lock before kind → PostIn start more lock before kind
post_stays start lists more lock before (kinds.Post number) g n = record {
  oldest = λ q. found_grows (oldest_id start.base.oldest) lists more before number g (n.oldest q);
  xmin = λ q. found_grows (oldest_xmin start.base.next) lists more before number g (n.xmin q);
  form = n.form;
}
post_stays start lists more lock before (kinds.Event event) g n = shown_grows start lists more (oldest_id start.base.oldest (events_in before)) g n
post_stays start lists more lock before _ g n = tt

pub posts_lasting : (start : Start) → IsLasting (NeedsPost start)
posts_lasting start = record { stays = λ lists more lock before e g n. post_stays start lists more lock before e.kind g n }

-- faults, and records that contradict none

pub faults_lasting : (start : Start) → IsLasting (NeedsCount start)
faults_lasting start = record { stays = λ lists more lock before e g n. n }

pub down_lasting : IsLasting NeedsUp
down_lasting = record { stays = λ lists more lock before e g n. n }

pub once_lasting : IsLasting NeedsOnce
once_lasting = record { stays = λ lists more lock before e g n. n }
