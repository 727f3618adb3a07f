-- A freeze of a pinned multixact, step by step.
use Rattle.std.proofs.Common.{◌≡◌, ⊎_elim, ℕ, ◌<◌, ◌≤◌, Bool, List, [], ◌∷◌, ◌++◌, Some, Result, Ok, Err, drop, take, length, length-append, refl, sym, ap, subst, ◌∙◌, arith}
use Rattle.std.proofs.lemmas.List.{drop_at, take_at}
use Rattle.std.specs.List.{AllByRecursion}
use Rattle.disk_core.specs.declared.log_disk.LogDisk as logs
use Rattle.disk_core.specs.declared.page_disk.PageDisk as disks
use Rattle.hall.specs.declared.hall.Hall.{Hall}
use Rattle.hall.specs.Calls.{IsOf, start_of, view}
use Rattle.notes.specs.Lists.{Grows, at}
use Rattle.notes.proofs.Growing.{begins_length}
use Rattle.tx_core.proofs.Growing.{contains_begins}
use Rattle.tx_events.specs.Base.{IsBase}
use Rattle.tx_events.specs.Ids.{IsFullMulti}
use Rattle.tx_events.specs.Multis.{multi_by, pin_limit}
use Rattle.tx_events.proofs.Membership.{Has}
use Rattle.tx_events.specs.declared.event.By.{By}
use Rattle.tx_events.specs.declared.multi.MultiEvent.{MultiEvent}
use Rattle.tx_events.specs.declared.refusal.Lock.TheVariants as locks
use Rattle.tx_events.specs.declared.refusal.Refusal.{Refusal}
use Rattle.tx_events.specs.declared.refusal.Refusal.TheVariants as refusals
use Rattle.multi_store.specs.declared.answers.Held.{Held}
use Rattle.tx_core.specs.declared.entry.Entry.{Entry}
use Rattle.tx_core.specs.declared.entry.Kind.{Kind}
use Rattle.tx_core.specs.declared.entry.Start.{Start}
use Rattle.tx_core.specs.EngineInvariant.{EngineInvariant}
use Rattle.tx_core.specs.Locks.{IsPageLock, multi_lock, offsets_lock}
use Rattle.tx_core.specs.MultiEntries.{multi_history}
use Rattle.tx_core.proofs.OwnMultis.{pins_hold}
use Rattle.tx_core.proofs.Rising.{multis_grow}
use Rattle.engine_parts.specs.declared.part.Part.{Part}
use Rattle.engine_parts.specs.declared.session.Caller.{Caller}
use Rattle.engine_parts.specs.declared.session.Session.{Session}
use Rattle.engine_parts.specs.Adding.{Adds, IsPlain, MayMeet}
use Rattle.engine_parts.specs.Answers.{MetFault}
use Rattle.engine_parts.specs.Calls.{MayStep}
use Rattle.engine_parts.specs.Holds.{Knowledge, Section}
use Rattle.engine_parts.specs.Sessions.{IsAt, IsReady, by_at}
use Rattle.engine_parts.specs.Steps.{WentMulti}
use Rattle.engine_parts.proofs.Adding.{plain_meets}
use Rattle.engine_parts.proofs.Sectioning.{section_adds, shared_adds}
use Rattle.multi_sections.specs.Pinnings.{Pins, unhold_event}
use Rattle.multi_sections.specs.Raised.{IsNotRaisedNow}
use Rattle.multi_sections.specs.Raisings.{raise_event}
use Rattle.multi_sections.specs.Steps.{entry_of}
use Rattle.multi_sections.proofs.PinnedRaises.{few_before}
use Rattle.xact_freezes.specs.Freezes.{FreezesPinned, IsHeldSince, IsNotFrozenPinned, IsNotRaisedRead, IsOffsetsFault, IsStartRead, RaisesRead, WasHeldBack}
use Rattle.xact_freezes.specs.Visits.{Visited}
use Rattle.xact_freezes.proofs.Going.{visited_now, visited_then, visited_wider}
use Rattle.xact_freezes.proofs.Pinning.{IsKeeping, all_own, between, pins_kept}
use Rattle.xact_freezes.proofs.Starting.{begins_there, oldest_since}

-- ---- a bank of offsets

pub is_offsets_lock : (start : Start) (bank : ℕ) → bank < start.banks → IsPageLock start (offsets_lock bank)
is_offsets_lock start bank inside = record { from = omega arith; to = omega arith }

-- what a critical section of a bank adds
pub bank_adds : (start : Start) (v w : Knowledge) (lock : ℕ) (e : Entry) (by : By) (t : Session) (May : ℕ → Kind → Type 0) → IsPageLock start lock → IsAt start v by.session t → Section start lock e v w → e.by ≡ by → May lock e.kind → Adds by May v.seen w.seen
bank_adds start v w lock e by t May pages a s mine may = section_adds start v w lock e s (let wide = a.wide in let to = pages.to in omega arith) by t May a mine may

-- a fault stays met
fault_grows : (lists more : List (List Entry)) (lock : ℕ) (by : By) → Grows lists more → MetFault lists lock by → MetFault more lock by
fault_grows lists more lock by g f = record {
  adder = f.adder;
  callers = f.callers;
  changes = f.changes;
  cut = f.cut;
  count = f.count;
  hit = f.hit;
  stands = contains_begins (at lists lock) (at more lock) _ (g.begins lock) f.stands;
}

pub fault_told : (tells : Bool) (start : Start) (by : By) (lists mid more : List (List Entry)) (multi : ℕ) (r : Refusal) → Grows mid more → IsOffsetsFault mid by r → IsNotFrozenPinned tells start by lists more multi r
fault_told tells start by lists mid more multi (refusals.DiskFault (locks.Offsets bank)) g m = fault_grows mid more (offsets_lock bank) by g m
fault_told tells start by lists mid more multi r g m = absurd m

-- ---- the pin holds the multixact

pub pinned_from : (start : Start) (lists : List (List Entry)) (n multi : ℕ) → EngineInvariant start lists → Pins n multi lists → start.base.oldest_multi ≤ multi
pinned_from start lists n multi k c = let h = pins_hold start lists n multi k c in let from = h.0 in let since = oldest_since start lists k in omega arith

-- why it isn't raised
pub not_raised_read : (tells : Bool) (start : Start) (n : ℕ) (lists more : List (List Entry)) (h : Held) (low : ℕ) (r : Refusal) → IsBase start.base → EngineInvariant start lists → EngineInvariant start more → Grows lists more → IsStartRead tells start lists h.multi (Some low) → IsHeldSince start n more h → IsFullMulti start.base.multi → IsFullMulti h.multi
    → IsNotRaisedNow start.base (multi_history more) h low r → IsNotRaisedRead tells start more h.multi r
not_raised_read tells start n lists more h low (refusals.NotYet told) base k k' g read held first full i =
    let p = pins_hold start more n h.multi k' held.pins in (
      i.0,
      λ t few. i.1 (begins_there tells start n lists more h low base k k' g read held first full p.0 p.1 t few),
    )
not_raised_read tells start n lists more h low (refusals.Held limit) base k k' g read held first full i = (i.0, i.1)
not_raised_read tells start n lists more h low refusals.Memory base k k' g read held first full i = tt
not_raised_read tells start n lists more h low (refusals.Backward now) base k k' g read held first full i =
    let p = pins_hold start more n h.multi k' held.pins in
    absurd (let a = p.0 in let b = i.0 in let c = i.1 in omega (arith, a, b, c))
not_raised_read tells start n lists more h low r base k k' g read held first full i = absurd i

-- behind what is let go
unheld_back : (start : Start) (by : By) (lists mid more : List (List Entry)) (multi limit : ℕ) (event : MultiEvent) → multi_by event ≡ by → Grows lists mid → WentMulti by.session (event ∷ []) mid more → limit ≡ pin_limit start.base.multi (multi_history mid) → limit < multi → WasHeldBack start by lists more multi limit
unheld_back start by lists mid more multi limit event own g went is past =
    let b = between by.session (event ∷ []) mid more went in
    let up = multis_grow lists mid g in
    let front : take (length (multi_history mid)) (multi_history more) ≡ multi_history mid = ap (take (length (multi_history mid))) (sym b.split) ∙ take_at (multi_history mid) b.rest (length (multi_history mid)) refl in
    let behind : drop (length (multi_history mid)) (multi_history more) ≡ b.rest = ap (drop (length (multi_history mid))) (sym b.split) ∙ drop_at (multi_history mid) b.rest (length (multi_history mid)) refl in record {
      place = length (multi_history mid);
      from = begins_length (multi_history lists) (multi_history mid) up;
      upto = (let e : length (multi_history mid ++ b.rest) ≡ length (multi_history more) = ap (λ (h : List MultiEvent). length h) b.split in omega (arith, e, length-append (multi_history mid) b.rest));
      limit_is = is ∙ ap (pin_limit start.base.multi) (sym front);
      past = past;
      behind = subst (AllByRecursion (λ e. (multi_by e).session ≡ by.session → by.command ≤ (multi_by e).command)) (sym behind)
          (all_own by.session (λ e. by.command ≤ (multi_by e).command) b.rest (event ∷ []) b.own (λ e there. ⊎_elim
          (λ (q : event ≡ e). let c : (multi_by e).command ≡ by.command = ap (λ (z : MultiEvent). (multi_by z).command) (sym q) ∙ ap (λ (z : By). z.command) own in omega (arith, c))
          (λ z. absurd z)
          there));
    }

-- why it isn't announced, behind its release
not_frozen : (tells : Bool) (start : Start) (by : By) (lists mid more : List (List Entry)) (multi : ℕ) (event : MultiEvent) (r : Refusal) → multi_by event ≡ by → Grows lists mid → WentMulti by.session (event ∷ []) mid more → IsNotRaisedRead tells start mid multi r → IsNotFrozenPinned tells start by lists more multi r
not_frozen tells start by lists mid more multi event (refusals.NotYet told) own g went i = (i.0, λ t few. absurd (i.1 t (few_before mid more went.grows few)))
not_frozen tells start by lists mid more multi event (refusals.Held limit) own g went i = unheld_back start by lists mid more multi limit event own g went i.0 i.1
not_frozen tells start by lists mid more multi event refusals.Memory own g went i = tt
not_frozen tells start by lists mid more multi event r own g went i = absurd i

pub keeps_raise : (n : ℕ) (s : Session) (multi offset : ℕ) (e : MultiEvent) → Has (raise_event n s multi offset ∷ []) e → IsKeeping e
keeps_raise n s multi offset e there = ⊎_elim (λ (q : raise_event n s multi offset ≡ e). subst IsKeeping q tt) (λ z. absurd z) there

module _ {H L P : Type 0} {l : logs.Ghosts L} {p : disks.Ghosts P} (tells : Bool) (hall : Hall H (Part L P l p) Entry Start) (banks : ℕ) (h : Held) where
  -- behind the raise, whatever came of it, the session may go on and pins the multixact
  pub raised_step : (old new : Caller L P l p) (result : Result (Unit {0}) Refusal) → RaisesRead tells hall banks h old new result → MayStep hall banks new
  raised_step old new (Ok x) r = r.1.step
  raised_step old new (Err r) q = q.0.step

  pub raised_pins : (old new : Caller L P l p) (result : Result (Unit {0}) Refusal) → Pins old.number h.multi (view old.pass).seen → RaisesRead tells hall banks h old new result → Pins new.number h.multi (view new.pass).seen
  raised_pins old new (Ok x) c r = subst (λ n. Pins n h.multi (view new.pass).seen) (sym r.1.number) (pins_kept old.number h.multi (raise_event old.number old.session h.multi r.0 ∷ []) (view old.pass).seen (view new.pass).seen r.1.went (keeps_raise old.number old.session h.multi r.0) c)
  raised_pins old new (Err r) c q = subst (λ n. Pins n h.multi (view new.pass).seen) (sym q.0.number) (pins_kept old.number h.multi [] (view old.pass).seen (view new.pass).seen q.0.went (λ e k. absurd k) c)

  -- the multixact is let go
  pub let_go : (old new : Caller L P l p) → MayStep hall banks old → IsOf hall new.pass → IsReady (start_of hall) (view new.pass) new.number new.session → WentMulti old.number (unhold_event old.number old.session h.multi ∷ []) (view old.pass).seen (view new.pass).seen → (new.session ≡ old.session) × (new.number ≡ old.number)
      → Section (start_of hall) multi_lock (entry_of (unhold_event old.number old.session h.multi)) (view old.pass) (view new.pass) → Visited hall banks IsPlain (unhold_event old.number old.session h.multi ∷ []) old new
  let_go old new m own ready went same section =
      visited_now hall banks IsPlain (unhold_event old.number old.session h.multi ∷ []) old new m own ready went same
      (shared_adds (start_of hall) (view old.pass) (view new.pass) multi_lock (entry_of (unhold_event old.number old.session h.multi)) (by_at old.number old.session.levels.commands) old.session IsPlain (omega arith) m.may.ready.at section refl tt)

  -- behind steps without an event, and named as the session was
  pub go_behind : (May : ℕ → Kind → Type 0) (old mid new : Caller L P l p) → Visited hall banks May [] old mid → ((lock : ℕ) (kind : Kind) → IsPlain lock kind → May lock kind) → Visited hall banks IsPlain (unhold_event mid.number mid.session h.multi ∷ []) mid new → Visited hall banks May (unhold_event old.number old.session h.multi ∷ []) old new
  go_behind May old mid new first wide last =
      subst (λ (e : MultiEvent). Visited hall banks May (e ∷ []) old new) (λ j. unhold_event (first.number j) (first.session j) h.multi)
      (visited_then hall banks May IsPlain May [] (unhold_event mid.number mid.session h.multi ∷ []) old mid new (λ lock kind m. m) wide first last)

  -- so what a freeze of a pinned one leaves
  pub frozen_by : (old mid then new : Caller L P l p) (result : Result (Unit {0}) Refusal) → Visited hall banks IsPlain [] old mid → RaisesRead tells hall banks h mid then result → Visited hall banks IsPlain (unhold_event then.number then.session h.multi ∷ []) then new → FreezesPinned tells hall banks h old new result
  frozen_by old mid then new (Ok x) first r last =
      let number = r.1.number ∙ first.number in
      let session = r.1.session ∙ first.session in
      let all : Visited hall banks IsPlain (raise_event mid.number mid.session h.multi r.0 ∷ unhold_event then.number then.session h.multi ∷ []) old new =
      visited_then hall banks IsPlain IsPlain IsPlain [] (raise_event mid.number mid.session h.multi r.0 ∷ unhold_event then.number then.session h.multi ∷ []) old mid new (λ lock kind m. m) (λ lock kind m. m) first
      (visited_then hall banks IsPlain IsPlain IsPlain (raise_event mid.number mid.session h.multi r.0 ∷ []) (unhold_event then.number then.session h.multi ∷ []) mid then new (λ lock kind m. m) (λ lock kind m. m) r.1 last) in (
        r.0,
        subst (λ (z : MultiEvent × MultiEvent). Visited hall banks IsPlain (z.0 ∷ z.1 ∷ []) old new) (λ j. (raise_event (first.number j) (first.session j) h.multi r.0, unhold_event (number j) (session j) h.multi)) all,
        λ t few below. r.2 t (few_before (view then.pass).seen (view new.pass).seen last.went.grows few) below,
      )
  frozen_by old mid then new (Err r) first q last =
      let n = old.number in
      let both : Visited hall banks IsPlain [] old then = visited_then hall banks IsPlain IsPlain IsPlain [] [] old mid then (λ lock kind m. m) (λ lock kind m. m) first q.0 in
      let by : By = by_at old.number old.session.levels.commands in
      let event : MultiEvent = unhold_event old.number old.session h.multi in
      let went : WentMulti old.number (event ∷ []) (view then.pass).seen (view new.pass).seen = subst (λ (z : ℕ × MultiEvent). WentMulti z.0 (z.1 ∷ []) (view then.pass).seen (view new.pass).seen) (λ j. (both.number j, unhold_event (both.number j) (both.session j) h.multi)) last.went in (
        go_behind (MayMeet r) old then new (visited_wider hall banks IsPlain (MayMeet r) [] old then (plain_meets r) both) (plain_meets r) last,
        not_frozen tells (start_of hall) by (view old.pass).seen (view then.pass).seen (view new.pass).seen h.multi event r refl both.went.grows went q.1,
      )
