use Rattle.std.proofs.Common.{IsTrue, [], ◌∷◌, arith, refl, subst, sym, ◌∙◌, ℕ, ◌≡◌}
use Rattle.hall.specs.Calls.{view, start_of}
use Rattle.tx_events.specs.declared.event.By.{By}
use Rattle.tx_core.specs.declared.entry.Entry.{Entry}
use Rattle.tx_core.specs.declared.entry.Start.{Start}
use Rattle.tx_core.specs.Locks.{multi_lock}
use Rattle.engine_parts.specs.declared.session.Session.{Session}
use Rattle.engine_parts.specs.Adding.{Adds, IsPlain, MayMeet}
use Rattle.engine_parts.specs.Holds.{Knowledge, Section}
use Rattle.engine_parts.specs.Sessions.{by_at, look_by}
use Rattle.engine_parts.specs.Steps.{WentMulti}
use Rattle.engine_parts.proofs.Adding.{adds_then, plain_meets}
use Rattle.engine_parts.proofs.Sectioning.{same_command, shared_adds}
use Rattle.multi_sections.specs.Pinnings.{Pins, hold_event, unhold_event}
use Rattle.multi_sections.specs.Steps.{entry_of}
use Rattle.xact_reads.specs.Apart.{StaysApart}
use Rattle.xact_reads.specs.Multis.{IsNotRead}
use Rattle.xact_reads.proofs.Aparting.{apart_then, section_apart}
use Rattle.xact_reads.proofs.Going.{read_adds}
use Rattle.xact_reads.proofs.Once.{reads_done, reads_refused}
use Rattle.xact_reads.proofs.Pinning.{full_of, pins_kept}
use Rattle.xact_reads.proofs.multis.read_pinned.Goals as goal

pub returns-in-Err-clause-adds : goal.returns-in-Err-clause-adds
returns-in-Err-clause-adds g c =
    let old = c.args.caller.now in
    shared_adds (start_of c.args.hall.now) (view old.pass) (view c.pin_multi.new.caller.pass) multi_lock (look_by old.number old.session) (by_at old.number old.session.levels.commands) old.session (MayMeet c.in-Err.refusal) (omega arith) c.requires.ready.at c.in-Err.ensures.section refl tt

pub unpin_multi-requires-clause-pinned : goal.unpin_multi-requires-clause-pinned
unpin_multi-requires-clause-pinned g c =
    let old = c.args.caller.now in
    let a = c.pin_multi.new.caller in
    let b = c.gather-gathered.new.caller in
    let p = c.in-Ok.ensures in
    let e = c.gather-gathered.ensures in
    let here = subst (λ z. Pins z c.in-Ok.held.multi (view a.pass).seen) (sym p.same.1) p.pins.1 in
    subst (λ z. Pins z c.in-Ok.held.multi (view b.pass).seen) (sym e.same.1) (pins_kept a.number c.in-Ok.held.multi (view a.pass).seen (view b.pass).seen e.went here)

pub returns-in-Ok-gathered-clause-adds : goal.returns-in-Ok-gathered-clause-adds
returns-in-Ok-gathered-clause-adds g c =
    let start = start_of c.args.hall.now in
    let old = c.args.caller.now in
    let a = c.pin_multi.new.caller in
    let b = c.gather-gathered.new.caller in
    let w = c.unpin_multi.new.caller in
    let by = by_at old.number old.session.levels.commands in
    let p = c.in-Ok.ensures in
    let e = c.in-Ok-gathered.ensures in
    let first = shared_adds start (view old.pass) (view a.pass) multi_lock (entry_of (hold_event old.number old.session c.in-Ok.held)) by old.session IsPlain (omega arith) c.requires.ready.at p.section refl tt in
    let both = read_adds old.number a.number old.session a.session IsPlain (view old.pass).seen (view a.pass).seen (view b.pass).seen p.same.1 p.same.0 (λ lock kind m. m) first e.adds in
    let last = shared_adds start (view b.pass) (view w.pass) multi_lock (entry_of (unhold_event b.number b.session c.in-Ok.held.multi)) (by_at b.number b.session.levels.commands) b.session IsPlain (omega arith) e.ready.at c.unpin_multi.ensures.section refl tt in
    adds_then by IsPlain (view old.pass).seen (view b.pass).seen (view w.pass).seen both
    (subst (λ (z : By). Adds z IsPlain (view b.pass).seen (view w.pass).seen) (same_command old.number b.number old.session b.session (e.same.1 ∙ p.same.1) (e.same.0 ∙ p.same.0)) last)

pub returns-in-Err-gathered-clause-adds : goal.returns-in-Err-gathered-clause-adds
returns-in-Err-gathered-clause-adds g c =
    let start = start_of c.args.hall.now in
    let old = c.args.caller.now in
    let a = c.pin_multi.new.caller in
    let b = c.gather-gathered.new.caller in
    let w = c.unpin_multi.new.caller in
    let by = by_at old.number old.session.levels.commands in
    let p = c.in-Ok.ensures in
    let e = c.in-Err-gathered.ensures in
    let told = MayMeet c.in-Err-gathered.refusal in
    let first = shared_adds start (view old.pass) (view a.pass) multi_lock (entry_of (hold_event old.number old.session c.in-Ok.held)) by old.session IsPlain (omega arith) c.requires.ready.at p.section refl tt in
    let both = read_adds old.number a.number old.session a.session told (view old.pass).seen (view a.pass).seen (view b.pass).seen p.same.1 p.same.0 (plain_meets c.in-Err-gathered.refusal) first e.adds in
    let last = shared_adds start (view b.pass) (view w.pass) multi_lock (entry_of (unhold_event b.number b.session c.in-Ok.held.multi)) (by_at b.number b.session.levels.commands) b.session told (omega arith) e.ready.at c.unpin_multi.ensures.section refl tt in
    adds_then by told (view old.pass).seen (view b.pass).seen (view w.pass).seen both
    (subst (λ (z : By). Adds z told (view b.pass).seen (view w.pass).seen) (same_command old.number b.number old.session b.session (e.same.1 ∙ p.same.1) (e.same.0 ∙ p.same.0)) last)

pub returns-in-Ok-gathered-clause-reads : goal.returns-in-Ok-gathered-clause-reads
returns-in-Ok-gathered-clause-reads g c =
    let start = start_of c.args.hall.now in
    let old = c.args.caller.now in
    let a = c.pin_multi.new.caller in
    let b = c.gather-gathered.new.caller in
    let w = c.unpin_multi.new.caller in
    let p = c.in-Ok.ensures in
    let e = c.in-Ok-gathered.ensures in
    let held = c.in-Ok.held in
    reads_done start old.number old.session c.args.m.number (view old.pass).seen (view a.pass).seen held p.pins _ (view b.pass).seen (view w.pass).seen c.gather-gathered.new.into.items
    (subst (λ z. WentMulti z [] (view a.pass).seen (view b.pass).seen) p.same.1 e.went)
    (subst (λ (z : ℕ × Session). WentMulti z.0 (unhold_event z.0 z.1 held.multi ∷ []) (view b.pass).seen (view w.pass).seen) (λ j. ((e.same.1 ∙ p.same.1) j, (e.same.0 ∙ p.same.0) j)) c.unpin_multi.ensures.went)
    e.slots

pub returns-in-Err-gathered-clause-reads : goal.returns-in-Err-gathered-clause-reads
returns-in-Err-gathered-clause-reads g c =
    let start = start_of c.args.hall.now in
    let old = c.args.caller.now in
    let a = c.pin_multi.new.caller in
    let b = c.gather-gathered.new.caller in
    let w = c.unpin_multi.new.caller in
    let p = c.in-Ok.ensures in
    let e = c.in-Err-gathered.ensures in
    let held = c.in-Ok.held in
    let some = c.requires.some in
    reads_refused start old.number old.session c.args.m.number (view old.pass).seen (view a.pass).seen held p.pins _ (view b.pass).seen (view w.pass).seen c.gather-gathered.new.into.items
    (full_of start.base p.pins.2 c.args.m.number held p.pins.4 (omega arith)) c.in-Err-gathered.refusal
    (subst (λ z. WentMulti z [] (view a.pass).seen (view b.pass).seen) p.same.1 e.went)
    (subst (λ (z : ℕ × Session). WentMulti z.0 (unhold_event z.0 z.1 held.multi ∷ []) (view b.pass).seen (view w.pass).seen) (λ j. ((e.same.1 ∙ p.same.1) j, (e.same.0 ∙ p.same.0) j)) c.unpin_multi.ensures.went)
    (subst (λ (z : ℕ × Session). IsNotRead start (IsTrue g.P.PageDisk.tells) (view b.pass).seen (by_at z.0 z.1.levels.commands) held c.in-Err-gathered.refusal) (λ j. (p.same.1 j, p.same.0 j)) e.unread)

pub returns-in-Err-clause-apart : goal.returns-in-Err-clause-apart
returns-in-Err-clause-apart g c =
    let old = c.args.caller.now in
    section_apart (start_of c.args.hall.now) (view old.pass) (view c.pin_multi.new.caller.pass) multi_lock (look_by old.number old.session) old.number c.requires.ready.at.name (omega arith) c.in-Err.ensures.section

-- the pin, what is read under it, and the pin let go
apart_pinned : (start : Start) (v a b w : Knowledge) (n m k : ℕ) (pin unpin : Entry) → v.name ≡ n → b.name ≡ k → m ≡ n → k ≡ m → Section start multi_lock pin v a → StaysApart m a.seen b.seen → Section start multi_lock unpin b w → StaysApart n v.seen w.seen
apart_pinned start v a b w n m k pin unpin name named first second before here behind =
    let last : StaysApart k b.seen w.seen = section_apart start b w multi_lock unpin k named (omega arith) behind in
    apart_then n m v.seen a.seen w.seen first (section_apart start v a multi_lock pin n name (omega arith) before) (apart_then m k a.seen b.seen w.seen second here last)

pub returns-in-Ok-gathered-clause-apart : goal.returns-in-Ok-gathered-clause-apart
returns-in-Ok-gathered-clause-apart g c =
    let old = c.args.caller.now in
    let a = c.pin_multi.new.caller in
    let b = c.gather-gathered.new.caller in
    let p = c.in-Ok.ensures in
    let e = c.in-Ok-gathered.ensures in
    apart_pinned (start_of c.args.hall.now) (view old.pass) (view a.pass) (view b.pass) (view c.unpin_multi.new.caller.pass) old.number a.number b.number (entry_of (hold_event old.number old.session c.in-Ok.held)) (entry_of (unhold_event b.number b.session c.in-Ok.held.multi)) c.requires.ready.at.name e.ready.at.name p.same.1 e.same.1 p.section e.apart c.unpin_multi.ensures.section

pub returns-in-Err-gathered-clause-apart : goal.returns-in-Err-gathered-clause-apart
returns-in-Err-gathered-clause-apart g c =
    let old = c.args.caller.now in
    let a = c.pin_multi.new.caller in
    let b = c.gather-gathered.new.caller in
    let p = c.in-Ok.ensures in
    let e = c.in-Err-gathered.ensures in
    apart_pinned (start_of c.args.hall.now) (view old.pass) (view a.pass) (view b.pass) (view c.unpin_multi.new.caller.pass) old.number a.number b.number (entry_of (hold_event old.number old.session c.in-Ok.held)) (entry_of (unhold_event b.number b.session c.in-Ok.held.multi)) c.requires.ready.at.name e.ready.at.name p.same.1 e.same.1 p.section e.apart c.unpin_multi.ensures.section
