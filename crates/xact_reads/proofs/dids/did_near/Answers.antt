use Rattle.std.proofs.Common.{[], false, IfSome, None, Some, arith, subst, sym, length, ◌<◌, ◌≤◌, ◌^◌, ◌∙◌}
use Rattle.std.proofs.lemmas.Bool.Decides.{nat_tests}
use Rattle.hall.specs.Calls.{view, start_of}
use Rattle.tx_events.specs.declared.event.By.{By}
use Rattle.tx_events.specs.declared.refusal.Refusal.TheVariants as refusals
use Rattle.tx_events.specs.Events.{given}
use Rattle.tx_events.specs.Nearest.{IsNearest}
use Rattle.tx_events.proofs.IdOrder.{nth_from}
use Rattle.tx_core.specs.Entries.{history}
use Rattle.proc_table.proofs.Bounds.{full_from}
use Rattle.engine_parts.specs.Adding.{IsPlain, MayMeet}
use Rattle.engine_parts.specs.Steps.{WentOn}
use Rattle.engine_parts.proofs.Adding.{plain_meets}
use Rattle.engine_parts.proofs.Sectioning.{same_command}
use Rattle.engine_parts.proofs.Stepping.{went_nowhere}
use Rattle.engine_parts.proofs.Unmoved.{at_same, look_adds}
use Rattle.xact_reads.specs.Readings.{IsUnread}
use Rattle.xact_reads.proofs.Going.{read_adds, went_both}
use Rattle.xact_reads.proofs.Limits.{horizon_from, next_small}
use Rattle.xact_reads.proofs.Telling.{not_given, tells_read, tells_ungiven, told_answer, told_nothing, told_too_old, used_here}
use Rattle.xact_reads.proofs.dids.did_near.Goals as goal

pub near-requires-clause-from : goal.near-requires-clause-from
near-requires-clause-from g c =
    let v = c.args.caller.now in
    let u = c.read_horizons-found.new.caller in
    let e = c.read_horizons-found.ensures in
    let found = c.read_horizons-found.result in
    let start = start_of c.args.hall.now in
    let a = at_same start (view u.pass) v.number u.number v.session u.session e.same.1 e.same.0 e.ready in
    let first = full_from start.base.next a.base.full in
    let more = nth_from start.base.next (length (given (history (view u.pass).seen))) in
    let next = e.horizons.next in
    omega arith

pub near-requires-clause-to : goal.near-requires-clause-to
near-requires-clause-to g c =
    let v = c.args.caller.now in
    let u = c.read_horizons-found.new.caller in
    let e = c.read_horizons-found.ensures in
    let found = c.read_horizons-found.result in
    let start = start_of c.args.hall.now in
    let a = at_same start (view u.pass) v.number u.number v.session u.session e.same.1 e.same.0 e.ready in
    subst (λ z. z < 2 ^ 63) (sym e.horizons.next) (next_small start.base (history (view u.pass).seen) a.base a.kept.events.legal)

pub stores_say-requires-clause-from : goal.stores_say-requires-clause-from
stores_say-requires-clause-from g c =
    let v = c.args.caller.now in
    let u = c.read_horizons-found.new.caller in
    let e = c.read_horizons-found.ensures in
    let found = c.read_horizons-found.result in
    let start = start_of c.args.hall.now in
    let a = at_same start (view u.pass) v.number u.number v.session u.session e.same.1 e.same.0 e.ready in
    subst (λ z. 3 ≤ z) (sym e.horizons.xmin) (horizon_from start.base (history (view u.pass).seen) a.base a.kept.events.legal)

pub stores_say-requires-clause-full : goal.stores_say-requires-clause-full
stores_say-requires-clause-full g c =
    let near = subst (λ o. IfSome o (IsNearest c.read_horizons-found.result.next c.args.x.number)) c.in-Some.is c.near.ensures.found in
    subst (λ z. 3 ≤ z) (sym near.low) c.requires.normal

pub stores_say-requires-clause-to : goal.stores_say-requires-clause-to
stores_say-requires-clause-to g c =
    let v = c.args.caller.now in
    let u = c.read_horizons-found.new.caller in
    let e = c.read_horizons-found.ensures in
    let found = c.read_horizons-found.result in
    let start = start_of c.args.hall.now in
    let a = at_same start (view u.pass) v.number u.number v.session u.session e.same.1 e.same.0 e.ready in
    let small = next_small start.base (history (view u.pass).seen) a.base a.kept.events.legal in
    let next = e.horizons.next in
    let new : c.in-Some.id < found.next = grind (arith, nat_tests, c.if-ge.false, c.ge.ensures) in
    omega arith

pub returns-in-None-clause-adds : goal.returns-in-None-clause-adds
returns-in-None-clause-adds g c =
    let v = c.args.caller.now in
    let u = c.read_horizons-found.new.caller in
    let e = c.read_horizons-found.ensures in
    let found = c.read_horizons-found.result in
    let start = start_of c.args.hall.now in
    look_adds start (view v.pass) (view u.pass) v.number v.session (MayMeet (refusals.TooOld found.oldest)) c.requires.ready.at (λ number. tt) tt e.section

pub returns-then-lt-clause-adds : goal.returns-then-lt-clause-adds
returns-then-lt-clause-adds g c =
    let v = c.args.caller.now in
    let u = c.read_horizons-found.new.caller in
    let e = c.read_horizons-found.ensures in
    let found = c.read_horizons-found.result in
    let start = start_of c.args.hall.now in
    look_adds start (view v.pass) (view u.pass) v.number v.session (MayMeet (refusals.TooOld found.oldest)) c.requires.ready.at (λ number. tt) tt e.section

pub returns-in-None-clause-allowed : goal.returns-in-None-clause-allowed
returns-in-None-clause-allowed g c =
    let v = c.args.caller.now in
    let u = c.read_horizons-found.new.caller in
    let e = c.read_horizons-found.ensures in
    let found = c.read_horizons-found.result in
    let start = start_of c.args.hall.now in
    let a = at_same start (view u.pass) v.number u.number v.session u.session e.same.1 e.same.0 e.ready in
    told_too_old start (view v.pass) (view u.pass) (view u.pass) v.number v.session c.args.x found a a e.went (went_nowhere v.number (view u.pass).seen) c.requires.normal e.horizons (g.P.PageDisk.tells) None (sym c.near.ensures.value ∙ c.in-None.is) tt

pub returns-then-lt-clause-allowed : goal.returns-then-lt-clause-allowed
returns-then-lt-clause-allowed g c =
    let v = c.args.caller.now in
    let u = c.read_horizons-found.new.caller in
    let e = c.read_horizons-found.ensures in
    let found = c.read_horizons-found.result in
    let start = start_of c.args.hall.now in
    let a = at_same start (view u.pass) v.number u.number v.session u.session e.same.1 e.same.0 e.ready in
    told_too_old start (view v.pass) (view u.pass) (view u.pass) v.number v.session c.args.x found a a e.went (went_nowhere v.number (view u.pass).seen) c.requires.normal e.horizons (g.P.PageDisk.tells) (Some c.in-Some.id) (sym c.near.ensures.value ∙ c.in-Some.is) (grind (arith, nat_tests, c.if-lt.true, c.lt.ensures))

pub returns-then-ge-clause-adds : goal.returns-then-ge-clause-adds
returns-then-ge-clause-adds g c =
    let v = c.args.caller.now in
    let u = c.read_horizons-found.new.caller in
    let e = c.read_horizons-found.ensures in
    let found = c.read_horizons-found.result in
    let start = start_of c.args.hall.now in
    look_adds start (view v.pass) (view u.pass) v.number v.session IsPlain c.requires.ready.at (λ number. tt) tt e.section

pub returns-then-ge-clause-allowed : goal.returns-then-ge-clause-allowed
returns-then-ge-clause-allowed g c =
    let v = c.args.caller.now in
    let u = c.read_horizons-found.new.caller in
    let e = c.read_horizons-found.ensures in
    let found = c.read_horizons-found.result in
    let start = start_of c.args.hall.now in
    let a = at_same start (view u.pass) v.number u.number v.session u.session e.same.1 e.same.0 e.ready in
    let near = subst (λ o. IfSome o (IsNearest found.next c.args.x.number)) c.in-Some.is c.near.ensures.found in
    let young : found.oldest ≤ c.in-Some.id = grind (arith, nat_tests, c.if-lt.false, c.lt.ensures) in
    let past : found.next ≤ c.in-Some.id = grind (arith, nat_tests, c.if-ge.true, c.ge.ensures) in
    let normal : 3 ≤ c.in-Some.id = full_from c.in-Some.id (subst (λ z. 3 ≤ z) (sym near.low) c.requires.normal) in
    told_answer start (view v.pass) (view u.pass) (view u.pass) v.number v.session c.args.x found a a e.went (went_nowhere v.number (view u.pass).seen) c.requires.normal e.horizons (g.P.PageDisk.tells) c.in-Some.id false (sym c.near.ensures.value ∙ c.in-Some.is) young (λ told. not_given start (view v.pass) (view u.pass) (view u.pass) v.number v.session c.args.x found a a e.went (went_nowhere v.number (view u.pass).seen) c.requires.normal e.horizons c.in-Some.id normal past)

pub returns-then-ge-clause-said : goal.returns-then-ge-clause-said
returns-then-ge-clause-said g c told =
    let v = c.args.caller.now in
    let u = c.read_horizons-found.new.caller in
    let e = c.read_horizons-found.ensures in
    let found = c.read_horizons-found.result in
    let start = start_of c.args.hall.now in
    let past : found.next ≤ c.in-Some.id = grind (arith, nat_tests, c.if-ge.true, c.ge.ensures) in
    tells_ungiven start (view v.pass).seen (view u.pass).seen c.args.x.number c.in-Some.id found e.horizons e.went.on.grows (sym c.near.ensures.value ∙ c.in-Some.is) past

pub returns-in-Ok-clause-went : goal.returns-in-Ok-clause-went
returns-in-Ok-clause-went g c =
    let v = c.args.caller.now in
    let u = c.read_horizons-found.new.caller in
    let e = c.read_horizons-found.ensures in
    let found = c.read_horizons-found.result in
    let start = start_of c.args.hall.now in
    let w = c.stores_say.new.caller in
    let f = c.in-Ok.ensures in
    went_both v.number u.number (view v.pass).seen (view u.pass).seen (view w.pass).seen e.same.1 e.went f.went

pub returns-in-Ok-clause-adds : goal.returns-in-Ok-clause-adds
returns-in-Ok-clause-adds g c =
    let v = c.args.caller.now in
    let u = c.read_horizons-found.new.caller in
    let e = c.read_horizons-found.ensures in
    let found = c.read_horizons-found.result in
    let start = start_of c.args.hall.now in
    let w = c.stores_say.new.caller in
    let f = c.in-Ok.ensures in
    read_adds v.number u.number v.session u.session IsPlain (view v.pass).seen (view u.pass).seen (view w.pass).seen e.same.1 e.same.0 (λ lock kind m. m)
    (look_adds start (view v.pass) (view u.pass) v.number v.session IsPlain c.requires.ready.at (λ number. tt) tt e.section) f.adds

pub returns-in-Err-clause-went : goal.returns-in-Err-clause-went
returns-in-Err-clause-went g c =
    let v = c.args.caller.now in
    let u = c.read_horizons-found.new.caller in
    let e = c.read_horizons-found.ensures in
    let found = c.read_horizons-found.result in
    let start = start_of c.args.hall.now in
    let w = c.stores_say.new.caller in
    let f = c.in-Err.ensures in
    went_both v.number u.number (view v.pass).seen (view u.pass).seen (view w.pass).seen e.same.1 e.went f.went

pub returns-in-Err-clause-adds : goal.returns-in-Err-clause-adds
returns-in-Err-clause-adds g c =
    let v = c.args.caller.now in
    let u = c.read_horizons-found.new.caller in
    let e = c.read_horizons-found.ensures in
    let found = c.read_horizons-found.result in
    let start = start_of c.args.hall.now in
    let w = c.stores_say.new.caller in
    let f = c.in-Err.ensures in
    read_adds v.number u.number v.session u.session (MayMeet c.in-Err.refusal) (view v.pass).seen (view u.pass).seen (view w.pass).seen e.same.1 e.same.0 (plain_meets c.in-Err.refusal)
    (look_adds start (view v.pass) (view u.pass) v.number v.session IsPlain c.requires.ready.at (λ number. tt) tt e.section) f.adds

pub returns-in-Ok-clause-allowed : goal.returns-in-Ok-clause-allowed
returns-in-Ok-clause-allowed g c =
    let v = c.args.caller.now in
    let u = c.read_horizons-found.new.caller in
    let e = c.read_horizons-found.ensures in
    let found = c.read_horizons-found.result in
    let start = start_of c.args.hall.now in
    let w = c.stores_say.new.caller in
    let f = c.in-Ok.ensures in
    let a = at_same start (view u.pass) v.number u.number v.session u.session e.same.1 e.same.0 e.ready in
    let b = at_same start (view w.pass) v.number w.number v.session w.session (f.same.1 ∙ e.same.1) (f.same.0 ∙ e.same.0) f.ready in
    let second = subst (λ z. WentOn z [] (view u.pass).seen (view w.pass).seen) e.same.1 f.went in
    let near = subst (λ o. IfSome o (IsNearest found.next c.args.x.number)) c.in-Some.is c.near.ensures.found in
    let young : found.oldest ≤ c.in-Some.id = grind (arith, nat_tests, c.if-lt.false, c.lt.ensures) in
    let new : c.in-Some.id < found.next = grind (arith, nat_tests, c.if-ge.false, c.ge.ensures) in
    told_answer start (view v.pass) (view u.pass) (view w.pass) v.number v.session c.args.x found a b e.went second c.requires.normal e.horizons (g.P.PageDisk.tells) c.in-Some.id c.in-Ok.did (sym c.near.ensures.value ∙ c.in-Some.is) young
    (λ told. f.did told.0 (used_here start (view v.pass) (view u.pass) (view w.pass) v.number v.session c.args.x found a b e.went second c.requires.normal e.horizons c.in-Some.id near young new told.1) told.1)

pub returns-in-Ok-clause-said : goal.returns-in-Ok-clause-said
returns-in-Ok-clause-said g c told =
    let v = c.args.caller.now in
    let u = c.read_horizons-found.new.caller in
    let e = c.read_horizons-found.ensures in
    let found = c.read_horizons-found.result in
    let start = start_of c.args.hall.now in
    let w = c.stores_say.new.caller in
    let f = c.in-Ok.ensures in
    tells_read start (view v.pass).seen (view u.pass).seen (view w.pass).seen c.args.x.number c.in-Some.id found c.in-Ok.did e.horizons e.went.on.grows (sym c.near.ensures.value ∙ c.in-Some.is) (f.said told)

pub returns-in-Err-clause-allowed : goal.returns-in-Err-clause-allowed
returns-in-Err-clause-allowed g c =
    let v = c.args.caller.now in
    let u = c.read_horizons-found.new.caller in
    let e = c.read_horizons-found.ensures in
    let found = c.read_horizons-found.result in
    let start = start_of c.args.hall.now in
    let w = c.stores_say.new.caller in
    let f = c.in-Err.ensures in
    let a = at_same start (view u.pass) v.number u.number v.session u.session e.same.1 e.same.0 e.ready in
    let b = at_same start (view w.pass) v.number w.number v.session w.session (f.same.1 ∙ e.same.1) (f.same.0 ∙ e.same.0) f.ready in
    let second = subst (λ z. WentOn z [] (view u.pass).seen (view w.pass).seen) e.same.1 f.went in
    let unread = subst (λ (by : By). IsUnread start (view w.pass).seen by c.in-Some.id c.in-Err.refusal) (same_command v.number u.number v.session u.session e.same.1 e.same.0) f.unread in
    (told_nothing start (view v.pass) (view u.pass) (view w.pass) v.number v.session c.args.x found a b e.went second c.requires.normal e.horizons (g.P.PageDisk.tells) c.in-Some.id c.in-Err.refusal (sym c.near.ensures.value ∙ c.in-Some.is) unread).0

pub returns-in-Err-clause-standing : goal.returns-in-Err-clause-standing
returns-in-Err-clause-standing g c =
    let v = c.args.caller.now in
    let u = c.read_horizons-found.new.caller in
    let e = c.read_horizons-found.ensures in
    let found = c.read_horizons-found.result in
    let start = start_of c.args.hall.now in
    let w = c.stores_say.new.caller in
    let f = c.in-Err.ensures in
    let a = at_same start (view u.pass) v.number u.number v.session u.session e.same.1 e.same.0 e.ready in
    let b = at_same start (view w.pass) v.number w.number v.session w.session (f.same.1 ∙ e.same.1) (f.same.0 ∙ e.same.0) f.ready in
    let second = subst (λ z. WentOn z [] (view u.pass).seen (view w.pass).seen) e.same.1 f.went in
    let unread = subst (λ (by : By). IsUnread start (view w.pass).seen by c.in-Some.id c.in-Err.refusal) (same_command v.number u.number v.session u.session e.same.1 e.same.0) f.unread in
    (told_nothing start (view v.pass) (view u.pass) (view w.pass) v.number v.session c.args.x found a b e.went second c.requires.normal e.horizons (g.P.PageDisk.tells) c.in-Some.id c.in-Err.refusal (sym c.near.ensures.value ∙ c.in-Some.is) unread).1
