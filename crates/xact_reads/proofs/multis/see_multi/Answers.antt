use Rattle.std.proofs.Common.{List, [], ap, inl, length, refl, sym, subst, ◌∙◌, ◌≤◌}
use Rattle.hall.specs.Calls.{view, start_of}
use Rattle.tx_events.specs.declared.order.Xid.{Xid}
use Rattle.tx_model.specs.declared.command.Command.TheVariants as commands
use Rattle.tx_model.specs.declared.reply.MemberVerdict.{MemberVerdict}
use Rattle.tx_model.specs.declared.reply.Reply.TheVariants as replies
use Rattle.session_levels.proofs.ActsLemmas.{snap_found}
use Rattle.engine_parts.specs.declared.session.Session.{Session}
use Rattle.engine_parts.specs.Adding.{IsPlain, MayMeet}
use Rattle.engine_parts.specs.Calls.{Ran, next_command}
use Rattle.engine_parts.specs.Sessions.{by_at, stance_of}
use Rattle.engine_parts.specs.Steps.{WentOn}
use Rattle.engine_parts.proofs.Adding.{plain_meets}
use Rattle.engine_parts.proofs.Calling.{may_counted}
use Rattle.engine_parts.proofs.Sectioning.{same_command}
use Rattle.engine_parts.proofs.Unmoved.{at_same}
use Rattle.tx_events.specs.declared.event.By.{By}
use Rattle.bank_sections.specs.Faults.{IsBankFault}
use Rattle.std.specs.List.{filter_map}
use Rattle.bank_stores.specs.declared.slot.Slot.{Slot}
use Rattle.xact_reads.specs.Glances.{IsNamed}
use Rattle.xact_reads.specs.Multis.{AreJudged, IsStoredIn, pair_in}
use Rattle.xact_reads.specs.Apart.{ApartOrMet}
use Rattle.xact_reads.proofs.Aparting.{counted_apart}
use Rattle.xact_reads.proofs.Asking.{met_asked}
use Rattle.xact_reads.proofs.Going.{read_adds}
use Rattle.xact_reads.proofs.MultiRunning.{ran_judged, ran_short, ran_unjudged, ran_unnamed, ran_unread}
use Rattle.xact_reads.proofs.Pinning.{multi_quiet}
use Rattle.xact_reads.proofs.Replying.{named_at, not_refused, refused_before}
use Rattle.xact_reads.proofs.multis.see_multi.Goals as goal

first : Xid
first = record { number = 0 }

pub returns-in-None-clause-ran : goal.returns-in-None-clause-ran
returns-in-None-clause-ran g c =
    let old = c.args.caller.now in
    let u = c.count.new.caller in
    let r = refused_before old.session.levels u.session.levels old.session.stage c.args.name.now first c.count.ensures.levels c.in-None.ensures.none in
    ran_unnamed c.args.hall.now old u c.args.name.now c.args.m c.count.ensures c.requires.may r.0 r.1

pub returns-in_default-clause-ran : goal.returns-in_default-clause-ran
returns-in_default-clause-ran g c =
    ran_short c.args.hall.now c.args.caller.now c.count.new.caller c.args.name.now c.args.m c.count.ensures c.requires.may (not_refused c.count.new.caller.session c.args.name.now first c.in-Some.field-0.now c.in-Some.ensures.found)

pub returns-in_default-with_capacity-clause-ran : goal.returns-in_default-with_capacity-clause-ran
returns-in_default-with_capacity-clause-ran g c =
    ran_short c.args.hall.now c.args.caller.now c.count.new.caller c.args.name.now c.args.m c.count.ensures c.requires.may (not_refused c.count.new.caller.session c.args.name.now first c.in-Some.field-0.now c.in-Some.ensures.found)

pub read_pinned-requires-clause-ready : goal.read_pinned-requires-clause-ready
read_pinned-requires-clause-ready g c = (may_counted c.args.hall.now c.args.caller.now c.count.new.caller c.count.ensures c.requires.may).ready

pub returns-in-Err-clause-ran : goal.returns-in-Err-clause-ran
returns-in-Err-clause-ran g c =
    let e = c.in-Err.ensures in
    ran_unread c.args.hall.now c.args.caller.now c.count.new.caller c.args.name.now c.args.m c.count.ensures c.requires.may (not_refused c.count.new.caller.session c.args.name.now first c.in-Some.field-0.now c.in-Some.ensures.found)
    c.read_pinned.new.caller c.in-Err.refusal c.read_pinned.new.into.items e.own e.ready e.same.0 e.same.1 e.adds e.reads

pub judge_all-requires-clause-named : goal.judge_all-requires-clause-named
judge_all-requires-clause-named g c =
    let k = c.in-Some.field-0.now in
    (k, subst (λ (s : Session). IsNamed s.levels c.args.name.now k) (sym c.in-Ok-read_pinned.ensures.same.0) c.in-Some.ensures.found)

pub returns-in-Ok-judge_all-clause-ran : goal.returns-in-Ok-judge_all-clause-ran
returns-in-Ok-judge_all-clause-ran g c =
    let start = start_of c.args.hall.now in
    let old = c.args.caller.now in
    let u = c.count.new.caller in
    let mid = c.read_pinned.new.caller in
    let new = c.judge_all.new.caller in
    let name = c.args.name.now in
    let k = c.in-Some.field-0.now in
    let named = c.in-Some.ensures.found in
    let e = c.in-Ok-read_pinned.ensures in
    let f = c.in-Ok-judge_all.ensures in
    let same = f.same.0 ∙ e.same.0 in
    let number = f.same.1 ∙ e.same.1 in
    let went = multi_quiet u.number (view mid.pass).seen (view new.pass).seen (subst (λ z. WentOn z [] (view mid.pass).seen (view new.pass).seen) e.same.1 f.went) in
    let adds = read_adds u.number mid.number u.session mid.session IsPlain (view u.pass).seen (view mid.pass).seen (view new.pass).seen e.same.1 e.same.0 (λ lock kind m. m) e.adds f.adds in
    subst (λ (vs : List MemberVerdict). Ran c.args.hall.now (next_command old) (commands.SeeMulti name c.args.m) (replies.Verdicts vs) old new) (sym c.of.ensures)
    (ran_judged c.args.hall.now old u name c.args.m c.count.ensures c.requires.may (not_refused u.session name first k named)
    mid new c.read_pinned.new.into.items f.own f.ready same number e.reads went k c.judge_all.new.into.items adds
    (named_at start (view new.pass) u.number u.session name k (at_same start (view new.pass) u.number new.number u.session new.session number same f.ready) named).0
    (snap_found name (stance_of u.session).levels u.session.levels.registered.items k named)
    (λ told few fits. subst (λ (t : List Slot). AreJudged start (view new.pass).seen k (filter_map pair_in t) c.judge_all.new.into.items) c.deref.ensures.value
    (f.said told few (subst (λ (t : List Slot). length (filter_map pair_in t) ≤ 64) (sym c.deref.ensures.value) fits) k (subst (λ (s : Session). IsNamed s.levels name k) (sym e.same.0) named))) f.ranges)

pub returns-clause-ran : goal.returns-clause-ran
returns-clause-ran g c =
    let old = c.args.caller.now in
    let u = c.count.new.caller in
    let mid = c.read_pinned.new.caller in
    let new = c.judge_all.new.caller in
    let name = c.args.name.now in
    let k = c.in-Some.field-0.now in
    let e = c.in-Ok-read_pinned.ensures in
    let f = c.in-Err-judge_all.ensures in
    let r = c.in-Err-judge_all.refusal in
    let same = f.same.0 ∙ e.same.0 in
    let number = f.same.1 ∙ e.same.1 in
    let went = multi_quiet u.number (view mid.pass).seen (view new.pass).seen (subst (λ z. WentOn z [] (view mid.pass).seen (view new.pass).seen) e.same.1 f.went) in
    let adds = read_adds u.number mid.number u.session mid.session (MayMeet r) (view u.pass).seen (view mid.pass).seen (view new.pass).seen e.same.1 e.same.0 (plain_meets r) e.adds f.adds in
    ran_unjudged c.args.hall.now old u name c.args.m c.count.ensures c.requires.may (not_refused u.session name first k c.in-Some.ensures.found)
    mid new c.read_pinned.new.into.items f.own f.ready same number e.reads went r adds
    (subst (λ (b : By). IsBankFault (view new.pass).seen b r) (same_command u.number mid.number u.session mid.session e.same.1 e.same.0) f.fault)

pub returns-in-None-clause-apart : goal.returns-in-None-clause-apart
returns-in-None-clause-apart g c =
    let u = c.count.new.caller in
    inl (counted_apart c.args.caller.now.number u.number (view c.args.caller.now.pass) (view u.pass) (view u.pass) (ap view c.count.ensures.pass) c.count.ensures.number refl)

pub returns-in_default-clause-apart : goal.returns-in_default-clause-apart
returns-in_default-clause-apart g c =
    let u = c.count.new.caller in
    inl (counted_apart c.args.caller.now.number u.number (view c.args.caller.now.pass) (view u.pass) (view u.pass) (ap view c.count.ensures.pass) c.count.ensures.number refl)

pub returns-in_default-with_capacity-clause-apart : goal.returns-in_default-with_capacity-clause-apart
returns-in_default-with_capacity-clause-apart g c =
    let u = c.count.new.caller in
    inl (counted_apart c.args.caller.now.number u.number (view c.args.caller.now.pass) (view u.pass) (view u.pass) (ap view c.count.ensures.pass) c.count.ensures.number refl)

pub returns-in-Err-clause-apart : goal.returns-in-Err-clause-apart
returns-in-Err-clause-apart g c =
    let u = c.count.new.caller in
    inl (counted_apart c.args.caller.now.number u.number (view c.args.caller.now.pass) (view u.pass) (view c.read_pinned.new.caller.pass) (ap view c.count.ensures.pass) c.count.ensures.number c.in-Err.ensures.apart)

pub returns-in-Ok-judge_all-clause-apart : goal.returns-in-Ok-judge_all-clause-apart
returns-in-Ok-judge_all-clause-apart g c =
    let old = c.args.caller.now in
    let u = c.count.new.caller in
    let mid = c.read_pinned.new.caller in
    let e = c.in-Ok-read_pinned.ensures in
    let w = view c.judge_all.new.caller.pass in
    let f = c.in-Ok-judge_all.ensures in
    let went = multi_quiet u.number (view mid.pass).seen w.seen (subst (λ z. WentOn z [] (view mid.pass).seen w.seen) e.same.1 f.went) in
    met_asked (start_of c.args.hall.now) _ old.number u.number mid.number u.session mid.session c.args.name.now c.args.m.number (view old.pass) (view u.pass) (view mid.pass) w (next_command old) old.session.levels c.read_pinned.new.into.items (ap view c.count.ensures.pass) c.count.ensures.number e.same.1 e.same.0 c.count.ensures.levels
    e.reads went e.apart (subst (λ (t : List Slot). ApartOrMet (start_of c.args.hall.now) (by_at mid.number mid.session.levels.commands) mid.session.levels c.args.name.now (IsStoredIn t) (view mid.pass).seen w.seen) c.deref.ensures.value f.apart)

pub returns-clause-apart : goal.returns-clause-apart
returns-clause-apart g c =
    let old = c.args.caller.now in
    let u = c.count.new.caller in
    let mid = c.read_pinned.new.caller in
    let e = c.in-Ok-read_pinned.ensures in
    let w = view c.judge_all.new.caller.pass in
    let f = c.in-Err-judge_all.ensures in
    let went = multi_quiet u.number (view mid.pass).seen w.seen (subst (λ z. WentOn z [] (view mid.pass).seen w.seen) e.same.1 f.went) in
    met_asked (start_of c.args.hall.now) _ old.number u.number mid.number u.session mid.session c.args.name.now c.args.m.number (view old.pass) (view u.pass) (view mid.pass) w (next_command old) old.session.levels c.read_pinned.new.into.items (ap view c.count.ensures.pass) c.count.ensures.number e.same.1 e.same.0 c.count.ensures.levels
    e.reads went e.apart (subst (λ (t : List Slot). ApartOrMet (start_of c.args.hall.now) (by_at mid.number mid.session.levels.commands) mid.session.levels c.args.name.now (IsStoredIn t) (view mid.pass).seen w.seen) c.deref.ensures.value f.apart)
