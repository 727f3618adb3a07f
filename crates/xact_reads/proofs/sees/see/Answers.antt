use Rattle.std.proofs.Common.{ap, subst, not, nat_eq, arith, refl, sym, ◌∙◌}
use Rattle.hall.specs.Calls.{view, start_of}
use Rattle.tx_events.specs.declared.refusal.Refusal.TheVariants as refusals
use Rattle.tx_model.specs.declared.command.Command.TheVariants as commands
use Rattle.tx_model.specs.declared.reply.Reply.TheVariants as replies
use Rattle.notes.specs.Lists.{Grows, at, own}
use Rattle.tx_events.specs.Running.{open_ids}
use Rattle.tx_core.specs.Entries.{history, session_of}
use Rattle.engine_parts.specs.Adding.{IsPlain, MayMeet}
use Rattle.engine_parts.specs.Calls.{next_command}
use Rattle.engine_parts.specs.Holds.{Knowledge}
use Rattle.engine_parts.specs.Sessions.{by_at, stance_of}
use Rattle.session_levels.specs.declared.session.Session as plain
use Rattle.xact_reads.specs.Apart.{FoundMeantCut}
use Rattle.xact_reads.specs.Glances.{IsNamed}
use Rattle.xact_reads.proofs.Aparting.{apart_unless, counted_apart, found_later, grows_self}
use Rattle.engine_parts.proofs.Adding.{adds_nothing, adds_wider, met_leaves, plain_leaves}
use Rattle.engine_parts.proofs.Calling.{may_counted, own_counted, ran_refused}
use Rattle.engine_parts.proofs.Stepping.{went_nowhere}
use Rattle.engine_parts.proofs.Unmoved.{ran_read}
use Rattle.xact_reads.proofs.Limits.{registered_limits}
use Rattle.xact_reads.proofs.Replying.{named_at, not_refused, refused_before, special_answer}
use Rattle.xact_reads.proofs.sees.see.Goals as goal

pub returns-in-None-clause-ran : goal.returns-in-None-clause-ran
returns-in-None-clause-ran g c =
    let old = c.args.caller.now in
    let u = c.count.new.caller in
    let r = refused_before old.session.levels u.session.levels old.session.stage c.args.name.now c.args.x c.count.ensures.levels c.in-None.ensures.none in
    ran_refused c.args.hall.now old u (commands.See c.args.name.now c.args.x) refusals.NoSnapshot c.count.ensures c.requires refl refl r.1 r.0

pub returns-then-x-lt3-clause-ran : goal.returns-then-x-lt3-clause-ran
returns-then-x-lt3-clause-ran g c =
    let old = c.args.caller.now in
    let u = c.count.new.caller in
    let name = c.args.name.now in
    let k = c.in-Some.registered.now in
    let start = start_of c.args.hall.now in
    let may = may_counted c.args.hall.now old u c.count.ensures c.requires in
    let went = went_nowhere u.number (view u.pass).seen in
    ran_read c.args.hall.now old u u (commands.See name c.args.x) (replies.Seen (not (nat_eq c.args.x.number 0))) c.count.ensures c.requires (own_counted c.args.hall.now old u c.count.ensures c.requires.step.own) may.ready went refl refl refl
    (adds_nothing (by_at u.number u.session.levels.commands) _ (view u.pass).seen)
    (special_answer start (view u.pass) (view u.pass) u.number u.session name c.args.x k may.ready.at went c.in-Some.ensures.found (g.P.PageDisk.tells) (omega arith))
    refl (sym (not_refused u.session name c.args.x k c.in-Some.ensures.found)) refl refl refl refl refl

pub glance_at-found-requires-clause-limits : goal.glance_at-found-requires-clause-limits
glance_at-found-requires-clause-limits g c =
    let u = c.count.new.caller in
    let k = c.in-Some.registered.now in
    let a = (may_counted c.args.hall.now c.args.caller.now u c.count.ensures c.requires).ready.at in
    registered_limits (start_of c.args.hall.now).base _ u.number k a.base a.kept.events.legal (named_at (start_of c.args.hall.now) (view u.pass) u.number u.session c.args.name.now k a c.in-Some.ensures.found).0

pub see_found-requires-clause-ready : goal.see_found-requires-clause-ready
see_found-requires-clause-ready g c = (may_counted c.args.hall.now c.args.caller.now c.count.new.caller c.count.ensures c.requires).ready

pub returns-in-Ok-clause-ran : goal.returns-in-Ok-clause-ran
returns-in-Ok-clause-ran g c =
    let e = c.in-Ok.ensures in
    let u = c.count.new.caller in
    ran_read c.args.hall.now c.args.caller.now u c.see_found.new.caller (commands.See c.args.name.now c.args.x) (replies.Seen c.in-Ok.seen) c.count.ensures c.requires e.own e.ready e.went e.same.0 e.same.1 refl
    (adds_wider (by_at u.number u.session.levels.commands) IsPlain _ (view u.pass).seen (view c.see_found.new.caller.pass).seen (plain_leaves (commands.See c.args.name.now c.args.x) (stance_of u.session) u.session.stage (open_ids u.number (history (view u.pass).seen)) (replies.Seen c.in-Ok.seen)) e.adds) e.allowed
    refl (e.standing ∙ sym (not_refused u.session c.args.name.now c.args.x c.in-Some.registered.now c.in-Some.ensures.found)) refl refl refl refl e.standing

pub returns-in-Err-clause-ran : goal.returns-in-Err-clause-ran
returns-in-Err-clause-ran g c =
    let e = c.in-Err.ensures in
    let u = c.count.new.caller in
    ran_read c.args.hall.now c.args.caller.now u c.see_found.new.caller (commands.See c.args.name.now c.args.x) (replies.Refused c.in-Err.refusal) c.count.ensures c.requires e.own e.ready e.went e.same.0 e.same.1 refl
    (adds_wider (by_at u.number u.session.levels.commands) (MayMeet c.in-Err.refusal) _ (view u.pass).seen (view c.see_found.new.caller.pass).seen (met_leaves (commands.See c.args.name.now c.args.x) (stance_of u.session) u.session.stage (open_ids u.number (history (view u.pass).seen)) c.in-Err.refusal) e.adds) e.allowed
    refl (e.standing ∙ sym (not_refused u.session c.args.name.now c.args.x c.in-Some.registered.now c.in-Some.ensures.found)) refl refl refl refl e.standing

pub returns-in-None-clause-apart : goal.returns-in-None-clause-apart
returns-in-None-clause-apart g c =
    let u = c.count.new.caller in
    counted_apart c.args.caller.now.number u.number (view c.args.caller.now.pass) (view u.pass) (view u.pass) (ap view c.count.ensures.pass) c.count.ensures.number refl

pub returns-then-x-lt3-clause-apart : goal.returns-then-x-lt3-clause-apart
returns-then-x-lt3-clause-apart g c =
    let u = c.count.new.caller in
    counted_apart c.args.caller.now.number u.number (view c.args.caller.now.pass) (view u.pass) (view u.pass) (ap view c.count.ensures.pass) c.count.ensures.number refl

pub returns-in-Ok-clause-apart : goal.returns-in-Ok-clause-apart
returns-in-Ok-clause-apart g c =
    let u = c.count.new.caller in
    counted_apart c.args.caller.now.number u.number (view c.args.caller.now.pass) (view u.pass) (view c.see_found.new.caller.pass) (ap view c.count.ensures.pass) c.count.ensures.number c.in-Ok.ensures.apart

pub returns-in-Err-clause-apart : goal.returns-in-Err-clause-apart
returns-in-Err-clause-apart g c =
    let old = c.args.caller.now in
    let u = c.count.new.caller in
    let w = view c.see_found.new.caller.pass in
    let start = start_of c.args.hall.now in
    let by = by_at old.number (next_command old) in
    let by' = by_at u.number u.session.levels.commands in
    let v = (view old.pass).seen in
    let v' = (view u.pass).seen in
    let name = c.args.name.now in
    apart_unless (FoundMeantCut start by' v' w.seen u.session.levels name c.args.x.number) (FoundMeantCut start by v w.seen old.session.levels name c.args.x.number) old.number u.number v v' w.seen c.in-Err.refusal c.count.ensures.number
    (λ (cut : FoundMeantCut start by' v' w.seen u.session.levels name c.args.x.number). record {
      registered = cut.registered;
      named = subst (λ (z : plain.Session). IsNamed z name cut.registered) c.count.ensures.levels cut.named;
      id = cut.id;
      near = cut.near;
      found = found_later start by by' v v' w.seen cut.id (λ j. by_at (c.count.ensures.number j) (c.count.ensures.levels j).commands) (subst (λ (z : Knowledge). Grows v z.seen) (sym (ap view c.count.ensures.pass)) (grows_self v)) (λ lock. ap (λ (z : Knowledge). own session_of old.number (at z.seen lock)) (ap view c.count.ensures.pass)) cut.found;
    })
    (counted_apart old.number u.number (view old.pass) (view u.pass) (view u.pass) (ap view c.count.ensures.pass) c.count.ensures.number refl) c.in-Err.ensures.apart
