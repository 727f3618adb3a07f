use Rattle.std.proofs.Common.{ℕ, ◌≡◌, IfErr, Result, Ok, Err, [], refl, sym, subst, ◌∙◌}
use Rattle.hall.specs.Calls.{view, start_of}
use Rattle.tx_events.specs.declared.record.Rec.{Rec}
use Rattle.tx_events.specs.declared.refusal.Refusal.{Refusal}
use Rattle.tx_core.specs.declared.entry.Kind.{Kind}
use Rattle.engine_parts.specs.Adding.{IsTruncation}
use Rattle.engine_parts.specs.Sessions.{by_at}
use Rattle.log_sections.proofs.Rooms.{met_flush, met_then}
use Rattle.xact_freezes.specs.Trims.{HasFlushed, IsTrimMet, MayTrim}
use Rattle.xact_freezes.specs.Visits.{Visited}
use Rattle.xact_freezes.proofs.Going.{command_kept, visited_now, went_none}
use Rattle.xact_freezes.proofs.TrimSteps.{append_met, append_trims, flush_has, flush_met, flush_trims, flushed_so, stands_below, trim_then}
use Rattle.xact_freezes.proofs.logging.log_trim.Goals as goal

pub flush_log-requires-clause-stands : goal.flush_log-requires-clause-stands
flush_log-requires-clause-stands g c =
    let old = c.args.caller.now in
    stands_below (start_of c.args.hall.now) (view c.append_truncation.new.caller.pass).seen (by_at old.number old.session.levels.commands) c.args.rec.now c.in-Ok.number c.in-Ok.ensures.stands

pub returns-in-Ok-clause-visited : goal.returns-in-Ok-clause-visited
returns-in-Ok-clause-visited g c =
    let hall = c.args.hall.now in
    let start = start_of hall in
    let banks = c.args.banks in
    let old = c.args.caller.now in
    let mid = c.append_truncation.new.caller in
    let w = c.flush_log.new.caller in
    let f = c.in-Ok.ensures in
    let h = c.flush_log.ensures in
    let done : ℕ → Kind → Type 0 = MayTrim {T = Unit {0}} (Ok tt) in
    let rec : Rec = c.args.rec.now in
    let first : Visited hall banks done [] old mid = visited_now hall banks done [] old mid c.requires.step f.own f.may.ready (went_none old.number (view old.pass).seen (view mid.pass).seen f.went) f.same
    (append_trims start (view old.pass) (view mid.pass) (by_at old.number old.session.levels.commands) old.session rec (Ok c.in-Ok.number) (subst IsTruncation (sym c.requires.record.is) tt) c.requires.step.may.ready.at f.section {T = Unit {0}} (Ok tt)) in
    let flush : Visited hall banks (MayTrim c.flush_log.result) [] mid w = visited_now hall banks (MayTrim c.flush_log.result) [] mid w first.step h.own h.may.ready (went_none mid.number (view mid.pass).seen (view w.pass).seen h.went) h.same
    (flush_trims start (view mid.pass) (view w.pass) (by_at mid.number mid.session.levels.commands) mid.session c.in-Ok.number c.flush_log.result f.may.ready.at h.section) in
    trim_then hall banks {T = Unit {0}} tt c.flush_log.result old mid w first flush

pub returns-in-Ok-clause-flushed : goal.returns-in-Ok-clause-flushed
returns-in-Ok-clause-flushed g c =
    let start = start_of c.args.hall.now in
    let old = c.args.caller.now in
    let mid = c.append_truncation.new.caller in
    let w = c.flush_log.new.caller in
    let by = by_at old.number old.session.levels.commands in
    let h = c.flush_log.ensures in
    flush_has c.flush_log.result _ (HasFlushed start (view w.pass).seen by c.args.rec.now) _
    (λ past. flushed_so start (view mid.pass).seen (view w.pass).seen by c.args.rec.now c.in-Ok.number c.in-Ok.ensures.stands h.went.on.grows past)
    h.flushes

pub returns-in-Ok-clause-met : goal.returns-in-Ok-clause-met
returns-in-Ok-clause-met g c =
    let start = start_of c.args.hall.now in
    let old = c.args.caller.now in
    let mid = c.append_truncation.new.caller in
    let w = c.flush_log.new.caller in
    let f = c.in-Ok.ensures in
    let met = flush_met start (view w.pass).seen (by_at mid.number mid.session.levels.commands) c.in-Ok.number _ c.flush_log.result c.flush_log.ensures.flushes in
    subst (λ z. IfErr c.flush_log.result (IsTrimMet start (view w.pass).seen z)) (command_kept old.number mid.number old.session mid.session f.same.1 f.same.0) met

pub returns-in-Err-clause-visited : goal.returns-in-Err-clause-visited
returns-in-Err-clause-visited g c =
    let hall = c.args.hall.now in
    let start = start_of hall in
    let old = c.args.caller.now in
    let mid = c.append_truncation.new.caller in
    let f = c.in-Err.ensures in
    let refused : Result (Unit {0}) Refusal = Err c.in-Err.refusal in
    visited_now hall c.args.banks (MayTrim refused) [] old mid c.requires.step f.own f.may.ready (went_none old.number (view old.pass).seen (view mid.pass).seen f.went) f.same
    (append_trims start (view old.pass) (view mid.pass) (by_at old.number old.session.levels.commands) old.session c.args.rec.now (Err c.in-Err.refusal) (subst IsTruncation (sym c.requires.record.is) tt) c.requires.step.may.ready.at f.section refused)

pub returns-in-Err-clause-met : goal.returns-in-Err-clause-met
returns-in-Err-clause-met g c = append_met (start_of c.args.hall.now) (view c.append_truncation.new.caller.pass).seen (by_at c.args.caller.now.number c.args.caller.now.session.levels.commands) c.in-Err.refusal c.in-Err.ensures.refused

-- the log was full
pub returns-in-Ok-clause-full : goal.returns-in-Ok-clause-full
returns-in-Ok-clause-full g c =
    let old = c.args.caller.now in
    let mid = c.append_truncation.new.caller in
    met_flush (start_of c.args.hall.now) (view c.flush_log.new.caller.pass).seen (by_at old.number old.session.levels.commands) (by_at mid.number mid.session.levels.commands) c.in-Ok.number IsTruncation _ c.flush_log.result c.flush_log.ensures.flushes

pub returns-in-Err-clause-full : goal.returns-in-Err-clause-full
returns-in-Err-clause-full g c =
    let old = c.args.caller.now in
    let by = by_at old.number old.session.levels.commands in
    let refused : Result ℕ Refusal = Err c.in-Err.refusal in
    met_then (start_of c.args.hall.now) (view c.append_truncation.new.caller.pass).seen by by (λ z. z ≡ c.args.rec.now) IsTruncation refused refl (λ z is. subst IsTruncation (sym (is ∙ c.requires.record.is)) tt) c.in-Err.ensures.full
