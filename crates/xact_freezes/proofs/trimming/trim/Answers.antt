use Rattle.std.proofs.Common.{◌≡◌, ◌<◌, ◌≤◌, IfErr, Result, Err, sym, subst, ◌∙◌}
use Rattle.hall.specs.Calls.{view, start_of}
use Rattle.notes.specs.Lists.{Grows}
use Rattle.tx_events.specs.Horizon.{oldest_id}
use Rattle.tx_events.specs.Multis.{oldest_multi, oldest_offset}
use Rattle.tx_events.specs.declared.event.By.{By}
use Rattle.tx_events.specs.declared.record.Counters.{Counters}
use Rattle.tx_events.specs.declared.refusal.Refusal.{Refusal}
use Rattle.tx_events.specs.declared.record.Rec.{Rec}
use Rattle.tx_events.specs.declared.record.Rec.TheVariants as records
use Rattle.tx_core.specs.Entries.{history}
use Rattle.tx_core.specs.MultiEntries.{multi_history}
use Rattle.tx_core.specs.RecordsFollow.{IsMultiAnnounced}
use Rattle.tx_core.proofs.Posting.{oldest_rises}
use Rattle.log_takes.proofs.Announced.{multis_rise}
use Rattle.engine_parts.specs.Adding.{IsTruncation}
use Rattle.engine_parts.specs.Calls.{next_command}
use Rattle.engine_parts.specs.Sessions.{by_at}
use Rattle.engine_parts.proofs.Calling.{step_counted}
use Rattle.engine_parts.proofs.Leaving.{grows_then}
use Rattle.log_sections.proofs.Rooms.{counted_by, met_never, met_then}
use Rattle.xact_freezes.specs.Trims.{AreCut, HasFlushed, HasTrimmed, IsCutMet, IsTrimMet}
use Rattle.xact_freezes.proofs.Going.{command_kept}
use Rattle.xact_freezes.proofs.Letting.{xmin_later}
use Rattle.xact_freezes.proofs.Looks.{trim_looks}
use Rattle.xact_freezes.proofs.Rising.{xmin_since}
use Rattle.xact_freezes.proofs.Starting.{announced_now}
use Rattle.xact_freezes.proofs.TrimSteps.{cut_met, has_flushed_later, horizon_from, is_truncated, look_then, ok_maps, trim_ran, trim_record, trim_then, xmin_now}
use Rattle.xact_freezes.proofs.trimming.trim.Goals as goal

pub read_base-base-requires-clause-ready : goal.read_base-base-requires-clause-ready
read_base-base-requires-clause-ready g c = (step_counted c.args.hall.now c.args.caller.now c.count.new.caller c.count.ensures c.requires.may).may.ready

pub log_trim-requires-clause-step : goal.log_trim-requires-clause-step
log_trim-requires-clause-step g c =
    let hall = c.args.hall.now in
    let banks = c.args.banks in
    let old = c.args.caller.now in
    let u = c.count.new.caller in
    let b = c.read_horizons-found.new.caller in
    let d = c.read_multis-multis.new.caller in
    let x = c.read_base-base.ensures in
    let y = c.read_horizons-found.ensures in
    let z = c.read_multis-multis.ensures in
    let looks = trim_looks hall banks u c.read_base-base.new.caller b d (step_counted hall old u c.count.ensures c.requires.may) x.section x.own x.ready x.went x.same y.section y.own y.ready y.went y.same z.section z.own z.ready z.went z.same in
    looks.all.step

pub log_trim-requires-clause-record : goal.log_trim-requires-clause-record
log_trim-requires-clause-record g c =
    let hall = c.args.hall.now in
    let start = start_of hall in
    let banks = c.args.banks in
    let old = c.args.caller.now in
    let u = c.count.new.caller in
    let b = c.read_horizons-found.new.caller in
    let d = c.read_multis-multis.new.caller in
    let x = c.read_base-base.ensures in
    let y = c.read_horizons-found.ensures in
    let z = c.read_multis-multis.ensures in
    let looks = trim_looks hall banks u c.read_base-base.new.caller b d (step_counted hall old u c.count.ensures c.requires.may) x.section x.own x.ready x.went x.same y.section y.own y.ready y.went y.same z.section z.own z.ready z.went z.same in
    let found = c.read_horizons-found.result in
    let multis : Counters = c.read_multis-multis.result in
    trim_record start (view b.pass).seen (view d.pass).seen found.oldest multis.oldest_multi multis.oldest_offset looks.far.went.grows y.horizons.oldest
    (subst (λ (k : Counters). IsMultiAnnounced start (view d.pass).seen k.oldest_multi k.oldest_offset) (sym z.counters) (announced_now start (view d.pass).seen))

pub cut_all-requires-clause-some : goal.cut_all-requires-clause-some
cut_all-requires-clause-some g c =
    let y = c.read_horizons-found.ensures in
    subst (λ n. 1 ≤ n) (sym y.horizons.xmin) (horizon_from (start_of c.args.hall.now).base _ y.ready.at.base y.ready.at.kept.events.legal)

pub cut_all-requires-clause-told : goal.cut_all-requires-clause-told
cut_all-requires-clause-told g c =
    let d = c.read_multis-multis.new.caller in
    let multis : Counters = c.read_multis-multis.result in
    is_truncated (start_of c.args.hall.now) (view c.log_trim.new.caller.pass).seen (by_at d.number d.session.levels.commands) c.read_horizons-found.result.oldest multis.oldest_multi multis.oldest_offset c.in-Ok.ensures.flushed

pub cut_all-requires-clause-xmin : goal.cut_all-requires-clause-xmin
cut_all-requires-clause-xmin g c =
    let hall = c.args.hall.now in
    let start = start_of hall in
    let banks = c.args.banks in
    let old = c.args.caller.now in
    let u = c.count.new.caller in
    let b = c.read_horizons-found.new.caller in
    let d = c.read_multis-multis.new.caller in
    let x = c.read_base-base.ensures in
    let y = c.read_horizons-found.ensures in
    let z = c.read_multis-multis.ensures in
    let looks = trim_looks hall banks u c.read_base-base.new.caller b d (step_counted hall old u c.count.ensures c.requires.may) x.section x.own x.ready x.went x.same y.section y.own y.ready y.went y.same z.section z.own z.ready z.went z.same in
    let f = c.log_trim.new.caller in
    let v = c.in-Ok.ensures.visited in
    let found = c.read_horizons-found.result in
    xmin_later start (view b.pass).seen (view f.pass).seen found.oldest_xmin (grows_then (view b.pass).seen (view d.pass).seen (view f.pass).seen looks.far.went.grows v.went.grows) (xmin_now start (view b.pass).seen found.oldest_xmin y.horizons.xmin)

pub returns-in-Ok-clause-ran : goal.returns-in-Ok-clause-ran
returns-in-Ok-clause-ran g c =
    let hall = c.args.hall.now in
    let start = start_of hall in
    let banks = c.args.banks in
    let old = c.args.caller.now in
    let u = c.count.new.caller in
    let b = c.read_horizons-found.new.caller in
    let d = c.read_multis-multis.new.caller in
    let x = c.read_base-base.ensures in
    let y = c.read_horizons-found.ensures in
    let z = c.read_multis-multis.ensures in
    let looks = trim_looks hall banks u c.read_base-base.new.caller b d (step_counted hall old u c.count.ensures c.requires.may) x.section x.own x.ready x.went x.same y.section y.own y.ready y.went y.same z.section z.own z.ready z.went z.same in
    let seen = looks.all in
    let f = c.log_trim.new.caller in
    let w = c.cut_all.new.caller in
    let result = c.cut_all.result in
    let v = c.in-Ok.ensures.visited in
    trim_ran hall {banks = banks} result old u w c.count.ensures (look_then hall banks result u d w seen (trim_then hall banks {T = Unit {0}} tt result d f w v c.cut_all.ensures.visited))
    (subst (λ k. IfErr result (IsTrimMet start (view w.pass).seen k)) (command_kept u.number f.number u.session f.session (v.number ∙ seen.number) (v.session ∙ seen.session))
    (cut_met start (view w.pass).seen (by_at f.number f.session.levels.commands) result c.cut_all.ensures.met))

pub returns-in-Ok-clause-trimmed : goal.returns-in-Ok-clause-trimmed
returns-in-Ok-clause-trimmed g c =
    let hall = c.args.hall.now in
    let start = start_of hall in
    let banks = c.args.banks in
    let old = c.args.caller.now in
    let u = c.count.new.caller in
    let b = c.read_horizons-found.new.caller in
    let d = c.read_multis-multis.new.caller in
    let x = c.read_base-base.ensures in
    let y = c.read_horizons-found.ensures in
    let z = c.read_multis-multis.ensures in
    let looks = trim_looks hall banks u c.read_base-base.new.caller b d (step_counted hall old u c.count.ensures c.requires.may) x.section x.own x.ready x.went x.same y.section y.own y.ready y.went y.same z.section z.own z.ready z.went z.same in
    let seen = looks.all in
    let found = c.read_horizons-found.result in
    let multis : Counters = c.read_multis-multis.result in
    let f = c.log_trim.new.caller in
    let w = c.cut_all.new.caller in
    let v = c.in-Ok.ensures.visited in
    let t = c.cut_all.ensures.visited in
    let begun = (view old.pass).seen in
    let rec : Rec = records.Truncate found.oldest multis.oldest_multi multis.oldest_offset in
    let by : By = by_at old.number (next_command old) in
    let named : by_at d.number d.session.levels.commands ≡ by = command_kept u.number d.number u.session d.session seen.number seen.session ∙ counted_by old u c.count.ensures in
    let cutter : by_at f.number f.session.levels.commands ≡ by = command_kept d.number f.number d.session f.session v.number v.session ∙ named in
    let flushed : HasFlushed start (view w.pass).seen by rec = has_flushed_later start (view f.pass).seen (view w.pass).seen by rec t.went.grows (subst (λ k. HasFlushed start (view f.pass).seen k rec) named c.in-Ok.ensures.flushed) in
    let near : Grows begun (view b.pass).seen = subst (λ k. Grows (view k).seen (view b.pass).seen) c.count.ensures.pass looks.near.went.grows in
    let all : Grows begun (view d.pass).seen = grows_then begun (view b.pass).seen (view d.pass).seen near looks.far.went.grows in
    let after = grows_then (view b.pass).seen (view d.pass).seen (view w.pass).seen looks.far.went.grows (grows_then (view d.pass).seen (view f.pass).seen (view w.pass).seen v.went.grows t.went.grows) in
    let rise = multis_rise start begun (view d.pass).seen z.ready.at.base z.ready.at.kept all in
    ok_maps c.cut_all.result _ (HasTrimmed start begun (view w.pass).seen by)
    (λ m. record {
      place = flushed.place;
      to = flushed.to;
      oldest = found.oldest;
      multi = multis.oldest_multi;
      offset = multis.oldest_offset;
      stands = flushed.stands;
      past = flushed.past;
      flushed = flushed.flushed;
      id = subst (λ n. oldest_id start.base.oldest (history begun) ≤ n) (sym y.horizons.oldest) (oldest_rises start begun (view b.pass).seen y.ready.at.kept near);
      first = subst (λ (k : Counters). oldest_multi start.base.oldest_multi (multi_history begun) ≤ k.oldest_multi) (sym z.counters) rise.0;
      begin = subst (λ (k : Counters). oldest_offset start.base.oldest_offset (multi_history begun) ≤ k.oldest_offset) (sym z.counters) rise.1;
      xmin = found.oldest_xmin;
      was = xmin_since start begun (view b.pass).seen (view w.pass).seen found.oldest_xmin near after y.horizons.xmin;
      cut = λ bank inside. subst (λ (k : By). AreCut start (view w.pass).seen k found.oldest found.oldest_xmin multis.oldest_multi multis.oldest_offset bank) cutter (m bank (subst (λ k. bank < k) (sym c.requires.may.step.each.0) inside));
    })
    c.cut_all.ensures.cut

pub returns-clause-ran : goal.returns-clause-ran
returns-clause-ran g c =
    let hall = c.args.hall.now in
    let start = start_of hall in
    let banks = c.args.banks in
    let old = c.args.caller.now in
    let u = c.count.new.caller in
    let b = c.read_horizons-found.new.caller in
    let d = c.read_multis-multis.new.caller in
    let x = c.read_base-base.ensures in
    let y = c.read_horizons-found.ensures in
    let z = c.read_multis-multis.ensures in
    let looks = trim_looks hall banks u c.read_base-base.new.caller b d (step_counted hall old u c.count.ensures c.requires.may) x.section x.own x.ready x.went x.same y.section y.own y.ready y.went y.same z.section z.own z.ready z.went z.same in
    let seen = looks.all in
    let f = c.log_trim.new.caller in
    let refused : Result (Unit {0}) Refusal = Err c.in-Err.refusal in
    trim_ran hall {banks = banks} refused old u f c.count.ensures (look_then hall banks refused u d f seen c.in-Err.ensures.visited)
    (subst (λ k. IsTrimMet start (view f.pass).seen k c.in-Err.refusal) (command_kept u.number d.number u.session d.session seen.number seen.session) c.in-Err.ensures.met)

-- the log was full
pub returns-in-Ok-clause-full : goal.returns-in-Ok-clause-full
returns-in-Ok-clause-full g c =
    let f = c.log_trim.new.caller in
    let seen = (view c.cut_all.new.caller.pass).seen in
    met_never (start_of c.args.hall.now) seen (by_at c.args.caller.now.number (next_command c.args.caller.now)) IsTruncation (IsCutMet seen (by_at f.number f.session.levels.commands)) c.cut_all.result c.cut_all.ensures.met (λ none. none)

pub returns-clause-full : goal.returns-clause-full
returns-clause-full g c =
    let hall = c.args.hall.now in
    let start = start_of hall in
    let banks = c.args.banks in
    let old = c.args.caller.now in
    let u = c.count.new.caller in
    let b = c.read_horizons-found.new.caller in
    let d = c.read_multis-multis.new.caller in
    let x = c.read_base-base.ensures in
    let y = c.read_horizons-found.ensures in
    let z = c.read_multis-multis.ensures in
    let looks = trim_looks hall banks u c.read_base-base.new.caller b d (step_counted hall old u c.count.ensures c.requires.may) x.section x.own x.ready x.went x.same y.section y.own y.ready y.went y.same z.section z.own z.ready z.went z.same in
    let seen = looks.all in
    let refused : Result (Unit {0}) Refusal = Err c.in-Err.refusal in
    met_then start (view c.log_trim.new.caller.pass).seen (by_at d.number d.session.levels.commands) (by_at old.number (next_command old)) IsTruncation IsTruncation refused
    (command_kept u.number d.number u.session d.session seen.number seen.session ∙ counted_by old u c.count.ensures) (λ z of. of) c.in-Err.ensures.full
