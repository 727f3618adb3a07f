use Rattle.std.proofs.Common.{[], ◌∷◌, Ok, arith, refl, subst, ◌∙◌}
use Rattle.hall.specs.Calls.{view, start_of}
use Rattle.tx_events.specs.Ids.{IsFullMulti}
use Rattle.tx_events.specs.declared.multi.MultiEvent.{MultiEvent}
use Rattle.tx_events.specs.declared.record.Rec.TheVariants as records
use Rattle.tx_core.specs.Locks.{multi_lock}
use Rattle.engine_parts.specs.Adding.{IsPlain}
use Rattle.engine_parts.specs.Sessions.{by_at, look_by}
use Rattle.engine_parts.proofs.Sectioning.{shared_adds}
use Rattle.engine_parts.proofs.Unmoved.{look_adds}
use Rattle.multi_sections.specs.Raised.{RaiseSection, RaisesMulti}
use Rattle.multi_sections.specs.Raisings.{raise_event}
use Rattle.multi_sections.specs.Steps.{entry_of}
use Rattle.multi_sections.proofs.PinnedRaises.{few_before, recorded_there}
use Rattle.xact_freezes.specs.Visits.{Visited}
use Rattle.xact_freezes.proofs.Going.{went_none, visited_now, visited_then}
use Rattle.xact_freezes.proofs.Pinning.{held_on, keeps_none}
use Rattle.xact_freezes.proofs.Raising.{not_raised_read, pinned_from}
use Rattle.xact_freezes.proofs.Starting.{offset_told, recorded_offset}
use Rattle.xact_freezes.proofs.freezing.raise_read.Goals as goal

pub raise_multi-requires-clause-read : goal.raise_multi-requires-clause-read
raise_multi-requires-clause-read g c =
    let start = start_of c.args.hall.now in
    let old = c.args.caller.now in
    let a = c.requires.step.may.ready.at in
    let seen = (view old.pass).seen in
    offset_told g.P.PageDisk.tells start seen (view c.read_base-base.new.caller.pass).seen c.args.held.now.multi c.args.low a.base a.kept c.read_base-base.ensures.went.on.grows c.requires.read (pinned_from start seen old.number c.args.held.now.multi a.kept c.requires.pinned.pins) c.requires.told

pub returns-in-Ok-Raised : goal.returns-in-Ok-Raised
returns-in-Ok-Raised g c =
    let tells = g.P.PageDisk.tells in
    let hall = c.args.hall.now in
    let start = start_of hall in
    let old = c.args.caller.now in
    let u = c.read_base-base.new.caller in
    let w = c.raise_multi.new.caller in
    let a = c.requires.step.may.ready.at in
    let b = c.read_base-base.ensures in
    let e = c.in-Ok-Raised.ensures in
    let h = c.args.held.now in
    let low = c.args.low in
    let offset = c.in-Ok-Raised.field-0-0 in
    let seen = (view old.pass).seen in
    let raised = subst (λ z. RaisesMulti start u.number u.session h low (view u.pass).seen (view w.pass).seen (Ok z)) c.in-Ok-Raised.field-0-is e.raises in
    let section = subst (λ z. RaiseSection start u.number u.session h.multi (view u.pass) (view w.pass) (Ok z)) c.in-Ok-Raised.field-0-is e.section in
    let first : Visited hall c.args.banks IsPlain [] old u = visited_now hall c.args.banks IsPlain [] old u c.requires.step b.own b.ready (went_none old.number seen (view u.pass).seen b.went) b.same (look_adds start (view old.pass) (view u.pass) old.number old.session IsPlain a (λ number. tt) tt b.section) in
    let second : Visited hall c.args.banks IsPlain (raise_event u.number u.session h.multi offset ∷ []) u w = visited_now hall c.args.banks IsPlain (raise_event u.number u.session h.multi offset ∷ []) u w first.step e.own e.ready raised.0.went e.same
    (shared_adds start (view u.pass) (view w.pass) multi_lock (entry_of (raise_event u.number u.session h.multi offset)) (by_at u.number u.session.levels.commands) u.session IsPlain (omega arith) b.ready.at section refl tt) in
    let from = pinned_from start seen old.number h.multi a.kept c.requires.pinned.pins in
    let read = offset_told tells start seen (view u.pass).seen h.multi low a.base a.kept b.went.on.grows c.requires.read from c.requires.told in record {
      raises = (
        offset,
        subst (λ (z : MultiEvent). Visited hall c.args.banks IsPlain (z ∷ []) old w) (λ j. raise_event (b.same.1 j) (b.same.0 j) h.multi offset)
            (visited_then hall c.args.banks IsPlain IsPlain IsPlain [] (raise_event u.number u.session h.multi offset ∷ []) old u w (λ lock kind m. m) (λ lock kind m. m) first second),
        λ told few below.
            let few_u = few_before (view u.pass).seen (view w.pass).seen raised.0.went.grows few in
            let few_old = few_before seen (view u.pass).seen b.went.on.grows few_u in
            let r = recorded_offset tells start seen h.multi low a.base a.kept c.requires.read from told few_old below in
            recorded_there start (view u.pass).seen h low offset read raised.1 (c.requires.read.told told few_old).0 (records.Multi h.multi r.offset r.members) r.stands few_u below,
      );
    }

pub returns-in-Err : goal.returns-in-Err
returns-in-Err g c =
    let tells = g.P.PageDisk.tells in
    let hall = c.args.hall.now in
    let start = start_of hall in
    let old = c.args.caller.now in
    let u = c.read_base-base.new.caller in
    let w = c.raise_multi.new.caller in
    let a = c.requires.step.may.ready.at in
    let b = c.read_base-base.ensures in
    let e = c.in-Err.ensures in
    let h = c.args.held.now in
    let seen = (view old.pass).seen in
    let first : Visited hall c.args.banks IsPlain [] old u = visited_now hall c.args.banks IsPlain [] old u c.requires.step b.own b.ready (went_none old.number seen (view u.pass).seen b.went) b.same (look_adds start (view old.pass) (view u.pass) old.number old.session IsPlain a (λ number. tt) tt b.section) in
    let second : Visited hall c.args.banks IsPlain [] u w = visited_now hall c.args.banks IsPlain [] u w first.step e.own e.ready e.raises.0 e.same
    (shared_adds start (view u.pass) (view w.pass) multi_lock (look_by u.number u.session) (by_at u.number u.session.levels.commands) u.session IsPlain (omega arith) b.ready.at e.section refl tt) in
    let both = visited_then hall c.args.banks IsPlain IsPlain IsPlain [] [] old u w (λ lock kind m. m) (λ lock kind m. m) first second in
    let held = held_on start old.number h [] seen (view w.pass).seen both.went keeps_none c.requires.pinned in
    let first_full = subst IsFullMulti (c.number-first.ensures.value ∙ (λ j. (b.base j).multi)) c.number-first.ensures.form in
    let full = subst IsFullMulti c.number-multi.ensures.value c.number-multi.ensures.form in record {
      raises = (both, not_raised_read tells start old.number seen (view w.pass).seen h c.args.low c.in-Err.refusal a.base a.kept e.ready.at.kept both.went.grows c.requires.read held first_full full e.raises.1);
    }
