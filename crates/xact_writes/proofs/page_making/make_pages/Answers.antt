use Rattle.std.proofs.Common.{[], ◌<◌, Err, ap, refl, subst, ◌∙◌}
use Rattle.hall.specs.Calls.{view, start_of}
use Rattle.tx_events.specs.declared.event.By.{By}
use Rattle.tx_events.specs.declared.refusal.Lock.TheVariants as locks
use Rattle.tx_events.specs.declared.refusal.Refusal.TheVariants as refusals
use Rattle.tx_core.specs.declared.entry.Kind.TheVariants as kinds
use Rattle.tx_core.specs.Locks.{subtrans_lock, subtrans_page, xact_lock, xact_page}
use Rattle.engine_parts.specs.Adding.{IsPlain, MayMeet}
use Rattle.engine_parts.specs.Answers.{MetFault}
use Rattle.engine_parts.specs.Sessions.{by_at}
use Rattle.engine_parts.specs.Steps.{WentOn}
use Rattle.engine_parts.proofs.Adding.{adds_after, plain_meets}
use Rattle.engine_parts.proofs.Sectioning.{same_command}
use Rattle.engine_parts.proofs.Stepping.{went_nowhere, went_then}
use Rattle.bank_sections.proofs.Faulting.{cut_adds, done_adds, fault_adds}
use Rattle.bank_sections.proofs.Visiting.{is_subtrans_lock, is_xact_lock}
use Rattle.bank_sections.proofs.Unlinking.{call_went, parent_lock}
use Rattle.xact_writes.proofs.Giving.{proc_adds}
use Rattle.xact_writes.proofs.Paging.{both_made, is_id, state_lock}
use Rattle.xact_writes.proofs.page_making.make_pages.Goals as goal

pub make_page-requires-clause-here : goal.make_page-requires-clause-here
make_page-requires-clause-here g c = state_lock (start_of c.args.hall.now) c.args.id c.low-low.result.number c.xact_page.result c.bank_of-xact_bank.result c.args.banks c.low-low.ensures c.xact_page.ensures.page c.bank_of-xact_bank.ensures.value c.requires.step.each.0

pub make_parents-requires-clause-here : goal.make_parents-requires-clause-here
make_parents-requires-clause-here g c = parent_lock (start_of c.args.hall.now) c.args.id c.low-low.result.number c.subtrans_page.result c.bank_of-subtrans_bank.result c.args.banks c.low-low.ensures c.subtrans_page.ensures.page c.bank_of-subtrans_bank.ensures.value c.requires.step.each.0

pub make_page-requires-clause-wanted : goal.make_page-requires-clause-wanted
make_page-requires-clause-wanted g c = let v = view c.args.caller.now.pass in is_id (start_of c.args.hall.now) v.seen v.seen c.args.id (went_nowhere c.args.caller.now.number v.seen).on.grows c.requires.next

pub returns-in-Err-DiskFault-clause-step : goal.returns-in-Err-DiskFault-clause-step
returns-in-Err-DiskFault-clause-step g c =
    let old = c.args.caller.now in
    let u = c.make_page.new.caller in
    let e = c.in-Err-DiskFault.ensures in
    record {
      own = e.own;
      laid = c.requires.step.laid;
      each = c.requires.step.each;
      may = call_went (start_of c.args.hall.now) (view old.pass) (view u.pass) old.number u.number old.session u.session [] c.requires.step.may e.went e.same.1 e.same.0 e.ready;
    }

pub returns-in-Err-DiskFault-clause-fault : goal.returns-in-Err-DiskFault-clause-fault
returns-in-Err-DiskFault-clause-fault g c = c.in-Err-DiskFault.ensures.fault (ap (λ z. Err z) c.in-Err-DiskFault.field-0-is)

pub returns-in-Err-Cut-clause-step : goal.returns-in-Err-Cut-clause-step
returns-in-Err-Cut-clause-step g c =
    let old = c.args.caller.now in
    let u = c.make_page.new.caller in
    let e = c.in-Err-Cut.ensures in
    record {
      own = e.own;
      laid = c.requires.step.laid;
      each = c.requires.step.each;
      may = call_went (start_of c.args.hall.now) (view old.pass) (view u.pass) old.number u.number old.session u.session [] c.requires.step.may e.went e.same.1 e.same.0 e.ready;
    }

pub make_parents-requires-clause-wanted : goal.make_parents-requires-clause-wanted
make_parents-requires-clause-wanted g c = is_id (start_of c.args.hall.now) (view c.args.caller.now.pass).seen (view c.make_page.new.caller.pass).seen c.args.id c.in-Ok.ensures.went.on.grows c.requires.next

pub returns-in-Err-DiskFault-make_parents-clause-step : goal.returns-in-Err-DiskFault-make_parents-clause-step
returns-in-Err-DiskFault-make_parents-clause-step g c =
    let old = c.args.caller.now in
    let u = c.make_page.new.caller in
    let w = c.make_parents.new.caller in
    let d = c.in-Ok.ensures in
    let e = c.in-Err-DiskFault-make_parents.ensures in
    let start = start_of c.args.hall.now in
    record {
      own = e.own;
      laid = c.requires.step.laid;
      each = c.requires.step.each;
      may = call_went start (view u.pass) (view w.pass) u.number w.number u.session w.session []
          (call_went start (view old.pass) (view u.pass) old.number u.number old.session u.session [] c.requires.step.may d.went d.same.1 d.same.0 d.ready) e.went e.same.1 e.same.0 e.ready;
    }

pub returns-in-Err-DiskFault-make_parents-clause-went : goal.returns-in-Err-DiskFault-make_parents-clause-went
returns-in-Err-DiskFault-make_parents-clause-went g c =
    let v = view c.args.caller.now.pass in
    let u = view c.make_page.new.caller.pass in
    let w = view c.make_parents.new.caller.pass in
    went_then c.args.caller.now.number [] [] v.seen u.seen w.seen c.in-Ok.ensures.went (subst (λ z. WentOn z [] u.seen w.seen) c.in-Ok.ensures.same.1 c.in-Err-DiskFault-make_parents.ensures.went)

pub returns-in-Err-DiskFault-make_parents-clause-fault : goal.returns-in-Err-DiskFault-make_parents-clause-fault
returns-in-Err-DiskFault-make_parents-clause-fault g c =
    let same = c.in-Ok.ensures.same in
    let w = view c.make_parents.new.caller.pass in
    subst (λ (b : By). MetFault w.seen (subtrans_lock c.bank_of-subtrans_bank.result) b) (λ j. by_at (same.1 j) (ap (λ z. z.levels.commands) same.0 j))
    (c.in-Err-DiskFault-make_parents.ensures.fault (ap (λ z. Err z) c.in-Err-DiskFault-make_parents.field-0-is))

pub returns-in-Err-Cut-make_parents-clause-step : goal.returns-in-Err-Cut-make_parents-clause-step
returns-in-Err-Cut-make_parents-clause-step g c =
    let old = c.args.caller.now in
    let u = c.make_page.new.caller in
    let w = c.make_parents.new.caller in
    let d = c.in-Ok.ensures in
    let e = c.in-Err-Cut-make_parents.ensures in
    let start = start_of c.args.hall.now in
    record {
      own = e.own;
      laid = c.requires.step.laid;
      each = c.requires.step.each;
      may = call_went start (view u.pass) (view w.pass) u.number w.number u.session w.session []
          (call_went start (view old.pass) (view u.pass) old.number u.number old.session u.session [] c.requires.step.may d.went d.same.1 d.same.0 d.ready) e.went e.same.1 e.same.0 e.ready;
    }

pub returns-in-Err-Cut-make_parents-clause-went : goal.returns-in-Err-Cut-make_parents-clause-went
returns-in-Err-Cut-make_parents-clause-went g c =
    let v = view c.args.caller.now.pass in
    let u = view c.make_page.new.caller.pass in
    let w = view c.make_parents.new.caller.pass in
    went_then c.args.caller.now.number [] [] v.seen u.seen w.seen c.in-Ok.ensures.went (subst (λ z. WentOn z [] u.seen w.seen) c.in-Ok.ensures.same.1 c.in-Err-Cut-make_parents.ensures.went)

pub tell_made-requires-clause-may : goal.tell_made-requires-clause-may
tell_made-requires-clause-may g c =
    let old = c.args.caller.now in
    let u = c.make_page.new.caller in
    let w = c.make_parents.new.caller in
    let d = c.in-Ok.ensures in
    let e = c.in-Ok-make_parents.ensures in
    let start = start_of c.args.hall.now in
    call_went start (view u.pass) (view w.pass) u.number w.number u.session w.session []
    (call_went start (view old.pass) (view u.pass) old.number u.number old.session u.session [] c.requires.step.may d.went d.same.1 d.same.0 d.ready) e.went e.same.1 e.same.0 e.ready

pub tell_made-requires-clause-made : goal.tell_made-requires-clause-made
tell_made-requires-clause-made g c =
    let start = start_of c.args.hall.now in
    both_made start (view c.make_page.new.caller.pass).seen (view c.make_parents.new.caller.pass).seen c.args.id c.bank_of-xact_bank.result c.bank_of-subtrans_bank.result
    (state_lock start c.args.id c.low-low.result.number c.xact_page.result c.bank_of-xact_bank.result c.args.banks c.low-low.ensures c.xact_page.ensures.page c.bank_of-xact_bank.ensures.value c.requires.step.each.0)
    (parent_lock start c.args.id c.low-low.result.number c.subtrans_page.result c.bank_of-subtrans_bank.result c.args.banks c.low-low.ensures c.subtrans_page.ensures.page c.bank_of-subtrans_bank.ensures.value c.requires.step.each.0)
    c.in-Ok-make_parents.ensures.went.on.grows c.in-Ok.ensures.made c.in-Ok-make_parents.ensures.made

pub tell_made-requires-clause-next : goal.tell_made-requires-clause-next
tell_made-requires-clause-next g c =
    let v = view c.args.caller.now.pass in
    let u = view c.make_page.new.caller.pass in
    let w = view c.make_parents.new.caller.pass in
    (is_id (start_of c.args.hall.now) v.seen w.seen c.args.id (went_then c.args.caller.now.number [] [] v.seen u.seen w.seen c.in-Ok.ensures.went (subst (λ z. WentOn z [] u.seen w.seen) c.in-Ok.ensures.same.1 c.in-Ok-make_parents.ensures.went)).on.grows c.requires.next).1

pub returns-clause-step : goal.returns-clause-step
returns-clause-step g c = let e = c.tell_made.ensures in record { own = e.own; laid = c.requires.step.laid; each = c.requires.step.each; may = e.may }

pub returns-clause-went : goal.returns-clause-went
returns-clause-went g c =
    let n = c.args.caller.now.number in
    let v = view c.args.caller.now.pass in
    let u = view c.make_page.new.caller.pass in
    let w = view c.make_parents.new.caller.pass in
    let x = view c.tell_made.new.caller.pass in
    let first = went_then n [] [] v.seen u.seen w.seen c.in-Ok.ensures.went (subst (λ z. WentOn z [] u.seen w.seen) c.in-Ok.ensures.same.1 c.in-Ok-make_parents.ensures.went) in
    went_then n [] [] v.seen w.seen x.seen first (subst (λ z. WentOn z [] w.seen x.seen) (c.in-Ok-make_parents.ensures.same.1 ∙ c.in-Ok.ensures.same.1) c.tell_made.ensures.went)

pub returns-in-Err-DiskFault-clause-adds : goal.returns-in-Err-DiskFault-clause-adds
returns-in-Err-DiskFault-clause-adds g c =
    let old = c.args.caller.now in
    let start = start_of c.args.hall.now in
    let by = by_at old.number old.session.levels.commands in
    let first = c.bank_of-xact_bank.result in
    let inside : first < start.banks = subst (λ z. first < z) c.requires.step.each.0 c.bank_of-xact_bank.ensures.within in
    let u = c.make_page.new.caller in
    fault_adds start (view old.pass) (view u.pass) (xact_lock first) by old.session c.requires.step.may.ready.at (is_xact_lock start first inside) _ c.in-Err-DiskFault.field-0 (locks.Xact first) refl c.in-Err-DiskFault.field-0-is c.in-Err-DiskFault.ensures.section

pub returns-in-Err-Cut-clause-adds : goal.returns-in-Err-Cut-clause-adds
returns-in-Err-Cut-clause-adds g c =
    let old = c.args.caller.now in
    let start = start_of c.args.hall.now in
    let by = by_at old.number old.session.levels.commands in
    let first = c.bank_of-xact_bank.result in
    let inside : first < start.banks = subst (λ z. first < z) c.requires.step.each.0 c.bank_of-xact_bank.ensures.within in
    let u = c.make_page.new.caller in
    cut_adds start (view old.pass) (view u.pass) (xact_lock first) by old.session c.requires.step.may.ready.at (is_xact_lock start first inside) _ c.in-Err-Cut.field-0 _ c.in-Err-Cut.field-0-is c.in-Err-Cut.ensures.section

pub returns-in-Err-DiskFault-make_parents-clause-adds : goal.returns-in-Err-DiskFault-make_parents-clause-adds
returns-in-Err-DiskFault-make_parents-clause-adds g c =
    let old = c.args.caller.now in
    let start = start_of c.args.hall.now in
    let by = by_at old.number old.session.levels.commands in
    let first = c.bank_of-xact_bank.result in
    let inside : first < start.banks = subst (λ z. first < z) c.requires.step.each.0 c.bank_of-xact_bank.ensures.within in
    let u = c.make_page.new.caller in
    let w = c.make_parents.new.caller in
    let bank = c.bank_of-subtrans_bank.result in
    let within : bank < start.banks = subst (λ z. bank < z) c.requires.step.each.0 c.bank_of-subtrans_bank.ensures.within in
    let d = c.in-Ok.ensures in
    let mine = same_command old.number u.number old.session u.session d.same.1 d.same.0 in
    let before = done_adds start (view old.pass) (view u.pass) (xact_lock first) by old.session c.requires.step.may.ready.at (is_xact_lock start first inside) (kinds.Zero (xact_page c.args.id)) tt d.section in
    let told = refusals.DiskFault (locks.Subtrans bank) in
    let e = c.in-Err-DiskFault-make_parents in
    adds_after by (by_at u.number u.session.levels.commands) (MayMeet told) (view old.pass).seen (view u.pass).seen (view w.pass).seen mine (plain_meets told) before
    (fault_adds start (view u.pass) (view w.pass) (subtrans_lock bank) (by_at u.number u.session.levels.commands) u.session d.ready.at (is_subtrans_lock start bank within) _ e.field-0 (locks.Subtrans bank) refl e.field-0-is e.ensures.section)

pub returns-in-Err-Cut-make_parents-clause-adds : goal.returns-in-Err-Cut-make_parents-clause-adds
returns-in-Err-Cut-make_parents-clause-adds g c =
    let old = c.args.caller.now in
    let start = start_of c.args.hall.now in
    let by = by_at old.number old.session.levels.commands in
    let first = c.bank_of-xact_bank.result in
    let inside : first < start.banks = subst (λ z. first < z) c.requires.step.each.0 c.bank_of-xact_bank.ensures.within in
    let u = c.make_page.new.caller in
    let w = c.make_parents.new.caller in
    let bank = c.bank_of-subtrans_bank.result in
    let within : bank < start.banks = subst (λ z. bank < z) c.requires.step.each.0 c.bank_of-subtrans_bank.ensures.within in
    let d = c.in-Ok.ensures in
    let mine = same_command old.number u.number old.session u.session d.same.1 d.same.0 in
    let before = done_adds start (view old.pass) (view u.pass) (xact_lock first) by old.session c.requires.step.may.ready.at (is_xact_lock start first inside) (kinds.Zero (xact_page c.args.id)) tt d.section in
    let e = c.in-Err-Cut-make_parents in
    adds_after by (by_at u.number u.session.levels.commands) IsPlain (view old.pass).seen (view u.pass).seen (view w.pass).seen mine (λ lock kind m. m) before
    (cut_adds start (view u.pass) (view w.pass) (subtrans_lock bank) (by_at u.number u.session.levels.commands) u.session d.ready.at (is_subtrans_lock start bank within) _ e.field-0 _ e.field-0-is e.ensures.section)

pub returns-clause-adds : goal.returns-clause-adds
returns-clause-adds g c =
    let old = c.args.caller.now in
    let start = start_of c.args.hall.now in
    let by = by_at old.number old.session.levels.commands in
    let first = c.bank_of-xact_bank.result in
    let inside : first < start.banks = subst (λ z. first < z) c.requires.step.each.0 c.bank_of-xact_bank.ensures.within in
    let u = c.make_page.new.caller in
    let w = c.make_parents.new.caller in
    let bank = c.bank_of-subtrans_bank.result in
    let within : bank < start.banks = subst (λ z. bank < z) c.requires.step.each.0 c.bank_of-subtrans_bank.ensures.within in
    let d = c.in-Ok.ensures in
    let mine = same_command old.number u.number old.session u.session d.same.1 d.same.0 in
    let before = done_adds start (view old.pass) (view u.pass) (xact_lock first) by old.session c.requires.step.may.ready.at (is_xact_lock start first inside) (kinds.Zero (xact_page c.args.id)) tt d.section in
    let x = c.tell_made.new.caller in
    let e = c.in-Ok-make_parents.ensures in
    let both = adds_after by (by_at u.number u.session.levels.commands) IsPlain (view old.pass).seen (view u.pass).seen (view w.pass).seen mine (λ lock kind m. m) before
    (done_adds start (view u.pass) (view w.pass) (subtrans_lock bank) (by_at u.number u.session.levels.commands) u.session d.ready.at (is_subtrans_lock start bank within) (kinds.Zero (subtrans_page c.args.id)) tt e.section) in
    adds_after by (by_at w.number w.session.levels.commands) IsPlain (view old.pass).seen (view w.pass).seen (view x.pass).seen (same_command old.number w.number old.session w.session (e.same.1 ∙ d.same.1) (e.same.0 ∙ d.same.0)) (λ lock kind m. m) both
    (proc_adds start (view w.pass) (view x.pass) w.number w.session (kinds.Made c.args.id) e.ready.at tt c.tell_made.ensures.section)
