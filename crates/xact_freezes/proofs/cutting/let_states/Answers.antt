use Rattle.std.proofs.Common.{ℕ, ◌<◌, [], Ok, Err, refl, subst, arith}
use Rattle.hall.specs.Calls.{view, start_of}
use Rattle.store_pages.specs.Layouts.{xact_cut_page}
use Rattle.tx_events.specs.declared.record.Counters.{Counters}
use Rattle.tx_events.specs.declared.refusal.Lock.TheVariants as locks
use Rattle.tx_events.specs.declared.refusal.Refusal.TheVariants as refusals
use Rattle.tx_core.specs.declared.entry.Entry.{Entry}
use Rattle.tx_core.specs.declared.entry.Kind.{Kind}
use Rattle.tx_core.specs.declared.entry.Kind.TheVariants as kinds
use Rattle.bank_sections.specs.Cuts.{CutSection, cut_fault_by}
use Rattle.bank_sections.proofs.Cutting.{is_xact_lock}
use Rattle.tx_core.specs.Locks.{xact_lock}
use Rattle.engine_parts.specs.Sessions.{by_at}
use Rattle.engine_parts.proofs.Sectioning.{section_stands}
use Rattle.xact_freezes.specs.Trims.{IsCutBy, MayTrim}
use Rattle.xact_freezes.proofs.Going.{visited_now}
use Rattle.xact_freezes.proofs.Raising.{bank_adds}
use Rattle.xact_freezes.proofs.cutting.let_states.Goals as goal

pub returns-in-Ok-clause-visited : goal.returns-in-Ok-clause-visited
returns-in-Ok-clause-visited g c =
    let start = start_of c.args.hall.now in
    let old = c.args.caller.now in
    let w = c.cut_states.new.caller in
    let e = c.in-Ok.ensures in
    let by = by_at old.number old.session.levels.commands in
    let inside : c.args.bank < start.banks = subst (λ z. c.args.bank < z) c.requires.step.each.0 c.requires.bank in
    let done : ℕ → Kind → Type 0 = MayTrim {T = Unit {0}} (Ok tt) in
    let entry : Entry = record { by = by; kind = kinds.Cut (xact_cut_page c.args.base.now.oldest c.args.oldest) } in
    visited_now c.args.hall.now c.args.banks done [] old w c.requires.step e.own e.ready e.went e.same
    (bank_adds start (view old.pass) (view w.pass) (xact_lock c.args.bank) entry by old.session done (is_xact_lock start c.args.bank inside) c.requires.step.may.ready.at e.section refl tt)

pub returns-in-Ok-clause-cut : goal.returns-in-Ok-clause-cut
returns-in-Ok-clause-cut g c =
    let start = start_of c.args.hall.now in
    let old = c.args.caller.now in
    let w = c.cut_states.new.caller in
    let by = by_at old.number old.session.levels.commands in
    let inside : c.args.bank < start.banks = subst (λ z. c.args.bank < z) c.requires.step.each.0 c.requires.bank in
    let a = c.requires.step.may.ready.at in
    let wide = a.wide in
    let entry : Entry = record { by = by; kind = kinds.Cut (xact_cut_page c.args.base.now.oldest c.args.oldest) } in
    subst (λ (b : Counters). IsCutBy (view w.pass).seen by (xact_lock c.args.bank) (xact_cut_page b.oldest c.args.oldest)) c.requires.base (section_stands start (view old.pass) (view w.pass) (xact_lock c.args.bank) entry c.in-Ok.ensures.section (omega (arith, inside, wide)))

pub returns-in-Err-DiskFault-clause-visited : goal.returns-in-Err-DiskFault-clause-visited
returns-in-Err-DiskFault-clause-visited g c =
    let start = start_of c.args.hall.now in
    let old = c.args.caller.now in
    let w = c.cut_states.new.caller in
    let e = c.in-Err-DiskFault.ensures in
    let by = by_at old.number old.session.levels.commands in
    let inside : c.args.bank < start.banks = subst (λ z. c.args.bank < z) c.requires.step.each.0 c.requires.bank in
    let failed : ℕ → Kind → Type 0 = MayTrim {T = Unit {0}} (Err (refusals.DiskFault (locks.Xact c.args.bank))) in
    let section = subst (λ z. CutSection {T = Unit {0}} start (xact_lock c.args.bank) by (xact_cut_page c.args.base.now.oldest c.args.oldest) (view old.pass) (view w.pass) (Err z)) c.in-Err-DiskFault.field-0-is e.section in
    visited_now c.args.hall.now c.args.banks failed [] old w c.requires.step e.own e.ready e.went e.same
    (bank_adds start (view old.pass) (view w.pass) (xact_lock c.args.bank) (cut_fault_by by (xact_cut_page c.args.base.now.oldest c.args.oldest) section.0) by old.session failed (is_xact_lock start c.args.bank inside) c.requires.step.may.ready.at section.1 refl (locks.Xact c.args.bank, refl, refl, tt))
