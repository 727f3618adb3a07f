use Rattle.std.proofs.Common.{◌≡◌, IfErr, Result, Err, subst, ◌∙◌}
use Rattle.hall.specs.Calls.{view, start_of}
use Rattle.store_pages.specs.Layouts.{multi_before, subtrans_cut_page, xact_cut_page}
use Rattle.tx_events.specs.declared.event.By.{By}
use Rattle.tx_events.specs.declared.refusal.Refusal.{Refusal}
use Rattle.tx_core.specs.Locks.{member_page_in_full, members_lock, offset_page, offsets_lock, subtrans_lock, xact_lock}
use Rattle.bank_sections.proofs.Cutting.{truncated_later, xmin_later}
use Rattle.engine_parts.specs.Sessions.{by_at}
use Rattle.engine_parts.proofs.Leaving.{grows_then}
use Rattle.xact_freezes.specs.Trims.{AreCut, IsCutBy, IsCutMet}
use Rattle.xact_freezes.proofs.Going.{command_kept}
use Rattle.xact_freezes.proofs.Letting.{cut_by_grows}
use Rattle.xact_freezes.proofs.TrimSteps.{ok_maps, trim_then}
use Rattle.xact_freezes.proofs.cutting.cut_bank.Goals as goal

pub let_parents-requires-clause-told : goal.let_parents-requires-clause-told
let_parents-requires-clause-told g c =
    let v = c.in-Ok.ensures.visited in
    xmin_later (start_of c.args.hall.now) (view c.args.caller.now.pass).seen (view c.let_states.new.caller.pass).seen c.args.found.now.oldest_xmin v.went.grows c.requires.xmin

pub returns-in-Err-let_parents-clause-visited : goal.returns-in-Err-let_parents-clause-visited
returns-in-Err-let_parents-clause-visited g c =
    let refused : Result (Unit {0}) Refusal = Err c.in-Err-let_parents.refusal in
    trim_then c.args.hall.now c.args.banks {T = Unit {0}} tt refused c.args.caller.now c.let_states.new.caller c.let_parents.new.caller c.in-Ok.ensures.visited c.in-Err-let_parents.ensures.visited

pub returns-in-Err-let_parents-clause-met : goal.returns-in-Err-let_parents-clause-met
returns-in-Err-let_parents-clause-met g c =
    let old = c.args.caller.now in
    let a = c.let_states.new.caller in
    let v = c.in-Ok.ensures.visited in
    subst (λ z. IsCutMet (view c.let_parents.new.caller.pass).seen z c.in-Err-let_parents.refusal) (command_kept old.number a.number old.session a.session v.number v.session) c.in-Err-let_parents.ensures.met

pub let_offsets-requires-clause-told : goal.let_offsets-requires-clause-told
let_offsets-requires-clause-told g c =
    let old = c.args.caller.now in
    let a = c.let_states.new.caller in
    let b = c.let_parents.new.caller in
    let v = c.in-Ok.ensures.visited in
    let w = c.in-Ok-let_parents.ensures.visited in
    (c.args.found.now.oldest, c.args.multis.now.oldest_offset, truncated_later (start_of c.args.hall.now) (view old.pass).seen (view b.pass).seen c.args.found.now.oldest c.args.multis.now.oldest_multi c.args.multis.now.oldest_offset (grows_then (view old.pass).seen (view a.pass).seen (view b.pass).seen v.went.grows w.went.grows) c.requires.told)

pub returns-in-Err-let_offsets-clause-visited : goal.returns-in-Err-let_offsets-clause-visited
returns-in-Err-let_offsets-clause-visited g c =
    let hall = c.args.hall.now in
    let old = c.args.caller.now in
    let a = c.let_states.new.caller in
    let b = c.let_parents.new.caller in
    let d = c.let_offsets.new.caller in
    let refused : Result (Unit {0}) Refusal = Err c.in-Err-let_offsets.refusal in
    trim_then hall c.args.banks {T = Unit {0}} tt refused old a d c.in-Ok.ensures.visited
    (trim_then hall c.args.banks {T = Unit {0}} tt refused a b d c.in-Ok-let_parents.ensures.visited c.in-Err-let_offsets.ensures.visited)

pub returns-in-Err-let_offsets-clause-met : goal.returns-in-Err-let_offsets-clause-met
returns-in-Err-let_offsets-clause-met g c =
    let old = c.args.caller.now in
    let b = c.let_parents.new.caller in
    let v = c.in-Ok.ensures.visited in
    let w = c.in-Ok-let_parents.ensures.visited in
    subst (λ z. IsCutMet (view c.let_offsets.new.caller.pass).seen z c.in-Err-let_offsets.refusal) (command_kept old.number b.number old.session b.session (w.number ∙ v.number) (w.session ∙ v.session)) c.in-Err-let_offsets.ensures.met

pub let_members-requires-clause-told : goal.let_members-requires-clause-told
let_members-requires-clause-told g c =
    let old = c.args.caller.now in
    let a = c.let_states.new.caller in
    let b = c.let_parents.new.caller in
    let d = c.let_offsets.new.caller in
    let v = c.in-Ok.ensures.visited in
    let w = c.in-Ok-let_parents.ensures.visited in
    let x = c.in-Ok-let_offsets.ensures.visited in
    let up = grows_then (view old.pass).seen (view a.pass).seen (view d.pass).seen v.went.grows (grows_then (view a.pass).seen (view b.pass).seen (view d.pass).seen w.went.grows x.went.grows) in
    (c.args.found.now.oldest, c.args.multis.now.oldest_multi, truncated_later (start_of c.args.hall.now) (view old.pass).seen (view d.pass).seen c.args.found.now.oldest c.args.multis.now.oldest_multi c.args.multis.now.oldest_offset up c.requires.told)

pub returns-clause-visited : goal.returns-clause-visited
returns-clause-visited g c =
    let hall = c.args.hall.now in
    let old = c.args.caller.now in
    let a = c.let_states.new.caller in
    let b = c.let_parents.new.caller in
    let d = c.let_offsets.new.caller in
    let e = c.let_members.new.caller in
    let result = c.let_members.result in
    trim_then hall c.args.banks {T = Unit {0}} tt result old a e c.in-Ok.ensures.visited
    (trim_then hall c.args.banks {T = Unit {0}} tt result a b e c.in-Ok-let_parents.ensures.visited
    (trim_then hall c.args.banks {T = Unit {0}} tt result b d e c.in-Ok-let_offsets.ensures.visited c.let_members.ensures.visited))

pub returns-clause-cut : goal.returns-clause-cut
returns-clause-cut g c =
    let start = start_of c.args.hall.now in
    let old = c.args.caller.now in
    let a = c.let_states.new.caller in
    let b = c.let_parents.new.caller in
    let d = c.let_offsets.new.caller in
    let e = c.let_members.new.caller in
    let found = c.args.found.now in
    let m = c.args.multis.now in
    let bank = c.args.bank in
    let by = by_at old.number old.session.levels.commands in
    let v = c.in-Ok.ensures.visited in
    let w = c.in-Ok-let_parents.ensures.visited in
    let x = c.in-Ok-let_offsets.ensures.visited in
    let y = c.let_members.ensures.visited in
    let last = y.went.grows in
    let two = grows_then (view b.pass).seen (view d.pass).seen (view e.pass).seen x.went.grows last in
    let three = grows_then (view a.pass).seen (view b.pass).seen (view e.pass).seen w.went.grows two in
    let first : by_at a.number a.session.levels.commands ≡ by = command_kept old.number a.number old.session a.session v.number v.session in
    let second : by_at b.number b.session.levels.commands ≡ by = command_kept a.number b.number a.session b.session w.number w.session ∙ first in
    let third : by_at d.number d.session.levels.commands ≡ by = command_kept b.number d.number b.session d.session x.number x.session ∙ second in
    ok_maps c.let_members.result _ (AreCut start (view e.pass).seen by found.oldest found.oldest_xmin m.oldest_multi m.oldest_offset bank)
    (λ now. record {
      states = cut_by_grows (view a.pass).seen (view e.pass).seen by (xact_lock bank) (xact_cut_page start.base.oldest found.oldest) three c.in-Ok.ensures.cut;
      parents = cut_by_grows (view b.pass).seen (view e.pass).seen by (subtrans_lock bank) (subtrans_cut_page start.base.oldest found.oldest_xmin) two
          (subst (λ (z : By). IsCutBy (view b.pass).seen z (subtrans_lock bank) (subtrans_cut_page start.base.oldest found.oldest_xmin)) first c.in-Ok-let_parents.ensures.cut);
      offsets = cut_by_grows (view d.pass).seen (view e.pass).seen by (offsets_lock bank) (offset_page (multi_before m.oldest_multi)) last
          (subst (λ (z : By). IsCutBy (view d.pass).seen z (offsets_lock bank) (offset_page (multi_before m.oldest_multi))) second c.in-Ok-let_offsets.ensures.cut);
      members = subst (λ (z : By). IsCutBy (view e.pass).seen z (members_lock bank) (member_page_in_full m.oldest_offset)) third now;
    })
    c.let_members.ensures.cut

pub returns-clause-met : goal.returns-clause-met
returns-clause-met g c =
    let old = c.args.caller.now in
    let d = c.let_offsets.new.caller in
    let v = c.in-Ok.ensures.visited in
    let w = c.in-Ok-let_parents.ensures.visited in
    let x = c.in-Ok-let_offsets.ensures.visited in
    subst (λ z. IfErr c.let_members.result (IsCutMet (view c.let_members.new.caller.pass).seen z)) (command_kept old.number d.number old.session d.session (x.number ∙ (w.number ∙ v.number)) (x.session ∙ (w.session ∙ v.session))) c.let_members.ensures.met
