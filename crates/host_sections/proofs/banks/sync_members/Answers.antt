use Rattle.std.proofs.Common.{Err, arith, ap, ◌∙◌, inl, subst, sym, refl, ◌∷◌, []}
use Rattle.hall.specs.Calls.{start_of, view}
use Rattle.hall.specs.declared.view.Stage.TheVariants.{Inside}
use Rattle.notes.specs.Lists.{at}
use Rattle.slru_bank.specs.Calls.{CrashKeeps, faults_of}
use Rattle.slru_bank.specs.declared.refusal.BankRefusal.{BankRefusal}
use Rattle.tx_events.proofs.Membership.{has_contains}
use Rattle.tx_core.specs.FaultsRise.{faults_told}
use Rattle.tx_core.specs.Locks.{members_lock}
use Rattle.tx_core.proofs.FaultCounts.{risen_past}
use Rattle.tx_core.proofs.Quiet.{hosts_keep}
use Rattle.engine_parts.specs.declared.part.Part.TheVariants as parts
use Rattle.engine_parts.specs.Faults.{fault_by}
use Rattle.engine_parts.specs.Parts.{IsMembersOf}
use Rattle.host_sections.specs.HostEntries.{AddsSync, sync_by}
use Rattle.host_sections.proofs.Asking.{asks_with}
use Rattle.host_sections.proofs.BankSteps.{members_failed, members_synced}
use Rattle.host_sections.proofs.Noted.{noted_adds, noted_alone, noted_may, noted_own, noted_stands}
use Rattle.host_sections.proofs.Refusals.{same_bank_err}
use Rattle.host_sections.proofs.banks.sync_members.Goals as goal

pub leave-requires-clause-inside : goal.leave-requires-clause-inside
leave-requires-clause-inside g c = let i = c.take_members-held.ensures.inside in i.inside ∙ ap Inside (sym i.cell)

pub leave-requires-clause-cell : goal.leave-requires-clause-cell
leave-requires-clause-cell g c = let cell = c.take_members-held.ensures.inside.cell in let laid = c.requires.alone.laid in let low = c.requires.bank in omega (arith, cell, laid, low)

pub leave-requires-clause-session : goal.leave-requires-clause-session
leave-requires-clause-session g c = noted_own c.args.hall.now (members_lock c.args.bank) c.args.pass.now c.take_members-held.new.pass c.requires.alone c.take_members-held.ensures.inside c.sync_note-sync.result.value (sync_by c.args.by) c.sync_note-sync.ensures c.requires.turn

pub leave-requires-clause-may : goal.leave-requires-clause-may
leave-requires-clause-may g c =
    let low = c.requires.bank in
    noted_may c.args.hall.now (members_lock c.args.bank) c.args.pass.now c.take_members-held.new.pass c.requires.alone c.take_members-held.ensures.inside c.sync_note-sync.result.value (sync_by c.args.by) c.sync_note-sync.ensures c.requires.turn
    ((hosts_keep (start_of c.args.hall.now) (view c.args.pass.now).seen c.args.by).sync (members_lock c.args.bank) (record { from = omega arith; to = omega (arith, low) }))

pub leave-requires-clause-stands : goal.leave-requires-clause-stands
leave-requires-clause-stands g c =
    let start = start_of c.args.hall.now in
    let bank = c.args.bank in
    let old = (view c.args.pass.now).seen in
    let n = c.flush_all.new.self in
    let f = c.in-Ok.ensures in
    let s = subst (λ b. IsMembersOf start bank b (at old (members_lock bank))) (sym c.deref_mut-store.ensures.value) c.take_members-held.ensures.stands in
    noted_stands c.args.hall.now (members_lock c.args.bank) c.args.pass.now c.take_members-held.new.pass c.requires.alone c.take_members-held.ensures.inside c.sync_note-sync.result.value (sync_by c.args.by) c.sync_note-sync.ensures (parts.Members (record c.take_members-held.result { value = n }))
    (bank, refl, members_synced start bank c.deref_mut-store.result.now n (at old (members_lock bank)) c.args.by f.bank.last f.cutoff f.bank.count f.same f.crash f.durable s)

pub returns-in-Ok-clause-alone : goal.returns-in-Ok-clause-alone
returns-in-Ok-clause-alone g c = noted_alone c.args.hall.now (members_lock c.args.bank) c.args.pass.now c.take_members-held.new.pass c.requires.alone c.take_members-held.ensures.inside c.sync_note-sync.result.value (sync_by c.args.by) c.sync_note-sync.ensures c.leave.new.pass c.leave.ensures.own c.leave.ensures.left

pub returns-in-Ok-clause-holds : goal.returns-in-Ok-clause-holds
returns-in-Ok-clause-holds g c = c.leave.ensures.left.holds ∙ c.take_members-held.ensures.inside.holds

pub returns-in-Ok-clause-adds : goal.returns-in-Ok-clause-adds
returns-in-Ok-clause-adds g c = noted_adds c.args.hall.now (members_lock c.args.bank) c.args.pass.now c.take_members-held.new.pass c.requires.alone c.take_members-held.ensures.inside c.sync_note-sync.result.value (sync_by c.args.by) c.sync_note-sync.ensures c.leave.new.pass c.leave.ensures.own c.leave.ensures.left

pub returns-in-Ok-clause-asks : goal.returns-in-Ok-clause-asks
returns-in-Ok-clause-asks g c =
    let start = start_of c.args.hall.now in
    let bank = c.args.bank in
    let old = (view c.args.pass.now).seen in
    let held = c.take_members-held.result in
    let n = c.flush_all.new.self in
    let f = c.in-Ok.ensures in
    let wide = c.requires.alone.own.wide in
    let s = subst (λ b. IsMembersOf start bank b (at old (members_lock bank))) (sym c.deref_mut-store.ensures.value) c.take_members-held.ensures.stands in
    asks_with g.L.LogDisk g.P.PageDisk start (members_lock bank) old (view c.leave.new.pass).seen (omega (arith, wide, c.requires.alone.laid, c.requires.bank)) (parts.Members held) (parts.Members (record held { value = n }))
    (bank, refl, c.take_members-held.ensures.stands) (subst (λ b. CrashKeeps b n) c.deref_mut-store.ensures.value f.crash) (sync_by c.args.by)
    (bank, refl, members_synced start bank c.deref_mut-store.result.now n (at old (members_lock bank)) c.args.by f.bank.last f.cutoff f.bank.count f.same f.crash f.durable s)
    (noted_adds c.args.hall.now (members_lock c.args.bank) c.args.pass.now c.take_members-held.new.pass c.requires.alone c.take_members-held.ensures.inside c.sync_note-sync.result.value (sync_by c.args.by) c.sync_note-sync.ensures c.leave.new.pass c.leave.ensures.own c.leave.ensures.left)

-- the volume failed
pub leave-requires-in-Err-clause-inside : goal.leave-requires-in-Err-clause-inside
leave-requires-in-Err-clause-inside g c = let i = c.take_members-held.ensures.inside in i.inside ∙ ap Inside (sym i.cell)

pub leave-requires-in-Err-clause-cell : goal.leave-requires-in-Err-clause-cell
leave-requires-in-Err-clause-cell g c = let cell = c.take_members-held.ensures.inside.cell in let laid = c.requires.alone.laid in let low = c.requires.bank in omega (arith, cell, laid, low)

pub leave-requires-in-Err-clause-session : goal.leave-requires-in-Err-clause-session
leave-requires-in-Err-clause-session g c =
    let noted = c.fault_note-fault.ensures ∙ ap (λ b. fault_by c.args.by (faults_of b)) c.deref.ensures in
    noted_own c.args.hall.now (members_lock c.args.bank) c.args.pass.now c.take_members-held.new.pass c.requires.alone c.take_members-held.ensures.inside c.fault_note-fault.result.value (fault_by c.args.by (faults_of c.flush_all.new.self)) noted c.requires.turn

pub leave-requires-in-Err-clause-may : goal.leave-requires-in-Err-clause-may
leave-requires-in-Err-clause-may g c =
    let start = start_of c.args.hall.now in
    let bank = c.args.bank in
    let old = (view c.args.pass.now).seen in
    let n = c.flush_all.new.self in
    let low = c.requires.bank in
    let s = subst (λ b. IsMembersOf start bank b (at old (members_lock bank))) (sym c.deref_mut-store.ensures.value) c.take_members-held.ensures.stands in
    let noted = c.fault_note-fault.ensures ∙ ap (λ b. fault_by c.args.by (faults_of b)) c.deref.ensures in
    let risen = risen_past (faults_told start (members_lock bank) (at old (members_lock bank))) (faults_of c.deref_mut-store.result.now) (faults_of n) s.stands.count (c.in-Err.ensures.bank.fault refl).1 in
    noted_may c.args.hall.now (members_lock c.args.bank) c.args.pass.now c.take_members-held.new.pass c.requires.alone c.take_members-held.ensures.inside c.fault_note-fault.result.value (fault_by c.args.by (faults_of c.flush_all.new.self)) noted c.requires.turn
    ((hosts_keep start old c.args.by).fault (members_lock bank) (c.args.by ∷ []) (faults_of n) (record { from = omega arith; to = omega (arith, low) }) (record { own = has_contains (c.args.by ∷ []) c.args.by (inl refl); once = refl; each = tt }) risen)

pub leave-requires-in-Err-clause-stands : goal.leave-requires-in-Err-clause-stands
leave-requires-in-Err-clause-stands g c =
    let start = start_of c.args.hall.now in
    let bank = c.args.bank in
    let old = (view c.args.pass.now).seen in
    let n = c.flush_all.new.self in
    let f = c.in-Err.ensures in
    let s = subst (λ b. IsMembersOf start bank b (at old (members_lock bank))) (sym c.deref_mut-store.ensures.value) c.take_members-held.ensures.stands in
    let noted = c.fault_note-fault.ensures ∙ ap (λ b. fault_by c.args.by (faults_of b)) c.deref.ensures in
    noted_stands c.args.hall.now (members_lock c.args.bank) c.args.pass.now c.take_members-held.new.pass c.requires.alone c.take_members-held.ensures.inside c.fault_note-fault.result.value (fault_by c.args.by (faults_of c.flush_all.new.self)) noted (parts.Members (record c.take_members-held.result { value = n }))
    (bank, refl, members_failed start bank c.deref_mut-store.result.now n (at old (members_lock bank)) c.args.by f.bank.last f.cutoff f.bank.count f.same f.crash s)

pub returns-in-Err-clause-alone : goal.returns-in-Err-clause-alone
returns-in-Err-clause-alone g c =
    let noted = c.fault_note-fault.ensures ∙ ap (λ b. fault_by c.args.by (faults_of b)) c.deref.ensures in
    noted_alone c.args.hall.now (members_lock c.args.bank) c.args.pass.now c.take_members-held.new.pass c.requires.alone c.take_members-held.ensures.inside c.fault_note-fault.result.value (fault_by c.args.by (faults_of c.flush_all.new.self)) noted c.leave-in-Err.new.pass c.leave-in-Err.ensures.own c.leave-in-Err.ensures.left

pub returns-in-Err-clause-holds : goal.returns-in-Err-clause-holds
returns-in-Err-clause-holds g c = c.leave-in-Err.ensures.left.holds ∙ c.take_members-held.ensures.inside.holds

pub returns-in-Err-clause-adds : goal.returns-in-Err-clause-adds
returns-in-Err-clause-adds g c =
    let start = start_of c.args.hall.now in
    let bank = c.args.bank in
    let old = (view c.args.pass.now).seen in
    let n = c.flush_all.new.self in
    let s = subst (λ b. IsMembersOf start bank b (at old (members_lock bank))) (sym c.deref_mut-store.ensures.value) c.take_members-held.ensures.stands in
    let why = c.in-Err.ensures.bank.fault refl in
    let noted = c.fault_note-fault.ensures ∙ ap (λ b. fault_by c.args.by (faults_of b)) c.deref.ensures in
    subst (λ (r : BankRefusal). AddsSync {T = Unit {0}} start c.args.by (members_lock bank) old (view c.leave-in-Err.new.pass).seen (Err r)) (sym (same_bank_err why.0))
    (record {
      count = faults_of n;
      risen = risen_past (faults_told start (members_lock bank) (at old (members_lock bank))) (faults_of c.deref_mut-store.result.now) (faults_of n) s.stands.count why.1;
      adds = noted_adds c.args.hall.now (members_lock c.args.bank) c.args.pass.now c.take_members-held.new.pass c.requires.alone c.take_members-held.ensures.inside c.fault_note-fault.result.value (fault_by c.args.by (faults_of c.flush_all.new.self)) noted c.leave-in-Err.new.pass c.leave-in-Err.ensures.own c.leave-in-Err.ensures.left;
    })

pub returns-in-Err-clause-asks : goal.returns-in-Err-clause-asks
returns-in-Err-clause-asks g c =
    let start = start_of c.args.hall.now in
    let bank = c.args.bank in
    let old = (view c.args.pass.now).seen in
    let held = c.take_members-held.result in
    let n = c.flush_all.new.self in
    let f = c.in-Err.ensures in
    let wide = c.requires.alone.own.wide in
    let s = subst (λ b. IsMembersOf start bank b (at old (members_lock bank))) (sym c.deref_mut-store.ensures.value) c.take_members-held.ensures.stands in
    let noted = c.fault_note-fault.ensures ∙ ap (λ b. fault_by c.args.by (faults_of b)) c.deref.ensures in
    asks_with g.L.LogDisk g.P.PageDisk start (members_lock bank) old (view c.leave-in-Err.new.pass).seen (omega (arith, wide, c.requires.alone.laid, c.requires.bank)) (parts.Members held) (parts.Members (record held { value = n }))
    (bank, refl, c.take_members-held.ensures.stands) (subst (λ b. CrashKeeps b n) c.deref_mut-store.ensures.value f.crash) (fault_by c.args.by (faults_of n))
    (bank, refl, members_failed start bank c.deref_mut-store.result.now n (at old (members_lock bank)) c.args.by f.bank.last f.cutoff f.bank.count f.same f.crash s)
    (noted_adds c.args.hall.now (members_lock c.args.bank) c.args.pass.now c.take_members-held.new.pass c.requires.alone c.take_members-held.ensures.inside c.fault_note-fault.result.value (fault_by c.args.by (faults_of c.flush_all.new.self)) noted c.leave-in-Err.new.pass c.leave-in-Err.ensures.own c.leave-in-Err.ensures.left)
