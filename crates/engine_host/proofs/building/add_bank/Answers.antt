use Rattle.std.proofs.Common.{◌++◌, ◌∷◌, ◌≡◌, ◌≤◌, ◌∙◌, [], IsTrue, Some, false, refl, rules, subst, sym, ⊎_elim}
use Rattle.std.specs.List.{slice_get}
use Rattle.engine_parts.specs.declared.part.Part.TheVariants as parts
use Rattle.slru_bank.specs.Calls.{faults_of, volume_of}
use Rattle.engine_host.specs.Opening.{AllOnDisk, AllShow, AreNew, ShowMembers, ShowOffsets}
use Rattle.engine_host.specs.declared.cluster.BankVolumes.{BankVolumes}
use Rattle.engine_host.specs.Stores.{disk_in, disks_in, of_members, of_offsets, of_subtrans, of_xact, volumes_in}
use Rattle.engine_host.proofs.Counting.{bank_counts}
use Rattle.engine_host.proofs.Refusing.{by_store, disks_more, each_store, four_more, kept_one, pushed_four}
use Rattle.engine_host.proofs.Starting.{bank_new}
use Rattle.engine_host.proofs.building.add_bank.Goals as goal

-- With a ghost value the clauses of `requires` have no names: they stand in their order behind what is asked of
-- lifetimes.

pub open_states-requires : goal.open_states-requires
open_states-requires g c =
    let base = c.requires.1.1.0.base in
    let inside = c.requires.1.1.1.0 in
    let xact = c.requires.1.1.1.1.0 of_xact in
    let subtrans = c.requires.1.1.1.1.0 of_subtrans in
    let shown = c.requires.1.1.1.1.1.1.1.1.1 in
    let states = λ (told : IsTrue g.P.PageDisk.tells). (shown told).states in
    let parents = λ (told : IsTrue g.P.PageDisk.tells). (shown told).parents in
    let durable : IsTrue g.P.PageDisk.tells → c.args.removes ≡ false → AllOnDisk g.P.PageDisk c.args.volumes.now.xact.items × AllOnDisk g.P.PageDisk c.args.volumes.now.subtrans.items
    = λ told none. ((shown told).durable none of_xact, (shown told).durable none of_subtrans) in
    search (rules, base, inside, xact, subtrans, states, parents, durable)

pub open_multis-requires : goal.open_multis-requires
open_multis-requires g c =
    let inside = c.requires.1.1.1.0 in
    let offsets = c.requires.1.1.1.1.0 of_offsets in
    let members = c.requires.1.1.1.1.0 of_members in
    let shown = c.requires.1.1.1.1.1.1.1.1.1 in
    let both : IsTrue g.P.PageDisk.tells → AllShow g.P.PageDisk (ShowOffsets c.args.cluster.now g.begins) c.args.removes c.args.bank c.args.volumes.now.offsets.items × AllShow g.P.PageDisk (ShowMembers c.args.cluster.now g.begins) c.args.removes c.args.bank c.args.volumes.now.members.items
    = λ told. ((shown told).offsets, (shown told).members) in
    let durable : IsTrue g.P.PageDisk.tells → c.args.removes ≡ false → AllOnDisk g.P.PageDisk c.args.volumes.now.offsets.items × AllOnDisk g.P.PageDisk c.args.volumes.now.members.items
    = λ told kept. ((shown told).durable kept of_offsets, (shown told).durable kept of_members) in
    search (rules, inside, offsets, members, both, durable)

pub returns-in-Ok-open_multis-clause-stand : goal.returns-in-Ok-open_multis-clause-stand
returns-in-Ok-open_multis-clause-stand g c =
    let cluster = c.args.cluster.now in
    let xs = c.args.locks.now.items in
    let a = parts.Xact c.in-Ok.banks.0 in
    let b = parts.Subtrans c.in-Ok.banks.1 in
    let v = parts.Offsets c.in-Ok-open_multis.offsets in
    let w = parts.Members c.in-Ok-open_multis.members in
    let pushed = pushed_four xs c.push_reserved.new.self.items c.push_reserved-in-Ok-open_multis.new.self.items c.push_reserved-in-Ok-open_multis-2.new.self.items c.push_reserved-in-Ok-open_multis-3.new.self.items a b v w
    c.push_reserved.ensures.items c.push_reserved-in-Ok-open_multis.ensures.items c.push_reserved-in-Ok-open_multis-2.ensures.items c.push_reserved-in-Ok-open_multis-3.ensures.items in
    let states = c.in-Ok.ensures.new in
    let multis = c.in-Ok-open_multis.ensures.new in
    let bank = c.args.bank in
    subst (λ l. AreNew cluster g.begins 1 l) (sym pushed)
    (bank_new cluster g.begins bank xs a b v w c.requires.1.1.1.1.1.1.1.1.0 c.requires.1.1.1.1.1.0
    (λ gate counts ends reached. (bank, refl, states.0 gate counts reached)) (λ gate counts ends reached. (bank, refl, states.1 gate counts reached)) (λ gate counts ends reached. (bank, refl, multis.0 gate counts reached)) (λ gate counts ends reached. (bank, refl, multis.1 gate counts reached)))

pub returns-in-Ok-open_multis-clause-disks : goal.returns-in-Ok-open_multis-clause-disks
returns-in-Ok-open_multis-clause-disks g c =
    let xs = c.args.locks.now.items in
    let a = parts.Xact c.in-Ok.banks.0 in
    let b = parts.Subtrans c.in-Ok.banks.1 in
    let v = parts.Offsets c.in-Ok-open_multis.offsets in
    let w = parts.Members c.in-Ok-open_multis.members in
    let pushed = pushed_four xs c.push_reserved.new.self.items c.push_reserved-in-Ok-open_multis.new.self.items c.push_reserved-in-Ok-open_multis-2.new.self.items c.push_reserved-in-Ok-open_multis-3.new.self.items a b v w
    c.push_reserved.ensures.items c.push_reserved-in-Ok-open_multis.ensures.items c.push_reserved-in-Ok-open_multis-2.ensures.items c.push_reserved-in-Ok-open_multis-3.ensures.items in
    let d = by_store (volume_of c.in-Ok.banks.0.value) (volume_of c.in-Ok.banks.1.value) (volume_of c.in-Ok-open_multis.offsets.value) (volume_of c.in-Ok-open_multis.members.value) in
    disks_more c.args.bank xs c.push_reserved-in-Ok-open_multis-3.new.self.items a b v w d c.requires.1.1.1.1.1.1.0 (pushed ∙ four_more xs a b v w) (each_store (λ k. disks_in k (a ∷ b ∷ v ∷ w ∷ []) ≡ d k ∷ []) refl refl refl refl)

pub returns-in-Ok-open_multis-clause-counted : goal.returns-in-Ok-open_multis-clause-counted
returns-in-Ok-open_multis-clause-counted g c =
    let xs = c.args.locks.now.items in
    let a = parts.Xact c.in-Ok.banks.0 in
    let b = parts.Subtrans c.in-Ok.banks.1 in
    let v = parts.Offsets c.in-Ok-open_multis.offsets in
    let w = parts.Members c.in-Ok-open_multis.members in
    let pushed = pushed_four xs c.push_reserved.new.self.items c.push_reserved-in-Ok-open_multis.new.self.items c.push_reserved-in-Ok-open_multis-2.new.self.items c.push_reserved-in-Ok-open_multis-3.new.self.items a b v w
    c.push_reserved.ensures.items c.push_reserved-in-Ok-open_multis.ensures.items c.push_reserved-in-Ok-open_multis-2.ensures.items c.push_reserved-in-Ok-open_multis-3.ensures.items in
    let counts = by_store (faults_of c.in-Ok.banks.0.value) (faults_of c.in-Ok.banks.1.value) (faults_of c.in-Ok-open_multis.offsets.value) (faults_of c.in-Ok-open_multis.members.value) in
    let states = c.in-Ok.ensures.opened in
    let multis = c.in-Ok-open_multis.ensures.opened in
    record {
      counts = counts;
      grown = bank_counts xs c.push_reserved-in-Ok-open_multis-3.new.self.items a b v w (pushed ∙ four_more xs a b v w);
      each = each_store (λ k. (x : g.row.P.Denot) → slice_get (volumes_in k c.args.volumes.now).items 0 ≡ Some x → g.P.PageDisk.faults x ≤ counts k) states.0.count states.1.count multis.0.count multis.1.count;
    }

pub returns-in-Ok-open_multis-clause-kept : goal.returns-in-Ok-open_multis-clause-kept
returns-in-Ok-open_multis-clause-kept g c none =
    let xs = c.args.locks.now.items in
    let a = parts.Xact c.in-Ok.banks.0 in
    let b = parts.Subtrans c.in-Ok.banks.1 in
    let v = parts.Offsets c.in-Ok-open_multis.offsets in
    let w = parts.Members c.in-Ok-open_multis.members in
    let pushed = pushed_four xs c.push_reserved.new.self.items c.push_reserved-in-Ok-open_multis.new.self.items c.push_reserved-in-Ok-open_multis-2.new.self.items c.push_reserved-in-Ok-open_multis-3.new.self.items a b v w
    c.push_reserved.ensures.items c.push_reserved-in-Ok-open_multis.ensures.items c.push_reserved-in-Ok-open_multis-2.ensures.items c.push_reserved-in-Ok-open_multis-3.ensures.items in
    let whole = c.push_reserved-in-Ok-open_multis-3.new.self.items in
    let is = pushed ∙ four_more xs a b v w in
    let states = c.in-Ok.ensures.opened in
    let multis = c.in-Ok-open_multis.ensures.opened in
    let now : BankVolumes g.row.P.Denot = record { xact = c.open_states.new.xact; subtrans = c.open_states.new.subtrans; offsets = c.open_multis.new.offsets; members = c.open_multis.new.members } in
    each_store (λ k. disks_in k whole ++ (volumes_in k now).items ≡ disks_in k xs ++ (volumes_in k c.args.volumes.now).items)
    (kept_one (disk_in of_xact) xs whole a b v w (volume_of c.in-Ok.banks.0.value) c.args.volumes.now.xact.items c.open_states.new.xact.items is refl (states.0.same none))
    (kept_one (disk_in of_subtrans) xs whole a b v w (volume_of c.in-Ok.banks.1.value) c.args.volumes.now.subtrans.items c.open_states.new.subtrans.items is refl (states.1.same none))
    (kept_one (disk_in of_offsets) xs whole a b v w (volume_of c.in-Ok-open_multis.offsets.value) c.args.volumes.now.offsets.items c.open_multis.new.offsets.items is refl (multis.0.same none))
    (kept_one (disk_in of_members) xs whole a b v w (volume_of c.in-Ok-open_multis.members.value) c.args.volumes.now.members.items c.open_multis.new.members.items is refl (multis.1.same none))

pub returns-in-Err-open_multis-clause-refused : goal.returns-in-Err-open_multis-clause-refused
returns-in-Err-open_multis-clause-refused g c = ⊎_elim (λ f. (of_offsets, f)) (λ f. (of_members, f)) c.in-Err-open_multis.ensures.refused
