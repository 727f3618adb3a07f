use Rattle.std.proofs.Common.{◌≡◌, List, ℕ, ap, subst, sym, ◌∙◌}
use Rattle.disk_core.specs.Pages.{Pages, page_bytes}
use Rattle.slru_bank.proofs.BufferLists.{clean_map}
use Rattle.slru_bank.specs.declared.buffer.Buffer.{Buffer}
use Rattle.slru_bank.specs.Bank.{map_of}
use Rattle.slru_bank.specs.Crash.{CrashLeaves, IsMixture, mixtures_then}
use Rattle.slru_bank.specs.declared.bank.Room.{Room}
use Rattle.slru_bank.proofs.bank.SlruBank.flush_all.Goals as goal

pub returns-clause-durable : goal.returns-clause-durable
returns-clause-durable g c told image left q =
    let pages = g.P.PageDisk.pages in
    let p1 : Pages = pages c.write_pages.new.disk in
    let bs : List Buffer = c.write_pages.new.buffers.items in
    let here : image ≡ p1 = c.in_ok-sync.ensures.durable told image left in
    let agree = (c.write_pages.ensures.stays told).agree in
    ap (λ (p : Pages). page_bytes (p q)) here ∙ sym (clean_map p1 bs q c.in_ok-write_pages.ensures.clean agree) ∙ ap (λ (p : Pages). map_of p bs q) (sym (c.sync.ensures.same told))

pub returns-clause-crash : goal.returns-clause-crash
returns-clause-crash g c told =
    let d = g.P.PageDisk in
    let old = c.args.self.now.disk in
    let m : ℕ → List ℕ = map_of (d.pages old) c.deref_mut.result.now.buffers.items in
    let m1 : ℕ → List ℕ = map_of (d.pages c.write_pages.new.disk) c.write_pages.new.buffers.items in
    subst (λ (r : Room). CrashLeaves (IsMixture (map_of (d.pages old) r.buffers.items) (map_of (d.pages old) r.buffers.items)) d.images d.moment d.left_at old c.sync.new.disk) c.deref_mut.ensures.value
    (mixtures_then d.images d.moment d.left_at old c.write_pages.new.disk c.sync.new.disk m m1 m (c.write_pages.ensures.stays told).map (c.write_pages.ensures.crash told) (c.sync.ensures.crash told m1 m))

pub returns-in_err-sync-clause-crash : goal.returns-in_err-sync-clause-crash
returns-in_err-sync-clause-crash g c told =
    let d = g.P.PageDisk in
    let old = c.args.self.now.disk in
    let m : ℕ → List ℕ = map_of (d.pages old) c.deref_mut.result.now.buffers.items in
    let m1 : ℕ → List ℕ = map_of (d.pages c.write_pages.new.disk) c.write_pages.new.buffers.items in
    subst (λ (r : Room). CrashLeaves (IsMixture (map_of (d.pages old) r.buffers.items) (map_of (d.pages old) r.buffers.items)) d.images d.moment d.left_at old c.sync.new.disk) c.deref_mut.ensures.value
    (mixtures_then d.images d.moment d.left_at old c.write_pages.new.disk c.sync.new.disk m m1 m (c.write_pages.ensures.stays told).map (c.write_pages.ensures.crash told) (c.sync.ensures.crash told m1 m))
