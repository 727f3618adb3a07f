use Rattle.std.proofs.Common.{◌≤◌, List, ℕ, Bool, length, subst, sym, ◌∙◌}
use Rattle.disk_core.specs.Pages.{Pages}
use Rattle.slru_bank.specs.declared.buffer.Buffer.{Buffer}
use Rattle.slru_bank.specs.Bank.{AllAgree, map_of}
use Rattle.slru_bank.specs.Crash.{wider, IsMixtureOrGone}
use Rattle.slru_bank.specs.Removal.{removes, MayDrop, MayLack}
use Rattle.slru_bank.proofs.RemovalLists.{kept_unbuffered, drop_then, drop_same, lack_map, lack_agree, lack_all}
use Rattle.slru_bank.proofs.ZeroBytes.{gone_mixture}
use Rattle.slru_bank.specs.declared.bank.Room.{Room}
use Rattle.slru_bank.proofs.bank.SlruBank.remove.Goals as goal

pub invariant_of-self : goal.invariant_of-self
invariant_of-self g c =
    let gone : ℕ → Bool = removes g.O.PageRule.shape g.O.PageRule.per_page c.args.removal in
    let pages = g.P.PageDisk.pages in
    record {
      some = subst (λ (n : ℕ). 1 ≤ n) (sym c.blank_removed.ensures.long) (subst (λ (r : Room). 1 ≤ length r.buffers.items) (sym c.deref_mut-room.ensures.value) c.args.self.now.some);
      distinct = c.blank_removed.ensures.distinct;
      agree = λ told. lack_agree gone (pages c.args.self.now.disk) (pages c.remove_pages.new.disk) c.blank_removed.new.buffers.items (c.remove_pages.ensures.others told) c.blank_removed.ensures.blank
          (c.blank_removed.ensures.agree (pages c.args.self.now.disk) (subst (λ (r : Room). AllAgree (pages c.args.self.now.disk) r.buffers.items) (sym c.deref_mut-room.ensures.value) (c.args.self.now.agree told)));
    }

pub invariant_of-self-2 : goal.invariant_of-self-2
invariant_of-self-2 g c =
    let gone : ℕ → Bool = removes g.O.PageRule.shape g.O.PageRule.per_page c.args.removal in
    let pages = g.P.PageDisk.pages in
    record {
      some = subst (λ (n : ℕ). 1 ≤ n) (sym (c.empty_removed.ensures.long ∙ c.blank_removed.ensures.long)) (subst (λ (r : Room). 1 ≤ length r.buffers.items) (sym c.deref_mut-room.ensures.value) c.args.self.now.some);
      distinct = c.empty_removed.ensures.distinct;
      agree = λ told. c.empty_removed.ensures.agree (pages c.remove_pages.new.disk)
          (lack_agree gone (pages c.args.self.now.disk) (pages c.remove_pages.new.disk) c.blank_removed.new.buffers.items (c.remove_pages.ensures.others told) c.blank_removed.ensures.blank
          (c.blank_removed.ensures.agree (pages c.args.self.now.disk) (subst (λ (r : Room). AllAgree (pages c.args.self.now.disk) r.buffers.items) (sym c.deref_mut-room.ensures.value) (c.args.self.now.agree told))));
    }

-- some are gone after the walk
dropped : (gone : ℕ → Bool) (p0 p1 : Pages) (bs bs1 : List Buffer) → MayDrop gone (map_of p0 bs) (map_of p0 bs1) → MayLack gone p0 p1 → MayDrop gone (map_of p0 bs) (map_of p1 bs1)
dropped gone p0 p1 bs bs1 blank lack = drop_then gone (map_of p0 bs) (map_of p0 bs1) (map_of p1 bs1) blank (lack_map gone p0 p1 bs1 lack)

pub returns-in_err-remove_pages-clause-any : goal.returns-in_err-remove_pages-clause-any
returns-in_err-remove_pages-clause-any g c told =
    let gone : ℕ → Bool = removes g.O.PageRule.shape g.O.PageRule.per_page c.args.removal in
    let pages = g.P.PageDisk.pages in
    let p0 : Pages = pages c.args.self.now.disk in
    let p1 : Pages = pages c.remove_pages.new.disk in
    subst (λ (r : Room). MayDrop gone (map_of p0 r.buffers.items) (map_of p1 c.blank_removed.new.buffers.items)) c.deref_mut-room.ensures.value
    (dropped gone p0 p1 c.deref_mut-room.result.now.buffers.items c.blank_removed.new.buffers.items (c.blank_removed.ensures.map p0) (c.remove_pages.ensures.others told))

pub returns-in_err-remove_pages-clause-crash : goal.returns-in_err-remove_pages-clause-crash
returns-in_err-remove_pages-clause-crash g c told =
    let d = g.P.PageDisk in
    let gone : ℕ → Bool = removes g.O.PageRule.shape g.O.PageRule.per_page c.args.removal in
    let m : ℕ → List ℕ = map_of (d.pages c.args.self.now.disk) c.args.self.now.room.value.buffers.items in
    wider d.images d.moment d.left_at (MayLack gone) (IsMixtureOrGone gone m m) c.args.self.now.disk c.remove_pages.new.disk (gone_mixture gone m m) (c.remove_pages.ensures.crash told)

pub returns-clause-any : goal.returns-clause-any
returns-clause-any g c told =
    let gone : ℕ → Bool = removes g.O.PageRule.shape g.O.PageRule.per_page c.args.removal in
    let pages = g.P.PageDisk.pages in
    let p0 : Pages = pages c.args.self.now.disk in
    let p1 : Pages = pages c.remove_pages.new.disk in
    let m : ℕ → List ℕ = map_of p0 c.args.self.now.room.value.buffers.items in
    drop_same gone m (map_of p1 c.blank_removed.new.buffers.items) (map_of p1 c.empty_removed.new.buffers.items)
    (subst (λ (r : Room). MayDrop gone (map_of p0 r.buffers.items) (map_of p1 c.blank_removed.new.buffers.items)) c.deref_mut-room.ensures.value
    (dropped gone p0 p1 c.deref_mut-room.result.now.buffers.items c.blank_removed.new.buffers.items (c.blank_removed.ensures.map p0) (c.remove_pages.ensures.others told)))
    (c.empty_removed.ensures.map p1 (c.in_ok-remove_pages.ensures.absent told))

pub returns-clause-ok : goal.returns-clause-ok
returns-clause-ok g c told =
    let gone : ℕ → Bool = removes g.O.PageRule.shape g.O.PageRule.per_page c.args.removal in
    let pages = g.P.PageDisk.pages in
    let p0 : Pages = pages c.args.self.now.disk in
    let p1 : Pages = pages c.remove_pages.new.disk in
    let same = c.empty_removed.ensures.map p1 (c.in_ok-remove_pages.ensures.absent told) in
    let some : MayDrop gone (map_of p0 c.args.self.now.room.value.buffers.items) (map_of p1 c.blank_removed.new.buffers.items) =
    subst (λ (r : Room). MayDrop gone (map_of p0 r.buffers.items) (map_of p1 c.blank_removed.new.buffers.items)) c.deref_mut-room.ensures.value
    (dropped gone p0 p1 c.deref_mut-room.result.now.buffers.items c.blank_removed.new.buffers.items (c.blank_removed.ensures.map p0) (c.remove_pages.ensures.others told)) in
    record {
      stay = λ q kept. same q ∙ some.stay q kept;
      zeros = λ q within taken. same q ∙ lack_all gone p1 c.blank_removed.new.buffers.items q (c.in_ok-remove_pages.ensures.absent told) c.blank_removed.ensures.blank within taken;
    }

pub returns-clause-crash : goal.returns-clause-crash
returns-clause-crash g c told =
    let d = g.P.PageDisk in
    let gone : ℕ → Bool = removes g.O.PageRule.shape g.O.PageRule.per_page c.args.removal in
    let m : ℕ → List ℕ = map_of (d.pages c.args.self.now.disk) c.args.self.now.room.value.buffers.items in
    wider d.images d.moment d.left_at (MayLack gone) (IsMixtureOrGone gone m m) c.args.self.now.disk c.remove_pages.new.disk (gone_mixture gone m m) (c.remove_pages.ensures.crash told)

pub returns-clause-unbuffered : goal.returns-clause-unbuffered
returns-clause-unbuffered g c q within taken = kept_unbuffered (removes g.O.PageRule.shape g.O.PageRule.per_page c.args.removal) c.empty_removed.new.buffers.items q c.empty_removed.ensures.keep taken
