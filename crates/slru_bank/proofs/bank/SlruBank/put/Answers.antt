use Rattle.std.proofs.Common.{◌≤◌, List, arith, length, subst, sym, ℕ}
use Rattle.slru_bank.specs.Bank.{AllAgree, IsPage, map_of, placed, puts_after}
use Rattle.slru_bank.specs.Crash.{SameMap}
use Rattle.slru_bank.specs.Calls.{pages_of}
use Rattle.slru_bank.proofs.PageBytes.{put_stays}
use Rattle.slru_bank.specs.declared.bank.Room.{Room}
use Rattle.slru_bank.proofs.bank.SlruBank.put.Goals as goal

pub returns-clause-ok : goal.returns-clause-ok
returns-clause-ok g c told =
    let pages = g.P.PageDisk.pages in
    let m : ℕ → List ℕ = pages_of c.args.self.now in
    let m1 : ℕ → List ℕ = map_of (pages c.open.new.self.disk) c.deref_mut.result.now.buffers.items in
    let m2 : ℕ → List ℕ = map_of (pages c.open.new.self.disk) c.put_first.new.buffers.items in
    let same = subst (λ (r : Room). SameMap m (map_of (pages c.open.new.self.disk) r.buffers.items)) (sym c.deref_mut.ensures.value) (c.open.ensures.same told) in
    puts_after m m1 m2 c.args.page (λ (l : List ℕ). placed l c.args.at c.args.from.now) same (c.put_first.ensures.puts (pages c.open.new.self.disk))

pub returns-clause-page : goal.returns-clause-page
returns-clause-page g c told =
    let pages = g.P.PageDisk.pages in
    let same = subst (λ (r : Room). SameMap (pages_of c.args.self.now) (map_of (pages c.open.new.self.disk) r.buffers.items)) (sym c.deref_mut.ensures.value) (c.open.ensures.same told) in
    let was = subst (λ (l : List ℕ). IsPage l) (same c.args.page) (c.put_first.ensures.page (pages c.open.new.self.disk)) in
    put_stays c.args.page c.args.at c.args.from.now (pages_of c.args.self.now) (map_of (pages c.open.new.self.disk) c.put_first.new.buffers.items) c.requires (λ i. omega (arith, c.type_inv.from i)) was (returns-clause-ok g c told)

pub invariant_of-self : goal.invariant_of-self
invariant_of-self g c =
    let pages = g.P.PageDisk.pages in
    let same = sym c.deref_mut.ensures.value in
    record {
      some = subst (λ (n : ℕ). 1 ≤ n) (sym c.put_first.ensures.long) (subst (λ (r : Room). 1 ≤ length r.buffers.items) same c.open.new.self.some);
      distinct = c.put_first.ensures.distinct;
      agree = λ told. c.put_first.ensures.agree (pages c.open.new.self.disk) (subst (λ (r : Room). AllAgree (pages c.open.new.self.disk) r.buffers.items) same (c.open.new.self.agree told));
    }
