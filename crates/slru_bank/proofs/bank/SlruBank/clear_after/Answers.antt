use Rattle.std.proofs.Common.{◌≡◌, ◌≤◌, List, ℕ, Bool, false, ap, length, rules, subst, sym, ◌∙◌}
use Rattle.tx_events.specs.PageOrder.{page_precedes}
use Rattle.tx_events.specs.PageWindow.{precedes_itself}
use Rattle.slru_bank.specs.Calls.{pages_of}
use Rattle.slru_bank.specs.Removal.{cleared_from, MayDrop}
use Rattle.slru_bank.proofs.RemovalLists.{drop_same, on_err}
use Rattle.slru_bank.proofs.ZeroBytes.{gone_crash}
use Rattle.slru_bank.specs.declared.bank.Room.{Room}
use Rattle.slru_bank.specs.Bank.{AllAgree, PutsPage, map_of}
use Rattle.slru_bank.proofs.bank.SlruBank.clear_after.Goals as goal

pub returns-in_err-load-clause-bank : goal.returns-in_err-load-clause-bank
returns-in_err-load-clause-bank g c =
    let d = g.P.PageDisk in
    let gone : ℕ → Bool = page_precedes g.O.PageRule.shape g.O.PageRule.per_page c.args.page in
    let m : ℕ → List ℕ = pages_of c.args.self.now in
    let m1 : ℕ → List ℕ = pages_of c.remove.new.self in
    let m2 : ℕ → List ℕ = pages_of c.load.new.self in
    record {
      sweeps = record { last = c.load.ensures.last ∙ c.remove.ensures.last; fault = λ is. search rules; count = search rules };
      cutoff = c.load.ensures.cutoff ∙ c.remove.ensures.cutoff;
      err = λ told. on_err (MayDrop gone m m2) c.from_residual-in_err-load.result (drop_same gone m m1 m2 (c.remove.ensures.any told) (c.load.ensures.same told));
      crash = λ told. gone_crash d.images d.moment d.left_at gone m m1 c.args.self.now.disk c.remove.new.self.disk c.load.new.self.disk (c.remove.ensures.any told) (c.remove.ensures.crash told) (c.load.ensures.crash told);
    }

pub returns-clause-bank : goal.returns-clause-bank
returns-clause-bank g c =
    let d = g.P.PageDisk in
    let gone : ℕ → Bool = page_precedes g.O.PageRule.shape g.O.PageRule.per_page c.args.page in
    let m : ℕ → List ℕ = pages_of c.args.self.now in
    let m1 : ℕ → List ℕ = pages_of c.remove.new.self in
    record {
      sweeps = record { last = ap (λ (r : Room). r.last) c.deref_mut.ensures.value ∙ (c.load.ensures.last ∙ c.remove.ensures.last); fault = λ is. search rules; count = search rules };
      cutoff = ap (λ (r : Room). r.cutoff) c.deref_mut.ensures.value ∙ (c.load.ensures.cutoff ∙ c.remove.ensures.cutoff);
      err = λ told. tt;
      crash = λ told. gone_crash d.images d.moment d.left_at gone m m1 c.args.self.now.disk c.remove.new.self.disk c.load.new.self.disk (c.remove.ensures.any told) (c.remove.ensures.crash told) (c.load.ensures.crash told);
    }

pub invariant_of-self : goal.invariant_of-self
invariant_of-self g c =
    let pages = g.P.PageDisk.pages in
    let same = sym c.deref_mut.ensures.value in
    record {
      some = subst (λ (n : ℕ). 1 ≤ n) (sym c.clear_first.ensures.long) (subst (λ (r : Room). 1 ≤ length r.buffers.items) same c.load.new.self.some);
      distinct = c.clear_first.ensures.distinct;
      agree = λ told. c.clear_first.ensures.agree (pages c.load.new.self.disk) (subst (λ (r : Room). AllAgree (pages c.load.new.self.disk) r.buffers.items) same (c.load.new.self.agree told));
    }

pub returns-clause-ok : goal.returns-clause-ok
returns-clause-ok g c told =
    let pages = g.P.PageDisk.pages in
    let shape = g.O.PageRule.shape in
    let n : ℕ = g.O.PageRule.per_page in
    let page : ℕ = c.args.page in
    let disk = c.load.new.self.disk in
    let puts = subst (λ (r : Room). PutsPage page (cleared_from c.args.at (map_of (pages disk) r.buffers.items page)) (map_of (pages disk) r.buffers.items) (map_of (pages disk) c.clear_first.new.buffers.items)) c.deref_mut.ensures.value (c.clear_first.ensures.puts (pages disk)) in
    let same = c.load.ensures.same told in
    let drops = c.in_ok-remove.ensures.ok told in
    let itself : page_precedes shape n page page ≡ false = precedes_itself shape n page in
    record {
      here = puts.here ∙ ap (cleared_from c.args.at) (same page ∙ drops.stay page itself);
      zeros = λ q within taken. puts.others q (λ e. let both : page_precedes shape n page q ≡ false = ap (page_precedes shape n page) e ∙ itself in absurd cc) ∙ same q ∙ drops.zeros q within taken;
      stay = λ q differs kept. puts.others q differs ∙ same q ∙ drops.stay q kept;
    }

-- the load writes a buffered page alone, and no removed page is buffered
pub returns-clause-absent : goal.returns-clause-absent
returns-clause-absent g c told q within taken = c.load.ensures.others told q (c.in_ok-remove.ensures.unbuffered q within taken) ∙ c.in_ok-remove.ensures.absent told q within taken
