use Rattle.std.proofs.Common.{ℕ, Bool, ◌∙◌, arith}
use Rattle.slru_bank.specs.Bank.{map_of}
use Rattle.slru_bank.specs.Removal.{removes}
use Rattle.slru_bank.proofs.RemovalLists.{blank_all, drop_then}
use Rattle.slru_bank.proofs.removal.blank_all.Goals as goal

pub loop-i-preserved : goal.loop-i-preserved
loop-i-preserved g c =
    let gone : ℕ → Bool = removes g.O.PageRule.shape g.O.PageRule.per_page c.args.removal in
    let was = c.loop-i.invariant in
    let now = c.blank_one.ensures in
    record {
      long = now.long ∙ was.long;
      within = omega arith;
      blank = now.blank was.blank;
      distinct = now.distinct;
      agree = λ pages a. now.agree pages (was.agree pages a);
      map = λ pages. drop_then gone (map_of pages c.args.buffers.now) (map_of pages c.loop-i.buffers) (map_of pages c.blank_one.new.buffers) (was.map pages) (now.map pages);
    }

pub returns-clause-blank : goal.returns-clause-blank
returns-clause-blank g c = blank_all (removes g.O.PageRule.shape g.O.PageRule.per_page c.args.removal) c.loop-i.buffers c.loop-i.i c.loop-i-test.false c.loop-i.invariant.blank
