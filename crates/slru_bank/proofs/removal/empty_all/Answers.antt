use Rattle.std.proofs.Common.{◌∙◌, arith}
use Rattle.slru_bank.proofs.removal.empty_all.Goals as goal

pub loop-i-preserved : goal.loop-i-preserved
loop-i-preserved g c =
    let was = c.loop-i.invariant in
    let now = c.empty_one.ensures in
    record {
      long = now.long ∙ was.long;
      within = omega arith;
      keep = now.keep was.keep;
      distinct = now.distinct;
      blank = now.blank;
      agree = λ pages a. now.agree pages (was.agree pages a);
      map = λ pages absent q. now.map pages absent q ∙ was.map pages absent q;
    }
