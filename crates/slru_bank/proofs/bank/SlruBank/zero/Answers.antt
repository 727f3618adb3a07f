use Rattle.std.proofs.Common.{◌≤◌, ℕ, subst, sym}
use Rattle.slru_bank.proofs.bank.SlruBank.zero.Goals as goal

pub invariant_of-self-2 : goal.invariant_of-self-2
invariant_of-self-2 g c = record {
  some = subst (λ (n : ℕ). 1 ≤ n) (sym c.blank_first.ensures.long) c.make_page.ensures.some;
  distinct = c.blank_first.ensures.distinct;
  agree = λ told. c.blank_first.ensures.agree (g.P.PageDisk.pages c.make_page.new.disk) (c.make_page.ensures.stays told).agree;
}
