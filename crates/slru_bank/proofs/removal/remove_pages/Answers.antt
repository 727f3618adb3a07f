use Rattle.std.proofs.Common.{ℕ, Bool, arith, subst}
use Rattle.disk_core.specs.Pages.{Pages}
use Rattle.slru_bank.specs.Crash.{no_call, one_call, runs_then}
use Rattle.slru_bank.specs.Removal.{removes, MayLack}
use Rattle.slru_bank.proofs.RemovalLists.{nothing_lacks, lack_then, passed_row}
use Rattle.slru_bank.proofs.removal.remove_pages.Goals as goal

pub loop-page-init : goal.loop-page-init
loop-page-init g c =
    let d = g.P.PageDisk in
    let gone : ℕ → Bool = removes g.O.PageRule.shape g.O.PageRule.per_page c.args.removal in
    record {
      absent = λ told q within passed taken. absurd passed;
      others = λ told. nothing_lacks gone (d.pages c.args.disk.now);
      crash = λ told. no_call d.images d.moment d.left_at (MayLack gone) c.args.disk.now (nothing_lacks gone) (λ x left. g.met.P.PageDisk.only_now c.args.disk.now x told left);
      count = omega arith;
    }

pub loop-page-preserved : goal.loop-page-preserved
loop-page-preserved g c =
    let d = g.P.PageDisk in
    let gone : ℕ → Bool = removes g.O.PageRule.shape g.O.PageRule.per_page c.args.removal in
    let p0 : Pages = d.pages c.loop-page.disk in
    let p2 : Pages = d.pages c.remove_if.new.disk in
    let was = c.loop-page.invariant in
    record {
      absent = λ told q within passed taken.
          let lack : MayLack gone p0 p2 = subst (λ (p : Pages). MayLack gone p p2) (c.after.ensures.same told) (c.remove_if.ensures.others told) in
          let least = rw c.in-Some.is at (c.in_ok-page.ensures.next told) in
          passed_row gone p0 p2 c.loop-page.last c.in-Some.page c.in_ok-end.end q (was.absent told) least lack (c.in_ok-end.ensures.absent told) c.in_ok-end.ensures.stay within passed taken;
      others = λ told.
          let lack : MayLack gone p0 p2 = subst (λ (p : Pages). MayLack gone p p2) (c.after.ensures.same told) (c.remove_if.ensures.others told) in
          lack_then gone (d.pages c.args.disk.now) p0 p2 (was.others told) lack;
      crash = λ told.
          let after = one_call d.images d.moment d.left_at (MayLack gone) c.loop-page.disk c.after.new.self (nothing_lacks gone) (c.after.ensures.time told) (λ x left. g.met.P.PageDisk.only_now c.loop-page.disk x told left)
          (λ x left. (x, c.after.ensures.crash told x left, nothing_lacks gone x)) in
          let so_far = runs_then d.images d.moment d.left_at (MayLack gone) (MayLack gone) (MayLack gone) c.args.disk.now c.loop-page.disk c.after.new.self (λ x y s. s) (lack_then gone) (was.crash told) after in
          runs_then d.images d.moment d.left_at (MayLack gone) (MayLack gone) (MayLack gone) c.args.disk.now c.after.new.self c.remove_if.new.disk (λ x y s. s) (lack_then gone) so_far (c.remove_if.ensures.crash told);
      count = omega (arith, was.count, c.after.ensures.cause.0, c.remove_if.ensures.cause.0);
    }
