use Rattle.std.proofs.Common.{subst, sym, rules}
use Rattle.engine_bench.specs.Crews.{AllWent}
use Rattle.engine_bench.proofs.Crewing.{written_back}
use Rattle.engine_bench.proofs.crew.work.Goals as goal

pub returns : goal.returns
returns g c =
    let h = c.args.hall.now in
    let banks = c.args.banks in
    let xs = c.args.members.now.items in
    let ys = c.work_beside.new.members in
    let went : AllWent h banks xs ys = subst (λ zs. AllWent h banks zs ys) c.as_mut_slice-all.ensures.value c.work_beside.ensures in
    subst (AllWent h banks xs) (sym (written_back c.args.members.now.len xs ys went.count (search rules))) went
