use Rattle.std.proofs.Common.{subst, sym, rules}
use Rattle.session_run.specs.Rounds.{AllRan, HaveRun}
use Rattle.session_run.proofs.InTurn.{kept_apart}
use Rattle.session_run.proofs.Rounding.{written_back}
use Rattle.session_run.proofs.round.run_members.Goals as goal

pub returns : goal.returns
returns g c =
    let h = c.args.hall.now in
    let xs = c.args.members.now.items in
    let ys = c.run_beside.new.members in
    let same = c.as_mut_slice-all.ensures.value in
    let ran : AllRan g.K.LineKeeper h c.args.banks c.args.names.now c.args.round.now xs ys = subst (λ zs. AllRan g.K.LineKeeper h c.args.banks c.args.names.now c.args.round.now zs ys) same c.run_beside.ensures in
    subst (HaveRun g.K.LineKeeper h c.args.banks c.args.names.now c.args.round.now c.args.kept.now c.args.kept.now xs) (sym (written_back c.args.members.now.len xs ys ran.count (search rules)))
    (kept_apart g.K.LineKeeper h c.args.banks c.args.names.now c.args.round.now c.args.kept.now xs ys ran)
