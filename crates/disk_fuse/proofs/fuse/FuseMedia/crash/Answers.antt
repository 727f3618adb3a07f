use Rattle.std.proofs.Common.{◌∙◌}
use Rattle.disk_fuse.proofs.FuseMoves.{on_ok_map, all_fell, fell_within, fused_same_banks, same_banks}
use Rattle.disk_fuse.proofs.fuse.FuseMedia.crash.Goals as goal

pub returns-in-Ok-clause-left : goal.returns-in-Ok-clause-left
returns-in-Ok-clause-left g c told told_2 =
    let log = g.M.Log.LogDisk in let pages = g.M.Pages.PageDisk in
    on_ok_map c.crash.result (λ each next given. all_fell log.reads log.images log.faults pages.pages pages.images pages.faults c.args.self.now.at c.past_crash-self.result c.in-Ok.refused c.args.volumes next c.in-Ok.inner given.0
    c.in-Ok.ensures.unfused given.2 (each given.0 given.1)) (c.crash.ensures.left told told_2)

pub returns-in-Ok-clause-banks : goal.returns-in-Ok-clause-banks
returns-in-Ok-clause-banks g c next given =
    fused_same_banks c.args.self.now.at c.past_crash-self.result c.in-Ok.refused given.0 next given.2 c.args.volumes c.in-Ok.inner c.in-Ok.refused
    c.in-Ok.ensures.unfused (c.crash.ensures.banks given.0 given.1)

pub returns-in-Err-clause-banks : goal.returns-in-Err-clause-banks
returns-in-Err-clause-banks g c next given = same_banks c.args.volumes next (given ∙ c.in-Err.ensures.back)

pub returns-in-Ok-clause-fell : goal.returns-in-Ok-clause-fell
returns-in-Ok-clause-fell g c =
    on_ok_map c.crash.result (λ each next given. fell_within c.args.self.now.at c.past_crash-self.result c.in-Ok.refused given.0 next given.2 (g.M.Media.falls c.args.how) c.args.volumes c.in-Ok.inner c.in-Ok.refused
    c.in-Ok.ensures.unfused (each given.0 given.1)) c.crash.ensures.fell
