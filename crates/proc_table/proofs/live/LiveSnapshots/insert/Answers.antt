use Rattle.std.proofs.Common.{List, Some, ◌∙◌, ap, cond, refl}
use Rattle.tx_events.specs.Events.{same_name}
use Rattle.tx_events.specs.Horizon.{LiveSnap}
use Rattle.counted_map.proofs.Counted.{on_err}
use Rattle.proc_table.specs.Lives.{HoldsLive, with_xmin, xmin_under}
use Rattle.proc_table.proofs.LiveSteps.{kept_after, kept_same, holds_more, holds_same}
use Rattle.proc_table.proofs.live.LiveSnapshots.insert.Goals as goal

pub returns-in_err-count_more-clause-err : goal.returns-in_err-count_more-clause-err
returns-in_err-count_more-clause-err c =
    on_err ((ss : List LiveSnap) → HoldsLive ss c.args.self.now → HoldsLive ss (record { sessions = c.args.self.now.sessions; xmins = c.count_more.new.counts })) c.from_residual.result
    (λ ss h. holds_same ss c.args.self.now _ h (λ t ns. refl) (c.in_err-count_more.ensures.same (with_xmin ss) h.xmins))

pub returns-in-Ok-clause-ok : goal.returns-in-Ok-clause-ok
returns-in-Ok-clause-ok c = λ ss h free.
    let r : LiveSnap = record { session = c.args.session; name = c.args.name.now; xmin = c.args.xmin } in
    holds_more ss c.args.self.now _ r h free
    (kept_after c.args.self.now.sessions.items c.args.session c.index_mut.result.now c.put.new.self c.args.name.now (Some c.args.xmin) c.requires.within
    (λ ns.
    c.in-Ok.ensures.ok ns
    ∙ ap (λ m. cond (same_name c.args.name.now ns) (Some c.args.xmin) (xmin_under ns m)) c.index_mut.ensures.value))
    (c.in_ok-count_more.ensures.more (with_xmin ss) h.xmins)

pub returns-in-Err-clause-err : goal.returns-in-Err-clause-err
returns-in-Err-clause-err c = λ ss h.
    holds_same ss c.args.self.now _ h
    (kept_same c.args.self.now.sessions.items c.args.session c.index_mut.result.now c.put.new.self c.requires.within (λ ns. c.in-Err.ensures.err ns ∙ ap (xmin_under ns) c.index_mut.ensures.value))
    (c.count_less.ensures (with_xmin ss) (c.in_ok-count_more.ensures.more (with_xmin ss) h.xmins))
