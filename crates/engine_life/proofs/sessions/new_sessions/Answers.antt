use Rattle.std.proofs.Common.{[], ap, length, length-append, subst, sym, ◌+◌, ◌∙◌, ◌≤◌, ◌∷◌}
use Rattle.std.proofs.lemmas.List.Elements.{All-push}
use Rattle.std.specs.List.{All}
use Rattle.engine_host.specs.Hosts.{IsNewSession}
use Rattle.engine_life.proofs.sessions.new_sessions.Goals as goal

pub loop-preserved : goal.loop-preserved
loop-preserved c =
    let i = c.loop.invariant in
    let push = c.push_reserved.ensures in
    let before = c.loop.all.items in
    record {
      count = ap length push.items ∙ length-append before (c.new_session.result ∷ []) ∙ ap (λ n. n + 1) i.count;
      each = subst (All IsNewSession) (sym push.items) (All-push IsNewSession before c.new_session.result i.each c.new_session.ensures);
      room = subst (λ n. c.args.count ≤ n) (sym push.capacity) i.room;
    }
