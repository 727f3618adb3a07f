use Rattle.std.proofs.Common.{ap, subst, sym, arith, length, ◌∷◌, [], length-append}
use Rattle.std.specs.List.{All}
use Rattle.std.proofs.lemmas.List.Elements.{All-push}
use Rattle.parts_bench.specs.Turns.{IsReady}
use Rattle.parts_bench.proofs.group_turns.players_below.Goals as goal

pub loop-number-preserved : goal.loop-number-preserved
loop-number-preserved c =
    let i = c.loop-number.invariant in
    let xs = c.loop-number.players.items in
    let x = c.in_ok-player.player in
    let its = c.push_reserved.ensures.items in
    record {
      idle = c.player_of.ensures.idle;
      few = omega (arith, i.few, ap length its, length-append xs (x ∷ []));
      room = (let e = c.push_reserved.ensures.capacity in omega (arith, i.room, e));
      each = subst (All (IsReady c.args.list.now)) (sym its) (All-push (IsReady c.args.list.now) xs x i.each c.in_ok-player.ensures.ready);
    }
