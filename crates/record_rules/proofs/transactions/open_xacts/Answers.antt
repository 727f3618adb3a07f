use Rattle.std.proofs.Common.{◌≡◌, ◌<◌, suc, false, List, length, get_or, ap, sym, ◌∙◌, subst, arith}
use Rattle.tx_events.proofs.ListSteps.{length_push}
use Rattle.record_rules.specs.declared.transactions.OpenXact.{OpenXact}
use Rattle.record_rules.specs.Ends.{IsOpenXact}
use Rattle.record_rules.proofs.OpenAtEnd.{one_xact_more}
use Rattle.record_rules.proofs.transactions.open_xacts.Goals as goal

pub loop-session-preserved : goal.loop-session-preserved
loop-session-preserved c =
    let size = c.loop-session.invariant.size in
    let longer : length c.push.new.self.items ≡ suc (length c.loop-session.xacts.items) = ap length c.in_ok-push.ensures.items ∙ length_push c.loop-session.xacts.items c.in_ok-xact.xact in
    record {
      size = omega (arith, size, longer);
      each = λ lines a s l d.
          let below : c.loop-session.session < 64 = c.loop-session-test.true in
          subst (λ (xs : List OpenXact). IsOpenXact c.args.replay.now.events lines s (get_or xs s d)) (sym c.in_ok-push.ensures.items)
          (one_xact_more c.args.replay.now.events lines c.loop-session.xacts.items c.in_ok-xact.xact c.loop-session.session size (c.loop-session.invariant.each lines a)
          (c.in_ok-xact.ensures lines (a.each c.loop-session.session below (record { commit = false; abort = false }))) s l d);
    }

pub returns : goal.returns
returns c = λ lines a.
    let end : c.loop-session.session ≡ 64 = omega arith in
    record {
      size = c.loop-session.invariant.size ∙ end;
      each = λ s l d. c.loop-session.invariant.each lines a s (omega (arith, end, l)) d;
    }
