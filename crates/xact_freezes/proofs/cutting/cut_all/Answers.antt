use Rattle.std.proofs.Common.{Ok, Err, subst, arith}
use Rattle.hall.specs.Calls.{view, start_of}
use Rattle.tx_events.specs.declared.event.By.{By}
use Rattle.multi_banks.proofs.Adding.{truncated_later}
use Rattle.engine_parts.specs.Sessions.{by_at}
use Rattle.xact_freezes.specs.Trims.{AreCut, IsCutMet, MayTrim}
use Rattle.xact_freezes.proofs.Going.{command_kept}
use Rattle.xact_freezes.proofs.Letting.{cut_more, xmin_later}
use Rattle.xact_freezes.proofs.TrimSteps.{trim_then, visited_still}
use Rattle.xact_freezes.proofs.cutting.cut_all.Goals as goal

pub loop-bank-init : goal.loop-bank-init
loop-bank-init g c = record {
  visited = visited_still c.args.hall.now c.args.banks (MayTrim {T = Unit {0}} (Ok tt)) c.args.caller.now c.requires.step;
  cut = λ b lt. absurd (omega arith);
}

pub cut_bank-requires-clause-told : goal.cut_bank-requires-clause-told
cut_bank-requires-clause-told g c =
    let m = c.args.multis.now in
    truncated_later (start_of c.args.hall.now) (view c.args.caller.now.pass).seen (view c.loop-bank.caller.pass).seen c.args.found.now.oldest m.oldest_multi m.oldest_offset c.loop-bank.invariant.visited.went.grows c.requires.told

pub cut_bank-requires-clause-xmin : goal.cut_bank-requires-clause-xmin
cut_bank-requires-clause-xmin g c = xmin_later (start_of c.args.hall.now) (view c.args.caller.now.pass).seen (view c.loop-bank.caller.pass).seen c.args.found.now.oldest_xmin c.loop-bank.invariant.visited.went.grows c.requires.xmin

pub loop-bank-preserved : goal.loop-bank-preserved
loop-bank-preserved g c =
    let hall = c.args.hall.now in
    let start = start_of hall in
    let i = c.loop-bank.invariant in
    let old = c.args.caller.now in
    let t = c.loop-bank.caller in
    let w = c.cut_bank.new.caller in
    let bank = c.loop-bank.bank in
    let found = c.args.found.now in
    let m = c.args.multis.now in
    let v = i.visited in
    record {
      visited = trim_then hall c.args.banks {T = Unit {0}} {U = Unit {0}} tt (Ok tt) old t w v c.in-Ok.ensures.visited;
      cut = cut_more start (view t.pass).seen (view w.pass).seen (by_at old.number old.session.levels.commands) found.oldest found.oldest_xmin m.oldest_multi m.oldest_offset bank c.in-Ok.ensures.visited.went.grows i.cut
          (subst (λ (z : By). AreCut start (view w.pass).seen z found.oldest found.oldest_xmin m.oldest_multi m.oldest_offset bank) (command_kept old.number t.number old.session t.session v.number v.session) c.in-Ok.ensures.cut);
    }

pub returns-in-Err-clause-visited : goal.returns-in-Err-clause-visited
returns-in-Err-clause-visited g c = trim_then c.args.hall.now c.args.banks {T = Unit {0}} {U = Unit {0}} tt (Err c.in-Err.refusal) c.args.caller.now c.loop-bank.caller c.cut_bank.new.caller c.loop-bank.invariant.visited c.in-Err.ensures.visited

pub returns-in-Err-clause-met : goal.returns-in-Err-clause-met
returns-in-Err-clause-met g c =
    let old = c.args.caller.now in
    let t = c.loop-bank.caller in
    let v = c.loop-bank.invariant.visited in
    subst (λ (z : By). IsCutMet (view c.cut_bank.new.caller.pass).seen z c.in-Err.refusal) (command_kept old.number t.number old.session t.session v.number v.session) c.in-Err.ensures.met
