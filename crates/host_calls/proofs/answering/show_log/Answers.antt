use Rattle.std.proofs.Common.{◌≡◌, ◌∙◌, List, ap, arith, length, refl, sym, subst, take, ℕ}
use Rattle.std.proofs.lemmas.List.{length-take, with_items_is}
use Rattle.hall.specs.Calls.{start_of, view}
use Rattle.notes.specs.Lists.{at as list_at}
use Rattle.tx_core.specs.Locks.{log_lock}
use Rattle.tx_model.specs.declared.report.DumpOf.TheVariants as dumps
use Rattle.tx_model.specs.declared.reply.Reply.{Reply}
use Rattle.host_calls.specs.Dumps.{IsAnswered, ShowsBytes}
use Rattle.host_calls.proofs.FaultsTold.{bytes_counted, log_counted}
use Rattle.host_calls.proofs.Logging.{log_bytes}
use Rattle.host_calls.proofs.answering.show_log.Goals as goal

pub returns-in_err-bytes-clause-stays : goal.returns-in_err-bytes-clause-stays
returns-in_err-bytes-clause-stays g c = record { home = c.requires.home; cluster = refl; seen = refl; parked = λ n s q. q }

pub returns-in-Ok-clause-reply : goal.returns-in-Ok-clause-reply
returns-in-Ok-clause-reply g c =
    let told = c.bytes_reply.ensures in
    let sized = c.in_ok-bytes.ensures.len in
    let all = ap length c.as_mut_slice.ensures.value in
    let count = c.in-Ok.ensures.count in
    let cut = ap length c.truncate.ensures.items in
    subst (λ (r : Reply). IsAnswered c.args.hall.now c.args.host.now dumps.Log c.args.size r) (sym told.reply) (told.bytes, omega (arith, simp length-take at cut))

pub returns-in-Ok-clause-bytes : goal.returns-in-Ok-clause-bytes
returns-in-Ok-clause-bytes g c =
    let start = start_of c.args.hall.now in
    let seen = (view c.args.host.now.pass).seen in
    let now = c.dump_log.new.into in
    let size : length c.as_mut_slice.result.now ≡ c.args.size = c.as_mut_slice.ensures.len ∙ c.in_ok-bytes.ensures.len in
    let long : length now ≡ c.in_ok-bytes.bytes.len = c.dump_log.auto.into ∙ c.as_mut_slice.ensures.len in
    let is : c.truncate.new.self.items ≡ take c.in-Ok.count now = c.truncate.ensures.items ∙ ap (λ (t : List ℕ). take c.in-Ok.count t) (with_items_is c.in_ok-bytes.bytes now long) in
    subst (ShowsBytes g.L.LogDisk g.P.PageDisk start seen dumps.Log c.args.at c.args.size) (sym c.bytes_reply.ensures.reply)
    (λ tells. log_bytes start (list_at seen log_lock) c.args.at c.args.size c.in-Ok.count c.as_mut_slice.result.now now c.truncate.new.self.items size is (c.in-Ok.ensures.bytes tells))

pub returns-in-Ok-clause-fault : goal.returns-in-Ok-clause-fault
returns-in-Ok-clause-fault g c =
    let start = start_of c.args.hall.now in
    let seen = (view c.args.host.now.pass).seen in
    bytes_counted g.L.LogDisk g.P.PageDisk start seen c.bytes_reply.result c.truncate.new.self.items c.bytes_reply.ensures.reply

pub returns-in-Err-clause-fault : goal.returns-in-Err-clause-fault
returns-in-Err-clause-fault g c =
    log_counted g.L.LogDisk g.P.PageDisk (start_of c.args.hall.now) (view c.args.host.now.pass).seen c.in-Err.ensures.fault.1
