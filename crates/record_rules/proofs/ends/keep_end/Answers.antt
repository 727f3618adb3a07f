use Rattle.std.proofs.Common.{◌≡◌, ℕ, ◌==◌, Some, cond, length, refl, ap, ◌∙◌, arith}
use Rattle.tx_events.specs.Running.{open_ids}
use Rattle.near_map.specs.Near.{value_of}
use Rattle.record_rules.specs.declared.ends.Ended.{Ended}
use Rattle.record_rules.specs.declared.ends.Ends.{Ends}
use Rattle.record_rules.proofs.Ending.{end_kept}
use Rattle.record_rules.proofs.ends.keep_end.Goals as goal

pub returns : goal.returns
returns c = λ kept.
    let e : Ended = record { how = c.args.how; from = c.len-from.result; end = c.len-end.result } in
    let n : Ends = record { by_top = c.put.new.self; ids = c.push_open.new.ids } in
    let from : c.len-from.result ≡ length c.args.ends.now.ids.items = omega (arith, c.len-from.ensures, c.args.ends.now.ids.ok.0) in
    let end : c.len-end.result ≡ length c.push_open.new.ids.items = omega (arith, c.len-end.ensures, c.push_open.new.ids.ok.0) in
    end_kept c.args.replay.now.events c.args.how c.args.by c.args.top e c.args.ends.now n (open_ids c.args.by.session c.args.replay.now.events) kept refl c.in_ok-push_open.ensures from end refl
    (λ q. c.in_ok-put.ensures q ∙ ap (λ (k : ℕ). cond (k == q) (Some e) (value_of c.args.ends.now.by_top q)) c.number.ensures.value)
