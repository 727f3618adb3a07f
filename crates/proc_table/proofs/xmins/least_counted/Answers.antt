use Rattle.std.proofs.Common.{◌≡◌, map, min, ◌<◌, ◌≤◌, sym, ◌∙◌, ap, arith}
use Rattle.std.specs.List.{fold}
use Rattle.tx_events.specs.Horizon.{LiveSnap}
use Rattle.proc_table.specs.Lives.{with_xmin}
use Rattle.std.proofs.lemmas.Map.Keys.{ge_from_not_lt}
use Rattle.proc_table.proofs.XminTallies.{none_counted, tally_least, lt_from_cmp}
use Rattle.proc_table.proofs.xmins.least_counted.Goals as goal

pub returns-then-lt : goal.returns-then-lt
returns-then-lt c = λ ss t.
    let below : c.in-Some.xmin < c.args.from = lt_from_cmp _ _ (sym c.lt.ensures ∙ c.if-lt.true) in
    let is = c.in-Some.ensures (with_xmin ss) t in
    let least : fold min c.args.from (map (λ (s : LiveSnap). s.xmin) ss) ≡ min c.args.from c.in-Some.xmin = tally_least ss c.in-Some.xmin c.args.from is.0 is.1 in
    let one : min c.args.from c.in-Some.xmin ≡ c.in-Some.xmin = omega arith in
    sym (least ∙ one)

pub returns-else-lt : goal.returns-else-lt
returns-else-lt c = λ ss t.
    let from : c.args.from ≤ c.in-Some.xmin = ge_from_not_lt _ _ (sym c.lt.ensures ∙ c.if-lt.false) in
    let is = c.in-Some.ensures (with_xmin ss) t in
    let least : fold min c.args.from (map (λ (s : LiveSnap). s.xmin) ss) ≡ min c.args.from c.in-Some.xmin = tally_least ss c.in-Some.xmin c.args.from is.0 is.1 in
    let one : min c.args.from c.in-Some.xmin ≡ c.args.from = omega arith in
    sym (least ∙ one)

pub returns-in-None : goal.returns-in-None
returns-in-None c = λ ss t. sym (ap (λ ss. fold min c.args.from (map (λ (s : LiveSnap). s.xmin) ss)) (none_counted ss (c.in-None.ensures (with_xmin ss) t)))
