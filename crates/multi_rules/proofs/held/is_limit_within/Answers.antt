use Rattle.std.proofs.Common.{rules, of_calls, ◌≤◌, arith}
use Rattle.std.proofs.lemmas.Bool.{false≢true}
use Rattle.std.proofs.lemmas.Bool.Decides.{nat_tests}
use Rattle.std.proofs.lemmas.Fn.{always_returns_same}
use Rattle.multi_rules.specs.Limits.{is_before}
use Rattle.multi_rules.proofs.Ordered.{not_within, parted, within_iff}
use Rattle.multi_rules.proofs.held.is_limit_within.Goals as goal

pub returns-then-at-limit : goal.returns-then-at-limit
returns-then-at-limit c =
    let xs = c.args.limits.now in
    let n = c.args.limit in let from = c.args.from in let to = c.args.to in
    let first = c.partition_point-first.result in
    let point = c.partition_point-first.ensures.partitioned (is_before n from) (always_returns_same _ _ _ (λ a r f k. search (rules, of_calls))) (λ i j d l m e. parted xs n from c.requires i j d l m e) in
    let k = c.in-Some.ensures.lookup in
    let i = within_iff xs n from to first c.requires point.0 point.1 c.in-Some.at.now k.3.0 k.3.1 in
    let same = c.if-at-limit.true in (
      λ t. let l : c.in-Some.at.now.place ≤ to = grind (arith, nat_tests) in i.0 (same, l),
      λ w. let l = (i.1 w).1 in grind (arith, nat_tests),
    )

pub returns-else-at-limit : goal.returns-else-at-limit
returns-else-at-limit c =
    let xs = c.args.limits.now in
    let n = c.args.limit in let from = c.args.from in let to = c.args.to in
    let first = c.partition_point-first.result in
    let point = c.partition_point-first.ensures.partitioned (is_before n from) (always_returns_same _ _ _ (λ a r f k. search (rules, of_calls))) (λ i j d l m e. parted xs n from c.requires i j d l m e) in
    let k = c.in-Some.ensures.lookup in
    let i = within_iff xs n from to first c.requires point.0 point.1 c.in-Some.at.now k.3.0 k.3.1 in
    let other = c.if-at-limit.false in
    (λ t. absurd (other (grind (arith, nat_tests))), λ w. absurd (other (i.1 w).0))

pub returns-in-None : goal.returns-in-None
returns-in-None c =
    let xs = c.args.limits.now in
    let n = c.args.limit in let from = c.args.from in let to = c.args.to in
    let first = c.partition_point-first.result in
    let point = c.partition_point-first.ensures.partitioned (is_before n from) (always_returns_same _ _ _ (λ a r f k. search (rules, of_calls))) (λ i j d l m e. parted xs n from c.requires i j d l m e) in
    (λ t. absurd (false≢true t), λ w. absurd (not_within xs n from to first c.requires point.0 point.1 c.in-None.ensures.lookup.3 w))
