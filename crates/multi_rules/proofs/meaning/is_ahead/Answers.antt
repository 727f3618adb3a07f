use Rattle.std.proofs.Common.{◌^◌, ◌≤◌, sym, subst, arith}
use Rattle.std.proofs.lemmas.Bool.Decides.{nat_tests}
use Rattle.multi_rules.proofs.Meanings.{ahead_is}
use Rattle.multi_rules.proofs.meaning.is_ahead.Goals as goal

pub returns : goal.returns
returns c =
    let i = ahead_is c.args.next c.args.m.number in (
      λ t. let l : 2 ^ 31 ≤ c.offset_near.result = grind (arith, nat_tests) in i.1 (subst (λ n. 2 ^ 31 ≤ n) c.offset_near.ensures l),
      λ z. let l : 2 ^ 31 ≤ c.offset_near.result = subst (λ n. 2 ^ 31 ≤ n) (sym c.offset_near.ensures) (i.0 z) in grind (arith, nat_tests),
    )
