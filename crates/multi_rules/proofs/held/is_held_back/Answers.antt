use Rattle.std.proofs.Common.{◌<◌, subst, sym, arith}
use Rattle.multi_rules.specs.Limits.{IsLimitWithin}
use Rattle.multi_rules.proofs.Ordered.{held_iff}
use Rattle.multi_rules.proofs.held.is_held_back.Goals as goal

pub returns-then-number : goal.returns-then-number
returns-then-number g c =
    let a = c.number.ensures.value in let b = c.number-2.ensures.value in
    let l = c.if-number.true in
    let past : c.args.limit < c.args.multi = omega arith in
    let i = held_iff g.h c.args.limits.now c.args.from c.args.to c.args.multi c.args.limit c.requires.0 c.requires.1.0 c.requires.1.1 past in
    let n = c.number-then-number.ensures.value in (
      λ t. i.0 (subst (λ k. IsLimitWithin c.args.limits.now k c.args.from c.args.to) n (c.is_limit_within.ensures.0 t)),
      λ y. c.is_limit_within.ensures.1 (subst (λ k. IsLimitWithin c.args.limits.now k c.args.from c.args.to) (sym n) (i.1 y)),
    )
