use Rattle.std.proofs.Common.{ℕ, ◌+◌, ◌<◌, ◌≤◌, Err, ap, length, subst, sym}
use Rattle.script_source.proofs.Coming.{refused_long, refused_read}
use Rattle.script_source.proofs.source.refused_behind.Goals as goal

pub returns-in-Ok-clause-refused : goal.returns-in-Ok-clause-refused
returns-in-Ok-clause-refused g c front size fault =
    let ok = c.in-Ok.ensures.ok in
    refused_read front (g.S.Source.left c.args.source.now) (g.S.Source.left c.pass_rest.new.source) _ _ c.args.line c.args.kind c.refused.result fault
    (ok.0, ok.1, ok.2, subst (λ (n : ℕ). n + length ok.0 ≤ 16777216) (sym size) ok.3) c.refused.ensures

pub returns-in-Err-TooLong-clause-refused : goal.returns-in-Err-TooLong-clause-refused
returns-in-Err-TooLong-clause-refused g c front size fault =
    let long = c.in-Err-TooLong.ensures.long (ap Err c.in-Err-TooLong.field-0-is) in
    refused_long front (g.S.Source.left c.args.source.now) (g.S.Source.left c.pass_rest.new.source) _ _ c.refused-in-Err-TooLong.result
    (long.0, long.1, subst (λ (n : ℕ). 16777216 < n + length long.0) (sym size) long.2) c.refused-in-Err-TooLong.ensures
