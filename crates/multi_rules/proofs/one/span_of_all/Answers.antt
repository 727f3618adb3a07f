use Rattle.std.proofs.Common.{◌≡◌, ◌+◌, ◌<◌, length, refl, take, arith}
use Rattle.tx_events.specs.declared.multi.Member.{Member}
use Rattle.tx_model.specs.declared.reply.MemberVerdict.{MemberVerdict}
use Rattle.report_law.specs.MultiLines.{IsTold}
use Rattle.multi_rules.specs.declared.taken.Taken.{Taken}
use Rattle.multi_rules.specs.Telling.{AreToldBy, IsToldBy}
use Rattle.multi_rules.proofs.Between.{none_between}
use Rattle.multi_rules.proofs.Zips.{all_between, both_between, same_between, zip_length, zip_more}
use Rattle.multi_rules.proofs.one.span_of_all.Goals as goal

pub returns-then-members-told : goal.returns-then-members-told
returns-then-members-told g c =
    let h = c.args.places.now.events in
    let base = c.args.places.now.base in
    none_between (AreToldBy base h g.of c.args.members.now c.args.told.now) c.args.taken.now
    (λ t z. c.if-members-told.true (zip_length (IsTold base g.of.ids h g.of.round t.place) c.args.members.now c.args.told.now z))

pub loop-number-init : goal.loop-number-init
loop-number-init g c = record {
  same = c.if-members-told.false;
  between = all_between (λ (t : Taken). Unit {0}) c.args.taken.now (length c.args.taken.now) refl (λ t. tt);
}

pub loop-number-preserved : goal.loop-number-preserved
loop-number-preserved g c =
    let h = c.args.places.now.events in
    let base = c.args.places.now.base in
    let n = c.loop-number.number in
    let members = c.args.members.now in
    let told = c.args.told.now in
    let m : Member = c.index-members-number.result in
    let v : MemberVerdict = c.index-told-number.result in
    let low : n < length members = c.loop-number-test.true in
    let same : length members ≡ length told = c.loop-number.invariant.same in
    let low_too : n < length told = omega arith in
    record {
      same = same;
      between = same_between (λ (t : Taken). AreToldBy base h g.of (take n members) (take n told) t × IsToldBy base h g.of m v t) (AreToldBy base h g.of (take (n + 1) members) (take (n + 1) told)) c.args.taken.now c.and-span.result
          (λ t. let z = zip_more (IsTold base g.of.ids h g.of.round t.place) members told n m v low low_too c.index-members-number.is c.index-told-number.is in (z.1, z.0))
          (both_between (AreToldBy base h g.of (take n members) (take n told)) (IsToldBy base h g.of m v) c.args.taken.now c.loop-number.span c.span_of.result c.and-span.result c.loop-number.invariant.between c.span_of.ensures c.and-span.ensures);
    }
