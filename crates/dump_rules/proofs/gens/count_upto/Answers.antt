use Rattle.std.proofs.Common.{rules, of_calls, nat_le}
use Rattle.std.proofs.lemmas.Fn.{always_returns_same}
use Rattle.dump_rules.specs.declared.gens.GenMark.{GenMark}
use Rattle.dump_rules.proofs.Marking.{begun_last, parted}
use Rattle.dump_rules.proofs.gens.count_upto.Goals as goal

pub returns-clause-last : goal.returns-clause-last
returns-clause-last c =
    let gens = c.args.gens.now in
    let o = c.args.offset in
    let at = c.partition_point.ensures.partitioned (λ (g : GenMark). nat_le g.offset o) (always_returns_same _ _ _ (λ a r f k. search (rules, of_calls))) (λ i j d l m e. parted gens o c.requires.rise c.requires.ends i j d l m e) in
    begun_last gens o c.partition_point.result c.requires.rise c.requires.ends c.partition_point.ensures.bound at.0 at.1
