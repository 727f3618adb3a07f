use Rattle.std.proofs.Common.{sym, ap, ◌∙◌}
use Rattle.std.specs.Ordering.{is_eq}
use Rattle.counted_map.proofs.Places.{counts_less_in_map, counts_less_in_place}
use Rattle.counted_map.proofs.CountedMap.remove.Goals as goal

pub returns-then-is_eq : goal.returns-then-is_eq
returns-then-is_eq g c = λ f h. counts_less_in_place g.K.Ord.cmp g.met.K.Ord.total c.args.self.now c.in-Some.own c.one_less-self.result f c.args.key h c.in-Some.is (sym (c.is_eq.ensures ∙ ap is_eq c.cmp.ensures) ∙ c.if-is_eq.true) c.one_less-self.ensures.less c.one_less-self.ensures.some

pub returns-else-is_eq : goal.returns-else-is_eq
returns-else-is_eq g c = λ f h. counts_less_in_map g.K.Ord.cmp g.met.K.Ord.total c.args.self.now c.in-Some.own c.count_less.new.counts f c.args.key h c.in-Some.is (sym (c.is_eq.ensures ∙ ap is_eq c.cmp.ensures) ∙ c.if-is_eq.false) c.count_less.ensures
