use Rattle.std.proofs.Common.{refl}
use Rattle.script_rounds.proofs.Weaving.{none_stands, woven_none}
use Rattle.script_rounds.proofs.woven.Woven.new.Goals as goal

pub invariant_of-result : goal.invariant_of-result
invariant_of-result c = none_stands 0 c.new-2.result.items c.new.result refl c.new-2.ensures.items

pub returns : goal.returns
returns c = woven_none c.new-2.result.items c.new.result c.new-2.ensures.items c.new.ensures
