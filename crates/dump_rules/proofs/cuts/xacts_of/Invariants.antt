use Rattle.std.proofs.Common.{◌∷◌, take}
use Rattle.std.specs.Ordering.{nat_cmp}
use Rattle.record_rules.specs.Firsts.{HasKeys}
use Rattle.dump_rules.specs.Cutting.{cuts_xact, first_cut}
use Rattle.dump_rules.proofs.cuts.xacts_of.Given as goal

abbrev pub invariant-loop-rec : goal.invariant-loop-rec
invariant-loop-rec l = HasKeys nat_cmp (cuts_xact l.base.oldest) (first_cut l.base ∷ take l.rec-index l.recs) l.xacts
