use Rattle.std.proofs.Common.{refl, sym, ◌∙◌}
use Rattle.wal_core.proofs.NextRecs.{unlawful, wrong_number, may_if, may_not}
use Rattle.wal_core.proofs.next_rec.may_come_next.Goals.{then-not-is_lawful-via-then-not-is_lawful, then-not-is_lawful-via-else-not-is_lawful+then-not-carries_number}
use Rattle.wal_core.proofs.next_rec.may_come_next.Goals as goal

pub returns-then-not-is_lawful : goal.returns-then-not-is_lawful
returns-then-not-is_lawful c = elim c.then-not-is_lawful.branch [
  | then-not-is_lawful-via-then-not-is_lawful w ↦
      unlawful c.args.counters c.args.number c.args.rec.now (sym c.is_lawful.ensures.test ∙ w.if-not-is_lawful.true)
  | then-not-is_lawful-via-else-not-is_lawful+then-not-carries_number w ↦
      wrong_number c.args.counters c.args.number c.args.rec.now (sym w.carries_number.ensures ∙ w.if-not-carries_number.true)
]

pub returns-in-Some : goal.returns-in-Some
returns-in-Some c =
    may_if c.args.counters c.args.number c.args.rec.now c.in-Some.after c.is_base.result c.in-Some.ensures.some
    (sym c.is_lawful.ensures.test ∙ c.if-not-is_lawful.false) (sym c.carries_number.ensures ∙ c.if-not-carries_number.false) (c.in-Some.ensures.first refl) c.is_base.ensures

pub returns-in-None : goal.returns-in-None
returns-in-None c = may_not c.args.counters c.args.number c.args.rec.now (c.in-None.ensures.none refl)
