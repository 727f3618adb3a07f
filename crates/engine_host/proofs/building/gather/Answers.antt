use Rattle.std.proofs.Common.{[], ap, arith, length, map, refl, subst, sym, ◌∙◌}
use Rattle.tx_core.specs.declared.entry.Start.{Start}
use Rattle.engine_parts.specs.declared.part.Part.TheVariants as parts
use Rattle.engine_parts.specs.Parts.{IsLogOf, PartStands}
use Rattle.engine_parts.specs.Sessions.{AreGivenBefore}
use Rattle.engine_host.specs.Opening.{AreNew, at_gate, faults_behind, gate_behind, life_from}
use Rattle.engine_host.proofs.Starting.{all_stand, cons_new, inserted_first}
use Rattle.engine_host.proofs.building.gather.Goals as goal

-- With a ghost value the clauses of `requires` have no names: they stand in their order behind what is asked of
-- lifetimes.

pub returns-clause-parts : goal.returns-clause-parts
returns-clause-parts g c =
    let cluster = c.args.cluster in
    let life = c.life_note-start.ensures in
    let put = inserted_first c.args.locks.items c.insert-inserted.new.self.items (parts.Log c.args.log) c.insert-inserted.result c.insert-inserted.ensures.items (c.insert-inserted.ensures.succeeds (omega (arith, c.requires.1.1.1.1.1.0, c.requires.1.1.1.1.1.1.0))) in
    let all = subst (λ l. AreNew cluster g.begins 0 l) (sym put) (cons_new cluster g.begins (parts.Log c.args.log) c.args.locks.items (λ gate counts ends reached. (refl, subst (λ n. IsLogOf (life_from cluster (at_gate g.begins n) counts) c.args.log.value []) (sym ends) (c.requires.1.1.1.1.0 counts reached))) c.requires.1.1.1.1.1.1.1) in
    record {
      cluster = c.requires.1.1.0;
      banks = ap (λ (s : Start). s.banks) life;
      sessions = ap (λ (s : Start). s.sessions) life;
      base = ap (λ (s : Start). s.base) life;
      before = subst AreGivenBefore (sym life) c.requires.1.1.1.0;
      count = ap length put ∙ omega (arith, c.requires.1.1.1.1.1.0);
      stand = λ lock part at. subst (λ (s : Start). PartStands s lock part []) (sym life) (all_stand cluster g.begins c.insert-inserted.new.self.items all lock part at);
    }

pub returns-clause-faults : goal.returns-clause-faults
returns-clause-faults g c =
    ap (map faults_behind) (inserted_first c.args.locks.items c.insert-inserted.new.self.items (parts.Log c.args.log) c.insert-inserted.result c.insert-inserted.ensures.items (c.insert-inserted.ensures.succeeds (omega (arith, c.requires.1.1.1.1.1.0, c.requires.1.1.1.1.1.1.0))))

pub returns-clause-end : goal.returns-clause-end
returns-clause-end g c =
    ap gate_behind (inserted_first c.args.locks.items c.insert-inserted.new.self.items (parts.Log c.args.log) c.insert-inserted.result c.insert-inserted.ensures.items (c.insert-inserted.ensures.succeeds (omega (arith, c.requires.1.1.1.1.1.0, c.requires.1.1.1.1.1.1.0))))
