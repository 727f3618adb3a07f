use Rattle.std.proofs.Common.{List, [], ap, length, refl, subst, sym, ℕ, ◌∙◌}
use Rattle.std.specs.Prelude.{IfOk, Result}
use Rattle.script_rounds.specs.contracts.steps.StepsLineKeeper.TheImpl as steps_keeper
use Rattle.tx_events.specs.declared.sequence.Memory.{Memory}
use Rattle.session_run.specs.Going.{HasRunPartOf}
use Rattle.session_run.specs.OneLife.{HasRunLife, IsOpened, MayRunIn}
use Rattle.session_run.proofs.RoundSteps.{kept_text}
use Rattle.session_run.proofs.run.run_part.Goals as goal
use Rattle.session_run.proofs.run.run_part.Goals.{in-Err+in-None-1, in-Err+in-Some+in-Idle-1, in-Err+in-Some+in-Lists-1, in-Ok}

pub run_life-closed-requires-clause-may : goal.run_life-closed-requires-clause-may
run_life-closed-requires-clause-may g c κs within = subst (MayRunIn (length c.args.names.now)) (sym c.into_inner-life.ensures) c.requires.may

pub returns : goal.returns
returns g c = record {
  lived = λ k b faults mounted begun.
      let l = g.L.LogDisk in
      let p = g.P.PageDisk in
      let opened = subst (IsOpened k b faults mounted) (sym c.into_inner-life.ensures) begun in
      let names = c.args.names.now in
      let closed = c.run_life-closed.result.0 in
      let kept = c.run_life-closed.new.kept in
      let went = HasRunPartOf l p names c.args.part k b mounted closed c.same-base.result in
      record {
        start_is = c.by-start.ensures ∙ (opened.begun.host.start ∙ opened.begun.start_is);
        over = elim c.match-ran.branch [
          | in-Ok w ↦
              let ran = subst (λ (t : List ℕ). HasRunLife l p steps_keeper.ghosts k b mounted names c.args.part t kept closed) c.none-text.ensures (rw w.in-Ok.is at (c.run_life-closed.ensures.ran k b faults mounted opened)) in
              subst (λ (steps : Result (List ℕ) Memory). IfOk steps went) (sym w.steps-is) (record {
                steps = ran.steps;
                lived = ran.lived;
                left = ran.left;
                number = ran.number;
                base_is = c.same-base.ensures ∙ ap (λ x. x.base) opened.begun.cluster;
                text_is = kept_text steps_keeper.ghosts names [] kept ran.steps ran.kept_is (λ text n. refl) (λ text lines. refl) (λ text dump. refl);
              })
          | in-Err+in-None-1 w ↦ subst (λ (steps : Result (List ℕ) Memory). IfOk steps went) (sym w.steps-is) tt
          | in-Err+in-Some+in-Idle-1 w ↦ subst (λ (steps : Result (List ℕ) Memory). IfOk steps went) (sym w.steps-is) tt
          | in-Err+in-Some+in-Lists-1 w ↦ subst (λ (steps : Result (List ℕ) Memory). IfOk steps went) (sym w.steps-is) tt
        ];
      };
}
