use Rattle.std.proofs.Common.{ℕ, List, ◌+◌, ◌++◌, ◌∙◌, ap, append_assoc, arith, drop, length, subst, sym, take}
use Rattle.std.proofs.Math.Seq.{take-append-add}
use Rattle.std.proofs.lemmas.Result.{on_err_weaker, on_ok_weaker}
use Rattle.std.proofs.KnownBytes.{Appends-trans}
use Rattle.std.specs.Io.KnownBytes.{Appends}
use Rattle.script_rounds.proofs.Fronts.{front_within, where_err}
use Rattle.script_rounds.proofs.Spreading.{no_runs, run_first, run_rest, run_step, told_all, told_on, woven_last}
use Rattle.script_rounds.specs.Woven.{Piece, own_before, pieces_in, spread, woven}
use Rattle.script_rounds.proofs.woven.write_woven.Goals as goal

pub hand-requires : goal.hand-requires
hand-requires g c = run_first c.args.runs.now c.loop-run.run-index c.run-item.result c.loop-run.rest.now c.loop-run-test.true c.run-item.is c.loop-run.invariant.within

pub returns-in_err-rest-clause-front : goal.returns-in_err-rest-clause-front
returns-in_err-rest-clause-front g c =
    let held = g.K.Sink.held in
    let runs = c.args.runs.now in
    let i = c.loop-run.run-index in
    let run = c.run-item.result in
    let rest = c.loop-run.rest.now in
    let kept = c.loop-run.kept.items in
    let both = spread run rest in
    let more = woven (pieces_in (drop (i + 1) runs)) (drop (own_before run) rest) in
    let told = c.loop-run.invariant.told in
    let here = run_step runs i run rest c.loop-run-test.true c.run-item.is in
    let all = told_all told.0 kept both more (woven (pieces_in (drop i runs)) rest) (woven (pieces_in runs) c.args.own.now) told.1 here in
    let f = c.in_err-rest.ensures.front in
    let k = front_within f.0 (kept ++ both) more in
    where_err c.from_residual.result (
      length told.0 + k.0,
      subst (Appends (held c.args.sink.now) (held c.hand.new.sink))
          (ap (λ (t : List ℕ). told.0 ++ t) (sym k.1) ∙ sym (take-append-add told.0 (kept ++ both ++ more) k.0) ∙ ap (take (length told.0 + k.0)) (sym all))
          (Appends-trans (held c.args.sink.now) (held c.loop-run.sink) (held c.hand.new.sink) told.0 (take f.0 (kept ++ both)) told.2 f.1),
    )

pub loop-run-preserved : goal.loop-run-preserved
loop-run-preserved g c =
    let held = g.K.Sink.held in
    let runs = c.args.runs.now in
    let i = c.loop-run.run-index in
    let run = c.run-item.result in
    let rest = c.loop-run.rest.now in
    let behind = c.in_ok-rest.rest.now in
    let kept = c.loop-run.kept.items in
    let both = spread run rest in
    let more = woven (pieces_in (drop (i + 1) runs)) behind in
    let told = c.loop-run.invariant.told in
    let whole = woven (pieces_in runs) c.args.own.now in
    let left = c.in_ok-rest.ensures.rest in
    let here = run_step runs i run rest c.loop-run-test.true c.run-item.is ∙ ap (λ (t : List ℕ). both ++ woven (pieces_in (drop (i + 1) runs)) t) (sym left) in
    let all = told_all told.0 kept both more (woven (pieces_in (drop i runs)) rest) whole told.1 here in
    let done = c.in_ok-rest.ensures.ok in
    record {
      within = run_rest runs i run rest behind c.loop-run-test.true c.run-item.is c.loop-run.invariant.within left;
      later = omega (arith, c.loop-run.invariant.later, c.hand.ensures.cause.later);
      told = (
        told.0 ++ done.0,
        told_on told.0 done.0 c.hand.new.kept.items kept both more whole done.1 all,
        Appends-trans (held c.args.sink.now) (held c.loop-run.sink) (held c.hand.new.sink) told.0 done.0 told.2 done.2,
      );
    }

pub returns-clause-ok : goal.returns-clause-ok
returns-clause-ok g c =
    let held = g.K.Sink.held in
    let runs = c.args.runs.now in
    let told = c.loop-run.invariant.told in
    let kept = c.loop-run.kept.items in
    let rest = c.loop-run.rest.now in
    let last = ap (λ (ms : List Piece). woven ms rest) (no_runs runs c.loop-run.run-index c.loop-run-test.false) ∙ woven_last rest in
    let all = sym told.1 ∙ ap (λ (t : List ℕ). told.0 ++ kept ++ t) last ∙ append_assoc told.0 kept rest in
    on_ok_weaker c.pass.result
    (λ a. subst (Appends (held c.args.sink.now) (held c.pass.new.sink)) (sym all) (Appends-trans (held c.args.sink.now) (held c.loop-run.sink) (held c.pass.new.sink) told.0 (kept ++ rest) told.2 a))
    c.pass.ensures.ok

pub returns-clause-front : goal.returns-clause-front
returns-clause-front g c =
    let held = g.K.Sink.held in
    let runs = c.args.runs.now in
    let told = c.loop-run.invariant.told in
    let kept = c.loop-run.kept.items in
    let rest = c.loop-run.rest.now in
    let last = ap (λ (ms : List Piece). woven ms rest) (no_runs runs c.loop-run.run-index c.loop-run-test.false) ∙ woven_last rest in
    let all = sym told.1 ∙ ap (λ (t : List ℕ). told.0 ++ kept ++ t) last ∙ append_assoc told.0 kept rest in
    on_err_weaker c.pass.result
    (λ f. (
      length told.0 + f.0,
      subst (Appends (held c.args.sink.now) (held c.pass.new.sink)) (sym (take-append-add told.0 (kept ++ rest) f.0) ∙ ap (take (length told.0 + f.0)) (sym all))
          (Appends-trans (held c.args.sink.now) (held c.loop-run.sink) (held c.pass.new.sink) told.0 (take f.0 (kept ++ rest)) told.2 f.1),
    ))
    c.pass.ensures.front
