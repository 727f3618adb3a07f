use Rattle.std.proofs.Common.{List, ap, append_assoc, length, subst, sym, take, ℕ, ◌++◌, ◌+◌, ◌∙◌, ◌≡◌}
use Rattle.std.proofs.KnownBytes.{Appends-trans}
use Rattle.std.proofs.Math.Seq.{take-append-add}
use Rattle.std.proofs.lemmas.Result.{on_err_weaker, on_ok_weaker}
use Rattle.std.specs.Io.KnownBytes.{Appends}
use Rattle.script_rounds.proofs.Fronts.{front_within, where_err}
use Rattle.script_rounds.proofs.pieces.hand_both.Goals as goal

pub returns-in_err-hand-clause-front : goal.returns-in_err-hand-clause-front
returns-in_err-hand-clause-front g c =
    let f = c.in_err-hand.ensures.front in
    let before = c.args.kept.now.items in
    let k = front_within f.0 (before ++ c.args.first.now) c.args.second.now in
    where_err c.from_residual.result
    (k.0, subst (Appends (g.K.Sink.held c.args.sink.now) (g.K.Sink.held c.hand.new.sink)) (sym k.1 ∙ ap (take k.0) (append_assoc before c.args.first.now c.args.second.now)) f.1)

-- what was written, and what is kept behind it
both : (w k v n before first second : List ℕ) → w ++ k ≡ before ++ first → v ++ n ≡ k ++ second → w ++ v ++ n ≡ before ++ (first ++ second)
both w k v n before first second e f =
    append_assoc w v n ∙ ap (λ (t : List ℕ). w ++ t) f ∙ sym (append_assoc w k second) ∙ ap (λ (t : List ℕ). t ++ second) e ∙ append_assoc before first second

pub returns-clause-ok : goal.returns-clause-ok
returns-clause-ok g c =
    let held = g.K.Sink.held in
    let one = c.in_ok-hand.ensures.ok in
    on_ok_weaker c.hand-2.result
    (λ two. (
      one.0 ++ two.0,
      both one.0 c.hand.new.kept.items two.0 c.hand-2.new.kept.items c.args.kept.now.items c.args.first.now c.args.second.now one.1 two.1,
      Appends-trans (held c.args.sink.now) (held c.hand.new.sink) (held c.hand-2.new.sink) one.0 two.0 one.2 two.2,
    ))
    c.hand-2.ensures.ok

pub returns-clause-front : goal.returns-clause-front
returns-clause-front g c =
    let held = g.K.Sink.held in
    let one = c.in_ok-hand.ensures.ok in
    let kept = c.hand.new.kept.items in
    let first = c.args.first.now in
    let second = c.args.second.now in
    on_err_weaker c.hand-2.result
    (λ f. (
      length one.0 + f.0,
      subst (Appends (held c.args.sink.now) (held c.hand-2.new.sink))
          (sym (take-append-add one.0 (kept ++ second) f.0)
          ∙ ap (take (length one.0 + f.0)) (sym (append_assoc one.0 kept second) ∙ ap (λ (t : List ℕ). t ++ second) one.1 ∙ append_assoc c.args.kept.now.items first second))
          (Appends-trans (held c.args.sink.now) (held c.hand.new.sink) (held c.hand-2.new.sink) one.0 (take f.0 (kept ++ second)) one.2 f.1),
    ))
    c.hand-2.ensures.front
